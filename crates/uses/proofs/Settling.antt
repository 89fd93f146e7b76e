-- After a settle each side was delivered all that the other one submitted.
use Rattle.std.proofs.Common.{◌≡◌, ℕ, zero, suc, ◌+◌, ◌≤◌, List, [], ◌∷◌, ◌++◌, length, take, drop, map, slice_get, Bool, true, false, Option, Some, None, refl, sym, ◌∙◌, ap, subst, arith, append_assoc, append-nil, length-append}
use Rattle.std.proofs.lemmas.List.{take-append-drop}
use Rattle.ssh_kex.specs.Exchange.{outgoing}
use Rattle.ssh_kex.specs.declared.config.Config.{Config}
use Rattle.ssh_kex.specs.declared.exchange.FinishedExchange.{FinishedExchange}
use Rattle.ssh_packet.proofs.Lemmas.{length_sealed, one_packet}
use Rattle.ssh_packet.specs.Sealing.{Item}
use Rattle.ssh_packet.specs.Stream.{Place, Reads, first_place, packet_at, place_after}
use Rattle.ssh_rules.specs.Headline.{IsLastMark, IsLink, half_of, submitted_by}
use Rattle.ssh_rules.specs.MessageTypes.{is_payload_type, type_of}
use Rattle.ssh_rules.specs.Parts.{ClientPairs, Secrets, ServerValues}
use Rattle.ssh_rules.specs.Run.{Effect, Effects, IsFirstMark}
use Rattle.ssh_rules.specs.Wire.{HasFront, IsWire, LiesWhole, carried_payloads}
use Rattle.ssh_rules.specs.declared.link.LinkReport.{LinkReport}
use Rattle.ssh_rules.specs.declared.link.Mark.{Mark}
use Rattle.ssh_rules.specs.declared.link.Step.{Step}
use Rattle.ssh_rules.specs.declared.link.Step.TheVariants.{Deliver, Rekey, Settle, Submit}
use Rattle.ssh_wire.specs.Lines.{id_line}
use Rattle.ssh_wire.specs.declared.side.Side.{Side}
use Rattle.ssh_wire.specs.declared.side.Side.TheVariants.{Client, Server}
use Rattle.uses.specs.Settled.{AllDelivered}

-- ---- fronts

front_all : {A : Type 0} (a b : List A) → HasFront a b → length a ≤ length b → b ≡ a
front_all {A} a b f l = go f.0 f.1 (omega (arith, ap length f.1, length-append b f.0, l)) where
  go : (more : List A) → b ++ more ≡ a → length more ≤ 0 → b ≡ a
  go [] e z = sym (append-nil b) ∙ e
  go (x ∷ more) e z = absurd (omega (arith, z))

-- no packet begins nothing
none_left : (at : Place) (i : Item) (more behind : List ℕ) → (packet_at at i ++ more) ++ behind ≡ [] → ⊥
none_left at i more behind e =
    omega (
      arith,
      ap length e,
      length-append (packet_at at i ++ more) behind,
      length-append (packet_at at i) more,
      length_sealed at.sealing at.number i,
    )

-- what is read of a front of some bytes is a front of what is read of them all
reads_front : (at : Option Place) (a b : List Item) (x y behind : List ℕ) → Reads at a x [] → Reads at b y []
    → x ++ behind ≡ y → HasFront b a
reads_front at [] b x y behind h k e = (b, refl)
reads_front None (i ∷ a) b x y behind h k e = absurd h
reads_front (Some at) (i ∷ a) [] x y behind h k e =
    absurd (none_left at i h.0 behind (ap (λ t. t ++ behind) (sym h.2) ∙ (e ∙ k)))
reads_front (Some at) (i ∷ a) (j ∷ b) x y behind h k e =
    let joined : packet_at at i ++ (h.0 ++ behind) ≡ packet_at at j ++ k.0 =
    sym (append_assoc (packet_at at i) h.0 behind) ∙ (ap (λ t. t ++ behind) (sym h.2) ∙ (e ∙ k.2)) in
    let one = one_packet at.sealing at.number i j (h.0 ++ behind) k.0 h.1 k.1 joined in
    let onward : Reads (place_after at i) b k.0 [] = subst (λ t. Reads (place_after at t) b k.0 []) (sym one.0) k.3 in
    let rest = reads_front (place_after at i) a b h.0 k.0 behind h.3 onward one.1 in
    (rest.0, let p : i ∷ (a ++ rest.0) ≡ j ∷ b = let q = one.0 in let r = rest.1 in cc in p)

-- what is read, without the bytes that are left
reads_alone : (at : Option Place) (a : List Item) (x y : List ℕ) → Reads at a x y
    → (p : List ℕ) × (x ≡ p ++ y) × Reads at a p []
reads_alone at [] x y h = ([], h, refl)
reads_alone None (i ∷ a) x y h = absurd h
reads_alone (Some at) (i ∷ a) x y h =
    let r = reads_alone (place_after at i) a h.0 y h.3 in (
      packet_at at i ++ r.0,
      h.2 ∙ (ap (λ t. packet_at at i ++ t) r.1 ∙ sym (append_assoc (packet_at at i) r.0 y)),
      (r.0, h.1, refl, r.2),
    )

-- what stands behind a line within the first n bytes is a front of all that stands behind it
cut_front : (line packets : List ℕ) (n : ℕ) → HasFront packets (drop (length line) (take n (line ++ packets)))
cut_front [] packets n = (drop n packets, take-append-drop n packets)
cut_front (b ∷ line) packets zero = (packets, refl)
cut_front (b ∷ line) packets (suc n) = cut_front line packets n

-- the payloads of some packets, and of more behind them
carried_more : (a more : List Item) → carried_payloads (a ++ more) ≡ carried_payloads a ++ carried_payloads more
carried_more [] more = refl
carried_more (i ∷ a) more = by (is_payload_type (type_of i)) refl (carried_more a more) where
  by : (b : Bool) → is_payload_type (type_of i) ≡ b → carried_payloads (a ++ more) ≡ carried_payloads a ++ carried_payloads more
      → carried_payloads ((i ∷ a) ++ more) ≡ carried_payloads (i ∷ a) ++ carried_payloads more
  by true e h = cc
  by false e h = cc

-- the payloads of a front
carried_front : (a b : List Item) → HasFront b a → HasFront (carried_payloads b) (carried_payloads a)
carried_front a b f = (carried_payloads f.0, sym (carried_more a f.0) ∙ ap carried_payloads f.1)

-- what lies whole in a part of a wire carries a front of what was submitted
whole_front : (side : Side) (config : Config) (kind : ℕ → Bool) (host : ℕ → Option (List ℕ)) (submitted : List (List ℕ))
    (exchanges : List FinishedExchange) (wire : List ℕ) (items part : List Item) (n : ℕ)
    → IsWire side config kind host submitted exchanges wire items → LiesWhole side config exchanges wire n part
    → HasFront submitted (carried_payloads part)
whole_front side config kind host submitted exchanges wire items part n w lies =
    let packets = w.reads.0 in
    let at : Option Place = Some (first_place (map (outgoing side) exchanges)) in
    let alone = reads_alone at part _ lies.0 lies.1.reads in
    let cut = cut_front (id_line config.id) packets n in
    let whole : drop (length (id_line config.id)) (take n wire) ++ cut.0 ≡ packets =
    ap (λ t. drop (length (id_line config.id)) (take n t) ++ cut.0) w.reads.1 ∙ cut.1 in
    let joined : alone.0 ++ (lies.0 ++ cut.0) ≡ packets =
    sym (append_assoc alone.0 lies.0 cut.0) ∙ (ap (λ t. t ++ cut.0) (sym alone.1) ∙ whole) in
    let front = reads_front at part items alone.0 packets (lies.0 ++ cut.0) alone.2 w.reads.2 joined in
    let carried = carried_front part items front in
    let all = w.payloads in
    (carried.0 ++ all.0, sym (append_assoc (carried_payloads part) carried.0 all.0) ∙ (ap (λ t. t ++ all.0) carried.1 ∙ all.1))

-- ---- counts

-- the last mark behind some steps that end with a settle, from the mark before them
record EndsSettled (steps : List Step) (m : Mark) (marks : List Mark) : Type 0 where
  last : Mark
  is_last : slice_get marks (length steps) ≡ Some last
  client : last.client.submitted ≡ m.client.submitted + length (submitted_by Client steps)
  server : last.server.submitted ≡ m.server.submitted + length (submitted_by Server steps)
  to_client : last.client.delivered ≡ last.server.submitted
  to_server : last.server.delivered ≡ last.client.submitted

-- what one step submits, by its effect
one_step : (step : Step) (cb sb : Option ℕ) (m m' : Mark) → Effect step cb sb m m'
    → (m'.client.submitted ≡ m.client.submitted + length (submitted_by Client (step ∷ [])))
    × (m'.server.submitted ≡ m.server.submitted + length (submitted_by Server (step ∷ [])))
one_step (Submit Client p) cb sb m m' e = (e.2, let s = ap (λ x. x.submitted) e.0 in omega (arith, s))
one_step (Submit Server p) cb sb m m' e = (let s = ap (λ x. x.submitted) e.0 in omega (arith, s), e.2)
one_step (Deliver Client n) cb sb m m' e = (let t = e.2 in omega (arith, t), let s = ap (λ x. x.submitted) e.0 in omega (arith, s))
one_step (Deliver Server n) cb sb m m' e = (let s = ap (λ x. x.submitted) e.0 in omega (arith, s), let t = e.2 in omega (arith, t))
one_step (Rekey Client) cb sb m m' e = (let t = e.2 in omega (arith, t), let s = ap (λ x. x.submitted) e.0 in omega (arith, s))
one_step (Rekey Server) cb sb m m' e = (let s = ap (λ x. x.submitted) e.0 in omega (arith, s), let t = e.2 in omega (arith, t))
one_step Settle cb sb m m' e = (let t = e.1 in omega (arith, t), let t = e.2 in omega (arith, t))

-- a step and those behind it
submitted_on : (side : Side) (step : Step) (steps : List Step) → length (submitted_by side (step ∷ steps))
    ≡ length (submitted_by side (step ∷ [])) + length (submitted_by side steps)
submitted_on Client (Submit Client p) steps = omega arith
submitted_on Client (Submit Server p) steps = omega arith
submitted_on Server (Submit Client p) steps = omega arith
submitted_on Server (Submit Server p) steps = omega arith
submitted_on side (Deliver s n) steps = omega arith
submitted_on side (Rekey s) steps = omega arith
submitted_on side Settle steps = omega arith

ends_settled : (before : List Step) (cb sb : Option ℕ) (m : Mark) (marks : List Mark)
    → Effects (before ++ Settle ∷ []) cb sb (m ∷ marks) → EndsSettled (before ++ Settle ∷ []) m (m ∷ marks)
ends_settled [] cb sb m [] h = absurd h
ends_settled [] cb sb m (m' ∷ []) h =
    let counts = one_step Settle _ _ m m' h.0 in
    record {
      last = m';
      is_last = refl;
      client = counts.0;
      server = counts.1;
      to_client = h.0.0.client_delivered;
      to_server = h.0.0.server_delivered;
    }
ends_settled [] cb sb m (m' ∷ m'' ∷ marks) h = absurd h.1
ends_settled (step ∷ before) cb sb m [] h = absurd h
ends_settled (step ∷ before) cb sb m (m' ∷ marks) h =
    let counts = one_step step _ _ m m' h.0 in
    let on = ends_settled before _ _ m' marks h.1 in
    record {
      last = on.last;
      is_last = on.is_last;
      client = omega (arith, on.client, counts.0, submitted_on Client step (before ++ Settle ∷ []));
      server = omega (arith, on.server, counts.1, submitted_on Server step (before ++ Settle ∷ []));
      to_client = on.to_client;
      to_server = on.to_server;
    }

-- ---- a link

pub all_delivered : (client_makes : ClientPairs) (server_makes : ServerValues) (agrees : Secrets) (client server : Config)
    (before : List Step) (report : LinkReport)
    → IsLink client_makes server_makes agrees client server (before ++ Settle ∷ []) report
    → AllDelivered (before ++ Settle ∷ []) report
all_delivered client_makes server_makes agrees client server before report link =
    go report.marks link.run.first link.run.effects link.last
  where
    steps : List Step
    steps = before ++ Settle ∷ []

    server_front : HasFront (submitted_by Client steps) report.server.delivered
    server_front = subst (HasFront (submitted_by Client steps)) (sym link.to_server.2)
        (whole_front _ _ _ _ _ _ _ _ _ _ link.client_wire link.to_server.1)

    client_front : HasFront (submitted_by Server steps) report.client.delivered
    client_front = subst (HasFront (submitted_by Server steps)) (sym link.to_client.2)
        (whole_front _ _ _ _ _ _ _ _ _ _ link.server_wire link.to_client.1)

    some_is : {A : Type 0} {x y : A} → Some x ≡ Some y → x ≡ y
    some_is e = cc

    go : (marks : List Mark)
        → (m : Mark) × (slice_get marks 0 ≡ Some m) × IsFirstMark (half_of Client client steps report.client) (half_of Server server steps report.server) m
        → Effects steps None None marks
        → (m : Mark) × (slice_get marks (length steps) ≡ Some m) × IsLastMark report.client m.client × IsLastMark report.server m.server
        → AllDelivered steps report
    go [] first effects last = let e = first.1 in cc
    go (m ∷ marks) first effects last =
        let end = ends_settled before None None m marks effects in
        let here : m ≡ first.0 = some_is first.1 in
        let there : end.last ≡ last.0 = some_is (sym end.is_last ∙ last.1) in
        let none_client : m.client.submitted ≡ 0 = ap (λ (x : Mark). x.client.submitted) here ∙ ap (λ x. x.submitted) first.2.of_client in
        let none_server : m.server.submitted ≡ 0 = ap (λ (x : Mark). x.server.submitted) here ∙ ap (λ x. x.submitted) first.2.of_server in
        let server_count : end.last.server.delivered ≡ length report.server.delivered =
        ap (λ (x : Mark). x.server.delivered) there ∙ last.3.delivered_is in
        let client_count : end.last.client.delivered ≡ length report.client.delivered =
        ap (λ (x : Mark). x.client.delivered) there ∙ last.2.delivered_is in
        record {
          to_server = front_all _ _ server_front (omega (arith, server_count, end.to_server, end.client, none_client));
          to_client = front_all _ _ client_front (omega (arith, client_count, end.to_client, end.server, none_server));
        }
