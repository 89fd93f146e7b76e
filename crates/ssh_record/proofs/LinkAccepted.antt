-- A record that is taken of a link has no fault.
use Rattle.std.proofs.Common.{◌≡◌, inl, inr, ℕ, zero, suc, ◌<◌, ◌≤◌, List, [], ◌∷◌, ◌++◌, length, take, map, slice_get, refl, sym, ◌∙◌, ap, subst, arith, append_assoc, Option, Some, None}
use Rattle.std.proofs.Math.Seq.{take-length}
use Rattle.std.proofs.lemmas.List.{length-take-le, take-map}
use Rattle.std.proofs.lemmas.Bool.{cases_lt}
use Rattle.std.proofs.lemmas.Option.{slice_get_within}
use Rattle.ssh_packet.specs.Sealing.{Item}
use Rattle.ssh_packet.specs.Stream.{Entries}
use Rattle.ssh_wire.specs.declared.side.Side.{Side}
use Rattle.ssh_wire.specs.declared.side.Side.TheVariants.{Client, Server}
use Rattle.ssh_negotiate.specs.declared.negotiation.Names.{Names}
use Rattle.ssh_kex.specs.Exchange.{outgoing}
use Rattle.ssh_kex.specs.Messages.{is_gex}
use Rattle.ssh_kex.specs.declared.config.Config.{Config}
use Rattle.ssh_kex.specs.declared.exchange.FinishedExchange.{FinishedExchange}
use Rattle.ssh_rules.specs.Headline.{IsLink, IsMadeOf, half_of, host_by, kind_by, submitted_by}
use Rattle.ssh_rules.specs.Parts.{ClientPairs, Secrets, ServerValues}
use Rattle.ssh_rules.specs.Run.{Effects, IsRun}
use Rattle.ssh_rules.specs.Valid.{HasSizes}
use Rattle.ssh_rules.specs.Wire.{HasFront, IsWire, LiesWhole, carried_payloads, exchange_block, epochs_ended}
use Rattle.ssh_rules.specs.declared.link.LinkReport.{LinkReport}
use Rattle.ssh_rules.specs.declared.link.Mark.{Mark}
use Rattle.ssh_rules.specs.declared.link.Step.{Step}
use Rattle.ssh_record.specs.Answers.{AreDelivered, FitsSent, HasBadMark, HasBadPacket, HaveNames, HaveSecrets, IsAcceptedRecord, IsAuditFault, LacksSecret, judged_record}
use Rattle.ssh_record.specs.Exchanges.{AreExchanges, AreNext, IsNext, ReadsWire}
use Rattle.ssh_record.specs.Links.{HasSecretsOf, LinkHasNoFault, LinkIsShown, ShowsLink, recording_of}
use Rattle.ssh_record.specs.Packets.{IsGoodWire, IsWireOf}
use Rattle.ssh_record.specs.Recordings.{JudgedRecord}
use Rattle.ssh_record.specs.Runs.{Runs, RunsBy, half_recorded, sent_at}
use Rattle.ssh_record.specs.declared.recording.SentPair.{SentPair}
use Rattle.ssh_record.specs.declared.report.AuditFault.{AuditFault}
use Rattle.ssh_record.specs.declared.report.AuditFault.TheVariants as fault
use Rattle.ssh_record.specs.declared.report.AuditReport.{AuditReport}
use Rattle.ssh_record.proofs.Good.{bad_not_good}
use Rattle.ssh_record.proofs.LinkBlocks.{made_next}
use Rattle.ssh_record.proofs.OneAnswer.{breaks_not, names_one}
use Rattle.ssh_record.proofs.OneList.{Each, each_on, next_one, no_next}
use Rattle.ssh_record.proofs.OneMarks.{lies_one, runs_one}
use Rattle.ssh_record.proofs.Readings.{front_none, front_cons}
use Rattle.ssh_record.proofs.RunFronts.{get_below, get_in_take, get_map, get_of_take, take_less}
use Rattle.ssh_record.proofs.WholeBlocks.{cut_entries, openings_enough, until}
use Rattle.ssh_record.proofs.Widening.{lies_wider, run_wider, wire_wider}

-- ---- lists

-- what is next each time begins the list of all
fronts_from : {X : Type 0} (Next : List X → X → Type 0) → ((b : List X) (x y : X) → Next b x → Next b y → x ≡ y) → (before xs ys : List X) → Each Next before xs → Each Next before ys → ((y : X) → Next (before ++ xs) y → ⊥) → HasFront xs ys
fronts_from Next one before xs [] h k s = front_none xs
fronts_from Next one before [] (y ∷ ys) h k s = absurd (s y (k 0 y refl))
fronts_from Next one before (x ∷ xs) (y ∷ ys) h k s =
    let first : x ≡ y = one (before ++ []) x y (h 0 x refl) (k 0 y refl) in
    let more = fronts_from Next one (before ++ x ∷ []) xs ys (each_on Next before x xs h)
    (subst (λ z. Each Next (before ++ z ∷ []) ys) (sym first) (each_on Next before y ys k))
    (λ z n. s z (subst (λ b. Next b z) (append_assoc before (x ∷ []) xs) n)) in
    front_cons y x ys xs (sym first) more

-- two lists whose elements at one place are one agree as far as both go
take_same : {A : Type 0} (k : ℕ) (xs ys : List A) → ((i : ℕ) (x y : A) → slice_get xs i ≡ Some x → slice_get ys i ≡ Some y → x ≡ y) → k ≤ length xs → k ≤ length ys → take k xs ≡ take k ys
take_same zero xs ys h l m = refl
take_same (suc k) [] ys h l m = absurd (omega (arith, l))
take_same (suc k) (x ∷ xs) [] h l m = absurd (omega (arith, m))
take_same (suc k) (x ∷ xs) (y ∷ ys) h l m = let p : x ≡ y = h 0 x y refl refl in let q = take_same k xs ys (λ i a b e f. h (suc i) a b e f) (omega (arith, l)) (omega (arith, m)) in cc

count_map : {A B : Type 0} (f : A → B) (xs : List A) → length (map f xs) ≡ length xs
count_map f [] = refl
count_map f (x ∷ xs) = ap suc (count_map f xs)

pub effects_length : (steps : List Step) (cb sb : Option ℕ) (marks : List Mark) → Effects steps cb sb marks → length marks ≡ suc (length steps)
effects_length [] cb sb [] h = absurd h
effects_length [] cb sb (m ∷ []) h = refl
effects_length [] cb sb (m ∷ m' ∷ marks) h = absurd h
effects_length (step ∷ steps) cb sb [] h = absurd h
effects_length (step ∷ steps) cb sb (m ∷ []) h = absurd h
effects_length (step ∷ steps) cb sb (m ∷ m' ∷ marks) h = ap suc (effects_length steps _ _ (m' ∷ marks) h.1)

-- under the first so many exchanges, and under one more
next_less : (j : JudgedRecord) (xs : List FinishedExchange) (n k : ℕ) (x : FinishedExchange) → k < n → IsNext j (take k (take n xs)) x → IsNext j (take k (take (suc n) xs)) x
next_less j xs n k x l h = subst (λ b. IsNext j b x) (take_less k n xs (omega (arith, l)) ∙ sym (take_less k (suc n) xs (omega (arith, l)))) h

next_here : (j : JudgedRecord) (xs : List FinishedExchange) (n k : ℕ) (x : FinishedExchange) → n ≡ k → (slice_get xs n ≡ Some x → IsNext j (take n xs) x) → slice_get xs k ≡ Some x → IsNext j (take k (take (suc n) xs)) x
next_here j xs n k x e h s =
    subst (λ b. IsNext j b x) (ap (λ i. take i xs) e ∙ sym (take_less k (suc n) xs (omega (arith, e)))) (h (subst (λ i. slice_get xs i ≡ Some x) (sym e) s))

one_mark : (m n : Mark) → Some m ≡ Some n → m ≡ n
one_mark m n e = cc

same_delivered : (side : Side) (config : Config) (xs : List FinishedExchange) (wire : List ℕ) (n m : ℕ) (a b : List Item) (d e : List (List ℕ)) → n ≡ m → LiesWhole side config xs wire n a → LiesWhole side config xs wire m b → d ≡ carried_payloads a → e ≡ carried_payloads b → d ≡ e
same_delivered side config xs wire n m a b d e t x y p q = p ∙ (ap carried_payloads (lies_one side config xs wire n m a b t x y) ∙ sym q)

-- ---- a link, under the names that are chosen

-- what is used of a link, of one side's wire
abbrev WireIs : Side → JudgedRecord → List FinishedExchange → List Item → Type 0
WireIs side j xs items = IsWireOf side j xs (Rattle.ssh_record.specs.Recordings.wire_in side j) items

module _ (cm : ClientPairs) (sm : ServerValues) (ag : Secrets) (client server : Config) (steps : List Step) (report : LinkReport) (secrets : List (List ℕ)) (names : Names)
    (have : HaveNames client server names) (sizes : HasSizes client) (link : IsLink cm sm ag client server steps report)
    (given : HasSecretsOf cm sm ag (judged_record client server (recording_of steps report secrets) names)) where
  abbrev j : JudgedRecord
  j = judged_record client server (recording_of steps report secrets) names

  client_wire : WireIs Client j report.client.exchanges link.client_items
  client_wire = subst (λ c. IsWire Client client (λ k. kind_by c) (λ k. None) (submitted_by Client steps) report.client.exchanges report.client.wire link.client_items) have.chosen link.client_wire

  server_wire : WireIs Server j report.server.exchanges link.server_items
  server_wire = subst (λ c. IsWire Server server (λ k. kind_by c) (λ k. host_by server c) (submitted_by Server steps) report.server.exchanges report.server.wire link.server_items) have.chosen link.server_wire

  -- read under the exchanges before one that was recorded
  client_cut : (ys : List FinishedExchange) → ys ≡ take (length ys) report.client.exchanges → length ys < epochs_ended link.client_items → ReadsWire Client client ys report.client.wire (until (length ys) link.client_items)
  client_cut ys e l =
      let c = cut_entries (map (outgoing Client) report.client.exchanges) (length ys) link.client_items client_wire.reads.0 [] l client_wire.reads.2 in
      let o : take (length ys) (map (outgoing Client) report.client.exchanges) ≡ map (outgoing Client) ys = take-map (outgoing Client) (length ys) report.client.exchanges ∙ ap (map (outgoing Client)) (sym e) in
      record { packets = client_wire.reads.0; rest = c.0; line = client_wire.reads.1; entries = subst (λ w. Entries w client_wire.reads.0 (until (length ys) link.client_items) c.0) o c.1 }

  server_cut : (ys : List FinishedExchange) → ys ≡ take (length ys) report.server.exchanges → length ys < epochs_ended link.server_items → ReadsWire Server server ys report.server.wire (until (length ys) link.server_items)
  server_cut ys e l =
      let c = cut_entries (map (outgoing Server) report.server.exchanges) (length ys) link.server_items server_wire.reads.0 [] l server_wire.reads.2 in
      let o : take (length ys) (map (outgoing Server) report.server.exchanges) ≡ map (outgoing Server) ys = take-map (outgoing Server) (length ys) report.server.exchanges ∙ ap (map (outgoing Server)) (sym e) in
      record { packets = server_wire.reads.0; rest = c.0; line = server_wire.reads.1; entries = subst (λ w. Entries w server_wire.reads.0 (until (length ys) link.server_items) c.0) o c.1 }

  client_many : (k : ℕ) → k < epochs_ended link.client_items → k ≤ length report.client.exchanges
  client_many k l = let n = openings_enough Rattle.ssh_packet.specs.Sealing.Clear 0 (map (outgoing Client) report.client.exchanges) k link.client_items client_wire.reads.0 [] l client_wire.reads.2 in omega (arith, n, count_map (outgoing Client) report.client.exchanges)

  server_many : (k : ℕ) → k < epochs_ended link.server_items → k ≤ length report.server.exchanges
  server_many k l = let n = openings_enough Rattle.ssh_packet.specs.Sealing.Clear 0 (map (outgoing Server) report.server.exchanges) k link.server_items server_wire.reads.0 [] l server_wire.reads.2 in omega (arith, n, count_map (outgoing Server) report.server.exchanges)

  -- ---- what either side recorded is next

  client_at : (k : ℕ) (x : FinishedExchange) → slice_get report.client.exchanges k ≡ Some x → AreNext j (take k report.client.exchanges) → IsNext j (take k report.client.exchanges) x
  client_at k x e nexts =
      let within = slice_get_within report.client.exchanges k x e in
      let ys = take k report.client.exchanges in
      let n : length ys ≡ k = length-take-le k report.client.exchanges (omega (arith, within)) in
      let made : IsMadeOf cm sm ag client server ys (exchange_block (length ys) link.client_items) (exchange_block (length ys) link.server_items) x = subst (λ i. IsMadeOf cm sm ag client server ys (exchange_block i link.client_items) (exchange_block i link.server_items) x) (sym n) (link.client_made k x e) in
      made_next cm sm ag j ys x link.client_items link.server_items _ _ client_wire.reads.0 server_wire.reads.0 [] [] have.chosen sizes given nexts client_wire.reads.2 server_wire.reads.2 client_wire.blocks server_wire.blocks made
      (λ l. client_cut ys (ap (λ i. take i report.client.exchanges) (sym n)) l)
      (λ l. server_cut ys (ap (λ i. take i report.client.exchanges) (sym n) ∙ take_same (length ys) report.client.exchanges report.server.exchanges link.same (omega (arith, n, within)) (server_many (length ys) l)) l)

  client_nexts : (n : ℕ) → AreNext j (take n report.client.exchanges)
  client_nexts zero k x e = absurd (let z : None ≡ Some x = e in cc)
  client_nexts (suc n) k x e = elim (cases_lt k n) [
    | inl l ↦ next_less j report.client.exchanges n k x l (client_nexts n k x (get_in_take n report.client.exchanges k x l (get_of_take (suc n) report.client.exchanges k x e)))
    | inr m ↦ next_here j report.client.exchanges n k x (let z : n ≡ k = omega (arith, m, get_below (suc n) report.client.exchanges k x e) in z) (λ s. client_at n x s (client_nexts n)) (get_of_take (suc n) report.client.exchanges k x e)
  ]

  client_next : (k : ℕ) (x : FinishedExchange) → slice_get report.client.exchanges k ≡ Some x → IsNext j (take k report.client.exchanges) x
  client_next k x e = client_at k x e (client_nexts k)

  server_at : (k : ℕ) (x : FinishedExchange) → slice_get report.server.exchanges k ≡ Some x → AreNext j (take k report.server.exchanges) → IsNext j (take k report.server.exchanges) x
  server_at k x e nexts =
      let within = slice_get_within report.server.exchanges k x e in
      let ys = take k report.server.exchanges in
      let n : length ys ≡ k = length-take-le k report.server.exchanges (omega (arith, within)) in
      let made : IsMadeOf cm sm ag client server ys (exchange_block (length ys) link.client_items) (exchange_block (length ys) link.server_items) x = subst (λ i. IsMadeOf cm sm ag client server ys (exchange_block i link.client_items) (exchange_block i link.server_items) x) (sym n) (link.server_made k x e) in
      made_next cm sm ag j ys x link.client_items link.server_items _ _ client_wire.reads.0 server_wire.reads.0 [] [] have.chosen sizes given nexts client_wire.reads.2 server_wire.reads.2 client_wire.blocks server_wire.blocks made
      (λ l. client_cut ys (ap (λ i. take i report.server.exchanges) (sym n) ∙ sym (take_same (length ys) report.client.exchanges report.server.exchanges link.same (client_many (length ys) l) (omega (arith, n, within)))) l)
      (λ l. server_cut ys (ap (λ i. take i report.server.exchanges) (sym n)) l)

  server_nexts : (n : ℕ) → AreNext j (take n report.server.exchanges)
  server_nexts zero k x e = absurd (let z : None ≡ Some x = e in cc)
  server_nexts (suc n) k x e = elim (cases_lt k n) [
    | inl l ↦ next_less j report.server.exchanges n k x l (server_nexts n k x (get_in_take n report.server.exchanges k x l (get_of_take (suc n) report.server.exchanges k x e)))
    | inr m ↦ next_here j report.server.exchanges n k x (let z : n ≡ k = omega (arith, m, get_below (suc n) report.server.exchanges k x e) in z) (λ s. server_at n x s (server_nexts n)) (get_of_take (suc n) report.server.exchanges k x e)
  ]

  server_next : (k : ℕ) (x : FinishedExchange) → slice_get report.server.exchanges k ≡ Some x → IsNext j (take k report.server.exchanges) x
  server_next k x e = server_at k x e (server_nexts k)

  client_front : (xs : List FinishedExchange) → AreExchanges j xs → HasFront xs report.client.exchanges
  client_front xs a = fronts_from (IsNext j) (next_one j) [] xs report.client.exchanges a.each client_next (λ y n. no_next j xs y a.all n)

  server_front : (xs : List FinishedExchange) → AreExchanges j xs → HasFront xs report.server.exchanges
  server_front xs a = fronts_from (IsNext j) (next_one j) [] xs report.server.exchanges a.each server_next (λ y n. no_next j xs y a.all n)

  -- ---- both wires are good, and the marks are those of a run

  client_good : (xs : List FinishedExchange) → AreExchanges j xs → IsGoodWire Client j xs
  client_good xs a = (link.client_items, wire_wider Client client _ _ _ xs report.client.exchanges report.client.wire link.client_items (client_front xs a) client_wire)

  server_good : (xs : List FinishedExchange) → AreExchanges j xs → IsGoodWire Server j xs
  server_good xs a = (link.server_items, wire_wider Server server _ _ _ xs report.server.exchanges report.server.wire link.server_items (server_front xs a) server_wire)

  many_marks : length report.marks ≡ suc (length steps)
  many_marks = effects_length steps None None report.marks link.run.effects

  link_runs : (xs : List FinishedExchange) → AreExchanges j xs → RunsBy j xs (length steps) report.marks
  link_runs xs a =
      let run : IsRun (is_gex names.kex) (half_of Client client steps report.client) (half_of Server server steps report.server) steps report.marks = subst (λ c. IsRun (kind_by c) (half_of Client client steps report.client) (half_of Server server steps report.server) steps report.marks) have.chosen link.run in
      let wide = run_wider (is_gex names.kex) (half_of Client client steps report.client) (half_of Server server steps report.server) xs steps report.marks (client_front xs a) (server_front xs a)
      (record { items = link.client_items; packets = client_wire.reads.0; line = client_wire.reads.1; reads = client_wire.reads.2 })
      (record { items = link.server_items; packets = server_wire.reads.0; line = server_wire.reads.1; reads = server_wire.reads.2 }) run in
      record {
        run = subst (λ s. IsRun (is_gex names.kex) (half_recorded Client j xs) (half_recorded Server j xs) s report.marks) (sym (take-length steps)) wide;
        sent = sym (take-length (map sent_at report.marks)) ∙ ap (λ n. take n (map sent_at report.marks)) (count_map sent_at report.marks ∙ many_marks);
      }

  all_run : (xs : List FinishedExchange) → AreExchanges j xs → Runs j xs (length steps)
  all_run xs a = (report.marks, link_runs xs a)

  fits : FitsSent (recording_of steps report secrets)
  fits = record {
    many = count_map sent_at report.marks ∙ many_marks;
    last = get_map sent_at report.marks (length steps) link.last.0 link.last.1 ∙ ap Some (same_pair _ _ _ _ link.last.2.sent link.last.3.sent);
  }
    where
      same_pair : (a b c d : ℕ) → a ≡ b → c ≡ d → (let t : SentPair = record { client = a; server = c } in t) ≡ record { client = b; server = d }
      same_pair a b c d e f = ap (λ x. let t : SentPair = record { client = x; server = c } in t) e ∙ ap (λ x. let t : SentPair = record { client = b; server = x } in t) f

  -- ---- no fault

  bad_packet : (side : Side) (place : ℕ) → HasBadPacket j side place → ⊥
  bad_packet Client place h = bad_not_good Client j h.exchanges place h.bad (client_good h.exchanges h.secrets.exchanges)
  bad_packet Server place h = bad_not_good Server j h.exchanges place h.bad (server_good h.exchanges h.secrets.exchanges)

  lacks : (blocks : ℕ) → LacksSecret j blocks → ⊥
  lacks blocks h =
      let s = given.given h.exchanges h.exchange h.host h.are.each h.more in
      omega (arith, h.are.all h.exchange h.host h.more, slice_get_within secrets (length h.exchanges) s.0 s.1)

  bad_mark : (place : ℕ) → HasBadMark j place → ⊥
  bad_mark place h = breaks_not j h.exchanges place (length steps) h.breaks.within h.breaks (all_run h.exchanges h.secrets.exchanges)

  moved : (n : Names) (P : JudgedRecord → Type 0) → HaveNames client server n → P (judged_record client server (recording_of steps report secrets) n) → P j
  moved n P h p = subst (λ (x : Names). P (judged_record client server (recording_of steps report secrets) x)) (names_one client server n names h have) p

  no_fault : (f : AuditFault) → IsAuditFault client server (recording_of steps report secrets) f → ⊥
  no_fault fault.Config h = h names have
  no_fault fault.Sent h = h.2 fits
  no_fault (fault.Secrets blocks) h = lacks blocks (moved h.0 (λ x. LacksSecret x blocks) h.1 h.3)
  no_fault (fault.Packet side place) h = bad_packet side place (moved h.0 (λ x. HasBadPacket x side place) h.1 h.3)
  no_fault (fault.Mark place) h = bad_mark place (moved h.0 (λ x. HasBadMark x place) h.1 h.3)

  -- ---- what is told

  shown : (a : AuditReport) → IsAcceptedRecord client server (recording_of steps report secrets) a → ShowsLink report a
  shown a h =
      let have_secrets : HaveSecrets j a.exchanges = moved h.names (λ x. HaveSecrets x a.exchanges) h.have_names h.secrets in
      let runs : RunsBy j a.exchanges (length steps) a.marks = moved h.names (λ x. RunsBy x a.exchanges (length steps) a.marks) h.have_names h.runs in
      let to_client : AreDelivered Server j a.exchanges h.last.client.taken a.client_delivered = moved h.names (λ x. AreDelivered Server x a.exchanges h.last.client.taken a.client_delivered) h.have_names h.to_client in
      let to_server : AreDelivered Client j a.exchanges h.last.server.taken a.server_delivered = moved h.names (λ x. AreDelivered Client x a.exchanges h.last.server.taken a.server_delivered) h.have_names h.to_server in
      let marks : a.marks ≡ report.marks = runs_one j a.exchanges (length steps) a.marks report.marks runs (link_runs a.exchanges have_secrets.exchanges) in
      let last : h.last ≡ link.last.0 = one_mark h.last link.last.0 (sym h.last_is ∙ (ap (λ t. slice_get t (length steps)) marks ∙ link.last.1)) in
      record {
        marks = marks;
        to_client = same_delivered Server server a.exchanges report.server.wire h.last.client.taken report.client.taken to_client.0 link.to_client.0 a.client_delivered report.client.delivered
            (ap (λ (m : Mark). m.client.taken) last ∙ link.last.2.taken_is) to_client.1 (lies_wider Server server a.exchanges report.server.exchanges report.server.wire report.client.taken link.server_items link.to_client.0 server_wire.reads.0 (server_front a.exchanges have_secrets.exchanges) server_wire.reads.1 server_wire.reads.2 link.to_client.1) to_client.2 link.to_client.2;
        to_server = same_delivered Client client a.exchanges report.client.wire h.last.server.taken report.server.taken to_server.0 link.to_server.0 a.server_delivered report.server.delivered
            (ap (λ (m : Mark). m.server.taken) last ∙ link.last.3.taken_is) to_server.1 (lies_wider Client client a.exchanges report.client.exchanges report.client.wire report.server.taken link.client_items link.to_server.0 client_wire.reads.0 (client_front a.exchanges have_secrets.exchanges) client_wire.reads.1 client_wire.reads.2 link.to_server.1) to_server.2 link.to_server.2;
        client_exchanges = client_front a.exchanges have_secrets.exchanges;
        server_exchanges = server_front a.exchanges have_secrets.exchanges;
      }

pub link_no_fault : (cm : ClientPairs) (sm : ServerValues) (ag : Secrets) → LinkHasNoFault cm sm ag
link_no_fault cm sm ag client server steps report secrets names have sizes link given f h = no_fault cm sm ag client server steps report secrets names have sizes link given f h

pub link_is_shown : (cm : ClientPairs) (sm : ServerValues) (ag : Secrets) → LinkIsShown cm sm ag
link_is_shown cm sm ag client server steps report secrets names have sizes link given a h = shown cm sm ag client server steps report secrets names have sizes link given a h
