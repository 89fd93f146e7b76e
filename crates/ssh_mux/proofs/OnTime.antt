-- A link of a report has delivered nothing before it was submitted.
use Rattle.std.proofs.Common.{◌≡◌, ℕ, zero, suc, ◌+◌, ◌≤◌, Bool, List, [], ◌∷◌, ◌++◌, length, take, drop, map, slice_get, Option, Some, None, refl, sym, ap, ◌∙◌, subst, append_assoc, length-append, arith}
use Rattle.std.proofs.Math.Seq.{drop-append_seam, take-append_seam}
use Rattle.std.proofs.lemmas.List.{take-append-drop}
use Rattle.ssh_packet.specs.Sealing.{Item}
use Rattle.ssh_packet.specs.Stream.{first_place}
use Rattle.ssh_wire.specs.Lines.{id_line}
use Rattle.ssh_wire.specs.declared.side.Side.{Side}
use Rattle.ssh_wire.specs.declared.side.Side.TheVariants.{Client, Server}
use Rattle.ssh_kex.specs.Exchange.{outgoing}
use Rattle.ssh_kex.specs.declared.config.Config.{Config}
use Rattle.ssh_kex.specs.declared.exchange.FinishedExchange.{FinishedExchange}
use Rattle.ssh_rules.specs.Headline.{IsLink, chosen_by, half_of, kind_by, submitted_by}
use Rattle.ssh_rules.specs.Parts.{ClientPairs, Secrets, ServerValues}
use Rattle.ssh_rules.specs.Run.{Effect, Effects, IsMoment, Moment, mark_of}
use Rattle.ssh_rules.specs.Wire.{HasFront, IsWire, LiesWhole, carried_payloads}
use Rattle.ssh_rules.specs.declared.link.Mark.{Mark}
use Rattle.ssh_rules.specs.declared.link.SideMark.{SideMark}
use Rattle.ssh_rules.specs.declared.link.Step.{Step}
use Rattle.ssh_rules.specs.declared.link.Step.TheVariants.{Submit, Deliver, Rekey, Settle}
use Rattle.ssh_run.specs.Carrying.{both_marks}
use Rattle.ssh_run.specs.Stepping.{LinkState, report_so_far}
use Rattle.ssh_record.proofs.Lemmas.{front_drop, front_join, front_length, moment_at, payloads_join, read_sent, reads_within}
use Rattle.ssh_mux.specs.Honesty.{IsHonest}

-- one link state is before another: what was done and delivered is a front of what is then
pub record IsBefore (a b : LinkState) : Type 0 where
  pub steps : HasFront b.steps a.steps
  pub marks : HasFront b.marks a.marks
  pub to_client : HasFront b.carried.client.delivered a.carried.client.delivered
  pub to_server : HasFront b.carried.server.delivered a.carried.server.delivered

-- its last mark is where both sides stand
pub record IsMarkedLink (l : LinkState) : Type 0 where
  pub many : length l.marks ≡ suc (length l.steps)
  pub last : slice_get l.marks (length l.steps) ≡ Some (both_marks l.carried)

-- what makes a link honest that leads to a last one
abbrev pub MakesHonest : LinkState → Type 0
MakesHonest last = (l : LinkState) → IsMarkedLink l → IsBefore l last → IsHonest l

-- ---- what was submitted before a mark

submits_on : (side : Side) (step : Step) (steps : List Step) → submitted_by side (step ∷ steps) ≡ submitted_by side (step ∷ []) ++ submitted_by side steps
submits_on Client (Submit Client p) steps = refl
submits_on Client (Submit Server p) steps = refl
submits_on Server (Submit Client p) steps = refl
submits_on Server (Submit Server p) steps = refl
submits_on side (Deliver s n) steps = refl
submits_on side (Rekey s) steps = refl
submits_on side Settle steps = refl

same_submitted : (s : Side) (m m' : Mark) → mark_of s m' ≡ mark_of s m → (mark_of s m').submitted ≡ (mark_of s m).submitted + 0
same_submitted s m m' e = (let z = ap (λ (x : SideMark). x.submitted) e in omega (arith, z))

step_submitted : (step : Step) (cb sb : Option ℕ) (m m' : Mark) (s : Side) → Effect step cb sb m m' → (mark_of s m').submitted ≡ (mark_of s m).submitted + length (submitted_by s (step ∷ []))
step_submitted (Submit Client p) cb sb m m' Client h = h.2
step_submitted (Submit Client p) cb sb m m' Server h = same_submitted Server m m' h.0
step_submitted (Submit Server p) cb sb m m' Client h = same_submitted Client m m' h.0
step_submitted (Submit Server p) cb sb m m' Server h = h.2
step_submitted (Deliver Client n) cb sb m m' Client h = (let z = h.2 in omega (arith, z))
step_submitted (Deliver Client n) cb sb m m' Server h = same_submitted Server m m' h.0
step_submitted (Deliver Server n) cb sb m m' Client h = same_submitted Client m m' h.0
step_submitted (Deliver Server n) cb sb m m' Server h = (let z = h.2 in omega (arith, z))
step_submitted (Rekey Client) cb sb m m' Client h = (let z = h.2 in omega (arith, z))
step_submitted (Rekey Client) cb sb m m' Server h = same_submitted Server m m' h.0
step_submitted (Rekey Server) cb sb m m' Client h = same_submitted Client m m' h.0
step_submitted (Rekey Server) cb sb m m' Server h = (let z = h.2 in omega (arith, z))
step_submitted Settle cb sb m m' Client h = (let z = h.1 in omega (arith, z))
step_submitted Settle cb sb m m' Server h = (let z = h.2 in omega (arith, z))

effects_submitted : (s : Side) (steps : List Step) (cb sb : Option ℕ) (m : Mark) (marks : List Mark) (j : ℕ) (m' : Mark) → Effects steps cb sb (m ∷ marks) → slice_get (m ∷ marks) j ≡ Some m'
    → (mark_of s m').submitted ≡ (mark_of s m).submitted + length (submitted_by s (take j steps))
effects_submitted s steps cb sb m marks zero m' h e = (let p : Some m ≡ Some m' = e in (let q : m ≡ m' = cc in (let z = ap (λ (x : Mark). (mark_of s x).submitted) q in omega (arith, z))))
effects_submitted s steps cb sb m [] (suc j) m' h e = absurd (let p : None ≡ Some m' = e in cc)
effects_submitted s [] cb sb m (n ∷ marks) (suc j) m' h e = absurd h
effects_submitted s (step ∷ steps) cb sb m (n ∷ marks) (suc j) m' h e =
    let a = step_submitted step _ _ m n s h.0 in
    let b = effects_submitted s steps _ _ n marks j m' h.1 e in
    let c = ap length (submits_on s step (take j steps)) in
    let d = length-append (submitted_by s (step ∷ [])) (submitted_by s (take j steps)) in
    omega (arith, a, b, c, d)

pub submitted_at : (s : Side) (steps : List Step) (marks : List Mark) (first : Mark) (j : ℕ) (m : Mark) → Effects steps None None marks → slice_get marks 0 ≡ Some first → (mark_of s first).submitted ≡ 0 → slice_get marks j ≡ Some m
    → (mark_of s m).submitted ≡ length (submitted_by s (take j steps))
submitted_at s steps [] first j m h f z e = absurd (let p : None ≡ Some first = f in cc)
submitted_at s steps (x ∷ marks) first j m h f z e =
    let same : x ≡ first = (let p : Some x ≡ Some first = f in cc) in
    let a = effects_submitted s steps None None x marks j m h e in
    let b = ap (λ (y : Mark). (mark_of s y).submitted) same in
    omega (arith, a, b, z)

-- ---- what was delivered by then

unmapped : {A B : Type 0} (f : A → B) (l : List A) (n : ℕ) (y : B) → slice_get (map f l) n ≡ Some y → (x : A) × (slice_get l n ≡ Some x) × (f x ≡ y)
unmapped f [] n y e = absurd (let z : None ≡ Some y = e in cc)
unmapped f (x ∷ l) zero y e = (x, refl, (let z : Some (f x) ≡ Some y = e in cc))
unmapped f (x ∷ l) (suc n) y e = unmapped f l n y e

front_payloads : (all a : List Item) → HasFront all a → HasFront (carried_payloads all) (carried_payloads a)
front_payloads all a h = (carried_payloads h.0, sym (payloads_join a h.0) ∙ ap carried_payloads h.1)

-- at each mark no more was delivered to a side than the other had submitted
pub record IsOnMark (steps : List Step) (j : ℕ) (m : Mark) : Type 0 where
  pub to_client : m.client.delivered ≤ length (submitted_by Server (take j steps))
  pub to_server : m.server.delivered ≤ length (submitted_by Client (take j steps))

delivered_in_time : (cm : ClientPairs) (sm : ServerValues) (ag : Secrets) (client server : Config) (last : LinkState) → (link : IsLink cm sm ag client server last.steps (report_so_far last)) → (j : ℕ) (m : Mark) → slice_get last.marks j ≡ Some m
    → IsOnMark last.steps j m
delivered_in_time cm sm ag client server last link j m at =
    let kind = kind_by (chosen_by client server) in
    let report = report_so_far last in
    let c = half_of Client client last.steps report.client in
    let s = half_of Server server last.steps report.server in
    let u = unmapped (λ (x : Moment). x.mark) link.run.moments j m (subst (λ l. slice_get l j ≡ Some m) (sym link.run.marks_are) at) in
    let is : IsMoment kind c s u.0 = moment_at kind c s link.run.moments j u.0 link.run.each u.1 in
    let time = link.on_time j u.0 u.1 in
    let to_client = front_length _ _ (front_payloads u.0.server_own u.0.client_theirs (read_sent kind c s Client u.0 u.0 is is (omega arith))) in
    let to_server = front_length _ _ (front_payloads u.0.client_own u.0.server_theirs (read_sent kind c s Server u.0 u.0 is is (omega arith))) in
    let by_client = submitted_at Client last.steps last.marks link.run.first.0 j m link.run.effects link.run.first.1 (ap (λ (x : SideMark). x.submitted) link.run.first.2.of_client) at in
    let by_server = submitted_at Server last.steps last.marks link.run.first.0 j m link.run.effects link.run.first.1 (ap (λ (x : SideMark). x.submitted) link.run.first.2.of_server) at in
    let mark_client = ap (λ (x : Mark). x.client.delivered) u.2 in
    let mark_server = ap (λ (x : Mark). x.server.delivered) u.2 in
    let sent_client = ap (λ (x : Mark). x.client.submitted) u.2 in
    let sent_server = ap (λ (x : Mark). x.server.submitted) u.2 in
    let told_client = is.at_client.delivered in
    let told_server = is.at_server.delivered in
    let early_client = time.0.early in
    let early_server = time.1.early in
    record {
      to_client = omega (arith, to_client, by_server, mark_client, sent_server, told_client, early_server);
      to_server = omega (arith, to_server, by_client, mark_server, sent_client, told_server, early_client);
    }

-- ---- fronts of what was submitted in all

-- the packets that lie whole in what was taken are the first of a wire
taken_front : (side : Side) (config : Config) (kind : ℕ → Bool) (host : ℕ → Option (List ℕ)) (submitted : List (List ℕ)) (xs : List FinishedExchange) (wire : List ℕ) (all : List Item) (n : ℕ) (theirs : List Item)
    → IsWire side config kind host submitted xs wire all → LiesWhole side config xs wire n theirs → HasFront all theirs
taken_front side config kind host submitted xs wire all n theirs w h =
    let line = id_line config.id in
    let f = front_drop (length line) wire (take n wire) (drop n wire, take-append-drop n wire) in
    let packets : drop (length line) wire ≡ w.reads.0 = ap (drop (length line)) w.reads.1 ∙ drop-append_seam line w.reads.0 in
    reads_within (Some (first_place (map (outgoing side) xs))) theirs all (drop (length line) (take n wire)) h.0 w.reads.0 f.0 h.1.reads w.reads.2 (f.1 ∙ packets)

-- of two fronts of a list the longer begins with the shorter
two_fronts : {A : Type 0} (whole a b : List A) → HasFront whole a → HasFront whole b → length a ≤ length b → HasFront b a
two_fronts whole [] b h k l = (b, refl)
two_fronts whole (x ∷ a) [] h k l = absurd (omega (arith, l))
two_fronts [] (x ∷ a) (y ∷ b) h k l = absurd (let z : x ∷ (a ++ h.0) ≡ [] = h.1 in cc)
two_fronts (w ∷ whole) (x ∷ a) (y ∷ b) h k l =
    let p : x ∷ (a ++ h.0) ≡ w ∷ whole = h.1 in
    let q : y ∷ (b ++ k.0) ≡ w ∷ whole = k.1 in
    let r = two_fronts whole a b (h.0, (let t : a ++ h.0 ≡ whole = cc in t)) (k.0, (let t : b ++ k.0 ≡ whole = cc in t)) (omega (arith, l)) in
    (r.0, (let e : x ≡ y = cc in ap (λ z. z ∷ (a ++ r.0)) e) ∙ ap (λ t. y ∷ t) r.1)

submitted_more : (side : Side) (a b : List Step) → submitted_by side (a ++ b) ≡ submitted_by side a ++ submitted_by side b
submitted_more side [] b = refl
submitted_more side (step ∷ a) b =
    submits_on side step (a ++ b) ∙ (ap (λ l. submitted_by side (step ∷ []) ++ l) (submitted_more side a b) ∙ (sym (append_assoc (submitted_by side (step ∷ [])) (submitted_by side a) (submitted_by side b))
    ∙ ap (λ l. l ++ submitted_by side b) (sym (submits_on side step a))))

pub submitted_front : (side : Side) (all a : List Step) → HasFront all a → HasFront (submitted_by side all) (submitted_by side a)
submitted_front side all a h = (submitted_by side h.0, sym (submitted_more side a h.0) ∙ ap (submitted_by side) h.1)

front_get : {A : Type 0} (all a : List A) (n : ℕ) (x : A) → HasFront all a → slice_get a n ≡ Some x → slice_get all n ≡ Some x
front_get all a n x h e = subst (λ l. slice_get l n ≡ Some x) h.1 (get_more a h.0 n x e)
  where
    get_more : {A : Type 0} (a b : List A) (n : ℕ) (x : A) → slice_get a n ≡ Some x → slice_get (a ++ b) n ≡ Some x
    get_more [] b n x e = absurd (let z : None ≡ Some x = e in cc)
    get_more (y ∷ a) b zero x e = e
    get_more (y ∷ a) b (suc n) x e = get_more a b n x e

-- ---- each link that leads to the report's is honest

pub link_honest : (cm : ClientPairs) (sm : ServerValues) (ag : Secrets) (client server : Config) (last : LinkState) → IsLink cm sm ag client server last.steps (report_so_far last) → MakesHonest last
link_honest cm sm ag client server last link l marked before =
    let time = delivered_in_time cm sm ag client server last link (length l.steps) (both_marks l.carried) (front_get last.marks l.marks (length l.steps) (both_marks l.carried) before.marks marked.last) in
    let steps : take (length l.steps) last.steps ≡ l.steps = ap (take (length l.steps)) (sym before.steps.1) ∙ take-append_seam l.steps before.steps.0 in
    let all_server : HasFront (submitted_by Client last.steps) last.carried.server.delivered = subst (HasFront (submitted_by Client last.steps)) (sym link.to_server.2)
    (front_join (submitted_by Client last.steps) (carried_payloads link.client_items) (carried_payloads link.to_server.0) link.client_wire.payloads
    (front_payloads link.client_items link.to_server.0 (taken_front Client client _ _ _ _ _ link.client_items last.carried.server.taken link.to_server.0 link.client_wire link.to_server.1))) in
    let all_client : HasFront (submitted_by Server last.steps) last.carried.client.delivered = subst (HasFront (submitted_by Server last.steps)) (sym link.to_client.2)
    (front_join (submitted_by Server last.steps) (carried_payloads link.server_items) (carried_payloads link.to_client.0) link.server_wire.payloads
    (front_payloads link.server_items link.to_client.0 (taken_front Server server _ _ _ _ _ link.server_items last.carried.client.taken link.to_client.0 link.server_wire link.to_client.1))) in
    record {
      to_client = two_fronts (submitted_by Server last.steps) l.carried.client.delivered (submitted_by Server l.steps)
          (front_join (submitted_by Server last.steps) last.carried.client.delivered l.carried.client.delivered all_client before.to_client) (submitted_front Server last.steps l.steps before.steps)
          (let t = time.to_client in let e = ap (λ s. length (submitted_by Server s)) steps in omega (arith, t, e));
      to_server = two_fronts (submitted_by Client last.steps) l.carried.server.delivered (submitted_by Client l.steps)
          (front_join (submitted_by Client last.steps) last.carried.server.delivered l.carried.server.delivered all_server before.to_server) (submitted_front Client last.steps l.steps before.steps)
          (let t = time.to_server in let e = ap (λ s. length (submitted_by Client s)) steps in omega (arith, t, e));
    }
