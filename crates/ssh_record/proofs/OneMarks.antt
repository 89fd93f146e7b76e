-- What was sent determines the marks of a run.
use Rattle.std.proofs.Common.{◌≡◌, ◌⊎◌, inl, inr, ℕ, zero, suc, ◌+◌, ◌-◌, ◌<◌, ◌≤◌, ◌↔◌, List, [], ◌∷◌, ◌++◌, length, take, drop, map, min, max, slice_get, refl, sym, ◌∙◌, ap, subst, arith, append-nil, Option, Some, None, Bool, true, false, IsTrue}
use Rattle.ssh_packet.specs.Sealing.{Item}
use Rattle.ssh_packet.specs.Stream.{Place, first_place, Reads}
use Rattle.ssh_wire.specs.Lines.{id_line}
use Rattle.ssh_wire.specs.declared.side.Side.{Side}
use Rattle.ssh_wire.specs.declared.side.Side.TheVariants.{Client, Server}
use Rattle.ssh_kex.specs.Exchange.{outgoing}
use Rattle.ssh_kex.specs.Messages.{is_gex}
use Rattle.ssh_kex.specs.declared.exchange.FinishedExchange.{FinishedExchange}
use Rattle.ssh_rules.specs.Marks.{Half, IsMarked, SentBy, kexinits}
use Rattle.ssh_rules.specs.Run.{AllMoments, Effect, Effects, IsFirstMark, IsMoment, Moment, finished_at_rekey, mark_of}
use Rattle.ssh_rules.specs.Wire.{LiesWhole, carried_payloads, epochs_ended}
use Rattle.ssh_rules.specs.declared.link.Mark.{Mark}
use Rattle.ssh_rules.specs.declared.link.SideMark.{SideMark}
use Rattle.ssh_rules.specs.declared.link.Step.{Step}
use Rattle.ssh_rules.specs.declared.link.Step.TheVariants.{Submit, Deliver, Rekey, Settle}
use Rattle.ssh_record.specs.Recordings.{JudgedRecord}
use Rattle.ssh_record.specs.Runs.{RunsBy, half_recorded, sent_at}
use Rattle.ssh_record.specs.declared.recording.SentPair.{SentPair}
use Rattle.ssh_record.proofs.Readings.{entries_one}

-- ---- packets

pub whole_one : (h : Half) (n m : ℕ) (a b : List Item) → n ≡ m → LiesWhole h.side h.config h.exchanges h.wire n a → LiesWhole h.side h.config h.exchanges h.wire m b → a ≡ b
whole_one h n m a b e x y =
    let z : LiesWhole h.side h.config h.exchanges h.wire n b = subst (λ k. LiesWhole h.side h.config h.exchanges h.wire k b) (sym e) y in
    (entries_one _ _ x.0 z.0 a b x.1 z.1).0

pub lies_one : (side : Side) (config : Rattle.ssh_kex.specs.declared.config.Config.Config) (xs : List FinishedExchange) (wire : List ℕ) (n m : ℕ) (a b : List Item) → n ≡ m → LiesWhole side config xs wire n a → LiesWhole side config xs wire m b → a ≡ b
lies_one side config xs wire n m a b e x y =
    let z : LiesWhole side config xs wire n b = subst (λ k. LiesWhole side config xs wire k b) (sym e) y in
    (entries_one _ _ x.0 z.0 a b x.1 z.1).0

nothing_left : (p : Place) (i : Item) (more : List ℕ) → Rattle.ssh_packet.specs.Stream.packet_at p i ++ more ≡ [] → ⊥
nothing_left p i more e = omega (arith, ap length e, Rattle.std.proofs.Common.length-append (Rattle.ssh_packet.specs.Stream.packet_at p i) more, Rattle.ssh_packet.proofs.Lemmas.length_sealed p.sealing p.number i)

reads_same : (at : Option Place) (a b : List Item) (bytes : List ℕ) → Reads at a bytes [] → Reads at b bytes [] → a ≡ b
reads_same at [] [] bytes h k = refl
reads_same None [] (j ∷ b) bytes h k = absurd k
reads_same None (i ∷ a) b bytes h k = absurd h
reads_same (Some at) [] (j ∷ b) bytes h k = absurd (nothing_left at j k.0 (sym k.2 ∙ h))
reads_same (Some at) (i ∷ a) [] bytes h k = absurd (nothing_left at i h.0 (sym h.2 ∙ k))
reads_same (Some at) (i ∷ a) (j ∷ b) bytes h k =
    let one = Rattle.ssh_packet.proofs.Lemmas.one_packet at.sealing at.number i j h.0 k.0 h.1 k.1 (sym h.2 ∙ k.2) in
    let onward : Reads (Rattle.ssh_packet.specs.Stream.place_after at i) b h.0 [] = subst (λ t. Reads (Rattle.ssh_packet.specs.Stream.place_after at t) b h.0 []) (sym one.0) (subst (λ t. Reads (Rattle.ssh_packet.specs.Stream.place_after at j) b t []) (sym one.1) k.3) in
    both i j a b one.0 (reads_same (Rattle.ssh_packet.specs.Stream.place_after at i) a b h.0 h.3 onward)
  where
    both : (i j : Item) (a b : List Item) → i ≡ j → a ≡ b → i ∷ a ≡ j ∷ b
    both i j a b e f = cc

pub sent_one : (h : Half) (n m : ℕ) (a b : List Item) → n ≡ m → SentBy h n a → SentBy h m b → a ≡ b
sent_one h n m a b e x y = reads_same (Some (first_place (map (outgoing h.side) h.exchanges))) a b (drop (length (id_line h.config.id)) (take n h.wire)) x (subst (λ k. SentBy h k b) (sym e) y)

-- ---- one side of a mark

same_test : (a b : Bool) → (IsTrue a → IsTrue b) → (IsTrue b → IsTrue a) → a ≡ b
same_test true true f g = refl
same_test false false f g = refl
same_test true false f g = absurd (let z : false ≡ true = f refl in cc)
same_test false true f g = absurd (let z : false ≡ true = g refl in cc)

abbrev side_mark : ℕ → ℕ → ℕ → ℕ → Bool → ℕ → SideMark
side_mark a b c d e f = record { sent = a; taken = b; delivered = c; finished = d; inside = e; submitted = f }

same_mark : (m n : SideMark) → m.sent ≡ n.sent → m.taken ≡ n.taken → m.delivered ≡ n.delivered → m.finished ≡ n.finished → m.inside ≡ n.inside → m.submitted ≡ n.submitted → m ≡ n
same_mark m n p q r s t u =
    ap (λ x. side_mark x m.taken m.delivered m.finished m.inside m.submitted) p ∙ (ap (λ x. side_mark n.sent x m.delivered m.finished m.inside m.submitted) q
    ∙ (ap (λ x. side_mark n.sent n.taken x m.finished m.inside m.submitted) r ∙ (ap (λ x. side_mark n.sent n.taken n.delivered x m.inside m.submitted) s
    ∙ (ap (λ x. side_mark n.sent n.taken n.delivered n.finished x m.submitted) t ∙ ap (side_mark n.sent n.taken n.delivered n.finished n.inside) u))))

inside_one : (a b : Bool) (m n k l : ℕ) → m ≡ n → k ≡ l → (IsTrue a ↔ (m < max 1 k)) → (IsTrue b ↔ (n < max 1 l)) → a ≡ b
inside_one a b m n k l e f h g =
    let moved : IsTrue b ↔ (m < max 1 k) = subst (λ x. IsTrue b ↔ (x < max 1 k)) (sym e) (subst (λ y. IsTrue b ↔ (n < max 1 y)) (sym f) g) in
    same_test a b (λ t. moved.1 (h.0 t)) (λ t. h.1 (moved.0 t))

-- how much was sent, taken and submitted determines all of it
side_one : (kind : Bool) (half other : Half) (m n om on : SideMark) (a b c d : List Item) → m.sent ≡ n.sent → m.taken ≡ n.taken → m.submitted ≡ n.submitted → IsMarked kind half other m om a b → IsMarked kind half other n on c d → m ≡ n
side_one kind half other m n om on a b c d p q r x y =
    let own = sent_one half m.sent n.sent a c p x.sent y.sent in
    let theirs = whole_one other m.taken n.taken b d q x.taken_whole y.taken_whole in
    let finished : m.finished ≡ n.finished = x.finished ∙ (ap epochs_ended theirs ∙ sym y.finished) in
    same_mark m n p q (x.delivered ∙ (ap (λ t. length (carried_payloads t)) theirs ∙ sym y.delivered)) finished
    (inside_one m.inside n.inside m.finished n.finished (kexinits a) (kexinits c) finished (ap kexinits own) x.inside y.inside) r

-- ---- one mark more

abbrev SameSent : Mark → Mark → Type 0
SameSent m n = (m.client.sent ≡ n.client.sent) × (m.server.sent ≡ n.server.sent)

from_same : (s : Side) (m a b : Mark) → mark_of s a ≡ mark_of s m → mark_of s b ≡ mark_of s m → mark_of s a ≡ mark_of s b
from_same s m a b e f = e ∙ sym f

taken_one : (step : Step) (cb sb : Option ℕ) (m a b : Mark) (s : Side) → SameSent a b → Effect step cb sb m a → Effect step cb sb m b → (mark_of s a).taken ≡ (mark_of s b).taken
taken_one (Submit Client p) cb sb m a b Client e x y = x.1.taken ∙ sym y.1.taken
taken_one (Submit Client p) cb sb m a b Server e x y = ap (λ (t : SideMark). t.taken) (from_same Server m a b x.0 y.0)
taken_one (Submit Server p) cb sb m a b Client e x y = ap (λ (t : SideMark). t.taken) (from_same Client m a b x.0 y.0)
taken_one (Submit Server p) cb sb m a b Server e x y = x.1.taken ∙ sym y.1.taken
taken_one (Deliver Client n) cb sb m a b Client e x y = x.1 ∙ sym y.1
taken_one (Deliver Client n) cb sb m a b Server e x y = ap (λ (t : SideMark). t.taken) (from_same Server m a b x.0 y.0)
taken_one (Deliver Server n) cb sb m a b Client e x y = ap (λ (t : SideMark). t.taken) (from_same Client m a b x.0 y.0)
taken_one (Deliver Server n) cb sb m a b Server e x y = x.1 ∙ sym y.1
taken_one (Rekey Client) cb sb m a b Client e x y = x.1.taken ∙ sym y.1.taken
taken_one (Rekey Client) cb sb m a b Server e x y = ap (λ (t : SideMark). t.taken) (from_same Server m a b x.0 y.0)
taken_one (Rekey Server) cb sb m a b Client e x y = ap (λ (t : SideMark). t.taken) (from_same Client m a b x.0 y.0)
taken_one (Rekey Server) cb sb m a b Server e x y = x.1.taken ∙ sym y.1.taken
taken_one Settle cb sb m a b Client e x y = x.0.to_client ∙ (e.1 ∙ sym y.0.to_client)
taken_one Settle cb sb m a b Server e x y = x.0.to_server ∙ (e.0 ∙ sym y.0.to_server)

submitted_one : (step : Step) (cb sb : Option ℕ) (m a b : Mark) (s : Side) → Effect step cb sb m a → Effect step cb sb m b → (mark_of s a).submitted ≡ (mark_of s b).submitted
submitted_one (Submit Client p) cb sb m a b Client x y = x.2 ∙ sym y.2
submitted_one (Submit Client p) cb sb m a b Server x y = ap (λ (t : SideMark). t.submitted) (from_same Server m a b x.0 y.0)
submitted_one (Submit Server p) cb sb m a b Client x y = ap (λ (t : SideMark). t.submitted) (from_same Client m a b x.0 y.0)
submitted_one (Submit Server p) cb sb m a b Server x y = x.2 ∙ sym y.2
submitted_one (Deliver Client n) cb sb m a b Client x y = x.2 ∙ sym y.2
submitted_one (Deliver Client n) cb sb m a b Server x y = ap (λ (t : SideMark). t.submitted) (from_same Server m a b x.0 y.0)
submitted_one (Deliver Server n) cb sb m a b Client x y = ap (λ (t : SideMark). t.submitted) (from_same Client m a b x.0 y.0)
submitted_one (Deliver Server n) cb sb m a b Server x y = x.2 ∙ sym y.2
submitted_one (Rekey Client) cb sb m a b Client x y = x.2 ∙ sym y.2
submitted_one (Rekey Client) cb sb m a b Server x y = ap (λ (t : SideMark). t.submitted) (from_same Server m a b x.0 y.0)
submitted_one (Rekey Server) cb sb m a b Client x y = ap (λ (t : SideMark). t.submitted) (from_same Client m a b x.0 y.0)
submitted_one (Rekey Server) cb sb m a b Server x y = x.2 ∙ sym y.2
submitted_one Settle cb sb m a b Client x y = x.1 ∙ sym y.1
submitted_one Settle cb sb m a b Server x y = x.2 ∙ sym y.2

two_sides : (a b : Mark) → a.client ≡ b.client → a.server ≡ b.server → a ≡ b
two_sides a b e f = ap (λ x. let t : Mark = record { client = x; server = a.server } in t) e ∙ ap (λ x. let t : Mark = record { client = b.client; server = x } in t) f

pub next_mark_one : (kind : Bool) (client server : Half) (step : Step) (cb sb : Option ℕ) (m : Mark) (a b : Moment) → SameSent a.mark b.mark → Effect step cb sb m a.mark → Effect step cb sb m b.mark → IsMoment kind client server a → IsMoment kind client server b → a.mark ≡ b.mark
next_mark_one kind client server step cb sb m a b e x y h k =
    two_sides a.mark b.mark
    (side_one kind client server a.mark.client b.mark.client a.mark.server b.mark.server a.client_own a.client_theirs b.client_own b.client_theirs e.0 (taken_one step cb sb m a.mark b.mark Client e x y) (submitted_one step cb sb m a.mark b.mark Client x y) h.at_client k.at_client)
    (side_one kind server client a.mark.server b.mark.server a.mark.client b.mark.client a.server_own a.server_theirs b.server_own b.server_theirs e.1 (taken_one step cb sb m a.mark b.mark Server e x y) (submitted_one step cb sb m a.mark b.mark Server x y) h.at_server k.at_server)

-- ---- all marks

pub same_pairs : (m n : Mark) → sent_at m ≡ sent_at n → SameSent m n
same_pairs m n e = (ap (λ (p : SentPair). p.client) e, ap (λ (p : SentPair). p.server) e)

marks_from : (kind : Bool) (client server : Half) (steps : List Step) (cb sb : Option ℕ) (a b : Moment) (as' bs : List Moment) → a.mark ≡ b.mark
    → AllMoments kind client server as' → AllMoments kind client server bs
    → Effects steps cb sb (a.mark ∷ map (λ (m : Moment). m.mark) as') → Effects steps cb sb (b.mark ∷ map (λ (m : Moment). m.mark) bs)
    → map sent_at (map (λ (m : Moment). m.mark) as') ≡ map sent_at (map (λ (m : Moment). m.mark) bs) → map (λ (m : Moment). m.mark) as' ≡ map (λ (m : Moment). m.mark) bs
marks_from kind client server steps cb sb a b [] [] e h k x y s = refl
marks_from kind client server steps cb sb a b [] (d ∷ bs) e h k x y s = absurd (let z : 0 ≡ suc (length (map sent_at (map (λ (m : Moment). m.mark) bs))) = ap length s in omega (arith, z))
marks_from kind client server steps cb sb a b (c ∷ as') [] e h k x y s = absurd (let z : suc (length (map sent_at (map (λ (m : Moment). m.mark) as'))) ≡ 0 = ap length s in omega (arith, z))
marks_from kind client server [] cb sb a b (c ∷ as') (d ∷ bs) e h k x y s = absurd x
marks_from kind client server (step ∷ steps) cb sb a b (c ∷ as') (d ∷ bs) e h k x y s =
    let there : Effect step (finished_at_rekey Client step a.mark cb) (finished_at_rekey Server step a.mark sb) a.mark d.mark = subst (λ m. Effect step (finished_at_rekey Client step m cb) (finished_at_rekey Server step m sb) m d.mark) (sym e) y.0 in
    let heads : sent_at c.mark ≡ sent_at d.mark = head_is (sent_at c.mark) (sent_at d.mark) _ _ s in
    let same = next_mark_one kind client server step _ _ a.mark c d (same_pairs c.mark d.mark heads) x.0 there h.0 k.0 in
    let behind : Effects steps (finished_at_rekey Client step a.mark cb) (finished_at_rekey Server step a.mark sb) (d.mark ∷ map (λ (m : Moment). m.mark) bs) = subst (λ m. Effects steps (finished_at_rekey Client step m cb) (finished_at_rekey Server step m sb) (d.mark ∷ map (λ (m : Moment). m.mark) bs)) (sym e) y.1 in
    both c.mark d.mark _ _ same (marks_from kind client server steps _ _ c d as' bs same h.1 k.1 x.1 behind (tail_is (sent_at c.mark) (sent_at d.mark) _ _ s))
  where
    both : {A : Type 0} (x y : A) (xs ys : List A) → x ≡ y → xs ≡ ys → x ∷ xs ≡ y ∷ ys
    both x y xs ys e f = cc

    head_is : {A : Type 0} (x y : A) (xs ys : List A) → x ∷ xs ≡ y ∷ ys → x ≡ y
    head_is x y xs ys e = cc

    tail_is : {A : Type 0} (x y : A) (xs ys : List A) → x ∷ xs ≡ y ∷ ys → xs ≡ ys
    tail_is x y xs ys e = cc

first_one : (client server : Half) (m n : Mark) → IsFirstMark client server m → IsFirstMark client server n → m ≡ n
first_one client server m n h k = two_sides m n (h.of_client ∙ sym k.of_client) (h.of_server ∙ sym k.of_server)

abbrev marks_in : List Moment → List Mark
marks_in moments = map (λ (m : Moment). m.mark) moments

pub runs_from : (kind : Bool) (client server : Half) (steps : List Step) (as' bs : List Moment) → ((m : Mark) × (slice_get (marks_in as') 0 ≡ Some m) × IsFirstMark client server m) → ((m : Mark) × (slice_get (marks_in bs) 0 ≡ Some m) × IsFirstMark client server m)
    → AllMoments kind client server as' → AllMoments kind client server bs → Effects steps None None (marks_in as') → Effects steps None None (marks_in bs) → map sent_at (marks_in as') ≡ map sent_at (marks_in bs) → marks_in as' ≡ marks_in bs
runs_from kind client server steps [] bs f g h k x y s = absurd (let z : None ≡ Some f.0 = f.1 in cc)
runs_from kind client server steps (a ∷ as') [] f g h k x y s = absurd (let z : None ≡ Some g.0 = g.1 in cc)
runs_from kind client server steps (a ∷ as') (b ∷ bs) f g h k x y s =
    let p : a.mark ≡ f.0 = one_of a.mark f.0 f.1 in
    let q : b.mark ≡ g.0 = one_of b.mark g.0 g.1 in
    let same : a.mark ≡ b.mark = p ∙ (first_one client server f.0 g.0 f.2 g.2 ∙ sym q) in
    both a.mark b.mark _ _ same (marks_from kind client server steps None None a b as' bs same h.1 k.1 x y (tail_is (sent_at a.mark) (sent_at b.mark) _ _ s))
  where
    one_of : (x y : Mark) → Some x ≡ Some y → x ≡ y
    one_of x y e = cc

    both : {A : Type 0} (x y : A) (xs ys : List A) → x ≡ y → xs ≡ ys → x ∷ xs ≡ y ∷ ys
    both x y xs ys e f = cc

    tail_is : {A : Type 0} (x y : A) (xs ys : List A) → x ∷ xs ≡ y ∷ ys → xs ≡ ys
    tail_is x y xs ys e = cc

-- two runs of the same steps that sent as much have the same marks
pub runs_one : (j : JudgedRecord) (xs : List FinishedExchange) (n : ℕ) (marks more : List Mark) → RunsBy j xs n marks → RunsBy j xs n more → marks ≡ more
runs_one j xs n marks more h k =
    let kind = is_gex j.names.kex in
    let client = half_recorded Client j xs in
    let server = half_recorded Server j xs in
    let steps = take n j.recording.steps in
    sym h.run.marks_are ∙ (runs_from kind client server steps h.run.moments k.run.moments
    (subst (λ t. (m : Mark) × (slice_get t 0 ≡ Some m) × IsFirstMark client server m) (sym h.run.marks_are) h.run.first)
    (subst (λ t. (m : Mark) × (slice_get t 0 ≡ Some m) × IsFirstMark client server m) (sym k.run.marks_are) k.run.first)
    h.run.each k.run.each
    (subst (Effects steps None None) (sym h.run.marks_are) h.run.effects)
    (subst (Effects steps None None) (sym k.run.marks_are) k.run.effects)
    (ap (map sent_at) h.run.marks_are ∙ (h.sent ∙ (sym k.sent ∙ ap (map sent_at) (sym k.run.marks_are)))) ∙ k.run.marks_are)
