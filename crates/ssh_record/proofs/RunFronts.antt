-- The first steps of a run, with its first marks, are a run.
use Rattle.std.proofs.Common.{◌≡◌, ◌⊎◌, inl, inr, ℕ, zero, suc, ◌+◌, ◌<◌, ◌≤◌, List, [], ◌∷◌, ◌++◌, length, take, drop, map, slice_get, refl, sym, ◌∙◌, ap, subst, arith, append_assoc, append-nil, Option, Some, None, Bool, true, false, if◌then◌else◌, ◌==◌}
use Rattle.std.proofs.lemmas.Bool.{cases_lt}
use Rattle.std.proofs.lemmas.List.Sums.{fold_push}
use Rattle.ssh_packet.proofs.Lemmas.{one_packet, length_sealed}
use Rattle.ssh_packet.specs.Sealing.{Item}
use Rattle.ssh_packet.specs.Stream.{Place, first_place, Reads, place_after, packet_at}
use Rattle.ssh_wire.specs.Lines.{id_line}
use Rattle.ssh_wire.specs.Sides.{other_side}
use Rattle.ssh_wire.specs.declared.side.Side.{Side}
use Rattle.ssh_wire.specs.declared.side.Side.TheVariants.{Client, Server}
use Rattle.ssh_kex.specs.Exchange.{outgoing}
use Rattle.ssh_rules.specs.Marks.{Half, IsMarked, kexinits}
use Rattle.ssh_rules.specs.MessageTypes.{type_of}
use Rattle.ssh_rules.specs.Run.{AllMoments, Effect, Effects, HaveCauses, IsMoment, IsRun, Moment, OwnCause, WrittenAt, mark_of, own_of, theirs_of}
use Rattle.ssh_rules.specs.Wire.{HasFront, LiesWhole}
use Rattle.ssh_rules.specs.declared.link.Mark.{Mark}
use Rattle.ssh_rules.specs.declared.link.SideMark.{SideMark}
use Rattle.ssh_rules.specs.declared.link.Step.{Step}
use Rattle.ssh_rules.specs.declared.link.Step.TheVariants.{Submit, Deliver, Rekey, Settle}
use Rattle.ssh_record.proofs.Readings.{front_cons, front_none}

-- ---- elements of a front

pub get_of_take : {A : Type 0} (n : ℕ) (xs : List A) (i : ℕ) (x : A) → slice_get (take n xs) i ≡ Some x → slice_get xs i ≡ Some x
get_of_take zero xs i x e = absurd (let p : None ≡ Some x = e in cc)
get_of_take (suc n) [] i x e = e
get_of_take (suc n) (y ∷ xs) zero x e = e
get_of_take (suc n) (y ∷ xs) (suc i) x e = get_of_take n xs i x e

pub get_below : {A : Type 0} (n : ℕ) (xs : List A) (i : ℕ) (x : A) → slice_get (take n xs) i ≡ Some x → i < n
get_below zero xs i x e = absurd (let p : None ≡ Some x = e in cc)
get_below (suc n) [] i x e = absurd (let p : None ≡ Some x = e in cc)
get_below (suc n) (y ∷ xs) zero x e = omega arith
get_below (suc n) (y ∷ xs) (suc i) x e = omega (arith, get_below n xs i x e)

pub get_in_take : {A : Type 0} (n : ℕ) (xs : List A) (i : ℕ) (x : A) → i < n → slice_get xs i ≡ Some x → slice_get (take n xs) i ≡ Some x
get_in_take zero xs i x l e = absurd (omega (arith, l))
get_in_take (suc n) [] i x l e = e
get_in_take (suc n) (y ∷ xs) zero x l e = e
get_in_take (suc n) (y ∷ xs) (suc i) x l e = get_in_take n xs i x (omega (arith, l)) e

pub map_take : {A B : Type 0} (f : A → B) (n : ℕ) (xs : List A) → map f (take n xs) ≡ take n (map f xs)
map_take f zero xs = refl
map_take f (suc n) [] = refl
map_take f (suc n) (x ∷ xs) = ap (λ t. f x ∷ t) (map_take f n xs)

pub take_less : {A : Type 0} (m n : ℕ) (xs : List A) → m ≤ n → take m (take n xs) ≡ take m xs
take_less zero n xs l = refl
take_less (suc m) zero xs l = absurd (omega (arith, l))
take_less (suc m) (suc n) [] l = refl
take_less (suc m) (suc n) (x ∷ xs) l = ap (λ t. x ∷ t) (take_less m n xs (omega (arith, l)))

-- ---- fronts of bytes

pub front_take : {A : Type 0} (m n : ℕ) (xs : List A) → m ≤ n → HasFront (take n xs) (take m xs)
front_take zero n xs l = front_none (take n xs)
front_take (suc m) zero xs l = absurd (omega (arith, l))
front_take (suc m) (suc n) [] l = ([], refl)
front_take (suc m) (suc n) (x ∷ xs) l = front_cons x x (take m xs) (take n xs) refl (front_take m n xs (omega (arith, l)))

pub front_drop : {A : Type 0} (n : ℕ) (b a : List A) → HasFront b a → HasFront (drop n b) (drop n a)
front_drop zero b a f = f
front_drop (suc n) b [] f = front_none (drop (suc n) b)
front_drop (suc n) [] (x ∷ a) f = absurd (let p : x ∷ (a ++ f.0) ≡ [] = f.1 in (let q : suc (length (a ++ f.0)) ≡ 0 = ap length p in omega (arith, q)))
front_drop (suc n) (y ∷ b) (x ∷ a) f = front_drop n b a (f.0, (let p : x ∷ (a ++ f.0) ≡ y ∷ b = f.1 in (let q : a ++ f.0 ≡ b = cc in q)))

nothing_at : (p : Place) (i : Item) (more u : List ℕ) → (packet_at p i ++ more) ++ u ≡ [] → ⊥
nothing_at p i more u e = omega (arith, ap length (append_assoc (packet_at p i) more u), ap length e, Rattle.std.proofs.Common.length-append (packet_at p i) (more ++ u), length_sealed p.sealing p.number i)

-- what is read of a front of a wire's bytes is a front of what the bytes hold
pub reads_within : (at : Option Place) (a b : List Item) (x r y u : List ℕ) → Reads at a x r → Reads at b y [] → x ++ u ≡ y → HasFront b a
reads_within at [] b x r y u h k e = front_none b
reads_within None (i ∷ a) b x r y u h k e = absurd h
reads_within (Some at) (i ∷ a) [] x r y u h k e = absurd (nothing_at at i h.0 u (ap (λ t. t ++ u) (sym h.2) ∙ (e ∙ k)))
reads_within (Some at) (i ∷ a) (j ∷ b) x r y u h k e =
    let joined : packet_at at i ++ (h.0 ++ u) ≡ packet_at at j ++ k.0 = sym (append_assoc (packet_at at i) h.0 u) ∙ (ap (λ t. t ++ u) (sym h.2) ∙ (e ∙ k.2)) in
    let one = one_packet at.sealing at.number i j (h.0 ++ u) k.0 h.1 k.1 joined in
    let onward : Reads (place_after at i) b k.0 [] = subst (λ t. Reads (place_after at t) b k.0 []) (sym one.0) k.3 in
    front_cons i j a b one.0 (reads_within (place_after at i) a b h.0 r k.0 u h.3 onward one.1)

grows_by : (more w : List Item) → kexinits w ≤ kexinits (w ++ more)
grows_by [] w = let e : kexinits (w ++ []) ≡ kexinits w = ap kexinits (append-nil w) in omega (arith, e)
grows_by (j ∷ more) w =
    let p : kexinits (w ++ j ∷ []) ≡ kexinits w + (if type_of j == 20 then 1 else 0) = fold_push _ 0 w j in
    let a : kexinits ((w ++ j ∷ []) ++ more) ≡ kexinits (w ++ j ∷ more) = ap kexinits (append_assoc w (j ∷ []) more) in
    omega (arith, p, a, grows_by more (w ++ j ∷ []))

pub kexinits_front : (b a : List Item) → HasFront b a → kexinits a ≤ kexinits b
kexinits_front b a f = subst (λ t. kexinits a ≤ kexinits t) f.1 (grows_by f.0 a)

-- ---- of each moment

pub moment_at : (kind : Bool) (client server : Half) (moments : List Moment) (i : ℕ) (m : Moment) → AllMoments kind client server moments → slice_get moments i ≡ Some m → IsMoment kind client server m
moment_at kind client server [] i m h e = absurd (let p : None ≡ Some m = e in cc)
moment_at kind client server (x ∷ moments) zero m h e = subst (IsMoment kind client server) (let p : Some x ≡ Some m = e in cc) h.0
moment_at kind client server (x ∷ moments) (suc i) m h e = moment_at kind client server moments i m h.1 e

moments_front : (kind : Bool) (client server : Half) (n : ℕ) (moments : List Moment) → AllMoments kind client server moments → AllMoments kind client server (take n moments)
moments_front kind client server zero moments h = tt
moments_front kind client server (suc n) [] h = tt
moments_front kind client server (suc n) (m ∷ moments) h = (h.0, moments_front kind client server n moments h.1)

-- the half of a side
abbrev pub half_by : Side → Half → Half → Half
half_by Client client server = client
half_by Server client server = server

pub marked_at : (kind : Bool) (client server : Half) (s : Side) (m : Moment) → IsMoment kind client server m → IsMarked kind (half_by s client server) (half_by (other_side s) client server) (mark_of s m.mark) (mark_of (other_side s) m.mark) (own_of s m) (theirs_of s m)
marked_at kind client server Client m h = h.at_client
marked_at kind client server Server m h = h.at_server

-- ---- what was sent grows

same_sent : (s : Side) (m m' : Mark) → mark_of s m' ≡ mark_of s m → (mark_of s m).sent ≤ (mark_of s m').sent
same_sent s m m' e = omega (arith, ap (λ (x : SideMark). x.sent) e)

step_grows : (step : Step) (cb sb : Option ℕ) (m m' : Mark) (s : Side) → Effect step cb sb m m' → (mark_of s m).sent ≤ (mark_of s m').sent
step_grows (Submit Client p) cb sb m m' Client h = h.3
step_grows (Submit Client p) cb sb m m' Server h = same_sent Server m m' h.0
step_grows (Submit Server p) cb sb m m' Client h = same_sent Client m m' h.0
step_grows (Submit Server p) cb sb m m' Server h = h.3
step_grows (Deliver Client n) cb sb m m' Client h = h.3
step_grows (Deliver Client n) cb sb m m' Server h = same_sent Server m m' h.0
step_grows (Deliver Server n) cb sb m m' Client h = same_sent Client m m' h.0
step_grows (Deliver Server n) cb sb m m' Server h = h.3
step_grows (Rekey Client) cb sb m m' Client h = by m.client.inside refl where
  by : (b : Bool) → m.client.inside ≡ b → m.client.sent ≤ m'.client.sent
  by true e = same_sent Client m m' (h.3 e)
  by false e = omega (arith, (h.4 e).0)
step_grows (Rekey Client) cb sb m m' Server h = same_sent Server m m' h.0
step_grows (Rekey Server) cb sb m m' Client h = same_sent Client m m' h.0
step_grows (Rekey Server) cb sb m m' Server h = by m.server.inside refl where
  by : (b : Bool) → m.server.inside ≡ b → m.server.sent ≤ m'.server.sent
  by true e = same_sent Server m m' (h.3 e)
  by false e = omega (arith, (h.4 e).0)
step_grows Settle cb sb m m' Client h = h.3
step_grows Settle cb sb m m' Server h = h.4

from_first : (s : Side) (steps : List Step) (cb sb : Option ℕ) (m : Mark) (marks : List Mark) (i : ℕ) (m' : Mark) → Effects steps cb sb (m ∷ marks) → slice_get (m ∷ marks) i ≡ Some m' → (mark_of s m).sent ≤ (mark_of s m').sent
from_first s steps cb sb m marks zero m' h e = omega (arith, ap (λ (x : Mark). (mark_of s x).sent) (let p : Some m ≡ Some m' = e in (let q : m ≡ m' = cc in q)))
from_first s steps cb sb m [] (suc i) m' h e = absurd (let p : None ≡ Some m' = e in cc)
from_first s [] cb sb m (n ∷ marks) (suc i) m' h e = absurd h
from_first s (step ∷ steps) cb sb m (n ∷ marks) (suc i) m' h e = omega (arith, step_grows step _ _ m n s h.0, from_first s steps _ _ n marks i m' h.1 e)

pub sents_grow : (s : Side) (steps : List Step) (cb sb : Option ℕ) (marks : List Mark) (i k : ℕ) (m m' : Mark) → Effects steps cb sb marks → slice_get marks i ≡ Some m → slice_get marks k ≡ Some m' → i ≤ k → (mark_of s m).sent ≤ (mark_of s m').sent
sents_grow s steps cb sb [] i k m m' h e f l = absurd (let p : None ≡ Some m = e in cc)
sents_grow s steps cb sb (x ∷ marks) zero k m m' h e f l = omega (arith, from_first s steps cb sb x marks k m' h f, ap (λ (y : Mark). (mark_of s y).sent) (let p : Some x ≡ Some m = e in (let q : x ≡ m = cc in q)))
sents_grow s steps cb sb (x ∷ marks) (suc i) zero m m' h e f l = absurd (omega (arith, l))
sents_grow s steps cb sb (x ∷ []) (suc i) (suc k) m m' h e f l = absurd (let p : None ≡ Some m = e in cc)
sents_grow s [] cb sb (x ∷ y ∷ marks) (suc i) (suc k) m m' h e f l = absurd h
sents_grow s (step ∷ steps) cb sb (x ∷ y ∷ marks) (suc i) (suc k) m m' h e f l = sents_grow s steps _ _ (y ∷ marks) i k m m' h.1 e f (omega (arith, l))

-- ---- what was read was sent before

pub get_map : {A B : Type 0} (f : A → B) (xs : List A) (i : ℕ) (x : A) → slice_get xs i ≡ Some x → slice_get (map f xs) i ≡ Some (f x)
get_map f [] i x e = absurd (let p : None ≡ Some x = e in cc)
get_map f (y ∷ xs) zero x e = ap (λ t. Rattle.std.specs.Option.option_map f t) e
get_map f (y ∷ xs) (suc i) x e = get_map f xs i x e

-- the packets that a side has read at one moment are a front of those that the other has sent by any later one
pub read_sent : (kind : Bool) (client server : Half) (s : Side) (a b : Moment) → IsMoment kind client server a → IsMoment kind client server b → (mark_of (other_side s) a.mark).sent ≤ (mark_of (other_side s) b.mark).sent → HasFront (own_of (other_side s) b) (theirs_of s a)
read_sent kind client server Client a b h k l =
    let line = length (id_line server.config.id) in
    let f = front_drop line (take b.mark.server.sent server.wire) (take a.mark.client.taken server.wire) (front_take a.mark.client.taken b.mark.server.sent server.wire (omega (arith, h.at_client.taken, l))) in
    let whole : LiesWhole server.side server.config server.exchanges server.wire a.mark.client.taken a.client_theirs = h.at_client.taken_whole in
    reads_within (Some (first_place (map (outgoing server.side) server.exchanges))) a.client_theirs b.server_own _ whole.0 _ f.0 whole.1.reads k.at_server.sent f.1
read_sent kind client server Server a b h k l =
    let line = length (id_line client.config.id) in
    let f = front_drop line (take b.mark.client.sent client.wire) (take a.mark.server.taken client.wire) (front_take a.mark.server.taken b.mark.client.sent client.wire (omega (arith, h.at_server.taken, l))) in
    let whole : LiesWhole client.side client.config client.exchanges client.wire a.mark.server.taken a.server_theirs = h.at_server.taken_whole in
    reads_within (Some (first_place (map (outgoing client.side) client.exchanges))) a.server_theirs b.client_own _ whole.0 _ f.0 whole.1.reads k.at_client.sent f.1

abbrev pub Follows : List Moment → Side → Type 0
Follows moments s = (i k : ℕ) (a b : Moment) → slice_get moments i ≡ Some a → slice_get moments k ≡ Some b → i ≤ k → kexinits (theirs_of s a) ≤ kexinits (own_of (other_side s) b)

pub follows : (kind : Bool) (client server : Half) (steps : List Step) (marks : List Mark) (run : IsRun kind client server steps marks) (s : Side) → Follows run.moments s
follows kind client server steps marks run s i k a b e f l =
    let at : (n : ℕ) (x : Moment) → slice_get run.moments n ≡ Some x → slice_get marks n ≡ Some x.mark = λ n x g. subst (λ t. slice_get t n ≡ Some x.mark) run.marks_are (get_map (λ (m : Moment). m.mark) run.moments n x g) in
    kexinits_front (own_of (other_side s) b) (theirs_of s a) (read_sent kind client server s a b (moment_at kind client server run.moments i a run.each e) (moment_at kind client server run.moments k b run.each f)
    (sents_grow (other_side s) steps None None marks i k a.mark b.mark run.effects (at i a e) (at k b f) l))

-- ---- the first steps

effects_front : (n : ℕ) (steps : List Step) (cb sb : Option ℕ) (marks : List Mark) → Effects steps cb sb marks → Effects (take n steps) cb sb (take (suc n) marks)
effects_front zero [] cb sb [] h = absurd h
effects_front zero [] cb sb (m ∷ []) h = tt
effects_front zero [] cb sb (m ∷ m' ∷ marks) h = absurd h
effects_front zero (step ∷ steps) cb sb [] h = absurd h
effects_front zero (step ∷ steps) cb sb (m ∷ []) h = absurd h
effects_front zero (step ∷ steps) cb sb (m ∷ m' ∷ marks) h = tt
effects_front (suc n) [] cb sb [] h = absurd h
effects_front (suc n) [] cb sb (m ∷ []) h = tt
effects_front (suc n) [] cb sb (m ∷ m' ∷ marks) h = absurd h
effects_front (suc n) (step ∷ steps) cb sb [] h = absurd h
effects_front (suc n) (step ∷ steps) cb sb (m ∷ []) h = absurd h
effects_front (suc n) (step ∷ steps) cb sb (m ∷ m' ∷ marks) h = (h.0, effects_front n steps _ _ (m' ∷ marks) h.1)

written_less : (n : ℕ) (moments : List Moment) (s : Side) (k i : ℕ) → WrittenAt (take (suc n) moments) s k i → WrittenAt moments s k i
written_less n moments s k i w = (w.0, w.1, get_of_take (suc n) moments i w.0 w.2, get_of_take (suc n) moments (suc i) w.1 w.3, w.4, w.5)

written_in : (n : ℕ) (moments : List Moment) (s : Side) (k i : ℕ) → suc i < suc n → WrittenAt moments s k i → WrittenAt (take (suc n) moments) s k i
written_in n moments s k i l w = (w.0, w.1, get_in_take (suc n) moments i w.0 (omega (arith, l)) w.2, get_in_take (suc n) moments (suc i) w.1 l w.3, w.4, w.5)

cause_in : (n : ℕ) (steps : List Step) (moments : List Moment) (half : Half) (k i : ℕ) → suc i < suc n → OwnCause steps moments half k i → OwnCause (take n steps) (take (suc n) moments) half k i
cause_in n steps moments half k i l (inl h) = inl (get_in_take n steps i _ (omega (arith, l)) h)
cause_in n steps moments half k i l (inr (inl h)) = inr (inl (h.0, get_in_take (suc n) moments (suc i) h.0 l h.1, h.2))
cause_in n steps moments half k i l (inr (inr h)) = inr (inr (h.0, get_in_take (suc n) moments (suc i) h.0 l h.1, h.2))

-- what the other wrote before it was read was written in no later step
no_later : (moments : List Moment) (s : Side) (k i j : ℕ) (after : Moment) → Follows moments s → slice_get moments (suc j) ≡ Some after → k < kexinits (theirs_of s after) → WrittenAt moments (other_side s) k i → i ≤ j
no_later moments s k i j after f e l w = elim (cases_lt j i) [ inl below ↦ absurd (omega (arith, f (suc j) i after w.0 e w.2 (omega (arith, below)), w.4, l)) | inr within ↦ within ]

causes_front : (n : ℕ) (steps : List Step) (moments : List Moment) (half other : Half) → other.side ≡ other_side half.side → Follows moments half.side → HaveCauses steps moments half other → HaveCauses (take n steps) (take (suc n) moments) half other
causes_front n steps moments half other o f h k j least w =
    let within : suc j < suc n = get_below (suc n) moments (suc j) w.1 w.3 in
    by within (h k j least (written_less n moments half.side k j w))
  where
    by : suc j < suc n → (OwnCause steps moments half k j ⊎ ((after : Moment) × (slice_get moments (suc j) ≡ Some after) × (k < kexinits (theirs_of half.side after)) × (i : ℕ) × WrittenAt moments other.side k i × OwnCause steps moments other k i))
        → (OwnCause (take n steps) (take (suc n) moments) half k j ⊎ ((after : Moment) × (slice_get (take (suc n) moments) (suc j) ≡ Some after) × (k < kexinits (theirs_of half.side after)) × (i : ℕ) × WrittenAt (take (suc n) moments) other.side k i × OwnCause (take n steps) (take (suc n) moments) other k i))
    by within (inl c) = inl (cause_in n steps moments half k j within c)
    by within (inr c) =
        let below : c.3 ≤ j = no_later moments half.side k c.3 j c.0 f c.1 c.2 (subst (λ s. WrittenAt moments s k c.3) o c.4) in
        let short : suc c.3 < suc n = omega (arith, below, within) in
        inr (c.0, get_in_take (suc n) moments (suc j) c.0 within c.1, c.2, c.3, written_in n moments other.side k c.3 short c.4, cause_in n steps moments other k c.3 short c.5)

pub run_front : (n : ℕ) (kind : Bool) (client server : Half) (steps : List Step) (marks : List Mark) → client.side ≡ Client → server.side ≡ Server → IsRun kind client server steps marks → IsRun kind client server (take n steps) (take (suc n) marks)
run_front n kind client server steps marks cs ss run = record {
  moments = take (suc n) run.moments;
  marks_are = map_take (λ (m : Moment). m.mark) (suc n) run.moments ∙ ap (take (suc n)) run.marks_are;
  each = moments_front kind client server (suc n) run.moments run.each;
  first = (run.first.0, get_in_take (suc n) marks 0 run.first.0 (omega arith) run.first.1, run.first.2);
  effects = effects_front n steps None None marks run.effects;
  begins_one = λ j s before after e f g outside. run.begins_one j s before after (get_of_take n steps j _ e) (get_of_take (suc n) run.moments j before f) (get_of_take (suc n) run.moments (suc j) after g) outside;
  client_causes = causes_front n steps run.moments client server (ss ∙ sym (ap other_side cs)) (follows kind client server steps marks run client.side) run.client_causes;
  server_causes = causes_front n steps run.moments server client (cs ∙ sym (ap other_side ss)) (follows kind client server steps marks run server.side) run.server_causes;
}

-- its moments are the first ones
pub run_front_moments : (n : ℕ) (kind : Bool) (client server : Half) (steps : List Step) (marks : List Mark) (cs : client.side ≡ Client) (ss : server.side ≡ Server) (run : IsRun kind client server steps marks) → (run_front n kind client server steps marks cs ss run).moments ≡ take (suc n) run.moments
unfolding run_front
run_front_moments n kind client server steps marks cs ss run = refl
