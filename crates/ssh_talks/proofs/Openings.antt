-- A channel is opened, and the opening is answered: what this does to the channels of both sides.
use Rattle.std.proofs.Common.{◌≡◌, ℕ, ◌<◌, ◌≤◌, ◌==◌, ◌&&◌, Bool, true, false, if◌then◌else◌, List, [], ◌∷◌, ◌++◌, length, slice_get, Option, Some, None, ◌⊎◌, inl, inr, refl, sym, ap, ◌∙◌, subst, arith, append-nil}
use Rattle.std.proofs.lemmas.Option.{slice_get_within}
use Rattle.ssh_channels.specs.Phases.{Message, Open, Confirmation, Failure, Adjust, Data, Eof, Close, behind, has_told}
use Rattle.ssh_channels.specs.declared.end.Phase.{Phase}
use Rattle.ssh_channels.specs.declared.end.Phase.TheVariants.{Silent, Talking}
use Rattle.ssh_channels.specs.declared.end.End.{End}
use Rattle.ssh_channels.specs.Ends.{Receives, fresh}
use Rattle.ssh_channels.specs.Conversation.{OtherHears, Talk, opened}
use Rattle.ssh_channels.specs.Muxes.{Channel, Mux, Packet, addressed}
use Rattle.ssh_channels.proofs.Lemmas.{Each, behind_none}
use Rattle.ssh_talks.specs.Talks.{Answer, As, NotYet, OtherEnd, Refused, for_channel, is_opening, is_to, opening_of, opens_as}
use Rattle.ssh_talks.proofs.Packets.{Every, every_more, every_weaker, every_with, for_behind, for_more, get_either, get_near, get_new, if_false, if_true, is_same, many_new, not_same, one_or_two, opening_behind, opening_more}
use Rattle.ssh_talks.proofs.Halves.{Half, IsAt, IsOpen, IsOpening, IsThere, Opens, TellsNumber, answering, apart, one_some, stays, with_channels}
use Rattle.ssh_talks.proofs.Mute.{joint_is, reached_more, unheard_by}

-- ---- what is on the way to a number that no channel has

pub none_for : (channels : List Channel) (n : ℕ) (way : List Packet) → length channels ≤ n → Every (IsThere channels) way → for_channel n way ≡ []
none_for channels n [] l h = refl
none_for channels n (p ∷ way) l h =
    if_false (is_to n p.to) (p.message ∷ for_channel n way) (for_channel n way) (not_to p.to refl) ∙ none_for channels n way l h.1
  where
    not_to : (to : Option ℕ) → p.to ≡ to → is_to n to ≡ false
    not_to None e = refl
    not_to (Some k) e = not_same k n (λ f. let a = h.0 k e in omega (arith, a, f, l))

pub none_opens : (channels : List Channel) (n : ℕ) (way : List Packet) → length channels ≤ n → Every (IsOpening channels) way → opening_of n way ≡ []
none_opens channels n [] l h = refl
none_opens channels n (p ∷ way) l h =
    if_false (opens_as n p) (p.message ∷ opening_of n way) (opening_of n way) (not_as p.to refl) ∙ none_opens channels n way l h.1
  where
    not_as : (to : Option ℕ) → p.to ≡ to → (is_opening to && (p.from == n)) ≡ false
    not_as None e = let a = (h.0 e).0 in let b = slice_get_within channels p.from a.0 a.1 in not_same p.from n (λ f. omega (arith, b, f, l))
    not_as (Some k) e = refl

-- ---- one channel more

at_more : (channels : List Channel) (c : Channel) (kind : Bool) (n : ℕ) → IsAt channels kind n → IsAt (channels ++ c ∷ []) kind n
at_more channels c kind n h = (h.0, get_near channels n h.0 c h.1, h.2)

openings_more : (channels : List Channel) (c : Channel) (way : List Packet) → Every (IsOpening channels) way → Every (IsOpening (channels ++ c ∷ [])) way
openings_more channels c way h = every_weaker (IsOpening channels) (IsOpening (channels ++ c ∷ [])) way (λ p k o. (at_more channels c true p.from (k o).0, (k o).1)) h

there_more : (channels : List Channel) (c : Channel) (way : List Packet) → Every (IsThere channels) way → Every (IsThere (channels ++ c ∷ [])) way
there_more channels c way h = every_weaker (IsThere channels) (IsThere (channels ++ c ∷ [])) way (λ p k n e. let a = k n e in let b = many_new channels c in omega (arith, a, b)) h

told_more : (channels : List Channel) (c : Channel) (answers : ℕ → Answer) (way : List Packet) → Every (IsThere channels) way → Every (TellsNumber channels answers) way → Every (TellsNumber (channels ++ c ∷ []) answers) way
told_more channels c answers way there h =
    every_with (IsThere channels) (TellsNumber channels answers) (TellsNumber (channels ++ c ∷ []) answers) way
    (λ p k t n e at w m f. t n e (was n (k n e) at) w m f) there h
  where
    was : (n : ℕ) → n < length channels → IsAt (channels ++ c ∷ []) true n → IsAt channels true n
    was n l at = elim (get_either channels c n at.0 at.1) [
      | inl x ↦ (at.0, x, at.2)
      | inr x ↦ absurd (let y = x.0 in omega (arith, l, y))
    ]

-- ---- a side opens a channel

abbrev pub started_channel : Mux → Channel
started_channel a = record { started = true; peer = 0; end = fresh a.window a.most Talking }

pub start_own : (a b : Mux) (to_b to_a : List Packet) (answers : ℕ → Answer) → Half a b to_b to_a answers
    → Half (with_channels a (a.channels ++ started_channel a ∷ [])) b (to_b ++ addressed (length a.channels) 0 (Open a.window a.most) ∷ []) to_a answers
start_own a b to_b to_a answers h = record {
  each = λ m x there started. elim (get_either a.channels (started_channel a) m x there) [
    | inl was ↦
        let far : length a.channels ≡ m → ⊥ = (λ e. let l = slice_get_within a.channels m x was in omega (arith, e, l)) in
        stays a b to_b to_a (to_b ++ opening ∷ []) to_a (a.channels ++ started_channel a ∷ []) b.channels (answers m) m x (h.each m x was started)
        refl (opening_more m to_b (opening ∷ []) ∙ (ap (λ l. opening_of m to_b ++ l) (if_false (length a.channels == m) (opening.message ∷ []) [] (not_same (length a.channels) m far)) ∙ append-nil (opening_of m to_b)))
        (λ k f. (refl, for_more k to_b (opening ∷ []) ∙ append-nil (for_channel k to_b)))
    | inr e ↦
        let n : ℕ = length a.channels in
        let not_yet : answers n ≡ NotYet = h.later n (omega arith) in
        let told : opening_of n (to_b ++ opening ∷ []) ≡ Open a.window a.most ∷ [] =
        opening_more n to_b (opening ∷ []) ∙ (ap (λ l. l ++ opening_of n (opening ∷ [])) (none_opens a.channels n to_b (omega arith) h.openings) ∙ if_true (n == n) (opening.message ∷ []) [] (is_same n n refl)) in
        let new : Opens (with_channels a (a.channels ++ started_channel a ∷ [])) b (to_b ++ opening ∷ []) to_a NotYet n (started_channel a) = record {
          talk = opened a.window a.most b.window b.most;
          reached = ([], refl);
          own_is = refl;
          to_own_is = sym (none_for a.channels n to_a (omega arith) h.there);
          other_is = (refl, sym told);
          once = λ w. absurd (w refl);
          peer_is = λ k f. absurd (let z : NotYet ≡ As k = f in cc);
          answered = λ k f. absurd (let z : NotYet ≡ As k = f in cc);
        } in
        subst (λ i. Opens (with_channels a (a.channels ++ started_channel a ∷ [])) b (to_b ++ opening ∷ []) to_a (answers i) i x) (sym e.0)
        (subst (λ y. Opens (with_channels a (a.channels ++ started_channel a ∷ [])) b (to_b ++ opening ∷ []) to_a y n x) (sym not_yet)
        (subst (λ y. Opens (with_channels a (a.channels ++ started_channel a ∷ [])) b (to_b ++ opening ∷ []) to_a NotYet n y) e.1 new))
  ];
  later = λ m l. h.later m (let k = many_new a.channels (started_channel a) in omega (arith, k, l));
  accepted = λ k d there kind. let x = h.accepted k d there kind in (x.0, at_more a.channels (started_channel a) true d.peer x.1);
  openings = every_more (IsOpening (a.channels ++ started_channel a ∷ [])) to_b (opening ∷ []) (openings_more a.channels (started_channel a) to_b h.openings)
      ((λ e. ((started_channel a, get_new a.channels (started_channel a), refl), tt)), tt);
  there = there_more a.channels (started_channel a) to_a h.there;
  told = told_more a.channels (started_channel a) answers to_a h.there h.told;
}
  where
    opening : Packet
    opening = addressed (length a.channels) 0 (Open a.window a.most)

pub start_cross : (a b : Mux) (to_b to_a : List Packet) (answers : ℕ → Answer) → Half a b to_b to_a answers
    → Half a (with_channels b (b.channels ++ started_channel b ∷ [])) to_b (to_a ++ addressed (length b.channels) 0 (Open b.window b.most) ∷ []) answers
start_cross a b to_b to_a answers h = record {
  each = λ m x there started.
      let o = h.each m x there started in
      stays a b to_b to_a to_b (to_a ++ opening ∷ []) a.channels (b.channels ++ started_channel b ∷ []) (answers m) m x o
      (for_more m to_a (opening ∷ []) ∙ append-nil (for_channel m to_a)) refl
      (λ k f. let u = answering m k b to_b (answers m) o.talk o.other_is f in (get_near b.channels k u.0 (started_channel b) u.1 ∙ sym u.1, refl));
  later = h.later;
  accepted = λ k d there kind. elim (get_either b.channels (started_channel b) k d there) [
    | inl was ↦ h.accepted k d was kind
    | inr e ↦ absurd (let z : true ≡ false = ap (λ (c : Channel). c.started) e.1 ∙ kind in cc)
  ];
  openings = h.openings;
  there = every_more (IsThere a.channels) to_a (opening ∷ []) h.there ((λ n e. absurd (let z : None ≡ Some n = e in cc)), tt);
  told = every_more (TellsNumber a.channels answers) to_a (opening ∷ []) h.told ((λ n e at w m f. absurd (let z : None ≡ Some n = e in cc)), tt);
}
  where
    opening : Packet
    opening = addressed (length b.channels) 0 (Open b.window b.most)

-- ---- an opening is answered

-- these answers, but for one
abbrev pub answers_with : ℕ → Answer → (ℕ → Answer) → ℕ → Answer
answers_with n x answers m = if n == m then x else answers m

with_here : (n : ℕ) (x : Answer) (answers : ℕ → Answer) (m : ℕ) → n ≡ m → answers_with n x answers m ≡ x
with_here n x answers m e = if_true (n == m) x (answers m) (is_same n m e)

with_there : (n : ℕ) (x : Answer) (answers : ℕ → Answer) (m : ℕ) → (n ≡ m → ⊥) → answers_with n x answers m ≡ answers m
with_there n x answers m e = if_false (n == m) x (answers m) (not_same n m e)

-- openings alone are on the way for a channel that is to be opened
opening_open : (channels : List Channel) (n : ℕ) (way : List Packet) → Every (IsOpening channels) way → Each IsOpen (opening_of n way)
opening_open channels n [] h = tt
opening_open channels n (p ∷ way) h = on p.to refl (opening_open channels n way h.1)
  where
    by : (t : Bool) → IsOpen p.message → Each IsOpen (opening_of n way) → Each IsOpen (if t then p.message ∷ opening_of n way else opening_of n way)
    by true o rest = (o, rest)
    by false o rest = rest

    on : (to : Option ℕ) → p.to ≡ to → Each IsOpen (opening_of n way) → Each IsOpen (if is_opening to && (p.from == n) then p.message ∷ opening_of n way else opening_of n way)
    on None e rest = by (p.from == n) (h.0 e).1 rest
    on (Some k) e rest = rest

no_second : (a : Bool) (ms : List Message) (q : Phase) → Each IsOpen ms → behind a (Some Talking) ms ≡ Some q → ms ≡ []
no_second a [] q h e = refl
no_second a (Open w k ∷ ms) q h e = absurd (let z : None ≡ Some q = sym (behind_none a ms) ∙ e in cc)
no_second a (Confirmation w k ∷ ms) q h e = absurd h.0
no_second a (Failure ∷ ms) q h e = absurd h.0
no_second a (Adjust n ∷ ms) q h e = absurd h.0
no_second a (Data bytes ∷ ms) q h e = absurd h.0
no_second a (Eof ∷ ms) q h e = absurd h.0
no_second a (Close ∷ ms) q h e = absurd h.0

is_not_yet : (x : Answer) → (x ≡ NotYet) ⊎ (x ≡ NotYet → ⊥)
is_not_yet NotYet = inl refl
is_not_yet (As k) = inr (λ e. let z : As k ≡ NotYet = e in cc)
is_not_yet Refused = inr (λ e. let z : Refused ≡ NotYet = e in cc)

-- What is known where the next packet on the way opens a channel.
pub record Asking (a b : Mux) (p : Packet) (rest to_a : List Packet) (answers : ℕ → Answer) (c : Channel) (o : Opens a b (p ∷ rest) to_a (answers p.from) p.from c) : Type 0 where
  pub not_yet : answers p.from ≡ NotYet
  pub other_is : o.talk.other ≡ fresh b.window b.most Silent
  pub to_other_is : o.talk.to_other ≡ p.message ∷ []
  pub unheard : has_told c.end.heard ≡ false
  pub once : opening_of p.from rest ≡ []

opening_head : (p : Packet) (rest : List Packet) → p.to ≡ None → opening_of p.from (p ∷ rest) ≡ p.message ∷ opening_of p.from rest
opening_head p rest e = if_true (opens_as p.from p) (p.message ∷ opening_of p.from rest) (opening_of p.from rest) (ap (λ t. is_opening t && (p.from == p.from)) e ∙ is_same p.from p.from refl)

open_phase : (m : Message) (rest : List Message) (q : Phase) → IsOpen m → behind false (Some Silent) (m ∷ rest) ≡ Some q → behind false (Some Talking) rest ≡ Some q
open_phase (Open w k) rest q o e = e
open_phase (Confirmation w k) rest q o e = absurd o
open_phase Failure rest q o e = absurd o
open_phase (Adjust n) rest q o e = absurd o
open_phase (Data bytes) rest q o e = absurd o
open_phase Eof rest q o e = absurd o
open_phase Close rest q o e = absurd o

not_answered : (n : ℕ) (b : Mux) (way : List Packet) (answer : Answer) (t : Talk) → answer ≡ NotYet → OtherEnd n b way answer t.other t.to_other → (t.other ≡ fresh b.window b.most Silent) × (t.to_other ≡ opening_of n way)
not_answered n b way NotYet t e h = h
not_answered n b way (As k) t e h = absurd (let z : As k ≡ NotYet = e in cc)
not_answered n b way Refused t e h = absurd (let z : Refused ≡ NotYet = e in cc)

pub asking : (a b : Mux) (p : Packet) (rest to_a : List Packet) (answers : ℕ → Answer) → (h : Half a b (p ∷ rest) to_a answers) → (to : p.to ≡ None) → (c : Channel) → (at : slice_get a.channels p.from ≡ Some c) → (s : c.started ≡ true)
    → Asking a b p rest to_a answers c (h.each p.from c at s)
asking a b p rest to_a answers h to c at s =
    let o = h.each p.from c at s in
    let head = opening_head p rest to in
    let not_yet : answers p.from ≡ NotYet = elim (is_not_yet (answers p.from)) [
      | inl e ↦ e
      | inr e ↦ absurd (let z : p.message ∷ opening_of p.from rest ≡ [] = sym head ∙ o.once e in cc)
    ] in
    let u = not_answered p.from b (p ∷ rest) (answers p.from) o.talk not_yet o.other_is in
    let j = joint_is a.window a.most b.window b.most o.talk o.reached in
    let ways : o.talk.to_other ≡ p.message ∷ opening_of p.from rest = u.1 ∙ head in
    let phase : behind false (Some Silent) (p.message ∷ opening_of p.from rest) ≡ Some o.talk.opener.said =
    subst (λ l. behind false (Some Silent) l ≡ Some o.talk.opener.said) ways (subst (λ (x : End). behind false (Some x.heard) o.talk.to_other ≡ Some o.talk.opener.said) u.0 j.out.phase) in
    let none : opening_of p.from rest ≡ [] = no_second false (opening_of p.from rest) o.talk.opener.said (opening_open a.channels p.from rest h.openings.1) (open_phase p.message (opening_of p.from rest) o.talk.opener.said (h.openings.0 to).1 phase) in
    record {
      not_yet = not_yet;
      other_is = u.0;
      to_other_is = ways ∙ ap (λ l. p.message ∷ l) none;
      unheard = ap (λ (x : End). has_told x.heard) (sym o.own_is) ∙ unheard_by o.talk j (ap (λ (x : End). has_told x.said) u.0);
      once = none;
    }

-- The answer to an opening: what it does to the other end, and the packet that tells it.
pub record IsAnswer (b : Mux) (p : Packet) (answer : Answer) (e : End) (messages : List Message) (sent : Packet) : Type 0 where
  pub receives : Receives p.message (fresh b.window b.most Silent) messages e
  pub sent_to : sent.to ≡ Some p.from
  pub messages_are : messages ≡ sent.message ∷ []
  pub tells : (w m : ℕ) → sent.message ≡ Confirmation w m → answer ≡ As sent.from
  pub said : (k : ℕ) → answer ≡ As k → has_told e.said ≡ true

for_sent : (n : ℕ) (p : Packet) → p.to ≡ Some n → for_channel n (p ∷ []) ≡ p.message ∷ []
for_sent n p e = if_true (is_to n p.to) (p.message ∷ []) [] (ap (is_to n) e ∙ is_same n n refl)

skip_opening : (p : Packet) (rest : List Packet) (k : ℕ) → p.to ≡ None → for_channel k rest ≡ for_channel k (p ∷ rest)
skip_opening p rest k e = sym (if_false (is_to k p.to) (p.message ∷ for_channel k rest) (for_channel k rest) (ap (is_to k) e))

skip_other : (p : Packet) (rest : List Packet) (m : ℕ) → (p.from ≡ m → ⊥) → opening_of m rest ≡ opening_of m (p ∷ rest)
skip_other p rest m far = sym (if_false (opens_as m p) (p.message ∷ opening_of m rest) (opening_of m rest) (on (is_opening p.to)))
  where
    on : (t : Bool) → (t && (p.from == m)) ≡ false
    on true = not_same p.from m far
    on false = refl

still_same : (n m : ℕ) (answers : ℕ → Answer) (k : ℕ) → answers n ≡ NotYet → answers m ≡ As k → n ≡ m → ⊥
still_same n m answers k e f g = (let z : NotYet ≡ As k = sym e ∙ (ap answers g ∙ f) in cc)

-- What becomes of the channels that side `a` opens, where side `b` answers the next opening, and has these channels
-- then.
pub answer_own : (a b : Mux) (p sent : Packet) (rest to_a : List Packet) (answers : ℕ → Answer) (channels : List Channel) (answer : Answer) (e : End) (messages : List Message)
    → (h : Half a b (p ∷ rest) to_a answers) → p.to ≡ None → IsAnswer b p answer e messages sent
    → OtherEnd p.from (with_channels b channels) rest answer e []
    → ((k : ℕ) (d : Channel) → slice_get b.channels k ≡ Some d → slice_get channels k ≡ Some d)
    → ((k : ℕ) (d : Channel) → slice_get channels k ≡ Some d → d.started ≡ false → (slice_get b.channels k ≡ Some d) ⊎ ((d.peer ≡ p.from) × (answer ≡ As k)))
    → Half a (with_channels b channels) rest (to_a ++ sent ∷ []) (answers_with p.from answer answers)
answer_own a b p sent rest to_a answers channels answer e messages h to i end kept either = record {
  each = λ m x there started. elim (one_or_two p.from m) [
    | inl f ↦
        let c = (h.openings.0 to).0 in
        let o = h.each p.from c.0 c.1 c.2 in
        let k = asking a b p rest to_a answers h to c.0 c.1 c.2 in
        let same : c.0 ≡ x = one_some c.0 x (slice_get a.channels m) (subst (λ y. slice_get a.channels y ≡ Some c.0) f c.1) there in
        let new_talk : Talk = record { opener = o.talk.opener; other = e; to_other = []; to_opener = o.talk.to_opener ++ messages } in
        let new : Opens a (with_channels b channels) rest (to_a ++ sent ∷ []) answer p.from c.0 = record {
          talk = new_talk;
          reached = reached_more (opened a.window a.most b.window b.most) o.talk new_talk o.reached
              (OtherHears p.message [] messages e k.to_other_is (subst (λ y. Receives p.message y messages e) (sym k.other_is) i.receives) refl);
          own_is = o.own_is;
          to_own_is = ap (λ l. l ++ messages) o.to_own_is ∙ (ap (λ l. for_channel p.from to_a ++ l) (i.messages_are ∙ sym (for_sent p.from sent i.sent_to)) ∙ sym (for_more p.from to_a (sent ∷ [])));
          other_is = end;
          once = λ w. k.once;
          peer_is = λ j g. inl k.unheard;
          answered = λ j g. i.said j g;
        } in
        subst (λ y. Opens a (with_channels b channels) rest (to_a ++ sent ∷ []) y m x) (sym (with_here p.from answer answers m f))
        (subst (λ y. Opens a (with_channels b channels) rest (to_a ++ sent ∷ []) answer m y) same
        (subst (λ y. Opens a (with_channels b channels) rest (to_a ++ sent ∷ []) answer y c.0) f new))
    | inr f ↦
        let o = h.each m x there started in
        subst (λ y. Opens a (with_channels b channels) rest (to_a ++ sent ∷ []) y m x) (sym (with_there p.from answer answers m f.1))
        (stays a b (p ∷ rest) to_a rest (to_a ++ sent ∷ []) a.channels channels (answers m) m x o
        (for_behind p.from m to_a (sent ∷ []) (i.sent_to, tt) f.0) (skip_other p rest m f.1)
        (λ k g. let u = answering m k b (p ∷ rest) (answers m) o.talk o.other_is g in (kept k u.0 u.1 ∙ sym u.1, skip_opening p rest k to)))
  ];
  later = λ m l. with_there p.from answer answers m (λ f. let c = (h.openings.0 to).0 in let k = slice_get_within a.channels p.from c.0 c.1 in omega (arith, k, l, f)) ∙ h.later m l;
  accepted = λ k d there kind. elim (either k d there kind) [
    | inl was ↦
        let x = h.accepted k d was kind in
        (with_there p.from answer answers d.peer (still_same p.from d.peer answers k not_yet x.0) ∙ x.0, x.1)
    | inr new ↦ (with_here p.from answer answers d.peer (sym new.0) ∙ new.1, subst (IsAt a.channels true) (sym new.0) (h.openings.0 to).0)
  ];
  openings = h.openings.1;
  there = every_more (IsThere a.channels) to_a (sent ∷ []) h.there ((λ n f. let c = (h.openings.0 to).0 in subst (λ y. y < length a.channels) (same_number p.from n (sym i.sent_to ∙ f)) (slice_get_within a.channels p.from c.0 c.1)), tt);
  told = every_more (TellsNumber a.channels (answers_with p.from answer answers)) to_a (sent ∷ [])
      (every_weaker (TellsNumber a.channels answers) (TellsNumber a.channels (answers_with p.from answer answers)) to_a
      (λ q k n f at w m g. let x = k n f at w m g in with_there p.from answer answers n (still_same p.from n answers q.from not_yet x) ∙ x) h.told)
      ((λ n f at w m g. with_here p.from answer answers n (same_number p.from n (sym i.sent_to ∙ f)) ∙ i.tells w m g), tt);
}
  where
    same_number : (n k : ℕ) → Some n ≡ Some k → n ≡ k
    same_number n k f = cc

    not_yet : answers p.from ≡ NotYet
    not_yet = let c = (h.openings.0 to).0 in (asking a b p rest to_a answers h to c.0 c.1 c.2).not_yet

-- What becomes of the channels that side `a` opens, where it answers an opening itself, and has these channels then.
pub answer_cross : (a b : Mux) (p sent : Packet) (to_b rest : List Packet) (answers : ℕ → Answer) (channels : List Channel) → Half a b to_b (p ∷ rest) answers
    → p.to ≡ None → sent.to ≡ Some p.from → IsAt b.channels true p.from
    → length a.channels ≤ length channels
    → ((k : ℕ) (d : Channel) → slice_get a.channels k ≡ Some d → slice_get channels k ≡ Some d)
    → ((k : ℕ) (d : Channel) → slice_get channels k ≡ Some d → d.started ≡ true → slice_get a.channels k ≡ Some d)
    → Half (with_channels a channels) b (to_b ++ sent ∷ []) rest answers
answer_cross a b p sent to_b rest answers channels h to sent_to asker many kept only = record {
  each = λ m x there started.
      let was = only m x there started in
      let o = h.each m x was started in
      stays a b to_b (p ∷ rest) (to_b ++ sent ∷ []) rest channels b.channels (answers m) m x o
      (skip_opening p rest m to) (opening_behind p.from m to_b (sent ∷ []) (sent_to, tt))
      (λ k f. (refl, for_behind p.from k to_b (sent ∷ []) (sent_to, tt) (not_same p.from k (apart b.channels p.from k asker (let u = answering m k b to_b (answers m) o.talk o.other_is f in (u.0, u.1, u.2))))));
  later = λ m l. h.later m (omega (arith, many, l));
  accepted = λ k d there kind. let x = h.accepted k d there kind in (x.0, (x.1.0, kept d.peer x.1.0 x.1.1, x.1.2));
  openings = every_more (IsOpening channels) to_b (sent ∷ [])
      (every_weaker (IsOpening a.channels) (IsOpening channels) to_b (λ q k o. let x = k o in ((x.0.0, kept q.from x.0.0 x.0.1, x.0.2), x.1)) h.openings)
      ((λ e. absurd (let z : Some p.from ≡ None = sym sent_to ∙ e in cc)), tt);
  there = every_weaker (IsThere a.channels) (IsThere channels) rest (λ q k n e. let x = k n e in omega (arith, x, many)) h.there.1;
  told = every_weaker (TellsNumber a.channels answers) (TellsNumber channels answers) rest (λ q k n e at w m f. k n e (at.0, only n at.0 at.1 at.2, at.2) w m f) h.told.1;
}
