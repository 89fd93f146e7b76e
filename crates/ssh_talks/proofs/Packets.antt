-- Lists of packets: whom they are for, and lists of channels of which one is another.
use Rattle.std.proofs.Common.{◌≡◌, ℕ, zero, suc, ◌==◌, ◌&&◌, Bool, true, false, if◌then◌else◌, List, [], ◌∷◌, ◌++◌, length, map, slice_get, slice_set, Some, None, ◌⊎◌, inl, inr, refl, sym, ap, ◌∙◌, append-nil}
use Rattle.std.proofs.lemmas.Bool.{eq-eqb}
use Rattle.std.proofs.lemmas.Bool.Decides.{eqb_tells}
use Rattle.ssh_channels.specs.Phases.{Message, Open, Confirmation, Failure, Adjust, Data, Eof, Close}
use Rattle.ssh_channels.specs.Muxes.{Packet, addressed}
use Rattle.ssh_channels.proofs.Lemmas.{Each}
use Rattle.ssh_talks.specs.Talks.{for_channel, is_opening, is_to, opening_of, opens_as}

-- ---- tests

pub if_true : {A : Type 0} (t : Bool) (a b : A) → t ≡ true → (if t then a else b) ≡ a
if_true t a b e = ap (λ s. if s then a else b) e

pub if_false : {A : Type 0} (t : Bool) (a b : A) → t ≡ false → (if t then a else b) ≡ b
if_false t a b e = ap (λ s. if s then a else b) e

pub is_same : (n m : ℕ) → n ≡ m → (n == m) ≡ true
is_same n m e = eq-eqb n m e

-- two numbers are one, or the test says that they aren't
pub one_or_two : (n m : ℕ) → (n ≡ m) ⊎ (((n == m) ≡ false) × (n ≡ m → ⊥))
one_or_two n m = elim (eqb_tells n m) [
  | inl h ↦ inl h.1
  | inr h ↦ inr (h.0, h.1)
]

pub not_same : (n m : ℕ) → (n ≡ m → ⊥) → (n == m) ≡ false
not_same n m h = elim (one_or_two n m) [
  | inl e ↦ absurd (h e)
  | inr e ↦ e.0
]

-- ---- whom packets are for

pub for_more : (n : ℕ) (xs ys : List Packet) → for_channel n (xs ++ ys) ≡ for_channel n xs ++ for_channel n ys
for_more n [] ys = refl
for_more n (p ∷ xs) ys = step (is_to n p.to) (for_more n xs ys)
  where
    step : (t : Bool) → for_channel n (xs ++ ys) ≡ for_channel n xs ++ for_channel n ys
        → (if t then p.message ∷ for_channel n (xs ++ ys) else for_channel n (xs ++ ys)) ≡ (if t then p.message ∷ for_channel n xs else for_channel n xs) ++ for_channel n ys
    step true e = ap (λ l. p.message ∷ l) e
    step false e = e

pub opening_more : (n : ℕ) (xs ys : List Packet) → opening_of n (xs ++ ys) ≡ opening_of n xs ++ opening_of n ys
opening_more n [] ys = refl
opening_more n (p ∷ xs) ys = step (opens_as n p) (opening_more n xs ys)
  where
    step : (t : Bool) → opening_of n (xs ++ ys) ≡ opening_of n xs ++ opening_of n ys
        → (if t then p.message ∷ opening_of n (xs ++ ys) else opening_of n (xs ++ ys)) ≡ (if t then p.message ∷ opening_of n xs else opening_of n xs) ++ opening_of n ys
    step true e = ap (λ l. p.message ∷ l) e
    step false e = e

-- what is said of each packet
abbrev pub Every : (Packet → Type 0) → List Packet → Type 0
Every P [] = Unit {0}
Every P (p ∷ packets) = P p × Every P packets

pub every_more : (P : Packet → Type 0) (xs ys : List Packet) → Every P xs → Every P ys → Every P (xs ++ ys)
every_more P [] ys h k = k
every_more P (p ∷ xs) ys h k = (h.0, every_more P xs ys h.1 k)

pub every_behind : (P : Packet → Type 0) (xs ys : List Packet) → Every P (xs ++ ys) → Every P ys
every_behind P [] ys h = h
every_behind P (p ∷ xs) ys h = every_behind P xs ys h.1

pub every_weaker : (P Q : Packet → Type 0) (xs : List Packet) → ((p : Packet) → P p → Q p) → Every P xs → Every Q xs
every_weaker P Q [] w h = tt
every_weaker P Q (p ∷ xs) w h = (w p h.0, every_weaker P Q xs w h.1)

pub every_with : (P Q R : Packet → Type 0) (xs : List Packet) → ((p : Packet) → P p → Q p → R p) → Every P xs → Every Q xs → Every R xs
every_with P Q R [] w h k = tt
every_with P Q R (p ∷ xs) w h k = (w p h.0 k.0, every_with P Q R xs w h.1 k.1)

-- a packet is for a channel
abbrev pub IsFor : ℕ → Packet → Type 0
IsFor n p = p.to ≡ Some n

-- packets for one channel are none of another's, and open none
pub for_front : (n m : ℕ) (front rest : List Packet) → Every (IsFor n) front → (n == m) ≡ false → for_channel m (front ++ rest) ≡ for_channel m rest
for_front n m [] rest h e = refl
for_front n m (p ∷ front) rest h e =
    if_false (is_to m p.to) (p.message ∷ for_channel m (front ++ rest)) (for_channel m (front ++ rest)) (ap (is_to m) h.0 ∙ e) ∙ for_front n m front rest h.1 e

pub opening_front : (n m : ℕ) (front rest : List Packet) → Every (IsFor n) front → opening_of m (front ++ rest) ≡ opening_of m rest
opening_front n m [] rest h = refl
opening_front n m (p ∷ front) rest h =
    if_false (opens_as m p) (p.message ∷ opening_of m (front ++ rest)) (opening_of m (front ++ rest)) (ap (λ o. is_opening o && (p.from == m)) h.0) ∙ opening_front n m front rest h.1

-- ---- the packets of an end's messages

-- a message of a channel that was answered
abbrev pub IsLater : Message → Type 0
IsLater (Open w m) = ⊥
IsLater (Confirmation w m) = ⊥
IsLater Failure = ⊥
IsLater (Adjust n) = Unit {0}
IsLater (Data bytes) = Unit {0}
IsLater Eof = Unit {0}
IsLater Close = Unit {0}

pub sent_to : (own peer : ℕ) (m : Message) → IsLater m → (addressed own peer m).to ≡ Some peer
sent_to own peer (Open w k) h = absurd h
sent_to own peer (Confirmation w k) h = absurd h
sent_to own peer Failure h = absurd h
sent_to own peer (Adjust n) h = refl
sent_to own peer (Data bytes) h = refl
sent_to own peer Eof h = refl
sent_to own peer Close h = refl

pub sent_message : (own peer : ℕ) (m : Message) → (addressed own peer m).message ≡ m
sent_message own peer (Open w k) = refl
sent_message own peer (Confirmation w k) = refl
sent_message own peer Failure = refl
sent_message own peer (Adjust n) = refl
sent_message own peer (Data bytes) = refl
sent_message own peer Eof = refl
sent_message own peer Close = refl

-- they are all for the other side's channel
pub all_for : (own peer : ℕ) (ms : List Message) → Each IsLater ms → Every (IsFor peer) (map (addressed own peer) ms)
all_for own peer [] h = tt
all_for own peer (m ∷ ms) h = (sent_to own peer m h.0, all_for own peer ms h.1)

pub for_own : (own peer : ℕ) (ms : List Message) → Each IsLater ms → for_channel peer (map (addressed own peer) ms) ≡ ms
for_own own peer [] h = refl
for_own own peer (m ∷ ms) h =
    if_true (is_to peer (addressed own peer m).to) ((addressed own peer m).message ∷ for_channel peer (map (addressed own peer) ms)) (for_channel peer (map (addressed own peer) ms)) (ap (is_to peer) (sent_to own peer m h.0) ∙ is_same peer peer refl)
    ∙ (ap (λ x. x ∷ for_channel peer (map (addressed own peer) ms)) (sent_message own peer m) ∙ ap (λ l. m ∷ l) (for_own own peer ms h.1))

pub for_none : (n m : ℕ) (packets : List Packet) → Every (IsFor n) packets → (n == m) ≡ false → for_channel m packets ≡ []
for_none n m packets h e = ap (for_channel m) (sym (append-nil packets)) ∙ for_front n m packets [] h e

pub opening_none : (n m : ℕ) (packets : List Packet) → Every (IsFor n) packets → opening_of m packets ≡ []
opening_none n m packets h = ap (opening_of m) (sym (append-nil packets)) ∙ opening_front n m packets [] h

-- behind what is on the way, they change nothing for another channel, and open none
pub for_behind : (n m : ℕ) (way packets : List Packet) → Every (IsFor n) packets → (n == m) ≡ false → for_channel m (way ++ packets) ≡ for_channel m way
for_behind n m way packets h e = for_more m way packets ∙ (ap (λ l. for_channel m way ++ l) (for_none n m packets h e) ∙ append-nil (for_channel m way))

pub opening_behind : (n m : ℕ) (way packets : List Packet) → Every (IsFor n) packets → opening_of m (way ++ packets) ≡ opening_of m way
opening_behind n m way packets h = opening_more m way packets ∙ (ap (λ l. opening_of m way ++ l) (opening_none n m packets h) ∙ append-nil (opening_of m way))

pub for_later : (own peer : ℕ) (way : List Packet) (ms : List Message) → Each IsLater ms → for_channel peer (way ++ map (addressed own peer) ms) ≡ for_channel peer way ++ ms
for_later own peer way ms h = for_more peer way (map (addressed own peer) ms) ∙ ap (λ l. for_channel peer way ++ l) (for_own own peer ms h)

-- ---- lists of which one element is another

pub get_set : {A : Type 0} (l : List A) (i : ℕ) (x y : A) → slice_get l i ≡ Some x → slice_get (slice_set l i y) i ≡ Some y
get_set [] i x y h = absurd (let e : None ≡ Some x = h in cc)
get_set (z ∷ l) zero x y h = refl
get_set (z ∷ l) (suc i) x y h = get_set l i x y h

pub get_set_other : {A : Type 0} (l : List A) (i j : ℕ) (y : A) → (i ≡ j → ⊥) → slice_get (slice_set l i y) j ≡ slice_get l j
get_set_other [] i j y h = refl
get_set_other (z ∷ l) zero zero y h = absurd (h refl)
get_set_other (z ∷ l) zero (suc j) y h = refl
get_set_other (z ∷ l) (suc i) zero y h = refl
get_set_other (z ∷ l) (suc i) (suc j) y h = get_set_other l i j y (λ e. h (ap suc e))

pub many_set : {A : Type 0} (l : List A) (i : ℕ) (y : A) → length (slice_set l i y) ≡ length l
many_set [] i y = refl
many_set (z ∷ l) zero y = refl
many_set (z ∷ l) (suc i) y = ap suc (many_set l i y)

pub get_near : {A : Type 0} (l : List A) (i : ℕ) (x y : A) → slice_get l i ≡ Some x → slice_get (l ++ y ∷ []) i ≡ Some x
get_near [] i x y h = absurd (let e : None ≡ Some x = h in cc)
get_near (z ∷ l) zero x y h = h
get_near (z ∷ l) (suc i) x y h = get_near l i x y h

pub get_new : {A : Type 0} (l : List A) (y : A) → slice_get (l ++ y ∷ []) (length l) ≡ Some y
get_new [] y = refl
get_new (z ∷ l) y = get_new l y

pub get_either : {A : Type 0} (l : List A) (y : A) (i : ℕ) (x : A) → slice_get (l ++ y ∷ []) i ≡ Some x → (slice_get l i ≡ Some x) ⊎ ((i ≡ length l) × (y ≡ x))
get_either [] y zero x h = inr (refl, (let e : Some y ≡ Some x = h in cc))
get_either [] y (suc i) x h = absurd (let e : None ≡ Some x = h in cc)
get_either (z ∷ l) y zero x h = inl h
get_either (z ∷ l) y (suc i) x h = elim (get_either l y i x h) [
  | inl k ↦ inl k
  | inr k ↦ inr (ap suc k.0, k.1)
]

pub many_new : {A : Type 0} (l : List A) (y : A) → length (l ++ y ∷ []) ≡ suc (length l)
many_new [] y = refl
many_new (z ∷ l) y = ap suc (many_new l y)
