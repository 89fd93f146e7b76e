-- What holds at every moment of the channels that one side opens, and of what is on the way for them.
use Rattle.std.proofs.Common.{◌≡◌, ℕ, ◌<◌, ◌≤◌, Bool, true, false, List, [], length, slice_get, Option, Some, None, ◌⊎◌, refl, sym, ap, ◌∙◌, subst}
use Rattle.ssh_channels.specs.Phases.{Message, Open, Confirmation, Failure, Adjust, Data, Eof, Close, has_told}
use Rattle.ssh_channels.specs.Conversation.{Talk, opened}
use Rattle.ssh_channels.specs.Laws.{Reached}
use Rattle.ssh_channels.specs.Muxes.{Channel, Mux, Packet}
use Rattle.ssh_talks.specs.Talks.{Answer, As, NotYet, OtherEnd, Refused, for_channel, opening_of}
use Rattle.ssh_talks.proofs.Packets.{Every}

-- A channel of the opening side. `a` is that side, `b` the other; `to_b` is on the way to the other, `to_a` on the way
-- back.
pub record Opens (a b : Mux) (to_b to_a : List Packet) (answer : Answer) (n : ℕ) (c : Channel) : Type 0 where
  pub talk : Talk
  pub reached : Reached (opened a.window a.most b.window b.most) talk
  pub own_is : talk.opener ≡ c.end
  pub to_own_is : talk.to_opener ≡ for_channel n to_a
  pub other_is : OtherEnd n b to_b answer talk.other talk.to_other
  pub once : (answer ≡ NotYet → ⊥) → opening_of n to_b ≡ []
  pub peer_is : (k : ℕ) → answer ≡ As k → (has_told c.end.heard ≡ false) ⊎ (c.peer ≡ k)
  pub answered : (k : ℕ) → answer ≡ As k → has_told talk.other.said ≡ true

-- a channel that a side started, or one that it accepted, stands under a number
abbrev pub IsAt : List Channel → Bool → ℕ → Type 0
IsAt channels started n = (c : Channel) × (slice_get channels n ≡ Some c) × (c.started ≡ started)

-- a message that opens a channel
abbrev pub IsOpen : Message → Type 0
IsOpen (Open w m) = Unit {0}
IsOpen (Confirmation w m) = ⊥
IsOpen Failure = ⊥
IsOpen (Adjust n) = ⊥
IsOpen (Data bytes) = ⊥
IsOpen Eof = ⊥
IsOpen Close = ⊥

-- a packet that opens a channel opens one that its sender started
abbrev pub IsOpening : List Channel → Packet → Type 0
IsOpening channels p = p.to ≡ None → IsAt channels true p.from × IsOpen p.message

-- a packet for a channel is for one that is there
abbrev pub IsThere : List Channel → Packet → Type 0
IsThere channels p = (n : ℕ) → p.to ≡ Some n → n < length channels

-- a confirmation of a started channel tells the number under which it was accepted
abbrev pub TellsNumber : List Channel → (ℕ → Answer) → Packet → Type 0
TellsNumber channels answers p =
    (n : ℕ) → p.to ≡ Some n → IsAt channels true n → (w m : ℕ) → p.message ≡ Confirmation w m → answers n ≡ As p.from

-- all channels that one side opens, with the answers to them
pub record Half (a b : Mux) (to_b to_a : List Packet) (answers : ℕ → Answer) : Type 0 where
  pub each : (n : ℕ) (c : Channel) → slice_get a.channels n ≡ Some c → c.started ≡ true → Opens a b to_b to_a (answers n) n c
  pub later : (n : ℕ) → length a.channels ≤ n → answers n ≡ NotYet
  pub accepted : (k : ℕ) (d : Channel) → slice_get b.channels k ≡ Some d → d.started ≡ false → (answers d.peer ≡ As k) × IsAt a.channels true d.peer
  pub openings : Every (IsOpening a.channels) to_b
  pub there : Every (IsThere a.channels) to_a
  pub told : Every (TellsNumber a.channels answers) to_a

-- a side with these channels
abbrev pub with_channels : Mux → List Channel → Mux
with_channels a channels = record { window = a.window; most = a.most; channels = channels }

-- what another channel is by what it was, where nothing on the way is for it, and nothing of it changed
pub other_stays : (n : ℕ) (b : Mux) (way way' : List Packet) (channels : List Channel) (answer : Answer) (t : Talk) → OtherEnd n b way answer t.other t.to_other
    → opening_of n way' ≡ opening_of n way → ((k : ℕ) → answer ≡ As k → (slice_get channels k ≡ slice_get b.channels k) × (for_channel k way' ≡ for_channel k way))
    → OtherEnd n (with_channels b channels) way' answer t.other t.to_other
other_stays n b way way' channels NotYet t h o k = (h.0, h.1 ∙ sym o)
other_stays n b way way' channels (As j) t h o k =
    let e = k j refl in
    ((h.0.0, e.0 ∙ h.0.1, h.0.2, h.0.3, h.0.4), h.1 ∙ sym e.1)
other_stays n b way way' channels Refused t h o k = h

pub stays : (a b : Mux) (to_b to_a to_b' to_a' : List Packet) (own others : List Channel) (answer : Answer) (n : ℕ) (c : Channel) → Opens a b to_b to_a answer n c
    → for_channel n to_a' ≡ for_channel n to_a → opening_of n to_b' ≡ opening_of n to_b
    → ((k : ℕ) → answer ≡ As k → (slice_get others k ≡ slice_get b.channels k) × (for_channel k to_b' ≡ for_channel k to_b))
    → Opens (with_channels a own) (with_channels b others) to_b' to_a' answer n c
stays a b to_b to_a to_b' to_a' own others answer n c o e f k = record {
  talk = o.talk;
  reached = o.reached;
  own_is = o.own_is;
  to_own_is = o.to_own_is ∙ sym e;
  other_is = other_stays n b to_b to_b' others answer o.talk o.other_is f k;
  once = λ x. f ∙ o.once x;
  peer_is = o.peer_is;
  answered = o.answered;
}

-- ---- what an answer says

pub same_answer : (k m : ℕ) → As k ≡ As m → k ≡ m
same_answer k m e = cc

-- the channel that answers one
pub answering : (n k : ℕ) (b : Mux) (way : List Packet) (answer : Answer) (t : Talk) → OtherEnd n b way answer t.other t.to_other → answer ≡ As k
    → (d : Channel) × (slice_get b.channels k ≡ Some d) × (d.started ≡ false) × (d.peer ≡ n) × (t.other ≡ d.end) × (t.to_other ≡ for_channel k way)
answering n k b way NotYet t h e = absurd (let z : NotYet ≡ As k = e in cc)
answering n k b way (As j) t h e =
    let same = same_answer j k e in
    (h.0.0, subst (λ i. slice_get b.channels i ≡ Some h.0.0) same h.0.1, h.0.2, h.0.3, h.0.4, subst (λ i. t.to_other ≡ for_channel i way) same h.1)
answering n k b way Refused t h e = absurd (let z : Refused ≡ As k = e in cc)

pub one_some : {A : Type 0} (x y : A) (o : Option A) → o ≡ Some x → o ≡ Some y → x ≡ y
one_some x y o e f = cc

-- two channels that are one are both started or both accepted
pub not_both : (channels : List Channel) (n : ℕ) → IsAt channels true n → IsAt channels false n → ⊥
not_both channels n s t =
    let same : s.0 ≡ t.0 = one_some s.0 t.0 (slice_get channels n) s.1 t.1 in
    (let z : true ≡ false = sym s.2 ∙ (ap (λ (c : Channel). c.started) same ∙ t.2) in cc)

pub apart : (channels : List Channel) (n m : ℕ) → IsAt channels true n → IsAt channels false m → n ≡ m → ⊥
apart channels n m s t e = not_both channels m (subst (IsAt channels true) e s) t

-- two started channels have two answers
pub two_answers : (a b : Mux) (to_b to_a : List Packet) (x y : Answer) (n m k : ℕ) (c d : Channel) → Opens a b to_b to_a x n c → Opens a b to_b to_a y m d → x ≡ As k → y ≡ As k → n ≡ m
two_answers a b to_b to_a x y n m k c d o p e f =
    let u = answering n k b to_b x o.talk o.other_is e in
    let v = answering m k b to_b y p.talk p.other_is f in
    sym u.3 ∙ (ap (λ (z : Channel). z.peer) (one_some u.0 v.0 (slice_get b.channels k) u.1 v.1) ∙ v.3)
