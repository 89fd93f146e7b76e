-- The packets that a side sent, as the other side finds them.
use Rattle.std.proofs.Common.{◌≡◌, ℕ, ◌+◌, ◌<◌, ◌≤◌, List, [], ◌∷◌, ◌++◌, length, map, take, drop, refl, sym, ◌∙◌, ap, subst, arith, Bool, true, false, nat_le, append_assoc, length-append}
use Rattle.std.proofs.lemmas.Bool.Decides.{nat_tests}
use Rattle.std.proofs.lemmas.List.{length-replicate, take-append-drop, length-take-le}
use Rattle.ssh_packet.specs.Sealing.{Item, Clear, sealed_packet, next_number, padding_length, IsAdmissible}
use Rattle.ssh_packet.specs.Stream.{packets, number_after}
use Rattle.ssh_packet.specs.Front.{Front, Whole, Unfinished, Refused, front_of}
use Rattle.ssh_packet.proofs.Lemmas.{length_framed, cut_alike}
use Rattle.ssh_packet.proofs.Lemmas.{front_whole, front_stays_whole, front_stays_refused}
use Rattle.ssh_run.specs.ClearRun.{clear_item, packet_size}
use Rattle.ssh_run.specs.Delivering.{FindsPackets, payloads_of}

-- the packets of payloads, from a number on
abbrev pub sent_from : ℕ → List (List ℕ) → List ℕ
sent_from number payloads = packets Clear number (map clear_item payloads)

abbrev pub AreSent : List (List ℕ) → Type 0
AreSent [] = Unit {0}
AreSent (payload ∷ payloads) = IsAdmissible Clear (clear_item payload) × AreSent payloads

abbrev pub size_of : List (List ℕ) → ℕ
size_of [] = 0
size_of (payload ∷ payloads) = packet_size payload + size_of payloads

-- less than the next packet
abbrev pub IsLessThanNext : List ℕ → List (List ℕ) → Type 0
IsLessThanNext bytes [] = bytes ≡ []
IsLessThanNext bytes (payload ∷ payloads) = length bytes < packet_size payload

pub length_packet : (number : ℕ) (payload : List ℕ) → length (sealed_packet Clear number (clear_item payload)) ≡ packet_size payload
length_packet number payload = omega (arith, length_framed (clear_item payload), length-replicate {A = ℕ} (padding_length Clear (length payload)) 0)

-- a reader that stopped for want of bytes, or by a fault
abbrev pub EndsWell : Front → List ℕ → List (List ℕ) → Type 0
EndsWell (Whole item rest) bytes later = Unit {0}
EndsWell Unfinished bytes later = IsLessThanNext bytes later
EndsWell (Refused fault) bytes later = ⊥

nothing : (bytes more : List ℕ) → bytes ++ more ≡ [] → bytes ≡ []
nothing [] more e = refl
nothing (b ∷ bytes) more e = cc

front_nothing : (number : ℕ) → front_of Clear number [] ≡ Unfinished
unfolding front_of
front_nothing number = refl

-- bytes that hold a whole packet begin with it
holds_packet : (number : ℕ) (payload bytes more behind : List ℕ) → bytes ++ more ≡ sealed_packet Clear number (clear_item payload) ++ behind → packet_size payload ≤ length bytes → bytes ≡ sealed_packet Clear number (clear_item payload) ++ drop (packet_size payload) bytes
holds_packet number payload bytes more behind e h =
    let size = length_packet number payload in
    let cut : take (packet_size payload) bytes ++ (drop (packet_size payload) bytes ++ more) ≡ sealed_packet Clear number (clear_item payload) ++ behind = sym (append_assoc (take (packet_size payload) bytes) (drop (packet_size payload) bytes) more) ∙ (ap (λ t. t ++ more) (take-append-drop (packet_size payload) bytes) ∙ e) in
    let front : take (packet_size payload) bytes ≡ sealed_packet Clear number (clear_item payload) = (cut_alike _ _ _ _ (length-take-le (packet_size payload) bytes h ∙ sym size) cut).0 in
    sym (take-append-drop (packet_size payload) bytes) ∙ ap (λ t. t ++ drop (packet_size payload) bytes) front

-- what is found at the front of what was sent
ends_well : (number : ℕ) (payload : List ℕ) (payloads : List (List ℕ)) (bytes more : List ℕ) → IsAdmissible Clear (clear_item payload) → bytes ++ more ≡ sent_from number (payload ∷ payloads) → (f : Front) → front_of Clear number bytes ≡ f → EndsWell f bytes (payload ∷ payloads)
ends_well number payload payloads bytes more ok e (Whole item rest) h = tt
ends_well number payload payloads bytes more ok e Unfinished h = by_size (nat_le (packet_size payload) (length bytes)) refl where
  by_size : (t : Bool) → nat_le (packet_size payload) (length bytes) ≡ t → length bytes < packet_size payload
  by_size false s = grind (arith, nat_tests)
  by_size true s =
      let enough : packet_size payload ≤ length bytes = grind (arith, nat_tests) in
      let whole = ap (front_of Clear number) (holds_packet number payload bytes more _ e enough) ∙ front_whole Clear number (clear_item payload) (drop (packet_size payload) bytes) ok in
      cc
ends_well number payload payloads bytes more ok e (Refused fault) h =
    let stays = front_stays_refused Clear number bytes more fault h in
    let whole = ap (front_of Clear number) e ∙ front_whole Clear number (clear_item payload) (sent_from (next_number number) payloads) ok in
    cc

pub ends_of : (number : ℕ) (payloads : List (List ℕ)) (bytes more : List ℕ) (f : Front) → AreSent payloads → bytes ++ more ≡ sent_from number payloads → front_of Clear number bytes ≡ f → EndsWell f bytes payloads
ends_of number [] bytes more f ok e h =
    let none = nothing bytes more e in
    let unfinished : Unfinished ≡ f = sym (ap (front_of Clear number) none ∙ front_nothing number) ∙ h in
    let P : Front → Type 0 = λ x. EndsWell x bytes [] in
    subst P unfinished none
ends_of number (payload ∷ payloads) bytes more f ok e h = ends_well number payload payloads bytes more ok.0 e f h

-- the packets found are the first that were sent
pub record AreFirst (number : ℕ) (bytes more : List ℕ) (items : List Item) (rest : List ℕ) (end : Front) (payloads : List (List ℕ)) : Type 0 where
  pub later : List (List ℕ)
  pub split : payloads ≡ payloads_of items ++ later
  pub stands : rest ++ more ≡ sent_from (number_after number items) later
  pub size : length bytes ≡ size_of (payloads_of items) + length rest
  pub ends : EndsWell end rest later

item_is : (i : Item) (payload : List ℕ) (a b : List ℕ) → Whole i a ≡ Whole (clear_item payload) b → (i.payload ≡ payload) × (a ≡ b)
item_is i payload a b e =
    let item : i ≡ clear_item payload = cc in
    (ap (λ (x : Item). x.payload) item, cc)

pub finds_sent : (number : ℕ) (payloads : List (List ℕ)) (bytes more : List ℕ) (items : List Item) (rest : List ℕ) (end : Front) → AreSent payloads → bytes ++ more ≡ sent_from number payloads → FindsPackets number bytes items rest end → AreFirst number bytes more items rest end payloads
finds_sent number payloads bytes more [] rest end ok e f = record {
  later = payloads;
  split = refl;
  stands = ap (λ b. b ++ more) (sym f.0) ∙ e;
  size = omega (arith, ap length f.0);
  ends = let P : List ℕ → Type 0 = λ b. EndsWell end b payloads in subst P f.0 (ends_of number payloads bytes more end ok e f.1);
}
finds_sent number [] bytes more (i ∷ items) rest end ok e f =
    let none = nothing bytes more e in
    let unfinished = ap (front_of Clear number) none ∙ front_nothing number in
    let whole = f.1 in
    absurd (let bad : ⊥ = cc in bad)
finds_sent number (payload ∷ payloads) bytes more (i ∷ items) rest end ok e f =
    let there : Whole i (f.0 ++ more) ≡ Whole (clear_item payload) (sent_from (next_number number) payloads) =
    sym (front_stays_whole Clear number bytes more f.0 i f.1) ∙ (ap (front_of Clear number) e ∙ front_whole Clear number (clear_item payload) (sent_from (next_number number) payloads) ok.0) in
    let same = item_is i payload _ _ there in
    let r = finds_sent (next_number number) payloads f.0 more items rest end ok.1 same.1 f.2 in
    let whole_size : length bytes + length more ≡ packet_size payload + length (sent_from (next_number number) payloads) = sym (length-append bytes more) ∙ (ap length e ∙ (length-append (sealed_packet Clear number (clear_item payload)) (sent_from (next_number number) payloads) ∙ ap (λ n. n + length (sent_from (next_number number) payloads)) (length_packet number payload))) in
    let behind : length f.0 + length more ≡ length (sent_from (next_number number) payloads) = sym (length-append f.0 more) ∙ ap length same.1 in
    record {
      later = r.later;
      split = ap (λ l. payload ∷ l) r.split ∙ ap (λ p. p ∷ (payloads_of items ++ r.later)) (sym same.0);
      stands = r.stands;
      size = omega (arith, whole_size, behind, r.size, ap packet_size same.0);
      ends = r.ends;
    }
