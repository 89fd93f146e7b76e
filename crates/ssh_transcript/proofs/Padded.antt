-- How a packet is padded, told from its bytes and from a key of another moment.
use Rattle.std.proofs.Common.{◌≡◌, ℕ, suc, ◌+◌, ◌≤◌, List, [], ◌∷◌, ◌++◌, length, take, drop, Bool, true, false, refl, sym, ◌∙◌, ap, arith, length-append, length-drop}
use Rattle.std.proofs.Math.Seq.{drop-append_seam}
use Rattle.std.specs.Prelude.{◌&&◌, ◌==◌, ◌↔◌, IsTrue, replicate, zero}
use Rattle.std.specs.List.{list_all}
use Rattle.std.proofs.lemmas.Bool.Decides.{nat_tests}
use Rattle.std.proofs.lemmas.List.{length-replicate}
use Rattle.ssh_aes.specs.Gcm.{gcm_text, gcm_tag}
use Rattle.ssh_aes.specs.Modes.{Running, masked_text}
use Rattle.ssh_aes.proofs.Lemmas.{runs_well, gcm_well}
use Rattle.ssh_mac.proofs.Lemmas.{tags_have_length}
use Rattle.ssh_mac.specs.Tags.{MacOf, tag_of, tag_length, is_encrypt_then_mac}
use Rattle.ssh_packet.proofs.Lemmas.{length_framed}
use Rattle.ssh_packet.specs.Sealing.{Item, Sealing, Clear, Block, Gcm, IsPadded, framed_text, packet_length, text_with_tag, sealed_packet, moved_on, tag_size, padding_length, block_padding}
use Rattle.ssh_transcript.specs.Alike.{AreAlike, HasSize, HasZeros, is_zero}

four : (t : List ℕ) → 4 ≤ length t → length (take 4 t) ≡ 4
four [] h = absurd (omega (arith, h))
four (a ∷ []) h = absurd (omega (arith, h))
four (a ∷ b ∷ []) h = absurd (omega (arith, h))
four (a ∷ b ∷ c ∷ []) h = absurd (omega (arith, h))
four (a ∷ b ∷ c ∷ d ∷ t) h = refl

tagged_size : (etm : Bool) (r : Running) (mac : MacOf) (number : ℕ) (t : List ℕ) → 4 ≤ length t → length (text_with_tag etm (masked_text r) (tag_of mac number) t) ≡ length t + tag_length mac
tagged_size true r mac number t h =
    let body = (runs_well r).same_length (drop 4 t) in
    let tag = tags_have_length mac number (take 4 t ++ masked_text r (drop 4 t)) in
    omega (arith, four t h, length-drop 4 t, body, tag, length-append (take 4 t) (masked_text r (drop 4 t) ++ tag_of mac number (take 4 t ++ masked_text r (drop 4 t))), length-append (masked_text r (drop 4 t)) (tag_of mac number (take 4 t ++ masked_text r (drop 4 t))))
tagged_size false r mac number t h = omega (arith, (runs_well r).same_length t, tags_have_length mac number t, length-append (masked_text r t) (tag_of mac number t))

-- how long a packet is
pub sealed_size : (s : Sealing) (number : ℕ) (a : Item) → length (sealed_packet s number a) ≡ 4 + packet_length a + tag_size s
sealed_size Clear number a = omega (arith, length_framed a)
sealed_size (Block r mac) number a = omega (arith, length_framed a, tagged_size (is_encrypt_then_mac mac) r mac number (framed_text a) (omega (arith, length_framed a)))
sealed_size (Gcm key nonce) number a =
    let t = framed_text a in
    let body = (gcm_well key nonce).same_length (take 4 t) (drop 4 t) in
    let tag = (gcm_well key nonce).tag (take 4 t) (drop 4 t) in
    omega (arith, length_framed a, four t (omega (arith, length_framed a)), length-drop 4 t, body, tag, length-append (take 4 t) (gcm_text key nonce (take 4 t) (drop 4 t) ++ gcm_tag key nonce (take 4 t) (drop 4 t)), length-append (gcm_text key nonce (take 4 t) (drop 4 t)) (gcm_tag key nonce (take 4 t) (drop 4 t)))

-- what stands behind the payload of a packet in clear
pub clear_padding : (i : Item) → drop (5 + length i.payload) (framed_text i) ≡ i.padding
unfolding framed_text
clear_padding i = let e : 5 + length i.payload ≡ suc (suc (suc (suc (suc (length i.payload))))) = omega arith in ap (λ k. drop k (framed_text i)) e ∙ drop-append_seam i.payload i.padding

-- ---- keys of another moment

pub alike_on : (s t : Sealing) (i : Item) → AreAlike s t → AreAlike (moved_on s i) t
alike_on Clear Clear i h = tt
alike_on (Block r mac) (Block other code) i h = h
alike_on (Gcm key nonce) (Gcm other more) i h = tt
alike_on Clear (Block r mac) i h = h
alike_on Clear (Gcm key nonce) i h = h
alike_on (Block r mac) Clear i h = h
alike_on (Block r mac) (Gcm key nonce) i h = h
alike_on (Gcm key nonce) Clear i h = h
alike_on (Gcm key nonce) (Block r mac) i h = h

pub alike_same : (s : Sealing) → AreAlike s s
alike_same Clear = tt
alike_same (Block r mac) = refl
alike_same (Gcm key nonce) = tt

pub alike_tag : (s t : Sealing) → AreAlike s t → tag_size s ≡ tag_size t
alike_tag Clear Clear h = refl
alike_tag (Block r mac) (Block other code) h = ap tag_length h
alike_tag (Gcm key nonce) (Gcm other more) h = refl
alike_tag Clear (Block r mac) h = absurd h
alike_tag Clear (Gcm key nonce) h = absurd h
alike_tag (Block r mac) Clear h = absurd h
alike_tag (Block r mac) (Gcm key nonce) h = absurd h
alike_tag (Gcm key nonce) Clear h = absurd h
alike_tag (Gcm key nonce) (Block r mac) h = absurd h

pub alike_padding : (s t : Sealing) (n : ℕ) → AreAlike s t → padding_length s n ≡ padding_length t n
alike_padding Clear Clear n h = refl
alike_padding (Block r mac) (Block other code) n h = ap (λ m. block_padding (is_encrypt_then_mac m) n) h
alike_padding (Gcm key nonce) (Gcm other more) n h = refl
alike_padding Clear (Block r mac) n h = absurd h
alike_padding Clear (Gcm key nonce) n h = absurd h
alike_padding (Block r mac) Clear n h = absurd h
alike_padding (Block r mac) (Gcm key nonce) n h = absurd h
alike_padding (Gcm key nonce) Clear n h = absurd h
alike_padding (Gcm key nonce) (Block r mac) n h = absurd h

-- ---- what a test of a packet's bytes says of its padding

and_both : (a b : Bool) → (a && b) ≡ true → (a ≡ true) × (b ≡ true)
and_both true b e = (refl, e)
and_both false b e = absurd (let z : false ≡ true = e in cc)

is_none : (x : ℕ) → (x == 0) ≡ true → x ≡ 0
is_none x e = grind (arith, nat_tests)

zeros_are : (xs : List ℕ) → list_all is_zero xs ≡ true → xs ≡ replicate (length xs) 0
zeros_are [] e = refl
zeros_are (x ∷ xs) e =
    let b = and_both (x == 0) (list_all is_zero xs) e in
    let r = zeros_are xs b.1 in
    let z : x ≡ 0 = is_none x b.0 in
    cc

are_zeros : (n : ℕ) → list_all is_zero (replicate n 0) ≡ true
are_zeros zero = refl
are_zeros (suc n) = are_zeros n

padding_size : (s t : Sealing) (number : ℕ) (i : Item) (packet payload : List ℕ) → AreAlike s t → i.payload ≡ payload → packet ≡ sealed_packet s number i → length packet ≡ 5 + length payload + length i.padding + tag_size t
padding_size s t number i packet payload h p e = omega (arith, ap length e, sealed_size s number i, ap length p, alike_tag s t h)

clear_zeros : (number : ℕ) (i : Item) (packet payload : List ℕ) → i.payload ≡ payload → packet ≡ sealed_packet Clear number i → drop (5 + length payload) packet ≡ i.padding
clear_zeros number i packet payload p e = ap (λ q. drop (5 + length q) packet) (sym p) ∙ (ap (drop (5 + length i.payload)) e ∙ clear_padding i)

pub padded_by_test : (s t : Sealing) (number : ℕ) (i : Item) (packet payload : List ℕ) → AreAlike s t → i.payload ≡ payload → packet ≡ sealed_packet s number i → HasSize t packet payload → HasZeros t (5 + length payload) packet → IsPadded s i
padded_by_test Clear Clear number i packet payload h p e size zeros =
    let there : list_all is_zero i.padding ≡ true = ap (list_all is_zero) (sym (clear_zeros number i packet payload p e)) ∙ zeros in
    let many : length i.padding ≡ padding_length Clear (length payload) = omega (arith, size, padding_size Clear Clear number i packet payload h p e) in
    zeros_are i.padding there ∙ ap (λ n. replicate n 0) (many ∙ ap (λ q. padding_length Clear (length q)) (sym p))
padded_by_test (Block r mac) (Block other code) number i packet payload h p e size zeros =
    let many : length i.padding ≡ padding_length (Block other code) (length payload) = omega (arith, size, padding_size (Block r mac) (Block other code) number i packet payload h p e) in
    many ∙ (sym (alike_padding (Block r mac) (Block other code) (length payload) h) ∙ ap (λ q. padding_length (Block r mac) (length q)) (sym p))
padded_by_test (Gcm key nonce) (Gcm other more) number i packet payload h p e size zeros =
    let many : length i.padding ≡ padding_length (Gcm other more) (length payload) = omega (arith, size, padding_size (Gcm key nonce) (Gcm other more) number i packet payload h p e) in
    many ∙ ap (λ q. padding_length (Gcm key nonce) (length q)) (sym p)
padded_by_test Clear (Block r mac) number i packet payload h p e size zeros = absurd h
padded_by_test Clear (Gcm key nonce) number i packet payload h p e size zeros = absurd h
padded_by_test (Block r mac) Clear number i packet payload h p e size zeros = absurd h
padded_by_test (Block r mac) (Gcm key nonce) number i packet payload h p e size zeros = absurd h
padded_by_test (Gcm key nonce) Clear number i packet payload h p e size zeros = absurd h
padded_by_test (Gcm key nonce) (Block r mac) number i packet payload h p e size zeros = absurd h

padding_is : (s : Sealing) (i : Item) → IsPadded s i → length i.padding ≡ padding_length s (length i.payload)
padding_is Clear i h = ap length h ∙ length-replicate (padding_length Clear (length i.payload)) 0
padding_is (Block r mac) i h = h
padding_is (Gcm key nonce) i h = h

pub padded_has_size : (s t : Sealing) (number : ℕ) (i : Item) (packet payload : List ℕ) → AreAlike s t → i.payload ≡ payload → packet ≡ sealed_packet s number i → IsPadded s i → HasSize t packet payload
padded_has_size s t number i packet payload h p e padded =
    let many : length i.padding ≡ padding_length t (length payload) = padding_is s i padded ∙ (alike_padding s t (length i.payload) h ∙ ap (λ q. padding_length t (length q)) p) in
    omega (arith, many, padding_size s t number i packet payload h p e)

pub padded_has_zeros : (s t : Sealing) (number : ℕ) (i : Item) (packet payload : List ℕ) → AreAlike s t → i.payload ≡ payload → packet ≡ sealed_packet s number i → IsPadded s i → HasZeros t (5 + length payload) packet
padded_has_zeros Clear Clear number i packet payload h p e padded = ap (list_all is_zero) (clear_zeros number i packet payload p e ∙ padded) ∙ are_zeros (padding_length Clear (length i.payload))
padded_has_zeros s (Block other code) number i packet payload h p e padded = tt
padded_has_zeros s (Gcm other more) number i packet payload h p e padded = tt
padded_has_zeros (Block r mac) Clear number i packet payload h p e padded = absurd h
padded_has_zeros (Gcm key nonce) Clear number i packet payload h p e padded = absurd h

-- both tests together
pub padding_told : (s t : Sealing) (number : ℕ) (i : Item) (packet payload : List ℕ) (size plain : Bool) → (IsTrue size ↔ HasSize t packet payload) → (5 + length payload ≤ length packet → IsTrue plain ↔ HasZeros t (5 + length payload) packet) → AreAlike s t → i.payload ≡ payload → packet ≡ sealed_packet s number i → (IsTrue (size && plain) → IsPadded s i) × (IsPadded s i → IsTrue (size && plain))
padding_told s t number i packet payload size plain a b h p e = let l : 5 + length payload ≤ length packet = omega (arith, padding_size s t number i packet payload h p e) in by size plain a (b l) where
  by : (size plain : Bool) → (IsTrue size ↔ HasSize t packet payload) → (IsTrue plain ↔ HasZeros t (5 + length payload) packet) → (IsTrue (size && plain) → IsPadded s i) × (IsPadded s i → IsTrue (size && plain))
  by true true a b = (λ y. padded_by_test s t number i packet payload h p e (a.0 refl) (b.0 refl), λ y. refl)
  by true false a b = (λ y. absurd (let z : false ≡ true = y in cc), λ y. b.1 (padded_has_zeros s t number i packet payload h p e y))
  by false plain a b = (λ y. absurd (let z : false ≡ true = y in cc), λ y. absurd (let z : false ≡ true = a.1 (padded_has_size s t number i packet payload h p e y) in cc))
