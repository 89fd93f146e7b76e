-- The encoded message is below a modulus of its length.
use Rattle.std.proofs.Common.{◌≡◌, ℕ, zero, suc, ◌+◌, ◌-◌, ◌*◌, ◌^◌, ◌<◌, ◌≤◌, true, List, ◌∷◌, ◌++◌, length, replicate, ap, ◌∙◌, arith, length-append, mul_comm}
use Rattle.std.proofs.lemmas.Bool.Decides.{nat_tests}
use Rattle.std.proofs.lemmas.List.{length-replicate}
use Rattle.std.proofs.lemmas.Nat.{mul-add-lt, pow-add}
use Rattle.std.proofs.Math.Nat.{pow-suc}
use Rattle.ssh_mac.proofs.Lemmas.{digests_have_length}
use Rattle.ssh_mac.specs.Digests.{digest_length, digest_of}
use Rattle.ssh_wire.specs.declared.algorithm.HashAlg.{HashAlg}
use Rattle.ssh_wire.specs.declared.algorithm.HashAlg.TheVariants.{Sha256, Sha512}
use Rattle.ssh_wire.specs.Forms.{magnitude, number}
use Rattle.ssh_kex.proofs.Lemmas.{digest_bytes_are}
use Rattle.ssh_power.proofs.Lemmas.{no_zero, number_append, number_below, number_from}
use Rattle.ssh_modp.specs.Rsa.{digest_form, digest_info, digest_kind, encoded_message, has_message}

-- a number of so many bytes
abbrev Fits : List ℕ → Type 0
Fits bytes = number bytes < 256 ^ length bytes

cons_fits : (b : ℕ) (s : List ℕ) → b < 256 → Fits s → Fits (b ∷ s)
cons_fits b s h f = rw pow-suc (mul-add-lt b (256 ^ length s) (number s) 256 h f)

append_fits : (s t : List ℕ) → Fits s → Fits t → Fits (s ++ t)
append_fits s t f g =
    let a : number (s ++ t) ≡ number s * 256 ^ length t + number t = number_append s t in
    let b : 256 ^ length (s ++ t) ≡ 256 ^ length s * 256 ^ length t =
    ap (λ (n : ℕ). 256 ^ n) (length-append s t) ∙ pow-add 256 (length s) (length t) in
    let c : number s * 256 ^ length t + number t < 256 ^ length t * 256 ^ length s =
    mul-add-lt (number s) (256 ^ length t) (number t) (256 ^ length s) f g in
    omega (arith, a, b, mul_comm (256 ^ length t) (256 ^ length s), c)

ones_fit : (n : ℕ) → Fits (replicate n 255)
ones_fit zero = omega arith
ones_fit (suc n) = cons_fits 255 (replicate n 255) (omega arith) (ones_fit n)

info_fits : (hash : HashAlg) → Fits (digest_info hash)
info_fits Sha256 = omega arith
info_fits Sha512 = omega arith

form_fits : (hash : HashAlg) (text : List ℕ) → Fits (digest_form hash text)
form_fits hash text =
    append_fits (digest_info hash) (digest_of (digest_kind hash) text) (info_fits hash)
    (number_below (digest_of (digest_kind hash) text) (digest_bytes_are (digest_kind hash) text))

-- what stands behind the first byte
abbrev behind_first : HashAlg → List ℕ → ℕ → List ℕ
behind_first hash text count = 1 ∷ replicate count 255 ++ (0 ∷ digest_form hash text)

behind_fits : (hash : HashAlg) (text : List ℕ) (count : ℕ) → Fits (behind_first hash text count)
behind_fits hash text count =
    cons_fits 1 (replicate count 255 ++ (0 ∷ digest_form hash text)) (omega arith)
    (append_fits (replicate count 255) (0 ∷ digest_form hash text) (ones_fit count)
    (cons_fits 0 (digest_form hash text) (omega arith) (form_fits hash text)))

behind_long : (hash : HashAlg) (text : List ℕ) (count : ℕ)
    → length (behind_first hash text count) ≡ count + (2 + length (digest_form hash text))
behind_long hash text count =
    let ones : List ℕ = replicate count 255 in
    let a : length (ones ++ (0 ∷ digest_form hash text)) ≡ length ones + length (0 ∷ digest_form hash text) =
    length-append ones (0 ∷ digest_form hash text) in
    let b : length ones ≡ count = length-replicate count 255 in
    omega (arith, a, b)

-- a message that has room is below the modulus
pub below_modulus : (hash : HashAlg) (text modulus : List ℕ) → magnitude modulus ≡ modulus
    → has_message hash text (length modulus) ≡ true
    → number (encoded_message hash text (length modulus)) < number modulus
unfolding encoded_message
below_modulus hash text modulus front room =
    let count : ℕ = length modulus - (length (digest_form hash text) + 3) in
    let some : length (digest_form hash text) + 11 ≤ length modulus = grind (arith, nat_tests) in
    let long = behind_long hash text count in
    let less : length (behind_first hash text count) < length modulus = omega (arith, some, long) in
    let high = number_from (length (behind_first hash text count)) modulus (no_zero modulus front) less in
    let low = behind_fits hash text count in
    omega (arith, low, high)

-- where there is room for a digest of its length, there is room for each message
pub room_for_each : (hash : HashAlg) (text : List ℕ) (size : ℕ)
    → length (digest_info hash) + digest_length (digest_kind hash) + 11 ≤ size → has_message hash text size ≡ true
room_for_each hash text size h =
    let e : length (digest_form hash text) ≡ length (digest_info hash) + digest_length (digest_kind hash) =
    length-append (digest_info hash) (digest_of (digest_kind hash) text)
    ∙ ap (λ (n : ℕ). length (digest_info hash) + n) (digests_have_length (digest_kind hash) text) in
    let room : length (digest_form hash text) + 11 ≤ size = omega (arith, e, h) in
    grind (arith, nat_tests)
