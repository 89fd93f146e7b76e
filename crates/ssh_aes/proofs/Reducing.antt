-- What is left of a polynomial of degree below 256.
use Rattle.std.proofs.Common.{◌≡◌, ℕ, ◌+◌, ◌*◌, ◌/◌, ◌%◌, ◌^◌, ◌<◌, true, eqb, refl, sym, ◌∙◌, ap}
use Rattle.std.specs.Prelude.{bit_xor}
use Rattle.std.specs.Int.Bits.{xor_assoc}
use Rattle.std.proofs.lemmas.Nat.{xor_comm}
use Rattle.std.proofs.lemmas.Bool.{eqb-true}
use Rattle.ssh_aes.specs.Field.{remainder, block_modulus}
use Rattle.ssh_aes.proofs.Below.{all_below, all_below-at}
use Rattle.ssh_aes.proofs.Polynomials.{remainder-sum, remainder-small}
use Rattle.ssh_aes.proofs.Additive.{IsAdditive, additive-same, additive-sum, additive-after, additive-shr, additive-shl, additive-mod, xor_parts, agree}

-- the higher half with what x^128 times its highest seven coefficients leaves above x^127
abbrev pub folded : ℕ → ℕ
folded h = bit_xor (bit_xor (bit_xor h (h / 2 ^ 127)) (h / 2 ^ 126)) (h / 2 ^ 121)

-- the product with x^7 + x^2 + x + 1, cut to 128 coefficients
abbrev pub spread : ℕ → ℕ
spread f = bit_xor (bit_xor (bit_xor f (f * 2 ^ 1 % 2 ^ 128)) (f * 2 ^ 2 % 2 ^ 128)) (f * 2 ^ 7 % 2 ^ 128)

abbrev left : ℕ → ℕ
left h = remainder 128 block_modulus 128 (h * 2 ^ 128)

folded-additive : IsAdditive folded
folded-additive =
    additive-sum (λ h. bit_xor (bit_xor h (h / 2 ^ 127)) (h / 2 ^ 126)) (λ h. h / 2 ^ 121)
    (additive-sum (λ h. bit_xor h (h / 2 ^ 127)) (λ h. h / 2 ^ 126) (additive-sum (λ h. h) (λ h. h / 2 ^ 127) additive-same (additive-shr 127)) (additive-shr 126)) (additive-shr 121)

shifted-additive : (k : ℕ) → IsAdditive (λ f. f * 2 ^ k % 2 ^ 128)
shifted-additive k = additive-after (λ f. f % 2 ^ 128) (λ f. f * 2 ^ k) (additive-mod 128) (additive-shl k)

spread-additive : IsAdditive spread
spread-additive =
    additive-sum (λ f. bit_xor (bit_xor f (f * 2 ^ 1 % 2 ^ 128)) (f * 2 ^ 2 % 2 ^ 128)) (λ f. f * 2 ^ 7 % 2 ^ 128)
    (additive-sum (λ f. bit_xor f (f * 2 ^ 1 % 2 ^ 128)) (λ f. f * 2 ^ 2 % 2 ^ 128) (additive-sum (λ f. f) (λ f. f * 2 ^ 1 % 2 ^ 128) additive-same (shifted-additive 1)) (shifted-additive 2)) (shifted-additive 7)

left-additive : IsAdditive left
left-additive = additive-after (remainder 128 block_modulus 128) (λ h. h * 2 ^ 128) (record { sums = remainder-sum 128 block_modulus 128 }) (additive-shl 128)

powers_test : all_below 128 (λ i. eqb (spread (folded (2 ^ i))) (left (2 ^ i))) ≡ true
unfolding remainder
powers_test = refl

powers : (i : ℕ) → i < 128 → spread (folded (2 ^ i)) ≡ left (2 ^ i)
powers i h = eqb-true _ _ (all_below-at 128 (λ i. eqb (spread (folded (2 ^ i))) (left (2 ^ i))) powers_test i h)

pub reduced-is : (h l : ℕ) → h < 2 ^ 128 → l < 2 ^ 128 → bit_xor l (spread (folded h)) ≡ remainder 128 block_modulus 128 (h * 2 ^ 128 + l)
reduced-is h l hh hl =
    let e = agree 128 (λ h. spread (folded h)) left (additive-after spread folded spread-additive folded-additive) left-additive powers h hh in
    ap (bit_xor l) e
    ∙ xor_comm l (left h)
    ∙ ap (bit_xor (left h)) (sym (remainder-small 128 block_modulus 128 l hl))
    ∙ sym (remainder-sum 128 block_modulus 128 (h * 2 ^ 128) l)
    ∙ ap (remainder 128 block_modulus 128) (xor_parts 128 h l hl)

-- the sum from the left
pub reduced-left : (h l : ℕ) → h < 2 ^ 128 → l < 2 ^ 128 → bit_xor (bit_xor (bit_xor (bit_xor l (folded h)) (folded h * 2 ^ 1 % 2 ^ 128)) (folded h * 2 ^ 2 % 2 ^ 128)) (folded h * 2 ^ 7 % 2 ^ 128) ≡ remainder 128 block_modulus 128 (h * 2 ^ 128 + l)
reduced-left h l hh hl =
    let f = folded h in
    let a = f * 2 ^ 1 % 2 ^ 128 in
    let b = f * 2 ^ 2 % 2 ^ 128 in
    let c = f * 2 ^ 7 % 2 ^ 128 in
    ap (λ x. bit_xor (bit_xor x b) c) (xor_assoc l f a)
    ∙ ap (λ x. bit_xor x c) (xor_assoc l (bit_xor f a) b)
    ∙ xor_assoc l (bit_xor (bit_xor f a) b) c
    ∙ reduced-is h l hh hl
