-- The product in the field commutes and associates.
use Rattle.std.proofs.Common.{◌≡◌, ℕ, zero, suc, ◌-◌, ◌*◌, ◌^◌, ◌<◌, inl, inr, refl, sym, subst, ◌∙◌, ap, arith, lit<}
use Rattle.std.specs.Prelude.{bit_xor}
use Rattle.std.specs.Int.{bit_at}
use Rattle.std.specs.Int.Bits.{xor_zero_r}
use Rattle.std.proofs.Math.Nat.{pow-suc, one-mul}
use Rattle.std.proofs.lemmas.Nat.{xor_lt, pow_pos}
use Rattle.std.proofs.lemmas.Bool.{cases_lt}
use Rattle.ssh_aes.specs.Field.{polynomial_product, product_modulo, remainder, times_x, block_modulus, block_product}
use Rattle.ssh_aes.proofs.Polynomials.{product_sum, remainder-sum, remainder-small, times_x-low, times_x-high, reduced-times_x}
use Rattle.ssh_aes.proofs.Additive.{IsAdditive, additive-after, agree}
use Rattle.ssh_aes.proofs.Products.{product_sum_left, product-doubled, product-doubled_left, product-none}

abbrev x : ℕ → ℕ
x z = times_x 128 block_modulus z

regroup : (p q : ℕ) → 2 * (p * q) ≡ 2 * p * q
regroup p q = grind arith

doubled_power : (i : ℕ) → 2 ^ suc i ≡ 2 * 2 ^ i
doubled_power i = let e : 2 ^ suc i ≡ 2 ^ i * 2 = pow-suc 2 i in omega (arith, e)

first_only : (n q : ℕ) → polynomial_product (suc n) 1 q ≡ q
unfolding polynomial_product
first_only n q =
    let b : bit_at 1 0 * q ≡ q = one-mul q in
    ap (λ u. bit_xor (bit_at 1 0 * q) (2 * u)) (product-none n q) ∙ xor_zero_r (bit_at 1 0 * q) ∙ b

pow-lt : (i n : ℕ) → i < n → 2 ^ i < 2 ^ n
pow-lt i zero h = absurd (omega arith)
pow-lt zero (suc n) h = let e = doubled_power n in let p = pow_pos n in omega (arith, e, p)
pow-lt (suc i) (suc n) h = let e = doubled_power n in let f = doubled_power i in let l = pow-lt i n (omega arith) in omega (arith, e, f, l)

-- a factor x^i on the left, and on the right
power_left : (n i q : ℕ) → i < n → polynomial_product n (2 ^ i) q ≡ 2 ^ i * q
power_left zero i q h = absurd (omega arith)
power_left (suc n) zero q h = let e : q ≡ 1 * q = omega arith in first_only n q ∙ e
power_left (suc n) (suc i) q h =
    let r = 2 ^ i * q in
    let p = power_left n i q (omega arith) in
    ap (λ u. polynomial_product (suc n) u q) (doubled_power i) ∙ product-doubled_left n (2 ^ i) q ∙ ap (λ u. 2 * u) p ∙ regroup (2 ^ i) q ∙ ap (λ u. u * q) (sym (doubled_power i))

power_right : (n i p : ℕ) → polynomial_product n p (2 ^ i) ≡ 2 ^ i * polynomial_product n p 1
power_right n zero p = let e : polynomial_product n p 1 ≡ 1 * polynomial_product n p 1 = omega arith in e
power_right n (suc i) p =
    ap (polynomial_product n p) (doubled_power i) ∙ product-doubled n p (2 ^ i) ∙ ap (λ u. 2 * u) (power_right n i p) ∙ regroup (2 ^ i) (polynomial_product n p 1) ∙ ap (λ u. u * polynomial_product n p 1) (sym (doubled_power i))

additive-left : (n q : ℕ) → IsAdditive (λ p. polynomial_product n p q)
additive-left n q = record { sums = λ a b. product_sum_left n a b q }

additive-right : (n p : ℕ) → IsAdditive (λ q. polynomial_product n p q)
additive-right n p = record { sums = λ a b. product_sum n p a b }

by_one : (p : ℕ) → p < 2 ^ 128 → polynomial_product 128 p 1 ≡ p
by_one p h = agree 128 (λ p. polynomial_product 128 p 1) (λ p. p) (additive-left 128 1) (record { sums = λ a b. refl }) (λ i l. power_left 128 i 1 l ∙ let e : 2 ^ i * 1 ≡ 2 ^ i = omega arith in e) p h

pub product-commutes : (p q : ℕ) → p < 2 ^ 128 → q < 2 ^ 128 → polynomial_product 128 p q ≡ polynomial_product 128 q p
product-commutes p q h l =
    agree 128 (λ p. polynomial_product 128 p q) (λ p. polynomial_product 128 q p) (additive-left 128 q) (additive-right 128 q)
    (λ i m. power_left 128 i q m ∙ sym (power_right 128 i q ∙ ap (λ u. 2 ^ i * u) (by_one q l))) p h

pub block_product-commutes : (p q : ℕ) → p < 2 ^ 128 → q < 2 ^ 128 → block_product p q ≡ block_product q p
unfolding product_modulo
block_product-commutes p q h l = ap (remainder 128 block_modulus 128) (product-commutes p q h l)

pub additive-factor : (q : ℕ) → IsAdditive (λ p. block_product p q)
unfolding product_modulo
additive-factor q = record { sums = λ a b. ap (remainder 128 block_modulus 128) (product_sum_left 128 a b q) ∙ remainder-sum 128 block_modulus 128 (polynomial_product 128 a q) (polynomial_product 128 b q) }

-- the product with x goes through the second factor, and the first
through_second : (p q : ℕ) → q < 2 ^ 128 → x q < 2 ^ 128 → block_product p (x q) ≡ x (block_product p q)
unfolding product_modulo
through_second p q h l = reduced-times_x 128 block_modulus 128 p q h l

through_first : (p q : ℕ) → p < 2 ^ 128 → x p < 2 ^ 128 → q < 2 ^ 128 → block_product (x p) q ≡ x (block_product p q)
through_first p q h l m =
    block_product-commutes (x p) q l m ∙ through_second q p h l ∙ ap x (block_product-commutes q p m h)

one-factor : (q : ℕ) → q < 2 ^ 128 → block_product 1 q ≡ q
unfolding product_modulo
one-factor q h = ap (remainder 128 block_modulus 128) (first_only 127 q) ∙ remainder-small 128 block_modulus 128 q h

times_x-lt : (z : ℕ) → z < 2 ^ 128 → x z < 2 ^ 128
times_x-lt z h = elim (cases_lt z (2 ^ 127)) [
  | inl l ↦ subst (λ n. n < 2 ^ 128) (times_x-low z l) (omega arith)
  | inr g ↦ subst (λ n. n < 2 ^ 128) (times_x-high z g h) (xor_lt 128 (2 * (z - 2 ^ 127)) 0x87 (omega arith) (lit< tt))
]

power-lt : (i : ℕ) → i < 128 → 2 ^ i < 2 ^ 128
power-lt i h = pow-lt i 128 h

-- the product with the next power of x
next_power : (i q : ℕ) → suc i < 128 → q < 2 ^ 128 → block_product (2 ^ suc i) q ≡ x (block_product (2 ^ i) q)
next_power i q h l =
    let s = power-lt i (omega arith) in
    let t : 2 ^ i < 2 ^ 127 = pow-lt i 127 (omega arith) in
    let e : 2 ^ suc i ≡ x (2 ^ i) = doubled_power i ∙ times_x-low (2 ^ i) t in
    ap (λ u. block_product u q) e ∙ through_first (2 ^ i) q s (times_x-lt (2 ^ i) s) l

power_product-lt : (i q : ℕ) → i < 128 → q < 2 ^ 128 → block_product (2 ^ i) q < 2 ^ 128
power_product-lt zero q h l = subst (λ n. n < 2 ^ 128) (sym (one-factor q l)) l
power_product-lt (suc i) q h l = subst (λ n. n < 2 ^ 128) (sym (next_power i q h l)) (times_x-lt (block_product (2 ^ i) q) (power_product-lt i q (omega arith) l))

power_associates : (i a b : ℕ) → i < 128 → a < 2 ^ 128 → b < 2 ^ 128 → block_product a b < 2 ^ 128 → block_product (block_product (2 ^ i) a) b ≡ block_product (2 ^ i) (block_product a b)
power_associates zero a b h l m n = ap (λ u. block_product u b) (one-factor a l) ∙ sym (one-factor (block_product a b) n)
power_associates (suc i) a b h l m n =
    let p = power_product-lt i a (omega arith) l in
    ap (λ u. block_product u b) (next_power i a h l)
    ∙ through_first (block_product (2 ^ i) a) b p (times_x-lt (block_product (2 ^ i) a) p) m
    ∙ ap x (power_associates i a b (omega arith) l m n)
    ∙ sym (next_power i (block_product a b) h n)

pub associates : (s a b : ℕ) → s < 2 ^ 128 → a < 2 ^ 128 → b < 2 ^ 128 → block_product a b < 2 ^ 128 → block_product (block_product s a) b ≡ block_product s (block_product a b)
associates s a b h l m n =
    agree 128 (λ s. block_product (block_product s a) b) (λ s. block_product s (block_product a b))
    (additive-after (λ u. block_product u b) (λ u. block_product u a) (additive-factor b) (additive-factor a)) (additive-factor (block_product a b))
    (λ i k. power_associates i a b k l m n) s h

-- ---- two blocks at once

-- two steps of the hash by the key and its square
pub two_steps : (s e h h2 : ℕ) → s < 2 ^ 128 → h < 2 ^ 128 → h2 < 2 ^ 128 → h2 ≡ block_product h h
    → block_product (bit_xor (block_product s h) e) h ≡ bit_xor (block_product s h2) (block_product e h)
two_steps s e h h2 l k k2 p2 =
    let f = λ (u : ℕ). block_product u h in
    (additive-factor h).sums (f s) e
    ∙ ap (λ n. bit_xor n (f e)) (associates s h h l k k (subst (λ n. n < 2 ^ 128) p2 k2) ∙ ap (block_product s) (sym p2))
