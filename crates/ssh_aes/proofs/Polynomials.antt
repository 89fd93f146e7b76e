-- Products of polynomials modulo another, step by step.
use Rattle.std.proofs.Common.{◌≡◌, ℕ, zero, suc, ◌+◌, ◌*◌, ◌/◌, ◌%◌, ◌^◌, ◌<◌, ◌≤◌, ◌⊎◌, inl, inr, refl, sym, ◌∙◌, ap, arith, lit<, ◌-◌}
use Rattle.std.specs.Prelude.{bit_xor}
use Rattle.std.specs.Int.{bit_at}
use Rattle.std.specs.Int.Bits.{xor_self, xor_zero_l, xor_zero_r, xor_assoc}
use Rattle.std.proofs.lemmas.Nat.{xor_comm, xor_block, pow_pos}
use Rattle.std.proofs.lemmas.Nat.Bits.{bit_at_xor, bit_at-lt, bit_at-suc, bit_at_above, bit_at-zero}
use Rattle.std.proofs.Math.Nat.{zero-mul, one-mul, pow-suc, zero-add}
use Rattle.ssh_aes.specs.Field.{polynomial_product, remainder, product_modulo, times_x, block_modulus}

-- ---- sums

pub xor_swap : (a b c : ℕ) → bit_xor a (bit_xor b c) ≡ bit_xor b (bit_xor a c)
xor_swap a b c = sym (xor_assoc a b c) ∙ ap (λ x. bit_xor x c) (xor_comm a b) ∙ xor_assoc b a c

-- the sum of two sums, the other way round
pub xor_across : (a b c d : ℕ) → bit_xor (bit_xor a b) (bit_xor c d) ≡ bit_xor (bit_xor a c) (bit_xor b d)
xor_across a b c d = xor_assoc a b (bit_xor c d) ∙ ap (bit_xor a) (xor_swap b c d) ∙ sym (xor_assoc a c (bit_xor b d))

pub xor_cancel : (a b : ℕ) → bit_xor (bit_xor a b) b ≡ a
xor_cancel a b = xor_assoc a b b ∙ ap (bit_xor a) (xor_self b) ∙ xor_zero_r a

bit_cases : (c : ℕ) → c < 2 → (c ≡ 0) ⊎ (c ≡ 1)
bit_cases c h = grind arith

-- a sum of two bits times q
pub scaled : (c d q : ℕ) → c < 2 → d < 2 → (c + d) % 2 * q ≡ bit_xor (c * q) (d * q)
scaled c d q h k =
    let P : ℕ → ℕ → Type 0 = λ x y. (x + y) % 2 * q ≡ bit_xor (x * q) (y * q) in
    let zz : P 0 0 = rw (zero-mul q) refl in
    let zo : P 0 1 = rw (zero-mul q, one-mul q) refl in
    let oz : P 1 0 = rw (zero-mul q, one-mul q) (sym (xor_zero_r q)) in
    let oo : P 1 1 = rw (zero-mul q, one-mul q) (sym (xor_self q)) in
    elim (bit_cases c h) [
      | inl e ↦ elim (bit_cases d k) [ inl f ↦ rw (e, f) zz | inr f ↦ rw (e, f) zo ]
      | inr e ↦ elim (bit_cases d k) [ inl f ↦ rw (e, f) oz | inr f ↦ rw (e, f) oo ]
    ]

-- a bit times a sum
pub scaled_sum : (c q r : ℕ) → c < 2 → c * bit_xor q r ≡ bit_xor (c * q) (c * r)
scaled_sum c q r h = elim (bit_cases c h) [
  | inl e ↦ rw (e, zero-mul (bit_xor q r), zero-mul q, zero-mul r) refl
  | inr e ↦ rw (e, one-mul (bit_xor q r), one-mul q, one-mul r) refl
]

-- a coefficient of a sum, times q
pub bit_scaled : (a b i q : ℕ) → bit_at (bit_xor a b) i * q ≡ bit_xor (bit_at a i * q) (bit_at b i * q)
bit_scaled a b i q = ap (λ c. c * q) (bit_at_xor a b i) ∙ scaled (bit_at a i) (bit_at b i) q (bit_at-lt a i) (bit_at-lt b i)

-- twice a sum
pub doubled_sum : (a b : ℕ) → 2 * bit_xor a b ≡ bit_xor (2 * a) (2 * b)
doubled_sum a b =
    let e : bit_xor (a * 2 ^ 1 + 0) (b * 2 ^ 1 + 0) ≡ bit_xor a b * 2 ^ 1 + bit_xor 0 0 = xor_block 1 a b 0 0 (omega arith) (omega arith) in
    let x : a * 2 ^ 1 + 0 ≡ 2 * a = omega arith in
    let y : b * 2 ^ 1 + 0 ≡ 2 * b = omega arith in
    let z : bit_xor a b * 2 ^ 1 + bit_xor 0 0 ≡ 2 * bit_xor a b = omega arith in
    sym z ∙ sym e ∙ ap (λ u. bit_xor u (b * 2 ^ 1 + 0)) x ∙ ap (bit_xor (2 * a)) y

-- ---- times x

pub times_x-sum : (n m a b : ℕ) → times_x n m (bit_xor a b) ≡ bit_xor (times_x n m a) (times_x n m b)
times_x-sum n m a b =
    ap (λ u. bit_xor u (bit_at u n * m)) (doubled_sum a b)
    ∙ ap (bit_xor (bit_xor (2 * a) (2 * b))) (bit_scaled (2 * a) (2 * b) n m)
    ∙ xor_across (2 * a) (2 * b) (bit_at (2 * a) n * m) (bit_at (2 * b) n * m)

-- ---- remainders

pub remainder-sum : (n m k p q : ℕ) → remainder n m k (bit_xor p q) ≡ bit_xor (remainder n m k p) (remainder n m k q)
unfolding remainder
remainder-sum n m zero p q = refl
remainder-sum n m (suc k) p q =
    ap (λ u. remainder n m k (bit_xor (bit_xor p q) u)) (bit_scaled p q (n + k) (m * 2 ^ k))
    ∙ ap (remainder n m k) (xor_across p q (bit_at p (n + k) * (m * 2 ^ k)) (bit_at q (n + k) * (m * 2 ^ k)))
    ∙ remainder-sum n m k (bit_xor p (bit_at p (n + k) * (m * 2 ^ k))) (bit_xor q (bit_at q (n + k) * (m * 2 ^ k)))

pub one_bit : (p c M : ℕ) → c ≡ 1 → bit_xor p (c * M) ≡ bit_xor p M
one_bit p c M e = rw (e, one-mul M) refl

pub no_bit : (p c M : ℕ) → c ≡ 0 → bit_xor p (c * M) ≡ p
no_bit p c M e = rw (e, zero-mul M) (xor_zero_r p)

pub remainder-small : (n m k p : ℕ) → p < 2 ^ n → remainder n m k p ≡ p
unfolding remainder
remainder-small n m zero p h = refl
remainder-small n m (suc k) p h =
    ap (remainder n m k) (no_bit p (bit_at p (n + k)) (m * 2 ^ k) (bit_at_above p n (n + k) h (omega arith))) ∙ remainder-small n m k p h

half : (p : ℕ) → 2 * p / 2 ≡ p
half p = omega arith

doubled_bit : (p i : ℕ) → bit_at (2 * p) (suc i) ≡ bit_at p i
doubled_bit p i = bit_at-suc (2 * p) i ∙ ap (λ u. bit_at u i) (half p)

doubled_scale : (c m k : ℕ) → c * (m * 2 ^ suc k) ≡ 2 * (c * (m * 2 ^ k))
doubled_scale c m k = rw (pow-suc 2 k) (omega arith)

pub remainder-doubled : (n m k p : ℕ) → remainder n m (suc k) (2 * p) ≡ times_x n m (remainder n m k p)
unfolding remainder
remainder-doubled n m zero p =
    ap (λ u. bit_xor (2 * p) (bit_at (2 * p) u * (m * 2 ^ 0))) (let e : n + 0 ≡ n = omega arith in e)
    ∙ ap (λ u. bit_xor (2 * p) (bit_at (2 * p) n * u)) (let e : m * 2 ^ 0 ≡ m = omega arith in e)
remainder-doubled n m (suc k) p =
    let e : n + suc k ≡ suc (n + k) = omega arith in
    ap (λ u. remainder n m (suc k) (bit_xor (2 * p) (bit_at (2 * p) u * (m * 2 ^ suc k)))) e
    ∙ ap (λ u. remainder n m (suc k) (bit_xor (2 * p) (u * (m * 2 ^ suc k)))) (doubled_bit p (n + k))
    ∙ ap (λ u. remainder n m (suc k) (bit_xor (2 * p) u)) (doubled_scale (bit_at p (n + k)) m k)
    ∙ ap (remainder n m (suc k)) (sym (doubled_sum p (bit_at p (n + k) * (m * 2 ^ k))))
    ∙ remainder-doubled n m k (bit_xor p (bit_at p (n + k) * (m * 2 ^ k)))

-- ---- products

-- the product with the first k coefficients of p, reduced
abbrev pub reduced : ℕ → ℕ → ℕ → ℕ → ℕ → ℕ
reduced n m k p q = remainder n m k (polynomial_product k p q)

bit_small : (n c q : ℕ) → c < 2 → q < 2 ^ n → c * q < 2 ^ n
bit_small n c q h k = elim (bit_cases c h) [ inl e ↦ rw (e, zero-mul q) (pow_pos n) | inr e ↦ rw (e, one-mul q) k ]

reduced-none : (n m p q : ℕ) → times_x n m q < 2 ^ n → reduced n m 0 p (times_x n m q) ≡ times_x n m (reduced n m 0 p q)
unfolding polynomial_product remainder
reduced-none n m p q l = let z : bit_at (2 * 0) n * m ≡ 0 = rw (bit_at-zero n) (zero-mul m) in rw z refl

-- one coefficient, and x times the rest
pub reduced-step : (n m k p q : ℕ) → q < 2 ^ n → reduced n m (suc k) p q ≡ bit_xor (bit_at p 0 * q) (times_x n m (reduced n m k (p / 2) q))
unfolding polynomial_product
reduced-step n m k p q h =
    remainder-sum n m (suc k) (bit_at p 0 * q) (2 * polynomial_product k (p / 2) q)
    ∙ ap (λ u. bit_xor u (remainder n m (suc k) (2 * polynomial_product k (p / 2) q))) (remainder-small n m (suc k) (bit_at p 0 * q) (bit_small n (bit_at p 0) q (bit_at-lt p 0) h))
    ∙ ap (bit_xor (bit_at p 0 * q)) (remainder-doubled n m k (polynomial_product k (p / 2) q))

-- a sum as the second factor
pub product_sum : (k p q r : ℕ) → polynomial_product k p (bit_xor q r) ≡ bit_xor (polynomial_product k p q) (polynomial_product k p r)
unfolding polynomial_product
product_sum zero p q r = refl
product_sum (suc k) p q r =
    let x : bit_at p 0 * bit_xor q r ≡ bit_xor (bit_at p 0 * q) (bit_at p 0 * r) = scaled_sum (bit_at p 0) q r (bit_at-lt p 0) in
    ap (λ u. bit_xor u (2 * polynomial_product k (p / 2) (bit_xor q r))) x
    ∙ ap (λ u. bit_xor (bit_xor (bit_at p 0 * q) (bit_at p 0 * r)) (2 * u)) (product_sum k (p / 2) q r)
    ∙ ap (bit_xor (bit_xor (bit_at p 0 * q) (bit_at p 0 * r))) (doubled_sum (polynomial_product k (p / 2) q) (polynomial_product k (p / 2) r))
    ∙ xor_across (bit_at p 0 * q) (bit_at p 0 * r) (2 * polynomial_product k (p / 2) q) (2 * polynomial_product k (p / 2) r)

pub product_modulo-sum : (n m p q r : ℕ) → product_modulo n m p (bit_xor q r) ≡ bit_xor (product_modulo n m p q) (product_modulo n m p r)
unfolding product_modulo
product_modulo-sum n m p q r = ap (remainder n m n) (product_sum n p q r) ∙ remainder-sum n m n (polynomial_product n p q) (polynomial_product n p r)

-- ---- the product with x goes through

times_x-bit : (n m c q : ℕ) → c < 2 → times_x n m (c * q) ≡ c * times_x n m q
times_x-bit n m c q h =
    let z : bit_at (2 * 0) n * m ≡ 0 = rw (bit_at-zero n) (zero-mul m) in
    let t : times_x n m 0 ≡ 0 = rw z refl in
    elim (bit_cases c h) [
      | inl e ↦ rw (e, zero-mul q, zero-mul (times_x n m q)) t
      | inr e ↦ rw (e, one-mul q, one-mul (times_x n m q)) refl
    ]

pub reduced-times_x : (n m k p q : ℕ) → q < 2 ^ n → times_x n m q < 2 ^ n → reduced n m k p (times_x n m q) ≡ times_x n m (reduced n m k p q)
reduced-times_x n m zero p q h l = reduced-none n m p q l
reduced-times_x n m (suc k) p q h l =
    reduced-step n m k p (times_x n m q) l
    ∙ ap (λ u. bit_xor (bit_at p 0 * times_x n m q) (times_x n m u)) (reduced-times_x n m k (p / 2) q h l)
    ∙ ap (λ u. bit_xor u (times_x n m (times_x n m (reduced n m k (p / 2) q)))) (sym (times_x-bit n m (bit_at p 0) q (bit_at-lt p 0)))
    ∙ sym (times_x-sum n m (bit_at p 0 * q) (times_x n m (reduced n m k (p / 2) q)))
    ∙ ap (times_x n m) (sym (reduced-step n m k p q h))

-- one turn of a loop that adds the terms up
pub product-turn : (n m k total left term : ℕ) → term < 2 ^ n → times_x n m term < 2 ^ n
    → bit_xor (bit_xor total (bit_at left 0 * term)) (reduced n m k (left / 2) (times_x n m term)) ≡ bit_xor total (reduced n m (suc k) left term)
product-turn n m k total left term h l =
    ap (bit_xor (bit_xor total (bit_at left 0 * term))) (reduced-times_x n m k (left / 2) term h l)
    ∙ xor_assoc total (bit_at left 0 * term) (times_x n m (reduced n m k (left / 2) term))
    ∙ ap (bit_xor total) (sym (reduced-step n m k left term h))

pub product-start : (n m a b : ℕ) → bit_xor 0 (reduced n m n a b) ≡ product_modulo n m a b
unfolding product_modulo
product-start n m a b = xor_zero_l (reduced n m n a b)

pub product-end : (n m total left term : ℕ) → bit_xor total (reduced n m 0 left term) ≡ total
unfolding polynomial_product remainder
product-end n m total left term = xor_zero_r total

-- ---- the product with x on 128 bits

pub times_x-low : (z : ℕ) → z < 2 ^ 127 → 2 * z ≡ times_x 128 block_modulus z
times_x-low z h = sym (no_bit (2 * z) (bit_at (2 * z) 128) block_modulus (bit_at_above (2 * z) 128 128 (omega arith) (omega arith)))

pub times_x-high : (z : ℕ) → 2 ^ 127 ≤ z → z < 2 ^ 128 → bit_xor (2 * (z - 2 ^ 127)) 0x87 ≡ times_x 128 block_modulus z
times_x-high z h l =
    let r = 2 * (z - 2 ^ 127) in
    let d : 2 * z ≡ 1 * 2 ^ 128 + r = omega arith in
    let b : bit_at (2 * z) 128 ≡ 1 = omega arith in
    let m : 1 * block_modulus ≡ 1 * 2 ^ 128 + 0x87 = omega arith in
    let e = xor_block 128 1 1 r 0x87 (omega arith) (lit< tt) in
    sym (ap (λ u. bit_xor (2 * z) (u * block_modulus)) b ∙ ap (λ u. bit_xor u (1 * block_modulus)) d ∙ ap (bit_xor (1 * 2 ^ 128 + r)) m ∙ e ∙ zero-add (bit_xor r 0x87))
