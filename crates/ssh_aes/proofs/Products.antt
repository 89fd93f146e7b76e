-- Products of polynomials without reduction.
use Rattle.std.proofs.Common.{◌≡◌, ℕ, zero, suc, ◌+◌, ◌*◌, ◌/◌, ◌^◌, ◌<◌, ◌≤◌, refl, sym, ◌∙◌, ap, arith}
use Rattle.std.specs.Prelude.{bit_xor}
use Rattle.std.specs.Int.{bit_at}
use Rattle.std.specs.Int.Bits.{xor_zero_l}
use Rattle.std.proofs.lemmas.Nat.{xor_lt, xor_shr, pow_pos}
use Rattle.std.proofs.lemmas.Nat.Bits.{bit_at-lt}
use Rattle.std.proofs.Math.Nat.{zero-mul, pow-suc}
use Rattle.ssh_aes.specs.Field.{polynomial_product}
use Rattle.ssh_aes.proofs.Polynomials.{xor_across, bit_scaled, doubled_sum}

-- a sum as the first factor
pub product_sum_left : (n a b q : ℕ) → polynomial_product n (bit_xor a b) q ≡ bit_xor (polynomial_product n a q) (polynomial_product n b q)
unfolding polynomial_product
product_sum_left zero a b q = refl
product_sum_left (suc n) a b q =
    let h : bit_xor a b / 2 ≡ bit_xor (a / 2) (b / 2) = xor_shr a b 1 in
    ap (λ u. bit_xor u (2 * polynomial_product n (bit_xor a b / 2) q)) (bit_scaled a b 0 q)
    ∙ ap (λ u. bit_xor (bit_xor (bit_at a 0 * q) (bit_at b 0 * q)) (2 * polynomial_product n u q)) h
    ∙ ap (λ u. bit_xor (bit_xor (bit_at a 0 * q) (bit_at b 0 * q)) (2 * u)) (product_sum_left n (a / 2) (b / 2) q)
    ∙ ap (bit_xor (bit_xor (bit_at a 0 * q) (bit_at b 0 * q))) (doubled_sum (polynomial_product n (a / 2) q) (polynomial_product n (b / 2) q))
    ∙ xor_across (bit_at a 0 * q) (bit_at b 0 * q) (2 * polynomial_product n (a / 2) q) (2 * polynomial_product n (b / 2) q)

pub product-none : (n q : ℕ) → polynomial_product n 0 q ≡ 0
unfolding polynomial_product
product-none zero q = refl
product-none (suc n) q =
    ap (λ u. bit_xor (0 * q) (2 * u)) (product-none n q) ∙ ap (λ u. bit_xor u (2 * 0)) (zero-mul q)

pub product-nothing : (n p : ℕ) → polynomial_product n p 0 ≡ 0
unfolding polynomial_product
product-nothing zero p = refl
product-nothing (suc n) p =
    let z : bit_at p 0 * 0 ≡ 0 = omega arith in
    ap (λ u. bit_xor (bit_at p 0 * 0) (2 * u)) (product-nothing n (p / 2)) ∙ ap (λ u. bit_xor u (2 * 0)) z

-- a first factor of degree below k has no more than k coefficients
pub product-short : (k j p q : ℕ) → p < 2 ^ k → polynomial_product (k + j) p q ≡ polynomial_product k p q
unfolding polynomial_product
product-short zero j p q l =
    let e : p ≡ 0 = omega arith in
    let f : 0 + j ≡ j = omega arith in
    ap (λ (i : ℕ). polynomial_product i p q) f ∙ ap (λ (u : ℕ). polynomial_product j u q) e ∙ product-none j q
product-short (suc k) j p q l =
    let f : suc k + j ≡ suc (k + j) = omega arith in
    let d : p / 2 < 2 ^ k = omega (arith, pow-suc 2 k) in
    ap (λ (i : ℕ). polynomial_product i p q) f ∙ ap (λ u. bit_xor (bit_at p 0 * q) (2 * u)) (product-short k j (p / 2) q d)

-- the product with x goes through, in the second factor and in the first
pub product-doubled : (n p q : ℕ) → polynomial_product n p (2 * q) ≡ 2 * polynomial_product n p q
unfolding polynomial_product
product-doubled zero p q = refl
product-doubled (suc n) p q =
    let e : bit_at p 0 * (2 * q) ≡ 2 * (bit_at p 0 * q) = omega arith in
    ap (λ u. bit_xor u (2 * polynomial_product n (p / 2) (2 * q))) e
    ∙ ap (λ u. bit_xor (2 * (bit_at p 0 * q)) (2 * u)) (product-doubled n (p / 2) q)
    ∙ sym (doubled_sum (bit_at p 0 * q) (2 * polynomial_product n (p / 2) q))

pub product-doubled_left : (n p q : ℕ) → polynomial_product (suc n) (2 * p) q ≡ 2 * polynomial_product n p q
unfolding polynomial_product
product-doubled_left n p q =
    let b : bit_at (2 * p) 0 ≡ 0 = omega arith in
    let h : 2 * p / 2 ≡ p = omega arith in
    ap (λ u. bit_xor (u * q) (2 * polynomial_product n (2 * p / 2) q)) b
    ∙ ap (λ u. bit_xor u (2 * polynomial_product n (2 * p / 2) q)) (zero-mul q)
    ∙ xor_zero_l (2 * polynomial_product n (2 * p / 2) q)
    ∙ ap (λ u. 2 * polynomial_product n u q) h

pub product-by_16 : (n p q : ℕ) → polynomial_product n p (16 * q) ≡ 16 * polynomial_product n p q
product-by_16 n p q =
    let e : 16 * q ≡ 2 * (2 * (2 * (2 * q))) = omega arith in
    let f : 2 * (2 * (2 * (2 * polynomial_product n p q))) ≡ 16 * polynomial_product n p q = omega arith in
    ap (polynomial_product n p) e
    ∙ product-doubled n p (2 * (2 * (2 * q)))
    ∙ ap (λ u. 2 * u) (product-doubled n p (2 * (2 * q)))
    ∙ ap (λ u. 2 * (2 * u)) (product-doubled n p (2 * q))
    ∙ ap (λ u. 2 * (2 * (2 * u))) (product-doubled n p q)
    ∙ f

pub product-by_256 : (n p q : ℕ) → polynomial_product n p (256 * q) ≡ 256 * polynomial_product n p q
product-by_256 n p q =
    let e : 256 * q ≡ 16 * (16 * q) = omega arith in
    let f : 16 * (16 * polynomial_product n p q) ≡ 256 * polynomial_product n p q = omega arith in
    ap (polynomial_product n p) e ∙ product-by_16 n p (16 * q) ∙ ap (λ u. 16 * u) (product-by_16 n p q) ∙ f

pub product-by_16_left : (n p q : ℕ) → polynomial_product (4 + n) (16 * p) q ≡ 16 * polynomial_product n p q
product-by_16_left n p q =
    let k : 4 + n ≡ suc (suc (suc (suc n))) = omega arith in
    let e : 16 * p ≡ 2 * (2 * (2 * (2 * p))) = omega arith in
    let f : 2 * (2 * (2 * (2 * polynomial_product n p q))) ≡ 16 * polynomial_product n p q = omega arith in
    ap (λ (i : ℕ). polynomial_product i (16 * p) q) k
    ∙ ap (λ u. polynomial_product (suc (suc (suc (suc n)))) u q) e
    ∙ product-doubled_left (suc (suc (suc n))) (2 * (2 * (2 * p))) q
    ∙ ap (λ u. 2 * u) (product-doubled_left (suc (suc n)) (2 * (2 * p)) q)
    ∙ ap (λ u. 2 * (2 * u)) (product-doubled_left (suc n) (2 * p) q)
    ∙ ap (λ u. 2 * (2 * (2 * u))) (product-doubled_left n p q)
    ∙ f

pub product-by_256_left : (n p q : ℕ) → polynomial_product (8 + n) (256 * p) q ≡ 256 * polynomial_product n p q
product-by_256_left n p q =
    let k : 8 + n ≡ 4 + (4 + n) = omega arith in
    let e : 256 * p ≡ 16 * (16 * p) = omega arith in
    let f : 16 * (16 * polynomial_product n p q) ≡ 256 * polynomial_product n p q = omega arith in
    ap (λ (i : ℕ). polynomial_product i (256 * p) q) k
    ∙ ap (λ u. polynomial_product (4 + (4 + n)) u q) e
    ∙ product-by_16_left (4 + n) (16 * p) q ∙ ap (λ u. 16 * u) (product-by_16_left n p q) ∙ f

bit_le : (c q : ℕ) → c < 2 → c * q ≤ q
bit_le zero q h = omega arith
bit_le (suc zero) q h = omega arith
bit_le (suc (suc c)) q h = absurd (omega arith)

grows : (m n : ℕ) → 2 ^ m ≤ 2 ^ (n + m)
grows m zero = let e : 0 + m ≡ m = omega arith in rw e (omega arith)
grows m (suc n) =
    let e : suc n + m ≡ suc (n + m) = omega arith in
    let d : 2 ^ suc (n + m) ≡ 2 ^ (n + m) * 2 = pow-suc 2 (n + m) in
    rw e (omega (arith, d, grows m n))

-- how long a product is
pub product-lt : (n m p q : ℕ) → q < 2 ^ m → polynomial_product n p q < 2 ^ (n + m)
unfolding polynomial_product
product-lt zero m p q h = pow_pos (0 + m)
product-lt (suc n) m p q h =
    let k : suc n + m ≡ suc (n + m) = omega arith in
    let d : 2 ^ suc (n + m) ≡ 2 ^ (n + m) * 2 = pow-suc 2 (n + m) in
    let r = product-lt n m (p / 2) q h in
    let s : 2 * polynomial_product n (p / 2) q < 2 ^ suc (n + m) = omega (arith, d, r) in
    let b : bit_at p 0 * q < 2 ^ suc (n + m) = omega (arith, d, bit_le (bit_at p 0) q (bit_at-lt p 0), grows m n, h) in
    rw k (xor_lt (suc (n + m)) (bit_at p 0 * q) (2 * polynomial_product n (p / 2) q) b s)
