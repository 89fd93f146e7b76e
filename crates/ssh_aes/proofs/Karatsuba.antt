-- The product by three products of halves (Karatsuba), each in its higher and its lower 128 coefficients.
use Rattle.std.proofs.Common.{◌≡◌, ℕ, ◌+◌, ◌*◌, ◌/◌, ◌%◌, ◌^◌, ◌<◌, sym, ◌∙◌, ap, arith}
use Rattle.std.specs.Prelude.{bit_xor}
use Rattle.std.specs.Int.Bits.{xor_self, xor_zero_l, xor_zero_r, xor_assoc}
use Rattle.std.proofs.lemmas.Nat.{xor_block, xor_comm, xor_lt}
use Rattle.ssh_aes.specs.Field.{polynomial_product}
use Rattle.ssh_aes.proofs.Polynomials.{product_sum, xor_across}
use Rattle.ssh_aes.specs.Halves.{put_together}
use Rattle.ssh_aes.proofs.Additive.{xor_parts, xor_shl}
use Rattle.ssh_aes.proofs.Products.{product_sum_left, product-short, product-by_16, product-by_16_left}

-- the product, for factors of degree below 128
abbrev times : ℕ → ℕ → ℕ
times p q = polynomial_product 128 p q

by_16_left : (u q : ℕ) → u < 2 ^ 124 → times (16 * u) q ≡ 16 * times u q
by_16_left u q h = product-by_16_left 124 u q ∙ ap (λ n. 16 * n) (sym (product-short 124 4 u q h))

-- 16 times a sum
sum_by_16 : (a b : ℕ) → 16 * bit_xor a b ≡ bit_xor (16 * a) (16 * b)
sum_by_16 a b =
    let e : 16 * bit_xor a b ≡ bit_xor a b * 2 ^ 4 = omega arith in
    let x : a * 2 ^ 4 ≡ 16 * a = omega arith in
    let y : b * 2 ^ 4 ≡ 16 * b = omega arith in
    e ∙ xor_shl 4 a b ∙ ap (λ u. bit_xor u (b * 2 ^ 4)) x ∙ ap (bit_xor (16 * a)) y

-- the sum of four products of parts
product_of_parts : (l u a b : ℕ) → u < 2 ^ 124 → times (bit_xor l (16 * u)) (bit_xor a (16 * b))
    ≡ bit_xor (bit_xor (times l a) (16 * bit_xor (times l b) (times u a))) (256 * times u b)
product_of_parts l u a b h =
    let f = 16 * b in
    let w : times (16 * u) f ≡ 256 * times u b = by_16_left u f h ∙ ap (λ n. 16 * n) (product-by_16 128 u b) ∙ omega arith in
    let v : times l f ≡ 16 * times l b = product-by_16 128 l b in
    let x : times (16 * u) a ≡ 16 * times u a = by_16_left u a h in
    product_sum_left 128 l (16 * u) (bit_xor a f)
    ∙ ap (λ n. bit_xor n (times (16 * u) (bit_xor a f))) (product_sum 128 l a f ∙ ap (bit_xor (times l a)) v)
    ∙ ap (bit_xor (bit_xor (times l a) (16 * times l b))) (product_sum 128 (16 * u) a f ∙ ap (λ n. bit_xor n (times (16 * u) f)) x ∙ ap (bit_xor (16 * times u a)) w)
    ∙ sym (xor_assoc (bit_xor (times l a) (16 * times l b)) (16 * times u a) (256 * times u b))
    ∙ ap (λ n. bit_xor n (256 * times u b)) (xor_assoc (times l a) (16 * times l b) (16 * times u a) ∙ ap (bit_xor (times l a)) (sym (sum_by_16 (times l b) (times u a))))

-- what is left of a sum when two of its terms are added again
without : (p q r s : ℕ) → bit_xor (bit_xor (bit_xor (bit_xor p q) (bit_xor r s)) p) s ≡ bit_xor q r
without p q r s =
    let y = bit_xor r s in
    let one : bit_xor (bit_xor (bit_xor p q) y) p ≡ bit_xor q y =
    xor_comm (bit_xor (bit_xor p q) y) p ∙ sym (xor_assoc p (bit_xor p q) y) ∙ ap (λ n. bit_xor n y) (sym (xor_assoc p p q) ∙ ap (λ n. bit_xor n q) (xor_self p) ∙ xor_zero_l q) in
    ap (λ n. bit_xor n s) one ∙ xor_assoc q y s ∙ ap (bit_xor q) (xor_assoc r s s ∙ ap (bit_xor r) (xor_self s) ∙ xor_zero_r r)

-- the product of both sums, less the outer products, is the inner ones
inner : (l u a b : ℕ) → bit_xor (bit_xor (times (bit_xor l u) (bit_xor a b)) (times l a)) (times u b) ≡ bit_xor (times l b) (times u a)
inner l u a b =
    let e : times (bit_xor l u) (bit_xor a b) ≡ bit_xor (bit_xor (times l a) (times l b)) (bit_xor (times u a) (times u b)) =
    product_sum_left 128 l u (bit_xor a b) ∙ ap (λ n. bit_xor n (times u (bit_xor a b))) (product_sum 128 l a b) ∙ ap (bit_xor (bit_xor (times l a) (times l b))) (product_sum 128 u a b) in
    ap (λ n. bit_xor (bit_xor n (times l a)) (times u b)) e ∙ without (times l a) (times l b) (times u a) (times u b)

-- ---- in two halves of 128 coefficients

abbrev wide : ℕ → ℕ → ℕ
wide h l = h * 2 ^ 128 + l

wide-sum : (a1 a0 b1 b0 : ℕ) → a0 < 2 ^ 128 → b0 < 2 ^ 128 → bit_xor (wide a1 a0) (wide b1 b0) ≡ wide (bit_xor a1 b1) (bit_xor a0 b0)
wide-sum a1 a0 b1 b0 h k = xor_block 128 a1 b1 a0 b0 h k

wide-by_16 : (h l : ℕ) → h < 2 ^ 124 → l < 2 ^ 128 → 16 * wide h l ≡ wide (bit_xor (h * 2 ^ 4 % 2 ^ 128) (l / 2 ^ 124)) (l * 2 ^ 4 % 2 ^ 128)
wide-by_16 h l a b =
    let e : h * 2 ^ 4 % 2 ^ 128 ≡ h * 2 ^ 4 = omega (arith, a) in
    let f : bit_xor (h * 2 ^ 4 % 2 ^ 128) (l / 2 ^ 124) ≡ h * 2 ^ 4 + l / 2 ^ 124 = ap (λ n. bit_xor n (l / 2 ^ 124)) e ∙ xor_parts 4 h (l / 2 ^ 124) (omega (arith, b)) in
    omega (arith, f, b)

wide-by_256 : (h l : ℕ) → h < 2 ^ 120 → l < 2 ^ 128 → 256 * wide h l ≡ wide (bit_xor (h * 2 ^ 8 % 2 ^ 128) (l / 2 ^ 120)) (l * 2 ^ 8 % 2 ^ 128)
wide-by_256 h l a b =
    let e : h * 2 ^ 8 % 2 ^ 128 ≡ h * 2 ^ 8 = omega (arith, a) in
    let f : bit_xor (h * 2 ^ 8 % 2 ^ 128) (l / 2 ^ 120) ≡ h * 2 ^ 8 + l / 2 ^ 120 = ap (λ n. bit_xor n (l / 2 ^ 120)) e ∙ xor_parts 8 h (l / 2 ^ 120) (omega (arith, b)) in
    omega (arith, f, b)

mod-lt : (n : ℕ) → n % 2 ^ 128 < 2 ^ 128
mod-lt n = omega arith

-- the three products put together
put : (l1 l0 m1 m0 h1 h0 : ℕ) → l0 < 2 ^ 128 → m0 < 2 ^ 128 → h0 < 2 ^ 128 → m1 < 2 ^ 124 → h1 < 2 ^ 120
    → wide (bit_xor (bit_xor (bit_xor (bit_xor l1 (m1 * 2 ^ 4 % 2 ^ 128)) (m0 / 2 ^ 124)) (h1 * 2 ^ 8 % 2 ^ 128)) (h0 / 2 ^ 120)) (bit_xor (bit_xor l0 (m0 * 2 ^ 4 % 2 ^ 128)) (h0 * 2 ^ 8 % 2 ^ 128))
    ≡ bit_xor (bit_xor (wide l1 l0) (16 * wide m1 m0)) (256 * wide h1 h0)
put l1 l0 m1 m0 h1 h0 bl bm bh tm th =
    let a = m1 * 2 ^ 4 % 2 ^ 128 in
    let b = m0 / 2 ^ 124 in
    let c = h1 * 2 ^ 8 % 2 ^ 128 in
    let d = h0 / 2 ^ 120 in
    let p = m0 * 2 ^ 4 % 2 ^ 128 in
    let q = h0 * 2 ^ 8 % 2 ^ 128 in
    let x = bit_xor (bit_xor l0 p) q in
    ap (λ n. wide n x) (xor_assoc (bit_xor (bit_xor l1 a) b) c d ∙ ap (λ n. bit_xor n (bit_xor c d)) (xor_assoc l1 a b))
    ∙ sym (ap (λ n. bit_xor (bit_xor (wide l1 l0) n) (256 * wide h1 h0)) (wide-by_16 m1 m0 tm bm)
    ∙ ap (bit_xor (bit_xor (wide l1 l0) (wide (bit_xor a b) p))) (wide-by_256 h1 h0 th bh)
    ∙ ap (λ n. bit_xor n (wide (bit_xor c d) q)) (wide-sum l1 l0 (bit_xor a b) p bl (mod-lt (m0 * 2 ^ 4)))
    ∙ wide-sum (bit_xor l1 (bit_xor a b)) (bit_xor l0 p) (bit_xor c d) q (xor_lt 128 l0 p bl (mod-lt (m0 * 2 ^ 4))) (mod-lt (h0 * 2 ^ 8)))

pub joined_value : (l1 l0 h1 h0 b1 b0 : ℕ) → l1 < 2 ^ 124 → h1 < 2 ^ 120 → b1 < 2 ^ 124 → l0 < 2 ^ 128 → h0 < 2 ^ 128 → b0 < 2 ^ 128
    → bit_xor (bit_xor (bit_xor (bit_xor l1 (bit_xor (bit_xor b1 l1) h1 * 2 ^ 4 % 2 ^ 128)) (bit_xor (bit_xor b0 l0) h0 / 2 ^ 124)) (h1 * 2 ^ 8 % 2 ^ 128)) (h0 / 2 ^ 120) * 2 ^ 128
    + bit_xor (bit_xor l0 (bit_xor (bit_xor b0 l0) h0 * 2 ^ 4 % 2 ^ 128)) (h0 * 2 ^ 8 % 2 ^ 128)
    ≡ put_together (l1 * 2 ^ 128 + l0) (h1 * 2 ^ 128 + h0) (b1 * 2 ^ 128 + b0)
joined_value l1 l0 h1 h0 b1 b0 kl kh kb tl th tb =
    let m1 = bit_xor (bit_xor b1 l1) h1 in
    let m0 = bit_xor (bit_xor b0 l0) h0 in
    let km : m1 < 2 ^ 124 = xor_lt 124 (bit_xor b1 l1) h1 (xor_lt 124 b1 l1 kb kl) (omega (arith, kh)) in
    let k0 : bit_xor b0 l0 < 2 ^ 128 = xor_lt 128 b0 l0 tb tl in
    put l1 l0 m1 m0 h1 h0 tl (xor_lt 128 (bit_xor b0 l0) h0 k0 th) th km kh
    ∙ ap (λ n. bit_xor (bit_xor (wide l1 l0) (16 * n)) (256 * wide h1 h0))
    (sym (ap (λ n. bit_xor n (wide h1 h0)) (wide-sum b1 b0 l1 l0 tb tl) ∙ wide-sum (bit_xor b1 l1) (bit_xor b0 l0) h1 h0 k0 th))

pub parts_value : (l u a b c : ℕ) → u < 2 ^ 124 → c ≡ bit_xor a b → put_together (polynomial_product 128 l a) (polynomial_product 128 u b) (polynomial_product 128 (bit_xor l u) c) ≡ polynomial_product 128 (bit_xor l (16 * u)) (bit_xor a (16 * b))
parts_value l u a b c su ec =
    ap (λ n. put_together (times l a) (times u b) (times (bit_xor l u) n)) ec
    ∙ ap (λ n. bit_xor (bit_xor (times l a) (16 * n)) (256 * times u b)) (inner l u a b)
    ∙ sym (product_of_parts l u a b su)

by_256 : (a b : ℕ) → 256 * bit_xor a b ≡ bit_xor (256 * a) (256 * b)
by_256 a b =
    let e : 256 * bit_xor a b ≡ bit_xor a b * 2 ^ 8 = omega arith in
    let x : a * 2 ^ 8 ≡ 256 * a = omega arith in
    let y : b * 2 ^ 8 ≡ 256 * b = omega arith in
    e ∙ xor_shl 8 a b ∙ ap (λ u. bit_xor u (b * 2 ^ 8)) x ∙ ap (bit_xor (256 * a)) y

pub put_together-sum : (l h b l2 h2 b2 : ℕ) → put_together (bit_xor l l2) (bit_xor h h2) (bit_xor b b2) ≡ bit_xor (put_together l h b) (put_together l2 h2 b2)
put_together-sum l h b l2 h2 b2 =
    let m = bit_xor (bit_xor b l) h in
    let n = bit_xor (bit_xor b2 l2) h2 in
    let e : bit_xor (bit_xor (bit_xor b b2) (bit_xor l l2)) (bit_xor h h2) ≡ bit_xor m n =
    ap (λ u. bit_xor u (bit_xor h h2)) (xor_across b b2 l l2) ∙ xor_across (bit_xor b l) (bit_xor b2 l2) h h2 in
    ap (λ u. bit_xor (bit_xor (bit_xor l l2) (16 * u)) (256 * bit_xor h h2)) e
    ∙ ap (λ u. bit_xor (bit_xor (bit_xor l l2) u) (256 * bit_xor h h2)) (sum_by_16 m n)
    ∙ ap (λ u. bit_xor (bit_xor (bit_xor l l2) (bit_xor (16 * m) (16 * n))) u) (by_256 h h2)
    ∙ ap (λ u. bit_xor u (bit_xor (256 * h) (256 * h2))) (xor_across l l2 (16 * m) (16 * n))
    ∙ xor_across (bit_xor l (16 * m)) (bit_xor l2 (16 * n)) (256 * h) (256 * h2)
