-- Products with a key in parts, and two steps of the hash at once.
use Rattle.std.proofs.Common.{◌∷◌, ◌++◌, ◌≡◌, ℕ, zero, suc, ◌+◌, ◌-◌, ◌*◌, ◌/◌, ◌^◌, ◌<◌, List, length, take, drop, refl, sym, subst, ◌∙◌, ap, arith}
use Rattle.std.specs.Prelude.{bit_xor}
use Rattle.std.specs.Int.{w128, to_le_bytes}
use Rattle.std.proofs.lemmas.Nat.{xor_lt}
use Rattle.std.proofs.lemmas.List.{drop-drop}
use Rattle.std.proofs.lemmas.List.Sums.{fold-append}
use lib.Lanes.{zip2}
use Rattle.ssh_aes.specs.Field.{polynomial_product, product_modulo, remainder, block_modulus, block_product}
use Rattle.ssh_aes.specs.Gcm.{element, hash_of_blocks, hash_step, blocks, padded_blocks}
use Rattle.ssh_aes.proofs.Polynomials.{remainder-sum}
use Rattle.ssh_aes.proofs.Sealing.{hash_of_blocks-more}
use Rattle.ssh_aes.specs.Halves.{AreHalves, AreParts, number_of, put_together, two_products}
use Rattle.ssh_aes.proofs.Products.{product-lt, product-short}
use Rattle.ssh_aes.proofs.Lanes.{AreHalves-sum, number_of-sum}
use Rattle.ssh_aes.proofs.Steps.{octets_from_halves}
use Rattle.ssh_aes.proofs.Parts.{low_of, high_of, low-halves, high-halves, parts-join, halves-short}
use Rattle.ssh_aes.proofs.Karatsuba.{parts_value, put_together-sum}
use Rattle.ssh_aes.proofs.Pairs.{sum-same}
use Rattle.ssh_aes.proofs.Associative.{two_steps}

-- a number split into the low and the high halves of its bytes
pub record IsSplit (a : ℕ) (s t : List ℕ) : Type 0 where
  pub low : AreHalves s
  pub high : AreHalves t
  pub both : AreHalves (zip2 bit_xor s t)
  pub whole : bit_xor (number_of s) (16 * number_of t) ≡ a
  pub sum : number_of (zip2 bit_xor s t) ≡ bit_xor (number_of s) (number_of t)

pub split-is : (a : ℕ) (s t : List ℕ) → a < 2 ^ 128 → s ≡ low_of (to_le_bytes w128 a) → t ≡ high_of (to_le_bytes w128 a) → IsSplit a s t
split-is a s t h e f =
    let l : AreHalves s = subst AreHalves (sym e) (low-halves a) in
    let u : AreHalves t = subst AreHalves (sym f) (high-halves a) in
    record {
      low = l;
      high = u;
      both = AreHalves-sum s t l u;
      whole = ap (λ x. bit_xor (number_of x) (16 * number_of t)) e ∙ ap (λ x. bit_xor (number_of (low_of (to_le_bytes w128 a))) (16 * number_of x)) f ∙ parts-join a h;
      sum = number_of-sum s t (l.sixteen ∙ sym u.sixteen) (octets_from_halves s l) (octets_from_halves t u);
    }

pub parts-of : (a : ℕ) (s t : List ℕ) (l h b : ℕ) → IsSplit a s t → l ≡ number_of s → h ≡ number_of t → b ≡ number_of (zip2 bit_xor s t) → AreParts a l h b
parts-of a s t l h b p e f g = record {
  whole = ap (λ u. bit_xor u (16 * h)) e ∙ ap (λ u. bit_xor (number_of s) (16 * u)) f ∙ p.whole;
  sum = g ∙ p.sum ∙ ap (λ u. bit_xor u (number_of t)) (sym e) ∙ ap (bit_xor l) (sym f);
  low_short = subst (λ n. n < 2 ^ 124) (sym e) (halves-short s p.low);
  high_short = subst (λ n. n < 2 ^ 124) (sym f) (halves-short t p.high);
}

pub parts-lt : (k l h b : ℕ) → AreParts k l h b → k < 2 ^ 128
parts-lt k l h b p =
    let x = p.low_short in
    let y = p.high_short in
    subst (λ n. n < 2 ^ 128) p.whole (xor_lt 128 l (16 * h) (omega (arith, x)) (omega (arith, y)))

-- the highest coefficients of products
pub product-top : (r0 r1 l a : ℕ) → a < 2 ^ 124 → r0 * 2 ^ 128 + r1 ≡ polynomial_product 128 l a → r0 < 2 ^ 124
product-top r0 r1 l a h e = let w = product-lt 128 124 l a h in omega (arith, e, w)

high-lt : (u b : ℕ) → u < 2 ^ 124 → b < 2 ^ 124 → polynomial_product 128 u b < 2 ^ 248
high-lt u b h l = subst (λ n. n < 2 ^ 248) (sym (product-short 124 4 u b h)) (product-lt 124 124 u b l)

pub product-top_high : (r0 r1 u b : ℕ) → u < 2 ^ 124 → b < 2 ^ 124 → r0 * 2 ^ 128 + r1 ≡ polynomial_product 128 u b → r0 < 2 ^ 120
product-top_high r0 r1 u b h l e = let w = high-lt u b h l in omega (arith, e, w)

pub sum-top : (r0 r1 p q a b : ℕ) → a < 2 ^ 124 → b < 2 ^ 124 → r0 * 2 ^ 128 + r1 ≡ bit_xor (polynomial_product 128 p a) (polynomial_product 128 q b) → r0 < 2 ^ 124
sum-top r0 r1 p q a b ha hb e =
    let w = xor_lt 252 _ _ (product-lt 128 124 p a ha) (product-lt 128 124 q b hb) in
    omega (arith, e, w)

pub sum-top_high : (r0 r1 p q a b : ℕ) → p < 2 ^ 124 → q < 2 ^ 124 → a < 2 ^ 124 → b < 2 ^ 124 → r0 * 2 ^ 128 + r1 ≡ bit_xor (polynomial_product 128 p a) (polynomial_product 128 q b) → r0 < 2 ^ 120
sum-top_high r0 r1 p q a b hp hq ha hb e =
    let w = xor_lt 248 _ _ (high-lt p a hp ha) (high-lt q b hq hb) in
    omega (arith, e, w)

pub both-short : (k l h b : ℕ) → AreParts k l h b → b < 2 ^ 124
both-short k l h b p = subst (λ n. n < 2 ^ 124) (sym p.sum) (xor_lt 124 l h p.low_short p.high_short)

-- the product from three products of halves
pub part_product : (a : ℕ) (s t : List ℕ) (k l h b : ℕ) → IsSplit a s t → AreParts k l h b
    → put_together (polynomial_product 128 (number_of s) l) (polynomial_product 128 (number_of t) h) (polynomial_product 128 (number_of (zip2 bit_xor s t)) b) ≡ polynomial_product 128 a k
part_product a s t k l h b p q =
    ap (λ u. put_together (polynomial_product 128 (number_of s) l) (polynomial_product 128 (number_of t) h) (polynomial_product 128 u b)) p.sum
    ∙ parts_value (number_of s) (number_of t) l h b (halves-short t p.high) q.sum
    ∙ ap (λ u. polynomial_product 128 u (bit_xor l (16 * h))) p.whole
    ∙ ap (polynomial_product 128 a) q.whole

pub put_together-same : (l h b l2 h2 b2 : ℕ) → l ≡ l2 → h ≡ h2 → b ≡ b2 → put_together l h b ≡ put_together l2 h2 b2
put_together-same l h b l2 h2 b2 e f g = ap (λ u. put_together u h b) e ∙ ap (λ u. put_together l2 u b) f ∙ ap (put_together l2 h2) g

-- the sum of two products, from the sums of their products of halves
pub sum-joined : (a b : ℕ) (s0 t0 s1 t1 : List ℕ) (w lw hw bw x lx hx bx : ℕ) → IsSplit a s0 t0 → IsSplit b s1 t1 → AreParts w lw hw bw → AreParts x lx hx bx
    → remainder 128 block_modulus 128 (put_together
    (bit_xor (polynomial_product 128 (number_of s0) lw) (polynomial_product 128 (number_of s1) lx))
    (bit_xor (polynomial_product 128 (number_of t0) hw) (polynomial_product 128 (number_of t1) hx))
    (bit_xor (polynomial_product 128 (number_of (zip2 bit_xor s0 t0)) bw) (polynomial_product 128 (number_of (zip2 bit_xor s1 t1)) bx)))
    ≡ bit_xor (block_product a w) (block_product b x)
unfolding product_modulo
sum-joined a b s0 t0 s1 t1 w lw hw bw x lx hx bx p0 p1 qw qx =
    ap (remainder 128 block_modulus 128) (put_together-sum (polynomial_product 128 (number_of s0) lw) (polynomial_product 128 (number_of t0) hw) (polynomial_product 128 (number_of (zip2 bit_xor s0 t0)) bw) (polynomial_product 128 (number_of s1) lx) (polynomial_product 128 (number_of t1) hx) (polynomial_product 128 (number_of (zip2 bit_xor s1 t1)) bx)
    ∙ sum-same _ _ _ _ (part_product a s0 t0 w lw hw bw p0 qw) (part_product b s1 t1 x lx hx bx p1 qx))
    ∙ remainder-sum 128 block_modulus 128 (polynomial_product 128 a w) (polynomial_product 128 b x)

-- two steps of the hash, from the square of the key
pub two-steps : (k k2 a b : ℕ) → k < 2 ^ 128 → k2 < 2 ^ 128 → a < 2 ^ 128 → k2 ≡ block_product k k → bit_xor (block_product a k2) (block_product b k) ≡ two_products k a b
two-steps k k2 a b hk hk2 ha e = sym (two_steps a b k k2 ha hk hk2 e)

-- ---- the blocks of a text in pairs

pub blocks-append : (m k : ℕ) (s : List ℕ) → blocks (m + k) s ≡ blocks m s ++ blocks k (drop (16 * m) s)
unfolding blocks
blocks-append zero k s = let e : 0 + k ≡ k = omega arith in ap (λ (n : ℕ). blocks n s) e
blocks-append (suc m) k s =
    let e : suc m + k ≡ suc (m + k) = omega arith in
    let f : 16 + 16 * m ≡ 16 * suc m = omega arith in
    ap (λ (n : ℕ). blocks n s) e
    ∙ ap (λ x. take 16 s ∷ x) (blocks-append m k (drop 16 s))
    ∙ ap (λ x. take 16 s ∷ (blocks m (drop 16 s) ++ blocks k x)) (drop-drop (16 * m) 16 s ∙ ap (λ (n : ℕ). drop n s) f)

-- the pairs, then the rest
pub hash_of_blocks-split : (h y : ℕ) (b : List ℕ) (n m : ℕ) → n ≡ length b / 32 → m ≡ (length b - n * 32 + 15) / 16
    → hash_of_blocks h (hash_of_blocks h y (blocks (2 * n) b)) (blocks m (drop (n * 32) b)) ≡ hash_of_blocks h y (padded_blocks b)
hash_of_blocks-split h y b n m e f =
    let g : n * 32 ≡ 16 * (2 * n) = omega arith in
    let t : 2 * n + m ≡ (length b + 15) / 16 = omega (arith, e, f) in
    ap (λ (i : ℕ). hash_of_blocks h (hash_of_blocks h y (blocks (2 * n) b)) (blocks m (drop i b))) g
    ∙ sym (fold-append (hash_step h) y (blocks (2 * n) b) (blocks m (drop (16 * (2 * n)) b)))
    ∙ ap (hash_of_blocks h y) (sym (blocks-append (2 * n) m b))
    ∙ ap (λ (i : ℕ). hash_of_blocks h y (blocks i b)) t

-- two blocks more
pub hash_of_blocks-two : (h y v total : ℕ) (b : List ℕ) (k n : ℕ) → k < n
    → v ≡ two_products h (bit_xor y (element (take 16 (drop (32 * k) b)))) (element (take 16 (drop (32 * k + 16) b)))
    → hash_of_blocks h y (blocks (2 * n - 2 * k) (drop (16 * (2 * k)) b)) ≡ total → hash_of_blocks h v (blocks (2 * n - 2 * (k + 1)) (drop (16 * (2 * (k + 1))) b)) ≡ total
hash_of_blocks-two h y v total b k n l e i =
    let j = 2 * k in
    let at = λ (i : ℕ). take 16 (drop i b) in
    let g0 : 32 * k ≡ 16 * j = omega arith in
    let g1 : 32 * k + 16 ≡ 16 * (j + 1) = omega arith in
    let g2 : j + 1 + 1 ≡ 2 * (k + 1) = omega arith in
    let v1 = hash_step h y (at (16 * j)) in
    let same : v ≡ hash_step h v1 (at (16 * (j + 1))) = e
    ∙ ap (λ (i : ℕ). two_products h (bit_xor y (element (at i))) (element (at (32 * k + 16)))) g0
    ∙ ap (λ (i : ℕ). two_products h (bit_xor y (element (at (16 * j)))) (element (at i))) g1 in
    let i1 = hash_of_blocks-more h y v1 total b j (2 * n) (omega arith) refl i in
    let i2 = hash_of_blocks-more h v1 v total b (j + 1) (2 * n) (omega arith) same i1 in
    ap (λ (m : ℕ). hash_of_blocks h v (blocks (2 * n - m) (drop (16 * m) b))) (sym g2) ∙ i2
