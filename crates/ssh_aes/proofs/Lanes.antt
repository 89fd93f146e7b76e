-- Lists of bytes as numbers, and what is done to each byte.
use Rattle.std.proofs.Common.{[], ◌∷◌, ◌≡◌, ℕ, zero, suc, ◌+◌, ◌*◌, ◌<◌, List, length, map, slice_index, refl, sym, ◌∙◌, ap, arith, lit<}
use Rattle.std.specs.Prelude.{bit_xor}
use Rattle.std.proofs.lemmas.Nat.{xor_block, xor_lt}
use lib.Lanes.{zip2}
use Rattle.ssh_aes.specs.Field.{polynomial_product}
use Rattle.ssh_aes.specs.Laws.{AreOctets}
use Rattle.std.proofs.lemmas.Simd.{length-zip2}
use Rattle.ssh_aes.proofs.Inverses.{AreOctets-cons}
use Rattle.ssh_aes.specs.Halves.{AreHalves, number_of}
use Rattle.ssh_aes.proofs.Additive.{xor_parts}
use Rattle.ssh_aes.proofs.Products.{product_sum_left, product-short, product-by_256_left, product-lt}

-- the sum of two vectors is that of their numbers
pub number_of-sum : (a b : List ℕ) → length a ≡ length b → AreOctets a → AreOctets b → number_of (zip2 bit_xor a b) ≡ bit_xor (number_of a) (number_of b)
unfolding number_of
number_of-sum [] [] e p q = refl
number_of-sum [] (y ∷ ys) e p q = absurd (omega arith)
number_of-sum (x ∷ xs) [] e p q = absurd (omega arith)
number_of-sum (x ∷ xs) (y ∷ ys) e p q =
    ap (λ n. n * 256 + bit_xor x y) (number_of-sum xs ys (omega arith) (λ i. p (suc i)) (λ i. q (suc i)))
    ∙ sym (xor_block 8 (number_of xs) (number_of ys) x y (p 0) (q 0))

byte_product-lt : (x a : ℕ) → a < 16 → x < 16 → polynomial_product 8 x a < 256
byte_product-lt x a h l =
    let e : polynomial_product 8 x a ≡ polynomial_product 4 x a = product-short 4 4 x a l in
    rw e (product-lt 4 4 x a h)

-- the product of halves with a half, half by half
pub number_of-product : (xs : List ℕ) (a : ℕ) → a < 16 → ((i : ℕ) → slice_index xs i < 16) → polynomial_product (8 * length xs) (number_of xs) a ≡ number_of (map (λ x. polynomial_product 8 x a) xs)
unfolding number_of polynomial_product
number_of-product [] a h b = refl
number_of-product (x ∷ xs) a h b =
    let k : 8 * suc (length xs) ≡ 8 + 8 * length xs = omega arith in
    let n = number_of xs in
    let m = 8 + 8 * length xs in
    let l : x < 16 = b 0 in
    let w : n * 256 ≡ 256 * n = omega arith in
    let t = polynomial_product 8 x a in
    let r = number_of (map (λ x. polynomial_product 8 x a) xs) in
    let v : 256 * r ≡ r * 256 = omega arith in
    ap (λ (i : ℕ). polynomial_product i (n * 256 + x) a) k
    ∙ ap (λ (u : ℕ). polynomial_product m u a) (sym (xor_parts 8 n x (omega arith)))
    ∙ product_sum_left m (n * 256) x a
    ∙ ap (λ u. bit_xor (polynomial_product m u a) (polynomial_product m x a)) w
    ∙ ap (λ u. bit_xor u (polynomial_product m x a)) (product-by_256_left (8 * length xs) n a)
    ∙ ap (bit_xor (256 * polynomial_product (8 * length xs) n a)) (product-short 8 (8 * length xs) x a (omega arith))
    ∙ ap (λ u. bit_xor (256 * u) t) (number_of-product xs a h (λ i. b (suc i)))
    ∙ ap (λ u. bit_xor u t) v
    ∙ xor_parts 8 r t (byte_product-lt x a h l)

pub AreOctets-products : (a : ℕ) (xs : List ℕ) → a < 16 → ((i : ℕ) → slice_index xs i < 16) → AreOctets (map (λ x. polynomial_product 8 x a) xs)
AreOctets-products a [] h b = λ i. lit< tt
AreOctets-products a (x ∷ xs) h b = AreOctets-cons (polynomial_product 8 x a) (map (λ x. polynomial_product 8 x a) xs) (byte_product-lt x a h (b 0)) (AreOctets-products a xs h (λ i. b (suc i)))

-- the sum of halves
halves-sum : (a b : List ℕ) → ((i : ℕ) → slice_index a i < 16) → ((i : ℕ) → slice_index b i < 16) → (i : ℕ) → slice_index (zip2 bit_xor a b) i < 16
halves-sum [] b p q i = lit< tt
halves-sum (x ∷ xs) [] p q i = lit< tt
halves-sum (x ∷ xs) (y ∷ ys) p q zero = xor_lt 4 x y (p 0) (q 0)
halves-sum (x ∷ xs) (y ∷ ys) p q (suc i) = halves-sum xs ys (λ i. p (suc i)) (λ i. q (suc i)) i

pub AreHalves-sum : (a b : List ℕ) → AreHalves a → AreHalves b → AreHalves (zip2 bit_xor a b)
AreHalves-sum a b s t = record { sixteen = length-zip2 bit_xor a b (s.sixteen ∙ sym t.sixteen) ∙ s.sixteen; small = halves-sum a b s.small t.small }

pub octets-sum : (a b : List ℕ) → AreOctets a → AreOctets b → AreOctets (zip2 bit_xor a b)
octets-sum [] b p q i = lit< tt
octets-sum (x ∷ xs) [] p q i = lit< tt
octets-sum (x ∷ xs) (y ∷ ys) p q zero = xor_lt 8 x y (p 0) (q 0)
octets-sum (x ∷ xs) (y ∷ ys) p q (suc i) = octets-sum xs ys (λ i. p (suc i)) (λ i. q (suc i)) i
