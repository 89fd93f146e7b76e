-- Polynomials in halves of bytes. A polynomial is a number: bit i is the coefficient of x^i.
use Rattle.std.specs.Prelude.{◌≡◌, ◌<◌, ℕ, ◌+◌, ◌*◌, ◌^◌, List, [], ◌∷◌, length, bit_xor, slice_index}
use Rattle.ssh_aes.specs.Aes.{bytes_by}
use Rattle.ssh_aes.specs.Field.{polynomial_product, block_product}

-- the number of bytes, the lowest first
unfoldable pub number_of : List ℕ → ℕ
number_of [] = 0
number_of (x ∷ xs) = number_of xs * 256 + x

-- sixteen halves of bytes
pub record AreHalves (s : List ℕ) : Type 0 where
  pub sixteen : length s ≡ 16
  pub small : (i : ℕ) → slice_index s i < 16

-- the products of a half with all halves, a byte each
abbrev pub row_of : ℕ → List ℕ
row_of h = bytes_by 16 (λ j. polynomial_product 8 j h)

-- the rows of sixteen halves
pub record AreRows (halves rows : List ℕ) : Type 0 where
  pub fit : AreHalves halves
  pub entries : (i j : ℕ) → i < 16 → j < 16
      → slice_index rows (16 * i + j) ≡ polynomial_product 8 j (slice_index halves i)

-- a key in its low halves, its high halves, and their sum
pub record AreParts (key low high both : ℕ) : Type 0 where
  pub whole : bit_xor low (16 * high) ≡ key
  pub sum : both ≡ bit_xor low high
  pub low_short : low < 2 ^ 124
  pub high_short : high < 2 ^ 124

-- the product of a number low + x^4 high with another of that form, from the products of the low parts, of the high
-- parts, and of the sums of both (Karatsuba)
abbrev pub put_together : (low high both : ℕ) → ℕ
put_together low high both = bit_xor (bit_xor low (16 * bit_xor (bit_xor both low) high)) (256 * high)

-- two steps of the hash (SP 800-38D section 6.4), the first from the sum a
abbrev pub two_products : (h a b : ℕ) → ℕ
two_products h a b = block_product (bit_xor (block_product a h) b) h
