-- Polynomials over two elements, and the two fields that are made of them. A polynomial is a
-- number: bit i is the coefficient of x^i, and bit_xor is the sum.
use Rattle.std.specs.Prelude.{ℕ, zero, suc, ◌+◌, ◌*◌, ◌/◌, ◌^◌, bit_xor}
use Rattle.std.specs.Int.{bit_at}

-- p * q, for p of degree below n: the sum of x^i * q over the terms x^i of p
unfoldable pub polynomial_product : ℕ → ℕ → ℕ → ℕ
polynomial_product zero p q = 0
polynomial_product (suc n) p q = bit_xor (bit_at p 0 * q) (2 * polynomial_product n (p / 2) q)

-- the remainder of p by m, for m of degree n and p of degree below n + k: k steps of the long
-- division, each taking away the highest term
unfoldable pub remainder : ℕ → ℕ → ℕ → ℕ → ℕ
remainder n m zero p = p
remainder n m (suc k) p = remainder n m k (bit_xor p (bit_at p (n + k) * (m * 2 ^ k)))

-- the product modulo m, for m of degree n
unfoldable pub product_modulo : ℕ → ℕ → ℕ → ℕ → ℕ
product_modulo n m a b = remainder n m n (polynomial_product n a b)

-- x * z modulo m of degree n, for z of degree below n
abbrev pub times_x : ℕ → ℕ → ℕ → ℕ
times_x n m z = bit_xor (2 * z) (bit_at (2 * z) n * m)

-- the product of two bytes, modulo x^8 + x^4 + x^3 + x + 1 (FIPS 197 section 4.2)
abbrev pub byte_product : ℕ → ℕ → ℕ
byte_product a b = product_modulo 8 0x11b a b

-- x^128 + x^7 + x^2 + x + 1 (SP 800-38D section 6.3)
abbrev pub block_modulus : ℕ
block_modulus = 2 ^ 128 + 0x87

-- the product of two blocks (SP 800-38D section 6.3)
abbrev pub block_product : ℕ → ℕ → ℕ
block_product a b = product_modulo 128 block_modulus a b
