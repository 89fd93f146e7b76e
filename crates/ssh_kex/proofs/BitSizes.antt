-- How many binary digits a byte has.
use Rattle.std.proofs.Common.{◌≡◌, ℕ, List, [], ◌∷◌, length, zero, suc, ◌+◌, ◌*◌, ◌-◌, ◌^◌, ◌≤◌, ◌<◌, ap, ◌∙◌, arith}
use Rattle.std.specs.Prelude.{take, drop, get_or, min}
use Rattle.std.proofs.lemmas.List.{take_all}
use Rattle.ssh_wire.proofs.Lemmas.{magnitude_length}
use Rattle.std.proofs.lemmas.Bool.Decides.{nat_tests}
use Rattle.std.proofs.lemmas.Nat.{leading_top}
use Rattle.std.specs.Int.Count.{count_leading_zeros, leading_of_zero}
use Rattle.ssh_kex.specs.Messages.{bit_size, byte_digits, digits_from}
use Rattle.ssh_wire.specs.Forms.{magnitude}

by_top : (byte j : ℕ) → j < 8 → 2 ^ j ≤ byte → byte < 2 ^ suc j → byte_digits byte ≡ suc j
by_top byte zero h a b = grind (arith, nat_tests, a, b)
by_top byte (suc zero) h a b = grind (arith, nat_tests, a, b)
by_top byte (suc (suc zero)) h a b = grind (arith, nat_tests, a, b)
by_top byte (suc (suc (suc zero))) h a b = grind (arith, nat_tests, a, b)
by_top byte (suc (suc (suc (suc zero)))) h a b = grind (arith, nat_tests, a, b)
by_top byte (suc (suc (suc (suc (suc zero))))) h a b = grind (arith, nat_tests, a, b)
by_top byte (suc (suc (suc (suc (suc (suc zero)))))) h a b = grind (arith, nat_tests, a, b)
by_top byte (suc (suc (suc (suc (suc (suc (suc zero))))))) h a b = grind (arith, nat_tests, a, b)
by_top byte (suc (suc (suc (suc (suc (suc (suc (suc j)))))))) h a b = omega (arith, h)

pub digits_by_zeros : (byte : ℕ) → byte < 256 → 8 - count_leading_zeros 8 byte ≡ byte_digits byte
digits_by_zeros zero h = ap (λ n. 8 - n) (leading_of_zero 8)
digits_by_zeros (suc n) h =
    let top = leading_top 8 (suc n) (omega arith) h in
    let digits = by_top (suc n) top.0 (let e = top.1 in omega (arith, e)) top.2 top.3 in
    let e = top.1 in
    omega (arith, digits, e)

pub no_bits : (prime digits : List ℕ) → digits ≡ magnitude prime → length digits < 1 → 0 ≡ bit_size prime
unfolding bit_size
no_bits prime [] e h = ap digits_from e
no_bits prime (b ∷ digits) e h = omega (arith, h)

short_digits : (byte : ℕ) → byte_digits byte ≤ 8
short_digits byte = grind (arith, nat_tests)

-- eight digits a byte behind the first, as far as the type holds them
pub bits_of : (prime digits : List ℕ) (eights first sum : ℕ) → digits ≡ magnitude prime → 1 ≤ length digits
    → eights ≡ min (length (take (length digits - 1) (drop 1 digits)) * 8) (2 ^ 64 - 1) → first ≡ byte_digits (get_or digits 0 0) → sum ≡ min (eights + first) (2 ^ 64 - 1)
    → sum ≡ min (bit_size prime) (2 ^ 64 - 1)
unfolding bit_size
bits_of prime [] eights first sum e some f g h = absurd (omega (arith, some))
bits_of prime (b ∷ rest) eights first sum e some f g h =
    let whole : length (take (length (b ∷ rest) - 1) rest) ≡ length rest = ap length (take_all (length (b ∷ rest) - 1) rest (omega arith)) in
    let sum_is : sum ≡ min (byte_digits b + 8 * length rest) (2 ^ 64 - 1) = omega (arith, whole, f, g, h) in
    sum_is ∙ ap (λ n. min n (2 ^ 64 - 1)) (ap digits_from e)

few_digits : (digits : List ℕ) → digits_from digits ≤ 8 * length digits
few_digits [] = omega arith
few_digits (b ∷ rest) = let most = short_digits b in omega (arith, most)

-- the type holds the digits of a prime of under 2^61 bytes
pub bits_held : (prime : List ℕ) (n : ℕ) → n ≡ min (bit_size prime) (2 ^ 64 - 1) → length prime < 2 ^ 61 → n ≡ bit_size prime
unfolding bit_size
bits_held prime n e short =
    let few = few_digits (magnitude prime) in
    let within = magnitude_length prime in
    omega (arith, e, short, few, within)
