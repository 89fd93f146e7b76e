-- How many bits and bytes the primes of the test groups have. Proofs alone: they stand here since an `impl` cites none
-- of `proofs/`.
use Rattle.std.proofs.Common.{◌≡◌, ℕ, zero, suc, ◌+◌, ◌-◌, ◌*◌, ◌^◌, ◌%◌, ◌/◌, ◌<◌, ◌≤◌, ◌==◌, nat_le, if◌then◌else◌, Bool, true, false, List, [], ◌∷◌, ◌++◌, length, refl, sym, ◌∙◌, ap, subst, arith, length-append, ◌⊎◌, inl, inr}
use Rattle.std.proofs.lemmas.Bool.Decides.{nat_tests}
use Rattle.ssh_wire.specs.Forms.{magnitude}
use Rattle.ssh_kex.specs.Messages.{bit_size, byte_digits, digits_from}
use Rattle.ssh_kex.specs.declared.group.GexParams.{GexParams}
use Rattle.ssh_vectors.specs.Primes.{IsLawful, IsObliging, bits_for, first_byte, group_for, one_byte, prime_of, zeros}

-- ---- the number of bits

power_digits : (r : ℕ) → r < 8 → byte_digits (2 ^ r) ≡ r + 1
power_digits zero h = refl
power_digits (suc zero) h = refl
power_digits (suc (suc zero)) h = refl
power_digits (suc (suc (suc zero))) h = refl
power_digits (suc (suc (suc (suc zero)))) h = refl
power_digits (suc (suc (suc (suc (suc zero))))) h = refl
power_digits (suc (suc (suc (suc (suc (suc zero)))))) h = refl
power_digits (suc (suc (suc (suc (suc (suc (suc zero))))))) h = refl
power_digits (suc (suc (suc (suc (suc (suc (suc (suc r)))))))) h = absurd (omega arith)

power_some : (r : ℕ) → r < 8 → (2 ^ r == 0) ≡ false
power_some zero h = refl
power_some (suc zero) h = refl
power_some (suc (suc zero)) h = refl
power_some (suc (suc (suc zero))) h = refl
power_some (suc (suc (suc (suc zero)))) h = refl
power_some (suc (suc (suc (suc (suc zero))))) h = refl
power_some (suc (suc (suc (suc (suc (suc zero)))))) h = refl
power_some (suc (suc (suc (suc (suc (suc (suc zero))))))) h = refl
power_some (suc (suc (suc (suc (suc (suc (suc (suc r)))))))) h = absurd (omega arith)

pub small_bits : (n : ℕ) → n ≤ 8 → (magnitude (prime_of n) ≡ prime_of n) × (bit_size (prime_of n) ≡ n)
    × (length (prime_of n) ≤ (n - 1) / 8 + 1)
unfolding prime_of bit_size
small_bits zero h = (refl, refl, omega arith)
small_bits (suc zero) h = (refl, refl, omega arith)
small_bits (suc (suc zero)) h = (refl, refl, omega arith)
small_bits (suc (suc (suc zero))) h = (refl, refl, omega arith)
small_bits (suc (suc (suc (suc zero)))) h = (refl, refl, omega arith)
small_bits (suc (suc (suc (suc (suc zero))))) h = (refl, refl, omega arith)
small_bits (suc (suc (suc (suc (suc (suc zero)))))) h = (refl, refl, omega arith)
small_bits (suc (suc (suc (suc (suc (suc (suc zero))))))) h = (refl, refl, omega arith)
small_bits (suc (suc (suc (suc (suc (suc (suc (suc zero)))))))) h = (refl, refl, omega arith)
small_bits (suc (suc (suc (suc (suc (suc (suc (suc (suc n))))))))) h = absurd (omega arith)

length_zeros : (n : ℕ) → length (zeros n) ≡ n
length_zeros zero = refl
length_zeros (suc n) = ap suc (length_zeros n)

long_is : (n : ℕ) → 8 < n → prime_of n ≡ first_byte n ∷ (zeros ((n - 1) / 8 - 1) ++ 1 ∷ [])
unfolding prime_of
long_is n h =
    let some : (n == 0) ≡ false = grind (arith, nat_tests) in
    let more : nat_le n 8 ≡ false = grind (arith, nat_tests) in
    ap (λ b. if b then [] else if nat_le n 8 then one_byte n ∷ []
    else first_byte n ∷ (zeros ((n - 1) / 8 - 1) ++ 1 ∷ [])) some
    ∙ ap (λ b. if b then one_byte n ∷ [] else first_byte n ∷ (zeros ((n - 1) / 8 - 1) ++ 1 ∷ [])) more

magnitude_front : (b : ℕ) (rest : List ℕ) → (b == 0) ≡ false → magnitude (b ∷ rest) ≡ b ∷ rest
magnitude_front b rest h = ap (λ t. if t then magnitude rest else b ∷ rest) h

first_place : (n : ℕ) → (n - 1) % 8 < 8
first_place n = omega arith

long_length : (n : ℕ) → 8 < n → length (zeros ((n - 1) / 8 - 1) ++ 1 ∷ []) ≡ (n - 1) / 8
long_length n h = let some : 0 < (n - 1) / 8 = omega arith in length-append (zeros ((n - 1) / 8 - 1)) (1 ∷ [])
    ∙ (ap (λ k. k + 1) (length_zeros ((n - 1) / 8 - 1)) ∙ omega arith)

large_bits : (n : ℕ) → 8 < n → (magnitude (prime_of n) ≡ prime_of n) × (bit_size (prime_of n) ≡ n)
    × (length (prime_of n) ≤ (n - 1) / 8 + 1)
unfolding bit_size
large_bits n h =
    let rest = zeros ((n - 1) / 8 - 1) ++ 1 ∷ [] in
    let whole = magnitude_front (first_byte n) rest (power_some ((n - 1) % 8) (first_place n)) in
    let is = long_is n h in
    let size = long_length n h in
    let sum : byte_digits (first_byte n) + 8 * length rest ≡ n =
    ap (λ k. k + 8 * length rest) (power_digits ((n - 1) % 8) (first_place n)) ∙ (ap (λ k. (n - 1) % 8 + 1 + 8 * k) size ∙ omega arith) in (
      ap magnitude is ∙ (whole ∙ sym is),
      ap (λ l. digits_from (magnitude l)) is ∙ (ap digits_from whole ∙ sum),
      subst (λ l. length l ≤ (n - 1) / 8 + 1) (sym is) (omega (arith, size)),
    )

either : (n : ℕ) → (n ≤ 8) ⊎ (8 < n)
either n = by (nat_le n 8) refl where
  by : (b : Bool) → nat_le n 8 ≡ b → (n ≤ 8) ⊎ (8 < n)
  by true e = inl (grind (arith, nat_tests))
  by false e = inr (grind (arith, nat_tests))

pub prime_canonical : (n : ℕ) → magnitude (prime_of n) ≡ prime_of n
prime_canonical n = elim (either n) [
  | inl h ↦ (small_bits n h).0
  | inr h ↦ (large_bits n h).0
]

pub prime_bits : (n : ℕ) → bit_size (prime_of n) ≡ n
prime_bits n = elim (either n) [
  | inl h ↦ (small_bits n h).1
  | inr h ↦ (large_bits n h).1
]

pub prime_length : (n : ℕ) → length (prime_of n) ≤ (n - 1) / 8 + 1
prime_length n = elim (either n) [
  | inl h ↦ (small_bits n h).2
  | inr h ↦ (large_bits n h).2
]

pub lawful_small : (bits : ℕ) (sizes : GexParams) → IsLawful bits sizes
    → (length (group_for bits sizes).prime ≤ 65536) × (length (group_for bits sizes).generator ≤ 65536)
lawful_small bits sizes l = (small (bits_for bits sizes) l.most, omega arith) where
  small : (n : ℕ) → n ≤ 524288 → length (prime_of n) ≤ 65536
  small n h = omega (arith, prime_length n)

pub obliging_fits : (bits : ℕ) (sizes : GexParams) → IsObliging bits sizes
    → (sizes.min_group_size ≤ bit_size (group_for bits sizes).prime)
    × (bit_size (group_for bits sizes).prime ≤ sizes.max_group_size)
obliging_fits bits sizes o = (
  subst (λ n. sizes.min_group_size ≤ n) (sym (prime_bits (bits_for bits sizes))) o.least,
  subst (λ n. n ≤ sizes.max_group_size) (sym (prime_bits (bits_for bits sizes))) o.within,
)
