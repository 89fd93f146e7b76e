-- The primes of RFC 3526 have no zeros at their front, and so many bits.
use Rattle.std.proofs.Common.{◌≡◌, ℕ, ◌≤◌, Bool, true, false, nat_le, nat_lt, ◌||◌, if◌then◌else◌, List, refl, sym, subst, arith}
use Rattle.ssh_wire.specs.Forms.{magnitude}
use Rattle.ssh_kex.specs.Messages.{IsCanonical, bit_size}
use Rattle.ssh_kex.specs.Parts.{IsSmall}
use Rattle.ssh_kex.specs.declared.group.GexParams.{GexParams}
use Rattle.ssh_modp.specs.Primes.{prime_14, prime_15, prime_16}
use Rattle.ssh_modp.specs.Groups.{AllowsGroup, modp_group, prime_bits, prime_for}

-- what holds of each of the three holds of the one that is chosen, with its bits
chosen : (P : List ℕ → ℕ → Type 0) → P prime_14 2048 → P prime_15 3072 → P prime_16 4096 → (sizes : GexParams)
    → P (prime_for sizes) (prime_bits sizes)
chosen P a b c sizes =
    by (nat_le sizes.preferred_group_size 2048 || nat_lt sizes.max_group_size 3072)
    (nat_le sizes.preferred_group_size 3072 || nat_lt sizes.max_group_size 4096) where
      by : (s t : Bool) → P (if s then prime_14 else if t then prime_15 else prime_16) (if s then 2048 else if t then 3072 else 4096)
      by true t = a
      by false true = b
      by false false = c

-- no zeros at the front, few bytes, and the bits
record IsPrimeOf (prime : List ℕ) (bits : ℕ) : Type 0 where
  front : magnitude prime ≡ prime
  small : IsSmall prime
  size : bit_size prime ≡ bits

first : IsPrimeOf prime_14 2048
unfolding prime_14 bit_size
first = record { front = refl; small = omega arith; size = refl }

second : IsPrimeOf prime_15 3072
unfolding prime_15 bit_size
second = record { front = refl; small = omega arith; size = refl }

third : IsPrimeOf prime_16 4096
unfolding prime_16 bit_size
third = record { front = refl; small = omega arith; size = refl }

pub modp_canonical : (sizes : GexParams) → IsCanonical (modp_group sizes)
modp_canonical sizes = record { prime = (chosen IsPrimeOf first second third sizes).front; generator = refl }

pub modp_small : (sizes : GexParams) → IsSmall (modp_group sizes).prime × IsSmall (modp_group sizes).generator
modp_small sizes = ((chosen IsPrimeOf first second third sizes).small, omega arith)

pub modp_fits : (sizes : GexParams) → AllowsGroup sizes
    → (sizes.min_group_size ≤ bit_size (modp_group sizes).prime) × (bit_size (modp_group sizes).prime ≤ sizes.max_group_size)
modp_fits sizes h =
    let e : bit_size (prime_for sizes) ≡ prime_bits sizes = (chosen IsPrimeOf first second third sizes).size in
    (subst (λ (n : ℕ). sizes.min_group_size ≤ n) (sym e) h.least, subst (λ (n : ℕ). n ≤ sizes.max_group_size) (sym e) h.most)
