-- What the laws of a lookup ask of the 2048-bit group. Proofs alone: they stand here since an `impl` cites none of
-- `proofs/`.
use Rattle.std.specs.Prelude.{◌≡◌, ◌≤◌, length, refl}
use Rattle.std.proofs.Common.{arith, sym, subst}
use Rattle.ssh_kex.specs.Messages.{IsCanonical, bit_size}
use Rattle.ssh_kex.specs.declared.group.GexParams.{GexParams}
use Rattle.ssh_wire.specs.Forms.{magnitude}
use Rattle.uses.specs.OneGroup.{Admits, group_2048, prime_2048}

bits : bit_size prime_2048 ≡ 2048
unfolding bit_size prime_2048
bits = refl

bytes : length prime_2048 ≡ 256
unfolding prime_2048
bytes = refl

first : magnitude prime_2048 ≡ prime_2048
unfolding prime_2048
first = refl

pub without_zeros : IsCanonical group_2048
without_zeros = record { prime = first; generator = refl }

pub few_bytes : (length prime_2048 ≤ 65536) × (length group_2048.generator ≤ 65536)
few_bytes = (omega (arith, bytes), omega arith)

pub within : (sizes : GexParams) → Admits sizes → (sizes.min_group_size ≤ bit_size prime_2048)
    × (bit_size prime_2048 ≤ sizes.max_group_size)
within sizes a = (subst (λ n. sizes.min_group_size ≤ n) (sym bits) a.least, subst (λ n. n ≤ sizes.max_group_size) (sym bits) a.most)
