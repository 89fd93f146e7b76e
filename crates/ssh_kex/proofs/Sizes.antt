-- Three sizes at the front of bytes.
use Rattle.std.proofs.Common.{◌≡◌, ℕ, ◌+◌, ◌≤◌, ◌<◌, List, ◌++◌, length, take, drop, refl, ap, arith, Ok, Err}
use Rattle.std.proofs.lemmas.Bool.Decides.{nat_tests}
use Rattle.ssh_wire.specs.Fields.{u32_at, TakesForm}
use Rattle.ssh_wire.specs.Forms.{u32be}
use Rattle.ssh_wire.specs.declared.error.Error.{Error}
use Rattle.ssh_wire.specs.declared.error.EncodingFault.TheVariants.{Length}
use Rattle.std.specs.Int.{w32, from_be_bytes}
use Rattle.ssh_kex.specs.Fields.{sizes_front}

long_u32 : (bytes : List ℕ) → 4 ≤ length bytes → u32_at bytes ≡ Ok (from_be_bytes w32 (take 4 bytes), drop 4 bytes)
unfolding u32_at
long_u32 bytes h = grind (arith, nat_tests)

short_u32 : (bytes : List ℕ) → length bytes < 4 → u32_at bytes ≡ Err Length
unfolding u32_at
short_u32 bytes h = grind (arith, nat_tests)

-- four bytes that are there aren't refused
pub not_refused : (bytes new : List ℕ) (e : Error) → 4 ≤ length bytes → TakesForm {X = ℕ} (λ n. n) (u32_at bytes) bytes (Err e) new → ⊥
not_refused bytes new e h f = let g = long_u32 bytes h in cc

-- what is left behind four bytes
pub left_behind : (bytes new : List ℕ) (n : ℕ) → bytes ≡ u32be n ++ new → length new + 4 ≡ length bytes
left_behind bytes new n e = let f = ap length e in omega (arith, f)

pub sizes_read : (a b c d : List ℕ) (x y z : ℕ) → u32_at a ≡ Ok (x, b) → u32_at b ≡ Ok (y, c) → u32_at c ≡ Ok (z, d)
    → sizes_front a ≡ Ok (record { min_group_size = x; preferred_group_size = y; max_group_size = z }, d)
unfolding sizes_front
sizes_read a b c d x y z e f g = rw (e, f, g) refl

-- fewer than twelve bytes are cut short
pub sizes_short : (bytes : List ℕ) → length bytes < 12 → sizes_front bytes ≡ Err Length
unfolding sizes_front u32_at
sizes_short bytes h = grind (arith, nat_tests)
