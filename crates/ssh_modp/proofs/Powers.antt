-- No power of 2 is 0 modulo an odd number over 1.
use Rattle.std.proofs.Common.{◌≡◌, ℕ, zero, suc, ◌+◌, ◌*◌, ◌^◌, ◌%◌, ◌/◌, ◌<◌, ◌∙◌, sym, refl, arith}
use native.Mathlib.Numerals.{unary_clauses}
use Rattle.std.proofs.lemmas.Nat.{div-add-mod', mod_below}
use Rattle.std.proofs.Math.Nat.{pow-suc}

-- 1 is no multiple of a number over 1
one_not : (q p : ℕ) → 1 < p → 1 ≡ q * p → ⊥
one_not zero p h e = omega arith
one_not (suc q) p h e = omega arith

-- half of an even multiple of an odd number is a multiple of it
half : (n r b p : ℕ) → p % 2 ≡ 1 → b < 2 → n * 2 ≡ (r * 2 + b) * p → n ≡ r * p
half n r zero p h l e = omega arith
half n r (suc zero) p h l e = omega arith
half n r (suc (suc b)) p h l e = omega arith

no_multiple : (k q p : ℕ) → p % 2 ≡ 1 → 1 < p → 2 ^ k ≡ q * p → ⊥
no_multiple zero q p h l e = one_not q p l (sym (simp unary_clauses refl) ∙ e)
no_multiple (suc k) q p h l e =
    let s : q / 2 * 2 + q % 2 ≡ q = div-add-mod' q 2 in
    let f : 2 ^ k * 2 ≡ (q / 2 * 2 + q % 2) * p = rw s (sym (pow-suc 2 k) ∙ e) in
    no_multiple k (q / 2) p h l (half (2 ^ k) (q / 2) (q % 2) p h (mod_below q 2 (omega arith)) f)

pub no_zero_power : (k p : ℕ) → p % 2 ≡ 1 → 1 < p → 2 ^ k % p ≡ 0 → ⊥
no_zero_power k p h l e =
    let s : 2 ^ k / p * p + 2 ^ k % p ≡ 2 ^ k = div-add-mod' (2 ^ k) p in
    no_multiple k (2 ^ k / p) p h l (omega (arith, s, e))
