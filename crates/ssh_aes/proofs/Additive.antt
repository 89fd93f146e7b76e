-- Functions of polynomials that keep sums: two that agree on the powers of x agree everywhere.
use Rattle.std.proofs.Common.{◌≡◌, ℕ, zero, suc, ◌+◌, ◌-◌, ◌*◌, ◌/◌, ◌%◌, ◌^◌, ◌<◌, inl, inr, refl, sym, ◌∙◌, ap, arith}
use Rattle.std.specs.Prelude.{bit_xor}
use Rattle.std.specs.Int.Bits.{xor_self, xor_zero_l, xor_zero_r}
use Rattle.std.proofs.lemmas.Nat.{xor_block, xor_shr, xor_mod, pow_pos}
use Rattle.std.proofs.lemmas.Bool.{cases_lt}
use Rattle.std.proofs.Math.Nat.{pow-suc}
use Rattle.ssh_aes.proofs.Polynomials.{xor_across}

pub record IsAdditive (f : ℕ → ℕ) : Type 0 where
  pub sums : (a b : ℕ) → f (bit_xor a b) ≡ bit_xor (f a) (f b)

pub additive-same : IsAdditive (λ a. a)
additive-same = record { sums = λ a b. refl }

pub additive-sum : (f g : ℕ → ℕ) → IsAdditive f → IsAdditive g → IsAdditive (λ a. bit_xor (f a) (g a))
additive-sum f g s t = record {
  sums = λ a b. ap (λ x. bit_xor x (g (bit_xor a b))) (s.sums a b) ∙ ap (bit_xor (bit_xor (f a) (f b))) (t.sums a b) ∙ xor_across (f a) (f b) (g a) (g b);
}

pub additive-after : (f g : ℕ → ℕ) → IsAdditive f → IsAdditive g → IsAdditive (λ a. f (g a))
additive-after f g s t = record { sums = λ a b. ap f (t.sums a b) ∙ s.sums (g a) (g b) }

pub additive-shr : (k : ℕ) → IsAdditive (λ a. a / 2 ^ k)
additive-shr k = record { sums = λ a b. xor_shr a b k }

pub additive-mod : (k : ℕ) → IsAdditive (λ a. a % 2 ^ k)
additive-mod k = record { sums = λ a b. xor_mod a b k }

-- a sum shifted to the left
pub xor_shl : (k a b : ℕ) → bit_xor a b * 2 ^ k ≡ bit_xor (a * 2 ^ k) (b * 2 ^ k)
xor_shl k a b =
    let e = xor_block k a b 0 0 (pow_pos k) (pow_pos k) in
    let x : a * 2 ^ k + 0 ≡ a * 2 ^ k = omega arith in
    let y : b * 2 ^ k + 0 ≡ b * 2 ^ k = omega arith in
    let z : bit_xor a b * 2 ^ k + 0 ≡ bit_xor a b * 2 ^ k = omega arith in
    sym z ∙ ap (λ u. bit_xor a b * 2 ^ k + u) (sym (xor_self 0)) ∙ sym e ∙ ap (λ u. bit_xor u (b * 2 ^ k + 0)) x ∙ ap (bit_xor (a * 2 ^ k)) y

pub additive-shl : (k : ℕ) → IsAdditive (λ a. a * 2 ^ k)
additive-shl k = record { sums = λ a b. xor_shl k a b }

pub additive-none : (f : ℕ → ℕ) → IsAdditive f → f 0 ≡ 0
additive-none f s = ap f (sym (xor_self 0)) ∙ s.sums 0 0 ∙ xor_self (f 0)

-- a number in two parts that don't overlap is their sum
pub xor_parts : (k a r : ℕ) → r < 2 ^ k → bit_xor (a * 2 ^ k) r ≡ a * 2 ^ k + r
xor_parts k a r h =
    let e = xor_block k a 0 0 r (pow_pos k) h in
    let x : a * 2 ^ k + 0 ≡ a * 2 ^ k = omega arith in
    let y : 0 * 2 ^ k + r ≡ r = omega arith in
    ap (λ u. bit_xor u r) (sym x) ∙ ap (bit_xor (a * 2 ^ k + 0)) (sym y) ∙ e ∙ ap (λ u. u * 2 ^ k + bit_xor 0 r) (xor_zero_r a) ∙ ap (λ u. a * 2 ^ k + u) (xor_zero_l r)

pub agree : (n : ℕ) (f g : ℕ → ℕ) → IsAdditive f → IsAdditive g → ((i : ℕ) → i < n → f (2 ^ i) ≡ g (2 ^ i)) → (p : ℕ) → p < 2 ^ n → f p ≡ g p
agree zero f g s t h p l =
    let e : p ≡ 0 = omega arith in
    ap f e ∙ additive-none f s ∙ sym (ap g e ∙ additive-none g t)
agree (suc n) f g s t h p l = elim (cases_lt p (2 ^ n)) [
  | inl k ↦ agree n f g s t (λ i m. h i (omega arith)) p k
  | inr k ↦
      let r = p - 2 ^ n in
      let d : 2 ^ suc n ≡ 2 ^ n * 2 = pow-suc 2 n in
      let m : r < 2 ^ n = omega (arith, d) in
      let o : 1 * 2 ^ n ≡ 2 ^ n = omega arith in
      let e : bit_xor (2 ^ n) r ≡ p = ap (λ u. bit_xor u r) (sym o) ∙ xor_parts n 1 r m ∙ omega arith in
      ap f (sym e) ∙ s.sums (2 ^ n) r ∙ ap (λ u. bit_xor u (f r)) (h n (omega arith)) ∙ ap (bit_xor (g (2 ^ n))) (agree n f g s t (λ i m. h i (omega arith)) r m)
      ∙ sym (ap g (sym e) ∙ t.sums (2 ^ n) r)
]
