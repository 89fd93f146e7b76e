-- The public value that a power makes.
use Rattle.std.proofs.Common.{◌≡◌, ℕ, ◌<◌, ◌%◌, ◌^◌, ◌&&◌, nat_lt, Bool, true, false, None, List, refl, sym, ap, ◌∙◌, arith}
use Rattle.std.proofs.lemmas.Bool.Decides.{nat_tests}
use Rattle.std.proofs.lemmas.Nat.{mod_below}
use Rattle.rand_core.specs.Stream.{Stream, fill_bytes}
use Rattle.ssh_wire.specs.Fields.{is_shortest}
use Rattle.ssh_wire.specs.Forms.{magnitude, number, unsigned}
use Rattle.ssh_wire.proofs.Lemmas.{magnitude_front, mpint_number, unsigned_shortest}
use Rattle.ssh_power.specs.Moduli.{modulus_fault}
use Rattle.ssh_power.specs.Numbers.{power_modulo}
use Rattle.ssh_power.proofs.Lemmas.{fault_none, number_magnitude}
use Rattle.ssh_modp.specs.Fields.{DrawsZero, HasPublicValue}

-- all three tests hold
all_three : (a b c : Bool) → a ≡ true → b ≡ true → c ≡ true → (a && (b && c)) ≡ true
all_three a b c p q r = rw (p, q, r) refl

-- a power modulo a modulus is below it
below : (n p : ℕ) → modulus_fault p ≡ None → nat_lt (n % p) p ≡ true
below n p h =
    let one : nat_lt 1 p ≡ true = (fault_none p h).0 in
    let least : 1 < p = grind (arith, nat_tests) in
    let rest : n % p < p = mod_below n p (omega (arith, least)) in
    grind (arith, nat_tests)

-- the power that isn't 0, as the body of an mpint, is the exponent's public value
pub has_value : (p g x power public m : List ℕ) → m ≡ magnitude p → modulus_fault (number p) ≡ None
    → number power ≡ power_modulo (number g) (number x) (number m) → nat_lt 0 (number power) ≡ true
    → public ≡ unsigned (magnitude power) → HasPublicValue (record { prime = p; generator = g }) x public
has_value p g x power public m same none powered least body =
    let whole : number m ≡ number p = ap number same ∙ number_magnitude p in
    let spelled : number public ≡ number power = ap number body ∙ mpint_number power in
    let value : number public ≡ power_modulo (number g) (number x) (number p) =
    spelled ∙ (powered ∙ ap (λ (n : ℕ). power_modulo (number g) (number x) n) whole) in
    record {
      modulus = none;
      power = value;
      good = all_three _ _ _
          (ap is_shortest body ∙ unsigned_shortest (magnitude power) (magnitude_front power))
          (ap (λ (n : ℕ). nat_lt 0 n) spelled ∙ least)
          (ap (λ (n : ℕ). nat_lt n (number p)) value ∙ below (number g ^ number x) (number p) none);
    }

-- the power that is 0 is that of the next 64 bytes
pub zero_drawn : (p g x power m : List ℕ) (before behind : Stream) → m ≡ magnitude p
    → number power ≡ power_modulo (number g) (number x) (number m) → nat_lt 0 (number power) ≡ false
    → (x, behind) ≡ fill_bytes 64 before → DrawsZero (record { prime = p; generator = g }) before
zero_drawn p g x power m before behind same powered none drawn =
    let whole : number m ≡ number p = ap number same ∙ number_magnitude p in
    let zero : number power ≡ 0 = grind (arith, nat_tests) in
    ap (λ (y : List ℕ). power_modulo (number g) (number y) (number p)) (sym (ap (λ (q : List ℕ × Stream). q.0) drawn))
    ∙ (ap (λ (n : ℕ). power_modulo (number g) (number x) n) (sym whole) ∙ (sym powered ∙ zero))
