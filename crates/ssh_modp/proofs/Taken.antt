-- The groups of RFC 3526 are taken, and nothing is refused in a group that is taken.
use Rattle.std.proofs.Common.{◌≡◌, ℕ, ◌%◌, Bool, true, false, nat_le, nat_lt, ◌||◌, if◌then◌else◌, List, [], ◌∷◌, Option, Some, None, refl, sym, ◌∙◌, subst, arith}
use Rattle.std.proofs.lemmas.Bool.Decides.{nat_tests}
use Rattle.rand_core.specs.Stream.{Stream}
use Rattle.ssh_wire.specs.Forms.{number}
use Rattle.ssh_negotiate.specs.declared.kex.Name.{Name}
use Rattle.ssh_negotiate.specs.declared.kex.Name.TheVariants.{DhG14Sha1, DhG14Sha256, DhG15Sha512, DhG16Sha512}
use Rattle.ssh_kex.specs.Parts.{HasItsGroup}
use Rattle.ssh_kex.specs.declared.group.DhGroup.{DhGroup}
use Rattle.ssh_kex.specs.declared.group.GexParams.{GexParams}
use Rattle.ssh_power.specs.Moduli.{modulus_fault}
use Rattle.ssh_power.proofs.Lemmas.{fault_none}
use Rattle.ssh_modp.specs.Fields.{IsTaken, LacksAgreed, LacksPublic, MakesPublic, TakesGroup, field_group, has_group, is_field_name, with_two}
use Rattle.ssh_modp.specs.Groups.{modp_group, prime_for}
use Rattle.ssh_modp.specs.Primes.{fixed_prime, prime_14, prime_15, prime_16}
use Rattle.ssh_modp.proofs.Powers.{no_zero_power}

fault_14 : modulus_fault (number prime_14) ≡ None
unfolding prime_14
fault_14 = refl

fault_15 : modulus_fault (number prime_15) ≡ None
unfolding prime_15
fault_15 = refl

fault_16 : modulus_fault (number prime_16) ≡ None
unfolding prime_16
fault_16 = refl

-- a modulus is taken, with 2 as its generator
with_two_taken : (prime : List ℕ) → modulus_fault (number prime) ≡ None
    → IsTaken (record { prime = prime; generator = 2 ∷ [] })
with_two_taken prime h =
    let f : (nat_lt 1 (number prime) ≡ true) × (number prime % 2 ≡ 1) = fault_none (number prime) h in
    let g : nat_lt 1 (number prime) ≡ true = f.0 in
    record { modulus = h; powers = λ k. no_zero_power k (number prime) f.1 (grind (arith, nat_tests)) }

-- the prime that is chosen is a modulus
fault_for : (sizes : GexParams) → modulus_fault (number (prime_for sizes)) ≡ None
fault_for sizes =
    by (nat_le sizes.preferred_group_size 2048 || nat_lt sizes.max_group_size 3072)
    (nat_le sizes.preferred_group_size 3072 || nat_lt sizes.max_group_size 4096) where
      by : (s t : Bool) → modulus_fault (number (if s then prime_14 else if t then prime_15 else prime_16)) ≡ None
      by true t = fault_14
      by false true = fault_15
      by false false = fault_16

pub modp_taken : (sizes : GexParams) → IsTaken (modp_group sizes)
modp_taken sizes = with_two_taken (prime_for sizes) (fault_for sizes)

-- a name whose prime is fixed has a group that is taken
fixed_taken : (name : Name) → has_group (fixed_prime name) ≡ true
    → (at : DhGroup) × (with_two (fixed_prime name) ≡ Some at) × IsTaken at
fixed_taken DhG14Sha1 h = (record { prime = prime_14; generator = 2 ∷ [] }, refl, with_two_taken prime_14 fault_14)
fixed_taken DhG14Sha256 h = (record { prime = prime_14; generator = 2 ∷ [] }, refl, with_two_taken prime_14 fault_14)
fixed_taken DhG15Sha512 h = (record { prime = prime_15; generator = 2 ∷ [] }, refl, with_two_taken prime_15 fault_15)
fixed_taken DhG16Sha512 h = (record { prime = prime_16; generator = 2 ∷ [] }, refl, with_two_taken prime_16 fault_16)
fixed_taken name h = absurd (grind arith)

-- the group in which a name that is offered agrees is taken
taken_in : (name : Name) (group : Option DhGroup) → TakesGroup group → HasItsGroup name group
    → is_field_name name ≡ true → (at : DhGroup) × (field_group name group ≡ Some at) × IsTaken at
taken_in name (Some g) t i o = (g, refl, t)
taken_in name None t i o =
    fixed_taken name (subst (λ (b : Bool). (b || has_group (fixed_prime name)) ≡ true) i o)

-- so a client has a public value
pub public_never : (name : Name) (group : Option DhGroup) (before : Stream) → LacksPublic name group before
    → TakesGroup group → HasItsGroup name group → is_field_name name ≡ true → ⊥
public_never name group before l t i o =
    let h : (at : DhGroup) × (field_group name group ≡ Some at) × IsTaken at = taken_in name group t i o in
    (h.2).powers _ (l h.0 h.1 (h.2).modulus)

-- and a server agrees
pub agreed_never : (name : Name) (group : Option DhGroup) (client : List ℕ) (before : Stream)
    → LacksAgreed name group client before → TakesGroup group → HasItsGroup name group → is_field_name name ≡ true
    → (local : List ℕ) → MakesPublic name group local client → ⊥
agreed_never name group client before l t i o local m =
    let h : (at : DhGroup) × (field_group name group ≡ Some at) × IsTaken at = taken_in name group t i o in
    let e : h.0 ≡ m.at = let z : Some h.0 ≡ Some m.at = sym h.1 ∙ m.found in cc in
    let k : IsTaken m.at = subst IsTaken e h.2 in
    k.powers _ (l m.at m.found m.value.modulus m.value.good)
