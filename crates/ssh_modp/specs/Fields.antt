-- Key agreement in a finite field (RFC 4253 section 8, RFC 4419 section 3).
use Rattle.std.specs.Prelude.{◌≡◌, ◌⊎◌, ℕ, nat_lt, Bool, true, false, ◌||◌, ◌&&◌, List, [], ◌∷◌, length, Option, Some, None}
use denote.Ref.{Bor}
use Rattle.rand_core.specs.Stream.{Stream, fill_bytes}
use Rattle.ssh_negotiate.specs.declared.kex.Name.{Name}
use Rattle.ssh_wire.specs.Fields.{is_shortest}
use Rattle.ssh_wire.specs.Forms.{AreBytes, number, magnitude}
use Rattle.ssh_kex.specs.Messages.{is_gex}
use Rattle.ssh_kex.specs.declared.group.DhGroup.{DhGroup}
use Rattle.ssh_power.specs.Moduli.{modulus_fault}
use Rattle.ssh_power.specs.Numbers.{power_modulo}
use Rattle.ssh_modp.specs.Primes.{fixed_prime}

-- a prime with 2 as its generator
abbrev pub with_two : Option (List ℕ) → Option DhGroup
with_two None = None
with_two (Some prime) = Some (record { prime = prime; generator = 2 ∷ [] })

-- the group in which a name agrees: the one that is handed over, or that of the name
abbrev pub field_group : Name → Option DhGroup → Option DhGroup
field_group name None = with_two (fixed_prime name)
field_group name (Some group) = Some group

-- the names of which there is a group: a group exchange, or one of a fixed group
abbrev pub has_group : Option (List ℕ) → Bool
has_group None = false
has_group (Some prime) = true

abbrev pub is_field_name : Name → Bool
is_field_name name = is_gex name || has_group (fixed_prime name)

-- a prime and a generator that are lent, if they are there
abbrev pub group_seen : Option (Bor (List ℕ) × Bor (List ℕ)) → Option DhGroup
group_seen None = None
group_seen (Some g) = Some (record { prime = g.0.now; generator = g.1.now })

-- what one side reckons of a number and its exponent
abbrev pub field_power : DhGroup → List ℕ → List ℕ → ℕ
field_power group base exponent = power_modulo (number base) (number exponent) (number group.prime)

-- whether bytes may stand as a public value: the body of an mpint, of a number from 1 on and below the prime
abbrev pub is_public_value : ℕ → List ℕ → Bool
is_public_value prime public = is_shortest public && (nat_lt 0 (number public) && nat_lt (number public) prime)

-- the public value of an exponent
pub record HasPublicValue (group : DhGroup) (exponent public : List ℕ) : Type 0 where
  pub modulus : modulus_fault (number group.prime) ≡ None
  pub power : number public ≡ field_power group group.generator exponent
  pub good : is_public_value (number group.prime) public ≡ true

-- an agreement takes a group: its prime is a modulus, and no power of its generator is 0
pub record IsTaken (group : DhGroup) : Type 0 where
  pub modulus : modulus_fault (number group.prime) ≡ None
  pub powers : (exponent : ℕ) → power_modulo (number group.generator) exponent (number group.prime) ≡ 0 → ⊥

-- it takes the group that is handed over; of a name's own group nothing is asked
abbrev pub TakesGroup : Option DhGroup → Type 0
TakesGroup None = Unit {0}
TakesGroup (Some group) = IsTaken group

-- what one side reckons of the next 64 drawn bytes is 0, which is no public value
abbrev pub DrawsZero : DhGroup → Stream → Type 0
DrawsZero group before = field_power group group.generator (fill_bytes 64 before).0 ≡ 0

-- why no value is made: the name has no group, its prime is no modulus, or the power is 0
abbrev pub LacksPublic : Name → Option DhGroup → Stream → Type 0
LacksPublic name group before = (at : DhGroup) → field_group name group ≡ Some at
    → modulus_fault (number at.prime) ≡ None → DrawsZero at before

-- why no secret is made: the name has no group, its prime is no modulus, or the other side's value is no public value
abbrev pub LacksSecretOf : Name → Option DhGroup → List ℕ → Type 0
LacksSecretOf name group public = (at : DhGroup) → field_group name group ≡ Some at
    → modulus_fault (number at.prime) ≡ None → is_public_value (number at.prime) public ≡ false

-- why a server doesn't agree: it has no secret to make, or no value
abbrev pub LacksAgreed : Name → Option DhGroup → List ℕ → Stream → Type 0
LacksAgreed name group public before = (at : DhGroup) → field_group name group ≡ Some at
    → modulus_fault (number at.prime) ≡ None → is_public_value (number at.prime) public ≡ true → DrawsZero at before

-- Bytes that spell a number, as many as the prime has.
pub record SpellsSecret (group : DhGroup) (secret : List ℕ) (n : ℕ) : Type 0 where
  pub digits : AreBytes secret
  pub long : length secret ≡ length (magnitude group.prime)
  pub spelled : number secret ≡ n

-- what a side makes: in the group of the name
pub record MakesPublic (name : Name) (group : Option DhGroup) (exponent public : List ℕ) : Type 0 where
  pub at : DhGroup
  pub found : field_group name group ≡ Some at
  pub value : HasPublicValue at exponent public

-- the secret that an exponent makes of the other side's public value, in the group of the name
pub record SpellsIn (name : Name) (group : Option DhGroup) (exponent public secret : List ℕ) : Type 0 where
  pub at : DhGroup
  pub found : field_group name group ≡ Some at
  pub secret_is : SpellsSecret at secret (field_power at public exponent)

-- what a server makes, of some exponent, whatever the client's value is
abbrev pub ServerPublic : Name → Option DhGroup → List ℕ → List ℕ → Type 0
ServerPublic name group client public = (exponent : List ℕ) × MakesPublic name group exponent public

-- the secret of both public values, reckoned by the client's exponent or by the server's
pub record AgreesInField (name : Name) (group : Option DhGroup) (client server secret : List ℕ) : Type 0 where
  pub at : DhGroup
  pub found : field_group name group ≡ Some at
  pub either : ((x : List ℕ) × HasPublicValue at x client × SpellsSecret at secret (field_power at server x))
      ⊎ ((y : List ℕ) × HasPublicValue at y server × SpellsSecret at secret (field_power at client y))

-- a client's draws: the exponent is the next 64 bytes
pub record FieldClientDraws (name : Name) (group : Option DhGroup) (before : Stream) (exponent public : List ℕ)
    (behind : Stream) : Type 0 where
  pub drawn : (exponent, behind) ≡ fill_bytes 64 before
  pub made : MakesPublic name group exponent public

-- what a server draws in a group, and makes of it: the exponent is the next 64 bytes, and the secret is reckoned by it
pub record AgreedBy (at : DhGroup) (client : List ℕ) (before : Stream) (public secret : List ℕ) (behind : Stream) : Type 0 where
  pub exponent : List ℕ
  pub drawn : (exponent, behind) ≡ fill_bytes 64 before
  pub value : HasPublicValue at exponent public
  pub secret_is : SpellsSecret at secret (field_power at client exponent)

pub record FieldServerDraws (name : Name) (group : Option DhGroup) (client : List ℕ) (before : Stream)
    (public secret : List ℕ) (behind : Stream) : Type 0 where
  pub at : DhGroup
  pub found : field_group name group ≡ Some at
  pub agreed : AgreedBy at client before public secret behind
