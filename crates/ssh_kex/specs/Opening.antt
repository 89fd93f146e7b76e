-- The peer's KEXINIT: its names, or why it is refused.
use Rattle.std.specs.Prelude.{◌≡◌, ℕ, ◌+◌, ◌-◌, ◌^◌, ◌%◌, Bool, true, false, List, Ok, Err, ◌⊎◌}
use Rattle.ssh_negotiate.specs.Advertised.{Offers}
use Rattle.ssh_negotiate.specs.Causes.{was_strict}
use Rattle.ssh_negotiate.specs.Reading.{KexinitFault, AnswersFault, names_read}
use Rattle.ssh_negotiate.specs.declared.kex.KexCause.{KexCause}
use Rattle.ssh_negotiate.specs.declared.negotiation.Names.{Names}
use Rattle.ssh_packet.specs.Stream.{message_type}
use Rattle.ssh_wire.specs.declared.error.Error.{Error}
use Rattle.ssh_wire.specs.declared.error.Error.TheVariants as errors
use Rattle.ssh_wire.specs.declared.side.Side.{Side}
use Rattle.ssh_kex.specs.Stages.{IsFirst}

-- the names of a KEXINIT that is the first packet where it has to be
pub record Reads (side : Side) (own : Offers) (cause : KexCause) (seqn : ℕ) (payload : List ℕ) (n : Names) : Type 0 where
  pub is_kexinit : message_type payload ≡ 20
  pub read : names_read side own (was_strict cause) payload ≡ Ok n
  pub first : IsFirst cause n.strict_kex seqn

-- another message; a fault of its fields; a KEXINIT that comes too late under strict key exchange
abbrev pub RefusesNames : Side → Offers → KexCause → ℕ → List ℕ → Error → Type 0
RefusesNames side own cause seqn payload error =
    ((message_type payload ≡ 20 → ⊥) × (error ≡ errors.KexInit))
    ⊎ (((message_type payload ≡ 20) × ((error ≡ errors.Memory)
    ⊎ ((fault : KexinitFault) × (names_read side own (was_strict cause) payload ≡ Err fault)
    × AnswersFault fault error)))
    ⊎ ((message_type payload ≡ 20) × ((n : Names) × (names_read side own (was_strict cause) payload ≡ Ok n)
    × (IsFirst cause n.strict_kex seqn → ⊥)) × (error ≡ errors.StrictKeyExchangeViolation 20 ((seqn + (2 ^ 32 - 1)) % 2 ^ 32))))

-- whether it comes too late, and whether not
abbrev pub IsLateWhere : Bool → KexCause → Bool → ℕ → Type 0
IsLateWhere true cause strict seqn = IsFirst cause strict seqn → ⊥
IsLateWhere false cause strict seqn = IsFirst cause strict seqn
