-- The causes of what a run of a link is refused.
use Rattle.std.specs.Prelude.{◌≡◌, ◌⊎◌, ◌+◌, ◌<◌, ◌≤◌, ℕ, Bool, true, false, if◌then◌else◌, List, [], ◌++◌, ◌∷◌, length, None, Ok, refl}
use Rattle.std.specs.List.{list_all}
use Rattle.ssh_wire.specs.Lines.{id_line}
use Rattle.ssh_wire.specs.Sides.{other_side, same_side}
use Rattle.ssh_wire.specs.declared.error.Error.{Error}
use Rattle.ssh_wire.specs.declared.error.Error.TheVariants as errors
use Rattle.ssh_wire.specs.declared.side.Side.{Side}
use Rattle.ssh_wire.specs.declared.side.Side.TheVariants.{Client, Server}
use Rattle.ssh_negotiate.specs.declared.kex.Name.{Name as KexName}
use Rattle.ssh_negotiate.specs.declared.negotiation.Names.{Names}
use Rattle.ssh_kex.specs.declared.config.Config.{Config}
use Rattle.ssh_kex.specs.declared.group.DhGroup.{DhGroup}
use Rattle.ssh_rules.specs.LinkCauses.{IsCauseOf, IsCauseOfAny, Rises}
use Rattle.ssh_rules.specs.Headline.{chosen_by}
use Rattle.ssh_rules.specs.Valid.{config_fault, is_good_payload}
use Rattle.ssh_rules.specs.declared.link.Step.{Step}
use Rattle.ssh_rules.specs.declared.link.Step.TheVariants.{Deliver, Rekey, Settle, Submit}
use Rattle.ssh_run.specs.RefusedCarrying.{IsConfigFault, RefusesSubmit}

-- whether the payload of a step may be submitted; other steps have none
abbrev pub submits_good : Step → Bool
submits_good (Submit side payload) = is_good_payload payload
submits_good (Deliver side n) = true
submits_good (Rekey side) = true
submits_good Settle = true

-- of all steps
abbrev pub all_submits_good : List Step → Bool
all_submits_good steps = list_all submits_good steps

good-example : all_submits_good (Submit Client (94 ∷ []) ∷ Settle ∷ []) ≡ true
good-example = refl

kexinit-example : all_submits_good (Settle ∷ Submit Server (20 ∷ []) ∷ []) ≡ false
kexinit-example = refl

-- whether a step carries bytes to a side
abbrev pub carries_to : Side → Step → Bool
carries_to side (Submit s p) = false
carries_to side (Deliver s n) = same_side s side
carries_to side (Rekey s) = false
carries_to side Settle = true

-- some step, before which each payload was good
pub record ReachesStep (steps : List Step) (step : Step) : Type 0 where
  pub before : List Step
  pub behind : List Step
  pub steps_are : steps ≡ before ++ step ∷ behind
  pub good : all_submits_good before ≡ true

-- whether a settle is among them
abbrev pub has_settle : List Step → Bool
has_settle [] = false
has_settle (Submit side p ∷ steps) = has_settle steps
has_settle (Deliver side n ∷ steps) = has_settle steps
has_settle (Rekey side ∷ steps) = has_settle steps
has_settle (Settle ∷ steps) = true

-- how many bytes their deliveries bring to a side at most
abbrev pub most_brought : Side → List Step → ℕ
most_brought side [] = 0
most_brought side (Submit s p ∷ steps) = most_brought side steps
most_brought side (Deliver s n ∷ steps) = (if same_side s side then n else 0) + most_brought side steps
most_brought side (Rekey s ∷ steps) = most_brought side steps
most_brought side (Settle ∷ steps) = most_brought side steps

brought-example : most_brought Client (Deliver Client 40 ∷ Deliver Server 9 ∷ Deliver Client 2 ∷ []) ≡ 42
brought-example = refl

-- There is a settle, or their deliveries ask for more bytes than the other's version line has, and for all of the side's,
-- behind which alone the other writes more.
abbrev pub BringMessages : Side → (Side → Config) → List Step → Type 0
BringMessages side config steps = has_settle steps ≡ false
    → (length (id_line (config (other_side side)).id) < most_brought side steps)
    × (length (id_line (config side).id) ≤ most_brought (other_side side) steps)

-- the first payload that isn't good is refused
pub record IsBadSubmit (steps : List Step) (error : Error) : Type 0 where
  pub side : Side
  pub payload : List ℕ
  pub reached : ReachesStep steps (Submit side payload)
  pub refused : RefusesSubmit payload error

-- a settle comes to no end, as none does where the parts of both are lawful
pub record IsUnsettled (steps : List Step) (error : Error) : Type 0 where
  pub reached : ReachesStep steps Settle
  pub error_is : error ≡ errors.Disconnect

-- a side refuses a message that some step carries to it, where the parts of both are lawful
pub record IsPartsCause (rises : Side → Rises) (config : Side → Config) (offered : Side → KexName → Bool)
    (group : DhGroup) (steps : List Step) (error : Error) : Type 0 where
  pub side : Side
  pub step : Step
  pub carries : carries_to side step ≡ true
  pub reached : ReachesStep steps step
  pub came : BringMessages side config (reached.before ++ step ∷ [])
  pub cause : IsCauseOf (rises side) side config (offered side) group error

-- whatever they are
pub record IsAnyPartsCause (rises : Side → Rises) (config : Side → Config) (steps : List Step) (error : Error)
    : Type 0 where
  pub side : Side
  pub step : Step
  pub carries : carries_to side step ≡ true
  pub reached : ReachesStep steps step
  pub came : BringMessages side config (reached.before ++ step ∷ [])
  pub cause : IsCauseOfAny (rises side) side error

-- Why a run is refused where the parts of both sides are lawful: a configuration, the first payload that isn't good,
-- what the parts decide, or want of memory.
abbrev pub IsRunCause : (Side → Rises) → (Side → Config) → (Side → KexName → Bool) → DhGroup → List Step → Error → Type 0
IsRunCause rises config offered group steps error = (error ≡ errors.Memory)
    ⊎ (IsConfigFault (config Client) (config Server) error ⊎ (IsBadSubmit steps error
    ⊎ IsPartsCause rises config offered group steps error))

-- and whatever they are
abbrev pub IsAnyRunCause : (Side → Rises) → (Side → Config) → List Step → Error → Type 0
IsAnyRunCause rises config steps error = (error ≡ errors.Memory)
    ⊎ (IsConfigFault (config Client) (config Server) error ⊎ (IsBadSubmit steps error
    ⊎ (IsAnyPartsCause rises config steps error ⊎ IsUnsettled steps error)))

-- Both configurations pass, both agreements offer the key exchange that they choose, and each payload is good: obliging
-- parts refuse nothing in such a run.
pub record IsValidRun (config : Side → Config) (offered : Side → KexName → Bool) (steps : List Step) : Type 0 where
  pub valid : (side : Side) → config_fault side (config side) ≡ None
  pub names : Names
  pub chosen : chosen_by (config Client) (config Server) ≡ Ok names
  pub offers : (side : Side) → offered side names.kex ≡ true
  pub good : all_submits_good steps ≡ true

-- what the counts of both sides' parts did
abbrev pub rises_by : Rises → Rises → Side → Rises
rises_by client server Client = client
rises_by client server Server = server

-- what both sides' agreements offer
abbrev pub offered_on : (KexName → Bool) → (KexName → Bool) → Side → KexName → Bool
offered_on client server Client = client
offered_on client server Server = server
