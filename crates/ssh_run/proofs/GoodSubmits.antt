-- The payloads of steps that were done are good, and a good one is refused for want of memory alone.
use Rattle.std.proofs.Common.{◌≡◌, ℕ, Bool, true, false, not, ◌&&◌, List, [], ◌∷◌, ◌++◌, length, refl, subst}
use Rattle.ssh_packet.specs.Stream.{message_type}
use Rattle.ssh_wire.specs.declared.error.Error.{Error}
use Rattle.ssh_wire.specs.declared.error.Error.TheVariants as errors
use Rattle.ssh_wire.specs.declared.side.Side.TheVariants.{Client, Server}
use Rattle.ssh_kex.specs.Setting.{Says}
use Rattle.ssh_rules.specs.MessageTypes.{is_payload_type}
use Rattle.ssh_rules.specs.Valid.{is_bad_size, is_good_payload}
use Rattle.ssh_rules.specs.declared.link.Step.{Step}
use Rattle.ssh_rules.specs.declared.link.Step.TheVariants.{Deliver, Rekey, Settle, Submit}
use Rattle.ssh_run.specs.Carrying.{CarriedLink, StepsLink, StepsLinks}
use Rattle.ssh_run.specs.RefusedCarrying.{RefusesSubmit}
use Rattle.ssh_run.specs.RunCauses.{IsBadSubmit, all_submits_good, submits_good}

both_true : (a b : Bool) → a ≡ true → b ≡ true → (a && b) ≡ true
both_true true b p q = q
both_true false b p q = absurd (let bad : ⊥ = cc in bad)

first_true : (a b : Bool) → (a && b) ≡ true → a ≡ true
first_true true b h = refl
first_true false b h = absurd (let bad : ⊥ = cc in bad)

second_true : (a b : Bool) → (a && b) ≡ true → b ≡ true
second_true true b h = h
second_true false b h = absurd (let bad : ⊥ = cc in bad)

step_good : (c s : Says) (step : Step) (old new : CarriedLink) → StepsLink c s step old new → submits_good step ≡ true
step_good c s (Submit Client p) old new h = h.0.good
step_good c s (Submit Server p) old new h = h.0.good
step_good c s (Deliver side n) old new h = refl
step_good c s (Rekey side) old new h = refl
step_good c s Settle old new h = refl

pub steps_good : (c s : Says) (steps : List Step) (l : CarriedLink) (links : List CarriedLink) → StepsLinks c s steps l links → all_submits_good steps ≡ true
steps_good c s [] l links h = refl
steps_good c s (step ∷ steps) l [] h = absurd h
steps_good c s (step ∷ steps) l (x ∷ links) h = both_true (submits_good step) (all_submits_good steps) (step_good c s step l x h.0) (steps_good c s steps x links h.1)

-- each of them is
good_within : (before : List Step) (step : Step) (behind : List Step) → all_submits_good (before ++ step ∷ behind) ≡ true → submits_good step ≡ true
good_within [] step behind h = first_true (submits_good step) (all_submits_good behind) h
good_within (x ∷ before) step behind h = good_within before step behind (second_true (submits_good x) (all_submits_good (before ++ step ∷ behind)) h)

-- ---- a good payload

pub good_size : (p : List ℕ) → is_good_payload p ≡ true → is_bad_size (length p) ≡ true → ⊥
good_size p g h = by (is_bad_size (length p)) (is_payload_type (message_type p)) g h where
  by : (a b : Bool) → (not a && b) ≡ true → a ≡ true → ⊥
  by true b g h = cc
  by false b g h = cc

good_type : (p : List ℕ) → is_good_payload p ≡ true → is_payload_type (message_type p) ≡ false → ⊥
good_type p g h = by (is_bad_size (length p)) (is_payload_type (message_type p)) g h where
  by : (a b : Bool) → (not a && b) ≡ true → b ≡ false → ⊥
  by a true g h = cc
  by true false g h = cc
  by false false g h = cc

memory_alone : (p : List ℕ) (e : Error) → is_good_payload p ≡ true → RefusesSubmit p e → e ≡ errors.Memory
memory_alone p (errors.PacketSize n) g h = absurd (good_size p g h.1)
memory_alone p errors.Inconsistent g h = absurd (good_type p g h.1)
memory_alone p errors.Memory g h = refl
memory_alone p errors.KexInit g h = absurd h
memory_alone p errors.UnknownAlgo g h = absurd h
memory_alone p (errors.NoCommonAlgo kind ours theirs) g h = absurd h
memory_alone p errors.Version g h = absurd h
memory_alone p errors.Kex g h = absurd h
memory_alone p errors.PacketAuth g h = absurd h
memory_alone p errors.IndexOutOfBounds g h = absurd h
memory_alone p errors.UnknownKey g h = absurd h
memory_alone p errors.WrongServerSig g h = absurd h
memory_alone p errors.Disconnect g h = absurd h
memory_alone p errors.DecryptionError g h = absurd h
memory_alone p errors.IO g h = absurd h
memory_alone p (errors.StrictKeyExchangeViolation type place) g h = absurd h
memory_alone p errors.Signature g h = absurd h
memory_alone p (errors.SshEncoding fault) g h = absurd h
memory_alone p (errors.InvalidConfig fault) g h = absurd h

-- no bad submit where all are good
pub none_bad : (steps : List Step) (e : Error) → all_submits_good steps ≡ true → IsBadSubmit steps e → e ≡ errors.Memory
none_bad steps e g b = memory_alone b.payload e (good_within b.reached.before (Submit b.side b.payload) b.reached.behind (subst (λ z. all_submits_good z ≡ true) b.reached.steps_are g)) b.refused
