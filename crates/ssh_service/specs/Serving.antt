-- The replies that are submitted to a transport.
use Rattle.std.specs.Prelude.{◌≡◌, ℕ, false, List, [], ◌∷◌, ◌++◌, take}
use Rattle.ssh_kex.specs.Setting.{Says}
use Rattle.ssh_rules.specs.Standing.{Standing, Submitted}
use Rattle.ssh_service.specs.Answers.{ReceivesSome, ServiceState, StandsFor, answers_from}
use Rattle.ssh_service.specs.declared.answer.ServiceAnswer.{ServiceAnswer}
use Rattle.ssh_service.specs.declared.answer.ServiceAnswer.TheVariants.{Accepted, Bad, Extensions, Other, Refused}

-- the message that grants a service, where the answer is one
abbrev pub replies_of : ServiceAnswer → List (List ℕ)
replies_of (Accepted reply) = reply ∷ []
replies_of (Refused reason) = []
replies_of Extensions = []
replies_of Other = []
replies_of (Bad e) = []

-- of all answers, in order
abbrev pub replies_in : List ServiceAnswer → List (List ℕ)
replies_in [] = []
replies_in (answer ∷ answers) = replies_of answer ++ replies_in answers

-- payloads were submitted, one after the other
abbrev pub SubmitsAll : Says → Standing → List (List ℕ) → Standing → Type 0
SubmitsAll says old [] new = new ≡ old
SubmitsAll says old (payload ∷ payloads) new =
    (mid : Standing) × Submitted says old payload mid × SubmitsAll says mid payloads new

-- Memory ran out: some of the payloads, from the first one on, were received, and where the transport still lives,
-- exactly the replies to these were submitted.
pub record ServesSome (says : Says) (old : Standing) (s : ServiceState) (payloads : List (List ℕ)) (new : Standing)
    (t : ServiceState) : Type 0 where
  pub received : ReceivesSome s payloads t
  pub replies : new.failed ≡ false → (earlier : List (List ℕ)) → StandsFor s earlier
      → SubmitsAll says old (replies_in (answers_from s.offered earlier (take received.count payloads))) new
