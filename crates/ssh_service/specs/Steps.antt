-- What the machine of services does with one message.
use Rattle.std.specs.Prelude.{◌≡◌, ℕ, true, if◌then◌else◌, List, [], ◌∷◌, ◌++◌, Ok}
use Rattle.ssh_service.specs.Answers.{ServiceState, answer_by, has_name, name_asked}
use Rattle.ssh_service.specs.Messages.{spelling}
use Rattle.ssh_service.specs.ServiceNames.{IsServiceName}
use Rattle.ssh_service.specs.declared.answer.ServiceAnswer.{ServiceAnswer}
use Rattle.ssh_service.specs.declared.answer.ServiceAnswer.TheVariants.{Accepted, Bad, Extensions, Other, Refused}
use Rattle.ssh_service.specs.declared.message.ServiceMessage.{ServiceMessage}
use Rattle.ssh_service.specs.declared.message.ServiceMessage.TheVariants.{Accept, Info, Request}

-- its answer
abbrev pub answer_to : ServiceState → ServiceMessage → ServiceAnswer
answer_to s m =
    answer_by (has_name (name_asked (Ok m)) s.offered) (has_name (name_asked (Ok m)) s.requested) s.informed (Ok m)

-- what it knows then
abbrev pub moves : ServiceState → ServiceMessage → ServiceState
moves s (Request name) =
    if has_name name s.offered
    then (if has_name name s.requested then s else record s { requested = s.requested ++ name ∷ [] })
    else s
moves s (Accept name) = s
moves s (Info es) = record s { informed = true }

-- a message that grants a service
abbrev pub IsGrant : List ℕ → Type 0
IsGrant reply = (name : List ℕ) × IsServiceName name × (reply ≡ spelling (Accept name))

-- an answer whose reply, if it has one, is such a message
abbrev pub RepliesGrant : ServiceAnswer → Type 0
RepliesGrant (Accepted reply) = IsGrant reply
RepliesGrant (Refused reason) = Unit {0}
RepliesGrant Extensions = Unit {0}
RepliesGrant Other = Unit {0}
RepliesGrant (Bad e) = Unit {0}
