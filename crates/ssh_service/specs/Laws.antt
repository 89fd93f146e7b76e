-- What is true of all messages, and of the answers to all lists of payloads.
use Rattle.std.specs.Prelude.{◌≡◌, true, false, ℕ, List, ◌∷◌, ◌++◌, Ok}
use Rattle.std.specs.List.{list_any}
use Rattle.ssh_wire.specs.Forms.{AreBytes}
use Rattle.ssh_service.specs.Answers.{answer_after, asks_for, has_name}
use Rattle.ssh_service.specs.Messages.{IsMessage, message_of, spelling}
use Rattle.ssh_service.specs.declared.answer.ServiceAnswer.TheVariants.{Accepted}
use Rattle.ssh_service.specs.declared.message.ServiceMessage.{ServiceMessage}
use Rattle.ssh_service.specs.declared.message.ServiceMessage.TheVariants.{Accept, Request}

-- a message has one payload: two that are read as it are equal
abbrev pub OnePayload : Type 0
OnePayload = (a b : List ℕ) (m : ServiceMessage) → AreBytes a → AreBytes b → message_of a ≡ Ok m → message_of b ≡ Ok m
    → a ≡ b

-- what is spelled is read
abbrev pub SpelledRead : Type 0
SpelledRead = (m : ServiceMessage) → IsMessage m → message_of (spelling m) ≡ Ok m

-- no service is accepted twice: behind a payload that is answered by a grant none is answered by the same grant
abbrev pub AcceptedOnce : Type 0
AcceptedOnce = (offered before between : List (List ℕ)) (p q reply : List ℕ)
    → answer_after offered before p ≡ Accepted reply
    → answer_after offered (before ++ p ∷ between) q ≡ Accepted reply → ⊥

-- the first request of a service that is offered is accepted
abbrev pub FirstAccepted : Type 0
FirstAccepted = (offered before : List (List ℕ)) (payload name : List ℕ) → message_of payload ≡ Ok (Request name)
    → has_name name offered ≡ true → list_any (asks_for name) before ≡ false
    → answer_after offered before payload ≡ Accepted (spelling (Accept name))
