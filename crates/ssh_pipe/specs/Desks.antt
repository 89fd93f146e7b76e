-- What a payload is answered.
use Rattle.std.specs.Prelude.{◌≡◌, ℕ, ◌⊎◌, ◌==◌, Bool, false, if◌then◌else◌, List, [], ◌∷◌, ◌++◌, codes, Option, Some, None, Result, Ok, Err}
use Rattle.std.specs.List.{list_any}
use Rattle.std.specs.Str.{bytes_eq}
use Rattle.ssh_service.specs.Answers.{ServiceState, StandsFor, answer_after, asks_for}
use Rattle.ssh_service.specs.Messages.{message_of, spelling}
use Rattle.ssh_service.specs.Steps.{IsGrant}
use Rattle.ssh_service.specs.declared.answer.ServiceAnswer.{ServiceAnswer}
use Rattle.ssh_service.specs.declared.answer.ServiceAnswer.TheVariants as answers
use Rattle.ssh_service.specs.declared.message.ServiceMessage.{ServiceMessage}
use Rattle.ssh_service.specs.declared.message.ServiceMessage.TheVariants.{Accept, Info, Request}
use Rattle.ssh_wire.specs.declared.error.Error.{Error}
use Rattle.ssh_wire.specs.declared.error.Error.TheVariants.{Inconsistent}
use Rattle.ssh_wire.specs.declared.side.Side.{Side}
use Rattle.ssh_wire.specs.declared.side.Side.TheVariants.{Client, Server}
use Rattle.ssh_pipe.specs.declared.desk.Reply.{Reply}
use Rattle.ssh_pipe.specs.declared.desk.Reply.TheVariants.{Bad, Message, NotServed, Silent}

-- SSH_MSG_USERAUTH_FAILURE, no method that may go on, no partial success (RFC 4252 section 5.1)
abbrev pub login_failure : List ℕ
login_failure = 51 ∷ 0 ∷ 0 ∷ 0 ∷ 0 ∷ 0 ∷ []

-- a service is asked for (RFC 4253 section 10)
abbrev pub IsAsking : List ℕ → Type 0
IsAsking payload = (name : List ℕ) × (payload ≡ spelling (Request name))

-- What a side may be handed to send: a login fails, a service is granted, or one is asked for.
abbrev pub IsSaid : List ℕ → Type 0
IsSaid payload = ((payload ≡ login_failure) ⊎ IsGrant payload) ⊎ IsAsking payload

-- No login succeeds: a service is granted, or a login fails.
abbrev pub LetsNobodyIn : Reply → Type 0
LetsNobodyIn Silent = Unit {0}
LetsNobodyIn (Message payload) = (payload ≡ login_failure) ⊎ IsGrant payload
LetsNobodyIn NotServed = Unit {0}
LetsNobodyIn (Bad e) = Unit {0}

-- ---- which reply is due

-- the service of logins (RFC 4252)
abbrev pub login_service : List ℕ
login_service = codes "ssh-userauth"

-- what a side sends first: a client asks for that service
abbrev pub first_of : Side → Option (List ℕ)
first_of Client = Some (spelling (Request login_service))
first_of Server = None

-- as a list
abbrev pub first_said : Option (List ℕ) → List (List ℕ)
first_said None = []
first_said (Some payload) = payload ∷ []

-- whether what was read grants that service
abbrev pub grants_in : Result ServiceMessage Error → Bool
grants_in (Ok (Request name)) = false
grants_in (Ok (Accept name)) = bytes_eq name login_service
grants_in (Ok (Info es)) = false
grants_in (Err e) = false

-- whether a payload grants it
abbrev pub grants_login : List ℕ → Bool
grants_login payload = grants_in (message_of payload)

-- whether the service was granted once these payloads of the other side were answered
abbrev pub was_granted : Side → List (List ℕ) → Bool
was_granted Client earlier = list_any grants_login earlier
was_granted Server earlier = list_any (asks_for login_service) earlier

-- SSH_MSG_USERAUTH_REQUEST (RFC 4252 section 5)
abbrev pub is_login : List ℕ → Bool
is_login [] = false
is_login (message_type ∷ fields) = message_type == 50

-- what a client makes of what it read: it waits for one grant of the service that it asked for, and takes extensions
abbrev pub client_reply : (granted : Bool) → Result ServiceMessage Error → Reply
client_reply granted (Ok (Request name)) = Bad Inconsistent
client_reply granted (Ok (Accept name)) =
    if granted then Bad Inconsistent else (if bytes_eq name login_service then Silent else Bad Inconsistent)
client_reply granted (Ok (Info es)) = Silent
client_reply granted (Err e) = Bad e

-- what a server makes of a payload, by what the machine of services answers: a login fails where the service was
-- granted
abbrev pub server_reply : (granted login : Bool) → ServiceAnswer → Reply
server_reply granted login (answers.Accepted reply) = Message reply
server_reply granted login (answers.Refused reason) = NotServed
server_reply granted login answers.Extensions = Silent
server_reply granted login answers.Other =
    if granted then (if login then Message login_failure else Bad Inconsistent) else Bad Inconsistent
server_reply granted login (answers.Bad e) = Bad e

-- what a payload is answered behind these
abbrev pub reply_to : Side → (earlier : List (List ℕ)) → List ℕ → Reply
reply_to Client earlier payload = client_reply (was_granted Client earlier) (message_of payload)
reply_to Server earlier payload =
    server_reply (was_granted Server earlier) (is_login payload) (answer_after (login_service ∷ []) earlier payload)

-- Behind what a reply sends comes the rest. Silence sends nothing. Behind a reply of another kind no talk goes on.
abbrev pub SaysBefore : Reply → (said rest : List (List ℕ)) → Type 0
SaysBefore Silent said rest = said ≡ rest
SaysBefore (Message payload) said rest = said ≡ payload ∷ rest
SaysBefore NotServed said rest = ⊥
SaysBefore (Bad e) said rest = ⊥

-- Each of some payloads, which came behind earlier ones, got a reply behind which the talk goes on. What these replies
-- send was said, in order, and no more.
abbrev pub AreReplies : Side → (earlier payloads said : List (List ℕ)) → Type 0
AreReplies side earlier [] said = said ≡ []
AreReplies side earlier (payload ∷ payloads) said = (rest : List (List ℕ))
    × SaysBefore (reply_to side earlier payload) said rest
    × AreReplies side (earlier ++ payload ∷ []) payloads rest

-- what is known of a desk
pub record DeskState : Type 0 where
  pub side : Side
  pub services : ServiceState
  pub granted : Bool

-- It has answered these payloads, and no others.
pub record HasAnswered (d : DeskState) (earlier : List (List ℕ)) : Type 0 where
  pub offered : d.services.offered ≡ login_service ∷ []
  pub stands : d.side ≡ Server → StandsFor d.services earlier
  pub granted : d.granted ≡ was_granted d.side earlier
