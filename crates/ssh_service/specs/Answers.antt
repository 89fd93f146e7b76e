-- What a side answers to the messages that are delivered to it, one after the other.
use Rattle.std.specs.Prelude.{◌≡◌, ◌≤◌, ℕ, nat_le, Bool, true, false, if◌then◌else◌, List, [], ◌∷◌, ◌++◌, length, take, codes, Result, Ok, Err, IfOk, refl}
use Rattle.std.specs.List.{list_any}
use Rattle.std.specs.Str.{bytes_eq}
use Rattle.ssh_wire.specs.Fields.{string_at, u32_at}
use Rattle.ssh_wire.specs.declared.disconnect.Disconnect.TheVariants.{ProtocolError, ServiceNotAvailable}
use Rattle.ssh_wire.specs.declared.error.EncodingFault.TheVariants.{CharacterEncoding}
use Rattle.ssh_wire.specs.declared.error.Error.{Error}
use Rattle.ssh_wire.specs.declared.error.Error.TheVariants.{Inconsistent, SshEncoding}
use Rattle.ssh_service.specs.ServiceNames.{name_at}
use Rattle.ssh_service.specs.Messages.{message_of, spelling}
use Rattle.ssh_service.specs.declared.answer.ServiceAnswer.{ServiceAnswer}
use Rattle.ssh_service.specs.declared.answer.ServiceAnswer.TheVariants.{Accepted, Bad, Extensions, Other, Refused}
use Rattle.ssh_service.specs.declared.message.ServiceMessage.{ServiceMessage}
use Rattle.ssh_service.specs.declared.message.ServiceMessage.TheVariants.{Accept, Info, Request}

-- whether a name is among some
abbrev pub has_name : List ℕ → List (List ℕ) → Bool
has_name name names = list_any (λ n. bytes_eq n name) names

-- whether what was read asks for this service
abbrev pub asks_in : List ℕ → Result ServiceMessage Error → Bool
asks_in name (Ok (Request n)) = bytes_eq n name
asks_in name (Ok (Accept n)) = false
asks_in name (Ok (Info es)) = false
asks_in name (Err e) = false

-- whether a payload asks for this service
abbrev pub asks_for : List ℕ → List ℕ → Bool
asks_for name payload = asks_in name (message_of payload)

-- whether what was read tells extensions
abbrev pub tells_in : Result ServiceMessage Error → Bool
tells_in (Ok (Request n)) = false
tells_in (Ok (Accept n)) = false
tells_in (Ok (Info es)) = true
tells_in (Err e) = false

-- whether a payload tells extensions
abbrev pub tells_extensions : List ℕ → Bool
tells_extensions payload = tells_in (message_of payload)

-- The answer to a message, by whether it asks for a service that is offered, whether one before it asked for the same,
-- and whether one before it told extensions.
abbrev pub answer_by : (offered asked told : Bool) → Result ServiceMessage Error → ServiceAnswer
answer_by offered asked told (Err e) = Bad e
answer_by offered asked told (Ok (Request name)) =
    if offered then (if asked then Refused ProtocolError else Accepted (spelling (Accept name)))
    else Refused ServiceNotAvailable
answer_by offered asked told (Ok (Accept name)) = Bad Inconsistent
answer_by offered asked told (Ok (Info es)) = if told then Bad Inconsistent else Extensions

-- the name that a message asks for
abbrev pub name_asked : Result ServiceMessage Error → List ℕ
name_asked (Ok (Request name)) = name
name_asked (Ok (Accept name)) = []
name_asked (Ok (Info es)) = []
name_asked (Err e) = []

-- the answer to what was read behind these payloads
abbrev pub answer_read : (offered earlier : List (List ℕ)) → Result ServiceMessage Error → ServiceAnswer
answer_read offered earlier read =
    answer_by (has_name (name_asked read) offered) (list_any (asks_for (name_asked read)) earlier)
    (list_any tells_extensions earlier) read

-- a message of authentication or of a later protocol (RFC 4251 section 7)
abbrev pub is_for_above : List ℕ → Bool
is_for_above [] = false
is_for_above (message_type ∷ fields) = nat_le 50 message_type

-- the answer to a payload behind these, where these services are offered
abbrev pub answer_after : (offered earlier : List (List ℕ)) → List ℕ → ServiceAnswer
answer_after offered earlier payload =
    if is_for_above payload then Other else answer_read offered earlier (message_of payload)

-- the answers to payloads behind these
abbrev pub answers_from : (offered earlier payloads : List (List ℕ)) → List ServiceAnswer
answers_from offered earlier [] = []
answers_from offered earlier (payload ∷ payloads) =
    answer_after offered earlier payload ∷ answers_from offered (earlier ++ payload ∷ []) payloads

-- A machine by its value: the services that are offered, those that were asked for, and whether extensions were told.
pub record ServiceState : Type 0 where
  pub offered : List (List ℕ)
  pub requested : List (List ℕ)
  pub informed : Bool

-- It stands for the payloads that it received: of each service that is offered it knows whether they asked for it, and
-- it knows whether they told extensions.
pub record StandsFor (s : ServiceState) (payloads : List (List ℕ)) : Type 0 where
  pub requested : (name : List ℕ) → has_name name s.offered ≡ true
      → has_name name s.requested ≡ list_any (asks_for name) payloads
  pub informed : s.informed ≡ list_any tells_extensions payloads

-- Some of the payloads, from the first one on, were received.
pub record ReceivesSome (s : ServiceState) (payloads : List (List ℕ)) (t : ServiceState) : Type 0 where
  pub count : ℕ
  pub few : count ≤ length payloads
  pub stands : (earlier : List (List ℕ)) → StandsFor s earlier → StandsFor t (earlier ++ take count payloads)

-- the answer is this one, unless memory is wanting
abbrev pub IsServiceAnswer : ServiceAnswer → Result ServiceAnswer Error → Type 0
IsServiceAnswer answer result = IfOk result (λ a. a ≡ answer)

once-example : answers_from (codes "x" ∷ []) [] (spelling (Request (codes "x")) ∷ spelling (Request (codes "x"))
    ∷ spelling (Request (codes "y")) ∷ (5 ∷ 0 ∷ 0 ∷ 0 ∷ 0 ∷ []) ∷ (50 ∷ []) ∷ [] ∷ [])
    ≡ Accepted (spelling (Accept (codes "x"))) ∷ Refused ProtocolError ∷ Refused ServiceNotAvailable
    ∷ Bad (SshEncoding CharacterEncoding) ∷ Other ∷ Bad Inconsistent ∷ []
unfolding name_at string_at u32_at
once-example = refl
