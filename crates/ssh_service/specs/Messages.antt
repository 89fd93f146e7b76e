-- Messages on services and on extensions (RFC 4253 section 10, RFC 8308 section 2.3).
use Rattle.std.specs.Prelude.{◌≡◌, ℕ, ◌⊎◌, ◌==◌, if◌then◌else◌, List, [], ◌∷◌, ◌++◌, length, codes, Result, Ok, Err, refl}
use Rattle.std.specs.List.{flat_map}
use Rattle.ssh_wire.specs.Fields.{string_at, u32_at}
use Rattle.ssh_wire.specs.Forms.{string, u32be}
use Rattle.ssh_wire.specs.Messages.{whole}
use Rattle.ssh_wire.specs.declared.error.EncodingFault.{EncodingFault}
use Rattle.ssh_wire.specs.declared.error.EncodingFault.TheVariants.{CharacterEncoding, Length, TrailingData}
use Rattle.ssh_wire.specs.declared.error.Error.{Error}
use Rattle.ssh_wire.specs.declared.error.Error.TheVariants.{Inconsistent, Memory, SshEncoding}
use Rattle.ssh_service.specs.ServiceNames.{IsServiceName, name_at}
use Rattle.ssh_service.specs.Extensions.{AreExtensions, extension, extension_at, info_at, value_at}
use Rattle.ssh_service.specs.declared.message.ServiceMessage.{ServiceMessage}
use Rattle.ssh_service.specs.declared.message.ServiceMessage.TheVariants.{Accept, Info, Request}

-- The one spelling of a message. RFC 4253 section 10: byte SSH_MSG_SERVICE_REQUEST or SSH_MSG_SERVICE_ACCEPT, string
-- service name. RFC 8308 section 2.3: byte SSH_MSG_EXT_INFO, uint32 number of extensions, and for each string name,
-- string value.
abbrev pub spelling : ServiceMessage → List ℕ
spelling (Request name) = 5 ∷ string name
spelling (Accept name) = 6 ∷ string name
spelling (Info extensions) = 7 ∷ (u32be (length extensions) ++ flat_map extension extensions)

-- what may stand in a message
abbrev pub IsMessage : ServiceMessage → Type 0
IsMessage (Request name) = IsServiceName name
IsMessage (Accept name) = IsServiceName name
IsMessage (Info extensions) = AreExtensions extensions

-- a message that was made of a field, or its refusal
abbrev pub made_message : {A : Type 0} → (A → ServiceMessage) → Result A EncodingFault → Result ServiceMessage Error
made_message make (Ok x) = Ok (make x)
made_message make (Err fault) = Err (SshEncoding fault)

-- the message of this type with these fields, or why there is none
abbrev pub behind_type : ℕ → List ℕ → Result ServiceMessage Error
behind_type message_type fields =
    if message_type == 5 then made_message Request (whole (name_at fields))
    else if message_type == 6 then made_message Accept (whole (name_at fields))
    else if message_type == 7 then made_message Info (whole (info_at fields))
    else Err Inconsistent

-- the message of a payload, or why it is refused: the first bad field decides
abbrev pub message_of : List ℕ → Result ServiceMessage Error
message_of [] = Err Inconsistent
message_of (message_type ∷ fields) = behind_type message_type fields

-- the answer to a payload, unless memory is wanting
abbrev pub IsReadAs : Result ServiceMessage Error → Result ServiceMessage Error → Type 0
IsReadAs read (Ok m) = read ≡ Ok m
IsReadAs read (Err e) = (e ≡ Memory) ⊎ (read ≡ Err e)

request-example : message_of (spelling (Request (codes "ssh-userauth"))) ≡ Ok (Request (codes "ssh-userauth"))
unfolding name_at string_at u32_at
request-example = refl

info-example : message_of (7 ∷ 0 ∷ 0 ∷ 0 ∷ 1 ∷ 0 ∷ 0 ∷ 0 ∷ 1 ∷ 120 ∷ 0 ∷ 0 ∷ 0 ∷ 0 ∷ [])
    ≡ Ok (Info (record { name = codes "x"; value = [] } ∷ []))
unfolding info_at extension_at name_at value_at string_at u32_at
info-example = refl

empty-example : message_of (5 ∷ 0 ∷ 0 ∷ 0 ∷ 0 ∷ []) ≡ Err (SshEncoding CharacterEncoding)
unfolding name_at string_at u32_at
empty-example = refl

trailing-example : message_of (6 ∷ 0 ∷ 0 ∷ 0 ∷ 1 ∷ 120 ∷ 0 ∷ []) ≡ Err (SshEncoding TrailingData)
unfolding name_at string_at u32_at
trailing-example = refl

many-example : message_of (7 ∷ 0 ∷ 0 ∷ 0 ∷ 17 ∷ []) ≡ Err (SshEncoding Length)
unfolding info_at u32_at
many-example = refl
