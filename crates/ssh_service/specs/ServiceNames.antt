-- Names of services (RFC 4253 section 10) and of extensions (RFC 8308 section 2.3).
use Rattle.std.specs.Prelude.{◌≡◌, ℕ, nat_lt, not, if◌then◌else◌, List, [], ◌∷◌, length, codes, Option, Some, None, Result, Ok, Err, refl}
use Rattle.ssh_wire.specs.Fields.{◌>>=◌, string_at}
use Rattle.ssh_wire.specs.Names.{is_name}
use Rattle.ssh_wire.specs.declared.error.EncodingFault.{EncodingFault}
use Rattle.ssh_wire.specs.declared.error.EncodingFault.TheVariants.{CharacterEncoding, Length}
use Rattle.ssh_wire.specs.declared.error.Error.{Error}
use Rattle.ssh_wire.specs.declared.error.Error.TheVariants.{Memory, SshEncoding}

-- what is wrong with a name: it has no character or one that isn't ASCII, or else over 255 bytes
abbrev pub name_fault : List ℕ → Option EncodingFault
name_fault name =
    if not (is_name name) then Some CharacterEncoding
    else if nat_lt 255 (length name) then Some Length
    else None

-- a name that has no fault
pub record IsServiceName (name : List ℕ) : Type 0 where
  pub no_fault : name_fault name ≡ None

-- what a text with such a fault is refused for; memory may be wanting
abbrev pub IsNamedBy : Option EncodingFault → List ℕ → Result (List ℕ) Error → Type 0
IsNamedBy None text (Ok name) = name ≡ text
IsNamedBy None text (Err e) = e ≡ Memory
IsNamedBy (Some fault) text (Ok name) = ⊥
IsNamedBy (Some fault) text (Err e) = e ≡ SshEncoding fault

-- a text became a name
abbrev pub IsNamed : List ℕ → Result (List ℕ) Error → Type 0
IsNamed text result = IsNamedBy (name_fault text) text result

-- what was read, unless it has a fault
abbrev pub unless_fault : {A : Type 0} → Option EncodingFault → A → Result A EncodingFault
unless_fault None x = Ok x
unless_fault (Some fault) x = Err fault

-- a name at the front of bytes, as a string, and the bytes behind it
unfoldable pub name_at : List ℕ → Result (List ℕ × List ℕ) EncodingFault
name_at bytes = string_at bytes >>= λ s. unless_fault (name_fault s.0) s

name-example : name_fault (codes "ssh-userauth") ≡ None
name-example = refl

empty-example : name_fault [] ≡ Some CharacterEncoding
empty-example = refl

wide-example : name_fault (0xc3 ∷ 0xa9 ∷ []) ≡ Some CharacterEncoding
wide-example = refl
