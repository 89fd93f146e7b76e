-- Extension info: the extensions that a side tells (RFC 8308 section 2.3).
use Rattle.std.specs.Prelude.{◌≡◌, ℕ, zero, suc, ◌⊎◌, ◌≤◌, ◌<◌, nat_lt, if◌then◌else◌, List, [], ◌∷◌, ◌++◌, length, codes, Option, Some, None, Result, Ok, Err, refl}
use Rattle.std.specs.Str.{bytes_eq, is_utf8}
use Rattle.ssh_wire.specs.Fields.{◌>>=◌, answer_of, string_at, u32_at}
use Rattle.ssh_wire.specs.Forms.{string}
use Rattle.ssh_wire.specs.Names.{names_of}
use Rattle.ssh_wire.specs.declared.error.EncodingFault.{EncodingFault}
use Rattle.ssh_wire.specs.declared.error.EncodingFault.TheVariants.{CharacterEncoding, Length}
use Rattle.std.specs.Option.{option_map}
use Rattle.ssh_wire.specs.declared.name_list.NameList.{NameList}
use Rattle.ssh_wire.specs.declared.error.Error.{Error}
use Rattle.ssh_wire.specs.declared.error.Error.TheVariants.{Memory, SshEncoding}
use Rattle.ssh_service.specs.ServiceNames.{IsServiceName, name_at}
use Rattle.ssh_service.specs.declared.info.Extension.{Extension}

-- how many extensions may be told, and how long a value may be
abbrev pub most_extensions : ℕ
most_extensions = 16

abbrev pub longest_value : ℕ
longest_value = 8192

-- an extension that may be told
pub record IsExtension (e : Extension) : Type 0 where
  pub name : IsServiceName e.name
  pub value : length e.value ≤ longest_value

-- each of them may be
abbrev pub AllExtensions : List Extension → Type 0
AllExtensions [] = Unit {0}
AllExtensions (e ∷ es) = IsExtension e × AllExtensions es

-- what may stand in one message
pub record AreExtensions (es : List Extension) : Type 0 where
  pub few : length es ≤ most_extensions
  pub each : AllExtensions es

-- why no extension with this value can be added: 16 are there, or the value is too long; memory may be wanting
abbrev pub CannotPush : List Extension → List ℕ → Error → Type 0
CannotPush es value e = (e ≡ Memory)
    ⊎ ((e ≡ SshEncoding Length) × ((most_extensions ≤ length es) ⊎ (longest_value < length value)))

-- how an extension is spelled: string name, string value
abbrev pub extension : Extension → List ℕ
extension e = string e.name ++ string e.value

-- a value at the front of bytes
unfoldable pub value_at : List ℕ → Result (List ℕ × List ℕ) EncodingFault
value_at bytes = string_at bytes >>= λ s. if nat_lt longest_value (length s.0) then Err Length else Ok s

-- an extension at the front of bytes
unfoldable pub extension_at : List ℕ → Result (Extension × List ℕ) EncodingFault
extension_at bytes =
    name_at bytes >>= λ name. value_at name.1 >>= λ value. Ok (record { name = name.0; value = value.0 }, value.1)

-- so many extensions at the front of bytes
abbrev pub extensions_at : ℕ → List ℕ → Result (List Extension × List ℕ) EncodingFault
extensions_at zero bytes = Ok ([], bytes)
extensions_at (suc n) bytes = extension_at bytes >>= λ e. extensions_at n e.1 >>= λ more. Ok (e.0 ∷ more.0, more.1)

-- their number as a uint32, and then they; a number over 16 is refused before any is read
unfoldable pub info_at : List ℕ → Result (List Extension × List ℕ) EncodingFault
info_at bytes =
    u32_at bytes >>= λ count. if nat_lt most_extensions count.0 then Err Length else extensions_at count.0 count.1

-- the first value under a name
abbrev pub value_of : List ℕ → List Extension → Option (List ℕ)
value_of name [] = None
value_of name (e ∷ es) = if bytes_eq e.name name then Some e.value else value_of name es

-- the names in a value
abbrev pub names_in_value : List ℕ → Result (List (List ℕ)) EncodingFault
names_in_value value = if is_utf8 value then names_of value else Err CharacterEncoding

-- the names in the value that was found
abbrev pub algorithms_of : Option (List ℕ) → Result (Option (List (List ℕ))) EncodingFault
algorithms_of None = Ok None
algorithms_of (Some value) = names_in_value value >>= λ names. Ok (Some names)

-- the signature algorithms that a server tells (RFC 8308 section 3.1)
abbrev pub told_algorithms : List Extension → Result (Option (List (List ℕ))) EncodingFault
told_algorithms es = algorithms_of (value_of (codes "server-sig-algs") es)

-- what was made of them, unless memory is wanting
abbrev pub TellsAlgorithms : Result (Option (List (List ℕ))) EncodingFault → Result (Option NameList) Error → Type 0
TellsAlgorithms told (Ok names) = told ≡ Ok (option_map (λ l. l.0.items) names)
TellsAlgorithms told (Err e) = (e ≡ Memory) ⊎ (answer_of told ≡ Err e)

value-example : value_of (codes "b")
    (record { name = codes "a"; value = [] } ∷ record { name = codes "b"; value = codes "c" } ∷ []) ≡ Some (codes "c")
value-example = refl

none-example : told_algorithms (record { name = codes "x"; value = codes "y" } ∷ []) ≡ Ok None
none-example = refl
