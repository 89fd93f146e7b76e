-- Name lists as text (RFC 4251 section 5, name-list).
use Rattle.std.specs.Prelude.{◌≡◌, ℕ, ◌+◌, ◌-◌, ◌==◌, ◌&&◌, ◌<◌, ◌≤◌, nat_lt, nat_le, not, Bool, true, false, if◌then◌else◌, List, [], ◌∷◌, length, take, slice_index, codes, Option, Some, None, Result, Ok, Err, All, refl}
use Rattle.std.specs.List.{slice_split, list_all}
use Rattle.ssh_wire.specs.Fields.{◌>>=◌, limited_at}
use Rattle.ssh_wire.specs.declared.error.EncodingFault.{EncodingFault}
use Rattle.ssh_wire.specs.declared.error.EncodingFault.TheVariants.{Length, CharacterEncoding}

-- how many names a list may have
abbrev pub name_limit : ℕ
name_limit = 1024

-- how many bytes a list may have as text
abbrev pub name_list_limit : ℕ
name_list_limit = 16384

abbrev pub is_comma : ℕ → Bool
is_comma b = b == 44

-- a text without one comma at its end, where something stands before it
abbrev pub without_last_comma : List ℕ → List ℕ
without_last_comma text = if nat_lt 1 (length text) && is_comma (slice_index text (length text - 1)) then take (length text - 1) text else text

-- at least one character, and each of them ASCII
abbrev pub is_name : List ℕ → Bool
is_name name = nat_lt 0 (length name) && list_all (λ b. nat_lt b 128) name

-- what is wrong with a name that stands behind so many
abbrev pub fault_of : ℕ → List ℕ → Option EncodingFault
fault_of before name =
    if not (is_name name) then Some CharacterEncoding
    else if nat_le name_limit before then Some Length
    else None

abbrev pub or_later : Option EncodingFault → Option EncodingFault → Option EncodingFault
or_later (Some f) later = Some f
or_later None later = later

-- the first fault of names that stand behind so many
abbrev pub first_fault : ℕ → List (List ℕ) → Option EncodingFault
first_fault before [] = None
first_fault before (name ∷ names) = or_later (fault_of before name) (first_fault (before + 1) names)

abbrev pub unless_faulty : Option EncodingFault → List (List ℕ) → Result (List (List ℕ)) EncodingFault
unless_faulty None names = Ok names
unless_faulty (Some f) names = Err f

-- names, or their first fault
abbrev pub names_or_fault : List (List ℕ) → Result (List (List ℕ)) EncodingFault
names_or_fault names = unless_faulty (first_fault 0 names) names

-- the names of a text that is cut at its commas; the empty text is no names
abbrev pub names_of : List ℕ → Result (List (List ℕ)) EncodingFault
names_of [] = Ok []
names_of (b ∷ rest) = names_or_fault (slice_split is_comma (without_last_comma (b ∷ rest)))

-- the name list at the front of bytes
unfoldable pub names_at : List ℕ → Result (List (List ℕ) × List ℕ) EncodingFault
names_at bytes = limited_at name_list_limit bytes >>= λ text. names_of text.0 >>= λ names. Ok (names, text.1)

-- a name that can stand in a list
pub record IsName (name : List ℕ) : Type 0 where
  pub some : 0 < length name
  pub ascii : All (λ b. nat_lt b 128 ≡ true) name
  pub no_comma : All (λ b. is_comma b ≡ false) name

pub record AreNames (names : List (List ℕ)) : Type 0 where
  pub each : All IsName names
  pub count : length names ≤ name_limit

names-example : names_of (codes "a,b,") ≡ Ok (codes "a" ∷ codes "b" ∷ [])
names-example = refl

empty-example : names_of (codes "a,,b") ≡ Err CharacterEncoding
empty-example = refl

comma-example : names_of (codes ",") ≡ Err CharacterEncoding
comma-example = refl

wide-example : names_of (97 ∷ 44 ∷ 0xc3 ∷ 0xa9 ∷ []) ≡ Err CharacterEncoding
wide-example = refl

limit-example : fault_of 1023 (codes "a") ≡ None
limit-example = refl

past-example : fault_of 1024 (codes "a") ≡ Some Length
past-example = refl
