-- What the words of a line say.
use Rattle.std.specs.Prelude.{◌≡◌, ℕ, ◌^◌, ◌==◌, ◌||◌, ◌&&◌, nat_lt, Bool, not, refl, if◌then◌else◌, List, [], ◌∷◌, length, slice_index, codes, Option, Some, None, Result, Ok, Err}
use Rattle.std.specs.Result.{result_ok}
use Rattle.std.specs.Str.{bytes_eq, all_ascii_digits}
use Rattle.std.specs.Str.Parse.{digits_value}
use Rattle.hex.specs.Hex.{decode_of, decode_pairs}
use Rattle.ssh_wire.specs.declared.side.Side.{Side}
use Rattle.ssh_wire.specs.declared.side.Side.TheVariants.{Client, Server}
use Rattle.ssh_lines.specs.Lines.{is_filled}
use Rattle.ssh_lines.specs.declared.script.ScriptKind.{ScriptKind}
use Rattle.ssh_lines.specs.declared.script.ScriptKind.TheVariants.{Malformed}

-- SIDE
abbrev pub side_of : List ℕ → Option Side
side_of word =
    if bytes_eq word (codes "client") then Some Client
    else if bytes_eq word (codes "server") then Some Server
    else None

-- HEX: `-` for no bytes, or an even number of hex digits of either case
abbrev pub hex_of : List ℕ → Option (List ℕ)
hex_of word = if bytes_eq word (codes "-") then Some [] else result_ok (decode_of word)

-- N: decimal digits without a leading zero
abbrev pub is_number : List ℕ → Bool
is_number word = is_filled word && (all_ascii_digits word && ((length word == 1) || not (slice_index word 0 == 48)))

-- N, below 2^64
abbrev pub number_of : List ℕ → Option ℕ
number_of word = if is_number word && nat_lt (digits_value 10 word) (2 ^ 64) then Some (digits_value 10 word) else None

-- N of at most 65536
abbrev pub size_from : Option ℕ → Option ℕ
size_from None = None
size_from (Some n) = if nat_lt 65536 n then None else Some n

abbrev pub size_of : List ℕ → Option ℕ
size_of word = size_from (number_of word)

-- one word that is read
abbrev pub from_word : {X : Type 0} → (List ℕ → Option X) → List (List ℕ) → Option X
from_word read [] = None
from_word read (word ∷ []) = read word
from_word read (word ∷ more ∷ words) = None

abbrev pub both : {X Y Z : Type 0} → (X → Y → Z) → Option X → Option Y → Option Z
both make None y = None
both make (Some x) None = None
both make (Some x) (Some y) = Some (make x y)

-- two words that are read
abbrev pub from_two : {X Y Z : Type 0} → (X → Y → Z) → (List ℕ → Option X) → (List ℕ → Option Y) → List (List ℕ) → Option Z
from_two make first second [] = None
from_two make first second (a ∷ []) = None
from_two make first second (a ∷ b ∷ []) = both make (first a) (second b)
from_two make first second (a ∷ b ∷ more ∷ words) = None

abbrev pub all_three : {X Y Z W : Type 0} → (X → Y → Z → W) → Option X → Option Y → Option Z → Option W
all_three make None y z = None
all_three make (Some x) None z = None
all_three make (Some x) (Some y) None = None
all_three make (Some x) (Some y) (Some z) = Some (make x y z)

-- three words that are read
abbrev pub from_three : {X Y Z W : Type 0} → (X → Y → Z → W) → (List ℕ → Option X) → (List ℕ → Option Y) → (List ℕ → Option Z) → List (List ℕ) → Option W
from_three make first second third [] = None
from_three make first second third (a ∷ []) = None
from_three make first second third (a ∷ b ∷ []) = None
from_three make first second third (a ∷ b ∷ c ∷ []) = all_three make (first a) (second b) (third c)
from_three make first second third (a ∷ b ∷ c ∷ more ∷ words) = None

-- a form's words make something, or are wrong
abbrev pub form_makes : {X : Type 0} → Option X → Result X ScriptKind
form_makes None = Err Malformed
form_makes (Some made) = Ok made

abbrev pub side_with : Side → List ℕ → Side × List ℕ
side_with side bytes = (side, bytes)

-- SIDE HEX
abbrev pub side_bytes : List (List ℕ) → Option (Side × List ℕ)
side_bytes words = from_two side_with side_of hex_of words

abbrev pub side_and : Side → ℕ → Side × ℕ
side_and side n = (side, n)

-- SIDE N
abbrev pub side_number : List (List ℕ) → Option (Side × ℕ)
side_number words = from_two side_and side_of number_of words

zero-example : number_of (codes "01") ≡ None
zero-example = refl

hex-example : hex_of (codes "0aFf") ≡ Some (10 ∷ 255 ∷ [])
unfolding decode_pairs
hex-example = refl
