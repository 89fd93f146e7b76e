-- How values look on the wire (RFC 4251 section 5).
use Rattle.std.specs.Prelude.{◌≡◌, ℕ, ◌+◌, ◌*◌, ◌^◌, ◌<◌, ◌==◌, nat_lt, if◌then◌else◌, List, [], ◌∷◌, ◌++◌, length, slice_index, refl}
use Rattle.std.specs.Int.{w32, to_be_bytes}
use Rattle.std.specs.List.{join_with_byte}

abbrev pub AreBytes : List ℕ → Type 0
AreBytes bytes = (i : ℕ) → slice_index bytes i < 256

-- uint32: four bytes, the most significant first
abbrev pub u32be : ℕ → List ℕ
u32be n = to_be_bytes w32 n

-- string: its length as a uint32, then its bytes
abbrev pub string : List ℕ → List ℕ
string bytes = u32be (length bytes) ++ bytes

-- the number that bytes spell, the most significant first
abbrev pub number : List ℕ → ℕ
number [] = 0
number (b ∷ rest) = b * 256 ^ length rest + number rest

-- bytes without the zero bytes at their front
abbrev pub magnitude : List ℕ → List ℕ
magnitude [] = []
magnitude (b ∷ rest) = if b == 0 then magnitude rest else b ∷ rest

-- a number that isn't negative: its first bit is not set
abbrev pub unsigned : List ℕ → List ℕ
unsigned [] = []
unsigned (b ∷ rest) = if nat_lt b 128 then b ∷ rest else 0 ∷ b ∷ rest

-- mpint: a string of the fewest bytes of two's complement that spell the number; none for zero
abbrev pub mpint : List ℕ → List ℕ
mpint bytes = string (unsigned (magnitude bytes))

-- the names joined by commas
abbrev pub joined_names : List (List ℕ) → List ℕ
joined_names names = join_with_byte 44 names

-- name-list: a string of names joined by commas
abbrev pub name_list : List (List ℕ) → List ℕ
name_list names = string (joined_names names)

u32be-example : u32be 699921578 ≡ 0x29 ∷ 0xb7 ∷ 0xf4 ∷ 0xaa ∷ []
u32be-example = refl

string-example : string (116 ∷ 101 ∷ 115 ∷ []) ≡ 0 ∷ 0 ∷ 0 ∷ 3 ∷ 116 ∷ 101 ∷ 115 ∷ []
string-example = refl

number-example : number (0x01 ∷ 0x00 ∷ 0xff ∷ []) ≡ 0x0100ff
number-example = refl

-- the mpints of the section's table that aren't negative
zero-example : mpint (0 ∷ 0 ∷ []) ≡ 0 ∷ 0 ∷ 0 ∷ 0 ∷ []
zero-example = refl

mpint-example : mpint (0x09 ∷ 0xa3 ∷ 0x78 ∷ 0xf9 ∷ 0xb2 ∷ 0xe3 ∷ 0x32 ∷ 0xa7 ∷ []) ≡ 0 ∷ 0 ∷ 0 ∷ 8 ∷ 0x09 ∷ 0xa3 ∷ 0x78 ∷ 0xf9 ∷ 0xb2 ∷ 0xe3 ∷ 0x32 ∷ 0xa7 ∷ []
mpint-example = refl

sign-example : mpint (0x80 ∷ []) ≡ 0 ∷ 0 ∷ 0 ∷ 2 ∷ 0x00 ∷ 0x80 ∷ []
sign-example = refl

name_list-example : name_list ((122 ∷ []) ∷ (110 ∷ []) ∷ []) ≡ 0 ∷ 0 ∷ 0 ∷ 3 ∷ 122 ∷ 44 ∷ 110 ∷ []
name_list-example = refl
