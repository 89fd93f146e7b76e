-- Version lines (RFC 4253 section 4.2).
use Rattle.std.specs.Prelude.{◌≡◌, ℕ, zero, suc, ◌+◌, ◌-◌, ◌==◌, ◌||◌, ◌&&◌, nat_lt, nat_le, nat_eq, Bool, if◌then◌else◌, List, [], ◌∷◌, ◌++◌, length, take, drop, codes, Option, Some, None, slice_index, refl}
use Rattle.std.specs.List.{starts_with}
use Rattle.std.specs.Str.{is_utf8, chars}
use lib.Utf8.{encode}
use Rattle.ssh_wire.specs.declared.ssh_id.SshId.{SshId}
use Rattle.ssh_wire.specs.declared.ssh_id.SshId.TheVariants.{Standard, Raw}

-- CR LF
abbrev pub line_ending : List ℕ
line_ending = 13 ∷ 10 ∷ []

-- the line as it is sent
abbrev pub id_line : SshId → List ℕ
id_line (Standard text) = text ++ line_ending
id_line (Raw text) = text

abbrev pub is_line_end : ℕ → Bool
is_line_end b = (b == 13) || (b == 10)

-- a byte before the rest of a text whose end is trimmed
abbrev pub before_trimmed_rest : ℕ → List ℕ → List ℕ
before_trimmed_rest b [] = if is_line_end b then [] else b ∷ []
before_trimmed_rest b (c ∷ rest) = b ∷ c ∷ rest

-- a text without all CR and LF at its end
abbrev pub without_line_ends : List ℕ → List ℕ
without_line_ends [] = []
without_line_ends (b ∷ rest) = before_trimmed_rest b (without_line_ends rest)

-- the text that the exchange hash takes (RFC 4253 section 8)
abbrev pub id_text : SshId → List ℕ
id_text (Standard text) = text
id_text (Raw text) = without_line_ends text

-- behind the first LF of bytes that stand from place `at` on
abbrev pub lf_end : ℕ → List ℕ → Option ℕ
lf_end at [] = None
lf_end at (b ∷ rest) = if b == 10 then Some (at + 1) else lf_end (at + 1) rest

-- where the first line ends: behind the first LF that isn't its first byte
abbrev pub line_end : List ℕ → Option ℕ
line_end [] = None
line_end (b ∷ rest) = lf_end 1 rest

-- a text without a CR at its end
abbrev pub without_cr : List ℕ → List ℕ
without_cr text = if slice_index text (length text - 1) == 13 then take (length text - 1) text else text

-- a line without its LF, and a CR directly before it
abbrev pub line_text : List ℕ → List ℕ
line_text line = without_cr (take (length line - 1) line)

-- a text that names the protocol, as this version or as one that speaks it too (RFC 4253 section 5.1)
abbrev pub is_id_text : List ℕ → Bool
is_id_text text = (starts_with nat_eq text (codes "SSH-2.0-") || starts_with nat_eq text (codes "SSH-1.99-")) && is_utf8 text

-- the greatest length of a line with its ending, in bytes
abbrev pub longest_line : ℕ
longest_line = 255

-- how many other lines may stand before the id line where they are allowed
abbrev pub other_line_limit : ℕ
other_line_limit = 20

-- the first line of bytes: an id's, with its text; an other line; too long; or not ended. Lines have their length
pub data Line : Type 0 where
  Unfinished : Line
  IdLine : (text : List ℕ) (end : ℕ) → Line
  OtherLine : (end : ℕ) → Line
  TooLong : Line

-- the first line, by where it ends
abbrev pub line_to : List ℕ → Option ℕ → Line
line_to bytes None = if nat_le longest_line (length bytes) then TooLong else Unfinished
line_to bytes (Some n) =
    if nat_lt longest_line n then TooLong
    else if is_id_text (line_text (take n bytes)) then IdLine (line_text (take n bytes)) n
    else OtherLine n

-- the first line of bytes
abbrev pub line_of : List ℕ → Line
line_of bytes = line_to bytes (line_end bytes)

-- what bytes begin with: an id line's text and its length with what stands before it; less than that; or neither
pub data IdFound : Type 0 where
  NotYet : IdFound
  Id : (text : List ℕ) (end : ℕ) → IdFound
  Version : IdFound

-- what was found behind a line of n bytes
abbrev pub found_behind : ℕ → IdFound → IdFound
found_behind n NotYet = NotYet
found_behind n (Id text end) = Id text (n + end)
found_behind n Version = Version

-- what the first line decides; what an other line of n bytes leads to is `other n`
abbrev pub found_by_line : (ℕ → IdFound) → Line → IdFound
found_by_line other Unfinished = NotYet
found_by_line other (IdLine text end) = Id text end
found_by_line other (OtherLine end) = other end
found_by_line other TooLong = Version

-- what the bytes begin with, where so many other lines may stand before the id line
abbrev pub id_of : ℕ → List ℕ → IdFound
id_of zero bytes = found_by_line (λ n. Version) (line_of bytes)
id_of (suc others) bytes = found_by_line (λ n. found_behind n (id_of others (drop n bytes))) (line_of bytes)

-- less than a line of the least length
short-example : id_of 0 (codes "SSH-2.0-") ≡ NotYet
short-example = refl

id-example : id_of 0 (codes "SSH-2.0-x" ++ line_ending ++ codes "ab") ≡ Id (codes "SSH-2.0-x") 11
unfolding is_utf8 chars encode
id-example = refl

-- an LF at the front belongs to the line behind it
lone-example : id_of 0 (10 ∷ codes "SSH-2.0-x" ++ line_ending) ≡ Version
lone-example = refl

other-example : id_of 1 (codes "hi" ++ 10 ∷ codes "SSH-2.0-x" ++ 10 ∷ []) ≡ Id (codes "SSH-2.0-x") 13
unfolding is_utf8 chars encode
other-example = refl

version-example : id_of 0 (codes "hi" ++ line_ending) ≡ Version
version-example = refl
