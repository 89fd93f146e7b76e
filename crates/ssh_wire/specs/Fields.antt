-- The forms of RFC 4251 section 5 at the front of bytes: the value and the bytes behind it, or the fault.
use Rattle.std.specs.Prelude.{◌≡◌, ℕ, ◌&&◌, ◌||◌, nat_lt, nat_le, Bool, true, if◌then◌else◌, List, [], ◌∷◌, ◌++◌, length, take, drop, Result, Ok, Err, ◌⊎◌, refl}
use Rattle.std.specs.Int.{w32, from_be_bytes}
use Rattle.std.specs.Str.{is_utf8}
use Rattle.ssh_wire.specs.Forms.{magnitude, mpint, string}
use Rattle.ssh_wire.specs.declared.error.EncodingFault.{EncodingFault}
use Rattle.ssh_wire.specs.declared.error.EncodingFault.TheVariants.{Length, CharacterEncoding, MpintEncoding}
use Rattle.ssh_wire.specs.declared.error.Error.{Error}
use Rattle.ssh_wire.specs.declared.error.Error.TheVariants.{SshEncoding, Memory}

-- what follows a read; the first fault decides
infixl 10 ◌>>=◌
abbrev pub ◌>>=◌ : {A B : Type 0} → Result A EncodingFault → (A → Result B EncodingFault) → Result B EncodingFault
(Ok x) >>= f = f x
(Err e) >>= f = Err e

abbrev pub byte_at : List ℕ → Result (ℕ × List ℕ) EncodingFault
byte_at [] = Err Length
byte_at (b ∷ rest) = Ok (b, rest)

unfoldable pub u32_at : List ℕ → Result (ℕ × List ℕ) EncodingFault
u32_at bytes = if nat_lt (length bytes) 4 then Err Length else Ok (from_be_bytes w32 (take 4 bytes), drop 4 bytes)

-- so many bytes
abbrev pub body_at : ℕ → List ℕ → Result (List ℕ × List ℕ) EncodingFault
body_at n bytes = if nat_lt (length bytes) n then Err Length else Ok (take n bytes, drop n bytes)

unfoldable pub string_at : List ℕ → Result (List ℕ × List ℕ) EncodingFault
string_at bytes = u32_at bytes >>= λ size. body_at size.0 size.1

unfoldable pub text_at : List ℕ → Result (List ℕ × List ℕ) EncodingFault
text_at bytes = string_at bytes >>= λ s. if is_utf8 s.0 then Ok s else Err CharacterEncoding

-- a text of at most so many bytes
unfoldable pub limited_at : ℕ → List ℕ → Result (List ℕ × List ℕ) EncodingFault
limited_at most bytes =
    string_at bytes >>= λ s. if nat_lt most (length s.0) then Err Length else if is_utf8 s.0 then Ok s else Err CharacterEncoding

-- the first bit isn't set, and a zero byte at the front stands before one whose first bit is
abbrev pub is_shortest : List ℕ → Bool
is_shortest [] = true
is_shortest (b ∷ []) = nat_lt 0 b && nat_lt b 128
is_shortest (b ∷ c ∷ rest) = nat_lt b 128 && (nat_lt 0 b || nat_le 128 c)

unfoldable pub mpint_at : List ℕ → Result (List ℕ × List ℕ) EncodingFault
mpint_at bytes = string_at bytes >>= λ s. if is_shortest s.0 then Ok (magnitude s.0, s.1) else Err MpintEncoding

-- a form that was found, its value seen by `view`, and the bytes behind it
abbrev pub FindsForm : {X Y R : Type 0} → (X → Y) → (R → List ℕ) → Result (Y × List ℕ) EncodingFault
    → Result (X × R) EncodingFault → Type 0
FindsForm view bytes read (Ok x) = read ≡ Ok (view x.0, bytes x.1)
FindsForm view bytes read (Err e) = read ≡ Err e

-- a fault as it is answered
abbrev pub answer_of : {Y : Type 0} → Result Y EncodingFault → Result Y Error
answer_of (Ok y) = Ok y
answer_of (Err f) = Err (SshEncoding f)

-- what was made of a text, its value seen by `view`, unless memory is wanting
abbrev pub Gives : {X Y : Type 0} → (X → Y) → Result Y EncodingFault → Result X Error → Type 0
Gives view read (Ok x) = read ≡ Ok (view x)
Gives view read (Err e) = (e ≡ Memory) ⊎ (answer_of read ≡ Err e)

-- what is made where memory isn't wanting
abbrev pub IsMadeInMemory : {X Y : Type 0} → (X → Y) → Y → Result X Error → Type 0
IsMadeInMemory view y (Ok x) = view x ≡ y
IsMadeInMemory view y (Err e) = e ≡ Memory

-- A read at the front of `old`, its value seen by `view`. A refusal takes nothing.
abbrev pub TakesForm : {X Y : Type 0} → (X → Y) → Result (Y × List ℕ) EncodingFault → List ℕ → Result X Error → List ℕ
    → Type 0
TakesForm view read old (Ok x) new = read ≡ Ok (view x, new)
TakesForm view read old (Err e) new = (answer_of read ≡ Err e) × (new ≡ old)

-- the same of a read that takes memory
abbrev pub TakesFormInMemory : {X Y : Type 0} → (X → Y) → Result (Y × List ℕ) EncodingFault → List ℕ → Result X Error
    → List ℕ → Type 0
TakesFormInMemory view read old (Ok x) new = read ≡ Ok (view x, new)
TakesFormInMemory view read old (Err e) new = ((e ≡ Memory) ⊎ (answer_of read ≡ Err e)) × (new ≡ old)

-- what was read where this value stood before these bytes
abbrev pub IsRead : {X Y : Type 0} → (X → Y) → Y → List ℕ → Result X Error → List ℕ → Type 0
IsRead view y rest (Ok x) new = (view x ≡ y) × (new ≡ rest)
IsRead view y rest (Err e) new = ⊥

-- the same of a read that takes memory
abbrev pub IsReadInMemory : {X Y : Type 0} → (X → Y) → Y → List ℕ → Result X Error → List ℕ → Type 0
IsReadInMemory view y rest (Ok x) new = (view x ≡ y) × (new ≡ rest)
IsReadInMemory view y rest (Err e) new = e ≡ Memory

string-example : string_at (0 ∷ 0 ∷ 0 ∷ 1 ∷ 97 ∷ 98 ∷ []) ≡ Ok (97 ∷ [], 98 ∷ [])
unfolding string_at u32_at
string-example = refl

cut-example : string_at (0 ∷ 0 ∷ 0 ∷ 2 ∷ 97 ∷ []) ≡ Err Length
unfolding string_at u32_at
cut-example = refl

mpint-example : mpint_at (mpint (0x80 ∷ []) ++ 98 ∷ []) ≡ Ok (0x80 ∷ [], 98 ∷ [])
unfolding mpint_at string_at u32_at
mpint-example = refl

unneeded-example : mpint_at (string (0x00 ∷ 0x7f ∷ [])) ≡ Err MpintEncoding
unfolding mpint_at string_at u32_at
unneeded-example = refl

negative-example : mpint_at (string (0x80 ∷ [])) ≡ Err MpintEncoding
unfolding mpint_at string_at u32_at
negative-example = refl
