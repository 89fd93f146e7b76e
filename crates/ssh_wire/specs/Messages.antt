-- What contracts of messages need that are made of the forms of RFC 4251 section 5: one field of several, all of them,
-- and what was written of them.
use Rattle.std.specs.Prelude.{◌≡◌, ℕ, List, [], ◌∷◌, ◌++◌, Result, Ok, Err, ◌⊎◌, refl}
use Rattle.ssh_wire.specs.Fields.{◌>>=◌, Gives, answer_of, byte_at}
use Rattle.ssh_wire.specs.declared.error.EncodingFault.{EncodingFault}
use Rattle.ssh_wire.specs.declared.error.EncodingFault.TheVariants.{TrailingData}
use Rattle.ssh_wire.specs.declared.error.Error.{Error}
use Rattle.ssh_wire.specs.declared.error.Error.TheVariants.{Memory}

-- A read at the front of bytes, its value seen by `view`, and the bytes after it, unless there was no memory. Nothing
-- is said of the reader after an error, as its caller doesn't use it again.
abbrev pub ReadsFront : {X Y : Type 0} → (X → Y) → Result (Y × List ℕ) EncodingFault → Result X Error → List ℕ → Type 0
ReadsFront view read (Ok x) new = read ≡ Ok (view x, new)
ReadsFront view read (Err e) new = (e ≡ Memory) ⊎ (answer_of read ≡ Err e)

-- a value, if no bytes follow it
abbrev pub all_of : {A : Type 0} → A → List ℕ → Result A EncodingFault
all_of x [] = Ok x
all_of x (b ∷ rest) = Err TrailingData

-- a value that was read, if no bytes follow it
abbrev pub whole : {A : Type 0} → Result (A × List ℕ) EncodingFault → Result A EncodingFault
whole read = read >>= λ x. all_of x.0 x.1

-- a read of all bytes, its value seen by `view`, unless there was no memory
abbrev pub ReadsWhole : {X Y : Type 0} → (X → Y) → Result (Y × List ℕ) EncodingFault → Result X Error → Type 0
ReadsWhole view read result = Gives view (whole read) result

-- the new list is the old one, with what may have been appended
abbrev pub Grows : {A : Type 0} → List A → List A → Type 0
Grows {A = A} old new = (more : List A) × (new ≡ old ++ more)

whole-example : whole (byte_at (5 ∷ [])) ≡ Ok 5
whole-example = refl

trailing-example : whole (byte_at (5 ∷ 0 ∷ [])) ≡ Err TrailingData
trailing-example = refl
