-- What is counted of parts, and a part that refuses one of its calls.
use Rattle.std.specs.Prelude.{◌≡◌, ℕ, ◌+◌, ◌<◌, ◌≤◌, ◌==◌, ◌&&◌, ◌||◌, nat_lt, Bool, true, false, slice_index, Option, Result, Ok, Err}
use Rattle.ssh_wire.specs.Outside.{next_count}
use Rattle.ssh_kex.specs.Parts.{Setup}
use Rattle.ssh_kex.specs.declared.group.DhGroup.{DhGroup}
use Rattle.ssh_kex.specs.declared.parts.Refusal.{Refusal}
use Rattle.ssh_kex.specs.declared.parts.Refusal.TheVariants.{Refused, Memory}
use Rattle.ssh_vectors.specs.declared.refusing.Refusing.{Refusing}

-- a count that is raised, or not
abbrev pub raised : Bool → ℕ → ℕ
raised true count = next_count count
raised false count = count

-- whether the answer is a refusal
abbrev pub is_refused : {T : Type 0} → Result T Refusal → Bool
is_refused (Ok x) = false
is_refused (Err Refused) = true
is_refused (Err Memory) = false

-- whether the call behind so many is the one that is refused; behind a count at its end no call is
abbrev pub is_due : ℕ → ℕ → Bool
is_due refuse_at calls = calls + 1 == refuse_at

-- whether the next call is refused here
abbrev pub refuses_next : {T : Type 0} → Refusing T → Bool
refuses_next v = is_due v.refuse_at v.calls

-- what a call with this place among the trait's calls leaves of the counts: one call more, and where it was refused
-- here one refusal more at its place; the inner part wasn't asked then
pub record CountsCall {T : Type 0} (place : ℕ) (old new : Refusing T) : Type 0 where
  pub calls : new.calls ≡ next_count old.calls
  pub refuse_at : new.refuse_at ≡ old.refuse_at
  pub refused : slice_index new.refusals place ≡ raised (refuses_next old) (slice_index old.refusals place)
  pub others : (i : ℕ) → (i ≡ place → ⊥) → slice_index new.refusals i ≡ slice_index old.refusals i
  pub unasked : refuses_next old ≡ true → new.inner ≡ old.inner

-- the refusals of a trait with one count: those here, over all places, and the inner part's
abbrev pub refusals_with : {T : Type 0} → (T → ℕ) → Refusing T → ℕ
refusals_with inner v =
    slice_index v.refusals 0 + (slice_index v.refusals 1 + (slice_index v.refusals 2 + inner v.inner))

-- the refusals of the call with this place: those here, and the inner part's
abbrev pub refusals_at : {T : Type 0} → ℕ → (T → ℕ) → Refusing T → ℕ
refusals_at place inner v = slice_index v.refusals place + inner v.inner

-- it keeps the laws that its inner part keeps
abbrev pub Within : {T : Type 0} → (T → Setup → Type 0) → Refusing T → Setup → Type 0
Within inner v s = inner v.inner s

-- the call that it refuses is one of those between two of its states
abbrev pub RefusesBetween : {T : Type 0} → Refusing T → Refusing T → Type 0
RefusesBetween v later = (v.calls < v.refuse_at) × (v.refuse_at ≤ later.calls)

-- and obliges as its inner part does, where it refuses no call between them
abbrev pub Obliges : {T : Type 0} → (T → T → Setup → Type 0) → Refusing T → Refusing T → Setup → Type 0
Obliges inner v later s = inner v.inner later.inner s × (RefusesBetween v later → ⊥)

-- and so an agreement in a group
abbrev pub ObligesIn : {T : Type 0} → (T → T → Setup → Option DhGroup → Type 0) → Refusing T → Refusing T → Setup → Option DhGroup → Type 0
ObligesIn inner v later s group = inner v.inner later.inner s group × (RefusesBetween v later → ⊥)

-- Whether it may have answered so many calls, where it refuses that of the known number, or where 0 is no call's number:
-- there were as many calls, and all came before that one.
abbrev pub answered_before : {T : Type 0} → Refusing T → ℕ → ℕ → Bool
answered_before v known n = known == 0 || (v.refuse_at == known && v.calls == n && nat_lt v.calls known)
