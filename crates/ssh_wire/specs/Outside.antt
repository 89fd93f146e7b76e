-- What is known of a source and of a sink: a count of faults, and bytes where they are told.
use Rattle.std.specs.Prelude.{◌≡◌, ℕ, ◌+◌, ◌-◌, ◌^◌, ◌≤◌, ◌<◌, nat_lt, if◌then◌else◌, List, ◌++◌, [], length, take, drop, min, Option, Some, IfSome}

-- a count that rose; one that stands at its end counts as risen
abbrev pub Rose : ℕ → ℕ → Type 0
Rose before now = min (before + 1) (2 ^ 64 - 1) ≤ now

-- one more, of a count that stops at its end
abbrev pub next_count : ℕ → ℕ
next_count n = if nat_lt n (2 ^ 64 - 1) then n + 1 else n

-- the next n bytes were taken, and stand at the front of the buffer
abbrev pub TakesNext : ℕ → List ℕ → Option (List ℕ) → Option (List ℕ) → Type 0
TakesNext n buffer old new = IfSome old (λ left. (n ≤ length left) × (take n buffer ≡ take n left) × (new ≡ Some (drop n left)))

-- where the bytes are told, none are left
abbrev pub IsAtEnd : Option (List ℕ) → Type 0
IsAtEnd left = IfSome left (λ bytes. bytes ≡ [])

-- these bytes went behind those that were held
abbrev pub Appends : List ℕ → Option (List ℕ) → Option (List ℕ) → Type 0
Appends bytes old new = IfSome old (λ held. new ≡ Some (held ++ bytes))

-- these bytes are the front of what was left, where that is told; the rest stays
abbrev pub TakesFront : List ℕ → Option (List ℕ) → Option (List ℕ) → Type 0
TakesFront bytes old new = IfSome old (λ left. (rest : List ℕ) × (left ≡ bytes ++ rest) × (new ≡ Some rest))

-- some front of at most so many bytes was taken
abbrev pub TakesAtMost : ℕ → Option (List ℕ) → Option (List ℕ) → Type 0
TakesAtMost most old new = (bytes : List ℕ) × (length bytes ≤ most) × TakesFront bytes old new

-- none is left, where it was told what was left
abbrev pub ReachesEnd : Option (List ℕ) → Option (List ℕ) → Type 0
ReachesEnd old new = IfSome old (λ left. new ≡ Some [])

-- some front of the text went behind what was held
abbrev pub AppendsFront : List ℕ → Option (List ℕ) → Option (List ℕ) → Type 0
AppendsFront text old new = (n : ℕ) × (n ≤ length text) × Appends (take n text) old new

-- at least one byte of a piece that isn't empty, and no more than it has
abbrev pub IsPartOf : ℕ → ℕ → Type 0
IsPartOf size n = (n ≤ size) × (0 < size → 0 < n)
