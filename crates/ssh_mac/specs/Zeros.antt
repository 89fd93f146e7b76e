-- Zero bytes behind a list.
use Rattle.std.specs.Prelude.{◌≡◌, ℕ, ◌-◌, ◌≤◌, List, ◌++◌, length, take, drop, replicate}
use Rattle.std.proofs.Common.{arith, length-take-le, take-append-drop}

-- n zero bytes
unfoldable pub zeros : ℕ → List ℕ
zeros n = replicate n 0

-- a front with zeros behind it is the list again, where zeros stood there
pub refilled : (n : ℕ) (xs : List ℕ) → n ≤ 64 → length xs ≡ 64 → drop n xs ≡ zeros (64 - n) → take n xs ++ zeros (64 - length (take n xs)) ≡ xs
refilled n xs short len rest =
    rw (length-take-le n xs (omega arith), ← rest) (take-append-drop n xs)
