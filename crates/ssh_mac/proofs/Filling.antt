-- A list whose front was written over.
use Rattle.std.proofs.Common.{◌≡◌, ℕ, ◌-◌, ◌≤◌, List, ◌++◌, length, drop, ap, ◌∙◌, arith, length-append}
use Rattle.std.proofs.lemmas.List.{length-replicate, drop-replicate}
use Rattle.std.proofs.lemmas.Slice.{drop-append-drop}
use Rattle.ssh_mac.specs.Zeros.{zeros}

-- zeros without their front
pub zeros-dropped : (n k : ℕ) → drop k (zeros n) ≡ zeros (n - k)
unfolding zeros
zeros-dropped n k = drop-replicate k n 0

pub length-zeros : (n : ℕ) → length (zeros n) ≡ n
unfolding zeros
length-zeros n = length-replicate n 0

-- zeros whose front was written over: the same length, and zeros behind the front
pub filled : (n : ℕ) (bytes front : List ℕ) → front ≡ bytes → length bytes ≤ n →
    (length bytes ≤ n) × (length (front ++ drop (length bytes) (zeros n)) ≡ n) × (drop (length bytes) (front ++ drop (length bytes) (zeros n)) ≡ zeros (n - length bytes))
filled n bytes front same short =
    let rest = zeros-dropped n (length bytes) in
    let long = ap length same in (
      short,
      omega (arith, length-append front (drop (length bytes) (zeros n)), long, ap length rest, length-zeros (n - length bytes)),
      drop-append-drop (length bytes) (zeros n) front (length bytes) (omega arith) long ∙ rest,
    )
