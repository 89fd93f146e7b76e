-- A text cut at its first separator.
use Rattle.std.proofs.Common.{◌≡◌, ℕ, zero, suc, ◌+◌, ◌-◌, ◌<◌, Bool, true, false, List, [], ◌∷◌, length, take, drop, get_or, refl, sym, ap, ◌∙◌, arith, if◌then◌else◌, nat_eq}
use Rattle.std.proofs.lemmas.Bool.{eq-eqb, eqb-true}
use Rattle.std.proofs.lemmas.Grind.{common_steps}
use Rattle.ssh_lines.specs.Lines.{pieces, onto_first}

-- no byte before index n is the separator
abbrev pub IsFreeBelow : ℕ → List ℕ → ℕ → Type 0
IsFreeBelow separator text n = (k : ℕ) → k < n → get_or text k 0 ≡ separator → ⊥

free_rest : (separator b : ℕ) (text : List ℕ) (n : ℕ) → IsFreeBelow separator (b ∷ text) (suc n) → IsFreeBelow separator text n
free_rest separator b text n h = λ k below e. h (suc k) (omega arith) e

behind_byte : (t : Bool) (b : ℕ) (cuts : List (List ℕ)) (piece : List ℕ) (more : List (List ℕ)) → (t ≡ true → ⊥) → cuts ≡ piece ∷ more → (if t then [] ∷ cuts else onto_first b cuts) ≡ (b ∷ piece) ∷ more
behind_byte true b cuts piece more h e = absurd (h refl)
behind_byte false b cuts piece more h e = ap (onto_first b) e

behind_free : (separator b : ℕ) (text : List ℕ) (n : ℕ) (piece : List ℕ) (more : List (List ℕ)) → IsFreeBelow separator (b ∷ text) (suc n) → pieces separator text ≡ piece ∷ more → pieces separator (b ∷ text) ≡ (b ∷ piece) ∷ more
behind_free separator b text n piece more h e = behind_byte (nat_eq b separator) b (pieces separator text) piece more (λ is. h 0 (omega arith) (eqb-true b separator is)) e

pub pieces-at : (separator : ℕ) (text : List ℕ) (n : ℕ) → IsFreeBelow separator text n → n < length text → get_or text n 0 ≡ separator → pieces separator text ≡ take n text ∷ pieces separator (drop (suc n) text)
pieces-at separator [] n h within at = absurd (omega arith)
pieces-at separator (b ∷ text) zero h within at = rw (eq-eqb b separator at) refl
pieces-at separator (b ∷ text) (suc n) h within at =
    behind_free separator b text n (take n text) (pieces separator (drop (suc n) text)) h (pieces-at separator text n (free_rest separator b text n h) (omega arith) at)

pub pieces-none : (separator : ℕ) (text : List ℕ) → IsFreeBelow separator text (length text) → pieces separator text ≡ text ∷ []
pieces-none separator [] h = refl
pieces-none separator (b ∷ text) h =
    behind_free separator b text (length text) text [] h (pieces-none separator text (free_rest separator b text (length text) h))

rest_whole : (text : List ℕ) (n : ℕ) → take (length text - (n + 1)) (drop (n + 1) text) ≡ drop (suc n) text
rest_whole text n = grind (arith, common_steps)

-- the same, as a range of the text names what stands behind the separator
pub pieces-cut : (separator : ℕ) (text : List ℕ) (n : ℕ) → IsFreeBelow separator text n → n < length text → get_or text n 0 ≡ separator → pieces separator text ≡ take n text ∷ pieces separator (take (length text - (n + 1)) (drop (n + 1) text))
pieces-cut separator text n h within at =
    pieces-at separator text n h within at ∙ ap (λ rest. take n text ∷ pieces separator rest) (sym (rest_whole text n))
