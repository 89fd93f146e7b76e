-- The payloads that steps submit.
use Rattle.std.specs.Prelude.{ℕ, List, ◌∷◌, Option, Some, None}

-- those of a step before others
abbrev pub with_submit : Option (List ℕ) → List (List ℕ) → List (List ℕ)
with_submit None behind = behind
with_submit (Some payload) behind = payload ∷ behind
