-- What a text is without the CR and LF at its end, from its last byte.
use Rattle.std.proofs.Common.{◌≡◌, ℕ, true, false, List, [], ◌∷◌, ◌++◌, refl, ap, ◌∙◌}
use Rattle.ssh_wire.specs.Lines.{is_line_end, before_trimmed_rest, without_line_ends}

pub trimmed-end : (front : List ℕ) (b : ℕ) → is_line_end b ≡ true → without_line_ends (front ++ b ∷ []) ≡ without_line_ends front
trimmed-end [] b h = rw h refl
trimmed-end (x ∷ front) b h = ap (before_trimmed_rest x) (trimmed-end front b h)

before_some : (x b : ℕ) (front : List ℕ) → before_trimmed_rest x (front ++ b ∷ []) ≡ x ∷ (front ++ b ∷ [])
before_some x b [] = refl
before_some x b (y ∷ front) = refl

pub trimmed-text : (front : List ℕ) (b : ℕ) → is_line_end b ≡ false → without_line_ends (front ++ b ∷ []) ≡ front ++ b ∷ []
trimmed-text [] b h = rw h refl
trimmed-text (x ∷ front) b h = ap (before_trimmed_rest x) (trimmed-text front b h) ∙ before_some x b front
