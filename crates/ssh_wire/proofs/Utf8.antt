-- A text is UTF-8 exactly where std reads it so.
use Rattle.std.proofs.Common.{◌≡◌, ℕ, Bool, true, false, List, Result, Ok, Err, MatchResult, is_ok, refl, sym}
use Rattle.std.proofs.lemmas.Str.{IsUtf8-from_is_utf8, is_utf8-from_IsUtf8}
use Rattle.std.specs.Str.{IsUtf8, is_utf8}

refuted : (b : Bool) → (b ≡ true → ⊥) → false ≡ b
refuted true h = absurd (h refl)
refuted false h = refl

pub is_utf8-by_reading : {A E : Type 0} (F : A → Type 0) (G : E → Type 0) (bytes : List ℕ) (r : Result A E) → MatchResult r (λ x. F x × IsUtf8 bytes) (λ e. ¬ (IsUtf8 bytes) × G e) → is_ok r ≡ is_utf8 bytes
is_utf8-by_reading F G bytes (Ok x) h = sym (is_utf8-from_IsUtf8 bytes h.1)
is_utf8-by_reading F G bytes (Err e) h = refuted (is_utf8 bytes) (λ t. h.0 (IsUtf8-from_is_utf8 bytes t))
