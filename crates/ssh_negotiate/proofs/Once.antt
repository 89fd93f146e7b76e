-- Each once, where it stands first.
use Rattle.std.proofs.Common.{◌≡◌, ℕ, ◌+◌, ◌<◌, List, [], ◌∷◌, ◌++◌, length, take, get_or, Bool, true, false, not, ◌||◌, if◌then◌else◌, refl, sym, ap, ◌∙◌}
use Rattle.std.specs.Prelude.{filter}
use Rattle.std.specs.List.{list_any}
use Rattle.std.specs.Str.{bytes_eq}
use Rattle.std.proofs.lemmas.List.Elements.{filter-append}
use Rattle.std.proofs.lemmas.List.{take_more}
use Rattle.ssh_wire.specs.Algorithms.{algorithm_name}
use Rattle.ssh_wire.specs.declared.algorithm.Algorithm.{Algorithm}
use Rattle.ssh_negotiate.specs.Advertised.{each_once, is_other}
use Rattle.ssh_negotiate.proofs.Choices.{same_text}

-- what passes is kept
any_kept : {A : Type 0} (p q : A → Bool) (ys : List A) → ((y : A) → p y ≡ true → q y ≡ true) → list_any p (filter q ys) ≡ list_any p ys
any_kept p q [] h = refl
any_kept {A} p q (y ∷ ys) h = by (p y) refl (q y) refl (any_kept p q ys h) where
  by : (b : Bool) → p y ≡ b → (c : Bool) → q y ≡ c → list_any p (filter q ys) ≡ list_any p ys → list_any p (if c then y ∷ filter q ys else filter q ys) ≡ (b || list_any p ys)
  by true e true f later = ap (λ b. b || list_any p (filter q ys)) e
  by true e false f later = let t : q y ≡ true = h y e in cc
  by false e true f later = ap (λ b. b || list_any p (filter q ys)) e ∙ later
  by false e false f later = later

unless : Bool → Algorithm → List Algorithm
unless true a = []
unless false a = a ∷ []

-- one more at the end
once_more : (xs : List Algorithm) (a : Algorithm) → each_once (xs ++ a ∷ []) ≡ each_once xs ++ unless (list_any (λ n. bytes_eq (algorithm_name n) (algorithm_name a)) (each_once xs)) a
unfolding unless
once_more [] a = refl
once_more (x ∷ rest) a =
    ap (λ l. x ∷ filter (is_other x) l) (once_more rest a)
    ∙ (ap (λ l. x ∷ l) (filter-append (is_other x) (each_once rest) (unless (list_any (λ n. bytes_eq (algorithm_name n) (algorithm_name a)) (each_once rest)) a))
    ∙ ap (λ l. x ∷ (filter (is_other x) (each_once rest) ++ l)) (by (bytes_eq (algorithm_name x) (algorithm_name a)) refl (list_any (λ n. bytes_eq (algorithm_name n) (algorithm_name a)) (each_once rest)) refl))
  where
    kept : bytes_eq (algorithm_name x) (algorithm_name a) ≡ false → list_any (λ n. bytes_eq (algorithm_name n) (algorithm_name a)) (filter (is_other x) (each_once rest)) ≡ list_any (λ n. bytes_eq (algorithm_name n) (algorithm_name a)) (each_once rest)
    kept e = any_kept (λ n. bytes_eq (algorithm_name n) (algorithm_name a)) (is_other x) (each_once rest) (λ n h. ap not (ap (bytes_eq (algorithm_name x)) (same_text (algorithm_name n) (algorithm_name a) h) ∙ e))

    by : (b : Bool) → bytes_eq (algorithm_name x) (algorithm_name a) ≡ b → (c : Bool) → list_any (λ n. bytes_eq (algorithm_name n) (algorithm_name a)) (each_once rest) ≡ c → filter (is_other x) (unless c a) ≡ unless (bytes_eq (algorithm_name x) (algorithm_name a) || list_any (λ n. bytes_eq (algorithm_name n) (algorithm_name a)) (filter (is_other x) (each_once rest))) a
    by true e true f = ap (λ b. unless (b || list_any (λ n. bytes_eq (algorithm_name n) (algorithm_name a)) (filter (is_other x) (each_once rest))) a) (sym e)
    by true e false f =
        ap (λ b. if not b then a ∷ [] else []) e
        ∙ ap (λ b. unless (b || list_any (λ n. bytes_eq (algorithm_name n) (algorithm_name a)) (filter (is_other x) (each_once rest))) a) (sym e)
    by false e true f =
        ap (λ b. unless b a) (sym (kept e ∙ f))
        ∙ ap (λ b. unless (b || list_any (λ n. bytes_eq (algorithm_name n) (algorithm_name a)) (filter (is_other x) (each_once rest))) a) (sym e)
    by false e false f =
        ap (λ b. if not b then a ∷ [] else []) e
        ∙ (ap (λ b. unless b a) (sym (kept e ∙ f))
        ∙ ap (λ b. unless (b || list_any (λ n. bytes_eq (algorithm_name n) (algorithm_name a)) (filter (is_other x) (each_once rest))) a) (sym e))

-- what stands there already changes nothing
pub once_there : (xs : List Algorithm) (a : Algorithm) → list_any (λ n. bytes_eq (algorithm_name n) (algorithm_name a)) (each_once xs) ≡ true → each_once (xs ++ a ∷ []) ≡ each_once xs
unfolding unless
once_there xs a e = once_more xs a ∙ (ap (λ b. each_once xs ++ unless b a) e ∙ nothing (each_once xs)) where
  nothing : (ys : List Algorithm) → ys ++ [] ≡ ys
  nothing [] = refl
  nothing (y ∷ ys) = ap (λ l. y ∷ l) (nothing ys)

pub once_new : (xs : List Algorithm) (a : Algorithm) → list_any (λ n. bytes_eq (algorithm_name n) (algorithm_name a)) (each_once xs) ≡ false → each_once (xs ++ a ∷ []) ≡ each_once xs ++ a ∷ []
unfolding unless
once_new xs a e = once_more xs a ∙ ap (λ b. each_once xs ++ unless b a) e

-- one step of the walk over a list
pub step_there : (names once list after : List Algorithm) (i : ℕ) (d : Algorithm) → i < length names → list ≡ once → once ≡ each_once (take i names) → true ≡ list_any (λ n. bytes_eq (algorithm_name n) (algorithm_name (get_or names i d))) list → after ≡ once → after ≡ each_once (take (i + 1) names)
step_there names once list after i d h same is there e =
    e ∙ (is ∙ sym (ap each_once (take_more names i d h) ∙ once_there (take i names) (get_or names i d) (sym (there ∙ ap (list_any (λ n. bytes_eq (algorithm_name n) (algorithm_name (get_or names i d)))) (same ∙ is)))))

pub step_new : (names once list after : List Algorithm) (i : ℕ) (d : Algorithm) → i < length names → list ≡ once → once ≡ each_once (take i names) → false ≡ list_any (λ n. bytes_eq (algorithm_name n) (algorithm_name (get_or names i d))) list → after ≡ once ++ get_or names i d ∷ [] → after ≡ each_once (take (i + 1) names)
step_new names once list after i d h same is there e =
    e ∙ (ap (λ l. l ++ get_or names i d ∷ []) is ∙ sym (ap each_once (take_more names i d h) ∙ once_new (take i names) (get_or names i d) (sym (there ∙ ap (list_any (λ n. bytes_eq (algorithm_name n) (algorithm_name (get_or names i d)))) (same ∙ is)))))
