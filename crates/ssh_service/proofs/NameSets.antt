-- A set of names after one was taken up.
use Rattle.std.proofs.Common.{◌≡◌, ◌||◌, ℕ, Bool, true, false, List, [], ◌∷◌, ◌++◌, refl, sym, ◌∙◌, ap, subst}
use Rattle.std.proofs.lemmas.Map.Text.{is_eq-slice_cmp}
use Rattle.std.specs.BTreeSet.{BTreeSet, UpdatesBy, contains_by}
use Rattle.std.specs.Cmp.{eq_by_cmp_equiv}
use Rattle.std.specs.Cmp.Lexicographic.{slice_cmp, bytes_decides, nat_list_cmp_total, nat_list_eq_equiv}
use Rattle.std.specs.List.{list_any}
use Rattle.std.specs.Map.{IsKeyTest, AreApart}
use Rattle.std.specs.Ordering.{is_eq, nat_cmp}
use Rattle.std.specs.Set.{KeepsOthers}
use Rattle.std.specs.Str.{bytes_eq}
use Rattle.ssh_service.specs.Answers.{has_name}
use Rattle.ssh_service.specs.NameSets.{AreIn, is_in}
use Rattle.ssh_service.specs.declared.name_set.NameSet.{NameSet}
use Rattle.ssh_service.proofs.StandsLaws.{any_more}

-- what another test finds
others_kept : {K : Type 0} (eq : K → K → Bool) (test : K → Bool) (old new : List K) → KeepsOthers eq test old new → (other : K → Bool) → IsKeyTest eq other → AreApart test other → list_any other new ≡ list_any other old
unfolding KeepsOthers
others_kept eq test old new h = h

apart : (bs cs ks : List ℕ) → bytes_eq bs cs ≡ false → is_eq (slice_cmp nat_cmp bs ks) ≡ true → is_eq (slice_cmp nat_cmp cs ks) ≡ false
apart bs cs ks n y = is_eq-slice_cmp cs ks ∙ (nat_list_eq_equiv.symm cs ks ∙ sym (nat_list_eq_equiv.congr bs ks cs (sym (is_eq-slice_cmp bs ks) ∙ y)) ∙ n)

-- The keys are read by their bytes.
pub name_added : {K : Type 0} (bytes : K → List ℕ) (old new : BTreeSet K) (bs cs : List ℕ) → UpdatesBy (λ x y. slice_cmp nat_cmp (bytes x) (bytes y)) (λ k. slice_cmp nat_cmp bs (bytes k)) old new true
    → contains_by (λ k. slice_cmp nat_cmp cs (bytes k)) new ≡ (bytes_eq bs cs || contains_by (λ k. slice_cmp nat_cmp cs (bytes k)) old)
name_added bytes old new bs cs h = by (bytes_eq bs cs) refl where
  by : (b : Bool) → bytes_eq bs cs ≡ b → contains_by (λ k. slice_cmp nat_cmp cs (bytes k)) new ≡ (b || contains_by (λ k. slice_cmp nat_cmp cs (bytes k)) old)
  by true y = subst (λ l. contains_by (λ k. slice_cmp nat_cmp l (bytes k)) new ≡ true) ((bytes_decides bs cs).0 y) h.1
  by false n = others_kept _ _ _ _ h.3 _ (λ x y. (eq_by_cmp_equiv nat_list_cmp_total).congr cs (bytes x) (bytes y)) (λ k. apart bs cs (bytes k) n)

or_swap : (a b : Bool) → (a || b) ≡ (b || a)
or_swap true true = refl
or_swap true false = refl
or_swap false true = refl
or_swap false false = refl

-- one name more, behind those that are in a set
pub in_more : (old new : NameSet) (names : List (List ℕ)) (name : List ℕ) → AreIn old names → ((other : List ℕ) → is_in new other ≡ (bytes_eq name other || is_in old other)) → AreIn new (names ++ name ∷ [])
in_more old new names name are more other =
    more other ∙ ap (λ t. bytes_eq name other || t) (are other) ∙ or_swap (bytes_eq name other) (has_name other names) ∙ sym (any_more (λ n. bytes_eq n other) names name)
