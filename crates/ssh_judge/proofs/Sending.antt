-- How much both sides had sent, at one mark and at all.
use Rattle.std.proofs.Common.{◌≡◌, ℕ, zero, suc, ◌+◌, List, [], ◌∷◌, ◌++◌, length, take, map, Option, Some, None, Bor, refl, sym, ap, subst, ◌∙◌, arith}
use Rattle.std.specs.List.{slice_get}
use Rattle.std.specs.Option.{option_copied}
use Rattle.std.specs.Slice.{IsItemAt}
use Rattle.std.proofs.lemmas.List.{map-append}
use Rattle.std.proofs.lemmas.Option.{slice_get_read}
use Rattle.ssh_rules.specs.declared.link.Mark.{Mark}
use Rattle.ssh_record.specs.Runs.{sent_at}
use Rattle.ssh_record.specs.declared.recording.SentPair.{SentPair}

take_more : {A : Type 0} (xs : List A) (n : ℕ) (x : A) → slice_get xs n ≡ Some x → take n xs ++ x ∷ [] ≡ take (suc n) xs
take_more [] n x e = cc
take_more (y ∷ ys) zero x e = let g : y ≡ x = cc in ap (λ z. z ∷ []) (sym g)
take_more (y ∷ ys) (suc n) x e = ap (λ zs. y ∷ zs) (take_more ys n x e)

-- the marks so far have the first lengths of the record
abbrev pub AreSent : List Mark → List SentPair → ℕ → Type 0
AreSent marks sent n = map sent_at marks ≡ take n sent

-- a lent pair of lengths is one of the list
lent_at : (sent : List SentPair) (i : ℕ) (lent : Option (Bor SentPair)) (p : SentPair) → IsItemAt sent i lent → option_copied lent ≡ Some p → slice_get sent i ≡ Some p
lent_at sent i None p h e = cc
lent_at sent i (Some x) p h e = slice_get_read sent (length sent) i x.now refl h.3.0 h.1 ∙ e

-- one mark more
sent_more : (marks : List Mark) (sent : List SentPair) (n : ℕ) (m : Mark) → AreSent marks sent n → slice_get sent n ≡ Some (sent_at m) → AreSent (marks ++ m ∷ []) sent (suc n)
sent_more marks sent n m are e = map-append sent_at marks (m ∷ []) ∙ (ap (λ xs. xs ++ sent_at m ∷ []) are ∙ take_more sent n (sent_at m) e)

-- the mark before the first step
pub first_sent : (marks : List Mark) (now sent : List SentPair) (m : Mark) (lent : Option (Bor SentPair)) → now ≡ sent → option_copied lent ≡ slice_get now 0 → option_copied lent ≡ Some (sent_at m) → marks ≡ m ∷ [] → AreSent marks sent 1
first_sent marks now sent m lent same at e one = ap (map sent_at) one ∙ sent_more [] sent 0 m refl (ap (λ xs. slice_get xs 0) (sym same) ∙ (sym at ∙ e))

-- the mark behind a step more
pub step_more : (marks marks' : List Mark) (now sent : List SentPair) (n behind : ℕ) (m : Mark) (lent : Option (Bor SentPair)) → AreSent marks sent (suc n) → behind ≡ suc n → now ≡ sent → IsItemAt now behind lent → option_copied lent ≡ Some (sent_at m) → marks' ≡ marks ++ m ∷ [] → AreSent marks' sent (suc (n + 1))
step_more marks marks' now sent n behind m lent are is same at e more =
    let put : slice_get sent (suc n) ≡ Some (sent_at m) = subst (λ k. slice_get sent k ≡ Some (sent_at m)) is (subst (λ xs. slice_get xs behind ≡ Some (sent_at m)) same (lent_at now behind lent (sent_at m) at e)) in
    let one : n + 1 ≡ suc n = omega arith in
    ap (map sent_at) more ∙ (sent_more marks sent (suc n) m are put ∙ ap (λ k. take (suc k) sent) (sym one))
