-- The names that both sides take.
use Rattle.std.proofs.Common.{◌≡◌, ℕ, List, length, refl, sym, ◌∙◌, ap, Bool, false, Result, Ok, Err, Option, Some, None, if◌then◌else◌}
use Rattle.ssh_negotiate.proofs.Lemmas.{names_agree}
use Rattle.ssh_negotiate.specs.Advertised.{Offers, kexinit}
use Rattle.ssh_negotiate.specs.Chosen.{◌>>=◌, or_err, chosen_names}
use Rattle.ssh_negotiate.specs.Laws.{IsWithin, side_answer, kept_strict}
use Rattle.ssh_negotiate.specs.Reading.{names_read}
use Rattle.ssh_negotiate.specs.declared.negotiation.Names.{Names}
use Rattle.ssh_wire.specs.declared.error.AlgorithmKind.{AlgorithmKind}
use Rattle.ssh_wire.specs.declared.side.Side.TheVariants.{Client, Server}
use Rattle.ssh_kex.specs.Setting.{held_names, behind_guess}

-- no choice is to be ignored
abbrev Plainly : Result Names AlgorithmKind → Type 0
Plainly (Ok n) = n.ignore_guessed ≡ false
Plainly (Err kind) = Unit {0}

bound : {A : Type 0} (kind : AlgorithmKind) (o : Option A) (f : A → Result Names AlgorithmKind) → ((a : A) → Plainly (f a)) → Plainly (or_err kind o >>= f)
unfolding or_err ◌>>=◌
bound kind None f h = tt
bound kind (Some a) f h = h a

chosen_plain : (c s : Offers) → Plainly (chosen_names c s)
unfolding chosen_names
chosen_plain c s = bound _ _ _ (λ kex. bound _ _ _ (λ host. bound _ _ _ (λ cipher. bound _ _ _ (λ mac. bound _ _ _ (λ compression. refl)))))

told_one : (still : Bool) (c s : Offers) (r : Result Names AlgorithmKind) (n m : Names) → Plainly r → side_answer still c s r ≡ Ok n → side_answer still s c r ≡ Ok m → (n ≡ m) × (n.ignore_guessed ≡ false)
told_one still c s (Ok k) n m p e f =
    let first : kept_strict still k ≡ n = cc in
    let second : kept_strict still k ≡ m = cc in
    (sym first ∙ second, sym (ap (λ (x : Names). x.ignore_guessed) first) ∙ p)
told_one still c s (Err kind) n m p e f = cc

-- both sides read the same names, and none is to be ignored
pub one_names : (c s : Offers) (still : Bool) (k l : List ℕ) (n m : Names) → IsWithin c → IsWithin s → length k ≡ 16 → length l ≡ 16 → names_read Client c still (kexinit s k) ≡ Ok n → names_read Server s still (kexinit c l) ≡ Ok m → (n ≡ m) × (n.ignore_guessed ≡ false)
one_names c s still k l n m wc ws hk hl e f = told_one still c s (chosen_names c s) n m (chosen_plain c s) (sym ((names_agree c s still k wc ws hk).0) ∙ e) (sym ((names_agree c s still l wc ws hl).1) ∙ f)

pub held_plain : (n : Names) → n.ignore_guessed ≡ false → held_names n ≡ n
held_plain n h = ap (λ b. if b then behind_guess n else n) h
