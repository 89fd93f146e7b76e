-- What is counted of parts.
use Rattle.std.specs.Prelude.{◌≡◌, ℕ, Result}
use Rattle.ssh_wire.specs.Outside.{next_count}
use Rattle.ssh_kex.specs.Parts.{IsRefused}
use Rattle.ssh_kex.specs.declared.parts.Refusal.{Refusal}

-- how often a part was asked, and how often it refused
pub record Counts : Type 0 where
  pub calls : ℕ
  pub refusals : ℕ

-- after one call more: its answer is counted where it is a refusal, and nothing else is
pub record CountsAnswer {T : Type 0} (old new : Counts) (result : Result T Refusal) : Type 0 where
  pub calls : new.calls ≡ next_count old.calls
  pub refused : IsRefused result → new.refusals ≡ next_count old.refusals
  pub answered : (IsRefused result → ⊥) → new.refusals ≡ old.refusals
