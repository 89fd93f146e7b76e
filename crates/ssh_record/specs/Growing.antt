-- One step more of a run: what is asked of the moment behind it. A loop over the steps decides this one step at a time.
use Rattle.std.specs.Prelude.{◌≡◌, ◌⊎◌, ℕ, suc, ◌+◌, ◌<◌, ◌≤◌, List, [], ◌∷◌, ◌++◌, length, slice_get, Bool, false, Option, Some, None}
use Rattle.ssh_wire.specs.declared.side.Side.{Side}
use Rattle.ssh_wire.specs.declared.side.Side.TheVariants.{Client, Server}
use Rattle.ssh_rules.specs.Marks.{Half, kexinits}
use Rattle.ssh_rules.specs.Run.{Effect, IsMoment, Moment, OwnCause, WrittenAt, finished_at_rekey, mark_of, own_of, theirs_of}
use Rattle.ssh_rules.specs.declared.link.Mark.{Mark}
use Rattle.ssh_rules.specs.declared.link.Step.{Step}
use Rattle.ssh_rules.specs.declared.link.Step.TheVariants.{Rekey}

-- how many exchanges were finished at a side's last rekey among some steps
abbrev pub rekeyed : Side → Option ℕ → List Step → List Mark → Option ℕ
rekeyed side before [] marks = before
rekeyed side before (step ∷ steps) [] = before
rekeyed side before (step ∷ steps) (m ∷ marks) = rekeyed side (finished_at_rekey side step m before) steps marks

-- each exchange that the side began in step j has a cause
abbrev pub CausesAt : List Step → List Moment → Half → Half → ℕ → Type 0
CausesAt steps moments half other j = (k : ℕ) → 1 ≤ k → WrittenAt moments half.side k j →
    OwnCause steps moments half k j
    ⊎ ((after : Moment) × (slice_get moments (suc j) ≡ Some after) × (k < kexinits (theirs_of half.side after))
    × (i : ℕ) × WrittenAt moments other.side k i × OwnCause steps moments other k i)

-- Behind these steps, with these moments, of which `last` is the last: one step more leads to this moment.
pub record RunGoesOn (kind : Bool) (client server : Half) (steps : List Step) (front : List Moment) (last : Moment) (marks : List Mark) (step : Step) (after : Moment) : Type 0 where
  pub moment : IsMoment kind client server after
  pub effect : Effect step (finished_at_rekey Client step last.mark (rekeyed Client None steps marks)) (finished_at_rekey Server step last.mark (rekeyed Server None steps marks)) last.mark after.mark
  pub begins : (s : Side) → step ≡ Rekey s → (mark_of s last.mark).inside ≡ false → kexinits (own_of s after) ≡ kexinits (own_of s last) + 1
  pub client_causes : CausesAt (steps ++ step ∷ []) ((front ++ last ∷ []) ++ after ∷ []) client server (length steps)
  pub server_causes : CausesAt (steps ++ step ∷ []) ((front ++ last ∷ []) ++ after ∷ []) server client (length steps)
