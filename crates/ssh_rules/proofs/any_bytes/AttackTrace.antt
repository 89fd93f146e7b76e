-- The trace of one side of an attacked run: one step more, and what earlier parts say of it.
use Rattle.std.proofs.Common.{◌≡◌, ℕ, List, [], ◌∷◌, ◌++◌, refl, sym, subst, Bool, true, false}
use Rattle.std.specs.Prelude.{Result, Ok, Err}
use Rattle.ssh_wire.specs.Sides.{same_side}
use Rattle.ssh_wire.specs.declared.error.Error.{Error}
use Rattle.ssh_wire.specs.declared.side.Side.{Side}
use Rattle.ssh_rules.specs.Asking.{AsksAtMost, PartCalls, kex_count}
use Rattle.ssh_rules.specs.Attacking.{AttackedEnd, AttacksEnd, AttacksSide, FeedsBy, FeedsEnd, OwnStep, RekeysBy, SubmitsBy, Tells}
use Rattle.ssh_rules.specs.Log.{handled}
use Rattle.ssh_rules.specs.Refusing.{RefusesPieceAsking}
use Rattle.ssh_rules.specs.Standing.{Rekeyed, Standing, Submitted, TakesInput}
use Rattle.ssh_rules.specs.declared.link.AttackStep.{AttackStep}
use Rattle.ssh_rules.specs.declared.link.AttackStep.TheVariants.{Submit, Feed, Rekey}

-- one step more
pub one_more : (t : Tells) (side : Side) (steps : List AttackStep) (answers : List (Result (Unit {0}) Error)) (step : AttackStep) (a : Result (Unit {0}) Error) (old mid new : AttackedEnd) → AttacksSide t side steps answers old mid → AttacksEnd t side step a mid new → AttacksSide t side (steps ++ step ∷ []) (answers ++ a ∷ []) old new
one_more t side [] [] step a old mid new h g = (new, subst (λ x. AttacksEnd t side step a x new) h g, refl)
one_more t side [] (b ∷ answers) step a old mid new h g = absurd h
one_more t side (s ∷ steps) [] step a old mid new h g = absurd h
one_more t side (s ∷ steps) (b ∷ answers) step a old mid new h g = (h.0, h.1, one_more t side steps answers step a h.0 mid new h.2 g)

-- what the second says and denies wherever the first does
pub record Lifts (t u : Tells) : Type 0 where
  pub input : (old : Standing) (bytes : List ℕ) (new : Standing) → (i : TakesInput t.says old bytes new) → (j : TakesInput u.says old bytes new) × (j.events ≡ i.events)
  pub piece : (old : Standing) (bytes : List ℕ) (e : Error) (new : Standing) (n n' : PartCalls) → RefusesPieceAsking t.says t.denies t.untrusted old bytes e new n n' → RefusesPieceAsking u.says u.denies u.untrusted old bytes e new n n'
  pub submitted : (old : Standing) (payload : List ℕ) (new : Standing) → Submitted t.says old payload new → Submitted u.says old payload new
  pub rekeyed : (old new : Standing) → Rekeyed t.says old new → Rekeyed u.says old new

submits_lifted : (t u : Tells) (failed : Bool) (old : AttackedEnd) (p : List ℕ) (a : Result (Unit {0}) Error) (new : AttackedEnd) → Lifts t u → SubmitsBy failed t old p a new → SubmitsBy failed u old p a new
submits_lifted t u true old p a new l h = h
submits_lifted t u false old p (Ok x) new l h = record { good = h.good; call = l.submitted old.transport p new.transport h.call; taken = h.taken; delivered = h.delivered; calls = h.calls }
submits_lifted t u false old p (Err e) new l h = h

rekeys_lifted : (t u : Tells) (failed : Bool) (old : AttackedEnd) (a : Result (Unit {0}) Error) (new : AttackedEnd) → Lifts t u → RekeysBy failed t old a new → RekeysBy failed u old a new
rekeys_lifted t u true old a new l h = h
rekeys_lifted t u false old (Ok x) new l h = record { call = l.rekeyed old.transport new.transport h.call; taken = h.taken; delivered = h.delivered; calls = h.calls }
rekeys_lifted t u false old (Err e) new l h = h

feeds_lifted : (t u : Tells) (failed : Bool) (old : AttackedEnd) (bytes : List ℕ) (a : Result (Unit {0}) Error) (new : AttackedEnd) → Lifts t u → FeedsBy failed t old bytes a new → FeedsBy failed u old bytes a new
feeds_lifted t u true old bytes a new l h = h
feeds_lifted t u false old bytes (Ok x) new l h =
    let j = l.input old.transport bytes h.0 h.1 in
    (h.0, j.0, h.2, subst (λ es. AsksAtMost (kex_count (handled es)) old.calls new.calls) (sym j.1) h.3)
feeds_lifted t u false old bytes (Err e) new l h = (h.0, l.piece old.transport bytes e h.0 old.calls new.calls h.1, h.2, h.3)

feed_lifted : (t u : Tells) (old : AttackedEnd) (bytes : List ℕ) (a : Result (Unit {0}) Error) (new : AttackedEnd) → Lifts t u → FeedsEnd t old bytes a new → FeedsEnd u old bytes a new
feed_lifted t u old bytes a new l h = record { bytes_are = h.bytes_are; taken = h.taken; does = feeds_lifted t u old.transport.failed old bytes a new l h.does }

own_lifted : (b : Bool) (P Q R : Type 0) → (P → Q) → OwnStep b P R → OwnStep b Q R
own_lifted true P Q R f h = f h
own_lifted false P Q R f h = h

pub end_lifted : (t u : Tells) (side : Side) (step : AttackStep) (a : Result (Unit {0}) Error) (old new : AttackedEnd) → Lifts t u → AttacksEnd t side step a old new → AttacksEnd u side step a old new
end_lifted t u side (Submit s p) a old new l h = own_lifted (same_side s side) _ _ _ (submits_lifted t u old.transport.failed old p a new l) h
end_lifted t u side (Feed s bytes) a old new l h = own_lifted (same_side s side) _ _ _ (feed_lifted t u old bytes a new l) h
end_lifted t u side (Rekey s) a old new l h = own_lifted (same_side s side) _ _ _ (rekeys_lifted t u old.transport.failed old a new l) h

pub trace_lifted : (t u : Tells) (side : Side) (steps : List AttackStep) (answers : List (Result (Unit {0}) Error)) (old new : AttackedEnd) → Lifts t u → AttacksSide t side steps answers old new → AttacksSide u side steps answers old new
trace_lifted t u side [] [] old new l h = h
trace_lifted t u side [] (a ∷ answers) old new l h = h
trace_lifted t u side (s ∷ steps) [] old new l h = h
trace_lifted t u side (s ∷ steps) (a ∷ answers) old new l h = (h.0, end_lifted t u side s a old h.0 l h.1, trace_lifted t u side steps answers h.0 new l h.2)
