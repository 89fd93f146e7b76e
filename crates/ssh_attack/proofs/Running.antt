-- One side's trace of an attacked run, one step more.
use Rattle.std.proofs.Common.{◌≡◌, ℕ, List, [], ◌∷◌, ◌++◌, Bool, true, false, ap, sym, ◌∙◌, subst}
use Rattle.std.specs.Prelude.{Result, Ok, Err}
use Rattle.ssh_wire.specs.Sides.{same_side}
use Rattle.ssh_wire.specs.declared.error.Error.{Error}
use Rattle.ssh_wire.specs.declared.side.Side.{Side}
use Rattle.ssh_kex.specs.declared.config.Config.{Config}
use Rattle.ssh_rules.specs.Attacking.{AttackedEnd, AttacksEnd, AttacksSide, FeedsBy, OwnStep, RekeysBy, SubmitsBy, Tells, tells_by}
use Rattle.ssh_rules.specs.Standing.{RekeyedFrom, is_outside}
use Rattle.ssh_rules.specs.declared.link.AttackStep.{AttackStep}
use Rattle.ssh_rules.specs.declared.link.AttackStep.TheVariants.{Submit, Feed, Rekey}
use Rattle.ssh_rules.proofs.Lemmas.{end_lifted, one_more, trace_lifted}
use Rattle.ssh_attack.proofs.Lifting.{earlier_lifts, later_lifts}
use Rattle.ssh_kex.specs.Members.{AgreementKept, AgreementMembers, GroupLookupMembers, GroupsKept, HostKeysMembers, HostsKept}

-- no step changes the configuration
abbrev SameConfig : AttackedEnd → AttackedEnd → Type 0
SameConfig old new = new.transport.config ≡ old.transport.config

same_end : (old new : AttackedEnd) → new ≡ old → SameConfig old new
same_end old new e = ap (λ (x : AttackedEnd). x.transport.config) e

submits_config : (t : Tells) (failed : Bool) (old : AttackedEnd) (p : List ℕ) (a : Result (Unit {0}) Error) (new : AttackedEnd) → SubmitsBy failed t old p a new → SameConfig old new
submits_config t true old p a new h = same_end old new h.1
submits_config t false old p (Ok x) new h = h.call.acts.config
submits_config t false old p (Err e) new h = same_end old new h.2

rekeys_config : (t : Tells) (failed : Bool) (old : AttackedEnd) (a : Result (Unit {0}) Error) (new : AttackedEnd) → RekeysBy failed t old a new → SameConfig old new
rekeys_config t true old a new h = same_end old new h.1
rekeys_config t false old (Ok x) new h = by (is_outside old.transport.state.stands) h.call where
  by : (outside : Bool) → RekeyedFrom outside t.says old.transport new.transport → SameConfig old new
  by true k = k.acts.config
  by false k = ap (λ (s : Rattle.ssh_rules.specs.Standing.Standing). s.config) k
rekeys_config t false old (Err e) new h = absurd h

feeds_config : (t : Tells) (failed : Bool) (old : AttackedEnd) (bytes : List ℕ) (a : Result (Unit {0}) Error) (new : AttackedEnd) → FeedsBy failed t old bytes a new → SameConfig old new
feeds_config t true old bytes a new h = ap (λ (s : Rattle.ssh_rules.specs.Standing.Standing). s.config) h.1
feeds_config t false old bytes (Ok x) new h = ap (λ (s : Rattle.ssh_rules.specs.Standing.Standing). s.config) h.2.transport ∙ h.1.acts.config
feeds_config t false old bytes (Err e) new h = ap (λ (s : Rattle.ssh_rules.specs.Standing.Standing). s.config) h.2.transport ∙ h.1.refused.refuses.config

own_config : (b : Bool) (P : Type 0) (old new : AttackedEnd) → (P → SameConfig old new) → OwnStep b P (new ≡ old) → SameConfig old new
own_config true P old new f h = f h
own_config false P old new f h = same_end old new h

pub config_kept : (t : Tells) (side : Side) (step : AttackStep) (a : Result (Unit {0}) Error) (old new : AttackedEnd) → AttacksEnd t side step a old new → SameConfig old new
config_kept t side (Submit s p) a old new h = own_config (same_side s side) _ old new (submits_config t old.transport.failed old p a new) h
config_kept t side (Feed s bytes) a old new h = own_config (same_side s side) _ old new (λ f. feeds_config t old.transport.failed old bytes a new f.does) h
config_kept t side (Rekey s) a old new h = own_config (same_side s side) _ old new (rekeys_config t old.transport.failed old a new) h

pub side_more : {A H G : Type 0} (ma : AgreementMembers A) (mh : HostKeysMembers H) (mg : GroupLookupMembers G) (config : Config) (a a' a'' : A) (h h' h'' : H) (g g' g'' : G) (side : Side) (steps steps' : List AttackStep) (answers answers' : List (Result (Unit {0}) Error)) (step : AttackStep) (answer : Result (Unit {0}) Error) (old mid new : AttackedEnd)
    → AgreementKept ma a a' → HostsKept mh h h' → GroupsKept mg g g'
    → AgreementKept ma a' a'' → HostsKept mh h' h'' → GroupsKept mg g' g''
    → mid.transport.config ≡ config → steps' ≡ steps ++ step ∷ [] → answers' ≡ answers ++ answer ∷ []
    → AttacksSide (tells_by ma mh mg config a a' h h' g g') side steps answers old mid
    → AttacksEnd (tells_by ma mh mg mid.transport.config a' a'' h' h'' g' g'') side step answer mid new
    → AttacksSide (tells_by ma mh mg config a a'' h h'' g g'') side steps' answers' old new
side_more ma mh mg config a a' a'' h h' h'' g g' g'' side steps steps' answers answers' step answer old mid new ka kh kg la lh lg same s b trace one =
    let u : Tells = tells_by ma mh mg config a a'' h h'' g g'' in
    let before = trace_lifted _ u side steps answers old mid (later_lifts ma mh mg config a a' a'' h h' h'' g g' g'' la lh lg) trace in
    let now = subst (λ c. AttacksEnd (tells_by ma mh mg c a' a'' h' h'' g' g'') side step answer mid new) same one in
    let next = end_lifted _ u side step answer mid new (earlier_lifts ma mh mg config a a' a'' h h' h'' g g' g'' ka kh kg) now in
    subst (λ q. AttacksSide u side q answers' old new) (sym s) (subst (λ q. AttacksSide u side (steps ++ step ∷ []) q old new) (sym b) (one_more u side steps answers step answer old mid new before next))
