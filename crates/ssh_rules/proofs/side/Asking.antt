-- How often a side's parts are asked: no more than its events and its messages let them be.
use Rattle.std.proofs.Common.{◌≡◌, ℕ, ◌+◌, ◌≤◌, Bool, true, false, List, refl, ap, ◌∙◌, arith, Option, None}
use Rattle.ssh_wire.specs.declared.side.Side.{Side}
use Rattle.ssh_wire.specs.declared.side.Side.TheVariants.{Client, Server}
use Rattle.ssh_kex.specs.Setting.{Says}
use Rattle.ssh_kex.specs.Stages.{Stage, Created, AwaitsGroup, AwaitsReply, AwaitsRequest, AwaitsValue, AwaitsNewkeys, drops_guess}
use Rattle.ssh_kex.specs.Stepping.{asks_agreement, asks_hosts, asks_groups, once_unless}
use Rattle.ssh_kex.specs.declared.config.Config.{Config}
use Rattle.ssh_rules.specs.Asking.{PartCalls, AsksWithin, AsksForMessage, AsksForType, AsksForCause, AsksUntil, AsksOnce}
use Rattle.ssh_rules.specs.Calls.{agreement_left, hosts_left, lookups_left}
use Rattle.ssh_rules.specs.Counting.{begun, agreement_to_come, hosts_to_come, lookups_to_come, calls_of, lookups_of, CallsFrom, group_in, groups_chosen, groups_in, request_due}
use Rattle.ssh_rules.specs.Machine.{Where, SideState, Event, Steps, names_now}
use Rattle.ssh_rules.specs.Standing.{OfFault, OfMemory, OfPacket, OfVersion, RefusalCause}
use Rattle.ssh_rules.proofs.side.Calls.{at_most_one}
use Rattle.ssh_rules.proofs.side.GroupsChosen.{steps_groups}
use Rattle.ssh_rules.proofs.side.CallsRun.{Counts, Pays, calls_join, calls_steps, agreement_counts, agreement_pays, hosts_counts, hosts_pays, lookups_counts, lookups_pays}

-- ---- states

calls_still : (to_come : Where → ℕ) (each : ℕ) (st st' : SideState) (n : ℕ) → st'.stands ≡ st.stands → CallsFrom to_come each st st' n n
calls_still to_come each st st' n e = let a : to_come st'.stands ≡ to_come st.stands = ap to_come e in (omega arith, omega (arith, a))

-- nothing is asked where a side stands still
pub asks_still : (side : Side) (st st' : SideState) (n : PartCalls) → st'.stands ≡ st.stands → st'.records ≡ st.records → AsksWithin side st st' n n
asks_still side st st' n e f = record {
  agreement = calls_still (agreement_to_come side) (calls_of side) st st' n.agreement e;
  hosts = calls_still (hosts_to_come side) (calls_of side) st st' n.hosts e;
  lookups = calls_still (lookups_to_come side) (lookups_of side) st st' n.lookups e;
  groups = (
      let a : request_due st'.stands ≡ request_due st.stands = ap request_due e in
      let b : groups_chosen st' ≡ groups_chosen st = ap (λ (w : Where). groups_in st'.records + group_in (names_now w)) e ∙ ap (λ r. groups_in r + group_in (names_now st.stands)) f in
      omega (arith, a, b)
      );
}

pub asks_join : (side : Side) (a b c : SideState) (n m k : PartCalls) → begun a ≤ begun b → begun b ≤ begun c → AsksWithin side a b n m → AsksWithin side b c m k → AsksWithin side a c n k
asks_join side a b c n m k l r p q = record {
  agreement = calls_join (agreement_to_come side) (calls_of side) a b c n.agreement m.agreement k.agreement l r p.agreement q.agreement;
  hosts = calls_join (hosts_to_come side) (calls_of side) a b c n.hosts m.hosts k.hosts l r p.hosts q.hosts;
  lookups = calls_join (lookups_to_come side) (lookups_of side) a b c n.lookups m.lookups k.lookups l r p.lookups q.lookups;
  groups = (let x = p.groups in let y = q.groups in omega (arith, x, y));
}

none_from : (c : Counts) (says : Says) (side : Side) (config : Config) (own_id : List ℕ) (log : List Event) (st st' : SideState) (n : ℕ) → Pays c says side config own_id → Steps says side config own_id st log st' → CallsFrom c.to_come c.each st st' n n
none_from c says side config own_id log st st' n pays h = let r = (calls_steps c says side config own_id log st st' n pays h).1 in (omega arith, omega (arith, r))

-- what is to come stays within what events leave, where none is asked
pub asks_steps : (says : Says) (side : Side) (config : Config) (own_id : List ℕ) (log : List Event) (st st' : SideState) (n : PartCalls) → Steps says side config own_id st log st' → AsksWithin side st st' n n
asks_steps says side config own_id log st st' n h = record {
  agreement = none_from (agreement_counts side) says side config own_id log st st' n.agreement (agreement_pays says side config own_id) h;
  hosts = none_from (hosts_counts side) says side config own_id log st st' n.hosts (hosts_pays says side config own_id) h;
  lookups = none_from (lookups_counts side) says side config own_id log st st' n.lookups (lookups_pays says side config own_id) h;
  groups = steps_groups says side config own_id log st st' n.lookups h;
}

-- ---- what a stage asks

-- of a message that leads nowhere, each part is asked once at most, and no more than was left
pub record StageBounds (side : Side) (stage : Stage) : Type 0 where
  pub agreement : asks_agreement side stage None ≤ agreement_left side stage
  pub hosts : asks_hosts stage ≤ hosts_left side stage
  pub lookups : asks_groups stage ≤ lookups_left side stage
  pub agreement_once : asks_agreement side stage None ≤ 1
  pub hosts_once : asks_hosts stage ≤ 1
  pub lookups_once : asks_groups stage ≤ 1

pub stage_bounds : (side : Side) (stage : Stage) → StageBounds side stage
stage_bounds Client (Created own) = record { agreement = omega arith; hosts = omega arith; lookups = omega arith; agreement_once = omega arith; hosts_once = omega arith; lookups_once = omega arith }
stage_bounds Server (Created own) = record { agreement = omega arith; hosts = omega arith; lookups = omega arith; agreement_once = omega arith; hosts_once = omega arith; lookups_once = omega arith }
stage_bounds side (AwaitsGroup o) = let a = at_most_one o.names.ignore_guessed in record { agreement = omega (arith, a); hosts = omega arith; lookups = omega arith; agreement_once = omega (arith, a); hosts_once = omega arith; lookups_once = omega arith }
stage_bounds side (AwaitsReply o gex local public) = let a = at_most_one o.names.ignore_guessed in record { agreement = omega (arith, a); hosts = omega (arith, a); lookups = omega arith; agreement_once = omega (arith, a); hosts_once = omega (arith, a); lookups_once = omega arith }
stage_bounds side (AwaitsRequest o) = let a = at_most_one o.names.ignore_guessed in record { agreement = omega arith; hosts = omega arith; lookups = omega (arith, a); agreement_once = omega arith; hosts_once = omega arith; lookups_once = omega (arith, a) }
stage_bounds side (AwaitsValue o gex) = let a = at_most_one o.names.ignore_guessed in record { agreement = omega (arith, a); hosts = omega (arith, a); lookups = omega arith; agreement_once = omega (arith, a); hosts_once = omega (arith, a); lookups_once = omega arith }
stage_bounds side (AwaitsNewkeys exchange made host) = record { agreement = omega arith; hosts = omega arith; lookups = omega arith; agreement_once = omega arith; hosts_once = omega arith; lookups_once = omega arith }

pub none_once : (dropped : Bool) → dropped ≡ true → once_unless dropped ≡ 0
none_once true e = refl
none_once false e = cc

-- of a wrong guess nothing is asked
pub dropped_asks : (side : Side) (stage : Stage) (next : Option Stage) → drops_guess stage ≡ true → (asks_agreement side stage next ≡ 0) × (asks_hosts stage ≡ 0) × (asks_groups stage ≡ 0)
dropped_asks side (Created own) next e = cc
dropped_asks side (AwaitsGroup o) next e = (none_once o.names.ignore_guessed e, refl, refl)
dropped_asks side (AwaitsReply o gex local public) next e = (none_once o.names.ignore_guessed e, none_once o.names.ignore_guessed e, refl)
dropped_asks side (AwaitsRequest o) next e = (refl, refl, none_once o.names.ignore_guessed e)
dropped_asks side (AwaitsValue o gex) next e = (none_once o.names.ignore_guessed e, none_once o.names.ignore_guessed e, refl)
dropped_asks side (AwaitsNewkeys exchange made host) next e = cc

-- ---- a refusal

once_none : (to_come : Where → ℕ) (each : ℕ) (w : Where) (n : ℕ) → AsksOnce to_come each w n n
once_none to_come each w n = (omega arith, omega arith, omega arith)

-- none is asked
pub message_none : (side : Side) (w : Where) (n : PartCalls) → AsksForMessage side w n n
message_none side w n = record { agreement = once_none (agreement_to_come side) (calls_of side) w n.agreement; hosts = once_none (hosts_to_come side) (calls_of side) w n.hosts; lookups = once_none (lookups_to_come side) (lookups_of side) w n.lookups; groups = omega arith }

pub type_none : (kex : Bool) (side : Side) (w : Where) (n : PartCalls) → AsksForType kex side w n n
type_none true side w n = message_none side w n
type_none false side w n = refl

pub cause_none : (cause : RefusalCause) (side : Side) (w : Where) (n : PartCalls) → AsksForCause cause side w n n
cause_none (OfPacket i) side w n = type_none _ side w n
cause_none (OfFault fault) side w n = refl
cause_none OfVersion side w n = refl
cause_none OfMemory side w n = refl

-- up to a state nothing was asked
pub until_steps : (says : Says) (side : Side) (config : Config) (own_id : List ℕ) (log : List Event) (cause : RefusalCause) (st at : SideState) (n : PartCalls) → Steps says side config own_id st log at → AsksUntil side cause st at n n
until_steps says side config own_id log cause st at n h = record { mid = n; before = asks_steps says side config own_id log st at n h; last = cause_none cause side at.stands n }
