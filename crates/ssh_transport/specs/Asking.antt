-- How often the parts are asked, call by call.
use Rattle.std.specs.Prelude.{ℕ, ◌+◌, ◌≤◌, Option, Some, None}
use Rattle.ssh_packet.specs.Sealing.{Clear}
use Rattle.ssh_wire.specs.declared.side.Side.{Side}
use Rattle.ssh_kex.specs.Parts.{Raises}
use Rattle.ssh_kex.specs.Stages.{Stage, Created, AwaitsGroup, AwaitsReply, AwaitsRequest, AwaitsValue, AwaitsNewkeys, IsStageOf}
use Rattle.ssh_kex.specs.Stepping.{answers_agreement, asks_agreement, asks_groups, asks_hosts}
use Rattle.ssh_kex.specs.declared.exchange.ServerHost.{ServerHost}
use Rattle.ssh_rules.specs.Answering.{AnswersAll, PartTests}
use Rattle.ssh_rules.specs.Asking.{AsksUntil, AsksWithin, PartCalls}
use Rattle.ssh_rules.specs.Counting.{agreement_to_come, begun, hosts_to_come, lookups_to_come}
use Rattle.ssh_rules.specs.Machine.{Inside, Outside, SideState, Silent, Spot, Where}
use Rattle.ssh_rules.specs.Standing.{RefusalCause}
use Rattle.ssh_transport.specs.States.{state_at}
use Rattle.ssh_transport.specs.declared.session.Session.{Session}

-- a client's host keys are asked for the host of an ended exchange
abbrev pub asks_trust : Option ServerHost → ℕ
asks_trust None = 0
asks_trust (Some host) = 1

-- what is counted of the parts of a side, and what they say of themselves where they have answered so much
pub record PartTally : Type 0 where
  pub calls : PartCalls
  pub tests : PartTests

abbrev pub tally : PartCalls → PartTests → PartTally
tally calls tests = record { calls = calls; tests = tests }

-- a part was asked for a message that led from a stage to where the machine is
abbrev pub StepAsks : (Where → ℕ) → Stage → Where → ℕ → ℕ → Type 0
StepAsks to_come stage stands calls calls' =
    (calls ≤ calls') × (calls' + to_come stands ≤ calls + to_come (Inside stage))

-- ---- what is answered for it

-- how often each part was asked in a step, by where the machine stood and where it comes to stand
pub record StepCalls (side : Side) (stage : Stage) (next : Option Stage) (n n' : PartCalls) : Type 0 where
  pub agreement_later : n.agreement ≤ n'.agreement
  pub hosts_later : n.hosts ≤ n'.hosts
  pub lookups_later : n.lookups ≤ n'.lookups
  pub agreement : n'.agreement ≤ n.agreement + asks_agreement side stage next
  pub hosts : n'.hosts ≤ n.hosts + asks_hosts stage
  pub lookups : n'.lookups ≤ n.lookups + asks_groups stage

-- and what it answered, where it took the message
pub record StepAnswers (side : Side) (stage : Stage) (next : Option Stage) (t t' : PartTests) : Type 0 where
  pub fits : IsStageOf side stage
  pub agreement : Raises (answers_agreement side stage next) t.agreement t'.agreement
  pub hosts : Raises (asks_hosts stage) t.hosts t'.hosts
  pub lookups : Raises (asks_groups stage) t.lookups t'.lookups

-- where the machine is at its end, a client's host keys have judged the host besides
abbrev pub trust_in : Stage → ℕ
trust_in (Created own) = 0
trust_in (AwaitsGroup o) = 0
trust_in (AwaitsReply o gex local public) = 0
trust_in (AwaitsRequest o) = 0
trust_in (AwaitsValue o gex) = 0
trust_in (AwaitsNewkeys exchange made host) = asks_trust host

abbrev pub hosts_answer : Stage → Where → ℕ
hosts_answer stage (Inside next) = asks_hosts stage
hosts_answer stage Outside = asks_hosts stage + trust_in stage
hosts_answer stage Silent = asks_hosts stage + trust_in stage

abbrev pub stage_in : Where → Option Stage
stage_in (Inside next) = Some next
stage_in Outside = None
stage_in Silent = None

-- each part of a side whose stage this is
pub record MoveAnswers (side : Side) (stage : Stage) (stands : Where) (tests tests' : PartTests) : Type 0 where
  pub fits : IsStageOf side stage
  pub agreement : Raises (answers_agreement side stage (stage_in stands)) tests.agreement tests'.agreement
  pub hosts : Raises (hosts_answer stage stands) tests.hosts tests'.hosts
  pub lookups : Raises (asks_groups stage) tests.lookups tests'.lookups

-- each part, and the lookup where the stage asks it
pub record MoveAsks (side : Side) (stage : Stage) (stands : Where) (n n' : PartTally) : Type 0 where
  pub agreement : StepAsks (agreement_to_come side) stage stands n.calls.agreement n'.calls.agreement
  pub hosts : StepAsks (hosts_to_come side) stage stands n.calls.hosts n'.calls.hosts
  pub lookups : StepAsks (lookups_to_come side) stage stands n.calls.lookups n'.calls.lookups
  pub groups : n'.calls.lookups ≤ n.calls.lookups + asks_groups stage
  pub answers : MoveAnswers side stage stands n.tests n'.tests

-- where nothing is read
abbrev pub nowhere : Spot
nowhere = record { sealing = Clear; number = 0 }

-- what a session stands for, wherever it reads
abbrev pub state_of : Session → SideState
state_of s = state_at s nowhere 0

-- between two sessions
pub record AsksBetween (s s' : Session) (n n' : PartTally) : Type 0 where
  pub later : begun (state_of s) ≤ begun (state_of s')
  pub within : AsksWithin s.side (state_of s) (state_of s') n.calls n'.calls
  pub answers : AnswersAll s.side (state_of s) (state_of s') n.tests n'.tests

-- up to what is refused
abbrev pub AsksTo : Session → PartCalls → PartCalls → RefusalCause → SideState → Type 0
AsksTo s calls calls' cause at = AsksUntil s.side cause (state_of s) at calls calls'
