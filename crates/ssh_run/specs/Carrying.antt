-- What the calls on a link do: a step submits a payload, asks for an exchange, or carries bytes of one side's output to
-- the other.
use Rattle.std.specs.Prelude.{◌≡◌, ◌⊎◌, ℕ, zero, suc, ◌+◌, ◌-◌, ◌^◌, ◌<◌, ◌≤◌, List, [], ◌∷◌, ◌++◌, length, map, take, drop, min, not, true, if◌then◌else◌}
use Rattle.ssh_wire.specs.declared.side.Side.TheVariants.{Client, Server}
use Rattle.ssh_wire.specs.declared.ssh_id.SshId.{SshId}
use Rattle.ssh_wire.specs.declared.ssh_id.SshId.TheVariants.{Standard, Raw}
use Rattle.ssh_kex.specs.Setting.{Says}
use Rattle.ssh_rules.specs.Standing.{IsNew, Rekeyed, Standing, Submitted, TakesInput, is_outside, unfinished}
use Rattle.ssh_rules.specs.Valid.{is_good_payload}
use Rattle.ssh_rules.specs.declared.link.LinkReport.{LinkReport}
use Rattle.ssh_rules.specs.declared.link.Mark.{Mark}
use Rattle.ssh_rules.specs.declared.link.SideMark.{SideMark}
use Rattle.ssh_rules.specs.declared.link.SideReport.{SideReport}
use Rattle.ssh_rules.specs.declared.link.Step.{Step}
use Rattle.ssh_rules.specs.declared.link.Step.TheVariants.{Submit, Deliver, Rekey, Settle}
use Rattle.ssh_kex.specs.declared.config.Config.{Config}

-- the text in which a version line stands
abbrev pub text_of_id : SshId → List ℕ
text_of_id (Standard text) = text
text_of_id (Raw text) = text

-- One side: its transport, how many bytes of the other's output it took, what it delivered, how many payloads it
-- submitted.
pub record CarriedEnd : Type 0 where
  pub transport : Standing
  pub taken : ℕ
  pub delivered : List (List ℕ)
  pub submitted : ℕ

-- both sides
pub record CarriedLink : Type 0 where
  pub client : CarriedEnd
  pub server : CarriedEnd

-- where a side stands
abbrev pub side_mark : CarriedEnd → SideMark
side_mark e = record {
  sent = length e.transport.output;
  taken = e.taken;
  delivered = length e.delivered;
  finished = length e.transport.state.records;
  inside = not (is_outside e.transport.state.stands);
  submitted = e.submitted;
}

-- where both sides stand
abbrev pub both_marks : CarriedLink → Mark
both_marks l = record { client = side_mark l.client; server = side_mark l.server }

-- a side that has written its id line, and done nothing else
abbrev pub first_carried_end : Standing → CarriedEnd
first_carried_end t = record { transport = t; taken = 0; delivered = []; submitted = 0 }

-- a good payload was submitted
pub record SubmitsOne (says : Says) (old : CarriedEnd) (payload : List ℕ) (new : CarriedEnd) : Type 0 where
  pub good : is_good_payload payload ≡ true
  pub call : Submitted says old.transport payload new.transport
  pub taken : new.taken ≡ old.taken
  pub delivered : new.delivered ≡ old.delivered
  pub submitted : new.submitted ≡ min (old.submitted + 1) (2 ^ 64 - 1)

-- an exchange was asked for
pub record AsksKeys (says : Says) (old new : CarriedEnd) : Type 0 where
  pub call : Rekeyed says old.transport new.transport
  pub taken : new.taken ≡ old.taken
  pub delivered : new.delivered ≡ old.delivered
  pub submitted : new.submitted ≡ old.submitted

-- how many bytes are carried: so many, or all that wait where fewer do
abbrev pub carried_count : CarriedEnd → List ℕ → ℕ → ℕ
carried_count e wire n = min n (length wire - e.taken)

-- Bytes of the other's output were carried, and what the transport delivered of them was taken over.
pub record CarriesTo (says : Says) (old : CarriedEnd) (wire : List ℕ) (n : ℕ) (new : CarriedEnd) : Type 0 where
  pub fed : Standing
  pub call : TakesInput says old.transport (take (carried_count old wire n) (drop old.taken wire)) fed
  pub transport : new.transport ≡ record fed { delivered = [] }
  pub taken : new.taken ≡ old.taken + carried_count old wire n
  pub delivered : new.delivered ≡ old.delivered ++ fed.delivered
  pub submitted : new.submitted ≡ old.submitted

-- all bytes at once
abbrev pub all_bytes : ℕ
all_bytes = 2 ^ 64 - 1

-- the server takes all that waits for it, then the client
pub record TakesTurns (client server : Says) (old new : CarriedLink) : Type 0 where
  pub to_server : CarriesTo server old.server old.client.transport.output all_bytes new.server
  pub all_to_server : length old.client.transport.output ≤ new.server.taken
  pub to_client : CarriesTo client old.client new.server.transport.output all_bytes new.client
  pub all_to_client : length new.server.transport.output ≤ new.client.taken

-- bytes wait for the client or for the server
abbrev pub HasWaiting : CarriedLink → Type 0
HasWaiting l = (l.client.taken < length l.server.transport.output) ⊎ (l.server.taken < length l.client.transport.output)

-- so many times, as long as bytes wait
abbrev pub RepeatsTurns : (client server : Says) → ℕ → CarriedLink → CarriedLink → Type 0
RepeatsTurns client server zero old new = new ≡ old
RepeatsTurns client server (suc n) old new = (mid : CarriedLink) × RepeatsTurns client server n old mid × TakesTurns client server mid new × HasWaiting mid

-- it is outside an exchange and holds no unfinished input
pub record Rests (e : CarriedEnd) : Type 0 where
  pub outside : is_outside e.transport.state.stands ≡ true
  pub none : unfinished e.transport ≡ []

-- until no byte waits, and both sides rest
pub record SettlesAll (client server : Says) (old new : CarriedLink) : Type 0 where
  pub times : ℕ
  pub turns : RepeatsTurns client server times old new
  pub to_client : length new.server.transport.output ≤ new.client.taken
  pub to_server : length new.client.transport.output ≤ new.server.taken
  pub client_rests : Rests new.client
  pub server_rests : Rests new.server

-- what each step does
abbrev pub StepsLink : (client server : Says) → Step → CarriedLink → CarriedLink → Type 0
StepsLink client server (Submit Client p) old new = SubmitsOne client old.client p new.client × (new.server ≡ old.server)
StepsLink client server (Submit Server p) old new = SubmitsOne server old.server p new.server × (new.client ≡ old.client)
StepsLink client server (Deliver Client n) old new =
    CarriesTo client old.client old.server.transport.output n new.client × (new.server ≡ old.server)
StepsLink client server (Deliver Server n) old new =
    CarriesTo server old.server old.client.transport.output n new.server × (new.client ≡ old.client)
StepsLink client server (Rekey Client) old new = AsksKeys client old.client new.client × (new.server ≡ old.server)
StepsLink client server (Rekey Server) old new = AsksKeys server old.server new.server × (new.client ≡ old.client)
StepsLink client server Settle old new = SettlesAll client server old new

-- each step, from each link to the next
abbrev pub StepsLinks : (client server : Says) → List Step → CarriedLink → List CarriedLink → Type 0
StepsLinks client server [] l [] = Unit {0}
StepsLinks client server (step ∷ steps) l (l' ∷ links) =
    StepsLink client server step l l' × StepsLinks client server steps l' links
StepsLinks client server [] l (l' ∷ links) = ⊥
StepsLinks client server (step ∷ steps) l [] = ⊥

-- the last of them
abbrev pub last_link : CarriedLink → List CarriedLink → CarriedLink
last_link l [] = l
last_link l (l' ∷ links) = last_link l' links

-- how many exchanges may be begun behind a step, where so many may before it
abbrev pub bound_behind : Step → ℕ → ℕ
bound_behind (Submit side p) bound = min (bound + 2) (2 ^ 128 - 1)
bound_behind (Rekey side) bound = min (bound + 1) (2 ^ 128 - 1)
bound_behind (Deliver side n) bound = bound
bound_behind Settle bound = bound

-- and behind some steps
abbrev pub bound_after : ℕ → List Step → ℕ
bound_after bound [] = bound
bound_after bound (step ∷ steps) = bound_after (bound_behind step bound) steps

-- how many exchanges a side has begun, with the first, inside which it is from its start on
abbrev pub begun_by : CarriedEnd → ℕ
begun_by e = length e.transport.state.records + (if is_outside e.transport.state.stands then 0 else 1)

-- behind a settle neither side has begun more exchanges than may be begun
abbrev pub FewBehind : ℕ → Step → CarriedLink → Type 0
FewBehind bound (Submit side p) l = Unit {0}
FewBehind bound (Deliver side n) l = Unit {0}
FewBehind bound (Rekey side) l = Unit {0}
FewBehind bound Settle l = (begun_by l.client ≤ bound) × (begun_by l.server ≤ bound)

-- so behind each of some steps, where so many may be begun before the first
abbrev pub FewBegun : ℕ → List Step → List CarriedLink → Type 0
FewBegun bound [] links = Unit {0}
FewBegun bound (step ∷ steps) [] = Unit {0}
FewBegun bound (step ∷ steps) (l ∷ links) = FewBehind bound step l × FewBegun (bound_behind step bound) steps links

-- The steps lead from a link to another, with a mark before the first and one behind each. So many exchanges may be
-- begun before the first.
pub record RunsOn (client server : Says) (bound : ℕ) (steps : List Step) (old new : CarriedLink)
    (marks : List Mark) : Type 0 where
  pub links : List CarriedLink
  pub each : StepsLinks client server steps old links
  pub few : FewBegun bound steps links
  pub last : last_link old links ≡ new
  pub marks_are : marks ≡ map both_marks (old ∷ links)

-- both transports are new
pub record IsNewLink (client server : Config) (l : CarriedLink) : Type 0 where
  pub of_client : (t : Standing) × IsNew Client client t × (l.client ≡ first_carried_end t)
  pub of_server : (t : Standing) × IsNew Server server t × (l.server ≡ first_carried_end t)

-- what is reported of a side
abbrev pub reported_end : CarriedEnd → SideReport
reported_end e = record {
  wire = e.transport.output;
  taken = e.taken;
  delivered = e.delivered;
  exchanges = e.transport.state.records;
}

-- the report of a run
abbrev pub reported_link : CarriedLink → List CarriedLink → LinkReport
reported_link l links = record {
  client = reported_end (last_link l links).client;
  server = reported_end (last_link l links).server;
  marks = map both_marks (l ∷ links);
}

-- A report is that of a run: each step does on the transports what its calls do.
pub record IsCarried (client_says server_says : Says) (client server : Config) (steps : List Step)
    (report : LinkReport) : Type 0 where
  pub first : CarriedLink
  pub links : List CarriedLink
  pub new : IsNewLink client server first
  pub each : StepsLinks client_says server_says steps first links
  pub few : FewBegun 1 steps links
  pub report_is : report ≡ reported_link first links
