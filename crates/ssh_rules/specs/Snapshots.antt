-- What a loop over the steps of a link keeps: each moment from inside, and what each step does.
use Rattle.std.specs.Prelude.{◌≡◌, ℕ, ◌≤◌, List, [], ◌∷◌, ◌++◌, length, map, slice_get, Some, Option, None, false, ◌⊎◌, ◌+◌, Bool, true, ◌-◌, ◌<◌, not, min}
use Rattle.ssh_wire.specs.declared.side.Side.{Side}
use Rattle.ssh_wire.specs.declared.side.Side.TheVariants.{Client, Server}
use Rattle.ssh_packet.specs.Sealing.{Item}
use Rattle.ssh_rules.specs.Parts.{ClientPairs, Secrets, ServerValues}
use Rattle.ssh_kex.specs.declared.exchange.FinishedExchange.{FinishedExchange}
use Rattle.ssh_wire.specs.Sides.{other_side}
use Rattle.ssh_kex.specs.declared.config.Config.{Config}
use Rattle.ssh_kex.specs.Setting.{Says}
use Rattle.ssh_rules.specs.Wire.{HasFront}
use Rattle.ssh_rules.specs.Machine.{SideState, Event, IdHeard, PayloadSubmitted, ExchangeBegun, AnswerSent, PayloadSent, MessageTaken, GuessDropped, PayloadDelivered, PacketDropped, ExchangeFinished, Steps, first_state, Asked, names_now, IsQuiet}
use Rattle.ssh_rules.specs.Log.{sent_bytes, read_bytes, wrote, handled, recorded, delivered_in, submitted_in, causes_in, asked_in}
use Rattle.ssh_rules.specs.Turns.{Turn, LinkEnd, World, first_world, Talkers, HearsAs, Plays, TakesTurn}
use Rattle.ssh_negotiate.specs.declared.negotiation.Names.{Names}
use Rattle.ssh_kex.specs.Messages.{is_gex}
use Rattle.ssh_packet.specs.Front.{Unfinished, front_of}
use Rattle.ssh_wire.specs.Lines.{Id, id_line, id_of, id_text}
use Rattle.ssh_wire.specs.Reading.{Heard, IdReading, Waiting}
use Rattle.ssh_rules.specs.declared.link.SideMark.{SideMark}
use Rattle.ssh_rules.specs.Marks.{Half}
use Rattle.ssh_rules.specs.Standing.{Standing, is_outside}
use Rattle.ssh_rules.specs.declared.link.Mark.{Mark}
use Rattle.ssh_rules.specs.Run.{Moment, StaysAsIs, mark_of}
use Rattle.ssh_rules.specs.declared.link.Step.TheVariants.{Submit, Deliver, Rekey, Settle}
use Rattle.ssh_rules.specs.declared.link.Step as link
use Rattle.ssh_negotiate.specs.declared.kex.Name.{Name as KexName}
use Rattle.ssh_kex.specs.declared.group.DhGroup.{DhGroup}
use Rattle.ssh_rules.specs.Headline.{chosen_by, kind_by}
use Rattle.ssh_rules.specs.declared.link.LinkReport.{LinkReport}
use Rattle.ssh_rules.specs.declared.link.SideReport.{SideReport}

-- A side's whole run: what it did from its start on, where it is, and the bytes that it was fed and hasn't handled. The
-- id lines are left out.
pub record HasRun (says : Says) (side : Side) (config : Config) (own_id : List ℕ) (log : List Event) (st : SideState)
    (sent fed unfinished : List ℕ) : Type 0 where
  pub steps : Steps says side config own_id first_state log st
  pub sent_is : sent ≡ sent_bytes side first_state.writing log
  pub fed_is : fed ≡ read_bytes side first_state.reading log ++ unfinished

-- no guess is dropped: so of each honest peer
abbrev pub NoGuesses : List Event → Type 0
NoGuesses [] = Unit {0}
NoGuesses (GuessDropped i ∷ es) = ⊥
NoGuesses (IdHeard id ∷ es) = NoGuesses es
NoGuesses (PayloadSubmitted p ∷ es) = NoGuesses es
NoGuesses (ExchangeBegun cause i ∷ es) = NoGuesses es
NoGuesses (AnswerSent i resets ∷ es) = NoGuesses es
NoGuesses (PayloadSent i ∷ es) = NoGuesses es
NoGuesses (MessageTaken i ∷ es) = NoGuesses es
NoGuesses (PayloadDelivered i ∷ es) = NoGuesses es
NoGuesses (PacketDropped i ∷ es) = NoGuesses es
NoGuesses (ExchangeFinished i x ∷ es) = NoGuesses es

-- what is known of a side's run in a link
pub record RunsInLink (t : Talkers) (side : Side) (log : List Event) (h : LinkEnd) : Type 0 where
  pub ran : HasRun (t.says side) side (t.config side) (t.own_id side) log h.state h.sent h.fed h.unfinished
  pub heard : HearsAs (t.own_id (other_side side)) log
  pub guesses : NoGuesses log
  pub answered : h.state.called ≡ false

-- what holds of a world that turns led to
pub record IsReached (t : Talkers) (w : World) (cl sl : List Event) : Type 0 where
  pub client : RunsInLink t Client cl w.client
  pub server : RunsInLink t Server sl w.server
  pub to_server : HasFront w.client.sent w.server.fed
  pub to_client : HasFront w.server.sent w.client.fed

-- the kind that a stage knows
abbrev pub KindIs : Bool → Option Names → Type 0
KindIs kind None = Unit {0}
KindIs kind (Some n) = is_gex n.kex ≡ kind

-- a half of the report: a side as it is in the end
abbrev pub half_in : Talkers → Side → List Event → LinkEnd → List (List ℕ) → Half
half_in t side log h submitted =
    record {
      side = side;
      config = t.config side;
      exchanges = recorded log;
      wire = id_line (t.config side).id ++ h.sent;
      submitted = submitted;
    }

-- How many bytes a side took: so many of the other's id line, or all of it and what it was fed behind it.
abbrev pub TookBytes : (line fed : List ℕ) (st : SideState) (taken : ℕ) → Type 0
TookBytes line fed st taken = ((st.heard ≡ None) × (fed ≡ []) × (taken < length line))
    ⊎ ((id : List ℕ) × (st.heard ≡ Some id) × (taken ≡ length line + length fed))

-- a mark of a side, by where it is and what it did
pub record IsMarkOf (t : Talkers) (side : Side) (log : List Event) (h : LinkEnd) (m : SideMark) : Type 0 where
  pub sent : m.sent ≡ length (id_line (t.config side).id) + length h.sent
  pub taken : TookBytes (id_line (t.config (other_side side)).id) h.fed h.state m.taken
  pub delivered : m.delivered ≡ length (delivered_in log)
  pub finished : m.finished ≡ length h.state.records
  pub inside : m.inside ≡ not (is_outside h.state.stands)
  pub submitted : m.submitted ≡ length (submitted_in log)

-- a side between two calls: nothing is left to do, nothing whole is left to read
pub record IsAtRest (config : Config) (h : LinkEnd) : Type 0 where
  pub quiet : IsQuiet config h.state
  pub part : front_of h.state.reading.sealing h.state.reading.number h.unfinished ≡ Unfinished

-- all its exchanges are of one kind
pub record IsOfKind (kind : Bool) (st : SideState) : Type 0 where
  pub now : KindIs kind (names_now st.stands)
  pub each : (k : ℕ) (x : FinishedExchange) → slice_get st.records k ≡ Some x → is_gex x.names.kex ≡ kind

-- what a side does in turns
abbrev pub if_client : Side → List Event → List Event → List Event
if_client Client events more = events ++ more
if_client Server events more = more

-- the same of the server
abbrev pub if_server : Side → List Event → List Event → List Event
if_server Server events more = events ++ more
if_server Client events more = more

-- what a client did in some turns
abbrev pub client_log : List Turn → List Event
client_log [] = []
client_log (u ∷ turns) = if_client u.side u.events (client_log turns)

-- what a server did in them
abbrev pub server_log : List Turn → List Event
server_log [] = []
server_log (u ∷ turns) = if_server u.side u.events (server_log turns)

-- a moment: the world, what both sides did so far, and the mark
pub record Snapshot : Type 0 where
  pub world : World
  pub cl : List Event
  pub sl : List Event
  pub mark : Mark

-- such a moment, as the report shows it
abbrev pub moment_of : Snapshot → Moment
moment_of s = record {
  mark = s.mark;
  client_own = wrote s.cl;
  client_theirs = handled s.cl;
  server_own = wrote s.sl;
  server_theirs = handled s.sl;
}

-- what is known of one
pub record IsSnapshot (t : Talkers) (kind : Bool) (s : Snapshot) : Type 0 where
  pub held : IsReached t s.world s.cl s.sl
  pub client_rests : IsAtRest (t.config Client) s.world.client
  pub server_rests : IsAtRest (t.config Server) s.world.server
  pub client_kinds : IsOfKind kind s.world.client.state
  pub server_kinds : IsOfKind kind s.world.server.state
  pub client_mark : IsMarkOf t Client s.cl s.world.client s.mark.client
  pub server_mark : IsMarkOf t Server s.sl s.world.server s.mark.server

-- the mark before and behind a turn of the side
pub record HasTurned (t : Talkers) (side : Side) (log events : List Event) (h h' : LinkEnd)
    (m m' : SideMark) : Type 0 where
  pub steps : Steps (t.says side) side (t.config side) (t.own_id side) h.state events h'.state
  pub sends : h'.sent ≡ h.sent ++ sent_bytes side h.state.writing events
  pub before : IsMarkOf t side log h m
  pub behind : IsMarkOf t side (log ++ events) h' m'

-- what a side did so far
abbrev pub log_at : Side → Snapshot → List Event
log_at Client s = s.cl
log_at Server s = s.sl

-- where it is
abbrev pub end_at : Side → Snapshot → LinkEnd
end_at Client s = s.world.client
end_at Server s = s.world.server

-- a turn of one side, and nothing of the other
pub record OneSideTurns (t : Talkers) (sd : Side) (events : List Event) (s s' : Snapshot) : Type 0 where
  pub turned : HasTurned t sd (log_at sd s) events (end_at sd s) (end_at sd s') (mark_of sd s.mark) (mark_of sd s'.mark)
  pub stays : StaysAsIs (other_side sd) s.mark s'.mark
  pub other : end_at (other_side sd) s' ≡ end_at (other_side sd) s
  pub log : log_at sd s' ≡ log_at sd s ++ events
  pub other_log : log_at (other_side sd) s' ≡ log_at (other_side sd) s

-- nothing at all
pub record StaysWhole (s s' : Snapshot) : Type 0 where
  pub mark : s'.mark ≡ s.mark
  pub client : s'.world.client ≡ s.world.client
  pub server : s'.world.server ≡ s.world.server
  pub client_log : s'.cl ≡ s.cl
  pub server_log : s'.sl ≡ s.sl

-- turns of both, till all is read
pub record ReadsAll (t : Talkers) (s s' : Snapshot) : Type 0 where
  pub client_events : List Event
  pub server_events : List Event
  pub client : HasTurned t Client s.cl client_events s.world.client s'.world.client s.mark.client s'.mark.client
  pub server : HasTurned t Server s.sl server_events s.world.server s'.world.server s.mark.server s'.mark.server
  pub client_log : s'.cl ≡ s.cl ++ client_events
  pub server_log : s'.sl ≡ s.sl ++ server_events
  pub client_none : submitted_in client_events ≡ []
  pub server_none : submitted_in server_events ≡ []
  pub to_client : s'.mark.client.taken ≡ s'.mark.server.sent
  pub to_server : s'.mark.server.taken ≡ s'.mark.client.sent

-- what each step does
abbrev pub DoesStep : Talkers → link.Step → Snapshot → Snapshot → Type 0
DoesStep t (Submit sd p) s s' = (events : List Event) × OneSideTurns t sd events s s' × (submitted_in events ≡ p ∷ [])
    × (handled events ≡ []) × ((mark_of sd s'.mark).taken ≡ (mark_of sd s.mark).taken)
DoesStep t (Deliver sd n) s s' = (events : List Event) × OneSideTurns t sd events s s' × (submitted_in events ≡ [])
    × ((mark_of sd s'.mark).taken ≡ (mark_of sd s.mark).taken + min n
    ((mark_of (other_side sd) s.mark).sent - (mark_of sd s.mark).taken))
DoesStep t (Rekey sd) s s' = (((mark_of sd s.mark).inside ≡ true) × StaysWhole s s')
    ⊎ ((i : Item) × ((mark_of sd s.mark).inside ≡ false) × OneSideTurns t sd (ExchangeBegun Asked i ∷ []) s s'
    × ((mark_of sd s'.mark).taken ≡ (mark_of sd s.mark).taken))
DoesStep t Settle s s' = ReadsAll t s s'

-- each step, from each snapshot to the next
abbrev pub DoesSteps : Talkers → Bool → List link.Step → Snapshot → List Snapshot → Type 0
DoesSteps t kind [] s [] = IsSnapshot t kind s
DoesSteps t kind (step ∷ steps) s (s' ∷ snapshots) = IsSnapshot t kind s × DoesStep t step s s'
    × DoesSteps t kind steps s' snapshots
DoesSteps t kind [] s (s' ∷ snapshots) = ⊥
DoesSteps t kind (step ∷ steps) s [] = ⊥

-- a step leads from a moment to the next; a side is asked for an exchange by its own rekey alone
pub record LeadsOn (t : Talkers) (step : Option link.Step) (s s' : Snapshot) : Type 0 where
  pub turns : List Turn
  pub plays : Plays t s.world turns s'.world
  pub cl : s'.cl ≡ s.cl ++ client_log turns
  pub sl : s'.sl ≡ s.sl ++ server_log turns
  pub client_asked : 1 ≤ asked_in (causes_in (client_log turns)) → step ≡ Some (Rekey Client)
  pub server_asked : 1 ≤ asked_in (causes_in (server_log turns)) → step ≡ Some (Rekey Server)

-- each step's turns lead from a moment to the next
abbrev pub TurnsLeadOn : Talkers → List link.Step → Snapshot → List Snapshot → Type 0
TurnsLeadOn t [] s [] = Unit {0}
TurnsLeadOn t (step ∷ steps) s (s' ∷ snapshots) = LeadsOn t (Some step) s s' × TurnsLeadOn t steps s' snapshots
TurnsLeadOn t [] s (s' ∷ snapshots) = ⊥
TurnsLeadOn t (step ∷ steps) s [] = ⊥

-- the last of them
abbrev pub last_snapshot : Snapshot → List Snapshot → Snapshot
last_snapshot s [] = s
last_snapshot s (s' ∷ snapshots) = last_snapshot s' snapshots

-- the mark of a side that has written its id line
abbrev pub first_mark : ℕ → SideMark
first_mark n = record { sent = n; taken = 0; delivered = 0; finished = 0; inside = true; submitted = 0 }

-- before the first step
abbrev pub first_snapshot : Talkers → Snapshot
first_snapshot t = record {
  world = first_world;
  cl = [];
  sl = [];
  mark = record {
    client = first_mark (length (id_line (t.config Client).id));
    server = first_mark (length (id_line (t.config Server).id));
  };
}

-- what is reported of a side
abbrev pub side_report : Talkers → Side → List Event → LinkEnd → SideMark → SideReport
side_report t side log h m =
    record {
      wire = id_line (t.config side).id ++ h.sent;
      taken = m.taken;
      delivered = delivered_in log;
      exchanges = recorded log;
    }

-- the report of a run
abbrev pub report_of : Talkers → Snapshot → List Snapshot → LinkReport
report_of t s snapshots = record {
  client = side_report t Client (last_snapshot s snapshots).cl (last_snapshot s snapshots).world.client
      (last_snapshot s snapshots).mark.client;
  server = side_report t Server (last_snapshot s snapshots).sl (last_snapshot s snapshots).world.server
      (last_snapshot s snapshots).mark.server;
  marks = map (λ (x : Snapshot). x.mark) (s ∷ snapshots);
}

-- what the relations of a report follow from
pub record TellsParts (client server : Says) (client_makes : ClientPairs) (server_makes : ServerValues)
    (agrees : Secrets) : Type 0 where
  pub for_client : (name : KexName) (group : Option DhGroup) (local public : List ℕ)
      → client.client_makes name group local public → client_makes name group local public
  pub for_server : (name : KexName) (group : Option DhGroup) (client public : List ℕ)
      → server.server_makes name group client public → server_makes name group client public
  pub for_secret : (name : KexName) (group : Option DhGroup) (c s secret : List ℕ)
      → client.agrees name group c s secret → agrees name group c s secret

-- whether the two configurations choose a group exchange
abbrev pub kind_chosen : (Side → Config) → Bool
kind_chosen config = kind_by (chosen_by (config Client) (config Server))

-- ---- transports

-- a part of the id line was taken
pub record IsInLine (line took : List ℕ) (reading : IdReading) (waiting : List ℕ) (h : LinkEnd) : Type 0 where
  pub reading_is : reading ≡ Waiting took 0
  pub few : length took < length line
  pub unheard : h.state.heard ≡ None
  pub fed : h.fed ≡ []
  pub unfinished : h.unfinished ≡ []
  pub waiting_is : waiting ≡ []

-- all of it was taken
pub record IsBehindLine (line took : List ℕ) (reading : IdReading) (waiting : List ℕ) (h : LinkEnd) : Type 0 where
  pub text : List ℕ
  pub reading_is : reading ≡ Heard text
  pub heard : h.state.heard ≡ Some text
  pub unfinished : waiting ≡ h.unfinished
  pub took_is : took ≡ line ++ h.fed

-- How far a side has come with the other's bytes: with a part of its id line, or with all of it and what came behind.
abbrev pub HasCome : (line took : List ℕ) → IdReading → (waiting : List ℕ) → LinkEnd → Type 0
HasCome line took reading waiting h = IsInLine line took reading waiting h ⊎ IsBehindLine line took reading waiting h

-- A transport is a side of a link, which took these bytes of the other's wire.
pub record StandsAs (t : Talkers) (side : Side) (took : List ℕ) (s : Standing) (h : LinkEnd) : Type 0 where
  pub side_is : s.side ≡ side
  pub config_is : s.config ≡ t.config side
  pub state_is : s.state ≡ h.state
  pub live : s.failed ≡ false
  pub come : HasCome (id_line (t.config (other_side side)).id) took s.line s.waiting h

-- an id line is read as its text, and all of it
abbrev pub IsWholeId : Config → Type 0
IsWholeId config = id_of 0 (id_line config.id) ≡ Id (id_text config.id) (length (id_line config.id))

-- What a call on such a transport leads to: a turn, behind which it rests, and stands as the side again.
pub record GivesTurn (t : Talkers) (side : Side) (took : List ℕ) (events : List Event) (old new : Standing)
    (h peer : LinkEnd) : Type 0 where
  pub piece : List ℕ
  pub written : List ℕ
  pub behind : LinkEnd
  pub turn : TakesTurn t side h piece events peer behind
  pub stands : StandsAs t side took new behind
  pub rests : IsAtRest (t.config side) behind
  pub sent_is : behind.sent ≡ h.sent ++ written
  pub output_is : new.output ≡ old.output ++ written
  pub delivered_is : new.delivered ≡ old.delivered ++ delivered_in events

-- ---- the snapshot behind a turn

-- behind a turn of the client
abbrev pub client_behind : Snapshot → List Event → LinkEnd → SideMark → Snapshot
client_behind s events h m =
    record { world = record s.world { client = h }; cl = s.cl ++ events; sl = s.sl; mark = record s.mark { client = m } }

-- behind a turn of the server
abbrev pub server_behind : Snapshot → List Event → LinkEnd → SideMark → Snapshot
server_behind s events h m =
    record { world = record s.world { server = h }; cl = s.cl; sl = s.sl ++ events; mark = record s.mark { server = m } }
