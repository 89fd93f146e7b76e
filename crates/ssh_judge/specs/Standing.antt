-- Where both sides stand at a mark: what their tallies counted is what the packets of a moment show.
use Rattle.std.specs.Prelude.{◌≡◌, ◌⊎◌, ◌↔◌, ℕ, ◌+◌, ◌<◌, ◌≤◌, ◌^◌, max, List, [], ◌∷◌, ◌++◌, length, map, take, slice_get, Bool, true, false, IsTrue, Some, None}
use Rattle.ssh_wire.specs.declared.side.Side.{Side}
use Rattle.ssh_wire.specs.declared.side.Side.TheVariants.{Client, Server}
use Rattle.ssh_packet.specs.Sealing.{Item}
use Rattle.ssh_kex.specs.declared.config.Config.{Config}
use Rattle.ssh_rules.specs.Marks.{Half, due, kexinits}
use Rattle.ssh_rules.specs.Run.{IsMoment, Moment, OwnCause, WrittenAt, mark_of, own_of}
use Rattle.ssh_rules.specs.Wire.{LiesWhole}
use Rattle.ssh_rules.specs.declared.link.Mark.{Mark}
use Rattle.ssh_rules.specs.declared.link.SideMark.{SideMark}
use Rattle.ssh_rules.specs.declared.link.Step.{Step}
use Rattle.ssh_record.specs.declared.recording.SentPair.{SentPair}
use Rattle.ssh_record.specs.Growing.{RunGoesOn, rekeyed}
use Rattle.ssh_record.specs.Runs.{sent_at}
use Rattle.ssh_transcript.specs.declared.packet.Packet.{Packet}
use Rattle.ssh_judge.specs.Effects.{HasChanged, asks_side, rekeyed_behind, sent_of, submitted_after, taken_after}
use Rattle.ssh_judge.specs.Tallies.{Advances, Counts, CountsFront, IsKeptHalf, counted_in, line_of}
use Rattle.ssh_judge.specs.declared.side.SideFacts.{SideFacts}
use Rattle.ssh_judge.specs.declared.side.Reach.{Reach}
use Rattle.ssh_judge.specs.declared.side.SideState.{SideState}
use Rattle.ssh_judge.specs.declared.tally.Tally.{Tally}
use Rattle.ssh_judge.specs.declared.run.RunState.{RunState}

-- the mark that both sides stand at
abbrev pub marks_at : RunState → Mark
marks_at run = record { client = run.client.mark; server = run.server.mark }

-- ---- one side, by its counts alone

-- what a side's configuration and wire say
pub record AreFactsFor (side : Side) (config : Config) (long line : ℕ) (kept : List Packet) (f : SideFacts) : Type 0 where
  pub side_is : f.side ≡ side
  pub packets_are : f.packets.now ≡ kept
  pub line_is : f.line ≡ line
  pub length_is : f.length ≡ long
  pub write_is : f.write_limit ≡ config.limits.rekey_write_limit
  pub read_is : f.read_limit ≡ config.limits.rekey_read_limit

-- a side that has sent its version line alone, and taken nothing
pub record IsNew (facts : SideFacts) (other_line : ℕ) (s : SideState) : Type 0 where
  pub facts_are : s.facts ≡ facts
  pub own : Counts [] s.own
  pub own_none : s.own.packets ≡ 0
  pub own_end : s.own.end ≡ facts.line
  pub theirs : Counts [] s.theirs
  pub theirs_none : s.theirs.packets ≡ 0
  pub theirs_end : s.theirs.end ≡ other_line
  pub mark_is : s.mark ≡ record {
    sent = facts.line;
    taken = 0;
    delivered = 0;
    finished = 0;
    inside = true;
    submitted = 0;
  }
  pub causes_none : s.causes.items ≡ []
  pub rekeyed_none : s.rekeyed ≡ None

-- a tally counts on over the front of a half's wire
abbrev pub CountsOn : List Packet → ℕ → Tally → Tally → Type 0
CountsOn kept reach t t' = (kind : Bool) (h : Half) (items : List Item) → IsKeptHalf kind h items kept
    → CountsFront (line_of h) items kept t → Advances (line_of h) items kept reach t t'

-- a side comes so far: its tallies count on, and its mark says what they show
pub record ComesTo (others : List Packet) (reach : Reach) (s s' : SideState) : Type 0 where
  pub facts : s'.facts ≡ s.facts
  pub own : CountsOn s.facts.packets.now reach.sent s.own s'.own
  pub theirs : CountsOn others reach.taken s.theirs s'.theirs
  pub causes : s'.causes ≡ s.causes
  pub rekeyed : s'.rekeyed ≡ s.rekeyed
  pub sent : s'.mark.sent ≡ reach.sent
  pub taken : s'.mark.taken ≡ reach.taken
  pub submitted : s'.mark.submitted ≡ reach.submitted
  pub delivered : s'.mark.delivered ≡ s'.theirs.carried
  pub finished : s'.mark.finished ≡ length s'.theirs.ended.items
  pub inside : IsTrue s'.mark.inside ↔ (s'.mark.finished < max 1 s'.own.kexinits)

-- what was sent ends with a packet, and no more was taken than was sent
pub record AreAtPackets (half other : SideState) : Type 0 where
  pub sent : half.own.end ≡ half.mark.sent
  pub within : half.mark.sent ≤ half.facts.length
  pub taken : half.mark.taken ≤ other.mark.sent

-- outside an exchange all that was submitted is sent, and no limit is reached
pub record IsQuiet (half : SideState) : Type 0 where
  pub sent : half.mark.inside ≡ false → half.mark.submitted ≤ half.own.carried
  pub written : half.mark.inside ≡ false → half.own.epoch_bytes < half.facts.write_limit
  pub read : half.mark.inside ≡ false → half.theirs.epoch_bytes < half.facts.read_limit

-- the first exchange is begun exactly where the other's version line was taken
abbrev pub HasStarted : SideState → SideState → Type 0
HasStarted half other = (0 < half.own.kexinits) ↔ (other.facts.line ≤ half.mark.taken)

-- an exchange that the other began is begun too, and each message that is due is written
pub record IsPrompt (half : SideState) (kind : Bool) : Type 0 where
  pub answers : half.theirs.kexinits ≤ max 1 half.own.kexinits
  pub same : 0 < half.own.kexinits → half.theirs.kexinits ≡ half.own.kexinits
      → half.own.messages ≡ due half.facts.side kind half.theirs.messages
  pub less : 0 < half.own.kexinits → half.theirs.kexinits < half.own.kexinits
      → half.own.messages ≡ due half.facts.side kind 0

-- a side stands at its mark as a side of a run does
pub record StandsMarked (half other : SideState) (kind : Bool) : Type 0 where
  pub at_packets : AreAtPackets half other
  pub quiet : IsQuiet half
  pub started : HasStarted half other
  pub prompt : IsPrompt half kind

-- a side comes by a step to where so much is sent behind it
pub record ComesSide (step : Step) (side : Side) (m : Mark) (sent : SentPair) (others : List Packet) (s s' : SideState) : Type 0 where
  pub facts : s'.facts ≡ s.facts
  pub own : CountsOn s.facts.packets.now (sent_of side sent) s.own s'.own
  pub theirs : CountsOn others (taken_after step side m sent) s.theirs s'.theirs
  pub causes : s'.causes ≡ s.causes
  pub rekeyed : s'.rekeyed ≡ rekeyed_behind step s.facts.side s.mark.finished s.rekeyed
  pub sent_is : s'.mark.sent ≡ sent_of side sent
  pub taken_is : s'.mark.taken ≡ taken_after step side m sent
  pub submitted_is : (mark_of side m).submitted + 1 < 2 ^ 64
      → s'.mark.submitted ≡ submitted_after step side (mark_of side m).submitted
  pub delivered : s'.mark.delivered ≡ s'.theirs.carried
  pub finished : s'.mark.finished ≡ length s'.theirs.ended.items
  pub inside : IsTrue s'.mark.inside ↔ (s'.mark.finished < max 1 s'.own.kexinits)

-- both sides come by a step to where so much is sent behind it
pub record ComesBoth (step : Step) (sent : SentPair) (run run' : RunState) : Type 0 where
  pub kind_is : run'.kind ≡ run.kind
  pub client : ComesSide step Client (marks_at run) sent run.server.facts.packets.now run.client run'.client
  pub server : ComesSide step Server (marks_at run) sent run.client.facts.packets.now run.server run'.server

-- where the step is a rekey of the side and it was outside an exchange, it began one exchange
pub record BeginsOneMore (step : Step) (m : SideMark) (s : SideState) : Type 0 where
  pub one : asks_side step s.facts.side ≡ true → m.inside ≡ false → s.own.kexinits ≡ length s.causes.items + 1

-- both sides stand behind a step as sides of a run do
pub record StandBehind (step : Step) (m : Mark) (run : RunState) : Type 0 where
  pub changed : HasChanged step m run.client run.server
  pub client : StandsMarked run.client run.server run.kind
  pub server : StandsMarked run.server run.client run.kind
  pub client_begins : BeginsOneMore step m.client run.client
  pub server_begins : BeginsOneMore step m.server run.server

-- ---- causes, by counts

-- exchange k was asked for in this step, or a limit was reached in the epoch before it; the first needs no cause
abbrev pub HasOwnCause : SideState → Step → ℕ → Type 0
HasOwnCause half step k = (k ≡ 0) ⊎ (asks_side step half.facts.side ≡ true)
    ⊎ (half.facts.write_limit ≤ counted_in k half.own) ⊎ (half.facts.read_limit ≤ counted_in k half.theirs)

-- of each exchange that the side began in this step it is kept whether it had a cause of its own
pub record KeepsCauses (step : Step) (half half' : SideState) : Type 0 where
  pub facts : half'.facts ≡ half.facts
  pub own : half'.own ≡ half.own
  pub theirs : half'.theirs ≡ half.theirs
  pub mark : half'.mark ≡ half.mark
  pub rekeyed : half'.rekeyed ≡ half.rekeyed
  pub before : (k : ℕ) → k < length half.causes.items → slice_get half'.causes.items k ≡ slice_get half.causes.items k
  pub now : (k : ℕ) → length half.causes.items ≤ k → k < half.own.kexinits
      → (slice_get half'.causes.items k ≡ Some true) ↔ HasOwnCause half step k
  pub many : length half'.causes.items ≡ max (length half.causes.items) half.own.kexinits

-- of each exchange that both sides began in this step it is kept whether it had a cause of its own
pub record KeepsBothCauses (step : Step) (run run' : RunState) : Type 0 where
  pub kind_is : run'.kind ≡ run.kind
  pub client : KeepsCauses step run.client run'.client
  pub server : KeepsCauses step run.server run'.server

-- each exchange from this one on had a cause of its own, or follows one of the other side that had
abbrev pub HaveCausesFrom : SideState → SideState → ℕ → Type 0
HaveCausesFrom half other from = (k : ℕ) → from ≤ k → k < half.own.kexinits
    → (slice_get half.causes.items k ≡ Some true)
    ⊎ ((k < half.theirs.kexinits) × (slice_get other.causes.items k ≡ Some true))

-- ---- one side, by packets

-- what a side is measured by is that of a half
abbrev pub AreFactsOf : Half → List Packet → SideFacts → Type 0
AreFactsOf h kept f = AreFactsFor h.side h.config (length h.wire) (line_of h) kept f

-- A tally has counted the packets that lie whole in the first so many bytes of a half's wire.
pub record CountsWhole (h : Half) (items : List Item) (kept : List Packet) (reach : ℕ) (t : Tally) : Type 0 where
  pub front : CountsFront (line_of h) items kept t
  pub reached : 0 < t.packets → t.end ≤ reach
  pub whole : LiesWhole h.side h.config h.exchanges h.wire reach (take t.packets items)

-- A side's counts and its mark are those of its packets.
pub record ShowsSide (half other : Half) (own theirs : List Item) (own_kept their_kept : List Packet) (s : SideState) : Type 0 where
  pub facts : AreFactsOf half own_kept s.facts
  pub counts_own : CountsWhole half own own_kept s.mark.sent s.own
  pub counts_theirs : CountsWhole other theirs their_kept s.mark.taken s.theirs
  pub delivered : s.mark.delivered ≡ s.theirs.carried
  pub finished : s.mark.finished ≡ length s.theirs.ended.items
  pub inside : IsTrue s.mark.inside ↔ (s.mark.finished < max 1 s.own.kexinits)

-- ---- both sides

-- the wires of a run, and what is kept of them
pub record Wires : Type 0 where
  pub kind : Bool
  pub client : Half
  pub server : Half
  pub client_items : List Item
  pub server_items : List Item
  pub client_kept : List Packet
  pub server_kept : List Packet

-- each is read whole, in blocks, and the halves are the client's and the server's
pub record AreWires (w : Wires) : Type 0 where
  pub client : IsKeptHalf w.kind w.client w.client_items w.client_kept
  pub server : IsKeptHalf w.kind w.server w.server_items w.server_kept
  pub client_is : w.client.side ≡ Client
  pub server_is : w.server.side ≡ Server

-- the moment that both sides stand at
abbrev pub moment_at : Wires → RunState → Moment
moment_at w run = record {
  mark = marks_at run;
  client_own = take run.client.own.packets w.client_items;
  client_theirs = take run.client.theirs.packets w.server_items;
  server_own = take run.server.own.packets w.server_items;
  server_theirs = take run.server.theirs.packets w.client_items;
}

-- both sides' counts and marks are those of their packets
pub record ShowsRun (w : Wires) (run : RunState) : Type 0 where
  pub kind_is : run.kind ≡ w.kind
  pub client : ShowsSide w.client w.server w.client_items w.server_items w.client_kept w.server_kept run.client
  pub server : ShowsSide w.server w.client w.server_items w.client_items w.server_kept w.client_kept run.server

-- A run's state before the first step: each side has sent its version line alone, and taken nothing.
pub record IsFirstOf (w : Wires) (run : RunState) : Type 0 where
  pub kind_is : run.kind ≡ w.kind
  pub client_facts : AreFactsOf w.client w.client_kept run.client.facts
  pub client : IsNew run.client.facts (line_of w.server) run.client
  pub server_facts : AreFactsOf w.server w.server_kept run.server.facts
  pub server : IsNew run.server.facts (line_of w.client) run.server

-- these flags say of each exchange that a side began up to the last moment whether it had a cause of its own
pub record AreFlags (steps : List Step) (moments : List Moment) (last : Moment) (half : Half) (flags : List Bool) : Type 0 where
  pub many : length flags ≡ kexinits (own_of half.side last)
  pub below : (i : ℕ) (m : Moment) → slice_get moments i ≡ Some m → kexinits (own_of half.side m) ≤ length flags
  pub each : (k : ℕ) → 1 ≤ k → k < length flags
      → (slice_get flags k ≡ Some true) ↔ ((i : ℕ) × WrittenAt moments half.side k i × OwnCause steps moments half k i)
  pub first : 0 < length flags → slice_get flags 0 ≡ Some true

-- A run's state stands at the last of these moments, behind these steps.
pub record StandsAtLast (w : Wires) (steps : List Step) (front : List Moment) (marks : List Mark) (run : RunState) : Type 0 where
  pub wires : AreWires w
  pub shows : ShowsRun w run
  pub moment : IsMoment w.kind w.client w.server (moment_at w run)
  pub many : length front ≡ length steps
  pub marks_are : marks ≡ map (λ (m : Moment). m.mark) (front ++ moment_at w run ∷ [])
  pub client_rekeyed : run.client.rekeyed ≡ rekeyed Client None steps marks
  pub server_rekeyed : run.server.rekeyed ≡ rekeyed Server None steps marks
  pub client_causes : AreFlags steps (front ++ moment_at w run ∷ []) (moment_at w run) w.client run.client.causes.items
  pub server_causes : AreFlags steps (front ++ moment_at w run ∷ []) (moment_at w run) w.server run.server.causes.items
  pub client_submitted : run.client.mark.submitted ≤ length steps
  pub server_submitted : run.server.mark.submitted ≤ length steps

-- ---- one step

-- Behind a step the run goes on to this state, whose mark this is.
abbrev pub GoesOnTo : Step → RunState → Mark → RunState → Type 0
GoesOnTo step run m run' = (w : Wires) (steps : List Step) (front : List Moment) (marks : List Mark)
    → StandsAtLast w steps front marks run → length steps + 1 < 2 ^ 64
    → RunGoesOn w.kind w.client w.server steps front (moment_at w run) marks step (moment_at w run')
    × StandsAtLast w (steps ++ step ∷ []) (front ++ moment_at w run ∷ []) (marks ++ m ∷ []) run' × (m ≡ marks_at run')

-- Where so much is sent behind it, the run goes on to no moment.
abbrev pub StopsAt : Step → SentPair → RunState → Type 0
StopsAt step sent run = (w : Wires) (steps : List Step) (front : List Moment) (marks : List Mark)
    → StandsAtLast w steps front marks run → length steps + 1 < 2 ^ 64 → (after : Moment) → sent_at after.mark ≡ sent
    → RunGoesOn w.kind w.client w.server steps front (moment_at w run) marks step after → ⊥

-- each exchange that both sides began in a step has a cause
abbrev pub HaveBothCauses : RunState → RunState → Type 0
HaveBothCauses run run' = HaveCausesFrom run'.client run'.server (length run.client.causes.items)
    × HaveCausesFrom run'.server run'.client (length run.server.causes.items)

-- both sides stand at their marks as sides of a run do
abbrev pub AreStanding : RunState → Type 0
AreStanding run = StandsMarked run.client run.server run.kind × StandsMarked run.server run.client run.kind
