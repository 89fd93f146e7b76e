-- What a step of a run changes, as it is tested by marks alone.
use Rattle.std.specs.Prelude.{◌≡◌, ℕ, ◌+◌, ◌-◌, ◌<◌, ◌≤◌, min, Bool, true, false, Option, Some, IfSome, if◌then◌else◌}
use Rattle.ssh_wire.specs.Sides.{other_side, same_side}
use Rattle.ssh_wire.specs.declared.side.Side.{Side}
use Rattle.ssh_wire.specs.declared.side.Side.TheVariants.{Client, Server}
use Rattle.ssh_rules.specs.Run.{mark_of}
use Rattle.ssh_rules.specs.declared.link.Mark.{Mark}
use Rattle.ssh_rules.specs.declared.link.SideMark.{SideMark}
use Rattle.ssh_rules.specs.declared.link.Step.{Step}
use Rattle.ssh_rules.specs.declared.link.Step.TheVariants.{Submit, Deliver, Rekey, Settle}
use Rattle.ssh_record.specs.declared.recording.SentPair.{SentPair}
use Rattle.ssh_judge.specs.declared.effect.Change.{Change}
use Rattle.ssh_judge.specs.declared.side.SideState.{SideState}

-- how much a side has sent
abbrev pub sent_of : Side → SentPair → ℕ
sent_of Client sent = sent.client
sent_of Server sent = sent.server

-- how much a side that took so much takes of so many bytes more
abbrev pub taken_more : ℕ → ℕ → ℕ → ℕ
taken_more taken sent count = taken + min count (sent - taken)

-- how much a side has taken behind a step, where so much is sent behind it
abbrev pub taken_after : Step → Side → Mark → SentPair → ℕ
taken_after (Submit s p) side m sent = (mark_of side m).taken
taken_after (Deliver s n) side m sent =
    if same_side s side then taken_more (mark_of side m).taken (mark_of (other_side side) m).sent n
    else (mark_of side m).taken
taken_after (Rekey s) side m sent = (mark_of side m).taken
taken_after Settle side m sent = sent_of (other_side side) sent

-- how many payloads were submitted to a side behind a step
abbrev pub submitted_after : Step → Side → ℕ → ℕ
submitted_after (Submit s p) side n = if same_side s side then n + 1 else n
submitted_after (Deliver s count) side n = n
submitted_after (Rekey s) side n = n
submitted_after Settle side n = n

-- a step asks the side for an exchange
abbrev pub asks_side : Step → Side → Bool
asks_side (Submit s p) side = false
asks_side (Deliver s n) side = false
asks_side (Rekey s) side = same_side s side
asks_side Settle side = false

-- how many exchanges were finished at a side's last rekey, behind a step before which so many were
abbrev pub rekeyed_behind : Step → Side → ℕ → Option ℕ → Option ℕ
rekeyed_behind step side finished before = if asks_side step side then Some finished else before

-- nothing of the side changed
abbrev pub StaysSame : Change → Type 0
StaysSame c = c.after ≡ c.before

-- no byte that was sent is gone
abbrev pub KeepsSent : Change → Type 0
KeepsSent c = c.before.sent ≤ c.after.sent

-- a side that is inside an exchange stays so
abbrev pub StaysInside : Change → Type 0
StaysInside c = c.before.inside ≡ true → c.after.inside ≡ true

-- inside an exchange nothing changes, and outside one is begun
pub record IsAsked (c : Change) : Type 0 where
  pub inside : c.before.inside ≡ true → StaysSame c
  pub sends : c.before.inside ≡ false → c.before.sent < c.after.sent
  pub begins : c.before.inside ≡ false → c.after.inside ≡ true

-- a step of one side changes both so; the first is the one that it names
abbrev pub ChangesOne : Step → Change → Change → Type 0
ChangesOne (Submit s p) own other = StaysSame other × KeepsSent own × StaysInside own
ChangesOne (Deliver s n) own other = StaysSame other × KeepsSent own
ChangesOne (Rekey s) own other = StaysSame other × IsAsked own
ChangesOne Settle own other = ⊥

-- A side is at rest behind a settle.
pub record Rests (half other : SideState) : Type 0 where
  pub taken : half.mark.taken ≡ other.mark.sent
  pub outside : half.mark.inside ≡ false
  pub delivered : half.mark.delivered ≡ other.mark.submitted
  pub same_finished : half.mark.finished ≡ other.mark.finished
  pub finished : 1 ≤ half.mark.finished
  pub rekeyed : IfSome half.rekeyed (λ n. n < half.mark.finished)

-- a side before a step and behind it
abbrev pub change_of : SideMark → SideMark → Change
change_of before after = record { before = before; after = after }

-- a step changes both sides as its effect asks, as far as marks show it
abbrev pub HasChanged : Step → Mark → SideState → SideState → Type 0
HasChanged (Submit Client p) m client server =
    ChangesOne (Submit Client p) (change_of m.client client.mark) (change_of m.server server.mark)
HasChanged (Submit Server p) m client server =
    ChangesOne (Submit Server p) (change_of m.server server.mark) (change_of m.client client.mark)
HasChanged (Deliver Client n) m client server =
    ChangesOne (Deliver Client n) (change_of m.client client.mark) (change_of m.server server.mark)
HasChanged (Deliver Server n) m client server =
    ChangesOne (Deliver Server n) (change_of m.server server.mark) (change_of m.client client.mark)
HasChanged (Rekey Client) m client server =
    ChangesOne (Rekey Client) (change_of m.client client.mark) (change_of m.server server.mark)
HasChanged (Rekey Server) m client server =
    ChangesOne (Rekey Server) (change_of m.server server.mark) (change_of m.client client.mark)
HasChanged Settle m client server = Rests client server × Rests server client
    × KeepsSent (change_of m.client client.mark) × KeepsSent (change_of m.server server.mark)
