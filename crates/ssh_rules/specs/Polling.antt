-- What a call does that lends one payload in place of queueing it.
use Rattle.std.specs.Prelude.{◌≡◌, ℕ, ◌≤◌, true, List, [], ◌∷◌, ◌++◌, length, Option, Some, None, ◌⊎◌}
use Rattle.ssh_wire.specs.Lines as lines
use Rattle.ssh_wire.specs.Lines.{id_of, id_text}
use Rattle.ssh_wire.specs.Reading.{IdReading, Waiting, Heard, Failed, still_allowed}
use Rattle.ssh_wire.specs.declared.side.Side.{Side}
use Rattle.ssh_packet.specs.Front.{Whole, front_of}
use Rattle.ssh_packet.specs.Sealing.{Item}
use Rattle.ssh_packet.specs.Writing.{count_after}
use Rattle.ssh_kex.specs.Setting.{Says}
use Rattle.ssh_kex.specs.declared.config.Config.{Config}
use Rattle.ssh_rules.specs.Asking.{kex_count}
use Rattle.ssh_rules.specs.Log.{delivered_in, handled, read_bytes}
use Rattle.ssh_rules.specs.Machine.{Event, Outside, SideState, Steps}
use Rattle.ssh_rules.specs.MessageTypes.{is_kex_type, type_of}
use Rattle.ssh_rules.specs.Standing.{Acts, IsInput, ReadsIdLine, Standing, TakesInput, lets_pass}

-- a payload behind those that are queued
abbrev pub queued : Standing → List ℕ → Standing
queued t payload = record t { delivered = t.delivered ++ payload ∷ [] }

-- What was kept of the input was handled up to and with the first packet that is delivered, and what that asks for was
-- done. Were its payload queued, all would be as if the packets had been fed; but it is lent.
pub record LendsPayload (says : Says) (old : Standing) (payload : List ℕ) (new : Standing) : Type 0 where
  pub events : List Event
  pub acts : Acts says old events (queued new payload)
  pub input : IsInput events
  pub unqueued : new.delivered ≡ old.delivered
  pub lent : delivered_in events ≡ payload ∷ []
  -- the last packet that was handled
  pub before : List Item
  pub item : Item
  pub last : handled events ≡ before ++ item ∷ []
  pub payload_is : item.payload ≡ payload
  pub behind : List ℕ
  pub line : ReadsIdLine old [] events new.line behind
  pub read : behind ≡ read_bytes old.side old.state.reading events ++ new.waiting

-- by what is lent: nothing where all that was whole was handled, and none of it is delivered
abbrev pub Polls : Says → Standing → Option (List ℕ) → Standing → Type 0
Polls says old None new = TakesInput says old [] new × (new.delivered ≡ old.delivered)
Polls says old (Some payload) new = LendsPayload says old payload new

-- ---- where memory may be wanting

-- the id line's end is read
abbrev pub EndsLine : Side → IdReading → Type 0
EndsLine side (Waiting bytes others) =
    (text : List ℕ) × (end : ℕ) × (id_of (still_allowed (lets_pass side) others) bytes ≡ lines.Id text end)
EndsLine side (Heard text) = ⊥
EndsLine side Failed = ⊥

-- some packets were handled, and these bytes are left
pub record HandlesTo (says : Says) (old : Standing) (events : List Event) (at : SideState) (left : List ℕ) : Type 0 where
  pub steps : Steps says old.side old.config (id_text old.config.id) old.state events at
  pub behind : List ℕ
  pub line : IdReading
  pub heard : ReadsIdLine old [] events line behind
  pub read : behind ≡ read_bytes old.side old.state.reading events ++ left

-- the next packet is a message of an exchange, or with it the limit of what is read is reached outside one
pub record IsCostly (config : Config) (at : SideState) (left : List ℕ) : Type 0 where
  pub item : Item
  pub rest : List ℕ
  pub next : front_of at.reading.sealing at.reading.number left ≡ Whole item rest
  pub costs : (is_kex_type (type_of item) ≡ true)
      ⊎ ((at.stands ≡ Outside) × (config.limits.rekey_read_limit ≤ count_after at.read (length item.payload)))

-- Of the packets behind the line one that was handled is a message of an exchange, or the next one is costly. None that
-- was handled is delivered.
pub record WantsBehind (says : Says) (old : Standing) : Type 0 where
  pub events : List Event
  pub at : SideState
  pub left : List ℕ
  pub handles : HandlesTo says old events at left
  pub unlent : delivered_in events ≡ []
  pub at_cost : (1 ≤ kex_count (handled events)) ⊎ IsCostly old.config at left

-- where memory may be wanting: the id line's end is read, or there
abbrev pub MayWant : Says → Standing → Type 0
MayWant says old = EndsLine old.side old.line ⊎ WantsBehind says old
