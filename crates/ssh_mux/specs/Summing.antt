-- The channels of a run, from both sides.
use Rattle.std.specs.Prelude.{ℕ, ◌+◌, ◌-◌, ◌^◌, min, ◌==◌, ◌&&◌, not, Bool, true, false, if◌then◌else◌, List, [], ◌∷◌, ◌++◌, slice_get, Option, Some, None}
use Rattle.std.specs.Int.{from_be_bytes, w32}
use Rattle.std.specs.List.{flat_map, list_any}
use Rattle.ssh_wire.specs.declared.side.Side.{Side}
use Rattle.ssh_wire.specs.declared.side.Side.TheVariants.{Client, Server}
use Rattle.ssh_rules.specs.declared.link.Step.{Step}
use Rattle.ssh_rules.specs.declared.link.Step.TheVariants.{Submit, Deliver, Rekey, Settle}
use Rattle.ssh_channels.specs.declared.end.End.{End}
use Rattle.ssh_channels.specs.Muxes.{Channel}
use Rattle.ssh_channels.specs.declared.end.Phase.{Phase}
use Rattle.ssh_channels.specs.declared.end.Phase.TheVariants.{Silent, Talking, Ended, Shut, Failed}
use Rattle.ssh_mux.specs.declared.report.ChannelReport.{ChannelReport}
use Rattle.ssh_mux.specs.declared.report.Flow.{Flow}
use Rattle.ssh_mux.specs.declared.summing.Flows.{Flows}

abbrev pub is_shut : Phase → Bool
is_shut Silent = false
is_shut Talking = false
is_shut Ended = false
is_shut Shut = true
is_shut Failed = false

-- what went from one end to another
abbrev pub flow_between : (writer reader : End) → Flow
flow_between writer reader = record { written = writer.written; received = reader.received; read = reader.read; window = reader.window; ended = reader.ended }

abbrev pub both_flows : (own other : End) → Flows
both_flows own other = record {
  closed = is_shut own.said && is_shut other.said;
  to_other = flow_between own other;
  to_opener = flow_between other own;
}

-- what went from and to an end alone
abbrev pub lone_flows : End → Flows
lone_flows own = record {
  closed = false;
  to_other = record { written = own.written; received = []; read = 0; window = 0; ended = false };
  to_opener = record { written = []; received = own.received; read = own.read; window = own.window; ended = own.ended };
}

abbrev pub flows_of : End → Option Channel → Flows
flows_of own None = lone_flows own
flows_of own (Some c) = both_flows own c.end

-- the number behind this one; it stops at its end
abbrev pub next_number : ℕ → ℕ
next_number n = min (n + 1) (2 ^ 32 - 1)

-- the number of the channel that grants an opening, where the first has this number
abbrev pub granted_number : ℕ → List Channel → (opening : ℕ) → Option ℕ
granted_number n [] opening = None
granted_number n (c ∷ others) opening = if not c.started && (c.peer == opening) then Some n else granted_number (next_number n) others opening

abbrev pub granted_channel : List Channel → Option ℕ → Option Channel
granted_channel others None = None
granted_channel others (Some n) = slice_get others n

abbrev pub is_refused_in : List ℕ → ℕ → Bool
is_refused_in refusals number = list_any (λ n. n == number) refusals

-- the report of a channel of a side
abbrev pub channel_from : Side → ℕ → (refused : Bool) → (granted : Option ℕ) → Flows → ChannelReport
channel_from opener number refused granted flows = record {
  opener = opener;
  opener_number = number;
  other_number = granted;
  refused = refused;
  closed = flows.closed;
  to_other = flows.to_other;
  to_opener = flows.to_opener;
}

abbrev pub channel_of : Side → ℕ → End → (others : List Channel) → (refusals : List ℕ) → ChannelReport
channel_of opener number own others refusals = channel_from opener number (is_refused_in refusals number) (granted_number 0 others number)
    (flows_of own (granted_channel others (granted_number 0 others number)))

-- the channel with this number, if its side asked for it
abbrev pub one_channel : Side → ℕ → Channel → (others : List Channel) → (refusals : List ℕ) → List ChannelReport
one_channel opener number c others refusals = if c.started then channel_of opener number c.end others refusals ∷ [] else []

-- those that a side asked for, where the first has this number
abbrev pub channels_from : Side → ℕ → (openers others : List Channel) → (refusals : List ℕ) → List ChannelReport
channels_from opener number [] others refusals = []
channels_from opener number (c ∷ openers) others refusals =
    one_channel opener number c others refusals ++ channels_from opener (next_number number) openers others refusals

-- what a step submits of a side; nothing where it is no such step
abbrev pub same_side : Side → Side → Bool
same_side Client Client = true
same_side Client Server = false
same_side Server Client = false
same_side Server Server = true

abbrev pub submitted_by_step : Side → Step → List ℕ
submitted_by_step of (Submit side payload) = if same_side side of then payload else []
submitted_by_step of (Deliver side count) = []
submitted_by_step of (Rekey side) = []
submitted_by_step of Settle = []

-- the number of the channel that a payload refuses: that behind the number of an open failure
abbrev pub refusal_at : Bool → List ℕ → List ℕ
refusal_at false fields = []
refusal_at true [] = []
refusal_at true (a ∷ []) = []
refusal_at true (a ∷ b ∷ []) = []
refusal_at true (a ∷ b ∷ c ∷ []) = []
refusal_at true (a ∷ b ∷ c ∷ d ∷ rest) = from_be_bytes w32 (a ∷ b ∷ c ∷ d ∷ []) ∷ []

abbrev pub refusal_in : List ℕ → List ℕ
refusal_in [] = []
refusal_in (message_type ∷ fields) = refusal_at (message_type == 92) fields

abbrev pub refusals_in : Side → List Step → List ℕ
refusals_in of steps = flat_map (λ step. refusal_in (submitted_by_step of step)) steps

-- the channels of both sides, the client's first
abbrev pub all_channels : (client server : List Channel) → List Step → List ChannelReport
all_channels client server steps = channels_from Client 0 client server (refusals_in Server steps)
    ++ channels_from Server 0 server client (refusals_in Client steps)
