-- Where a run is refused for a message that came.
use Rattle.std.specs.Prelude.{◌≡◌, Bool, true, false, List, drop}
use Rattle.ssh_wire.specs.declared.side.Side.{Side}
use Rattle.ssh_channels.specs.Asking.{RefusesOneOf}
use Rattle.ssh_channels.specs.declared.fault.MuxFault.{MuxFault}
use Rattle.ssh_channels.specs.declared.fault.MuxFault.TheVariants as mux
use Rattle.ssh_run.specs.Stepping.{LinkState}
use Rattle.ssh_mux.specs.Running.{Both, Called, Carries, PairOnLink, RunsSteps, delivered_at, side_at, state_at}
use Rattle.ssh_mux.specs.declared.fault.RunFault.{RunFault}
use Rattle.ssh_mux.specs.declared.fault.RunFault.TheVariants.{Config, Link, Mux}
use Rattle.ssh_mux.specs.declared.step.ChannelStep.{ChannelStep}

-- whether a side refused a message that came
abbrev pub is_message_fault : MuxFault → Bool
is_message_fault (mux.Encoding fault) = true
is_message_fault (mux.Unexpected message_type channel) = true
is_message_fault (mux.Window channel left got) = true
is_message_fault (mux.Unknown channel) = false
is_message_fault (mux.Ended channel) = false
is_message_fault mux.Full = false
is_message_fault mux.Memory = false

-- whether a run is refused for a message that came
abbrev pub is_message_refused : RunFault → Bool
is_message_refused Config = false
is_message_refused (Mux fault) = is_message_fault fault
is_message_refused (Link e) = false

abbrev pub IsNoMessageFault : RunFault → Type 0
IsNoMessageFault fault = is_message_refused fault ≡ false

-- A side refuses one of the payloads that the link delivered to it and that it hasn't received.
pub record BreaksNow (fault : RunFault) (s : PairOnLink) : Type 0 where
  pub side : Side
  pub due : MuxFault
  pub fault_is : fault ≡ Mux due
  pub breaks : RefusesOneOf (drop (side_at side s.both).received (delivered_at side s.link)) (state_at side s.both) due

-- What was carried led to a moment on this link, in which a side refuses a payload.
pub record BreaksAt (fault : RunFault) (old : PairOnLink) (l : LinkState) : Type 0 where
  pub both : Both
  pub carries : Carries old (record { both = both; link = l })
  pub breaks : BreaksNow fault (record { both = both; link = l })

-- Some steps were carried out, and the call of the next one was answered, before a side refuses a payload.
pub record BreaksRun (fault : RunFault) (old : PairOnLink) (l : LinkState) : Type 0 where
  pub done : List ChannelStep
  pub step : ChannelStep
  pub mid : PairOnLink
  pub run : RunsSteps done old mid
  pub called : Both
  pub call : Called step mid.both called
  pub at : BreaksAt fault (record { both = called; link = mid.link }) l
