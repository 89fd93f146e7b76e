-- What calls and payloads do to both sides of a run.
use Rattle.std.specs.Prelude.{◌≡◌, ℕ, ◌+◌, ◌≤◌, Bool, true, false, List, [], ◌∷◌, ◌++◌, ◌⊎◌, drop, length, max, replicate, Option, Some, None}
use Rattle.ssh_wire.specs.Sides.{other_side}
use Rattle.ssh_wire.specs.declared.side.Side.{Side}
use Rattle.ssh_wire.specs.declared.side.Side.TheVariants.{Client, Server}
use Rattle.ssh_rules.specs.Wire.{HasFront}
use Rattle.ssh_rules.specs.declared.link.Step.{Step}
use Rattle.ssh_rules.specs.declared.link.Step.TheVariants as steps
use Rattle.ssh_run.specs.Carrying.{CarriedLink, both_marks}
use Rattle.ssh_run.specs.Stepping.{LinkState, first_link_state, report_so_far}
use Rattle.ssh_channels.specs.Asking.{Answers, MuxState, request_fault, ReceivesAll}
use Rattle.ssh_channels.specs.Ends as ends
use Rattle.ssh_channels.specs.Muxes.{On, Request}
use Rattle.ssh_channels.specs.Muxes as muxes
use Rattle.ssh_channels.specs.declared.fault.MuxFault.{MuxFault}
use Rattle.ssh_channels.specs.declared.fault.MuxFault.TheVariants as mux
use Rattle.ssh_mux.specs.Pairs.{new_pair}
use Rattle.ssh_mux.specs.Summing.{all_channels}
use Rattle.ssh_mux.specs.declared.fault.RunFault.{RunFault}
use Rattle.ssh_mux.specs.declared.fault.RunFault.TheVariants.{Config, Link, Mux}
use Rattle.ssh_mux.specs.declared.pair.Pair.{Pair}
use Rattle.ssh_mux.specs.declared.pair.PairConfig.{PairConfig}
use Rattle.ssh_mux.specs.declared.pair.PairSide.{PairSide}
use Rattle.ssh_mux.specs.declared.report.MuxEnd.{MuxEnd}
use Rattle.ssh_mux.specs.declared.report.MuxReport.{MuxReport}
use Rattle.ssh_mux.specs.declared.step.ChannelStep.{ChannelStep}
use Rattle.ssh_mux.specs.declared.step.ChannelStep.TheVariants.{Start, Write, Read, Eof, Close, Deliver, Rekey, Settle}

-- both sides, each with how many of the payloads that were delivered to it it received
pub record Both : Type 0 where
  pub client : PairSide
  pub server : PairSide

abbrev pub both_of : Pair → Both
both_of p = record { client = p.client; server = p.server }

abbrev pub side_at : Side → Both → PairSide
side_at Client b = b.client
side_at Server b = b.server

abbrev pub state_at : Side → Both → MuxState
state_at side b = (side_at side b).mux

-- a side that does this in place of what it did
abbrev pub with_state : Side → MuxState → Both → Both
with_state Client s b = record { client = record { mux = s; received = b.client.received }; server = b.server }
with_state Server s b = record { client = b.client; server = record { mux = s; received = b.server.received } }

-- both sides, and the link between them
pub record PairOnLink : Type 0 where
  pub both : Both
  pub link : LinkState

abbrev pub on_link : Pair → LinkState → PairOnLink
on_link p l = record { both = both_of p; link = l }

-- the call that a step makes, and its side
abbrev pub request_of : ChannelStep → Option (Side × Request)
request_of (Start side) = Some (side, muxes.Start)
request_of (Write side channel bytes) = Some (side, On channel (ends.Write bytes))
request_of (Read side channel n) = Some (side, On channel (ends.Read n))
request_of (Eof side channel) = Some (side, On channel ends.CallEof)
request_of (Close side channel) = Some (side, On channel ends.CallClose)
request_of (Deliver side count) = None
request_of (Rekey side) = None
request_of Settle = None

-- a call that a side answered; the other side is as it was
abbrev pub IsCall : Side → Request → (old new : Both) → Type 0
IsCall side request old new = Answers request (state_at side old) (state_at side new) × ((side_at side new).received ≡ (side_at side old).received)
    × (side_at (other_side side) new ≡ side_at (other_side side) old)

abbrev pub CalledAs : Option (Side × Request) → (old new : Both) → Type 0
CalledAs None old new = new ≡ old
CalledAs (Some call) old new = IsCall call.0 call.1 old new

-- the call of a step was answered, if it makes one
abbrev pub Called : ChannelStep → (old new : Both) → Type 0
Called step old new = CalledAs (request_of step) old new

abbrev pub fault_as : Option (Side × Request) → Both → Option MuxFault
fault_as None b = None
fault_as (Some call) b = request_fault call.1 (state_at call.0 b).side

-- why the call of a step is refused
abbrev pub step_fault : ChannelStep → Both → Option MuxFault
step_fault step b = fault_as (request_of step) b

-- the payloads that the link delivered to a side
abbrev pub delivered_at : Side → LinkState → List (List ℕ)
delivered_at Client l = l.carried.client.delivered
delivered_at Server l = l.carried.server.delivered

-- A side received those of some delivered payloads that it hadn't received, in their order.
pub record ReceivesNew (side : Side) (delivered : List (List ℕ)) (old new : Both) : Type 0 where
  pub takes : ReceivesAll (drop (side_at side old).received delivered) (state_at side old) (state_at side new)
  pub received : (side_at side new).received ≡ max (side_at side old).received (length delivered)
  pub other : side_at (other_side side) new ≡ side_at (other_side side) old

abbrev pub is_submit : Step → Bool
is_submit (steps.Submit side payload) = true
is_submit (steps.Deliver side count) = false
is_submit (steps.Rekey side) = false
is_submit steps.Settle = false

-- what the link delivered to each side is what it had delivered
abbrev pub DeliversNone : (old new : LinkState) → Type 0
DeliversNone old new = (new.carried.client.delivered ≡ old.carried.client.delivered) × (new.carried.server.delivered ≡ old.carried.server.delivered)

-- The link carried out a step: it stands behind what was carried out before, with one mark more, and what it delivered
-- stays. A submit delivers nothing.
pub record LinkGoes (step : Step) (old new : LinkState) : Type 0 where
  pub steps : new.steps ≡ old.steps ++ step ∷ []
  pub marks : new.marks ≡ old.marks ++ both_marks new.carried ∷ []
  pub to_client : HasFront new.carried.client.delivered old.carried.client.delivered
  pub to_server : HasFront new.carried.server.delivered old.carried.server.delivered
  pub none : is_submit step ≡ true → DeliversNone old new

-- A side received what was delivered to it, the first message that it made was submitted, or the link carried out
-- another step.
pub data Carried (old new : PairOnLink) : Type 0 where
  Received : (side : Side) → ReceivesNew side (delivered_at side old.link) old.both new.both → new.link ≡ old.link → Carried old new
  Submitted : (side : Side) (payload : List ℕ) (rest : List (List ℕ)) → (state_at side old.both).made ≡ payload ∷ rest
      → new.both ≡ with_state side (record { side = (state_at side old.both).side; made = rest }) old.both
      → LinkGoes (steps.Submit side payload) old.link new.link → Carried old new
  Stepped : (step : Step) → is_submit step ≡ false → new.both ≡ old.both → LinkGoes step old.link new.link → Carried old new

abbrev pub CarriesBy : List PairOnLink → (old new : PairOnLink) → Type 0
CarriesBy [] old new = new ≡ old
CarriesBy (mid ∷ mids) old new = Carried old mid × CarriesBy mids mid new

-- nothing else happened
abbrev pub Carries : (old new : PairOnLink) → Type 0
Carries old new = (mids : List PairOnLink) × CarriesBy mids old new

-- What a side made was taken from it, and nothing else of both sides changed.
pub record IsEmptied (side : Side) (old new : Both) : Type 0 where
  pub made : (state_at side new).made ≡ []
  pub received : (side_at side new).received ≡ (side_at side old).received
  pub other : side_at (other_side side) new ≡ side_at (other_side side) old

-- A side received all that the link delivered to it, and none of what it made is left. The other side is as it was.
pub record HasReceived (side : Side) (l : LinkState) (old new : Both) : Type 0 where
  pub made : (state_at side new).made ≡ []
  pub received : length (delivered_at side l) ≤ (side_at side new).received
  pub other : side_at (other_side side) new ≡ side_at (other_side side) old

-- Nothing that a side made is left, each received all that the link delivered to it, and the last step of the link is
-- a settle.
pub record LeavesNone (s : PairOnLink) : Type 0 where
  pub client_made : (state_at Client s.both).made ≡ []
  pub server_made : (state_at Server s.both).made ≡ []
  pub to_client : length (delivered_at Client s.link) ≤ s.both.client.received
  pub to_server : length (delivered_at Server s.link) ≤ s.both.server.received
  pub settled : (before : List Step) × (s.link.steps ≡ before ++ steps.Settle ∷ [])

-- some steps of a link without its submits
abbrev pub but_submits : List Step → List Step
but_submits [] = []
but_submits (steps.Submit side payload ∷ l) = but_submits l
but_submits (steps.Deliver side count ∷ l) = steps.Deliver side count ∷ but_submits l
but_submits (steps.Rekey side ∷ l) = steps.Rekey side ∷ but_submits l
but_submits (steps.Settle ∷ l) = steps.Settle ∷ but_submits l

-- the link carried out these steps, and else only submits
abbrev pub CarriesOut : List Step → (old new : LinkState) → Type 0
CarriesOut done old new = but_submits new.steps ≡ but_submits old.steps ++ done

-- All that a side made was submitted, and the link carried out nothing else.
pub record SubmitsMade (side : Side) (old new : PairOnLink) : Type 0 where
  pub emptied : IsEmptied side old.both new.both
  pub link : CarriesOut [] old.link new.link

-- The link delivered to a side once. The side received all that was delivered to it, and what it made was submitted.
pub record DeliversOnce (side : Side) (count : ℕ) (old new : PairOnLink) : Type 0 where
  pub received : HasReceived side new.link old.both new.both
  pub link : CarriesOut (steps.Deliver side count ∷ []) old.link new.link

-- A side of the link asked for new keys once. Both sides of channels are as they were.
pub record RekeysOnce (side : Side) (old new : PairOnLink) : Type 0 where
  pub same : new.both ≡ old.both
  pub link : CarriesOut (steps.Rekey side ∷ []) old.link new.link

-- The link settled, once or more. Both sides received all that was delivered to them, and what they made was submitted.
pub record SettlesBoth (old new : PairOnLink) : Type 0 where
  pub none : LeavesNone new
  pub turns : ℕ
  pub link : CarriesOut (replicate (turns + 1) steps.Settle) old.link new.link

-- what a step asks for was done behind its call
abbrev pub DoesStep : ChannelStep → (old new : PairOnLink) → Type 0
DoesStep (Start side) old new = SubmitsMade side old new
DoesStep (Write side channel bytes) old new = SubmitsMade side old new
DoesStep (Read side channel n) old new = SubmitsMade side old new
DoesStep (Eof side channel) old new = SubmitsMade side old new
DoesStep (Close side channel) old new = SubmitsMade side old new
DoesStep (Deliver side count) old new = DeliversOnce side count old new
DoesStep (Rekey side) old new = RekeysOnce side old new
DoesStep Settle old new = SettlesBoth old new

-- Behind the call of a step both sides only received what was delivered, and the link carried what they made. What the
-- step asks for was done, and nothing else.
pub record CarriesFor (step : ChannelStep) (old new : PairOnLink) : Type 0 where
  pub carries : Carries old new
  pub does : DoesStep step old new

-- Steps: the call of each, where it makes one, was answered, and behind it what the step asks for was carried.
abbrev pub RunsSteps : List ChannelStep → (old new : PairOnLink) → Type 0
RunsSteps [] old new = new ≡ old
RunsSteps (step ∷ steps) old new =
    (called : Both) × (mid : PairOnLink) × Called step old.both called × CarriesFor step (record { both = called; link = old.link }) mid × RunsSteps steps mid new

-- whether a side refused a call by what its caller did
abbrev pub is_call_fault : MuxFault → Bool
is_call_fault (mux.Encoding fault) = false
is_call_fault (mux.Unexpected message_type channel) = false
is_call_fault (mux.Window channel left got) = false
is_call_fault (mux.Unknown channel) = true
is_call_fault (mux.Ended channel) = true
is_call_fault mux.Full = true
is_call_fault mux.Memory = false

abbrev pub is_call_refused : RunFault → Bool
is_call_refused Config = false
is_call_refused (Mux fault) = is_call_fault fault
is_call_refused (Link e) = false

-- a refusal of the link, or of a message that came, or want of memory: no call was refused, and the windows are in
-- bounds
abbrev pub IsLinkFault : RunFault → Type 0
IsLinkFault fault = (is_call_refused fault ≡ false) × (fault ≡ Config → ⊥)

-- the call of a step was refused, with the refusal that is due, and both sides are as they were
abbrev pub IsCallRefusal : ChannelStep → RunFault → (old new : PairOnLink) → Type 0
IsCallRefusal step fault old new = (due : MuxFault) × (fault ≡ Mux due) × (step_fault step old.both ≡ Some due) × (new ≡ old)

-- a step is refused by its call, or by the link
abbrev pub RefusesStep : ChannelStep → RunFault → (old new : PairOnLink) → Type 0
RefusesStep step fault old new = IsCallRefusal step fault old new ⊎ IsLinkFault fault

-- The first steps were carried out, and the call of the next one was refused.
pub record IsBrokenOff (steps : List ChannelStep) (fault : RunFault) (old new : PairOnLink) : Type 0 where
  pub done : List ChannelStep
  pub step : ChannelStep
  pub rest : List ChannelStep
  pub steps_are : steps ≡ done ++ step ∷ rest
  pub run : RunsSteps done old new
  pub due : MuxFault
  pub fault_is : fault ≡ Mux due
  pub due_is : step_fault step new.both ≡ Some due

-- The report has the channels of both sides, as these calls and payloads leave them, the steps of the link, and its
-- report.
pub record TellsRun (s : PairOnLink) (report : MuxReport) : Type 0 where
  pub channels : report.channels.items ≡ all_channels (state_at Client s.both).side.channels (state_at Server s.both).side.channels report.steps.items
  pub steps : report.steps.items ≡ s.link.steps
  pub link : report.link ≡ report_so_far s.link

-- a run before its first step: two sides that did nothing, over a new link
abbrev pub first_on_link : PairConfig → CarriedLink → PairOnLink
first_on_link config l = on_link (new_pair config) (first_link_state l)

pub record IsMuxRun (config : PairConfig) (steps : List ChannelStep) (report : MuxReport) : Type 0 where
  pub first : CarriedLink
  pub last : PairOnLink
  pub run : RunsSteps steps (first_on_link config first) last
  pub tells : TellsRun last report
  -- behind a settle nothing is on the way
  pub settled : (before : List ChannelStep) → steps ≡ before ++ Settle ∷ [] → LeavesNone last

-- The report of the steps before the one whose call was refused.
pub record IsRunBefore (config : PairConfig) (steps : List ChannelStep) (fault : RunFault) (report : MuxReport) : Type 0 where
  pub first : CarriedLink
  pub last : PairOnLink
  pub broken : IsBrokenOff steps fault (first_on_link config first) last
  pub tells : TellsRun last report

-- The end of a refused run: with the report of what both sides did where a call was refused, or else without a report,
-- also where memory was wanting for it.
pub data IsEndBehind (fault : RunFault) (s : PairOnLink) (end : MuxEnd) : Type 0 where
  Told : (report : MuxReport) → is_call_refused fault ≡ true → end.fault ≡ fault → end.before ≡ Some report → TellsRun s report → IsEndBehind fault s end
  Untold : IsLinkFault end.fault → end.before ≡ None → IsEndBehind fault s end
