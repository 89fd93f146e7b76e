-- What both sides of a run are where the link is honest: what it delivers to a side is a front of what the other
-- submitted.
use Rattle.std.specs.Prelude.{◌≡◌, ℕ, true, List, [], ◌∷◌, ◌++◌, drop, map, slice_get, Some, false}
use Rattle.ssh_wire.specs.Sides.{other_side}
use Rattle.ssh_wire.specs.declared.side.Side.{Side}
use Rattle.ssh_wire.specs.declared.side.Side.TheVariants.{Client, Server}
use Rattle.ssh_kex.specs.declared.config.Config.{Config}
use Rattle.ssh_rules.specs.Headline.{IsLink, submitted_by}
use Rattle.ssh_rules.specs.Parts.{ClientPairs, Secrets, ServerValues}
use Rattle.ssh_rules.specs.Wire.{HasFront}
use Rattle.ssh_run.specs.Stepping.{LinkState}
use Rattle.ssh_channels.specs.Formats.{packet_text}
use Rattle.ssh_channels.specs.Laws.{Finishes}
use Rattle.ssh_channels.specs.Muxes.{Channel}
use Rattle.ssh_talks.specs.Talks.{CameAll, EndsAsCalled, FlowsWell, HappensOn, IsQuietPair, MuxPair, both_new}
use Rattle.ssh_mux.specs.Pairs.{are_within}
use Rattle.ssh_mux.specs.Running.{IsMuxRun, PairOnLink, RunsSteps, first_on_link, state_at}
use Rattle.ssh_mux.specs.declared.pair.PairConfig.{PairConfig}
use Rattle.ssh_mux.specs.declared.report.MuxReport.{MuxReport}
use Rattle.ssh_mux.specs.declared.step.ChannelStep.{ChannelStep}
use Rattle.ssh_mux.specs.declared.step.ChannelStep.TheVariants.{Settle}

-- what was delivered so far is a front of what was submitted so far
pub record IsHonest (l : LinkState) : Type 0 where
  pub to_client : HasFront (submitted_by Server l.steps) l.carried.client.delivered
  pub to_server : HasFront (submitted_by Client l.steps) l.carried.server.delivered

-- two sides that did nothing
abbrev pub new_muxes : PairConfig → MuxPair
new_muxes config = both_new config.client.window config.client.largest config.server.window config.server.largest

-- Both sides are those of a moment that requests and packets lead to, in which the packets on the way to a side are
-- those that the other made and that it hasn't received.
pub record IsPairAt (config : PairConfig) (s : PairOnLink) : Type 0 where
  pub mids : List MuxPair
  pub pair : MuxPair
  pub happens : HappensOn mids (new_muxes config) pair
  pub client : pair.client ≡ (state_at Client s.both).side
  pub server : pair.server ≡ (state_at Server s.both).side
  pub to_client : map (λ p. packet_text p) pair.to_client ≡ drop s.both.client.received (submitted_by Server s.link.steps ++ (state_at Server s.both).made)
  pub to_server : map (λ p. packet_text p) pair.to_server ≡ drop s.both.server.received (submitted_by Client s.link.steps ++ (state_at Client s.both).made)

-- Of a run whose report's link is a link between two sides, both are so.
abbrev pub RunsAreTalks : ClientPairs → ServerValues → Secrets → Type 0
RunsAreTalks client_makes server_makes agrees = (config : PairConfig) (client server : Config) (steps : List ChannelStep) (report : MuxReport) → are_within config ≡ true
    → (run : IsMuxRun config steps report) → IsLink client_makes server_makes agrees client server report.steps.items report.link → IsPairAt config run.last

-- So each channel that a side accepted flows well, both ways.
abbrev pub RunsFlow : ClientPairs → ServerValues → Secrets → Type 0
RunsFlow client_makes server_makes agrees = (config : PairConfig) (client server : Config) (steps : List ChannelStep) (report : MuxReport) → are_within config ≡ true
    → (run : IsMuxRun config steps report) → IsLink client_makes server_makes agrees client server report.steps.items report.link
    → (side : Side) (n : ℕ) (c : Channel) → slice_get (state_at side run.last.both).side.channels n ≡ Some c → c.started ≡ false
    → (d : Channel) × (slice_get (state_at (other_side side) run.last.both).side.channels c.peer ≡ Some d) × (d.started ≡ true)
    × FlowsWell d.end c.end × FlowsWell c.end d.end

-- Nothing is on the way, and on each channel that nobody closed all that was written came, both ways, as far as the
-- reader's window and reads allow.
pub record IsAtRest (config : PairConfig) (s : PairOnLink) : Type 0 where
  pub moment : IsPairAt config s
  pub quiet : IsQuietPair moment.pair
  pub came : (side : Side) (n : ℕ) (c : Channel) → slice_get (state_at side s.both).side.channels n ≡ Some c → c.started ≡ false → c.end.close_called ≡ false
      → (d : Channel) × (slice_get (state_at (other_side side) s.both).side.channels c.peer ≡ Some d) × (d.started ≡ true)
      × (d.end.close_called ≡ false → CameAll d.end c.end × CameAll c.end d.end)

-- So it is behind a run whose last step is a settle.
abbrev pub RunsSettle : ClientPairs → ServerValues → Secrets → Type 0
RunsSettle client_makes server_makes agrees = (config : PairConfig) (client server : Config) (steps : List ChannelStep) (report : MuxReport) → are_within config ≡ true
    → (run : IsMuxRun config steps report) → IsLink client_makes server_makes agrees client server report.steps.items report.link
    → (before : List ChannelStep) → steps ≡ before ++ Settle ∷ [] → IsAtRest config run.last

-- Both sides are those of such a moment, and each channel that a side accepted flows well, both ways.
pub record IsFlowing (config : PairConfig) (s : PairOnLink) : Type 0 where
  pub moment : IsPairAt config s
  pub flows : (side : Side) (n : ℕ) (c : Channel) → slice_get (state_at side s.both).side.channels n ≡ Some c → c.started ≡ false
      → (d : Channel) × (slice_get (state_at (other_side side) s.both).side.channels c.peer ≡ Some d) × (d.started ≡ true)
      × FlowsWell d.end c.end × FlowsWell c.end d.end

-- So it is behind each step of such a run, and not only behind the last one.
abbrev pub RunsFlowAlways : ClientPairs → ServerValues → Secrets → Type 0
RunsFlowAlways client_makes server_makes agrees = (config : PairConfig) (client server : Config) (steps : List ChannelStep) (report : MuxReport) → are_within config ≡ true
    → (run : IsMuxRun config steps report) → IsLink client_makes server_makes agrees client server report.steps.items report.link
    → (done rest : List ChannelStep) (mid : PairOnLink) → steps ≡ done ++ rest
    → RunsSteps done (first_on_link config run.first) mid → RunsSteps rest mid run.last → IsFlowing config mid

-- On each channel that a side accepted an end of data came only where the other end's caller ended it, and both ends
-- said close only where one of both callers closed it.
abbrev pub RunsEnd : ClientPairs → ServerValues → Secrets → Type 0
RunsEnd client_makes server_makes agrees = (config : PairConfig) (client server : Config) (steps : List ChannelStep) (report : MuxReport) → are_within config ≡ true
    → (run : IsMuxRun config steps report) → IsLink client_makes server_makes agrees client server report.steps.items report.link
    → (side : Side) (n : ℕ) (c : Channel) → slice_get (state_at side run.last.both).side.channels n ≡ Some c → c.started ≡ false
    → (d : Channel) × (slice_get (state_at (other_side side) run.last.both).side.channels c.peer ≡ Some d) × (d.started ≡ true)
    × EndsAsCalled d.end c.end

-- Where the last step of such a run is a settle, and all that an end wrote came, its close closed the channel at both
-- ends. Its end of data came, where neither end was closed.
abbrev pub RunsFinish : ClientPairs → ServerValues → Secrets → Type 0
RunsFinish client_makes server_makes agrees = (config : PairConfig) (client server : Config) (steps : List ChannelStep) (report : MuxReport) → are_within config ≡ true
    → (run : IsMuxRun config steps report) → IsLink client_makes server_makes agrees client server report.steps.items report.link
    → (before : List ChannelStep) → steps ≡ before ++ Settle ∷ []
    → (side : Side) (n : ℕ) (c : Channel) → slice_get (state_at side run.last.both).side.channels n ≡ Some c → c.started ≡ false
    → (d : Channel) × (slice_get (state_at (other_side side) run.last.both).side.channels c.peer ≡ Some d) × (d.started ≡ true)
    × Finishes d.end c.end × Finishes c.end d.end
