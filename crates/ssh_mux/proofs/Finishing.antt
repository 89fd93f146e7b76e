-- What holds behind each step of a run, and how its channels end.
use Rattle.std.proofs.Common.{◌≡◌, ℕ, true, false, List, slice_get, Some, refl, sym, subst}
use Rattle.ssh_wire.specs.Sides.{other_side}
use Rattle.ssh_wire.specs.declared.side.Side.{Side}
use Rattle.ssh_wire.specs.declared.side.Side.TheVariants.{Client, Server}
use Rattle.ssh_rules.specs.Headline.{IsLink}
use Rattle.ssh_rules.specs.Parts.{ClientPairs, Secrets, ServerValues}
use Rattle.ssh_run.specs.Carrying.{CarriedLink}
use Rattle.ssh_channels.specs.Laws.{Finishes}
use Rattle.ssh_channels.specs.Muxes.{Channel, Mux}
use Rattle.ssh_talks.specs.Talks.{EndsAsCalled, IsQuietPair}
use Rattle.ssh_talks.proofs.Lemmas.{channels_end, channels_finish}
use Rattle.ssh_mux.specs.Honesty.{IsPairAt, RunsEnd, RunsFinish, RunsFlowAlways}
use Rattle.ssh_mux.specs.Pairs.{are_within}
use Rattle.ssh_mux.specs.Running.{PairOnLink, RunsSteps, first_on_link, state_at}
use Rattle.ssh_mux.specs.declared.pair.PairConfig.{PairConfig}
use Rattle.ssh_mux.specs.declared.step.ChannelStep.{ChannelStep}
use Rattle.ssh_mux.proofs.Honesty.{at_first, at_steps, flow_at, runs_are_talks, runs_before, settings}
use Rattle.ssh_mux.proofs.OnTime.{MakesHonest, link_honest}
use Rattle.ssh_mux.proofs.Settling.{runs_settle}

-- ---- behind each step

-- behind some steps both sides are so, where the link is honest behind the last one
mid_at : (config : PairConfig) → are_within config ≡ true → (first : CarriedLink) (done rest : List ChannelStep) (mid last : PairOnLink) → MakesHonest last.link
    → RunsSteps done (first_on_link config first) mid → RunsSteps rest mid last → IsPairAt config mid
mid_at config within first done rest mid last honest run behind =
    let y = at_steps config.client.window config.client.largest config.server.window config.server.largest (settings config within) last.link honest done 0 (first_on_link config first) mid (record { many = refl; last = refl })
    (runs_before rest mid last behind) (at_first config first) run in
    let x = y.at in
    record { mids = x.mids; pair = x.pair; happens = x.happens; client = x.mux Client; server = x.mux Server; to_client = x.way Client; to_server = x.way Server }

pub runs_flow_always : (cm : ClientPairs) (sm : ServerValues) (ag : Secrets) → RunsFlowAlways cm sm ag
runs_flow_always cm sm ag config client server steps report within run link done rest mid is before behind =
    let of_last = subst (λ r. IsLink cm sm ag client server run.last.link.steps r) run.tells.link (subst (λ s. IsLink cm sm ag client server s report.link) run.tells.steps link) in
    let p = mid_at config within run.first done rest mid run.last (link_honest cm sm ag client server run.last.link of_last) before behind in
    record { moment = p; flows = flow_at config mid p }

-- ---- how a channel ends

end_at : (config : PairConfig) (s : PairOnLink) → IsPairAt config s → (side : Side) (n : ℕ) (c : Channel) → slice_get (state_at side s.both).side.channels n ≡ Some c → c.started ≡ false
    → (d : Channel) × (slice_get (state_at (other_side side) s.both).side.channels c.peer ≡ Some d) × (d.started ≡ true) × EndsAsCalled d.end c.end
end_at config s p Client n c at started =
    let f = channels_end config.client.window config.client.largest config.server.window config.server.largest p.mids p.pair p.happens Client n c (subst (λ (x : Mux). slice_get x.channels n ≡ Some c) (sym p.client) at) started in
    (f.0, subst (λ (x : Mux). slice_get x.channels c.peer ≡ Some f.0) p.server f.1, f.2, f.3)
end_at config s p Server n c at started =
    let f = channels_end config.client.window config.client.largest config.server.window config.server.largest p.mids p.pair p.happens Server n c (subst (λ (x : Mux). slice_get x.channels n ≡ Some c) (sym p.server) at) started in
    (f.0, subst (λ (x : Mux). slice_get x.channels c.peer ≡ Some f.0) p.client f.1, f.2, f.3)

pub runs_end : (cm : ClientPairs) (sm : ServerValues) (ag : Secrets) → RunsEnd cm sm ag
runs_end cm sm ag config client server steps report within run link side n c at started = end_at config run.last (runs_are_talks cm sm ag config client server steps report within run link) side n c at started

finish_at : (config : PairConfig) (s : PairOnLink) (p : IsPairAt config s) → IsQuietPair p.pair → (side : Side) (n : ℕ) (c : Channel) → slice_get (state_at side s.both).side.channels n ≡ Some c → c.started ≡ false
    → (d : Channel) × (slice_get (state_at (other_side side) s.both).side.channels c.peer ≡ Some d) × (d.started ≡ true) × Finishes d.end c.end × Finishes c.end d.end
finish_at config s p quiet Client n c at started =
    let f = channels_finish config.client.window config.client.largest config.server.window config.server.largest p.mids p.pair p.happens quiet Client n c (subst (λ (x : Mux). slice_get x.channels n ≡ Some c) (sym p.client) at) started in
    (f.0, subst (λ (x : Mux). slice_get x.channels c.peer ≡ Some f.0) p.server f.1, f.2, f.3, f.4)
finish_at config s p quiet Server n c at started =
    let f = channels_finish config.client.window config.client.largest config.server.window config.server.largest p.mids p.pair p.happens quiet Server n c (subst (λ (x : Mux). slice_get x.channels n ≡ Some c) (sym p.server) at) started in
    (f.0, subst (λ (x : Mux). slice_get x.channels c.peer ≡ Some f.0) p.client f.1, f.2, f.3, f.4)

pub runs_finish : (cm : ClientPairs) (sm : ServerValues) (ag : Secrets) → RunsFinish cm sm ag
runs_finish cm sm ag config client server steps report within run link before last_is side n c at started =
    let rest = runs_settle cm sm ag config client server steps report within run link before last_is in
    finish_at config run.last rest.moment rest.quiet side n c at started
