use Rattle.std.proofs.Common.{refl, ap, inl, inr, take, ◌∙◌}
use Rattle.ssh_mux.specs.Running.{on_link}
use Rattle.ssh_mux.proofs.Breaking.{run_breaks}
use Rattle.ssh_mux.proofs.Carrying.{breaks, next_runs, next_settled}
use Rattle.ssh_mux.proofs.Good.{runs_good}
use Rattle.ssh_mux.proofs.Linking.{goes_then, parts_after}
use Rattle.ssh_mux.specs.declared.step.ChannelStep.TheVariants.{Settle}
use Rattle.ssh_mux.proofs.Stopping.{refused_then, run_out}
use Rattle.ssh_mux.proofs.Turning.{next_turns}
use Rattle.ssh_mux.specs.Stopping.{turns_behind}
use Rattle.ssh_mux.proofs.run.run_steps.Goals as goal

pub loop-step-preserved : goal.loop-step-preserved
loop-step-preserved g c = record {
  runs = next_runs c.args.steps.now c.loop-step.step-index c.step-item.result c.step-item.result _ _ _ c.loop-step-test.true c.step-item.is refl c.loop-step.invariant.runs c.in-Ok.ensures.run;
  settled = λ before e. c.in-Ok.ensures.settled (next_settled c.args.steps.now before c.loop-step.step-index c.step-item.result c.step-item.result Settle c.loop-step-test.true c.step-item.is refl e);
  turns = next_turns c.args.steps.now c.loop-step.step-index c.step-item.result c.step-item.result c.loop-step.turns c.turns_behind-turns.result c.loop-step-test.true c.step-item.is refl c.loop-step.invariant.turns c.turns_behind-turns.ensures;
  goes = goes_then g.A.Agreement g.H.HostKeys g.G.GroupLookup c.args.link.now c.loop-step.link c.run_step.new.link c.loop-step.invariant.client_keeps c.loop-step.invariant.server_keeps c.loop-step.invariant.goes c.in-Ok.ensures.goes;
  client_keeps = parts_after g.A.Agreement g.H.HostKeys g.G.GroupLookup c.loop-step.invariant.client_keeps c.run_step.ensures.client_keeps;
  server_keeps = parts_after g.A.Agreement g.H.HostKeys g.G.GroupLookup c.loop-step.invariant.server_keeps c.run_step.ensures.server_keeps;
}

pub returns-in-Err-clause-refused : goal.returns-in-Err-clause-refused
returns-in-Err-clause-refused g c = breaks c.args.steps.now c.loop-step.step-index c.step-item.result c.step-item.result c.in-Err.fault _ _ _ c.loop-step-test.true c.step-item.is refl c.loop-step.invariant.runs c.in-Err.ensures.refused

pub returns-in-Err-clause-breaks : goal.returns-in-Err-clause-breaks
returns-in-Err-clause-breaks g c = λ m. let b = c.in-Err.ensures.breaks m in (
  run_breaks _ c.in-Err.fault (on_link c.args.pair.now c.args.link.now) (on_link c.loop-step.pair c.loop-step.link) c.run_step.new.link c.loop-step.invariant.runs b.0,
  goes_then g.A.Agreement g.H.HostKeys g.G.GroupLookup c.args.link.now c.loop-step.link c.run_step.new.link c.loop-step.invariant.client_keeps c.loop-step.invariant.server_keeps c.loop-step.invariant.goes b.1,
)

pub returns-in-Err-clause-stops : goal.returns-in-Err-clause-stops
returns-in-Err-clause-stops g c = λ e d good. elim (c.in-Err.ensures.stops e d (runs_good _ (on_link c.args.pair.now c.args.link.now) (on_link c.loop-step.pair c.loop-step.link) c.loop-step.invariant.runs good)) [
  | inl t ↦ inl (
    t.0,
    run_out (take c.loop-step.step-index c.args.steps.now) c.step-item.result 2 c.turns_behind-turns.result (on_link c.args.pair.now c.args.link.now) (on_link c.loop-step.pair c.loop-step.link) (on_link c.run_step.new.pair c.run_step.new.link)
        (c.turns_behind-turns.ensures ∙ ap (turns_behind c.step-item.result) c.loop-step.invariant.turns) c.loop-step.invariant.runs t.1,
    goes_then g.A.Agreement g.H.HostKeys g.G.GroupLookup c.args.link.now c.loop-step.link c.run_step.new.link c.loop-step.invariant.client_keeps c.loop-step.invariant.server_keeps c.loop-step.invariant.goes t.2,
  )
  | inr r ↦ inr (refused_then g.A.Agreement g.H.HostKeys g.G.GroupLookup c.args.link.now c.loop-step.link c.args.client_parts.now c.loop-step.client_parts c.run_step.new.client_parts c.args.server_parts.now c.loop-step.server_parts c.run_step.new.server_parts e
      c.loop-step.invariant.client_keeps c.loop-step.invariant.server_keeps c.loop-step.invariant.goes r)
]

pub returns-in-Err-clause-called : goal.returns-in-Err-clause-called
returns-in-Err-clause-called g c = λ m. goes_then g.A.Agreement g.H.HostKeys g.G.GroupLookup c.args.link.now c.loop-step.link c.run_step.new.link c.loop-step.invariant.client_keeps c.loop-step.invariant.server_keeps c.loop-step.invariant.goes (c.in-Err.ensures.called m)
