use Rattle.std.proofs.Common.{[], refl, rules}
use Rattle.ssh_mux.specs.Running.{both_of, on_link}
use Rattle.ssh_mux.proofs.Breaking.{call_breaks, step_breaks}
use Rattle.ssh_mux.proofs.Doing.{step_runs}
use Rattle.ssh_mux.proofs.Refusing.{called_so, uncalled_so}
use Rattle.ssh_mux.proofs.Stopping.{call_stopped, step_out}
use Rattle.ssh_mux.proofs.run.run_step.Goals as goal

pub returns-clause-run : goal.returns-clause-run
returns-clause-run g c = step_runs c.carry.result c.args.step.now _ (on_link c.args.pair.now c.args.link.now) (both_of c.call.new.pair) (on_link c.carry.new.pair c.carry.new.link) c.in_ok-behind.ensures.ok c.in_ok-behind.ensures.asks c.carry.ensures.carries c.carry.ensures.does

pub returns-in_err-behind-clause-breaks : goal.returns-in_err-behind-clause-breaks
returns-in_err-behind-clause-breaks g c = call_breaks c.from_residual.result c.args.step.now (both_of c.args.pair.now) c.in_err-behind.field-0.0 _ _ (search rules) c.in_err-behind.ensures.refused

pub returns-clause-breaks : goal.returns-clause-breaks
returns-clause-breaks g c = step_breaks c.carry.result c.args.step.now (on_link c.args.pair.now c.args.link.now) (both_of c.call.new.pair) c.carry.new.link _ c.in_ok-behind.ensures.ok c.carry.ensures.breaks

pub returns-in_err-behind-clause-stops : goal.returns-in_err-behind-clause-stops
returns-in_err-behind-clause-stops g c = call_stopped c.from_residual.result c.in_err-behind.field-0.0 _ (search rules)

pub returns-clause-stops : goal.returns-clause-stops
returns-clause-stops g c = step_out c.carry.result c.args.turns c.args.step.now (on_link c.args.pair.now c.args.link.now) (both_of c.call.new.pair) (on_link c.carry.new.pair c.carry.new.link) _ _ c.in_ok-behind.ensures.ok c.carry.ensures.stops

pub returns-in_err-behind-clause-called : goal.returns-in_err-behind-clause-called
returns-in_err-behind-clause-called g c = called_so c.from_residual.result _ ([], refl)

pub returns-clause-called : goal.returns-clause-called
returns-clause-called g c = uncalled_so c.carry.result _ c.carry.ensures.fault
