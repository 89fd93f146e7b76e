use Rattle.std.proofs.Common.{refl, rules}
use Rattle.ssh_mux.specs.Running.{both_of, on_link}
use Rattle.ssh_mux.specs.declared.fault.RunFault.TheVariants.{Mux}
use Rattle.ssh_mux.proofs.Breaking.{broken_so, receive_breaks}
use Rattle.ssh_mux.proofs.Carrying.{carries_then, receives}
use Rattle.ssh_mux.proofs.Good.{receives_good}
use Rattle.ssh_mux.proofs.Linking.{none_taken}
use Rattle.ssh_mux.proofs.Stopping.{call_stopped, stopped_so}
use Rattle.ssh_mux.proofs.carried.receive_delivered.Goals as goal

pub returns-clause-carries : goal.returns-clause-carries
returns-clause-carries g c = carries_then (on_link c.args.pair.now c.args.link.now) (on_link c.receive.new.self c.args.link.now) (on_link c.submit_made.new.pair c.submit_made.new.link)
    (receives c.args.side c.delivered.result.now c.args.link.now (both_of c.args.pair.now) (both_of c.receive.new.self) c.delivered.ensures.client c.delivered.ensures.server c.in_ok-receive.ensures.received) c.in_ok-made.ensures.carries

pub returns-in_err-receive-clause-breaks : goal.returns-in_err-receive-clause-breaks
returns-in_err-receive-clause-breaks g c = broken_so c.from_residual.result (Mux c.in_err-receive.field-0.0) (on_link c.args.pair.now c.args.link.now) c.args.link.now _ (search rules)
    (λ m. (receive_breaks c.args.side c.delivered.result.now c.args.link.now (both_of c.args.pair.now) c.in_err-receive.field-0.0 c.delivered.ensures.client c.delivered.ensures.server c.in_err-receive.ensures.breaks, none_taken _ _ c.args.link.now c.args.link.now refl))

pub returns-in_err-receive-clause-stops : goal.returns-in_err-receive-clause-stops
returns-in_err-receive-clause-stops g c = call_stopped c.from_residual.result c.in_err-receive.field-0.0 _ (search rules)

pub returns-in_err-made-clause-stops : goal.returns-in_err-made-clause-stops
returns-in_err-made-clause-stops g c = stopped_so c.from_residual-in_err-made.result c.in_err-made.field-0.0 _ (search rules)
    (λ e d good. c.in_err-made.ensures.stops e d (receives_good _ _ (both_of c.args.pair.now) (both_of c.receive.new.self) c.in_ok-receive.ensures.received good))
