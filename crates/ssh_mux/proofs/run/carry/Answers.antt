use Rattle.std.proofs.Common.{refl, rules}
use Rattle.ssh_mux.specs.Running.{both_of, on_link}
use Rattle.ssh_mux.proofs.Breaking.{breaks_behind, broken_so}
use Rattle.ssh_mux.proofs.Carrying.{carries_then, steps_on}
use Rattle.ssh_mux.proofs.Doing.{call_done, delivers_once, rekeys_once, settle_done, submits_made}
use Rattle.ssh_mux.proofs.Linking.{goes_then}
use Rattle.ssh_mux.proofs.Stopping.{refused_then, stopped_right}
use Rattle.ssh_mux.proofs.run.carry.Goals as goal

pub returns-in_ok-receive_delivered-in-Deliver-clause-carries : goal.returns-in_ok-receive_delivered-in-Deliver-clause-carries
returns-in_ok-receive_delivered-in-Deliver-clause-carries g c = carries_then (on_link c.args.pair.now c.args.link.now) (on_link c.args.pair.now c.step_link.new.link) (on_link c.receive_delivered.new.pair c.receive_delivered.new.link)
    (steps_on (both_of c.args.pair.now) _ c.args.link.now c.step_link.new.link refl c.in_ok-step_link-in-Deliver.ensures.step) c.in_ok-receive_delivered-in-Deliver.ensures.carries

pub returns-in_ok-step_link-in-Rekey-clause-carries : goal.returns-in_ok-step_link-in-Rekey-clause-carries
returns-in_ok-step_link-in-Rekey-clause-carries g c = steps_on (both_of c.args.pair.now) _ c.args.link.now c.step_link-in-Rekey.new.link refl c.in_ok-step_link-in-Rekey.ensures.step

pub returns-in_ok-submit_made-in-Submit-clause-does : goal.returns-in_ok-submit_made-in-Submit-clause-does
returns-in_ok-submit_made-in-Submit-clause-does g c = call_done c.args.behind _ (on_link c.args.pair.now c.args.link.now) (on_link c.submit_made.new.pair c.submit_made.new.link) c.in-Submit.is
    (submits_made c.in-Submit.side (on_link c.args.pair.now c.args.link.now) (on_link c.submit_made.new.pair c.submit_made.new.link) c.in_ok-submit_made-in-Submit.ensures.emptied c.in_ok-submit_made-in-Submit.ensures.submits)

pub returns-in_ok-receive_delivered-in-Deliver-clause-does : goal.returns-in_ok-receive_delivered-in-Deliver-clause-does
returns-in_ok-receive_delivered-in-Deliver-clause-does g c = call_done c.args.behind _ (on_link c.args.pair.now c.args.link.now) (on_link c.receive_delivered.new.pair c.receive_delivered.new.link) c.in-Deliver.is
    (delivers_once c.in-Deliver.side c.in-Deliver.count (on_link c.args.pair.now c.args.link.now) c.step_link.new.link (on_link c.receive_delivered.new.pair c.receive_delivered.new.link) c.in_ok-step_link-in-Deliver.ensures.step c.in_ok-receive_delivered-in-Deliver.ensures.submits c.in_ok-receive_delivered-in-Deliver.ensures.received)

pub returns-in_ok-step_link-in-Rekey-clause-does : goal.returns-in_ok-step_link-in-Rekey-clause-does
returns-in_ok-step_link-in-Rekey-clause-does g c = call_done c.args.behind _ (on_link c.args.pair.now c.args.link.now) (on_link c.args.pair.now c.step_link-in-Rekey.new.link) c.in-Rekey.is
    (rekeys_once c.in-Rekey.side (both_of c.args.pair.now) c.args.link.now c.step_link-in-Rekey.new.link c.in_ok-step_link-in-Rekey.ensures.step)

pub returns-in-Settle-clause-does : goal.returns-in-Settle-clause-does
returns-in-Settle-clause-does g c = settle_done c.settle.result c.args.behind (on_link c.args.pair.now c.args.link.now) (on_link c.settle.new.pair c.settle.new.link) c.in-Settle.is c.settle.ensures.settled c.settle.ensures.settles

pub returns-in_ok-receive_delivered-in-Deliver-clause-goes : goal.returns-in_ok-receive_delivered-in-Deliver-clause-goes
returns-in_ok-receive_delivered-in-Deliver-clause-goes g c = goes_then g.A.Agreement g.H.HostKeys g.G.GroupLookup c.args.link.now c.step_link.new.link c.receive_delivered.new.link c.step_link.ensures.client_keeps c.step_link.ensures.server_keeps c.in_ok-step_link-in-Deliver.ensures.goes c.in_ok-receive_delivered-in-Deliver.ensures.goes

pub returns-in_err-receive_delivered-in-Deliver-clause-breaks : goal.returns-in_err-receive_delivered-in-Deliver-clause-breaks
returns-in_err-receive_delivered-in-Deliver-clause-breaks g c = broken_so c.from_residual-in_err-receive_delivered-in-Deliver.result c.in_err-receive_delivered-in-Deliver.field-0.0 (on_link c.args.pair.now c.args.link.now) c.receive_delivered.new.link _ (search rules)
    (λ m. let b = c.in_err-receive_delivered-in-Deliver.ensures.breaks m in (
      breaks_behind c.in_err-receive_delivered-in-Deliver.field-0.0 (on_link c.args.pair.now c.args.link.now) (on_link c.args.pair.now c.step_link.new.link) c.receive_delivered.new.link
          (steps_on (both_of c.args.pair.now) _ c.args.link.now c.step_link.new.link refl c.in_ok-step_link-in-Deliver.ensures.step) b.0,
      goes_then g.A.Agreement g.H.HostKeys g.G.GroupLookup c.args.link.now c.step_link.new.link c.receive_delivered.new.link c.step_link.ensures.client_keeps c.step_link.ensures.server_keeps c.in_ok-step_link-in-Deliver.ensures.goes b.1,
    ))

pub returns-in_err-submit_made-in-Submit-clause-stops : goal.returns-in_err-submit_made-in-Submit-clause-stops
returns-in_err-submit_made-in-Submit-clause-stops g c = stopped_right c.from_residual.result c.in_err-submit_made-in-Submit.field-0.0 _ _ _ (search rules) c.in_err-submit_made-in-Submit.ensures.stops

pub returns-in_err-step_link-in-Deliver-clause-stops : goal.returns-in_err-step_link-in-Deliver-clause-stops
returns-in_err-step_link-in-Deliver-clause-stops g c = stopped_right c.from_residual-in_err-step_link-in-Deliver.result c.in_err-step_link-in-Deliver.field-0.0 _ _ _ (search rules) (λ e d good. c.in_err-step_link-in-Deliver.ensures.stops e d refl)

pub returns-in_err-receive_delivered-in-Deliver-clause-stops : goal.returns-in_err-receive_delivered-in-Deliver-clause-stops
returns-in_err-receive_delivered-in-Deliver-clause-stops g c = stopped_right c.from_residual-in_err-receive_delivered-in-Deliver.result c.in_err-receive_delivered-in-Deliver.field-0.0 _ _ _ (search rules)
    (λ e d good. refused_then g.A.Agreement g.H.HostKeys g.G.GroupLookup c.args.link.now c.step_link.new.link c.args.client_parts.now c.step_link.new.client_parts c.receive_delivered.new.client_parts c.args.server_parts.now c.step_link.new.server_parts c.receive_delivered.new.server_parts e
    c.step_link.ensures.client_keeps c.step_link.ensures.server_keeps c.in_ok-step_link-in-Deliver.ensures.goes (c.in_err-receive_delivered-in-Deliver.ensures.stops e d good))

pub returns-in_err-step_link-in-Rekey-clause-stops : goal.returns-in_err-step_link-in-Rekey-clause-stops
returns-in_err-step_link-in-Rekey-clause-stops g c = stopped_right c.from_residual-in_err-step_link-in-Rekey.result c.in_err-step_link-in-Rekey.field-0.0 _ _ _ (search rules) (λ e d good. c.in_err-step_link-in-Rekey.ensures.stops e d refl)
