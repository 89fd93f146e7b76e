use Rattle.std.proofs.Common.{inl, inr, refl, rules, sym, ◌∙◌}
use Rattle.ssh_mux.specs.Running.{both_of, on_link}
use Rattle.ssh_mux.proofs.Breaking.{breaks_behind, broken_so}
use Rattle.ssh_mux.proofs.Carrying.{carries_then, carries_three, steps_on}
use Rattle.ssh_mux.proofs.Doing.{settles_once}
use Rattle.ssh_mux.proofs.Good.{carries_good}
use Rattle.ssh_mux.proofs.Linking.{goes_then}
use Rattle.ssh_mux.proofs.Stopping.{refused_then, stopped_so}
use Rattle.ssh_mux.proofs.Turning.{turned_once}
use Rattle.ssh_mux.proofs.carried.carry_all.Goals.{then-client, else-client}
use Rattle.ssh_mux.proofs.carried.carry_all.Goals as goal

pub returns-clause-carries : goal.returns-clause-carries
returns-clause-carries g c = carries_three (on_link c.args.pair.now c.args.link.now) (on_link c.args.pair.now c.step_link.new.link) (on_link c.receive_delivered.new.pair c.receive_delivered.new.link) (on_link c.receive_delivered-2.new.pair c.receive_delivered-2.new.link)
    (steps_on (both_of c.args.pair.now) _ c.args.link.now c.step_link.new.link refl c.in_ok-step_link.ensures.step) c.in_ok-client.ensures.carries c.in_ok-server.ensures.carries

pub returns-clause-settles : goal.returns-clause-settles
returns-clause-settles g c = settles_once c.args.link.now c.step_link.new.link c.receive_delivered.new.link c.receive_delivered-2.new.link c.in_ok-step_link.ensures.step c.in_ok-client.ensures.submits c.in_ok-server.ensures.submits

pub returns-clause-goes : goal.returns-clause-goes
returns-clause-goes g c = goes_then g.A.Agreement g.H.HostKeys g.G.GroupLookup c.args.link.now c.step_link.new.link c.receive_delivered-2.new.link c.step_link.ensures.client_keeps c.step_link.ensures.server_keeps c.in_ok-step_link.ensures.goes
    (goes_then g.A.Agreement g.H.HostKeys g.G.GroupLookup c.step_link.new.link c.receive_delivered.new.link c.receive_delivered-2.new.link c.receive_delivered.ensures.client_keeps c.receive_delivered.ensures.server_keeps c.in_ok-client.ensures.goes c.in_ok-server.ensures.goes)

pub returns-in_err-client-clause-breaks : goal.returns-in_err-client-clause-breaks
returns-in_err-client-clause-breaks g c = broken_so c.from_residual-in_err-client.result c.in_err-client.field-0.0 (on_link c.args.pair.now c.args.link.now) c.receive_delivered.new.link _ (search rules)
    (λ m. let b = c.in_err-client.ensures.breaks m in (
      breaks_behind c.in_err-client.field-0.0 (on_link c.args.pair.now c.args.link.now) (on_link c.args.pair.now c.step_link.new.link) c.receive_delivered.new.link
          (steps_on (both_of c.args.pair.now) _ c.args.link.now c.step_link.new.link refl c.in_ok-step_link.ensures.step) b.0,
      goes_then g.A.Agreement g.H.HostKeys g.G.GroupLookup c.args.link.now c.step_link.new.link c.receive_delivered.new.link c.step_link.ensures.client_keeps c.step_link.ensures.server_keeps c.in_ok-step_link.ensures.goes b.1,
    ))

pub returns-in_err-server-clause-breaks : goal.returns-in_err-server-clause-breaks
returns-in_err-server-clause-breaks g c = broken_so c.from_residual-in_err-server.result c.in_err-server.field-0.0 (on_link c.args.pair.now c.args.link.now) c.receive_delivered-2.new.link _ (search rules)
    (λ m. let b = c.in_err-server.ensures.breaks m in (
      breaks_behind c.in_err-server.field-0.0 (on_link c.args.pair.now c.args.link.now) (on_link c.receive_delivered.new.pair c.receive_delivered.new.link) c.receive_delivered-2.new.link
          (carries_then (on_link c.args.pair.now c.args.link.now) (on_link c.args.pair.now c.step_link.new.link) (on_link c.receive_delivered.new.pair c.receive_delivered.new.link)
          (steps_on (both_of c.args.pair.now) _ c.args.link.now c.step_link.new.link refl c.in_ok-step_link.ensures.step) c.in_ok-client.ensures.carries) b.0,
      goes_then g.A.Agreement g.H.HostKeys g.G.GroupLookup c.args.link.now c.step_link.new.link c.receive_delivered-2.new.link c.step_link.ensures.client_keeps c.step_link.ensures.server_keeps c.in_ok-step_link.ensures.goes
          (goes_then g.A.Agreement g.H.HostKeys g.G.GroupLookup c.step_link.new.link c.receive_delivered.new.link c.receive_delivered-2.new.link c.receive_delivered.ensures.client_keeps c.receive_delivered.ensures.server_keeps c.in_ok-client.ensures.goes b.1),
    ))

pub returns-in_err-step_link-clause-stops : goal.returns-in_err-step_link-clause-stops
returns-in_err-step_link-clause-stops g c = stopped_so c.from_residual.result c.in_err-step_link.field-0.0 _ (search rules) (λ e d good. c.in_err-step_link.ensures.stops e d refl)

pub returns-in_err-client-clause-stops : goal.returns-in_err-client-clause-stops
returns-in_err-client-clause-stops g c = stopped_so c.from_residual-in_err-client.result c.in_err-client.field-0.0 _ (search rules)
    (λ e d good. refused_then g.A.Agreement g.H.HostKeys g.G.GroupLookup c.args.link.now c.step_link.new.link c.args.client_parts.now c.step_link.new.client_parts c.receive_delivered.new.client_parts c.args.server_parts.now c.step_link.new.server_parts c.receive_delivered.new.server_parts e
    c.step_link.ensures.client_keeps c.step_link.ensures.server_keeps c.in_ok-step_link.ensures.goes (c.in_err-client.ensures.stops e d good))

pub returns-in_err-server-clause-stops : goal.returns-in_err-server-clause-stops
returns-in_err-server-clause-stops g c = stopped_so c.from_residual-in_err-server.result c.in_err-server.field-0.0 _ (search rules)
    (λ e d good. refused_then g.A.Agreement g.H.HostKeys g.G.GroupLookup c.args.link.now c.step_link.new.link c.args.client_parts.now c.step_link.new.client_parts c.receive_delivered-2.new.client_parts c.args.server_parts.now c.step_link.new.server_parts c.receive_delivered-2.new.server_parts e
    c.step_link.ensures.client_keeps c.step_link.ensures.server_keeps c.in_ok-step_link.ensures.goes
    (refused_then g.A.Agreement g.H.HostKeys g.G.GroupLookup c.step_link.new.link c.receive_delivered.new.link c.step_link.new.client_parts c.receive_delivered.new.client_parts c.receive_delivered-2.new.client_parts c.step_link.new.server_parts c.receive_delivered.new.server_parts c.receive_delivered-2.new.server_parts e
    c.receive_delivered.ensures.client_keeps c.receive_delivered.ensures.server_keeps c.in_ok-client.ensures.goes (c.in_err-server.ensures.stops e d
    (carries_good (on_link c.args.pair.now c.step_link.new.link) (on_link c.receive_delivered.new.pair c.receive_delivered.new.link) c.in_ok-client.ensures.carries good))))

pub returns-clause-turns : goal.returns-clause-turns
returns-clause-turns g c = λ e.
    let first = steps_on (both_of c.args.pair.now) _ c.args.link.now c.step_link.new.link refl c.in_ok-step_link.ensures.step in
    turned_once (on_link c.args.pair.now c.args.link.now) (on_link c.args.pair.now c.step_link.new.link) (on_link c.receive_delivered.new.pair c.receive_delivered.new.link) (on_link c.receive_delivered-2.new.pair c.receive_delivered-2.new.link)
    c.in_ok-client.client c.in_ok-server.server first c.in_ok-client.ensures.carries c.in_ok-server.ensures.carries c.in_ok-client.ensures.received.made c.in_ok-server.ensures.received c.in_ok-client.ensures.some c.in_ok-server.ensures.some
    (carries_three (on_link c.args.pair.now c.args.link.now) (on_link c.args.pair.now c.step_link.new.link) (on_link c.receive_delivered.new.pair c.receive_delivered.new.link) (on_link c.receive_delivered-2.new.pair c.receive_delivered-2.new.link)
    first c.in_ok-client.ensures.carries c.in_ok-server.ensures.carries)
    (elim c.if-client.branch [ then-client w ↦ inl w.if-client.true | else-client w ↦ inr (sym w.result-is ∙ e) ])
