use Rattle.ssh_mux.specs.Running.{both_of, on_link}
use Rattle.ssh_mux.proofs.Carrying.{next_submitted, some_left}
use Rattle.ssh_mux.proofs.Doing.{next_only}
use Rattle.ssh_mux.proofs.Good.{carries_good, left_good}
use Rattle.ssh_mux.proofs.Linking.{goes_then, parts_after}
use Rattle.std.proofs.Common.{rules}
use Rattle.ssh_mux.proofs.Stopping.{refused_then, stopped_so}
use Rattle.ssh_mux.proofs.Turning.{next_counted}
use Rattle.ssh_mux.proofs.carried.submit_made.Goals as goal

pub loop-payload-preserved : goal.loop-payload-preserved
loop-payload-preserved g c = record {
  none = c.loop-payload.invariant.none;
  carries = next_submitted c.args.side c.in-Some.payload c.next.new.self.rest.items c.loop-payload.payload-iterator.rest.items (both_of c.take_output.new.self) _ c.loop-payload.link c.submit_one.new.link c.in-Some.ensures.steps.0 c.loop-payload.invariant.carries c.in_ok-submit_one.ensures.step;
  submits = next_only c.args.side c.in-Some.payload c.args.link.now c.loop-payload.link c.submit_one.new.link c.loop-payload.invariant.submits c.in_ok-submit_one.ensures.step;
  none_left = λ e. absurd (some_left c.loop-payload.payload-iterator.rest.items c.in-Some.payload c.next.new.self.rest.items (c.loop-payload.invariant.none_left e) c.in-Some.ensures.steps.0);
  still = λ e. absurd (some_left c.loop-payload.payload-iterator.rest.items c.in-Some.payload c.next.new.self.rest.items (c.loop-payload.invariant.none_left e) c.in-Some.ensures.steps.0);
  count = next_counted c.args.side c.in-Some.payload c.loop-payload.payload-iterator.rest.items c.next.new.self.rest.items _ c.loop-payload.link c.submit_one.new.link c.in-Some.ensures.steps.0 c.in_ok-submit_one.ensures.step c.loop-payload.invariant.count;
  many = c.loop-payload.invariant.many;
  goes = goes_then g.A.Agreement g.H.HostKeys g.G.GroupLookup c.args.link.now c.loop-payload.link c.submit_one.new.link c.loop-payload.invariant.client_keeps c.loop-payload.invariant.server_keeps c.loop-payload.invariant.goes c.in_ok-submit_one.ensures.goes;
  client_keeps = parts_after g.A.Agreement g.H.HostKeys g.G.GroupLookup c.loop-payload.invariant.client_keeps c.submit_one.ensures.client_keeps;
  server_keeps = parts_after g.A.Agreement g.H.HostKeys g.G.GroupLookup c.loop-payload.invariant.server_keeps c.submit_one.ensures.server_keeps;
}

pub returns-in_err-submit_one-clause-stops : goal.returns-in_err-submit_one-clause-stops
returns-in_err-submit_one-clause-stops g c = stopped_so c.from_residual.result c.in_err-submit_one.field-0.0 _ (search rules)
    (λ e d good. refused_then g.A.Agreement g.H.HostKeys g.G.GroupLookup c.args.link.now c.loop-payload.link c.args.client_parts.now c.loop-payload.client_parts c.submit_one.new.client_parts c.args.server_parts.now c.loop-payload.server_parts c.submit_one.new.server_parts e
    c.loop-payload.invariant.client_keeps c.loop-payload.invariant.server_keeps c.loop-payload.invariant.goes (c.in_err-submit_one.ensures.stops e d
    (left_good c.args.side c.loop-payload.payload-iterator.rest.items c.next.new.self.rest.items c.in-Some.payload (both_of c.take_output.new.self) c.in-Some.ensures.steps.0 (carries_good (on_link c.args.pair.now c.args.link.now) _ c.loop-payload.invariant.carries good))))
