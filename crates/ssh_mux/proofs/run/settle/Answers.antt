use Rattle.std.proofs.Common.{inl, rules, sym}
use Rattle.ssh_wire.specs.declared.error.Error.TheVariants as errors
use Rattle.ssh_mux.specs.Running.{on_link}
use Rattle.ssh_mux.proofs.Breaking.{breaks_behind, broken_so}
use Rattle.ssh_mux.proofs.Carrying.{carries_then}
use Rattle.ssh_mux.proofs.Doing.{any_more, some_more}
use Rattle.ssh_mux.proofs.Good.{carries_good}
use Rattle.ssh_mux.proofs.Linking.{goes_then, parts_after}
use Rattle.ssh_mux.proofs.Stopping.{one_error, refused_then, stopped_right}
use Rattle.ssh_mux.proofs.Turning.{turns_all, turns_more}
use Rattle.ssh_mux.proofs.run.settle.Goals as goal

pub returns-then-not-branch-clause-carries : goal.returns-then-not-branch-clause-carries
returns-then-not-branch-clause-carries g c = carries_then (on_link c.args.pair.now c.args.link.now) (on_link c.loop-turn.pair c.loop-turn.link) (on_link c.carry_all.new.pair c.carry_all.new.link) c.loop-turn.invariant.carries c.in_ok-carry_all.ensures.carries

pub returns-then-not-branch-clause-settles : goal.returns-then-not-branch-clause-settles
returns-then-not-branch-clause-settles g c = some_more c.args.link.now c.loop-turn.link c.carry_all.new.link c.loop-turn.invariant.settles c.in_ok-carry_all.ensures.settles

pub loop-turn-preserved : goal.loop-turn-preserved
loop-turn-preserved g c = record {
  turns = turns_more c.loop-turn._turn (on_link c.args.pair.now c.args.link.now) (on_link c.loop-turn.pair c.loop-turn.link) (on_link c.carry_all.new.pair c.carry_all.new.link) c.loop-turn.invariant.turns (c.in_ok-carry_all.ensures.turns c.if-not-branch.false);
  carries = carries_then (on_link c.args.pair.now c.args.link.now) (on_link c.loop-turn.pair c.loop-turn.link) (on_link c.carry_all.new.pair c.carry_all.new.link) c.loop-turn.invariant.carries c.in_ok-carry_all.ensures.carries;
  settles = any_more c.args.link.now c.loop-turn.link c.carry_all.new.link c.loop-turn.invariant.settles c.in_ok-carry_all.ensures.settles;
  goes = goes_then g.A.Agreement g.H.HostKeys g.G.GroupLookup c.args.link.now c.loop-turn.link c.carry_all.new.link c.loop-turn.invariant.client_keeps c.loop-turn.invariant.server_keeps c.loop-turn.invariant.goes c.in_ok-carry_all.ensures.goes;
  client_keeps = parts_after g.A.Agreement g.H.HostKeys g.G.GroupLookup c.loop-turn.invariant.client_keeps c.carry_all.ensures.client_keeps;
  server_keeps = parts_after g.A.Agreement g.H.HostKeys g.G.GroupLookup c.loop-turn.invariant.server_keeps c.carry_all.ensures.server_keeps;
}

pub returns-then-not-branch-clause-goes : goal.returns-then-not-branch-clause-goes
returns-then-not-branch-clause-goes g c = goes_then g.A.Agreement g.H.HostKeys g.G.GroupLookup c.args.link.now c.loop-turn.link c.carry_all.new.link c.loop-turn.invariant.client_keeps c.loop-turn.invariant.server_keeps c.loop-turn.invariant.goes c.in_ok-carry_all.ensures.goes

pub returns-in_err-carry_all-clause-breaks : goal.returns-in_err-carry_all-clause-breaks
returns-in_err-carry_all-clause-breaks g c = broken_so c.from_residual.result c.in_err-carry_all.field-0.0 (on_link c.args.pair.now c.args.link.now) c.carry_all.new.link _ (search rules)
    (λ m. let b = c.in_err-carry_all.ensures.breaks m in (
      breaks_behind c.in_err-carry_all.field-0.0 (on_link c.args.pair.now c.args.link.now) (on_link c.loop-turn.pair c.loop-turn.link) c.carry_all.new.link c.loop-turn.invariant.carries b.0,
      goes_then g.A.Agreement g.H.HostKeys g.G.GroupLookup c.args.link.now c.loop-turn.link c.carry_all.new.link c.loop-turn.invariant.client_keeps c.loop-turn.invariant.server_keeps c.loop-turn.invariant.goes b.1,
    ))

pub returns-in_err-carry_all-clause-stops : goal.returns-in_err-carry_all-clause-stops
returns-in_err-carry_all-clause-stops g c = stopped_right c.from_residual.result c.in_err-carry_all.field-0.0 _ _ _ (search rules)
    (λ e d good. refused_then g.A.Agreement g.H.HostKeys g.G.GroupLookup c.args.link.now c.loop-turn.link c.args.client_parts.now c.loop-turn.client_parts c.carry_all.new.client_parts c.args.server_parts.now c.loop-turn.server_parts c.carry_all.new.server_parts e
    c.loop-turn.invariant.client_keeps c.loop-turn.invariant.server_keeps c.loop-turn.invariant.goes (c.in_err-carry_all.ensures.stops e d
    (carries_good (on_link c.args.pair.now c.args.link.now) (on_link c.loop-turn.pair c.loop-turn.link) c.loop-turn.invariant.carries good)))

pub returns-clause-stops : goal.returns-clause-stops
returns-clause-stops g c = λ e d good. inl (sym (one_error errors.Disconnect e d), turns_all c.loop-turn._turn c.args.turns (on_link c.args.pair.now c.args.link.now) (on_link c.loop-turn.pair c.loop-turn.link) c.loop-turn.auto._turn-end c.loop-turn-test.false c.loop-turn.invariant.turns, c.loop-turn.invariant.goes)
