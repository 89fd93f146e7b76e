use Rattle.std.proofs.Common.{[], ap}
use Rattle.ssh_packet.specs.Reading.{Reader}
use Rattle.std.proofs.lemmas.Result.{err_from_is_err_and}
use Rattle.ssh_transport.proofs.Kept.{live_reader, live_with}
use Rattle.ssh_transport.proofs.Turning.{begin_refused, slice_behind, turn_heard, turn_smaller, turns_begin, turns_end, turns_on, turns_refused}
use Rattle.ssh_transport.proofs.connection.Connection.take.Goals as goal

pub take_kept-requires : goal.take_kept-requires
take_kept-requires g c = record {
  live = live_with c.args.self.now c.keep-taken.new.self _ [] _
      c.keep-taken.ensures.rest c.keep-taken.ensures.taken c.requires.live;
  within = c.keep-taken.ensures.kept;
}

pub turns-init : goal.turns-init
turns-init g c = turns_begin _ c.args.self.now c.keep-taken.new.self c.args.piece.now c.keep-taken.result _
    c.in_ok-take_kept.field-0 c.take_kept.new.self c.keep-taken.ensures.rest c.keep-taken.ensures.taken
    c.keep-taken.ensures.within c.keep-taken.ensures.all c.in_ok-take_kept.ensures

pub read_on-requires : goal.read_on-requires
read_on-requires g c = record {
  live = live_reader c.turns.self c.take-taken.new.self (ap (λ (r : Reader). r.number) c.take-taken.ensures.taken)
      (ap (λ (r : Reader). r.count) c.take-taken.ensures.taken)
      (ap (λ (r : Reader). r.failed) c.take-taken.ensures.taken)
      (ap (λ (r : Reader). r.window) c.take-taken.ensures.taken) c.turns.invariant.live;
  heard = turn_heard _ c.args.self.now c.args.piece.now c.turns.taken c.turns.self c.turns-test.true c.turns.invariant;
}

pub turns-smaller : goal.turns-smaller
turns-smaller g c = turn_smaller c.turns.self c.args.piece.now _ c.turns.taken c.take-taken.result
    (slice_behind c.turns.taken c.args.piece.now) c.take-taken.ensures.count c.turns.invariant.part
    c.turns.invariant.live.windowed c.turns-test.true

pub turns-preserved : goal.turns-preserved
turns-preserved g c = turns_on g.A.Agreement g.H.HostKeys g.G.GroupLookup g.R.Rng c.args.parts.now c.turns.parts
    c.read_on.new.parts c.args.self.now c.turns.self c.take-taken.new.self c.read_on.new.self c.args.piece.now _
    c.turns.taken c.take-taken.result _ c.in_ok-read_on.field-0 c.turns-test.true
    (slice_behind c.turns.taken c.args.piece.now) c.take-taken.ensures.count c.take-taken.ensures.taken
    c.turns.invariant c.in_ok-read_on.ensures

pub returns : goal.returns
returns g c = turns_end _ c.args.self.now c.args.piece.now c.turns.taken c.turns.self c.turns-test.false
    c.turns.invariant

pub returns-in_err-take_kept : goal.returns-in_err-take_kept
returns-in_err-take_kept g c =
    let p = err_from_is_err_and c.from_residual.result c.from_residual.ensures.1 in
    begin_refused _ c.args.self.now c.keep-taken.new.self c.args.piece.now c.keep-taken.result _ c.from_residual.result
    c.take_kept.new.self p.0 c.in_err-take_kept.field-0.0 p.1 p.2 c.keep-taken.ensures.rest
    c.keep-taken.ensures.taken c.in_err-take_kept.ensures

pub returns-in_err-read_on : goal.returns-in_err-read_on
returns-in_err-read_on g c =
    let p = err_from_is_err_and c.from_residual-in_err-read_on.result c.from_residual-in_err-read_on.ensures.1 in
    turns_refused g.A.Agreement g.H.HostKeys g.G.GroupLookup g.R.Rng c.args.parts.now c.turns.parts c.read_on.new.parts
    c.args.self.now c.turns.self c.take-taken.new.self c.read_on.new.self c.args.piece.now _ c.turns.taken
    c.take-taken.result _ c.from_residual-in_err-read_on.result p.0 c.in_err-read_on.field-0.0 p.1 p.2
    c.turns-test.true (slice_behind c.turns.taken c.args.piece.now) c.take-taken.ensures.taken c.turns.invariant
    c.in_err-read_on.ensures
