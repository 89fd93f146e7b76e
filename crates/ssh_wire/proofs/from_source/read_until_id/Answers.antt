use Rattle.std.proofs.Common.{◌≡◌, ◌+◌, ◌≤◌, take, length, refl, ◌∙◌, arith}
use Rattle.std.proofs.lemmas.List.{length-take-le}
use Rattle.ssh_wire.specs.Lines.{longest_line}
use Rattle.ssh_wire.specs.Reading.{waiting_length}
use Rattle.ssh_wire.specs.declared.read_id.IdProgress.TheVariants as progress
use Rattle.ssh_wire.proofs.Sources.{shown, so_far-start, so_far-next, finds, refuses, used_within, waits_after}
use Rattle.ssh_wire.proofs.Weights.{held-short, less_room}
use Rattle.ssh_wire.proofs.from_source.read_until_id.Goals as goal

pub turns-init : goal.turns-init
turns-init g c = record {
  waiting = c.requires.waits;
  short = c.requires.short;
  faults = refl;
  so_far = so_far-start c.args.allow c.args.id.now (g.R.Source.left c.args.source.now) c.requires.waits c.requires.short;
}

pub returns-in-Ok-Id-clause-found : goal.returns-in-Ok-Id-clause-found
returns-in-Ok-Id-clause-found g c =
    let buffer = c.take_some.new.buffer in
    let n = c.in_ok-taken.taken in
    let line : waiting_length c.turns.id + n ≤ longest_line = omega (arith, c.in_ok-taken.ensures.most, c.waiting.ensures, held-short c.turns.id c.turns.invariant.short) in
    finds c.args.allow c.args.id.now c.turns.id c.feed.new.self buffer n c.in-Ok-Id.used (g.R.Source.left c.args.source.now) (g.R.Source.left c.turns.source) (g.R.Source.left c.take_some.new.source)
    c.in_ok-taken.ensures.within line (used_within buffer n c.in-Ok-Id.field-0 c.in-Ok-Id.used c.in_ok-taken.ensures.within c.in-Ok-Id.field-0-is c.in-Ok-Id.ensures.within)
    c.turns.invariant.so_far c.in_ok-taken.ensures.next
    (shown c.args.allow c.turns.id (take n buffer) c.in-Ok-Id.field-0 (progress.Id c.in-Ok-Id.used) c.feed.new.self c.in-Ok-Id.field-0-is c.in-Ok-Id.ensures.fed)

pub turns-smaller : goal.turns-smaller
turns-smaller g c =
    let buffer = c.take_some.new.buffer in
    let n = c.in_ok-taken.taken in
    let size : length (take n buffer) ≡ n = length-take-le n buffer c.in_ok-taken.ensures.within in
    less_room c.args.allow c.turns.id c.feed.new.self (take n buffer) c.in-Ok-NotYet.ensures.short
    (shown c.args.allow c.turns.id (take n buffer) c.in-Ok-NotYet.field-0 progress.NotYet c.feed.new.self c.in-Ok-NotYet.field-0-is c.in-Ok-NotYet.ensures.fed)
    (omega (arith, size, c.in_ok-taken.ensures.some))

pub turns-preserved : goal.turns-preserved
turns-preserved g c =
    let buffer = c.take_some.new.buffer in
    let n = c.in_ok-taken.taken in
    let fed = shown c.args.allow c.turns.id (take n buffer) c.in-Ok-NotYet.field-0 progress.NotYet c.feed.new.self c.in-Ok-NotYet.field-0-is c.in-Ok-NotYet.ensures.fed in
    record {
      waiting = waits_after c.args.allow c.turns.id c.feed.new.self (take n buffer) fed;
      short = c.in-Ok-NotYet.ensures.short;
      faults = c.in_ok-taken.ensures.fault ∙ c.turns.invariant.faults;
      so_far = so_far-next c.args.allow c.args.id.now c.turns.id c.feed.new.self buffer n (g.R.Source.left c.args.source.now) (g.R.Source.left c.turns.source) (g.R.Source.left c.take_some.new.source)
          c.in-Ok-NotYet.ensures.short c.turns.invariant.so_far c.in_ok-taken.ensures.next fed;
    }

pub returns-in-Err-clause-refused : goal.returns-in-Err-clause-refused
returns-in-Err-clause-refused g c =
    let buffer = c.take_some.new.buffer in
    let n = c.in_ok-taken.taken in
    let line : waiting_length c.turns.id + n ≤ longest_line = omega (arith, c.in_ok-taken.ensures.most, c.waiting.ensures, held-short c.turns.id c.turns.invariant.short) in
    refuses c.args.allow c.args.id.now c.turns.id c.feed.new.self buffer n _ (g.R.Source.left c.args.source.now) (g.R.Source.left c.turns.source) (g.R.Source.left c.take_some.new.source)
    c.in_ok-taken.ensures.within line c.turns.invariant.so_far c.in_ok-taken.ensures.next c.in-Err.ensures.fed
