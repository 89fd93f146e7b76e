-- Each answer about the rest of the piece is carried to the whole of it.
use Rattle.std.proofs.Common.{◌-◌, ◌≤◌, drop, take, length, Err, Ok, arith}
use Rattle.std.proofs.lemmas.Grind.{common_steps}
use Rattle.ssh_wire.specs.declared.error.Error.TheVariants as error
use Rattle.ssh_wire.specs.declared.read_id.IdProgress.TheVariants as progress
use Rattle.ssh_wire.proofs.LineByLine.{rest_of, exit_unfinished, exit_id, exit_long, exit_other, goes_further}
use Rattle.ssh_wire.proofs.read_id.ReadSshIdBuffer.feed.Goals as goal

pub returns-in-Unfinished-clause-fed : goal.returns-in-Unfinished-clause-fed
returns-in-Unfinished-clause-fed c =
    c.lines.invariant.0 (Ok progress.NotYet) c.read_line.new.self (exit_unfinished c.args.allow_pre_banner_lines c.lines.self (drop c.lines.used c.args.piece.now) c.read_line.new.self (rest_of c.lines.self c.args.piece.now c.lines.used _ c.read_line.new.self c.in-Unfinished.ensures.read))

pub returns-in-IdLine-clause-fed : goal.returns-in-IdLine-clause-fed
returns-in-IdLine-clause-fed c =
    c.lines.invariant.0 (Ok (progress.Id c.in-IdLine.more)) c.read_line.new.self (exit_id c.args.allow_pre_banner_lines c.lines.self (drop c.lines.used c.args.piece.now) c.in-IdLine.more c.read_line.new.self (rest_of c.lines.self c.args.piece.now c.lines.used _ c.read_line.new.self c.in-IdLine.ensures.read))

pub returns-then-not-pass_other-clause-fed : goal.returns-then-not-pass_other-clause-fed
returns-then-not-pass_other-clause-fed c =
    c.lines.invariant.0 (Err error.Version) c.pass_other.new.self (exit_other c.args.allow_pre_banner_lines c.lines.self (drop c.lines.used c.args.piece.now) c.in-OtherLine.more c.read_line.new.self c.pass_other.new.self (rest_of c.lines.self c.args.piece.now c.lines.used _ c.read_line.new.self c.in-OtherLine.ensures.read) c.if-not-pass_other.ensures.passed)

pub returns-in-TooLong-clause-fed : goal.returns-in-TooLong-clause-fed
returns-in-TooLong-clause-fed c =
    c.lines.invariant.0 (Err error.Version) c.read_line.new.self (exit_long c.args.allow_pre_banner_lines c.lines.self (drop c.lines.used c.args.piece.now) c.read_line.new.self (rest_of c.lines.self c.args.piece.now c.lines.used _ c.read_line.new.self c.in-TooLong.ensures.read))

pub lines-preserved : goal.lines-preserved
lines-preserved c = (
  goes_further c.args.allow_pre_banner_lines c.args.self.now c.lines.self c.read_line.new.self c.pass_other.new.self c.args.piece.now c.lines.used c.in-OtherLine.more c.lines.invariant.0 (rest_of c.lines.self c.args.piece.now c.lines.used _ c.read_line.new.self c.in-OtherLine.ensures.read) c.if-not-pass_other.ensures.passed,
  let size : length (take (length c.args.piece.now - c.lines.used) (drop c.lines.used c.args.piece.now)) ≤ length c.args.piece.now - c.lines.used = grind (arith, common_steps) in
      omega (arith, c.in-OtherLine.ensures.within, c.lines.invariant.1),
)
