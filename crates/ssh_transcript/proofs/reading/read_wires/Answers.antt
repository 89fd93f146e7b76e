use Rattle.std.proofs.Common.{◌∙◌, Ok, ap, arith, inl, length, sym}
use Rattle.std.proofs.lemmas.Result.{err_from_is_err_and}
use Rattle.ssh_transcript.specs.Reading.{judged_under}
use Rattle.ssh_transcript.proofs.Exchanging.{later_end}
use Rattle.ssh_transcript.proofs.reading.read_wires.Goals as goal

pub returns-in_err-wires-clause-refused : goal.returns-in_err-wires-clause-refused
returns-in_err-wires-clause-refused c =
    let p = err_from_is_err_and c.from_residual.result c.from_residual.ensures.1 in
    rw (p.1, p.2) (inl c.in_err-wires.ensures.memory)

pub returns-in_err-wires-clause-later : goal.returns-in_err-wires-clause-later
returns-in_err-wires-clause-later c =
    let p = err_from_is_err_and c.from_residual.result c.from_residual.ensures.1 in
    rw (p.1, p.2) (later_end (judged_under c.args.setting.now c.args.transcript.now) c.in_err-wires.field-0.0 (inl c.in_err-wires.ensures.memory))

pub returns-in_err-read_exchange-clause-refused : goal.returns-in_err-read_exchange-clause-refused
returns-in_err-read_exchange-clause-refused c =
    let p = err_from_is_err_and c.from_residual-in_err-read_exchange.result c.from_residual-in_err-read_exchange.ensures.1 in
    rw (p.1, p.2) (c.in_err-read_exchange.ensures.stops c.args.transcript.now (sym c.secrets_of-secrets.ensures) c.loop.invariant.0)

pub returns-in_err-read_exchange-clause-later : goal.returns-in_err-read_exchange-clause-later
returns-in_err-read_exchange-clause-later c =
    let p = err_from_is_err_and c.from_residual-in_err-read_exchange.result c.from_residual-in_err-read_exchange.ensures.1 in
    rw (p.1, p.2) (later_end (judged_under c.args.setting.now c.args.transcript.now) c.in_err-read_exchange.field-0.0 (c.in_err-read_exchange.ensures.stops c.args.transcript.now (sym c.secrets_of-secrets.ensures) c.loop.invariant.0))

pub loop-init : goal.loop-init
loop-init c = (c.in_ok-wires.ensures.open, ap length c.in_ok-wires.ensures.none)

pub loop-preserved : goal.loop-preserved
loop-preserved c =
    let x = c.in_ok-read_exchange.ensures.more c.if-not-branch.false c.args.transcript.now (sym c.secrets_of-secrets.ensures) c.loop.invariant.0 in
    (x.0, omega (arith, x.1, c.loop.invariant.1))

pub returns-then-not-branch-clause-read : goal.returns-then-not-branch-clause-read
returns-then-not-branch-clause-read c = c.read_exchange.ensures.last (c.in_ok-read_exchange.was ∙ ap Ok c.if-not-branch.true) c.args.transcript.now (sym c.secrets_of-secrets.ensures) c.loop.invariant.0

pub returns-clause-read : goal.returns-clause-read
returns-clause-read c = absurd (omega (arith, c.loop.invariant.0.given, c.loop.invariant.1, c.loop-test.false, ap length c.secrets_of-secrets.ensures))
