use Rattle.std.proofs.Common.{inl, inr, refl}
use Rattle.std.proofs.lemmas.Result.{err_from_is_err_and}
use Rattle.ssh_run.proofs.ReadLoop.{read_one, read_all, read_stops}
use Rattle.ssh_run.proofs.receiver.Receiver.read.Goals as goal

pub returns-in_err-read_packet-clause-cause : goal.returns-in_err-read_packet-clause-cause
returns-in_err-read_packet-clause-cause c =
    let p = err_from_is_err_and c.from_residual-in_err-read_packet.result c.from_residual-in_err-read_packet.ensures.1 in
    rw (p.1, p.2) (elim c.in_err-read_packet.ensures.cause [ inl e ↦ inl e | inr r ↦ inr (read_stops c.args.self.now c.loop.self c.args.bytes.now c.loop.invariant r) ])

pub loop-preserved : goal.loop-preserved
loop-preserved c =
    let one = c.in_ok-read_packet.ensures.one c.if-branch.true in
    read_one c.args.self.now c.loop.self c.args.bytes.now _ one.0 c.loop.invariant refl one.1

pub returns-clause-reads : goal.returns-clause-reads
returns-clause-reads c = read_all c.args.self.now c.loop.self c.args.bytes.now _ c.loop.invariant (c.in_ok-read_packet.ensures.none c.if-branch.false)
