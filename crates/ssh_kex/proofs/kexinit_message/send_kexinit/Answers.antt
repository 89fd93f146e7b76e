use Rattle.std.proofs.Common.{length, ap, arith}
use Rattle.ssh_negotiate.proofs.Lemmas.{short_kexinit}
use Rattle.ssh_kex.proofs.kexinit_message.send_kexinit.Goals as goal

pub returns-in_err-extend_from_slice-clause-unchanged : goal.returns-in_err-extend_from_slice-clause-unchanged
returns-in_err-extend_from_slice-clause-unchanged g c =
    let b = c.in_ok-reserve.ensures.ok in
    let l = short_kexinit _ _ c.requires c.in_ok-payload.ensures.cookie in
    let n = ap length c.in_ok-payload.ensures.answer in
    let s = ap length c.as_slice.ensures in
    let v = ap length c.payload.view_is in
    absurd (let f = c.in_err-extend_from_slice.ensures.succeeds (omega (arith, b, l, n, s, v)) in cc)
