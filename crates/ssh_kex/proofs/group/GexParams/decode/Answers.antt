use Rattle.std.proofs.Common.{ap, refl, arith}
use Rattle.ssh_wire.specs.Fields.{answer_of}
use Rattle.ssh_kex.proofs.Sizes.{left_behind, not_refused, sizes_read, sizes_short}
use Rattle.ssh_kex.proofs.group.GexParams.decode.Goals as goal

pub returns-then-remaining_len-lt-SIZES_LEN-clause-exact :
    goal.returns-then-remaining_len-lt-SIZES_LEN-clause-exact
returns-then-remaining_len-lt-SIZES_LEN-clause-exact c =
    (ap answer_of (sizes_short _ (let e = c.remaining_len.ensures in let h = c.if-remaining_len-lt-SIZES_LEN.true in omega (arith, e, h))), refl)

pub returns-in_err-read_u32-clause-exact : goal.returns-in_err-read_u32-clause-exact
returns-in_err-read_u32-clause-exact c =
    absurd (not_refused _ _ _
    (let e = c.remaining_len.ensures in let h = c.if-remaining_len-lt-SIZES_LEN.false in omega (arith, e, h))
    c.in_err-read_u32.ensures.exact)

pub returns-in_err-read_u32-2-clause-exact : goal.returns-in_err-read_u32-2-clause-exact
returns-in_err-read_u32-2-clause-exact c =
    absurd (not_refused _ _ _
    (let e = c.remaining_len.ensures in let h = c.if-remaining_len-lt-SIZES_LEN.false in
    let a = left_behind _ _ _ c.in_ok-read_u32.ensures.spelled in omega (arith, e, h, a))
    c.in_err-read_u32-2.ensures.exact)

pub returns-in_err-read_u32-3-clause-exact : goal.returns-in_err-read_u32-3-clause-exact
returns-in_err-read_u32-3-clause-exact c =
    absurd (not_refused _ _ _
    (let e = c.remaining_len.ensures in let h = c.if-remaining_len-lt-SIZES_LEN.false in
    let a = left_behind _ _ _ c.in_ok-read_u32.ensures.spelled in let b = left_behind _ _ _ c.in_ok-read_u32-2.ensures.spelled in
    omega (arith, e, h, a, b))
    c.in_err-read_u32-3.ensures.exact)

pub returns-clause-exact : goal.returns-clause-exact
returns-clause-exact c =
    sizes_read _ _ _ _ _ _ _ c.in_ok-read_u32.ensures.exact c.in_ok-read_u32-2.ensures.exact c.in_ok-read_u32-3.ensures.exact
