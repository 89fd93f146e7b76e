-- What is read first and second, and what is left.
use Rattle.std.proofs.Common.{◌∙◌, ap, arith, sym}
use Rattle.ssh_kex.specs.Signature.{two_strings}
use Rattle.ssh_kex.proofs.Parting.{both_there, none_left, no_first, no_second, not_at_end}
use Rattle.ssh_kex.proofs.signature.two_strings.Goals as goal

pub returns-in_default-clause-value : goal.returns-in_default-clause-value
returns-in_default-clause-value c = ap two_strings (sym c.new-reader.ensures) ∙ no_first _ _ c.in_default.ensures.exact.0

pub returns-in_default-read_string-clause-value : goal.returns-in_default-read_string-clause-value
returns-in_default-read_string-clause-value c =
    ap two_strings (sym c.new-reader.ensures) ∙ no_second _ _ _ _ c.in-Ok.ensures.exact c.in_default-read_string.ensures.exact.0

pub returns-then-remaining_len-gt0-clause-value : goal.returns-then-remaining_len-gt0-clause-value
returns-then-remaining_len-gt0-clause-value c =
    ap two_strings (sym c.new-reader.ensures)
    ∙ not_at_end _ _ _ _ _ c.in-Ok.ensures.exact c.in-Ok-read_string.ensures.exact (let e = c.remaining_len.ensures in let h = c.if-remaining_len-gt0.true in omega (arith, e, h))

pub returns-clause-value : goal.returns-clause-value
returns-clause-value c =
    ap two_strings (sym c.new-reader.ensures)
    ∙ both_there _ _ _ _ _ c.in-Ok.ensures.exact c.in-Ok-read_string.ensures.exact (none_left _ (let e = c.remaining_len.ensures in let h = c.if-remaining_len-gt0.false in omega (arith, e, h)))
