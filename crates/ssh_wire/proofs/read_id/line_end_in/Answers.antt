use Rattle.std.proofs.Common.{◌∙◌, ◌<◌, length, sym, rules}
use Rattle.ssh_wire.proofs.Ends.{line_end-append}
use Rattle.ssh_wire.proofs.read_id.line_end_in.Goals as goal

pub returns-else-is_empty-clause-end : goal.returns-else-is_empty-clause-end
returns-else-is_empty-clause-end c =
    let some : 0 < length c.args.waiting.now = search rules in
    c.first_lf_end.ensures.end ∙ sym (line_end-append _ c.args.piece.now some c.requires.unfinished)
