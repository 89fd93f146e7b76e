use Rattle.std.proofs.Common.{◌≡◌, ◌∙◌, ap, sym, rules, false, true}
use Rattle.ssh_wire.specs.Lines.{is_line_end, without_line_ends}
use Rattle.ssh_wire.proofs.Trimming.{trimmed-end, trimmed-text}
use Rattle.ssh_wire.proofs.ssh_id.without_line_ends.Goals as goal

pub returns-then-not-ends_line : goal.returns-then-not-ends_line
returns-then-not-ends_line c =
    let text : is_line_end c.in-Some.last.now ≡ false = search rules in
    c.in-Some.ensures.cases.0 ∙ (sym (trimmed-text c.in-Some.front.now c.in-Some.last.now text) ∙ (ap without_line_ends (sym c.in-Some.ensures.cases.0) ∙ c.loop-last.invariant))

pub loop-last-preserved : goal.loop-last-preserved
loop-last-preserved c =
    let end : is_line_end c.in-Some.last.now ≡ true = search rules in
    sym (trimmed-end c.in-Some.front.now c.in-Some.last.now end) ∙ (ap without_line_ends (sym c.in-Some.ensures.cases.0) ∙ c.loop-last.invariant)
