use Rattle.std.proofs.Common.{◌∙◌, sym}
use Rattle.ssh_client_kex.proofs.Grouped.{group_answers, group_short, is_type}
use Rattle.ssh_client_kex.proofs.client_kex.take_group.Goals as goal

pub returns-clause-ok : goal.returns-clause-ok
returns-clause-ok g c =
    let short = group_short _ _ _ c.requires.short c.fields_of.ensures c.in-Ok.ensures.ok in
    group_answers _ _ _ _ _ _ _ _ _ _ c.in-Ok.group short.0 short.1 (is_type _ _ (sym c.has_type.ensures ∙ c.if-not-has_type.false)) c.fields_of.ensures c.in-Ok.ensures.ok (c.is_inside.ensures.inside c.if-not-is_inside.false) c.answer_group.ensures.ok
