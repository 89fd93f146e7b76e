use Rattle.std.proofs.Common.{◌≡◌, ◌∷◌, rules}
use Rattle.std.proofs.lemmas.Result.{on_ok_weaker}
use Rattle.ssh_lines.proofs.Names.{names_behind}
use Rattle.ssh_lines.proofs.print.push_names.Goals as goal

pub returns-in_ok-push_text-in-Some-clause-ok : goal.returns-in_ok-push_text-in-Some-clause-ok
returns-in_ok-push_text-in-Some-clause-ok c =
    let whole : c.args.names.now ≡ c.as_bytes.result.now ∷ c.in-Some.others.now = search rules in
    on_ok_weaker c.push_others.result (λ e. names_behind _ _ _ _ c.in-Some.others.now c.args.names.now e c.in_ok-push_text-in-Some.ensures.ok whole) c.push_others.ensures.ok
