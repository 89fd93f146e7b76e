use Rattle.std.proofs.Common.{codes, ◌≡◌, ◌++◌, ◌∙◌, ap}
use Rattle.std.proofs.lemmas.Result.{on_ok_weaker}
use Rattle.ssh_lines.specs.Printed.{kind_name, names_word}
use Rattle.ssh_lines.proofs.Names.{five_behind}
use Rattle.ssh_lines.proofs.refusal.push_no_common.Goals as goal

pub returns-clause-ok : goal.returns-clause-ok
returns-clause-ok c =
    let head : c.push_named.new.out.items ≡ c.args.out.now.items ++ (codes "NoCommonAlgo " ++ kind_name c.args.kind) =
    c.in_ok-push_named.ensures.ok ∙ ap (λ name. c.args.out.now.items ++ (codes "NoCommonAlgo " ++ name)) c.name_of_kind.ensures
    in
    let first : c.push_names.new.out.items ≡ c.push_text.new.out.items ++ names_word c.args.ours.now.0.items =
    c.in_ok-push_names.ensures.ok ∙ ap (λ names. c.push_text.new.out.items ++ names_word names) c.as_slice.ensures.value
    in
    on_ok_weaker c.push_names-2.result
    (λ e. five_behind c.push_names-2.new.out.items c.push_text-2.new.out.items c.push_names.new.out.items c.push_text.new.out.items c.push_named.new.out.items c.args.out.now.items
    (codes "NoCommonAlgo ") (kind_name c.args.kind) (codes " ours ") (names_word c.args.ours.now.0.items) (codes " theirs ") (names_word c.args.theirs.now.0.items)
    (e ∙ ap (λ names. c.push_text-2.new.out.items ++ names_word names) c.as_slice-2.ensures.value) c.in_ok-push_text-2.ensures.ok first c.in_ok-push_text.ensures.ok head)
    c.push_names-2.ensures.ok
