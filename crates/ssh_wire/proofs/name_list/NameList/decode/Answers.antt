use Rattle.std.proofs.Common.{◌≡◌, ◌++◌, ◌∙◌, sym, ap, List, ℕ, subst}
use Rattle.std.proofs.lemmas.Result.{err_from_is_err_and}
use Rattle.ssh_wire.specs.Forms.{name_list}
use Rattle.ssh_wire.specs.Names.{names_at}
use Rattle.ssh_wire.specs.Naming.{Spelled}
use Rattle.ssh_wire.proofs.FieldLaws.{read_once}
use Rattle.ssh_wire.proofs.NameLaws.{names_again, names_taken, only_memory}
use Rattle.ssh_wire.proofs.name_list.NameList.decode.Goals as goal

pub returns-clause-spelled : goal.returns-clause-spelled
returns-clause-spelled c =
    let P : List ℕ → Type 0 = λ new. Spelled c.in_ok-names.names.0.items c.args.r.now new in
    subst P (sym c.new.ensures) (names_taken c.args.r.now c.in_ok-names.rest.now c.in_ok-names.names.0.items c.rest.ensures.bytes (ap names_at (sym c.rest.ensures.value) ∙ c.in_ok-names.ensures))

pub returns-clause-again : goal.returns-clause-again
returns-clause-again c = λ names rest are short e.
    let same : c.rest.result.now ≡ name_list names ++ rest = c.rest.ensures.value ∙ e in
    let once = read_once names_at c.rest.result.now (name_list names ++ rest) (c.in_ok-names.names.0.items, c.in_ok-names.rest.now) (names, rest) same c.in_ok-names.ensures (names_again names rest are short) in
    (once.0, c.new.ensures ∙ once.1)

pub returns-in_err-names-clause-again : goal.returns-in_err-names-clause-again
returns-in_err-names-clause-again c = λ names rest are short e.
    let same : c.rest.result.now ≡ name_list names ++ rest = c.rest.ensures.value ∙ e in
    let p = err_from_is_err_and c.from_residual.result c.from_residual.ensures.1 in
    rw (p.1, p.2) (only_memory (names_at c.rest.result.now) c.in_err-names.field-0.0 (names, rest) c.in_err-names.ensures (ap names_at same ∙ names_again names rest are short))
