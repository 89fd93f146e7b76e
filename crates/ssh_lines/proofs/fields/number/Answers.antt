use Rattle.std.proofs.Common.{◌≡◌, ◌∙◌, rules, true, None}
use Rattle.std.specs.Result.{result_ok}
use Rattle.ssh_lines.specs.Fields.{is_number}
use Rattle.ssh_lines.proofs.Numbers.{number_is_text, number_read}
use Rattle.ssh_lines.proofs.fields.number.Goals as goal

pub returns-in_err-ok : goal.returns-in_err-ok
returns-in_err-ok c =
    let digits : is_number c.args.word.now ≡ true = search rules in
    let none : result_ok c.from_utf8.result ≡ None = search rules in
    absurd (number_is_text _ _ c.args.word.now c.from_utf8.result c.from_utf8.ensures.cases digits none)

pub returns : goal.returns
returns c =
    let digits : is_number c.args.word.now ≡ true = search rules in
    let text : c.in_ok-ok.field-0.now ≡ c.args.word.now = search rules in
    c.ok-2.ensures.value ∙ number_read c.args.word.now c.parse.result (rw text at c.parse.ensures.value.0) digits
