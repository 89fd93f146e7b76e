use Rattle.std.proofs.Common.{◌≡◌, ◌∙◌, Some, inl, inr, sym}
use Rattle.std.proofs.lemmas.Bool.{cases_eq}
use Rattle.ssh_program.specs.Statuses.{want_of_memory}
use Rattle.ssh_program.proofs.OneStatus.{written_told}
use Rattle.ssh_program.proofs.program.run_program.Goals as goal

pub returns-in-Ok-clause-one : goal.returns-in-Ok-clause-one
returns-in-Ok-clause-one g c told one read sink =
    let named : g.P.Program.command_in c.args.words.now ≡ Some c.in-Some.command = sym c.command_of.ensures ∙ c.in-Some.is in
    let status = one.1 (g.S.Source.left c.command_answer.new.source) c.in-Ok.answer (c.in-Some.command, named, c.in-Ok.ensures.answer) in
    elim (cases_eq c.print_answer.result.status want_of_memory) [
      | inl memory ↦ inr memory
      | inr known ↦ inl (written_told g.P.Program.status_for c.in-Ok.answer _ _ told _ _ _ _ (c.print_answer.ensures.written known) status sink)
    ]
