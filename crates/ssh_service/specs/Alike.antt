-- Two texts over the longest script are answered alike.
use Rattle.std.specs.Prelude.{◌≡◌, ℕ, true, List, Err}
use Rattle.std.proofs.Common.{sym, subst, ◌∙◌}
use Rattle.ssh_program.specs.Programs.{AnswersAlike, is_too_long}
use Rattle.ssh_lines.specs.OverLong.{over_long, said_too_long}
use Rattle.ssh_service.specs.Program.{AnswersServiceCommand, AnswersServiceScript}
use Rattle.ssh_service.specs.Script.{empty_plan, service_form, service_script}
use Rattle.ssh_service.specs.declared.service_program.ServiceCommand.TheVariants.{Service}

pub too_long : (text : List ℕ) → is_too_long text ≡ true → service_script text ≡ Err over_long
too_long text h = said_too_long service_form empty_plan text h

pub answers_alike : AnswersAlike AnswersServiceCommand
answers_alike Service a b answer h k right = subst (λ script. AnswersServiceScript script answer) (too_long a h ∙ sym (too_long b k)) right
