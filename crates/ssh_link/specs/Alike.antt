-- Two texts over the longest script are answered alike.
use Rattle.std.specs.Prelude.{◌≡◌, ℕ, Bool, true, false, List, [], Err}
use Rattle.std.proofs.Common.{ap, sym, subst, ◌∙◌}
use Rattle.ssh_program.specs.Programs.{AnswersAlike, is_too_long}
use Rattle.ssh_lines.specs.OverLong.{over_long, said_too_long}
use Rattle.ssh_script.specs.RunScript.{completed, first_plan, link_form, link_script}
use Rattle.ssh_script.specs.Script.{clear_form, clear_script}
use Rattle.ssh_link.specs.Program.{AnswersAttackScript, AnswersCommand, AnswersLinkScript, AnswersScript}
use Rattle.ssh_link.specs.declared.command.Command.TheVariants.{Script, Gen}
use Rattle.ssh_link.specs.declared.command.ScriptCommand.TheVariants as command

pub too_long : (text : List ℕ) → is_too_long text ≡ true → clear_script text ≡ Err over_long
too_long text h = said_too_long clear_form [] text h

pub link_too_long : (attacked : Bool) (text : List ℕ) → is_too_long text ≡ true → link_script attacked text ≡ Err over_long
link_too_long attacked text h = ap completed (said_too_long (link_form attacked) first_plan text h)

pub answers_alike : AnswersAlike AnswersCommand
answers_alike (Script command.Clear) a b answer h k right = subst (λ script. AnswersScript script answer) (too_long a h ∙ sym (too_long b k)) right
answers_alike (Script command.Run) a b answer h k right = subst (λ script. AnswersLinkScript script answer) (link_too_long false a h ∙ sym (link_too_long false b k)) right
answers_alike (Script command.Attack) a b answer h k right = subst (λ script. AnswersAttackScript script answer) (link_too_long true a h ∙ sym (link_too_long true b k)) right
answers_alike (Gen seed count) a b answer h k right = right
