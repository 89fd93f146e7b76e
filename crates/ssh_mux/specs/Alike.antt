-- Two texts over the longest script are answered alike.
use Rattle.std.specs.Prelude.{◌≡◌, ℕ, true, List, Err}
use Rattle.std.proofs.Common.{sym, subst, ◌∙◌}
use Rattle.ssh_program.specs.Programs.{AnswersAlike, is_too_long}
use Rattle.ssh_lines.specs.OverLong.{over_long, said_too_long}
use Rattle.ssh_mux.specs.Program.{AnswersMuxCommand, AnswersMuxScript}
use Rattle.ssh_mux.specs.Script.{first_mux_plan, mux_form, channel_script}
use Rattle.ssh_mux.specs.declared.mux_program.MuxCommand.TheVariants.{Channels}

pub too_long : (text : List ℕ) → is_too_long text ≡ true → channel_script text ≡ Err over_long
too_long text h = said_too_long mux_form first_mux_plan text h

pub answers_alike : AnswersAlike AnswersMuxCommand
answers_alike Channels a b answer h k right = subst (λ script. AnswersMuxScript script answer) (too_long a h ∙ sym (too_long b k)) right
