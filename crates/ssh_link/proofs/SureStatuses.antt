-- Where no answer but a report is left, each answer has the status of one.
use Rattle.std.proofs.Common.{◌≡◌, ℕ, false, true, List, Option, None, refl, subst}
use Rattle.ssh_program.specs.Programs.{HasOneStatus, IsReading}
use Rattle.ssh_program.specs.Statuses.{report_written}
use Rattle.ssh_program.proofs.Lemmas.{one_of, one_to_none, one_to_script}
use Rattle.ssh_run.specs.ClearRun.{first_refused}
use Rattle.ssh_script.specs.Generated.{generated_plan}
use Rattle.ssh_script.specs.Plans.{Plan}
use Rattle.ssh_script.specs.declared.step.ClearStep.{ClearStep}
use Rattle.ssh_link.specs.PlanParts.{IsFaultlessPlan, IsValidPlan}
use Rattle.ssh_link.specs.Program.{AnswersAttack, AnswersAttackScript, AnswersCommand, AnswersGen, AnswersLinkScript, AnswersPlan, AnswersScript, AnswersSteps, IsAttackable, IsClearable, IsGenerated, IsRunnable, answer_status, command_in, needs_script}
use Rattle.ssh_link.specs.declared.answer.Answer.{Answer}
use Rattle.ssh_link.specs.declared.answer.Answer.TheVariants.{Faulty, Refused, Ran, RanLink, RanGen, RanAttack}
use Rattle.ssh_link.specs.declared.command.Command.TheVariants.{Script, Gen}
use Rattle.ssh_link.specs.declared.command.ScriptCommand.TheVariants as command

clear_told : (steps : List ClearStep) (answer : Answer) → first_refused steps ≡ None → AnswersSteps steps answer → answer_status answer ≡ report_written
clear_told steps (Faulty fault) good h = absurd h
clear_told steps (Refused e) good (n, is, named) = cc
clear_told steps (Ran report) good h = refl
clear_told steps (RanLink report) good h = absurd h
clear_told steps (RanGen report) good h = absurd h
clear_told steps (RanAttack report) good h = absurd h

run_told : (plan : Plan) (answer : Answer) → IsFaultlessPlan plan → AnswersPlan plan answer → answer_status answer ≡ report_written
run_told plan (Faulty fault) f h = absurd h
run_told plan (Refused e) f h = absurd (h.faulty f)
run_told plan (Ran report) f h = absurd h
run_told plan (RanLink report) f h = refl
run_told plan (RanGen report) f h = absurd h
run_told plan (RanAttack report) f h = absurd h

attack_told : (plan : Plan) (answer : Answer) → IsValidPlan plan → AnswersAttack plan answer → answer_status answer ≡ report_written
attack_told plan (Faulty fault) valid h = absurd h
attack_told plan (Refused e) valid (f, is, told) = cc
attack_told plan (Ran report) valid h = absurd h
attack_told plan (RanLink report) valid h = absurd h
attack_told plan (RanGen report) valid h = absurd h
attack_told plan (RanAttack report) valid h = refl

gen_told : (plan : Plan) (answer : Answer) → AnswersGen plan answer → answer_status answer ≡ report_written
gen_told plan (Faulty fault) h = absurd h
gen_told plan (Refused e) h = absurd h
gen_told plan (Ran report) h = absurd h
gen_told plan (RanLink report) h = absurd h
gen_told plan (RanGen report) h = refl
gen_told plan (RanAttack report) h = absurd h

-- what the calls are told of a command's words
abbrev pub IsSure : List (List ℕ) → Option (List ℕ) → Type 0
IsSure words left = HasOneStatus command_in needs_script AnswersCommand answer_status words left report_written

pub clear_sure : (words : List (List ℕ)) (left : Option (List ℕ)) → IsClearable words left → IsSure words left
clear_sure words left c = one_to_script command_in needs_script AnswersCommand answer_status words left report_written (Script command.Clear) c.text c.named refl c.left_is
    (λ answer a. clear_told c.steps answer c.good (subst (λ script. AnswersScript script answer) c.is_script a))

pub run_sure : (words : List (List ℕ)) (left : Option (List ℕ)) → IsRunnable words left → IsSure words left
run_sure words left c = one_to_script command_in needs_script AnswersCommand answer_status words left report_written (Script command.Run) c.text c.named refl c.left_is
    (λ answer a. run_told c.plan answer c.faultless (subst (λ script. AnswersLinkScript script answer) c.is_script a))

pub attack_sure : (words : List (List ℕ)) (left : Option (List ℕ)) → IsAttackable words left → IsSure words left
attack_sure words left c = one_to_script command_in needs_script AnswersCommand answer_status words left report_written (Script command.Attack) c.text c.named refl c.left_is
    (λ answer a. attack_told c.plan answer c.valid (subst (λ script. AnswersAttackScript script answer) c.is_script a))

pub gen_sure : (words : List (List ℕ)) (left : Option (List ℕ)) → IsGenerated words → IsSure words left
gen_sure words left (seed, count, named) = one_to_none command_in needs_script AnswersCommand answer_status words left report_written (Gen seed count) named refl
    (λ answer a. gen_told (generated_plan seed count) answer a)

-- a generated script isn't read
pub gen_unread : (words : List (List ℕ)) → IsGenerated words → IsReading command_in needs_script words → ⊥
gen_unread words (seed, count, named) (other, is, r) =
    let s : false ≡ true = subst (λ c. needs_script c ≡ true) (one_of other (Gen seed count) (command_in words) is named) r in
    cc
