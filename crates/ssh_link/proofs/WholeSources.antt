-- Where a script was run, or its run refused, the source was read to its end.
use Rattle.std.proofs.Common.{◌≡◌, ℕ, Bool, true, false, List, [], Option, Some, None, OnSome, IfSome, refl, subst}
use Rattle.ssh_wire.specs.Outside.{ReachesEnd}
use Rattle.ssh_program.specs.Programs.{AnswersBy, AnswersLeft, AnswersWords, IsAnswer, IsReading, is_too_long}
use Rattle.ssh_program.proofs.Lemmas.{one_of}
use Rattle.ssh_lines.specs.declared.script.ScriptFault.{ScriptFault}
use Rattle.ssh_lines.specs.OverLong.{over_long}
use Rattle.ssh_link.specs.Alike.{link_too_long, too_long}
use Rattle.ssh_link.specs.Program.{AnswersAttackScript, AnswersCommand, AnswersLinkScript, AnswersScript, AnswersText, IsReadWhole, command_in, needs_script, shown_attack, shown_clear, shown_fault, shown_refused, shown_report}
use Rattle.ssh_link.specs.declared.answer.Answer.{Answer}
use Rattle.ssh_link.specs.declared.answer.Answer.TheVariants.{Faulty, Refused, Ran, RanLink, RanGen, RanAttack}
use Rattle.ssh_link.specs.declared.command.Command.{Command}
use Rattle.ssh_link.specs.declared.command.Command.TheVariants.{Script, Gen}
use Rattle.ssh_link.specs.declared.command.ScriptCommand.{ScriptCommand}
use Rattle.ssh_link.specs.declared.command.ScriptCommand.TheVariants as command

not_faulty : (answer : Answer) (fault : ScriptFault) → answer ≡ Faulty fault → shown_fault (Some answer) ≡ None → ⊥
not_faulty answer fault e n = let s : Some fault ≡ None = subst (λ a. shown_fault (Some a) ≡ None) e n in cc

-- what is too long is faulty
long_faulty : (c : ScriptCommand) (text : List ℕ) (answer : Answer) → is_too_long text ≡ true → AnswersText c text answer → answer ≡ Faulty over_long
long_faulty command.Clear text answer h right = subst (λ script. AnswersScript script answer) (too_long text h) right
long_faulty command.Run text answer h right = subst (λ script. AnswersLinkScript script answer) (link_too_long false text h) right
long_faulty command.Attack text answer h right = subst (λ script. AnswersAttackScript script answer) (link_too_long true text h) right

not_long : (c : ScriptCommand) (text : List ℕ) (answer : Answer) → AnswersText c text answer → shown_fault (Some answer) ≡ None → is_too_long text ≡ false
not_long c text answer right n = by (is_too_long text) refl where
  by : (b : Bool) → is_too_long text ≡ b → is_too_long text ≡ false
  by false h = h
  by true h = absurd (not_faulty answer over_long (long_faulty c text answer h right) n)

script_whole : (c : ScriptCommand) (old new : Option (List ℕ)) (answer : Answer) → AnswersLeft AnswersCommand (Script c) old new answer → shown_fault (Some answer) ≡ None → ReachesEnd old new
script_whole c old new answer (text, left, right, whole) n = whole (not_long c text answer right n)

-- a command that reads a script
read_by : (command : Command) (old new : Option (List ℕ)) (answer : Answer) → needs_script command ≡ true → AnswersBy (needs_script command) AnswersCommand command old new answer → shown_fault (Some answer) ≡ None → ReachesEnd old new
read_by (Script c) old new answer r a n = script_whole c old new answer a n
read_by (Gen seed count) old new answer r a n = cc

ran_by : (command : Command) (old new : Option (List ℕ)) (answer : Answer) → shown_fault (Some answer) ≡ None → ((seed count : ℕ) → AnswersCommand (Gen seed count) [] answer → ⊥) → AnswersBy (needs_script command) AnswersCommand command old new answer → ReachesEnd old new
ran_by (Script c) old new answer n none a = script_whole c old new answer a n
ran_by (Gen seed count) old new answer n none a = absurd (none seed count a)

clear_end : (command : Command) (old new : Option (List ℕ)) (answer : Answer) → AnswersBy (needs_script command) AnswersCommand command old new answer → OnSome (shown_clear (Some answer)) (ReachesEnd old new)
clear_end command old new (Faulty fault) a = tt
clear_end command old new (Refused e) a = tt
clear_end command old new (Ran report) a = ran_by command old new (Ran report) refl (λ seed count h. h) a
clear_end command old new (RanLink report) a = tt
clear_end command old new (RanGen report) a = tt
clear_end command old new (RanAttack report) a = tt

link_end : (command : Command) (old new : Option (List ℕ)) (answer : Answer) → needs_script command ≡ true → AnswersBy (needs_script command) AnswersCommand command old new answer → OnSome (shown_report (Some answer)) (ReachesEnd old new)
link_end command old new (Faulty fault) r a = tt
link_end command old new (Refused e) r a = tt
link_end command old new (Ran report) r a = tt
link_end command old new (RanLink report) r a = read_by command old new (RanLink report) r a refl
link_end command old new (RanGen report) r a = read_by command old new (RanGen report) r a refl
link_end command old new (RanAttack report) r a = tt

attack_end : (command : Command) (old new : Option (List ℕ)) (answer : Answer) → AnswersBy (needs_script command) AnswersCommand command old new answer → OnSome (shown_attack (Some answer)) (ReachesEnd old new)
attack_end command old new (Faulty fault) a = tt
attack_end command old new (Refused e) a = tt
attack_end command old new (Ran report) a = tt
attack_end command old new (RanLink report) a = tt
attack_end command old new (RanGen report) a = tt
attack_end command old new (RanAttack report) a = ran_by command old new (RanAttack report) refl (λ seed count h. h) a

refused_end : (command : Command) (old new : Option (List ℕ)) (answer : Answer) → needs_script command ≡ true → AnswersBy (needs_script command) AnswersCommand command old new answer → OnSome (shown_refused (Some answer)) (ReachesEnd old new)
refused_end command old new (Faulty fault) r a = tt
refused_end command old new (Refused e) r a = read_by command old new (Refused e) r a refl
refused_end command old new (Ran report) r a = tt
refused_end command old new (RanLink report) r a = tt
refused_end command old new (RanGen report) r a = tt
refused_end command old new (RanAttack report) r a = tt

reading_of : (words : List (List ℕ)) (command : Command) → command_in words ≡ Some command → IsReading command_in needs_script words → needs_script command ≡ true
reading_of words command named (other, is, r) = subst (λ c. needs_script c ≡ true) (one_of other command (command_in words) is named) r

pub read_whole : (words : List (List ℕ)) (old new : Option (List ℕ)) (answer : Option Answer) → IfSome answer (AnswersWords command_in needs_script AnswersCommand words old new) → IsReadWhole words answer old new
read_whole words old new None h = record { run_end = tt; link_end = λ r. tt; attack_end = tt; refused_end = λ r. tt }
read_whole words old new (Some answer) (command, named, a) = record {
  run_end = clear_end command old new answer a;
  link_end = λ r. link_end command old new answer (reading_of words command named r) a;
  attack_end = attack_end command old new answer a;
  refused_end = λ r. refused_end command old new answer (reading_of words command named r) a;
}

pub answer_whole : (words : List (List ℕ)) (old new : Option (List ℕ)) (answer : Option Answer) → IsAnswer command_in needs_script AnswersCommand words old new answer → IsReadWhole words answer old new
answer_whole words old new None h = read_whole words old new None tt
answer_whole words old new (Some answer) h = read_whole words old new (Some answer) h
