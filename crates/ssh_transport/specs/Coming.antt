-- What calls on a transport lead to, and what its parts answered meanwhile.
use Rattle.std.specs.Prelude.{◌≡◌, ◌++◌, List}
use Rattle.ssh_wire.specs.Lines.{id_text}
use Rattle.ssh_rules.specs.Answering.{AnswersAll, PartTests}
use Rattle.ssh_rules.specs.Log.{sent_bytes}
use Rattle.ssh_rules.specs.Machine.{Event, IsQuiet, Steps}
use Rattle.ssh_rules.specs.Standing.{Standing, nothing_said}

-- Some events lead from one transport to another and wrote what went behind the output, whatever was taken of what they
-- delivered. And each part answered all that it was asked.
pub record ComesAnswered (old new : Standing) (tests tests' : PartTests) : Type 0 where
  pub side : new.side ≡ old.side
  pub config : new.config ≡ old.config
  pub events : List Event
  pub steps : Steps nothing_said old.side old.config (id_text old.config.id) old.state events new.state
  pub output : new.output ≡ old.output ++ sent_bytes old.side old.state.writing events
  pub quiet : IsQuiet old.config old.state → IsQuiet new.config new.state
  pub answers : AnswersAll old.side old.state new.state tests tests'
