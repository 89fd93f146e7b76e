use Rattle.ssh_aes.proofs.Worked.{substitution_example, inverses_example, block_examples, sealed_examples}
use Rattle.ssh_aes.proofs.laws.worked_examples.Goals as goal

pub returns : goal.returns
returns c = record { substitution = substitution_example; inverses = inverses_example; blocks = block_examples; sealed = sealed_examples }
