use Rattle.std.proofs.Common.{rules}
use Rattle.std.proofs.lemmas.Fn.{filter_same}
use Rattle.ssh_negotiate.specs.Reading.{compared_kex}
use Rattle.ssh_negotiate.proofs.read.compared_kex.Goals as goal

pub returns : goal.returns
unfolding compared_kex
returns c = filter_same _ _ _ (λ x b f' k. search rules) _ _ c.retain.ensures.filtered
