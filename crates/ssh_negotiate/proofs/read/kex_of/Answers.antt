use Rattle.std.proofs.Common.{◌∙◌, ap}
use Rattle.ssh_wire.specs.declared.error.AlgorithmKind.TheVariants.{Kex}
use Rattle.ssh_negotiate.specs.Reading.{select}
use Rattle.ssh_negotiate.specs.Tables.{kex_text}
use Rattle.ssh_negotiate.proofs.Parts.{given}
use Rattle.ssh_negotiate.proofs.read.kex_of.Goals as goal

pub returns : goal.returns
returns c =
    given _ _ c.choice_with.result
    (ap (λ own. select kex_text c.args.side Kex own c.compared_kex.result.0.items) (c.as_slice.ensures.value ∙ c.in_ok-own.ensures)
    ∙ ap (select kex_text c.args.side Kex _) c.compared_kex.ensures)
    c.choice_with.ensures
