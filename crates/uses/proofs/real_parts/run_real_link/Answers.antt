use Rattle.std.proofs.Common.{Bool, true, false, Some, None, if◌then◌else◌}
use Rattle.ssh_kex.specs.declared.group.GexParams.{GexParams}
use Rattle.ssh_modp.specs.Fields.{TakesGroup}
use Rattle.ssh_modp.specs.Groups.{modp_group}
use Rattle.ssh_modp.proofs.Lemmas.{modp_taken}
use Rattle.ssh_rules.specs.Headline.{chosen_by, kind_by}
use Rattle.uses.proofs.real_parts.run_real_link.Goals as goal

-- the group that the exchanges are in is taken
taken : (kind : Bool) (sizes : GexParams) → TakesGroup (if kind then Some (modp_group sizes) else None)
taken true sizes = modp_taken sizes
taken false sizes = tt

pub returns-clause-complete : goal.returns-clause-complete
returns-clause-complete g c = λ valid known signs allows.
    let due = taken (kind_by (chosen_by c.args.client.now c.args.server.now)) c.args.client.now.gex in
    c.run_link.ensures.complete valid due due known signs tt allows
