use Rattle.std.proofs.Common.{arith}
use Rattle.ssh_modp.specs.PrimeSizes.{modp_small}
use Rattle.ssh_modp.proofs.Lemmas.{modp_taken}
use Rattle.ssh_modp.proofs.groups.ModpGroupsGroupLookup.lookup_dh_gex_group.Goals as goal

pub returns-in-Ok-clause-values : goal.returns-in-Ok-clause-values
returns-in-Ok-clause-values c =
    rw (c.in-Ok.ensures, c.prime_for.ensures) ((omega (arith, (modp_small c.args.gex_params.now).0), omega arith))

pub returns-in-Ok-clause-taken : goal.returns-in-Ok-clause-taken
returns-in-Ok-clause-taken c =
    rw (c.in-Ok.ensures, c.prime_for.ensures) (modp_taken c.args.gex_params.now)
