use Rattle.std.proofs.Common.{arith}
use Rattle.std.specs.Option.{option_copied}
use Rattle.ssh_modp.specs.Fields.{LacksPublic}
use Rattle.ssh_modp.proofs.Taken.{public_never}
use Rattle.ssh_modp.proofs.agreement.FieldAgreementAgreement.client_start.Goals as goal

pub returns-clause-never : goal.returns-clause-never
returns-clause-never g c = λ t i o r.
    let l : LacksPublic c.args.name (option_copied c.args.group) (g.R.Rng.stream c.args.rng.now) = grind arith in
    public_never c.args.name (option_copied c.args.group) (g.R.Rng.stream c.args.rng.now) l t i o
