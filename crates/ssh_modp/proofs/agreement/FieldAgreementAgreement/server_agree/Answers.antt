use Rattle.std.proofs.Common.{arith}
use Rattle.std.specs.Option.{option_copied}
use Rattle.ssh_modp.specs.Fields.{LacksAgreed}
use Rattle.ssh_modp.proofs.Taken.{agreed_never}
use Rattle.ssh_modp.proofs.agreement.FieldAgreementAgreement.server_agree.Goals as goal

pub returns-clause-never : goal.returns-clause-never
returns-clause-never g c = λ local t i o m r.
    let l : LacksAgreed c.args.name (option_copied c.args.group) c.args.client_public.now (g.R.Rng.stream c.args.rng.now) = grind arith in
    agreed_never c.args.name (option_copied c.args.group) c.args.client_public.now (g.R.Rng.stream c.args.rng.now) l t i o local m
