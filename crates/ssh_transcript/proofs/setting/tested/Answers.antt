use Rattle.std.proofs.Common.{inr, refl}
use Rattle.ssh_transcript.proofs.Naming.{refused_fails}
use Rattle.ssh_transcript.proofs.setting.tested.Goals as goal

pub returns-in-Some-clause-refused : goal.returns-in-Some-clause-refused
returns-in-Some-clause-refused c = inr (refl, λ names have. refused_fails _ _ _ c.first_config_fault.ensures c.in-Some.is have.valid)
