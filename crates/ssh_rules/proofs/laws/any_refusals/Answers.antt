use Rattle.ssh_rules.proofs.refusals.AnyRefusals.{any_refused}
use Rattle.ssh_rules.proofs.laws.any_refusals.Goals as goal

pub returns : goal.returns
returns g c = λ t a b h i gr j w cl sl side took piece old new v v' x x' y y' error valid sizes r.
    any_refused _ _ _ _ _ w cl sl side took piece old new error valid sizes
    (record {
      start = λ name group d. d.0;
      value = λ name group public d. d.0;
      reply = λ name group local value d. d.0;
      lookup = λ sizes d. d.0;
      sign = λ config d. d.0;
      verify = λ host hash signature d. d.0;
      check = λ host d. d.0;
    })
    r
