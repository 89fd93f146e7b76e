use Rattle.ssh_kex.proofs.Lemmas.{memory_alone}
use Rattle.ssh_kex.proofs.laws.memory_alone.Goals as goal

pub returns : goal.returns
returns g c = λ setup config a a' h h' gr gr' m i old new p error la lh none small t r.
    memory_alone _ _ m i old new p error
    (record { value = λ v f. f setup la; signature = λ v f. f setup lh })
    (record {
      start = λ name group d. none.agreement d.0;
      value = λ name group v d. none.agreement d.0;
      reply = λ name group l v d. none.agreement d.0;
      lookup = λ sizes d. none.lookup d.0;
      sign = λ config d. none.sign d.0;
      verify = λ host hash signature d. none.verify d.0;
    })
    small t r
