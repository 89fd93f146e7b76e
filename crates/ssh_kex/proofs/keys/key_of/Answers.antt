-- Three blocks more behind the first, each only where bytes are wanted.
use Rattle.std.proofs.Common.{◌∙◌, ap}
use Rattle.std.specs.Prelude.{◌++◌, take, length}
use Rattle.ssh_kex.specs.Exchange.{key_by}
use Rattle.ssh_kex.proofs.KeyBytes.{key_length}
use Rattle.ssh_kex.proofs.keys.key_of.Goals as goal

pub returns-clause-value : goal.returns-clause-value
unfolding key_by
returns-clause-value c =
    c.stretched.ensures.stretched _ (c.stretched-three.ensures.stretched _ (c.stretched-two.ensures.stretched _
    (c.appended-one.ensures.value ∙ (ap (λ x. take c.args.need (x ++ c.first_block-first.result)) c.empty.ensures ∙ ap (take c.args.need) c.first_block-first.ensures))))

pub returns-clause-size : goal.returns-clause-size
returns-clause-size c = ap length (returns-clause-value c) ∙ key_length _ _ _ _ _ _ c.requires.need
