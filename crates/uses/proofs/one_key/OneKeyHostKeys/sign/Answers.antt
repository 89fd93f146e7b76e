use Rattle.uses.proofs.one_key.OneKeyHostKeys.sign.Goals as goal

pub returns-clause-made : goal.returns-clause-made
returns-clause-made g c = λ later s host o p. c.sign.ensures.made later.inner s host o.0 p
