use Rattle.std.proofs.Common.{ap, ◌∙◌}
use Rattle.ssh_aes.specs.Field.{block_product}
use Rattle.ssh_aes.proofs.factors.Factor.square.Goals as goal

pub returns : goal.returns
returns c = c.new.ensures ∙ c.product.ensures ∙ ap (λ u. block_product u c.args.self.now) c.self.view_is
