use Rattle.std.proofs.Common.{arith, ap, ◌∙◌}
use Rattle.ssh_aes.specs.Field.{block_modulus, product_modulo, remainder, block_product}
use Rattle.ssh_aes.specs.Halves.{number_of}
use Rattle.ssh_aes.proofs.Parts.{halves-short}
use Rattle.ssh_aes.proofs.Squares.{split-is, product-top, product-top_high, both-short, part_product, put_together-same}
use Rattle.ssh_aes.proofs.factors.Factor.product.Goals as goal

pub product-requires-3 : goal.product-requires-3
product-requires-3 c =
    let p = split-is c.args.a c.halves.result.0 c.halves.result.1 (omega arith) c.halves.ensures.low c.halves.ensures.high in
    p.both

pub joined-requires-clause-low : goal.joined-requires-clause-low
joined-requires-clause-low c = product-top c.product.result.0 c.product.result.1 (number_of c.halves.result.0) c.self.inside.low c.self.invariant.low_short c.product.ensures

pub joined-requires-clause-high : goal.joined-requires-clause-high
joined-requires-clause-high c =
    let p = split-is c.args.a c.halves.result.0 c.halves.result.1 (omega arith) c.halves.ensures.low c.halves.ensures.high in
    product-top_high c.product-2.result.0 c.product-2.result.1 (number_of c.halves.result.1) c.self.inside.high (halves-short c.halves.result.1 p.high) c.self.invariant.high_short c.product-2.ensures

pub joined-requires-clause-both : goal.joined-requires-clause-both
joined-requires-clause-both c = product-top c.product-3.result.0 c.product-3.result.1 _ c.self.inside.both (both-short _ _ _ _ c.self.invariant) c.product-3.ensures

pub returns : goal.returns
unfolding product_modulo
returns c =
    let k = c.self.inside in
    let p = split-is c.args.a c.halves.result.0 c.halves.result.1 (omega arith) c.halves.ensures.low c.halves.ensures.high in
    c.joined.ensures
    ∙ ap (remainder 128 block_modulus 128)
    (put_together-same _ _ _ _ _ _ c.product.ensures c.product-2.ensures c.product-3.ensures ∙ part_product c.args.a c.halves.result.0 c.halves.result.1 k.whole k.low k.high k.both p c.self.invariant)
    ∙ ap (block_product c.args.a) c.self.view_is
