use Rattle.std.proofs.Common.{◌^◌, ◌<◌, arith, subst, ap, ◌∙◌}
use Rattle.ssh_aes.specs.Field.{block_modulus, block_product, remainder}
use Rattle.ssh_aes.proofs.Parts.{halves-short}
use Rattle.ssh_aes.proofs.Pairs.{sum-same}
use Rattle.ssh_aes.proofs.Squares.{split-is, sum-top, sum-top_high, both-short, parts-lt, put_together-same, sum-joined}
use Rattle.ssh_aes.proofs.factors.sum_of_two.Goals as goal

pub sum_of_products-requires-3-clause-first : goal.sum_of_products-requires-3-clause-first
sum_of_products-requires-3-clause-first c = let p = split-is c.args.a c.halves.result.0 c.halves.result.1 (omega arith) c.halves.ensures.low c.halves.ensures.high in p.both

pub sum_of_products-requires-3-clause-second : goal.sum_of_products-requires-3-clause-second
sum_of_products-requires-3-clause-second c = let p = split-is c.args.b c.halves-2.result.0 c.halves-2.result.1 (omega arith) c.halves-2.ensures.low c.halves-2.ensures.high in p.both

pub joined-requires-clause-low : goal.joined-requires-clause-low
joined-requires-clause-low c =
    sum-top c.sum_of_products.result.0 c.sum_of_products.result.1 _ _ _ _ c.w.invariant.low_short c.x.invariant.low_short c.sum_of_products.ensures

pub joined-requires-clause-high : goal.joined-requires-clause-high
joined-requires-clause-high c =
    let pa = split-is c.args.a c.halves.result.0 c.halves.result.1 (omega arith) c.halves.ensures.low c.halves.ensures.high in
    let pb = split-is c.args.b c.halves-2.result.0 c.halves-2.result.1 (omega arith) c.halves-2.ensures.low c.halves-2.ensures.high in
    sum-top_high c.sum_of_products-2.result.0 c.sum_of_products-2.result.1 _ _ _ _ (halves-short _ pa.high) (halves-short _ pb.high) c.w.invariant.high_short c.x.invariant.high_short c.sum_of_products-2.ensures

pub joined-requires-clause-both : goal.joined-requires-clause-both
joined-requires-clause-both c =
    sum-top c.sum_of_products-3.result.0 c.sum_of_products-3.result.1 _ _ _ _ (both-short _ _ _ _ c.w.invariant) (both-short _ _ _ _ c.x.invariant) c.sum_of_products-3.ensures

pub returns-clause-sum : goal.returns-clause-sum
returns-clause-sum c =
    let pa = split-is c.args.a c.halves.result.0 c.halves.result.1 (omega arith) c.halves.ensures.low c.halves.ensures.high in
    let pb = split-is c.args.b c.halves-2.result.0 c.halves-2.result.1 (omega arith) c.halves-2.ensures.low c.halves-2.ensures.high in
    c.joined.ensures
    ∙ ap (remainder 128 block_modulus 128) (put_together-same _ _ _ _ _ _ c.sum_of_products.ensures c.sum_of_products-2.ensures c.sum_of_products-3.ensures)
    ∙ sum-joined c.args.a c.args.b _ _ _ _ c.w.inside.whole c.w.inside.low c.w.inside.high c.w.inside.both c.x.inside.whole c.x.inside.low c.x.inside.high c.x.inside.both pa pb c.w.invariant c.x.invariant
    ∙ sum-same _ _ _ _ (ap (block_product c.args.a) c.w.view_is) (ap (block_product c.args.b) c.x.view_is)

pub returns-clause-first_short : goal.returns-clause-first_short
returns-clause-first_short c = subst (λ n. n < 2 ^ 128) c.w.view_is (parts-lt _ _ _ _ c.w.invariant)

pub returns-clause-second_short : goal.returns-clause-second_short
returns-clause-second_short c = subst (λ n. n < 2 ^ 128) c.x.view_is (parts-lt _ _ _ _ c.x.invariant)
