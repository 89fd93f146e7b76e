use Rattle.std.proofs.Common.{arith, ◌++◌, ℕ, List, ap, ◌∙◌}
use Rattle.std.specs.Iterator.Adapters.{zip_first, zip_second}
use Rattle.std.specs.Slice.Iter.{iter_rest}
use Rattle.std.proofs.lemmas.Grind.{common_steps}
use Rattle.std.proofs.lemmas.Slice.Zip.{Zip-more, either_empty_from_Zip}
use Rattle.uses.specs.Encapsulating.{masked}
use Rattle.uses.proofs.Masking.{masked_end, masked_more}
use Rattle.uses.proofs.encapsulating.masked.Goals as goal

pub loop-left-init : goal.loop-left-init
loop-left-init c = grind (arith, common_steps)

pub loop-left-preserved : goal.loop-left-preserved
loop-left-preserved c =
    let z = Zip-more c.loop-left.left-iterator c.next.new.self c.next.result (c.in-Some.left, c.in-Some.right) (grind (arith, common_steps)) c.next.ensures.steps in
    ap (λ (items : List ℕ). items ++ masked (iter_rest (zip_first c.next.new.self)) (iter_rest (zip_second c.next.new.self))) (c.in_ok-push.ensures.items)
    ∙ masked_more c.loop-left.masked.items _ _ _ _ _ _ _ z.0 z.1 c.loop-left.invariant

pub returns : goal.returns
returns c =
    c.new.ensures
    ∙ masked_end _ _ _ _ (either_empty_from_Zip c.loop-left.left-iterator c.next.new.self c.next.result c.in-None.is c.next.ensures.steps)
    c.loop-left.invariant
