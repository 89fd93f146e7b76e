use Rattle.std.proofs.Common.{◌≡◌, ◌++◌}
use Rattle.std.specs.Iterator.Adapters.{zip_first, zip_second}
use Rattle.std.specs.Slice.Iter.{iter_rest}
use Rattle.uses.specs.Encapsulating.{masked}
use Rattle.uses.proofs.encapsulating.masked.Given as goal

-- what is made, and what the bytes that are left will make
abbrev pub invariant-loop-left : goal.invariant-loop-left
invariant-loop-left l =
    l.masked.items ++ masked (iter_rest (zip_first l.left-iterator)) (iter_rest (zip_second l.left-iterator)) ≡ masked l.mask l.bytes
