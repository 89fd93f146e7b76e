use Rattle.std.proofs.Common.{rules, sym, subst}
use Rattle.ssh_aes.specs.Halves.{AreHalves}
use Rattle.ssh_aes.proofs.Shifted.{halves_within}
use Rattle.ssh_aes.proofs.Parts.{low_of-halves, high_of-halves}
use Rattle.ssh_aes.proofs.Reversed.{reversed-lanes}
use Rattle.ssh_aes.proofs.multiples.reversed.Goals as goal

pub swizzle : goal.swizzle
swizzle c = halves_within c.split.result.0 (subst AreHalves (sym c.split.ensures.low) (low_of-halves c.args.bytes (search rules)))

pub swizzle-2 : goal.swizzle-2
swizzle-2 c = halves_within c.split.result.1 (subst AreHalves (sym c.split.ensures.high) (high_of-halves c.args.bytes (search rules) (λ i. search rules)))

pub returns : goal.returns
returns c = rw (c.split.ensures.low, c.split.ensures.high) (reversed-lanes c.args.bytes (search rules) (λ i. search rules))
