use Rattle.std.proofs.Common.{◌%◌, ◌/◌, ◌^◌, ◌∙◌, rules}
use Rattle.std.specs.Prelude.{bit_and}
use Rattle.std.proofs.lemmas.Nat.{and_mask}
use Rattle.std.proofs.lemmas.Simd.{zip2_splat}
use Rattle.ssh_aes.proofs.Parts.{map-same}
use Rattle.ssh_aes.proofs.multiples.split.Goals as goal

pub returns-clause-low : goal.returns-clause-low
returns-clause-low c = zip2_splat bit_and c.args.bytes 16 15 (search rules) ∙ map-same (λ x. bit_and x 15) (λ b. b % 16) c.args.bytes (λ x. and_mask x 4)

pub returns-clause-high : goal.returns-clause-high
returns-clause-high c = zip2_splat (λ x k. x / 2 ^ k) c.args.bytes 16 4 (search rules)
