use Rattle.std.specs.Prelude.{bit_xor}
use Rattle.std.proofs.Common.{◌≡◌, ◌+◌, ◌-◌, ◌*◌, ◌^◌, drop}
use Rattle.ssh_aes.specs.Field.{polynomial_product}
use Rattle.ssh_aes.specs.Halves.{number_of}
use Rattle.ssh_aes.proofs.Pairs.{AreLanes}
use Rattle.ssh_aes.proofs.multiples.sum_of_products.Given as goal

abbrev pub invariant-loop-i : goal.invariant-loop-i
invariant-loop-i l = record {
  value : number_of l.high * 2 ^ 128 + number_of l.low ≡ bit_xor
      (polynomial_product 128 (number_of l.w) (number_of (drop (16 - l.i) l.a-inside.halves)))
      (polynomial_product 128 (number_of l.x) (number_of (drop (16 - l.i) l.b-inside.halves)));
  lanes_high : AreLanes l.high;
  lanes_low : AreLanes l.low;
}
