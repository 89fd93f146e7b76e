use Rattle.std.proofs.Common.{◌≡◌, ◌+◌, ◌-◌, ◌*◌, ◌^◌, length, drop}
use Rattle.ssh_aes.specs.Field.{polynomial_product}
use Rattle.ssh_aes.specs.Laws.{AreOctets}
use Rattle.ssh_aes.specs.Halves.{number_of}
use Rattle.ssh_aes.proofs.multiples.Multiples.product.Given as goal

abbrev pub invariant-loop-i : goal.invariant-loop-i
invariant-loop-i l = record {
  value : number_of l.high * 2 ^ 128 + number_of l.low ≡ polynomial_product 128 (number_of l.halves) (number_of (drop (16 - l.i) l.self-inside.halves));
  long_high : length l.high ≡ 16;
  long_low : length l.low ≡ 16;
  octets_high : AreOctets l.high;
  octets_low : AreOctets l.low;
}
