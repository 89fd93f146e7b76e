use Rattle.std.proofs.Common.{◌≡◌, ◌<◌, ℕ, slice_index, ◌++◌, ◌-◌, ◌*◌, ◌/◌, length, take, drop}
use Rattle.ssh_aes.specs.Modes.{chained_text, last_block}
use Rattle.ssh_aes.proofs.cbc.chain.Given as goal

abbrev pub invariant-loop-k : goal.invariant-loop-k
invariant-loop-k l = record {
  text : take (16 * l.k) l.bytes ++ chained_text l.aes l.last (length l.initial.bytes / 16 - l.k) (drop (16 * l.k) l.bytes) ≡ chained_text l.aes l.initial.last (length l.initial.bytes / 16) l.initial.bytes;
  last : l.last ≡ last_block l.initial.last l.k l.bytes;
  long : length l.last ≡ 16;
  bytes : (i : ℕ) → slice_index l.last i < 256;
}
