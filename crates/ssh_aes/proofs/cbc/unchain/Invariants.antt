use Rattle.std.proofs.Common.{◌≡◌, ◌<◌, ℕ, slice_index, ◌++◌, ◌-◌, ◌*◌, ◌/◌, length, take, drop}
use Rattle.ssh_aes.specs.Modes.{unchained_text, last_block}
use Rattle.ssh_aes.proofs.cbc.unchain.Given as goal

abbrev pub invariant-loop-k : goal.invariant-loop-k
invariant-loop-k l =
    let n = length l.initial.bytes / 16 in
    record {
      text : take (16 * l.k) l.bytes ++ unchained_text l.aes l.last (n - l.k) (drop (16 * l.k) l.bytes) ≡ unchained_text l.aes l.initial.last n l.initial.bytes;
      last : last_block l.last (n - l.k) (drop (16 * l.k) l.bytes) ≡ last_block l.initial.last n l.initial.bytes;
      long : length l.last ≡ 16;
      bytes : (i : ℕ) → slice_index l.last i < 256;
    }
