use Rattle.std.proofs.Common.{◌≡◌, ◌*◌, ◌-◌, length, take}
use Rattle.ssh_aes.specs.Aes.{schedule}
use Rattle.ssh_aes.proofs.keys.schedule_of.Given as goal

abbrev pub invariant-loop-i : goal.invariant-loop-i
invariant-loop-i l = record {
  len : length l.keys ≡ 240;
  made : take (4 * l.i) l.keys ≡ schedule l.words l.key (l.i - l.words);
}
