use Rattle.std.proofs.Common.{◌≡◌, drop}
use Rattle.ssh_mux.specs.Summing.{granted_number}
use Rattle.ssh_mux.proofs.summing.granted_number.Given as goal

abbrev pub invariant-loop-channel : goal.invariant-loop-channel
invariant-loop-channel l = granted_number l.number (drop l.channel-index l.others) l.opening ≡ granted_number 0 l.others l.opening
