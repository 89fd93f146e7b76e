use Rattle.std.proofs.Common.{◌≡◌, ◌++◌, take, drop}
use Rattle.ssh_mac.specs.Hmac.{bytes_xor}
use Rattle.ssh_mac.proofs.hmac.combine.Given as goal

abbrev pub invariant-loop-b : goal.invariant-loop-b
invariant-loop-b l = l.block ≡ bytes_xor l.byte (take l.b-index l.initial.block) ++ drop l.b-index l.initial.block
