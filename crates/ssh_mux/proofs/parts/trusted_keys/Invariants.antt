use Rattle.std.proofs.Common.{◌≡◌, map, take}
use Rattle.ssh_mux.specs.Sides.{trusted_key}
use Rattle.ssh_mux.proofs.parts.trusted_keys.Given as goal

abbrev pub invariant-loop-key : goal.invariant-loop-key
invariant-loop-key l = l.trusted.items ≡ map trusted_key (take l.key-index l.keys)
