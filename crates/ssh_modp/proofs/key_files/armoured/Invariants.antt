use Rattle.std.proofs.Common.{◌≡◌, ◌++◌, drop, true, false}
use Rattle.ssh_modp.proofs.Armour.{text_in}
use Rattle.ssh_modp.proofs.key_files.armoured.Given as goal

abbrev pub invariant-loop-byte : goal.invariant-loop-byte
invariant-loop-byte l = l.body.items ++ text_in l.begins l.skips (drop l.byte-index l.text) ≡ text_in true false l.text
