use Rattle.std.proofs.Common.{rules}
use Rattle.ssh_modp.proofs.Armour.{at_end}
use Rattle.ssh_modp.proofs.key_files.armoured.Goals as goal

pub returns : goal.returns
returns c = at_end c.loop-byte.body.items c.args.text.now c.loop-byte.begins c.loop-byte.skips c.loop-byte.byte-index (search rules) c.loop-byte.invariant
