use Rattle.ssh_aes.proofs.Sixteens.{read_is, reads_well}
use Rattle.ssh_aes.proofs.vectors.entries.Goals as goal

pub returns : goal.returns
returns c = read_is c.args.table.now c.args.places c.requires

pub swizzle : goal.swizzle
swizzle c = reads_well c.args.places c.requires
