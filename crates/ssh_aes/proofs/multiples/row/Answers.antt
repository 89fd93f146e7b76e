use Rattle.ssh_aes.proofs.Rows.{row-is}
use Rattle.ssh_aes.proofs.multiples.row.Goals as goal

pub returns : goal.returns
returns c = row-is c.args.half c.requires
