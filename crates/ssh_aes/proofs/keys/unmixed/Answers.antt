use Rattle.ssh_aes.proofs.Holding.{unmixed_is}
use Rattle.ssh_aes.proofs.keys.unmixed.Goals as goal

pub returns : goal.returns
returns c = unmixed_is c.args.keys.now _ _ _ _ _ _ _ _ c.args.round c.requires c.fits-keys c.key_at.ensures c.by_halves-nine.ensures c.by_halves-thirteen.ensures c.by_halves-eleven.ensures c.by_halves-fourteen.ensures c.next_row.ensures c.next_row-2.ensures c.next_row-3.ensures
