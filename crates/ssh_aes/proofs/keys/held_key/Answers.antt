use Rattle.ssh_aes.proofs.Holding.{held_key_is}
use Rattle.ssh_aes.proofs.keys.held_key.Goals as goal

pub returns : goal.returns
returns c = held_key_is c.args.keys.now _ _ c.args.round c.fits-keys c.key_at.ensures c.by_halves.ensures
