use Rattle.ssh_aes.proofs.Rounding.{with_key_is}
use Rattle.ssh_aes.proofs.rounds.with_key.Goals as goal

pub returns : goal.returns
returns c = with_key_is c.args.keys.now c.args.block.now _ _ c.args.round c.requires c.fits-keys c.fits-block c.by_halves.ensures c.key_at.ensures
