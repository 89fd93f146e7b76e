use Rattle.std.proofs.Common.{ap, ◌∙◌}
use Rattle.ssh_aes.specs.Gcm.{gcm_counter_text}
use Rattle.ssh_aes.specs.Modes.{counter_text}
use Rattle.ssh_aes.proofs.Streams.{gcm_counted-is}
use Rattle.ssh_aes.proofs.gcm.Gcm.mask.Goals as goal

pub returns : goal.returns
returns c =
    c.mask_from.ensures
    ∙ ap (λ iv. counter_text c.self.inside.aes iv 32 c.args.bytes.now) c.counter_block.ensures
    ∙ gcm_counted-is c.self.inside.aes c.args.nonce.now c.args.bytes.now c.fits-nonce c.requires
    ∙ ap (λ key. gcm_counter_text key c.args.nonce.now c.args.bytes.now) c.self.view_is
