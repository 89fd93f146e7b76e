use Rattle.std.proofs.Common.{ap, ◌∙◌}
use Rattle.ssh_aes.specs.Aes.{aes}
use Rattle.ssh_aes.specs.Gcm.{nonce_stream}
use Rattle.ssh_aes.proofs.gcm.Gcm.stream.Goals as goal

pub returns : goal.returns
unfolding nonce_stream
returns c = c.encrypt_block.ensures ∙ ap (aes c.self.inside.aes) c.counter_block-counter.ensures ∙ ap (λ key. nonce_stream key c.args.nonce.now c.args.number) c.self.view_is
