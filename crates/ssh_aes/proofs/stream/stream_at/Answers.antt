use Rattle.std.proofs.Common.{refl}
use Rattle.ssh_aes.specs.Modes.{stream_block}
use Rattle.ssh_aes.proofs.stream.stream_at.Goals as goal

pub returns : goal.returns
unfolding stream_block
returns c = rw (c.encrypt_block.ensures, c.counter_at-block.ensures) refl
