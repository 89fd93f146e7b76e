use Rattle.std.proofs.Common.{◌*◌}
use Rattle.ssh_aes.proofs.Chunks.{masked_chunk}
use Rattle.ssh_aes.proofs.stream.mask_block.Goals as goal

pub returns-clause-masked : goal.returns-clause-masked
returns-clause-masked c = masked_chunk (16 * c.args.k) c.args.bytes.now c.args.stream.now c.requires c.told-stream
