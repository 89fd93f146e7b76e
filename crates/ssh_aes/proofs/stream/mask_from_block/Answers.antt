use Rattle.std.proofs.Common.{◌*◌, ◌/◌, length}
use Rattle.ssh_aes.proofs.Streams.{two_parts}
use Rattle.ssh_aes.proofs.stream.mask_from_block.Goals as goal

pub returns : goal.returns
returns c = two_parts c.args.aes.now c.args.iv.now c.args.place (length c.args.bytes.now / 32 * 32) _ _ c.args.bytes.now _ _ c.split_at_mut-front.ensures.value c.split_at_mut-front.ensures.front_len c.mask_pairs.ensures c.mask_less.ensures
