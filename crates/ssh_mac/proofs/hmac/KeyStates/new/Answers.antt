use Rattle.ssh_mac.proofs.BlockKey.{combined_front}
use Rattle.ssh_mac.proofs.hmac.KeyStates.new.Goals as goal

pub returns : goal.returns
returns c =
    let kind = c.args.kind in
    let key = c.args.key.now in
    let front = combined_front kind key c.block_of-inner_block.result in
    record {
      inner_is = rw (← front 0x36 c.combine.new.block c.block_len-block_len.result c.block_of-inner_block.ensures c.block_len-block_len.ensures c.combine.ensures) c.state_after.ensures;
      outer_is = rw (← front 0x5c c.combine-2.new.block c.block_len-block_len.result c.block_of-inner_block.ensures c.block_len-block_len.ensures c.combine-2.ensures) c.state_after-2.ensures;
    }
