use Rattle.std.proofs.Common.{arith, ap, ◌∙◌, slice_index}
use Rattle.ssh_aes.specs.Aes.{bytes_by}
use Rattle.ssh_aes.proofs.Numbers.{reversed_byte, element-written}
use Rattle.ssh_aes.proofs.hash.to_block.Goals as goal

pub returns : goal.returns
returns c = element-written c.args.polynomial _ (omega arith) (c.reversed.ensures ∙ ap (λ s. bytes_by 16 (λ i. reversed_byte (slice_index s i))) c.to_le_bytes.ensures)
