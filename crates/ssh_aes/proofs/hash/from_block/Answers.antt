use Rattle.std.proofs.Common.{rules, ap, ◌∙◌}
use Rattle.std.specs.Int.{w128, from_le_bytes}
use Rattle.ssh_aes.proofs.Numbers.{element-read}
use Rattle.ssh_aes.proofs.hash.from_block.Goals as goal

pub returns : goal.returns
returns c = element-read c.args.bytes _ (λ i. search rules) (c.from_le_bytes.ensures ∙ ap (from_le_bytes w128) c.reversed.ensures)
