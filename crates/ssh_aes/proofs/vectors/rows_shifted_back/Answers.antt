use Rattle.ssh_aes.specs.Aes.{inverse_shift_rows}
use Rattle.ssh_aes.proofs.Sixteens.{rows_right}
use Rattle.ssh_aes.proofs.vectors.rows_shifted_back.Goals as goal

pub returns : goal.returns
unfolding inverse_shift_rows
returns c = rows_right c.args.bytes.now c.told-bytes
