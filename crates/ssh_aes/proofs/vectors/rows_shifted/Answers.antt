use Rattle.ssh_aes.specs.Aes.{shift_rows}
use Rattle.ssh_aes.proofs.Sixteens.{rows_left}
use Rattle.ssh_aes.proofs.vectors.rows_shifted.Goals as goal

pub returns : goal.returns
unfolding shift_rows
returns c = rows_left c.args.bytes.now c.told-bytes
