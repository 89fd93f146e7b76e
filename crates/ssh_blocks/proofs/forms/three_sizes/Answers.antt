use Rattle.ssh_kex.specs.Messages.{sizes_text}
use Rattle.ssh_blocks.proofs.Spelled.{fields_one, sizes_readable}
use Rattle.ssh_blocks.proofs.forms.three_sizes.Goals as goal

pub returns-in-Err-clause-again : goal.returns-in-Err-clause-again
returns-in-Err-clause-again c = λ g s e.
    absurd (sizes_readable c.in_ok-reader.reader g c.in-Err.field-0 s
    (fields_one c.args.payload.now c.in_ok-reader.reader (sizes_text g) c.args.message_type c.in_ok-reader.ensures.some e) c.in-Err.ensures.exact.0)
