use Rattle.std.proofs.Common.{[]}
use Rattle.ssh_wire.specs.Forms.{string}
use Rattle.ssh_blocks.proofs.Spelled.{at_end, fields_one}
use Rattle.ssh_blocks.proofs.forms.one_string.Goals as goal

pub returns-in-Err-clause-again : goal.returns-in-Err-clause-again
returns-in-Err-clause-again c = λ value small e.
    c.in-Err.ensures.again value [] small (at_end c.in_ok-reader.reader (string value) (fields_one c.args.payload.now c.in_ok-reader.reader (string value) c.args.message_type c.in_ok-reader.ensures.some e))
