use Rattle.std.proofs.Common.{◌++◌, []}
use Rattle.ssh_wire.specs.Forms.{string}
use Rattle.ssh_blocks.proofs.Spelled.{at_end, fields_one}
use Rattle.ssh_blocks.proofs.forms.three_strings.Goals as goal

pub returns-in-Err-read_string-2-clause-again : goal.returns-in-Err-read_string-2-clause-again
returns-in-Err-read_string-2-clause-again c = λ host value signature a b d e.
    let first = c.in-Ok.ensures.again host (string value ++ string signature) a
    (fields_one c.args.payload.now c.in_ok-reader.reader (string host ++ (string value ++ string signature)) c.args.message_type c.in_ok-reader.ensures.some e) in
    let second = c.in-Ok-read_string.ensures.again value (string signature) b first.1 in
    c.in-Err-read_string-2.ensures.again signature [] d (at_end c.read_string-2.new.self (string signature) second.1)
