use Rattle.std.proofs.Common.{◌≡◌, ◌++◌, [], subst, sym}
use Rattle.ssh_wire.specs.Forms.{magnitude, mpint}
use Rattle.ssh_blocks.specs.Forms.{IsFound}
use Rattle.ssh_blocks.specs.declared.forms.Numbers.{Numbers}
use Rattle.ssh_blocks.proofs.Spelled.{at_end, fields_one, none_left}
use Rattle.ssh_blocks.proofs.forms.two_numbers.Goals as goal
use Rattle.ssh_blocks.proofs.forms.two_numbers.Goals.{in-Ok-ensure_end, in-Err-ensure_end}

pub returns-in-Err-read_mpint-clause-again : goal.returns-in-Err-read_mpint-clause-again
returns-in-Err-read_mpint-clause-again c = λ prime generator a b e.
    let first = c.in-Ok.ensures.again prime (mpint generator) a
    (fields_one c.args.payload.now c.in_ok-reader.reader (mpint prime ++ mpint generator) c.args.message_type c.in_ok-reader.ensures.some e) in
    c.in-Err-read_mpint.ensures.again generator [] b (at_end c.read_mpint.new.self (mpint generator) first.1)

pub returns-clause-again : goal.returns-clause-again
returns-clause-again c = λ prime generator a b e.
    let first = c.in-Ok.ensures.again prime (mpint generator) a
    (fields_one c.args.payload.now c.in_ok-reader.reader (mpint prime ++ mpint generator) c.args.message_type c.in_ok-reader.ensures.some e) in
    let second = c.in-Ok-read_mpint.ensures.again generator [] b (at_end c.read_mpint.new.self (mpint generator) first.1) in
    elim c.match-ensure_end.branch [
      | in-Ok-ensure_end w ↦ subst (IsFound (λ (n : Numbers). (n.prime.now ≡ magnitude prime) × (n.generator.now ≡ magnitude generator))) (sym w.result-is) (first.0, second.0)
      | in-Err-ensure_end w ↦ absurd (none_left c.read_mpint-2.new.self second.1 w.in-Err-ensure_end.ensures.left.1)
    ]
