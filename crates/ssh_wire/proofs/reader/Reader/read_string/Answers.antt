use Rattle.std.proofs.Common.{◌≡◌, ◌++◌, ◌∙◌, sym}
use Rattle.ssh_wire.specs.Forms.{string}
use Rattle.ssh_wire.specs.Fields.{string_at}
use Rattle.ssh_wire.proofs.FieldLaws.{string_takes, string_again, read_once, never_refused}
use Rattle.ssh_wire.proofs.reader.Reader.read_string.Goals as goal

pub invariant_of-self : goal.invariant_of-self
invariant_of-self c = (string_takes c.self.inside.rest.now c.in_ok-value.value.now c.in_ok-value.rest.now c.self.invariant c.in_ok-value.ensures).1

pub returns-clause-spelled : goal.returns-clause-spelled
returns-clause-spelled c = sym c.self.view_is ∙ (string_takes c.self.inside.rest.now c.in_ok-value.value.now c.in_ok-value.rest.now c.self.invariant c.in_ok-value.ensures).0

pub returns-clause-again : goal.returns-clause-again
returns-clause-again c = λ s rest small e.
    let same : c.self.inside.rest.now ≡ string s ++ rest = c.self.view_is ∙ e in
    read_once string_at c.self.inside.rest.now (string s ++ rest) (c.in_ok-value.value.now, c.in_ok-value.rest.now) (s, rest) same c.in_ok-value.ensures (string_again s rest small)

pub returns-in_err-value-clause-again : goal.returns-in_err-value-clause-again
returns-in_err-value-clause-again c = λ s rest small e.
    let same : c.self.inside.rest.now ≡ string s ++ rest = c.self.view_is ∙ e in
    absurd (never_refused string_at c.self.inside.rest.now (string s ++ rest) c.in_err-value.field-0.0 (s, rest) same c.in_err-value.ensures (string_again s rest small))
