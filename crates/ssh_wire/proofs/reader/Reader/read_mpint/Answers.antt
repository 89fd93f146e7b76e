use Rattle.std.proofs.Common.{◌≡◌, ◌++◌, ◌∙◌, sym}
use Rattle.ssh_wire.specs.Forms.{mpint, magnitude}
use Rattle.ssh_wire.specs.Fields.{mpint_at}
use Rattle.ssh_wire.proofs.FieldLaws.{mpint_takes, mpint_again, read_once, never_refused}
use Rattle.ssh_wire.proofs.reader.Reader.read_mpint.Goals as goal

pub invariant_of-self : goal.invariant_of-self
invariant_of-self c = ((mpint_takes c.self.inside.rest.now c.in_ok-value.value.now c.in_ok-value.rest.now c.self.invariant c.in_ok-value.ensures).0).1

pub returns-clause-spelled : goal.returns-clause-spelled
returns-clause-spelled c = (sym c.self.view_is ∙ ((mpint_takes c.self.inside.rest.now c.in_ok-value.value.now c.in_ok-value.rest.now c.self.invariant c.in_ok-value.ensures).0).0, (mpint_takes c.self.inside.rest.now c.in_ok-value.value.now c.in_ok-value.rest.now c.self.invariant c.in_ok-value.ensures).1)

pub returns-clause-again : goal.returns-clause-again
returns-clause-again c = λ s rest small e.
    let same : c.self.inside.rest.now ≡ mpint s ++ rest = c.self.view_is ∙ e in
    read_once mpint_at c.self.inside.rest.now (mpint s ++ rest) (c.in_ok-value.value.now, c.in_ok-value.rest.now) (magnitude s, rest) same c.in_ok-value.ensures (mpint_again s rest small)

pub returns-in_err-value-clause-again : goal.returns-in_err-value-clause-again
returns-in_err-value-clause-again c = λ s rest small e.
    let same : c.self.inside.rest.now ≡ mpint s ++ rest = c.self.view_is ∙ e in
    absurd (never_refused mpint_at c.self.inside.rest.now (mpint s ++ rest) c.in_err-value.field-0.0 (magnitude s, rest) same c.in_err-value.ensures (mpint_again s rest small))
