use Rattle.std.proofs.Common.{◌≡◌, ◌++◌, ◌∙◌, sym}
use Rattle.ssh_wire.specs.Forms.{u32be}
use Rattle.ssh_wire.specs.Fields.{u32_at}
use Rattle.ssh_wire.proofs.FieldLaws.{u32_takes, u32_again, read_once, never_refused}
use Rattle.ssh_wire.proofs.reader.Reader.read_u32.Goals as goal

pub invariant_of-self : goal.invariant_of-self
invariant_of-self c = (u32_takes c.self.inside.rest.now c.in_ok-value.rest.now c.in_ok-value.value c.self.invariant c.in_ok-value.ensures).1

pub returns-clause-spelled : goal.returns-clause-spelled
returns-clause-spelled c = sym c.self.view_is ∙ (u32_takes c.self.inside.rest.now c.in_ok-value.rest.now c.in_ok-value.value c.self.invariant c.in_ok-value.ensures).0

pub returns-clause-again : goal.returns-clause-again
returns-clause-again c = λ n rest small e.
    let same : c.self.inside.rest.now ≡ u32be n ++ rest = c.self.view_is ∙ e in
    read_once u32_at c.self.inside.rest.now (u32be n ++ rest) (c.in_ok-value.value, c.in_ok-value.rest.now) (n, rest) same c.in_ok-value.ensures (u32_again n rest small)

pub returns-in_err-value-clause-again : goal.returns-in_err-value-clause-again
returns-in_err-value-clause-again c = λ n rest small e.
    let same : c.self.inside.rest.now ≡ u32be n ++ rest = c.self.view_is ∙ e in
    absurd (never_refused u32_at c.self.inside.rest.now (u32be n ++ rest) c.in_err-value.field-0.0 (n, rest) same c.in_err-value.ensures (u32_again n rest small))
