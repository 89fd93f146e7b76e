use Rattle.std.proofs.Common.{◌≡◌, ℕ, List, false, IfSome, refl, sym, ap, subst, ◌∙◌}
use Rattle.ssh_wire.specs.Reading.{text_heard}
use Rattle.ssh_wire.specs.FromSource.{IdRead, HasId}
use Rattle.ssh_wire.proofs.Hearing.{heard_id}
use Rattle.ssh_wire.proofs.ssh_read.SshRead.read_client_ssh_id.Goals as goal

pub returns-in-Ok : goal.returns-in-Ok
returns-in-Ok g c =
    let old = c.args.self.now in
    let new = c.hear.new.self in
    let text = heard_id false old new old.id (g.R.Source.left old.source) (g.R.Source.left new.source) refl c.in-Ok.ensures.found c.in-Ok.ensures.repeats in
    let same : c.id.result.now ≡ text_heard new.id = c.id.ensures ∙ ap (λ (s : IdRead g.row.R.Denot). text_heard s.id) {y = new} c.self.view_is in
    let P : List ℕ → Type 0 = λ t. IfSome (g.R.Source.left old.source) (λ bytes. HasId false old.id bytes t) in (
      (
        refl,
        λ _. tt,
        rw c.self.view_is (
          record {
            found = c.in-Ok.ensures.found;
            refused = c.in-Ok.ensures.refused;
            repeats = c.in-Ok.ensures.repeats;
            kept = tt;
            stands = c.in-Ok.ensures.stands;
            fault = c.in-Ok.ensures.fault;
          },
          c.id.ensures,
        ),
      ),
      record { text = subst P (sym same) text; refused = tt; after_borrow = tt },
    )
