use Rattle.std.proofs.Common.{◌∙◌}
use Rattle.ssh_wire.proofs.Utf8.{is_utf8-by_reading}
use Rattle.ssh_wire.proofs.fields.utf8_of.Goals as goal

pub returns-clause-some : goal.returns-clause-some
returns-clause-some c = c.ok.ensures.variant ∙ is_utf8-by_reading _ _ _ c.from_utf8.result c.from_utf8.ensures.cases
