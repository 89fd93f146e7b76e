use Rattle.std.proofs.Common.{subst}
use Rattle.std.specs.Str.{IsUtf8}
use Rattle.std.proofs.lemmas.Str.{is_utf8-from_IsUtf8}
use Rattle.ssh_mux.proofs.typed.see_config.Goals as goal

pub returns-clause-text : goal.returns-clause-text
returns-clause-text c = is_utf8-from_IsUtf8 _ (subst IsUtf8 c.id_text-text.ensures.text c.id_text-text.utf8)
