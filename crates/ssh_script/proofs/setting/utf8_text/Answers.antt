use Rattle.std.proofs.Common.{subst, IsOk}
use Rattle.std.proofs.lemmas.Bool.{false≢true}
use Rattle.ssh_script.proofs.Texts.{text_read, text_refused}
use Rattle.ssh_script.proofs.setting.utf8_text.Goals as goal

pub returns-in-Ok-clause-ok : goal.returns-in-Ok-clause-ok
returns-in-Ok-clause-ok c = text_read c.args.bytes c.in-Ok.text c.new.result c.in-Ok.ensures.ok c.new.ensures

pub returns-clause-fault : goal.returns-clause-fault
returns-clause-fault c = text_refused c.args.bytes.items (λ u. false≢true (subst IsOk c.in-Err.is (c.from_utf8.ensures.succeeds u)))
