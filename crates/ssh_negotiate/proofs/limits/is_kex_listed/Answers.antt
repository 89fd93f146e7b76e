use Rattle.std.proofs.Common.{[], map}
use Rattle.std.specs.Prelude.{filter, not}
use Rattle.ssh_negotiate.specs.Advertised.{is_foreign}
use Rattle.ssh_negotiate.specs.Tables.{kex_text}
use Rattle.ssh_negotiate.proofs.limits.is_kex_listed.Goals as goal

pub returns : goal.returns
returns c = c.is_listed.ensures (map kex_text (filter (λ n. not (is_foreign c.args.side n)) c.args.kex.now)) (c.add_kex.ensures [] c.nothing-told.ensures)
