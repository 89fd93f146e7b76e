use Rattle.std.proofs.Common.{rules}
use Rattle.ssh_negotiate.proofs.Telling.{told_more}
use Rattle.ssh_negotiate.proofs.told.Told.add.Goals as goal

pub returns : goal.returns
returns c =
    told_more c.args.self.now (record { names = c.min-self.result; bytes = c.min-self-2.result }) c.args.name.now c.saturating_add.result c.saturating_add-2.result c.saturating_add-bytes.result (search rules) c.saturating_add.ensures c.min-self.ensures c.saturating_add-2.ensures c.saturating_add-bytes.ensures c.min-self-2.ensures
