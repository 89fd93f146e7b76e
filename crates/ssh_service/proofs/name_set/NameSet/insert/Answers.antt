use Rattle.std.proofs.Common.{ℕ, Vec, Global}
use Rattle.ssh_service.proofs.NameSets.{name_added}
use Rattle.ssh_service.proofs.name_set.NameSet.insert.Goals as goal

pub returns-clause-added : goal.returns-clause-added
returns-clause-added c = λ q. name_added (λ (k : Vec ℕ Global). k.items) c.args.self.now.names c.insert.new.self c.args.name.items q c.in_ok-insert.ensures.updates
