use Rattle.std.proofs.lemmas.Bool.{le-leb, leb-true}
use Rattle.ssh_negotiate.proofs.Telling.{told_listed}
use Rattle.ssh_negotiate.proofs.told.Told.is_listed.Goals as goal

pub returns-then-self-le-NAME_LIMIT : goal.returns-then-self-le-NAME_LIMIT
returns-then-self-le-NAME_LIMIT c texts t =
    let both = told_listed c.args.self.now texts c.if-self-le-NAME_LIMIT.true t in
    (λ few. both.0 (leb-true c.args.self.now.bytes 16385 few), λ listed. le-leb c.args.self.now.bytes 16385 (both.1 listed))
