use Rattle.std.proofs.Common.{◌≡◌, inr, rules}
use Rattle.std.specs.Process.{exit_status}
use Rattle.ssh_pipe.proofs.program.exit_code.Goals as goal

pub returns-in-Ok-clause-ran : goal.returns-in-Ok-clause-ran
returns-in-Ok-clause-ran g c =
    let status : exit_status c.from.result ≡ c.run.result = search rules in
    inr (c.as_slice.result.now, search rules, rw status c.run.ensures.ran)
