use Rattle.std.proofs.Common.{inl, inr, refl, rules}
use Rattle.ssh_pipe.proofs.program.run.Goals as goal

pub returns-in_default-clause-ran : goal.returns-in_default-clause-ran
returns-in_default-clause-ran g c = inl (c.in_default.ensures.nothing (search rules), search rules, (refl, c.tell.ensures))

pub returns-then-is_err-clause-ran : goal.returns-then-is_err-clause-ran
returns-then-is_err-clause-ran g c = inr (c.in-Some.command.side, c.in-Some.command.file.now, c.in-Some.command.limit, c.in-Some.ensures.named, inl (search rules, inr (refl, c.tell-then-is_err.ensures)))
