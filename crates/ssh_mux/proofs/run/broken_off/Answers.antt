use Rattle.std.proofs.Common.{sym, ◌∙◌}
use Rattle.ssh_mux.specs.Running.{on_link}
use Rattle.ssh_mux.proofs.Refusing.{ended_untold}
use Rattle.ssh_mux.proofs.run.broken_off.Goals as goal

pub returns-clause-ended : goal.returns-clause-ended
returns-clause-ended c = ended_untold c.args.fault (on_link c.args.pair.now c.args.link) c.refused.result c.refused.ensures (sym c.is_call_refused.ensures ∙ c.if-is_call_refused.false) c.requires
