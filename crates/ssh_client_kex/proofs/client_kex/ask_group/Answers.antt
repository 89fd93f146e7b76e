use Rattle.ssh_client_kex.proofs.Sent.{puts_asked}
use Rattle.ssh_client_kex.proofs.Drawn.{request_sent}
use Rattle.ssh_client_kex.proofs.client_kex.ask_group.Goals as goal

pub returns-in-Ok-clause-ok : goal.returns-in-Ok-clause-ok
returns-in-Ok-clause-ok g c =
    (c.waits.ensures, puts_asked _ _ _ _ _ _ c.as_slice.ensures.value c.in_default.ensures.ok c.new-message.ensures.items c.in-Ok.ensures.puts)

pub returns-in-Ok-clause-drawn : goal.returns-in-Ok-clause-drawn
returns-in-Ok-clause-drawn g c =
    request_sent c.as_slice.result.now _ _ c.args.base.config.now.gex (g.R.Rng.stream c.args.rng.now) (g.R.Rng.stream c.put_message.new.rng) c.args.output.now c.put_message.new.output c.as_slice.ensures.value c.in_default.ensures.ok c.new-message.ensures.items c.in-Ok.ensures.drawn
