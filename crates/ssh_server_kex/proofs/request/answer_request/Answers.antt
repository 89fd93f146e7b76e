use Rattle.ssh_server_kex.proofs.Drawn.{group_sent}
use Rattle.ssh_server_kex.proofs.request.answer_request.Goals as goal

pub returns-in-Ok-put_message-clause-drawn : goal.returns-in-Ok-put_message-clause-drawn
returns-in-Ok-put_message-clause-drawn g c = group_sent c.as_slice.result.now _ c.in-Ok.group (g.R.Rng.stream c.args.rng.now) (g.R.Rng.stream c.put_message.new.rng) c.args.output.now c.put_message.new.output c.as_slice.ensures.value c.in_ok-message.ensures.ok c.in-Ok-put_message.ensures.drawn
