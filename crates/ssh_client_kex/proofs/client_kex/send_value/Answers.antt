use Rattle.std.proofs.Common.{◌∙◌}
use Rattle.ssh_negotiate.specs.Tables.{shape_of}
use Rattle.ssh_kex.specs.Messages.{is_gex}
use Rattle.ssh_client_kex.proofs.Drawn.{value_bytes, value_sent}
use Rattle.ssh_client_kex.proofs.client_kex.send_value.Goals as goal

pub returns-clause-drawn : goal.returns-clause-drawn
returns-clause-drawn g c =
    value_sent c.put_message.result (g.A.Agreement.client_draws c.args.algorithm.now.name c.args.algorithm.now.group) (shape_of c.args.algorithm.now.name).skip (is_gex c.args.algorithm.now.name) (g.R.Rng.stream c.args.rng.now) (g.R.Rng.stream c.client_dh.new.rng) (g.R.Rng.stream c.put_message.new.rng)
    c.client_dh.new.self.local c.client_dh.new.client_ephemeral c.as_slice.result.now c.args.output.now c.put_message.new.output c.requires c.in_default.ensures.drawn
    (c.as_slice.ensures.value ∙ value_bytes _ _ _ _ _ _ _ _ _ _ c.requires c.in_default.ensures.starts c.new-message.ensures.items) c.put_message.ensures.drawn
