use Rattle.std.proofs.Common.{◌∙◌, ap, sym}
use Rattle.ssh_kex.specs.Exchange.{sealing_after}
use Rattle.ssh_wire.specs.declared.side.Side.TheVariants.{Client, Server}
use Rattle.ssh_packet.specs.Keys.{opening_of, sealing_of}
use Rattle.ssh_transcript.specs.declared.direction.Directions.{Directions}
use Rattle.ssh_transcript.proofs.exchange.kept.Goals as goal

pub returns-clause-client : goal.returns-clause-client
returns-clause-client c = record {
  opening = ap (λ (d : Directions). opening_of d.client.opening) c.of.ensures ∙ (c.compute_keys-server.ensures.opens ∙ ap (sealing_after Client c.args.setting.now.names) (c.compute_keys-server.ensures.keys ∙ sym c.compute_keys-client.ensures.keys));
  sealing = ap (λ (d : Directions). sealing_of d.client.sealing) c.of.ensures ∙ c.compute_keys-client.ensures.seals;
}

pub returns-clause-server : goal.returns-clause-server
returns-clause-server c = record {
  opening = ap (λ (d : Directions). opening_of d.server.opening) c.of.ensures ∙ c.compute_keys-client.ensures.opens;
  sealing = ap (λ (d : Directions). sealing_of d.server.sealing) c.of.ensures ∙ (c.compute_keys-server.ensures.seals ∙ ap (sealing_after Server c.args.setting.now.names) (c.compute_keys-server.ensures.keys ∙ sym c.compute_keys-client.ensures.keys));
}
