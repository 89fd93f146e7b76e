use Rattle.std.proofs.Common.{rules, ◌∙◌, arith, refl}
use Rattle.ssh_transport.proofs.Lemmas.{agreement_after, agreement_same, groups_after, groups_same, hosts_after, hosts_same, taken_more}
use Rattle.ssh_wire.specs.declared.side.Side.TheVariants.{Client, Server}
use Rattle.ssh_rules.specs.Attacking.{tells_by}
use Rattle.ssh_attack.proofs.Leaving.{leaves_join, leaves_still, none_attacked}
use Rattle.ssh_attack.proofs.Running.{config_kept, side_more}
use Rattle.ssh_attack.proofs.attack.Attack.run.Goals as goal
use Rattle.ssh_attack.proofs.attack.Attack.run.Goals.{in-Err+in-KexInit-1, in-Ok-2}

pub loop-step-init : goal.loop-step-init
loop-step-init g c = record {
  within = omega arith;
  client_config = refl;
  client = none_attacked (tells_by g.A.Agreement g.H.HostKeys g.G.GroupLookup c.args.self.now.client.transport.config c.args.client_parts.now.agreement c.args.client_parts.now.agreement c.args.client_parts.now.hosts c.args.client_parts.now.hosts c.args.client_parts.now.groups c.args.client_parts.now.groups) Client _ _ c.in_ok-answers.ensures.items;
  client_agreement = agreement_same _ _ _ _ _ _;
  client_hosts = hosts_same _ _ _ _ _ _ _ _ _ _;
  client_groups = groups_same _ _ _ _ _ _;
  server_config = refl;
  server = none_attacked (tells_by g.A.Agreement g.H.HostKeys g.G.GroupLookup c.args.self.now.server.transport.config c.args.server_parts.now.agreement c.args.server_parts.now.agreement c.args.server_parts.now.hosts c.args.server_parts.now.hosts c.args.server_parts.now.groups c.args.server_parts.now.groups) Server _ _ c.in_ok-answers.ensures.items;
  server_agreement = agreement_same _ _ _ _ _ _;
  server_hosts = hosts_same _ _ _ _ _ _ _ _ _ _;
  server_groups = groups_same _ _ _ _ _ _;
  client_leaves = leaves_still _ _;
  server_leaves = leaves_still _ _;
}

pub loop-step-preserved : goal.loop-step-preserved
loop-step-preserved g c = record {
  within = (let t = c.loop-step-test.true in omega (arith, t));
  client_config = config_kept _ Client c.step-item.result c.step-answer.result _ _ (c.step-answer.ensures.client (λ e. elim c.match-answer.branch [ in-Err+in-KexInit-1 w ↦ search rules | in-Ok-2 w ↦ search rules ])) ∙ c.loop-step.invariant.client_config;
  client = side_more g.A.Agreement g.H.HostKeys g.G.GroupLookup _ _ _ _ _ _ _ _ _ _ Client _ _ _ _ c.step-item.result c.step-answer.result _ _ _ c.loop-step.invariant.client_agreement c.loop-step.invariant.client_hosts c.loop-step.invariant.client_groups c.step-answer.ensures.client_keeps.agreement c.step-answer.ensures.client_keeps.hosts c.step-answer.ensures.client_keeps.groups c.loop-step.invariant.client_config (taken_more c.args.steps.now c.loop-step.step-index c.step-item.result c.step-item.is c.loop-step-test.true) c.in_ok-push.ensures.items c.loop-step.invariant.client (c.step-answer.ensures.client (λ e. elim c.match-answer.branch [ in-Err+in-KexInit-1 w ↦ search rules | in-Ok-2 w ↦ search rules ]));
  client_agreement = agreement_after _ _ _ _ _ _ _ _ c.loop-step.invariant.client_agreement c.step-answer.ensures.client_keeps.agreement;
  client_hosts = hosts_after _ _ _ _ _ _ _ _ _ _ _ _ c.loop-step.invariant.client_hosts c.step-answer.ensures.client_keeps.hosts;
  client_groups = groups_after _ _ _ _ _ _ _ _ c.loop-step.invariant.client_groups c.step-answer.ensures.client_keeps.groups;
  server_config = config_kept _ Server c.step-item.result c.step-answer.result _ _ (c.step-answer.ensures.server (λ e. elim c.match-answer.branch [ in-Err+in-KexInit-1 w ↦ search rules | in-Ok-2 w ↦ search rules ])) ∙ c.loop-step.invariant.server_config;
  server = side_more g.A.Agreement g.H.HostKeys g.G.GroupLookup _ _ _ _ _ _ _ _ _ _ Server _ _ _ _ c.step-item.result c.step-answer.result _ _ _ c.loop-step.invariant.server_agreement c.loop-step.invariant.server_hosts c.loop-step.invariant.server_groups c.step-answer.ensures.server_keeps.agreement c.step-answer.ensures.server_keeps.hosts c.step-answer.ensures.server_keeps.groups c.loop-step.invariant.server_config (taken_more c.args.steps.now c.loop-step.step-index c.step-item.result c.step-item.is c.loop-step-test.true) c.in_ok-push.ensures.items c.loop-step.invariant.server (c.step-answer.ensures.server (λ e. elim c.match-answer.branch [ in-Err+in-KexInit-1 w ↦ search rules | in-Ok-2 w ↦ search rules ]));
  server_agreement = agreement_after _ _ _ _ _ _ _ _ c.loop-step.invariant.server_agreement c.step-answer.ensures.server_keeps.agreement;
  server_hosts = hosts_after _ _ _ _ _ _ _ _ _ _ _ _ c.loop-step.invariant.server_hosts c.step-answer.ensures.server_keeps.hosts;
  server_groups = groups_after _ _ _ _ _ _ _ _ c.loop-step.invariant.server_groups c.step-answer.ensures.server_keeps.groups;
  client_leaves = leaves_join _ _ _ _ _ _ c.loop-step.invariant.client_leaves (c.step-answer.ensures.client_leaves (λ e. elim c.match-answer.branch [ in-Err+in-KexInit-1 w ↦ search rules | in-Ok-2 w ↦ search rules ]));
  server_leaves = leaves_join _ _ _ _ _ _ c.loop-step.invariant.server_leaves (c.step-answer.ensures.server_leaves (λ e. elim c.match-answer.branch [ in-Err+in-KexInit-1 w ↦ search rules | in-Ok-2 w ↦ search rules ]));
}
