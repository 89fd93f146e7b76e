use Rattle.std.proofs.Common.{◌⊎◌, ◌≡◌, IfErr, IfOk, OnOk, subst}
use Rattle.ssh_wire.specs.declared.error.Error.TheVariants.{Memory}
use Rattle.ssh_wire.specs.declared.side.Side.TheVariants.{Client, Server}
use Rattle.ssh_link.specs.PlanParts.{IsInvalidPlan, IsValidPlan}
use Rattle.ssh_link.specs.PlanRun.{IsAttackedPlan}
use Rattle.ssh_script.specs.Plans.{Plan}
use Rattle.ssh_link.proofs.AttackedPlans.{Begins, passed, told_attack}
use Rattle.ssh_link.proofs.Seeds.{seeded_told}
use Rattle.ssh_link.proofs.Served.{served_attacked, served_side}
use Rattle.ssh_link.proofs.script_run.run_attack.Goals as goal

pub returns : goal.returns
returns c =
    let plan : Plan = record { client = c.script.inside.client; server = c.script.inside.server; steps = c.script.inside.steps.items; attack = c.script.inside.attack.items } in
    let client = c.in_ok-client_parts.ensures in
    let server = c.in_ok-server_parts.ensures in
    let p = c.in_ok-client_parts.client_parts in
    let q = c.in_ok-server_parts.server_parts in
    let p' = c.run_attacked.new.client_parts in
    let q' = c.run_attacked.new.server_parts in
    let begin : Begins = record { bits = p.groups.inner.bits; agreement = p.agreement.refuse_at; hosts = p.hosts.refuse_at; groups = p.groups.refuse_at; trusted = p.hosts.inner.trusted; calls = record { agreement = p.agreement.calls; hosts = p.hosts.calls; lookups = p.groups.calls } } in
    let start : Begins = record { bits = q.groups.inner.bits; agreement = q.agreement.refuse_at; hosts = q.hosts.refuse_at; groups = q.groups.refuse_at; trusted = q.hosts.inner.trusted; calls = record { agreement = q.agreement.calls; hosts = q.hosts.calls; lookups = q.groups.calls } } in
    record {
      report = subst (λ x. IfOk c.run_attacked.result (IsAttackedPlan x)) c.script.view_is
          (told_attack plan c.as_slice.result.now begin start _ _ _ _ c.run_attacked.result c.as_slice.ensures.value
          client.bits client.agreement client.hosts client.groups client.trusted client.agreement_unasked client.hosts_unasked client.groups_unasked
          server.bits server.agreement server.hosts server.groups server.trusted server.agreement_unasked server.hosts_unasked server.groups_unasked
          c.run_attacked.ensures.run
          (seeded_told (λ x. x.client.wire) (λ x. x.server.wire) plan p.rng q.rng c.run_attacked.result client.rng server.rng c.run_attacked.ensures.drawn)
          (served_attacked plan c.as_slice.result.now _ _ _ _ c.run_attacked.result c.as_slice.ensures.value
          (λ w x. served_side Client plan.client w x p.agreement p'.agreement p.hosts p'.hosts p.groups p'.groups client.agreement client.agreement_unasked client.hosts client.hosts_unasked client.groups client.groups_unasked)
          (λ w x. served_side Server plan.server w x q.agreement q'.agreement q.hosts q'.hosts q.groups q'.groups server.agreement server.agreement_unasked server.hosts server.hosts_unasked server.groups server.groups_unasked)
          c.run_attacked.ensures.answered));
      valid = subst (λ x. OnOk c.run_attacked.result (IsValidPlan x)) c.script.view_is (passed _ c.run_attacked.result c.run_attacked.ensures.configs);
      causes = subst (λ x. IfErr c.run_attacked.result (λ e. (e ≡ Memory) ⊎ IsInvalidPlan x e)) c.script.view_is c.run_attacked.ensures.refused;
    }
