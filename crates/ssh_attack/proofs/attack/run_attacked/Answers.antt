use Rattle.ssh_attack.proofs.Leaving.{side_answered}
use Rattle.ssh_attack.proofs.Starting.{none_first, side_drawn, side_started}
use Rattle.std.proofs.Common.{ap, inl, refl, sym, subst, ◌∙◌}
use Rattle.std.proofs.lemmas.Result.{err_from_is_err_and}
use Rattle.ssh_rules.specs.AttackCauses.{IsAttackedRun}
use Rattle.ssh_kex.specs.declared.config.Config.{Config}
use Rattle.ssh_wire.specs.declared.side.Side.TheVariants.{Client, Server}
use Rattle.ssh_rules.proofs.Lemmas.{attack_report}
use Rattle.ssh_attack.specs.AttackEnds.{attacked_end}
use Rattle.ssh_attack.proofs.attack.run_attacked.Goals as goal
use Rattle.ssh_rules.specs.Asking.{counted_by}
use Rattle.ssh_rules.specs.Attacking.{tells_by}

pub returns-in_err-answers-clause-refused : goal.returns-in_err-answers-clause-refused
returns-in_err-answers-clause-refused g c =
    let p = err_from_is_err_and c.from_residual-in_err-answers.result c.from_residual-in_err-answers.ensures.1 in
    rw (p.1, p.2) (inl c.in_err-answers.ensures.err)

pub returns-clause-run : goal.returns-clause-run
returns-clause-run g c =
    subst (IsAttackedRun _ _ c.args.client.now c.args.server.now c.args.steps.now) (sym c.in_ok-report.ensures)
    (attack_report g.A.Agreement g.H.HostKeys g.G.GroupLookup g.met.A.Agreement.obliging_lawful c.args.client.now c.args.server.now c.args.steps.now c.in_ok-answers.answers.items c.args.client_parts.now.agreement c.run.new.client_parts.agreement c.args.client_parts.now.hosts c.run.new.client_parts.hosts c.args.client_parts.now.groups c.run.new.client_parts.groups c.args.server_parts.now.agreement c.run.new.server_parts.agreement c.args.server_parts.now.hosts c.run.new.server_parts.hosts c.args.server_parts.now.groups c.run.new.server_parts.groups
    c.in_ok-attack.attack.client.transport c.in_ok-attack.attack.server.transport (attacked_end c.run.new.self.client (counted_by g.A.Agreement g.H.HostKeys g.G.GroupLookup c.run.new.client_parts.agreement c.run.new.client_parts.hosts c.run.new.client_parts.groups)) (attacked_end c.run.new.self.server (counted_by g.A.Agreement g.H.HostKeys g.G.GroupLookup c.run.new.server_parts.agreement c.run.new.server_parts.hosts c.run.new.server_parts.groups))
    (none_first _ _ (sym c.first_config_fault.ensures ∙ c.in_default.is)).0 (none_first _ _ (sym c.first_config_fault.ensures ∙ c.in_default.is)).1 c.sizes_are_u32.ensures c.sizes_are_u32-2.ensures c.in_ok-attack.ensures.client.new c.in_ok-attack.ensures.server.new
    (side_started (λ (q : Config). tells_by g.A.Agreement g.H.HostKeys g.G.GroupLookup q c.args.client_parts.now.agreement c.run.new.client_parts.agreement c.args.client_parts.now.hosts c.run.new.client_parts.hosts c.args.client_parts.now.groups c.run.new.client_parts.groups) Client c.args.client.now c.args.steps.now c.in_ok-answers.answers.items c.in_ok-attack.attack.client (counted_by g.A.Agreement g.H.HostKeys g.G.GroupLookup c.args.client_parts.now.agreement c.args.client_parts.now.hosts c.args.client_parts.now.groups) (attacked_end c.run.new.self.client (counted_by g.A.Agreement g.H.HostKeys g.G.GroupLookup c.run.new.client_parts.agreement c.run.new.client_parts.hosts c.run.new.client_parts.groups)) c.in_ok-attack.ensures.client c.in_ok-answers.ensures.client)
    (side_started (λ (q : Config). tells_by g.A.Agreement g.H.HostKeys g.G.GroupLookup q c.args.server_parts.now.agreement c.run.new.server_parts.agreement c.args.server_parts.now.hosts c.run.new.server_parts.hosts c.args.server_parts.now.groups c.run.new.server_parts.groups) Server c.args.server.now c.args.steps.now c.in_ok-answers.answers.items c.in_ok-attack.attack.server (counted_by g.A.Agreement g.H.HostKeys g.G.GroupLookup c.args.server_parts.now.agreement c.args.server_parts.now.hosts c.args.server_parts.now.groups) (attacked_end c.run.new.self.server (counted_by g.A.Agreement g.H.HostKeys g.G.GroupLookup c.run.new.server_parts.agreement c.run.new.server_parts.hosts c.run.new.server_parts.groups)) c.in_ok-attack.ensures.server c.in_ok-answers.ensures.server)
    refl refl)

pub returns-clause-drawn : goal.returns-clause-drawn
returns-clause-drawn g c = record {
  from_client = side_drawn Client c.args.client.now c.in_ok-attack.attack.client c.run.new.self.client.transport _ _ _ c.in_ok-attack.ensures.client c.in_ok-answers.ensures.client_leaves.drawn (ap (λ r. r.client.wire) c.in_ok-report.ensures);
  from_server = side_drawn Server c.args.server.now c.in_ok-attack.attack.server c.run.new.self.server.transport _ _ _ c.in_ok-attack.ensures.server c.in_ok-answers.ensures.server_leaves.drawn (ap (λ r. r.server.wire) c.in_ok-report.ensures);
}

pub returns-clause-answered : goal.returns-clause-answered
returns-clause-answered g c = record {
  by_client = λ k. side_answered _ Client c.args.client.now c.args.steps.now c.in_ok-answers.answers.items _ (attacked_end c.in_ok-attack.attack.client (counted_by g.A.Agreement g.H.HostKeys g.G.GroupLookup c.args.client_parts.now.agreement c.args.client_parts.now.hosts c.args.client_parts.now.groups)) (attacked_end c.run.new.self.client (counted_by g.A.Agreement g.H.HostKeys g.G.GroupLookup c.run.new.client_parts.agreement c.run.new.client_parts.hosts c.run.new.client_parts.groups)) _ _ _ _ c.in_ok-attack.ensures.client.new c.in_ok-answers.ensures.client c.in_ok-answers.ensures.client_leaves (ap (λ r. r.answers) c.in_ok-report.ensures) (ap (λ r. r.client.wire) c.in_ok-report.ensures) (ap (λ r. r.client.exchanges) c.in_ok-report.ensures) k;
  by_server = λ k. side_answered _ Server c.args.server.now c.args.steps.now c.in_ok-answers.answers.items _ (attacked_end c.in_ok-attack.attack.server (counted_by g.A.Agreement g.H.HostKeys g.G.GroupLookup c.args.server_parts.now.agreement c.args.server_parts.now.hosts c.args.server_parts.now.groups)) (attacked_end c.run.new.self.server (counted_by g.A.Agreement g.H.HostKeys g.G.GroupLookup c.run.new.server_parts.agreement c.run.new.server_parts.hosts c.run.new.server_parts.groups)) _ _ _ _ c.in_ok-attack.ensures.server.new c.in_ok-answers.ensures.server c.in_ok-answers.ensures.server_leaves (ap (λ r. r.answers) c.in_ok-report.ensures) (ap (λ r. r.server.wire) c.in_ok-report.ensures) (ap (λ r. r.server.exchanges) c.in_ok-report.ensures) k;
}

pub new-requires-clause-of_client : goal.new-requires-clause-of_client
new-requires-clause-of_client g c = (none_first _ _ (sym c.first_config_fault.ensures ∙ c.in_default.is)).0

pub new-requires-clause-of_server : goal.new-requires-clause-of_server
new-requires-clause-of_server g c = (none_first _ _ (sym c.first_config_fault.ensures ∙ c.in_default.is)).1
