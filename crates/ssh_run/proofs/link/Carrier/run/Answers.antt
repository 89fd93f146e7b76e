use Rattle.ssh_run.proofs.Leaving.{both_join, both_still}
use Rattle.std.proofs.Common.{◌+◌, drop, refl, rules, sym, take, ◌++◌, ◌∷◌, [], ap, ◌∙◌, arith}
use Rattle.std.proofs.lemmas.List.{length-take-le, take-append-drop}
use Rattle.std.proofs.lemmas.Result.{err_from_is_err_and}
use Rattle.ssh_transport.proofs.Lemmas.{agreement_after, agreement_same, groups_after, groups_same, hosts_after, hosts_same, taken_more}
use Rattle.ssh_run.specs.Carrying.{both_marks}
use Rattle.ssh_run.specs.LinkEnds.{link_of}
use Rattle.ssh_run.proofs.Asking.{link_behind, link_end, link_none, side_join, side_still}
use Rattle.ssh_run.proofs.LinkSoFar.{bound_next, bound_on, later_tells, later_weaker, none_run, run_refused, runs_more, steps_split}
use Rattle.ssh_run.proofs.link.Carrier.run.Goals as goal

pub loop-step-init : goal.loop-step-init
loop-step-init g c = record {
  within = omega arith;
  few = search rules;
  bound = λ b. b;
  now = refl;
  runs = none_run _ _ _ _ _ (c.in_ok-push.ensures.items ∙ ap (λ m. m ++ c.mark.result ∷ []) c.in_ok-marks.ensures.items ∙ ap (λ m. m ∷ []) c.mark.ensures);
  asks_client = side_still _ _ _ refl;
  asks_server = side_still _ _ _ refl;
  client_agreement = agreement_same _ _ _ _ _ _;
  client_hosts = hosts_same _ _ _ _ _ _ _ _ _ _;
  client_groups = groups_same _ _ _ _ _ _;
  server_agreement = agreement_same _ _ _ _ _ _;
  server_hosts = hosts_same _ _ _ _ _ _ _ _ _ _;
  server_groups = groups_same _ _ _ _ _ _;
  leaves = both_still _ _ _;
}

pub loop-step-preserved : goal.loop-step-preserved
loop-step-preserved g c = record {
  within = (let t = c.loop-step-test.true in omega (arith, t));
  few = c.loop-step.invariant.few;
  bound = λ b. c.step.ensures.bound ∙ bound_on (take c.loop-step.step-index c.args.steps.now) _ c.step-item.result _ (taken_more c.args.steps.now c.loop-step.step-index c.step-item.result c.step-item.is c.loop-step-test.true) (let w = length-take-le c.loop-step.step-index c.args.steps.now c.loop-step.invariant.within in let v = c.loop-step.invariant.within in let f = c.loop-step.invariant.few in omega (arith, w, v, f)) (c.loop-step.invariant.bound b);
  now = bound_next _ _ _ _ _ _ (taken_more c.args.steps.now c.loop-step.step-index c.step-item.result c.step-item.is c.loop-step-test.true) c.loop-step.invariant.now c.step.ensures.bound;
  runs = runs_more _ _ _ _ _ _ _ _ _ _ _ _ _ _ (taken_more c.args.steps.now c.loop-step.step-index c.step-item.result c.step-item.is c.loop-step-test.true) c.loop-step.invariant.now (later_weaker g.A.Agreement g.H.HostKeys g.G.GroupLookup _ _ _ _ _ _ _ _ c.loop-step.invariant.runs.configs.of_client c.loop-step.invariant.client_agreement c.loop-step.invariant.client_hosts c.loop-step.invariant.client_groups) (later_weaker g.A.Agreement g.H.HostKeys g.G.GroupLookup _ _ _ _ _ _ _ _ c.loop-step.invariant.runs.configs.of_server c.loop-step.invariant.server_agreement c.loop-step.invariant.server_hosts c.loop-step.invariant.server_groups) c.loop-step.invariant.runs c.in_ok-step.ensures.steps c.in_ok-step.ensures.few
      (c.in_ok-push-2.ensures.items ∙ ap (λ m. c.loop-step.marks.items ++ m ∷ []) c.mark-in-loop-step.ensures);
  asks_client = side_join _ _ _ _ _ _ c.loop-step.invariant.asks_client c.in_ok-step.ensures.asks_client;
  asks_server = side_join _ _ _ _ _ _ c.loop-step.invariant.asks_server c.in_ok-step.ensures.asks_server;
  client_agreement = agreement_after _ _ _ _ _ _ _ _ c.loop-step.invariant.client_agreement c.step.ensures.client_keeps.agreement;
  client_hosts = hosts_after _ _ _ _ _ _ _ _ _ _ _ _ c.loop-step.invariant.client_hosts c.step.ensures.client_keeps.hosts;
  client_groups = groups_after _ _ _ _ _ _ _ _ c.loop-step.invariant.client_groups c.step.ensures.client_keeps.groups;
  server_agreement = agreement_after _ _ _ _ _ _ _ _ c.loop-step.invariant.server_agreement c.step.ensures.server_keeps.agreement;
  server_hosts = hosts_after _ _ _ _ _ _ _ _ _ _ _ _ c.loop-step.invariant.server_hosts c.step.ensures.server_keeps.hosts;
  server_groups = groups_after _ _ _ _ _ _ _ _ c.loop-step.invariant.server_groups c.step.ensures.server_keeps.groups;
  leaves = both_join _ _ _ _ _ _ _ _ _ c.loop-step.invariant.leaves c.in_ok-step.ensures.leaves;
}

pub returns-in_err-step-clause-refused : goal.returns-in_err-step-clause-refused
returns-in_err-step-clause-refused g c = λ b lc ls.
    let p = err_from_is_err_and c.from_residual-in_err-step.result c.from_residual-in_err-step.ensures.1 in
    rw (p.1, p.2) (run_refused _ _ _ _ _ c.args.steps.now _ _ _ _ _ _ _ _ (steps_split c.args.steps.now _ _ _ (taken_more c.args.steps.now c.loop-step.step-index c.step-item.result c.step-item.is c.loop-step-test.true)) (c.loop-step.invariant.bound b) (later_tells g.A.Agreement g.H.HostKeys g.G.GroupLookup _ _ _ _ _ _ _ _ _ _ _ c.loop-step.invariant.runs.configs.of_client c.loop-step.invariant.client_agreement c.loop-step.invariant.client_hosts c.loop-step.invariant.client_groups) (later_tells g.A.Agreement g.H.HostKeys g.G.GroupLookup _ _ _ _ _ _ _ _ _ _ _ c.loop-step.invariant.runs.configs.of_server c.loop-step.invariant.server_agreement c.loop-step.invariant.server_hosts c.loop-step.invariant.server_groups) c.loop-step.invariant.runs c.in_err-step.ensures.refused lc ls)

pub returns-in_err-step-clause-asks : goal.returns-in_err-step-clause-asks
returns-in_err-step-clause-asks g c = λ lc ls. link_behind _ _ _ _ _ c.args.steps.now _ (drop c.loop-step.step-index c.args.steps.now) _ _ _ _ _ _ _ _ _ (sym (take-append-drop c.loop-step.step-index c.args.steps.now)) (later_weaker g.A.Agreement g.H.HostKeys g.G.GroupLookup _ _ _ _ _ _ _ _ c.loop-step.invariant.runs.configs.of_client c.loop-step.invariant.client_agreement c.loop-step.invariant.client_hosts c.loop-step.invariant.client_groups) (later_weaker g.A.Agreement g.H.HostKeys g.G.GroupLookup _ _ _ _ _ _ _ _ c.loop-step.invariant.runs.configs.of_server c.loop-step.invariant.server_agreement c.loop-step.invariant.server_hosts c.loop-step.invariant.server_groups) c.loop-step.invariant.runs c.loop-step.invariant.asks_client c.loop-step.invariant.asks_server c.in_err-step.ensures.asked lc ls

pub returns-in_err-push-2-clause-asks : goal.returns-in_err-push-2-clause-asks
returns-in_err-push-2-clause-asks g c = λ lc ls. (let r = runs_more _ _ _ _ _ _ _ _ _ _ _ _ _ (c.loop-step.marks.items ++ both_marks (link_of c.step.new.self) ∷ []) (taken_more c.args.steps.now c.loop-step.step-index c.step-item.result c.step-item.is c.loop-step-test.true) c.loop-step.invariant.now (later_weaker g.A.Agreement g.H.HostKeys g.G.GroupLookup _ _ _ _ _ _ _ _ c.loop-step.invariant.runs.configs.of_client c.loop-step.invariant.client_agreement c.loop-step.invariant.client_hosts c.loop-step.invariant.client_groups) (later_weaker g.A.Agreement g.H.HostKeys g.G.GroupLookup _ _ _ _ _ _ _ _ c.loop-step.invariant.runs.configs.of_server c.loop-step.invariant.server_agreement c.loop-step.invariant.server_hosts c.loop-step.invariant.server_groups) c.loop-step.invariant.runs c.in_ok-step.ensures.steps c.in_ok-step.ensures.few refl in
    link_end _ _ _ c.args.steps.now _ (drop (c.loop-step.step-index + 1) c.args.steps.now) _ _ _ _ _ _ _ (sym (take-append-drop (c.loop-step.step-index + 1) c.args.steps.now)) r
    (side_join _ _ _ _ _ _ c.loop-step.invariant.asks_client c.in_ok-step.ensures.asks_client) (side_join _ _ _ _ _ _ c.loop-step.invariant.asks_server c.in_ok-step.ensures.asks_server))

pub returns-clause-asks : goal.returns-clause-asks
returns-clause-asks g c = λ lc ls. link_end _ _ _ c.args.steps.now _ (drop c.loop-step.step-index c.args.steps.now) _ _ _ _ _ _ _ (sym (take-append-drop c.loop-step.step-index c.args.steps.now)) c.loop-step.invariant.runs c.loop-step.invariant.asks_client c.loop-step.invariant.asks_server

pub returns-in_err-marks-clause-asks : goal.returns-in_err-marks-clause-asks
returns-in_err-marks-clause-asks g c = λ lc ls. link_none _ _ c.args.steps.now (link_of c.args.self.now) _ _
