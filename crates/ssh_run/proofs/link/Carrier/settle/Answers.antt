use Rattle.ssh_run.proofs.Leaving.{both_join, both_still}
use Rattle.std.proofs.Common.{◌∙◌, arith, inr, refl, rules}
use Rattle.std.proofs.lemmas.Result.{err_from_is_err_and}
use Rattle.ssh_transport.proofs.Lemmas.{agreement_after, agreement_same, groups_after, groups_same, hosts_after, hosts_same}
use Rattle.ssh_run.proofs.Asking.{always_err, side_join, side_still, turns_behind, turns_end}
use Rattle.ssh_run.proofs.LinkSoFar.{later_tells, later_weaker, no_turns, settle_refused, turned_more}
use Rattle.ssh_run.specs.LinkEnds.{link_of}
use Rattle.ssh_run.proofs.link.Carrier.settle.Goals as goal
use Rattle.ssh_run.proofs.link.Carrier.settle.Goals.{then-turns-eq0-via-then-turns-eq0, then-turns-eq0-via-else-turns-eq0+then-begun_too_many, then-begun_too_many-2-via-then-begun_too_many-2, then-begun_too_many-2-via-else-begun_too_many-2+then-not-rests, then-begun_too_many-2-via-else-begun_too_many-2+else-not-rests+then-not-rests-2}

pub loop-self-init : goal.loop-self-init
loop-self-init g c = record {
  room = (let e = c.saturating_mul-turns.ensures in omega (arith, e));
  bound = refl;
  turns = no_turns _ _ _ _ (let e = c.saturating_mul-turns.ensures in omega (arith, e));
  asks_client = side_still _ _ _ refl;
  asks_server = side_still _ _ _ refl;
  client_agreement = agreement_same _ _ _ _ _ _;
  client_hosts = hosts_same _ _ _ _ _ _ _ _ _ _;
  client_groups = groups_same _ _ _ _ _ _;
  server_agreement = agreement_same _ _ _ _ _ _;
  server_hosts = hosts_same _ _ _ _ _ _ _ _ _ _;
  server_groups = groups_same _ _ _ _ _ _;
  leaves = both_still _ _ _;
}

pub loop-self-preserved : goal.loop-self-preserved
loop-self-preserved g c = record {
  room = (let a = c.loop-self.invariant.room in omega (arith, a));
  bound = c.turn.ensures.bound ∙ c.loop-self.invariant.bound;
  turns = turned_more _ _ _ _ _ _ _ _ _ (let a = c.loop-self.invariant.room in omega (arith, a)) (later_weaker g.A.Agreement g.H.HostKeys g.G.GroupLookup _ _ _ _ _ _ _ _ c.loop-self.invariant.turns.configs.of_client c.loop-self.invariant.client_agreement c.loop-self.invariant.client_hosts c.loop-self.invariant.client_groups) (later_weaker g.A.Agreement g.H.HostKeys g.G.GroupLookup _ _ _ _ _ _ _ _ c.loop-self.invariant.turns.configs.of_server c.loop-self.invariant.server_agreement c.loop-self.invariant.server_hosts c.loop-self.invariant.server_groups) c.loop-self.invariant.turns (c.waits.ensures.waiting c.loop-self-test.true) c.in_ok-turn.ensures.turns;
  asks_client = side_join _ _ _ _ _ _ c.loop-self.invariant.asks_client c.in_ok-turn.ensures.asks_client;
  asks_server = side_join _ _ _ _ _ _ c.loop-self.invariant.asks_server c.in_ok-turn.ensures.asks_server;
  client_agreement = agreement_after _ _ _ _ _ _ _ _ c.loop-self.invariant.client_agreement c.turn.ensures.client_keeps.agreement;
  client_hosts = hosts_after _ _ _ _ _ _ _ _ _ _ _ _ c.loop-self.invariant.client_hosts c.turn.ensures.client_keeps.hosts;
  client_groups = groups_after _ _ _ _ _ _ _ _ c.loop-self.invariant.client_groups c.turn.ensures.client_keeps.groups;
  server_agreement = agreement_after _ _ _ _ _ _ _ _ c.loop-self.invariant.server_agreement c.turn.ensures.server_keeps.agreement;
  server_hosts = hosts_after _ _ _ _ _ _ _ _ _ _ _ _ c.loop-self.invariant.server_hosts c.turn.ensures.server_keeps.hosts;
  server_groups = groups_after _ _ _ _ _ _ _ _ c.loop-self.invariant.server_groups c.turn.ensures.server_keeps.groups;
  leaves = both_join _ _ _ _ _ _ _ _ _ c.loop-self.invariant.leaves c.in_ok-turn.ensures.leaves;
}

pub returns-in_err-turn-clause-refused : goal.returns-in_err-turn-clause-refused
returns-in_err-turn-clause-refused g c = λ lc ls.
    let p = err_from_is_err_and c.from_residual.result c.from_residual.ensures.1 in
    rw (p.1, p.2) (settle_refused _ _ _ _ _ _ _ _ _ (later_tells g.A.Agreement g.H.HostKeys g.G.GroupLookup _ _ _ _ _ _ _ _ _ _ _ c.loop-self.invariant.turns.configs.of_client c.loop-self.invariant.client_agreement c.loop-self.invariant.client_hosts c.loop-self.invariant.client_groups) (later_tells g.A.Agreement g.H.HostKeys g.G.GroupLookup _ _ _ _ _ _ _ _ _ _ _ c.loop-self.invariant.turns.configs.of_server c.loop-self.invariant.server_agreement c.loop-self.invariant.server_hosts c.loop-self.invariant.server_groups) c.loop-self.invariant.turns c.in_err-turn.ensures.refused lc ls)

pub returns-in_err-turn-clause-asked : goal.returns-in_err-turn-clause-asked
returns-in_err-turn-clause-asked g c = λ lc ls. always_err c.from_residual.result _ (turns_behind _ _ _ _ _ _ _ _ _ _ _ _ _ (later_weaker g.A.Agreement g.H.HostKeys g.G.GroupLookup _ _ _ _ _ _ _ _ c.loop-self.invariant.turns.configs.of_client c.loop-self.invariant.client_agreement c.loop-self.invariant.client_hosts c.loop-self.invariant.client_groups) (later_weaker g.A.Agreement g.H.HostKeys g.G.GroupLookup _ _ _ _ _ _ _ _ c.loop-self.invariant.turns.configs.of_server c.loop-self.invariant.server_agreement c.loop-self.invariant.server_hosts c.loop-self.invariant.server_groups) c.loop-self.invariant.turns c.loop-self.invariant.asks_client c.loop-self.invariant.asks_server c.in_err-turn.ensures.asked lc ls)

pub returns-then-turns-eq0-clause-asked : goal.returns-then-turns-eq0-clause-asked
returns-then-turns-eq0-clause-asked g c = λ lc ls. turns_end _ _ _ _ _ _ _ _ _ c.loop-self.invariant.turns c.loop-self.invariant.asks_client c.loop-self.invariant.asks_server

pub returns-then-begun_too_many-2-clause-asked : goal.returns-then-begun_too_many-2-clause-asked
returns-then-begun_too_many-2-clause-asked g c = λ lc ls. turns_end _ _ _ _ _ _ _ _ _ c.loop-self.invariant.turns c.loop-self.invariant.asks_client c.loop-self.invariant.asks_server

pub returns-then-begun_too_many-2-clause-refused : goal.returns-then-begun_too_many-2-clause-refused
returns-then-begun_too_many-2-clause-refused g c = λ lc ls. record {
  times = _;
  mid = link_of c.loop-self.self;
  turns = c.loop-self.invariant.turns.turns;
  refused = inr (
    refl,
    inr (elim c.then-begun_too_many-2.branch [
      | then-begun_too_many-2-via-then-begun_too_many-2 w ↦ search rules
      | then-begun_too_many-2-via-else-begun_too_many-2+then-not-rests w ↦ search rules
      | then-begun_too_many-2-via-else-begun_too_many-2+else-not-rests+then-not-rests-2 w ↦ search rules
    ]),
  );
}

pub returns-then-turns-eq0-clause-refused : goal.returns-then-turns-eq0-clause-refused
returns-then-turns-eq0-clause-refused g c = λ lc ls. record {
  times = _;
  mid = link_of c.loop-self.self;
  turns = c.loop-self.invariant.turns.turns;
  refused = inr (
    refl,
    elim c.then-turns-eq0.branch [
      | then-turns-eq0-via-then-turns-eq0 w ↦ search rules
      | then-turns-eq0-via-else-turns-eq0+then-begun_too_many w ↦ search rules
    ],
  );
}
