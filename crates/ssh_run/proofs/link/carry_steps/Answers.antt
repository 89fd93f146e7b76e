use Rattle.std.proofs.Common.{ap}
use Rattle.ssh_run.proofs.Leaving.{run_answered, run_drawn}
use Rattle.std.proofs.lemmas.Result.{err_from_is_err_and}
use Rattle.ssh_run.specs.LinkEnds.{link_of}
use Rattle.ssh_run.proofs.AskedRuns.{new_asks}
use Rattle.ssh_run.proofs.LinkSoFar.{all_refused, all_run}
use Rattle.ssh_run.proofs.link.carry_steps.Goals as goal
use Rattle.ssh_kex.specs.Stepping.{says_of}
use Rattle.ssh_run.specs.RefusedCarrying.{telling_of}

pub returns-clause-carried : goal.returns-clause-carried
returns-clause-carried g c = all_run
    (λ q. says_of g.A.Agreement g.H.HostKeys g.G.GroupLookup q c.args.client_parts.now.agreement c.args.client_parts.now.hosts c.args.client_parts.now.groups)
    (λ q. says_of g.A.Agreement g.H.HostKeys g.G.GroupLookup q c.args.server_parts.now.agreement c.args.server_parts.now.hosts c.args.server_parts.now.groups)
    c.args.client.now c.args.server.now _ c.args.steps.now (link_of c.in_ok-link.link) (link_of c.run.new.self) c.in_ok-marks.marks.items _ c.in_ok-link.ensures.new c.in_ok-link.ensures.bound c.in_ok-marks.ensures.runs c.in_ok-report.ensures

pub returns-in_err-marks-clause-refused : goal.returns-in_err-marks-clause-refused
returns-in_err-marks-clause-refused g c =
    let p = err_from_is_err_and c.from_residual-in_err-marks.result c.from_residual-in_err-marks.ensures.1 in
    rw (p.1, p.2) (all_refused (λ q. telling_of g.A.Agreement g.H.HostKeys g.G.GroupLookup q c.args.client_parts.now.agreement c.run.new.client_parts.agreement c.args.client_parts.now.hosts c.run.new.client_parts.hosts c.args.client_parts.now.groups c.run.new.client_parts.groups) (λ q. telling_of g.A.Agreement g.H.HostKeys g.G.GroupLookup q c.args.server_parts.now.agreement c.run.new.server_parts.agreement c.args.server_parts.now.hosts c.run.new.server_parts.hosts c.args.server_parts.now.groups c.run.new.server_parts.groups) c.args.client.now c.args.server.now c.args.steps.now (link_of c.in_ok-link.link) c.in_ok-link.link.bound _ c.in_ok-link.ensures.client c.in_ok-link.ensures.server c.run.ensures.few c.in_ok-link.ensures.new c.in_ok-link.ensures.bound c.in_err-marks.ensures.refused)

pub returns-clause-asks : goal.returns-clause-asks
returns-clause-asks g c = new_asks (λ q. says_of g.A.Agreement g.H.HostKeys g.G.GroupLookup q c.args.client_parts.now.agreement c.args.client_parts.now.hosts c.args.client_parts.now.groups) (λ q. says_of g.A.Agreement g.H.HostKeys g.G.GroupLookup q c.args.server_parts.now.agreement c.args.server_parts.now.hosts c.args.server_parts.now.groups) c.args.client.now c.args.server.now c.args.steps.now (link_of c.in_ok-link.link) _ _ _ _ c.in_ok-link.ensures.client c.in_ok-link.ensures.server c.run.ensures.few c.in_ok-link.ensures.new c.run.ensures.asks

pub returns-in_err-marks-clause-asks : goal.returns-in_err-marks-clause-asks
returns-in_err-marks-clause-asks g c = new_asks (λ q. says_of g.A.Agreement g.H.HostKeys g.G.GroupLookup q c.args.client_parts.now.agreement c.args.client_parts.now.hosts c.args.client_parts.now.groups) (λ q. says_of g.A.Agreement g.H.HostKeys g.G.GroupLookup q c.args.server_parts.now.agreement c.args.server_parts.now.hosts c.args.server_parts.now.groups) c.args.client.now c.args.server.now c.args.steps.now (link_of c.in_ok-link.link) _ _ _ _ c.in_ok-link.ensures.client c.in_ok-link.ensures.server c.run.ensures.few c.in_ok-link.ensures.new c.run.ensures.asks

pub returns-in_err-report-clause-asks : goal.returns-in_err-report-clause-asks
returns-in_err-report-clause-asks g c = new_asks (λ q. says_of g.A.Agreement g.H.HostKeys g.G.GroupLookup q c.args.client_parts.now.agreement c.args.client_parts.now.hosts c.args.client_parts.now.groups) (λ q. says_of g.A.Agreement g.H.HostKeys g.G.GroupLookup q c.args.server_parts.now.agreement c.args.server_parts.now.hosts c.args.server_parts.now.groups) c.args.client.now c.args.server.now c.args.steps.now (link_of c.in_ok-link.link) _ _ _ _ c.in_ok-link.ensures.client c.in_ok-link.ensures.server c.run.ensures.few c.in_ok-link.ensures.new c.run.ensures.asks

pub returns-clause-drawn : goal.returns-clause-drawn
returns-clause-drawn g c = run_drawn c.args.client.now c.args.server.now (link_of c.in_ok-link.link) (link_of c.run.new.self) _ _ _ _ _ _ c.in_ok-link.ensures.new c.in_ok-marks.ensures.leaves (ap (λ r. r.client.wire) c.in_ok-report.ensures) (ap (λ r. r.server.wire) c.in_ok-report.ensures)

pub returns-clause-answered : goal.returns-clause-answered
returns-clause-answered g c = run_answered c.args.client.now c.args.server.now (link_of c.in_ok-link.link) (link_of c.run.new.self) _ _ _ _ _ c.in_ok-link.ensures.new c.in_ok-marks.ensures.leaves (ap (λ r. r.client.wire) c.in_ok-report.ensures) (ap (λ r. r.server.wire) c.in_ok-report.ensures) (ap (λ r. r.client.exchanges) c.in_ok-report.ensures) (ap (λ r. r.server.exchanges) c.in_ok-report.ensures)
