use Rattle.std.proofs.Common.{◌≡◌, false, IfErr, subst}
use Rattle.ssh_rules.specs.Answering.{tests_by}
use Rattle.ssh_rules.specs.Asking.{counted_by}
use Rattle.ssh_rules.specs.Refusing.{RefusesPieceAsking, untrusted_of}
use Rattle.ssh_rules.specs.Standing.{Standing, TakesInput}
use Rattle.ssh_transport.specs.Asking.{tally}
use Rattle.ssh_transport.specs.Drawing.{DrawsFirst}
use Rattle.ssh_transport.specs.Sending.{MadeBy, ServesCall}
use Rattle.ssh_transport.specs.States.{standing_of}
use Rattle.ssh_transport.proofs.Saying.{on_ok}
use Rattle.ssh_transport.proofs.transport.Transport.feed.Goals as goal
use Rattle.ssh_kex.specs.Stepping.{denies_of, says_of}

pub returns-clause-fed : goal.returns-clause-fed
returns-clause-fed g c = on_ok c.feed.result _ _ (λ h. subst
    (λ (t : Standing). TakesInput (says_of g.A.Agreement g.H.HostKeys g.G.GroupLookup t.config
    c.args.parts.now.agreement c.args.parts.now.hosts c.args.parts.now.groups) t c.args.piece.now
    (standing_of c.feed.new.self)) c.self.view_is h) c.feed.ensures.fed.fed

pub returns-clause-serves : goal.returns-clause-serves
returns-clause-serves g c = on_ok c.feed.result _ _ (λ h. subst
    (λ (t : Standing). ServesCall (MadeBy g.A.Agreement.client_draws g.A.Agreement.server_draws) t
    (standing_of c.feed.new.self) (tally (counted_by g.A.Agreement g.H.HostKeys g.G.GroupLookup
    c.args.parts.now.agreement c.args.parts.now.hosts c.args.parts.now.groups)
    (tests_by g.A.Agreement g.H.HostKeys g.G.GroupLookup c.args.parts.now.agreement c.args.parts.now.hosts
    c.args.parts.now.groups)) (tally (counted_by g.A.Agreement g.H.HostKeys g.G.GroupLookup c.feed.new.parts.agreement
    c.feed.new.parts.hosts c.feed.new.parts.groups) (tests_by g.A.Agreement g.H.HostKeys g.G.GroupLookup
    c.feed.new.parts.agreement c.feed.new.parts.hosts c.feed.new.parts.groups)) (g.R.Rng.stream c.args.parts.now.rng)
    (g.R.Rng.stream c.feed.new.parts.rng)) c.self.view_is h) c.feed.ensures.fed.call.serves

pub returns-clause-refused : goal.returns-clause-refused
returns-clause-refused g c = subst (λ (t : Standing). t.failed ≡ false
    → IfErr c.feed.result (λ e. RefusesPieceAsking (says_of g.A.Agreement g.H.HostKeys g.G.GroupLookup t.config
    c.args.parts.now.agreement c.args.parts.now.hosts c.args.parts.now.groups)
    (denies_of g.A.Agreement g.H.HostKeys g.G.GroupLookup c.args.parts.now.agreement c.feed.new.parts.agreement
    c.args.parts.now.hosts c.feed.new.parts.hosts c.args.parts.now.groups c.feed.new.parts.groups)
    (untrusted_of g.H.HostKeys c.args.parts.now.hosts c.feed.new.parts.hosts) t c.args.piece.now e
    (standing_of c.feed.new.self) (counted_by g.A.Agreement g.H.HostKeys g.G.GroupLookup c.args.parts.now.agreement
    c.args.parts.now.hosts c.args.parts.now.groups) (counted_by g.A.Agreement g.H.HostKeys g.G.GroupLookup
    c.feed.new.parts.agreement c.feed.new.parts.hosts c.feed.new.parts.groups))) c.self.view_is
    c.feed.ensures.fed.call.refused

pub returns-clause-drawn : goal.returns-clause-drawn
returns-clause-drawn g c = subst (λ (t : Standing). DrawsFirst ((standing_of c.feed.new.self).failed ≡ false) t
    (standing_of c.feed.new.self) (g.R.Rng.stream c.args.parts.now.rng) (g.R.Rng.stream c.feed.new.parts.rng))
    c.self.view_is c.feed.ensures.fed.call.drawn
