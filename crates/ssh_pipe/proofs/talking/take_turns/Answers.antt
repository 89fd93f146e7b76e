use Rattle.std.proofs.Common.{[], ◌++◌, ◌∙◌, arith, length-append, refl, subst, sym}
use Rattle.ssh_kex.specs.declared.config.Config.{Config}
use Rattle.ssh_kex.specs.declared.exchange.ServerHost.{ServerHost}
use Rattle.ssh_transport.proofs.Lemmas.{agreement_after, agreement_same, groups_after, groups_same, hosts_after, hosts_same, kept_denying, kept_untrusting, kept_weaker}
use Rattle.ssh_pipe.specs.Talks.{TellsFault, untouched}
use Rattle.ssh_pipe.specs.declared.end.TalkEnd.TheVariants.{SinkFailed, SourceFailed}
use Rattle.ssh_pipe.proofs.Telling.{grown, tells_more, tells_within}
use Rattle.ssh_pipe.proofs.Ways.{ends_behind, ends_spent, reaches_later, takes_join, takes_none, talks_behind, talks_nowhere}
use Rattle.ssh_pipe.proofs.talking.take_turns.Goals as goal
use Rattle.ssh_kex.specs.Stepping.{denies_of, says_of}
use Rattle.ssh_rules.specs.Refusing.{untrusted_of}

pub turns-init : goal.turns-init
turns-init g c = record {
  gone = ([], takes_none _, talks_nowhere _ c.args.desk.now c.args.transport.now _, omega arith);
  live = c.requires.live;
  config = refl;
  source = refl;
  told = c.tell_exchanges-told.ensures.count (omega arith);
  noted = c.tell_exchanges-told.ensures.lines;
  sink = refl;
  agreement = agreement_same _ _ _ _ _ _;
  hosts = hosts_same _ _ _ _ _ _ _ _ _ _;
  groups = groups_same _ _ _ _ _ _;
}

pub turns-preserved : goal.turns-preserved
turns-preserved g c =
    let inv = c.turns.invariant in
    let p = c.turn-end.ensures.more c.in-None.is in
    let grows = grown _ p.2.goes.moves c.turns.transport (untouched p.2.goes.sent p.2.goes.answered c.turn-end.new.transport) p.2.goes.follows in
    record {
      gone = (inv.gone.0 ++ p.0, takes_join inv.gone.0 p.0 _ _ _ inv.gone.1 p.1, talks_behind (λ (k : Config). says_of g.A.Agreement g.H.HostKeys g.G.GroupLookup k c.args.parts.now.agreement c.args.parts.now.hosts c.args.parts.now.groups) (λ (k : Config). says_of g.A.Agreement g.H.HostKeys g.G.GroupLookup k c.turns.parts.agreement c.turns.parts.hosts c.turns.parts.groups) (λ (k : Config). kept_weaker g.A.Agreement g.H.HostKeys g.G.GroupLookup _ _ _ _ _ _ _ inv.agreement inv.hosts inv.groups) c.args.desk.now c.turns.desk c.turn-end.new.desk c.args.transport.now _ inv.gone.0 c.turns.transport _ p.0 c.turn-end.new.transport _ inv.config inv.gone.2 p.2, let e = length-append inv.gone.0 p.0 in let a = inv.gone.3 in let b = p.3 in omega (arith, e, a, b));
      live = c.turn-end.ensures.live c.in-None.is;
      config = c.turn-end.ensures.config c.in-None.is ∙ inv.config;
      source = (c.turn-end.ensures.unfailed c.in-None.is).0 ∙ inv.source;
      told = c.tell_exchanges-told-in-turns.ensures.count (tells_within c.turns.transport.state.records grows.more c.turn-end.new.transport.state.records c.turns.told inv.told grows.all);
      noted = tells_more c.turns.transport.state.records grows.more c.turn-end.new.transport.state.records c.turns.told _ _ _ inv.told grows.all inv.noted c.tell_exchanges-told-in-turns.ensures.lines;
      sink = (c.turn-end.ensures.unfailed c.in-None.is).1 ∙ inv.sink;
      agreement = agreement_after _ _ _ _ _ _ _ _ inv.agreement c.turn-end.ensures.keeps.agreement;
      hosts = hosts_after _ _ _ _ _ _ _ _ _ _ _ _ inv.hosts c.turn-end.ensures.keeps.hosts;
      groups = groups_after _ _ _ _ _ _ _ _ inv.groups c.turn-end.ensures.keeps.groups;
    }

pub returns-clause-talked : goal.returns-clause-talked
returns-clause-talked g c =
    let inv = c.turns.invariant in
    (inv.gone.0, inv.gone.1, ends_spent _ _ _ c.args.desk.now c.turns.desk c.args.transport.now _ inv.gone.0 c.turns.transport _ inv.live inv.gone.2)

pub returns-in-Some-clause-talked : goal.returns-in-Some-clause-talked
returns-in-Some-clause-talked g c =
    let inv = c.turns.invariant in
    let p = c.in-Some.ensures.ends in
    (inv.gone.0 ++ p.0, takes_join inv.gone.0 p.0 _ _ _ inv.gone.1 p.1, ends_behind (λ (k : Config). says_of g.A.Agreement g.H.HostKeys g.G.GroupLookup k c.args.parts.now.agreement c.args.parts.now.hosts c.args.parts.now.groups) (λ (k : Config). says_of g.A.Agreement g.H.HostKeys g.G.GroupLookup k c.turns.parts.agreement c.turns.parts.hosts c.turns.parts.groups) (denies_of g.A.Agreement g.H.HostKeys g.G.GroupLookup c.args.parts.now.agreement c.turn-end.new.parts.agreement c.args.parts.now.hosts c.turn-end.new.parts.hosts c.args.parts.now.groups c.turn-end.new.parts.groups) (denies_of g.A.Agreement g.H.HostKeys g.G.GroupLookup c.turns.parts.agreement c.turn-end.new.parts.agreement c.turns.parts.hosts c.turn-end.new.parts.hosts c.turns.parts.groups c.turn-end.new.parts.groups) (untrusted_of g.H.HostKeys c.args.parts.now.hosts c.turn-end.new.parts.hosts) (untrusted_of g.H.HostKeys c.turns.parts.hosts c.turn-end.new.parts.hosts) (λ (k : Config). kept_denying g.A.Agreement g.H.HostKeys g.G.GroupLookup k c.args.parts.now.agreement c.turns.parts.agreement c.turn-end.new.parts.agreement c.args.parts.now.hosts c.turns.parts.hosts c.turn-end.new.parts.hosts c.args.parts.now.groups c.turns.parts.groups c.turn-end.new.parts.groups inv.agreement inv.hosts inv.groups) (λ (x : ServerHost) u. kept_untrusting g.H.HostKeys c.args.parts.now.hosts c.turns.parts.hosts c.turn-end.new.parts.hosts x inv.hosts u) c.args.desk.now c.turns.desk c.args.transport.now _ inv.gone.0 c.turns.transport _ p.0 _ _ _ inv.config inv.gone.2 p.2)

pub returns-in-Some-clause-noted : goal.returns-in-Some-clause-noted
returns-in-Some-clause-noted g c =
    let inv = c.turns.invariant in
    let ends = c.in-Some.ensures.ends.2 in
    let grows = grown _ ends.goes.moves c.turns.transport (untouched ends.goes.sent ends.goes.answered ends.at) ends.goes.follows in
    tells_more c.turns.transport.state.records grows.more c.turn-end.new.transport.state.records c.turns.told _ _ _ inv.told (sym ends.records ∙ grows.all) inv.noted c.tell_exchanges-told-in-turns.ensures.lines

pub returns-in-Some-clause-whole : goal.returns-in-Some-clause-whole
returns-in-Some-clause-whole g c = λ is. reaches_later c.turns.invariant.gone.0 _ _ _ c.turns.invariant.gone.1 (c.in-Some.ensures.whole is)

pub returns-in-Some-clause-source : goal.returns-in-Some-clause-source
returns-in-Some-clause-source g c = subst (λ n. TellsFault SourceFailed n (g.S.Source.faults c.turn-end.new.source) c.in-Some.end) c.turns.invariant.source c.in-Some.ensures.source

pub returns-in-Some-clause-sink : goal.returns-in-Some-clause-sink
returns-in-Some-clause-sink g c = subst (λ n. TellsFault SinkFailed n (g.K.Sink.faults c.turn-end.new.sink) c.in-Some.end) c.turns.invariant.sink c.in-Some.ensures.sink
