use Rattle.std.proofs.Common.{[], inl, inr}
use Rattle.ssh_pipe.proofs.Ways.{ends_begun, ends_unbegun, takes_none}
use Rattle.ssh_pipe.proofs.talking.talk.Goals as goal
use Rattle.ssh_kex.specs.Stepping.{denies_of, says_of}
use Rattle.ssh_rules.specs.Refusing.{untrusted_of}

pub returns-in-Err-clause-talked : goal.returns-in-Err-clause-talked
returns-in-Err-clause-talked g c = ([], takes_none _, ends_unbegun _ _ _ c.args.desk.now _ c.args.transport.now _ c.in-Err.error _ (inr (c.requires.live, inl c.in-Err.ensures.memory)) c.begin.ensures.records)

pub returns-in-Err-clause-noted : goal.returns-in-Err-clause-noted
returns-in-Err-clause-noted g c = c.tell_exchanges.ensures.lines

pub returns-in-Ok-clause-talked : goal.returns-in-Ok-clause-talked
returns-in-Ok-clause-talked g c =
    let e = c.take_turns.ensures.talked in
    (e.0, e.1, ends_begun (says_of g.A.Agreement g.H.HostKeys g.G.GroupLookup) (λ a h q. denies_of g.A.Agreement g.H.HostKeys g.G.GroupLookup a c.take_turns.new.parts.agreement h c.take_turns.new.parts.hosts q c.take_turns.new.parts.groups) (λ h. untrusted_of g.H.HostKeys h c.take_turns.new.parts.hosts) c.args.desk.now _ _ _ _ _ _ c.args.transport.now c.begin.new.transport _ e.0 _ _ _ c.in-Ok.ensures.config c.begin.ensures.parts.0 c.begin.ensures.parts.1 c.begin.ensures.parts.2 c.in-Ok.ensures.sent e.2)
