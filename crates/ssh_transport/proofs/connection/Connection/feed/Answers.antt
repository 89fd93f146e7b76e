use Rattle.ssh_transport.proofs.Outcomes.{fed_call, fed_dead, piece_begins, piece_kept}
use Rattle.ssh_transport.proofs.connection.Connection.feed.Goals as goal

pub take-taken-requires : goal.take-taken-requires
take-taken-requires g c = record { live = c.requires.live c.if-self.false; within = c.requires }

pub fail_on-requires-clause-begins : goal.fail_on-requires-clause-begins
fail_on-requires-clause-begins g c = piece_begins _ c.args.self.now c.args.piece.now c.take-taken.result
    c.take-taken.new.self c.take-taken.ensures

pub fail_on-requires-clause-live : goal.fail_on-requires-clause-live
fail_on-requires-clause-live g c = piece_kept _ c.args.self.now c.args.piece.now c.take-taken.result
    c.take-taken.new.self c.take-taken.ensures

pub returns-then-self-clause-fed : goal.returns-then-self-clause-fed
returns-then-self-clause-fed g c = fed_dead g.A.Agreement g.H.HostKeys g.G.GroupLookup g.R.Rng c.args.parts.now
    c.args.self.now c.args.piece.now c.requires c.if-self.true

pub returns-clause-fed : goal.returns-clause-fed
returns-clause-fed g c = fed_call _ c.args.self.now c.take-taken.new.self c.fail_on.new.self c.args.piece.now
    c.take-taken.result c.fail_on.result c.if-self.false c.fail_on.ensures.result c.fail_on.ensures.ends
    c.take-taken.ensures
