use Rattle.std.proofs.Common.{false}
use Rattle.ssh_transport.proofs.Outcomes.{kept_begins, kept_kept, polled_call, polled_dead}
use Rattle.ssh_transport.proofs.connection.Connection.poll.Goals as goal

pub take_kept-polled-requires : goal.take_kept-polled-requires
take_kept-polled-requires g c = record { live = c.requires.live c.if-self.false; within = c.requires }

pub fail_on-requires-clause-begins : goal.fail_on-requires-clause-begins
fail_on-requires-clause-begins g c = kept_begins false _ c.args.self.now c.take_kept-polled.result
    c.take_kept-polled.new.self c.take_kept-polled.ensures

pub fail_on-requires-clause-live : goal.fail_on-requires-clause-live
fail_on-requires-clause-live g c = kept_kept false _ c.args.self.now c.take_kept-polled.result
    c.take_kept-polled.new.self c.take_kept-polled.ensures

pub returns-then-self-clause-polled : goal.returns-then-self-clause-polled
returns-then-self-clause-polled g c = polled_dead g.A.Agreement g.H.HostKeys g.G.GroupLookup g.R.Rng c.args.parts.now
    c.args.self.now c.requires c.if-self.true

pub returns-clause-polled : goal.returns-clause-polled
returns-clause-polled g c = polled_call _ c.args.self.now c.take_kept-polled.new.self c.fail_on.new.self
    c.take_kept-polled.result c.fail_on.result c.if-self.false c.fail_on.ensures.result c.fail_on.ensures.ends
    c.take_kept-polled.ensures
