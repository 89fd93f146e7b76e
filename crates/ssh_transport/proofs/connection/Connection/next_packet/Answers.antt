use Rattle.std.proofs.lemmas.Result.{err_from_is_err_and}
use Rattle.ssh_transport.specs.Calls.{call_of}
use Rattle.ssh_transport.proofs.Advancing.{none_taken, nothing_read, one_read, one_refused, one_stopped, one_taken, one_unqueued, stops_any}
use Rattle.ssh_transport.proofs.connection.Connection.next_packet.Goals as goal

pub returns-in_default : goal.returns-in_default
returns-in_default g c = nothing_read c.args.queues (call_of g.A.Agreement g.H.HostKeys g.G.GroupLookup g.R.Rng
    c.args.parts.now c.take_packet.new.parts) c.args.self.now c.take_packet.new.self c.requires
    (none_taken _ c.args.self.now c.take_packet.new.self c.in_ok-handled.field-0 c.in_default.is
    c.in_ok-handled.ensures)

pub returns : goal.returns
returns g c = one_read (call_of g.A.Agreement g.H.HostKeys g.G.GroupLookup g.R.Rng c.args.parts.now
    c.take_packet.new.parts) (g.R.Rng.stream c.go_on.new.rng) c.args.queues c.args.self.now c.take_packet.new.self
    c.hand_up.new.self c.take_up.new.self c.go_on.new.self c.bytes.result c.in-Some.handled c.in_ok-read.read
    c.requires (one_taken _ c.args.self.now c.take_packet.new.self c.in_ok-handled.field-0 c.in-Some.handled
    c.in-Some.is c.in_ok-handled.ensures) c.in_ok-read.ensures.done c.take_up.ensures c.bytes.ensures
    c.in_ok-go_on.ensures.opened c.in_ok-go_on.ensures.ok c.in_ok-go_on.ensures.wrote c.go_on.ensures.fixed
    c.go_on.ensures.begins c.go_on.ensures.line

pub returns-in_err-handled : goal.returns-in_err-handled
returns-in_err-handled g c =
    let p = err_from_is_err_and c.from_residual.result c.from_residual.ensures.1 in
    one_refused c.args.queues _ c.args.self.now _ c.from_residual.result p.0 c.in_err-handled.field-0.0 p.1 p.2
    (stops_any c.args.queues (call_of g.A.Agreement g.H.HostKeys g.G.GroupLookup g.R.Rng c.args.parts.now
    c.take_packet.new.parts) c.args.self.now c.in_err-handled.field-0.0 c.take_packet.new.self
    c.in_err-handled.ensures)

pub returns-in_err-read : goal.returns-in_err-read
returns-in_err-read g c =
    let p = err_from_is_err_and c.from_residual-in_err-read.result c.from_residual-in_err-read.ensures.1 in
    one_refused c.args.queues _ c.args.self.now _ c.from_residual-in_err-read.result p.0 c.in_err-read.field-0.0 p.1 p.2
    (one_unqueued c.args.queues (call_of g.A.Agreement g.H.HostKeys g.G.GroupLookup g.R.Rng c.args.parts.now
    c.take_packet.new.parts) c.args.self.now c.take_packet.new.self c.hand_up.new.self c.in-Some.handled
    c.in_err-read.field-0.0
    (one_taken _ c.args.self.now c.take_packet.new.self c.in_ok-handled.field-0 c.in-Some.handled c.in-Some.is
    c.in_ok-handled.ensures) c.in_err-read.ensures.err)

pub returns-in_err-go_on : goal.returns-in_err-go_on
returns-in_err-go_on g c =
    let p = err_from_is_err_and c.from_residual-in_err-go_on.result c.from_residual-in_err-go_on.ensures.1 in
    one_refused c.args.queues _ c.args.self.now _ c.from_residual-in_err-go_on.result p.0 c.in_err-go_on.field-0.0 p.1
    p.2
    (one_stopped (call_of g.A.Agreement g.H.HostKeys g.G.GroupLookup g.R.Rng c.args.parts.now c.take_packet.new.parts)
    (g.R.Rng.stream c.go_on.new.rng) c.args.queues c.args.self.now c.take_packet.new.self c.hand_up.new.self
    c.take_up.new.self c.go_on.new.self c.bytes.result c.in-Some.handled c.in_ok-read.read c.in_err-go_on.field-0.0
    c.requires (one_taken _ c.args.self.now c.take_packet.new.self c.in_ok-handled.field-0 c.in-Some.handled
    c.in-Some.is c.in_ok-handled.ensures) c.in_ok-read.ensures.done c.take_up.ensures c.bytes.ensures
    c.in_err-go_on.ensures.wanting c.in_err-go_on.ensures.due c.in_err-go_on.ensures.err c.go_on.ensures.fixed
    c.go_on.ensures.begins)
