use Rattle.std.proofs.Common.{◌≡◌, List, []}
use Rattle.std.specs.VecDeque.{deque_len}
use Rattle.ssh_rules.specs.Machine.{Event, Outside}
use Rattle.ssh_transport.specs.Handling.{IsOpen}
use Rattle.ssh_transport.specs.Saying.{Writes}
use Rattle.ssh_transport.specs.Sending.{WritesDrawn}
use Rattle.ssh_transport.specs.States.{CanBegin, IsUnheard, stands_of}
use Rattle.ssh_transport.proofs.session.Session.go_on.Given as goal

abbrev pub invariant-held : goal.invariant-held
invariant-held g l = record {
  begins : CanBegin l.self;
  line : l.self.line ≡ l.fn.self.line;
  unheard : IsUnheard l.self;
  opened : IsOpen l.self;
  idle : (stands_of l.fn.self.finished.items l.fn.self.kex ≡ Outside → l.fn.self.held.items ≡ []) → l.self ≡ l.fn.self;
  written : (events : List Event) × Writes l.fn.self l.read events l.self;
  wrote : WritesDrawn l.fn.self l.self (g.R.Rng.stream l.fn.rng) (g.R.Rng.stream l.rng);
}

abbrev pub decreases-held : goal.decreases-held
decreases-held g l = deque_len l.self.held
