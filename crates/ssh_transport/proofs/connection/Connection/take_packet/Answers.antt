use Rattle.std.proofs.Common.{arith, refl}
use Rattle.std.proofs.lemmas.Grind.{common_steps}
use Rattle.std.proofs.lemmas.Result.{err_from_is_err_and}
use Rattle.ssh_packet.specs.Errors.{error_of}
use Rattle.ssh_packet.specs.Sealing.{Clear}
use Rattle.ssh_transport.specs.States.{IsUnheard}
use Rattle.ssh_transport.specs.Calls.{call_of}
use Rattle.ssh_transport.proofs.Advancing.{next_refused}
use Rattle.ssh_transport.proofs.Asking.{to_here, to_packet}
use Rattle.ssh_transport.proofs.Opened.{begun_heard}
use Rattle.ssh_transport.proofs.Stopping.{stops_fault, stops_packet}
use Rattle.ssh_transport.proofs.Taking.{handles_one}
use Rattle.ssh_transport.proofs.Treating.{keeps_same}
use Rattle.ssh_transport.proofs.Wanting.{no_memory, wants_packet}
use Rattle.ssh_transport.proofs.connection.Connection.take_packet.Goals as goal

pub handle-requires : goal.handle-requires
handle-requires g c =
    let unheard : IsUnheard c.args.self.now.session = λ e.
    (c.requires.live.settled (record { sealing = Clear; number = 0 })).silent e in
    record {
      begins = c.requires.live.begins;
      unheard = unheard;
      short = grind (arith, common_steps);
      opened = c.requires.live.opened;
      begun = begun_heard c.args.self.now.session c.requires.heard unheard;
    }

pub returns : goal.returns
returns g c = record {
  stays = c.in_ok-handled.ensures.stays;
  failed = refl;
  unheard = c.in_ok-handled.ensures.unheard;
  opened = c.in_ok-handled.ensures.opened;
  keeps = c.in_ok-handled.ensures.keeps;
  serves = c.in_ok-handled.ensures.serves;
  handles = handles_one _ c.args.self.now _ c.next.new.key c.next.result _ c.in-Some.incoming c.in_ok-handled.handled
      c.next.follows.holds-at-none c.in_ok-incoming.was c.in-Some.is c.requires.live.numbered
      c.in_ok-handled.ensures.handles c.in_ok-handled.ensures.key_is refl c.in_ok-handled.ensures.delivers
      c.in_ok-handled.ensures.others;
}

pub returns-in_err-incoming : goal.returns-in_err-incoming
returns-in_err-incoming g c =
    let p = err_from_is_err_and c.from_residual.result c.from_residual.ensures.1 in
    next_refused (call_of g.A.Agreement g.H.HostKeys g.G.GroupLookup g.R.Rng c.args.parts.now c.args.parts.now)
    c.args.self.now _ c.from_residual.result p.0 (error_of c.in_err-incoming.field-0.0) p.1 p.2
    (record {
      begins = c.requires.live.begins;
      fixed = ((refl, refl), refl);
      keeps = keeps_same g.A.Agreement g.H.HostKeys g.G.GroupLookup c.args.parts.now.agreement c.args.parts.now.hosts
          c.args.parts.now.groups;
      stops = stops_fault _ _ _ _ c.args.self.now _ c.next.result c.in_err-incoming.field-0.0
          (error_of c.in_err-incoming.field-0.0) _ _ c.requires.live c.next.follows.holds-at-none c.in_err-incoming.was
          refl refl refl (λ f. to_here c.args.self.now.session _ _ _ _ _ refl);
      wants = λ _ e. absurd (no_memory c.in_err-incoming.field-0.0 e);
      unqueued = λ _. refl;
    })

pub returns-in_err-handled : goal.returns-in_err-handled
returns-in_err-handled g c =
    let p = err_from_is_err_and c.from_residual-in_err-handled.result c.from_residual-in_err-handled.ensures.1 in
    next_refused (call_of g.A.Agreement g.H.HostKeys g.G.GroupLookup g.R.Rng c.args.parts.now c.handle.new.parts)
    c.args.self.now _ c.from_residual-in_err-handled.result p.0 c.in_err-handled.field-0.0 p.1 p.2
    (record {
      begins = c.in_err-handled.ensures.stays.0;
      fixed = (c.in_err-handled.ensures.stays.3, refl);
      keeps = c.in_err-handled.ensures.keeps;
      stops = stops_packet _ _ _ _ c.args.self.now _ c.next.result _ c.in-Some.incoming c.in_err-handled.field-0.0 _ _
          c.requires.live c.next.follows.holds-at-none c.in_ok-incoming.was c.in-Some.is
          c.in_err-handled.ensures.refuses c.in_err-handled.ensures.leaves refl
          (λ i p. to_packet c.args.self.now.session _ _ i _ _ _ p c.in_err-handled.ensures.asked);
      wants = λ _ e. wants_packet _ _ _ c.args.self.now c.next.result _ c.in-Some.incoming c.in_err-handled.field-0.0 _
          _ c.requires.live c.next.follows.holds-at-none c.in_ok-incoming.was c.in-Some.is
          c.in_err-handled.ensures.refuses e;
      unqueued = λ _. refl;
    })
