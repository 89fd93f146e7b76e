use Rattle.std.proofs.Common.{◌≡◌, Bool, true, false, Result, Ok, Err, ap, refl, sym, ◌∙◌, subst}
use Rattle.std.specs.Borrow.{Bor}
use Rattle.ssh_wire.specs.declared.error.Error.{Error}
use Rattle.ssh_wire.specs.declared.error.Error.TheVariants.{Disconnect, Memory}
use Rattle.ssh_kex.specs.declared.config.Config.{Config}
use Rattle.ssh_rules.specs.Polling.{MayWant}
use Rattle.ssh_rules.specs.Standing.{Standing}
use Rattle.ssh_transport.specs.States.{standing_of}
use Rattle.ssh_transport.proofs.Polling.{lends_none, lends_refusal, lends_some, polls_seen}
use Rattle.ssh_transport.proofs.transport.Transport.poll_payload.Goals as goal
use Rattle.ssh_kex.specs.Stepping.{says_of}

pub returns-in-Ok-true : goal.returns-in-Ok-true
returns-in-Ok-true g c = (
  (
    refl,
    λ _. tt,
    polls_seen (λ (x : Config). (says_of g.A.Agreement g.H.HostKeys g.G.GroupLookup x c.args.parts.now.agreement
        c.args.parts.now.hosts c.args.parts.now.groups)) _ _ _ _ _ _ _ (standing_of c.self.inside.connection) _
        (standing_of c.poll.new.self) c.poll.new.self.reader.handed c.poll.result _ c.self.view_is
        (lends_some c.poll.result c.poll.new.self.reader.handed c.handed.result
        (c.in-Ok-true.is ∙ ap (λ (b : Bool). Ok b) c.in-Ok-true.field-0-test) c.handed.ensures)
        (λ f. (c.poll.ensures.dead f).0) (λ f. ap standing_of (c.poll.ensures.dead f).1)
        (c.poll.ensures.polled.call.stays.0, ap (λ (x : Bor Config). x.now) c.poll.ensures.polled.call.stays.1)
        c.poll.ensures.polled.call.lives c.poll.ensures.polled.call.ends c.poll.ensures.polled.unqueued
        c.poll.ensures.polled.polled c.poll.ensures.polled.call.refused c.poll.ensures.polled.call.serves
        c.poll.ensures.polled.call.drawn,
  ),
  record {
    after_borrow = tt;
    dead = λ f. absurd (let e : (let r : Result Bool Error = Ok true in r) ≡ Err Disconnect = sym
        (c.in-Ok-true.is ∙ ap (λ (b : Bool). Ok b) c.in-Ok-true.field-0-test)
        ∙ (c.poll.ensures.dead (ap (λ (t : Standing). t.failed) c.self.view_is ∙ f)).0 in cc);
    memory = λ f m. absurd m;
    keeps = c.poll.ensures.polled.call.keeps;
  },
)

pub returns-in-Ok-false : goal.returns-in-Ok-false
returns-in-Ok-false g c = (
  (
    refl,
    λ _. tt,
    polls_seen (λ (x : Config). (says_of g.A.Agreement g.H.HostKeys g.G.GroupLookup x c.args.parts.now.agreement
        c.args.parts.now.hosts c.args.parts.now.groups)) _ _ _ _ _ _ _ (standing_of c.self.inside.connection) _
        (standing_of c.poll.new.self) c.poll.new.self.reader.handed c.poll.result _ c.self.view_is
        (lends_none c.poll.result c.poll.new.self.reader.handed
        (c.in-Ok-false.is ∙ ap (λ (b : Bool). Ok b) c.in-Ok-false.field-0-test))
        (λ f. (c.poll.ensures.dead f).0) (λ f. ap standing_of (c.poll.ensures.dead f).1)
        (c.poll.ensures.polled.call.stays.0, ap (λ (x : Bor Config). x.now) c.poll.ensures.polled.call.stays.1)
        c.poll.ensures.polled.call.lives c.poll.ensures.polled.call.ends c.poll.ensures.polled.unqueued
        c.poll.ensures.polled.polled c.poll.ensures.polled.call.refused c.poll.ensures.polled.call.serves
        c.poll.ensures.polled.call.drawn,
  ),
  record {
    after_borrow = tt;
    dead = λ f. absurd (let e : (let r : Result Bool Error = Ok false in r) ≡ Err Disconnect = sym
        (c.in-Ok-false.is ∙ ap (λ (b : Bool). Ok b) c.in-Ok-false.field-0-test)
        ∙ (c.poll.ensures.dead (ap (λ (t : Standing). t.failed) c.self.view_is ∙ f)).0 in cc);
    memory = λ f m. absurd m;
    keeps = c.poll.ensures.polled.call.keeps;
  },
)

pub returns-in-Err : goal.returns-in-Err
returns-in-Err g c = (
  (
    refl,
    λ _. tt,
    polls_seen (λ (x : Config). (says_of g.A.Agreement g.H.HostKeys g.G.GroupLookup x c.args.parts.now.agreement
        c.args.parts.now.hosts c.args.parts.now.groups)) _ _ _ _ _ _ _ (standing_of c.self.inside.connection) _
        (standing_of c.poll.new.self) c.poll.new.self.reader.handed c.poll.result _ c.self.view_is
        (lends_refusal c.poll.result c.poll.new.self.reader.handed c.in-Err.error _ c.in-Err.is refl)
        (λ f. (c.poll.ensures.dead f).0) (λ f. ap standing_of (c.poll.ensures.dead f).1)
        (c.poll.ensures.polled.call.stays.0, ap (λ (x : Bor Config). x.now) c.poll.ensures.polled.call.stays.1)
        c.poll.ensures.polled.call.lives c.poll.ensures.polled.call.ends c.poll.ensures.polled.unqueued
        c.poll.ensures.polled.polled c.poll.ensures.polled.call.refused c.poll.ensures.polled.call.serves
        c.poll.ensures.polled.call.drawn,
  ),
  record {
    after_borrow = tt;
    dead = λ f. let d = c.poll.ensures.dead (ap (λ (t : Standing). t.failed) c.self.view_is ∙ f) in (
      (let e : (let r : Result Bool Error = Err c.in-Err.error in r) ≡ Err Disconnect = sym c.in-Err.is ∙ d.0 in cc),
      d.2,
    );
    memory = subst (λ (t : Standing). t.failed ≡ false → c.in-Err.error ≡ Memory
        → MayWant (says_of g.A.Agreement g.H.HostKeys g.G.GroupLookup t.config c.args.parts.now.agreement
        c.args.parts.now.hosts c.args.parts.now.groups) t) c.self.view_is
        (λ f m. c.poll.ensures.polled.wants f (c.in-Err.is ∙ ap (λ (x : Error). Err x) m));
    keeps = c.poll.ensures.polled.call.keeps;
  },
)
