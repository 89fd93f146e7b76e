use Rattle.std.proofs.Common.{rules, ◌≡◌, ℕ, arith, drop, length, ◌<◌, ◌^◌, List, [], Err, None, Ok, Option, Some, ap, ◌∙◌, refl, sym, subst}
use Rattle.std.proofs.lemmas.List.{length-drop}
use Rattle.ssh_wire.specs.declared.error.Error.{Error}
use Rattle.ssh_wire.specs.declared.error.Error.TheVariants.{Memory}
use Rattle.ssh_packet.specs.Reading.{Reader}
use Rattle.ssh_transport.specs.Asking.{nowhere}
use Rattle.ssh_transport.specs.Drawing.{OpensDrawn}
use Rattle.ssh_transport.specs.Hearing.{EndsBy}
use Rattle.ssh_transport.specs.Saying.{IsSettled}
use Rattle.ssh_transport.specs.States.{WaitsBehind}
use Rattle.ssh_transport.specs.Stopping.{HearsNot}
use Rattle.std.proofs.lemmas.Result.{err_from_is_err_and}
use Rattle.ssh_transport.proofs.Refusing.{from_err, which_error}
use Rattle.ssh_transport.proofs.Heard.{heard_at, heeds_line, hears_part, hears_some, line_part, none_left, short_line, within_at}
use Rattle.ssh_transport.proofs.Opened.{heard_line}
use Rattle.ssh_transport.proofs.Reading.{some_of}
use Rattle.ssh_transport.proofs.Taking.{some_is}
use Rattle.ssh_transport.proofs.connection.Connection.hear.Goals as goal

pub returns : goal.returns
returns g c = record {
  begins = search rules;
  live = record {
    begins = c.hear.ensures.begins;
    settled = subst (λ (n : ℕ). IsSettled c.hear.new.self n) (sym (ap (λ (r : Reader). r.count) c.skip-2.ensures))
        (c.in_ok-used.ensures.settled c.args.self.now.reader.count c.requires.settled);
    good = rw c.hear.ensures.held c.requires.good;
    opened = c.in_ok-used.ensures.opened c.requires.opened;
    numbered = subst (λ (r : Reader). r.number < 2 ^ 32) (sym c.skip-2.ensures) c.requires.numbered;
    short = short_line c.args.self.now.session c.unread.result.now c.in_ok-used.field-0 c.hear.new.self
        c.in_ok-used.ensures.line;
    heeds = heeds_line c.args.self.now.session c.unread.result.now c.in_ok-used.field-0 c.hear.new.self c.requires.heeds
        c.in_ok-used.ensures.line;
    unbroken = ap (λ (r : Reader). r.failed) c.skip-2.ensures ∙ c.requires.unbroken;
    windowed = ap (λ (r : Reader). r.window) c.skip-2.ensures ∙ c.requires.windowed;
  };
  heard = hears_some c.args.self.now c.hear.new.self c.in-Some.used c.skip-2.new.self [] _ c.requires
      (within_at c.unread.result.now c.args.self.now.reader.waiting c.in-Some.used c.unread.ensures
      (some_is c.in_ok-used.field-0 c.in-Some.used _ c.in_ok-used.ensures.within c.in-Some.is))
      (heard_at c.args.self.now c.hear.new.self c.unread.result.now c.in_ok-used.field-0 (Some c.in-Some.used)
      c.unread.ensures c.in-Some.is c.in_ok-used.ensures.line) c.skip-2.ensures;
  whole = λ e. heard_line c.hear.new.self.line (some_of c.in_ok-used.field-0 c.in-Some.used
      ((waiting : List ℕ) → WaitsBehind c.hear.new.self.line waiting) c.in-Some.is c.in_ok-used.ensures.heard);
  part = search rules;
  shorter = (let e : length c.skip-2.new.self.waiting ≡ length (drop c.in-Some.used c.args.self.now.reader.waiting) = ap
      (λ (r : Reader). length r.waiting) c.skip-2.ensures in let d = length-drop c.in-Some.used
      c.args.self.now.reader.waiting in omega (arith, e, d));
  unqueued = search rules;
  fails = search rules;
  ended = search rules;
  drawn = λ e. some_of c.in_ok-used.field-0 c.in-Some.used
      (OpensDrawn c.args.self.now.session c.hear.new.self (g.R.Rng.stream c.args.rng.now)) c.in-Some.is
      c.in_ok-used.ensures.drawn;
  awaits = search rules;
  wrote = search rules;
  fixed = search rules;
}

pub returns-in_default : goal.returns-in_default
returns-in_default g c = record {
  begins = search rules;
  live = record {
    begins = c.hear.ensures.begins;
    settled = subst (λ (n : ℕ). IsSettled c.hear.new.self n) (sym (ap (λ (r : Reader). r.count) c.skip.ensures))
        (c.in_ok-used.ensures.settled c.args.self.now.reader.count c.requires.settled);
    good = rw c.hear.ensures.held c.requires.good;
    opened = c.in_ok-used.ensures.opened c.requires.opened;
    numbered = subst (λ (r : Reader). r.number < 2 ^ 32) (sym c.skip.ensures) c.requires.numbered;
    short = short_line c.args.self.now.session c.unread.result.now c.in_ok-used.field-0 c.hear.new.self
        c.in_ok-used.ensures.line;
    heeds = heeds_line c.args.self.now.session c.unread.result.now c.in_ok-used.field-0 c.hear.new.self c.requires.heeds
        c.in_ok-used.ensures.line;
    unbroken = ap (λ (r : Reader). r.failed) c.skip.ensures ∙ c.requires.unbroken;
    windowed = ap (λ (r : Reader). r.window) c.skip.ensures ∙ c.requires.windowed;
  };
  heard = hears_part c.args.self.now c.hear.new.self c.skip.new.self c.waiting.result [] _ c.waiting.ensures
      (heard_at c.args.self.now c.hear.new.self c.unread.result.now c.in_ok-used.field-0 None c.unread.ensures
      c.in_default.is c.in_ok-used.ensures.line) c.skip.ensures;
  whole = search rules;
  part = λ e. (
    none_left c.args.self.now.reader c.skip.new.self c.waiting.result [] _ c.waiting.ensures c.skip.ensures,
    line_part c.args.self.now.session c.hear.new.self c.args.self.now.reader.waiting c.requires.short
        (heard_at c.args.self.now c.hear.new.self c.unread.result.now c.in_ok-used.field-0 None c.unread.ensures
        c.in_default.is c.in_ok-used.ensures.line),
  );
  shorter = (let e : length c.skip.new.self.waiting ≡ length (drop c.waiting.result c.args.self.now.reader.waiting) = ap
      (λ (r : Reader). length r.waiting) c.skip.ensures in let d = length-drop c.waiting.result
      c.args.self.now.reader.waiting in omega (arith, e, d));
  unqueued = search rules;
  fails = search rules;
  ended = search rules;
  drawn = search rules;
  awaits = λ e. (
    (heard_at c.args.self.now c.hear.new.self c.unread.result.now c.in_ok-used.field-0 None
        c.unread.ensures c.in_default.is c.in_ok-used.ensures.line).2,
    c.hear.ensures.undrawn
        (c.in_ok-used.was ∙ ap (λ (o : Option ℕ). Ok o) c.in_default.is),
  );
  wrote = search rules;
  fixed = search rules;
}

pub returns-in_err-used : goal.returns-in_err-used
returns-in_err-used g c = record {
  begins = search rules;
  live = search rules;
  heard = search rules;
  whole = search rules;
  part = search rules;
  shorter = search rules;
  unqueued = search rules;
  fails = (let p = err_from_is_err_and c.from_residual.result c.from_residual.ensures.1 in
      from_err c.from_residual.result _ c.in_err-used.field-0.0 p.0 p.1 p.2
      (record {
        not = subst (λ (b : List ℕ). HearsNot c.args.self.now.session b c.in_err-used.field-0.0
            c.hear.new.self) c.unread.ensures c.in_err-used.ensures.unheard;
        delivered = refl;
      }));
  ended = λ e.
      let p = err_from_is_err_and c.from_residual.result c.from_residual.ensures.1 in
      subst (λ (b : List ℕ). EndsBy c.args.self.now.session.side c.args.self.now.session.line b) c.unread.ensures
      (c.hear.ensures.ended (λ s. (c.requires.settled nowhere).silent s)
      (c.in_err-used.was ∙ ap (λ (x : Error). Err x) (sym p.2
      ∙ which_error c.from_residual.result p.0 Memory p.1 e)));
  drawn = search rules;
  awaits = search rules;
  wrote = search rules;
  fixed = search rules;
}
