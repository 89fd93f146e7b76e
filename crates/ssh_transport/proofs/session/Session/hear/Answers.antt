use Rattle.std.proofs.Common.{rules, ◌≡◌, Ok, Some, true, false, refl, sym, ◌∙◌, subst}
use Rattle.std.proofs.lemmas.Result.{err_from_is_err_and}
use Rattle.ssh_wire.specs.declared.error.Error.TheVariants.{Memory}
use Rattle.ssh_wire.specs.Reading.{Feeds}
use Rattle.ssh_wire.specs.declared.read_id.IdProgress.{IdProgress}
use Rattle.ssh_wire.specs.declared.read_id.IdProgress.TheVariants as progress
use Rattle.ssh_transport.specs.Drawing.{OpensDrawn}
use Rattle.ssh_transport.specs.Saying.{IsSettled}
use Rattle.ssh_transport.specs.States.{CanBegin}
use Rattle.ssh_transport.specs.declared.session.Session.{Session}
use Rattle.ssh_transport.proofs.Hearing.{settled_begun, settled_late, settled_not_yet}
use Rattle.ssh_transport.specs.Handling.{IsOpen}
use Rattle.ssh_transport.proofs.Hearing.{behind_heard, heard_short}
use Rattle.ssh_transport.specs.Hearing.{HearsLine}
use Rattle.ssh_transport.proofs.Heard.{ends_by, fed_as, line_begun, line_late, no_memory_heard, silent_is}
use Rattle.ssh_transport.proofs.Refusing.{which_error}
use Rattle.ssh_transport.proofs.Opened.{heard_line, open_begun, open_late, open_not_yet}
use Rattle.ssh_transport.proofs.Sending.{wrote_nothing}
use Rattle.ssh_transport.proofs.session.Session.hear.Goals as goal
use Rattle.ssh_transport.proofs.session.Session.hear.Goals.{then-is_first_due+in_ok-begin-in-Id, else-is_first_due}

pub returns-in-NotYet : goal.returns-in-NotYet
returns-in-NotYet g c = record {
  begins = record {
    valid = c.requires.valid;
    short = heard_short c.passes_others.result c.args.self.now.line
        c.args.piece.now (Ok c.in_ok-feed.field-0) c.feed.new.self c.in_ok-feed.ensures.fed c.requires.short;
  };
  settled = λ read q. settled_not_yet c.passes_others.result c.args.self.now
      (record c.args.self.now { line = c.feed.new.self }) c.feed.new.self c.args.piece.now c.in_ok-feed.field-0 read
      c.in_ok-feed.ensures.fed c.in-NotYet.is refl q;
  held = search rules;
  within = search rules;
  behind = search rules;
  heard = search rules;
  fixed = search rules;
  opened = λ o. open_not_yet c.passes_others.result c.args.self.now (record c.args.self.now { line = c.feed.new.self })
      c.feed.new.self c.args.piece.now c.in_ok-feed.field-0 c.in_ok-feed.ensures.fed c.in-NotYet.is refl o;
  line = (
    fed_as c.passes_others.result c.args.self.now.side c.args.self.now.line c.args.piece.now c.in_ok-feed.field-0
        progress.NotYet c.feed.new.self c.passes_others.ensures c.in-NotYet.is c.in_ok-feed.ensures.fed,
    c.feed.ensures.short,
    refl,
  );
  drawn = search rules;
  undrawn = search rules;
  wrote = wrote_nothing c.args.self.now _;
  unheard = search rules;
  ended = search rules;
}

pub returns-after-is_first_due : goal.returns-after-is_first_due
returns-after-is_first_due g c = record {
  begins = elim c.if-is_first_due.branch [
    | then-is_first_due+in_ok-begin-in-Id w ↦ subst CanBegin (sym w.self-is) w.begin.ensures.begins
    | else-is_first_due w ↦ subst CanBegin (sym w.self-is)
        (record {
          valid = c.requires.valid;
          short = heard_short c.passes_others.result c.args.self.now.line
              c.args.piece.now (Ok c.in_ok-feed.field-0) c.feed.new.self c.in_ok-feed.ensures.fed c.requires.short;
        })
  ];
  settled = λ read q. elim c.if-is_first_due.branch [
    | then-is_first_due+in_ok-begin-in-Id w ↦ subst (λ (x : Session). IsSettled x read) (sym w.self-is)
        (settled_begun (record c.args.self.now { line = c.feed.new.self }) w.begin.new.self read
        w.in_ok-begin-in-Id.ensures.begun)
    | else-is_first_due w ↦ subst (λ (x : Session). IsSettled x read) (sym w.self-is)
        (settled_late c.args.self.now (record c.args.self.now { line = c.feed.new.self }) c.feed.new.self read
        c.is_first_due.result c.is_first_due.ensures w.if-is_first_due.false refl q)
  ];
  held = search rules;
  within = search rules;
  behind = search rules;
  heard = search rules;
  fixed = search rules;
  opened = λ o. elim c.if-is_first_due.branch [
    | then-is_first_due+in_ok-begin-in-Id w ↦ subst IsOpen (sym w.self-is)
        (open_begun (record c.args.self.now { line = c.feed.new.self }) w.begin.new.self
        (heard_line c.feed.new.self (λ waiting. behind_heard c.passes_others.result c.args.self.now.line
        c.args.piece.now c.in-Id.used c.feed.new.self waiting
        (subst (λ (x : IdProgress). Feeds c.passes_others.result c.args.self.now.line c.args.piece.now (Ok x)
        c.feed.new.self) c.in-Id.is c.in_ok-feed.ensures.fed))) w.in_ok-begin-in-Id.ensures.begun)
    | else-is_first_due w ↦ subst IsOpen (sym w.self-is) (open_late c.passes_others.result c.args.self.now
        (record c.args.self.now { line = c.feed.new.self }) c.feed.new.self c.args.piece.now _ c.is_first_due.result
        c.in_ok-feed.ensures.fed c.is_first_due.ensures w.if-is_first_due.false refl o)
  ];
  line = (let fed = fed_as c.passes_others.result c.args.self.now.side c.args.self.now.line c.args.piece.now
      c.in_ok-feed.field-0 (progress.Id c.in-Id.used) c.feed.new.self c.passes_others.ensures c.in-Id.is
      c.in_ok-feed.ensures.fed in
      elim c.if-is_first_due.branch [
        | then-is_first_due+in_ok-begin-in-Id w ↦ subst (λ (x : Session). HearsLine c.args.self.now c.args.piece.now
            (Some c.in-Id.used) x) (sym w.self-is) (line_begun c.args.self.now w.begin.new.self c.feed.new.self
            c.args.piece.now c.in-Id.used c.is_first_due.result fed c.feed.ensures.short c.is_first_due.ensures
            w.if-is_first_due.true w.begin.ensures.line w.in_ok-begin-in-Id.ensures.begun)
        | else-is_first_due w ↦ subst (λ (x : Session). HearsLine c.args.self.now c.args.piece.now (Some c.in-Id.used)
            x) (sym w.self-is) (line_late c.args.self.now (record c.args.self.now { line = c.feed.new.self })
            c.feed.new.self c.args.piece.now c.in-Id.used c.is_first_due.result fed c.feed.ensures.short
            c.is_first_due.ensures w.if-is_first_due.false refl)
      ]);
  drawn = elim c.if-is_first_due.branch [
    | then-is_first_due+in_ok-begin-in-Id w ↦ subst (λ (x : Session). OpensDrawn c.args.self.now x
        (g.R.Rng.stream c.args.rng.now)) (sym w.self-is) (λ silent. w.in_ok-begin-in-Id.ensures.drawn.first)
    | else-is_first_due w ↦ λ silent. absurd (let f : true ≡ false = sym silent
        ∙ (sym c.is_first_due.ensures ∙ w.if-is_first_due.false) in cc)
  ];
  undrawn = search rules;
  wrote = search rules;
  unheard = search rules;
  ended = search rules;
}

pub returns-in_err-feed : goal.returns-in_err-feed
returns-in_err-feed g c = record {
  begins = search rules;
  settled = search rules;
  held = search rules;
  within = search rules;
  behind = search rules;
  heard = search rules;
  fixed = search rules;
  opened = search rules;
  line = search rules;
  drawn = search rules;
  undrawn = search rules;
  wrote = search rules;
  unheard = search rules;
  ended = λ u e.
      let p = err_from_is_err_and c.from_residual.result c.from_residual.ensures.1 in
      absurd (no_memory_heard c.passes_others.result c.args.self.now.line c.args.piece.now c.in_err-feed.field-0.0
      c.feed.new.self c.in_err-feed.ensures.fed (sym p.2 ∙ which_error c.from_residual.result p.0 Memory p.1 e));
}

pub returns-in_err-begin-in-Id : goal.returns-in_err-begin-in-Id
returns-in_err-begin-in-Id g c = record {
  begins = search rules;
  settled = search rules;
  held = search rules;
  within = search rules;
  behind = search rules;
  heard = search rules;
  fixed = search rules;
  opened = search rules;
  line = search rules;
  drawn = search rules;
  undrawn = search rules;
  wrote = search rules;
  unheard = search rules;
  ended = λ u e. ends_by c.passes_others.result c.args.self.now.side c.args.self.now.line c.args.piece.now
      c.in_ok-feed.field-0 c.in-Id.used c.feed.new.self c.passes_others.ensures c.in-Id.is
      (u (silent_is _ (sym c.is_first_due.ensures ∙ c.if-is_first_due.true))) c.in_ok-feed.ensures.fed;
}
