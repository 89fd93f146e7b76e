use Rattle.std.proofs.Common.{rules, ◌≡◌, ℕ, List, true, false, ap, sym, ◌∙◌, subst}
use Rattle.ssh_transport.specs.Kept.{IsKept}
use Rattle.ssh_transport.specs.Saying.{IsSettled}
use Rattle.ssh_transport.specs.States.{standing_of}
use Rattle.ssh_transport.specs.Drawing.{AtMostNext, GoesNext, packet_with, writing_at}
use Rattle.ssh_transport.proofs.Drawing.{drawn_answer, held_answer, left_answer}
use Rattle.ssh_transport.proofs.Opened.{on_both}
use Rattle.ssh_transport.proofs.Outcomes.{ends_breaks, ends_kept, ends_rests, ends_same}
use Rattle.ssh_transport.proofs.Serving.{wrote_answer}
use Rattle.ssh_transport.proofs.Submitting.{broken_answer, kept_behind, sent_answer}
use Rattle.ssh_transport.proofs.connection.Connection.submit.Goals as goal

pub submit-sent-requires-clause-settled : goal.submit-sent-requires-clause-settled
submit-sent-requires-clause-settled g c = subst (λ (n : ℕ). IsSettled c.args.self.now.session n)
    (sym c.bytes-read.ensures) (c.requires.live c.if-self.false).settled

pub fail_on-requires-clause-live : goal.fail_on-requires-clause-live
fail_on-requires-clause-live g c = on_both c.submit-sent.result _ _ _
    (λ h o. kept_behind c.args.self.now c.submit-sent.new.self c.bytes-read.result c.args.payload.now
    c.bytes-read.ensures c.submit-sent.ensures.begins c.requires (c.requires.live c.if-self.false) h o)
    c.submit-sent.ensures.sent c.submit-sent.ensures.opened

pub returns-clause-submits : goal.returns-clause-submits
returns-clause-submits g c = record {
  kept = ends_kept c.submit-sent.result (record c.args.self.now { session = c.submit-sent.new.self }) c.fail_on.new.self
      (on_both c.submit-sent.result _ _ (IsKept (record c.args.self.now { session = c.submit-sent.new.self }))
      (λ h o. kept_behind c.args.self.now c.submit-sent.new.self c.bytes-read.result c.args.payload.now
      c.bytes-read.ensures c.submit-sent.ensures.begins c.requires (c.requires.live c.if-self.false) h o)
      c.submit-sent.ensures.sent c.submit-sent.ensures.opened) c.fail_on.ensures.ends;
  dead = λ f. absurd (let e : true ≡ false = sym f ∙ c.if-self.false in cc);
  size = search rules;
  inconsistent = search rules;
  sent = sent_answer c.args.self.now c.fail_on.new.self c.submit-sent.new.self c.bytes-read.result c.args.payload.now
      c.submit-sent.result c.fail_on.result c.if-self.false c.bytes-read.ensures c.fail_on.ensures.result
      (ends_same c.submit-sent.result (record c.args.self.now { session = c.submit-sent.new.self }) c.fail_on.new.self
      c.fail_on.ensures.ends) c.submit-sent.ensures.sent;
  drawn = λ o. drawn_answer c.args.self.now c.fail_on.new.self c.submit-sent.new.self
      (GoesNext c.args.self.now.session.writer.output _) c.submit-sent.result c.fail_on.result c.fail_on.ensures.result
      (ends_same c.submit-sent.result (record c.args.self.now { session = c.submit-sent.new.self }) c.fail_on.new.self
      c.fail_on.ensures.ends) (c.submit-sent.ensures.drawn o);
  sends = wrote_answer _ _ c.args.self.now c.fail_on.new.self c.submit-sent.new.self c.submit-sent.result
      c.fail_on.result c.fail_on.ensures.result (ends_same c.submit-sent.result
      (record c.args.self.now { session = c.submit-sent.new.self }) c.fail_on.new.self c.fail_on.ensures.ends)
      c.submit-sent.ensures.wrote;
  held = λ o. (
    ap (λ (r : g.row.R.Denot). record c.args.parts.now { rng = r }) (c.submit-sent.ensures.held o).0,
    held_answer c.args.self.now c.fail_on.new.self c.submit-sent.new.self c.submit-sent.result c.fail_on.result
        c.fail_on.ensures.result (ends_same c.submit-sent.result
        (record c.args.self.now { session = c.submit-sent.new.self }) c.fail_on.new.self c.fail_on.ensures.ends)
        (ends_rests c.submit-sent.result (record c.args.self.now { session = c.submit-sent.new.self })
        c.fail_on.new.self c.fail_on.ensures.ends) (c.submit-sent.ensures.held o).1,
  );
  leaves = λ f v. left_answer c.args.self.now c.fail_on.new.self c.submit-sent.new.self
      (λ (a b : List ℕ). AtMostNext a (packet_with (writing_at c.args.self.now.session.writer) c.args.payload.now
      (g.R.Rng.stream c.args.parts.now.rng)) b) c.submit-sent.result c.fail_on.result c.fail_on.ensures.result
      (ends_rests c.submit-sent.result (record c.args.self.now { session = c.submit-sent.new.self }) c.fail_on.new.self
      c.fail_on.ensures.ends) c.submit-sent.ensures.leaves;
  memory = λ f v. broken_answer c.args.self.now c.submit-sent.new.self (standing_of c.fail_on.new.self)
      c.submit-sent.result c.fail_on.result c.submit-sent.ensures.fixed.0 c.submit-sent.ensures.fixed.1
      c.fail_on.ensures.result c.submit-sent.ensures.err (ends_breaks c.submit-sent.result
      (record c.args.self.now { session = c.submit-sent.new.self }) c.fail_on.new.self c.fail_on.ensures.ends);
}
