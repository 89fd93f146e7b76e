use Rattle.std.proofs.Common.{rules, ◌≡◌, ◌++◌, ℕ, List, true, false, sym, ◌∙◌}
use Rattle.ssh_transport.specs.Drawing.{kexinit_packet, writing_at}
use Rattle.ssh_transport.proofs.Drawing.{drawn_answer, left_answer, on_refusal, unsaid_left}
use Rattle.ssh_transport.proofs.Kept.{kept_session}
use Rattle.ssh_transport.proofs.Opened.{live_begun}
use Rattle.ssh_transport.proofs.Outcomes.{ends_kept, ends_rests, ends_same}
use Rattle.ssh_transport.proofs.Serving.{wrote_answer}
use Rattle.ssh_transport.proofs.Saying.{flipped, on_ok, outside_is}
use Rattle.ssh_transport.proofs.connection.Connection.rekey.Goals as goal

pub fail_on-requires-clause-live : goal.fail_on-requires-clause-live
fail_on-requires-clause-live g c = (on_ok c.begin-begun.result _ _
    (λ b. kept_session c.args.self.now c.begin-begun.new.self c.begin-begun.ensures.line c.begin-begun.ensures.begins
    c.requires (live_begun c.args.self.now c.begin-begun.new.self (c.requires.live c.if-self.false)
    (outside_is _ (flipped c.is_inside.result _ c.is_inside.ensures c.if-is_inside.false)) b
    c.begin-begun.ensures.begins)) c.begin-begun.ensures.begun)

pub returns-clause-asks : goal.returns-clause-asks
returns-clause-asks g c = record {
  kept = ends_kept c.begin-begun.result (record c.args.self.now { session = c.begin-begun.new.self }) c.fail_on.new.self
      (on_ok c.begin-begun.result _ _ (λ b. kept_session c.args.self.now c.begin-begun.new.self
      c.begin-begun.ensures.line c.begin-begun.ensures.begins c.requires
      (live_begun c.args.self.now c.begin-begun.new.self (c.requires.live c.if-self.false)
      (outside_is _ (flipped c.is_inside.result _ c.is_inside.ensures c.if-is_inside.false)) b
      c.begin-begun.ensures.begins)) c.begin-begun.ensures.begun) c.fail_on.ensures.ends;
  dead = λ f. absurd (let e : true ≡ false = sym f ∙ c.if-self.false in cc);
  begun = search rules;
  drawn = λ o. drawn_answer c.args.self.now c.fail_on.new.self c.begin-begun.new.self
      (λ (x : List ℕ). x ≡ c.args.self.now.session.writer.output ++ kexinit_packet c.args.self.now.session.side
      c.args.self.now.session.config.now (writing_at c.args.self.now.session.writer)
      (g.R.Rng.stream c.args.parts.now.rng)) c.begin-begun.result c.fail_on.result c.fail_on.ensures.result
      (ends_same c.begin-begun.result (record c.args.self.now { session = c.begin-begun.new.self }) c.fail_on.new.self
      c.fail_on.ensures.ends) (on_ok c.begin-begun.result _ _ (λ h. h.first) c.begin-begun.ensures.drawn);
  sends = wrote_answer _ _ c.args.self.now c.fail_on.new.self c.begin-begun.new.self c.begin-begun.result
      c.fail_on.result c.fail_on.ensures.result (ends_same c.begin-begun.result
      (record c.args.self.now { session = c.begin-begun.new.self }) c.fail_on.new.self c.fail_on.ensures.ends)
      (on_ok c.begin-begun.result _ _ (λ h. h.wrote) c.begin-begun.ensures.drawn);
  leaves = λ f. left_answer c.args.self.now c.fail_on.new.self c.begin-begun.new.self (λ (a b : List ℕ). b ≡ a)
      c.begin-begun.result c.fail_on.result c.fail_on.ensures.result
      (ends_rests c.begin-begun.result (record c.args.self.now { session = c.begin-begun.new.self }) c.fail_on.new.self
      c.fail_on.ensures.ends) (on_refusal c.begin-begun.result _ _
      (unsaid_left c.args.self.now.session c.begin-begun.new.self) c.begin-begun.ensures.unsaid);
  inside = search rules;
  memory = search rules;
}
