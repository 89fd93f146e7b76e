use Rattle.std.proofs.Common.{rules, ◌≡◌, ◌++◌, ◌∷◌, [], length, slice_get, sym, ap, ◌∙◌, arith}
use Rattle.std.proofs.lemmas.Result.{err_from_is_err_and}
use Rattle.ssh_judge.proofs.Marking.{begins, continues, ends, first_breaks, item_at, later_breaks, lent_get}
use Rattle.ssh_judge.proofs.Sending.{first_sent, step_more}
use Rattle.ssh_judge.proofs.run.run_marks.Goals as goal

pub returns-in_err-first_mark-clause-broken : goal.returns-in_err-first_mark-clause-broken
returns-in_err-first_mark-clause-broken c = λ s f g.
    let p = err_from_is_err_and c.from_residual-in_err-first_mark.result c.from_residual-in_err-first_mark.ensures.1 in
    let n : c.deref.result.now ≡ c.args.transcript.now.sent = search rules in
    rw (p.1, p.2) (first_breaks c.args.setting.now c.args.wires.now c.args.transcript.now c.first.result c.in_ok-run.run' _ c.in_ok-run.ensures.first (ap (λ xs. slice_get xs 0) (sym n) ∙ sym c.first.ensures.value) c.in_err-first_mark.ensures.stops g)

pub loop-i-init : goal.loop-i-init
loop-i-init c = record {
  sent = first_sent c.push.new.self.items c.deref.result.now c.args.transcript.now.sent c.in_ok-first_mark.field-0 c.first.result (search rules) c.first.ensures.value c.in_ok-first_mark.ensures.sent
      (c.in_ok-push.ensures.items ∙ ap (λ xs. xs ++ c.in_ok-first_mark.field-0 ∷ []) c.new-marks.ensures.items);
  few = search rules;
  so_far = begins c.args.setting.now c.args.wires.now c.args.transcript.now c.push.new.self.items c.in_ok-first_mark.field-0 c.in_ok-run.run' c.in_ok-run.ensures.first c.in_ok-first_mark.ensures.begins
      (c.in_ok-push.ensures.items ∙ ap (λ xs. xs ++ c.in_ok-first_mark.field-0 ∷ []) c.new-marks.ensures.items);
}

pub loop-i-preserved : goal.loop-i-preserved
loop-i-preserved c = record {
  sent = step_more c.loop-i.marks.items c.push-in-loop-i.new.self.items c.deref-in-loop-i.result.now c.args.transcript.now.sent c.loop-i.i c.saturating_add-behind.result c.in_ok-mark_behind.field-0 c.get.result c.loop-i.invariant.sent (search rules) (search rules) c.get.ensures.lookup c.in_ok-mark_behind.ensures.sent c.in_ok-push-2.ensures.items;
  few = c.loop-i.invariant.few;
  so_far = continues c.args.setting.now c.args.wires.now c.args.transcript.now c.loop-i.i c.step-item.result c.loop-i.marks.items c.push-in-loop-i.new.self.items c.in_ok-mark_behind.field-0 c.loop-i.run c.mark_behind.new.self c.loop-i.invariant.so_far
      (item_at c.args.transcript.now.steps c.deref-step-items.result.now c.loop-i.i c.step-item.result (search rules) c.loop-i-test.true c.step-item.is) c.in_ok-mark_behind.ensures.goes_on c.loop-i.invariant.few c.in_ok-push-2.ensures.items;
}

pub returns-in_err-mark_behind-clause-broken : goal.returns-in_err-mark_behind-clause-broken
returns-in_err-mark_behind-clause-broken c = λ s f g.
    let p = err_from_is_err_and c.from_residual-in_err-mark_behind.result c.from_residual-in_err-mark_behind.ensures.1 in
    rw (p.1, p.2) (later_breaks c.args.setting.now c.args.wires.now c.args.transcript.now c.loop-i.i c.saturating_add-behind.result c.step-item.result c.loop-i.marks.items c.get.result c.loop-i.run _ c.loop-i.invariant.so_far c.loop-i.invariant.sent
    (item_at c.args.transcript.now.steps c.deref-step-items.result.now c.loop-i.i c.step-item.result (search rules) c.loop-i-test.true c.step-item.is) (search rules)
    (lent_get c.args.transcript.now.sent c.deref-in-loop-i.result.now c.saturating_add-behind.result c.get.result (search rules) c.get.ensures.lookup) c.in_err-mark_behind.ensures.stops c.loop-i.invariant.few f g)

pub returns-clause-run : goal.returns-clause-run
returns-clause-run c = λ s f g.
    let n : c.deref-step-items.result.now ≡ c.args.transcript.now.steps = search rules in
    let m = ap length n in
    let a = c.loop-i.auto in
    let t = c.loop-i-test.false in
    ends c.args.setting.now c.args.wires.now c.args.transcript.now c.loop-i.i c.loop-i.marks.items c.loop-i.run c.loop-i.invariant.so_far (omega arith) c.loop-i.invariant.sent g
