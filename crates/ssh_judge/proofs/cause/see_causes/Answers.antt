use Rattle.std.proofs.Common.{refl, arith}
use Rattle.ssh_judge.proofs.Causes.{seen_all, seen_more}
use Rattle.ssh_judge.proofs.cause.see_causes.Goals as goal

pub loop-k-preserved : goal.loop-k-preserved
loop-k-preserved c = record {
  seen = seen_more c.args.step.now c.args.half.now c.loop-k.half _ c.loop-k.k c.has_own_cause-has_cause.result c.loop-k.invariant.seen c.has_own_cause-has_cause.ensures refl refl refl refl refl c.in_ok-push.ensures.items;
  idle = λ l. (let t = c.loop-k-test.true in let f = c.loop-k.invariant.seen.from in omega (arith, l, t, f));
}

pub returns : goal.returns
returns c =
    let n = c.len-k.ensures in
    let a = c.loop-k.auto in
    seen_all c.args.step.now c.args.half.now c.loop-k.half c.loop-k.k c.loop-k.invariant.seen c.loop-k-test.false (λ l. omega arith) c.loop-k.invariant.idle
