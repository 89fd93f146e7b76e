use Rattle.std.proofs.Common.{◌∙◌, ◌++◌, ◌∷◌, [], ap, arith, refl, sym, take}
use Rattle.std.proofs.lemmas.Result.{err_from_is_err_and}
use Rattle.uses.proofs.Granting.{next_message, read_is, read_refuses}
use Rattle.uses.proofs.granted.read_messages.Goals as goal

pub loop-payload-preserved : goal.loop-payload-preserved
loop-payload-preserved c =
    let inv = c.loop-payload.invariant in
    record {
      within = let more = c.loop-payload-test.true in omega arith;
      so_far = λ messages are e.
          let next = next_message messages c.args.payloads.now c.args.payloads.now c.loop-payload.payload-index c.as_slice.result.now c.payload-item.result are e refl c.loop-payload-test.true c.payload-item.is c.as_slice.ensures in
          let is = read_is next.message c.in_ok-message.message (c.in_ok-message.ensures.again next.message next.is next.spelled) in
          c.in_ok-push.ensures.items ∙ (ap (λ l. l ++ c.in_ok-message.message ∷ []) (inv.so_far messages are e) ∙ (ap (λ m. take c.loop-payload.payload-index messages ++ m ∷ []) is ∙ sym next.more));
    }

pub returns-in_err-message : goal.returns-in_err-message
returns-in_err-message c = record {
  again = λ messages are e.
      let p = err_from_is_err_and c.from_residual.result c.from_residual.ensures.1 in
      let next = next_message messages c.args.payloads.now c.args.payloads.now c.loop-payload.payload-index c.as_slice.result.now c.payload-item.result are e refl c.loop-payload-test.true c.payload-item.is c.as_slice.ensures in
      rw (p.1, p.2) (tt, read_refuses next.message _ (c.in_err-message.ensures.again next.message next.is next.spelled));
}
