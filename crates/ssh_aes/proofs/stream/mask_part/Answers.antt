use Rattle.std.proofs.Common.{◌≡◌, length, arith, refl, sym, ◌∙◌}
use Rattle.std.proofs.lemmas.Bool.{eqb-true}
use Rattle.ssh_aes.specs.Modes.{counter_text}
use Rattle.ssh_aes.proofs.Streams.{counter_text-none, masked_byte-is}
use Rattle.ssh_aes.proofs.Written.{IsWritten-none, IsWritten-more, IsWritten-all}
use Rattle.ssh_aes.proofs.stream.mask_part.Goals as goal

pub returns-then-is_empty : goal.returns-then-is_empty
returns-then-is_empty c = counter_text-none c.args.aes.now c.args.iv.now c.args.place c.args.bytes.now (eqb-true (length c.args.bytes.now) 0 (sym c.is_empty.ensures ∙ c.if-is_empty.true))

pub loop-i-init : goal.loop-i-init
loop-i-init c = IsWritten-none _ _

pub loop-i-preserved : goal.loop-i-preserved
loop-i-preserved c =
    IsWritten-more _ _ _ _ _ (omega arith)
    (masked_byte-is c.args.aes.now c.args.iv.now c.args.place c.loop-i.i c.loop-i.bytes c.args.bytes.now _ (omega arith) (omega arith) c.stream_at-block.ensures (c.loop-i.invariant.rest c.loop-i.i (omega arith)))
    c.loop-i.invariant

pub returns : goal.returns
unfolding counter_text
returns c =
    let e : c.loop-i.i ≡ length c.args.bytes.now = omega arith in
    IsWritten-all _ _ _ (length c.args.bytes.now) refl (rw e at c.loop-i.invariant)
