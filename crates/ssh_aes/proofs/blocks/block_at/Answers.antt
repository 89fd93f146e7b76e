use Rattle.std.proofs.Common.{◌≡◌, ◌+◌, ◌-◌, take, drop, arith, sym, ap, ◌∙◌}
use Rattle.std.proofs.lemmas.List.{length-drop}
use Rattle.ssh_aes.proofs.Running.{take-block, AreOctets-drop}
use Rattle.ssh_aes.proofs.blocks.block_at.Goals as goal

pub returns-clause-whole : goal.returns-clause-whole
returns-clause-whole c =
    let e : c.args.at + 16 - c.args.at ≡ 16 = omega arith in
    c.copy_from_slice.ensures.after ∙ ap (λ n. take n (drop c.args.at c.args.bytes.now)) e ∙ sym (take-block (drop c.args.at c.args.bytes.now) (AreOctets-drop c.args.at c.args.bytes.now (λ i. omega (arith, c.type_inv.bytes i))) (omega (arith, length-drop c.args.at c.args.bytes.now)))
