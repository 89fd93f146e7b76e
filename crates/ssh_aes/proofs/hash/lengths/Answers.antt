use Rattle.std.proofs.Common.{◌≡◌, ◌*◌, ◌%◌, ◌^◌, ◌++◌, arith, ap, ◌∙◌}
use Rattle.std.specs.Int.{w64, to_be_bytes}
use Rattle.ssh_aes.proofs.hash.lengths.Goals as goal

pub returns : goal.returns
returns c =
    let e : 8 * c.args.aad ≡ 8 * c.args.aad % 2 ^ 64 = omega arith in
    let f : 8 * c.args.text ≡ 8 * c.args.text % 2 ^ 64 = omega arith in
    rw (c.to_be_bytes-a.ensures, c.to_be_bytes-t.ensures) (ap (λ x. to_be_bytes w64 x ++ to_be_bytes w64 (8 * c.args.text)) e ∙ ap (λ x. to_be_bytes w64 (8 * c.args.aad % 2 ^ 64) ++ to_be_bytes w64 x) f)
