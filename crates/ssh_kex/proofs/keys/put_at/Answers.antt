use Rattle.std.proofs.Common.{◌∙◌, ap, sym, arith, ◌+◌}
use Rattle.std.specs.Prelude.{◌++◌, take, length}
use Rattle.std.proofs.lemmas.Slice.{take-put_mid}
use Rattle.ssh_kex.proofs.keys.put_at.Goals as goal

pub returns : goal.returns
returns c =
    take-put_mid c.args.at _ c.args.bytes.now c.copy_from_slice.new.self _ (ap (λ x. c.args.at + length x) (sym c.copy_from_slice.ensures.after)) (let t = c.told-bytes in let r = c.requires in omega (arith, t, r))
    ∙ ap (λ x. take c.args.at c.args.bytes.now ++ x) c.copy_from_slice.ensures.after
