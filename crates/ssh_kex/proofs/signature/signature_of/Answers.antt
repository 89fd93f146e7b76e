use Rattle.std.proofs.Common.{◌∙◌, ap}
use Rattle.std.specs.Prelude.{◌++◌}
use Rattle.ssh_wire.specs.Forms.{mpint}
use Rattle.ssh_kex.proofs.Parting.{scalars_short}
use Rattle.ssh_kex.proofs.signature.signature_of.Goals as goal

pub put_string-requires-2 : goal.put_string-requires-2
put_string-requires-2 c =
    scalars_short c.args.r.now c.args.s.now _ c.requires.scalars
    (c.as_slice.ensures.value ∙ (c.in_ok-encode_mpint-2.ensures.ok ∙ (ap (λ x. x ++ mpint c.args.s.now) c.in_ok-encode_mpint.ensures.ok
    ∙ ap (λ x. (x ++ mpint c.args.r.now) ++ mpint c.args.s.now) c.new-scalars.ensures.items)))
