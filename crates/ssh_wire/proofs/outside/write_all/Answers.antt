use Rattle.std.proofs.Common.{◌≡◌, ◌-◌, length, take, drop, arith, length-drop, ap, ◌∙◌}
use Rattle.std.proofs.lemmas.List.{take_rest}
use Rattle.ssh_wire.proofs.Written.{front_longer}
use Rattle.ssh_wire.proofs.outside.write_all.Goals as goal

pub loop-written-preserved : goal.loop-written-preserved
loop-written-preserved g c =
    let bytes = c.args.bytes.now in
    let written = c.loop-written.written in
    let rest : take (length bytes - written) (drop written bytes) ≡ drop written bytes = take_rest bytes written in
    let left : length (take (length bytes - written) (drop written bytes)) ≡ length bytes - written = ap length rest ∙ length-drop written bytes in
    record {
      within = omega (arith, left, c.in-Ok.ensures.part.0);
      gone = front_longer bytes (take (length bytes - written) (drop written bytes)) written c.in-Ok.n _ _ _ rest c.loop-written.invariant.gone c.in-Ok.ensures.appended;
      count = c.in-Ok.ensures.unfailed ∙ c.loop-written.invariant.count;
    }
