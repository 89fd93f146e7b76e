use Rattle.std.proofs.Common.{◌∙◌, map, sym, ap, arith}
use Rattle.std.proofs.lemmas.List.{get_or-map, length-map}
use Rattle.ssh_wire.proofs.Lemmas.{joined_text}
use Rattle.ssh_negotiate.proofs.write.put_names.Goals as goal

pub loop-i-preserved : goal.loop-i-preserved
loop-i-preserved g c =
    let text = g.A.AsName.text in
    let name = c.index-names-i.result in
    joined_text (map text c.args.names.now) c.loop-i.i (text name) c.as_name.result.now c.args.out.now.items c.loop-i.out.items c.put_name.new.out.items
    (omega (arith, length-map c.args.names.now text, c.loop-i-test.true))
    (c.as_name.ensures ∙ (ap text c.index-names-i.is ∙ sym (get_or-map text c.args.names.now c.loop-i.i name (text name) c.loop-i-test.true)))
    c.loop-i.invariant c.in_ok-put_name.ensures.ok
