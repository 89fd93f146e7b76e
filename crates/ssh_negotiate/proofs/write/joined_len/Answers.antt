use Rattle.std.proofs.Common.{◌≡◌, ◌+◌, ◌∙◌, length, map, take, sym, ap, arith}
use Rattle.std.proofs.lemmas.List.{get_or-map, length-map}
use Rattle.ssh_wire.specs.Forms.{joined_names}
use Rattle.ssh_wire.proofs.Lemmas.{joined_front, joined_size}
use Rattle.ssh_negotiate.proofs.write.joined_len.Given.{Over}
use Rattle.ssh_negotiate.proofs.write.joined_len.Goals as goal

sum_is : (g : Over) (c : goal.After-name_len-size g) → c.loop-i.size + c.name_len-size.result ≡ length (joined_names (take (c.loop-i.i + 1) (map g.A.AsName.text c.args.names.now)))
sum_is g c =
    let text = g.A.AsName.text in
    let name = c.index-names-i.result in
    joined_size (map text c.args.names.now) c.loop-i.i (text name) c.as_name.result.now c.loop-i.size c.name_len-size.result
    (omega (arith, length-map c.args.names.now text, c.loop-i-test.true))
    (c.as_name.ensures ∙ (ap text c.index-names-i.is ∙ sym (get_or-map text c.args.names.now c.loop-i.i name (text name) c.loop-i-test.true)))
    c.loop-i.invariant c.name_len-size.ensures

pub overflow_add-size : goal.overflow_add-size
overflow_add-size g c = omega (arith, sum_is g c, joined_front (map g.A.AsName.text c.args.names.now) (c.loop-i.i + 1), c.requires)

pub loop-i-preserved : goal.loop-i-preserved
loop-i-preserved g c = sum_is g c
