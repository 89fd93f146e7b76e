use Rattle.std.proofs.Common.{◌≡◌, ◌+◌, ◌∙◌, length, take, arith}
use Rattle.ssh_wire.specs.Forms.{joined_names}
use Rattle.ssh_wire.proofs.NameLaws.{joined_size, joined_front}
use Rattle.ssh_wire.proofs.name_list.joined_len.Goals as goal

sum_is : (c : goal.After-name_len-size) → c.loop-i.size + c.name_len-size.result ≡ length (joined_names (take (c.loop-i.i + 1) c.args.names.now))
sum_is c =
    joined_size c.args.names.now c.loop-i.i c.index-names-i.result c.as_str.result.now c.loop-i.size c.name_len-size.result
    c.loop-i-test.true (c.as_str.ensures ∙ c.index-names-i.is) c.loop-i.invariant c.name_len-size.ensures

pub overflow_add-size : goal.overflow_add-size
overflow_add-size c = omega (arith, sum_is c, joined_front c.args.names.now (c.loop-i.i + 1), c.requires)

pub loop-i-preserved : goal.loop-i-preserved
loop-i-preserved c = sum_is c
