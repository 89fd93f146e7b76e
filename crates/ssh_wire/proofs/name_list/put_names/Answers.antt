use Rattle.std.proofs.Common.{◌≡◌, ◌+◌, ◌≤◌, ◌∙◌, nat_lt, false, true, length, take, vec_len, vec_capacity, ap, refl, arith, length-append}
use Rattle.ssh_wire.specs.Forms.{joined_names}
use Rattle.ssh_wire.specs.Naming.{behind_comma}
use Rattle.ssh_wire.proofs.NameLaws.{joined_text, joined_size, joined_front}
use Rattle.ssh_wire.proofs.name_list.put_names.Goals as goal

pub loop-i-preserved : goal.loop-i-preserved
loop-i-preserved c = record {
  text = joined_text c.args.names.now c.loop-i.i c.index-names-i.result c.as_str.result.now c.args.out.now.items c.loop-i.out.items c.put_name.new.out.items
      c.loop-i-test.true (c.as_str.ensures ∙ c.index-names-i.is) c.loop-i.invariant.text c.in_ok-put_name.ensures.ok;
  capacity = omega arith;
}

pub returns-in_err-put_name-clause-ready : goal.returns-in_err-put_name-clause-ready
returns-in_err-put_name-clause-ready c = λ fits.
    let names = c.args.names.now in
    let i = c.loop-i.i in
    let sizes = joined_size names i c.index-names-i.result c.as_str.result.now (length (joined_names (take i names))) (length (behind_comma (nat_lt 0 i) c.as_str.result.now))
    c.loop-i-test.true (c.as_str.ensures ∙ c.index-names-i.is) refl refl in
    let front = joined_front names (i + 1) in
    let stands : length c.loop-i.out.items ≡ length c.args.out.now.items + length (joined_names (take i names)) = ap length c.loop-i.invariant.text ∙ length-append c.args.out.now.items (joined_names (take i names)) in
    let room : vec_len c.loop-i.out + length (behind_comma (nat_lt 0 i) c.as_str.result.now) ≤ vec_capacity c.loop-i.out =
    omega (arith, fits, sizes, front, stands, c.loop-i.invariant.capacity, c.loop-i.out.ok.0, c.args.out.now.ok.0) in
    let apart : false ≡ true = c.in_err-put_name.ensures.ready room in
    absurd (cc)
