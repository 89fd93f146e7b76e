use Rattle.std.proofs.Common.{◌∙◌, ap, ◌++◌, [], ◌∷◌, rules}
use Rattle.ssh_negotiate.specs.Parts.{with_lists}
use Rattle.ssh_negotiate.proofs.Built.{payload_built}
use Rattle.ssh_negotiate.proofs.write.kexinit_payload.Goals as goal

pub returns-clause-ok : goal.returns-clause-ok
returns-clause-ok c =
    payload_built (with_lists c.args.prefs.now c.args.kex.now c.args.hosts.now) c.args.cookie.now
    c.put_u8.new.out.items c.extend_from_slice.new.self.items c.put_list.new.out.items c.put_list-2.new.out.items c.put_twice.new.out.items c.put_twice-2.new.out.items c.put_twice-3.new.out.items c.put_end.new.out.items
    (c.in_ok-put_u8.ensures.ok ∙ ap (λ l. l ++ 20 ∷ []) c.new-out.ensures.items) c.in_ok-extend_from_slice.ensures.items c.in_ok-put_list.ensures.ok c.in_ok-put_list-2.ensures.ok
    (search rules) (search rules) (search rules)
    c.in_ok-put_end.ensures.ok
