use Rattle.std.proofs.Common.{◌≡◌, ◌∙◌, sym, true, false}
use Rattle.std.specs.Str.{is_utf8}
use Rattle.ssh_wire.proofs.NameLaws.{name_utf8}
use Rattle.ssh_wire.proofs.name_list.admit.Goals as goal

pub unreachable-requires : goal.unreachable-requires
unreachable-requires c =
    let named : is_utf8 c.args.name.now ≡ true = name_utf8 c.args.name.now (sym c.if-not-is_ascii_name.ensures) in
    let none : false ≡ is_utf8 c.args.name.now = c.in_default.ensures.some in
    let both : false ≡ true = none ∙ named in
    cc
