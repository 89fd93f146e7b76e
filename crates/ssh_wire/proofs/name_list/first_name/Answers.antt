use Rattle.std.proofs.Common.{◌≡◌, ◌+◌, ◌-◌, ◌∷◌, ◌∙◌, sym, ap, length, take, drop, arith}
use Rattle.std.specs.List.{slice_split}
use Rattle.std.proofs.lemmas.Grind.{common_steps}
use Rattle.ssh_wire.specs.Names.{is_comma}
use Rattle.ssh_wire.proofs.NameLaws.{split_at_comma, split_no_comma}
use Rattle.ssh_wire.proofs.name_list.first_name.Goals as goal

pub returns-in-Some-clause-parts : goal.returns-in-Some-clause-parts
returns-in-Some-clause-parts c =
    let whole : take (length c.args.text.now - (c.in-Some.at + 1)) (drop (c.in-Some.at + 1) c.args.text.now) ≡ drop (c.in-Some.at + 1) c.args.text.now = grind (arith, common_steps) in
    split_at_comma c.args.text.now c.in-Some.at (sym c.comma_in.ensures ∙ c.in-Some.is)
    ∙ ap (λ l. take c.in-Some.at c.args.text.now ∷ slice_split is_comma l) (sym whole)

pub returns-in-None-clause-parts : goal.returns-in-None-clause-parts
returns-in-None-clause-parts c = split_no_comma c.args.text.now (sym c.comma_in.ensures ∙ c.in-None.is)
