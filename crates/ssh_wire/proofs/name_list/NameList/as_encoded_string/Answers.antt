use Rattle.std.proofs.Common.{◌≡◌, ◌<◌, ◌∙◌, List, [], ℕ, length, get_or, ap, subst}
use Rattle.std.specs.String.{string_bytes}
use Rattle.ssh_wire.proofs.NameLaws.{joined_text}
use Rattle.ssh_wire.proofs.name_list.NameList.as_encoded_string.Goals as goal

pub loop-i-preserved : goal.loop-i-preserved
loop-i-preserved c =
    let items : c.deref-name-items.result.now ≡ c.args.self.now.0.items = c.deref-name-items.ensures.value in
    let P : List (List ℕ) → Type 0 = λ l. c.loop-i.i < length l in
    joined_text c.args.self.now.0.items c.loop-i.i c.name-item.result c.as_str.result.now [] (string_bytes c.loop-i.text) (string_bytes c.push_name.new.text)
    (subst P items c.loop-i-test.true) (c.as_str.ensures ∙ (c.name-item.is ∙ ap (λ l. get_or l c.loop-i.i c.name-item.result) items)) c.loop-i.invariant c.in_ok-push_name.ensures.ok
