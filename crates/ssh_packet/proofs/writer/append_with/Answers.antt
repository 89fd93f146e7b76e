use Rattle.std.proofs.Common.{◌++◌, inr, ap, refl, ◌∙◌}
use Rattle.ssh_packet.proofs.writer.append_with.Goals as goal

pub returns-in-Err-clause-err : goal.returns-in-Err-clause-err
returns-in-Err-clause-err g c =
    let more = c.requires.appends _ _ _ c.call_with.ensures in
    let before = c.in_ok-extend_from_slice.ensures.items in
    inr (more.0, _, (_, _, before, c.in-Err.ensures, more.1 ∙ ap (λ o. o ++ more.0) before, refl))

pub returns-clause-ok : goal.returns-clause-ok
returns-clause-ok g c =
    let more = c.requires.appends _ _ _ c.call_with.ensures in
    let before = c.in_ok-extend_from_slice.ensures.items in
    let made = more.1 ∙ ap (λ o. o ++ more.0) before in
    (more.0, (_, _, before, c.in_default.ensures, made, refl), made)
