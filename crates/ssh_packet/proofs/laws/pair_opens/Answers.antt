use Rattle.std.proofs.Common.{◌≡◌, subst}
use Rattle.ssh_packet.proofs.Fronts.{opens_again}
use Rattle.ssh_packet.specs.Front.{tag_for, text_in, opened_past}
use Rattle.ssh_packet.specs.Sealing.{Sealing, moved_past}
use Rattle.ssh_packet.proofs.laws.pair_opens.Goals as goal

pub returns : goal.returns
returns g c s o number text packet tag same b h l e =
    let P : Sealing → Type 0 = λ x. (tag ≡ tag_for x number packet) × (text_in x packet ≡ text) × (opened_past x packet ≡ moved_past (g.S.SealingKey.sealing s) text) in
    subst P same (opens_again (g.S.SealingKey.sealing s) number text packet tag b h l e)
