use Rattle.ssh_aes.proofs.Rounding.{round_is, parts_are}
use Rattle.ssh_aes.proofs.rounds.round_of.Goals as goal

pub returns : goal.returns
returns c =
    let p = c.places_of-places.ensures in
    let o = parts_are _ _ c.rows_shifted.result _ _ _ p.first p.second c.by_places-once.ensures in
    let t = parts_are _ _ c.rows_shifted.result _ _ _ p.first p.second c.by_places-twice.ensures in
    round_is c.args.keys.now c.args.state.now _ _ _ _ _ _ _ c.args.round c.requires c.fits-keys c.fits-state c.rows_shifted.ensures o t c.next_row.ensures c.row_before.ensures c.next_row-2.ensures c.key_at.ensures
