use Rattle.ssh_aes.proofs.Rounding.{inverse_round_is, parts_are}
use Rattle.ssh_aes.proofs.rounds.inverse_round_of.Goals as goal

pub returns : goal.returns
returns c =
    let p = c.places_of-places.ensures in
    let n = parts_are _ _ c.rows_shifted_back.result _ _ _ p.first p.second c.by_places-nine.ensures in
    let t = parts_are _ _ c.rows_shifted_back.result _ _ _ p.first p.second c.by_places-thirteen.ensures in
    let e = parts_are _ _ c.rows_shifted_back.result _ _ _ p.first p.second c.by_places-eleven.ensures in
    let f = parts_are _ _ c.rows_shifted_back.result _ _ _ p.first p.second c.by_places-fourteen.ensures in
    inverse_round_is c.args.keys.now c.args.state.now _ _ _ _ _ _ _ _ _ c.args.round c.requires c.fits-keys c.fits-state c.rows_shifted_back.ensures n t e f c.next_row.ensures c.next_row-2.ensures c.next_row-3.ensures c.key_at.ensures
