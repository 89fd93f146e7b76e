use Rattle.ssh_aes.proofs.Rounding.{last_round_is, parts_are}
use Rattle.ssh_aes.proofs.rounds.last_round_of.Goals as goal

pub returns : goal.returns
returns c =
    let p = c.places_of-places.ensures in
    let o = parts_are _ _ c.rows_shifted.result _ _ _ p.first p.second c.by_places-once.ensures in
    last_round_is c.args.keys.now c.args.state.now _ _ _ _ c.args.round c.requires c.fits-keys c.fits-state c.rows_shifted.ensures o c.key_at.ensures c.by_halves-next.ensures
