use Rattle.std.proofs.Common.{ℕ, refl, slice_index}
use Rattle.ssh_aes.proofs.Holding.{substituted_is}
use Rattle.ssh_aes.proofs.keys.substituted.Goals as goal

pub returns : goal.returns
returns c =
    let p = c.places_of.ensures in
    let w = λ (i : ℕ). slice_index c.args.word.now i in
    substituted_is (w 0) (w 1) (w 2) (w 3) _ _ _ _ _ _ (c.fits-word 0) (c.fits-word 1) (c.fits-word 2) (c.fits-word 3) refl c.by_halves.ensures p.first p.second c.by_places.ensures c.by_halves-2.ensures
