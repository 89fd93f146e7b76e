use Rattle.ssh_aes.proofs.Finding.{low_places, high_places, halves_are}
use Rattle.ssh_aes.proofs.vectors.by_halves.Goals as goal

pub entries-requires : goal.entries-requires
entries-requires c = low_places c.args.bytes.now c.told-bytes

pub entries-requires-2 : goal.entries-requires-2
entries-requires-2 c = high_places c.args.bytes.now c.told-bytes c.fits-bytes

pub returns : goal.returns
returns c = halves_are _ _ c.args.bytes.now _ _ c.told-bytes c.entries.ensures c.entries-2.ensures
