use Rattle.ssh_aes.proofs.Finding.{low_places, high_places, both_places, first_index_places, second_index_places, firsts_are, seconds_are, first_places, second_places}
use Rattle.ssh_aes.proofs.vectors.places_of.Goals as goal

pub entries-ratio-requires : goal.entries-ratio-requires
entries-ratio-requires c = low_places c.args.bytes.now c.told-bytes

pub entries-requires : goal.entries-requires
entries-requires c = high_places c.args.bytes.now c.told-bytes c.fits-bytes

pub entries-requires-2 : goal.entries-requires-2
entries-requires-2 c = both_places c.args.bytes.now c.told-bytes c.fits-bytes

pub entries-requires-3 : goal.entries-requires-3
entries-requires-3 c = first_index_places c.args.bytes.now _ _ c.told-bytes c.fits-bytes c.entries.ensures c.entries-ratio.ensures

pub entries-requires-4 : goal.entries-requires-4
entries-requires-4 c = second_index_places c.args.bytes.now _ _ c.told-bytes c.fits-bytes c.entries-2.ensures c.entries-ratio.ensures

pub returns-clause-first : goal.returns-clause-first
returns-clause-first c = firsts_are c.args.bytes.now _ _ _ c.told-bytes c.entries.ensures c.entries-ratio.ensures c.entries-3.ensures

pub returns-clause-second : goal.returns-clause-second
returns-clause-second c = seconds_are c.args.bytes.now _ _ _ c.told-bytes c.entries-2.ensures c.entries-ratio.ensures c.entries-4.ensures

pub returns-clause-first_places : goal.returns-clause-first_places
returns-clause-first_places c = first_places c.args.bytes.now _ c.fits-bytes (firsts_are c.args.bytes.now _ _ _ c.told-bytes c.entries.ensures c.entries-ratio.ensures c.entries-3.ensures)

pub returns-clause-second_places : goal.returns-clause-second_places
returns-clause-second_places c = second_places c.args.bytes.now _ c.fits-bytes (seconds_are c.args.bytes.now _ _ _ c.told-bytes c.entries-2.ensures c.entries-ratio.ensures c.entries-4.ensures)
