-- What crates above cite: readings, good packets one more and one less, where a cursor stands, and runs one step
-- longer. Declares nothing.
pub use Rattle.ssh_record.proofs.Readings.{front_all, front_none, front_cons, front_join, front_length, front_same, reads_fronts, reads_less, entries_one, reads_wider, begins_outgoing, entries_wider, end_of_nothing, AreWider, Begins, Wider, padded_wider}
pub use Rattle.ssh_record.proofs.Good.{wire_front, good_less, good_fronts, wire_good, bad_one, bad_not_good}
pub use Rattle.ssh_record.proofs.GoodMore.{NextGood, good_more}
pub use Rattle.ssh_record.proofs.OneList.{reads_one, blocks_one, next_one, no_next, exchanges_one}
pub use Rattle.ssh_record.proofs.OneMarks.{whole_one, sent_one, runs_one, same_pairs}
pub use Rattle.ssh_record.proofs.OneAnswer.{names_one, runs_less}
pub use Rattle.ssh_record.proofs.RunFronts.{get_of_take, get_below, get_in_take, map_take, take_less, front_take, front_drop, reads_within, read_sent, kexinits_front, moment_at, run_front}
pub use Rattle.ssh_record.proofs.WholeBlocks.{block_until, cut_reads, cut_entries, openings_enough, whole_block}
pub use Rattle.ssh_record.proofs.Widening.{wire_wider, marked_wider, run_wider, lies_wider}
pub use Rattle.ssh_record.proofs.Growing.{get_more, get_last, run_more}
pub use Rattle.ssh_record.proofs.LastStep.{moment_one, moments_one, split_last, run_last}
pub use Rattle.ssh_record.proofs.Cursors.{EndsBehind, StandsAt, ReadsAt, cursor_reads, cursor_whole, none_yet}
pub use Rattle.ssh_rules.proofs.Lemmas.{payloads_join}
pub use Rattle.ssh_record.proofs.LinkAccepted.{effects_length}
