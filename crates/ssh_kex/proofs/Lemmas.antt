-- What crates above cite: the lemmas of the laws, what a server presents, and what both machines' steps share.
-- Declares nothing.
pub use Rattle.ssh_kex.proofs.Drawn.{draws_none, draws_sent}
pub use Rattle.ssh_kex.proofs.Ended.{last_answers, last_done, last_refused_if}
pub use Rattle.ssh_kex.proofs.Excluding.{rows_exclude}
pub use Rattle.ssh_kex.proofs.Meeting.{ciphers_meet}
pub use Rattle.ssh_kex.proofs.KeyBytes.{digest_bytes_are, key_bytes, keys_are_well}
pub use Rattle.ssh_kex.proofs.Presenting.{is_presented}
pub use Rattle.ssh_kex.proofs.Refused.{reads_kexinit, refuses_names}
pub use Rattle.ssh_kex.proofs.Signatures.{canonical_again, canonical_once, not_canonical}
pub use Rattle.ssh_kex.proofs.Uncounted.{AnswersSmall, DeniesNone, memory_alone}
