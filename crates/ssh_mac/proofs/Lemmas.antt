-- What crates above cite: the lemmas of the laws. Declares nothing.
pub use Rattle.ssh_mac.proofs.TagLaws.{digests_have_length, tags_are_short, tags_have_length, own_tag_taken, taken_is_tag}
