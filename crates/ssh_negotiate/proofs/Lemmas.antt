-- What crates above cite: the lemmas of the laws, and of readings that came to names. Declares nothing.
pub use Rattle.ssh_negotiate.proofs.Agree.{names_agree}
pub use Rattle.ssh_negotiate.proofs.Choices.{one_choice, some_found}
pub use Rattle.ssh_negotiate.proofs.Flags.{follows_none, read_flags, reads_alike}
pub use Rattle.ssh_negotiate.proofs.Picked.{In, IsOwnHost, bind_ok, field_ok, in_any, in_append, in_distinct, in_filter, in_flat_map, in_map, own_host, rest_ok}
pub use Rattle.ssh_negotiate.proofs.Written.{read_written, short_kexinit}
