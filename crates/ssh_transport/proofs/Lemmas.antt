-- What crates above cite: what the parts keep over calls, that they say of themselves as they were before what they say
-- later, and that pieces join. Declares nothing.
pub use Rattle.ssh_transport.proofs.Stored.{taken_more}
pub use Rattle.ssh_transport.proofs.Parts.{agreement_same, agreement_after, hosts_same, hosts_after, groups_same, groups_after, parts_same}
pub use Rattle.ssh_transport.proofs.Weaker.{Weaker, kept_weaker, steps_weaker}
pub use Rattle.ssh_transport.proofs.Denying.{Denying, asking_still, input_still, kept_denying, kept_untrusting, piece_still, rekeyed_still, submitted_still}
pub use Rattle.ssh_transport.proofs.Taking.{input_more, silent_more}
pub use Rattle.ssh_transport.proofs.Answered.{tests_same}
pub use Rattle.ssh_transport.proofs.Coming.{answered_new, comes_fed, comes_join, comes_rekeyed, comes_same, comes_still, comes_submitted}
pub use Rattle.ssh_transport.proofs.Drawing.{on_refusal}
pub use Rattle.ssh_transport.proofs.Drawn.{drawn_fed, drawn_join, drawn_new, drawn_rekeyed, drawn_same, drawn_still, drawn_submitted, drawn_taken, drawn_wire}
pub use Rattle.ssh_transport.proofs.Kexes.{never_skips}
