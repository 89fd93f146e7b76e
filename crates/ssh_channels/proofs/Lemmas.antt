-- What crates above cite: one direction of a channel, what it keeps at each move, what is sent, what an end's messages
-- cost it, how it comes to its end, that written messages are read again, and what a loop over payloads does. Declares
-- nothing.
pub use Rattle.ssh_channels.proofs.Ways.{Way, due, told_by}
pub use Rattle.ssh_channels.proofs.Joint.{Joint, fixed, joint, joint_first, joint_next, call_heard, received_gone, keeps_windows, comes_in_order, nothing_refused}
pub use Rattle.ssh_channels.proofs.Sending.{Each, IsTelling, behind_none, each_more, sent_is}
pub use Rattle.ssh_channels.proofs.Lowering.{hear_costs, opener_costs, other_costs, send_costs}
pub use Rattle.ssh_channels.proofs.FormatLaws.{read_again}
pub use Rattle.ssh_channels.proofs.Ending.{all_comes, all_ends, only_called}
pub use Rattle.ssh_channels.proofs.Receiving.{receives_next, refuses_next, refuses_so}
