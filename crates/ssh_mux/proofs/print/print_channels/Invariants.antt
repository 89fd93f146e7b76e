use Rattle.std.proofs.Common.{◌≡◌, take}
use Rattle.ssh_mux.specs.Printing.{channels_text}
use Rattle.ssh_mux.proofs.print.print_channels.Given as goal

abbrev pub invariant-loop-channel : goal.invariant-loop-channel
invariant-loop-channel l = l.out.items ≡ channels_text (take l.channel-index l.channels)
