use Rattle.std.proofs.Common.{◌≡◌, ◌++◌, drop}
use Rattle.ssh_mux.specs.Summing.{channels_from}
use Rattle.ssh_mux.proofs.summing.push_channels.Given as goal

abbrev pub invariant-loop-channel : goal.invariant-loop-channel
invariant-loop-channel l = l.out.items ++ channels_from l.opener l.number (drop l.channel-index l.openers) l.others l.refusals
    ≡ l.fn.out.items ++ channels_from l.opener 0 l.openers l.others l.refusals
