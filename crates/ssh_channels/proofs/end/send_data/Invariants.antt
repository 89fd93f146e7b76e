use Rattle.std.proofs.Common.{◌≡◌, ℕ, ◌-◌, ◌≤◌, ◌<◌, ◌++◌, List, length, min, take, drop, true}
use Rattle.ssh_channels.specs.Ends.{IsSound, can_send}
use Rattle.ssh_channels.proofs.Pumping.{SentSoFar}
use Rattle.ssh_channels.proofs.end.send_data.Given as goal

abbrev pub invariant-loop-end : goal.invariant-loop-end
invariant-loop-end l = record {
  so_far : SentSoFar l.fn.peer l.fn.end l.fn.out.items l.end l.out.items;
  until : l.until ≡ min l.fn.end.granted (length l.fn.end.written);
  most : l.most ≡ min 32768 l.fn.end.largest;
  some : 0 < l.fn.end.largest;
  can : can_send l.fn.end ≡ true;
  reached : l.end.gone ≤ l.until;
}

abbrev pub decreases-loop-end : goal.decreases-loop-end
decreases-loop-end l = l.until - l.end.gone
