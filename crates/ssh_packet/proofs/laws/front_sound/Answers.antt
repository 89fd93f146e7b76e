use Rattle.ssh_packet.proofs.Sound.{front_sound}
use Rattle.ssh_packet.proofs.laws.front_sound.Goals as goal

pub returns : goal.returns
returns c sealing number bytes rest item b e = let h = front_sound sealing number bytes rest item b e in (h.admissible, h.bytes_are)
