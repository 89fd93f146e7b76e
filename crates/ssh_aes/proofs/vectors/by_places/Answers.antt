use Rattle.std.proofs.Common.{refl}
use Rattle.ssh_aes.specs.Reads.{read_parts}
use Rattle.ssh_aes.proofs.vectors.by_places.Goals as goal

pub returns : goal.returns
unfolding read_parts
returns c = rw (c.entries.ensures, c.entries-2.ensures) refl
