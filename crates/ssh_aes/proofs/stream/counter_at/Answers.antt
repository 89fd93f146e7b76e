use Rattle.std.proofs.Common.{refl}
use Rattle.ssh_aes.proofs.stream.counter_at.Goals as goal

pub returns : goal.returns
returns c = rw (c.spelled.ensures, c.from_be_bytes.ensures, c.from.ensures) refl
