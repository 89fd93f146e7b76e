use Rattle.std.proofs.Common.{refl}
use Rattle.ssh_aes.proofs.Spelled.{spelled_is}
use Rattle.ssh_aes.proofs.stream.spelled.Goals as goal

pub returns : goal.returns
returns c = spelled_is c.args.number _ _ c.ranges.number.fits refl refl
