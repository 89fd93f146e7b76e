use Rattle.std.proofs.Common.{◌∙◌}
use Rattle.ssh_kex.proofs.BitSizes.{digits_by_zeros}
use Rattle.ssh_kex.proofs.group.digits_of.Goals as goal

pub returns : goal.returns
returns c = c.from.ensures ∙ digits_by_zeros c.args.byte c.ranges.byte.fits
