use Rattle.std.proofs.Common.{◌≡◌, ◌+◌, ◌*◌, ◌/◌, ◌%◌, ap, ◌∙◌, arith}
use lib.Lanes.{digits_l}
use Rattle.ssh_aes.proofs.Divided.{bytes_by_division}
use Rattle.ssh_aes.proofs.multiples.lanes.Goals as goal

pub returns : goal.returns
returns c =
    let e : c.args.a % 18446744073709551616 + 18446744073709551616 * (c.args.a / 18446744073709551616 + 0) ≡ c.args.a = omega arith in
    ap (digits_l 256 16) e ∙ bytes_by_division c.args.a
