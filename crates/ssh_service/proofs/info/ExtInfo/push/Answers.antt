use Rattle.std.proofs.Common.{◌≡◌, ◌≤◌, ◌<◌, length, arith, ap, subst, sym}
use Rattle.ssh_service.specs.Extensions.{AreExtensions, IsExtension, longest_value, most_extensions}
use Rattle.ssh_service.proofs.FieldReads.{one_more}
use Rattle.ssh_service.proofs.info.ExtInfo.push.Goals as goal

pushed : goal.invariant_of-self-2
pushed c =
    let same : length c.in_ok-value.value ≡ length c.args.value.now = ap length c.in_ok-value.ensures in
    let short : length c.in_ok-value.value ≤ longest_value = omega arith in
    let few : length c.self.inside.0.items < most_extensions = omega arith in
    let is : IsExtension (record { name = c.args.name; value = c.in_ok-value.value }) = record { name = c.as_str-text.ensures.name; value = short } in
    subst AreExtensions (sym c.in_ok-push.ensures.items) (one_more c.self.inside.0.items (record { name = c.args.name; value = c.in_ok-value.value }) c.self.invariant few is)

pub invariant_of-self-2 : goal.invariant_of-self-2
invariant_of-self-2 = pushed

pub returns-clause-each : goal.returns-clause-each
returns-clause-each c = pushed c
