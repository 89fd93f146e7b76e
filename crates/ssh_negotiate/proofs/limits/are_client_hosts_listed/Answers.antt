use Rattle.std.proofs.Common.{[], map, ◌++◌}
use Rattle.ssh_wire.specs.Algorithms.{algorithm_name, certificate_name}
use Rattle.ssh_negotiate.proofs.limits.are_client_hosts_listed.Goals as goal

pub returns : goal.returns
returns c =
    c.is_listed.ensures (map certificate_name c.args.certificates.now ++ map algorithm_name c.args.keys.now)
    (c.add_keys.ensures (map certificate_name c.args.certificates.now) (c.add_certificates.ensures [] c.nothing-told.ensures))
