use Rattle.std.proofs.Common.{map, ◌++◌, rules}
use Rattle.std.specs.Prelude.{filter}
use Rattle.ssh_wire.specs.Algorithms.{algorithm_name, certificate_name}
use Rattle.ssh_negotiate.specs.Advertised.{certificate_names, some_fits}
use Rattle.ssh_negotiate.proofs.Telling.{server_told}
use Rattle.ssh_negotiate.proofs.limits.are_server_hosts_listed.Goals as goal

pub returns : goal.returns
returns c =
    c.is_listed.ensures (map certificate_name (certificate_names c.args.preferred.now c.args.hosts.now.certificates c.args.hosts.now.keys) ++ map algorithm_name (filter (some_fits c.args.hosts.now.keys) c.args.preferred.now))
    (server_told c.nothing-told.result c.add_held.new.self c.add_fitting.new.self c.args.preferred.now c.as_slice.result.now c.args.hosts.now.certificates c.as_slice-2.result.now c.as_slice-3.result.now c.args.hosts.now.keys (search rules) (search rules) (search rules) c.add_held.ensures c.add_fitting.ensures c.nothing-told.ensures)
