use Rattle.std.proofs.Common.{[], map, filter, take}
use Rattle.std.specs.List.{flat_map}
use Rattle.ssh_wire.specs.Algorithms.{certificate_name}
use Rattle.ssh_negotiate.specs.Advertised.{each_once, fits, has_key}
use Rattle.ssh_negotiate.specs.Told.{Knows, Tells}
use Rattle.ssh_negotiate.specs.declared.preferred.HostCertificate.{HostCertificate}
use Rattle.ssh_negotiate.proofs.told.Told.add_held.Given as goal

abbrev pub invariant-loop-certificate : goal.invariant-loop-certificate
invariant-loop-certificate l = Tells l.fn.self []
    → Tells l.self (map certificate_name (each_once (flat_map (λ (c : HostCertificate). filter (fits c.algorithm) l.preferred) (filter (has_key l.keys) (take l.certificate-index l.certificates)))))
    × Knows l.seen (each_once (flat_map (λ (c : HostCertificate). filter (fits c.algorithm) l.preferred) (filter (has_key l.keys) (take l.certificate-index l.certificates))))
