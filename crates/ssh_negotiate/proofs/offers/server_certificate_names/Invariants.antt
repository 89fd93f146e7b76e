use Rattle.std.proofs.Common.{◌≡◌, take}
use Rattle.std.specs.Prelude.{filter}
use Rattle.std.specs.List.{flat_map}
use Rattle.ssh_negotiate.specs.Advertised.{fits, has_key}
use Rattle.ssh_negotiate.specs.declared.preferred.HostCertificate.{HostCertificate}
use Rattle.ssh_negotiate.proofs.offers.server_certificate_names.Given as goal

abbrev pub invariant-loop-certificate : goal.invariant-loop-certificate
invariant-loop-certificate l = l.names.items ≡ flat_map (λ (c : HostCertificate). filter (fits c.algorithm) l.pref.key) (filter (has_key l.keys) (take l.certificate-index l.certificates))
