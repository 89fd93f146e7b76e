use Rattle.std.proofs.Common.{map, take}
use Rattle.std.specs.Prelude.{filter}
use Rattle.std.specs.List.{flat_map}
use Rattle.ssh_wire.specs.Algorithms.{certificate_name}
use Rattle.ssh_negotiate.specs.Advertised.{each_once, fits, has_key}
use Rattle.ssh_negotiate.specs.Told.{Tells}
use Rattle.ssh_negotiate.specs.declared.preferred.HostCertificate.{HostCertificate}
use Rattle.ssh_negotiate.proofs.Telling.{TellsOnce, held_all, held_kept, held_left, once_same}
use Rattle.ssh_negotiate.proofs.told.Told.add_held.Goals as goal
use Rattle.ssh_negotiate.proofs.told.Told.add_held.Goals.{then-is_key_there, else-is_key_there}

pub loop-certificate-preserved : goal.loop-certificate-preserved
loop-certificate-preserved c t =
    elim c.if-is_key_there.branch [
      | then-is_key_there w ↦
          once_same w.add_new.new.self c.if-is_key_there.self w.add_new.new.seen c.if-is_key_there.seen _ w.self-is w.seen-is
          (held_kept (λ l. TellsOnce w.add_new.new.self w.add_new.new.seen (each_once l)) (λ (x : HostCertificate). filter (fits x.algorithm) c.args.preferred.now) (has_key c.args.keys.now) c.args.certificates.now c.loop-certificate.certificate-index c.certificate-item.result c.loop-certificate-test.true c.certificate-item.is w.if-is_key_there.ensures
          (let before = c.loop-certificate.invariant t in w.add_new.ensures (flat_map (λ (x : HostCertificate). filter (fits x.algorithm) c.args.preferred.now) (filter (has_key c.args.keys.now) (take c.loop-certificate.certificate-index c.args.certificates.now))) before.0 before.1))
      | else-is_key_there w ↦
          once_same c.loop-certificate.self c.if-is_key_there.self c.loop-certificate.seen c.if-is_key_there.seen _ w.self-is w.seen-is
          (held_left (λ l. TellsOnce c.loop-certificate.self c.loop-certificate.seen (each_once l)) (λ (x : HostCertificate). filter (fits x.algorithm) c.args.preferred.now) (has_key c.args.keys.now) c.args.certificates.now c.loop-certificate.certificate-index c.certificate-item.result c.loop-certificate-test.true c.certificate-item.is w.if-is_key_there.ensures (c.loop-certificate.invariant t))
    ]

pub returns : goal.returns
returns c t =
    held_all (λ l. Tells c.loop-certificate.self (map certificate_name (each_once l))) (λ (x : HostCertificate). filter (fits x.algorithm) c.args.preferred.now) (has_key c.args.keys.now) c.args.certificates.now c.loop-certificate.certificate-index c.loop-certificate-test.false (c.loop-certificate.invariant t).0
