use Rattle.std.proofs.Common.{rules, ap}
use Rattle.ssh_kex.specs.Stages.{Machine}
use Rattle.ssh_transport.proofs.Configs.{usable}
use Rattle.ssh_transport.proofs.Saying.{opened}
use Rattle.ssh_transport.proofs.Sending.{opens_with}
use Rattle.ssh_transport.proofs.session.Session.open.Goals as goal

pub new-requires-clause-usable : goal.new-requires-clause-usable
new-requires-clause-usable g c = usable _ _ c.requires.valid

pub returns : goal.returns
returns g c = record {
  opens = opened c.args.self.now c.in_ok-kex.kex c.kexinit.new.self c.kexinit.new.output c.next_cause-cause.result
      c.id.result.now c.in_ok-kex.ensures.ok c.next_cause-cause.ensures c.id.ensures c.in_ok-kexinit.ensures.sent;
  drawn = opens_with c.args.self.now c.in_ok-kex.kex c.kexinit.new.output c.next_cause-cause.result c.id.result.now _ _
      (ap (λ (m : Machine). m.setting) c.in_ok-kex.ensures.ok) c.in_ok-kexinit.ensures.wrote;
  begins = search rules;
  line = search rules;
  unsaid = tt;
  err = tt;
  fixed = search rules;
}
