use Rattle.std.proofs.Common.{rules}
use Rattle.ssh_transport.proofs.Kexinits.{server_sent}
use Rattle.ssh_transport.proofs.Sending.{server_wrote}
use Rattle.ssh_transport.proofs.machine.server_kexinit.Goals as goal

pub returns : goal.returns
returns g c = record {
  sent = server_sent c.args.kex.now c.kexinit.new.self c.args.output.now c.kexinit.new.output _ c.kexinit.result
      c.requires.side c.kexinit.ensures.ok c.kexinit.ensures.sent c.kexinit.ensures.admissible c.kexinit.ensures.padded
      c.kexinit.ensures.cookie;
  wrote = server_wrote c.args.kex.now.setting.side c.args.kex.now.setting.config c.args.output.now c.kexinit.new.output
      _ _ c.kexinit.result c.requires.side c.kexinit.ensures.sent c.kexinit.ensures.stream;
  unchanged = search rules;
  err = search rules;
}
