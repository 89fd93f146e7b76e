use Rattle.std.proofs.Common.{refl}
use Rattle.ssh_transcript.proofs.setting.setting_for.Goals as goal

pub returns-clause-setting : goal.returns-clause-setting
returns-clause-setting c = record {
  client_is = refl;
  server_is = refl;
  have_names = record { valid = c.in_ok-tested.ensures.valid; chosen = c.in_ok-names.ensures.chosen };
  client_kexinit = c.in_ok-client_kexinit.ensures;
  server_kexinit = c.in_ok-server_kexinit.ensures;
}
