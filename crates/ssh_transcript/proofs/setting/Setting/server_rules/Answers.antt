use Rattle.std.proofs.Common.{◌∙◌, refl}
use Rattle.ssh_transcript.proofs.setting.Setting.server_rules.Goals as goal

pub returns : goal.returns
returns c = record {
  side_is = refl;
  kind_is = c.kind.ensures;
  sizes = refl;
  presents = λ e. c.blob_shown.ensures;
  cookie = c.requires.server_kexinit.cookie;
  sixteen = c.requires.server_kexinit.sixteen;
  kexinit = c.as_slice.ensures ∙ c.requires.server_kexinit.spelled;
}
