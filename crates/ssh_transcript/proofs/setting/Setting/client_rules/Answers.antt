use Rattle.std.proofs.Common.{◌∙◌, refl}
use Rattle.ssh_transcript.proofs.setting.Setting.client_rules.Goals as goal

pub returns : goal.returns
returns c = record {
  side_is = refl;
  kind_is = c.kind.ensures;
  sizes = refl;
  presents = λ e. absurd (let z = e in cc);
  cookie = c.requires.client_kexinit.cookie;
  sixteen = c.requires.client_kexinit.sixteen;
  kexinit = c.as_slice.ensures ∙ c.requires.client_kexinit.spelled;
}
