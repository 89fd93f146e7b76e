use Rattle.std.proofs.Common.{inl, inr}
use Rattle.ssh_transcript.proofs.Naming.{none_chosen, taken_chosen}
use Rattle.ssh_transcript.proofs.setting.chosen.Goals as goal

pub returns-in-Ok-clause-chosen : goal.returns-in-Ok-clause-chosen
returns-in-Ok-clause-chosen c = taken_chosen c.args.client.now c.args.server.now c.args.client_kexinit.now c.args.server_kexinit.now _ c.requires.client c.requires.server c.in-Ok.ensures.taken

pub returns-in-Err-clause-refused : goal.returns-in-Err-clause-refused
returns-in-Err-clause-refused c = elim c.in-Err.ensures.refused [
  | inl e ↦ inl e
  | inr h ↦ inr (h.0, none_chosen c.args.client.now c.args.server.now c.args.client_kexinit.now c.args.server_kexinit.now c.requires.client c.requires.server h.1)
]
