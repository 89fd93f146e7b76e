use Rattle.std.proofs.Common.{ap, ◌∙◌}
use Rattle.ssh_aes.specs.Gcm.{hash_key, element}
use Rattle.ssh_aes.proofs.gcm.Gcm.new.Goals as goal

pub invariant_of-result : goal.invariant_of-result
unfolding hash_key
invariant_of-result c = c.new-subkey.ensures ∙ c.from_block.ensures ∙ ap element c.encrypt_block.ensures
