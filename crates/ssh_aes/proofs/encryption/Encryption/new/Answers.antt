use Rattle.std.proofs.Common.{◌+◌, ◌*◌, ◌/◌, length, take, sym, ap, ◌∙◌}
use Rattle.ssh_aes.specs.Aes.{expanded_key}
use Rattle.ssh_aes.proofs.Schedules.{key_length}
use Rattle.ssh_aes.proofs.encryption.Encryption.new.Goals as goal

pub invariant_of-result : goal.invariant_of-result
invariant_of-result c =
    let n = length c.args.key.now / 4 in
    let h = c.held.ensures in
    let front = ap (take (4 * n)) h ∙ c.schedule_of.ensures.front in
    record { length_is = key_length _ c.requires; keys_are = ap (take (16 * (n + 7))) h ∙ c.schedule_of.ensures.whole ∙ ap expanded_key (sym front) }

pub returns : goal.returns
returns c = ap (take (4 * (length c.args.key.now / 4))) c.held.ensures ∙ c.schedule_of.ensures.front
