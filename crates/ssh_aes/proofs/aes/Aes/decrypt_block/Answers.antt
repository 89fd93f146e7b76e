use Rattle.std.proofs.Common.{suc, ◌≡◌, ◌+◌, ◌-◌, ◌*◌, take, arith, sym, ap, ◌∙◌}
use Rattle.ssh_aes.specs.Aes.{inverse_rounds, inverse_cipher, add_round_key, inverse_mix_columns, inverse_sub_bytes, inverse_shift_rows}
use Rattle.ssh_aes.proofs.Equivalent.{key_unmixed}
use Rattle.ssh_aes.proofs.Schedules.{add_round_key-take, decrypted}
use Rattle.ssh_aes.specs.Held.{inverse_left, keys_left, inverse_keys_left}
use Rattle.ssh_aes.proofs.Rounding.{length-keys_left}
use Rattle.ssh_aes.proofs.aes.Aes.decrypt_block.Goals as goal

pub loop-done-init : goal.loop-done-init
unfolding inverse_cipher
loop-done-init c =
    let n = c.self.inside.words in
    let keys = keys_left c.self.inside.keys in
    let w = take (16 * (n + 7)) keys in
    let e : n + 5 - 0 ≡ n + 5 = omega arith in
    let f : n + 6 ≡ n + 5 + 1 = omega arith in
    let x = c.with_last_key.ensures ∙ sym (add_round_key-take keys (16 * (n + 7)) (n + 6) c.args.block.now (omega arith)) ∙ ap (λ r. add_round_key w r c.args.block.now) f in
    ap (inverse_rounds w (n + 5 - 0)) x ∙ ap (λ k. inverse_rounds w k (add_round_key w (n + 5 + 1) c.args.block.now)) e

pub loop-done-preserved : goal.loop-done-preserved
unfolding inverse_rounds
loop-done-preserved c =
    let n = c.self.inside.words in
    let keys = keys_left c.self.inside.keys in
    let w = take (16 * (n + 7)) keys in
    let round = n + 5 - c.loop-done.done in
    let k = n + 5 - (c.loop-done.done + 1) in
    let e : round ≡ suc k = omega arith in
    let b = inverse_left c.loop-done.state in
    let s = inverse_sub_bytes (inverse_shift_rows b) in
    let x = c.inverse_round_of.ensures
    ∙ sym (key_unmixed 15 keys (inverse_keys_left c.self.inside.inverse_keys) round s c.self.invariant.unmixed (omega arith))
    ∙ ap inverse_mix_columns (sym (add_round_key-take keys (16 * (n + 7)) round s (omega arith)) ∙ ap (λ r. add_round_key w r s) e) in
    ap (inverse_rounds w k) x ∙ ap (λ r. inverse_rounds w r b) (sym e) ∙ c.loop-done.invariant

pub returns : goal.returns
unfolding inverse_rounds
returns c =
    let n = c.self.inside.words in
    let keys = keys_left c.self.inside.keys in
    let w = take (16 * (n + 7)) keys in
    let b = inverse_left c.loop-done.state in
    let e : 0 ≡ n + 5 - c.loop-done.done = omega arith in
    c.last_inverse_round_of.ensures
    ∙ sym (add_round_key-take keys (16 * (n + 7)) 0 (inverse_sub_bytes (inverse_shift_rows b)) (omega arith))
    ∙ ap (λ k. inverse_rounds w k b) e
    ∙ c.loop-done.invariant
    ∙ decrypted n keys c.args.self.now c.args.block.now c.self.invariant.expanded (length-keys_left c.self.inside.keys) c.self.view_is c.told-block c.fits-block
