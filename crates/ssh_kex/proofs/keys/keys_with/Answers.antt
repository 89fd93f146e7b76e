use Rattle.std.proofs.Common.{◌∙◌, ap, ℕ, List}
use Rattle.std.specs.Option.{option_copied}
use Rattle.ssh_kex.specs.Exchange.{key_by, keys_of, secret_text}
use Rattle.ssh_kex.proofs.Stretching.{same_keys}
use Rattle.ssh_kex.proofs.keys.keys_with.Goals as goal

pub returns-clause-value : goal.returns-clause-value
unfolding keys_of
returns-clause-value c =
    let by : ℕ → ℕ → List ℕ = λ letter need. key_by c.args.digest (secret_text (option_copied c.args.secret)) c.args.hash.now c.args.session_id.now letter need in
    same_keys
    (c.key_of.ensures.value ∙ ap (by 65) c.nonce_len-nonce.ensures)
    (c.key_of-2.ensures.value ∙ ap (by 66) c.nonce_len-nonce.ensures)
    (c.key_of-3.ensures.value ∙ ap (by 67) c.key_len-key.ensures)
    (c.key_of-4.ensures.value ∙ ap (by 68) c.key_len-key.ensures)
    (c.key_of-5.ensures.value ∙ ap (by 69) c.key_len-client_mac.ensures)
    (c.key_of-6.ensures.value ∙ ap (by 70) c.key_len-server_mac.ensures)
