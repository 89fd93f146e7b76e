use Rattle.std.proofs.Common.{sym, ap, ◌∙◌}
use Rattle.ssh_aes.specs.Modes.{unmasked_text, running_past}
use Rattle.ssh_aes.proofs.Lemmas.{streams_undone}
use Rattle.uses.proofs.running.there_and_back.Goals as goal

pub returns-clause-same : goal.returns-clause-same
returns-clause-same g c =
    let running = g.C.BlockStreamCipher.running in
    let u = streams_undone running c.args.sealing.now c.args.opening.now c.args.bytes.now c.requires.equal c.requires.bytes in
    c.decrypt_data.ensures.text ∙ ap (unmasked_text (running c.args.opening.now)) c.encrypt_data.ensures.text ∙ u.text_is

pub returns-clause-equal : goal.returns-clause-equal
returns-clause-equal g c =
    let running = g.C.BlockStreamCipher.running in
    let u = streams_undone running c.args.sealing.now c.args.opening.now c.args.bytes.now c.requires.equal c.requires.bytes in
    c.encrypt_data.ensures.state ∙ sym u.state_is ∙ ap (running_past (running c.args.opening.now)) (sym c.encrypt_data.ensures.text) ∙ sym c.decrypt_data.ensures.state
