-- HMAC under the key that the states were made of, which has as many bytes as its hash function says.
use Rattle.std.proofs.Common.{◌++◌, take, length, ap, ◌∙◌}
use Rattle.std.specs.Int.{w32, to_be_bytes}
use Rattle.ssh_mac.specs.Digests.{digest_length}
use Rattle.ssh_mac.specs.Hmac.{hmac}
use Rattle.ssh_mac.specs.Tags.{Keyed}
use Rattle.ssh_mac.proofs.TagLaws.{length-hmac}
use Rattle.ssh_mac.proofs.keys.CryptoMac.tag_for.Goals as goal

pub returns-clause-value : goal.returns-clause-value
returns-clause-value c =
    let kind = c.self.inside.kind in
    let key = take (digest_length kind) c.self.inside.key in
    let text = c.args.payload.now in
    c.tag.ensures kind key c.self.invariant
    ∙ ap (λ x. hmac kind key (x ++ text)) c.to_be_bytes.ensures
    ∙ ap (λ (m : Keyed). hmac m.digest m.key (to_be_bytes w32 c.args.sequence_number ++ text)) c.self.view_is

pub returns-clause-size : goal.returns-clause-size
returns-clause-size c =
    let kind = c.self.inside.kind in
    let key = take (digest_length kind) c.self.inside.key in
    (ap length (c.tag.ensures kind key c.self.invariant) ∙ length-hmac kind key _) ∙ ap (λ (m : Keyed). digest_length m.digest) c.self.view_is
