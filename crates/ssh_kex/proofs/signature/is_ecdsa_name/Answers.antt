use Rattle.std.proofs.Common.{◌∙◌, ap}
use Rattle.std.specs.Prelude.{◌&&◌, nat_eq}
use Rattle.std.specs.List.{starts_with}
use Rattle.std.specs.Str.{is_utf8}
use Rattle.ssh_wire.proofs.Lemmas.{is_utf8-by_reading}
use Rattle.ssh_kex.proofs.signature.is_ecdsa_name.Goals as goal

pub returns-then-starts_with : goal.returns-then-starts_with
returns-then-starts_with c =
    c.is_ok.ensures.value ∙ (is_utf8-by_reading _ _ _ c.from_utf8.result c.from_utf8.ensures.cases
    ∙ (ap (λ b. b && is_utf8 c.args.name.now) c.if-starts_with.ensures.value
    ∙ ap (λ p. starts_with nat_eq c.args.name.now p && is_utf8 c.args.name.now) c.as_bytes.ensures.value))
