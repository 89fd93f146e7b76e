use Rattle.std.proofs.Common.{◌∙◌, ap}
use Rattle.std.specs.Prelude.{◌^◌, ◌-◌, min}
use Rattle.ssh_wire.specs.Forms.{magnitude}
use Rattle.ssh_kex.proofs.BitSizes.{bits_held, bits_of, no_bits}
use Rattle.ssh_kex.proofs.group.DhGroup.bit_size.Goals as goal

pub returns-in-empty-clause-value : goal.returns-in-empty-clause-value
returns-in-empty-clause-value c =
    ap (λ n. min n (2 ^ 64 - 1)) (no_bits _ _ (c.mpint_parts.ensures.digits ∙ ap magnitude c.as_slice.ensures) c.in-empty.len_below)

pub returns-in-empty-clause-exact : goal.returns-in-empty-clause-exact
returns-in-empty-clause-exact c h = no_bits _ _ (c.mpint_parts.ensures.digits ∙ ap magnitude c.as_slice.ensures) c.in-empty.len_below

pub returns-in-len1-up-clause-value : goal.returns-in-len1-up-clause-value
returns-in-len1-up-clause-value c =
    bits_of _ _ _ _ _ (c.mpint_parts.ensures.digits ∙ ap magnitude c.as_slice.ensures) c.in-len1-up.len_at_least
    c.saturating_mul.ensures c.digits_of.ensures c.saturating_add.ensures

pub returns-in-len1-up-clause-exact : goal.returns-in-len1-up-clause-exact
returns-in-len1-up-clause-exact c h =
    bits_held _ _ (bits_of _ _ _ _ _ (c.mpint_parts.ensures.digits ∙ ap magnitude c.as_slice.ensures) c.in-len1-up.len_at_least
    c.saturating_mul.ensures c.digits_of.ensures c.saturating_add.ensures) h
