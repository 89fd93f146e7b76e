use Rattle.std.proofs.Common.{sym, ◌∙◌, ap}
use Rattle.ssh_wire.specs.Fields.{answer_of, string_at}
use Rattle.ssh_server_kex.proofs.ServerRows.{behind, is_type, value_refused, value_trailing, value_is, value_there}
use Rattle.ssh_server_kex.proofs.value.read_value.Goals as goal

pub returns-in-Err-clause-err : goal.returns-in-Err-clause-err
returns-in-Err-clause-err c =
    value_refused c.args.is_gex c.args.payload.now _ (is_type _ _ _ c.has_type.ensures c.if-not-has_type.false ∙ c.value_type.ensures) (ap (λ b. answer_of (string_at b)) (sym (behind _ _ c.new-reader.ensures)) ∙ c.in-Err.ensures.exact.0)

pub returns-in-Err-ensure_end-clause-err : goal.returns-in-Err-ensure_end-clause-err
returns-in-Err-ensure_end-clause-err c =
    value_trailing c.args.is_gex c.args.payload.now c.read_string.new.self c.in-Ok.value.now _ (is_type _ _ _ c.has_type.ensures c.if-not-has_type.false ∙ c.value_type.ensures) (ap string_at (sym (behind _ _ c.new-reader.ensures)) ∙ c.in-Ok.ensures.exact) c.in-Err-ensure_end.ensures.left.1 c.in-Err-ensure_end.ensures.left.0

pub returns-in-Ok-ensure_end-clause-ok : goal.returns-in-Ok-ensure_end-clause-ok
returns-in-Ok-ensure_end-clause-ok c = (
  value_is c.args.is_gex c.args.payload.now c.read_string.new.self c.in-Ok.value.now (is_type _ _ _ c.has_type.ensures c.if-not-has_type.false ∙ c.value_type.ensures) (sym (behind _ _ c.new-reader.ensures) ∙ c.in-Ok.ensures.spelled) c.in-Ok-ensure_end.ensures.end,
  value_there c.args.payload.now c.read_string.new.self c.in-Ok.value.now (ap string_at (sym (behind _ _ c.new-reader.ensures)) ∙ c.in-Ok.ensures.exact) c.in-Ok-ensure_end.ensures.end,
)
