use Rattle.std.proofs.Common.{sym, ◌∙◌, ap}
use Rattle.ssh_wire.specs.Fields.{answer_of}
use Rattle.ssh_kex.specs.Fields.{sizes_front}
use Rattle.ssh_server_kex.proofs.ServerRows.{behind, is_type, sizes_refused, sizes_trailing, request_is, sizes_there}
use Rattle.ssh_server_kex.proofs.request.read_request.Goals as goal

pub returns-in-Err-clause-err : goal.returns-in-Err-clause-err
returns-in-Err-clause-err c =
    sizes_refused c.args.payload.now _ (is_type _ _ _ c.has_type.ensures c.if-not-has_type.false) (ap (λ b. answer_of (sizes_front b)) (sym (behind _ _ c.new-reader.ensures)) ∙ c.in-Err.ensures.exact.0)

pub returns-in-Err-ensure_end-clause-err : goal.returns-in-Err-ensure_end-clause-err
returns-in-Err-ensure_end-clause-err c =
    sizes_trailing c.args.payload.now c.decode.new.r _ c.in-Ok.sizes (is_type _ _ _ c.has_type.ensures c.if-not-has_type.false) (ap sizes_front (sym (behind _ _ c.new-reader.ensures)) ∙ c.in-Ok.ensures.exact) c.in-Err-ensure_end.ensures.left.1 c.in-Err-ensure_end.ensures.left.0

pub returns-in-Ok-ensure_end-clause-ok : goal.returns-in-Ok-ensure_end-clause-ok
returns-in-Ok-ensure_end-clause-ok c = (
  request_is c.args.payload.now c.decode.new.r _ (is_type _ _ _ c.has_type.ensures c.if-not-has_type.false) (sym (behind _ _ c.new-reader.ensures) ∙ c.in-Ok.ensures.spelled) c.in-Ok-ensure_end.ensures.end,
  sizes_there c.args.payload.now c.decode.new.r _ (ap sizes_front (sym (behind _ _ c.new-reader.ensures)) ∙ c.in-Ok.ensures.exact) c.in-Ok-ensure_end.ensures.end,
)
