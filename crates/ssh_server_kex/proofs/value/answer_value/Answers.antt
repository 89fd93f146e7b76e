use Rattle.std.proofs.Common.{◌<◌, ◌^◌, ℕ, Err, List, Result, length, arith, sym, ◌∙◌, subst}
use Rattle.ssh_kex.specs.Parts.{IsRefused}
use Rattle.ssh_kex.specs.Signature.{judged}
use Rattle.ssh_kex.specs.declared.parts.Refusal.{Refusal}
use Rattle.ssh_server_kex.proofs.ServerRows.{hashes, reply_refused, shown_short, sign_refused, signs_it, unsigned_it, value_done}
use Rattle.ssh_server_kex.proofs.Drawn.{value_drawn}
use Rattle.ssh_server_kex.proofs.value.answer_value.Goals as goal

pub compute_exchange_hash-hash-requires : goal.compute_exchange_hash-hash-requires
compute_exchange_hash-hash-requires g c =
    hashes _ c.args.base.now.config.now c.args.names.now c.args.base.now.exchange c.agree.new.exchange c.in_ok-algorithm.algorithm _ c.in-Ok.value.now c.in_ok-base.field-0 c.requires.can c.in_ok-algorithm.ensures.ok c.in-Some.ensures c.in_ok-base.ensures
    (let e = c.in-Ok.ensures.short in let f = c.requires.short in omega (arith, e, f)) c.as_slice.result.now c.as_slice.ensures

pub reply-requires-clause-host : goal.reply-requires-clause-host
reply-requires-clause-host g c =
    subst (λ z. length z < 2 ^ 31) (sym c.as_slice-2.ensures) (shown_short c.args.base.now.config.now.host _ _ _ c.requires.can.blobs c.in-Some.ensures)

pub returns-in-Ok-put_both-clause-ok : goal.returns-in-Ok-put_both-clause-ok
returns-in-Ok-put_both-clause-ok g c =
    value_done _ _ _ _ c.args.base.now.config.now c.args.base.now.cause c.args.names.now c.args.base.now.exchange c.agree.new.exchange c.args.payload.now c.args.output.now c.put_both.new.output c.in_ok-ended.ended
    c.in_ok-algorithm.algorithm _ c.in-Ok.value.now c.in_ok-base.field-0 c.as_slice.result.now c.compute_exchange_hash-hash.result c.in-Ok-sign.signature c.as_slice-2.result.now c.as_slice-3.result.now c.as_slice-4.result.now c.as_slice-5.result.now _
    c.is_gex-is_gex.ensures c.in-Ok.ensures.ok.0 (let e = c.in-Ok.ensures.short in let f = c.requires.short in omega (arith, e, f)) c.requires.can
    c.in_ok-algorithm.ensures.ok c.in_ok-base.ensures
    (λ v w m s l. (m s l).0) (λ v w m s l. (m s l).1)
    c.in-Some.ensures c.as_slice.ensures c.compute_exchange_hash-hash.ensures c.in-Ok-sign.ensures.values
    (signs_it g.H.HostKeys.makes (g.H.HostKeys.signs c.args.parts.now.hosts) c.args.base.now.config.now c.args.names.now _ c.compute_exchange_hash-hash.result (judged c.in-Ok-sign.signature) c.in-Ok-sign.ensures.made c.in-Some.ensures)
    c.in_ok-ended.ensures.made c.in_ok-ended.ensures.keys
    c.as_slice-2.ensures c.as_slice-3.ensures (let e = c.as_slice-4.ensures in let v = c.signature.view_is in cc) (c.as_slice-5.ensures.value ∙ c.in_ok-reply.ensures.ok) c.in-Ok-put_both.ensures.puts

pub returns-in-Err-Refused-clause-causes : goal.returns-in-Err-Refused-clause-causes
returns-in-Err-Refused-clause-causes g c =
    sign_refused _ _ _ c.args.names.now c.args.payload.now c.in-Ok.value.now _ c.is_gex-is_gex.ensures c.in-Ok.ensures.ok.0 c.in-Ok.ensures.ok.1
    (let refused : IsRefused (let q : Result (List ℕ) Refusal = Err c.in-Err-Refused.field-0 in q) = subst (λ z. IsRefused (let q : Result (List ℕ) Refusal = Err z in q)) (sym c.in-Err-Refused.field-0-is) tt in (
      c.in-Err-Refused.ensures.counts.cause refused,
      unsigned_it _ c.args.base.now.config.now c.args.names.now _ (λ s host o p. c.in-Err-Refused.ensures.never s host o p refused) c.in-Some.ensures,
    ))

pub returns-clause-causes : goal.returns-clause-causes
returns-clause-causes g c =
    reply_refused _ _ _ _ _ _ c.args.base.now.config.now c.args.names.now _ c.agree.new.exchange c.args.payload.now _
    c.in_ok-algorithm.algorithm _ c.in-Ok.value.now c.in_ok-base.field-0 c.in-Ok-sign.signature c.as_slice-2.result.now c.as_slice-3.result.now c.as_slice-4.result.now c.as_slice-5.result.now _
    c.is_gex-is_gex.ensures c.in-Ok.ensures.ok.0 c.in-Ok.ensures.ok.1 c.in_ok-base.ensures
    c.in_ok-algorithm.ensures.ok (λ v w m s l. (m s l).0) (λ v w m s l. (m s l).2) c.in-Ok-sign.ensures.small
    c.in-Some.ensures
    c.as_slice-2.ensures c.as_slice-3.ensures (let e = c.as_slice-4.ensures in let v = c.signature.view_is in cc) (c.as_slice-5.ensures.value ∙ c.in_ok-reply.ensures.ok) c.in-Err-put_both.ensures.causes

pub returns-in-Ok-put_both-clause-drawn : goal.returns-in-Ok-put_both-clause-drawn
returns-in-Ok-put_both-clause-drawn g c =
    value_drawn g.A.Agreement.server_draws _ (g.R.Rng.stream c.args.parts.now.rng) (g.R.Rng.stream c.agree.new.rng) (g.R.Rng.stream c.put_both.new.rng) c.args.base.now.cause c.args.names.now c.args.base.now.exchange c.agree.new.exchange c.in_ok-algorithm.algorithm c.in_ok-ended.ended.0 c.args.output.now c.put_both.new.output
    c.in_ok-base.field-0 c.as_slice.result.now c.compute_exchange_hash-hash.result c.as_slice-5.result.now c.as_slice-2.result.now c.as_slice-3.result.now c.as_slice-4.result.now _
    c.in_ok-algorithm.ensures.ok c.in_ok-algorithm.ensures.drawn c.compute_exchange_hash-hash.ensures c.in_ok-ended.ensures.made (c.as_slice-5.ensures.value ∙ c.in_ok-reply.ensures.ok) c.in-Ok-put_both.ensures.drawn
