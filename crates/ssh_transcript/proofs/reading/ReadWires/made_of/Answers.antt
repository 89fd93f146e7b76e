use Rattle.std.proofs.Common.{◌≡◌, ◌∙◌, Some, None, ap, inl, inr, length, refl, slice_get, suc, sym}
use Rattle.std.specs.Option.{option_copied}
use Rattle.ssh_rules.specs.Headline.{first_hash}
use Rattle.ssh_blocks.specs.Blocks.{exchange_in}
use Rattle.ssh_transcript.specs.Reading.{judged_under}
use Rattle.ssh_transcript.proofs.Exchanging.{is_next, lacks, whole_blocks, whole_none}
use Rattle.ssh_transcript.proofs.reading.ReadWires.made_of.Goals as goal

pub returns-in-None-clause-none : goal.returns-in-None-clause-none
returns-in-None-clause-none c = λ e r s w. whole_none c.args.setting.now r c.args.self.now c.args.client.now c.args.server.now c.kind.result c.kind.ensures w (c.values_of.ensures.none c.in-None.is)

pub returns-in-None-secret_behind-clause-stops : goal.returns-in-None-secret_behind-clause-stops
returns-in-None-secret_behind-clause-stops c = λ r s w.
    let xs = c.args.self.now.exchanges.items in
    let none : slice_get r.secrets (length xs) ≡ None = ap (λ t. slice_get t (length xs)) s
    ∙ (ap (λ t. slice_get c.args.secrets.now (length t)) (sym c.as_slice.ensures.value) ∙ (sym c.secret_behind.ensures ∙ ap option_copied c.in-None-secret_behind.is)) in
    inr (
      suc (length xs),
      c.lacking.ensures,
      lacks (judged_under c.args.setting.now r) xs (suc (length xs)) (exchange_in c.args.setting.now.client.now c.args.setting.now.server.now c.in-Some.values) c.in-Some.values.reply.host.now w.ended.each none refl
          (whole_blocks c.args.setting.now r c.args.self.now c.args.client.now c.args.server.now c.in-Some.values c.kind.result c.kind.ensures w c.in-Some.ensures.held),
    )

pub returns-in-Ok-clause-made : goal.returns-in-Ok-clause-made
returns-in-Ok-clause-made c = λ r s w.
    let xs = c.args.self.now.exchanges.items in
    let given : slice_get r.secrets (length xs) ≡ Some c.as_slice-in-Some-secret_behind-2.result.now = ap (λ t. slice_get t (length xs)) s
    ∙ (ap (λ t. slice_get c.args.secrets.now (length t)) (sym c.as_slice.ensures.value) ∙ (sym c.secret_behind.ensures
    ∙ (ap option_copied c.in-Some-secret_behind.is ∙ ap Some (sym c.as_slice-in-Some-secret_behind-2.ensures)))) in
    record {
      next = is_next c.args.setting.now r xs c.in-Some.values c.as_slice-in-Some-secret_behind-2.result.now c.session_of-session_id.result c.in-Ok.made.exchange
          (whole_blocks c.args.setting.now r c.args.self.now c.args.client.now c.args.server.now c.in-Some.values c.kind.result c.kind.ensures w c.in-Some.ensures.held)
          given (λ hash. c.session_of-session_id.ensures hash ∙ ap (λ t. first_hash t hash) c.as_slice-in-Some-secret_behind.ensures.value) c.in-Ok.ensures.hashed;
      client = c.in-Ok.ensures.client;
      server = c.in-Ok.ensures.server;
    }

pub returns-in-Err-clause-stops : goal.returns-in-Err-clause-stops
returns-in-Err-clause-stops c = λ r s w. inl refl
