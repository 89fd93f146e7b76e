use Rattle.std.proofs.Common.{rules, ◌≡◌, ◌∙◌, ◌++◌, ◌∷◌, [], Some, ap, length, refl, subst, sym}
use Rattle.std.specs.Prelude.{slice_get}
use Rattle.ssh_blocks.specs.Blocks.{IsBefore}
use Rattle.ssh_blocks.proofs.Seen.{breaks, keeps, stays_before, stays_broken}
use Rattle.ssh_blocks.proofs.block.OpenBlock.take.Goals as goal

pub returns-then-self : goal.returns-then-self
returns-then-self c = record { seen = λ side kind later items i same l h. stays_broken side kind later items i c.args.self.now c.if-self.true h }

pub returns-then-stands_before : goal.returns-then-stands_before
returns-then-stands_before c = record {
  seen = λ side kind later items i same l h. stays_before side kind later items i c.args.payload.now c.args.self.now same c.if-self.false
      (subst (IsBefore c.args.self.now) c.type_of-message_type.ensures (c.if-stands_before.ensures.before refl)) h;
}

pub returns-then-not-is_due : goal.returns-then-not-is_due
returns-then-not-is_due c =
    let many : c.len.result ≡ length c.args.self.now.messages.items = search rules in
    record {
      seen = λ side kind later items i same l h. breaks side kind later items i c.args.payload.now c.args.self.now _ same c.if-self.false
          (λ b. c.if-stands_before.ensures.other refl (subst (IsBefore c.args.self.now) (sym c.type_of-message_type.ensures) b))
          (λ e. c.if-not-is_due.ensures.other refl (ap (λ n. slice_get c.args.self.now.order.now n) many ∙ (e ∙ ap Some (sym c.type_of-message_type.ensures))))
          refl refl refl h;
    }

pub returns : goal.returns
returns c =
    let many : c.len.result ≡ length c.args.self.now.messages.items = search rules in
    let more : c.push.new.self.items ≡ c.args.self.now.messages.items ++ c.args.payload.now ∷ [] = search rules in
    record {
      seen = λ side kind later items i same l h. keeps side kind later items i c.args.payload.now c.args.self.now _ same c.if-self.false
          (λ b. c.if-stands_before.ensures.other refl (subst (IsBefore c.args.self.now) (sym c.type_of-message_type.ensures) b))
          (ap (λ n. slice_get c.args.self.now.order.now n) (sym many) ∙ (c.if-not-is_due.ensures.due refl ∙ ap Some c.type_of-message_type.ensures))
          refl refl c.if-self.false more h;
    }
