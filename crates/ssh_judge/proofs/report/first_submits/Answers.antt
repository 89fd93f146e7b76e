use Rattle.std.proofs.Common.{rules, ◌≡◌, ◌∙◌, ◌+◌, ◌-◌, ◌++◌, ◌∷◌, ℕ, suc, List, [], append_assoc, ap, arith, sym, take}
use Rattle.ssh_rules.specs.Headline.{submitted_by}
use Rattle.ssh_judge.proofs.report.first_submits.Goals as goal

-- one payload more was taken, and one less is left
taken_on : (front : List (List ℕ)) (m n : ℕ) (left behind all : List (List ℕ)) (p : List ℕ) → left ≡ p ∷ behind → n ≡ suc m → front ++ take n left ≡ all → (front ++ p ∷ []) ++ take m behind ≡ all
taken_on front m n left behind all p e f h =
    append_assoc front (p ∷ []) (take m behind) ∙ (ap (λ t. front ++ t) (sym (ap (λ k. take k left) f ∙ ap (λ l. take (suc m) l) e)) ∙ h)

pub loop-preserved : goal.loop-preserved
loop-preserved c =
    let more : c.push.new.self.items ≡ c.loop.payloads.items ++ c.in-Some.payload.now ∷ [] = search rules in
    let less : c.args.count - c.loop.counter ≡ suc (c.args.count - (c.loop.counter + 1)) = omega arith in
    ap (λ t. t ++ take (c.args.count - (c.loop.counter + 1)) (submitted_by c.args.side c.in-Some.behind.now)) more
    ∙ taken_on c.loop.payloads.items (c.args.count - (c.loop.counter + 1)) (c.args.count - c.loop.counter)
    (submitted_by c.args.side c.loop.rest.now) (submitted_by c.args.side c.in-Some.behind.now) (take c.args.count (submitted_by c.args.side c.args.steps.now)) c.in-Some.payload.now
    c.in-Some.ensures.first less c.loop.invariant
