-- The steps of turns, one turn behind the other.
use Rattle.std.proofs.Common.{◌≡◌, ℕ, suc, ◌+◌, ◌-◌, ◌<◌, ◌≤◌, List, ◌++◌, sym, ap, ◌∙◌, arith, append_assoc, append-nil}
use Rattle.ssh_rules.specs.declared.link.Step.{Step}
use Rattle.ssh_script.specs.Generated.{state_behind_turn, turn_steps, turns_from}

-- the first of the turns that are left
turns_next : (n turn x : ℕ) → turn < n → turns_from (n - turn) turn x ≡ turn_steps turn x ++ turns_from (n - (turn + 1)) (turn + 1) (state_behind_turn x)
turns_next n turn x h = let e : n - turn ≡ suc (n - (turn + 1)) = omega (arith, h) in ap (λ (k : ℕ). turns_from k turn x) e

-- where a turn's steps are appended, those of the turns behind it are left
pub turn_pushed : (n turn x y : ℕ) (steps more whole : List Step) → turn < n → more ≡ steps ++ turn_steps turn x → y ≡ state_behind_turn x
    → steps ++ turns_from (n - turn) turn x ≡ whole → more ++ turns_from (n - (turn + 1)) (turn + 1) y ≡ whole
turn_pushed n turn x y steps more whole h p q e =
    ap (λ (s : List Step). s ++ turns_from (n - (turn + 1)) (turn + 1) y) p
    ∙ append_assoc steps (turn_steps turn x) (turns_from (n - (turn + 1)) (turn + 1) y)
    ∙ ap (λ (z : ℕ). steps ++ (turn_steps turn x ++ turns_from (n - (turn + 1)) (turn + 1) z)) q
    ∙ ap (λ (s : List Step). steps ++ s) (sym (turns_next n turn x h))
    ∙ e

-- where no turns are left, all of their steps are there
pub turns_done : (n turn x : ℕ) (steps whole : List Step) → turn ≤ n → n ≤ turn → steps ++ turns_from (n - turn) turn x ≡ whole → steps ≡ whole
turns_done n turn x steps whole h k e =
    let none : 0 ≡ n - turn = omega (arith, h, k) in
    sym (append-nil steps) ∙ ap (λ (left : ℕ). steps ++ turns_from left turn x) none ∙ e
