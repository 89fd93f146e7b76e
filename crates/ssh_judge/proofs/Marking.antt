-- The marks of a record whose wires are good.
use Rattle.std.proofs.Common.{◌≡◌, ◌⊎◌, inl, inr, ℕ, zero, suc, ◌+◌, ◌<◌, ◌^◌, List, [], ◌∷◌, ◌++◌, length, take, map, slice_get, refl, sym, ◌∙◌, ap, subst, arith, Option, Some, None, Bor, get_or}
use Rattle.std.proofs.lemmas.Option.{slice_get_past, slice_get_read, slice_get_within}
use Rattle.std.specs.Option.{option_copied}
use Rattle.std.specs.Slice.{IsItemAt}
use Rattle.ssh_rules.specs.declared.link.Mark.{Mark}
use Rattle.ssh_rules.specs.declared.link.Step.{Step}
use Rattle.ssh_record.specs.Answers.{FitsSent}
use Rattle.ssh_record.specs.Recordings.{Recording}
use Rattle.ssh_record.specs.Runs.{RunsBy, sent_at}
use Rattle.ssh_record.specs.declared.recording.SentPair.{SentPair}
use Rattle.ssh_record.specs.declared.report.AuditEnd.{AuditEnd}
use Rattle.ssh_record.specs.declared.report.AuditEnd.TheVariants.{Fault, Memory}
use Rattle.ssh_record.specs.declared.report.AuditFault.TheVariants.{Mark as MarkFault}
use Rattle.ssh_transcript.specs.Reading.{AreGoodWires, judged_under}
use Rattle.ssh_transcript.specs.declared.reading.ReadWires.{ReadWires}
use Rattle.ssh_transcript.specs.declared.setting.Setting.{Setting}
use Rattle.ssh_judge.specs.Marking.{IsFirst, IsMarkEnd, wires_for}
use Rattle.ssh_judge.specs.Standing.{AreStanding, GoesOnTo, IsFirstOf, StopsAt, marks_at}
use Rattle.ssh_judge.specs.declared.run.RunState.{RunState}
use Rattle.ssh_judge.proofs.Beginning.{AreOf, SoFar, breaks_behind, breaks_first, more_so_far, runs_so_far, starts}

wires_are : (s : Setting) (x : ReadWires) (r : Recording) (g : AreGoodWires (judged_under s r) x) → AreOf (judged_under s r) x.exchanges.items (wires_for s x r g)
wires_are s x r g = record {
  wires = record {
    client = record { packets = g.client.good.reads.0; line = g.client.good.reads.1; reads = g.client.good.reads.2; blocks = g.client.good.blocks; are = g.client.are };
    server = record { packets = g.server.good.reads.0; line = g.server.good.reads.1; reads = g.server.good.reads.2; blocks = g.server.good.blocks; are = g.server.are };
    client_is = refl;
    server_is = refl;
  };
  kind_is = refl;
  client_is = refl;
  server_is = refl;
}

first_of_wires : (s : Setting) (x : ReadWires) (r : Recording) (g : AreGoodWires (judged_under s r) x) (run : RunState) → IsFirst s x r run → IsFirstOf (wires_for s x r g) run
first_of_wires s x r g run f = record { kind_is = f.kind_is; client_facts = f.client_facts; client = f.client; server_facts = f.server_facts; server = f.server }

-- where the marks have come behind so many steps
abbrev pub AreSoFar : Setting → ReadWires → Recording → ℕ → List Mark → RunState → Type 0
AreSoFar s x r n marks run = (g : AreGoodWires (judged_under s r) x) → SoFar (wires_for s x r g) (take n r.steps) marks run

pub begins : (s : Setting) (x : ReadWires) (r : Recording) (marks : List Mark) (m : Mark) (run : RunState) → IsFirst s x r run → (m ≡ marks_at run) × AreStanding run → marks ≡ m ∷ [] → AreSoFar s x r 0 marks run
begins s x r marks m run f a e = λ g. subst (λ t. SoFar (wires_for s x r g) [] t run) (sym (e ∙ ap (λ y. y ∷ []) a.0)) (starts (wires_for s x r g) run (wires_are s x r g).wires (first_of_wires s x r g run f) a.1)

pub continues : (s : Setting) (x : ReadWires) (r : Recording) (n : ℕ) (step : Step) (marks marks' : List Mark) (m : Mark) (run run' : RunState) → AreSoFar s x r n marks run → slice_get r.steps n ≡ Some step → GoesOnTo step run m run' → length r.steps < 2 ^ 64 → marks' ≡ marks ++ m ∷ [] → AreSoFar s x r (n + 1) marks' run'
continues s x r n step marks marks' m run run' h e o few more = λ g.
    subst (λ k. SoFar (wires_for s x r g) (take k r.steps) marks' run') (one_on n) (subst (λ t. SoFar (wires_for s x r g) (take (suc n) r.steps) t run') (sym more) (more_so_far (wires_for s x r g) r.steps n step marks m run run' (h g) e o few))
  where
    one_on : (n : ℕ) → suc n ≡ n + 1
    one_on n = omega arith

pub ends : (s : Setting) (x : ReadWires) (r : Recording) (n : ℕ) (marks : List Mark) (run : RunState) → AreSoFar s x r n marks run → n ≡ length r.steps → map sent_at marks ≡ take (suc n) r.sent → (g : AreGoodWires (judged_under s r) x) → RunsBy (judged_under s r) x.exchanges.items (length r.steps) marks
ends s x r n marks run h e sent g = subst (λ k. RunsBy (judged_under s r) x.exchanges.items k marks) e (runs_so_far (judged_under s r) x.exchanges.items (wires_for s x r g) n marks run (wires_are s x r g) (h g) sent)

pub first_breaks : (s : Setting) (x : ReadWires) (r : Recording) (lent : Option (Bor SentPair)) (run : RunState) (e : AuditEnd) → IsFirst s x r run → slice_get r.sent 0 ≡ option_copied lent → (e ≡ Fault (MarkFault 0)) × (option_copied lent ≡ Some (sent_at (marks_at run)) → AreStanding run → ⊥) → AreGoodWires (judged_under s r) x → IsMarkEnd s x r e
first_breaks s x r lent run e f at h g = inr (0, h.0, breaks_first (judged_under s r) x.exchanges.items (wires_for s x r g) run (wires_are s x r g) (first_of_wires s x r g run f) (λ p. h.1 (sym at ∙ p)))

pub later_breaks : (s : Setting) (x : ReadWires) (r : Recording) (n behind : ℕ) (step : Step) (marks : List Mark) (lent : Option (Bor SentPair)) (run : RunState) (e : AuditEnd) → AreSoFar s x r n marks run → map sent_at marks ≡ take (suc n) r.sent → slice_get r.steps n ≡ Some step → behind ≡ suc n → slice_get r.sent behind ≡ option_copied lent
    → (e ≡ Memory) ⊎ ((e ≡ Fault (MarkFault behind)) × ((p : SentPair) → option_copied lent ≡ Some p → StopsAt step p run)) → length r.steps < 2 ^ 64 → FitsSent r → AreGoodWires (judged_under s r) x → IsMarkEnd s x r e
later_breaks s x r n behind step marks lent run e h sent at b there (inl m) few fits g = inl m
later_breaks s x r n behind step marks lent run e h sent at b there (inr m) few fits g =
    let p = pair r.sent (suc n) (let w = slice_get_within r.steps n step at in let f = fits.many in omega (arith, w, f)) in
    inr (suc n, m.0 ∙ ap (λ k. Fault (MarkFault k)) b, breaks_behind (judged_under s r) x.exchanges.items (wires_for s x r g) n step marks p.0 run (wires_are s x r g) (h g) sent at p.1 (m.1 p.0 (sym there ∙ (ap (slice_get r.sent) b ∙ p.1))) few)
  where
    pair : (xs : List SentPair) (k : ℕ) → k < length xs → (p : SentPair) × (slice_get xs k ≡ Some p)
    pair [] k l = absurd (omega (arith, l))
    pair (y ∷ ys) zero l = (y, refl)
    pair (y ∷ ys) (suc k) l = pair ys k (omega (arith, l))

-- ---- what is lent

pub item_at : {A : Type 0} (xs now : List A) (i : ℕ) (x : A) → now ≡ xs → i < length now → x ≡ get_or now i x → slice_get xs i ≡ Some x
item_at xs now i x e l h = subst (λ t. slice_get t i ≡ Some x) e (slice_get_read now (length now) i x refl l h)

pub lent_get : (sent now : List SentPair) (i : ℕ) (lent : Option (Bor SentPair)) → now ≡ sent → IsItemAt now i lent → slice_get sent i ≡ option_copied lent
lent_get sent now i None e h = subst (λ t. slice_get t i ≡ None) e (slice_get_past now i h.3)
lent_get sent now i (Some x) e h = subst (λ t. slice_get t i ≡ Some x.now) e (slice_get_read now (length now) i x.now refl h.3.0 h.1)
