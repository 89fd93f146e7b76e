-- The clause of a run, from what its steps do.
use Rattle.std.proofs.Common.{◌≡◌, ℕ, zero, suc, ◌+◌, List, [], ◌∷◌, length, map, slice_get, refl, sym, ◌∙◌, ap, subst, arith, Some, Bool, true, false, inl, inr}
use Rattle.ssh_packet.specs.Sealing.{Item}
use Rattle.ssh_wire.specs.declared.side.Side.{Side}
use Rattle.ssh_wire.specs.declared.side.Side.TheVariants.{Client, Server}
use Rattle.ssh_rules.specs.declared.link.Step.TheVariants.{Rekey}
use Rattle.ssh_rules.specs.Machine.{Asked, ExchangeBegun}
use Rattle.ssh_rules.specs.Counting.{begun, open_count}
use Rattle.ssh_rules.specs.Marks.{kexinits}
use Rattle.ssh_rules.specs.Run.{Moment, BeginsOne, IsFirstMark, IsRun, own_of, mark_of}
use Rattle.ssh_rules.specs.Turns.{Talkers}
use Rattle.ssh_rules.proofs.turns.LinkBounded.{HaveLimits}
use Rattle.ssh_rules.proofs.turns.Turns.{AreFit}
use Rattle.ssh_rules.specs.Snapshots.{Snapshot, IsSnapshot, moment_of, end_at, OneSideTurns, DoesStep, DoesSteps}
use Rattle.ssh_rules.proofs.marks.Moments.{AreSnapshots, SmallLimits, all_moments}
use Rattle.ssh_rules.proofs.marks.Caused.{Ends, Course, client_half, server_half, client_causes, server_causes, runs_tally}
use Rattle.ssh_rules.proofs.marks.StepEffects.{first_is_snapshot, all_effects}
use Rattle.ssh_rules.specs.declared.link.Step as link

-- KEXINITs so far are exchanges begun
begun_at : (t : Talkers) (kind : Bool) (sd : Side) (s : Snapshot) → IsSnapshot t kind s → kexinits (own_of sd (moment_of s)) ≡ begun (end_at sd s).state
begun_at t kind Client s i = (runs_tally t Client s.cl s.world.client i.held.client).own
begun_at t kind Server s i = (runs_tally t Server s.sl s.world.server i.held.server).own

one_begun : (t : Talkers) (sd : Side) (i : Item) (s s' : Snapshot) → OneSideTurns t sd (ExchangeBegun Asked i ∷ []) s s' → open_count (end_at sd s).state.stands ≡ 0 → begun (end_at sd s').state ≡ begun (end_at sd s).state + 1
one_begun t sd i s s' o z =
    let r : begun (end_at sd s').state ≡ length (end_at sd s).state.records + 1 = ap begun o.turned.steps.2 ∙ ap begun o.turned.steps.1.becomes in omega (arith, r, z)

true_false : (b : Bool) → b ≡ true → b ≡ false → ⊥
true_false b e f = let g : true ≡ false = sym e ∙ f in cc

some_moment : (a b : Moment) → Some a ≡ Some b → a ≡ b
some_moment a b e = cc

some_step : (a b : link.Step) → Some a ≡ Some b → a ≡ b
some_step a b e = cc

-- a rekey outside begins one exchange more
one_rekey : (t : Talkers) (kind : Bool) (sd : Side) (s s' : Snapshot) → IsSnapshot t kind s → IsSnapshot t kind s' → DoesStep t (Rekey sd) s s' → (mark_of sd s.mark).inside ≡ false → kexinits (own_of sd (moment_of s')) ≡ kexinits (own_of sd (moment_of s)) + 1
one_rekey t kind sd s s' i i' (inl h) o = absurd (true_false _ h.0 o)
one_rekey t kind sd s s' i i' (inr h) o =
    let z : open_count (end_at sd s).state.stands ≡ 0 = ap open_count h.2.turned.steps.1.may in
    begun_at t kind sd s' i' ∙ (one_begun t sd h.0 s s' h.2 z ∙ ap (λ n. n + 1) (sym (begun_at t kind sd s i)))

begins_at : (t : Talkers) (kind : Bool) (steps : List link.Step) (s : Snapshot) (snapshots : List Snapshot) → DoesSteps t kind steps s snapshots → (j : ℕ) (sd : Side) (before after : Moment) → slice_get steps j ≡ Some (Rekey sd) → slice_get (map moment_of (s ∷ snapshots)) j ≡ Some before → slice_get (map moment_of (s ∷ snapshots)) (suc j) ≡ Some after → (mark_of sd before.mark).inside ≡ false → kexinits (own_of sd after) ≡ kexinits (own_of sd before) + 1
begins_at t kind [] s snapshots h j sd before after g a b o = cc
begins_at t kind (step ∷ steps) s [] h j sd before after g a b o = absurd h
begins_at t kind (step ∷ steps) s (s' ∷ snapshots) h zero sd before after g a b o =
    let e : moment_of s ≡ before = some_moment _ _ a in
    let f : moment_of s' ≡ after = some_moment _ _ b in
    let one = one_rekey t kind sd s s' h.0 (first_is_snapshot t kind steps s' snapshots h.2) (subst (λ x. DoesStep t x s s') (some_step _ _ g) h.1) (ap (λ (m : Moment). (mark_of sd m.mark).inside) e ∙ o) in
    ap (λ (m : Moment). kexinits (own_of sd m)) (sym f) ∙ (one ∙ ap (λ (m : Moment). kexinits (own_of sd m) + 1) e)
begins_at t kind (step ∷ steps) s (s' ∷ snapshots) h (suc j) sd before after g a b o = begins_at t kind steps s' snapshots h.2 j sd before after g a b o

pub begins_one : (t : Talkers) (kind : Bool) (steps : List link.Step) (s : Snapshot) (snapshots : List Snapshot) → DoesSteps t kind steps s snapshots → BeginsOne steps (map moment_of (s ∷ snapshots))
begins_one t kind steps s snapshots h = λ j sd before after g a b o. begins_at t kind steps s snapshots h j sd before after g a b o

pub marks_of : (snapshots : List Snapshot) → map (λ (m : Moment). m.mark) (map moment_of snapshots) ≡ map (λ (x : Snapshot). x.mark) snapshots
marks_of [] = refl
marks_of (s ∷ snapshots) = ap (λ q. s.mark ∷ q) (marks_of snapshots)

-- what both sides are in the end
abbrev pub ends_of : Snapshot → List (List ℕ) → List (List ℕ) → Ends
ends_of last csub ssub = record { client_log = last.cl; client = last.world.client; client_submitted = csub; server_log = last.sl; server = last.world.server; server_submitted = ssub }

-- A run whose steps do what steps do is one.
unfoldable pub is_run : (t : Talkers) (kind : Bool) (steps : List link.Step) (s : Snapshot) (snapshots : List Snapshot) (last : Snapshot) (csub ssub : List (List ℕ)) → AreFit t → HaveLimits t → SmallLimits (t.config Client) → SmallLimits (t.config Server) → DoesSteps t kind steps s snapshots → AreSnapshots t kind last (s ∷ snapshots) → Course t steps (s ∷ snapshots) → IsFirstMark (client_half t (ends_of last csub ssub)) (server_half t (ends_of last csub ssub)) s.mark → IsRun kind (client_half t (ends_of last csub ssub)) (server_half t (ends_of last csub ssub)) steps (map (λ (x : Snapshot). x.mark) (s ∷ snapshots))
is_run t kind steps s snapshots last csub ssub fit limits small_c small_s pursued are course first = record {
  moments = map moment_of (s ∷ snapshots);
  marks_are = marks_of (s ∷ snapshots);
  each = all_moments t kind (s ∷ snapshots) last csub ssub fit small_c small_s are;
  first = (s.mark, refl, first);
  effects = all_effects t kind steps s snapshots fit pursued;
  begins_one = begins_one t kind steps s snapshots pursued;
  client_causes = client_causes t (ends_of last csub ssub) steps (s ∷ snapshots) fit limits course;
  server_causes = server_causes t (ends_of last csub ssub) steps (s ∷ snapshots) fit limits course;
}
