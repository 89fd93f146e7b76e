-- What a loop over the steps has to keep, and the clause of a run from it.
use Rattle.std.proofs.Common.{◌≡◌, ℕ, zero, suc, List, [], ◌∷◌, ◌++◌, map, slice_get, refl, sym, ◌∙◌, ap, subst, Option, Some, Bool, append_assoc, append-nil}
use Rattle.ssh_wire.specs.declared.side.Side.{Side}
use Rattle.ssh_wire.specs.declared.side.Side.TheVariants.{Client, Server}
use Rattle.ssh_rules.specs.Machine.{Event}
use Rattle.ssh_rules.specs.Run.{IsFirstMark, IsRun}
use Rattle.ssh_rules.specs.Turns.{Turn, World, first_world, Talkers, Plays}
use Rattle.ssh_rules.proofs.turns.LinkBounded.{HaveLimits}
use Rattle.ssh_rules.proofs.turns.Turns.{AreFit}
use Rattle.ssh_rules.specs.Snapshots.{client_log, server_log, if_client, if_server, Snapshot, LeadsOn, DoesSteps, TurnsLeadOn, last_snapshot}
use Rattle.ssh_rules.proofs.marks.Moments.{AreSnapshots, LeadsTo, SmallLimits}
use Rattle.ssh_rules.proofs.marks.Caused.{Course, client_half, server_half}
use Rattle.ssh_rules.proofs.marks.OneRun.{ends_of, is_run}
use Rattle.ssh_rules.specs.declared.link.Step as link

-- ---- turns, joined

pub plays_join : (t : Talkers) (a b : List Turn) (w m w' : World) → Plays t w a m → Plays t m b w' → Plays t w (a ++ b) w'
plays_join t [] b w m w' p q = subst (λ v. Plays t v b w') p q
plays_join t (u ∷ a) b w m w' p q = (p.0, p.1, plays_join t a b p.0 m w' p.2 q)

pub client_join : (a b : List Turn) → client_log (a ++ b) ≡ client_log a ++ client_log b
client_join [] b = refl
client_join (u ∷ a) b = by u.side (client_join a b) where
  by : (s : Side) → client_log (a ++ b) ≡ client_log a ++ client_log b → if_client s u.events (client_log (a ++ b)) ≡ if_client s u.events (client_log a) ++ client_log b
  by Client e = ap (λ q. u.events ++ q) e ∙ sym (append_assoc u.events (client_log a) (client_log b))
  by Server e = e

pub server_join : (a b : List Turn) → server_log (a ++ b) ≡ server_log a ++ server_log b
server_join [] b = refl
server_join (u ∷ a) b = by u.side (server_join a b) where
  by : (s : Side) → server_log (a ++ b) ≡ server_log a ++ server_log b → if_server s u.events (server_log (a ++ b)) ≡ if_server s u.events (server_log a) ++ server_log b
  by Server e = ap (λ q. u.events ++ q) e ∙ sym (append_assoc u.events (server_log a) (server_log b))
  by Client e = e

pub leads_self : (t : Talkers) (s : Snapshot) → LeadsTo t s s
leads_self t s = record { turns = []; plays = refl; cl = sym (append-nil s.cl); sl = sym (append-nil s.sl) }

pub joined : (x y z : List Event) (a b c : List Event) → y ≡ x ++ a → z ≡ y ++ b → c ≡ a ++ b → z ≡ x ++ c
joined x y z a b c e f g = f ∙ (ap (λ q. q ++ b) e ∙ (append_assoc x a b ∙ ap (λ q. x ++ q) (sym g)))

leads_more : (t : Talkers) (step : Option link.Step) (s s' last : Snapshot) → LeadsOn t step s s' → LeadsTo t s' last → LeadsTo t s last
leads_more t step s s' last b l = record {
  turns = b.turns ++ l.turns;
  plays = plays_join t b.turns l.turns s.world s'.world last.world b.plays l.plays;
  cl = joined s.cl s'.cl last.cl (client_log b.turns) (client_log l.turns) (client_log (b.turns ++ l.turns)) b.cl l.cl (client_join b.turns l.turns);
  sl = joined s.sl s'.sl last.sl (server_log b.turns) (server_log l.turns) (server_log (b.turns ++ l.turns)) b.sl l.sl (server_join b.turns l.turns);
}

pub leads_on : (t : Talkers) (steps : List link.Step) (s : Snapshot) (snapshots : List Snapshot) → TurnsLeadOn t steps s snapshots → LeadsTo t s (last_snapshot s snapshots)
leads_on t [] s [] h = leads_self t s
leads_on t (step ∷ steps) s (s' ∷ snapshots) h = leads_more t (Some step) s s' (last_snapshot s' snapshots) h.0 (leads_on t steps s' snapshots h.1)
leads_on t [] s (s' ∷ snapshots) h = absurd h
leads_on t (step ∷ steps) s [] h = absurd h

pub are_snapshots : (t : Talkers) (kind : Bool) (steps : List link.Step) (s : Snapshot) (snapshots : List Snapshot) → DoesSteps t kind steps s snapshots → TurnsLeadOn t steps s snapshots → AreSnapshots t kind (last_snapshot s snapshots) (s ∷ snapshots)
are_snapshots t kind [] s [] p h = (p, leads_self t s, tt)
are_snapshots t kind (step ∷ steps) s (s' ∷ snapshots) p h = (p.0, leads_on t (step ∷ steps) s (s' ∷ snapshots) h, are_snapshots t kind steps s' snapshots p.2 h.1)
are_snapshots t kind [] s (s' ∷ snapshots) p h = absurd h
are_snapshots t kind (step ∷ steps) s [] p h = absurd h

same_snapshot : (a b : Snapshot) → Some a ≡ Some b → a ≡ b
same_snapshot a b e = cc

next_of : (t : Talkers) (steps : List link.Step) (s : Snapshot) (snapshots : List Snapshot) → TurnsLeadOn t steps s snapshots → (j : ℕ) (x y : Snapshot) → slice_get (s ∷ snapshots) j ≡ Some x → slice_get (s ∷ snapshots) (suc j) ≡ Some y → LeadsOn t (slice_get steps j) x y
next_of t [] s [] h zero x y e f = cc
next_of t [] s [] h (suc j) x y e f = cc
next_of t (step ∷ steps) s (s' ∷ snapshots) h zero x y e f = subst (λ q. LeadsOn t (Some step) q y) (same_snapshot s x e) (subst (λ q. LeadsOn t (Some step) s q) (same_snapshot s' y f) h.0)
next_of t (step ∷ steps) s (s' ∷ snapshots) h (suc j) x y e f = next_of t steps s' snapshots h.1 j x y e f
next_of t [] s (s' ∷ snapshots) h j x y e f = absurd h
next_of t (step ∷ steps) s [] h j x y e f = absurd h

-- the first moment: nothing was done
pub record IsStart (s : Snapshot) : Type 0 where
  pub world : s.world ≡ first_world
  pub cl : s.cl ≡ []
  pub sl : s.sl ≡ []

pub course_of : (t : Talkers) (steps : List link.Step) (s : Snapshot) (snapshots : List Snapshot) → IsStart s → TurnsLeadOn t steps s snapshots → Course t steps (s ∷ snapshots)
course_of t steps s snapshots start h = record {
  first = λ x e. subst (λ (q : Snapshot). (q.world ≡ first_world) × ((q.cl ≡ []) × (q.sl ≡ []))) (same_snapshot s x e) (start.world, (start.cl, start.sl));
  next = next_of t steps s snapshots h;
}

-- A loop that begins at the start, whose steps do what they have to, and whose turns are played, makes a run.
unfoldable pub trail_is_run : (t : Talkers) (kind : Bool) (steps : List link.Step) (s : Snapshot) (snapshots : List Snapshot) (csub ssub : List (List ℕ)) → AreFit t → HaveLimits t → SmallLimits (t.config Client) → SmallLimits (t.config Server) → IsStart s → DoesSteps t kind steps s snapshots → TurnsLeadOn t steps s snapshots → IsFirstMark (client_half t (ends_of (last_snapshot s snapshots) csub ssub)) (server_half t (ends_of (last_snapshot s snapshots) csub ssub)) s.mark → IsRun kind (client_half t (ends_of (last_snapshot s snapshots) csub ssub)) (server_half t (ends_of (last_snapshot s snapshots) csub ssub)) steps (map (λ (x : Snapshot). x.mark) (s ∷ snapshots))
trail_is_run t kind steps s snapshots csub ssub fit limits small_c small_s start p h first = is_run t kind steps s snapshots (last_snapshot s snapshots) csub ssub fit limits small_c small_s p (are_snapshots t kind steps s snapshots p h) (course_of t steps s snapshots start h) first
