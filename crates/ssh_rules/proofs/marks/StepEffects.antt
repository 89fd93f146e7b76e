-- The effects of all steps of a run, one after the other.
use Rattle.std.proofs.Common.{◌≡◌, ℕ, ◌<◌, ◌≤◌, List, [], ◌∷◌, map, ap, arith, Option, Some, None, Bool, inl, inr, max}
use Rattle.std.specs.Prelude.{IfSome}
use Rattle.ssh_wire.specs.Sides.{other_side}
use Rattle.ssh_wire.specs.declared.side.Side.TheVariants.{Client, Server}
use Rattle.ssh_rules.specs.declared.link.Step.TheVariants.{Submit, Deliver, Rekey, Settle}
use Rattle.ssh_rules.specs.Machine.{Asked, Event, ExchangeBegun}
use Rattle.ssh_rules.specs.Counting.{begun}
use Rattle.ssh_rules.specs.Run.{Effect, Effects, mark_of, finished_at_rekey}
use Rattle.ssh_rules.specs.Turns.{LinkEnd, Talkers}
use Rattle.ssh_rules.proofs.side.Left.{begun_steps}
use Rattle.ssh_rules.proofs.turns.Turns.{AreFit}
use Rattle.ssh_rules.specs.Snapshots.{Snapshot, IsSnapshot, log_at, end_at, OneSideTurns, DoesStep, DoesSteps}
use Rattle.ssh_rules.proofs.marks.Effects.{submit_effect, deliver_effect, rekey_inside, rekey_outside, SettledSide, is_settled, settle_effect, max_more, rekeyed_inside, rekeyed_outside}
use Rattle.ssh_rules.specs.declared.link.Step as link

pub first_is_snapshot : (t : Talkers) (kind : Bool) (steps : List link.Step) (s : Snapshot) (snapshots : List Snapshot) → DoesSteps t kind steps s snapshots → IsSnapshot t kind s
first_is_snapshot t kind [] s [] h = h
first_is_snapshot t kind (step ∷ steps) s (s' ∷ snapshots) h = h.0
first_is_snapshot t kind [] s (s' ∷ snapshots) h = absurd h
first_is_snapshot t kind (step ∷ steps) s [] h = absurd h

if_more : (before : Option ℕ) (a b : ℕ) → a ≤ b → IfSome before (λ n. n < max 1 a) → IfSome before (λ n. n < max 1 b)
if_more None a b l h = tt
if_more (Some n) a b l h = max_more a b n l h

same_begun : (h h' : LinkEnd) → h' ≡ h → begun h.state ≤ begun h'.state
same_begun h h' e = (let f : begun h'.state ≡ begun h.state = ap (λ (x : LinkEnd). begun x.state) e in omega (arith, f))

-- ---- of the client

turn_begun_client : (t : Talkers) (events : List Event) (s s' : Snapshot) → OneSideTurns t Client events s s' → begun s.world.client.state ≤ begun s'.world.client.state
turn_begun_client t events s s' o = begun_steps (t.says Client) Client (t.config Client) (t.own_id Client) events s.world.client.state s'.world.client.state o.turned.steps

other_begun_client : (t : Talkers) (events : List Event) (s s' : Snapshot) → OneSideTurns t Server events s s' → begun s.world.client.state ≤ begun s'.world.client.state
other_begun_client t events s s' o = same_begun s.world.client s'.world.client o.other

-- rekeys so far, behind a step
rekeyed_client : (t : Talkers) (kind : Bool) (step : link.Step) (s s' : Snapshot) (before : Option ℕ) → IsSnapshot t kind s → DoesStep t step s s' → IfSome before (λ n. n < max 1 (begun s.world.client.state)) → IfSome (finished_at_rekey Client step s.mark before) (λ n. n < max 1 (begun s'.world.client.state))
rekeyed_client t kind (Submit Client p) s s' before i h b = if_more before _ _ (turn_begun_client t h.0 s s' h.1) b
rekeyed_client t kind (Submit Server p) s s' before i h b = if_more before _ _ (other_begun_client t h.0 s s' h.1) b
rekeyed_client t kind (Deliver Client n) s s' before i h b = if_more before _ _ (turn_begun_client t h.0 s s' h.1) b
rekeyed_client t kind (Deliver Server n) s s' before i h b = if_more before _ _ (other_begun_client t h.0 s s' h.1) b
rekeyed_client t kind (Rekey Client) s s' before i (inl h) b = max_more (begun s.world.client.state) (begun s'.world.client.state) s.mark.client.finished (same_begun s.world.client s'.world.client h.1.client) (rekeyed_inside t Client s.cl s.world.client s.mark.client i.held.client i.client_mark h.0)
rekeyed_client t kind (Rekey Client) s s' before i (inr h) b = rekeyed_outside t Client s.cl h.0 s.world.client s'.world.client s.mark.client s'.mark.client h.2.turned
rekeyed_client t kind (Rekey Server) s s' before i (inl h) b = if_more before _ _ (same_begun s.world.client s'.world.client h.1.client) b
rekeyed_client t kind (Rekey Server) s s' before i (inr h) b = if_more before _ _ (other_begun_client t (ExchangeBegun Asked h.0 ∷ []) s s' h.2) b
rekeyed_client t kind Settle s s' before i h b = if_more before _ _ (begun_steps (t.says Client) Client (t.config Client) (t.own_id Client) h.client_events s.world.client.state s'.world.client.state h.client.steps) b

pub settled_client : (t : Talkers) (kind : Bool) (s : Snapshot) → IsSnapshot t kind s → SettledSide t Client kind s.cl s.world.client s.mark.client
settled_client t kind s i = record { runs = i.held.client; rests = i.client_rests; kinds = i.client_kinds; mark = i.client_mark }

-- ---- of the server

turn_begun_server : (t : Talkers) (events : List Event) (s s' : Snapshot) → OneSideTurns t Server events s s' → begun s.world.server.state ≤ begun s'.world.server.state
turn_begun_server t events s s' o = begun_steps (t.says Server) Server (t.config Server) (t.own_id Server) events s.world.server.state s'.world.server.state o.turned.steps

other_begun_server : (t : Talkers) (events : List Event) (s s' : Snapshot) → OneSideTurns t Client events s s' → begun s.world.server.state ≤ begun s'.world.server.state
other_begun_server t events s s' o = same_begun s.world.server s'.world.server o.other

-- rekeys so far, behind a step
rekeyed_server : (t : Talkers) (kind : Bool) (step : link.Step) (s s' : Snapshot) (before : Option ℕ) → IsSnapshot t kind s → DoesStep t step s s' → IfSome before (λ n. n < max 1 (begun s.world.server.state)) → IfSome (finished_at_rekey Server step s.mark before) (λ n. n < max 1 (begun s'.world.server.state))
rekeyed_server t kind (Submit Server p) s s' before i h b = if_more before _ _ (turn_begun_server t h.0 s s' h.1) b
rekeyed_server t kind (Submit Client p) s s' before i h b = if_more before _ _ (other_begun_server t h.0 s s' h.1) b
rekeyed_server t kind (Deliver Server n) s s' before i h b = if_more before _ _ (turn_begun_server t h.0 s s' h.1) b
rekeyed_server t kind (Deliver Client n) s s' before i h b = if_more before _ _ (other_begun_server t h.0 s s' h.1) b
rekeyed_server t kind (Rekey Server) s s' before i (inl h) b = max_more (begun s.world.server.state) (begun s'.world.server.state) s.mark.server.finished (same_begun s.world.server s'.world.server h.1.server) (rekeyed_inside t Server s.sl s.world.server s.mark.server i.held.server i.server_mark h.0)
rekeyed_server t kind (Rekey Server) s s' before i (inr h) b = rekeyed_outside t Server s.sl h.0 s.world.server s'.world.server s.mark.server s'.mark.server h.2.turned
rekeyed_server t kind (Rekey Client) s s' before i (inl h) b = if_more before _ _ (same_begun s.world.server s'.world.server h.1.server) b
rekeyed_server t kind (Rekey Client) s s' before i (inr h) b = if_more before _ _ (other_begun_server t (ExchangeBegun Asked h.0 ∷ []) s s' h.2) b
rekeyed_server t kind Settle s s' before i h b = if_more before _ _ (begun_steps (t.says Server) Server (t.config Server) (t.own_id Server) h.server_events s.world.server.state s'.world.server.state h.server.steps) b

pub settled_server : (t : Talkers) (kind : Bool) (s : Snapshot) → IsSnapshot t kind s → SettledSide t Server kind s.sl s.world.server s.mark.server
settled_server t kind s i = record { runs = i.held.server; rests = i.server_rests; kinds = i.server_kinds; mark = i.server_mark }

-- ---- of both

one_effect : (t : Talkers) (kind : Bool) (step : link.Step) (s s' : Snapshot) (cb sb : Option ℕ) → AreFit t → IsSnapshot t kind s' → DoesStep t step s s' → IfSome (finished_at_rekey Client step s.mark cb) (λ n. n < max 1 (begun s'.world.client.state)) → IfSome (finished_at_rekey Server step s.mark sb) (λ n. n < max 1 (begun s'.world.server.state)) → Effect step (finished_at_rekey Client step s.mark cb) (finished_at_rekey Server step s.mark sb) s.mark s'.mark
one_effect t kind (Submit sd p) s s' cb sb fit i h x y = submit_effect t sd p (log_at sd s) h.0 (end_at sd s) (end_at sd s') (finished_at_rekey Client (Submit sd p) s.mark cb) (finished_at_rekey Server (Submit sd p) s.mark sb) s.mark s'.mark h.1.turned h.2 h.3 h.4 h.1.stays
one_effect t kind (Deliver sd n) s s' cb sb fit i h x y = deliver_effect t sd n (log_at sd s) h.0 (end_at sd s) (end_at sd s') (finished_at_rekey Client (Deliver sd n) s.mark cb) (finished_at_rekey Server (Deliver sd n) s.mark sb) s.mark s'.mark h.1.turned h.2 h.3 h.1.stays
one_effect t kind (Rekey sd) s s' cb sb fit i (inl h) x y = rekey_inside sd (finished_at_rekey Client (Rekey sd) s.mark cb) (finished_at_rekey Server (Rekey sd) s.mark sb) s.mark s'.mark h.0 (ap (mark_of sd) h.1.mark) (ap (mark_of (other_side sd)) h.1.mark)
one_effect t kind (Rekey sd) s s' cb sb fit i (inr h) x y = rekey_outside t sd (log_at sd s) h.0 (end_at sd s) (end_at sd s') (finished_at_rekey Client (Rekey sd) s.mark cb) (finished_at_rekey Server (Rekey sd) s.mark sb) s.mark s'.mark h.2.turned h.1 h.3 h.2.stays
one_effect t kind Settle s s' cb sb fit i h x y = settle_effect t s.cl h.client_events s.sl h.server_events s.world.client s'.world.client s.world.server s'.world.server s.mark s'.mark cb sb h.client h.server h.client_none h.server_none (is_settled t kind s'.world s'.cl s'.sl s'.mark cb sb fit i.held (settled_client t kind s' i) (settled_server t kind s' i) h.to_client h.to_server x y)

pub effects_of : (t : Talkers) (kind : Bool) (steps : List link.Step) (s : Snapshot) (snapshots : List Snapshot) (cb sb : Option ℕ) → AreFit t → DoesSteps t kind steps s snapshots → IfSome cb (λ n. n < max 1 (begun s.world.client.state)) → IfSome sb (λ n. n < max 1 (begun s.world.server.state)) → Effects steps cb sb (map (λ (x : Snapshot). x.mark) (s ∷ snapshots))
effects_of t kind [] s [] cb sb fit h x y = tt
effects_of t kind (step ∷ steps) s (s' ∷ snapshots) cb sb fit h x y =
    let x' = rekeyed_client t kind step s s' cb h.0 h.1 x in
    let y' = rekeyed_server t kind step s s' sb h.0 h.1 y in
    (one_effect t kind step s s' cb sb fit (first_is_snapshot t kind steps s' snapshots h.2) h.1 x' y', effects_of t kind steps s' snapshots (finished_at_rekey Client step s.mark cb) (finished_at_rekey Server step s.mark sb) fit h.2 x' y')
effects_of t kind [] s (s' ∷ snapshots) cb sb fit h x y = absurd h
effects_of t kind (step ∷ steps) s [] cb sb fit h x y = absurd h

-- from the start, where no rekey was asked for
pub all_effects : (t : Talkers) (kind : Bool) (steps : List link.Step) (s : Snapshot) (snapshots : List Snapshot) → AreFit t → DoesSteps t kind steps s snapshots → Effects steps None None (map (λ (x : Snapshot). x.mark) (s ∷ snapshots))
all_effects t kind steps s snapshots fit h = effects_of t kind steps s snapshots None None fit h tt tt
