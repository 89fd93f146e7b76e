-- What a loop over the steps has to keep, and all of the headline from it.
use Rattle.std.proofs.Common.{◌≡◌, ℕ, zero, suc, ◌+◌, ◌*◌, ◌≤◌, List, [], ◌∷◌, ◌++◌, length, map, slice_get, refl, sym, ◌∙◌, ap, subst, arith, Bool, Some, None, inl, inr, length-append, append-nil, append_assoc, if◌then◌else◌}
use Rattle.ssh_wire.specs.Lines.{id_line, id_text}
use Rattle.ssh_wire.specs.Sides.{same_side}
use Rattle.ssh_wire.specs.declared.side.Side.{Side}
use Rattle.ssh_wire.specs.declared.side.Side.TheVariants.{Client, Server}
use Rattle.ssh_rules.specs.Parts.{ClientPairs, Secrets, ServerValues}
use Rattle.ssh_kex.specs.Setting.{Says, offers_of}
use Rattle.ssh_kex.specs.declared.config.Config.{Config}
use Rattle.ssh_rules.specs.Log.{asked_in, wrote, handled, recorded, submitted_in, causes_in}
use Rattle.ssh_rules.proofs.side.Reasons.{payloads_in}
use Rattle.ssh_rules.specs.Counting.{begun}
use Rattle.ssh_rules.specs.Headline.{IsLink, IsLastMark, IsOnTime, submitted_by, bound_of, host_by, chosen_by}
use Rattle.ssh_rules.specs.Laws.{OneSecret, FindsCanonical}
use Rattle.ssh_rules.specs.Machine.{Cause, Event, Asked, ExchangeBegun, first_state}
use Rattle.ssh_rules.specs.Run.{Moment, IsMoment}
use Rattle.ssh_rules.specs.Turns.{LinkEnd, Talkers, talkers}
use Rattle.ssh_rules.specs.Valid.{config_fault, HasSizes}
use Rattle.ssh_rules.specs.Wire.{IsWire, carried_payloads}
use Rattle.ssh_rules.proofs.pair.Facts.{InStep}
use Rattle.ssh_negotiate.specs.Laws.{IsWithin}
use Rattle.ssh_rules.specs.declared.link.SideMark.{SideMark}
use Rattle.ssh_rules.specs.declared.link.Step as link
use Rattle.ssh_rules.specs.declared.link.Step.TheVariants.{Submit, Deliver, Rekey, Settle}
use Rattle.ssh_rules.proofs.side.StageFits.{no_trace}
use Rattle.ssh_rules.specs.Snapshots.{LeadsOn, kind_chosen, TellsParts, IsMarkOf, half_in, Snapshot, IsSnapshot, client_log, server_log, moment_of, DoesStep, DoesSteps, first_snapshot, TurnsLeadOn, last_snapshot, RunsInLink, side_report, report_of}
use Rattle.ssh_rules.proofs.marks.Caused.{get_map_back}
use Rattle.ssh_rules.proofs.side.Freshness.{run_fresh}
use Rattle.ssh_rules.proofs.turns.LinkBounded.{HaveLimits, causes_more}
use Rattle.ssh_rules.proofs.turns.LinkFew.{link_bounded, few_payloads, most_begun}
use Rattle.ssh_rules.proofs.headline.HeadlineRecords.{Parts, client_made, server_made}
use Rattle.ssh_rules.proofs.headline.LinkWire.{link_wire}
use Rattle.ssh_rules.proofs.side.LedgerSteps.{tidy_first}
use Rattle.ssh_rules.proofs.marks.Moments.{LeadsTo, SmallLimits, is_moment, snapshot_on_time}
use Rattle.ssh_rules.proofs.marks.Moved.{submitted_more}
use Rattle.ssh_rules.proofs.marks.OneRun.{is_run}
use Rattle.ssh_rules.proofs.side.Payloads.{delivers, submits}
use Rattle.ssh_rules.proofs.marks.StepEffects.{first_is_snapshot}
use Rattle.ssh_rules.proofs.side.Ran.{recorded_is}
use Rattle.ssh_rules.proofs.marks.Trail.{leads_on, leads_self, trail_is_run}
use Rattle.ssh_rules.proofs.turns.Turns.{AreFit, held_in_step}
use Rattle.ssh_rules.proofs.side.Valid.{is_within, are_fit, small_limits, have_limits, write_limit}

-- ---- what stands in the logs of the last moment

submits_on : (side : Side) (step : link.Step) (steps : List link.Step) → submitted_by side (step ∷ steps) ≡ submitted_by side (step ∷ []) ++ submitted_by side steps
submits_on Client (Submit Client p) steps = refl
submits_on Client (Submit Server p) steps = refl
submits_on Server (Submit Client p) steps = refl
submits_on Server (Submit Server p) steps = refl
submits_on side (Deliver s n) steps = refl
submits_on side (Rekey s) steps = refl
submits_on side Settle steps = refl

-- a log with more events, and with none
log_more : (a b events : List Event) (front : List (List ℕ)) → b ≡ a ++ events → submitted_in events ≡ front → submitted_in b ≡ submitted_in a ++ front
log_more a b events front e f = ap submitted_in e ∙ (submitted_more a events ∙ ap (λ q. submitted_in a ++ q) f)

log_same : (a b : List Event) → b ≡ a → submitted_in b ≡ submitted_in a ++ []
log_same a b e = ap submitted_in e ∙ sym (append-nil (submitted_in a))

pub record StepSubmits (step : link.Step) (s s' : Snapshot) : Type 0 where
  pub client : submitted_in s'.cl ≡ submitted_in s.cl ++ submitted_by Client (step ∷ [])
  pub server : submitted_in s'.sl ≡ submitted_in s.sl ++ submitted_by Server (step ∷ [])

step_submits : (t : Talkers) (step : link.Step) (s s' : Snapshot) → DoesStep t step s s' → StepSubmits step s s'
step_submits t (Submit Client p) s s' h = record { client = log_more s.cl s'.cl h.0 (p ∷ []) h.1.log h.2; server = log_same s.sl s'.sl h.1.other_log }
step_submits t (Submit Server p) s s' h = record { client = log_same s.cl s'.cl h.1.other_log; server = log_more s.sl s'.sl h.0 (p ∷ []) h.1.log h.2 }
step_submits t (Deliver Client n) s s' h = record { client = log_more s.cl s'.cl h.0 [] h.1.log h.2; server = log_same s.sl s'.sl h.1.other_log }
step_submits t (Deliver Server n) s s' h = record { client = log_same s.cl s'.cl h.1.other_log; server = log_more s.sl s'.sl h.0 [] h.1.log h.2 }
step_submits t (Rekey sd) s s' (inl h) = record { client = log_same s.cl s'.cl h.1.client_log; server = log_same s.sl s'.sl h.1.server_log }
step_submits t (Rekey Client) s s' (inr h) = record { client = log_more s.cl s'.cl (ExchangeBegun Asked h.0 ∷ []) [] h.2.log refl; server = log_same s.sl s'.sl h.2.other_log }
step_submits t (Rekey Server) s s' (inr h) = record { client = log_same s.cl s'.cl h.2.other_log; server = log_more s.sl s'.sl (ExchangeBegun Asked h.0 ∷ []) [] h.2.log refl }
step_submits t Settle s s' h = record { client = log_more s.cl s'.cl h.client_events [] h.client_log h.client_none; server = log_more s.sl s'.sl h.server_events [] h.server_log h.server_none }

on_and_on : (a b c front more all : List (List ℕ)) → b ≡ a ++ front → c ≡ b ++ more → all ≡ front ++ more → c ≡ a ++ all
on_and_on a b c front more all e f g = f ∙ (ap (λ q. q ++ more) e ∙ (append_assoc a front more ∙ ap (λ q. a ++ q) (sym g)))

-- so many payloads as there are submits
pub submitted_last : (t : Talkers) (kind : Bool) (steps : List link.Step) (s : Snapshot) (snapshots : List Snapshot) → DoesSteps t kind steps s snapshots → (submitted_in (last_snapshot s snapshots).cl ≡ submitted_in s.cl ++ submitted_by Client steps) × (submitted_in (last_snapshot s snapshots).sl ≡ submitted_in s.sl ++ submitted_by Server steps)
submitted_last t kind [] s [] h = (sym (append-nil (submitted_in s.cl)), sym (append-nil (submitted_in s.sl)))
submitted_last t kind (step ∷ steps) s (s' ∷ snapshots) h =
    let one = step_submits t step s s' h.1 in
    let rest = submitted_last t kind steps s' snapshots h.2 in (
      on_and_on (submitted_in s.cl) (submitted_in s'.cl) (submitted_in (last_snapshot s' snapshots).cl) (submitted_by Client (step ∷ [])) (submitted_by Client steps) (submitted_by Client (step ∷ steps)) one.client rest.0 (submits_on Client step steps),
      on_and_on (submitted_in s.sl) (submitted_in s'.sl) (submitted_in (last_snapshot s' snapshots).sl) (submitted_by Server (step ∷ [])) (submitted_by Server steps) (submitted_by Server (step ∷ steps)) one.server rest.1 (submits_on Server step steps),
    )
submitted_last t kind [] s (s' ∷ snapshots) h = absurd h
submitted_last t kind (step ∷ steps) s [] h = absurd h

-- ---- rekeys that were asked for

abbrev pub rekeys_by : Side → List link.Step → ℕ
rekeys_by side [] = 0
rekeys_by side (Rekey s ∷ steps) = if same_side s side then 1 + rekeys_by side steps else rekeys_by side steps
rekeys_by side (Submit s p ∷ steps) = rekeys_by side steps
rekeys_by side (Deliver s n ∷ steps) = rekeys_by side steps
rekeys_by side (Settle ∷ steps) = rekeys_by side steps

pub asked_more : (a b : List Cause) → asked_in (a ++ b) ≡ asked_in a + asked_in b
asked_more [] b = omega arith
asked_more (c ∷ a) b = let r = asked_more a b in omega (arith, r)

asked_on : (a b events : List Event) → b ≡ a ++ events → asked_in (causes_in b) ≡ asked_in (causes_in a) + asked_in (causes_in events)
asked_on a b events e = ap (λ q. asked_in (causes_in q)) e ∙ (ap asked_in (causes_more a events) ∙ asked_more (causes_in a) (causes_in events))

not_asked : (n : ℕ) → (1 ≤ n → ⊥) → n ≡ 0
not_asked zero h = refl
not_asked (suc n) h = absurd (h (omega arith))

-- unless it is the side's own rekey, a step asks for none
pub none_client : (t : Talkers) (step : link.Step) (s s' : Snapshot) → (Some step ≡ Some (Rekey Client) → ⊥) → LeadsOn t (Some step) s s' → asked_in (causes_in s'.cl) ≡ asked_in (causes_in s.cl)
none_client t step s s' other b = let z = not_asked (asked_in (causes_in (client_log b.turns))) (λ l. other (b.client_asked l)) in let e = asked_on s.cl s'.cl (client_log b.turns) b.cl in omega (arith, z, e)

pub none_server : (t : Talkers) (step : link.Step) (s s' : Snapshot) → (Some step ≡ Some (Rekey Server) → ⊥) → LeadsOn t (Some step) s s' → asked_in (causes_in s'.sl) ≡ asked_in (causes_in s.sl)
none_server t step s s' other b = let z = not_asked (asked_in (causes_in (server_log b.turns))) (λ l. other (b.server_asked l)) in let e = asked_on s.sl s'.sl (server_log b.turns) b.sl in omega (arith, z, e)

pub record StepAsks (step : link.Step) (s s' : Snapshot) : Type 0 where
  pub client : asked_in (causes_in s'.cl) ≤ asked_in (causes_in s.cl) + rekeys_by Client (step ∷ [])
  pub server : asked_in (causes_in s'.sl) ≤ asked_in (causes_in s.sl) + rekeys_by Server (step ∷ [])

step_asks : (t : Talkers) (step : link.Step) (s s' : Snapshot) → DoesStep t step s s' → LeadsOn t (Some step) s s' → StepAsks step s s'
step_asks t (Submit sd p) s s' h b = record { client = (let e = none_client t (Submit sd p) s s' (λ q. cc) b in omega (arith, e)); server = (let e = none_server t (Submit sd p) s s' (λ q. cc) b in omega (arith, e)) }
step_asks t (Deliver sd n) s s' h b = record { client = (let e = none_client t (Deliver sd n) s s' (λ q. cc) b in omega (arith, e)); server = (let e = none_server t (Deliver sd n) s s' (λ q. cc) b in omega (arith, e)) }
step_asks t Settle s s' h b = record { client = (let e = none_client t Settle s s' (λ q. cc) b in omega (arith, e)); server = (let e = none_server t Settle s s' (λ q. cc) b in omega (arith, e)) }
step_asks t (Rekey Client) s s' (inl h) b = record { client = (let e = ap (λ q. asked_in (causes_in q)) h.1.client_log in omega (arith, e)); server = (let e = ap (λ q. asked_in (causes_in q)) h.1.server_log in omega (arith, e)) }
step_asks t (Rekey Server) s s' (inl h) b = record { client = (let e = ap (λ q. asked_in (causes_in q)) h.1.client_log in omega (arith, e)); server = (let e = ap (λ q. asked_in (causes_in q)) h.1.server_log in omega (arith, e)) }
step_asks t (Rekey Client) s s' (inr h) b = record { client = (let e = asked_on s.cl s'.cl (ExchangeBegun Asked h.0 ∷ []) h.2.log in omega (arith, e)); server = (let e = ap (λ q. asked_in (causes_in q)) h.2.other_log in omega (arith, e)) }
step_asks t (Rekey Server) s s' (inr h) b = record { client = (let e = ap (λ q. asked_in (causes_in q)) h.2.other_log in omega (arith, e)); server = (let e = asked_on s.sl s'.sl (ExchangeBegun Asked h.0 ∷ []) h.2.log in omega (arith, e)) }

rekeys_on : (side : Side) (step : link.Step) (steps : List link.Step) → rekeys_by side (step ∷ steps) ≡ rekeys_by side (step ∷ []) + rekeys_by side steps
rekeys_on Client (Rekey Client) steps = refl
rekeys_on Client (Rekey Server) steps = omega arith
rekeys_on Server (Rekey Client) steps = omega arith
rekeys_on Server (Rekey Server) steps = refl
rekeys_on side (Submit s p) steps = omega arith
rekeys_on side (Deliver s n) steps = omega arith
rekeys_on side Settle steps = omega arith

pub asked_last : (t : Talkers) (kind : Bool) (steps : List link.Step) (s : Snapshot) (snapshots : List Snapshot) → DoesSteps t kind steps s snapshots → TurnsLeadOn t steps s snapshots → (asked_in (causes_in (last_snapshot s snapshots).cl) ≤ asked_in (causes_in s.cl) + rekeys_by Client steps) × (asked_in (causes_in (last_snapshot s snapshots).sl) ≤ asked_in (causes_in s.sl) + rekeys_by Server steps)
asked_last t kind [] s [] h r = (omega arith, omega arith)
asked_last t kind (step ∷ steps) s (s' ∷ snapshots) h r =
    let one = step_asks t step s s' h.1 r.0 in
    let rest = asked_last t kind steps s' snapshots h.2 r.1 in
    (omega (arith, one.client, rest.0, rekeys_on Client step steps), omega (arith, one.server, rest.1, rekeys_on Server step steps))
asked_last t kind [] s (s' ∷ snapshots) h r = absurd h
asked_last t kind (step ∷ steps) s [] h r = absurd h

-- all together they are within the bound
pub step_bound : (steps : List link.Step) → 1 + (rekeys_by Client steps + rekeys_by Server steps) + 2 * (length (submitted_by Client steps) + length (submitted_by Server steps)) ≤ bound_of steps
step_bound [] = omega arith
step_bound (Submit Client p ∷ steps) = let r = step_bound steps in omega (arith, r)
step_bound (Submit Server p ∷ steps) = let r = step_bound steps in omega (arith, r)
step_bound (Deliver s n ∷ steps) = let r = step_bound steps in omega (arith, r)
step_bound (Rekey Client ∷ steps) = let r = step_bound steps in omega (arith, r)
step_bound (Rekey Server ∷ steps) = let r = step_bound steps in omega (arith, r)
step_bound (Settle ∷ steps) = let r = step_bound steps in omega (arith, r)

pub last_is_snapshot : (t : Talkers) (kind : Bool) (steps : List link.Step) (s : Snapshot) (snapshots : List Snapshot) → DoesSteps t kind steps s snapshots → IsSnapshot t kind (last_snapshot s snapshots)
last_is_snapshot t kind [] s [] h = h
last_is_snapshot t kind (step ∷ steps) s (s' ∷ snapshots) h = last_is_snapshot t kind steps s' snapshots h.2
last_is_snapshot t kind [] s (s' ∷ snapshots) h = absurd h
last_is_snapshot t kind (step ∷ steps) s [] h = absurd h

last_mark : (t : Talkers) (kind : Bool) (steps : List link.Step) (s : Snapshot) (snapshots : List Snapshot) → DoesSteps t kind steps s snapshots → slice_get (map (λ (x : Snapshot). x.mark) (s ∷ snapshots)) (length steps) ≡ Some (last_snapshot s snapshots).mark
last_mark t kind [] s [] h = refl
last_mark t kind (step ∷ steps) s (s' ∷ snapshots) h = last_mark t kind steps s' snapshots h.2
last_mark t kind [] s (s' ∷ snapshots) h = absurd h
last_mark t kind (step ∷ steps) s [] h = absurd h

same_snapshot : (a b : Snapshot) → Some a ≡ Some b → a ≡ b
same_snapshot a b e = cc

snapshot_at : (t : Talkers) (kind : Bool) (steps : List link.Step) (s : Snapshot) (snapshots : List Snapshot) (j : ℕ) (x : Snapshot) → DoesSteps t kind steps s snapshots → slice_get (s ∷ snapshots) j ≡ Some x → IsSnapshot t kind x
snapshot_at t kind steps s snapshots zero x h e = subst (λ y. IsSnapshot t kind y) (same_snapshot s x e) (first_is_snapshot t kind steps s snapshots h)
snapshot_at t kind [] s [] (suc j) x h e = cc
snapshot_at t kind (step ∷ steps) s (s' ∷ snapshots) (suc j) x h e = snapshot_at t kind steps s' snapshots j x h.2 e
snapshot_at t kind [] s (s' ∷ snapshots) (suc j) x h e = absurd h
snapshot_at t kind (step ∷ steps) s [] (suc j) x h e = cc

-- the last mark is what the report says
ends_at : (t : Talkers) (side : Side) (log : List Event) (h : LinkEnd) (m : SideMark) → RunsInLink t side log h → IsMarkOf t side log h m → IsLastMark (side_report t side log h m) m
ends_at t side log h m r k = record {
  sent = (let e = k.sent in let l = length-append (id_line (t.config side).id) h.sent in omega (arith, e, l));
  taken_is = refl;
  delivered_is = k.delivered;
  finished = k.finished ∙ ap length (recorded_is (t.says side) side (t.config side) (t.own_id side) log first_state h.state r.ran.steps);
}

-- no more exchanges are recorded than were begun
records_few : (t : Talkers) (side : Side) (log : List Event) (h : LinkEnd) (bound : ℕ) → RunsInLink t side log h → begun h.state ≤ bound → length (recorded log) ≤ bound
records_few t side log h bound r l = let e = ap length (recorded_is (t.says side) side (t.config side) (t.own_id side) log first_state h.state r.ran.steps) in omega (arith, e, l)

-- the payloads on a wire were submitted
pub few_sent : (t : Talkers) (side : Side) (log : List Event) (h : LinkEnd) → RunsInLink t side log h → payloads_in (wrote log) ≤ length (submitted_in log)
few_sent t side log h r =
    let s = ap length (submits (t.says side) side (t.config side) (t.own_id side) log first_state h.state no_trace (tidy_first (t.says side) side (t.config side) (t.own_id side)) r.ran.steps) in
    let l = length-append (carried_payloads (wrote log)) h.state.held in
    let f = few_payloads (wrote log) in
    omega (arith, s, l, f)

-- What a loop keeps is the headline: each moment is what both logs make of it, each step does what such a step does,
-- and its turns lead on.
pub link_is : (says : Side → Says) (config : Side → Config) (client_makes : ClientPairs) (server_makes : ServerValues) (agrees : Secrets) (steps : List link.Step) (snapshots : List Snapshot)
    → ((side : Side) → config_fault side (config side) ≡ None) → ((side : Side) → HasSizes (config side)) → TellsParts (says Client) (says Server) client_makes server_makes agrees → OneSecret (says Client) (says Server) → FindsCanonical (says Server)
    → DoesSteps (talkers says config) (kind_chosen config) steps (first_snapshot (talkers says config)) snapshots → TurnsLeadOn (talkers says config) steps (first_snapshot (talkers says config)) snapshots
    → IsLink client_makes server_makes agrees (config Client) (config Server) steps (report_of (talkers says config) (first_snapshot (talkers says config)) snapshots)
unfolding trail_is_run is_run
link_is says config cm sm ag steps snapshots valid sizes tells secret canonical pursued trail = record {
  client_items = wrote last.cl;
  server_items = wrote last.sl;
  client_wire = subst (λ q. IsWire Client (config Client) (λ k. kind_chosen config) (λ k. None) q (recorded last.cl) (id_line (config Client).id ++ last.world.client.sent) (wrote last.cl)) submitted.0 (link_wire says config Client last.cl last.sl last.world.client last.world.server sizes cw sw i.held.client i.held.server step.to_client);
  server_wire = subst (λ q. IsWire Server (config Server) (λ k. kind_chosen config) (λ k. host_by (config Server) (chosen_by (config Client) (config Server))) q (recorded last.sl) (id_line (config Server).id ++ last.world.server.sent) (wrote last.sl)) submitted.1 (link_wire says config Server last.sl last.cl last.world.server last.world.client sizes cw sw i.held.server i.held.client step.to_server);
  client_made = client_made says config cm sm ag last.world last.cl last.sl parts i.held step;
  server_made = server_made says config cm sm ag last.world last.cl last.sl parts i.held step;
  same = step.records;
  to_server = (handled last.sl, now.at_server.taken_whole, delivers (says Server) Server (config Server) (id_text (config Server).id) last.sl first_state last.world.server.state i.held.server.ran.steps);
  to_client = (handled last.cl, now.at_client.taken_whole, delivers (says Client) Client (config Client) (id_text (config Client).id) last.cl first_state last.world.client.state i.held.client.ran.steps);
  last = (last.mark, last_mark t kind steps s snapshots pursued, ends_at t Client last.cl last.world.client last.mark.client i.held.client i.client_mark, ends_at t Server last.sl last.world.server last.mark.server i.held.server i.server_mark);
  run = trail_is_run t kind steps s snapshots (submitted_by Client steps) (submitted_by Server steps) fit limits small_c small_s (record { world = refl; cl = refl; sl = refl }) pursued trail (record { of_client = refl; of_server = refl });
  on_time = λ j m e. (let x = get_map_back (s ∷ snapshots) j m e in subst (λ (n : Moment). IsOnTime n.mark.client n.client_own × IsOnTime n.mark.server n.server_own) x.2 (snapshot_on_time t kind x.0 (snapshot_at t kind steps s snapshots j x.0 pursued x.1)));
  client_fresh = run_fresh (says Client) Client (config Client) (id_text (config Client).id) last.cl last.world.client.state (write_limit Client (config Client) (valid Client)) i.held.client.ran.steps;
  server_fresh = run_fresh (says Server) Server (config Server) (id_text (config Server).id) last.sl last.world.server.state (write_limit Server (config Server) (valid Server)) i.held.server.ran.steps;
  few = (records_few t Client last.cl last.world.client (bound_of steps) i.held.client (within (begun last.world.client.state) bounded.0), records_few t Server last.sl last.world.server (bound_of steps) i.held.server (within (begun last.world.server.state) bounded.1));
} where
  t : Talkers
  t = talkers says config

  s : Snapshot
  s = first_snapshot t

  kind : Bool
  kind = kind_chosen config

  last : Snapshot
  last = last_snapshot s snapshots

  fit : AreFit t
  fit = are_fit says config valid sizes secret canonical

  limits : HaveLimits t
  limits = have_limits says config valid

  small_c : SmallLimits (config Client)
  small_c = small_limits Client (config Client) (valid Client)

  small_s : SmallLimits (config Server)
  small_s = small_limits Server (config Server) (valid Server)

  cw : IsWithin (offers_of Client (config Client))
  cw = is_within Client (config Client) (valid Client)

  sw : IsWithin (offers_of Server (config Server))
  sw = is_within Server (config Server) (valid Server)

  parts : Parts says config cm sm ag
  parts = record { tells = tells; secret = secret; canonical = canonical; client_within = cw; server_within = sw }

  i : IsSnapshot t kind last
  i = last_is_snapshot t kind steps s snapshots pursued

  step : InStep (wrote last.cl) (handled last.cl) (wrote last.sl) (handled last.sl) (recorded last.cl) (recorded last.sl)
  step = held_in_step t last.world last.cl last.sl fit i.held

  submitted : (submitted_in last.cl ≡ submitted_by Client steps) × (submitted_in last.sl ≡ submitted_by Server steps)
  submitted = submitted_last t kind steps s snapshots pursued

  asked : (asked_in (causes_in last.cl) ≤ rekeys_by Client steps) × (asked_in (causes_in last.sl) ≤ rekeys_by Server steps)
  asked = (let q = asked_last t kind steps s snapshots pursued trail in (omega (arith, q.0), omega (arith, q.1)))

  now : IsMoment kind (half_in t Client last.cl last.world.client (submitted_by Client steps)) (half_in t Server last.sl last.world.server (submitted_by Server steps)) (moment_of last)
  now = is_moment t kind last last (submitted_by Client steps) (submitted_by Server steps) fit small_c small_s i (leads_self t last)

  leads : LeadsTo t s last
  leads = leads_on t steps s snapshots trail

  bounded : (begun last.world.client.state ≤ most_begun last.cl last.sl) × (begun last.world.server.state ≤ most_begun last.cl last.sl)
  bounded = subst (λ q. (begun last.world.client.state ≤ most_begun q last.sl) × (begun last.world.server.state ≤ most_begun q last.sl)) (sym leads.cl) (subst (λ q. (begun last.world.client.state ≤ most_begun (client_log leads.turns) q) × (begun last.world.server.state ≤ most_begun (client_log leads.turns) q)) (sym leads.sl) (link_bounded t leads.turns last.world fit limits leads.plays))

  within : (n : ℕ) → n ≤ most_begun last.cl last.sl → n ≤ bound_of steps
  within n l =
      let a = few_sent t Client last.cl last.world.client i.held.client in let b = few_sent t Server last.sl last.world.server i.held.server in
      let c : length (submitted_in last.cl) ≡ length (submitted_by Client steps) = ap length submitted.0 in let d : length (submitted_in last.sl) ≡ length (submitted_by Server steps) = ap length submitted.1 in
      let x = asked.0 in let y = asked.1 in let z = step_bound steps in omega (arith, l, a, b, c, d, x, y, z)
