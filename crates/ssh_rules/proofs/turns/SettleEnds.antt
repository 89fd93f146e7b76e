-- A settle ends before its turns do: no more exchanges are begun than were asked for, each turn in which bytes wait
-- leaves less to do, and where none wait both sides rest.
use Rattle.std.proofs.Common.{◌≡◌, ℕ, ◌+◌, ◌-◌, ◌*◌, ◌≤◌, List, [], ◌∷◌, ◌++◌, length, min, refl, sym, ◌∙◌, ap, subst, arith, Bool, Option, Some, None, if◌then◌else◌, length-append}
use Rattle.ssh_wire.specs.declared.side.Side.{Side}
use Rattle.ssh_wire.specs.declared.side.Side.TheVariants.{Client, Server}
use Rattle.ssh_kex.specs.Setting.{Says}
use Rattle.ssh_kex.specs.declared.config.Config.{Config}
use Rattle.ssh_rules.specs.Counting.{begun, left, open_count}
use Rattle.ssh_rules.specs.Headline.{bound_of, submitted_by}
use Rattle.ssh_rules.specs.Log.{asked_in, causes_in, sent_bytes, submitted_in, wrote}
use Rattle.ssh_rules.specs.Machine.{Where, Silent, Outside, Inside, SideState, Spot, Event, IdHeard, PayloadSubmitted, ExchangeBegun, AnswerSent, PayloadSent, MessageTaken, GuessDropped, PayloadDelivered, PacketDropped, ExchangeFinished, Steps, first_state}
use Rattle.ssh_rules.specs.Run.{IsSettled}
use Rattle.ssh_rules.specs.Snapshots.{DoesSteps, IsReached, IsSnapshot, LeadsOn, RunsInLink, Snapshot, TurnsLeadOn, client_log, first_snapshot, last_snapshot, server_log}
use Rattle.ssh_rules.specs.Standing.{is_outside}
use Rattle.ssh_rules.specs.Turns.{LinkEnd, Plays, Talkers, Turn, World, first_world}
use Rattle.ssh_rules.specs.Wire.{carried_payloads}
use Rattle.ssh_rules.specs.declared.link.Step as link
use Rattle.ssh_rules.specs.declared.link.Step.TheVariants.{Settle}
use Rattle.ssh_rules.proofs.marks.Effects.{both_handled, is_settled}
use Rattle.ssh_rules.proofs.side.LedgerSteps.{tidy_first}
use Rattle.ssh_rules.proofs.side.Left.{left_steps, settle_measure, settle_turn}
use Rattle.ssh_rules.proofs.turns.LinkBounded.{HaveLimits, kept_of}
use Rattle.ssh_rules.proofs.turns.LinkFew.{link_bounded, most_begun}
use Rattle.ssh_rules.proofs.headline.LinkIs.{asked_last, few_sent, none_client, none_server, step_bound, submitted_last}
use Rattle.ssh_rules.proofs.marks.Moments.{LeadsTo}
use Rattle.ssh_rules.proofs.side.Payloads.{submits}
use Rattle.ssh_rules.proofs.turns.SettleRoom.{settle_room}
use Rattle.ssh_rules.proofs.side.StageFits.{no_trace}
use Rattle.ssh_rules.proofs.marks.StepEffects.{settled_client, settled_server}
use Rattle.ssh_rules.proofs.marks.Trail.{client_join, joined, leads_on, plays_join, server_join}
use Rattle.ssh_rules.proofs.turns.Turns.{AreFit}

-- ---- how many exchanges are begun

-- how many exchanges what stands in both logs lets be begun
abbrev pub most_allowed : List Event → List Event → ℕ
most_allowed cl sl = 1 + (asked_in (causes_in cl) + asked_in (causes_in sl)) + 2 * (length (submitted_in cl) + length (submitted_in sl))

-- behind all steps
pub steps_allow : (t : Talkers) (kind : Bool) (steps : List link.Step) (snapshots : List Snapshot) → DoesSteps t kind steps (first_snapshot t) snapshots → TurnsLeadOn t steps (first_snapshot t) snapshots → most_allowed (last_snapshot (first_snapshot t) snapshots).cl (last_snapshot (first_snapshot t) snapshots).sl ≤ bound_of steps
steps_allow t kind steps snapshots h r =
    let a = asked_last t kind steps (first_snapshot t) snapshots h r in
    let b = submitted_last t kind steps (first_snapshot t) snapshots h in
    let c : length (submitted_in (last_snapshot (first_snapshot t) snapshots).cl) ≡ length (submitted_by Client steps) = ap length b.0 in
    let d : length (submitted_in (last_snapshot (first_snapshot t) snapshots).sl) ≡ length (submitted_by Server steps) = ap length b.1 in
    let e = step_bound steps in
    omega (arith, a.0, a.1, c, d, e)

-- a settle asks for none, and submits nothing
pub settle_allows : (t : Talkers) (s s' : Snapshot) → LeadsOn t (Some Settle) s s' → submitted_in s'.cl ≡ submitted_in s.cl → submitted_in s'.sl ≡ submitted_in s.sl → most_allowed s'.cl s'.sl ≡ most_allowed s.cl s.sl
settle_allows t s s' b e f =
    let x = none_client t Settle s s' (λ q. cc) b in
    let y = none_server t Settle s s' (λ q. cc) b in
    let c = ap length e in
    let d = ap length f in
    omega (arith, x, y, c, d)

pub few_begun : (t : Talkers) (turns : List Turn) (w : World) (cl sl : List Event) → AreFit t → HaveLimits t → Plays t first_world turns w → cl ≡ client_log turns → sl ≡ server_log turns → IsReached t w cl sl → (begun w.client.state ≤ most_allowed cl sl) × (begun w.server.state ≤ most_allowed cl sl)
few_begun t turns w cl sl fit limits p ec es h =
    let b = link_bounded t turns w fit limits p in
    let m : most_begun cl sl ≡ most_begun (client_log turns) (server_log turns) = ap (λ q. most_begun q sl) ec ∙ ap (λ q. most_begun (client_log turns) q) es in
    let x = few_sent t Client cl w.client h.client in
    let y = few_sent t Server sl w.server h.server in
    (omega (arith, b.0, m, x, y), omega (arith, b.1, m, x, y))

pub leads_then : (t : Talkers) (step : Option link.Step) (s m s' : Snapshot) → LeadsTo t s m → LeadsOn t step m s' → LeadsTo t s s'
leads_then t step s m s' l b = record {
  turns = l.turns ++ b.turns;
  plays = plays_join t l.turns b.turns s.world m.world s'.world l.plays b.plays;
  cl = joined s.cl m.cl s'.cl (client_log l.turns) (client_log b.turns) (client_log (l.turns ++ b.turns)) l.cl b.cl (client_join l.turns b.turns);
  sl = joined s.sl m.sl s'.sl (server_log l.turns) (server_log b.turns) (server_log (l.turns ++ b.turns)) l.sl b.sl (server_join l.turns b.turns);
}

-- In a settle behind some steps no side has begun more exchanges than these let be begun.
pub settle_few : (t : Talkers) (kind : Bool) (steps : List link.Step) (snapshots : List Snapshot) (s' : Snapshot) → AreFit t → HaveLimits t → DoesSteps t kind steps (first_snapshot t) snapshots → TurnsLeadOn t steps (first_snapshot t) snapshots → LeadsOn t (Some Settle) (last_snapshot (first_snapshot t) snapshots) s' → submitted_in s'.cl ≡ submitted_in (last_snapshot (first_snapshot t) snapshots).cl → submitted_in s'.sl ≡ submitted_in (last_snapshot (first_snapshot t) snapshots).sl → IsSnapshot t kind s' → (begun s'.world.client.state ≤ bound_of steps) × (begun s'.world.server.state ≤ bound_of steps)
settle_few t kind steps snapshots s' fit limits h r b e f i =
    let to = leads_then t (Some Settle) (first_snapshot t) (last_snapshot (first_snapshot t) snapshots) s' (leads_on t steps (first_snapshot t) snapshots r) b in
    let few = few_begun t to.turns s'.world s'.cl s'.sl fit limits to.plays to.cl to.sl i.held in
    let a = settle_allows t (last_snapshot (first_snapshot t) snapshots) s' b e f in
    let c = steps_allow t kind steps snapshots h r in
    (omega (arith, few.0, a, c), omega (arith, few.1, a, c))

-- one for a side that is inside an exchange, as it is from its start on
abbrev inside_count : Where → ℕ
inside_count w = if is_outside w then 0 else 1

-- With that no more are counted where one may be begun.
pub few_with_first : (t : Talkers) (side : Side) (log : List Event) (h : LinkEnd) (bound : ℕ) → RunsInLink t side log h → 1 ≤ bound → begun h.state ≤ bound → length h.state.records + (if is_outside h.state.stands then 0 else 1) ≤ bound
few_with_first t side log h bound r some few = by h.state.stands refl where
  by : (w : Where) → h.state.stands ≡ w → length h.state.records + inside_count h.state.stands ≤ bound
  by Silent e = (let a : length h.state.records ≡ 0 = ap length ((kept_of t side log h r).accounts.silent e) in let b : inside_count h.state.stands ≡ 1 = ap inside_count e in omega (arith, a, b, some))
  by Outside e = (let b : inside_count h.state.stands ≡ 0 = ap inside_count e in omega (arith, b, few))
  by (Inside stage) e = (let b : inside_count h.state.stands ≡ 1 = ap inside_count e in let c : open_count h.state.stands ≡ 1 = ap open_count e in omega (arith, b, c, few))

-- ---- how many turns there are

few_held : (t : Talkers) (side : Side) (log : List Event) (h : LinkEnd) → RunsInLink t side log h → length h.state.held ≤ length (submitted_in log)
few_held t side log h r =
    let s = ap length (submits (t.says side) side (t.config side) (t.own_id side) log first_state h.state no_trace (tidy_first (t.says side) side (t.config side) (t.own_id side)) r.ran.steps) in
    let l = length-append (carried_payloads (wrote log)) h.state.held in
    omega (arith, s, l)

-- A settle begins with a measure of no more than its turns.
pub settle_starts : (t : Talkers) (kind : Bool) (steps : List link.Step) (snapshots : List Snapshot) → DoesSteps t kind steps (first_snapshot t) snapshots → TurnsLeadOn t steps (first_snapshot t) snapshots → (s : Snapshot) → s ≡ last_snapshot (first_snapshot t) snapshots → IsSnapshot t kind s → begun s.world.client.state ≤ bound_of steps → begun s.world.server.state ≤ bound_of steps → settle_measure (left (bound_of steps) s.world.client.state) (left (bound_of steps) s.world.server.state) 1 1 ≤ 32 * bound_of steps
settle_starts t kind steps snapshots h r s e i cf sf =
    let allow : most_allowed s.cl s.sl ≤ bound_of steps = subst (λ (x : Snapshot). most_allowed x.cl x.sl ≤ bound_of steps) (sym e) (steps_allow t kind steps snapshots h r) in
    let a = few_held t Client s.cl s.world.client i.held.client in
    let b = few_held t Server s.sl s.world.server i.held.server in
    settle_room (bound_of steps) (length (submitted_in s.cl) + length (submitted_in s.sl)) s.world.client.state s.world.server.state cf sf i.client_rests.quiet.owes i.server_rests.quiet.owes (omega (arith, a, b)) (omega (arith, allow))

-- a side that wrote no packet sent nothing
none_sent : (side : Side) (es : List Event) (at : Spot) → length (wrote es) ≡ 0 → sent_bytes side at es ≡ []
none_sent side [] at e = refl
none_sent side (IdHeard id ∷ es) at e = none_sent side es at e
none_sent side (PayloadSubmitted p ∷ es) at e = none_sent side es at e
none_sent side (ExchangeBegun cause i ∷ es) at e = absurd (omega (arith, e))
none_sent side (AnswerSent i q ∷ es) at e = absurd (omega (arith, e))
none_sent side (PayloadSent i ∷ es) at e = absurd (omega (arith, e))
none_sent side (MessageTaken i ∷ es) at e = none_sent side es at e
none_sent side (GuessDropped i ∷ es) at e = none_sent side es at e
none_sent side (PayloadDelivered i ∷ es) at e = none_sent side es at e
none_sent side (PacketDropped i ∷ es) at e = none_sent side es at e
none_sent side (ExchangeFinished i x ∷ es) at e = none_sent side es _ e

-- whether bytes wait, as a number
abbrev pub waits_for : ℕ → ℕ → ℕ
waits_for taken sent = min 1 (sent - taken)

-- one side takes all that waits for it
pub side_lowers : (says : Says) (side : Side) (config : Config) (own_id : List ℕ) (bound : ℕ) (events : List Event) (st st' : SideState) (other taken taken' wire sent sent' peer_taken : ℕ) → Steps says side config own_id st events st' → submitted_in events ≡ [] → begun st' ≤ bound → sent' ≡ sent + length (sent_bytes side st.writing events) → wire ≤ taken' → settle_measure (left bound st') other (waits_for taken' wire) (waits_for peer_taken sent') + waits_for taken wire ≤ settle_measure (left bound st) other (waits_for taken wire) (waits_for peer_taken sent)
side_lowers says side config own_id bound events st st' other taken taken' wire sent sent' peer_taken h none few grown all =
    let l = left_steps says side config own_id bound events st st' h few in
    let z : length (submitted_in events) ≡ 0 = ap length none in
    let w : waits_for taken' wire ≡ 0 = omega (arith, all) in
    let same : length (wrote events) ≡ 0 → waits_for peer_taken sent' ≡ waits_for peer_taken sent = λ n. (let k : length (sent_bytes side st.writing events) ≡ 0 = ap length (none_sent side events st.writing n) in let g : sent' ≡ sent = omega (arith, grown, k) in ap (λ q. waits_for peer_taken q) g) in
    subst (λ q. settle_measure (left bound st') other q (waits_for peer_taken sent') + waits_for taken wire ≤ settle_measure (left bound st) other (waits_for taken wire) (waits_for peer_taken sent)) (sym w)
    (settle_turn (left bound st) (left bound st') other (length (wrote events)) (waits_for taken wire) (waits_for peer_taken sent) (waits_for peer_taken sent') (let m : left bound st' + length (wrote events) ≤ left bound st = drop_zero (left bound st' + length (wrote events)) (left bound st) (length (submitted_in events)) l z in m) (omega arith) same)
  where
    drop_zero : (a b n : ℕ) → a ≤ b + n → n ≡ 0 → a ≤ b
    drop_zero a b n h e = omega (arith, h, e)

-- first the server, then the client, where bytes wait for one of them
pub both_lower : (c c' s s' cw cw1 cw' sw sw1 sw' : ℕ) → settle_measure s' c sw1 cw1 + sw ≤ settle_measure s c sw cw → settle_measure c' s' cw' sw' + cw1 ≤ settle_measure c s' cw1 sw1 → cw ≤ cw1 → 1 ≤ cw + sw → settle_measure c' s' cw' sw' + 1 ≤ settle_measure c s cw sw
both_lower c c' s s' cw cw1 cw' sw sw1 sw' a b l w = omega (arith, a, b, l, w)

-- ---- where nothing waits

-- At a moment at which both have taken all neither is inside an exchange, and no input is left.
pub all_rest : (t : Talkers) (kind : Bool) (s : Snapshot) → AreFit t → IsSnapshot t kind s → s.mark.client.taken ≡ s.mark.server.sent → s.mark.server.taken ≡ s.mark.client.sent → IsSettled s.mark.client s.mark.server None None × ((s.world.client.unfinished ≡ []) × (s.world.server.unfinished ≡ []))
all_rest t kind s fit i to_c to_s =
    let c = settled_client t kind s i in
    let v = settled_server t kind s i in
    let all = both_handled t kind s.world s.cl s.sl s.mark fit i.held c v to_c to_s in
    (is_settled t kind s.world s.cl s.sl s.mark None None fit i.held c v to_c to_s tt tt, (all.0.1, all.1.1))
