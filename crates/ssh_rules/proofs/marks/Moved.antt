-- What a call on a side does to its mark.
use Rattle.std.proofs.Common.{◌≡◌, ℕ, ◌+◌, ◌<◌, ◌≤◌, List, [], ◌∷◌, ◌++◌, length, refl, sym, ◌∙◌, ap, arith, Bool, true, false, not, if◌then◌else◌, length-append, append-nil}
use Rattle.ssh_packet.specs.Sealing.{Item, sealed_packet}
use Rattle.ssh_packet.proofs.Lemmas.{length_sealed}
use Rattle.ssh_wire.specs.declared.side.Side.{Side}
use Rattle.ssh_kex.specs.declared.config.Config.{Config}
use Rattle.ssh_kex.specs.Setting.{Says}
use Rattle.ssh_rules.specs.declared.link.SideMark.{SideMark}
use Rattle.ssh_rules.specs.Wire.{epochs_ended, carried_payloads}
use Rattle.ssh_rules.specs.Machine.{Where, Silent, Outside, Inside, SideState, Asked, Event, IdHeard, PayloadSubmitted, ExchangeBegun, AnswerSent, PayloadSent, MessageTaken, GuessDropped, PayloadDelivered, PacketDropped, ExchangeFinished, Steps, first_state}
use Rattle.ssh_rules.specs.Log.{wrote, handled, recorded, delivered_in, submitted_in, sent_bytes}
use Rattle.ssh_rules.specs.Counting.{open_count}
use Rattle.ssh_rules.proofs.side.StageFits.{no_trace}
use Rattle.ssh_rules.proofs.side.Ledgers.{has_newkeys}
use Rattle.ssh_rules.specs.Marks.{epoch}
use Rattle.ssh_rules.specs.Run.{TakesNothing}
use Rattle.ssh_rules.specs.Headline.{IsOnTime}
use Rattle.ssh_rules.specs.Standing.{is_outside}
use Rattle.ssh_rules.specs.Turns.{LinkEnd, Talkers}
use Rattle.ssh_rules.proofs.side.Accounts.{Kept, kept_run, trace_of}
use Rattle.ssh_rules.proofs.side.LedgerSteps.{tidy_first}
use Rattle.ssh_rules.proofs.side.Payloads.{delivers, submits}
use Rattle.ssh_rules.proofs.side.Ran.{recorded_is}
use Rattle.ssh_rules.proofs.side.Tallied.{Tally, tally_run}
use Rattle.ssh_rules.specs.Snapshots.{RunsInLink, IsMarkOf, HasTurned}

-- ---- a mark keeps to its step

open_one : (w : Where) → open_count w ≤ 1
open_one Silent = omega arith
open_one Outside = omega arith
open_one (Inside stage) = omega arith

pub on_time : (t : Talkers) (side : Side) (log : List Event) (h : LinkEnd) (m : SideMark) → RunsInLink t side log h → IsMarkOf t side log h m → IsOnTime m (wrote log)
on_time t side log h m r mark = record {
  early = (let z = payloads in let f : length (carried_payloads (wrote log) ++ h.state.held) ≡ length (submitted_in log) = ap length z in let g = length-append (carried_payloads (wrote log)) h.state.held in let n = mark.submitted in omega (arith, f, g, n));
  silent = λ l. behind (has_newkeys (trace_of no_trace log).own) refl (let e = mark.finished in omega (arith, l, e));
  one_open = (let o = tally.own in let c = open_one h.state.stands in let f = mark.finished in omega (arith, o, c, f));
} where
  steps : Steps (t.says side) side (t.config side) (t.own_id side) first_state log h.state
  steps = r.ran.steps

  tally : Tally (wrote log) (Rattle.ssh_rules.specs.Log.kept_in log) h.state
  tally = tally_run (t.says side) side (t.config side) (t.own_id side) log h.state steps

  kept : Kept (t.says side) side (t.config side) (t.own_id side) (wrote log) (Rattle.ssh_rules.specs.Log.kept_in log) h.state (trace_of no_trace log)
  kept = kept_run (t.says side) side (t.config side) (t.own_id side) log h.state steps

  payloads : carried_payloads (wrote log) ++ h.state.held ≡ submitted_in log
  payloads = submits (t.says side) side (t.config side) (t.own_id side) log first_state h.state no_trace (tidy_first (t.says side) side (t.config side) (t.own_id side)) steps

  behind : (b : Bool) → has_newkeys (trace_of no_trace log).own ≡ b → length h.state.records < epochs_ended (wrote log) → epoch (wrote log) ≡ []
  behind true e l = tally.closed (sym kept.tidy.own_ended ∙ e)
  behind false e l = absurd (let f : epochs_ended (wrote log) ≡ length h.state.records + 0 = kept.accounts.own.ends_is ∙ ap (λ b. length h.state.records + (if b then 1 else 0)) e in omega (arith, l, f))

-- ---- events that handle nothing

cons_nil : {A : Type 0} (x : A) (xs : List A) → x ∷ xs ≡ [] → ⊥
cons_nil x xs e = cc

none_recorded : (es : List Event) → handled es ≡ [] → recorded es ≡ []
none_recorded [] e = refl
none_recorded (IdHeard id ∷ es) e = none_recorded es e
none_recorded (PayloadSubmitted p ∷ es) e = none_recorded es e
none_recorded (ExchangeBegun cause i ∷ es) e = none_recorded es e
none_recorded (AnswerSent i q ∷ es) e = none_recorded es e
none_recorded (PayloadSent i ∷ es) e = none_recorded es e
none_recorded (MessageTaken i ∷ es) e = absurd (cons_nil i (handled es) e)
none_recorded (GuessDropped i ∷ es) e = absurd (cons_nil i (handled es) e)
none_recorded (PayloadDelivered i ∷ es) e = absurd (cons_nil i (handled es) e)
none_recorded (PacketDropped i ∷ es) e = absurd (cons_nil i (handled es) e)
none_recorded (ExchangeFinished i x ∷ es) e = absurd (cons_nil i (handled es) e)

-- a side inside stays there
stays_inside : (says : Says) (side : Side) (config : Config) (own_id : List ℕ) (es : List Event) (st st' : SideState) → handled es ≡ [] → Steps says side config own_id st es st' → is_outside st.stands ≡ false → is_outside st'.stands ≡ false
stays_inside says side config own_id [] st st' e h o = ap (λ (s : SideState). is_outside s.stands) h ∙ o
stays_inside says side config own_id (IdHeard id ∷ es) st st' e h o = stays_inside says side config own_id es h.0 st' e h.2 (ap (λ (s : SideState). is_outside s.stands) h.1.becomes ∙ o)
stays_inside says side config own_id (PayloadSubmitted p ∷ es) st st' e h o = stays_inside says side config own_id es h.0 st' e h.2 (ap (λ (s : SideState). is_outside s.stands) h.1.becomes ∙ o)
stays_inside says side config own_id (ExchangeBegun cause i ∷ es) st st' e h o = stays_inside says side config own_id es h.0 st' e h.2 (ap (λ (s : SideState). is_outside s.stands) h.1.becomes)
stays_inside says side config own_id (AnswerSent i q ∷ es) st st' e h o = stays_inside says side config own_id es h.0 st' e h.2 (ap (λ (s : SideState). is_outside s.stands) h.1.becomes ∙ o)
stays_inside says side config own_id (PayloadSent i ∷ es) st st' e h o = stays_inside says side config own_id es h.0 st' e h.2 (ap (λ (s : SideState). is_outside s.stands) h.1.becomes ∙ o)
stays_inside says side config own_id (MessageTaken i ∷ es) st st' e h o = absurd (cons_nil i (handled es) e)
stays_inside says side config own_id (GuessDropped i ∷ es) st st' e h o = absurd (cons_nil i (handled es) e)
stays_inside says side config own_id (PayloadDelivered i ∷ es) st st' e h o = absurd (cons_nil i (handled es) e)
stays_inside says side config own_id (PacketDropped i ∷ es) st st' e h o = absurd (cons_nil i (handled es) e)
stays_inside says side config own_id (ExchangeFinished i x ∷ es) st st' e h o = absurd (cons_nil i (handled es) e)

pub submitted_more : (a b : List Event) → submitted_in (a ++ b) ≡ submitted_in a ++ submitted_in b
submitted_more [] b = refl
submitted_more (PayloadSubmitted p ∷ a) b = ap (λ x. p ∷ x) (submitted_more a b)
submitted_more (IdHeard id ∷ a) b = submitted_more a b
submitted_more (ExchangeBegun cause i ∷ a) b = submitted_more a b
submitted_more (AnswerSent i q ∷ a) b = submitted_more a b
submitted_more (PayloadSent i ∷ a) b = submitted_more a b
submitted_more (MessageTaken i ∷ a) b = submitted_more a b
submitted_more (GuessDropped i ∷ a) b = submitted_more a b
submitted_more (PayloadDelivered i ∷ a) b = submitted_more a b
submitted_more (PacketDropped i ∷ a) b = submitted_more a b
submitted_more (ExchangeFinished i x ∷ a) b = submitted_more a b

pub delivered_more : (a b : List Event) → delivered_in (a ++ b) ≡ delivered_in a ++ delivered_in b
delivered_more [] b = refl
delivered_more (PayloadDelivered i ∷ a) b = ap (λ x. i.payload ∷ x) (delivered_more a b)
delivered_more (PayloadSubmitted p ∷ a) b = delivered_more a b
delivered_more (IdHeard id ∷ a) b = delivered_more a b
delivered_more (ExchangeBegun cause i ∷ a) b = delivered_more a b
delivered_more (AnswerSent i q ∷ a) b = delivered_more a b
delivered_more (PayloadSent i ∷ a) b = delivered_more a b
delivered_more (MessageTaken i ∷ a) b = delivered_more a b
delivered_more (GuessDropped i ∷ a) b = delivered_more a b
delivered_more (PacketDropped i ∷ a) b = delivered_more a b
delivered_more (ExchangeFinished i x ∷ a) b = delivered_more a b

-- the bytes that a turn wrote
pub turn_sent : (t : Talkers) (side : Side) (log events : List Event) (h h' : LinkEnd) (m m' : SideMark) → HasTurned t side log events h h' m m' → m'.sent ≡ m.sent + length (sent_bytes side h.state.writing events)
turn_sent t side log events h h' m m' u =
    let a = u.before.sent in let b = u.behind.sent in let c : length h'.sent ≡ length (h.sent ++ sent_bytes side h.state.writing events) = ap length u.sends in let d = length-append h.sent (sent_bytes side h.state.writing events) in omega (arith, a, b, c, d)

-- the payloads that it was handed
pub turn_submitted : (t : Talkers) (side : Side) (log events : List Event) (h h' : LinkEnd) (m m' : SideMark) → HasTurned t side log events h h' m m' → m'.submitted ≡ m.submitted + length (submitted_in events)
turn_submitted t side log events h h' m m' u =
    let a = u.before.submitted in let b = u.behind.submitted in let c : length (submitted_in (log ++ events)) ≡ length (submitted_in log ++ submitted_in events) = ap length (submitted_more log events) in let d = length-append (submitted_in log) (submitted_in events) in omega (arith, a, b, c, d)

-- a turn that handles nothing takes nothing in
pub turn_takes_nothing : (t : Talkers) (side : Side) (log events : List Event) (h h' : LinkEnd) (m m' : SideMark) → HasTurned t side log events h h' m m' → handled events ≡ [] → m'.taken ≡ m.taken → TakesNothing m m'
turn_takes_nothing t side log events h h' m m' u n k = record {
  taken = k;
  delivered = (let a = u.before.delivered in let b = u.behind.delivered in let c : length (delivered_in (log ++ events)) ≡ length (delivered_in log ++ delivered_in events) = ap length (delivered_more log events) in let d = length-append (delivered_in log) (delivered_in events) in let z : length (delivered_in events) ≡ 0 = ap length (delivers (t.says side) side (t.config side) (t.own_id side) events h.state h'.state u.steps ∙ ap carried_payloads n) in omega (arith, a, b, c, d, z));
  finished = (let a = u.before.finished in let b = u.behind.finished in let c : length h'.state.records ≡ length (h.state.records ++ []) = ap length (recorded_is (t.says side) side (t.config side) (t.own_id side) events h.state h'.state u.steps ∙ ap (λ q. h.state.records ++ q) (none_recorded events n)) in let d : length (h.state.records ++ []) ≡ length h.state.records = ap length (append-nil h.state.records) in omega (arith, a, b, c, d));
}

not_true : (b : Bool) → true ≡ not b → b ≡ false
not_true true e = cc
not_true false e = refl

-- and a side that was inside is inside behind it
pub turn_inside : (t : Talkers) (side : Side) (log events : List Event) (h h' : LinkEnd) (m m' : SideMark) → HasTurned t side log events h h' m m' → handled events ≡ [] → m.inside ≡ true → m'.inside ≡ true
turn_inside t side log events h h' m m' u n k =
    u.behind.inside ∙ ap not (stays_inside (t.says side) side (t.config side) (t.own_id side) events h.state h'.state n u.steps (not_true _ (sym k ∙ u.before.inside)))

abbrev mark_with : ℕ → ℕ → ℕ → ℕ → Bool → ℕ → SideMark
mark_with a b c d e f = record { sent = a; taken = b; delivered = c; finished = d; inside = e; submitted = f }

-- two marks of a side that took as much are one
pub same_mark : (t : Talkers) (side : Side) (log : List Event) (h : LinkEnd) (m m' : SideMark) → IsMarkOf t side log h m → IsMarkOf t side log h m' → m'.taken ≡ m.taken → m' ≡ m
same_mark t side log h m m' a b e =
    one m m' (b.sent ∙ sym a.sent) e (b.delivered ∙ sym a.delivered) (b.finished ∙ sym a.finished) (b.inside ∙ sym a.inside) (b.submitted ∙ sym a.submitted)
  where
    one : (m m' : SideMark) → m'.sent ≡ m.sent → m'.taken ≡ m.taken → m'.delivered ≡ m.delivered → m'.finished ≡ m.finished → m'.inside ≡ m.inside → m'.submitted ≡ m.submitted → m' ≡ m
    one m m' e0 e1 e2 e3 e4 e5 = ap (λ (x : ℕ). mark_with x m'.taken m'.delivered m'.finished m'.inside m'.submitted) e0 ∙ (ap (λ (x : ℕ). mark_with m.sent x m'.delivered m'.finished m'.inside m'.submitted) e1 ∙ (ap (λ (x : ℕ). mark_with m.sent m.taken x m'.finished m'.inside m'.submitted) e2 ∙ (ap (λ (x : ℕ). mark_with m.sent m.taken m.delivered x m'.inside m'.submitted) e3 ∙ (ap (λ (x : Bool). mark_with m.sent m.taken m.delivered m.finished x m'.submitted) e4 ∙ (ap (λ (x : ℕ). mark_with m.sent m.taken m.delivered m.finished m.inside x) e5)))))

-- a rekey outside writes, and is inside behind it
pub turn_rekeys : (t : Talkers) (side : Side) (log : List Event) (i : Item) (h h' : LinkEnd) (m m' : SideMark) → HasTurned t side log (ExchangeBegun Asked i ∷ []) h h' m m' → (m.sent < m'.sent) × (m'.inside ≡ true)
turn_rekeys t side log i h h' m m' u = (
  let e = turn_sent t side log (ExchangeBegun Asked i ∷ []) h h' m m' u in let l = length_sealed h.state.writing.sealing h.state.writing.number i in let f = length-append (sealed_packet h.state.writing.sealing h.state.writing.number i) [] in omega (arith, e, l, f),
  u.behind.inside ∙ ap not (ap (λ (s : SideState). is_outside s.stands) u.steps.2 ∙ ap (λ (s : SideState). is_outside s.stands) u.steps.1.becomes),
)
