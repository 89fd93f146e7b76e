-- The effect of each kind of step on the marks.
use Rattle.std.proofs.Common.{◌≡◌, ℕ, zero, suc, ◌+◌, ◌-◌, ◌<◌, ◌≤◌, List, [], ◌∷◌, ◌++◌, length, map, refl, sym, ◌∙◌, ap, subst, arith, Option, Some, None, Bool, true, false, not, inl, inr, length-append, append-nil, min, max}
use Rattle.std.specs.Prelude.{IfSome}
use Rattle.ssh_packet.specs.Sealing.{Item}
use Rattle.ssh_packet.specs.Stream.{Place, first_place, Reads, IsEnd, place_behind_by, packet_at, by_type}
use Rattle.ssh_packet.proofs.Lemmas.{length_sealed, one_reading_by, plain_behind, reads_by_type, plain_by_type}
use Rattle.ssh_wire.specs.declared.side.Side.{Side}
use Rattle.ssh_wire.specs.declared.side.Side.TheVariants.{Client, Server}
use Rattle.ssh_kex.specs.Exchange.{outgoing}
use Rattle.ssh_wire.specs.Sides.{other_side}
use Rattle.ssh_rules.specs.declared.link.Step.TheVariants.{Submit, Deliver, Rekey, Settle}
use Rattle.ssh_rules.specs.declared.link.SideMark.{SideMark}
use Rattle.ssh_rules.specs.declared.link.Mark.{Mark}
use Rattle.ssh_rules.specs.Wire.{exchange_block, carried_payloads, HasFront}
use Rattle.ssh_rules.specs.Machine.{Where, Silent, Outside, Inside, SideState, Asked, Event, ExchangeBegun, first_state}
use Rattle.ssh_rules.specs.Log.{wrote, handled, kept_in, recorded, delivered_in, submitted_in}
use Rattle.ssh_rules.specs.Counting.{begun, open_count}
use Rattle.ssh_rules.proofs.side.StageFits.{no_trace}
use Rattle.ssh_rules.specs.Run.{Effect, StaysAsIs, IsSettled, mark_of}
use Rattle.ssh_rules.specs.Standing.{is_outside}
use Rattle.ssh_rules.specs.Turns.{LinkEnd, World, Talkers}
use Rattle.ssh_rules.proofs.side.Accounts.{Kept, trace_of}
use Rattle.ssh_rules.proofs.turns.LinkBounded.{kept_of}
use Rattle.ssh_rules.proofs.side.LedgerSteps.{tidy_first}
use Rattle.ssh_rules.proofs.side.Payloads.{delivers, submits}
use Rattle.ssh_rules.proofs.side.Prompt.{prompt_inside}
use Rattle.ssh_rules.proofs.side.Ran.{kept_all}
use Rattle.ssh_rules.proofs.pair.Settled.{Quiet, quiet_of, settled, due_some}
use Rattle.ssh_rules.proofs.side.Tallied.{Tally, tally_run}
use Rattle.ssh_rules.specs.Snapshots.{RunsInLink, IsReached, TookBytes, IsMarkOf, IsAtRest, IsOfKind, HasTurned}
use Rattle.ssh_rules.proofs.turns.Turns.{AreFit, facts}
use Rattle.ssh_rules.proofs.pair.Whole.{whole_is_handled}
use Rattle.ssh_rules.proofs.marks.Moved.{turn_sent, turn_submitted, turn_takes_nothing, turn_inside, turn_rekeys}

-- ---- a submit, a delivery, a rekey

pub submit_effect : (t : Talkers) (s : Side) (p : List ℕ) (log events : List Event) (h h' : LinkEnd) (cb sb : Option ℕ) (m m' : Mark) → HasTurned t s log events h h' (mark_of s m) (mark_of s m') → submitted_in events ≡ p ∷ [] → handled events ≡ [] → (mark_of s m').taken ≡ (mark_of s m).taken → StaysAsIs (other_side s) m m' → Effect (Submit s p) cb sb m m'
submit_effect t s p log events h h' cb sb m m' u one none k stays = (
  stays,
  turn_takes_nothing t s log events h h' _ _ u none k,
  turn_submitted t s log events h h' _ _ u ∙ ap (λ n. (mark_of s m).submitted + n) (ap length one),
  (let e = turn_sent t s log events h h' _ _ u in omega (arith, e)),
  turn_inside t s log events h h' _ _ u none,
)

pub deliver_effect : (t : Talkers) (s : Side) (n : ℕ) (log events : List Event) (h h' : LinkEnd) (cb sb : Option ℕ) (m m' : Mark) → HasTurned t s log events h h' (mark_of s m) (mark_of s m') → submitted_in events ≡ [] → (mark_of s m').taken ≡ (mark_of s m).taken + min n ((mark_of (other_side s) m).sent - (mark_of s m).taken) → StaysAsIs (other_side s) m m' → Effect (Deliver s n) cb sb m m'
deliver_effect t s n log events h h' cb sb m m' u none k stays = (
  stays,
  k,
  (let e = turn_submitted t s log events h h' _ _ u in let z : length (submitted_in events) ≡ 0 = ap length none in omega (arith, e, z)),
  (let e = turn_sent t s log events h h' _ _ u in omega (arith, e)),
)

true_false : (b : Bool) → b ≡ true → b ≡ false → ⊥
true_false b e f = let g : true ≡ false = sym e ∙ f in cc

-- inside an exchange nothing happens
pub rekey_inside : (s : Side) (cb sb : Option ℕ) (m m' : Mark) → (mark_of s m).inside ≡ true → StaysAsIs s m m' → StaysAsIs (other_side s) m m' → Effect (Rekey s) cb sb m m'
rekey_inside s cb sb m m' i same stays = (
  stays,
  record { taken = ap (λ (k : SideMark). k.taken) same; delivered = ap (λ (k : SideMark). k.delivered) same; finished = ap (λ (k : SideMark). k.finished) same },
  ap (λ (k : SideMark). k.submitted) same,
  (λ e. same),
  (λ e. absurd (true_false _ i e)),
)

pub rekey_outside : (t : Talkers) (s : Side) (log : List Event) (i : Item) (h h' : LinkEnd) (cb sb : Option ℕ) (m m' : Mark) → HasTurned t s log (ExchangeBegun Asked i ∷ []) h h' (mark_of s m) (mark_of s m') → (mark_of s m).inside ≡ false → (mark_of s m').taken ≡ (mark_of s m).taken → StaysAsIs (other_side s) m m' → Effect (Rekey s) cb sb m m'
rekey_outside t s log i h h' cb sb m m' u o k stays = (
  stays,
  turn_takes_nothing t s log (ExchangeBegun Asked i ∷ []) h h' _ _ u refl k,
  (let e = turn_submitted t s log (ExchangeBegun Asked i ∷ []) h h' _ _ u in omega (arith, e)),
  (λ e. absurd (true_false _ e o)),
  (λ e. turn_rekeys t s log i h h' _ _ u),
)

-- ---- a settle

nothing_whole : (at : Option Place) → IsEnd at []
nothing_whole None = tt
nothing_whole (Some at) = λ i more a e. (let l = length_sealed at.sealing at.number i in let f : 0 ≡ length (packet_at at i ++ more) = ap length e in let g = length-append (packet_at at i) more in omega (arith, l, f, g))

-- where all bytes were taken, all packets were handled, and no input is left
pub all_handled : (t : Talkers) (side : Side) (log plog : List Event) (h peer : LinkEnd) → AreFit t → RunsInLink t side log h → RunsInLink t (other_side side) plog peer → HasFront h.sent peer.fed → h.fed ≡ peer.sent → IsAtRest (t.config side) h → (handled log ≡ wrote plog) × (h.unfinished ≡ [])
all_handled t side log plog h peer fit r p a e rests =
    let at : Option Place = Some (first_place (map (outgoing (other_side side)) (recorded plog))) in
    let w = whole_is_handled t side log [] plog h h peer fit (record { now = r; later = subst (λ l. RunsInLink t side l h) (sym (append-nil log)) r }) p a ([], append-nil h.fed ∙ e) rests.part in
    let theirs = facts t (other_side side) plog peer.state peer.sent peer.fed peer.unfinished p.heard p.guesses p.ran in
    one_reading_by by_type [] at (handled log) (wrote plog) peer.sent h.unfinished []
    (reads_by_type [] at (handled log) peer.sent h.unfinished (subst (λ q. Reads at (handled log) q h.unfinished) e w.reads))
    (reads_by_type [] at (wrote plog) peer.sent [] theirs.writes)
    (subst (λ q. IsEnd q h.unfinished) (sym (plain_behind by_type [] at (handled log) (plain_by_type [] (handled log)))) w.no_more)
    (nothing_whole (place_behind_by by_type [] at (wrote plog)))

-- one side where all was settled
pub record SettledSide (t : Talkers) (side : Side) (kind : Bool) (log : List Event) (h : LinkEnd) (m : SideMark) : Type 0 where
  pub runs : RunsInLink t side log h
  pub rests : IsAtRest (t.config side) h
  pub kinds : IsOfKind kind h.state
  pub mark : IsMarkOf t side log h m

same_fed : (line fed sent : List ℕ) (st : SideState) (taken n : ℕ) → TookBytes line fed st taken → HasFront sent fed → n ≡ length line + length sent → taken ≡ n → fed ≡ sent
same_fed line fed sent st taken n (inl h) s e f = absurd (let l = h.2 in omega (arith, l, e, f))
same_fed line fed sent st taken n (inr h) s e f = sym (append-nil fed) ∙ (ap (λ q. fed ++ q) (sym (nil_of s.0 (let a = length-append fed s.0 in let b : length (fed ++ s.0) ≡ length sent = ap length s.1 in let c = h.2 in omega (arith, a, b, c, e, f)))) ∙ s.1) where
  nil_of : (x : List ℕ) → length x ≡ 0 → x ≡ []
  nil_of [] e = refl
  nil_of (c ∷ x) e = absurd (omega (arith, e))

none_some : {A : Type 0} (x : Option A) (y : A) → x ≡ None → x ≡ Some y → ⊥
none_some x y e f = let g : None ≡ Some y = sym e ∙ f in cc

has_heard : (line fed : List ℕ) (st : SideState) (taken n sent : ℕ) → TookBytes line fed st taken → n ≡ length line + sent → taken ≡ n → st.heard ≡ None → ⊥
has_heard line fed st taken n sent (inl h) e f z = let l = h.2 in omega (arith, l, e, f)
has_heard line fed st taken n sent (inr h) e f z = none_some st.heard h.0 z h.1

-- a side with no open block is outside
is_out : (t : Talkers) (side : Side) (kind : Bool) (log : List Event) (h : LinkEnd) (m : SideMark) → SettledSide t side kind log h m → (h.state.heard ≡ None → ⊥) → length (exchange_block (length h.state.records) (wrote log)) ≡ 0 → h.state.stands ≡ Outside
is_out t side kind log h m s heard none = by_place h.state.stands refl where
  kept : Kept (t.says side) side (t.config side) (t.own_id side) (wrote log) (kept_in log) h.state (trace_of no_trace log)
  kept = kept_of t side log h s.runs

  by_place : (w : Where) → h.state.stands ≡ w → h.state.stands ≡ Outside
  by_place Silent e = absurd (heard (s.rests.quiet.silent e))
  by_place Outside e = e
  by_place (Inside stage) e = absurd (
      let q = prompt_inside (t.says side) side (t.config side) (t.own_id side) h.state (trace_of no_trace log) stage kind kept.tidy.fits e s.rests.quiet.owes s.kinds.now in
      let l : length (exchange_block (length h.state.records) (wrote log)) ≡ length (trace_of no_trace log).own = ap length kept.accounts.own.block_is in
      let d = due_some side kind (length (trace_of no_trace log).theirs) in omega (arith, none, l, q, d))

side_quiet : (t : Talkers) (side : Side) (kind : Bool) (log : List Event) (h : LinkEnd) (m : SideMark) → SettledSide t side kind log h m → Quiet side kind (length h.state.records) (wrote log) (handled log)
side_quiet t side kind log h m s = subst (λ r. Quiet side kind (length h.state.records) (wrote log) r) (kept_all log s.runs.guesses) (quiet_of (t.says side) side (t.config side) (t.own_id side) (wrote log) (kept_in log) h.state (trace_of no_trace log) kind (kept_of t side log h s.runs) s.rests.quiet.owes s.kinds.now s.kinds.each)

-- what one side delivered is what the other was handed
got_all : (t : Talkers) (side peer_of : Side) (kind : Bool) (log plog : List Event) (h peer : LinkEnd) (m pm : SideMark) → SettledSide t side kind log h m → SettledSide t peer_of kind plog peer pm → handled log ≡ wrote plog → peer.state.stands ≡ Outside → m.delivered ≡ pm.submitted
got_all t side peer_of kind log plog h peer m pm s p e o =
    let a = s.mark.delivered in let b = p.mark.submitted in
    let d : length (delivered_in log) ≡ length (carried_payloads (wrote plog)) = ap length (delivers (t.says side) side (t.config side) (t.own_id side) log first_state h.state s.runs.ran.steps ∙ ap carried_payloads e) in
    let x : length (carried_payloads (wrote plog) ++ peer.state.held) ≡ length (submitted_in plog) = ap length (submits (t.says peer_of) peer_of (t.config peer_of) (t.own_id peer_of) plog first_state peer.state no_trace (tidy_first (t.says peer_of) peer_of (t.config peer_of) (t.own_id peer_of)) p.runs.ran.steps) in
    let y = length-append (carried_payloads (wrote plog)) peer.state.held in
    let z : length peer.state.held ≡ 0 = ap length (p.rests.quiet.sent o) in
    omega (arith, a, b, d, x, y, z)

-- a rekey that was asked for is finished
rekeyed_by : (before : Option ℕ) (k n : ℕ) → k ≡ n → IfSome before (λ j. j < k) → IfSome before (λ j. j < n)
rekeyed_by before k n e h = subst (λ x. IfSome before (λ j. j < x)) e h

-- both have taken all
pub both_handled : (t : Talkers) (kind : Bool) (w : World) (cl sl : List Event) (m : Mark) → AreFit t → IsReached t w cl sl → SettledSide t Client kind cl w.client m.client → SettledSide t Server kind sl w.server m.server → m.client.taken ≡ m.server.sent → m.server.taken ≡ m.client.sent → ((handled cl ≡ wrote sl) × (w.client.unfinished ≡ [])) × ((handled sl ≡ wrote cl) × (w.server.unfinished ≡ []))
both_handled t kind w cl sl m fit h c s to_c to_s =
    let c_fed : w.client.fed ≡ w.server.sent = same_fed _ w.client.fed w.server.sent w.client.state m.client.taken m.server.sent c.mark.taken h.to_client s.mark.sent to_c in
    let s_fed : w.server.fed ≡ w.client.sent = same_fed _ w.server.fed w.client.sent w.server.state m.server.taken m.client.sent s.mark.taken h.to_server c.mark.sent to_s in (
      all_handled t Client cl sl w.client w.server fit c.runs s.runs h.to_server c_fed c.rests,
      all_handled t Server sl cl w.server w.client fit s.runs c.runs h.to_client s_fed s.rests,
    )

-- both sides have taken all and rest
pub is_settled : (t : Talkers) (kind : Bool) (w : World) (cl sl : List Event) (m : Mark) (cb sb : Option ℕ) → AreFit t → IsReached t w cl sl → SettledSide t Client kind cl w.client m.client → SettledSide t Server kind sl w.server m.server → m.client.taken ≡ m.server.sent → m.server.taken ≡ m.client.sent → IfSome cb (λ n. n < max 1 (begun w.client.state)) → IfSome sb (λ n. n < max 1 (begun w.server.state)) → IsSettled m.client m.server cb sb
is_settled t kind w cl sl m cb sb fit h c s to_c to_s cbefore sbefore = record {
  to_client = to_c;
  to_server = to_s;
  client_outside = c.mark.inside ∙ ap (λ p. not (is_outside p)) c_out;
  server_outside = s.mark.inside ∙ ap (λ p. not (is_outside p)) s_out;
  client_delivered = got_all t Client Server kind cl sl w.client w.server m.client m.server c s c_all s_out;
  server_delivered = got_all t Server Client kind sl cl w.server w.client m.server m.client s c s_all c_out;
  same_finished = c.mark.finished ∙ (one.0 ∙ sym s.mark.finished);
  finished = (let e = c.mark.finished in let n = c_tally.some c_out in omega (arith, e, n));
  client_rekeyed = rekeyed_by cb (max 1 (begun w.client.state)) m.client.finished (c_begun ∙ sym c.mark.finished) cbefore;
  server_rekeyed = rekeyed_by sb (max 1 (begun w.server.state)) m.server.finished (s_begun ∙ sym s.mark.finished) sbefore;
} where
  all : ((handled cl ≡ wrote sl) × (w.client.unfinished ≡ [])) × ((handled sl ≡ wrote cl) × (w.server.unfinished ≡ []))
  all = both_handled t kind w cl sl m fit h c s to_c to_s

  c_all : handled cl ≡ wrote sl
  c_all = all.0.0

  s_all : handled sl ≡ wrote cl
  s_all = all.1.0

  one : (length w.client.state.records ≡ length w.server.state.records) × ((length (exchange_block (length w.client.state.records) (wrote cl)) ≡ 0) × (length (exchange_block (length w.server.state.records) (wrote sl)) ≡ 0))
  one = settled kind (length w.client.state.records) (length w.server.state.records) (wrote cl) (handled cl) (wrote sl) (handled sl) (side_quiet t Client kind cl w.client m.client c) (side_quiet t Server kind sl w.server m.server s) c_all s_all

  c_out : w.client.state.stands ≡ Outside
  c_out = is_out t Client kind cl w.client m.client c (has_heard _ w.client.fed w.client.state m.client.taken m.server.sent (length w.server.sent) c.mark.taken s.mark.sent to_c) one.1.0

  s_out : w.server.state.stands ≡ Outside
  s_out = is_out t Server kind sl w.server m.server s (has_heard _ w.server.fed w.server.state m.server.taken m.client.sent (length w.client.sent) s.mark.taken c.mark.sent to_s) one.1.1

  c_tally : Tally (wrote cl) (kept_in cl) w.client.state
  c_tally = tally_run (t.says Client) Client (t.config Client) (t.own_id Client) cl w.client.state c.runs.ran.steps

  max_some : (n k : ℕ) → n ≡ k → 1 ≤ k → max 1 n ≡ k
  max_some zero k e l = absurd (omega (arith, e, l))
  max_some (suc n) k e l = omega (arith, e)

  c_begun : max 1 (begun w.client.state) ≡ length w.client.state.records
  c_begun = (let z : open_count w.client.state.stands ≡ 0 = ap open_count c_out in max_some (begun w.client.state) (length w.client.state.records) (omega (arith, z)) (c_tally.some c_out))

  s_tally : Tally (wrote sl) (kept_in sl) w.server.state
  s_tally = tally_run (t.says Server) Server (t.config Server) (t.own_id Server) sl w.server.state s.runs.ran.steps

  s_begun : max 1 (begun w.server.state) ≡ length w.server.state.records
  s_begun = (let z : open_count w.server.state.stands ≡ 0 = ap open_count s_out in max_some (begun w.server.state) (length w.server.state.records) (omega (arith, z)) (s_tally.some s_out))

-- both sides' turns of a settle, put together
pub settle_effect : (t : Talkers) (cl ce sl se : List Event) (c c' s s' : LinkEnd) (m m' : Mark) (cb sb : Option ℕ) → HasTurned t Client cl ce c c' m.client m'.client → HasTurned t Server sl se s s' m.server m'.server → submitted_in ce ≡ [] → submitted_in se ≡ [] → IsSettled m'.client m'.server cb sb → Effect Settle cb sb m m'
settle_effect t cl ce sl se c c' s s' m m' cb sb u v a b z = (
  z,
  (let e = turn_submitted t Client cl ce c c' _ _ u in let n : length (submitted_in ce) ≡ 0 = ap length a in omega (arith, e, n)),
  (let e = turn_submitted t Server sl se s s' _ _ v in let n : length (submitted_in se) ≡ 0 = ap length b in omega (arith, e, n)),
  (let e = turn_sent t Client cl ce c c' _ _ u in omega (arith, e)),
  (let e = turn_sent t Server sl se s s' _ _ v in omega (arith, e)),
)

-- ---- rekeys that were asked for

most : (n : ℕ) → n ≤ max 1 n
most zero = omega arith
most (suc n) = omega arith

pub max_more : (n m k : ℕ) → n ≤ m → k < max 1 n → k < max 1 m
max_more zero zero k l h = h
max_more zero (suc m) k l h = omega (arith, h)
max_more (suc n) zero k l h = absurd (omega (arith, l))
max_more (suc n) (suc m) k l h = omega (arith, l, h)

-- behind a rekey inside, more is begun than was finished before it
pub rekeyed_inside : (t : Talkers) (s : Side) (log : List Event) (h : LinkEnd) (m : SideMark) → RunsInLink t s log h → IsMarkOf t s log h m → m.inside ≡ true → m.finished < max 1 (begun h.state)
rekeyed_inside t s log h m r mark i = by_place h.state.stands refl where
  tally : Tally (wrote log) (kept_in log) h.state
  tally = tally_run (t.says s) s (t.config s) (t.own_id s) log h.state r.ran.steps

  by_place : (w : Where) → h.state.stands ≡ w → m.finished < max 1 (begun h.state)
  by_place Silent e = (let z : length h.state.records ≡ 0 = ap length ((kept_of t s log h r).accounts.silent e) in let f = mark.finished in let q = max_more 0 (begun h.state) 0 (omega arith) (omega arith) in omega (arith, z, f, q))
  by_place Outside e = absurd (true_false m.inside i (mark.inside ∙ ap (λ p. not (is_outside p)) e))
  by_place (Inside stage) e = (let o : open_count h.state.stands ≡ 1 = ap open_count e in let f = mark.finished in let q = most (begun h.state) in omega (arith, o, f, q))

-- and behind one outside
pub rekeyed_outside : (t : Talkers) (s : Side) (log : List Event) (i : Item) (h h' : LinkEnd) (m m' : SideMark) → HasTurned t s log (ExchangeBegun Asked i ∷ []) h h' m m' → m.finished < max 1 (begun h'.state)
rekeyed_outside t s log i h h' m m' u =
    let f = u.before.finished in
    let r : length h'.state.records ≡ length h.state.records = ap (λ (x : SideState). length x.records) u.steps.2 ∙ ap (λ (x : SideState). length x.records) u.steps.1.becomes in
    let o : open_count h'.state.stands ≡ 1 = ap (λ (x : SideState). open_count x.stands) u.steps.2 ∙ ap (λ (x : SideState). open_count x.stands) u.steps.1.becomes in
    let q = most (begun h'.state) in omega (arith, f, r, o, q)
