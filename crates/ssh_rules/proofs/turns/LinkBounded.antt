-- The exchanges of a link, turn by turn: no more than one, the rekeys that were asked for, and the payloads on both
-- wires.
use Rattle.std.proofs.Common.{◌≡◌, ℕ, zero, suc, ◌+◌, ◌<◌, ◌≤◌, List, [], ◌∷◌, ◌++◌, length, refl, sym, ◌∙◌, ap, subst, arith, Bool, true, false, ◌⊎◌, inl, inr, if◌then◌else◌, nat_le, ◌&&◌, ◌||◌}
use Rattle.std.proofs.lemmas.Bool.Decides.{nat_tests}
use Rattle.ssh_packet.specs.Sealing.{Item}
use Rattle.ssh_packet.specs.Stream.{message_type}
use Rattle.ssh_wire.specs.declared.side.Side.{Side}
use Rattle.ssh_wire.specs.declared.side.Side.TheVariants.{Client, Server}
use Rattle.ssh_kex.specs.declared.config.Config.{Config}
use Rattle.ssh_negotiate.specs.Advertised.{kexinit}
use Rattle.ssh_wire.specs.Sides.{other_side}
use Rattle.ssh_kex.specs.Setting.{Says, offers_of}
use Rattle.ssh_rules.specs.MessageTypes.{type_of, is_kex_type, is_payload_type}
use Rattle.ssh_rules.specs.Wire.{HasFront, exchange_block, epochs_ended}
use Rattle.ssh_rules.specs.Machine.{Where, Silent, Outside, Inside, SideState, Event, IdHeard, PayloadSubmitted, ExchangeBegun, AnswerSent, PayloadSent, MessageTaken, GuessDropped, PayloadDelivered, PacketDropped, ExchangeFinished, Steps, first_state}
use Rattle.ssh_rules.proofs.side.StageFits.{Trace, no_trace}
use Rattle.ssh_rules.specs.Log.{wrote, handled, kept_in, causes_in}
use Rattle.ssh_rules.proofs.side.Reasons.{NonNil, NoDrops, Reason}
use Rattle.ssh_rules.specs.Counting.{begun, open_count}
use Rattle.ssh_rules.proofs.side.Ledgers.{has_newkeys}
use Rattle.ssh_rules.specs.Turns.{LinkEnd, World, first_world, Talkers, PlaysTurn}
use Rattle.ssh_rules.proofs.side.Places.{HeldOk}
use Rattle.ssh_rules.proofs.side.Blocks.{block_above}
use Rattle.ssh_rules.proofs.side.LedgerSteps.{Tidy, tidy_step, tidy_first, AllKex, closed_trace}
use Rattle.ssh_rules.proofs.side.Accounts.{Kept, kept_run, trace_of}
use Rattle.ssh_rules.proofs.side.ReasonSteps.{reasons_run}
use Rattle.ssh_rules.proofs.turns.Bounded.{HasLimits, Began, AllCharged, client_turn, server_turn}
use Rattle.ssh_rules.proofs.side.Ran.{kept_all}
use Rattle.ssh_rules.specs.Snapshots.{RunsInLink, IsReached}
use Rattle.ssh_rules.proofs.turns.Turns.{AreFit, held_first, client_held, server_held, facts, carried_to}

-- ---- a side writes messages of exchanges and payloads alone

abbrev pub AreKinds : List Item → Type 0
AreKinds [] = Unit {0}
AreKinds (i ∷ items) = ((is_kex_type (type_of i) || is_payload_type (type_of i)) ≡ true) × AreKinds items

or_left : (a b : Bool) → a ≡ true → (a || b) ≡ true
or_left true b e = refl
or_left false b e = cc

or_right : (a b : Bool) → b ≡ true → (a || b) ≡ true
or_right true b e = refl
or_right false b e = e

pub kexinit_kind : (side : Side) (config : Config) (cookie : List ℕ) (i : Item) → i.payload ≡ kexinit (offers_of side config) cookie → is_kex_type (type_of i) ≡ true
unfolding kexinit
kexinit_kind side config cookie i e = ap (λ p. is_kex_type (message_type p)) e

pub wrote_kinds : (says : Says) (side : Side) (config : Config) (own_id : List ℕ) (log : List Event) (st st' : SideState) (t : Trace) → Tidy says side config own_id st t → Steps says side config own_id st log st' → AreKinds (wrote log)
wrote_kinds says side config own_id [] st st' t y h = tt
wrote_kinds says side config own_id (ExchangeBegun cause i ∷ es) st st' t y h = (or_left _ _ (kexinit_kind side config h.1.cookie i h.1.payload_is), wrote_kinds says side config own_id es h.0 st' _ (tidy_step says side config own_id st (ExchangeBegun cause i) h.0 t y h.1) h.2)
wrote_kinds says side config own_id (AnswerSent i q ∷ es) st st' t y h = (or_left _ _ (subst AllKex h.1.owes y.owed_kex).0, wrote_kinds says side config own_id es h.0 st' _ (tidy_step says side config own_id st (AnswerSent i q) h.0 t y h.1) h.2)
wrote_kinds says side config own_id (PayloadSent i ∷ es) st st' t y h = (or_right (is_kex_type (type_of i)) _ (subst HeldOk h.1.holds y.held).0, wrote_kinds says side config own_id es h.0 st' _ (tidy_step says side config own_id st (PayloadSent i) h.0 t y h.1) h.2)
wrote_kinds says side config own_id (IdHeard id ∷ es) st st' t y h = wrote_kinds says side config own_id es h.0 st' _ (tidy_step says side config own_id st (IdHeard id) h.0 t y h.1) h.2
wrote_kinds says side config own_id (PayloadSubmitted p ∷ es) st st' t y h = wrote_kinds says side config own_id es h.0 st' _ (tidy_step says side config own_id st (PayloadSubmitted p) h.0 t y h.1) h.2
wrote_kinds says side config own_id (MessageTaken i ∷ es) st st' t y h = wrote_kinds says side config own_id es h.0 st' _ (tidy_step says side config own_id st (MessageTaken i) h.0 t y h.1) h.2
wrote_kinds says side config own_id (GuessDropped i ∷ es) st st' t y h = wrote_kinds says side config own_id es h.0 st' _ (tidy_step says side config own_id st (GuessDropped i) h.0 t y h.1) h.2
wrote_kinds says side config own_id (PayloadDelivered i ∷ es) st st' t y h = wrote_kinds says side config own_id es h.0 st' _ (tidy_step says side config own_id st (PayloadDelivered i) h.0 t y h.1) h.2
wrote_kinds says side config own_id (PacketDropped i ∷ es) st st' t y h = wrote_kinds says side config own_id es h.0 st' _ (tidy_step says side config own_id st (PacketDropped i) h.0 t y h.1) h.2
wrote_kinds says side config own_id (ExchangeFinished i z ∷ es) st st' t y h = wrote_kinds says side config own_id es h.0 st' _ (tidy_step says side config own_id st (ExchangeFinished i z) h.0 t y h.1) h.2

pub kinds_front : (w r : List Item) → HasFront w r → AreKinds w → AreKinds r
kinds_front w [] s k = tt
kinds_front [] (i ∷ r) s k = absurd (let e : i ∷ (r ++ s.0) ≡ [] = s.1 in cc)
kinds_front (j ∷ w) (i ∷ r) s k =
    let e : i ≡ j = (let q : i ∷ (r ++ s.0) ≡ j ∷ w = s.1 in cc) in
    let t : r ++ s.0 ≡ w = (let q : i ∷ (r ++ s.0) ≡ j ∷ w = s.1 in cc) in
    (ap (λ (x : Item). is_kex_type (type_of x) || is_payload_type (type_of x)) e ∙ k.0, kinds_front w r (s.0, t) k.1)

small_kind : (t : ℕ) → (nat_le 2 t && nat_le t 4) ≡ true → (is_kex_type t || is_payload_type t) ≡ true → ⊥
small_kind t a b = grind (arith, nat_tests)

pub no_drops : (says : Says) (side : Side) (config : Config) (own_id : List ℕ) (log : List Event) (st st' : SideState) → AreKinds (handled log) → Steps says side config own_id st log st' → NoDrops log
no_drops says side config own_id [] st st' k h = tt
no_drops says side config own_id (PacketDropped i ∷ es) st st' k h = small_kind (type_of i) h.1.idle k.0
no_drops says side config own_id (IdHeard id ∷ es) st st' k h = no_drops says side config own_id es h.0 st' k h.2
no_drops says side config own_id (PayloadSubmitted p ∷ es) st st' k h = no_drops says side config own_id es h.0 st' k h.2
no_drops says side config own_id (ExchangeBegun cause i ∷ es) st st' k h = no_drops says side config own_id es h.0 st' k h.2
no_drops says side config own_id (AnswerSent i q ∷ es) st st' k h = no_drops says side config own_id es h.0 st' k h.2
no_drops says side config own_id (PayloadSent i ∷ es) st st' k h = no_drops says side config own_id es h.0 st' k h.2
no_drops says side config own_id (MessageTaken i ∷ es) st st' k h = no_drops says side config own_id es h.0 st' k.1 h.2
no_drops says side config own_id (GuessDropped i ∷ es) st st' k h = no_drops says side config own_id es h.0 st' k.1 h.2
no_drops says side config own_id (PayloadDelivered i ∷ es) st st' k h = no_drops says side config own_id es h.0 st' k.1 h.2
no_drops says side config own_id (ExchangeFinished i z ∷ es) st st' k h = no_drops says side config own_id es h.0 st' k.1 h.2

-- ---- a block that isn't empty was begun

open_few : (b : Bool) (n m : ℕ) → m ≡ n + (if b then 1 else 0) → m ≤ n + 1
open_few true n m e = omega (arith, e)
open_few false n m e = omega (arith, e)

split : (k n : ℕ) → (k < n) ⊎ ((k ≡ n) ⊎ (n < k))
split zero zero = inr (inl refl)
split zero (suc n) = inl (omega arith)
split (suc k) zero = inr (inr (omega arith))
split (suc k) (suc n) = elim (split k n) [ inl l ↦ inl (omega (arith, l)) | inr h ↦ inr (elim h [ inl e ↦ inl (ap suc e) | inr l ↦ inr (omega (arith, l)) ]) ]

pub block_begun : (says : Says) (side : Side) (config : Config) (own_id : List ℕ) (w r : List Item) (st : SideState) (t : Trace) (k : ℕ) → Kept says side config own_id w r st t → NonNil (exchange_block k w) → k < begun st
block_begun says side config own_id w r st t k kept some = elim (split k (length st.records)) [
  | inl l ↦ omega (arith, l)
  | inr h ↦ elim h [
    | inl e ↦ now st.stands refl e (subst NonNil (ap (λ j. exchange_block j w) e ∙ kept.accounts.own.block_is) some)
    | inr l ↦ absurd (later l)
  ]
] where
  later : length st.records < k → ⊥
  later l = elim (split k (suc (length st.records))) [
    | inl a ↦ omega (arith, a, l)
    | inr h ↦ elim h [
      | inl e ↦ (let z : length (exchange_block k w) ≡ 0 = ap (λ j. length (exchange_block j w)) e ∙ ap length kept.accounts.own.next_is in omega (arith, z, some))
      | inr a ↦ (let f = open_few (has_newkeys t.own) (length st.records) (epochs_ended w) kept.accounts.own.ends_is in let z : length (exchange_block k w) ≡ 0 = ap length (block_above k w (omega (arith, a, f))) in omega (arith, z, some))
    ]
  ]

  now : (s : Where) → st.stands ≡ s → k ≡ length st.records → NonNil t.own → k < begun st
  now Silent q e o = absurd (let c = closed_trace says side config own_id st t kept.tidy.fits (inr q) in let z : length t.own ≡ 0 = ap length c.0 in omega (arith, z, o))
  now Outside q e o = absurd (let c = closed_trace says side config own_id st t kept.tidy.fits (inl q) in let z : length t.own ≡ 0 = ap length c.0 in omega (arith, z, o))
  now (Inside stage) q e o = let n : open_count st.stands ≡ 1 = ap open_count q in omega (arith, e, n)

-- ---- turn by turn

pub kept_of : (t : Talkers) (side : Side) (log : List Event) (h : LinkEnd) → RunsInLink t side log h → Kept (t.says side) side (t.config side) (t.own_id side) (wrote log) (kept_in log) h.state (trace_of no_trace log)
kept_of t side log h r = kept_run (t.says side) side (t.config side) (t.own_id side) log h.state r.ran.steps

-- what a side knows of its own exchanges, where it handled a front of what the other wrote
pub began : (t : Talkers) (side : Side) (log plog : List Event) (h peer : LinkEnd) → HasLimits (t.config side) → RunsInLink t side log h → RunsInLink t (other_side side) plog peer → HasFront (wrote plog) (handled log) → Began (t.config side) (causes_in log) (wrote log) (handled log) (begun h.state)
began t side log plog h peer limits r p front =
    let kinds = wrote_kinds (t.says (other_side side)) (other_side side) (t.config (other_side side)) (t.own_id (other_side side)) plog first_state peer.state no_trace (tidy_first _ _ _ _) p.ran.steps in
    let drops = no_drops (t.says side) side (t.config side) (t.own_id side) log first_state h.state (kinds_front (wrote plog) (handled log) front kinds) r.ran.steps in
    record {
      limits = limits;
      reason = λ k a b. subst (λ q. Reason (t.config side) (causes_in log) (wrote log) q k) (kept_all log r.guesses) (reasons_run (t.says side) side (t.config side) (t.own_id side) log h.state r.ran.steps drops r.answered k a b);
      begins = λ k s. block_begun (t.says side) side (t.config side) (t.own_id side) (wrote log) (kept_in log) h.state (trace_of no_trace log) k (kept_of t side log h r) s;
    }

-- by the facts of both sides
pub front_of_held : (t : Talkers) (w : World) (cl sl : List Event) → AreFit t → IsReached t w cl sl → HasFront (wrote sl) (handled cl) × HasFront (wrote cl) (handled sl)
front_of_held t w cl sl fit h =
    let c = facts t Client cl w.client.state w.client.sent w.client.fed w.client.unfinished h.client.heard h.client.guesses h.client.ran in
    let s = facts t Server sl w.server.state w.server.sent w.server.fed w.server.unfinished h.server.heard h.server.guesses h.server.ran in
    (carried_to t Client cl sl _ _ _ _ _ _ fit.one c s h.to_client h.to_server, carried_to t Server sl cl _ _ _ _ _ _ fit.one s c h.to_server h.to_client)

wrote_more : (a b : List Event) → wrote (a ++ b) ≡ wrote a ++ wrote b
wrote_more [] b = refl
wrote_more (IdHeard id ∷ a) b = wrote_more a b
wrote_more (PayloadSubmitted p ∷ a) b = wrote_more a b
wrote_more (ExchangeBegun cause i ∷ a) b = ap (λ x. i ∷ x) (wrote_more a b)
wrote_more (AnswerSent i q ∷ a) b = ap (λ x. i ∷ x) (wrote_more a b)
wrote_more (PayloadSent i ∷ a) b = ap (λ x. i ∷ x) (wrote_more a b)
wrote_more (MessageTaken i ∷ a) b = wrote_more a b
wrote_more (GuessDropped i ∷ a) b = wrote_more a b
wrote_more (PayloadDelivered i ∷ a) b = wrote_more a b
wrote_more (PacketDropped i ∷ a) b = wrote_more a b
wrote_more (ExchangeFinished i x ∷ a) b = wrote_more a b

pub causes_more : (a b : List Event) → causes_in (a ++ b) ≡ causes_in a ++ causes_in b
causes_more [] b = refl
causes_more (IdHeard id ∷ a) b = causes_more a b
causes_more (PayloadSubmitted p ∷ a) b = causes_more a b
causes_more (ExchangeBegun cause i ∷ a) b = ap (λ x. cause ∷ x) (causes_more a b)
causes_more (AnswerSent i q ∷ a) b = causes_more a b
causes_more (PayloadSent i ∷ a) b = causes_more a b
causes_more (MessageTaken i ∷ a) b = causes_more a b
causes_more (GuessDropped i ∷ a) b = causes_more a b
causes_more (PayloadDelivered i ∷ a) b = causes_more a b
causes_more (PacketDropped i ∷ a) b = causes_more a b
causes_more (ExchangeFinished i x ∷ a) b = causes_more a b

-- every exchange that was begun is charged to a rekey or to a payload
pub record Counted (t : Talkers) (w : World) (cl sl : List Event) : Type 0 where
  pub held : IsReached t w cl sl
  pub charged : AllCharged (causes_in cl) (causes_in sl) (wrote cl) (wrote sl) (begun w.client.state) (begun w.server.state)

pub record HaveLimits (t : Talkers) : Type 0 where
  pub client : HasLimits (t.config Client)
  pub server : HasLimits (t.config Server)

pub counted_client : (t : Talkers) (w : World) (cl sl : List Event) (piece : List ℕ) (events : List Event) (w' : World) → AreFit t → HaveLimits t → Counted t w cl sl → PlaysTurn t w Client piece events w' → Counted t w' (cl ++ events) sl
counted_client t w cl sl piece events w' fit limits h g =
    let n = client_held t w cl sl piece events w' fit h.held g in
    let fronts = front_of_held t w' (cl ++ events) sl fit n in
    let b = began t Client (cl ++ events) sl w'.client w'.server limits.client n.client n.server fronts.0 in
    let same : begun w'.server.state ≡ begun w.server.state = ap (λ (k : LinkEnd). begun k.state) g.1 in
    let all = client_turn (t.config Client) (causes_in cl) (causes_in events) (causes_in sl) (wrote cl) (wrote events) (handled (cl ++ events)) (wrote sl) (begun w'.client.state) (begun w.server.state)
    (subst (λ q. Began (t.config Client) q (wrote cl ++ wrote events) (handled (cl ++ events)) (begun w'.client.state)) (causes_more cl events) (subst (λ q. Began (t.config Client) (causes_in (cl ++ events)) q (handled (cl ++ events)) (begun w'.client.state)) (wrote_more cl events) b))
    (λ k s. block_begun (t.says Server) Server (t.config Server) (t.own_id Server) (wrote sl) (kept_in sl) w.server.state (trace_of no_trace sl) k (kept_of t Server sl w.server h.held.server) s)
    fronts.0 (begun w.client.state) h.charged in
    record { held = n; charged = subst (λ q. AllCharged q (causes_in sl) (wrote (cl ++ events)) (wrote sl) (begun w'.client.state) (begun w'.server.state)) (sym (causes_more cl events)) (subst (λ q. AllCharged (causes_in cl ++ causes_in events) (causes_in sl) q (wrote sl) (begun w'.client.state) (begun w'.server.state)) (sym (wrote_more cl events)) (subst (λ q. AllCharged (causes_in cl ++ causes_in events) (causes_in sl) (wrote cl ++ wrote events) (wrote sl) (begun w'.client.state) q) (sym same) all)) }

pub counted_server : (t : Talkers) (w : World) (cl sl : List Event) (piece : List ℕ) (events : List Event) (w' : World) → AreFit t → HaveLimits t → Counted t w cl sl → PlaysTurn t w Server piece events w' → Counted t w' cl (sl ++ events)
counted_server t w cl sl piece events w' fit limits h g =
    let n = server_held t w cl sl piece events w' fit h.held g in
    let fronts = front_of_held t w' cl (sl ++ events) fit n in
    let b = began t Server (sl ++ events) cl w'.server w'.client limits.server n.server n.client fronts.1 in
    let same : begun w'.client.state ≡ begun w.client.state = ap (λ (k : LinkEnd). begun k.state) g.1 in
    let all = server_turn (t.config Server) (causes_in sl) (causes_in events) (causes_in cl) (wrote sl) (wrote events) (handled (sl ++ events)) (wrote cl) (begun w.client.state) (begun w'.server.state)
    (subst (λ q. Began (t.config Server) q (wrote sl ++ wrote events) (handled (sl ++ events)) (begun w'.server.state)) (causes_more sl events) (subst (λ q. Began (t.config Server) (causes_in (sl ++ events)) q (handled (sl ++ events)) (begun w'.server.state)) (wrote_more sl events) b))
    (λ k s. block_begun (t.says Client) Client (t.config Client) (t.own_id Client) (wrote cl) (kept_in cl) w.client.state (trace_of no_trace cl) k (kept_of t Client cl w.client h.held.client) s)
    fronts.1 (begun w.server.state) h.charged in
    record { held = n; charged = subst (λ q. AllCharged (causes_in cl) q (wrote cl) (wrote (sl ++ events)) (begun w'.client.state) (begun w'.server.state)) (sym (causes_more sl events)) (subst (λ q. AllCharged (causes_in cl) (causes_in sl ++ causes_in events) (wrote cl) q (begun w'.client.state) (begun w'.server.state)) (sym (wrote_more sl events)) (subst (λ q. AllCharged (causes_in cl) (causes_in sl ++ causes_in events) (wrote cl) (wrote sl ++ wrote events) q (begun w'.server.state)) (sym same) all)) }

pub counted_first : (t : Talkers) → Counted t first_world [] []
counted_first t = record { held = held_first t; charged = λ k a l. absurd (elim l [ inl q ↦ omega (arith, q) | inr q ↦ omega (arith, q) ]) }
