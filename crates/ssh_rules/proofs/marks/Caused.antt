-- Each exchange behind the first has its cause, in moments and steps.
use Rattle.std.proofs.Common.{◌≡◌, ℕ, zero, suc, ◌+◌, ◌<◌, ◌≤◌, List, [], ◌∷◌, ◌++◌, length, map, slice_get, refl, sym, ◌∙◌, ap, subst, arith, Some, Bool, true, false, if◌then◌else◌, ◌⊎◌, inl, inr, length-append}
use Rattle.ssh_packet.specs.Sealing.{Item}
use Rattle.ssh_wire.specs.declared.side.Side.{Side}
use Rattle.ssh_wire.specs.declared.side.Side.TheVariants.{Client, Server}
use Rattle.ssh_kex.specs.declared.config.Config.{Config}
use Rattle.ssh_kex.specs.Setting.{Says}
use Rattle.ssh_kex.specs.Stages.{Created, AwaitsGroup, AwaitsReply, AwaitsRequest, AwaitsValue, AwaitsNewkeys}
use Rattle.ssh_rules.specs.Wire.{exchange_block, epochs_ended}
use Rattle.ssh_rules.specs.Machine.{Where, Silent, Outside, Inside, SideState, setting, Cause, Asked, Event, IdHeard, PayloadSubmitted, ExchangeBegun, AnswerSent, PayloadSent, MessageTaken, GuessDropped, PayloadDelivered, PacketDropped, ExchangeFinished, Steps, first_state}
use Rattle.ssh_rules.specs.Log.{wrote, handled, causes_in, asked, asked_in}
use Rattle.ssh_rules.proofs.side.Reasons.{NonNil}
use Rattle.ssh_rules.specs.Counting.{begun, open_count}
use Rattle.ssh_rules.proofs.side.StageFits.{Trace, no_trace, FitsWhere}
use Rattle.ssh_rules.proofs.side.Ledgers.{has_newkeys}
use Rattle.ssh_rules.specs.Marks.{kexinits}
use Rattle.ssh_rules.specs.Run.{Moment, WrittenAt, OwnCause, HaveCauses, own_of, theirs_of}
use Rattle.ssh_rules.specs.Turns.{LinkEnd, World, first_world, Talkers}
use Rattle.ssh_rules.proofs.side.Accounts.{Kept, trace_of}
use Rattle.ssh_rules.proofs.turns.Answered.{client_plays, server_plays}
use Rattle.ssh_rules.proofs.side.Blocks.{block_above}
use Rattle.ssh_rules.proofs.side.Left.{may_open}
use Rattle.ssh_rules.proofs.side.LedgerSteps.{closed_trace}
use Rattle.ssh_rules.proofs.turns.LinkBounded.{HaveLimits, kept_of, causes_more}
use Rattle.ssh_rules.specs.Snapshots.{half_in, client_log, server_log, Snapshot, moment_of, RunsInLink, IsReached, LeadsOn}
use Rattle.ssh_rules.proofs.marks.Moments.{held_by}
use Rattle.ssh_rules.proofs.side.Ran.{kept_all}
use Rattle.ssh_rules.proofs.side.Tallied.{Tally, tally_run, read_open}
use Rattle.ssh_rules.proofs.turns.Turns.{AreFit, held_first}
use Rattle.ssh_rules.proofs.marks.Because.{OwnOf, Because, Reasoned, step_reasons}
use Rattle.ssh_rules.specs.declared.link.Step as link

-- ---- as many causes as exchanges that were begun

pub causes_count : (says : Says) (side : Side) (config : Config) (own_id : List ℕ) (log : List Event) (st st' : SideState) → Steps says side config own_id st log st' → begun st' ≡ begun st + length (causes_in log)
causes_count says side config own_id [] st st' h = (let e : begun st' ≡ begun st = ap begun h in omega (arith, e))
causes_count says side config own_id (IdHeard id ∷ es) st st' h = (let r = causes_count says side config own_id es h.0 st' h.2 in let e : begun h.0 ≡ begun st = ap begun h.1.becomes in omega (arith, r, e))
causes_count says side config own_id (PayloadSubmitted p ∷ es) st st' h = (let r = causes_count says side config own_id es h.0 st' h.2 in let e : begun h.0 ≡ begun st = ap begun h.1.becomes in omega (arith, r, e))
causes_count says side config own_id (ExchangeBegun cause i ∷ es) st st' h = (let r = causes_count says side config own_id es h.0 st' h.2 in let e : begun h.0 ≡ length st.records + 1 = ap begun h.1.becomes in let o = (may_open config st cause h.1.may).0 in omega (arith, r, e, o))
causes_count says side config own_id (AnswerSent i q ∷ es) st st' h = (let r = causes_count says side config own_id es h.0 st' h.2 in let e : begun h.0 ≡ begun st = ap begun h.1.becomes in omega (arith, r, e))
causes_count says side config own_id (PayloadSent i ∷ es) st st' h = (let r = causes_count says side config own_id es h.0 st' h.2 in let e : begun h.0 ≡ begun st = ap begun h.1.becomes in omega (arith, r, e))
causes_count says side config own_id (MessageTaken i ∷ es) st st' h = (let r = causes_count says side config own_id es h.0 st' h.2 in let e : begun h.0 ≡ length st.records + 1 = ap begun h.1.becomes in let o : open_count st.stands ≡ 1 = ap open_count h.1.inside in omega (arith, r, e, o))
causes_count says side config own_id (GuessDropped i ∷ es) st st' h = (let r = causes_count says side config own_id es h.0 st' h.2 in let e : begun h.0 ≡ length st.records + 1 = ap begun h.1.becomes in let o : open_count st.stands ≡ 1 = ap open_count h.1.inside in omega (arith, r, e, o))
causes_count says side config own_id (PayloadDelivered i ∷ es) st st' h = (let r = causes_count says side config own_id es h.0 st' h.2 in let e : begun h.0 ≡ begun st = ap begun h.1.becomes in omega (arith, r, e))
causes_count says side config own_id (PacketDropped i ∷ es) st st' h = (let r = causes_count says side config own_id es h.0 st' h.2 in let e : begun h.0 ≡ begun st = ap begun h.1.becomes in omega (arith, r, e))
causes_count says side config own_id (ExchangeFinished i x ∷ es) st st' h = (let r = causes_count says side config own_id es h.0 st' h.2 in let e : begun h.0 ≡ length (st.records ++ x ∷ []) + 0 = ap begun h.1.becomes in let o : open_count st.stands ≡ 1 = ap open_count h.1.inside in let l = length-append st.records (x ∷ []) in omega (arith, r, e, o, l))

asked_found : (c : List Cause) (k : ℕ) → slice_get c k ≡ Some Asked → 1 ≤ asked_in c
asked_found [] k h = cc
asked_found (c ∷ cs) zero h = (let e : asked c ≡ 1 = ap asked (first h) in omega (arith, e)) where
  first : Some c ≡ Some Asked → c ≡ Asked
  first h = cc
asked_found (c ∷ cs) (suc k) h = (let r = asked_found cs k h in omega (arith, r))

-- a rekey that stands behind the causes so far is one of those that came then
asked_later : (a b : List Cause) (k : ℕ) → length a ≤ k → slice_get (a ++ b) k ≡ Some Asked → 1 ≤ asked_in b
asked_later [] b k l h = asked_found b k h
asked_later (c ∷ a) b zero l h = absurd (omega (arith, l))
asked_later (c ∷ a) b (suc k) l h = asked_later a b k (omega (arith, l)) h

-- ---- a KEXINIT that was read

open_few : (b : Bool) (n m : ℕ) → m ≡ n + (if b then 1 else 0) → m ≤ n + 1
open_few true n m e = omega (arith, e)
open_few false n m e = omega (arith, e)

split3 : (k n : ℕ) → (k < n) ⊎ ((k ≡ n) ⊎ (n < k))
split3 zero zero = inr (inl refl)
split3 zero (suc n) = inl (omega arith)
split3 (suc k) zero = inr (inr (omega arith))
split3 (suc k) (suc n) = elim (split3 k n) [ inl l ↦ inl (omega (arith, l)) | inr h ↦ inr (elim h [ inl e ↦ inl (ap suc e) | inr l ↦ inr (omega (arith, l)) ]) ]

-- a block of which something was read has its KEXINIT among what was read
pub block_read : (says : Says) (side : Side) (config : Config) (own_id : List ℕ) (w r : List Item) (st : SideState) (t : Trace) (k : ℕ) → Kept says side config own_id w r st t → Tally w r st → NonNil (exchange_block k r) → k < kexinits r
block_read says side config own_id w r st t k kept tally some = elim (split3 k (length st.records)) [
  | inl l ↦ (let q = tally.theirs in omega (arith, l, q))
  | inr h ↦ elim h [
    | inl e ↦ now st.stands refl e (subst NonNil (ap (λ j. exchange_block j r) e ∙ kept.accounts.theirs.block_is) some)
    | inr l ↦ absurd (later l)
  ]
] where
  later : length st.records < k → ⊥
  later l = elim (split3 k (suc (length st.records))) [
    | inl a ↦ omega (arith, a, l)
    | inr h ↦ elim h [
      | inl e ↦ (let z : length (exchange_block k r) ≡ 0 = ap (λ j. length (exchange_block j r)) e ∙ ap length kept.accounts.theirs.next_is in omega (arith, z, some))
      | inr a ↦ (let f = open_few (has_newkeys t.theirs) (length st.records) (epochs_ended r) kept.accounts.theirs.ends_is in let z : length (exchange_block k r) ≡ 0 = ap length (block_above k r (omega (arith, a, f))) in omega (arith, z, some))
    ]
  ]

  one : (s : Where) → st.stands ≡ s → k ≡ length st.records → read_open s ≡ 1 → k < kexinits r
  one s q e f = (let o : read_open st.stands ≡ read_open s = ap read_open q in let g = tally.theirs in omega (arith, e, f, o, g))

  now : (s : Where) → st.stands ≡ s → k ≡ length st.records → NonNil t.theirs → k < kexinits r
  now Silent q e o = absurd (let c = closed_trace says side config own_id st t kept.tidy.fits (inr q) in let z : length t.theirs ≡ 0 = ap length c.1 in omega (arith, z, o))
  now Outside q e o = absurd (let c = closed_trace says side config own_id st t kept.tidy.fits (inl q) in let z : length t.theirs ≡ 0 = ap length c.1 in omega (arith, z, o))
  now (Inside (Created own)) q e o = absurd (let g = subst (λ x. FitsWhere says (setting side config own_id st) x (t.own ++ st.owed) t.theirs) q kept.tidy.fits in let z : length t.theirs ≡ 0 = ap length g.theirs_is in omega (arith, z, o))
  now (Inside (AwaitsGroup o)) q e p = one (Inside (AwaitsGroup o)) q e refl
  now (Inside (AwaitsReply o g l v)) q e p = one (Inside (AwaitsReply o g l v)) q e refl
  now (Inside (AwaitsRequest o)) q e p = one (Inside (AwaitsRequest o)) q e refl
  now (Inside (AwaitsValue o g)) q e p = one (Inside (AwaitsValue o g)) q e refl
  now (Inside (AwaitsNewkeys exchange made host)) q e p = one (Inside (AwaitsNewkeys exchange made host)) q e refl

pub record Course (t : Talkers) (steps : List link.Step) (snapshots : List Snapshot) : Type 0 where
  pub first : (s : Snapshot) → slice_get snapshots 0 ≡ Some s → (s.world ≡ first_world) × ((s.cl ≡ []) × (s.sl ≡ []))
  pub next : (j : ℕ) (s s' : Snapshot) → slice_get snapshots j ≡ Some s → slice_get snapshots (suc j) ≡ Some s' → LeadsOn t (slice_get steps j) s s'

get_before : {A : Type 0} (xs : List A) (j : ℕ) (x : A) → slice_get xs (suc j) ≡ Some x → (y : A) × (slice_get xs j ≡ Some y)
get_before [] j x h = cc
get_before (y ∷ xs) zero x h = (y, refl)
get_before (y ∷ xs) (suc j) x h = get_before xs j x h

get_map : (xs : List Snapshot) (j : ℕ) (x : Snapshot) → slice_get xs j ≡ Some x → slice_get (map moment_of xs) j ≡ Some (moment_of x)
get_map [] j x h = cc
get_map (y ∷ xs) zero x h = ap (λ (z : Snapshot). Some (moment_of z)) (first h) where
  first : Some y ≡ Some x → y ≡ x
  first h = cc
get_map (y ∷ xs) (suc j) x h = get_map xs j x h

pub get_map_back : (xs : List Snapshot) (j : ℕ) (m : Moment) → slice_get (map moment_of xs) j ≡ Some m → (x : Snapshot) × (slice_get xs j ≡ Some x) × (moment_of x ≡ m)
get_map_back [] j m h = cc
get_map_back (y ∷ xs) zero m h = (y, refl, first h) where
  first : Some (moment_of y) ≡ Some m → moment_of y ≡ m
  first h = cc
get_map_back (y ∷ xs) (suc j) m h = get_map_back xs j m h

pub held_at : (t : Talkers) (steps : List link.Step) (snapshots : List Snapshot) → AreFit t → Course t steps snapshots → (j : ℕ) (s : Snapshot) → slice_get snapshots j ≡ Some s → IsReached t s.world s.cl s.sl
held_at t steps snapshots fit c zero s h =
    let f = c.first s h in
    subst (λ w. IsReached t w s.cl s.sl) (sym f.0) (subst (λ q. IsReached t first_world q s.sl) (sym f.1.0) (subst (λ q. IsReached t first_world [] q) (sym f.1.1) (held_first t)))
held_at t steps snapshots fit c (suc j) s h =
    let b = get_before snapshots j s h in
    let n = c.next j b.0 s b.1 h in
    let g = held_by t n.turns b.0.world b.0.cl b.0.sl s.world fit (held_at t steps snapshots fit c j b.0 b.1) n.plays in
    subst (λ q. IsReached t s.world q s.sl) (sym n.cl) (subst (λ q. IsReached t s.world (b.0.cl ++ client_log n.turns) q) (sym n.sl) g)

-- begun exchanges are KEXINITs
pub runs_tally : (t : Talkers) (side : Side) (log : List Event) (h : LinkEnd) → RunsInLink t side log h → Tally (wrote log) (handled log) h.state
runs_tally t side log h r = subst (λ q. Tally (wrote log) q h.state) (kept_all log r.guesses) (tally_run (t.says side) side (t.config side) (t.own_id side) log h.state r.ran.steps)

runs_read : (t : Talkers) (side : Side) (log : List Event) (h : LinkEnd) (k : ℕ) → RunsInLink t side log h → NonNil (exchange_block k (handled log)) → k < kexinits (handled log)
runs_read t side log h k r some = block_read (t.says side) side (t.config side) (t.own_id side) (wrote log) (handled log) h.state (trace_of no_trace log) k (subst (λ q. Kept (t.says side) side (t.config side) (t.own_id side) (wrote log) q h.state (trace_of no_trace log)) (kept_all log r.guesses) (kept_of t side log h r)) (runs_tally t side log h r) some

runs_count : (t : Talkers) (side : Side) (log : List Event) (h : LinkEnd) → RunsInLink t side log h → length (causes_in log) ≡ begun h.state
runs_count t side log h r = (let c = causes_count (t.says side) side (t.config side) (t.own_id side) log first_state h.state r.ran.steps in omega (arith, c))

split : (k n : ℕ) → (k < n) ⊎ (n ≤ k)
split zero zero = inr (omega arith)
split zero (suc n) = inl (omega arith)
split (suc k) zero = inr (omega arith)
split (suc k) (suc n) = elim (split k n) [ inl l ↦ inl (omega (arith, l)) | inr l ↦ inr (omega (arith, l)) ]

-- what each side has in the end, for the limits alone
pub record Ends : Type 0 where
  pub client_log : List Event
  pub client : LinkEnd
  pub client_submitted : List (List ℕ)
  pub server_log : List Event
  pub server : LinkEnd
  pub server_submitted : List (List ℕ)

-- ---- of the client

abbrev pub client_half : Talkers → Ends → Rattle.ssh_rules.specs.Marks.Half
client_half t e = half_in t Client e.client_log e.client e.client_submitted

-- an own reason behind a step, of an exchange that the step began
client_own : (t : Talkers) (e : Ends) (steps : List link.Step) (snapshots : List Snapshot) (k j : ℕ) (s s' : Snapshot) → Course t steps snapshots → IsReached t s.world s.cl s.sl → slice_get snapshots j ≡ Some s → slice_get snapshots (suc j) ≡ Some s' → begun s.world.client.state ≤ k → OwnOf (t.config Client) s'.cl k → OwnCause steps (map moment_of snapshots) (client_half t e) k j
client_own t e steps snapshots k j s s' c h g g' old (inl a) =
    let n = c.next j s s' g g' in
    inl (n.client_asked (asked_later (causes_in s.cl) (causes_in (client_log n.turns)) k (let q = runs_count t Client s.cl s.world.client h.client in omega (arith, q, old)) (subst (λ q. slice_get q k ≡ Some Asked) (ap causes_in n.cl ∙ causes_more s.cl (client_log n.turns)) a)))
client_own t e steps snapshots k j s s' c h g g' old (inr (inl a)) = inr (inl (moment_of s', get_map snapshots (suc j) s' g', a))
client_own t e steps snapshots k j s s' c h g g' old (inr (inr a)) = inr (inr (moment_of s', get_map snapshots (suc j) s' g', a))

client_written : (t : Talkers) (snapshots : List Snapshot) (k j : ℕ) (s s' : Snapshot) → IsReached t s.world s.cl s.sl → IsReached t s'.world s'.cl s'.sl → slice_get snapshots j ≡ Some s → slice_get snapshots (suc j) ≡ Some s' → begun s.world.client.state ≤ k → k < begun s'.world.client.state → WrittenAt (map moment_of snapshots) Client k j
client_written t snapshots k j s s' h h' g g' a b = (moment_of s, moment_of s', get_map snapshots j s g, get_map snapshots (suc j) s' g', (let e = (runs_tally t Client s.cl s.world.client h.client).own in omega (arith, e, a)), (let e = (runs_tally t Client s'.cl s'.world.client h'.client).own in omega (arith, e, b)))

-- written in a step for a cause of its own
abbrev pub ClientCaused : Talkers → Ends → List link.Step → List Snapshot → ℕ → Type 0
ClientCaused t e steps snapshots k = (i : ℕ) × WrittenAt (map moment_of snapshots) Client k i × OwnCause steps (map moment_of snapshots) (client_half t e) k i

-- ---- of the server

abbrev pub server_half : Talkers → Ends → Rattle.ssh_rules.specs.Marks.Half
server_half t e = half_in t Server e.server_log e.server e.server_submitted

-- an own reason behind a step, of an exchange that the step began
server_own : (t : Talkers) (e : Ends) (steps : List link.Step) (snapshots : List Snapshot) (k j : ℕ) (s s' : Snapshot) → Course t steps snapshots → IsReached t s.world s.cl s.sl → slice_get snapshots j ≡ Some s → slice_get snapshots (suc j) ≡ Some s' → begun s.world.server.state ≤ k → OwnOf (t.config Server) s'.sl k → OwnCause steps (map moment_of snapshots) (server_half t e) k j
server_own t e steps snapshots k j s s' c h g g' old (inl a) =
    let n = c.next j s s' g g' in
    inl (n.server_asked (asked_later (causes_in s.sl) (causes_in (server_log n.turns)) k (let q = runs_count t Server s.sl s.world.server h.server in omega (arith, q, old)) (subst (λ q. slice_get q k ≡ Some Asked) (ap causes_in n.sl ∙ causes_more s.sl (server_log n.turns)) a)))
server_own t e steps snapshots k j s s' c h g g' old (inr (inl a)) = inr (inl (moment_of s', get_map snapshots (suc j) s' g', a))
server_own t e steps snapshots k j s s' c h g g' old (inr (inr a)) = inr (inr (moment_of s', get_map snapshots (suc j) s' g', a))

server_written : (t : Talkers) (snapshots : List Snapshot) (k j : ℕ) (s s' : Snapshot) → IsReached t s.world s.cl s.sl → IsReached t s'.world s'.cl s'.sl → slice_get snapshots j ≡ Some s → slice_get snapshots (suc j) ≡ Some s' → begun s.world.server.state ≤ k → k < begun s'.world.server.state → WrittenAt (map moment_of snapshots) Server k j
server_written t snapshots k j s s' h h' g g' a b = (moment_of s, moment_of s', get_map snapshots j s g, get_map snapshots (suc j) s' g', (let e = (runs_tally t Server s.sl s.world.server h.server).own in omega (arith, e, a)), (let e = (runs_tally t Server s'.sl s'.world.server h'.server).own in omega (arith, e, b)))

-- written in a step for a cause of its own
abbrev pub ServerCaused : Talkers → Ends → List link.Step → List Snapshot → ℕ → Type 0
ServerCaused t e steps snapshots k = (i : ℕ) × WrittenAt (map moment_of snapshots) Server k i × OwnCause steps (map moment_of snapshots) (server_half t e) k i

-- ---- of both

-- an exchange that was begun so far was begun by one of the sides for a cause of its own
pub record Caused (t : Talkers) (e : Ends) (steps : List link.Step) (snapshots : List Snapshot) (k : ℕ) (s : Snapshot) : Type 0 where
  pub client : k < begun s.world.client.state → ClientCaused t e steps snapshots k ⊎ (ServerCaused t e steps snapshots k × (k < begun s.world.server.state))
  pub server : k < begun s.world.server.state → ServerCaused t e steps snapshots k ⊎ (ClientCaused t e steps snapshots k × (k < begun s.world.client.state))

-- a new exchange of the client: for a cause of its own, or the server had one
client_new : (t : Talkers) (e : Ends) (steps : List link.Step) (snapshots : List Snapshot) (k j : ℕ) (s s' : Snapshot) → Course t steps snapshots → IsReached t s.world s.cl s.sl → IsReached t s'.world s'.cl s'.sl → slice_get snapshots j ≡ Some s → slice_get snapshots (suc j) ≡ Some s' → Caused t e steps snapshots k s → begun s.world.client.state ≤ k → begun s.world.server.state ≤ begun s'.world.server.state → Because (t.config Client) (t.config Server) k (begun s.world.server.state) s'.cl s'.sl (begun s'.world.server.state)
    → OwnCause steps (map moment_of snapshots) (client_half t e) k j ⊎ ((k < kexinits (handled s'.cl)) × (ServerCaused t e steps snapshots k × (k < begun s'.world.server.state)))
client_new t e steps snapshots k j s s' c h h' g g' caused a grown (inl own) = inl (client_own t e steps snapshots k j s s' c h g g' a own)
client_new t e steps snapshots k j s s' c h h' g g' caused a grown (inr q) = inr (
  runs_read t Client s'.cl s'.world.client k h'.client q.0,
  elim (split k (begun s.world.server.state)) [
    | inl l ↦ (elim (caused.server l) [ inl z ↦ z | inr z ↦ absurd (let y = z.1 in omega (arith, y, a)) ], omega (arith, l, grown))
    | inr l ↦ elim q.1 [
      | inl z ↦ absurd (omega (arith, z, l))
      | inr z ↦ ((j, server_written t snapshots k j s s' h h' g g' l z.0, server_own t e steps snapshots k j s s' c h g g' l z.1), z.0)
    ]
  ],
)

-- a new exchange of the server: for a cause of its own, or the client had one
server_new : (t : Talkers) (e : Ends) (steps : List link.Step) (snapshots : List Snapshot) (k j : ℕ) (s s' : Snapshot) → Course t steps snapshots → IsReached t s.world s.cl s.sl → IsReached t s'.world s'.cl s'.sl → slice_get snapshots j ≡ Some s → slice_get snapshots (suc j) ≡ Some s' → Caused t e steps snapshots k s → begun s.world.server.state ≤ k → begun s.world.client.state ≤ begun s'.world.client.state → Because (t.config Server) (t.config Client) k (begun s.world.client.state) s'.sl s'.cl (begun s'.world.client.state)
    → OwnCause steps (map moment_of snapshots) (server_half t e) k j ⊎ ((k < kexinits (handled s'.sl)) × (ClientCaused t e steps snapshots k × (k < begun s'.world.client.state)))
server_new t e steps snapshots k j s s' c h h' g g' caused a grown (inl own) = inl (server_own t e steps snapshots k j s s' c h g g' a own)
server_new t e steps snapshots k j s s' c h h' g g' caused a grown (inr q) = inr (
  runs_read t Server s'.sl s'.world.server k h'.server q.0,
  elim (split k (begun s.world.client.state)) [
    | inl l ↦ (elim (caused.client l) [ inl z ↦ z | inr z ↦ absurd (let y = z.1 in omega (arith, y, a)) ], omega (arith, l, grown))
    | inr l ↦ elim q.1 [
      | inl z ↦ absurd (omega (arith, z, l))
      | inr z ↦ ((j, client_written t snapshots k j s s' h h' g g' l z.0, client_own t e steps snapshots k j s s' c h g g' l z.1), z.0)
    ]
  ],
)

-- what a step leads to
after : (t : Talkers) (steps : List link.Step) (snapshots : List Snapshot) (k j : ℕ) (s s' : Snapshot) → AreFit t → HaveLimits t → 1 ≤ k → Course t steps snapshots → IsReached t s.world s.cl s.sl → slice_get snapshots j ≡ Some s → slice_get snapshots (suc j) ≡ Some s' → Reasoned t k (begun s.world.client.state) (begun s.world.server.state) s'.world s'.cl s'.sl
after t steps snapshots k j s s' fit limits some c h g g' =
    let n = c.next j s s' g g' in
    subst (λ q. Reasoned t k (begun s.world.client.state) (begun s.world.server.state) s'.world q s'.sl) (sym n.cl) (subst (λ q. Reasoned t k (begun s.world.client.state) (begun s.world.server.state) s'.world (s.cl ++ client_log n.turns) q) (sym n.sl) (step_reasons t k n.turns s.world s.cl s.sl s'.world fit limits some h n.plays))

client_grows : (t : Talkers) (steps : List link.Step) (snapshots : List Snapshot) (j : ℕ) (s s' : Snapshot) → Course t steps snapshots → slice_get snapshots j ≡ Some s → slice_get snapshots (suc j) ≡ Some s' → begun s.world.client.state ≤ begun s'.world.client.state
client_grows t steps snapshots j s s' c g g' = (let n = c.next j s s' g g' in client_plays t n.turns s.world s'.world n.plays)

server_grows : (t : Talkers) (steps : List link.Step) (snapshots : List Snapshot) (j : ℕ) (s s' : Snapshot) → Course t steps snapshots → slice_get snapshots j ≡ Some s → slice_get snapshots (suc j) ≡ Some s' → begun s.world.server.state ≤ begun s'.world.server.state
server_grows t steps snapshots j s s' c g g' = (let n = c.next j s s' g g' in server_plays t n.turns s.world s'.world n.plays)

none_begun : (t : Talkers) (steps : List link.Step) (snapshots : List Snapshot) (s : Snapshot) → Course t steps snapshots → slice_get snapshots 0 ≡ Some s → (begun s.world.client.state ≡ 0) × (begun s.world.server.state ≡ 0)
none_begun t steps snapshots s c g = (let f = (c.first s g).0 in (ap (λ (w : World). begun w.client.state) f, ap (λ (w : World). begun w.server.state) f))

pub caused_at : (t : Talkers) (e : Ends) (steps : List link.Step) (snapshots : List Snapshot) (k : ℕ) → AreFit t → HaveLimits t → 1 ≤ k → Course t steps snapshots → (j : ℕ) (s : Snapshot) → slice_get snapshots j ≡ Some s → Caused t e steps snapshots k s
caused_at t e steps snapshots k fit limits some c zero s g = (let z = none_begun t steps snapshots s c g in record { client = λ l. absurd (let y = z.0 in omega (arith, l, y)); server = λ l. absurd (let y = z.1 in omega (arith, l, y)) })
caused_at t e steps snapshots k fit limits some c (suc j) s' g' =
    let b = get_before snapshots j s' g' in
    let h = held_at t steps snapshots fit c j b.0 b.1 in
    let h' = held_at t steps snapshots fit c (suc j) s' g' in
    let q = after t steps snapshots k j b.0 s' fit limits some c h b.1 g' in
    let before = caused_at t e steps snapshots k fit limits some c j b.0 b.1 in
    let cg = client_grows t steps snapshots j b.0 s' c b.1 g' in
    let sg = server_grows t steps snapshots j b.0 s' c b.1 g' in
    record {
      client = λ l. elim (split k (begun b.0.world.client.state)) [
        | inl o ↦ elim (before.client o) [ inl z ↦ inl z | inr z ↦ inr (z.0, (let y = z.1 in omega (arith, y, sg))) ]
        | inr o ↦ elim (client_new t e steps snapshots k j b.0 s' c h h' b.1 g' before o sg (q.client o l)) [ inl z ↦ inl (j, client_written t snapshots k j b.0 s' h h' b.1 g' o l, z) | inr z ↦ inr z.1 ]
      ];
      server = λ l. elim (split k (begun b.0.world.server.state)) [
        | inl o ↦ elim (before.server o) [ inl z ↦ inl z | inr z ↦ inr (z.0, (let y = z.1 in omega (arith, y, cg))) ]
        | inr o ↦ elim (server_new t e steps snapshots k j b.0 s' c h h' b.1 g' before o cg (q.server o l)) [ inl z ↦ inl (j, server_written t snapshots k j b.0 s' h h' b.1 g' o l, z) | inr z ↦ inr z.1 ]
      ];
    }

-- each exchange behind the first that the client begins has its cause
pub client_causes : (t : Talkers) (e : Ends) (steps : List link.Step) (snapshots : List Snapshot) → AreFit t → HaveLimits t → Course t steps snapshots → HaveCauses steps (map moment_of snapshots) (client_half t e) (server_half t e)
client_causes t e steps snapshots fit limits c = λ k j some w. found k j some (get_map_back snapshots j w.0 w.2) (get_map_back snapshots (suc j) w.1 w.3) w.4 w.5 where
  found : (k j : ℕ) → 1 ≤ k → {m m' : Moment} → (x : Snapshot) × (slice_get snapshots j ≡ Some x) × (moment_of x ≡ m) → (y : Snapshot) × (slice_get snapshots (suc j) ≡ Some y) × (moment_of y ≡ m') → kexinits (own_of Client m) ≤ k → k < kexinits (own_of Client m')
      → OwnCause steps (map moment_of snapshots) (client_half t e) k j ⊎ ((after : Moment) × (slice_get (map moment_of snapshots) (suc j) ≡ Some after) × (k < kexinits (theirs_of Client after)) × (i : ℕ) × WrittenAt (map moment_of snapshots) Server k i × OwnCause steps (map moment_of snapshots) (server_half t e) k i)
  found k j some x y a b =
      let h = held_at t steps snapshots fit c j x.0 x.1 in
      let h' = held_at t steps snapshots fit c (suc j) y.0 y.1 in
      let old : begun x.0.world.client.state ≤ k = (let e1 = (runs_tally t Client x.0.cl x.0.world.client h.client).own in let e2 : kexinits (wrote x.0.cl) ≤ k = subst (λ (n : Moment). kexinits (own_of Client n) ≤ k) (sym x.2) a in omega (arith, e1, e2)) in
      let new : k < begun y.0.world.client.state = (let e1 = (runs_tally t Client y.0.cl y.0.world.client h'.client).own in let e2 : k < kexinits (wrote y.0.cl) = subst (λ (n : Moment). k < kexinits (own_of Client n)) (sym y.2) b in omega (arith, e1, e2)) in
      let q = after t steps snapshots k j x.0 y.0 fit limits some c h x.1 y.1 in
      elim (client_new t e steps snapshots k j x.0 y.0 c h h' x.1 y.1 (caused_at t e steps snapshots k fit limits some c j x.0 x.1) old (server_grows t steps snapshots j x.0 y.0 c x.1 y.1) (q.client old new)) [
        | inl z ↦ inl z
        | inr z ↦ inr (moment_of y.0, get_map snapshots (suc j) y.0 y.1, z.0, z.1.0.0, z.1.0.1, z.1.0.2)
      ]

-- each exchange behind the first that the server begins has its cause
pub server_causes : (t : Talkers) (e : Ends) (steps : List link.Step) (snapshots : List Snapshot) → AreFit t → HaveLimits t → Course t steps snapshots → HaveCauses steps (map moment_of snapshots) (server_half t e) (client_half t e)
server_causes t e steps snapshots fit limits c = λ k j some w. found k j some (get_map_back snapshots j w.0 w.2) (get_map_back snapshots (suc j) w.1 w.3) w.4 w.5 where
  found : (k j : ℕ) → 1 ≤ k → {m m' : Moment} → (x : Snapshot) × (slice_get snapshots j ≡ Some x) × (moment_of x ≡ m) → (y : Snapshot) × (slice_get snapshots (suc j) ≡ Some y) × (moment_of y ≡ m') → kexinits (own_of Server m) ≤ k → k < kexinits (own_of Server m')
      → OwnCause steps (map moment_of snapshots) (server_half t e) k j ⊎ ((after : Moment) × (slice_get (map moment_of snapshots) (suc j) ≡ Some after) × (k < kexinits (theirs_of Server after)) × (i : ℕ) × WrittenAt (map moment_of snapshots) Client k i × OwnCause steps (map moment_of snapshots) (client_half t e) k i)
  found k j some x y a b =
      let h = held_at t steps snapshots fit c j x.0 x.1 in
      let h' = held_at t steps snapshots fit c (suc j) y.0 y.1 in
      let old : begun x.0.world.server.state ≤ k = (let e1 = (runs_tally t Server x.0.sl x.0.world.server h.server).own in let e2 : kexinits (wrote x.0.sl) ≤ k = subst (λ (n : Moment). kexinits (own_of Server n) ≤ k) (sym x.2) a in omega (arith, e1, e2)) in
      let new : k < begun y.0.world.server.state = (let e1 = (runs_tally t Server y.0.sl y.0.world.server h'.server).own in let e2 : k < kexinits (wrote y.0.sl) = subst (λ (n : Moment). k < kexinits (own_of Server n)) (sym y.2) b in omega (arith, e1, e2)) in
      let q = after t steps snapshots k j x.0 y.0 fit limits some c h x.1 y.1 in
      elim (server_new t e steps snapshots k j x.0 y.0 c h h' x.1 y.1 (caused_at t e steps snapshots k fit limits some c j x.0 x.1) old (client_grows t steps snapshots j x.0 y.0 c x.1 y.1) (q.server old new)) [
        | inl z ↦ inl z
        | inr z ↦ inr (moment_of y.0, get_map snapshots (suc j) y.0 y.1, z.0, z.1.0.0, z.1.0.1, z.1.0.2)
      ]
