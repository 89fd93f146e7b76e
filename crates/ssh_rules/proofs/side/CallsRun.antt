-- How often a run asks the handed-in parts: no more than was to come and what the exchanges that it began have.
use Rattle.std.proofs.Common.{◌≡◌, ℕ, ◌+◌, ◌-◌, ◌*◌, ◌≤◌, List, [], ◌∷◌, ◌++◌, length, refl, sym, ◌∙◌, ap, subst, arith, Option, Some, None}
use Rattle.std.proofs.Math.Nat.{mul-add}
use Rattle.ssh_packet.specs.Sealing.{next_number}
use Rattle.ssh_wire.specs.declared.side.Side.{Side}
use Rattle.ssh_wire.specs.declared.side.Side.TheVariants.{Client, Server}
use Rattle.ssh_kex.specs.Setting.{Says}
use Rattle.ssh_kex.specs.Stages.{Stage, Created, AwaitsGroup, AwaitsReply, AwaitsRequest, AwaitsValue, AwaitsNewkeys, guess_dropped}
use Rattle.ssh_kex.specs.Stepping.{asks_agreement, asks_hosts, asks_groups}
use Rattle.ssh_kex.specs.declared.config.Config.{Config}
use Rattle.ssh_kex.specs.declared.exchange.Exchange.{Exchange}
use Rattle.ssh_kex.specs.declared.exchange.FinishedExchange.{FinishedExchange}
use Rattle.ssh_kex.specs.declared.exchange.ServerHost.{ServerHost}
use Rattle.ssh_rules.specs.Calls.{agreement_left, hosts_left, lookups_left}
use Rattle.ssh_rules.specs.Counting.{begun, open_count, agreement_to_come, hosts_to_come, lookups_to_come, calls_of, lookups_of, CallsFrom}
use Rattle.ssh_rules.specs.Machine.{Where, Silent, Inside, SideState, setting, Cause, Start, Asked, Answering, WriteLimit, ReadLimit, MayBegin, Event, IdHeard, PayloadSubmitted, ExchangeBegun, AnswerSent, PayloadSent, MessageTaken, GuessDropped, PayloadDelivered, PacketDropped, ExchangeFinished, Step, Steps, first_state, stage_at}
use Rattle.ssh_rules.proofs.side.Calls.{asks_left, asks_lookups}
use Rattle.ssh_rules.proofs.side.Left.{begun_steps, begun_step, may_open}
use Rattle.ssh_rules.proofs.side.StageSteps.{setting_side}

-- A count of calls: how many are to come where a side stands, how many an exchange has, and how many an event asks.
pub record Counts : Type 0 where
  pub to_come : Where → ℕ
  pub each : ℕ
  pub asked : Where → Event → Where → ℕ

-- an event asks no more than was to come
abbrev pub Pays : Counts → Says → Side → Config → List ℕ → Type 0
Pays c says side config own_id = (st : SideState) (e : Event) (st' : SideState) → Step says side config own_id st e st' → c.asked st.stands e st'.stands + c.to_come st'.stands ≤ c.to_come st.stands + c.each * (begun st' - begun st)

-- how many calls a run asks
abbrev pub calls_in : Counts → (says : Says) (side : Side) (config : Config) (own_id : List ℕ) (log : List Event) (st st' : SideState) → Steps says side config own_id st log st' → ℕ
calls_in c says side config own_id [] st st' h = 0
calls_in c says side config own_id (e ∷ es) st st' h = c.asked st.stands e h.0.stands + calls_in c says side config own_id es h.0 st' h.2

pub split_times : (n a b c : ℕ) → a ≤ b → b ≤ c → n * (b - a) + n * (c - b) ≡ n * (c - a)
split_times n a b c l m = sym (mul-add n (b - a) (c - b)) ∙ ap (λ d. n * d) (let z : (b - a) + (c - b) ≡ c - a = omega (arith, l, m) in z)

-- counts join
pub calls_join : (to_come : Where → ℕ) (each : ℕ) (a b c : SideState) (n m k : ℕ) → begun a ≤ begun b → begun b ≤ begun c → CallsFrom to_come each a b n m → CallsFrom to_come each b c m k → CallsFrom to_come each a c n k
calls_join to_come each a b c n m k l r p q = let s = split_times each (begun a) (begun b) (begun c) l r in (omega (arith, p.0, q.0), omega (arith, p.1, q.1, s))

-- Of any events: a count of calls rises by no more than what was to come and what the exchanges that were begun have.
pub calls_steps : (c : Counts) (says : Says) (side : Side) (config : Config) (own_id : List ℕ) (log : List Event) (st st' : SideState) (n : ℕ) → Pays c says side config own_id → (h : Steps says side config own_id st log st') → CallsFrom c.to_come c.each st st' n (n + calls_in c says side config own_id log st st' h)
calls_steps c says side config own_id [] st st' n pays h = subst (λ m. CallsFrom c.to_come c.each st m n (n + 0)) (sym h) (omega arith, omega arith)
calls_steps c says side config own_id (e ∷ es) st st' n pays h =
    let one = pays st e h.0 h.1 in
    let q = c.asked st.stands e h.0.stands in
    let rest = calls_steps c says side config own_id es h.0 st' (n + q) pays h.2 in
    let s = split_times c.each (begun st) (begun h.0) (begun st') (begun_step says side config own_id st e h.0 h.1) (begun_steps says side config own_id es h.0 st' h.2) in
    (omega (arith, rest.0), omega (arith, one, rest.1, s))

-- ---- what an event asks, by where a side stands before and behind it

abbrev agreement_by : Side → Option Stage → Option Stage → ℕ
agreement_by side None next = 0
agreement_by side (Some stage) next = asks_agreement side stage next

abbrev pub agreement_asked : Side → Where → Event → Where → ℕ
agreement_asked side w (IdHeard id) w' = 0
agreement_asked side w (PayloadSubmitted p) w' = 0
agreement_asked side w (ExchangeBegun cause i) w' = 0
agreement_asked side w (AnswerSent i r) w' = 0
agreement_asked side w (PayloadSent i) w' = 0
agreement_asked side w (MessageTaken i) w' = agreement_by side (stage_at w) (stage_at w')
agreement_asked side w (GuessDropped i) w' = 0
agreement_asked side w (PayloadDelivered i) w' = 0
agreement_asked side w (PacketDropped i) w' = 0
agreement_asked side w (ExchangeFinished i x) w' = 0

abbrev hosts_by : Option Stage → ℕ
hosts_by None = 0
hosts_by (Some stage) = asks_hosts stage

-- at the end a client's host keys are asked whether the host is trusted
abbrev trust_asked : Option Stage → ℕ
trust_asked None = 0
trust_asked (Some (Created own)) = 0
trust_asked (Some (AwaitsGroup o)) = 0
trust_asked (Some (AwaitsReply o gex local public)) = 0
trust_asked (Some (AwaitsRequest o)) = 0
trust_asked (Some (AwaitsValue o gex)) = 0
trust_asked (Some (AwaitsNewkeys exchange made None)) = 0
trust_asked (Some (AwaitsNewkeys exchange made (Some host))) = 1

abbrev pub hosts_asked : Where → Event → Where → ℕ
hosts_asked w (IdHeard id) w' = 0
hosts_asked w (PayloadSubmitted p) w' = 0
hosts_asked w (ExchangeBegun cause i) w' = 0
hosts_asked w (AnswerSent i r) w' = 0
hosts_asked w (PayloadSent i) w' = 0
hosts_asked w (MessageTaken i) w' = hosts_by (stage_at w)
hosts_asked w (GuessDropped i) w' = 0
hosts_asked w (PayloadDelivered i) w' = 0
hosts_asked w (PacketDropped i) w' = 0
hosts_asked w (ExchangeFinished i x) w' = trust_asked (stage_at w)

abbrev lookups_by : Option Stage → ℕ
lookups_by None = 0
lookups_by (Some stage) = asks_groups stage

abbrev pub lookups_asked : Where → Event → Where → ℕ
lookups_asked w (IdHeard id) w' = 0
lookups_asked w (PayloadSubmitted p) w' = 0
lookups_asked w (ExchangeBegun cause i) w' = 0
lookups_asked w (AnswerSent i r) w' = 0
lookups_asked w (PayloadSent i) w' = 0
lookups_asked w (MessageTaken i) w' = lookups_by (stage_at w)
lookups_asked w (GuessDropped i) w' = 0
lookups_asked w (PayloadDelivered i) w' = 0
lookups_asked w (PacketDropped i) w' = 0
lookups_asked w (ExchangeFinished i x) w' = 0

abbrev pub agreement_counts : Side → Counts
agreement_counts side = record { to_come = agreement_to_come side; each = calls_of side; asked = agreement_asked side }

abbrev pub hosts_counts : Side → Counts
hosts_counts side = record { to_come = hosts_to_come side; each = calls_of side; asked = hosts_asked }

abbrev pub lookups_counts : Side → Counts
lookups_counts side = record { to_come = lookups_to_come side; each = lookups_of side; asked = lookups_asked }

-- ---- where nothing is to come

closed_agreement : (config : Config) (st : SideState) (cause : Cause) (side : Side) → MayBegin config st cause → (agreement_to_come side st.stands ≡ 0) × (hosts_to_come side st.stands ≡ 0) × (lookups_to_come side st.stands ≡ 0)
closed_agreement config st Start side h = (ap (agreement_to_come side) h.0, ap (hosts_to_come side) h.0, ap (lookups_to_come side) h.0)
closed_agreement config st Asked side h = (ap (agreement_to_come side) h, ap (hosts_to_come side) h, ap (lookups_to_come side) h)
closed_agreement config st Answering side h = (ap (agreement_to_come side) h, ap (hosts_to_come side) h, ap (lookups_to_come side) h)
closed_agreement config st WriteLimit side h = (ap (agreement_to_come side) h.0, ap (hosts_to_come side) h.0, ap (lookups_to_come side) h.0)
closed_agreement config st ReadLimit side h = (ap (agreement_to_come side) h.0, ap (hosts_to_come side) h.0, ap (lookups_to_come side) h.0)

-- ---- stages

pub dropped_calls : (side : Side) (stage : Stage) → (agreement_to_come side (Inside (guess_dropped stage)) ≡ agreement_to_come side (Inside stage)) × (hosts_to_come side (Inside (guess_dropped stage)) ≡ hosts_to_come side (Inside stage)) × (lookups_to_come side (Inside (guess_dropped stage)) ≡ lookups_to_come side (Inside stage))
dropped_calls Client (Created own) = (refl, refl, refl)
dropped_calls Client (AwaitsGroup o) = (refl, refl, refl)
dropped_calls Client (AwaitsReply o g l p) = (refl, refl, refl)
dropped_calls Client (AwaitsRequest o) = (refl, refl, refl)
dropped_calls Client (AwaitsValue o g) = (refl, refl, refl)
dropped_calls Client (AwaitsNewkeys exchange made host) = (refl, refl, refl)
dropped_calls Server (Created own) = (refl, refl, refl)
dropped_calls Server (AwaitsGroup o) = (refl, refl, refl)
dropped_calls Server (AwaitsReply o g l p) = (refl, refl, refl)
dropped_calls Server (AwaitsRequest o) = (refl, refl, refl)
dropped_calls Server (AwaitsValue o g) = (refl, refl, refl)
dropped_calls Server (AwaitsNewkeys exchange made host) = (refl, refl, refl)

trust_left : (side : Side) (exchange : Exchange) (x : FinishedExchange) (host : Option ServerHost) → trust_asked (Some (AwaitsNewkeys exchange x host)) ≡ hosts_to_come side (Inside (AwaitsNewkeys exchange x host))
trust_left side exchange x None = refl
trust_left side exchange x (Some host) = refl

pub begun_first : (side : Side) (own : List ℕ) → (agreement_to_come side (Inside (Created own)) ≡ calls_of side) × (hosts_to_come side (Inside (Created own)) ≡ calls_of side) × (lookups_to_come side (Inside (Created own)) ≡ lookups_of side)
begun_first Client own = (refl, refl, refl)
begun_first Server own = (refl, refl, refl)

-- ---- each event

abbrev PaysAt : Counts → SideState → Event → SideState → Type 0
PaysAt c st e m = c.asked st.stands e m.stands + c.to_come m.stands ≤ c.to_come st.stands + c.each * (begun m - begun st)

more_times : (n d : ℕ) → d ≡ 1 → n * d ≡ n
more_times n d e = ap (λ k. n * k) e ∙ (let z : n * 1 ≡ n = omega arith in z)

pub agreement_pays : (says : Says) (side : Side) (config : Config) (own_id : List ℕ) → Pays (agreement_counts side) says side config own_id
agreement_pays says side config own_id = λ st e st' h. by st e st' h where
  by : (st : SideState) (e : Event) (st' : SideState) → Step says side config own_id st e st' → PaysAt (agreement_counts side) st e st'
  by st (IdHeard id) st' h = subst (λ m. PaysAt (agreement_counts side) st (IdHeard id) m) (sym h.becomes) (omega arith)
  by st (PayloadSubmitted p) st' h = subst (λ m. PaysAt (agreement_counts side) st (PayloadSubmitted p) m) (sym h.becomes) (omega arith)
  by st (ExchangeBegun cause i) st' h = subst (λ m. PaysAt (agreement_counts side) st (ExchangeBegun cause i) m) (sym h.becomes) (let z = (closed_agreement config st cause side h.may).0 in let b = (may_open config st cause h.may).0 in let f = (begun_first side i.payload).0 in let k = more_times ((agreement_counts side).each) (length st.records + 1 - begun st) (omega (arith, b)) in omega (arith, z, f, k))
  by st (AnswerSent i r) st' h = subst (λ m. PaysAt (agreement_counts side) st (AnswerSent i r) m) (sym h.becomes) (omega arith)
  by st (PayloadSent i) st' h = subst (λ m. PaysAt (agreement_counts side) st (PayloadSent i) m) (sym h.becomes) (omega arith)
  by st (MessageTaken i) st' h = subst (λ m. PaysAt (agreement_counts side) st (MessageTaken i) m) (sym h.becomes) (let r = asks_left says (setting side config own_id st) h.stage (next_number st.reading.number) i.payload h.answers h.next h.takes in let s = subst (λ d. (asks_agreement d h.stage (Some h.next) + agreement_left d h.next ≤ agreement_left d h.stage) × (asks_hosts h.stage + hosts_left d h.next ≤ hosts_left d h.stage)) (setting_side side config own_id st) r in subst (λ w. agreement_by side (stage_at w) (Some h.next) + agreement_left side h.next ≤ agreement_to_come side w + calls_of side * (length st.records + 1 - (length st.records + open_count w))) (sym h.inside) (omega (arith, s.0)))
  by st (GuessDropped i) st' h = subst (λ m. PaysAt (agreement_counts side) st (GuessDropped i) m) (sym h.becomes) (let a = ap (((agreement_counts side)).to_come) h.inside in let d = (dropped_calls side h.stage).0 in omega (arith, a, d))
  by st (PayloadDelivered i) st' h = subst (λ m. PaysAt (agreement_counts side) st (PayloadDelivered i) m) (sym h.becomes) (omega arith)
  by st (PacketDropped i) st' h = subst (λ m. PaysAt (agreement_counts side) st (PacketDropped i) m) (sym h.becomes) (omega arith)
  by st (ExchangeFinished i x) st' h = subst (λ m. PaysAt (agreement_counts side) st (ExchangeFinished i x) m) (sym h.becomes) (let a = ap (agreement_to_come side) h.inside in omega (arith, a))

pub hosts_pays : (says : Says) (side : Side) (config : Config) (own_id : List ℕ) → Pays (hosts_counts side) says side config own_id
hosts_pays says side config own_id = λ st e st' h. by st e st' h where
  by : (st : SideState) (e : Event) (st' : SideState) → Step says side config own_id st e st' → PaysAt (hosts_counts side) st e st'
  by st (IdHeard id) st' h = subst (λ m. PaysAt (hosts_counts side) st (IdHeard id) m) (sym h.becomes) (omega arith)
  by st (PayloadSubmitted p) st' h = subst (λ m. PaysAt (hosts_counts side) st (PayloadSubmitted p) m) (sym h.becomes) (omega arith)
  by st (ExchangeBegun cause i) st' h = subst (λ m. PaysAt (hosts_counts side) st (ExchangeBegun cause i) m) (sym h.becomes) (let z = (closed_agreement config st cause side h.may).1 in let b = (may_open config st cause h.may).0 in let f = (begun_first side i.payload).1 in let k = more_times ((hosts_counts side).each) (length st.records + 1 - begun st) (omega (arith, b)) in omega (arith, z, f, k))
  by st (AnswerSent i r) st' h = subst (λ m. PaysAt (hosts_counts side) st (AnswerSent i r) m) (sym h.becomes) (omega arith)
  by st (PayloadSent i) st' h = subst (λ m. PaysAt (hosts_counts side) st (PayloadSent i) m) (sym h.becomes) (omega arith)
  by st (MessageTaken i) st' h = subst (λ m. PaysAt (hosts_counts side) st (MessageTaken i) m) (sym h.becomes) (let r = asks_left says (setting side config own_id st) h.stage (next_number st.reading.number) i.payload h.answers h.next h.takes in let s = subst (λ d. (asks_agreement d h.stage (Some h.next) + agreement_left d h.next ≤ agreement_left d h.stage) × (asks_hosts h.stage + hosts_left d h.next ≤ hosts_left d h.stage)) (setting_side side config own_id st) r in subst (λ w. hosts_by (stage_at w) + hosts_left side h.next ≤ hosts_to_come side w + calls_of side * (length st.records + 1 - (length st.records + open_count w))) (sym h.inside) (omega (arith, s.1)))
  by st (GuessDropped i) st' h = subst (λ m. PaysAt (hosts_counts side) st (GuessDropped i) m) (sym h.becomes) (let a = ap (((hosts_counts side)).to_come) h.inside in let d = (dropped_calls side h.stage).1 in omega (arith, a, d))
  by st (PayloadDelivered i) st' h = subst (λ m. PaysAt (hosts_counts side) st (PayloadDelivered i) m) (sym h.becomes) (omega arith)
  by st (PacketDropped i) st' h = subst (λ m. PaysAt (hosts_counts side) st (PacketDropped i) m) (sym h.becomes) (omega arith)
  by st (ExchangeFinished i x) st' h = subst (λ m. PaysAt (hosts_counts side) st (ExchangeFinished i x) m) (sym h.becomes) (subst (λ w. trust_asked (stage_at w) + 0 ≤ hosts_to_come side w + calls_of side * (length (st.records ++ x ∷ []) + 0 - begun st)) (sym h.inside) (let a = trust_left side h.exchange x h.host in omega (arith, a)))

pub lookups_pays : (says : Says) (side : Side) (config : Config) (own_id : List ℕ) → Pays (lookups_counts side) says side config own_id
lookups_pays says side config own_id = λ st e st' h. by st e st' h where
  by : (st : SideState) (e : Event) (st' : SideState) → Step says side config own_id st e st' → PaysAt (lookups_counts side) st e st'
  by st (IdHeard id) st' h = subst (λ m. PaysAt (lookups_counts side) st (IdHeard id) m) (sym h.becomes) (omega arith)
  by st (PayloadSubmitted p) st' h = subst (λ m. PaysAt (lookups_counts side) st (PayloadSubmitted p) m) (sym h.becomes) (omega arith)
  by st (ExchangeBegun cause i) st' h = subst (λ m. PaysAt (lookups_counts side) st (ExchangeBegun cause i) m) (sym h.becomes) (let z = (closed_agreement config st cause side h.may).2 in let b = (may_open config st cause h.may).0 in let f = (begun_first side i.payload).2 in let k = more_times ((lookups_counts side).each) (length st.records + 1 - begun st) (omega (arith, b)) in omega (arith, z, f, k))
  by st (AnswerSent i r) st' h = subst (λ m. PaysAt (lookups_counts side) st (AnswerSent i r) m) (sym h.becomes) (omega arith)
  by st (PayloadSent i) st' h = subst (λ m. PaysAt (lookups_counts side) st (PayloadSent i) m) (sym h.becomes) (omega arith)
  by st (MessageTaken i) st' h = subst (λ m. PaysAt (lookups_counts side) st (MessageTaken i) m) (sym h.becomes) (let r = asks_lookups says (setting side config own_id st) h.stage (next_number st.reading.number) i.payload h.answers h.next h.takes in let s = subst (λ d. asks_groups h.stage + lookups_left d h.next ≤ lookups_left d h.stage) (setting_side side config own_id st) r in subst (λ w. lookups_by (stage_at w) + lookups_to_come side (Inside h.next) ≤ lookups_to_come side w + lookups_of side * (length st.records + 1 - (length st.records + open_count w))) (sym h.inside) (omega (arith, s)))
  by st (GuessDropped i) st' h = subst (λ m. PaysAt (lookups_counts side) st (GuessDropped i) m) (sym h.becomes) (let a = ap (((lookups_counts side)).to_come) h.inside in let d = (dropped_calls side h.stage).2 in omega (arith, a, d))
  by st (PayloadDelivered i) st' h = subst (λ m. PaysAt (lookups_counts side) st (PayloadDelivered i) m) (sym h.becomes) (omega arith)
  by st (PacketDropped i) st' h = subst (λ m. PaysAt (lookups_counts side) st (PacketDropped i) m) (sym h.becomes) (omega arith)
  by st (ExchangeFinished i x) st' h = subst (λ m. PaysAt (lookups_counts side) st (ExchangeFinished i x) m) (sym h.becomes) (omega arith)

-- Of any run from its start: no more calls than the exchanges that it began have.
pub calls_run : (c : Counts) (says : Says) (side : Side) (config : Config) (own_id : List ℕ) (log : List Event) (st : SideState) → c.to_come Silent ≡ 0 → Pays c says side config own_id → (h : Steps says side config own_id first_state log st) → calls_in c says side config own_id log first_state st h ≤ c.each * begun st
calls_run c says side config own_id log st z pays h = let r = (calls_steps c says side config own_id log first_state st 0 pays h).1 in let e : c.each * (begun st - begun first_state) ≡ c.each * begun st = ap (λ k. c.each * k) (let f : begun st - begun first_state ≡ begun st = omega arith in f) in omega (arith, r, z, e)
