-- Each part is asked once at most for each message of an exchange.
use Rattle.std.proofs.Common.{◌≡◌, ℕ, ◌+◌, ◌-◌, ◌*◌, ◌≤◌, Bool, true, false, if◌then◌else◌, List, [], ◌∷◌, ◌++◌, length, refl, sym, ap, ◌∙◌, subst, arith, Option, Some, None, length-append}
use Rattle.ssh_packet.specs.Sealing.{Item, next_number}
use Rattle.ssh_wire.specs.declared.side.Side.{Side}
use Rattle.ssh_wire.specs.declared.side.Side.TheVariants.{Client, Server}
use Rattle.ssh_kex.specs.Messages.{is_gex}
use Rattle.ssh_kex.specs.Setting.{Says, Setting, Opened}
use Rattle.ssh_kex.specs.Stages.{Stage, Created, AwaitsGroup, AwaitsReply, AwaitsRequest, AwaitsValue, AwaitsNewkeys, Takes, OpensBy, guess_dropped}
use Rattle.ssh_packet.specs.Stream.{message_type}
use Rattle.ssh_kex.specs.declared.config.Config.{Config}
use Rattle.ssh_kex.specs.declared.exchange.Exchange.{Exchange}
use Rattle.ssh_kex.specs.declared.exchange.FinishedExchange.{FinishedExchange}
use Rattle.ssh_kex.specs.declared.exchange.ServerHost.{ServerHost}
use Rattle.ssh_rules.specs.Asking.{AsksAtMost, AsksFew, AsksForCause, AsksForType, AsksUntil, AsksWithin, PartCalls, kex_count, refused_packet}
use Rattle.ssh_rules.specs.Calls.{agreement_left, hosts_left, lookups_left}
use Rattle.ssh_rules.specs.Counting.{CallsFrom, begun, open_count, agreement_to_come, hosts_to_come, lookups_to_come, calls_of, lookups_of}
use Rattle.ssh_rules.specs.Log.{handled}
use Rattle.ssh_rules.specs.Machine.{Where, Silent, Outside, Inside, SideState, setting, Cause, Start, Asked, Answering, WriteLimit, ReadLimit, MayBegin, Event, IdHeard, PayloadSubmitted, ExchangeBegun, AnswerSent, PayloadSent, MessageTaken, GuessDropped, PayloadDelivered, PacketDropped, ExchangeFinished, Step, Steps}
use Rattle.ssh_rules.specs.MessageTypes.{is_kex_type, type_of}
use Rattle.ssh_rules.specs.Standing.{OfFault, OfMemory, OfPacket, OfVersion, RefusalCause, Standing}
use Rattle.ssh_rules.proofs.side.CallsRun.{begun_first, dropped_calls, split_times}
use Rattle.ssh_rules.proofs.side.LedgerSteps.{takes_kex}
use Rattle.ssh_rules.proofs.side.Left.{begun_step, begun_steps, may_open}
use Rattle.ssh_rules.proofs.side.StageSteps.{setting_side}

-- ---- what a row takes from what was left

-- one at most
record Falls (side : Side) (stage next : Stage) : Type 0 where
  pub agreement : agreement_left side stage ≤ agreement_left side next + 1
  pub hosts : hosts_left side stage ≤ hosts_left side next + 1
  pub lookups : lookups_left side stage ≤ lookups_left side next + 1

falls_to : (side : Side) (stage next n0 : Stage) → next ≡ n0 → Falls side stage n0 → Falls side stage next
falls_to side stage next n0 e h = subst (λ n. Falls side stage n) (sym e) h

opened_falls : (says : Says) (s : Setting) (o : Opened) (side : Side) (kind : Bool) (own : List ℕ) (written : List (List ℕ)) (next : Stage) → OpensBy side kind says s o written next → Falls side (Created own) next
opened_falls says s o Client true own written next h = falls_to Client (Created own) next _ h.next_is (record { agreement = omega arith; hosts = omega arith; lookups = omega arith })
opened_falls says s o Client false own written next h = falls_to Client (Created own) next (AwaitsReply o None h.local h.public) h.leads.next_is (record { agreement = omega arith; hosts = omega arith; lookups = omega arith })
opened_falls says s o Server true own written next h = falls_to Server (Created own) next _ h.next_is (record { agreement = omega arith; hosts = omega arith; lookups = omega arith })
opened_falls says s o Server false own written next h = falls_to Server (Created own) next _ h.next_is (record { agreement = omega arith; hosts = omega arith; lookups = omega arith })

taken_falls : (says : Says) (s : Setting) (stage : Stage) (seqn : ℕ) (payload : List ℕ) (written : List (List ℕ)) (next : Stage) → Takes says s stage seqn payload written next → Falls s.side stage next
taken_falls says s (Created own) seqn payload written next h = opened_falls says s (record { names = h.names; own_kexinit = own; peer_kexinit = payload }) s.side (is_gex h.names.kex) own written next h.opens
taken_falls says s (AwaitsGroup o) seqn payload written next h = falls_to s.side (AwaitsGroup o) next (AwaitsReply o _ h.local h.public) h.leads.next_is (record { agreement = omega arith; hosts = omega arith; lookups = omega arith })
taken_falls says s (AwaitsReply o g l p) seqn payload written next h = falls_to s.side (AwaitsReply o g l p) next (AwaitsNewkeys _ _ (Some _)) h.leads.next_is (record { agreement = omega arith; hosts = omega arith; lookups = omega arith })
taken_falls says s (AwaitsRequest o) seqn payload written next h = falls_to s.side (AwaitsRequest o) next (AwaitsValue o _) h.leads.next_is (record { agreement = omega arith; hosts = omega arith; lookups = omega arith })
taken_falls says s (AwaitsValue o g) seqn payload written next h = falls_to s.side (AwaitsValue o g) next (AwaitsNewkeys _ _ None) h.leads.next_is (record { agreement = omega arith; hosts = omega arith; lookups = omega arith })
taken_falls says s (AwaitsNewkeys e x host) seqn payload written next h = absurd h

-- ---- what each event takes

-- one for a message of an exchange that is handled
abbrev kex_event : Event → ℕ
kex_event e = kex_count (handled (e ∷ []))

count_more : (e : Event) (es : List Event) → kex_count (handled (e ∷ es)) ≡ kex_event e + kex_count (handled es)
count_more (IdHeard id) es = omega arith
count_more (PayloadSubmitted p) es = omega arith
count_more (ExchangeBegun cause i) es = omega arith
count_more (AnswerSent i r) es = omega arith
count_more (PayloadSent i) es = omega arith
count_more (MessageTaken i) es = omega arith
count_more (GuessDropped i) es = omega arith
count_more (PayloadDelivered i) es = omega arith
count_more (PacketDropped i) es = omega arith
count_more (ExchangeFinished i x) es = omega arith

kex_one : (b : Bool) → b ≡ true → (if b then 1 else 0) + 0 ≡ 1
kex_one b e = ap (λ (x : Bool). (if x then 1 else 0) + 0) e

-- what a count is, stage by stage
record IsCount (side : Side) (to_come : Where → ℕ) (each : ℕ) : Type 0 where
  pub silent : to_come Silent ≡ 0
  pub outside : to_come Outside ≡ 0
  pub first : (own : List ℕ) → to_come (Inside (Created own)) ≡ each
  pub dropped : (stage : Stage) → to_come (Inside (guess_dropped stage)) ≡ to_come (Inside stage)
  pub last : (exchange : Exchange) (x : FinishedExchange) (host : Option ServerHost) → to_come (Inside (AwaitsNewkeys exchange x host)) ≤ 1
  pub row : (stage next : Stage) → Falls side stage next → to_come (Inside stage) ≤ to_come (Inside next) + 1

closed_none : (side : Side) (to_come : Where → ℕ) (each : ℕ) → IsCount side to_come each → (config : Config) (st : SideState) (cause : Cause) → MayBegin config st cause → to_come st.stands ≡ 0
closed_none side to_come each c config st Start h = ap to_come h.0 ∙ c.silent
closed_none side to_come each c config st Asked h = ap to_come h ∙ c.outside
closed_none side to_come each c config st Answering h = ap to_come h ∙ c.outside
closed_none side to_come each c config st WriteLimit h = ap to_come h.0 ∙ c.outside
closed_none side to_come each c config st ReadLimit h = ap to_come h.0 ∙ c.outside

times_none : (n d : ℕ) → d ≡ 0 → n * d ≡ 0
times_none n d e = ap (λ k. n * k) e ∙ (let z : n * 0 ≡ 0 = omega arith in z)

times_one : (n d : ℕ) → d ≡ 1 → n * d ≡ n
times_one n d e = ap (λ k. n * k) e ∙ (let z : n * 1 ≡ n = omega arith in z)

abbrev FallsBy : (Where → ℕ) → ℕ → SideState → SideState → ℕ → Type 0
FallsBy to_come each st m k = to_come st.stands + each * (begun m - begun st) ≤ to_come m.stands + k

-- where a side stands still
still_falls : (to_come : Where → ℕ) (each : ℕ) (st m : SideState) (k : ℕ) → m.stands ≡ st.stands → begun m ≡ begun st → FallsBy to_come each st m k
still_falls to_come each st m k e f =
    let a : to_come m.stands ≡ to_come st.stands = ap to_come e in
    let z = times_none each (begun m - begun st) (let d : begun m - begun st ≡ 0 = omega (arith, f) in d) in
    omega (arith, a, z)

event_falls : (side : Side) (to_come : Where → ℕ) (each : ℕ) → IsCount side to_come each → (says : Says) (config : Config) (own_id : List ℕ) (st : SideState) (e : Event) (st' : SideState) → Step says side config own_id st e st' → FallsBy to_come each st st' (kex_event e)
event_falls side to_come each c says config own_id st (IdHeard id) st' h = still_falls to_come each st st' 0 (ap (λ (m : SideState). m.stands) h.becomes) (ap begun h.becomes)
event_falls side to_come each c says config own_id st (PayloadSubmitted p) st' h = still_falls to_come each st st' 0 (ap (λ (m : SideState). m.stands) h.becomes) (ap begun h.becomes)
event_falls side to_come each c says config own_id st (ExchangeBegun cause i) st' h =
    let z = closed_none side to_come each c config st cause h.may in
    let b = (may_open config st cause h.may).0 in
    let f = c.first i.payload in
    let a : to_come st'.stands ≡ to_come (Inside (Created i.payload)) = ap (λ (m : SideState). to_come m.stands) h.becomes in
    let n : begun st' ≡ length st.records + 1 = ap begun h.becomes in
    let t = times_one each (begun st' - begun st) (let d : begun st' - begun st ≡ 1 = omega (arith, b, n) in d) in
    omega (arith, z, f, a, t)
event_falls side to_come each c says config own_id st (AnswerSent i r) st' h = still_falls to_come each st st' 0 (ap (λ (m : SideState). m.stands) h.becomes) (ap begun h.becomes)
event_falls side to_come each c says config own_id st (PayloadSent i) st' h = still_falls to_come each st st' 0 (ap (λ (m : SideState). m.stands) h.becomes) (ap begun h.becomes)
event_falls side to_come each c says config own_id st (MessageTaken i) st' h =
    let r = taken_falls says (setting side config own_id st) h.stage (next_number st.reading.number) i.payload h.answers h.next h.takes in
    let s : Falls side h.stage h.next = subst (λ d. Falls d h.stage h.next) (setting_side side config own_id st) r in
    let w = c.row h.stage h.next s in
    let k = kex_one (is_kex_type (type_of i)) (takes_kex says (setting side config own_id st) h.stage (next_number st.reading.number) i.payload h.answers h.next h.takes).0 in
    let a : to_come st'.stands ≡ to_come (Inside h.next) = ap (λ (m : SideState). to_come m.stands) h.becomes in
    let b : to_come st.stands ≡ to_come (Inside h.stage) = ap to_come h.inside in
    let n : begun st' ≡ length st.records + 1 = ap begun h.becomes in
    let o : open_count st.stands ≡ 1 = ap open_count h.inside in
    let t = times_none each (begun st' - begun st) (let d : begun st' - begun st ≡ 0 = omega (arith, n, o) in d) in
    omega (arith, w, k, a, b, t)
event_falls side to_come each c says config own_id st (GuessDropped i) st' h =
    let a : to_come st'.stands ≡ to_come (Inside (guess_dropped h.stage)) = ap (λ (m : SideState). to_come m.stands) h.becomes in
    let b : to_come st.stands ≡ to_come (Inside h.stage) = ap to_come h.inside in
    let d = c.dropped h.stage in
    let n : begun st' ≡ length st.records + 1 = ap begun h.becomes in
    let o : open_count st.stands ≡ 1 = ap open_count h.inside in
    let t = times_none each (begun st' - begun st) (let z : begun st' - begun st ≡ 0 = omega (arith, n, o) in z) in
    omega (arith, a, b, d, t)
event_falls side to_come each c says config own_id st (PayloadDelivered i) st' h = still_falls to_come each st st' _ (ap (λ (m : SideState). m.stands) h.becomes) (ap begun h.becomes)
event_falls side to_come each c says config own_id st (PacketDropped i) st' h = still_falls to_come each st st' _ (ap (λ (m : SideState). m.stands) h.becomes) (ap begun h.becomes)
event_falls side to_come each c says config own_id st (ExchangeFinished i x) st' h =
    let k = kex_one (is_kex_type (type_of i)) (ap (λ p. is_kex_type (message_type p)) h.payload_is) in
    let l = c.last h.exchange x h.host in
    let b : to_come st.stands ≡ to_come (Inside (AwaitsNewkeys h.exchange x h.host)) = ap to_come h.inside in
    let n : begun st' ≡ length (st.records ++ x ∷ []) + 0 = ap begun h.becomes in
    let m = length-append st.records (x ∷ []) in
    let o : open_count st.stands ≡ 1 = ap open_count h.inside in
    let t = times_none each (begun st' - begun st) (let z : begun st' - begun st ≡ 0 = omega (arith, n, m, o) in z) in
    omega (arith, k, l, b, t)

steps_fall : (side : Side) (to_come : Where → ℕ) (each : ℕ) → IsCount side to_come each → (says : Says) (config : Config) (own_id : List ℕ) (log : List Event) (st st' : SideState) → Steps says side config own_id st log st' → FallsBy to_come each st st' (kex_count (handled log))
steps_fall side to_come each c says config own_id [] st st' h = still_falls to_come each st st' 0 (ap (λ (m : SideState). m.stands) h) (ap begun h)
steps_fall side to_come each c says config own_id (e ∷ es) st st' h =
    let one = event_falls side to_come each c says config own_id st e h.0 h.1 in
    let rest = steps_fall side to_come each c says config own_id es h.0 st' h.2 in
    let s = split_times each (begun st) (begun h.0) (begun st') (begun_step says side config own_id st e h.0 h.1) (begun_steps says side config own_id es h.0 st' h.2) in
    let m = count_more e es in
    omega (arith, one, rest, s, m)

-- ---- the counts

agreement_is : (side : Side) → IsCount side (agreement_to_come side) (calls_of side)
agreement_is side = record {
  silent = refl;
  outside = refl;
  first = λ own. (begun_first side own).0;
  dropped = λ stage. (dropped_calls side stage).0;
  last = λ exchange x host. omega arith;
  row = λ stage next f. f.agreement;
}

hosts_last : (side : Side) (exchange : Exchange) (x : FinishedExchange) (host : Option ServerHost) → hosts_to_come side (Inside (AwaitsNewkeys exchange x host)) ≤ 1
hosts_last side exchange x None = omega arith
hosts_last side exchange x (Some host) = omega arith

hosts_is : (side : Side) → IsCount side (hosts_to_come side) (calls_of side)
hosts_is side = record {
  silent = refl;
  outside = refl;
  first = λ own. (begun_first side own).1;
  dropped = λ stage. (dropped_calls side stage).1;
  last = λ exchange x host. hosts_last side exchange x host;
  row = λ stage next f. f.hosts;
}

lookups_is : (side : Side) → IsCount side (lookups_to_come side) (lookups_of side)
lookups_is side = record {
  silent = refl;
  outside = refl;
  first = λ own. (begun_first side own).2;
  dropped = λ stage. (dropped_calls side stage).2;
  last = λ exchange x host. omega arith;
  row = λ stage next f. f.lookups;
}

few_by : (to_come : Where → ℕ) (each : ℕ) (st st' : SideState) (k n n' : ℕ) → FallsBy to_come each st st' k → CallsFrom to_come each st st' n n' → n' ≤ n + k
few_by to_come each st st' k n n' f h = let y = h.1 in omega (arith, f, y)

-- no more calls than messages of exchanges that were handled
pub few_asked : (says : Says) (side : Side) (config : Config) (own_id : List ℕ) (log : List Event) (st st' : SideState) (n n' : PartCalls) → Steps says side config own_id st log st' → AsksWithin side st st' n n' → AsksAtMost (kex_count (handled log)) n n'
few_asked says side config own_id log st st' n n' h a = record {
  agreement = few_by (agreement_to_come side) (calls_of side) st st' _ n.agreement n'.agreement (steps_fall side (agreement_to_come side) (calls_of side) (agreement_is side) says config own_id log st st' h) a.agreement;
  hosts = few_by (hosts_to_come side) (calls_of side) st st' _ n.hosts n'.hosts (steps_fall side (hosts_to_come side) (calls_of side) (hosts_is side) says config own_id log st st' h) a.hosts;
  lookups = few_by (lookups_to_come side) (lookups_of side) st st' _ n.lookups n'.lookups (steps_fall side (lookups_to_come side) (lookups_of side) (lookups_is side) says config own_id log st st' h) a.lookups;
}

-- of a piece that is taken
pub input_few : (says : Says) (old new : Standing) (n n' : PartCalls) → AsksWithin old.side old.state new.state n n' → AsksFew says old new n n'
input_few says old new n n' a = λ events h. few_asked says old.side old.config _ events old.state new.state n n' h.steps a

-- ---- and the refused packet

pub count_join : (a b : List Item) → kex_count (a ++ b) ≡ kex_count a + kex_count b
count_join [] b = omega arith
count_join (i ∷ a) b = let r = count_join a b in omega (arith, r)

type_few : (kex : Bool) (side : Side) (w : Where) (n n' : PartCalls) → AsksForType kex side w n n' → AsksAtMost ((if kex then 1 else 0) + 0) n n'
type_few true side w n n' h = record { agreement = (let y = h.agreement.1 in omega (arith, y)); hosts = (let y = h.hosts.1 in omega (arith, y)); lookups = (let y = h.lookups.1 in omega (arith, y)) }
type_few false side w n n' h = subst (λ m. AsksAtMost 0 n m) (sym h) (record { agreement = omega arith; hosts = omega arith; lookups = omega arith })

same_few : (n n' : PartCalls) → n' ≡ n → AsksAtMost 0 n n'
same_few n n' h = subst (λ m. AsksAtMost 0 n m) (sym h) (record { agreement = omega arith; hosts = omega arith; lookups = omega arith })

cause_few : (cause : RefusalCause) (side : Side) (w : Where) (n n' : PartCalls) → AsksForCause cause side w n n' → AsksAtMost (kex_count (refused_packet cause)) n n'
cause_few (OfPacket i) side w n n' h = type_few (is_kex_type (type_of i)) side w n n' h
cause_few (OfFault fault) side w n n' h = same_few n n' h
cause_few OfVersion side w n n' h = same_few n n' h
cause_few OfMemory side w n n' h = same_few n n' h

-- of a piece that is refused
pub refused_few : (says : Says) (side : Side) (config : Config) (own_id : List ℕ) (log : List Event) (cause : RefusalCause) (st at : SideState) (n n' : PartCalls) → Steps says side config own_id st log at → AsksUntil side cause st at n n' → AsksAtMost (kex_count (handled log ++ refused_packet cause)) n n'
refused_few says side config own_id log cause st at n n' h a =
    let f = few_asked says side config own_id log st at n (a.mid) h a.before in
    let g = cause_few cause side at.stands (a.mid) n' a.last in
    let j = count_join (handled log) (refused_packet cause) in
    record {
      agreement = (let x = f.agreement in let y = g.agreement in omega (arith, x, y, j));
      hosts = (let x = f.hosts in let y = g.hosts in omega (arith, x, y, j));
      lookups = (let x = f.lookups in let y = g.lookups in omega (arith, x, y, j));
    }
