-- What a side can still write grows by what is submitted alone, and falls by each packet that it writes.
use Rattle.std.proofs.Common.{◌≡◌, ℕ, zero, suc, ◌+◌, ◌*◌, ◌≤◌, List, [], ◌∷◌, length, refl, sym, ap, subst, arith, None, Bool, true, false, length-append}
use Rattle.ssh_wire.specs.declared.side.Side.{Side}
use Rattle.ssh_wire.specs.declared.side.Side.TheVariants.{Client, Server}
use Rattle.ssh_kex.specs.Stages as stages
use Rattle.ssh_kex.specs.declared.config.Config.{Config}
use Rattle.ssh_kex.specs.declared.exchange.FinishedExchange.{FinishedExchange}
use Rattle.ssh_kex.specs.Messages.{is_gex}
use Rattle.ssh_kex.specs.Setting.{Says, Setting, Opened}
use Rattle.ssh_kex.specs.Stages.{Stage, Created, AwaitsGroup, AwaitsReply, AwaitsRequest, AwaitsValue, AwaitsNewkeys, guess_dropped}
use Rattle.ssh_rules.specs.Machine.{Inside, SideState, setting, Cause, Start, Asked, Answering, WriteLimit, ReadLimit, MayBegin, Event, IdHeard, PayloadSubmitted, ExchangeBegun, AnswerSent, PayloadSent, MessageTaken, GuessDropped, PayloadDelivered, PacketDropped, ExchangeFinished, Step, Steps}
use Rattle.ssh_rules.specs.Log.{wrote, submitted_in}
use Rattle.ssh_rules.specs.Counting.{open_count, begun, to_come, left}
use Rattle.ssh_rules.proofs.side.Ending.{LastIn}
use Rattle.ssh_packet.specs.Sealing.{next_number}

-- a row leaves no more to write than there was, with what it owes
row_left : (next n0 : Stage) (written w0 : List (List ℕ)) (bound : ℕ) → next ≡ n0 → written ≡ w0 → to_come (Inside n0) + length w0 ≤ bound → to_come (Inside next) + length written ≤ bound
row_left next n0 written w0 bound e f h = subst (λ n. to_come (Inside n) + length written ≤ bound) (sym e) (subst (λ w. to_come (Inside n0) + length w ≤ bound) (sym f) h)

opens_left : (says : Says) (s : Setting) (o : Opened) (side : Side) (kind : Bool) (written : List (List ℕ)) (next : Stage) → stages.OpensBy side kind says s o written next → to_come (Inside next) + length written ≤ 3
opens_left says s o Client true written next h = row_left next _ written _ 3 h.next_is h.written_is (omega arith)
opens_left says s o Client false written next h = row_left next (AwaitsReply o None h.local h.public) written _ 3 h.leads.next_is h.leads.written_is (omega arith)
opens_left says s o Server true written next h = row_left next _ written _ 3 h.next_is h.written_is (omega arith)
opens_left says s o Server false written next h = row_left next _ written _ 3 h.next_is h.written_is (omega arith)

takes_left : (says : Says) (s : Setting) (stage : Stage) (seqn : ℕ) (payload : List ℕ) (written : List (List ℕ)) (next : Stage) → stages.Takes says s stage seqn payload written next → to_come (Inside next) + length written ≤ to_come (Inside stage)
takes_left says s (Created k) seqn payload written next h = opens_left says s (record { names = h.names; own_kexinit = k; peer_kexinit = payload }) s.side (is_gex h.names.kex) written next h.opens
takes_left says s (AwaitsGroup o) seqn payload written next h = row_left next (AwaitsReply o _ h.local h.public) written _ 2 h.leads.next_is h.leads.written_is (omega arith)
takes_left says s (AwaitsReply o g l p) seqn payload written next h = row_left next (AwaitsNewkeys _ _ _) written _ 1 h.leads.next_is h.leads.written_is (omega arith)
takes_left says s (AwaitsRequest o) seqn payload written next h = row_left next (AwaitsValue o _) written _ 3 h.leads.next_is h.leads.written_is (omega arith)
takes_left says s (AwaitsValue o g) seqn payload written next h = row_left next (AwaitsNewkeys _ _ _) written _ 2 h.leads.next_is h.leads.written_is (omega arith)
takes_left says s (AwaitsNewkeys exchange x host) seqn payload written next h = absurd h

finishes_left : (says : Says) (stage : Stage) (payload : List ℕ) (x : FinishedExchange) → LastIn says stage payload x → to_come (Inside stage) ≡ 0
finishes_left says (AwaitsNewkeys exchange made host) payload x h = refl
finishes_left says (Created own) payload x h = absurd h
finishes_left says (AwaitsGroup o) payload x h = absurd h
finishes_left says (AwaitsReply o g l p) payload x h = absurd h
finishes_left says (AwaitsRequest o) payload x h = absurd h
finishes_left says (AwaitsValue o g) payload x h = absurd h

dropped_left : (stage : Stage) → to_come (Inside (guess_dropped stage)) ≡ to_come (Inside stage)
dropped_left (Created own) = refl
dropped_left (AwaitsGroup o) = refl
dropped_left (AwaitsReply o g l p) = refl
dropped_left (AwaitsRequest o) = refl
dropped_left (AwaitsValue o g) = refl
dropped_left (AwaitsNewkeys exchange made host) = refl

pub may_open : (config : Config) (st : SideState) (cause : Cause) → MayBegin config st cause → (open_count st.stands ≡ 0) × (to_come st.stands ≡ 0)
may_open config st Start h = (ap open_count h.0, ap to_come h.0)
may_open config st Asked h = (ap open_count h, ap to_come h)
may_open config st Answering h = (ap open_count h, ap to_come h)
may_open config st WriteLimit h = (ap open_count h.0, ap to_come h.0)
may_open config st ReadLimit h = (ap open_count h.0, ap to_come h.0)

-- one event begins no exchange, or one
pub begun_step : (says : Says) (side : Side) (config : Config) (own_id : List ℕ) (st : SideState) (e : Event) (st' : SideState) → Step says side config own_id st e st' → begun st ≤ begun st'
begun_step says side config own_id st (IdHeard id) st' h = subst (λ (m : SideState). begun st ≤ begun m) (sym h.becomes) (omega arith)
begun_step says side config own_id st (PayloadSubmitted p) st' h = subst (λ (m : SideState). begun st ≤ begun m) (sym h.becomes) (omega arith)
begun_step says side config own_id st (ExchangeBegun cause i) st' h = subst (λ (m : SideState). begun st ≤ begun m) (sym h.becomes) (omega (arith, (may_open config st cause h.may).0))
begun_step says side config own_id st (AnswerSent i r) st' h = subst (λ (m : SideState). begun st ≤ begun m) (sym h.becomes) (omega arith)
begun_step says side config own_id st (PayloadSent i) st' h = subst (λ (m : SideState). begun st ≤ begun m) (sym h.becomes) (omega arith)
begun_step says side config own_id st (MessageTaken i) st' h = subst (λ (m : SideState). begun st ≤ begun m) (sym h.becomes) (let e = ap open_count h.inside in omega (arith, e))
begun_step says side config own_id st (GuessDropped i) st' h = subst (λ (m : SideState). begun st ≤ begun m) (sym h.becomes) (let e = ap open_count h.inside in omega (arith, e))
begun_step says side config own_id st (PayloadDelivered i) st' h = subst (λ (m : SideState). begun st ≤ begun m) (sym h.becomes) (omega arith)
begun_step says side config own_id st (PacketDropped i) st' h = subst (λ (m : SideState). begun st ≤ begun m) (sym h.becomes) (omega arith)
begun_step says side config own_id st (ExchangeFinished i x) st' h = subst (λ (m : SideState). begun st ≤ begun m) (sym h.becomes) (let e = ap open_count h.inside in let l = length-append st.records (x ∷ []) in omega (arith, e, l))

pub begun_steps : (says : Says) (side : Side) (config : Config) (own_id : List ℕ) (log : List Event) (st st' : SideState) → Steps says side config own_id st log st' → begun st ≤ begun st'
begun_steps says side config own_id [] st st' h = subst (λ (m : SideState). begun st ≤ begun m) (sym h) (omega arith)
begun_steps says side config own_id (e ∷ es) st st' h =
    let one = begun_step says side config own_id st e h.0 h.1 in
    let rest = begun_steps says side config own_id es h.0 st' h.2 in
    omega (arith, one, rest)

-- one event
pub left_step : (says : Says) (side : Side) (config : Config) (own_id : List ℕ) (bound : ℕ) (st : SideState) (e : Event) (st' : SideState) → Step says side config own_id st e st' → begun st' ≤ bound → left bound st' + length (wrote (e ∷ [])) ≤ left bound st + length (submitted_in (e ∷ []))
left_step says side config own_id bound st (IdHeard id) st' h b = subst (λ (m : SideState). left bound m + 0 ≤ left bound st + 0) (sym h.becomes) (omega arith)
left_step says side config own_id bound st (PayloadSubmitted p) st' h b = subst (λ (m : SideState). left bound m + 0 ≤ left bound st + 1) (sym h.becomes) (let l = length-append st.held (p ∷ []) in omega (arith, l))
left_step says side config own_id bound st (ExchangeBegun cause i) st' h b =
    let k : begun st' ≡ length st.records + 1 = ap begun h.becomes in
    let o : length st.owed ≡ 0 = ap length h.owes in
    let m = may_open config st cause h.may in
    subst (λ (m : SideState). left bound m + 1 ≤ left bound st + 0) (sym h.becomes) (omega (arith, k, o, m.0, m.1, b))
left_step says side config own_id bound st (AnswerSent i r) st' h b =
    let o : length st.owed ≡ suc (length h.more) = ap length h.owes in
    subst (λ (m : SideState). left bound m + 1 ≤ left bound st + 0) (sym h.becomes) (omega (arith, o))
left_step says side config own_id bound st (PayloadSent i) st' h b =
    let o : length st.held ≡ suc (length h.more) = ap length h.holds in
    subst (λ (m : SideState). left bound m + 1 ≤ left bound st + 0) (sym h.becomes) (omega (arith, o))
left_step says side config own_id bound st (MessageTaken i) st' h b =
    let e = ap open_count h.inside in
    let f = ap to_come h.inside in
    let o : length st.owed ≡ 0 = ap length h.owes in
    let t = takes_left says (setting side config own_id st) h.stage (next_number st.reading.number) i.payload h.answers h.next h.takes in
    subst (λ (m : SideState). left bound m + 0 ≤ left bound st + 0) (sym h.becomes) (omega (arith, e, f, o, t))
left_step says side config own_id bound st (GuessDropped i) st' h b =
    let e = ap open_count h.inside in
    let f = ap to_come h.inside in
    let d = dropped_left h.stage in
    subst (λ (m : SideState). left bound m + 0 ≤ left bound st + 0) (sym h.becomes) (omega (arith, e, f, d))
left_step says side config own_id bound st (PayloadDelivered i) st' h b = subst (λ (m : SideState). left bound m + 0 ≤ left bound st + 0) (sym h.becomes) (omega arith)
left_step says side config own_id bound st (PacketDropped i) st' h b = subst (λ (m : SideState). left bound m + 0 ≤ left bound st + 0) (sym h.becomes) (omega arith)
left_step says side config own_id bound st (ExchangeFinished i x) st' h b =
    let e = ap open_count h.inside in
    let f = ap to_come h.inside in
    let z = finishes_left says (AwaitsNewkeys h.exchange x h.host) i.payload x (h.payload_is, refl, h.trusted) in
    let l = length-append st.records (x ∷ []) in
    subst (λ (m : SideState). left bound m + 0 ≤ left bound st + 0) (sym h.becomes) (omega (arith, e, f, z, l))

wrote_cons : (e : Event) (es : List Event) → length (wrote (e ∷ es)) ≡ length (wrote (e ∷ [])) + length (wrote es)
wrote_cons (IdHeard id) es = omega arith
wrote_cons (PayloadSubmitted p) es = omega arith
wrote_cons (ExchangeBegun cause i) es = omega arith
wrote_cons (AnswerSent i r) es = omega arith
wrote_cons (PayloadSent i) es = omega arith
wrote_cons (MessageTaken i) es = omega arith
wrote_cons (GuessDropped i) es = omega arith
wrote_cons (PayloadDelivered i) es = omega arith
wrote_cons (PacketDropped i) es = omega arith
wrote_cons (ExchangeFinished i x) es = omega arith

submitted_cons : (e : Event) (es : List Event) → length (submitted_in (e ∷ es)) ≡ length (submitted_in (e ∷ [])) + length (submitted_in es)
submitted_cons (IdHeard id) es = omega arith
submitted_cons (PayloadSubmitted p) es = omega arith
submitted_cons (ExchangeBegun cause i) es = omega arith
submitted_cons (AnswerSent i r) es = omega arith
submitted_cons (PayloadSent i) es = omega arith
submitted_cons (MessageTaken i) es = omega arith
submitted_cons (GuessDropped i) es = omega arith
submitted_cons (PayloadDelivered i) es = omega arith
submitted_cons (PacketDropped i) es = omega arith
submitted_cons (ExchangeFinished i x) es = omega arith

-- Each packet that a side writes lowers what it can still write, as long as it begins no more than `bound` exchanges.
pub left_steps : (says : Says) (side : Side) (config : Config) (own_id : List ℕ) (bound : ℕ) (log : List Event) (st st' : SideState) → Steps says side config own_id st log st' → begun st' ≤ bound → left bound st' + length (wrote log) ≤ left bound st + length (submitted_in log)
left_steps says side config own_id bound [] st st' h b = subst (λ (m : SideState). left bound m + 0 ≤ left bound st + 0) (sym h) (omega arith)
left_steps says side config own_id bound (e ∷ es) st st' h b =
    let later = begun_steps says side config own_id es h.0 st' h.2 in
    let one = left_step says side config own_id bound st e h.0 h.1 (omega (arith, later, b)) in
    let rest = left_steps says side config own_id bound es h.0 st' h.2 b in
    omega (arith, one, rest, wrote_cons e es, submitted_cons e es)

-- A side that takes all that waits for it lowers the measure of a settle, whatever it writes, by one at least where
-- bytes waited.
abbrev pub settle_measure : (client_left server_left client_waits server_waits : ℕ) → ℕ
settle_measure cl sl cw sw = 3 * (cl + sl) + cw + sw

pub settle_turn : (own own' other wrote_count waits other_waits other_waits' : ℕ) → own' + wrote_count ≤ own → other_waits' ≤ 1 → (wrote_count ≡ 0 → other_waits' ≡ other_waits) → settle_measure own' other 0 other_waits' + waits ≤ settle_measure own other waits other_waits
settle_turn own own' other zero f w w' h a e = let k = e refl in omega (arith, h, k)
settle_turn own own' other (suc n) f w w' h a e = omega (arith, h, a)
