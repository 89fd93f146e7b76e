-- The next packet of an honest peer is one that the reader awaits.
use Rattle.std.proofs.Common.{◌≡◌, ℕ, suc, ◌<◌, ◌≤◌, List, [], ◌∷◌, ◌++◌, length, refl, sym, ◌∙◌, ap, subst, arith, Some, None, Bool, true, false, if◌then◌else◌, ◌⊎◌, inl, inr, length-append}
use Rattle.ssh_packet.specs.Sealing.{Item}
use Rattle.ssh_wire.specs.Sides.{other_side}
use Rattle.ssh_wire.specs.declared.side.Side.{Side}
use Rattle.ssh_wire.specs.declared.side.Side.TheVariants.{Client, Server}
use Rattle.ssh_kex.specs.declared.config.Config.{Config}
use Rattle.ssh_negotiate.specs.Advertised.{kexinit}
use Rattle.ssh_kex.specs.Setting.{Says, Setting, offers_of}
use Rattle.ssh_kex.specs.Stages.{Stage, Created, AwaitsGroup, AwaitsReply, AwaitsRequest, AwaitsValue, AwaitsNewkeys}
use Rattle.ssh_rules.specs.MessageTypes.{type_of, is_payload_type}
use Rattle.ssh_rules.specs.Wire.{exchange_block, epochs_ended}
use Rattle.ssh_rules.specs.Machine.{Where, Silent, Outside, Inside, SideState, setting, Event, IdHeard, PayloadSubmitted, ExchangeBegun, AnswerSent, PayloadSent, MessageTaken, GuessDropped, PayloadDelivered, PacketDropped, ExchangeFinished, Step, Steps, first_state, names_now}
use Rattle.ssh_rules.proofs.side.StageFits.{Trace, no_trace, trace_after, FitsStage, FitsWhere}
use Rattle.ssh_rules.proofs.side.Ledgers.{Ledger, has_newkeys}
use Rattle.ssh_rules.specs.Log.{wrote, kept_in}
use Rattle.ssh_rules.proofs.pair.Awaited.{IsReadable, OwnForm}
use Rattle.ssh_rules.proofs.side.StageSteps.{at_stage, setting_side}
use Rattle.ssh_rules.proofs.side.Places.{HeldOk, open_with}
use Rattle.ssh_rules.proofs.side.LedgerSteps.{closed_trace, may_closed}
use Rattle.ssh_rules.proofs.side.Accounts.{Kept, kept_run, trace_of}
use Rattle.ssh_rules.proofs.side.ReasonSteps.{ends_open}
use Rattle.ssh_rules.proofs.side.Grammar.{KindKnown}
use Rattle.ssh_rules.specs.Snapshots.{KindIs}
use Rattle.ssh_rules.specs.Valid.{HasSizes}
use Rattle.ssh_rules.proofs.side.Forms.{own_form, readable}

-- ---- a log, cut at a packet that it wrote

-- the event writes the packet
abbrev pub IsWriting : Event → Item → Type 0
IsWriting (ExchangeBegun cause i) j = i ≡ j
IsWriting (AnswerSent i resets) j = i ≡ j
IsWriting (PayloadSent i) j = i ≡ j
IsWriting (IdHeard id) j = ⊥
IsWriting (PayloadSubmitted p) j = ⊥
IsWriting (MessageTaken i) j = ⊥
IsWriting (GuessDropped i) j = ⊥
IsWriting (PayloadDelivered i) j = ⊥
IsWriting (PacketDropped i) j = ⊥
IsWriting (ExchangeFinished i x) j = ⊥

pub record Cut (says : Says) (side : Side) (config : Config) (own_id : List ℕ) (log : List Event) (st st' : SideState) (r : List Item) (j : Item) : Type 0 where
  pub before : List Event
  pub mid : SideState
  pub steps : Steps says side config own_id st before mid
  pub wrote_is : wrote before ≡ r
  pub event : Event
  pub writes : IsWriting event j
  pub next : SideState
  pub step : Step says side config own_id mid event next
  pub rest : List Event
  pub log_is : log ≡ before ++ rest

not_nil : (r : List Item) (j : Item) (more : List Item) → [] ≡ r ++ j ∷ more → ⊥
not_nil [] j more e = cc
not_nil (x ∷ r) j more e = cc

-- an event that writes nothing stands before the cut
skip : (says : Says) (side : Side) (config : Config) (own_id : List ℕ) (e : Event) (es : List Event) (st st' : SideState) (r : List Item) (j : Item) → wrote (e ∷ []) ≡ [] → ((b : List Event) → wrote (e ∷ b) ≡ wrote b) → (h : Steps says side config own_id st (e ∷ es) st') → Cut says side config own_id es h.0 st' r j → Cut says side config own_id (e ∷ es) st st' r j
skip says side config own_id e es st st' r j n w h c = record { before = e ∷ c.before; mid = c.mid; steps = (h.0, h.1, c.steps); wrote_is = w c.before ∙ c.wrote_is; event = c.event; writes = c.writes; next = c.next; step = c.step; rest = c.rest; log_is = ap (λ q. e ∷ q) c.log_is }

-- a packet that is written is the one, or stands before it
place : (says : Says) (side : Side) (config : Config) (own_id : List ℕ) (e : Event) (i : Item) (es : List Event) (st st' : SideState) (r : List Item) (j : Item) (more : List Item) → IsWriting e i → ((b : List Event) → wrote (e ∷ b) ≡ i ∷ wrote b) → (h : Steps says side config own_id st (e ∷ es) st') → i ∷ wrote es ≡ r ++ j ∷ more → ((r' : List Item) → wrote es ≡ r' ++ j ∷ more → Cut says side config own_id es h.0 st' r' j) → Cut says side config own_id (e ∷ es) st st' r j
place says side config own_id e i es st st' [] j more v w h q f = record { before = []; mid = st; steps = refl; wrote_is = refl; event = e; writes = subst (IsWriting e) (let k : i ≡ j = cc in k) v; next = h.0; step = h.1; rest = e ∷ es; log_is = refl }
place says side config own_id e i es st st' (x ∷ r) j more v w h q f =
    let head : i ≡ x = cc in
    let tail : wrote es ≡ r ++ j ∷ more = cc in
    let c = f r tail in
    record { before = e ∷ c.before; mid = c.mid; steps = (h.0, h.1, c.steps); wrote_is = w c.before ∙ (ap (λ t. i ∷ t) c.wrote_is ∙ ap (λ t. t ∷ r) head); event = c.event; writes = c.writes; next = c.next; step = c.step; rest = c.rest; log_is = ap (λ q. e ∷ q) c.log_is }

pub cut_log : (says : Says) (side : Side) (config : Config) (own_id : List ℕ) (log : List Event) (st st' : SideState) (r : List Item) (j : Item) (more : List Item) → Steps says side config own_id st log st' → wrote log ≡ r ++ j ∷ more → Cut says side config own_id log st st' r j
cut_log says side config own_id [] st st' r j more h e = absurd (not_nil r j more e)
cut_log says side config own_id (ExchangeBegun cause i ∷ es) st st' r j more h e = place says side config own_id (ExchangeBegun cause i) i es st st' r j more refl (λ b. refl) h e (λ r' q. cut_log says side config own_id es h.0 st' r' j more h.2 q)
cut_log says side config own_id (AnswerSent i z ∷ es) st st' r j more h e = place says side config own_id (AnswerSent i z) i es st st' r j more refl (λ b. refl) h e (λ r' q. cut_log says side config own_id es h.0 st' r' j more h.2 q)
cut_log says side config own_id (PayloadSent i ∷ es) st st' r j more h e = place says side config own_id (PayloadSent i) i es st st' r j more refl (λ b. refl) h e (λ r' q. cut_log says side config own_id es h.0 st' r' j more h.2 q)
cut_log says side config own_id (IdHeard id ∷ es) st st' r j more h e = skip says side config own_id (IdHeard id) es st st' r j refl (λ b. refl) h (cut_log says side config own_id es h.0 st' r j more h.2 e)
cut_log says side config own_id (PayloadSubmitted p ∷ es) st st' r j more h e = skip says side config own_id (PayloadSubmitted p) es st st' r j refl (λ b. refl) h (cut_log says side config own_id es h.0 st' r j more h.2 e)
cut_log says side config own_id (MessageTaken i ∷ es) st st' r j more h e = skip says side config own_id (MessageTaken i) es st st' r j refl (λ b. refl) h (cut_log says side config own_id es h.0 st' r j more h.2 e)
cut_log says side config own_id (GuessDropped i ∷ es) st st' r j more h e = skip says side config own_id (GuessDropped i) es st st' r j refl (λ b. refl) h (cut_log says side config own_id es h.0 st' r j more h.2 e)
cut_log says side config own_id (PayloadDelivered i ∷ es) st st' r j more h e = skip says side config own_id (PayloadDelivered i) es st st' r j refl (λ b. refl) h (cut_log says side config own_id es h.0 st' r j more h.2 e)
cut_log says side config own_id (PacketDropped i ∷ es) st st' r j more h e = skip says side config own_id (PacketDropped i) es st st' r j refl (λ b. refl) h (cut_log says side config own_id es h.0 st' r j more h.2 e)
cut_log says side config own_id (ExchangeFinished i x ∷ es) st st' r j more h e = skip says side config own_id (ExchangeFinished i x) es st st' r j refl (λ b. refl) h (cut_log says side config own_id es h.0 st' r j more h.2 e)

-- ---- what the next packet is

-- What the packet is that the writer wrote behind those that were read, by the messages of the open exchange that were
-- read: a payload or a KEXINIT where there are none, else the next message.
pub data NextIs (writer : Side) (peer : Config) (kind : Bool) (n : ℕ) (theirs : List (List ℕ)) (j : Item) : Type 0 where
  APayload : theirs ≡ [] → 1 ≤ n → is_payload_type (type_of j) ≡ true → NextIs writer peer kind n theirs j
  AKexinit : (cookie : List ℕ) → theirs ≡ [] → length cookie ≡ 16 → j.payload ≡ kexinit (offers_of writer peer) cookie → NextIs writer peer kind n theirs j
  AMessage : (more : List (List ℕ)) → OwnForm writer peer kind (theirs ++ j.payload ∷ more) → 0 < length theirs → NextIs writer peer kind n theirs j

-- a side that is outside has finished an exchange, and one that is inside has written a message of it
pub record Started (st : SideState) (t : Trace) : Type 0 where
  pub outside : st.stands ≡ Outside → 1 ≤ length st.records
  pub inside : (stage : Stage) → st.stands ≡ Inside stage → 1 ≤ length t.own

in_out : (stage : Stage) → Inside stage ≡ Outside → ⊥
in_out stage e = cc

out_in : (stage : Stage) → Outside ≡ Inside stage → ⊥
out_in stage e = cc

silent_out : Silent ≡ Outside → ⊥
silent_out e = cc

silent_in : (stage : Stage) → Silent ≡ Inside stage → ⊥
silent_in stage e = cc

at_started : (m st' : SideState) (t : Trace) → st' ≡ m → Started m t → Started st' t
at_started m st' t e h = subst (λ s. Started s t) (sym e) h

pub started_step : (says : Says) (side : Side) (config : Config) (own_id : List ℕ) (st : SideState) (e : Event) (st' : SideState) (t : Trace) → Started st t → Step says side config own_id st e st' → Started st' (trace_after t e)
started_step says side config own_id st (IdHeard id) st' t s h = at_started _ st' t h.becomes (record { outside = s.outside; inside = s.inside })
started_step says side config own_id st (PayloadSubmitted p) st' t s h = at_started _ st' t h.becomes (record { outside = s.outside; inside = s.inside })
started_step says side config own_id st (ExchangeBegun cause i) st' t s h = at_started _ st' (trace_after t (ExchangeBegun cause i)) h.becomes (record { outside = λ e. absurd (in_out _ e); inside = λ stage e. omega arith })
started_step says side config own_id st (AnswerSent i z) st' t s h = at_started _ st' (trace_after t (AnswerSent i z)) h.becomes (record { outside = s.outside; inside = λ stage e. (let l = length-append t.own (i.payload ∷ []) in omega (arith, l)) })
started_step says side config own_id st (PayloadSent i) st' t s h = at_started _ st' t h.becomes (record { outside = s.outside; inside = s.inside })
started_step says side config own_id st (MessageTaken i) st' t s h = at_started _ st' (trace_after t (MessageTaken i)) h.becomes (record { outside = λ e. absurd (in_out _ e); inside = λ stage e. s.inside h.stage h.inside })
started_step says side config own_id st (GuessDropped i) st' t s h = at_started _ st' t h.becomes (record { outside = λ e. absurd (in_out _ e); inside = λ stage e. s.inside h.stage h.inside })
started_step says side config own_id st (PayloadDelivered i) st' t s h = at_started _ st' t h.becomes (record { outside = s.outside; inside = s.inside })
started_step says side config own_id st (PacketDropped i) st' t s h = at_started _ st' t h.becomes (record { outside = s.outside; inside = s.inside })
started_step says side config own_id st (ExchangeFinished i x) st' t s h = at_started _ st' no_trace h.becomes (record { outside = λ e. (let l = length-append st.records (x ∷ []) in omega (arith, l)); inside = λ stage e. absurd (out_in stage e) })

pub started_steps : (says : Says) (side : Side) (config : Config) (own_id : List ℕ) (log : List Event) (st st' : SideState) (t : Trace) → Started st t → Steps says side config own_id st log st' → Started st' (trace_of t log)
started_steps says side config own_id [] st st' t s h = at_started st st' t h s
started_steps says side config own_id (e ∷ es) st st' t s h = started_steps says side config own_id es h.0 st' (trace_after t e) (started_step says side config own_id st e h.0 t s h.1) h.2

pub started_first : Started first_state no_trace
started_first = record { outside = λ e. absurd (silent_out e); inside = λ stage e. absurd (silent_in stage e) }

-- by the event that wrote it
pub next_by : (says : Says) (side : Side) (config : Config) (own_id : List ℕ) (kind : ℕ → Bool) (r : List Item) (mid : SideState) (t : Trace) (read : List Item) (e : Event) (next : SideState) (j : Item) → HasSizes config → Kept says side config own_id r read mid t → Started mid t → KindKnown kind mid → IsWriting e j → Step says side config own_id mid e next → (epochs_ended r ≡ length mid.records) × NextIs side config (kind (length mid.records)) (length mid.records) t.own j
next_by says side config own_id kind r mid t read (ExchangeBegun cause i) next j sizes k s q v h = subst (λ y. (epochs_ended r ≡ length mid.records) × NextIs side config (kind (length mid.records)) (length mid.records) t.own y) v (
    let c = closed_trace says side config own_id mid t k.tidy.fits (may_closed config mid cause h.may) in
    (ends_open (length mid.records) t.own r k.accounts.own (ap has_newkeys c.0), AKexinit h.cookie c.0 h.cookie_length h.payload_is))
next_by says side config own_id kind r mid t read (PayloadSent i) next j sizes k s q v h = subst (λ y. (epochs_ended r ≡ length mid.records) × NextIs side config (kind (length mid.records)) (length mid.records) t.own y) v (
    let c = closed_trace says side config own_id mid t k.tidy.fits (inl h.outside) in
    let p : is_payload_type (type_of i) ≡ true = (subst HeldOk h.holds k.tidy.held).0 in
    (ends_open (length mid.records) t.own r k.accounts.own (ap has_newkeys c.0), APayload c.0 (s.outside h.outside) p))
next_by says side config own_id kind r mid t read (AnswerSent i z) next j sizes k s q v h = subst (λ y. (epochs_ended r ≡ length mid.records) × NextIs side config (kind (length mid.records)) (length mid.records) t.own y) v (
    let unended : has_newkeys t.own ≡ false = k.tidy.own_ended ∙ (ap (Rattle.ssh_rules.proofs.side.Places.ended mid.stands) h.owes ∙ open_with mid.stands i.payload h.more) in
    (ends_open (length mid.records) t.own r k.accounts.own unended, by_place mid.stands refl))
  where
    by_place : (w : Where) → mid.stands ≡ w → NextIs side config (kind (length mid.records)) (length mid.records) t.own i
    by_place Silent e = absurd (let g = subst (λ x. FitsWhere says (setting side config own_id mid) x (t.own ++ mid.owed) t.theirs) e k.tidy.fits in
        let l : length (t.own ++ mid.owed) ≡ 0 = ap length g.own_is in let m : length mid.owed ≡ suc (length h.more) = ap length h.owes in omega (arith, length-append t.own mid.owed, l, m))
    by_place Outside e = absurd (let g = subst (λ x. FitsWhere says (setting side config own_id mid) x (t.own ++ mid.owed) t.theirs) e k.tidy.fits in
        let l : length (t.own ++ mid.owed) ≡ 0 = ap length g.own_is in let m : length mid.owed ≡ suc (length h.more) = ap length h.owes in omega (arith, length-append t.own mid.owed, l, m))
    by_place (Inside stage) e =
        let g : FitsStage says (setting side config own_id mid) stage (t.own ++ i.payload ∷ h.more) t.theirs = subst (λ x. FitsStage says (setting side config own_id mid) stage (t.own ++ x) t.theirs) h.owes (subst (λ x. FitsWhere says (setting side config own_id mid) x (t.own ++ mid.owed) t.theirs) e k.tidy.fits) in
        let f = own_form says (setting side config own_id mid) stage (t.own ++ i.payload ∷ h.more) t.theirs (kind (length mid.records)) (sizes_at sizes) (subst (λ x. KindIs (kind (length mid.records)) (names_now x)) e q) g in
        AMessage h.more (subst (λ c. OwnForm side c (kind (length mid.records)) (t.own ++ i.payload ∷ h.more)) (setting_config side config own_id mid) (subst (λ w. OwnForm w (setting side config own_id mid).config (kind (length mid.records)) (t.own ++ i.payload ∷ h.more)) (setting_side side config own_id mid) f)) (s.inside stage e)
      where
        setting_config : (side : Side) (config : Config) (own_id : List ℕ) (st : SideState) → (setting side config own_id st).config ≡ config
        setting_config Client config own_id st = refl
        setting_config Server config own_id st = refl

        sizes_at : HasSizes config → HasSizes (setting side config own_id mid).config
        sizes_at z = subst HasSizes (sym (setting_config side config own_id mid)) z
next_by says side config own_id kind r mid t read (IdHeard id) next j sizes k s q v h = absurd v
next_by says side config own_id kind r mid t read (PayloadSubmitted p) next j sizes k s q v h = absurd v
next_by says side config own_id kind r mid t read (MessageTaken i) next j sizes k s q v h = absurd v
next_by says side config own_id kind r mid t read (GuessDropped i) next j sizes k s q v h = absurd v
next_by says side config own_id kind r mid t read (PayloadDelivered i) next j sizes k s q v h = absurd v
next_by says side config own_id kind r mid t read (PacketDropped i) next j sizes k s q v h = absurd v
next_by says side config own_id kind r mid t read (ExchangeFinished i x) next j sizes k s q v h = absurd v

-- The packet that an honest writer wrote behind those that were read.
pub next_is : (says : Says) (side : Side) (config : Config) (own_id : List ℕ) (kind : ℕ → Bool) (log : List Event) (st : SideState) (r : List Item) (j : Item) (more : List Item) → HasSizes config → Steps says side config own_id first_state log st → ((before : List Event) (mid : SideState) → Steps says side config own_id first_state before mid → KindKnown kind mid) → wrote log ≡ r ++ j ∷ more → (n : ℕ) (theirs : List (List ℕ)) → Ledger n theirs r → has_newkeys theirs ≡ false → NextIs side config (kind n) n theirs j
next_is says side config own_id kind log st r j more sizes h known e n theirs l unended =
    let c = cut_log says side config own_id log first_state st r j more h e in
    let k : Kept says side config own_id r (kept_in c.before) c.mid (trace_of no_trace c.before) = subst (λ w. Kept says side config own_id w (kept_in c.before) c.mid (trace_of no_trace c.before)) c.wrote_is (kept_run says side config own_id c.before c.mid c.steps) in
    let s = started_steps says side config own_id c.before first_state c.mid no_trace started_first c.steps in
    let x = next_by says side config own_id kind r c.mid (trace_of no_trace c.before) (kept_in c.before) c.event c.next j sizes k s (known c.before c.mid c.steps) c.writes c.step in
    let at : length c.mid.records ≡ n = sym x.0 ∙ ends_open n theirs r l unended in
    let own : (trace_of no_trace c.before).own ≡ theirs = sym k.accounts.own.block_is ∙ (ap (λ m. exchange_block m r) at ∙ l.block_is) in
    subst (λ m. NextIs side config (kind m) m theirs j) at (subst (λ o. NextIs side config (kind (length c.mid.records)) (length c.mid.records) o j) own x.1)

-- ---- what the reader does with it

-- how a reader goes on with a packet: it hands it up, begins an exchange for it, or its stage awaits it
pub data Goes (writer : Side) (peer : Config) (st : SideState) (j : Item) : Type 0 where
  Delivering : (st.stands ≡ Outside) ⊎ (((own : List ℕ) × (st.stands ≡ Inside (Created own))) × (0 < length st.records)) → is_payload_type (type_of j) ≡ true → Goes writer peer st j
  Calling : (cookie : List ℕ) → st.stands ≡ Outside → length cookie ≡ 16 → j.payload ≡ kexinit (offers_of writer peer) cookie → Goes writer peer st j
  Taking : (stage : Stage) → st.stands ≡ Inside stage → IsReadable writer peer stage j.payload → Goes writer peer st j

-- the other's messages so far are none in a stage that has read no KEXINIT, and some in each other
theirs_of : (says : Says) (s : Setting) (stage : Stage) (own theirs : List (List ℕ)) (kind : Bool) → KindIs kind (names_now (Inside stage)) → FitsStage says s stage own theirs → theirs ≡ [] → (k : List ℕ) × (stage ≡ Created k)
theirs_of says s (Created k) own theirs kind q f e = (k, refl)
theirs_of says s (AwaitsGroup o) own theirs kind q f e = absurd (let a : theirs ≡ _ ∷ _ = f.theirs_is in cc)
theirs_of says s (AwaitsReply o None l p) own theirs kind q f e = absurd (let a : theirs ≡ _ ∷ _ = f.theirs_is in cc)
theirs_of says s (AwaitsReply o (Some g) l p) own theirs kind q f e = absurd (let a : theirs ≡ _ ∷ _ = f.theirs_is in cc)
theirs_of says s (AwaitsRequest o) own theirs kind q f e = absurd (let a : theirs ≡ _ ∷ _ = f.theirs_is in cc)
theirs_of says s (AwaitsValue o None) own theirs kind q f e = absurd (let a : theirs ≡ _ ∷ _ = f.theirs_is in cc)
theirs_of says s (AwaitsValue o (Some g)) own theirs kind q f e = absurd (let a : theirs ≡ _ ∷ _ = f.theirs_is in cc)
theirs_of says s (AwaitsNewkeys exchange x host) own theirs kind q f e = absurd (let full = Rattle.ssh_rules.proofs.side.Prompt.full_made s.side says s own (theirs ++ Rattle.ssh_kex.specs.Messages.newkeys ∷ []) exchange x host kind q f in let l : length theirs ≡ 0 = ap length e in some kind full.theirs_is l) where
  some : (kind : Bool) → length (theirs ++ Rattle.ssh_kex.specs.Messages.newkeys ∷ []) ≡ (if kind then 4 else 3) → length theirs ≡ 0 → ⊥
  some true e l = omega (arith, e, l, length-append theirs (Rattle.ssh_kex.specs.Messages.newkeys ∷ []))
  some false e l = omega (arith, e, l, length-append theirs (Rattle.ssh_kex.specs.Messages.newkeys ∷ []))

peer_other : (side : Side) (config : Config) (own_id : List ℕ) (st : SideState) → other_side (setting side config own_id st).side ≡ other_side side
peer_other Client config own_id st = refl
peer_other Server config own_id st = refl

-- A side that owes nothing and has heard the other goes on with the next packet of an honest peer.
pub next_accepted : (says : Says) (side : Side) (config : Config) (own_id : List ℕ) (peer : Config) (kind : Bool) (w r : List Item) (st : SideState) (t : Trace) (j : Item) → Kept says side config own_id w r st t → st.owed ≡ [] → (st.stands ≡ Silent → ⊥) → KindIs kind (names_now st.stands) → NextIs (other_side side) peer kind (length st.records) t.theirs j → Goes (other_side side) peer st j
next_accepted says side config own_id peer kind w r st t j k o heard q n = by_place st.stands refl n where
  nil_some : (theirs : List (List ℕ)) → theirs ≡ [] → 0 < length theirs → ⊥
  nil_some theirs e l = let z : length theirs ≡ 0 = ap length e in omega (arith, z, l)

  by_place : (s : Where) → st.stands ≡ s → NextIs (other_side side) peer kind (length st.records) t.theirs j → Goes (other_side side) peer st j
  by_place Silent e n = absurd (heard e)
  by_place Outside e (APayload z few p) = Delivering (inl e) p
  by_place Outside e (AKexinit cookie z l p) = Calling cookie e l p
  by_place Outside e (AMessage more f l) = absurd (nil_some t.theirs (closed_trace says side config own_id st t k.tidy.fits (inl e)).1 l)
  by_place (Inside stage) e (APayload z few p) =
      let at = at_stage says side config own_id st t stage e o k.tidy.fits in
      let c = theirs_of says (setting side config own_id st) stage t.own t.theirs kind (subst (λ x. KindIs kind (names_now x)) e q) at z in
      Delivering (inr ((c.0, e ∙ ap Inside c.1), few)) p
  by_place (Inside stage) e (AKexinit cookie z l p) =
      let at = at_stage says side config own_id st t stage e o k.tidy.fits in
      let c = theirs_of says (setting side config own_id st) stage t.own t.theirs kind (subst (λ x. KindIs kind (names_now x)) e q) at z in
      Taking (Created c.0) (e ∙ ap Inside c.1) (cookie, l, p)
  by_place (Inside stage) e (AMessage more f l) =
      let s = setting side config own_id st in
      let at = at_stage says side config own_id st t stage e o k.tidy.fits in
      let f' : OwnForm (other_side s.side) peer kind (t.theirs ++ j.payload ∷ more) = subst (λ d. OwnForm d peer kind (t.theirs ++ j.payload ∷ more)) (sym (peer_other side config own_id st)) f in
      let x = readable says s peer stage t.own t.theirs j.payload more kind (subst (λ x. KindIs kind (names_now x)) e q) at f' in
      Taking stage e (subst (λ d. IsReadable d peer stage j.payload) (peer_other side config own_id st) x)
