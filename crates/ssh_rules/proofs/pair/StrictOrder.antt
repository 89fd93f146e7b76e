-- A reader that has recorded nothing never meets a violation of the strict order over an honest carrier, whatever the
-- parts of both sides are: what it reads is the front of what the other wrote, and that is in order.
use Rattle.std.proofs.Common.{◌≡◌, ℕ, ◌+◌, List, [], ◌∷◌, ◌++◌, length, map, refl, sym, ◌∙◌, ap, subst, arith, Bool, true, false, ◌⊎◌, inl, inr, append_assoc}
use Rattle.ssh_packet.specs.Sealing.{Item, next_number}
use Rattle.ssh_wire.specs.Lines.{id_text}
use Rattle.ssh_wire.specs.Sides.{other_side}
use Rattle.ssh_wire.specs.declared.side.Side.{Side}
use Rattle.ssh_wire.specs.declared.side.Side.TheVariants.{Client, Server}
use Rattle.ssh_negotiate.specs.Advertised.{kexinit}
use Rattle.ssh_negotiate.specs.Laws.{IsWithin}
use Rattle.ssh_kex.specs.Exchange.{outgoing}
use Rattle.ssh_kex.specs.Setting.{Says, offers_of}
use Rattle.ssh_kex.specs.Stages.{Stage, Created}
use Rattle.ssh_kex.specs.declared.config.Config.{Config}
use Rattle.ssh_kex.specs.declared.exchange.FinishedExchange.{FinishedExchange}
use Rattle.ssh_rules.specs.Log.{wrote, handled, kept_in, recorded, sent_bytes, read_bytes}
use Rattle.ssh_rules.specs.Machine.{Silent, Outside, Inside, SideState, Event, IdHeard, PayloadSubmitted, ExchangeBegun, AnswerSent, PayloadSent, MessageTaken, GuessDropped, PayloadDelivered, PacketDropped, ExchangeFinished, Steps, InOrder, first_state}
use Rattle.ssh_rules.specs.Snapshots.{NoGuesses, KindIs, kind_chosen}
use Rattle.ssh_rules.specs.Valid.{HasSizes}
use Rattle.ssh_rules.specs.Wire.{HasFront, epochs_ended, exchange_block}
use Rattle.ssh_rules.proofs.side.Accounts.{Kept, kept_run, trace_of}
use Rattle.ssh_rules.proofs.side.Discharged.{reads_no_guess}
use Rattle.ssh_rules.proofs.pair.Early.{IsEarly, early_run, awaited_passes}
use Rattle.ssh_rules.proofs.side.StageSteps.{at_stage}
use Rattle.ssh_rules.proofs.pair.Joint.{first_same}
use Rattle.ssh_rules.proofs.turns.LinkBounded.{AreKinds, kinds_front, no_drops, wrote_kinds}
use Rattle.ssh_rules.proofs.headline.LinkWire.{HeadsAre, known_here}
use Rattle.ssh_rules.proofs.side.LedgerSteps.{tidy_first}
use Rattle.ssh_rules.proofs.pair.Next.{Delivering, Calling, Taking, Goes, NextIs, Started, cut_log, next_accepted, next_by, started_first, started_steps}
use Rattle.ssh_rules.proofs.pair.NoGuess.{FollowsNone, block_head, first_kexinit, no_guess}
use Rattle.ssh_rules.proofs.side.Places.{handled_reads, written_reads}
use Rattle.ssh_rules.proofs.side.Ran.{kept_all, plain_guesses, read_join, recorded_is}
use Rattle.ssh_rules.proofs.side.ReasonSteps.{ends_open}
use Rattle.ssh_rules.proofs.side.StageFits.{no_trace, FitsStage}
use Rattle.ssh_rules.proofs.side.Ledgers.{has_newkeys}
use Rattle.ssh_rules.proofs.pair.Whole.{recorded_more}
use Rattle.ssh_rules.specs.RunLaws.{IsEarlyLink}

pub through : (a b c : List ℕ) → HasFront a b → HasFront b c → HasFront a c
through a b c s r = (r.0 ++ s.0, sym (append_assoc c r.0 s.0) ∙ (ap (λ q. q ++ s.0) r.1 ∙ s.1))

nil_front : (a b : List FinishedExchange) → a ++ b ≡ [] → a ≡ []
nil_front [] b e = refl
nil_front (x ∷ a) b e = cc

pub other_twice : (side : Side) → other_side (other_side side) ≡ side
other_twice Client = refl
other_twice Server = refl

-- ---- up to the first dropped guess

pub record FirstGuess (log : List Event) : Type 0 where
  pub before : List Event
  pub item : Item
  pub more : List Event
  pub split : log ≡ before ++ GuessDropped item ∷ more
  pub none : NoGuesses before

cons_guess : (e : Event) (es : List Event) → ((b : List Event) → NoGuesses b → NoGuesses (e ∷ b)) → NoGuesses es ⊎ FirstGuess es → NoGuesses (e ∷ es) ⊎ FirstGuess (e ∷ es)
cons_guess e es plain (inl h) = inl (plain es h)
cons_guess e es plain (inr h) = inr (record { before = e ∷ h.before; item = h.item; more = h.more; split = ap (λ q. e ∷ q) h.split; none = plain h.before h.none })

first_guess : (log : List Event) → NoGuesses log ⊎ FirstGuess log
first_guess [] = inl tt
first_guess (IdHeard id ∷ es) = cons_guess (IdHeard id) es (λ b h. h) (first_guess es)
first_guess (PayloadSubmitted p ∷ es) = cons_guess (PayloadSubmitted p) es (λ b h. h) (first_guess es)
first_guess (ExchangeBegun cause i ∷ es) = cons_guess (ExchangeBegun cause i) es (λ b h. h) (first_guess es)
first_guess (AnswerSent i r ∷ es) = cons_guess (AnswerSent i r) es (λ b h. h) (first_guess es)
first_guess (PayloadSent i ∷ es) = cons_guess (PayloadSent i) es (λ b h. h) (first_guess es)
first_guess (MessageTaken i ∷ es) = cons_guess (MessageTaken i) es (λ b h. h) (first_guess es)
first_guess (GuessDropped i ∷ es) = inr (record { before = []; item = i; more = es; split = refl; none = tt })
first_guess (PayloadDelivered i ∷ es) = cons_guess (PayloadDelivered i) es (λ b h. h) (first_guess es)
first_guess (PacketDropped i ∷ es) = cons_guess (PacketDropped i) es (λ b h. h) (first_guess es)
first_guess (ExchangeFinished i x ∷ es) = cons_guess (ExchangeFinished i x) es (λ b h. h) (first_guess es)

pub steps_cut : (says : Says) (side : Side) (config : Config) (own_id : List ℕ) (a b : List Event) (st st' : SideState) → Steps says side config own_id st (a ++ b) st' → (mid : SideState) × Steps says side config own_id st a mid × Steps says side config own_id mid b st'
steps_cut says side config own_id [] b st st' h = (st, refl, h)
steps_cut says side config own_id (e ∷ a) b st st' h = let r = steps_cut says side config own_id a b h.0 st' h.2 in (r.0, (h.0, h.1, r.1), r.2)

-- ---- what a reader without a record handled

-- where no guess was dropped, it is a front of what the other wrote
early_front : (says peer_says : Says) (side o : Side) (config peer : Config) (own_id peer_id : List ℕ) (log plog : List Event) (st pst : SideState) → Steps says side config own_id first_state log st → Steps peer_says o peer peer_id first_state plog pst → HasFront (sent_bytes o first_state.writing plog) (read_bytes side first_state.reading log) → recorded log ≡ [] → NoGuesses log → HasFront (wrote plog) (handled log)
early_front says peer_says side o config peer own_id peer_id log plog st pst h p front none plain =
    let kept = kept_run says side config own_id log st h in
    let ended = ends_open (length st.records) (trace_of no_trace log).theirs (kept_in log) kept.accounts.theirs kept.tidy.theirs_open in
    let few : length st.records ≡ 0 = ap length (recorded_is says side config own_id log first_state st h) ∙ ap length none in
    let all : epochs_ended (handled log) ≡ 0 = ap epochs_ended (sym (kept_all log plain)) ∙ (ended ∙ few) in
    first_same (map (outgoing (other_side side)) (recorded log)) (map (outgoing o) (recorded plog)) (handled log) (wrote plog) (read_bytes side first_state.reading log) [] (sent_bytes o first_state.writing plog)
    (handled_reads says side config own_id log first_state st (plain_guesses log plain) h) (written_reads peer_says o peer peer_id plog first_state pst tt tt p) front all

-- and none is dropped
pub early_guesses : (says peer_says : Says) (side : Side) (config peer : Config) (own_id peer_id : List ℕ) (log plog : List Event) (st pst : SideState) (o : Side) → o ≡ other_side side → FollowsNone side config peer → HasSizes peer → Steps says side config own_id first_state log st → Steps peer_says o peer peer_id first_state plog pst → HasFront (sent_bytes o first_state.writing plog) (read_bytes side first_state.reading log) → recorded log ≡ [] → NoGuesses log
early_guesses says peer_says side config peer own_id peer_id log plog st pst o is follows sizes h p front none = by (first_guess log) where
  by : NoGuesses log ⊎ FirstGuess log → NoGuesses log
  by (inl g) = g
  by (inr g) = absurd (
      let c = steps_cut says side config own_id g.before (GuessDropped g.item ∷ g.more) first_state st (subst (λ l. Steps says side config own_id first_state l st) g.split h) in
      let no_records : recorded g.before ≡ [] = nil_front (recorded g.before) (recorded (GuessDropped g.item ∷ g.more)) (sym (recorded_more g.before (GuessDropped g.item ∷ g.more)) ∙ (ap recorded (sym g.split) ∙ none)) in
      let cut : HasFront (read_bytes side first_state.reading log) (read_bytes side first_state.reading g.before) = (read_bytes side c.0.reading (GuessDropped g.item ∷ g.more), sym (read_join says side config own_id g.before (GuessDropped g.item ∷ g.more) first_state c.0 c.1) ∙ ap (λ l. read_bytes side first_state.reading l) (sym g.split)) in
      let f = early_front says peer_says side o config peer own_id peer_id g.before plog c.0 pst c.1 p (through (sent_bytes o first_state.writing plog) (read_bytes side first_state.reading log) (read_bytes side first_state.reading g.before) front cut) no_records g.none in
      let pk : Kept peer_says (other_side side) peer peer_id (wrote plog) (kept_in plog) pst (trace_of no_trace plog) = subst (λ d. Kept peer_says d peer peer_id (wrote plog) (kept_in plog) pst (trace_of no_trace plog)) is (kept_run peer_says o peer peer_id plog pst p) in
      no_guess says side config own_id peer_says peer peer_id (wrote g.before) (kept_in g.before) (wrote plog) (kept_in plog) c.0 pst (trace_of no_trace g.before) (trace_of no_trace plog) g.item c.2.0 follows sizes (kept_run says side config own_id g.before c.0 c.1) pk (subst (HasFront (wrote plog)) (sym (kept_all g.before g.none)) f) c.2.1)

within_of : (config : Side → Config) (s : Side) → IsWithin (offers_of Client (config Client)) → IsWithin (offers_of Server (config Server)) → IsWithin (offers_of s (config s))
within_of config Client c v = c
within_of config Server c v = v

follows_of : (config : Side → Config) (side o : Side) → o ≡ other_side side → IsWithin (offers_of Client (config Client)) → IsWithin (offers_of Server (config Server)) → FollowsNone side (config side) (config o)
follows_of config side o e c v = subst (λ d. FollowsNone side (config side) (config d)) (sym e) (reads_no_guess side (config side) (config (other_side side)) (within_of config (other_side side) c v))

-- each first message that was read is a KEXINIT of the other
pub heads_of : (says : Says) (config : Side → Config) (side o : Side) (peer_id : List ℕ) (plog : List Event) (pst : SideState) (r : List Item) → o ≡ other_side side → HasSizes (config o) → Steps says o (config o) peer_id first_state plog pst → HasFront (wrote plog) r → HeadsAre side config r
heads_of says config side o peer_id plog pst r is sizes p front = λ k q ms e.
    let b = block_head k r front.0 q ms e in
    subst (λ d. (cookie : List ℕ) × (length cookie ≡ 16) × (q ≡ kexinit (offers_of d (config d)) cookie)) is
    (first_kexinit says o (config o) peer_id (wrote plog) (kept_in plog) pst (trace_of no_trace plog) k q b.0 sizes (kept_run says o (config o) peer_id plog pst p) (ap (exchange_block k) (sym front.1) ∙ b.1))

pub record ReadsEarly (log plog : List Event) : Type 0 where
  pub plain : NoGuesses log
  pub front : HasFront (wrote plog) (handled log)

pub reads_early : (says : Side → Says) (config : Side → Config) (side : Side) (log plog : List Event) (st pst : SideState) → IsEarlyLink says config side log plog st pst → ReadsEarly log plog
reads_early says config side log plog st pst l =
    let o = other_side side in
    let g = early_guesses (says side) (says o) side (config side) (config o) (id_text (config side).id) (id_text (config o).id) log plog st pst o refl (follows_of config side o refl l.client_within l.server_within) (l.sizes o) l.steps l.peer_steps l.to_side l.none in
    record { plain = g; front = early_front (says side) (says o) side o (config side) (config o) (id_text (config side).id) (id_text (config o).id) log plog st pst l.steps l.peer_steps l.to_side l.none g }

-- it drops nothing either, and so has read as many packets as messages
pub reads_messages : (says : Side → Says) (config : Side → Config) (side : Side) (log plog : List Event) (st pst : SideState) → IsEarlyLink says config side log plog st pst → IsEarly st (trace_of no_trace log)
reads_messages says config side log plog st pst l =
    let o = other_side side in
    let e = reads_early says config side log plog st pst l in
    let kinds : AreKinds (handled log) = kinds_front (wrote plog) (handled log) e.front (wrote_kinds (says o) o (config o) (id_text (config o).id) plog first_state pst no_trace (tidy_first (says o) o (config o) (id_text (config o).id)) l.peer_steps) in
    early_run (says side) side (config side) (id_text (config side).id) log st e.plain (no_drops (says side) side (config side) (id_text (config side).id) log first_state st kinds l.steps) l.steps

-- ---- the packet that comes next

no_records : (n : ℕ) (b : Bool) → 0 ≡ n + (Rattle.std.specs.Prelude.if◌then◌else◌ b 1 0) → n ≡ 0
no_records n true e = absurd (omega (arith, e))
no_records n false e = omega (arith, e)

nil_of : (xs : List FinishedExchange) → length xs ≡ 0 → xs ≡ []
nil_of [] e = refl
nil_of (x ∷ xs) e = absurd (omega (arith, e))

-- what is next of an honest peer, whatever the parts are
pub next_early : (says : Side → Says) (config : Side → Config) (side : Side) (log plog : List Event) (st pst : SideState) (j : Item) (more : List Item) → IsEarlyLink says config side log plog st pst → wrote plog ≡ handled log ++ j ∷ more → NextIs (other_side side) (config (other_side side)) (kind_chosen config) 0 (trace_of no_trace log).theirs j
next_early says config side log plog st pst j more l e = next where
  o : Side
  o = other_side side

  own : List ℕ
  own = id_text (config side).id

  theirs : List ℕ
  theirs = id_text (config o).id

  early : ReadsEarly log plog
  early = reads_early says config side log plog st pst l

  kept : Kept (says side) side (config side) own (wrote log) (kept_in log) st (trace_of no_trace log)
  kept = kept_run (says side) side (config side) own log st l.steps

  few : length st.records ≡ 0
  few = ap length (recorded_is (says side) side (config side) own log first_state st l.steps) ∙ ap length l.none

  ended : epochs_ended (handled log) ≡ 0
  ended = ap epochs_ended (sym (kept_all log early.plain)) ∙ (ends_open (length st.records) (trace_of no_trace log).theirs (kept_in log) kept.accounts.theirs kept.tidy.theirs_open ∙ few)

  block_is : exchange_block 0 (handled log) ≡ (trace_of no_trace log).theirs
  block_is = ap (λ r. exchange_block 0 r) (sym (kept_all log early.plain)) ∙ (ap (λ n. exchange_block n (kept_in log)) (sym few) ∙ kept.accounts.theirs.block_is)

  c : Rattle.ssh_rules.proofs.pair.Next.Cut (says o) o (config o) theirs plog first_state pst (handled log) j
  c = cut_log (says o) o (config o) theirs plog first_state pst (handled log) j more l.peer_steps e

  k : Kept (says o) o (config o) theirs (handled log) (kept_in c.before) c.mid (trace_of no_trace c.before)
  k = subst (λ w. Kept (says o) o (config o) theirs w (kept_in c.before) c.mid (trace_of no_trace c.before)) c.wrote_is (kept_run (says o) o (config o) theirs c.before c.mid c.steps)

  at_start : length c.mid.records ≡ 0
  at_start = no_records (length c.mid.records) (has_newkeys (trace_of no_trace c.before).own) (sym ended ∙ k.accounts.own.ends_is)

  peer_none : recorded c.before ≡ []
  peer_none = sym (recorded_is (says o) o (config o) theirs c.before first_state c.mid c.steps) ∙ nil_of c.mid.records at_start

  peer_front : HasFront (sent_bytes side first_state.writing log) (read_bytes o first_state.reading c.before)
  peer_front = through (sent_bytes side first_state.writing log) (read_bytes o first_state.reading plog) (read_bytes o first_state.reading c.before) l.to_peer (read_bytes o c.mid.reading c.rest, sym (read_join (says o) o (config o) theirs c.before c.rest first_state c.mid c.steps) ∙ ap (λ q. read_bytes o first_state.reading q) (sym c.log_is))

  peer_plain : NoGuesses c.before
  peer_plain = early_guesses (says o) (says side) o (config o) (config side) theirs own c.before log c.mid st side (sym (other_twice side)) (follows_of config o side (sym (other_twice side)) l.client_within l.server_within) (l.sizes side) c.steps l.steps peer_front peer_none

  peer_read : HasFront (wrote log) (kept_in c.before)
  peer_read = subst (HasFront (wrote log)) (sym (kept_all c.before peer_plain)) (early_front (says o) (says side) o side (config o) (config side) theirs own c.before log c.mid st c.steps l.steps peer_front peer_none peer_plain)

  known : KindIs (kind_chosen config) (Rattle.ssh_rules.specs.Machine.names_now c.mid.stands)
  known = known_here (says o) o config theirs (handled log) (kept_in c.before) c.mid (trace_of no_trace c.before) l.client_within l.server_within (heads_of (says side) config o side own log st (kept_in c.before) (sym (other_twice side)) (l.sizes side) l.steps peer_read) k

  started : Started c.mid (trace_of no_trace c.before)
  started = started_steps (says o) o (config o) theirs c.before first_state c.mid no_trace started_first c.steps

  by : (epochs_ended (handled log) ≡ length c.mid.records) × NextIs o (config o) (kind_chosen config) (length c.mid.records) (trace_of no_trace c.before).own j
  by = next_by (says o) o (config o) theirs (λ n. kind_chosen config) (handled log) c.mid (trace_of no_trace c.before) (kept_in c.before) c.event c.next j (l.sizes o) k started known c.writes c.step

  same : (trace_of no_trace c.before).own ≡ (trace_of no_trace log).theirs
  same = sym k.accounts.own.block_is ∙ (ap (λ n. exchange_block n (handled log)) at_start ∙ block_is)

  next : NextIs o (config o) (kind_chosen config) 0 (trace_of no_trace log).theirs j
  next = subst (λ n. NextIs o (config o) (kind_chosen config) n (trace_of no_trace log).theirs j) at_start (subst (λ t. NextIs o (config o) (kind_chosen config) (length c.mid.records) t j) same by.1)

-- No violation: at a reader that has recorded nothing and owes nothing the next packet passes the order test, and a
-- KEXINIT that it awaits is the first packet.
pub no_violation : (says : Side → Says) (config : Side → Config) (side : Side) (log plog : List Event) (st pst : SideState) (stage : Stage) (j : Item) (more : List Item) → IsEarlyLink says config side log plog st pst → st.owed ≡ [] → st.stands ≡ Inside stage → wrote plog ≡ handled log ++ j ∷ more → InOrder side st j × ((k : List ℕ) → stage ≡ Created k → next_number st.reading.number ≡ 1)
no_violation says config side log plog st pst stage j more l o s e = (order, first) where
  own : List ℕ
  own = id_text (config side).id

  early : ReadsEarly log plog
  early = reads_early says config side log plog st pst l

  counts : IsEarly st (trace_of no_trace log)
  counts = reads_messages says config side log plog st pst l

  kept : Kept (says side) side (config side) own (wrote log) (kept_in log) st (trace_of no_trace log)
  kept = kept_run (says side) side (config side) own log st l.steps

  records : st.records ≡ []
  records = recorded_is (says side) side (config side) own log first_state st l.steps ∙ l.none

  known : KindIs (kind_chosen config) (Rattle.ssh_rules.specs.Machine.names_now st.stands)
  known = known_here (says side) side config own (wrote log) (kept_in log) st (trace_of no_trace log) l.client_within l.server_within (heads_of (says (other_side side)) config side (other_side side) (id_text (config (other_side side)).id) plog pst (kept_in log) refl (l.sizes (other_side side)) l.peer_steps (subst (HasFront (wrote plog)) (sym (kept_all log early.plain)) early.front)) kept

  loud : st.stands ≡ Silent → ⊥
  loud z = (let q : Inside stage ≡ Silent = sym s ∙ z in cc)

  goes : Goes (other_side side) (config (other_side side)) st j
  goes = next_accepted (says side) side (config side) own (config (other_side side)) (kind_chosen config) (wrote log) (kept_in log) st (trace_of no_trace log) j kept o loud known (subst (λ n. NextIs (other_side side) (config (other_side side)) (kind_chosen config) n (trace_of no_trace log).theirs j) (sym (ap length records)) (next_early says config side log plog st pst j more l e))

  by : Goes (other_side side) (config (other_side side)) st j → InOrder side st j
  by (Delivering (inl out) p) = absurd (let q : Inside stage ≡ Outside = sym s ∙ out in cc)
  by (Delivering (inr q) p) = absurd (let few : length st.records ≡ 0 = ap length records in let some = q.1 in omega (arith, few, some))
  by (Calling cookie out len p) = absurd (let q : Inside stage ≡ Outside = sym s ∙ out in cc)
  by (Taking at q r) = awaited_passes (says side) side (config side) own st (trace_of no_trace log) at (other_side side) (config (other_side side)) j kept.tidy counts q o r

  order : InOrder side st j
  order = by goes

  one_of : (n m : ℕ) → n ≡ m → m ≡ 0 → next_number n ≡ 1
  one_of n m a b = (let z : n ≡ 0 = a ∙ b in ap next_number z)

  first : (k : List ℕ) → stage ≡ Created k → next_number st.reading.number ≡ 1
  first k q = (
      let at = at_stage (says side) side (config side) own st (trace_of no_trace log) stage s o kept.tidy.fits in
      let f = subst (λ z. FitsStage (says side) (Rattle.ssh_rules.specs.Machine.setting side (config side) own st) z (trace_of no_trace log).own (trace_of no_trace log).theirs) q at in
      one_of st.reading.number (length (trace_of no_trace log).theirs) (counts.number records) (ap length f.theirs_is))
