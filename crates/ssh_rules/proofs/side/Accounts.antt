-- Each record was made of its two blocks of messages, and the open exchange stands in the packets.
use Rattle.std.proofs.Common.{◌≡◌, ℕ, zero, suc, ◌+◌, ◌<◌, ◌≤◌, List, [], ◌∷◌, ◌++◌, length, take, slice_get, refl, sym, ◌∙◌, ap, subst, arith, Option, Some, Bool, true, false, if◌then◌else◌, ◌==◌, ◌⊎◌, inl, inr, length-append, append_assoc, append-nil}
use Rattle.ssh_packet.specs.Sealing.{Item, next_number}
use Rattle.ssh_packet.specs.Stream.{message_type}
use Rattle.ssh_wire.specs.declared.side.Side.{Side}
use Rattle.ssh_kex.specs.declared.config.Config.{Config}
use Rattle.ssh_kex.specs.declared.exchange.FinishedExchange.{FinishedExchange}
use Rattle.ssh_kex.specs.Messages.{newkeys}
use Rattle.ssh_negotiate.specs.Advertised.{kexinit}
use Rattle.ssh_kex.specs.Setting.{Says, offers_of}
use Rattle.ssh_kex.specs.Stages.{Stage, Created, AwaitsNewkeys}
use Rattle.ssh_rules.specs.MessageTypes.{type_of, is_kex_type, is_payload_type}
use Rattle.ssh_rules.specs.Wire.{exchange_block, epochs_ended}
use Rattle.ssh_rules.specs.Machine.{Silent, Outside, Inside, SideState, setting, Event, IdHeard, PayloadSubmitted, ExchangeBegun, AnswerSent, PayloadSent, MessageTaken, GuessDropped, PayloadDelivered, PacketDropped, ExchangeFinished, Step, Steps, first_state}
use Rattle.ssh_rules.specs.Made.{IsRecorded}
use Rattle.ssh_rules.proofs.side.StageFits.{Trace, no_trace, trace_after}
use Rattle.ssh_rules.proofs.side.Ledgers.{has_newkeys, Ledger, setting_at, Accounts}
use Rattle.ssh_rules.specs.Log.{wrote, kept_in}
use Rattle.ssh_rules.proofs.side.Places.{ended, HeldOk}
use Rattle.ssh_rules.proofs.side.StageSteps.{finishes_made, same_setting, setting_side}
use Rattle.ssh_rules.proofs.side.Blocks.{block_below}
use Rattle.ssh_rules.proofs.side.LedgerSteps.{Tidy, tidy_step, tidy_first, closed_trace, may_closed, ledger_message, ledger_other, ledger_record, payload_not_kex, drop_not_kex, AllKex, takes_kex, finishes_kex, finishes_ended}

get_below : {A : Type 0} (xs : List A) (k : ℕ) (x : A) → slice_get xs k ≡ Some x → k < length xs
get_below [] k x h = cc
get_below (y ∷ ys) zero x h = omega arith
get_below (y ∷ ys) (suc k) x h = let r = get_below ys k x h in omega (arith, r)

-- what each record was made of
abbrev pub Each : Says → Side → Config → List ℕ → Option (List ℕ) → List FinishedExchange → List Item → List Item → Type 0
Each says side config own_id heard records w r = (k : ℕ) (x : FinishedExchange) → slice_get records k ≡ Some x → IsRecorded side says (setting_at side config own_id heard (take k records)) (exchange_block k w) (exchange_block k r) x

each_wrote : (says : Says) (side : Side) (config : Config) (own_id : List ℕ) (heard : Option (List ℕ)) (records : List FinishedExchange) (w r : List Item) (i : Item) → length records ≤ epochs_ended w → Each says side config own_id heard records w r → Each says side config own_id heard records (w ++ i ∷ []) r
each_wrote says side config own_id heard records w r i few each k x h =
    subst (λ b. IsRecorded side says (setting_at side config own_id heard (take k records)) b (exchange_block k r) x) (sym (block_below k w i (omega (arith, get_below records k x h, few)))) (each k x h)

each_read : (says : Says) (side : Side) (config : Config) (own_id : List ℕ) (heard : Option (List ℕ)) (records : List FinishedExchange) (w r : List Item) (i : Item) → length records ≤ epochs_ended r → Each says side config own_id heard records w r → Each says side config own_id heard records w (r ++ i ∷ [])
each_read says side config own_id heard records w r i few each k x h =
    subst (λ b. IsRecorded side says (setting_at side config own_id heard (take k records)) (exchange_block k w) b x) (sym (block_below k r i (omega (arith, get_below records k x h, few)))) (each k x h)

record Older {A : Type 0} (xs : List A) (x y : A) (k : ℕ) : Type 0 where
  found : slice_get xs k ≡ Some y
  before : take k (xs ++ x ∷ []) ≡ take k xs

record Newest {A : Type 0} (xs : List A) (x y : A) (k : ℕ) : Type 0 where
  place : k ≡ length xs
  same : x ≡ y
  before : take k (xs ++ x ∷ []) ≡ xs

get_snoc : {A : Type 0} (xs : List A) (x y : A) (k : ℕ) → slice_get (xs ++ x ∷ []) k ≡ Some y → Older xs x y k ⊎ Newest xs x y k
get_snoc [] x y zero h = inr (record { place = refl; same = cc; before = refl })
get_snoc [] x y (suc k) h = cc
get_snoc (z ∷ xs) x y zero h = inl (record { found = h; before = refl })
get_snoc (z ∷ xs) x y (suc k) h = elim (get_snoc xs x y k h) [
  | inl o ↦ inl (record { found = o.found; before = ap (λ t. z ∷ t) o.before })
  | inr n ↦ inr (record { place = (let e : k ≡ length xs = n.place in let r : suc k ≡ length (z ∷ xs) = omega (arith, e) in r); same = n.same; before = ap (λ t. z ∷ t) n.before })
]

each_record : (says : Says) (side : Side) (config : Config) (own_id : List ℕ) (heard : Option (List ℕ)) (records : List FinishedExchange) (w r : List Item) (own theirs : List (List ℕ)) (x : FinishedExchange) → exchange_block (length records) w ≡ own → exchange_block (length records) r ≡ theirs → IsRecorded side says (setting_at side config own_id heard records) own theirs x → Each says side config own_id heard records w r → Each says side config own_id heard (records ++ x ∷ []) w r
each_record says side config own_id heard records w r own theirs x ow th m each k y h = elim (get_snoc records x y k h) [
  | inl o ↦ subst (λ t. IsRecorded side says (setting_at side config own_id heard t) (exchange_block k w) (exchange_block k r) y) (sym o.before) (each k y o.found)
  | inr n ↦ subst (λ t. IsRecorded side says (setting_at side config own_id heard t) (exchange_block k w) (exchange_block k r) y) (sym n.before)
      (subst (λ z. IsRecorded side says (setting_at side config own_id heard records) (exchange_block k w) (exchange_block k r) z) n.same
      (subst (λ j. IsRecorded side says (setting_at side config own_id heard records) (exchange_block j w) (exchange_block j r) x) (sym n.place)
      (subst (λ b. IsRecorded side says (setting_at side config own_id heard records) (exchange_block (length records) w) b x) (sym th)
      (subst (λ b. IsRecorded side says (setting_at side config own_id heard records) b theirs x) (sym ow) m))))
]

few_records : (n : ℕ) (blk : List (List ℕ)) (w : List Item) → Ledger n blk w → n ≤ epochs_ended w
few_records n blk w l = at_most (has_newkeys blk) l.ends_is where
  at_most : (b : Bool) → epochs_ended w ≡ n + (if b then 1 else 0) → n ≤ epochs_ended w
  at_most true h = omega (arith, h)
  at_most false h = omega (arith, h)

-- the packets written, and handled without dropped guesses, after one more event
abbrev pub more_wrote : List Item → Event → List Item
more_wrote w (ExchangeBegun cause i) = w ++ i ∷ []
more_wrote w (AnswerSent i resets) = w ++ i ∷ []
more_wrote w (PayloadSent i) = w ++ i ∷ []
more_wrote w (IdHeard id) = w
more_wrote w (PayloadSubmitted p) = w
more_wrote w (MessageTaken i) = w
more_wrote w (GuessDropped i) = w
more_wrote w (PayloadDelivered i) = w
more_wrote w (PacketDropped i) = w
more_wrote w (ExchangeFinished i x) = w

abbrev pub more_kept : List Item → Event → List Item
more_kept r (ExchangeBegun cause i) = r
more_kept r (AnswerSent i resets) = r
more_kept r (PayloadSent i) = r
more_kept r (IdHeard id) = r
more_kept r (PayloadSubmitted p) = r
more_kept r (MessageTaken i) = r ++ i ∷ []
more_kept r (GuessDropped i) = r
more_kept r (PayloadDelivered i) = r ++ i ∷ []
more_kept r (PacketDropped i) = r ++ i ∷ []
more_kept r (ExchangeFinished i x) = r ++ i ∷ []

in_not_silent : (s : Stage) → Inside s ≡ Silent → ⊥
in_not_silent s e = cc

outside_not_silent : Outside ≡ Silent → ⊥
outside_not_silent e = cc

kexinit_kex : (side : Side) (config : Config) (cookie : List ℕ) (i : Item) → i.payload ≡ kexinit (offers_of side config) cookie → is_kex_type (type_of i) ≡ true
unfolding kexinit
kexinit_kex side config cookie i e = ap (λ p. is_kex_type (message_type p)) e

at_state : (says : Says) (side : Side) (config : Config) (own_id : List ℕ) (w r : List Item) (m st' : SideState) (t : Trace) → st' ≡ m → Accounts says side config own_id w r m t → Accounts says side config own_id w r st' t
at_state says side config own_id w r m st' t e a = subst (λ s. Accounts says side config own_id w r s t) (sym e) a

pub accounts_step : (says : Says) (side : Side) (config : Config) (own_id : List ℕ) (w r : List Item) (st : SideState) (e : Event) (st' : SideState) (t : Trace) → Tidy says side config own_id st t → Accounts says side config own_id w r st t → Step says side config own_id st e st' → Accounts says side config own_id (more_wrote w e) (more_kept r e) st' (trace_after t e)
accounts_step says side config own_id w r st (IdHeard id) st' t y a h = at_state says side config own_id w r _ st' t h.becomes (record {
  own = a.own;
  theirs = a.theirs;
  silent = a.silent;
  each = λ k x g. absurd (let n : st.records ≡ [] = a.silent h.silent in let b = get_below st.records k x g in let l : length st.records ≡ 0 = ap length n in omega (arith, b, l));
})
accounts_step says side config own_id w r st (PayloadSubmitted p) st' t y a h = at_state says side config own_id w r _ st' t h.becomes (record { own = a.own; theirs = a.theirs; silent = a.silent; each = a.each })
accounts_step says side config own_id w r st (ExchangeBegun cause i) st' t y a h =
    let c = closed_trace says side config own_id st t y.fits (may_closed config st cause h.may) in
    at_state says side config own_id (w ++ i ∷ []) r _ st' (trace_after t (ExchangeBegun cause i)) h.becomes (record {
      own = ledger_message (length st.records) [] w i (subst (λ b. Ledger (length st.records) b w) c.0 a.own) refl (kexinit_kex side config h.cookie i h.payload_is);
      theirs = subst (λ b. Ledger (length st.records) b r) c.1 a.theirs;
      silent = λ e. absurd (in_not_silent (Created i.payload) e);
      each = each_wrote says side config own_id st.heard st.records w r i (few_records _ _ w a.own) a.each;
    })
accounts_step says side config own_id w r st (AnswerSent i q) st' t y a h =
    let k : is_kex_type (type_of i) ≡ true = (subst AllKex h.owes y.owed_kex).0 in
    let before : has_newkeys t.own ≡ false = y.own_ended ∙ (ap (ended st.stands) h.owes ∙ Rattle.ssh_rules.proofs.side.Places.open_with st.stands i.payload h.more) in
    at_state says side config own_id (w ++ i ∷ []) r _ st' (trace_after t (AnswerSent i q)) h.becomes (record {
      own = ledger_message (length st.records) t.own w i a.own before k;
      theirs = a.theirs;
      silent = a.silent;
      each = each_wrote says side config own_id st.heard st.records w r i (few_records _ _ w a.own) a.each;
    })
accounts_step says side config own_id w r st (PayloadSent i) st' t y a h =
    let p : is_payload_type (type_of i) ≡ true = (subst HeldOk h.holds y.held).0 in
    at_state says side config own_id (w ++ i ∷ []) r _ st' t h.becomes (record {
      own = ledger_other (length st.records) t.own w i a.own (payload_not_kex (type_of i) p);
      theirs = a.theirs;
      silent = a.silent;
      each = each_wrote says side config own_id st.heard st.records w r i (few_records _ _ w a.own) a.each;
    })
accounts_step says side config own_id w r st (MessageTaken i) st' t y a h =
    let k = takes_kex says (setting side config own_id st) h.stage (next_number st.reading.number) i.payload h.answers h.next h.takes in
    at_state says side config own_id w (r ++ i ∷ []) _ st' (trace_after t (MessageTaken i)) h.becomes (record {
      own = a.own;
      theirs = ledger_message (length st.records) t.theirs r i a.theirs y.theirs_open k.0;
      silent = λ e. absurd (in_not_silent h.next e);
      each = each_read says side config own_id st.heard st.records w r i (few_records _ _ r a.theirs) a.each;
    })
accounts_step says side config own_id w r st (GuessDropped i) st' t y a h = at_state says side config own_id w r _ st' t h.becomes (record { own = a.own; theirs = a.theirs; silent = λ e. absurd (in_not_silent _ e); each = a.each })
accounts_step says side config own_id w r st (PayloadDelivered i) st' t y a h =
    at_state says side config own_id w (r ++ i ∷ []) _ st' t h.becomes (record {
      own = a.own;
      theirs = ledger_other (length st.records) t.theirs r i a.theirs (payload_not_kex (type_of i) h.allowed);
      silent = a.silent;
      each = each_read says side config own_id st.heard st.records w r i (few_records _ _ r a.theirs) a.each;
    })
accounts_step says side config own_id w r st (PacketDropped i) st' t y a h =
    at_state says side config own_id w (r ++ i ∷ []) _ st' t h.becomes (record {
      own = a.own;
      theirs = ledger_other (length st.records) t.theirs r i a.theirs (drop_not_kex (type_of i) h.idle);
      silent = a.silent;
      each = each_read says side config own_id st.heard st.records w r i (few_records _ _ r a.theirs) a.each;
    })
accounts_step says side config own_id w r st (ExchangeFinished i x) st' t y a h =
    let m = finishes_made says side config own_id st i x st' t y.fits h in
    let n : i.payload ≡ newkeys = finishes_kex says (AwaitsNewkeys h.exchange x h.host) i.payload x (h.payload_is, refl, h.trusted) in
    let full : has_newkeys t.own ≡ true = y.own_ended ∙ (ap (λ s. ended s st.owed) h.inside ∙ (ap (ended (Inside (AwaitsNewkeys h.exchange x h.host))) h.owes ∙ finishes_ended says (AwaitsNewkeys h.exchange x h.host) i.payload x (h.payload_is, refl, h.trusted))) in
    let kex : is_kex_type (type_of i) ≡ true = ap (λ p. is_kex_type (message_type p)) n in
    let read = ledger_message (length st.records) t.theirs r i a.theirs y.theirs_open kex in
    let last : has_newkeys (t.theirs ++ i.payload ∷ []) ≡ true = Rattle.ssh_rules.proofs.side.LedgerSteps.has_snoc t.theirs i.payload y.theirs_open ∙ ap (λ p. message_type p == 21) n in
    let up = length-append st.records (x ∷ []) in
    let made : IsRecorded side says (setting_at side config own_id st.heard st.records) t.own (t.theirs ++ i.payload ∷ []) x =
    subst (λ s. IsRecorded side says s t.own (t.theirs ++ i.payload ∷ []) x) (same_setting side config own_id st (record first_state { heard = st.heard; records = st.records }) refl refl)
    (subst (λ q. IsRecorded q says (setting side config own_id st) t.own (t.theirs ++ i.payload ∷ []) x) (setting_side side config own_id st) (record { exchange = h.exchange; host = h.host; made = m.0; trusted = m.1 })) in
    at_state says side config own_id w (r ++ i ∷ []) _ st' no_trace h.becomes (record {
      own = ledger_record (length st.records) t.own w (length (st.records ++ x ∷ [])) up a.own full;
      theirs = ledger_record (length st.records) (t.theirs ++ i.payload ∷ []) (r ++ i ∷ []) (length (st.records ++ x ∷ [])) up read last;
      silent = λ e. absurd (outside_not_silent e);
      each = each_record says side config own_id st.heard st.records w (r ++ i ∷ []) t.own (t.theirs ++ i.payload ∷ []) x a.own.block_is read.block_is made
          (each_read says side config own_id st.heard st.records w r i (few_records _ _ r a.theirs) a.each);
    })

wrote_on : (w : List Item) (e : Event) (es : List Event) → more_wrote w e ++ wrote es ≡ w ++ wrote (e ∷ es)
wrote_on w (ExchangeBegun cause i) es = append_assoc w (i ∷ []) (wrote es)
wrote_on w (AnswerSent i q) es = append_assoc w (i ∷ []) (wrote es)
wrote_on w (PayloadSent i) es = append_assoc w (i ∷ []) (wrote es)
wrote_on w (IdHeard id) es = refl
wrote_on w (PayloadSubmitted p) es = refl
wrote_on w (MessageTaken i) es = refl
wrote_on w (GuessDropped i) es = refl
wrote_on w (PayloadDelivered i) es = refl
wrote_on w (PacketDropped i) es = refl
wrote_on w (ExchangeFinished i x) es = refl

pub kept_on : (r : List Item) (e : Event) (es : List Event) → more_kept r e ++ kept_in es ≡ r ++ kept_in (e ∷ es)
kept_on r (ExchangeBegun cause i) es = refl
kept_on r (AnswerSent i q) es = refl
kept_on r (PayloadSent i) es = refl
kept_on r (IdHeard id) es = refl
kept_on r (PayloadSubmitted p) es = refl
kept_on r (MessageTaken i) es = append_assoc r (i ∷ []) (kept_in es)
kept_on r (GuessDropped i) es = refl
kept_on r (PayloadDelivered i) es = append_assoc r (i ∷ []) (kept_in es)
kept_on r (PacketDropped i) es = append_assoc r (i ∷ []) (kept_in es)
kept_on r (ExchangeFinished i x) es = append_assoc r (i ∷ []) (kept_in es)

-- the trace behind events
abbrev pub trace_of : Trace → List Event → Trace
trace_of t [] = t
trace_of t (e ∷ es) = trace_of (trace_after t e) es

pub record Kept (says : Says) (side : Side) (config : Config) (own_id : List ℕ) (written read : List Item) (st : SideState) (t : Trace) : Type 0 where
  pub tidy : Tidy says side config own_id st t
  pub accounts : Accounts says side config own_id written read st t

pub kept_steps : (says : Says) (side : Side) (config : Config) (own_id : List ℕ) (log : List Event) (w r : List Item) (st st' : SideState) (t : Trace) → Kept says side config own_id w r st t → Steps says side config own_id st log st' → Kept says side config own_id (w ++ wrote log) (r ++ kept_in log) st' (trace_of t log)
kept_steps says side config own_id [] w r st st' t k h =
    subst (λ s. Kept says side config own_id (w ++ []) (r ++ []) s t) (sym h) (subst (λ v. Kept says side config own_id v (r ++ []) st t) (sym (append-nil w)) (subst (λ v. Kept says side config own_id w v st t) (sym (append-nil r)) k))
kept_steps says side config own_id (e ∷ es) w r st st' t k h =
    let one : Kept says side config own_id (more_wrote w e) (more_kept r e) h.0 (trace_after t e) = record { tidy = tidy_step says side config own_id st e h.0 t k.tidy h.1; accounts = accounts_step says side config own_id w r st e h.0 t k.tidy k.accounts h.1 } in
    let next = kept_steps says side config own_id es (more_wrote w e) (more_kept r e) h.0 st' (trace_after t e) one h.2 in
    subst (λ v. Kept says side config own_id v (r ++ kept_in (e ∷ es)) st' (trace_of t (e ∷ es))) (wrote_on w e es) (subst (λ v. Kept says side config own_id (more_wrote w e ++ wrote es) v st' (trace_of t (e ∷ es))) (kept_on r e es) next)

pub kept_first : (says : Says) (side : Side) (config : Config) (own_id : List ℕ) → Kept says side config own_id [] [] first_state no_trace
kept_first says side config own_id = record {
  tidy = tidy_first says side config own_id;
  accounts = record {
    own = record { ends_is = refl; block_is = refl; next_is = refl };
    theirs = record { ends_is = refl; block_is = refl; next_is = refl };
    silent = λ e. refl;
    each = λ k x h. cc;
  };
}

-- a side's whole run: what it wrote and what it kept, by blocks
pub kept_run : (says : Says) (side : Side) (config : Config) (own_id : List ℕ) (log : List Event) (st : SideState) → Steps says side config own_id first_state log st → Kept says side config own_id (wrote log) (kept_in log) st (trace_of no_trace log)
kept_run says side config own_id log st h = kept_steps says side config own_id log [] [] first_state st no_trace (kept_first says side config own_id) h
