-- Each exchange behind the first has a cause that stands in the packets.
use Rattle.std.proofs.Common.{◌≡◌, ℕ, zero, suc, ◌+◌, ◌-◌, ◌<◌, ◌≤◌, List, [], ◌∷◌, ◌++◌, length, slice_get, refl, sym, ◌∙◌, ap, subst, arith, Some, Bool, true, false, if◌then◌else◌, ◌⊎◌, inl, inr, length-append, append_assoc, append-nil}
use Rattle.ssh_packet.specs.Sealing.{Item, next_number}
use Rattle.std.specs.Prelude.{min, ◌^◌}
use Rattle.ssh_packet.specs.Stream.{message_type}
use Rattle.ssh_packet.specs.Writing.{count_after}
use Rattle.ssh_wire.specs.declared.side.Side.{Side}
use Rattle.ssh_kex.specs.declared.config.Config.{Config}
use Rattle.ssh_kex.specs.Messages.{newkeys}
use Rattle.ssh_kex.specs.Setting.{Says}
use Rattle.ssh_kex.specs.Stages.{Stage, Created, AwaitsNewkeys}
use Rattle.ssh_rules.specs.MessageTypes.{type_of, is_payload_type, is_kex_type}
use Rattle.ssh_rules.specs.Wire.{exchange_block, epochs_ended}
use Rattle.ssh_rules.specs.Run.{epoch_bytes}
use Rattle.ssh_rules.proofs.side.Reasons.{NonNil, Reason, NoDrops}
use Rattle.ssh_rules.specs.Counting.{begun, open_count}
use Rattle.ssh_rules.specs.Machine.{Where, Silent, Outside, Inside, SideState, setting, Cause, Start, Asked, Answering, WriteLimit, ReadLimit, MayBegin, Event, IdHeard, PayloadSubmitted, ExchangeBegun, AnswerSent, PayloadSent, MessageTaken, GuessDropped, PayloadDelivered, PacketDropped, ExchangeFinished, Step, Steps, first_state}
use Rattle.ssh_rules.proofs.side.StageFits.{Trace, no_trace, trace_after, FitsWhere}
use Rattle.ssh_rules.proofs.side.Ledgers.{Ledger, has_newkeys}
use Rattle.ssh_rules.specs.Log.{wrote, kept_in, causes_in}
use Rattle.ssh_rules.proofs.side.Epochs.{epoch_next, epoch_at, epoch_more, block_more, bytes_in}
use Rattle.ssh_rules.proofs.side.Places.{HeldOk, open_with, payload_plain}
use Rattle.ssh_rules.proofs.side.Left.{may_open}
use Rattle.ssh_rules.proofs.side.LedgerSteps.{closed_trace, may_closed, ledger_message, takes_kex, finishes_kex}
use Rattle.ssh_rules.proofs.side.Accounts.{Kept, kept_first, more_wrote, more_kept}

abbrev pub more_causes : List Cause → Event → List Cause
more_causes c (ExchangeBegun cause i) = c ++ cause ∷ []
more_causes c (IdHeard id) = c
more_causes c (PayloadSubmitted p) = c
more_causes c (AnswerSent i q) = c
more_causes c (PayloadSent i) = c
more_causes c (MessageTaken i) = c
more_causes c (GuessDropped i) = c
more_causes c (PayloadDelivered i) = c
more_causes c (PacketDropped i) = c
more_causes c (ExchangeFinished i x) = c

-- a count of bytes that stands still at its end
abbrev pub capped : ℕ → ℕ
capped n = min n (2 ^ 64 - 1)

pub record Reasons (config : Config) (causes : List Cause) (w r : List Item) (st : SideState) : Type 0 where
  pub causes_length : length causes ≡ begun st
  pub counted : st.stands ≡ Outside → (st.written ≡ capped (epoch_bytes (length st.records) w)) × (st.read ≡ capped (epoch_bytes (length st.records) r))
  pub next_own : (stage : Stage) → st.stands ≡ Inside stage → epoch_bytes (suc (length st.records)) w ≡ 0
  pub reason : (k : ℕ) → 1 ≤ k → k < length st.records → Reason config causes w r k
  pub reason_now : (stage : Stage) → st.stands ≡ Inside stage → 1 ≤ length st.records → Reason config causes w r (length st.records) ⊎ (st.called ≡ true)

get_more : {A : Type 0} (xs ys : List A) (k : ℕ) (x : A) → slice_get xs k ≡ Some x → slice_get (xs ++ ys) k ≡ Some x
get_more [] ys k x h = cc
get_more (z ∷ xs) ys zero x h = h
get_more (z ∷ xs) ys (suc k) x h = get_more xs ys k x h

get_last : {A : Type 0} (xs : List A) (x : A) (k : ℕ) → length xs ≡ k → slice_get (xs ++ x ∷ []) k ≡ Some x
get_last [] x zero h = refl
get_last [] x (suc k) h = absurd (omega (arith, h))
get_last (y ∷ xs) x zero h = absurd (omega (arith, h))
get_last (y ∷ xs) x (suc k) h = get_last xs x k (omega (arith, h))

pub reason_more : (config : Config) (c d : List Cause) (w v r s : List Item) (k : ℕ) → Reason config c w r k → Reason config (c ++ d) (w ++ v) (r ++ s) k
reason_more config c d w v r s k (inl h) = inl (get_more c d k Asked h)
reason_more config c d w v r s k (inr (inl h)) = inr (inl (omega (arith, h, epoch_more k w v)))
reason_more config c d w v r s k (inr (inr (inl h))) = inr (inr (inl (omega (arith, h, epoch_more k r s))))
reason_more config c d w v r s k (inr (inr (inr h))) = inr (inr (inr (omega (arith, h, block_more k r s))))

reason_wrote : (config : Config) (c : List Cause) (w r : List Item) (i : Item) (k : ℕ) → Reason config c w r k → Reason config c (w ++ i ∷ []) r k
reason_wrote config c w r i k h = subst (λ x. Reason config x (w ++ i ∷ []) r k) (append-nil c) (subst (λ x. Reason config (c ++ []) (w ++ i ∷ []) x k) (append-nil r) (reason_more config c [] w (i ∷ []) r [] k h))

reason_read : (config : Config) (c : List Cause) (w r : List Item) (i : Item) (k : ℕ) → Reason config c w r k → Reason config c w (r ++ i ∷ []) k
reason_read config c w r i k h = subst (λ x. Reason config x w (r ++ i ∷ []) k) (append-nil c) (subst (λ x. Reason config (c ++ []) x (r ++ i ∷ []) k) (append-nil w) (reason_more config c [] w [] r (i ∷ []) k h))

reason_opened : (config : Config) (c : List Cause) (cause : Cause) (w r : List Item) (i : Item) (k : ℕ) → Reason config c w r k → Reason config (c ++ cause ∷ []) (w ++ i ∷ []) r k
reason_opened config c cause w r i k h = subst (λ x. Reason config (c ++ cause ∷ []) (w ++ i ∷ []) x k) (append-nil r) (reason_more config c (cause ∷ []) w (i ∷ []) r [] k h)

at_reasons : (config : Config) (c : List Cause) (w r : List Item) (m st' : SideState) → st' ≡ m → Reasons config c w r m → Reasons config c w r st'
at_reasons config c w r m st' e h = subst (λ s. Reasons config c w r s) (sym e) h

pub ends_open : (n : ℕ) (blk : List (List ℕ)) (w : List Item) → Ledger n blk w → has_newkeys blk ≡ false → epochs_ended w ≡ n
ends_open n blk w l h = l.ends_is ∙ (ap (λ b. n + (if b then 1 else 0)) h ∙ (let z : n + 0 ≡ n = omega arith in z))

out_in : (w : Where) (stage : Stage) → w ≡ Outside → w ≡ Inside stage → ⊥
out_in w stage e f = let k : Outside ≡ Inside stage = sym e ∙ f in cc

in_out : (stage : Stage) → Inside stage ≡ Outside → ⊥
in_out stage e = cc

out_in_at : (stage : Stage) → Outside ≡ Inside stage → ⊥
out_in_at stage e = cc

payload_bytes_in : (i : Item) → is_payload_type (type_of i) ≡ true → bytes_in i ≡ length i.payload
payload_bytes_in i h = ap (λ b. if b then length i.payload else 0) h

cap_more : (a b c l : ℕ) → c ≡ min a (2 ^ 64 - 1) → b ≡ a + l → min (c + l) (2 ^ 64 - 1) ≡ min b (2 ^ 64 - 1)
cap_more a b c l e f = omega (arith, e, f)

cap_zero : (n : ℕ) → n ≡ 0 → 0 ≡ capped n
cap_zero n e = omega (arith, e)

cap_below : (n : ℕ) → capped n ≤ n
cap_below n = omega arith

grown : (n : ℕ) (w : List Item) (i : Item) (count : ℕ) → epochs_ended w ≡ n → is_payload_type (type_of i) ≡ true → count ≡ capped (epoch_bytes n w) → count_after count (length i.payload) ≡ capped (epoch_bytes n (w ++ i ∷ []))
grown n w i count e p h =
    let at : epoch_bytes n (w ++ i ∷ []) ≡ epoch_bytes n w + bytes_in i = subst (λ q. epoch_bytes q (w ++ i ∷ []) ≡ epoch_bytes q w + bytes_in i) e (epoch_at w i (payload_plain i p)) in
    cap_more (epoch_bytes n w) (epoch_bytes n (w ++ i ∷ [])) count (length i.payload) h (omega (arith, at, payload_bytes_in i p))

next_at : (n : ℕ) (w : List Item) (i : Item) → epochs_ended w ≡ n → epoch_bytes (suc n) (w ++ i ∷ []) ≡ 0
next_at n w i e = subst (λ q. epoch_bytes (suc q) (w ++ i ∷ []) ≡ 0) e (epoch_next w i)

opens_reason : (config : Config) (c : List Cause) (w r : List Item) (st : SideState) (cause : Cause) (i : Item) → length c ≡ length st.records → (st.stands ≡ Silent → st.records ≡ []) → (st.stands ≡ Outside → (st.written ≡ capped (epoch_bytes (length st.records) w)) × (st.read ≡ capped (epoch_bytes (length st.records) r))) → MayBegin config st cause → 1 ≤ length st.records → Reason config (c ++ cause ∷ []) (w ++ i ∷ []) r (length st.records) ⊎ (Rattle.ssh_rules.specs.Machine.is_answering cause ≡ true)
opens_reason config c w r st Start i l z q h few = absurd (let e : length st.records ≡ 0 = ap length (z h.0) in omega (arith, e, few))
opens_reason config c w r st Asked i l z q h few = inl (inl (get_last c Asked (length st.records) l))
opens_reason config c w r st Answering i l z q h few = inr refl
opens_reason config c w r st WriteLimit i l z q h few = inl (inr (inl (let e = (q h.0).0 in omega (arith, e, h.1, cap_below (epoch_bytes (length st.records) w), epoch_more (length st.records) w (i ∷ [])))))
opens_reason config c w r st ReadLimit i l z q h few = inl (inr (inr (inl (let e = (q h.0).1 in omega (arith, e, h.1, cap_below (epoch_bytes (length st.records) r))))))

non_nil_snoc : {A : Type 0} (xs : List A) (x : A) → NonNil (xs ++ x ∷ [])
non_nil_snoc xs x = omega (arith, length-append xs (x ∷ []))

keep_now : (config : Config) (c c' : List Cause) (w w' r r' : List Item) (k : ℕ) (a b : Bool) → (Reason config c w r k → Reason config c' w' r' k) → a ≡ b → Reason config c w r k ⊎ (a ≡ true) → Reason config c' w' r' k ⊎ (b ≡ true)
keep_now config c c' w w' r r' k a b f e (inl h) = inl (f h)
keep_now config c c' w w' r r' k a b f e (inr h) = inr (sym e ∙ h)

pub reasons_step : (says : Says) (side : Side) (config : Config) (own_id : List ℕ) (c : List Cause) (w r : List Item) (st : SideState) (e : Event) (st' : SideState) (t : Trace) → Kept says side config own_id w r st t → NoDrops (e ∷ []) → Reasons config c w r st → Step says side config own_id st e st' → Reasons config (more_causes c e) (more_wrote w e) (more_kept r e) st'
reasons_step says side config own_id c w r st (IdHeard id) st' t k d q h = at_reasons config c w r _ st' h.becomes (record { causes_length = q.causes_length; counted = q.counted; next_own = q.next_own; reason = q.reason; reason_now = q.reason_now })
reasons_step says side config own_id c w r st (PayloadSubmitted p) st' t k d q h = at_reasons config c w r _ st' h.becomes (record { causes_length = q.causes_length; counted = q.counted; next_own = q.next_own; reason = q.reason; reason_now = q.reason_now })
reasons_step says side config own_id c w r st (ExchangeBegun cause i) st' t k d q h =
    let closed = closed_trace says side config own_id st t k.tidy.fits (may_closed config st cause h.may) in
    let at = ends_open (length st.records) t.own w k.accounts.own (ap has_newkeys closed.0) in
    let l : length c ≡ length st.records = omega (arith, q.causes_length, (may_open config st cause h.may).0) in
    at_reasons config (c ++ cause ∷ []) (w ++ i ∷ []) r _ st' h.becomes (record {
      causes_length = omega (arith, length-append c (cause ∷ []), l);
      counted = λ e. absurd (in_out (Created i.payload) e);
      next_own = λ stage e. next_at (length st.records) w i at;
      reason = λ j a b. reason_opened config c cause w r i j (q.reason j a b);
      reason_now = λ stage e few. opens_reason config c w r st cause i l k.accounts.silent q.counted h.may few;
    })
reasons_step says side config own_id c w r st (AnswerSent i z) st' t k d q h =
    let before : has_newkeys t.own ≡ false = k.tidy.own_ended ∙ (ap (Rattle.ssh_rules.proofs.side.Places.ended st.stands) h.owes ∙ open_with st.stands i.payload h.more) in
    let at = ends_open (length st.records) t.own w k.accounts.own before in
    at_reasons config c (w ++ i ∷ []) r _ st' h.becomes (record {
      causes_length = q.causes_length;
      counted = λ e. absurd (let g = subst (λ x. FitsWhere says (setting side config own_id st) x (t.own ++ st.owed) t.theirs) e k.tidy.fits in
          let l : length (t.own ++ st.owed) ≡ 0 = ap length g.own_is in let m : length st.owed ≡ suc (length h.more) = ap length h.owes in omega (arith, length-append t.own st.owed, l, m));
      next_own = λ stage e. next_at (length st.records) w i at;
      reason = λ j a b. reason_wrote config c w r i j (q.reason j a b);
      reason_now = λ stage e few. keep_now config c c w (w ++ i ∷ []) r r (length st.records) st.called st.called (reason_wrote config c w r i (length st.records)) refl (q.reason_now stage e few);
    })
reasons_step says side config own_id c w r st (PayloadSent i) st' t k d q h =
    let closed = closed_trace says side config own_id st t k.tidy.fits (inl h.outside) in
    let at = ends_open (length st.records) t.own w k.accounts.own (ap has_newkeys closed.0) in
    let p : is_payload_type (type_of i) ≡ true = (subst HeldOk h.holds k.tidy.held).0 in
    at_reasons config c (w ++ i ∷ []) r _ st' h.becomes (record {
      causes_length = q.causes_length;
      counted = λ e. (grown (length st.records) w i st.written at p (q.counted h.outside).0, (q.counted h.outside).1);
      next_own = λ stage e. absurd (out_in st.stands stage h.outside e);
      reason = λ j a b. reason_wrote config c w r i j (q.reason j a b);
      reason_now = λ stage e few. absurd (out_in st.stands stage h.outside e);
    })
reasons_step says side config own_id c w r st (MessageTaken i) st' t k d q h =
    let kex = takes_kex says (setting side config own_id st) h.stage (next_number st.reading.number) i.payload h.answers h.next h.takes in
    let led = ledger_message (length st.records) t.theirs r i k.accounts.theirs k.tidy.theirs_open kex.0 in
    at_reasons config c w (r ++ i ∷ []) _ st' h.becomes (record {
      causes_length = q.causes_length ∙ ap (λ s. length st.records + open_count s) h.inside;
      counted = λ e. absurd (in_out h.next e);
      next_own = λ stage e. q.next_own h.stage h.inside;
      reason = λ j a b. reason_read config c w r i j (q.reason j a b);
      reason_now = λ stage e few. inl (inr (inr (inr (subst (λ b. NonNil b) (sym led.block_is) (non_nil_snoc t.theirs i.payload)))));
    })
reasons_step says side config own_id c w r st (GuessDropped i) st' t k d q h =
    at_reasons config c w r _ st' h.becomes (record {
      causes_length = q.causes_length ∙ ap (λ s. length st.records + open_count s) h.inside;
      counted = λ e. absurd (in_out _ e);
      next_own = λ stage e. q.next_own h.stage h.inside;
      reason = q.reason;
      reason_now = λ stage e few. q.reason_now h.stage h.inside few;
    })
reasons_step says side config own_id c w r st (PayloadDelivered i) st' t k d q h =
    at_reasons config c w (r ++ i ∷ []) _ st' h.becomes (record {
      causes_length = q.causes_length;
      counted = λ e. (let closed = closed_trace says side config own_id st t k.tidy.fits (inl e) in
          let at = ends_open (length st.records) t.theirs r k.accounts.theirs (ap has_newkeys closed.1) in
          ((q.counted e).0, grown (length st.records) r i st.read at h.allowed (q.counted e).1));
      next_own = q.next_own;
      reason = λ j a b. reason_read config c w r i j (q.reason j a b);
      reason_now = λ stage e few. keep_now config c c w w r (r ++ i ∷ []) (length st.records) st.called st.called (reason_read config c w r i (length st.records)) refl (q.reason_now stage e few);
    })
reasons_step says side config own_id c w r st (PacketDropped i) st' t k d q h = absurd d
reasons_step says side config own_id c w r st (ExchangeFinished i x) st' t k d q h =
    let n : i.payload ≡ newkeys = finishes_kex says (AwaitsNewkeys h.exchange x h.host) i.payload x (h.payload_is, refl, h.trusted) in
    let kex : is_kex_type (type_of i) ≡ true = ap (λ p. is_kex_type (message_type p)) n in
    let led = ledger_message (length st.records) t.theirs r i k.accounts.theirs k.tidy.theirs_open kex in
    let at = ends_open (length st.records) t.theirs r k.accounts.theirs k.tidy.theirs_open in
    let up : length (st.records ++ x ∷ []) ≡ suc (length st.records) = omega (arith, length-append st.records (x ∷ [])) in
    let here : NonNil (exchange_block (length st.records) (r ++ i ∷ [])) = subst (λ b. NonNil b) (sym led.block_is) (non_nil_snoc t.theirs i.payload) in
    let o : open_count st.stands ≡ 1 = ap open_count h.inside in
    at_reasons config c w (r ++ i ∷ []) _ st' h.becomes (record {
      causes_length = omega (arith, q.causes_length, up, o);
      counted = λ e. (cap_zero _ (ap (λ m. epoch_bytes m w) up ∙ q.next_own (AwaitsNewkeys h.exchange x h.host) h.inside), cap_zero _ (ap (λ m. epoch_bytes m (r ++ i ∷ [])) up ∙ next_at (length st.records) r i at));
      next_own = λ stage e. absurd (out_in_at stage e);
      reason = λ j a b. older config c w r i (length st.records) j here (λ l. reason_read config c w r i j (q.reason j a l)) (omega (arith, b, up));
      reason_now = λ stage e few. absurd (out_in_at stage e);
    })
  where
    older : (config : Config) (c : List Cause) (w r : List Item) (i : Item) (n j : ℕ) → NonNil (exchange_block n (r ++ i ∷ [])) → (j < n → Reason config c w (r ++ i ∷ []) j) → j ≤ n → Reason config c w (r ++ i ∷ []) j
    older config c w r i n j here f l = elim (split j n l) [ inl e ↦ f e | inr e ↦ subst (λ m. Reason config c w (r ++ i ∷ []) m) (sym e) (inr (inr (inr here))) ] where
      split : (j n : ℕ) → j ≤ n → (j < n) ⊎ (j ≡ n)
      split zero zero l = inr refl
      split zero (suc n) l = inl (omega arith)
      split (suc j) zero l = absurd (omega (arith, l))
      split (suc j) (suc n) l = elim (split j n (omega (arith, l))) [ inl e ↦ inl (omega (arith, e)) | inr e ↦ inr (ap suc e) ]

pub reasons_first : (config : Config) → Reasons config [] [] [] first_state
reasons_first config = record { causes_length = refl; counted = λ e. absurd (silent_out e); next_own = λ stage e. refl; reason = λ k a b. absurd (omega (arith, b)); reason_now = λ stage e few. absurd (silent_in stage e) } where
  silent_out : Silent ≡ Outside → ⊥
  silent_out e = cc

  silent_in : (stage : Stage) → Silent ≡ Inside stage → ⊥
  silent_in stage e = cc

causes_on : (c : List Cause) (e : Event) (es : List Event) → more_causes c e ++ causes_in es ≡ c ++ causes_in (e ∷ es)
causes_on c (ExchangeBegun cause i) es = append_assoc c (cause ∷ []) (causes_in es)
causes_on c (IdHeard id) es = refl
causes_on c (PayloadSubmitted p) es = refl
causes_on c (AnswerSent i q) es = refl
causes_on c (PayloadSent i) es = refl
causes_on c (MessageTaken i) es = refl
causes_on c (GuessDropped i) es = refl
causes_on c (PayloadDelivered i) es = refl
causes_on c (PacketDropped i) es = refl
causes_on c (ExchangeFinished i x) es = refl

pub head_drops : (e : Event) (es : List Event) → NoDrops (e ∷ es) → NoDrops (e ∷ []) × NoDrops es
head_drops (ExchangeBegun cause i) es h = (tt, h)
head_drops (IdHeard id) es h = (tt, h)
head_drops (PayloadSubmitted p) es h = (tt, h)
head_drops (AnswerSent i q) es h = (tt, h)
head_drops (PayloadSent i) es h = (tt, h)
head_drops (MessageTaken i) es h = (tt, h)
head_drops (GuessDropped i) es h = (tt, h)
head_drops (PayloadDelivered i) es h = (tt, h)
head_drops (PacketDropped i) es h = absurd h
head_drops (ExchangeFinished i x) es h = (tt, h)

pub one_kept : (says : Says) (side : Side) (config : Config) (own_id : List ℕ) (w r : List Item) (st : SideState) (e : Event) (st' : SideState) (t : Trace) → Kept says side config own_id w r st t → Step says side config own_id st e st' → Kept says side config own_id (more_wrote w e) (more_kept r e) st' (trace_after t e)
one_kept says side config own_id w r st e st' t k h = record { tidy = Rattle.ssh_rules.proofs.side.LedgerSteps.tidy_step says side config own_id st e st' t k.tidy h; accounts = Rattle.ssh_rules.proofs.side.Accounts.accounts_step says side config own_id w r st e st' t k.tidy k.accounts h }

pub reasons_steps : (says : Says) (side : Side) (config : Config) (own_id : List ℕ) (log : List Event) (c : List Cause) (w r : List Item) (st st' : SideState) (t : Trace) → Kept says side config own_id w r st t → NoDrops log → Reasons config c w r st → Steps says side config own_id st log st' → Reasons config (c ++ causes_in log) (w ++ wrote log) (r ++ kept_in log) st'
reasons_steps says side config own_id [] c w r st st' t k d q h =
    subst (λ s. Reasons config (c ++ []) (w ++ []) (r ++ []) s) (sym h) (subst (λ v. Reasons config v (w ++ []) (r ++ []) st) (sym (append-nil c)) (subst (λ v. Reasons config c v (r ++ []) st) (sym (append-nil w)) (subst (λ v. Reasons config c w v st) (sym (append-nil r)) q)))
reasons_steps says side config own_id (e ∷ es) c w r st st' t k d q h =
    let dd = head_drops e es d in
    let next = reasons_steps says side config own_id es (more_causes c e) (more_wrote w e) (more_kept r e) h.0 st' (trace_after t e) (one_kept says side config own_id w r st e h.0 t k h.1) dd.1 (reasons_step says side config own_id c w r st e h.0 t k dd.0 q h.1) h.2 in
    subst (λ v. Reasons config v (w ++ wrote (e ∷ es)) (r ++ kept_in (e ∷ es)) st') (causes_on c e es)
    (subst (λ v. Reasons config (more_causes c e ++ causes_in es) v (r ++ kept_in (e ∷ es)) st') (Rattle.ssh_rules.proofs.side.Grammar.wrote_on w e es)
    (subst (λ v. Reasons config (more_causes c e ++ causes_in es) (more_wrote w e ++ wrote es) v st') (Rattle.ssh_rules.proofs.side.Accounts.kept_on r e es) next))

-- Of a whole run that ends with nothing called for: each exchange that was begun behind the first has its cause.
pub reasons_run : (says : Says) (side : Side) (config : Config) (own_id : List ℕ) (log : List Event) (st : SideState) → Steps says side config own_id first_state log st → NoDrops log → st.called ≡ false → (k : ℕ) → 1 ≤ k → k < begun st → Reason config (causes_in log) (wrote log) (kept_in log) k
reasons_run says side config own_id log st h d quiet k a b =
    let q = reasons_steps says side config own_id log [] [] [] first_state st no_trace (kept_first says side config own_id) d (reasons_first config) h in
    by_place st.stands refl q
  where
    differ : true ≡ false → ⊥
    differ e = cc

    split : (j n : ℕ) → j < n + 1 → (j < n) ⊎ (j ≡ n)
    split zero zero l = inr refl
    split zero (suc n) l = inl (omega arith)
    split (suc j) zero l = absurd (omega (arith, l))
    split (suc j) (suc n) l = elim (split j n (omega (arith, l))) [ inl e ↦ inl (omega (arith, e)) | inr e ↦ inr (ap suc e) ]

    now : (q : Reasons config (causes_in log) (wrote log) (kept_in log) st) (n : ℕ) → n ≡ length st.records → k ≡ n → Reason config (causes_in log) (wrote log) (kept_in log) (length st.records) ⊎ (st.called ≡ true) → Reason config (causes_in log) (wrote log) (kept_in log) k
    now q n e f (inl z) = subst (λ m. Reason config (causes_in log) (wrote log) (kept_in log) m) (sym (f ∙ e)) z
    now q n e f (inr z) = absurd (differ (sym z ∙ quiet))

    by_place : (s : Where) → st.stands ≡ s → Reasons config (causes_in log) (wrote log) (kept_in log) st → Reason config (causes_in log) (wrote log) (kept_in log) k
    by_place Silent e q = q.reason k a (let o : open_count st.stands ≡ 0 = ap open_count e in omega (arith, b, o))
    by_place Outside e q = q.reason k a (let o : open_count st.stands ≡ 0 = ap open_count e in omega (arith, b, o))
    by_place (Inside stage) e q = elim (split k (length st.records) (let o : open_count st.stands ≡ 1 = ap open_count e in omega (arith, b, o))) [
      | inl l ↦ q.reason k a l
      | inr f ↦ now q (length st.records) refl f (q.reason_now stage e (omega (arith, f, a)))
    ]
