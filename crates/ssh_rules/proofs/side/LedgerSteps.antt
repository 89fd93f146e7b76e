-- What is true of one side alone: ledgers of both directions, and of what each record was made.
use Rattle.std.proofs.Common.{◌≡◌, ℕ, suc, ◌+◌, List, [], ◌∷◌, ◌++◌, refl, sym, ◌∙◌, ap, subst, arith, Bool, true, false, if◌then◌else◌, ◌==◌, ◌||◌, ◌&&◌, nat_le, ◌⊎◌, inl, inr}
use Rattle.std.proofs.lemmas.Bool.Decides.{nat_tests}
use Rattle.ssh_packet.specs.Sealing.{Item, next_number}
use Rattle.ssh_packet.specs.Stream.{is_newkeys, message_type}
use Rattle.ssh_wire.specs.declared.side.Side.{Side}
use Rattle.ssh_wire.specs.declared.side.Side.TheVariants.{Client, Server}
use Rattle.ssh_kex.specs.Stages as stages
use Rattle.ssh_kex.specs.declared.config.Config.{Config}
use Rattle.ssh_kex.specs.declared.exchange.FinishedExchange.{FinishedExchange}
use Rattle.ssh_kex.specs.Messages.{is_gex, newkeys, reply_message, value_message}
use Rattle.ssh_kex.specs.Setting.{Says, Setting, Opened}
use Rattle.ssh_kex.specs.Stages.{Stage, Created, AwaitsGroup, AwaitsReply, AwaitsRequest, AwaitsValue, AwaitsNewkeys}
use Rattle.ssh_rules.specs.MessageTypes.{type_of, is_kex_type, is_payload_type}
use Rattle.ssh_rules.specs.Wire.{exchange_block, epochs_ended}
use Rattle.ssh_rules.specs.Machine.{Where, Silent, Outside, Inside, SideState, setting, Cause, Start, Asked, Answering, WriteLimit, ReadLimit, MayBegin, Event, IdHeard, PayloadSubmitted, ExchangeBegun, AnswerSent, PayloadSent, MessageTaken, GuessDropped, PayloadDelivered, PacketDropped, ExchangeFinished, Step, first_state, writes, reads}
use Rattle.ssh_rules.proofs.side.StageFits.{Trace, no_trace, trace_after, Fits, FitsWhere}
use Rattle.ssh_rules.proofs.side.Ledgers.{has_newkeys, Ledger}
use Rattle.ssh_rules.proofs.side.Places.{ended, OwedOk, owed_step, takes_row, open_with, open_takes, open_drops, kexinit_plain, is_plain, HeldOk, held_step}
use Rattle.ssh_rules.proofs.side.StageSteps.{fits_step}
use Rattle.ssh_rules.proofs.side.Blocks.{block_at, block_other, block_above, block_behind, ends_snoc_newkeys, ends_snoc_plain}
use Rattle.ssh_rules.proofs.side.Ending.{LastIn}

choice : (b : Bool) → (b ≡ true) ⊎ (b ≡ false)
choice true = inl refl
choice false = inr refl

pub has_snoc : (xs : List (List ℕ)) (p : List ℕ) → has_newkeys xs ≡ false → has_newkeys (xs ++ p ∷ []) ≡ (message_type p == 21)
has_snoc [] p h = or_false (message_type p == 21) where
  or_false : (b : Bool) → (b || false) ≡ b
  or_false true = refl
  or_false false = refl
has_snoc (x ∷ xs) p h = step (message_type x == 21) h (λ k. has_snoc xs p k) where
  step : (b : Bool) → (b || has_newkeys xs) ≡ false → (has_newkeys xs ≡ false → has_newkeys (xs ++ p ∷ []) ≡ (message_type p == 21)) → (b || has_newkeys (xs ++ p ∷ [])) ≡ (message_type p == 21)
  step true h k = cc
  step false h k = k h

pub ledger_message : (n : ℕ) (blk : List (List ℕ)) (w : List Item) (i : Item) → Ledger n blk w → has_newkeys blk ≡ false → is_kex_type (type_of i) ≡ true → Ledger n (blk ++ i.payload ∷ []) (w ++ i ∷ [])
ledger_message n blk w i l few k =
    let at : epochs_ended w ≡ n = l.ends_is ∙ (ap (λ b. n + (if b then 1 else 0)) few ∙ (let z : n + 0 ≡ n = omega arith in z)) in
    let third : has_newkeys (blk ++ i.payload ∷ []) ≡ is_newkeys i = has_snoc blk i.payload few in
    let here : exchange_block n (w ++ i ∷ []) ≡ exchange_block n w ++ i.payload ∷ [] = subst (λ k. exchange_block k (w ++ i ∷ []) ≡ exchange_block k w ++ i.payload ∷ []) at (block_at w i k) in
    record {
      ends_is = elim (choice (is_newkeys i)) [
        | inl t ↦ ends_snoc_newkeys w i t ∙ (ap (λ k. k + 1) at ∙ ap (λ b. n + (if b then 1 else 0)) (sym (third ∙ t)))
        | inr f ↦ ends_snoc_plain w i f ∙ (at ∙ ((let z : n ≡ n + 0 = omega arith in z) ∙ ap (λ b. n + (if b then 1 else 0)) (sym (third ∙ f))))
      ];
      block_is = here ∙ ap (λ b. b ++ i.payload ∷ []) l.block_is;
      next_is = elim (choice (is_newkeys i)) [
        | inl t ↦ subst (λ k. exchange_block (suc k) (w ++ i ∷ []) ≡ []) at (block_behind w i t)
        | inr f ↦ block_above (suc n) (w ++ i ∷ []) (omega (arith, ends_snoc_plain w i f, at))
      ];
    }

not_kex_plain : (t : ℕ) → is_kex_type t ≡ false → (t == 21) ≡ false
not_kex_plain t h = grind (arith, nat_tests)

pub ledger_other : (n : ℕ) (blk : List (List ℕ)) (w : List Item) (i : Item) → Ledger n blk w → is_kex_type (type_of i) ≡ false → Ledger n blk (w ++ i ∷ [])
ledger_other n blk w i l h = record {
  ends_is = ends_snoc_plain w i (not_kex_plain (type_of i) h) ∙ l.ends_is;
  block_is = block_other n w i h ∙ l.block_is;
  next_is = block_other (suc n) w i h ∙ l.next_is;
}

pub ledger_record : (n : ℕ) (blk : List (List ℕ)) (w : List Item) (m : ℕ) → m ≡ n + 1 → Ledger n blk w → has_newkeys blk ≡ true → Ledger m [] w
ledger_record n blk w m e l h =
    let up : epochs_ended w ≡ n + 1 = l.ends_is ∙ ap (λ b. n + (if b then 1 else 0)) h in
    let s : suc n ≡ m = omega (arith, e) in
    record {
      ends_is = omega (arith, up, e);
      block_is = subst (λ k. exchange_block k w ≡ []) s l.next_is;
      next_is = block_above (suc m) w (omega (arith, up, e));
    }

pub payload_not_kex : (t : ℕ) → is_payload_type t ≡ true → is_kex_type t ≡ false
payload_not_kex t h = grind (arith, nat_tests)

pub drop_not_kex : (t : ℕ) → (nat_le 2 t && nat_le t 4) ≡ true → is_kex_type t ≡ false
drop_not_kex t h = grind (arith, nat_tests)

abbrev pub AllKex : List (List ℕ) → Type 0
AllKex [] = Unit {0}
AllKex (p ∷ r) = (is_kex_type (message_type p) ≡ true) × AllKex r

at_lists : (written w0 : List (List ℕ)) → written ≡ w0 → AllKex w0 → AllKex written
at_lists written w0 e h = subst AllKex (sym e) h

value_kex : (kind : Bool) (a : List ℕ) → (is_kex_type (message_type (value_message kind a)) ≡ true) × (is_plain (value_message kind a))
value_kex true a = (refl, refl)
value_kex false a = (refl, refl)

reply_kex : (kind : Bool) (a b c : List ℕ) → (is_kex_type (message_type (reply_message kind a b c)) ≡ true) × (is_plain (reply_message kind a b c))
reply_kex true a b c = (refl, refl)
reply_kex false a b c = (refl, refl)

opens_kex : (says : Says) (s : Setting) (o : Opened) (side : Side) (kind : Bool) (written : List (List ℕ)) (next : Stage) → stages.OpensBy side kind says s o written next → AllKex written
opens_kex says s o Client true written next h = at_lists written _ h.written_is (refl, tt)
opens_kex says s o Client false written next h = at_lists written _ h.leads.written_is (refl, tt)
opens_kex says s o Server true written next h = at_lists written _ h.written_is tt
opens_kex says s o Server false written next h = at_lists written _ h.written_is tt

pub takes_owes_kex : (says : Says) (s : Setting) (stage : Stage) (seqn : ℕ) (payload : List ℕ) (written : List (List ℕ)) (next : Stage) → stages.Takes says s stage seqn payload written next → AllKex written
takes_owes_kex says s (Created k) seqn payload written next h = opens_kex says s (record { names = h.names; own_kexinit = k; peer_kexinit = payload }) s.side (is_gex h.names.kex) written next h.opens
takes_owes_kex says s (AwaitsGroup o) seqn payload written next h = at_lists written _ h.leads.written_is (refl, tt)
takes_owes_kex says s (AwaitsReply o g l p) seqn payload written next h = at_lists written _ h.leads.written_is (refl, tt)
takes_owes_kex says s (AwaitsRequest o) seqn payload written next h = at_lists written _ h.leads.written_is (refl, tt)
takes_owes_kex says s (AwaitsValue o g) seqn payload written next h = at_lists written _ h.leads.written_is ((reply_kex (is_gex o.names.kex) h.shown.blob h.own_value h.signature).0, (refl, tt))
takes_owes_kex says s (AwaitsNewkeys exchange x host) seqn payload written next h = absurd h

kex_at : (payload p : List ℕ) → payload ≡ p → (is_kex_type (message_type p) ≡ true) × is_plain p → (is_kex_type (message_type payload) ≡ true) × is_plain payload
kex_at payload p e h = subst (λ q. (is_kex_type (message_type q) ≡ true) × is_plain q) (sym e) h

-- a message that is taken is one of an exchange, and no NEWKEYS
pub takes_kex : (says : Says) (s : Setting) (stage : Stage) (seqn : ℕ) (payload : List ℕ) (written : List (List ℕ)) (next : Stage) → stages.Takes says s stage seqn payload written next → (is_kex_type (message_type payload) ≡ true) × is_plain payload
takes_kex says s (Created k) seqn payload written next h = (ap is_kex_type h.reads.is_kexinit, ap (λ t. t == 21) h.reads.is_kexinit)
takes_kex says s (AwaitsGroup o) seqn payload written next h = kex_at payload _ h.payload_is (refl, refl)
takes_kex says s (AwaitsReply o g l p) seqn payload written next h = kex_at payload _ h.payload_is (reply_kex (is_gex o.names.kex) h.host h.value h.signature)
takes_kex says s (AwaitsRequest o) seqn payload written next h = kex_at payload _ h.payload_is (refl, refl)
takes_kex says s (AwaitsValue o g) seqn payload written next h = kex_at payload _ h.payload_is (value_kex (is_gex o.names.kex) h.value)
takes_kex says s (AwaitsNewkeys exchange x host) seqn payload written next h = absurd h

pub finishes_kex : (says : Says) (stage : Stage) (payload : List ℕ) (x : FinishedExchange) → LastIn says stage payload x → payload ≡ newkeys
finishes_kex says (AwaitsNewkeys exchange made host) payload x h = h.0
finishes_kex says (Created own) payload x h = absurd h
finishes_kex says (AwaitsGroup o) payload x h = absurd h
finishes_kex says (AwaitsReply o g l p) payload x h = absurd h
finishes_kex says (AwaitsRequest o) payload x h = absurd h
finishes_kex says (AwaitsValue o g) payload x h = absurd h

pub finishes_ended : (says : Says) (stage : Stage) (payload : List ℕ) (x : FinishedExchange) → LastIn says stage payload x → ended (Inside stage) [] ≡ true
finishes_ended says (AwaitsNewkeys exchange made host) payload x h = refl
finishes_ended says (Created own) payload x h = absurd h
finishes_ended says (AwaitsGroup o) payload x h = absurd h
finishes_ended says (AwaitsReply o g l p) payload x h = absurd h
finishes_ended says (AwaitsRequest o) payload x h = absurd h
finishes_ended says (AwaitsValue o g) payload x h = absurd h

-- ---- what each event keeps

pub record Tidy (says : Says) (side : Side) (config : Config) (own_id : List ℕ) (st : SideState) (t : Trace) : Type 0 where
  pub fits : Fits says side config own_id st t
  pub owed : OwedOk st.stands st.owed
  pub owed_kex : AllKex st.owed
  pub held : HeldOk st.held
  pub own_ended : has_newkeys t.own ≡ ended st.stands st.owed
  pub theirs_open : has_newkeys t.theirs ≡ false

nil_left : (a b : List (List ℕ)) → a ++ b ≡ [] → a ≡ []
nil_left [] b e = refl
nil_left (x ∷ a) b e = cc

-- where no exchange is open, no message is there
pub closed_trace : (says : Says) (side : Side) (config : Config) (own_id : List ℕ) (st : SideState) (t : Trace) → Fits says side config own_id st t → (st.stands ≡ Outside) ⊎ (st.stands ≡ Silent) → (t.own ≡ []) × (t.theirs ≡ [])
closed_trace says side config own_id st t f (inl e) =
    let g = subst (λ w. FitsWhere says (setting side config own_id st) w (t.own ++ st.owed) t.theirs) e f in
    (nil_left t.own st.owed g.own_is, g.theirs_is)
closed_trace says side config own_id st t f (inr e) =
    let g = subst (λ w. FitsWhere says (setting side config own_id st) w (t.own ++ st.owed) t.theirs) e f in
    (nil_left t.own st.owed g.own_is, g.theirs_is)

pub may_closed : (config : Config) (st : SideState) (cause : Cause) → MayBegin config st cause → (st.stands ≡ Outside) ⊎ (st.stands ≡ Silent)
may_closed config st Start h = inr h.0
may_closed config st Asked h = inl h
may_closed config st Answering h = inl h
may_closed config st WriteLimit h = inl h.0
may_closed config st ReadLimit h = inl h.0

kex_tail : (owed : List (List ℕ)) (p : List ℕ) (more : List (List ℕ)) → owed ≡ p ∷ more → AllKex owed → (is_kex_type (message_type p) ≡ true) × AllKex more
kex_tail owed p more e h = subst AllKex e h

-- behind one more own message
pub ended_now : (w : Where) (p : List ℕ) (more : List (List ℕ)) → OwedOk w (p ∷ more) → (message_type p == 21) ≡ ended w more
ended_now Silent p more h = h.0
ended_now Outside p more h = h.0
ended_now (Inside (Created k)) p more h = h.0
ended_now (Inside (AwaitsGroup o)) p more h = h.0
ended_now (Inside (AwaitsReply o g l q)) p more h = h.0
ended_now (Inside (AwaitsRequest o)) p more h = h.0
ended_now (Inside (AwaitsValue o g)) p more h = h.0
ended_now (Inside (AwaitsNewkeys exchange x host)) p [] h = ap (λ q. message_type q == 21) h
ended_now (Inside (AwaitsNewkeys exchange x host)) p (q ∷ more) h = h.0

with_tidy : (says : Says) (side : Side) (config : Config) (own_id : List ℕ) (st m st' : SideState) (t : Trace) → st' ≡ m → Fits says side config own_id st' t → OwedOk st'.stands st'.owed → HeldOk st'.held → AllKex m.owed → has_newkeys t.own ≡ ended m.stands m.owed → has_newkeys t.theirs ≡ false → Tidy says side config own_id st' t
with_tidy says side config own_id st m st' t e f o h k n th = record {
  fits = f;
  owed = o;
  held = h;
  owed_kex = subst (λ (s : SideState). AllKex s.owed) (sym e) k;
  own_ended = subst (λ (s : SideState). has_newkeys t.own ≡ ended s.stands s.owed) (sym e) n;
  theirs_open = th;
}

pub tidy_step : (says : Says) (side : Side) (config : Config) (own_id : List ℕ) (st : SideState) (e : Event) (st' : SideState) (t : Trace) → Tidy says side config own_id st t → Step says side config own_id st e st' → Tidy says side config own_id st' (trace_after t e)
tidy_step says side config own_id st (IdHeard id) st' t y h = with_tidy says side config own_id st _ st' t h.becomes (fits_step says side config own_id st (IdHeard id) st' t y.fits h) (owed_step says side config own_id st (IdHeard id) st' y.owed h) (held_step says side config own_id st (IdHeard id) st' y.held h) y.owed_kex y.own_ended y.theirs_open
tidy_step says side config own_id st (PayloadSubmitted p) st' t y h = with_tidy says side config own_id st _ st' t h.becomes (fits_step says side config own_id st (PayloadSubmitted p) st' t y.fits h) (owed_step says side config own_id st (PayloadSubmitted p) st' y.owed h) (held_step says side config own_id st (PayloadSubmitted p) st' y.held h) y.owed_kex y.own_ended y.theirs_open
tidy_step says side config own_id st (ExchangeBegun cause i) st' t y h = with_tidy says side config own_id st (record (writes st i) { stands = Inside (Created i.payload); called = Rattle.ssh_rules.specs.Machine.is_answering cause }) st' (record { own = i.payload ∷ []; theirs = [] }) h.becomes (fits_step says side config own_id st (ExchangeBegun cause i) st' t y.fits h) (owed_step says side config own_id st (ExchangeBegun cause i) st' y.owed h) (held_step says side config own_id st (ExchangeBegun cause i) st' y.held h) y.owed_kex (ap (λ b. b || false) (kexinit_plain side config h.cookie i h.payload_is)) refl
tidy_step says side config own_id st (AnswerSent i r) st' t y h =
    let k = kex_tail st.owed i.payload h.more h.owes y.owed_kex in
    let before : has_newkeys t.own ≡ false = y.own_ended ∙ (ap (ended st.stands) h.owes ∙ open_with st.stands i.payload h.more) in
    with_tidy says side config own_id st _ st' (trace_after t (AnswerSent i r)) h.becomes (fits_step says side config own_id st (AnswerSent i r) st' t y.fits h) (owed_step says side config own_id st (AnswerSent i r) st' y.owed h) (held_step says side config own_id st (AnswerSent i r) st' y.held h) k.1
    (has_snoc t.own i.payload before ∙ ended_now st.stands i.payload h.more (subst (OwedOk st.stands) h.owes y.owed)) y.theirs_open
tidy_step says side config own_id st (PayloadSent i) st' t y h = with_tidy says side config own_id st _ st' t h.becomes (fits_step says side config own_id st (PayloadSent i) st' t y.fits h) (owed_step says side config own_id st (PayloadSent i) st' y.owed h) (held_step says side config own_id st (PayloadSent i) st' y.held h) y.owed_kex y.own_ended y.theirs_open
tidy_step says side config own_id st (MessageTaken i) st' t y h =
    let s = setting side config own_id st in
    let before : has_newkeys t.own ≡ false = y.own_ended ∙ (ap (λ w. ended w st.owed) h.inside ∙ open_takes says s h.stage (next_number st.reading.number) i.payload h.answers h.next st.owed h.takes) in
    let k = takes_kex says s h.stage (next_number st.reading.number) i.payload h.answers h.next h.takes in
    with_tidy says side config own_id st (record (reads st i) { stands = Inside h.next; called = false; owed = h.answers }) st' (trace_after t (MessageTaken i)) h.becomes (fits_step says side config own_id st (MessageTaken i) st' t y.fits h) (owed_step says side config own_id st (MessageTaken i) st' y.owed h) (held_step says side config own_id st (MessageTaken i) st' y.held h) (takes_owes_kex says s h.stage (next_number st.reading.number) i.payload h.answers h.next h.takes)
    (before ∙ sym (takes_row says s h.stage (next_number st.reading.number) i.payload h.answers h.next h.takes).open_yet) (has_snoc t.theirs i.payload y.theirs_open ∙ k.1)
tidy_step says side config own_id st (GuessDropped i) st' t y h =
    let d = open_drops h.stage st.owed h.drops in
    with_tidy says side config own_id st (record (reads st i) { stands = Inside (Rattle.ssh_kex.specs.Stages.guess_dropped h.stage) }) st' t h.becomes (fits_step says side config own_id st (GuessDropped i) st' t y.fits h) (owed_step says side config own_id st (GuessDropped i) st' y.owed h) (held_step says side config own_id st (GuessDropped i) st' y.held h) y.owed_kex
    (y.own_ended ∙ (ap (λ w. ended w st.owed) h.inside ∙ (d.0 ∙ sym d.1))) y.theirs_open
tidy_step says side config own_id st (PayloadDelivered i) st' t y h = with_tidy says side config own_id st _ st' t h.becomes (fits_step says side config own_id st (PayloadDelivered i) st' t y.fits h) (owed_step says side config own_id st (PayloadDelivered i) st' y.owed h) (held_step says side config own_id st (PayloadDelivered i) st' y.held h) y.owed_kex y.own_ended y.theirs_open
tidy_step says side config own_id st (PacketDropped i) st' t y h = with_tidy says side config own_id st _ st' t h.becomes (fits_step says side config own_id st (PacketDropped i) st' t y.fits h) (owed_step says side config own_id st (PacketDropped i) st' y.owed h) (held_step says side config own_id st (PacketDropped i) st' y.held h) y.owed_kex y.own_ended y.theirs_open
tidy_step says side config own_id st (ExchangeFinished i x) st' t y h =
    record {
      fits = fits_step says side config own_id st (ExchangeFinished i x) st' t y.fits h;
      owed = owed_step says side config own_id st (ExchangeFinished i x) st' y.owed h;
      held = held_step says side config own_id st (ExchangeFinished i x) st' y.held h;
      owed_kex = subst (λ (s : SideState). AllKex s.owed) (sym h.becomes) y.owed_kex;
      own_ended = subst (λ (s : SideState). false ≡ ended s.stands s.owed) (sym h.becomes) refl;
      theirs_open = refl;
    }

pub tidy_first : (says : Says) (side : Side) (config : Config) (own_id : List ℕ) → Tidy says side config own_id first_state no_trace
tidy_first says side config own_id = record { fits = record { own_is = refl; theirs_is = refl }; owed = tt; owed_kex = tt; held = tt; own_ended = refl; theirs_open = refl }
