-- A side's state counts what stands in its packets: begun exchanges are KEXINITs, and bytes are those of the last
-- epoch.
use Rattle.std.proofs.Common.{◌≡◌, ℕ, suc, ◌+◌, ◌≤◌, List, [], ◌∷◌, ◌++◌, length, refl, sym, ◌∙◌, ap, subst, arith, Option, Some, None, Bool, true, false, ◌==◌, ◌⊎◌, inl, inr, length-append, append-nil, nat_le, ◌&&◌}
use Rattle.std.specs.Prelude.{IsSome}
use Rattle.std.proofs.lemmas.Bool.Decides.{nat_tests}
use Rattle.ssh_packet.specs.Sealing.{Item, next_number}
use Rattle.ssh_packet.specs.Stream.{is_newkeys, message_type}
use Rattle.ssh_packet.specs.Writing.{count_after}
use Rattle.ssh_wire.specs.declared.side.Side.{Side}
use Rattle.ssh_wire.specs.declared.side.Side.TheVariants.{Client, Server}
use Rattle.ssh_kex.specs.Stages as stages
use Rattle.ssh_kex.specs.declared.config.Config.{Config}
use Rattle.ssh_kex.specs.declared.exchange.FinishedExchange.{FinishedExchange}
use Rattle.ssh_kex.specs.Messages.{is_gex, reply_message, value_message}
use Rattle.ssh_kex.specs.Setting.{Says, Setting, Opened}
use Rattle.ssh_kex.specs.Stages.{Stage, Created, AwaitsGroup, AwaitsReply, AwaitsRequest, AwaitsValue, AwaitsNewkeys, guess_dropped}
use Rattle.ssh_rules.specs.MessageTypes.{type_of, is_payload_type}
use Rattle.ssh_rules.specs.Marks.{epoch, payload_bytes, kexinits}
use Rattle.ssh_rules.specs.Counting.{begun, open_count}
use Rattle.ssh_rules.specs.Machine.{Where, Silent, Outside, Inside, SideState, setting, Cause, Start, Asked, Answering, WriteLimit, ReadLimit, MayBegin, Event, IdHeard, PayloadSubmitted, ExchangeBegun, AnswerSent, PayloadSent, MessageTaken, GuessDropped, PayloadDelivered, PacketDropped, ExchangeFinished, Step, Steps, first_state}
use Rattle.ssh_rules.proofs.side.StageFits.{Trace, no_trace, trace_after, FitsWhere}
use Rattle.ssh_rules.specs.Log.{wrote, kept_in}
use Rattle.ssh_rules.proofs.side.Left.{may_open}
use Rattle.ssh_rules.proofs.side.Places.{HeldOk, OwedOk, ended, open_drops, takes_row, payload_plain, drop_plain, finished_last}
use Rattle.ssh_rules.proofs.side.LedgerSteps.{Tidy, tidy_step, tidy_first, ended_now, finishes_ended}
use Rattle.ssh_rules.proofs.side.Accounts.{more_wrote, more_kept, kept_on}
use Rattle.ssh_rules.proofs.side.Grammar.{wrote_on, kexinit_item}
use Rattle.ssh_rules.proofs.side.ReasonSteps.{capped}
use Rattle.ssh_rules.proofs.side.Tally.{kexinits_one, kexinits_none, bytes_grown, bytes_ended, epoch_ended}
use Rattle.ssh_rules.proofs.side.Ending.{LastIn}

-- how many KEXINITs of the open exchange were read
abbrev pub read_open : Where → ℕ
read_open Silent = 0
read_open Outside = 0
read_open (Inside (Created own)) = 0
read_open (Inside (AwaitsGroup o)) = 1
read_open (Inside (AwaitsReply o group local public)) = 1
read_open (Inside (AwaitsRequest o)) = 1
read_open (Inside (AwaitsValue o group)) = 1
read_open (Inside (AwaitsNewkeys exchange made host)) = 1

abbrev pub NoKexinits : List (List ℕ) → Type 0
NoKexinits [] = Unit {0}
NoKexinits (p ∷ r) = ((message_type p == 20) ≡ false) × NoKexinits r

pub record Tally (w r : List Item) (st : SideState) : Type 0 where
  pub owed : NoKexinits st.owed
  pub own : kexinits w ≡ begun st
  pub theirs : kexinits r ≡ length st.records + read_open st.stands
  pub some : st.stands ≡ Outside → 1 ≤ length st.records
  pub unheard : st.heard ≡ None → st.stands ≡ Silent
  pub closed : ended st.stands st.owed ≡ true → epoch w ≡ []
  pub written : st.stands ≡ Outside → st.written ≡ capped (payload_bytes (epoch w))
  pub read : st.stands ≡ Outside → st.read ≡ capped (payload_bytes (epoch r))

-- ---- messages by their types

reply_other : (kind : Bool) (a b c : List ℕ) → (message_type (reply_message kind a b c) == 20) ≡ false
reply_other true a b c = refl
reply_other false a b c = refl

value_other : (kind : Bool) (a : List ℕ) → (message_type (value_message kind a) == 20) ≡ false
value_other true a = refl
value_other false a = refl

-- a row owes no KEXINIT, and reads one where the stage is the first
record Row (stage next : Stage) (payload : List ℕ) (written : List (List ℕ)) : Type 0 where
  pub owed : NoKexinits written
  pub read : (((message_type payload == 20) ≡ true) × (read_open (Inside stage) ≡ 0) × (read_open (Inside next) ≡ 1)) ⊎ (((message_type payload == 20) ≡ false) × (read_open (Inside stage) ≡ 1) × (read_open (Inside next) ≡ 1))

opens_row : (says : Says) (s : Setting) (own payload : List ℕ) (o : Opened) (side : Side) (kind : Bool) (written : List (List ℕ)) (next : Stage) → message_type payload ≡ 20 → stages.OpensBy side kind says s o written next → Row (Created own) next payload written
opens_row says s own payload o Client true written next e h = record { owed = subst NoKexinits (sym h.written_is) (refl, tt); read = inl (ap (λ t. t == 20) e, refl, ap (λ n. read_open (Inside n)) h.next_is) }
opens_row says s own payload o Client false written next e h = record { owed = subst NoKexinits (sym h.leads.written_is) (refl, tt); read = inl (ap (λ t. t == 20) e, refl, ap (λ n. read_open (Inside n)) h.leads.next_is) }
opens_row says s own payload o Server true written next e h = record { owed = subst NoKexinits (sym h.written_is) tt; read = inl (ap (λ t. t == 20) e, refl, ap (λ n. read_open (Inside n)) h.next_is) }
opens_row says s own payload o Server false written next e h = record { owed = subst NoKexinits (sym h.written_is) tt; read = inl (ap (λ t. t == 20) e, refl, ap (λ n. read_open (Inside n)) h.next_is) }

is_type : (payload p : List ℕ) → payload ≡ p → (message_type p == 20) ≡ false → (message_type payload == 20) ≡ false
is_type payload p e h = ap (λ q. message_type q == 20) e ∙ h

row : (says : Says) (s : Setting) (stage : Stage) (seqn : ℕ) (payload : List ℕ) (written : List (List ℕ)) (next : Stage) → stages.Takes says s stage seqn payload written next → Row stage next payload written
row says s (Created k) seqn payload written next h = opens_row says s k payload (record { names = h.names; own_kexinit = k; peer_kexinit = payload }) s.side (is_gex h.names.kex) written next h.reads.is_kexinit h.opens
row says s (AwaitsGroup o) seqn payload written next h = record { owed = subst NoKexinits (sym h.leads.written_is) (refl, tt); read = inr (is_type payload _ h.payload_is refl, refl, ap (λ n. read_open (Inside n)) h.leads.next_is) }
row says s (AwaitsReply o g l p) seqn payload written next h = record { owed = subst NoKexinits (sym h.leads.written_is) (refl, tt); read = inr (is_type payload _ h.payload_is (reply_other (is_gex o.names.kex) h.host h.value h.signature), refl, ap (λ n. read_open (Inside n)) h.leads.next_is) }
row says s (AwaitsRequest o) seqn payload written next h = record { owed = subst NoKexinits (sym h.leads.written_is) (refl, tt); read = inr (is_type payload _ h.payload_is refl, refl, ap (λ n. read_open (Inside n)) h.leads.next_is) }
row says s (AwaitsValue o g) seqn payload written next h = record { owed = subst NoKexinits (sym h.leads.written_is) (reply_other (is_gex o.names.kex) h.shown.blob h.own_value h.signature, (refl, tt)); read = inr (is_type payload _ h.payload_is (value_other (is_gex o.names.kex) h.value), refl, ap (λ n. read_open (Inside n)) h.leads.next_is) }
row says s (AwaitsNewkeys exchange x host) seqn payload written next h = absurd h

finishes_read : (says : Says) (stage : Stage) (payload : List ℕ) (x : FinishedExchange) → LastIn says stage payload x → read_open (Inside stage) ≡ 1
finishes_read says (AwaitsNewkeys exchange made host) payload x h = refl
finishes_read says (Created own) payload x h = absurd h
finishes_read says (AwaitsGroup o) payload x h = absurd h
finishes_read says (AwaitsReply o g l p) payload x h = absurd h
finishes_read says (AwaitsRequest o) payload x h = absurd h
finishes_read says (AwaitsValue o g) payload x h = absurd h

dropped_read : (stage : Stage) → read_open (Inside (guess_dropped stage)) ≡ read_open (Inside stage)
dropped_read (Created own) = refl
dropped_read (AwaitsGroup o) = refl
dropped_read (AwaitsReply o g l p) = refl
dropped_read (AwaitsRequest o) = refl
dropped_read (AwaitsValue o g) = refl
dropped_read (AwaitsNewkeys exchange made host) = refl

payload_other : (i : Item) → is_payload_type (type_of i) ≡ true → (type_of i == 20) ≡ false
payload_other i h = by_type (type_of i) h where
  by_type : (t : ℕ) → is_payload_type t ≡ true → (t == 20) ≡ false
  by_type t h = grind (arith, nat_tests)

drop_other : (i : Item) → (nat_le 2 (type_of i) && nat_le (type_of i) 4) ≡ true → (type_of i == 20) ≡ false
drop_other i h = by_type (type_of i) h where
  by_type : (t : ℕ) → (nat_le 2 t && nat_le t 4) ≡ true → (t == 20) ≡ false
  by_type t h = grind (arith, nat_tests)

newkeys_other : (i : Item) → is_newkeys i ≡ true → (type_of i == 20) ≡ false
newkeys_other i h = by_type (type_of i) h where
  by_type : (t : ℕ) → (t == 21) ≡ true → (t == 20) ≡ false
  by_type t h = grind (arith, nat_tests)

-- ---- places

silent_out : Silent ≡ Outside → ⊥
silent_out e = cc

in_out : (stage : Stage) → Inside stage ≡ Outside → ⊥
in_out stage e = cc

in_silent : (stage : Stage) → Inside stage ≡ Silent → ⊥
in_silent stage e = cc

out_silent : Outside ≡ Silent → ⊥
out_silent e = cc

some_none : {A : Type 0} (x : Option A) → IsSome x → x ≡ None → ⊥
some_none None h e = cc
some_none (Some y) h e = cc

differ : false ≡ true → ⊥
differ e = cc

may_heard : (config : Config) (st : SideState) (cause : Cause) → MayBegin config st cause → (st.heard ≡ None → st.stands ≡ Silent) → st.heard ≡ None → ⊥
may_heard config st Start m u e = some_none st.heard m.1 e
may_heard config st Asked m u e = out_silent (sym m ∙ u e)
may_heard config st Answering m u e = out_silent (sym m ∙ u e)
may_heard config st WriteLimit m u e = out_silent (sym m.0 ∙ u e)
may_heard config st ReadLimit m u e = out_silent (sym m.0 ∙ u e)

owed_closed : (w : Where) (owed : List (List ℕ)) (p : List ℕ) (more : List (List ℕ)) (a : List (List ℕ)) → owed ≡ p ∷ more → a ++ owed ≡ [] → ⊥
owed_closed w owed p more a e f = let l : length (a ++ owed) ≡ 0 = ap length f in let m : length owed ≡ suc (length more) = ap length e in omega (arith, length-append a owed, l, m)

-- a count of bytes, and one packet more
more_counted : (count bytes bytes' l : ℕ) → count ≡ capped bytes → bytes' ≡ bytes + l → count_after count l ≡ capped bytes'
more_counted count bytes bytes' l e f = omega (arith, e, f)

zero_capped : (n : ℕ) → n ≡ 0 → 0 ≡ capped n
zero_capped n e = omega (arith, e)

at_tally : (w r : List Item) (m st' : SideState) → st' ≡ m → Tally w r m → Tally w r st'
at_tally w r m st' e h = subst (λ s. Tally w r s) (sym e) h

pub tally_step : (says : Says) (side : Side) (config : Config) (own_id : List ℕ) (w r : List Item) (st : SideState) (e : Event) (st' : SideState) (t : Trace) → Tidy says side config own_id st t → Tally w r st → Step says side config own_id st e st' → Tally (more_wrote w e) (more_kept r e) st'
tally_step says side config own_id w r st (IdHeard id) st' t y q h = at_tally w r _ st' h.becomes (record { owed = q.owed; own = q.own; theirs = q.theirs; some = q.some; unheard = λ e. h.silent; closed = q.closed; written = q.written; read = q.read })
tally_step says side config own_id w r st (PayloadSubmitted p) st' t y q h = at_tally w r _ st' h.becomes (record { owed = q.owed; own = q.own; theirs = q.theirs; some = q.some; unheard = q.unheard; closed = q.closed; written = q.written; read = q.read })
tally_step says side config own_id w r st (ExchangeBegun cause i) st' t y q h =
    let one = kexinits_one w i (ap (λ t. t == 20) (kexinit_item side config h.cookie i h.payload_is)) in
    at_tally (w ++ i ∷ []) r _ st' h.becomes (record {
      owed = q.owed;
      own = omega (arith, one, q.own, (may_open config st cause h.may).0);
      theirs = (let z = may_read config st cause h.may in let o = q.theirs in omega (arith, z, o));
      some = λ e. absurd (in_out _ e);
      unheard = λ e. absurd (may_heard config st cause h.may q.unheard e);
      closed = λ e. absurd (differ e);
      written = λ e. absurd (in_out _ e);
      read = λ e. absurd (in_out _ e);
    })
  where
    may_read : (config : Config) (st : SideState) (cause : Cause) → MayBegin config st cause → read_open st.stands ≡ 0
    may_read config st Start m = ap read_open m.0
    may_read config st Asked m = ap read_open m
    may_read config st Answering m = ap read_open m
    may_read config st WriteLimit m = ap read_open m.0
    may_read config st ReadLimit m = ap read_open m.0
tally_step says side config own_id w r st (AnswerSent i z) st' t y q h =
    let k = subst NoKexinits h.owes q.owed in
    let none = kexinits_none w i k.0 in
    let ended_is = ended_now st.stands i.payload h.more (subst (OwedOk st.stands) h.owes y.owed) in
    at_tally (w ++ i ∷ []) r _ st' h.becomes (record {
      owed = k.1;
      own = none ∙ q.own;
      theirs = q.theirs;
      some = λ e. absurd (owes e);
      unheard = q.unheard;
      closed = λ e. epoch_ended w i (ended_is ∙ e);
      written = λ e. absurd (owes e);
      read = λ e. absurd (owes e);
    })
  where
    owes : st.stands ≡ Outside → ⊥
    owes e = owed_closed st.stands st.owed i.payload h.more t.own h.owes (subst (λ x. FitsWhere says (setting side config own_id st) x (t.own ++ st.owed) t.theirs) e y.fits).own_is
tally_step says side config own_id w r st (PayloadSent i) st' t y q h =
    let p : is_payload_type (type_of i) ≡ true = (subst HeldOk h.holds y.held).0 in
    at_tally (w ++ i ∷ []) r _ st' h.becomes (record {
      owed = q.owed;
      own = kexinits_none w i (payload_other i p) ∙ q.own;
      theirs = q.theirs;
      some = q.some;
      unheard = q.unheard;
      closed = λ e. absurd (differ (sym (ap (λ x. ended x st.owed) h.outside) ∙ e));
      written = λ e. more_counted st.written (payload_bytes (epoch w)) (payload_bytes (epoch (w ++ i ∷ []))) (length i.payload) (q.written h.outside) (bytes_grown w i (payload_plain i p));
      read = q.read;
    })
tally_step says side config own_id w r st (MessageTaken i) st' t y q h =
    let z = row says (setting side config own_id st) h.stage (next_number st.reading.number) i.payload h.answers h.next h.takes in
    let at : read_open st.stands ≡ read_open (Inside h.stage) = ap read_open h.inside in
    let o : open_count st.stands ≡ 1 = ap open_count h.inside in
    at_tally w (r ++ i ∷ []) _ st' h.becomes (record {
      owed = z.owed;
      own = omega (arith, q.own, o);
      theirs = elim z.read [ inl a ↦ (let k = kexinits_one r i a.0 in let b = q.theirs in omega (arith, k, b, at, a.1, a.2)) | inr a ↦ (let k = kexinits_none r i a.0 in let b = q.theirs in omega (arith, k, b, at, a.1, a.2)) ];
      some = λ e. absurd (in_out _ e);
      unheard = λ e. absurd (in_silent h.stage (sym h.inside ∙ q.unheard e));
      closed = λ e. absurd (differ (sym (takes_row says (setting side config own_id st) h.stage (next_number st.reading.number) i.payload h.answers h.next h.takes).open_yet ∙ e));
      written = λ e. absurd (in_out _ e);
      read = λ e. absurd (in_out _ e);
    })
tally_step says side config own_id w r st (GuessDropped i) st' t y q h =
    let o : open_count st.stands ≡ 1 = ap open_count h.inside in
    let d = open_drops h.stage st.owed h.drops in
    at_tally w r _ st' h.becomes (record {
      owed = q.owed;
      own = omega (arith, q.own, o);
      theirs = q.theirs ∙ ap (λ n. length st.records + n) (ap read_open h.inside ∙ sym (dropped_read h.stage));
      some = λ e. absurd (in_out _ e);
      unheard = λ e. absurd (in_silent h.stage (sym h.inside ∙ q.unheard e));
      closed = λ e. absurd (differ (sym d.1 ∙ e));
      written = λ e. absurd (in_out _ e);
      read = λ e. absurd (in_out _ e);
    })
tally_step says side config own_id w r st (PayloadDelivered i) st' t y q h =
    at_tally w (r ++ i ∷ []) _ st' h.becomes (record {
      owed = q.owed;
      own = q.own;
      theirs = kexinits_none r i (payload_other i h.allowed) ∙ q.theirs;
      some = q.some;
      unheard = q.unheard;
      closed = q.closed;
      written = q.written;
      read = λ e. more_counted st.read (payload_bytes (epoch r)) (payload_bytes (epoch (r ++ i ∷ []))) (length i.payload) (q.read e) (bytes_grown r i (payload_plain i h.allowed));
    })
tally_step says side config own_id w r st (PacketDropped i) st' t y q h =
    at_tally w (r ++ i ∷ []) _ st' h.becomes (record {
      owed = q.owed;
      own = q.own;
      theirs = kexinits_none r i (drop_other i h.idle) ∙ q.theirs;
      some = q.some;
      unheard = q.unheard;
      closed = q.closed;
      written = q.written;
      read = λ e. more_counted st.read (payload_bytes (epoch r)) (payload_bytes (epoch (r ++ i ∷ []))) (length i.payload) (q.read e) (bytes_grown r i (drop_plain i h.idle));
    })
tally_step says side config own_id w r st (ExchangeFinished i x) st' t y q h =
    let n = finished_last says (AwaitsNewkeys h.exchange x h.host) i x (h.payload_is, refl, h.trusted) in
    let at : read_open st.stands ≡ 1 = ap read_open h.inside ∙ finishes_read says (AwaitsNewkeys h.exchange x h.host) i.payload x (h.payload_is, refl, h.trusted) in
    let o : open_count st.stands ≡ 1 = ap open_count h.inside in
    let up : length (st.records ++ x ∷ []) ≡ suc (length st.records) = omega (arith, length-append st.records (x ∷ [])) in
    let none = kexinits_none r i (newkeys_other i n) in
    at_tally w (r ++ i ∷ []) _ st' h.becomes (record {
      owed = q.owed;
      own = omega (arith, q.own, up, o);
      theirs = (let b = q.theirs in omega (arith, none, b, up, at));
      some = λ e. omega (arith, up);
      unheard = λ e. absurd (in_silent (AwaitsNewkeys h.exchange x h.host) (sym h.inside ∙ q.unheard e));
      closed = λ e. absurd (differ e);
      written = λ e. zero_capped _ (ap payload_bytes (q.closed (ap (λ v. ended v st.owed) h.inside ∙ (ap (ended (Inside (AwaitsNewkeys h.exchange x h.host))) h.owes ∙ finishes_ended says (AwaitsNewkeys h.exchange x h.host) i.payload x (h.payload_is, refl, h.trusted)))));
      read = λ e. zero_capped _ (bytes_ended r i n);
    })

pub tally_first : Tally [] [] first_state
tally_first = record { owed = tt; own = refl; theirs = refl; some = λ e. absurd (silent_out e); unheard = λ e. refl; closed = λ e. refl; written = λ e. absurd (silent_out e); read = λ e. absurd (silent_out e) }

tally_steps : (says : Says) (side : Side) (config : Config) (own_id : List ℕ) (log : List Event) (w r : List Item) (st st' : SideState) (t : Trace) → Tidy says side config own_id st t → Tally w r st → Steps says side config own_id st log st' → Tally (w ++ wrote log) (r ++ kept_in log) st'
tally_steps says side config own_id [] w r st st' t y q h =
    subst (λ s. Tally (w ++ []) (r ++ []) s) (sym h) (subst (λ v. Tally v (r ++ []) st) (sym (append-nil w)) (subst (λ v. Tally w v st) (sym (append-nil r)) q))
tally_steps says side config own_id (e ∷ es) w r st st' t y q h =
    let next = tally_steps says side config own_id es (more_wrote w e) (more_kept r e) h.0 st' (trace_after t e) (tidy_step says side config own_id st e h.0 t y h.1) (tally_step says side config own_id w r st e h.0 t y q h.1) h.2 in
    subst (λ v. Tally v (r ++ kept_in (e ∷ es)) st') (wrote_on w e es) (subst (λ v. Tally (more_wrote w e ++ wrote es) v st') (kept_on r e es) next)

-- of any run
pub tally_run : (says : Says) (side : Side) (config : Config) (own_id : List ℕ) (log : List Event) (st : SideState) → Steps says side config own_id first_state log st → Tally (wrote log) (kept_in log) st
tally_run says side config own_id log st h = tally_steps says side config own_id log [] [] first_state st no_trace (tidy_first says side config own_id) tally_first h
