-- Where a side stands, by what its report shows: the stage of the open exchange is that of the messages read in it.
use Rattle.std.proofs.Common.{◌≡◌, ℕ, zero, suc, ◌≤◌, List, [], ◌∷◌, ◌++◌, length, take, refl, sym, ◌∙◌, ap, subst, arith, Bool, true, false, if◌then◌else◌, is_some, Option, Some, None, Ok, inl, inr, append_assoc, append-nil}
use Rattle.ssh_packet.specs.Sealing.{Item}
use Rattle.ssh_packet.specs.Stream.{message_type}
use Rattle.ssh_wire.specs.Lines.{id_text}
use Rattle.ssh_wire.specs.declared.side.Side.{Side}
use Rattle.ssh_wire.specs.declared.side.Side.TheVariants.{Client, Server}
use Rattle.ssh_negotiate.specs.Causes.{was_strict}
use Rattle.ssh_negotiate.specs.Reading.{names_read}
use Rattle.ssh_negotiate.specs.declared.negotiation.Names.{Names}
use Rattle.ssh_kex.specs.Messages.{host_with, is_gex, newkeys, reply_message, value_message}
use Rattle.ssh_kex.specs.Refusals.{awaited}
use Rattle.ssh_kex.specs.Setting.{Says, Opened, behind_guess, held_names, offers_of}
use Rattle.ssh_kex.specs.Stages.{Stage, Created, AwaitsGroup, AwaitsReply, AwaitsRequest, AwaitsValue, AwaitsNewkeys, drops_guess, names_in_stage}
use Rattle.ssh_kex.specs.declared.config.Config.{Config}
use Rattle.ssh_kex.specs.declared.exchange.Exchange.{Exchange}
use Rattle.ssh_kex.specs.declared.exchange.FinishedExchange.{FinishedExchange}
use Rattle.ssh_kex.specs.declared.exchange.GexChosen.{GexChosen}
use Rattle.ssh_rules.specs.AttackCauses.{Due, KexinitDue, RequestDue, GroupDue, ValueDue, ReplyDue, NewkeysDue, IsInsideOne, NumberIs, Seen, done_by, dropped_by, due_by, has_dropped, names_by, open_block, own_block, type_due}
use Rattle.ssh_rules.specs.Attacked.{block_names, kind_in, known_names, still_strict}
use Rattle.ssh_rules.specs.Counting.{open_count}
use Rattle.ssh_rules.specs.ExchangeMessages.{groups, requests}
use Rattle.ssh_rules.specs.Guess.{BeforeKexinit, Guess, NoneFollows, guess_behind, is_guess, without_guesses}
use Rattle.ssh_rules.specs.Log.{handled, kept_in, recorded, wrote}
use Rattle.ssh_rules.specs.Machine.{Event, Inside, IsQuiet, Outside, SideState, Silent, Steps, cause_of, first_state, guesses, setting, IdHeard, PayloadSubmitted, ExchangeBegun, AnswerSent, PayloadSent, MessageTaken, GuessDropped, PayloadDelivered, PacketDropped, ExchangeFinished}
use Rattle.ssh_rules.specs.Marks.{kexinits}
use Rattle.ssh_rules.specs.Wire.{epochs_ended, exchange_block}
use Rattle.ssh_rules.proofs.side.Accounts.{Kept, kept_run, trace_of}
use Rattle.ssh_rules.proofs.side.Discharged.{kept_is, reads_alike}
use Rattle.ssh_rules.proofs.any_bytes.Guessing.{GuessAt, ReadsAlike, awaits, guess_snoc, guess_step}
use Rattle.ssh_rules.proofs.marks.Marked.{max_one}
use Rattle.ssh_rules.proofs.side.Places.{place_of}
use Rattle.ssh_rules.proofs.side.Ran.{recorded_is}
use Rattle.ssh_rules.proofs.side.ReasonSteps.{ends_open}
use Rattle.ssh_rules.proofs.headline.Reported.{strict_is}
use Rattle.ssh_rules.proofs.any_bytes.RunHandled.{handled_place}
use Rattle.ssh_rules.proofs.side.StageFits.{FitsStage, FitsWhere, Holds, OpenedBy, Trace, no_trace}
use Rattle.ssh_rules.proofs.side.Tallied.{Tally, tally_run}

-- ---- the guess behind a run

abbrev pub GuessOn : Side → Config → SideState → List Item → Type 0
GuessOn side config st items = GuessAt st.stands (guess_behind side config BeforeKexinit items)

pub guess_on : (says : Says) (side : Side) (config : Config) (own_id : List ℕ) (es : List Event) (before : List Item) (st st' : SideState) → ReadsAlike side config → GuessOn side config st before → Steps says side config own_id st es st' → GuessOn side config st' (before ++ handled es)
guess_on says side config own_id [] before st st' al at h = subst (λ q. GuessOn side config st' q) (sym (append-nil before)) (subst (λ s. GuessOn side config s before) (sym h) at)
guess_on says side config own_id (IdHeard id ∷ es) before st st' al at h = guess_on says side config own_id es before h.0 st' al (guess_step says side config own_id _ st (IdHeard id) h.0 al at h.1).0 h.2
guess_on says side config own_id (PayloadSubmitted p ∷ es) before st st' al at h = guess_on says side config own_id es before h.0 st' al (guess_step says side config own_id _ st (PayloadSubmitted p) h.0 al at h.1).0 h.2
guess_on says side config own_id (ExchangeBegun cause i ∷ es) before st st' al at h = guess_on says side config own_id es before h.0 st' al (guess_step says side config own_id _ st (ExchangeBegun cause i) h.0 al at h.1).0 h.2
guess_on says side config own_id (AnswerSent i q ∷ es) before st st' al at h = guess_on says side config own_id es before h.0 st' al (guess_step says side config own_id _ st (AnswerSent i q) h.0 al at h.1).0 h.2
guess_on says side config own_id (PayloadSent i ∷ es) before st st' al at h = guess_on says side config own_id es before h.0 st' al (guess_step says side config own_id _ st (PayloadSent i) h.0 al at h.1).0 h.2
guess_on says side config own_id (MessageTaken i ∷ es) before st st' al at h = subst (GuessOn side config st') (append_assoc before (i ∷ []) (handled es)) (guess_on says side config own_id es (before ++ i ∷ []) h.0 st' al (subst (GuessAt (h.0).stands) (sym (guess_snoc side config BeforeKexinit before i)) (guess_step says side config own_id _ st (MessageTaken i) h.0 al at h.1).0) h.2)
guess_on says side config own_id (GuessDropped i ∷ es) before st st' al at h = subst (GuessOn side config st') (append_assoc before (i ∷ []) (handled es)) (guess_on says side config own_id es (before ++ i ∷ []) h.0 st' al (subst (GuessAt (h.0).stands) (sym (guess_snoc side config BeforeKexinit before i)) (guess_step says side config own_id _ st (GuessDropped i) h.0 al at h.1).0) h.2)
guess_on says side config own_id (PayloadDelivered i ∷ es) before st st' al at h = subst (GuessOn side config st') (append_assoc before (i ∷ []) (handled es)) (guess_on says side config own_id es (before ++ i ∷ []) h.0 st' al (subst (GuessAt (h.0).stands) (sym (guess_snoc side config BeforeKexinit before i)) (guess_step says side config own_id _ st (PayloadDelivered i) h.0 al at h.1).0) h.2)
guess_on says side config own_id (PacketDropped i ∷ es) before st st' al at h = subst (GuessOn side config st') (append_assoc before (i ∷ []) (handled es)) (guess_on says side config own_id es (before ++ i ∷ []) h.0 st' al (subst (GuessAt (h.0).stands) (sym (guess_snoc side config BeforeKexinit before i)) (guess_step says side config own_id _ st (PacketDropped i) h.0 al at h.1).0) h.2)
guess_on says side config own_id (ExchangeFinished i x ∷ es) before st st' al at h = subst (GuessOn side config st') (append_assoc before (i ∷ []) (handled es)) (guess_on says side config own_id es (before ++ i ∷ []) h.0 st' al (subst (GuessAt (h.0).stands) (sym (guess_snoc side config BeforeKexinit before i)) (guess_step says side config own_id _ st (ExchangeFinished i x) h.0 al at h.1).0) h.2)

-- what isn't dropped as a guess is none
pub no_guess : (stage : Stage) (g : Guess) (i : Item) → drops_guess stage ≡ false → GuessAt (Inside stage) g → is_guess g i ≡ false
no_guess (Created own) g i d at = ap (λ x. is_guess x i) at
no_guess (AwaitsGroup o) g i d at = ap (λ x. is_guess x i) (at ∙ ap awaits d)
no_guess (AwaitsReply o gex l p) g i d at = ap (λ x. is_guess x i) (at ∙ ap awaits d)
no_guess (AwaitsRequest o) g i d at = ap (λ x. is_guess x i) (at ∙ ap awaits d)
no_guess (AwaitsValue o gex) g i d at = ap (λ x. is_guess x i) (at ∙ ap awaits d)
no_guess (AwaitsNewkeys e x h) g i d at = ap (λ x. is_guess x i) at

-- ---- names that are held

pub holds_kex : (read held : Names) → Holds read held → read.kex ≡ held.kex
holds_kex read held (inl e) = ap (λ (n : Names). n.kex) (sym e)
holds_kex read held (inr h) = ap (λ (n : Names). n.kex) (sym h.1)

pub holds_host : (read held : Names) (blob : List ℕ) → Holds read held → host_with read blob ≡ host_with held blob
holds_host read held blob (inl e) = ap (λ (n : Names). host_with n blob) (sym e)
holds_host read held blob (inr h) = ap (λ (n : Names). host_with n blob) (sym h.1)

pub holds_strict : (read held : Names) → Holds read held → read.strict_kex ≡ held.strict_kex
holds_strict read held (inl e) = ap (λ (n : Names). n.strict_kex) (sym e)
holds_strict read held (inr h) = ap (λ (n : Names). n.strict_kex) (sym h.1)

held_holds : (read held : Names) → held ≡ held_names read → Holds read held
held_holds read held e = by read.ignore_guessed refl where
  by : (b : Bool) → read.ignore_guessed ≡ b → Holds read held
  by true f = inr (f, e ∙ ap (λ c. if c then behind_guess read else read) f)
  by false f = inl (e ∙ ap (λ c. if c then behind_guess read else read) f)

-- how many guesses were dropped, by the guess that is to come: of names that were read nothing is marked
guess_none : (b : Bool) (read : Names) → b ≡ read.ignore_guessed → has_dropped (awaits b) read ≡ false
guess_none true read e = refl
guess_none false read e = sym e

pub guesses_are : (g : Guess) (read held : Names) → read.guessed_ignored ≡ false → Holds read held → g ≡ awaits held.ignore_guessed → guesses held ≡ dropped_by g read
guesses_are g read held none (inl e) at =
    let zero_left : guesses held ≡ 0 = ap (λ (n : Names). guesses n) e ∙ ap (λ b. if b then 1 else 0) none in
    let no : has_dropped g read ≡ false = ap (λ x. has_dropped x read) at ∙ guess_none held.ignore_guessed read (ap (λ (n : Names). n.ignore_guessed) e) in
    zero_left ∙ ap (λ b. if b then 1 else 0) (sym no)
guesses_are g read held none (inr h) at =
    let flag : held.ignore_guessed ≡ false = ap (λ (n : Names). n.ignore_guessed) h.1 in
    let gone : g ≡ NoneFollows = at ∙ ap awaits flag in
    let yes : has_dropped g read ≡ true = ap (λ x. has_dropped x read) gone ∙ h.0 in
    ap (λ (n : Names). guesses n) h.1 ∙ ap (λ b. if b then 1 else 0) (sym yes)

-- ---- stages

abbrev pub due_of : Stage → Due
due_of (Created own) = KexinitDue
due_of (AwaitsGroup o) = GroupDue
due_of (AwaitsReply o gex local public) = ReplyDue
due_of (AwaitsRequest o) = RequestDue
due_of (AwaitsValue o gex) = ValueDue
due_of (AwaitsNewkeys exchange made host) = NewkeysDue

-- behind the last message that is taken no guess is to come
abbrev pub NoneAtEnd : Stage → Names → Type 0
NoneAtEnd (Created own) n = Unit {0}
NoneAtEnd (AwaitsGroup o) n = Unit {0}
NoneAtEnd (AwaitsReply o gex local public) n = Unit {0}
NoneAtEnd (AwaitsRequest o) n = Unit {0}
NoneAtEnd (AwaitsValue o gex) n = Unit {0}
NoneAtEnd (AwaitsNewkeys exchange made host) n = n.ignore_guessed ≡ false

held_unguessed : (read held : Names) → held ≡ held_names read → held.ignore_guessed ≡ false
held_unguessed read held e = ap (λ (n : Names). n.ignore_guessed) e ∙ by read.ignore_guessed refl where
  by : (b : Bool) → read.ignore_guessed ≡ b → (let n : Names = if read.ignore_guessed then behind_guess read else read in n.ignore_guessed) ≡ false
  by true f = ap (λ c. let n : Names = if c then behind_guess read else read in n.ignore_guessed) f
  by false f = ap (λ c. let n : Names = if c then behind_guess read else read in n.ignore_guessed) f ∙ f

-- what the messages read in the open exchange say of its stage
pub record StageSeen (side : Side) (config : Config) (strict : Bool) (stage : Stage) (theirs : List (List ℕ)) : Type 0 where
  pub names : (n : Names) → names_in_stage stage ≡ Some n → (read : Names) × (payload : List ℕ) × (block_names side config strict theirs ≡ Some read) × (names_read side (offers_of side config) strict payload ≡ Ok read) × Holds read n
  pub at_end : (n : Names) → names_in_stage stage ≡ Some n → NoneAtEnd stage n
  pub due : due_by side (kind_in (block_names side config strict theirs)) (length theirs) ≡ due_of stage
  pub type_is : awaited stage ≡ type_due (kind_in (block_names side config strict theirs)) (due_of stage)
  pub some : (stage_names : names_in_stage stage ≡ None → ⊥) → theirs ≡ [] → ⊥

none_named : {A : Type 0} (n : Names) → None ≡ Some n → A
none_named n e = cc

same_some : (m n : Names) → Some m ≡ Some n → m ≡ n
same_some m n e = cc

pub created_seen : (side : Side) (config : Config) (strict : Bool) (own : List ℕ) → StageSeen side config strict (Created own) []
created_seen Client config strict own = record { names = λ n e. none_named n e; at_end = λ n e. tt; due = refl; type_is = refl; some = λ f z. f refl }
created_seen Server config strict own = record { names = λ n e. none_named n e; at_end = λ n e. tt; due = refl; type_is = refl; some = λ f z. f refl }

-- the names that the first message gives
record FirstNames (side : Side) (config : Config) (strict : Bool) (payload : List ℕ) (held : Names) : Type 0 where
  pub read : Names
  pub reads : names_read side (offers_of side config) strict payload ≡ Ok read
  pub holds : Holds read held

opened_names : (says : Says) (side : Side) (config : Config) (own_id : List ℕ) (st : SideState) (o : Opened) → OpenedBy says (setting side config own_id st) o → FirstNames side config (was_strict (cause_of st.records)) o.peer_kexinit o.names
opened_names says Client config own_id st o h = record { read = h.read_names; reads = h.read; holds = h.held }
opened_names says Server config own_id st o h = record { read = h.read_names; reads = h.read; holds = h.held }

kind_first : (side : Side) (config : Config) (strict : Bool) (payload : List ℕ) (more : List (List ℕ)) (held : Names) (kind : Bool) → (f : FirstNames side config strict payload held) → is_gex held.kex ≡ kind → kind_in (block_names side config strict (payload ∷ more)) ≡ kind
kind_first side config strict payload more held kind f e = ap (λ r. kind_in (known_names r)) f.reads ∙ (ap is_gex (holds_kex f.read held f.holds) ∙ e)

seen_first : (side : Side) (config : Config) (strict : Bool) (stage : Stage) (payload : List ℕ) (more : List (List ℕ)) (held : Names) (kind : Bool) → FirstNames side config strict payload held → is_gex held.kex ≡ kind → names_in_stage stage ≡ Some held → NoneAtEnd stage held → due_by side kind (suc (length more)) ≡ due_of stage → awaited stage ≡ type_due kind (due_of stage) → StageSeen side config strict stage (payload ∷ more)
seen_first side config strict stage payload more held kind f e names end due type_is =
    let k = kind_first side config strict payload more held kind f e in
    record {
      names = λ n q. (f.read, payload, ap known_names f.reads, f.reads, subst (λ m. Holds f.read m) (same_some held n (sym names ∙ q)) f.holds);
      at_end = λ n q. subst (NoneAtEnd stage) (same_some held n (sym names ∙ q)) end;
      due = ap (λ b. due_by side b (suc (length more))) k ∙ due;
      type_is = type_is ∙ ap (λ b. type_due b (due_of stage)) (sym k);
      some = λ g z. cons_none payload more z;
    }
  where
    cons_none : (x : List ℕ) (xs : List (List ℕ)) → x ∷ xs ≡ [] → ⊥
    cons_none x xs z = cc

at_block : (side : Side) (config : Config) (strict : Bool) (stage : Stage) (theirs theirs' : List (List ℕ)) → theirs' ≡ theirs → StageSeen side config strict stage theirs → StageSeen side config strict stage theirs'
at_block side config strict stage theirs theirs' e s = subst (StageSeen side config strict stage) (sym e) s

reply_type : (b : Bool) → message_type (reply_message b [] [] []) ≡ type_due b ReplyDue
reply_type true = refl
reply_type false = refl

value_type : (b : Bool) → message_type (value_message b []) ≡ type_due b ValueDue
value_type true = refl
value_type false = refl

reply_due : (gex : Option GexChosen) → due_by Client (is_some gex) (suc (length (groups gex))) ≡ ReplyDue
reply_due None = refl
reply_due (Some g) = refl

value_due : (gex : Option GexChosen) → due_by Server (is_some gex) (suc (length (requests gex))) ≡ ValueDue
value_due None = refl
value_due (Some g) = refl

-- all but the last
snoc_same : (a b : List (List ℕ)) (y : List ℕ) → a ++ y ∷ [] ≡ b ++ y ∷ [] → a ≡ b
snoc_same [] [] y e = refl
snoc_same [] (x ∷ b) y e = absurd (nil_not b y (let f : [] ≡ b ++ y ∷ [] = cc in f)) where
  nil_not : (b : List (List ℕ)) (y : List ℕ) → [] ≡ b ++ y ∷ [] → ⊥
  nil_not [] y e = cc
  nil_not (x ∷ b) y e = cc
snoc_same (x ∷ a) [] y e = absurd (nil_not a y (let f : a ++ y ∷ [] ≡ [] = cc in f)) where
  nil_not : (b : List (List ℕ)) (y : List ℕ) → b ++ y ∷ [] ≡ [] → ⊥
  nil_not [] y e = cc
  nil_not (x ∷ b) y e = cc
snoc_same (x ∷ a) (z ∷ b) y e =
    let h : x ≡ z = cc in
    let t : a ++ y ∷ [] ≡ b ++ y ∷ [] = cc in
    ap (λ q. q ∷ a) h ∙ ap (λ q. z ∷ q) (snoc_same a b y t)

pub replied : (e : Exchange) (reply : List ℕ) (theirs : List (List ℕ)) → theirs ++ newkeys ∷ [] ≡ e.server_kex_init ∷ (groups e.gex ++ reply ∷ newkeys ∷ []) → theirs ≡ e.server_kex_init ∷ (groups e.gex ++ reply ∷ [])
replied e reply theirs h = snoc_same theirs (e.server_kex_init ∷ (groups e.gex ++ reply ∷ [])) newkeys (h ∙ sym (append_assoc (e.server_kex_init ∷ groups e.gex) (reply ∷ []) (newkeys ∷ [])))

valued : (e : Exchange) (value : List ℕ) (theirs : List (List ℕ)) → theirs ++ newkeys ∷ [] ≡ e.client_kex_init ∷ (requests e.gex ++ value ∷ newkeys ∷ []) → theirs ≡ e.client_kex_init ∷ (requests e.gex ++ value ∷ [])
valued e value theirs h = snoc_same theirs (e.client_kex_init ∷ (requests e.gex ++ value ∷ [])) newkeys (h ∙ sym (append_assoc (e.client_kex_init ∷ requests e.gex) (value ∷ []) (newkeys ∷ [])))

last_client : (gex : Option GexChosen) (reply : List ℕ) → due_by Client (is_some gex) (suc (length (groups gex ++ reply ∷ []))) ≡ NewkeysDue
last_client None reply = refl
last_client (Some g) reply = refl

last_server : (gex : Option GexChosen) (value : List ℕ) → due_by Server (is_some gex) (suc (length (requests gex ++ value ∷ []))) ≡ NewkeysDue
last_server None value = refl
last_server (Some g) value = refl

side_not : {A : Type 0} → Server ≡ Client → A
side_not e = cc

side_neither : {A : Type 0} → Client ≡ Server → A
side_neither e = cc

pub stage_seen : (says : Says) (side : Side) (config : Config) (own_id : List ℕ) (st : SideState) (stage : Stage) (own theirs : List (List ℕ)) → FitsStage says (setting side config own_id st) stage own theirs → StageSeen side config (was_strict (cause_of st.records)) stage theirs
stage_seen says side config own_id st (Created k) own theirs f = at_block side config (was_strict (cause_of st.records)) (Created k) [] theirs f.theirs_is (created_seen side config (was_strict (cause_of st.records)) k)
stage_seen says Client config own_id st (AwaitsGroup o) own theirs f = at_block Client config _ (AwaitsGroup o) (o.peer_kexinit ∷ []) theirs f.theirs_is (seen_first Client config _ (AwaitsGroup o) o.peer_kexinit [] o.names true (opened_names says Client config own_id st o f.opened) f.kind refl tt refl refl)
stage_seen says Server config own_id st (AwaitsGroup o) own theirs f = side_not f.client
stage_seen says Client config own_id st (AwaitsReply o gex local public) own theirs f = at_block Client config _ (AwaitsReply o gex local public) (o.peer_kexinit ∷ groups gex) theirs f.theirs_is (seen_first Client config _ (AwaitsReply o gex local public) o.peer_kexinit (groups gex) o.names (is_some gex) (opened_names says Client config own_id st o f.opened) f.kind refl tt (reply_due gex) (ap (λ b. message_type (reply_message b [] [] [])) f.kind ∙ reply_type (is_some gex)))
stage_seen says Server config own_id st (AwaitsReply o gex local public) own theirs f = side_not f.client
stage_seen says Client config own_id st (AwaitsRequest o) own theirs f = side_neither f.server
stage_seen says Server config own_id st (AwaitsRequest o) own theirs f = at_block Server config _ (AwaitsRequest o) (o.peer_kexinit ∷ []) theirs f.theirs_is (seen_first Server config _ (AwaitsRequest o) o.peer_kexinit [] o.names true (opened_names says Server config own_id st o f.opened) f.kind refl tt refl refl)
stage_seen says Client config own_id st (AwaitsValue o gex) own theirs f = side_neither f.server
stage_seen says Server config own_id st (AwaitsValue o gex) own theirs f = at_block Server config _ (AwaitsValue o gex) (o.peer_kexinit ∷ requests gex) theirs f.theirs_is (seen_first Server config _ (AwaitsValue o gex) o.peer_kexinit (requests gex) o.names (is_some gex) (opened_names says Server config own_id st o f.opened) f.kind refl tt (value_due gex) (ap (λ b. message_type (value_message b [])) f.kind ∙ value_type (is_some gex)))
stage_seen says Client config own_id st (AwaitsNewkeys e x h) own theirs f =
    let names : x.names ≡ f.names = ap (λ (y : FinishedExchange). y.names) f.made in
    at_block Client config _ (AwaitsNewkeys e x h) (e.server_kex_init ∷ (groups e.gex ++ reply_message (is_some e.gex) f.host e.server_ephemeral f.signature ∷ [])) theirs (replied e (reply_message (is_some e.gex) f.host e.server_ephemeral f.signature) theirs f.theirs_is)
    (seen_first Client config _ (AwaitsNewkeys e x h) e.server_kex_init (groups e.gex ++ reply_message (is_some e.gex) f.host e.server_ephemeral f.signature ∷ []) x.names (is_some e.gex)
    (record { read = f.read_names; reads = f.read; holds = held_holds f.read_names x.names (names ∙ f.names_are) }) (ap (λ (n : Names). is_gex n.kex) names ∙ f.kind) refl (held_unguessed f.read_names x.names (names ∙ f.names_are)) (last_client e.gex _) refl)
stage_seen says Server config own_id st (AwaitsNewkeys e x h) own theirs f =
    let names : x.names ≡ f.names = ap (λ (y : FinishedExchange). y.names) f.made in
    at_block Server config _ (AwaitsNewkeys e x h) (e.client_kex_init ∷ (requests e.gex ++ value_message (is_some e.gex) e.client_ephemeral ∷ [])) theirs (valued e (value_message (is_some e.gex) e.client_ephemeral) theirs f.theirs_is)
    (seen_first Server config _ (AwaitsNewkeys e x h) e.client_kex_init (requests e.gex ++ value_message (is_some e.gex) e.client_ephemeral ∷ []) x.names (is_some e.gex)
    (record { read = f.read_names; reads = f.read; holds = held_holds f.read_names x.names (names ∙ f.names_are) }) (ap (λ (n : Names). is_gex n.kex) names ∙ f.kind) refl (held_unguessed f.read_names x.names (names ∙ f.names_are)) (last_server e.gex _) refl)

-- ---- a side behind its log

abbrev pub seen_of : Side → Config → List ℕ → List Event → Seen
seen_of side config heard log = record { side = side; config = config; heard = heard; exchanges = recorded log; own = wrote log }

-- what its report shows of where it stands
pub record Shows (says : Says) (side : Side) (config : Config) (heard : List ℕ) (log : List Event) (at : SideState) : Type 0 where
  pub trace : Trace
  pub fits : FitsWhere says (setting side config (id_text config.id) at) at.stands trace.own trace.theirs
  pub heard_is : at.heard ≡ Some heard
  pub records : at.records ≡ recorded log
  pub done : done_by (seen_of side config heard log) (handled log) ≡ length at.records
  pub open_is : open_block (seen_of side config heard log) (handled log) ≡ trace.theirs
  pub own_is : own_block (seen_of side config heard log) (handled log) ≡ trace.own
  pub strict : still_strict (take (done_by (seen_of side config heard log) (handled log)) (recorded log)) ≡ was_strict (cause_of at.records)
  pub names : names_by (seen_of side config heard log) (handled log) ≡ block_names side config (was_strict (cause_of at.records)) trace.theirs
  pub guess : GuessAt at.stands (guess_behind side config BeforeKexinit (handled log))
  pub number : NumberIs (seen_of side config heard log) (handled log) at.reading.number
  pub inside : (stage : Stage) → at.stands ≡ Inside stage → IsInsideOne (seen_of side config heard log) (handled log)
  pub outside : at.stands ≡ Outside → IsInsideOne (seen_of side config heard log) (handled log) → ⊥
  pub some : at.stands ≡ Outside → 1 ≤ length at.records
  pub not_silent : at.stands ≡ Silent → ⊥

take_all : (xs : List FinishedExchange) (n : ℕ) → n ≡ length xs → take n xs ≡ xs
take_all [] zero e = refl
take_all [] (suc n) e = refl
take_all (x ∷ xs) zero e = absurd (omega (arith, e))
take_all (x ∷ xs) (suc n) e = ap (λ q. x ∷ q) (take_all xs n (omega (arith, e)))

none_some : (x : Option (List ℕ)) (h : List ℕ) → x ≡ Some h → x ≡ None → ⊥
none_some x h e f = (let z : Some h ≡ None = sym e ∙ f in cc)

pub shows : (says : Says) (side : Side) (config : Config) (heard : List ℕ) (log : List Event) (at : SideState) → Steps says side config (id_text config.id) first_state log at → at.owed ≡ [] → (at.stands ≡ Silent → ⊥) → at.heard ≡ Some heard → Shows says side config heard log at
shows says side config heard log at h owes spoken hears = record {
  trace = t;
  fits = subst (λ q. FitsWhere says (setting side config (id_text config.id) at) at.stands q t.theirs) (ap (λ q. t.own ++ q) owes ∙ append-nil t.own) kept.tidy.fits;
  heard_is = hears;
  records = records;
  done = done;
  open_is = ap (λ q. exchange_block (epochs_ended q) q) same ∙ (ap (λ n. exchange_block n (kept_in log)) ended ∙ kept.accounts.theirs.block_is);
  own_is = ap (λ n. exchange_block n (wrote log)) done ∙ kept.accounts.own.block_is;
  strict = strict;
  names = ap (λ b. block_names side config b (open_block (seen_of side config heard log) (handled log))) strict ∙ ap (block_names side config (was_strict (cause_of at.records))) (ap (λ q. exchange_block (epochs_ended q) q) same ∙ (ap (λ n. exchange_block n (kept_in log)) ended ∙ kept.accounts.theirs.block_is));
  guess = guess_on says side config (id_text config.id) log [] first_state at (reads_alike side config) refl h;
  number = (place_of at.reading [], handled_place says side config (id_text config.id) log at h, refl);
  inside = λ stage e. (let o = tally.own in let c : open_count at.stands ≡ 1 = ap open_count e in let m = (max_one (kexinits (wrote log))).0 (omega (arith, o, c)) in omega (arith, done, o, c, m));
  outside = λ e l. (let o = tally.own in let c : open_count at.stands ≡ 0 = ap open_count e in let s = tally.some e in let m = (max_one (kexinits (wrote log))).0 (omega (arith, o, c, s)) in omega (arith, done, o, c, m, l));
  some = tally.some;
  not_silent = spoken;
} where
  t : Trace
  t = trace_of no_trace log

  kept : Kept says side config (id_text config.id) (wrote log) (kept_in log) at (trace_of no_trace log)
  kept = kept_run says side config (id_text config.id) log at h

  tally : Tally (wrote log) (kept_in log) at
  tally = tally_run says side config (id_text config.id) log at h

  same : without_guesses side config BeforeKexinit (handled log) ≡ kept_in log
  same = kept_is says side config (id_text config.id) log at h

  records : at.records ≡ recorded log
  records = recorded_is says side config (id_text config.id) log first_state at h

  ended : epochs_ended (kept_in log) ≡ length at.records
  ended = ends_open (length at.records) (trace_of no_trace log).theirs (kept_in log) kept.accounts.theirs kept.tidy.theirs_open

  done : epochs_ended (without_guesses side config BeforeKexinit (handled log)) ≡ length at.records
  done = ap epochs_ended same ∙ ended

  strict : still_strict (take (epochs_ended (without_guesses side config BeforeKexinit (handled log))) (recorded log)) ≡ was_strict (cause_of at.records)
  strict = ap still_strict (take_all (recorded log) (epochs_ended (without_guesses side config BeforeKexinit (handled log))) (done ∙ ap length records)) ∙ (ap still_strict (sym records) ∙ sym (strict_is at.records))

pub shows_quiet : (says : Says) (side : Side) (config : Config) (heard : List ℕ) (log : List Event) (at : SideState) → Steps says side config (id_text config.id) first_state log at → IsQuiet config at → at.heard ≡ Some heard → Shows says side config heard log at
shows_quiet says side config heard log at h quiet hears = shows says side config heard log at h quiet.owes (λ e. none_some at.heard heard hears (quiet.silent e)) hears
