-- In a link the next message of an exchange faces the stage that awaits it: both sides are in one exchange, after the
-- same records, and what the writer had read is a front of what the reader wrote.
use Rattle.std.proofs.Common.{◌≡◌, ℕ, suc, ◌<◌, ◌^◌, List, [], ◌∷◌, ◌++◌, length, slice_get, refl, sym, ◌∙◌, ap, subst, arith, Bool, true, false, Some, None, Ok, inl, inr, append_assoc, if◌then◌else◌, length-append}
use Rattle.std.specs.Prelude.{is_some}
use Rattle.ssh_packet.specs.Sealing.{Item}
use Rattle.ssh_wire.specs.Lines.{id_text}
use Rattle.ssh_wire.specs.Sides.{other_side}
use Rattle.ssh_wire.specs.declared.side.Side.{Side}
use Rattle.ssh_wire.specs.declared.side.Side.TheVariants.{Client, Server}
use Rattle.ssh_negotiate.specs.Causes.{was_strict}
use Rattle.ssh_negotiate.specs.Laws.{IsWithin, kept_strict}
use Rattle.ssh_negotiate.specs.Reading.{names_read}
use Rattle.ssh_negotiate.specs.declared.kex.Name.{Name as KexName}
use Rattle.ssh_negotiate.specs.declared.negotiation.Names.{Names}
use Rattle.ssh_kex.specs.Messages.{is_gex, newkeys}
use Rattle.ssh_kex.specs.Refusals.{kexinit_read}
use Rattle.ssh_kex.specs.Setting.{Says, Setting, offers_of}
use Rattle.ssh_kex.specs.Stages.{Stage, Created, AwaitsGroup, AwaitsReply, AwaitsRequest, AwaitsValue, AwaitsNewkeys}
use Rattle.ssh_kex.specs.declared.config.Config.{Config}
use Rattle.ssh_kex.specs.declared.exchange.FinishedExchange.{FinishedExchange}
use Rattle.ssh_rules.specs.Headline.{chosen_by, kind_by}
use Rattle.ssh_rules.specs.Laws.{FindsCanonical, OneLink, OneSecret}
use Rattle.ssh_rules.specs.Log.{wrote, handled, kept_in, recorded}
use Rattle.ssh_rules.specs.Machine.{Where, Silent, Outside, Inside, SideState, Event, IdHeard, PayloadSubmitted, ExchangeBegun, AnswerSent, PayloadSent, MessageTaken, GuessDropped, PayloadDelivered, PacketDropped, ExchangeFinished, Step, cause_of, first_state, names_now, setting}
use Rattle.ssh_rules.specs.MessageTypes.{type_of, is_kex_type}
use Rattle.ssh_rules.specs.Refused.{LooksIn}
use Rattle.ssh_rules.specs.Snapshots.{KindIs, NoGuesses, RunsInLink, kind_chosen}
use Rattle.ssh_rules.specs.Turns.{HearsAs, LinkEnd, talkers}
use Rattle.ssh_rules.specs.Valid.{HasSizes}
use Rattle.ssh_rules.specs.Wire.{HasFront, epochs_ended, exchange_block}
use Rattle.ssh_rules.proofs.side.Accounts.{Kept, kept_run, trace_of}
use Rattle.ssh_rules.proofs.pair.Awaited.{IsReadable}
use Rattle.ssh_rules.proofs.side.Fronts.{block_grows}
use Rattle.ssh_rules.proofs.side.LedgerSteps.{closed_trace, may_closed, payload_not_kex}
use Rattle.ssh_rules.proofs.headline.LinkWire.{known_here}
use Rattle.ssh_rules.proofs.pair.Next.{Cut, Delivering, Calling, Taking, Goes, IsWriting, NextIs, cut_log, next_accepted, next_by, started_first, started_steps}
use Rattle.ssh_rules.proofs.refusals.Obliged.{AreBoth, Faces, IsMet, ReadsKex, Serves}
use Rattle.ssh_rules.proofs.refusals.OnlyParts.{at_setting, reads_names}
use Rattle.ssh_rules.proofs.side.Prompt.{full_made}
use Rattle.ssh_rules.proofs.side.Ran.{kept_all, recorded_is}
use Rattle.ssh_rules.proofs.side.ReasonSteps.{ends_open}
use Rattle.ssh_rules.proofs.side.StageFits.{FitsStage, FitsWhere, Trace, no_trace}
use Rattle.ssh_rules.proofs.side.StageSteps.{at_stage, setting_side}
use Rattle.ssh_rules.proofs.pair.StrictOrder.{heads_of, other_twice}
use Rattle.ssh_rules.proofs.turns.Turns.{heard_loud}
use Rattle.ssh_rules.proofs.pair.Whole.{get_front, handled_more, recorded_more}

-- ---- logs that are cut

guesses_cut : (a b : List Event) → NoGuesses (a ++ b) → NoGuesses a
guesses_cut [] b h = tt
guesses_cut (IdHeard id ∷ a) b h = guesses_cut a b h
guesses_cut (PayloadSubmitted p ∷ a) b h = guesses_cut a b h
guesses_cut (ExchangeBegun cause i ∷ a) b h = guesses_cut a b h
guesses_cut (AnswerSent i q ∷ a) b h = guesses_cut a b h
guesses_cut (PayloadSent i ∷ a) b h = guesses_cut a b h
guesses_cut (MessageTaken i ∷ a) b h = guesses_cut a b h
guesses_cut (GuessDropped i ∷ a) b h = absurd h
guesses_cut (PayloadDelivered i ∷ a) b h = guesses_cut a b h
guesses_cut (PacketDropped i ∷ a) b h = guesses_cut a b h
guesses_cut (ExchangeFinished i x ∷ a) b h = guesses_cut a b h

hears_cut : (text : List ℕ) (a b : List Event) → HearsAs text (a ++ b) → HearsAs text a
hears_cut text [] b h = tt
hears_cut text (IdHeard id ∷ a) b h = (h.0, hears_cut text a b h.1)
hears_cut text (PayloadSubmitted p ∷ a) b h = hears_cut text a b h
hears_cut text (ExchangeBegun cause i ∷ a) b h = hears_cut text a b h
hears_cut text (AnswerSent i q ∷ a) b h = hears_cut text a b h
hears_cut text (PayloadSent i ∷ a) b h = hears_cut text a b h
hears_cut text (MessageTaken i ∷ a) b h = hears_cut text a b h
hears_cut text (GuessDropped i ∷ a) b h = hears_cut text a b h
hears_cut text (PayloadDelivered i ∷ a) b h = hears_cut text a b h
hears_cut text (PacketDropped i ∷ a) b h = hears_cut text a b h
hears_cut text (ExchangeFinished i x ∷ a) b h = hears_cut text a b h

same_records : (xs ys : List FinishedExchange) → length xs ≡ length ys → ((j : ℕ) (x y : FinishedExchange) → slice_get xs j ≡ Some x → slice_get ys j ≡ Some y → x ≡ y) → xs ≡ ys
same_records [] [] l h = refl
same_records [] (y ∷ ys) l h = absurd (omega (arith, l))
same_records (x ∷ xs) [] l h = absurd (omega (arith, l))
same_records (x ∷ xs) (y ∷ ys) l h = ap (λ z. z ∷ xs) (h 0 x y refl refl) ∙ ap (λ zs. y ∷ zs) (same_records xs ys (omega (arith, l)) (λ j p q e f. h (suc j) p q e f))

one_link : (config : Side → Config) (side : Side) (st mid : SideState) → st.heard ≡ Some (id_text (config (other_side side)).id) → mid.heard ≡ Some (id_text (config (other_side (other_side side))).id) → st.records ≡ mid.records → OneLink (setting side (config side) (id_text (config side).id) st) (setting (other_side side) (config (other_side side)) (id_text (config (other_side side)).id) mid)
one_link config Client st mid h k r = record { client_id = sym (ap Rattle.ssh_rules.specs.Machine.id_or_none k); server_id = ap Rattle.ssh_rules.specs.Machine.id_or_none h; cause = ap cause_of r }
one_link config Server st mid h k r = record { client_id = ap Rattle.ssh_rules.specs.Machine.id_or_none h; server_id = sym (ap Rattle.ssh_rules.specs.Machine.id_or_none k); cause = ap cause_of r }

-- ---- the stage in which a message was written

pub record WrittenIn (says : Says) (side : Side) (config : Config) (own_id : List ℕ) (mid : SideState) (t : Trace) (m : List ℕ) : Type 0 where
  pub stage : Stage
  pub inside : mid.stands ≡ Inside stage
  pub more : List (List ℕ)
  pub fits : FitsStage says (setting side config own_id mid) stage (t.own ++ m ∷ more) t.theirs

none_some : (own : List (List ℕ)) → own ≡ [] → 0 < length own → ⊥
none_some own e l = let z : length own ≡ 0 = ap length e in omega (arith, z, l)

written_in : (says : Says) (side : Side) (config : Config) (own_id : List ℕ) (w r : List Item) (mid : SideState) (t : Trace) (e : Event) (next : SideState) (j : Item) → Kept says side config own_id w r mid t → 0 < length t.own → IsWriting e j → Step says side config own_id mid e next → WrittenIn says side config own_id mid t j.payload
written_in says side config own_id w r mid t (ExchangeBegun cause i) next j k l v h = absurd (none_some t.own (closed_trace says side config own_id mid t k.tidy.fits (may_closed config mid cause h.may)).0 l)
written_in says side config own_id w r mid t (PayloadSent i) next j k l v h = absurd (none_some t.own (closed_trace says side config own_id mid t k.tidy.fits (inl h.outside)).0 l)
written_in says side config own_id w r mid t (AnswerSent i q) next j k l v h = subst (λ (x : Item). WrittenIn says side config own_id mid t x.payload) v (by mid.stands refl) where
  by : (s : Where) → mid.stands ≡ s → WrittenIn says side config own_id mid t i.payload
  by Silent e = absurd (none_some t.own (closed_trace says side config own_id mid t k.tidy.fits (inr e)).0 l)
  by Outside e = absurd (none_some t.own (closed_trace says side config own_id mid t k.tidy.fits (inl e)).0 l)
  by (Inside stage) e = record {
    stage = stage;
    inside = e;
    more = h.more;
    fits = subst (λ x. FitsStage says (setting side config own_id mid) stage (t.own ++ x) t.theirs) h.owes (subst (λ x. FitsWhere says (setting side config own_id mid) x (t.own ++ mid.owed) t.theirs) e k.tidy.fits);
  }
written_in says side config own_id w r mid t (IdHeard id) next j k l v h = absurd v
written_in says side config own_id w r mid t (PayloadSubmitted p) next j k l v h = absurd v
written_in says side config own_id w r mid t (MessageTaken i) next j k l v h = absurd v
written_in says side config own_id w r mid t (GuessDropped i) next j k l v h = absurd v
written_in says side config own_id w r mid t (PayloadDelivered i) next j k l v h = absurd v
written_in says side config own_id w r mid t (PacketDropped i) next j k l v h = absurd v
written_in says side config own_id w r mid t (ExchangeFinished i x) next j k l v h = absurd v

-- it is no longer than a packet
written_short : (says : Says) (side : Side) (config : Config) (own_id : List ℕ) (mid : SideState) (e : Event) (next : SideState) (j : Item) → IsWriting e j → Step says side config own_id mid e next → length j.payload < 2 ^ 32
written_short says side config own_id mid (ExchangeBegun cause i) next j v h = subst (λ (x : Item). length x.payload < 2 ^ 32) v (let s = h.is_written.admissible.short in omega (arith, s))
written_short says side config own_id mid (PayloadSent i) next j v h = subst (λ (x : Item). length x.payload < 2 ^ 32) v (let s = h.is_written.admissible.short in omega (arith, s))
written_short says side config own_id mid (AnswerSent i q) next j v h = subst (λ (x : Item). length x.payload < 2 ^ 32) v (let s = h.is_written.admissible.short in omega (arith, s))
written_short says side config own_id mid (IdHeard id) next j v h = absurd v
written_short says side config own_id mid (PayloadSubmitted p) next j v h = absurd v
written_short says side config own_id mid (MessageTaken i) next j v h = absurd v
written_short says side config own_id mid (GuessDropped i) next j v h = absurd v
written_short says side config own_id mid (PayloadDelivered i) next j v h = absurd v
written_short says side config own_id mid (PacketDropped i) next j v h = absurd v
written_short says side config own_id mid (ExchangeFinished i x) next j v h = absurd v

-- ---- what is known of the message that stands next

pub record IsFaced (says : Side → Says) (config : Side → Config) (side : Side) (st : SideState) (stage : Stage) (m : List ℕ) (names : Names) : Type 0 where
  pub readable : IsReadable (other_side side) (config (other_side side)) stage m
  pub short : length m < 2 ^ 32
  pub met : IsMet says config (setting side (config side) (id_text (config side).id) st) stage m
  pub kex : ReadsKex (setting side (config side) (id_text (config side).id) st) stage m names.kex
  pub serves : Serves (setting side (config side) (id_text (config side).id) st) stage

config_at : (config : Side → Config) (side : Side) (own_id : List ℕ) (st : SideState) → (setting side (config side) own_id st).config ≡ config (setting side (config side) own_id st).side
config_at config Client own_id st = refl
config_at config Server own_id st = refl

met_by : (says : Side → Says) (config : Side → Config) (sd : Side) (s : Setting) (stage : Stage) (own theirs : List (List ℕ)) (m : List ℕ) → FitsStage (says sd) s stage own theirs → (0 < length theirs → (p : Setting) × AreBoth says config s p × Faces says s p stage m) → IsMet says config s stage m
met_by says config sd s (Created k) own theirs m f g = tt
met_by says config sd s (AwaitsGroup o) own theirs m f g = g (let e : length theirs ≡ 1 = ap length f.theirs_is in omega (arith, e))
met_by says config sd s (AwaitsReply o None l p) own theirs m f g = g (let e : length theirs ≡ 1 = ap length f.theirs_is in omega (arith, e))
met_by says config sd s (AwaitsReply o (Some q) l p) own theirs m f g = g (let e : length theirs ≡ 2 = ap length f.theirs_is in omega (arith, e))
met_by says config sd s (AwaitsRequest o) own theirs m f g = g (let e : length theirs ≡ 1 = ap length f.theirs_is in omega (arith, e))
met_by says config sd s (AwaitsValue o None) own theirs m f g = g (let e : length theirs ≡ 1 = ap length f.theirs_is in omega (arith, e))
met_by says config sd s (AwaitsValue o (Some q)) own theirs m f g = g (let e : length theirs ≡ 2 = ap length f.theirs_is in omega (arith, e))
met_by says config sd s (AwaitsNewkeys exchange x host) own theirs m f g = g (some (is_gex x.names.kex) (full_made s.side (says sd) s own (theirs ++ newkeys ∷ []) exchange x host (is_gex x.names.kex) refl f).theirs_is) where
  some : (kind : Bool) → length (theirs ++ newkeys ∷ []) ≡ (if kind then 4 else 3) → 0 < length theirs
  some true e = (let l = length-append theirs (newkeys ∷ []) in omega (arith, e, l))
  some false e = (let l = length-append theirs (newkeys ∷ []) in omega (arith, e, l))

serves_by : (says : Says) (s : Setting) (stage : Stage) (own theirs : List (List ℕ)) → FitsStage says s stage own theirs → Serves s stage
serves_by says s (Created k) own theirs f = tt
serves_by says s (AwaitsGroup o) own theirs f = tt
serves_by says s (AwaitsReply o gex local public) own theirs f = tt
serves_by says s (AwaitsRequest o) own theirs f = f.server
serves_by says s (AwaitsValue o gex) own theirs f = tt
serves_by says s (AwaitsNewkeys exchange x host) own theirs f = tt

-- where a group is asked for or held, a group exchange was chosen
abbrev IsGexAt : Stage → KexName → Type 0
IsGexAt (Created k) kex = Unit {0}
IsGexAt (AwaitsGroup o) kex = is_gex kex ≡ true
IsGexAt (AwaitsReply o gex local public) kex = is_gex kex ≡ is_some gex
IsGexAt (AwaitsRequest o) kex = is_gex kex ≡ true
IsGexAt (AwaitsValue o gex) kex = is_gex kex ≡ is_some gex
IsGexAt (AwaitsNewkeys exchange x host) kex = Unit {0}

gex_by_stage : (config : Side → Config) (names : Names) (says : Says) (s : Setting) (stage : Stage) (own theirs : List (List ℕ)) → chosen_by (config Client) (config Server) ≡ Ok names → KindIs (kind_chosen config) (names_now (Inside stage)) → FitsStage says s stage own theirs → IsGexAt stage names.kex
gex_by_stage config names says s (Created own_kexinit) own theirs e k f = tt
gex_by_stage config names says s (AwaitsGroup o) own theirs e k f = sym (ap kind_by e) ∙ (sym k ∙ f.kind)
gex_by_stage config names says s (AwaitsReply o gex local public) own theirs e k f = sym (ap kind_by e) ∙ (sym k ∙ f.kind)
gex_by_stage config names says s (AwaitsRequest o) own theirs e k f = sym (ap kind_by e) ∙ (sym k ∙ f.kind)
gex_by_stage config names says s (AwaitsValue o gex) own theirs e k f = sym (ap kind_by e) ∙ (sym k ∙ f.kind)
gex_by_stage config names says s (AwaitsNewkeys exchange x host) own theirs e k f = tt

kex_by : (config : Side → Config) (side : Side) (own_id : List ℕ) (names : Names) (st : SideState) (stage : Stage) (m : List ℕ) → IsWithin (offers_of Client (config Client)) → IsWithin (offers_of Server (config Server)) → chosen_by (config Client) (config Server) ≡ Ok names → IsReadable (other_side side) (config (other_side side)) stage m → IsGexAt stage names.kex → ReadsKex (setting side (config side) own_id st) stage m names.kex
kex_by config side own_id names st (Created k) m c s e r g = λ n h.
    let still = was_strict (cause_of st.records) in
    let read : kexinit_read (setting side (config side) own_id st) m ≡ Ok (kept_strict still names) = at_setting side (config side) own_id st m (kept_strict still names) (ap (names_read side (offers_of side (config side)) still) r.2 ∙ reads_names side config names still r.0 c s e r.1) in
    let same : n ≡ kept_strict still names = (let q : Ok n ≡ Ok (kept_strict still names) = sym h ∙ read in cc) in
    ap (λ (x : Names). x.kex) same
kex_by config side own_id names st (AwaitsGroup o) m c s e r g = g
kex_by config side own_id names st (AwaitsReply o gex local public) m c s e r g = g
kex_by config side own_id names st (AwaitsRequest o) m c s e r g = g
kex_by config side own_id names st (AwaitsValue o gex) m c s e r g = g
kex_by config side own_id names st (AwaitsNewkeys exchange x host) m c s e r g = tt

one_stage : (a b : Stage) → Inside a ≡ Inside b → a ≡ b
one_stage a b e = cc

no_inside : (a : Stage) → Inside a ≡ Outside → ⊥
no_inside a e = cc

heard_place : (stage : Stage) (s : Where) → s ≡ Silent → LooksIn s stage → ⊥
heard_place stage s z (inl inside) = (let q : Inside stage ≡ Silent = sym inside ∙ z in cc)
heard_place stage s z (inr c) = (let q : Outside ≡ Silent = sym c.0 ∙ z in cc)

-- what the writer had read before it wrote is a front of what the reader wrote
pub read_before : (log plog before rest : List Event) → plog ≡ before ++ rest → NoGuesses plog → HasFront (wrote log) (handled plog) → HasFront (wrote log) (kept_in before)
read_before log plog before rest e none front =
    let plain = guesses_cut before rest (subst NoGuesses e none) in
    let whole : handled plog ≡ handled before ++ handled rest = ap handled e ∙ handled_more before rest in
    subst (HasFront (wrote log)) (sym (kept_all before plain)) (handled rest ++ front.0, sym (append_assoc (handled before) (handled rest) front.0) ∙ (ap (λ x. x ++ front.0) (sym whole) ∙ front.1))

-- The message of an exchange that is next in a link, for a stage that awaits it.
pub is_faced : (says : Side → Says) (config : Side → Config) (side : Side) (log plog : List Event) (h peer : LinkEnd) (stage : Stage) (j : Item) (more : List Item) (names : Names) → ((s : Side) → HasSizes (config s)) → IsWithin (offers_of Client (config Client)) → IsWithin (offers_of Server (config Server)) → OneSecret (says Client) (says Server) → FindsCanonical (says Server) → chosen_by (config Client) (config Server) ≡ Ok names
    → RunsInLink (talkers says config) side log h → RunsInLink (talkers says config) (other_side side) plog peer → HasFront (wrote plog) (handled log) → HasFront (wrote log) (handled plog)
    → ((i : ℕ) (x y : FinishedExchange) → slice_get (recorded log) i ≡ Some x → slice_get (recorded plog) i ≡ Some y → x ≡ y)
    → h.state.owed ≡ [] → LooksIn h.state.stands stage → wrote plog ≡ handled log ++ j ∷ more → is_kex_type (type_of j) ≡ true → IsFaced says config side h.state stage j.payload names
is_faced says config side log plog h peer stage j more names sizes cw sw secret canonical chosen run prun front pfront agree owes looks next is_kex = record {
  readable = readable;
  short = written_short (says o) o (config o) theirs c.mid c.event c.next j c.writes c.step;
  met = met_here looks;
  kex = kex_by config side own names st stage j.payload cw sw chosen readable (gex_here looks);
  serves = serves_here looks;
} where
  o : Side
  o = other_side side

  st : SideState
  st = h.state

  own : List ℕ
  own = id_text (config side).id

  theirs : List ℕ
  theirs = id_text (config o).id

  s : Setting
  s = setting side (config side) own st

  t : Trace
  t = trace_of no_trace log

  kept : Kept (says side) side (config side) own (wrote log) (handled log) st t
  kept = subst (λ q. Kept (says side) side (config side) own (wrote log) q st t) (kept_all log run.guesses) (kept_run (says side) side (config side) own log st run.ran.steps)

  here : st.stands ≡ Inside stage → FitsStage (says side) s stage t.own t.theirs
  here inside = at_stage (says side) side (config side) own st t stage inside owes kept.tidy.fits

  c : Cut (says o) o (config o) theirs plog first_state peer.state (handled log) j
  c = cut_log (says o) o (config o) theirs plog first_state peer.state (handled log) j more prun.ran.steps next

  u : Trace
  u = trace_of no_trace c.before

  k : Kept (says o) o (config o) theirs (handled log) (kept_in c.before) c.mid u
  k = subst (λ w. Kept (says o) o (config o) theirs w (kept_in c.before) c.mid u) c.wrote_is (kept_run (says o) o (config o) theirs c.before c.mid c.steps)

  peer_read : HasFront (wrote log) (kept_in c.before)
  peer_read = read_before log plog c.before c.rest c.log_is prun.guesses pfront

  known : KindIs (kind_chosen config) (names_now st.stands)
  known = known_here (says side) side config own (wrote log) (handled log) st t cw sw (heads_of (says o) config side o theirs plog peer.state (handled log) refl (sizes o) prun.ran.steps front) kept

  known_mid : KindIs (kind_chosen config) (names_now c.mid.stands)
  known_mid = known_here (says o) o config theirs (handled log) (kept_in c.before) c.mid u cw sw (heads_of (says side) config o side own log st (kept_in c.before) (sym (other_twice side)) (sizes side) run.ran.steps peer_read) k

  x : (epochs_ended (handled log) ≡ length c.mid.records) × NextIs o (config o) (kind_chosen config) (length c.mid.records) u.own j
  x = next_by (says o) o (config o) theirs (λ n. kind_chosen config) (handled log) c.mid u (kept_in c.before) c.event c.next j (sizes o) k (started_steps (says o) o (config o) theirs c.before first_state c.mid no_trace started_first c.steps) known_mid c.writes c.step

  at : length c.mid.records ≡ length st.records
  at = sym x.0 ∙ ends_open (length st.records) t.theirs (handled log) kept.accounts.theirs kept.tidy.theirs_open

  same : u.own ≡ t.theirs
  same = sym k.accounts.own.block_is ∙ (ap (λ n. exchange_block n (handled log)) at ∙ kept.accounts.theirs.block_is)

  loud : st.stands ≡ Silent → ⊥
  loud z = heard_place stage st.stands z looks

  goes : Goes o (config o) st j
  goes = next_accepted (says side) side (config side) own (config o) (kind_chosen config) (wrote log) (handled log) st t j kept owes loud known (subst (λ n. NextIs o (config o) (kind_chosen config) n t.theirs j) at (subst (λ z. NextIs o (config o) (kind_chosen config) (length c.mid.records) z j) same x.1))

  by : Goes o (config o) st j → IsReadable o (config o) stage j.payload
  by (Delivering q p) = absurd (let z : true ≡ false = sym is_kex ∙ payload_not_kex (type_of j) p in cc)
  by (Calling cookie out len p) = elim looks [
    | inl inside ↦ absurd (no_inside stage (sym inside ∙ out))
    | inr w ↦ subst (λ z. IsReadable o (config o) z j.payload) (sym (w.1).1) (cookie, len, p)
  ]
  by (Taking a q r) = elim looks [
    | inl inside ↦ subst (λ z. IsReadable o (config o) z j.payload) (one_stage a stage (sym q ∙ inside)) r
    | inr w ↦ absurd (no_inside a (sym q ∙ w.0))
  ]

  readable : IsReadable o (config o) stage j.payload
  readable = by goes

  records : st.records ≡ c.mid.records
  records =
      let mine = recorded_is (says side) side (config side) own log first_state st run.ran.steps in
      let yours = recorded_is (says o) o (config o) theirs c.before first_state c.mid c.steps in
      let whole : recorded plog ≡ recorded c.before ++ recorded c.rest = ap recorded c.log_is ∙ recorded_more c.before c.rest in
      same_records st.records c.mid.records (sym at) (λ i a b e f. agree i a b (subst (λ q. slice_get q i ≡ Some a) mine e) (subst (λ q. slice_get q i ≡ Some b) (sym whole) (get_front (recorded c.before) (recorded c.rest) i b (subst (λ q. slice_get q i ≡ Some b) yours f))))

  read : HasFront t.own u.theirs
  read =
      let grown : HasFront (exchange_block (length st.records) (wrote log)) (exchange_block (length st.records) (kept_in c.before)) = subst (λ w. HasFront (exchange_block (length st.records) w) (exchange_block (length st.records) (kept_in c.before))) peer_read.1 (block_grows (length st.records) (kept_in c.before) peer_read.0) in
      subst (λ w. HasFront w u.theirs) kept.accounts.own.block_is
      (subst (HasFront (exchange_block (length st.records) (wrote log))) (ap (λ n. exchange_block n (kept_in c.before)) (sym at) ∙ k.accounts.theirs.block_is) grown)

  serves_here : LooksIn st.stands stage → Serves s stage
  serves_here (inl inside) = serves_by (says side) s stage t.own t.theirs (here inside)
  serves_here (inr z) = subst (Serves s) (sym (z.1).1) tt

  gex_here : LooksIn st.stands stage → IsGexAt stage names.kex
  gex_here (inl inside) = gex_by_stage config names (says side) s stage t.own t.theirs chosen (subst (λ x. KindIs (kind_chosen config) (names_now x)) inside known) (here inside)
  gex_here (inr z) = subst (λ q. IsGexAt q names.kex) (sym (z.1).1) tt

  met : st.stands ≡ Inside stage → 0 < length t.theirs → (p : Setting) × AreBoth says config s p × Faces says s p stage j.payload
  met inside some =
      let w = written_in (says o) o (config o) theirs (handled log) (kept_in c.before) c.mid u c.event c.next j k (subst (λ z. 0 < length z) (sym same) some) c.writes c.step in
      let p = setting o (config o) theirs c.mid in
      let heard : st.heard ≡ Some theirs = heard_loud (says side) side (config side) own theirs log st run.heard run.ran.steps loud in
      let peer_heard : c.mid.heard ≡ Some (id_text (config (other_side o)).id) = heard_loud (says o) o (config o) theirs (id_text (config (other_side o)).id) c.before c.mid (hears_cut (id_text (config (other_side o)).id) c.before c.rest (subst (HearsAs (id_text (config (other_side o)).id)) c.log_is prun.heard)) c.steps (λ z. (let q : Inside w.stage ≡ Silent = sym w.inside ∙ z in cc)) in (
        p,
        record { config_is = config_at config side own st; peer_config_is = config_at config o theirs c.mid; sizes = sizes; client_within = cw; server_within = sw; secret = secret; canonical = canonical },
        record {
          own = t.own;
          theirs = t.theirs;
          here = subst (λ d. FitsStage (says d) s stage t.own t.theirs) (sym (setting_side side (config side) own st)) (here inside);
          peer_stage = w.stage;
          more = w.more;
          read = u.theirs;
          there = subst (λ d. FitsStage (says d) p w.stage (t.theirs ++ j.payload ∷ w.more) u.theirs) (sym (setting_side o (config o) theirs c.mid)) (subst (λ z. FitsStage (says o) p w.stage (z ++ j.payload ∷ w.more) u.theirs) same w.fits);
          front = read;
          sides = setting_side o (config o) theirs c.mid ∙ ap other_side (sym (setting_side side (config side) own st));
          link = one_link config side st c.mid heard peer_heard records;
        },
      )

  met_here : LooksIn st.stands stage → IsMet says config s stage j.payload
  met_here (inl inside) = met_by says config side s stage t.own t.theirs j.payload (here inside) (met inside)
  met_here (inr z) = subst (λ q. IsMet says config s q j.payload) (sym (z.1).1) tt
