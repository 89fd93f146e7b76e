-- The kind of each exchange is that of the names which its first message read gives: so of any run, whatever it was
-- fed.
use Rattle.std.proofs.Common.{if◌then◌else◌, ◌≡◌, ℕ, List, [], ◌∷◌, ◌++◌, length, refl, sym, ◌∙◌, ap, subst, Option, Some, None, Bool, true, false, inl, inr}
use Rattle.std.specs.Prelude.{Ok}
use Rattle.ssh_wire.specs.declared.side.Side.{Side}
use Rattle.ssh_wire.specs.declared.side.Side.TheVariants.{Client, Server}
use Rattle.ssh_packet.specs.Sealing.{Item}
use Rattle.ssh_negotiate.specs.declared.negotiation.Names.{Names}
use Rattle.ssh_kex.specs.declared.config.Config.{Config}
use Rattle.ssh_kex.specs.declared.exchange.FinishedExchange.{FinishedExchange}
use Rattle.ssh_kex.specs.declared.exchange.ServerHost.{ServerHost}
use Rattle.ssh_kex.specs.Messages.{is_gex, newkeys}
use Rattle.ssh_negotiate.specs.Reading.{names_read}
use Rattle.ssh_kex.specs.Setting.{Says, Setting, offers_of, held_names, behind_guess}
use Rattle.ssh_kex.specs.Stages.{Stage, Created, AwaitsGroup, AwaitsReply, AwaitsRequest, AwaitsValue, AwaitsNewkeys}
use Rattle.ssh_rules.proofs.side.StageFits.{Holds, FitsStage, FitsWhere, Trace, trace_after}
use Rattle.ssh_negotiate.specs.Causes.{was_strict}
use Rattle.ssh_rules.proofs.side.Flags.{read_alike}
use Rattle.ssh_rules.specs.Wire.{exchange_block, InBlocks}
use Rattle.ssh_rules.specs.MessageTypes.{order}
use Rattle.ssh_rules.specs.Machine.{SideState, setting, Where, Silent, Outside, Inside, Event, Steps, first_state, names_now}
use Rattle.ssh_rules.specs.Log.{wrote, kept_in}
use Rattle.ssh_kex.specs.declared.exchange.Exchange.{Exchange}
use Rattle.ssh_rules.specs.Made.{MadeBy}
use Rattle.ssh_rules.specs.Attacked.{block_names, known_names, kind_in}
use Rattle.ssh_rules.proofs.side.Accounts.{Kept, kept_first, more_wrote, more_kept, kept_on, accounts_step}
use Rattle.ssh_rules.proofs.side.StageSteps.{setting_side}
use Rattle.ssh_rules.proofs.side.Grammar.{grammar, Along, KindKnown}
use Rattle.ssh_rules.proofs.side.LedgerSteps.{tidy_step}
use Rattle.ssh_rules.proofs.pair.NoGuess.{block_head}
use Rattle.ssh_rules.specs.Snapshots.{KindIs}
use Rattle.ssh_kex.specs.declared.exchange.GexChosen.{GexChosen}
use Rattle.ssh_rules.proofs.side.OneMessage.{Spoken, spoken, client_spoken, server_spoken}

-- a KEXINIT that was read first, with the kex of these names
pub record ReadFirst (side : Side) (config : Config) (theirs : List (List ℕ)) (n : Names) : Type 0 where
  pub strict : Bool
  pub payload : List ℕ
  pub more : List (List ℕ)
  pub read_names : Names
  pub first : theirs ≡ payload ∷ more
  pub read : names_read side (offers_of side config) strict payload ≡ Ok read_names
  pub kex : read_names.kex ≡ n.kex

held_kex : (read held : Names) → Holds read held → read.kex ≡ held.kex
held_kex read held (inl e) = ap (λ (n : Names). n.kex) (sym e)
held_kex read held (inr h) = ap (λ (n : Names). n.kex) (sym h.1)

pub names_kex : (read held : Names) → held ≡ held_names read → read.kex ≡ held.kex
names_kex read held e = sym (ap (λ (n : Names). n.kex) e ∙ by_flag read.ignore_guessed) where
  by_flag : (b : Bool) → (let n : Names = if b then behind_guess read else read in n).kex ≡ read.kex
  by_flag true = refl
  by_flag false = refl

pub client_first : (t : Spoken) (group : Option GexChosen) (theirs : List (List ℕ)) → theirs ++ newkeys ∷ [] ≡ client_spoken t group → (more : List (List ℕ)) × (theirs ≡ t.client_kexinit ∷ more)
client_first t None [] e = cc
client_first t (Some g) [] e = cc
client_first t None (p ∷ more) e = (more, ap (λ q. q ∷ more) (let f : p ≡ t.client_kexinit = cc in f))
client_first t (Some g) (p ∷ more) e = (more, ap (λ q. q ∷ more) (let f : p ≡ t.client_kexinit = cc in f))

pub server_first : (t : Spoken) (group : Option GexChosen) (theirs : List (List ℕ)) → theirs ++ newkeys ∷ [] ≡ server_spoken t group → (more : List (List ℕ)) × (theirs ≡ t.server_kexinit ∷ more)
server_first t None [] e = cc
server_first t (Some g) [] e = cc
server_first t None (p ∷ more) e = (more, ap (λ q. q ∷ more) (let f : p ≡ t.server_kexinit = cc in f))
server_first t (Some g) (p ∷ more) e = (more, ap (λ q. q ∷ more) (let f : p ≡ t.server_kexinit = cc in f))

made_first : (side : Side) (says : Says) (s : Setting) (own theirs : List (List ℕ)) (exchange : Exchange) (x : FinishedExchange) (host : Option ServerHost) → MadeBy side says s own (theirs ++ newkeys ∷ []) exchange x host → ReadFirst side s.config theirs x.names
made_first Client says s own theirs exchange x host m = (let f = server_first (spoken exchange m.host m.signature) exchange.gex theirs m.theirs_is in record { strict = was_strict s.cause; payload = exchange.server_kex_init; more = f.0; read_names = m.read_names; first = f.1; read = m.read; kex = names_kex m.read_names m.names m.names_are ∙ ap (λ (y : FinishedExchange). y.names.kex) (sym m.made) })
made_first Server says s own theirs exchange x host m = (let f = client_first (spoken exchange m.shown.blob m.signature) exchange.gex theirs m.theirs_is in record { strict = was_strict s.cause; payload = exchange.client_kex_init; more = f.0; read_names = m.read_names; first = f.1; read = m.read; kex = names_kex m.read_names m.names m.names_are ∙ ap (λ (y : FinishedExchange). y.names.kex) (sym m.made) })

pub stage_first : (says : Says) (s : Setting) (stage : Stage) (own theirs : List (List ℕ)) (n : Names) → names_now (Inside stage) ≡ Some n → FitsStage says s stage own theirs → ReadFirst s.side s.config theirs n
stage_first says s (Created k) own theirs n e f = absurd (let q : None ≡ Some n = e in cc)
stage_first says s (AwaitsGroup o) own theirs n e f = by_opened where
  is : o.names ≡ n
  is = (let q : Some o.names ≡ Some n = e in cc)

  by_opened : ReadFirst s.side s.config theirs n
  by_opened = record { strict = was_strict s.cause; payload = o.peer_kexinit; more = []; read_names = f.opened.read_names; first = f.theirs_is; read = f.opened.read; kex = held_kex f.opened.read_names o.names f.opened.held ∙ ap (λ (m : Names). m.kex) is }
stage_first says s (AwaitsReply o None l p) own theirs n e f = record { strict = was_strict s.cause; payload = o.peer_kexinit; more = []; read_names = f.opened.read_names; first = f.theirs_is; read = f.opened.read; kex = held_kex f.opened.read_names o.names f.opened.held ∙ ap (λ (m : Names). m.kex) is } where
  is : o.names ≡ n
  is = (let q : Some o.names ≡ Some n = e in cc)
stage_first says s (AwaitsReply o (Some g) l p) own theirs n e f = record { strict = was_strict s.cause; payload = o.peer_kexinit; more = _; read_names = f.opened.read_names; first = f.theirs_is; read = f.opened.read; kex = held_kex f.opened.read_names o.names f.opened.held ∙ ap (λ (m : Names). m.kex) is } where
  is : o.names ≡ n
  is = (let q : Some o.names ≡ Some n = e in cc)
stage_first says s (AwaitsRequest o) own theirs n e f = record { strict = was_strict s.cause; payload = o.peer_kexinit; more = []; read_names = f.opened.read_names; first = f.theirs_is; read = f.opened.read; kex = held_kex f.opened.read_names o.names f.opened.held ∙ ap (λ (m : Names). m.kex) is } where
  is : o.names ≡ n
  is = (let q : Some o.names ≡ Some n = e in cc)
stage_first says s (AwaitsValue o None) own theirs n e f = record { strict = was_strict s.cause; payload = o.peer_kexinit; more = []; read_names = f.opened.read_names; first = f.theirs_is; read = f.opened.read; kex = held_kex f.opened.read_names o.names f.opened.held ∙ ap (λ (m : Names). m.kex) is } where
  is : o.names ≡ n
  is = (let q : Some o.names ≡ Some n = e in cc)
stage_first says s (AwaitsValue o (Some g)) own theirs n e f = record { strict = was_strict s.cause; payload = o.peer_kexinit; more = _; read_names = f.opened.read_names; first = f.theirs_is; read = f.opened.read; kex = held_kex f.opened.read_names o.names f.opened.held ∙ ap (λ (m : Names). m.kex) is } where
  is : o.names ≡ n
  is = (let q : Some o.names ≡ Some n = e in cc)
stage_first says s (AwaitsNewkeys exchange made host) own theirs n e f = subst (λ m. ReadFirst s.side s.config theirs m) (let q : Some made.names ≡ Some n = e in let r : made.names ≡ n = cc in r) (made_first s.side says s own theirs exchange made host f)

-- ---- along a run

-- by what was kept: of each exchange the kind of the names that its first message gives
abbrev pub kind_read : Side → Config → (ℕ → Bool) → List Item → ℕ → Bool
kind_read side config strict kept k = kind_in (block_names side config (strict k) (exchange_block k kept))

pub config_is : (side : Side) (config : Config) (own_id : List ℕ) (st : SideState) → (setting side config own_id st).config ≡ config
config_is Client config own_id st = refl
config_is Server config own_id st = refl

pub known_here : (says : Says) (side : Side) (config : Config) (own_id : List ℕ) (strict : ℕ → Bool) (w r more : List Item) (st : SideState) (t : Trace) → Kept says side config own_id w r st t → KindKnown (kind_read side config strict (r ++ more)) st
known_here says side config own_id strict w r more st t kept = by st.stands refl where
  by_names : (s : Where) → st.stands ≡ s → (names : Option Names) → names_now s ≡ names → KindIs (kind_read side config strict (r ++ more) (length st.records)) names
  by_names s q None e = tt
  by_names Silent q (Some n) e = absurd (let z : None ≡ Some n = e in cc)
  by_names Outside q (Some n) e = absurd (let z : None ≡ Some n = e in cc)
  by_names (Inside stage) q (Some n) e =
      let g : FitsStage says (setting side config own_id st) stage (t.own ++ st.owed) t.theirs = subst (λ x. FitsWhere says (setting side config own_id st) x (t.own ++ st.owed) t.theirs) q kept.tidy.fits in
      let f : ReadFirst side config t.theirs n = subst (λ c. ReadFirst side c t.theirs n) (config_is side config own_id st) (subst (λ d. ReadFirst d (setting side config own_id st).config t.theirs n) (setting_side side config own_id st) (stage_first says (setting side config own_id st) stage (t.own ++ st.owed) t.theirs n e g)) in
      let b = block_head (length st.records) r more f.payload f.more (kept.accounts.theirs.block_is ∙ f.first) in
      let a = read_alike side (offers_of side config) f.strict (strict (length st.records)) f.payload f.read_names f.read in
      sym (ap (λ ms. kind_in (block_names side config (strict (length st.records)) ms)) b.1 ∙ ap (λ z. kind_in (known_names z)) a.1 ∙ ap is_gex (a.3 ∙ f.kex))

  by : (s : Where) → st.stands ≡ s → KindKnown (kind_read side config strict (r ++ more)) st
  by s q = subst (λ x. KindIs (kind_read side config strict (r ++ more) (length st.records)) (names_now x)) (sym q) (by_names s q (names_now s) refl)

known_along : (says : Says) (side : Side) (config : Config) (own_id : List ℕ) (strict : ℕ → Bool) (log : List Event) (w r all : List Item) (st st' : SideState) (t : Trace) → Kept says side config own_id w r st t → (h : Steps says side config own_id st log st') → r ++ kept_in log ≡ all → Along (KindKnown (kind_read side config strict all)) says side config own_id log st st' h
known_along says side config own_id strict [] w r all st st' t k h e = subst (λ l. KindKnown (kind_read side config strict l) st) e (known_here says side config own_id strict w r [] st t k)
known_along says side config own_id strict (ev ∷ es) w r all st st' t k h e = (
  subst (λ l. KindKnown (kind_read side config strict l) st) e (known_here says side config own_id strict w r (kept_in (ev ∷ es)) st t k),
  known_along says side config own_id strict es (more_wrote w ev) (more_kept r ev) all h.0 st' (trace_after t ev)
      (record { tidy = tidy_step says side config own_id st ev h.0 t k.tidy h.1; accounts = accounts_step says side config own_id w r st ev h.0 t k.tidy k.accounts h.1 })
      h.2 (kept_on r ev es ∙ e),
)

-- So the packets that any side wrote stand in blocks, by the kinds of the names that it read.
pub wrote_in_blocks : (says : Says) (side : Side) (config : Config) (own_id : List ℕ) (strict : ℕ → Bool) (log : List Event) (st : SideState) → Steps says side config own_id first_state log st → InBlocks side (kind_read side config strict (kept_in log)) 1 (order side (kind_read side config strict (kept_in log) 0)) (wrote log)
wrote_in_blocks says side config own_id strict log st h =
    grammar says side config own_id (kind_read side config strict (kept_in log)) log st h (known_along says side config own_id strict log [] [] (kept_in log) first_state st _ (kept_first says side config own_id) h refl)
