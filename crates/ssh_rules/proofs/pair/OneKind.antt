-- In a link all exchanges of a side are of the kind that it reads in the other's own KEXINITs.
use Rattle.std.proofs.Common.{◌≡◌, ℕ, List, ◌∷◌, ◌++◌, length, take, refl, sym, ◌∙◌, ap, subst, Option, Some, None, Bool, Ok}
use Rattle.ssh_wire.specs.declared.side.Side.{Side}
use Rattle.ssh_wire.specs.declared.side.Side.TheVariants.{Client, Server}
use Rattle.ssh_negotiate.specs.declared.negotiation.Names.{Names}
use Rattle.ssh_kex.specs.declared.config.Config.{Config}
use Rattle.ssh_kex.specs.declared.exchange.FinishedExchange.{FinishedExchange}
use Rattle.ssh_kex.specs.declared.exchange.ServerHost.{ServerHost}
use Rattle.ssh_kex.specs.Messages.{is_gex}
use Rattle.ssh_negotiate.specs.Advertised.{kexinit}
use Rattle.ssh_wire.specs.Sides.{other_side}
use Rattle.ssh_negotiate.specs.Reading.{names_read}
use Rattle.ssh_kex.specs.Setting.{Says, Setting, offers_of}
use Rattle.ssh_negotiate.specs.Causes.{was_strict}
use Rattle.ssh_rules.specs.Wire.{exchange_block, HasFront}
use Rattle.ssh_rules.specs.Machine.{Where, Silent, Outside, Inside, setting, Event, names_now}
use Rattle.ssh_rules.specs.Made.{MadeBy}
use Rattle.ssh_kex.specs.declared.exchange.Exchange.{Exchange}
use Rattle.ssh_rules.proofs.side.StageFits.{no_trace, FitsStage, FitsWhere}
use Rattle.ssh_rules.proofs.side.Ledgers.{setting_at}
use Rattle.ssh_rules.specs.Log.{wrote, handled, kept_in}
use Rattle.ssh_rules.specs.Turns.{LinkEnd, Talkers}
use Rattle.ssh_rules.proofs.side.Accounts.{Kept, trace_of}
use Rattle.ssh_rules.proofs.side.StageSteps.{setting_side}
use Rattle.ssh_rules.specs.Valid.{HasSizes}
use Rattle.ssh_rules.proofs.side.Known.{ReadFirst, stage_first, names_kex, config_is}
use Rattle.ssh_rules.proofs.turns.LinkBounded.{kept_of}
use Rattle.ssh_rules.proofs.pair.NoGuess.{first_kexinit, block_head}
use Rattle.ssh_rules.specs.Snapshots.{KindIs, RunsInLink, IsOfKind}
use Rattle.ssh_rules.proofs.side.Ran.{kept_all}
use Rattle.ssh_kex.specs.declared.exchange.GexChosen.{GexChosen}
use Rattle.ssh_rules.proofs.side.OneMessage.{Spoken, spoken, client_spoken, server_spoken}

-- the kind that a side reads in an own KEXINIT of the other
abbrev pub ReadsKind : Side → Config → Config → Bool → Type 0
ReadsKind side config peer kind = (b : Bool) (cookie : List ℕ) (n : Names) → length cookie ≡ 16 → names_read side (offers_of side config) b (kexinit (offers_of (other_side side) peer) cookie) ≡ Ok n → is_gex n.kex ≡ kind

-- a whole block that was read begins with the KEXINIT whose names were recorded
whole_client : (t : Spoken) (group : Option GexChosen) (theirs : List (List ℕ)) → theirs ≡ client_spoken t group → (more : List (List ℕ)) × (theirs ≡ t.client_kexinit ∷ more)
whole_client t None theirs e = (_, e)
whole_client t (Some g) theirs e = (_, e)

whole_server : (t : Spoken) (group : Option GexChosen) (theirs : List (List ℕ)) → theirs ≡ server_spoken t group → (more : List (List ℕ)) × (theirs ≡ t.server_kexinit ∷ more)
whole_server t None theirs e = (_, e)
whole_server t (Some g) theirs e = (_, e)

pub record_first : (side : Side) (says : Says) (s : Setting) (own theirs : List (List ℕ)) (exchange : Exchange) (x : FinishedExchange) (host : Option ServerHost) → MadeBy side says s own theirs exchange x host → ReadFirst side s.config theirs x.names
record_first Client says s own theirs exchange x host m = (let f = whole_server (spoken exchange m.host m.signature) exchange.gex theirs m.theirs_is in record { strict = was_strict s.cause; payload = exchange.server_kex_init; more = f.0; read_names = m.read_names; first = f.1; read = m.read; kex = names_kex m.read_names m.names m.names_are ∙ ap (λ (y : FinishedExchange). y.names.kex) (sym m.made) })
record_first Server says s own theirs exchange x host m = (let f = whole_client (spoken exchange m.shown.blob m.signature) exchange.gex theirs m.theirs_is in record { strict = was_strict s.cause; payload = exchange.client_kex_init; more = f.0; read_names = m.read_names; first = f.1; read = m.read; kex = names_kex m.read_names m.names m.names_are ∙ ap (λ (y : FinishedExchange). y.names.kex) (sym m.made) })

pub of_kind : (t : Talkers) (side : Side) (kind : Bool) (log plog : List Event) (h peer : LinkEnd) → HasSizes (t.config (other_side side)) → ReadsKind side (t.config side) (t.config (other_side side)) kind → RunsInLink t side log h → RunsInLink t (other_side side) plog peer → HasFront (wrote plog) (handled log) → IsOfKind kind h.state
of_kind t side kind log plog h peer sizes reads r p front = record {
  now = now h.state.stands refl;
  each = λ k x e. (let m = kept.accounts.each k x e in by_first k x.names (exchange_block k (handled log)) refl
      (subst (λ c. ReadFirst side c (exchange_block k (handled log)) x.names) (config_is side (t.config side) (t.own_id side) _) (record_first side (t.says side) (setting_at side (t.config side) (t.own_id side) h.state.heard (take k h.state.records)) (exchange_block k (wrote log)) (exchange_block k (handled log)) m.exchange x m.host m.made)));
} where
  kept : Kept (t.says side) side (t.config side) (t.own_id side) (wrote log) (handled log) h.state (trace_of no_trace log)
  kept = subst (λ q. Kept (t.says side) side (t.config side) (t.own_id side) (wrote log) q h.state (trace_of no_trace log)) (kept_all log r.guesses) (kept_of t side log h r)

  by_first : (k : ℕ) (n : Names) (theirs : List (List ℕ)) → exchange_block k (handled log) ≡ theirs → ReadFirst side (t.config side) theirs n → is_gex n.kex ≡ kind
  by_first k n theirs e f =
      let head = block_head k (handled log) front.0 f.payload f.more (e ∙ f.first) in
      let c = first_kexinit (t.says (other_side side)) (other_side side) (t.config (other_side side)) (t.own_id (other_side side)) (wrote plog) (kept_in plog) peer.state (trace_of no_trace plog) k f.payload head.0 sizes (kept_of t (other_side side) plog peer p) (ap (λ v. exchange_block k v) (sym front.1) ∙ head.1) in
      sym (ap is_gex f.kex) ∙ reads f.strict c.0 f.read_names c.1 (ap (λ v. names_read side (offers_of side (t.config side)) f.strict v) (sym c.2) ∙ f.read)

  by_names : (s : Where) → h.state.stands ≡ s → (names : Option Names) → names_now s ≡ names → KindIs kind names
  by_names s q None e = tt
  by_names Silent q (Some n) e = absurd (let z : None ≡ Some n = e in cc)
  by_names Outside q (Some n) e = absurd (let z : None ≡ Some n = e in cc)
  by_names (Inside stage) q (Some n) e =
      let s = setting side (t.config side) (t.own_id side) h.state in
      let trace = trace_of no_trace log in
      let g : FitsStage (t.says side) s stage (trace.own ++ h.state.owed) trace.theirs = subst (λ x. FitsWhere (t.says side) s x (trace.own ++ h.state.owed) trace.theirs) q kept.tidy.fits in
      by_first (length h.state.records) n trace.theirs kept.accounts.theirs.block_is (subst (λ c. ReadFirst side c trace.theirs n) (config_is side (t.config side) (t.own_id side) h.state) (subst (λ d. ReadFirst d s.config trace.theirs n) (setting_side side (t.config side) (t.own_id side) h.state) (stage_first (t.says side) s stage (trace.own ++ h.state.owed) trace.theirs n e g)))

  now : (s : Where) → h.state.stands ≡ s → KindIs kind (names_now h.state.stands)
  now s q = subst (λ x. KindIs kind (names_now x)) (sym q) (by_names s q (names_now s) refl)
