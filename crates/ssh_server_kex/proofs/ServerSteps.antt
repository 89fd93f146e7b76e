-- A server's rows are rows of its machine.
use Rattle.std.proofs.Common.{◌≡◌, refl, sym, ap, subst, ◌∙◌, Bool, false, ◌||◌, Some, None, Result, Ok, Err, inr}
use Rattle.std.specs.Prelude.{IfOk}
use Rattle.std.specs.Global.{Box}
use Rattle.ssh_negotiate.specs.Causes.{was_strict}
use Rattle.ssh_negotiate.specs.declared.kex.KexCause.{KexCause}
use Rattle.ssh_negotiate.specs.declared.negotiation.Names.{Names}
use Rattle.ssh_packet.specs.Writing.{Writer}
use Rattle.ssh_packet.specs.declared.keys.CipherPair.{CipherPair}
use Rattle.ssh_packet.specs.declared.reader.Incoming.{Incoming}
use Rattle.ssh_wire.specs.declared.error.Error.{Error}
use Rattle.ssh_wire.specs.declared.side.Side.TheVariants.{Server}
use Rattle.ssh_kex.specs.Messages.{host_with}
use Rattle.ssh_server_kex.specs.ServerAnswers.{AnswersClient, AnswersSizes}
use Rattle.ssh_server_kex.specs.ServerRows.{AnswersRequest, AnswersValue}
use Rattle.ssh_server_kex.specs.ServerViews.{ServerKeeps, server_behind_guess, server_drops_guess, server_machine}
use Rattle.ssh_kex.specs.Setting.{Says, Setting, group_of, made_of}
use Rattle.ssh_kex.specs.Signature.{judged}
use Rattle.ssh_kex.specs.Stages.{Machine, AwaitsNewkeys}
use Rattle.ssh_kex.specs.Stepping.{Progresses}
use Rattle.ssh_kex.specs.declared.config.Config.{Config}
use Rattle.ssh_kex.specs.declared.exchange.Exchange.{Exchange}
use Rattle.ssh_kex.specs.declared.exchange.FinishedExchange.{FinishedExchange}
use Rattle.ssh_kex.specs.declared.exchange.GexChosen.{GexChosen}
use Rattle.ssh_kex.specs.declared.progress.KexProgress.{KexProgress}
use Rattle.ssh_kex.specs.declared.progress.KexProgress.TheVariants.{NeedsReply}
use Rattle.ssh_server_kex.specs.declared.server_kex.ServerState.{ServerState}
use Rattle.ssh_server_kex.specs.declared.server_kex.ServerState.TheVariants as states

-- ---- a wrong guess

-- the names of a state in which none is dropped
pub kept_request : (n : Names) (state : ServerState) → state ≡ states.AwaitsRequest n → server_drops_guess state ≡ false → n.ignore_guessed ≡ false
kept_request n state is kept = ap server_drops_guess (sym is) ∙ kept

pub kept_value : (n : Names) (state : ServerState) → state ≡ states.AwaitsValue n → server_drops_guess state ≡ false → n.ignore_guessed ≡ false
kept_value n state is kept = ap server_drops_guess (sym is) ∙ kept

pub still_keeps : (config : Config) (x : Exchange) (state : ServerState) → ServerKeeps config x state → ServerKeeps config x (server_behind_guess state)
still_keeps config x states.Created h = h
still_keeps config x (states.AwaitsRequest n) h = record { blobs = h.blobs; client_id = h.client_id; server_id = h.server_id; client_kex_init = h.client_kex_init; server_kex_init = h.server_kex_init; kind = h.kind; exchanges = h.exchanges; shown = h.shown; presents = h.presents }
still_keeps config x (states.AwaitsValue n) h = record { blobs = h.blobs; client_id = h.client_id; server_id = h.server_id; client_kex_init = h.client_kex_init; server_kex_init = h.server_kex_init; group = h.group; kind = h.kind; exchanges = h.exchanges; shown = h.shown; presents = h.presents }
still_keeps config x (states.AwaitsNewkeys made cipher) h = h

-- ---- the sizes that a client asks for

request_answered : (says : Says) (config : Config) (cause : KexCause) (x : Exchange) (n : Names) (i : Incoming) (old new : Writer) (g : GexChosen) → n.ignore_guessed ≡ false → AnswersRequest says.finds i.payload.now old new g → Progresses says (server_machine config cause x (states.AwaitsRequest n)) (Some i) old (NeedsReply (server_machine config cause (record x { gex = Some g }) (states.AwaitsValue n)) false) new
request_answered says config cause x n i old new g kept a =
    inr (record {
      kept = kept;
      written = _;
      takes = record { sizes = g.params; group = g.group; payload_is = a.payload_is; finds = a.finds; short = a.short; leads = record { written_is = refl; next_is = refl } };
      setting_is = refl;
      reset_is = refl;
      puts = (new, a.puts, refl);
    })

pub request_progresses : (says : Says) (config : Config) (cause : KexCause) (x : Exchange) (state : ServerState) (m : Machine) (n : Names) (i : Incoming) (old new : Writer) (r : Result (KexProgress Machine) Error) → server_machine config cause x state ≡ m → state ≡ states.AwaitsRequest n → server_drops_guess state ≡ false → IfOk r (λ p. AnswersSizes says.finds config cause x n i.payload.now p old new) → IfOk r (λ p. Progresses says m (Some i) old p new)
request_progresses says config cause x state m n i old new (Err e) v s kept h = tt
request_progresses says config cause x state m n i old new (Ok p) v s kept h =
    subst (λ (k : Machine). Progresses says k (Some i) old p new) (ap (server_machine config cause x) (sym s) ∙ v)
    (subst (λ q. Progresses says (server_machine config cause x (states.AwaitsRequest n)) (Some i) old q new) (sym h.done) (request_answered says config cause x n i old new h.gex (kept_request n state s kept) h.answers))

-- ---- a client's value

value_answered : (says : Says) (config : Config) (cause : KexCause) (x y : Exchange) (n : Names) (i : Incoming) (old new : Writer) (f : FinishedExchange × Box CipherPair) (reset : Bool) → n.ignore_guessed ≡ false
    → AnswersValue (says.server_makes n.kex (group_of x.gex)) (says.agrees n.kex (group_of x.gex)) says.signs config cause n x y i.payload.now old new f
    → reset ≡ (f.0.names.strict_kex || was_strict cause)
    → Progresses says (server_machine config cause x (states.AwaitsValue n)) (Some i) old (NeedsReply (server_machine config cause y (states.AwaitsNewkeys f.0 f.1)) reset) new
value_answered says config cause x y n i old new f reset kept a told =
    let z : Exchange = record x { client_ephemeral = a.value; server_ephemeral = a.own_value } in
    let same : f.0 ≡ made_of cause n z a.shown.blob (Some a.secret) = a.made_is ∙ ap (λ (w : Exchange). made_of cause n w a.shown.blob (Some a.secret)) a.exchange_is in
    inr (record {
      kept = kept;
      written = _;
      takes = record {
        value = a.value;
        own_value = a.own_value;
        secret = a.secret;
        signature = a.signature;
        shown = a.shown;
        payload_is = a.payload_is;
        value_short = a.value_short;
        own_value_short = a.own_value_short;
        host_short = a.host_short;
        signature_short = a.signature_short;
        agrees = a.agrees;
        makes = a.makes;
        presents = a.presents;
        signs = subst (λ h. says.signs (host_with n a.shown.blob) h (judged a.signature)) (ap (λ (m : FinishedExchange). m.hash) same) a.signs;
        leads = record { written_is = refl; next_is = ap (λ (w : Exchange). AwaitsNewkeys w f.0 None) a.exchange_is ∙ ap (λ (m : FinishedExchange). AwaitsNewkeys z m None) same };
      };
      setting_is = ap (λ (w : Exchange). setting_with config cause w) a.exchange_is;
      reset_is = told;
      puts = a.puts;
    })
  where
    setting_with : Config → KexCause → Exchange → Setting
    setting_with config cause w = record { side = Server; config = config; client_id = w.client_id; server_id = w.server_id; cause = cause }

takes_value : (says : Says) (config : Config) (cause : KexCause) (x : Exchange) (n : Names) (i : Incoming) (old new : Writer) (p : KexProgress Machine) → n.ignore_guessed ≡ false → AnswersClient (says.server_makes n.kex (group_of x.gex)) (says.agrees n.kex (group_of x.gex)) says.signs config cause x n i.payload.now p old new → Progresses says (server_machine config cause x (states.AwaitsValue n)) (Some i) old p new
takes_value says config cause x n i old new p kept h =
    subst (λ q. Progresses says (server_machine config cause x (states.AwaitsValue n)) (Some i) old q new) (sym h.done)
    (value_answered says config cause x h.exchange n i old new h.made _ kept h.answers refl)

-- `says` goes by the configuration, which the machine holds
pub value_progresses : (says : Config → Says) (config : Config) (cause : KexCause) (x : Exchange) (state : ServerState) (m : Machine) (n : Names) (i : Incoming) (old new : Writer) (r : Result (KexProgress Machine) Error) → server_machine config cause x state ≡ m → state ≡ states.AwaitsValue n → server_drops_guess state ≡ false
    → IfOk r (λ p. AnswersClient ((says config).server_makes n.kex (group_of x.gex)) ((says config).agrees n.kex (group_of x.gex)) (says config).signs config cause x n i.payload.now p old new)
    → IfOk r (λ p. Progresses (says m.setting.config) m (Some i) old p new)
value_progresses says config cause x state m n i old new (Err e) v s kept h = tt
value_progresses says config cause x state m n i old new (Ok p) v s kept h =
    subst (λ (k : Machine). Progresses (says k.setting.config) k (Some i) old p new) (ap (server_machine config cause x) (sym s) ∙ v)
    (takes_value (says config) config cause x n i old new p (kept_value n state s kept) h)
