-- A client's KEXINIT and its NEWKEYS are rows of a server's machine.
use Rattle.std.proofs.Common.{◌≡◌, ℕ, ◌<◌, ◌^◌, List, [], ◌∷◌, length, refl, sym, ap, subst, ◌∙◌, Bool, true, false, Option, Some, None, is_some, Result, Ok, Err, inl, inr}
use Rattle.std.specs.Prelude.{IfErr, IfOk, IfSome}
use Rattle.std.specs.Global.{Box}
use Rattle.ssh_negotiate.specs.Causes.{was_strict}
use Rattle.ssh_negotiate.specs.Tables.{shape_of}
use Rattle.ssh_negotiate.specs.declared.kex.KexCause.{KexCause}
use Rattle.ssh_negotiate.specs.declared.negotiation.Names.{Names}
use Rattle.ssh_packet.specs.Writing.{SameButRoom, Writer}
use Rattle.ssh_packet.specs.declared.keys.CipherPair.{CipherPair}
use Rattle.ssh_packet.specs.declared.reader.Incoming.{Incoming}
use Rattle.ssh_wire.specs.declared.error.Error.{Error}
use Rattle.ssh_wire.specs.declared.error.Error.TheVariants.{Memory}
use Rattle.ssh_wire.specs.declared.side.Side.TheVariants.{Server}
use Rattle.ssh_kex.specs.Views.{EndsAtOnce, HasKeys, Lasts}
use Rattle.ssh_kex.specs.Messages.{is_gex, newkeys}
use Rattle.ssh_server_kex.specs.ServerAnswers.{AnswersOpening, ServerRefusesKexinit}
use Rattle.ssh_server_kex.specs.ServerRows.{CanAnswer, OpensServer}
use Rattle.ssh_server_kex.specs.ServerViews.{Begins, CanAsk, CanBegin, IsFresh, server_machine, server_opened}
use Rattle.ssh_kex.specs.Setting.{Says, Setting, Opened, kept_of}
use Rattle.ssh_kex.specs.Stages.{Machine, AwaitsRequest, AwaitsValue, OpensBy}
use Rattle.ssh_kex.specs.Stepping.{Progresses}
use Rattle.ssh_kex.specs.declared.config.Config.{Config}
use Rattle.ssh_kex.specs.declared.exchange.Exchange.{Exchange}
use Rattle.ssh_kex.specs.declared.exchange.FinishedExchange.{FinishedExchange}
use Rattle.ssh_kex.specs.declared.exchange.GexChosen.{GexChosen}
use Rattle.ssh_kex.specs.declared.progress.KexProgress.{KexProgress}
use Rattle.ssh_kex.specs.declared.progress.KexProgress.TheVariants.{NeedsReply}
use Rattle.ssh_server_kex.specs.declared.server_kex.ServerState.{ServerState}
use Rattle.ssh_server_kex.specs.declared.server_kex.ServerState.TheVariants as states
use Rattle.ssh_kex.proofs.Lemmas.{is_presented, last_done, reads_kexinit}

-- a machine that is at its beginning
starts : (config : Config) (cause : KexCause) (x : Exchange) (state : ServerState) (m : Machine) → server_machine config cause x state ≡ m → state ≡ states.Created → server_machine config cause x states.Created ≡ m
starts config cause x state m v s = ap (server_machine config cause x) (sym s) ∙ v

abbrev setting_with : Config → KexCause → Exchange → Setting
setting_with config cause w = record { side = Server; config = config; client_id = w.client_id; server_id = w.server_id; cause = cause }

abbrev opened_by : Exchange → List ℕ → Names → Opened
opened_by x payload n = record { names = n; own_kexinit = x.server_kex_init; peer_kexinit = payload }

-- ---- values are to be exchanged

opens_value : (says : Says) (config : Config) (cause : KexCause) (x y : Exchange) (n : Names) (i : Incoming) (w w' : Writer) → SameButRoom w w' → IsFresh config x → OpensServer says.offers config cause x y i.seqn i.payload.now n → (shape_of n.kex).skip ≡ false → is_gex n.kex ≡ false → Progresses says (server_machine config cause x states.Created) (Some i) w (NeedsReply (server_machine config cause y (states.AwaitsValue n)) false) w'
opens_value says config cause x y n i w w' same f o skip gex =
    inr (record {
      kept = refl;
      written = [];
      takes = record {
        names = n;
        reads = reads_kexinit (server_machine config cause x states.Created).setting i.seqn i.payload.now n o.reads;
        exchanges = skip;
        offered = o.offered skip;
        opens = subst (λ b. OpensBy Server b says (server_machine config cause x states.Created).setting (opened_by x i.payload.now n) [] (AwaitsValue (server_opened y n) y.gex)) (sym gex)
            (record { written_is = refl; next_is = ap (λ (z : Exchange). AwaitsValue (server_opened z n) z.gex) o.exchange_is ∙ ap (AwaitsValue (opened_by x i.payload.now n)) f.gex });
      };
      setting_is = ap (setting_with config cause) o.exchange_is;
      reset_is = refl;
      puts = same;
    })

opens_request : (says : Says) (config : Config) (cause : KexCause) (x y : Exchange) (n : Names) (i : Incoming) (w w' : Writer) → SameButRoom w w' → IsFresh config x → OpensServer says.offers config cause x y i.seqn i.payload.now n → (shape_of n.kex).skip ≡ false → is_gex n.kex ≡ true → Progresses says (server_machine config cause x states.Created) (Some i) w (NeedsReply (server_machine config cause y (states.AwaitsRequest n)) false) w'
opens_request says config cause x y n i w w' same f o skip gex =
    inr (record {
      kept = refl;
      written = [];
      takes = record {
        names = n;
        reads = reads_kexinit (server_machine config cause x states.Created).setting i.seqn i.payload.now n o.reads;
        exchanges = skip;
        offered = o.offered skip;
        opens = subst (λ b. OpensBy Server b says (server_machine config cause x states.Created).setting (opened_by x i.payload.now n) [] (AwaitsRequest (server_opened y n))) (sym gex)
            (record { written_is = refl; next_is = ap (λ (z : Exchange). AwaitsRequest (server_opened z n)) o.exchange_is });
      };
      setting_is = ap (setting_with config cause) o.exchange_is;
      reset_is = refl;
      puts = same;
    })

keeps_value : (Offered : _) (config : Config) (cause : KexCause) (x y : Exchange) (n : Names) (seqn : ℕ) (payload : List ℕ) → IsFresh config x → OpensServer Offered config cause x y seqn payload n → length payload < 2 ^ 31 → (shape_of n.kex).skip ≡ false → is_gex n.kex ≡ false → CanAnswer config n y
keeps_value Offered config cause x y n seqn payload f o short skip gex =
    let shown = is_presented config.preferred config.host (was_strict cause) payload n o.reads.read in
    subst (CanAnswer config n) (sym o.exchange_is)
    (record {
      blobs = f.blobs;
      client_id = f.client_id;
      server_id = f.server_id;
      client_kex_init = short;
      server_kex_init = f.server_kex_init;
      group = subst (λ (g : Option GexChosen). IfSome g (λ (g : GexChosen). (length g.group.prime < 2 ^ 31) × (length g.group.generator < 2 ^ 31))) (sym f.gex) tt;
      kind = ap is_some f.gex ∙ sym gex;
      exchanges = skip;
      shown = shown.0;
      presents = shown.1;
    })

keeps_request : (Offered : _) (config : Config) (cause : KexCause) (x y : Exchange) (n : Names) (seqn : ℕ) (payload : List ℕ) → IsFresh config x → OpensServer Offered config cause x y seqn payload n → length payload < 2 ^ 31 → (shape_of n.kex).skip ≡ false → is_gex n.kex ≡ true → CanAsk config n y
keeps_request Offered config cause x y n seqn payload f o short skip gex =
    let shown = is_presented config.preferred config.host (was_strict cause) payload n o.reads.read in
    subst (CanAsk config n) (sym o.exchange_is)
    (record {
      blobs = f.blobs;
      client_id = f.client_id;
      server_id = f.server_id;
      client_kex_init = short;
      server_kex_init = f.server_kex_init;
      kind = gex;
      exchanges = skip;
      shown = shown.0;
      presents = shown.1;
    })

-- ---- no values are

empty_values : (config : Config) (x y : Exchange) (payload : List ℕ) → IsFresh config x → y ≡ record x { client_kex_init = payload } → y ≡ record { client_id = x.client_id; server_id = x.server_id; client_kex_init = payload; server_kex_init = x.server_kex_init; client_ephemeral = []; server_ephemeral = []; gex = None }
empty_values config x y payload f e =
    e ∙ ap (λ v. with_values v x.server_ephemeral x.gex) f.client_ephemeral ∙ ap (λ v. with_values [] v x.gex) f.server_ephemeral ∙ ap (λ g. with_values [] [] g) f.gex
  where
    with_values : List ℕ → List ℕ → Option GexChosen → Exchange
    with_values a b g = record { client_id = x.client_id; server_id = x.server_id; client_kex_init = payload; server_kex_init = x.server_kex_init; client_ephemeral = a; server_ephemeral = b; gex = g }

skips : (says : Says) (config : Config) (cause : KexCause) (x y : Exchange) (n : Names) (i : Incoming) (old new : Writer) (p : KexProgress Machine) → IsFresh config x → OpensServer says.offers config cause x y i.seqn i.payload.now n → (shape_of n.kex).skip ≡ true → EndsAtOnce Server cause y n p old new → Progresses says (server_machine config cause x states.Created) (Some i) old p new
skips says config cause x y n i old new p f o skip h =
    subst (λ q. Progresses says (server_machine config cause x states.Created) (Some i) old q new) (sym h.done)
    (record {
      exchange = y;
      made = kept_of cause n None [];
      written = newkeys ∷ [];
      ends = inr (record {
        names = n;
        reads = reads_kexinit (server_machine config cause x states.Created).setting i.seqn i.payload.now n o.reads;
        skips = skip;
        written_is = refl;
        exchange_is = empty_values config x y i.payload.now f o.exchange_is;
        made_is = refl;
        host_is = refl;
      });
      newkeys = record { exchange_is = refl; names_is = refl; hash_is = refl; session_is = refl; keys_is = refl; seals = h.keys.seals; opens = h.keys.opens };
      puts = (new, h.puts, refl);
    })

-- ---- what follows the names

pub keeps_names : (Offered : _) (config : Config) (cause : KexCause) (x y : Exchange) (n : Names) (seqn : ℕ) (payload : List ℕ) → IsFresh config x → OpensServer Offered config cause x y seqn payload n → length payload < 2 ^ 31 → (shape_of n.kex).skip ≡ false → CanBegin (is_gex n.kex) config n y
keeps_names Offered config cause x y n seqn payload f o short skip = by (is_gex n.kex) refl where
  by : (b : Bool) → is_gex n.kex ≡ b → CanBegin b config n y
  by true e = keeps_request Offered config cause x y n seqn payload f o short skip e
  by false e = keeps_value Offered config cause x y n seqn payload f o short skip e

begins : (says : Says) (config : Config) (cause : KexCause) (x y : Exchange) (n : Names) (i : Incoming) (old new : Writer) (p : KexProgress Machine) → IsFresh config x → OpensServer says.offers config cause x y i.seqn i.payload.now n → (b c : Bool) → (shape_of n.kex).skip ≡ b → is_gex n.kex ≡ c → Begins b c config cause y n p old new → Progresses says (server_machine config cause x states.Created) (Some i) old p new
begins says config cause x y n i old new p f o true c s e h = skips says config cause x y n i old new p f o s h
begins says config cause x y n i old new p f o false true s e h =
    subst (λ q. Progresses says (server_machine config cause x states.Created) (Some i) old q new) (sym h.0) (opens_request says config cause x y n i old new h.1 f o s e)
begins says config cause x y n i old new p f o false false s e h =
    subst (λ q. Progresses says (server_machine config cause x states.Created) (Some i) old q new) (sym h.0) (opens_value says config cause x y n i old new h.1 f o s e)

pub opening_progresses : (says : Says) (config : Config) (cause : KexCause) (x : Exchange) (state : ServerState) (m : Machine) (i : Incoming) (old new : Writer) (r : Result (KexProgress Machine) Error) → server_machine config cause x state ≡ m → state ≡ states.Created → IsFresh config x → IfOk r (λ p. AnswersOpening says.offers config cause x i p old new) → IfOk r (λ p. Progresses says m (Some i) old p new)
opening_progresses says config cause x state m i old new (Err e) v s f h = tt
opening_progresses says config cause x state m i old new (Ok p) v s f h =
    subst (λ k. Progresses says k (Some i) old p new) (starts config cause x state m v s)
    (begins says config cause x h.exchange h.names i old new p f h.opens (shape_of h.names.kex).skip (is_gex h.names.kex) refl refl h.begins)

-- what is answered to names that were read
pub opening_answered : (Offered : _) (config : Config) (cause : KexCause) (x y : Exchange) (n : Names) (i : Incoming) (old new : Writer) (r : Result (KexProgress Machine) Error) → OpensServer Offered config cause x y i.seqn i.payload.now n → IfOk r (λ p. Begins (shape_of n.kex).skip (is_gex n.kex) config cause y n p old new) → IfOk r (λ p. AnswersOpening Offered config cause x i p old new)
opening_answered Offered config cause x y n i old new (Ok p) o h = record { names = n; exchange = y; opens = o; begins = h }
opening_answered Offered config cause x y n i old new (Err e) o h = tt

pub opening_wants : (Offered : _) (config : Config) (cause : KexCause) (i : Incoming) (r : Result (KexProgress Machine) Error) → IfErr r (λ e. e ≡ Memory) → IfErr r (ServerRefusesKexinit Offered config cause i)
opening_wants Offered config cause i (Ok p) h = tt
opening_wants Offered config cause i (Err e) h = inl h

-- the same from the two tests
pub begins_end : (b c : Bool) (config : Config) (cause : KexCause) (x : Exchange) (n : Names) (old new : Writer) (r : Result (KexProgress Machine) Error) → b ≡ true → IfOk r (λ p. EndsAtOnce Server cause x n p old new) → IfOk r (λ p. Begins b c config cause x n p old new)
begins_end true c config cause x n old new r e h = h
begins_end false c config cause x n old new r e h = cc

pub begins_request : (b c : Bool) (config : Config) (cause : KexCause) (x : Exchange) (n : Names) (w : Writer) → b ≡ false → c ≡ true → Begins b c config cause x n (NeedsReply (server_machine config cause x (states.AwaitsRequest n)) false) w w
begins_request true c config cause x n w s e = cc
begins_request false true config cause x n w s e = (refl, refl)
begins_request false false config cause x n w s e = cc

pub begins_value : (b c : Bool) (config : Config) (cause : KexCause) (x : Exchange) (n : Names) (w : Writer) → b ≡ false → c ≡ false → Begins b c config cause x n (NeedsReply (server_machine config cause x (states.AwaitsValue n)) false) w w
begins_value true c config cause x n w s e = cc
begins_value false true config cause x n w s e = cc
begins_value false false config cause x n w s e = (refl, refl)

-- ---- NEWKEYS

pub ended : (says : Says) (config : Config) (cause : KexCause) (x : Exchange) (state : ServerState) (m : Machine) (made : FinishedExchange) (cipher : Box CipherPair) (i : Incoming) (w : Writer) (r : Result (KexProgress Machine) Error) → server_machine config cause x state ≡ m → state ≡ states.AwaitsNewkeys made cipher → HasKeys Server made cipher → Lasts x None made cipher i.payload.now r → IfOk r (λ p. Progresses says m (Some i) w p w)
ended says config cause x state m made cipher i w r v s keys h =
    let same = ap (server_machine config cause x) (sym s) ∙ v in
    last_done says Server m i w x None made cipher r (ap (λ (k : Machine). k.stage) (sym same)) (ap (λ (k : Machine). k.setting.side) (sym same)) keys h
