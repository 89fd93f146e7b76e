-- What a server's step draws for what it sends.
use Rattle.std.proofs.Common.{◌≡◌, ◌∙◌, ℕ, Bool, true, false, List, [], ◌∷◌, refl, sym, ap, subst, Option, Some, Result, Ok, Err}
use Rattle.std.specs.Global.{Box}
use Rattle.std.specs.Prelude.{OnOk}
use Rattle.rand_core.specs.Stream.{Stream}
use Rattle.ssh_negotiate.specs.declared.kex.KexCause.{KexCause}
use Rattle.ssh_negotiate.specs.declared.kex.Name as kexes
use Rattle.ssh_negotiate.specs.declared.negotiation.Names.{Names}
use Rattle.ssh_packet.specs.Writing.{Writer}
use Rattle.ssh_packet.specs.declared.keys.CipherPair.{CipherPair}
use Rattle.ssh_wire.specs.declared.error.Error.{Error}
use Rattle.ssh_kex.specs.Agreeing.{Agreeing}
use Rattle.ssh_kex.specs.Drawing.{AnswerDrawn, AnswersFrom, DrawnByServer, SecretDrawn, SendsAll, StepDraws, is_kexinit}
use Rattle.ssh_kex.specs.Exchange.{exchange_hash}
use Rattle.ssh_kex.specs.Messages.{group_message, newkeys, reply_message}
use Rattle.ssh_kex.specs.Setting.{group_of, kept_of}
use Rattle.ssh_kex.specs.Stages.{Machine, Stage}
use Rattle.ssh_kex.specs.Stepping.{next_of}
use Rattle.ssh_kex.specs.declared.config.Config.{Config}
use Rattle.ssh_kex.specs.declared.exchange.Exchange.{Exchange}
use Rattle.ssh_kex.specs.declared.exchange.FinishedExchange.{FinishedExchange}
use Rattle.ssh_kex.specs.declared.exchange.GexChosen.{GexChosen}
use Rattle.ssh_kex.specs.declared.group.DhGroup.{DhGroup}
use Rattle.ssh_kex.specs.declared.progress.KexProgress.{KexProgress}
use Rattle.ssh_kex.specs.declared.progress.KexProgress.TheVariants.{NeedsReply}
use Rattle.ssh_kex.proofs.Lemmas.{draws_none}
use Rattle.ssh_server_kex.specs.ServerRows.{AgreesOn, AnswersValue}
use Rattle.ssh_server_kex.specs.ServerViews.{server_behind_guess, server_machine, server_stage}
use Rattle.ssh_server_kex.specs.declared.server_kex.ServerState.{ServerState}
use Rattle.ssh_server_kex.specs.declared.server_kex.ServerState.TheVariants as states

-- ---- what is sent

-- a group
pub group_sent : (bytes items : List ℕ) (group : DhGroup) (before left : Stream) (old new : Writer) → bytes ≡ items → items ≡ group_message group → (is_kexinit bytes ≡ false → SendsAll old (bytes ∷ []) before new left) → StepDraws (λ behind. behind ≡ before) old new left
group_sent bytes items group before left old new e f h = record { behind = before; values = refl; written = bytes ∷ []; sends = h (ap is_kexinit (e ∙ f)) }

reply_plain : (gex : Bool) (host value signature : List ℕ) → is_kexinit (reply_message gex host value signature) ≡ false
reply_plain true host value signature = refl
reply_plain false host value signature = refl

-- a reply with NEWKEYS behind it, and the value that was drawn for it
pub value_drawn : (Draws : kexes.Name → Option DhGroup → List ℕ → Stream → List ℕ → List ℕ → Stream → Type 0) (Made : List ℕ → List ℕ → Type 0) (before behind left : Stream) (cause : KexCause) (n : Names) (x y : Exchange) (k : Agreeing) (f : FinishedExchange) (old new : Writer) (copy host hash reply shown own sent : List ℕ) (gex : Bool)
    → AgreesOn Made n.kex (record x { client_ephemeral = copy }) y k → SecretDrawn (Draws n.kex (group_of x.gex) copy) before k.secret y.server_ephemeral behind → hash ≡ exchange_hash k.name y host k.secret → f ≡ kept_of cause n k.secret hash → reply ≡ reply_message gex shown own sent
    → (is_kexinit reply ≡ false → is_kexinit newkeys ≡ false → SendsAll old (reply ∷ newkeys ∷ []) behind new left) → StepDraws (AnswerDrawn (Draws n.kex (group_of x.gex)) before y f) old new left
value_drawn Draws Made before behind left cause n x y k f old new copy host hash reply shown own sent gex a d hashed made replied h = record {
  behind = behind;
  values = record {
    secret = d.secret;
    host = host;
    drawn = subst (λ c. Draws n.kex (group_of x.gex) c before y.server_ephemeral d.secret behind) (sym (ap (λ (z : Exchange). z.client_ephemeral) a.exchange_is)) d.drawn;
    hashed =
        ap (λ (m : FinishedExchange). m.hash) made ∙ hashed ∙ ap (λ (q : Agreeing). exchange_hash q.name y host k.secret) a.algorithm_is
        ∙ ap (λ q. exchange_hash n.kex y host q) d.held_is
        ∙ sym (ap (λ (m : FinishedExchange). exchange_hash m.names.kex y host (Some d.secret)) made);
  };
  written = reply ∷ newkeys ∷ [];
  sends = h (ap is_kexinit replied ∙ reply_plain gex shown own sent) refl;
}

-- so of the machine behind it
pub value_answered : (Draws : kexes.Name → Option DhGroup → List ℕ → Stream → List ℕ → List ℕ → Stream → Type 0) (Makes : List ℕ → List ℕ → Type 0) (Agrees : List ℕ → List ℕ → List ℕ → Type 0) (Signs : Rattle.ssh_kex.specs.declared.exchange.ServerHost.ServerHost → List ℕ → List ℕ → Type 0) (before left : Stream) (config at : Config) (cause by : KexCause) (n : Names) (x y : Exchange) (payload : List ℕ) (old new : Writer) (made : FinishedExchange × Box CipherPair) (p : KexProgress Machine) (reset : Bool)
    → p ≡ NeedsReply (server_machine at by y (states.AwaitsNewkeys made.0 made.1)) reset → AnswersValue Makes Agrees Signs config cause n x y payload old new made
    → StepDraws (AnswerDrawn (Draws n.kex (group_of x.gex)) before y made.0) old new left → StepDraws (AnswersFrom Draws before (next_of (Ok p))) old new left
value_answered Draws Makes Agrees Signs before left config at cause by n x y payload old new made p reset e a h =
    subst (λ (q : KexProgress Machine). StepDraws (AnswersFrom Draws before (next_of (Ok q))) old new left) (sym e)
    (subst (λ (g : Option GexChosen). StepDraws (AnswerDrawn (Draws made.0.names.kex (group_of g)) before y made.0) old new left) (sym (ap (λ (z : Exchange). z.gex) a.exchange_is))
    (subst (λ (q : kexes.Name). StepDraws (AnswerDrawn (Draws q (group_of x.gex)) before y made.0) old new left) (sym (ap (λ (m : FinishedExchange). m.names.kex) a.made_is)) h))

-- ---- a step, by its stage

guess_draws : (Draws : kexes.Name → Option DhGroup → List ℕ → Stream → List ℕ → List ℕ → Stream → Type 0) (before : Stream) (x : Exchange) (state : ServerState) → DrawnByServer Draws before (server_stage x state) (Some (server_stage x (server_behind_guess state))) before
guess_draws Draws before x states.Created = refl
guess_draws Draws before x (states.AwaitsRequest n) = refl
guess_draws Draws before x (states.AwaitsValue n) = refl
guess_draws Draws before x (states.AwaitsNewkeys made cipher) = refl

-- of a wrong guess nothing is drawn
pub dropped_draws : (Draws : kexes.Name → Option DhGroup → List ℕ → Stream → List ℕ → List ℕ → Stream → Type 0) (before : Stream) (config : Config) (cause : KexCause) (x : Exchange) (state behind : ServerState) (m : Machine) (p : KexProgress Machine) (w : Writer) → server_machine config cause x state ≡ m → behind ≡ server_behind_guess state → p ≡ NeedsReply (server_machine config cause x behind) false → StepDraws (DrawnByServer Draws before m.stage (next_of (Ok p))) w w before
dropped_draws Draws before config cause x state behind m p w view b e =
    subst (λ (k : Machine). StepDraws (DrawnByServer Draws before k.stage (next_of (Ok p))) w w before) view
    (subst (λ (q : KexProgress Machine). StepDraws (DrawnByServer Draws before (server_stage x state) (next_of (Ok q))) w w before) (sym (e ∙ ap (λ (z : ServerState). NeedsReply (server_machine config cause x z) false) b))
    (draws_none (DrawnByServer Draws before (server_stage x state) (Some (server_stage x (server_behind_guess state)))) before w w before (guess_draws Draws before x state) refl refl))

-- of a stage whose message was taken
stage_draws : (Draws : kexes.Name → Option DhGroup → List ℕ → Stream → List ℕ → List ℕ → Stream → Type 0) (before left : Stream) (config : Config) (cause : KexCause) (x : Exchange) (state known : ServerState) (m : Machine) (next : Option Stage) (old new : Writer) → server_machine config cause x state ≡ m → state ≡ known → StepDraws (DrawnByServer Draws before (server_stage x known) next) old new left → StepDraws (DrawnByServer Draws before m.stage next) old new left
stage_draws Draws before left config cause x state known m next old new view is h =
    subst (λ (k : Machine). StepDraws (DrawnByServer Draws before k.stage next) old new left) (sym (ap (server_machine config cause x) is) ∙ view) h

pub on_stage : (r : Result (KexProgress Machine) Error) (Draws : kexes.Name → Option DhGroup → List ℕ → Stream → List ℕ → List ℕ → Stream → Type 0) (before left : Stream) (config : Config) (cause : KexCause) (x : Exchange) (state known : ServerState) (m : Machine) (old new : Writer) → server_machine config cause x state ≡ m → state ≡ known → OnOk r (StepDraws (DrawnByServer Draws before (server_stage x known) (next_of r)) old new left)
    → OnOk r (StepDraws (DrawnByServer Draws before m.stage (next_of r)) old new left)
on_stage (Ok p) Draws before left config cause x state known m old new view is h = stage_draws Draws before left config cause x state known m (next_of (Ok p)) old new view is h
on_stage (Err e) Draws before left config cause x state known m old new view is h = tt

-- at its end nothing is sent
pub still_draws : (r : Result (KexProgress Machine) Error) (Draws : kexes.Name → Option DhGroup → List ℕ → Stream → List ℕ → List ℕ → Stream → Type 0) (before : Stream) (config : Config) (cause : KexCause) (x : Exchange) (state known : ServerState) (m : Machine) (w : Writer) → server_machine config cause x state ≡ m → state ≡ known → DrawnByServer Draws before (server_stage x known) (next_of r) before
    → OnOk r (StepDraws (DrawnByServer Draws before m.stage (next_of r)) w w before)
still_draws (Ok p) Draws before config cause x state known m w view is d = stage_draws Draws before before config cause x state known m (next_of (Ok p)) w w view is (draws_none (DrawnByServer Draws before (server_stage x known) (next_of (Ok p))) before w w before d refl refl)
still_draws (Err e) Draws before config cause x state known m w view is d = tt
