-- What a client's step draws for what it sends.
use Rattle.std.proofs.Common.{◌≡◌, ◌++◌, ℕ, Bool, true, false, List, [], ◌∷◌, refl, sym, ap, ◌∙◌, subst, Option, Some, Result, Ok, Err, IfOk}
use Rattle.std.specs.Prelude.{OnOk}
use Rattle.rand_core.specs.Stream.{Stream}
use Rattle.ssh_negotiate.specs.declared.kex.KexCause.{KexCause}
use Rattle.ssh_negotiate.specs.declared.kex.Name as kexes
use Rattle.ssh_negotiate.specs.declared.negotiation.Names.{Names}
use Rattle.ssh_packet.specs.Writing.{Writer}
use Rattle.ssh_wire.specs.declared.error.Error.{Error}
use Rattle.ssh_wire.specs.declared.side.Side.TheVariants.{Client}
use Rattle.ssh_kex.specs.Agreeing.{Agreeing, ClientStarts}
use Rattle.ssh_kex.specs.Drawing.{DrawnByClient, DrawsLocal, SendsAll, StartsFrom, StepDraws, ValueDrawn, is_kexinit}
use Rattle.ssh_kex.specs.Messages.{newkeys, request_message, value_message}
use Rattle.ssh_kex.specs.Setting.{group_of}
use Rattle.ssh_kex.specs.Stages.{Machine, Stage}
use Rattle.ssh_kex.specs.Stepping.{next_of}
use Rattle.ssh_kex.specs.Views.{EndsAtOnce}
use Rattle.ssh_kex.specs.declared.config.Config.{Config}
use Rattle.ssh_kex.specs.declared.exchange.Exchange.{Exchange}
use Rattle.ssh_kex.specs.declared.group.DhGroup.{DhGroup}
use Rattle.ssh_kex.specs.declared.group.GexParams.{GexParams}
use Rattle.ssh_kex.specs.declared.progress.KexProgress.{KexProgress}
use Rattle.ssh_kex.specs.declared.progress.KexProgress.TheVariants.{NeedsReply}
use Rattle.ssh_kex.proofs.Lemmas.{draws_none}
use Rattle.ssh_client_kex.specs.ClientViews.{client_behind_guess, client_machine, client_stage, local_of}
use Rattle.ssh_client_kex.specs.declared.client_kex.ClientState.{ClientState}
use Rattle.ssh_client_kex.specs.declared.client_kex.ClientState.TheVariants as states

-- a client's value isn't a KEXINIT
value_plain : (gex : Bool) (value : List ℕ) → is_kexinit (value_message gex value) ≡ false
value_plain true value = refl
value_plain false value = refl

-- what a client's value makes of the message
pub value_bytes : (skip gex : Bool) (Makes : List ℕ → List ℕ → Type 0) (start : List ℕ) (old new : Agreeing) (value value' out out' : List ℕ) → skip ≡ false → ClientStarts skip Makes (λ v. start ++ value_message gex v) old new value value' out out' → start ≡ [] → out' ≡ value_message gex value'
value_bytes true gex Makes start old new value value' out out' e h s = cc
value_bytes false gex Makes start old new value value' out out' e h s = h.4 ∙ ap (λ q. q ++ value_message gex value') s

-- the value that was made, and its message
pub value_sent : (r : Result (Unit {0}) Error) (Draws : Stream → List ℕ → List ℕ → Stream → Type 0) (skip gex : Bool) (before behind left : Stream) (held : Option (List ℕ)) (public bytes : List ℕ) (old new : Writer) → skip ≡ false → DrawsLocal skip Draws before held public behind → bytes ≡ value_message gex public → OnOk r (is_kexinit bytes ≡ false → SendsAll old (bytes ∷ []) behind new left)
    → OnOk r (StepDraws (ValueDrawn Draws before held public) old new left)
value_sent (Ok u) Draws true gex before behind left held public bytes old new e d m h = cc
value_sent (Ok u) Draws false gex before behind left held public bytes old new e d m h = record {
  behind = behind;
  values = record { local = d.0; held_is = d.1; drawn = d.2 };
  written = bytes ∷ [];
  sends = h (ap is_kexinit m ∙ value_plain gex public);
}
value_sent (Err x) Draws skip gex before behind left held public bytes old new e d m h = tt

-- the sizes that are asked for
pub request_sent : (bytes items start : List ℕ) (sizes : GexParams) (before left : Stream) (old new : Writer) → bytes ≡ items → items ≡ start ++ request_message sizes → start ≡ [] → (is_kexinit bytes ≡ false → SendsAll old (bytes ∷ []) before new left) → SendsAll old (request_message sizes ∷ []) before new left
request_sent bytes items start sizes before left old new e f g h =
    let m : bytes ≡ request_message sizes = e ∙ f ∙ ap (λ s. s ++ request_message sizes) g in
    subst (λ b. SendsAll old (b ∷ []) before new left) m (h (ap is_kexinit m))

-- where no exchange of values was chosen
pub ended_draws : (Draws : kexes.Name → Option DhGroup → Stream → List ℕ → List ℕ → Stream → Type 0) (before left : Stream) (cause : KexCause) (x : Exchange) (n : Names) (old new : Writer) (r : Result (KexProgress Machine) Error) → IfOk r (λ p. EndsAtOnce Client cause x n p old new) → OnOk r (SendsAll old (newkeys ∷ []) before new left)
    → OnOk r (StepDraws (StartsFrom Draws before (next_of r)) old new left)
ended_draws Draws before left cause x n old new (Ok p) h k = record { behind = before; values = subst (λ (q : KexProgress Machine). StartsFrom Draws before (next_of (Ok q)) before) (sym h.done) refl; written = newkeys ∷ []; sends = k }
ended_draws Draws before left cause x n old new (Err e) h k = tt

-- where a group is asked for
pub asked_draws : (Draws : kexes.Name → Option DhGroup → Stream → List ℕ → List ℕ → Stream → Type 0) (before left : Stream) (written : List (List ℕ)) (old new : Writer) (q : KexProgress Machine) (Q : KexProgress Machine → Type 0) (r : Result (KexProgress Machine) Error) → StartsFrom Draws before (next_of (Ok q)) before → IfOk r (λ p. (p ≡ q) × Q p) → OnOk r (SendsAll old written before new left)
    → OnOk r (StepDraws (StartsFrom Draws before (next_of r)) old new left)
asked_draws Draws before left written old new q Q (Ok p) s h k = record { behind = before; values = subst (λ (z : KexProgress Machine). StartsFrom Draws before (next_of (Ok z)) before) (sym h.0) s; written = written; sends = k }
asked_draws Draws before left written old new q Q (Err e) s h k = tt

-- where the value was made
pub value_opened : (Draws : kexes.Name → Option DhGroup → Stream → List ℕ → List ℕ → Stream → Type 0) (before left : Stream) (old new : Writer) (p : KexProgress Machine) (config : Config) (cause : KexCause) (x : Exchange) (names : Names) (made after : Agreeing) → p ≡ NeedsReply (client_machine config cause x (states.AwaitsReply names after)) false → made.name ≡ names.kex → made.group ≡ group_of x.gex
    → StepDraws (ValueDrawn (Draws made.name made.group) before after.local x.client_ephemeral) old new left → StepDraws (StartsFrom Draws before (next_of (Ok p))) old new left
value_opened Draws before left old new p config cause x names made after e n g h =
    let v = h.values in
    subst (λ (q : KexProgress Machine). StepDraws (StartsFrom Draws before (next_of (Ok q))) old new left) (sym e) (record {
      behind = h.behind;
      values = record {
        local = v.local;
        held_is = ap (λ (o : Option (List ℕ)). Some (local_of o)) v.held_is;
        drawn = subst (λ (z : Option DhGroup). Draws names.kex z before v.local x.client_ephemeral h.behind) g (subst (λ (z : kexes.Name). Draws z made.group before v.local x.client_ephemeral h.behind) n v.drawn);
      };
      written = h.written;
      sends = h.sends;
    })

-- ---- a step, by its stage

guess_draws : (Draws : kexes.Name → Option DhGroup → Stream → List ℕ → List ℕ → Stream → Type 0) (before : Stream) (x : Exchange) (state : ClientState) → DrawnByClient Draws before (client_stage x state) (Some (client_stage x (client_behind_guess state))) before
guess_draws Draws before x states.Created = refl
guess_draws Draws before x (states.AwaitsGroup n) = refl
guess_draws Draws before x (states.AwaitsReply n algorithm) = refl
guess_draws Draws before x (states.AwaitsNewkeys host made cipher) = refl

-- of a wrong guess nothing is drawn
pub dropped_draws : (Draws : kexes.Name → Option DhGroup → Stream → List ℕ → List ℕ → Stream → Type 0) (before : Stream) (config : Config) (cause : KexCause) (x : Exchange) (state behind : ClientState) (m : Machine) (p : KexProgress Machine) (w : Writer) → client_machine config cause x state ≡ m → behind ≡ client_behind_guess state → p ≡ NeedsReply (client_machine config cause x behind) false → StepDraws (DrawnByClient Draws before m.stage (next_of (Ok p))) w w before
dropped_draws Draws before config cause x state behind m p w view b e =
    subst (λ (k : Machine). StepDraws (DrawnByClient Draws before k.stage (next_of (Ok p))) w w before) view
    (subst (λ (q : KexProgress Machine). StepDraws (DrawnByClient Draws before (client_stage x state) (next_of (Ok q))) w w before) (sym (e ∙ ap (λ (z : ClientState). NeedsReply (client_machine config cause x z) false) b))
    (draws_none (DrawnByClient Draws before (client_stage x state) (Some (client_stage x (client_behind_guess state)))) before w w before (guess_draws Draws before x state) refl refl))

-- of a stage whose message was taken
stage_draws : (Draws : kexes.Name → Option DhGroup → Stream → List ℕ → List ℕ → Stream → Type 0) (before left : Stream) (config : Config) (cause : KexCause) (x : Exchange) (state known : ClientState) (m : Machine) (next : Option Stage) (old new : Writer) → client_machine config cause x state ≡ m → state ≡ known → StepDraws (DrawnByClient Draws before (client_stage x known) next) old new left → StepDraws (DrawnByClient Draws before m.stage next) old new left
stage_draws Draws before left config cause x state known m next old new view is h =
    subst (λ (k : Machine). StepDraws (DrawnByClient Draws before k.stage next) old new left) (sym (ap (client_machine config cause x) is) ∙ view) h

pub on_stage : (r : Result (KexProgress Machine) Error) (Draws : kexes.Name → Option DhGroup → Stream → List ℕ → List ℕ → Stream → Type 0) (before left : Stream) (config : Config) (cause : KexCause) (x : Exchange) (state known : ClientState) (m : Machine) (old new : Writer) → client_machine config cause x state ≡ m → state ≡ known → OnOk r (StepDraws (DrawnByClient Draws before (client_stage x known) (next_of r)) old new left)
    → OnOk r (StepDraws (DrawnByClient Draws before m.stage (next_of r)) old new left)
on_stage (Ok p) Draws before left config cause x state known m old new view is h = stage_draws Draws before left config cause x state known m (next_of (Ok p)) old new view is h
on_stage (Err e) Draws before left config cause x state known m old new view is h = tt

-- at its end nothing is sent
pub still_draws : (r : Result (KexProgress Machine) Error) (Draws : kexes.Name → Option DhGroup → Stream → List ℕ → List ℕ → Stream → Type 0) (before : Stream) (config : Config) (cause : KexCause) (x : Exchange) (state known : ClientState) (m : Machine) (w : Writer) → client_machine config cause x state ≡ m → state ≡ known → DrawnByClient Draws before (client_stage x known) (next_of r) before
    → OnOk r (StepDraws (DrawnByClient Draws before m.stage (next_of r)) w w before)
still_draws (Ok p) Draws before config cause x state known m w view is d = stage_draws Draws before before config cause x state known m (next_of (Ok p)) w w view is (draws_none (DrawnByClient Draws before (client_stage x known) (next_of (Ok p))) before w w before d refl refl)
still_draws (Err e) Draws before config cause x state known m w view is d = tt
