-- What a call that lends the next payload leaves, as contracts see it.
use Rattle.std.proofs.Common.{◌≡◌, ℕ, Bool, true, false, List, [], Option, Some, None, Result, Ok, Err, IfErr, IfOk, OnErr, OnOk, sym, subst}
use Rattle.std.specs.Borrow.{Bor}
use Rattle.rand_core.specs.Stream.{Stream}
use Rattle.ssh_wire.specs.declared.error.Error.{Error}
use Rattle.ssh_wire.specs.declared.error.Error.TheVariants.{Disconnect}
use Rattle.ssh_wire.specs.declared.side.Side.{Side}
use Rattle.ssh_kex.specs.Refusals.{Denies}
use Rattle.ssh_kex.specs.Setting.{Says}
use Rattle.ssh_kex.specs.declared.config.Config.{Config}
use Rattle.ssh_kex.specs.declared.exchange.ServerHost.{ServerHost}
use Rattle.ssh_rules.specs.Polling.{LendsPayload, Polls}
use Rattle.ssh_rules.specs.Refusing.{RefusesPieceAsking}
use Rattle.ssh_rules.specs.Standing.{Standing, unfinished}
use Rattle.ssh_transport.specs.Drawing.{DrawsFirst}
use Rattle.ssh_transport.specs.Asking.{PartTally}
use Rattle.ssh_transport.specs.Lending.{PollsAs}
use Rattle.ssh_transport.specs.Sending.{ServesCall}
use Rattle.ssh_transport.specs.Taking.{lent_by}

-- what is lent, by what the step answered
abbrev pub LendsFor : Result Bool Error → List ℕ → Result (Option (Bor (List ℕ))) (Bor Error) → Type 0
LendsFor (Ok true) handed (Ok (Some p)) = p.now ≡ handed
LendsFor (Ok true) handed (Ok None) = ⊥
LendsFor (Ok true) handed (Err e) = ⊥
LendsFor (Ok false) handed (Ok (Some p)) = ⊥
LendsFor (Ok false) handed (Ok None) = Unit {0}
LendsFor (Ok false) handed (Err e) = ⊥
LendsFor (Err x) handed (Ok o) = ⊥
LendsFor (Err x) handed (Err e) = e.now ≡ x

alive : (old : Standing) (lends : Bool) (P : Type 0) → (old.failed ≡ true → Ok lends ≡ Err Disconnect)
    → old.failed ≡ true → P
alive old lends P h f = absurd (let e = h f in cc)

polls_as : (says : Says) (denies : Denies) (untrusted : ServerHost → Type 0) (n n' : PartTally)
    (Made : Side → Stream → Stream → Type 0) (stream stream' : Stream) (old new : Standing) (handed : List ℕ)
    (answer : Result Bool Error) (result : Result (Option (Bor (List ℕ))) (Bor Error)) → LendsFor answer handed result
    → (old.failed ≡ true → answer ≡ Err Disconnect) → (old.failed ≡ true → new ≡ old)
    → (new.side ≡ old.side) × (new.config ≡ old.config)
    → (old.failed ≡ false → OnOk answer (new.failed ≡ false))
    → (old.failed ≡ false → OnErr answer ((new.failed ≡ true) × (unfinished new ≡ [])))
    → new.delivered ≡ old.delivered → IfOk answer (λ lends. Polls says old (lent_by lends handed) new)
    → (old.failed ≡ false → IfErr answer (λ e. RefusesPieceAsking says denies untrusted old [] e new n.calls
    n'.calls))
    → OnOk answer (ServesCall Made old new n n' stream stream') → DrawsFirst (new.failed ≡ false) old new stream stream'
    → PollsAs says denies untrusted n n' Made stream stream' old result new
polls_as says denies untrusted n n' Made stream stream' old new handed (Ok true) (Ok (Some p)) rel dead same stays lives
    ends unqueued polled refused serves drawn = record {
      dead = λ f. alive old true _ dead f;
      stays = stays;
      lives = lives;
      ends = λ f. tt;
      unqueued = unqueued;
      polled = subst (λ (x : List ℕ). LendsPayload says old x new) (sym rel) polled;
      refused = λ f. tt;
      serves = serves;
      drawn = drawn;
    }
polls_as says denies untrusted n n' Made stream stream' old new handed (Ok true) (Ok None) rel dead same stays lives
    ends unqueued polled refused serves drawn = absurd rel
polls_as says denies untrusted n n' Made stream stream' old new handed (Ok true) (Err e) rel dead same stays lives ends
    unqueued polled refused serves drawn = absurd rel
polls_as says denies untrusted n n' Made stream stream' old new handed (Ok false) (Ok (Some p)) rel dead same stays
    lives ends unqueued polled refused serves drawn = absurd rel
polls_as says denies untrusted n n' Made stream stream' old new handed (Ok false) (Ok None) rel dead same stays lives
    ends unqueued polled refused serves drawn = record {
      dead = λ f. alive old false _ dead f;
      stays = stays;
      lives = lives;
      ends = λ f. tt;
      unqueued = unqueued;
      polled = polled;
      refused = λ f. tt;
      serves = serves;
      drawn = drawn;
    }
polls_as says denies untrusted n n' Made stream stream' old new handed (Ok false) (Err e) rel dead same stays lives ends
    unqueued polled refused serves drawn = absurd rel
polls_as says denies untrusted n n' Made stream stream' old new handed (Err x) (Ok o) rel dead same stays lives ends
    unqueued polled refused serves drawn = absurd rel
polls_as says denies untrusted n n' Made stream stream' old new handed (Err x) (Err e) rel dead same stays lives ends
    unqueued polled refused serves drawn = record {
      dead = λ f. (sym_is rel (dead f), same f);
      stays = stays;
      lives = λ f. tt;
      ends = ends;
      unqueued = unqueued;
      polled = tt;
      refused = λ f. subst (λ (y : Error). RefusesPieceAsking says denies untrusted old [] y new n.calls n'.calls) (sym rel)
          (refused f);
      serves = tt;
      drawn = drawn;
    } where
      sym_is : e.now ≡ x → (let r : Result Bool Error = Err x in r) ≡ Err Disconnect → e.now ≡ Disconnect
      sym_is a b = cc

-- by what the step answered
pub lends_some : (answer : Result Bool Error) (handed : List ℕ) (p : Bor (List ℕ)) → answer ≡ Ok true → p.now ≡ handed
    → LendsFor answer handed (Ok (Some p))
lends_some answer handed p e h = subst (λ (a : Result Bool Error). LendsFor a handed (Ok (Some p))) (sym e) h

pub lends_none : (answer : Result Bool Error) (handed : List ℕ) → answer ≡ Ok false → LendsFor answer handed (Ok None)
lends_none answer handed e = subst (λ (a : Result Bool Error). LendsFor a handed (Ok None)) (sym e) tt

pub lends_refusal : (answer : Result Bool Error) (handed : List ℕ) (x : Error) (b : Bor Error) → answer ≡ Err x
    → b.now ≡ x → LendsFor answer handed (Err b)
lends_refusal answer handed x b e h = subst (λ (a : Result Bool Error). LendsFor a handed (Err b)) (sym e) h

-- of the value that its caller sees
pub polls_seen : (says : Config → Says) (denies : Denies) (untrusted : ServerHost → Type 0) (n n' : PartTally)
    (Made : Side → Stream → Stream → Type 0) (stream stream' : Stream) (old t new : Standing) (handed : List ℕ)
    (answer : Result Bool Error) (result : Result (Option (Bor (List ℕ))) (Bor Error)) → old ≡ t
    → LendsFor answer handed result
    → (old.failed ≡ true → answer ≡ Err Disconnect) → (old.failed ≡ true → new ≡ old)
    → (new.side ≡ old.side) × (new.config ≡ old.config)
    → (old.failed ≡ false → OnOk answer (new.failed ≡ false))
    → (old.failed ≡ false → OnErr answer ((new.failed ≡ true) × (unfinished new ≡ [])))
    → new.delivered ≡ old.delivered → IfOk answer (λ lends. Polls (says old.config) old (lent_by lends handed) new)
    → (old.failed ≡ false → IfErr answer (λ e. RefusesPieceAsking (says old.config) denies untrusted old [] e new
    n.calls n'.calls))
    → OnOk answer (ServesCall Made old new n n' stream stream') → DrawsFirst (new.failed ≡ false) old new stream stream'
    → PollsAs (says t.config) denies untrusted n n' Made stream stream' t result new
polls_seen says denies untrusted n n' Made stream stream' old t new handed answer result same rel dead kept stays lives
    ends unqueued polled refused serves drawn =
    subst (λ (x : Standing). PollsAs (says x.config) denies untrusted n n' Made stream stream' x result new) same
    (polls_as (says old.config) denies untrusted n n' Made stream stream' old new handed answer result rel dead kept
    stays lives ends unqueued polled refused serves drawn)
