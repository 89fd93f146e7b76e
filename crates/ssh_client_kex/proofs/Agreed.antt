-- What is agreed on before a signature is read.
use Rattle.std.proofs.Common.{◌≡◌, ◌∙◌, ap, sym, subst, ℕ, List, Option, Some, Result, Ok, Err, ◌⊎◌, inl, inr}
use Rattle.std.specs.Prelude.{IfErr}
use Rattle.ssh_negotiate.specs.declared.kex.KexCause.{KexCause}
use Rattle.ssh_negotiate.specs.declared.kex.Name as kexes
use Rattle.ssh_negotiate.specs.declared.negotiation.Names.{Names}
use Rattle.ssh_packet.specs.declared.reader.Incoming.{Incoming}
use Rattle.ssh_wire.specs.declared.error.Error.{Error}
use Rattle.ssh_wire.specs.declared.error.Error.TheVariants.{Memory, WrongServerSig}
use Rattle.ssh_client_kex.specs.Agreed.{AgreesFirst, MakesFirst}
use Rattle.ssh_client_kex.specs.ClientViews.{HasValue, client_machine, client_stage, local_of}
use Rattle.ssh_client_kex.specs.declared.client_kex.ClientState.{ClientState}
use Rattle.ssh_client_kex.specs.declared.client_kex.ClientState.TheVariants as states
use Rattle.ssh_kex.specs.Agreeing.{Agreeing}
use Rattle.ssh_kex.specs.Setting.{Says, group_of}
use Rattle.ssh_kex.specs.Stages.{Machine}
use Rattle.ssh_kex.specs.Unasked.{has_front}
use Rattle.ssh_kex.specs.declared.config.Config.{Config}
use Rattle.ssh_kex.specs.declared.exchange.Exchange.{Exchange}
use Rattle.ssh_kex.specs.declared.group.DhGroup.{DhGroup}
use Rattle.ssh_kex.specs.declared.progress.KexProgress.{KexProgress}

-- whether a front is read, by state
pub front_at : (config : Config) (cause : KexCause) (x : Exchange) (state own : ClientState) (m : Machine) (i : Incoming) → client_machine config cause x state ≡ m → state ≡ own → has_front m.stage (Some i) ≡ has_front (client_stage x own) (Some i)
front_at config cause x state own m i view is = ap (λ (k : Machine). has_front k.stage (Some i)) (sym view) ∙ ap (λ s. has_front (client_stage x s) (Some i)) is

-- a reply that is read to its end is refused for no field
pub read_whole : (X : Type 0) (Makes : List ℕ → List ℕ → Type 0) (payload : List ℕ) (r : Result (KexProgress Machine) Error) → IfErr r (λ e. (e ≡ Memory) ⊎ ((e ≡ WrongServerSig) × X)) → IfErr r (MakesFirst Makes payload)
read_whole X Makes payload (Ok p) h = tt
read_whole X Makes payload (Err e) (inl m) = λ fault front is read. absurd (let f = sym m ∙ is in cc)
read_whole X Makes payload (Err e) (inr w) = λ fault front is read. absurd (let f = sym w.0 ∙ is in cc)

-- what is made of a local and a public value, by name and group
abbrev Family : Type 1
Family = kexes.Name → Option DhGroup → List ℕ → List ℕ → List ℕ → Type 0

by_stage : (says : Says) (makes : Family) → ((k : kexes.Name) (q : Option DhGroup) (l v z public : List ℕ) → makes k q l v z → says.client_makes k q l public → says.agrees k q public v z) → (x : Exchange) (n : Names) (algorithm : Agreeing) (i : Incoming) (r : Result (KexProgress Machine) Error) → HasValue x n algorithm → IfErr r (MakesFirst (λ v z. makes algorithm.name algorithm.group (local_of algorithm.local) v z) i.payload.now) → IfErr r (AgreesFirst says (client_stage x (states.AwaitsReply n algorithm)) (Some i))
by_stage says makes agrees x n algorithm i (Ok p) has h = tt
by_stage says makes agrees x n algorithm i (Err e) has h = λ fault front is read.
    let made = h fault front is read in (
      made.0,
      agrees n.kex (group_of x.gex) (local_of algorithm.local) front.value made.0 x.client_ephemeral
          (subst (λ q. makes n.kex q (local_of algorithm.local) front.value made.0) has.group_is (subst (λ k. makes k algorithm.group (local_of algorithm.local) front.value made.0) has.name_is made.1)),
    )

pub reply_agreed : (says : Says) (makes : Family) → ((k : kexes.Name) (q : Option DhGroup) (l v z public : List ℕ) → makes k q l v z → says.client_makes k q l public → says.agrees k q public v z) → (config : Config) (cause : KexCause) (x : Exchange) (n : Names) (algorithm : Agreeing) (state : ClientState) (m : Machine) (i : Incoming) (r : Result (KexProgress Machine) Error) → client_machine config cause x state ≡ m → state ≡ states.AwaitsReply n algorithm → HasValue x n algorithm → IfErr r (MakesFirst (λ v z. makes algorithm.name algorithm.group (local_of algorithm.local) v z) i.payload.now) → IfErr r (AgreesFirst says m.stage (Some i))
reply_agreed says makes agrees config cause x n algorithm state m i r view is has h =
    subst (λ (k : Machine). IfErr r (AgreesFirst says k.stage (Some i))) (ap (client_machine config cause x) (sym is) ∙ view) (by_stage says makes agrees x n algorithm i r has h)
