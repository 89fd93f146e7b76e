-- The lists of a client's own KEXINIT are those that its machine began with.
use Rattle.std.proofs.Common.{◌≡◌, subst, sym}
use Rattle.std.specs.Prelude.{None}
use Rattle.ssh_negotiate.specs.Advertised.{offers_with}
use Rattle.ssh_negotiate.specs.Laws.{AreShort}
use Rattle.ssh_negotiate.specs.Reading.{offered_by}
use Rattle.ssh_negotiate.specs.declared.kex.KexCause.{KexCause}
use Rattle.ssh_client_kex.specs.ClientViews.{ClientHolds, client_machine}
use Rattle.ssh_kex.specs.Refusals.{IsCreated}
use Rattle.ssh_kex.specs.Stages.{Machine}
use Rattle.ssh_client_kex.specs.declared.client_kex.ClientState.{ClientState}
use Rattle.ssh_client_kex.specs.declared.client_kex.ClientState.TheVariants as states
use Rattle.ssh_kex.specs.declared.config.Config.{Config}
use Rattle.ssh_kex.specs.declared.exchange.Exchange.{Exchange}

held_lists : (config : Config) (cause : KexCause) (x : Exchange) (state : ClientState) → IsCreated (client_machine config cause x state).stage → ClientHolds config x state → AreShort (offered_by config.preferred None)
unfolding offers_with
held_lists config cause x states.Created created h = h.0
held_lists config cause x (states.AwaitsGroup names) (own, e) h = cc
held_lists config cause x (states.AwaitsReply names algorithm) (own, e) h = cc
held_lists config cause x (states.AwaitsNewkeys host made cipher) (own, e) h = cc

pub own_lists : (config : Config) (cause : KexCause) (x : Exchange) (state : ClientState) (m : Machine) → client_machine config cause x state ≡ m → IsCreated m.stage → ClientHolds config x state → AreShort (offered_by config.preferred None)
own_lists config cause x state m e created h = held_lists config cause x state (subst (λ (k : Machine). IsCreated k.stage) (sym e) created) h
