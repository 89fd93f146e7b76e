-- A server's rows, each with the machine behind it.
use Rattle.std.specs.Prelude.{◌≡◌, ℕ, ◌||◌, false, List, Some, ◌⊎◌}
use Rattle.std.specs.Global.{Box}
use Rattle.ssh_negotiate.specs.Causes.{was_strict}
use Rattle.ssh_negotiate.specs.Tables.{shape_of}
use Rattle.ssh_negotiate.specs.declared.kex.KexCause.{KexCause}
use Rattle.ssh_negotiate.specs.declared.kex.Name as kexes
use Rattle.ssh_negotiate.specs.declared.negotiation.Names.{Names}
use Rattle.ssh_packet.specs.Writing.{Writer}
use Rattle.ssh_packet.specs.declared.keys.CipherPair.{CipherPair}
use Rattle.ssh_packet.specs.declared.reader.Incoming.{Incoming}
use Rattle.ssh_wire.specs.declared.error.Error.{Error}
use Rattle.ssh_wire.specs.declared.error.Error.TheVariants.{Memory}
use Rattle.ssh_kex.specs.Messages.{is_gex}
use Rattle.ssh_server_kex.specs.ServerRows.{AnswersRequest, AnswersValue, OpensServer, RefusesOpening}
use Rattle.ssh_server_kex.specs.ServerViews.{Begins, server_machine}
use Rattle.ssh_kex.specs.Stages.{Machine}
use Rattle.ssh_kex.specs.declared.config.Config.{Config}
use Rattle.ssh_kex.specs.declared.exchange.Exchange.{Exchange}
use Rattle.ssh_kex.specs.declared.exchange.FinishedExchange.{FinishedExchange}
use Rattle.ssh_kex.specs.declared.exchange.GexChosen.{GexChosen}
use Rattle.ssh_kex.specs.declared.exchange.ServerHost.{ServerHost}
use Rattle.ssh_kex.specs.declared.group.DhGroup.{DhGroup}
use Rattle.ssh_kex.specs.declared.group.GexParams.{GexParams}
use Rattle.ssh_kex.specs.declared.progress.KexProgress.{KexProgress}
use Rattle.ssh_kex.specs.declared.progress.KexProgress.TheVariants.{NeedsReply}
use Rattle.ssh_server_kex.specs.declared.server_kex.ServerState.TheVariants as states

-- the client's KEXINIT
pub record AnswersOpening (Offered : kexes.Name
    → Type 0) (config : Config) (cause : KexCause) (x : Exchange) (i : Incoming) (p : KexProgress Machine) (w w' : Writer) : Type 0 where
  pub names : Names
  pub exchange : Exchange
  pub opens : OpensServer Offered config cause x exchange i.seqn i.payload.now names
  pub begins : Begins (shape_of names.kex).skip (is_gex names.kex) config cause exchange names p w w'

abbrev pub ServerRefusesKexinit : (kexes.Name → Type 0) → Config → KexCause → Incoming → Error → Type 0
ServerRefusesKexinit Offered config cause i error = (error ≡ Memory)
    ⊎ RefusesOpening Offered config cause i.seqn i.payload.now error

-- the sizes that a client asks for
pub record AnswersSizes (Finds : GexParams → DhGroup
    → Type 0) (config : Config) (cause : KexCause) (x : Exchange) (n : Names) (payload : List ℕ) (p : KexProgress Machine) (w w' : Writer) : Type 0 where
  pub gex : GexChosen
  pub answers : AnswersRequest Finds payload w w' gex
  pub done : p ≡ NeedsReply (server_machine config cause (record x { gex = Some gex }) (states.AwaitsValue n)) false

-- a client's value
pub record AnswersClient (Makes : List ℕ → List ℕ → Type 0) (Agrees : List ℕ → List ℕ → List ℕ → Type 0) (Signs : ServerHost
    → List ℕ → List ℕ
    → Type 0) (config : Config) (cause : KexCause) (x : Exchange) (n : Names) (payload : List ℕ) (p : KexProgress Machine) (w w' : Writer) : Type 0 where
  pub exchange : Exchange
  pub made : FinishedExchange × Box CipherPair
  pub answers : AnswersValue Makes Agrees Signs config cause n x exchange payload w w' made
  pub done : p ≡ NeedsReply (server_machine config cause exchange (states.AwaitsNewkeys made.0 made.1)) (made.0.names.strict_kex || was_strict cause)
