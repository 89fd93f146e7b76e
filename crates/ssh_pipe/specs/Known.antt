-- What is known of the exchanges that a client finished.
use Rattle.std.specs.Prelude.{◌≡◌, ℕ, List, ◌++◌, slice_get, Some}
use Rattle.ssh_wire.specs.Lines.{id_text}
use Rattle.ssh_wire.specs.declared.side.Side.TheVariants.{Client}
use Rattle.ssh_kex.specs.Setting.{Says}
use Rattle.ssh_kex.specs.declared.config.Config.{Config}
use Rattle.ssh_kex.specs.declared.exchange.FinishedExchange.{FinishedExchange}
use Rattle.ssh_rules.specs.AnyParts.{IsSigned}
use Rattle.ssh_rules.specs.Handled.{heard_in, packets_in}
use Rattle.ssh_rules.specs.Log.{read_bytes, recorded}
use Rattle.ssh_rules.specs.Machine.{Event, SideState, Steps, first_state}
use Rattle.ssh_rules.specs.Parts.{Accepting, Trusting}
use Rattle.ssh_rules.specs.RunLaws.{read_without_guesses}
use Rattle.ssh_rules.specs.Standing.{Standing}
use Rattle.ssh_rules.specs.Wire.{exchange_block}

-- The exchanges that a client finished are those of some run of it. The packets that it read in that run stand one
-- behind the other in what it was fed, and begin right behind the other's version line. Each exchange was signed, under
-- its hash, by a host that the client trusts.
pub record IsSignedClient (accepts : Accepting) (trusts : Trusting) (says : Says) (config : Config) (fed : List ℕ)
    (at : Standing) : Type 0 where
  pub log : List Event
  pub state : SideState
  pub steps : Steps says Client config (id_text config.id) first_state log state
  pub records : at.state.records ≡ recorded log
  pub read : (behind : List ℕ)
      × (packets_in (heard_in Client fed) fed ≡ read_bytes Client first_state.reading log ++ behind)
  pub signed : (k : ℕ) (x : FinishedExchange) → slice_get at.state.records k ≡ Some x
      → IsSigned accepts trusts (exchange_block k (read_without_guesses Client config log)) x
