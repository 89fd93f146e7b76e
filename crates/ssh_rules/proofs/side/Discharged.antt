-- What the lemmas over the machine ask of the reading of a KEXINIT, discharged.
use Rattle.std.proofs.Common.{◌≡◌, ℕ, List, [], refl, false}
use Rattle.ssh_wire.specs.declared.side.Side.{Side}
use Rattle.ssh_kex.specs.declared.config.Config.{Config}
use Rattle.ssh_wire.specs.Sides.{other_side}
use Rattle.ssh_kex.specs.Setting.{Says, offers_of}
use Rattle.ssh_negotiate.specs.Laws.{IsWithin}
use Rattle.ssh_rules.proofs.side.Flags.{read_alike}
use Rattle.ssh_negotiate.proofs.Lemmas.{read_flags, follows_none}
use Rattle.ssh_rules.specs.Wire.{carried_payloads}
use Rattle.ssh_rules.specs.Machine.{SideState, Event, Steps, first_state}
use Rattle.ssh_rules.specs.Log.{handled, recorded, kept_in}
use Rattle.ssh_rules.specs.Guess.{BeforeKexinit, ends_epoch, without_guesses}
use Rattle.ssh_rules.specs.Attacked.{IsOrdered, until_end}
use Rattle.ssh_rules.proofs.any_bytes.Guessing.{ReadsAlike, read_by_guesses}
use Rattle.ssh_rules.proofs.side.Legal.{ReadsUnmarked}
use Rattle.ssh_rules.proofs.pair.NoGuess.{FollowsNone}
use Rattle.ssh_rules.proofs.side.Tags.{ordered_run, quiet_run}

pub reads_alike : (side : Side) (config : Config) → ReadsAlike side config
reads_alike side config = λ b payload n e. read_alike side (offers_of side config) b false payload n e

pub reads_unmarked : (side : Side) (config : Config) → ReadsUnmarked side config
reads_unmarked side config = λ b payload n e. (read_flags side (offers_of side config) b payload n e).unmarked

pub reads_no_guess : (side : Side) (config peer : Config) → IsWithin (offers_of (other_side side) peer) → FollowsNone side config peer
reads_no_guess side config peer good = λ b cookie n l e. follows_none side (offers_of side config) (offers_of (other_side side) peer) b cookie n l good e

-- of any run of a side, whatever it was fed
pub legal : (says : Says) (side : Side) (config : Config) (own_id : List ℕ) (log : List Event) (st : SideState) → Steps says side config own_id first_state log st → IsOrdered side config (recorded log) (handled log)
legal says side config own_id log st h = ordered_run says side config own_id log st (reads_alike side config) (reads_unmarked side config) h

pub none_early : (says : Says) (side : Side) (config : Config) (own_id : List ℕ) (log : List Event) (st : SideState) → Steps says side config own_id first_state log st → carried_payloads (until_end (ends_epoch side config) [] (handled log)) ≡ []
none_early says side config own_id log st h = quiet_run says side config own_id log st (reads_alike side config) h

pub kept_is : (says : Says) (side : Side) (config : Config) (own_id : List ℕ) (log : List Event) (st : SideState) → Steps says side config own_id first_state log st → without_guesses side config BeforeKexinit (handled log) ≡ kept_in log
kept_is says side config own_id log st h = (read_by_guesses says side config own_id log [] first_state st (reads_alike side config) refl h).1
