-- Of any run nothing is used twice under one key.
use Rattle.std.proofs.Common.{ℕ, zero, suc, ◌≤◌, ◌^◌, List, [], map, arith, Some}
use Rattle.ssh_packet.specs.Stream.{first_place, Reads}
use Rattle.ssh_wire.specs.declared.side.Side.{Side}
use Rattle.ssh_kex.specs.declared.config.Config.{Config}
use Rattle.ssh_kex.specs.Exchange.{outgoing}
use Rattle.ssh_kex.specs.Setting.{Says}
use Rattle.ssh_rules.specs.Wire.{ArePadded}
use Rattle.ssh_rules.specs.Machine.{SideState, Event, Steps, first_state}
use Rattle.ssh_rules.specs.Log.{wrote, recorded, sent_bytes}
use Rattle.ssh_rules.specs.Fresh.{packets_of_epoch, AllApart}
use Rattle.ssh_rules.specs.Headline.{NeverRepeats}
use Rattle.ssh_rules.proofs.side.Apart.{StartWell, fresh}
use Rattle.ssh_rules.proofs.side.Numbers.{few_at}
use Rattle.ssh_rules.proofs.side.Padded.{written_padded}
use Rattle.ssh_rules.proofs.side.Places.{written_reads}
use Rattle.ssh_rules.proofs.side.StartStates.{run_starts_well}

-- of any run
pub run_padded : (says : Says) (side : Side) (config : Config) (own_id : List ℕ) (log : List Event) (st : SideState) → Steps says side config own_id first_state log st → ArePadded (Some (first_place (map (outgoing side) (recorded log)))) (wrote log)
run_padded says side config own_id log st h = written_padded says side config own_id log first_state st tt tt h

-- where each epoch starts well
starts_fresh : (says : Says) (side : Side) (config : Config) (own_id : List ℕ) (log : List Event) (st : SideState) → config.limits.rekey_write_limit ≤ 2 ^ 30 → StartWell (map (outgoing side) (recorded log)) → Steps says side config own_id first_state log st → NeverRepeats side (recorded log) (wrote log)
starts_fresh says side config own_id log st small well h = λ k some. by k some where
  reads : Reads (Some (first_place (map (outgoing side) (recorded log)))) (wrote log) (sent_bytes side first_state.writing log) []
  reads = written_reads says side config own_id log first_state st tt tt h

  by : (k : ℕ) → 1 ≤ k → AllApart (packets_of_epoch k (Some (first_place (map (outgoing side) (recorded log)))) (wrote log))
  by zero l = absurd (omega (arith, l))
  by (suc k) l = fresh k (Some (first_place (map (outgoing side) (recorded log)))) (wrote log) (sent_bytes side first_state.writing log) [] well (let f = few_at says side config own_id log st small h (suc k) in omega (arith, f, small)) reads (run_padded says side config own_id log st h)

-- Of any run: no number, no nonce and no counter block is used twice within an epoch of at least 1.
pub run_fresh : (says : Says) (side : Side) (config : Config) (own_id : List ℕ) (log : List Event) (st : SideState) → config.limits.rekey_write_limit ≤ 2 ^ 30 → Steps says side config own_id first_state log st → NeverRepeats side (recorded log) (wrote log)
run_fresh says side config own_id log st small h = starts_fresh says side config own_id log st small (run_starts_well says side side config own_id log st h) h
