-- What each run of a side says, whatever it was fed.
use Rattle.std.proofs.Common.{◌≡◌, ℕ, ◌-◌, ◌++◌, List, None, Bool, true, false, sym, subst, is_some}
use Rattle.ssh_wire.specs.declared.side.Side.{Side}
use Rattle.ssh_kex.specs.Setting.{Says}
use Rattle.ssh_kex.specs.declared.config.Config.{Config}
use Rattle.ssh_rules.specs.Attacked.{IsPrompt, block_names, kind_in, still_strict}
use Rattle.ssh_rules.specs.Log.{read_bytes, recorded, submitted_in, wrote}
use Rattle.ssh_rules.specs.Marks.{kexinits}
use Rattle.ssh_rules.specs.Standing.{WaitsInPart, is_outside}
use Rattle.ssh_rules.specs.Wire.{exchange_block}
use Rattle.ssh_rules.proofs.any_bytes.RunHandled.{run_handled}
use Rattle.ssh_rules.proofs.side.RunPrompt.{run_prompt}
use Rattle.ssh_rules.specs.Machine.{Event, IsQuiet, SideState, Steps, first_state}
use Rattle.ssh_rules.specs.RunLaws.{RestSays, RunSays}
use Rattle.ssh_rules.specs.Valid.{HasSizes, config_fault}
use Rattle.ssh_rules.proofs.any_bytes.Attacked.{run_counted, run_named, run_wire}
use Rattle.ssh_rules.proofs.side.Discharged.{kept_is, legal}
use Rattle.ssh_rules.proofs.side.Freshness.{run_fresh}
use Rattle.ssh_rules.proofs.side.Numbers.{few_at}
use Rattle.ssh_rules.proofs.side.Payloads.{delivers}
use Rattle.ssh_rules.proofs.side.Valid.{small_limits, write_limit}

pub run_says : (says : Says) (side : Side) (config : Config) (own_id : List ℕ) (log : List Event) (st : SideState)
    → config_fault side config ≡ None → HasSizes config → Steps says side config own_id first_state log st
    → RunSays side config log
run_says says side config own_id log st valid sizes h = record {
  wire = run_wire says side config own_id log st sizes h;
  recorded_all = run_counted says side config own_id log st h;
  named = run_named says side config own_id log st h;
  ordered = legal says side config own_id log st h;
  delivered = delivers says side config own_id log first_state st h;
  few = few_at says side config own_id log st (write_limit side config valid) h;
  fresh = run_fresh says side config own_id log st (write_limit side config valid) h;
}

pub rest_says : (says : Says) (side : Side) (config : Config) (own_id : List ℕ) (log : List Event) (st : SideState) (bytes rest : List ℕ) (asked : Bool) → config_fault side config ≡ None → Steps says side config own_id first_state log st → IsQuiet config st → bytes ≡ read_bytes side first_state.reading log ++ rest → WaitsInPart st.reading rest → (asked ≡ true → is_outside st.stands ≡ false) → RestSays side config log st bytes asked
rest_says says side config own_id log st bytes rest asked valid h quiet e part rekey = record {
  reads = run_handled says side config own_id log st bytes rest h e part;
  prompt = subst (λ r. IsPrompt side config (kind_in (block_names side config (still_strict (recorded log)) (exchange_block (kexinits (wrote log) - 1) r))) (submitted_in log) (wrote log) r (is_some st.heard) asked) (sym (kept_is says side config own_id log st h)) (run_prompt says side config own_id log st asked (small_limits side config valid) h quiet rekey);
}
