-- What is true of one side alone, whatever bytes it is fed.
use Rattle.std.specs.Prelude.{◌≡◌, ℕ, suc, ◌+◌, ◌==◌, ◌||◌, length, Bool, false, if◌then◌else◌, List, [], ◌∷◌, take, slice_get, Option, Some}
use Rattle.ssh_packet.specs.Sealing.{Item}
use Rattle.ssh_packet.specs.Stream.{message_type}
use Rattle.ssh_wire.specs.declared.side.Side.{Side}
use Rattle.ssh_kex.specs.declared.config.Config.{Config}
use Rattle.ssh_kex.specs.declared.exchange.FinishedExchange.{FinishedExchange}
use Rattle.ssh_kex.specs.Setting.{Says, Setting}
use Rattle.ssh_rules.specs.Wire.{exchange_block, epochs_ended}
use Rattle.ssh_rules.specs.Machine.{SideState, Silent, first_state, setting}
use Rattle.ssh_rules.specs.Made.{IsRecorded}
use Rattle.ssh_rules.proofs.side.StageFits.{Trace}

-- whether NEWKEYS stands among these messages
abbrev pub has_newkeys : List (List ℕ) → Bool
has_newkeys [] = false
has_newkeys (m ∷ messages) = (message_type m == 21) || has_newkeys messages

-- The packets end so many epochs, and hold these messages of the exchange that is open, and none of a later one.
pub record Ledger (finished : ℕ) (messages : List (List ℕ)) (items : List Item) : Type 0 where
  pub ends_is : epochs_ended items ≡ finished + (if has_newkeys messages then 1 else 0)
  pub block_is : exchange_block finished items ≡ messages
  pub next_is : exchange_block (suc finished) items ≡ []

-- who talks in the exchange behind these
abbrev pub setting_at : Side → Config → List ℕ → Option (List ℕ) → List FinishedExchange → Setting
setting_at side config own_id heard records = setting side config own_id (record first_state { heard = heard; records = records })

-- Each exchange that was recorded was made of its two blocks of messages; what is open stands in the trace.
pub record Accounts (says : Says) (side : Side) (config : Config) (own_id : List ℕ) (written read : List Item) (st : SideState) (t : Trace) : Type 0 where
  pub own : Ledger (length st.records) t.own written
  pub theirs : Ledger (length st.records) t.theirs read
  pub silent : st.stands ≡ Silent → st.records ≡ []
  pub each : (k : ℕ) (x : FinishedExchange) → slice_get st.records k ≡ Some x → IsRecorded side says (setting_at side config own_id st.heard (take k st.records)) (exchange_block k written) (exchange_block k read) x
