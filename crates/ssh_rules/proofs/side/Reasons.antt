-- Why exchanges are begun, as it stands in a side's packets.
use Rattle.std.specs.Prelude.{◌≡◌, ℕ, zero, suc, ◌+◌, ◌<◌, ◌≤◌, if◌then◌else◌, List, [], ◌∷◌, length, slice_get, Some, ◌⊎◌}
use Rattle.ssh_packet.specs.Sealing.{Item}
use Rattle.ssh_packet.specs.Stream.{is_newkeys}
use Rattle.ssh_kex.specs.declared.config.Config.{Config}
use Rattle.ssh_rules.specs.MessageTypes.{type_of, is_payload_type}
use Rattle.ssh_rules.specs.Wire.{exchange_block}
use Rattle.ssh_rules.specs.Run.{epoch_bytes}
use Rattle.ssh_rules.specs.Machine.{Cause, Asked, Event, IdHeard, PayloadSubmitted, ExchangeBegun, AnswerSent, PayloadSent, MessageTaken, GuessDropped, PayloadDelivered, PacketDropped, ExchangeFinished}
use Rattle.ssh_rules.specs.Log.{asked}

-- something stands there
abbrev pub NonNil : {A : Type 0} → List A → Type 0
NonNil xs = 0 < length xs

-- a cause of exchange k, counted from 0: the side was asked, a limit was reached in the epoch before, or the other
-- began it
abbrev pub Reason : Config → List Cause → List Item → List Item → ℕ → Type 0
Reason config causes written read k =
    (slice_get causes k ≡ Some Asked)
    ⊎ ((config.limits.rekey_write_limit ≤ epoch_bytes k written)
    ⊎ ((config.limits.rekey_read_limit ≤ epoch_bytes k read)
    ⊎ NonNil (exchange_block k read)))

-- nothing is dropped that is no message of an exchange: so of each honest peer
abbrev pub NoDrops : List Event → Type 0
NoDrops [] = Unit {0}
NoDrops (PacketDropped i ∷ es) = ⊥
NoDrops (IdHeard id ∷ es) = NoDrops es
NoDrops (PayloadSubmitted p ∷ es) = NoDrops es
NoDrops (ExchangeBegun cause i ∷ es) = NoDrops es
NoDrops (AnswerSent i resets ∷ es) = NoDrops es
NoDrops (PayloadSent i ∷ es) = NoDrops es
NoDrops (MessageTaken i ∷ es) = NoDrops es
NoDrops (GuessDropped i ∷ es) = NoDrops es
NoDrops (PayloadDelivered i ∷ es) = NoDrops es
NoDrops (ExchangeFinished i x ∷ es) = NoDrops es

-- whether exchange k was asked for
abbrev pub asked_at : ℕ → List Cause → ℕ
asked_at k [] = 0
asked_at zero (c ∷ causes) = asked c
asked_at (suc k) (c ∷ causes) = asked_at k causes

-- one for a payload
abbrev pub one_payload : Item → ℕ
one_payload i = if is_payload_type (type_of i) then 1 else 0

-- how many payloads stand in epoch k
abbrev pub payloads_at : ℕ → List Item → ℕ
payloads_at k [] = 0
payloads_at zero (i ∷ items) = if is_newkeys i then 0 else one_payload i + payloads_at zero items
payloads_at (suc k) (i ∷ items) = if is_newkeys i then payloads_at k items else payloads_at (suc k) items

-- how many there are
abbrev pub payloads_in : List Item → ℕ
payloads_in [] = 0
payloads_in (i ∷ items) = one_payload i + payloads_in items

-- what exchange k is charged to: a rekey of one side, or a payload that one of them wrote in the epoch before
abbrev pub Charged : (client_causes server_causes : List Cause) (client_written server_written : List Item) → ℕ → Type 0
Charged cc sc cw sw k = 1 ≤ asked_at k cc + asked_at k sc + (payloads_at k cw + payloads_at k sw)
