-- What the marks of a run say.
use Rattle.std.specs.Prelude.{◌≡◌, ℕ, zero, suc, ◌-◌, ◌<◌, ◌≤◌, ◌↔◌, List, [], ◌∷◌, length, take, drop, map, Bool, true, false, IsTrue, ◌==◌, max, Some, if◌then◌else◌, sum_by, count_by}
use Rattle.ssh_packet.specs.Sealing.{Item}
use Rattle.ssh_packet.specs.Stream.{first_place, is_newkeys, Reads}
use Rattle.ssh_wire.specs.declared.side.Side.{Side}
use Rattle.ssh_wire.specs.declared.side.Side.TheVariants.{Client, Server}
use Rattle.ssh_wire.specs.Lines.{id_line}
use Rattle.ssh_kex.specs.declared.config.Config.{Config}
use Rattle.ssh_kex.specs.declared.exchange.FinishedExchange.{FinishedExchange}
use Rattle.ssh_rules.specs.declared.link.SideMark.{SideMark}
use Rattle.ssh_kex.specs.Exchange.{outgoing}
use Rattle.ssh_rules.specs.MessageTypes.{type_of}
use Rattle.ssh_rules.specs.Wire.{carried_payloads, epochs_ended, exchange_block, LiesWhole}

-- One side of a run, as the report has it.
pub record Half : Type 0 where
  pub side : Side
  pub config : Config
  pub exchanges : List FinishedExchange
  pub wire : List ℕ
  pub submitted : List (List ℕ)

-- the packets behind so many ends of an epoch
abbrev pub behind_ends : ℕ → List Item → List Item
behind_ends zero items = items
behind_ends (suc n) [] = []
behind_ends (suc n) (i ∷ items) = if is_newkeys i then behind_ends n items else behind_ends (suc n) items

-- the packets behind the last end of an epoch
abbrev pub epoch : List Item → List Item
epoch items = behind_ends (epochs_ended items) items

-- the bytes of their payloads
abbrev pub payload_bytes : List Item → ℕ
payload_bytes items = sum_by (λ (i : Item). length i.payload) items

-- how many are KEXINITs
abbrev pub kexinits : List Item → ℕ
kexinits items = count_by (λ i. type_of i == 20) items

-- how many own messages of an exchange are written when so many of the other's were read
abbrev pub due : Side → Bool → ℕ → ℕ
due side kind zero = 1
due Client kind (suc zero) = 2
due Client kind (suc (suc zero)) = 3
due Client false (suc (suc (suc n))) = 3
due Client true (suc (suc (suc n))) = 4
due Server kind (suc zero) = 1
due Server false (suc (suc n)) = 3
due Server true (suc (suc zero)) = 2
due Server true (suc (suc (suc n))) = 4

-- the packets of a half's wire that lie whole in its first n bytes, n being a length at which one ends
abbrev pub SentBy : Half → ℕ → List Item → Type 0
SentBy half n items =
    Reads (Some (first_place (map (outgoing half.side) half.exchanges))) items
    (drop (length (id_line half.config.id)) (take n half.wire)) []

-- A side at a mark: `own` are its packets sent so far, `theirs` those of the other that lie whole in what it took.
pub record IsMarked (kind : Bool) (half other : Half) (m other_mark : SideMark) (own theirs : List Item) : Type 0 where
  pub sent : SentBy half m.sent own
  pub reaches : length (id_line half.config.id) ≤ m.sent
  pub within : m.sent ≤ length half.wire
  pub taken : m.taken ≤ other_mark.sent
  pub taken_whole : LiesWhole other.side other.config other.exchanges other.wire m.taken theirs
  pub delivered : m.delivered ≡ length (carried_payloads theirs)
  pub finished : m.finished ≡ epochs_ended theirs
  pub inside : IsTrue m.inside ↔ (m.finished < max 1 (kexinits own))
  pub outside_sent : m.inside ≡ false → m.submitted ≤ length (carried_payloads own)
  pub outside_written : m.inside ≡ false → payload_bytes (epoch own) < half.config.limits.rekey_write_limit
  pub outside_read : m.inside ≡ false → payload_bytes (epoch theirs) < half.config.limits.rekey_read_limit
  pub starts : (0 < kexinits own) ↔ (length (id_line other.config.id) ≤ m.taken)
  pub answers : kexinits theirs ≤ max 1 (kexinits own)
  pub prompt : 0 < kexinits own
      → length (exchange_block (kexinits own - 1) own) ≡ due half.side kind
      (length (exchange_block (kexinits own - 1) theirs))
