-- What a tally counts: the first packets of a wire.
use Rattle.std.specs.Prelude.{◌≡◌, ℕ, zero, suc, ◌+◌, ◌-◌, ◌<◌, ◌≤◌, ◌==◌, min, List, [], ◌∷◌, ◌++◌, length, map, take, slice_get, slice_index, Bool, true, false, Some, if◌then◌else◌}
use Rattle.ssh_wire.specs.Lines.{id_line}
use Rattle.ssh_packet.specs.Sealing.{Item}
use Rattle.ssh_packet.specs.Stream.{first_place, Reads}
use Rattle.ssh_kex.specs.Exchange.{outgoing}
use Rattle.ssh_rules.specs.MessageTypes.{type_of, is_kex_type, is_payload_type, order}
use Rattle.ssh_rules.specs.Wire.{InBlocks, carried_payloads, epochs_ended, exchange_block}
use Rattle.ssh_rules.specs.Marks.{Half, epoch, kexinits, payload_bytes}
use Rattle.ssh_rules.specs.Run.{epoch_bytes}
use Rattle.ssh_transcript.specs.Reading.{AreKept}
use Rattle.ssh_transcript.specs.declared.packet.Packet.{Packet}
use Rattle.ssh_judge.specs.declared.tally.Tally.{Tally}

-- how many bytes a half's version line has
abbrev pub line_of : Half → ℕ
line_of h = length (id_line h.config.id)

-- A half's wire is these packets, in blocks, and this is kept of them.
pub record IsKeptHalf (kind : Bool) (h : Half) (items : List Item) (kept : List Packet) : Type 0 where
  pub packets : List ℕ
  pub line : h.wire ≡ id_line h.config.id ++ packets
  pub reads : Reads (Some (first_place (map (outgoing h.side) h.exchanges))) items packets []
  pub blocks : InBlocks h.side (λ k. kind) 1 (order h.side kind) items
  pub are : AreKept (Some (first_place (map (outgoing h.side) h.exchanges))) (line_of h) items kept

-- where the first so many packets end; they begin behind so many bytes
abbrev pub end_behind : ℕ → List Packet → ℕ → ℕ
end_behind start kept zero = start
end_behind start [] (suc n) = start
end_behind start (p ∷ kept) (suc n) = end_behind p.end kept n

-- what is kept of this packet, which begins behind so many bytes
pub record IsSeenAs (start : ℕ) (i : Item) (p : Packet) : Type 0 where
  pub message_type : p.message_type ≡ type_of i
  pub long : p.length ≡ length i.payload
  pub behind : start + length i.payload ≤ p.end

-- These packets may stand before this one, in blocks.
pub record MayFollow (items : List Item) (i : Item) : Type 0 where
  pub outside : is_payload_type (type_of i) ≡ true → kexinits items ≡ epochs_ended items
  pub message : is_payload_type (type_of i) ≡ false → is_kex_type (type_of i) ≡ true
  pub begins : type_of i ≡ 20 → (kexinits items ≡ epochs_ended items) × (exchange_block (epochs_ended items) items ≡ [])
  pub within : is_payload_type (type_of i) ≡ false → (type_of i ≡ 20 → ⊥) → kexinits items ≡ suc (epochs_ended items)

-- how many bytes are counted of an epoch
abbrev pub counted_in : ℕ → Tally → ℕ
counted_in k t = if k == length t.ended.items then t.carried_bytes else slice_index t.ended.items k

-- A tally has counted these packets.
pub record Counts (items : List Item) (t : Tally) : Type 0 where
  pub packets : t.packets ≡ length items
  pub carried : t.carried ≡ length (carried_payloads items)
  pub ended : length t.ended.items ≡ epochs_ended items
  pub carried_bytes : t.carried_bytes ≡ epoch_bytes (epochs_ended items) items
  pub past : (k : ℕ) → k < epochs_ended items → slice_get t.ended.items k ≡ Some (epoch_bytes k items)
  pub written : t.epoch_bytes ≡ payload_bytes (epoch items)
  pub begun : t.kexinits ≡ kexinits items
  pub messages : 0 < kexinits items → t.messages ≡ length (exchange_block (kexinits items - 1) items)
  pub few : (t.carried ≤ t.packets) × (t.kexinits ≤ t.packets) × (t.messages ≤ t.packets)
  pub small : (t.carried_bytes ≤ t.end) × (t.epoch_bytes ≤ t.end)

-- A tally has counted the first packets of these, which begin behind so many bytes.
pub record CountsFront (start : ℕ) (items : List Item) (kept : List Packet) (t : Tally) : Type 0 where
  pub within : t.packets ≤ length items
  pub counts : Counts (take t.packets items) t
  pub ends : t.end ≡ end_behind start kept t.packets

-- A tally has counted on to the last packet that lies whole in the first so many bytes.
pub record Advances (start : ℕ) (items : List Item) (kept : List Packet) (reach : ℕ) (t t' : Tally) : Type 0 where
  pub front : CountsFront start items kept t'
  pub more : t.packets ≤ t'.packets
  pub reached : (0 < t.packets → t.end ≤ reach) → 0 < t'.packets → t'.end ≤ reach
  pub next : (p : Packet) → slice_get kept t'.packets ≡ Some p → reach < p.end

-- one more, of a number that stays below 2^64
abbrev pub one_up : ℕ → ℕ
one_up n = min (n + 1) 18446744073709551615

-- so much more, of a number that stays below 2^64
abbrev pub more_by : ℕ → ℕ → ℕ
more_by n m = min (n + m) 18446744073709551615

-- a tally counts what every packet has
pub record CountsPacket (p : Packet) (t t' : Tally) : Type 0 where
  pub begun : t'.kexinits ≡ t.kexinits
  pub messages : t'.messages ≡ t.messages
  pub packets : t'.packets ≡ one_up t.packets
  pub ends : t'.end ≡ p.end
  pub carried : t'.carried ≡ t.carried
  pub ended : t'.ended.items ≡ t.ended.items
  pub carried_bytes : t'.carried_bytes ≡ t.carried_bytes
  pub written : t'.epoch_bytes ≡ more_by t.epoch_bytes p.length

-- a tally counts a payload of so many bytes that is handed up
pub record CountsPayload (long : ℕ) (t t' : Tally) : Type 0 where
  pub begun : t'.kexinits ≡ t.kexinits
  pub messages : t'.messages ≡ t.messages
  pub packets : t'.packets ≡ t.packets
  pub ends : t'.end ≡ t.end
  pub carried : t'.carried ≡ one_up t.carried
  pub ended : t'.ended.items ≡ t.ended.items
  pub carried_bytes : t'.carried_bytes ≡ more_by t.carried_bytes long
  pub written : t'.epoch_bytes ≡ t.epoch_bytes

-- a tally counts a message that begins an exchange
pub record BeginsExchange (t t' : Tally) : Type 0 where
  pub begun : t'.kexinits ≡ one_up t.kexinits
  pub messages : t'.messages ≡ 1
  pub packets : t'.packets ≡ t.packets
  pub ends : t'.end ≡ t.end
  pub carried : t'.carried ≡ t.carried
  pub ended : t'.ended.items ≡ t.ended.items
  pub carried_bytes : t'.carried_bytes ≡ t.carried_bytes
  pub written : t'.epoch_bytes ≡ t.epoch_bytes

-- a tally counts a message that ends an epoch
pub record EndsEpoch (t t' : Tally) : Type 0 where
  pub begun : t'.kexinits ≡ t.kexinits
  pub messages : t'.messages ≡ one_up t.messages
  pub packets : t'.packets ≡ t.packets
  pub ends : t'.end ≡ t.end
  pub carried : t'.carried ≡ t.carried
  pub ended : t'.ended.items ≡ t.ended.items ++ t.carried_bytes ∷ []
  pub carried_bytes : t'.carried_bytes ≡ 0
  pub written : t'.epoch_bytes ≡ 0

-- a tally counts a message of an exchange between its first and its last
pub record GoesOn (t t' : Tally) : Type 0 where
  pub begun : t'.kexinits ≡ t.kexinits
  pub messages : t'.messages ≡ one_up t.messages
  pub packets : t'.packets ≡ t.packets
  pub ends : t'.end ≡ t.end
  pub carried : t'.carried ≡ t.carried
  pub ended : t'.ended.items ≡ t.ended.items
  pub carried_bytes : t'.carried_bytes ≡ t.carried_bytes
  pub written : t'.epoch_bytes ≡ t.epoch_bytes

-- a tally counts a message of this type
pub record CountsMessage (message_type : ℕ) (t t' : Tally) : Type 0 where
  pub begins : message_type ≡ 20 → BeginsExchange t t'
  pub ends_epoch : message_type ≡ 21 → EndsEpoch t t'
  pub goes_on : (message_type ≡ 20 → ⊥) → (message_type ≡ 21 → ⊥) → GoesOn t t'
