-- Types of messages (RFC 4250 section 4.1.2).
use Rattle.std.specs.Prelude.{ℕ, ◌||◌, ◌&&◌, nat_le, Bool, true, false, List, [], ◌∷◌}
use Rattle.ssh_packet.specs.Sealing.{Item}
use Rattle.ssh_packet.specs.Stream.{message_type}
use Rattle.ssh_wire.specs.Orders.{client_orders, is_kex, server_orders, violates}
use Rattle.ssh_wire.specs.declared.side.Side.{Side}
use Rattle.ssh_wire.specs.declared.side.Side.TheVariants.{Client, Server}

-- the type of a packet's message
abbrev pub type_of : Item → ℕ
type_of i = message_type i.payload

-- messages of key exchange
abbrev pub is_kex_type : ℕ → Bool
is_kex_type t = is_kex t

-- messages that are handed up
abbrev pub is_payload_type : ℕ → Bool
is_payload_type t = (nat_le 5 t && nat_le t 7) || nat_le 50 t

-- the types of a side's messages in one exchange (RFC 4253 sections 7 and 8, RFC 4419 section 3)
abbrev pub order : Side → Bool → List ℕ
order Client false = 20 ∷ 30 ∷ 21 ∷ []
order Client true = 20 ∷ 34 ∷ 32 ∷ 21 ∷ []
order Server false = 20 ∷ 31 ∷ 21 ∷ []
order Server true = 20 ∷ 31 ∷ 33 ∷ 21 ∷ []

-- the orders in which a side may send its messages
abbrev pub orders_of : Side → List (List ℕ)
orders_of Client = client_orders
orders_of Server = server_orders

-- some order of a side's messages reaches the place, and none has the type there
abbrev pub is_violation : Side → ℕ → ℕ → Bool
is_violation side t place = violates (orders_of side) t place
