-- What a side opens of the bytes that it was fed, whatever they are.
use Rattle.std.specs.Prelude.{◌≡◌, ℕ, List, [], ◌∷◌, ◌++◌, map, drop, Option, Some, None}
use Rattle.ssh_wire.specs.Lines.{IdFound, NotYet, Id, Version, id_of, other_line_limit}
use Rattle.ssh_wire.specs.declared.side.Side.{Side}
use Rattle.ssh_wire.specs.declared.side.Side.TheVariants.{Client, Server}
use Rattle.ssh_packet.specs.Front.{Fault, Unfinished, Refused, front_of}
use Rattle.ssh_packet.specs.Sealing.{Item}
use Rattle.ssh_packet.specs.Stream.{Place, first_place, EntriesBy, place_behind_by}
use Rattle.ssh_kex.specs.declared.config.Config.{Config}
use Rattle.ssh_kex.specs.declared.exchange.FinishedExchange.{FinishedExchange}
use Rattle.ssh_kex.specs.Exchange.{outgoing}
use Rattle.ssh_wire.specs.Sides.{other_side}
use Rattle.ssh_rules.specs.Guess.{ends_epoch}
use Rattle.ssh_rules.specs.Wire.{HasFront}

-- a client lets other lines pass before the id line, a server doesn't (RFC 4253 section 4.2)
abbrev pub heard_in : Side → List ℕ → IdFound
heard_in Client bytes = id_of other_line_limit bytes
heard_in Server bytes = id_of 0 bytes

-- the bytes behind the id line
abbrev pub packets_in : IdFound → List ℕ → List ℕ
packets_in NotYet bytes = []
packets_in (Id text end) bytes = drop end bytes
packets_in Version bytes = []

-- the text of the id line
abbrev pub id_text_in : IdFound → Option (List ℕ)
id_text_in NotYet = None
id_text_in (Id text end) = Some text
id_text_in Version = None

-- how a side's reading ends: with all that is whole read, at a fault of what stands next, or at a refused packet
pub data Ending : Type 0 where
  AllRead : Ending
  AtFault : (fault : Fault) → Ending
  AtPacket : (item : Item) → Ending

-- no whole packet and no fault stands next
abbrev pub EndsInPart : Option Place → List ℕ → Type 0
EndsInPart None rest = ⊥
EndsInPart (Some at) rest = front_of at.sealing at.number rest ≡ Unfinished

-- a fault stands next
abbrev pub IsFault : Option Place → List ℕ → Fault → Type 0
IsFault None rest fault = ⊥
IsFault (Some at) rest fault = front_of at.sealing at.number rest ≡ Refused fault

-- the packets handled, of those that could be opened, by how the reading ends
abbrev pub EndsWith : Ending → Option Place → List Item → List ℕ → List Item → Type 0
EndsWith AllRead at opened rest items = (items ≡ opened) × EndsInPart at rest
EndsWith (AtFault fault) at opened rest items = (items ≡ opened) × IsFault at rest fault
EndsWith (AtPacket i) at opened rest items = HasFront opened (items ++ i ∷ [])

-- The packets that a side handled, of the bytes behind the id line. What can be opened is read under the exchanges that
-- the side recorded; a dropped guess ends no epoch.
pub record Handled (side : Side) (config : Config) (exchanges : List FinishedExchange) (bytes : List ℕ)
    (items : List Item) (ending : Ending) : Type 0 where
  pub opened : List Item
  pub rest : List ℕ
  pub entries : EntriesBy (ends_epoch side config) (map (outgoing (other_side side)) exchanges) bytes opened rest
  pub ending_is : EndsWith ending
      (place_behind_by (ends_epoch side config) []
      (Some (first_place (map (outgoing (other_side side)) exchanges))) opened) opened rest items
