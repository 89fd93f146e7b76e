-- What a reading of both wires keeps, and what it shows of the record.
use Rattle.std.specs.Prelude.{◌≡◌, ◌⊎◌, ℕ, suc, ◌+◌, ◌<◌, ◌≤◌, List, [], ◌∷◌, ◌++◌, length, map, drop, ◌-◌, Bool, true, false, Option, Some, None}
use Rattle.ssh_wire.specs.Lines.{id_line}
use Rattle.ssh_wire.specs.declared.side.Side.{Side}
use Rattle.ssh_wire.specs.declared.side.Side.TheVariants.{Client, Server}
use Rattle.ssh_wire.specs.declared.ssh_id.SshId.{SshId}
use Rattle.ssh_packet.specs.Keys.{opening_of, sealing_of}
use Rattle.ssh_packet.specs.Reading.{Reader}
use Rattle.ssh_packet.specs.Front.{Fault, Refused, Unfinished, front_of}
use Rattle.ssh_packet.specs.Sealing.{IsAdmissible, Item, Sealing, moved_on, next_number, sealed_packet}
use Rattle.ssh_packet.specs.Stream.{IsEnd, Opening, Place, Reads, first_place, kept_number, message_type, place_after, place_behind, packet_at}
use Rattle.ssh_kex.specs.Exchange.{outgoing}
use Rattle.ssh_kex.specs.Messages.{is_gex}
use Rattle.ssh_kex.specs.declared.exchange.Exchange.{Exchange}
use Rattle.ssh_kex.specs.declared.exchange.FinishedExchange.{FinishedExchange}
use Rattle.ssh_rules.specs.Headline.{submitted_by}
use Rattle.ssh_rules.specs.MessageTypes.{type_of}
use Rattle.ssh_rules.specs.Wire.{ArePadded, epochs_ended}
use Rattle.ssh_rules.specs.declared.link.Step.{Step}
use Rattle.ssh_record.specs.Answers.{HasBadPacket, HaveSecrets, LacksSecret}
use Rattle.ssh_record.specs.Exchanges.{AreNext, HasBlocks, IsNext, IsWholeBlock, block_messages, epoch_items}
use Rattle.ssh_record.specs.Packets.{IsWireOf, host_recorded}
use Rattle.ssh_record.specs.Recordings.{JudgedRecord, Recording, config_in, wire_in}
use Rattle.ssh_record.specs.declared.report.AuditEnd.{AuditEnd}
use Rattle.ssh_record.specs.declared.report.AuditEnd.TheVariants as end
use Rattle.ssh_record.specs.declared.report.AuditFault.{AuditFault}
use Rattle.ssh_record.specs.declared.report.AuditFault.TheVariants as fault
use Rattle.ssh_blocks.specs.Blocks.{HasSeen}
use Rattle.ssh_blocks.specs.Judging.{Fits, HasTaken, IsRulesOf}
use Rattle.ssh_blocks.specs.declared.judge.PacketJudge.{PacketJudge}
use Rattle.ssh_blocks.specs.declared.rules.WireRules.{WireRules}
use Rattle.ssh_transcript.specs.Alike.{AreAlike}
use Rattle.ssh_transcript.specs.Choosing.{IsSettingOf}
use Rattle.ssh_transcript.specs.declared.direction.Direction.{Direction}
use Rattle.ssh_transcript.specs.declared.exchange.Made.{Made}
use Rattle.ssh_transcript.specs.declared.packet.Packet.{Packet}
use Rattle.ssh_transcript.specs.declared.reading.ReadWires.{ReadWires}
use Rattle.ssh_transcript.specs.declared.setting.Setting.{Setting}
use Rattle.ssh_transcript.specs.declared.wire.Turn.{Turn}
use Rattle.ssh_transcript.specs.declared.wire.Turn.TheVariants as turn
use Rattle.ssh_transcript.specs.declared.wire.WireReader.{WireReader}

-- a setting is one of its own configurations
abbrev pub IsSetting : Setting → Type 0
IsSetting s = IsSettingOf s.client.now s.server.now s

-- a record under a setting
abbrev pub judged_under : Setting → Recording → JudgedRecord
judged_under s r = record { client = s.client.now; server = s.server.now; names = s.names; recording = r }

-- What is kept of packets: of each its type, the length of its payload, and where it ends. The first begins so many
-- bytes behind the wire's front.
abbrev pub AreKept : Option Place → ℕ → List Item → List Packet → Type 0
AreKept at start [] [] = Unit {0}
AreKept at start [] (p ∷ kept) = ⊥
AreKept at start (i ∷ items) [] = ⊥
AreKept None start (i ∷ items) (p ∷ kept) = ⊥
AreKept (Some at) start (i ∷ items) (p ∷ kept) =
    (p.message_type ≡ type_of i) × (p.length ≡ length i.payload) × (p.end ≡ start + length (packet_at at i))
    × AreKept (place_after at i) p.end items kept

-- of a side's whole wire, behind its version line
abbrev pub AreKeptOf : Side → JudgedRecord → List FinishedExchange → List Item → List Packet → Type 0
AreKeptOf side j xs items kept =
    AreKept (Some (first_place (map (outgoing side) xs))) (length (id_line (config_in side j).id)) items kept

-- what a reading kept of a side's packets
abbrev pub kept_of : Side → ReadWires → List Packet
kept_of Client w = w.client.packets.items
kept_of Server w = w.server.packets.items

-- All of a side's wire is good, and this is what is kept of it.
pub record IsKeptWire (side : Side) (j : JudgedRecord) (xs : List FinishedExchange) (kept : List Packet) : Type 0 where
  pub items : List Item
  pub good : IsWireOf side j xs (wire_in side j) items
  pub are : AreKeptOf side j xs items kept

-- both wires are good, and this is what a reading kept of them
pub record AreGoodWires (j : JudgedRecord) (w : ReadWires) : Type 0 where
  pub client : IsKeptWire Client j w.exchanges.items (kept_of Client w)
  pub server : IsKeptWire Server j w.exchanges.items (kept_of Server w)

-- one exchange more stands on both wires than secrets are given, or there was no memory
abbrev pub IsReadingEnd : JudgedRecord → AuditEnd → Type 0
IsReadingEnd j e = (e ≡ end.Memory) ⊎ ((blocks : ℕ) × (e ≡ end.Fault (fault.Secrets blocks)) × LacksSecret j blocks)

-- a packet is bad, the client's first
abbrev pub IsPacketFault : JudgedRecord → AuditFault → Type 0
IsPacketFault j f = (side : Side) × (place : ℕ) × (f ≡ fault.Packet side place) × HasBadPacket j side place

-- ---- one wire on its way

-- where a side's packets begin, under these exchanges
abbrev pub first_of : Side → List FinishedExchange → Option Place
first_of side xs = Some (first_place (map (outgoing side) xs))

-- what is asked of a side's packets beside their bytes and their padding
abbrev pub FitsIn : Side → JudgedRecord → List Item → Type 0
FitsIn side j items = Fits side (config_in side j) (is_gex j.names.kex) (host_recorded side j) (submitted_by side j.recording.steps) items

-- Behind these good packets, so many, one stands that isn't good.
pub record IsFirstBad (side : Side) (j : JudgedRecord) (xs : List FinishedExchange) (items : List Item) (count : ℕ) : Type 0 where
  pub good : List Item
  pub bad : Item
  pub more : List Item
  pub items_are : items ≡ good ++ bad ∷ more
  pub many : length good ≡ count
  pub padded : ArePadded (first_of side xs) good
  pub fits : FitsIn side j good
  pub refused : ArePadded (first_of side xs) (good ++ bad ∷ []) → FitsIn side j (good ++ bad ∷ []) → ⊥

-- all packets are good so far, and the judge has taken them
pub record AreGoodSoFar (side : Side) (j : JudgedRecord) (xs : List FinishedExchange) (items : List Item) (judge : PacketJudge) : Type 0 where
  pub padded : ArePadded (first_of side xs) items
  pub taken : HasTaken side (config_in side j) (is_gex j.names.kex) (host_recorded side j) j.recording.steps items judge

-- packets were judged: all are good, or only the first so many
abbrev pub AreJudged : Side → JudgedRecord → List FinishedExchange → List Item → PacketJudge → Option ℕ → Type 0
AreJudged side j xs items judge None = AreGoodSoFar side j xs items judge
AreJudged side j xs items judge (Some count) = IsFirstBad side j xs items count

-- where the version line ends, if the wire begins with it
abbrev pub IsLineOf : List ℕ → List ℕ → Option ℕ → Type 0
IsLineOf text wire None = (packets : List ℕ) → wire ≡ text ++ packets → ⊥
IsLineOf text wire (Some line) = wire ≡ text ++ drop line wire

-- What a reader is fed: the bytes behind the version line; none where the wire doesn't begin with it.
abbrev pub IsFedBehind : List ℕ → List ℕ → Option ℕ → List ℕ → Type 0
IsFedBehind text wire None fed = (fed ≡ []) × ((packets : List ℕ) → wire ≡ text ++ packets → ⊥)
IsFedBehind text wire (Some line) fed = wire ≡ text ++ fed

abbrev pub IsFed : Side → JudgedRecord → Option ℕ → List ℕ → Type 0
IsFed side j line fed = IsFedBehind (id_line (config_in side j).id) (wire_in side j) line fed

-- what a reader is made of is a side's part of the record
pub record IsPartOf (side : Side) (j : JudgedRecord) (id : SshId) (wire : List ℕ) (steps : List Step) (rules : WireRules) : Type 0 where
  pub id_is : id ≡ (config_in side j).id
  pub wire_is : wire ≡ wire_in side j
  pub steps_are : steps ≡ j.recording.steps
  pub rules_are : IsRulesOf side (config_in side j) (is_gex j.names.kex) (host_recorded side j) rules

-- a reader is of this side of the record
pub record IsReaderOf (side : Side) (j : JudgedRecord) (r : WireReader) : Type 0 where
  pub wire_is : r.wire.now ≡ wire_in side j
  pub side_is : r.side ≡ side
  pub kind_is : r.kind ≡ is_gex j.names.kex

-- These packets stand whole at the front, and were judged and kept; the rest of what was fed waits.
pub record HasRead (side : Side) (j : JudgedRecord) (xs : List FinishedExchange) (items : List Item) (rest : List ℕ) (r : WireReader) : Type 0 where
  pub fed : List ℕ
  pub fed_is : IsFed side j r.line fed
  pub reads : Reads (first_of side xs) items fed rest
  pub waits : length r.reader.waiting ≡ length rest
  pub kept : AreKeptOf side j xs items r.packets.items
  pub judged : AreJudged side j xs items r.judge r.bad

-- whether payloads may stand in the open epoch before its exchange
abbrev pub is_later : List FinishedExchange → Bool
is_later [] = false
is_later (x ∷ xs) = true

-- the open block has seen the packets of the epoch behind these exchanges
abbrev pub HasSeenIn : Side → JudgedRecord → List FinishedExchange → List Item → WireReader → Type 0
HasSeenIn side j xs items r = HasSeen side (is_gex j.names.kex) (is_later xs) (epoch_items (length xs) items) r.block

-- A reader's keys, number and state are those of a place in the last epoch that is defined.
pub record StandsIn (place : Place) (direction : Direction) (reader : Reader) : Type 0 where
  pub opening : place.sealing ≡ opening_of direction.opening
  pub alike : AreAlike place.sealing (sealing_of direction.sealing)
  pub number : place.number ≡ reader.number
  pub last : place.openings ≡ []
  pub live : reader.failed ≡ false

-- It stands in an epoch that is open.
pub record IsOpen (side : Side) (j : JudgedRecord) (xs : List FinishedExchange) (r : WireReader) : Type 0 where
  pub items : List Item
  pub is_of : IsReaderOf side j r
  pub read : HasRead side j xs items r.reader.waiting r
  pub place : Place
  pub at : place_behind (first_of side xs) items ≡ Some place
  pub stands : StandsIn place r.direction r.reader
  pub many : epochs_ended items ≡ length xs
  pub seen : HasSeenIn side j xs items r

-- Its epoch ended with the last packet. With one exchange more it stands at the front of the next.
pub record HasEnded (side : Side) (j : JudgedRecord) (xs : List FinishedExchange) (r : WireReader) : Type 0 where
  pub items : List Item
  pub is_of : IsReaderOf side j r
  pub read : HasRead side j xs items r.reader.waiting r
  pub ended : place_behind (first_of side xs) items ≡ None
  pub goes_on : (o : Opening) → place_behind (Some (first_place (map (outgoing side) xs ++ o ∷ []))) items
      ≡ Some (record { sealing = o.sealing; number = kept_number o.strict r.reader.number; openings = [] })
  pub live : r.reader.failed ≡ false
  pub many : epochs_ended items ≡ suc (length xs)
  pub behind : epoch_items (suc (length xs)) items ≡ []
  pub seen : HasSeenIn side j xs items r

-- Nothing more is whole, in an epoch that is open still.
pub record IsOver (side : Side) (j : JudgedRecord) (xs : List FinishedExchange) (r : WireReader) : Type 0 where
  pub items : List Item
  pub rest : List ℕ
  pub read : HasRead side j xs items rest r
  pub ends : IsEnd (place_behind (first_of side xs) items) rest
  pub many : epochs_ended items ≡ length xs

-- All that is whole is read.
pub record IsRead (side : Side) (j : JudgedRecord) (xs : List FinishedExchange) (r : WireReader) : Type 0 where
  pub items : List Item
  pub rest : List ℕ
  pub read : HasRead side j xs items rest r
  pub ends : IsEnd (place_behind (first_of side xs) items) rest

-- why nothing is opened: the reader was refused before, or nothing whole stands next
abbrev pub FindsNone : Reader → Sealing → Type 0
FindsNone r key = (r.failed ≡ true) ⊎ ((front_of key r.number r.waiting ≡ Unfinished) ⊎ ((f : Fault) × (front_of key r.number r.waiting ≡ Refused f)))

-- a packet was opened
pub record OpensFront (old : Reader) (key : Sealing) (item : Item) (new : Reader) (key' : Sealing) : Type 0 where
  pub admissible : IsAdmissible key item
  pub bytes : old.waiting ≡ sealed_packet key old.number item ++ new.waiting
  pub handed : new.handed ≡ item.payload
  pub number : new.number ≡ next_number old.number
  pub live : new.failed ≡ false
  pub moved : key' ≡ moved_on key item
  pub shorter : length new.waiting < length old.waiting

-- none was
pub record OpensNothing (old : Reader) (key : Sealing) (new : Reader) : Type 0 where
  pub waits : length new.waiting ≡ length old.waiting
  pub none : FindsNone old key

-- with the rest of a wire's reader
pub record Opens (old new : WireReader) (item : Item) : Type 0 where
  pub same : new ≡ record old { reader = new.reader; direction = new.direction }
  pub key : new.direction.sealing ≡ old.direction.sealing
  pub front : OpensFront old.reader (opening_of old.direction.opening) item new.reader (opening_of new.direction.opening)

pub record OpensNone (old new : WireReader) : Type 0 where
  pub same : new ≡ record old { reader = new.reader; direction = new.direction }
  pub nothing : OpensNothing old.reader (opening_of old.direction.opening) new.reader

-- what is kept of a packet
abbrev pub packet_of : List ℕ → ℕ → Packet
packet_of payload place = record { message_type = message_type payload; length = length payload; end = place }

-- whether a message of the type ends the epoch
abbrev pub turn_behind : Bool → Turn
turn_behind true = turn.EpochEnd
turn_behind false = turn.Packet

-- what a turn of a reading leads to
abbrev pub TurnsTo : Turn → Side → JudgedRecord → List FinishedExchange → WireReader → Type 0
TurnsTo turn.Packet side j xs r = IsOpen side j xs r
TurnsTo turn.EpochEnd side j xs r = HasEnded side j xs r
TurnsTo turn.Nothing side j xs r = IsOver side j xs r

-- A packet is opened that begins at a place of the wire, and isn't kept yet.
pub record HasOpened (side : Side) (j : JudgedRecord) (xs : List FinishedExchange) (start : ℕ) (r : WireReader) : Type 0 where
  pub items : List Item
  pub item : Item
  pub fed : List ℕ
  pub before : List ℕ
  pub place : Place
  pub is_of : IsReaderOf side j r
  pub fed_is : IsFed side j r.line fed
  pub line_is : wire_in side j ≡ id_line (config_in side j).id ++ fed
  pub reads : Reads (first_of side xs) items fed before
  pub at : place_behind (first_of side xs) items ≡ Some place
  pub admissible : IsAdmissible place.sealing item
  pub bytes : before ≡ packet_at place item ++ r.reader.waiting
  pub begins : start + length before ≡ length (wire_in side j)
  pub handed : r.reader.handed ≡ item.payload
  pub opening : moved_on place.sealing item ≡ opening_of r.direction.opening
  pub alike : AreAlike place.sealing (sealing_of r.direction.sealing)
  pub number : next_number place.number ≡ r.reader.number
  pub last : place.openings ≡ []
  pub live : r.reader.failed ≡ false
  pub many : epochs_ended items ≡ length xs
  pub kept : AreKeptOf side j xs items r.packets.items
  pub judged : AreJudged side j xs items r.judge r.bad
  pub seen : HasSeenIn side j xs items r

-- the packet that was opened is judged and kept
pub record Keeps (old new : WireReader) : Type 0 where
  pub same : new ≡ record old { judge = new.judge; bad = new.bad; block = new.block; packets = new.packets }
  pub listed : new.packets.items ≡ old.packets.items ++ packet_of old.reader.handed (length old.wire.now - length old.reader.waiting) ∷ []

-- a direction's keys are those that a side's packets take up at the end of an exchange
pub record AreKeysOf (side : Side) (x : FinishedExchange) (d : Direction) : Type 0 where
  pub opening : opening_of d.opening ≡ (outgoing side x).sealing
  pub sealing : sealing_of d.sealing ≡ (outgoing side x).sealing

-- a reader takes them up
pub record TakesKeys (old : WireReader) (direction : Direction) (strict : Bool) (new : WireReader) : Type 0 where
  pub same : new ≡ record old { reader = new.reader; direction = direction; block = new.block }
  pub waiting : new.reader.waiting ≡ old.reader.waiting
  pub failed : new.reader.failed ≡ old.reader.failed
  pub number : new.reader.number ≡ kept_number strict old.reader.number
  pub seen : HasSeen old.side old.kind true [] new.block

-- what follows from where a reader stands, of whatever record
abbrev pub FromOpen : WireReader → (Side → JudgedRecord → List FinishedExchange → Type 0) → Type 0
FromOpen r P = (side : Side) (j : JudgedRecord) (xs : List FinishedExchange) → IsOpen side j xs r → P side j xs

abbrev pub FromRead : WireReader → (Side → JudgedRecord → List FinishedExchange → Type 0) → Type 0
FromRead r P = (side : Side) (j : JudgedRecord) (xs : List FinishedExchange) → IsRead side j xs r → P side j xs

abbrev pub FromEnded : WireReader → (Side → JudgedRecord → List FinishedExchange → List Item → Type 0) → Type 0
FromEnded r P = (side : Side) (j : JudgedRecord) (xs : List FinishedExchange) → (e : HasEnded side j xs r) → P side j xs e.items

abbrev pub FromOpened : ℕ → WireReader → (Side → JudgedRecord → List FinishedExchange → Place → List Item → Item → Type 0) → Type 0
FromOpened start r P = (side : Side) (j : JudgedRecord) (xs : List FinishedExchange) → (o : HasOpened side j xs start r) → P side j xs o.place o.items o.item

-- a packet that was opened keeps all good, or doesn't
abbrev pub StaysGood : ℕ → WireReader → PacketJudge → Type 0
StaysGood start r judge = FromOpened start r (λ side j xs place items item. AreGoodSoFar side j xs items r.judge → AreGoodSoFar side j xs (items ++ item ∷ []) judge)

abbrev pub IsNotGood : ℕ → WireReader → Type 0
IsNotGood start r = FromOpened start r (λ side j xs place items item. AreGoodSoFar side j xs items r.judge
    → ArePadded (first_of side xs) (items ++ item ∷ []) → FitsIn side j (items ++ item ∷ []) → ⊥)

-- ---- both wires

-- both stand in an open epoch, behind exchanges each of which is the next one
pub record AreOpen (j : JudgedRecord) (w : ReadWires) : Type 0 where
  pub client : IsOpen Client j w.exchanges.items w.client
  pub server : IsOpen Server j w.exchanges.items w.server
  pub each : AreNext j w.exchanges.items
  pub given : length w.exchanges.items ≤ length j.recording.secrets

-- both epochs ended
pub record HaveEnded (j : JudgedRecord) (w : ReadWires) : Type 0 where
  pub client : HasEnded Client j w.exchanges.items w.client
  pub server : HasEnded Server j w.exchanges.items w.server
  pub each : AreNext j w.exchanges.items
  pub given : length w.exchanges.items ≤ length j.recording.secrets

-- All that is whole on both wires is read, under all exchanges that stand on both.
pub record AreRead (j : JudgedRecord) (w : ReadWires) : Type 0 where
  pub client : IsRead Client j w.exchanges.items w.client
  pub server : IsRead Server j w.exchanges.items w.server
  pub secrets : HaveSecrets j w.exchanges.items

-- an exchange that was made is the next one, with its keys
pub record IsMadeNext (j : JudgedRecord) (xs : List FinishedExchange) (m : Made) : Type 0 where
  pub next : IsNext j xs m.exchange
  pub client : AreKeysOf Client m.exchange m.directions.client
  pub server : AreKeysOf Server m.exchange m.directions.server

-- no exchange more stands whole on both wires
abbrev pub HaveNone : JudgedRecord → List FinishedExchange → Type 0
HaveNone j xs = (e : Exchange) (host : List ℕ) → HasBlocks j xs e host → ⊥

-- one exchange more, and both stand in the next epoch
abbrev pub IsOneMore : JudgedRecord → ReadWires → ReadWires → Type 0
IsOneMore j old new = AreOpen j new × (length new.exchanges.items ≡ suc (length old.exchanges.items))

-- two blocks that are whole, and their messages
pub record AreWhole (j : JudgedRecord) (w : ReadWires) (own other : List (List ℕ)) : Type 0 where
  pub ended : HaveEnded j w
  pub client_whole : IsWholeBlock Client (is_gex j.names.kex) (length w.exchanges.items) ended.client.items
  pub server_whole : IsWholeBlock Server (is_gex j.names.kex) (length w.exchanges.items) ended.server.items
  pub client_is : own ≡ block_messages (length w.exchanges.items) ended.client.items
  pub server_is : other ≡ block_messages (length w.exchanges.items) ended.server.items

-- what follows from where both readers stand, of whatever record under the setting that has these secrets
abbrev pub FromBoth : ReadWires → Setting → List (List ℕ) → (JudgedRecord → Type 0) → Type 0
FromBoth w s secrets P = (r : Recording) → r.secrets ≡ secrets → AreOpen (judged_under s r) w → P (judged_under s r)

abbrev pub FromEnds : ReadWires → Setting → List (List ℕ) → (JudgedRecord → Type 0) → Type 0
FromEnds w s secrets P = (r : Recording) → r.secrets ≡ secrets → HaveEnded (judged_under s r) w → P (judged_under s r)

abbrev pub FromBlocks : ReadWires → Setting → List (List ℕ) → List (List ℕ) → List (List ℕ) → (JudgedRecord → Type 0) → Type 0
FromBlocks w s secrets own other P = (r : Recording) → r.secrets ≡ secrets → AreWhole (judged_under s r) w own other → P (judged_under s r)
