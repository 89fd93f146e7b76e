-- How often a side's parts are asked.
use Rattle.std.specs.Prelude.{◌≡◌, ℕ, ◌+◌, ◌≤◌, if◌then◌else◌, Bool, true, false, List, [], ◌∷◌, ◌++◌}
use Rattle.ssh_packet.specs.Sealing.{Item}
use Rattle.ssh_wire.specs.declared.side.Side.{Side}
use Rattle.ssh_kex.specs.Setting.{Says}
use Rattle.ssh_rules.specs.Counting.{CallsFrom, LookupsFrom, agreement_to_come, calls_of, hosts_to_come, lookups_of, lookups_to_come, request_due}
use Rattle.ssh_rules.specs.Log.{handled}
use Rattle.ssh_rules.specs.Machine.{Event, Inside, Outside, SideState, Silent, Where}
use Rattle.ssh_rules.specs.MessageTypes.{is_kex_type, type_of}
use Rattle.ssh_rules.specs.Standing.{Acts, OfFault, OfMemory, OfPacket, OfVersion, RefusalCause, RefusesInput, Standing}
use Rattle.ssh_kex.specs.Members.{AgreementMembers, GroupLookupMembers, HostKeysMembers}

-- how often each part of a side was asked
pub record PartCalls : Type 0 where
  pub agreement : ℕ
  pub hosts : ℕ
  pub lookups : ℕ

-- by the members of their traits
abbrev pub counted_by : {A H G : Type 0} → AgreementMembers A → HostKeysMembers H → GroupLookupMembers G → A → H → G → PartCalls
counted_by ma mh mg a h g = record { agreement = ma.calls a; hosts = mh.calls h; lookups = mg.calls g }

-- Between two states each part was asked no more often than was to come and than the exchanges that were begun ask it,
-- and the lookup in group exchanges alone.
pub record AsksWithin (side : Side) (st st' : SideState) (calls calls' : PartCalls) : Type 0 where
  pub agreement : CallsFrom (agreement_to_come side) (calls_of side) st st' calls.agreement calls'.agreement
  pub hosts : CallsFrom (hosts_to_come side) (calls_of side) st st' calls.hosts calls'.hosts
  pub lookups : CallsFrom (lookups_to_come side) (lookups_of side) st st' calls.lookups calls'.lookups
  pub groups : LookupsFrom st st' calls.lookups calls'.lookups

-- ---- one message

-- what is to come in the open exchange, or outside in the one that is begun for the message
abbrev pub to_come_for : (Where → ℕ) → ℕ → Where → ℕ
to_come_for to_come each Silent = 0
to_come_for to_come each Outside = each
to_come_for to_come each (Inside stage) = to_come (Inside stage)

-- a part is asked once at most, and only where that is to come
abbrev pub AsksOnce : (Where → ℕ) → ℕ → Where → ℕ → ℕ → Type 0
AsksOnce to_come each stands calls calls' =
    (calls ≤ calls') × (calls' ≤ calls + 1) × (calls' ≤ calls + to_come_for to_come each stands)

-- each part, for a message of an exchange, and the lookup where it may be the request for a group
pub record AsksForMessage (side : Side) (stands : Where) (calls calls' : PartCalls) : Type 0 where
  pub agreement : AsksOnce (agreement_to_come side) (calls_of side) stands calls.agreement calls'.agreement
  pub hosts : AsksOnce (hosts_to_come side) (calls_of side) stands calls.hosts calls'.hosts
  pub lookups : AsksOnce (lookups_to_come side) (lookups_of side) stands calls.lookups calls'.lookups
  pub groups : calls'.lookups ≤ calls.lookups + request_due stands

-- by whether a packet is one
abbrev pub AsksForType : Bool → Side → Where → PartCalls → PartCalls → Type 0
AsksForType true side stands calls calls' = AsksForMessage side stands calls calls'
AsksForType false side stands calls calls' = calls' ≡ calls

-- for what is refused: of a packet that is a message of an exchange each part once at most
abbrev pub AsksForCause : RefusalCause → Side → Where → PartCalls → PartCalls → Type 0
AsksForCause (OfPacket i) side stands calls calls' = AsksForType (is_kex_type (type_of i)) side stands calls calls'
AsksForCause (OfFault fault) side stands calls calls' = calls' ≡ calls
AsksForCause OfVersion side stands calls calls' = calls' ≡ calls
AsksForCause OfMemory side stands calls calls' = calls' ≡ calls

-- ---- packet by packet

-- how many of these packets are messages of exchanges
abbrev pub kex_count : List Item → ℕ
kex_count [] = 0
kex_count (i ∷ items) = (if is_kex_type (type_of i) then 1 else 0) + kex_count items

-- the packet that is refused
abbrev pub refused_packet : RefusalCause → List Item
refused_packet (OfPacket i) = i ∷ []
refused_packet (OfFault fault) = []
refused_packet OfVersion = []
refused_packet OfMemory = []

-- each part was asked at most so often
pub record AsksAtMost (bound : ℕ) (calls calls' : PartCalls) : Type 0 where
  pub agreement : calls'.agreement ≤ calls.agreement + bound
  pub hosts : calls'.hosts ≤ calls.hosts + bound
  pub lookups : calls'.lookups ≤ calls.lookups + bound

-- whatever events led from one to the other: each part was asked once at most for each message of an exchange that was
-- handled
abbrev pub AsksFew : Says → Standing → Standing → PartCalls → PartCalls → Type 0
AsksFew says old new calls calls' =
    (events : List Event) → Acts says old events new → AsksAtMost (kex_count (handled events)) calls calls'

-- ---- a refusal

-- up to the state at which something is refused, and then for that
pub record AsksUntil (side : Side) (cause : RefusalCause) (st at : SideState) (calls calls' : PartCalls) : Type 0 where
  pub mid : PartCalls
  pub before : AsksWithin side st at calls mid
  pub last : AsksForCause cause side at.stands mid calls'

-- A piece was refused, however it is answered: the parts were asked within that, and once at most for each message of an
-- exchange, the refused one included.
pub record RefusesAsking (says : Says) (old : Standing) (piece : List ℕ) (new : Standing) (calls calls' : PartCalls)
    : Type 0 where
  pub cause : RefusalCause
  pub refuses : RefusesInput says old piece cause new
  pub asks : AsksUntil old.side cause old.state refuses.at calls calls'
  pub few : AsksAtMost (kex_count (handled refuses.events ++ refused_packet cause)) calls calls'
