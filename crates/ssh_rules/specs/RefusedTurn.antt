-- What is left to refuse of a piece of an honest peer's wire.
use Rattle.std.specs.Prelude.{◌≡◌, ◌⊎◌, ◌++◌, ℕ, List, None, Some}
use Rattle.ssh_packet.specs.Sealing.{Item}
use Rattle.ssh_wire.specs.Lines.{id_line}
use Rattle.ssh_wire.specs.Sides.{other_side}
use Rattle.ssh_wire.specs.declared.error.Error.{Error}
use Rattle.ssh_wire.specs.declared.error.Error.TheVariants as errors
use Rattle.ssh_wire.specs.declared.side.Side.{Side}
use Rattle.ssh_kex.specs.Parts.{Setup}
use Rattle.ssh_kex.specs.Refusals.{Denies}
use Rattle.ssh_kex.specs.Stages.{AwaitsNewkeys, Stage}
use Rattle.ssh_kex.specs.declared.exchange.Exchange.{Exchange}
use Rattle.ssh_kex.specs.declared.exchange.FinishedExchange.{FinishedExchange}
use Rattle.ssh_kex.specs.declared.exchange.ServerHost.{ServerHost}
use Rattle.ssh_rules.specs.Machine.{Event}
use Rattle.ssh_rules.specs.Refused.{AwaitsNext, RefusesNextMessage, one_of}
use Rattle.ssh_rules.specs.Refusing.{RefusesPiece, untrusted_of}
use Rattle.ssh_rules.specs.RunLaws.{config_of, says_by}
use Rattle.ssh_rules.specs.Snapshots.{IsReached, IsWholeId, StandsAs}
use Rattle.ssh_rules.specs.Standing.{Standing}
use Rattle.ssh_rules.specs.Turns.{PlaysTurn, Talkers, World, talkers}
use Rattle.ssh_rules.specs.Valid.{HasSizes, config_fault}
use Rattle.ssh_rules.specs.Wire.{HasFront}
use Rattle.ssh_kex.specs.Members.{AgreementMembers, GroupLookupMembers, HostKeysMembers}
use Rattle.ssh_kex.specs.Stepping.{denies_of, says_of}

-- the next message of an exchange, which its stage refuses
pub record MessageRefused (t : Talkers) (denies : Denies) (w : World) (cl sl : List Event) (side : Side) (error : Error)
    : Type 0 where
  pub stage : Stage
  pub item : Item
  pub awaits : AwaitsNext t w cl sl side stage item
  pub refuses : RefusesNextMessage (t.says side) denies (t.config side) side (one_of side w.client w.server) stage item error

-- the last message of an exchange, whose host isn't trusted
pub record HostRefused (t : Talkers) (untrusted : ServerHost → Type 0) (w : World) (cl sl : List Event) (side : Side)
    (error : Error) : Type 0 where
  pub item : Item
  pub exchange : Exchange
  pub made : FinishedExchange
  pub host : ServerHost
  pub awaits : AwaitsNext t w cl sl side (AwaitsNewkeys exchange made (Some host)) item
  pub denied : untrusted host
  pub error_is : error ≡ errors.UnknownKey

-- A turn of the side leads up to what is refused: the next message that the other wrote, which is in order and of a
-- kind that is taken there, and which the side's stage or its host keys refuse.
pub record RefusesBehind (t : Talkers) (denies : Denies) (untrusted : ServerHost → Type 0) (w : World) (side : Side)
    (error : Error) : Type 0 where
  pub piece : List ℕ
  pub events : List Event
  pub world : World
  pub cl : List Event
  pub sl : List Event
  pub turn : PlaysTurn t w side piece events world
  pub refuses : MessageRefused t denies world cl sl side error ⊎ HostRefused t untrusted world cl sl side error

-- memory was wanting, or that
abbrev pub RefusesInTurn : Talkers → Denies → (ServerHost → Type 0) → World → Side → Error → Type 0
RefusesInTurn t denies untrusted w side error = (error ≡ errors.Memory) ⊎ RefusesBehind t denies untrusted w side error

-- a piece of the other's wire is handed to a transport that is a side of a link, and is refused
pub record RefusesInLink (t : Talkers) (denies : Denies) (untrusted : ServerHost → Type 0) (w : World)
    (cl sl : List Event) (side : Side) (took piece : List ℕ) (old : Standing) (error : Error)
    (new : Standing) : Type 0 where
  pub reached : IsReached t w cl sl
  pub whole_id : IsWholeId (t.config (other_side side))
  pub stands : StandsAs t side took old (one_of side w.client w.server)
  pub honest : HasFront (id_line (t.config (other_side side)).id ++ (one_of (other_side side) w.client w.server).sent)
      (took ++ piece)
  pub refuses : RefusesPiece (t.says side) denies untrusted old piece error new

-- Where the agreements of both sides and the server's lookup are lawful, a message of an exchange is all that is
-- refused of an honest peer's wire, and want of memory: each packet is opened, and none is out of order or out of
-- place.
abbrev pub OnlyMessagesRefused : {A H G : Type 0} → AgreementMembers A → HostKeysMembers H → GroupLookupMembers G → Type 0
OnlyMessagesRefused {A} {H} {G} ma mh mg =
    (setup : Setup) (a b : A) (h i : H) (g j : G) (w : World) (cl sl : List Event) (side : Side) (took piece : List ℕ)
    (old new : Standing) (v v' : A) (x x' : H) (y y' : G) (error : Error)
    → ma.lawful a setup → ma.lawful b setup → mg.lawful j setup
    → ((s : Side) → config_fault s (config_of setup s) ≡ None) → ((s : Side) → HasSizes (config_of setup s))
    → RefusesInLink (talkers (says_by (says_of ma mh mg) setup a b h i g j) (config_of setup)) (denies_of ma mh mg v v' x x' y y') (untrusted_of mh x x')
    w cl sl side took piece old error new
    → RefusesInTurn (talkers (says_by (says_of ma mh mg) setup a b h i g j) (config_of setup)) (denies_of ma mh mg v v' x x' y y') (untrusted_of mh x x')
    w side error
