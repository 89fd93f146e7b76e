-- What a link refuses of the messages of its exchanges, by what the handed-in parts of both sides are.
use Rattle.std.specs.Prelude.{◌≡◌, ◌⊎◌, ℕ, true, if◌then◌else◌, List, [], Option, Some, None, Ok}
use Rattle.ssh_packet.specs.Front.{Whole, front_of}
use Rattle.ssh_packet.specs.Sealing.{Item, next_number}
use Rattle.ssh_wire.specs.Lines.{id_text}
use Rattle.ssh_wire.specs.declared.error.Error.{Error}
use Rattle.ssh_wire.specs.declared.error.Error.TheVariants as errors
use Rattle.ssh_wire.specs.declared.side.Side.{Side}
use Rattle.ssh_wire.specs.declared.side.Side.TheVariants.{Client, Server}
use Rattle.ssh_negotiate.specs.declared.negotiation.Names.{Names}
use Rattle.ssh_negotiate.specs.declared.preferred.HostKey.{HostKey}
use Rattle.ssh_kex.specs.Parts.{Presents, Setup}
use Rattle.ssh_kex.specs.Refusals.{Denies, IsCreated, IsOutOfRange, IsUnoffered, PartDenies, RefusesMessage, SignatureDenied, SigningDenied}
use Rattle.ssh_kex.specs.Setting.{Says, Setting}
use Rattle.ssh_kex.specs.Stages.{AwaitsNewkeys, Stage}
use Rattle.ssh_kex.specs.declared.config.Config.{Config}
use Rattle.ssh_kex.specs.declared.exchange.Exchange.{Exchange}
use Rattle.ssh_kex.specs.declared.exchange.FinishedExchange.{FinishedExchange}
use Rattle.ssh_kex.specs.declared.exchange.ServerHost.{ServerHost}
use Rattle.ssh_kex.specs.declared.group.DhGroup.{DhGroup}
use Rattle.ssh_rules.specs.Headline.{chosen_by, kind_by}
use Rattle.ssh_rules.specs.Machine.{Event, Inside, Outside, Where, setting}
use Rattle.ssh_rules.specs.MessageTypes.{is_kex_type, type_of}
use Rattle.ssh_rules.specs.RunLaws.{config_of, says_by}
use Rattle.ssh_rules.specs.Snapshots.{IsReached}
use Rattle.ssh_rules.specs.Turns.{LinkEnd, Talkers, World, talkers}
use Rattle.ssh_rules.specs.Valid.{HasSizes, config_fault}
use Rattle.ssh_kex.specs.Members.{AgreementKept, AgreementMembers, GroupLookupMembers, GroupsKept, HostKeysMembers, HostsKept}
use Rattle.ssh_kex.specs.Stepping.{denies_of, says_of}

-- of two things that both sides have, the one of this side
abbrev pub one_of : {T : Type 0} → Side → T → T → T
one_of Client a b = a
one_of Server a b = b

-- in which stage a message is looked at: that of the open exchange, or outside that of one which is begun for it
abbrev pub LooksIn : Where → Stage → Type 0
LooksIn stands stage = (stands ≡ Inside stage) ⊎ ((stands ≡ Outside) × IsCreated stage)

-- In a link that turns led to, the side owes no message, and this packet of an exchange stands whole at the front of
-- what it was fed and hasn't handled.
pub record AwaitsNext (t : Talkers) (w : World) (cl sl : List Event) (side : Side) (stage : Stage) (item : Item)
    : Type 0 where
  pub reached : IsReached t w cl sl
  pub owes : (one_of side w.client w.server).state.owed ≡ []
  pub looks : LooksIn (one_of side w.client w.server).state.stands stage
  pub is_kex : is_kex_type (type_of item) ≡ true
  pub behind : List ℕ
  pub whole : front_of (one_of side w.client w.server).state.reading.sealing
      (one_of side w.client w.server).state.reading.number
      (one_of side w.client w.server).unfinished ≡ Whole item behind

-- the side refuses the packet's message, as its parts say and deny
abbrev pub RefusesNextMessage : Says → Denies → Config → Side → LinkEnd → Stage → Item → Error → Type 0
RefusesNextMessage says denies config side h stage item error =
    RefusesMessage says denies (setting side config (id_text config.id) h.state) stage
    (next_number h.state.reading.number) item.payload error

-- What is left to refuse of an honest peer's messages: what the parts decide, each by its cause, and want of memory.
abbrev pub PartsDecide : Says → Denies → Setting → Stage → ℕ → List ℕ → Error → Type 0
-- the group of a group exchange is outside the sizes that the client asked for
PartsDecide says denies s stage seqn payload errors.KexInit = IsOutOfRange s stage payload
-- the name is not offered
PartsDecide says denies s stage seqn payload errors.UnknownAlgo = IsUnoffered says s stage seqn payload
-- the agreement or the lookup refuses
PartsDecide says denies s stage seqn payload errors.Kex = PartDenies says denies s stage seqn payload
-- the host keys refuse a signature, or to sign
PartsDecide says denies s stage seqn payload errors.WrongServerSig = SignatureDenied says denies s stage payload
PartsDecide says denies s stage seqn payload errors.Signature = SigningDenied s denies stage payload
PartsDecide says denies s stage seqn payload errors.Memory = Unit {0}
PartsDecide says denies s stage seqn payload (errors.NoCommonAlgo kind ours theirs) = ⊥
PartsDecide says denies s stage seqn payload errors.Version = ⊥
PartsDecide says denies s stage seqn payload errors.PacketAuth = ⊥
PartsDecide says denies s stage seqn payload errors.Inconsistent = ⊥
PartsDecide says denies s stage seqn payload errors.IndexOutOfBounds = ⊥
PartsDecide says denies s stage seqn payload errors.UnknownKey = ⊥
PartsDecide says denies s stage seqn payload (errors.PacketSize n) = ⊥
PartsDecide says denies s stage seqn payload errors.Disconnect = ⊥
PartsDecide says denies s stage seqn payload errors.DecryptionError = ⊥
PartsDecide says denies s stage seqn payload errors.IO = ⊥
PartsDecide says denies s stage seqn payload (errors.StrictKeyExchangeViolation type place) = ⊥
PartsDecide says denies s stage seqn payload (errors.SshEncoding fault) = ⊥
PartsDecide says denies s stage seqn payload (errors.InvalidConfig fault) = ⊥

-- what both sides' configurations are: each passes the tests, and they choose these names
pub record AreValid (setup : Setup) (names : Names) : Type 0 where
  pub valid : (side : Side) → config_fault side (config_of setup side) ≡ None
  pub sizes : (side : Side) → HasSizes (config_of setup side)
  pub chosen : chosen_by setup.client setup.server ≡ Ok names

-- The group that the exchanges of a link are in: where both configurations give a group exchange, this one, which the
-- server's lookup finds for the client's sizes.
abbrev pub group_due : Setup → DhGroup → Option DhGroup
group_due setup found = if kind_by (chosen_by setup.client setup.server) then Some found else None

-- Where the parts of both sides are lawful, what they decide is all that is refused of an honest peer's message, and
-- want of memory: nothing is too long, badly encoded, out of place or without a name in common.
abbrev pub PartsRefuseAlone : {A H G : Type 0} → AgreementMembers A → HostKeysMembers H → GroupLookupMembers G → Type 0
PartsRefuseAlone {A} {H} {G} ma mh mg =
    (setup : Setup) (a b : A) (h i : H) (g j : G) (names : Names) (w : World) (cl sl : List Event) (side : Side)
    (stage : Stage) (item : Item) (v v' : A) (x x' : H) (y y' : G) (error : Error)
    → ma.lawful a setup → ma.lawful b setup → mh.lawful h setup → mh.lawful i setup → mg.lawful j setup
    → AreValid setup names
    → AwaitsNext (talkers (says_by (says_of ma mh mg) setup a b h i g j) (config_of setup)) w cl sl side stage item
    → RefusesNextMessage (says_by (says_of ma mh mg) setup a b h i g j side) (denies_of ma mh mg v v' x x' y y') (config_of setup side) side
    (one_of side w.client w.server) stage item error
    → PartsDecide (says_by (says_of ma mh mg) setup a b h i g j side) (denies_of ma mh mg v v' x x' y y')
    (setting side (config_of setup side) (id_text (config_of setup side).id) (one_of side w.client w.server).state)
    stage (next_number (one_of side w.client w.server).state.reading.number) item.payload error

-- Where the parts of both sides are obliging, from the start to the answer, agreements in the group that is due, which
-- of host keys means that a client's judge and a server's sign, and the reader's agreement offers the chosen name,
-- nothing of an honest peer's message is refused but for want of memory. The parts that are asked are those at the start, after some calls.
abbrev pub NothingRefused : {A H G : Type 0} → AgreementMembers A → HostKeysMembers H → GroupLookupMembers G → Type 0
NothingRefused {A} {H} {G} ma mh mg =
    (setup : Setup) (a a' b b' : A) (h h' i i' : H) (g g' j j' : G) (names : Names) (w : World) (cl sl : List Event)
    (side : Side) (stage : Stage) (item : Item) (v : A) (x : H) (y : G) (error : Error)
    → ma.obliging a a' setup (group_due setup (mg.group j setup.client.gex))
    → ma.obliging b b' setup (group_due setup (mg.group j setup.client.gex)) → mh.judges h h' setup → mh.signs i i' setup
    → mg.obliging j j' setup
    → AreValid setup names → ma.offered (one_of side a b) names.kex ≡ true
    → AgreementKept ma (one_of side a b) v → HostsKept mh (one_of side h i) x → GroupsKept mg (one_of side g j) y
    → AwaitsNext (talkers (says_by (says_of ma mh mg) setup a b h i g j) (config_of setup)) w cl sl side stage item
    → RefusesNextMessage (says_by (says_of ma mh mg) setup a b h i g j side)
    (denies_of ma mh mg v (one_of side a' b') x (one_of side h' i') y (one_of side g' j')) (config_of setup side) side
    (one_of side w.client w.server) stage item error
    → error ≡ errors.Memory

-- Where the agreements of both and the server's lookup are lawful, the host that a client has accepted, when the last
-- message comes, is one that the server presents; so obliging host keys trust it.
abbrev pub HostTrusted : {A H G : Type 0} → AgreementMembers A → HostKeysMembers H → GroupLookupMembers G → Type 0
HostTrusted {A} {H} {G} ma mh mg =
    (setup : Setup) (a b : A) (h i : H) (g j : G) (names : Names) (w : World) (cl sl : List Event) (item : Item)
    (exchange : Exchange) (made : FinishedExchange) (host : ServerHost)
    → ma.lawful a setup → ma.lawful b setup → mg.lawful j setup → AreValid setup names
    → AwaitsNext (talkers (says_by (says_of ma mh mg) setup a b h i g j) (config_of setup)) w cl sl Client
    (AwaitsNewkeys exchange made (Some host)) item
    → ((key : HostKey) × Presents setup.server host key host.algorithm)
    × ((later : H) → mh.judges h later setup → mh.trusts h host ≡ true)
