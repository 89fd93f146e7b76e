-- What the calls on a link do that are refused: which call of which transport was refused, and what came before it.
use Rattle.std.specs.Prelude.{◌≡◌, ◌⊎◌, ◌<◌, ◌≤◌, ◌-◌, ◌*◌, ◌^◌, ℕ, ◌++◌, List, ◌∷◌, length, min, take, drop, Some, None, true, false}
use Rattle.ssh_packet.specs.Stream.{message_type}
use Rattle.ssh_wire.specs.declared.error.Error.{Error}
use Rattle.ssh_wire.specs.declared.error.Error.TheVariants as errors
use Rattle.ssh_wire.specs.declared.side.Side.TheVariants.{Client, Server}
use Rattle.ssh_wire.specs.declared.error.ConfigFault.{ConfigFault}
use Rattle.ssh_kex.specs.Refusals.{Denies}
use Rattle.ssh_kex.specs.Setting.{Says}
use Rattle.ssh_kex.specs.Stepping.{denies_of, says_of}
use Rattle.ssh_kex.specs.declared.config.Config.{Config}
use Rattle.ssh_kex.specs.declared.exchange.ServerHost.{ServerHost}
use Rattle.ssh_rules.specs.Headline.{bound_of}
use Rattle.ssh_rules.specs.MessageTypes.{is_payload_type}
use Rattle.ssh_rules.specs.Refusing.{RefusesPiece, untrusted_of}
use Rattle.ssh_rules.specs.Standing.{Standing, is_outside, unfinished}
use Rattle.ssh_rules.specs.Valid.{config_fault, first_config_fault, is_bad_size}
use Rattle.ssh_rules.specs.declared.link.Step.{Step}
use Rattle.ssh_rules.specs.declared.link.Step.TheVariants.{Deliver, Rekey, Settle, Submit}
use Rattle.ssh_run.specs.Carrying.{CarriedEnd, CarriedLink, CarriesTo, HasWaiting, IsNewLink, RepeatsTurns, StepsLinks, all_bytes, begun_by, carried_count, last_link}
use Rattle.ssh_kex.specs.Members.{AgreementMembers, GroupLookupMembers, HostKeysMembers}

-- what a side's parts said before a call, and what a refusal in it means
pub record Telling : Type 1 where
  pub says : Says
  pub denies : Denies
  pub untrusted : ServerHost → Type 0

-- from the members of their traits
abbrev pub telling_of : {A H G : Type 0} (ma : AgreementMembers A) (mh : HostKeysMembers H) (mg : GroupLookupMembers G)
    → Config → A → A → H → H → G → G → Telling
telling_of ma mh mg config a a' h h' g g' = record {
  says = says_of ma mh mg config a h g;
  denies = denies_of ma mh mg a a' h h' g g';
  untrusted = untrusted_of mh h h';
}

-- A payload is refused for its size, for its type, or for want of memory.
abbrev pub RefusesSubmit : List ℕ → Error → Type 0
RefusesSubmit payload (errors.PacketSize n) = (n ≡ length payload) × (is_bad_size (length payload) ≡ true)
RefusesSubmit payload errors.Inconsistent = (is_bad_size (length payload) ≡ false)
    × (is_payload_type (message_type payload) ≡ false)
RefusesSubmit payload errors.Memory = Unit {0}
RefusesSubmit payload errors.KexInit = ⊥
RefusesSubmit payload errors.UnknownAlgo = ⊥
RefusesSubmit payload (errors.NoCommonAlgo kind ours theirs) = ⊥
RefusesSubmit payload errors.Version = ⊥
RefusesSubmit payload errors.Kex = ⊥
RefusesSubmit payload errors.PacketAuth = ⊥
RefusesSubmit payload errors.IndexOutOfBounds = ⊥
RefusesSubmit payload errors.UnknownKey = ⊥
RefusesSubmit payload errors.WrongServerSig = ⊥
RefusesSubmit payload errors.Disconnect = ⊥
RefusesSubmit payload errors.DecryptionError = ⊥
RefusesSubmit payload errors.IO = ⊥
RefusesSubmit payload (errors.StrictKeyExchangeViolation type place) = ⊥
RefusesSubmit payload errors.Signature = ⊥
RefusesSubmit payload (errors.SshEncoding fault) = ⊥
RefusesSubmit payload (errors.InvalidConfig fault) = ⊥

-- bytes of the other's output were carried, and refused
pub record RefusesBytes (t : Telling) (old : CarriedEnd) (wire : List ℕ) (n : ℕ) (error : Error) : Type 0 where
  pub left : Standing
  pub call : RefusesPiece t.says t.denies t.untrusted old.transport
      (take (carried_count old wire n) (drop old.taken wire)) error left

-- or memory was wanting
abbrev pub RefusesCarrying : Telling → CarriedEnd → List ℕ → ℕ → Error → Type 0
RefusesCarrying t old wire n error = (error ≡ errors.Memory) ⊎ RefusesBytes t old wire n error

-- the client refuses what it is to take behind the server
pub record ClientRefuses (client server : Telling) (old : CarriedLink) (error : Error) : Type 0 where
  pub mid : CarriedEnd
  pub taken : CarriesTo server.says old.server old.client.transport.output all_bytes mid
  pub refused : RefusesCarrying client old.client mid.transport.output all_bytes error

-- of a turn of both: the server refuses, or the client
abbrev pub RefusesTurn : (client server : Telling) → CarriedLink → Error → Type 0
RefusesTurn client server old error =
    RefusesCarrying server old.server old.client.transport.output all_bytes error ⊎ ClientRefuses client server old error

-- how many turns a settle has, where so many exchanges may be begun
abbrev pub settle_turns : ℕ → ℕ
settle_turns bound = min (32 * bound) (2 ^ 128 - 1)

-- a side has begun more exchanges than may be begun
abbrev pub BeginTooMany : ℕ → CarriedLink → Type 0
BeginTooMany bound l = (bound < begun_by l.client) ⊎ (bound < begun_by l.server)

-- a side is inside an exchange or holds unfinished input
abbrev pub IsRestless : CarriedEnd → Type 0
IsRestless e = (is_outside e.transport.state.stands ≡ false) ⊎ (0 < length (unfinished e.transport))

-- no byte waits, but a side does not rest
pub record StaysRestless (l : CarriedLink) : Type 0 where
  pub to_client : length l.server.transport.output ≤ l.client.taken
  pub to_server : length l.client.transport.output ≤ l.server.taken
  pub restless : IsRestless l.client ⊎ IsRestless l.server

-- Why a settle comes to no end behind so many turns: all that it has are taken and bytes wait, a side has begun too
-- many exchanges, or no byte waits and a side does not rest.
abbrev pub HasNoEnd : (bound times : ℕ) → CarriedLink → Type 0
HasNoEnd bound times l =
    ((times ≡ settle_turns bound) × HasWaiting l) ⊎ (BeginTooMany bound l ⊎ StaysRestless l)

-- of a settle, behind some turns: a turn is refused, or it comes to no end
pub record RefusesSettle (client server : Telling) (bound : ℕ) (old : CarriedLink) (error : Error) : Type 0 where
  pub times : ℕ
  pub mid : CarriedLink
  pub turns : RepeatsTurns client.says server.says times old mid
  pub refused : RefusesTurn client server mid error ⊎ ((error ≡ errors.Disconnect) × HasNoEnd bound times mid)

-- what refuses each step, where so many exchanges may be begun
abbrev pub RefusesLinkStep : (client server : Telling) → ℕ → Step → CarriedLink → Error → Type 0
RefusesLinkStep client server bound (Submit side p) old error = RefusesSubmit p error
RefusesLinkStep client server bound (Deliver Client n) old error =
    RefusesCarrying client old.client old.server.transport.output n error
RefusesLinkStep client server bound (Deliver Server n) old error =
    RefusesCarrying server old.server old.client.transport.output n error
RefusesLinkStep client server bound (Rekey side) old error = error ≡ errors.Memory
RefusesLinkStep client server bound Settle old error = RefusesSettle client server bound old error

-- The steps lead up to one that is refused.
pub record RefusesAt (client server : Telling) (steps : List Step) (old : CarriedLink) (error : Error) : Type 0 where
  pub done : List Step
  pub step : Step
  pub more : List Step
  pub steps_are : steps ≡ done ++ step ∷ more
  pub links : List CarriedLink
  pub each : StepsLinks client.says server.says done old links
  pub refused : RefusesLinkStep client server (bound_of done) step (last_link old links) error

-- or memory was wanting for the marks
abbrev pub RefusesRun : (client server : Telling) → List Step → CarriedLink → Error → Type 0
RefusesRun client server steps old error = (error ≡ errors.Memory) ⊎ RefusesAt client server steps old error

-- a configuration is refused, the client's first
pub record IsConfigFault (client server : Config) (error : Error) : Type 0 where
  pub fault : ConfigFault
  pub first : first_config_fault (config_fault Client client) (config_fault Server server) ≡ Some fault
  pub error_is : error ≡ errors.InvalidConfig fault

-- or both are good, and the run of a new link is refused
pub record RefusesNewLink (client_tells server_tells : Telling) (client server : Config) (steps : List Step)
    (error : Error) : Type 0 where
  pub of_client : config_fault Client client ≡ None
  pub of_server : config_fault Server server ≡ None
  pub few : length steps < 2 ^ 64
  pub first : CarriedLink
  pub new : IsNewLink client server first
  pub refused : RefusesRun client_tells server_tells steps first error

-- Why a run is refused.
abbrev pub RefusesLink : (client_tells server_tells : Telling) → (client server : Config) → List Step → Error → Type 0
RefusesLink client_tells server_tells client server steps error = (error ≡ errors.Memory)
    ⊎ (IsConfigFault client server error ⊎ RefusesNewLink client_tells server_tells client server steps error)
