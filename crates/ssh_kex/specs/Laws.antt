-- The laws of an exchange.
use Rattle.std.specs.Prelude.{◌≡◌, ℕ, ◌<◌, ◌^◌, List, length, Some, Ok}
use Rattle.ssh_packet.specs.Sealing.{longest_payload}
use Rattle.ssh_packet.specs.Writing.{Writer}
use Rattle.ssh_packet.specs.declared.reader.Incoming.{Incoming}
use Rattle.ssh_wire.specs.Outside.{Rose}
use Rattle.ssh_wire.specs.declared.error.Error.{Error}
use Rattle.ssh_wire.specs.declared.error.Error.TheVariants as errors
use Rattle.ssh_mac.specs.declared.digest.DigestKind.{DigestKind}
use Rattle.ssh_negotiate.specs.declared.negotiation.Names.{Names}
use Rattle.ssh_packet.specs.Keys.{opening_of, sealing_of}
use Rattle.ssh_packet.specs.declared.keys.CipherPair.{CipherPair}
use Rattle.ssh_wire.specs.Forms.{AreBytes}
use Rattle.ssh_wire.specs.Sides.{other_side}
use Rattle.ssh_wire.specs.declared.side.Side.{Side}
use Rattle.ssh_wire.specs.declared.side.Side.TheVariants.{Client, Server}
use Rattle.ssh_kex.specs.Exchange.{HaveLengths, keys_of, sealing_after}
use Rattle.ssh_kex.specs.Messages.{Presented, presented}
use Rattle.ssh_kex.specs.Parts.{IsSmall, Setup}
use Rattle.ssh_kex.specs.Refusals.{Denies, IsTooLong, PartDenies, SignatureDenied, SigningDenied}
use Rattle.ssh_kex.specs.Fields.{fields, sizes_in}
use Rattle.ssh_kex.specs.Members.{AgreementMembers, GroupLookupMembers, HostKeysMembers}
use Rattle.ssh_kex.specs.Setting.{Says, Setting}
use Rattle.ssh_kex.specs.Signature.{canonical_form}
use Rattle.ssh_kex.specs.Stages.{Machine, Stage, Created, AwaitsGroup, AwaitsReply, AwaitsRequest, AwaitsValue, AwaitsNewkeys}
use Rattle.ssh_kex.specs.Stepping.{Progresses, RefusesStep, denies_of, says_of}
use Rattle.ssh_kex.specs.declared.config.Config.{Config}
use Rattle.ssh_kex.specs.declared.exchange.Keys.{Keys}
use Rattle.ssh_kex.specs.declared.group.DhGroup.{DhGroup}
use Rattle.ssh_kex.specs.declared.group.GexParams.{GexParams}
use Rattle.ssh_kex.specs.declared.progress.KexProgress.{KexProgress}

-- what a side seals under and opens with are of the exchange's keys, each of its own direction
pub record AreCiphersOf (side : Side) (n : Names) (k : Keys) (cipher : CipherPair) : Type 0 where
  pub seals : sealing_of cipher.local_to_remote ≡ sealing_after side n k
  pub opens : opening_of cipher.remote_to_local ≡ sealing_after (other_side side) n k

-- each side opens with what the other seals under
pub record Meet (client server : CipherPair) : Type 0 where
  pub to_server : opening_of server.remote_to_local ≡ sealing_of client.local_to_remote
  pub to_client : opening_of client.remote_to_local ≡ sealing_of server.local_to_remote

-- a client and a server with the same names and keys meet
abbrev pub CiphersMeet : Type 0
CiphersMeet = (n : Names) (k : Keys) (client server : CipherPair) → AreCiphersOf Client n k client
    → AreCiphersOf Server n k server
    → Meet client server

-- the digits of all six keys are bytes
pub record AreKeysOfBytes (k : Keys) : Type 0 where
  pub iv_c2s : AreBytes k.iv_c2s
  pub iv_s2c : AreBytes k.iv_s2c
  pub key_c2s : AreBytes k.key_c2s
  pub key_s2c : AreBytes k.key_s2c
  pub mac_c2s : AreBytes k.mac_c2s
  pub mac_s2c : AreBytes k.mac_s2c

-- keys are bytes, as many as the negotiated algorithms want: so a nonce of 12 bytes is a number below 2^96
abbrev pub KeysAreWell : Type 0
KeysAreWell = (digest : DigestKind) (secret hash session : List ℕ) (n : Names)
    → AreKeysOfBytes (keys_of digest secret hash session n) × HaveLengths n (keys_of digest secret hash session n)

-- a canonical signature is its own canonical form (RFC 5656 section 3.1.2)
abbrev pub CanonicalOnce : Type 0
CanonicalOnce = (blob form : List ℕ) → canonical_form blob ≡ Some form → length form < 2 ^ 32
    → canonical_form form ≡ Some form

-- ---- a message is taken or refused, and not both

-- What else could be answered to a message that a row takes: want of memory, and what the handed-in parts decide, whose
-- answers neither packet nor stage tell.
abbrev pub PartsAnswer : Says → Denies → Setting → Stage → ℕ → List ℕ → Error → Type 0
PartsAnswer says denies s stage seqn payload errors.KexInit = ⊥
PartsAnswer says denies s stage seqn payload errors.UnknownAlgo = ⊥
PartsAnswer says denies s stage seqn payload (errors.NoCommonAlgo kind ours theirs) = ⊥
PartsAnswer says denies s stage seqn payload errors.Version = ⊥
PartsAnswer says denies s stage seqn payload errors.Kex = PartDenies says denies s stage seqn payload
PartsAnswer says denies s stage seqn payload errors.PacketAuth = ⊥
PartsAnswer says denies s stage seqn payload errors.Inconsistent = ⊥
PartsAnswer says denies s stage seqn payload errors.IndexOutOfBounds = ⊥
PartsAnswer says denies s stage seqn payload errors.UnknownKey = ⊥
PartsAnswer says denies s stage seqn payload errors.WrongServerSig = SignatureDenied says denies s stage payload
PartsAnswer says denies s stage seqn payload (errors.PacketSize n) = (longest_payload < n)
    × IsTooLong says s stage seqn payload n
PartsAnswer says denies s stage seqn payload errors.Disconnect = ⊥
PartsAnswer says denies s stage seqn payload errors.DecryptionError = ⊥
PartsAnswer says denies s stage seqn payload errors.IO = ⊥
PartsAnswer says denies s stage seqn payload (errors.StrictKeyExchangeViolation type place) = ⊥
PartsAnswer says denies s stage seqn payload errors.Signature = SigningDenied s denies stage payload
PartsAnswer says denies s stage seqn payload (errors.SshEncoding fault) = ⊥
PartsAnswer says denies s stage seqn payload (errors.InvalidConfig fault) = ⊥
PartsAnswer says denies s stage seqn payload errors.Memory = Unit {0}

-- A row that takes a message and one that refuses it exclude each other, by message and stage alone, for each cause but
-- those that the parts decide.
abbrev pub RowsExclude : {A H G : Type 0} → AgreementMembers A → HostKeysMembers H → GroupLookupMembers G → Type 0
RowsExclude {A} {H} {G} ma mh mg = (config : Config) (a a' : A) (h h' : H) (g g' : G) (m : Machine) (i : Incoming)
    (old new : Writer) (p : KexProgress Machine) (error : Error)
    → Progresses (says_of ma mh mg config a h g) m (Some i) old p new
    → RefusesStep (says_of ma mh mg config a h g) (denies_of ma mh mg a a' h h' g g') m (Some i) error
    → PartsAnswer (says_of ma mh mg config a h g) (denies_of ma mh mg a a' h h' g g') m.setting m.stage i.seqn i.payload.now error

-- between these states no part counted a refusal
pub record NoneCounted {A H G : Type 0} (ma : AgreementMembers A) (mh : HostKeysMembers H) (mg : GroupLookupMembers G)
    (a a' : A) (h h' : H) (g g' : G) : Type 0 where
  pub agreement : Rose (ma.refusals a) (ma.refusals a') → ⊥
  pub sign : Rose (mh.refused_sign h) (mh.refused_sign h') → ⊥
  pub verify : Rose (mh.refused_verify h) (mh.refused_verify h') → ⊥
  pub lookup : Rose (mg.refusals g) (mg.refusals g') → ⊥

-- what a server's answer carries of its lookup and its configuration is small: a group, or the host's blob
abbrev pub CarriesSmall : Says → Setting → Stage → List ℕ → Type 0
CarriesSmall says s (Created own) payload = Unit {0}
CarriesSmall says s (AwaitsGroup o) payload = Unit {0}
CarriesSmall says s (AwaitsReply o gex local public) payload = Unit {0}
CarriesSmall says s (AwaitsRequest o) payload = (sizes : GexParams) (group : DhGroup)
    → sizes_in (fields payload) ≡ Ok sizes → says.finds sizes group → IsSmall group.prime × IsSmall group.generator
CarriesSmall says s (AwaitsValue o gex) payload = (shown : Presented)
    → presented s.config.host o.names.host_key_is_certificate o.names.key ≡ Some shown → IsSmall shown.blob
CarriesSmall says s (AwaitsNewkeys exchange made host) payload = Unit {0}

-- Where agreement and host keys are lawful, no part counted a refusal, and what the answer carries is small, a message
-- that a row takes could be refused for want of memory alone.
abbrev pub MemoryAlone : {A H G : Type 0} → AgreementMembers A → HostKeysMembers H → GroupLookupMembers G → Type 0
MemoryAlone {A} {H} {G} ma mh mg =
    (setup : Setup) (config : Config) (a a' : A) (h h' : H) (g g' : G) (m : Machine) (i : Incoming)
    (old new : Writer) (p : KexProgress Machine) (error : Error)
    → ma.lawful a setup → mh.lawful h setup → NoneCounted ma mh mg a a' h h' g g'
    → CarriesSmall (says_of ma mh mg config a h g) m.setting m.stage i.payload.now
    → Progresses (says_of ma mh mg config a h g) m (Some i) old p new
    → RefusesStep (says_of ma mh mg config a h g) (denies_of ma mh mg a a' h h' g g') m (Some i) error
    → error ≡ errors.Memory
