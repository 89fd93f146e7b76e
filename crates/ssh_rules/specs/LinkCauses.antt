-- The causes of what a link refuses, by what the handed-in parts of both sides are.
use Rattle.std.specs.Prelude.{◌≡◌, ◌⊎◌, ◌++◌, ℕ, Bool, true, false, List, Ok, Err, None}
use Rattle.ssh_wire.specs.Lines.{id_line}
use Rattle.ssh_wire.specs.Outside.{Rose}
use Rattle.ssh_wire.specs.Sides.{other_side}
use Rattle.ssh_wire.specs.declared.error.AlgorithmKind.{AlgorithmKind}
use Rattle.ssh_wire.specs.declared.error.Error.{Error}
use Rattle.ssh_wire.specs.declared.error.Error.TheVariants as errors
use Rattle.ssh_wire.specs.declared.side.Side.{Side}
use Rattle.ssh_wire.specs.declared.side.Side.TheVariants.{Client, Server}
use Rattle.ssh_negotiate.specs.Laws.{own_list, peer_list}
use Rattle.ssh_negotiate.specs.declared.kex.Name.{Name as KexName}
use Rattle.ssh_negotiate.specs.declared.negotiation.Names.{Names}
use Rattle.ssh_kex.specs.Parts.{Setup}
use Rattle.ssh_kex.specs.Refusals.{Denies}
use Rattle.ssh_kex.specs.Fields.{IsOutside}
use Rattle.ssh_kex.specs.Members.{AgreementKept, AgreementMembers, GroupLookupMembers, GroupsKept, HostKeysMembers, HostsKept}
use Rattle.ssh_kex.specs.Setting.{offers_of}
use Rattle.ssh_kex.specs.Stepping.{denies_of, says_of}
use Rattle.ssh_kex.specs.declared.config.Config.{Config}
use Rattle.ssh_kex.specs.declared.exchange.ServerHost.{ServerHost}
use Rattle.ssh_kex.specs.declared.group.DhGroup.{DhGroup}
use Rattle.ssh_rules.specs.Headline.{chosen_by, kind_by}
use Rattle.ssh_rules.specs.Machine.{Event}
use Rattle.ssh_rules.specs.Refused.{AreValid, group_due, one_of}
use Rattle.ssh_rules.specs.RefusedTurn.{RefusesInLink}
use Rattle.ssh_rules.specs.Refusing.{RefusesPiece, untrusted_of}
use Rattle.ssh_rules.specs.RunLaws.{config_of, says_by}
use Rattle.ssh_rules.specs.Snapshots.{HasRun, IsWholeId, StandsAs}
use Rattle.ssh_rules.specs.Standing.{Standing}
use Rattle.ssh_rules.specs.Turns.{Talkers, World, talkers}
use Rattle.ssh_rules.specs.Valid.{HasSizes, config_fault}
use Rattle.ssh_rules.specs.Wire.{HasFront}

-- which counts of refusals of a side's parts rose
pub record Rises : Type 1 where
  pub agreement : Type 0
  pub lookup : Type 0
  pub signing : Type 0
  pub verifying : Type 0
  pub checking : Type 0

-- between two states of them
abbrev pub rises_of : {A H G : Type 0} (ma : AgreementMembers A) (mh : HostKeysMembers H) (mg : GroupLookupMembers G)
    → A → A → H → H → G → G → Rises
rises_of ma mh mg a a' h h' g g' = record {
  agreement = Rose (ma.refusals a) (ma.refusals a');
  lookup = Rose (mg.refusals g) (mg.refusals g');
  signing = Rose (mh.refused_sign h) (mh.refused_sign h');
  verifying = Rose (mh.refused_verify h) (mh.refused_verify h');
  checking = Rose (mh.refused_check h) (mh.refused_check h');
}

-- And which rose of parts that don't oblige between these states, under both configurations: an agreement in the group
-- that is due, a lookup where both configurations give a group exchange. That a client's host keys refuse a signature may lie with the server's, which are `signer`. The server's
-- lookup is `finder`.
abbrev pub unobliged_of : {A H G : Type 0} (ma : AgreementMembers A) (mh : HostKeysMembers H) (mg : GroupLookupMembers G)
    → Setup → H → G → A → A → H → H → G → G → Rises
unobliged_of {A} {H} {G} ma mh mg setup signer finder a a' h h' g g' = record {
  agreement = Rose (ma.refusals a) (ma.refusals a')
      × (ma.obliging a a' setup (group_due setup (mg.group finder setup.client.gex)) → ⊥);
  lookup = Rose (mg.refusals g) (mg.refusals g') × (kind_by (chosen_by setup.client setup.server) ≡ true)
      × (mg.obliging g g' setup → ⊥);
  signing = Rose (mh.refused_sign h) (mh.refused_sign h') × (mh.signs h h' setup → ⊥);
  verifying = Rose (mh.refused_verify h) (mh.refused_verify h')
      × ((later : H) → mh.judges h h' setup → mh.signs signer later setup → ⊥);
  checking = Rose (mh.refused_check h) (mh.refused_check h') × (mh.judges h h' setup → ⊥);
}

-- of a kind the lists of both configurations leave nothing to choose
pub record NoneInCommon (side : Side) (config : Side → Config) (kind : AlgorithmKind) (ours theirs : List (List ℕ))
    : Type 0 where
  pub none : chosen_by (config Client) (config Server) ≡ Err kind
  pub ours_are : ours ≡ own_list kind (offers_of side (config side))
  pub theirs_are : theirs ≡ peer_list kind (offers_of (other_side side) (config (other_side side)))

-- the chosen key exchange is none that the side's agreement offers
pub record IsNotOffered (config : Side → Config) (offered : KexName → Bool) : Type 0 where
  pub names : Names
  pub chosen : chosen_by (config Client) (config Server) ≡ Ok names
  pub none : offered names.kex ≡ false

-- Why a side refuses something in a link whose parts are lawful: by both configurations, by what the side's agreement
-- offers, by the group that the server's lookup finds for the client's sizes, and by a part that doesn't oblige and
-- counted a refusal.
abbrev pub IsCauseOf : Rises → Side → (Side → Config) → (KexName → Bool) → DhGroup → Error → Type 0
IsCauseOf r side config offered group errors.KexInit =
    (kind_by (chosen_by (config Client) (config Server)) ≡ true) × IsOutside (config Client).gex group
IsCauseOf r side config offered group errors.UnknownAlgo = IsNotOffered config offered
IsCauseOf r side config offered group (errors.NoCommonAlgo kind ours theirs) = NoneInCommon side config kind ours.0.items theirs.0.items
IsCauseOf r side config offered group errors.Kex = r.agreement ⊎ ((side ≡ Server) × r.lookup)
IsCauseOf r side config offered group errors.UnknownKey = (side ≡ Client) × r.checking
IsCauseOf r side config offered group errors.WrongServerSig = (side ≡ Client) × r.verifying
IsCauseOf r side config offered group errors.Signature = (side ≡ Server) × r.signing
IsCauseOf r side config offered group errors.Memory = Unit {0}
IsCauseOf r side config offered group errors.Version = ⊥
IsCauseOf r side config offered group errors.PacketAuth = ⊥
IsCauseOf r side config offered group errors.Inconsistent = ⊥
IsCauseOf r side config offered group errors.IndexOutOfBounds = ⊥
IsCauseOf r side config offered group (errors.PacketSize n) = ⊥
IsCauseOf r side config offered group errors.Disconnect = ⊥
IsCauseOf r side config offered group errors.DecryptionError = ⊥
IsCauseOf r side config offered group errors.IO = ⊥
IsCauseOf r side config offered group (errors.StrictKeyExchangeViolation type place) = ⊥
IsCauseOf r side config offered group (errors.SshEncoding fault) = ⊥
IsCauseOf r side config offered group (errors.InvalidConfig fault) = ⊥

-- ---- whatever the parts are

-- What holds of a world that turns led to, whatever the parts are.
pub record IsPlayed (t : Talkers) (w : World) (cl sl : List Event) : Type 0 where
  pub client : HasRun (t.says Client) Client (t.config Client) (t.own_id Client) cl w.client.state w.client.sent
      w.client.fed w.client.unfinished
  pub server : HasRun (t.says Server) Server (t.config Server) (t.own_id Server) sl w.server.state w.server.sent
      w.server.fed w.server.unfinished
  pub to_server : HasFront w.client.sent w.server.fed
  pub to_client : HasFront w.server.sent w.client.fed

-- a piece of the other's wire is handed to a transport there, and is refused
pub record RefusesPlayed (t : Talkers) (denies : Denies) (untrusted : ServerHost → Type 0) (w : World)
    (cl sl : List Event) (side : Side) (took piece : List ℕ) (old : Standing) (error : Error)
    (new : Standing) : Type 0 where
  pub played : IsPlayed t w cl sl
  pub whole_id : IsWholeId (t.config (other_side side))
  pub stands : StandsAs t side took old (one_of side w.client w.server)
  pub honest : HasFront (id_line (t.config (other_side side)).id ++ (one_of (other_side side) w.client w.server).sent)
      (took ++ piece)
  pub refuses : RefusesPiece (t.says side) denies untrusted old piece error new

-- What is known of a refusal whatever the parts are: it is for no version line and for no violation of the strict
-- order, and host keys refuse only where their own count rose.
abbrev pub IsCauseOfAny : Rises → Side → Error → Type 0
IsCauseOfAny r side errors.Version = ⊥
IsCauseOfAny r side errors.IO = ⊥
IsCauseOfAny r side (errors.InvalidConfig fault) = ⊥
IsCauseOfAny r side (errors.StrictKeyExchangeViolation type place) = ⊥
IsCauseOfAny r side errors.UnknownKey = (side ≡ Client) × r.checking
IsCauseOfAny r side errors.WrongServerSig = (side ≡ Client) × r.verifying
IsCauseOfAny r side errors.Signature = (side ≡ Server) × r.signing
IsCauseOfAny r side errors.KexInit = Unit {0}
IsCauseOfAny r side errors.UnknownAlgo = Unit {0}
IsCauseOfAny r side (errors.NoCommonAlgo kind ours theirs) = Unit {0}
IsCauseOfAny r side errors.Kex = Unit {0}
IsCauseOfAny r side errors.PacketAuth = Unit {0}
IsCauseOfAny r side errors.Inconsistent = Unit {0}
IsCauseOfAny r side errors.IndexOutOfBounds = Unit {0}
IsCauseOfAny r side (errors.PacketSize n) = Unit {0}
IsCauseOfAny r side errors.Disconnect = Unit {0}
IsCauseOfAny r side errors.DecryptionError = Unit {0}
IsCauseOfAny r side (errors.SshEncoding fault) = Unit {0}
IsCauseOfAny r side errors.Memory = Unit {0}

-- so each refusal of a piece of an honest peer's wire
abbrev pub AnyRefusals : {A H G : Type 0} → AgreementMembers A → HostKeysMembers H → GroupLookupMembers G → Type 0
AnyRefusals {A} {H} {G} ma mh mg =
    (setup : Setup) (a b : A) (h i : H) (g j : G) (w : World) (cl sl : List Event) (side : Side) (took piece : List ℕ)
    (old new : Standing) (v v' : A) (x x' : H) (y y' : G) (error : Error)
    → ((s : Side) → config_fault s (config_of setup s) ≡ None) → ((s : Side) → HasSizes (config_of setup s))
    → RefusesPlayed (talkers (says_by (says_of ma mh mg) setup a b h i g j) (config_of setup)) (denies_of ma mh mg v v' x x' y y')
    (untrusted_of mh x x') w cl sl side took piece old error new
    → IsCauseOfAny (rises_of ma mh mg v v' x x' y y') side error

-- ---- lawful and obliging parts

-- Where the parts of both sides are lawful, each refusal of a piece of an honest peer's wire has its cause. The
-- agreement that is asked is the one at the start, after some calls.
abbrev pub RefusalsHaveCauses : {A H G : Type 0} → AgreementMembers A → HostKeysMembers H → GroupLookupMembers G → Type 0
RefusalsHaveCauses {A} {H} {G} ma mh mg =
    (setup : Setup) (a b : A) (h i : H) (g j : G) (w : World) (cl sl : List Event) (side : Side) (took piece : List ℕ)
    (old new : Standing) (v v' : A) (x x' : H) (y y' : G) (error : Error)
    → ma.lawful a setup → ma.lawful b setup → mh.lawful h setup → mh.lawful i setup → mg.lawful j setup
    → AgreementKept ma (one_of side a b) v
    → ((s : Side) → config_fault s (config_of setup s) ≡ None) → ((s : Side) → HasSizes (config_of setup s))
    → RefusesInLink (talkers (says_by (says_of ma mh mg) setup a b h i g j) (config_of setup)) (denies_of ma mh mg v v' x x' y y') (untrusted_of mh x x')
    w cl sl side took piece old error new
    → IsCauseOf (unobliged_of ma mh mg setup i j v v' x x' y y') side (config_of setup) (ma.offered (one_of side a b))
    (mg.group j setup.client.gex) error

-- Where they are obliging, from the start to the answer, the configurations valid, and the chosen key exchange offered
-- by the side's agreement, memory was wanting. The parts that are asked are those at the start, after some calls.
abbrev pub NoneRefusedInLink : {A H G : Type 0} → AgreementMembers A → HostKeysMembers H → GroupLookupMembers G → Type 0
NoneRefusedInLink {A} {H} {G} ma mh mg =
    (setup : Setup) (a a' b b' : A) (h h' i i' : H) (g g' j j' : G) (names : Names) (w : World) (cl sl : List Event)
    (side : Side) (took piece : List ℕ) (old new : Standing) (v : A) (x : H) (y : G) (error : Error)
    → ma.obliging a a' setup (group_due setup (mg.group j setup.client.gex))
    → ma.obliging b b' setup (group_due setup (mg.group j setup.client.gex)) → mh.judges h h' setup → mh.signs i i' setup
    → mg.obliging j j' setup
    → AreValid setup names → ma.offered (one_of side a b) names.kex ≡ true
    → AgreementKept ma (one_of side a b) v → HostsKept mh (one_of side h i) x → GroupsKept mg (one_of side g j) y
    → RefusesInLink (talkers (says_by (says_of ma mh mg) setup a b h i g j) (config_of setup))
    (denies_of ma mh mg v (one_of side a' b') x (one_of side h' i') y (one_of side g' j')) (untrusted_of mh x (one_of side h' i'))
    w cl sl side took piece old error new
    → error ≡ errors.Memory
