-- What is true of each run of a side, whatever it was fed, and of each link over an honest carrier.
use Rattle.std.specs.Prelude.{◌≡◌, true, false, is_some, ◌-◌, ℕ, ◌+◌, ◌≤◌, Bool, List, ◌++◌, length, take, slice_get, Option, Some, None, [], ◌∷◌}
use Rattle.ssh_wire.specs.Lines.{id_line, id_text}
use Rattle.ssh_wire.specs.declared.side.Side.{Side}
use Rattle.ssh_wire.specs.declared.side.Side.TheVariants.{Client, Server}
use Rattle.ssh_packet.specs.Sealing.{Item, next_number}
use Rattle.ssh_kex.specs.Stages.{Created, Stage}
use Rattle.ssh_negotiate.specs.declared.negotiation.Names.{Names}
use Rattle.ssh_kex.specs.Parts.{Setup}
use Rattle.ssh_kex.specs.Setting.{Says, offers_of}
use Rattle.ssh_kex.specs.declared.config.Config.{Config}
use Rattle.ssh_kex.specs.declared.exchange.FinishedExchange.{FinishedExchange}
use Rattle.ssh_rules.specs.AnyParts.{IsSigned}
use Rattle.ssh_rules.specs.Attacked.{IsKeyed, IsNamed, IsOrdered, IsPrompt, block_names, host_in, kind_in, still_strict}
use Rattle.ssh_rules.specs.Fresh.{packets_at}
use Rattle.ssh_rules.specs.Guess.{BeforeKexinit, without_guesses}
use Rattle.ssh_rules.specs.Handled.{AllRead, Handled}
use Rattle.ssh_rules.specs.Headline.{IsLink, NeverRepeats}
use Rattle.ssh_rules.specs.Log.{delivered_in, handled, read_bytes, recorded, sent_bytes, submitted_in, wrote}
use Rattle.ssh_rules.specs.Machine.{Event, IsQuiet, SideState, Steps, first_state, InOrder, Inside}
use Rattle.ssh_rules.specs.Snapshots.{DoesSteps, Snapshot, TurnsLeadOn, first_snapshot, kind_chosen, report_of}
use Rattle.ssh_rules.specs.Marks.{kexinits}
use Rattle.ssh_rules.specs.Standing.{WaitsInPart, is_outside}
use Rattle.ssh_rules.specs.Turns.{talkers}
use Rattle.ssh_rules.specs.Valid.{HasSizes, config_fault}
use Rattle.ssh_rules.specs.Wire.{IsWire, carried_payloads, epochs_ended, exchange_block, HasFront}
use Rattle.ssh_rules.specs.declared.link.Step.{Step}
use Rattle.ssh_wire.specs.Sides.{other_side}
use Rattle.ssh_negotiate.specs.Laws.{IsWithin}
use Rattle.ssh_kex.specs.Members.{AgreementMembers, GroupLookupMembers, HostKeysMembers}
use Rattle.ssh_kex.specs.Stepping.{says_of}

-- the packets that a side handled, without dropped guesses
abbrev pub read_without_guesses : Side → Config → List Event → List Item
read_without_guesses side config log = without_guesses side config BeforeKexinit (handled log)

-- the names of exchange k, by the KEXINIT that the side read in it
abbrev pub names_in : Side → Config → List Event → ℕ → Option Names
names_in side config log k =
    block_names side config (still_strict (take k (recorded log))) (exchange_block k (read_without_guesses side config log))

-- What a side's run says: its wire, the exchanges that it recorded, the order in which it read the first, what it
-- delivered, and that no epoch is long and none uses a number, a nonce or a counter block twice.
pub record RunSays (side : Side) (config : Config) (log : List Event) : Type 0 where
  pub wire : IsWire side config (λ k. kind_in (names_in side config log k))
      (λ k. host_in side config (names_in side config log k)) (submitted_in log) (recorded log)
      (id_line config.id ++ sent_bytes side first_state.writing log) (wrote log)
  pub recorded_all : length (recorded log) ≡ epochs_ended (read_without_guesses side config log)
  pub named : (k : ℕ) (x : FinishedExchange) → slice_get (recorded log) k ≡ Some x
      → IsNamed side config (take k (recorded log)) (exchange_block k (read_without_guesses side config log)) x
  pub ordered : IsOrdered side config (recorded log) (handled log)
  pub delivered : delivered_in log ≡ carried_payloads (handled log)
  pub few : (k : ℕ) → packets_at k (wrote log) ≤ config.limits.rekey_write_limit + 4
  pub fresh : NeverRepeats side (recorded log) (wrote log)

-- each run of a side says so, whatever the side is fed and whatever its parts are
abbrev pub EachRun : {A H G : Type 0} → AgreementMembers A → HostKeysMembers H → GroupLookupMembers G → Type 0
EachRun {A} {H} {G} ma mh mg =
    (side : Side) (config : Config) (a : A) (h : H) (g : G) (own_id : List ℕ) (log : List Event) (st : SideState)
    → config_fault side config ≡ None → HasSizes config
    → Steps (says_of ma mh mg config a h g) side config own_id first_state log st → RunSays side config log

-- What a run says that leaves nothing to do and nothing whole to read, of all bytes behind the id line: it handled all
-- that can be opened, and it is prompt. `asked` is whether its last call was a rekey.
pub record RestSays (side : Side) (config : Config) (log : List Event) (st : SideState) (bytes : List ℕ)
    (asked : Bool) : Type 0 where
  pub reads : Handled side config (recorded log) bytes (handled log) AllRead
  pub prompt : IsPrompt side config
      (kind_in (block_names side config (still_strict (recorded log))
      (exchange_block (kexinits (wrote log) - 1) (read_without_guesses side config log))))
      (submitted_in log) (wrote log) (read_without_guesses side config log) (is_some st.heard) asked

-- each run that is at rest says so, whatever the side is fed and whatever its parts are
abbrev pub RestedRun : {A H G : Type 0} → AgreementMembers A → HostKeysMembers H → GroupLookupMembers G → Type 0
RestedRun {A} {H} {G} ma mh mg =
    (side : Side) (config : Config) (a : A) (h : H) (g : G) (own_id : List ℕ) (log : List Event) (st : SideState)
    (bytes rest : List ℕ) (asked : Bool) → config_fault side config ≡ None
    → Steps (says_of ma mh mg config a h g) side config own_id first_state log st → IsQuiet config st
    → bytes ≡ read_bytes side first_state.reading log ++ rest → WaitsInPart st.reading rest
    → (asked ≡ true → is_outside st.stands ≡ false) → RestSays side config log st bytes asked

-- where its agreement is lawful, hash and keys are those of one secret that is agreed
abbrev pub KeyedRun : {A H G : Type 0} → AgreementMembers A → HostKeysMembers H → GroupLookupMembers G → Type 0
KeyedRun {A} {H} {G} ma mh mg =
    (side : Side) (config : Config) (a : A) (h : H) (g : G) (setup : Setup) (heard : List ℕ) (log : List Event)
    (st : SideState) → ma.lawful a setup → st.heard ≡ Some heard
    → Steps (says_of ma mh mg config a h g) side config (id_text config.id) first_state log st
    → (k : ℕ) (x : FinishedExchange) → slice_get (recorded log) k ≡ Some x
    → IsKeyed ma.agrees side config heard (exchange_block k (wrote log)) (exchange_block k (read_without_guesses side config log)) x

-- what a client recorded was signed by a host that it trusts, whatever the parts are
abbrev pub SignedRun : {A H G : Type 0} → AgreementMembers A → HostKeysMembers H → GroupLookupMembers G → Type 0
SignedRun {A} {H} {G} ma mh mg =
    (config : Config) (a : A) (h : H) (g : G) (own_id : List ℕ) (log : List Event) (st : SideState)
    → Steps (says_of ma mh mg config a h g) Client config own_id first_state log st
    → (k : ℕ) (x : FinishedExchange) → slice_get (recorded log) k ≡ Some x
    → IsSigned (mh.accepts h) (mh.trusts h) (exchange_block k (read_without_guesses Client config log)) x

-- ---- a link

abbrev pub config_of : Setup → Side → Config
config_of setup Client = setup.client
config_of setup Server = setup.server

-- what the parts of both sides say
abbrev pub says_by : {A H G : Type 0} → (Config → A → H → G → Says) → Setup → (a b : A) (h i : H) (g j : G) → Side
    → Says
says_by says setup a b h i g j Client = says setup.client a h g
says_by says setup a b h i g j Server = says setup.server b i j

-- Where the agreements of both and the server's lookup are lawful: a loop that begins at the start, whose steps do what
-- such steps do, and whose turns lead on, has made a report of a link.
abbrev pub HonestLink : {A H G : Type 0} → AgreementMembers A → HostKeysMembers H → GroupLookupMembers G → Type 0
HonestLink {A} {H} {G} ma mh mg =
    (setup : Setup) (a b : A) (h i : H) (g j : G) (steps : List Step) (snapshots : List Snapshot)
    → ma.lawful a setup → ma.lawful b setup → mg.lawful j setup
    → ((side : Side) → config_fault side (config_of setup side) ≡ None)
    → ((side : Side) → HasSizes (config_of setup side))
    → DoesSteps (talkers (says_by (says_of ma mh mg) setup a b h i g j) (config_of setup)) (kind_chosen (config_of setup)) steps
    (first_snapshot (talkers (says_by (says_of ma mh mg) setup a b h i g j) (config_of setup))) snapshots
    → TurnsLeadOn (talkers (says_by (says_of ma mh mg) setup a b h i g j) (config_of setup)) steps
    (first_snapshot (talkers (says_by (says_of ma mh mg) setup a b h i g j) (config_of setup))) snapshots
    → IsLink ma.client_makes ma.server_makes ma.agrees setup.client setup.server steps
    (report_of (talkers (says_by (says_of ma mh mg) setup a b h i g j) (config_of setup))
    (first_snapshot (talkers (says_by (says_of ma mh mg) setup a b h i g j) (config_of setup))) snapshots)

-- A reader without a record and the other's run: what each handled stands at the front of what the other sent.
pub record IsEarlyLink (says : Side → Says) (config : Side → Config) (side : Side) (log plog : List Event) (st pst : SideState) : Type 0 where
  pub client_within : IsWithin (offers_of Client (config Client))
  pub server_within : IsWithin (offers_of Server (config Server))
  pub sizes : (s : Side) → HasSizes (config s)
  pub steps : Steps (says side) side (config side) (id_text (config side).id) first_state log st
  pub peer_steps : Steps (says (other_side side)) (other_side side) (config (other_side side)) (id_text (config (other_side side)).id) first_state plog pst
  pub to_side : HasFront (sent_bytes (other_side side) first_state.writing plog) (read_bytes side first_state.reading log)
  pub to_peer : HasFront (sent_bytes side first_state.writing log) (read_bytes (other_side side) first_state.reading plog)
  pub none : recorded log ≡ []

-- Over an honest carrier a reader without a record, which awaits a message and owes none, never meets a violation of
-- the strict order, whatever the parts of both sides are: what comes next is in order, and an awaited KEXINIT is the
-- first packet.
abbrev pub NoViolation : {A H G : Type 0} → AgreementMembers A → HostKeysMembers H → GroupLookupMembers G → Type 0
NoViolation {A} {H} {G} ma mh mg =
    (setup : Setup) (a b : A) (h i : H) (g j : G) (side : Side) (log theirs : List Event) (st peer : SideState)
    (stage : Stage) (item : Item) (more : List Item)
    → IsEarlyLink (says_by (says_of ma mh mg) setup a b h i g j) (config_of setup) side log theirs st peer → st.owed ≡ []
    → st.stands ≡ Inside stage → wrote theirs ≡ handled log ++ item ∷ more
    → InOrder side st item × ((own : List ℕ) → stage ≡ Created own → next_number st.reading.number ≡ 1)
