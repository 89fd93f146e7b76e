-- How often the parts of a side have answered, where nothing is refused.
use Rattle.std.specs.Prelude.{◌≡◌, ℕ, ◌+◌, ◌*◌, ◌++◌, Bool, true, List, length, Some}
use Rattle.ssh_wire.specs.Lines.{id_line, id_text}
use Rattle.ssh_wire.specs.declared.side.Side.{Side}
use Rattle.ssh_wire.specs.declared.side.Side.TheVariants.{Client, Server}
use Rattle.ssh_kex.specs.Members.{AgreementMembers, GroupLookupMembers, HostKeysMembers}
use Rattle.ssh_kex.specs.Stages.{Created, AwaitsGroup, AwaitsReply, AwaitsRequest, AwaitsValue, AwaitsNewkeys}
use Rattle.ssh_kex.specs.declared.config.Config.{Config}
use Rattle.ssh_kex.specs.declared.exchange.FinishedExchange.{FinishedExchange}
use Rattle.ssh_rules.specs.Counting.{calls_of, group_in, groups_in}
use Rattle.ssh_rules.specs.Log.{sent_bytes}
use Rattle.ssh_rules.specs.Machine.{Event, Where, Silent, Outside, Inside, IsQuiet, SideState, Steps, first_state}
use Rattle.ssh_rules.specs.Standing.{nothing_said}

-- what each part of a side says of itself, by a number that it is known by, where it has answered so many calls and
-- refused none
pub record PartTests : Type 0 where
  pub agreement : ℕ → ℕ → Bool
  pub hosts : ℕ → ℕ → Bool
  pub lookups : ℕ → ℕ → Bool

-- by the members of their traits
abbrev pub tests_by : {A H G : Type 0} → AgreementMembers A → HostKeysMembers H → GroupLookupMembers G → A → H → G → PartTests
tests_by ma mh mg a h g = record { agreement = ma.answered a; hosts = mh.answered h; lookups = mg.answered g }

-- ---- in the open exchange

-- a client's agreement has answered for its own value and then for the secret, a server's for both at once
abbrev pub agreement_open : Side → Where → ℕ
agreement_open side Silent = 0
agreement_open side Outside = 0
agreement_open side (Inside (Created own)) = 0
agreement_open side (Inside (AwaitsGroup o)) = 0
agreement_open side (Inside (AwaitsReply o gex local public)) = 1
agreement_open side (Inside (AwaitsRequest o)) = 0
agreement_open side (Inside (AwaitsValue o gex)) = 0
agreement_open side (Inside (AwaitsNewkeys exchange made host)) = calls_of side

-- a client's host keys have judged the reply, a server's have signed it
abbrev pub hosts_open : Where → ℕ
hosts_open Silent = 0
hosts_open Outside = 0
hosts_open (Inside (Created own)) = 0
hosts_open (Inside (AwaitsGroup o)) = 0
hosts_open (Inside (AwaitsReply o gex local public)) = 0
hosts_open (Inside (AwaitsRequest o)) = 0
hosts_open (Inside (AwaitsValue o gex)) = 0
hosts_open (Inside (AwaitsNewkeys exchange made host)) = 1

-- a server's lookup has found the group of a group exchange, a client's is never asked
abbrev pub lookups_open : Side → Where → ℕ
lookups_open Client stands = 0
lookups_open Server Silent = 0
lookups_open Server Outside = 0
lookups_open Server (Inside (Created own)) = 0
lookups_open Server (Inside (AwaitsGroup o)) = 0
lookups_open Server (Inside (AwaitsReply o gex local public)) = 0
lookups_open Server (Inside (AwaitsRequest o)) = 0
lookups_open Server (Inside (AwaitsValue o gex)) = group_in (Some o.names)
lookups_open Server (Inside (AwaitsNewkeys exchange made host)) = group_in (Some made.names)

-- ---- in all exchanges, the finished ones and the open one

-- a client's agreement answers twice in an exchange, a server's once
abbrev pub agreement_answered : Side → SideState → ℕ
agreement_answered side st = calls_of side * length st.records + agreement_open side st.stands

-- so do the host keys
abbrev pub hosts_answered : Side → SideState → ℕ
hosts_answered side st = calls_of side * length st.records + hosts_open st.stands

-- a server's lookup answers once in a group exchange
abbrev pub lookups_in : Side → List FinishedExchange → ℕ
lookups_in Client records = 0
lookups_in Server records = groups_in records

abbrev pub lookups_answered : Side → SideState → ℕ
lookups_answered side st = lookups_in side st.records + lookups_open side st.stands

-- Between two states each part answered all that it was asked: if it may have answered what the first state asked of it,
-- it may have answered what the second did.
pub record AnswersAll (side : Side) (st st' : SideState) (tests tests' : PartTests) : Type 0 where
  pub agreement : (known : ℕ) → tests.agreement known (agreement_answered side st) ≡ true
      → tests'.agreement known (agreement_answered side st') ≡ true
  pub hosts : (known : ℕ) → tests.hosts known (hosts_answered side st) ≡ true
      → tests'.hosts known (hosts_answered side st') ≡ true
  pub lookups : (known : ℕ) → tests.lookups known (lookups_answered side st) ≡ true
      → tests'.lookups known (lookups_answered side st') ≡ true

-- Some events lead a side from its start to where nothing is left to do, and they wrote this wire.
pub record ComesTo (side : Side) (config : Config) (wire : List ℕ) (ends : SideState) : Type 0 where
  pub events : List Event
  pub steps : Steps nothing_said side config (id_text config.id) first_state events ends
  pub sent : wire ≡ id_line config.id ++ sent_bytes side first_state.writing events
  pub quiet : IsQuiet config ends

-- From its start on a side wrote this wire and finished these exchanges, and each part answered all that it was asked.
-- What it wrote tells which messages of an open exchange it has answered.
pub record HasAnswered (side : Side) (config : Config) (wire : List ℕ) (exchanges : List FinishedExchange)
    (tests tests' : PartTests) : Type 0 where
  pub ends : SideState
  pub came : ComesTo side config wire ends
  pub records : ends.records ≡ exchanges
  pub answers : AnswersAll side first_state ends tests tests'
