-- How much a side can still write.
use Rattle.std.specs.Prelude.{ℕ, ◌+◌, ◌-◌, ◌*◌, ◌≤◌, if◌then◌else◌, List, [], ◌∷◌, length, Option, Some, None}
use Rattle.ssh_wire.specs.declared.side.Side.{Side}
use Rattle.ssh_wire.specs.declared.side.Side.TheVariants.{Client, Server}
use Rattle.ssh_negotiate.specs.declared.negotiation.Names.{Names}
use Rattle.ssh_kex.specs.Messages.{is_gex}
use Rattle.ssh_kex.specs.declared.exchange.FinishedExchange.{FinishedExchange}
use Rattle.ssh_kex.specs.Stages.{Created, AwaitsGroup, AwaitsReply, AwaitsRequest, AwaitsValue, AwaitsNewkeys}
use Rattle.ssh_rules.specs.Calls.{agreement_left, hosts_left, lookups_left}
use Rattle.ssh_rules.specs.Machine.{Where, Silent, Outside, Inside, SideState, names_now}

-- the exchange that is open
abbrev pub open_count : Where → ℕ
open_count Silent = 0
open_count Outside = 0
open_count (Inside stage) = 1

-- how many exchanges a side has begun
abbrev pub begun : SideState → ℕ
begun st = length st.records + open_count st.stands

-- how many messages of the open exchange a side will still owe, at most
abbrev pub to_come : Where → ℕ
to_come Silent = 0
to_come Outside = 0
to_come (Inside (Created own)) = 3
to_come (Inside (AwaitsGroup o)) = 2
to_come (Inside (AwaitsReply o group local public)) = 1
to_come (Inside (AwaitsRequest o)) = 3
to_come (Inside (AwaitsValue o group)) = 2
to_come (Inside (AwaitsNewkeys exchange made host)) = 0

-- At least how many packets a side can still write, where it begins no more than `bound` exchanges: five for each that
-- isn't begun, the messages of the open one, and the payloads that are held.
abbrev pub left : ℕ → SideState → ℕ
left bound st = 5 * (bound - begun st) + (to_come st.stands + length st.owed) + length st.held

-- ---- calls of the handed-in parts

-- how many calls of an exchange's parts are still to come, at most: where it isn't begun they aren't counted
abbrev pub agreement_to_come : Side → Where → ℕ
agreement_to_come side Silent = 0
agreement_to_come side Outside = 0
agreement_to_come side (Inside stage) = agreement_left side stage

-- of a client's host keys `verify` and `check`, of a server's `sign`
abbrev pub hosts_to_come : Side → Where → ℕ
hosts_to_come side Silent = 0
hosts_to_come side Outside = 0
hosts_to_come side (Inside stage) = hosts_left side stage

-- of a server's lookup, where it is a group exchange
abbrev pub lookups_to_come : Side → Where → ℕ
lookups_to_come side Silent = 0
lookups_to_come side Outside = 0
lookups_to_come side (Inside stage) = lookups_left side stage

-- how many calls an exchange has, at most
abbrev pub calls_of : Side → ℕ
calls_of Client = 2
calls_of Server = 1

-- and how many of its lookup
abbrev pub lookups_of : Side → ℕ
lookups_of Client = 0
lookups_of Server = 1

-- a count of calls over events that lead from one state to another, whatever was answered: it rose by no more than what
-- was to come and what the exchanges that were begun have
abbrev pub CallsFrom : (Where → ℕ) → ℕ → SideState → SideState → ℕ → ℕ → Type 0
CallsFrom to_come each st st' calls calls' =
    (calls ≤ calls') × (calls' + to_come st'.stands ≤ calls + to_come st.stands + each * (begun st' - begun st))

-- ---- group exchanges

-- one where a group exchange was chosen
abbrev pub group_in : Option Names → ℕ
group_in None = 0
group_in (Some n) = if is_gex n.kex then 1 else 0

abbrev pub groups_in : List FinishedExchange → ℕ
groups_in [] = 0
groups_in (x ∷ records) = group_in (Some x.names) + groups_in records

-- for how many exchanges a group exchange was chosen, the open one among them
abbrev pub groups_chosen : SideState → ℕ
groups_chosen st = groups_in st.records + group_in (names_now st.stands)

-- one where the request for a group is still to come
abbrev pub request_due : Where → ℕ
request_due Silent = 0
request_due Outside = 0
request_due (Inside (Created own)) = 0
request_due (Inside (AwaitsGroup o)) = 0
request_due (Inside (AwaitsReply o group local public)) = 0
request_due (Inside (AwaitsRequest o)) = 1
request_due (Inside (AwaitsValue o group)) = 0
request_due (Inside (AwaitsNewkeys exchange made host)) = 0

-- a count of calls of the lookup: it rose only where a group exchange was chosen
abbrev pub LookupsFrom : SideState → SideState → ℕ → ℕ → Type 0
LookupsFrom st st' calls calls' =
    calls' + request_due st'.stands + groups_chosen st ≤ calls + request_due st.stands + groups_chosen st'
