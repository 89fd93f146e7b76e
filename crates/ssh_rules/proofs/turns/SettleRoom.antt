-- How many turns a settle has at most.
use Rattle.std.proofs.Common.{◌≡◌, ℕ, ◌+◌, ◌*◌, ◌≤◌, [], length, ap, arith}
use Rattle.ssh_kex.specs.Stages.{AwaitsGroup, AwaitsNewkeys, AwaitsReply, AwaitsRequest, AwaitsValue, Created}
use Rattle.ssh_rules.specs.Counting.{begun, left, open_count, to_come}
use Rattle.ssh_rules.specs.Machine.{Inside, Outside, SideState, Silent, Where}
use Rattle.ssh_rules.proofs.side.Left.{settle_measure}

-- only an open exchange has messages to come
few_to_come : (w : Where) → to_come w ≤ 3 * open_count w
few_to_come Silent = omega arith
few_to_come Outside = omega arith
few_to_come (Inside (Created own)) = omega arith
few_to_come (Inside (AwaitsGroup o)) = omega arith
few_to_come (Inside (AwaitsReply o gex local public)) = omega arith
few_to_come (Inside (AwaitsRequest o)) = omega arith
few_to_come (Inside (AwaitsValue o gex)) = omega arith
few_to_come (Inside (AwaitsNewkeys exchange made host)) = omega arith

-- what a side can still write that owes nothing
pub left_room : (bound : ℕ) (st : SideState) → begun st ≤ bound → st.owed ≡ [] → left bound st ≤ 5 * bound + length st.held
left_room bound st few owes = (let c = few_to_come st.stands in let o : length st.owed ≡ 0 = ap length owes in omega (arith, few, c, o))

-- A settle begins with a measure of at most 32 for each exchange that may be begun, where each payload that was
-- submitted lets two be begun: each turn lowers it by one at least, so it has no more turns.
pub settle_room : (bound submits : ℕ) (c s : SideState) → begun c ≤ bound → begun s ≤ bound → c.owed ≡ [] → s.owed ≡ [] → length c.held + length s.held ≤ submits → 1 + 2 * submits ≤ bound → settle_measure (left bound c) (left bound s) 1 1 ≤ 32 * bound
settle_room bound submits c s cf sf co so held room = (let a = left_room bound c cf co in let b = left_room bound s sf so in omega (arith, a, b, held, room))
