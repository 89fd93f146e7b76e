-- What steps let a side take of the other's wire.
use Rattle.std.proofs.Common.{◌≡◌, ℕ, ◌+◌, ◌-◌, ◌<◌, ◌≤◌, true, false, List, [], ◌∷◌, ◌++◌, length, refl, ap, arith}
use Rattle.std.proofs.Math.Nat.{min-le_left}
use Rattle.ssh_wire.specs.Lines.{id_line}
use Rattle.ssh_wire.specs.Sides.{other_side}
use Rattle.ssh_wire.specs.declared.side.Side.{Side}
use Rattle.ssh_wire.specs.declared.side.Side.TheVariants.{Client, Server}
use Rattle.ssh_kex.specs.Setting.{Says}
use Rattle.ssh_kex.specs.declared.config.Config.{Config}
use Rattle.ssh_rules.specs.Refused.{one_of}
use Rattle.ssh_rules.specs.declared.link.Step.{Step}
use Rattle.ssh_rules.specs.declared.link.Step.TheVariants.{Deliver, Rekey, Settle, Submit}
use Rattle.ssh_run.specs.Carrying.{CarriedEnd, CarriedLink, IsNewLink, StepsLink, StepsLinks, carried_count, last_link}
use Rattle.ssh_run.specs.RunCauses.{BringMessages, carries_to, has_settle, most_brought}

-- how many bytes a side of a link took
abbrev pub taken_by : Side → CarriedLink → ℕ
taken_by side l = (one_of side l.client l.server).taken

same_taken : (old new : CarriedEnd) (n : ℕ) → new ≡ old → new.taken ≤ old.taken + n
same_taken old new n e = (let a = ap (λ (x : CarriedEnd). x.taken) e in omega (arith, a))

as_before : (old new : CarriedEnd) (n : ℕ) → new.taken ≡ old.taken → new.taken ≤ old.taken + n
as_before old new n a = omega (arith, a)

carried : (old new : CarriedEnd) (wire : List ℕ) (n : ℕ) → new.taken ≡ old.taken + carried_count old wire n → new.taken ≤ old.taken + (n + 0)
carried old new wire n a = (let m = min-le_left n (length wire - old.taken) in omega (arith, a, m))

step_taken : (c s : Says) (step : Step) (old new : CarriedLink) (side : Side) → StepsLink c s step old new → has_settle (step ∷ []) ≡ false → taken_by side new ≤ taken_by side old + most_brought side (step ∷ [])
step_taken c s (Submit Client p) old new Client h n = as_before old.client new.client 0 h.0.taken
step_taken c s (Submit Client p) old new Server h n = same_taken old.server new.server 0 h.1
step_taken c s (Submit Server p) old new Client h n = same_taken old.client new.client 0 h.1
step_taken c s (Submit Server p) old new Server h n = as_before old.server new.server 0 h.0.taken
step_taken c s (Deliver Client k) old new Client h n = carried old.client new.client old.server.transport.output k h.0.taken
step_taken c s (Deliver Client k) old new Server h n = same_taken old.server new.server 0 h.1
step_taken c s (Deliver Server k) old new Client h n = same_taken old.client new.client 0 h.1
step_taken c s (Deliver Server k) old new Server h n = carried old.server new.server old.client.transport.output k h.0.taken
step_taken c s (Rekey Client) old new Client h n = as_before old.client new.client 0 h.0.taken
step_taken c s (Rekey Client) old new Server h n = same_taken old.server new.server 0 h.1
step_taken c s (Rekey Server) old new Client h n = same_taken old.client new.client 0 h.1
step_taken c s (Rekey Server) old new Server h n = as_before old.server new.server 0 h.0.taken
step_taken c s Settle old new side h n = cc

-- ---- some steps before others

brought_more : (side : Side) (before more : List Step) → most_brought side (before ++ more) ≡ most_brought side before + most_brought side more
brought_more side [] more = omega arith
brought_more side (Submit s p ∷ before) more = brought_more side before more
brought_more side (Deliver s n ∷ before) more = (let r = brought_more side before more in omega (arith, r))
brought_more side (Rekey s ∷ before) more = brought_more side before more
brought_more side (Settle ∷ before) more = brought_more side before more

none_before : (before more : List Step) → has_settle (before ++ more) ≡ false → has_settle before ≡ false
none_before [] more h = refl
none_before (Submit s p ∷ before) more h = none_before before more h
none_before (Deliver s n ∷ before) more h = none_before before more h
none_before (Rekey s ∷ before) more h = none_before before more h
none_before (Settle ∷ before) more h = cc

none_behind : (before more : List Step) → has_settle (before ++ more) ≡ false → has_settle more ≡ false
none_behind [] more h = h
none_behind (Submit s p ∷ before) more h = none_behind before more h
none_behind (Deliver s n ∷ before) more h = none_behind before more h
none_behind (Rekey s ∷ before) more h = none_behind before more h
none_behind (Settle ∷ before) more h = cc

steps_taken : (c s : Says) (steps : List Step) (l : CarriedLink) (links : List CarriedLink) (side : Side) → StepsLinks c s steps l links → has_settle steps ≡ false → taken_by side (last_link l links) ≤ taken_by side l + most_brought side steps
steps_taken c s [] l [] side h n = omega arith
steps_taken c s [] l (x ∷ links) side h n = absurd h
steps_taken c s (step ∷ steps) l [] side h n = absurd h
steps_taken c s (step ∷ steps) l (x ∷ links) side h n =
    let a = step_taken c s step l x side h.0 (none_before (step ∷ []) steps n) in
    let b = steps_taken c s steps x links side h.1 (none_behind (step ∷ []) steps n) in
    let d = brought_more side (step ∷ []) steps in
    omega (arith, a, b, d)

-- ---- a new link

none_taken : (client server : Config) (l : CarriedLink) (side : Side) → IsNewLink client server l → taken_by side l ≡ 0
none_taken client server l Client new = ap (λ (x : CarriedEnd). x.taken) new.of_client.2
none_taken client server l Server new = ap (λ (x : CarriedEnd). x.taken) new.of_server.2

pub few_taken : (c s : Says) (client server : Config) (steps : List Step) (l : CarriedLink) (links : List CarriedLink) (side : Side) → IsNewLink client server l → StepsLinks c s steps l links → has_settle steps ≡ false → taken_by side (last_link l links) ≤ most_brought side steps
few_taken c s client server steps l links side new h n =
    let a = none_taken client server l side new in
    let b = steps_taken c s steps l links side h n in
    omega (arith, a, b)

-- ---- the step at which a side took so many bytes

last_brought : (side : Side) (step : Step) (taken bytes : ℕ) → carries_to side step ≡ true → has_settle (step ∷ []) ≡ false → ((n : ℕ) → step ≡ Deliver side n → bytes ≤ taken + n) → bytes ≤ taken + most_brought side (step ∷ [])
last_brought side (Submit s p) taken bytes c n few = cc
last_brought Client (Deliver Client k) taken bytes c n few = (let a = few k refl in omega (arith, a))
last_brought Client (Deliver Server k) taken bytes c n few = cc
last_brought Server (Deliver Client k) taken bytes c n few = cc
last_brought Server (Deliver Server k) taken bytes c n few = (let a = few k refl in omega (arith, a))
last_brought side (Rekey s) taken bytes c n few = cc
last_brought side Settle taken bytes c n few = cc

-- what the other side takes is not changed by it
other_brought : (side : Side) (step : Step) → carries_to side step ≡ true → has_settle (step ∷ []) ≡ false → most_brought (other_side side) (step ∷ []) ≡ 0
other_brought side (Submit s p) c n = cc
other_brought Client (Deliver Client k) c n = refl
other_brought Client (Deliver Server k) c n = cc
other_brought Server (Deliver Client k) c n = cc
other_brought Server (Deliver Server k) c n = refl
other_brought side (Rekey s) c n = cc
other_brought side Settle c n = cc

at_delivery : (side : Side) (step : Step) (P : Type 0) → carries_to side step ≡ true → has_settle (step ∷ []) ≡ false → ((n : ℕ) → step ≡ Deliver side n → P) → P
at_delivery side (Submit s p) P c n f = cc
at_delivery Client (Deliver Client k) P c n f = f k refl
at_delivery Client (Deliver Server k) P c n f = cc
at_delivery Server (Deliver Client k) P c n f = cc
at_delivery Server (Deliver Server k) P c n f = f k refl
at_delivery side (Rekey s) P c n f = cc
at_delivery side Settle P c n f = cc

pub bring_messages : (side : Side) (config : Side → Config) (before : List Step) (step : Step) (taken other_taken bytes : ℕ) → carries_to side step ≡ true → ((n : ℕ) → step ≡ Deliver side n → bytes ≤ taken + n) → ((n : ℕ) → step ≡ Deliver side n → length (id_line (config side).id) ≤ other_taken) → (has_settle before ≡ false → (taken ≤ most_brought side before) × (other_taken ≤ most_brought (other_side side) before)) → length (id_line (config (other_side side)).id) < bytes → BringMessages side config (before ++ step ∷ [])
bring_messages side config before step taken other_taken bytes c few heard so_far more = λ n.
    let a = last_brought side step taken bytes c (none_behind before (step ∷ []) n) few in
    let b = so_far (none_before before (step ∷ []) n) in
    let b0 = b.0 in
    let b1 = b.1 in
    let d = brought_more side before (step ∷ []) in
    let f = brought_more (other_side side) before (step ∷ []) in
    let h = at_delivery side step (length (id_line (config side).id) ≤ other_taken) c (none_behind before (step ∷ []) n) heard in
    (omega (arith, a, b0, d, more), omega (arith, b1, f, h))
