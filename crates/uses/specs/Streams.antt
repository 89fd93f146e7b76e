-- What was read of a stream of the other side's bytes, by a transport that lends its payloads.
use Rattle.std.specs.Prelude.{◌≡◌, ℕ, List, [], ◌++◌}
use Rattle.ssh_kex.specs.Setting.{Says}
use Rattle.ssh_rules.specs.Standing.{Standing, TakesInput}

-- payloads behind those that are queued
abbrev pub queued_all : Standing → List (List ℕ) → Standing
queued_all t payloads = record t { delivered = t.delivered ++ payloads }

-- These bytes were taken, and these payloads lent, none of which is queued: with them queued, the transport is what
-- feeding it the bytes makes of it.
abbrev pub FedLent : Says → Standing → List ℕ → List (List ℕ) → Standing → Type 0
FedLent says old bytes lent new = TakesInput says old bytes (queued_all new lent) × (new.delivered ≡ old.delivered)

-- Of what was kept these payloads were lent so far: whatever is lent of the rest, both are lent of it.
abbrev pub LentSoFar : Says → Standing → List (List ℕ) → Standing → Type 0
LentSoFar says old lent new = (rest : List (List ℕ)) (end : Standing) → FedLent says new [] rest end
    → FedLent says old [] (lent ++ rest) end
