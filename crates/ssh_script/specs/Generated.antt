-- The steps that a seed makes.
use Rattle.std.specs.Prelude.{◌≡◌, ℕ, zero, suc, ◌+◌, ◌*◌, ◌/◌, ◌%◌, ◌^◌, ◌==◌, if◌then◌else◌, List, [], ◌∷◌, ◌++◌, replicate, refl}
use Rattle.ssh_wire.specs.declared.side.Side.{Side}
use Rattle.ssh_wire.specs.declared.side.Side.TheVariants.{Client, Server}
use Rattle.ssh_rules.specs.declared.link.Step.{Step}
use Rattle.ssh_rules.specs.declared.link.Step.TheVariants.{Submit, Deliver, Rekey, Settle}
use Rattle.ssh_script.specs.Plans.{Plan}
use Rattle.ssh_script.specs.RunScript.{first_plan, with_default_key, with_limits}

-- the state behind a draw: a linear congruential generator with Knuth's constants
abbrev pub state_behind : ℕ → ℕ
state_behind x = (x * 6364136223846793005 % 2 ^ 64 + 1442695040888963407) % 2 ^ 64

-- the number that is drawn by it: its upper 31 bits
abbrev pub drawn : ℕ → ℕ
drawn x = x / 2 ^ 33

-- the side of a number
abbrev pub side_drawn : ℕ → Side
side_drawn n = if n % 2 == 0 then Client else Server

-- byte 94 and up to 999 bytes of one value
abbrev pub payload_drawn : ℕ → ℕ → List ℕ
payload_drawn turn n = 94 ∷ replicate (n % 1000) (turn % 256)

-- one of sixteen rekeys
abbrev pub rekey_drawn : Side → ℕ → List Step
rekey_drawn side n = if n % 16 == 0 then Rekey side ∷ [] else []

-- what four numbers make of a turn
abbrev pub turn_by : ℕ → (a b c d : ℕ) → List Step
turn_by turn a b c d =
    (Submit (side_drawn a) (payload_drawn turn b) ∷ rekey_drawn (side_drawn a) c) ++ Deliver (side_drawn d) (d % 4096) ∷ []

-- the state behind four draws
abbrev pub state_behind_turn : ℕ → ℕ
state_behind_turn x = state_behind (state_behind (state_behind (state_behind x)))

-- a turn's steps, from the state before it
abbrev pub turn_steps : ℕ → ℕ → List Step
turn_steps turn x =
    turn_by turn (drawn (state_behind x)) (drawn (state_behind (state_behind x)))
    (drawn (state_behind (state_behind (state_behind x)))) (drawn (state_behind_turn x))

-- the steps of so many turns, which count from `turn`
abbrev pub turns_from : (count turn x : ℕ) → List Step
turns_from zero turn x = []
turns_from (suc count) turn x = turn_steps turn x ++ turns_from count (turn + 1) (state_behind_turn x)

-- all steps; a settle ends them
abbrev pub generated_steps : ℕ → ℕ → List Step
generated_steps seed count = turns_from count 0 seed ++ Settle ∷ []

-- the least limit of bytes between exchanges
abbrev pub generated_limit : ℕ
generated_limit = 65536

-- both sides as they are where a script says nothing of them, but for their limits
abbrev pub generated_plan : ℕ → ℕ → Plan
generated_plan seed count = record (with_default_key first_plan) {
  client = with_limits (with_default_key first_plan).client generated_limit generated_limit;
  server = with_limits (with_default_key first_plan).server generated_limit generated_limit;
  steps = generated_steps seed count;
  attack = [];
}

none-example : generated_steps 7 0 ≡ Settle ∷ []
none-example = refl
