-- What a side makes of all that the other had to send.
use Rattle.std.specs.Prelude.{◌≡◌, ℕ, List, []}
use Rattle.ssh_kex.specs.Setting.{Says}
use Rattle.ssh_rules.specs.Standing.{Standing, TakesInput}

-- The bytes were fed to it, and what was delivered behind them was taken over.
abbrev pub HandsOver : Says → Standing → List ℕ → List (List ℕ) → Standing → Type 0
HandsOver says old bytes taken new = TakesInput says old bytes (record new { delivered = taken }) × (new.delivered ≡ [])
