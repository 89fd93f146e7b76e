-- A nonce is worth less than 2^96.
use Rattle.std.proofs.Common.{ℕ, ◌^◌, ◌<◌, List, arith}
use Rattle.ssh_wire.specs.Forms.{AreBytes}
use Rattle.ssh_rules.proofs.side.Apart.{worth}

-- twelve bytes are worth less than 2^96, whatever stands behind them
pub worth_small : (nonce : List ℕ) → AreBytes nonce → worth nonce < 2 ^ 96
worth_small nonce h = omega (arith, h 0, h 1, h 2, h 3, h 4, h 5, h 6, h 7, h 8, h 9, h 10, h 11)
