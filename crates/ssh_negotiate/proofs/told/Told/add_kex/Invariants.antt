use Rattle.std.proofs.Common.{◌++◌, ℕ, List, map, filter, not, take}
use Rattle.ssh_negotiate.specs.Advertised.{is_foreign}
use Rattle.ssh_negotiate.specs.Tables.{kex_text}
use Rattle.ssh_negotiate.specs.Told.{Tells}
use Rattle.ssh_negotiate.proofs.told.Told.add_kex.Given as goal

abbrev pub invariant-loop-name : goal.invariant-loop-name
invariant-loop-name l = (texts : List (List ℕ)) → Tells l.fn.self texts → Tells l.self (texts ++ map kex_text (filter (λ n. not (is_foreign l.side n)) (take l.name-index l.kex)))
