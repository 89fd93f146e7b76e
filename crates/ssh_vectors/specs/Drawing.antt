-- What the test agreement draws: the next value of the generator.
use Rattle.std.specs.Prelude.{◌≡◌, ℕ, List, Option}
use Rattle.rand_core.specs.Stream.{Stream}
use Rattle.ssh_negotiate.specs.declared.kex.Name as kexes
use Rattle.ssh_kex.specs.declared.group.DhGroup.{DhGroup}
use Rattle.ssh_vectors.specs.Agreement.{behind_value, value_from}

abbrev pub ClientDraws : kexes.Name → Option DhGroup → Stream → List ℕ → List ℕ → Stream → Type 0
ClientDraws name group before local public behind = (public ≡ value_from before) × (behind ≡ behind_value before)

abbrev pub ServerDraws : kexes.Name → Option DhGroup → List ℕ → Stream → List ℕ → List ℕ → Stream → Type 0
ServerDraws name group client before public secret behind = (public ≡ value_from before) × (behind ≡ behind_value before)
