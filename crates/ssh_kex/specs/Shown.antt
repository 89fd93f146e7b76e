-- What is shown of a secret: its form, and no byte of it.
use Rattle.std.specs.Prelude.{ℕ, List, codes}
use Rattle.ssh_kex.specs.declared.exchange.SharedSecret.{SharedSecret}
use Rattle.ssh_kex.specs.declared.exchange.SharedSecret.TheVariants.{Mpint, Str}

abbrev pub secret_form : SharedSecret → List ℕ
secret_form (Mpint bytes) = codes "Mpint"
secret_form (Str bytes) = codes "Str"
