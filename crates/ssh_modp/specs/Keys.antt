-- What is lent of keys.
use Rattle.std.specs.Prelude.{ℕ, List, Option, Some, None}
use denote.Ref.{Bor}
use Rattle.ssh_modp.specs.Rsa.{RsaPublic}

-- an exponent and a modulus that are lent, if they are there
abbrev pub key_seen : Option (Bor (List ℕ) × Bor (List ℕ)) → Option RsaPublic
key_seen None = None
key_seen (Some k) = Some (record { exponent = k.0.now; modulus = k.1.now })
