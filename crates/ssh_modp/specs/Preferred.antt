-- What is preferred with RSA host keys and some key agreement.
use Rattle.std.specs.Prelude.{◌≡◌, ◌||◌, Bool, [], ◌∷◌, filter, is_some, Some, refl}
use Rattle.ssh_wire.specs.Algorithms.{algorithms, hash_of}
use Rattle.ssh_wire.specs.declared.algorithm.Algorithm.{Algorithm}
use Rattle.ssh_wire.specs.declared.algorithm.Algorithm.TheVariants.{Rsa}
use Rattle.ssh_wire.specs.declared.algorithm.HashAlg.TheVariants.{Sha256, Sha512}
use Rattle.ssh_negotiate.specs.Defaults.{default_preferences}
use Rattle.ssh_negotiate.specs.Preferences.{Preferences}
use Rattle.ssh_negotiate.specs.Tables.{is_extension}
use Rattle.ssh_negotiate.specs.declared.kex.Name as kexes

-- whether RSA keys sign under a host key algorithm: rsa-sha2-256 and rsa-sha2-512 (RFC 8332)
abbrev pub is_rsa_sha2 : Algorithm → Bool
is_rsa_sha2 algorithm = is_some (hash_of algorithm)

-- The default preferences, with only those key exchanges that are offered, and only those host key algorithms that RSA
-- keys have. The extension names stand among the key exchanges and are kept.
abbrev pub preferences_with : (offered : kexes.Name → Bool) → Preferences
preferences_with offered = record default_preferences {
  kex = filter (λ name. is_extension name || offered name) default_preferences.kex;
  key = filter is_rsa_sha2 default_preferences.key;
}

key-example : filter is_rsa_sha2 algorithms ≡ Rsa (Some Sha512) ∷ Rsa (Some Sha256) ∷ []
key-example = refl
