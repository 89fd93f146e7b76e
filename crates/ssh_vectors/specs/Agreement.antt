-- What the test agreement makes.
use Rattle.std.specs.Prelude.{◌≡◌, ℕ, ◌==◌, Bool, List, [], ◌++◌, length, Option, Some, None}
use Rattle.rand_core.specs.Stream.{Stream, fill_bytes}
use Rattle.sha2.specs.Sha256.{sha256}
use Rattle.ssh_negotiate.specs.Tables.{kex_text}
use Rattle.ssh_negotiate.specs.declared.kex.Name as kexes
use Rattle.ssh_wire.specs.Forms.{string}
use Rattle.ssh_wire.specs.Outside.{next_count}
use Rattle.ssh_kex.specs.declared.group.DhGroup.{DhGroup}
use Rattle.ssh_vectors.specs.Refusing.{raised}

-- a test agreement: how often it was asked, and how often it refused
pub record AskedAgreement : Type 0 where
  pub calls : ℕ
  pub refusals : ℕ

-- after one call more, which was refused or not
abbrev pub asked_again : AskedAgreement → Bool → AskedAgreement
asked_again a refused = record { calls = next_count a.calls; refusals = raised refused a.refusals }

-- whether a value has the length of those that are drawn
abbrev pub has_value_length : List ℕ → Bool
has_value_length value = length value == 32

-- the next value that a generator gives, and what it gives behind it
abbrev pub value_from : Stream → List ℕ
value_from stream = (fill_bytes 32 stream).0

abbrev pub behind_value : Stream → Stream
behind_value stream = (fill_bytes 32 stream).1

-- the numbers of a group, no bytes where there is no group
abbrev pub group_prime : Option DhGroup → List ℕ
group_prime None = []
group_prime (Some g) = g.prime

abbrev pub group_generator : Option DhGroup → List ℕ
group_generator None = []
group_generator (Some g) = g.generator

-- SHA-256 of the strings name, prime, generator, client's value, server's value
unfoldable pub secret_between : kexes.Name → Option DhGroup → List ℕ → List ℕ → List ℕ
secret_between name group client server =
    sha256 (string (kex_text name) ++ (string (group_prime group) ++ (string (group_generator group)
    ++ (string client ++ string server))))

-- a client's pair: it keeps what it sends
pub record ClientMakes (name : kexes.Name) (group : Option DhGroup) (local public : List ℕ) : Type 0 where
  pub same : local ≡ public
  pub size : length public ≡ 32

-- a server's value
pub record ServerMakes (name : kexes.Name) (group : Option DhGroup) (client public : List ℕ) : Type 0 where
  pub size : length public ≡ 32

-- the one secret between two values
abbrev pub Agrees : kexes.Name → Option DhGroup → List ℕ → List ℕ → List ℕ → Type 0
Agrees name group client server secret = secret ≡ secret_between name group client server
