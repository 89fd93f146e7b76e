-- What the handed-in parts of both sides say, as a reader of the headline meets it.
use Rattle.std.specs.Prelude.{ℕ, Bool, List, Option}
use Rattle.ssh_negotiate.specs.declared.kex.Name.{Name as KexName}
use Rattle.ssh_kex.specs.declared.exchange.ServerHost.{ServerHost}
use Rattle.ssh_kex.specs.declared.group.DhGroup.{DhGroup}

-- that a local value and a client's value are a pair, by name and group
abbrev pub ClientPairs : Type 1
ClientPairs = KexName → Option DhGroup → List ℕ → List ℕ → Type 0

-- that a value is one of a server
abbrev pub ServerValues : Type 1
ServerValues = KexName → Option DhGroup → List ℕ → List ℕ → Type 0

-- that a client's value and a server's agree on a secret
abbrev pub Secrets : Type 1
Secrets = KexName → Option DhGroup → List ℕ → List ℕ → List ℕ → Type 0

-- whether a host accepts a signature of a hash
abbrev pub Accepting : Type 0
Accepting = ServerHost → List ℕ → List ℕ → Bool

-- whether a host is trusted
abbrev pub Trusting : Type 0
Trusting = ServerHost → Bool
