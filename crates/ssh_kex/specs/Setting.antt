-- Between whom an exchange stands, what the handed-in parts say, and the record that an exchange makes.
use Rattle.std.specs.Prelude.{ℕ, ◌^◌, ◌<◌, true, false, if◌then◌else◌, List, length, Option, Some, None}
use Rattle.ssh_negotiate.specs.Advertised.{Offers, offers}
use Rattle.ssh_negotiate.specs.Causes.{session_of}
use Rattle.ssh_negotiate.specs.Tables.{shape_of}
use Rattle.ssh_negotiate.specs.declared.kex.KexCause.{KexCause}
use Rattle.ssh_negotiate.specs.declared.kex.Name as kexes
use Rattle.ssh_negotiate.specs.declared.negotiation.Names.{Names}
use Rattle.ssh_wire.specs.declared.side.Side.{Side}
use Rattle.ssh_wire.specs.declared.side.Side.TheVariants.{Client, Server}
use Rattle.ssh_kex.specs.Exchange.{exchange_hash, keys_of, secret_of, secret_text}
use Rattle.ssh_kex.specs.declared.config.Config.{Config}
use Rattle.ssh_kex.specs.declared.exchange.Exchange.{Exchange}
use Rattle.ssh_kex.specs.declared.exchange.FinishedExchange.{FinishedExchange}
use Rattle.ssh_kex.specs.declared.exchange.GexChosen.{GexChosen}
use Rattle.ssh_kex.specs.declared.exchange.ServerHost.{ServerHost}
use Rattle.ssh_kex.specs.declared.group.DhGroup.{DhGroup}
use Rattle.ssh_kex.specs.declared.group.GexParams.{GexParams}

-- What the handed-in parts say, each fact under the premise that they are lawful or obliging where it has one.
pub record Says : Type 1 where
  -- name, group, client's value, server's value, secret
  pub agrees : kexes.Name → Option DhGroup → List ℕ → List ℕ → List ℕ → Type 0
  -- name, group, local value, client's value
  pub client_makes : kexes.Name → Option DhGroup → List ℕ → List ℕ → Type 0
  -- name, group, client's value, server's value
  pub server_makes : kexes.Name → Option DhGroup → List ℕ → List ℕ → Type 0
  pub finds : GexParams → DhGroup → Type 0
  -- host, hash, signature in its canonical form
  pub signs : ServerHost → List ℕ → List ℕ → Type 0
  pub accepts : ServerHost → List ℕ → List ℕ → Type 0
  pub trusts : ServerHost → Type 0
  pub offers : kexes.Name → Type 0
  -- a public value of the agreement, a signature
  pub value_small : List ℕ → Type 0
  pub signature_small : List ℕ → Type 0

-- between whom an exchange stands, and why it began
pub record Setting : Type 0 where
  pub side : Side
  pub config : Config
  pub client_id : List ℕ
  pub server_id : List ℕ
  pub cause : KexCause

abbrev pub offers_of : Side → Config → Offers
offers_of side config = offers side config.preferred config.host

-- what is known once both KEXINITs are there
pub record Opened : Type 0 where
  pub names : Names
  pub own_kexinit : List ℕ
  pub peer_kexinit : List ℕ

abbrev pub group_of : Option GexChosen → Option DhGroup
group_of None = None
group_of (Some g) = Some g.group

-- what both sides know, from either side
abbrev pub exchange_by : Side → Setting → Opened → Option GexChosen → List ℕ → List ℕ → Exchange
exchange_by Client s o gex client_value server_value = record {
  client_id = s.client_id;
  server_id = s.server_id;
  client_kex_init = o.own_kexinit;
  server_kex_init = o.peer_kexinit;
  client_ephemeral = client_value;
  server_ephemeral = server_value;
  gex = gex;
}
exchange_by Server s o gex client_value server_value = record {
  client_id = s.client_id;
  server_id = s.server_id;
  client_kex_init = o.peer_kexinit;
  server_kex_init = o.own_kexinit;
  client_ephemeral = client_value;
  server_ephemeral = server_value;
  gex = gex;
}

abbrev pub exchange_of : Setting → Opened → Option GexChosen → List ℕ → List ℕ → Exchange
exchange_of s o gex client_value server_value = exchange_by s.side s o gex client_value server_value

-- what is kept of an exchange whose hash is known
abbrev pub kept_of : KexCause → Names → Option (List ℕ) → List ℕ → FinishedExchange
kept_of cause n secret hash = record {
  names = n;
  hash = hash;
  session_id = session_of cause hash;
  keys = keys_of (shape_of n.kex).digest (secret_text (secret_of n.kex secret)) hash (session_of cause hash) n;
}

-- the record that an exchange makes of its values, the host's blob and the secret
abbrev pub made_of : KexCause → Names → Exchange → List ℕ → Option (List ℕ) → FinishedExchange
made_of cause n x host secret = kept_of cause n secret (exchange_hash n.kex x host secret)

-- the names behind a guess that was dropped, which is marked
abbrev pub behind_guess : Names → Names
behind_guess n = record n { ignore_guessed = false; guessed_ignored = true }

-- the names of the record, of those that were read
abbrev pub held_names : Names → Names
held_names n = if n.ignore_guessed then behind_guess n else n

-- the lengths of a group and the numbers of its sizes
pub record IsShortGroup (g : GexChosen) : Type 0 where
  pub prime : length g.group.prime < 2 ^ 31
  pub generator : length g.group.generator < 2 ^ 31
  pub least : g.params.min_group_size < 2 ^ 32
  pub preferred : g.params.preferred_group_size < 2 ^ 32
  pub most : g.params.max_group_size < 2 ^ 32
