-- What an exchange is made of: the values of its blocks, and its secret.
use Rattle.std.specs.Prelude.{◌≡◌, ℕ, List, Option, Some, None}
use Rattle.std.specs.Option.{option_map}
use Rattle.ssh_wire.specs.Lines.{id_text}
use Rattle.ssh_negotiate.specs.declared.negotiation.Names.{Names}
use Rattle.ssh_kex.specs.Exchange.{exchange_hash}
use Rattle.ssh_kex.specs.declared.exchange.Exchange.{Exchange}
use Rattle.ssh_kex.specs.declared.exchange.FinishedExchange.{FinishedExchange}
use Rattle.ssh_kex.specs.declared.exchange.GexChosen.{GexChosen}
use Rattle.ssh_rules.specs.Headline.{keys_for}
use Rattle.ssh_blocks.specs.declared.values.BlockValues.{BlockValues}
use Rattle.ssh_blocks.specs.declared.values.GroupValues.{GroupValues}
use Rattle.ssh_transcript.specs.declared.setting.Setting.{Setting}

-- the group that both blocks speak of
abbrev pub group_given : GroupValues → GexChosen
group_given g = record {
  params = g.sizes;
  group = record { prime = g.numbers.prime.now; generator = g.numbers.generator.now };
}

-- the exchange of these values
abbrev pub exchange_between : Setting → BlockValues → Exchange
exchange_between s v = record {
  client_id = id_text s.client.now.id;
  server_id = id_text s.server.now.id;
  client_kex_init = v.client_kexinit.now;
  server_kex_init = v.server_kexinit.now;
  client_ephemeral = v.client_value.now;
  server_ephemeral = v.reply.value.now;
  gex = option_map group_given v.group;
}

-- an exchange is kept with this hash, and with the keys of its secret (RFC 4253 section 7.2)
abbrev pub IsKeptWith : Names → List ℕ → List ℕ → List ℕ → FinishedExchange → Type 0
IsKeptWith n secret hash session x = x ≡ record {
  names = n;
  hash = hash;
  session_id = session;
  keys = keys_for n secret hash session;
}

-- the hash of the first exchange, or this one where it is the first
abbrev pub session_or : Option (List ℕ) → List ℕ → List ℕ
session_or None hash = hash
session_or (Some first) hash = first

-- the hash of the values, the host's blob and the secret (RFC 4253 section 8)
abbrev pub hash_between : Setting → BlockValues → List ℕ → List ℕ
hash_between s v secret = exchange_hash s.names.kex (exchange_between s v) v.reply.host.now (Some secret)

-- an exchange is the one of these values and this secret
abbrev pub IsHashed : Setting → BlockValues → List ℕ → Option (List ℕ) → FinishedExchange → Type 0
IsHashed s v secret first x =
    IsKeptWith s.names secret (hash_between s v secret) (session_or first (hash_between s v secret)) x
