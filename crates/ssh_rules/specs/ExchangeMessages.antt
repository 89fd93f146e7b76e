-- The messages of an exchange, from what both sides know of it.
use Rattle.std.specs.Prelude.{ℕ, List, [], ◌∷◌, ◌++◌, is_some, Option, Some, None}
use Rattle.ssh_wire.specs.declared.side.Side.{Side}
use Rattle.ssh_wire.specs.declared.side.Side.TheVariants.{Client, Server}
use Rattle.ssh_kex.specs.Messages.{newkeys, value_message, reply_message, request_message, group_message}
use Rattle.ssh_kex.specs.declared.exchange.Exchange.{Exchange}
use Rattle.ssh_kex.specs.declared.exchange.GexChosen.{GexChosen}

-- what a client asks for, and what a server answers, in a group exchange alone
abbrev pub requests : Option GexChosen → List (List ℕ)
requests None = []
requests (Some g) = request_message g.params ∷ []

-- the group that a server answers with
abbrev pub groups : Option GexChosen → List (List ℕ)
groups None = []
groups (Some g) = group_message g.group ∷ []

-- a client's messages (RFC 4253 sections 7.1 to 8, RFC 4419 section 3)
abbrev pub client_messages : Exchange → List (List ℕ)
client_messages e = e.client_kex_init
    ∷ (requests e.gex ++ value_message (is_some e.gex) e.client_ephemeral ∷ newkeys ∷ [])

-- a server's, with the blob of its host and its signature
abbrev pub server_messages : Exchange → List ℕ → List ℕ → List (List ℕ)
server_messages e host signature =
    e.server_kex_init ∷ (groups e.gex ++ reply_message (is_some e.gex) host e.server_ephemeral signature ∷ newkeys
    ∷ [])

-- by a side; a client's hang on no host
abbrev pub messages_of : Side → Exchange → List ℕ → List ℕ → List (List ℕ)
messages_of Client e host signature = client_messages e
messages_of Server e host signature = server_messages e host signature

-- the KEXINIT of a side
abbrev pub kexinit_of : Side → Exchange → List ℕ
kexinit_of Client e = e.client_kex_init
kexinit_of Server e = e.server_kex_init
