-- What an exchange makes of its values: the hash, the six keys, and what each direction is sealed under
-- (RFC 4253 sections 7.2 and 8, RFC 4419).
use Rattle.std.specs.Prelude.{◌≡◌, ℕ, Bool, true, false, if◌then◌else◌, List, [], ◌∷◌, ◌++◌, ◌<◌, ◌-◌, ◌^◌, length, take, Option, Some, None}
use Rattle.ssh_mac.specs.Digests.{digest_of}
use Rattle.ssh_mac.specs.Names.{mac_named}
use Rattle.ssh_mac.specs.Names as mac_table
use Rattle.ssh_mac.specs.declared.digest.DigestKind.{DigestKind}
use Rattle.ssh_negotiate.specs.Tables.{shape_of}
use Rattle.ssh_negotiate.specs.declared.kex.Name as kexes
use Rattle.ssh_negotiate.specs.declared.kex.SecretForm.{SecretForm}
use Rattle.ssh_negotiate.specs.declared.kex.SecretForm.TheVariants as forms
use Rattle.ssh_negotiate.specs.declared.negotiation.Names.{Names}
use Rattle.ssh_packet.specs.Names.{cipher_key_length, nonce_length, sealing_named}
use Rattle.ssh_packet.specs.Sealing.{Sealing}
use Rattle.ssh_packet.specs.Stream.{Opening}
use Rattle.ssh_wire.specs.Forms.{u32be, string, mpint}
use Rattle.ssh_wire.specs.declared.side.Side.{Side}
use Rattle.ssh_wire.specs.declared.side.Side.TheVariants.{Client, Server}
use Rattle.ssh_kex.specs.declared.exchange.Exchange.{Exchange}
use Rattle.ssh_kex.specs.declared.exchange.FinishedExchange.{FinishedExchange}
use Rattle.ssh_kex.specs.declared.exchange.GexChosen.{GexChosen}
use Rattle.ssh_kex.specs.declared.exchange.Keys.{Keys}
use Rattle.ssh_kex.specs.declared.exchange.SharedSecret.{SharedSecret}
use Rattle.ssh_kex.specs.declared.exchange.SharedSecret.TheVariants.{Mpint, Str}

-- ---- the secret

-- the secret as it is hashed; no bytes where there is none
unfoldable pub secret_text : Option SharedSecret → List ℕ
secret_text None = []
secret_text (Some (Mpint bytes)) = mpint bytes
secret_text (Some (Str bytes)) = string bytes

-- a secret in its form
abbrev pub formed : SecretForm → List ℕ → SharedSecret
formed forms.Mpint bytes = Mpint bytes
formed forms.Str bytes = Str bytes

-- the bytes of a secret, without a length
abbrev pub bytes_in : SharedSecret → List ℕ
bytes_in (Mpint bytes) = bytes
bytes_in (Str bytes) = bytes

-- the secret of these bytes, in the form of the key exchange
abbrev pub secret_of : kexes.Name → Option (List ℕ) → Option SharedSecret
secret_of name None = None
secret_of name (Some bytes) = Some (formed (shape_of name).form bytes)

-- a secret whose form has a length of four bytes
abbrev pub IsShortSecret : Option SharedSecret → Type 0
IsShortSecret None = Unit {0}
IsShortSecret (Some (Mpint bytes)) = length bytes < 2 ^ 32 - 1
IsShortSecret (Some (Str bytes)) = length bytes < 2 ^ 32 - 1

-- ---- the hash

-- in a group exchange the sizes asked for, then the group
abbrev pub group_text : Option GexChosen → List ℕ
group_text None = []
group_text (Some g) = u32be g.params.min_group_size
    ++ (u32be g.params.preferred_group_size ++ (u32be g.params.max_group_size
    ++ (mpint g.group.prime ++ mpint g.group.generator)))

-- a group whose numbers' forms have a length of four bytes
abbrev pub IsShortGex : Option GexChosen → Type 0
IsShortGex None = Unit {0}
IsShortGex (Some g) = (length g.group.prime < 2 ^ 32 - 1) × (length g.group.generator < 2 ^ 32 - 1)

-- what is hashed: both id texts, both KEXINITs, the host's blob, the group, both public values, the secret
unfoldable pub hashed_text : Exchange → List ℕ → List ℕ → List ℕ
hashed_text x host secret =
    string x.client_id ++ (string x.server_id ++ (string x.client_kex_init ++ (string x.server_kex_init ++ (string host
    ++ (group_text x.gex ++ (string x.client_ephemeral ++ (string x.server_ephemeral ++ secret)))))))

-- the exchange hash; no bytes where there is no exchange of values
unfoldable pub exchange_hash : kexes.Name → Exchange → List ℕ → Option (List ℕ) → List ℕ
exchange_hash name x host secret =
    if (shape_of name).skip then []
    else digest_of (shape_of name).digest (hashed_text x host (secret_text (secret_of name secret)))

-- ---- the keys

-- one block more: the digest of the secret, the hash and all blocks before
abbrev pub one_more : DigestKind → List ℕ → List ℕ → List ℕ
one_more digest front blocks = blocks ++ digest_of digest (front ++ blocks)

-- the key of a letter, of so many bytes: four blocks are enough for the longest, of 64
unfoldable pub key_by : DigestKind → List ℕ → List ℕ → List ℕ → ℕ → ℕ → List ℕ
key_by digest secret hash session letter need =
    take need (one_more digest (secret ++ hash) (one_more digest (secret
    ++ hash) (one_more digest (secret ++ hash) (digest_of digest (secret ++ (hash ++ letter ∷ session))))))

-- the six keys: letters A to F
unfoldable pub keys_of : DigestKind → List ℕ → List ℕ → List ℕ → Names → Keys
keys_of digest secret hash session n = record {
  iv_c2s = key_by digest secret hash session 65 (nonce_length n.cipher);
  iv_s2c = key_by digest secret hash session 66 (nonce_length n.cipher);
  key_c2s = key_by digest secret hash session 67 (cipher_key_length n.cipher);
  key_s2c = key_by digest secret hash session 68 (cipher_key_length n.cipher);
  mac_c2s = key_by digest secret hash session 69 (mac_table.mac_key_length n.client_mac);
  mac_s2c = key_by digest secret hash session 70 (mac_table.mac_key_length n.server_mac);
}

-- keys as long as the negotiated algorithms want them
pub record HaveLengths (n : Names) (k : Keys) : Type 0 where
  pub iv_c2s : length k.iv_c2s ≡ nonce_length n.cipher
  pub iv_s2c : length k.iv_s2c ≡ nonce_length n.cipher
  pub key_c2s : length k.key_c2s ≡ cipher_key_length n.cipher
  pub key_s2c : length k.key_s2c ≡ cipher_key_length n.cipher
  pub mac_c2s : length k.mac_c2s ≡ mac_table.mac_key_length n.client_mac
  pub mac_s2c : length k.mac_s2c ≡ mac_table.mac_key_length n.server_mac

-- the side of a machine that is told whether it is a server
abbrev pub side_if : Bool → Side
side_if true = Server
side_if false = Client

-- what a side's packets are sealed under at the first of the epoch that the exchange begins
unfoldable pub sealing_after : Side → Names → Keys → Sealing
sealing_after Client n k = sealing_named n.cipher k.key_c2s k.iv_c2s (mac_named n.client_mac k.mac_c2s)
sealing_after Server n k = sealing_named n.cipher k.key_s2c k.iv_s2c (mac_named n.server_mac k.mac_s2c)

-- what a side's packets take up at the end of an exchange
abbrev pub outgoing : Side → FinishedExchange → Opening
outgoing side x = record { sealing = sealing_after side x.names x.keys; strict = x.names.strict_kex }
