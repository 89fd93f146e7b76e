-- What a side offers, and the KEXINIT that carries it (RFC 4253 section 7.1).
use Rattle.std.specs.Prelude.{ℕ, Bool, true, false, not, ◌&&◌, ◌||◌, List, [], ◌∷◌, ◌++◌, map, filter, Option, Some, None}
use Rattle.std.specs.List.{list_any, flat_map}
use Rattle.std.specs.Str.{bytes_eq}
use Rattle.ssh_mac.specs.declared.mac.Name as macs
use Rattle.ssh_mac.specs.Names as mac_table
use Rattle.ssh_packet.specs.declared.cipher.Name as ciphers
use Rattle.ssh_packet.specs.declared.compression.Name as compressions
use Rattle.ssh_packet.specs.Names as cipher_table
use Rattle.ssh_wire.specs.Algorithms.{algorithm_name, certificate_name}
use Rattle.ssh_wire.specs.Forms.{u32be, name_list}
use Rattle.ssh_wire.specs.declared.algorithm.Algorithm.{Algorithm}
use Rattle.ssh_wire.specs.declared.algorithm.Algorithm.TheVariants.{Ed25519, Ecdsa, Rsa}
use Rattle.ssh_wire.specs.declared.side.Side.{Side}
use Rattle.ssh_wire.specs.declared.side.Side.TheVariants.{Client, Server}
use Rattle.ssh_negotiate.specs.Preferences.{Preferences, Hosts}
use Rattle.ssh_negotiate.specs.Tables.{kex_text}
use Rattle.ssh_negotiate.specs.declared.kex.Name as kexes
use Rattle.ssh_negotiate.specs.declared.kex.Name.TheVariants.{ExtInfoC, ExtInfoS, StrictC, StrictS}
use Rattle.ssh_negotiate.specs.declared.negotiation.HostName.{HostName}
use Rattle.ssh_negotiate.specs.declared.negotiation.HostName.TheVariants.{Certificate, Plain}
use Rattle.ssh_negotiate.specs.declared.preferred.HostKey.{HostKey}
use Rattle.ssh_negotiate.specs.declared.preferred.HostCertificate.{HostCertificate}

-- ---- the texts of the names of each kind

unfoldable pub host_text : HostName → List ℕ
host_text (Certificate algorithm) = certificate_name algorithm
host_text (Plain algorithm) = algorithm_name algorithm

unfoldable pub cipher_text : ciphers.Name → List ℕ
cipher_text name = cipher_table.cipher_name name

unfoldable pub mac_text : macs.Name → List ℕ
mac_text name = mac_table.mac_name name

unfoldable pub compression_text : compressions.Name → List ℕ
compression_text name = cipher_table.compression_name name

-- ---- host keys

abbrev pub is_rsa : Algorithm → Bool
is_rsa Ed25519 = false
is_rsa (Ecdsa curve) = false
is_rsa (Rsa hash) = true

-- an RSA key signs under each RSA algorithm (RFC 8332), another key under its own alone
abbrev pub fits : Algorithm → Algorithm → Bool
fits key algorithm = (is_rsa key && is_rsa algorithm) || bytes_eq (algorithm_name key) (algorithm_name algorithm)

-- some key fits the algorithm
abbrev pub some_fits : List HostKey → Algorithm → Bool
some_fits keys algorithm = list_any (λ (k : HostKey). fits k.algorithm algorithm) keys

-- the key of a certificate is there
abbrev pub has_key : List HostKey → HostCertificate → Bool
has_key keys certificate = list_any (λ (k : HostKey). bytes_eq k.blob certificate.key_blob) keys

abbrev pub is_other : Algorithm → Algorithm → Bool
is_other a b = not (bytes_eq (algorithm_name a) (algorithm_name b))

-- each once, where it stands first
abbrev pub each_once : List Algorithm → List Algorithm
each_once [] = []
each_once (a ∷ rest) = a ∷ filter (is_other a) (each_once rest)

-- the algorithms under which a server has a certificate: for each certificate whose key is there, the preferred ones
-- that it fits
unfoldable pub certificate_names : List Algorithm → List HostCertificate → List HostKey → List Algorithm
certificate_names preferred certificates keys =
    each_once (flat_map (λ (c : HostCertificate). filter (fits c.algorithm) preferred) (filter (has_key keys) certificates))

-- the algorithms under which a server has a key; all, where no keys are handed in
abbrev pub key_names : List Algorithm → Option (List HostKey) → List Algorithm
key_names preferred None = preferred
key_names preferred (Some keys) = filter (some_fits keys) preferred

-- a server's certificates count where its keys are handed in too
abbrev pub held_certificates : List Algorithm → Option (List HostKey) → Option (List HostCertificate) → List Algorithm
held_certificates preferred None certificates = []
held_certificates preferred (Some keys) None = []
held_certificates preferred (Some keys) (Some certificates) = certificate_names preferred certificates keys

-- certificates stand before keys. A client takes what it prefers; a server has what its keys fit
abbrev pub host_names : Side → Preferences → Option (List HostKey) → Option (List HostCertificate) → List HostName
host_names Client p keys certificates = map Certificate p.host_key_certificates ++ map Plain p.key
host_names Server p keys certificates = map Certificate (held_certificates p.key keys certificates) ++ map Plain (key_names p.key keys)

-- ---- what is offered

-- the two extension names that belong to the other side alone
abbrev pub is_foreign : Side → kexes.Name → Bool
is_foreign Client name = bytes_eq (kex_text name) (kex_text ExtInfoS) || bytes_eq (kex_text name) (kex_text StrictS)
is_foreign Server name = bytes_eq (kex_text name) (kex_text ExtInfoC) || bytes_eq (kex_text name) (kex_text StrictC)

-- What a side offers of each kind, the most preferred first: the same ciphers, MACs and compressions both ways.
pub record Offers : Type 0 where
  pub kex : List kexes.Name
  pub key : List HostName
  pub cipher : List ciphers.Name
  pub mac : List macs.Name
  pub compression : List compressions.Name

-- what a side offers with the keys and certificates that are handed in
unfoldable pub offers_with : Side → Preferences → Option (List HostKey) → Option (List HostCertificate) → Offers
offers_with side p keys certificates = record {
  kex = filter (λ n. not (is_foreign side n)) p.kex;
  key = host_names side p keys certificates;
  cipher = p.cipher;
  mac = p.mac;
  compression = p.compression;
}

-- what a side offers
abbrev pub offers : Side → Preferences → Hosts → Offers
offers side p hosts = offers_with side p (Some hosts.keys) (Some hosts.certificates)

-- ---- the advertised lists

abbrev pub kex_texts : Offers → List (List ℕ)
kex_texts o = map kex_text o.kex

abbrev pub key_texts : Offers → List (List ℕ)
key_texts o = map host_text o.key

abbrev pub cipher_texts : Offers → List (List ℕ)
cipher_texts o = map cipher_text o.cipher

abbrev pub mac_texts : Offers → List (List ℕ)
mac_texts o = map mac_text o.mac

abbrev pub compression_texts : Offers → List (List ℕ)
compression_texts o = map compression_text o.compression

-- the eight lists as they are advertised: key exchanges, host keys, then ciphers, MACs and compressions, each to the
-- server and to the client
abbrev pub advertised_lists : Offers → List (List (List ℕ))
advertised_lists o = kex_texts o ∷ key_texts o ∷ cipher_texts o ∷ cipher_texts o ∷ mac_texts o ∷ mac_texts o ∷ compression_texts o ∷ compression_texts o ∷ []

-- ---- the KEXINIT

-- name lists, one after the other
abbrev pub name_lists : List (List (List ℕ)) → List ℕ → List ℕ
name_lists [] rest = rest
name_lists (l ∷ lists) rest = name_list l ++ name_lists lists rest

-- no languages, no guess, and a uint32 of nothing
abbrev pub kexinit_end : List ℕ
kexinit_end = name_lists ([] ∷ [] ∷ []) (0 ∷ u32be 0)

-- the payload: its number 20, the cookie, the lists
unfoldable pub kexinit : Offers → List ℕ → List ℕ
kexinit o cookie = (20 ∷ cookie) ++ name_lists (advertised_lists o) kexinit_end
