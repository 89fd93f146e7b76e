-- The messages of an exchange (RFC 4253 sections 7.3 and 8, RFC 4419 section 3, RFC 5656 section 4), and what a server
-- presents.
use Rattle.std.specs.Prelude.{◌≡◌, ℕ, ◌+◌, ◌*◌, ◌&&◌, nat_lt, if◌then◌else◌, Bool, true, false, List, [], ◌∷◌, ◌++◌, length, find, Option, Some, None, refl}
use Rattle.std.specs.Str.{bytes_eq}
use Rattle.ssh_negotiate.specs.Advertised.{fits, has_key}
use Rattle.ssh_negotiate.specs.Preferences.{Hosts}
use Rattle.ssh_negotiate.specs.Tables.{shape_of}
use Rattle.ssh_negotiate.specs.declared.kex.Name as kexes
use Rattle.ssh_negotiate.specs.declared.negotiation.Names.{Names}
use Rattle.ssh_negotiate.specs.declared.preferred.HostKey.{HostKey}
use Rattle.ssh_negotiate.specs.declared.preferred.HostCertificate.{HostCertificate}
use Rattle.ssh_wire.specs.Forms.{u32be, string, mpint, magnitude}
use Rattle.ssh_wire.specs.declared.algorithm.Algorithm.{Algorithm}
use Rattle.ssh_kex.specs.declared.exchange.ServerHost.{ServerHost}
use Rattle.ssh_kex.specs.declared.group.DhGroup.{DhGroup}
use Rattle.ssh_kex.specs.declared.group.GexParams.{GexParams}

-- whether it is a group exchange
abbrev pub is_gex : kexes.Name → Bool
is_gex name = (shape_of name).gex

abbrev pub newkeys : List ℕ
newkeys = 21 ∷ []

-- a client's value: 30, or 32 in a group exchange
abbrev pub value_message : Bool → List ℕ → List ℕ
value_message true value = 32 ∷ string value
value_message false value = 30 ∷ string value

-- a server's reply: 31, or 33 in a group exchange
abbrev pub reply_message : Bool → List ℕ → List ℕ → List ℕ → List ℕ
reply_message true host value signature = 33 ∷ (string host ++ (string value ++ string signature))
reply_message false host value signature = 31 ∷ (string host ++ (string value ++ string signature))

-- the sizes of a group, as three uint32
abbrev pub sizes_text : GexParams → List ℕ
sizes_text g = u32be g.min_group_size ++ (u32be g.preferred_group_size ++ u32be g.max_group_size)

abbrev pub request_message : GexParams → List ℕ
request_message g = 34 ∷ sizes_text g

abbrev pub group_message : DhGroup → List ℕ
group_message g = 31 ∷ (mpint g.prime ++ mpint g.generator)

-- ---- groups

-- how many binary digits a byte has
abbrev pub byte_digits : ℕ → ℕ
byte_digits b =
    if nat_lt b 1 then 0 else if nat_lt b 2 then 1 else if nat_lt b 4 then 2 else if nat_lt b 8 then 3 else if nat_lt b 16 then 4
    else if nat_lt b 32 then 5 else if nat_lt b 64 then 6 else if nat_lt b 128 then 7 else 8

abbrev pub digits_from : List ℕ → ℕ
digits_from [] = 0
digits_from (b ∷ bytes) = byte_digits b + 8 * length bytes

-- how many binary digits the number has that bytes spell
unfoldable pub bit_size : List ℕ → ℕ
bit_size bytes = digits_from (magnitude bytes)

-- written without leading zeros, so that the message determines it
pub record IsCanonical (g : DhGroup) : Type 0 where
  pub prime : magnitude g.prime ≡ g.prime
  pub generator : magnitude g.generator ≡ g.generator

-- ---- hosts

-- the key that signs, and the blob that is shown
pub record Presented : Type 0 where
  pub signer : HostKey
  pub blob : List ℕ

abbrev pub by_key : Option HostKey → Option Presented
by_key None = None
by_key (Some k) = Some (record { signer = k; blob = k.blob })

abbrev pub by_holder : List ℕ → Option HostKey → Option Presented
by_holder blob None = None
by_holder blob (Some k) = Some (record { signer = k; blob = blob })

abbrev pub by_certificate : List HostKey → Option HostCertificate → Option Presented
by_certificate keys None = None
by_certificate keys (Some c) = by_holder c.blob (find (λ (k : HostKey). bytes_eq k.blob c.key_blob) keys)

-- What a server presents under the names: the first certificate that fits and whose key is there, or the first key
-- that fits.
unfoldable pub presented : Hosts → Bool → Algorithm → Option Presented
presented hosts true algorithm =
    by_certificate hosts.keys (find (λ (c : HostCertificate). fits c.algorithm algorithm && has_key hosts.keys c) hosts.certificates)
presented hosts false algorithm = by_key (find (λ (k : HostKey). fits k.algorithm algorithm) hosts.keys)

-- the host of a blob under the names
abbrev pub host_with : Names → List ℕ → ServerHost
host_with n blob = record { algorithm = n.key; is_certificate = n.host_key_is_certificate; blob = blob }

bits-example : (bit_size (1 ∷ 1 ∷ []) ≡ 9) × (bit_size (0 ∷ 1 ∷ []) ≡ 1) × (bit_size (0 ∷ []) ≡ 0)
unfolding bit_size
bits-example = (refl, refl, refl)

request-example : request_message (record { min_group_size = 2048; preferred_group_size = 3072; max_group_size = 8192 })
    ≡ 0x22 ∷ 0 ∷ 0 ∷ 8 ∷ 0 ∷ 0 ∷ 0 ∷ 12 ∷ 0 ∷ 0 ∷ 0 ∷ 32 ∷ 0 ∷ []
request-example = refl
