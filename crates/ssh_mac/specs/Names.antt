-- The names of MACs (RFC 4253 section 6.4, RFC 6668 section 2, and OpenSSH's encrypt-then-MAC names).
use Rattle.std.specs.Prelude.{ℕ, List, codes}
use Rattle.ssh_mac.specs.declared.digest.DigestKind.TheVariants as K
use Rattle.ssh_mac.specs.Tags as T
use Rattle.ssh_mac.specs.Tags.{MacOf}
use Rattle.ssh_mac.specs.declared.mac.Name.{Name}
use Rattle.ssh_mac.specs.declared.mac.Name.TheVariants.{NoMac, HmacSha1, HmacSha256, HmacSha512, HmacSha1Etm, HmacSha256Etm, HmacSha512Etm}

-- the text of a name
abbrev pub mac_name : Name → List ℕ
mac_name NoMac = codes "none"
mac_name HmacSha1 = codes "hmac-sha1"
mac_name HmacSha256 = codes "hmac-sha2-256"
mac_name HmacSha512 = codes "hmac-sha2-512"
mac_name HmacSha1Etm = codes "hmac-sha1-etm@openssh.com"
mac_name HmacSha256Etm = codes "hmac-sha2-256-etm@openssh.com"
mac_name HmacSha512Etm = codes "hmac-sha2-512-etm@openssh.com"

-- the length of its key in bytes, and of its tag
abbrev pub mac_key_length : Name → ℕ
mac_key_length NoMac = 0
mac_key_length HmacSha1 = 20
mac_key_length HmacSha256 = 32
mac_key_length HmacSha512 = 64
mac_key_length HmacSha1Etm = 20
mac_key_length HmacSha256Etm = 32
mac_key_length HmacSha512Etm = 64

-- the MAC of a name under a key
abbrev pub mac_named : Name → List ℕ → MacOf
mac_named NoMac key = T.NoMac
mac_named HmacSha1 key = T.Plain K.Sha1 key
mac_named HmacSha256 key = T.Plain K.Sha256 key
mac_named HmacSha512 key = T.Plain K.Sha512 key
mac_named HmacSha1Etm key = T.Etm K.Sha1 key
mac_named HmacSha256Etm key = T.Etm K.Sha256 key
mac_named HmacSha512Etm key = T.Etm K.Sha512 key
