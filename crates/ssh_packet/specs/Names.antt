-- The names of ciphers (RFC 4253 section 6.3, RFC 4344 section 4, RFC 5647 section 6), and that of no
-- compression (RFC 4253 section 6.2).
use Rattle.std.specs.Prelude.{ℕ, Bool, true, false, List, codes}
use Rattle.ssh_aes.specs.Modes.{Ctr, Cbc}
use Rattle.ssh_mac.specs.Tags.{MacOf}
use Rattle.ssh_packet.specs.Sealing as sealing
use Rattle.ssh_packet.specs.Sealing.{Sealing, Block, Gcm}
use Rattle.ssh_packet.specs.declared.cipher.Name.{Name}
use Rattle.ssh_packet.specs.declared.cipher.Name.TheVariants.{Clear, NoCipher, Aes128Ctr, Aes192Ctr, Aes256Ctr, Aes128Gcm, Aes256Gcm, Aes128Cbc, Aes192Cbc, Aes256Cbc}
use Rattle.ssh_packet.specs.declared.compression.Name as compression
use Rattle.ssh_packet.specs.declared.compression.Name.TheVariants as compressions

-- the text of a name
abbrev pub cipher_name : Name → List ℕ
cipher_name Clear = codes "clear"
cipher_name NoCipher = codes "none"
cipher_name Aes128Ctr = codes "aes128-ctr"
cipher_name Aes192Ctr = codes "aes192-ctr"
cipher_name Aes256Ctr = codes "aes256-ctr"
cipher_name Aes128Gcm = codes "aes128-gcm@openssh.com"
cipher_name Aes256Gcm = codes "aes256-gcm@openssh.com"
cipher_name Aes128Cbc = codes "aes128-cbc"
cipher_name Aes192Cbc = codes "aes192-cbc"
cipher_name Aes256Cbc = codes "aes256-cbc"

-- whether its packets need a MAC beside it
abbrev pub wants_mac : Name → Bool
wants_mac Clear = false
wants_mac NoCipher = false
wants_mac Aes128Ctr = true
wants_mac Aes192Ctr = true
wants_mac Aes256Ctr = true
wants_mac Aes128Gcm = false
wants_mac Aes256Gcm = false
wants_mac Aes128Cbc = true
wants_mac Aes192Cbc = true
wants_mac Aes256Cbc = true

-- the length of its key in bytes
abbrev pub cipher_key_length : Name → ℕ
cipher_key_length Clear = 0
cipher_key_length NoCipher = 0
cipher_key_length Aes128Ctr = 16
cipher_key_length Aes192Ctr = 24
cipher_key_length Aes256Ctr = 32
cipher_key_length Aes128Gcm = 16
cipher_key_length Aes256Gcm = 32
cipher_key_length Aes128Cbc = 16
cipher_key_length Aes192Cbc = 24
cipher_key_length Aes256Cbc = 32

-- the length of its first counter block, chaining block or nonce in bytes
abbrev pub nonce_length : Name → ℕ
nonce_length Clear = 0
nonce_length NoCipher = 0
nonce_length Aes128Ctr = 16
nonce_length Aes192Ctr = 16
nonce_length Aes256Ctr = 16
nonce_length Aes128Gcm = 12
nonce_length Aes256Gcm = 12
nonce_length Aes128Cbc = 16
nonce_length Aes192Cbc = 16
nonce_length Aes256Cbc = 16

-- what its packets are sealed under at the first of an epoch, by the key, the nonce and the MAC
abbrev pub sealing_named : Name → List ℕ → List ℕ → MacOf → Sealing
sealing_named Clear key nonce mac = sealing.Clear
sealing_named NoCipher key nonce mac = sealing.Clear
sealing_named Aes128Ctr key nonce mac = Block (Ctr key nonce 0) mac
sealing_named Aes192Ctr key nonce mac = Block (Ctr key nonce 0) mac
sealing_named Aes256Ctr key nonce mac = Block (Ctr key nonce 0) mac
sealing_named Aes128Gcm key nonce mac = Gcm key nonce
sealing_named Aes256Gcm key nonce mac = Gcm key nonce
sealing_named Aes128Cbc key nonce mac = Block (Cbc key nonce) mac
sealing_named Aes192Cbc key nonce mac = Block (Cbc key nonce) mac
sealing_named Aes256Cbc key nonce mac = Block (Cbc key nonce) mac

abbrev pub compression_name : compression.Name → List ℕ
compression_name compressions.None = codes "none"
