-- What a key of the code seals under, and what it opens with.
use Rattle.ssh_aes.specs.States.{ctr_running, cbc_running}
use Rattle.ssh_mac.specs.Keys.{mac_of}
use Rattle.ssh_packet.specs.Sealing as sealing
use Rattle.ssh_packet.specs.Sealing.{Sealing}
use Rattle.ssh_packet.specs.declared.keys.SealKey.{SealKey}
use Rattle.ssh_packet.specs.declared.keys.SealKey.TheVariants as seal
use Rattle.ssh_packet.specs.declared.keys.OpenKey.{OpenKey}
use Rattle.ssh_packet.specs.declared.keys.OpenKey.TheVariants as open_key

abbrev pub sealing_of : SealKey → Sealing
sealing_of (seal.Clear key) = sealing.Clear
sealing_of (seal.Ctr key) = sealing.Block (ctr_running key.cipher) (mac_of key.mac)
sealing_of (seal.Cbc key) = sealing.Block (cbc_running key.cipher) (mac_of key.mac)
sealing_of (seal.Gcm key) = sealing.Gcm key.cipher key.nonce

abbrev pub opening_of : OpenKey → Sealing
opening_of (open_key.Clear key) = sealing.Clear
opening_of (open_key.Ctr key) = sealing.Block (ctr_running key.cipher) (mac_of key.mac)
opening_of (open_key.Cbc key) = sealing.Block (cbc_running key.cipher) (mac_of key.mac)
opening_of (open_key.Gcm key) = sealing.Gcm key.cipher key.nonce
