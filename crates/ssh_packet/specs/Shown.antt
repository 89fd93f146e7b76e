-- What is shown of a key: its kind, and no byte of it.
use Rattle.std.specs.Prelude.{ℕ, List, codes}
use Rattle.ssh_packet.specs.declared.keys.SealKey.{SealKey}
use Rattle.ssh_packet.specs.declared.keys.SealKey.TheVariants as seal
use Rattle.ssh_packet.specs.declared.keys.OpenKey.{OpenKey}
use Rattle.ssh_packet.specs.declared.keys.OpenKey.TheVariants as open_key

abbrev pub seal_kind : SealKey → List ℕ
seal_kind (seal.Clear key) = codes "Clear"
seal_kind (seal.Ctr key) = codes "Ctr"
seal_kind (seal.Cbc key) = codes "Cbc"
seal_kind (seal.Gcm key) = codes "Gcm"

abbrev pub open_kind : OpenKey → List ℕ
open_kind (open_key.Clear key) = codes "Clear"
open_kind (open_key.Ctr key) = codes "Ctr"
open_kind (open_key.Cbc key) = codes "Cbc"
open_kind (open_key.Gcm key) = codes "Gcm"
