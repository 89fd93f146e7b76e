-- A reader's refusal under the clear key.
use Rattle.std.proofs.Common.{◌≡◌, inl, inr, Option, Result, Err, subst}
use Rattle.ssh_packet.specs.Front.{PacketSize, IndexOutOfBounds, PacketAuth, DecryptionError}
use Rattle.ssh_packet.specs.Reading.{LeavesNext, RefusesNext}
use Rattle.ssh_packet.specs.Reading.{Reader}
use Rattle.ssh_packet.specs.Sealing.{Sealing, Clear}
use Rattle.ssh_packet.specs.declared.error.OpenError.{OpenError}
use Rattle.ssh_packet.specs.declared.error.OpenError.TheVariants as errors
use Rattle.ssh_packet.specs.declared.reader.Incoming.{Incoming}
use Rattle.ssh_run.specs.Delivering.{RefusesFront}

refused_of : (old : Reader) (error : OpenError) → RefusesNext old Clear error → RefusesFront old
refused_of old (errors.PacketSize n) h = inr (PacketSize n, h.1)
refused_of old errors.IndexOutOfBounds h = inr (IndexOutOfBounds, h.1)
refused_of old errors.PacketAuth h = inr (PacketAuth, h.1)
refused_of old errors.DecryptionError h = inr (DecryptionError, h.1)
refused_of old errors.Disconnect h = inl h

pub is_refused : (old new : Reader) (key' : Sealing) (result : Result (Option Incoming) OpenError) (error : OpenError) → result ≡ Err error → LeavesNext old Clear key' result new → RefusesFront old
is_refused old new key' result error e h =
    let P : Result (Option Incoming) OpenError → Type 0 = λ r. LeavesNext old Clear key' r new in
    refused_of old error (subst P e h).0
