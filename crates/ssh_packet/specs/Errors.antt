-- An opening's refusal as a refusal of the transport.
use Rattle.ssh_wire.specs.declared.error.Error.{Error}
use Rattle.ssh_wire.specs.declared.error.Error.TheVariants as errors
use Rattle.ssh_packet.specs.declared.error.OpenError.{OpenError}
use Rattle.ssh_packet.specs.declared.error.OpenError.TheVariants.{PacketSize, IndexOutOfBounds, PacketAuth, DecryptionError, Disconnect}
use Rattle.ssh_packet.specs.Front as front
use Rattle.ssh_packet.specs.Front.{Fault}

abbrev pub error_of : OpenError → Error
error_of (PacketSize n) = errors.PacketSize n
error_of IndexOutOfBounds = errors.IndexOutOfBounds
error_of PacketAuth = errors.PacketAuth
error_of DecryptionError = errors.DecryptionError
error_of Disconnect = errors.Disconnect

-- what an opening answers for a fault
abbrev pub open_error : Fault → OpenError
open_error (front.PacketSize n) = PacketSize n
open_error front.PacketAuth = PacketAuth
open_error front.DecryptionError = DecryptionError
open_error front.IndexOutOfBounds = IndexOutOfBounds
