-- Refusals of a version line among those of the transport.
use Rattle.ssh_wire.specs.declared.error.Error.{Error}
use Rattle.ssh_wire.specs.declared.error.Error.TheVariants as errors
use Rattle.ssh_wire.specs.declared.error.IdError.{IdError}
use Rattle.ssh_wire.specs.declared.error.IdError.TheVariants.{Version, Disconnect, IO}

-- the transport's error of the same cause
abbrev pub error_of_id : IdError → Error
error_of_id Version = errors.Version
error_of_id Disconnect = errors.Disconnect
error_of_id IO = errors.IO
