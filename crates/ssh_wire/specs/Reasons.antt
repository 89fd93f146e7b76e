-- Why a connection is ended (RFC 4253 section 11.1).
use Rattle.std.specs.Prelude.{◌≡◌, ℕ, ◌<◌, ◌⊎◌, Result, Ok, Err}
use Rattle.ssh_wire.specs.declared.disconnect.Disconnect.{Disconnect}
use Rattle.ssh_wire.specs.declared.disconnect.Disconnect.TheVariants.{HostNotAllowedToConnect, ProtocolError, KeyExchangeFailed, Reserved, MACError, CompressionError, ServiceNotAvailable, ProtocolVersionNotSupported, HostKeyNotVerifiable, ConnectionLost, ByApplication, TooManyConnections, AuthCancelledByUser, NoMoreAuthMethodsAvailable, IllegalUserName}
use Rattle.ssh_wire.specs.declared.error.Error.{Error}
use Rattle.ssh_wire.specs.declared.error.Error.TheVariants.{Inconsistent}

-- the code of a reason
abbrev pub reason_code : Disconnect → ℕ
reason_code HostNotAllowedToConnect = 1
reason_code ProtocolError = 2
reason_code KeyExchangeFailed = 3
reason_code Reserved = 4
reason_code MACError = 5
reason_code CompressionError = 6
reason_code ServiceNotAvailable = 7
reason_code ProtocolVersionNotSupported = 8
reason_code HostKeyNotVerifiable = 9
reason_code ConnectionLost = 10
reason_code ByApplication = 11
reason_code TooManyConnections = 12
reason_code AuthCancelledByUser = 13
reason_code NoMoreAuthMethodsAvailable = 14
reason_code IllegalUserName = 15

-- the reason with the code, or none has it
abbrev pub IsReasonOf : ℕ → Result Disconnect Error → Type 0
IsReasonOf code (Ok reason) = reason_code reason ≡ code
IsReasonOf code (Err e) = (e ≡ Inconsistent) × ((code < 1) ⊎ (15 < code))
