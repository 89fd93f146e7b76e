-- What errors print.
use Rattle.std.specs.Prelude.{ℕ, List, ◌++◌, codes, decimal}
use Rattle.ssh_wire.specs.declared.error.Error.{Error}
use Rattle.ssh_wire.specs.declared.error.Error.TheVariants.{KexInit, UnknownAlgo, NoCommonAlgo, Version, Kex, PacketAuth, Inconsistent, IndexOutOfBounds, UnknownKey, WrongServerSig, PacketSize, Disconnect, DecryptionError, IO, StrictKeyExchangeViolation, Signature, SshEncoding, InvalidConfig, Memory}

-- the text of an error
abbrev pub error_message : Error → List ℕ
error_message KexInit = codes "Key exchange init failed"
error_message UnknownAlgo = codes "Unknown algorithm"
error_message (NoCommonAlgo kind ours theirs) = codes "No common algorithm"
error_message Version = codes "invalid SSH version string"
error_message Kex = codes "Key exchange failed"
error_message PacketAuth = codes "Wrong packet authentication code"
error_message Inconsistent = codes "Inconsistent state of the protocol"
error_message IndexOutOfBounds = codes "Index out of bounds"
error_message UnknownKey = codes "Unknown server key"
error_message WrongServerSig = codes "Wrong server signature"
error_message (PacketSize n) = codes "Bad packet size: " ++ decimal n
error_message Disconnect = codes "Disconnected"
error_message DecryptionError = codes "Failed to decrypt a packet"
error_message IO = codes "IO"
error_message (StrictKeyExchangeViolation message place) = codes "Violation detected during strict key exchange, message " ++ (decimal message ++ (codes " at seq no " ++ decimal place))
error_message Signature = codes "Signature"
error_message (SshEncoding fault) = codes "SshEncoding"
error_message (InvalidConfig fault) = codes "Invalid config"
error_message Memory = codes "Want of memory"
