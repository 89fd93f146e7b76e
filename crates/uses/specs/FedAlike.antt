-- Sides that were refused for no packet that they could open.
use Rattle.std.specs.Prelude.{Option, Some, None}
use Rattle.ssh_wire.specs.declared.error.Error.{Error}
use Rattle.ssh_wire.specs.declared.error.Error.TheVariants as errors

-- A side's first refusal, where there is one, is one of its reader: a wrong version line, or bytes of which no packet
-- is made. A size can be that of a packet which was read, so it isn't among them.
abbrev pub IsByReader : Option Error → Type 0
IsByReader None = Unit {0}
IsByReader (Some errors.Version) = Unit {0}
IsByReader (Some errors.PacketAuth) = Unit {0}
IsByReader (Some errors.DecryptionError) = Unit {0}
IsByReader (Some errors.IndexOutOfBounds) = Unit {0}
IsByReader (Some (errors.PacketSize n)) = ⊥
IsByReader (Some errors.Disconnect) = ⊥
IsByReader (Some errors.KexInit) = ⊥
IsByReader (Some errors.Kex) = ⊥
IsByReader (Some errors.UnknownAlgo) = ⊥
IsByReader (Some errors.Inconsistent) = ⊥
IsByReader (Some errors.UnknownKey) = ⊥
IsByReader (Some errors.WrongServerSig) = ⊥
IsByReader (Some (errors.NoCommonAlgo kind ours theirs)) = ⊥
IsByReader (Some (errors.StrictKeyExchangeViolation message number)) = ⊥
IsByReader (Some errors.Signature) = ⊥
IsByReader (Some (errors.SshEncoding fault)) = ⊥
IsByReader (Some errors.IO) = ⊥
IsByReader (Some (errors.InvalidConfig fault)) = ⊥
IsByReader (Some errors.Memory) = ⊥
