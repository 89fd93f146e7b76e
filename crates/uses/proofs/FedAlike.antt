-- A refusal of the reader stands at no packet that could be opened.
use Rattle.std.proofs.Common.{◌≡◌, Option, Some, None}
use Rattle.ssh_wire.specs.Lines.{IdFound}
use Rattle.ssh_wire.specs.declared.error.Error.{Error}
use Rattle.ssh_wire.specs.declared.error.Error.TheVariants as errors
use Rattle.ssh_rules.specs.Attacked.{AtSomePacket, EndsAsAnswered}
use Rattle.ssh_rules.specs.Handled.{AllRead, AtFault, AtPacket, Ending}
use Rattle.uses.specs.FedAlike.{IsByReader}

all_read : (ending : Ending) → ending ≡ AllRead → AtSomePacket ending → ⊥
all_read AllRead e (i, k) = cc
all_read (AtFault f) e (i, k) = cc
all_read (AtPacket j) e (i, k) = cc

at_fault : (ending : Ending) → AtSomePacket ending → (x : _) → ending ≡ AtFault x → ⊥
at_fault AllRead (i, k) x e = cc
at_fault (AtFault f) (i, k) x e = cc
at_fault (AtPacket j) (i, k) x e = cc

pub by_reader : (r : Option Error) (found : IdFound) (ending : Ending) → EndsAsAnswered r found ending → IsByReader r → AtSomePacket ending → ⊥
by_reader None found ending h b at = all_read ending h at
by_reader (Some errors.Version) found ending h b at = all_read ending h.1 at
by_reader (Some errors.PacketAuth) found ending h b at = at_fault ending at _ h
by_reader (Some errors.DecryptionError) found ending h b at = at_fault ending at _ h
by_reader (Some errors.IndexOutOfBounds) found ending h b at = at_fault ending at _ h
by_reader (Some (errors.PacketSize n)) found ending h b at = b
by_reader (Some errors.Disconnect) found ending h b at = b
by_reader (Some errors.KexInit) found ending h b at = b
by_reader (Some errors.Kex) found ending h b at = b
by_reader (Some errors.UnknownAlgo) found ending h b at = b
by_reader (Some errors.Inconsistent) found ending h b at = b
by_reader (Some errors.UnknownKey) found ending h b at = b
by_reader (Some errors.WrongServerSig) found ending h b at = b
by_reader (Some (errors.NoCommonAlgo kind ours theirs)) found ending h b at = b
by_reader (Some (errors.StrictKeyExchangeViolation message number)) found ending h b at = b
by_reader (Some errors.Signature) found ending h b at = b
by_reader (Some (errors.SshEncoding fault)) found ending h b at = b
by_reader (Some errors.IO) found ending h b at = b
by_reader (Some (errors.InvalidConfig fault)) found ending h b at = b
by_reader (Some errors.Memory) found ending h b at = b
