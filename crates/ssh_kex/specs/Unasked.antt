-- Messages of which no part is asked.
use Rattle.std.specs.Prelude.{Bool, true, false, not, is_ok, Option, Some, None, Result, Ok, Err}
use Rattle.ssh_packet.specs.declared.reader.Incoming.{Incoming}
use Rattle.ssh_wire.specs.declared.error.Error.{Error}
use Rattle.ssh_wire.specs.declared.error.Error.TheVariants as errors
use Rattle.ssh_kex.specs.Fields.{fields, reply_front}
use Rattle.ssh_kex.specs.Stages.{Stage, Created, AwaitsGroup, AwaitsReply, AwaitsRequest, AwaitsValue, AwaitsNewkeys, Machine}
use Rattle.ssh_kex.specs.declared.progress.KexProgress.{KexProgress}
use Rattle.ssh_kex.specs.declared.progress.KexProgress.TheVariants.{NeedsReply, Done}

-- whether a message is a reply whose host and value can be read: behind these the agreement is asked, and then the
-- signature is read
abbrev pub has_front : Stage → Option Incoming → Bool
has_front stage None = false
has_front (Created own) (Some i) = false
has_front (AwaitsGroup o) (Some i) = false
has_front (AwaitsReply o gex local public) (Some i) = is_ok (reply_front (fields i.payload.now))
has_front (AwaitsRequest o) (Some i) = false
has_front (AwaitsValue o gex) (Some i) = false
has_front (AwaitsNewkeys exchange made host) (Some i) = false

-- errors of a message that is refused before a part is asked: SshEncoding is one, but of what is read behind a front
abbrev pub is_early : Bool → Error → Bool
is_early front errors.KexInit = true
is_early front errors.UnknownAlgo = true
is_early front (errors.NoCommonAlgo kind ours theirs) = true
is_early front errors.Version = false
is_early front errors.Kex = false
is_early front errors.PacketAuth = false
is_early front errors.Inconsistent = true
is_early front errors.IndexOutOfBounds = false
is_early front errors.UnknownKey = false
is_early front errors.WrongServerSig = false
is_early front (errors.PacketSize n) = false
is_early front errors.Disconnect = false
is_early front errors.DecryptionError = false
is_early front errors.IO = false
is_early front (errors.StrictKeyExchangeViolation type place) = true
is_early front errors.Signature = false
is_early front (errors.SshEncoding fault) = not front
is_early front (errors.InvalidConfig fault) = false
is_early front errors.Memory = false

-- answers before which no part is asked: these errors, and the end of an exchange
abbrev pub asks_nobody : Bool → Result (KexProgress Machine) Error → Bool
asks_nobody front (Ok (NeedsReply kex reset)) = false
asks_nobody front (Ok (Done host newkeys)) = true
asks_nobody front (Err error) = is_early front error

-- errors of a message that is refused before a host key is asked: the agreement and the lookup are asked earlier, so
-- their refusal is one
abbrev pub is_unjudged : Error → Bool
is_unjudged errors.KexInit = true
is_unjudged errors.UnknownAlgo = true
is_unjudged (errors.NoCommonAlgo kind ours theirs) = true
is_unjudged errors.Version = false
is_unjudged errors.Kex = true
is_unjudged errors.PacketAuth = false
is_unjudged errors.Inconsistent = true
is_unjudged errors.IndexOutOfBounds = false
is_unjudged errors.UnknownKey = false
is_unjudged errors.WrongServerSig = false
is_unjudged (errors.PacketSize n) = false
is_unjudged errors.Disconnect = false
is_unjudged errors.DecryptionError = false
is_unjudged errors.IO = false
is_unjudged (errors.StrictKeyExchangeViolation type place) = true
is_unjudged errors.Signature = false
is_unjudged (errors.SshEncoding fault) = true
is_unjudged (errors.InvalidConfig fault) = false
is_unjudged errors.Memory = false

-- answers before which no host key is asked: these errors, and the end of an exchange
abbrev pub asks_no_host : Result (KexProgress Machine) Error → Bool
asks_no_host (Ok (NeedsReply kex reset)) = false
asks_no_host (Ok (Done host newkeys)) = true
asks_no_host (Err error) = is_unjudged error
