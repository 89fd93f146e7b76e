-- The words of what is printed, a refusal, and a script's fault.
use Rattle.std.specs.Prelude.{◌≡◌, ℕ, List, [], ◌∷◌, ◌++◌, codes, refl}
use Rattle.std.specs.Fmt.{decimal, digits}
use Rattle.std.specs.List.{join_with_byte}
use Rattle.hex.specs.Hex.{encode_lower}
use Rattle.ssh_wire.specs.declared.side.Side.{Side}
use Rattle.ssh_wire.specs.declared.side.Side.TheVariants.{Client, Server}
use Rattle.ssh_wire.specs.declared.error.AlgorithmKind.{AlgorithmKind}
use Rattle.ssh_wire.specs.declared.error.AlgorithmKind.TheVariants as kind
use Rattle.ssh_wire.specs.declared.error.ConfigFault.{ConfigFault}
use Rattle.ssh_wire.specs.declared.error.ConfigFault.TheVariants as config
use Rattle.ssh_wire.specs.declared.error.EncodingFault.{EncodingFault}
use Rattle.ssh_wire.specs.declared.error.EncodingFault.TheVariants as encoding
use Rattle.ssh_wire.specs.declared.error.Error.{Error}
use Rattle.ssh_wire.specs.declared.error.Error.TheVariants as error
use Rattle.ssh_lines.specs.declared.script.ScriptFault.{ScriptFault}
use Rattle.ssh_lines.specs.declared.script.ScriptKind.{ScriptKind}
use Rattle.ssh_lines.specs.declared.script.ScriptKind.TheVariants as script

-- SIDE
abbrev pub side_name : Side → List ℕ
side_name Client = codes "client"
side_name Server = codes "server"

-- HEX: lower-case hex digits, or `-` for no bytes
abbrev pub hex_word : List ℕ → List ℕ
hex_word [] = codes "-"
hex_word (b ∷ rest) = encode_lower (b ∷ rest)

-- the names of the kinds of algorithm
abbrev pub kind_name : AlgorithmKind → List ℕ
kind_name kind.Kex = codes "Kex"
kind_name kind.Key = codes "Key"
kind_name kind.Cipher = codes "Cipher"
kind_name kind.Compression = codes "Compression"
kind_name kind.Mac = codes "Mac"

-- the names of the faults of a field
abbrev pub encoding_name : EncodingFault → List ℕ
encoding_name encoding.Length = codes "Length"
encoding_name encoding.CharacterEncoding = codes "CharacterEncoding"
encoding_name encoding.MpintEncoding = codes "MpintEncoding"
encoding_name encoding.TrailingData = codes "TrailingData"

-- the names of the faults of a configuration
abbrev pub config_name : ConfigFault → List ℕ
config_name config.Id = codes "Id"
config_name config.Limit = codes "Limit"
config_name config.GroupSizes = codes "GroupSizes"
config_name config.KexNone = codes "KexNone"
config_name config.NameList = codes "NameList"
config_name config.HostBlob = codes "HostBlob"

-- LIST: names with commas between, or `-` for none
abbrev pub names_word : List (List ℕ) → List ℕ
names_word [] = codes "-"
names_word (name ∷ names) = join_with_byte 44 (name ∷ names)

-- a refusal: its name, and what it carries
abbrev pub error_text : Error → List ℕ
error_text error.KexInit = codes "KexInit"
error_text error.UnknownAlgo = codes "UnknownAlgo"
error_text (error.NoCommonAlgo kind ours theirs) = codes "NoCommonAlgo " ++ kind_name kind ++ codes " ours "
    ++ names_word ours.0.items ++ codes " theirs " ++ names_word theirs.0.items
error_text error.Version = codes "Version"
error_text error.Kex = codes "Kex"
error_text error.PacketAuth = codes "PacketAuth"
error_text error.Inconsistent = codes "Inconsistent"
error_text error.IndexOutOfBounds = codes "IndexOutOfBounds"
error_text error.UnknownKey = codes "UnknownKey"
error_text error.WrongServerSig = codes "WrongServerSig"
error_text (error.PacketSize size) = codes "PacketSize " ++ decimal size
error_text error.Disconnect = codes "Disconnect"
error_text error.DecryptionError = codes "DecryptionError"
error_text error.IO = codes "IO"
error_text (error.StrictKeyExchangeViolation message_type sequence_number) =
    codes "StrictKeyExchangeViolation " ++ decimal message_type ++ codes " " ++ decimal sequence_number
error_text error.Signature = codes "Signature"
error_text (error.SshEncoding fault) = codes "SshEncoding " ++ encoding_name fault
error_text (error.InvalidConfig fault) = codes "InvalidConfig " ++ config_name fault
error_text error.Memory = codes "Memory"

size-example : error_text (error.PacketSize 262158) ≡ codes "PacketSize 262158"
unfolding digits
size-example = refl

-- the names of the kinds of a script's fault
abbrev pub script_kind_name : ScriptKind → List ℕ
script_kind_name script.NotBuilt = codes "NotBuilt"
script_kind_name script.Malformed = codes "Malformed"
script_kind_name script.TooLong = codes "TooLong"

-- the line that tells a script's fault
abbrev pub fault_line : ScriptFault → List ℕ
fault_line fault = codes "script " ++ decimal fault.line ++ codes " " ++ script_kind_name fault.kind ++ codes "\n"

-- the line that tells a refusal
abbrev pub refusal_line : Error → List ℕ
refusal_line e = codes "refused " ++ error_text e ++ codes "\n"

fault-example : fault_line (record { line = 1; kind = script.NotBuilt }) ≡ codes "script 1 NotBuilt\n"
unfolding digits
fault-example = refl
