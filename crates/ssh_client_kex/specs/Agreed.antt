-- A reply whose signature can't be read: a secret was agreed on before.
use Rattle.std.specs.Prelude.{◌≡◌, List, ℕ, Option, Some, None, Ok}
use Rattle.ssh_packet.specs.declared.reader.Incoming.{Incoming}
use Rattle.ssh_wire.specs.declared.error.EncodingFault.{EncodingFault}
use Rattle.ssh_wire.specs.declared.error.Error.{Error}
use Rattle.ssh_wire.specs.declared.error.Error.TheVariants.{SshEncoding}
use Rattle.ssh_kex.specs.Fields.{ReplyFront, fields, reply_front}
use Rattle.ssh_kex.specs.Setting.{Says, group_of}
use Rattle.ssh_kex.specs.Stages.{Stage, Created, AwaitsGroup, AwaitsReply, AwaitsRequest, AwaitsValue, AwaitsNewkeys}

-- SshEncoding of what is behind a reply's front comes once a secret is made of the server's value
abbrev pub MakesFirst : (List ℕ → List ℕ → Type 0) → List ℕ → Error → Type 0
MakesFirst Makes payload error = (fault : EncodingFault) (front : ReplyFront) → error ≡ SshEncoding fault
    → reply_front (fields payload) ≡ Ok front → (secret : List ℕ) × Makes front.value secret

-- so a client that awaits a reply has agreed with the server's value
abbrev pub AgreesFirst : Says → Stage → Option Incoming → Error → Type 0
AgreesFirst says stage None error = Unit {0}
AgreesFirst says (Created own) (Some i) error = Unit {0}
AgreesFirst says (AwaitsGroup o) (Some i) error = Unit {0}
AgreesFirst says (AwaitsReply o gex local public) (Some i) error = MakesFirst (λ value secret.
    says.client_makes o.names.kex (group_of gex) local public
    → says.agrees o.names.kex (group_of gex) public value secret) i.payload.now error
AgreesFirst says (AwaitsRequest o) (Some i) error = Unit {0}
AgreesFirst says (AwaitsValue o gex) (Some i) error = Unit {0}
AgreesFirst says (AwaitsNewkeys exchange made host) (Some i) error = Unit {0}
