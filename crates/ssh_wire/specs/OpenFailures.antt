-- Why a channel isn't opened (RFC 4254 section 5.1).
use Rattle.std.specs.Prelude.{◌≡◌, ℕ, ◌==◌, List, codes, if◌then◌else◌, refl}
use Rattle.std.specs.Fmt.{digits}
use Rattle.ssh_wire.specs.FailureTexts.{unknown_text}
use Rattle.ssh_wire.specs.declared.open_failure.ChannelOpenFailure.{ChannelOpenFailure}
use Rattle.ssh_wire.specs.declared.open_failure.ChannelOpenFailure.TheVariants.{AdministrativelyProhibited, ConnectFailed, UnknownChannelType, ResourceShortage, Other}

abbrev pub failure_code : ChannelOpenFailure → ℕ
failure_code AdministrativelyProhibited = 1
failure_code ConnectFailed = 2
failure_code UnknownChannelType = 3
failure_code ResourceShortage = 4
failure_code (Other code reason) = code

abbrev pub failure_text : ChannelOpenFailure → List ℕ
failure_text AdministrativelyProhibited = codes "Administratively prohibited"
failure_text ConnectFailed = codes "Connect failed"
failure_text UnknownChannelType = codes "Unknown channel type"
failure_text ResourceShortage = codes "Resource shortage"
failure_text (Other code reason) = reason

abbrev pub failure_of : ℕ → ChannelOpenFailure
failure_of code =
    if code == 1 then AdministrativelyProhibited
    else if code == 2 then ConnectFailed
    else if code == 3 then UnknownChannelType
    else if code == 4 then ResourceShortage
    else Other code (unknown_text code)

unknown-example : failure_of 9 ≡ Other 9 (codes "Unknown code 9")
unfolding digits
unknown-example = refl
