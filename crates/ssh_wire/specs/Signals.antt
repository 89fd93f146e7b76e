-- Signals and their names (RFC 4254 section 6.10).
use Rattle.std.specs.Prelude.{◌≡◌, ℕ, List, codes, Option, Some, None, if◌then◌else◌, unwrap_or, refl}
use Rattle.std.specs.Str.{bytes_eq}
use Rattle.ssh_wire.specs.declared.signal.Sig.{Sig}
use Rattle.ssh_wire.specs.declared.signal.Sig.TheVariants.{ABRT, ALRM, FPE, HUP, ILL, INT, KILL, PIPE, QUIT, SEGV, TERM, USR1, Custom}

abbrev pub sig_name : Sig → List ℕ
sig_name ABRT = codes "ABRT"
sig_name ALRM = codes "ALRM"
sig_name FPE = codes "FPE"
sig_name HUP = codes "HUP"
sig_name ILL = codes "ILL"
sig_name INT = codes "INT"
sig_name KILL = codes "KILL"
sig_name PIPE = codes "PIPE"
sig_name QUIT = codes "QUIT"
sig_name SEGV = codes "SEGV"
sig_name TERM = codes "TERM"
sig_name USR1 = codes "USR1"
sig_name (Custom name) = name

-- the twelve signals
abbrev pub known_sig : List ℕ → Option Sig
known_sig name =
    if bytes_eq name (codes "ABRT") then Some ABRT
    else if bytes_eq name (codes "ALRM") then Some ALRM
    else if bytes_eq name (codes "FPE") then Some FPE
    else if bytes_eq name (codes "HUP") then Some HUP
    else if bytes_eq name (codes "ILL") then Some ILL
    else if bytes_eq name (codes "INT") then Some INT
    else if bytes_eq name (codes "KILL") then Some KILL
    else if bytes_eq name (codes "PIPE") then Some PIPE
    else if bytes_eq name (codes "QUIT") then Some QUIT
    else if bytes_eq name (codes "SEGV") then Some SEGV
    else if bytes_eq name (codes "TERM") then Some TERM
    else if bytes_eq name (codes "USR1") then Some USR1
    else None

abbrev pub sig_named : List ℕ → Sig
sig_named name = unwrap_or (known_sig name) (Custom name)

known-example : sig_named (codes "USR1") ≡ USR1
known-example = refl

custom-example : sig_named (codes "X") ≡ Custom (codes "X")
custom-example = refl
