-- The parts of reading and writing a KEXINIT, each as a function of what stands before it.
use Rattle.std.specs.Prelude.{◌≡◌, ℕ, Bool, false, not, ◌&&◌, List, Result, Ok, Err, ◌⊎◌}
use Rattle.ssh_packet.specs.declared.cipher.Name as ciphers
use Rattle.ssh_wire.specs.Fields.{text_at}
use Rattle.ssh_wire.specs.Names.{names_at}
use Rattle.ssh_wire.specs.declared.error.AlgorithmKind.TheVariants.{Key, Cipher, Compression}
use Rattle.ssh_wire.specs.declared.error.EncodingFault.{EncodingFault}
use Rattle.ssh_wire.specs.declared.error.Error.{Error}
use Rattle.ssh_wire.specs.declared.error.Error.TheVariants as errors
use Rattle.ssh_wire.specs.declared.side.Side.{Side}
use Rattle.ssh_negotiate.specs.Preferences.{Preferences}
use Rattle.ssh_negotiate.specs.Advertised.{Offers, host_text, cipher_text, compression_text}
use Rattle.ssh_negotiate.specs.Chosen.{◌>>=◌, names_with}
use Rattle.ssh_negotiate.specs.Reading.{KexinitFault, AnswersFault, field, select, select_mac, read_rest}
use Rattle.ssh_negotiate.specs.declared.kex.Name as kexes
use Rattle.ssh_negotiate.specs.declared.negotiation.HostName.{HostName}
use Rattle.ssh_negotiate.specs.declared.negotiation.Names.{Names}

-- what is offered, with these lists of key exchanges and host keys
abbrev pub with_lists : Preferences → List kexes.Name → List HostName → Offers
with_lists p kex key = record { kex = kex; key = key; cipher = p.cipher; mac = p.mac; compression = p.compression }

-- the refusal of a reading, or want of memory
abbrev pub RefusesReading : {A : Type 0} → Result A KexinitFault → Error → Type 0
RefusesReading read error = (error ≡ errors.Memory)
    ⊎ ((fault : KexinitFault) × (read ≡ Err fault) × AnswersFault fault error)

-- what was read at the front, with the bytes behind it
abbrev pub GivesFront : {A : Type 0} → Result (A × List ℕ) KexinitFault → Result A Error → List ℕ → Type 0
GivesFront read (Ok x) new = read ≡ Ok (x, new)
GivesFront read (Err error) new = RefusesReading read error

-- a field, what is made of it, and what follows with the bytes behind it
abbrev pub front_taken : {X A B : Type 0} → Result (X × List ℕ) EncodingFault → (X → Result A KexinitFault)
    → (A → List ℕ → Result B KexinitFault) → Result B KexinitFault
front_taken read made then' = field read λ x rest. made x >>= λ a. then' a rest

-- what was made, and the bytes behind it
abbrev pub with_rest : {A : Type 0} → A → List ℕ → Result (A × List ℕ) KexinitFault
with_rest a rest = Ok (a, rest)

-- both lists of compressions, and what stands behind them
abbrev pub compressions_part : Side → Preferences → (Bool → Names) → List ℕ → Result Names KexinitFault
compressions_part side p names bytes =
    front_taken (names_at bytes) (select compression_text side Compression p.compression) λ _ r.
    front_taken (names_at r) (select compression_text side Compression p.compression) λ _ s.
    read_rest s names

-- these names, where the guess is wrong if one follows and not both lists begin alike
abbrev pub with_guess : Names → Bool → Bool → Names
with_guess names both_first follows = record names { ignore_guessed = follows && not both_first }

-- both lists of MACs
abbrev pub macs_part : Side → Preferences → (Bool × kexes.Name) → (Bool × HostName) → ciphers.Name → Bool → List ℕ
    → Result Names KexinitFault
macs_part side p kex host cipher strict bytes =
    front_taken (names_at bytes) (select_mac side cipher p.mac) λ client_mac r.
    front_taken (names_at r) (select_mac side cipher p.mac) λ server_mac s.
    compressions_part side p (with_guess (names_with kex.1 host.1 cipher client_mac server_mac false strict) (kex.0 && host.0)) s

-- both lists of ciphers, of which the second is a text
abbrev pub ciphers_part : Side → Preferences → (Bool × kexes.Name) → (Bool × HostName) → Bool → List ℕ
    → Result Names KexinitFault
ciphers_part side p kex host strict bytes =
    front_taken (names_at bytes) (select cipher_text side Cipher p.cipher) λ cipher r.
    field (text_at r) λ _ s.
    macs_part side p kex host cipher.1 strict s

-- the list of host keys
abbrev pub hosts_part : Side → Preferences → List HostName → (Bool × kexes.Name) → Bool → List ℕ
    → Result Names KexinitFault
hosts_part side p hosts kex strict bytes =
    front_taken (names_at bytes) (select host_text side Key hosts) λ host r.
    ciphers_part side p kex host strict r
