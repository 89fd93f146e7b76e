-- How a side reads the other's KEXINIT: field by field, the first refusal deciding (RFC 4253 section 7.1).
use Rattle.std.specs.Prelude.{◌≡◌, ℕ, Bool, false, not, ◌&&◌, ◌||◌, ◌==◌, nat_lt, if◌then◌else◌, List, [], ◌∷◌, length, codes, drop, map, filter, find, Option, Some, None, Result, Ok, Err, ◌⊎◌}
use Rattle.std.specs.List.{list_any}
use Rattle.std.specs.Str.{bytes_eq}
use denote.Ref.{Bor}
use Rattle.ssh_mac.specs.declared.mac.Name as macs
use Rattle.ssh_packet.specs.declared.cipher.Name as ciphers
use Rattle.ssh_wire.specs.Fields.{byte_at, u32_at, text_at}
use Rattle.ssh_wire.specs.Names.{names_at}
use Rattle.ssh_wire.specs.Sides.{other_side}
use Rattle.ssh_wire.specs.declared.name_list.NameList.{NameList}
use Rattle.ssh_wire.specs.declared.error.AlgorithmKind.{AlgorithmKind}
use Rattle.ssh_wire.specs.declared.error.AlgorithmKind.TheVariants.{Kex, Key, Cipher, Compression, Mac}
use Rattle.ssh_wire.specs.declared.error.EncodingFault.{EncodingFault}
use Rattle.ssh_wire.specs.declared.error.EncodingFault.TheVariants.{TrailingData}
use Rattle.ssh_wire.specs.declared.error.Error.{Error}
use Rattle.ssh_wire.specs.declared.error.Error.TheVariants as errors
use Rattle.ssh_wire.specs.declared.side.Side.{Side}
use Rattle.ssh_wire.specs.declared.side.Side.TheVariants.{Client, Server}
use Rattle.ssh_negotiate.specs.Preferences.{Preferences, Hosts}
use Rattle.rand_core.specs.Stream.{Stream, fill_bytes}
use Rattle.ssh_negotiate.specs.Advertised.{Offers, offers, kexinit, host_text, cipher_text, mac_text, compression_text}
use Rattle.ssh_negotiate.specs.Chosen.{◌>>=◌, or_err, without_extensions, asks, mac_under, names_with}
use Rattle.ssh_negotiate.specs.Tables.{kex_text, extension_names}
use Rattle.ssh_negotiate.specs.declared.kex.Name as kexes
use Rattle.ssh_negotiate.specs.declared.kex.Name.TheVariants.{StrictC, StrictS}
use Rattle.ssh_negotiate.specs.declared.negotiation.Names.{Names}

-- why a KEXINIT is refused
pub data KexinitFault : Type 0 where
  Inconsistent : KexinitFault
  Encoding : (fault : EncodingFault) → KexinitFault
  NoCommon : (kind : AlgorithmKind) (ours theirs : List (List ℕ)) → KexinitFault

-- ---- one choice

-- the own name that has a text
abbrev pub own_with : {A : Type 0} → (A → List ℕ) → List A → Option (List ℕ) → Option A
own_with text own None = None
own_with text own (Some t) = find (λ a. bytes_eq t (text a)) own

-- the first name of the client's list that the server's list holds, from the own list and the texts of the peer's
unfoldable pub common : {A : Type 0} → (A → List ℕ) → Side → List A → List (List ℕ) → Option A
common text Client own peer = find (λ a. list_any (bytes_eq (text a)) peer) own
common text Server own peer = own_with text own (find (λ t. list_any (λ a. bytes_eq t (text a)) own) peer)

-- whether both lists begin with one name
abbrev pub same_first : List (List ℕ) → List (List ℕ) → Bool
same_first (a ∷ own) (b ∷ peer) = bytes_eq a b
same_first (a ∷ own) [] = false
same_first [] peer = false

-- the choice of a kind, and whether both sides name it first
unfoldable pub select : {A : Type 0} → (A → List ℕ) → Side → AlgorithmKind → List A → List (List ℕ)
    → Result (Bool × A) KexinitFault
select text side kind own peer =
    or_err (NoCommon kind (map text own) peer) (common text side own peer) >>= λ a. Ok (same_first (map text own) peer, a)

abbrev pub is_extension_text : List ℕ → Bool
is_extension_text text = list_any (λ n. bytes_eq text (kex_text n)) extension_names

-- what of the peer's list of key exchanges is compared: all but the extension names
unfoldable pub compared_kex : List (List ℕ) → List (List ℕ)
compared_kex texts = filter (λ t. not (is_extension_text t)) texts

-- a choice of MACs under a cipher
abbrev pub select_mac : Side → ciphers.Name → List macs.Name → List (List ℕ) → Result macs.Name KexinitFault
select_mac side cipher own peer = or_err (NoCommon Mac (map mac_text own) peer) (mac_under cipher (common mac_text side own peer))

-- the name by which a side asks for strict key exchange
abbrev pub strict_name : Side → kexes.Name
strict_name Client = StrictC
strict_name Server = StrictS

-- both sides ask for it
abbrev pub both_strict : Side → Offers → List (List ℕ) → Bool
both_strict side own peer = asks own.kex (strict_name side) && list_any (bytes_eq (kex_text (strict_name (other_side side)))) peer

-- ---- the fields

-- a field, and what is made of it and of the bytes behind it
unfoldable pub field : {X A : Type 0} → Result (X × List ℕ) EncodingFault → (X → List ℕ → Result A KexinitFault)
    → Result A KexinitFault
field (Ok x) then' = then' x.0 x.1
field (Err fault) then' = Err (Encoding fault)

abbrev pub at_end : {A : Type 0} → List ℕ → A → Result A KexinitFault
at_end [] x = Ok x
at_end (b ∷ bytes) x = Err (Encoding TrailingData)

-- two languages, whether a guess follows, a uint32 of any value, the end
unfoldable pub read_rest : {A : Type 0} → List ℕ → (Bool → A) → Result A KexinitFault
read_rest bytes names =
    field (text_at bytes) λ _ r.
    field (text_at r) λ _ s.
    field (byte_at s) λ follows t.
    field (u32_at t) λ _ u.
    at_end u (names (not (follows == 0)))

-- the fields behind the cookie
unfoldable pub read_fields : Side → Offers → Bool → List ℕ → Result Names KexinitFault
read_fields side own still_strict bytes =
    field (names_at bytes) λ kex_list r1.
    select kex_text side Kex (without_extensions own.kex) (compared_kex kex_list) >>= λ kex.
    field (names_at r1) λ key_list r2.
    select host_text side Key own.key key_list >>= λ host.
    field (names_at r2) λ to_server r3.
    select cipher_text side Cipher own.cipher to_server >>= λ cipher.
    field (text_at r3) λ _ r4.
    field (names_at r4) λ macs_to_server r5.
    select_mac side cipher.1 own.mac macs_to_server >>= λ client_mac.
    field (names_at r5) λ macs_to_client r6.
    select_mac side cipher.1 own.mac macs_to_client >>= λ server_mac.
    field (names_at r6) λ compressions_to_server r7.
    select compression_text side Compression own.compression compressions_to_server >>= λ _.
    field (names_at r7) λ compressions_to_client r8.
    select compression_text side Compression own.compression compressions_to_client >>= λ _.
    read_rest r8 λ follows.
    names_with kex.1 host.1 cipher.1 client_mac server_mac (follows && not (kex.0 && host.0)) (still_strict || both_strict side own kex_list)

-- The names that a side takes from the other's KEXINIT; `still_strict` where this is a later exchange of a strict
-- connection. The number and the cookie are not looked at.
unfoldable pub names_read : Side → Offers → Bool → List ℕ → Result Names KexinitFault
names_read side own still_strict payload = if nat_lt (length payload) 17 then Err Inconsistent else read_fields side own still_strict (drop 17 payload)

-- ---- extension info

-- whether a list that was read holds a name; a list with a fault holds none
abbrev pub is_held : List ℕ → Result (List (List ℕ) × List ℕ) EncodingFault → Bool
is_held name (Ok x) = list_any (bytes_eq name) x.0
is_held name (Err fault) = false

-- whether the list of key exchanges of a KEXINIT holds `ext-info-c`, by which a client asks for extension info (RFC 8308
-- section 2.1). It is false of a payload without such a list. Nothing else of the payload is looked at.
unfoldable pub names_extension_info : List ℕ → Bool
names_extension_info payload = is_held (codes "ext-info-c") (names_at (drop 17 payload))

-- ---- answers

-- the refusal that answers a fault
abbrev pub AnswersFault : KexinitFault → Error → Type 0
AnswersFault Inconsistent error = error ≡ errors.Inconsistent
AnswersFault (Encoding fault) error = error ≡ errors.SshEncoding fault
AnswersFault (NoCommon kind ours theirs) error = (own peer : NameList) × (error ≡ errors.NoCommonAlgo kind own peer)
    × (own.0.items ≡ ours) × (peer.0.items ≡ theirs)

abbrev pub AnswersReading : {A : Type 0} → Result A KexinitFault → Result A Error → Type 0
AnswersReading read (Ok x) = read ≡ Ok x
AnswersReading read (Err error) = (error ≡ errors.Memory)
    ⊎ ((fault : KexinitFault) × (read ≡ Err fault) × AnswersFault fault error)

-- the refusal of a kind without a common name, or want of memory
abbrev pub IsKindRefusal : AlgorithmKind → List (List ℕ) → List (List ℕ) → Error → Type 0
IsKindRefusal kind ours theirs error = (error ≡ errors.Memory) ⊎ AnswersFault (NoCommon kind ours theirs) error

-- ---- what is written

-- whose KEXINIT it is: a server's, where its keys are given
abbrev pub kexinit_side : Option Hosts → Side
kexinit_side None = Client
kexinit_side (Some hosts) = Server

abbrev pub own_hosts : Option Hosts → Hosts
own_hosts None = record { keys = []; certificates = [] }
own_hosts (Some hosts) = hosts

-- what is offered
abbrev pub offered_by : Preferences → Option Hosts → Offers
offered_by preferences hosts = offers (kexinit_side hosts) preferences (own_hosts hosts)

-- what is handed in as a slice, or not at all
abbrev pub slice_list : {A : Type 0} → Option (Bor (List A)) → Option (List A)
slice_list None = None
slice_list (Some s) = Some s.now

-- the cookie is the next 16 bytes of a generator
abbrev pub cookie_from : Stream → List ℕ
cookie_from stream = (fill_bytes 16 stream).0

abbrev pub behind_cookie : Stream → Stream
behind_cookie stream = (fill_bytes 16 stream).1

-- the KEXINIT that is written, with the cookie that is drawn
abbrev pub kexinit_drawn : Preferences → Option Hosts → Stream → List ℕ
kexinit_drawn preferences hosts stream = kexinit (offered_by preferences hosts) (cookie_from stream)
