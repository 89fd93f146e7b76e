-- What is true of all offers.
use Rattle.std.specs.Prelude.{◌≡◌, ℕ, ◌<◌, ◌≤◌, Bool, true, false, ◌||◌, List, length, map, Option, Some, None, Result, Ok, Err}
use Rattle.ssh_packet.specs.Sealing.{longest_payload}
use Rattle.ssh_wire.specs.Forms.{joined_names}
use Rattle.ssh_wire.specs.Names.{name_limit, name_list_limit}
use Rattle.ssh_wire.specs.declared.error.AlgorithmKind.{AlgorithmKind}
use Rattle.ssh_wire.specs.declared.error.AlgorithmKind.TheVariants.{Kex, Key, Cipher, Compression, Mac}
use Rattle.ssh_wire.specs.declared.side.Side.{Side}
use Rattle.ssh_wire.specs.declared.side.Side.TheVariants.{Client, Server}
use Rattle.ssh_negotiate.specs.Advertised.{Offers, kex_texts, key_texts, cipher_texts, mac_texts, compression_texts, kexinit}
use Rattle.ssh_negotiate.specs.Chosen.{chosen_names, without_extensions}
use Rattle.ssh_negotiate.specs.Reading.{KexinitFault, NoCommon, compared_kex, names_read, select}
use Rattle.ssh_negotiate.specs.Tables.{kex_text}
use Rattle.ssh_negotiate.specs.declared.negotiation.Names.{Names}

-- a list that can be advertised
pub record IsListed (texts : List (List ℕ)) : Type 0 where
  pub count : length texts ≤ name_limit
  pub size : length (joined_names texts) ≤ name_list_limit

-- all lists can be advertised
pub record IsWithin (o : Offers) : Type 0 where
  pub kex : IsListed (kex_texts o)
  pub key : IsListed (key_texts o)
  pub cipher : IsListed (cipher_texts o)
  pub mac : IsListed (mac_texts o)
  pub compression : IsListed (compression_texts o)

-- no list has more bytes than can be read
pub record AreShort (o : Offers) : Type 0 where
  pub kex : length (joined_names (kex_texts o)) ≤ name_list_limit
  pub key : length (joined_names (key_texts o)) ≤ name_list_limit
  pub cipher : length (joined_names (cipher_texts o)) ≤ name_list_limit
  pub mac : length (joined_names (mac_texts o)) ≤ name_list_limit
  pub compression : length (joined_names (compression_texts o)) ≤ name_list_limit

-- the lists of a kind that are compared: the own one, and the peer's
abbrev pub own_list : AlgorithmKind → Offers → List (List ℕ)
own_list Kex o = map kex_text (without_extensions o.kex)
own_list Key o = key_texts o
own_list Cipher o = cipher_texts o
own_list Mac o = mac_texts o
own_list Compression o = compression_texts o

abbrev pub peer_list : AlgorithmKind → Offers → List (List ℕ)
peer_list Kex o = compared_kex (kex_texts o)
peer_list Key o = key_texts o
peer_list Cipher o = cipher_texts o
peer_list Mac o = mac_texts o
peer_list Compression o = compression_texts o

-- at a later exchange of a strict connection the names are strict too
abbrev pub kept_strict : Bool → Names → Names
kept_strict still n = record n { strict_kex = still || n.strict_kex }

-- what a side answers for what both offers choose
abbrev pub side_answer : Bool → Offers → Offers → Result Names AlgorithmKind → Result Names KexinitFault
side_answer still own peer (Ok n) = Ok (kept_strict still n)
side_answer still own peer (Err kind) = Err (NoCommon kind (own_list kind own) (peer_list kind peer))

-- each side reads of the other's KEXINIT what both offers choose
abbrev pub NamesAgree : Type 0
NamesAgree = (client server : Offers) (still : Bool) (cookie : List ℕ) → IsWithin client → IsWithin server
    → length cookie ≡ 16 →
    (names_read Client client still (kexinit server cookie) ≡ side_answer still client server (chosen_names client server))
    × (names_read Server server still (kexinit client cookie) ≡ side_answer still server client (chosen_names client server))

-- a KEXINIT is short enough to be sent
abbrev pub ShortKexinit : Type 0
ShortKexinit = (o : Offers) (cookie : List ℕ) → AreShort o → length cookie ≡ 16
    → length (kexinit o cookie) < longest_payload

-- one choice: the flag, and the text of the name
abbrev pub choice_text : {A : Type 0} → (A → List ℕ) → Result (Bool × A) KexinitFault → Option (Bool × List ℕ)
choice_text text (Ok r) = Some (r.0, text r.1)
choice_text text (Err fault) = None

-- a client and a server that select from the same two lists make one choice
abbrev pub OneChoice : {A B : Type 0} → (A → List ℕ) → (B → List ℕ) → Type 0
OneChoice {A} {B} client_text server_text = (kind : AlgorithmKind) (client : List A) (server : List B) →
    choice_text client_text (select client_text Client kind client (map server_text server))
    ≡ choice_text server_text (select server_text Server kind server (map client_text client))

-- no guess is marked as dropped, and what was strict stays strict
pub record KeepsFlags (still : Bool) (n : Names) : Type 0 where
  pub unmarked : n.guessed_ignored ≡ false
  pub strict : still ≡ true → n.strict_kex ≡ true

-- every reading keeps the flags
abbrev pub ReadFlags : Type 0
ReadFlags = (side : Side) (own : Offers) (still : Bool) (payload : List ℕ) (n : Names)
    → names_read side own still payload ≡ Ok n → KeepsFlags still n

-- a KEXINIT as it is written marks no guess
abbrev pub FollowsNone : Type 0
FollowsNone = (side : Side) (own peer : Offers) (still : Bool) (cookie : List ℕ) (n : Names) → length cookie ≡ 16
    → IsWithin peer → names_read side own still (kexinit peer cookie) ≡ Ok n → n.ignore_guessed ≡ false

-- a reading, but for its strict flag
abbrev pub but_strict : Result Names KexinitFault → Result Names KexinitFault
but_strict (Ok n) = Ok (record n { strict_kex = false })
but_strict (Err fault) = Err fault

-- whether the connection was strict before touches nothing but the strict flag, and no refusal
abbrev pub ReadsAlike : Type 0
ReadsAlike = (side : Side) (own : Offers) (b c : Bool) (payload : List ℕ)
    → but_strict (names_read side own b payload) ≡ but_strict (names_read side own c payload)
