-- Where a wrong guess of the peer stands among the packets that a side reads, and the order of epoch 0.
use Rattle.std.specs.Prelude.{◌≡◌, ℕ, List, [], ◌∷◌, Bool, true, false, not, ◌&&◌, ◌==◌, Result, Ok, Err, if◌then◌else◌, ◌⊎◌}
use Rattle.ssh_packet.specs.Sealing.{Item}
use Rattle.ssh_packet.specs.Stream.{is_newkeys}
use Rattle.ssh_wire.specs.Sides.{other_side}
use Rattle.ssh_wire.specs.declared.side.Side.{Side}
use Rattle.ssh_wire.specs.declared.side.Side.TheVariants.{Client, Server}
use Rattle.ssh_negotiate.specs.declared.negotiation.Names.{Names}
use Rattle.ssh_kex.specs.declared.config.Config.{Config}
use Rattle.ssh_negotiate.specs.Reading.{KexinitFault, names_read}
use Rattle.ssh_rules.specs.MessageTypes.{type_of, is_kex_type, order}
use Rattle.ssh_kex.specs.Setting.{offers_of}

-- Where a guess stands (RFC 4253 section 7): before the KEXINIT of an exchange; behind it, where the next message of
-- the exchange is the guess; with none to come.
pub data Guess : Type 0 where
  BeforeKexinit : Guess
  GuessDue : Guess
  NoneFollows : Guess

-- what the names of a KEXINIT say of a guess to come
abbrev pub guess_of : Result Names KexinitFault → Guess
guess_of (Err e) = NoneFollows
guess_of (Ok n) = if n.ignore_guessed then GuessDue else NoneFollows

-- whether a packet is the guess that is dropped
abbrev pub is_guess : Guess → Item → Bool
is_guess GuessDue i = is_kex_type (type_of i)
is_guess BeforeKexinit i = false
is_guess NoneFollows i = false

-- where the guess stands behind one packet more
abbrev pub guess_next : Side → Config → Guess → Item → Guess
guess_next side config BeforeKexinit i =
    if type_of i == 20 then guess_of (names_read side (offers_of side config) false i.payload) else BeforeKexinit
guess_next side config GuessDue i = if is_kex_type (type_of i) then NoneFollows else GuessDue
guess_next side config NoneFollows i = if is_newkeys i then BeforeKexinit else NoneFollows

-- and behind some packets
abbrev pub guess_behind : Side → Config → Guess → List Item → Guess
guess_behind side config g [] = g
guess_behind side config g (i ∷ items) = guess_behind side config (guess_next side config g i) items

-- a packet of type 21 ends the epoch, but for a dropped guess
abbrev pub ends_epoch : Side → Config → List Item → Item → Bool
ends_epoch side config before i = is_newkeys i && not (is_guess (guess_behind side config BeforeKexinit before) i)

-- the packets without the dropped guesses
abbrev pub without_guesses : Side → Config → Guess → List Item → List Item
without_guesses side config g [] = []
without_guesses side config g (i ∷ items) =
    if is_guess g i then without_guesses side config (guess_next side config g i) items
    else i ∷ without_guesses side config (guess_next side config g i) items

-- the types that a guess may have under strict key exchange: those that may come behind a KEXINIT
abbrev pub MayGuess : Side → ℕ → Type 0
MayGuess Client g = g ≡ 31
MayGuess Server g = (g ≡ 30) ⊎ (g ≡ 34)

-- one type more, behind the first
abbrev pub behind_first : ℕ → List ℕ → List ℕ
behind_first g [] = []
behind_first g (t ∷ types) = t ∷ g ∷ types

-- What a side has read in epoch 0 under strict key exchange, by whether it dropped a guess: the other's messages in
-- order, and with a guess one message more behind the KEXINIT.
abbrev pub LegalOrder : Side → (kind dropped : Bool) → List ℕ → Type 0
LegalOrder side kind false types = types ≡ order (other_side side) kind
LegalOrder side kind true types = (g : ℕ) × MayGuess side g × (types ≡ behind_first g (order (other_side side) kind))
