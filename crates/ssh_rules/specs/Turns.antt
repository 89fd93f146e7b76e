-- A link by turns: one call on one side after another.
use Rattle.std.specs.Prelude.{◌≡◌, ℕ, false, List, [], ◌∷◌, ◌++◌}
use Rattle.ssh_wire.specs.declared.side.Side.{Side}
use Rattle.ssh_wire.specs.declared.side.Side.TheVariants.{Client, Server}
use Rattle.ssh_kex.specs.declared.config.Config.{Config}
use Rattle.ssh_wire.specs.Sides.{other_side}
use Rattle.ssh_kex.specs.Setting.{Says}
use Rattle.ssh_rules.specs.Machine.{SideState, Event, IdHeard, PayloadSubmitted, ExchangeBegun, AnswerSent, PayloadSent, MessageTaken, GuessDropped, PayloadDelivered, PacketDropped, ExchangeFinished, Steps, first_state}
use Rattle.ssh_rules.specs.Log.{sent_bytes, read_bytes}
use Rattle.ssh_rules.specs.Wire.{HasFront}
use Rattle.ssh_wire.specs.Lines.{id_text}

-- What a call on a side added: the bytes behind the id line that it was fed, and what it did.
pub record Turn : Type 0 where
  pub side : Side
  pub piece : List ℕ
  pub events : List Event

-- One side of a link so far. The id lines are left out.
pub record LinkEnd : Type 0 where
  pub state : SideState
  pub sent : List ℕ
  pub fed : List ℕ
  pub unfinished : List ℕ

-- both sides
pub record World : Type 0 where
  pub client : LinkEnd
  pub server : LinkEnd

-- a side at its start
abbrev pub first_end : LinkEnd
first_end = record { state = first_state; sent = []; fed = []; unfinished = [] }

-- a link at its start
abbrev pub first_world : World
first_world = record { client = first_end; server = first_end }

-- who talks
pub record Talkers : Type 1 where
  pub says : Side → Says
  pub config : Side → Config
  pub own_id : Side → List ℕ

-- the id that is heard is this one
abbrev pub HearsAs : List ℕ → List Event → Type 0
HearsAs text [] = Unit {0}
HearsAs text (IdHeard id ∷ es) = (id ≡ text) × HearsAs text es
HearsAs text (PayloadSubmitted p ∷ es) = HearsAs text es
HearsAs text (ExchangeBegun cause i ∷ es) = HearsAs text es
HearsAs text (AnswerSent i q ∷ es) = HearsAs text es
HearsAs text (PayloadSent i ∷ es) = HearsAs text es
HearsAs text (MessageTaken i ∷ es) = HearsAs text es
HearsAs text (GuessDropped i ∷ es) = HearsAs text es
HearsAs text (PayloadDelivered i ∷ es) = HearsAs text es
HearsAs text (PacketDropped i ∷ es) = HearsAs text es
HearsAs text (ExchangeFinished i x ∷ es) = HearsAs text es

-- a side goes on by a turn; what it was fed is a front of what the other sent
pub record TakesTurn (t : Talkers) (side : Side) (h : LinkEnd) (piece : List ℕ) (events : List Event) (peer : LinkEnd)
    (h' : LinkEnd) : Type 0 where
  pub steps : Steps (t.says side) side (t.config side) (t.own_id side) h.state events h'.state
  pub sends : h'.sent ≡ h.sent ++ sent_bytes side h.state.writing events
  pub takes : h'.fed ≡ h.fed ++ piece
  pub reads : h.unfinished ++ piece ≡ read_bytes side h.state.reading events ++ h'.unfinished
  pub honest : HasFront peer.sent h'.fed
  pub heard : HearsAs (t.own_id (other_side side)) events
  pub answered : h'.state.called ≡ false

-- one side goes on, and the other stays
abbrev pub PlaysTurn : Talkers → World → Side → List ℕ → List Event → World → Type 0
PlaysTurn t w Client piece events w' = TakesTurn t Client w.client piece events w.server w'.client
    × (w'.server ≡ w.server)
PlaysTurn t w Server piece events w' = TakesTurn t Server w.server piece events w.client w'.server
    × (w'.client ≡ w.client)

-- turns one after the other
abbrev pub Plays : Talkers → World → List Turn → World → Type 0
Plays t w [] w' = w' ≡ w
Plays t w (u ∷ turns) w' = (mid : World) × PlaysTurn t w u.side u.piece u.events mid × Plays t mid turns w'

-- two configurations, whose ids are said
abbrev pub talkers : (Side → Says) → (Side → Config) → Talkers
talkers says config = record { says = says; config = config; own_id = λ side. id_text (config side).id }
