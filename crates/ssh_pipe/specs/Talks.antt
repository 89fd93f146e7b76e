-- What is done with one side of a connection, move by move, and what of it was written.
use Rattle.std.specs.Prelude.{◌≡◌, ◌⊎◌, ℕ, List, [], ◌∷◌, ◌++◌, map, Option, Some, true, false}
use Rattle.ssh_wire.specs.Outside.{Appends, Rose}
use Rattle.ssh_wire.specs.declared.error.ConfigFault.{ConfigFault}
use Rattle.ssh_wire.specs.declared.error.Error.{Error}
use Rattle.ssh_wire.specs.declared.error.Error.TheVariants as errors
use Rattle.ssh_wire.specs.declared.side.Side.{Side}
use Rattle.ssh_wire.specs.declared.side.Side.TheVariants.{Client}
use Rattle.ssh_kex.specs.Refusals.{Denies}
use Rattle.ssh_kex.specs.Setting.{Says}
use Rattle.ssh_kex.specs.declared.config.Config.{Config}
use Rattle.ssh_kex.specs.declared.exchange.FinishedExchange.{FinishedExchange}
use Rattle.ssh_kex.specs.declared.exchange.ServerHost.{ServerHost}
use Rattle.ssh_rules.specs.Parts.{Accepting, Trusting}
use Rattle.ssh_rules.specs.Refusing.{RefusesPiece}
use Rattle.ssh_rules.specs.Standing.{IsNew, RefusalCause, RefusesInput, Standing, Submitted, TakesInput, is_outside}
use Rattle.ssh_rules.specs.Valid.{config_fault}
use Rattle.ssh_pipe.specs.Desks.{AreReplies, DeskState, HasAnswered, IsSaid, first_of, first_said, reply_to, was_granted}
use Rattle.ssh_pipe.specs.Known.{IsSignedClient}
use Rattle.ssh_pipe.specs.declared.desk.Reply.{Reply}
use Rattle.ssh_pipe.specs.declared.desk.Reply.TheVariants as replies
use Rattle.ssh_pipe.specs.declared.end.TalkEnd.{TalkEnd}
use Rattle.ssh_pipe.specs.declared.end.TalkEnd.TheVariants.{Disconnected, Exhausted, Granted, InputEnded, NotServed, Refused, SinkFailed, SourceFailed}

-- A side is fed a piece, which it takes or refuses, or it is handed a payload to send: none that lets anyone in.
pub data Move : Type 0 where
  Fed : (piece : List ℕ) → Move
  FedLast : (piece : List ℕ) → Move
  Handed : (payload : List ℕ) → Move

-- what a move says of the sides before and behind it
abbrev pub MovesBy : Says → Standing → Move → Standing → Type 0
MovesBy says old (Fed piece) new = TakesInput says old piece new
MovesBy says old (FedLast piece) new = (cause : RefusalCause) × RefusesInput says old piece cause new
MovesBy says old (Handed payload) new = IsSaid payload × Submitted says old payload new

-- a move leads from a side to another; none is of a side that has failed
abbrev pub Moves : Says → Standing → Move → Standing → Type 0
Moves says old m new = (old.failed ≡ false) × MovesBy says old m new

-- moves, one after the other
abbrev pub Follows : Says → Standing → List Move → Standing → Type 0
Follows says old [] new = new ≡ old
Follows says old (m ∷ ms) new = (mid : Standing) × Moves says old m mid × Follows says mid ms new

-- what a side says first was submitted
abbrev pub SaysFirst : Says → Side → Standing → Standing → Type 0
SaysFirst says side old new = Follows says old (map Handed (first_said (first_of side))) new

-- the bytes that a move feeds
abbrev pub piece_of : Move → List ℕ
piece_of (Fed piece) = piece
piece_of (FedLast piece) = piece
piece_of (Handed payload) = []

-- the bytes that moves feed, in order
abbrev pub fed_in : List Move → List ℕ
fed_in [] = []
fed_in (m ∷ ms) = piece_of m ++ fed_in ms

-- the payloads that moves hand to a side, in order
abbrev pub said_in : List Move → List (List ℕ)
said_in [] = []
said_in (Fed piece ∷ ms) = said_in ms
said_in (FedLast piece ∷ ms) = said_in ms
said_in (Handed payload ∷ ms) = payload ∷ said_in ms

-- a side as if these bytes of its output had not been taken from it, nor these payloads of what was delivered
abbrev pub untouched : (sent : List ℕ) → (answered : List (List ℕ)) → Standing → Standing
untouched sent answered t = record t { output = sent ++ t.output; delivered = answered ++ t.delivered }

-- A side went from one standing to another: it was fed these bytes, in pieces, and handed payloads. What was written on
-- the way, each byte once and in order, is the front of its output.
pub record Goes (says : Says) (old : Standing) (held : Option (List ℕ)) (fed : List ℕ) (new : Standing)
    (held' : Option (List ℕ)) : Type 0 where
  pub moves : List Move
  pub sent : List ℕ
  pub answered : List (List ℕ)
  pub follows : Follows says old moves (untouched sent answered new)
  pub fed_is : fed_in moves ≡ fed
  pub written : Appends sent held held'

-- Between two states a desk answered these payloads, with these replies.
abbrev pub AnswersMore : DeskState → (payloads said : List (List ℕ)) → DeskState → Type 0
AnswersMore d payloads said d' = (d'.side ≡ d.side)
    × ((earlier : List (List ℕ)) → HasAnswered d earlier → HasAnswered d' (earlier ++ payloads))
    × ((earlier : List (List ℕ)) → HasAnswered d earlier → AreReplies d.side earlier payloads said)

-- A desk answered these payloads, and the side was handed the replies, one after the other.
abbrev pub HandsReplies : Says → DeskState → Standing → (payloads : List (List ℕ)) → DeskState → Standing → Type 0
HandsReplies says d old payloads d' new = (said : List (List ℕ)) × Follows says old (map Handed said) new
    × AnswersMore d payloads said d'

-- A talk went on: the desk answered all that was delivered, and its replies were all that was said.
pub record TalksOn (says : Says) (d : DeskState) (old : Standing) (held : Option (List ℕ)) (fed : List ℕ)
    (d' : DeskState) (new : Standing) (held' : Option (List ℕ)) : Type 0 where
  pub goes : Goes says old held fed new held'
  pub answers : AnswersMore d goes.answered (said_in goes.moves) d'
  pub all : old.delivered ≡ [] → new.delivered ≡ []

-- ---- why a talk ends

-- The last of some moves is a piece that was refused, and answered with this error.
pub record EndsRefused (says : Says) (denies : Denies) (untrusted : ServerHost → Type 0) (old : Standing)
    (moves : List Move) (error : Error) (new : Standing) : Type 0 where
  pub earlier : List Move
  pub piece : List ℕ
  pub mid : Standing
  pub moves_are : moves ≡ earlier ++ FedLast piece ∷ []
  pub follows : Follows says old earlier mid
  pub refuses : RefusesPiece says denies untrusted mid piece error new

-- One of these payloads gets this reply of the desk, behind those before it.
pub record GetsReply (d : DeskState) (payloads : List (List ℕ)) (reply : Reply) : Type 0 where
  pub before : List (List ℕ)
  pub payload : List ℕ
  pub behind : List (List ℕ)
  pub all : before ++ payload ∷ behind ≡ payloads
  pub reply_is : (earlier : List (List ℕ)) → HasAnswered d earlier
      → reply_to d.side (earlier ++ before) payload ≡ reply

-- the configuration has a fault, of which the error tells
abbrev pub HasFault : Standing → Error → Type 0
HasFault at e = (fault : ConfigFault) × (config_fault at.side at.config ≡ Some fault) × (e ≡ errors.InvalidConfig fault)

-- Nothing was refused of what was fed: memory was wanting, the configuration has a fault, or a payload that was
-- delivered may not come there.
abbrev pub IsRefusedUnfed : DeskState → (answered : List (List ℕ)) → Standing → Error → Type 0
IsRefusedUnfed d answered at e = (at.failed ≡ false)
    × ((e ≡ errors.Memory) ⊎ (HasFault at e ⊎ GetsReply d (answered ++ at.delivered) (replies.Bad e)))

-- The service was granted to a client, and no exchange is open.
pub record IsGranted (d : DeskState) (answered : List (List ℕ)) (at : Standing) : Type 0 where
  pub client : d.side ≡ Client
  pub granted : (earlier : List (List ℕ)) → HasAnswered d earlier
      → was_granted d.side (earlier ++ answered) ≡ true
  pub outside : is_outside at.state.stands ≡ true

-- What each end tells. `refused` says of an error that the last move was a piece that was refused for it: behind such a
-- piece the talk ends as refused for it, but for DISCONNECT, or the sink failed. Else the side hasn't failed. Where the
-- talk came to its end, all of the output was written.
abbrev pub EndsWell : (refused : Error → Type 0) → DeskState → (answered : List (List ℕ)) → TalkEnd → Standing → Type 0
EndsWell refused d answered InputEnded at = (at.output ≡ []) × (at.failed ≡ false)
EndsWell refused d answered Disconnected at = (at.output ≡ []) × (at.failed ≡ true) × refused errors.Disconnect
EndsWell refused d answered Granted at = (at.output ≡ []) × (at.failed ≡ false) × IsGranted d answered at
EndsWell refused d answered (Refused e) at =
    ((at.output ≡ []) × (at.failed ≡ true) × (e ≡ errors.Disconnect → ⊥) × refused e) ⊎ IsRefusedUnfed d answered at e
EndsWell refused d answered NotServed at =
    (at.failed ≡ false) × GetsReply d (answered ++ at.delivered) replies.NotServed
EndsWell refused d answered SourceFailed at = (at.output ≡ []) × (at.failed ≡ false)
EndsWell refused d answered SinkFailed at = Unit {0}
EndsWell refused d answered Exhausted at = at.failed ≡ false

-- What a side says first was said, and behind it the replies to what was answered. Or nothing was done yet, where a
-- talk ends as refused.
abbrev pub SaysBack : DeskState → (first answered : List (List ℕ)) → List Move → TalkEnd → Type 0
SaysBack d first answered moves end =
    ((e : Error) × (end ≡ Refused e) × (moves ≡ []) × (answered ≡ []))
    ⊎ ((earlier : List (List ℕ)) → HasAnswered d earlier → (replies : List (List ℕ))
    × (said_in moves ≡ first ++ replies) × AreReplies d.side earlier answered replies)

-- Where a talk ends between two pieces, all that was delivered was answered.
abbrev pub LeavesNone : TalkEnd → Standing → Type 0
LeavesNone InputEnded at = at.delivered ≡ []
LeavesNone Disconnected at = Unit {0}
LeavesNone Granted at = at.delivered ≡ []
LeavesNone (Refused e) at = Unit {0}
LeavesNone NotServed at = Unit {0}
LeavesNone SourceFailed at = at.delivered ≡ []
LeavesNone SinkFailed at = Unit {0}
LeavesNone Exhausted at = at.delivered ≡ []

-- A talk ended at some standing of the side, which says this first, and which has finished these exchanges.
pub record Ends (says : Says) (denies : Denies) (untrusted : ServerHost → Type 0) (d : DeskState)
    (first : List (List ℕ)) (old : Standing) (held : Option (List ℕ)) (fed : List ℕ) (held' : Option (List ℕ))
    (end : TalkEnd) (finished : List FinishedExchange) : Type 0 where
  pub at : Standing
  pub goes : Goes says old held fed at held'
  pub said : SaysBack d first goes.answered goes.moves end
  pub all : old.delivered ≡ [] → LeavesNone end at
  pub records : at.state.records ≡ finished
  pub well : EndsWell
      (λ e. EndsRefused says denies untrusted old goes.moves e (untouched goes.sent goes.answered at))
      d goes.answered end at

-- why a desk ends a talk at one of these payloads: it isn't served, it may not come there, or memory was wanting
abbrev pub IsCutAt : DeskState → (payloads : List (List ℕ)) → TalkEnd → Type 0
IsCutAt d payloads InputEnded = ⊥
IsCutAt d payloads Disconnected = ⊥
IsCutAt d payloads Granted = ⊥
IsCutAt d payloads (Refused e) = (e ≡ errors.Memory) ⊎ GetsReply d payloads (replies.Bad e)
IsCutAt d payloads NotServed = GetsReply d payloads replies.NotServed
IsCutAt d payloads SourceFailed = ⊥
IsCutAt d payloads SinkFailed = ⊥
IsCutAt d payloads Exhausted = ⊥

-- the end behind a piece that was refused for this error
abbrev pub IsEndFor : Error → TalkEnd → Type 0
IsEndFor e end = ((e ≡ errors.Disconnect) × (end ≡ Disconnected)) ⊎ ((e ≡ errors.Disconnect → ⊥) × (end ≡ Refused e))

-- A count of faults rose where the talk ended so, and else stayed.
abbrev pub TellsFault : (failed : TalkEnd) → (before now : ℕ) → TalkEnd → Type 0
TellsFault failed before now end = (end ≡ failed → Rose before now) × ((end ≡ failed → ⊥) → now ≡ before)

-- A new side of this configuration talked, and its desk had answered nothing: it was fed these bytes, and what was
-- written of its output, the sink holds. What it was handed to send is what it says first, and a reply to each payload
-- that was delivered and answered. It finished these exchanges. Where it is a client, each of them was signed by a host
-- that it trusts.
pub record Talked (side : Side) (config : Config) (says : Says) (denies : Denies) (untrusted : ServerHost → Type 0)
    (accepts : Accepting) (trusts : Trusting) (held : Option (List ℕ)) (fed : List ℕ) (held' : Option (List ℕ))
    (end : TalkEnd) (finished : List FinishedExchange) : Type 0 where
  pub start : Standing
  pub new : IsNew side config start
  pub desk : DeskState
  pub of_side : desk.side ≡ side
  pub fresh : HasAnswered desk []
  pub ends : Ends says denies untrusted desk (first_said (first_of desk.side)) start held fed held' end finished
  pub known : side ≡ Client → IsSignedClient accepts trusts says config fed ends.at
