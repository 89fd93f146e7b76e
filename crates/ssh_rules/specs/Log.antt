-- What stands in a side's events.
use Rattle.std.specs.Prelude.{ℕ, List, [], ◌∷◌, ◌++◌, ◌+◌}
use Rattle.ssh_packet.specs.Sealing.{Item, sealed_packet}
use Rattle.ssh_wire.specs.declared.side.Side.{Side}
use Rattle.ssh_kex.specs.declared.exchange.FinishedExchange.{FinishedExchange}
use Rattle.ssh_kex.specs.Exchange.{outgoing}
use Rattle.ssh_wire.specs.Sides.{other_side}
use Rattle.ssh_rules.specs.Machine.{Spot, spot_after, spot_renumbered, spot_installed, Cause, Event, IdHeard, PayloadSubmitted, ExchangeBegun, AnswerSent, PayloadSent, MessageTaken, GuessDropped, PayloadDelivered, PacketDropped, ExchangeFinished, Start, Asked, Answering, WriteLimit, ReadLimit}

-- its own packets
abbrev pub wrote : List Event → List Item
wrote [] = []
wrote (ExchangeBegun cause i ∷ es) = i ∷ wrote es
wrote (AnswerSent i resets ∷ es) = i ∷ wrote es
wrote (PayloadSent i ∷ es) = i ∷ wrote es
wrote (IdHeard id ∷ es) = wrote es
wrote (PayloadSubmitted p ∷ es) = wrote es
wrote (MessageTaken i ∷ es) = wrote es
wrote (GuessDropped i ∷ es) = wrote es
wrote (PayloadDelivered i ∷ es) = wrote es
wrote (PacketDropped i ∷ es) = wrote es
wrote (ExchangeFinished i x ∷ es) = wrote es

-- the packets that it handled
abbrev pub handled : List Event → List Item
handled [] = []
handled (MessageTaken i ∷ es) = i ∷ handled es
handled (GuessDropped i ∷ es) = i ∷ handled es
handled (PayloadDelivered i ∷ es) = i ∷ handled es
handled (PacketDropped i ∷ es) = i ∷ handled es
handled (ExchangeFinished i x ∷ es) = i ∷ handled es
handled (ExchangeBegun cause i ∷ es) = handled es
handled (AnswerSent i resets ∷ es) = handled es
handled (PayloadSent i ∷ es) = handled es
handled (IdHeard id ∷ es) = handled es
handled (PayloadSubmitted p ∷ es) = handled es

-- the payloads that it delivered
abbrev pub delivered_in : List Event → List (List ℕ)
delivered_in [] = []
delivered_in (PayloadDelivered i ∷ es) = i.payload ∷ delivered_in es
delivered_in (MessageTaken i ∷ es) = delivered_in es
delivered_in (GuessDropped i ∷ es) = delivered_in es
delivered_in (PacketDropped i ∷ es) = delivered_in es
delivered_in (ExchangeFinished i x ∷ es) = delivered_in es
delivered_in (ExchangeBegun cause i ∷ es) = delivered_in es
delivered_in (AnswerSent i resets ∷ es) = delivered_in es
delivered_in (PayloadSent i ∷ es) = delivered_in es
delivered_in (IdHeard id ∷ es) = delivered_in es
delivered_in (PayloadSubmitted p ∷ es) = delivered_in es

-- the exchanges that it recorded
abbrev pub recorded : List Event → List FinishedExchange
recorded [] = []
recorded (ExchangeFinished i x ∷ es) = x ∷ recorded es
recorded (MessageTaken i ∷ es) = recorded es
recorded (GuessDropped i ∷ es) = recorded es
recorded (PayloadDelivered i ∷ es) = recorded es
recorded (PacketDropped i ∷ es) = recorded es
recorded (ExchangeBegun cause i ∷ es) = recorded es
recorded (AnswerSent i resets ∷ es) = recorded es
recorded (PayloadSent i ∷ es) = recorded es
recorded (IdHeard id ∷ es) = recorded es
recorded (PayloadSubmitted p ∷ es) = recorded es

-- the bytes of its packets, from this spot on
abbrev pub sent_bytes : Side → Spot → List Event → List ℕ
sent_bytes side at [] = []
sent_bytes side at (ExchangeBegun cause i ∷ es) =
    sealed_packet at.sealing at.number i ++ sent_bytes side (spot_after at i) es
sent_bytes side at (AnswerSent i resets ∷ es) =
    sealed_packet at.sealing at.number i ++ sent_bytes side (spot_renumbered resets (spot_after at i)) es
sent_bytes side at (PayloadSent i ∷ es) = sealed_packet at.sealing at.number i ++ sent_bytes side (spot_after at i) es
sent_bytes side at (ExchangeFinished i x ∷ es) = sent_bytes side (record at { sealing = (outgoing side x).sealing }) es
sent_bytes side at (IdHeard id ∷ es) = sent_bytes side at es
sent_bytes side at (PayloadSubmitted p ∷ es) = sent_bytes side at es
sent_bytes side at (MessageTaken i ∷ es) = sent_bytes side at es
sent_bytes side at (GuessDropped i ∷ es) = sent_bytes side at es
sent_bytes side at (PayloadDelivered i ∷ es) = sent_bytes side at es
sent_bytes side at (PacketDropped i ∷ es) = sent_bytes side at es

-- the bytes of the packets that it handled, from this spot on
abbrev pub read_bytes : Side → Spot → List Event → List ℕ
read_bytes side at [] = []
read_bytes side at (MessageTaken i ∷ es) = sealed_packet at.sealing at.number i ++ read_bytes side (spot_after at i) es
read_bytes side at (GuessDropped i ∷ es) = sealed_packet at.sealing at.number i ++ read_bytes side (spot_after at i) es
read_bytes side at (PayloadDelivered i ∷ es) =
    sealed_packet at.sealing at.number i ++ read_bytes side (spot_after at i) es
read_bytes side at (PacketDropped i ∷ es) = sealed_packet at.sealing at.number i ++ read_bytes side (spot_after at i) es
read_bytes side at (ExchangeFinished i x ∷ es) =
    sealed_packet at.sealing at.number i
    ++ read_bytes side (spot_installed (outgoing (other_side side) x) (spot_after at i)) es
read_bytes side at (ExchangeBegun cause i ∷ es) = read_bytes side at es
read_bytes side at (AnswerSent i resets ∷ es) = read_bytes side at es
read_bytes side at (PayloadSent i ∷ es) = read_bytes side at es
read_bytes side at (IdHeard id ∷ es) = read_bytes side at es
read_bytes side at (PayloadSubmitted p ∷ es) = read_bytes side at es

-- the payloads that it was handed
abbrev pub submitted_in : List Event → List (List ℕ)
submitted_in [] = []
submitted_in (PayloadSubmitted p ∷ es) = p ∷ submitted_in es
submitted_in (IdHeard id ∷ es) = submitted_in es
submitted_in (ExchangeBegun cause i ∷ es) = submitted_in es
submitted_in (AnswerSent i resets ∷ es) = submitted_in es
submitted_in (PayloadSent i ∷ es) = submitted_in es
submitted_in (MessageTaken i ∷ es) = submitted_in es
submitted_in (GuessDropped i ∷ es) = submitted_in es
submitted_in (PayloadDelivered i ∷ es) = submitted_in es
submitted_in (PacketDropped i ∷ es) = submitted_in es
submitted_in (ExchangeFinished i x ∷ es) = submitted_in es

-- why it began each exchange, in order
abbrev pub causes_in : List Event → List Cause
causes_in [] = []
causes_in (ExchangeBegun cause i ∷ es) = cause ∷ causes_in es
causes_in (PayloadSubmitted p ∷ es) = causes_in es
causes_in (IdHeard id ∷ es) = causes_in es
causes_in (AnswerSent i resets ∷ es) = causes_in es
causes_in (PayloadSent i ∷ es) = causes_in es
causes_in (MessageTaken i ∷ es) = causes_in es
causes_in (GuessDropped i ∷ es) = causes_in es
causes_in (PayloadDelivered i ∷ es) = causes_in es
causes_in (PacketDropped i ∷ es) = causes_in es
causes_in (ExchangeFinished i x ∷ es) = causes_in es

-- the packets that it handled and didn't drop as a guess
abbrev pub kept_in : List Event → List Item
kept_in [] = []
kept_in (MessageTaken i ∷ es) = i ∷ kept_in es
kept_in (GuessDropped i ∷ es) = kept_in es
kept_in (PayloadDelivered i ∷ es) = i ∷ kept_in es
kept_in (PacketDropped i ∷ es) = i ∷ kept_in es
kept_in (ExchangeFinished i x ∷ es) = i ∷ kept_in es
kept_in (ExchangeBegun cause i ∷ es) = kept_in es
kept_in (AnswerSent i resets ∷ es) = kept_in es
kept_in (PayloadSent i ∷ es) = kept_in es
kept_in (IdHeard id ∷ es) = kept_in es
kept_in (PayloadSubmitted p ∷ es) = kept_in es

-- the packets that it handled up to the end of its first exchange
abbrev pub first_epoch : List Event → List Item
first_epoch [] = []
first_epoch (ExchangeFinished i x ∷ es) = i ∷ []
first_epoch (MessageTaken i ∷ es) = i ∷ first_epoch es
first_epoch (GuessDropped i ∷ es) = i ∷ first_epoch es
first_epoch (PayloadDelivered i ∷ es) = i ∷ first_epoch es
first_epoch (PacketDropped i ∷ es) = i ∷ first_epoch es
first_epoch (ExchangeBegun cause i ∷ es) = first_epoch es
first_epoch (AnswerSent i resets ∷ es) = first_epoch es
first_epoch (PayloadSent i ∷ es) = first_epoch es
first_epoch (IdHeard id ∷ es) = first_epoch es
first_epoch (PayloadSubmitted p ∷ es) = first_epoch es

-- one for a cause that is a rekey of the side itself
abbrev pub asked : Cause → ℕ
asked Asked = 1
asked Start = 0
asked Answering = 0
asked WriteLimit = 0
asked ReadLimit = 0

-- how many of the causes are
abbrev pub asked_in : List Cause → ℕ
asked_in [] = 0
asked_in (c ∷ causes) = asked c + asked_in causes
