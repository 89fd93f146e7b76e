-- One side as a machine, packet by packet.
use Rattle.std.specs.Prelude.{◌≡◌, ℕ, ◌-◌, ◌<◌, ◌≤◌, List, [], ◌∷◌, ◌++◌, length, Bool, true, false, ◌&&◌, nat_le, Option, Some, None, IfSome, IsSome, if◌then◌else◌, ◌⊎◌}
use Rattle.ssh_negotiate.specs.Advertised.{kexinit}
use Rattle.ssh_negotiate.specs.declared.kex.KexCause.{KexCause}
use Rattle.ssh_negotiate.specs.declared.kex.KexCause.TheVariants.{Initial, Rekey}
use Rattle.ssh_negotiate.specs.declared.negotiation.Names.{Names}
use Rattle.ssh_packet.specs.Sealing.{Item, Sealing, Clear, IsAdmissible, IsPadded, moved_on, next_number}
use Rattle.ssh_packet.specs.Stream.{Opening, kept_number, is_newkeys, message_type}
use Rattle.ssh_packet.specs.Writing.{count_after}
use Rattle.ssh_wire.specs.Sides.{other_side}
use Rattle.ssh_wire.specs.declared.side.Side.{Side}
use Rattle.ssh_wire.specs.declared.side.Side.TheVariants.{Client, Server}
use Rattle.ssh_kex.specs.Exchange.{outgoing}
use Rattle.ssh_kex.specs.Messages.{newkeys}
use Rattle.ssh_kex.specs.Setting.{Says, Setting, offers_of}
use Rattle.ssh_kex.specs.Stages as stages
use Rattle.ssh_kex.specs.Stages.{Stage, Created, AwaitsGroup, AwaitsReply, AwaitsRequest, AwaitsValue, AwaitsNewkeys, drops_guess, guess_dropped, names_in_stage}
use Rattle.ssh_kex.specs.declared.config.Config.{Config}
use Rattle.ssh_kex.specs.declared.exchange.Exchange.{Exchange}
use Rattle.ssh_kex.specs.declared.exchange.FinishedExchange.{FinishedExchange}
use Rattle.ssh_kex.specs.declared.exchange.ServerHost.{ServerHost}
use Rattle.ssh_rules.specs.MessageTypes.{type_of, is_kex_type, is_payload_type, is_violation}

-- what a direction is sealed under, and its next number
pub record Spot : Type 0 where
  pub sealing : Sealing
  pub number : ℕ

-- behind a packet
abbrev pub spot_after : Spot → Item → Spot
spot_after at i = record { sealing = moved_on at.sealing i; number = next_number at.number }

-- where the numbers may begin again
abbrev pub spot_renumbered : Bool → Spot → Spot
spot_renumbered again at = record at { number = kept_number again at.number }

-- under the keys of a new epoch
abbrev pub spot_installed : Opening → Spot → Spot
spot_installed o at = record { sealing = o.sealing; number = kept_number o.strict at.number }

-- Silent: the peer's id line was not read. Inside: an exchange is open.
pub data Where : Type 0 where
  Silent : Where
  Outside : Where
  Inside : (stage : Stage) → Where

-- why a side begins an exchange: at the start, asked by its caller, for the other's KEXINIT, at a limit
pub data Cause : Type 0 where
  Start Asked Answering WriteLimit ReadLimit : Cause

-- what a side does, one packet or one call at a time
pub data Event : Type 0 where
  IdHeard : (id : List ℕ) → Event
  PayloadSubmitted : (payload : List ℕ) → Event
  ExchangeBegun : (cause : Cause) (item : Item) → Event
  -- the flag: whether the numbers begin again behind it
  AnswerSent : (item : Item) (again : Bool) → Event
  PayloadSent : (item : Item) → Event
  MessageTaken : (item : Item) → Event
  GuessDropped : (item : Item) → Event
  PayloadDelivered : (item : Item) → Event
  PacketDropped : (item : Item) → Event
  ExchangeFinished : (item : Item) (made : FinishedExchange) → Event

-- One side: what a transport stands for, beside its bytes.
pub record SideState : Type 0 where
  pub heard : Option (List ℕ)
  pub stands : Where
  -- an exchange was begun for a KEXINIT that is taken next
  pub called : Bool
  -- messages that are written before anything else happens
  pub owed : List (List ℕ)
  pub records : List FinishedExchange
  pub held : List (List ℕ)
  pub reading : Spot
  pub writing : Spot
  -- payload bytes since the last end of an exchange
  pub written : ℕ
  pub read : ℕ

-- a later exchange goes by the first one's strict flag and hash
abbrev pub cause_of : List FinishedExchange → KexCause
cause_of [] = Initial
cause_of (x ∷ xs) = Rekey x.names.strict_kex x.hash

-- no bytes where nothing was heard
abbrev pub id_or_none : Option (List ℕ) → List ℕ
id_or_none None = []
id_or_none (Some id) = id

-- between whom the open exchange stands, and why it began
abbrev pub setting : Side → Config → List ℕ → SideState → Setting
setting Client config own_id st =
    record {
      side = Client;
      config = config;
      client_id = own_id;
      server_id = id_or_none st.heard;
      cause = cause_of st.records;
    }
setting Server config own_id st =
    record {
      side = Server;
      config = config;
      client_id = id_or_none st.heard;
      server_id = own_id;
      cause = cause_of st.records;
    }

-- the stage of an open exchange
abbrev pub stage_at : Where → Option Stage
stage_at Silent = None
stage_at Outside = None
stage_at (Inside stage) = Some stage

-- whether an own NEWKEYS that is written now ends an epoch under strict key exchange
abbrev pub strict_now : Where → Bool
strict_now Silent = false
strict_now Outside = false
strict_now (Inside (Created own)) = false
strict_now (Inside (AwaitsGroup o)) = false
strict_now (Inside (AwaitsReply o gex local public)) = false
strict_now (Inside (AwaitsRequest o)) = false
strict_now (Inside (AwaitsValue o gex)) = false
strict_now (Inside (AwaitsNewkeys exchange made host)) = made.names.strict_kex

-- the names of an exchange whose KEXINITs were both read
abbrev pub names_now : Where → Option Names
names_now Silent = None
names_now Outside = None
names_now (Inside stage) = names_in_stage stage

-- why an exchange may be opened
abbrev pub MayBegin : Config → SideState → Cause → Type 0
MayBegin config st Start = (st.stands ≡ Silent) × IsSome st.heard
MayBegin config st Asked = st.stands ≡ Outside
MayBegin config st Answering = st.stands ≡ Outside
MayBegin config st WriteLimit = (st.stands ≡ Outside) × (config.limits.rekey_write_limit ≤ st.written)
MayBegin config st ReadLimit = (st.stands ≡ Outside) × (config.limits.rekey_read_limit ≤ st.read)

-- begun for a KEXINIT of the other
abbrev pub is_answering : Cause → Bool
is_answering Start = false
is_answering Asked = false
is_answering Answering = true
is_answering WriteLimit = false
is_answering ReadLimit = false

-- a packet is written: it moves the spot and the count, which stands still at its end as the writer's does
abbrev pub writes : SideState → Item → SideState
writes st i = record st { writing = spot_after st.writing i; written = count_after st.written (length i.payload) }

-- a packet is read
abbrev pub reads : SideState → Item → SideState
reads st i = record st { reading = spot_after st.reading i; read = count_after st.read (length i.payload) }

-- a packet that may be written
pub record IsSendable (st : SideState) (i : Item) : Type 0 where
  pub admissible : IsAdmissible st.writing.sealing i
  pub padded : IsPadded st.writing.sealing i

-- how many guesses were dropped in an exchange of these names
abbrev pub guesses : Names → ℕ
guesses n = if n.guessed_ignored then 1 else 0

-- the order test at a packet's number, under strict in the first exchange
abbrev pub OrderBy : Side → ℕ → Item → List FinishedExchange → Option Names → Type 0
OrderBy side number i [] (Some n) =
    n.strict_kex ≡ true → is_violation (other_side side) (type_of i) (number - guesses n) ≡ false
OrderBy side number i [] None = Unit {0}
OrderBy side number i (x ∷ xs) names = Unit {0}

-- a packet passes the order test
abbrev pub InOrder : Side → SideState → Item → Type 0
InOrder side st i = OrderBy side st.reading.number i st.records (names_now st.stands)

-- outside, an exchange is begun before anything else is read at a limit
abbrev pub IsBelow : Config → SideState → Type 0
IsBelow config st = st.stands ≡ Outside → (st.written < config.limits.rekey_write_limit)
    × (st.read < config.limits.rekey_read_limit)

-- ---- what a side may do, and where it then is

pub record HearsId (st : SideState) (id : List ℕ) (st' : SideState) : Type 0 where
  pub unheard : st.heard ≡ None
  pub silent : st.stands ≡ Silent
  pub becomes : st' ≡ record st { heard = Some id }

-- a payload is handed in
pub record SubmitsPayload (st : SideState) (p : List ℕ) (st' : SideState) : Type 0 where
  pub allowed : is_payload_type (message_type p) ≡ true
  pub becomes : st' ≡ record st { held = st.held ++ p ∷ [] }

-- a KEXINIT is written (RFC 4253 sections 7.1 and 9)
pub record BeginsExchange (side : Side) (config : Config) (st : SideState) (cause : Cause) (i : Item)
    (st' : SideState) : Type 0 where
  pub may : MayBegin config st cause
  pub owes : st.owed ≡ []
  pub not_called : st.called ≡ false
  pub cookie : List ℕ
  pub cookie_length : length cookie ≡ 16
  pub payload_is : i.payload ≡ kexinit (offers_of side config) cookie
  pub is_written : IsSendable st i
  pub becomes : st' ≡ record (writes st i) { stands = Inside (Created i.payload); called = is_answering cause }

-- a message that is owed is written
pub record SendsAnswer (st : SideState) (i : Item) (again : Bool) (st' : SideState) : Type 0 where
  pub more : List (List ℕ)
  pub owes : st.owed ≡ i.payload ∷ more
  pub is_written : IsSendable st i
  pub again_is : again ≡ (strict_now st.stands && is_newkeys i)
  pub becomes : st' ≡ record (writes st i) { owed = more; writing = spot_renumbered again (spot_after st.writing i) }

-- a held payload is written, outside an exchange alone (RFC 4253 section 7.1)
pub record SendsPayload (config : Config) (st : SideState) (i : Item) (st' : SideState) : Type 0 where
  pub outside : st.stands ≡ Outside
  pub owes : st.owed ≡ []
  pub below : IsBelow config st
  pub more : List (List ℕ)
  pub holds : st.held ≡ i.payload ∷ more
  pub is_written : IsSendable st i
  pub becomes : st' ≡ record (writes st i) { held = more }

-- a message of the open exchange is taken
pub record TakesMessage (says : Says) (side : Side) (config : Config) (own_id : List ℕ) (st : SideState) (i : Item)
    (st' : SideState) : Type 0 where
  pub stage : Stage
  pub next : Stage
  pub answers : List (List ℕ)
  pub inside : st.stands ≡ Inside stage
  pub owes : st.owed ≡ []
  pub kept : drops_guess stage ≡ false
  pub admissible : IsAdmissible st.reading.sealing i
  pub ordered : InOrder side st i
  pub takes : stages.Takes says (setting side config own_id st) stage
      (next_number st.reading.number) i.payload answers next
  pub becomes : st' ≡ record (reads st i) { stands = Inside next; called = false; owed = answers }

-- a wrong guess is dropped (RFC 4253 section 7)
pub record IgnoresGuess (side : Side) (st : SideState) (i : Item) (st' : SideState) : Type 0 where
  pub stage : Stage
  pub inside : st.stands ≡ Inside stage
  pub owes : st.owed ≡ []
  pub drops : drops_guess stage ≡ true
  pub is_kex : is_kex_type (type_of i) ≡ true
  pub admissible : IsAdmissible st.reading.sealing i
  pub ordered : InOrder side st i
  pub becomes : st' ≡ record (reads st i) { stands = Inside (guess_dropped stage) }

-- the other's NEWKEYS: the exchange is recorded, and both directions go on under its keys (RFC 4253 section 7.3)
pub record FinishesExchange (says : Says) (side : Side) (st : SideState) (i : Item) (x : FinishedExchange)
    (st' : SideState) : Type 0 where
  pub exchange : Exchange
  pub host : Option ServerHost
  pub inside : st.stands ≡ Inside (AwaitsNewkeys exchange x host)
  pub owes : st.owed ≡ []
  pub payload_is : i.payload ≡ newkeys
  pub trusted : IfSome host says.trusts
  pub admissible : IsAdmissible st.reading.sealing i
  pub ordered : InOrder side st i
  pub becomes : st' ≡ record st {
    stands = Outside;
    records = st.records ++ x ∷ [];
    reading = spot_installed (outgoing (other_side side) x) (spot_after st.reading i);
    writing =
        record st.writing { sealing = (outgoing side x).sealing };
    written = 0;
    read = 0;
  }

-- outside, or inside before the peer's KEXINIT of a later exchange
abbrev pub MayDeliver : SideState → Type 0
MayDeliver st = (st.stands ≡ Outside)
    ⊎ (((own : List ℕ) × (st.stands ≡ Inside (Created own))) × (0 < length st.records))

-- a payload is handed up
pub record DeliversPayload (config : Config) (st : SideState) (i : Item) (st' : SideState) : Type 0 where
  pub may : MayDeliver st
  pub owes : st.owed ≡ []
  pub not_called : st.called ≡ false
  pub allowed : is_payload_type (type_of i) ≡ true
  pub below : IsBelow config st
  pub admissible : IsAdmissible st.reading.sealing i
  pub becomes : st' ≡ reads st i

-- a message that is ignored, unimplemented or for debugging (RFC 4253 section 11)
pub record DropsPacket (side : Side) (config : Config) (st : SideState) (i : Item) (st' : SideState) : Type 0 where
  pub idle : (nat_le 2 (type_of i) && nat_le (type_of i) 4) ≡ true
  pub owes : st.owed ≡ []
  pub not_called : st.called ≡ false
  pub heard : st.stands ≡ Silent → ⊥
  pub below : IsBelow config st
  pub admissible : IsAdmissible st.reading.sealing i
  pub ordered : InOrder side st i
  pub becomes : st' ≡ reads st i

-- one event
abbrev pub Step : Says → Side → Config → List ℕ → SideState → Event → SideState → Type 0
Step says side config own_id st (IdHeard id) st' = HearsId st id st'
Step says side config own_id st (PayloadSubmitted p) st' = SubmitsPayload st p st'
Step says side config own_id st (ExchangeBegun cause i) st' = BeginsExchange side config st cause i st'
Step says side config own_id st (AnswerSent i again) st' = SendsAnswer st i again st'
Step says side config own_id st (PayloadSent i) st' = SendsPayload config st i st'
Step says side config own_id st (MessageTaken i) st' = TakesMessage says side config own_id st i st'
Step says side config own_id st (GuessDropped i) st' = IgnoresGuess side st i st'
Step says side config own_id st (ExchangeFinished i x) st' = FinishesExchange says side st i x st'
Step says side config own_id st (PayloadDelivered i) st' = DeliversPayload config st i st'
Step says side config own_id st (PacketDropped i) st' = DropsPacket side config st i st'

-- events one after the other
abbrev pub Steps : Says → Side → Config → List ℕ → SideState → List Event → SideState → Type 0
Steps says side config own_id st [] st' = st' ≡ st
Steps says side config own_id st (e ∷ es) st' = (mid : SideState) × Step says side config own_id st e mid
    × Steps says side config own_id mid es st'

-- nothing is left to do
pub record IsQuiet (config : Config) (st : SideState) : Type 0 where
  pub owes : st.owed ≡ []
  pub not_called : st.called ≡ false
  pub silent : st.stands ≡ Silent → st.heard ≡ None
  pub sent : st.stands ≡ Outside → st.held ≡ []
  pub below_write : st.stands ≡ Outside → st.written < config.limits.rekey_write_limit
  pub below_read : st.stands ≡ Outside → st.read < config.limits.rekey_read_limit

-- a side at its start
abbrev pub first_state : SideState
first_state = record {
  heard = None;
  stands = Silent;
  called = false;
  owed = [];
  records = [];
  held = [];
  reading = record { sealing = Clear; number = 0 };
  writing = record { sealing = Clear; number = 0 };
  written =
      0;
  read = 0;
}
