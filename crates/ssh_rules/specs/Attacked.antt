-- What a report says of sides that were fed any bytes.
use Rattle.std.specs.Prelude.{◌≡◌, ℕ, ◌-◌, ◌^◌, ◌<◌, ◌≤◌, ◌↔◌, ◌⊎◌, max, Bool, true, false, if◌then◌else◌, List, [], ◌∷◌, ◌++◌, length, map, take, slice_get, Option, Some, None, Result, Ok, Err, is_some}
use Rattle.ssh_wire.specs.Lines.{id_text, IdFound, Version}
use Rattle.ssh_wire.specs.declared.error.Error.TheVariants as errors
use Rattle.ssh_packet.specs.Front.{PacketSize, PacketAuth, DecryptionError, IndexOutOfBounds}
use Rattle.ssh_wire.specs.Sides.{same_side, other_side}
use Rattle.ssh_wire.specs.declared.error.Error.{Error}
use Rattle.ssh_wire.specs.declared.side.Side.{Side}
use Rattle.ssh_wire.specs.declared.side.Side.TheVariants.{Client, Server}
use Rattle.ssh_packet.specs.Sealing.{Item}
use Rattle.ssh_packet.specs.Stream.{first_place, message_type, by_type}
use Rattle.ssh_negotiate.specs.declared.negotiation.Names.{Names}
use Rattle.ssh_rules.specs.Parts.{Accepting, Secrets, Trusting}
use Rattle.ssh_kex.specs.declared.config.Config.{Config}
use Rattle.ssh_kex.specs.declared.exchange.FinishedExchange.{FinishedExchange}
use Rattle.ssh_kex.specs.Messages.{is_gex}
use Rattle.ssh_kex.specs.Exchange.{exchange_hash, outgoing}
use Rattle.ssh_negotiate.specs.Reading.{names_read, KexinitFault}
use Rattle.ssh_kex.specs.Setting.{group_of, offers_of, held_names}
use Rattle.ssh_rules.specs.declared.link.AttackStep.{AttackStep}
use Rattle.ssh_rules.specs.declared.link.AttackStep.TheVariants.{Submit, Feed, Rekey}
use Rattle.ssh_rules.specs.declared.link.AttackReport.{AttackReport}
use Rattle.ssh_rules.specs.declared.link.SideReport.{SideReport}
use Rattle.ssh_rules.specs.Valid.{is_bad_size}
use Rattle.ssh_rules.specs.Wire.{IsWire, exchange_block, epochs_ended, carried_payloads}
use Rattle.ssh_rules.specs.MessageTypes.{type_of, is_payload_type}
use Rattle.ssh_rules.specs.Marks.{due, epoch, kexinits, payload_bytes}
use Rattle.ssh_rules.specs.ExchangeMessages.{messages_of}
use Rattle.ssh_kex.specs.declared.exchange.Exchange.{Exchange}
use Rattle.ssh_rules.specs.Guess.{BeforeKexinit, ends_epoch, without_guesses, LegalOrder}
use Rattle.ssh_rules.specs.AnyParts.{IsSigned}
use Rattle.ssh_rules.specs.Headline.{first_hash, keys_for, blob_shown}
use Rattle.ssh_rules.specs.Handled.{Ending, AllRead, AtFault, AtPacket, Handled, heard_in, packets_in, id_text_in}
use Rattle.ssh_rules.specs.Placed.{placed_by, AreWritten}

-- ---- steps and answers

-- the bytes that a side was fed, in whatever pieces
abbrev pub fed_to : Side → List AttackStep → List ℕ
fed_to side [] = []
fed_to side (Feed s bytes ∷ steps) = if same_side s side then bytes ++ fed_to side steps else fed_to side steps
fed_to side (Submit s payload ∷ steps) = fed_to side steps
fed_to side (Rekey s ∷ steps) = fed_to side steps

-- the payloads of the submits that were answered Ok
abbrev pub accepted_of : Side → List AttackStep → List (Result (Unit {0}) Error) → List (List ℕ)
accepted_of side [] answers = []
accepted_of side (step ∷ steps) [] = []
accepted_of side (Submit s payload ∷ steps) (Ok u ∷ answers) =
    if same_side s side then payload ∷ accepted_of side steps answers else accepted_of side steps answers
accepted_of side (Submit s payload ∷ steps) (Err e ∷ answers) = accepted_of side steps answers
accepted_of side (Feed s bytes ∷ steps) (answer ∷ answers) = accepted_of side steps answers
accepted_of side (Rekey s ∷ steps) (answer ∷ answers) = accepted_of side steps answers

-- what the first refused feed of the side was answered
abbrev pub first_refusal : Side → List AttackStep → List (Result (Unit {0}) Error) → Option Error
first_refusal side [] answers = None
first_refusal side (step ∷ steps) [] = None
first_refusal side (Feed s bytes ∷ steps) (Err e ∷ answers) =
    if same_side s side then Some e else first_refusal side steps answers
first_refusal side (Feed s bytes ∷ steps) (Ok u ∷ answers) = first_refusal side steps answers
first_refusal side (Submit s payload ∷ steps) (answer ∷ answers) = first_refusal side steps answers
first_refusal side (Rekey s ∷ steps) (answer ∷ answers) = first_refusal side steps answers

-- at a packet that could be opened
abbrev pub AtSomePacket : Ending → Type 0
AtSomePacket ending = (i : Item) × (ending ≡ AtPacket i)

-- How the reading ended, by the answer: a refusal of the reader stands at a fault, any other at a packet; Version comes
-- before all packets. A size is one of either.
abbrev pub EndsAsAnswered : Option Error → IdFound → Ending → Type 0
EndsAsAnswered None found ending = ending ≡ AllRead
EndsAsAnswered (Some errors.Version) found ending = (found ≡ Version) × (ending ≡ AllRead)
EndsAsAnswered (Some errors.PacketAuth) found ending = ending ≡ AtFault PacketAuth
EndsAsAnswered (Some errors.DecryptionError) found ending = ending ≡ AtFault DecryptionError
EndsAsAnswered (Some errors.IndexOutOfBounds) found ending = ending ≡ AtFault IndexOutOfBounds
EndsAsAnswered (Some (errors.PacketSize n)) found ending = (ending ≡ AtFault (PacketSize n)) ⊎ AtSomePacket ending
EndsAsAnswered (Some errors.Disconnect) found ending = AtSomePacket ending
EndsAsAnswered (Some errors.KexInit) found ending = AtSomePacket ending
EndsAsAnswered (Some errors.Kex) found ending = AtSomePacket ending
EndsAsAnswered (Some errors.UnknownAlgo) found ending = AtSomePacket ending
EndsAsAnswered (Some errors.Inconsistent) found ending = AtSomePacket ending
EndsAsAnswered (Some errors.UnknownKey) found ending = AtSomePacket ending
EndsAsAnswered (Some errors.WrongServerSig) found ending = AtSomePacket ending
EndsAsAnswered (Some (errors.NoCommonAlgo kind ours theirs)) found ending = AtSomePacket ending
EndsAsAnswered (Some (errors.StrictKeyExchangeViolation message number)) found ending = AtSomePacket ending
EndsAsAnswered (Some errors.Signature) found ending = AtSomePacket ending
EndsAsAnswered (Some (errors.SshEncoding fault)) found ending = AtSomePacket ending
EndsAsAnswered (Some errors.IO) found ending = ⊥
EndsAsAnswered (Some (errors.InvalidConfig fault)) found ending = ⊥
EndsAsAnswered (Some errors.Memory) found ending = ⊥

-- whether the side's last step is a rekey that was answered Ok
abbrev pub ends_asked : Bool → Side → List AttackStep → List (Result (Unit {0}) Error) → Bool
ends_asked so_far side [] answers = so_far
ends_asked so_far side (step ∷ steps) [] = so_far
ends_asked so_far side (Rekey s ∷ steps) (Ok u ∷ answers) =
    ends_asked (if same_side s side then true else so_far) side steps answers
ends_asked so_far side (Rekey s ∷ steps) (Err e ∷ answers) =
    ends_asked (if same_side s side then false else so_far) side steps answers
ends_asked so_far side (Feed s bytes ∷ steps) (answer ∷ answers) =
    ends_asked (if same_side s side then false else so_far) side steps answers
ends_asked so_far side (Submit s payload ∷ steps) (answer ∷ answers) =
    ends_asked (if same_side s side then false else so_far) side steps answers

-- What a side was handed in a run: the bytes that it was fed, the payloads that were accepted, what its first refused
-- feed was answered, and whether its last step is a rekey that was answered Ok.
pub record Handed : Type 0 where
  pub fed : List ℕ
  pub accepted : List (List ℕ)
  pub refusal : Option Error
  pub asked : Bool

-- by the steps and their answers
abbrev pub handed_to : Side → List AttackStep → List (Result (Unit {0}) Error) → Handed
handed_to side steps answers = record {
  fed = fed_to side steps;
  accepted = accepted_of side steps answers;
  refusal = first_refusal side steps answers;
  asked = ends_asked false side steps answers;
}

-- ---- exchanges

-- in exchange 1 nothing is strict yet
abbrev pub still_strict : List FinishedExchange → Bool
still_strict [] = false
still_strict (x ∷ xs) = x.names.strict_kex

-- the names of a reading, where there are any
abbrev pub known_names : Result Names KexinitFault → Option Names
known_names (Ok n) = Some n
known_names (Err e) = None

-- the names that a side reads in a block's first message
abbrev pub read_names : Side → Config → Bool → Option (List ℕ) → Option Names
read_names side config strict None = None
read_names side config strict (Some payload) = known_names (names_read side (offers_of side config) strict payload)

-- the names that stand in the first message of a block
abbrev pub block_names : Side → Config → Bool → List (List ℕ) → Option Names
block_names side config strict messages = read_names side config strict (slice_get messages 0)

-- whether they are those of a group exchange
abbrev pub kind_in : Option Names → Bool
kind_in None = false
kind_in (Some n) = is_gex n.kex

-- the blob that a server shows under them; a client shows none
abbrev pub host_in : Side → Config → Option Names → Option (List ℕ)
host_in side config None = None
host_in Client config (Some n) = None
host_in Server config (Some n) = blob_shown config n

-- the ids of both sides, by the own one and the other's
abbrev pub client_id_of : Side → List ℕ → List ℕ → List ℕ
client_id_of Client own other = own
client_id_of Server own other = other

-- the server's, likewise
abbrev pub server_id_of : Side → List ℕ → List ℕ → List ℕ
server_id_of Client own other = other
server_id_of Server own other = own

-- An exchange that a side recorded: its names are those that the configuration and the KEXINIT read give.
pub record IsNamed (side : Side) (config : Config) (before : List FinishedExchange) (read : List (List ℕ))
    (x : FinishedExchange) : Type 0 where
  pub names : (n : Names) × (block_names side config (still_strict before) read ≡ Some n)
      × (x.names ≡ held_names n)
  pub session : x.session_id ≡ first_hash before x.hash

-- Its hash and keys are those of the two ids, of what stands in both blocks, and of one secret that is agreed.
pub record IsKeyed (agrees : Secrets) (side : Side) (config : Config) (heard : List ℕ) (own read : List (List ℕ))
    (x : FinishedExchange) : Type 0 where
  pub exchange : Exchange
  pub host : List ℕ
  pub signature : List ℕ
  pub client_id : exchange.client_id ≡ client_id_of side (id_text config.id) heard
  pub server_id : exchange.server_id ≡ server_id_of side (id_text config.id) heard
  pub kind : is_some exchange.gex ≡ is_gex x.names.kex
  pub own_is : own ≡ messages_of side exchange host signature
  pub read_is : read ≡ messages_of (other_side side) exchange host signature
  pub secret : List ℕ
  pub agree : agrees x.names.kex (group_of exchange.gex) exchange.client_ephemeral exchange.server_ephemeral secret
  pub hash : x.hash ≡ exchange_hash x.names.kex exchange host (Some secret)
  pub keys : x.keys ≡ keys_for x.names secret x.hash x.session_id

-- ---- a side

-- What of a mark holds of a side that refused nothing: `read` are the packets that it handled without dropped guesses.
pub record IsPrompt (side : Side) (config : Config) (kind : Bool) (accepted : List (List ℕ)) (own read : List Item)
    (hears asked : Bool) : Type 0 where
  pub sent : max 1 (kexinits own) ≤ epochs_ended read → accepted ≡ carried_payloads own
  pub written : max 1 (kexinits own) ≤ epochs_ended read → payload_bytes (epoch own) < config.limits.rekey_write_limit
  pub taken : max 1 (kexinits own) ≤ epochs_ended read → payload_bytes (epoch read) < config.limits.rekey_read_limit
  pub starts : (0 < kexinits own) ↔ (hears ≡ true)
  pub answers : kexinits read ≤ max 1 (kexinits own)
  pub prompt : 0 < kexinits own
      → length (exchange_block (kexinits own - 1) own) ≡ due side kind
      (length (exchange_block (kexinits own - 1) read))
  pub begins : asked ≡ true → epochs_ended read < max 1 (kexinits own)

-- A side of an attacked run. `lawful` says that its agreement is.
pub record IsAttackedSide (agrees : Secrets) (lawful : Type 0) (accepts : Accepting) (trusts : Trusting) (side : Side) (config : Config) (handed : Handed) (r : SideReport) : Type 0 where
  -- the packets handled, the own ones, and those handled without dropped guesses
  pub handled : List Item
  pub own : List Item
  pub ending : Ending
  pub kept : List Item
  pub kept_is : kept ≡ without_guesses side config BeforeKexinit handled
  pub taken : r.taken ≡ length handed.fed
  pub reads : Handled side config r.exchanges
      (packets_in (heard_in side handed.fed) handed.fed) handled ending
  pub ended : EndsAsAnswered handed.refusal (heard_in side handed.fed) ending
  pub delivered : r.delivered ≡ carried_payloads handled
  pub wire : IsWire side config
      (λ k. kind_in (block_names side config (still_strict (take k r.exchanges)) (exchange_block k kept)))
      (λ k. host_in side config (block_names side config (still_strict (take k r.exchanges)) (exchange_block k kept)))
      handed.accepted r.exchanges r.wire own
  pub recorded : length r.exchanges ≡ epochs_ended kept
  pub named : (k : ℕ) (x : FinishedExchange) → slice_get r.exchanges k ≡ Some x
      → IsNamed side config (take k r.exchanges) (exchange_block k kept) x
  pub keyed : lawful → (k : ℕ) (x : FinishedExchange) → slice_get r.exchanges k ≡ Some x → (heard : List ℕ)
      × (id_text_in (heard_in side handed.fed) ≡ Some heard)
      × IsKeyed agrees side config heard (exchange_block k own) (exchange_block k kept) x
  pub signed : side ≡ Client → (k : ℕ) (x : FinishedExchange) → slice_get r.exchanges k ≡ Some x
      → IsSigned accepts trusts (exchange_block k kept) x
  pub prompt : handed.refusal ≡ None
      → IsPrompt side config (kind_in
      (block_names side config (still_strict r.exchanges) (exchange_block (kexinits own - 1) kept)))
      handed.accepted own kept (is_some (id_text_in (heard_in side handed.fed)))
      handed.asked

-- ---- the order of the first exchange, and what strict exchanges carry

-- the packets up to the first that ends an epoch
abbrev pub until_end : (List Item → Item → Bool) → List Item → List Item → List Item
until_end ends_by before [] = []
until_end ends_by before (i ∷ items) =
    if ends_by before i then i ∷ [] else i ∷ until_end ends_by (before ++ i ∷ []) items

-- under strict key exchange the packets up to the first end are in legal order
abbrev pub IsOrdered : Side → Config → List FinishedExchange → List Item → Type 0
IsOrdered side config [] handled = Unit {0}
IsOrdered side config (x ∷ xs) handled =
    x.names.strict_kex ≡ true → length (until_end (ends_epoch side config) [] handled) < 2 ^ 32
    → LegalOrder side (is_gex x.names.kex) x.names.guessed_ignored (map type_of (until_end (ends_epoch side config) [] handled))

-- the first exchange was strict
abbrev pub IsStrict : List FinishedExchange → Type 0
IsStrict [] = ⊥
IsStrict (x ∷ xs) = x.names.strict_kex ≡ true

-- where the tags of what one side opened are the other's, what it delivered is the first that the other submitted
abbrev pub CarriesPrefix : (reader : Side) → (reader_config : Config)
    → (reader_exchanges writer_exchanges : List FinishedExchange) → (handled own : List Item)
    → (delivered submitted : List (List ℕ)) → Type 0
CarriesPrefix reader config rx wx handled own delivered submitted =
    IsStrict rx → IsStrict wx
    → AreWritten (placed_by (ends_epoch reader config) [] 0
    (Some (first_place (map (outgoing (other_side reader)) rx))) handled)
    (placed_by by_type [] 0 (Some (first_place (map (outgoing (other_side reader)) wx))) own)
    → (more : List (List ℕ)) × (delivered ++ more ≡ submitted)

-- ---- both sides

-- what both sides of an attacked run say together, of the same packets
pub record IsAttackedLink (agrees : Secrets) (client_lawful server_lawful : Type 0) (accepts : Accepting) (trusts : Trusting) (client server : Config) (steps : List AttackStep)
    (report : AttackReport) : Type 0 where
  pub each_answered : length report.answers ≡ length steps
  pub of_client : IsAttackedSide agrees client_lawful accepts trusts Client client
      (handed_to Client steps report.answers) report.client
  pub of_server : IsAttackedSide agrees server_lawful accepts trusts Server server
      (handed_to Server steps report.answers) report.server
  pub client_ordered : IsOrdered Client client report.client.exchanges of_client.handled
  pub server_ordered : IsOrdered Server server report.server.exchanges of_server.handled
  pub to_client : CarriesPrefix Client client report.client.exchanges report.server.exchanges of_client.handled
      of_server.own report.client.delivered (accepted_of Server steps report.answers)
  pub to_server : CarriesPrefix Server server report.server.exchanges report.client.exchanges of_server.handled
      of_client.own report.server.delivered (accepted_of Client steps report.answers)

-- ---- answers

abbrev pub submit_answer : List ℕ → Result (Unit {0}) Error
submit_answer payload =
    if is_bad_size (length payload) then Err (errors.PacketSize (length payload))
    else if is_payload_type (message_type payload) then Ok tt else Err errors.Inconsistent

-- which packets may be handled, and which packet is refused behind handled ones, and how
pub record Judged : Type 1 where
  pub takes : List Item → Type 0
  pub refuses : List Item → Item → Error → Type 0

-- by the answer: all is read, or the reading ends as such an answer says
abbrev pub AnswersBytes : Judged → IdFound → Result (Unit {0}) Error → List Item → Ending → Type 0
AnswersBytes judged found (Ok u) items ending = (ending ≡ AllRead) × (found ≡ Version → ⊥)
AnswersBytes judged found (Err e) items ending =
    EndsAsAnswered (Some e) found ending × ((i : Item) → ending ≡ AtPacket i → judged.refuses items i e)

-- What a feed is answered, by all bytes that the side was fed up to it: the packets before the end are such as are
-- taken.
abbrev pub FedAnswer : Judged → Side → Config → List FinishedExchange → List ℕ → Result (Unit {0}) Error → Type 0
FedAnswer judged side config exchanges fed answer =
    (items : List Item) × (ending : Ending)
    × Handled side config exchanges (packets_in (heard_in side fed) fed) items ending
    × judged.takes items × AnswersBytes judged (heard_in side fed) answer items ending

-- a side between two steps
pub record FedSide : Type 0 where
  pub config : Config
  pub exchanges : List FinishedExchange
  pub fed : List ℕ
  pub failed : Bool

-- whether an answer is a refusal
abbrev pub is_err : Result (Unit {0}) Error → Bool
is_err (Ok u) = false
is_err (Err e) = true

-- where a side failed, each call is refused and changes nothing
abbrev pub feeds : FedSide → List ℕ → Result (Unit {0}) Error → FedSide
feeds t bytes answer = if t.failed then t else record t { fed = t.fed ++ bytes; failed = is_err answer }

-- a side that failed answers Disconnect, any other by the bytes that it was fed
abbrev pub AnswersFeedBy : Bool → Judged → Side → FedSide → List ℕ → Result (Unit {0}) Error → Type 0
AnswersFeedBy true judged side t bytes answer = answer ≡ Err errors.Disconnect
AnswersFeedBy false judged side t bytes answer = FedAnswer judged side t.config t.exchanges (t.fed ++ bytes) answer

-- the same, of a side between two steps
abbrev pub AnswersFeed : Judged → Side → FedSide → List ℕ → Result (Unit {0}) Error → Type 0
AnswersFeed judged side t bytes answer = AnswersFeedBy t.failed judged side t bytes answer

-- what a submit is answered
abbrev pub submit_answers : FedSide → List ℕ → Result (Unit {0}) Error
submit_answers t payload = if t.failed then Err errors.Disconnect else submit_answer payload

-- what a rekey is answered
abbrev pub rekey_answers : FedSide → Result (Unit {0}) Error
rekey_answers t = if t.failed then Err errors.Disconnect else Ok tt

-- by whether the step is the side's
abbrev pub IfOwn : Bool → Type 0 → Type 0
IfOwn true A = A
IfOwn false A = Unit {0}

-- Every answer to a step of the side has its cause.
abbrev pub AreAnswers : Judged → Side → FedSide → List AttackStep → List (Result (Unit {0}) Error) → Type 0
AreAnswers judged side t [] [] = Unit {0}
AreAnswers judged side t [] (a ∷ answers) = ⊥
AreAnswers judged side t (step ∷ steps) [] = ⊥
AreAnswers judged side t (Submit s p ∷ steps) (a ∷ answers) =
    IfOwn (same_side s side) (a ≡ submit_answers t p) × AreAnswers judged side t steps answers
AreAnswers judged side t (Rekey s ∷ steps) (a ∷ answers) =
    IfOwn (same_side s side) (a ≡ rekey_answers t) × AreAnswers judged side t steps answers
AreAnswers judged side t (Feed s bytes ∷ steps) (a ∷ answers) =
    IfOwn (same_side s side) (AnswersFeed judged side t bytes a)
    × AreAnswers judged side (if same_side s side then feeds t bytes a else t) steps answers
