-- Why a side refuses the packet behind those that it handled, by its report: its configuration, the packets handled,
-- its own packets, the exchanges that it recorded, and what its parts did over the whole run.
use Rattle.std.specs.Prelude.{◌≡◌, ◌⊎◌, ◌<◌, ◌≤◌, ◌+◌, ◌-◌, ◌^◌, ◌%◌, ◌&&◌, nat_le, ℕ, zero, suc, max, Bool, true, false, if◌then◌else◌, List, [], ◌∷◌, ◌++◌, length, map, take, drop, slice_get, is_some, Option, Some, None, Ok, Err}
use Rattle.ssh_wire.specs.Lines.{id_text}
use Rattle.ssh_wire.specs.Sides.{other_side}
use Rattle.ssh_wire.specs.declared.error.EncodingFault.{EncodingFault}
use Rattle.ssh_wire.specs.declared.error.EncodingFault.TheVariants.{TrailingData}
use Rattle.ssh_wire.specs.declared.error.Error.{Error}
use Rattle.ssh_wire.specs.declared.error.Error.TheVariants as errors
use Rattle.ssh_wire.specs.declared.side.Side.{Side}
use Rattle.ssh_wire.specs.declared.side.Side.TheVariants.{Client, Server}
use Rattle.ssh_packet.specs.Sealing.{Item, longest_payload, next_number}
use Rattle.ssh_packet.specs.Stream.{Place, first_place, place_behind_by}
use Rattle.ssh_negotiate.specs.Reading.{Encoding, Inconsistent, KexinitFault, NoCommon, names_read}
use Rattle.ssh_negotiate.specs.declared.kex.Name.{Name as KexName}
use Rattle.ssh_negotiate.specs.declared.negotiation.Names.{Names}
use Rattle.ssh_kex.specs.Exchange.{exchange_hash, outgoing}
use Rattle.ssh_kex.specs.Messages.{group_message, host_with, is_gex, newkeys, reply_message, request_message, value_message}
use Rattle.ssh_kex.specs.Fields.{IsInside, IsOutside, ReplyFront, fields, group_in, reply_front, sizes_in, value_in}
use Rattle.ssh_kex.specs.Members.{AgreementMembers, GroupLookupMembers, HostKeysMembers}
use Rattle.ssh_kex.specs.Setting.{group_of, offers_of}
use Rattle.ssh_kex.specs.Signature.{judged}
use Rattle.ssh_kex.specs.declared.config.Config.{Config}
use Rattle.ssh_kex.specs.declared.exchange.Exchange.{Exchange}
use Rattle.ssh_kex.specs.declared.exchange.FinishedExchange.{FinishedExchange}
use Rattle.ssh_kex.specs.declared.group.DhGroup.{DhGroup}
use Rattle.ssh_kex.specs.declared.group.GexParams.{GexParams}
use Rattle.ssh_rules.specs.Attacked.{AreAnswers, IsAttackedLink, Judged, block_names, client_id_of, fed_to, kind_in, server_id_of, still_strict}
use Rattle.ssh_rules.specs.Asking.{AsksAtMost, PartCalls, counted_by, kex_count}
use Rattle.ssh_kex.specs.Parts.{Setup}
use Rattle.ssh_rules.specs.Handled.{AllRead, AtFault, AtPacket, Ending, heard_in, id_text_in}
use Rattle.ssh_rules.specs.declared.link.AttackStep.{AttackStep}
use Rattle.ssh_rules.specs.declared.link.AttackReport.{AttackReport}
use Rattle.ssh_rules.specs.ExchangeMessages.{messages_of}
use Rattle.ssh_rules.specs.Guess.{BeforeKexinit, Guess, GuessDue, NoneFollows, ends_epoch, guess_behind, is_guess, without_guesses}
use Rattle.ssh_rules.specs.LinkCauses.{Rises, rises_of}
use Rattle.ssh_rules.specs.Marks.{kexinits}
use Rattle.ssh_rules.specs.MessageTypes.{is_kex_type, is_payload_type, type_of, is_violation}
use Rattle.ssh_rules.specs.Parts.{Accepting, ClientPairs, Secrets, ServerValues, Trusting}
use Rattle.ssh_rules.specs.Wire.{HasFront, epochs_ended, exchange_block}

-- ---- where a side stands behind some packets

-- the side, the id text that it heard, and what its report has
pub record Seen : Type 0 where
  pub side : Side
  pub config : Config
  pub heard : List ℕ
  pub exchanges : List FinishedExchange
  pub own : List Item

-- the packets handled, without dropped guesses
abbrev pub without_dropped : Seen → List Item → List Item
without_dropped v items = without_guesses v.side v.config BeforeKexinit items

-- how many exchanges they end
abbrev pub done_by : Seen → List Item → ℕ
done_by v items = epochs_ended (without_dropped v items)

-- the other's messages of the exchange that comes next or is open, and the own ones
abbrev pub open_block : Seen → List Item → List (List ℕ)
open_block v items = exchange_block (done_by v items) (without_dropped v items)

abbrev pub own_block : Seen → List Item → List (List ℕ)
own_block v items = exchange_block (done_by v items) v.own

-- the names that its KEXINIT gives
abbrev pub names_by : Seen → List Item → Option Names
names_by v items = block_names v.side v.config (still_strict (take (done_by v items) v.exchanges)) (open_block v items)

-- inside an exchange: one more was begun than is ended
abbrev pub IsInsideOne : Seen → List Item → Type 0
IsInsideOne v items = done_by v items < max 1 (kexinits v.own)

-- the number of the packet that comes next
abbrev pub NumberIs : Seen → List Item → ℕ → Type 0
NumberIs v items n = (at : Place)
    × (place_behind_by (ends_epoch v.side v.config) [] (Some (first_place (map (outgoing (other_side v.side)) v.exchanges))) items
    ≡ Some at) × (at.number ≡ n)

-- ---- which message is due

pub data Due : Type 0 where
  KexinitDue : Due
  RequestDue : Due
  GroupDue : Due
  ValueDue : Due
  ReplyDue : Due
  NewkeysDue : Due

-- by how many of the other's messages were read in the exchange
abbrev pub due_by : Side → Bool → ℕ → Due
due_by side kind zero = KexinitDue
due_by Client false (suc zero) = ReplyDue
due_by Client true (suc zero) = GroupDue
due_by Client true (suc (suc zero)) = ReplyDue
due_by Client false (suc (suc n)) = NewkeysDue
due_by Client true (suc (suc (suc n))) = NewkeysDue
due_by Server false (suc zero) = ValueDue
due_by Server true (suc zero) = RequestDue
due_by Server true (suc (suc zero)) = ValueDue
due_by Server false (suc (suc n)) = NewkeysDue
due_by Server true (suc (suc (suc n))) = NewkeysDue

abbrev pub due_in : Seen → List Item → Due
due_in v items = due_by v.side (kind_in (names_by v items)) (length (open_block v items))

-- its type
abbrev pub type_due : Bool → Due → ℕ
type_due kind KexinitDue = 20
type_due kind RequestDue = 34
type_due kind GroupDue = 31
type_due kind ValueDue = if kind then 32 else 30
type_due kind ReplyDue = if kind then 33 else 31
type_due kind NewkeysDue = 21

abbrev pub is_newkeys_due : Due → Bool
is_newkeys_due KexinitDue = false
is_newkeys_due RequestDue = false
is_newkeys_due GroupDue = false
is_newkeys_due ValueDue = false
is_newkeys_due ReplyDue = false
is_newkeys_due NewkeysDue = true

-- ---- the strict order

-- whether a wrong guess of the open exchange was dropped: its KEXINIT told one, and none is to come any more
abbrev pub has_dropped : Guess → Names → Bool
has_dropped NoneFollows n = n.ignore_guessed
has_dropped GuessDue n = false
has_dropped BeforeKexinit n = false

-- how many packets are taken off the number of the next one
abbrev pub dropped_by : Guess → Names → ℕ
dropped_by g n = if has_dropped g n then 1 else 0

-- In the first exchange, behind its KEXINIT and under strict key exchange, the packet stands where it may not, and is
-- no DISCONNECT.
pub record IsOutOfOrder (v : Seen) (items : List Item) (i : Item) (place : ℕ) : Type 0 where
  pub stays : type_of i ≡ 1 → ⊥
  pub first : done_by v items ≡ 0
  pub names : Names
  pub read : names_by v items ≡ Some names
  pub strict : names.strict_kex ≡ true
  pub number : ℕ
  pub number_is : NumberIs v items number
  pub place_is : place ≡ number - dropped_by (guess_behind v.side v.config BeforeKexinit items) names
  pub violates : is_violation (other_side v.side) (type_of i) place ≡ true

-- ---- a message of an exchange

-- the packet is a message of the open exchange, or the KEXINIT that begins one, and no guess that is dropped
pub record IsTaken (v : Seen) (items : List Item) (i : Item) : Type 0 where
  pub is_kex : is_kex_type (type_of i) ≡ true
  pub no_guess : is_guess (guess_behind v.side v.config BeforeKexinit items) i ≡ false
  pub begins : (IsInsideOne v items → ⊥) → type_of i ≡ 20
  pub ordered : (place : ℕ) → IsOutOfOrder v items i place → ⊥

-- the one that is due, or another
pub record IsDueNow (v : Seen) (items : List Item) (i : Item) (due : Due) : Type 0 where
  pub taken : IsTaken v items i
  pub due_is : due_in v items ≡ due
  pub type_is : type_of i ≡ type_due (kind_in (names_by v items)) due

pub record IsWrongNow (v : Seen) (items : List Item) (i : Item) : Type 0 where
  pub taken : IsTaken v items i
  pub type_not : type_of i ≡ type_due (kind_in (names_by v items)) (due_in v items) → ⊥

-- what is read in a KEXINIT
abbrev pub KexinitReads : Seen → List Item → Item → Rattle.std.specs.Prelude.Result Names KexinitFault → Type 0
KexinitReads v items i r = names_read v.side (offers_of v.side v.config) (still_strict (take (done_by v items) v.exchanges)) i.payload ≡ r

-- what both sides said in the open exchange so far; a value that doesn't stand there yet is free
pub record Speaks (v : Seen) (items : List Item) (e : Exchange) (host signature : List ℕ) : Type 0 where
  pub client_id : e.client_id ≡ client_id_of v.side (id_text v.config.id) v.heard
  pub server_id : e.server_id ≡ server_id_of v.side (id_text v.config.id) v.heard
  pub kind : is_some e.gex ≡ kind_in (names_by v items)
  pub own_is : HasFront (messages_of v.side e host signature) (own_block v items)
  pub read_is : HasFront (messages_of (other_side v.side) e host signature) (open_block v items)

-- ---- what the parts of the side do

-- Over the whole run, under both sides' configurations: what is lawful and obliging, the agreement in which group, which counts of refusals rose,
-- what the types and the parts say, and how often each part had been asked before and after.
pub record PartsDo : Type 1 where
  pub lawful : Type 0
  pub lawful_hosts : Type 0
  pub lawful_lookup : Type 0
  pub obliging : Option DhGroup → Type 0
  pub signs : Type 0
  pub judges : Type 0
  pub obliging_lookup : Type 0
  pub rises : Rises
  pub offers : KexName → Type 0
  pub client_makes : ClientPairs
  pub server_makes : ServerValues
  pub agrees : Secrets
  pub group : GexParams → DhGroup
  pub accepts : Accepting
  pub trusts : Trusting
  pub before : PartCalls
  pub after : PartCalls

-- by the members of the parts' traits, of one side, between the states before the run and behind it
abbrev pub parts_of : {A H G : Type 0} (ma : AgreementMembers A) (mh : HostKeysMembers H) (mg : GroupLookupMembers G)
    → Setup → A → A → H → H → G → G → PartsDo
parts_of ma mh mg s a a' h h' g g' =
    record {
      lawful = ma.lawful a s;
      lawful_hosts = mh.lawful h s;
      lawful_lookup = mg.lawful g s;
      obliging = ma.obliging a a' s;
      signs = mh.signs h h' s;
      judges = mh.judges h h' s;
      obliging_lookup = mg.obliging g g' s;
      rises = rises_of ma mh mg a a' h h' g g';
      offers = λ n. ma.offered a n ≡ true;
      client_makes = ma.client_makes;
      server_makes = ma.server_makes;
      agrees = ma.agrees;
      group = mg.group g;
      accepts = mh.accepts h;
      trusts = mh.trusts h;
      before = counted_by ma mh mg a h g;
      after = counted_by ma mh mg a' h' g';
    }

-- A part refuses: an agreement that obliges in the group, only a value that the other side doesn't make.
pub record DeniesStart (p : PartsDo) (side : Side) (group : Option DhGroup) : Type 0 where
  pub client : side ≡ Client
  pub rose : p.rises.agreement
  pub only : p.obliging group → ⊥

pub record DeniesValue (p : PartsDo) (v : Seen) (items : List Item) (i : Item) (n : Names) : Type 0 where
  pub exchange : Exchange
  pub host : List ℕ
  pub signature : List ℕ
  pub speaks : Speaks v items exchange host signature
  pub value_is : value_in (fields i.payload) ≡ Ok exchange.client_ephemeral
  pub rose : p.rises.agreement
  pub only : p.obliging (group_of exchange.gex) → (local : List ℕ) → p.client_makes n.kex (group_of exchange.gex) local exchange.client_ephemeral → ⊥

pub record DeniesReply (p : PartsDo) (v : Seen) (items : List Item) (i : Item) (n : Names) : Type 0 where
  pub front : ReplyFront
  pub read : reply_front (fields i.payload) ≡ Ok front
  pub exchange : Exchange
  pub host : List ℕ
  pub signature : List ℕ
  pub speaks : Speaks v items exchange host signature
  pub value_is : exchange.server_ephemeral ≡ front.value
  pub rose : p.rises.agreement
  pub only : p.obliging (group_of exchange.gex) → p.server_makes n.kex (group_of exchange.gex) exchange.client_ephemeral front.value
      → ⊥

abbrev pub PartDeniesNow : PartsDo → Seen → List Item → Item → Due → Type 0
PartDeniesNow p v items i KexinitDue = (n : Names) × KexinitReads v items i (Ok n) × (is_gex n.kex ≡ false) × DeniesStart p v.side None
PartDeniesNow p v items i GroupDue = (g : DhGroup) × (group_in (fields i.payload) ≡ Ok g) × IsInside v.config.gex g × DeniesStart p v.side (Some g)
PartDeniesNow p v items i RequestDue = (sizes : GexParams) × (sizes_in (fields i.payload) ≡ Ok sizes) × p.rises.lookup × (p.obliging_lookup → ⊥)
PartDeniesNow p v items i ValueDue = (n : Names) × (names_by v items ≡ Some n) × DeniesValue p v items i n
PartDeniesNow p v items i ReplyDue = (n : Names) × (names_by v items ≡ Some n) × DeniesReply p v items i n
PartDeniesNow p v items i NewkeysDue = ⊥

-- obliging host keys refuse a signature only where they don't accept it: of the reply's host, of the hash with a
-- secret that is agreed, and of the signature in its canonical form
pub record IsMissignedNow (p : PartsDo) (v : Seen) (items : List Item) (i : Item) : Type 0 where
  pub names : Names
  pub names_are : names_by v items ≡ Some names
  pub front : ReplyFront
  pub signature : List ℕ
  pub read : reply_front (fields i.payload) ≡ Ok front
  pub rest : value_in front.behind ≡ Ok signature
  pub exchange : Exchange
  pub speaks : Speaks v items exchange front.host signature
  pub value_is : exchange.server_ephemeral ≡ front.value
  pub secret : List ℕ
  pub agree : p.lawful → p.agrees names.kex (group_of exchange.gex) exchange.client_ephemeral front.value secret
  pub rose : p.rises.verifying
  pub only : p.judges → p.accepts (host_with names front.host) (exchange_hash names.kex exchange front.host (Some secret)) (judged signature) ≡ true → ⊥

-- and a host only where they don't trust it
pub record IsUntrustedNow (p : PartsDo) (v : Seen) (items : List Item) : Type 0 where
  pub client : v.side ≡ Client
  pub names : Names
  pub names_are : names_by v items ≡ Some names
  pub host : List ℕ
  pub value : List ℕ
  pub signature : List ℕ
  pub reply : slice_get (open_block v items) (if is_gex names.kex then 2 else 1) ≡ Some (reply_message (is_gex names.kex) host value signature)
  pub rose : p.rises.checking
  pub only : p.judges → p.trusts (host_with names host) ≡ true → ⊥

-- ---- the other rows

abbrev pub BadlyEncodedNow : Seen → List Item → Item → Due → EncodingFault → Type 0
BadlyEncodedNow v items i KexinitDue fault = KexinitReads v items i (Err (Encoding fault))
BadlyEncodedNow v items i GroupDue fault = group_in (fields i.payload) ≡ Err fault
BadlyEncodedNow v items i RequestDue fault = sizes_in (fields i.payload) ≡ Err fault
BadlyEncodedNow v items i ValueDue fault = value_in (fields i.payload) ≡ Err fault
BadlyEncodedNow v items i ReplyDue fault = (reply_front (fields i.payload) ≡ Err fault)
    ⊎ ((r : ReplyFront) × (reply_front (fields i.payload) ≡ Ok r) × (value_in r.behind ≡ Err fault))
BadlyEncodedNow v items i NewkeysDue fault = (fault ≡ TrailingData) × (0 < length (fields i.payload))

-- a message of n bytes made of a part's value: of lawful parts only the group of the sizes that were asked
abbrev pub IsTooLongNow : PartsDo → Item → ℕ → Due → Type 0
IsTooLongNow p i n KexinitDue = p.lawful → ⊥
IsTooLongNow p i n GroupDue = p.lawful → ⊥
IsTooLongNow p i n RequestDue = (sizes : GexParams) × (sizes_in (fields i.payload) ≡ Ok sizes) × (p.lawful_lookup → n ≡ length (group_message (p.group sizes)))
IsTooLongNow p i n ValueDue = p.lawful → p.lawful_hosts → ⊥
IsTooLongNow p i n ReplyDue = ⊥
IsTooLongNow p i n NewkeysDue = ⊥

-- the peer's first KEXINIT, under strict key exchange, isn't the first packet
pub record IsLateNow (v : Seen) (items : List Item) (i : Item) (place : ℕ) : Type 0 where
  pub due : IsDueNow v items i KexinitDue
  pub first : done_by v items ≡ 0
  pub names : Names
  pub read : KexinitReads v items i (Ok names)
  pub strict : names.strict_kex ≡ true
  pub number : ℕ
  pub number_is : NumberIs v items number
  pub late : next_number number ≡ 1 → ⊥
  pub place_is : place ≡ (next_number number + (2 ^ 32 - 1)) % 2 ^ 32

-- a payload may be delivered: an exchange is finished, and no KEXINIT was read since
pub record MayDeliverNow (v : Seen) (items : List Item) : Type 0 where
  pub none : open_block v items ≡ []
  pub some : 0 < done_by v items

-- nothing takes the packet there
pub record IsMisplaced (v : Seen) (items : List Item) (i : Item) : Type 0 where
  pub stays : type_of i ≡ 1 → ⊥
  pub ordered : (place : ℕ) → IsOutOfOrder v items i place → ⊥
  pub not_idle : (nat_le 2 (type_of i) && nat_le (type_of i) 4) ≡ false
  pub place : ((is_kex_type (type_of i) ≡ true) × (IsInsideOne v items → ⊥) × (type_of i ≡ 20 → ⊥))
      ⊎ ((is_kex_type (type_of i) ≡ false) × (is_payload_type (type_of i) ≡ true → MayDeliverNow v items → ⊥))

-- Why the packet is refused.
abbrev pub RefusesNow : PartsDo → Seen → List Item → Item → Error → Type 0
RefusesNow p v items i errors.Disconnect = type_of i ≡ 1
RefusesNow p v items i (errors.StrictKeyExchangeViolation type place) =
    (type ≡ type_of i) × (IsOutOfOrder v items i place ⊎ IsLateNow v items i place)
RefusesNow p v items i errors.KexInit = ((is_newkeys_due (due_in v items) ≡ false) × IsWrongNow v items i)
    ⊎ (IsDueNow v items i GroupDue × ((g : DhGroup) × (group_in (fields i.payload) ≡ Ok g) × IsOutside v.config.gex g))
RefusesNow p v items i errors.Kex = ((is_newkeys_due (due_in v items) ≡ true) × IsWrongNow v items i)
    ⊎ (IsDueNow v items i (due_in v items) × PartDeniesNow p v items i (due_in v items))
RefusesNow p v items i errors.Inconsistent = IsMisplaced v items i
    ⊎ (IsDueNow v items i KexinitDue × KexinitReads v items i (Err Inconsistent))
RefusesNow p v items i (errors.SshEncoding fault) = IsDueNow v items i (due_in v items) × BadlyEncodedNow v items i (due_in v items) fault
RefusesNow p v items i (errors.NoCommonAlgo kind ours theirs) =
    IsDueNow v items i KexinitDue × KexinitReads v items i (Err (NoCommon kind ours.0.items theirs.0.items))
RefusesNow p v items i errors.UnknownAlgo =
    IsDueNow v items i KexinitDue × ((n : Names) × KexinitReads v items i (Ok n) × (p.offers n.kex → ⊥))
RefusesNow p v items i (errors.PacketSize n) = IsDueNow v items i (due_in v items) × (longest_payload < n) × IsTooLongNow p i n (due_in v items)
RefusesNow p v items i errors.Signature = IsDueNow v items i ValueDue × ((value : List ℕ) × (value_in (fields i.payload) ≡ Ok value))
    × p.rises.signing × (p.signs → ⊥)
RefusesNow p v items i errors.WrongServerSig = IsDueNow v items i ReplyDue × IsMissignedNow p v items i
RefusesNow p v items i errors.UnknownKey = IsDueNow v items i NewkeysDue × (i.payload ≡ newkeys) × IsUntrustedNow p v items
RefusesNow p v items i errors.Version = ⊥
RefusesNow p v items i errors.PacketAuth = ⊥
RefusesNow p v items i errors.DecryptionError = ⊥
RefusesNow p v items i errors.IndexOutOfBounds = ⊥
RefusesNow p v items i errors.IO = ⊥
RefusesNow p v items i (errors.InvalidConfig fault) = ⊥
RefusesNow p v items i errors.Memory = ⊥

-- ---- what is taken

-- A handled packet is one that the rules of a side take, behind those before it: no row above holds of it that asks
-- neither the parts nor memory. `offers` is what the side's agreement offers.
abbrev pub ContentTaken : (offers : KexName → Type 0) → Seen → List Item → Item → Due → Type 0
ContentTaken offers v items i KexinitDue = (n : Names) × KexinitReads v items i (Ok n) × offers n.kex
ContentTaken offers v items i GroupDue = (g : DhGroup) × (i.payload ≡ group_message g) × IsInside v.config.gex g
ContentTaken offers v items i RequestDue = (sizes : GexParams) × (i.payload ≡ request_message sizes)
ContentTaken offers v items i ValueDue = (kind : Bool) × (value : List ℕ) × (i.payload ≡ value_message kind value)
ContentTaken offers v items i ReplyDue = (kind : Bool) × (host : List ℕ) × (value : List ℕ) × (signature : List ℕ)
    × (i.payload ≡ reply_message kind host value signature)
ContentTaken offers v items i NewkeysDue = i.payload ≡ newkeys

-- a guess that is dropped, the message that is due, one that is ignored, or a payload that may be handed up
pub data HandledAs : Type 0 where
  DroppedGuess : HandledAs
  DueMessage : HandledAs
  Ignored : HandledAs
  HandedUp : HandledAs

abbrev pub IsHandledAs : HandledAs → (offers : KexName → Type 0) → Seen → List Item → Item → Type 0
IsHandledAs DroppedGuess offers v items i = is_guess (guess_behind v.side v.config BeforeKexinit items) i ≡ true
IsHandledAs DueMessage offers v items i = (type_of i ≡ type_due (kind_in (names_by v items)) (due_in v items))
    × ContentTaken offers v items i (due_in v items)
IsHandledAs Ignored offers v items i = (nat_le 2 (type_of i) && nat_le (type_of i) 4) ≡ true
IsHandledAs HandedUp offers v items i = (is_payload_type (type_of i) ≡ true) × MayDeliverNow v items

pub record IsAccepted (offers : KexName → Type 0) (v : Seen) (items : List Item) (i : Item) : Type 0 where
  pub ordered : (place : ℕ) → IsOutOfOrder v items i place → ⊥
  pub how : HandledAs
  pub is_so : IsHandledAs how offers v items i

-- of all packets that were handled
abbrev pub AllAccepted : (offers : KexName → Type 0) → Seen → (before items : List Item) → Type 0
AllAccepted offers v before [] = Unit {0}
AllAccepted offers v before (i ∷ items) = IsAccepted offers v before i × AllAccepted offers v (before ++ i ∷ []) items

-- ---- a side of a report

abbrev pub text_of : Option (List ℕ) → List ℕ
text_of None = []
text_of (Some text) = text

abbrev pub seen_in : Side → Config → (fed : List ℕ) → List FinishedExchange → (own : List Item) → Seen
seen_in side config fed exchanges own =
    record { side = side; config = config; heard = text_of (id_text_in (heard_in side fed)); exchanges = exchanges; own = own }

-- the packet that is refused
abbrev pub refused_packet_at : Ending → List Item
refused_packet_at AllRead = []
refused_packet_at (AtFault fault) = []
refused_packet_at (AtPacket i) = i ∷ []

-- what a side took by then are the first of the packets that it handled, and what it refuses stands in the table
abbrev pub judged_in : PartsDo → Seen → (handled : List Item) → Judged
judged_in parts v handled = record { takes = HasFront handled; refuses = RefusesNow parts v }

-- Each step of the side was answered by its cause, each packet that it handled is one that is taken there, and each
-- part was asked once at most for each message of an exchange, the refused one included.
pub record IsAnsweredSide (parts : PartsDo) (side : Side) (config : Config) (steps : List AttackStep) (answers : List (Rattle.std.specs.Prelude.Result (Unit {0}) Error))
    (exchanges : List FinishedExchange) (own handled : List Item) (ending : Ending) : Type 0 where
  pub answered : AreAnswers (judged_in parts (seen_in side config (fed_to side steps) exchanges own) handled) side
      (record { config = config; exchanges = exchanges; fed = []; failed = false }) steps answers
  pub accepted : AllAccepted parts.offers (seen_in side config (fed_to side steps) exchanges own) [] handled
  pub asked : AsksAtMost (kex_count (handled ++ refused_packet_at ending)) parts.before parts.after

-- What the report of an attacked run says: of both sides together, and of each side's answers, of the same packets.
pub record IsAttackedRun (client_parts server_parts : PartsDo) (client server : Config) (steps : List AttackStep) (report : AttackReport) : Type 0 where
  pub link : IsAttackedLink client_parts.agrees client_parts.lawful server_parts.lawful client_parts.accepts client_parts.trusts client server steps report
  pub client_answered : IsAnsweredSide client_parts Client client steps report.answers report.client.exchanges link.of_client.own link.of_client.handled link.of_client.ending
  pub server_answered : IsAnsweredSide server_parts Server server steps report.answers report.server.exchanges link.of_server.own link.of_server.handled link.of_server.ending
