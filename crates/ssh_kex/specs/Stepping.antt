-- What a step of a machine answers, writes and asks.
use Rattle.std.specs.Prelude.{◌≡◌, ℕ, if◌then◌else◌, Bool, true, false, List, [], ◌∷◌, length, Option, Some, None, Result, Ok, Err, ◌⊎◌}
use Rattle.rand_core.specs.Stream.{Stream}
use Rattle.ssh_packet.specs.Keys.{sealing_of, opening_of}
use Rattle.ssh_packet.specs.Sealing.{IsAdmissible, item_of, padding_length}
use Rattle.ssh_packet.specs.Writing.{Writer, Sends, SameButRoom}
use Rattle.ssh_packet.specs.declared.reader.Incoming.{Incoming}
use Rattle.ssh_wire.specs.Outside.{Rose}
use Rattle.ssh_wire.specs.Sides.{other_side}
use Rattle.ssh_wire.specs.declared.error.Error.{Error}
use Rattle.ssh_wire.specs.declared.error.Error.TheVariants as errors
use Rattle.ssh_wire.specs.declared.side.Side.{Side}
use Rattle.ssh_wire.specs.declared.side.Side.TheVariants.{Client, Server}
use Rattle.ssh_kex.specs.Exchange.{sealing_after}
use Rattle.ssh_kex.specs.Members.{AgreementMembers, GroupLookupMembers, HostKeysMembers}
use Rattle.ssh_kex.specs.Messages.{IsCanonical}
use Rattle.ssh_kex.specs.Parts.{HasItsGroup, IsSmall, Setup}
use Rattle.ssh_kex.specs.Refusals.{Denies, RefusesMessage}
use Rattle.ssh_kex.specs.Setting.{Says}
use Rattle.ssh_kex.specs.Stages.{Stage, Created, AwaitsGroup, AwaitsReply, AwaitsRequest, AwaitsValue, AwaitsNewkeys, Machine, Takes, Finishes, Skips, drops_guess, guess_dropped, resets}
use Rattle.ssh_kex.specs.declared.config.Config.{Config}
use Rattle.ssh_kex.specs.declared.exchange.Exchange.{Exchange}
use Rattle.ssh_kex.specs.declared.exchange.FinishedExchange.{FinishedExchange}
use Rattle.ssh_kex.specs.declared.exchange.NewKeys.{NewKeys}
use Rattle.ssh_kex.specs.declared.exchange.ServerHost.{ServerHost}
use Rattle.ssh_kex.specs.declared.progress.KexProgress.{KexProgress}
use Rattle.ssh_kex.specs.declared.progress.KexProgress.TheVariants.{NeedsReply, Done}

-- ---- what the parts say

-- What parts say, from the members of their traits: what is lawful says so under any setup that it is lawful under.
abbrev pub says_of : {A H G : Type 0} (ma : AgreementMembers A) (mh : HostKeysMembers H) (mg : GroupLookupMembers G)
    → Config → A → H → G → Says
says_of {A} {H} {G} ma mh mg config a h g = record {
  agrees = λ name q c v x. (s : Setup) → ma.lawful a s → ma.agrees name q c v x;
  client_makes = λ name q l c. (s : Setup) → ma.lawful a s → ma.client_makes name q l c;
  server_makes = λ name q c v. (s : Setup) → ma.lawful a s → ma.server_makes name q c v;
  finds = λ sizes q. (s : Setup) → mg.lawful g s → (q ≡ mg.group g sizes) × IsCanonical q;
  signs = λ host hash signature. (later : H) (s : Setup) → s.server ≡ config → mh.signs h later s
      → mh.makes config host hash signature;
  accepts = λ host hash signature. mh.accepts h host hash signature ≡ true;
  trusts = λ host. mh.trusts h host ≡ true;
  offers = λ name. ma.offered a name ≡ true;
  value_small = λ v. (s : Setup) → ma.lawful a s → IsSmall v;
  signature_small = λ v. (s : Setup) → mh.lawful h s → IsSmall v;
}

-- What it means that a part refused between two states.
abbrev pub denies_of : {A H G : Type 0} (ma : AgreementMembers A) (mh : HostKeysMembers H) (mg : GroupLookupMembers G)
    → A → A → H → H → G → G → Denies
denies_of ma mh mg a a' h h' g g' = record {
  start = λ name q. Rose (ma.refusals a) (ma.refusals a') × ((s : Setup) → ma.obliging a a' s q → HasItsGroup name q
      → ma.offered a name ≡ true → ⊥);
  value = λ name q c. Rose (ma.refusals a) (ma.refusals a')
      × ((s : Setup) (l : List ℕ) → ma.obliging a a' s q → HasItsGroup name q → ma.offered a name ≡ true
      → ma.client_makes name q l c → ⊥);
  reply = λ name q l v. Rose (ma.refusals a) (ma.refusals a')
      × ((s : Setup) (c : List ℕ) → ma.obliging a a' s q → HasItsGroup name q → ma.offered a name ≡ true
      → ma.client_makes name q l c
      → ma.server_makes name q c v → ⊥);
  lookup = λ sizes. Rose (mg.refusals g) (mg.refusals g') × ((s : Setup) → mg.obliging g g' s → ⊥);
  sign = λ config. Rose (mh.refused_sign h) (mh.refused_sign h') × ((s : Setup) → s.server ≡ config → mh.signs h h' s → ⊥);
  verify = λ host hash signature. Rose (mh.refused_verify h) (mh.refused_verify h')
      × ((s : Setup) → mh.judges h h' s → mh.accepts h host hash signature ≡ true → ⊥);
}

-- ---- how often they are asked

-- a client's agreement is asked at the KEXINIT, but in a group exchange at the group
abbrev pub awaits_group : Stage → Bool
awaits_group (Created own) = false
awaits_group (AwaitsGroup o) = true
awaits_group (AwaitsReply o gex local public) = false
awaits_group (AwaitsRequest o) = false
awaits_group (AwaitsValue o gex) = false
awaits_group (AwaitsNewkeys exchange made host) = false

abbrev pub at_kexinit : Side → Option Stage → ℕ
at_kexinit Client None = 1
at_kexinit Client (Some next) = if awaits_group next then 0 else 1
at_kexinit Server next = 0

-- of a wrong guess, which is dropped, nothing is asked
abbrev pub once_unless : Bool → ℕ
once_unless dropped = if dropped then 0 else 1

abbrev pub asks_agreement : Side → Stage → Option Stage → ℕ
asks_agreement side (Created own) next = at_kexinit side next
asks_agreement side (AwaitsGroup o) next = once_unless o.names.ignore_guessed
asks_agreement side (AwaitsReply o gex local public) next = once_unless o.names.ignore_guessed
asks_agreement side (AwaitsRequest o) next = 0
asks_agreement side (AwaitsValue o gex) next = once_unless o.names.ignore_guessed
asks_agreement side (AwaitsNewkeys exchange made host) next = 0

-- How often a step that is taken asks the agreement. Where no exchange of values was chosen, a KEXINIT ends all.
abbrev pub kexinit_answers : Side → Option Stage → ℕ
kexinit_answers side None = 0
kexinit_answers side (Some next) = at_kexinit side (Some next)

abbrev pub answers_agreement : Side → Stage → Option Stage → ℕ
answers_agreement side (Created own) next = kexinit_answers side next
answers_agreement side (AwaitsGroup o) next = once_unless o.names.ignore_guessed
answers_agreement side (AwaitsReply o gex local public) next = once_unless o.names.ignore_guessed
answers_agreement side (AwaitsRequest o) next = 0
answers_agreement side (AwaitsValue o gex) next = once_unless o.names.ignore_guessed
answers_agreement side (AwaitsNewkeys exchange made host) next = 0

-- a client's host keys are asked for the reply, a server's for its own
abbrev pub asks_hosts : Stage → ℕ
asks_hosts (Created own) = 0
asks_hosts (AwaitsGroup o) = 0
asks_hosts (AwaitsReply o gex local public) = once_unless o.names.ignore_guessed
asks_hosts (AwaitsRequest o) = 0
asks_hosts (AwaitsValue o gex) = once_unless o.names.ignore_guessed
asks_hosts (AwaitsNewkeys exchange made host) = 0

abbrev pub asks_groups : Stage → ℕ
asks_groups (Created own) = 0
asks_groups (AwaitsGroup o) = 0
asks_groups (AwaitsReply o gex local public) = 0
asks_groups (AwaitsRequest o) = once_unless o.names.ignore_guessed
asks_groups (AwaitsValue o gex) = 0
asks_groups (AwaitsNewkeys exchange made host) = 0

-- the stage that a step leads to
abbrev pub next_of : Result (KexProgress Machine) Error → Option Stage
next_of (Ok (NeedsReply kex reset)) = Some kex.stage
next_of (Ok (Done host newkeys)) = None
next_of (Err error) = None

-- ---- what is written

-- one packet of the payload went behind the output
pub record Puts (old : Writer) (payload : List ℕ) (new : Writer) : Type 0 where
  pub stream : Stream
  pub sends : Sends old payload stream new
  pub admissible : IsAdmissible old.sealing (item_of old.sealing payload stream)
  pub padded : length (item_of old.sealing payload stream).padding ≡ padding_length old.sealing (length payload)

-- these payloads went behind the output, in order
abbrev pub PutsAll : Writer → List (List ℕ) → Writer → Type 0
PutsAll old [] new = SameButRoom old new
PutsAll old (p ∷ payloads) new = (mid : Writer) × Puts old p mid × PutsAll mid payloads new

-- ---- what is answered

-- a machine after a wrong guess, of which nothing is written
pub record DropsGuess (m : Machine) (old : Writer) (kex : Machine) (reset : Bool) (new : Writer) : Type 0 where
  pub drops : drops_guess m.stage ≡ true
  pub kex_is : kex ≡ record m { stage = guess_dropped m.stage }
  pub reset_is : reset ≡ false
  pub same : SameButRoom old new

-- a machine after a message that it took
pub record TakesOne (says : Says) (m : Machine) (i : Incoming) (old : Writer) (kex : Machine) (reset : Bool)
    (new : Writer) : Type 0 where
  pub kept : drops_guess m.stage ≡ false
  pub written : List (List ℕ)
  pub takes : Takes says m.setting m.stage i.seqn i.payload.now written kex.stage
  pub setting_is : kex.setting ≡ m.setting
  pub reset_is : reset ≡ resets m.setting.cause kex.stage
  pub puts : PutsAll old written new

-- the keys of an exchange, with what seals and opens under them
pub record IsNewKeys (side : Side) (x : Exchange) (made : FinishedExchange) (k : NewKeys) : Type 0 where
  pub exchange_is : k.exchange ≡ x
  pub names_is : k.names ≡ made.names
  pub hash_is : k.hash ≡ made.hash
  pub session_is : k.session_id ≡ made.session_id
  pub keys_is : k.keys ≡ made.keys
  pub seals : sealing_of k.cipher.value.local_to_remote ≡ sealing_after side made.names made.keys
  pub opens : opening_of k.cipher.value.remote_to_local ≡ sealing_after (other_side side) made.names made.keys

-- the end of an exchange: at the peer's NEWKEYS, or at once where no exchange of values was chosen
pub record IsDone (m : Machine) (i : Incoming) (old : Writer) (host : Option ServerHost) (k : NewKeys) (new : Writer) : Type 0 where
  pub exchange : Exchange
  pub made : FinishedExchange
  pub written : List (List ℕ)
  pub ends : (Finishes m.stage i.payload.now exchange made host × (written ≡ []))
      ⊎ Skips m.setting m.stage i.seqn i.payload.now written exchange made host
  pub newkeys : IsNewKeys m.setting.side exchange made k
  pub puts : PutsAll old written new

abbrev pub Progresses : Says → Machine → Option Incoming → Writer → KexProgress Machine → Writer → Type 0
Progresses says m None old p new = ⊥
Progresses says m (Some i) old (NeedsReply kex reset) new = DropsGuess m old kex reset new
    ⊎ TakesOne says m i old kex reset new
Progresses says m (Some i) old (Done host k) new = IsDone m i old host k new

-- why a step is refused: without a message with KexInit
abbrev pub RefusesStep : Says → Denies → Machine → Option Incoming → Error → Type 0
RefusesStep says denies m None error = (error ≡ errors.KexInit) ⊎ (error ≡ errors.Memory)
RefusesStep says denies m (Some i) error = RefusesMessage says denies m.setting m.stage i.seqn i.payload.now error
