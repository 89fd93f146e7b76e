-- The stages of an exchange, and what a message does in each.
use Rattle.std.specs.Prelude.{◌≡◌, ℕ, ◌^◌, ◌<◌, ◌≤◌, ◌||◌, Bool, true, false, List, [], ◌∷◌, length, Option, Some, None, Ok, IsTrue, is_none, is_some}
use Rattle.ssh_negotiate.specs.Causes.{was_strict}
use Rattle.ssh_negotiate.specs.Reading.{names_read}
use Rattle.ssh_negotiate.specs.Tables.{shape_of}
use Rattle.ssh_negotiate.specs.declared.kex.KexCause.{KexCause}
use Rattle.ssh_negotiate.specs.declared.kex.KexCause.TheVariants.{Initial, Rekey}
use Rattle.ssh_negotiate.specs.declared.negotiation.Names.{Names}
use Rattle.ssh_packet.specs.Stream.{message_type}
use Rattle.ssh_wire.specs.declared.side.Side.{Side}
use Rattle.ssh_wire.specs.declared.side.Side.TheVariants.{Client, Server}
use Rattle.ssh_kex.specs.Messages.{Presented, IsCanonical, is_gex, newkeys, value_message, reply_message, request_message, group_message, bit_size, host_with, presented}
use Rattle.ssh_kex.specs.Setting.{Says, Setting, Opened, IsShortGroup, offers_of, group_of, exchange_of, made_of, kept_of, behind_guess}
use Rattle.ssh_kex.specs.Signature.{judged}
use Rattle.ssh_kex.specs.declared.exchange.Exchange.{Exchange}
use Rattle.ssh_kex.specs.declared.exchange.FinishedExchange.{FinishedExchange}
use Rattle.ssh_kex.specs.declared.exchange.GexChosen.{GexChosen}
use Rattle.ssh_kex.specs.declared.exchange.ServerHost.{ServerHost}
use Rattle.ssh_kex.specs.declared.group.DhGroup.{DhGroup}
use Rattle.ssh_kex.specs.declared.group.GexParams.{GexParams}

-- Where an exchange stands. What a stage keeps stands in the messages so far, or was made of them.
pub data Stage : Type 0 where
  Created : (own_kexinit : List ℕ) → Stage
  AwaitsGroup : (o : Opened) → Stage
  AwaitsReply : (o : Opened) (gex : Option GexChosen) (local public : List ℕ) → Stage
  AwaitsRequest : (o : Opened) → Stage
  AwaitsValue : (o : Opened) (gex : Option GexChosen) → Stage
  AwaitsNewkeys : (exchange : Exchange) (made : FinishedExchange) (host : Option ServerHost) → Stage

-- Which stages each side has; a server waits for the sizes of a group in a group exchange alone.
abbrev pub IsStageOf : Side → Stage → Type 0
IsStageOf side (Created own) = Unit {0}
IsStageOf Client (AwaitsGroup o) = Unit {0}
IsStageOf Server (AwaitsGroup o) = ⊥
IsStageOf Client (AwaitsReply o gex local public) = Unit {0}
IsStageOf Server (AwaitsReply o gex local public) = ⊥
IsStageOf Client (AwaitsRequest o) = ⊥
IsStageOf Server (AwaitsRequest o) = is_gex o.names.kex ≡ true
IsStageOf Client (AwaitsValue o gex) = ⊥
IsStageOf Server (AwaitsValue o gex) = Unit {0}
IsStageOf Client (AwaitsNewkeys exchange made host) = IsTrue (is_some host)
IsStageOf Server (AwaitsNewkeys exchange made host) = IsTrue (is_none host)

-- a machine, as contracts see it
pub record Machine : Type 0 where
  pub setting : Setting
  pub stage : Stage

-- these messages are written, and this stage comes behind
pub record Leads (written : List (List ℕ)) (next : Stage) (messages : List (List ℕ)) (stage : Stage) : Type 0 where
  pub written_is : written ≡ messages
  pub next_is : next ≡ stage

-- under strict key exchange the first KEXINIT is the first packet; `seqn` is its number plus one
abbrev pub IsFirst : KexCause → Bool → ℕ → Type 0
IsFirst Initial strict seqn = strict ≡ true → seqn ≡ 1
IsFirst (Rekey still session_id) strict seqn = Unit {0}

-- a KEXINIT that is taken
pub record ReadsKexinit (s : Setting) (seqn : ℕ) (payload : List ℕ) (names : Names) : Type 0 where
  pub is_kexinit : message_type payload ≡ 20
  pub read : names_read s.side (offers_of s.side s.config) (was_strict s.cause) payload ≡ Ok names
  pub first : IsFirst s.cause names.strict_kex seqn

-- a client's own value is made
pub record StartsWith (says : Says) (o : Opened) (group : Option DhGroup) (local public : List ℕ) : Type 0 where
  pub makes : says.client_makes o.names.kex group local public
  pub short : length public < 2 ^ 31

pub record OpensWithValue (says : Says) (s : Setting) (o : Opened) (written : List (List ℕ)) (next : Stage) : Type 0 where
  pub local : List ℕ
  pub public : List ℕ
  pub starts : StartsWith says o None local public
  pub leads : Leads written next (value_message false public ∷ []) (AwaitsReply o None local public)

-- what follows both KEXINITs: a client asks for a group or sends its value, a server waits
abbrev pub OpensBy : Side → Bool → Says → Setting → Opened → List (List ℕ) → Stage → Type 0
OpensBy Client true says s o written next = Leads written next (request_message s.config.gex ∷ []) (AwaitsGroup o)
OpensBy Client false says s o written next = OpensWithValue says s o written next
OpensBy Server true says s o written next = Leads written next [] (AwaitsRequest o)
OpensBy Server false says s o written next = Leads written next [] (AwaitsValue o None)

-- the peer's KEXINIT
pub record TakesKexinit (says : Says) (s : Setting) (own : List ℕ) (seqn : ℕ) (payload : List ℕ)
    (written : List (List ℕ)) (next : Stage) : Type 0 where
  pub names : Names
  pub reads : ReadsKexinit s seqn payload names
  pub exchanges : (shape_of names.kex).skip ≡ false
  pub offered : says.offers names.kex
  pub opens : OpensBy s.side (is_gex names.kex) says s
      (record { names = names; own_kexinit = own; peer_kexinit = payload }) written next

-- the group of a group exchange, for the sizes that the client asked for
pub record TakesGroup (says : Says) (s : Setting) (o : Opened) (payload : List ℕ) (written : List (List ℕ))
    (next : Stage) : Type 0 where
  pub group : DhGroup
  pub local : List ℕ
  pub public : List ℕ
  pub payload_is : payload ≡ group_message group
  pub canonical : IsCanonical group
  pub short : IsShortGroup (record { params = s.config.gex; group = group })
  pub least : s.config.gex.min_group_size ≤ bit_size group.prime
  pub most : bit_size group.prime ≤ s.config.gex.max_group_size
  pub starts : StartsWith says o (Some group) local public
  pub leads : Leads written next (value_message true public ∷ [])
      (AwaitsReply o (Some (record { params = s.config.gex; group = group })) local public)

-- the server's reply
pub record TakesReply (says : Says) (s : Setting) (o : Opened) (gex : Option GexChosen)
    (local public payload : List ℕ) (written : List (List ℕ)) (next : Stage) : Type 0 where
  pub host : List ℕ
  pub value : List ℕ
  pub signature : List ℕ
  pub secret : List ℕ
  pub payload_is : payload ≡ reply_message (is_gex o.names.kex) host value signature
  pub host_short : length host < 2 ^ 31
  pub value_short : length value < 2 ^ 31
  pub signature_short : length signature < 2 ^ 31
  pub agrees : says.client_makes o.names.kex (group_of gex) local public
      → says.agrees o.names.kex (group_of gex) public value secret
  pub accepts : says.accepts (host_with o.names host)
      (made_of s.cause o.names (exchange_of s o gex public value) host (Some secret)).hash (judged signature)
  pub leads : Leads written next (newkeys ∷ [])
      (AwaitsNewkeys (exchange_of s o gex public value)
      (made_of s.cause o.names (exchange_of s o gex public value) host (Some secret)) (Some (host_with o.names host)))

-- the sizes that a client asks for
pub record TakesRequest (says : Says) (s : Setting) (o : Opened) (payload : List ℕ) (written : List (List ℕ))
    (next : Stage) : Type 0 where
  pub sizes : GexParams
  pub group : DhGroup
  pub payload_is : payload ≡ request_message sizes
  pub finds : says.finds sizes group
  pub short : IsShortGroup (record { params = sizes; group = group })
  pub leads : Leads written next (group_message group ∷ []) (AwaitsValue o (Some (record { params = sizes; group = group })))

-- a client's value: the reply and NEWKEYS are written
pub record TakesValue (says : Says) (s : Setting) (o : Opened) (gex : Option GexChosen) (payload : List ℕ)
    (written : List (List ℕ)) (next : Stage) : Type 0 where
  pub value : List ℕ
  pub own_value : List ℕ
  pub secret : List ℕ
  pub signature : List ℕ
  pub shown : Presented
  pub payload_is : payload ≡ value_message (is_gex o.names.kex) value
  pub value_short : length value < 2 ^ 31
  pub own_value_short : length own_value < 2 ^ 31
  pub host_short : length shown.blob < 2 ^ 31
  pub signature_short : length signature < 2 ^ 31
  pub agrees : says.agrees o.names.kex (group_of gex) value own_value secret
  pub makes : says.server_makes o.names.kex (group_of gex) value own_value
  pub presents : presented s.config.host o.names.host_key_is_certificate o.names.key ≡ Some shown
  pub signs : says.signs (host_with o.names shown.blob)
      (made_of s.cause o.names (exchange_of s o gex value own_value) shown.blob (Some secret)).hash (judged signature)
  pub leads : Leads written next (reply_message (is_gex o.names.kex) shown.blob own_value signature ∷ newkeys ∷ [])
      (AwaitsNewkeys (exchange_of s o gex value own_value)
      (made_of s.cause o.names (exchange_of s o gex value own_value) shown.blob (Some secret)) None)

-- One message that a machine takes: what is written in answer, and the stage behind it.
abbrev pub Takes : Says → Setting → Stage → ℕ → List ℕ → List (List ℕ) → Stage → Type 0
Takes says s (Created own) seqn payload written next = TakesKexinit says s own seqn payload written next
Takes says s (AwaitsGroup o) seqn payload written next = TakesGroup says s o payload written next
Takes says s (AwaitsReply o gex local public) seqn payload written next = TakesReply says s o gex local public payload written next
Takes says s (AwaitsRequest o) seqn payload written next = TakesRequest says s o payload written next
Takes says s (AwaitsValue o gex) seqn payload written next = TakesValue says s o gex payload written next
Takes says s (AwaitsNewkeys exchange made host) seqn payload written next = ⊥

-- the last message, and what the exchange leaves
pub record Ends (payload : List ℕ) (exchange : Exchange) (made : FinishedExchange) (host : Option ServerHost)
    (x : Exchange) (m : FinishedExchange) (h : Option ServerHost) : Type 0 where
  pub payload_is : payload ≡ newkeys
  pub exchange_is : x ≡ exchange
  pub made_is : m ≡ made
  pub host_is : h ≡ host

abbrev pub Finishes : Stage → List ℕ → Exchange → FinishedExchange → Option ServerHost → Type 0
Finishes (Created own) payload x m h = ⊥
Finishes (AwaitsGroup o) payload x m h = ⊥
Finishes (AwaitsReply o gex local public) payload x m h = ⊥
Finishes (AwaitsRequest o) payload x m h = ⊥
Finishes (AwaitsValue o gex) payload x m h = ⊥
Finishes (AwaitsNewkeys exchange made host) payload x m h = Ends payload exchange made host x m h

-- Where no exchange of values was chosen: NEWKEYS is written, and the exchange is at its end with an empty hash.
pub record SkipsAll (s : Setting) (own : List ℕ) (seqn : ℕ) (payload : List ℕ) (written : List (List ℕ))
    (x : Exchange) (m : FinishedExchange) (h : Option ServerHost) : Type 0 where
  pub names : Names
  pub reads : ReadsKexinit s seqn payload names
  pub skips : (shape_of names.kex).skip ≡ true
  pub written_is : written ≡ newkeys ∷ []
  pub exchange_is : x ≡ exchange_of s (record { names = names; own_kexinit = own; peer_kexinit = payload }) None [] []
  pub made_is : m ≡ kept_of s.cause names None []
  pub host_is : h ≡ None

abbrev pub Skips : Setting → Stage → ℕ → List ℕ → List (List ℕ) → Exchange → FinishedExchange → Option ServerHost
    → Type 0
Skips s (Created own) seqn payload written x m h = SkipsAll s own seqn payload written x m h
Skips s (AwaitsGroup o) seqn payload written x m h = ⊥
Skips s (AwaitsReply o gex local public) seqn payload written x m h = ⊥
Skips s (AwaitsRequest o) seqn payload written x m h = ⊥
Skips s (AwaitsValue o gex) seqn payload written x m h = ⊥
Skips s (AwaitsNewkeys exchange made host) seqn payload written x m h = ⊥

-- ---- a wrong guess

-- the stages in which a wrong guess is dropped
abbrev pub drops_guess : Stage → Bool
drops_guess (Created own) = false
drops_guess (AwaitsGroup o) = o.names.ignore_guessed
drops_guess (AwaitsReply o gex local public) = o.names.ignore_guessed
drops_guess (AwaitsRequest o) = o.names.ignore_guessed
drops_guess (AwaitsValue o gex) = o.names.ignore_guessed
drops_guess (AwaitsNewkeys exchange made host) = false

abbrev pub without_guess : Opened → Opened
without_guess o = record o { names = behind_guess o.names }

-- the stage behind it
abbrev pub guess_dropped : Stage → Stage
guess_dropped (Created own) = Created own
guess_dropped (AwaitsGroup o) = AwaitsGroup (without_guess o)
guess_dropped (AwaitsReply o gex local public) = AwaitsReply (without_guess o) gex local public
guess_dropped (AwaitsRequest o) = AwaitsRequest (without_guess o)
guess_dropped (AwaitsValue o gex) = AwaitsValue (without_guess o) gex
guess_dropped (AwaitsNewkeys exchange made host) = AwaitsNewkeys exchange made host

-- ---- what a machine tells

-- the names, once the peer's KEXINIT was read
abbrev pub names_in_stage : Stage → Option Names
names_in_stage (Created own) = None
names_in_stage (AwaitsGroup o) = Some o.names
names_in_stage (AwaitsReply o gex local public) = Some o.names
names_in_stage (AwaitsRequest o) = Some o.names
names_in_stage (AwaitsValue o gex) = Some o.names
names_in_stage (AwaitsNewkeys exchange made host) = Some made.names

abbrev pub is_strict : Option Names → Bool
is_strict None = false
is_strict (Some n) = n.strict_kex

abbrev pub has_ignored : Option Names → Bool
has_ignored None = false
has_ignored (Some n) = n.guessed_ignored

-- the numbers begin again behind an own NEWKEYS under strict key exchange
abbrev pub resets : KexCause → Stage → Bool
resets cause (Created own) = false
resets cause (AwaitsGroup o) = false
resets cause (AwaitsReply o gex local public) = false
resets cause (AwaitsRequest o) = false
resets cause (AwaitsValue o gex) = false
resets cause (AwaitsNewkeys exchange made host) = made.names.strict_kex || was_strict cause
