-- What a stage keeps is what stands in the messages of the exchange so far.
use Rattle.std.specs.Prelude.{◌≡◌, ℕ, ◌<◌, ◌^◌, List, [], ◌∷◌, ◌++◌, length, true, is_some, Option, None, Some, IfSome, Ok, ◌⊎◌}
use Rattle.ssh_negotiate.specs.Advertised.{kexinit}
use Rattle.ssh_negotiate.specs.Causes.{was_strict}
use Rattle.ssh_negotiate.specs.Reading.{names_read}
use Rattle.ssh_negotiate.specs.declared.kex.Name.{Name as KexName}
use Rattle.ssh_negotiate.specs.declared.negotiation.Names.{Names}
use Rattle.ssh_wire.specs.declared.side.Side.{Side}
use Rattle.ssh_wire.specs.declared.side.Side.TheVariants.{Client, Server}
use Rattle.ssh_kex.specs.Messages.{is_gex, newkeys, value_message, request_message}
use Rattle.ssh_kex.specs.Parts.{HasItsGroup}
use Rattle.ssh_kex.specs.Setting.{Says, Setting, Opened, IsShortGroup, offers_of, group_of, behind_guess}
use Rattle.ssh_kex.specs.Stages.{Stage, Created, AwaitsGroup, AwaitsReply, AwaitsRequest, AwaitsValue, AwaitsNewkeys}
use Rattle.ssh_kex.specs.declared.config.Config.{Config}
use Rattle.ssh_kex.specs.declared.exchange.GexChosen.{GexChosen}
use Rattle.ssh_rules.specs.Machine.{Where, Silent, Outside, Inside, SideState, setting, Event, IdHeard, PayloadSubmitted, ExchangeBegun, AnswerSent, PayloadSent, MessageTaken, GuessDropped, PayloadDelivered, PacketDropped, ExchangeFinished}
use Rattle.ssh_rules.specs.Made.{MadeBy, IsOwnGroup}
use Rattle.ssh_rules.specs.ExchangeMessages.{requests, groups}

-- the messages of the open exchange, own and the other's
pub record Trace : Type 0 where
  pub own : List (List ℕ)
  pub theirs : List (List ℕ)

abbrev pub no_trace : Trace
no_trace = record { own = []; theirs = [] }

abbrev pub trace_after : Trace → Event → Trace
trace_after t (ExchangeBegun cause i) = record { own = i.payload ∷ []; theirs = [] }
trace_after t (AnswerSent i again) = record t { own = t.own ++ i.payload ∷ [] }
trace_after t (MessageTaken i) = record t { theirs = t.theirs ++ i.payload ∷ [] }
trace_after t (ExchangeFinished i x) = no_trace
trace_after t (IdHeard id) = t
trace_after t (PayloadSubmitted p) = t
trace_after t (PayloadSent i) = t
trace_after t (GuessDropped i) = t
trace_after t (PayloadDelivered i) = t
trace_after t (PacketDropped i) = t

-- the names that a stage holds: those that were read, or those behind a dropped guess
abbrev pub Holds : Names → Names → Type 0
Holds read held = (held ≡ read) ⊎ ((read.ignore_guessed ≡ true) × (held ≡ behind_guess read))

pub record OpenedBy (says : Says) (s : Setting) (o : Opened) : Type 0 where
  pub cookie : List ℕ
  pub cookie_length : length cookie ≡ 16
  pub own : o.own_kexinit ≡ kexinit (offers_of s.side s.config) cookie
  pub read_names : Names
  pub read : names_read s.side (offers_of s.side s.config) (was_strict s.cause) o.peer_kexinit ≡ Ok read_names
  pub held : Holds read_names o.names
  pub offered : says.offers o.names.kex

-- own messages with those that are still owed, and the other's
pub record FitsCreated (s : Setting) (k : List ℕ) (own theirs : List (List ℕ)) : Type 0 where
  pub cookie : List ℕ
  pub cookie_length : length cookie ≡ 16
  pub kexinit_is : k ≡ kexinit (offers_of s.side s.config) cookie
  pub own_is : own ≡ k ∷ []
  pub theirs_is : theirs ≡ []

pub record FitsGroup (says : Says) (s : Setting) (o : Opened) (own theirs : List (List ℕ)) : Type 0 where
  pub opened : OpenedBy says s o
  pub client : s.side ≡ Client
  pub kind : is_gex o.names.kex ≡ true
  pub own_is : own ≡ o.own_kexinit ∷ request_message s.config.gex ∷ []
  pub theirs_is : theirs ≡ o.peer_kexinit ∷ []

pub record FitsReply (says : Says) (s : Setting) (o : Opened) (gex : Option GexChosen) (local public : List ℕ) (own theirs : List (List ℕ)) : Type 0 where
  pub opened : OpenedBy says s o
  pub client : s.side ≡ Client
  pub kind : is_gex o.names.kex ≡ is_some gex
  pub own_is : own ≡ o.own_kexinit ∷ (requests gex ++ value_message (is_some gex) public ∷ [])
  pub theirs_is : theirs ≡ o.peer_kexinit ∷ groups gex
  pub makes : says.client_makes o.names.kex (group_of gex) local public
  pub short : length public < 2 ^ 31
  pub group : IfSome gex (IsOwnGroup s.config.gex)
  pub short_group : IfSome gex IsShortGroup

pub record FitsRequest (says : Says) (s : Setting) (o : Opened) (own theirs : List (List ℕ)) : Type 0 where
  pub opened : OpenedBy says s o
  pub server : s.side ≡ Server
  pub kind : is_gex o.names.kex ≡ true
  pub own_is : own ≡ o.own_kexinit ∷ []
  pub theirs_is : theirs ≡ o.peer_kexinit ∷ []

pub record FitsValue (says : Says) (s : Setting) (o : Opened) (gex : Option GexChosen) (own theirs : List (List ℕ)) : Type 0 where
  pub opened : OpenedBy says s o
  pub server : s.side ≡ Server
  pub kind : is_gex o.names.kex ≡ is_some gex
  pub own_is : own ≡ o.own_kexinit ∷ groups gex
  pub theirs_is : theirs ≡ o.peer_kexinit ∷ requests gex
  pub finds : IfSome gex (λ (g : GexChosen). says.finds g.params g.group)
  pub short_group : IfSome gex IsShortGroup

abbrev pub FitsStage : Says → Setting → Stage → List (List ℕ) → List (List ℕ) → Type 0
FitsStage says s (Created k) own theirs = FitsCreated s k own theirs
FitsStage says s (AwaitsGroup o) own theirs = FitsGroup says s o own theirs
FitsStage says s (AwaitsReply o gex local public) own theirs = FitsReply says s o gex local public own theirs
FitsStage says s (AwaitsRequest o) own theirs = FitsRequest says s o own theirs
FitsStage says s (AwaitsValue o gex) own theirs = FitsValue says s o gex own theirs
FitsStage says s (AwaitsNewkeys e x host) own theirs = MadeBy s.side says s own (theirs ++ newkeys ∷ []) e x host

pub record FitsNothing (own theirs : List (List ℕ)) : Type 0 where
  pub own_is : own ≡ []
  pub theirs_is : theirs ≡ []

abbrev pub FitsWhere : Says → Setting → Where → List (List ℕ) → List (List ℕ) → Type 0
FitsWhere says s Silent own theirs = FitsNothing own theirs
FitsWhere says s Outside own theirs = FitsNothing own theirs
FitsWhere says s (Inside stage) own theirs = FitsStage says s stage own theirs

abbrev pub Fits : Says → Side → Config → List ℕ → SideState → Trace → Type 0
Fits says side config own_id st t = FitsWhere says (setting side config own_id st) st.stands (t.own ++ st.owed) t.theirs

-- the group that is held of an exchange of its kind
pub its_group : (name : KexName) (gex : Option GexChosen) → is_gex name ≡ is_some gex → HasItsGroup name (group_of gex)
its_group name None k = k
its_group name (Some g) k = k
