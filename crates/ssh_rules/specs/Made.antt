-- What each side knows of an exchange that it recorded, from its own messages and the other's.
use Rattle.std.specs.Prelude.{◌≡◌, ℕ, ◌<◌, ◌≤◌, ◌^◌, List, length, is_some, Option, Some, None, IfSome, Ok}
use Rattle.ssh_negotiate.specs.Advertised.{kexinit}
use Rattle.ssh_negotiate.specs.Causes.{was_strict}
use Rattle.ssh_negotiate.specs.Reading.{names_read}
use Rattle.ssh_negotiate.specs.declared.negotiation.Names.{Names}
use Rattle.ssh_wire.specs.declared.side.Side.{Side}
use Rattle.ssh_wire.specs.declared.side.Side.TheVariants.{Client, Server}
use Rattle.ssh_kex.specs.Messages.{Presented, IsCanonical, is_gex, bit_size, host_with, presented}
use Rattle.ssh_kex.specs.Setting.{Says, Setting, IsShortGroup, offers_of, group_of, made_of, held_names}
use Rattle.ssh_kex.specs.Signature.{judged}
use Rattle.ssh_kex.specs.declared.exchange.Exchange.{Exchange}
use Rattle.ssh_kex.specs.declared.exchange.FinishedExchange.{FinishedExchange}
use Rattle.ssh_kex.specs.declared.exchange.GexChosen.{GexChosen}
use Rattle.ssh_kex.specs.declared.exchange.ServerHost.{ServerHost}
use Rattle.ssh_kex.specs.declared.group.GexParams.{GexParams}
use Rattle.ssh_rules.specs.ExchangeMessages.{client_messages, server_messages}

-- lengths that four bytes can say
pub record HasShortStrings (e : Exchange) (host signature : List ℕ) : Type 0 where
  pub client_value : length e.client_ephemeral < 2 ^ 32
  pub host_blob : length host < 2 ^ 32
  pub server_value : length e.server_ephemeral < 2 ^ 32
  pub signed : length signature < 2 ^ 32
  pub group : IfSome e.gex IsShortGroup

-- a group for a client's own sizes, as it is read
pub record IsOwnGroup (sizes : GexParams) (g : GexChosen) : Type 0 where
  pub params_are : g.params ≡ sizes
  pub canonical : IsCanonical g.group
  pub least : sizes.min_group_size ≤ bit_size g.group.prime
  pub most : bit_size g.group.prime ≤ sizes.max_group_size

-- ---- what each side knows

-- what a client knows of a record, of the host that it accepted, and of the messages on both sides
pub record MadeClient (says : Says) (s : Setting) (own theirs : List (List ℕ)) (e : Exchange) (x : FinishedExchange)
    (h : Option ServerHost) : Type 0 where
  pub client_id : e.client_id ≡ s.client_id
  pub server_id : e.server_id ≡ s.server_id
  pub host : List ℕ
  pub signature : List ℕ
  pub short : HasShortStrings e host signature
  pub own_is : own ≡ client_messages e
  pub theirs_is : theirs ≡ server_messages e host signature
  pub cookie : List ℕ
  pub cookie_length : length cookie ≡ 16
  pub kexinit_is : e.client_kex_init ≡ kexinit (offers_of Client s.config) cookie
  pub read_names : Names
  pub read : names_read Client (offers_of Client s.config) (was_strict s.cause) e.server_kex_init ≡ Ok read_names
  pub names : Names
  pub names_are : names ≡ held_names read_names
  pub offered : says.offers names.kex
  pub kind : is_gex names.kex ≡ is_some e.gex
  pub group : IfSome e.gex (IsOwnGroup s.config.gex)
  pub local : List ℕ
  pub makes : says.client_makes names.kex (group_of e.gex) local e.client_ephemeral
  pub secret : List ℕ
  pub agrees : says.agrees names.kex (group_of e.gex) e.client_ephemeral e.server_ephemeral secret
  pub accepts : says.accepts (host_with names host) x.hash (judged signature)
  pub made : x ≡ made_of s.cause names e host (Some secret)
  pub host_is : h ≡ Some (host_with names host)

-- what a server knows
pub record MadeServer (says : Says) (s : Setting) (own theirs : List (List ℕ)) (e : Exchange) (x : FinishedExchange)
    (h : Option ServerHost) : Type 0 where
  pub client_id : e.client_id ≡ s.client_id
  pub server_id : e.server_id ≡ s.server_id
  pub shown : Presented
  pub signature : List ℕ
  pub short : HasShortStrings e shown.blob signature
  pub own_is : own ≡ server_messages e shown.blob signature
  pub theirs_is : theirs ≡ client_messages e
  pub cookie : List ℕ
  pub cookie_length : length cookie ≡ 16
  pub kexinit_is : e.server_kex_init ≡ kexinit (offers_of Server s.config) cookie
  pub read_names : Names
  pub read : names_read Server (offers_of Server s.config) (was_strict s.cause) e.client_kex_init ≡ Ok read_names
  pub names : Names
  pub names_are : names ≡ held_names read_names
  pub offered : says.offers names.kex
  pub kind : is_gex names.kex ≡ is_some e.gex
  pub finds : IfSome e.gex (λ (g : GexChosen). says.finds g.params g.group)
  pub makes : says.server_makes names.kex (group_of e.gex) e.client_ephemeral e.server_ephemeral
  pub secret : List ℕ
  pub agrees : says.agrees names.kex (group_of e.gex) e.client_ephemeral e.server_ephemeral secret
  pub presents : presented s.config.host names.host_key_is_certificate names.key ≡ Some shown
  pub signs : says.signs (host_with names shown.blob) x.hash (judged signature)
  pub made : x ≡ made_of s.cause names e shown.blob (Some secret)
  pub host_is : h ≡ None

-- what a side knows
abbrev pub MadeBy : Side → Says → Setting → List (List ℕ) → List (List ℕ) → Exchange → FinishedExchange
    → Option ServerHost → Type 0
MadeBy Client says s own theirs e x h = MadeClient says s own theirs e x h
MadeBy Server says s own theirs e x h = MadeServer says s own theirs e x h

-- An exchange is recorded that was made of two blocks of messages, where its host is trusted.
pub record IsRecorded (side : Side) (says : Says) (s : Setting) (own theirs : List (List ℕ))
    (x : FinishedExchange) : Type 0 where
  pub exchange : Exchange
  pub host : Option ServerHost
  pub made : MadeBy side says s own theirs exchange x host
  pub trusted : IfSome host says.trusts
