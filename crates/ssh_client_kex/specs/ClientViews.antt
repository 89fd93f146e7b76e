-- What the fields of a client's machine stand for.
use Rattle.std.specs.Prelude.{◌≡◌, ◌<◌, ◌^◌, ℕ, Bool, true, false, List, [], length, is_some, Option, None, Some, IfSome}
use Rattle.ssh_negotiate.specs.Laws.{AreShort}
use Rattle.ssh_negotiate.specs.Tables.{shape_of}
use Rattle.ssh_negotiate.specs.declared.kex.KexCause.{KexCause}
use Rattle.ssh_negotiate.specs.declared.negotiation.Names.{Names}
use Rattle.ssh_wire.specs.declared.side.Side.TheVariants.{Client}
use Rattle.ssh_kex.specs.Agreeing.{Agreeing}
use Rattle.ssh_kex.specs.Messages.{is_gex}
use Rattle.ssh_kex.specs.Setting as opening
use Rattle.ssh_kex.specs.Setting.{Opened, Setting, group_of, offers_of}
use Rattle.ssh_kex.specs.Stages.{Machine, Stage, Created, AwaitsGroup, AwaitsReply, AwaitsNewkeys}
use Rattle.ssh_kex.specs.Views.{HasKeys, HasShortSides}
use Rattle.ssh_client_kex.specs.declared.client_kex.ClientState.{ClientState}
use Rattle.ssh_client_kex.specs.declared.client_kex.ClientState.TheVariants as states
use Rattle.ssh_kex.specs.declared.config.Config.{Config}
use Rattle.ssh_kex.specs.declared.exchange.Exchange.{Exchange}
use Rattle.ssh_kex.specs.declared.exchange.GexChosen.{GexChosen}

abbrev pub client_opened : Exchange → Names → Opened
client_opened x n = record { names = n; own_kexinit = x.client_kex_init; peer_kexinit = x.server_kex_init }

-- the local value, no bytes where there is none
abbrev pub local_of : Option (List ℕ) → List ℕ
local_of None = []
local_of (Some local) = local

abbrev pub client_stage : Exchange → ClientState → Stage
client_stage x states.Created = Created x.client_kex_init
client_stage x (states.AwaitsGroup names) = AwaitsGroup (client_opened x names)
client_stage x (states.AwaitsReply names algorithm) = AwaitsReply (client_opened x names) x.gex (local_of algorithm.local) x.client_ephemeral
client_stage x (states.AwaitsNewkeys host made cipher) = AwaitsNewkeys x made (Some host)

abbrev pub client_setting : Config → KexCause → Exchange → Setting
client_setting config cause x = record { side = Client; config = config; client_id = x.client_id; server_id = x.server_id; cause = cause }

abbrev pub client_machine : Config → KexCause → Exchange → ClientState → Machine
client_machine config cause x state = record { setting = client_setting config cause x; stage = client_stage x state }

-- whether the next message is a wrong guess, and the state behind it
abbrev pub client_drops_guess : ClientState → Bool
client_drops_guess states.Created = false
client_drops_guess (states.AwaitsGroup names) = names.ignore_guessed
client_drops_guess (states.AwaitsReply names algorithm) = names.ignore_guessed
client_drops_guess (states.AwaitsNewkeys host made cipher) = false

abbrev pub client_behind_guess : ClientState → ClientState
client_behind_guess states.Created = states.Created
client_behind_guess (states.AwaitsGroup names) = states.AwaitsGroup (opening.behind_guess names)
client_behind_guess (states.AwaitsReply names algorithm) = states.AwaitsReply (opening.behind_guess names) algorithm
client_behind_guess (states.AwaitsNewkeys host made cipher) = states.AwaitsNewkeys host made cipher

-- an exchange whose values aren't there yet
pub record HasNoValues (x : Exchange) : Type 0 where
  pub client : x.client_ephemeral ≡ []
  pub server : x.server_ephemeral ≡ []
  pub gex : x.gex ≡ None

-- a group that can be hashed
abbrev pub HasShortGroup : Option GexChosen → Type 0
HasShortGroup gex = IfSome gex (λ (g : GexChosen). (length g.group.prime < 2 ^ 31)
    × (length g.group.generator < 2 ^ 31))

-- the client's value is there, and what it was made of
pub record HasValue (x : Exchange) (n : Names) (algorithm : Agreeing) : Type 0 where
  pub name_is : algorithm.name ≡ n.kex
  pub group_is : algorithm.group ≡ group_of x.gex
  pub local_is : algorithm.local ≡ Some (local_of algorithm.local)
  pub exchanges : (shape_of n.kex).skip ≡ false
  pub value_short : length x.client_ephemeral < 2 ^ 31
  pub group_short : HasShortGroup x.gex
  pub kind : is_some x.gex ≡ is_gex n.kex

-- what a client's machine holds in each state
abbrev pub ClientHolds : Config → Exchange → ClientState → Type 0
ClientHolds config x states.Created = AreShort (offers_of Client config) × HasShortSides x × HasNoValues x
ClientHolds config x (states.AwaitsGroup names) = HasShortSides x × ((shape_of names.kex).skip ≡ false)
    × (is_gex names.kex ≡ true)
ClientHolds config x (states.AwaitsReply names algorithm) = HasShortSides x × HasValue x names algorithm
ClientHolds config x (states.AwaitsNewkeys host made cipher) = HasKeys Client made cipher
