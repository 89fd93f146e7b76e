-- What the fields of a server's machine stand for, and what they keep.
use Rattle.std.specs.Prelude.{◌≡◌, ◌<◌, ◌^◌, Bool, true, false, [], length, Some, None}
use Rattle.ssh_negotiate.specs.Laws.{AreShort}
use Rattle.ssh_negotiate.specs.Tables.{shape_of}
use Rattle.ssh_negotiate.specs.declared.kex.KexCause.{KexCause}
use Rattle.ssh_negotiate.specs.declared.negotiation.Names.{Names}
use Rattle.ssh_wire.specs.declared.side.Side.TheVariants.{Server}
use Rattle.ssh_packet.specs.Writing.{SameButRoom, Writer}
use Rattle.ssh_kex.specs.Views.{EndsAtOnce, HasKeys}
use Rattle.ssh_kex.specs.Messages.{Presented, is_gex, presented}
use Rattle.ssh_server_kex.specs.ServerRows.{AreShortBlobs, CanAnswer}
use Rattle.ssh_kex.specs.Setting as opening
use Rattle.ssh_kex.specs.Setting.{Opened, offers_of}
use Rattle.ssh_kex.specs.Stages.{Machine, Stage, Created, AwaitsRequest, AwaitsValue, AwaitsNewkeys}
use Rattle.ssh_kex.specs.declared.config.Config.{Config}
use Rattle.ssh_kex.specs.declared.exchange.Exchange.{Exchange}
use Rattle.ssh_kex.specs.declared.progress.KexProgress.{KexProgress}
use Rattle.ssh_kex.specs.declared.progress.KexProgress.TheVariants.{NeedsReply}
use Rattle.ssh_server_kex.specs.declared.server_kex.ServerState.{ServerState}
use Rattle.ssh_server_kex.specs.declared.server_kex.ServerState.TheVariants as states

abbrev pub server_opened : Exchange → Names → Opened
server_opened x n = record { names = n; own_kexinit = x.server_kex_init; peer_kexinit = x.client_kex_init }

abbrev pub server_stage : Exchange → ServerState → Stage
server_stage x states.Created = Created x.server_kex_init
server_stage x (states.AwaitsRequest names) = AwaitsRequest (server_opened x names)
server_stage x (states.AwaitsValue names) = AwaitsValue (server_opened x names) x.gex
server_stage x (states.AwaitsNewkeys made cipher) = AwaitsNewkeys x made None

abbrev pub server_machine : Config → KexCause → Exchange → ServerState → Machine
server_machine config cause x state = record {
  setting = record { side = Server; config = config; client_id = x.client_id; server_id = x.server_id; cause = cause };
  stage = server_stage x state;
}

-- whether the next message is a wrong guess, and the state behind it
abbrev pub server_drops_guess : ServerState → Bool
server_drops_guess states.Created = false
server_drops_guess (states.AwaitsRequest names) = names.ignore_guessed
server_drops_guess (states.AwaitsValue names) = names.ignore_guessed
server_drops_guess (states.AwaitsNewkeys made cipher) = false

abbrev pub server_behind_guess : ServerState → ServerState
server_behind_guess states.Created = states.Created
server_behind_guess (states.AwaitsRequest names) = states.AwaitsRequest (opening.behind_guess names)
server_behind_guess (states.AwaitsValue names) = states.AwaitsValue (opening.behind_guess names)
server_behind_guess (states.AwaitsNewkeys made cipher) = states.AwaitsNewkeys made cipher

-- before the peer's KEXINIT
pub record IsFresh (config : Config) (x : Exchange) : Type 0 where
  pub lists : AreShort (offers_of Server config)
  pub blobs : AreShortBlobs config.host
  pub client_id : length x.client_id < 2 ^ 31
  pub server_id : length x.server_id < 2 ^ 31
  pub server_kex_init : length x.server_kex_init < 2 ^ 31
  pub client_ephemeral : x.client_ephemeral ≡ []
  pub server_ephemeral : x.server_ephemeral ≡ []
  pub gex : x.gex ≡ None

-- before the sizes of a group are there
pub record CanAsk (config : Config) (n : Names) (x : Exchange) : Type 0 where
  pub blobs : AreShortBlobs config.host
  pub client_id : length x.client_id < 2 ^ 31
  pub server_id : length x.server_id < 2 ^ 31
  pub client_kex_init : length x.client_kex_init < 2 ^ 31
  pub server_kex_init : length x.server_kex_init < 2 ^ 31
  pub kind : is_gex n.kex ≡ true
  pub exchanges : (shape_of n.kex).skip ≡ false
  pub shown : Presented
  pub presents : presented config.host n.host_key_is_certificate n.key ≡ Some shown

abbrev pub ServerKeeps : Config → Exchange → ServerState → Type 0
ServerKeeps config x states.Created = IsFresh config x
ServerKeeps config x (states.AwaitsRequest names) = CanAsk config names x
ServerKeeps config x (states.AwaitsValue names) = CanAnswer config names x
ServerKeeps config x (states.AwaitsNewkeys made cipher) = HasKeys Server made cipher

-- what is needed behind the client's KEXINIT, in a group exchange and outside one
abbrev pub CanBegin : Bool → Config → Names → Exchange → Type 0
CanBegin true config n x = CanAsk config n x
CanBegin false config n x = CanAnswer config n x

-- what follows the names: the end at once, or the wait for the sizes of a group or for a value
abbrev pub Begins : Bool → Bool → Config → KexCause → Exchange → Names → KexProgress Machine → Writer → Writer → Type 0
Begins true gex config cause x n p w w' = EndsAtOnce Server cause x n p w w'
Begins false true config cause x n p w w' =
    (p ≡ NeedsReply (server_machine config cause x (states.AwaitsRequest n)) false) × SameButRoom w w'
Begins false false config cause x n p w w' =
    (p ≡ NeedsReply (server_machine config cause x (states.AwaitsValue n)) false) × SameButRoom w w'
