-- From the same messages both sides make the same record.
use Rattle.std.specs.Prelude.{◌≡◌, ℕ, List, Option}
use Rattle.ssh_negotiate.specs.Laws.{IsWithin}
use Rattle.ssh_negotiate.specs.declared.kex.Name as kexes
use Rattle.ssh_wire.specs.declared.side.Side.TheVariants.{Client, Server}
use Rattle.ssh_kex.specs.Messages.{IsCanonical}
use Rattle.ssh_kex.specs.Parts.{Setup}
use Rattle.ssh_kex.specs.Setting.{Says, Setting, offers_of}
use Rattle.ssh_kex.specs.declared.exchange.Exchange.{Exchange}
use Rattle.ssh_kex.specs.declared.exchange.FinishedExchange.{FinishedExchange}
use Rattle.ssh_kex.specs.declared.exchange.ServerHost.{ServerHost}
use Rattle.ssh_kex.specs.declared.group.DhGroup.{DhGroup}
use Rattle.ssh_kex.specs.declared.group.GexParams.{GexParams}
use Rattle.ssh_rules.specs.Made.{MadeClient, MadeServer}
use Rattle.ssh_kex.specs.Members.{AgreementMembers, GroupLookupMembers, HostKeysMembers}
use Rattle.ssh_kex.specs.Stepping.{says_of}

-- what both sides made leaves one secret
abbrev pub OneSecret : Says → Says → Type 0
OneSecret c s = (name : kexes.Name) (group : Option DhGroup) (local client server x y : List ℕ)
    → c.client_makes name group local client → s.server_makes name group client server → c.agrees name group client server x
    → s.agrees name group client server y → x ≡ y

-- a group that is found is written without leading zeros
abbrev pub FindsCanonical : Says → Type 0
FindsCanonical s = (sizes : GexParams) (group : DhGroup) → s.finds sizes group → IsCanonical group

-- the two settings are of one link
pub record OneLink (c s : Setting) : Type 0 where
  pub client_id : c.client_id ≡ s.client_id
  pub server_id : c.server_id ≡ s.server_id
  pub cause : c.cause ≡ s.cause

-- of two settings of one link: from the same two blocks both sides make one record
abbrev pub MakesOneRecord : Says → Says → Type 0
MakesOneRecord client server = OneSecret client server → FindsCanonical server
    → (c s : Setting) (a b : List (List ℕ)) (d e : Exchange) (x y : FinishedExchange) (g h : Option ServerHost) →
    IsWithin (offers_of Client c.config) → IsWithin (offers_of Server s.config) → OneLink c s
    → MadeClient client c a b d x g → MadeServer server s b a e y h → (x ≡ y) × (d ≡ e)

-- The same of parts that are lawful under both sides' configurations; `says` is what parts say, by their side's.
abbrev pub RecordsAgree : {A H G : Type 0} → AgreementMembers A → HostKeysMembers H → GroupLookupMembers G → Type 0
RecordsAgree {A} {H} {G} ma mh mg =
    (setup : Setup) (a b : A) (h i : H) (g j : G) → ma.lawful a setup → ma.lawful b setup → mg.lawful j setup
    → (c s : Setting) → c.config ≡ setup.client → s.config ≡ setup.server
    → (own theirs : List (List ℕ)) (d e : Exchange) (x y : FinishedExchange) (k l : Option ServerHost)
    → IsWithin (offers_of Client c.config) → IsWithin (offers_of Server s.config) → OneLink c s
    → MadeClient (says_of ma mh mg c.config a h g) c own theirs d x k → MadeServer (says_of ma mh mg s.config b i j) s theirs own e y l
    → (x ≡ y) × (d ≡ e)
