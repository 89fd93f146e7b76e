-- Which packet may come next on a side's wire.
use Rattle.std.specs.Prelude.{◌≡◌, ◌⊎◌, ℕ, zero, suc, ◌<◌, List, [], ◌∷◌, ◌++◌, length, drop, slice_get, Bool, true, false, Option, Some, if◌then◌else◌, option_copied}
use Rattle.ssh_wire.specs.declared.side.Side.{Side}
use Rattle.ssh_wire.specs.declared.side.Side.TheVariants.{Server}
use Rattle.ssh_packet.specs.Sealing.{Item}
use Rattle.ssh_negotiate.specs.Advertised.{kexinit}
use Rattle.ssh_kex.specs.Setting.{offers_of}
use Rattle.ssh_kex.specs.declared.config.Config.{Config}
use Rattle.ssh_rules.specs.Fills.{Fills, messages}
use Rattle.ssh_rules.specs.Headline.{submitted_by}
use Rattle.ssh_rules.specs.MessageTypes.{is_payload_type, order, type_of}
use Rattle.ssh_rules.specs.Wire.{HasForm, HasFront, InBlocks, carried_payloads, epochs_ended, exchange_block}
use Rattle.ssh_rules.specs.declared.link.Step.{Step}
use Rattle.ssh_blocks.specs.declared.judge.PacketJudge.{PacketJudge}
use Rattle.ssh_blocks.specs.declared.rules.WireRules.{WireRules}

-- What is asked of a side's packets beside their bytes and their padding: the rest of `IsWire`.
pub record Fits (side : Side) (config : Config) (kind : Bool) (host : Option (List ℕ)) (submitted : List (List ℕ)) (items : List Item) : Type 0 where
  pub payloads : HasFront submitted (carried_payloads items)
  pub blocks : InBlocks side (λ k. kind) 1 (order side kind) items
  pub forms : (k : ℕ) → HasForm side config kind host (exchange_block k items)

-- what a side's messages are measured by is that of a configuration
pub record IsRulesOf (side : Side) (config : Config) (kind : Bool) (host : Option (List ℕ)) (r : WireRules) : Type 0 where
  pub side_is : r.side ≡ side
  pub kind_is : r.kind ≡ kind
  pub sizes : r.sizes ≡ config.gex
  pub presents : side ≡ Server → option_copied r.host ≡ host
  pub cookie : List ℕ
  pub sixteen : length cookie ≡ 16
  pub kexinit : r.kexinit.now ≡ kexinit (offers_of side config) cookie

-- where the reply stands in a server's block
abbrev pub reply_place : Bool → ℕ
reply_place kind = if kind then 2 else 1

-- a message of a block, by its place from 0, with some values
pub record IsMessageAt (side : Side) (config : Config) (kind : Bool) (host : Option (List ℕ)) (place : ℕ) (message : List ℕ) : Type 0 where
  pub fills : Fills
  pub at : slice_get (messages side config kind fills) place ≡ Some message
  pub cookie : length fills.cookie ≡ 16
  pub presents : side ≡ Server → place ≡ reply_place kind → host ≡ Some fills.host

-- from the types that the open block still has to bring, over these packets, to those that it then has to bring
abbrev pub LeadsTo : Side → Bool → List ℕ → List Item → List ℕ → Type 0
LeadsTo side kind due [] left = due ≡ left
LeadsTo side kind (t ∷ due) (i ∷ items) left = (type_of i ≡ t) × LeadsTo side kind due items left
LeadsTo side kind [] (i ∷ items) left = ((is_payload_type (type_of i) ≡ true) × LeadsTo side kind [] items left)
    ⊎ ((type_of i ≡ 20) × LeadsTo side kind (drop 1 (order side kind)) items left)

-- what the open block still has to bring: all before the first block, nothing between two
abbrev pub due_behind : Bool → ℕ → List ℕ → List ℕ
due_behind false place order = order
due_behind true zero order = []
due_behind true (suc place) order = drop (suc place) order

-- a payload may come next, and this is the type of one
pub record IsPayloadDue (judge : PacketJudge) (t : ℕ) : Type 0 where
  pub between : judge.place ≡ 0
  pub begun : judge.has_begun ≡ true
  pub payload : is_payload_type t ≡ true

-- A judge has taken these packets.
pub record HasTaken (side : Side) (config : Config) (kind : Bool) (host : Option (List ℕ)) (steps : List Step) (items : List Item) (judge : PacketJudge) : Type 0 where
  pub fits : Fits side config kind host (submitted_by side steps) items
  pub rules : IsRulesOf side config kind host judge.rules
  pub order_is : judge.order.now ≡ order side kind
  pub within : judge.place < length (order side kind)
  pub first : judge.has_begun ≡ false → judge.place ≡ 0
  pub leads : LeadsTo side kind (order side kind) items (due_behind judge.has_begun judge.place (order side kind))
  pub begun : length (exchange_block (epochs_ended items) items) ≡ judge.place
  pub left : carried_payloads items ++ submitted_by side judge.steps.now ≡ submitted_by side steps

-- it has taken one packet more
abbrev pub TakesOn : PacketJudge → List ℕ → PacketJudge → Type 0
TakesOn old payload new =
    (side : Side) (config : Config) (kind : Bool) (host : Option (List ℕ)) (steps : List Step) (items : List Item) (i : Item)
    → i.payload ≡ payload → HasTaken side config kind host steps items old → HasTaken side config kind host steps (items ++ i ∷ []) new

-- no packet of the payload may come next
abbrev pub MayNotCome : PacketJudge → List ℕ → Type 0
MayNotCome old payload =
    (side : Side) (config : Config) (kind : Bool) (host : Option (List ℕ)) (steps : List Step) (items : List Item) (i : Item)
    → i.payload ≡ payload → HasTaken side config kind host steps items old
    → Fits side config kind host (submitted_by side steps) (items ++ i ∷ []) → ⊥
