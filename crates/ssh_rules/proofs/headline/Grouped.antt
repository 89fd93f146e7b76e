-- In an honest link each group exchange is in the group that the server's lookup found for the client's sizes.
use Rattle.std.proofs.Common.{◌≡◌, ℕ, List, ◌∷◌, ◌++◌, slice_get, refl, sym, ◌∙◌, ap, subst, Option, Some, None, true}
use Rattle.std.specs.Prelude.{is_some, IfSome}
use Rattle.ssh_wire.specs.Lines.{id_text}
use Rattle.ssh_wire.specs.declared.side.Side.{Side}
use Rattle.ssh_wire.specs.declared.side.Side.TheVariants.{Client, Server}
use Rattle.ssh_negotiate.specs.Laws.{IsWithin}
use Rattle.ssh_negotiate.specs.declared.negotiation.Names.{Names}
use Rattle.ssh_kex.specs.Messages.{group_message, is_gex}
use Rattle.ssh_kex.specs.Setting.{Says, offers_of}
use Rattle.ssh_kex.specs.declared.config.Config.{Config}
use Rattle.ssh_kex.specs.declared.exchange.Exchange.{Exchange}
use Rattle.ssh_kex.specs.declared.exchange.FinishedExchange.{FinishedExchange}
use Rattle.ssh_kex.specs.declared.exchange.GexChosen.{GexChosen}
use Rattle.ssh_kex.specs.declared.exchange.ServerHost.{ServerHost}
use Rattle.ssh_kex.specs.declared.group.DhGroup.{DhGroup}
use Rattle.ssh_kex.specs.declared.group.GexParams.{GexParams}
use Rattle.ssh_rules.specs.ExchangeMessages.{groups}
use Rattle.ssh_rules.specs.Headline.{HaveGroup, IsInGroup}
use Rattle.ssh_rules.specs.Laws.{FindsCanonical, OneSecret}
use Rattle.ssh_rules.specs.Log.{handled, recorded, wrote}
use Rattle.ssh_rules.specs.Machine.{Event}
use Rattle.ssh_rules.specs.Made.{IsOwnGroup, MadeClient, MadeServer}
use Rattle.ssh_rules.specs.Snapshots.{DoesSteps, IsReached, IsSnapshot, Snapshot, first_snapshot, kind_chosen, last_snapshot, report_of}
use Rattle.ssh_rules.specs.Turns.{Talkers, World, talkers}
use Rattle.ssh_rules.specs.Valid.{HasSizes, config_fault}
use Rattle.ssh_rules.specs.declared.link.Step as link
use Rattle.ssh_rules.proofs.pair.Facts.{InStep}
use Rattle.ssh_rules.proofs.side.Ledgers.{setting_at}
use Rattle.ssh_rules.proofs.headline.LinkIs.{last_is_snapshot}
use Rattle.ssh_rules.proofs.headline.HeadlineRecords.{BothKnow, both_know}
use Rattle.ssh_rules.proofs.headline.LinkWire.{link_wire}
use Rattle.ssh_rules.proofs.pair.SameRecords.{makes_one_record}
use Rattle.ssh_rules.proofs.turns.Turns.{held_in_step}
use Rattle.ssh_rules.proofs.side.Valid.{are_fit, is_within}

-- the lookup finds no other group for these sizes
abbrev pub FindsOnly : Says → GexParams → DhGroup → Type 0
FindsOnly server sizes group = (q : DhGroup) → server.finds sizes q → q ≡ group

block_has : (gex : Option GexChosen) (first : List ℕ) (more : List (List ℕ)) (server : Says) (sizes : GexParams) (group : DhGroup) → is_some gex ≡ true → IfSome gex (IsOwnGroup sizes) → IfSome gex (λ (g : GexChosen). server.finds g.params g.group) → FindsOnly server sizes group → slice_get (first ∷ (groups gex ++ more)) 1 ≡ Some (group_message group)
block_has None first more server sizes group s o f h = absurd (let bad : ⊥ = cc in bad)
block_has (Some g) first more server sizes group s o f h = ap (λ q. Some (group_message q)) (h g.group (subst (λ p. server.finds p g.group) o.params_are f))

-- what both sides know of a group exchange
has_group : (client server : Says) (cc sc : Config) (before : List FinishedExchange) (a b : List (List ℕ)) (d e : Exchange) (x y : FinishedExchange) (g h : Option ServerHost) (group : DhGroup)
    → OneSecret client server → FindsCanonical server → IsWithin (offers_of Client cc) → IsWithin (offers_of Server sc) → FindsOnly server cc.gex group
    → MadeClient client (setting_at Client cc (id_text cc.id) (Some (id_text sc.id)) before) a b d x g → MadeServer server (setting_at Server sc (id_text sc.id) (Some (id_text cc.id)) before) b a e y h
    → (x ≡ y) × (is_gex y.names.kex ≡ true → slice_get b 1 ≡ Some (group_message group))
has_group client server cc sc before a b d e x y g h group secret canonical wc ws found mc ms =
    let both = makes_one_record client server secret canonical (setting_at Client cc (id_text cc.id) (Some (id_text sc.id)) before) (setting_at Server sc (id_text sc.id) (Some (id_text cc.id)) before) a b d e x y g h wc ws (record { client_id = refl; server_id = refl; cause = refl }) mc ms in
    let own : IfSome e.gex (IsOwnGroup cc.gex) = subst (λ (t : Exchange). IfSome t.gex (IsOwnGroup cc.gex)) both.1 mc.group in
    let names : y.names ≡ ms.names = ap (λ (z : FinishedExchange). z.names) ms.made in
    (both.0, λ k. ap (λ q. slice_get q 1) ms.own_is ∙ block_has e.gex e.server_kex_init _ server cc.gex group (sym ms.kind ∙ (ap (λ (n : Names). is_gex n.kex) (sym names) ∙ k)) own ms.finds found)

-- what all group exchanges of a link have
pub record Finds (says : Side → Says) (config : Side → Config) (group : DhGroup) : Type 0 where
  pub secret : OneSecret (says Client) (says Server)
  pub canonical : FindsCanonical (says Server)
  pub client_within : IsWithin (offers_of Client (config Client))
  pub server_within : IsWithin (offers_of Server (config Server))
  pub only : FindsOnly (says Server) (config Client).gex group

client_has : (says : Side → Says) (config : Side → Config) (group : DhGroup) (before : List FinishedExchange) (own read peer_own : List (List ℕ)) (x : FinishedExchange) → Finds says config group → BothKnow (talkers says config) Client before own read peer_own x → is_gex x.names.kex ≡ true → slice_get peer_own 1 ≡ Some (group_message group)
client_has says config group before own read peer_own x f b k =
    let h = has_group (says Client) (says Server) (config Client) (config Server) before own read b.mine.exchange b.exchange x b.made b.mine.host b.host group f.secret f.canonical f.client_within f.server_within f.only b.mine.made b.theirs in
    subst (λ q. slice_get q 1 ≡ Some (group_message group)) b.same (h.1 (ap (λ (z : FinishedExchange). is_gex z.names.kex) (sym h.0) ∙ k))

server_has : (says : Side → Says) (config : Side → Config) (group : DhGroup) (before : List FinishedExchange) (own read peer_own : List (List ℕ)) (x : FinishedExchange) → Finds says config group → BothKnow (talkers says config) Server before own read peer_own x → is_gex x.names.kex ≡ true → slice_get own 1 ≡ Some (group_message group)
server_has says config group before own read peer_own x f b k =
    (has_group (says Client) (says Server) (config Client) (config Server) before read own b.exchange b.mine.exchange b.made x b.host b.mine.host group f.secret f.canonical f.client_within f.server_within f.only b.theirs b.mine.made).1 k

-- each that the client recorded, and each that the server did
in_group : (says : Side → Says) (config : Side → Config) (group : DhGroup) (w : World) (cl sl : List Event) → Finds says config group → IsReached (talkers says config) w cl sl → InStep (wrote cl) (handled cl) (wrote sl) (handled sl) (recorded cl) (recorded sl) → HaveGroup group (recorded cl) (wrote sl) × HaveGroup group (recorded sl) (wrote sl)
in_group says config group w cl sl f h s = (
  λ k x e. client_has says config group _ _ _ _ x f (both_know (talkers says config) Client cl sl w.client w.server h.client h.server s.to_client s.to_server s.records k x e),
  λ k x e. server_has says config group _ _ _ _ x f (both_know (talkers says config) Server sl cl w.server w.client h.server h.client s.to_server s.to_client (λ j a b f g. sym (s.records j b a g f)) k x e),
)

-- A loop over the steps has made a report whose group exchanges are in the group.
pub link_in_group : (says : Side → Says) (config : Side → Config) (group : DhGroup) (steps : List link.Step) (snapshots : List Snapshot)
    → ((side : Side) → config_fault side (config side) ≡ None) → ((side : Side) → HasSizes (config side)) → OneSecret (says Client) (says Server) → FindsCanonical (says Server) → FindsOnly (says Server) (config Client).gex group
    → DoesSteps (talkers says config) (kind_chosen config) steps (first_snapshot (talkers says config)) snapshots
    → IsInGroup (config Server) group (report_of (talkers says config) (first_snapshot (talkers says config)) snapshots)
link_in_group says config group steps snapshots valid sizes secret canonical only pursued = record {
  server_items = wrote last.sl;
  reads = (link_wire says config Server last.sl last.cl last.world.server last.world.client sizes cw sw i.held.server i.held.client step.to_server).reads;
  of_client = all.0;
  of_server = all.1;
} where
  t : Talkers
  t = talkers says config

  last : Snapshot
  last = last_snapshot (first_snapshot t) snapshots

  cw : IsWithin (offers_of Client (config Client))
  cw = is_within Client (config Client) (valid Client)

  sw : IsWithin (offers_of Server (config Server))
  sw = is_within Server (config Server) (valid Server)

  i : IsSnapshot t (kind_chosen config) last
  i = last_is_snapshot t (kind_chosen config) steps (first_snapshot t) snapshots pursued

  step : InStep (wrote last.cl) (handled last.cl) (wrote last.sl) (handled last.sl) (recorded last.cl) (recorded last.sl)
  step = held_in_step t last.world last.cl last.sl (are_fit says config valid sizes secret canonical) i.held

  all : HaveGroup group (recorded last.cl) (wrote last.sl) × HaveGroup group (recorded last.sl) (wrote last.sl)
  all = in_group says config group last.world last.cl last.sl (record { secret = secret; canonical = canonical; client_within = cw; server_within = sw; only = only }) i.held step
