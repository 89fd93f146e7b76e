-- The report of a carried link is what a link's report says: of any parts what each side read, and of lawful ones all.
use Rattle.std.proofs.Common.{◌≡◌, ℕ, ◌+◌, ◌<◌, ◌^◌, List, [], ◌∷◌, ◌++◌, length, take, drop, slice_get, refl, sym, ◌∙◌, ap, subst, arith, Bool, true, Some, None, inl, inr}
use Rattle.std.proofs.lemmas.List.{drop_all, drop_at}
use Rattle.ssh_wire.specs.Lines.{Id, id_line, id_of, id_text}
use Rattle.ssh_wire.specs.Sides.{other_side}
use Rattle.ssh_wire.specs.declared.side.Side.{Side}
use Rattle.ssh_wire.specs.declared.side.Side.TheVariants.{Client, Server}
use Rattle.ssh_kex.specs.Setting.{Says}
use Rattle.ssh_kex.specs.declared.config.Config.{Config}
use Rattle.ssh_kex.specs.declared.exchange.FinishedExchange.{FinishedExchange}
use Rattle.ssh_kex.specs.declared.exchange.ServerHost.{ServerHost}
use Rattle.ssh_kex.specs.declared.group.DhGroup.{DhGroup}
use Rattle.ssh_rules.specs.AnyParts.{IsReadLink, IsReadSide, IsSigned}
use Rattle.ssh_rules.specs.Guess.{BeforeKexinit, without_guesses}
use Rattle.ssh_rules.specs.Handled.{AllRead, Handled}
use Rattle.ssh_rules.specs.Headline.{IsInGroup, IsLink}
use Rattle.ssh_rules.specs.Laws.{FindsCanonical, OneSecret}
use Rattle.ssh_rules.specs.Log.{handled, recorded}
use Rattle.ssh_rules.specs.Machine.{Event, SideState, first_state}
use Rattle.ssh_rules.specs.RunLaws.{RunSays}
use Rattle.ssh_rules.specs.Parts.{Accepting, ClientPairs, Secrets, ServerValues, Trusting}
use Rattle.ssh_rules.specs.Snapshots.{HasCome, IsWholeId, Snapshot, TellsParts, first_snapshot, kind_chosen, last_snapshot, report_of, side_report}
use Rattle.ssh_rules.specs.Standing.{IsNew, Standing}
use Rattle.ssh_rules.specs.Turns.{LinkEnd, talkers}
use Rattle.ssh_rules.specs.Turns as turns
use Rattle.ssh_rules.specs.Valid.{HasSizes, config_fault}
use Rattle.ssh_rules.specs.Wire.{exchange_block}
use Rattle.ssh_rules.specs.declared.link.LinkReport.{LinkReport}
use Rattle.ssh_rules.specs.declared.link.Mark.{Mark}
use Rattle.ssh_rules.specs.declared.link.SideMark.{SideMark}
use Rattle.ssh_rules.specs.declared.link.SideReport.{SideReport}
use Rattle.ssh_rules.specs.declared.link.Step.{Step}
use Rattle.ssh_rules.proofs.Lemmas.{FindsOnly, is_known, link_in_group, link_is, new_stands, recorded_is, run_handled, run_says, run_signed, start_is_snapshot}
use Rattle.ssh_run.specs.Carrying.{CarriedEnd, CarriedLink, IsCarried, IsNewLink, first_carried_end, last_link, reported_end, reported_link, side_mark}
use Rattle.ssh_run.proofs.LinkTurns.{Follows, IsTied, follows}
use Rattle.ssh_run.proofs.SideTurns.{IsSide, wire_by}

-- ---- the start

some_line : (line text : List ℕ) → id_of 0 line ≡ Id text (length line) → 0 < length line
some_line [] text h = absurd (let bad : ⊥ = cc in bad)
some_line (b ∷ line) text h = omega arith

pub line_has : (config : Config) → IsWholeId config → 0 < length (id_line config.id)
line_has config h = some_line (id_line config.id) (id_text config.id) h

-- a new side of a link
new_side : (says : Side → Says) (config : Side → Config) (side : Side) (t : Standing) → ((s : Side) → IsWholeId (config s)) → IsNew side (config side) t → IsSide says config side [] turns.first_end turns.first_end (first_carried_end t)
new_side says config side t whole e = record {
  ran = record { steps = refl; sent_is = refl; fed_is = refl };
  rests = rests side;
  front = ([], refl);
  within = omega arith;
  stands = new_stands says config side t (line_has (config (other_side side)) (whole (other_side side))) e;
  output = ap (λ (x : Standing). x.output) e ∙ nil_right (id_line (config side).id);
  none = ap (λ (x : Standing). x.delivered) e;
  delivered = refl;
  submitted = refl;
} where
  nil_right : (xs : List ℕ) → xs ≡ xs ++ []
  nil_right [] = refl
  nil_right (x ∷ xs) = ap (λ q. x ∷ q) (nil_right xs)

  rests : (s : Side) → Rattle.ssh_rules.specs.Snapshots.IsAtRest (config s) turns.first_end
  rests Client = (start_is_snapshot (talkers says config) true (line_has (config Client) (whole Client)) (line_has (config Server) (whole Server))).client_rests
  rests Server = (start_is_snapshot (talkers says config) true (line_has (config Client) (whole Client)) (line_has (config Server) (whole Server))).server_rests

-- its mark
new_mark : (side : Side) (config : Config) (t : Standing) → IsNew side config t → Rattle.ssh_rules.specs.Snapshots.first_mark (length (id_line config.id)) ≡ side_mark (first_carried_end t)
new_mark side config t e = ap (λ (x : Standing). side_mark (first_carried_end x)) (sym e)

pub first_tied : (says : Side → Says) (config : Side → Config) (kind : Bool) (l : CarriedLink) → ((s : Side) → IsWholeId (config s)) → IsNewLink (config Client) (config Server) l → IsTied says config kind (first_snapshot (talkers says config)) l
first_tied says config kind l whole n = record {
  of_client = subst (λ e. IsSide says config Client [] turns.first_end turns.first_end e) (sym n.of_client.2) (new_side says config Client n.of_client.0 whole n.of_client.1);
  of_server = subst (λ e. IsSide says config Server [] turns.first_end turns.first_end e) (sym n.of_server.2) (new_side says config Server n.of_server.0 whole n.of_server.1);
  client_mark = new_mark Client (config Client) n.of_client.0 n.of_client.1 ∙ ap side_mark (sym n.of_client.2);
  server_mark = new_mark Server (config Server) n.of_server.0 n.of_server.1 ∙ ap side_mark (sym n.of_server.2);
  known = λ k. start_is_snapshot (talkers says config) kind (line_has (config Client) (whole Client)) (line_has (config Server) (whole Server));
}

pub nothing_submitted : (client server : Config) (l : CarriedLink) → IsNewLink client server l → l.client.submitted + l.server.submitted ≡ 0
nothing_submitted client server l n = let a = ap (λ (e : CarriedEnd). e.submitted) n.of_client.2 in let b = ap (λ (e : CarriedEnd). e.submitted) n.of_server.2 in omega (arith, a, b)

all_follow : (says : Side → Says) (config : Side → Config) (kind : Bool) (steps : List Step) (report : LinkReport) → ((s : Side) → IsWholeId (config s)) → length steps < 2 ^ 64 → (c : IsCarried (says Client) (says Server) (config Client) (config Server) steps report) → Follows says config kind steps (first_snapshot (talkers says config)) c.first c.links
all_follow says config kind steps report whole few c =
    follows says config kind steps (first_snapshot (talkers says config)) c.first c.links whole (let z = nothing_submitted (config Client) (config Server) c.first c.new in omega (arith, z, few)) (first_tied says config kind c.first whole c.new) c.each

-- ---- the report

all_recorded : (says : Side → Says) (config : Side → Config) (side : Side) (log : List Event) (h peer : LinkEnd) (e : CarriedEnd) → IsSide says config side log h peer e → e.transport.state.records ≡ recorded log
all_recorded says config side log h peer e s = ap (λ (q : SideState). q.records) s.stands.state_is ∙ recorded_is (says side) side (config side) (id_text (config side).id) log first_state h.state s.ran.steps

same_report : (a b : SideReport) → a.wire ≡ b.wire → a.taken ≡ b.taken → a.delivered ≡ b.delivered → a.exchanges ≡ b.exchanges → a ≡ b
same_report a b e f g h =
    let p : a ≡ record a { wire = b.wire } = ap (λ (q : List ℕ). record a { wire = q }) e in
    let q : record a { wire = b.wire } ≡ record a { wire = b.wire; taken = b.taken } = ap (λ (x : ℕ). record a { wire = b.wire; taken = x }) f in
    let r : record a { wire = b.wire; taken = b.taken } ≡ record a { wire = b.wire; taken = b.taken; delivered = b.delivered } = ap (λ (x : List (List ℕ)). record a { wire = b.wire; taken = b.taken; delivered = x }) g in
    let s : record a { wire = b.wire; taken = b.taken; delivered = b.delivered } ≡ b = ap (λ (x : List FinishedExchange). record b { exchanges = x }) h in
    p ∙ (q ∙ (r ∙ s))

reported_side : (says : Side → Says) (config : Side → Config) (side : Side) (log : List Event) (h peer : LinkEnd) (e : CarriedEnd) (m : SideMark) → IsSide says config side log h peer e → m ≡ side_mark e → side_report (talkers says config) side log h m ≡ reported_end e
reported_side says config side log h peer e m s k = same_report (side_report (talkers says config) side log h m) (reported_end e) (sym s.output) (ap (λ (x : SideMark). x.taken) k) (sym s.delivered) (sym (all_recorded says config side log h peer e s))

same_link_report : (a b : LinkReport) → a.client ≡ b.client → a.server ≡ b.server → a.marks ≡ b.marks → a ≡ b
same_link_report a b e f g =
    let p : a ≡ record a { client = b.client } = ap (λ (q : SideReport). record a { client = q }) e in
    let q : record a { client = b.client } ≡ record a { client = b.client; server = b.server } = ap (λ (x : SideReport). record a { client = b.client; server = x }) f in
    let r : record a { client = b.client; server = b.server } ≡ b = ap (λ (x : List Mark). record b { marks = x }) g in
    p ∙ (q ∙ r)

reported : (says : Side → Says) (config : Side → Config) (kind : Bool) (steps : List Step) (s : Snapshot) (l : CarriedLink) (links : List CarriedLink) → (f : Follows says config kind steps s l links) → report_of (talkers says config) s f.snapshots ≡ reported_link l links
reported says config kind steps s l links f =
    let last = last_snapshot s f.snapshots in
    same_link_report (report_of (talkers says config) s f.snapshots) (reported_link l links)
    (reported_side says config Client last.cl last.world.client last.world.server (last_link l links).client last.mark.client f.last.of_client f.last.client_mark)
    (reported_side says config Server last.sl last.world.server last.world.client (last_link l links).server last.mark.server f.last.of_server f.last.server_mark)
    f.marks

-- ---- the headline

pub carried_is_link : (says : Side → Says) (config : Side → Config) (client_makes : ClientPairs) (server_makes : ServerValues) (agrees : Secrets) (steps : List Step) (report : LinkReport)
    → ((side : Side) → config_fault side (config side) ≡ None) → ((side : Side) → HasSizes (config side)) → ((side : Side) → IsWholeId (config side)) → length steps < 2 ^ 64
    → TellsParts (says Client) (says Server) client_makes server_makes agrees → OneSecret (says Client) (says Server) → FindsCanonical (says Server)
    → IsCarried (says Client) (says Server) (config Client) (config Server) steps report → IsLink client_makes server_makes agrees (config Client) (config Server) steps report
carried_is_link says config cm sm ag steps report valid sizes whole few tells secret canonical c =
    let f = all_follow says config (kind_chosen config) steps report whole few c in
    subst (λ r. IsLink cm sm ag (config Client) (config Server) steps r) (reported says config (kind_chosen config) steps (first_snapshot (talkers says config)) c.first c.links f ∙ sym c.report_is)
    (link_is says config cm sm ag steps f.snapshots valid sizes tells secret canonical (f.does (is_known says config valid sizes secret canonical)) f.leads)

-- ---- the group of its group exchanges

pub carried_in_group : (says : Side → Says) (config : Side → Config) (group : DhGroup) (steps : List Step) (report : LinkReport)
    → ((side : Side) → config_fault side (config side) ≡ None) → ((side : Side) → HasSizes (config side)) → ((side : Side) → IsWholeId (config side)) → length steps < 2 ^ 64
    → OneSecret (says Client) (says Server) → FindsCanonical (says Server) → FindsOnly (says Server) (config Client).gex group
    → IsCarried (says Client) (says Server) (config Client) (config Server) steps report → IsInGroup (config Server) group report
carried_in_group says config group steps report valid sizes whole few secret canonical only c =
    let f = all_follow says config (kind_chosen config) steps report whole few c in
    subst (IsInGroup (config Server) group) (reported says config (kind_chosen config) steps (first_snapshot (talkers says config)) c.first c.links f ∙ sym c.report_is)
    (link_in_group says config group steps f.snapshots valid sizes secret canonical only (f.does (is_known says config valid sizes secret canonical)))

-- ---- what each side read, whatever the parts are

-- the bytes behind the other's line are those that the side was fed
fed_bytes : (line took : List ℕ) (t : Standing) (h : LinkEnd) → HasCome line took t.line t.waiting h → drop (length line) took ≡ h.fed
fed_bytes line took t h (inl p) = drop_all (length line) took (let l = p.few in omega (arith, l)) ∙ sym p.fed
fed_bytes line took t h (inr p) = ap (drop (length line)) p.took_is ∙ drop_at line h.fed (length line) refl

-- what a side answered of signatures and hosts
abbrev Answers : Says → Accepting → Trusting → Type 0
Answers says accepts trusts = ((host : ServerHost) (hash signature : List ℕ) → says.accepts host hash signature → accepts host hash signature ≡ true) × ((host : ServerHost) → says.trusts host → trusts host ≡ true)

abbrev SignedBy : Accepting → Trusting → Side → Config → List Event → Type 0
SignedBy accepts trusts side config log = side ≡ Client → (k : ℕ) (x : FinishedExchange) → slice_get (recorded log) k ≡ Some x → IsSigned accepts trusts (exchange_block k (without_guesses side config BeforeKexinit (handled log))) x

read_side : (says : Side → Says) (config : Side → Config) (accepts : Accepting) (trusts : Trusting) (side : Side) (log : List Event) (h peer : LinkEnd) (e other : CarriedEnd)
    → config_fault side (config side) ≡ None → HasSizes (config side) → SignedBy accepts trusts side (config side) log → other.transport.output ≡ wire_by (config (other_side side)) peer.sent
    → IsSide says config side log h peer e → IsReadSide accepts trusts side (config side) (config (other_side side)) (reported_end e) (reported_end other)
read_side says config accepts trusts side log h peer e other valid sizes signed sent s = record {
  line = (peer.sent, sym sent);
  within = (let a = ap length sent in let b = s.within in omega (arith, a, b));
  items = handled log;
  reads = subst (λ x. Handled side (config side) x (drop (length line) (take e.taken other.transport.output)) (handled log) AllRead) (sym records)
      (subst (λ b. Handled side (config side) (recorded log) b (handled log) AllRead) (sym bytes) (run_handled (says side) side (config side) (id_text (config side).id) log h.state h.fed h.unfinished s.ran.steps s.ran.fed_is s.rests.part));
  delivered = s.delivered ∙ facts.delivered;
  recorded = ap length records ∙ facts.recorded_all;
  signed = λ c k x g. signed c k x (subst (λ r. slice_get r k ≡ Some x) records g);
} where
  line : List ℕ
  line = id_line (config (other_side side)).id

  records : e.transport.state.records ≡ recorded log
  records = all_recorded says config side log h peer e s

  bytes : drop (length line) (take e.taken other.transport.output) ≡ h.fed
  bytes = ap (λ w. drop (length line) (take e.taken w)) sent ∙ fed_bytes line (take e.taken (wire_by (config (other_side side)) peer.sent)) e.transport h s.stands.come

  facts : RunSays side (config side) log
  facts = run_says (says side) side (config side) (id_text (config side).id) log h.state valid sizes s.ran.steps

server_client : Server ≡ Client → ⊥
server_client e = cc

pub carried_is_read : (says : Side → Says) (config : Side → Config) (accepts : Accepting) (trusts : Trusting) (steps : List Step) (report : LinkReport)
    → ((side : Side) → config_fault side (config side) ≡ None) → ((side : Side) → HasSizes (config side)) → ((side : Side) → IsWholeId (config side)) → length steps < 2 ^ 64
    → Answers (says Client) accepts trusts
    → IsCarried (says Client) (says Server) (config Client) (config Server) steps report → IsReadLink accepts trusts (config Client) (config Server) report
carried_is_read says config accepts trusts steps report valid sizes whole few answers c =
    let f = all_follow says config (kind_chosen config) steps report whole few c in
    let last = last_snapshot (first_snapshot (talkers says config)) f.snapshots in
    let ends = last_link c.first c.links in
    subst (λ r. IsReadLink accepts trusts (config Client) (config Server) r) (sym c.report_is) (record {
      of_client = read_side says config accepts trusts Client last.cl last.world.client last.world.server ends.client ends.server (valid Client) (sizes Client)
          (λ e k x g. run_signed (says Client) accepts trusts (config Client) (id_text (config Client).id) last.cl last.world.client.state answers f.last.of_client.ran.steps k x g)
          f.last.of_server.output f.last.of_client;
      of_server = read_side says config accepts trusts Server last.sl last.world.server last.world.client ends.server ends.client (valid Server) (sizes Server)
          (λ e. absurd (server_client e))
          f.last.of_client.output f.last.of_server;
    })
