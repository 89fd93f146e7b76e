-- How often a run of a link asks the parts of its sides.
use Rattle.std.proofs.Common.{◌≡◌, ◌⊎◌, inl, inr, ℕ, ◌<◌, ◌^◌, ◌≤◌, Bool, false, None, List, [], ◌∷◌, ◌++◌, length, take, drop, Some, refl, sym, ◌∙◌, ap, subst, arith, length-append}
use Rattle.ssh_wire.specs.Sides.{other_side}
use Rattle.ssh_wire.specs.declared.side.Side.{Side}
use Rattle.ssh_wire.specs.declared.side.Side.TheVariants.{Client, Server}
use Rattle.ssh_kex.specs.Setting.{Says}
use Rattle.ssh_kex.specs.declared.config.Config.{Config}
use Rattle.ssh_rules.specs.Asking.{AsksUntil, AsksWithin, PartCalls, RefusesAsking}
use Rattle.ssh_rules.specs.Counting.{begun, calls_of, lookups_of}
use Rattle.ssh_rules.specs.Headline.{bound_of, chosen_by, kind_by}
use Rattle.ssh_rules.specs.Laws.{FindsCanonical, OneSecret}
use Rattle.ssh_rules.specs.Machine.{Event, SideState, Silent}
use Rattle.ssh_rules.specs.Refused.{one_of}
use Rattle.ssh_rules.specs.Snapshots.{IsOfKind, IsSnapshot, IsWholeId, kind_chosen, Snapshot, StandsAs, first_snapshot, last_snapshot}
use Rattle.ssh_rules.specs.Standing.{IsNew, OfMemory, OfPacket, Standing}
use Rattle.ssh_rules.specs.Turns.{Talkers, World, talkers}
use Rattle.ssh_rules.specs.Valid.{HasSizes, config_fault}
use Rattle.ssh_rules.specs.Wire.{HasFront}
use Rattle.ssh_rules.specs.declared.link.Step.{Step}
use Rattle.ssh_rules.specs.declared.link.Step.TheVariants.{Deliver, Rekey, Settle, Submit}
use Rattle.ssh_rules.proofs.Lemmas.{AreLawful, AskedFew, HaveLimits, IsKnown, IsSoFar, RefusedHere, asked_few, asks_join, begun_of, begun_steps, few_at, fit_of, have_limits, is_known, kinds_of, leads_join, so_far_settled, times_up}
use Rattle.ssh_wire.specs.Lines.{id_text}
use Rattle.ssh_run.specs.Asking.{CarriedAsks, LinkAsks, PartAsks, PieceAsks, RunAsks, SideAsks}
use Rattle.ssh_run.specs.Carrying.{CarriedEnd, CarriedLink, CarriesTo, IsNewLink, all_bytes, carried_count, last_link}
use Rattle.ssh_run.proofs.Asking.{side_join}
use Rattle.ssh_run.proofs.CarriedLinks.{first_tied, nothing_submitted}
use Rattle.ssh_run.proofs.LinkSoFar.{new_live, of_sides}
use Rattle.ssh_run.proofs.LinkTurns.{Follows, Settles, follows, repeated, server_carry}
use Rattle.ssh_run.proofs.SideTurns.{next_front, wire_by}
use Rattle.ssh_run.proofs.SettleEnds.{some_bound}

-- ---- one side

-- a side as it was at its start
record IsFirst (side : Side) (t : Standing) : Type 0 where
  pub side_is : t.side ≡ side
  pub silent : t.state.stands ≡ Silent
  pub none : t.state.records ≡ []

first_side : (side : Side) (config : Config) (t : Standing) → IsNew side config t → IsFirst side t
first_side side config t n = record { side_is = ap (λ (x : Standing). x.side) n; silent = ap (λ (x : Standing). x.state.stands) n; none = ap (λ (x : Standing). x.state.records) n }

-- Behind what it was asked so far, a piece in part.
end_asked : (says : Side → Says) (config : Side → Config) (kind : Bool) (bound : ℕ) (w : World) (cl sl : List Event) (side : Side) (first : Standing) (e : CarriedEnd) (wire output : List ℕ) (count : ℕ) (n m n' : PartCalls) → AreLawful says config → HaveLimits (talkers says config) → IsKnown (talkers says config) kind → IsSoFar (talkers says config) bound w cl sl → IsWholeId (config (other_side side)) → wire ≡ wire_by (config (other_side side)) (one_of (other_side side) w.client w.server).sent → StandsAs (talkers says config) side (take e.taken wire) e.transport (one_of side w.client w.server) → output ≡ wire → IsFirst side first → SideAsks first e.transport n m → PieceAsks (says side) e output count m n' → AskedFew side kind bound n n'
end_asked says config kind bound w cl sl side first e wire output count n m n' lawful limits known so whole wire_is stands same start asks piece = by piece where
  within : AsksWithin side first.state e.transport.state n m
  within = subst (λ (x : Side). AsksWithin x first.state e.transport.state n m) start.side_is asks.within

  few : begun e.transport.state ≤ bound
  few = subst (λ (q : SideState). begun q ≤ bound) (sym stands.state_is) (begun_of (talkers says config) bound w cl sl side (fit_of says config lawful) limits so)

  by : PieceAsks (says side) e output count m n' → AskedFew side kind bound n n'
  by (inl q) = asked_few side kind bound OfMemory first.state e.transport.state n n' start.silent start.none
      (record { few = few; kinds = subst (λ (q : SideState). IsOfKind kind q) (sym stands.state_is) (kinds_of (talkers says config) kind w cl sl side known so.reached); outside = λ i x k o. absurd (let z : OfMemory ≡ OfPacket i = x in cc) })
      (record { mid = m; before = within; last = q })
  by (inr p) =
      let piece : List ℕ = take (carried_count e wire count) (drop e.taken wire) in
      let a : RefusesAsking (says side) e.transport piece p.left m n' = subst (λ (o : List ℕ). RefusesAsking (says side) e.transport (take (carried_count e o count) (drop e.taken o)) p.left m n') same p.asks in
      let r : RefusedHere (talkers says config) bound w cl sl side (take e.taken wire) piece e.transport = record { so_far = so; whole_id = whole; stands = stands; honest = subst (λ (o : List ℕ). HasFront o (take e.taken wire ++ piece)) wire_is (next_front wire e.taken (carried_count e wire count)) } in
      let u : AsksUntil side a.cause e.transport.state a.refuses.at m n' = subst (λ (x : Side). AsksUntil x a.cause e.transport.state a.refuses.at m n') stands.side_is a.asks in
      let later = begun_steps (says side) e.transport.side e.transport.config (id_text e.transport.config.id) a.refuses.events e.transport.state a.refuses.at a.refuses.steps in
      asked_few side kind bound a.cause first.state a.refuses.at n n' start.silent start.none
      (few_at says config kind bound w cl sl side (take e.taken wire) piece e.transport a.cause p.left lawful limits known r a.refuses)
      (record { mid = u.mid; before = asks_join side first.state e.transport.state a.refuses.at n m u.mid asks.later later within u.before; last = u.last })

-- ---- both

half_tied : (says : Side → Says) (config : Side → Config) (kind : Bool) (start : Snapshot) (mid half : CarriedLink) → IsWholeId (config Client) → Settles says config kind start mid → (half ≡ mid) ⊎ (CarriesTo (says Server) mid.server mid.client.transport.output all_bytes half.server × (half.client ≡ mid.client)) → Settles says config kind start half
half_tied says config kind start mid half whole i (inl e) = subst (λ (q : CarriedLink). Settles says config kind start q) (sym e) i
half_tied says config kind start mid half whole i (inr h) =
    let b = server_carry says config kind i.next mid half all_bytes whole i.tied h.0 h.1 in
    record {
      next = b.next;
      tied = b.tied;
      leads = leads_join (talkers says config) (Some Settle) start i.next b.next i.leads (b.leads (Some Settle));
      cl = b.cl ∙ i.cl;
      sl = b.sl ∙ i.sl;
    }

-- fewer steps let fewer exchanges be begun
bound_front : (done more : List Step) → bound_of done ≤ bound_of (done ++ more)
bound_front [] more = some_bound more
bound_front (Submit side p ∷ done) more = let r = bound_front done more in omega (arith, r)
bound_front (Deliver side n ∷ done) more = bound_front done more
bound_front (Rekey side ∷ done) more = let r = bound_front done more in omega (arith, r)
bound_front (Settle ∷ done) more = bound_front done more

fewer : (side : Side) (kind : Bool) (a b : ℕ) (n n' : PartCalls) → a ≤ b → AskedFew side kind a n n' → AskedFew side kind b n n'
fewer side kind a b n n' l h =
    let x = times_up (calls_of side) a b l in
    let y = times_up (lookups_of side) a b l in
    record {
      agreement_later = h.agreement_later;
      agreement = (let q = h.agreement in omega (arith, q, x));
      hosts_later = h.hosts_later;
      hosts = (let q = h.hosts in omega (arith, q, x));
      lookups_later = h.lookups_later;
      lookups = (let q = h.lookups in omega (arith, q, y));
      groups = h.groups;
    }

-- Of a run of a new link whose parts are lawful.
pub link_asked : (says : Side → Says) (config : Side → Config) (kind : Bool) (steps : List Step) (first : CarriedLink) (n n' m m' : PartCalls) → ((side : Side) → IsWholeId (config side)) → length steps < 2 ^ 64 → AreLawful says config → HaveLimits (talkers says config) → IsKnown (talkers says config) kind → IsNewLink (config Client) (config Server) first → LinkAsks (says Client) (says Server) steps first n n' m m' → AskedFew Client kind (bound_of steps) n n' × AskedFew Server kind (bound_of steps) m m'
link_asked says config kind steps first n n' m m' whole few lawful limits known new a = (
  fewer Client kind (bound_of a.done) (bound_of steps) n n' up
      (end_asked says config kind (bound_of a.done) s.world s.cl s.sl Client first.client.transport part.half.client (wire_by (config Server) s.world.server.sent) part.half.server.transport.output part.client_count n part.client_before n' lawful limits known so (whole Server) refl h.tied.of_client.stands h.tied.of_server.output of_client
      (side_join first.client.transport part_mid.client.transport part.half.client.transport n a.part.client_before part.client_before (side_join first.client.transport (last_link first a.links).client.transport part_mid.client.transport n a.client_before a.part.client_before a.of_client a.part.of_client) part.of_client) part.client_last),
  fewer Server kind (bound_of a.done) (bound_of steps) m m' up
      (end_asked says config kind (bound_of a.done) s.world s.cl s.sl Server first.server.transport part.half.server (wire_by (config Client) s.world.client.sent) part.half.client.transport.output part.server_count m part.server_before m' lawful limits known so (whole Client) refl h.tied.of_server.stands h.tied.of_client.output of_server
      (side_join first.server.transport part_mid.server.transport part.half.server.transport m a.part.server_before part.server_before (side_join first.server.transport (last_link first a.links).server.transport part_mid.server.transport m a.server_before a.part.server_before a.of_server a.part.of_server) part.of_server) part.server_last),
) where
  t : Talkers
  t = talkers says config

  part_mid : CarriedLink
  part_mid = a.part.mid

  part : PartAsks (says Client) (says Server) part_mid a.part.client_before n' a.part.server_before m'
  part = a.part.part

  short : length a.done < 2 ^ 64
  short = (let l = length-append a.done a.more in let e : length steps ≡ length (a.done ++ a.more) = ap length a.steps_are in omega (arith, few, l, e))

  up : bound_of a.done ≤ bound_of steps
  up = (let r = bound_front a.done a.more in let e : bound_of steps ≡ bound_of (a.done ++ a.more) = ap bound_of a.steps_are in omega (arith, r, e))

  f : Follows says config kind a.done (first_snapshot t) first a.links
  f = follows says config kind a.done (first_snapshot t) first a.links whole (let z = nothing_submitted (config Client) (config Server) first new in omega (arith, z, short)) (first_tied says config kind first whole new) a.each

  start : Snapshot
  start = last_snapshot (first_snapshot t) f.snapshots

  h : Settles says config kind start part.half
  h = half_tied says config kind start part_mid part.half (whole Client) (repeated says config kind a.part.times start (last_link first a.links) part_mid whole f.last a.part.turns) part.taken

  s : Snapshot
  s = h.next

  i : IsSnapshot t kind s
  i = h.tied.known known

  so : IsSoFar t (bound_of a.done) s.world s.cl s.sl
  so = so_far_settled t kind a.done f.snapshots s (f.does known) f.leads h.leads h.cl h.sl i.held

  of_client : IsFirst Client first.client.transport
  of_client = subst (λ (x : CarriedEnd). IsFirst Client x.transport) (sym new.of_client.2) (first_side Client (config Client) new.of_client.0 new.of_client.1)

  of_server : IsFirst Server first.server.transport
  of_server = subst (λ (x : CarriedEnd). IsFirst Server x.transport) (sym new.of_server.2) (first_side Server (config Server) new.of_server.0 new.of_server.1)

-- As the run's contract has it.
pub run_asked : (client server : Config) (steps : List Step) (n n' m m' : PartCalls) → AskedFew Client (kind_by (chosen_by client server)) (bound_of steps) n n' → AskedFew Server (kind_by (chosen_by client server)) (bound_of steps) m m' → RunAsks client server steps n n' m m'
run_asked client server steps n n' m m' c s = record {
  client_agreement = c.agreement;
  client_hosts = c.hosts;
  client_lookups = (let x = c.lookups in let y = c.lookups_later in omega (arith, x, y));
  server_agreement = (let x = s.agreement in omega (arith, x));
  server_hosts = (let x = s.hosts in omega (arith, x));
  server_lookups = (let x = s.lookups in omega (arith, x));
  no_groups = λ e. (let x = s.groups e in let y = s.lookups_later in omega (arith, x, y));
}

-- where nothing was asked
pub run_none : (client server : Config) (steps : List Step) (n n' m m' : PartCalls) → n' ≡ n → m' ≡ m → RunAsks client server steps n n' m m'
run_none client server steps n n' m m' e f = subst (λ q. RunAsks client server steps n q m m') (sym e) (subst (λ q. RunAsks client server steps n n m q) (sym f) (record { client_agreement = omega arith; client_hosts = omega arith; client_lookups = refl; server_agreement = omega arith; server_hosts = omega arith; server_lookups = omega arith; no_groups = λ e. refl }))

pub all_asked : (says : Side → Says) (config : Side → Config) (steps : List Step) (n n' m m' : PartCalls) → ((side : Side) → HasSizes (config side)) → (((side : Side) → config_fault side (config side) ≡ None) → (side : Side) → IsWholeId (config side)) → OneSecret (says Client) (says Server) → FindsCanonical (says Server) → CarriedAsks (says Client) (says Server) (config Client) (config Server) steps n n' m m' → RunAsks (config Client) (config Server) steps n n' m m'
all_asked says config steps n n' m m' sizes whole secret canonical (inl e) = run_none (config Client) (config Server) steps n n' m m' e.0 e.1
all_asked says config steps n n' m m' sizes whole secret canonical (inr k) =
    let v : (side : Side) → config_fault side (config side) ≡ None = of_sides (λ side. config_fault side (config side) ≡ None) k.of_client k.of_server in
    let r = link_asked says config (kind_chosen config) steps k.first n n' m m' (whole v) k.few (record { valid = v; sizes = sizes; secret = secret; canonical = canonical }) (have_limits says config v) (is_known says config v sizes secret canonical) k.new k.asks in
    run_asked (config Client) (config Server) steps n n' m m' r.0 r.1

-- ---- as its loop answers

pub new_asks : (c s : Config → Says) (client server : Config) (steps : List Step) (first : CarriedLink) (n n' m m' : PartCalls) → config_fault Client client ≡ None → config_fault Server server ≡ None → length steps < 2 ^ 64 → IsNewLink client server first → (first.client.transport.failed ≡ false → first.server.transport.failed ≡ false → LinkAsks (c first.client.transport.config) (s first.server.transport.config) steps first n n' m m') → CarriedAsks (c client) (s server) client server steps n n' m m'
new_asks c s client server steps first n n' m m' vc vs few new h =
    let p : first.client.transport.config ≡ client = ap (λ (x : CarriedEnd). x.transport.config) new.of_client.2 ∙ ap (λ (t : Standing). t.config) new.of_client.1 in
    let q : first.server.transport.config ≡ server = ap (λ (x : CarriedEnd). x.transport.config) new.of_server.2 ∙ ap (λ (t : Standing). t.config) new.of_server.1 in
    let l = new_live client server first new in
    inr (record {
      of_client = vc;
      of_server = vs;
      few = few;
      first = first;
      new = new;
      asks = subst (λ x. LinkAsks (c client) (s x) steps first n n' m m') q (subst (λ x. LinkAsks (c x) (s first.server.transport.config) steps first n n' m m') p (h l.of_client l.of_server));
    })
