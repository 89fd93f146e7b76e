-- How often a refused piece of an honest peer's wire asks a side's parts, in a link that lets so many exchanges be
-- begun.
use Rattle.std.proofs.Common.{◌≡◌, inl, inr, ℕ, ◌+◌, ◌-◌, ◌*◌, ◌≤◌, Bool, true, false, if◌then◌else◌, ◌==◌, List, [], ◌∷◌, ◌++◌, length, slice_get, Option, Some, None, suc, refl, sym, ◌∙◌, ap, subst, arith, append-nil, append_assoc}
use Rattle.std.proofs.Math.Nat.{mul-add}
use Rattle.std.proofs.lemmas.List.Sums.{fold_push}
use Rattle.ssh_wire.specs.Lines.{id_line, id_text}
use Rattle.ssh_wire.specs.Sides.{other_side}
use Rattle.ssh_wire.specs.declared.side.Side.{Side}
use Rattle.ssh_wire.specs.declared.side.Side.TheVariants.{Client, Server}
use Rattle.ssh_packet.specs.Front.{Whole, front_of}
use Rattle.ssh_packet.specs.Sealing.{Item}
use Rattle.ssh_kex.specs.Setting.{Says}
use Rattle.ssh_kex.specs.Messages.{is_gex}
use Rattle.ssh_kex.specs.declared.config.Config.{Config}
use Rattle.ssh_kex.specs.declared.exchange.FinishedExchange.{FinishedExchange}
use Rattle.ssh_negotiate.specs.declared.negotiation.Names.{Names}
use Rattle.ssh_rules.specs.Asking.{AsksForCause, AsksForMessage, AsksForType, AsksOnce, AsksUntil, AsksWithin, PartCalls}
use Rattle.ssh_rules.specs.Counting.{CallsFrom, agreement_to_come, begun, calls_of, group_in, groups_chosen, groups_in, hosts_to_come, lookups_of, lookups_to_come, open_count, request_due}
use Rattle.ssh_rules.specs.Headline.{bound_of}
use Rattle.ssh_rules.specs.Log.{asked_in, causes_in, handled, submitted_in, wrote}
use Rattle.ssh_rules.specs.Machine.{Event, Inside, Outside, SideState, Silent, Where, names_now}
use Rattle.ssh_rules.specs.Marks.{kexinits}
use Rattle.ssh_rules.specs.MessageTypes.{is_kex_type, type_of}
use Rattle.ssh_rules.specs.Refused.{one_of}
use Rattle.ssh_rules.specs.Snapshots.{DoesSteps, IsOfKind, IsReached, KindIs, IsWholeId, LeadsOn, Snapshot, StandsAs, TurnsLeadOn, client_log, first_snapshot, last_snapshot, server_log}
use Rattle.ssh_rules.specs.Standing.{IsInput, OfFault, OfMemory, OfPacket, OfVersion, ReadsIdLine, RefusalCause, RefusesInput, Standing}
use Rattle.ssh_rules.specs.Turns.{LinkEnd, Plays, PlaysTurn, TakesTurn, Talkers, Turn, World, first_world, talkers}
use Rattle.ssh_rules.specs.Wire.{HasFront}
use Rattle.ssh_rules.specs.declared.link.Step as link
use Rattle.ssh_rules.specs.declared.link.Step.TheVariants.{Settle}
use Rattle.ssh_rules.proofs.turns.CallTurns.{TurnsBy, end_behind, no_version, taken_turn}
use Rattle.ssh_rules.proofs.marks.Caused.{runs_tally}
use Rattle.ssh_rules.proofs.side.Grammar.{kexinit_item}
use Rattle.ssh_rules.proofs.side.LedgerSteps.{payload_not_kex}
use Rattle.ssh_rules.proofs.turns.LinkBounded.{HaveLimits, causes_more}
use Rattle.ssh_rules.proofs.headline.LinkIs.{asked_more}
use Rattle.ssh_rules.proofs.marks.Moved.{submitted_more}
use Rattle.ssh_rules.proofs.pair.Next.{Calling, Delivering, Goes, Taking}
use Rattle.ssh_rules.proofs.pair.NextWhole.{WritesNext, next_whole}
use Rattle.ssh_rules.proofs.refusals.RefusedTurns.{AreLawful, SeenBy, fit_of, goes_on, kex_twice, seen_by, stood_at}
use Rattle.ssh_rules.proofs.turns.SettleEnds.{few_begun, leads_then, most_allowed, settle_allows, steps_allow}
use Rattle.ssh_rules.proofs.pair.OneKind.{of_kind}
use Rattle.ssh_rules.proofs.turns.SnapshotTurns.{IsKnown}
use Rattle.ssh_rules.proofs.marks.Trail.{client_join, leads_on, plays_join, server_join}
use Rattle.ssh_rules.proofs.turns.Turns.{AreFit, client_held, server_held}
use Rattle.ssh_rules.proofs.side.Valid.{is_within}

-- ---- a link so far

-- turns led to the world, and their logs let no more exchanges be begun than this
pub record IsSoFar (t : Talkers) (bound : ℕ) (w : World) (cl sl : List Event) : Type 0 where
  pub turns : List Turn
  pub plays : Plays t first_world turns w
  pub cl_is : cl ≡ client_log turns
  pub sl_is : sl ≡ server_log turns
  pub reached : IsReached t w cl sl
  pub allows : most_allowed cl sl ≤ bound

-- behind some steps and a settle
pub so_far_settled : (t : Talkers) (kind : Bool) (steps : List link.Step) (snapshots : List Snapshot) (s' : Snapshot) → DoesSteps t kind steps (first_snapshot t) snapshots → TurnsLeadOn t steps (first_snapshot t) snapshots → LeadsOn t (Some Settle) (last_snapshot (first_snapshot t) snapshots) s' → submitted_in s'.cl ≡ submitted_in (last_snapshot (first_snapshot t) snapshots).cl → submitted_in s'.sl ≡ submitted_in (last_snapshot (first_snapshot t) snapshots).sl → IsReached t s'.world s'.cl s'.sl → IsSoFar t (bound_of steps) s'.world s'.cl s'.sl
so_far_settled t kind steps snapshots s' h r b e f held =
    let to = leads_then t (Some Settle) (first_snapshot t) (last_snapshot (first_snapshot t) snapshots) s' (leads_on t steps (first_snapshot t) snapshots r) b in
    let a = settle_allows t (last_snapshot (first_snapshot t) snapshots) s' b e f in
    let c = steps_allow t kind steps snapshots h r in
    record { turns = to.turns; plays = to.plays; cl_is = to.cl; sl_is = to.sl; reached = held; allows = omega (arith, a, c) }

begun_so_far : (t : Talkers) (bound : ℕ) (w : World) (cl sl : List Event) → AreFit t → HaveLimits t → IsSoFar t bound w cl sl → (begun w.client.state ≤ bound) × (begun w.server.state ≤ bound)
begun_so_far t bound w cl sl fit limits h =
    let few = few_begun t h.turns w cl sl fit limits h.plays h.cl_is h.sl_is h.reached in
    let a = h.allows in
    (omega (arith, few.0, a), omega (arith, few.1, a))

pub begun_of : (t : Talkers) (bound : ℕ) (w : World) (cl sl : List Event) (side : Side) → AreFit t → HaveLimits t → IsSoFar t bound w cl sl → begun (one_of side w.client w.server).state ≤ bound
begun_of t bound w cl sl Client fit limits h = (begun_so_far t bound w cl sl fit limits h).0
begun_of t bound w cl sl Server fit limits h = (begun_so_far t bound w cl sl fit limits h).1

-- input submits nothing, and asks for no exchange
input_allows_client : (cl sl events : List Event) → IsInput events → most_allowed (cl ++ events) sl ≡ most_allowed cl sl
input_allows_client cl sl events i =
    let a : asked_in (causes_in (cl ++ events)) ≡ asked_in (causes_in cl) + asked_in (causes_in events) = ap asked_in (causes_more cl events) ∙ asked_more (causes_in cl) (causes_in events) in
    let b : length (submitted_in (cl ++ events)) ≡ length (submitted_in cl) = ap length (submitted_more cl events ∙ (ap (λ q. submitted_in cl ++ q) i.0 ∙ append-nil (submitted_in cl))) in
    let c = i.1 in
    omega (arith, a, b, c)

input_allows_server : (cl sl events : List Event) → IsInput events → most_allowed cl (sl ++ events) ≡ most_allowed cl sl
input_allows_server cl sl events i =
    let a : asked_in (causes_in (sl ++ events)) ≡ asked_in (causes_in sl) + asked_in (causes_in events) = ap asked_in (causes_more sl events) ∙ asked_more (causes_in sl) (causes_in events) in
    let b : length (submitted_in (sl ++ events)) ≡ length (submitted_in sl) = ap length (submitted_more sl events ∙ (ap (λ q. submitted_in sl ++ q) i.0 ∙ append-nil (submitted_in sl))) in
    let c = i.1 in
    omega (arith, a, b, c)

stood_client : (t : Talkers) (bound : ℕ) (w : World) (cl sl : List Event) (piece : List ℕ) (events : List Event) (w' : World) → IsInput events → IsSoFar t bound w cl sl → PlaysTurn t w Client piece events w' → IsReached t w' (cl ++ events) sl → IsSoFar t bound w' (cl ++ events) sl
stood_client t bound w cl sl piece events w' i h turn reached =
    let u : Turn = record { side = Client; piece = piece; events = events } in
    record {
      turns = h.turns ++ u ∷ [];
      plays = plays_join t h.turns (u ∷ []) first_world w w' h.plays (w', turn, refl);
      cl_is = ap (λ q. q ++ events) h.cl_is ∙ (ap (λ q. client_log h.turns ++ q) (sym (append-nil events)) ∙ sym (client_join h.turns (u ∷ [])));
      sl_is = h.sl_is ∙ (sym (append-nil (server_log h.turns)) ∙ sym (server_join h.turns (u ∷ [])));
      reached = reached;
      allows = (let e = input_allows_client cl sl events i in let a = h.allows in omega (arith, e, a));
    }

stood_server : (t : Talkers) (bound : ℕ) (w : World) (cl sl : List Event) (piece : List ℕ) (events : List Event) (w' : World) → IsInput events → IsSoFar t bound w cl sl → PlaysTurn t w Server piece events w' → IsReached t w' cl (sl ++ events) → IsSoFar t bound w' cl (sl ++ events)
stood_server t bound w cl sl piece events w' i h turn reached =
    let u : Turn = record { side = Server; piece = piece; events = events } in
    record {
      turns = h.turns ++ u ∷ [];
      plays = plays_join t h.turns (u ∷ []) first_world w w' h.plays (w', turn, refl);
      cl_is = h.cl_is ∙ (sym (append-nil (client_log h.turns)) ∙ sym (client_join h.turns (u ∷ [])));
      sl_is = ap (λ q. q ++ events) h.sl_is ∙ (ap (λ q. server_log h.turns ++ q) (sym (append-nil events)) ∙ sym (server_join h.turns (u ∷ [])));
      reached = reached;
      allows = (let e = input_allows_server cl sl events i in let a = h.allows in omega (arith, e, a));
    }

-- ---- a refused piece

-- of an honest peer's wire, fed to a transport that is a side of the link
pub record RefusedHere (t : Talkers) (bound : ℕ) (w : World) (cl sl : List Event) (side : Side) (took piece : List ℕ) (old : Standing) : Type 0 where
  pub so_far : IsSoFar t bound w cl sl
  pub whole_id : IsWholeId (t.config (other_side side))
  pub stands : StandsAs t side took old (one_of side w.client w.server)
  pub honest : HasFront (id_line (t.config (other_side side)).id ++ (one_of (other_side side) w.client w.server).sent) (took ++ piece)

-- the world in which what is refused stands next, with what is left there
record StoodLeft (t : Talkers) (bound : ℕ) (side : Side) (at : SideState) (left : List ℕ) : Type 0 where
  world : World
  cl : List Event
  sl : List Event
  so_far : IsSoFar t bound world cl sl
  here : (one_of side world.client world.server).state ≡ at
  unfinished : (one_of side world.client world.server).unfinished ≡ left

left_behind : (t : Talkers) (bound : ℕ) (w : World) (cl sl : List Event) (side : Side) (piece : List ℕ) (events : List Event) (k : LinkEnd) → AreFit t → IsInput events → IsSoFar t bound w cl sl → TakesTurn t side (one_of side w.client w.server) piece events (one_of (other_side side) w.client w.server) k → StoodLeft t bound side k.state k.unfinished
left_behind t bound w cl sl Client piece events k fit i h g = (
    let v : World = record w { client = k } in
    record { world = v; cl = cl ++ events; sl = sl; so_far = stood_client t bound w cl sl piece events v i h (g, refl) (client_held t w cl sl piece events v fit h.reached (g, refl)); here = refl; unfinished = refl }
    )
left_behind t bound w cl sl Server piece events k fit i h g = (
    let v : World = record w { server = k } in
    record { world = v; cl = cl; sl = sl ++ events; so_far = stood_server t bound w cl sl piece events v i h (g, refl) (server_held t w cl sl piece events v fit h.reached (g, refl)); here = refl; unfinished = refl }
    )

stood_left : (says : Side → Says) (config : Side → Config) (bound : ℕ) (w : World) (cl sl : List Event) (side : Side) (took piece : List ℕ) (old : Standing) (cause : RefusalCause) (new : Standing) → AreLawful says config → RefusedHere (talkers says config) bound w cl sl side took piece old → (f : RefusesInput (says side) old piece cause new) → f.at.called ≡ false → ReadsIdLine old piece f.events f.line f.behind → StoodLeft (talkers says config) bound side f.at f.left
stood_left says config bound w cl sl side took piece old cause new m r f called reads = left_behind t bound w cl sl side v.piece f.events (end_behind side h f.events v.piece mid) (fit_of says config m) f.input r.so_far v.turn where
  t : Talkers
  t = talkers says config

  h : LinkEnd
  h = one_of side w.client w.server

  peer : LinkEnd
  peer = one_of (other_side side) w.client w.server

  mid : Standing
  mid = stood_at (says side) old piece cause new f

  v : TurnsBy t side (took ++ piece) f.events mid h peer
  v = taken_turn says config side took piece f.events f.behind h peer old mid r.whole_id r.stands r.honest (record { side = refl; config = refl; steps = f.steps; output = refl; not_called = called; live = refl }) reads f.read

-- ---- a message outside

grows_by : (more w : List Item) → kexinits w ≤ kexinits (w ++ more)
grows_by [] w = let e : kexinits (w ++ []) ≡ kexinits w = ap kexinits (append-nil w) in omega (arith, e)
grows_by (j ∷ more) w =
    let p : kexinits (w ++ j ∷ []) ≡ kexinits w + (if type_of j == 20 then 1 else 0) = fold_push _ 0 w j in
    let a : kexinits ((w ++ j ∷ []) ++ more) ≡ kexinits (w ++ j ∷ more) = ap kexinits (append_assoc w (j ∷ []) more) in
    let r = grows_by more (w ++ j ∷ []) in
    omega (arith, p, a, r)

one_next : (w : List Item) (j : Item) (more written : List Item) → type_of j ≡ 20 → written ≡ w ++ j ∷ more → kexinits w + 1 ≤ kexinits written
one_next w j more written e f =
    let p : kexinits (w ++ j ∷ []) ≡ kexinits w + 1 = fold_push _ 0 w j ∙ ap (λ n. kexinits w + (if n == 20 then 1 else 0)) e in
    let a : kexinits ((w ++ j ∷ []) ++ more) ≡ kexinits (w ++ j ∷ more) = ap kexinits (append_assoc w (j ∷ []) more) in
    let g : kexinits written ≡ kexinits (w ++ j ∷ more) = ap kexinits f in
    let r = grows_by more (w ++ j ∷ []) in
    omega (arith, p, a, g, r)

-- The peer has begun one more than a side that stands outside and has its KEXINIT next.
peer_begun : (t : Talkers) (side : Side) (h peer : LinkEnd) (s : SeenBy t side h peer) (i : Item) → h.state.stands ≡ Outside → type_of i ≡ 20 → WritesNext (wrote s.plog) (handled s.log) i → begun h.state + 1 ≤ begun peer.state
peer_begun t side h peer s i out e next =
    let mine = runs_tally t side s.log h s.run in
    let theirs = runs_tally t (other_side side) s.plog peer s.peer_run in
    let a = mine.theirs in
    let b = theirs.own in
    let c : Rattle.ssh_rules.proofs.side.Tallied.read_open h.state.stands ≡ 0 = ap Rattle.ssh_rules.proofs.side.Tallied.read_open out in
    let d : open_count h.state.stands ≡ 0 = ap open_count out in
    let r = one_next (handled s.log) i next.0 (wrote s.plog) e next.1 in
    omega (arith, a, b, c, d, r)

-- outside, a message of an exchange that comes next is a KEXINIT
calls_outside : (writer : Side) (config : Config) (st : SideState) (i : Item) → Goes writer config st i → st.stands ≡ Outside → is_kex_type (type_of i) ≡ true → type_of i ≡ 20
calls_outside writer config st i (Delivering may p) out kex = absurd (kex_twice (type_of i) kex (payload_not_kex (type_of i) p))
calls_outside writer config st i (Calling cookie o len p) out kex = kexinit_item writer config cookie i p
calls_outside writer config st i (Taking stage inside r) out kex = absurd (let q : Inside stage ≡ Outside = sym inside ∙ out in cc)

-- ---- where a refusal stands

-- no more exchanges are begun there than may be, and where a message of one is refused outside, there is room for one
-- more; all are of one kind
pub record FewAt (kind : Bool) (bound : ℕ) (cause : RefusalCause) (at : SideState) : Type 0 where
  pub few : begun at ≤ bound
  pub kinds : IsOfKind kind at
  pub outside : (i : Item) → cause ≡ OfPacket i → is_kex_type (type_of i) ≡ true → at.stands ≡ Outside → begun at + 1 ≤ bound

-- in a reached world all exchanges of a side are of the kind that both configurations choose
pub kinds_of : (t : Talkers) (kind : Bool) (w : World) (cl sl : List Event) (side : Side) → IsKnown t kind → IsReached t w cl sl → IsOfKind kind (one_of side w.client w.server).state
kinds_of t kind w cl sl side k r =
    let s = seen_by t w cl sl side k.fit r in
    of_kind t side kind s.log s.plog (one_of side w.client w.server) (one_of (other_side side) w.client w.server) (k.sizes (other_side side)) (k.reads side) s.run s.peer_run s.front

kinds_left : (t : Talkers) (kind : Bool) (bound : ℕ) (side : Side) (at : SideState) (left : List ℕ) → IsKnown t kind → StoodLeft t bound side at left → IsOfKind kind at
kinds_left t kind bound side at left k x = subst (λ (q : SideState). IsOfKind kind q) x.here (kinds_of t kind x.world x.cl x.sl side k x.so_far.reached)

few_left : (t : Talkers) (bound : ℕ) (side : Side) (at : SideState) (left : List ℕ) → AreFit t → HaveLimits t → StoodLeft t bound side at left → begun at ≤ bound
few_left t bound side at left fit limits x = subst (λ (q : SideState). begun q ≤ bound) x.here (begun_of t bound x.world x.cl x.sl side fit limits x.so_far)

room_outside : (says : Side → Says) (config : Side → Config) (bound : ℕ) (side : Side) (at : SideState) (left : List ℕ) (i : Item) (rest : List ℕ) → AreLawful says config → HaveLimits (talkers says config) → StoodLeft (talkers says config) bound side at left → at.owed ≡ [] → front_of at.reading.sealing at.reading.number left ≡ Whole i rest → is_kex_type (type_of i) ≡ true → at.stands ≡ Outside → begun at + 1 ≤ bound
room_outside says config bound side at left i rest m limits x owes whole kex out =
    let p = peer_begun t side h peer s i here_out type next in
    let b = begun_of t bound x.world x.cl x.sl (other_side side) (fit_of says config m) limits x.so_far in
    let e : begun h.state ≡ begun at = ap begun x.here in
    omega (arith, p, b, e)
  where
    t : Talkers
    t = talkers says config

    h : LinkEnd
    h = one_of side x.world.client x.world.server

    peer : LinkEnd
    peer = one_of (other_side side) x.world.client x.world.server

    s : SeenBy t side h peer
    s = seen_by t x.world x.cl x.sl side (fit_of says config m) x.so_far.reached

    here_out : h.state.stands ≡ Outside
    here_out = ap (λ (q : SideState). q.stands) x.here ∙ out

    front : front_of h.state.reading.sealing h.state.reading.number h.unfinished ≡ Whole i rest
    front = subst (λ (q : SideState). front_of q.reading.sealing q.reading.number h.unfinished ≡ Whole i rest) (sym x.here) (subst (λ (b : List ℕ). front_of at.reading.sealing at.reading.number b ≡ Whole i rest) (sym x.unfinished) whole)

    next : WritesNext (wrote s.plog) (handled s.log) i
    next = next_whole t side s.log s.plog h peer i rest s.run s.peer_run s.fed s.front s.agree front

    goes : Goes (other_side side) (config (other_side side)) h.state i
    goes = goes_on says config side h peer s i next.0 m.sizes (is_within Client (config Client) (m.valid Client)) (is_within Server (config Server) (m.valid Server)) (ap (λ (q : SideState). q.owed) x.here ∙ owes) (λ z. (let q : Silent ≡ Outside = sym z ∙ here_out in cc)) next.1

    type : type_of i ≡ 20
    type = calls_outside (other_side side) (config (other_side side)) h.state i goes here_out kex

other_cause : (kind : Bool) (cause : RefusalCause) (bound : ℕ) (at : SideState) → ((i : Item) → cause ≡ OfPacket i → ⊥) → begun at ≤ bound → IsOfKind kind at → FewAt kind bound cause at
other_cause kind cause bound at n few kinds = record { few = few; kinds = kinds; outside = λ i e k o. absurd (n i e) }

pub few_at : (says : Side → Says) (config : Side → Config) (kind : Bool) (bound : ℕ) (w : World) (cl sl : List Event) (side : Side) (took piece : List ℕ) (old : Standing) (cause : RefusalCause) (new : Standing) → AreLawful says config → HaveLimits (talkers says config) → IsKnown (talkers says config) kind → RefusedHere (talkers says config) bound w cl sl side took piece old → (f : RefusesInput (says side) old piece cause new) → FewAt kind bound cause f.at
few_at says config kind bound w cl sl side took piece old cause new m limits known r f = by cause f where
  t : Talkers
  t = talkers says config

  same : (c : RefusalCause) (g : RefusesInput (says side) old piece c new) → g.events ≡ [] → g.at ≡ (one_of side w.client w.server).state
  same c g e = subst (λ es. Rattle.ssh_rules.specs.Machine.Steps (says side) old.side old.config (id_text old.config.id) old.state es g.at) e g.steps ∙ r.stands.state_is

  left : (c : RefusalCause) (g : RefusesInput (says side) old piece c new) → ((i : Item) → c ≡ OfPacket i → ⊥) → g.at.called ≡ false → ReadsIdLine old piece g.events g.line g.behind → FewAt kind bound c g.at
  left c g n called heard =
      let x = stood_left says config bound w cl sl side took piece old c new m r g called heard in
      other_cause kind c bound g.at n (few_left t bound side g.at g.left (fit_of says config m) limits x) (kinds_left t kind bound side g.at g.left known x)

  by : (c : RefusalCause) (g : RefusesInput (says side) old piece c new) → FewAt kind bound c g.at
  by OfVersion g = absurd (no_version says config side took piece g.events (one_of side w.client w.server) (one_of (other_side side) w.client w.server) old r.whole_id r.stands r.honest g.heard)
  by (OfFault fault) g = left (OfFault fault) g (λ i e. (let q : OfFault fault ≡ OfPacket i = e in cc)) g.done.not_called g.heard
  by OfMemory g = elim g.heard [
    | inl e ↦ other_cause kind OfMemory bound g.at (λ i z. (let q : OfMemory ≡ OfPacket i = z in cc))
        (subst (λ (q : SideState). begun q ≤ bound) (sym (same OfMemory g e)) (begun_of t bound w cl sl side (fit_of says config m) limits r.so_far))
        (subst (λ (q : SideState). IsOfKind kind q) (sym (same OfMemory g e)) (kinds_of t kind w cl sl side known r.so_far.reached))
    | inr h ↦ left OfMemory g (λ i z. (let q : OfMemory ≡ OfPacket i = z in cc)) g.done h
  ]
  by (OfPacket i) g =
      let x = stood_left says config bound w cl sl side took piece old (OfPacket i) new m r g g.done.not_called g.heard in
      record {
        few = few_left t bound side g.at g.left (fit_of says config m) limits x;
        kinds = kinds_left t kind bound side g.at g.left known x;
        outside = λ j e k o. room_outside says config bound side g.at g.left i (g.next).0 m limits x g.done.owes (g.next).1 (subst (λ z. is_kex_type (type_of z) ≡ true) (sym (same_item i j e)) k) o;
      }
    where
      same_item : (a b : Item) → OfPacket a ≡ OfPacket b → a ≡ b
      same_item a b e = cc

-- ---- the counts

pub times_up : (n a b : ℕ) → a ≤ b → n * a ≤ n * b
times_up n a b l =
    let d : a + (b - a) ≡ b = omega (arith, l) in
    let e : n * (a + (b - a)) ≡ n * b = ap (λ k. n * k) d in
    let m = mul-add n a (b - a) in
    omega (arith, e, m)

times_one : (n a : ℕ) → n * (a + 1) ≡ n * a + n
times_one n a = mul-add n a 1 ∙ (let z : n * a + n * 1 ≡ n * a + n = omega arith in z)

one_count : (to_come : Where → ℕ) (each : ℕ) (st at : SideState) (bound n m n' : ℕ) → to_come st.stands ≡ 0 → begun st ≡ 0 → begun at ≤ bound → (at.stands ≡ Outside → begun at + 1 ≤ bound) → CallsFrom to_come each st at n m → AsksOnce to_come each at.stands m n' → n' ≤ n + each * bound
one_count to_come each st at bound n m n' z none few room p a = by at.stands refl a where
  till : m + to_come at.stands ≤ n + each * begun at
  till =
      let d : begun at - begun st ≡ begun at = omega (arith, none) in
      let e : each * (begun at - begun st) ≡ each * begun at = ap (λ k. each * k) d in
      let q = p.1 in
      omega (arith, q, z, e)

  up : each * begun at ≤ each * bound
  up = times_up each (begun at) bound few

  by : (w : Where) → at.stands ≡ w → AsksOnce to_come each w m n' → n' ≤ n + each * bound
  by Silent e h = let q = h.2 in omega (arith, q, till, up)
  by Outside e h =
      let q = h.2 in
      let r = times_up each (begun at + 1) bound (room e) in
      let s = times_one each (begun at) in
      omega (arith, q, till, r, s)
  by (Inside stage) e h =
      let q = h.2 in
      let s : to_come at.stands ≡ to_come (Inside stage) = ap to_come e in
      omega (arith, q, till, up, s)

none_count : (to_come : Where → ℕ) (each : ℕ) (st at : SideState) (bound n m : ℕ) → to_come st.stands ≡ 0 → begun st ≡ 0 → begun at ≤ bound → CallsFrom to_come each st at n m → m ≤ n + each * bound
none_count to_come each st at bound n m z none few p =
    let d : begun at - begun st ≡ begun at = omega (arith, none) in
    let e : each * (begun at - begun st) ≡ each * begun at = ap (λ k. each * k) d in
    let q = p.1 in
    let up = times_up each (begun at) bound few in
    omega (arith, q, z, e, up)

-- ---- group exchanges

groups_none : (records : List FinishedExchange) → ((k : ℕ) (x : FinishedExchange) → slice_get records k ≡ Some x → is_gex x.names.kex ≡ false) → groups_in records ≡ 0
groups_none [] each = refl
groups_none (x ∷ records) each =
    let a : group_in (Some x.names) ≡ 0 = ap (λ (b : Bool). if b then 1 else 0) (each 0 x refl) in
    let r = groups_none records (λ k y e. each (suc k) y e) in
    omega (arith, a, r)

-- where the kind is no group exchange, none was chosen
none_chosen : (st : SideState) → IsOfKind false st → groups_chosen st ≡ 0
none_chosen st h =
    let a = groups_none st.records h.each in
    let b = by (names_now st.stands) h.now in
    omega (arith, a, b)
  where
    by : (o : Option Names) → KindIs false o → group_in o ≡ 0
    by None e = refl
    by (Some n) e = ap (λ (b : Bool). if b then 1 else 0) e

-- each part of a side was asked no more often than so many exchanges ask it, and the lookup where they are group
-- exchanges
pub record AskedFew (side : Side) (kind : Bool) (bound : ℕ) (n n' : PartCalls) : Type 0 where
  pub agreement_later : n.agreement ≤ n'.agreement
  pub agreement : n'.agreement ≤ n.agreement + calls_of side * bound
  pub hosts_later : n.hosts ≤ n'.hosts
  pub hosts : n'.hosts ≤ n.hosts + calls_of side * bound
  pub lookups_later : n.lookups ≤ n'.lookups
  pub lookups : n'.lookups ≤ n.lookups + lookups_of side * bound
  pub groups : kind ≡ false → n'.lookups ≤ n.lookups

-- from a side's start on
pub asked_few : (side : Side) (kind : Bool) (bound : ℕ) (cause : RefusalCause) (st at : SideState) (n n' : PartCalls) → st.stands ≡ Silent → st.records ≡ [] → FewAt kind bound cause at → AsksUntil side cause st at n n' → AskedFew side kind bound n n'
asked_few side kind bound cause st at n n' silent records few u = by cause few.outside u.last where
  none : begun st ≡ 0
  none = (let x : length st.records ≡ 0 = ap length records in let y : open_count st.stands ≡ 0 = ap open_count silent in omega (arith, x, y))

  none_yet : groups_chosen st ≡ 0
  none_yet = (let x : groups_in st.records ≡ 0 = ap groups_in records in let y : group_in (names_now st.stands) ≡ 0 = ap (λ (w : Where). group_in (names_now w)) silent in omega (arith, x, y))

  none_due : request_due st.stands ≡ 0
  none_due = ap request_due silent

  no_groups : (k : ℕ) → k ≤ u.mid.lookups + request_due at.stands → kind ≡ false → k ≤ n.lookups
  no_groups k last e =
      let z = none_chosen at (subst (λ (b : Bool). IsOfKind b at) e few.kinds) in
      let g = u.before.groups in
      omega (arith, last, z, g, none_yet, none_due)

  a : agreement_to_come side st.stands ≡ 0
  a = ap (agreement_to_come side) silent

  h : hosts_to_come side st.stands ≡ 0
  h = ap (hosts_to_come side) silent

  l : lookups_to_come side st.stands ≡ 0
  l = ap (lookups_to_come side) silent

  mid : PartCalls
  mid = u.mid

  before : AsksWithin side st at n mid
  before = u.before

  message : (at.stands ≡ Outside → begun at + 1 ≤ bound) → AsksForMessage side at.stands mid n' → AskedFew side kind bound n n'
  message room g = record {
    agreement_later = (let x = before.agreement.0 in let y = g.agreement.0 in omega (arith, x, y));
    agreement = one_count (agreement_to_come side) (calls_of side) st at bound n.agreement mid.agreement n'.agreement a none few.few room before.agreement g.agreement;
    hosts_later = (let x = before.hosts.0 in let y = g.hosts.0 in omega (arith, x, y));
    hosts = one_count (hosts_to_come side) (calls_of side) st at bound n.hosts mid.hosts n'.hosts h none few.few room before.hosts g.hosts;
    lookups_later = (let x = before.lookups.0 in let y = g.lookups.0 in omega (arith, x, y));
    lookups = one_count (lookups_to_come side) (lookups_of side) st at bound n.lookups mid.lookups n'.lookups l none few.few room before.lookups g.lookups;
    groups = no_groups n'.lookups g.groups;
  }

  still : n' ≡ mid → AskedFew side kind bound n n'
  still e = subst (λ q. AskedFew side kind bound n q) (sym e) (record {
    agreement_later = before.agreement.0;
    agreement = none_count (agreement_to_come side) (calls_of side) st at bound n.agreement mid.agreement a none few.few before.agreement;
    hosts_later = before.hosts.0;
    hosts = none_count (hosts_to_come side) (calls_of side) st at bound n.hosts mid.hosts h none few.few before.hosts;
    lookups_later = before.lookups.0;
    lookups = none_count (lookups_to_come side) (lookups_of side) st at bound n.lookups mid.lookups l none few.few before.lookups;
    groups = no_groups mid.lookups (omega arith);
  })

  typed : (kex : Bool) → (kex ≡ true → at.stands ≡ Outside → begun at + 1 ≤ bound) → AsksForType kex side at.stands mid n' → AskedFew side kind bound n n'
  typed true room g = message (room refl) g
  typed false room g = still g

  by : (c : RefusalCause) → ((i : Item) → c ≡ OfPacket i → is_kex_type (type_of i) ≡ true → at.stands ≡ Outside → begun at + 1 ≤ bound) → AsksForCause c side at.stands mid n' → AskedFew side kind bound n n'
  by (OfPacket i) room g = typed (is_kex_type (type_of i)) (room i refl) g
  by (OfFault fault) room g = still g
  by OfVersion room g = still g
  by OfMemory room g = still g
