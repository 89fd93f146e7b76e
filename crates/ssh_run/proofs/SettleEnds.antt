-- With lawful parts no settle comes to no end: each turn in which bytes wait leaves less to do, no side begins more
-- exchanges than were asked for, and where no byte waits both rest.
use Rattle.std.proofs.Common.{◌≡◌, inl, inr, ℕ, zero, suc, ◌+◌, ◌*◌, ◌<◌, ◌≤◌, ◌^◌, Bool, true, false, not, List, [], ◌∷◌, length, refl, sym, ◌∙◌, ap, subst, arith, None, Some, if◌then◌else◌, length-append}
use Rattle.std.proofs.lemmas.List.{length-take-le}
use Rattle.ssh_wire.specs.Lines.{id_line, id_text}
use Rattle.ssh_wire.specs.Sides.{other_side}
use Rattle.ssh_wire.specs.declared.side.Side.{Side}
use Rattle.ssh_wire.specs.declared.side.Side.TheVariants.{Client, Server}
use Rattle.ssh_kex.specs.Setting.{Says}
use Rattle.ssh_kex.specs.declared.config.Config.{Config}
use Rattle.ssh_rules.specs.Counting.{begun, left}
use Rattle.ssh_rules.specs.Headline.{bound_of}
use Rattle.ssh_rules.specs.Log.{sent_bytes}
use Rattle.ssh_rules.specs.Machine.{Event, SideState, Steps}
use Rattle.ssh_rules.specs.Run.{IsSettled}
use Rattle.ssh_rules.specs.Snapshots.{IsSnapshot, IsWholeId, RunsInLink, Snapshot, first_snapshot, last_snapshot}
use Rattle.ssh_rules.specs.Standing.{Standing, is_outside, unfinished, unfinished_by}
use Rattle.ssh_rules.specs.Turns.{LinkEnd, Talkers, talkers}
use Rattle.ssh_rules.specs.declared.link.SideMark.{SideMark}
use Rattle.ssh_rules.specs.declared.link.Step as link
use Rattle.ssh_rules.specs.declared.link.Step.TheVariants.{Deliver, Rekey, Settle, Submit}
use Rattle.ssh_rules.proofs.Lemmas.{HaveLimits, IsKnown, all_rest, begun_steps, both_lower, few_with_first, leads_stay, settle_few, settle_measure, settle_starts, side_lowers, waits_for}
use Rattle.ssh_run.specs.Carrying.{CarriedEnd, CarriedLink, CarriesTo, HasWaiting, RepeatsTurns, TakesTurns, begun_by, last_link, side_mark}
use Rattle.ssh_run.specs.RefusedCarrying.{IsRestless, HasNoEnd, StaysRestless, settle_turns}
use Rattle.ssh_run.proofs.LinkSoFar.{few_bound}
use Rattle.ssh_run.proofs.LinkTurns.{Follows, IsTied, Settles, repeated}
use Rattle.ssh_run.proofs.SideTurns.{IsSide, wire_by}

-- ---- each turn leaves less to do

-- what is left to do in a settle
abbrev link_measure : ℕ → CarriedLink → ℕ
link_measure bound l = settle_measure (left bound l.client.transport.state) (left bound l.server.transport.state) (waits_for l.client.taken (length l.server.transport.output)) (waits_for l.server.taken (length l.client.transport.output))

carry_steps : (says : Says) (old : CarriedEnd) (wire : List ℕ) (n : ℕ) (new : CarriedEnd) → (h : CarriesTo says old wire n new) → Steps says old.transport.side old.transport.config (id_text old.transport.config.id) old.transport.state h.call.events new.transport.state
carry_steps says old wire n new h = subst (λ (st : SideState). Steps says old.transport.side old.transport.config (id_text old.transport.config.id) old.transport.state h.call.events st) (sym (ap (λ (t : Standing). t.state) h.transport)) h.call.acts.steps

carry_sent : (says : Says) (old : CarriedEnd) (wire : List ℕ) (n : ℕ) (new : CarriedEnd) → (h : CarriesTo says old wire n new) → length new.transport.output ≡ length old.transport.output + length (sent_bytes old.transport.side old.transport.state.writing h.call.events)
carry_sent says old wire n new h = ap (λ (t : Standing). length t.output) h.transport ∙ (ap length h.call.acts.output ∙ length-append old.transport.output (sent_bytes old.transport.side old.transport.state.writing h.call.events))

carry_begun : (says : Says) (old : CarriedEnd) (wire : List ℕ) (n : ℕ) (new : CarriedEnd) → CarriesTo says old wire n new → begun old.transport.state ≤ begun new.transport.state
carry_begun says old wire n new h = begun_steps says old.transport.side old.transport.config (id_text old.transport.config.id) h.call.events old.transport.state new.transport.state (carry_steps says old wire n new h)

carry_lowers : (says : Says) (bound : ℕ) (old : CarriedEnd) (wire : List ℕ) (n : ℕ) (new : CarriedEnd) (other peer_taken : ℕ) → CarriesTo says old wire n new → length wire ≤ new.taken → begun new.transport.state ≤ bound → settle_measure (left bound new.transport.state) other (waits_for new.taken (length wire)) (waits_for peer_taken (length new.transport.output)) + waits_for old.taken (length wire) ≤ settle_measure (left bound old.transport.state) other (waits_for old.taken (length wire)) (waits_for peer_taken (length old.transport.output))
carry_lowers says bound old wire n new other peer_taken h all few = side_lowers says old.transport.side old.transport.config (id_text old.transport.config.id) bound h.call.events old.transport.state new.transport.state other old.taken new.taken (length wire) (length old.transport.output) (length new.transport.output) peer_taken (carry_steps says old wire n new h) h.call.input.0 few (carry_sent says old wire n new h) all

some_wait : (l : CarriedLink) → HasWaiting l → 1 ≤ waits_for l.client.taken (length l.server.transport.output) + waits_for l.server.taken (length l.client.transport.output)
some_wait l (inl h) = omega (arith, h)
some_wait l (inr h) = omega (arith, h)

turn_lowers : (c s : Says) (bound : ℕ) (old new : CarriedLink) → TakesTurns c s old new → HasWaiting old → begun new.client.transport.state ≤ bound → begun new.server.transport.state ≤ bound → link_measure bound new + 1 ≤ link_measure bound old
turn_lowers c s bound old new h waits cf sf =
    both_lower (left bound old.client.transport.state) (left bound new.client.transport.state) (left bound old.server.transport.state) (left bound new.server.transport.state)
    (waits_for old.client.taken (length old.server.transport.output)) (waits_for old.client.taken (length new.server.transport.output)) (waits_for new.client.taken (length new.server.transport.output))
    (waits_for old.server.taken (length old.client.transport.output)) (waits_for new.server.taken (length old.client.transport.output)) (waits_for new.server.taken (length new.client.transport.output))
    (carry_lowers s bound old.server old.client.transport.output _ new.server (left bound old.client.transport.state) old.client.taken h.to_server h.all_to_server sf)
    (carry_lowers c bound old.client new.server.transport.output _ new.client (left bound new.server.transport.state) new.server.taken h.to_client h.all_to_client cf)
    (let e = carry_sent s old.server old.client.transport.output _ new.server h.to_server in omega (arith, e))
    (some_wait old waits)

repeats_lower : (c s : Says) (bound n : ℕ) (old new : CarriedLink) → RepeatsTurns c s n old new → begun new.client.transport.state ≤ bound → begun new.server.transport.state ≤ bound → link_measure bound new + n ≤ link_measure bound old
repeats_lower c s bound zero old new h cf sf = (let e = ap (λ (x : CarriedLink). link_measure bound x) h in let k : link_measure bound new ≡ link_measure bound old = e in by (link_measure bound new) (link_measure bound old) k) where
  by : (a b : ℕ) → a ≡ b → a + 0 ≤ b
  by a b e = omega (arith, e)
repeats_lower c s bound (suc n) old new h cf sf =
    let a = carry_begun c h.0.client new.server.transport.output _ new.client h.2.to_client in
    let b = carry_begun s h.0.server h.0.client.transport.output _ new.server h.2.to_server in
    let before = repeats_lower c s bound n old h.0 h.1 (omega (arith, a, cf)) (omega (arith, b, sf)) in
    let turn = turn_lowers c s bound h.0 new h.2 h.3 cf sf in
    by (link_measure bound new) (link_measure bound h.0) (link_measure bound old) n turn before where
      by : (a m b n : ℕ) → a + 1 ≤ m → m + n ≤ b → a + suc n ≤ b
      by a m b n e f = omega (arith, e, f)

-- ---- where no byte waits

true_false : true ≡ false → ⊥
true_false e = cc

none_unfinished : (says : Side → Says) (config : Side → Config) (side : Side) (log : List Event) (h peer : LinkEnd) (e : CarriedEnd) → IsSide says config side log h peer e → length (wire_by (config (other_side side)) peer.sent) ≤ e.taken → h.unfinished ≡ [] → unfinished e.transport ≡ []
none_unfinished says config side log h peer e s all none = elim s.stands.come [
  | inl p ↦ absurd (let l = p.few in let t = length-take-le e.taken (wire_by (config (other_side side)) peer.sent) s.within in let a = length-append (id_line (config (other_side side)).id) peer.sent in omega (arith, l, t, a, all))
  | inr p ↦ subst (λ x. unfinished_by x e.transport.waiting ≡ []) (sym p.reading_is) (p.unfinished ∙ none)
]

-- at its mark a side is outside, and no input is left
not_restless : (e : CarriedEnd) (m : SideMark) → m ≡ side_mark e → m.inside ≡ false → unfinished e.transport ≡ [] → IsRestless e → ⊥
not_restless e m k o n (inl r) = true_false (sym (ap not r) ∙ (sym (ap (λ (x : SideMark). x.inside) k) ∙ o))
not_restless e m k o n (inr r) = (let z : length (unfinished e.transport) ≡ 0 = ap length n in omega (arith, r, z))

both_rest : (says : Side → Says) (config : Side → Config) (kind : Bool) (s : Snapshot) (l : CarriedLink) → IsKnown (talkers says config) kind → IsTied says config kind s l → StaysRestless l → ⊥
both_rest says config kind s l k i r = elim r.restless [
  | inl c ↦ not_restless l.client s.mark.client i.client_mark rest.0.client_outside (none_unfinished says config Client s.cl s.world.client s.world.server l.client i.of_client (let o = ap length i.of_server.output in let t = r.to_client in omega (arith, o, t)) rest.1.0) c
  | inr v ↦ not_restless l.server s.mark.server i.server_mark rest.0.server_outside (none_unfinished says config Server s.sl s.world.server s.world.client l.server i.of_server (let o = ap length i.of_client.output in let t = r.to_server in omega (arith, o, t)) rest.1.1) v
] where
  to_client : s.mark.client.taken ≡ s.mark.server.sent
  to_client = (let a = ap (λ (m : SideMark). m.taken) i.client_mark in let b = ap (λ (m : SideMark). m.sent) i.server_mark in let w = i.of_client.within in let o = ap length i.of_server.output in let t = r.to_client in omega (arith, a, b, w, o, t))

  to_server : s.mark.server.taken ≡ s.mark.client.sent
  to_server = (let a = ap (λ (m : SideMark). m.taken) i.server_mark in let b = ap (λ (m : SideMark). m.sent) i.client_mark in let w = i.of_server.within in let o = ap length i.of_client.output in let t = r.to_server in omega (arith, a, b, w, o, t))

  rest : IsSettled s.mark.client s.mark.server None None × ((s.world.client.unfinished ≡ []) × (s.world.server.unfinished ≡ []))
  rest = all_rest (talkers says config) kind s k.fit (i.known k) to_client to_server

-- ---- a settle ends

pub some_bound : (steps : List link.Step) → 1 ≤ bound_of steps
some_bound [] = omega arith
some_bound (Submit side p ∷ steps) = let r = some_bound steps in omega (arith, r)
some_bound (Deliver side n ∷ steps) = some_bound steps
some_bound (Rekey side ∷ steps) = let r = some_bound steps in omega (arith, r)
some_bound (Settle ∷ steps) = some_bound steps

few_begun_by : (t : Talkers) (side : Side) (log : List Event) (h : LinkEnd) (e : CarriedEnd) (bound : ℕ) → e.transport.state ≡ h.state → RunsInLink t side log h → 1 ≤ bound → begun h.state ≤ bound → begun_by e ≤ bound
few_begun_by t side log h e bound same r some few = subst (λ (q : SideState). length q.records + (if is_outside q.stands then 0 else 1) ≤ bound) (sym same) (few_with_first t side log h bound r some few)

beyond : (bound n : ℕ) → n ≤ bound → bound < n → ⊥
beyond bound n a b = omega (arith, a, b)

-- a settle that began with no more than its turns has one left where bytes wait
turn_left : (bound times cl sl cl' sl' cw sw now : ℕ) → settle_measure cl' sl' 1 1 ≤ 32 * bound → cl ≡ cl' → sl ≡ sl' → cw ≤ 1 → sw ≤ 1 → now + times ≤ settle_measure cl sl cw sw → 1 ≤ now → bound < 2 ^ 66 → times ≡ settle_turns bound → ⊥
turn_left bound times cl sl cl' sl' cw sw now a e f c d low some few all = omega (arith, a, e, f, c, d, low, some, few, all)

some_left : (a b cw sw : ℕ) → 1 ≤ cw + sw → 1 ≤ settle_measure a b cw sw
some_left a b cw sw h = omega (arith, h)

same_few : (bound : ℕ) (a b : SideState) → a ≡ b → begun b ≤ bound → begun a ≤ bound
same_few bound a b e h = subst (λ (q : SideState). begun q ≤ bound) (sym e) h

-- With what is known of lawful parts, a settle behind some steps never comes to no end.
pub always_settles : (says : Side → Says) (config : Side → Config) (kind : Bool) (steps : List link.Step) (l mid : CarriedLink) (links : List CarriedLink) (times : ℕ) → ((side : Side) → IsWholeId (config side)) → length steps < 2 ^ 64 → IsKnown (talkers says config) kind → HaveLimits (talkers says config) → Follows says config kind steps (first_snapshot (talkers says config)) l links → RepeatsTurns (says Client) (says Server) times (last_link l links) mid → HasNoEnd (bound_of steps) times mid → ⊥
always_settles says config kind steps l mid links times whole few k limits f r never = elim never [
  | inl x ↦ turns_left x.0 x.1
  | inr y ↦ elim y [
    | inl b ↦ elim b [
      | inl c ↦ beyond bound (begun_by mid.client) (few_begun_by t Client settled.next.cl settled.next.world.client mid.client bound now.of_client.stands.state_is i.held.client (some_bound steps) begun_now.0) c
      | inr v ↦ beyond bound (begun_by mid.server) (few_begun_by t Server settled.next.sl settled.next.world.server mid.server bound now.of_server.stands.state_is i.held.server (some_bound steps) begun_now.1) v
    ]
    | inr q ↦ both_rest says config kind settled.next mid k now q
  ]
] where
  t : Talkers
  t = talkers says config

  bound : ℕ
  bound = bound_of steps

  start : Snapshot
  start = last_snapshot (first_snapshot t) f.snapshots

  settled : Settles says config kind start mid
  settled = repeated says config kind times start (last_link l links) mid whole f.last r

  now : IsTied says config kind settled.next mid
  now = settled.tied

  i : IsSnapshot t kind settled.next
  i = now.known k

  begun_first : (begun start.world.client.state ≤ bound) × (begun start.world.server.state ≤ bound)
  begun_first = settle_few t kind steps f.snapshots start k.fit limits (f.does k) f.leads (leads_stay t (Some Settle) start) refl refl (f.last.known k)

  begun_now : (begun settled.next.world.client.state ≤ bound) × (begun settled.next.world.server.state ≤ bound)
  begun_now = settle_few t kind steps f.snapshots settled.next k.fit limits (f.does k) f.leads settled.leads settled.cl settled.sl i

  turns_left : times ≡ settle_turns bound → HasWaiting mid → ⊥
  turns_left all waits =
      let first = last_link l links in
      turn_left bound times (left bound first.client.transport.state) (left bound first.server.transport.state) (left bound start.world.client.state) (left bound start.world.server.state) (waits_for first.client.taken (length first.server.transport.output)) (waits_for first.server.taken (length first.client.transport.output)) (link_measure bound mid)
      (settle_starts t kind steps f.snapshots (f.does k) f.leads start refl (f.last.known k) begun_first.0 begun_first.1)
      (ap (λ (q : SideState). left bound q) f.last.of_client.stands.state_is) (ap (λ (q : SideState). left bound q) f.last.of_server.stands.state_is)
      (omega arith) (omega arith)
      (repeats_lower (says Client) (says Server) bound times first mid r (same_few bound mid.client.transport.state settled.next.world.client.state now.of_client.stands.state_is begun_now.0) (same_few bound mid.server.transport.state settled.next.world.server.state now.of_server.stands.state_is begun_now.1))
      (some_left (left bound mid.client.transport.state) (left bound mid.server.transport.state) (waits_for mid.client.taken (length mid.server.transport.output)) (waits_for mid.server.taken (length mid.client.transport.output)) (some_wait mid waits))
      (let b = few_bound steps in omega (arith, b, few)) all
