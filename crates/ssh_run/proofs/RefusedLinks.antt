-- The causes of what a run of a link is refused, from what its refused call says.
use Rattle.std.proofs.Common.{◌≡◌, ◌⊎◌, inl, inr, ℕ, ◌+◌, ◌-◌, ◌<◌, ◌≤◌, ◌^◌, Bool, List, ◌∷◌, ◌++◌, false, length, take, drop, refl, sym, ◌∙◌, ap, subst, arith, length-append, true, None, Some, Option, Result, Ok, Err, IfErr, IfOk, OnOk}
use Rattle.std.proofs.Math.Nat.{min-le_left}
use Rattle.std.proofs.lemmas.List.{length-take}
use Rattle.ssh_wire.specs.declared.error.Error.{Error}
use Rattle.ssh_wire.specs.declared.error.Error.TheVariants as errors
use Rattle.ssh_wire.specs.declared.side.Side.{Side}
use Rattle.ssh_wire.specs.declared.side.Side.TheVariants.{Client, Server}
use Rattle.ssh_negotiate.specs.declared.kex.Name.{Name as KexName}
use Rattle.ssh_wire.specs.Lines.{id_line}
use Rattle.ssh_wire.specs.Sides.{other_side}
use Rattle.ssh_negotiate.specs.declared.negotiation.Names.{Names}
use Rattle.ssh_negotiate.specs.declared.preferred.HostKey.{HostKey}
use Rattle.ssh_kex.specs.Messages.{is_gex}
use Rattle.ssh_kex.specs.Parts.{IsSmall, Presents, Setup}
use Rattle.ssh_kex.specs.Setting.{Says}
use Rattle.ssh_kex.specs.declared.exchange.ServerHost.{ServerHost}
use Rattle.ssh_rules.specs.RunLaws.{config_of}
use Rattle.ssh_kex.specs.declared.config.Config.{Config}
use Rattle.ssh_kex.specs.declared.group.DhGroup.{DhGroup}
use Rattle.ssh_rules.specs.Headline.{bound_of, chosen_by, kind_by}
use Rattle.ssh_rules.specs.Refused.{group_due}
use Rattle.ssh_rules.specs.LinkCauses.{RefusesPlayed, Rises, unobliged_of}
use Rattle.ssh_rules.specs.Machine.{Event}
use Rattle.ssh_rules.specs.RefusedTurn.{RefusesInLink}
use Rattle.ssh_rules.specs.Refusing.{RefusesPiece}
use Rattle.ssh_rules.specs.Snapshots.{IsWholeId, Snapshot, first_snapshot, kind_chosen, last_snapshot}
use Rattle.ssh_rules.specs.Standing.{Standing}
use Rattle.ssh_rules.specs.Turns.{World, talkers}
use Rattle.ssh_rules.specs.Valid.{HasSizes, config_fault, first_config_fault}
use Rattle.ssh_rules.specs.Wire.{HasFront}
use Rattle.ssh_rules.specs.declared.link.Step.{Step}
use Rattle.ssh_rules.specs.declared.link.Step.TheVariants.{Deliver, Rekey, Settle, Submit}
use Rattle.ssh_rules.proofs.Lemmas.{HaveLimits, AreLawful, AreMet, AreSmall, Causes, Duties, IsKnown, PartLaws, Tells, any_refused, came, have_limits, duties_of, owes_of, is_known, link_cause, none_in_link, refused_turn, small_of}
use Rattle.ssh_transport.proofs.Lemmas.{agreement_same, groups_same, hosts_same}
use Rattle.ssh_run.specs.Carrying.{CarriedEnd, CarriedLink, IsNewLink, RepeatsTurns, all_bytes, carried_count, last_link}
use Rattle.ssh_run.specs.RefusedCarrying.{HasNoEnd, IsConfigFault, RefusesAt, RefusesBytes, RefusesCarrying, RefusesLink, RefusesLinkStep, RefusesSubmit, RefusesTurn, Telling, telling_of}
use Rattle.ssh_run.specs.RunCauses.{IsAnyPartsCause, IsAnyRunCause, IsBadSubmit, IsPartsCause, IsRunCause, IsUnsettled, IsValidRun, ReachesStep, all_submits_good, carries_to, has_settle, most_brought, offered_on, rises_by}
use Rattle.ssh_run.proofs.Brought.{bring_messages, few_taken, taken_by}
use Rattle.ssh_run.proofs.CarriedLinks.{first_tied, nothing_submitted}
use Rattle.ssh_run.proofs.Hears.{some_sent}
use Rattle.ssh_run.proofs.GoodSubmits.{none_bad, steps_good}
use Rattle.ssh_run.proofs.LinkTurns.{IsTied, follows, repeated, server_carry}
use Rattle.ssh_run.proofs.SettleEnds.{always_settles}
use Rattle.ssh_run.proofs.SideTurns.{next_front, wire_by}
use Rattle.ssh_kex.specs.Members.{AgreementMembers, GroupLookupMembers, HostKeysMembers}

abbrev pub says_in : (Side → Telling) → Side → Says
says_in tell side = (tell side).says

-- a piece that some step carries to a side, which refuses it; the link before that step had taken what it had
pub record RefusedThere (tell : Side → Telling) (config : Side → Config) (kind : Bool) (before : CarriedLink) (step : Step) (error : Error) : Type 0 where
  pub side : Side
  pub carries : carries_to side step ≡ true
  pub world : World
  pub cl : List Event
  pub sl : List Event
  pub took : List ℕ
  pub piece : List ℕ
  pub few : (n : ℕ) → step ≡ Deliver side n → length (took ++ piece) ≤ taken_by side before + n
  pub heard : (n : ℕ) → step ≡ Deliver side n → length (id_line (config (other_side side)).id) < length (took ++ piece) → length (id_line (config side).id) ≤ taken_by (other_side side) before
  pub old : Standing
  pub new : Standing
  pub in_link : IsKnown (talkers (says_in tell) config) kind → RefusesInLink (talkers (says_in tell) config) (tell side).denies (tell side).untrusted world cl sl side took piece old error new
  pub played : RefusesPlayed (talkers (says_in tell) config) (tell side).denies (tell side).untrusted world cl sl side took piece old error new

-- so many bytes were taken, and so many more at most
taken_few : (wire : List ℕ) (taken n : ℕ) (e : CarriedEnd) → length (take taken wire ++ take (carried_count e wire n) (drop taken wire)) ≤ taken + n
taken_few wire taken n e =
    let a = length-append (take taken wire) (take (carried_count e wire n) (drop taken wire)) in
    let b = length-take taken wire in
    let b1 = min-le_left taken (length wire) in
    let c = length-take (carried_count e wire n) (drop taken wire) in
    let c1 = min-le_left (carried_count e wire n) (length (drop taken wire)) in
    let d = min-le_left n (length wire - e.taken) in
    omega (arith, a, b, b1, c, c1, d)

-- more than its line was sent by a side of which more was taken
sent_more : (line sent front : List ℕ) → HasFront (line ++ sent) front → length line < length front → 0 < length sent
sent_more line sent front h more = (let a = ap length h.1 in let b = length-append front h.0 in let c = length-append line sent in omega (arith, a, b, c, more))

client_there : (tell : Side → Telling) (config : Side → Config) (kind : Bool) (before : CarriedLink) (step : Step) (s : Snapshot) (l : CarriedLink) (n : ℕ) (e : Error) → ((m : ℕ) → step ≡ Deliver Client m → (l ≡ before) × (n ≡ m)) → IsWholeId (config Server) → IsTied (says_in tell) config kind s l → RefusesBytes (tell Client) l.client l.server.transport.output n e → carries_to Client step ≡ true → RefusedThere tell config kind before step e
client_there tell config kind before step s l n e at whole i r c = record {
  side = Client;
  carries = c;
  world = s.world;
  cl = s.cl;
  sl = s.sl;
  took = take l.client.taken wire;
  piece = take k (drop l.client.taken wire);
  few = λ m q. (let d = at m q in let a = taken_few wire l.client.taken n l.client in let b = ap (taken_by Client) d.0 in let f = d.1 in omega (arith, a, b, f));
  heard = λ m q more. (let d = at m q in let b = ap (taken_by Server) d.0 in let a = some_sent (says_in tell) config Server s.sl s.world.server s.world.client l.server i.of_server (sent_more (id_line (config Server).id) s.world.server.sent (take l.client.taken wire ++ take k (drop l.client.taken wire)) (next_front wire l.client.taken k) more) in omega (arith, a, b));
  old = l.client.transport;
  new = r.left;
  in_link = λ q. record { reached = (i.known q).held; whole_id = whole; stands = i.of_client.stands; honest = next_front wire l.client.taken k; refuses = call };
  played = record { played = record { client = i.of_client.ran; server = i.of_server.ran; to_server = i.of_server.front; to_client = i.of_client.front }; whole_id = whole; stands = i.of_client.stands; honest = next_front wire l.client.taken k; refuses = call };
} where
  wire : List ℕ
  wire = wire_by (config Server) s.world.server.sent

  k : ℕ
  k = carried_count l.client wire n

  call : RefusesPiece (tell Client).says (tell Client).denies (tell Client).untrusted l.client.transport (take k (drop l.client.taken wire)) e r.left
  call = subst (λ w. RefusesPiece (tell Client).says (tell Client).denies (tell Client).untrusted l.client.transport (take (carried_count l.client w n) (drop l.client.taken w)) e r.left) i.of_server.output r.call

server_there : (tell : Side → Telling) (config : Side → Config) (kind : Bool) (before : CarriedLink) (step : Step) (s : Snapshot) (l : CarriedLink) (n : ℕ) (e : Error) → ((m : ℕ) → step ≡ Deliver Server m → (l ≡ before) × (n ≡ m)) → IsWholeId (config Client) → IsTied (says_in tell) config kind s l → RefusesBytes (tell Server) l.server l.client.transport.output n e → carries_to Server step ≡ true → RefusedThere tell config kind before step e
server_there tell config kind before step s l n e at whole i r c = record {
  side = Server;
  carries = c;
  world = s.world;
  cl = s.cl;
  sl = s.sl;
  took = take l.server.taken wire;
  piece = take k (drop l.server.taken wire);
  few = λ m q. (let d = at m q in let a = taken_few wire l.server.taken n l.server in let b = ap (taken_by Server) d.0 in let f = d.1 in omega (arith, a, b, f));
  heard = λ m q more. (let d = at m q in let b = ap (taken_by Client) d.0 in let a = some_sent (says_in tell) config Client s.cl s.world.client s.world.server l.client i.of_client (sent_more (id_line (config Client).id) s.world.client.sent (take l.server.taken wire ++ take k (drop l.server.taken wire)) (next_front wire l.server.taken k) more) in omega (arith, a, b));
  old = l.server.transport;
  new = r.left;
  in_link = λ q. record { reached = (i.known q).held; whole_id = whole; stands = i.of_server.stands; honest = next_front wire l.server.taken k; refuses = call };
  played = record { played = record { client = i.of_client.ran; server = i.of_server.ran; to_server = i.of_server.front; to_client = i.of_client.front }; whole_id = whole; stands = i.of_server.stands; honest = next_front wire l.server.taken k; refuses = call };
} where
  wire : List ℕ
  wire = wire_by (config Client) s.world.client.sent

  k : ℕ
  k = carried_count l.server wire n

  call : RefusesPiece (tell Server).says (tell Server).denies (tell Server).untrusted l.server.transport (take k (drop l.server.taken wire)) e r.left
  call = subst (λ w. RefusesPiece (tell Server).says (tell Server).denies (tell Server).untrusted l.server.transport (take (carried_count l.server w n) (drop l.server.taken w)) e r.left) i.of_client.output r.call

-- ---- a step

abbrev SubmitIn : Step → Error → Type 0
SubmitIn (Submit side p) error = RefusesSubmit p error
SubmitIn (Deliver side n) error = ⊥
SubmitIn (Rekey side) error = ⊥
SubmitIn Settle error = ⊥

-- unlawful parts brought it about
abbrev LawlessOnly : (Side → Telling) → (Side → Config) → Bool → Type 0
LawlessOnly tell config kind = IsKnown (talkers (says_in tell) config) kind → HaveLimits (talkers (says_in tell) config) → ⊥

abbrev StepRefused : (Side → Telling) → (Side → Config) → Bool → CarriedLink → Step → Error → Type 0
StepRefused tell config kind before step error = (error ≡ errors.Memory) ⊎ (SubmitIn step error ⊎ (RefusedThere tell config kind before step error ⊎ ((step ≡ Settle) × (error ≡ errors.Disconnect) × LawlessOnly tell config kind)))

client_refused : (tell : Side → Telling) (config : Side → Config) (kind : Bool) (before : CarriedLink) (step : Step) (s : Snapshot) (l : CarriedLink) (n : ℕ) (e : Error) → ((m : ℕ) → step ≡ Deliver Client m → (l ≡ before) × (n ≡ m)) → IsWholeId (config Server) → IsTied (says_in tell) config kind s l → RefusesCarrying (tell Client) l.client l.server.transport.output n e → carries_to Client step ≡ true → StepRefused tell config kind before step e
client_refused tell config kind before step s l n e at whole i (inl m) c = inl m
client_refused tell config kind before step s l n e at whole i (inr r) c = inr (inr (inl (client_there tell config kind before step s l n e at whole i r c)))

server_refused : (tell : Side → Telling) (config : Side → Config) (kind : Bool) (before : CarriedLink) (step : Step) (s : Snapshot) (l : CarriedLink) (n : ℕ) (e : Error) → ((m : ℕ) → step ≡ Deliver Server m → (l ≡ before) × (n ≡ m)) → IsWholeId (config Client) → IsTied (says_in tell) config kind s l → RefusesCarrying (tell Server) l.server l.client.transport.output n e → carries_to Server step ≡ true → StepRefused tell config kind before step e
server_refused tell config kind before step s l n e at whole i (inl m) c = inl m
server_refused tell config kind before step s l n e at whole i (inr r) c = inr (inr (inl (server_there tell config kind before step s l n e at whole i r c)))

no_delivery : (side : Side) (n : ℕ) → Settle ≡ Deliver side n → ⊥
no_delivery side n e = cc

delivered : (side : Side) (n m : ℕ) → Deliver side n ≡ Deliver side m → n ≡ m
delivered side n m e = cc

turn_refused : (tell : Side → Telling) (config : Side → Config) (kind : Bool) (before : CarriedLink) (s : Snapshot) (l : CarriedLink) (e : Error) → ((side : Side) → IsWholeId (config side)) → IsTied (says_in tell) config kind s l → RefusesTurn (tell Client) (tell Server) l e → StepRefused tell config kind before Settle e
turn_refused tell config kind before s l e whole i (inl r) = server_refused tell config kind before Settle s l all_bytes e (λ m q. absurd (no_delivery Server m q)) (whole Client) i r refl
turn_refused tell config kind before s l e whole i (inr c) =
    let b = server_carry (says_in tell) config kind s l (record { client = l.client; server = c.mid }) all_bytes (whole Client) i c.taken refl in
    client_refused tell config kind before Settle b.next (record { client = l.client; server = c.mid }) all_bytes e (λ m q. absurd (no_delivery Client m q)) (whole Server) b.tied c.refused refl

step_refused : (tell : Side → Telling) (config : Side → Config) (kind : Bool) (bound : ℕ) (step : Step) (s : Snapshot) (l : CarriedLink) (e : Error) → ((side : Side) → IsWholeId (config side)) → IsTied (says_in tell) config kind s l → ((times : ℕ) (mid : CarriedLink) → RepeatsTurns (says_in tell Client) (says_in tell Server) times l mid → HasNoEnd bound times mid → LawlessOnly tell config kind) → RefusesLinkStep (tell Client) (tell Server) bound step l e → StepRefused tell config kind l step e
step_refused tell config kind bound (Submit side p) s l e whole i ends h = inr (inl h)
step_refused tell config kind bound (Deliver Client n) s l e whole i ends h = client_refused tell config kind l (Deliver Client n) s l n e (λ m q. (refl, delivered Client n m q)) (whole Server) i h refl
step_refused tell config kind bound (Deliver Server n) s l e whole i ends h = server_refused tell config kind l (Deliver Server n) s l n e (λ m q. (refl, delivered Server n m q)) (whole Client) i h refl
step_refused tell config kind bound (Rekey side) s l e whole i ends h = inl h
step_refused tell config kind bound Settle s l e whole i ends h = (
    let a = repeated (says_in tell) config kind h.times s l h.mid whole i h.turns in
    elim h.refused [
      | inl t ↦ turn_refused tell config kind l a.next h.mid e whole a.tied t
      | inr d ↦ inr (inr (inr (refl, d.0, ends h.times h.mid h.turns d.1)))
    ])

-- ---- a run

abbrev reached : (c s : Telling) (steps : List Step) (l : CarriedLink) (e : Error) → (r : RefusesAt c s steps l e) → ReachesStep steps r.step
reached c s steps l e r = record { before = r.done; behind = r.more; steps_are = r.steps_are; good = steps_good c.says s.says r.done l r.links r.each }

run_refused : (tell : Side → Telling) (config : Side → Config) (kind : Bool) (steps : List Step) (l : CarriedLink) (e : Error) → ((side : Side) → IsWholeId (config side)) → length steps < 2 ^ 64 → IsNewLink (config Client) (config Server) l → (r : RefusesAt (tell Client) (tell Server) steps l e) → StepRefused tell config kind (last_link l r.links) r.step e
run_refused tell config kind steps l e whole few new r =
    let room : length r.done < 2 ^ 64 = (let a = ap length r.steps_are in let b = length-append r.done (r.step ∷ r.more) in omega (arith, few, a, b)) in
    let f = follows (says_in tell) config kind r.done (first_snapshot (talkers (says_in tell) config)) l r.links whole (let z = nothing_submitted (config Client) (config Server) l new in omega (arith, z, room)) (first_tied (says_in tell) config kind l whole new) r.each in
    step_refused tell config kind (bound_of r.done) r.step (last_snapshot (first_snapshot (talkers (says_in tell) config)) f.snapshots) (last_link l r.links) e whole f.last
    (λ times mid turns never k limits. always_settles (says_in tell) config kind r.done l mid r.links times whole room k limits f turns never) r.refused

-- ---- causes

bad_submit : (steps : List Step) (step : Step) (e : Error) → ReachesStep steps step → SubmitIn step e → IsBadSubmit steps e
bad_submit steps (Submit side p) e at h = record { side = side; payload = p; reached = at; refused = h }
bad_submit steps (Deliver side n) e at h = absurd h
bad_submit steps (Rekey side) e at h = absurd h
bad_submit steps Settle e at h = absurd h

abbrev AreGoodConfigs : (Side → Config) → Type 0
AreGoodConfigs config = (side : Side) → config_fault side (config side) ≡ None

-- without a settle each side of a link took no more than the steps before it brought
abbrev TookBefore : List Step → CarriedLink → Type 0
TookBefore before l = (side : Side) → has_settle before ≡ false → taken_by side l ≤ most_brought side before

-- What a run is refused for, by what a refused piece means, and a settle that comes to no end.
abbrev RefusedBy : (pieces settles : Type 0) → (Side → Config) → List Step → Error → Type 0
RefusedBy pieces settles config steps e = (e ≡ errors.Memory) ⊎ (IsConfigFault (config Client) (config Server) e ⊎ (IsBadSubmit steps e ⊎ (pieces ⊎ settles)))

-- a settle of a new link comes to no end
pub record NeverSettles (tell : Side → Telling) (config : Side → Config) (kind : Bool) (steps : List Step) (e : Error) : Type 0 where
  pub few : length steps < 2 ^ 64
  pub first : CarriedLink
  pub new : IsNewLink (config Client) (config Server) first
  pub at : RefusesAt (tell Client) (tell Server) steps first e
  pub is_settle : at.step ≡ Settle
  pub error_is : e ≡ errors.Disconnect
  pub lawless : LawlessOnly tell config kind

unsettled : (tell : Side → Telling) (config : Side → Config) (kind : Bool) (steps : List Step) (e : Error) → NeverSettles tell config kind steps e → IsUnsettled steps e
unsettled tell config kind steps e n = record { reached = subst (λ q. ReachesStep steps q) n.is_settle (reached (tell Client) (tell Server) steps n.first e n.at); error_is = n.error_is }

by_run : (pieces settles : Type 0) (tell : Side → Telling) (config : Side → Config) (kind : Bool) (steps : List Step) (e : Error) → (AreGoodConfigs config → (step : Step) (l : CarriedLink) → (at : ReachesStep steps step) → TookBefore at.before l → RefusedThere tell config kind l step e → (e ≡ errors.Memory) ⊎ pieces) → (AreGoodConfigs config → NeverSettles tell config kind steps e → settles) → (AreGoodConfigs config → (side : Side) → IsWholeId (config side)) → RefusesLink (tell Client) (tell Server) (config Client) (config Server) steps e
    → RefusedBy pieces settles config steps e
by_run pieces settles tell config kind steps e there never whole (inl m) = inl m
by_run pieces settles tell config kind steps e there never whole (inr (inl f)) = inr (inl f)
by_run pieces settles tell config kind steps e there never whole (inr (inr n)) = elim n.refused [
  | inl m ↦ inl m
  | inr r ↦ at r (run_refused tell config kind steps n.first e (whole valid) n.few n.new r)
] where
  valid : AreGoodConfigs config
  valid Client = n.of_client
  valid Server = n.of_server

  some : (e ≡ errors.Memory) ⊎ pieces → RefusedBy pieces settles config steps e
  some (inl m) = inl m
  some (inr p) = inr (inr (inr (inl p)))

  at : (r : RefusesAt (tell Client) (tell Server) steps n.first e) → StepRefused tell config kind (last_link n.first r.links) r.step e → RefusedBy pieces settles config steps e
  at r x = elim x [
    | inl m ↦ inl m
    | inr y ↦ elim y [
      | inl h ↦ inr (inr (inl (bad_submit steps r.step e (reached (tell Client) (tell Server) steps n.first e r) h)))
      | inr z ↦ elim z [
        | inl t ↦ some (there valid r.step (last_link n.first r.links) (reached (tell Client) (tell Server) steps n.first e r) (λ side. few_taken (tell Client).says (tell Server).says (config Client) (config Server) r.done n.first r.links side n.new r.each) t)
        | inr d ↦ inr (inr (inr (inr (never valid (record { few = n.few; first = n.first; new = n.new; at = r; is_settle = d.0; error_is = d.1; lawless = d.2 })))))
      ]
    ]
  ]

-- memory was wanting, or the side took more than the other's version line
by_came : (tell : Side → Telling) (config : Side → Config) (kind : Bool) (l : CarriedLink) (step : Step) (e : Error) → (x : RefusedThere tell config kind l step e) → (P : Type 0) → (length (id_line (config (other_side x.side)).id) < length (x.took ++ x.piece) → P) → (e ≡ errors.Memory) ⊎ P
by_came tell config kind l step e x P f = elim (came (says_in tell) (tell x.side).denies (tell x.side).untrusted config x.world x.cl x.sl x.side x.took x.piece x.old x.new e x.played) [
  | inl m ↦ inl m
  | inr more ↦ inr (f more)
]

-- Where the parts of both sides are lawful.
pub run_cause : (tell : Side → Telling) (config : Side → Config) (rises : Side → Rises) (offered : Side → KexName → Bool) (group : DhGroup) (steps : List Step) (e : Error) → (AreGoodConfigs config → AreLawful (says_in tell) config) → (AreGoodConfigs config → (side : Side) → Causes (says_in tell) config side (tell side).denies (tell side).untrusted (rises side) (offered side) group) → (AreGoodConfigs config → (side : Side) → IsWholeId (config side)) → RefusesLink (tell Client) (tell Server) (config Client) (config Server) steps e → IsRunCause rises config offered group steps e
run_cause tell config rises offered group steps e m c whole r = all_settle (by_run (IsPartsCause rises config offered group steps e) ⊥ tell config (kind_chosen config) steps e there (λ v n. n.lawless (is_known (says_in tell) config v (m v).sizes (m v).secret (m v).canonical) (have_limits (says_in tell) config v)) whole r) where
  there : AreGoodConfigs config → (step : Step) (l : CarriedLink) → (at : ReachesStep steps step) → TookBefore at.before l → RefusedThere tell config (kind_chosen config) l step e → (e ≡ errors.Memory) ⊎ IsPartsCause rises config offered group steps e
  there valid step l at before x = by_came tell config (kind_chosen config) l step e x (IsPartsCause rises config offered group steps e) (λ more. record {
    side = x.side;
    step = step;
    carries = x.carries;
    reached = at;
    came = bring_messages x.side config at.before step (taken_by x.side l) (taken_by (other_side x.side) l) (length (x.took ++ x.piece)) x.carries x.few (λ n q. x.heard n q more) (λ n. (before x.side n, before (other_side x.side) n)) more;
    cause = link_cause (says_in tell) config x.side (tell x.side).denies (tell x.side).untrusted (rises x.side) (offered x.side) group x.world e (c valid x.side)
        (refused_turn (says_in tell) (tell x.side).denies (tell x.side).untrusted config x.world x.cl x.sl x.side x.took x.piece x.old x.new e (m valid) (x.in_link (is_known (says_in tell) config valid (m valid).sizes (m valid).secret (m valid).canonical)));
  })

  all_settle : RefusedBy (IsPartsCause rises config offered group steps e) ⊥ config steps e → IsRunCause rises config offered group steps e
  all_settle (inl q) = inl q
  all_settle (inr (inl f)) = inr (inl f)
  all_settle (inr (inr (inl b))) = inr (inr (inl b))
  all_settle (inr (inr (inr (inl p)))) = inr (inr (inr p))
  all_settle (inr (inr (inr (inr u)))) = absurd u

-- And whatever they are.
pub any_run_cause : (tell : Side → Telling) (config : Side → Config) (rises : Side → Rises) (steps : List Step) (e : Error) → ((side : Side) → HasSizes (config side)) → ((side : Side) → Tells (tell side).denies (tell side).untrusted (rises side)) → (AreGoodConfigs config → (side : Side) → IsWholeId (config side)) → RefusesLink (tell Client) (tell Server) (config Client) (config Server) steps e → IsAnyRunCause rises config steps e
any_run_cause tell config rises steps e sizes tells whole r = by_run (IsAnyPartsCause rises config steps e) (IsUnsettled steps e) tell config (kind_chosen config) steps e there (λ v. unsettled tell config (kind_chosen config) steps e) whole r where
  there : AreGoodConfigs config → (step : Step) (l : CarriedLink) → (at : ReachesStep steps step) → TookBefore at.before l → RefusedThere tell config (kind_chosen config) l step e → (e ≡ errors.Memory) ⊎ IsAnyPartsCause rises config steps e
  there valid step l at before x = by_came tell config (kind_chosen config) l step e x (IsAnyPartsCause rises config steps e) (λ more. record { side = x.side; step = step; carries = x.carries; reached = at; came = bring_messages x.side config at.before step (taken_by x.side l) (taken_by (other_side x.side) l) (length (x.took ++ x.piece)) x.carries x.few (λ n q. x.heard n q more) (λ n. (before x.side n, before (other_side x.side) n)) more; cause = any_refused (says_in tell) (tell x.side).denies (tell x.side).untrusted (rises x.side) config x.world x.cl x.sl x.side x.took x.piece x.old x.new e valid sizes (tells x.side) x.played })

-- Where they oblige, the configurations pass and each payload is good, memory was wanting.
pub run_complete : (tell : Side → Telling) (config : Side → Config) (names : Names) (steps : List Step) (e : Error) → AreMet (says_in tell) config names → ((side : Side) → Duties (says_in tell) config side names.kex (tell side).denies) → ((side : Side) → AreSmall (says_in tell side) side (config (other_side side)).gex)
    → ((side : Side) (host : ServerHost) (key : HostKey) → side ≡ Client → Presents (config Server) host key host.algorithm → (tell side).untrusted host → ⊥) → ((side : Side) → IsWholeId (config side)) → all_submits_good steps ≡ true → RefusesLink (tell Client) (tell Server) (config Client) (config Server) steps e → e ≡ errors.Memory
run_complete tell config names steps e m duties small trusts whole good r = left (by_run (e ≡ errors.Memory) ⊥ tell config (kind_chosen config) steps e there (λ v n. n.lawless (is_known (says_in tell) config m.valid m.sizes m.secret m.canonical) (have_limits (says_in tell) config m.valid)) (λ v. whole) r) where
  lawful : AreLawful (says_in tell) config
  lawful = record { valid = m.valid; sizes = m.sizes; secret = m.secret; canonical = m.canonical }

  there : AreGoodConfigs config → (step : Step) (l : CarriedLink) → (at : ReachesStep steps step) → TookBefore at.before l → RefusedThere tell config (kind_chosen config) l step e → (e ≡ errors.Memory) ⊎ (e ≡ errors.Memory)
  there valid step l at before x = inl (none_in_link (says_in tell) config names x.side (tell x.side).denies (tell x.side).untrusted x.world e m (duties x.side) (small x.side) (trusts x.side)
      (refused_turn (says_in tell) (tell x.side).denies (tell x.side).untrusted config x.world x.cl x.sl x.side x.took x.piece x.old x.new e lawful (x.in_link (is_known (says_in tell) config m.valid m.sizes m.secret m.canonical))))

  no_fault : IsConfigFault (config Client) (config Server) e → ⊥
  no_fault f = (let a = ap (λ z. first_config_fault z (config_fault Server (config Server))) (m.valid Client) in let b : None ≡ Some f.fault = sym (m.valid Server) ∙ (sym a ∙ f.first) in cc)

  left : RefusedBy (e ≡ errors.Memory) ⊥ config steps e → e ≡ errors.Memory
  left (inl q) = q
  left (inr (inl f)) = absurd (no_fault f)
  left (inr (inr (inl b))) = none_bad steps e good b
  left (inr (inr (inr (inl q)))) = q
  left (inr (inr (inr (inr u)))) = absurd u

-- ---- from the members of the parts' traits

abbrev pub tells_by : Telling → Telling → Side → Telling
tells_by client server Client = client
tells_by client server Server = server

pub lawful_causes : {A H G : Type 0} (ma : AgreementMembers A) (mh : HostKeysMembers H) (mg : GroupLookupMembers G)
    → PartLaws ma mh mg
    → ((v : G) (s : Setup) → mg.lawful v s → IsSmall (mg.group v s.client.gex).prime × IsSmall (mg.group v s.client.gex).generator)
    → (t : Setup) (a a' b b' : A) (h h' i i' : H) (g g' j j' : G) → ma.lawful a t → ma.lawful b t → mh.lawful h t → mh.lawful i t → mg.lawful j t
    → AreLawful (says_in (tells_by (telling_of ma mh mg t.client a a' h h' g g') (telling_of ma mh mg t.server b b' i i' j j'))) (config_of t)
    → (side : Side) → Causes (says_in (tells_by (telling_of ma mh mg t.client a a' h h' g g') (telling_of ma mh mg t.server b b' i i' j j'))) (config_of t) side
    (tells_by (telling_of ma mh mg t.client a a' h h' g g') (telling_of ma mh mg t.server b b' i i' j j') side).denies
    (tells_by (telling_of ma mh mg t.client a a' h h' g g') (telling_of ma mh mg t.server b b' i i' j j') side).untrusted
    (rises_by (unobliged_of ma mh mg t i j a a' h h' g g') (unobliged_of ma mh mg t i j b b' i i' j j') side) (offered_on (ma.offered a) (ma.offered b) side) (mg.group j t.client.gex)
lawful_causes ma mh mg laws small t a a' b b' h h' i i' g g' j j' la lb lhh li lj m Client = record {
  lawful = m;
  small = small_of ma mh mg small t a b h i g j Client la lb lhh li lj;
  owes = λ kex kind. (
      let d = owes_of ma mh mg laws t a b h i g j kex Client a a' h h' g g' la lb lj kind refl in
      record { start = d.start; value = d.value; reply = d.reply; lookup = d.lookup; sign = d.sign; verify = d.verify });
  checks = λ host key e p d. (d.0, λ o. d.1 t o (laws.trusted h h' t host key o p));
  offers = λ name o. o;
  finds = λ q f. (f t lj).0;
}
lawful_causes ma mh mg laws small t a a' b b' h h' i i' g g' j j' la lb lhh li lj m Server = record {
  lawful = m;
  small = small_of ma mh mg small t a b h i g j Server la lb lhh li lj;
  owes = λ kex kind. (
      let d = owes_of ma mh mg laws t a b h i g j kex Server b b' i i' j j' la lb lj kind refl in
      record { start = d.start; value = d.value; reply = d.reply; lookup = d.lookup; sign = d.sign; verify = d.verify });
  checks = λ host key e p d. (d.0, λ o. d.1 t o (laws.trusted i i' t host key o p));
  offers = λ name o. o;
  finds = λ q f. (f t lj).0;
}

-- Where both sides' parts oblige, the lookup at least where it is asked, their configurations pass, their agreements
-- offer what is chosen, and each payload is good.
pub obliging_complete : {A H G : Type 0} (ma : AgreementMembers A) (mh : HostKeysMembers H) (mg : GroupLookupMembers G)
    → ((v : A) (s : Setup) (name : KexName) (group : Option DhGroup) (local client server x y : List ℕ) → ma.lawful v s → ma.client_makes name group local client → ma.server_makes name group client server → ma.agrees name group client server x → ma.agrees name group client server y → x ≡ y)
    → PartLaws ma mh mg
    → ((v w : H) (s : Setup) → mh.judges v w s → mh.lawful v s) → ((v w : H) (s : Setup) → mh.signs v w s → mh.lawful v s)
    → ((v : G) (s : Setup) → mg.lawful v s → IsSmall (mg.group v s.client.gex).prime × IsSmall (mg.group v s.client.gex).generator)
    → (t : Setup) (a a' b b' : A) (h h' i i' : H) (g g' j j' : G) (steps : List Step) (e : Error) → IsValidRun (config_of t) (offered_on (ma.offered a) (ma.offered b)) steps → ((side : Side) → HasSizes (config_of t side)) → ma.obliging a a' t (group_due t (mg.group j t.client.gex)) → ma.obliging b b' t (group_due t (mg.group j t.client.gex)) → mh.judges h h' t → mh.signs i i' t → mg.lawful j t → (kind_by (chosen_by t.client t.server) ≡ true → mg.obliging j j' t) → ((side : Side) → IsWholeId (config_of t side))
    → RefusesLink (telling_of ma mh mg t.client a a' h h' g g') (telling_of ma mh mg t.server b b' i i' j j') t.client t.server steps e → e ≡ errors.Memory
obliging_complete ma mh mg one laws judging_lawful signing_lawful small_group t a a' b b' h h' i i' g g' j j' steps e v sizes oa ob jh si lj oj whole r = run_complete tell (config_of t) v.names steps e met duties small known whole v.good r where
  tell : Side → Telling
  tell = tells_by (telling_of ma mh mg t.client a a' h h' g g') (telling_of ma mh mg t.server b b' i i' j j')

  la : ma.lawful a t
  la = laws.agreement a a' t _ oa

  lb : ma.lawful b t
  lb = laws.agreement b b' t _ ob

  looks : is_gex v.names.kex ≡ true → mg.obliging j j' t
  looks k = oj (ap kind_by v.chosen ∙ k)

  met : AreMet (says_in tell) (config_of t) v.names
  met = record {
    valid = v.valid;
    sizes = sizes;
    chosen = v.chosen;
    secret = λ name q local client server x y c s d f. one a t name q local client server x y la (c t la) (s t lb) (d t la) (f t lb);
    canonical = λ sizes q f. (f t lj).1;
  }

  duties : (side : Side) → Duties (says_in tell) (config_of t) side v.names.kex (tell side).denies
  duties Client = (
      let d = duties_of ma mh mg laws t a a' b b' h h' i i' g g' j j' v.names.kex Client a h g oa ob jh si lj (ap kind_by v.chosen) looks (v.offers Client) (agreement_same ma.lawful ma.obliging ma.offered ma.refusals ma.calls a) (hosts_same mh.lawful mh.signs mh.judges mh.accepts mh.trusts mh.refused_sign mh.refused_verify mh.refused_check mh.calls h) (groups_same mg.lawful mg.obliging mg.group mg.refusals mg.calls g) in
      record { offered = d.offered; owes = record { start = d.owes.start; value = d.owes.value; reply = d.owes.reply; lookup = d.owes.lookup; sign = d.owes.sign; verify = d.owes.verify }; fits = d.fits })
  duties Server = (
      let d = duties_of ma mh mg laws t a a' b b' h h' i i' g g' j j' v.names.kex Server b i j oa ob jh si lj (ap kind_by v.chosen) looks (v.offers Server) (agreement_same ma.lawful ma.obliging ma.offered ma.refusals ma.calls b) (hosts_same mh.lawful mh.signs mh.judges mh.accepts mh.trusts mh.refused_sign mh.refused_verify mh.refused_check mh.calls i) (groups_same mg.lawful mg.obliging mg.group mg.refusals mg.calls j) in
      record { offered = d.offered; owes = record { start = d.owes.start; value = d.owes.value; reply = d.owes.reply; lookup = d.owes.lookup; sign = d.owes.sign; verify = d.owes.verify }; fits = d.fits })

  small : (side : Side) → AreSmall (says_in tell side) side (config_of t (other_side side)).gex
  small Client = small_of ma mh mg small_group t a b h i g j Client la lb (judging_lawful h h' t jh) (signing_lawful i i' t si) lj
  small Server = small_of ma mh mg small_group t a b h i g j Server la lb (judging_lawful h h' t jh) (signing_lawful i i' t si) lj

  known : (side : Side) (host : ServerHost) (key : HostKey) → side ≡ Client → Presents (config_of t Server) host key host.algorithm → (tell side).untrusted host → ⊥
  known Client host key q p d = d.1 t jh (laws.trusted h h' t host key jh p)
  known Server host key q p d = absurd (let bad : ⊥ = cc in bad)

pub if_refused : {A E : Type 0} {P Q : E → Type 0} (r : Result A E) → IfErr r P → ((e : E) → P e → Q e) → IfErr r Q
if_refused (Ok x) h f = tt
if_refused (Err e) h f = f e h

-- what a report's run says of its steps
pub ok_good : {A E : Type 0} {P : A → Type 0} (r : Result A E) (steps : List Step) → IfOk r P → ((x : A) → P x → all_submits_good steps ≡ true) → OnOk r (all_submits_good steps ≡ true)
ok_good (Ok x) steps h f = f x h
ok_good (Err e) steps h f = tt
