-- What is known of a refusal over an honest carrier, whatever the parts of both sides are.
use Rattle.std.proofs.Common.{◌≡◌, inl, inr, ℕ, ◌++◌, List, [], length, refl, sym, ◌∙◌, ap, subst, arith, Bool, Some, None}
use Rattle.ssh_packet.specs.Front.{Fault, Whole, front_of}
use Rattle.ssh_packet.specs.Front as front
use Rattle.ssh_packet.specs.Errors.{error_of, open_error}
use Rattle.ssh_packet.specs.Sealing.{Item, next_number}
use Rattle.ssh_wire.specs.Lines.{id_text}
use Rattle.ssh_wire.specs.Sides.{other_side}
use Rattle.ssh_wire.specs.declared.error.Error.{Error}
use Rattle.ssh_wire.specs.declared.error.Error.TheVariants as errors
use Rattle.ssh_wire.specs.declared.side.Side.{Side}
use Rattle.ssh_wire.specs.declared.side.Side.TheVariants.{Client, Server}
use Rattle.ssh_kex.specs.Refusals.{Denies, IsCreated, IsLate, RefusesMessage}
use Rattle.ssh_kex.specs.Setting.{Says, Setting}
use Rattle.ssh_kex.specs.Stages.{AwaitsGroup, AwaitsNewkeys, AwaitsReply, AwaitsRequest, AwaitsValue, Created, IsFirst, Stage}
use Rattle.ssh_kex.specs.declared.config.Config.{Config}
use Rattle.ssh_kex.specs.declared.exchange.ServerHost.{ServerHost}
use Rattle.ssh_rules.specs.LinkCauses.{IsCauseOfAny, IsPlayed, RefusesPlayed, Rises}
use Rattle.ssh_rules.specs.Log.{handled, read_bytes, wrote}
use Rattle.ssh_rules.specs.Machine.{Event, IsQuiet, first_state, setting}
use Rattle.ssh_rules.specs.Refused.{LooksIn, one_of}
use Rattle.ssh_rules.specs.Refusing.{AnswersCause, BreaksOrder, RefusesPacket}
use Rattle.ssh_rules.specs.RunLaws.{IsEarlyLink}
use Rattle.ssh_rules.specs.Snapshots.{HasRun, IsReached}
use Rattle.ssh_rules.specs.Standing.{OfFault, OfMemory, OfPacket, OfVersion, RefusalCause, RefusesInput, Standing}
use Rattle.ssh_rules.specs.Turns.{LinkEnd, PlaysTurn, TakesTurn, Talkers, World, talkers}
use Rattle.ssh_rules.specs.Valid.{HasSizes, config_fault}
use Rattle.ssh_rules.specs.Wire.{HasFront}
use Rattle.ssh_rules.proofs.side.Accounts.{kept_run, trace_of}
use Rattle.ssh_rules.proofs.turns.CallTurns.{TurnsBy, end_behind, no_version, taken_turn}
use Rattle.ssh_rules.proofs.refusals.LinkCauses.{StageIs, Tells, host_client, missigned, unsigned}
use Rattle.ssh_rules.proofs.pair.Next.{started_first, started_steps}
use Rattle.ssh_rules.proofs.pair.NextWhole.{WritesNext, early_whole}
use Rattle.ssh_rules.proofs.refusals.OnlyParts.{cause_at, first_by}
use Rattle.ssh_rules.proofs.side.Ran.{recorded_is}
use Rattle.ssh_rules.proofs.refusals.RefusedTurns.{at_old, in_order, inside_of, stood_at}
use Rattle.ssh_rules.proofs.side.StageFits.{no_trace}
use Rattle.ssh_rules.proofs.side.StageSteps.{at_stage, setting_side}
use Rattle.ssh_rules.proofs.pair.StrictOrder.{ReadsEarly, no_violation, reads_early, through}
use Rattle.ssh_rules.proofs.turns.Turns.{more_sent, ran_more}
use Rattle.ssh_rules.proofs.side.Valid.{is_within}

-- ---- turns

pub client_played : (t : Talkers) (w : World) (cl sl : List Event) (piece : List ℕ) (events : List Event) (w' : World) → IsPlayed t w cl sl → PlaysTurn t w Client piece events w' → IsPlayed t w' (cl ++ events) sl
client_played t w cl sl piece events w' h g = record {
  client = ran_more t Client cl w.client piece events w.server w'.client h.client g.0;
  server = subst (λ (k : LinkEnd). HasRun (t.says Server) Server (t.config Server) (t.own_id Server) sl k.state k.sent k.fed k.unfinished) (sym g.1) h.server;
  to_server = subst (λ (k : LinkEnd). HasFront w'.client.sent k.fed) (sym g.1) (subst (λ z. HasFront z w.server.fed) (sym g.0.sends) (more_sent w.client.sent w.server.fed _ h.to_server));
  to_client = subst (λ (k : LinkEnd). HasFront k.sent w'.client.fed) (sym g.1) g.0.honest;
}

pub server_played : (t : Talkers) (w : World) (cl sl : List Event) (piece : List ℕ) (events : List Event) (w' : World) → IsPlayed t w cl sl → PlaysTurn t w Server piece events w' → IsPlayed t w' cl (sl ++ events)
server_played t w cl sl piece events w' h g = record {
  client = subst (λ (k : LinkEnd). HasRun (t.says Client) Client (t.config Client) (t.own_id Client) cl k.state k.sent k.fed k.unfinished) (sym g.1) h.client;
  server = ran_more t Server sl w.server piece events w.client w'.server h.server g.0;
  to_server = subst (λ (k : LinkEnd). HasFront k.sent w'.server.fed) (sym g.1) g.0.honest;
  to_client = subst (λ (k : LinkEnd). HasFront w'.server.sent k.fed) (sym g.1) (subst (λ z. HasFront z w.client.fed) (sym g.0.sends) (more_sent w.server.sent w.client.fed _ h.to_client));
}

-- a world that is reached was played
pub reached_played : (t : Talkers) (w : World) (cl sl : List Event) → IsReached t w cl sl → IsPlayed t w cl sl
reached_played t w cl sl h = record { client = h.client.ran; server = h.server.ran; to_server = h.to_server; to_client = h.to_client }

-- by either side
record PlayedBy (t : Talkers) (side : Side) (h peer : LinkEnd) : Type 0 where
  log : List Event
  plog : List Event
  run : HasRun (t.says side) side (t.config side) (t.own_id side) log h.state h.sent h.fed h.unfinished
  peer_run : HasRun (t.says (other_side side)) (other_side side) (t.config (other_side side)) (t.own_id (other_side side)) plog peer.state peer.sent peer.fed peer.unfinished
  fed : HasFront peer.sent h.fed
  peer_fed : HasFront h.sent peer.fed

played_by : (t : Talkers) (w : World) (cl sl : List Event) (side : Side) → IsPlayed t w cl sl → PlayedBy t side (one_of side w.client w.server) (one_of (other_side side) w.client w.server)
played_by t w cl sl Client h = record { log = cl; plog = sl; run = h.client; peer_run = h.server; fed = h.to_client; peer_fed = h.to_server }
played_by t w cl sl Server h = record { log = sl; plog = cl; run = h.server; peer_run = h.client; fed = h.to_server; peer_fed = h.to_client }

-- and behind a turn
played_on : (t : Talkers) (side : Side) (h peer k : LinkEnd) (piece : List ℕ) (events : List Event) → PlayedBy t side h peer → TakesTurn t side h piece events peer k → PlayedBy t side k peer
played_on t side h peer k piece events p g = record {
  log = p.log ++ events;
  plog = p.plog;
  run = ran_more t side p.log h piece events peer k p.run g;
  peer_run = p.peer_run;
  fed = g.honest;
  peer_fed = subst (λ z. HasFront z peer.fed) (sym g.sends) (more_sent h.sent peer.fed _ p.peer_fed);
}

-- ---- the strict order

record AreSound (config : Side → Config) : Type 0 where
  valid : (side : Side) → config_fault side (config side) ≡ None
  sizes : (side : Side) → HasSizes (config side)

early_by : (says : Side → Says) (config : Side → Config) (side : Side) (h peer : LinkEnd) (p : PlayedBy (talkers says config) side h peer) → AreSound config → h.state.records ≡ [] → IsEarlyLink says config side p.log p.plog h.state peer.state
early_by says config side h peer p m r = record {
  client_within = is_within Client (config Client) (m.valid Client);
  server_within = is_within Server (config Server) (m.valid Server);
  sizes = m.sizes;
  steps = p.run.steps;
  peer_steps = p.peer_run.steps;
  to_side = subst (λ x. HasFront x (read_bytes side first_state.reading p.log)) p.peer_run.sent_is (through peer.sent h.fed (read_bytes side first_state.reading p.log) p.fed (h.unfinished, sym p.run.fed_is));
  to_peer = subst (λ x. HasFront x (read_bytes (other_side side) first_state.reading p.plog)) p.run.sent_is (through h.sent peer.fed (read_bytes (other_side side) first_state.reading p.plog) p.peer_fed (peer.unfinished, sym p.peer_run.fed_is));
  none = sym (recorded_is (says side) side (config side) (id_text (config side).id) p.log first_state h.state p.run.steps) ∙ r;
}

early_next : (says : Side → Says) (config : Side → Config) (side : Side) (h peer : LinkEnd) (p : PlayedBy (talkers says config) side h peer) (i : Item) (rest : List ℕ) → AreSound config → h.state.records ≡ [] → front_of h.state.reading.sealing h.state.reading.number h.unfinished ≡ Whole i rest → WritesNext (wrote p.plog) (handled p.log) i
early_next says config side h peer p i rest m r next =
    let l = early_by says config side h peer p m r in
    let e : ReadsEarly p.log p.plog = reads_early says config side p.log p.plog h.state peer.state l in
    early_whole (talkers says config) side p.log p.plog h peer i rest p.run e.plain p.peer_run p.fed e.front l.none next

no_break : (says : Side → Says) (config : Side → Config) (side : Side) (h peer : LinkEnd) (p : PlayedBy (talkers says config) side h peer) (i : Item) (rest : List ℕ) (e : Error) → AreSound config → h.state.owed ≡ [] → front_of h.state.reading.sealing h.state.reading.number h.unfinished ≡ Whole i rest → BreaksOrder side h.state i e → ⊥
no_break says config side h peer p i rest e m owes next b =
    let x = early_next says config side h peer p i rest m b.first next in
    let n = inside_of h.state.stands b.names b.read in
    in_order side h.state i e b (no_violation says config side p.log p.plog h.state peer.state n.0 i x.0 (early_by says config side h peer p m b.first) owes n.1 x.1).0

late_created : (s : Setting) (stage : Stage) (seqn : ℕ) (payload : List ℕ) → IsLate s stage seqn payload → IsCreated stage × ((strict : Bool) × (IsFirst s.cause strict seqn → ⊥))
late_created s (Created own) seqn payload h = ((own, refl), (h.0.strict_kex, h.2))
late_created s (AwaitsGroup o) seqn payload h = absurd h
late_created s (AwaitsReply o gex local public) seqn payload h = absurd h
late_created s (AwaitsRequest o) seqn payload h = absurd h
late_created s (AwaitsValue o gex) seqn payload h = absurd h
late_created s (AwaitsNewkeys exchange made host) seqn payload h = absurd h

no_late : (says : Side → Says) (config : Side → Config) (side : Side) (h peer : LinkEnd) (p : PlayedBy (talkers says config) side h peer) (i : Item) (rest : List ℕ) (stage : Stage) → AreSound config → h.state.owed ≡ [] → front_of h.state.reading.sealing h.state.reading.number h.unfinished ≡ Whole i rest → LooksIn h.state.stands stage → IsLate (setting side (config side) (id_text (config side).id) h.state) stage (next_number h.state.reading.number) i.payload → ⊥
no_late says config side h peer p i rest stage m owes next looks l = late.1.1 (subst (λ z. IsFirst z late.1.0 (next_number h.state.reading.number)) (sym (cause_at side (config side) (id_text (config side).id) h.state)) (first_by h.state.records late.1.0 (next_number h.state.reading.number) first)) where
  late : IsCreated stage × ((strict : Bool) × (IsFirst (setting side (config side) (id_text (config side).id) h.state).cause strict (next_number h.state.reading.number) → ⊥))
  late = late_created (setting side (config side) (id_text (config side).id) h.state) stage (next_number h.state.reading.number) i.payload l

  first : h.state.records ≡ [] → next_number h.state.reading.number ≡ 1
  first r = elim looks [
    | inl inside ↦ (let x = early_next says config side h peer p i rest m r next in (no_violation says config side p.log p.plog h.state peer.state stage i x.0 (early_by says config side h peer p m r) owes inside x.1).1 (late.0).0 (late.0).1)
    | inr c ↦ absurd (let z = ap length r in let s = (started_steps (says side) side (config side) (id_text (config side).id) p.log first_state h.state no_trace started_first p.run.steps).outside c.0 in omega (arith, z, s))
  ]

-- ---- a packet

stage_any : (says : Side → Says) (config : Side → Config) (side : Side) (h peer : LinkEnd) (p : PlayedBy (talkers says config) side h peer) (stage : Stage) → h.state.owed ≡ [] → LooksIn h.state.stands stage → StageIs (says side) (setting side (config side) (id_text (config side).id) h.state) stage
stage_any says config side h peer p stage owes (inl inside) = (let t = trace_of no_trace p.log in inr (t.own, t.theirs, at_stage (says side) side (config side) (id_text (config side).id) h.state t stage inside owes (kept_run (says side) side (config side) (id_text (config side).id) p.log h.state p.run.steps).tidy.fits))
stage_any says config side h peer p stage owes (inr c) = inl c.1

-- a message
taken_any : (says : Says) (denies : Denies) (untrusted : ServerHost → Type 0) (r : Rises) (side : Side) (s : Setting) (stage : Stage) (seqn : ℕ) (payload : List ℕ) (e : Error) → Tells denies untrusted r → s.side ≡ side → StageIs says s stage → (IsLate s stage seqn payload → ⊥) → RefusesMessage says denies s stage seqn payload e → IsCauseOfAny r side e
taken_any says denies untrusted r side s stage seqn payload errors.KexInit t at f late h = tt
taken_any says denies untrusted r side s stage seqn payload errors.UnknownAlgo t at f late h = tt
taken_any says denies untrusted r side s stage seqn payload (errors.NoCommonAlgo kind ours theirs) t at f late h = tt
taken_any says denies untrusted r side s stage seqn payload errors.Version t at f late h = h
taken_any says denies untrusted r side s stage seqn payload errors.Kex t at f late h = tt
taken_any says denies untrusted r side s stage seqn payload errors.PacketAuth t at f late h = tt
taken_any says denies untrusted r side s stage seqn payload errors.Inconsistent t at f late h = tt
taken_any says denies untrusted r side s stage seqn payload errors.IndexOutOfBounds t at f late h = tt
taken_any says denies untrusted r side s stage seqn payload errors.UnknownKey t at f late h = absurd h
taken_any says denies untrusted r side s stage seqn payload errors.WrongServerSig t at f late h = (let m = missigned says denies untrusted r s stage payload t f h.1 in (sym at ∙ m.0, m.1))
taken_any says denies untrusted r side s stage seqn payload (errors.PacketSize n) t at f late h = tt
taken_any says denies untrusted r side s stage seqn payload errors.Disconnect t at f late h = tt
taken_any says denies untrusted r side s stage seqn payload errors.DecryptionError t at f late h = tt
taken_any says denies untrusted r side s stage seqn payload errors.IO t at f late h = h
taken_any says denies untrusted r side s stage seqn payload (errors.StrictKeyExchangeViolation type place) t at f late h = late h.1
taken_any says denies untrusted r side s stage seqn payload errors.Signature t at f late h = (let m = unsigned says denies untrusted r s stage payload t f h.1 in (sym at ∙ m.0, m.1))
taken_any says denies untrusted r side s stage seqn payload (errors.SshEncoding fault) t at f late h = tt
taken_any says denies untrusted r side s stage seqn payload (errors.InvalidConfig fault) t at f late h = h
taken_any says denies untrusted r side s stage seqn payload errors.Memory t at f late h = tt

-- a fault of opening
fault_any : (r : Rises) (side : Side) (fault : Fault) → IsCauseOfAny r side (error_of (open_error fault))
fault_any r side (front.PacketSize n) = tt
fault_any r side front.PacketAuth = tt
fault_any r side front.DecryptionError = tt
fault_any r side front.IndexOutOfBounds = tt

packet_any : (says : Side → Says) (denies : Denies) (untrusted : ServerHost → Type 0) (r : Rises) (config : Side → Config) (side : Side) (h peer : LinkEnd) (p : PlayedBy (talkers says config) side h peer) (i : Item) (rest : List ℕ) (e : Error) → AreSound config → Tells denies untrusted r → h.state.owed ≡ [] → front_of h.state.reading.sealing h.state.reading.number h.unfinished ≡ Whole i rest → RefusesPacket (says side) denies untrusted side (config side) h.state i e → IsCauseOfAny r side e
packet_any says denies untrusted r config side h peer p i rest e m t owes next (inl d) = subst (IsCauseOfAny r side) (sym d.error_is) tt
packet_any says denies untrusted r config side h peer p i rest e m t owes next (inr (inl b)) = absurd (no_break says config side h peer p i rest e m owes next b)
packet_any says denies untrusted r config side h peer p i rest e m t owes next (inr (inr (inl x))) =
    taken_any (says side) denies untrusted r side (setting side (config side) (id_text (config side).id) h.state) x.stage (next_number h.state.reading.number) i.payload e t (setting_side side (config side) (id_text (config side).id) h.state)
    (stage_any says config side h peer p x.stage owes x.looks) (no_late says config side h peer p i rest x.stage m owes next x.looks) x.refuses
packet_any says denies untrusted r config side h peer p i rest e m t owes next (inr (inr (inr (inl x)))) = subst (IsCauseOfAny r side) (sym x.error_is) (
  host_client side (says side) (setting side (config side) (id_text (config side).id) h.state) (AwaitsNewkeys x.exchange x.made (Some x.host)) x.exchange x.made x.host (sym (setting_side side (config side) (id_text (config side).id) h.state)) refl (stage_any says config side h peer p (AwaitsNewkeys x.exchange x.made (Some x.host)) owes (inl x.inside)),
  t.check x.host x.denied,
)
packet_any says denies untrusted r config side h peer p i rest e m t owes next (inr (inr (inr (inr x)))) = subst (IsCauseOfAny r side) (sym x.error_is) tt

-- ---- a piece

-- Of a piece of an honest peer's wire, whatever the parts are.
pub any_refused : (says : Side → Says) (denies : Denies) (untrusted : ServerHost → Type 0) (r : Rises) (config : Side → Config) (w : World) (cl sl : List Event) (side : Side) (took piece : List ℕ) (old new : Standing) (e : Error) → ((d : Side) → config_fault d (config d) ≡ None) → ((d : Side) → HasSizes (config d)) → Tells denies untrusted r → RefusesPlayed (talkers says config) denies untrusted w cl sl side took piece old e new → IsCauseOfAny r side e
any_refused says denies untrusted r config w cl sl side took piece old new e valid sizes tells x = by x.refuses.cause x.refuses.refuses x.refuses.answers where
  h : LinkEnd
  h = one_of side w.client w.server

  peer : LinkEnd
  peer = one_of (other_side side) w.client w.server

  t : Talkers
  t = talkers says config

  by : (cause : RefusalCause) (f : RefusesInput (says side) old piece cause new) → AnswersCause (says side) denies untrusted old.side old.config cause f.at e → IsCauseOfAny r side e
  by OfMemory f a = subst (IsCauseOfAny r side) (sym a) tt
  by OfVersion f a = absurd (no_version says config side took piece f.events h peer old x.whole_id x.stands x.honest f.heard)
  by (OfFault fault) f a = subst (IsCauseOfAny r side) (sym a) (fault_any r side fault)
  by (OfPacket i) f a = packet_any says denies untrusted r config side k peer (played_on t side h peer k v.piece f.events (played_by t w cl sl side x.played) v.turn) i f.next.0 e (record { valid = valid; sizes = sizes }) tells quiet.owes f.next.1 (at_old (λ y z. RefusesPacket (says side) denies untrusted y z f.at i e) old.side side old.config (config side) x.stands.side_is x.stands.config_is a) where
    mid : Standing
    mid = stood_at (says side) old piece (OfPacket i) new f

    quiet : IsQuiet old.config f.at
    quiet = subst (λ c. IsQuiet c f.at) f.config f.done

    v : TurnsBy t side (took ++ piece) f.events mid h peer
    v = taken_turn says config side took piece f.events f.behind h peer old mid x.whole_id x.stands x.honest (record { side = refl; config = refl; steps = f.steps; output = refl; not_called = (quiet).not_called; live = refl }) f.heard f.read

    k : LinkEnd
    k = end_behind side h f.events v.piece mid
