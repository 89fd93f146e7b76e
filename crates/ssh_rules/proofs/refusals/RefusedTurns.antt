-- What is left to refuse of a piece of an honest peer's wire: the next message of an exchange, or for want of memory.
use Rattle.std.proofs.Common.{◌≡◌, ◌⊎◌, inl, inr, ℕ, ◌++◌, List, [], ◌∷◌, length, slice_get, refl, sym, ◌∙◌, ap, subst, Bool, true, false, ◌||◌, Some, None}
use Rattle.ssh_packet.specs.Front.{Whole, front_of}
use Rattle.ssh_packet.specs.Sealing.{Item}
use Rattle.ssh_wire.specs.Lines.{id_text}
use Rattle.ssh_wire.specs.Sides.{other_side}
use Rattle.ssh_wire.specs.declared.error.Error.{Error}
use Rattle.ssh_wire.specs.declared.side.Side.{Side}
use Rattle.ssh_wire.specs.declared.side.Side.TheVariants.{Client, Server}
use Rattle.ssh_negotiate.specs.Laws.{IsWithin}
use Rattle.ssh_negotiate.specs.declared.negotiation.Names.{Names}
use Rattle.ssh_kex.specs.Refusals.{Denies, awaited}
use Rattle.ssh_kex.specs.Setting.{Says, offers_of}
use Rattle.ssh_kex.specs.Stages.{AwaitsGroup, AwaitsNewkeys, AwaitsReply, AwaitsRequest, AwaitsValue, Created, Stage}
use Rattle.ssh_kex.specs.declared.config.Config.{Config}
use Rattle.ssh_kex.specs.declared.exchange.FinishedExchange.{FinishedExchange}
use Rattle.ssh_kex.specs.declared.exchange.ServerHost.{ServerHost}
use Rattle.ssh_rules.specs.Laws.{FindsCanonical, OneSecret}
use Rattle.ssh_rules.specs.Log.{delivered_in, handled, kept_in, read_bytes, recorded, sent_bytes, wrote}
use Rattle.ssh_rules.specs.Machine.{Event, InOrder, Inside, IsQuiet, MayDeliver, OrderBy, Outside, SideState, Silent, Where, first_state, names_now}
use Rattle.ssh_rules.specs.MessageTypes.{is_kex_type, is_payload_type, type_of}
use Rattle.ssh_rules.specs.Refused.{AwaitsNext, LooksIn, one_of}
use Rattle.ssh_rules.specs.RefusedTurn.{HostRefused, MessageRefused, RefusesInLink, RefusesInTurn}
use Rattle.ssh_rules.specs.Refusing.{AnswersCause, BreaksOrder, IsOutOfPlace, RefusesPacket}
use Rattle.ssh_rules.specs.RunLaws.{IsEarlyLink}
use Rattle.ssh_rules.specs.Snapshots.{HasCome, IsReached, KindIs, RunsInLink, kind_chosen}
use Rattle.ssh_rules.specs.Standing.{OfFault, OfMemory, OfPacket, OfVersion, RefusalCause, RefusesInput, Standing}
use Rattle.ssh_rules.specs.Turns.{LinkEnd, PlaysTurn, Talkers, TakesTurn, World, talkers}
use Rattle.ssh_rules.specs.Valid.{HasSizes, config_fault}
use Rattle.ssh_rules.specs.Wire.{HasFront, exchange_block, epochs_ended}
use Rattle.ssh_rules.proofs.side.Accounts.{Kept, kept_run, trace_of}
use Rattle.ssh_rules.proofs.pair.Awaited.{IsReadable}
use Rattle.ssh_rules.proofs.turns.CallTurns.{TurnsBy, end_behind, no_version, taken_turn}
use Rattle.ssh_rules.proofs.side.Grammar.{kexinit_item}
use Rattle.ssh_rules.proofs.side.LedgerSteps.{payload_not_kex, tidy_first}
use Rattle.ssh_rules.proofs.turns.LinkBounded.{AreKinds, wrote_kinds}
use Rattle.ssh_rules.proofs.headline.LinkWire.{HeadsAre, known_here}
use Rattle.ssh_rules.proofs.pair.Next.{Calling, Cut, Delivering, Goes, NextIs, Taking, cut_log, next_accepted, next_by, started_first, started_steps}
use Rattle.ssh_rules.proofs.pair.NextWhole.{WritesNext, next_opens, next_whole, nothing_whole}
use Rattle.ssh_rules.proofs.refusals.OnlyParts.{readable_type}
use Rattle.ssh_rules.proofs.side.Ran.{kept_all, recorded_is}
use Rattle.ssh_rules.proofs.side.ReasonSteps.{ends_open}
use Rattle.ssh_rules.proofs.side.StageFits.{Trace, no_trace}
use Rattle.ssh_rules.proofs.pair.StrictOrder.{heads_of, no_violation, other_twice, through}
use Rattle.ssh_rules.proofs.turns.Turns.{AreFit, client_held, held_in_step, server_held}
use Rattle.ssh_rules.proofs.side.Valid.{are_fit, is_within}

-- what is known of the configurations and of what the parts say
pub record AreLawful (says : Side → Says) (config : Side → Config) : Type 0 where
  pub valid : (side : Side) → config_fault side (config side) ≡ None
  pub sizes : (side : Side) → HasSizes (config side)
  pub secret : OneSecret (says Client) (says Server)
  pub canonical : FindsCanonical (says Server)

pub fit_of : (says : Side → Says) (config : Side → Config) → AreLawful says config → AreFit (talkers says config)
fit_of says config m = are_fit says config m.valid m.sizes m.secret m.canonical

-- ---- a side and its peer, by either side

pub record SeenBy (t : Talkers) (side : Side) (h peer : LinkEnd) : Type 0 where
  pub log : List Event
  pub plog : List Event
  pub run : RunsInLink t side log h
  pub peer_run : RunsInLink t (other_side side) plog peer
  pub fed : HasFront peer.sent h.fed
  pub peer_fed : HasFront h.sent peer.fed
  pub front : HasFront (wrote plog) (handled log)
  pub peer_front : HasFront (wrote log) (handled plog)
  pub agree : (k : ℕ) (x y : FinishedExchange) → slice_get (recorded log) k ≡ Some x → slice_get (recorded plog) k ≡ Some y → x ≡ y

pub seen_by : (t : Talkers) (w : World) (cl sl : List Event) (side : Side) → AreFit t → IsReached t w cl sl → SeenBy t side (one_of side w.client w.server) (one_of (other_side side) w.client w.server)
seen_by t w cl sl Client fit r = (let s = held_in_step t w cl sl fit r in record { log = cl; plog = sl; run = r.client; peer_run = r.server; fed = r.to_client; peer_fed = r.to_server; front = s.to_client; peer_front = s.to_server; agree = s.records })
seen_by t w cl sl Server fit r = (let s = held_in_step t w cl sl fit r in record { log = sl; plog = cl; run = r.server; peer_run = r.client; fed = r.to_server; peer_fed = r.to_client; front = s.to_server; peer_front = s.to_client; agree = λ k x y e f. sym (s.records k y x f e) })

-- the world behind a turn
record Behind (t : Talkers) (w : World) (side : Side) (piece : List ℕ) (events : List Event) (k : LinkEnd) : Type 0 where
  world : World
  cl : List Event
  sl : List Event
  turn : PlaysTurn t w side piece events world
  reached : IsReached t world cl sl
  here : one_of side world.client world.server ≡ k

behind_turn : (t : Talkers) (w : World) (cl sl : List Event) (side : Side) (piece : List ℕ) (events : List Event) (k : LinkEnd) → AreFit t → IsReached t w cl sl → TakesTurn t side (one_of side w.client w.server) piece events (one_of (other_side side) w.client w.server) k → Behind t w side piece events k
behind_turn t w cl sl Client piece events k fit r g = (let v : World = record w { client = k } in record { world = v; cl = cl ++ events; sl = sl; turn = (g, refl); reached = client_held t w cl sl piece events v fit r (g, refl); here = refl })
behind_turn t w cl sl Server piece events k fit r g = (let v : World = record w { server = k } in record { world = v; cl = cl; sl = sl ++ events; turn = (g, refl); reached = server_held t w cl sl piece events v fit r (g, refl); here = refl })

-- ---- what the reader does with the next packet

-- what it kept so far
pub kept_seen : (says : Side → Says) (config : Side → Config) (side : Side) (h peer : LinkEnd) (s : SeenBy (talkers says config) side h peer) → Kept (says side) side (config side) (id_text (config side).id) (wrote s.log) (handled s.log) h.state (trace_of no_trace s.log)
kept_seen says config side h peer s = subst (λ q. Kept (says side) side (config side) (id_text (config side).id) (wrote s.log) q h.state (trace_of no_trace s.log)) (kept_all s.log s.run.guesses) (kept_run (says side) side (config side) (id_text (config side).id) s.log h.state s.run.ran.steps)

pub heads_seen : (says : Side → Says) (config : Side → Config) (side : Side) (h peer : LinkEnd) (s : SeenBy (talkers says config) side h peer) → ((d : Side) → HasSizes (config d)) → HeadsAre side config (handled s.log)
heads_seen says config side h peer s sizes = heads_of (says (other_side side)) config side (other_side side) (id_text (config (other_side side)).id) s.plog peer.state (handled s.log) refl (sizes (other_side side)) s.peer_run.ran.steps s.front

-- it is handed up, an exchange is begun for it, or a stage awaits it
pub goes_on : (says : Side → Says) (config : Side → Config) (side : Side) (h peer : LinkEnd) (s : SeenBy (talkers says config) side h peer) (j : Item) (more : List Item) → ((d : Side) → HasSizes (config d)) → IsWithin (offers_of Client (config Client)) → IsWithin (offers_of Server (config Server)) → h.state.owed ≡ [] → (h.state.stands ≡ Silent → ⊥) → wrote s.plog ≡ handled s.log ++ j ∷ more → Goes (other_side side) (config (other_side side)) h.state j
goes_on says config side h peer s j more sizes cw sw owes loud next = goes where
  o : Side
  o = other_side side

  own : List ℕ
  own = id_text (config side).id

  theirs : List ℕ
  theirs = id_text (config o).id

  t : Trace
  t = trace_of no_trace s.log

  kept : Kept (says side) side (config side) own (wrote s.log) (handled s.log) h.state t
  kept = kept_seen says config side h peer s

  c : Cut (says o) o (config o) theirs s.plog first_state peer.state (handled s.log) j
  c = cut_log (says o) o (config o) theirs s.plog first_state peer.state (handled s.log) j more s.peer_run.ran.steps next

  u : Trace
  u = trace_of no_trace c.before

  k : Kept (says o) o (config o) theirs (handled s.log) (kept_in c.before) c.mid u
  k = subst (λ w. Kept (says o) o (config o) theirs w (kept_in c.before) c.mid u) c.wrote_is (kept_run (says o) o (config o) theirs c.before c.mid c.steps)

  peer_read : HasFront (wrote s.log) (kept_in c.before)
  peer_read = Rattle.ssh_rules.proofs.pair.Facing.read_before s.log s.plog c.before c.rest c.log_is s.peer_run.guesses s.peer_front

  known : KindIs (kind_chosen config) (names_now h.state.stands)
  known = known_here (says side) side config own (wrote s.log) (handled s.log) h.state t cw sw (heads_seen says config side h peer s sizes) kept

  known_mid : KindIs (kind_chosen config) (names_now c.mid.stands)
  known_mid = known_here (says o) o config theirs (handled s.log) (kept_in c.before) c.mid u cw sw (heads_of (says side) config o side own s.log h.state (kept_in c.before) (sym (other_twice side)) (sizes side) s.run.ran.steps peer_read) k

  x : (epochs_ended (handled s.log) ≡ length c.mid.records) × NextIs o (config o) (kind_chosen config) (length c.mid.records) u.own j
  x = next_by (says o) o (config o) theirs (λ n. kind_chosen config) (handled s.log) c.mid u (kept_in c.before) c.event c.next j (sizes o) k (started_steps (says o) o (config o) theirs c.before first_state c.mid no_trace started_first c.steps) known_mid c.writes c.step

  at : length c.mid.records ≡ length h.state.records
  at = sym x.0 ∙ ends_open (length h.state.records) t.theirs (handled s.log) kept.accounts.theirs kept.tidy.theirs_open

  same : u.own ≡ t.theirs
  same = sym k.accounts.own.block_is ∙ (ap (λ n. exchange_block n (handled s.log)) at ∙ kept.accounts.theirs.block_is)

  goes : Goes o (config o) h.state j
  goes = next_accepted (says side) side (config side) own (config o) (kind_chosen config) (wrote s.log) (handled s.log) h.state t j kept owes loud known (subst (λ n. NextIs o (config o) (kind_chosen config) n t.theirs j) at (subst (λ z. NextIs o (config o) (kind_chosen config) (length c.mid.records) z j) same x.1))

one_stage : (a b : Stage) → Inside a ≡ Inside b → a ≡ b
one_stage a b e = cc

-- a message of an exchange has the form of the stage that it is looked at in
pub readable_next : (writer : Side) (peer : Config) (st : SideState) (j : Item) (stage : Stage) → Goes writer peer st j → is_kex_type (type_of j) ≡ true → LooksIn st.stands stage → IsReadable writer peer stage j.payload
readable_next writer peer st j stage (Delivering q p) kex looks = absurd (let z : true ≡ false = sym kex ∙ payload_not_kex (type_of j) p in cc)
readable_next writer peer st j stage (Calling cookie out len p) kex (inl inside) = absurd (let z : Inside stage ≡ Outside = sym inside ∙ out in cc)
readable_next writer peer st j stage (Calling cookie out len p) kex (inr w) = subst (λ z. IsReadable writer peer z j.payload) (sym (w.1).1) (cookie, len, p)
readable_next writer peer st j stage (Taking a q r) kex (inl inside) = subst (λ z. IsReadable writer peer z j.payload) (one_stage a stage (sym q ∙ inside)) r
readable_next writer peer st j stage (Taking a q r) kex (inr w) = absurd (let z : Inside a ≡ Outside = sym q ∙ w.0 in cc)

-- ---- packets that aren't refused

-- each packet that was written is of an exchange or a payload
kind_next : (r : List Item) (i : Item) (more w : List Item) → w ≡ r ++ i ∷ more → AreKinds w → (is_kex_type (type_of i) || is_payload_type (type_of i)) ≡ true
kind_next [] i more w e k = (subst AreKinds e k).0
kind_next (x ∷ r) i more w e k = kind_next r i more (r ++ i ∷ more) refl (subst AreKinds e k).1

no_end : (n : ℕ) → n ≡ 1 → (is_kex_type n || is_payload_type n) ≡ true → ⊥
no_end n e k = (let q : false ≡ true = subst (λ m. (is_kex_type m || is_payload_type m) ≡ true) e k in cc)

-- names are those of an open exchange
pub inside_of : (s : Where) (n : Names) → names_now s ≡ Some n → (stage : Stage) × (s ≡ Inside stage)
inside_of Silent n e = (let q : None ≡ Some n = e in cc)
inside_of Outside n e = (let q : None ≡ Some n = e in cc)
inside_of (Inside stage) n e = (stage, refl)

-- what is in order doesn't break it
pub in_order : (side : Side) (st : SideState) (i : Item) (e : Error) → BreaksOrder side st i e → InOrder side st i → ⊥
in_order side st i e b o = (
    let p : OrderBy side st.reading.number i [] (Some b.names) = subst (λ x. OrderBy side st.reading.number i x (Some b.names)) b.first (subst (λ x. OrderBy side st.reading.number i st.records x) b.read o) in
    let q : true ≡ false = sym b.violates ∙ p b.strict in cc)

stage_kex : (stage : Stage) → is_kex_type (awaited stage) ≡ true
stage_kex (Created own) = refl
stage_kex (AwaitsGroup o) = refl
stage_kex (AwaitsReply o gex local public) = by (Rattle.ssh_kex.specs.Messages.is_gex o.names.kex) where
  by : (kind : Bool) → is_kex_type (Rattle.ssh_packet.specs.Stream.message_type (Rattle.ssh_kex.specs.Messages.reply_message kind [] [] [])) ≡ true
  by true = refl
  by false = refl
stage_kex (AwaitsRequest o) = refl
stage_kex (AwaitsValue o gex) = by (Rattle.ssh_kex.specs.Messages.is_gex o.names.kex) where
  by : (kind : Bool) → is_kex_type (Rattle.ssh_packet.specs.Stream.message_type (Rattle.ssh_kex.specs.Messages.value_message kind [])) ≡ true
  by true = refl
  by false = refl
stage_kex (AwaitsNewkeys exchange made host) = refl

pub kex_twice : (t : ℕ) → is_kex_type t ≡ true → is_kex_type t ≡ false → ⊥
kex_twice t e f = (let q : true ≡ false = sym e ∙ f in cc)

stage_not_out : (s : Where) (stage : Stage) → s ≡ Inside stage → s ≡ Outside → ⊥
stage_not_out s stage e f = (let q : Inside stage ≡ Outside = sym e ∙ f in cc)

-- where a packet goes on it isn't out of place
in_place : (writer : Side) (peer : Config) (side : Side) (st : SideState) (i : Item) (e : Error) → Goes writer peer st i → IsOutOfPlace side st i e → ⊥
in_place writer peer side st i e g o = by g o.place where
  by : Goes writer peer st i → ((is_kex_type (type_of i) ≡ true) × (st.stands ≡ Outside) × (type_of i ≡ 20 → ⊥)) ⊎ ((is_kex_type (type_of i) ≡ false) × (is_payload_type (type_of i) ≡ true → MayDeliver st → ⊥)) → ⊥
  by (Delivering may p) (inl h) = kex_twice (type_of i) h.0 (payload_not_kex (type_of i) p)
  by (Delivering may p) (inr h) = h.1 p may
  by (Calling cookie out len p) (inl h) = h.2 (kexinit_item writer peer cookie i p)
  by (Calling cookie out len p) (inr h) = kex_twice (type_of i) (ap is_kex_type (kexinit_item writer peer cookie i p)) h.0
  by (Taking stage inside r) (inl h) = stage_not_out st.stands stage inside h.1
  by (Taking stage inside r) (inr h) = kex_twice (type_of i) (ap is_kex_type (readable_type writer peer stage i.payload r) ∙ stage_kex stage) h.0

-- a packet that a side of a link refuses
record RefusesAt (says : Side → Says) (denies : Denies) (untrusted : ServerHost → Type 0) (config : Side → Config) (side : Side) (k : LinkEnd) (i : Item) (e : Error) : Type 0 where
  quiet : IsQuiet (config side) k.state
  rest : List ℕ
  next : front_of k.state.reading.sealing k.state.reading.number k.unfinished ≡ Whole i rest
  loud : k.state.stands ≡ Silent → ⊥
  refuses : RefusesPacket (says side) denies untrusted side (config side) k.state i e

-- a reader without a record, as the early laws have it
early_at : (says : Side → Says) (config : Side → Config) (side : Side) (h peer : LinkEnd) (s : SeenBy (talkers says config) side h peer) → AreLawful says config → h.state.records ≡ [] → IsEarlyLink says config side s.log s.plog h.state peer.state
early_at says config side h peer s m r = record {
  client_within = is_within Client (config Client) (m.valid Client);
  server_within = is_within Server (config Server) (m.valid Server);
  sizes = m.sizes;
  steps = s.run.ran.steps;
  peer_steps = s.peer_run.ran.steps;
  to_side = subst (λ x. HasFront x (read_bytes side first_state.reading s.log)) s.peer_run.ran.sent_is (through peer.sent h.fed (read_bytes side first_state.reading s.log) s.fed (h.unfinished, sym s.run.ran.fed_is));
  to_peer = subst (λ x. HasFront x (read_bytes (other_side side) first_state.reading s.plog)) s.run.ran.sent_is (through h.sent peer.fed (read_bytes (other_side side) first_state.reading s.plog) s.peer_fed (peer.unfinished, sym s.peer_run.ran.fed_is));
  none = sym (recorded_is (says side) side (config side) (id_text (config side).id) s.log first_state h.state s.run.ran.steps) ∙ r;
}

packet_refused : (says : Side → Says) (denies : Denies) (untrusted : ServerHost → Type 0) (config : Side → Config) (w : World) (cl sl : List Event) (side : Side) (i : Item) (e : Error) → AreLawful says config → IsReached (talkers says config) w cl sl → RefusesAt says denies untrusted config side (one_of side w.client w.server) i e → MessageRefused (talkers says config) denies w cl sl side e ⊎ HostRefused (talkers says config) untrusted w cl sl side e
packet_refused says denies untrusted config w cl sl side i e m reached r = by r.refuses where
  h : LinkEnd
  h = one_of side w.client w.server

  peer : LinkEnd
  peer = one_of (other_side side) w.client w.server

  t : Talkers
  t = talkers says config

  s : SeenBy t side h peer
  s = seen_by t w cl sl side (fit_of says config m) reached

  next : WritesNext (wrote s.plog) (handled s.log) i
  next = next_whole t side s.log s.plog h peer i r.rest s.run s.peer_run s.fed s.front s.agree r.next

  awaits : (stage : Stage) → LooksIn h.state.stands stage → is_kex_type (type_of i) ≡ true → AwaitsNext t w cl sl side stage i
  awaits stage looks kex = record { reached = reached; owes = r.quiet.owes; looks = looks; is_kex = kex; behind = r.rest; whole = r.next }

  kinds : (is_kex_type (type_of i) || is_payload_type (type_of i)) ≡ true
  kinds = kind_next (handled s.log) i next.0 (wrote s.plog) next.1 (wrote_kinds (says (other_side side)) (other_side side) (config (other_side side)) (id_text (config (other_side side)).id) s.plog first_state peer.state no_trace (tidy_first (says (other_side side)) (other_side side) (config (other_side side)) (id_text (config (other_side side)).id)) s.peer_run.ran.steps)

  goes : Goes (other_side side) (config (other_side side)) h.state i
  goes = goes_on says config side h peer s i next.0 m.sizes (is_within Client (config Client) (m.valid Client)) (is_within Server (config Server) (m.valid Server)) r.quiet.owes r.loud next.1

  orderly : BreaksOrder side h.state i e → ⊥
  orderly b = (let n = inside_of h.state.stands b.names b.read in in_order side h.state i e b (no_violation says config side s.log s.plog h.state peer.state n.0 i next.0 (early_at says config side h peer s m b.first) r.quiet.owes n.1 next.1).0)

  by : RefusesPacket (says side) denies untrusted side (config side) h.state i e → MessageRefused t denies w cl sl side e ⊎ HostRefused t untrusted w cl sl side e
  by (inl d) = absurd (no_end (type_of i) d.type_is kinds)
  by (inr (inl b)) = absurd (orderly b)
  by (inr (inr (inl x))) = inl (record { stage = x.stage; item = i; awaits = awaits x.stage x.looks x.is_kex; refuses = x.refuses })
  by (inr (inr (inr (inl x)))) = inr (record { item = i; exchange = x.exchange; made = x.made; host = x.host; awaits = awaits (AwaitsNewkeys x.exchange x.made (Some x.host)) (inl x.inside) (ap (λ p. is_kex_type (Rattle.ssh_packet.specs.Stream.message_type p)) x.payload_is); denied = x.denied; error_is = x.error_is })
  by (inr (inr (inr (inr x)))) = absurd (in_place (other_side side) (config (other_side side)) side h.state i e goes x)

-- ---- a piece that is refused

-- a side that has come to a packet has heard the other
heard_first : (config : Config) (line took : List ℕ) (reading : Rattle.ssh_wire.specs.Reading.IdReading) (waiting : List ℕ) (k : LinkEnd) (i : Item) (rest : List ℕ) → HasCome line took reading waiting k → IsQuiet config k.state → front_of k.state.reading.sealing k.state.reading.number k.unfinished ≡ Whole i rest → k.state.stands ≡ Silent → ⊥
heard_first config line took reading waiting k i rest (inl c) q next z = nothing_whole k.state.reading.sealing k.state.reading.number i rest (ap (front_of k.state.reading.sealing k.state.reading.number) (sym c.unfinished) ∙ next)
heard_first config line took reading waiting k i rest (inr c) q next z = (let e : Some c.text ≡ None = sym c.heard ∙ q.silent z in cc)

-- a refused piece up to what is refused, as a transport that goes on from there
abbrev pub stood_at : (says : Says) (old : Standing) (piece : List ℕ) (cause : RefusalCause) (new : Standing) → RefusesInput says old piece cause new → Standing
stood_at says old piece cause new f = record {
  side = old.side;
  config = old.config;
  state = f.at;
  line = f.line;
  output = old.output ++ sent_bytes old.side old.state.writing f.events;
  waiting = f.left;
  delivered = old.delivered ++ delivered_in f.events;
  failed = false;
}

pub at_old : (P : Side → Config → Type 0) (a a' : Side) (b b' : Config) → a ≡ a' → b ≡ b' → P a b → P a' b'
at_old P a a' b b' e f p = subst (λ y. P a' y) f (subst (λ x. P x b) e p)

pub refused_turn : (says : Side → Says) (denies : Denies) (untrusted : ServerHost → Type 0) (config : Side → Config) (w : World) (cl sl : List Event) (side : Side) (took piece : List ℕ) (old new : Standing) (e : Error) → AreLawful says config → RefusesInLink (talkers says config) denies untrusted w cl sl side took piece old e new → RefusesInTurn (talkers says config) denies untrusted w side e
refused_turn says denies untrusted config w cl sl side took piece old new e m r = by r.refuses.cause r.refuses.refuses r.refuses.answers where
  h : LinkEnd
  h = one_of side w.client w.server

  peer : LinkEnd
  peer = one_of (other_side side) w.client w.server

  t : Talkers
  t = talkers says config

  fit : AreFit t
  fit = fit_of says config m

  by : (cause : RefusalCause) (f : RefusesInput (says side) old piece cause new) → AnswersCause (says side) denies untrusted old.side old.config cause f.at e → RefusesInTurn t denies untrusted w side e
  by OfMemory f a = inl a
  by OfVersion f a = absurd (no_version says config side took piece f.events h peer old r.whole_id r.stands r.honest f.heard)
  by (OfFault fault) f a = absurd (let s = seen_by t b.world b.cl b.sl side fit b.reached in next_opens t side s.log s.plog (one_of side b.world.client b.world.server) (one_of (other_side side) b.world.client b.world.server) fault s.run s.peer_run s.fed s.front s.agree (subst (λ z. front_of z.state.reading.sealing z.state.reading.number z.unfinished ≡ Rattle.ssh_packet.specs.Front.Refused fault) (sym b.here) f.next)) where
    v : TurnsBy t side (took ++ piece) f.events (stood_at (says side) old piece (OfFault fault) new f) h peer
    v = taken_turn says config side took piece f.events f.behind h peer old (stood_at (says side) old piece (OfFault fault) new f) r.whole_id r.stands r.honest (record { side = refl; config = refl; steps = f.steps; output = refl; not_called = (subst (λ c. IsQuiet c f.at) f.config f.done).not_called; live = refl }) f.heard f.read

    b : Behind t w side v.piece f.events (end_behind side h f.events v.piece (stood_at (says side) old piece (OfFault fault) new f))
    b = behind_turn t w cl sl side v.piece f.events (end_behind side h f.events v.piece (stood_at (says side) old piece (OfFault fault) new f)) fit r.reached v.turn
  by (OfPacket i) f a = inr (record { piece = v.piece; events = f.events; world = b.world; cl = b.cl; sl = b.sl; turn = b.turn; refuses = packet_refused says denies untrusted config b.world b.cl b.sl side i e m b.reached (subst (λ z. RefusesAt says denies untrusted config side z i e) (sym b.here) here) }) where
    mid : Standing
    mid = stood_at (says side) old piece (OfPacket i) new f

    quiet : IsQuiet old.config f.at
    quiet = subst (λ c. IsQuiet c f.at) f.config f.done

    v : TurnsBy t side (took ++ piece) f.events mid h peer
    v = taken_turn says config side took piece f.events f.behind h peer old mid r.whole_id r.stands r.honest (record { side = refl; config = refl; steps = f.steps; output = refl; not_called = (quiet).not_called; live = refl }) f.heard f.read

    k : LinkEnd
    k = end_behind side h f.events v.piece mid

    b : Behind t w side v.piece f.events k
    b = behind_turn t w cl sl side v.piece f.events k fit r.reached v.turn

    at_side : IsQuiet (config side) f.at
    at_side = subst (λ c. IsQuiet c f.at) r.stands.config_is quiet

    here : RefusesAt says denies untrusted config side k i e
    here = record {
      quiet = at_side;
      rest = f.next.0;
      next = f.next.1;
      loud = heard_first (config side) _ _ mid.line mid.waiting k i f.next.0 v.stands.come at_side f.next.1;
      refuses = at_old (λ x y. RefusesPacket (says side) denies untrusted x y f.at i e) old.side side old.config (config side) r.stands.side_is r.stands.config_is a;
    }
