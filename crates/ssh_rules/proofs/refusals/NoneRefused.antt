-- What a link refuses of the messages of its exchanges: what the parts decide where they are lawful, and nothing but
-- for want of memory where they are obliging.
use Rattle.std.proofs.Common.{ap, arith, length, inl, inr, ◌≡◌, ℕ, ◌++◌, List, [], ◌∷◌, refl, sym, ◌∙◌, subst, true, false, Some, None, Ok, slice_get}
use Rattle.ssh_packet.specs.Sealing.{Item, next_number}
use Rattle.ssh_wire.specs.Lines.{id_text}
use Rattle.ssh_wire.specs.Sides.{other_side}
use Rattle.ssh_wire.specs.declared.error.Error.{Error}
use Rattle.ssh_wire.specs.declared.error.Error.TheVariants as errors
use Rattle.ssh_wire.specs.declared.side.Side.{Side}
use Rattle.ssh_wire.specs.declared.side.Side.TheVariants.{Client, Server}
use Rattle.ssh_negotiate.specs.declared.negotiation.Names.{Names}
use Rattle.ssh_negotiate.specs.declared.preferred.HostKey.{HostKey}
use Rattle.ssh_kex.specs.Refusals.{Denies, RefusesMessage}
use Rattle.ssh_kex.specs.Setting.{Says, Setting}
use Rattle.ssh_kex.specs.Parts.{Presents}
use Rattle.ssh_kex.specs.Stages.{AwaitsNewkeys, Created, Stage}
use Rattle.ssh_kex.specs.declared.config.Config.{Config}
use Rattle.ssh_kex.specs.declared.exchange.Exchange.{Exchange}
use Rattle.ssh_kex.specs.declared.exchange.FinishedExchange.{FinishedExchange}
use Rattle.ssh_kex.specs.declared.exchange.ServerHost.{ServerHost}
use Rattle.ssh_rules.specs.Headline.{chosen_by}
use Rattle.ssh_rules.specs.Laws.{FindsCanonical, OneSecret}
use Rattle.ssh_rules.specs.Log.{handled, read_bytes, recorded, wrote}
use Rattle.ssh_rules.specs.Machine.{Event, SideState, first_state, setting}
use Rattle.ssh_rules.specs.MessageTypes.{is_kex_type, type_of}
use Rattle.ssh_rules.proofs.pair.Next.{started_first, started_steps}
use Rattle.ssh_rules.proofs.side.StageFits.{no_trace}
use Rattle.ssh_rules.specs.Refused.{LooksIn, AwaitsNext, PartsDecide, one_of}
use Rattle.ssh_rules.specs.RunLaws.{IsEarlyLink}
use Rattle.ssh_rules.specs.Snapshots.{RunsInLink}
use Rattle.ssh_rules.specs.Turns.{LinkEnd, World, talkers}
use Rattle.ssh_rules.specs.Valid.{HasSizes, config_fault, some_blob_long}
use Rattle.ssh_rules.specs.Wire.{HasFront}
use Rattle.ssh_rules.proofs.pair.Facing.{IsFaced, is_faced}
use Rattle.ssh_rules.proofs.headline.HostShown.{host_shown}
use Rattle.ssh_rules.proofs.pair.NextWhole.{next_whole}
use Rattle.ssh_rules.proofs.refusals.Obliged.{AreSmall, Duties, none_refused, not_long}
use Rattle.ssh_rules.proofs.refusals.OnlyParts.{PartsRefuse, groups_short, only_parts_refuse, reads_well}
use Rattle.ssh_rules.proofs.side.Ran.{recorded_is}
use Rattle.ssh_rules.proofs.side.StageSteps.{setting_side}
use Rattle.ssh_rules.proofs.pair.StrictOrder.{no_violation, through}
use Rattle.ssh_rules.proofs.turns.Turns.{held_in_step}
use Rattle.ssh_rules.proofs.side.Valid.{are_fit, is_within, tests}

-- a side that reads, its peer, and the packet that stands next, by either side
pub record IsNext (says : Side → Says) (config : Side → Config) (side : Side) (h : LinkEnd) (stage : Stage) (item : Item) : Type 0 where
  pub log : List Event
  pub plog : List Event
  pub peer : LinkEnd
  pub run : RunsInLink (talkers says config) side log h
  pub peer_run : RunsInLink (talkers says config) (other_side side) plog peer
  pub front : HasFront (wrote plog) (handled log)
  pub peer_front : HasFront (wrote log) (handled plog)
  pub agree : (i : ℕ) (x y : FinishedExchange) → slice_get (recorded log) i ≡ Some x → slice_get (recorded plog) i ≡ Some y → x ≡ y
  pub fed : HasFront peer.sent h.fed
  pub peer_fed : HasFront h.sent peer.fed
  pub owes : h.state.owed ≡ []
  pub looks : LooksIn h.state.stands stage
  pub is_kex : is_kex_type (type_of item) ≡ true
  pub more : List Item
  pub next : wrote plog ≡ handled log ++ item ∷ more

-- what is known of the configurations and of what the parts say
pub record AreMet (says : Side → Says) (config : Side → Config) (names : Names) : Type 0 where
  pub valid : (side : Side) → config_fault side (config side) ≡ None
  pub sizes : (side : Side) → HasSizes (config side)
  pub chosen : chosen_by (config Client) (config Server) ≡ Ok names
  pub secret : OneSecret (says Client) (says Server)
  pub canonical : FindsCanonical (says Server)

pub is_next : (says : Side → Says) (config : Side → Config) (names : Names) (w : World) (cl sl : List Event) (side : Side) (stage : Stage) (item : Item) → AreMet says config names → AwaitsNext (talkers says config) w cl sl side stage item → IsNext says config side (one_of side w.client w.server) stage item
is_next says config names w cl sl Client stage item m a =
    let s = held_in_step (talkers says config) w cl sl (are_fit says config m.valid m.sizes m.secret m.canonical) a.reached in
    let n = next_whole (talkers says config) Client cl sl w.client w.server item a.behind a.reached.client a.reached.server a.reached.to_client s.to_client s.records a.whole in
    record { log = cl; plog = sl; peer = w.server; run = a.reached.client; peer_run = a.reached.server; front = s.to_client; peer_front = s.to_server; agree = s.records; fed = a.reached.to_client; peer_fed = a.reached.to_server; owes = a.owes; looks = a.looks; is_kex = a.is_kex; more = n.0; next = n.1 }
is_next says config names w cl sl Server stage item m a =
    let s = held_in_step (talkers says config) w cl sl (are_fit says config m.valid m.sizes m.secret m.canonical) a.reached in
    let agree : (i : ℕ) (x y : FinishedExchange) → slice_get (recorded sl) i ≡ Some x → slice_get (recorded cl) i ≡ Some y → x ≡ y = λ i x y e f. sym (s.records i y x f e) in
    let n = next_whole (talkers says config) Server sl cl w.server w.client item a.behind a.reached.server a.reached.client a.reached.to_server s.to_server agree a.whole in
    record { log = sl; plog = cl; peer = w.client; run = a.reached.server; peer_run = a.reached.client; front = s.to_server; peer_front = s.to_client; agree = agree; fed = a.reached.to_server; peer_fed = a.reached.to_client; owes = a.owes; looks = a.looks; is_kex = a.is_kex; more = n.0; next = n.1 }

pub faced : (says : Side → Says) (config : Side → Config) (names : Names) (side : Side) (h : LinkEnd) (stage : Stage) (item : Item) → AreMet says config names → IsNext says config side h stage item → IsFaced says config side h.state stage item.payload names
faced says config names side h stage item m n =
    is_faced says config side n.log n.plog h n.peer stage item n.more names m.sizes (is_within Client (config Client) (m.valid Client)) (is_within Server (config Server) (m.valid Server)) m.secret m.canonical m.chosen n.run n.peer_run n.front n.peer_front n.agree n.owes n.looks n.next n.is_kex

-- a KEXINIT that a side without a record awaits is the first packet
is_first : (says : Side → Says) (config : Side → Config) (names : Names) (side : Side) (h : LinkEnd) (stage : Stage) (item : Item) → AreMet says config names → IsNext says config side h stage item → (k : List ℕ) → stage ≡ Created k → h.state.records ≡ [] → next_number h.state.reading.number ≡ 1
is_first says config names side h stage item m n k e r = elim n.looks [
  | inl inside ↦ (no_violation says config side n.log n.plog h.state n.peer.state stage item n.more early n.owes inside n.next).1 k e
  | inr c ↦ absurd (let l = ap length r in let s = (started_steps (says side) side (config side) (id_text (config side).id) n.log first_state h.state no_trace started_first n.run.ran.steps).outside c.0 in omega (arith, l, s))
] where
  early : IsEarlyLink says config side n.log n.plog h.state n.peer.state
  early = record {
    client_within = is_within Client (config Client) (m.valid Client);
    server_within = is_within Server (config Server) (m.valid Server);
    sizes = m.sizes;
    steps = n.run.ran.steps;
    peer_steps = n.peer_run.ran.steps;
    to_side = subst (λ x. HasFront x (read_bytes side first_state.reading n.log)) n.peer_run.ran.sent_is (through n.peer.sent h.fed (read_bytes side first_state.reading n.log) n.fed (h.unfinished, sym n.run.ran.fed_is));
    to_peer = subst (λ x. HasFront x (read_bytes (other_side side) first_state.reading n.plog)) n.run.ran.sent_is (through h.sent n.peer.fed (read_bytes (other_side side) first_state.reading n.plog) n.peer_fed (n.peer.unfinished, sym n.peer_run.ran.fed_is));
    none = sym (recorded_is (says side) side (config side) (id_text (config side).id) n.log first_state h.state n.run.ran.steps) ∙ r;
  }

-- so the parts alone refuse it
by_parts : (says : Side → Says) (denies : Denies) (config : Side → Config) (names : Names) (side : Side) (h : LinkEnd) (stage : Stage) (item : Item) (e : Error) → AreMet says config names → IsNext says config side h stage item
    → RefusesMessage (says side) denies (setting side (config side) (id_text (config side).id) h.state) stage (next_number h.state.reading.number) item.payload e → PartsRefuse (says side) denies (setting side (config side) (id_text (config side).id) h.state) stage (next_number h.state.reading.number) item.payload e
by_parts says denies config names side h stage item e m n r =
    let f = faced says config names side h stage item m n in
    only_parts_refuse (says side) denies (setting side (config side) (id_text (config side).id) h.state) stage (next_number h.state.reading.number) item.payload (other_side side) (config (other_side side)) e (m.sizes (other_side side)) f.readable (groups_short (other_side side) (config (other_side side)) stage item.payload f.short f.readable)
    (reads_well config side (id_text (config side).id) names h.state stage (next_number h.state.reading.number) item.payload (is_within Client (config Client) (m.valid Client)) (is_within Server (config Server) (m.valid Server)) m.chosen (is_first says config names side h stage item m n) f.readable) r

no_long_blob : (config : Side → Config) (side : Side) (own_id : List ℕ) (st : SideState) → config_fault side (config side) ≡ None → some_blob_long (setting side (config side) own_id st).config ≡ false
no_long_blob config Client own_id st e = (tests Client (config Client) e).5
no_long_blob config Server own_id st e = (tests Server (config Server) e).5

-- ---- obliging parts

pub nothing_refused : (says : Side → Says) (denies : Denies) (config : Side → Config) (names : Names) (w : World) (cl sl : List Event) (side : Side) (stage : Stage) (item : Item) (e : Error) → AreMet says config names → Duties says config side names.kex denies → AreSmall (says side) side (config (other_side side)).gex → AwaitsNext (talkers says config) w cl sl side stage item
    → RefusesMessage (says side) denies (setting side (config side) (id_text (config side).id) (one_of side w.client w.server).state) stage (next_number (one_of side w.client w.server).state.reading.number) item.payload e → e ≡ errors.Memory
nothing_refused says denies config names w cl sl side stage item e m d a next r =
    none_refused says denies config s stage seqn item.payload names.kex e (subst (λ z. Duties says config z names.kex denies) at d) (subst (λ z. AreSmall (says z) z (config (other_side z)).gex) at a) f.serves (no_long_blob config side (id_text (config side).id) h.state (m.valid side)) (m.sizes (other_side s.side)) f.met f.kex
    (subst (λ z. Rattle.ssh_rules.proofs.pair.Awaited.IsReadable (other_side z) (config (other_side z)) stage item.payload) at f.readable) (subst (λ z. PartsRefuse (says z) denies s stage seqn item.payload e) at (by_parts says denies config names side h stage item e m n r))
  where
    h : LinkEnd
    h = one_of side w.client w.server

    s : Setting
    s = setting side (config side) (id_text (config side).id) h.state

    seqn : ℕ
    seqn = next_number h.state.reading.number

    at : side ≡ s.side
    at = sym (setting_side side (config side) (id_text (config side).id) h.state)

    n : IsNext says config side h stage item
    n = is_next says config names w cl sl side stage item m next

    f : IsFaced says config side h.state stage item.payload names
    f = faced says config names side h stage item m n

-- ---- lawful parts

decided : (says : Says) (denies : Denies) (s : Setting) (stage : Stage) (seqn : ℕ) (payload : List ℕ) (e : Error) → ((n : ℕ) → e ≡ errors.PacketSize n → PartsRefuse says denies s stage seqn payload e → ⊥) → PartsRefuse says denies s stage seqn payload e → PartsDecide says denies s stage seqn payload e
decided says denies s stage seqn payload errors.KexInit l h = h
decided says denies s stage seqn payload errors.UnknownAlgo l h = h
decided says denies s stage seqn payload (errors.NoCommonAlgo kind ours theirs) l h = h
decided says denies s stage seqn payload errors.Version l h = h
decided says denies s stage seqn payload errors.Kex l h = h
decided says denies s stage seqn payload errors.PacketAuth l h = h
decided says denies s stage seqn payload errors.Inconsistent l h = h
decided says denies s stage seqn payload errors.IndexOutOfBounds l h = h
decided says denies s stage seqn payload errors.UnknownKey l h = h
decided says denies s stage seqn payload errors.WrongServerSig l h = h
decided says denies s stage seqn payload (errors.PacketSize n) l h = l n refl h
decided says denies s stage seqn payload errors.Disconnect l h = h
decided says denies s stage seqn payload errors.DecryptionError l h = h
decided says denies s stage seqn payload errors.IO l h = h
decided says denies s stage seqn payload (errors.StrictKeyExchangeViolation type place) l h = h
decided says denies s stage seqn payload errors.Signature l h = h
decided says denies s stage seqn payload (errors.SshEncoding fault) l h = h
decided says denies s stage seqn payload (errors.InvalidConfig fault) l h = h
decided says denies s stage seqn payload errors.Memory l h = h

pub parts_decide : (says : Side → Says) (denies : Denies) (config : Side → Config) (names : Names) (w : World) (cl sl : List Event) (side : Side) (stage : Stage) (item : Item) (e : Error) → AreMet says config names → AreSmall (says side) side (config (other_side side)).gex → AwaitsNext (talkers says config) w cl sl side stage item
    → RefusesMessage (says side) denies (setting side (config side) (id_text (config side).id) (one_of side w.client w.server).state) stage (next_number (one_of side w.client w.server).state.reading.number) item.payload e
    → PartsDecide (says side) denies (setting side (config side) (id_text (config side).id) (one_of side w.client w.server).state) stage (next_number (one_of side w.client w.server).state.reading.number) item.payload e
parts_decide says denies config names w cl sl side stage item e m a next r =
    decided (says side) denies s stage seqn item.payload e (λ k q p. short k (subst (PartsRefuse (says side) denies s stage seqn item.payload) q p)) (by_parts says denies config names side h stage item e m n r)
  where
    h : LinkEnd
    h = one_of side w.client w.server

    s : Setting
    s = setting side (config side) (id_text (config side).id) h.state

    seqn : ℕ
    seqn = next_number h.state.reading.number

    at : side ≡ s.side
    at = sym (setting_side side (config side) (id_text (config side).id) h.state)

    n : IsNext says config side h stage item
    n = is_next says config names w cl sl side stage item m next

    f : IsFaced says config side h.state stage item.payload names
    f = faced says config names side h stage item m n

    short : (k : ℕ) → PartsRefuse (says side) denies s stage seqn item.payload (errors.PacketSize k) → ⊥
    short k p = not_long (says side) s (config (other_side side)) stage seqn item.payload k (subst (λ z. AreSmall (says side) z (config (other_side side)).gex) at a) f.serves (no_long_blob config side (id_text (config side).id) h.state (m.valid side)) (m.sizes (other_side side))
        (subst (λ z. Rattle.ssh_rules.proofs.pair.Awaited.IsReadable (other_side z) (config (other_side side)) stage item.payload) at f.readable) p.0 p.1

-- ---- the host

-- the host that a client has accepted is one that the server presents
pub host_presented : (says : Side → Says) (config : Side → Config) (names : Names) (w : World) (cl sl : List Event) (item : Item) (exchange : Exchange) (made : FinishedExchange) (host : ServerHost) → AreMet says config names → AwaitsNext (talkers says config) w cl sl Client (AwaitsNewkeys exchange made (Some host)) item → (key : HostKey) × Presents (config Server) host key host.algorithm
host_presented says config names w cl sl item exchange made host m next =
    let f = faced says config names Client w.client (AwaitsNewkeys exchange made (Some host)) item m (is_next says config names w cl sl Client (AwaitsNewkeys exchange made (Some host)) item m next) in
    host_shown says config (setting Client (config Client) (id_text (config Client).id) w.client.state) f.met.0 exchange made host item.payload refl f.met.1 f.met.2
