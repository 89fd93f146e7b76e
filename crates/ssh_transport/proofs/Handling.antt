-- What is done with one packet, row by row.
use Rattle.std.proofs.Common.{◌≡◌, ℕ, ◌<◌, ◌&&◌, Bool, true, false, nat_le, List, [], ◌∷◌, ◌++◌, length, Option, None, refl, sym, ap, ◌∙◌, subst, arith, append-nil, ◌⊎◌, inl, inr}
use Rattle.ssh_wire.specs.Lines.{id_text}
use Rattle.ssh_wire.specs.Reading.{IdReading, Waiting, Heard, Failed, text_heard}
use Rattle.ssh_wire.specs.Sides.{other_side}
use Rattle.ssh_wire.specs.declared.side.Side.{Side}
use Rattle.ssh_wire.specs.declared.side.Side.TheVariants.{Client, Server}
use Rattle.ssh_negotiate.specs.Causes.{was_strict}
use Rattle.ssh_negotiate.specs.declared.negotiation.Names.{Names}
use Rattle.ssh_packet.specs.Keys.{opening_of, sealing_of}
use Rattle.ssh_packet.specs.Sealing.{Item, Sealing, next_number, sealed_packet}
use Rattle.ssh_packet.specs.declared.keys.OpenKey.{OpenKey}
use Rattle.ssh_packet.specs.Stream.{message_type}
use Rattle.ssh_packet.specs.Writing.{Writer, count_after}
use Rattle.ssh_packet.specs.declared.reader.Incoming.{Incoming}
use Rattle.ssh_kex.specs.Setting.{Says, Setting}
use Rattle.ssh_kex.specs.Exchange.{outgoing}
use Rattle.ssh_kex.specs.Messages.{newkeys}
use Rattle.ssh_kex.specs.Stages.{AwaitsGroup, AwaitsNewkeys, AwaitsReply, AwaitsRequest, AwaitsValue, Finishes, Machine, Skips, Stage, Created, Takes, drops_guess, guess_dropped, names_in_stage}
use Rattle.ssh_kex.specs.Stepping.{DropsGuess, IsDone, PutsAll, TakesOne}
use Rattle.ssh_kex.specs.declared.config.Config.{Config}
use Rattle.ssh_kex.specs.declared.exchange.Exchange.{Exchange}
use Rattle.ssh_kex.specs.declared.exchange.FinishedExchange.{FinishedExchange}
use Rattle.ssh_kex.specs.declared.exchange.Keys.{Keys}
use Rattle.ssh_kex.specs.declared.exchange.NewKeys.{NewKeys}
use Rattle.ssh_kex.specs.declared.exchange.ServerHost.{ServerHost}
use Rattle.ssh_kex.specs.declared.session_state.SessionKexState.TheVariants.{Idle}
use Rattle.ssh_rules.specs.Log.{asked_in, delivered_in, read_bytes, sent_bytes}
use Rattle.ssh_rules.specs.Machine.{Event, ExchangeFinished, GuessDropped, Inside, MessageTaken, OrderBy, Outside, PacketDropped, PayloadDelivered, SideState, Silent, Spot, Steps, TakesMessage, cause_of, id_or_none, Where, setting, spot_after, spot_installed, spot_renumbered}
use Rattle.ssh_rules.specs.MessageTypes.{is_kex_type, is_payload_type, type_of}
use Rattle.ssh_rules.specs.Standing.{HearsNone, IsInput}
use Rattle.ssh_rules.specs.Valid.{config_fault}
use Rattle.ssh_transport.specs.Handling.{Awaits, Ended, Handles, IsFlagged, IsOwn, IsReadAt, Moves, Passes, delivered_by, may_deliver_by, read_behind, spot_behind}
use Rattle.ssh_transport.specs.Kexinits.{setting_between}
use Rattle.ssh_transport.specs.Saying.{IsSettled}
use Rattle.ssh_transport.specs.States.{after_exchanges, heard_of, stands_of, state_at}
use Rattle.ssh_transport.specs.Handling.{GivesKeys, GivesNothing, GivesPayload, Outcome}
use Rattle.ssh_transport.specs.declared.session.Session.{Session}
use Rattle.ssh_transport.proofs.Answering.{Answered, answered_taken, answering, spot_of, taken_flagged}
use Rattle.ssh_transport.proofs.Kexes.{never_skips}
use Rattle.ssh_transport.proofs.Kexinits.{between_config, between_side}
use Rattle.ssh_transport.proofs.Saying.{stated}

-- ---- between whom

id_same : (line : IdReading) → id_or_none (heard_of line) ≡ text_heard line
id_same (Waiting bytes others) = refl
id_same (Heard text) = refl
id_same Failed = refl

pub setting_by : (side : Side) (config : Config) (line : IdReading) (st : SideState) → st.heard ≡ heard_of line
    → setting side config (id_text config.id) st ≡ setting_between side config (text_heard line) (cause_of st.records)
setting_by Client config line st h = ap (λ (x : List ℕ). setting_between Client config x (cause_of st.records))
    (ap id_or_none h ∙ id_same line)
setting_by Server config line st h = ap (λ (x : List ℕ). setting_between Server config x (cause_of st.records))
    (ap id_or_none h ∙ id_same line)

pub own_side : (s : Session) (m : Machine) → IsOwn s m → m.setting.side ≡ s.side
own_side s m o = ap (λ (x : Setting). x.side) o.setting_is
    ∙ between_side s.side s.config.now (text_heard s.line) (cause_of s.finished.items)

pub own_config : (s : Session) (m : Machine) → IsOwn s m → m.setting.config ≡ s.config.now
own_config s m o = ap (λ (x : Setting). x.config) o.setting_is
    ∙ between_config s.side s.config.now (text_heard s.line) (cause_of s.finished.items)

-- ---- a packet that isn't the machine's

no_input : IsInput []
no_input = (refl, refl)

outside_or : (s : Session) (read : ℕ) (at : Spot) → IsSettled s read → (state_at s at read).stands ≡ Outside
    → (s.writer.count < s.config.now.limits.rekey_write_limit) × (read < s.config.now.limits.rekey_read_limit)
outside_or s read at q o = let p = q at in (p.below_write o, p.below_read o)

-- it is let pass
pub handles_idle : (says : Says) (s s' : Session) (seqn type : ℕ) (payload : List ℕ)
    → (stands_of s.finished.items s.kex ≡ Silent → ⊥) → type ≡ message_type payload
    → (nat_le 2 type && nat_le type 4) ≡ true → Passes s seqn type → s' ≡ s
    → Handles says s seqn payload GivesNothing s'
handles_idle says s s' seqn type payload begun t idle passes e at read i r q = record {
  events = PacketDropped i ∷ [];
  steps = (
    state_at s (spot_after at i) (count_after read (length i.payload)),
    record {
      idle = subst (λ (x : ℕ). (nat_le 2 x && nat_le x 4) ≡ true) same idle;
      owes = refl;
      not_called = refl;
      heard = begun;
      below = outside_or s read at q;
      admissible = r.admissible;
      ordered = passes at.number i r.small r.seqn_is (sym same);
      becomes = refl;
    },
    ap (λ (x : Session). state_at x (spot_after at i) (count_after read (length i.payload))) e,
  );
  output = ap (λ (x : Session). x.writer.output) e ∙ sym (append-nil s.writer.output);
  bytes = append-nil (sealed_packet at.sealing at.number i);
  delivered = refl;
  alone = λ d. absurd (let f : GivesNothing ≡ GivesPayload = d in cc);
  input = no_input;
  silent = tt;
} where
  same : type ≡ type_of i
  same = t ∙ ap message_type r.payload_is

may_be : (records : List FinishedExchange) (stands : Where) → may_deliver_by records stands ≡ true
    → (stands ≡ Outside) ⊎ (((own : List ℕ) × (stands ≡ Inside (Created own))) × (0 < length records))
may_be records Silent e = cc
may_be records Outside e = inl refl
may_be [] (Inside stage) e = cc
may_be (x ∷ records) (Inside (Created own)) e = inr ((own, refl), omega arith)
may_be (x ∷ records) (Inside (AwaitsGroup o)) e = cc
may_be (x ∷ records) (Inside (AwaitsReply o gex local public)) e = cc
may_be (x ∷ records) (Inside (AwaitsRequest o)) e = cc
may_be (x ∷ records) (Inside (AwaitsValue o gex)) e = cc
may_be (x ∷ records) (Inside (AwaitsNewkeys exchange made host)) e = cc

-- it is delivered
pub handles_delivered : (says : Says) (s s' : Session) (seqn type : ℕ) (payload : List ℕ) (may : Bool)
    → type ≡ message_type payload → is_payload_type type ≡ true
    → may ≡ may_deliver_by s.finished.items (stands_of s.finished.items s.kex) → may ≡ true → s' ≡ s
    → Handles says s seqn payload GivesPayload s'
handles_delivered says s s' seqn type payload may t allowed m n e at read i r q = record {
  events = PayloadDelivered i ∷ [];
  steps = (
    state_at s (spot_after at i) (count_after read (length i.payload)),
    record {
      may = may_be s.finished.items (stands_of s.finished.items s.kex) (sym m ∙ n);
      owes = refl;
      not_called = refl;
      allowed = subst (λ (x : ℕ). is_payload_type x ≡ true) (t ∙ ap message_type r.payload_is) allowed;
      below = outside_or s read at q;
      admissible = r.admissible;
      becomes = refl;
    },
    ap (λ (x : Session). state_at x (spot_after at i) (count_after read (length i.payload))) e,
  );
  output = ap (λ (x : Session). x.writer.output) e ∙ sym (append-nil s.writer.output);
  bytes = append-nil (sealed_packet at.sealing at.number i);
  delivered = refl;
  alone = λ d. refl;
  input = no_input;
  silent = tt;
}

-- ---- a packet of the machine

-- the events of one packet, from a state on
pub record Did (says : Says) (s : Session) (from : SideState) (at : Spot) (i : Item) (w' : Writer) (to : SideState) :
    Type 0 where
  pub events : List Event
  pub steps : Steps says s.side s.config.now (id_text s.config.now.id) from events to
  pub output : w'.output ≡ s.writer.output ++ sent_bytes s.side (spot_of s.writer) events
  pub bytes : read_bytes s.side at events ≡ sealed_packet at.sealing at.number i
  pub delivered : delivered_in events ≡ []
  pub input : IsInput events
  pub silent : HearsNone events

-- inside an exchange, with its machine
abbrev pub inside : Session → Machine → Bool → Spot → ℕ → SideState
inside s m called at read = stated s s.held.items s.writer (Inside m.stage) called at read

-- behind a packet
abbrev pub behind : Session → Stage → Bool → Writer → Spot → ℕ → Item → SideState
behind s stage reset w at read i = record (stated s s.held.items w (Inside stage) false (spot_after at i)
    (count_after read (length i.payload))) { writing = spot_renumbered reset (spot_of w) }

did_take : (says : Says) (s : Session) (m : Machine) (inc : Incoming) (next : Machine) (reset : Bool) (written : Writer)
    (at : Spot) (read : ℕ) (i : Item) (called : Bool) → IsOwn s m → IsReadAt at inc.seqn inc.payload.now i
    → OrderBy s.side at.number i s.finished.items (names_in_stage m.stage)
    → TakesOne says m inc s.writer next reset written → Did says s (inside s m called at read) at i written
    (behind s next.stage reset written at read i)
did_take says s m inc next reset written at read i called o r ordered t = record {
  events = MessageTaken i ∷ a.events;
  steps = (answering base t.written (spot_of s.writer) s.writer.count, takes, a.steps);
  output = a.output;
  bytes = ap (λ (x : List ℕ). sealed_packet at.sealing at.number i ++ x) (a.bytes (spot_after at i))
      ∙ append-nil (sealed_packet at.sealing at.number i);
  delivered = a.delivered;
  input = (a.submitted, ap asked_in a.causes);
  silent = a.silent;
} where
  base : SideState
  base = stated s s.held.items s.writer (Inside next.stage) false (spot_after at i)
      (count_after read (length i.payload))

  flagged : IsFlagged m.setting (names_in_stage next.stage)
  flagged = taken_flagged says m.setting m.stage next.stage inc.seqn inc.payload.now t.written t.takes o.flagged

  a : Answered says s.side s.config.now (id_text s.config.now.id) base t.written s.writer written
      (spot_renumbered reset (spot_of written))
  a = answered_taken says s.side s.config.now (id_text s.config.now.id) m.setting m.stage next.stage inc.seqn
      inc.payload.now t.written base s.writer written reset refl flagged t.reset_is t.takes t.puts

  same : m.setting ≡ setting s.side s.config.now (id_text s.config.now.id) (inside s m called at read)
  same = o.setting_is ∙ sym (setting_by s.side s.config.now s.line (inside s m called at read) refl)

  taken : Takes says (setting s.side s.config.now (id_text s.config.now.id) (inside s m called at read)) m.stage
      (next_number at.number) i.payload t.written next.stage
  taken = subst (λ (x : Setting). Takes says x m.stage (next_number at.number) i.payload t.written next.stage) same
      (subst (λ (n : ℕ). Takes says m.setting m.stage n i.payload t.written next.stage) r.seqn_is
      (subst (λ (p : List ℕ). Takes says m.setting m.stage inc.seqn p t.written next.stage) r.payload_is t.takes))

  takes : TakesMessage says s.side s.config.now (id_text s.config.now.id) (inside s m called at read) i
      (answering base t.written (spot_of s.writer) s.writer.count)
  takes = record {
    stage = m.stage;
    next = next.stage;
    answers = t.written;
    inside = refl;
    owes = refl;
    kept = t.kept;
    admissible = r.admissible;
    ordered = ordered;
    takes = taken;
    becomes = refl;
  }

did_drop : (says : Says) (s : Session) (m : Machine) (inc : Incoming) (next : Machine) (reset : Bool) (written : Writer)
    (at : Spot) (read : ℕ) (i : Item) → is_kex_type (type_of i) ≡ true → IsReadAt at inc.seqn inc.payload.now i
    → OrderBy s.side at.number i s.finished.items (names_in_stage m.stage) → DropsGuess m s.writer next reset written
    → Did says s (inside s m false at read) at i written (behind s next.stage reset written at read i)
did_drop says s m inc next reset written at read i kex r ordered d = record {
  events = GuessDropped i ∷ [];
  steps = (
    behind s next.stage reset written at read i,
    record {
      stage = m.stage;
      inside = refl;
      owes = refl;
      drops = d.drops;
      is_kex = kex;
      admissible = r.admissible;
      ordered = ordered;
      becomes = ap (λ (x : Machine). behind s x.stage reset written at read i) d.kex_is
          ∙ ap (λ (b : Bool). behind s (guess_dropped m.stage) b written at read i) d.reset_is
          ∙ ap (λ (w : Writer). behind s (guess_dropped m.stage) false w at read i) d.same;
    },
    refl,
  );
  output = ap (λ (x : Writer). x.output) d.same ∙ sym (append-nil s.writer.output);
  bytes = append-nil (sealed_packet at.sealing at.number i);
  delivered = refl;
  input = no_input;
  silent = tt;
}

created_drops : (stage : Stage) (own : List ℕ) → stage ≡ Created own → drops_guess stage ≡ false
created_drops stage own e = ap drops_guess e

-- a called exchange is one that was only begun
abbrev pub IsCalled : Bool → Stage → Type 0
IsCalled true stage = (own : List ℕ) × (stage ≡ Created own)
IsCalled false stage = Unit {0}

did_await : (says : Says) (s : Session) (m : Machine) (inc : Incoming) (next : Machine) (reset : Bool)
    (written : Writer) (at : Spot) (read : ℕ) (i : Item) (called : Bool) → IsCalled called m.stage
    → is_kex_type (type_of i) ≡ true → IsOwn s m → IsReadAt at inc.seqn inc.payload.now i
    → OrderBy s.side at.number i s.finished.items (names_in_stage m.stage)
    → DropsGuess m s.writer next reset written ⊎ TakesOne says m inc s.writer next reset written
    → Did says s (inside s m called at read) at i written (behind s next.stage reset written at read i)
did_await says s m inc next reset written at read i called c kex o r ordered (inr t) = did_take says s m inc next reset
    written at read i called o r ordered t
did_await says s m inc next reset written at read i true c kex o r ordered (inl d) = absurd
    (let e : true ≡ false = sym d.drops ∙ created_drops m.stage c.0 c.1 in cc)
did_await says s m inc next reset written at read i false c kex o r ordered (inl d) = did_drop says s m inc next reset
    written at read i kex r ordered d

-- ---- the end of an exchange

pub finish_stage : (stage : Stage) (payload : List ℕ) (x : Exchange) (made : FinishedExchange)
    (host : Option ServerHost) → Finishes stage payload x made host
    → (payload ≡ newkeys) × (stage ≡ AwaitsNewkeys x made host)
finish_stage (Created own) payload x made host h = absurd h
finish_stage (AwaitsGroup o) payload x made host h = absurd h
finish_stage (AwaitsReply o gex local public) payload x made host h = absurd h
finish_stage (AwaitsRequest o) payload x made host h = absurd h
finish_stage (AwaitsValue o gex) payload x made host h = absurd h
finish_stage (AwaitsNewkeys y m k) payload x made host h = (
  h.payload_is,
  sym (ap (λ (a : Exchange). AwaitsNewkeys a made host) h.exchange_is
      ∙ ap (λ (a : FinishedExchange). AwaitsNewkeys y a host) h.made_is
      ∙ ap (λ (a : Option ServerHost). AwaitsNewkeys y m a) h.host_is),
)

pub skips_read : (s : Setting) (stage : Stage) (seqn : ℕ) (payload : List ℕ) (written : List (List ℕ)) (x : Exchange)
    (made : FinishedExchange) (host : Option ServerHost) → config_fault s.side s.config ≡ None
    → Skips s stage seqn payload written x made host → ⊥
skips_read s (Created own) seqn payload written x made host v h = never_skips s.side s.config (was_strict s.cause)
    payload h.names v h.reads.read h.skips
skips_read s (AwaitsGroup o) seqn payload written x made host v h = h
skips_read s (AwaitsReply o gex local public) seqn payload written x made host v h = h
skips_read s (AwaitsRequest o) seqn payload written x made host v h = h
skips_read s (AwaitsValue o gex) seqn payload written x made host v h = h
skips_read s (AwaitsNewkeys y m k) seqn payload written x made host v h = h

behind_records : (records : List FinishedExchange) (x : FinishedExchange)
    → after_exchanges (records ++ x ∷ []) ≡ Outside
behind_records [] x = refl
behind_records (y ∷ records) x = refl

called_off : (called : Bool) (stage : Stage) (x : Exchange) (made : FinishedExchange) (host : Option ServerHost)
    → IsCalled called stage → stage ≡ AwaitsNewkeys x made host → called ≡ false
called_off true stage x made host c e = absurd (let f : Created c.0 ≡ AwaitsNewkeys x made host = sym c.1 ∙ e in cc)
called_off false stage x made host c e = refl

-- the state behind an exchange, by its record and what both ways are sealed under
abbrev ended : Session → List FinishedExchange → Where → Spot → Spot → SideState
ended s records stands at to = record {
  heard = heard_of s.line;
  stands = stands;
  called = false;
  owed = [];
  records = records;
  held = s.held.items;
  reading = at;
  writing = to;
  written = 0;
  read = 0;
}

did_end : (says : Says) (s s' : Session) (m : Machine) (inc : Incoming) (at : Spot) (read : ℕ) (i : Item)
    (called : Bool) (opening : OpenKey) (again : Bool) → config_fault s.side s.config.now ≡ None
    → IsCalled called m.stage → IsOwn s m → IsReadAt at inc.seqn inc.payload.now i
    → OrderBy s.side at.number i s.finished.items (names_in_stage m.stage)
    → Ended says s m inc (GivesKeys opening again) s' → Did says s (inside s m called at read) at i s'.writer
    (state_at s' (spot_behind (GivesKeys opening again) at i) 0)
did_end says s s' m inc at read i called opening again valid c o r ordered e = by d.ends
  where
    d : IsDone m inc s.writer e.host e.newkeys e.written
    d = e.done

    k : NewKeys
    k = e.newkeys

    kept : FinishedExchange
    kept = record { names = k.names; hash = k.hash; session_id = k.session_id; keys = k.keys }

    made_is : kept ≡ d.made
    made_is = let a = d.newkeys.names_is in let b = d.newkeys.hash_is in let f = d.newkeys.session_is in let g =
        d.newkeys.keys_is in
        ap (λ (x : Names). record kept { names = x }) a ∙ ap
        (λ (x : List ℕ). record kept { names = d.made.names; hash = x }) b
        ∙ ap (λ (x : List ℕ). record kept { names = d.made.names; hash = d.made.hash; session_id = x }) f
        ∙ ap (λ (x : Keys). record d.made { keys = x }) g

    records_are : s'.finished.items ≡ s.finished.items ++ d.made ∷ []
    records_are = e.installs.2 ∙ ap (λ (x : FinishedExchange). s.finished.items ++ x ∷ []) made_is

    becomes : s' ≡ record s {
      writer = record e.written {
        sealing = sealing_of k.cipher.value.local_to_remote;
        count =
            0;
      };
      kex = Idle;
      finished = s'.finished;
    }
    becomes = e.installs.3

    again_is : again ≡ d.made.names.strict_kex
    again_is = e.installs.1 ∙ ap (λ (n : Names). n.strict_kex) d.newkeys.names_is

    opens_is : opening_of opening ≡ (outgoing (other_side s.side) d.made).sealing
    opens_is = ap opening_of e.installs.0 ∙ d.newkeys.opens
        ∙ ap (λ (x : Side). (outgoing (other_side x) d.made).sealing) (own_side s m o)

    seals_is : sealing_of k.cipher.value.local_to_remote ≡ (outgoing s.side d.made).sealing
    seals_is = d.newkeys.seals ∙ ap (λ (x : Side). (outgoing x d.made).sealing) (own_side s m o)

    by : (Finishes m.stage inc.payload.now d.exchange d.made e.host × (d.written ≡ []))
        ⊎ Skips m.setting m.stage inc.seqn inc.payload.now d.written d.exchange d.made e.host
        → Did says s (inside s m called at read) at i s'.writer
        (state_at s' (spot_behind (GivesKeys opening again) at i) 0)
    by (inr h) = absurd (skips_read m.setting m.stage inc.seqn inc.payload.now d.written d.exchange d.made e.host
        (subst (λ (x : Side). config_fault x m.setting.config ≡ None) (sym (own_side s m o))
        (subst (λ (x : Config). config_fault s.side x ≡ None) (sym (own_config s m o)) valid)) h)
    by (inl h) =
        let f = finish_stage m.stage inc.payload.now d.exchange d.made e.host h.0 in
        let quiet : e.written ≡ record s.writer { room = e.written.room } = subst
        (λ (ps : List (List ℕ)). PutsAll s.writer ps e.written) h.1 d.puts in
        let off : called ≡ false = called_off called m.stage d.exchange d.made e.host c f.1 in
        record {
          events = ExchangeFinished i d.made ∷ [];
          steps = (
            state_at s' (spot_behind (GivesKeys opening again) at i) 0,
            record {
              exchange = d.exchange;
              host = e.host;
              inside = ap Inside f.1;
              owes = refl;
              payload_is = sym r.payload_is ∙ f.0;
              trusted = e.trusted;
              admissible = r.admissible;
              ordered = ordered;
              becomes = ap (λ (x : Session). state_at x (spot_behind (GivesKeys opening again) at i) 0) becomes
                  ∙ ap (λ (xs : List FinishedExchange). ended s xs (after_exchanges xs)
                  (spot_behind (GivesKeys opening again) at i) (record
                  { sealing = sealing_of k.cipher.value.local_to_remote; number = e.written.number })) records_are
                  ∙ ap (λ (x : Where). ended s (s.finished.items ++ d.made ∷ []) x
                  (spot_behind (GivesKeys opening again) at i) (record
                  { sealing = sealing_of k.cipher.value.local_to_remote; number = e.written.number }))
                  (behind_records s.finished.items d.made)
                  ∙ ap (λ (x : Sealing). ended s (s.finished.items ++ d.made ∷ []) Outside
                  (spot_renumbered again (record { sealing = x; number = next_number at.number }))
                  (record { sealing = sealing_of k.cipher.value.local_to_remote; number = e.written.number }))
                  opens_is
                  ∙ ap (λ (x : Bool). ended s (s.finished.items ++ d.made ∷ []) Outside
                  (spot_renumbered x (record {
                    sealing = (outgoing (other_side s.side) d.made).sealing;
                    number =
                        next_number at.number;
                  })) (record {
                    sealing = sealing_of k.cipher.value.local_to_remote;
                    number =
                        e.written.number;
                  })) again_is
                  ∙ ap (λ (x : Sealing). ended s (s.finished.items ++ d.made ∷ []) Outside
                  (spot_installed (outgoing (other_side s.side) d.made) (spot_after at i))
                  (record { sealing = x; number = e.written.number })) seals_is
                  ∙ ap (λ (w : Writer). ended s (s.finished.items ++ d.made ∷ []) Outside
                  (spot_installed (outgoing (other_side s.side) d.made) (spot_after at i))
                  (record { sealing = (outgoing s.side d.made).sealing; number = w.number })) quiet
                  ∙ ap (λ (x : Bool). record (ended s (s.finished.items ++ d.made ∷ []) Outside
                  (spot_installed (outgoing (other_side s.side) d.made) (spot_after at i))
                  (record { sealing = (outgoing s.side d.made).sealing; number = s.writer.number })) { called = x })
                  (sym off);
            },
            refl,
          );
          output = ap (λ (x : Session). x.writer.output) becomes ∙ ap (λ (w : Writer). w.output) quiet
              ∙ sym (append-nil s.writer.output);
          bytes = append-nil (sealed_packet at.sealing at.number i);
          delivered = refl;
          input = no_input;
          silent = tt;
        }

-- ---- by what the machine answers

awaited_state : (says : Says) (s s' : Session) (m : Machine) (inc : Incoming) (at : Spot) (read : ℕ) (i : Item)
    (a : Awaits says s m inc s') → behind s a.next.stage a.reset a.written at read i ≡ state_at s' (spot_after at i)
    (count_after read (length i.payload))
awaited_state says s s' m inc at read i a = sym (ap (λ (x : Session). state_at x (spot_after at i)
    (count_after read (length i.payload))) a.becomes
    ∙ ap (λ (w : Writer). stated s s.held.items w (Inside a.next.stage) false (spot_after at i)
    (count_after read (length i.payload))) a.writer_is)

pub did_move : (says : Says) (s s' : Session) (m : Machine) (inc : Incoming) (at : Spot) (read : ℕ) (i : Item)
    (called : Bool) (answer : Outcome) → config_fault s.side s.config.now ≡ None → IsCalled called m.stage
    → is_kex_type (type_of i) ≡ true → IsOwn s m → IsReadAt at inc.seqn inc.payload.now i
    → OrderBy s.side at.number i s.finished.items (names_in_stage m.stage) → Moves says s m inc answer s'
    → Did says s (inside s m called at read) at i s'.writer
    (state_at s' (spot_behind answer at i) (read_behind answer read i)) × (delivered_by answer i ≡ [])
did_move says s s' m inc at read i called GivesPayload valid c kex o r ordered h = absurd h
did_move says s s' m inc at read i called GivesNothing valid c kex o r ordered h =
    let d = did_await says s m inc h.next h.reset h.written at read i called c kex o r ordered h.does in (
      record {
        events = d.events;
        steps = subst (λ (x : SideState). Steps says s.side s.config.now (id_text s.config.now.id)
            (inside s m called at read) d.events x) (awaited_state says s s' m inc at read i h) d.steps;
        output = ap (λ (w : Writer). w.output) h.writer_is ∙ d.output;
        bytes = d.bytes;
        delivered = d.delivered;
        input = d.input;
        silent = d.silent;
      },
      refl,
    )
did_move says s s' m inc at read i called (GivesKeys opening again) valid c kex o r ordered h =
    (did_end says s s' m inc at read i called opening again valid c o r ordered h, refl)
