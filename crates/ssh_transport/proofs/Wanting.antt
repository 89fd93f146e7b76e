-- Where memory is wanting while payloads are lent.
use Rattle.std.proofs.Common.{◌≡◌, ℕ, ◌+◌, ◌<◌, ◌≤◌, Bool, true, false, List, [], ◌∷◌, ◌++◌, length, Option, Some, None, Result, Ok, refl, sym, ap, ◌∙◌, subst, arith, append_assoc, append-nil, ◌⊎◌, inl, inr}
use Rattle.std.specs.Borrow.{Bor}
use Rattle.ssh_wire.specs.Lines as lines
use Rattle.ssh_wire.specs.Lines.{IdFound, id_of, id_text}
use Rattle.ssh_wire.specs.Reading.{IdReading, Waiting, Heard, Failed, still_allowed}
use Rattle.ssh_wire.specs.declared.error.Error.{Error}
use Rattle.ssh_wire.specs.declared.error.Error.TheVariants as errors
use Rattle.ssh_wire.specs.declared.side.Side.{Side}
use Rattle.ssh_packet.specs.Errors.{error_of, open_error}
use Rattle.ssh_packet.specs.Front as fronts
use Rattle.ssh_packet.specs.Front.{Fault}
use Rattle.ssh_packet.specs.Keys.{opening_of}
use Rattle.ssh_packet.specs.Reading.{LeavesNext}
use Rattle.ssh_packet.specs.Sealing.{Item, Sealing}
use Rattle.ssh_packet.specs.Writing.{count_after}
use Rattle.ssh_packet.specs.declared.error.OpenError.{OpenError}
use Rattle.ssh_packet.specs.declared.reader.Incoming.{Incoming}
use Rattle.ssh_kex.specs.Refusals.{Denies}
use Rattle.ssh_kex.specs.Setting.{Says}
use Rattle.ssh_kex.specs.declared.config.Config.{Config}
use Rattle.ssh_kex.specs.declared.exchange.ServerHost.{ServerHost}
use Rattle.ssh_rules.specs.Asking.{kex_count}
use Rattle.ssh_rules.specs.Log.{delivered_in, handled, read_bytes}
use Rattle.ssh_rules.specs.Machine.{Event, Outside, SideState, Steps}
use Rattle.ssh_rules.specs.MessageTypes.{is_kex_type, type_of}
use Rattle.ssh_rules.specs.Polling.{EndsLine, IsCostly, MayWant, WantsBehind}
use Rattle.ssh_rules.specs.Refusing.{RefusesPacket}
use Rattle.ssh_rules.specs.Standing.{HearsFrom, OfMemory, ReadsLineFrom, RefusalCause, lets_pass, line_with, nothing_said}
use Rattle.ssh_rules.proofs.Lemmas.{delivered_more, handled_more, kept_line, read_join, steps_join}
use Rattle.ssh_transport.specs.Handling.{IsHeard}
use Rattle.ssh_transport.specs.Hearing.{EndsBy}
use Rattle.ssh_transport.specs.Kept.{IsLive}
use Rattle.ssh_transport.specs.Saying.{GoesPart, IsFixed}
use Rattle.ssh_transport.specs.States.{emptied, heard_of, reading_spot, standing_of, stands_of, state_at}
use Rattle.ssh_transport.specs.Stopping.{Refuses, Stops, Wants, WantsKeys}
use Rattle.ssh_transport.specs.Taking.{HandlesOne, Hears, Reads, TakesUp, count_up}
use Rattle.ssh_transport.specs.declared.connection.Connection.{Connection}
use Rattle.ssh_transport.specs.declared.session.Disposition.{Disposition}
use Rattle.ssh_transport.specs.declared.session.Disposition.TheVariants.{Delivers, Done, Rekeys}
use Rattle.ssh_transport.specs.declared.session.Session.{Session}
use Rattle.ssh_transport.proofs.Hearing.{left_unheard}
use Rattle.ssh_transport.proofs.Inputs.{line_more}
use Rattle.ssh_transport.proofs.Saying.{unread_steps}
use Rattle.ssh_transport.proofs.Stopping.{stops_memory, stops_wanting}
use Rattle.ssh_transport.proofs.Taking.{items_of, nothing_more, silent_more, took_nothing}
use Rattle.ssh_transport.proofs.Weaker.{Weaker, steps_weaker}

-- ---- behind a packet

-- nothing that is held is left to be sealed
none_held : (c : Connection) (s : Session) → IsLive c → s ≡ c.session → stands_of s.finished.items s.kex ≡ Outside
    → s.held.items ≡ []
none_held c s live e o = ap (λ (x : Session). x.held.items) e
    ∙ (live.settled (reading_spot c)).sent (sym (ap (λ (x : Session). stands_of x.finished.items x.kex) e) ∙ o)

pub stops_polling : (says : Says) (denies : Denies) (untrusted : ServerHost → Type 0)
    (asked : RefusalCause → SideState → Type 0) (c c1 c2 : Connection) (s' : Session) (read : ℕ) (answer : Disposition)
    (error : Error) → IsLive c → HandlesOne says c answer c1 → IsFixed c.session c1.session
    → c1.session.line ≡ c.session.line → TakesUp answer c1 c2 → read ≡ c2.reader.count
    → (g : GoesPart c2.session read s') → ((stands_of c2.session.finished.items c2.session.kex ≡ Outside
    → c2.session.held.items ≡ []) → WantsKeys c2.session read s') → error ≡ errors.Memory
    → asked OfMemory (state_at g.mid (reading_spot c2) c2.reader.count)
    → (c1.session ≡ c.session → asked OfMemory (state_at c.session (reading_spot c) c.reader.count))
    → Stops says denies untrusted asked c error (record c2 { session = s' })
stops_polling says denies untrusted asked c c1 c2 s' read Delivers error live t fixed line u e g due m a b =
    let same : c2.session ≡ c.session = ap (λ (x : Connection). x.session) u.rest ∙ t.still refl in
    let w = due (none_held c c2.session live same) in
    stops_memory says denies untrusted asked c (record c2 { session = s' }) error m
    (w.still.output ∙ ap (λ (x : Session). x.writer.output) same)
    (ap (λ (x : Connection). x.delivered.items) u.rest ∙ items_of c1 c t.delivered)
    (w.still.records ∙ ap (λ (x : Session). x.finished.items) same) (b (t.still refl))
stops_polling says denies untrusted asked c c1 c2 s' read Done error live t fixed line u e g due m a b = stops_wanting
    says denies untrusted asked c c1 c2 s' read Done error live (took_nothing says c c1 Done t refl) fixed line u e g m
    a
stops_polling says denies untrusted asked c c1 c2 s' read (Rekeys again) error live t fixed line u e g due m a b
    = stops_wanting says denies untrusted asked c c1 c2 s' read (Rekeys again) error live
    (took_nothing says c c1 (Rekeys again) t refl) fixed line u e g m a

wants_here : (says : Says) (c : Connection) → IsCostly c.session.config.now
    (state_at c.session (reading_spot c) c.reader.count) c.reader.waiting → Wants says c
wants_here says c h = record {
  events = [];
  at = state_at c.session (reading_spot c) c.reader.count;
  steps = refl;
  silent = tt;
  unlent = refl;
  left = c.reader.waiting;
  bytes = refl;
  at_cost = inr h;
}

-- the count that reaches the limit is that behind the packet
count_reached : (limit : ℕ) (answer : Disposition) (n m k : ℕ) → k ≡ count_up answer m → n < limit → limit ≤ k
    → limit ≤ m
count_reached limit Delivers n m k e b r = omega (arith, e, r)
count_reached limit Done n m k e b r = omega (arith, e, r)
count_reached limit (Rekeys again) n m k e b r = absurd (omega (arith, e, b, r))

pub wants_polling : (says : Says) (c c1 c2 : Connection) (s' : Session) (read : ℕ) (answer : Disposition) → IsLive c
    → HandlesOne says c answer c1 → TakesUp answer c1 c2 → read ≡ c2.reader.count
    → ((stands_of c2.session.finished.items c2.session.kex ≡ Outside → c2.session.held.items ≡ [])
    → WantsKeys c2.session read s') → Wants says c
wants_polling says c c1 c2 s' read answer live t u e due = by (is_kex_type (type_of t.item)) refl
  where
    at_limit : c1.session ≡ c.session → IsCostly c.session.config.now
        (state_at c.session (reading_spot c) c.reader.count) c.reader.waiting
    at_limit f =
        let same : c2.session ≡ c.session = ap (λ (x : Connection). x.session) u.rest ∙ f in
        let w = due (none_held c c2.session live same) in
        let out : stands_of c.session.finished.items c.session.kex ≡ Outside = sym
        (ap (λ (x : Session). stands_of x.finished.items x.kex) same) ∙ w.outside in
        let quiet = live.settled (reading_spot c) in
        record {
          item = t.item;
          rest = c1.reader.waiting;
          next = t.front;
          costs = inr (out, reached same out (quiet.below_write out) (quiet.below_read out) w.reached);
        }
      where
        reached : c2.session ≡ c.session → stands_of c.session.finished.items c.session.kex ≡ Outside
            → c.session.writer.count < c.session.config.now.limits.rekey_write_limit
            → c.reader.count < c.session.config.now.limits.rekey_read_limit
            → (c2.session.config.now.limits.rekey_write_limit ≤ c2.session.writer.count)
            ⊎ (c2.session.config.now.limits.rekey_read_limit ≤ read)
            → c.session.config.now.limits.rekey_read_limit ≤ count_after c.reader.count (length t.item.payload)
        reached same out below_write below_read (inl h) =
            let l : c.session.config.now.limits.rekey_write_limit ≤ c.session.writer.count = subst
            (λ (x : Session). x.config.now.limits.rekey_write_limit ≤ x.writer.count) same h in
            absurd (omega (arith, l, below_write))
        reached same out below_write below_read (inr h) =
            let l : c.session.config.now.limits.rekey_read_limit ≤ read = subst
            (λ (x : Session). x.config.now.limits.rekey_read_limit ≤ read) same h in
            subst (λ (n : ℕ). c.session.config.now.limits.rekey_read_limit ≤ n) t.count
            (count_reached c.session.config.now.limits.rekey_read_limit answer c.reader.count c1.reader.count read
            (e ∙ u.count) below_read l)

    by : (kex : Bool) → is_kex_type (type_of t.item) ≡ kex → Wants says c
    by true k = wants_here says c (record { item = t.item; rest = c1.reader.waiting; next = t.front; costs = inl k })
    by false k = wants_here says c (at_limit (t.others k))

-- ---- a packet that is refused for it

costly_refused : (says : Says) (denies : Denies) (untrusted : ServerHost → Type 0) (side : Side) (config : Config)
    (st : SideState) (i : Item) (error : Error) → error ≡ errors.Memory
    → RefusesPacket says denies untrusted side config st i error → is_kex_type (type_of i) ≡ true
costly_refused says denies untrusted side config st i error m (inl h) = absurd
    (let e : errors.Memory ≡ errors.Disconnect = sym m ∙ h.error_is in cc)
costly_refused says denies untrusted side config st i error m (inr (inl h)) = absurd (let e = sym m ∙ h.error_is in cc)
costly_refused says denies untrusted side config st i error m (inr (inr (inl h))) = h.is_kex
costly_refused says denies untrusted side config st i error m (inr (inr (inr (inl h)))) = absurd
    (let e : errors.Memory ≡ errors.UnknownKey = sym m ∙ h.error_is in cc)
costly_refused says denies untrusted side config st i error m (inr (inr (inr (inr h)))) = absurd
    (let e : errors.Memory ≡ errors.Inconsistent = sym m ∙ h.error_is in cc)

no_fault : (fault : Fault) → error_of (open_error fault) ≡ errors.Memory → ⊥
no_fault (fronts.PacketSize n) e = cc
no_fault fronts.PacketAuth e = cc
no_fault fronts.DecryptionError e = cc
no_fault fronts.IndexOutOfBounds e = cc

pub no_memory : (o : OpenError) → error_of o ≡ errors.Memory → ⊥
no_memory (Rattle.ssh_packet.specs.declared.error.OpenError.TheVariants.PacketSize n) e = cc
no_memory Rattle.ssh_packet.specs.declared.error.OpenError.TheVariants.IndexOutOfBounds e = cc
no_memory Rattle.ssh_packet.specs.declared.error.OpenError.TheVariants.PacketAuth e = cc
no_memory Rattle.ssh_packet.specs.declared.error.OpenError.TheVariants.DecryptionError e = cc
no_memory Rattle.ssh_packet.specs.declared.error.OpenError.TheVariants.Disconnect e = cc

pub wants_packet : (says : Says) (denies : Denies) (untrusted : ServerHost → Type 0) (c : Connection)
    (result : Result (Option Incoming) OpenError) (o : Option Incoming) (incoming : Incoming) (error : Error)
    (key' : Sealing) (r' : Rattle.ssh_packet.specs.Reading.Reader) → IsLive c
    → LeavesNext c.reader (opening_of c.opening) key' result r' → result ≡ Ok o → o ≡ Some incoming
    → Refuses says denies untrusted c.session incoming.seqn incoming.payload.now error → error ≡ errors.Memory
    → Wants says c
wants_packet says denies untrusted c result o incoming error key' r' live l e f h m = wants_here says c (record {
  item = k.0;
  rest = r'.waiting;
  next = (k.1).front;
  costs = inl (costly_refused says denies untrusted c.session.side c.session.config.now
      (state_at c.session (reading_spot c) c.reader.count) k.0 error m
      (h (reading_spot c) c.reader.count k.0 (record {
        small = live.numbered;
        seqn_is = (k.1).seqn;
        payload_is =
            (k.1).payload;
        admissible = (k.1).admissible;
      })));
}) where
  k : LeavesNext c.reader (opening_of c.opening) key' (Ok (Some incoming)) r'
  k = subst (λ (x : Option Incoming). LeavesNext c.reader (opening_of c.opening) key' (Ok x) r') f
      (subst (λ (r : Result (Option Incoming) OpenError). LeavesNext c.reader (opening_of c.opening) key' r r') e l)

-- ---- behind packets that were read

count_join : (a b : List Item) → kex_count (a ++ b) ≡ kex_count a + kex_count b
count_join [] b = omega arith
count_join (i ∷ a) b = let r = count_join a b in omega (arith, r)

costs_behind : (a b : List Event) (config : Config) (at : SideState) (left : List ℕ)
    → (1 ≤ kex_count (handled b)) ⊎ IsCostly config at left
    → (1 ≤ kex_count (handled (a ++ b))) ⊎ IsCostly config at left
costs_behind a b config at left (inl n) = inl (let e = ap kex_count (handled_more a b) in let f = count_join (handled a)
    (handled b) in omega (arith, e, f, n))
costs_behind a b config at left (inr h) = inr h

wants_behind : (says : Says) (c mid : Connection) → Reads says c mid → mid.delivered ≡ c.delivered → Wants says mid
    → Wants says c
wants_behind says c mid h d k = record {
  events = h.events ++ k.events;
  at = k.at;
  steps = steps_join says c.session.side c.session.config.now (id_text c.session.config.now.id) h.events k.events
      (state_at c.session (reading_spot c) c.reader.count) (state_at mid.session (reading_spot mid) mid.reader.count)
      k.at h.steps
      (subst (λ (x : Side). Steps says x c.session.config.now (id_text c.session.config.now.id)
      (state_at mid.session (reading_spot mid) mid.reader.count) k.events k.at) h.side
      (subst (λ (x : Bor Config). Steps says mid.session.side x.now (id_text x.now.id)
      (state_at mid.session (reading_spot mid) mid.reader.count) k.events k.at) h.config k.steps));
  silent = silent_more h.events k.events h.silent k.silent;
  unlent = delivered_more h.events k.events ∙ ap (λ (x : List (List ℕ)). x ++ delivered_in k.events)
      (nothing_more c.delivered.items (delivered_in h.events) (sym (items_of mid c d) ∙ h.delivered)) ∙ k.unlent;
  left = k.left;
  bytes = h.bytes ∙ ap (λ (t : List ℕ). read_bytes c.session.side (reading_spot c) h.events ++ t)
      (k.bytes ∙ ap (λ (x : Side). read_bytes x (reading_spot mid) k.events ++ k.left) h.side)
      ∙ sym (append_assoc (read_bytes c.session.side (reading_spot c) h.events)
      (read_bytes c.session.side (reading_spot mid) k.events) k.left)
      ∙ ap (λ (t : List ℕ). t ++ k.left) (sym (read_join says c.session.side c.session.config.now
      (id_text c.session.config.now.id) h.events k.events (state_at c.session (reading_spot c) c.reader.count)
      (state_at mid.session (reading_spot mid) mid.reader.count) h.steps));
  at_cost = costs_behind h.events k.events c.session.config.now k.at k.left
      (subst (λ (x : Bor Config). (1 ≤ kex_count (handled k.events)) ⊎ IsCostly x.now k.at k.left) h.config k.at_cost);
}

wants_weaker : (a b : Says) → Weaker a b → (c : Connection) → Wants a c → Wants b c
wants_weaker a b w c h = record {
  events = h.events;
  at = h.at;
  steps = steps_weaker a b w c.session.side
      c.session.config.now (id_text c.session.config.now.id) h.events (state_at c.session (reading_spot c) c.reader.count)
      h.at h.steps;
  silent = h.silent;
  unlent = h.unlent;
  left = h.left;
  bytes = h.bytes;
  at_cost = h.at_cost;
}

pub wants_after : (says later : Config → Says) → ((x : Config) → Weaker (later x) (says x)) → (c mid : Connection)
    → mid.session.config ≡ c.session.config → Reads (says c.session.config.now) c mid → mid.delivered ≡ c.delivered
    → Wants (later mid.session.config.now) mid → Wants (says c.session.config.now) c
wants_after says later w c mid e h d k = wants_behind (says c.session.config.now) c mid h d
    (wants_weaker (later c.session.config.now) (says c.session.config.now) (w c.session.config.now) mid
    (subst (λ (b : Bor Config). Wants (later b.now) mid) e k))

-- ---- behind the line, or at its end

ends_with : (side : Side) (line : IdReading) (waiting : List ℕ) → EndsBy side line waiting
    → EndsLine side (line_with line waiting)
ends_with side (Waiting bytes others) waiting h = h
ends_with side (Heard text) waiting h = absurd h
ends_with side Failed waiting h = absurd h

pub may_end : (says : Says) (c : Connection) → EndsBy c.session.side c.session.line c.reader.waiting
    → MayWant says (standing_of c)
may_end says c h = inl (ends_with c.session.side c.session.line c.reader.waiting h)

found_end : (side : Side) (found : IdFound) (bytes : List ℕ) (others : ℕ) (events : List Event) (new : IdReading)
    (behind : List ℕ) → IsHeard new → HearsFrom side found bytes others events new behind
    → (text : List ℕ) × (end : ℕ) × (found ≡ lines.Id text end)
found_end side lines.NotYet bytes others events new behind i h = absurd
    (let e : None ≡ Some i.0 = sym (left_unheard (still_allowed (lets_pass side) others) bytes others)
    ∙ ap heard_of (sym h.1 ∙ i.1) in cc)
found_end side (lines.Id text end) bytes others events new behind i h = (text, end, refl)
found_end side lines.Version bytes others events new behind i h = absurd h

reads_end : (side : Side) (line : IdReading) (waiting : List ℕ) (events : List Event) (new : IdReading)
    (behind : List ℕ) → IsHeard new → ReadsLineFrom side line [] waiting events new behind
    → EndsBy side line waiting ⊎ IsHeard line
reads_end side (Waiting bytes others) waiting events new behind i h = inl
    (found_end side (id_of (still_allowed (lets_pass side) others) (bytes ++ waiting)) (bytes ++ waiting) others events
    new behind i h)
reads_end side (Heard text) waiting events new behind i h = inr (text, refl)
reads_end side Failed waiting events new behind i h = absurd h

wants_heard : (says : Says) (c mid : Connection) (h : Hears (emptied c) c.reader.waiting mid) → IsHeard mid.session.line
    → mid.delivered ≡ c.delivered → Wants says mid → WantsBehind says (standing_of c)
wants_heard says c mid h i d k = record {
  events = h.events ++ k.events;
  at = k.at;
  left = k.left;
  handles = record {
    steps = steps_join says c.session.side c.session.config.now (id_text c.session.config.now.id) h.events k.events
        (state_at c.session (reading_spot c) c.reader.count) (state_at mid.session (reading_spot mid) mid.reader.count)
        k.at first moved;
    behind = mid.reader.waiting;
    line = mid.session.line;
    heard = kept_line c.session.side c.session.line [] c.reader.waiting [] (h.events ++ k.events) mid.session.line
        mid.reader.waiting
        (subst (λ (b : List ℕ). ReadsLineFrom c.session.side c.session.line [] b (h.events ++ k.events) mid.session.line
        mid.reader.waiting) (sym (append-nil c.reader.waiting))
        (line_more c.session.side c.session.line [] c.reader.waiting h.events k.events mid.session.line
        mid.reader.waiting k.silent (inl i) h.line));
    read = k.bytes ∙ ap (λ (x : Side). read_bytes x (reading_spot mid) k.events ++ k.left) h.side
        ∙ ap (λ (b : List ℕ). b ++ k.left) (sym (read_join says c.session.side c.session.config.now
        (id_text c.session.config.now.id) h.events k.events (state_at c.session (reading_spot c) c.reader.count)
        (state_at mid.session (reading_spot mid) mid.reader.count) first
        ∙ ap (λ (b : List ℕ). b ++ read_bytes c.session.side (reading_spot mid) k.events) (h.bytes (reading_spot c))));
  };
  unlent = delivered_more h.events k.events ∙ ap (λ (x : List (List ℕ)). x ++ delivered_in k.events)
      (nothing_more c.delivered.items (delivered_in h.events) (sym (items_of mid c d) ∙ h.delivered)) ∙ k.unlent;
  at_cost = costs_behind h.events k.events c.session.config.now k.at k.left
      (subst (λ (x : Bor Config). (1 ≤ kex_count (handled k.events)) ⊎ IsCostly x.now k.at k.left) h.config k.at_cost);
} where
  first : Steps says c.session.side c.session.config.now (id_text c.session.config.now.id)
      (state_at c.session (reading_spot c) c.reader.count) h.events
      (state_at mid.session (reading_spot mid) mid.reader.count)
  first = unread_steps nothing_said says c.session.side c.session.config.now (id_text c.session.config.now.id) h.events
      (state_at c.session (reading_spot c) c.reader.count) (state_at mid.session (reading_spot mid) mid.reader.count)
      h.unread h.steps

  moved : Steps says c.session.side c.session.config.now (id_text c.session.config.now.id)
      (state_at mid.session (reading_spot mid) mid.reader.count) k.events k.at
  moved = subst (λ (x : Side). Steps says x c.session.config.now (id_text c.session.config.now.id)
      (state_at mid.session (reading_spot mid) mid.reader.count) k.events k.at) h.side
      (subst (λ (b : Bor Config). Steps says mid.session.side b.now (id_text b.now.id)
      (state_at mid.session (reading_spot mid) mid.reader.count) k.events k.at) h.config k.steps)

pub may_want : (says : Config → Says) (c mid : Connection) → Hears (emptied c) c.reader.waiting mid
    → IsHeard mid.session.line → mid.delivered ≡ c.delivered → Wants (says mid.session.config.now) mid
    → MayWant (says c.session.config.now) (standing_of c)
may_want says c mid h i d k = by (reads_end c.session.side c.session.line c.reader.waiting h.events mid.session.line
    mid.reader.waiting i h.line)
  where
    by : EndsBy c.session.side c.session.line c.reader.waiting ⊎ IsHeard c.session.line
        → MayWant (says c.session.config.now) (standing_of c)
    by (inl e) = may_end (says c.session.config.now) c e
    by (inr j) = inr (wants_heard (says c.session.config.now) c mid h i d
        (subst (λ (b : Bor Config). Wants (says b.now) mid) h.config k))
