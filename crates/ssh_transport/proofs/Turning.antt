-- A piece that goes through the window.
use Rattle.std.proofs.Common.{◌≡◌, ◌⊎◌, ℕ, ◌+◌, ◌-◌, ◌<◌, ◌≤◌, Bool, true, false, List, [], ◌++◌, length, take, drop, Result, Ok, Err, inl, inr, refl, sym, ap, ◌∙◌, subst, arith, append_assoc, append-nil}
use Rattle.std.proofs.Math.Seq.{take-length}
use Rattle.std.proofs.lemmas.List.{drop-drop, drop_all, length-drop, take-append-drop}
use Rattle.std.specs.Borrow.{Bor}
use Rattle.rand_core.specs.declared.Rng as rng
use Rattle.ssh_wire.specs.Lines.{id_text}
use Rattle.ssh_wire.specs.Reading.{IdReading, waiting_length}
use Rattle.ssh_wire.specs.declared.error.Error.{Error}
use Rattle.ssh_packet.specs.Reading.{Reader, window_length, room_in}
use Rattle.ssh_kex.specs.Members.{AgreementMembers, GroupLookupMembers, HostKeysMembers}
use Rattle.ssh_kex.specs.Refusals.{Denies}
use Rattle.ssh_kex.specs.Setting.{Says}
use Rattle.ssh_kex.specs.Stepping.{says_of}
use Rattle.ssh_kex.specs.declared.config.Config.{Config}
use Rattle.ssh_kex.specs.declared.exchange.ServerHost.{ServerHost}
use Rattle.ssh_kex.specs.declared.parts.Parts.{Parts}
use Rattle.ssh_rules.specs.Log.{read_bytes}
use Rattle.ssh_rules.specs.Machine.{SideState, Steps}
use Rattle.ssh_rules.specs.Standing.{RefusalCause, WaitsInPart}
use Rattle.ssh_transport.specs.Asking.{AsksTo}
use Rattle.ssh_transport.specs.Calls.{FailsTaking, HasRoom, PartsCall, ReadsWaiting, StopsReading, TakesKept, TakesWholePiece, TookInput, call_of}
use Rattle.ssh_transport.specs.Drawing.{DrawsFirst}
use Rattle.ssh_transport.specs.Handling.{IsHeard}
use Rattle.ssh_transport.specs.Kept.{IsKept, IsLive}
use Rattle.ssh_transport.specs.Saying.{IsFixedIn}
use Rattle.ssh_transport.specs.Sending.{MadeBy, ServesBetween}
use Rattle.ssh_transport.specs.States.{WaitsBehind, emptied, reading_spot, standing_of, state_at, with_more}
use Rattle.ssh_transport.specs.Stopping.{Fails, Stops}
use Rattle.ssh_transport.specs.Taking.{Hears, Reads, Takes}
use Rattle.ssh_transport.specs.declared.connection.Connection.{Connection}
use Rattle.ssh_transport.proofs.Advancing.{answered, keeps_join}
use Rattle.ssh_transport.proofs.Asking.{to_later}
use Rattle.ssh_transport.proofs.Denying.{kept_denying, kept_untrusting}
use Rattle.ssh_transport.proofs.Drawing.{first_behind, first_kept}
use Rattle.ssh_transport.proofs.Failing.{fails_read}
use Rattle.ssh_transport.proofs.Heard.{all_kept, hears_all, hears_behind, hears_kept}
use Rattle.ssh_transport.proofs.Inputs.{part_short}
use Rattle.ssh_transport.proofs.Kept.{emptied_same, more_taken}
use Rattle.ssh_transport.proofs.Serving.{serves_join}
use Rattle.ssh_transport.proofs.Stopping.{stops_after, stops_more}
use Rattle.ssh_transport.proofs.Taking.{reads_after, reads_more}
use Rattle.ssh_transport.proofs.Weaker.{Weaker, kept_weaker}

-- what is cut out behind n bytes
pub slice_behind : (n : ℕ) (piece : List ℕ) → take (length piece - n) (drop n piece) ≡ drop n piece
slice_behind n piece = ap (λ (k : ℕ). take k (drop n piece)) (sym (length-drop n piece)) ∙ take-length (drop n piece)

turn_taken : (r r' : Reader) (piece slice : List ℕ) (taken n spent : ℕ) → slice ≡ drop taken piece
    → r' ≡ record r { waiting = r.waiting ++ take n slice; handed = []; spent = spent }
    → r' ≡ record r { waiting = r.waiting ++ take n (drop taken piece); handed = []; spent = spent }
turn_taken r r' piece slice taken n spent s e = e ∙ ap
    (λ (b : List ℕ). record r { waiting = r.waiting ++ take n b; handed = []; spent = spent }) s

turn_within : (r : Reader) (piece slice : List ℕ) (taken n : ℕ) → slice ≡ drop taken piece
    → n ≡ room_in r (length slice) → taken ≤ length piece → taken + n ≤ length piece
turn_within r piece slice taken n s e w = let a : length slice ≡ length piece - taken = ap length s
    ∙ length-drop taken piece in omega (arith, a, e, w)

pub turn_smaller : (c : Connection) (piece slice : List ℕ) (taken n : ℕ) → slice ≡ drop taken piece
    → n ≡ room_in c.reader (length slice) → WaitsInPart (reading_spot c) c.reader.waiting
    → c.reader.window ≡ window_length → taken < length piece → length piece - (taken + n) < length piece - taken
turn_smaller c piece slice taken n s e part window more =
    let a : length slice ≡ length piece - taken = ap length s ∙ length-drop taken piece in
    let b = part_short (reading_spot c) c.reader.waiting part in
    omega (arith, a, e, b, window, more)

reads_turn : (says later : Config → Says) → ((x : Config) → Weaker (later x) (says x))
    → (mid self c3 : Connection) (r : Reader) (piece : List ℕ) (taken n spent : ℕ)
    → self.session.config ≡ mid.session.config → r ≡ record self.reader
    { waiting = self.reader.waiting ++ take n (drop taken piece); handed = []; spent = spent }
    → Reads (says mid.session.config.now) mid (with_more self (drop taken piece))
    → Reads (later self.session.config.now) (record self { reader = r }) c3
    → Reads (says mid.session.config.now) mid (with_more c3 (drop (taken + n) piece))
reads_turn says later w mid self c3 r piece taken n spent fixed f h k =
    subst (λ (b : List ℕ). Reads (says mid.session.config.now) mid (with_more c3 b)) (drop-drop n taken piece)
    (reads_after says later w mid (with_more self (drop taken piece)) (with_more c3 (drop n (drop taken piece))) fixed h
    (subst (λ (x : Connection). Reads (later x.session.config.now) x (with_more c3 (drop n (drop taken piece))))
    (more_taken self (record self { reader = r }) (drop taken piece) [] n spent refl f)
    (reads_more (later self.session.config.now) (record self { reader = r }) c3 (drop n (drop taken piece)) k)))

stops_turn : (says : Config → Says) (denies : Denies) (untrusted : ServerHost → Type 0)
    (asked : RefusalCause → SideState → Type 0) (self c2 c' : Connection) (piece : List ℕ) (taken n spent : ℕ)
    (error : Error) → c2 ≡ record self { reader = c2.reader }
    → c2.reader ≡ record self.reader {
      waiting = self.reader.waiting ++ take n (drop taken piece);
      handed = [];
      spent =
          spent;
    } → Stops (says c2.session.config.now) denies untrusted asked c2 error c'
    → Stops (says self.session.config.now) denies untrusted asked (with_more self (drop taken piece)) error c'
stops_turn says denies untrusted asked self c2 c' piece taken n spent error e f h =
    subst (λ (x : Connection). Stops (says x.session.config.now) denies untrusted asked x error c')
    (more_taken self c2 (drop taken piece) [] n spent e f)
    (stops_more (says c2.session.config.now) denies untrusted asked c2 c' (drop n (drop taken piece)) error h)

-- ---- turn by turn

-- So many bytes of a piece were taken behind what had been kept, and handled up to a part of a packet.
pub record TakesTo (p : PartsCall) (c : Connection) (piece : List ℕ) (taken : ℕ) (c' : Connection) : Type 0 where
  pub live : IsLive c'
  pub kept : IsKept c'
  pub settled : WaitsBehind c'.session.line c'.reader.waiting
  pub fixed : IsFixedIn c c'
  pub keeps : p.keeps
  pub serves : ServesBetween p.draws c.session c'.session p.before p.after p.stream p.left
  pub drawn : DrawsFirst (true ≡ true) (standing_of c) (standing_of c') p.stream p.left
  pub within : taken ≤ length piece
  pub mid : Connection
  pub heard : Hears (emptied c) (c.reader.waiting ++ piece) mid
  pub reads : Reads (p.says mid.session.config.now) mid (with_more c' (drop taken piece))
  pub line : IsHeard mid.session.line ⊎ ((reads.events ≡ []) × (taken ≡ length piece))
  pub part : WaitsInPart (reading_spot c') c'.reader.waiting

-- what was read of bytes behind which there are more
read_wider : (says : Config → Says) (c : Connection) (mid c' : Connection) (more : List ℕ)
    → mid.session.config ≡ c.session.config → Reads (says c.session.config.now) mid c'
    → Reads (says mid.session.config.now) (with_more mid more) (with_more c' more)
read_wider says c mid c' more e h = reads_more (says mid.session.config.now) mid c' more
    (subst (λ (b : Bor Config). Reads (says b.now) mid c') (sym e) h)

-- the first bytes, as many as there was room for
begin_heard : (p : PartsCall) (c : Connection) (r : Reader) (piece : List ℕ) (n spent : ℕ) (c1 : Connection)
    → r ≡ record c.reader { waiting = c.reader.waiting ++ take n piece; handed = []; spent = spent } → n ≤ length piece
    → (t : TookInput p (record c { reader = r }) c1 (Takes (p.says c.session.config.now)
    (emptied (record c { reader = r })) r.waiting c1 × HasRoom (record c { reader = r }) c1))
    → IsHeard t.takes.0.mid.session.line → TakesTo p c piece n c1
begin_heard p c r piece n spent c1 f w t i = record {
  live = t.live;
  kept = t.within;
  settled = t.settled;
  fixed = t.fixed;
  keeps = t.keeps;
  serves = t.serves;
  drawn = first_kept (true ≡ true) c r (standing_of c1) p.stream p.left t.drawn;
  within = w;
  mid = with_more t.takes.0.mid (drop n piece);
  heard = hears_kept c (record c { reader = r }) (with_more t.takes.0.mid (drop n piece)) piece [] n spent refl f
      (hears_behind (emptied (record c { reader = r })) t.takes.0.mid r.waiting (drop n piece) t.takes.0.heard i);
  reads = read_wider p.says c t.takes.0.mid c1 (drop n piece) t.takes.0.heard.config t.takes.0.reads;
  line = inl i;
  part = t.takes.0.part;
}

-- all of it, before the end of the line
begin_whole : (p : PartsCall) (c : Connection) (r : Reader) (piece : List ℕ) (n spent : ℕ) (c1 : Connection)
    → r ≡ record c.reader { waiting = c.reader.waiting ++ take n piece; handed = []; spent = spent } → n ≡ length piece
    → (t : TookInput p (record c { reader = r }) c1 (Takes (p.says c.session.config.now)
    (emptied (record c { reader = r })) r.waiting c1 × HasRoom (record c { reader = r }) c1))
    → t.takes.0.reads.events ≡ [] → TakesTo p c piece n c1
begin_whole p c r piece n spent c1 f all t none = record {
  live = t.live;
  kept = t.within;
  settled = t.settled;
  fixed = t.fixed;
  keeps = t.keeps;
  serves = t.serves;
  drawn = first_kept (true ≡ true) c r (standing_of c1) p.stream p.left t.drawn;
  within = omega (arith, all);
  mid = mid;
  heard = hears_all c (record c { reader = r }) mid piece [] n spent refl f all t.takes.0.heard;
  reads = record {
    events = k.events;
    side = k.side;
    config = k.config;
    line = k.line;
    steps = subst (λ (b : Bor Config). Steps (p.says b.now) mid.session.side mid.session.config.now
        (id_text mid.session.config.now.id) (state_at mid.session (reading_spot mid) mid.reader.count) k.events
        (state_at c1.session (reading_spot c1) c1.reader.count)) (sym t.takes.0.heard.config) k.steps;
    output = k.output;
    bytes = k.bytes ∙ ap (λ (b : List ℕ). read_bytes mid.session.side (reading_spot mid) k.events ++ b)
        (sym (append-nil c1.reader.waiting) ∙ ap (λ (b : List ℕ). c1.reader.waiting ++ b)
        (sym (drop_all n piece (omega (arith, all)))));
    delivered = k.delivered;
    input = k.input;
    silent = k.silent;
  };
  line = inr (none, all);
  part = t.takes.0.part;
} where
  mid : Connection
  mid = t.takes.0.mid

  k : Reads (p.says c.session.config.now) t.takes.0.mid c1
  k = t.takes.0.reads

pub turns_begin : (p : PartsCall) (c k : Connection) (piece : List ℕ) (n spent : ℕ) (lends : Bool) (c1 : Connection)
    → k ≡ record c { reader = k.reader } → k.reader ≡ record c.reader
    { waiting = c.reader.waiting ++ take n piece; handed = []; spent = spent } → n ≤ length piece
    → (n + waiting_length c.session.line + length c.reader.waiting < window_length → n ≡ length piece)
    → TakesKept true p k (Ok lends) c1 → TakesTo p c piece n c1
turns_begin p c k piece n spent lends c1 e f w all h = by lends
    (subst (λ (x : Connection). TakesKept true p x (Ok lends) c1) e h)
  where
    by : (l : Bool) → TakesKept true p (record c { reader = k.reader }) (Ok l) c1 → TakesTo p c piece n c1
    by true t = absurd t.takes
    by false t = elim t.takes.0.line [
      | inl i ↦ begin_heard p c k.reader piece n spent c1 f w t i
      | inr none ↦ elim t.takes.1 [
        | inl i ↦ begin_heard p c k.reader piece n spent c1 f w t (subst IsHeard t.takes.0.reads.line i)
        | inr few ↦ begin_whole p c k.reader piece n spent c1 f
            (all_kept c (record c { reader = k.reader }) piece [] n spent refl f w all few) t none
      ]
    ]

-- where more is to be taken, the line was read
mid_heard : (p : PartsCall) (c : Connection) (piece : List ℕ) (taken : ℕ) (c' : Connection) → taken < length piece
    → (t : TakesTo p c piece taken c') → IsHeard t.mid.session.line
mid_heard p c piece taken c' more t = elim t.line [
  | inl i ↦ i
  | inr k ↦ absurd (let e = k.1 in omega (arith, e, more))
]

pub turn_heard : (p : PartsCall) (c : Connection) (piece : List ℕ) (taken : ℕ) (c' : Connection) → taken < length piece
    → TakesTo p c piece taken c' → IsHeard c'.session.line
turn_heard p c piece taken c' more t = subst IsHeard (sym t.reads.line) (mid_heard p c piece taken c' more t)

pub turns_on : {A H G R : Type 0} (ma : AgreementMembers A) (mh : HostKeysMembers H) (mg : GroupLookupMembers G)
    (mr : rng.Ghosts R) (a b d : Parts A H G R)
    (c self : Connection) (r : Reader) (c3 : Connection) (piece slice : List ℕ) (taken n spent : ℕ) (lends : Bool)
    → taken < length piece → slice ≡ drop taken piece → n ≡ room_in self.reader (length slice)
    → r ≡ record self.reader { waiting = self.reader.waiting ++ take n slice; handed = []; spent = spent }
    → TakesTo (call_of ma mh mg mr a b) c piece taken self
    → ReadsWaiting true (call_of ma mh mg mr b d) (record self { reader = r }) (Ok lends) c3
    → TakesTo (call_of ma mh mg mr a d) c piece (taken + n) c3
turns_on ma mh mg mr a b d c self r c3 piece slice taken n spent true more s fits f t h = absurd h.reads
turns_on ma mh mg mr a b d c self r c3 piece slice taken n spent false more s fits f t h = record {
  live = h.live;
  kept = record {
    begins = h.live.begins;
    heeds = h.live.heeds;
    within = (let none : waiting_length c3.session.line ≡ 0 = ap waiting_length i.1 in let few = part_short
        (reading_spot c3) c3.reader.waiting h.reads.1 in omega (arith, none, few));
    live = λ _. h.live;
  };
  settled = subst (λ (l : IdReading). WaitsBehind l c3.reader.waiting) (sym i.1) tt;
  fixed = ((h.fixed.0.0 ∙ t.fixed.0.0, h.fixed.0.1 ∙ t.fixed.0.1), h.fixed.1 ∙ t.fixed.1);
  keeps = keeps_join ma mh mg mr a b d t.keeps h.keeps;
  serves = serves_join (MadeBy ma.client_draws ma.server_draws) c.session self.session c3.session _ _ _ _ _ _ t.fixed.0
      t.serves h.serves;
  drawn = first_behind (true ≡ true) c self c3 _ _ _ _ t.drawn t.live (turn_heard _ c piece taken self more t)
      h.reads.0.output;
  within = turn_within self.reader piece slice taken n s fits t.within;
  mid = t.mid;
  heard = t.heard;
  reads = reads_turn (λ (x : Config). says_of ma mh mg x a.agreement a.hosts a.groups)
      (λ (x : Config). says_of ma mh mg x b.agreement b.hosts b.groups)
      (λ (x : Config). kept_weaker ma mh mg _ _ _ _ _ _ _ t.keeps.agreement t.keeps.hosts t.keeps.groups) t.mid self c3
      r piece taken n spent t.reads.config (turn_taken self.reader r piece slice taken n spent s f) t.reads
      h.reads.0;
  line = inl (mid_heard _ c piece taken self more t);
  part = h.reads.1;
} where
  i : IsHeard c3.session.line
  i = subst IsHeard (sym h.line) (turn_heard _ c piece taken self more t)

-- ---- its end

pub turns_end : (p : PartsCall) (c : Connection) (piece : List ℕ) (taken : ℕ) (c' : Connection) → length piece ≤ taken
    → TakesTo p c piece taken c' → TakesWholePiece p c piece (Ok tt) c'
turns_end p c piece taken c' all t = record {
  live = t.live;
  within = t.kept;
  settled = t.settled;
  fixed = t.fixed;
  keeps = t.keeps;
  serves = t.serves;
  drawn = t.drawn;
  takes = record {
    mid = t.mid;
    heard = t.heard;
    reads = record {
      events = k.events;
      side = k.side;
      config = k.config;
      line = k.line;
      steps = subst (λ (b : Bor Config). Steps (p.says b.now) t.mid.session.side t.mid.session.config.now
          (id_text t.mid.session.config.now.id) (state_at t.mid.session (reading_spot t.mid) t.mid.reader.count)
          k.events (state_at c'.session (reading_spot c') c'.reader.count)) t.heard.config k.steps;
      output = k.output;
      bytes = k.bytes ∙ ap (λ (b : List ℕ). read_bytes t.mid.session.side (reading_spot t.mid) k.events ++ b)
          (ap (λ (b : List ℕ). c'.reader.waiting ++ b) (drop_all taken piece all) ∙ append-nil c'.reader.waiting);
      delivered = k.delivered;
      input = k.input;
      silent = k.silent;
    };
    line = elim t.line [
      | inl i ↦ inl i
      | inr n ↦ inr n.0
    ];
    part = t.part;
  };
} where
  k : Reads (p.says t.mid.session.config.now) t.mid (with_more c' (drop taken piece))
  k = t.reads

-- ---- a refusal

piece_refused : (p : PartsCall) (c : Connection) (piece : List ℕ) (answer : Result (Unit {0}) Error) (c' : Connection)
    (x error : Error) → answer ≡ Err x → x ≡ error → FailsTaking true p c piece error c'
    → TakesWholePiece p c piece answer c'
piece_refused p c piece answer c' x error a b h = answered
    (λ (o : Result (Unit {0}) Error). TakesWholePiece p c piece o c') answer x error a b h

pub begin_refused : (p : PartsCall) (c k : Connection) (piece : List ℕ) (n spent : ℕ) (answer : Result (Unit {0}) Error)
    (c1 : Connection) (x error : Error) → answer ≡ Err x → x ≡ error → k ≡ record c { reader = k.reader }
    → k.reader ≡ record c.reader { waiting = c.reader.waiting ++ take n piece; handed = []; spent = spent }
    → TakesKept true p k (Err error) c1 → TakesWholePiece p c piece answer c1
begin_refused p c k piece n spent answer c1 x error a b e f h = piece_refused p c piece answer c1 x error a b (record {
  begins = t.begins;
  fixed = t.fixed;
  keeps = t.keeps;
  drawn = first_kept (false ≡ true) c k.reader (standing_of c1) p.stream p.left t.drawn;
  fails = subst (λ (y : List ℕ). Fails (p.says c.session.config.now) p.denies p.distrusts
      (AsksTo c.session p.before.calls p.after.calls) (emptied c) y error c1)
      (ap (λ (y : Reader). y.waiting ++ drop n piece) f ∙ append_assoc c.reader.waiting (take n piece) (drop n piece)
      ∙ ap (λ (y : List ℕ). c.reader.waiting ++ y) (take-append-drop n piece))
      (subst (λ (y : Connection). Fails (p.says c.session.config.now) p.denies p.distrusts
      (AsksTo c.session p.before.calls p.after.calls) y (k.reader.waiting ++ drop n piece) error c1)
      (emptied_same c (record c { reader = k.reader }) (c.reader.waiting ++ take n piece) [] spent refl f) t.fails);
  wants = λ q. absurd (cc);
  unqueued = λ q. absurd (cc);
}) where
  t : FailsTaking true p (record c { reader = k.reader }) (drop n piece) error c1
  t = subst (λ (y : Connection). FailsTaking true p y (drop n piece) error c1) e (h (drop n piece))

pub turns_refused : {A H G R : Type 0} (ma : AgreementMembers A) (mh : HostKeysMembers H) (mg : GroupLookupMembers G)
    (mr : rng.Ghosts R) (a b d : Parts A H G R)
    (c self : Connection) (r : Reader) (c3 : Connection) (piece slice : List ℕ) (taken n spent : ℕ)
    (answer : Result (Unit {0}) Error) (x error : Error) → answer ≡ Err x → x ≡ error → taken < length piece
    → slice ≡ drop taken piece → r ≡ record self.reader
    { waiting = self.reader.waiting ++ take n slice; handed = []; spent = spent }
    → TakesTo (call_of ma mh mg mr a b) c piece taken self
    → StopsReading true (call_of ma mh mg mr b d) (record self { reader = r }) error c3
    → TakesWholePiece (call_of ma mh mg mr a d) c piece answer c3
turns_refused ma mh mg mr a b d c self r c3 piece slice taken n spent answer x error e g more s f t h = piece_refused _
    c piece answer c3 x error e g (record {
      begins = h.begins;
      fixed = ((h.fixed.0.0 ∙ t.fixed.0.0, h.fixed.0.1 ∙ t.fixed.0.1), h.fixed.1 ∙ t.fixed.1);
      keeps = keeps_join ma mh mg mr a b d t.keeps h.keeps;
      drawn = first_behind (false ≡ true) c self c3 _ _ _ _ t.drawn t.live (turn_heard _ c piece taken self more t)
          h.stops.output;
      fails = fails_read (λ (y : Config). says_of ma mh mg y a.agreement a.hosts a.groups) _ _ _ _ (emptied c) t.mid c3
          (c.reader.waiting ++ piece) error (λ cause at late asks. asks) t.heard (mid_heard _ c piece taken self more t)
          (stops_after (λ (y : Config). says_of ma mh mg y a.agreement a.hosts a.groups)
          (λ (y : Config). says_of ma mh mg y b.agreement b.hosts b.groups) _ _ _ _
          (λ (y : Config). kept_denying ma mh mg y a.agreement b.agreement d.agreement a.hosts b.hosts d.hosts a.groups
          b.groups d.groups t.keeps.agreement t.keeps.hosts t.keeps.groups)
          (λ (y : ServerHost) u. kept_untrusting mh a.hosts b.hosts d.hosts y t.keeps.hosts u)
          _ _ t.mid (with_more self (drop taken piece)) c3 error
          (to_later c.session self.session _ _ _ t.fixed.0.0 t.serves.asks) t.reads.config t.reads
          (stops_turn (λ (y : Config). says_of ma mh mg y b.agreement b.hosts b.groups) _ _ _ self
          (record self { reader = r }) c3 piece taken n spent error refl
          (turn_taken self.reader r piece slice taken n spent s f) h.stops));
      wants = λ q. absurd (cc);
      unqueued = λ q. absurd (cc);
    })
