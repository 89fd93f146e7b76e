-- What was kept of the input, taken by the version line and then packet by packet.
use Rattle.std.proofs.Common.{◌≡◌, ℕ, ◌+◌, ◌<◌, ◌≤◌, ◌++◌, inl, inr, Bool, true, false, List, [], length, Result, Ok, Err, refl, sym, subst, ap, ◌∙◌, arith}
use Rattle.rand_core.specs.Stream.{Stream}
use Rattle.rand_core.specs.declared.Rng as rng
use Rattle.ssh_wire.specs.Reading.{IdReading, Failed, Heard, IsShort, Waiting, waiting_length}
use Rattle.ssh_wire.specs.declared.error.Error.{Error}
use Rattle.ssh_wire.specs.declared.error.Error.TheVariants.{Memory}
use Rattle.ssh_packet.specs.Reading.{window_length}
use Rattle.ssh_kex.specs.Members.{AgreementMembers, GroupLookupMembers, HostKeysMembers}
use Rattle.ssh_kex.specs.Setting.{Says}
use Rattle.ssh_kex.specs.Stepping.{says_of}
use Rattle.ssh_kex.specs.declared.config.Config.{Config}
use Rattle.ssh_kex.specs.declared.parts.Parts.{Parts}
use Rattle.ssh_transport.specs.Calls.{CanTake, ReadsWaiting, ReadsFor, TakesFor, TakesKept, call_of}
use Rattle.ssh_transport.specs.Drawing.{DrawsFirst, OpensDrawn}
use Rattle.ssh_transport.specs.Handling.{IsHeard}
use Rattle.ssh_transport.specs.Hearing.{EndsBy}
use Rattle.ssh_transport.specs.Kept.{IsLive}
use Rattle.ssh_transport.specs.Saying.{IsFixedIn}
use Rattle.ssh_transport.specs.Sending.{MadeBy, WritesDrawn}
use Rattle.ssh_transport.specs.States.{CanBegin, WaitsBehind, emptied, reading_spot, standing_of, with_more}
use Rattle.ssh_transport.specs.Stopping.{HearsNothing}
use Rattle.ssh_transport.specs.Taking.{Hears, read_by}
use Rattle.ssh_transport.specs.declared.connection.Connection.{Connection}
use Rattle.ssh_transport.proofs.Advancing.{heard_still}
use Rattle.ssh_transport.proofs.Asking.{between_heard, to_later, to_still, untested}
use Rattle.ssh_transport.proofs.Drawing.{first_awaited, first_goes, first_unheard}
use Rattle.ssh_transport.proofs.Failing.{fails_read, fails_unread}
use Rattle.ssh_transport.proofs.Heard.{hears_behind, part_nothing}
use Rattle.ssh_transport.proofs.Inputs.{takes_none, takes_nothing, takes_polled, takes_read}
use Rattle.ssh_transport.proofs.Kept.{live_emptied}
use Rattle.ssh_transport.proofs.Serving.{serves_join, serves_wrote}
use Rattle.ssh_transport.proofs.Stopping.{stops_more}
use Rattle.ssh_transport.proofs.Treating.{keeps_same}
use Rattle.ssh_transport.proofs.Wanting.{may_end, may_want}

-- by whether payloads are queued
takes_by : (queues : Bool) (says : Config → Says) (c mid c' : Connection) (lends : Bool)
    → Hears (emptied c) c.reader.waiting mid → IsHeard mid.session.line → mid.delivered ≡ c.delivered
    → ReadsFor queues (says mid.session.config.now) mid (read_by lends) c'
    → TakesFor queues (says c.session.config.now) c lends c'
takes_by false says c mid c' lends h i d k = takes_polled says c mid c' (Ok lends) h i d k
takes_by true says c mid c' false h i d k = (
  takes_read says (emptied c) mid c' c.reader.waiting (Ok tt) h i k.0 k.1,
  inl (heard_still mid c' k.0.line i),
)
takes_by true says c mid c' true h i d k = k

drawn_by : (queues : Bool) (done : Type 0) (says : Says) (c mid c' : Connection) (lends : Bool)
    (stream stream' : Stream) → OpensDrawn c.session mid.session stream
    → ReadsFor queues says mid (read_by lends) c' → DrawsFirst done (standing_of c) (standing_of c') stream stream'
drawn_by false done says c mid c' true stream stream' h r = first_goes done c mid c' stream stream' _ h r.goes.output
drawn_by false done says c mid c' false stream stream' h r = first_goes done c mid c' stream stream' _ h r.0.output
drawn_by true done says c mid c' false stream stream' h r = first_goes done c mid c' stream stream' _ h r.0.output
drawn_by true done says c mid c' true stream stream' h r = absurd r

pub heard_taken : {A H G R : Type 0} (ma : AgreementMembers A) (mh : HostKeysMembers H) (mg : GroupLookupMembers G)
    (mr : rng.Ghosts R) (a : Parts A H G R) (r : R) (d : Parts A H G R)
    (queues : Bool) (c mid c' : Connection) (answer : Result Bool Error) → CanTake c
    → Hears (emptied c) c.reader.waiting mid → IsHeard mid.session.line → mid.delivered ≡ c.delivered
    → IsFixedIn c mid
    → OpensDrawn c.session mid.session (mr.stream a.rng) → WritesDrawn c.session mid.session (mr.stream a.rng)
    (mr.stream r) → length mid.reader.waiting ≤ length c.reader.waiting
    → ReadsWaiting queues (call_of ma mh mg mr (record a { rng = r }) d) mid answer c'
    → TakesKept queues (call_of ma mh mg mr a d) c answer c'
heard_taken ma mh mg mr a r d queues c mid c' (Ok lends) can hears i same f opens wrote fewer h = record {
  live = h.live;
  within = record {
    begins = h.live.begins;
    heeds = h.live.heeds;
    within = (let none : waiting_length c'.session.line ≡ 0 = ap waiting_length (h.line ∙ i.1) in let x = h.shorter in
        let y = can.within.within in omega (arith, none, x, y, fewer));
    live = λ _. h.live;
  };
  settled = subst (λ (l : IdReading). WaitsBehind l c'.reader.waiting) (sym (h.line ∙ i.1)) tt;
  fixed = ((h.fixed.0.0 ∙ f.0.0, h.fixed.0.1 ∙ f.0.1), h.fixed.1 ∙ f.1);
  keeps = h.keeps;
  serves = serves_join (MadeBy ma.client_draws ma.server_draws) c.session mid.session c'.session _ _ _ _ _ _ f.0
      (serves_wrote _ c.session mid.session _ _ _ _ (between_heard (emptied c) mid c.reader.waiting _ hears) wrote)
      h.serves;
  drawn = drawn_by queues (true ≡ true) _ c mid c' lends _ _ opens h.reads;
  takes = takes_by queues (λ (x : Config). says_of ma mh mg x a.agreement a.hosts a.groups) c mid c' lends hears i same
      h.reads;
}
heard_taken ma mh mg mr a r d queues c mid c' (Err error) can hears i same f opens wrote fewer h = λ more. record {
  begins = h.begins;
  fixed = ((h.fixed.0.0 ∙ f.0.0, h.fixed.0.1 ∙ f.0.1), h.fixed.1 ∙ f.1);
  keeps = h.keeps;
  drawn = first_goes (false ≡ true) c mid c' _ _ _ opens h.stops.output;
  fails = fails_read (λ (x : Config). says_of ma mh mg x a.agreement a.hosts a.groups) _ _ _ _ (emptied c)
      (with_more mid more) c' (c.reader.waiting ++ more) error
      (to_later c.session mid.session (untested _) (untested _) _ f.0.0
      (between_heard (emptied c) mid c.reader.waiting _ hears))
      (hears_behind (emptied c) mid c.reader.waiting more hears i) i (stops_more _ _ _ _ mid c' more error h.stops);
  wants = λ q m. may_want (λ (x : Config). says_of ma mh mg x a.agreement a.hosts a.groups) c mid hears i same
      (h.wants q m);
  unqueued = λ q. ap (λ v. v.items) (h.unqueued q ∙ same);
}

-- ---- where the line isn't read yet

behind_none : (line : IdReading) (waiting : List ℕ) → waiting ≡ [] → WaitsBehind line waiting
behind_none (Waiting bytes others) waiting e = e
behind_none (Heard text) waiting e = tt
behind_none Failed waiting e = e

short_within : (line : IdReading) (waiting : List ℕ) → IsShort line → waiting ≡ []
    → waiting_length line + length waiting ≤ window_length
short_within (Waiting bytes others) waiting s e = (let x = s.0 in let y = ap length e in omega (arith, x, y))
short_within (Heard text) waiting s e = (let y = ap length e in omega (arith, y))
short_within Failed waiting s e = (let y = ap length e in omega (arith, y))

nothing_by : (queues : Bool) (says : Says) (c mid : Connection) → Hears (emptied c) c.reader.waiting mid
    → mid.reader.waiting ≡ [] → mid.delivered ≡ c.delivered
    → waiting_length c.session.line + length c.reader.waiting < window_length → TakesFor queues says c false mid
nothing_by false says c mid h n d few = takes_nothing says c mid h n d
nothing_by true says c mid h n d few = (
  takes_none says (emptied c) mid c.reader.waiting h
      (part_nothing (reading_spot mid) mid.reader.waiting n),
  inr few,
)

pub unheard_taken : {A H G R : Type 0} (ma : AgreementMembers A) (mh : HostKeysMembers H) (mg : GroupLookupMembers G)
    (mr : rng.Ghosts R) (a : Parts A H G R) (r : R)
    (queues : Bool) (c mid : Connection) → IsLive mid → Hears (emptied c) c.reader.waiting mid → mid.reader.waiting ≡ []
    → waiting_length c.session.line + length c.reader.waiting < window_length → mid.delivered ≡ c.delivered
    → IsFixedIn c mid
    → mid.session ≡ record c.session { line = mid.session.line } → r ≡ a.rng
    → WritesDrawn c.session mid.session (mr.stream a.rng) (mr.stream r)
    → TakesKept queues (call_of ma mh mg mr a (record a { rng = r })) c (Ok false) mid
unheard_taken ma mh mg mr a r queues c mid live hears n few d fixed still e wrote = record {
  live = live;
  within = record {
    begins = live.begins;
    heeds = live.heeds;
    within = short_within mid.session.line mid.reader.waiting
        live.short n;
    live = λ _. live;
  };
  settled = behind_none mid.session.line mid.reader.waiting n;
  fixed = fixed;
  keeps = keeps_same ma mh mg a.agreement a.hosts a.groups;
  serves = serves_wrote _ c.session mid.session _ _ _ _ (between_heard (emptied c) mid c.reader.waiting _ hears) wrote;
  drawn = first_awaited (true ≡ true) c c mid _ _ refl still (ap mr.stream e);
  takes = nothing_by queues _ c mid hears n d few;
}

pub line_refused : {A H G R : Type 0} (ma : AgreementMembers A) (mh : HostKeysMembers H) (mg : GroupLookupMembers G)
    (mr : rng.Ghosts R) (a : Parts A H G R) (r : R)
    (queues : Bool) (c mid : Connection) (answer : Result Bool Error) (x error : Error) → answer ≡ Err x → x ≡ error
    → IsLive c → CanBegin mid.session → IsFixedIn c mid
    → HearsNothing (emptied c) c.reader.waiting error mid
    → (error ≡ Memory → EndsBy c.session.side c.session.line c.reader.waiting)
    → TakesKept queues (call_of ma mh mg mr a (record a { rng = r })) c answer mid
line_refused ma mh mg mr a r queues c mid answer x error b e live begins fixed h ended =
    subst (λ (o : Result Bool Error). TakesKept queues (call_of ma mh mg mr a (record a { rng = r })) c o mid)
    (sym (b ∙ ap (λ (y : Error). Err y) e)) told
  where
    told : TakesKept queues (call_of ma mh mg mr a (record a { rng = r })) c (Err error) mid
    told = λ more. record {
      begins = begins;
      fixed = fixed;
      keeps = keeps_same ma mh mg a.agreement a.hosts a.groups;
      drawn = first_unheard {T = Bool} (Err error) error c c mid _ _ refl refl h.not.0;
      fails = fails_unread _ _ _ _ (emptied c) mid c.reader.waiting more error (to_still c.session _ _ _)
          (live_emptied c live) h;
      wants = λ q m. may_end _ c (ended m);
      unqueued = λ q. h.delivered;
    }
