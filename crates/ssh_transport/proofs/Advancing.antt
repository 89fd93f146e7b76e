-- What a connection reads, one packet after the other.
use Rattle.std.proofs.Common.{◌≡◌, ℕ, ◌<◌, Bool, true, false, [], length, Option, Some, None, Result, Ok, Err, refl, sym, subst, ap, ◌∙◌, arith}
use Rattle.rand_core.specs.Stream.{Stream}
use Rattle.rand_core.specs.declared.Rng as rng
use Rattle.ssh_wire.specs.declared.error.Error.{Error}
use Rattle.ssh_wire.specs.declared.error.Error.TheVariants.{Memory}
use Rattle.ssh_kex.specs.Members.{AgreementMembers, GroupLookupMembers, HostKeysMembers}
use Rattle.ssh_kex.specs.Setting.{Says}
use Rattle.ssh_kex.specs.Stepping.{says_of}
use Rattle.ssh_kex.specs.declared.config.Config.{Config}
use Rattle.ssh_kex.specs.declared.exchange.ServerHost.{ServerHost}
use Rattle.ssh_kex.specs.declared.parts.Parts.{Parts}
use Rattle.ssh_rules.specs.Machine.{Outside}
use Rattle.ssh_rules.specs.Standing.{WaitsInPart}
use Rattle.ssh_transport.specs.Calls.{HandlesNext, CanRead, HandsUp, KeepsNot, OpensPacket, PartsCall, ReadsWaiting, ReadsFor, ReadSome, StaysInPart, StopsReading, OpensNext, call_of}
use Rattle.ssh_transport.specs.Handling.{IsHeard, IsOpen}
use Rattle.ssh_transport.specs.Kept.{IsLive}
use Rattle.ssh_transport.specs.Saying.{GoesOn, GoesPart, IsFixed, IsSettled}
use Rattle.ssh_transport.specs.Sending.{MadeBy, ServesBetween, WritesDrawn}
use Rattle.ssh_transport.specs.States.{CanBegin, reading_spot, stands_of}
use Rattle.ssh_transport.specs.Stopping.{Stops, WantsKeys}
use Rattle.ssh_transport.specs.Asking.{AsksTo}
use Rattle.ssh_transport.specs.Taking.{HandlesOne, IfPacket, Reads, TakesUp}
use Rattle.ssh_transport.specs.declared.connection.Connection.{Connection}
use Rattle.ssh_transport.specs.declared.connection.PacketRead.{PacketRead}
use Rattle.ssh_transport.specs.declared.connection.PacketRead.TheVariants.{Nothing, Packet, Payload}
use Rattle.ssh_transport.specs.declared.session.Disposition.{Disposition}
use Rattle.ssh_transport.specs.declared.session.Session.{Session}
use Rattle.ssh_transport.proofs.Asking.{to_kept, to_later, to_part}
use Rattle.ssh_transport.proofs.Denying.{kept_denying, kept_untrusting}
use Rattle.ssh_transport.proofs.Kept.{live_unlent}
use Rattle.ssh_transport.proofs.Opened.{heeds_heard, short_heard}
use Rattle.ssh_transport.proofs.Parts.{agreement_after, groups_after, hosts_after}
use Rattle.ssh_transport.proofs.Serving.{serves_join, serves_on, serves_same}
use Rattle.ssh_transport.proofs.Stopping.{stops_after, stops_keeping, stops_wanting}
use Rattle.ssh_transport.proofs.Taking.{numbered_up, polls_after, polls_as, polls_none, reads_after, reads_none, reads_taken, reads_unlent_as, took_queued}
use Rattle.ssh_transport.proofs.Treating.{keeps_same}
use Rattle.ssh_transport.proofs.Wanting.{stops_polling, wants_after, wants_polling}
use Rattle.ssh_transport.proofs.Weaker.{kept_weaker}

-- an error that was passed on
pub answered : {T : Type 0} (P : Result T Error → Type 0) (answer : Result T Error) (d e : Error) → answer ≡ Err d
    → d ≡ e → P (Err e) → P answer
answered {T} P answer d e a b h = subst P (sym a) (subst (λ (x : Error). P (Err x)) (sym b) h)

pub next_refused : (p : PartsCall) (c c' : Connection) (answer : Result (Option Disposition) Error) (d e : Error)
    → answer ≡ Err d → d ≡ e → StopsReading false p c e c' → OpensNext p c answer c'
next_refused p c c' answer d e a b h = answered (λ (r : Result (Option Disposition) Error). OpensNext p c r c') answer d
    e a b h

pub one_refused : (queues : Bool) (p : PartsCall) (c c' : Connection) (answer : Result PacketRead Error) (d e : Error)
    → answer ≡ Err d → d ≡ e → StopsReading queues p c e c' → HandlesNext queues p c answer c'
one_refused queues p c c' answer d e a b h = answered (λ (r : Result PacketRead Error). HandlesNext queues p c r c')
    answer d e a b h

pub all_refused : (queues : Bool) (p : PartsCall) (c c' : Connection) (answer : Result Bool Error) (d e : Error)
    → answer ≡ Err d → d ≡ e → StopsReading queues p c e c' → ReadsWaiting queues p c answer c'
all_refused queues p c c' answer d e a b h = answered (λ (r : Result Bool Error). ReadsWaiting queues p c r c') answer d
    e a b h

-- ---- one call of the parts behind another

pub keeps_join : {A H G R : Type 0} (ma : AgreementMembers A) (mh : HostKeysMembers H) (mg : GroupLookupMembers G)
    (mr : rng.Ghosts R) (a b d : Parts A H G R)
    → (call_of ma mh mg mr a b).keeps → (call_of ma mh mg mr b d).keeps → (call_of ma mh mg mr a d).keeps
keeps_join ma mh mg mr a b d f h = record {
  agreement = agreement_after _ _ _ _ _ _ _ _ f.agreement h.agreement;
  hosts = hosts_after _ _ _ _ _ _ _ _ _ _ _ _ f.hosts h.hosts;
  groups = groups_after _ _ _ _ _ _ _ _ f.groups h.groups;
}

packets_read : (queues : Bool) (says : Says) (c c' : Connection) → ReadsFor queues says c Packet c' → Reads says c c'
packets_read false says c c' h = h.0
packets_read true says c c' h = h

reads_behind : (queues : Bool) (says later : Config → Says)
    → ((x : Config) → Rattle.ssh_transport.proofs.Weaker.Weaker (later x) (says x))
    → (c mid c' : Connection) (read : PacketRead) → mid.session.config ≡ c.session.config
    → ReadsFor queues (says c.session.config.now) c Packet mid
    → ReadsFor queues (later mid.session.config.now) mid read c'
    → ReadsFor queues (says c.session.config.now) c read c'
reads_behind false says later w c mid c' read e f h = polls_after says later w c mid c' read e f.0 f.1 h
reads_behind true says later w c mid c' Nothing e f h = (reads_after says later w c mid c' e f h.0, h.1)
reads_behind true says later w c mid c' Packet e f h = reads_after says later w c mid c' e f h
reads_behind true says later w c mid c' Payload e f h = h

pub reads_on_join : {A H G R : Type 0} (ma : AgreementMembers A) (mh : HostKeysMembers H) (mg : GroupLookupMembers G)
    (mr : rng.Ghosts R) (a b d : Parts A H G R)
    (queues : Bool) (c mid c' : Connection) (read : PacketRead) → ReadSome queues (call_of ma mh mg mr a b) c Packet mid
    → ReadSome queues (call_of ma mh mg mr b d) mid read c' → ReadSome queues (call_of ma mh mg mr a d) c read c'
reads_on_join ma mh mg mr a b d queues c mid c' read f h = record {
  live = h.live;
  line = h.line ∙ f.line;
  fixed = ((h.fixed.0.0 ∙ f.fixed.0.0, h.fixed.0.1 ∙ f.fixed.0.1), h.fixed.1 ∙ f.fixed.1);
  keeps = keeps_join ma mh mg mr a b d f.keeps h.keeps;
  serves = serves_join (MadeBy ma.client_draws ma.server_draws) c.session mid.session c'.session _ _ _ _ _ _ f.fixed.0
      f.serves h.serves;
  reads = reads_behind queues (λ (x : Config). says_of ma mh mg x a.agreement a.hosts a.groups)
      (λ (x : Config). says_of ma mh mg x b.agreement b.hosts b.groups)
      (λ (x : Config). kept_weaker ma mh mg _ _ _ _ _ _ _ f.keeps.agreement f.keeps.hosts f.keeps.groups) c mid c' read
      f.fixed.0.1 f.reads h.reads;
  unqueued = λ q. h.unqueued q ∙ f.unqueued q;
  shorter = (let x = f.shorter in let y = h.shorter in omega (arith, x, y));
}

pub stops_reading_join : {A H G R : Type 0} (ma : AgreementMembers A) (mh : HostKeysMembers H)
    (mg : GroupLookupMembers G) (mr : rng.Ghosts R) (a b d : Parts A H G R)
    (queues : Bool) (c mid c' : Connection) (error : Error) → ReadSome queues (call_of ma mh mg mr a b) c Packet mid
    → StopsReading queues (call_of ma mh mg mr b d) mid error c'
    → StopsReading queues (call_of ma mh mg mr a d) c error c'
stops_reading_join ma mh mg mr a b d queues c mid c' error f h = record {
  begins = h.begins;
  fixed = ((h.fixed.0.0 ∙ f.fixed.0.0, h.fixed.0.1 ∙ f.fixed.0.1), h.fixed.1 ∙ f.fixed.1);
  keeps = keeps_join ma mh mg mr a b d f.keeps h.keeps;
  stops = stops_after (λ (x : Config). says_of ma mh mg x a.agreement a.hosts a.groups)
      (λ (x : Config). says_of ma mh mg x b.agreement b.hosts b.groups) _ _ _ _
      (λ (x : Config). kept_denying ma mh mg x a.agreement b.agreement d.agreement a.hosts b.hosts d.hosts a.groups
      b.groups d.groups f.keeps.agreement f.keeps.hosts f.keeps.groups)
      (λ (x : ServerHost) u. kept_untrusting mh a.hosts b.hosts d.hosts x f.keeps.hosts u)
      _ _ c mid c' error (to_later c.session mid.session _ _ _ f.fixed.0.0 f.serves.asks) f.fixed.0.1
      (packets_read queues _ c mid f.reads) h.stops;
  wants = λ q m. wants_after (λ (x : Config). says_of ma mh mg x a.agreement a.hosts a.groups)
      (λ (x : Config). says_of ma mh mg x b.agreement b.hosts b.groups)
      (λ (x : Config). kept_weaker ma mh mg _ _ _ _ _ _ _ f.keeps.agreement f.keeps.hosts f.keeps.groups) c mid
      f.fixed.0.1 (packets_read queues _ c mid f.reads) (f.unqueued q) (h.wants q m);
  unqueued = λ q. h.unqueued q ∙ f.unqueued q;
}

-- ---- none

packets_none : (queues : Bool) (says : Says) (c : Connection) → ReadsFor queues says c Packet c
packets_none false says c = (reads_none says c, refl)
packets_none true says c = reads_none says c

pub none_read : {A H G R : Type 0} (ma : AgreementMembers A) (mh : HostKeysMembers H) (mg : GroupLookupMembers G)
    (mr : rng.Ghosts R) (a : Parts A H G R)
    (queues : Bool) (c : Connection) → IsLive c → ReadSome queues (call_of ma mh mg mr a a) c Packet c
none_read ma mh mg mr a queues c live = record {
  live = live;
  line = refl;
  fixed = ((refl, refl), refl);
  keeps = keeps_same ma mh mg a.agreement a.hosts a.groups;
  serves = serves_same _ _ _ _ _ refl;
  reads = packets_none queues _ c;
  unqueued = λ q. refl;
  shorter = omega arith;
}

part_read : (queues : Bool) (says : Says) (c c' : Connection)
    → c' ≡ record c { reader = record c.reader { handed = [] } } → WaitsInPart (reading_spot c) c.reader.waiting
    → ReadsFor queues says c Nothing c'
part_read false says c c' e w = polls_none says c c' e (ap (λ (x : Connection). x.delivered) e) w
part_read true says c c' e w = (
  reads_unlent_as says c c' e,
  subst
      (λ (x : Connection). WaitsInPart (reading_spot x) x.reader.waiting) (sym e) w,
)

pub nothing_read : (queues : Bool) (p : PartsCall) (c c' : Connection) → CanRead c → StaysInPart p c c'
    → HandlesNext queues p c (Ok Nothing) c'
nothing_read queues p c c' can t = (
  record {
    live = live_unlent c c' t.still can.live;
    line = ap (λ (x : Connection). x.session.line) t.still;
    fixed = (
      (ap (λ (x : Connection). x.session.side) t.still, ap (λ (x : Connection). x.session.config) t.still),
      ap
          (λ (x : Connection). x.failed) t.still,
    );
    keeps = t.keeps;
    serves = t.serves;
    reads = part_read queues _ c c' t.still t.part;
    unqueued = λ q. ap (λ (x : Connection). x.delivered) t.still;
    shorter = (let e = ap (λ (x : Connection). length x.reader.waiting) t.still in omega (arith, e));
  },
  tt,
)

-- ---- one

pub stops_any : (queues : Bool) (p : PartsCall) (c : Connection) (error : Error) (c' : Connection)
    → StopsReading false p c error c' → StopsReading queues p c error c'
stops_any queues p c error c' h = record {
  begins = h.begins;
  fixed = h.fixed;
  keeps = h.keeps;
  stops = h.stops;
  wants =
      λ q. h.wants refl;
  unqueued = λ q. h.unqueued refl;
}

-- what is queued is all that it changes
hands_rest : (queues : Bool) (c : Connection) (handled : Disposition) (read : PacketRead) (k : Connection)
    → HandsUp queues c handled read k → k ≡ record c { delivered = k.delivered }
hands_rest false c handled read k h = subst (λ (x : Connection). x ≡ record c { delivered = x.delivered }) (sym h.1)
    refl
hands_rest true c handled read k h = h.1

hands_none : (queues : Bool) (c : Connection) (handled : Disposition) (read : PacketRead) (k : Connection)
    → HandsUp queues c handled read k → queues ≡ false → k.delivered ≡ c.delivered
hands_none false c handled read k h q = ap (λ (x : Connection). x.delivered) h.1
hands_none true c handled read k h q = (cc)

if_packet : (read : PacketRead) (P : Type 0) → P → IfPacket read P
if_packet Nothing P h = tt
if_packet Packet P h = h
if_packet Payload P h = h

one_reads : (queues : Bool) (says : Says) (c c1 k c2 : Connection) (s' : Session) (n : ℕ) (handled : Disposition)
    (read : PacketRead) → IsLive c → HandlesOne says c handled c1 → IsFixed c.session c1.session
    → c1.session.line ≡ c.session.line
    → HandsUp queues c1 handled read k → IsFixed c.session k.session → k.session.line ≡ c.session.line
    → TakesUp handled k c2 → n ≡ c2.reader.count → GoesOn c2.session n s'
    → ReadsFor queues says c read (record c2 { session = s' })
one_reads false says c c1 k c2 s' n handled read live t fixed line h fixedk linek u e g = polls_as says c c1 c2 s' n
    handled read h.0 live t fixed line (subst (λ (x : Connection). TakesUp handled x c2) h.1 u) e g
one_reads true says c c1 k c2 s' n handled read live t fixed line h fixedk linek u e g =
    subst (λ (x : PacketRead). ReadsFor true says c x (record c2 { session = s' })) (sym h.0)
    (reads_taken says c k c2 s' n handled live (took_queued says c c1 k handled t h.1 h.2) fixedk linek u e g)

pub one_read : (p : PartsCall) (left : Stream) (queues : Bool) (c c1 k c2 : Connection) (s' : Session) (n : ℕ)
    (handled : Disposition) (read : PacketRead) → CanRead c → OpensPacket p c handled c1
    → HandsUp queues c1 handled read k
    → TakesUp handled k c2 → n ≡ c2.reader.count → IsOpen s' → GoesOn c2.session n s'
    → WritesDrawn c2.session s' p.left left → IsFixed c2.session s' → CanBegin s' → s'.line ≡ c2.session.line
    → HandlesNext queues (record p { left = left }) c (Ok read) (record c2 { session = s' })
one_read p left queues c c1 k c2 s' n handled read can o h u e opened g w fixed begins line = (
  record {
    live = record {
      begins = begins;
      settled = subst (λ (m : ℕ). IsSettled s' m) e g.settled;
      good = g.writes.good;
      opened = opened;
      numbered = numbered_up c k c2 handled (ap (λ (x : Connection). x.reader.number) r ∙ o.handles.number) u;
      short = short_heard s'.line heard;
      heeds = heeds_heard s'.line heard;
      unbroken = u.failed ∙ ap (λ (x : Connection). x.reader.failed) r ∙ o.handles.unbroken;
      windowed = u.window ∙ ap (λ (x : Connection). x.reader.window) r ∙ o.handles.window ∙ can.live.windowed;
    };
    line = whole;
    fixed = (
      (
        fixed.0 ∙ ap (λ (x : Session). x.side) same ∙ o.stays.3.0,
        fixed.1 ∙ ap (λ (x : Session). x.config) same
            ∙ o.stays.3.1,
      ),
      ap (λ (x : Connection). x.failed) u.rest ∙ ap (λ (x : Connection). x.failed) r ∙ o.failed,
    );
    keeps = o.keeps;
    serves = serves_on p.draws c k c2 handled s' n p.before p.after p.stream p.left left fixedk
        (subst (λ (x : Session). ServesBetween p.draws c.session x p.before p.after p.stream p.left) (sym kept) o.serves)
        u g w;
    reads = one_reads queues _ c c1 k c2 s' n handled read can.live o.handles o.stays.3 o.stays.1 h fixedk
        (ap (λ (x : Session). x.line) kept ∙ o.stays.1) u e g;
    unqueued = λ q. ap (λ (x : Connection). x.delivered) u.rest ∙ hands_none queues c1 handled read k h q
        ∙ o.handles.delivered;
    shorter = (let s = less in omega (arith, s));
  },
  if_packet read _ less,
)
  where
    r : k ≡ record c1 { delivered = k.delivered }
    r = hands_rest queues c1 handled read k h

    kept : k.session ≡ c1.session
    kept = ap (λ (x : Connection). x.session) r

    same : c2.session ≡ c1.session
    same = ap (λ (x : Connection). x.session) u.rest ∙ kept

    fixedk : IsFixed c.session k.session
    fixedk = (ap (λ (x : Session). x.side) kept ∙ o.stays.3.0, ap (λ (x : Session). x.config) kept ∙ o.stays.3.1)

    whole : s'.line ≡ c.session.line
    whole = line ∙ ap (λ (x : Session). x.line) same ∙ o.stays.1

    heard : IsHeard s'.line
    heard = subst IsHeard (sym whole) can.heard

    less : length c2.reader.waiting < length c.reader.waiting
    less = let a = ap (λ (x : Connection). length x.reader.waiting) r in let b = ap length u.waiting in let s =
        o.handles.shorter in omega (arith, a, b, s)

one_stops : (queues : Bool) (p : PartsCall) (c c1 k c2 : Connection) (s' : Session) (n : ℕ) (handled : Disposition)
    (read : PacketRead) (error : Error) → IsLive c → OpensPacket p c handled c1 → HandsUp queues c1 handled read k
    → IsFixed c.session k.session → k.session ≡ c1.session
    → TakesUp handled k c2 → n ≡ c2.reader.count → (g : GoesPart c2.session n s')
    → ((stands_of c2.session.finished.items c2.session.kex ≡ Outside → c2.session.held.items ≡ [])
    → WantsKeys c2.session n s') → error ≡ Memory
    → Stops (p.says c.session.config.now) p.denies p.distrusts (AsksTo c.session p.before.calls p.after.calls) c error
    (record c2 { session = s' })
one_stops false p c c1 k c2 s' n handled read error live o h fixedk kept u e g due m =
    let v : TakesUp handled c1 c2 = subst (λ (x : Connection). TakesUp handled x c2) h.1 u in
    stops_polling _ _ _ _ c c1 c2 s' n handled error live o.handles o.stays.3 o.stays.1 v e g due m
    (to_part c c1 c2 handled s' n p.before p.after o.stays.3 o.serves.asks v g)
    (λ x. to_kept c.session c1.session (reading_spot c) c.reader.count p.before p.after x o.serves.asks)
one_stops true p c c1 k c2 s' n handled read error live o h fixedk kept u e g due m =
    stops_wanting _ _ _ _ c k c2 s' n handled error live (took_queued _ c c1 k handled o.handles h.1 h.2) fixedk
    (ap (λ (x : Session). x.line) kept ∙ o.stays.1) u e g m
    (to_part c k c2 handled s' n p.before p.after fixedk (subst
    (λ (x : Session). ServesBetween p.draws c.session x p.before p.after p.stream p.left) (sym kept) o.serves).asks
    u g)

-- memory was wanting for the exchange that a limit begins behind it
pub one_stopped : (p : PartsCall) (left : Stream) (queues : Bool) (c c1 k c2 : Connection) (s' : Session) (n : ℕ)
    (handled : Disposition) (read : PacketRead) (error : Error) → CanRead c → OpensPacket p c handled c1
    → HandsUp queues c1 handled read k
    → TakesUp handled k c2 → n ≡ c2.reader.count → GoesPart c2.session n s'
    → ((stands_of c2.session.finished.items c2.session.kex ≡ Outside → c2.session.held.items ≡ [])
    → WantsKeys c2.session n s') → error ≡ Memory → IsFixed c2.session s' → CanBegin s'
    → StopsReading queues (record p { left = left }) c error (record c2 { session = s' })
one_stopped p left queues c c1 k c2 s' n handled read error can o h u e g due m fixed begins = record {
  begins = begins;
  fixed = (
    (
      fixed.0 ∙ ap (λ (x : Session). x.side) same ∙ o.stays.3.0,
      fixed.1 ∙ ap (λ (x : Session). x.config) same
          ∙ o.stays.3.1,
    ),
    ap (λ (x : Connection). x.failed) u.rest ∙ ap (λ (x : Connection). x.failed) r ∙ o.failed,
  );
  keeps = o.keeps;
  stops = one_stops queues p c c1 k c2 s' n handled read error can.live o h fixedk kept u e g due m;
  wants = λ q _. one_wants q;
  unqueued = λ q. ap (λ (x : Connection). x.delivered) u.rest ∙ hands_none queues c1 handled read k h q
      ∙ o.handles.delivered;
}
  where
    r : k ≡ record c1 { delivered = k.delivered }
    r = hands_rest queues c1 handled read k h

    kept : k.session ≡ c1.session
    kept = ap (λ (x : Connection). x.session) r

    same : c2.session ≡ c1.session
    same = ap (λ (x : Connection). x.session) u.rest ∙ kept

    fixedk : IsFixed c.session k.session
    fixedk = (ap (λ (x : Session). x.side) kept ∙ o.stays.3.0, ap (λ (x : Session). x.config) kept ∙ o.stays.3.1)

    alone : queues ≡ false → k ≡ c1
    alone q = r ∙ ap (λ (d : _). record c1 { delivered = d }) (hands_none queues c1 handled read k h q)

    one_wants : queues ≡ false → Rattle.ssh_transport.specs.Stopping.Wants (p.says c.session.config.now) c
    one_wants q = wants_polling _ c c1 c2 s' n handled can.live o.handles
        (subst (λ (x : Connection). TakesUp handled x c2) (alone q) u) e due

-- memory was wanting to queue it
pub one_unqueued : (queues : Bool) (p : PartsCall) (c c1 k : Connection) (handled : Disposition) (error : Error)
    → OpensPacket p c handled c1 → KeepsNot queues c1 handled error k → StopsReading queues p c error k
one_unqueued queues p c c1 k handled error o h = record {
  begins = subst CanBegin (sym kept) o.stays.0;
  fixed = (
    (ap (λ (x : Session). x.side) kept ∙ o.stays.3.0, ap (λ (x : Session). x.config) kept ∙ o.stays.3.1),
    ap
        (λ (x : Connection). x.failed) h.rest ∙ o.failed,
  );
  keeps = o.keeps;
  stops = stops_keeping _ _ _ _ c k error (kept ∙ o.handles.still h.delivering)
      (h.still ∙ ap (λ v. v.items) o.handles.delivered) h.error_is
      (to_kept c.session c1.session (reading_spot c) c.reader.count p.before p.after (o.handles.still h.delivering)
      o.serves.asks);
  wants = λ q m. absurd (let x = h.queueing in cc);
  unqueued = λ q. (let x = h.queueing in cc);
}
  where
    kept : k.session ≡ c1.session
    kept = ap (λ (x : Connection). x.session) h.rest

-- what was taken, by the answer
pub none_taken : (p : PartsCall) (c c' : Connection) (o : Option Disposition) → o ≡ None → OpensNext p c (Ok o) c'
    → StaysInPart p c c'
none_taken p c c' o e h = subst (λ (x : Option Disposition). OpensNext p c (Ok x) c') e h

pub one_taken : (p : PartsCall) (c c' : Connection) (o : Option Disposition) (handled : Disposition) → o ≡ Some handled
    → OpensNext p c (Ok o) c' → OpensPacket p c handled c'
one_taken p c c' o handled e h = subst (λ (x : Option Disposition). OpensNext p c (Ok x) c') e h

pub heard_still : (c c' : Connection) → c'.session.line ≡ c.session.line → IsHeard c.session.line
    → IsHeard c'.session.line
heard_still c c' e h = subst IsHeard (sym e) h

pub read_as_told : (queues : Bool) (p : PartsCall) (c c' : Connection) (got read : PacketRead) → got ≡ read
    → ReadSome queues p c got c' → ReadSome queues p c read c'
read_as_told queues p c c' got read e h = subst (λ (x : PacketRead). ReadSome queues p c x c') e h

pub packet_less : (got : PacketRead) (a b : ℕ) → got ≡ Packet → IfPacket got (a < b) → a < b
packet_less got a b e h = subst (λ (x : PacketRead). IfPacket x (a < b)) e h
