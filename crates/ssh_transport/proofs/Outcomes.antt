-- What a call on a connection answers, by what it took and by the end that an error is.
use Rattle.std.proofs.Common.{◌≡◌, List, [], ℕ, ◌++◌, Bool, true, false, Result, Ok, Err, IfErr, IsOk, OnErr, OnOk, refl, sym, ap, ◌∙◌, subst}
use Rattle.rand_core.specs.declared.Rng as rng
use Rattle.ssh_wire.specs.declared.error.Error.{Error}
use Rattle.ssh_wire.specs.declared.error.Error.TheVariants.{Disconnect, Memory}
use Rattle.ssh_kex.specs.Members.{AgreementMembers, GroupLookupMembers, HostKeysMembers}
use Rattle.ssh_kex.specs.declared.parts.Parts.{Parts}
use Rattle.ssh_rules.specs.Standing.{unfinished}
use Rattle.ssh_transport.specs.Asking.{AsksTo}
use Rattle.ssh_transport.specs.Calls.{EndsOn, FailsTaking, FeedsPiece, PartsCall, PollsPayload, TakesCall, TakesKept, TakesWholePiece, call_of}
use Rattle.ssh_transport.specs.Drawing.{DrawsFirst}
use Rattle.ssh_transport.specs.Kept.{IsKept}
use Rattle.ssh_transport.specs.Saying.{IsFixed, IsFixedIn}
use Rattle.ssh_transport.specs.Sending.{ServesBetween}
use Rattle.ssh_transport.specs.States.{CanBegin, emptied, standing_of}
use Rattle.ssh_transport.specs.Stopping.{Fails, IsAsBefore}
use Rattle.ssh_transport.specs.Submitting.{Breaks}
use Rattle.ssh_transport.specs.declared.connection.Connection.{Connection}
use Rattle.ssh_transport.proofs.Drawing.{first_answer, first_still}
use Rattle.ssh_transport.proofs.Failing.{piece_answer}
use Rattle.ssh_transport.proofs.Inputs.{fed_answer, polled_answer}
use Rattle.ssh_transport.proofs.Serving.{serves_answer}
use Rattle.ssh_transport.proofs.Treating.{keeps_same}

-- ---- where an error is the end

pub ends_same : {T : Type 0} (answer : Result T Error) (c c' : Connection) → EndsOn answer c c' → OnOk answer (c' ≡ c)
ends_same {T} (Ok x) c c' h = h
ends_same {T} (Err e) c c' h = tt

pub ends_breaks : {T : Type 0} (answer : Result T Error) (c c' : Connection) → EndsOn answer c c'
    → OnErr answer (Breaks (standing_of c) (standing_of c'))
ends_breaks {T} (Ok x) c c' h = tt
ends_breaks {T} (Err e) c c' h = h.breaks

pub ends_rests : {T : Type 0} (answer : Result T Error) (c c' : Connection) → EndsOn answer c c'
    → OnErr answer (IsAsBefore c.session c'.session)
ends_rests {T} (Ok x) c c' h = tt
ends_rests {T} (Err e) c c' h = h.rests

pub ends_kept : {T : Type 0} (answer : Result T Error) (c c' : Connection) → OnOk answer (IsKept c) → EndsOn answer c c'
    → IsKept c'
ends_kept {T} (Ok x) c c' k h = subst IsKept (sym h) k
ends_kept {T} (Err e) c c' k h = h.kept

ends_fixed : {T : Type 0} (answer : Result T Error) (c c' : Connection) → EndsOn answer c c'
    → IsFixed c.session c'.session
ends_fixed {T} (Ok x) c c' h = (ap (λ (y : Connection). y.session.side) h, ap (λ (y : Connection). y.session.config) h)
ends_fixed {T} (Err e) c c' h = h.fixed

-- ---- what it begins with

pub piece_begins : (p : PartsCall) (c : Connection) (piece : List ℕ) (answer : Result (Unit {0}) Error)
    (c' : Connection) → TakesWholePiece p c piece answer c' → CanBegin c'.session
piece_begins p c piece (Ok u) c' t = t.within.begins
piece_begins p c piece (Err e) c' t = t.begins

pub piece_kept : (p : PartsCall) (c : Connection) (piece : List ℕ) (answer : Result (Unit {0}) Error) (c' : Connection)
    → TakesWholePiece p c piece answer c' → OnOk answer (IsKept c')
piece_kept p c piece (Ok u) c' t = t.within
piece_kept p c piece (Err e) c' t = tt

pub kept_begins : (queues : Bool) (p : PartsCall) (c : Connection) (answer : Result Bool Error) (c' : Connection)
    → TakesKept queues p c answer c' → CanBegin c'.session
kept_begins queues p c (Ok lends) c' t = t.within.begins
kept_begins queues p c (Err e) c' t = (t []).begins

pub kept_kept : (queues : Bool) (p : PartsCall) (c : Connection) (answer : Result Bool Error) (c' : Connection)
    → TakesKept queues p c answer c' → OnOk answer (IsKept c')
kept_kept queues p c (Ok lends) c' t = t.within
kept_kept queues p c (Err e) c' t = tt

-- ---- what it answers

lives_by : {T : Type 0} (c mid c' : Connection) (answer done : Result T Error) → done ≡ answer → mid.failed ≡ c.failed
    → EndsOn answer mid c' → c.failed ≡ false → OnOk done (c'.failed ≡ false)
lives_by {T} c mid c' (Ok x) done d e h f = subst (λ (y : Result T Error). OnOk y (c'.failed ≡ false)) (sym d)
    (ap (λ (y : Connection). y.failed) h ∙ e ∙ f)
lives_by {T} c mid c' (Err x) done d e h f = subst (λ (y : Result T Error). OnOk y (c'.failed ≡ false)) (sym d) tt

ends_by : {T : Type 0} (mid c' : Connection) (answer done : Result T Error) → done ≡ answer → EndsOn answer mid c'
    → OnErr done ((c'.failed ≡ true) × (unfinished (standing_of c') ≡ []))
ends_by {T} mid c' (Ok x) done d h = subst (λ (y : Result T Error). OnErr y
    ((c'.failed ≡ true) × (unfinished (standing_of c') ≡ []))) (sym d) tt
ends_by {T} mid c' (Err x) done d h = subst (λ (y : Result T Error). OnErr y
    ((c'.failed ≡ true) × (unfinished (standing_of c') ≡ []))) (sym d) (h.breaks.failed, h.breaks.nothing)

call_answer : {T : Type 0} (p : PartsCall) (c mid c' : Connection) (piece : List ℕ) (answer done : Result T Error)
    → done ≡ answer → OnOk answer (IsKept mid) → EndsOn answer mid c' → IsFixedIn c mid → p.keeps
    → DrawsFirst (IsOk answer) (standing_of c) (standing_of mid) p.stream p.left
    → OnOk answer (ServesBetween p.draws c.session mid.session p.before p.after p.stream p.left)
    → IfErr answer (λ e. Fails (p.says c.session.config.now) p.denies p.distrusts
    (AsksTo c.session p.before.calls p.after.calls) (emptied c) (c.reader.waiting ++ piece) e mid)
    → TakesCall p c piece done c'
call_answer {T} p c mid c' piece answer done d kept h fixed keeps drawn serves fails = record {
  kept = ends_kept answer mid c' kept h;
  stays = (let x = ends_fixed answer mid c' h in (x.0 ∙ fixed.0.0, x.1 ∙ fixed.0.1));
  lives = lives_by c mid c' answer done d fixed.1 h;
  ends = λ f. ends_by mid c' answer done d h;
  drawn = first_answer c mid c' p.stream p.left answer (ends_same answer mid c' h) (ends_rests answer mid c' h)
      (ends_breaks answer mid c' h) drawn;
  refused = λ f. piece_answer (p.says c.session.config.now) p.denies p.distrusts p.before.calls p.after.calls c mid c'
      piece answer done d fixed.0 (ends_breaks answer mid c' h) (ends_rests answer mid c' h) fails;
  keeps = keeps;
  serves = serves_answer p.draws p.before p.after p.stream p.left c mid c' answer done d (ends_same answer mid c' h)
      serves;
}

-- a connection that had failed
call_dead : {A H G R : Type 0} (ma : AgreementMembers A) (mh : HostKeysMembers H) (mg : GroupLookupMembers G)
    (mr : rng.Ghosts R) (a : Parts A H G R)
    {T : Type 0} (c : Connection) (piece : List ℕ) → IsKept c → c.failed ≡ true
    → TakesCall {T = T} (call_of ma mh mg mr a a) c piece (Err Disconnect) c
call_dead ma mh mg mr a {T} c piece kept f = record {
  kept = kept;
  stays = (refl, refl);
  lives = λ g. tt;
  ends = λ g. absurd (let e : true ≡ false = sym f ∙ g in cc);
  drawn = first_still _ (standing_of c) _;
  refused = λ g. absurd (let e : true ≡ false = sym f ∙ g in cc);
  keeps = keeps_same ma mh mg a.agreement a.hosts a.groups;
  serves = tt;
}

pub fed_dead : {A H G R : Type 0} (ma : AgreementMembers A) (mh : HostKeysMembers H) (mg : GroupLookupMembers G)
    (mr : rng.Ghosts R) (a : Parts A H G R) (c : Connection) (piece : List ℕ) → IsKept c → c.failed ≡ true
    → FeedsPiece (call_of ma mh mg mr a a) c piece (Err Disconnect) c
fed_dead ma mh mg mr a c piece kept f = record {
  call = call_dead ma mh mg mr a {T = Unit {0}} c piece kept f;
  fed =
      tt;
}

pub polled_dead : {A H G R : Type 0} (ma : AgreementMembers A) (mh : HostKeysMembers H) (mg : GroupLookupMembers G)
    (mr : rng.Ghosts R) (a : Parts A H G R) (c : Connection) → IsKept c → c.failed ≡ true
    → PollsPayload (call_of ma mh mg mr a a) c (Err Disconnect) c
polled_dead ma mh mg mr a c kept f = record {
  call = call_dead ma mh mg mr a {T = Bool} c [] kept f;
  polled = tt;
  wants
      = λ g. absurd (let e : true ≡ false = sym f ∙ g in cc);
  unqueued = refl;
}

pub fed_call : (p : PartsCall) (c mid c' : Connection) (piece : List ℕ) (answer done : Result (Unit {0}) Error)
    → c.failed ≡ false → done ≡ answer → EndsOn answer mid c' → TakesWholePiece p c piece answer mid
    → FeedsPiece p c piece done c'
fed_call p c mid c' piece (Ok u) done f d h t = record {
  call = call_answer p c mid c' piece (let r : Result (Unit {0}) Error = Ok u in r) done d t.within h t.fixed t.keeps
      t.drawn t.serves tt;
  fed = fed_answer (p.says c.session.config.now) c c' mid piece (Ok u) done f d h t.fixed.1 t.live t.settled t.takes;
}
fed_call p c mid c' piece (Err e) done f d h t = record {
  call = call_answer p c mid c' piece (let r : Result (Unit {0}) Error = Err e in r) done d tt h t.fixed t.keeps t.drawn
      tt t.fails;
  fed = fed_answer (p.says c.session.config.now) c c' mid piece (Err e) done f d tt t.fixed.1 tt tt tt;
}

not_memory : (lends : Bool) (done : Result Bool Error) → done ≡ Ok lends → done ≡ Err Memory → ⊥
not_memory lends done d m = let e : (let r : Result Bool Error = Ok lends in r) ≡ Err Memory = sym d ∙ m in cc

is_memory : (e : Error) (done : Result Bool Error) → done ≡ Err e → done ≡ Err Memory → e ≡ Memory
is_memory e done d m = let x : (let r : Result Bool Error = Err e in r) ≡ Err Memory = sym d ∙ m in cc

pub polled_call : (p : PartsCall) (c mid c' : Connection) (answer done : Result Bool Error) → c.failed ≡ false
    → done ≡ answer → EndsOn answer mid c' → TakesKept false p c answer mid → PollsPayload p c done c'
polled_call p c mid c' (Ok lends) done f d h t = record {
  call = call_answer p c mid c' [] (let r : Result Bool Error = Ok lends in r) done d t.within h t.fixed t.keeps t.drawn
      t.serves tt;
  polled = polled_answer (p.says c.session.config.now) c c' mid (Ok lends) done f d h t.fixed.1 t.live t.settled
      t.takes;
  wants = λ g m. absurd (not_memory lends done d m);
  unqueued = ap (λ (x : Connection). x.delivered.items) h ∙ unqueued_by lends t.takes;
} where
  unqueued_by : (l : Bool) → Rattle.ssh_transport.specs.Taking.TakesPayload (p.says c.session.config.now) c l mid
      → mid.delivered.items ≡ c.delivered.items
  unqueued_by true k = ap (λ v. v.items) (k.lends.unqueued ∙ k.unqueued)
  unqueued_by false k = ap (λ v. v.items) k.1
polled_call p c mid c' (Err e) done f d h t = record {
  call = call_answer p c mid c' [] (let r : Result Bool Error = Err e in r) done d tt h k.fixed k.keeps k.drawn tt
      k.fails;
  polled = polled_answer (p.says c.session.config.now) c c' mid (Err e) done f d tt k.fixed.1 tt tt tt;
  wants = λ g m. k.wants refl (is_memory e done d m);
  unqueued = h.breaks.delivered ∙ k.unqueued refl;
} where
  k : FailsTaking false p c [] e mid
  k = t []
