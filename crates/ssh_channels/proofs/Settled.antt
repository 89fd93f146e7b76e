-- What may go out has gone out.
use Rattle.std.proofs.Common.{◌≡◌, ℕ, zero, suc, ◌+◌, ◌-◌, ◌*◌, ◌≤◌, ◌<◌, ◌^◌, min, nat_le, nat_lt, ◌&&◌, ◌||◌, Bool, true, false, not, if◌then◌else◌, List, [], ◌∷◌, ◌++◌, length, map, take, drop, Option, Some, None, ◌⊎◌, inl, inr, refl, sym, ap, ◌∙◌, subst, append_assoc, append-nil, length-append, arith}
use Rattle.std.proofs.lemmas.Bool.{and_parts}
use Rattle.std.proofs.lemmas.Bool.Decides.{nat_tests}
use Rattle.ssh_channels.specs.Phases.{Message, Open, Confirmation, Failure, Adjust, Data, Eof, Close, Phase, Silent, Talking, Ended, Shut, Failed, behind, data_in, data_of, grants_in, has_told, is_live, may_send, next}
use Rattle.ssh_channels.specs.Phases.{is_refused}
use Rattle.ssh_channels.specs.Ends.{Call, CallClose, CallEof, Calls, End, IsTooMuch, Read, Receives, Sends, Write, after_close, after_eof, all_gone, can_send, closes_now, ends_now, goes, has_ended, is_open, is_there, taken, tells}
use Rattle.ssh_channels.specs.Conversation.{Moves, OpenerCalls, OpenerHears, OtherCalls, OtherHears, Talk, opened}
use Rattle.ssh_channels.specs.Laws.{AreSettings, Goes, Reached}
use Rattle.ssh_channels.proofs.Sending.{Sent, sent_is, talking}
use Rattle.ssh_channels.proofs.Ways.{Way, due, known, told_by}
use Rattle.ssh_channels.proofs.Joint.{BothFixed, Joint, fixed, joint, joint_first, joint_next}

pub record Flow (e : End) : Type 0 where
  pub within : e.gone ≤ length e.written
  pub full : can_send e ≡ true → 0 < e.largest → e.gone ≡ min (length e.written) e.granted
  pub end_gone : e.said ≡ Ended → e.gone ≡ length e.written
  pub end_called : e.said ≡ Ended → e.eof_called ≡ true
  pub no_end : ends_now e ≡ false
  pub no_close : closes_now e ≡ false
  pub told_all : is_live e.said ≡ true → e.told ≡ e.read
  pub untouched : has_told e.said ≡ false → (e.written ≡ []) × (e.eof_called ≡ false) × (e.close_called ≡ false)

-- what an end must keep before it sends
pub record Ready (e : End) : Type 0 where
  pub within : e.gone ≤ length e.written
  pub end_gone : e.said ≡ Ended → e.gone ≡ length e.written
  pub end_called : e.said ≡ Ended → e.eof_called ≡ true
  pub told_all : is_live e.said ≡ true → e.told ≡ e.read
  pub untouched : has_told e.said ≡ false → (e.written ≡ []) × (e.eof_called ≡ false) × (e.close_called ≡ false)

goes_in : (e : End) → e.gone ≤ length e.written → goes e ≤ length e.written
goes_in e h = step (can_send e && nat_lt 0 e.largest) refl
  where
    step : (t : Bool) → (can_send e && nat_lt 0 e.largest) ≡ t → (if t then min (length e.written) e.granted else e.gone) ≤ length e.written
    step true q = omega arith
    step false q = h

goes_full : (e : End) → can_send e ≡ true → 0 < e.largest → goes e ≡ min (length e.written) e.granted
goes_full e h k =
    let some : nat_lt 0 e.largest ≡ true = grind (arith, nat_tests) in
    ap (λ t. if t && nat_lt 0 e.largest then min (length e.written) e.granted else e.gone) h ∙ ap (λ t. if t then min (length e.written) e.granted else e.gone) some

goes_ended : (e : End) → e.said ≡ Ended → goes e ≡ e.gone
goes_ended e h = ap (λ p. if (may_send p && is_live e.heard) && nat_lt 0 e.largest then min (length e.written) e.granted else e.gone) h

-- behind what goes out
pub flow_mid : (e : End) → Ready e → Flow (after_close (after_eof (record e { gone = goes e })))
flow_mid e r = step (ends_now mid) refl
  where
    mid : End
    mid = record e { gone = goes e }

    within : goes e ≤ length e.written
    within = goes_in e r.within

    shut : (x : End) → x.gone ≤ length x.written → Flow (record x { said = Shut })
    shut x w = record { within = w; full = λ h. cc; end_gone = λ h. cc; end_called = λ h. cc; no_end = refl; no_close = refl; told_all = λ h. cc; untouched = λ h. cc }

    last : (x : End) (u : Bool) → closes_now x ≡ u → x.gone ≤ length x.written → (closes_now x ≡ false → Flow x) → Flow (if u then record x { said = Shut } else x)
    last x true d w f = shut x w
    last x false d w f = f d

    when_ended : ends_now mid ≡ true → Flow (after_close (record mid { said = Ended }))
    when_ended h =
        let both = and_parts (can_send mid) (mid.eof_called && all_gone mid) h in
        let tests = and_parts mid.eof_called (all_gone mid) both.1 in
        let is : mid.said ≡ Talking = talking mid.said (and_parts (may_send mid.said) (is_live mid.heard) both.0).0 in
        let gone : mid.gone ≡ length mid.written = let t = tests.1 in grind (arith, nat_tests) in
        last (record mid { said = Ended }) (closes_now (record mid { said = Ended })) refl within (λ d. record {
          within = within;
          full = λ q. cc;
          end_gone = λ q. gone;
          end_called = λ q. tests.0;
          no_end = refl;
          no_close = d;
          told_all = λ q. r.told_all (ap is_live is);
          untouched = λ q. cc;
        })

    when_not : ends_now mid ≡ false → Flow (after_close mid)
    when_not h = last mid (closes_now mid) refl within (λ d. record {
      within = within;
      full = λ q k. goes_full e q k;
      end_gone = λ q. goes_ended e q ∙ r.end_gone q;
      end_called = r.end_called;
      no_end = h;
      no_close = d;
      told_all = r.told_all;
      untouched = r.untouched;
    })

    step : (t : Bool) → ends_now mid ≡ t → Flow (after_close (if t then record mid { said = Ended } else mid))
    step true h = when_ended h
    step false h = when_not h

pub flow_sent : (e : End) (messages : List Message) (e' : End) → Ready e → Sends e messages e' → Flow e'
flow_sent e messages e' r s = subst Flow (sym (s.new_is ∙ ap (λ x. after_close (after_eof x)) s.sent.new_is)) (flow_mid e r)

ready : (e : End) → Flow e → Ready e
ready e f = record { within = f.within; end_gone = f.end_gone; end_called = f.end_called; told_all = f.told_all; untouched = f.untouched }

pub there_told : (p : Phase) → is_there p ≡ true → has_told p ≡ true
there_told Silent h = cc
there_told Talking h = refl
there_told Ended h = refl
there_told Shut h = refl
there_told Failed h = cc

or_parts : (a b : Bool) → (a || b) ≡ false → (a ≡ false) × (b ≡ false)
or_parts true b h = cc
or_parts false b h = (refl, h)

-- a call on a channel that is there
pub flow_call : (call : Call) (e : End) (messages : List Message) (e' : End) → Flow e → is_there e.said ≡ true → Calls call e messages e' → Flow e'
flow_call (Write bytes) e messages e' f there c =
    let told = there_told e.said there in
    let open_end : e.eof_called ≡ false = (or_parts e.eof_called (e.close_called || is_refused e.heard) c.0).0 in
    flow_sent (record e { written = e.written ++ bytes }) messages e' (record {
      within = (let w = f.within in let l = length-append e.written bytes in omega arith);
      end_gone = λ q. let both : false ≡ true = sym open_end ∙ f.end_called q in cc;
      end_called = f.end_called;
      told_all = f.told_all;
      untouched = λ q. let both : true ≡ false = sym told ∙ q in cc;
    }) c.1
flow_call CallEof e messages e' f there c =
    let told = there_told e.said there in
    flow_sent (record e { eof_called = true }) messages e' (record {
      within = f.within;
      end_gone = f.end_gone;
      end_called = λ q. refl;
      told_all = f.told_all;
      untouched = λ q. let both : true ≡ false = sym told ∙ q in cc;
    }) c.1
flow_call CallClose e messages e' f there c =
    let told = there_told e.said there in
    flow_sent (record e { close_called = true }) messages e' (record {
      within = f.within;
      end_gone = f.end_gone;
      end_called = f.end_called;
      told_all = f.told_all;
      untouched = λ q. let both : true ≡ false = sym told ∙ q in cc;
    }) c.2
flow_call (Read n) e messages e' f there c = subst Flow (sym c.1) (record {
  within = f.within;
  full = f.full;
  end_gone = f.end_gone;
  end_called = f.end_called;
  no_end = f.no_end;
  no_close = f.no_close;
  told_all = λ q. told (is_live e.said) (nat_lt 0 (taken e n)) refl q;
  untouched = f.untouched;
})
  where
    none : (t : Bool) → nat_lt 0 (taken e n) ≡ t → t ≡ false → taken e n ≡ 0
    none true h k = cc
    none false h k = grind (arith, nat_tests)

    told : (t u : Bool) → nat_lt 0 (taken e n) ≡ u → is_live e.said ≡ true → (if is_live e.said && u then e.told + taken e n else e.told) ≡ e.read + taken e n
    told t true h q = let a = f.told_all q in ap (λ x. if x && true then e.told + taken e n else e.told) q ∙ omega arith
    told t false h q = let a = f.told_all q in let z = none false h refl in ap (λ x. if x && false then e.told + taken e n else e.told) q ∙ omega arith

dead_full : (e : End) → is_live e.heard ≡ false → can_send e ≡ true → ⊥
dead_full e h k = let both : false ≡ true = sym h ∙ (and_parts (may_send e.said) (is_live e.heard) k).1 in cc

and_dead : (a b c : Bool) → b ≡ false → ((a && b) && c) ≡ false
and_dead true b c h = ap (λ t. t && c) h
and_dead false b c h = refl

-- a message that is due
pub flow_hear : (a : Bool) (m : Message) (e : End) (messages : List Message) (e' : End) (q : Phase) → Flow e → (a ≡ false → e.heard ≡ Silent → (e.said ≡ Silent) × (e.told ≡ e.read)) → next a e.heard m ≡ Some q → Receives m e messages e' → Flow e'
flow_hear true (Open n k) e messages e' q f silent d r = absurd (never e.heard d)
  where
    never : (p : Phase) → next true p (Open n k) ≡ Some q → ⊥
    never Silent h = cc
    never Talking h = cc
    never Ended h = cc
    never Shut h = cc
    never Failed h = cc
flow_hear false (Open n k) e messages e' q f silent d r =
    let was = silent refl (first_heard e.heard d) in
    let u = f.untouched (ap has_told was.0) in
    let none : length e.written ≡ 0 = ap length u.0 in
    let gone : e.gone ≡ 0 = let w = f.within in omega arith in
    elim r [
      | inl x ↦ subst Flow (sym x.1) (record {
        within = f.within;
        full = λ h z. gone ∙ omega arith;
        end_gone = λ h. cc;
        end_called = λ h. cc;
        no_end = ap (λ t. t && all_gone e) u.1;
        no_close = ap (λ t. t && all_gone e) u.2;
        told_all = λ h. was.1;
        untouched = λ h. cc;
      })
      | inr x ↦ subst Flow (sym x.1) (record {
        within = f.within;
        full = λ h. cc;
        end_gone = λ h. cc;
        end_called = λ h. cc;
        no_end = refl;
        no_close = refl;
        told_all = λ h. cc;
        untouched = λ h. u;
      })
    ]
  where
    first_heard : (p : Phase) → next false p (Open n k) ≡ Some q → p ≡ Silent
    first_heard Silent h = refl
    first_heard Talking h = cc
    first_heard Ended h = cc
    first_heard Shut h = cc
    first_heard Failed h = cc
flow_hear a (Confirmation n k) e messages e' q f silent d r = flow_sent (record e { heard = Talking; granted = n; largest = k }) messages e' (record { within = f.within; end_gone = f.end_gone; end_called = f.end_called; told_all = f.told_all; untouched = f.untouched }) r
flow_hear a Failure e messages e' q f silent d r = subst Flow (sym r.1) (record {
  within = f.within;
  full = λ h. absurd (dead_full (record e { heard = Failed }) refl h);
  end_gone = f.end_gone;
  end_called = f.end_called;
  no_end = and_dead (may_send e.said) false (e.eof_called && all_gone e) refl;
  no_close = and_dead (is_live e.said) false (e.close_called && all_gone e) refl;
  told_all = f.told_all;
  untouched = f.untouched;
})
flow_hear a (Adjust n) e messages e' q f silent d r = flow_sent (record e { granted = e.granted + n }) messages e' (record { within = f.within; end_gone = f.end_gone; end_called = f.end_called; told_all = f.told_all; untouched = f.untouched }) r
flow_hear a (Data bytes) e messages e' q f silent d r = subst Flow (sym r.1) (record {
  within = f.within;
  full = f.full;
  end_gone = f.end_gone;
  end_called = f.end_called;
  no_end = f.no_end;
  no_close = f.no_close;
  told_all = f.told_all;
  untouched = f.untouched;
})
flow_hear a Eof e messages e' q f silent d r = subst Flow (sym r.1) (record {
  within = f.within;
  full = λ h. f.full (ap (λ p. may_send e.said && is_live p) (was a e.heard d) ∙ h);
  end_gone = f.end_gone;
  end_called = f.end_called;
  no_end = ap (λ p. (may_send e.said && is_live p) && (e.eof_called && all_gone e)) (sym (was a e.heard d)) ∙ f.no_end;
  no_close = ap (λ p. (is_live e.said && is_live p) && (e.close_called && all_gone e)) (sym (was a e.heard d)) ∙ f.no_close;
  told_all = f.told_all;
  untouched = f.untouched;
})
  where
    was : (a : Bool) (p : Phase) → next a p Eof ≡ Some q → p ≡ Talking
    was true Silent h = cc
    was false Silent h = cc
    was a Talking h = refl
    was a Ended h = cc
    was a Shut h = cc
    was a Failed h = cc
flow_hear a Close e messages e' q f silent d r = subst Flow (sym r.1) (record {
  within = f.within;
  full = λ h. absurd (dead_full (record e { heard = Shut; said = if is_live e.said then Shut else e.said }) refl h);
  end_gone = λ h. absurd (not_ended e.said h);
  end_called = λ h. absurd (not_ended e.said h);
  no_end = and_dead (may_send (if is_live e.said then Shut else e.said)) false (e.eof_called && all_gone e) refl;
  no_close = and_dead (is_live (if is_live e.said then Shut else e.said)) false (e.close_called && all_gone e) refl;
  told_all = λ h. absurd (not_live e.said h);
  untouched = λ h. f.untouched (sym (told e.said) ∙ h);
})
  where
    not_ended : (p : Phase) → (if is_live p then Shut else p) ≡ Ended → ⊥
    not_ended Silent h = cc
    not_ended Talking h = cc
    not_ended Ended h = cc
    not_ended Shut h = cc
    not_ended Failed h = cc

    not_live : (p : Phase) → is_live (if is_live p then Shut else p) ≡ true → ⊥
    not_live Silent h = cc
    not_live Talking h = cc
    not_live Ended h = cc
    not_live Shut h = cc
    not_live Failed h = cc

    told : (p : Phase) → has_told (if is_live p then Shut else p) ≡ has_told p
    told Silent = refl
    told Talking = refl
    told Ended = refl
    told Shut = refl
    told Failed = refl

pub record Flows (t : Talk) : Type 0 where
  pub of_opener : Flow t.opener
  pub of_other : Flow t.other

pub flows_first : (w m v k : ℕ) → Flows (opened w m v k)
flows_first w m v k = record {
  of_opener = record { within = omega arith; full = λ h. cc; end_gone = λ h. cc; end_called = λ h. cc; no_end = refl; no_close = refl; told_all = λ h. refl; untouched = λ h. cc };
  of_other = record { within = omega arith; full = λ h. cc; end_gone = λ h. cc; end_called = λ h. cc; no_end = refl; no_close = refl; told_all = λ h. cc; untouched = λ h. (refl, refl, refl) };
}

-- an answering end that heard nothing has read nothing
unread : (s r : End) (sr rs : List Message) → Way false s r sr rs → Way true r s rs sr → (r.heard ≡ Silent → r.said ≡ Silent) → r.heard ≡ Silent → (r.said ≡ Silent) × (r.told ≡ r.read)
unread s r sr rs out back answering h =
    let said = answering h in
    let g = out.grants in
    let z : told_by r ≡ 0 = ap (λ p. if has_told p then r.window + r.told else 0) said in
    let p = out.passed in
    let gone : s.gone ≡ 0 = omega arith in
    let l : length (r.received ++ data_in sr) ≡ length (take s.gone s.written) = ap length out.bytes in
    let none : length (take s.gone s.written) ≡ 0 = ap (λ n. length (take n s.written)) gone in
    let b = out.told in let c = out.read in
    (said, omega (arith, length-append r.received (data_in sr)))

flows_next : (old new : Talk) → Joint old → Flows old → Moves old new → Flows new
flows_next old new j f (OpenerCalls call messages e there c n) = subst Flows (sym n) (record { of_opener = flow_call call old.opener messages e f.of_opener there c; of_other = f.of_other })
flows_next old new j f (OtherCalls call messages e there c n) = subst Flows (sym n) (record { of_opener = f.of_opener; of_other = flow_call call old.other messages e f.of_other there c })
flows_next old new j f (OpenerHears m rest messages e q r n) =
    let back : Way true old.other old.opener (m ∷ rest) old.to_other = subst (λ l. Way true old.other old.opener l old.to_other) q j.back in
    let d = due true old.other old.opener m rest old.to_other back in
    subst Flows (sym n) (record { of_opener = flow_hear true m old.opener messages e d.0 f.of_opener (λ z. cc) d.1 r; of_other = f.of_other })
flows_next old new j f (OtherHears m rest messages e q r n) =
    let out : Way false old.opener old.other (m ∷ rest) old.to_opener = subst (λ l. Way false old.opener old.other l old.to_opener) q j.out in
    let d = due false old.opener old.other m rest old.to_opener out in
    subst Flows (sym n) (record { of_opener = f.of_opener; of_other = flow_hear false m old.other messages e d.0 f.of_other (λ z h. unread old.opener old.other old.to_other old.to_opener j.out j.back j.answering h) d.1 r })

pub flows : (mids : List Talk) (start t : Talk) → Joint start → Flows start → Goes mids start t → Flows t
flows [] start t j f e = subst Flows (sym e) f
flows (mid ∷ mids) start t j f g = flows mids mid t (joint_next start mid j g.0) (flows_next start mid j f g.0) g.1

-- all has gone out that may
live_told : (p : Phase) → is_live p ≡ true → has_told p ≡ true
live_told Silent h = cc
live_told Talking h = refl
live_told Ended h = refl
live_told Shut h = cc
live_told Failed h = cc

all_out : (s : End) → Flow s → is_live s.said ≡ true → is_live s.heard ≡ true → 0 < s.largest → s.gone ≤ s.granted → s.gone ≡ min (length s.written) s.granted
all_out s f said heard some passed = by_phase s.said refl said
  where
    by_phase : (p : Phase) → s.said ≡ p → is_live p ≡ true → s.gone ≡ min (length s.written) s.granted
    by_phase Silent e h = cc
    by_phase Talking e h = f.full (ap (λ p. may_send p && is_live s.heard) e ∙ heard) some
    by_phase Ended e h = let g = f.end_gone e in omega arith
    by_phase Shut e h = cc
    by_phase Failed e h = cc

all_in : (a b : Bool) (s r : End) → Flow s → Flow r → 0 < r.most → Way a s r [] [] → Way b r s [] [] → is_live s.said ≡ true → is_live r.said ≡ true
    → r.received ≡ take (min (length s.written) (r.window + r.read)) s.written
all_in a b s r fs fr some out back ls lr =
    let heard : Some s.heard ≡ Some r.said = back.phase in
    let same : s.heard ≡ r.said = cc in
    let live : is_live s.heard ≡ true = ap is_live same ∙ lr in
    let largest : s.largest ≡ r.most = out.largest ∙ ap (λ t. if t then r.most else 0) (live_told s.heard live) in
    let gone : s.gone ≡ min (length s.written) s.granted = all_out s fs ls live (omega arith) out.passed in
    let told : told_by r ≡ r.window + r.told = ap (λ t. if t then r.window + r.told else 0) (live_told r.said lr) in
    let granted : s.granted ≡ r.window + r.read = let g = out.grants in let t = fr.told_all lr in omega arith in
    sym (append-nil r.received) ∙ (out.bytes ∙ ap (λ n. take n s.written) (gone ∙ ap (λ n. min (length s.written) n) granted))

pub live_comes : (w m v k : ℕ) → AreSettings w m v k → (t : Talk) → Reached (opened w m v k) t → t.to_other ≡ [] → t.to_opener ≡ [] → is_live t.opener.said ≡ true → is_live t.other.said ≡ true
    → (t.other.received ≡ take (min (length t.opener.written) (v + t.other.read)) t.opener.written)
    × (t.opener.received ≡ take (min (length t.other.written) (w + t.opener.read)) t.other.written)
live_comes w m v k are t g none_out none_back live accepted =
    let j = joint g.0 (opened w m v k) t (joint_first w m v k) g.1 in
    let f = flows g.0 (opened w m v k) t (joint_first w m v k) (flows_first w m v k) g.1 in
    let x = fixed g.0 (opened w m v k) t g.1 in
    let out : Way false t.opener t.other [] [] = subst (λ l. Way false t.opener t.other l []) none_out (subst (λ l. Way false t.opener t.other t.to_other l) none_back j.out) in
    let back : Way true t.other t.opener [] [] = subst (λ l. Way true t.other t.opener l []) none_back (subst (λ l. Way true t.other t.opener t.to_opener l) none_out j.back) in
    let there : t.other.window ≡ v = x.other.window in
    let here : t.opener.window ≡ w = x.opener.window in
    let there_most : 0 < t.other.most = (let a = x.other.most in let b = are.other_packet.0 in omega arith) in
    let here_most : 0 < t.opener.most = (let a = x.opener.most in let b = are.packet.0 in omega arith) in (
      all_in false true t.opener t.other f.of_opener f.of_other there_most out back live accepted ∙ ap (λ n. take (min (length t.opener.written) (n + t.other.read)) t.opener.written) there,
      all_in true false t.other t.opener f.of_other f.of_opener here_most back out accepted live ∙ ap (λ n. take (min (length t.other.written) (n + t.opener.read)) t.other.written) here,
    )
