-- Both directions of a channel at every moment.
use Rattle.std.proofs.Common.{◌≡◌, ℕ, zero, suc, ◌+◌, ◌-◌, ◌*◌, ◌≤◌, ◌<◌, ◌^◌, min, nat_le, nat_lt, ◌&&◌, ◌||◌, Bool, true, false, not, if◌then◌else◌, List, [], ◌∷◌, ◌++◌, length, map, take, drop, Option, Some, None, ◌⊎◌, inl, inr, refl, sym, ap, ◌∙◌, subst, append_assoc, append-nil, length-append, arith}
use Rattle.std.proofs.lemmas.List.{length-take-le, take-append-drop}
use Rattle.std.proofs.lemmas.Bool.{and_parts}
use Rattle.ssh_channels.specs.Phases.{Message, Open, Confirmation, Failure, Adjust, Data, Eof, Close, Phase, Silent, Talking, Ended, Shut, Failed, behind, data_in, data_of, grants_in, has_told, is_live, may_send, next}
use Rattle.ssh_channels.specs.Ends.{Call, CallClose, CallEof, Calls, End, IsTooMuch, Read, Receives, Sends, Write, after_close, after_eof, all_gone, can_send, closes_now, ends_now, goes, has_ended, is_open, is_there, taken, tells}
use Rattle.ssh_channels.specs.Conversation.{Moves, OpenerCalls, OpenerHears, OtherCalls, OtherHears, Talk, opened}
use Rattle.ssh_channels.specs.Laws.{AreSettings, Goes, IsPrefixOf, Reached}
use Rattle.ssh_channels.proofs.Sending.{Each, IsSmall, IsTelling, Sent, sent_is}
use Rattle.ssh_channels.proofs.Ways.{Way, due, known, told_by, way_back, way_sends, writes}
use Rattle.ssh_channels.proofs.Hearing.{accepting, back_adjust, back_close, back_confirmation, back_data, back_eof, back_failure, back_open, back_refusing, closed_by_other, having_read, hears_adjust, hears_close, hears_confirmation, hears_data, hears_eof, hears_failure, hears_open, hears_refusing, reads_back, reads_on, refusing}

-- Both directions, between an end e that answers the opening or not and its peer p: what goes from e to p, and back.
pub record Pair (answers : Bool) (e p : End) (ep pe : List Message) : Type 0 where
  pub out : Way answers e p ep pe
  pub back : Way (not answers) p e pe ep

-- what the end keeps of itself: before it heard of the channel it said nothing, where it answers
abbrev pub Answering : Bool → End → Type 0
Answering false e = Unit {0}
Answering true e = e.heard ≡ Silent → e.said ≡ Silent

pub record Joint (t : Talk) : Type 0 where
  pub out : Way false t.opener t.other t.to_other t.to_opener
  pub back : Way true t.other t.opener t.to_opener t.to_other
  pub answering : t.other.heard ≡ Silent → t.other.said ≡ Silent

pub joint_first : (w m v k : ℕ) → Joint (opened w m v k)
joint_first w m v k = record {
  out = record { bytes = refl; within = omega arith; passed = omega arith; grants = refl; phase = refl; small = (tt, tt); telling = tt; largest = refl; told = omega arith; read = omega arith; silent = λ h. refl };
  back = record { bytes = refl; within = omega arith; passed = omega arith; grants = omega arith; phase = refl; small = tt; telling = (refl, tt); largest = refl; told = omega arith; read = omega arith; silent = λ h. refl };
  answering = λ h. refl;
}

-- an end sends: both directions
pub sends : (a b : Bool) (e p : End) (ep pe messages : List Message) (e' : End) → Way a e p ep pe → Way b p e pe ep → Sends e messages e' → Way a e' p (ep ++ messages) pe × Way b p e' pe (ep ++ messages)
sends a b e p ep pe messages e' out back s = (way_sends a e p ep pe messages e' out s, way_back b p e pe ep messages e' back s)

-- nothing goes out of an end that heard nothing
pub silent_said : (old : End) (messages : List Message) (new : End) → is_live old.heard ≡ false → Sends old messages new → new.said ≡ old.said
silent_said old messages new h s =
    let mid = s.mid in
    let said_mid : mid.said ≡ old.said = ap (λ e. e.said) s.sent.new_is in
    let heard_mid : is_live mid.heard ≡ false = ap (λ e. is_live e.heard) s.sent.new_is ∙ h in
    let first : after_eof mid ≡ mid = no_end mid heard_mid in
    let second : after_close mid ≡ mid = no_close mid heard_mid in
    ap (λ e. e.said) s.new_is ∙ (ap (λ e. (after_close e).said) first ∙ (ap (λ e. e.said) second ∙ said_mid))
  where
    and_no : (t u : Bool) → u ≡ false → (t && u) ≡ false
    and_no true u e = e
    and_no false u e = refl

    no_end : (e : End) → is_live e.heard ≡ false → after_eof e ≡ e
    no_end e q = ap (λ t. if t && (e.eof_called && all_gone e) then record e { said = Ended } else e) (and_no (may_send e.said) (is_live e.heard) q)

    no_close : (e : End) → is_live e.heard ≡ false → after_close e ≡ e
    no_close e q = ap (λ t. if t && (e.close_called && all_gone e) then record e { said = Shut } else e) (and_no (is_live e.said) (is_live e.heard) q)

-- a call
pub calls : (a b : Bool) (call : Call) (e p : End) (ep pe messages : List Message) (e' : End) → Way a e p ep pe → Way b p e pe ep → Calls call e messages e' → Way a e' p (ep ++ messages) pe × Way b p e' pe (ep ++ messages)
calls a b (Write bytes) e p ep pe messages e' out back c =
    sends a b (record e { written = e.written ++ bytes }) p ep pe messages e' (writes a e p ep pe bytes out) (still_back (e.written ++ bytes)) c.1
  where
    still_back : (written : List ℕ) → Way b p (record e { written = written }) pe ep
    still_back written = record { bytes = back.bytes; within = back.within; passed = back.passed; grants = back.grants; phase = back.phase; small = back.small; telling = back.telling; largest = back.largest; told = back.told; read = back.read; silent = back.silent }
calls a b CallEof e p ep pe messages e' out back c =
    sends a b (record e { eof_called = true }) p ep pe messages e'
    (record { bytes = out.bytes; within = out.within; passed = out.passed; grants = out.grants; phase = out.phase; small = out.small; telling = out.telling; largest = out.largest; told = out.told; read = out.read; silent = out.silent })
    (record { bytes = back.bytes; within = back.within; passed = back.passed; grants = back.grants; phase = back.phase; small = back.small; telling = back.telling; largest = back.largest; told = back.told; read = back.read; silent = back.silent }) c.1
calls a b CallClose e p ep pe messages e' out back c =
    sends a b (record e { close_called = true }) p ep pe messages e'
    (record { bytes = out.bytes; within = out.within; passed = out.passed; grants = out.grants; phase = out.phase; small = out.small; telling = out.telling; largest = out.largest; told = out.told; read = out.read; silent = out.silent })
    (record { bytes = back.bytes; within = back.within; passed = back.passed; grants = back.grants; phase = back.phase; small = back.small; telling = back.telling; largest = back.largest; told = back.told; read = back.read; silent = back.silent }) c.2
calls a b (Read n) e p ep pe messages e' out back c =
    let x = reads_back a e p ep pe n out in
    let y = reads_on b p e pe ep n back in
    let m = sym c.0 in (
      subst (λ l. Way a e' p (ep ++ l) pe) m (subst (λ f. Way a f p (ep ++ (if tells e n then Adjust (taken e n) ∷ [] else [])) pe) (sym c.1) x),
      subst (λ l. Way b p e' pe (ep ++ l)) m (subst (λ f. Way b p f pe (ep ++ (if tells e n then Adjust (taken e n) ∷ [] else []))) (sym c.1) y),
    )

-- of an end that was heard of, `heard` and what it keeps
pub call_heard : (call : Call) (e : End) (messages : List Message) (e' : End) → Calls call e messages e' → e'.heard ≡ e.heard
call_heard (Write bytes) e messages e' c = (sent_is (record e { written = e.written ++ bytes }) messages e' c.1).same.heard
call_heard CallEof e messages e' c = (sent_is (record e { eof_called = true }) messages e' c.1).same.heard
call_heard CallClose e messages e' c = (sent_is (record e { close_called = true }) messages e' c.2).same.heard
call_heard (Read n) e messages e' c = ap (λ f. f.heard) c.1

-- no message: what stands behind stays
none_behind : (a b : Bool) (e p : End) (ep pe messages : List Message) (e1 e' : End) → messages ≡ [] → e' ≡ e1 → Way a e1 p ep pe → Way b p e1 pe ep → Way a e' p (ep ++ messages) pe × Way b p e' pe (ep ++ messages)
none_behind a b e p ep pe messages e1 e' m s x y =
    let l : ep ≡ ep ++ messages = sym (ap (λ k. ep ++ k) m ∙ append-nil ep) in
    (subst (λ k. Way a e' p k pe) l (subst (λ f. Way a f p ep pe) (sym s) x), subst (λ k. Way b p e' pe k) l (subst (λ f. Way b p f pe ep) (sym s) y))

-- A message comes to the opener, which answers none.
pub opener_hears : (m : Message) (e p : End) (ep rest messages : List Message) (e' : End) → Way false e p ep (m ∷ rest) → Way true p e (m ∷ rest) ep → Receives m e messages e' → Way false e' p (ep ++ messages) rest × Way true p e' rest (ep ++ messages)
opener_hears (Open n k) e p ep rest messages e' out back r = let d = due true p e (Open n k) rest ep back in absurd (never e.heard d.0 n k d.1)
  where
    never : (h q : Phase) (n k : ℕ) → next true h (Open n k) ≡ Some q → ⊥
    never Silent q n k h = cc
    never Talking q n k h = cc
    never Ended q n k h = cc
    never Shut q n k h = cc
    never Failed q n k h = cc
opener_hears (Confirmation n k) e p ep rest messages e' out back r =
    sends false true (record e { heard = Talking; granted = n; largest = k }) p ep rest messages e' (back_confirmation false true e p rest ep n k back out) (hears_confirmation true p e rest ep n k back) r
opener_hears Failure e p ep rest messages e' out back r =
    none_behind false true e p ep rest messages (record e { heard = Failed }) e' r.0 r.1 (back_failure false true e p rest ep back out) (hears_failure true p e rest ep back)
opener_hears (Adjust n) e p ep rest messages e' out back r =
    sends false true (record e { granted = e.granted + n }) p ep rest messages e' (back_adjust false true e p rest ep n back out) (hears_adjust true p e rest ep n back) r
opener_hears (Data bytes) e p ep rest messages e' out back r =
    none_behind false true e p ep rest messages (record e { received = e.received ++ bytes }) e' r.0 r.1 (back_data false e p rest ep bytes out) (hears_data true p e rest ep bytes back)
opener_hears Eof e p ep rest messages e' out back r =
    none_behind false true e p ep rest messages (record e { heard = Ended; ended = true }) e' r.0 r.1 (back_eof false true e p rest ep back out) (hears_eof true p e rest ep back)
opener_hears Close e p ep rest messages e' out back r =
    let x = back_close false true e p rest ep back out in
    let y = hears_close true p e rest ep back in
    let m = sym r.0 in (
      subst (λ l. Way false e' p (ep ++ l) rest) m (subst (λ f. Way false f p (ep ++ (if is_live e.said then Close ∷ [] else [])) rest) (sym r.1) x),
      subst (λ l. Way true p e' rest (ep ++ l)) m (subst (λ f. Way true p f rest (ep ++ (if is_live e.said then Close ∷ [] else []))) (sym r.1) y),
    )

-- A message comes to the other.
pub other_hears : (m : Message) (e p : End) (ep rest messages : List Message) (e' : End) → (e.heard ≡ Silent → e.said ≡ Silent) → Way true e p ep (m ∷ rest) → Way false p e (m ∷ rest) ep → Receives m e messages e' → Way true e' p (ep ++ messages) rest × Way false p e' rest (ep ++ messages)
other_hears (Open n k) e p ep rest messages e' known_silent out back r =
    let d = due false p e (Open n k) rest ep back in
    let said : e.said ≡ Silent = known_silent (opens_silent e.heard d.0 d.1) in
    elim r [
      | inl x ↦ (
        subst (λ l. Way true e' p (ep ++ l) rest) (sym x.0) (subst (λ f. Way true f p (ep ++ Confirmation e.window e.most ∷ []) rest) (sym x.1) (back_open e p rest ep n k back out said)),
        subst (λ l. Way false p e' rest (ep ++ l)) (sym x.0) (subst (λ f. Way false p f rest (ep ++ Confirmation e.window e.most ∷ [])) (sym x.1) (hears_open p e rest ep n k back said)),
      )
      | inr x ↦ (
        subst (λ l. Way true e' p (ep ++ l) rest) (sym x.0) (subst (λ f. Way true f p (ep ++ Failure ∷ []) rest) (sym x.1) (back_refusing e p rest ep n k back out said)),
        subst (λ l. Way false p e' rest (ep ++ l)) (sym x.0) (subst (λ f. Way false p f rest (ep ++ Failure ∷ [])) (sym x.1) (hears_refusing p e rest ep n k back said)),
      )
    ]
  where
    opens_silent : (h q : Phase) → next false h (Open n k) ≡ Some q → h ≡ Silent
    opens_silent Silent q z = refl
    opens_silent Talking q z = cc
    opens_silent Ended q z = cc
    opens_silent Shut q z = cc
    opens_silent Failed q z = cc
other_hears (Confirmation n k) e p ep rest messages e' known_silent out back r =
    sends true false (record e { heard = Talking; granted = n; largest = k }) p ep rest messages e' (back_confirmation true false e p rest ep n k back out) (hears_confirmation false p e rest ep n k back) r
other_hears Failure e p ep rest messages e' known_silent out back r =
    none_behind true false e p ep rest messages (record e { heard = Failed }) e' r.0 r.1 (back_failure true false e p rest ep back out) (hears_failure false p e rest ep back)
other_hears (Adjust n) e p ep rest messages e' known_silent out back r =
    sends true false (record e { granted = e.granted + n }) p ep rest messages e' (back_adjust true false e p rest ep n back out) (hears_adjust false p e rest ep n back) r
other_hears (Data bytes) e p ep rest messages e' known_silent out back r =
    none_behind true false e p ep rest messages (record e { received = e.received ++ bytes }) e' r.0 r.1 (back_data true e p rest ep bytes out) (hears_data false p e rest ep bytes back)
other_hears Eof e p ep rest messages e' known_silent out back r =
    none_behind true false e p ep rest messages (record e { heard = Ended; ended = true }) e' r.0 r.1 (back_eof true false e p rest ep back out) (hears_eof false p e rest ep back)
other_hears Close e p ep rest messages e' known_silent out back r =
    let x = back_close true false e p rest ep back out in
    let y = hears_close false p e rest ep back in
    let m = sym r.0 in (
      subst (λ l. Way true e' p (ep ++ l) rest) m (subst (λ f. Way true f p (ep ++ (if is_live e.said then Close ∷ [] else [])) rest) (sym r.1) x),
      subst (λ l. Way false p e' rest (ep ++ l)) m (subst (λ f. Way false p f rest (ep ++ (if is_live e.said then Close ∷ [] else []))) (sym r.1) y),
    )

-- behind a message that was due the other end has heard of the channel
pub hears_some : (m : Message) (e : End) (messages : List Message) (e' : End) (q : Phase) → next false e.heard m ≡ Some q → Receives m e messages e' → e'.heard ≡ Silent → ⊥
hears_some (Open n k) e messages e' q d r h = elim r [
  | inl x ↦ let both : Talking ≡ Silent = sym (ap (λ f. f.heard) x.1) ∙ h in cc
  | inr x ↦ let both : Talking ≡ Silent = sym (ap (λ f. f.heard) x.1) ∙ h in cc
]
hears_some (Confirmation n k) e messages e' q d r h = let s : e'.heard ≡ Talking = (sent_is (record e { heard = Talking; granted = n; largest = k }) messages e' r).same.heard in let both : Talking ≡ Silent = sym s ∙ h in cc
hears_some Failure e messages e' q d r h = let both : Failed ≡ Silent = sym (ap (λ f. f.heard) r.1) ∙ h in cc
hears_some (Adjust n) e messages e' q d r h =
    let s : e'.heard ≡ e.heard = (sent_is (record e { granted = e.granted + n }) messages e' r).same.heard in
    let both : None ≡ Some q = ap (λ p. next false p (Adjust n)) (sym (sym s ∙ h)) ∙ d in cc
hears_some (Data bytes) e messages e' q d r h =
    let s : e'.heard ≡ e.heard = ap (λ f. f.heard) r.1 in
    let both : None ≡ Some q = ap (λ p. next false p (Data bytes)) (sym (sym s ∙ h)) ∙ d in cc
hears_some Eof e messages e' q d r h = let both : Ended ≡ Silent = sym (ap (λ f. f.heard) r.1) ∙ h in cc
hears_some Close e messages e' q d r h = let both : Shut ≡ Silent = sym (ap (λ f. f.heard) r.1) ∙ h in cc

-- each move keeps it
pub joint_next : (old new : Talk) → Joint old → Moves old new → Joint new
joint_next old new j (OpenerCalls call messages e there c n) =
    let w = calls false true call old.opener old.other old.to_other old.to_opener messages e j.out j.back c in
    subst Joint (sym n) (record { out = w.0; back = w.1; answering = j.answering })
joint_next old new j (OtherCalls call messages e there c n) =
    let w = calls true false call old.other old.opener old.to_opener old.to_other messages e j.back j.out c in
    subst Joint (sym n) (record { out = w.1; back = w.0; answering = λ h. absurd (not_there old.other.said (j.answering (sym (call_heard call old.other messages e c) ∙ h)) there) })
  where
    not_there : (p : Phase) → p ≡ Silent → is_there p ≡ true → ⊥
    not_there p s t = let both : false ≡ true = ap is_there (sym s) ∙ t in cc
joint_next old new j (OpenerHears m rest messages e q r n) =
    let out : Way false old.opener old.other old.to_other (m ∷ rest) = subst (λ l. Way false old.opener old.other old.to_other l) q j.out in
    let back : Way true old.other old.opener (m ∷ rest) old.to_other = subst (λ l. Way true old.other old.opener l old.to_other) q j.back in
    let w = opener_hears m old.opener old.other old.to_other rest messages e out back r in
    subst Joint (sym n) (record { out = w.0; back = w.1; answering = j.answering })
joint_next old new j (OtherHears m rest messages e q r n) =
    let out : Way false old.opener old.other (m ∷ rest) old.to_opener = subst (λ l. Way false old.opener old.other l old.to_opener) q j.out in
    let back : Way true old.other old.opener old.to_opener (m ∷ rest) = subst (λ l. Way true old.other old.opener old.to_opener l) q j.back in
    let w = other_hears m old.other old.opener old.to_opener rest messages e j.answering back out r in
    let d = due false old.opener old.other m rest old.to_opener out in
    subst Joint (sym n) (record { out = w.1; back = w.0; answering = λ h. absurd (hears_some m old.other messages e d.0 d.1 r h) })

pub joint : (mids : List Talk) (start t : Talk) → Joint start → Goes mids start t → Joint t
joint [] start t j e = subst Joint (sym e) j
joint (mid ∷ mids) start t j g = joint mids mid t (joint_next start mid j g.0) g.1

-- the windows and the largest packets stay what they were
pub record Fixed (old new : End) : Type 0 where
  pub window : new.window ≡ old.window
  pub most : new.most ≡ old.most

fixed_by : (e e1 e' : End) (messages : List Message) → Fixed e e1 → Sends e1 messages e' → Fixed e e'
fixed_by e e1 e' messages f s = let x = (sent_is e1 messages e' s).same in record { window = x.window ∙ f.window; most = x.most ∙ f.most }

call_fixed : (call : Call) (e : End) (messages : List Message) (e' : End) → Calls call e messages e' → Fixed e e'
call_fixed (Write bytes) e messages e' c = fixed_by e (record e { written = e.written ++ bytes }) e' messages (record { window = refl; most = refl }) c.1
call_fixed CallEof e messages e' c = fixed_by e (record e { eof_called = true }) e' messages (record { window = refl; most = refl }) c.1
call_fixed CallClose e messages e' c = fixed_by e (record e { close_called = true }) e' messages (record { window = refl; most = refl }) c.2
call_fixed (Read n) e messages e' c = record { window = ap (λ f. f.window) c.1; most = ap (λ f. f.most) c.1 }

hear_fixed : (m : Message) (e : End) (messages : List Message) (e' : End) → Receives m e messages e' → Fixed e e'
hear_fixed (Open n k) e messages e' r = elim r [
  | inl x ↦ record { window = ap (λ f. f.window) x.1; most = ap (λ f. f.most) x.1 }
  | inr x ↦ record { window = ap (λ f. f.window) x.1; most = ap (λ f. f.most) x.1 }
]
hear_fixed (Confirmation n k) e messages e' r = fixed_by e (record e { heard = Talking; granted = n; largest = k }) e' messages (record { window = refl; most = refl }) r
hear_fixed Failure e messages e' r = record { window = ap (λ f. f.window) r.1; most = ap (λ f. f.most) r.1 }
hear_fixed (Adjust n) e messages e' r = fixed_by e (record e { granted = e.granted + n }) e' messages (record { window = refl; most = refl }) r
hear_fixed (Data bytes) e messages e' r = record { window = ap (λ f. f.window) r.1; most = ap (λ f. f.most) r.1 }
hear_fixed Eof e messages e' r = record { window = ap (λ f. f.window) r.1; most = ap (λ f. f.most) r.1 }
hear_fixed Close e messages e' r = record { window = ap (λ f. f.window) r.1; most = ap (λ f. f.most) r.1 }

pub record BothFixed (old new : Talk) : Type 0 where
  pub opener : Fixed old.opener new.opener
  pub other : Fixed old.other new.other

same_end : (e : End) → Fixed e e
same_end e = record { window = refl; most = refl }

fixed_next : (old new : Talk) → Moves old new → BothFixed old new
fixed_next old new (OpenerCalls call messages e there c n) = subst (BothFixed old) (sym n) (record { opener = call_fixed call old.opener messages e c; other = same_end old.other })
fixed_next old new (OtherCalls call messages e there c n) = subst (BothFixed old) (sym n) (record { opener = same_end old.opener; other = call_fixed call old.other messages e c })
fixed_next old new (OpenerHears m rest messages e q r n) = subst (BothFixed old) (sym n) (record { opener = hear_fixed m old.opener messages e r; other = same_end old.other })
fixed_next old new (OtherHears m rest messages e q r n) = subst (BothFixed old) (sym n) (record { opener = same_end old.opener; other = hear_fixed m old.other messages e r })

pub fixed : (mids : List Talk) (start t : Talk) → Goes mids start t → BothFixed start t
fixed [] start t e = subst (BothFixed start) (sym e) (record { opener = same_end start.opener; other = same_end start.other })
fixed (mid ∷ mids) start t g =
    let a = fixed_next start mid g.0 in
    let b = fixed mids mid t g.1 in
    record {
      opener = record { window = b.opener.window ∙ a.opener.window; most = b.opener.most ∙ a.opener.most };
      other = record { window = b.other.window ∙ a.other.window; most = b.other.most ∙ a.other.most };
    }

-- what was received is a front of what was written
pub front : (a : Bool) (s r : End) (sr rs : List Message) → Way a s r sr rs → IsPrefixOf r.received s.written
front a s r sr rs w = (
  data_in sr ++ drop s.gone s.written,
  sym (append_assoc r.received (data_in sr) (drop s.gone s.written)) ∙ (ap (λ l. l ++ drop s.gone s.written) w.bytes ∙ take-append-drop s.gone s.written),
)

pub comes_in_order : (w m v k : ℕ) (t : Talk) → Reached (opened w m v k) t → IsPrefixOf t.other.received t.opener.written × IsPrefixOf t.opener.received t.other.written
comes_in_order w m v k t g =
    let j = joint g.0 (opened w m v k) t (joint_first w m v k) g.1 in
    (front false t.opener t.other t.to_other t.to_opener j.out, front true t.other t.opener t.to_opener t.to_other j.back)

told_most : (e : End) → told_by e ≤ e.window + e.told
told_most e = step (has_told e.said)
  where
    step : (t : Bool) → (if t then e.window + e.told else 0) ≤ e.window + e.told
    step true = omega arith
    step false = omega arith

within_told : (a : Bool) (s r : End) (sr rs : List Message) → Way a s r sr rs → s.granted ≤ r.window + r.told
within_told a s r sr rs w = let g = w.grants in let t = told_most r in omega arith

pub keeps_windows : (w m v k : ℕ) (t : Talk) → Reached (opened w m v k) t
    → (t.opener.gone ≤ t.opener.granted) × (t.opener.granted ≤ v + t.other.told) × (t.other.gone ≤ t.other.granted)
    × (t.other.granted ≤ w + t.opener.told) × (t.other.told ≤ t.other.read) × (t.opener.told ≤ t.opener.read)
keeps_windows w m v k t g =
    let j = joint g.0 (opened w m v k) t (joint_first w m v k) g.1 in
    let f = fixed g.0 (opened w m v k) t g.1 in
    let there : t.other.window ≡ v = f.other.window in
    let here : t.opener.window ≡ w = f.opener.window in
    let a = within_told false t.opener t.other t.to_other t.to_opener j.out in
    let b = within_told true t.other t.opener t.to_opener t.to_other j.back in
    (j.out.passed, omega arith, j.back.passed, omega arith, j.out.told, j.back.told)

-- no message is too much
pub received_gone : (a : Bool) (s r : End) (sr rs : List Message) → Way a s r sr rs → length r.received + length (data_in sr) ≡ s.gone
received_gone a s r sr rs w =
    let b : length (r.received ++ data_in sr) ≡ length (take s.gone s.written) = ap length w.bytes in
    let c = length-take-le s.gone s.written w.within in
    let d = length-append r.received (data_in sr) in
    omega arith

pub not_much : (a b : Bool) (s r : End) (m : Message) (rest rs : List Message) → s.window ≤ 2 ^ 30 → Way a s r (m ∷ rest) rs → Way b r s rs (m ∷ rest) → IsTooMuch m r → ⊥
not_much a b s r (Open n k) rest rs small w v h = h
not_much a b s r (Confirmation n k) rest rs small w v h = h
not_much a b s r Failure rest rs small w v h = h
not_much a b s r (Adjust n) rest rs small w v h =
    let g = v.grants in let t = told_most s in let x = v.told in let y = v.read in let p = v.passed in let z = received_gone b r s rs (Adjust n ∷ rest) v in
    omega arith
not_much a b s r (Data bytes) rest rs small w v h =
    let x = w.small.0 in
    let z = received_gone a s r (Data bytes ∷ rest) rs w in
    let l = length-append bytes (data_in rest) in
    let p = w.passed in
    let t = within_told a s r (Data bytes ∷ rest) rs w in
    elim h [
      | inl q ↦ omega arith
      | inr q ↦ omega arith
    ]
not_much a b s r Eof rest rs small w v h = h
not_much a b s r Close rest rs small w v h = h

pub nothing_refused : (w m v k : ℕ) → AreSettings w m v k → (t : Talk) → Reached (opened w m v k) t
    → ((message : Message) (rest : List Message) → t.to_other ≡ message ∷ rest
    → ((p : Phase) × (next false t.other.heard message ≡ Some p)) × (IsTooMuch message t.other → ⊥))
    × ((message : Message) (rest : List Message) → t.to_opener ≡ message ∷ rest
    → ((p : Phase) × (next true t.opener.heard message ≡ Some p)) × (IsTooMuch message t.opener → ⊥))
nothing_refused w m v k are t g =
    let j = joint g.0 (opened w m v k) t (joint_first w m v k) g.1 in
    let f = fixed g.0 (opened w m v k) t g.1 in
    let there : t.other.window ≤ 2 ^ 30 = (let x = f.other.window in let y = are.of_other in omega arith) in
    let here : t.opener.window ≤ 2 ^ 30 = (let x = f.opener.window in let y = are.of_opener in omega arith) in (
      λ message rest q.
          let out : Way false t.opener t.other (message ∷ rest) t.to_opener = subst (λ l. Way false t.opener t.other l t.to_opener) q j.out in
          let back : Way true t.other t.opener t.to_opener (message ∷ rest) = subst (λ l. Way true t.other t.opener t.to_opener l) q j.back in
          let d = due false t.opener t.other message rest t.to_opener out in
          ((d.0, d.1), not_much false true t.opener t.other message rest t.to_opener here out back),
      λ message rest q.
          let out : Way false t.opener t.other t.to_other (message ∷ rest) = subst (λ l. Way false t.opener t.other t.to_other l) q j.out in
          let back : Way true t.other t.opener (message ∷ rest) t.to_other = subst (λ l. Way true t.other t.opener l t.to_other) q j.back in
          let d = due true t.other t.opener message rest t.to_other back in
          ((d.0, d.1), not_much true false t.other t.opener message rest t.to_other there back out),
    )
