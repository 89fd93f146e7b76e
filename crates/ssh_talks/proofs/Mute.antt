-- What an end sends that heard no answer, and what a call and a message do to an end.
use Rattle.std.proofs.Common.{◌≡◌, ℕ, ◌+◌, ◌-◌, min, nat_lt, ◌&&◌, Bool, true, false, if◌then◌else◌, List, [], ◌∷◌, ◌++◌, length, take, drop, Option, Some, None, refl, sym, ap, ◌∙◌, subst, length-append, arith}
use Rattle.ssh_channels.specs.Phases.{Message, Open, Confirmation, Failure, Adjust, Data, Eof, Close, behind, has_told, is_live, may_send, next, when_ended, while_talking}
use Rattle.ssh_channels.specs.declared.end.Phase.{Phase}
use Rattle.ssh_channels.specs.declared.end.Phase.TheVariants.{Silent, Talking, Ended, Shut, Failed}
use Rattle.ssh_channels.specs.declared.end.End.{End}
use Rattle.ssh_channels.specs.Ends.{ArePieces, Call, CallClose, CallEof, Calls, Read, Receives, Sends, Write, after_eof, all_gone, close_messages, data_messages, eof_messages, goes, is_there, joined, taken, tells}
use Rattle.ssh_channels.specs.Conversation.{Moves, OpenerCalls, OpenerHears, OtherCalls, OtherHears, Talk, opened}
use Rattle.ssh_channels.specs.Laws.{Goes, Reached}
use Rattle.ssh_channels.specs.Muxes.{Packet, told_number}
use Rattle.ssh_channels.proofs.Lemmas.{Each, behind_none, each_more, sent_is, Way, due, Joint, call_heard, joint, joint_first, joint_next}
use Rattle.ssh_talks.proofs.Packets.{IsLater}

-- ---- phases

pub told_there : (p : Phase) → has_told p ≡ true → is_there p ≡ true
told_there Silent h = h
told_there Talking h = refl
told_there Ended h = refl
told_there Shut h = refl
told_there Failed h = h

there_told : (p : Phase) → is_there p ≡ true → has_told p ≡ true
there_told Silent h = h
there_told Talking h = refl
there_told Ended h = refl
there_told Shut h = refl
there_told Failed h = h

unheard : (p : Phase) → has_told p ≡ false → is_live p ≡ false
unheard Silent h = refl
unheard Talking h = absurd (let e : true ≡ false = h in cc)
unheard Ended h = absurd (let e : true ≡ false = h in cc)
unheard Shut h = refl
unheard Failed h = refl

shut_told : (p : Phase) → has_told p ≡ true → has_told (if is_live p then Shut else p) ≡ true
shut_told Silent h = h
shut_told Talking h = refl
shut_told Ended h = refl
shut_told Shut h = refl
shut_told Failed h = h

-- a message that opens no channel
abbrev pub NoOpening : Message → Type 0
NoOpening (Open w m) = ⊥
NoOpening (Confirmation w m) = Unit {0}
NoOpening Failure = Unit {0}
NoOpening (Adjust n) = Unit {0}
NoOpening (Data bytes) = Unit {0}
NoOpening Eof = Unit {0}
NoOpening Close = Unit {0}

no_value : (q : Phase) → None ≡ Some q → ⊥
no_value q h = cc

-- an opener is never in a place for an opening
opening_to_opener : (p q : Phase) (w k : ℕ) → next true p (Open w k) ≡ Some q → ⊥
opening_to_opener Silent q w k h = no_value q h
opening_to_opener Talking q w k h = no_value q h
opening_to_opener Ended q w k h = no_value q h
opening_to_opener Shut q w k h = no_value q h
opening_to_opener Failed q w k h = no_value q h

pub opener_place : (p q : Phase) (m : Message) → next true p m ≡ Some q → NoOpening m
opener_place p q (Open w k) h = opening_to_opener p q w k h
opener_place p q (Confirmation w k) h = tt
opener_place p q Failure h = tt
opener_place p q (Adjust n) h = tt
opener_place p q (Data bytes) h = tt
opener_place p q Eof h = tt
opener_place p q Close h = tt

-- nor is one that answered
opening_to_other : (p q : Phase) (w k : ℕ) → (p ≡ Silent → ⊥) → next false p (Open w k) ≡ Some q → ⊥
opening_to_other Silent q w k s h = s refl
opening_to_other Talking q w k s h = no_value q h
opening_to_other Ended q w k s h = no_value q h
opening_to_other Shut q w k s h = no_value q h
opening_to_other Failed q w k s h = no_value q h

pub other_place : (p q : Phase) (m : Message) → (p ≡ Silent → ⊥) → next false p m ≡ Some q → NoOpening m
other_place p q (Open w k) s h = opening_to_other p q w k s h
other_place p q (Confirmation w k) s h = tt
other_place p q Failure s h = tt
other_place p q (Adjust n) s h = tt
other_place p q (Data bytes) s h = tt
other_place p q Eof s h = tt
other_place p q Close s h = tt

pub confirmed_other : (p q : Phase) (w k : ℕ) → next false p (Confirmation w k) ≡ Some q → ⊥
confirmed_other Silent q w k h = no_value q h
confirmed_other Talking q w k h = no_value q h
confirmed_other Ended q w k h = no_value q h
confirmed_other Shut q w k h = no_value q h
confirmed_other Failed q w k h = no_value q h

-- to one that answers no number is told
pub other_known : (p : Packet) (known : ℕ) (h q : Phase) (m : Message) → next false h m ≡ Some q → told_number p known m ≡ known
other_known p known h q (Open w k) e = refl
other_known p known h q (Confirmation w k) e = absurd (confirmed_other h q w k e)
other_known p known h q Failure e = refl
other_known p known h q (Adjust n) e = refl
other_known p known h q (Data bytes) e = refl
other_known p known h q Eof e = refl
other_known p known h q Close e = refl

refused_unheard : (p q : Phase) → next true p Failure ≡ Some q → has_told p ≡ false
refused_unheard Silent q h = refl
refused_unheard Talking q h = absurd (no_value q h)
refused_unheard Ended q h = absurd (no_value q h)
refused_unheard Shut q h = absurd (no_value q h)
refused_unheard Failed q h = refl

data_heard : (p q : Phase) (bytes : List ℕ) → next true p (Data bytes) ≡ Some q → has_told p ≡ false → ⊥
data_heard Silent q bytes h k = no_value q h
data_heard Talking q bytes h k = (let e : true ≡ false = k in cc)
data_heard Ended q bytes h k = no_value q h
data_heard Shut q bytes h k = no_value q h
data_heard Failed q bytes h k = no_value q h

-- ---- what a call and a message do to an end

pub call_told : (call : Call) (e : End) (messages : List Message) (e' : End) → Calls call e messages e' → has_told e'.said ≡ has_told e.said
call_told (Write bytes) e messages e' c = (sent_is (record e { written = e.written ++ bytes }) messages e' c.1).told
call_told CallEof e messages e' c = (sent_is (record e { eof_called = true }) messages e' c.1).told
call_told CallClose e messages e' c = (sent_is (record e { close_called = true }) messages e' c.2).told
call_told (Read n) e messages e' c = ap (λ x. has_told x.said) c.1

call_received : (call : Call) (e : End) (messages : List Message) (e' : End) → Calls call e messages e' → e'.received ≡ e.received
call_received (Write bytes) e messages e' c = (sent_is (record e { written = e.written ++ bytes }) messages e' c.1).same.received
call_received CallEof e messages e' c = (sent_is (record e { eof_called = true }) messages e' c.1).same.received
call_received CallClose e messages e' c = (sent_is (record e { close_called = true }) messages e' c.2).same.received
call_received (Read n) e messages e' c = ap (λ x. x.received) c.1

pub hear_told : (m : Message) (e : End) (messages : List Message) (e' : End) → NoOpening m → Receives m e messages e' → has_told e.said ≡ true → has_told e'.said ≡ true
hear_told (Open w k) e messages e' x r h = absurd x
hear_told (Confirmation w k) e messages e' x r h = (sent_is (record e { heard = Talking; granted = w; largest = k }) messages e' r).told ∙ h
hear_told Failure e messages e' x r h = ap (λ x. has_told x.said) r.1 ∙ h
hear_told (Adjust n) e messages e' x r h = (sent_is (record e { granted = e.granted + n }) messages e' r).told ∙ h
hear_told (Data bytes) e messages e' x r h = ap (λ x. has_told x.said) r.1 ∙ h
hear_told Eof e messages e' x r h = ap (λ x. has_told x.said) r.1 ∙ h
hear_told Close e messages e' x r h = ap (λ x. has_told x.said) r.1 ∙ shut_told e.said h

told_not : (p q : Phase) → p ≡ q → has_told q ≡ true → has_told p ≡ false → ⊥
told_not p q e t f = (let z : true ≡ false = sym t ∙ (ap has_told (sym e) ∙ f) in cc)

-- what an end received that heard no answer, or a refusal
hear_none : (m : Message) (e : End) (messages : List Message) (e' : End) (q : Phase) → next true e.heard m ≡ Some q → Receives m e messages e'
    → (has_told e.heard ≡ false → e.received ≡ []) → has_told e'.heard ≡ false → e'.received ≡ []
hear_none (Open w k) e messages e' q d r none h = absurd (opening_to_opener e.heard q w k d)
hear_none (Confirmation w k) e messages e' q d r none h = absurd (told_not e'.heard Talking (sent_is (record e { heard = Talking; granted = w; largest = k }) messages e' r).same.heard refl h)
hear_none Failure e messages e' q d r none h = ap (λ x. x.received) r.1 ∙ none (refused_unheard e.heard q d)
hear_none (Adjust n) e messages e' q d r none h =
    let s = (sent_is (record e { granted = e.granted + n }) messages e' r).same in
    s.received ∙ none (ap has_told (sym s.heard) ∙ h)
hear_none (Data bytes) e messages e' q d r none h = absurd (data_heard e.heard q bytes d (ap (λ x. has_told x.heard) (sym r.1) ∙ h))
hear_none Eof e messages e' q d r none h = absurd (told_not e'.heard Ended (ap (λ x. x.heard) r.1) refl h)
hear_none Close e messages e' q d r none h = absurd (told_not e'.heard Shut (ap (λ x. x.heard) r.1) refl h)

-- ---- what goes out

pieces_later : (pieces : List (List ℕ)) → Each IsLater (data_messages pieces)
pieces_later [] = tt
pieces_later (p ∷ pieces) = (tt, pieces_later pieces)

eof_later : (t : Bool) → Each IsLater (if t then Eof ∷ [] else [])
eof_later true = (tt, tt)
eof_later false = tt

close_later : (t : Bool) → Each IsLater (if t then Close ∷ [] else [])
close_later true = (tt, tt)
close_later false = tt

adjust_later : (n : ℕ) (t : Bool) → Each IsLater (if t then Adjust n ∷ [] else [])
adjust_later n true = (tt, tt)
adjust_later n false = tt

sends_later : (old : End) (messages : List Message) (new : End) → Sends old messages new → Each IsLater messages
sends_later old messages new s =
    subst (Each IsLater) (sym s.messages_are)
    (each_more IsLater (data_messages s.pieces) (eof_messages s.mid ++ close_messages (after_eof s.mid)) (pieces_later s.pieces)
    (each_more IsLater (eof_messages s.mid) (close_messages (after_eof s.mid)) (eof_later _) (close_later _)))

pub call_later : (call : Call) (e : End) (messages : List Message) (e' : End) → Calls call e messages e' → Each IsLater messages
call_later (Write bytes) e messages e' c = sends_later (record e { written = e.written ++ bytes }) messages e' c.1
call_later CallEof e messages e' c = sends_later (record e { eof_called = true }) messages e' c.1
call_later CallClose e messages e' c = sends_later (record e { close_called = true }) messages e' c.2
call_later (Read n) e messages e' c = subst (Each IsLater) (sym c.0) (adjust_later (taken e n) (tells e n))

pub hear_later : (m : Message) (e : End) (messages : List Message) (e' : End) → NoOpening m → Receives m e messages e' → Each IsLater messages
hear_later (Open w k) e messages e' x r = absurd x
hear_later (Confirmation w k) e messages e' x r = sends_later (record e { heard = Talking; granted = w; largest = k }) messages e' r
hear_later Failure e messages e' x r = subst (Each IsLater) (sym r.0) tt
hear_later (Adjust n) e messages e' x r = sends_later (record e { granted = e.granted + n }) messages e' r
hear_later (Data bytes) e messages e' x r = subst (Each IsLater) (sym r.0) tt
hear_later Eof e messages e' x r = subst (Each IsLater) (sym r.0) tt
hear_later Close e messages e' x r = subst (Each IsLater) (sym r.0) (close_later (is_live e.said))

and_no : (t u : Bool) → u ≡ false → (t && u) ≡ false
and_no true u e = e
and_no false u e = refl

no_pieces : (most : ℕ) (pieces : List (List ℕ)) → ArePieces most pieces → joined pieces ≡ [] → pieces ≡ []
no_pieces most [] h e = refl
no_pieces most (p ∷ pieces) h e =
    let a : length (p ++ joined pieces) ≡ 0 = ap length e in
    let b = length-append p (joined pieces) in
    absurd (let z = h.0 in omega arith)

-- nothing goes out of an end that heard nothing, or a refusal
silent_sends : (old : End) (messages : List Message) (new : End) → is_live old.heard ≡ false → Sends old messages new → messages ≡ []
silent_sends old messages new h s =
    let stays : goes old ≡ old.gone = ap (λ t. if t && nat_lt 0 old.largest then min (length old.written) old.granted else old.gone) (and_no (may_send old.said) (is_live old.heard) h) in
    let zero_more : goes old - old.gone ≡ 0 = omega arith in
    let bytes : joined s.pieces ≡ [] = s.sent.bytes ∙ ap (λ n. take n (drop old.gone old.written)) zero_more in
    let none : s.pieces ≡ [] = no_pieces _ s.pieces s.sent.each bytes in
    let heard_mid : is_live s.mid.heard ≡ false = ap (λ e. is_live e.heard) s.sent.new_is ∙ h in
    let ends : eof_messages s.mid ≡ [] = no_eof s.mid heard_mid in
    let same : after_eof s.mid ≡ s.mid = no_end s.mid heard_mid in
    let closes : close_messages (after_eof s.mid) ≡ [] = ap close_messages same ∙ no_close s.mid heard_mid in
    s.messages_are ∙ (ap (λ l. data_messages l ++ (eof_messages s.mid ++ close_messages (after_eof s.mid))) none ∙ (ap (λ l. l ++ close_messages (after_eof s.mid)) ends ∙ closes))
  where
    no_end : (e : End) → is_live e.heard ≡ false → after_eof e ≡ e
    no_end e q = ap (λ t. if t && (e.eof_called && all_gone e) then record e { said = Ended } else e) (and_no (may_send e.said) (is_live e.heard) q)

    no_eof : (e : End) → is_live e.heard ≡ false → eof_messages e ≡ []
    no_eof e q = ap (λ t. if t && (e.eof_called && all_gone e) then Eof ∷ [] else []) (and_no (may_send e.said) (is_live e.heard) q)

    no_close : (e : End) → is_live e.heard ≡ false → close_messages e ≡ []
    no_close e q = ap (λ t. if t && (e.close_called && all_gone e) then Close ∷ [] else []) (and_no (is_live e.said) (is_live e.heard) q)

pub silent_call : (call : Call) (e : End) (messages : List Message) (e' : End) → has_told e.heard ≡ false → e.received ≡ [] → Calls call e messages e' → messages ≡ []
silent_call (Write bytes) e messages e' h n c = silent_sends (record e { written = e.written ++ bytes }) messages e' (unheard e.heard h) c.1
silent_call CallEof e messages e' h n c = silent_sends (record e { eof_called = true }) messages e' (unheard e.heard h) c.1
silent_call CallClose e messages e' h n c = silent_sends (record e { close_called = true }) messages e' (unheard e.heard h) c.2
silent_call (Read k) e messages e' h n c =
    let l : length e.received ≡ 0 = ap length n in
    let z : taken e k ≡ 0 = omega arith in
    c.0 ∙ (ap (λ x. if is_live e.said && nat_lt 0 x then Adjust x ∷ [] else []) z ∙ ap (λ t. if t then Adjust 0 ∷ [] else []) (and_no (is_live e.said) (nat_lt 0 0) refl))

-- ---- along a talk

-- The opener has told its window, and what heard no answer, or a refusal, received nothing.
pub record Opener (t : Talk) : Type 0 where
  pub told : has_told t.opener.said ≡ true
  pub none : has_told t.opener.heard ≡ false → t.opener.received ≡ []

opener_next : (old new : Talk) → Joint old → Moves old new → Opener old → Opener new
opener_next old new j (OpenerCalls call messages e there c n) o = subst Opener (sym n) (record {
  told = call_told call old.opener messages e c ∙ o.told;
  none = λ h. call_received call old.opener messages e c ∙ o.none (ap has_told (sym (call_heard call old.opener messages e c)) ∙ h);
})
opener_next old new j (OtherCalls call messages e there c n) o = subst Opener (sym n) (record { told = o.told; none = o.none })
opener_next old new j (OpenerHears m rest messages e q r n) o =
    let back : Way true old.other old.opener (m ∷ rest) old.to_other = subst (λ l. Way true old.other old.opener l old.to_other) q j.back in
    let d = due true old.other old.opener m rest old.to_other back in
    subst Opener (sym n) (record {
      told = hear_told m old.opener messages e (opener_place old.opener.heard d.0 m d.1) r o.told;
      none = hear_none m old.opener messages e d.0 d.1 r o.none;
    })
opener_next old new j (OtherHears m rest messages e q r n) o = subst Opener (sym n) (record { told = o.told; none = o.none })

opener_on : (mids : List Talk) (start t : Talk) → Joint start → Opener start → Goes mids start t → Opener t
opener_on [] start t j o e = subst Opener (sym e) o
opener_on (mid ∷ mids) start t j o g = opener_on mids mid t (joint_next start mid j g.0) (opener_next start mid j g.0 o) g.1

pub opener_is : (w m v k : ℕ) (t : Talk) → Reached (opened w m v k) t → Opener t
opener_is w m v k t g = opener_on g.0 (opened w m v k) t (joint_first w m v k) (record { told = refl; none = λ h. refl }) g.1

pub joint_is : (w m v k : ℕ) (t : Talk) → Reached (opened w m v k) t → Joint t
joint_is w m v k t g = joint g.0 (opened w m v k) t (joint_first w m v k) g.1

-- what the other end said that told no window left the opener without an answer
some_told : (p q : Phase) → has_told p ≡ true → Some p ≡ Some q → has_told q ≡ true
some_told p q h e = let same : p ≡ q = cc in ap has_told (sym same) ∙ h

talking_told : (m : Message) (q : Phase) → while_talking m ≡ Some q → has_told q ≡ true
talking_told (Open w k) q e = absurd (no_value q e)
talking_told (Confirmation w k) q e = absurd (no_value q e)
talking_told Failure q e = absurd (no_value q e)
talking_told (Adjust n) q e = some_told Talking q refl e
talking_told (Data bytes) q e = some_told Talking q refl e
talking_told Eof q e = some_told Ended q refl e
talking_told Close q e = some_told Shut q refl e

ended_told : (m : Message) (q : Phase) → when_ended m ≡ Some q → has_told q ≡ true
ended_told (Open w k) q e = absurd (no_value q e)
ended_told (Confirmation w k) q e = absurd (no_value q e)
ended_told Failure q e = absurd (no_value q e)
ended_told (Adjust n) q e = some_told Ended q refl e
ended_told (Data bytes) q e = absurd (no_value q e)
ended_told Eof q e = absurd (no_value q e)
ended_told Close q e = some_told Shut q refl e

next_told : (p q : Phase) (m : Message) → next true p m ≡ Some q → has_told p ≡ true → has_told q ≡ true
next_told Silent q m e h = absurd (let z : false ≡ true = h in cc)
next_told Talking q m e h = talking_told m q e
next_told Ended q m e h = ended_told m q e
next_told Shut q m e h = absurd (no_value q e)
next_told Failed q m e h = absurd (no_value q e)

behind_told : (p q : Phase) (ms : List Message) → behind true (Some p) ms ≡ Some q → has_told p ≡ true → has_told q ≡ true
behind_told p q [] e h = some_told p q h e
behind_told p q (m ∷ ms) e h = on (next true p m) refl e (λ r f. behind_told r q ms f) (λ f. no_value q (sym (behind_none true ms) ∙ f))
  where
    on : (o : Option Phase) → next true p m ≡ o → behind true o ms ≡ Some q → ((r : Phase) → behind true (Some r) ms ≡ Some q → has_told r ≡ true → has_told q ≡ true) → (behind true None ms ≡ Some q → ⊥) → has_told q ≡ true
    on None f g go stop = absurd (stop g)
    on (Some r) f g go stop = go r g (next_told p r m f h)

pub unheard_by : (t : Talk) → Joint t → has_told t.other.said ≡ false → has_told t.opener.heard ≡ false
unheard_by t j h = on (has_told t.opener.heard) refl
  where
    on : (b : Bool) → has_told t.opener.heard ≡ b → has_told t.opener.heard ≡ false
    on true e = absurd (let z : true ≡ false = sym (behind_told t.opener.heard t.other.said t.to_opener j.back.phase e) ∙ h in cc)
    on false e = e

-- what is no opening and no answer comes where an answer was heard
pub place_told : (p q : Phase) (m : Message) → IsLater m → next true p m ≡ Some q → has_told p ≡ true
place_told Silent q (Open w k) l e = absurd l
place_told Silent q (Confirmation w k) l e = absurd l
place_told Silent q Failure l e = absurd l
place_told Silent q (Adjust n) l e = absurd (no_value q e)
place_told Silent q (Data bytes) l e = absurd (no_value q e)
place_told Silent q Eof l e = absurd (no_value q e)
place_told Silent q Close l e = absurd (no_value q e)
place_told Talking q m l e = refl
place_told Ended q m l e = refl
place_told Shut q m l e = refl
place_told Failed q m l e = absurd (no_value q e)

-- one move more
goes_more : (mids : List Talk) (start t new : Talk) → Goes mids start t → Moves t new → Goes (mids ++ new ∷ []) start new
goes_more [] start t new e m = (subst (λ x. Moves x new) e m, refl)
goes_more (mid ∷ mids) start t new g m = (g.0, goes_more mids mid t new g.1 m)

pub reached_more : (start t new : Talk) → Reached start t → Moves t new → Reached start new
reached_more start t new g m = (g.0 ++ new ∷ [], goes_more g.0 start t new g.1 m)
