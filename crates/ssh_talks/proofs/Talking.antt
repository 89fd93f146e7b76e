-- Every channel of two sides is a talk of two ends.
use Rattle.std.proofs.Common.{◌≡◌, ℕ, Bool, true, false, List, [], ◌∷◌, ◌++◌, length, map, slice_get, slice_set, Option, Some, None, ◌⊎◌, inl, inr, refl, sym, ap, ◌∙◌, subst, arith}
use Rattle.std.proofs.lemmas.Bool.{cases_Bool}
use Rattle.ssh_wire.specs.declared.side.Side.{Side}
use Rattle.ssh_wire.specs.declared.side.Side.TheVariants.{Client, Server}
use Rattle.ssh_channels.specs.Phases.{Message, Open, Confirmation, Failure, Adjust, Data, Eof, Close, has_told, next}
use Rattle.ssh_channels.specs.declared.end.Phase.{Phase}
use Rattle.ssh_channels.specs.declared.end.Phase.TheVariants.{Silent, Talking, Failed}
use Rattle.ssh_channels.specs.declared.end.End.{End}
use Rattle.ssh_channels.specs.Ends.{Call, Calls, Receives, fresh}
use Rattle.ssh_channels.specs.Conversation.{OpenerCalls, OpenerHears, OtherCalls, OtherHears, Talk, opened}
use Rattle.ssh_channels.specs.Muxes.{Asks, Channel, Mux, On, Packet, Request, Start, Takes, TakesAt, addressed, told_number}
use Rattle.ssh_channels.proofs.Lemmas.{Way, due, Joint, call_heard}
use Rattle.ssh_talks.specs.Talks.{Answer, As, Asked, Came, ChannelsAreTalks, Happens, HappensOn, IsOfTalk, IsTalk, MuxPair, NotYet, OtherEnd, Refused, both_new, for_channel, mux_of, opening_of, way_to, with_mux}
use Rattle.ssh_talks.proofs.Packets.{get_either, get_near, get_new, if_true, is_same, many_new}
use Rattle.ssh_talks.proofs.Halves.{Half, IsAt, IsOpen, Opens, answering, one_some, with_channels}
use Rattle.ssh_talks.proofs.Mute.{call_later, call_told, hear_later, hear_told, joint_is, opener_is, opener_place, other_known, other_place, place_told, reached_more, silent_call, told_there, unheard_by}
use Rattle.ssh_talks.proofs.Steps.{other_cross, other_step, own_cross, own_step}
use Rattle.ssh_talks.proofs.Openings.{IsAnswer, answer_cross, answer_own, none_for, start_cross, start_own, started_channel}

-- what holds of the channels that either side opened
pub record Joined (a b : Mux) (to_b to_a : List Packet) : Type 0 where
  pub answers : ℕ → Answer
  pub other_answers : ℕ → Answer
  pub own : Half a b to_b to_a answers
  pub other : Half b a to_a to_b other_answers

pub swapped : (a b : Mux) (to_b to_a : List Packet) → Joined a b to_b to_a → Joined b a to_a to_b
swapped a b to_b to_a j = record { answers = j.other_answers; other_answers = j.answers; own = j.other; other = j.own }

-- ---- what an answer says of the number that an opener knows

known_number : (a b : Mux) (to_b to_a : List Packet) (answer : Answer) (n : ℕ) (c : Channel) → Opens a b to_b to_a answer n c → has_told c.end.heard ≡ true → answer ≡ As c.peer
known_number a b to_b to_a answer n c o heard = on answer refl
  where
    heard_none : has_told o.talk.other.said ≡ false → ⊥
    heard_none h =
        let u = unheard_by o.talk (joint_is a.window a.most b.window b.most o.talk o.reached) h in
        (let z : true ≡ false = sym heard ∙ (ap (λ (x : End). has_told x.heard) (sym o.own_is) ∙ u) in cc)

    on : (x : Answer) → answer ≡ x → answer ≡ As c.peer
    on NotYet e = absurd (heard_none (let u : OtherEnd n b to_b NotYet o.talk.other o.talk.to_other = subst (λ y. OtherEnd n b to_b y o.talk.other o.talk.to_other) e o.other_is in ap (λ (x : End). has_told x.said) u.0))
    on (As k) e = elim (o.peer_is k e) [
      | inl u ↦ absurd (let z : true ≡ false = sym heard ∙ u in cc)
      | inr p ↦ e ∙ ap As (sym p)
    ]
    on Refused e = absurd (heard_none (let u : OtherEnd n b to_b Refused o.talk.other o.talk.to_other = subst (λ y. OtherEnd n b to_b y o.talk.other o.talk.to_other) e o.other_is in ap has_told u.0))

knows_still : (answer : Answer) (c c' : Channel) (j : ℕ) → answer ≡ As c.peer → c'.peer ≡ c.peer → answer ≡ As j → (has_told c'.end.heard ≡ false) ⊎ (c'.peer ≡ j)
knows_still answer c c' j e p f = inr (p ∙ same_number c.peer j (sym e ∙ f))
  where
    same_number : (n k : ℕ) → As n ≡ As k → n ≡ k
    same_number n k g = cc

answerer : (a b : Mux) (to_b to_a : List Packet) (answer : Answer) (n k : ℕ) (c : Channel) → Opens a b to_b to_a answer n c → answer ≡ As k → IsAt b.channels false k
answerer a b to_b to_a answer n k c o e = let u = answering n k b to_b answer o.talk o.other_is e in (u.0, u.1, u.2)

is_answerer : (a b : Mux) (to_b to_a : List Packet) (answer : Answer) (n k : ℕ) (c : Channel) (messages : List Message) → Opens a b to_b to_a answer n c → (messages ≡ []) ⊎ (answer ≡ As k) → (messages ≡ []) ⊎ IsAt b.channels false k
is_answerer a b to_b to_a answer n k c messages o e = elim e [
  | inl none ↦ inl none
  | inr f ↦ inr (answerer a b to_b to_a answer n k c o f)
]

-- ---- a request

asked_start : (a b : Mux) (to_b to_a : List Packet) → Joined a b to_b to_a
    → Joined (with_channels a (a.channels ++ started_channel a ∷ [])) b (to_b ++ addressed (length a.channels) 0 (Open a.window a.most) ∷ []) to_a
asked_start a b to_b to_a j = record {
  answers = j.answers;
  other_answers = j.other_answers;
  own = start_own a b to_b to_a j.answers j.own;
  other = start_cross b a to_a to_b j.other_answers j.other;
}

asked_own : (a b : Mux) (to_b to_a : List Packet) (n : ℕ) (call : Call) (c : Channel) (messages : List Message) (e : End) → Joined a b to_b to_a → slice_get a.channels n ≡ Some c → Calls call c.end messages e → c.started ≡ true
    → Joined (with_channels a (slice_set a.channels n (record c { end = e }))) b (to_b ++ map (addressed n c.peer) messages) to_a
asked_own a b to_b to_a n call c messages e j at calls s =
    let o = j.own.each n c at s in
    let opener = opener_is a.window a.most b.window b.most o.talk o.reached in
    let calls_there : Calls call o.talk.opener messages e = subst (λ x. Calls call x messages e) (sym o.own_is) calls in
    let later = call_later call c.end messages e calls in
    let heard_same = call_heard call c.end messages e calls in
    let known : (messages ≡ []) ⊎ (j.answers n ≡ As c.peer) = elim (cases_Bool (has_told c.end.heard)) [
      | inl t ↦ inr (known_number a b to_b to_a (j.answers n) n c o t)
      | inr f ↦ inl (silent_call call c.end messages e f (ap (λ (x : End). x.received) (sym o.own_is) ∙ opener.none (ap (λ (x : End). has_told x.heard) o.own_is ∙ f)) calls)
    ] in
    let talk : Talk = record { opener = e; other = o.talk.other; to_other = o.talk.to_other ++ messages; to_opener = o.talk.to_opener } in
    record {
      answers = j.answers;
      other_answers = j.other_answers;
      own = own_step a b to_b to_a [] j.answers n c.peer c (record c { end = e }) messages j.own at s (record {
        came = tt;
        started = s;
        talk = talk;
        reached = reached_more (opened a.window a.most b.window b.most) o.talk talk o.reached (OpenerCalls call messages e (told_there o.talk.opener.said opener.told) calls_there refl);
        own_is = refl;
        to_own_is = o.to_own_is;
        other_is = refl;
        to_other_is = refl;
        later = later;
        known = known;
        peer_is = λ k f. elim (o.peer_is k f) [
          | inl u ↦ inl (ap has_told heard_same ∙ u)
          | inr p ↦ inr p
        ];
      });
      other = own_cross b a to_b to_a [] j.other_answers n c.peer c (record c { end = e }) messages j.other at s s tt later (is_answerer a b to_b to_a (j.answers n) n c.peer c messages o known);
    }

asked_other : (a b : Mux) (to_b to_a : List Packet) (n : ℕ) (call : Call) (c : Channel) (messages : List Message) (e : End) → Joined a b to_b to_a → slice_get a.channels n ≡ Some c → Calls call c.end messages e → c.started ≡ false
    → Joined (with_channels a (slice_set a.channels n (record c { end = e }))) b (to_b ++ map (addressed n c.peer) messages) to_a
asked_other a b to_b to_a n call c messages e j at calls s =
    let x = j.other.accepted n c at s in
    let o = j.other.each c.peer x.1.0 x.1.1 x.1.2 in
    let u = answering c.peer n a to_a (j.other_answers c.peer) o.talk o.other_is x.0 in
    let other_is : o.talk.other ≡ c.end = u.4 ∙ ap (λ (y : Channel). y.end) (one_some u.0 c (slice_get a.channels n) u.1 at) in
    let calls_there : Calls call o.talk.other messages e = subst (λ y. Calls call y messages e) (sym other_is) calls in
    let told : has_told o.talk.other.said ≡ true = o.answered n x.0 in
    let later = call_later call c.end messages e calls in
    let talk : Talk = record { opener = o.talk.opener; other = e; to_other = o.talk.to_other; to_opener = o.talk.to_opener ++ messages } in
    record {
      answers = j.answers;
      other_answers = j.other_answers;
      own = other_cross a b to_b to_a [] j.answers c.peer n c (record c { end = e }) messages j.own at s s x.1 tt later;
      other = other_step b a to_b to_a [] j.other_answers c.peer n x.1.0 c (record c { end = e }) messages j.other x.1.1 x.1.2 at s x.0 (record {
        came = tt;
        accepted = s;
        peer = refl;
        talk = talk;
        reached = reached_more (opened b.window b.most a.window a.most) o.talk talk o.reached (OtherCalls call messages e (told_there o.talk.other.said told) calls_there refl);
        opener_is = refl;
        to_opener_is = refl;
        other_is = refl;
        to_other_is = u.5;
        later = later;
        told = call_told call o.talk.other messages e calls_there ∙ told;
      });
    }

pub asked : (a b a' : Mux) (to_b to_a packets : List Packet) (request : Request) → Joined a b to_b to_a → Asks request a packets a' → Joined a' b (to_b ++ packets) to_a
asked a b a' to_b to_a packets Start j h =
    subst (λ (x : Mux). Joined x b (to_b ++ packets) to_a) (sym h.2) (subst (λ l. Joined (with_channels a (a.channels ++ started_channel a ∷ [])) b (to_b ++ l) to_a) (sym h.1) (asked_start a b to_b to_a j))
asked a b a' to_b to_a packets (On n call) j h =
    let c = h.0 in
    let new = with_channels a (slice_set a.channels n (record c { end = h.2 })) in
    subst (λ (x : Mux). Joined x b (to_b ++ packets) to_a) (sym h.6) (subst (λ l. Joined new b (to_b ++ l) to_a) (sym h.5) (elim (cases_Bool c.started) [
      | inl s ↦ asked_own a b to_b to_a n call c h.1 h.2 j h.3 h.4 s
      | inr s ↦ asked_other a b to_b to_a n call c h.1 h.2 j h.3 h.4 s
    ]))

-- ---- a packet for a channel that is there

pub head_for : (n : ℕ) (p : Packet) (rest : List Packet) → p.to ≡ Some n → for_channel n (p ∷ rest) ≡ p.message ∷ for_channel n rest
head_for n p rest e = if_true _ (p.message ∷ for_channel n rest) (for_channel n rest) (ap (λ t. is_to_number t) e ∙ is_same n n refl)
  where
    is_to_number : Option ℕ → Bool
    is_to_number t = Rattle.ssh_talks.specs.Talks.is_to n t

-- what an opener knows of the other side's number behind a message
record Knows (answer : Answer) (c : Channel) (peer : ℕ) (e : End) (messages : List Message) : Type 0 where
  pub known : (messages ≡ []) ⊎ (answer ≡ As peer)
  pub peer_is : (k : ℕ) → answer ≡ As k → (has_told e.heard ≡ false) ⊎ (peer ≡ k)

knows : (a b : Mux) (to_b to_a : List Packet) (answer : Answer) (n : ℕ) (c : Channel) (p : Packet) (m : Message) (e : End) (messages : List Message) (q : Phase) → Opens a b to_b to_a answer n c
    → ((w k : ℕ) → m ≡ Confirmation w k → answer ≡ As p.from) → next true c.end.heard m ≡ Some q → Receives m c.end messages e → Knows answer c (told_number p c.peer m) e messages
knows a b to_b to_a answer n c p (Open w k) e messages q o t d r = absurd (opener_place c.end.heard q (Open w k) d)
knows a b to_b to_a answer n c p (Confirmation w k) e messages q o t d r = record { known = inr (t w k refl); peer_is = λ j f. inr (same_number p.from j (sym (t w k refl) ∙ f)) }
  where
    same_number : (n k : ℕ) → As n ≡ As k → n ≡ k
    same_number n k g = cc
knows a b to_b to_a answer n c p Failure e messages q o t d r = record { known = inl r.0; peer_is = λ j f. inl (ap (λ (x : End). has_told x.heard) r.1) }
knows a b to_b to_a answer n c p (Adjust k) e messages q o t d r =
    let f = known_number a b to_b to_a answer n c o (place_told c.end.heard q (Adjust k) tt d) in
    record { known = inr f; peer_is = λ j g. knows_still answer c (record c { end = e }) j f refl g }
knows a b to_b to_a answer n c p (Data bytes) e messages q o t d r =
    let f = known_number a b to_b to_a answer n c o (place_told c.end.heard q (Data bytes) tt d) in
    record { known = inr f; peer_is = λ j g. knows_still answer c (record c { end = e }) j f refl g }
knows a b to_b to_a answer n c p Eof e messages q o t d r =
    let f = known_number a b to_b to_a answer n c o (place_told c.end.heard q Eof tt d) in
    record { known = inr f; peer_is = λ j g. knows_still answer c (record c { end = e }) j f refl g }
knows a b to_b to_a answer n c p Close e messages q o t d r =
    let f = known_number a b to_b to_a answer n c o (place_told c.end.heard q Close tt d) in
    record { known = inr f; peer_is = λ j g. knows_still answer c (record c { end = e }) j f refl g }

-- the channel behind a message
abbrev heard_channel : Channel → ℕ → End → Channel
heard_channel c peer e = record { started = c.started; peer = peer; end = e }

came_own : (a b : Mux) (to_b rest : List Packet) (p : Packet) (n : ℕ) (c : Channel) (messages : List Message) (e : End) → Joined a b to_b (p ∷ rest) → p.to ≡ Some n → slice_get a.channels n ≡ Some c → Receives p.message c.end messages e → c.started ≡ true
    → Joined (with_channels a (slice_set a.channels n (heard_channel c (told_number p c.peer p.message) e))) b (to_b ++ map (addressed n (told_number p c.peer p.message)) messages) rest
came_own a b to_b rest p n c messages e j to at r s =
    let o = j.own.each n c at s in
    let joint = joint_is a.window a.most b.window b.most o.talk o.reached in
    let head : o.talk.to_opener ≡ p.message ∷ for_channel n rest = o.to_own_is ∙ head_for n p rest to in
    let back : Way true o.talk.other o.talk.opener (p.message ∷ for_channel n rest) o.talk.to_other = subst (λ l. Way true o.talk.other o.talk.opener l o.talk.to_other) head joint.back in
    let d = due true o.talk.other o.talk.opener p.message (for_channel n rest) o.talk.to_other back in
    let place : next true c.end.heard p.message ≡ Some d.0 = subst (λ (x : End). next true x.heard p.message ≡ Some d.0) o.own_is d.1 in
    let opens_none = opener_place c.end.heard d.0 p.message place in
    let later = hear_later p.message c.end messages e opens_none r in
    let k = knows a b to_b (p ∷ rest) (j.answers n) n c p p.message e messages d.0 o (λ w m f. j.own.told.0 n to (c, at, s) w m f) place r in
    let hears : Receives p.message o.talk.opener messages e = subst (λ x. Receives p.message x messages e) (sym o.own_is) r in
    let talk : Talk = record { opener = e; other = o.talk.other; to_other = o.talk.to_other ++ messages; to_opener = for_channel n rest } in
    record {
      answers = j.answers;
      other_answers = j.other_answers;
      own = own_step a b to_b rest (p ∷ []) j.answers n (told_number p c.peer p.message) c (heard_channel c (told_number p c.peer p.message) e) messages j.own at s (record {
        came = (to, tt);
        started = s;
        talk = talk;
        reached = reached_more (opened a.window a.most b.window b.most) o.talk talk o.reached (OpenerHears p.message (for_channel n rest) messages e head hears refl);
        own_is = refl;
        to_own_is = refl;
        other_is = refl;
        to_other_is = refl;
        later = later;
        known = k.known;
        peer_is = k.peer_is;
      });
      other = own_cross b a to_b rest (p ∷ []) j.other_answers n (told_number p c.peer p.message) c (heard_channel c (told_number p c.peer p.message) e) messages j.other at s s (to, tt) later
          (is_answerer a b to_b (p ∷ rest) (j.answers n) n (told_number p c.peer p.message) c messages o k.known);
    }

pub not_silent : (t : Talk) → Joint t → has_told t.other.said ≡ true → t.other.heard ≡ Silent → ⊥
not_silent t j told h = (let z : true ≡ false = sym told ∙ ap has_told (j.answering h) in cc)

came_other : (a b : Mux) (to_b rest : List Packet) (p : Packet) (n : ℕ) (c : Channel) (messages : List Message) (e : End) → Joined a b to_b (p ∷ rest) → p.to ≡ Some n → slice_get a.channels n ≡ Some c → Receives p.message c.end messages e → c.started ≡ false
    → Joined (with_channels a (slice_set a.channels n (heard_channel c (told_number p c.peer p.message) e))) b (to_b ++ map (addressed n (told_number p c.peer p.message)) messages) rest
came_other a b to_b rest p n c messages e j to at r s =
    let x = j.other.accepted n c at s in
    let o = j.other.each c.peer x.1.0 x.1.1 x.1.2 in
    let u = answering c.peer n a (p ∷ rest) (j.other_answers c.peer) o.talk o.other_is x.0 in
    let other_is : o.talk.other ≡ c.end = u.4 ∙ ap (λ (y : Channel). y.end) (one_some u.0 c (slice_get a.channels n) u.1 at) in
    let joint = joint_is b.window b.most a.window a.most o.talk o.reached in
    let head : o.talk.to_other ≡ p.message ∷ for_channel n rest = u.5 ∙ head_for n p rest to in
    let out : Way false o.talk.opener o.talk.other (p.message ∷ for_channel n rest) o.talk.to_opener = subst (λ l. Way false o.talk.opener o.talk.other l o.talk.to_opener) head joint.out in
    let d = due false o.talk.opener o.talk.other p.message (for_channel n rest) o.talk.to_opener out in
    let told : has_told o.talk.other.said ≡ true = o.answered n x.0 in
    let opens_none = other_place o.talk.other.heard d.0 p.message (not_silent o.talk joint told) d.1 in
    let hears : Receives p.message o.talk.other messages e = subst (λ y. Receives p.message y messages e) (sym other_is) r in
    let later = hear_later p.message c.end messages e opens_none r in
    let same : told_number p c.peer p.message ≡ c.peer = other_known p c.peer o.talk.other.heard d.0 p.message d.1 in
    let talk : Talk = record { opener = o.talk.opener; other = e; to_other = for_channel n rest; to_opener = o.talk.to_opener ++ messages } in
    let new = heard_channel c c.peer e in
    subst (λ i. Joined (with_channels a (slice_set a.channels n (heard_channel c i e))) b (to_b ++ map (addressed n i) messages) rest) (sym same) (record {
      answers = j.answers;
      other_answers = j.other_answers;
      own = other_cross a b to_b rest (p ∷ []) j.answers c.peer n c new messages j.own at s s x.1 (to, tt) later;
      other = other_step b a to_b rest (p ∷ []) j.other_answers c.peer n x.1.0 c new messages j.other x.1.1 x.1.2 at s x.0 (record {
        came = (to, tt);
        accepted = s;
        peer = refl;
        talk = talk;
        reached = reached_more (opened b.window b.most a.window a.most) o.talk talk o.reached (OtherHears p.message (for_channel n rest) messages e head hears refl);
        opener_is = refl;
        to_opener_is = refl;
        other_is = refl;
        to_other_is = refl;
        later = later;
        told = hear_told p.message o.talk.other messages e opens_none hears told;
      });
    })

-- ---- a packet that opens a channel

-- what accepting answers
pub accepted_as : (b : Mux) (p : Packet) (e : End) (messages : List Message) → IsOpen p.message → Receives p.message (fresh b.window b.most Silent) messages e → e.said ≡ Talking
    → messages ≡ Confirmation b.window b.most ∷ []
accepted_as b p e messages o r said = on p.message o r
  where
    on : (m : Message) → IsOpen m → Receives m (fresh b.window b.most Silent) messages e → messages ≡ Confirmation b.window b.most ∷ []
    on (Open w k) o (inl h) = h.0
    on (Open w k) o (inr h) = absurd (let z : Talking ≡ Failed = sym said ∙ ap (λ (x : End). x.said) h.1 in cc)
    on (Confirmation w k) o r = absurd o
    on Failure o r = absurd o
    on (Adjust k) o r = absurd o
    on (Data bytes) o r = absurd o
    on Eof o r = absurd o
    on Close o r = absurd o

-- what an end is that refused an opening
refused_end : (b : Mux) (m : Message) → IsOpen m → (e : End) × (e.said ≡ Failed) × Receives m (fresh b.window b.most Silent) (Failure ∷ []) e
refused_end b (Open w k) o = (record (fresh b.window b.most Silent) { heard = Talking; said = Failed; granted = w; largest = k }, refl, inr (refl, refl))
refused_end b (Confirmation w k) o = absurd o
refused_end b Failure o = absurd o
refused_end b (Adjust k) o = absurd o
refused_end b (Data bytes) o = absurd o
refused_end b Eof o = absurd o
refused_end b Close o = absurd o

came_accepted : (a b : Mux) (to_b rest : List Packet) (p : Packet) (e : End) (messages : List Message) → Joined a b to_b (p ∷ rest) → p.to ≡ None → Receives p.message (fresh a.window a.most Silent) messages e → e.said ≡ Talking
    → Joined (with_channels a (a.channels ++ record { started = false; peer = p.from; end = e } ∷ [])) b (to_b ++ map (addressed (length a.channels) p.from) messages) rest
came_accepted a b to_b rest p e messages j to r said =
    let asker = j.other.openings.0 to in
    let n : ℕ = length a.channels in
    let d : Channel = record { started = false; peer = p.from; end = e } in
    let sent : Packet = addressed n p.from (Confirmation a.window a.most) in
    let is = accepted_as a p e messages asker.1 r said in
    let answer : IsAnswer a p (As n) e messages sent = record {
      receives = r;
      sent_to = refl;
      messages_are = is;
      tells = λ w m f. refl;
      said = λ k f. ap has_told said;
    } in
    subst (λ l. Joined (with_channels a (a.channels ++ d ∷ [])) b (to_b ++ map (addressed n p.from) l) rest) (sym is) (record {
      answers = j.answers;
      other_answers = _;
      own = answer_cross a b p sent to_b rest j.answers (a.channels ++ d ∷ []) j.own to refl asker.0 (let k = many_new a.channels d in omega (arith, k))
          (λ k x there. get_near a.channels k x d there)
          (λ k x there started. elim (get_either a.channels d k x there) [
            | inl was ↦ was
            | inr new ↦ absurd (let z : false ≡ true = ap (λ (y : Channel). y.started) new.1 ∙ started in cc)
          ]);
      other = answer_own b a p sent rest to_b j.other_answers (a.channels ++ d ∷ []) (As n) e messages j.other to answer
          ((d, get_new a.channels d, refl, refl, refl), sym (none_for a.channels n rest (omega arith) j.own.there.1))
          (λ k x there. get_near a.channels k x d there)
          (λ k x there kind. elim (get_either a.channels d k x there) [
            | inl was ↦ inl was
            | inr new ↦ inr (ap (λ (y : Channel). y.peer) (sym new.1), ap As (sym new.0))
          ]);
    })

came_refused : (a b : Mux) (to_b rest : List Packet) (p : Packet) → Joined a b to_b (p ∷ rest) → p.to ≡ None → Joined a b (to_b ++ addressed 0 p.from Failure ∷ []) rest
came_refused a b to_b rest p j to =
    let asker = j.other.openings.0 to in
    let end = refused_end a p.message asker.1 in
    let sent : Packet = addressed 0 p.from Failure in
    let answer : IsAnswer a p Refused end.0 (Failure ∷ []) sent = record {
      receives = end.2;
      sent_to = refl;
      messages_are = refl;
      tells = λ w m f. absurd (let z : Failure ≡ Confirmation w m = f in cc);
      said = λ k f. absurd (let z : Refused ≡ As k = f in cc);
    } in
    record {
      answers = j.answers;
      other_answers = _;
      own = answer_cross a b p sent to_b rest j.answers a.channels j.own to refl asker.0 (omega arith) (λ k x there. there) (λ k x there started. there);
      other = answer_own b a p sent rest to_b j.other_answers a.channels Refused end.0 (Failure ∷ []) j.other to answer (end.1, refl) (λ k x there. there) (λ k x there kind. inl there);
    }

came_at : (to : Option ℕ) (a b a' : Mux) (to_b rest packets : List Packet) (p : Packet) → p.to ≡ to → Joined a b to_b (p ∷ rest) → TakesAt to p a packets a' → Joined a' b (to_b ++ packets) rest
came_at None a b a' to_b rest packets p to j (inl h) =
    subst (λ (x : Mux). Joined x b (to_b ++ packets) rest) (sym h.6) (subst (λ l. Joined (with_channels a (a.channels ++ record { started = false; peer = p.from; end = h.0 } ∷ [])) b (to_b ++ l) rest) (sym h.5) (came_accepted a b to_b rest p h.0 h.1 j to h.3 h.4))
came_at None a b a' to_b rest packets p to j (inr h) =
    subst (λ (x : Mux). Joined x b (to_b ++ packets) rest) (sym h.2) (subst (λ l. Joined a b (to_b ++ l) rest) (sym h.1) (came_refused a b to_b rest p j to))
came_at (Some n) a b a' to_b rest packets p to j h =
    let c = h.0 in
    let new = with_channels a (slice_set a.channels n (heard_channel c (told_number p c.peer p.message) h.2)) in
    subst (λ (x : Mux). Joined x b (to_b ++ packets) rest) (sym h.6) (subst (λ l. Joined new b (to_b ++ l) rest) (sym h.5) (elim (cases_Bool c.started) [
      | inl s ↦ came_own a b to_b rest p n c h.1 h.2 j to h.3 h.4 s
      | inr s ↦ came_other a b to_b rest p n c h.1 h.2 j to h.3 h.4 s
    ]))

pub came : (a b a' : Mux) (to_b rest packets : List Packet) (p : Packet) → Joined a b to_b (p ∷ rest) → Takes p a packets a' → Joined a' b (to_b ++ packets) rest
came a b a' to_b rest packets p j h = came_at p.to a b a' to_b rest packets p refl j h

-- ---- what happens

abbrev pub AreJoined : MuxPair → Type 0
AreJoined b = Joined b.client b.server b.to_server b.to_client

joined_next : (old new : MuxPair) → AreJoined old → Happens old new → AreJoined new
joined_next old new j (Asked Client request packets mux h e) = subst AreJoined (sym e) (asked old.client old.server mux old.to_server old.to_client packets request j h)
joined_next old new j (Asked Server request packets mux h e) =
    subst AreJoined (sym e) (swapped mux old.client (old.to_client ++ packets) old.to_server (asked old.server old.client mux old.to_client old.to_server packets request (swapped old.client old.server old.to_server old.to_client j) h))
joined_next old new j (Came Client p rest packets mux way h e) =
    subst AreJoined (sym e) (came old.client old.server mux old.to_server rest packets p (subst (λ l. Joined old.client old.server old.to_server l) way j) h)
joined_next old new j (Came Server p rest packets mux way h e) =
    subst AreJoined (sym e) (swapped mux old.client (old.to_client ++ packets) rest (came old.server old.client mux old.to_client rest packets p
    (subst (λ l. Joined old.server old.client old.to_client l) way (swapped old.client old.server old.to_server old.to_client j)) h))

joined_on : (mids : List MuxPair) (start b : MuxPair) → AreJoined start → HappensOn mids start b → AreJoined b
joined_on [] start b j e = subst AreJoined (sym e) j
joined_on (mid ∷ mids) start b j h = joined_on mids mid b (joined_next start mid j h.0) h.1

no_channel : {A : Type 0} (n : ℕ) (c : Channel) → slice_get (let l : List Channel = [] in l) n ≡ Some c → A
no_channel n c e = absurd (let z : None ≡ Some c = e in cc)

new_half : (w m v k : ℕ) → Half (record { window = w; most = m; channels = [] }) (record { window = v; most = k; channels = [] }) [] [] (λ n. NotYet)
new_half w m v k = record {
  each = λ n c there s. no_channel n c there;
  later = λ n l. refl;
  accepted = λ n d there s. no_channel n d there;
  openings = tt;
  there = tt;
  told = tt;
}

new_joined : (w m v k : ℕ) → AreJoined (both_new w m v k)
new_joined w m v k = record { answers = λ n. NotYet; other_answers = λ n. NotYet; own = new_half w m v k; other = new_half v k w m }

is_talk : (a b : Mux) (to_b to_a : List Packet) (answer : Answer) (n : ℕ) (c : Channel) → Opens a b to_b to_a answer n c → IsTalk a b to_a to_b n c answer
is_talk a b to_b to_a answer n c o = record { talk = o.talk; reached = o.reached; own_is = o.own_is; to_own_is = o.to_own_is; other_is = o.other_is }

started_talk : (side : Side) (b : MuxPair) → AreJoined b → (n : ℕ) (c : Channel) → slice_get (mux_of side b).channels n ≡ Some c → c.started ≡ true → IsOfTalk side b n c true
started_talk Client b j n c at s = (j.answers n, is_talk b.client b.server b.to_server b.to_client (j.answers n) n c (j.own.each n c at s))
started_talk Server b j n c at s = (j.other_answers n, is_talk b.server b.client b.to_client b.to_server (j.other_answers n) n c (j.other.each n c at s))

accepted_talk : (side : Side) (b : MuxPair) → AreJoined b → (n : ℕ) (c : Channel) → slice_get (mux_of side b).channels n ≡ Some c → c.started ≡ false → IsOfTalk side b n c false
accepted_talk Client b j n c at s =
    let x = j.other.accepted n c at s in
    let t = is_talk b.server b.client b.to_client b.to_server (j.other_answers c.peer) c.peer x.1.0 (j.other.each c.peer x.1.0 x.1.1 x.1.2) in
    (x.1.0, x.1.1, x.1.2, subst (IsTalk b.server b.client b.to_server b.to_client c.peer x.1.0) x.0 t)
accepted_talk Server b j n c at s =
    let x = j.own.accepted n c at s in
    let t = is_talk b.client b.server b.to_server b.to_client (j.answers c.peer) c.peer x.1.0 (j.own.each c.peer x.1.0 x.1.1 x.1.2) in
    (x.1.0, x.1.1, x.1.2, subst (IsTalk b.client b.server b.to_client b.to_server c.peer x.1.0) x.0 t)

pub are_joined : (w m v k : ℕ) (mids : List MuxPair) (b : MuxPair) → HappensOn mids (both_new w m v k) b → AreJoined b
are_joined w m v k mids b happens = joined_on mids (both_new w m v k) b (new_joined w m v k) happens

pub channels_are_talks : ChannelsAreTalks
channels_are_talks w m v k mids b happens side n c at =
    let j = are_joined w m v k mids b happens in
    on c.started refl (λ s. started_talk side b j n c at s) (λ s. accepted_talk side b j n c at s)
  where
    on : (s : Bool) → c.started ≡ s → (c.started ≡ true → IsOfTalk side b n c true) → (c.started ≡ false → IsOfTalk side b n c false) → IsOfTalk side b n c s
    on true e t f = t e
    on false e t f = f e
