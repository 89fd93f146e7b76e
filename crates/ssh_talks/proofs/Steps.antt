-- A channel that is there goes on: what this does to the channels that its side opened, and to those of the other side.
use Rattle.std.proofs.Common.{◌≡◌, ℕ, ◌<◌, ◌≤◌, Bool, true, false, List, [], ◌∷◌, ◌++◌, length, map, slice_get, slice_set, Some, None, ◌⊎◌, inl, inr, refl, sym, ap, ◌∙◌, subst, append-nil}
use Rattle.std.proofs.lemmas.Option.{slice_get_within}
use Rattle.ssh_channels.specs.Phases.{Message, Confirmation, has_told}
use Rattle.ssh_channels.specs.Conversation.{Talk, opened}
use Rattle.ssh_channels.specs.Laws.{Reached}
use Rattle.ssh_channels.specs.Muxes.{Channel, Mux, Packet, addressed}
use Rattle.ssh_channels.proofs.Lemmas.{Each}
use Rattle.ssh_talks.specs.Talks.{Answer, As, NotYet, OtherEnd, Refused, for_channel}
use Rattle.ssh_talks.proofs.Packets.{Every, IsFor, IsLater, all_for, every_behind, every_more, every_weaker, for_behind, for_front, for_later, get_set, get_set_other, many_set, not_same, one_or_two, opening_behind, opening_front, sent_message}
use Rattle.ssh_talks.proofs.Halves.{Half, IsAt, IsOpening, IsThere, Opens, TellsNumber, answering, apart, one_some, same_answer, stays, two_answers, with_channels}

-- ---- one channel in place of another of its kind

-- the channels that stand there, of either kind, are those that stood there
pub at_set : (channels : List Channel) (n : ℕ) (c c' : Channel) (kind : Bool) (m : ℕ) → slice_get channels n ≡ Some c → c'.started ≡ c.started → IsAt channels kind m → IsAt (slice_set channels n c') kind m
at_set channels n c c' kind m at s h = elim (one_or_two n m) [
  | inl e ↦
      let there : slice_get (slice_set channels n c') m ≡ Some c' = subst (λ i. slice_get (slice_set channels n c') i ≡ Some c') e (get_set channels n c c' at) in
      let same : h.0 ≡ c = one_some h.0 c (slice_get channels m) h.1 (subst (λ i. slice_get channels i ≡ Some c) e at) in
      (c', there, s ∙ (ap (λ (x : Channel). x.started) (sym same) ∙ h.2))
  | inr e ↦ (h.0, get_set_other channels n m c' e.1 ∙ h.1, h.2)
]

pub at_unset : (channels : List Channel) (n : ℕ) (c c' : Channel) (kind : Bool) (m : ℕ) → slice_get channels n ≡ Some c → c'.started ≡ c.started → IsAt (slice_set channels n c') kind m → IsAt channels kind m
at_unset channels n c c' kind m at s h = elim (one_or_two n m) [
  | inl e ↦
      let there : slice_get (slice_set channels n c') m ≡ Some c' = subst (λ i. slice_get (slice_set channels n c') i ≡ Some c') e (get_set channels n c c' at) in
      let same : h.0 ≡ c' = one_some h.0 c' (slice_get (slice_set channels n c') m) h.1 there in
      (c, subst (λ i. slice_get channels i ≡ Some c) e at, sym s ∙ (ap (λ (x : Channel). x.started) (sym same) ∙ h.2))
  | inr e ↦ (h.0, sym (get_set_other channels n m c' e.1) ∙ h.1, h.2)
]

openings_set : (channels : List Channel) (n : ℕ) (c c' : Channel) (way : List Packet) → slice_get channels n ≡ Some c → c'.started ≡ c.started → Every (IsOpening channels) way → Every (IsOpening (slice_set channels n c')) way
openings_set channels n c c' way at s h = every_weaker (IsOpening channels) (IsOpening (slice_set channels n c')) way (λ p k o. (at_set channels n c c' true p.from at s (k o).0, (k o).1)) h

there_set : (channels : List Channel) (n : ℕ) (c' : Channel) (way : List Packet) → Every (IsThere channels) way → Every (IsThere (slice_set channels n c')) way
there_set channels n c' way h = every_weaker (IsThere channels) (IsThere (slice_set channels n c')) way (λ p k i e. subst (λ l. i < l) (sym (many_set channels n c')) (k i e)) h

told_set : (channels : List Channel) (n : ℕ) (c c' : Channel) (answers : ℕ → Answer) (way : List Packet) → slice_get channels n ≡ Some c → c'.started ≡ c.started → Every (TellsNumber channels answers) way → Every (TellsNumber (slice_set channels n c') answers) way
told_set channels n c c' answers way at s h =
    every_weaker (TellsNumber channels answers) (TellsNumber (slice_set channels n c') answers) way (λ p k i e there w m f. k i e (at_unset channels n c c' true i at s there) w m f) h

-- ---- packets for a channel that is there

no_opening : (n : ℕ) (channels : List Channel) (packets : List Packet) → Every (IsFor n) packets → Every (IsOpening channels) packets
no_opening n channels packets h = every_weaker (IsFor n) (IsOpening channels) packets (λ p e o. absurd (let z : Some n ≡ None = sym e ∙ o in cc)) h

all_there : (n : ℕ) (channels : List Channel) (packets : List Packet) → n < length channels → Every (IsFor n) packets → Every (IsThere channels) packets
all_there n channels packets l h = every_weaker (IsFor n) (IsThere channels) packets (λ p e i f. subst (λ x. x < length channels) (same_number n i (sym e ∙ f)) l) h
  where
    same_number : (n i : ℕ) → Some n ≡ Some i → n ≡ i
    same_number n i e = cc

no_confirmation : (m : Message) (w k : ℕ) → IsLater m → m ≡ Confirmation w k → ⊥
no_confirmation m w k h e = (let z : IsLater (Confirmation w k) = subst IsLater e h in z)

none_told : (own peer : ℕ) (ms : List Message) (channels : List Channel) (answers : ℕ → Answer) → Each IsLater ms → Every (TellsNumber channels answers) (map (addressed own peer) ms)
none_told own peer [] channels answers h = tt
none_told own peer (m ∷ ms) channels answers h = (
  λ n e there w k f. absurd (no_confirmation m w k h.0 (sym (sent_message own peer m) ∙ f)),
  none_told own peer ms channels answers h.1,
)

-- ---- a channel that the side opened goes on

-- What a channel that side `a` opened becomes: `front` came to it, and `messages` go out, to the number `peer`.
pub record GoesOn (a b : Mux) (to_b to_a' : List Packet) (answer : Answer) (n : ℕ) (c : Channel) (o : Opens a b to_b to_a' answer n c) (front : List Packet) (c' : Channel) (messages : List Message) (peer : ℕ) (rest : List Packet) : Type 0 where
  pub came : Every (IsFor n) front
  pub started : c'.started ≡ true
  pub talk : Talk
  pub reached : Reached (opened a.window a.most b.window b.most) talk
  pub own_is : talk.opener ≡ c'.end
  pub to_own_is : talk.to_opener ≡ for_channel n rest
  pub other_is : talk.other ≡ o.talk.other
  pub to_other_is : talk.to_other ≡ o.talk.to_other ++ messages
  pub later : Each IsLater messages
  pub known : (messages ≡ []) ⊎ (answer ≡ As peer)
  pub peer_is : (k : ℕ) → answer ≡ As k → (has_told c'.end.heard ≡ false) ⊎ (c'.peer ≡ k)

-- the other end, to which these messages go
other_gets : (n : ℕ) (b : Mux) (to_b : List Packet) (answer : Answer) (old new : Talk) (own peer : ℕ) (messages : List Message) → OtherEnd n b to_b answer old.other old.to_other
    → new.other ≡ old.other → new.to_other ≡ old.to_other ++ messages → Each IsLater messages → (messages ≡ []) ⊎ (answer ≡ As peer)
    → OtherEnd n b (to_b ++ map (addressed own peer) messages) answer new.other new.to_other
other_gets n b to_b NotYet old new own peer messages h e f l (inl none) =
    (e ∙ h.0, f ∙ (ap (λ x. old.to_other ++ x) none ∙ (append-nil old.to_other ∙ (h.1 ∙ sym (opening_behind peer n to_b (map (addressed own peer) messages) (all_for own peer messages l))))))
other_gets n b to_b NotYet old new own peer messages h e f l (inr k) = absurd (let z : NotYet ≡ As peer = k in cc)
other_gets n b to_b (As j) old new own peer messages h e f l (inl none) =
    ((h.0.0, h.0.1, h.0.2, h.0.3, e ∙ h.0.4), f ∙ (ap (λ x. old.to_other ++ x) none ∙ (append-nil old.to_other ∙ (h.1 ∙ sym (ap (λ x. for_channel j (to_b ++ map (addressed own peer) x)) none ∙ ap (for_channel j) (append-nil to_b))))))
other_gets n b to_b (As j) old new own peer messages h e f l (inr k) =
    let same : j ≡ peer = same_answer j peer k in (
      (h.0.0, h.0.1, h.0.2, h.0.3, e ∙ h.0.4),
      f ∙ (ap (λ x. x ++ messages) h.1 ∙ subst (λ i. for_channel i to_b ++ messages ≡ for_channel i (to_b ++ map (addressed own peer) messages)) (sym same) (sym (for_later own peer to_b messages l))),
    )
other_gets n b to_b Refused old new own peer messages h e f l (inl none) = (ap (λ x. x.said) e ∙ h.0, f ∙ (ap (λ x. x ++ messages) h.1 ∙ none))
other_gets n b to_b Refused old new own peer messages h e f l (inr k) = absurd (let z : Refused ≡ As peer = k in cc)

answered_still : (old new : Talk) → new.other ≡ old.other → has_told old.other.said ≡ true → has_told new.other.said ≡ true
answered_still old new e h = ap (λ x. has_told x.said) e ∙ h

-- where nothing goes to a number, or what goes there is for another channel, nothing changes for this one
untouched : (own peer k : ℕ) (way : List Packet) (messages : List Message) → Each IsLater messages → (messages ≡ []) ⊎ (peer ≡ k → ⊥) → for_channel k (way ++ map (addressed own peer) messages) ≡ for_channel k way
untouched own peer k way messages l (inl none) = ap (λ x. for_channel k (way ++ map (addressed own peer) x)) none ∙ ap (for_channel k) (append-nil way)
untouched own peer k way messages l (inr far) = for_behind peer k way (map (addressed own peer) messages) (all_for own peer messages l) (not_same peer k far)

pub own_step : (a b : Mux) (to_b rest front : List Packet) (answers : ℕ → Answer) (n peer : ℕ) (c c' : Channel) (messages : List Message) → (h : Half a b to_b (front ++ rest) answers)
    → (at : slice_get a.channels n ≡ Some c) → (s : c.started ≡ true) → GoesOn a b to_b (front ++ rest) (answers n) n c (h.each n c at s) front c' messages peer rest
    → Half (with_channels a (slice_set a.channels n c')) b (to_b ++ map (addressed n peer) messages) rest answers
own_step a b to_b rest front answers n peer c c' messages h at s g = record {
  each = λ m x there started. elim (one_or_two n m) [
    | inl e ↦
        let o = h.each n c at s in
        let same : c' ≡ x = one_some c' x (slice_get (slice_set a.channels n c') m) (subst (λ i. slice_get (slice_set a.channels n c') i ≡ Some c') e (get_set a.channels n c c' at)) there in
        let new : Opens (with_channels a (slice_set a.channels n c')) b (to_b ++ sent) rest (answers n) n c' = record {
          talk = g.talk;
          reached = g.reached;
          own_is = g.own_is;
          to_own_is = g.to_own_is;
          other_is = other_gets n b to_b (answers n) o.talk g.talk n peer messages o.other_is g.other_is g.to_other_is g.later g.known;
          once = λ w. opening_behind peer n to_b sent (all_for n peer messages g.later) ∙ o.once w;
          peer_is = g.peer_is;
          answered = λ k f. answered_still o.talk g.talk g.other_is (o.answered k f);
        } in
        subst (λ i. Opens (with_channels a (slice_set a.channels n c')) b (to_b ++ sent) rest (answers i) i x) e (subst (λ y. Opens (with_channels a (slice_set a.channels n c')) b (to_b ++ sent) rest (answers n) n y) same new)
    | inr e ↦
        let was : slice_get a.channels m ≡ Some x = sym (get_set_other a.channels n m c' e.1) ∙ there in
        let o = h.each m x was started in
        stays a b to_b (front ++ rest) (to_b ++ sent) rest (slice_set a.channels n c') b.channels (answers m) m x o
        (sym (for_front n m front rest g.came e.0)) (opening_behind peer m to_b sent (all_for n peer messages g.later))
        (λ k f. (refl, untouched n peer k to_b messages g.later (other_number m x k o f e.1)))
  ];
  later = λ m l. h.later m (subst (λ i. i ≤ m) (many_set a.channels n c') l);
  accepted = λ k d there kind. let x = h.accepted k d there kind in (x.0, at_set a.channels n c c' true d.peer at (g.started ∙ sym s) x.1);
  openings = openings_set a.channels n c c' (to_b ++ sent) at (g.started ∙ sym s) (every_more (IsOpening a.channels) to_b sent h.openings (no_opening peer a.channels sent (all_for n peer messages g.later)));
  there = there_set a.channels n c' rest (every_behind (IsThere a.channels) front rest h.there);
  told = told_set a.channels n c c' answers rest at (g.started ∙ sym s) (every_behind (TellsNumber a.channels answers) front rest h.told);
}
  where
    sent : List Packet
    sent = map (addressed n peer) messages

    other_number : (m : ℕ) (x : Channel) (k : ℕ) → Opens a b to_b (front ++ rest) (answers m) m x → answers m ≡ As k → (n ≡ m → ⊥) → (messages ≡ []) ⊎ (peer ≡ k → ⊥)
    other_number m x k o f far = elim g.known [
      | inl none ↦ inl none
      | inr known ↦ inr (λ e. far (two_answers a b to_b (front ++ rest) (answers n) (answers m) n m k c x (h.each n c at s) o (known ∙ ap As e) f))
    ]

-- what this does to the channels that the other side opened
pub own_cross : (a b : Mux) (to_a rest front : List Packet) (answers : ℕ → Answer) (n peer : ℕ) (c c' : Channel) (messages : List Message) → Half a b (front ++ rest) to_a answers
    → slice_get b.channels n ≡ Some c → c.started ≡ true → c'.started ≡ true → Every (IsFor n) front → Each IsLater messages → (messages ≡ []) ⊎ IsAt a.channels false peer
    → Half a (with_channels b (slice_set b.channels n c')) rest (to_a ++ map (addressed n peer) messages) answers
own_cross a b to_a rest front answers n peer c c' messages h at s s' came later known = record {
  each = λ m x there started.
      let o = h.each m x there started in
      stays a b (front ++ rest) to_a rest (to_a ++ sent) a.channels (slice_set b.channels n c') (answers m) m x o
      (untouched n peer m to_a messages later (for_another m (x, there, started)))
      (sym (opening_front n m front rest came))
      (λ k f. let far = not_answering k (let u = answering m k b (front ++ rest) (answers m) o.talk o.other_is f in (u.0, u.1, u.2)) in
      (get_set_other b.channels n k c' far, sym (for_front n k front rest came (not_same n k far))));
  later = h.later;
  accepted = λ k d there kind. elim (one_or_two n k) [
    | inl e ↦
        let same : d ≡ c' = one_some d c' (slice_get (slice_set b.channels n c') k) there (subst (λ i. slice_get (slice_set b.channels n c') i ≡ Some c') e (get_set b.channels n c c' at)) in
        absurd (let z : true ≡ false = sym s' ∙ (ap (λ (y : Channel). y.started) (sym same) ∙ kind) in cc)
    | inr e ↦ h.accepted k d (sym (get_set_other b.channels n k c' e.1) ∙ there) kind
  ];
  openings = every_behind (IsOpening a.channels) front rest h.openings;
  there = every_more (IsThere a.channels) to_a sent h.there (elim known [
    | inl none ↦ subst (λ x. Every (IsThere a.channels) (map (addressed n peer) x)) (sym none) tt
    | inr k ↦ all_there peer a.channels sent (slice_get_within a.channels peer k.0 k.1) (all_for n peer messages later)
  ]);
  told = every_more (TellsNumber a.channels answers) to_a sent h.told (none_told n peer messages a.channels answers later);
}
  where
    sent : List Packet
    sent = map (addressed n peer) messages

    for_another : (m : ℕ) → IsAt a.channels true m → (messages ≡ []) ⊎ (peer ≡ m → ⊥)
    for_another m there = elim known [
      | inl none ↦ inl none
      | inr k ↦ inr (λ e. apart a.channels m peer there k (sym e))
    ]

    not_answering : (k : ℕ) → IsAt b.channels false k → n ≡ k → ⊥
    not_answering k t e = apart b.channels n k (c, at, s) t e

-- ---- a channel that the side accepted goes on

-- What a channel that side `b` accepted becomes: `front` came to it, and `messages` go out.
pub record OtherGoesOn (a b : Mux) (to_b to_a : List Packet) (answer : Answer) (n : ℕ) (c : Channel) (o : Opens a b to_b to_a answer n c) (k : ℕ) (front : List Packet) (d d' : Channel) (messages : List Message) (rest : List Packet) : Type 0 where
  pub came : Every (IsFor k) front
  pub accepted : d'.started ≡ false
  pub peer : d'.peer ≡ n
  pub talk : Talk
  pub reached : Reached (opened a.window a.most b.window b.most) talk
  pub opener_is : talk.opener ≡ o.talk.opener
  pub to_opener_is : talk.to_opener ≡ o.talk.to_opener ++ messages
  pub other_is : talk.other ≡ d'.end
  pub to_other_is : talk.to_other ≡ for_channel k rest
  pub later : Each IsLater messages
  pub told : has_told talk.other.said ≡ true

pub other_step : (a b : Mux) (to_a rest front : List Packet) (answers : ℕ → Answer) (n k : ℕ) (c d d' : Channel) (messages : List Message) → (h : Half a b (front ++ rest) to_a answers)
    → (at : slice_get a.channels n ≡ Some c) → (s : c.started ≡ true) → slice_get b.channels k ≡ Some d → d.started ≡ false → answers n ≡ As k
    → OtherGoesOn a b (front ++ rest) to_a (answers n) n c (h.each n c at s) k front d d' messages rest
    → Half a (with_channels b (slice_set b.channels k d')) rest (to_a ++ map (addressed k n) messages) answers
other_step a b to_a rest front answers n k c d d' messages h at s at_other kind is g = record {
  each = λ m x there started. elim (one_or_two n m) [
    | inl e ↦
        let o = h.each n c at s in
        let same : c ≡ x = one_some c x (slice_get a.channels m) (subst (λ i. slice_get a.channels i ≡ Some c) e at) there in
        let end : OtherEnd n (with_channels b (slice_set b.channels k d')) rest (answers n) g.talk.other g.talk.to_other =
        subst (λ y. OtherEnd n (with_channels b (slice_set b.channels k d')) rest y g.talk.other g.talk.to_other) (sym is)
        ((d', get_set b.channels k d d' at_other, g.accepted, g.peer, g.other_is), g.to_other_is) in
        let new : Opens a (with_channels b (slice_set b.channels k d')) rest (to_a ++ sent) (answers n) n c = record {
          talk = g.talk;
          reached = g.reached;
          own_is = g.opener_is ∙ o.own_is;
          to_own_is = g.to_opener_is ∙ (ap (λ l. l ++ messages) o.to_own_is ∙ sym (for_later k n to_a messages g.later));
          other_is = end;
          once = λ w. sym (opening_front k n front rest g.came) ∙ o.once w;
          peer_is = o.peer_is;
          answered = λ j f. g.told;
        } in
        subst (λ i. Opens a (with_channels b (slice_set b.channels k d')) rest (to_a ++ sent) (answers i) i x) e
        (subst (λ y. Opens a (with_channels b (slice_set b.channels k d')) rest (to_a ++ sent) (answers n) n y) same new)
    | inr e ↦
        let o = h.each m x there started in
        stays a b (front ++ rest) to_a rest (to_a ++ sent) a.channels (slice_set b.channels k d') (answers m) m x o
        (for_behind n m to_a sent (all_for k n messages g.later) e.0)
        (sym (opening_front k m front rest g.came))
        (λ j f. let far = another m x j o f e.1 in (get_set_other b.channels k j d' far, sym (for_front k j front rest g.came (not_same k j far))))
  ];
  later = h.later;
  accepted = λ j x there accepted. elim (one_or_two k j) [
    | inl e ↦
        let same : d' ≡ x = one_some d' x (slice_get (slice_set b.channels k d') j) (subst (λ i. slice_get (slice_set b.channels k d') i ≡ Some d') e (get_set b.channels k d d' at_other)) there in
        let to : n ≡ x.peer = sym g.peer ∙ ap (λ (y : Channel). y.peer) same in
        (subst (λ i. answers i ≡ As j) to (is ∙ ap As e), subst (IsAt a.channels true) to (c, at, s))
    | inr e ↦ h.accepted j x (sym (get_set_other b.channels k j d' e.1) ∙ there) accepted
  ];
  openings = every_behind (IsOpening a.channels) front rest h.openings;
  there = every_more (IsThere a.channels) to_a sent h.there (all_there n a.channels sent (slice_get_within a.channels n c at) (all_for k n messages g.later));
  told = every_more (TellsNumber a.channels answers) to_a sent h.told (none_told k n messages a.channels answers g.later);
}
  where
    sent : List Packet
    sent = map (addressed k n) messages

    another : (m : ℕ) (x : Channel) (j : ℕ) → Opens a b (front ++ rest) to_a (answers m) m x → answers m ≡ As j → (n ≡ m → ⊥) → k ≡ j → ⊥
    another m x j o f far e = far (two_answers a b (front ++ rest) to_a (answers n) (answers m) n m k c x (h.each n c at s) o is (f ∙ ap As (sym e)))

-- what this does to the channels that its own side opened
pub other_cross : (a b : Mux) (to_b rest front : List Packet) (answers : ℕ → Answer) (n k : ℕ) (d d' : Channel) (messages : List Message) → Half a b to_b (front ++ rest) answers
    → slice_get a.channels k ≡ Some d → d.started ≡ false → d'.started ≡ false → IsAt b.channels true n → Every (IsFor k) front → Each IsLater messages
    → Half (with_channels a (slice_set a.channels k d')) b (to_b ++ map (addressed k n) messages) rest answers
other_cross a b to_b rest front answers n k d d' messages h at s s' started_there came later = record {
  each = λ m x there started. elim (one_or_two k m) [
    | inl e ↦
        let same : d' ≡ x = one_some d' x (slice_get (slice_set a.channels k d') m) (subst (λ i. slice_get (slice_set a.channels k d') i ≡ Some d') e (get_set a.channels k d d' at)) there in
        absurd (let z : true ≡ false = sym started ∙ (ap (λ (y : Channel). y.started) (sym same) ∙ s') in cc)
    | inr e ↦
        let was : slice_get a.channels m ≡ Some x = sym (get_set_other a.channels k m d' e.1) ∙ there in
        let o = h.each m x was started in
        stays a b to_b (front ++ rest) (to_b ++ sent) rest (slice_set a.channels k d') b.channels (answers m) m x o
        (sym (for_front k m front rest came e.0)) (opening_behind n m to_b sent (all_for k n messages later))
        (λ j f. (refl, for_behind n j to_b sent (all_for k n messages later) (not_same n j (not_answering j (let u = answering m j b to_b (answers m) o.talk o.other_is f in (u.0, u.1, u.2))))))
  ];
  later = λ m l. h.later m (subst (λ i. i ≤ m) (many_set a.channels k d') l);
  accepted = λ j x there kind. let y = h.accepted j x there kind in (y.0, at_set a.channels k d d' true x.peer at (s' ∙ sym s) y.1);
  openings = openings_set a.channels k d d' (to_b ++ sent) at (s' ∙ sym s) (every_more (IsOpening a.channels) to_b sent h.openings (no_opening n a.channels sent (all_for k n messages later)));
  there = there_set a.channels k d' rest (every_behind (IsThere a.channels) front rest h.there);
  told = told_set a.channels k d d' answers rest at (s' ∙ sym s) (every_behind (TellsNumber a.channels answers) front rest h.told);
}
  where
    sent : List Packet
    sent = map (addressed k n) messages

    not_answering : (j : ℕ) → IsAt b.channels false j → n ≡ j → ⊥
    not_answering j t e = apart b.channels n j started_there t e
