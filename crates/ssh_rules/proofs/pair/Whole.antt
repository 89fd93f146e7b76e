-- The packets that lie whole in the bytes that a side took are those that it handled.
use Rattle.std.proofs.Common.{◌≡◌, ℕ, zero, suc, List, [], ◌∷◌, ◌++◌, map, slice_get, refl, sym, ◌∙◌, ap, subst, Option, Some, None, Bool, true, false, if◌then◌else◌, append_assoc}
use Rattle.ssh_packet.specs.Front.{Unfinished, front_of}
use Rattle.ssh_packet.specs.Sealing.{Item, IsAdmissible, sealed_packet, moved_on, next_number}
use Rattle.ssh_packet.specs.Stream.{Opening, Place, first_place, Reads, Entries, IsEnd, place_after, place_behind, is_newkeys, next_place, kept_number}
use Rattle.ssh_packet.proofs.Lemmas.{reads_split}
use Rattle.ssh_wire.specs.declared.side.Side.{Side}
use Rattle.ssh_wire.specs.declared.side.Side.TheVariants.{Client, Server}
use Rattle.ssh_kex.specs.declared.config.Config.{Config}
use Rattle.ssh_kex.specs.declared.exchange.FinishedExchange.{FinishedExchange}
use Rattle.ssh_kex.specs.Exchange.{outgoing}
use Rattle.ssh_wire.specs.Sides.{other_side}
use Rattle.ssh_kex.specs.Setting.{Says}
use Rattle.ssh_rules.specs.Wire.{HasFront}
use Rattle.ssh_rules.specs.Machine.{Spot, spot_after, SideState, Event, IdHeard, PayloadSubmitted, ExchangeBegun, AnswerSent, PayloadSent, MessageTaken, GuessDropped, PayloadDelivered, PacketDropped, ExchangeFinished, Steps, setting, first_state}
use Rattle.ssh_rules.specs.Log.{wrote, handled, recorded}
use Rattle.ssh_rules.specs.Snapshots.{NoGuesses, RunsInLink}
use Rattle.ssh_rules.specs.Turns.{LinkEnd, Talkers}
use Rattle.ssh_rules.proofs.pair.Joint.{honest_carrier}
use Rattle.ssh_rules.proofs.side.Places.{place_of, taken_plain, payload_plain, drop_plain, finished_last}
use Rattle.ssh_rules.proofs.any_bytes.Guessing.{part_ends}
use Rattle.ssh_rules.proofs.turns.Turns.{made_in, facts, AreFit}
use Rattle.ssh_kex.specs.Stages.{AwaitsNewkeys}

-- ---- the same packets, under openings that agree as far as both go

abbrev pub Agree : List Opening → List Opening → Type 0
Agree [] w = Unit {0}
Agree (a ∷ r) [] = Unit {0}
Agree (a ∷ r) (b ∷ w) = (a ≡ b) × Agree r w

pub record Same (p q : Place) : Type 0 where
  pub sealing : p.sealing ≡ q.sealing
  pub number : p.number ≡ q.number
  pub openings : Agree p.openings q.openings

abbrev pub At : Option Place → Option Place → Type 0
At None q = Unit {0}
At (Some p) None = Unit {0}
At (Some p) (Some q) = Same p q

at_none : (p : Option Place) → At p None
at_none None = tt
at_none (Some p) = tt

opens_same : (r w : List Opening) (m n : ℕ) → m ≡ n → Agree r w → At (next_place r m) (next_place w n)
opens_same [] w m n e h = tt
opens_same (a ∷ r) [] m n e h = tt
opens_same (a ∷ r) (b ∷ w) m n e h = record {
  sealing = ap (λ (o : Opening). o.sealing) h.0;
  number = ap (λ (o : Opening). kept_number o.strict m) h.0 ∙ ap (kept_number b.strict) e;
  openings = h.1;
}

at_after : (p q : Place) (i : Item) → Same p q → At (place_after p i) (place_after q i)
at_after p q i h = go (is_newkeys i) where
  go : (b : Bool) → At (if b then next_place p.openings (next_number p.number) else Some (record { sealing = moved_on p.sealing i; number = next_number p.number; openings = p.openings })) (if b then next_place q.openings (next_number q.number) else Some (record { sealing = moved_on q.sealing i; number = next_number q.number; openings = q.openings }))
  go true = opens_same p.openings q.openings (next_number p.number) (next_number q.number) (ap next_number h.number) h.openings
  go false = record { sealing = ap (λ s. moved_on s i) h.sealing; number = ap next_number h.number; openings = h.openings }

-- what is read from one place is read from the other, where it has the openings for it
pub reads_moved : (p q : Option Place) (a : List Item) (fed rest wire y : List ℕ) → At p q → Reads p a fed rest → Reads q a wire y → Reads q a fed rest
reads_moved p q [] fed rest wire y h r w = r
reads_moved None q (i ∷ a) fed rest wire y h r w = absurd r
reads_moved (Some p) None (i ∷ a) fed rest wire y h r w = absurd w
reads_moved (Some p) (Some q) (i ∷ a) fed rest wire y h r w = (
  r.0,
  w.1,
  r.2 ∙ ap (λ t. t ++ r.0) (ap (λ s. sealed_packet s p.number i) h.sealing ∙ ap (λ n. sealed_packet q.sealing n i) h.number),
  reads_moved (place_after p i) (place_after q i) a r.0 rest w.0 y (at_after p q i h) r.3 w.3,
)

pub at_behind : (p q : Option Place) (a : List Item) → At p q → At (place_behind p a) (place_behind q a)
at_behind p q [] h = h
at_behind None q (i ∷ a) h = tt
at_behind (Some p) None (i ∷ a) h = at_none (place_behind (place_after p i) a)
at_behind (Some p) (Some q) (i ∷ a) h = at_behind (place_after p i) (place_after q i) a (at_after p q i h)

end_moved : (p : Place) (q : Option Place) (rest : List ℕ) → At (Some p) q → IsEnd (Some p) rest → IsEnd q rest
end_moved p None rest h e = tt
end_moved p (Some q) rest h e = λ i more a f. e i more (subst (λ s. IsAdmissible s i) (sym h.sealing) a) (f ∙ ap (λ t. t ++ more) (ap (λ s. sealed_packet s q.number i) (sym h.sealing) ∙ ap (λ n. sealed_packet p.sealing n i) (sym h.number)))

pub agree_points : (role : Side) (xs ys : List FinishedExchange) → ((k : ℕ) (x y : FinishedExchange) → slice_get xs k ≡ Some x → slice_get ys k ≡ Some y → x ≡ y) → Agree (map (outgoing role) xs) (map (outgoing role) ys)
agree_points role [] ys h = tt
agree_points role (x ∷ xs) [] h = tt
agree_points role (x ∷ xs) (y ∷ ys) h = (ap (outgoing role) (h 0 x y refl refl), agree_points role xs ys (λ k p q e f. h (suc k) p q e f))

pub first_at : (role : Side) (xs ys : List FinishedExchange) → ((k : ℕ) (x y : FinishedExchange) → slice_get xs k ≡ Some x → slice_get ys k ≡ Some y → x ≡ y) → At (Some (first_place (map (outgoing role) xs))) (Some (first_place (map (outgoing role) ys)))
first_at role xs ys h = record { sealing = refl; number = refl; openings = agree_points role xs ys h }

-- ---- where a reader stands behind what it handled

step_behind : (at : Spot) (openings : List Opening) (i : Item) (a : List Item) (q r : Option Place) → place_after (place_of at openings) i ≡ q → place_behind q a ≡ r → place_behind (Some (place_of at openings)) (i ∷ a) ≡ r
step_behind at openings i a q r e f = ap (λ p. place_behind p a) e ∙ f

plain_after : (at : Spot) (openings : List Opening) (i : Item) → is_newkeys i ≡ false → place_after (place_of at openings) i ≡ Some (place_of (spot_after at i) openings)
plain_after at openings i e = ap (λ b. if b then next_place openings (next_number at.number) else Some (place_of (spot_after at i) openings)) e

abbrev HandledBehind : Side → SideState → List Event → SideState → Type 0
HandledBehind side st' es m = place_behind (Some (place_of m.reading (map (outgoing (other_side side)) (recorded es)))) (handled es) ≡ Some (place_of st'.reading [])

pub handled_behind : (says : Says) (side : Side) (config : Config) (own_id : List ℕ) (log : List Event) (st st' : SideState) → NoGuesses log → Steps says side config own_id st log st' → place_behind (Some (place_of st.reading (map (outgoing (other_side side)) (recorded log)))) (handled log) ≡ Some (place_of st'.reading [])
handled_behind says side config own_id [] st st' g h = ap (λ (m : SideState). Some (place_of m.reading [])) (sym h)
handled_behind says side config own_id (IdHeard id ∷ es) st st' g h = subst (HandledBehind side st' es) h.1.becomes (handled_behind says side config own_id es h.0 st' g h.2)
handled_behind says side config own_id (PayloadSubmitted p ∷ es) st st' g h = subst (HandledBehind side st' es) h.1.becomes (handled_behind says side config own_id es h.0 st' g h.2)
handled_behind says side config own_id (ExchangeBegun cause i ∷ es) st st' g h = subst (HandledBehind side st' es) h.1.becomes (handled_behind says side config own_id es h.0 st' g h.2)
handled_behind says side config own_id (AnswerSent i r ∷ es) st st' g h = subst (HandledBehind side st' es) h.1.becomes (handled_behind says side config own_id es h.0 st' g h.2)
handled_behind says side config own_id (PayloadSent i ∷ es) st st' g h = subst (HandledBehind side st' es) h.1.becomes (handled_behind says side config own_id es h.0 st' g h.2)
handled_behind says side config own_id (MessageTaken i ∷ es) st st' g h =
    step_behind st.reading _ i (handled es) _ _ (plain_after st.reading _ i (taken_plain says (setting side config own_id st) h.1.stage (next_number st.reading.number) i h.1.answers h.1.next h.1.takes)) (subst (HandledBehind side st' es) h.1.becomes (handled_behind says side config own_id es h.0 st' g h.2))
handled_behind says side config own_id (GuessDropped i ∷ es) st st' g h = absurd g
handled_behind says side config own_id (PayloadDelivered i ∷ es) st st' g h =
    step_behind st.reading _ i (handled es) _ _ (plain_after st.reading _ i (payload_plain i h.1.allowed)) (subst (HandledBehind side st' es) h.1.becomes (handled_behind says side config own_id es h.0 st' g h.2))
handled_behind says side config own_id (PacketDropped i ∷ es) st st' g h =
    step_behind st.reading _ i (handled es) _ _ (plain_after st.reading _ i (drop_plain i h.1.idle)) (subst (HandledBehind side st' es) h.1.becomes (handled_behind says side config own_id es h.0 st' g h.2))
handled_behind says side config own_id (ExchangeFinished i x ∷ es) st st' g h =
    step_behind st.reading (outgoing (other_side side) x ∷ map (outgoing (other_side side)) (recorded es)) i (handled es) _ _
    (ap (λ b. if b then next_place (outgoing (other_side side) x ∷ map (outgoing (other_side side)) (recorded es)) (next_number st.reading.number) else Some (place_of (spot_after st.reading i) (outgoing (other_side side) x ∷ map (outgoing (other_side side)) (recorded es)))) (finished_last says (AwaitsNewkeys h.1.exchange x h.1.host) i x (h.1.payload_is, refl, h.1.trusted)))
    (subst (HandledBehind side st' es) h.1.becomes (handled_behind says side config own_id es h.0 st' g h.2))

-- ---- lists of events, joined

pub handled_more : (a b : List Event) → handled (a ++ b) ≡ handled a ++ handled b
handled_more [] b = refl
handled_more (IdHeard id ∷ a) b = handled_more a b
handled_more (PayloadSubmitted p ∷ a) b = handled_more a b
handled_more (ExchangeBegun cause i ∷ a) b = handled_more a b
handled_more (AnswerSent i q ∷ a) b = handled_more a b
handled_more (PayloadSent i ∷ a) b = handled_more a b
handled_more (MessageTaken i ∷ a) b = ap (λ x. i ∷ x) (handled_more a b)
handled_more (GuessDropped i ∷ a) b = ap (λ x. i ∷ x) (handled_more a b)
handled_more (PayloadDelivered i ∷ a) b = ap (λ x. i ∷ x) (handled_more a b)
handled_more (PacketDropped i ∷ a) b = ap (λ x. i ∷ x) (handled_more a b)
handled_more (ExchangeFinished i z ∷ a) b = ap (λ x. i ∷ x) (handled_more a b)

pub written_more : (a b : List Event) → wrote (a ++ b) ≡ wrote a ++ wrote b
written_more [] b = refl
written_more (IdHeard id ∷ a) b = written_more a b
written_more (PayloadSubmitted p ∷ a) b = written_more a b
written_more (ExchangeBegun cause i ∷ a) b = ap (λ x. i ∷ x) (written_more a b)
written_more (AnswerSent i q ∷ a) b = ap (λ x. i ∷ x) (written_more a b)
written_more (PayloadSent i ∷ a) b = ap (λ x. i ∷ x) (written_more a b)
written_more (MessageTaken i ∷ a) b = written_more a b
written_more (GuessDropped i ∷ a) b = written_more a b
written_more (PayloadDelivered i ∷ a) b = written_more a b
written_more (PacketDropped i ∷ a) b = written_more a b
written_more (ExchangeFinished i z ∷ a) b = written_more a b

pub recorded_more : (a b : List Event) → recorded (a ++ b) ≡ recorded a ++ recorded b
recorded_more [] b = refl
recorded_more (IdHeard id ∷ a) b = recorded_more a b
recorded_more (PayloadSubmitted p ∷ a) b = recorded_more a b
recorded_more (ExchangeBegun cause i ∷ a) b = recorded_more a b
recorded_more (AnswerSent i q ∷ a) b = recorded_more a b
recorded_more (PayloadSent i ∷ a) b = recorded_more a b
recorded_more (MessageTaken i ∷ a) b = recorded_more a b
recorded_more (GuessDropped i ∷ a) b = recorded_more a b
recorded_more (PayloadDelivered i ∷ a) b = recorded_more a b
recorded_more (PacketDropped i ∷ a) b = recorded_more a b
recorded_more (ExchangeFinished i z ∷ a) b = ap (λ x. z ∷ x) (recorded_more a b)

pub get_front : {A : Type 0} (xs ys : List A) (k : ℕ) (x : A) → slice_get xs k ≡ Some x → slice_get (xs ++ ys) k ≡ Some x
get_front [] ys k x h = cc
get_front (z ∷ xs) ys zero x h = h
get_front (z ∷ xs) ys (suc k) x h = get_front xs ys k x h

get_one : {A : Type 0} (xs : List A) (k : ℕ) (x y : A) → slice_get xs k ≡ Some x → slice_get xs k ≡ Some y → x ≡ y
get_one xs k x y e f = let g : Some x ≡ Some y = sym e ∙ f in cc

-- ---- in a link

-- by either side: records that both have are the same, and what was handled is a front of what the other wrote
pub record InStepTo (log plog : List Event) : Type 0 where
  pub records : (k : ℕ) (x y : FinishedExchange) → slice_get (recorded log) k ≡ Some x → slice_get (recorded plog) k ≡ Some y → x ≡ y
  pub front : HasFront (wrote plog) (handled log)

pub in_step_to : (t : Talkers) (side : Side) (log plog : List Event) (h peer : LinkEnd) → AreFit t → RunsInLink t side log h → RunsInLink t (other_side side) plog peer → HasFront h.sent peer.fed → HasFront peer.sent h.fed → InStepTo log plog
in_step_to t Client log plog h peer fit r p a b =
    let s = honest_carrier (made_in t) fit.one _ _ _ _ _ _ _ _ _ _ _ _ (facts t Client log h.state h.sent h.fed h.unfinished r.heard r.guesses r.ran) (facts t Server plog peer.state peer.sent peer.fed peer.unfinished p.heard p.guesses p.ran) a b in
    record { records = s.records; front = s.to_client }
in_step_to t Server log plog h peer fit r p a b =
    let s = honest_carrier (made_in t) fit.one _ _ _ _ _ _ _ _ _ _ _ _ (facts t Client plog peer.state peer.sent peer.fed peer.unfinished p.heard p.guesses p.ran) (facts t Server log h.state h.sent h.fed h.unfinished r.heard r.guesses r.ran) b a in
    record { records = λ k x y e f. sym (s.records k y x f e); front = s.to_server }

-- a side at a moment, and later
pub record Later (t : Talkers) (side : Side) (log more : List Event) (h h' : LinkEnd) : Type 0 where
  pub now : RunsInLink t side log h
  pub later : RunsInLink t side (log ++ more) h'

-- Of a side at a moment: the packets that lie whole in the bytes that it took, under the exchanges that the other has
-- in the end, are those that it handled.
pub whole_is_handled : (t : Talkers) (side : Side) (log more plog : List Event) (h h' peer : LinkEnd) → AreFit t → Later t side log more h h' → RunsInLink t (other_side side) plog peer → HasFront h'.sent peer.fed → HasFront peer.sent h'.fed → front_of h.state.reading.sealing h.state.reading.number h.unfinished ≡ Unfinished → Entries (map (outgoing (other_side side)) (recorded plog)) h.fed (handled log) h.unfinished
whole_is_handled t side log more plog h h' peer fit l p a b part =
    let step = in_step_to t side (log ++ more) plog h' peer fit l.later p a b in
    let mine = facts t side log h.state h.sent h.fed h.unfinished l.now.heard l.now.guesses l.now.ran in
    let theirs = facts t (other_side side) plog peer.state peer.sent peer.fed peer.unfinished p.heard p.guesses p.ran in
    let agree = first_at (other_side side) (recorded log) (recorded plog) (λ k x y e f. step.records k x y (subst (λ q. slice_get q k ≡ Some x) (sym (recorded_more log more)) (get_front (recorded log) (recorded more) k x e)) f) in
    let front : handled log ++ (handled more ++ step.front.0) ≡ wrote plog = sym (append_assoc (handled log) (handled more) step.front.0) ∙ (ap (λ q. q ++ step.front.0) (sym (handled_more log more)) ∙ step.front.1) in
    let cut = reads_split (Some (first_place (map (outgoing (other_side side)) (recorded plog)))) (handled log) (handled more ++ step.front.0) peer.sent [] (subst (λ q. Reads (Some (first_place (map (outgoing (other_side side)) (recorded plog)))) q peer.sent []) (sym front) theirs.writes) in
    let behind = handled_behind (t.says side) side (t.config side) (t.own_id side) log first_state h.state l.now.guesses l.now.ran.steps in
    record {
      reads = reads_moved _ _ (handled log) h.fed h.unfinished peer.sent cut.0 agree mine.reads cut.1;
      no_more = end_moved (place_of h.state.reading []) _ h.unfinished (subst (λ q. At q (place_behind (Some (first_place (map (outgoing (other_side side)) (recorded plog)))) (handled log))) behind (at_behind _ _ (handled log) agree)) (part_ends (place_of h.state.reading []) h.unfinished part);
    }

-- and what it wrote so far are the packets of what it sent, under the exchanges that it has in the end
pub written_so_far : (t : Talkers) (side : Side) (log more : List Event) (h h' : LinkEnd) → Later t side log more h h' → Reads (Some (first_place (map (outgoing side) (recorded (log ++ more))))) (wrote log) h.sent []
written_so_far t side log more h h' l =
    let now = facts t side log h.state h.sent h.fed h.unfinished l.now.heard l.now.guesses l.now.ran in
    let after = facts t side (log ++ more) h'.state h'.sent h'.fed h'.unfinished l.later.heard l.later.guesses l.later.ran in
    let agree = first_at side (recorded log) (recorded (log ++ more)) (λ k x y e f. get_one (recorded (log ++ more)) k x y (subst (λ q. slice_get q k ≡ Some x) (sym (recorded_more log more)) (get_front (recorded log) (recorded more) k x e)) f) in
    let cut = reads_split (Some (first_place (map (outgoing side) (recorded (log ++ more))))) (wrote log) (wrote more) h'.sent [] (subst (λ q. Reads (Some (first_place (map (outgoing side) (recorded (log ++ more))))) q h'.sent []) (written_more log more) after.writes) in
    reads_moved _ _ (wrote log) h.sent [] h'.sent cut.0 agree now.writes cut.1
