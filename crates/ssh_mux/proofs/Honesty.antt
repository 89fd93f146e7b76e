-- Over an honest link, both sides of a run are those of a moment of two sides over an honest carrier.
use Rattle.std.proofs.Common.{◌≡◌, ℕ, zero, suc, ◌+◌, ◌^◌, ◌≤◌, Bool, true, false, if◌then◌else◌, List, [], ◌∷◌, ◌++◌, length, map, drop, slice_get, Option, Some, None, Result, Ok, refl, sym, ap, ◌∙◌, subst, append_assoc, append-nil, length-append, arith}
use Rattle.std.proofs.lemmas.Bool.{and_parts, leb-true}
use Rattle.ssh_wire.specs.Sides.{other_side, same_side}
use Rattle.ssh_wire.specs.declared.side.Side.{Side}
use Rattle.ssh_wire.specs.declared.side.Side.TheVariants.{Client, Server}
use Rattle.ssh_rules.specs.Headline.{IsLink, submitted_by}
use Rattle.ssh_rules.specs.Parts.{ClientPairs, Secrets, ServerValues}
use Rattle.ssh_rules.specs.Wire.{HasFront}
use Rattle.ssh_rules.specs.declared.link.Step.{Step}
use Rattle.ssh_rules.specs.declared.link.Step.TheVariants.{Submit, Deliver, Rekey, Settle}
use Rattle.ssh_run.specs.Carrying.{CarriedLink, both_marks}
use Rattle.ssh_run.specs.Stepping.{LinkState, first_link_state}
use Rattle.ssh_channels.specs.Asking.{IsRefused, MuxState, payload_fault, ReceivesAll}
use Rattle.ssh_channels.specs.declared.fault.MuxFault.TheVariants.{Memory}
use Rattle.ssh_channels.specs.Formats.{PacketFault, packet_of, packet_text}
use Rattle.ssh_channels.specs.Laws.{AreSettings}
use Rattle.ssh_channels.specs.Muxes.{Asks, Channel, Mux, Packet, Request, Takes}
use Rattle.ssh_talks.specs.Talks.{Asked, Came, FlowsWell, Happens, HappensOn, MuxPair, both_new, mux_of, way_to, with_mux}
use Rattle.ssh_talks.specs.Making.{added_by, still_made}
use Rattle.ssh_talks.proofs.Lemmas.{asking_adds, channels_flow, hearing_lowers, no_payload_refused}
use Rattle.ssh_mux.specs.Honesty.{IsHonest, IsPairAt, RunsAreTalks, RunsFlow, new_muxes}
use Rattle.ssh_mux.proofs.OnTime.{IsBefore, IsMarkedLink, MakesHonest, link_honest}
use Rattle.ssh_mux.specs.Pairs.{are_within}
use Rattle.ssh_mux.specs.Breaking.{BreaksNow, BreaksRun, IsNoMessageFault, is_message_fault, is_message_refused}
use Rattle.ssh_mux.specs.Running.{Both, CalledAs, Carried, CarriesBy, IsCall, PairOnLink, Received, ReceivesNew, RunsSteps, Stepped, Submitted, LinkGoes, delivered_at, first_on_link, is_submit, request_of, side_at, state_at, with_state}
use Rattle.ssh_mux.specs.declared.pair.PairConfig.{PairConfig}
use Rattle.ssh_mux.specs.declared.pair.PairSide.{PairSide}
use Rattle.ssh_mux.specs.declared.fault.RunFault.{RunFault}
use Rattle.ssh_mux.specs.declared.step.ChannelStep.{ChannelStep}

-- ---- lists

drop_front : {A : Type 0} (n : ℕ) (xs ys : List A) → n ≤ length xs → drop n (xs ++ ys) ≡ drop n xs ++ ys
drop_front zero xs ys h = refl
drop_front (suc n) [] ys h = absurd (omega (arith, h))
drop_front (suc n) (x ∷ xs) ys h = drop_front n xs ys (omega (arith, h))

drop_all : {A : Type 0} (n : ℕ) (xs ys : List A) → n ≡ length xs → drop n (xs ++ ys) ≡ ys
drop_all zero [] ys h = refl
drop_all zero (x ∷ xs) ys h = absurd (omega (arith, h))
drop_all (suc n) [] ys h = absurd (omega (arith, h))
drop_all (suc n) (x ∷ xs) ys h = drop_all n xs ys (omega (arith, h))

map_more : {A B : Type 0} (f : A → B) (xs ys : List A) → map f (xs ++ ys) ≡ map f xs ++ map f ys
map_more f [] ys = refl
map_more f (x ∷ xs) ys = ap (λ l. f x ∷ l) (map_more f xs ys)

as_long : {A B : Type 0} (f : A → B) (l : List A) → length (map f l) ≡ length l
as_long f [] = refl
as_long f (x ∷ l) = ap suc (as_long f l)

-- a list whose elements give these begins with one that gives the first
record Begins {A B : Type 0} (f : A → B) (l : List A) (x : B) (xs : List B) : Type 0 where
  pub head : A
  pub tail : List A
  pub is : l ≡ head ∷ tail
  pub head_is : f head ≡ x
  pub tail_is : map f tail ≡ xs

begins : {A B : Type 0} (f : A → B) (l : List A) (x : B) (xs : List B) → map f l ≡ x ∷ xs → Begins f l x xs
begins f [] x xs e = absurd (let z : [] ≡ x ∷ xs = e in cc)
begins f (y ∷ l) x xs e = record { head = y; tail = l; is = refl; head_is = (let z : f y ∷ map f l ≡ x ∷ xs = e in cc); tail_is = (let z : f y ∷ map f l ≡ x ∷ xs = e in cc) }

-- ---- what is submitted

pub submitted_on : (side : Side) (steps : List Step) (step : Step) → submitted_by side (steps ++ step ∷ []) ≡ submitted_by side steps ++ submitted_by side (step ∷ [])
submitted_on side [] step = refl
submitted_on side (Submit s p ∷ steps) step = on (same_side s side) (submitted_on side steps step)
  where
    on : (t : Bool) → submitted_by side (steps ++ step ∷ []) ≡ submitted_by side steps ++ submitted_by side (step ∷ [])
        → (if t then p ∷ submitted_by side (steps ++ step ∷ []) else submitted_by side (steps ++ step ∷ [])) ≡ (if t then p ∷ submitted_by side steps else submitted_by side steps) ++ submitted_by side (step ∷ [])
    on true e = ap (λ l. p ∷ l) e
    on false e = e
submitted_on side (Deliver s n ∷ steps) step = submitted_on side steps step
submitted_on side (Rekey s ∷ steps) step = submitted_on side steps step
submitted_on side (Settle ∷ steps) step = submitted_on side steps step

own_submit : (side : Side) (p : List ℕ) → submitted_by side (Submit side p ∷ []) ≡ p ∷ []
own_submit Client p = refl
own_submit Server p = refl

other_submit : (side : Side) (p : List ℕ) → submitted_by (other_side side) (Submit side p ∷ []) ≡ []
other_submit Client p = refl
other_submit Server p = refl

no_submit : (side : Side) (step : Step) → is_submit step ≡ false → submitted_by side (step ∷ []) ≡ []
no_submit side (Submit s p) e = absurd (let z : true ≡ false = e in cc)
no_submit side (Deliver s n) e = refl
no_submit side (Rekey s) e = refl
no_submit side Settle e = refl

-- ---- one side in place of another

own_mux : (side : Side) (m : Mux) (to from : List Packet) (b : MuxPair) → mux_of side (with_mux side m to from b) ≡ m
own_mux Client m to from b = refl
own_mux Server m to from b = refl

other_mux : (side : Side) (m : Mux) (to from : List Packet) (b : MuxPair) → mux_of (other_side side) (with_mux side m to from b) ≡ mux_of (other_side side) b
other_mux Client m to from b = refl
other_mux Server m to from b = refl

own_way : (side : Side) (m : Mux) (to from : List Packet) (b : MuxPair) → way_to side (with_mux side m to from b) ≡ to
own_way Client m to from b = refl
own_way Server m to from b = refl

other_way : (side : Side) (m : Mux) (to from : List Packet) (b : MuxPair) → way_to (other_side side) (with_mux side m to from b) ≡ from
other_way Client m to from b = refl
other_way Server m to from b = refl

happens_more : (mids : List MuxPair) (start b new : MuxPair) → HappensOn mids start b → Happens b new → HappensOn (mids ++ new ∷ []) start new
happens_more [] start b new e h = (subst (λ x. Happens x new) e h, refl)
happens_more (mid ∷ mids) start b new h k = (h.0, happens_more mids mid b new h.1 k)

-- ---- a side receives payloads

-- A side has received all of some payloads.
record HasTakenAll (w m v k : ℕ) (side : Side) (b : MuxPair) (old new : MuxState) (rest pre : List (List ℕ)) : Type 0 where
  pub mids : List MuxPair
  pub pair : MuxPair
  pub happens : HappensOn mids (both_new w m v k) pair
  pub own : mux_of side pair ≡ new.side
  pub other : mux_of (other_side side) pair ≡ mux_of (other_side side) b
  pub way : map (λ p. packet_text p) (way_to side pair) ≡ rest
  pub back : map (λ p. packet_text p) (way_to (other_side side) pair) ≡ pre ++ new.made
  pub fewer : still_made pair + length new.made ≤ still_made b + length old.made
  pub more : length old.made ≤ length new.made

one_packet : (p q : Packet) → (let x : Result Packet PacketFault = Ok p in x) ≡ Ok q → p ≡ q
one_packet p q e = cc

take_all : (w m v k : ℕ) → AreSettings w m v k → (side : Side) (payloads : List (List ℕ)) (mids : List MuxPair) (b : MuxPair) (old new : MuxState) (rest pre : List (List ℕ)) → HappensOn mids (both_new w m v k) b
    → mux_of side b ≡ old.side → map (λ p. packet_text p) (way_to side b) ≡ payloads ++ rest → map (λ p. packet_text p) (way_to (other_side side) b) ≡ pre ++ old.made → ReceivesAll payloads old new
    → HasTakenAll w m v k side b old new rest pre
take_all w m v k are side [] mids b old new rest pre happens own way back e = record {
  mids = mids;
  pair = b;
  happens = happens;
  own = own ∙ ap (λ (s : MuxState). s.side) (sym e);
  other = refl;
  way = way;
  back = back ∙ ap (λ (s : MuxState). pre ++ s.made) (sym e);
  fewer = (let z = ap (λ (s : MuxState). length s.made) e in omega (arith, z));
  more = (let z = ap (λ (s : MuxState). length s.made) e in omega (arith, z));
}
take_all w m v k are side (payload ∷ payloads) mids b old new rest pre happens own way back h =
    let begin = begins (λ p. packet_text p) (way_to side b) payload (payloads ++ rest) way in
    let p = begin.head in
    let passes = no_payload_refused w m v k are mids b happens side p begin.tail begin.is in
    let taken = h.1 in
    let same : p ≡ taken.0 = one_packet p taken.0 (sym passes.read ∙ (ap packet_of begin.head_is ∙ taken.1)) in
    let takes : Takes p (mux_of side b) taken.2.packets h.0.side =
    subst (λ (x : Mux). Takes p x taken.2.packets h.0.side) (sym own) (subst (λ (x : Packet). Takes x old.side taken.2.packets h.0.side) (sym same) taken.2.takes) in
    let next = with_mux side h.0.side begin.tail (way_to (other_side side) b ++ taken.2.packets) b in
    let r = take_all w m v k are side payloads (mids ++ next ∷ []) next h.0 new rest pre
    (happens_more mids (both_new w m v k) b next happens (Came side p begin.tail taken.2.packets h.0.side begin.is takes refl))
    (own_mux side h.0.side begin.tail (way_to (other_side side) b ++ taken.2.packets) b)
    (ap (map (λ p. packet_text p)) (own_way side h.0.side begin.tail (way_to (other_side side) b ++ taken.2.packets) b) ∙ begin.tail_is)
    (ap (map (λ p. packet_text p)) (other_way side h.0.side begin.tail (way_to (other_side side) b ++ taken.2.packets) b)
    ∙ (map_more (λ p. packet_text p) (way_to (other_side side) b) taken.2.packets
    ∙ (ap (λ l. l ++ map (λ p. packet_text p) taken.2.packets) back
    ∙ (append_assoc pre old.made (map (λ p. packet_text p) taken.2.packets) ∙ ap (λ l. pre ++ l) (sym taken.2.made)))))
    h.2 in
    let lowers = hearing_lowers w m v k mids b next happens side p begin.tail taken.2.packets h.0.side begin.is takes refl in
    let grown = ap length taken.2.made in
    let joined = length-append old.made (map (λ p. packet_text p) taken.2.packets) in
    let long = as_long (λ p. packet_text p) taken.2.packets in
    record {
      mids = r.mids;
      pair = r.pair;
      happens = r.happens;
      own = r.own;
      other = r.other ∙ other_mux side h.0.side begin.tail (way_to (other_side side) b ++ taken.2.packets) b;
      way = r.way;
      back = r.back;
      fewer = (let f = r.fewer in omega (arith, f, lowers, grown, joined, long));
      more = (let f = r.more in omega (arith, f, grown, joined, long));
    }

-- ---- one moment of a run

-- Both sides of a run, by side.
pub record IsAtMoment (w m v k : ℕ) (s : PairOnLink) : Type 0 where
  pub mids : List MuxPair
  pub pair : MuxPair
  pub happens : HappensOn mids (both_new w m v k) pair
  pub mux : (side : Side) → mux_of side pair ≡ (state_at side s.both).side
  pub way : (side : Side) → map (λ p. packet_text p) (way_to side pair) ≡ drop (side_at side s.both).received (submitted_by (other_side side) s.link.steps ++ (state_at (other_side side) s.both).made)
  pub received : (side : Side) → (side_at side s.both).received ≤ length (delivered_at side s.link)
  pub sent : (side : Side) → (side_at side s.both).received ≤ length (submitted_by (other_side side) s.link.steps)

honest_at : (s : LinkState) → IsHonest s → (side : Side) → HasFront (submitted_by (other_side side) s.steps) (delivered_at side s)
honest_at s h Client = h.to_client
honest_at s h Server = h.to_server

front_length : {A : Type 0} (whole front : List A) → HasFront whole front → length front ≤ length whole
front_length whole front h = (let z = ap length h.1 in let l = length-append front h.0 in omega (arith, z, l))

twice : (side : Side) → other_side (other_side side) ≡ side
twice Client = refl
twice Server = refl

-- either the one side or the other
by_side : (P : Side → Type 0) (side : Side) → P side → P (other_side side) → (s : Side) → P s
by_side P Client a b Client = a
by_side P Client a b Server = b
by_side P Server a b Client = b
by_side P Server a b Server = a

-- how many messages a side made, with those that were submitted
abbrev made_by : Side → PairOnLink → ℕ
made_by side s = length (submitted_by side s.link.steps ++ (state_at side s.both).made)

abbrev pub made_in : PairOnLink → ℕ
made_in s = made_by Client s + made_by Server s

both_sides : (f : Side → ℕ) (side : Side) → f Client + f Server ≡ f side + f (other_side side)
both_sides f Client = refl
both_sides f Server = omega arith

-- One moment leads to another without a call: a message that was made in between is no longer to be made.
pub record LeadsTo (w m v k : ℕ) (old : PairOnLink) (x : IsAtMoment w m v k old) (new : PairOnLink) : Type 0 where
  pub at : IsAtMoment w m v k new
  pub fewer : still_made at.pair + made_in new ≤ still_made x.pair + made_in old
  pub more : made_in old ≤ made_in new

leads_self : (w m v k : ℕ) (old : PairOnLink) (x : IsAtMoment w m v k old) → LeadsTo w m v k old x old
leads_self w m v k old x = record { at = x; fewer = omega arith; more = omega arith }

leads_then : (w m v k : ℕ) (old mid new : PairOnLink) (x : IsAtMoment w m v k old) (d : LeadsTo w m v k old x mid) → LeadsTo w m v k mid d.at new → LeadsTo w m v k old x new
leads_then w m v k old mid new x d e = record {
  at = e.at;
  fewer = (let p = d.fewer in let q = e.fewer in omega (arith, p, q));
  more = (let p = d.more in let q = e.more in omega (arith, p, q));
}

-- a moment from which at most so many messages are made where no more is called
pub record IsStillAt (w m v k most : ℕ) (s : PairOnLink) : Type 0 where
  pub at : IsAtMoment w m v k s
  pub few : still_made at.pair ≤ most

-- a call
at_call : (w m v k : ℕ) (old : PairOnLink) (new : Both) (side : Side) (request : Request) → (x : IsAtMoment w m v k old) → IsCall side request old.both new
    → IsStillAt w m v k (still_made x.pair + added_by request) (record { both = new; link = old.link })
at_call w m v k old new side request x h =
    let asks = subst (λ (u : Mux). Asks request u h.0.packets (state_at side new).side) (sym (x.mux side)) h.0.asks in
    let next = with_mux side (state_at side new).side (way_to side x.pair) (way_to (other_side side) x.pair ++ h.0.packets) x.pair in
    let submitted = submitted_by side old.link.steps in
    let within : (side_at (other_side side) old.both).received ≤ length submitted =
    (let a = x.sent (other_side side) in let c = ap (λ s. length (submitted_by s old.link.steps)) (twice side) in omega (arith, a, c)) in
    let more : map (λ p. packet_text p) (way_to (other_side side) next) ≡ drop (side_at (other_side side) new).received (submitted ++ (state_at side new).made) =
    ap (map (λ p. packet_text p)) (other_way side (state_at side new).side (way_to side x.pair) (way_to (other_side side) x.pair ++ h.0.packets) x.pair)
    ∙ (map_more (λ p. packet_text p) (way_to (other_side side) x.pair) h.0.packets
    ∙ (ap (λ l. l ++ map (λ p. packet_text p) h.0.packets) (subst (λ s. map (λ p. packet_text p) (way_to (other_side side) x.pair) ≡ drop (side_at (other_side side) old.both).received (submitted_by s old.link.steps ++ (state_at s old.both).made)) (twice side) (x.way (other_side side)))
    ∙ (sym (drop_front (side_at (other_side side) old.both).received (submitted ++ (state_at side old.both).made) (map (λ p. packet_text p) h.0.packets) (let l = length-append submitted (state_at side old.both).made in omega (arith, within, l)))
    ∙ (ap (drop (side_at (other_side side) old.both).received) (append_assoc submitted (state_at side old.both).made (map (λ p. packet_text p) h.0.packets) ∙ ap (λ l. submitted ++ l) (sym h.0.made))
    ∙ ap (λ (s : PairSide). drop s.received (submitted ++ (state_at side new).made)) (sym h.2))))) in
    record {
      at = record {
        mids = x.mids ++ next ∷ [];
        pair = next;
        happens = happens_more x.mids (both_new w m v k) x.pair next x.happens (Asked side request h.0.packets (state_at side new).side asks refl);
        mux = by_side (λ s. mux_of s next ≡ (state_at s new).side) side (own_mux side (state_at side new).side (way_to side x.pair) (way_to (other_side side) x.pair ++ h.0.packets) x.pair)
            (other_mux side (state_at side new).side (way_to side x.pair) (way_to (other_side side) x.pair ++ h.0.packets) x.pair ∙ (x.mux (other_side side) ∙ ap (λ (s : PairSide). s.mux.side) (sym h.2)));
        way = by_side (λ s. map (λ p. packet_text p) (way_to s next) ≡ drop (side_at s new).received (submitted_by (other_side s) old.link.steps ++ (state_at (other_side s) new).made)) side
            (ap (map (λ p. packet_text p)) (own_way side (state_at side new).side (way_to side x.pair) (way_to (other_side side) x.pair ++ h.0.packets) x.pair)
            ∙ (x.way side ∙ (ap (λ n. drop n (submitted_by (other_side side) old.link.steps ++ (state_at (other_side side) old.both).made)) (sym h.1)
            ∙ ap (λ (s : PairSide). drop (side_at side new).received (submitted_by (other_side side) old.link.steps ++ s.mux.made)) (sym h.2))))
            (subst (λ s. map (λ p. packet_text p) (way_to (other_side side) next) ≡ drop (side_at (other_side side) new).received (submitted_by s old.link.steps ++ (state_at s new).made)) (sym (twice side)) more);
        received = by_side (λ s. (side_at s new).received ≤ length (delivered_at s old.link)) side
            (let a = x.received side in let b = h.1 in omega (arith, a, b))
            (let a = x.received (other_side side) in let b = ap (λ (s : PairSide). s.received) h.2 in omega (arith, a, b));
        sent = by_side (λ s. (side_at s new).received ≤ length (submitted_by (other_side s) old.link.steps)) side
            (let a = x.sent side in let b = h.1 in omega (arith, a, b))
            (let a = x.sent (other_side side) in let b = ap (λ (s : PairSide). s.received) h.2 in omega (arith, a, b));
      };
      few = asking_adds w m v k x.mids x.pair next x.happens side request h.0.packets (state_at side new).side asks refl;
    }

-- a side receives what was delivered to it
at_received : (w m v k : ℕ) → AreSettings w m v k → (old : PairOnLink) (new : Both) (side : Side) → IsHonest old.link → (x : IsAtMoment w m v k old) → ReceivesNew side (delivered_at side old.link) old.both new
    → LeadsTo w m v k old x (record { both = new; link = old.link })
at_received w m v k are old new side honest x h =
    let d = delivered_at side old.link in
    let r = (side_at side old.both).received in
    let s = submitted_by (other_side side) old.link.steps in
    let made = (state_at (other_side side) old.both).made in
    let front = honest_at old.link honest side in
    let all : s ++ made ≡ d ++ (front.0 ++ made) = ap (λ l. l ++ made) (sym front.1) ∙ append_assoc d front.0 made in
    let way : map (λ p. packet_text p) (way_to side x.pair) ≡ drop r d ++ (front.0 ++ made) = x.way side ∙ (ap (drop r) all ∙ drop_front r d (front.0 ++ made) (x.received side)) in
    let o = (side_at (other_side side) old.both).received in
    let t = submitted_by side old.link.steps in
    let within : o ≤ length t = (let a = x.sent (other_side side) in let c = ap (λ s. length (submitted_by s old.link.steps)) (twice side) in omega (arith, a, c)) in
    let back : map (λ p. packet_text p) (way_to (other_side side) x.pair) ≡ drop o t ++ (state_at side old.both).made =
    subst (λ s. map (λ p. packet_text p) (way_to (other_side side) x.pair) ≡ drop o (submitted_by s old.link.steps ++ (state_at s old.both).made)) (twice side) (x.way (other_side side)) ∙ drop_front o t (state_at side old.both).made within in
    let a = take_all w m v k are side (drop r d) x.mids x.pair (state_at side old.both) (state_at side new) (front.0 ++ made) (drop o t) x.happens (x.mux side) way back h.takes in
    let now : (side_at side new).received ≡ length d = (let p = h.received in let q = x.received side in omega (arith, p, q)) in
    let here : map (λ p. packet_text p) (way_to side a.pair) ≡ drop (side_at side new).received (s ++ (state_at (other_side side) new).made) =
    a.way ∙ (sym (drop_all (length d) d (front.0 ++ made) refl) ∙ (ap (drop (length d)) (sym all) ∙ (ap (λ n. drop n (s ++ made)) (sym now) ∙ ap (λ (y : PairSide). drop (side_at side new).received (s ++ y.mux.made)) (sym h.other)))) in
    let there : map (λ p. packet_text p) (way_to (other_side side) a.pair) ≡ drop (side_at (other_side side) new).received (t ++ (state_at side new).made) =
    a.back ∙ (sym (drop_front o t (state_at side new).made within) ∙ ap (λ (y : PairSide). drop y.received (t ++ (state_at side new).made)) (sym h.other)) in
    let behind : PairOnLink = record { both = new; link = old.link } in
    let in_old : made_in old ≡ made_by side old + made_by (other_side side) old = both_sides (λ s. made_by s old) side in
    let in_new : made_in behind ≡ made_by side behind + made_by (other_side side) behind = both_sides (λ s. made_by s behind) side in
    let own_old = length-append t (state_at side old.both).made in
    let own_new = length-append t (state_at side new).made in
    let there_same : made_by (other_side side) behind ≡ made_by (other_side side) old = ap (λ (y : PairSide). length (submitted_by (other_side side) old.link.steps ++ y.mux.made)) h.other in
    record {
      at = record {
        mids = a.mids;
        pair = a.pair;
        happens = a.happens;
        mux = by_side (λ s. mux_of s a.pair ≡ (state_at s new).side) side a.own (a.other ∙ (x.mux (other_side side) ∙ ap (λ (y : PairSide). y.mux.side) (sym h.other)));
        way = by_side (λ s. map (λ p. packet_text p) (way_to s a.pair) ≡ drop (side_at s new).received (submitted_by (other_side s) old.link.steps ++ (state_at (other_side s) new).made)) side here
            (subst (λ s. map (λ p. packet_text p) (way_to (other_side side) a.pair) ≡ drop (side_at (other_side side) new).received (submitted_by s old.link.steps ++ (state_at s new).made)) (sym (twice side)) there);
        received = by_side (λ s. (side_at s new).received ≤ length (delivered_at s old.link)) side (omega (arith, now))
            (let p = x.received (other_side side) in let q = ap (λ (y : PairSide). y.received) h.other in omega (arith, p, q));
        sent = by_side (λ s. (side_at s new).received ≤ length (submitted_by (other_side s) old.link.steps)) side
            (let p = front_length s d front in omega (arith, now, p))
            (let p = x.sent (other_side side) in let q = ap (λ (y : PairSide). y.received) h.other in omega (arith, p, q));
      };
      fewer = (let f = a.fewer in omega (arith, f, in_old, in_new, own_old, own_new, there_same));
      more = (let f = a.more in omega (arith, f, in_old, in_new, own_old, own_new, there_same));
    }

-- ---- the link goes on

delivered_on : (step : Step) (old new : LinkState) → LinkGoes step old new → (side : Side) → length (delivered_at side old) ≤ length (delivered_at side new)
delivered_on step old new t Client = front_length new.carried.client.delivered old.carried.client.delivered t.to_client
delivered_on step old new t Server = front_length new.carried.server.delivered old.carried.server.delivered t.to_server

steps_submitted : (step : Step) (old new : LinkState) → LinkGoes step old new → (side : Side) → submitted_by side new.steps ≡ submitted_by side old.steps ++ submitted_by side (step ∷ [])
steps_submitted step old new t side = ap (submitted_by side) t.steps ∙ submitted_on side old.steps step

-- a payload that a side made is submitted
side_kept : (side s : Side) (made : List (List ℕ)) (b : Both) → (state_at s (with_state side (record { side = (state_at side b).side; made = made }) b)).side ≡ (state_at s b).side
side_kept Client Client made b = refl
side_kept Client Server made b = refl
side_kept Server Client made b = refl
side_kept Server Server made b = refl

received_kept : (side s : Side) (made : List (List ℕ)) (b : Both) → (side_at s (with_state side (record { side = (state_at side b).side; made = made }) b)).received ≡ (side_at s b).received
received_kept Client Client made b = refl
received_kept Client Server made b = refl
received_kept Server Client made b = refl
received_kept Server Server made b = refl

made_now : (side : Side) (made : List (List ℕ)) (b : Both) → (state_at side (with_state side (record { side = (state_at side b).side; made = made }) b)).made ≡ made
made_now Client made b = refl
made_now Server made b = refl

made_there : (side : Side) (made : List (List ℕ)) (b : Both) → (state_at (other_side side) (with_state side (record { side = (state_at side b).side; made = made }) b)).made ≡ (state_at (other_side side) b).made
made_there Client made b = refl
made_there Server made b = refl

-- what a side submitted and made stays the same list
same_list : (side : Side) (payload : List ℕ) (rest : List (List ℕ)) (b : Both) (old new : LinkState) → (state_at side b).made ≡ payload ∷ rest → LinkGoes (Submit side payload) old new
    → (s : Side) → submitted_by s new.steps ++ (state_at s (with_state side (record { side = (state_at side b).side; made = rest }) b)).made ≡ submitted_by s old.steps ++ (state_at s b).made
same_list side payload rest b old new is t =
    by_side (λ s. submitted_by s new.steps ++ (state_at s (with_state side (record { side = (state_at side b).side; made = rest }) b)).made ≡ submitted_by s old.steps ++ (state_at s b).made) side
    (ap (λ l. submitted_by side new.steps ++ l) (made_now side rest b) ∙ (ap (λ l. l ++ rest) (steps_submitted (Submit side payload) old new t side ∙ ap (λ l. submitted_by side old.steps ++ l) (own_submit side payload))
    ∙ (append_assoc (submitted_by side old.steps) (payload ∷ []) rest ∙ ap (λ l. submitted_by side old.steps ++ l) (sym is))))
    (ap (λ l. submitted_by (other_side side) new.steps ++ l) (made_there side rest b) ∙ ap (λ l. l ++ (state_at (other_side side) b).made) (steps_submitted (Submit side payload) old new t (other_side side)
    ∙ (ap (λ l. submitted_by (other_side side) old.steps ++ l) (other_submit side payload) ∙ append-nil (submitted_by (other_side side) old.steps))))

-- the link carried out a step, and what each side submitted and made is the same list
at_same : (w m v k : ℕ) (old : PairOnLink) (both : Both) (step : Step) (link : LinkState) → (x : IsAtMoment w m v k old) → LinkGoes step old.link link
    → ((s : Side) → (state_at s both).side ≡ (state_at s old.both).side) → ((s : Side) → (side_at s both).received ≡ (side_at s old.both).received)
    → ((s : Side) → submitted_by s link.steps ++ (state_at s both).made ≡ submitted_by s old.link.steps ++ (state_at s old.both).made)
    → LeadsTo w m v k old x (record { both = both; link = link })
at_same w m v k old both step link x t sides received lists = record {
  at = record {
    mids = x.mids;
    pair = x.pair;
    happens = x.happens;
    mux = λ s. x.mux s ∙ sym (sides s);
    way = λ s. x.way s ∙ (ap (λ n. drop n (submitted_by (other_side s) old.link.steps ++ (state_at (other_side s) old.both).made)) (sym (received s)) ∙ ap (drop (side_at s both).received) (sym (lists (other_side s))));
    received = λ s. let a = x.received s in let b = received s in let c = delivered_on step old.link link t s in omega (arith, a, b, c);
    sent = λ s. let a = x.sent s in let b = received s in let c = steps_submitted step old.link link t (other_side s) in
        let d = ap length c in let e = length-append (submitted_by (other_side s) old.link.steps) (submitted_by (other_side s) (step ∷ [])) in omega (arith, a, b, d, e);
  };
  fewer = (let a = ap length (lists Client) in let b = ap length (lists Server) in omega (arith, a, b));
  more = (let a = ap length (lists Client) in let b = ap length (lists Server) in omega (arith, a, b));
}

still_list : (step : Step) (old new : LinkState) (b : Both) → is_submit step ≡ false → LinkGoes step old new → (s : Side) → submitted_by s new.steps ++ (state_at s b).made ≡ submitted_by s old.steps ++ (state_at s b).made
still_list step old new b none t s =
    ap (λ l. l ++ (state_at s b).made) (steps_submitted step old new t s ∙ (ap (λ l. submitted_by s old.steps ++ l) (no_submit s step none) ∙ append-nil (submitted_by s old.steps)))

on_both : (s : PairOnLink) (b : Both) → b ≡ s.both → (let x : PairOnLink = record { both = b; link = s.link } in x) ≡ s
on_both s b e = ap (λ y. let x : PairOnLink = record { both = y; link = s.link } in x) e

at_carried : (w m v k : ℕ) → AreSettings w m v k → (old new : PairOnLink) → IsHonest old.link → (x : IsAtMoment w m v k old) → Carried old new → LeadsTo w m v k old x new
at_carried w m v k are old new honest x (Received side h e) =
    subst (λ l. LeadsTo w m v k old x (record { both = new.both; link = l })) (sym e) (at_received w m v k are old new.both side honest x h)
at_carried w m v k are old new honest x (Submitted side payload rest is e t) =
    subst (LeadsTo w m v k old x) (on_both new (with_state side (record { side = (state_at side old.both).side; made = rest }) old.both) (sym e))
    (at_same w m v k old (with_state side (record { side = (state_at side old.both).side; made = rest }) old.both) (Submit side payload) new.link x t
    (λ s. side_kept side s rest old.both) (λ s. received_kept side s rest old.both) (same_list side payload rest old.both old.link new.link is t))
at_carried w m v k are old new honest x (Stepped step none e t) =
    subst (LeadsTo w m v k old x) (on_both new old.both (sym e)) (at_same w m v k old old.both step new.link x t (λ s. refl) (λ s. refl) (still_list step old.link new.link old.both none t))

-- ---- links that lead to a last one

front_all : {A : Type 0} (l : List A) → HasFront l l
front_all l = ([], append-nil l)

front_then : {A : Type 0} (a b c : List A) → HasFront b a → HasFront c b → HasFront c a
front_then a b c g h = (g.0 ++ h.0, sym (append_assoc a g.0 h.0) ∙ (ap (λ l. l ++ h.0) g.1 ∙ h.1))

pub before_self : (a : LinkState) → IsBefore a a
before_self a = record { steps = front_all a.steps; marks = front_all a.marks; to_client = front_all a.carried.client.delivered; to_server = front_all a.carried.server.delivered }

pub before_then : (a b c : LinkState) → IsBefore a b → IsBefore b c → IsBefore a c
before_then a b c g h = record {
  steps = front_then a.steps b.steps c.steps g.steps h.steps;
  marks = front_then a.marks b.marks c.marks g.marks h.marks;
  to_client = front_then a.carried.client.delivered b.carried.client.delivered c.carried.client.delivered g.to_client h.to_client;
  to_server = front_then a.carried.server.delivered b.carried.server.delivered c.carried.server.delivered g.to_server h.to_server;
}

goes_before : (step : Step) (a b : LinkState) → LinkGoes step a b → IsBefore a b
goes_before step a b t = record { steps = (step ∷ [], sym t.steps); marks = (both_marks b.carried ∷ [], sym t.marks); to_client = t.to_client; to_server = t.to_server }

carried_before : (a b : PairOnLink) → Carried a b → IsBefore a.link b.link
carried_before a b (Received side h e) = subst (IsBefore a.link) (sym e) (before_self a.link)
carried_before a b (Submitted side payload rest is e t) = goes_before (Submit side payload) a.link b.link t
carried_before a b (Stepped step none e t) = goes_before step a.link b.link t

pub carries_before : (mids : List PairOnLink) (a b : PairOnLink) → CarriesBy mids a b → IsBefore a.link b.link
carries_before [] a b e = subst (λ (x : PairOnLink). IsBefore a.link x.link) (sym e) (before_self a.link)
carries_before (mid ∷ mids) a b h = before_then a.link mid.link b.link (carried_before a mid h.0) (carries_before mids mid b h.1)

pub runs_before : (steps : List ChannelStep) (a b : PairOnLink) → RunsSteps steps a b → IsBefore a.link b.link
runs_before [] a b e = subst (λ (x : PairOnLink). IsBefore a.link x.link) (sym e) (before_self a.link)
runs_before (step ∷ steps) a b h = before_then a.link h.1.link b.link (carries_before h.3.carries.0 (record { both = h.0; link = a.link }) h.1 h.3.carries.1) (runs_before steps h.1 b h.4)

last_of : {A : Type 0} (l : List A) (x : A) (n : ℕ) → length l ≡ n → slice_get (l ++ x ∷ []) n ≡ Some x
last_of [] x zero e = refl
last_of [] x (suc n) e = absurd (omega (arith, e))
last_of (y ∷ l) x zero e = absurd (omega (arith, e))
last_of (y ∷ l) x (suc n) e = last_of l x n (omega (arith, e))

goes_marked : (step : Step) (a b : LinkState) → IsMarkedLink a → LinkGoes step a b → IsMarkedLink b
goes_marked step a b m t =
    let s : length b.steps ≡ suc (length a.steps) = (let e = ap length t.steps in let f = length-append a.steps (step ∷ []) in omega (arith, e, f)) in
    let k : length b.marks ≡ suc (length a.marks) = (let e = ap length t.marks in let f = length-append a.marks (both_marks b.carried ∷ []) in omega (arith, e, f)) in
    record {
      many = (let x = m.many in omega (arith, s, k, x));
      last = ap (λ l. slice_get l (length b.steps)) t.marks ∙ last_of a.marks (both_marks b.carried) (length b.steps) (let x = m.many in omega (arith, s, x));
    }

carried_marked : (a b : PairOnLink) → IsMarkedLink a.link → Carried a b → IsMarkedLink b.link
carried_marked a b m (Received side h e) = subst IsMarkedLink (sym e) m
carried_marked a b m (Submitted side payload rest is e t) = goes_marked (Submit side payload) a.link b.link m t
carried_marked a b m (Stepped step none e t) = goes_marked step a.link b.link m t

-- ---- a run, where each of its links is honest

pub at_carries : (w m v k : ℕ) → AreSettings w m v k → (last : LinkState) → MakesHonest last → (mids : List PairOnLink) (old new : PairOnLink) → IsMarkedLink old.link → IsBefore new.link last → (x : IsAtMoment w m v k old) → CarriesBy mids old new
    → LeadsTo w m v k old x new × IsMarkedLink new.link
at_carries w m v k are last honest [] old new marked before x e = (subst (LeadsTo w m v k old x) (sym e) (leads_self w m v k old x), subst (λ (y : PairOnLink). IsMarkedLink y.link) (sym e) marked)
at_carries w m v k are last honest (mid ∷ mids) old new marked before x h =
    let here = honest old.link marked (before_then old.link new.link last (carries_before (mid ∷ mids) old new h) before) in
    let d = at_carried w m v k are old mid here x h.0 in
    let r = at_carries w m v k are last honest mids mid new (carried_marked old mid marked h.0) before d.at h.1 in
    (leads_then w m v k old mid new x d r.0, r.1)

-- how many messages a call can add to those that are still made
abbrev pub added_in : Option (Side × Request) → ℕ
added_in None = 0
added_in (Some call) = added_by call.1

-- and the calls of some steps
abbrev pub asked_in : List ChannelStep → ℕ
asked_in [] = 0
asked_in (step ∷ steps) = added_in (request_of step) + asked_in steps

pub at_called : (w m v k : ℕ) (call : Option (Side × Request)) (old : PairOnLink) (new : Both) → (x : IsAtMoment w m v k old) → CalledAs call old.both new → IsStillAt w m v k (still_made x.pair + added_in call) (record { both = new; link = old.link })
at_called w m v k None old new x e = subst (IsStillAt w m v k (still_made x.pair + 0)) (sym (on_both old new e)) (record { at = x; few = omega arith })
at_called w m v k (Some call) old new x h = at_call w m v k old new call.0 call.1 x h

pub at_steps : (w m v k : ℕ) → AreSettings w m v k → (last : LinkState) → MakesHonest last → (steps : List ChannelStep) (most : ℕ) (old new : PairOnLink) → IsMarkedLink old.link → IsBefore new.link last → IsStillAt w m v k most old → RunsSteps steps old new
    → IsStillAt w m v k (most + asked_in steps) new
at_steps w m v k are last honest [] most old new marked before x e = subst (IsStillAt w m v k (most + 0)) (sym e) (record { at = x.at; few = (let f = x.few in omega (arith, f)) })
at_steps w m v k are last honest (step ∷ steps) most old new marked before x h =
    let d = at_called w m v k (request_of step) old h.0 x.at h.2 in
    let c = at_carries w m v k are last honest h.3.carries.0 (record { both = h.0; link = old.link }) h.1 marked (before_then h.1.link new.link last (runs_before steps h.1 new h.4) before) d.at h.3.carries.1 in
    let r = at_steps w m v k are last honest steps (most + added_in (request_of step)) h.1 new c.1 before
    (record { at = c.0.at; few = (let f = x.few in let g = d.few in let p = c.0.fewer in let q = c.0.more in omega (arith, f, g, p, q)) }) h.4 in
    record { at = r.at; few = (let f = r.few in omega (arith, f)) }

-- ---- a whole run

-- nothing is still to be made
pub at_first : (config : PairConfig) (first : CarriedLink) → IsStillAt config.client.window config.client.largest config.server.window config.server.largest 0 (first_on_link config first)
at_first config first = record {
  at = record {
    mids = [];
    pair = new_muxes config;
    happens = refl;
    mux = first_mux;
    way = first_way;
    received = first_received;
    sent = first_sent;
  };
  few = omega arith;
}
  where
    first_mux : (side : Side) → mux_of side (new_muxes config) ≡ (state_at side (first_on_link config first).both).side
    first_mux Client = refl
    first_mux Server = refl

    first_way : (side : Side) → map (λ p. packet_text p) (way_to side (new_muxes config)) ≡ drop (side_at side (first_on_link config first).both).received (submitted_by (other_side side) [] ++ (state_at (other_side side) (first_on_link config first).both).made)
    first_way Client = refl
    first_way Server = refl

    first_received : (side : Side) → (side_at side (first_on_link config first).both).received ≤ length (delivered_at side (first_link_state first))
    first_received Client = omega arith
    first_received Server = omega arith

    first_sent : (side : Side) → (side_at side (first_on_link config first).both).received ≤ length (submitted_by (other_side side) [])
    first_sent Client = omega arith
    first_sent Server = omega arith

pub settings : (config : PairConfig) → are_within config ≡ true → AreSettings config.client.window config.client.largest config.server.window config.server.largest
settings config h =
    let x = and_parts _ _ h in
    let a = and_parts _ _ x.0 in
    let b = and_parts _ _ a.1 in
    let c = and_parts _ _ b.1 in
    let d = and_parts _ _ x.1 in
    let e = and_parts _ _ d.1 in
    let f = and_parts _ _ e.1 in
    record {
      of_opener = leb-true config.client.window (2 ^ 30) b.0;
      of_other = leb-true config.server.window (2 ^ 30) e.0;
      packet = (leb-true 1 config.client.largest c.0, leb-true config.client.largest 32768 c.1);
      other_packet = (leb-true 1 config.server.largest f.0, leb-true config.server.largest 32768 f.1);
    }

pub run_at : (config : PairConfig) → are_within config ≡ true → (first : CarriedLink) (steps : List ChannelStep) (last : PairOnLink) → MakesHonest last.link → RunsSteps steps (first_on_link config first) last → IsPairAt config last
run_at config within first steps last honest run =
    let y = at_steps config.client.window config.client.largest config.server.window config.server.largest (settings config within) last.link honest steps 0 (first_on_link config first) last (record { many = refl; last = refl }) (before_self last.link)
    (at_first config first) run in
    let x = y.at in
    record { mids = x.mids; pair = x.pair; happens = x.happens; client = x.mux Client; server = x.mux Server; to_client = x.way Client; to_server = x.way Server }

-- ---- no message is refused

pub carries_marked : (mids : List PairOnLink) (a b : PairOnLink) → IsMarkedLink a.link → CarriesBy mids a b → IsMarkedLink b.link
carries_marked [] a b m e = subst (λ (y : PairOnLink). IsMarkedLink y.link) (sym e) m
carries_marked (mid ∷ mids) a b m h = carries_marked mids mid b (carried_marked a mid m h.0) h.1

pub runs_marked : (steps : List ChannelStep) (a b : PairOnLink) → IsMarkedLink a.link → RunsSteps steps a b → IsMarkedLink b.link
runs_marked [] a b m e = subst (λ (y : PairOnLink). IsMarkedLink y.link) (sym e) m
runs_marked (step ∷ steps) a b m h = runs_marked steps h.1 b (carries_marked h.3.carries.0 (record { both = h.0; link = a.link }) h.1 m h.3.carries.1) h.4

-- a payload that was delivered is refused only where memory is wanting
now_unbroken : (w m v k : ℕ) → AreSettings w m v k → (s : PairOnLink) (fault : RunFault) → IsHonest s.link → IsAtMoment w m v k s → BreaksNow fault s → IsNoMessageFault fault
now_unbroken w m v k are s fault honest x h =
    let side = h.side in
    let b = h.breaks in
    let d = delivered_at side s.link in
    let r = (side_at side s.both).received in
    let made = (state_at (other_side side) s.both).made in
    let front = honest_at s.link honest side in
    let all : submitted_by (other_side side) s.link.steps ++ made ≡ d ++ (front.0 ++ made) = ap (λ l. l ++ made) (sym front.1) ∙ append_assoc d front.0 made in
    let way : map (λ p. packet_text p) (way_to side x.pair) ≡ b.done ++ (b.payload ∷ (b.rest ++ (front.0 ++ made))) =
    x.way side ∙ (ap (drop r) all ∙ (drop_front r d (front.0 ++ made) (x.received side) ∙ (ap (λ l. l ++ (front.0 ++ made)) b.all ∙ append_assoc b.done (b.payload ∷ b.rest) (front.0 ++ made)))) in
    let o = (side_at (other_side side) s.both).received in
    let t = submitted_by side s.link.steps in
    let within : o ≤ length t = (let a = x.sent (other_side side) in let c = ap (λ s'. length (submitted_by s' s.link.steps)) (twice side) in omega (arith, a, c)) in
    let back : map (λ p. packet_text p) (way_to (other_side side) x.pair) ≡ drop o t ++ (state_at side s.both).made =
    subst (λ s'. map (λ p. packet_text p) (way_to (other_side side) x.pair) ≡ drop o (submitted_by s' s.link.steps ++ (state_at s' s.both).made)) (twice side) (x.way (other_side side)) ∙ drop_front o t (state_at side s.both).made within in
    let a = take_all w m v k are side b.done x.mids x.pair (state_at side s.both) b.mid (b.payload ∷ (b.rest ++ (front.0 ++ made))) (drop o t) x.happens (x.mux side) way back b.takes in
    let begin = begins (λ p. packet_text p) (way_to side a.pair) b.payload (b.rest ++ (front.0 ++ made)) a.way in
    let passes = (no_payload_refused w m v k are a.mids a.pair a.happens side begin.head begin.tail begin.is).passes in
    let none : payload_fault b.payload b.mid.side ≡ None = subst (λ (u : Mux). payload_fault b.payload u ≡ None) a.own (subst (λ l. payload_fault l (mux_of side a.pair) ≡ None) begin.head_is passes) in
    let memory : h.due ≡ Memory = subst (λ f. IsRefused f h.due (b.new ≡ b.mid)) none b.refused in
    ap is_message_refused h.fault_is ∙ ap is_message_fault memory

-- so no run is refused for a message that comes
pub run_unbroken : (config : PairConfig) → are_within config ≡ true → (first : CarriedLink) (fault : RunFault) (last : LinkState) → MakesHonest last → BreaksRun fault (first_on_link config first) last → IsNoMessageFault fault
run_unbroken config within first fault last honest b =
    let are = settings config within in
    let called : PairOnLink = record { both = b.called; link = b.mid.link } in
    let moment : PairOnLink = record { both = b.at.both; link = last } in
    let marked : IsMarkedLink (first_link_state first) = record { many = refl; last = refl } in
    let before : IsBefore b.mid.link last = carries_before b.at.carries.0 called moment b.at.carries.1 in
    let x = at_steps config.client.window config.client.largest config.server.window config.server.largest are last honest b.done 0 (first_on_link config first) b.mid marked before (at_first config first) b.run in
    let c = at_carries config.client.window config.client.largest config.server.window config.server.largest are last honest b.at.carries.0 called moment (runs_marked b.done (first_on_link config first) b.mid marked b.run) (before_self last)
    (at_called config.client.window config.client.largest config.server.window config.server.largest (request_of b.step) b.mid b.called x.at b.call).at b.at.carries.1 in
    now_unbroken config.client.window config.client.largest config.server.window config.server.largest are moment fault (honest last c.1 (before_self last)) c.0.at b.at.breaks

pub flow_at : (config : PairConfig) (s : PairOnLink) → IsPairAt config s → (side : Side) (n : ℕ) (c : Channel) → slice_get (state_at side s.both).side.channels n ≡ Some c → c.started ≡ false
    → (d : Channel) × (slice_get (state_at (other_side side) s.both).side.channels c.peer ≡ Some d) × (d.started ≡ true) × FlowsWell d.end c.end × FlowsWell c.end d.end
flow_at config s p Client n c at started =
    let f = channels_flow config.client.window config.client.largest config.server.window config.server.largest p.mids p.pair p.happens Client n c (subst (λ (x : Mux). slice_get x.channels n ≡ Some c) (sym p.client) at) started in
    (f.0, subst (λ (x : Mux). slice_get x.channels c.peer ≡ Some f.0) p.server f.1, f.2, f.3, f.4)
flow_at config s p Server n c at started =
    let f = channels_flow config.client.window config.client.largest config.server.window config.server.largest p.mids p.pair p.happens Server n c (subst (λ (x : Mux). slice_get x.channels n ≡ Some c) (sym p.server) at) started in
    (f.0, subst (λ (x : Mux). slice_get x.channels c.peer ≡ Some f.0) p.client f.1, f.2, f.3, f.4)

pub runs_are_talks : (cm : ClientPairs) (sm : ServerValues) (ag : Secrets) → RunsAreTalks cm sm ag
runs_are_talks cm sm ag config client server steps report within run link =
    run_at config within run.first steps run.last (link_honest cm sm ag client server run.last.link (subst (λ r. IsLink cm sm ag client server run.last.link.steps r) run.tells.link (subst (λ s. IsLink cm sm ag client server s report.link) run.tells.steps link))) run.run

pub runs_flow : (cm : ClientPairs) (sm : ServerValues) (ag : Secrets) → RunsFlow cm sm ag
runs_flow cm sm ag config client server steps report within run link side n c at started = flow_at config run.last (runs_are_talks cm sm ag config client server steps report within run link) side n c at started
