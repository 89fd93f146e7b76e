-- A channel between two sides over an honest carrier stays one, and what is read at an end is a front of what was
-- written.
use Rattle.std.proofs.Common.{◌≡◌, ℕ, zero, suc, ◌+◌, ◌-◌, ◌<◌, ◌≤◌, min, Bool, true, false, ◌&&◌, ◌||◌, if◌then◌else◌, List, [], ◌∷◌, ◌++◌, length, take, drop, map, slice_get, slice_set, Option, Some, None, Result, Ok, Err, ◌⊎◌, inl, inr, IfErr, ◌^◌, refl, sym, ap, ◌∙◌, subst, append_assoc, append-nil, length-append, arith}
use Rattle.std.proofs.lemmas.Bool.{and_parts, leb-true}
use Rattle.std.proofs.lemmas.List.{take-append-drop}
use Rattle.ssh_wire.specs.Sides.{other_side}
use Rattle.ssh_wire.specs.declared.side.Side.{Side}
use Rattle.ssh_wire.specs.declared.side.Side.TheVariants.{Client, Server}
use Rattle.ssh_channels.specs.Asking.{Answers, IsReadFrom, IsRefused, MuxState, TakesPayload, fault_in, call_fault_at, message_fault_at, packet_fault_to, request_fault, payload_fault, payload_fault_in, ReceivesAll, RefusesOneOf}
use Rattle.ssh_channels.specs.Ends.{Read, Receives, Sends, Write, after_close, after_eof, all_gone, can_send, close_messages, closes_now, data_messages, ends_now, eof_messages, fresh, is_open, taken, tells}
use Rattle.ssh_channels.specs.Formats.{PacketFault, packet_of, packet_text}
use Rattle.ssh_channels.specs.Laws.{AreSettings, IsPrefixOf}
use Rattle.ssh_channels.specs.Muxes.{Asks, Channel, Mux, On, Packet, Request, Start, Takes, TakesAt, addressed, is_within, told_number}
use Rattle.ssh_channels.specs.Phases.{Message, Open, Confirmation, Failure, Adjust, Data, Eof, Close, is_refused, next}
use Rattle.ssh_channels.specs.declared.end.Phase.{Phase}
use Rattle.ssh_channels.specs.declared.end.Phase.TheVariants.{Silent, Talking, Ended, Shut, Failed}
use Rattle.ssh_channels.specs.declared.config.MuxConfig.{MuxConfig}
use Rattle.ssh_channels.specs.declared.end.End.{End}
use Rattle.ssh_channels.specs.declared.fault.MuxFault.{MuxFault}
use Rattle.ssh_channels.specs.declared.fault.MuxFault.TheVariants.{Ended as ended_fault, Memory}
use Rattle.ssh_talks.specs.Talks.{Asked, Came, CameAll, ChannelsCome, ChannelsFlow, IsQuietPair, FlowsWell, Happens, HappensOn, MuxPair, NoPayloadRefused, both_new, mux_of, way_to, with_mux}
use Rattle.uses_above.specs.declared.asked.AskFault.{AskFault}
use Rattle.uses_above.specs.declared.asked.AskFault.TheVariants.{Channel as channel_fault, Config}
use Rattle.uses_above.specs.Asked.{AreAll, IsChannel, IsFlow, IsMoment, IsOpenSide, Joins, Place, Settles, StandsAt, StaysOpen, brings, emptied, flows, never, place_at}

-- ---- lists

map_more : {A B : Type 0} (f : A → B) (xs ys : List A) → map f (xs ++ ys) ≡ map f xs ++ map f ys
map_more f [] ys = refl
map_more f (x ∷ xs) ys = ap (λ l. f x ∷ l) (map_more f xs ys)

drop_all : {A : Type 0} (xs ys : List A) → drop (length xs) (xs ++ ys) ≡ ys
drop_all [] ys = refl
drop_all (x ∷ xs) ys = drop_all xs ys

length_take : {A : Type 0} (n : ℕ) (l : List A) → n ≤ length l → length (take n l) ≡ n
length_take zero l h = refl
length_take (suc n) [] h = absurd (omega (arith, h))
length_take (suc n) (x ∷ l) h = (let e = length_take n l (omega (arith, h)) in omega (arith, e))

none_left : {A : Type 0} (l : List A) → length l ≡ 0 → l ≡ []
none_left [] h = refl
none_left (x ∷ l) h = absurd (omega (arith, h))

whole : {A : Type 0} (a b c : List A) → a ++ b ≡ c → length a ≡ length c → a ≡ c
whole a b c e h =
    let n : length b ≡ 0 = (let x = ap length e in let y = length-append a b in omega (arith, x, y, h)) in
    sym (append-nil a) ∙ (ap (λ l. a ++ l) (sym (none_left b n)) ∙ e)

get_front : {A : Type 0} (l more : List A) (n : ℕ) (x : A) → slice_get l n ≡ Some x → slice_get (l ++ more) n ≡ Some x
get_front [] more n x e = absurd (let z : None ≡ Some x = e in cc)
get_front (y ∷ l) more zero x e = e
get_front (y ∷ l) more (suc n) x e = get_front l more n x e

-- what stands at a place of a list in which another one was set
get_set : {A : Type 0} (l : List A) (i n : ℕ) (old y x : A) → slice_get l i ≡ Some old → slice_get l n ≡ Some x → ((slice_get (slice_set l i y) n ≡ Some y) × (x ≡ old)) ⊎ (slice_get (slice_set l i y) n ≡ Some x)
get_set [] i n old y x e f = absurd (let z : None ≡ Some x = f in cc)
get_set (a ∷ l) zero zero old y x e f = inl (refl, (let p : Some a ≡ Some old = e in let q : Some a ≡ Some x = f in cc))
get_set (a ∷ l) zero (suc n) old y x e f = inr f
get_set (a ∷ l) (suc i) zero old y x e f = inr f
get_set (a ∷ l) (suc i) (suc n) old y x e f = get_set l i n old y x e f

set_get : {A : Type 0} (l : List A) (i n : ℕ) (y x : A) → slice_get (slice_set l i y) n ≡ Some x → (slice_get l n ≡ Some x) ⊎ (x ≡ y)
set_get [] i n y x e = absurd (let z : None ≡ Some x = e in cc)
set_get (a ∷ l) zero zero y x e = inr (let z : Some y ≡ Some x = e in cc)
set_get (a ∷ l) zero (suc n) y x e = inl e
set_get (a ∷ l) (suc i) zero y x e = inl e
set_get (a ∷ l) (suc i) (suc n) y x e = set_get l i n y x e

some_one : {A : Type 0} (o : Option A) (x y : A) → o ≡ Some x → o ≡ Some y → x ≡ y
some_one o x y e f = (let z : Some x ≡ Some y = sym e ∙ f in cc)

-- a list whose elements give these begins with one that gives the first
record Begins {A B : Type 0} (f : A → B) (l : List A) (x : B) (xs : List B) : Type 0 where
  pub head : A
  pub tail : List A
  pub is : l ≡ head ∷ tail
  pub head_is : f head ≡ x
  pub tail_is : map f tail ≡ xs

begins : {A B : Type 0} (f : A → B) (l : List A) (x : B) (xs : List B) → map f l ≡ x ∷ xs → Begins f l x xs
begins f [] x xs e = absurd (let z : [] ≡ x ∷ xs = e in cc)
begins f (y ∷ l) x xs e = record { head = y; tail = l; is = refl; head_is = (let z : f y ∷ map f l ≡ x ∷ xs = e in cc); tail_is = (let z : f y ∷ map f l ≡ x ∷ xs = e in cc) }

-- ---- what an end keeps

-- what was written, read and received is as it was
record IsSame (old new : End) : Type 0 where
  pub written : new.written ≡ old.written
  pub read : new.read ≡ old.read
  pub received : new.received ≡ old.received

same_then : (a b c : End) → IsSame a b → IsSame b c → IsSame a c
same_then a b c h k = record { written = k.written ∙ h.written; read = k.read ∙ h.read; received = k.received ∙ h.received }

same_if : (b : Bool) (x y : End) → IsSame y x → IsSame y (if b then x else y)
same_if true x y h = h
same_if false x y h = record { written = refl; read = refl; received = refl }

sends_same : (old : End) (messages : List Message) (new : End) → Sends old messages new → IsSame old new
sends_same old messages new s =
    let a : IsSame old s.mid = subst (IsSame old) (sym s.sent.new_is) (record { written = refl; read = refl; received = refl }) in
    let b : IsSame s.mid (after_eof s.mid) = same_if (ends_now s.mid) (record s.mid { said = Ended }) s.mid (record { written = refl; read = refl; received = refl }) in
    let c : IsSame (after_eof s.mid) (after_close (after_eof s.mid)) = same_if (closes_now (after_eof s.mid)) (record (after_eof s.mid) { said = Shut }) (after_eof s.mid) (record { written = refl; read = refl; received = refl }) in
    subst (IsSame old) (sym s.new_is) (same_then old s.mid (after_close (after_eof s.mid)) a (same_then s.mid (after_eof s.mid) (after_close (after_eof s.mid)) b c))

-- and some bytes were received
record HasHeard (old new : End) : Type 0 where
  pub written : new.written ≡ old.written
  pub read : new.read ≡ old.read
  pub more : List ℕ
  pub received : new.received ≡ old.received ++ more

heard_none : (old new : End) → IsSame old new → HasHeard old new
heard_none old new h = record { written = h.written; read = h.read; more = []; received = h.received ∙ sym (append-nil old.received) }

heard_as : (old mid new : End) → new ≡ mid → HasHeard old mid → HasHeard old new
heard_as old mid new e h = subst (HasHeard old) (sym e) h

receives_keep : (m : Message) (old : End) (messages : List Message) (new : End) → Receives m old messages new → HasHeard old new
receives_keep (Open w k) old messages new (inl h) = heard_as old _ new h.1 (heard_none old _ (record { written = refl; read = refl; received = refl }))
receives_keep (Open w k) old messages new (inr h) = heard_as old _ new h.1 (heard_none old _ (record { written = refl; read = refl; received = refl }))
receives_keep (Confirmation w k) old messages new h = heard_none old new (let s = sends_same _ messages new h in record { written = s.written; read = s.read; received = s.received })
receives_keep Failure old messages new h = heard_as old _ new h.1 (heard_none old _ (record { written = refl; read = refl; received = refl }))
receives_keep (Adjust n) old messages new h = heard_none old new (let s = sends_same _ messages new h in record { written = s.written; read = s.read; received = s.received })
receives_keep (Data bytes) old messages new h = heard_as old _ new h.1 (record { written = refl; read = refl; more = bytes; received = refl })
receives_keep Eof old messages new h = heard_as old _ new h.1 (heard_none old _ (record { written = refl; read = refl; received = refl }))
receives_keep Close old messages new h = heard_as old _ new h.1 (heard_none old _ (record { written = refl; read = refl; received = refl }))

-- ---- what a side keeps where it takes a packet

-- a granted channel is no longer told a number
no_number : (heard : Phase) (w k : ℕ) → next false heard (Confirmation w k) ≡ None
no_number Silent w k = refl
no_number Talking w k = refl
no_number Ended w k = refl
no_number Shut w k = refl
no_number Failed w k = refl

same_peer : (p : Packet) (m : Message) (own : ℕ) (c : Channel) → c.started ≡ false → message_fault_at m own (Some c) ≡ None → told_number p c.peer m ≡ c.peer
same_peer p (Open w k) own c s h = refl
same_peer p (Confirmation w k) own c s h =
    absurd (let e : fault_in (next false c.end.heard (Confirmation w k)) (Confirmation w k) own c.end ≡ None = subst (λ t. fault_in (next t c.end.heard (Confirmation w k)) (Confirmation w k) own c.end ≡ None) s h in
    let f = sym (ap (λ o. fault_in o (Confirmation w k) own c.end) (no_number c.end.heard w k)) ∙ e in cc)
same_peer p Failure own c s h = refl
same_peer p (Adjust n) own c s h = refl
same_peer p (Data bytes) own c s h = refl
same_peer p Eof own c s h = refl
same_peer p Close own c s h = refl

-- the channel of a side that stands so, joined with this one of the other side
record IsJoined (mux : Mux) (place : Place) (other : Channel) (number : ℕ) : Type 0 where
  pub end : StandsAt mux place
  pub joins : Joins end.channel place.number other number

abbrev stands_heard : (old new : Mux) (place : Place) (s : StandsAt old place) (c : Channel) → slice_get new.channels place.number ≡ Some c → HasHeard s.channel.end c.end → StandsAt new place
stands_heard old new place s c at h = record {
  channel = c;
  at = at;
  written = h.written ∙ s.written;
  unread = s.unread ++ h.more;
  received = h.received ∙ (ap (λ l. l ++ h.more) s.received ∙ append_assoc place.read s.unread h.more);
  read = h.read ∙ s.read;
}

joins_same : (a b : Channel) (n : ℕ) (other : Channel) (number : ℕ) → b.started ≡ a.started → (a.started ≡ false → b.peer ≡ a.peer) → Joins a n other number → Joins b n other number
joins_same a b n other number s p (inl h) = inl (s ∙ h.0, p h.0 ∙ h.1)
joins_same a b n other number s p (inr h) = inr h

heard_self : (e : End) → HasHeard e e
heard_self e = heard_none e e (record { written = refl; read = refl; received = refl })

joined_takes : (to : Option ℕ) (p : Packet) (old new : Mux) (packets : List Packet) (place : Place) (other : Channel) (number : ℕ) → packet_fault_to to p.message old ≡ None → TakesAt to p old packets new
    → IsJoined old place other number → IsJoined new place other number
joined_takes None p old new packets place other number none (inl h) j =
    let at = subst (λ (x : Mux). slice_get x.channels place.number ≡ Some j.end.channel) (sym h.6) (get_front old.channels _ place.number j.end.channel j.end.at) in
    record { end = stands_heard old new place j.end j.end.channel at (heard_self j.end.channel.end); joins = j.joins }
joined_takes None p old new packets place other number none (inr h) j = subst (λ (x : Mux). IsJoined x place other number) (sym h.2) j
joined_takes (Some k) p old new packets place other number none h j =
    let c' : Channel = record { started = h.0.started; peer = told_number p h.0.peer p.message; end = h.2 } in
    on c' (refl) (get_set old.channels k place.number h.0 c' j.end.channel h.3 j.end.at)
  where
    on : (c' : Channel) → c' ≡ record { started = h.0.started; peer = told_number p h.0.peer p.message; end = h.2 }
        → ((slice_get (slice_set old.channels k c') place.number ≡ Some c') × (j.end.channel ≡ h.0)) ⊎ (slice_get (slice_set old.channels k c') place.number ≡ Some j.end.channel)
        → IsJoined new place other number
    on c' is (inl x) =
        let set : new.channels ≡ slice_set old.channels k c' = ap (λ (y : Mux). y.channels) h.6 ∙ ap (slice_set old.channels k) (sym is) in
        let at = subst (λ l. slice_get l place.number ≡ Some c') (sym set) x.0 in
        let heard : HasHeard j.end.channel.end c'.end = subst (λ (y : Channel). HasHeard y.end c'.end) (sym x.1) (subst (λ (y : Channel). HasHeard h.0.end y.end) (sym is) (receives_keep p.message h.0.end h.1 h.2 h.4)) in
        let fault : message_fault_at p.message k (Some h.0) ≡ None = subst (λ o. message_fault_at p.message k o ≡ None) h.3 none in
        record {
          end = stands_heard old new place j.end c' at heard;
          joins = joins_same h.0 c' place.number other number (ap (λ (y : Channel). y.started) is) (λ s. ap (λ (y : Channel). y.peer) is ∙ same_peer p p.message k h.0 s fault) (subst (λ (y : Channel). Joins y place.number other number) x.1 j.joins);
        }
    on c' is (inr x) =
        let set : new.channels ≡ slice_set old.channels k c' = ap (λ (y : Mux). y.channels) h.6 ∙ ap (slice_set old.channels k) (sym is) in
        let at = subst (λ l. slice_get l place.number ≡ Some j.end.channel) (sym set) x in
        record { end = stands_heard old new place j.end j.end.channel at (heard_self j.end.channel.end); joins = j.joins }

-- ---- one side in place of another

own_mux : (side : Side) (m : Mux) (to from : List Packet) (b : MuxPair) → mux_of side (with_mux side m to from b) ≡ m
own_mux Client m to from b = refl
own_mux Server m to from b = refl

other_mux : (side : Side) (m : Mux) (to from : List Packet) (b : MuxPair) → mux_of (other_side side) (with_mux side m to from b) ≡ mux_of (other_side side) b
other_mux Client m to from b = refl
other_mux Server m to from b = refl

own_way : (side : Side) (m : Mux) (to from : List Packet) (b : MuxPair) → way_to side (with_mux side m to from b) ≡ to
own_way Client m to from b = refl
own_way Server m to from b = refl

other_way : (side : Side) (m : Mux) (to from : List Packet) (b : MuxPair) → way_to (other_side side) (with_mux side m to from b) ≡ from
other_way Client m to from b = refl
other_way Server m to from b = refl

happens_more : (mids : List MuxPair) (start b new : MuxPair) → HappensOn mids start b → Happens b new → HappensOn (mids ++ new ∷ []) start new
happens_more [] start b new e h = (subst (λ x. Happens x new) e h, refl)
happens_more (mid ∷ mids) start b new h k = (h.0, happens_more mids mid b new h.1 k)

-- both sides within their bounds
abbrev pub AreWithin : (client server : MuxConfig) → Type 0
AreWithin client server = AreSettings client.window client.largest server.window server.largest

one_packet : (p q : Packet) → (let x : Result Packet PacketFault = Ok p in x) ≡ Ok q → p ≡ q
one_packet p q e = cc

-- what holds of a side, of what is on the way to it and of what is on the way from it, keeps holding where a packet
-- comes that isn't refused
abbrev pub IsKept : (Mux → List Packet → List Packet → Type 0) → Type 0
IsKept P = (p : Packet) (old new : Mux) (rest back packets : List Packet) → packet_fault_to p.to p.message old ≡ None → Takes p old packets new → P old (p ∷ rest) back → P new rest (back ++ packets)

-- the next payload comes
record HasCome (client server : MuxConfig) (side : Side) (P : Mux → List Packet → List Packet → Type 0) (new : MuxState) (other : Mux) (rest : List (List ℕ)) : Type 0 where
  pub moment : IsMoment client server side new.side other rest new.made
  pub keeps : P new.side (way_to side moment.pair) (way_to (other_side side) moment.pair)

comes : NoPayloadRefused → (client server : MuxConfig) → AreWithin client server → (side : Side) (P : Mux → List Packet → List Packet → Type 0) → IsKept P → (payload : List ℕ) (rest : List (List ℕ)) (old new : MuxState) (other : Mux)
    → (m : IsMoment client server side old.side other (payload ∷ rest) old.made) → TakesPayload payload old new → P old.side (way_to side m.pair) (way_to (other_side side) m.pair) → HasCome client server side P new other rest
comes law client server are side P kept payload rest old new other m taken holds =
    let begin = begins (λ p. packet_text p) (way_to side m.pair) payload rest m.to_own_is in
    let p = begin.head in
    let passes = law client.window client.largest server.window server.largest are m.mids m.pair m.happens side p begin.tail begin.is in
    let same : p ≡ taken.0 = one_packet p taken.0 (sym passes.read ∙ (ap packet_of begin.head_is ∙ taken.1)) in
    let takes_old : Takes p old.side taken.2.packets new.side = subst (λ (x : Packet). Takes x old.side taken.2.packets new.side) (sym same) taken.2.takes in
    let takes : Takes p (mux_of side m.pair) taken.2.packets new.side = subst (λ (x : Mux). Takes p x taken.2.packets new.side) (sym m.own_is) takes_old in
    let next = with_mux side new.side begin.tail (way_to (other_side side) m.pair ++ taken.2.packets) m.pair in
    let fault : packet_fault_to p.to p.message old.side ≡ None = subst (λ (x : Mux). packet_fault_to p.to p.message x ≡ None) m.own_is (sym (ap (λ r. payload_fault_in r (mux_of side m.pair)) passes.read) ∙ passes.passes) in
    let own = own_way side new.side begin.tail (way_to (other_side side) m.pair ++ taken.2.packets) m.pair in
    let from = other_way side new.side begin.tail (way_to (other_side side) m.pair ++ taken.2.packets) m.pair in
    let here : P new.side begin.tail (way_to (other_side side) m.pair ++ taken.2.packets) =
    kept p old.side new.side begin.tail (way_to (other_side side) m.pair) taken.2.packets fault takes_old (subst (λ l. P old.side l (way_to (other_side side) m.pair)) begin.is holds) in
    record {
      moment = record {
        mids = m.mids ++ next ∷ [];
        pair = next;
        happens = happens_more m.mids _ m.pair next m.happens (Came side p begin.tail taken.2.packets new.side begin.is takes refl);
        own_is = own_mux side new.side begin.tail (way_to (other_side side) m.pair ++ taken.2.packets) m.pair;
        other_is = other_mux side new.side begin.tail (way_to (other_side side) m.pair ++ taken.2.packets) m.pair ∙ m.other_is;
        to_own_is = ap (map (λ p. packet_text p)) own ∙ begin.tail_is;
        to_other_is = ap (map (λ p. packet_text p)) from
            ∙ (map_more (λ p. packet_text p) (way_to (other_side side) m.pair) taken.2.packets ∙ (ap (λ l. l ++ map (λ p. packet_text p) taken.2.packets) m.to_other_is ∙ sym taken.2.made));
      };
      keeps = subst (λ l. P new.side l (way_to (other_side side) next)) (sym own) (subst (P new.side begin.tail) (sym from) here);
    }

come_all : NoPayloadRefused → (client server : MuxConfig) → AreWithin client server → (side : Side) (P : Mux → List Packet → List Packet → Type 0) → IsKept P → (payloads rest : List (List ℕ)) (old new : MuxState) (other : Mux)
    → (m : IsMoment client server side old.side other (payloads ++ rest) old.made) → ReceivesAll payloads old new → P old.side (way_to side m.pair) (way_to (other_side side) m.pair) → HasCome client server side P new other rest
come_all law client server are side P kept [] rest old new other m e holds =
    let here : HasCome client server side P old other rest = record { moment = m; keeps = holds } in
    subst (λ (s : MuxState). HasCome client server side P s other rest) (sym e) here
come_all law client server are side P kept (payload ∷ payloads) rest old new other m h holds =
    let x = comes law client server are side P kept payload (payloads ++ rest) old h.0 other m h.1 holds in
    come_all law client server are side P kept payloads rest h.0 new other x.moment h.2 x.keeps

-- ---- what a side is asked

-- a moment behind a request, and what is on the way then
record HasAsked (client server : MuxConfig) (side : Side) (own : MuxState) (other : Mux) (to_own : List (List ℕ)) (m : IsMoment client server side own.side other to_own own.made) (new : MuxState) (packets : List Packet) : Type 0 where
  pub moment : IsMoment client server side new.side other to_own new.made
  pub to_it : way_to side moment.pair ≡ way_to side m.pair
  pub from_it : way_to (other_side side) moment.pair ≡ way_to (other_side side) m.pair ++ packets

asks : (client server : MuxConfig) (side : Side) (request : Request) (own new : MuxState) (other : Mux) (to_own : List (List ℕ))
    → (m : IsMoment client server side own.side other to_own own.made) → (h : Answers request own new) → HasAsked client server side own other to_own m new h.packets
asks client server side request own new other to_own m h =
    let asks = subst (λ (u : Mux). Asks request u h.packets new.side) (sym m.own_is) h.asks in
    let next = with_mux side new.side (way_to side m.pair) (way_to (other_side side) m.pair ++ h.packets) m.pair in
    let to_it = own_way side new.side (way_to side m.pair) (way_to (other_side side) m.pair ++ h.packets) m.pair in
    let from_it = other_way side new.side (way_to side m.pair) (way_to (other_side side) m.pair ++ h.packets) m.pair in
    record {
      moment = record {
        mids = m.mids ++ next ∷ [];
        pair = next;
        happens = happens_more m.mids _ m.pair next m.happens (Asked side request h.packets new.side asks refl);
        own_is = own_mux side new.side (way_to side m.pair) (way_to (other_side side) m.pair ++ h.packets) m.pair;
        other_is = other_mux side new.side (way_to side m.pair) (way_to (other_side side) m.pair ++ h.packets) m.pair ∙ m.other_is;
        to_own_is = ap (map (λ p. packet_text p)) to_it ∙ m.to_own_is;
        to_other_is = ap (map (λ p. packet_text p)) from_it
            ∙ (map_more (λ p. packet_text p) (way_to (other_side side) m.pair) h.packets ∙ (ap (λ l. l ++ map (λ p. packet_text p) h.packets) m.to_other_is ∙ sym h.made));
      };
      to_it = to_it;
      from_it = from_it;
    }

abbrev moment_turned : (client server : MuxConfig) (side : Side) (own other : Mux) (to_own to_other : List (List ℕ)) → IsMoment client server side own other to_own to_other → IsMoment client server (other_side side) other own to_other to_own
moment_turned client server Client own other to_own to_other m = record { mids = m.mids; pair = m.pair; happens = m.happens; own_is = m.other_is; other_is = m.own_is; to_own_is = m.to_other_is; to_other_is = m.to_own_is }
moment_turned client server Server own other to_own to_other m = record { mids = m.mids; pair = m.pair; happens = m.happens; own_is = m.other_is; other_is = m.own_is; to_own_is = m.to_other_is; to_other_is = m.to_own_is }

joins_turned : (a b : Channel) (n m : ℕ) → Joins a n b m → Joins b m a n
joins_turned a b n m (inl h) = inr h
joins_turned a b n m (inr h) = inl h

-- ---- bytes that flow

-- what a message that is sent or a call leaves as it was
record IsSteady (old new : End) : Type 0 where
  pub window : new.window ≡ old.window
  pub eof : new.eof_called ≡ old.eof_called
  pub close : new.close_called ≡ old.close_called
  pub heard : new.heard ≡ old.heard

steady_then : (a b c : End) → IsSteady a b → IsSteady b c → IsSteady a c
steady_then a b c h k = record { window = k.window ∙ h.window; eof = k.eof ∙ h.eof; close = k.close ∙ h.close; heard = k.heard ∙ h.heard }

steady_if : (b : Bool) (x y : End) → IsSteady y x → IsSteady y (if b then x else y)
steady_if true x y h = h
steady_if false x y h = record { window = refl; eof = refl; close = refl; heard = refl }

sends_steady : (old : End) (messages : List Message) (new : End) → Sends old messages new → IsSteady old new
sends_steady old messages new s =
    let a : IsSteady old s.mid = subst (IsSteady old) (sym s.sent.new_is) (record { window = refl; eof = refl; close = refl; heard = refl }) in
    let b : IsSteady s.mid (after_eof s.mid) = steady_if (ends_now s.mid) (record s.mid { said = Ended }) s.mid (record { window = refl; eof = refl; close = refl; heard = refl }) in
    let c : IsSteady (after_eof s.mid) (after_close (after_eof s.mid)) = steady_if (closes_now (after_eof s.mid)) (record (after_eof s.mid) { said = Shut }) (after_eof s.mid) (record { window = refl; eof = refl; close = refl; heard = refl }) in
    subst (IsSteady old) (sym s.new_is) (steady_then old s.mid (after_close (after_eof s.mid)) a (steady_then s.mid (after_eof s.mid) (after_close (after_eof s.mid)) b c))

steady_open : (a b : End) → StaysOpen a → IsSteady a b → StaysOpen b
steady_open a b o s = record {
  window = (let x = o.window in let y = s.window in omega (arith, x, y));
  eof = s.eof ∙ o.eof;
  close = s.close ∙ o.close;
  heard = ap is_refused s.heard ∙ o.heard;
}

not_due : (a b c : Bool) → b ≡ false → (a && (b && c)) ≡ false
not_due true true c e = absurd (let z : true ≡ false = e in cc)
not_due true false c e = refl
not_due false b c e = refl

data_brings : (own peer : ℕ) (pieces : List (List ℕ)) (more : List Message) → more ≡ [] → AreAll brings (map (addressed own peer) (data_messages pieces ++ more))
data_brings own peer [] more e = subst (λ l. AreAll brings (map (addressed own peer) l)) (sym e) tt
data_brings own peer (piece ∷ pieces) more e = (refl, (peer, refl), data_brings own peer pieces more e)

-- only bytes are sent where nobody ended or closed
sends_bytes : (own peer : ℕ) (old : End) (messages : List Message) (new : End) → StaysOpen old → Sends old messages new → AreAll brings (map (addressed own peer) messages)
sends_bytes own peer old messages new o s =
    let eof : s.mid.eof_called ≡ false = ap (λ (e : End). e.eof_called) s.sent.new_is ∙ o.eof in
    let b : IsSteady s.mid (after_eof s.mid) = steady_if (ends_now s.mid) (record s.mid { said = Ended }) s.mid (record { window = refl; eof = refl; close = refl; heard = refl }) in
    let close : (after_eof s.mid).close_called ≡ false = b.close ∙ (ap (λ (e : End). e.close_called) s.sent.new_is ∙ o.close) in
    let no_eof : eof_messages s.mid ≡ [] = ap (λ t. if t then Eof ∷ [] else []) (not_due (can_send s.mid) s.mid.eof_called (all_gone s.mid) eof) in
    let no_close : close_messages (after_eof s.mid) ≡ [] = ap (λ t. if t then Close ∷ [] else []) (not_due (is_open (after_eof s.mid)) (after_eof s.mid).close_called (all_gone (after_eof s.mid)) close) in
    let none : eof_messages s.mid ++ close_messages (after_eof s.mid) ≡ [] = ap (λ l. l ++ close_messages (after_eof s.mid)) no_eof ∙ no_close in
    subst (λ l. AreAll brings (map (addressed own peer) l)) (sym s.messages_are) (data_brings own peer s.pieces (eof_messages s.mid ++ close_messages (after_eof s.mid)) none)

-- what a message of bytes or a grant of bytes does
record FlowsOn (messages : List Message) (e : End) : Type 0 where
  pub sends : (own peer : ℕ) → AreAll brings (map (addressed own peer) messages)
  pub stays : StaysOpen e

receives_flow : (m : Message) (old : End) (messages : List Message) (e : End) → flows m ≡ true → StaysOpen old → Receives m old messages e → FlowsOn messages e
receives_flow (Open w k) old messages e f o h = absurd (let z : false ≡ true = f in cc)
receives_flow (Confirmation w k) old messages e f o h =
    let mid : End = record old { heard = Talking; granted = w; largest = k } in
    let stays : StaysOpen mid = record { window = o.window; eof = o.eof; close = o.close; heard = refl } in
    record { sends = λ own peer. sends_bytes own peer mid messages e stays h; stays = steady_open mid e stays (sends_steady mid messages e h) }
receives_flow Failure old messages e f o h = absurd (let z : false ≡ true = f in cc)
receives_flow (Adjust n) old messages e f o h =
    let mid : End = record old { granted = old.granted + n } in
    let stays : StaysOpen mid = record { window = o.window; eof = o.eof; close = o.close; heard = o.heard } in
    record { sends = λ own peer. sends_bytes own peer mid messages e stays h; stays = steady_open mid e stays (sends_steady mid messages e h) }
receives_flow (Data bytes) old messages e f o h = record {
  sends = λ own peer. subst (λ l. AreAll brings (map (addressed own peer) l)) (sym h.0) tt;
  stays = subst StaysOpen (sym h.1) (record { window = o.window; eof = o.eof; close = o.close; heard = o.heard });
}
receives_flow Eof old messages e f o h = absurd (let z : false ≡ true = f in cc)
receives_flow Close old messages e f o h = absurd (let z : false ≡ true = f in cc)

brings_none : (m : Message) (old : End) (messages : List Message) (e : End) → brings m ≡ true → Receives m old messages e → messages ≡ []
brings_none (Open w k) old messages e f h = absurd (let z : false ≡ true = f in cc)
brings_none (Confirmation w k) old messages e f h = absurd (let z : false ≡ true = f in cc)
brings_none Failure old messages e f h = absurd (let z : false ≡ true = f in cc)
brings_none (Adjust n) old messages e f h = absurd (let z : false ≡ true = f in cc)
brings_none (Data bytes) old messages e f h = h.0
brings_none Eof old messages e f h = absurd (let z : false ≡ true = f in cc)
brings_none Close old messages e f h = absurd (let z : false ≡ true = f in cc)

brings_flows : (m : Message) → brings m ≡ true → flows m ≡ true
brings_flows (Open w k) f = f
brings_flows (Confirmation w k) f = refl
brings_flows Failure f = f
brings_flows (Adjust n) f = refl
brings_flows (Data bytes) f = refl
brings_flows Eof f = f
brings_flows Close f = f

-- what is of one kind is of another
abbrev Weaker : (f g : Message → Bool) → Type 0
Weaker f g = (m : Message) → f m ≡ true → g m ≡ true

never_so : (g : Message → Bool) → Weaker never g
never_so g m e = absurd (let z : false ≡ true = e in cc)

all_weaker : (f g : Message → Bool) → Weaker f g → (l : List Packet) → AreAll f l → AreAll g l
all_weaker f g w [] h = tt
all_weaker f g w (p ∷ l) h = (w p.message h.0, h.1, all_weaker f g w l h.2)

all_join : (f : Message → Bool) (a b : List Packet) → AreAll f a → AreAll f b → AreAll f (a ++ b)
all_join f [] b h k = k
all_join f (p ∷ a) b h k = (h.0, h.1, all_join f a b h.2 k)

-- one end in place of another
open_set : (old new : Mux) (k : ℕ) (c : Channel) → IsOpenSide old → StaysOpen c.end → new ≡ record old { channels = slice_set old.channels k c } → IsOpenSide new
open_set old new k c o s e = record {
  window = (let x = o.window in let y = ap (λ (m : Mux). m.window) e in omega (arith, x, y));
  each = λ n d at. on n d (set_get old.channels k n c d (subst (λ (m : Mux). slice_get m.channels n ≡ Some d) e at));
}
  where
    on : (n : ℕ) (d : Channel) → (slice_get old.channels n ≡ Some d) ⊎ (d ≡ c) → StaysOpen d.end
    on n d (inl at) = o.each n d at
    on n d (inr is) = subst (λ (x : Channel). StaysOpen x.end) (sym is) s

-- A side takes a message of bytes or a grant of bytes.
record TakesFlow (f : Message → Bool) (packets : List Packet) (new : Mux) : Type 0 where
  pub sent : AreAll f packets
  pub opens : IsOpenSide new

takes_flow : (to : Option ℕ) (n : ℕ) (p : Packet) (old new : Mux) (packets : List Packet) → to ≡ Some n → flows p.message ≡ true → IsOpenSide old → TakesAt to p old packets new → TakesFlow brings packets new
takes_flow None n p old new packets e f o h = absurd (let z : None ≡ Some n = e in cc)
takes_flow (Some k) n p old new packets e f o h =
    let r = receives_flow p.message h.0.end h.1 h.2 f (o.each k h.0 h.3) h.4 in
    record {
      sent = subst (AreAll brings) (sym h.5) (r.sends k (told_number p h.0.peer p.message));
      opens = open_set old new k (record { started = h.0.started; peer = told_number p h.0.peer p.message; end = h.2 }) o r.stays h.6;
    }

takes_bytes : (to : Option ℕ) (n : ℕ) (p : Packet) (old new : Mux) (packets : List Packet) → to ≡ Some n → brings p.message ≡ true → IsOpenSide old → TakesAt to p old packets new → TakesFlow never packets new
takes_bytes None n p old new packets e f o h = absurd (let z : None ≡ Some n = e in cc)
takes_bytes (Some k) n p old new packets e f o h =
    let r = takes_flow (Some k) n p old new packets e (brings_flows p.message f) o h in
    record {
      sent = subst (AreAll never) (sym (h.5 ∙ ap (map (addressed k (told_number p h.0.peer p.message))) (brings_none p.message h.0.end h.1 h.2 f h.4))) tt;
      opens = r.opens;
    }

-- where messages of one kind come, messages of another kind are made
abbrev Leads : (f g : Message → Bool) → Type 0
Leads f g = (p : Packet) (n : ℕ) (old new : Mux) (packets : List Packet) → p.to ≡ Some n → f p.message ≡ true → IsOpenSide old → Takes p old packets new → TakesFlow g packets new

flow_leads : Leads flows brings
flow_leads p n old new packets e f o h = takes_flow p.to n p old new packets e f o h

flow_on : Leads flows flows
flow_on p n old new packets e f o h = let r = takes_flow p.to n p old new packets e f o h in record { sent = all_weaker brings flows brings_flows packets r.sent; opens = r.opens }

bytes_lead : Leads brings never
bytes_lead p n old new packets e f o h = takes_bytes p.to n p old new packets e f o h

-- ---- a channel over which bytes flow

record IsFlowing (place : Place) (other : Channel) (number : ℕ) (f g : Message → Bool) (mux : Mux) (to_it from_it : List Packet) : Type 0 where
  pub joined : IsJoined mux place other number
  pub to_it_are : AreAll f to_it
  pub from_it_are : AreAll g from_it
  pub opens : IsOpenSide mux

flowing_kept : (place : Place) (other : Channel) (number : ℕ) (f g : Message → Bool) → Leads f g → IsKept (IsFlowing place other number f g)
flowing_kept place other number f g leads p old new rest back packets none takes h =
    let r = leads p h.to_it_are.1.0 old new packets h.to_it_are.1.1 h.to_it_are.0 h.opens takes in
    record {
      joined = joined_takes p.to p old new packets place other number none takes h.joined;
      to_it_are = h.to_it_are.2;
      from_it_are = all_join g back packets h.from_it_are r.sent;
      opens = r.opens;
    }

no_packets : (l : List Packet) → map (λ p. packet_text p) l ≡ [] → l ≡ []
no_packets [] e = refl
no_packets (p ∷ l) e = absurd (let z : packet_text p ∷ map (λ q. packet_text q) l ≡ [] = e in cc)

-- what the other side made comes to a side
flow_takes : NoPayloadRefused → (client server : MuxConfig) → AreWithin client server → (side : Side) (own other new : MuxState) (x y : Place) (f g h : Message → Bool) → Leads f h → Weaker g h
    → IsFlow client server side own other x y f g → ReceivesAll other.made own new → IsFlow client server side new (emptied other) x y never h
flow_takes law client server are side own other new x y f g h leads weaker k takes =
    let c = k.channel in
    let all : IsMoment client server side own.side other.side (other.made ++ []) own.made = record { mids = c.moment.mids; pair = c.moment.pair; happens = c.moment.happens; own_is = c.moment.own_is; other_is = c.moment.other_is; to_own_is = c.moment.to_own_is ∙ sym (append-nil other.made); to_other_is = c.moment.to_other_is } in
    let come = come_all law client server are side (IsFlowing x c.other_end.channel y.number f h) (flowing_kept x c.other_end.channel y.number f h leads) other.made [] own new other.side all takes
    (record { joined = record { end = c.own_end; joins = c.joins }; to_it_are = k.to_own_are; from_it_are = all_weaker g h weaker (way_to (other_side side) c.moment.pair) k.to_other_are; opens = k.own_open }) in
    let stand : StandsAt (emptied other).side y = record { channel = c.other_end.channel; at = c.other_end.at; written = c.other_end.written; unread = c.other_end.unread; received = c.other_end.received; read = c.other_end.read } in
    let channel : IsChannel client server side new (emptied other) x y = record { moment = come.moment; own_end = come.keeps.joined.end; other_end = stand; joins = come.keeps.joined.joins } in
    record {
      channel = channel;
      to_own_are = subst (AreAll never) (sym (no_packets (way_to side come.moment.pair) come.moment.to_own_is)) tt;
      to_other_are = come.keeps.from_it_are;
      own_open = come.keeps.opens;
      other_open = record { window = k.other_open.window; each = k.other_open.each };
    }

pub flow_turned : (client server : MuxConfig) (side : Side) (own other : MuxState) (x y : Place) (f g : Message → Bool) → IsFlow client server side own other x y f g → IsFlow client server (other_side side) other own y x g f
flow_turned client server Client own other x y f g k =
    let m = k.channel.moment in
    record {
      channel = record {
        moment = record { mids = m.mids; pair = m.pair; happens = m.happens; own_is = m.other_is; other_is = m.own_is; to_own_is = m.to_other_is; to_other_is = m.to_own_is };
        own_end = k.channel.other_end;
        other_end = k.channel.own_end;
        joins = joins_turned k.channel.own_end.channel k.channel.other_end.channel x.number y.number k.channel.joins;
      };
      to_own_are = k.to_other_are;
      to_other_are = k.to_own_are;
      own_open = k.other_open;
      other_open = k.own_open;
    }
flow_turned client server Server own other x y f g k =
    let m = k.channel.moment in
    record {
      channel = record {
        moment = record { mids = m.mids; pair = m.pair; happens = m.happens; own_is = m.other_is; other_is = m.own_is; to_own_is = m.to_other_is; to_other_is = m.to_own_is };
        own_end = k.channel.other_end;
        other_end = k.channel.own_end;
        joins = joins_turned k.channel.own_end.channel k.channel.other_end.channel x.number y.number k.channel.joins;
      };
      to_own_are = k.to_other_are;
      to_other_are = k.to_own_are;
      own_open = k.other_open;
      other_open = k.own_open;
    }

twice : (side : Side) → other_side (other_side side) ≡ side
twice Client = refl
twice Server = refl

flow_back : (client server : MuxConfig) (side : Side) (own other : MuxState) (x y : Place) (f g : Message → Bool) → IsFlow client server (other_side side) other own y x g f → IsFlow client server side own other x y f g
flow_back client server side own other x y f g k = subst (λ s. IsFlow client server s own other x y f g) (twice side) (flow_turned client server (other_side side) other own y x g f k)

flow_settled : NoPayloadRefused → (client server : MuxConfig) → AreWithin client server → (side : Side) (writer reader new_writer new_reader : MuxState) (x y : Place)
    → IsFlow client server side writer reader x y flows flows → Settles writer reader new_writer new_reader → IsFlow client server side new_writer new_reader x y never never
flow_settled law client server are side writer reader new_writer new_reader x y k h =
    let a = flow_takes law client server are side writer reader h.asked x y flows flows flows flow_on (λ m e. e) k h.to_writer in
    let b = flow_takes law client server are (other_side side) (emptied reader) h.asked h.answered y x flows never brings flow_leads (never_so brings) (flow_turned client server side h.asked (emptied reader) x y never flows a) h.to_reader in
    let c = flow_takes law client server are side (emptied h.asked) h.answered new_writer x y brings never never bytes_lead (never_so never) (flow_back client server side (emptied h.asked) h.answered x y brings never b) h.back in
    subst (λ (s : MuxState). IsFlow client server side new_writer s x y never never) (sym h.reader_is) c

-- ---- reads and writes at an end

at_set : {A : Type 0} (l : List A) (i : ℕ) (x y : A) → slice_get l i ≡ Some x → slice_get (slice_set l i y) i ≡ Some y
at_set [] i x y e = absurd (let z : None ≡ Some x = e in cc)
at_set (a ∷ l) zero x y e = refl
at_set (a ∷ l) (suc i) x y e = at_set l i x y e

-- a channel that stands so, started by the same side and with the same number on the other side as another one
record StandsLike (mux : Mux) (place : Place) (c : Channel) : Type 0 where
  pub end : StandsAt mux place
  pub started : end.channel.started ≡ c.started
  pub peer : end.channel.peer ≡ c.peer

written_at : (n : ℕ) (written read bytes : List ℕ) (old new : MuxState) → (s : StandsAt old.side (place_at n written read)) → Answers (On n (Write bytes)) old new
    → StandsLike new.side (place_at n (written ++ bytes) read) s.channel
written_at n written read bytes old new s h =
    let asks = h.asks in
    let same : s.channel ≡ asks.0 = some_one (slice_get old.side.channels n) s.channel asks.0 s.at asks.3 in
    let c' : Channel = record asks.0 { end = asks.2 } in
    let sent = sends_same _ asks.1 asks.2 asks.4.1 in
    let end_is : asks.0.end ≡ s.channel.end = ap (λ (c : Channel). c.end) (sym same) in
    record {
      end = record {
        channel = c';
        at = subst (λ (x : Mux). slice_get x.channels n ≡ Some c') (sym asks.6) (at_set old.side.channels n asks.0 c' asks.3);
        written = sent.written ∙ ap (λ l. l ++ bytes) (ap (λ (e : End). e.written) end_is ∙ s.written);
        unread = s.unread;
        received = sent.received ∙ (ap (λ (e : End). e.received) end_is ∙ s.received);
        read = sent.read ∙ (ap (λ (e : End). e.read) end_is ∙ s.read);
      };
      started = ap (λ (c : Channel). c.started) (sym same);
      peer = ap (λ (c : Channel). c.peer) (sym same);
    }

read_at : (m : ℕ) (back got : List ℕ) (n : ℕ) (bytes : List ℕ) (old new : MuxState) → (s : StandsAt old.side (place_at m back got)) → Answers (On m (Read n)) old new → IsReadFrom (slice_get old.side.channels m) n bytes
    → StandsLike new.side (place_at m back (got ++ bytes)) s.channel
read_at m back got n bytes old new s h from =
    let asks = h.asks in
    let same : s.channel ≡ asks.0 = some_one (slice_get old.side.channels m) s.channel asks.0 s.at asks.3 in
    let c' : Channel = record asks.0 { end = asks.2 } in
    let end_is : asks.0.end ≡ s.channel.end = ap (λ (c : Channel). c.end) (sym same) in
    let t = taken s.channel.end n in
    let many : t ≤ length s.unread = (let a = ap length s.received in let b = length-append got s.unread in let c = s.read in omega (arith, a, b, c)) in
    let dropped : drop s.channel.end.read s.channel.end.received ≡ s.unread = ap (λ k. drop k s.channel.end.received) s.read ∙ (ap (drop (length got)) s.received ∙ drop_all got s.unread) in
    let bytes_are : bytes ≡ take t s.unread = subst (λ o. IsReadFrom o n bytes) s.at from ∙ ap (take t) dropped in
    record {
      end = record {
        channel = c';
        at = subst (λ (x : Mux). slice_get x.channels m ≡ Some c') (sym asks.6) (at_set old.side.channels m asks.0 c' asks.3);
        written = ap (λ (e : End). e.written) asks.4.1 ∙ (ap (λ (e : End). e.written) end_is ∙ s.written);
        unread = drop t s.unread;
        received = ap (λ (e : End). e.received) asks.4.1 ∙ (ap (λ (e : End). e.received) end_is ∙ (s.received
            ∙ (ap (λ l. got ++ l) (sym (take-append-drop t s.unread)) ∙ (sym (append_assoc got (take t s.unread) (drop t s.unread)) ∙ ap (λ l. (got ++ l) ++ drop t s.unread) (sym bytes_are)))));
        read = ap (λ (e : End). e.read) asks.4.1 ∙ (ap (λ (e : End). e.read + taken e n) end_is
            ∙ (let a = s.read in let b = ap length bytes_are in let c = length_take t s.unread many in let d = length-append got bytes in omega (arith, a, b, c, d)));
      };
      started = ap (λ (c : Channel). c.started) (sym same);
      peer = ap (λ (c : Channel). c.peer) (sym same);
    }

-- ---- what was read

front_whole : (got unread received written : List ℕ) → received ≡ got ++ unread → IsPrefixOf received written → length written ≤ length got → got ≡ written
front_whole got unread received written e f many =
    let n : length got ≡ length written = (let a = ap length e in let b = length-append got unread in let c = ap length f.1 in let d = length-append received f.0 in omega (arith, a, b, c, d, many)) in
    whole got (unread ++ f.0) written (sym (append_assoc got unread f.0) ∙ (ap (λ l. l ++ f.0) (sym e) ∙ f.1)) n

-- The channel with this number that one side granted is the other end of that which it is joined with, so both flow
-- well.
record BothFlow (s r : End) : Type 0 where
  pub to : FlowsWell s r
  pub back : FlowsWell r s

granted_flows : ChannelsFlow → (client server : MuxConfig) (side : Side) (own other : Mux) (to_own to_other : List (List ℕ)) (n m : ℕ) (c d : Channel) → IsMoment client server side own other to_own to_other
    → slice_get own.channels n ≡ Some c → slice_get other.channels m ≡ Some d → c.started ≡ false → c.peer ≡ m → BothFlow c.end d.end
granted_flows law client server side own other to_own to_other n m c d k at at_other started peer =
    let f = law client.window client.largest server.window server.largest k.mids k.pair k.happens side n c (subst (λ (x : Mux). slice_get x.channels n ≡ Some c) (sym k.own_is) at) started in
    let there : slice_get other.channels m ≡ Some f.0 = subst (λ i. slice_get other.channels i ≡ Some f.0) peer (subst (λ (x : Mux). slice_get x.channels c.peer ≡ Some f.0) k.other_is f.1) in
    let same : f.0 ≡ d = some_one (slice_get other.channels m) f.0 d there at_other in
    subst (λ (x : Channel). BothFlow c.end x.end) same (record { to = f.4; back = f.3 })

pub channel_whole : ChannelsFlow → (client server : MuxConfig) (side : Side) (n : ℕ) (written read : List ℕ) (m : ℕ) (back got : List ℕ) (writer reader : MuxState)
    → IsChannel client server side writer reader (place_at n written read) (place_at m back got) → length written ≤ length got → got ≡ written
channel_whole law client server side n written read m back got writer reader c many = on c.joins
  where
    front : FlowsWell c.own_end.channel.end c.other_end.channel.end → got ≡ written
    front f = front_whole got c.other_end.unread c.other_end.channel.end.received written c.other_end.received (subst (IsPrefixOf c.other_end.channel.end.received) c.own_end.written f.in_order) many

    on : Joins c.own_end.channel n c.other_end.channel m → got ≡ written
    on (inl h) = front (granted_flows law client server side writer.side reader.side reader.made writer.made n m c.own_end.channel c.other_end.channel c.moment c.own_end.at c.other_end.at h.0 h.1).to
    on (inr h) = front (granted_flows law client server (other_side side) reader.side writer.side writer.made reader.made m n c.other_end.channel c.own_end.channel
        (moment_turned client server side writer.side reader.side reader.made writer.made c.moment) c.other_end.at c.own_end.at h.0 h.1).back

pub within : (client server : MuxConfig) → is_within client.window client.largest ≡ true → is_within server.window server.largest ≡ true → AreWithin client server
within client server h k =
    let a = and_parts _ _ h in
    let b = and_parts _ _ a.1 in
    let c = and_parts _ _ b.1 in
    let d = and_parts _ _ k in
    let e = and_parts _ _ d.1 in
    let f = and_parts _ _ e.1 in
    record {
      of_opener = leb-true client.window (2 ^ 30) b.0;
      of_other = leb-true server.window (2 ^ 30) e.0;
      packet = (leb-true 1 client.largest c.0, leb-true client.largest 32768 c.1);
      other_packet = (leb-true 1 server.largest f.0, leb-true server.largest 32768 f.1);
    }

-- ---- reads and writes where bytes flow

flow_asks : (client server : MuxConfig) (side : Side) (request : Request) (n : ℕ) (w r w' r' : List ℕ) (own new other : MuxState) (y : Place) (f g h : Message → Bool) → Weaker g h
    → (k : IsFlow client server side own other (place_at n w r) y f g) → (a : Answers request own new) → StandsLike new.side (place_at n w' r') k.channel.own_end.channel → TakesFlow h a.packets new.side
    → IsFlow client server side new other (place_at n w' r') y f h
flow_asks client server side request n w r w' r' own new other y f g h weaker k a s t =
    let m = asks client server side request own new other.side other.made k.channel.moment a in
    record {
      channel = record {
        moment = m.moment;
        own_end = s.end;
        other_end = k.channel.other_end;
        joins = joins_same k.channel.own_end.channel s.end.channel n k.channel.other_end.channel y.number s.started (λ z. s.peer) k.channel.joins;
      };
      to_own_are = subst (AreAll f) (sym m.to_it) k.to_own_are;
      to_other_are = subst (AreAll h) (sym m.from_it) (all_join h (way_to (other_side side) k.channel.moment.pair) a.packets (all_weaker g h weaker (way_to (other_side side) k.channel.moment.pair) k.to_other_are) t.sent);
      own_open = t.opens;
      other_open = k.other_open;
    }

writes_bytes : (n : ℕ) (bytes : List ℕ) (old new : MuxState) → IsOpenSide old.side → (h : Answers (On n (Write bytes)) old new) → TakesFlow brings h.packets new.side
writes_bytes n bytes old new o h =
    let asks = h.asks in
    let own = o.each n asks.0 asks.3 in
    let mid : End = record asks.0.end { written = asks.0.end.written ++ bytes } in
    let stays : StaysOpen mid = record { window = own.window; eof = own.eof; close = own.close; heard = own.heard } in
    record {
      sent = subst (AreAll brings) (sym asks.5) (sends_bytes n asks.0.peer mid asks.1 asks.2 stays asks.4.1);
      opens = open_set old.side new.side n (record asks.0 { end = asks.2 }) o (steady_open mid asks.2 stays (sends_steady mid asks.1 asks.2 asks.4.1)) asks.6;
    }

adjusts : (b : Bool) (own peer count : ℕ) → AreAll flows (map (addressed own peer) (if b then Adjust count ∷ [] else []))
adjusts true own peer count = (refl, (peer, refl), tt)
adjusts false own peer count = tt

reads_bytes : (m n : ℕ) (old new : MuxState) → IsOpenSide old.side → (h : Answers (On m (Read n)) old new) → TakesFlow flows h.packets new.side
reads_bytes m n old new o h =
    let asks = h.asks in
    let own = o.each m asks.0 asks.3 in
    let stays : StaysOpen asks.2 = subst StaysOpen (sym asks.4.1) (record { window = own.window; eof = own.eof; close = own.close; heard = own.heard }) in
    record {
      sent = subst (AreAll flows) (sym (asks.5 ∙ ap (map (addressed m asks.0.peer)) asks.4.0)) (adjusts (tells asks.0.end n) m asks.0.peer (taken asks.0.end n));
      opens = open_set old.side new.side m (record asks.0 { end = asks.2 }) o stays asks.6;
    }

pub flow_written : (client server : MuxConfig) (side : Side) (n : ℕ) (written read bytes : List ℕ) (own new other : MuxState) (y : Place)
    → IsFlow client server side own other (place_at n written read) y flows flows → Answers (On n (Write bytes)) own new → IsFlow client server side new other (place_at n (written ++ bytes) read) y flows flows
flow_written client server side n written read bytes own new other y k h =
    let t = writes_bytes n bytes own new k.own_open h in
    flow_asks client server side (On n (Write bytes)) n written read (written ++ bytes) read own new other y flows flows flows (λ m e. e) k h (written_at n written read bytes own new k.channel.own_end h)
    (record { sent = all_weaker brings flows brings_flows h.packets t.sent; opens = t.opens })

flow_read : (client server : MuxConfig) (side : Side) (x : Place) (m : ℕ) (back got : List ℕ) (n : ℕ) (bytes : List ℕ) (writer reader new : MuxState)
    → IsFlow client server side writer reader x (place_at m back got) never never → Answers (On m (Read n)) reader new → IsReadFrom (slice_get reader.side.channels m) n bytes
    → IsFlow client server side writer new x (place_at m back (got ++ bytes)) flows flows
flow_read client server side x m back got n bytes writer reader new k h from =
    let t = flow_turned client server side writer reader x (place_at m back got) never never k in
    let r = flow_asks client server (other_side side) (On m (Read n)) m back got back (got ++ bytes) reader new writer x never never flows (never_so flows) t h
    (read_at m back got n bytes reader new t.channel.own_end h from) (reads_bytes m n reader new t.own_open h) in
    let b = flow_back client server side writer new x (place_at m back (got ++ bytes)) flows never r in
    record { channel = b.channel; to_own_are = b.to_own_are; to_other_are = all_weaker never flows (never_so flows) (way_to (other_side side) b.channel.moment.pair) b.to_other_are; own_open = b.own_open; other_open = b.other_open }

-- ---- each read brings a byte

all_never : (l : List Packet) → AreAll never l → l ≡ []
all_never [] h = refl
all_never (p ∷ l) h = absurd (let z : false ≡ true = h.0 in cc)

quiet_pair : (side : Side) (b : MuxPair) → AreAll never (way_to side b) → AreAll never (way_to (other_side side) b) → IsQuietPair b
quiet_pair Client b h k = (all_never b.to_client h, all_never b.to_server k)
quiet_pair Server b h k = (all_never b.to_client k, all_never b.to_server h)

record BothCame (s r : End) : Type 0 where
  pub to : CameAll s r
  pub back : CameAll r s

granted_come : ChannelsCome → (client server : MuxConfig) → AreWithin client server → (side : Side) (own other : Mux) (to_own to_other : List (List ℕ)) (n m : ℕ) (c d : Channel) → (k : IsMoment client server side own other to_own to_other) → IsQuietPair k.pair
    → slice_get own.channels n ≡ Some c → slice_get other.channels m ≡ Some d → c.started ≡ false → c.peer ≡ m → c.end.close_called ≡ false → d.end.close_called ≡ false → BothCame c.end d.end
granted_come law client server are side own other to_own to_other n m c d k quiet at at_other started peer open_own open_other =
    let f = law client.window client.largest server.window server.largest are k.mids k.pair k.happens quiet side n c (subst (λ (x : Mux). slice_get x.channels n ≡ Some c) (sym k.own_is) at) started open_own in
    let there : slice_get other.channels m ≡ Some f.0 = subst (λ i. slice_get other.channels i ≡ Some f.0) peer (subst (λ (x : Mux). slice_get x.channels c.peer ≡ Some f.0) k.other_is f.1) in
    let same : f.0 ≡ d = some_one (slice_get other.channels m) f.0 d there at_other in
    let both = f.3 (ap (λ (x : Channel). x.end.close_called) same ∙ open_other) in
    subst (λ (x : Channel). BothCame c.end x.end) same (record { to = both.1; back = both.0 })

-- where nothing is on the way, what was written came
all_came : ChannelsCome → (client server : MuxConfig) → AreWithin client server → (side : Side) (writer reader : MuxState) (x y : Place) → (k : IsFlow client server side writer reader x y never never)
    → CameAll k.channel.own_end.channel.end k.channel.other_end.channel.end
all_came law client server are side writer reader x y k = on k.channel.joins
  where
    on : Joins k.channel.own_end.channel x.number k.channel.other_end.channel y.number → CameAll k.channel.own_end.channel.end k.channel.other_end.channel.end
    on (inl h) = (granted_come law client server are side writer.side reader.side reader.made writer.made x.number y.number k.channel.own_end.channel k.channel.other_end.channel k.channel.moment
        (quiet_pair side k.channel.moment.pair k.to_own_are k.to_other_are) k.channel.own_end.at k.channel.other_end.at h.0 h.1
        (k.own_open.each x.number k.channel.own_end.channel k.channel.own_end.at).close (k.other_open.each y.number k.channel.other_end.channel k.channel.other_end.at).close).to
    on (inr h) =
        let t = flow_turned client server side writer reader x y never never k in
        let m = moment_turned client server side writer.side reader.side reader.made writer.made k.channel.moment in
        (granted_come law client server are (other_side side) reader.side writer.side writer.made reader.made y.number x.number k.channel.other_end.channel k.channel.own_end.channel m
        (turned_quiet side k.channel.moment (quiet_pair side k.channel.moment.pair k.to_own_are k.to_other_are)) k.channel.other_end.at k.channel.own_end.at h.0 h.1
        (k.other_open.each y.number k.channel.other_end.channel k.channel.other_end.at).close (k.own_open.each x.number k.channel.own_end.channel k.channel.own_end.at).close).back
      where
        turned_quiet : (s : Side) (m : IsMoment client server s writer.side reader.side reader.made writer.made) → IsQuietPair m.pair → IsQuietPair (moment_turned client server s writer.side reader.side reader.made writer.made m).pair
        turned_quiet Client m q = q
        turned_quiet Server m q = q

read_many : (m : ℕ) (back got : List ℕ) (n : ℕ) (bytes : List ℕ) (old : MuxState) → (s : StandsAt old.side (place_at m back got)) → IsReadFrom (slice_get old.side.channels m) n bytes → length bytes ≡ taken s.channel.end n
read_many m back got n bytes old s from =
    let t = taken s.channel.end n in
    let many : t ≤ length s.unread = (let a = ap length s.received in let b = length-append got s.unread in let c = s.read in omega (arith, a, b, c)) in
    let dropped : drop s.channel.end.read s.channel.end.received ≡ s.unread = ap (λ k. drop k s.channel.end.received) s.read ∙ (ap (drop (length got)) s.received ∙ drop_all got s.unread) in
    let bytes_are : bytes ≡ take t s.unread = subst (λ o. IsReadFrom o n bytes) s.at from ∙ ap (take t) dropped in
    ap length bytes_are ∙ length_take t s.unread many

reads_more : ChannelsCome → (client server : MuxConfig) → AreWithin client server → (side : Side) (number : ℕ) (written read : List ℕ) (m : ℕ) (back got : List ℕ) (n : ℕ) (bytes : List ℕ) (writer reader : MuxState)
    → IsFlow client server side writer reader (place_at number written read) (place_at m back got) never never → IsReadFrom (slice_get reader.side.channels m) n bytes → 1 ≤ n → length got < length written → 1 ≤ length bytes
reads_more law client server are side number written read m back got n bytes writer reader k from some less =
    let came = all_came law client server are side writer reader (place_at number written read) (place_at m back got) k in
    let s = k.channel.own_end.channel.end in
    let r = k.channel.other_end.channel.end in
    let window = (k.other_open.each m k.channel.other_end.channel k.channel.other_end.at).window in
    let written_is = ap length k.channel.own_end.written in
    let read_is = k.channel.other_end.read in
    let all : length r.received ≡ min (length s.written) (r.window + r.read) = ap length came ∙ length_take (min (length s.written) (r.window + r.read)) s.written (omega arith) in
    let many = read_many m back got n bytes reader k.channel.other_end from in
    omega (arith, window, written_is, read_is, all, many, some, less)

-- what is made is carried, and then some of it is read
pub flow_round : NoPayloadRefused → (client server : MuxConfig) → AreWithin client server → (side : Side) (x : Place) (m : ℕ) (back got : List ℕ) (n : ℕ) (piece more : List ℕ) (writer reader new_writer carried new_reader : MuxState)
    → IsFlow client server side writer reader x (place_at m back got) flows flows → Settles writer reader new_writer carried → Answers (On m (Read n)) carried new_reader → IsReadFrom (slice_get carried.side.channels m) n piece → more ≡ got ++ piece
    → IsFlow client server side new_writer new_reader x (place_at m back more) flows flows
flow_round law client server are side x m back got n piece more writer reader new_writer carried new_reader k h read from is =
    subst (λ l. IsFlow client server side new_writer new_reader x (place_at m back l) flows flows) (sym is)
    (flow_read client server side x m back got n piece new_writer carried new_reader (flow_settled law client server are side writer reader new_writer carried x (place_at m back got) k h) read from)

pub round_grows : NoPayloadRefused → ChannelsCome → (client server : MuxConfig) → AreWithin client server → (side : Side) (number : ℕ) (written read : List ℕ) (m : ℕ) (back got : List ℕ) (n : ℕ) (piece more : List ℕ) (writer reader new_writer carried : MuxState) (count : ℕ)
    → IsFlow client server side writer reader (place_at number written read) (place_at m back got) flows flows → Settles writer reader new_writer carried → IsReadFrom (slice_get carried.side.channels m) n piece → more ≡ got ++ piece → 1 ≤ n
    → length written ≡ count → length got < count → count - length more < count - length got
round_grows law come client server are side number written read m back got n piece more writer reader new_writer carried count k h from is some many less =
    let settled = flow_settled law client server are side writer reader new_writer carried (place_at number written read) (place_at m back got) k h in
    let one = reads_more come client server are side number written read m back got n piece new_writer carried settled from some (omega (arith, many, less)) in
    let a = ap length is in
    let b = length-append got piece in
    omega (arith, one, a, b, less)

-- ---- the channel is opened

-- The opening of a channel is on the way to a side that has none, and bytes behind it.
record IsUnopened (number : ℕ) (mux : Mux) (to_it from_it : List Packet) : Type 0 where
  pub none : mux.channels ≡ []
  pub window : 1 ≤ mux.window
  pub head : Packet
  pub tail : List Packet
  pub to_it_is : to_it ≡ head ∷ tail
  pub to : head.to ≡ None
  pub from : head.from ≡ number
  pub offered : ℕ
  pub most : ℕ
  pub message : head.message ≡ Open offered most
  pub bytes : AreAll brings tail
  pub from_it_is : from_it ≡ []

only_one : {A : Type 0} (y : A) (n : ℕ) (x : A) → slice_get (y ∷ []) n ≡ Some x → x ≡ y
only_one y zero x e = (let z : Some y ≡ Some x = e in cc)
only_one y (suc n) x e = absurd (let z : None ≡ Some x = e in cc)

bytes_on : Leads brings flows
bytes_on p n old new packets e f o h = let r = takes_bytes p.to n p old new packets e f o h in record { sent = all_weaker never flows (never_so flows) packets r.sent; opens = r.opens }

opens_first : (other : Channel) (number : ℕ) (p : Packet) (old new : Mux) (rest packets : List Packet) → old.channels ≡ [] → 1 ≤ old.window → p.from ≡ number → (w k : ℕ) → p.message ≡ Open w k → AreAll brings rest → TakesAt None p old packets new
    → IsFlowing (place_at 0 [] []) other number brings flows new rest packets
opens_first other number p old new rest packets none window from w k message bytes (inr h) = absurd (let a = h.0 in let b = ap length none in omega (arith, a, b))
opens_first other number p old new rest packets none window from w k message bytes (inl h) = on (subst (λ m. Receives m (fresh old.window old.most Silent) h.1 h.0) message h.3)
  where
    on : Receives (Open w k) (fresh old.window old.most Silent) h.1 h.0 → IsFlowing (place_at 0 [] []) other number brings flows new rest packets
    on (inr r) = absurd (let z : Failed ≡ Talking = sym (ap (λ (e : End). e.said) r.1) ∙ h.4 in cc)
    on (inl r) =
        let c : Channel = record { started = false; peer = p.from; end = h.0 } in
        let channels : new.channels ≡ c ∷ [] = ap (λ (m : Mux). m.channels) h.6 ∙ ap (λ l. l ++ c ∷ []) none in
        let sent : packets ≡ addressed 0 p.from (Confirmation old.window old.most) ∷ [] =
        h.5 ∙ (ap (map (addressed (length old.channels) p.from)) r.0 ∙ ap (λ l. addressed (length l) p.from (Confirmation old.window old.most) ∷ []) none) in
        let stays : StaysOpen h.0 = subst StaysOpen (sym r.1) (record { window = window; eof = refl; close = refl; heard = refl }) in
        record {
          joined = record {
            end = record { channel = c; at = ap (λ l. slice_get l 0) channels; written = ap (λ (e : End). e.written) r.1; unread = []; received = ap (λ (e : End). e.received) r.1; read = ap (λ (e : End). e.read) r.1 };
            joins = inl (refl, from);
          };
          to_it_are = bytes;
          from_it_are = subst (AreAll flows) (sym sent) (refl, (p.from, refl), tt);
          opens = record {
            window = (let a = ap (λ (m : Mux). m.window) h.6 in omega (arith, a, window));
            each = λ n d at. subst (λ (x : Channel). StaysOpen x.end) (sym (only_one c n d (subst (λ l. slice_get l n ≡ Some d) channels at))) stays;
          };
        }

-- it is on the way, or came
abbrev Opening : Channel → ℕ → Mux → List Packet → List Packet → Type 0
Opening other number mux to_it from_it = IsUnopened number mux to_it from_it ⊎ IsFlowing (place_at 0 [] []) other number brings flows mux to_it from_it

opening_kept : (other : Channel) (number : ℕ) → IsKept (Opening other number)
opening_kept other number p old new rest back packets none takes (inr h) = inr (flowing_kept (place_at 0 [] []) other number brings flows bytes_on p old new rest back packets none takes h)
opening_kept other number p old new rest back packets none takes (inl u) =
    let same : p ≡ u.head = (let z : p ∷ rest ≡ u.head ∷ u.tail = u.to_it_is in cc) in
    let tail : rest ≡ u.tail = (let z : p ∷ rest ≡ u.head ∷ u.tail = u.to_it_is in cc) in
    let to : p.to ≡ None = ap (λ (q : Packet). q.to) same ∙ u.to in
    let x = opens_first other number p old new rest packets u.none u.window (ap (λ (q : Packet). q.from) same ∙ u.from) u.offered u.most (ap (λ (q : Packet). q.message) same ∙ u.message)
    (subst (AreAll brings) (sym tail) u.bytes) (subst (λ o. TakesAt o p old packets new) to takes) in
    inr (subst (λ l. IsFlowing (place_at 0 [] []) other number brings flows new rest (l ++ packets)) (sym u.from_it_is) x)

emptied_so : (d c : MuxState) → d.side ≡ c.side → d.made ≡ [] → d ≡ emptied c
emptied_so d c e f = (let a = ap (λ x. let y : MuxState = record { side = x; made = d.made } in y) e in let b = ap (λ x. let y : MuxState = record { side = c.side; made = x } in y) f in a ∙ b)

pub flow_opened : NoPayloadRefused → (client server : MuxConfig) → AreWithin client server → 1 ≤ client.window → 1 ≤ server.window → (request : List ℕ) (number : ℕ) (a b c d s t : MuxState)
    → a.side ≡ record { window = client.window; most = client.largest; channels = [] } → a.made ≡ [] → s.side ≡ record { window = server.window; most = server.largest; channels = [] } → s.made ≡ []
    → Answers Start a b → number ≡ length a.side.channels → Answers (On number (Write request)) b c → d.side ≡ c.side → d.made ≡ [] → ReceivesAll c.made s t
    → IsFlow client server Client d t (place_at number request []) (place_at 0 [] []) flows flows
flow_opened law client server are client_window server_window request number a b c d s t a_is a_made s_is s_made start number_is write d_side d_made taken =
    let first : IsMoment client server Client a.side s.side s.made a.made = record { mids = []; pair = both_new client.window client.largest server.window server.largest; happens = refl; own_is = sym a_is; other_is = sym s_is; to_own_is = sym s_made; to_other_is = sym a_made } in
    let one = asks client server Client Start a b s.side s.made first start in
    let two = asks client server Client (On number (Write request)) b c s.side s.made one.moment write in
    let none : number ≡ 0 = number_is ∙ ap (λ (x : Mux). length x.channels) a_is in
    let fresh_one : Channel = record { started = true; peer = 0; end = fresh a.side.window a.side.most Talking } in
    let channels : b.side.channels ≡ fresh_one ∷ [] = ap (λ (x : Mux). x.channels) start.asks.2 ∙ ap (λ (x : Mux). x.channels ++ fresh_one ∷ []) a_is in
    let own : StandsAt b.side (place_at number [] []) = record { channel = fresh_one; at = ap (λ l. slice_get l number) channels ∙ ap (slice_get (fresh_one ∷ [])) none; written = refl; unread = []; received = refl; read = refl } in
    let stands = written_at number [] [] request b c own write in
    let a_window : 1 ≤ a.side.window = (let e = ap (λ (x : Mux). x.window) a_is in omega (arith, e, client_window)) in
    let b_open : IsOpenSide b.side = record {
      window = (let e = ap (λ (x : Mux). x.window) start.asks.2 in omega (arith, e, a_window));
      each = λ n x at. subst (λ (y : Channel). StaysOpen y.end) (sym (only_one fresh_one n x (subst (λ l. slice_get l n ≡ Some x) channels at))) (record { window = a_window; eof = refl; close = refl; heard = refl });
    } in
    let bytes = writes_bytes number request b c b_open write in
    let opening : way_to Server two.moment.pair ≡ addressed 0 0 (Open a.side.window a.side.most) ∷ write.packets =
    two.from_it ∙ ap (λ l. l ++ write.packets) (one.from_it ∙ (start.asks.1 ∙ ap (λ n. addressed n 0 (Open a.side.window a.side.most) ∷ []) (sym number_is ∙ none))) in
    let there : IsMoment client server Server s.side c.side (c.made ++ []) s.made = record { mids = two.moment.mids; pair = two.moment.pair; happens = two.moment.happens; own_is = two.moment.other_is; other_is = two.moment.own_is; to_own_is = two.moment.to_other_is ∙ sym (append-nil c.made); to_other_is = two.moment.to_own_is } in
    let unopened : IsUnopened number s.side (way_to Server two.moment.pair) (way_to Client two.moment.pair) = record {
      none = ap (λ (x : Mux). x.channels) s_is;
      window = (let e = ap (λ (x : Mux). x.window) s_is in omega (arith, e, server_window));
      head = addressed 0 0 (Open a.side.window a.side.most);
      tail = write.packets;
      to_it_is = opening;
      to = refl;
      from = sym none;
      offered = a.side.window;
      most = a.side.most;
      message = refl;
      bytes = bytes.sent;
      from_it_is = two.to_it ∙ one.to_it;
    } in
    let come = come_all law client server are Server (Opening stands.end.channel number) (opening_kept stands.end.channel number) c.made [] s t c.side there taken (inl unopened) in
    subst (λ (x : MuxState). IsFlow client server Client x t (place_at number request []) (place_at 0 [] []) flows flows) (sym (emptied_so d c d_side d_made)) (on stands bytes.opens come.moment come.keeps)
  where
    on : (stands : StandsLike c.side (place_at number request []) (record { started = true; peer = 0; end = fresh a.side.window a.side.most Talking })) → IsOpenSide c.side → (m : IsMoment client server Server t.side c.side [] t.made)
        → Opening stands.end.channel number t.side (way_to Server m.pair) (way_to Client m.pair) → IsFlow client server Client (emptied c) t (place_at number request []) (place_at 0 [] []) flows flows
    on stands opens m (inl u) = absurd (let e : u.head ∷ u.tail ≡ [] = sym u.to_it_is ∙ no_packets (way_to Server m.pair) m.to_own_is in cc)
    on stands opens m (inr f) = record {
      channel = record {
        moment = record { mids = m.mids; pair = m.pair; happens = m.happens; own_is = m.other_is; other_is = m.own_is; to_own_is = m.to_other_is; to_other_is = m.to_own_is };
        own_end = record { channel = stands.end.channel; at = stands.end.at; written = stands.end.written; unread = stands.end.unread; received = stands.end.received; read = stands.end.read };
        other_end = f.joined.end;
        joins = joins_turned f.joined.end.channel stands.end.channel 0 number f.joined.joins;
      };
      to_own_are = f.from_it_are;
      to_other_are = all_weaker brings flows brings_flows (way_to Server m.pair) f.to_it_are;
      own_open = record { window = opens.window; each = opens.each };
      other_open = f.opens;
    }

-- a window within its bounds
pub window_some : (c : MuxConfig) → is_within c.window c.largest ≡ true → 1 ≤ c.window
window_some c h = leb-true 1 c.window (and_parts _ _ h).0

-- the other side writes an answer behind what it read
pub answer_written : (client server : MuxConfig) (number : ℕ) (request answer got : List ℕ) (asking asked new : MuxState)
    → IsFlow client server Client asking asked (place_at number request []) (place_at 0 [] got) flows flows → Answers (On 0 (Write answer)) asked new
    → IsFlow client server Server new asking (place_at 0 answer got) (place_at number request []) flows flows
answer_written client server number request answer got asking asked new k h =
    flow_written client server Server 0 [] got answer asked new asking (place_at number request []) (flow_turned client server Client asking asked (place_at number request []) (place_at 0 [] got) flows flows k) h

-- what was read is all that was written
pub flow_whole : ChannelsFlow → (client server : MuxConfig) (side : Side) (n : ℕ) (written read : List ℕ) (m : ℕ) (back got : List ℕ) (writer reader : MuxState)
    → IsFlow client server side writer reader (place_at n written read) (place_at m back got) flows flows → length written ≤ length got → got ≡ written
flow_whole law client server side n written read m back got writer reader k many = channel_whole law client server side n written read m back got writer reader k.channel many

-- ---- what is refused

-- no payload is refused that comes
moment_breaks : NoPayloadRefused → (client server : MuxConfig) → AreWithin client server → (side : Side) (own : MuxState) (other : Mux) (payloads : List (List ℕ)) (fault : MuxFault)
    → IsMoment client server side own.side other payloads own.made → RefusesOneOf payloads own fault → fault ≡ Memory
moment_breaks law client server are side own other payloads fault m b =
    let there : IsMoment client server side own.side other (b.done ++ b.payload ∷ b.rest) own.made = record { mids = m.mids; pair = m.pair; happens = m.happens; own_is = m.own_is; other_is = m.other_is; to_own_is = m.to_own_is ∙ b.all; to_other_is = m.to_other_is } in
    let come = come_all law client server are side (λ mux to_it from_it. Unit {0}) (λ p old new rest back packets none takes h. tt) b.done (b.payload ∷ b.rest) own b.mid other there b.takes tt in
    let begin = begins (λ p. packet_text p) (way_to side come.moment.pair) b.payload b.rest come.moment.to_own_is in
    let passes = (law client.window client.largest server.window server.largest are come.moment.mids come.moment.pair come.moment.happens side begin.head begin.tail begin.is).passes in
    let none : payload_fault b.payload b.mid.side ≡ None = subst (λ (x : Mux). payload_fault b.payload x ≡ None) come.moment.own_is (subst (λ l. payload_fault l (mux_of side come.moment.pair) ≡ None) begin.head_is passes) in
    subst (λ o. IsRefused o fault (b.new ≡ b.mid)) none b.refused

pub if_memory : {A : Type 0} (r : Result A MuxFault) (fault : MuxFault) → r ≡ Err fault → fault ≡ Memory → IfErr r (λ f. f ≡ Memory)
if_memory r fault e h = subst (λ x. IfErr x (λ f. f ≡ Memory)) (sym e) h

pub first_breaks : NoPayloadRefused → (client server : MuxConfig) → AreWithin client server → (side : Side) (writer reader : MuxState) (x y : Place) (fault : MuxFault)
    → IsFlow client server side writer reader x y flows flows → RefusesOneOf reader.made writer fault → fault ≡ Memory
first_breaks law client server are side writer reader x y fault k b = moment_breaks law client server are side writer reader.side reader.made fault k.channel.moment b

pub second_breaks : NoPayloadRefused → (client server : MuxConfig) → AreWithin client server → (side : Side) (writer reader asked : MuxState) (x y : Place) (fault : MuxFault)
    → IsFlow client server side writer reader x y flows flows → ReceivesAll reader.made writer asked → RefusesOneOf asked.made (emptied reader) fault → fault ≡ Memory
second_breaks law client server are side writer reader asked x y fault k h b =
    let a = flow_takes law client server are side writer reader asked x y flows flows flows flow_on (λ m e. e) k h in
    moment_breaks law client server are (other_side side) (emptied reader) asked.side asked.made fault (flow_turned client server side asked (emptied reader) x y never flows a).channel.moment b

pub third_breaks : NoPayloadRefused → (client server : MuxConfig) → AreWithin client server → (side : Side) (writer reader asked answered : MuxState) (x y : Place) (fault : MuxFault)
    → IsFlow client server side writer reader x y flows flows → ReceivesAll reader.made writer asked → ReceivesAll asked.made (emptied reader) answered → RefusesOneOf answered.made (emptied asked) fault → fault ≡ Memory
third_breaks law client server are side writer reader asked answered x y fault k h i b =
    let a = flow_takes law client server are side writer reader asked x y flows flows flows flow_on (λ m e. e) k h in
    let c = flow_takes law client server are (other_side side) (emptied reader) asked answered y x flows never brings flow_leads (never_so brings) (flow_turned client server side asked (emptied reader) x y never flows a) i in
    moment_breaks law client server are side (emptied asked) answered.side answered.made fault (flow_back client server side (emptied asked) answered x y brings never c).channel.moment b

pub second_refused : NoPayloadRefused → (client server : MuxConfig) → AreWithin client server → (side : Side) (writer reader asked emptied_reader : MuxState) (x y : Place) (fault : MuxFault)
    → IsFlow client server side writer reader x y flows flows → ReceivesAll reader.made writer asked → emptied_reader.side ≡ reader.side → emptied_reader.made ≡ [] → RefusesOneOf asked.made emptied_reader fault → fault ≡ Memory
second_refused law client server are side writer reader asked emptied_reader x y fault k h same none b =
    second_breaks law client server are side writer reader asked x y fault k h (subst (λ s. RefusesOneOf asked.made s fault) (emptied_so emptied_reader reader same none) b)

pub third_refused : NoPayloadRefused → (client server : MuxConfig) → AreWithin client server → (side : Side) (writer reader asked emptied_reader answered emptied_writer : MuxState) (x y : Place) (fault : MuxFault)
    → IsFlow client server side writer reader x y flows flows → ReceivesAll reader.made writer asked → emptied_reader.side ≡ reader.side → emptied_reader.made ≡ [] → ReceivesAll asked.made emptied_reader answered
    → emptied_writer.side ≡ asked.side → emptied_writer.made ≡ [] → RefusesOneOf answered.made emptied_writer fault → fault ≡ Memory
third_refused law client server are side writer reader asked emptied_reader answered emptied_writer x y fault k h same none i same_writer none_writer b =
    third_breaks law client server are side writer reader asked answered x y fault k h (subst (λ s. ReceivesAll asked.made s answered) (emptied_so emptied_reader reader same none) i)
    (subst (λ s. RefusesOneOf answered.made s fault) (emptied_so emptied_writer asked same_writer none_writer) b)

pub third_all : {A : Type 0} → NoPayloadRefused → (client server : MuxConfig) → AreWithin client server → (side : Side) (writer reader asked emptied_reader answered emptied_writer : MuxState) (x y : Place) (r : Result A MuxFault)
    → IsFlow client server side writer reader x y flows flows → ReceivesAll reader.made writer asked → emptied_reader.side ≡ reader.side → emptied_reader.made ≡ [] → ReceivesAll asked.made emptied_reader answered
    → emptied_writer.side ≡ asked.side → emptied_writer.made ≡ [] → IfErr r (λ f. RefusesOneOf answered.made emptied_writer f) → IfErr r (λ f. f ≡ Memory)
third_all law client server are side writer reader asked emptied_reader answered emptied_writer x y (Ok a) k h same none i same_writer none_writer b = tt
third_all law client server are side writer reader asked emptied_reader answered emptied_writer x y (Err f) k h same none i same_writer none_writer b =
    third_refused law client server are side writer reader asked emptied_reader answered emptied_writer x y f k h same none i same_writer none_writer b

-- calls

pub read_refused : (m n : ℕ) (place : Place) (old : MuxState) (fault : MuxFault) (U : Type 0) → StandsAt old.side place → place.number ≡ m → IsRefused (request_fault (On m (Read n)) old.side) fault U → fault ≡ Memory
read_refused m n place old fault U s e h = subst (λ o. IsRefused (call_fault_at (Read n) m o) fault U) (subst (λ i. slice_get old.side.channels i ≡ Some s.channel) e s.at) h

not_ended : (a b c : Bool) → a ≡ false → b ≡ false → c ≡ false → (a || (b || c)) ≡ false
not_ended true b c e f g = absurd (let z : true ≡ false = e in cc)
not_ended false true c e f g = absurd (let z : true ≡ false = f in cc)
not_ended false false true e f g = absurd (let z : true ≡ false = g in cc)
not_ended false false false e f g = refl

write_refused : (m : ℕ) (bytes : List ℕ) (place : Place) (old : MuxState) (fault : MuxFault) (U : Type 0) → (s : StandsAt old.side place) → place.number ≡ m → IsOpenSide old.side → IsRefused (request_fault (On m (Write bytes)) old.side) fault U → fault ≡ Memory
write_refused m bytes place old fault U s e o h =
    let stays = o.each place.number s.channel s.at in
    let goes_on = not_ended s.channel.end.eof_called s.channel.end.close_called (is_refused s.channel.end.heard) stays.eof stays.close stays.heard in
    let there = subst (λ o. IsRefused (call_fault_at (Write bytes) m o) fault U) (subst (λ i. slice_get old.side.channels i ≡ Some s.channel) e s.at) h in
    subst (λ (t : Bool). IsRefused (if t then Some (ended_fault m) else None) fault U) goes_on there

pub flow_write_refused : (client server : MuxConfig) (side : Side) (n : ℕ) (written read bytes : List ℕ) (own other : MuxState) (y : Place) (fault : MuxFault) (U : Type 0)
    → IsFlow client server side own other (place_at n written read) y flows flows → IsRefused (request_fault (On n (Write bytes)) own.side) fault U → fault ≡ Memory
flow_write_refused client server side n written read bytes own other y fault U k h = write_refused n bytes (place_at n written read) own fault U k.channel.own_end refl k.own_open h

pub opening_breaks : NoPayloadRefused → (client server : MuxConfig) → AreWithin client server → (request : List ℕ) (number : ℕ) (a b c s : MuxState) (fault : MuxFault)
    → a.side ≡ record { window = client.window; most = client.largest; channels = [] } → a.made ≡ [] → s.side ≡ record { window = server.window; most = server.largest; channels = [] } → s.made ≡ []
    → Answers Start a b → Answers (On number (Write request)) b c → RefusesOneOf c.made s fault → fault ≡ Memory
opening_breaks law client server are request number a b c s fault a_is a_made s_is s_made start write h =
    let first : IsMoment client server Client a.side s.side s.made a.made = record { mids = []; pair = both_new client.window client.largest server.window server.largest; happens = refl; own_is = sym a_is; other_is = sym s_is; to_own_is = sym s_made; to_other_is = sym a_made } in
    let one = asks client server Client Start a b s.side s.made first start in
    let two = asks client server Client (On number (Write request)) b c s.side s.made one.moment write in
    moment_breaks law client server are Server s c.side c.made fault (moment_turned client server Client c.side s.side s.made c.made two.moment) h

pub if_channel : {A : Type 0} (r : Result A AskFault) (fault : MuxFault) → r ≡ Err (channel_fault fault) → fault ≡ Memory → IfErr r (λ f. f ≡ channel_fault Memory)
if_channel r fault e h = subst (λ x. IfErr x (λ f. f ≡ channel_fault Memory)) (sym e) (ap channel_fault h)

pub if_fault : {A : Type 0} (r : Result A AskFault) (fault : AskFault) (U : Type 0) → r ≡ Err fault → fault ≡ channel_fault Memory → IfErr r (λ f. ((f ≡ Config) × U) ⊎ (f ≡ channel_fault Memory))
if_fault r fault U e h = subst (λ x. IfErr x (λ f. ((f ≡ Config) × U) ⊎ (f ≡ channel_fault Memory))) (sym e) (inr h)

pub flow_read_refused : NoPayloadRefused → (client server : MuxConfig) → AreWithin client server → (side : Side) (x : Place) (m : ℕ) (back got : List ℕ) (n : ℕ) (writer reader new_writer carried : MuxState) (fault : MuxFault) (U : Type 0)
    → IsFlow client server side writer reader x (place_at m back got) flows flows → Settles writer reader new_writer carried → IsRefused (request_fault (On m (Read n)) carried.side) fault U → fault ≡ Memory
flow_read_refused law client server are side x m back got n writer reader new_writer carried fault U k h refused =
    read_refused m n (place_at m back got) carried fault U (flow_settled law client server are side writer reader new_writer carried x (place_at m back got) k h).channel.other_end refl refused
