-- Where both sides only hear, each packet that comes lowers what all channels together can still send.
use Rattle.std.proofs.Common.{◌≡◌, ℕ, zero, suc, ◌+◌, ◌*◌, ◌≤◌, true, false, if◌then◌else◌, List, [], ◌∷◌, ◌++◌, length, map, slice_get, slice_set, Option, Some, None, inl, inr, refl, sym, ap, ◌∙◌, subst, length-append, arith}
use Rattle.std.proofs.lemmas.Bool.{cases_Bool}
use Rattle.ssh_wire.specs.declared.side.Side.TheVariants.{Client, Server}
use Rattle.ssh_channels.specs.Phases.{Message, Confirmation}
use Rattle.ssh_channels.specs.declared.end.Phase.TheVariants.{Silent, Talking}
use Rattle.ssh_channels.specs.declared.end.End.{End}
use Rattle.ssh_channels.specs.Ends.{Call, CallClose, CallEof, Calls, Read, Receives, Write, fresh}
use Rattle.ssh_channels.specs.Laws.{left_of}
use Rattle.ssh_channels.specs.Muxes.{Asks, Channel, Mux, On, Packet, Request, Start, TakesAt, addressed, told_number}
use Rattle.ssh_channels.proofs.Lemmas.{Each, Way, due, hear_costs, opener_costs, other_costs, send_costs}
use Rattle.ssh_talks.specs.Talks.{for_channel, is_opening}
use Rattle.ssh_talks.specs.Making.{AskingAdds, HearingLowers, added_by, left_in, openings_in, still_made}
use Rattle.ssh_talks.proofs.Packets.{Every, IsFor, IsLater, all_for}
use Rattle.ssh_talks.proofs.Mute.{call_later, hear_later, joint_is, opener_place, other_place}
use Rattle.ssh_talks.proofs.Talking.{Joined, accepted_as, are_joined, head_for, not_silent, swapped}
use Rattle.ssh_talks.proofs.Flowing.{other_of}

-- ---- sums over channels and packets

left_more : (xs ys : List Channel) → left_in (xs ++ ys) ≡ left_in xs + left_in ys
left_more [] ys = omega arith
left_more (x ∷ xs) ys = let e = left_more xs ys in omega (arith, e)

left_set : (channels : List Channel) (n : ℕ) (c new : Channel) → slice_get channels n ≡ Some c → left_in (slice_set channels n new) + left_of c.end ≡ left_in channels + left_of new.end
left_set [] n c new h = absurd (let z : None ≡ Some c = h in cc)
left_set (x ∷ channels) zero c new h =
    let same : x ≡ c = cc in
    let e : left_of x.end ≡ left_of c.end = ap (λ (y : Channel). left_of y.end) same in
    omega (arith, e)
left_set (x ∷ channels) (suc n) c new h = let e = left_set channels n c new h in omega (arith, e)

-- how many channels such a packet opens
abbrev opens : Option ℕ → ℕ
opens to = if is_opening to then 1 else 0

openings_more : (xs ys : List Packet) → openings_in (xs ++ ys) ≡ openings_in xs + openings_in ys
openings_more [] ys = omega arith
openings_more (p ∷ xs) ys = let e = openings_more xs ys in omega (arith, e)

openings_none : (n : ℕ) (packets : List Packet) → Every (IsFor n) packets → openings_in packets ≡ 0
openings_none n [] h = refl
openings_none n (p ∷ packets) h =
    let a : opens p.to ≡ 0 = ap opens h.0 in
    let e = openings_none n packets h.1 in
    omega (arith, a, e)

many_sent : (n peer : ℕ) (messages : List Message) → length (map (addressed n peer) messages) ≡ length messages
many_sent n peer [] = refl
many_sent n peer (m ∷ messages) = let e = many_sent n peer messages in omega (arith, e)

-- ---- what a channel that is there can still send

-- what an end makes of a message that it hears, and what it can send then
record Costs (c : Channel) (messages : List Message) (e : End) : Type 0 where
  pub later : Each IsLater messages
  pub less : length messages + left_of e ≤ left_of c.end

hears_own : (a b : Mux) (to_b rest : List Packet) (p : Packet) (n : ℕ) (c : Channel) (messages : List Message) (e : End) → Joined a b to_b (p ∷ rest) → p.to ≡ Some n → slice_get a.channels n ≡ Some c → Receives p.message c.end messages e → c.started ≡ true
    → Costs c messages e
hears_own a b to_b rest p n c messages e j to at r s =
    let o = j.own.each n c at s in
    let joint = joint_is a.window a.most b.window b.most o.talk o.reached in
    let head : o.talk.to_opener ≡ p.message ∷ for_channel n rest = o.to_own_is ∙ head_for n p rest to in
    let back : Way true o.talk.other o.talk.opener (p.message ∷ for_channel n rest) o.talk.to_other = subst (λ l. Way true o.talk.other o.talk.opener l o.talk.to_other) head joint.back in
    let d = due true o.talk.other o.talk.opener p.message (for_channel n rest) o.talk.to_other back in
    let hears : Receives p.message o.talk.opener messages e = subst (λ x. Receives p.message x messages e) (sym o.own_is) r in
    record {
      later = hear_later p.message o.talk.opener messages e (opener_place o.talk.opener.heard d.0 p.message d.1) hears;
      less = subst (λ x. length messages + left_of e ≤ left_of x) o.own_is (opener_costs o.talk p.message (for_channel n rest) messages e joint head hears);
    }

hears_other : (a b : Mux) (to_b rest : List Packet) (p : Packet) (n : ℕ) (c : Channel) (messages : List Message) (e : End) → Joined a b to_b (p ∷ rest) → p.to ≡ Some n → slice_get a.channels n ≡ Some c → Receives p.message c.end messages e → c.started ≡ false
    → Costs c messages e
hears_other a b to_b rest p n c messages e j to at r s =
    let o = other_of a b to_b (p ∷ rest) n c j at s in
    let joint = joint_is b.window b.most a.window a.most o.talk o.reached in
    let head : o.talk.to_other ≡ p.message ∷ for_channel n rest = o.to_other_is ∙ head_for n p rest to in
    let out : Way false o.talk.opener o.talk.other (p.message ∷ for_channel n rest) o.talk.to_opener = subst (λ l. Way false o.talk.opener o.talk.other l o.talk.to_opener) head joint.out in
    let d = due false o.talk.opener o.talk.other p.message (for_channel n rest) o.talk.to_opener out in
    let hears : Receives p.message o.talk.other messages e = subst (λ x. Receives p.message x messages e) (sym o.other_is) r in
    record {
      later = hear_later p.message o.talk.other messages e (other_place o.talk.other.heard d.0 p.message (not_silent o.talk joint o.told) d.1) hears;
      less = subst (λ x. length messages + left_of e ≤ left_of x) o.other_is (other_costs o.talk p.message (for_channel n rest) messages e joint head hears);
    }

-- no end has sent more than was written, nor more than it may
record IsBounded (e : End) : Type 0 where
  pub within : e.gone ≤ length e.written
  pub passed : e.gone ≤ e.granted

bounded : (a b : Mux) (to_b to_a : List Packet) (n : ℕ) (c : Channel) → Joined a b to_b to_a → slice_get a.channels n ≡ Some c → IsBounded c.end
bounded a b to_b to_a n c j at = elim (cases_Bool c.started) [
  | inl s ↦
      let o = j.own.each n c at s in
      let joint = joint_is a.window a.most b.window b.most o.talk o.reached in
      subst IsBounded o.own_is (record { within = joint.out.within; passed = joint.out.passed })
  | inr s ↦
      let o = other_of a b to_b to_a n c j at s in
      let joint = joint_is b.window b.most a.window a.most o.talk o.reached in
      subst IsBounded o.other_is (record { within = joint.back.within; passed = joint.back.passed })
]

call_adds : (n : ℕ) (call : Call) (e : End) (messages : List Message) (new : End) → IsBounded e → Calls call e messages new → left_of new ≤ left_of e + added_by (On n call)
call_adds n (Write bytes) e messages new b c =
    let more = length-append e.written bytes in
    let within : e.gone ≤ length (e.written ++ bytes) = (let x = b.within in omega (arith, x, more)) in
    let costs = send_costs (record e { written = e.written ++ bytes }) messages new within b.passed c.1 in
    omega (arith, costs, more)
call_adds n (Read k) e messages new b c = let same : left_of new ≡ left_of e = ap left_of c.1 in omega (arith, same)
call_adds n CallEof e messages new b c = let costs = send_costs (record e { eof_called = true }) messages new b.within b.passed c.1 in omega (arith, costs)
call_adds n CallClose e messages new b c = let costs = send_costs (record e { close_called = true }) messages new b.within b.passed c.2 in omega (arith, costs)

-- ---- what a packet lowers

lowers_there : (a b : Mux) (to_b rest : List Packet) (p : Packet) (n : ℕ) (c : Channel) (messages : List Message) (e : End) → Joined a b to_b (p ∷ rest) → p.to ≡ Some n → slice_get a.channels n ≡ Some c → Receives p.message c.end messages e → Costs c messages e
lowers_there a b to_b rest p n c messages e j to at r = elim (cases_Bool c.started) [
  | inl s ↦ hears_own a b to_b rest p n c messages e j to at r s
  | inr s ↦ hears_other a b to_b rest p n c messages e j to at r s
]

came_lowers : (to : Option ℕ) (a b new : Mux) (to_b rest packets : List Packet) (p : Packet) → p.to ≡ to → Joined a b to_b (p ∷ rest) → TakesAt to p a packets new
    → left_in new.channels + 3 * (openings_in rest + openings_in packets) + length packets ≤ left_in a.channels + 3 * openings_in (p ∷ rest)
came_lowers None a b new to_b rest packets p to j (inl h) =
    let one : opens p.to ≡ 1 = ap opens to in
    let costs = hear_costs p.message (fresh a.window a.most Silent) h.1 h.0 (omega arith) (omega arith) (λ n k is. refl) (λ n k is. refl) h.3 in
    let answer = accepted_as a p h.0 h.1 (j.other.openings.0 to).1 h.3 h.4 in
    let sent : packets ≡ map (addressed (length a.channels) p.from) (Confirmation a.window a.most ∷ []) = h.5 ∙ ap (map (addressed (length a.channels) p.from)) answer in
    let none : openings_in packets ≡ 0 = ap openings_in sent in
    let many : length packets ≡ 1 = ap length sent in
    let messages : length h.1 ≡ 1 = ap length answer in
    let left : left_in new.channels ≡ left_in (a.channels ++ record { started = false; peer = p.from; end = h.0 } ∷ []) = ap (λ (x : Mux). left_in x.channels) h.6 in
    let more = left_more a.channels (record { started = false; peer = p.from; end = h.0 } ∷ []) in
    omega (arith, one, costs, none, many, messages, left, more)
came_lowers None a b new to_b rest packets p to j (inr h) =
    let one : opens p.to ≡ 1 = ap opens to in
    let none : openings_in packets ≡ 0 = ap openings_in h.1 in
    let many : length packets ≡ 1 = ap length h.1 in
    let left : left_in new.channels ≡ left_in a.channels = ap (λ (x : Mux). left_in x.channels) h.2 in
    omega (arith, one, none, many, left)
came_lowers (Some n) a b new to_b rest packets p to j h =
    let c : Channel = h.0 in
    let costs = lowers_there a b to_b rest p n c h.1 h.2 j to h.3 h.4 in
    let peer : ℕ = told_number p c.peer p.message in
    let none : openings_in packets ≡ 0 = ap openings_in h.5 ∙ openings_none peer (map (addressed n peer) h.1) (all_for n peer h.1 costs.later) in
    let many : length packets ≡ length h.1 = ap length h.5 ∙ many_sent n peer h.1 in
    let set = left_set a.channels n c (record { started = c.started; peer = peer; end = h.2 }) h.3 in
    let left : left_in new.channels ≡ left_in (slice_set a.channels n (record { started = c.started; peer = peer; end = h.2 })) = ap (λ (x : Mux). left_in x.channels) h.6 in
    let less = costs.less in
    omega (arith, none, many, set, left, less)

pub hearing_lowers : HearingLowers
hearing_lowers w m v k mids b new happens Client p rest packets mux way takes is =
    let j = subst (λ l. Joined b.client b.server b.to_server l) way (are_joined w m v k mids b happens) in
    let lower = came_lowers p.to b.client b.server mux b.to_server rest packets p refl j takes in
    let more = openings_more b.to_server packets in
    let made : still_made new ≡ (left_in mux.channels + left_in b.server.channels) + 3 * (openings_in rest + openings_in (b.to_server ++ packets)) = ap still_made is in
    let there : openings_in b.to_client ≡ openings_in (p ∷ rest) = ap openings_in way in
    omega (arith, lower, more, made, there)
hearing_lowers w m v k mids b new happens Server p rest packets mux way takes is =
    let j = subst (λ l. Joined b.server b.client b.to_client l) way (swapped b.client b.server b.to_server b.to_client (are_joined w m v k mids b happens)) in
    let lower = came_lowers p.to b.server b.client mux b.to_client rest packets p refl j takes in
    let more = openings_more b.to_client packets in
    let made : still_made new ≡ (left_in b.client.channels + left_in mux.channels) + 3 * (openings_in (b.to_client ++ packets) + openings_in rest) = ap still_made is in
    let there : openings_in b.to_server ≡ openings_in (p ∷ rest) = ap openings_in way in
    omega (arith, lower, more, made, there)

-- ---- what a request adds

asked_adds : (a b new : Mux) (to_b to_a packets : List Packet) (request : Request) → Joined a b to_b to_a → Asks request a packets new
    → left_in new.channels + 3 * openings_in packets ≤ left_in a.channels + added_by request
asked_adds a b new to_b to_a packets Start j h =
    let one : openings_in packets ≡ 1 = ap openings_in h.1 in
    let left : left_in new.channels ≡ left_in (a.channels ++ record { started = true; peer = 0; end = fresh a.window a.most Talking } ∷ []) = ap (λ (x : Mux). left_in x.channels) h.2 in
    let more = left_more a.channels (record { started = true; peer = 0; end = fresh a.window a.most Talking } ∷ []) in
    omega (arith, one, left, more)
asked_adds a b new to_b to_a packets (On n call) j h =
    let c : Channel = h.0 in
    let none : openings_in packets ≡ 0 = ap openings_in h.5 ∙ openings_none c.peer (map (addressed n c.peer) h.1) (all_for n c.peer h.1 (call_later call c.end h.1 h.2 h.4)) in
    let adds = call_adds n call c.end h.1 h.2 (bounded a b to_b to_a n c j h.3) h.4 in
    let set = left_set a.channels n c (record c { end = h.2 }) h.3 in
    let left : left_in new.channels ≡ left_in (slice_set a.channels n (record c { end = h.2 })) = ap (λ (x : Mux). left_in x.channels) h.6 in
    omega (arith, none, adds, set, left)

pub asking_adds : AskingAdds
asking_adds w m v k mids b new happens Client request packets mux asks is =
    let adds = asked_adds b.client b.server mux b.to_server b.to_client packets request (are_joined w m v k mids b happens) asks in
    let more = openings_more b.to_server packets in
    let made : still_made new ≡ (left_in mux.channels + left_in b.server.channels) + 3 * (openings_in b.to_client + openings_in (b.to_server ++ packets)) = ap still_made is in
    omega (arith, adds, more, made)
asking_adds w m v k mids b new happens Server request packets mux asks is =
    let j = swapped b.client b.server b.to_server b.to_client (are_joined w m v k mids b happens) in
    let adds = asked_adds b.server b.client mux b.to_client b.to_server packets request j asks in
    let more = openings_more b.to_client packets in
    let made : still_made new ≡ (left_in b.client.channels + left_in mux.channels) + 3 * (openings_in (b.to_client ++ packets) + openings_in b.to_server) = ap still_made is in
    omega (arith, adds, more, made)
