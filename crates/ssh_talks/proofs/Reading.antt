-- Each packet that comes fits its format, so it is read as it was written.
use Rattle.std.proofs.Common.{◌≡◌, ℕ, zero, suc, ◌+◌, ◌-◌, ◌^◌, ◌<◌, ◌≤◌, Bool, true, false, if◌then◌else◌, List, [], ◌∷◌, ◌++◌, length, map, slice_get, slice_set, Option, Some, None, Result, Ok, Err, ◌⊎◌, inl, inr, refl, sym, ap, ◌∙◌, subst, arith}
use Rattle.std.proofs.lemmas.Bool.{cases_Bool, cases_lt}
use Rattle.std.proofs.lemmas.Option.{slice_get_within}
use Rattle.ssh_wire.specs.declared.side.Side.TheVariants.{Client, Server}
use Rattle.ssh_channels.specs.Phases.{Message, Open, Confirmation, Failure, Adjust, Data, Eof, Close, data_in, grant_of, grants_in, has_told, next}
use Rattle.ssh_channels.specs.declared.end.Phase.{Phase}
use Rattle.ssh_channels.specs.declared.end.Phase.TheVariants.{Silent, Talking, Ended, Shut, Failed}
use Rattle.ssh_channels.specs.declared.end.End.{End}
use Rattle.ssh_channels.specs.declared.fault.MuxFault.{MuxFault}
use Rattle.ssh_channels.specs.Asking.{packet_fault_to, payload_fault, payload_fault_in}
use Rattle.ssh_channels.specs.Ends.{IsTooMuch, fresh}
use Rattle.ssh_channels.specs.Formats.{Fits, PacketFault, packet_of, packet_text, recipient}
use Rattle.ssh_channels.specs.Conversation.{Talk, opened}
use Rattle.ssh_channels.specs.Laws.{AreSettings, Reached}
use Rattle.ssh_channels.specs.Muxes.{Asks, Channel, Mux, On, Packet, Request, Start, TakesAt, addressed, most_channels, told_number}
use Rattle.ssh_channels.proofs.Lemmas.{read_again, fixed, nothing_refused, received_gone, IsTelling, Way, told_by}
use Rattle.ssh_talks.specs.Talks.{Answer, As, Asked, Came, Happens, HappensOn, MuxPair, NoPayloadRefused, PassesPayload, both_new, for_channel, mux_of, way_to, with_mux}
use Rattle.ssh_talks.proofs.Packets.{Every, every_more, many_new, many_set}
use Rattle.ssh_talks.proofs.Halves.{Half, IsAt, IsOpen, Opens, answering}
use Rattle.ssh_talks.proofs.Mute.{NoOpening, confirmed_other, joint_is, opener_place, other_place}
use Rattle.ssh_talks.proofs.Openings.{asking}
use Rattle.ssh_talks.proofs.Talking.{AreJoined, Joined, are_joined, head_for, swapped}
use Rattle.ssh_talks.proofs.Flowing.{Settled, client_bounds, no_packet_refused, other_of, settled, stands, turned}

-- ---- numbers that are told, and how many channels there are

-- a number of the sender's is told where a channel is opened or granted, and nowhere else
abbrev pub TellsNone : Packet → Message → Type 0
TellsNone p (Open w m) = Unit {0}
TellsNone p (Confirmation w m) = Unit {0}
TellsNone p Failure = p.from ≡ 0
TellsNone p (Adjust n) = p.from ≡ 0
TellsNone p (Data bytes) = p.from ≡ 0
TellsNone p Eof = p.from ≡ 0
TellsNone p Close = p.from ≡ 0

abbrev pub IsPlain : Packet → Type 0
IsPlain p = TellsNone p p.message

one_plain : (own peer : ℕ) (m : Message) → IsPlain (addressed own peer m)
one_plain own peer (Open w k) = tt
one_plain own peer (Confirmation w k) = tt
one_plain own peer Failure = refl
one_plain own peer (Adjust n) = refl
one_plain own peer (Data bytes) = refl
one_plain own peer Eof = refl
one_plain own peer Close = refl

all_plain : (own peer : ℕ) (ms : List Message) → Every IsPlain (map (addressed own peer) ms)
all_plain own peer [] = tt
all_plain own peer (m ∷ ms) = (one_plain own peer m, all_plain own peer ms)

-- a side with few channels, and what is on the way to it
pub record Numbered (side : Mux) (way : List Packet) : Type 0 where
  pub few : length side.channels ≤ most_channels
  pub plain : Every IsPlain way

request_numbers : (request : Request) (old new : Mux) (packets : List Packet) → Asks request old packets new → length old.channels ≤ most_channels → (length new.channels ≤ most_channels) × Every IsPlain packets
request_numbers Start old new packets h few =
    let e = ap (λ (x : Mux). length x.channels) h.2 in
    let l = many_new old.channels (record { started = true; peer = 0; end = fresh old.window old.most Talking }) in
    let r = h.0 in
    (omega (arith, e, l, r), subst (Every IsPlain) (sym h.1) (tt, tt))
request_numbers (On n call) old new packets h few =
    let e = ap (λ (x : Mux). length x.channels) h.6 in
    let l = many_set old.channels n (record h.0 { end = h.2 }) in
    (omega (arith, e, l, few), subst (Every IsPlain) (sym h.5) (all_plain n h.0.peer h.1))

packet_numbers : (to : Option ℕ) (p : Packet) (old new : Mux) (packets : List Packet) → TakesAt to p old packets new → length old.channels ≤ most_channels → (length new.channels ≤ most_channels) × Every IsPlain packets
packet_numbers None p old new packets (inl h) few =
    let e = ap (λ (x : Mux). length x.channels) h.6 in
    let l = many_new old.channels (record { started = false; peer = p.from; end = h.0 }) in
    let r = h.2 in
    (omega (arith, e, l, r), subst (Every IsPlain) (sym h.5) (all_plain (length old.channels) p.from h.1))
packet_numbers None p old new packets (inr h) few = (subst (λ (x : Mux). length x.channels ≤ most_channels) (sym h.2) few, subst (Every IsPlain) (sym h.1) (refl, tt))
packet_numbers (Some n) p old new packets h few =
    let e = ap (λ (x : Mux). length x.channels) h.6 in
    let l = many_set old.channels n (record h.0 { peer = told_number p h.0.peer p.message; end = h.2 }) in
    (omega (arith, e, l, few), subst (Every IsPlain) (sym h.5) (all_plain n (told_number p h.0.peer p.message) h.1))

pub record AreNumbered (b : MuxPair) : Type 0 where
  pub client : Numbered b.client b.to_client
  pub server : Numbered b.server b.to_server

numbered_next : (old new : MuxPair) → AreNumbered old → Happens old new → AreNumbered new
numbered_next old new s (Asked Client request packets mux h e) =
    let x = request_numbers request old.client mux packets h s.client.few in
    subst AreNumbered (sym e) (record { client = record { few = x.0; plain = s.client.plain }; server = record { few = s.server.few; plain = every_more IsPlain old.to_server packets s.server.plain x.1 } })
numbered_next old new s (Asked Server request packets mux h e) =
    let x = request_numbers request old.server mux packets h s.server.few in
    subst AreNumbered (sym e) (record { client = record { few = s.client.few; plain = every_more IsPlain old.to_client packets s.client.plain x.1 }; server = record { few = x.0; plain = s.server.plain } })
numbered_next old new s (Came Client p rest packets mux way h e) =
    let x = packet_numbers p.to p old.client mux packets h s.client.few in
    let t : Every IsPlain (p ∷ rest) = subst (Every IsPlain) way s.client.plain in
    subst AreNumbered (sym e) (record { client = record { few = x.0; plain = t.1 }; server = record { few = s.server.few; plain = every_more IsPlain old.to_server packets s.server.plain x.1 } })
numbered_next old new s (Came Server p rest packets mux way h e) =
    let x = packet_numbers p.to p old.server mux packets h s.server.few in
    let t : Every IsPlain (p ∷ rest) = subst (Every IsPlain) way s.server.plain in
    subst AreNumbered (sym e) (record { client = record { few = s.client.few; plain = every_more IsPlain old.to_client packets s.client.plain x.1 }; server = record { few = x.0; plain = t.1 } })

numbered_on : (mids : List MuxPair) (start b : MuxPair) → AreNumbered start → HappensOn mids start b → AreNumbered b
numbered_on [] start b s e = subst AreNumbered (sym e) s
numbered_on (mid ∷ mids) start b s h = numbered_on mids mid b (numbered_next start mid s h.0) h.1

pub numbered : (w m v k : ℕ) (mids : List MuxPair) (b : MuxPair) → HappensOn mids (both_new w m v k) b → AreNumbered b
numbered w m v k mids b h = numbered_on mids (both_new w m v k) b (record { client = record { few = omega arith; plain = tt }; server = record { few = omega arith; plain = tt } }) h

-- ---- what a message tells

told_most : (e : End) → told_by e ≤ e.window + e.told
told_most e = on (has_told e.said)
  where
    on : (t : Bool) → (if t then e.window + e.told else 0) ≤ e.window + e.told
    on true = omega arith
    on false = omega arith

-- what is told to an end that heard no answer is the window
silent_granted : (a b : Bool) (s r : End) (m : Message) (rest rs : List Message) → s.window ≤ 2 ^ 30 → Way a s r (m ∷ rest) rs → Way b r s rs (m ∷ rest) → has_told r.heard ≡ false → grant_of m ≤ 2 ^ 30
silent_granted a b s r m rest rs small w v h =
    let none : r.granted ≡ 0 = v.silent h in
    let g : r.granted + (grant_of m + grants_in rest) ≡ told_by s = v.grants in
    let z = received_gone b r s rs (m ∷ rest) v in
    let p = v.passed in
    let told = v.told in
    let read = v.read in
    let most = told_most s in
    omega (arith, none, g, z, p, told, read, most, small)

confirmed_unheard : (p q : Phase) (w k : ℕ) → next true p (Confirmation w k) ≡ Some q → has_told p ≡ false
confirmed_unheard Silent q w k h = refl
confirmed_unheard Talking q w k h = absurd (let z : None ≡ Some q = h in cc)
confirmed_unheard Ended q w k h = absurd (let z : None ≡ Some q = h in cc)
confirmed_unheard Shut q w k h = absurd (let z : None ≡ Some q = h in cc)
confirmed_unheard Failed q w k h = absurd (let z : None ≡ Some q = h in cc)

-- ---- a packet for a channel that is there

-- what a confirmation tells is in bounds
abbrev AreSmall : Packet → Message → Type 0
AreSmall p m = (w k : ℕ) → m ≡ Confirmation w k → (p.from < 2 ^ 32) × (w < 2 ^ 32) × (k < 2 ^ 32)

not_below : (a b : ℕ) → (b ≤ a → ⊥) → a < b
not_below a b h = elim (cases_lt a b) [
  | inl l ↦ l
  | inr l ↦ absurd (h l)
]

fits_some : (p : Packet) (n : ℕ) (m : Message) (e : End) → p.to ≡ Some n → n < 2 ^ 32 → TellsNone p m → NoOpening m → AreSmall p m → (IsTooMuch m e → ⊥) → e.most < 2 ^ 32 → Fits p.to p.from m
fits_some p n (Open w k) e to l plain x small much most = absurd x
fits_some p n (Confirmation w k) e to l plain x small much most = (is_there to, below to l, (small w k refl).0, (small w k refl).1, (small w k refl).2)
  where
    is_there : p.to ≡ Some n → p.to ≡ Some (recipient p.to)
    is_there e = e ∙ ap Some (sym (ap recipient e))

    below : p.to ≡ Some n → n < 2 ^ 32 → recipient p.to < 2 ^ 32
    below e l = subst (λ i. i < 2 ^ 32) (sym (ap recipient e)) l
fits_some p n Failure e to l plain x small much most = (to ∙ ap Some (sym (ap recipient to)), subst (λ i. i < 2 ^ 32) (sym (ap recipient to)) l, plain)
fits_some p n (Adjust k) e to l plain x small much most =
    (to ∙ ap Some (sym (ap recipient to)), subst (λ i. i < 2 ^ 32) (sym (ap recipient to)) l, plain, (let b = not_below ((e.granted - e.gone) + k) (2 ^ 32) much in omega (arith, b)))
fits_some p n (Data bytes) e to l plain x small much most =
    (to ∙ ap Some (sym (ap recipient to)), subst (λ i. i < 2 ^ 32) (sym (ap recipient to)) l, plain, at_most (length bytes) e.most (λ q. much (inl q)) most)
  where
    at_most : (a b : ℕ) → (b < a → ⊥) → b < 2 ^ 32 → a < 2 ^ 32
    at_most a b h l = elim (cases_lt b a) [
      | inl q ↦ absurd (h q)
      | inr q ↦ omega (arith, q, l)
    ]
fits_some p n Eof e to l plain x small much most = (to ∙ ap Some (sym (ap recipient to)), subst (λ i. i < 2 ^ 32) (sym (ap recipient to)) l, plain)
fits_some p n Close e to l plain x small much most = (to ∙ ap Some (sym (ap recipient to)), subst (λ i. i < 2 ^ 32) (sym (ap recipient to)) l, plain)

small_number : (l : List Channel) (n : ℕ) (kind : Bool) → length l ≤ most_channels → IsAt l kind n → n < 2 ^ 32
small_number l n kind few at = let x = slice_get_within l n at.0 at.1 in omega (arith, x, few)

fits_own : (a b : Mux) (to_b rest : List Packet) (p : Packet) (n : ℕ) (c : Channel) → AreSettings a.window a.most b.window b.most → length a.channels ≤ most_channels → length b.channels ≤ most_channels → IsPlain p
    → Joined a b to_b (p ∷ rest) → p.to ≡ Some n → slice_get a.channels n ≡ Some c → c.started ≡ true → Fits p.to p.from p.message
fits_own a b to_b rest p n c are few other_few plain j to at s =
    let o = j.own.each n c at s in
    let joint = joint_is a.window a.most b.window b.most o.talk o.reached in
    let same = fixed o.reached.0 (opened a.window a.most b.window b.most) o.talk o.reached.1 in
    let head : o.talk.to_opener ≡ p.message ∷ for_channel n rest = o.to_own_is ∙ head_for n p rest to in
    let out : Way false o.talk.opener o.talk.other o.talk.to_other (p.message ∷ for_channel n rest) = subst (λ l. Way false o.talk.opener o.talk.other o.talk.to_other l) head joint.out in
    let back : Way true o.talk.other o.talk.opener (p.message ∷ for_channel n rest) o.talk.to_other = subst (λ l. Way true o.talk.other o.talk.opener l o.talk.to_other) head joint.back in
    let x = (nothing_refused a.window a.most b.window b.most are o.talk o.reached).1 p.message (for_channel n rest) head in
    let small : o.talk.other.window ≤ 2 ^ 30 = (let y = same.other.window in let z = are.of_other in omega (arith, y, z)) in
    let most : o.talk.opener.most < 2 ^ 32 = (let y = same.opener.most in let z = are.packet.1 in omega (arith, y, z)) in
    fits_some p n p.message o.talk.opener to (small_number a.channels n true few (c, at, s)) plain (opener_place o.talk.opener.heard x.0.0 p.message x.0.1)
    (λ w k e.
    let number = answerer_of (j.answers n) o (j.own.told.0 n to (c, at, s) w k e) in
    let place : next true o.talk.opener.heard (Confirmation w k) ≡ Some x.0.0 = subst (λ m. next true o.talk.opener.heard m ≡ Some x.0.0) e x.0.1 in
    let w_small : grant_of p.message ≤ 2 ^ 30 = silent_granted true false o.talk.other o.talk.opener p.message (for_channel n rest) o.talk.to_other small back out (confirmed_unheard o.talk.opener.heard x.0.0 w k place) in
    let w_is : grant_of p.message ≡ w = ap grant_of e in
    let told : k ≡ o.talk.other.most = subst (IsTelling o.talk.other.most) e out.telling.0 in
    (small_number b.channels p.from false other_few number, omega (arith, w_small, w_is), (let y = same.other.most in let z = are.other_packet.1 in omega (arith, told, y, z))))
    x.1 most
  where
    answerer_of : (answer : Answer) → Opens a b to_b (p ∷ rest) answer n c → answer ≡ As p.from → IsAt b.channels false p.from
    answerer_of answer o e = let u = answering n p.from b to_b answer o.talk o.other_is e in (u.0, u.1, u.2)

fits_other : (a b : Mux) (to_b rest : List Packet) (p : Packet) (n : ℕ) (c : Channel) → AreSettings a.window a.most b.window b.most → length a.channels ≤ most_channels → IsPlain p
    → Joined a b to_b (p ∷ rest) → p.to ≡ Some n → slice_get a.channels n ≡ Some c → c.started ≡ false → Fits p.to p.from p.message
fits_other a b to_b rest p n c are few plain j to at s =
    let o = other_of a b to_b (p ∷ rest) n c j at s in
    let joint = joint_is b.window b.most a.window a.most o.talk o.reached in
    let same = fixed o.reached.0 (opened b.window b.most a.window a.most) o.talk o.reached.1 in
    let head : o.talk.to_other ≡ p.message ∷ for_channel n rest = o.to_other_is ∙ head_for n p rest to in
    let x = (nothing_refused b.window b.most a.window a.most (turned _ _ _ _ are) o.talk o.reached).0 p.message (for_channel n rest) head in
    let most : o.talk.other.most < 2 ^ 32 = (let y = same.other.most in let z = are.packet.1 in omega (arith, y, z)) in
    fits_some p n p.message o.talk.other to (small_number a.channels n false few (c, at, s)) plain
    (other_place o.talk.other.heard x.0.0 p.message (λ h. (let z : true ≡ false = sym o.told ∙ ap has_told (joint.answering h) in cc)) x.0.1)
    (λ w k e. absurd (confirmed_other o.talk.other.heard x.0.0 w k (subst (λ m. next false o.talk.other.heard m ≡ Some x.0.0) e x.0.1)))
    x.1 most

-- ---- a packet that opens a channel

fits_open : (p : Packet) (m : Message) (largest : ℕ) → IsOpen m → p.to ≡ None → p.from < 2 ^ 32 → grant_of m ≤ 2 ^ 30 → IsTelling largest m → largest < 2 ^ 32 → Fits p.to p.from m
fits_open p (Open w k) largest o to from granted told most = (to, from, omega (arith, granted), subst (λ i. i < 2 ^ 32) (sym told) most)
fits_open p (Confirmation w k) largest o to from granted told most = absurd o
fits_open p Failure largest o to from granted told most = absurd o
fits_open p (Adjust n) largest o to from granted told most = absurd o
fits_open p (Data bytes) largest o to from granted told most = absurd o
fits_open p Eof largest o to from granted told most = absurd o
fits_open p Close largest o to from granted told most = absurd o

fits_opening : (a b : Mux) (to_b rest : List Packet) (p : Packet) → AreSettings a.window a.most b.window b.most → length b.channels ≤ most_channels → Joined a b to_b (p ∷ rest) → p.to ≡ None → Fits p.to p.from p.message
fits_opening a b to_b rest p are other_few j to =
    let asker = j.other.openings.0 to in
    let o = j.other.each p.from asker.0.0 asker.0.1 asker.0.2 in
    let k = asking b a p rest to_b j.other_answers j.other to asker.0.0 asker.0.1 asker.0.2 in
    let joint = joint_is b.window b.most a.window a.most o.talk o.reached in
    let same = fixed o.reached.0 (opened b.window b.most a.window a.most) o.talk o.reached.1 in
    let out : Way false o.talk.opener o.talk.other (p.message ∷ []) o.talk.to_opener = subst (λ l. Way false o.talk.opener o.talk.other l o.talk.to_opener) k.to_other_is joint.out in
    let back : Way true o.talk.other o.talk.opener o.talk.to_opener (p.message ∷ []) = subst (λ l. Way true o.talk.other o.talk.opener o.talk.to_opener l) k.to_other_is joint.back in
    let small : o.talk.opener.window ≤ 2 ^ 30 = (let y = same.opener.window in let z = are.of_other in omega (arith, y, z)) in
    let most : o.talk.opener.most < 2 ^ 32 = (let y = same.opener.most in let z = are.other_packet.1 in omega (arith, y, z)) in
    fits_open p p.message o.talk.opener.most asker.1 to (small_number b.channels p.from true other_few asker.0)
    (silent_granted false true o.talk.opener o.talk.other p.message [] o.talk.to_opener small out back (ap (λ (e : End). has_told e.heard) k.other_is)) back.telling.0 most

-- ---- every packet that comes

fits : (to : Option ℕ) (a b : Mux) (to_b rest : List Packet) (p : Packet) → AreSettings a.window a.most b.window b.most → length a.channels ≤ most_channels → length b.channels ≤ most_channels → IsPlain p
    → Joined a b to_b (p ∷ rest) → p.to ≡ to → Fits p.to p.from p.message
fits None a b to_b rest p are few other_few plain j to = fits_opening a b to_b rest p are other_few j to
fits (Some n) a b to_b rest p are few other_few plain j to =
    let c = stands a.channels n (j.own.there.0 n to) in
    elim (cases_Bool c.0.started) [
      | inl s ↦ fits_own a b to_b rest p n c.0 are few other_few plain j to c.1 s
      | inr s ↦ fits_other a b to_b rest p n c.0 are few plain j to c.1 s
    ]

passes : (side : Mux) (p : Packet) → Fits p.to p.from p.message → packet_fault_to p.to p.message side ≡ None → PassesPayload side p
passes side p f h = record { read = read_again p f; passes = ap (λ r. payload_fault_in r side) (read_again p f) ∙ h }

pub no_payload_refused : NoPayloadRefused
no_payload_refused w m v k are mids b happens Client p rest way =
    let j = subst (λ l. Joined b.client b.server b.to_server l) way (are_joined w m v k mids b happens) in
    let t = client_bounds w m v k b are (settled w m v k mids b happens) in
    let n = numbered w m v k mids b happens in
    let plain : Every IsPlain (p ∷ rest) = subst (Every IsPlain) way n.client.plain in
    passes b.client p (fits p.to b.client b.server b.to_server rest p t n.client.few n.server.few plain.0 j refl) (no_packet_refused w m v k are mids b happens Client p rest way)
no_payload_refused w m v k are mids b happens Server p rest way =
    let j = subst (λ l. Joined b.server b.client b.to_client l) way (swapped b.client b.server b.to_server b.to_client (are_joined w m v k mids b happens)) in
    let t = client_bounds w m v k b are (settled w m v k mids b happens) in
    let n = numbered w m v k mids b happens in
    let plain : Every IsPlain (p ∷ rest) = subst (Every IsPlain) way n.server.plain in
    passes b.server p (fits p.to b.server b.client b.to_client rest p (turned _ _ _ _ t) n.server.few n.client.few plain.0 j refl) (no_packet_refused w m v k are mids b happens Server p rest way)
