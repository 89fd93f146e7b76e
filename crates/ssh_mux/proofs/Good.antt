-- Each payload that a side makes may be submitted.
use Rattle.std.proofs.Common.{◌≡◌, inl, inr, ℕ, suc, ◌+◌, ◌≤◌, min, nat_lt, Bool, true, false, not, ◌&&◌, ◌||◌, ◌==◌, if◌then◌else◌, List, [], ◌∷◌, ◌++◌, length, map, codes, Option, Some, None, refl, sym, subst, length-append, arith}
use Rattle.std.proofs.lemmas.Bool.Decides.{nat_tests}
use Rattle.ssh_wire.specs.Forms.{string, u32be}
use Rattle.ssh_wire.specs.Sides.{other_side}
use Rattle.ssh_wire.specs.declared.side.Side.{Side}
use Rattle.ssh_wire.specs.declared.side.Side.TheVariants.{Client, Server}
use Rattle.ssh_packet.specs.Sealing.{longest_payload}
use Rattle.ssh_rules.specs.MessageTypes.{is_payload_type}
use Rattle.ssh_rules.specs.Valid.{is_good_payload}
use Rattle.ssh_channels.specs.Asking.{MuxState, ReceivesAll}
use Rattle.ssh_channels.specs.Ends.{ArePieces, Call, CallClose, CallEof, Calls, Read, Receives, Sends, Write, after_eof, close_messages, closes_now, data_messages, ends_now, eof_messages, fresh, taken, tells}
use Rattle.ssh_channels.specs.Formats.{packet_text, recipient, text_of}
use Rattle.ssh_channels.specs.Muxes.{Asks, Mux, On, Packet, Request, Start, TakesAt, addressed, told_number}
use Rattle.ssh_channels.specs.Phases.{Adjust, Close, Confirmation, Data, Eof, Failure, Message, Open, is_live}
use Rattle.ssh_channels.specs.declared.end.End.{End}
use Rattle.ssh_channels.specs.declared.end.Phase.TheVariants.{Silent}
use Rattle.ssh_mux.specs.Running.{Both, Called, CalledAs, Carried, Carries, CarriesBy, PairOnLink, Received, ReceivesNew, RunsSteps, Stepped, Submitted, request_of, side_at, state_at, with_state}
use Rattle.ssh_mux.specs.Pairs.{new_pair}
use Rattle.ssh_mux.specs.Running.{both_of}
use Rattle.ssh_mux.specs.Stopping.{AllGood, MakesGood}
use Rattle.ssh_mux.specs.declared.pair.PairConfig.{PairConfig}
use Rattle.ssh_mux.specs.declared.pair.PairSide.{PairSide}
use Rattle.ssh_mux.specs.declared.step.ChannelStep.{ChannelStep}
use Rattle.ssh_mux.proofs.Carrying.{still_made}

-- ---- the text of a message

not_longer : (n : ℕ) → n ≤ 262156 → nat_lt longest_payload (suc n) ≡ false
not_longer n h = grind (arith, nat_tests)

not_none : (n : ℕ) → (suc n == 0) ≡ false
not_none n = grind (arith, nat_tests)

typed_good : (t : ℕ) (rest : List ℕ) → is_payload_type t ≡ true → length rest ≤ 262156 → is_good_payload (t ∷ rest) ≡ true
typed_good t rest e h = by (length (t ∷ rest) == 0) (nat_lt longest_payload (length (t ∷ rest))) (is_payload_type t) (not_none (length rest)) (not_longer (length rest) h) e
  where
    by : (z a b : Bool) → z ≡ false → a ≡ false → b ≡ true → (not (z || a) && b) ≡ true
    by false false true p q r = refl
    by false false false p q r = cc
    by false true b p q r = cc
    by true a b p q r = cc

four : (n : ℕ) → length (u32be n) ≡ 4
four n = refl

four_more : (n : ℕ) (rest : List ℕ) → length (u32be n ++ rest) ≡ 4 + length rest
four_more n rest = length-append (u32be n) rest

-- no data, or a piece of it
abbrev pub IsSmall : Message → Type 0
IsSmall (Open w m) = Unit {0}
IsSmall (Confirmation w m) = Unit {0}
IsSmall Failure = Unit {0}
IsSmall (Adjust n) = Unit {0}
IsSmall (Data bytes) = length bytes ≤ 32768
IsSmall Eof = Unit {0}
IsSmall Close = Unit {0}

text_good : (to : Option ℕ) (from : ℕ) (m : Message) → IsSmall m → is_good_payload (text_of to from m) ≡ true
text_good to from (Open w m) h = typed_good 90 (string (codes "session") ++ (u32be from ++ (u32be w ++ u32be m))) refl
    (let a = length-append (string (codes "session")) (u32be from ++ (u32be w ++ u32be m)) in let s : length (string (codes "session")) ≡ 11 = refl in
    let b = four_more from (u32be w ++ u32be m) in let c = four_more w (u32be m) in let d = four m in omega (arith, a, s, b, c, d))
text_good to from (Confirmation w m) h = typed_good 91 (u32be (recipient to) ++ (u32be from ++ (u32be w ++ u32be m))) refl
    (let a = four_more (recipient to) (u32be from ++ (u32be w ++ u32be m)) in let b = four_more from (u32be w ++ u32be m) in let c = four_more w (u32be m) in let d = four m in omega (arith, a, b, c, d))
text_good to from Failure h = typed_good 92 (u32be (recipient to) ++ (u32be 4 ++ (string (codes "Resource shortage") ++ string []))) refl
    (let a = four_more (recipient to) (u32be 4 ++ (string (codes "Resource shortage") ++ string [])) in let b : length (u32be 4 ++ (string (codes "Resource shortage") ++ string [])) ≡ 29 = refl in omega (arith, a, b))
text_good to from (Adjust n) h = typed_good 93 (u32be (recipient to) ++ u32be n) refl (let a = four_more (recipient to) (u32be n) in let b = four n in omega (arith, a, b))
text_good to from (Data bytes) h = typed_good 94 (u32be (recipient to) ++ string bytes) refl (let a = four_more (recipient to) (string bytes) in let b = four_more (length bytes) bytes in omega (arith, a, b, h))
text_good to from Eof h = typed_good 96 (u32be (recipient to)) refl (let a = four (recipient to) in omega (arith, a))
text_good to from Close h = typed_good 97 (u32be (recipient to)) refl (let a = four (recipient to) in omega (arith, a))

-- ---- messages

abbrev AllSmall : List Message → Type 0
AllSmall [] = Unit {0}
AllSmall (m ∷ messages) = IsSmall m × AllSmall messages

small_join : (a b : List Message) → AllSmall a → AllSmall b → AllSmall (a ++ b)
small_join [] b h k = k
small_join (m ∷ a) b h k = (h.0, small_join a b h.1 k)

small_if : (t : Bool) (m : Message) → IsSmall m → AllSmall (if t then m ∷ [] else [])
small_if true m h = (h, tt)
small_if false m h = tt

pieces_small : (largest : ℕ) (pieces : List (List ℕ)) → ArePieces (min largest 32768) pieces → AllSmall (data_messages pieces)
pieces_small largest [] h = tt
pieces_small largest (piece ∷ pieces) h = ((let l = h.1 in omega (arith, l)), pieces_small largest pieces h.2)

sends_small : (old : End) (messages : List Message) (new : End) → Sends old messages new → AllSmall messages
sends_small old messages new h = subst AllSmall (sym h.messages_are)
    (small_join (data_messages h.pieces) (eof_messages h.mid ++ close_messages (after_eof h.mid)) (pieces_small old.largest h.pieces h.sent.each)
    (small_join (eof_messages h.mid) (close_messages (after_eof h.mid)) (small_if (ends_now h.mid) Eof tt) (small_if (closes_now (after_eof h.mid)) Close tt)))

calls_small : (call : Call) (old : End) (messages : List Message) (new : End) → Calls call old messages new → AllSmall messages
calls_small (Write bytes) old messages new h = sends_small _ messages new h.1
calls_small CallEof old messages new h = sends_small _ messages new h.1
calls_small CallClose old messages new h = sends_small _ messages new h.2
calls_small (Read n) old messages new h = subst AllSmall (sym h.0) (small_if (tells old n) (Adjust (taken old n)) tt)

none_small : (messages : List Message) → messages ≡ [] → AllSmall messages
none_small messages e = subst AllSmall (sym e) tt

receives_small : (m : Message) (old : End) (messages : List Message) (new : End) → Receives m old messages new → AllSmall messages
receives_small (Open w m) old messages new (inl h) = subst AllSmall (sym h.0) (tt, tt)
receives_small (Open w m) old messages new (inr h) = subst AllSmall (sym h.0) (tt, tt)
receives_small (Confirmation w m) old messages new h = sends_small _ messages new h
receives_small Failure old messages new h = none_small messages h.0
receives_small (Adjust n) old messages new h = sends_small _ messages new h
receives_small (Data bytes) old messages new h = none_small messages h.0
receives_small Eof old messages new h = none_small messages h.0
receives_small Close old messages new h = subst AllSmall (sym h.0) (small_if (is_live old.said) Close tt)

-- ---- packets

abbrev AllPieces : List Packet → Type 0
AllPieces [] = Unit {0}
AllPieces (p ∷ packets) = IsSmall p.message × AllPieces packets

addressed_small : (own peer : ℕ) (m : Message) → IsSmall m → IsSmall (addressed own peer m).message
addressed_small own peer (Open w m) h = tt
addressed_small own peer (Confirmation w m) h = tt
addressed_small own peer Failure h = tt
addressed_small own peer (Adjust n) h = tt
addressed_small own peer (Data bytes) h = h
addressed_small own peer Eof h = tt
addressed_small own peer Close h = tt

addressed_all : (own peer : ℕ) (messages : List Message) → AllSmall messages → AllPieces (map (addressed own peer) messages)
addressed_all own peer [] h = tt
addressed_all own peer (m ∷ messages) h = (addressed_small own peer m h.0, addressed_all own peer messages h.1)

packets_so : (packets : List Packet) (own peer : ℕ) (messages : List Message) → packets ≡ map (addressed own peer) messages → AllSmall messages → AllPieces packets
packets_so packets own peer messages e h = subst AllPieces (sym e) (addressed_all own peer messages h)

asks_small : (request : Request) (old : Mux) (packets : List Packet) (new : Mux) → Asks request old packets new → AllPieces packets
asks_small Start old packets new h = subst AllPieces (sym h.1) (tt, tt)
asks_small (On channel call) old packets new h = packets_so packets channel h.0.peer h.1 h.5 (calls_small call h.0.end h.1 h.2 h.4)

takes_small : (to : Option ℕ) (p : Packet) (old : Mux) (packets : List Packet) (new : Mux) → TakesAt to p old packets new → AllPieces packets
takes_small None p old packets new (inl h) = packets_so packets (length old.channels) p.from h.1 h.5 (receives_small p.message (fresh old.window old.most Silent) h.1 h.0 h.3)
takes_small None p old packets new (inr h) = subst AllPieces (sym h.1) (tt, tt)
takes_small (Some channel) p old packets new h = packets_so packets channel (told_number p h.0.peer p.message) h.1 h.5 (receives_small p.message h.0.end h.1 h.2 h.4)

-- ---- payloads

texts_good : (packets : List Packet) → AllPieces packets → AllGood (map (λ p. packet_text p) packets)
texts_good [] h = tt
texts_good (p ∷ packets) h = (text_good p.to p.from p.message h.0, texts_good packets h.1)

good_join : (a b : List (List ℕ)) → AllGood a → AllGood b → AllGood (a ++ b)
good_join [] b h k = k
good_join (p ∷ a) b h k = (h.0, good_join a b h.1 k)

good_more : (old new : List (List ℕ)) (packets : List Packet) → new ≡ old ++ map (λ p. packet_text p) packets → AllPieces packets → AllGood old → AllGood new
good_more old new packets e h g = subst AllGood (sym e) (good_join old (map (λ p. packet_text p) packets) g (texts_good packets h))

received_good : (payloads : List (List ℕ)) (old new : MuxState) → ReceivesAll payloads old new → AllGood old.made → AllGood new.made
received_good [] old new e g = subst (λ (s : MuxState). AllGood s.made) (sym e) g
received_good (payload ∷ payloads) old new h g =
    let t = h.1.2 in
    received_good payloads h.0 new h.2 (good_more old.made h.0.made t.packets t.made (takes_small _ _ old.side t.packets h.0.side t.takes) g)

-- ---- both sides

of_sides : (P : Side → Type 0) (side : Side) → P side → P (other_side side) → (s : Side) → P s
of_sides P Client a b Client = a
of_sides P Client a b Server = b
of_sides P Server a b Client = b
of_sides P Server a b Server = a

-- the other side is as it was
one_good : (side : Side) (old new : Both) → AllGood (state_at side new).made → side_at (other_side side) new ≡ side_at (other_side side) old → MakesGood old → MakesGood new
one_good side old new h e g = of_sides (λ s. AllGood (state_at s new).made) side h (subst (λ (x : PairSide). AllGood x.mux.made) (sym e) (g (other_side side)))

same_good : (old new : Both) → new ≡ old → MakesGood old → MakesGood new
same_good old new e g = subst MakesGood (sym e) g

-- a call
called_as : (call : Option (Side × Request)) (old new : Both) → CalledAs call old new → MakesGood old → MakesGood new
called_as None old new e g = same_good old new e g
called_as (Some call) old new h g = one_good call.0 old new
    (good_more (state_at call.0 old).made (state_at call.0 new).made h.0.packets h.0.made (asks_small call.1 (state_at call.0 old).side h.0.packets (state_at call.0 new).side h.0.asks) (g call.0)) h.2 g

pub called_good : (step : ChannelStep) (old new : Both) → Called step old new → MakesGood old → MakesGood new
called_good step old new h g = called_as (request_of step) old new h g

-- what was delivered
pub receives_good : (side : Side) (delivered : List (List ℕ)) (old new : Both) → ReceivesNew side delivered old new → MakesGood old → MakesGood new
receives_good side delivered old new h g = one_good side old new (received_good _ (state_at side old) (state_at side new) h.takes (g side)) h.other g

-- one payload less
less_good : (side : Side) (payload : List ℕ) (rest : List (List ℕ)) (b : Both) → (state_at side b).made ≡ payload ∷ rest → MakesGood b → MakesGood (with_state side (record { side = (state_at side b).side; made = rest }) b)
less_good Client payload rest b e g = of_sides _ Client (subst AllGood e (g Client)).1 (g Server)
less_good Server payload rest b e g = of_sides _ Server (subst AllGood e (g Server)).1 (g Client)

carried_one : (old new : PairOnLink) → Carried old new → MakesGood old.both → MakesGood new.both
carried_one old new (Received side h e) g = receives_good side _ old.both new.both h g
carried_one old new (Submitted side payload rest is e t) g = same_good _ new.both e (less_good side payload rest old.both is g)
carried_one old new (Stepped step none e t) g = same_good old.both new.both e g

carried_good : (mids : List PairOnLink) (old new : PairOnLink) → CarriesBy mids old new → MakesGood old.both → MakesGood new.both
carried_good [] old new e g = subst (λ (s : PairOnLink). MakesGood s.both) (sym e) g
carried_good (mid ∷ mids) old new h g = carried_good mids mid new h.1 (carried_one old mid h.0 g)

pub carries_good : (old new : PairOnLink) → Carries old new → MakesGood old.both → MakesGood new.both
carries_good old new h g = carried_good h.0 old new h.1 g

-- the first of what is left
pub left_good : (side : Side) (left rest : List (List ℕ)) (payload : List ℕ) (b : Both) → left ≡ payload ∷ rest → MakesGood (still_made side left b) → is_good_payload payload ≡ true
left_good Client left rest payload b e g = (subst AllGood e (g Client)).0
left_good Server left rest payload b e g = (subst AllGood e (g Server)).0

-- steps
pub runs_good : (steps : List ChannelStep) (old new : PairOnLink) → RunsSteps steps old new → MakesGood old.both → MakesGood new.both
runs_good [] old new e g = subst (λ (s : PairOnLink). MakesGood s.both) (sym e) g
runs_good (step ∷ steps) old new h g = runs_good steps h.1 new h.4 (carries_good (record { both = h.0; link = old.link }) h.1 h.3.carries (called_good step old.both h.0 h.2 g))

-- a side made none yet
pub new_good : (config : PairConfig) → MakesGood (both_of (new_pair config))
new_good config Client = tt
new_good config Server = tt
