-- How many packets of a good wire lie whole in its first bytes: what a cursor counts.
use Rattle.std.proofs.Common.{◌≡◌, ℕ, zero, suc, ◌-◌, ◌<◌, ◌≤◌, List, [], ◌∷◌, ◌++◌, length, take, drop, map, refl, sym, ◌∙◌, ap, subst, arith, append_assoc, length-append, Option, Some, None}
use Rattle.std.proofs.Math.Seq.{drop-append_seam}
use Rattle.std.proofs.lemmas.List.{drop_all, take-append-drop}
use Rattle.ssh_packet.proofs.Lemmas.{one_packet, length_sealed}
use Rattle.ssh_packet.specs.Sealing.{Item, IsAdmissible}
use Rattle.ssh_packet.specs.Stream.{Place, first_place, Reads, IsEnd, place_after, place_behind, packet_at}
use Rattle.ssh_wire.specs.Lines.{id_line}
use Rattle.ssh_wire.specs.declared.side.Side.{Side}
use Rattle.ssh_kex.specs.Exchange.{outgoing}
use Rattle.ssh_kex.specs.declared.config.Config.{Config}
use Rattle.ssh_kex.specs.declared.exchange.FinishedExchange.{FinishedExchange}
use Rattle.ssh_rules.specs.Wire.{LiesWhole}
use Rattle.ssh_record.proofs.Readings.{end_of_nothing}

-- ---- fronts of bytes

take_past : (p more : List ℕ) (m : ℕ) → length p ≤ m → take m (p ++ more) ≡ p ++ take (m - length p) more
take_past [] more m l = ap (λ k. take k more) (let e : m ≡ m - 0 = omega arith in e)
take_past (x ∷ p) more zero l = absurd (omega (arith, l))
take_past (x ∷ p) more (suc m) l =
    let e : m - length p ≡ suc m - suc (length p) = omega arith in
    ap (λ t. x ∷ t) (take_past p more m (omega (arith, l)) ∙ ap (λ k. p ++ take k more) e)

take_short : (m : ℕ) (xs : List ℕ) → length (take m xs) ≤ m
take_short zero xs = omega arith
take_short (suc m) [] = omega arith
take_short (suc m) (x ∷ xs) = omega (arith, take_short m xs)

take_nothing : (m : ℕ) → take m (let t : List ℕ = [] in t) ≡ []
take_nothing zero = refl
take_nothing (suc m) = refl

-- ---- one cursor

-- the next packet, if there is one, ends behind the first m bytes
abbrev pub EndsBehind : Option Place → List Item → ℕ → Type 0
EndsBehind at [] m = Unit {0}
EndsBehind None (i ∷ items) m = Unit {0}
EndsBehind (Some at) (i ∷ items) m = m < length (packet_at at i)

-- The first so many packets lie whole in the first m bytes, and the next one doesn't: a cursor stands behind them.
abbrev pub StandsAt : Option Place → List Item → ℕ → ℕ → Type 0
StandsAt at items zero m = EndsBehind at items m
StandsAt at [] (suc c) m = ⊥
StandsAt None (i ∷ items) (suc c) m = ⊥
StandsAt (Some at) (i ∷ items) (suc c) m = (length (packet_at at i) ≤ m) × StandsAt (place_after at i) items c (m - length (packet_at at i))

-- what is read there
abbrev pub ReadsAt : Option Place → List Item → List ℕ → Type 0
ReadsAt at items bytes = (rest : List ℕ) × Reads at items bytes rest × IsEnd (place_behind at items) rest

-- no packet is whole where the next one isn't
none_whole : (at : Place) (i : Item) (more packets : List ℕ) (m : ℕ) → IsAdmissible at.sealing i → packets ≡ packet_at at i ++ more → m < length (packet_at at i) → IsEnd (Some at) (take m packets)
none_whole at i more packets m a e l = λ j behind b f.
    let whole : packet_at at j ++ (behind ++ drop m packets) ≡ packet_at at i ++ more = sym (append_assoc (packet_at at j) behind (drop m packets)) ∙ (ap (λ t. t ++ drop m packets) (sym f) ∙ (take-append-drop m packets ∙ e)) in
    let one = one_packet at.sealing at.number j i (behind ++ drop m packets) more b a whole in
    omega (arith, ap length f, length-append (packet_at at j) behind, take_short m packets, l, ap (λ t. length (packet_at at t)) one.0)

pub cursor_reads : (at : Option Place) (items : List Item) (packets : List ℕ) (c m : ℕ) → Reads at items packets [] → StandsAt at items c m → ReadsAt at (take c items) (take m packets)
cursor_reads at [] packets zero m h s = (take m packets, refl, end_of_nothing at (take m packets) (ap (take m) h ∙ take_nothing m))
cursor_reads None (i ∷ items) packets zero m h s = absurd h
cursor_reads (Some at) (i ∷ items) packets zero m h s = (take m packets, refl, none_whole at i h.0 packets m h.1 h.2 s)
cursor_reads at [] packets (suc c) m h s = absurd s
cursor_reads None (i ∷ items) packets (suc c) m h s = absurd h
cursor_reads (Some at) (i ∷ items) packets (suc c) m h s =
    let r = cursor_reads (place_after at i) items h.0 c (m - length (packet_at at i)) h.3 s.1 in
    (r.0, (take (m - length (packet_at at i)) h.0, h.1, ap (take m) h.2 ∙ take_past (packet_at at i) h.0 m s.0, r.1), r.2)

-- ---- of a whole wire

drop_line : (line packets wire : List ℕ) (n : ℕ) → wire ≡ line ++ packets → length line ≤ n → drop (length line) (take n wire) ≡ take (n - length line) packets
drop_line line packets wire n e l = ap (λ t. drop (length line) (take n t)) e ∙ (ap (drop (length line)) (take_past line packets n l) ∙ drop-append_seam line (take (n - length line) packets))

-- a cursor behind the packets that end in the first n bytes shows those that lie whole there
pub cursor_whole : (side : Side) (config : Config) (xs : List FinishedExchange) (wire packets : List ℕ) (items : List Item) (c n : ℕ) → wire ≡ id_line config.id ++ packets → Reads (Some (first_place (map (outgoing side) xs))) items packets [] → length (id_line config.id) ≤ n
    → StandsAt (Some (first_place (map (outgoing side) xs))) items c (n - length (id_line config.id)) → LiesWhole side config xs wire n (take c items)
cursor_whole side config xs wire packets items c n e h l s =
    let r = cursor_reads (Some (first_place (map (outgoing side) xs))) items packets c (n - length (id_line config.id)) h s in
    (r.0, record { reads = subst (λ b. Reads (Some (first_place (map (outgoing side) xs))) (take c items) b r.0) (sym (drop_line (id_line config.id) packets wire n e l)) r.1; no_more = r.2 })

-- before the id line is whole nothing is
none_at : (p : Place) (i : Item) (more : List ℕ) → [] ≡ packet_at p i ++ more → ⊥
none_at p i more e = omega (arith, ap length e, length-append (packet_at p i) more, length_sealed p.sealing p.number i)

pub none_yet : (side : Side) (config : Config) (xs : List FinishedExchange) (wire : List ℕ) (n : ℕ) → n ≤ length (id_line config.id) → LiesWhole side config xs wire n []
none_yet side config xs wire n l =
    let e : drop (length (id_line config.id)) (take n wire) ≡ [] = drop_all (length (id_line config.id)) (take n wire) (omega (arith, take_short n wire, l)) in
    ([], record { reads = e; no_more = λ i more a f. none_at (first_place (map (outgoing side) xs)) i more f })
