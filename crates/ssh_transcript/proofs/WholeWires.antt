-- What a wire that was read whole shows: that it is good, or where its first bad packet stands.
use Rattle.std.proofs.Common.{◌≡◌, inl, inr, ℕ, ◌<◌, ◌≤◌, List, [], ◌∷◌, ◌++◌, length, Option, Some, None, refl, sym, ◌∙◌, ap, subst, arith, append_assoc, length-append}
use Rattle.std.proofs.lemmas.List.{append_cancel_left}
use Rattle.ssh_packet.proofs.Lemmas.{length_sealed, one_packet, reads_more, reads_split}
use Rattle.ssh_packet.specs.Sealing.{Item}
use Rattle.ssh_packet.specs.Stream.{IsEnd, Place, Reads, packet_at, place_after, place_behind}
use Rattle.ssh_wire.specs.Lines.{id_line}
use Rattle.ssh_wire.specs.declared.side.Side.{Side}
use Rattle.ssh_kex.specs.declared.exchange.FinishedExchange.{FinishedExchange}
use Rattle.ssh_rules.specs.Wire.{ArePadded}
use Rattle.ssh_record.proofs.Lemmas.{reads_fronts, reads_less}
use Rattle.ssh_record.specs.Packets.{AreGoodPackets, EndsGood, IsBadBehind, IsWireOf}
use Rattle.ssh_record.specs.Recordings.{JudgedRecord, config_in, wire_in}
use Rattle.ssh_transcript.specs.Reading.{AreGoodSoFar, AreJudged, FitsIn, HasEnded, IsFed, IsFirstBad, IsKeptWire, IsOver, IsRead, first_of}
use Rattle.ssh_transcript.specs.declared.wire.WireReader.{WireReader}
use Rattle.ssh_transcript.proofs.Standings.{kept_count}

none_left : (xs : List ℕ) → length xs ≡ 0 → xs ≡ []
none_left [] e = refl
none_left (x ∷ xs) e = absurd (omega (arith, e))

-- what was read to the end is read
pub ended_read : (side : Side) (j : JudgedRecord) (xs : List FinishedExchange) (r : WireReader) → HasEnded side j xs r → IsRead side j xs r
ended_read side j xs r h = record { items = h.items; rest = r.reader.waiting; read = h.read; ends = subst (λ q. IsEnd q r.reader.waiting) (sym h.ended) tt }

pub over_read : (side : Side) (j : JudgedRecord) (xs : List FinishedExchange) (r : WireReader) → IsOver side j xs r → IsRead side j xs r
over_read side j xs r h = record { items = h.items; rest = h.rest; read = h.read; ends = h.ends }

-- of two readings of one wire, one that read all that is whole read no fewer
no_longer : (at : Option Place) (a b : List Item) (bytes x y : List ℕ) → Reads at a bytes x → IsEnd (place_behind at a) x → Reads at b bytes y → length b ≤ length a
no_longer at [] [] bytes x y h e k = omega arith
no_longer None [] (j ∷ b) bytes x y h e k = absurd k
no_longer (Some at) [] (j ∷ b) bytes x y h e k = absurd (e j k.0 k.1 (sym h ∙ k.2))
no_longer at (i ∷ a) [] bytes x y h e k = omega arith
no_longer None (i ∷ a) (j ∷ b) bytes x y h e k = absurd k
no_longer (Some at) (i ∷ a) (j ∷ b) bytes x y h e k =
    let one = one_packet at.sealing at.number i j h.0 k.0 h.1 k.1 (sym h.2 ∙ k.2) in
    let same : Reads (place_after at i) b h.0 y = subst (λ t. Reads (place_after at i) b t y) (sym one.1) (subst (λ t. Reads (place_after at t) b k.0 y) (sym one.0) k.3) in
    omega (arith, no_longer (place_after at i) a b h.0 x y h.3 e same)

-- a good reading is one of what was fed
fed_of : (line packets more bytes wire fed : List ℕ) → bytes ≡ line ++ packets → bytes ++ more ≡ wire → wire ≡ line ++ fed → packets ++ more ≡ fed
fed_of line packets more bytes wire fed e f g = append_cancel_left line (packets ++ more) fed (sym (append_assoc line packets more) ∙ (ap (λ t. t ++ more) (sym e) ∙ (f ∙ g)))

good_fits : (side : Side) (j : JudgedRecord) (xs : List FinishedExchange) (bytes : List ℕ) (items : List Item) → IsWireOf side j xs bytes items → FitsIn side j items
good_fits side j xs bytes items w = record { payloads = w.payloads; blocks = w.blocks; forms = w.forms }

wire_of : (side : Side) (j : JudgedRecord) (xs : List FinishedExchange) (packets : List ℕ) (items : List Item) → Reads (first_of side xs) items packets [] → ArePadded (first_of side xs) items → FitsIn side j items → IsWireOf side j xs (id_line (config_in side j).id ++ packets) items
wire_of side j xs packets items r p f = record {
  reads = (packets, refl, r);
  padded = p;
  payloads = f.payloads;
  blocks = f.blocks;
  forms = f.forms;
}

-- the first packets of what was fed, where they are good
good_front : (side : Side) (j : JudgedRecord) (xs : List FinishedExchange) (fed rest : List ℕ) (items : List Item) → wire_in side j ≡ id_line (config_in side j).id ++ fed → (r : (p : List ℕ) × (fed ≡ p ++ rest) × Reads (first_of side xs) items p []) → ArePadded (first_of side xs) items → FitsIn side j items → AreGoodPackets side j xs (length items)
good_front side j xs fed rest items l r p f = record {
  bytes = id_line (config_in side j).id ++ r.0;
  items = items;
  front = (rest, append_assoc (id_line (config_in side j).id) r.0 rest ∙ (ap (λ t. id_line (config_in side j).id ++ t) (sym r.1) ∙ sym l));
  many = refl;
  good = wire_of side j xs r.0 items r.2 p f;
}

front_follows : (side : Side) (j : JudgedRecord) (fed rest p : List ℕ) → wire_in side j ≡ id_line (config_in side j).id ++ fed → fed ≡ p ++ rest → 0 < length rest → length (id_line (config_in side j).id ++ p) < length (wire_in side j)
front_follows side j fed rest p l e n = omega (arith, ap length l, length-append (id_line (config_in side j).id) fed, ap length e, length-append p rest, length-append (id_line (config_in side j).id) p, n)

-- all is good, and something is left
ends_behind_all : (side : Side) (j : JudgedRecord) (xs : List FinishedExchange) (fed rest : List ℕ) (items : List Item) → wire_in side j ≡ id_line (config_in side j).id ++ fed → Reads (first_of side xs) items fed rest → IsEnd (place_behind (first_of side xs) items) rest → 0 < length rest → ArePadded (first_of side xs) items → FitsIn side j items → EndsGood side j xs (length items)
unfolding good_front
ends_behind_all side j xs fed rest items l r e n p f =
    let less = reads_less (first_of side xs) items fed rest r in
    record {
      good = good_front side j xs fed rest items l less p f;
      follow = front_follows side j fed rest less.0 l less.1 n;
      no_more = λ g.
          let all = fed_of (id_line (config_in side j).id) g.good.reads.0 g.front.0 g.bytes (wire_in side j) fed g.good.reads.1 g.front.1 l in
          let more : Reads (first_of side xs) g.items fed g.front.0 = subst (λ t. Reads (first_of side xs) g.items t g.front.0) all (reads_more (first_of side xs) g.items g.good.reads.0 [] g.front.0 g.good.reads.2) in
          omega (arith, no_longer (first_of side xs) items g.items fed rest g.front.0 r e more, g.many);
    }

cut_one : {A : Type 0} (a b x y : List A) → length a ≡ length b → a ++ x ≡ b ++ y → a ≡ b
cut_one [] [] x y l e = refl
cut_one [] (c ∷ b) x y l e = absurd (omega (arith, l))
cut_one (c ∷ a) [] x y l e = absurd (omega (arith, l))
cut_one (c ∷ a) (d ∷ b) x y l e =
    let p : a ++ x ≡ b ++ y = cc in
    let h : c ≡ d = cc in
    let r : a ≡ b = cut_one a b x y (omega (arith, l)) p in
    cc

behind_long : (at : Option Place) (i : Item) (items : List Item) (bytes rest : List ℕ) → Reads at (i ∷ items) bytes rest → 0 < length bytes
behind_long None i items bytes rest r = absurd r
behind_long (Some at) i items bytes rest r = omega (arith, ap length r.2, length-append (packet_at at i) r.0, length_sealed at.sealing at.number i)

-- behind the good ones a bad one stands
ends_before_bad : (side : Side) (j : JudgedRecord) (xs : List FinishedExchange) (fed rest : List ℕ) (items : List Item) (count : ℕ) → wire_in side j ≡ id_line (config_in side j).id ++ fed → Reads (first_of side xs) items fed rest → IsFirstBad side j xs items count → EndsGood side j xs count
unfolding good_front
ends_before_bad side j xs fed rest items count l r h =
    let cut = reads_split (first_of side xs) h.good (h.bad ∷ h.more) fed rest (subst (λ t. Reads (first_of side xs) t fed rest) h.items_are r) in
    let less = reads_less (first_of side xs) h.good fed cut.0 cut.1 in
    let all = reads_less (first_of side xs) items fed rest r in
    let parts : items ≡ (h.good ++ h.bad ∷ []) ++ h.more = h.items_are ∙ sym (append_assoc h.good (h.bad ∷ []) h.more) in
    let base : EndsGood side j xs (length h.good) = record {
      good = good_front side j xs fed cut.0 h.good l less h.padded h.fits;
      follow = front_follows side j fed cut.0 less.0 l less.1 (behind_long (place_behind (first_of side xs) h.good) h.bad h.more cut.0 rest cut.2);
      no_more = λ g.
          let same = fed_of (id_line (config_in side j).id) g.good.reads.0 g.front.0 g.bytes (wire_in side j) fed g.good.reads.1 g.front.1 l in
          let size : length g.items ≤ length items = omega (arith, g.many, ap length h.items_are, length-append h.good (h.bad ∷ h.more)) in
          let f = reads_fronts (first_of side xs) g.items items g.good.reads.0 all.0 g.front.0 rest g.good.reads.2 all.2 (same ∙ all.1) size in
          let here : g.items ≡ h.good ++ h.bad ∷ [] = cut_one g.items (h.good ++ h.bad ∷ []) f.0.0 h.more (omega (arith, g.many, length-append h.good (h.bad ∷ []))) (f.0.1 ∙ parts) in
          h.refused (subst (ArePadded (first_of side xs)) here g.good.padded) (subst (FitsIn side j) here (good_fits side j xs g.bytes g.items g.good));
    } in
    subst (EndsGood side j xs) h.many base

-- without the version line nothing is good
none_good : (side : Side) (j : JudgedRecord) (xs : List FinishedExchange) → ((packets : List ℕ) → wire_in side j ≡ id_line (config_in side j).id ++ packets → ⊥) → AreGoodPackets side j xs 0 → ⊥
none_good side j xs never g = never (g.good.reads.0 ++ g.front.0) (sym g.front.1 ∙ (ap (λ t. t ++ g.front.0) g.good.reads.1 ∙ append_assoc (id_line (config_in side j).id) g.good.reads.0 g.front.0))

-- ---- of a reader

pub bad_line : (side : Side) (j : JudgedRecord) (xs : List FinishedExchange) (r : WireReader) → r.line ≡ None → IsRead side j xs r → IsBadBehind side j xs 0
bad_line side j xs r e h =
    let none : IsFed side j None h.read.fed = subst (λ l. IsFed side j l h.read.fed) e h.read.fed_is in
    inl (none_good side j xs none.1, refl)

line_of : (side : Side) (j : JudgedRecord) (line : Option ℕ) (fed : List ℕ) → (line ≡ None → ⊥) → IsFed side j line fed → wire_in side j ≡ id_line (config_in side j).id ++ fed
line_of side j None fed n h = absurd (n refl)
line_of side j (Some line) fed n h = h

pub bad_packet : (side : Side) (j : JudgedRecord) (xs : List FinishedExchange) (r : WireReader) (count : ℕ) → (r.line ≡ None → ⊥) → r.bad ≡ Some count → IsRead side j xs r → IsBadBehind side j xs count
bad_packet side j xs r count n e h =
    let judged : IsFirstBad side j xs h.items count = subst (AreJudged side j xs h.items r.judge) e h.read.judged in
    inr (ends_before_bad side j xs h.read.fed h.rest h.items count (line_of side j r.line h.read.fed n h.read.fed_is) h.read.reads judged)

pub bad_rest : (side : Side) (j : JudgedRecord) (xs : List FinishedExchange) (r : WireReader) → (r.line ≡ None → ⊥) → r.bad ≡ None → 0 < length r.reader.waiting → IsRead side j xs r → IsBadBehind side j xs (length r.packets.items)
bad_rest side j xs r n e w h =
    let judged : AreGoodSoFar side j xs h.items r.judge = subst (AreJudged side j xs h.items r.judge) e h.read.judged in
    let long : 0 < length h.rest = omega (arith, h.read.waits, w) in
    inr (subst (EndsGood side j xs) (kept_count (first_of side xs) (length (id_line (config_in side j).id)) h.items r.packets.items h.read.kept)
    (ends_behind_all side j xs h.read.fed h.rest h.items (line_of side j r.line h.read.fed n h.read.fed_is) h.read.reads h.ends long judged.padded judged.taken.fits))

pub all_good : (side : Side) (j : JudgedRecord) (xs : List FinishedExchange) (r : WireReader) → (r.line ≡ None → ⊥) → r.bad ≡ None → length r.reader.waiting ≡ 0 → IsRead side j xs r → IsKeptWire side j xs r.packets.items
all_good side j xs r n e w h =
    let judged : AreGoodSoFar side j xs h.items r.judge = subst (AreJudged side j xs h.items r.judge) e h.read.judged in
    let line = line_of side j r.line h.read.fed n h.read.fed_is in
    let none : h.rest ≡ [] = none_left h.rest (sym h.read.waits ∙ w) in
    record {
      items = h.items;
      good = subst (λ b. IsWireOf side j xs b h.items) (sym line) (wire_of side j xs h.read.fed h.items (subst (Reads (first_of side xs) h.items h.read.fed) none h.read.reads) judged.padded judged.taken.fits);
      are = h.read.kept;
    }
