-- Where a reader of one wire stands behind each of its steps.
use Rattle.std.proofs.Common.{◌≡◌, ◌⊎◌, inl, inr, ℕ, zero, suc, ◌+◌, ◌-◌, ◌<◌, ◌≤◌, List, [], ◌∷◌, ◌++◌, length, map, take, drop, Bool, true, false, Option, Some, None, if◌then◌else◌, refl, sym, ◌∙◌, ap, subst, arith, append_assoc, length-append}
use Rattle.std.proofs.Math.Seq.{take-append_seam, drop-append_seam}
use Rattle.std.proofs.lemmas.List.{map-append}
use Rattle.ssh_packet.proofs.Lemmas.{length_sealed}
use Rattle.ssh_packet.specs.Keys.{opening_of, sealing_of}
use Rattle.ssh_packet.specs.Sealing.{Item, Clear, IsAdmissible, IsPadded, moved_on, next_number, sealed_packet}
use Rattle.ssh_packet.specs.Stream.{IsEnd, Opening, Place, Reads, first_place, is_newkeys, kept_number, packet_at, place_after, place_behind}
use Rattle.ssh_wire.specs.Lines.{id_line}
use Rattle.ssh_wire.specs.declared.side.Side.{Side}
use Rattle.ssh_kex.specs.Exchange.{outgoing}
use Rattle.ssh_kex.specs.Messages.{is_gex}
use Rattle.ssh_kex.specs.declared.exchange.FinishedExchange.{FinishedExchange}
use Rattle.ssh_rules.proofs.Lemmas.{fault_ends, part_ends, ends_snoc_newkeys, ends_snoc_plain}
use Rattle.ssh_rules.specs.MessageTypes.{type_of}
use Rattle.ssh_rules.specs.Wire.{ArePadded, epochs_ended}
use Rattle.ssh_record.proofs.Lemmas.{reads_less}
use Rattle.ssh_record.specs.Exchanges.{epoch_items}
use Rattle.ssh_record.specs.Packets.{host_recorded}
use Rattle.ssh_record.specs.Recordings.{JudgedRecord, config_in, wire_in}
use Rattle.ssh_blocks.specs.Blocks.{HasSeen}
use Rattle.ssh_blocks.specs.Judging.{HasTaken}
use Rattle.ssh_blocks.specs.declared.judge.PacketJudge.{PacketJudge}
use Rattle.ssh_transcript.specs.Reading.{AreGoodSoFar, AreJudged, AreKept, AreKeptOf, FindsNone, FitsIn, HasEnded, HasOpened, HasRead, HasSeenIn, AreKeysOf, IsFed, IsFirstBad, Keeps, TakesKeys, IsOpen, IsOver, IsReaderOf, Opens, OpensNone, StandsIn, TurnsTo, first_of, is_later, packet_of, turn_behind}
use Rattle.ssh_transcript.specs.declared.direction.Direction.{Direction}
use Rattle.ssh_transcript.specs.declared.packet.Packet.{Packet}
use Rattle.ssh_transcript.specs.declared.wire.Turn.{Turn}
use Rattle.ssh_transcript.specs.declared.wire.WireReader.{WireReader}
use Rattle.ssh_transcript.proofs.Padded.{alike_on, alike_same}
use Rattle.ssh_transcript.proofs.Places.{after_packet, behind_more, ends_last, ends_wider, reads_on, reads_within, spot}
use Rattle.ssh_transcript.proofs.Wider.{has_read_wider}

choice : (b : Bool) → (b ≡ true) ⊎ (b ≡ false)
choice true = inl refl
choice false = inr refl

-- ---- one packet more

ends_true : (i : Item) (items : List Item) → is_newkeys i ≡ true → epochs_ended (i ∷ items) ≡ 1 + epochs_ended items
ends_true i items e = ap (λ b. if b then 1 + epochs_ended items else epochs_ended items) e

ends_false : (i : Item) (items : List Item) → is_newkeys i ≡ false → epochs_ended (i ∷ items) ≡ epochs_ended items
ends_false i items e = ap (λ b. if b then 1 + epochs_ended items else epochs_ended items) e

same_both : {A : Type 0} (b : Bool) (x : A) → (if b then x else x) ≡ x
same_both true x = refl
same_both false x = refl

pub epoch_more : (k : ℕ) (items : List Item) (i : Item) → epochs_ended items ≡ k → epoch_items k (items ++ i ∷ []) ≡ epoch_items k items ++ i ∷ []
epoch_more zero [] i e = same_both (is_newkeys i) (i ∷ [])
epoch_more (suc k) [] i e = absurd (omega (arith, e))
epoch_more zero (j ∷ items) i e = elim (choice (is_newkeys j)) [
  | inl t ↦ absurd (omega (arith, e, ends_true j items t))
  | inr f ↦ ap (λ b. if b then j ∷ [] else j ∷ epoch_items zero (items ++ i ∷ [])) f
      ∙ (ap (λ t. j ∷ t) (epoch_more zero items i (sym (ends_false j items f) ∙ e)) ∙ ap (λ b. (if b then j ∷ [] else j ∷ epoch_items zero items) ++ i ∷ []) (sym f))
]
epoch_more (suc k) (j ∷ items) i e = elim (choice (is_newkeys j)) [
  | inl t ↦ let m : epochs_ended items ≡ k = omega (arith, e, ends_true j items t) in
      ap (λ b. if b then epoch_items k (items ++ i ∷ []) else epoch_items (suc k) (items ++ i ∷ [])) t
      ∙ (epoch_more k items i m ∙ ap (λ b. (if b then epoch_items k items else epoch_items (suc k) items) ++ i ∷ []) (sym t))
  | inr f ↦ ap (λ b. if b then epoch_items k (items ++ i ∷ []) else epoch_items (suc k) (items ++ i ∷ [])) f
      ∙ (epoch_more (suc k) items i (sym (ends_false j items f) ∙ e) ∙ ap (λ b. (if b then epoch_items k items else epoch_items (suc k) items) ++ i ∷ []) (sym f))
]

one_lower : (k : ℕ) (items : List Item) (i : Item) → suc (epochs_ended items) ≡ k → ((q : ℕ) → epochs_ended items ≡ q → epoch_items (suc q) (items ++ i ∷ []) ≡ []) → epoch_items k (items ++ i ∷ []) ≡ []
one_lower zero items i m f = absurd (omega (arith, m))
one_lower (suc k) items i m f = f k (omega (arith, m))

-- behind the packet that ends an epoch nothing stands yet
pub epoch_behind : (k : ℕ) (items : List Item) (i : Item) → epochs_ended items ≡ k → is_newkeys i ≡ true → epoch_items (suc k) (items ++ i ∷ []) ≡ []
epoch_behind zero [] i e n = ap (λ b. if b then epoch_items zero [] else epoch_items 1 []) n
epoch_behind (suc k) [] i e n = absurd (omega (arith, e))
epoch_behind k (j ∷ items) i e n = elim (choice (is_newkeys j)) [
  | inl t ↦ ap (λ b. if b then epoch_items k (items ++ i ∷ []) else epoch_items (suc k) (items ++ i ∷ [])) t ∙ one_lower k items i (omega (arith, e, ends_true j items t)) (λ q m. epoch_behind q items i m n)
  | inr f ↦ ap (λ b. if b then epoch_items k (items ++ i ∷ []) else epoch_items (suc k) (items ++ i ∷ [])) f ∙ epoch_behind k items i (sym (ends_false j items f) ∙ e) n
]

some_same : (p q : Place) → Some p ≡ Some q → p ≡ q
some_same p q e = cc

none_same : (q : Place) → None ≡ Some q → ⊥
none_same q e = cc

kept_more : (at : Option Place) (q : Place) (start : ℕ) (items : List Item) (i : Item) (kept : List Packet) (p : Packet) (bytes before rest : List ℕ) → place_behind at items ≡ Some q → Reads at items bytes before → before ≡ packet_at q i ++ rest → p.message_type ≡ type_of i → p.length ≡ length i.payload → p.end + length rest ≡ start + length bytes → AreKept at start items kept → AreKept at start (items ++ i ∷ []) (kept ++ p ∷ [])
kept_more None q start [] i kept p bytes before rest e r b t l n h = absurd (none_same q e)
kept_more (Some at) q start [] i [] p bytes before rest e r b t l n h =
    let same = some_same at q e in
    (t, l, (let o : p.end ≡ start + length (packet_at q i) = omega (arith, n, ap length r, ap length b, length-append (packet_at q i) rest) in o ∙ ap (λ (x : Place). start + length (packet_at x i)) (sym same)), tt)
kept_more (Some at) q start [] i (k ∷ kept) p bytes before rest e r b t l n h = absurd h
kept_more at q start (j ∷ items) i [] p bytes before rest e r b t l n h = absurd h
kept_more None q start (j ∷ items) i (k ∷ kept) p bytes before rest e r b t l n h = absurd h
kept_more (Some at) q start (j ∷ items) i (k ∷ kept) p bytes before rest e r b t l n h =
    (h.0, h.1, h.2, kept_more (place_after at j) q k.end items i kept p r.0 before rest e r.3 b t l (omega (arith, n, h.2, ap length r.2, length-append (packet_at at j) r.0)) h.3)

pub kept_count : (at : Option Place) (start : ℕ) (items : List Item) (kept : List Packet) → AreKept at start items kept → length items ≡ length kept
kept_count at start [] [] h = refl
kept_count at start [] (k ∷ kept) h = absurd h
kept_count at start (i ∷ items) [] h = absurd h
kept_count None start (i ∷ items) (k ∷ kept) h = absurd h
kept_count (Some at) start (i ∷ items) (k ∷ kept) h = ap suc (kept_count (place_after at i) k.end items kept h.3)

-- ---- what was fed

fed_within : (side : Side) (j : JudgedRecord) (line : Option ℕ) (fed : List ℕ) → IsFed side j line fed → length fed ≤ length (wire_in side j)
fed_within side j None fed h = omega (arith, ap length h.0)
fed_within side j (Some line) fed h = omega (arith, ap length h, length-append (id_line (config_in side j).id) fed)

line_there : (side : Side) (j : JudgedRecord) (line : Option ℕ) (fed : List ℕ) → IsFed side j line fed → 0 < length fed → wire_in side j ≡ id_line (config_in side j).id ++ fed
line_there side j None fed h l = absurd (omega (arith, l, ap length h.0))
line_there side j (Some line) fed h l = h

-- what waits is a part of the wire
pub open_within : (side : Side) (j : JudgedRecord) (xs : List FinishedExchange) (r : WireReader) → IsOpen side j xs r → length r.reader.waiting ≤ length r.wire.now
open_within side j xs r o = omega (arith, reads_within (first_of side xs) o.items o.read.fed r.reader.waiting o.read.reads, fed_within side j r.line o.read.fed o.read.fed_is, ap length o.is_of.wire_is)

-- ---- a packet is opened

pub opened : (side : Side) (j : JudgedRecord) (xs : List FinishedExchange) (start : ℕ) (old new : WireReader) (i : Item) → start + length old.reader.waiting ≡ length old.wire.now → IsOpen side j xs old → Opens old new i → HasOpened side j xs start new
opened side j xs start old new i begins o h =
    let key : opening_of old.direction.opening ≡ o.place.sealing = sym o.stands.opening in
    let bytes : old.reader.waiting ≡ packet_at o.place i ++ new.reader.waiting = h.front.bytes ∙ (ap (λ s. sealed_packet s old.reader.number i ++ new.reader.waiting) key ∙ ap (λ n. sealed_packet o.place.sealing n i ++ new.reader.waiting) (sym o.stands.number)) in
    let within = reads_within (first_of side xs) o.items o.read.fed old.reader.waiting o.read.reads in
    let long : 0 < length o.read.fed = omega (arith, within, ap length bytes, length-append (packet_at o.place i) new.reader.waiting, length_sealed o.place.sealing o.place.number i) in
    let line : new.line ≡ old.line = ap (λ (r : WireReader). r.line) h.same in
    let fed : IsFed side j new.line o.read.fed = subst (λ l. IsFed side j l o.read.fed) (sym line) o.read.fed_is in
    record {
      items = o.items;
      item = i;
      fed = o.read.fed;
      before = old.reader.waiting;
      place = o.place;
      is_of = record {
        wire_is = ap (λ (r : WireReader). r.wire.now) h.same ∙ o.is_of.wire_is;
        side_is = ap (λ (r : WireReader). r.side) h.same ∙ o.is_of.side_is;
        kind_is = ap (λ (r : WireReader). r.kind) h.same ∙ o.is_of.kind_is;
      };
      fed_is = fed;
      line_is = line_there side j new.line o.read.fed fed long;
      reads = o.read.reads;
      at = o.at;
      admissible = subst (λ s. IsAdmissible s i) key h.front.admissible;
      bytes = bytes;
      begins = begins ∙ ap length o.is_of.wire_is;
      handed = h.front.handed;
      opening = ap (λ s. moved_on s i) (sym key) ∙ sym h.front.moved;
      alike = subst (λ s. Rattle.ssh_transcript.specs.Alike.AreAlike o.place.sealing s) (ap sealing_of (sym h.key)) o.stands.alike;
      number = ap next_number o.stands.number ∙ sym h.front.number;
      last = o.stands.last;
      live = h.front.live;
      many = o.many;
      kept = subst (AreKeptOf side j xs o.items) (sym (ap (λ (r : WireReader). r.packets.items) h.same)) o.read.kept;
      judged = subst (λ (r : WireReader). AreJudged side j xs o.items r.judge r.bad) (sym h.same) o.read.judged;
      seen = subst (λ b. HasSeen side (is_gex j.names.kex) (is_later xs) (epoch_items (length xs) o.items) b) (sym (ap (λ (r : WireReader). r.block) h.same)) o.seen;
    }

-- none is
none_ends : (place : Place) (old : WireReader) → StandsIn place old.direction old.reader → FindsNone old.reader (opening_of old.direction.opening) → IsEnd (Some place) old.reader.waiting
none_ends place old s (inl dead) = absurd (let z : true ≡ false = sym dead ∙ s.live in cc)
none_ends place old s (inr (inl part)) = part_ends place old.reader.waiting (ap (λ k. Rattle.ssh_packet.specs.Front.front_of k place.number old.reader.waiting) s.opening ∙ (ap (λ n. Rattle.ssh_packet.specs.Front.front_of (opening_of old.direction.opening) n old.reader.waiting) s.number ∙ part))
none_ends place old s (inr (inr fault)) = fault_ends place old.reader.waiting fault.0 (ap (λ k. Rattle.ssh_packet.specs.Front.front_of k place.number old.reader.waiting) s.opening ∙ (ap (λ n. Rattle.ssh_packet.specs.Front.front_of (opening_of old.direction.opening) n old.reader.waiting) s.number ∙ fault.1))

pub is_over : (side : Side) (j : JudgedRecord) (xs : List FinishedExchange) (old new : WireReader) → IsOpen side j xs old → OpensNone old new → IsOver side j xs new
is_over side j xs old new o h = record {
  items = o.items;
  rest = old.reader.waiting;
  read = record {
    fed = o.read.fed;
    fed_is = subst (λ l. IsFed side j l o.read.fed) (sym (ap (λ (r : WireReader). r.line) h.same)) o.read.fed_is;
    reads = o.read.reads;
    waits = h.nothing.waits;
    kept = subst (AreKeptOf side j xs o.items) (sym (ap (λ (r : WireReader). r.packets.items) h.same)) o.read.kept;
    judged = subst (λ (r : WireReader). AreJudged side j xs o.items r.judge r.bad) (sym h.same) o.read.judged;
  };
  ends = subst (λ q. IsEnd q old.reader.waiting) (sym o.at) (none_ends o.place old o.stands h.nothing.none);
  many = o.many;
}

-- ---- it is judged

-- the bytes of the packet that was opened
pub opened_bytes : (side : Side) (j : JudgedRecord) (xs : List FinishedExchange) (start : ℕ) (r : WireReader) → (o : HasOpened side j xs start r) → take (length r.wire.now - length r.reader.waiting - start) (drop start r.wire.now) ≡ packet_at o.place o.item
opened_bytes side j xs start r o =
    let line = id_line (config_in side j).id in
    let p = packet_at o.place o.item in
    let less = reads_less (first_of side xs) o.items o.fed o.before o.reads in
    let whole : r.wire.now ≡ (line ++ less.0) ++ (p ++ r.reader.waiting) = o.is_of.wire_is ∙ (o.line_is ∙ (ap (λ t. line ++ t) (less.1 ∙ ap (λ t. less.0 ++ t) o.bytes) ∙ sym (append_assoc line less.0 (p ++ r.reader.waiting)))) in
    let size : length r.wire.now ≡ length (line ++ less.0) + (length p + length r.reader.waiting) = ap length whole ∙ (length-append (line ++ less.0) (p ++ r.reader.waiting) ∙ ap (λ n. length (line ++ less.0) + n) (length-append p r.reader.waiting)) in
    let waited : length o.before ≡ length p + length r.reader.waiting = ap length o.bytes ∙ length-append p r.reader.waiting in
    let from : start ≡ length (line ++ less.0) = omega (arith, size, waited, o.begins, ap length o.is_of.wire_is) in
    let many : length r.wire.now - length r.reader.waiting - start ≡ length p = omega (arith, size, from) in
    ap (λ n. take n (drop start r.wire.now)) many
    ∙ (ap (λ n. take (length p) (drop n r.wire.now)) from
    ∙ (ap (λ t. take (length p) (drop (length (line ++ less.0)) t)) whole
    ∙ (ap (take (length p)) (drop-append_seam (line ++ less.0) (p ++ r.reader.waiting)) ∙ take-append_seam p r.reader.waiting)))

pub opened_within : (side : Side) (j : JudgedRecord) (xs : List FinishedExchange) (start : ℕ) (r : WireReader) → HasOpened side j xs start r → start + length r.reader.waiting ≤ length r.wire.now
opened_within side j xs start r o = omega (arith, o.begins, ap length o.is_of.wire_is, ap length o.bytes, length-append (packet_at o.place o.item) r.reader.waiting)

padded_more : (at : Option Place) (q : Place) (items : List Item) (i : Item) → place_behind at items ≡ Some q → IsPadded q.sealing i → ArePadded at items → ArePadded at (items ++ i ∷ [])
padded_more None q [] i e p h = absurd (none_same q e)
padded_more (Some at) q [] i e p h = (subst (λ (x : Place). IsPadded x.sealing i) (sym (some_same at q e)) p, tt)
padded_more None q (j ∷ items) i e p h = absurd h
padded_more (Some at) q (j ∷ items) i e p h = (h.0, padded_more (place_after at j) q items i e p h.1)

padded_last : (at : Option Place) (q : Place) (items : List Item) (i : Item) → place_behind at items ≡ Some q → ArePadded at (items ++ i ∷ []) → IsPadded q.sealing i
padded_last None q [] i e h = absurd h
padded_last (Some at) q [] i e h = subst (λ (x : Place). IsPadded x.sealing i) (some_same at q e) h.0
padded_last None q (j ∷ items) i e h = absurd h
padded_last (Some at) q (j ∷ items) i e h = padded_last (place_after at j) q items i e h.1

-- a packet that is padded and that the judge takes is good
pub good_on : (side : Side) (j : JudgedRecord) (xs : List FinishedExchange) (start : ℕ) (r : WireReader) (judge : PacketJudge) → (o : HasOpened side j xs start r) → IsPadded o.place.sealing o.item → HasTaken side (config_in side j) (is_gex j.names.kex) (host_recorded side j) j.recording.steps (o.items ++ o.item ∷ []) judge → AreGoodSoFar side j xs o.items r.judge → AreGoodSoFar side j xs (o.items ++ o.item ∷ []) judge
good_on side j xs start r judge o p t h = record { padded = padded_more (first_of side xs) o.place o.items o.item o.at p h.padded; taken = t }

pub not_padded : (side : Side) (j : JudgedRecord) (xs : List FinishedExchange) (start : ℕ) (r : WireReader) → (o : HasOpened side j xs start r) → (IsPadded o.place.sealing o.item → ⊥) → ArePadded (first_of side xs) (o.items ++ o.item ∷ []) → ⊥
not_padded side j xs start r o n h = n (padded_last (first_of side xs) o.place o.items o.item o.at h)

-- where it isn't, it is the first bad one
pub first_bad_is : (side : Side) (j : JudgedRecord) (xs : List FinishedExchange) (start count : ℕ) (r : WireReader) → (o : HasOpened side j xs start r) → AreGoodSoFar side j xs o.items r.judge → count ≡ length r.packets.items → (ArePadded (first_of side xs) (o.items ++ o.item ∷ []) → FitsIn side j (o.items ++ o.item ∷ []) → ⊥) → IsFirstBad side j xs (o.items ++ o.item ∷ []) count
first_bad_is side j xs start count r o h c never = record {
  good = o.items;
  bad = o.item;
  more = [];
  items_are = refl;
  many = kept_count (first_of side xs) _ o.items r.packets.items o.kept ∙ sym c;
  padded = h.padded;
  fits = h.taken.fits;
  refused = never;
}

pub bad_stays : (side : Side) (j : JudgedRecord) (xs : List FinishedExchange) (items : List Item) (i : Item) (count : ℕ) → IsFirstBad side j xs items count → IsFirstBad side j xs (items ++ i ∷ []) count
bad_stays side j xs items i count h = record {
  good = h.good;
  bad = h.bad;
  more = h.more ++ i ∷ [];
  items_are = ap (λ t. t ++ i ∷ []) h.items_are ∙ append_assoc h.good (h.bad ∷ h.more) (i ∷ []);
  many = h.many;
  padded = h.padded;
  fits = h.fits;
  refused = h.refused;
}

-- ---- and kept

read_more : (side : Side) (j : JudgedRecord) (xs : List FinishedExchange) (start : ℕ) (old new : WireReader) → (o : HasOpened side j xs start old) → Keeps old new → AreJudged side j xs (o.items ++ o.item ∷ []) new.judge new.bad → HasRead side j xs (o.items ++ o.item ∷ []) new.reader.waiting new
read_more side j xs start old new o k judged =
    let line = id_line (config_in side j).id in
    let p = packet_of old.reader.handed (length old.wire.now - length old.reader.waiting) in
    let waiting : old.reader.waiting ≡ new.reader.waiting = sym (ap (λ (r : WireReader). r.reader.waiting) k.same) in
    let bytes : o.before ≡ packet_at o.place o.item ++ new.reader.waiting = o.bytes ∙ ap (λ w. packet_at o.place o.item ++ w) waiting in
    let within = opened_within side j xs start old o in
    let place : p.end + length new.reader.waiting ≡ length line + length o.fed = omega (arith, within, ap length waiting, ap length o.is_of.wire_is, ap length o.line_is, length-append line o.fed) in
    record {
      fed = o.fed;
      fed_is = subst (λ l. IsFed side j l o.fed) (sym (ap (λ (r : WireReader). r.line) k.same)) o.fed_is;
      reads = reads_on (first_of side xs) o.place o.items o.item o.fed o.before new.reader.waiting o.at o.admissible o.reads bytes;
      waits = refl;
      kept = subst (AreKeptOf side j xs (o.items ++ o.item ∷ [])) (sym k.listed)
          (kept_more (first_of side xs) o.place (length line) o.items o.item old.packets.items p o.fed o.before new.reader.waiting o.at o.reads bytes
          (ap Rattle.ssh_packet.specs.Stream.message_type o.handed) (ap length o.handed) place o.kept);
      judged = judged;
    }

reader_stays : (side : Side) (j : JudgedRecord) (old new : WireReader) → Keeps old new → IsReaderOf side j old → IsReaderOf side j new
reader_stays side j old new k h = record {
  wire_is = ap (λ (r : WireReader). r.wire.now) k.same ∙ h.wire_is;
  side_is = ap (λ (r : WireReader). r.side) k.same ∙ h.side_is;
  kind_is = ap (λ (r : WireReader). r.kind) k.same ∙ h.kind_is;
}

seen_more : (side : Side) (j : JudgedRecord) (xs : List FinishedExchange) (start : ℕ) (old new : WireReader) → (o : HasOpened side j xs start old) → HasSeen side (is_gex j.names.kex) (is_later xs) (epoch_items (length xs) o.items ++ o.item ∷ []) new.block → HasSeenIn side j xs (o.items ++ o.item ∷ []) new
seen_more side j xs start old new o h = subst (λ t. HasSeen side (is_gex j.names.kex) (is_later xs) t new.block) (sym (epoch_more (length xs) o.items o.item o.many)) h

turned : (side : Side) (j : JudgedRecord) (xs : List FinishedExchange) (start : ℕ) (old new : WireReader) → (o : HasOpened side j xs start old) → Keeps old new → AreJudged side j xs (o.items ++ o.item ∷ []) new.judge new.bad
    → HasSeen side (is_gex j.names.kex) (is_later xs) (epoch_items (length xs) o.items ++ o.item ∷ []) new.block → (b : Bool) → is_newkeys o.item ≡ b → TurnsTo (turn_behind b) side j xs new
turned side j xs start old new o k judged seen true n =
    let number : next_number o.place.number ≡ new.reader.number = o.number ∙ sym (ap (λ (r : WireReader). r.reader.number) k.same) in
    record {
      items = o.items ++ o.item ∷ [];
      is_of = reader_stays side j old new k o.is_of;
      read = read_more side j xs start old new o k judged;
      ended = ends_last (first_of side xs) o.place o.items o.item o.at o.last n;
      goes_on = λ w. ends_wider Clear 0 (map (outgoing side) xs) w o.items o.item o.place o.at o.last n ∙ ap (λ m. Some (spot w.sealing (kept_number w.strict m) [])) number;
      live = ap (λ (r : WireReader). r.reader.failed) k.same ∙ o.live;
      many = (let e : epochs_ended (o.items ++ o.item ∷ []) ≡ suc (length xs) = omega (arith, ends_snoc_newkeys o.items o.item n, o.many) in e);
      behind = epoch_behind (length xs) o.items o.item o.many n;
      seen = seen_more side j xs start old new o seen;
    }
turned side j xs start old new o k judged seen false n =
    let place = spot (moved_on o.place.sealing o.item) (next_number o.place.number) o.place.openings in
    record {
      items = o.items ++ o.item ∷ [];
      is_of = reader_stays side j old new k o.is_of;
      read = read_more side j xs start old new o k judged;
      place = place;
      at = behind_more (first_of side xs) o.place o.items o.item o.at ∙ after_packet o.place o.item n;
      stands = record {
        opening = o.opening ∙ sym (ap (λ (r : WireReader). opening_of r.direction.opening) k.same);
        alike = subst (λ s. Rattle.ssh_transcript.specs.Alike.AreAlike (moved_on o.place.sealing o.item) s) (sym (ap (λ (r : WireReader). sealing_of r.direction.sealing) k.same)) (alike_on o.place.sealing (sealing_of old.direction.sealing) o.item o.alike);
        number = o.number ∙ sym (ap (λ (r : WireReader). r.reader.number) k.same);
        last = o.last;
        live = ap (λ (r : WireReader). r.reader.failed) k.same ∙ o.live;
      };
      many = ends_snoc_plain o.items o.item n ∙ o.many;
      seen = seen_more side j xs start old new o seen;
    }

pub kept_turn : (side : Side) (j : JudgedRecord) (xs : List FinishedExchange) (start : ℕ) (old new : WireReader) (t : Turn) → (o : HasOpened side j xs start old) → Keeps old new → AreJudged side j xs (o.items ++ o.item ∷ []) new.judge new.bad
    → ((items : List Item) → HasSeen side (is_gex j.names.kex) (is_later xs) items old.block → HasSeen side (is_gex j.names.kex) (is_later xs) (items ++ o.item ∷ []) new.block) → t ≡ turn_behind (is_newkeys o.item) → TurnsTo t side j xs new
kept_turn side j xs start old new t o k judged seen e =
    subst (λ x. TurnsTo x side j xs new) (sym e) (turned side j xs start old new o k judged (seen (epoch_items (length xs) o.items) o.seen) (is_newkeys o.item) refl)

-- ---- the next epoch

later_is : (xs : List FinishedExchange) (x : FinishedExchange) → is_later (xs ++ x ∷ []) ≡ true
later_is [] x = refl
later_is (y ∷ xs) x = refl

pub next_epoch : (side : Side) (j : JudgedRecord) (xs : List FinishedExchange) (x : FinishedExchange) (direction : Direction) (strict : Bool) (old new : WireReader) → HasEnded side j xs old → strict ≡ x.names.strict_kex → AreKeysOf side x direction → TakesKeys old direction strict new → IsOpen side j (xs ++ x ∷ []) new
next_epoch side j xs x direction strict old new e g d t =
    let wider = has_read_wider side j xs x e.items old.reader.waiting old e.read in
    let s = (outgoing side x).sealing in
    let many : length (xs ++ x ∷ []) ≡ suc (length xs) = (let m : length (xs ++ x ∷ []) ≡ suc (length xs) = omega (arith, length-append xs (x ∷ [])) in m) in
    let none : epoch_items (length (xs ++ x ∷ [])) e.items ≡ [] = ap (λ k. epoch_items k e.items) many ∙ e.behind in
    let at : place_behind (first_of side (xs ++ x ∷ [])) e.items ≡ Some (spot s (kept_number x.names.strict_kex old.reader.number) []) = ap (λ w. place_behind (Some (first_place w)) e.items) (map-append (outgoing side) xs (x ∷ [])) ∙ e.goes_on (outgoing side x) in
    let seen : HasSeen side (is_gex j.names.kex) (is_later (xs ++ x ∷ [])) (epoch_items (length (xs ++ x ∷ [])) e.items) new.block =
    subst (λ l. HasSeen side (is_gex j.names.kex) l (epoch_items (length (xs ++ x ∷ [])) e.items) new.block) (sym (later_is xs x))
    (subst (λ i. HasSeen side (is_gex j.names.kex) true i new.block) (sym none)
    (subst (λ k. HasSeen side k true [] new.block) e.is_of.kind_is (subst (λ d. HasSeen d old.kind true [] new.block) e.is_of.side_is t.seen))) in
    record {
      items = e.items;
      is_of = record {
        wire_is = ap (λ (r : WireReader). r.wire.now) t.same ∙ e.is_of.wire_is;
        side_is = ap (λ (r : WireReader). r.side) t.same ∙ e.is_of.side_is;
        kind_is = ap (λ (r : WireReader). r.kind) t.same ∙ e.is_of.kind_is;
      };
      read = record {
        fed = wider.fed;
        fed_is = subst (λ l. IsFed side j l wider.fed) (sym (ap (λ (r : WireReader). r.line) t.same)) wider.fed_is;
        reads = subst (Reads (first_of side (xs ++ x ∷ [])) e.items wider.fed) (sym t.waiting) wider.reads;
        waits = refl;
        kept = subst (AreKeptOf side j (xs ++ x ∷ []) e.items) (sym (ap (λ (r : WireReader). r.packets.items) t.same)) wider.kept;
        judged = subst (λ (r : WireReader). AreJudged side j (xs ++ x ∷ []) e.items r.judge r.bad) (sym t.same) wider.judged;
      };
      place = spot s (kept_number x.names.strict_kex old.reader.number) [];
      at = at;
      stands = record {
        opening = sym d.opening ∙ sym (ap (λ (r : WireReader). opening_of r.direction.opening) t.same);
        alike = subst (Rattle.ssh_transcript.specs.Alike.AreAlike s) (sym d.sealing ∙ sym (ap (λ (r : WireReader). sealing_of r.direction.sealing) t.same)) (alike_same s);
        number = sym (t.number ∙ ap (λ b. kept_number b old.reader.number) g);
        last = refl;
        live = t.failed ∙ e.live;
      };
      many = e.many ∙ sym many;
      seen = seen;
    }
