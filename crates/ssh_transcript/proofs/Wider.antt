-- What was read and judged of a wire stays so under one exchange more.
use Rattle.std.proofs.Common.{◌≡◌, ℕ, ◌+◌, List, [], ◌∷◌, ◌++◌, length, Bool, true, false, Option, Some, None, if◌then◌else◌, refl, sym, ◌∙◌, ap, subst, append_assoc}
use Rattle.ssh_packet.proofs.Lemmas.{reads_split}
use Rattle.ssh_packet.specs.Sealing.{Item, IsPadded, moved_on, next_number, sealed_packet}
use Rattle.ssh_packet.specs.Stream.{Opening, Place, Reads, is_newkeys, kept_number, next_place, packet_at, place_after}
use Rattle.ssh_wire.specs.Lines.{id_line}
use Rattle.ssh_wire.specs.declared.side.Side.{Side}
use Rattle.ssh_kex.specs.declared.exchange.FinishedExchange.{FinishedExchange}
use Rattle.ssh_rules.specs.Wire.{ArePadded}
use Rattle.ssh_record.proofs.Lemmas.{AreWider, Begins, Wider, begins_outgoing, padded_wider, reads_wider}
use Rattle.ssh_record.specs.Recordings.{JudgedRecord, config_in}
use Rattle.ssh_blocks.specs.declared.judge.PacketJudge.{PacketJudge}
use Rattle.ssh_transcript.specs.Reading.{AreJudged, AreKept, HasRead, first_of}
use Rattle.ssh_transcript.specs.declared.packet.Packet.{Packet}
use Rattle.ssh_transcript.specs.declared.wire.WireReader.{WireReader}

opens_wider : (r w : List Opening) (m n : ℕ) → m ≡ n → Begins r w → AreWider (next_place r m) (next_place w n)
opens_wider [] w m n e h = tt
opens_wider (a ∷ r) [] m n e h = absurd h
opens_wider (a ∷ r) (b ∷ w) m n e h = record {
  sealing = ap (λ (o : Opening). o.sealing) h.0;
  number = ap (λ (o : Opening). kept_number o.strict m) h.0 ∙ ap (kept_number b.strict) e;
  openings = h.1;
}

wider_after : (p q : Place) (i : Item) → Wider p q → AreWider (place_after p i) (place_after q i)
wider_after p q i h = go (is_newkeys i) where
  go : (b : Bool) → AreWider (if b then next_place p.openings (next_number p.number) else Some (record { sealing = moved_on p.sealing i; number = next_number p.number; openings = p.openings })) (if b then next_place q.openings (next_number q.number) else Some (record { sealing = moved_on q.sealing i; number = next_number q.number; openings = q.openings }))
  go true = opens_wider p.openings q.openings (next_number p.number) (next_number q.number) (ap next_number h.number) h.openings
  go false = record { sealing = ap (λ s. moved_on s i) h.sealing; number = ap next_number h.number; openings = h.openings }

packet_wider : (p q : Place) (i : Item) → Wider p q → packet_at p i ≡ packet_at q i
packet_wider p q i h = ap (λ s. sealed_packet s p.number i) h.sealing ∙ ap (λ n. sealed_packet q.sealing n i) h.number

pub first_wider : (side : Side) (xs : List FinishedExchange) (x : FinishedExchange) → AreWider (first_of side xs) (first_of side (xs ++ x ∷ []))
first_wider side xs x = record { sealing = refl; number = refl; openings = begins_outgoing side xs (xs ++ x ∷ []) (x ∷ [], refl) }

-- what is padded under more exchanges is so under those under which it is read
padded_narrower : (p q : Option Place) (a : List Item) (x y : List ℕ) → AreWider p q → Reads p a x y → ArePadded q a → ArePadded p a
padded_narrower p q [] x y h r d = tt
padded_narrower None q (i ∷ a) x y h r d = absurd r
padded_narrower (Some p) None (i ∷ a) x y h r d = absurd h
padded_narrower (Some p) (Some q) (i ∷ a) x y h r d = (subst (λ s. IsPadded s i) (sym h.sealing) d.0, padded_narrower (place_after p i) (place_after q i) a r.0 y (wider_after p q i h) r.3 d.1)

kept_wider : (p q : Option Place) (start : ℕ) (a : List Item) (kept : List Packet) → AreWider p q → AreKept p start a kept → AreKept q start a kept
kept_wider p q start [] [] h r = tt
kept_wider p q start [] (k ∷ kept) h r = absurd r
kept_wider p q start (i ∷ a) [] h r = absurd r
kept_wider None q start (i ∷ a) (k ∷ kept) h r = absurd r
kept_wider (Some p) None start (i ∷ a) (k ∷ kept) h r = absurd h
kept_wider (Some p) (Some q) start (i ∷ a) (k ∷ kept) h r = (r.0, r.1, r.2 ∙ ap (λ b. start + length b) (packet_wider p q i h), kept_wider (place_after p i) (place_after q i) k.end a kept (wider_after p q i h) r.3)

judged_wider : (side : Side) (j : JudgedRecord) (xs : List FinishedExchange) (x : FinishedExchange) (items : List Item) (fed rest : List ℕ) (judge : PacketJudge) (bad : Option ℕ) → Reads (first_of side xs) items fed rest → AreJudged side j xs items judge bad → AreJudged side j (xs ++ x ∷ []) items judge bad
judged_wider side j xs x items fed rest judge None r h = record { padded = padded_wider (first_of side xs) (first_of side (xs ++ x ∷ [])) items (first_wider side xs x) h.padded; taken = h.taken }
judged_wider side j xs x items fed rest judge (Some n) r h =
    let parts : items ≡ (h.good ++ h.bad ∷ []) ++ h.more = h.items_are ∙ sym (append_assoc h.good (h.bad ∷ []) h.more) in
    let cut = reads_split (first_of side xs) (h.good ++ h.bad ∷ []) h.more fed rest (subst (λ t. Reads (first_of side xs) t fed rest) parts r) in
    record {
      good = h.good;
      bad = h.bad;
      more = h.more;
      items_are = h.items_are;
      many = h.many;
      padded = padded_wider (first_of side xs) (first_of side (xs ++ x ∷ [])) h.good (first_wider side xs x) h.padded;
      fits = h.fits;
      refused = λ d f. h.refused (padded_narrower (first_of side xs) (first_of side (xs ++ x ∷ [])) (h.good ++ h.bad ∷ []) fed cut.0 (first_wider side xs x) cut.1 d) f;
    }

pub has_read_wider : (side : Side) (j : JudgedRecord) (xs : List FinishedExchange) (x : FinishedExchange) (items : List Item) (rest : List ℕ) (r : WireReader) → HasRead side j xs items rest r → HasRead side j (xs ++ x ∷ []) items rest r
has_read_wider side j xs x items rest r h = record {
  fed = h.fed;
  fed_is = h.fed_is;
  reads = reads_wider (first_of side xs) (first_of side (xs ++ x ∷ [])) items h.fed rest (first_wider side xs x) h.reads;
  waits = h.waits;
  kept = kept_wider (first_of side xs) (first_of side (xs ++ x ∷ [])) (length (id_line (config_in side j).id)) items r.packets.items (first_wider side xs x) h.kept;
  judged = judged_wider side j xs x items h.fed rest r.judge r.bad h.reads h.judged;
}
