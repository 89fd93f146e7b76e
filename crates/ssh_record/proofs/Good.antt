-- Good packets: fewer of them are good too, and one place alone is that of the first bad one.
use Rattle.std.proofs.Common.{◌≡◌, inl, inr, ℕ, suc, ◌≤◌, List, [], ◌∷◌, ◌++◌, length, take, drop, map, refl, sym, ◌∙◌, ap, subst, arith, append_assoc, Option, Some, None, Bool}
use Rattle.std.proofs.lemmas.List.{append_cancel_left, length-take-le, take-append-drop}
use Rattle.std.proofs.lemmas.Bool.{cases_lt}
use Rattle.ssh_packet.proofs.Lemmas.{reads_split}
use Rattle.ssh_packet.specs.Sealing.{Item}
use Rattle.ssh_packet.specs.Stream.{Place, first_place, place_after}
use Rattle.ssh_wire.specs.Lines.{id_line}
use Rattle.ssh_wire.specs.declared.side.Side.{Side}
use Rattle.ssh_kex.specs.declared.config.Config.{Config}
use Rattle.ssh_kex.specs.declared.exchange.FinishedExchange.{FinishedExchange}
use Rattle.ssh_kex.specs.Exchange.{outgoing}
use Rattle.ssh_rules.proofs.Lemmas.{payloads_join, block_grows}
use Rattle.ssh_rules.specs.MessageTypes.{order}
use Rattle.ssh_rules.specs.Wire.{HasFront, HasForm, ArePadded, InBlocks, IsWire, exchange_block, carried_payloads}
use Rattle.ssh_record.specs.Recordings.{JudgedRecord, config_in, wire_in}
use Rattle.ssh_record.specs.Packets.{AreGoodPackets, EndsGood, IsBadBehind, IsGoodWire, IsWireOf}
use Rattle.ssh_record.proofs.Readings.{front_all, front_join, front_length, reads_fronts, reads_less}

-- ---- a front of a wire is a wire

padded_front : (at : Option Place) (a b : List Item) → ArePadded at (a ++ b) → ArePadded at a
padded_front at [] b h = tt
padded_front None (i ∷ a) b h = absurd h
padded_front (Some at) (i ∷ a) b h = (h.0, padded_front (place_after at i) a b h.1)

blocks_front : (side : Side) (kind : ℕ → Bool) (k : ℕ) (due : List ℕ) (a b : List Item) → InBlocks side kind k due (a ++ b) → InBlocks side kind k due a
blocks_front side kind k [] [] b h = tt
blocks_front side kind k (t ∷ due) [] b h = tt
blocks_front side kind k (t ∷ due) (i ∷ a) b h = (h.0, blocks_front side kind k due a b h.1)
blocks_front side kind k [] (i ∷ a) b (inl h) = inl (h.0, blocks_front side kind k [] a b h.1)
blocks_front side kind k [] (i ∷ a) b (inr h) = inr (h.0, blocks_front side kind (suc k) _ a b h.1)

form_front : (side : Side) (config : Config) (kind : Bool) (host : Option (List ℕ)) (own less : List (List ℕ)) → HasFront own less → HasForm side config kind host own → HasForm side config kind host less
form_front side config kind host own less f h = record {
  fills = h.fills;
  front = front_join _ own less h.front f;
  cookie = h.cookie;
  presents = λ s l. h.presents s (omega (arith, l, front_length own less f));
}

-- its first packets
pub record Front (side : Side) (config : Config) (kind : ℕ → Bool) (host : ℕ → Option (List ℕ)) (submitted : List (List ℕ)) (xs : List FinishedExchange) (whole : List ℕ) (items : List Item) : Type 0 where
  pub bytes : List ℕ
  pub front : HasFront whole bytes
  pub is : IsWire side config kind host submitted xs bytes items

pub wire_front : (side : Side) (config : Config) (kind : ℕ → Bool) (host : ℕ → Option (List ℕ)) (submitted : List (List ℕ)) (xs : List FinishedExchange) (whole : List ℕ) (a b : List Item) → IsWire side config kind host submitted xs whole (a ++ b) → Front side config kind host submitted xs whole a
wire_front side config kind host submitted xs whole a b w =
    let at : Option Place = Some (first_place (map (outgoing side) xs)) in
    let cut = reads_split at a b w.reads.0 [] w.reads.2 in
    let less = reads_less at a w.reads.0 cut.0 cut.1 in
    record {
      bytes = id_line config.id ++ less.0;
      front = (cut.0, append_assoc (id_line config.id) less.0 cut.0 ∙ (ap (λ t. id_line config.id ++ t) (sym less.1) ∙ sym w.reads.1));
      is = record {
        reads = (less.0, refl, less.2);
        padded = padded_front at a b w.padded;
        payloads = front_join submitted (carried_payloads (a ++ b)) (carried_payloads a) w.payloads (carried_payloads b, sym (payloads_join a b));
        blocks = blocks_front side kind 1 (order side (kind 0)) a b w.blocks;
        forms = λ k. form_front side config (kind k) (host k) (exchange_block k (a ++ b)) (exchange_block k a) (block_grows k a b) (w.forms k);
      };
    }

-- ---- how many are good

pub good_less : (side : Side) (j : JudgedRecord) (xs : List FinishedExchange) (m n : ℕ) → m ≤ n → AreGoodPackets side j xs n → AreGoodPackets side j xs m
good_less side j xs m n l g =
    let f = wire_front side (config_in side j) _ _ _ xs g.bytes (take m g.items) (drop m g.items) (subst (λ t. IsWireOf side j xs g.bytes t) (sym (take-append-drop m g.items)) g.good) in
    record {
      bytes = f.bytes;
      items = take m g.items;
      front = front_join (wire_in side j) g.bytes f.bytes g.front f.front;
      many = length-take-le m g.items (omega (arith, l, g.many));
      good = f.is;
    }

pub wire_good : (side : Side) (j : JudgedRecord) (xs : List FinishedExchange) (w : IsGoodWire side j xs) → AreGoodPackets side j xs (length w.0)
wire_good side j xs w = record { bytes = wire_in side j; items = w.0; front = front_all (wire_in side j); many = refl; good = w.1 }

line_cut : (line p q u v x y wire : List ℕ) → x ≡ line ++ p → y ≡ line ++ q → x ++ u ≡ wire → y ++ v ≡ wire → p ++ u ≡ q ++ v
line_cut line p q u v x y wire e f g h =
    append_cancel_left line (p ++ u) (q ++ v) (sym (append_assoc line p u) ∙ (ap (λ t. t ++ u) (sym e) ∙ (g ∙ (sym h ∙ (ap (λ t. t ++ v) f ∙ append_assoc line q v)))))

line_front : (line p q x y : List ℕ) → x ≡ line ++ p → y ≡ line ++ q → HasFront q p → HasFront y x
line_front line p q x y e f h = (h.0, ap (λ t. t ++ h.0) e ∙ (append_assoc line p h.0 ∙ (ap (λ t. line ++ t) h.1 ∙ sym f)))

-- of two, the one with fewer packets is a front of the other
pub good_fronts : (side : Side) (j : JudgedRecord) (xs : List FinishedExchange) (m n : ℕ) → m ≤ n → (g : AreGoodPackets side j xs m) → (h : AreGoodPackets side j xs n) → HasFront h.items g.items × HasFront h.bytes g.bytes
good_fronts side j xs m n l g h =
    let line = id_line (config_in side j).id in
    let r = reads_fronts (Some (first_place (map (outgoing side) xs))) g.items h.items g.good.reads.0 h.good.reads.0 g.front.0 h.front.0 g.good.reads.2 h.good.reads.2
    (line_cut line g.good.reads.0 h.good.reads.0 g.front.0 h.front.0 g.bytes h.bytes (wire_in side j) g.good.reads.1 h.good.reads.1 g.front.1 h.front.1) (omega (arith, l, g.many, h.many)) in
    (r.0, line_front line g.good.reads.0 h.good.reads.0 g.bytes h.bytes g.good.reads.1 h.good.reads.1 r.1)

-- ---- where the first bad packet stands

not_below : (side : Side) (j : JudgedRecord) (xs : List FinishedExchange) (p q : ℕ) → EndsGood side j xs p → AreGoodPackets side j xs q → q ≤ p
not_below side j xs p q e g = elim (cases_lt p q) [ inl l ↦ absurd (e.no_more (good_less side j xs (suc p) q (omega (arith, l)) g)) | inr l ↦ l ]

pub bad_one : (side : Side) (j : JudgedRecord) (xs : List FinishedExchange) (p q : ℕ) → IsBadBehind side j xs p → IsBadBehind side j xs q → p ≡ q
bad_one side j xs p q (inl h) (inl k) = h.1 ∙ sym k.1
bad_one side j xs p q (inl h) (inr k) = absurd (h.0 (good_less side j xs 0 q (omega arith) k.good))
bad_one side j xs p q (inr h) (inl k) = absurd (k.0 (good_less side j xs 0 p (omega arith) h.good))
bad_one side j xs p q (inr h) (inr k) = omega (arith, not_below side j xs p q h k.good, not_below side j xs q p k h.good)

-- where there is one, the wire isn't good
pub bad_not_good : (side : Side) (j : JudgedRecord) (xs : List FinishedExchange) (p : ℕ) → IsBadBehind side j xs p → IsGoodWire side j xs → ⊥
unfolding wire_good
bad_not_good side j xs p (inl h) w = h.0 (good_less side j xs 0 (length w.0) (omega arith) (wire_good side j xs w))
bad_not_good side j xs p (inr h) w =
    let g = wire_good side j xs w in
    let below = not_below side j xs p (length w.0) h g in
    let f = good_fronts side j xs (length w.0) p below g h.good in
    omega (arith, front_length h.good.bytes (wire_in side j) f.1, h.follow)
