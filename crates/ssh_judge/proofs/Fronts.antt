-- Fronts of a wire: where its packets end, and which of them lie whole in its first bytes.
use Rattle.std.proofs.Common.{◌≡◌, ◌⊎◌, ◌↔◌, inl, inr, ℕ, zero, suc, ◌+◌, ◌-◌, ◌<◌, ◌≤◌, List, [], ◌∷◌, ◌++◌, length, take, drop, map, slice_get, refl, sym, ◌∙◌, ap, subst, arith, append_assoc, append-nil, Option, Some, None, Bool, Bor, get_or, length-append, length-drop}
use Rattle.std.proofs.lemmas.Bool.{cases_lt}
use Rattle.std.proofs.lemmas.List.{get_or-drop, length-take-le}
use Rattle.std.proofs.lemmas.Slice.{between_to_end}
use Rattle.std.specs.List.{slice_range}
use Rattle.std.specs.Option.{MatchOption, unwrap_or}
use Rattle.std.proofs.lemmas.Option.{slice_get-get_or, slice_get_within}
use Rattle.ssh_packet.specs.Sealing.{Item}
use Rattle.ssh_packet.specs.Stream.{Place, first_place, Reads, packet_at, place_after}
use Rattle.ssh_wire.specs.declared.side.Side.{Side}
use Rattle.ssh_kex.specs.Exchange.{outgoing}
use Rattle.ssh_rules.specs.MessageTypes.{order}
use Rattle.ssh_rules.specs.Wire.{InBlocks, LiesWhole, epochs_ended, exchange_block}
use Rattle.ssh_rules.specs.Marks.{Half, SentBy, kexinits}
use Rattle.ssh_rules.proofs.Lemmas.{block_above}
use Rattle.ssh_record.proofs.Lemmas.{StandsAt, cursor_whole, end_of_nothing, none_yet}
use Rattle.ssh_transcript.specs.Reading.{AreKept}
use Rattle.ssh_transcript.specs.declared.packet.Packet.{Packet}
use Rattle.ssh_judge.specs.Tallies.{Advances, Counts, CountsFront, IsKeptHalf, IsSeenAs, MayFollow, end_behind, line_of}
use Rattle.ssh_judge.specs.Standing.{CountsWhole}
use Rattle.ssh_judge.specs.declared.tally.Tally.{Tally}
use Rattle.ssh_judge.proofs.Counted.{StandsIn, stands_first, stands_next}
use Rattle.ssh_judge.proofs.Lengths.{payload_within}

-- ---- a packet and what is kept of it

same_some : {A : Type 0} (x y : A) → Some x ≡ Some y → x ≡ y
same_some x y e = cc

not_some : {A : Type 0} (x : A) → None ≡ Some x → ⊥
not_some x e = cc

-- the packet of which this is kept
pub record IsPacketAt (start : ℕ) (items : List Item) (kept : List Packet) (c : ℕ) (p : Packet) : Type 0 where
  pub item : Item
  pub there : slice_get items c ≡ Some item
  pub seen : IsSeenAs (end_behind start kept c) item p
  pub ends : end_behind start kept (suc c) ≡ p.end

pub kept_at : (at : Option Place) (start : ℕ) (items : List Item) (kept : List Packet) (c : ℕ) (p : Packet) → AreKept at start items kept → slice_get kept c ≡ Some p → IsPacketAt start items kept c p
kept_at at start [] [] c p h e = absurd (not_some p e)
kept_at at start [] (q ∷ kept) c p h e = absurd h
kept_at at start (i ∷ items) [] c p h e = absurd h
kept_at None start (i ∷ items) (q ∷ kept) c p h e = absurd h
kept_at (Some at) start (i ∷ items) (q ∷ kept) zero p h e =
    let s : q ≡ p = same_some q p e in
    let ends : q.end ≡ p.end = ap (λ (x : Packet). x.end) s in
    record {
      item = i;
      there = refl;
      seen = record { message_type = ap (λ (x : Packet). x.message_type) (sym s) ∙ h.0; long = ap (λ (x : Packet). x.length) (sym s) ∙ h.1; behind = omega (arith, ends, h.2, payload_within at i) };
      ends = ends;
    }
kept_at (Some at) start (i ∷ items) (q ∷ kept) (suc c) p h e =
    let r = kept_at (place_after at i) q.end items kept c p h.3 e in
    record { item = r.item; there = r.there; seen = r.seen; ends = r.ends }

-- as many are kept as there are
pub kept_many : (at : Option Place) (start : ℕ) (items : List Item) (kept : List Packet) → AreKept at start items kept → length kept ≡ length items
kept_many at start [] [] h = refl
kept_many at start [] (q ∷ kept) h = absurd h
kept_many at start (i ∷ items) [] h = absurd h
kept_many None start (i ∷ items) (q ∷ kept) h = absurd h
kept_many (Some at) start (i ∷ items) (q ∷ kept) h = ap suc (kept_many (place_after at i) q.end items kept h.3)

pub ends_grow : (at : Option Place) (start : ℕ) (items : List Item) (kept : List Packet) (c : ℕ) → AreKept at start items kept → start ≤ end_behind start kept c
ends_grow at start items kept zero h = omega arith
ends_grow at start [] [] (suc c) h = omega arith
ends_grow at start [] (q ∷ kept) (suc c) h = absurd h
ends_grow at start (i ∷ items) [] (suc c) h = absurd h
ends_grow None start (i ∷ items) (q ∷ kept) (suc c) h = absurd h
ends_grow (Some at) start (i ∷ items) (q ∷ kept) (suc c) h = omega (arith, h.2, ends_grow (place_after at i) q.end items kept c h.3)

-- ---- cursors

stands_at : (at : Option Place) (start : ℕ) (items : List Item) (kept : List Packet) (c m : ℕ) → AreKept at start items kept → c ≤ length items → (0 < c → end_behind start kept c ≤ start + m) → ((p : Packet) → slice_get kept c ≡ Some p → start + m < p.end) → StandsAt at items c m
stands_at at start [] kept zero m h l r n = tt
stands_at None start (i ∷ items) kept zero m h l r n = tt
stands_at (Some at) start (i ∷ items) [] zero m h l r n = absurd h
stands_at (Some at) start (i ∷ items) (q ∷ kept) zero m h l r n = omega (arith, n q refl, h.2)
stands_at at start [] kept (suc c) m h l r n = absurd (omega (arith, l))
stands_at at start (i ∷ items) [] (suc c) m h l r n = absurd h
stands_at None start (i ∷ items) (q ∷ kept) (suc c) m h l r n = absurd h
stands_at (Some at) start (i ∷ items) (q ∷ kept) (suc c) m h l r n =
    let up : q.end ≤ end_behind q.end kept c = ends_grow (place_after at i) q.end items kept c h.3 in
    let all : end_behind q.end kept c ≤ start + m = r (omega arith) in
    let within : length (packet_at at i) ≤ m = omega (arith, up, all, h.2) in
    let same : start + m ≡ q.end + (m - length (packet_at at i)) = omega (arith, within, h.2) in
    (within, stands_at (place_after at i) q.end items kept c (m - length (packet_at at i)) h.3 (omega (arith, l)) (λ _. omega (arith, all, same)) (λ p e. subst (λ k. k < p.end) same (n p e)))

-- the packets that a cursor counts lie whole in so many bytes
whole_front : (kind : Bool) (h : Half) (items : List Item) (kept : List Packet) (w : IsKeptHalf kind h items kept) (c reach : ℕ) → c ≤ length items → (0 < c → end_behind (line_of h) kept c ≤ reach) → ((p : Packet) → slice_get kept c ≡ Some p → reach < p.end) → LiesWhole h.side h.config h.exchanges h.wire reach (take c items)
whole_front kind h items kept w c reach l r n = elim (cases_lt reach (line_of h)) [
  | inl below ↦ none c l r below
  | inr le ↦ (let same : line_of h + (reach - line_of h) ≡ reach = omega (arith, le) in
      cursor_whole h.side h.config h.exchanges h.wire w.packets items c reach w.line w.reads le
      (stands_at (Some (first_place (map (outgoing h.side) h.exchanges))) (line_of h) items kept c (reach - line_of h) w.are l (λ s. subst (λ k. end_behind (line_of h) kept c ≤ k) (sym same) (r s)) (λ p e. subst (λ k. k < p.end) (sym same) (n p e))))
] where
  none : (c : ℕ) → c ≤ length items → (0 < c → end_behind (line_of h) kept c ≤ reach) → reach < line_of h → LiesWhole h.side h.config h.exchanges h.wire reach (take c items)
  none zero l r below = none_yet h.side h.config h.exchanges h.wire reach (omega (arith, below))
  none (suc c) l r below = absurd (omega (arith, r (omega arith), below, ends_grow (Some (first_place (map (outgoing h.side) h.exchanges))) (line_of h) items kept (suc c) w.are))

-- ---- lengths

reads_long : (at : Option Place) (start : ℕ) (items : List Item) (kept : List Packet) (c : ℕ) (bytes rest : List ℕ) → AreKept at start items kept → c ≤ length items → Reads at (take c items) bytes rest → start + length bytes ≡ end_behind start kept c + length rest
reads_long at start items kept zero bytes rest k l h = omega (arith, ap length h)
reads_long at start [] kept (suc c) bytes rest k l h = absurd (omega (arith, l))
reads_long at start (i ∷ items) [] (suc c) bytes rest k l h = absurd k
reads_long None start (i ∷ items) (q ∷ kept) (suc c) bytes rest k l h = absurd k
reads_long (Some at) start (i ∷ items) (q ∷ kept) (suc c) bytes rest k l h =
    let r = reads_long (place_after at i) q.end items kept c h.0 rest k.3 (omega (arith, l)) h.3 in
    omega (arith, r, k.2, ap length h.2, length-append (packet_at at i) h.0)

no_bytes : (xs : List ℕ) → length xs ≡ 0 → xs ≡ []
no_bytes [] e = refl
no_bytes (x ∷ xs) e = absurd (omega (arith, e))

-- what was sent ends with the last of these packets exactly where they are all of it
pub sent_ends : (kind : Bool) (h : Half) (items : List Item) (kept : List Packet) (w : IsKeptHalf kind h items kept) (c n : ℕ) → c ≤ length items → line_of h ≤ n → n ≤ length h.wire → LiesWhole h.side h.config h.exchanges h.wire n (take c items) → (end_behind (line_of h) kept c ≡ n) ↔ SentBy h n (take c items)
sent_ends kind h items kept w c n l le within whole = (there, back) where
  bytes : List ℕ
  bytes = drop (line_of h) (take n h.wire)

  long : length bytes ≡ n - line_of h
  long = length-drop (line_of h) (take n h.wire) ∙ ap (λ k. k - line_of h) (length-take-le n h.wire within)

  there : end_behind (line_of h) kept c ≡ n → SentBy h n (take c items)
  there e =
      let r = reads_long (Some (first_place (map (outgoing h.side) h.exchanges))) (line_of h) items kept c bytes whole.0 w.are l whole.1.reads in
      let none : length whole.0 ≡ 0 = omega (arith, r, e, long, le) in
      subst (λ t. Reads (Some (first_place (map (outgoing h.side) h.exchanges))) (take c items) bytes t) (no_bytes whole.0 none) whole.1.reads

  back : SentBy h n (take c items) → end_behind (line_of h) kept c ≡ n
  back s =
      let r : line_of h + length bytes ≡ end_behind (line_of h) kept c + 0 = reads_long (Some (first_place (map (outgoing h.side) h.exchanges))) (line_of h) items kept c bytes [] w.are l s in
      omega (arith, r, long, le)

-- packets that are all of so many bytes lie whole there
pub sent_whole : (h : Half) (n : ℕ) (own : List Item) → SentBy h n own → LiesWhole h.side h.config h.exchanges h.wire n own
sent_whole h n own s = ([], record { reads = s; no_more = end_of_nothing _ [] refl })

-- ---- blocks

next_from : (side : Side) (kind : Bool) (k : ℕ) (due : List ℕ) (w items : List Item) (n : ℕ) (i : Item) → InBlocks side (λ m. kind) k due items → StandsIn w due → slice_get items n ≡ Some i → MayFollow (w ++ take n items) i
next_from side kind k due w [] n i b s e = absurd (not_some i e)
next_from side kind k due w (j ∷ items) zero i b s e = subst (λ x. MayFollow (w ++ []) x) (same_some j i e) (subst (λ v. MayFollow v j) (sym (append-nil w)) (stands_next side kind k due w j items b s).0)
next_from side kind k due w (j ∷ items) (suc n) i b s e =
    let r = stands_next side kind k due w j items b s in
    subst (λ v. MayFollow v i) (append_assoc w (j ∷ []) (take n items)) (next_from side kind r.1 r.2 (w ++ j ∷ []) items n i r.3 r.4 e)

stands_from : (side : Side) (kind : Bool) (k : ℕ) (due : List ℕ) (w items : List Item) (n : ℕ) → InBlocks side (λ m. kind) k due items → StandsIn w due → (later : List ℕ) × StandsIn (w ++ take n items) later
stands_from side kind k due w items zero b s = (due, subst (λ v. StandsIn v due) (sym (append-nil w)) s)
stands_from side kind k due w [] (suc n) b s = (due, subst (λ v. StandsIn v due) (sym (append-nil w)) s)
stands_from side kind k due w (j ∷ items) (suc n) b s =
    let r = stands_next side kind k due w j items b s in
    let q = stands_from side kind r.1 r.2 (w ++ j ∷ []) items n r.3 r.4 in
    (q.0, subst (λ v. StandsIn v q.0) (append_assoc w (j ∷ []) (take n items)) q.1)

none_begun : (w : List Item) (due : List ℕ) (k : ℕ) → StandsIn w due → kexinits w ≤ k → exchange_block k w ≡ []
none_begun w [] k s l = elim (cases_lt (epochs_ended w) k) [
  | inl above ↦ block_above k w above
  | inr le ↦ (let e : k ≡ epochs_ended w = omega (arith, le, l, s.0) in ap (λ n. exchange_block n w) e ∙ s.1)
]
none_begun w (t ∷ []) k s l = block_above k w (omega (arith, l, s.0))
none_begun w (t ∷ u ∷ due) k (inl s) l = subst (λ v. exchange_block k v ≡ []) (sym s.0) refl
none_begun w (t ∷ u ∷ due) k (inr s) l = block_above k w (omega (arith, l, s.0))

-- of an exchange that isn't begun no message stands there
pub unbegun : (side : Side) (kind : Bool) (items : List Item) (n k : ℕ) → InBlocks side (λ m. kind) 1 (order side kind) items → kexinits (take n items) ≤ k → exchange_block k (take n items) ≡ []
unbegun side kind items n k b l =
    let q = stands_from side kind 1 (order side kind) [] items n b (stands_first side kind) in
    none_begun (take n items) q.0 k q.1 l

-- ---- a tally on a wire

-- the next packet of a tally's wire
pub record IsNextOn (items : List Item) (p : Packet) (t : Tally) : Type 0 where
  pub item : Item
  pub there : slice_get items t.packets ≡ Some item
  pub follows : MayFollow (take t.packets items) item
  pub seen : IsSeenAs t.end item p
  pub more : suc t.packets ≤ length items

pub next_on : (kind : Bool) (h : Half) (items : List Item) (kept : List Packet) (t : Tally) (p : Packet) → IsKeptHalf kind h items kept → CountsFront (line_of h) items kept t → slice_get kept t.packets ≡ Some p → IsNextOn items p t
next_on kind h items kept t p w f e =
    let a = kept_at (Some (first_place (map (outgoing h.side) h.exchanges))) (line_of h) items kept t.packets p w.are e in
    record {
      item = a.item;
      there = a.there;
      follows = next_from h.side kind 1 (order h.side kind) [] items t.packets a.item w.blocks (stands_first h.side kind) a.there;
      seen = subst (λ k. IsSeenAs k a.item p) (sym f.ends) a.seen;
      more = slice_get_within items t.packets a.item a.there;
    }

take_more : {A : Type 0} (xs : List A) (n : ℕ) (x : A) → slice_get xs n ≡ Some x → take n xs ++ x ∷ [] ≡ take (suc n) xs
take_more [] n x e = absurd (not_some x e)
take_more (y ∷ ys) zero x e = ap (λ z. z ∷ []) (sym (same_some y x e))
take_more (y ∷ ys) (suc n) x e = ap (λ zs. y ∷ zs) (take_more ys n x e)

-- a tally that counted that packet too
pub front_more : (kind : Bool) (h : Half) (items : List Item) (kept : List Packet) (t t' : Tally) (p : Packet) → IsKeptHalf kind h items kept → CountsFront (line_of h) items kept t → slice_get kept t.packets ≡ Some p → t'.packets ≡ t.packets + 1 → t'.end ≡ p.end
    → ((xs : List Item) (i : Item) → MayFollow xs i → IsSeenAs t.end i p → Counts xs t → Counts (xs ++ i ∷ []) t') → CountsFront (line_of h) items kept t'
front_more kind h items kept t t' p w f e one ends counted =
    let n = next_on kind h items kept t p w f e in
    let a = kept_at (Some (first_place (map (outgoing h.side) h.exchanges))) (line_of h) items kept t.packets p w.are e in
    let up : suc t.packets ≡ t'.packets = omega (arith, one) in
    record {
      within = (let m = n.more in omega (arith, m, up));
      counts = subst (λ k. Counts (take k items) t') up (subst (λ xs. Counts xs t') (take_more items t.packets n.item n.there) (counted (take t.packets items) n.item n.follows n.seen f.counts));
      ends = ends ∙ (sym a.ends ∙ ap (λ k. end_behind (line_of h) kept k) up);
    }

-- a tally that advanced has counted what lies whole there
pub advanced : (kind : Bool) (h : Half) (items : List Item) (kept : List Packet) (t t' : Tally) (reach : ℕ) → IsKeptHalf kind h items kept → (0 < t.packets → t.end ≤ reach) → Advances (line_of h) items kept reach t t' → CountsWhole h items kept reach t'
advanced kind h items kept t t' reach w r a = record {
  front = a.front;
  reached = a.reached r;
  whole = whole_front kind h items kept w t'.packets reach a.front.within (λ l. subst (λ k. k ≤ reach) a.front.ends (a.reached r l)) a.next;
}

-- ---- a tally on its way

pub record Gone (start : ℕ) (items : List Item) (kept : List Packet) (reach : ℕ) (t : Tally) (n : ℕ) (t' : Tally) : Type 0 where
  pub front : CountsFront start items kept t'
  pub more : t'.packets ≡ t.packets + n
  pub reached : (0 < t.packets → t.end ≤ reach) → 0 < t'.packets → t'.end ≤ reach

abbrev pub AdvancesTo : List Packet → ℕ → Tally → ℕ → Tally → Type 0
AdvancesTo kept reach t n t' = (kind : Bool) (h : Half) (items : List Item) → IsKeptHalf kind h items kept → CountsFront (line_of h) items kept t → Gone (line_of h) items kept reach t n t'

counted_within : (kind : Bool) (h : Half) (items : List Item) (kept : List Packet) (t : Tally) → IsKeptHalf kind h items kept → CountsFront (line_of h) items kept t → t.packets ≤ length kept
counted_within kind h items kept t w f = (let l = f.within in let m = kept_many (Some (first_place (map (outgoing h.side) h.exchanges))) (line_of h) items kept w.are in omega (arith, l, m))

-- what is lent of the packets behind those that were counted
pub rest_of : (kept : List Packet) (c : ℕ) (got : Option (Bor (List Packet))) (rest none : Bor (List Packet)) → MatchOption got ((length kept < c) ⊎ (length kept < length kept)) (λ x. (c ≤ length kept) × (length kept ≤ length kept) × (x.now ≡ slice_range kept c (length kept)) × (length x.now + c ≡ length kept)) → rest ≡ unwrap_or got none → c ≤ length kept → rest.now ≡ drop c kept
rest_of kept c None rest none (inl m) e l = absurd (omega (arith, m, l))
rest_of kept c None rest none (inr m) e l = absurd (omega (arith, m))
rest_of kept c (Some x) rest none m e l = ap (λ (b : Bor (List Packet)). b.now) e ∙ (m.2 ∙ between_to_end kept c (length kept) (omega arith))

pub at_rest : (kept rest : List Packet) (c k : ℕ) (d : Packet) → rest ≡ drop c kept → k < length rest → slice_get kept (c + k) ≡ Some (get_or rest k d)
at_rest kept rest c k d e l =
    let within : c + k < length kept = omega (arith, l, ap length e, length-drop c kept) in
    slice_get-get_or kept (c + k) d within ∙ ap Some (sym (ap (λ r. get_or r k d) e ∙ get_or-drop c kept k d))

pub none_left : (kept rest : List Packet) (c k : ℕ) → rest ≡ drop c kept → c ≤ length kept → length rest ≤ k → length kept ≤ c + k
none_left kept rest c k e w l = omega (arith, w, l, ap length e, length-drop c kept)

pub gone_none : (kept : List Packet) (reach : ℕ) (t : Tally) → AdvancesTo kept reach t 0 t
gone_none kept reach t = λ kind h items w f. record { front = f; more = omega arith; reached = λ r. r }

pub gone_more : (kept : List Packet) (reach : ℕ) (t : Tally) (n : ℕ) (t' t'' : Tally) (p : Packet) → AdvancesTo kept reach t n t' → (t.packets ≤ length kept → slice_get kept (t.packets + n) ≡ Some p) → p.end ≤ reach → length kept < 18446744073709551616
    → (t'.packets + 1 < 18446744073709551616 → t''.packets ≡ t'.packets + 1) → t''.end ≡ p.end
    → ((xs : List Item) (i : Item) → MayFollow xs i → IsSeenAs t'.end i p → t'.packets + 1 < 18446744073709551616 → Counts xs t' → Counts (xs ++ i ∷ []) t'') → AdvancesTo kept reach t (n + 1) t''
gone_more kept reach t n t' t'' p a e l short one ends counted = λ kind h items w f.
    let g = a kind h items w f in
    let at : slice_get kept t'.packets ≡ Some p = ap (slice_get kept) g.more ∙ e (counted_within kind h items kept t w f) in
    let within : t'.packets < length kept = slice_get_within kept t'.packets p at in
    let few : t'.packets + 1 < 18446744073709551616 = omega (arith, within, short) in
    let up = one few in
    record {
      front = front_more kind h items kept t' t'' p w g.front at up ends (λ xs i m s c. counted xs i m s few c);
      more = (let m = g.more in omega (arith, up, m));
      reached = λ r q. omega (arith, ends, l);
    }

-- where it stops before a packet that ends later
pub gone_stops : (kept : List Packet) (reach : ℕ) (t : Tally) (n : ℕ) (t' : Tally) (p : Packet) → AdvancesTo kept reach t n t' → (t.packets ≤ length kept → slice_get kept (t.packets + n) ≡ Some p) → reach < p.end → (kind : Bool) (h : Half) (items : List Item) → IsKeptHalf kind h items kept → CountsFront (line_of h) items kept t → Advances (line_of h) items kept reach t t'
gone_stops kept reach t n t' p a e l kind h items w f =
    let g = a kind h items w f in
    record {
      front = g.front;
      more = (let m = g.more in omega (arith, m));
      reached = g.reached;
      next = λ q d. (let s : p ≡ q = same_some p q (sym (e (counted_within kind h items kept t w f)) ∙ (ap (slice_get kept) (sym g.more) ∙ d)) in subst (λ x. reach < x.end) s l);
    }

-- where no packet is left
pub gone_all : (kept : List Packet) (reach : ℕ) (t : Tally) (n : ℕ) (t' : Tally) → AdvancesTo kept reach t n t' → (t.packets ≤ length kept → length kept ≤ t.packets + n) → (kind : Bool) (h : Half) (items : List Item) → IsKeptHalf kind h items kept → CountsFront (line_of h) items kept t → Advances (line_of h) items kept reach t t'
gone_all kept reach t n t' a l kind h items w f =
    let g = a kind h items w f in
    record {
      front = g.front;
      more = (let m = g.more in omega (arith, m));
      reached = g.reached;
      next = λ q d. (let b = slice_get_within kept t'.packets q d in let m = g.more in let k = l (counted_within kind h items kept t w f) in absurd (omega (arith, b, m, k)));
    }
