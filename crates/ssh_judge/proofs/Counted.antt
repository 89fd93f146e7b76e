-- What a tally counts, one packet after the other.
use Rattle.std.proofs.Common.{◌≡◌, ◌⊎◌, inl, inr, ℕ, zero, suc, ◌+◌, ◌-◌, ◌<◌, ◌≤◌, List, [], ◌∷◌, ◌++◌, length, map, slice_get, refl, sym, ◌∙◌, ap, subst, arith, Some, Bool, true, false, ◌&&◌, nat_le, ◌==◌, if◌then◌else◌, length-append}
use Rattle.std.specs.Prelude.{drop}
use Rattle.std.proofs.lemmas.Bool.{cases_lt}
use Rattle.std.proofs.lemmas.Bool.Decides.{nat_tests}
use Rattle.ssh_packet.specs.Sealing.{Item}
use Rattle.ssh_packet.specs.Stream.{is_newkeys}
use Rattle.ssh_wire.specs.declared.side.Side.{Side}
use Rattle.ssh_wire.specs.declared.side.Side.TheVariants.{Client, Server}
use Rattle.ssh_rules.specs.MessageTypes.{type_of, is_kex_type, is_payload_type, order}
use Rattle.ssh_rules.specs.Wire.{InBlocks, carried_payloads, epochs_ended, exchange_block}
use Rattle.ssh_rules.specs.Marks.{kexinits}
use Rattle.ssh_rules.specs.Run.{epoch_bytes}
use Rattle.ssh_rules.proofs.Lemmas.{payloads_join, get_front, block_at, block_behind, block_other, both, ends_false, ends_snoc_newkeys, ends_snoc_plain, ends_true, bytes_in, epoch_at, epoch_next, bytes_ended, bytes_grown, kexinits_none, kexinits_one}
use Rattle.ssh_record.proofs.Lemmas.{get_last}
use Rattle.ssh_transcript.specs.declared.packet.Packet.{Packet}
use Rattle.ssh_judge.specs.Tallies.{BeginsExchange, Counts, CountsMessage, CountsPacket, CountsPayload, EndsEpoch, GoesOn, IsSeenAs, MayFollow}
use Rattle.ssh_judge.specs.declared.tally.Tally.{Tally}

-- ---- types of messages

differ : false ≡ true → ⊥
differ e = cc

-- of a message between the first and the last of an exchange
abbrev pub IsInner : ℕ → Type 0
IsInner t = (nat_le 30 t && nat_le t 34) ≡ true

payload_not : (t n : ℕ) → is_payload_type n ≡ false → is_payload_type t ≡ true → t ≡ n → ⊥
payload_not t n f h e = differ (sym f ∙ (ap is_payload_type (sym e) ∙ h))

payload_plain : (t : ℕ) → is_payload_type t ≡ true → (t == 21) ≡ false
payload_plain t h = grind (arith, nat_tests)

payload_other : (t : ℕ) → is_payload_type t ≡ true → (t == 20) ≡ false
payload_other t h = grind (arith, nat_tests)

payload_no_kex : (t : ℕ) → is_payload_type t ≡ true → is_kex_type t ≡ false
payload_no_kex t h = grind (arith, nat_tests)

inner_no_payload : (t : ℕ) → IsInner t → is_payload_type t ≡ false
inner_no_payload t h = grind (arith, nat_tests)

inner_kex : (t : ℕ) → IsInner t → is_kex_type t ≡ true
inner_kex t h = grind (arith, nat_tests)

inner_other : (t : ℕ) → IsInner t → (t == 20) ≡ false
inner_other t h = grind (arith, nat_tests)

inner_plain : (t : ℕ) → IsInner t → (t == 21) ≡ false
inner_plain t h = grind (arith, nat_tests)

test_not : (t n : ℕ) → (t == n) ≡ false → t ≡ n → ⊥
test_not t n h e = grind (arith, nat_tests)

not_test : (t n : ℕ) → (t ≡ n → ⊥) → (t == n) ≡ false
not_test t n h = grind (arith, nat_tests)

is_test : (t n : ℕ) → t ≡ n → (t == n) ≡ true
is_test t n e = grind (arith, nat_tests)

-- ---- where packets stand among their blocks

-- the types that an open block still has to bring
abbrev pub Inner : List ℕ → Type 0
Inner [] = Unit {0}
Inner (t ∷ []) = t ≡ 21
Inner (t ∷ u ∷ due) = IsInner t × Inner (u ∷ due)

-- these packets stand before what is due
abbrev pub StandsIn : List Item → List ℕ → Type 0
StandsIn w [] = (kexinits w ≡ epochs_ended w) × (exchange_block (epochs_ended w) w ≡ [])
StandsIn w (t ∷ []) = (kexinits w ≡ suc (epochs_ended w)) × (t ≡ 21)
StandsIn w (t ∷ u ∷ due) = ((w ≡ []) × (t ≡ 20) × Inner (u ∷ due)) ⊎ ((kexinits w ≡ suc (epochs_ended w)) × Inner (t ∷ u ∷ due))

pub stands_first : (side : Side) (kind : Bool) → StandsIn [] (order side kind)
stands_first Client false = inl (refl, refl, (refl, refl))
stands_first Client true = inl (refl, refl, (refl, (refl, refl)))
stands_first Server false = inl (refl, refl, (refl, refl))
stands_first Server true = inl (refl, refl, (refl, (refl, refl)))

stands_open : (side : Side) (kind : Bool) (w : List Item) → kexinits w ≡ suc (epochs_ended w) → StandsIn w (drop 1 (order side kind))
stands_open Client false w e = inr (e, (refl, refl))
stands_open Client true w e = inr (e, (refl, (refl, refl)))
stands_open Server false w e = inr (e, (refl, refl))
stands_open Server true w e = inr (e, (refl, (refl, refl)))

stands_inner : (w : List Item) (u : ℕ) (due : List ℕ) → kexinits w ≡ suc (epochs_ended w) → Inner (u ∷ due) → StandsIn w (u ∷ due)
stands_inner w u [] e h = (e, h)
stands_inner w u (v ∷ due) e h = inr (e, h)

follow_payload : (w : List Item) (i : Item) → is_payload_type (type_of i) ≡ true → kexinits w ≡ epochs_ended w → MayFollow w i
follow_payload w i h e = record {
  outside = λ _. e;
  message = λ f. absurd (differ (sym f ∙ h));
  begins = λ f. absurd (payload_not (type_of i) 20 refl h f);
  within = λ f n. absurd (differ (sym f ∙ h));
}

follow_kexinit : (w : List Item) (i : Item) → type_of i ≡ 20 → kexinits w ≡ epochs_ended w → exchange_block (epochs_ended w) w ≡ [] → MayFollow w i
follow_kexinit w i h e b = record {
  outside = λ _. e;
  message = λ _. ap is_kex_type h;
  begins = λ _. (e, b);
  within = λ _ n. absurd (n h);
}

follow_message : (w : List Item) (i : Item) → is_payload_type (type_of i) ≡ false → is_kex_type (type_of i) ≡ true → (type_of i ≡ 20 → ⊥) → kexinits w ≡ suc (epochs_ended w) → MayFollow w i
follow_message w i h k n e = record {
  outside = λ f. absurd (differ (sym h ∙ f));
  message = λ _. k;
  begins = λ f. absurd (n f);
  within = λ _ _. e;
}

-- one packet more, and where it leads
abbrev pub LeadsOn : Side → Bool → List Item → Item → List Item → Type 0
LeadsOn side kind w i rest = MayFollow w i × (k : ℕ) × (due : List ℕ) × InBlocks side (λ m. kind) k due rest × StandsIn (w ++ i ∷ []) due

begun_more : (w : List Item) (i : Item) → type_of i ≡ 20 → kexinits w ≡ epochs_ended w → kexinits (w ++ i ∷ []) ≡ suc (epochs_ended (w ++ i ∷ []))
begun_more w i h e =
    let one = kexinits_one w i (is_test (type_of i) 20 h) in
    let same = ends_snoc_plain w i (ap (λ t. t == 21) h) in
    omega (arith, one, same, e)

inner_more : (w : List Item) (i : Item) → (type_of i == 20) ≡ false → (type_of i == 21) ≡ false → kexinits w ≡ suc (epochs_ended w) → kexinits (w ++ i ∷ []) ≡ suc (epochs_ended (w ++ i ∷ []))
inner_more w i h k e = omega (arith, kexinits_none w i h, ends_snoc_plain w i k, e)

outside_more : (w : List Item) (i : Item) → is_payload_type (type_of i) ≡ true → StandsIn w [] → StandsIn (w ++ i ∷ []) []
outside_more w i h s =
    let same = ends_snoc_plain w i (payload_plain (type_of i) h) in (
      kexinits_none w i (payload_other (type_of i) h) ∙ (s.0 ∙ sym same),
      ap (λ n. exchange_block n (w ++ i ∷ [])) same ∙ (block_other (epochs_ended w) w i (payload_no_kex (type_of i) h) ∙ s.1),
    )

closed_more : (w : List Item) (i : Item) → type_of i ≡ 21 → kexinits w ≡ suc (epochs_ended w) → StandsIn (w ++ i ∷ []) []
closed_more w i h e =
    let k : is_newkeys i ≡ true = is_test (type_of i) 21 h in
    let up : epochs_ended (w ++ i ∷ []) ≡ suc (epochs_ended w) = omega (arith, ends_snoc_newkeys w i k) in
    (kexinits_none w i (ap (λ t. t == 20) h) ∙ (e ∙ sym up), ap (λ n. exchange_block n (w ++ i ∷ [])) up ∙ block_behind w i k)

pub stands_next : (side : Side) (kind : Bool) (k : ℕ) (due : List ℕ) (w : List Item) (i : Item) (rest : List Item) → InBlocks side (λ m. kind) k due (i ∷ rest) → StandsIn w due → LeadsOn side kind w i rest
stands_next side kind k [] w i rest (inl h) s = (follow_payload w i h.0 s.0, k, [], h.1, outside_more w i h.0 s)
stands_next side kind k [] w i rest (inr h) s = (follow_kexinit w i h.0 s.0 s.1, suc k, drop 1 (order side kind), h.1, stands_open side kind (w ++ i ∷ []) (begun_more w i h.0 s.0))
stands_next side kind k (t ∷ []) w i rest h s =
    let e : type_of i ≡ 21 = h.0 ∙ s.1 in
    (follow_message w i (ap is_payload_type e) (ap is_kex_type e) (λ f. test_not 21 20 refl (sym e ∙ f)) s.0, k, [], h.1, closed_more w i e s.0)
stands_next side kind k (t ∷ u ∷ due) w i rest h (inl s) =
    let e : type_of i ≡ 20 = h.0 ∙ s.1 in
    let none : kexinits w ≡ epochs_ended w = subst (λ v. kexinits v ≡ epochs_ended v) (sym s.0) refl in
    let other : exchange_block (epochs_ended w) w ≡ [] = subst (λ v. exchange_block (epochs_ended v) v ≡ []) (sym s.0) refl in
    (follow_kexinit w i e none other, k, u ∷ due, h.1, stands_inner (w ++ i ∷ []) u due (begun_more w i e none) s.2)
stands_next side kind k (t ∷ u ∷ due) w i rest h (inr s) =
    let n : IsInner (type_of i) = subst IsInner (sym h.0) s.1.0 in (
      follow_message w i (inner_no_payload (type_of i) n) (inner_kex (type_of i) n) (test_not (type_of i) 20 (inner_other (type_of i) n)) s.0,
      k,
      u ∷ due,
      h.1,
      stands_inner (w ++ i ∷ []) u due (inner_more w i (inner_other (type_of i) n) (inner_plain (type_of i) n) s.0) s.1.1,
    )

-- ---- one packet more

-- what is counted of the epochs that ended stays
epoch_below : (k : ℕ) (w : List Item) (i : Item) → k < epochs_ended w → epoch_bytes k (w ++ i ∷ []) ≡ epoch_bytes k w
epoch_below k [] i h = absurd (omega (arith, h))
epoch_below zero (j ∷ w) i h = both (is_newkeys j) _ _ _ _ (λ e. refl) (λ e. let r : epoch_bytes zero (w ++ i ∷ []) ≡ epoch_bytes zero w = epoch_below zero w i (omega (arith, ends_false j w e, h)) in ap (λ n. bytes_in j + n) r)
epoch_below (suc k) (j ∷ w) i h = both (is_newkeys j) _ _ _ _ (λ e. epoch_below k w i (omega (arith, ends_true j w e, h))) (λ e. epoch_below (suc k) w i (omega (arith, ends_false j w e, h)))

one_way : {A : Type 0} (b : Bool) (x y z : A) → (b ≡ true → x ≡ z) → (b ≡ false → y ≡ z) → (if b then x else y) ≡ z
one_way true x y z f g = f refl
one_way false x y z f g = g refl

-- of epochs to come nothing is counted
pub epoch_above : (k : ℕ) (w : List Item) → epochs_ended w < k → epoch_bytes k w ≡ 0
epoch_above zero w h = absurd (omega (arith, h))
epoch_above (suc k) [] h = refl
epoch_above (suc k) (j ∷ w) h = one_way (is_newkeys j) _ _ _ (λ e. epoch_above k w (omega (arith, ends_true j w e, h))) (λ e. epoch_above (suc k) w (omega (arith, ends_false j w e, h)))

-- the packet that ends an epoch counts nothing in it
epoch_closed : (k : ℕ) (w : List Item) (i : Item) → is_newkeys i ≡ true → epoch_bytes k (w ++ i ∷ []) ≡ epoch_bytes k w
epoch_closed zero [] i h = one_way (is_newkeys i) _ _ _ (λ e. refl) (λ e. absurd (differ (sym e ∙ h)))
epoch_closed (suc k) [] i h = one_way (is_newkeys i) _ _ _ (λ e. refl) (λ e. refl)
epoch_closed zero (j ∷ w) i h = both (is_newkeys j) _ _ _ _ (λ e. refl) (λ e. let r : epoch_bytes zero (w ++ i ∷ []) ≡ epoch_bytes zero w = epoch_closed zero w i h in ap (λ n. bytes_in j + n) r)
epoch_closed (suc k) (j ∷ w) i h = both (is_newkeys j) _ _ _ _ (λ e. epoch_closed k w i h) (λ e. epoch_closed (suc k) w i h)

carried_one : (w : List Item) (i : Item) → is_payload_type (type_of i) ≡ true → length (carried_payloads (w ++ i ∷ [])) ≡ suc (length (carried_payloads w))
carried_one w i h =
    let one : length (carried_payloads (i ∷ [])) ≡ 1 = ap (λ b. length (map (λ (j : Item). j.payload) (if b then i ∷ [] else []))) h in
    omega (arith, ap length (payloads_join w (i ∷ [])), length-append (carried_payloads w) (carried_payloads (i ∷ [])), one)

carried_none : (w : List Item) (i : Item) → is_payload_type (type_of i) ≡ false → length (carried_payloads (w ++ i ∷ [])) ≡ length (carried_payloads w)
carried_none w i h =
    let none : length (carried_payloads (i ∷ [])) ≡ 0 = ap (λ b. length (map (λ (j : Item). j.payload) (if b then i ∷ [] else []))) h in
    omega (arith, ap length (payloads_join w (i ∷ [])), length-append (carried_payloads w) (carried_payloads (i ∷ [])), none)

-- what is counted of the open epoch and of those before it, behind a packet that ends none
bytes_plain : (w : List Item) (i : Item) (n : ℕ) → is_newkeys i ≡ false → bytes_in i ≡ n → epoch_bytes (epochs_ended (w ++ i ∷ [])) (w ++ i ∷ []) ≡ epoch_bytes (epochs_ended w) w + n
bytes_plain w i n h e = ap (λ k. epoch_bytes k (w ++ i ∷ [])) (ends_snoc_plain w i h) ∙ (epoch_at w i h ∙ ap (λ m. epoch_bytes (epochs_ended w) w + m) e)

past_plain : (w : List Item) (i : Item) (xs ys : List ℕ) → is_newkeys i ≡ false → ys ≡ xs → ((k : ℕ) → k < epochs_ended w → slice_get xs k ≡ Some (epoch_bytes k w)) → (k : ℕ) → k < epochs_ended (w ++ i ∷ []) → slice_get ys k ≡ Some (epoch_bytes k (w ++ i ∷ []))
past_plain w i xs ys h e p k l =
    let below : k < epochs_ended w = omega (arith, l, ends_snoc_plain w i h) in
    ap (λ zs. slice_get zs k) e ∙ (p k below ∙ ap Some (sym (epoch_below k w i below)))

past_closed : (w : List Item) (i : Item) (xs ys : List ℕ) (n : ℕ) → is_newkeys i ≡ true → ys ≡ xs ++ n ∷ [] → length xs ≡ epochs_ended w → n ≡ epoch_bytes (epochs_ended w) w → ((k : ℕ) → k < epochs_ended w → slice_get xs k ≡ Some (epoch_bytes k w)) → (k : ℕ) → k < epochs_ended (w ++ i ∷ []) → slice_get ys k ≡ Some (epoch_bytes k (w ++ i ∷ []))
past_closed w i xs ys n h e many is p k l = ap (λ zs. slice_get zs k) e ∙ (elim (cases_lt k (epochs_ended w)) [
  | inl below ↦ get_front xs (n ∷ []) k _ (p k below)
  | inr past ↦ (let here : k ≡ epochs_ended w = omega (arith, past, l, ends_snoc_newkeys w i h) in
      ap (λ m. slice_get (xs ++ n ∷ []) m) (here ∙ sym many) ∙ (get_last xs n ∙ ap Some (is ∙ ap (λ m. epoch_bytes m w) (sym here))))
] ∙ ap Some (sym (epoch_closed k w i h)))

-- the messages of the exchange that was begun last
messages_plain : (w : List Item) (i : Item) (n : ℕ) → is_payload_type (type_of i) ≡ true → kexinits w ≡ epochs_ended w → (0 < kexinits w → n ≡ length (exchange_block (kexinits w - 1) w)) → 0 < kexinits (w ++ i ∷ []) → n ≡ length (exchange_block (kexinits (w ++ i ∷ []) - 1) (w ++ i ∷ []))
messages_plain w i n h e m l =
    let same = kexinits_none w i (payload_other (type_of i) h) in
    m (omega (arith, l, same)) ∙ (sym (ap length (block_other (kexinits w - 1) w i (payload_no_kex (type_of i) h))) ∙ ap (λ k. length (exchange_block (k - 1) (w ++ i ∷ []))) (sym same))

last_is : (n m : ℕ) → n ≡ suc m → n - 1 ≡ m
last_is n m e = omega (arith, e)

-- behind one more of them
messages_more : (w : List Item) (i : Item) (n : ℕ) → is_kex_type (type_of i) ≡ true → kexinits (w ++ i ∷ []) ≡ suc (epochs_ended w) → n ≡ length (exchange_block (epochs_ended w) w) + 1 → n ≡ length (exchange_block (kexinits (w ++ i ∷ []) - 1) (w ++ i ∷ []))
messages_more w i n k e h =
    let at = ap length (block_at w i k) in
    let is : length (exchange_block (epochs_ended w) (w ++ i ∷ [])) ≡ length (exchange_block (epochs_ended w) w) + 1 = omega (arith, at, length-append (exchange_block (epochs_ended w) w) (i.payload ∷ [])) in
    h ∙ (sym is ∙ ap (λ m. length (exchange_block m (w ++ i ∷ []))) (sym (last_is _ _ e)))

-- what holds of every packet that is counted
record Next (items : List Item) (i : Item) (p : Packet) (t : Tally) : Type 0 where
  follows : MayFollow items i
  seen : IsSeenAs t.end i p
  few : t.packets + 1 ≤ 18446744073709551615
  short : p.end ≤ 18446744073709551615
  counts : Counts items t

-- no packet
pub counts_none : (t : Tally) → t.packets ≡ 0 → t.carried ≡ 0 → t.ended.items ≡ [] → t.carried_bytes ≡ 0 → t.epoch_bytes ≡ 0 → t.kexinits ≡ 0 → t.messages ≡ 0 → Counts [] t
counts_none t p q r s u v w = record {
  packets = p;
  carried = q;
  ended = ap length r;
  carried_bytes = s;
  past = λ k l. absurd (omega (arith, l));
  written = u;
  begun = v;
  messages = λ l. absurd (omega (arith, l));
  few = (omega (arith, q), omega (arith, v), omega (arith, w));
  small = (omega (arith, s), omega (arith, u));
}

payload_more : (items : List Item) (i : Item) (p : Packet) (t m t' : Tally) → Next items i p t → is_payload_type p.message_type ≡ true → CountsPacket p t m → CountsPayload p.length m t' → Counts (items ++ i ∷ []) t'
payload_more items i p t m t' n h a b =
    let is : is_payload_type (type_of i) ≡ true = ap is_payload_type (sym n.seen.message_type) ∙ h in
    let plain : is_newkeys i ≡ false = payload_plain (type_of i) is in
    let c = n.counts in
    let f = n.few in
    let s = n.short in
    let long = n.seen.long in
    let behind = n.seen.behind in
    let few0 = c.few.0 in
    let few1 = c.few.1 in
    let few2 = c.few.2 in
    let small0 = c.small.0 in
    let small1 = c.small.1 in
    let counted : bytes_in i ≡ length i.payload = ap (λ (x : Bool). if x then length i.payload else 0) is in
    record {
      packets = omega (arith, a.packets, b.packets, c.packets, length-append items (i ∷ []));
      carried = omega (arith, a.carried, b.carried, c.carried, c.packets, carried_one items i is);
      ended = ap length b.ended ∙ (ap length a.ended ∙ (c.ended ∙ sym (ends_snoc_plain items i plain)));
      carried_bytes = omega (arith, a.carried_bytes, b.carried_bytes, c.carried_bytes, bytes_plain items i (length i.payload) plain counted);
      past = past_plain items i t.ended.items t'.ended.items plain (b.ended ∙ a.ended) c.past;
      written = omega (arith, a.written, b.written, c.written, bytes_grown items i plain);
      begun = b.begun ∙ (a.begun ∙ (c.begun ∙ sym (kexinits_none items i (payload_other (type_of i) is))));
      messages = messages_plain items i t'.messages is (n.follows.outside is) (λ l. b.messages ∙ (a.messages ∙ c.messages l));
      few = (omega (arith, a.carried, b.carried, a.packets, b.packets), omega (arith, a.begun, b.begun, a.packets, b.packets), omega (arith, a.messages, b.messages, a.packets, b.packets));
      small = (omega (arith, a.carried_bytes, b.carried_bytes, a.ends, b.ends), omega (arith, a.written, b.written, a.ends, b.ends));
    }

begin_more : (items : List Item) (i : Item) (p : Packet) (t m t' : Tally) → Next items i p t → type_of i ≡ 20 → CountsPacket p t m → BeginsExchange m t' → Counts (items ++ i ∷ []) t'
begin_more items i p t m t' n h a b =
    let other : is_payload_type (type_of i) ≡ false = ap is_payload_type h in
    let plain : is_newkeys i ≡ false = ap (λ x. x == 21) h in
    let c = n.counts in
    let f = n.few in
    let s = n.short in
    let long = n.seen.long in
    let behind = n.seen.behind in
    let few0 = c.few.0 in
    let few1 = c.few.1 in
    let few2 = c.few.2 in
    let small0 = c.small.0 in
    let small1 = c.small.1 in
    let one = kexinits_one items i (is_test (type_of i) 20 h) in
    let out = (n.follows.begins h).0 in
    let counted : bytes_in i ≡ 0 = ap (λ (x : Bool). if x then length i.payload else 0) other in
    record {
      packets = omega (arith, a.packets, b.packets, c.packets, length-append items (i ∷ []));
      carried = b.carried ∙ (a.carried ∙ (c.carried ∙ sym (carried_none items i other)));
      ended = ap length b.ended ∙ (ap length a.ended ∙ (c.ended ∙ sym (ends_snoc_plain items i plain)));
      carried_bytes = omega (arith, a.carried_bytes, b.carried_bytes, c.carried_bytes, bytes_plain items i 0 plain counted);
      past = past_plain items i t.ended.items t'.ended.items plain (b.ended ∙ a.ended) c.past;
      written = omega (arith, a.written, b.written, c.written, bytes_grown items i plain);
      begun = omega (arith, a.begun, b.begun, c.begun, one);
      messages = λ l. messages_more items i t'.messages (n.follows.message other) (omega (arith, one, out)) (omega (arith, b.messages, ap length (n.follows.begins h).1));
      few = (omega (arith, a.carried, b.carried, a.packets, b.packets), omega (arith, a.begun, b.begun, a.packets, b.packets), omega (arith, b.messages, a.packets, b.packets));
      small = (omega (arith, a.carried_bytes, b.carried_bytes, a.ends, b.ends), omega (arith, a.written, b.written, a.ends, b.ends));
    }

inner_counts : (items : List Item) (i : Item) (p : Packet) (t m t' : Tally) → Next items i p t → is_payload_type (type_of i) ≡ false → (type_of i ≡ 20 → ⊥) → (type_of i ≡ 21 → ⊥) → CountsPacket p t m → GoesOn m t' → Counts (items ++ i ∷ []) t'
inner_counts items i p t m t' n other h k a b =
    let plain : is_newkeys i ≡ false = not_test (type_of i) 21 k in
    let c = n.counts in
    let f = n.few in
    let s = n.short in
    let long = n.seen.long in
    let behind = n.seen.behind in
    let few0 = c.few.0 in
    let few1 = c.few.1 in
    let few2 = c.few.2 in
    let small0 = c.small.0 in
    let small1 = c.small.1 in
    let same = kexinits_none items i (not_test (type_of i) 20 h) in
    let stays = n.follows.within other h in
    let told : t.messages ≡ length (exchange_block (epochs_ended items) items) = c.messages (omega (arith, stays)) ∙ ap (λ q. length (exchange_block q items)) (last_is _ _ stays) in
    let counted : bytes_in i ≡ 0 = ap (λ (x : Bool). if x then length i.payload else 0) other in
    record {
      packets = omega (arith, a.packets, b.packets, c.packets, length-append items (i ∷ []));
      carried = b.carried ∙ (a.carried ∙ (c.carried ∙ sym (carried_none items i other)));
      ended = ap length b.ended ∙ (ap length a.ended ∙ (c.ended ∙ sym (ends_snoc_plain items i plain)));
      carried_bytes = omega (arith, a.carried_bytes, b.carried_bytes, c.carried_bytes, bytes_plain items i 0 plain counted);
      past = past_plain items i t.ended.items t'.ended.items plain (b.ended ∙ a.ended) c.past;
      written = omega (arith, a.written, b.written, c.written, bytes_grown items i plain);
      begun = b.begun ∙ (a.begun ∙ (c.begun ∙ sym same));
      messages = λ l. messages_more items i t'.messages (n.follows.message other) (same ∙ stays) (omega (arith, a.messages, b.messages, told));
      few = (omega (arith, a.carried, b.carried, a.packets, b.packets), omega (arith, a.begun, b.begun, a.packets, b.packets), omega (arith, a.messages, b.messages, a.packets, b.packets));
      small = (omega (arith, a.carried_bytes, b.carried_bytes, a.ends, b.ends), omega (arith, a.written, b.written, a.ends, b.ends));
    }

end_counts : (items : List Item) (i : Item) (p : Packet) (t m t' : Tally) → Next items i p t → type_of i ≡ 21 → CountsPacket p t m → EndsEpoch m t' → Counts (items ++ i ∷ []) t'
end_counts items i p t m t' n h a b =
    let other : is_payload_type (type_of i) ≡ false = ap is_payload_type h in
    let k : is_newkeys i ≡ true = is_test (type_of i) 21 h in
    let c = n.counts in
    let f = n.few in
    let few0 = c.few.0 in
    let few1 = c.few.1 in
    let few2 = c.few.2 in
    let same = kexinits_none items i (ap (λ x. x == 20) h) in
    let stays = n.follows.within other (λ e. test_not 21 20 refl (sym h ∙ e)) in
    let told : t.messages ≡ length (exchange_block (epochs_ended items) items) = c.messages (omega (arith, stays)) ∙ ap (λ q. length (exchange_block q items)) (last_is _ _ stays) in
    let up : epochs_ended (items ++ i ∷ []) ≡ suc (epochs_ended items) = omega (arith, ends_snoc_newkeys items i k) in
    let none : epoch_bytes (epochs_ended (items ++ i ∷ [])) (items ++ i ∷ []) ≡ 0 = ap (λ q. epoch_bytes q (items ++ i ∷ [])) up ∙ epoch_next items i in
    let more : t'.ended.items ≡ t.ended.items ++ t.carried_bytes ∷ [] = b.ended ∙ (ap (λ xs. xs ++ m.carried_bytes ∷ []) a.ended ∙ ap (λ x. t.ended.items ++ x ∷ []) a.carried_bytes) in
    record {
      packets = omega (arith, a.packets, b.packets, c.packets, length-append items (i ∷ []));
      carried = b.carried ∙ (a.carried ∙ (c.carried ∙ sym (carried_none items i other)));
      ended = omega (arith, ap length more, length-append t.ended.items (t.carried_bytes ∷ []), c.ended, up);
      carried_bytes = b.carried_bytes ∙ sym none;
      past = past_closed items i t.ended.items t'.ended.items t.carried_bytes k more c.ended c.carried_bytes c.past;
      written = b.written ∙ sym (bytes_ended items i k);
      begun = b.begun ∙ (a.begun ∙ (c.begun ∙ sym same));
      messages = λ l. messages_more items i t'.messages (n.follows.message other) (same ∙ stays) (omega (arith, a.messages, b.messages, told));
      few = (omega (arith, a.carried, b.carried, a.packets, b.packets), omega (arith, a.begun, b.begun, a.packets, b.packets), omega (arith, a.messages, b.messages, a.packets, b.packets));
      small = (omega (arith, b.carried_bytes), omega (arith, b.written));
    }

choice : (b : Bool) → (b ≡ true) ⊎ (b ≡ false)
choice true = inl refl
choice false = inr refl

test_is : (t n : ℕ) → (t == n) ≡ true → t ≡ n
test_is t n e = grind (arith, nat_tests)

-- a message more
message_more : (items : List Item) (i : Item) (p : Packet) (t m t' : Tally) → Next items i p t → is_payload_type p.message_type ≡ false → CountsPacket p t m → CountsMessage p.message_type m t' → Counts (items ++ i ∷ []) t'
message_more items i p t m t' n h a b =
    let is : p.message_type ≡ type_of i = n.seen.message_type in
    let other : is_payload_type (type_of i) ≡ false = ap is_payload_type (sym is) ∙ h in
    elim (choice (type_of i == 20)) [
      | inl e ↦ (let q : type_of i ≡ 20 = test_is (type_of i) 20 e in begin_more items i p t m t' n q a (b.begins (is ∙ q)))
      | inr e ↦ elim (choice (type_of i == 21)) [
        | inl f ↦ (let q : type_of i ≡ 21 = test_is (type_of i) 21 f in end_counts items i p t m t' n q a (b.ends_epoch (is ∙ q)))
        | inr f ↦ inner_counts items i p t m t' n other (test_not (type_of i) 20 e) (test_not (type_of i) 21 f) a (b.goes_on (λ g. test_not (type_of i) 20 e (sym is ∙ g)) (λ g. test_not (type_of i) 21 f (sym is ∙ g)))
      ]
    ]

next_of : (items : List Item) (i : Item) (p : Packet) (t : Tally) → MayFollow items i → IsSeenAs t.end i p → t.packets + 1 < 18446744073709551616 → p.end < 18446744073709551616 → Counts items t → Next items i p t
next_of items i p t f s few short c = record { follows = f; seen = s; few = omega (arith, few); short = omega (arith, short); counts = c }

pub counts_payload : (items : List Item) (i : Item) (p : Packet) (t m t' : Tally) → MayFollow items i → IsSeenAs t.end i p → t.packets + 1 < 18446744073709551616 → p.end < 18446744073709551616 → Counts items t → is_payload_type p.message_type ≡ true → CountsPacket p t m → CountsPayload p.length m t' → Counts (items ++ i ∷ []) t'
counts_payload items i p t m t' f s few short c h a b = payload_more items i p t m t' (next_of items i p t f s few short c) h a b

pub counts_message : (items : List Item) (i : Item) (p : Packet) (t m t' : Tally) → MayFollow items i → IsSeenAs t.end i p → t.packets + 1 < 18446744073709551616 → p.end < 18446744073709551616 → Counts items t → is_payload_type p.message_type ≡ false → CountsPacket p t m → CountsMessage p.message_type m t' → Counts (items ++ i ∷ []) t'
counts_message items i p t m t' f s few short c h a b = message_more items i p t m t' (next_of items i p t f s few short c) h a b
