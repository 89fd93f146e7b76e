-- One good packet more.
use Rattle.std.proofs.Common.{◌≡◌, ◌⊎◌, inl, inr, ℕ, suc, ◌<◌, List, [], ◌∷◌, ◌++◌, map, refl, sym, ◌∙◌, ap, subst, arith, append_assoc, append-nil, Option, Some, None, Bool, true, false}
use Rattle.std.proofs.lemmas.Bool.{cases_lt}
use Rattle.ssh_packet.specs.Sealing.{Item, IsAdmissible, IsPadded}
use Rattle.ssh_packet.specs.Stream.{Place, first_place, Reads, place_after, place_behind, packet_at, is_newkeys}
use Rattle.ssh_wire.specs.Lines.{id_line}
use Rattle.ssh_wire.specs.declared.side.Side.{Side}
use Rattle.ssh_kex.specs.Exchange.{outgoing}
use Rattle.ssh_kex.specs.declared.config.Config.{Config}
use Rattle.ssh_kex.specs.declared.exchange.FinishedExchange.{FinishedExchange}
use Rattle.ssh_rules.proofs.Lemmas.{block_above, block_behind, block_below, ends_snoc_newkeys, ends_snoc_plain}
use Rattle.ssh_rules.specs.MessageTypes.{order}
use Rattle.ssh_rules.specs.Wire.{ArePadded, HasForm, HasFront, InBlocks, IsWire, carried_payloads, epochs_ended, exchange_block}

-- What is asked of a packet behind good ones: its place, its bytes and padding, that it may come next, and of an open
-- block that it keeps its form.
pub record NextGood (side : Side) (config : Config) (kind : ℕ → Bool) (host : ℕ → Option (List ℕ)) (submitted : List (List ℕ)) (xs : List FinishedExchange) (items : List Item) (i : Item) : Type 0 where
  pub place : Place
  pub at : place_behind (Some (first_place (map (outgoing side) xs))) items ≡ Some place
  pub admissible : IsAdmissible place.sealing i
  pub padded : IsPadded place.sealing i
  pub blocks : InBlocks side kind 1 (order side (kind 0)) (items ++ i ∷ [])
  pub payloads : HasFront submitted (carried_payloads (items ++ i ∷ []))
  pub form : HasForm side config (kind (epochs_ended items)) (host (epochs_ended items)) (exchange_block (epochs_ended items) (items ++ i ∷ []))

reads_snoc : (at : Option Place) (q : Place) (items : List Item) (i : Item) (bytes : List ℕ) → place_behind at items ≡ Some q → IsAdmissible q.sealing i → Reads at items bytes [] → Reads at (items ++ i ∷ []) (bytes ++ packet_at q i) []
reads_snoc None q [] i bytes e a h = absurd (let z : None ≡ Some q = e in cc)
reads_snoc (Some at) q [] i bytes e a h =
    let same : at ≡ q = (let z : Some at ≡ Some q = e in cc) in
    ([], subst (λ (p : Place). IsAdmissible p.sealing i) (sym same) a, ap (λ t. t ++ packet_at q i) h ∙ (ap (λ p. packet_at p i) (sym same) ∙ sym (append-nil (packet_at at i))), refl)
reads_snoc None q (j ∷ items) i bytes e a h = absurd h
reads_snoc (Some at) q (j ∷ items) i bytes e a h =
    (h.0 ++ packet_at q i, h.1, ap (λ t. t ++ packet_at q i) h.2 ∙ append_assoc (packet_at at j) h.0 (packet_at q i), reads_snoc (place_after at j) q items i h.0 e a h.3)

padded_snoc : (at : Option Place) (q : Place) (items : List Item) (i : Item) → place_behind at items ≡ Some q → IsPadded q.sealing i → ArePadded at items → ArePadded at (items ++ i ∷ [])
padded_snoc None q [] i e p h = absurd (let z : None ≡ Some q = e in cc)
padded_snoc (Some at) q [] i e p h = let same : at ≡ q = (let z : Some at ≡ Some q = e in cc) in (subst (λ (x : Place). IsPadded x.sealing i) (sym same) p, tt)
padded_snoc None q (j ∷ items) i e p h = absurd h
padded_snoc (Some at) q (j ∷ items) i e p h = (h.0, padded_snoc (place_after at j) q items i e p h.1)

choice : (b : Bool) → (b ≡ true) ⊎ (b ≡ false)
choice true = inl refl
choice false = inr refl

-- a block to come is empty still
block_to_come : (k : ℕ) (items : List Item) (i : Item) → epochs_ended items < k → exchange_block k (items ++ i ∷ []) ≡ []
block_to_come k items i l = elim (choice (is_newkeys i)) [
  | inl t ↦ elim (cases_lt (suc (epochs_ended items)) k) [
    | inl far ↦ block_above k (items ++ i ∷ []) (omega (arith, ends_snoc_newkeys items i t, far))
    | inr near ↦ subst (λ n. exchange_block n (items ++ i ∷ []) ≡ []) (omega (arith, near, l)) (block_behind items i t)
  ]
  | inr f ↦ block_above k (items ++ i ∷ []) (omega (arith, ends_snoc_plain items i f, l))
]

form_at : (side : Side) (config : Config) (kind : Bool) (host : Option (List ℕ)) (own more : List (List ℕ)) → own ≡ more → HasForm side config kind host own → HasForm side config kind host more
form_at side config kind host own more e h = subst (HasForm side config kind host) e h

pub good_more : (side : Side) (config : Config) (kind : ℕ → Bool) (host : ℕ → Option (List ℕ)) (submitted : List (List ℕ)) (xs : List FinishedExchange) (bytes : List ℕ) (items : List Item) (i : Item) → IsWire side config kind host submitted xs bytes items → (n : NextGood side config kind host submitted xs items i) → IsWire side config kind host submitted xs (bytes ++ packet_at n.place i) (items ++ i ∷ [])
good_more side config kind host submitted xs bytes items i w n =
    let at : Option Place = Some (first_place (map (outgoing side) xs)) in
    record {
      reads = (w.reads.0 ++ packet_at n.place i, ap (λ t. t ++ packet_at n.place i) w.reads.1 ∙ append_assoc (id_line config.id) w.reads.0 (packet_at n.place i), reads_snoc at n.place items i w.reads.0 n.at n.admissible w.reads.2);
      padded = padded_snoc at n.place items i n.at n.padded w.padded;
      payloads = n.payloads;
      blocks = n.blocks;
      forms = λ k. elim (cases_lt k (epochs_ended items)) [
        | inl l ↦ form_at side config (kind k) (host k) (exchange_block k items) (exchange_block k (items ++ i ∷ [])) (sym (block_below k items i l)) (w.forms k)
        | inr m ↦ elim (cases_lt (epochs_ended items) k) [
          | inl l ↦ form_at side config (kind k) (host k) (exchange_block k items) (exchange_block k (items ++ i ∷ [])) (block_above k items l ∙ sym (block_to_come k items i l)) (w.forms k)
          | inr l ↦ subst (λ x. HasForm side config (kind x) (host x) (exchange_block x (items ++ i ∷ []))) (let e : epochs_ended items ≡ k = omega (arith, l, m) in e) n.form
        ]
      ];
    }
