-- Where a direction stands behind one packet more, and behind one exchange more.
use Rattle.std.proofs.Common.{◌≡◌, ◌⊎◌, inl, inr, ℕ, ◌≤◌, List, [], ◌∷◌, ◌++◌, length, Bool, true, false, Option, Some, None, if◌then◌else◌, refl, sym, ◌∙◌, ap, subst, arith, length-append}
use Rattle.ssh_packet.proofs.Lemmas.{length_sealed}
use Rattle.ssh_packet.specs.Sealing.{Item, Sealing, IsAdmissible, moved_on, next_number}
use Rattle.ssh_packet.specs.Stream.{Opening, Place, Reads, place_after, place_behind, packet_at, is_newkeys, next_place, kept_number}

choice : (b : Bool) → (b ≡ true) ⊎ (b ≡ false)
choice true = inl refl
choice false = inr refl

one_some : {A : Type 0} (x y : A) → Some x ≡ Some y → x ≡ y
one_some x y e = cc

no_some : {A : Type 0} (x : A) → None ≡ Some x → ⊥
no_some x e = cc

abbrev pub spot : Sealing → ℕ → List Opening → Place
spot s n openings = record { sealing = s; number = n; openings = openings }

pub after_end : (at : Place) (i : Item) → is_newkeys i ≡ true → place_after at i ≡ next_place at.openings (next_number at.number)
after_end at i e = ap (λ b. if b then next_place at.openings (next_number at.number) else Some (spot (moved_on at.sealing i) (next_number at.number) at.openings)) e

pub after_packet : (at : Place) (i : Item) → is_newkeys i ≡ false → place_after at i ≡ Some (spot (moved_on at.sealing i) (next_number at.number) at.openings)
after_packet at i e = ap (λ b. if b then next_place at.openings (next_number at.number) else Some (spot (moved_on at.sealing i) (next_number at.number) at.openings)) e

none_behind : (items : List Item) → place_behind None items ≡ None
none_behind [] = refl
none_behind (i ∷ items) = refl

-- ---- one packet more

pub behind_more : (at : Option Place) (q : Place) (items : List Item) (i : Item) → place_behind at items ≡ Some q → place_behind at (items ++ i ∷ []) ≡ place_after q i
behind_more None q [] i e = absurd (no_some q e)
behind_more (Some at) q [] i e = ap (λ p. place_after p i) (one_some at q e)
behind_more None q (j ∷ items) i e = absurd (no_some q e)
behind_more (Some at) q (j ∷ items) i e = behind_more (place_after at j) q items i e

pub reads_on : (at : Option Place) (q : Place) (items : List Item) (i : Item) (bytes before rest : List ℕ) → place_behind at items ≡ Some q → IsAdmissible q.sealing i → Reads at items bytes before → before ≡ packet_at q i ++ rest → Reads at (items ++ i ∷ []) bytes rest
reads_on None q [] i bytes before rest e a h b = absurd (no_some q e)
reads_on (Some at) q [] i bytes before rest e a h b =
    let same = one_some at q e in
    (rest, subst (λ (p : Place). IsAdmissible p.sealing i) (sym same) a, h ∙ (b ∙ ap (λ p. packet_at p i ++ rest) (sym same)), refl)
reads_on None q (j ∷ items) i bytes before rest e a h b = absurd h
reads_on (Some at) q (j ∷ items) i bytes before rest e a h b = (h.0, h.1, h.2, reads_on (place_after at j) q items i h.0 before rest e a h.3 b)

-- what waits is a part of what was fed
pub reads_within : (at : Option Place) (items : List Item) (bytes rest : List ℕ) → Reads at items bytes rest → length rest ≤ length bytes
reads_within at [] bytes rest h = omega (arith, ap length h)
reads_within None (i ∷ items) bytes rest h = absurd h
reads_within (Some at) (i ∷ items) bytes rest h = omega (arith, ap length h.2, length-append (packet_at at i) h.0, reads_within (place_after at i) items h.0 rest h.3)

-- where nothing is fed, no packet is read
pub reads_nothing : (at : Option Place) (items : List Item) (rest : List ℕ) → Reads at items [] rest → items ≡ []
reads_nothing at [] rest h = refl
reads_nothing None (i ∷ items) rest h = absurd h
reads_nothing (Some at) (i ∷ items) rest h = absurd (omega (arith, ap length h.2, length-append (packet_at at i) h.0, length_sealed at.sealing at.number i))

-- ---- one exchange more

pub behind_wider : (s : Sealing) (n : ℕ) (openings : List Opening) (o : Opening) (items : List Item) (p : Place) → place_behind (Some (spot s n openings)) items ≡ Some p → place_behind (Some (spot s n (openings ++ o ∷ []))) items ≡ Some (spot p.sealing p.number (p.openings ++ o ∷ []))
behind_wider s n openings o [] p e = ap (λ (q : Place). Some (spot q.sealing q.number (q.openings ++ o ∷ []))) (one_some (spot s n openings) p e)
behind_wider s n [] o (i ∷ items) p e = elim (choice (is_newkeys i)) [
  | inl t ↦ absurd (no_some p (sym (none_behind items) ∙ (ap (λ q. place_behind q items) (sym (after_end (spot s n []) i t)) ∙ e)))
  | inr f ↦ ap (λ q. place_behind q items) (after_packet (spot s n (o ∷ [])) i f) ∙ behind_wider (moved_on s i) (next_number n) [] o items p (ap (λ q. place_behind q items) (sym (after_packet (spot s n []) i f)) ∙ e)
]
behind_wider s n (a ∷ openings) o (i ∷ items) p e = elim (choice (is_newkeys i)) [
  | inl t ↦ ap (λ q. place_behind q items) (after_end (spot s n ((a ∷ openings) ++ o ∷ [])) i t) ∙ behind_wider a.sealing (kept_number a.strict (next_number n)) openings o items p (ap (λ q. place_behind q items) (sym (after_end (spot s n (a ∷ openings)) i t)) ∙ e)
  | inr f ↦ ap (λ q. place_behind q items) (after_packet (spot s n ((a ∷ openings) ++ o ∷ [])) i f) ∙ behind_wider (moved_on s i) (next_number n) (a ∷ openings) o items p (ap (λ q. place_behind q items) (sym (after_packet (spot s n (a ∷ openings)) i f)) ∙ e)
]

-- behind the end of the last epoch nothing is defined, and with one exchange more its keys are taken up
pub ends_last : (at : Option Place) (p : Place) (items : List Item) (i : Item) → place_behind at items ≡ Some p → p.openings ≡ [] → is_newkeys i ≡ true → place_behind at (items ++ i ∷ []) ≡ None
ends_last at p items i e n t = behind_more at p items i e ∙ (after_end p i t ∙ ap (λ w. next_place w (next_number p.number)) n)

pub ends_wider : (s : Sealing) (n : ℕ) (openings : List Opening) (o : Opening) (items : List Item) (i : Item) (p : Place) → place_behind (Some (spot s n openings)) items ≡ Some p → p.openings ≡ [] → is_newkeys i ≡ true → place_behind (Some (spot s n (openings ++ o ∷ []))) (items ++ i ∷ []) ≡ Some (spot o.sealing (kept_number o.strict (next_number p.number)) [])
ends_wider s n openings o items i p e none t =
    behind_more (Some (spot s n (openings ++ o ∷ []))) (spot p.sealing p.number (p.openings ++ o ∷ [])) items i (behind_wider s n openings o items p e)
    ∙ (after_end (spot p.sealing p.number (p.openings ++ o ∷ [])) i t ∙ ap (λ w. next_place (w ++ o ∷ []) (next_number p.number)) none)
