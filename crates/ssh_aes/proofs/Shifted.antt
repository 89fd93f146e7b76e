-- One step of a product: what was added up so far is shifted by a byte, and one row is added.
use Rattle.std.proofs.Common.{[], ◌∷◌, ◌++◌, ◌≡◌, ℕ, zero, suc, ◌+◌, ◌*◌, ◌/◌, ◌^◌, ◌<◌, ◌≤◌, List, length, map, drop, slice_index, refl, sym, subst, ◌∙◌, ap, arith, lit<}
use Rattle.std.proofs.lemmas.Nat.{pow-add, pow_pos}
use lib.Lanes.{pick_l}
use Rattle.ssh_aes.specs.Laws.{AreOctets}
use Rattle.ssh_aes.specs.Aes.{bytes_by}
use Rattle.ssh_aes.proofs.Written.{sixteen-elements}
use Rattle.ssh_aes.proofs.Inverses.{AreOctets-append}
use Rattle.ssh_aes.proofs.Numbers.{AreOctets-sixteen}
use Rattle.ssh_aes.specs.Field.{polynomial_product}
use Rattle.std.specs.Int.{w8}
use Rattle.std.proofs.lemmas.List.{length-map, get_or-map}
use Rattle.std.proofs.lemmas.List.FromFn.{fill_by_all}
use Rattle.std.proofs.lemmas.Simd.{swz_l, SwzOk, SwzOk-from_below, Each1-from_get_or, get_or-swz_l_below, length-swz_l}
use Rattle.ssh_aes.specs.Halves.{AreHalves, number_of}
use Rattle.ssh_aes.proofs.Lanes.{number_of-product, AreOctets-products}

pub number_of-drop : (xs : List ℕ) (k : ℕ) → k < length xs → number_of (drop k xs) ≡ number_of (drop (suc k) xs) * 256 + slice_index xs k
unfolding number_of
number_of-drop [] k h = absurd (omega arith)
number_of-drop (x ∷ xs) zero h = refl
number_of-drop (x ∷ xs) (suc k) h = number_of-drop xs k (omega arith)

pub number_of-lt : (n : ℕ) (xs : List ℕ) → length xs ≤ n → AreOctets xs → number_of xs < 2 ^ (8 * n)
unfolding number_of
number_of-lt n [] h b = pow_pos (8 * n)
number_of-lt zero (x ∷ xs) h b = absurd (omega arith)
number_of-lt (suc n) (x ∷ xs) h b =
    let e : 8 * suc n ≡ 8 * n + 8 = omega arith in
    let d = pow-add 2 (8 * n) 8 in
    let l = number_of-lt n xs (omega arith) (λ i. b (suc i)) in
    let o : x < 256 = b 0 in
    rw e (omega (arith, d, l, o))

-- both vectors shifted, lane by lane
shifted_lanes : (l0 l1 l2 l3 l4 l5 l6 l7 l8 l9 l10 l11 l12 l13 l14 l15 h0 h1 h2 h3 h4 h5 h6 h7 h8 h9 h10 h11 h12 h13 h14 h15 : ℕ)
    → number_of (h0 ∷ h1 ∷ h2 ∷ h3 ∷ h4 ∷ h5 ∷ h6 ∷ h7 ∷ h8 ∷ h9 ∷ h10 ∷ h11 ∷ h12 ∷ h13 ∷ h14 ∷ h15 ∷ []) < 2 ^ 120
    → number_of (l15 ∷ h0 ∷ h1 ∷ h2 ∷ h3 ∷ h4 ∷ h5 ∷ h6 ∷ h7 ∷ h8 ∷ h9 ∷ h10 ∷ h11 ∷ h12 ∷ h13 ∷ h14 ∷ []) * 2 ^ 128 + number_of (0 ∷ l0 ∷ l1 ∷ l2 ∷ l3 ∷ l4 ∷ l5 ∷ l6 ∷ l7 ∷ l8 ∷ l9 ∷ l10 ∷ l11 ∷ l12 ∷ l13 ∷ l14 ∷ [])
    ≡ 256 * (number_of (h0 ∷ h1 ∷ h2 ∷ h3 ∷ h4 ∷ h5 ∷ h6 ∷ h7 ∷ h8 ∷ h9 ∷ h10 ∷ h11 ∷ h12 ∷ h13 ∷ h14 ∷ h15 ∷ []) * 2 ^ 128 + number_of (l0 ∷ l1 ∷ l2 ∷ l3 ∷ l4 ∷ l5 ∷ l6 ∷ l7 ∷ l8 ∷ l9 ∷ l10 ∷ l11 ∷ l12 ∷ l13 ∷ l14 ∷ l15 ∷ []))
unfolding number_of
shifted_lanes l0 l1 l2 l3 l4 l5 l6 l7 l8 l9 l10 l11 l12 l13 l14 l15 h0 h1 h2 h3 h4 h5 h6 h7 h8 h9 h10 h11 h12 h13 h14 h15 h =
    let z : h15 ≡ 0 = omega arith in
    omega arith

-- both vectors shifted
pub shifted : (low high : List ℕ) → length low ≡ 16 → length high ≡ 16 → number_of high < 2 ^ 120
    → number_of (pick_l 0 (low ++ high) (15 ∷ 16 ∷ 17 ∷ 18 ∷ 19 ∷ 20 ∷ 21 ∷ 22 ∷ 23 ∷ 24 ∷ 25 ∷ 26 ∷ 27 ∷ 28 ∷ 29 ∷ 30 ∷ [])) * 2 ^ 128
    + number_of (pick_l 0 ((0 ∷ 0 ∷ 0 ∷ 0 ∷ 0 ∷ 0 ∷ 0 ∷ 0 ∷ 0 ∷ 0 ∷ 0 ∷ 0 ∷ 0 ∷ 0 ∷ 0 ∷ 0 ∷ []) ++ low) (0 ∷ 16 ∷ 17 ∷ 18 ∷ 19 ∷ 20 ∷ 21 ∷ 22 ∷ 23 ∷ 24 ∷ 25 ∷ 26 ∷ 27 ∷ 28 ∷ 29 ∷ 30 ∷ []))
    ≡ 256 * (number_of high * 2 ^ 128 + number_of low)
shifted low high el eh h =
    let P : List ℕ → List ℕ → Type 0 = λ l u. number_of u < 2 ^ 120
    → number_of (pick_l 0 (l ++ u) (15 ∷ 16 ∷ 17 ∷ 18 ∷ 19 ∷ 20 ∷ 21 ∷ 22 ∷ 23 ∷ 24 ∷ 25 ∷ 26 ∷ 27 ∷ 28 ∷ 29 ∷ 30 ∷ [])) * 2 ^ 128
    + number_of (pick_l 0 ((0 ∷ 0 ∷ 0 ∷ 0 ∷ 0 ∷ 0 ∷ 0 ∷ 0 ∷ 0 ∷ 0 ∷ 0 ∷ 0 ∷ 0 ∷ 0 ∷ 0 ∷ 0 ∷ []) ++ l) (0 ∷ 16 ∷ 17 ∷ 18 ∷ 19 ∷ 20 ∷ 21 ∷ 22 ∷ 23 ∷ 24 ∷ 25 ∷ 26 ∷ 27 ∷ 28 ∷ 29 ∷ 30 ∷ []))
    ≡ 256 * (number_of u * 2 ^ 128 + number_of l) in
    let f = λ (i : ℕ). slice_index low i in
    let g = λ (i : ℕ). slice_index high i in
    let b : P (bytes_by 16 f) (bytes_by 16 g) =
    shifted_lanes (f 0) (f 1) (f 2) (f 3) (f 4) (f 5) (f 6) (f 7) (f 8) (f 9) (f 10) (f 11) (f 12) (f 13) (f 14) (f 15) (g 0) (g 1) (g 2) (g 3) (g 4) (g 5) (g 6) (g 7) (g 8) (g 9) (g 10) (g 11) (g 12) (g 13) (g 14) (g 15) in
    subst (λ u. P low u) (sixteen-elements high eh) (subst (λ l. P l (bytes_by 16 g)) (sixteen-elements low el) b) h

-- the lanes of both stay bytes
pub shifted_high-bytes : (low high : List ℕ) → AreOctets low → AreOctets high → AreOctets (pick_l 0 (low ++ high) (15 ∷ 16 ∷ 17 ∷ 18 ∷ 19 ∷ 20 ∷ 21 ∷ 22 ∷ 23 ∷ 24 ∷ 25 ∷ 26 ∷ 27 ∷ 28 ∷ 29 ∷ 30 ∷ []))
shifted_high-bytes low high bl bh =
    let b = AreOctets-append low high bl bh in
    AreOctets-sixteen _ _ _ _ _ _ _ _ _ _ _ _ _ _ _ _ (b 15) (b 16) (b 17) (b 18) (b 19) (b 20) (b 21) (b 22) (b 23) (b 24) (b 25) (b 26) (b 27) (b 28) (b 29) (b 30)

pub shifted_low-bytes : (low : List ℕ) → AreOctets low → AreOctets (pick_l 0 ((0 ∷ 0 ∷ 0 ∷ 0 ∷ 0 ∷ 0 ∷ 0 ∷ 0 ∷ 0 ∷ 0 ∷ 0 ∷ 0 ∷ 0 ∷ 0 ∷ 0 ∷ 0 ∷ []) ++ low) (0 ∷ 16 ∷ 17 ∷ 18 ∷ 19 ∷ 20 ∷ 21 ∷ 22 ∷ 23 ∷ 24 ∷ 25 ∷ 26 ∷ 27 ∷ 28 ∷ 29 ∷ 30 ∷ []))
shifted_low-bytes low b =
    AreOctets-sixteen _ _ _ _ _ _ _ _ _ _ _ _ _ _ _ _ (lit< tt) (b 0) (b 1) (b 2) (b 3) (b 4) (b 5) (b 6) (b 7) (b 8) (b 9) (b 10) (b 11) (b 12) (b 13) (b 14)

-- the products of a half with all sixteen
pub record IsRow (a : ℕ) (t : List ℕ) : Type 0 where
  pub entry : (x : ℕ) → x < 16 → slice_index t x ≡ polynomial_product 8 x a

-- the row of a half at halves: their products with it
pub row_at : (a : ℕ) (t hs : List ℕ) → IsRow a t → AreHalves hs → swz_l w8 16 t 0 hs ≡ map (λ x. polynomial_product 8 x a) hs
row_at a t hs r b =
    let f = λ (m : ℕ). polynomial_product 8 (slice_index hs m) a in
    let p : swz_l w8 16 t 0 hs ≡ bytes_by 16 f = fill_by_all f (swz_l w8 16 t 0 hs) 16 0 (length-swz_l w8 16 t 0 hs ∙ b.sixteen)
    (λ m l. let e : 16 * ((0 + m) / 16) + slice_index hs m ≡ slice_index hs m = omega arith in
    get_or-swz_l_below w8 16 t 0 hs m (rw b.sixteen l) (b.small m) ∙ ap (λ (j : ℕ). slice_index t j) e ∙ r.entry (slice_index hs m) (b.small m)) in
    let q : map (λ x. polynomial_product 8 x a) hs ≡ bytes_by 16 f = fill_by_all f (map (λ x. polynomial_product 8 x a) hs) 16 0 (length-map hs (λ x. polynomial_product 8 x a) ∙ b.sixteen)
    (λ m l. get_or-map (λ x. polynomial_product 8 x a) hs m 0 0 (rw b.sixteen l)) in
    p ∙ sym q

pub row_at-product : (a : ℕ) (t hs : List ℕ) → a < 16 → IsRow a t → AreHalves hs → number_of (swz_l w8 16 t 0 hs) ≡ polynomial_product 128 (number_of hs) a
row_at-product a t hs h r b =
    let e : 8 * length hs ≡ 128 = omega (arith, b.sixteen) in
    ap number_of (row_at a t hs r b) ∙ sym (number_of-product hs a h b.small) ∙ ap (λ (n : ℕ). polynomial_product n (number_of hs) a) e

pub row_at-bytes : (a : ℕ) (t hs : List ℕ) → a < 16 → IsRow a t → AreHalves hs → AreOctets (swz_l w8 16 t 0 hs)
row_at-bytes a t hs h r b = subst AreOctets (sym (row_at a t hs r b)) (AreOctets-products a hs h b.small)

pub halves_within : (hs : List ℕ) → AreHalves hs → SwzOk w8 16 16 0 hs
halves_within hs b = SwzOk-from_below w8 16 1 16 0 hs refl (omega (arith, b.sixteen)) (Each1-from_get_or (λ j. j < 16) hs 0 (λ i l. b.small i))
