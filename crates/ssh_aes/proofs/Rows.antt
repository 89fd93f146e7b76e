-- The products of a half with all halves, computed.
use Rattle.std.proofs.Common.{[], ◌∷◌, ◌≡◌, ℕ, ◌*◌, ◌<◌, List, replicate, slice_index, bit_and, true, eqb, refl, sym, ◌∙◌}
use Rattle.std.specs.Prelude.{bit_xor}
use Rattle.std.proofs.lemmas.Bool.{eqb-true}
use lib.Lanes.{zip2}
use Rattle.ssh_aes.specs.Field.{polynomial_product}
use Rattle.ssh_aes.specs.Halves.{row_of}
use Rattle.ssh_aes.proofs.Below.{all_below, all_below-at}
use Rattle.ssh_aes.proofs.Schedules.{bytes_by-same}
use Rattle.ssh_aes.proofs.Written.{sixteen-elements}

abbrev row : ℕ → List ℕ
row h =
    zip2 bit_xor
    (zip2 bit_xor
    (zip2 bit_xor
    (zip2 bit_and (replicate 16 h) (0 ∷ 255 ∷ 0 ∷ 255 ∷ 0 ∷ 255 ∷ 0 ∷ 255 ∷ 0 ∷ 255 ∷ 0 ∷ 255 ∷ 0 ∷ 255 ∷ 0 ∷ 255 ∷ []))
    (zip2 bit_and (replicate 16 (2 * h)) (0 ∷ 0 ∷ 255 ∷ 255 ∷ 0 ∷ 0 ∷ 255 ∷ 255 ∷ 0 ∷ 0 ∷ 255 ∷ 255 ∷ 0 ∷ 0 ∷ 255 ∷ 255 ∷ [])))
    (zip2 bit_and (replicate 16 (4 * h)) (0 ∷ 0 ∷ 0 ∷ 0 ∷ 255 ∷ 255 ∷ 255 ∷ 255 ∷ 0 ∷ 0 ∷ 0 ∷ 0 ∷ 255 ∷ 255 ∷ 255 ∷ 255 ∷ [])))
    (zip2 bit_and (replicate 16 (8 * h)) (0 ∷ 0 ∷ 0 ∷ 0 ∷ 0 ∷ 0 ∷ 0 ∷ 0 ∷ 255 ∷ 255 ∷ 255 ∷ 255 ∷ 255 ∷ 255 ∷ 255 ∷ 255 ∷ []))

row_test : all_below 16 (λ h. all_below 16 (λ x. eqb (slice_index (row h) x) (polynomial_product 8 x h))) ≡ true
unfolding polynomial_product
row_test = refl

entry-is : (h x : ℕ) → h < 16 → x < 16 → slice_index (row h) x ≡ polynomial_product 8 x h
entry-is h x l m = eqb-true _ _ (all_below-at 16 (λ x. eqb (slice_index (row h) x) (polynomial_product 8 x h)) (all_below-at 16 (λ h. all_below 16 (λ x. eqb (slice_index (row h) x) (polynomial_product 8 x h))) row_test h l) x m)

pub row-is : (h : ℕ) → h < 16 → row h ≡ row_of h
row-is h l = sym (sixteen-elements (row h) refl) ∙ bytes_by-same 16 (slice_index (row h)) (λ x. polynomial_product 8 x h) (λ x m. entry-is h x l m)
