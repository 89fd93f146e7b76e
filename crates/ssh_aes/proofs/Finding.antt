-- The places of inverses, found lane by lane.
use Rattle.std.proofs.Common.{◌≡◌, ℕ, ◌/◌, ◌%◌, ◌^◌, ◌<◌, true, List, length, replicate, slice_index, bit_and, arith, refl, sym, subst}
use Rattle.std.specs.Prelude.{bit_xor}
use Rattle.std.specs.Bool.{IsTrue}
use lib.Lanes.{zip2}
use Rattle.ssh_aes.specs.Aes.{bytes_by}
use Rattle.ssh_aes.specs.Laws.{AreOctets}
use Rattle.ssh_aes.proofs.Below.{all_below, all_below-at}
use Rattle.ssh_aes.specs.declared.vector_tables.TheConstants.{INVERSES, RATIOS}
use Rattle.ssh_aes.specs.Reads.{ArePlaces, is_place, read_at, read_halves, first_place, second_place}
use Rattle.ssh_aes.proofs.Sixteens.{low_halves, high_halves, places_by}
use Rattle.ssh_aes.proofs.Boxes.{first_is_place, second_is_place}

abbrev pub lows : List ℕ → List ℕ
lows v = zip2 bit_and v (replicate 16 15)

abbrev pub highs : List ℕ → List ℕ
highs v = zip2 (λ a b. a / 2 ^ b) v (replicate 16 4)

abbrev pub boths : List ℕ → List ℕ
boths v = zip2 bit_xor (lows v) (highs v)

small_test : all_below 16 is_place ≡ true
small_test = refl

pub small_place : (j : ℕ) → j < 16 → IsTrue (is_place j)
small_place j h = all_below-at 16 is_place small_test j h

abbrev both : ℕ → ℕ
both b = bit_xor (b % 16) (b / 16)

both_test : all_below 256 (λ b. is_place (both b)) ≡ true
both_test = refl

abbrev first_index : ℕ → ℕ
first_index b = bit_xor (read_at INVERSES (b / 16)) (read_at RATIOS (b % 16))

first_index_test : all_below 256 (λ b. is_place (first_index b)) ≡ true
first_index_test = refl

abbrev second_index : ℕ → ℕ
second_index b = bit_xor (read_at INVERSES (both b)) (read_at RATIOS (b % 16))

second_index_test : all_below 256 (λ b. is_place (second_index b)) ≡ true
second_index_test = refl

pub low_places : (v : List ℕ) → length v ≡ 16 → ArePlaces (lows v)
low_places v h = subst ArePlaces (sym (low_halves v h)) (places_by (λ i. slice_index v i % 16) (λ i l. small_place (slice_index v i % 16) (omega arith)))

pub high_places : (v : List ℕ) → length v ≡ 16 → AreOctets v → ArePlaces (highs v)
high_places v h o = subst ArePlaces (sym (high_halves v h)) (places_by (λ i. slice_index v i / 16) (λ i l. small_place (slice_index v i / 16) (omega (arith, o i))))

both_is : (v : List ℕ) → length v ≡ 16 → boths v ≡ bytes_by 16 (λ i. both (slice_index v i))
both_is v h = rw (low_halves v h, high_halves v h) refl

places_of_test : (f : ℕ → ℕ) → all_below 256 (λ b. is_place (f b)) ≡ true → (v u : List ℕ) → AreOctets v → u ≡ bytes_by 16 (λ i. f (slice_index v i)) → ArePlaces u
places_of_test f t v u o e = subst ArePlaces (sym e) (places_by (λ i. f (slice_index v i)) (λ i l. all_below-at 256 (λ b. is_place (f b)) t (slice_index v i) (o i)))

pub both_places : (v : List ℕ) → length v ≡ 16 → AreOctets v → ArePlaces (boths v)
both_places v h o = places_of_test both both_test v (boths v) o (both_is v h)

first_index_is : (v i r : List ℕ) → length v ≡ 16 → i ≡ bytes_by 16 (λ k. read_at INVERSES (slice_index (highs v) k)) → r ≡ bytes_by 16 (λ k. read_at RATIOS (slice_index (lows v) k)) → zip2 bit_xor i r ≡ bytes_by 16 (λ k. first_index (slice_index v k))
first_index_is v i r h e f = rw (e, f, low_halves v h, high_halves v h) refl

second_index_is : (v i r : List ℕ) → length v ≡ 16 → i ≡ bytes_by 16 (λ k. read_at INVERSES (slice_index (boths v) k)) → r ≡ bytes_by 16 (λ k. read_at RATIOS (slice_index (lows v) k)) → zip2 bit_xor i r ≡ bytes_by 16 (λ k. second_index (slice_index v k))
second_index_is v i r h e f = rw (e, f, both_is v h, low_halves v h) refl

pub first_index_places : (v i r : List ℕ) → length v ≡ 16 → AreOctets v → i ≡ bytes_by 16 (λ k. read_at INVERSES (slice_index (highs v) k)) → r ≡ bytes_by 16 (λ k. read_at RATIOS (slice_index (lows v) k)) → ArePlaces (zip2 bit_xor i r)
first_index_places v i r h o e f = places_of_test first_index first_index_test v (zip2 bit_xor i r) o (first_index_is v i r h e f)

pub second_index_places : (v i r : List ℕ) → length v ≡ 16 → AreOctets v → i ≡ bytes_by 16 (λ k. read_at INVERSES (slice_index (boths v) k)) → r ≡ bytes_by 16 (λ k. read_at RATIOS (slice_index (lows v) k)) → ArePlaces (zip2 bit_xor i r)
second_index_places v i r h o e f = places_of_test second_index second_index_test v (zip2 bit_xor i r) o (second_index_is v i r h e f)

pub firsts_are : (v i r j : List ℕ) → length v ≡ 16 → i ≡ bytes_by 16 (λ k. read_at INVERSES (slice_index (highs v) k)) → r ≡ bytes_by 16 (λ k. read_at RATIOS (slice_index (lows v) k))
    → j ≡ bytes_by 16 (λ k. read_at INVERSES (slice_index (zip2 bit_xor i r) k)) → zip2 bit_xor j (boths v) ≡ bytes_by 16 (λ k. first_place (slice_index v k))
unfolding first_place
firsts_are v i r j h e f g = rw (g, first_index_is v i r h e f, both_is v h) refl

pub seconds_are : (v i r j : List ℕ) → length v ≡ 16 → i ≡ bytes_by 16 (λ k. read_at INVERSES (slice_index (boths v) k)) → r ≡ bytes_by 16 (λ k. read_at RATIOS (slice_index (lows v) k))
    → j ≡ bytes_by 16 (λ k. read_at INVERSES (slice_index (zip2 bit_xor i r) k)) → zip2 bit_xor j (highs v) ≡ bytes_by 16 (λ k. second_place (slice_index v k))
unfolding second_place
seconds_are v i r j h e f g = rw (g, second_index_is v i r h e f, high_halves v h) refl

pub first_places : (v u : List ℕ) → AreOctets v → u ≡ bytes_by 16 (λ k. first_place (slice_index v k)) → ArePlaces u
first_places v u o e = subst ArePlaces (sym e) (places_by (λ i. first_place (slice_index v i)) (λ i l. first_is_place (slice_index v i) (o i)))

pub second_places : (v u : List ℕ) → AreOctets v → u ≡ bytes_by 16 (λ k. second_place (slice_index v k)) → ArePlaces u
second_places v u o e = subst ArePlaces (sym e) (places_by (λ i. second_place (slice_index v i)) (λ i l. second_is_place (slice_index v i) (o i)))

pub halves_are : (low high v a b : List ℕ) → length v ≡ 16 → a ≡ bytes_by 16 (λ k. read_at low (slice_index (lows v) k)) → b ≡ bytes_by 16 (λ k. read_at high (slice_index (highs v) k))
    → zip2 bit_xor a b ≡ bytes_by 16 (λ k. read_halves low high (slice_index v k))
unfolding read_halves
halves_are low high v a b h e f = rw (e, f, low_halves v h, high_halves v h) refl
