-- The laws of Galois counter mode.
use Rattle.std.proofs.Common.{[], ◌∷◌, ◌++◌, ◌≡◌, ℕ, zero, suc, ◌+◌, ◌/◌, ◌%◌, ◌-◌, ◌<◌, ◌≤◌, ◌*◌, List, length, take, drop, slice_index, arith, sym, ap, ◌∙◌}
use Rattle.std.specs.Prelude.{bit_xor}
use Rattle.std.specs.Int.{w128, sum_through, byte_worth, reverse_bits}
use Rattle.std.proofs.lemmas.List.{get_or-take, get_or-drop, drop-drop}
use Rattle.std.proofs.lemmas.List.Sums.{fold-append}
use Rattle.std.proofs.lemmas.List.FromFn.{fill_by_all}
use Rattle.ssh_aes.specs.Aes.{bytes_by}
use Rattle.ssh_aes.specs.Gcm.{nonce_block, nonce_stream, gcm_counter_text, cipher_tag, element, element_block, hash_of_blocks, hash_step, hash_key, tag_blocks, blocks, padded_blocks, length_block}
use Rattle.ssh_aes.specs.Laws.{AreOctets, GcmWell, GcmClosesWell}
use Rattle.ssh_aes.proofs.Inverses.{AreOctets-bytes_by, aes-block, xor-lt}
use Rattle.ssh_aes.proofs.Polynomials.{xor_cancel}
use Rattle.ssh_aes.proofs.Schedules.{length-bytes_by, bytes_by-at}
use Rattle.ssh_aes.proofs.Running.{all-bytes_by}

pub length-gcm_counted : (key nonce t : List ℕ) → length (gcm_counter_text key nonce t) ≡ length t
unfolding gcm_counter_text
length-gcm_counted key nonce t = length-bytes_by (length t) (λ i. bit_xor (slice_index t i) (slice_index (nonce_stream key nonce (i / 16 + 2)) (i % 16)))

gcm_counted-at : (key nonce t : List ℕ) (i : ℕ) → i < length t → slice_index (gcm_counter_text key nonce t) i ≡ bit_xor (slice_index t i) (slice_index (nonce_stream key nonce (i / 16 + 2)) (i % 16))
unfolding gcm_counter_text
gcm_counted-at key nonce t i h = bytes_by-at (length t) (λ j. bit_xor (slice_index t j) (slice_index (nonce_stream key nonce (j / 16 + 2)) (j % 16))) i h

pub gcm_counted-back : (key nonce t : List ℕ) → gcm_counter_text key nonce (gcm_counter_text key nonce t) ≡ t
gcm_counted-back key nonce t =
    let l = length-gcm_counted key nonce t in
    let m = length-gcm_counted key nonce (gcm_counter_text key nonce t) in
    fill_by_all (slice_index t) (gcm_counter_text key nonce (gcm_counter_text key nonce t)) (length t) 0 (m ∙ l)
    (λ i h. gcm_counted-at key nonce (gcm_counter_text key nonce t) i (omega arith) ∙ ap (λ x. bit_xor x (slice_index (nonce_stream key nonce (i / 16 + 2)) (i % 16))) (gcm_counted-at key nonce t i h) ∙ xor_cancel (slice_index t i) (slice_index (nonce_stream key nonce (i / 16 + 2)) (i % 16)))
    ∙ all-bytes_by t

length-cipher_tag : (key nonce aad t : List ℕ) → length (cipher_tag key nonce aad t) ≡ 16
unfolding cipher_tag
length-cipher_tag key nonce aad t =
    let a = element_block (hash_of_blocks (hash_key key) 0 (tag_blocks aad t)) in
    length-bytes_by 16 (λ i. bit_xor (slice_index a i) (slice_index (nonce_stream key nonce 1) i))

pub gcm_well : (key nonce : List ℕ) → GcmWell key nonce
gcm_well key nonce = record {
  same_length = λ aad t. length-gcm_counted key nonce t;
  injective = λ aad s t b c l e. sym (gcm_counted-back key nonce s) ∙ ap (gcm_counter_text key nonce) e ∙ gcm_counted-back key nonce t;
  tag = λ aad t. length-cipher_tag key nonce aad (gcm_counter_text key nonce t);
  opens = λ aad t b. gcm_counted-back key nonce t;
}

nonce_stream-bytes : (key nonce : List ℕ) (n : ℕ) → AreOctets (nonce_stream key nonce n)
unfolding nonce_stream
nonce_stream-bytes key nonce n = let b = aes-block key (nonce_block nonce n) in b.bytes

gcm_counted-bytes : (key nonce c : List ℕ) → AreOctets c → AreOctets (gcm_counter_text key nonce c)
unfolding gcm_counter_text
gcm_counted-bytes key nonce c b = AreOctets-bytes_by (length c) _ (λ i l. xor-lt _ _ (b i) (nonce_stream-bytes key nonce (i / 16 + 2) (i % 16)))

pub gcm_closes_well : (key nonce : List ℕ) → GcmClosesWell key nonce
gcm_closes_well key nonce = record {
  same_length = λ aad c. length-gcm_counted key nonce c;
  bytes = λ aad c b. gcm_counted-bytes key nonce c b;
  closes = λ aad c. gcm_counted-back key nonce c;
  tag = λ aad c. ap (cipher_tag key nonce aad) (gcm_counted-back key nonce c);
}

-- ---- a block as a number

sum_through-same : (f g : ℕ → ℕ) (k : ℕ) → ((i : ℕ) → i ≤ k → f i ≡ g i) → sum_through f k ≡ sum_through g k
sum_through-same f g zero h = h 0 (omega arith)
sum_through-same f g (suc k) h =
    ap (λ x. x + f (suc k)) (sum_through-same f g k (λ i l. h i (omega arith))) ∙ ap (λ x. sum_through g k + x) (h (suc k) (omega arith))

pub element-same : (s t : List ℕ) → ((i : ℕ) → i < 16 → slice_index s i ≡ slice_index t i) → element s ≡ element t
unfolding element
element-same s t h =
    ap (reverse_bits w128) (sum_through-same (λ i. byte_worth (16 - 1 - i) (slice_index s i)) (λ i. byte_worth (16 - 1 - i) (slice_index t i)) 15 (λ i l. ap (byte_worth (16 - 1 - i)) (h i (omega arith))))

-- ---- the hash, block by block

-- a block cut out by index, filled up with zeros
pub cut-element : (b : List ℕ) (at : ℕ) → element (bytes_by 16 (λ i. slice_index b (at + i))) ≡ element (take 16 (drop at b))
cut-element b at =
    element-same (bytes_by 16 (λ i. slice_index b (at + i))) (take 16 (drop at b))
    (λ i l. bytes_by-at 16 (λ j. slice_index b (at + j)) i l ∙ sym (get_or-take 16 (drop at b) i 0 l ∙ get_or-drop at b i 0))

-- one block more
pub hash_of_blocks-more : (h y v total : ℕ) (b : List ℕ) (k n : ℕ) → k < n → v ≡ hash_step h y (take 16 (drop (16 * k) b))
    → hash_of_blocks h y (blocks (n - k) (drop (16 * k) b)) ≡ total → hash_of_blocks h v (blocks (n - (k + 1)) (drop (16 * (k + 1)) b)) ≡ total
unfolding blocks
hash_of_blocks-more h y v total b k n l e i =
    let f : n - k ≡ suc (n - (k + 1)) = omega arith in
    let g : 16 * (k + 1) ≡ 16 * k + 16 = omega arith in
    ap (λ j. hash_of_blocks h v (blocks (n - (k + 1)) (drop j b))) g
    ∙ ap (λ x. hash_of_blocks h v (blocks (n - (k + 1)) x)) (sym (drop-drop 16 (16 * k) b))
    ∙ ap (λ x. hash_of_blocks h x (blocks (n - (k + 1)) (drop 16 (drop (16 * k) b)))) e
    ∙ ap (λ j. hash_of_blocks h y (blocks j (drop (16 * k) b))) (sym f)
    ∙ i

pub hash_of_blocks-done : (h y total : ℕ) (b : List ℕ) (k n : ℕ) → n ≤ k → hash_of_blocks h y (blocks (n - k) (drop (16 * k) b)) ≡ total → y ≡ total
unfolding blocks
hash_of_blocks-done h y total b k n l i = let f : n - k ≡ 0 = omega arith in ap (λ j. hash_of_blocks h y (blocks j (drop (16 * k) b))) (sym f) ∙ i

-- the hash of all that the tag is made of, in three parts
pub hash_of_blocks-tag : (h : ℕ) (aad text : List ℕ) → hash_step h (hash_of_blocks h (hash_of_blocks h 0 (padded_blocks aad)) (padded_blocks text)) (length_block (length aad) (length text)) ≡ hash_of_blocks h 0 (tag_blocks aad text)
hash_of_blocks-tag h aad text =
    sym (fold-append (hash_step h) 0 (padded_blocks aad ++ padded_blocks text) (length_block (length aad) (length text) ∷ [])
    ∙ ap (λ y. hash_step h y (length_block (length aad) (length text))) (fold-append (hash_step h) 0 (padded_blocks aad) (padded_blocks text)))
