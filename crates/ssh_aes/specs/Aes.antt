-- AES (FIPS 197) as functions on lists of bytes. Byte r + 4 * c of a block stands in row r and
-- column c (section 3.4). Each is total: a missing byte is 0, and a block has always 16 bytes.
use Rattle.std.specs.Prelude.{ℕ, zero, suc, ◌+◌, ◌-◌, ◌*◌, ◌/◌, ◌%◌, ◌^◌, ◌==◌, ◌&&◌, nat_le, List, [], ◌∷◌, ◌++◌, length, map, sum, bit_xor, slice_index, if◌then◌else◌}
use Rattle.std.specs.Int.{bit_at}
use Rattle.std.specs.List.{range_with_len}
use Rattle.ssh_aes.specs.Field.{byte_product}

-- f 0, …, f (n - 1)
abbrev pub bytes_by : ℕ → (ℕ → ℕ) → List ℕ
bytes_by n f = map f (range_with_len 0 n)

-- the first n bytes of s
abbrev pub bytes_of : ℕ → List ℕ → List ℕ
bytes_of n s = bytes_by n (λ i. slice_index s i % 256)

-- the first block of s
abbrev pub block : List ℕ → List ℕ
block s = bytes_of 16 s

-- ---- the substitution (section 5.1.1)

-- f times the powers s, s^2, s^4, .. of which there are n
unfoldable pub times_squares : ℕ → ℕ → ℕ → ℕ
times_squares zero s f = f
times_squares (suc n) s f = times_squares n (byte_product s s) (byte_product s f)

-- the inverse in the field of bytes, and 0 for 0: b^254 = b^2 * b^4 * .. * b^128 (section 4.4)
abbrev pub inverse : ℕ → ℕ
inverse b = times_squares 7 (byte_product b b) 1

-- the byte whose bit i is f i modulo 2
abbrev pub from_bits : (ℕ → ℕ) → ℕ
from_bits f = sum (bytes_by 8 (λ i. f i % 2 * 2 ^ i))

-- the affine map (5.3)
abbrev pub affine : ℕ → ℕ
affine b = from_bits (λ i. bit_at b i + bit_at b ((i + 4) % 8) + bit_at b ((i + 5) % 8) + bit_at b ((i + 6) % 8) + bit_at b ((i + 7) % 8) + bit_at 0x63 i)

-- the inverse of the affine map
abbrev pub inverse_affine : ℕ → ℕ
inverse_affine b = from_bits (λ i. bit_at b ((i + 2) % 8) + bit_at b ((i + 5) % 8) + bit_at b ((i + 7) % 8) + bit_at 0x05 i)

-- the substitution of a byte
unfoldable pub substitute : ℕ → ℕ
substitute b = affine (inverse b)

-- the inverse of the substitution (section 5.3.2)
unfoldable pub inverse_substitute : ℕ → ℕ
inverse_substitute b = inverse (inverse_affine b)

-- ---- the steps of a round

-- SubBytes: each byte is substituted (section 5.1.1)
unfoldable pub sub_bytes : List ℕ → List ℕ
sub_bytes s = bytes_by 16 (λ i. substitute (slice_index s i))

-- ShiftRows: row r goes r places to the left (section 5.1.2)
unfoldable pub shift_rows : List ℕ → List ℕ
shift_rows s = bytes_by 16 (λ i. slice_index s ((i + 4 * (i % 4)) % 16))

-- a combination of four bytes
abbrev pub mixed_byte : (j k l m a b c d : ℕ) → ℕ
mixed_byte j k l m a b c d = bit_xor (bit_xor (byte_product j a) (byte_product k b)) (bit_xor (byte_product l c) (byte_product m d))

-- MixColumns on one column (section 5.1.3)
unfoldable pub mixed_column : (a b c d : ℕ) → List ℕ
mixed_column a b c d = mixed_byte 2 3 1 1 a b c d ∷ mixed_byte 1 2 3 1 a b c d ∷ mixed_byte 1 1 2 3 a b c d ∷ mixed_byte 3 1 1 2 a b c d ∷ []

-- f of each column, one after another
abbrev pub by_columns : (ℕ → ℕ → ℕ → ℕ → List ℕ) → List ℕ → List ℕ
by_columns f s =
    f (slice_index s 0) (slice_index s 1) (slice_index s 2) (slice_index s 3)
    ++ f (slice_index s 4) (slice_index s 5) (slice_index s 6) (slice_index s 7)
    ++ f (slice_index s 8) (slice_index s 9) (slice_index s 10) (slice_index s 11)
    ++ f (slice_index s 12) (slice_index s 13) (slice_index s 14) (slice_index s 15)

-- MixColumns (section 5.1.3)
unfoldable pub mix_columns : List ℕ → List ℕ
mix_columns s = by_columns mixed_column s

-- AddRoundKey: with the four words of the schedule w that belong to a round (section 5.1.4)
unfoldable pub add_round_key : List ℕ → ℕ → List ℕ → List ℕ
add_round_key w round s = bytes_by 16 (λ i. bit_xor (slice_index s i) (slice_index w (16 * round + i)))

-- ---- the key schedule (section 5.2)

-- the number of words of a key: 4, 6 or 8
abbrev pub key_words : List ℕ → ℕ
key_words key = if nat_le (length key) 16 then 4 else (if nat_le (length key) 24 then 6 else 8)

-- the round constant of number n + 1: x^n (5.5)
unfoldable pub round_constant : ℕ → ℕ
round_constant zero = 1
round_constant (suc n) = byte_product 2 (round_constant n)

-- byte j of word i of the schedule w
abbrev pub word_byte : List ℕ → ℕ → ℕ → ℕ
word_byte w i j = slice_index w (4 * i + j)

-- the sum of a word of the schedule w and four bytes
abbrev pub plus_word : List ℕ → ℕ → (a b c d : ℕ) → List ℕ
plus_word w i a b c d = bit_xor (word_byte w i 0) a ∷ bit_xor (word_byte w i 1) b ∷ bit_xor (word_byte w i 2) c ∷ bit_xor (word_byte w i 3) d ∷ []

-- word i from the words before it, at a key of n words (Algorithm 2)
unfoldable pub next_word : ℕ → List ℕ → ℕ → List ℕ
next_word n w i =
    if i % n == 0
    then plus_word w (i - n)
    (bit_xor (substitute (word_byte w (i - 1) 1)) (round_constant (i / n - 1)))
    (substitute (word_byte w (i - 1) 2))
    (substitute (word_byte w (i - 1) 3))
    (substitute (word_byte w (i - 1) 0))
    else (if n == 8 && i % 8 == 4
    then plus_word w (i - n)
    (substitute (word_byte w (i - 1) 0))
    (substitute (word_byte w (i - 1) 1))
    (substitute (word_byte w (i - 1) 2))
    (substitute (word_byte w (i - 1) 3))
    else plus_word w (i - n) (word_byte w (i - 1) 0) (word_byte w (i - 1) 1) (word_byte w (i - 1) 2) (word_byte w (i - 1) 3))

-- the schedule w with word i behind it
abbrev pub with_word : ℕ → ℕ → List ℕ → List ℕ
with_word n i w = w ++ next_word n w i

-- the key, then k words more
unfoldable pub schedule : ℕ → List ℕ → ℕ → List ℕ
schedule n key zero = bytes_of (4 * n) key
schedule n key (suc k) = with_word n (n + k) (schedule n key k)

-- the schedule of all rounds, four words a round and four before the first: 4 * (n + 7) words
unfoldable pub expanded_key : List ℕ → List ℕ
expanded_key key = schedule (key_words key) key (3 * key_words key + 28)

-- ---- the cipher and its inverse

-- the state after the first key and k whole rounds (Algorithm 1)
unfoldable pub rounds : List ℕ → ℕ → List ℕ → List ℕ
rounds w zero s = add_round_key w 0 s
rounds w (suc k) s = add_round_key w (suc k) (mix_columns (shift_rows (sub_bytes (rounds w k s))))

-- the cipher under the schedule w, with k whole rounds and one without MixColumns (Algorithm 1)
unfoldable pub cipher : List ℕ → ℕ → List ℕ → List ℕ
cipher w k s = add_round_key w (k + 1) (shift_rows (sub_bytes (rounds w k s)))

-- the encryption of a block
unfoldable pub aes : List ℕ → List ℕ → List ℕ
aes key s = cipher (expanded_key key) (key_words key + 5) (block s)

-- InvShiftRows: row r goes r places to the right (section 5.3.1)
unfoldable pub inverse_shift_rows : List ℕ → List ℕ
inverse_shift_rows s = bytes_by 16 (λ i. slice_index s ((i + 12 * (i % 4)) % 16))

-- InvSubBytes (section 5.3.2)
unfoldable pub inverse_sub_bytes : List ℕ → List ℕ
inverse_sub_bytes s = bytes_by 16 (λ i. inverse_substitute (slice_index s i))

-- InvMixColumns on one column (section 5.3.3)
unfoldable pub unmixed_column : (a b c d : ℕ) → List ℕ
unmixed_column a b c d = mixed_byte 14 11 13 9 a b c d ∷ mixed_byte 9 14 11 13 a b c d ∷ mixed_byte 13 9 14 11 a b c d ∷ mixed_byte 11 13 9 14 a b c d ∷ []

-- InvMixColumns (section 5.3.3)
unfoldable pub inverse_mix_columns : List ℕ → List ℕ
inverse_mix_columns s = by_columns unmixed_column s

-- what undoes k whole rounds and a last one, from behind the last AddRoundKey (Algorithm 3)
unfoldable pub inverse_rounds : List ℕ → ℕ → List ℕ → List ℕ
inverse_rounds w zero s = add_round_key w 0 (inverse_sub_bytes (inverse_shift_rows s))
inverse_rounds w (suc k) s = inverse_rounds w k (inverse_mix_columns (add_round_key w (suc k) (inverse_sub_bytes (inverse_shift_rows s))))

-- the inverse cipher (Algorithm 3)
unfoldable pub inverse_cipher : List ℕ → ℕ → List ℕ → List ℕ
inverse_cipher w k s = inverse_rounds w k (add_round_key w (k + 1) s)

-- the decryption of a block
unfoldable pub inverse_aes : List ℕ → List ℕ → List ℕ
inverse_aes key s = inverse_cipher (expanded_key key) (key_words key + 5) (block s)
