-- Galois counter mode (SP 800-38D) over AES, with a nonce of 12 bytes and a tag of 16.
use Rattle.std.specs.Prelude.{ℕ, zero, suc, ◌+◌, ◌*◌, ◌/◌, ◌%◌, ◌^◌, List, [], ◌∷◌, ◌++◌, length, take, drop, replicate, fold, bit_xor, slice_index}
use Rattle.std.specs.Int.{w32, w64, w128, from_be_bytes, to_be_bytes, reverse_bits}
use Rattle.ssh_aes.specs.Field.{block_product}
use Rattle.ssh_aes.specs.Aes.{bytes_by, aes}
use Rattle.ssh_aes.specs.Modes.{block_sum}

-- a block as a polynomial: its first bit is the coefficient of x^0 (section 6.3)
unfoldable pub element : List ℕ → ℕ
element s = reverse_bits w128 (from_be_bytes w128 s)

-- the block of a polynomial
unfoldable pub element_block : ℕ → List ℕ
element_block e = to_be_bytes w128 (reverse_bits w128 e)

-- the hash key: the encryption of the zero block (section 7.1)
unfoldable pub hash_key : List ℕ → ℕ
hash_key key = element (aes key (replicate 16 0))

-- the first n blocks of s; what is missing from the last counts as zeros
unfoldable pub blocks : ℕ → List ℕ → List (List ℕ)
blocks zero s = []
blocks (suc n) s = take 16 s ∷ blocks n (drop 16 s)

-- s in blocks, the last filled up with zeros
abbrev pub padded_blocks : List ℕ → List (List ℕ)
padded_blocks s = blocks ((length s + 15) / 16) s

-- one step of the hash: the block is added and the sum multiplied (section 6.4)
abbrev pub hash_step : ℕ → ℕ → List ℕ → ℕ
hash_step h y s = block_product (bit_xor y (element s)) h

-- the hash of blocks under h, from y on (section 6.4)
abbrev pub hash_of_blocks : ℕ → ℕ → List (List ℕ) → ℕ
hash_of_blocks h y s = fold (hash_step h) y s

-- the block of both lengths in bits, each as 64 bits (section 7.1)
abbrev pub length_block : ℕ → ℕ → List ℕ
length_block aad text = to_be_bytes w64 (8 * aad % 2 ^ 64) ++ to_be_bytes w64 (8 * text % 2 ^ 64)

-- the blocks that the tag is made of: additional text, cipher text, lengths (section 7.1)
abbrev pub tag_blocks : List ℕ → List ℕ → List (List ℕ)
tag_blocks aad text = padded_blocks aad ++ padded_blocks text ++ length_block (length aad) (length text) ∷ []

-- the counter block of number n: the nonce and 32 bits (section 7.1)
abbrev pub nonce_block : List ℕ → ℕ → List ℕ
nonce_block nonce n = bytes_by 12 (λ i. slice_index nonce i) ++ to_be_bytes w32 (n % 2 ^ 32)

-- the encryption of counter block n
unfoldable pub nonce_stream : List ℕ → List ℕ → ℕ → List ℕ
nonce_stream key nonce n = aes key (nonce_block nonce n)

-- a text whose blocks are combined with counter blocks 2, 3, .. (section 7.1)
unfoldable pub gcm_counter_text : (key nonce text : List ℕ) → List ℕ
gcm_counter_text key nonce text =
    bytes_by (length text) (λ i. bit_xor (slice_index text i) (slice_index (nonce_stream key nonce (i / 16 + 2)) (i % 16)))

-- the cipher text of a text, which doesn't depend on the additional text (section 7.1)
abbrev pub gcm_text : (key nonce aad text : List ℕ) → List ℕ
gcm_text key nonce aad text = gcm_counter_text key nonce text

-- the text of a cipher text (section 7.2)
abbrev pub gcm_plain : (key nonce aad text : List ℕ) → List ℕ
gcm_plain key nonce aad text = gcm_counter_text key nonce text

-- the tag of a cipher text (section 7.1)
unfoldable pub cipher_tag : (key nonce aad text : List ℕ) → List ℕ
cipher_tag key nonce aad text =
    block_sum (element_block (hash_of_blocks (hash_key key) 0 (tag_blocks aad text))) (nonce_stream key nonce 1)

-- the tag of a text
abbrev pub gcm_tag : (key nonce aad text : List ℕ) → List ℕ
gcm_tag key nonce aad text = cipher_tag key nonce aad (gcm_text key nonce aad text)
