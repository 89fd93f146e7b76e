-- Bytes in the bases of the rounds, and what they stand for.
use Rattle.std.specs.Prelude.{ℕ, List, [], ◌∷◌, bit_xor, slice_index}
use Rattle.ssh_aes.specs.Aes.{bytes_by}
use Rattle.ssh_aes.specs.declared.vector_tables.TheConstants.{LEFT_LOW, LEFT_HIGH}
use Rattle.ssh_aes.specs.Reads.{read_halves}

-- the byte that stands in the basis of encryption
unfoldable pub leave : ℕ → ℕ
leave b = read_halves LEFT_LOW LEFT_HIGH b

-- the byte that stands in the basis of decryption
unfoldable pub inverse_leave : ℕ → ℕ
inverse_leave b =
    read_halves
    (0 ∷ 31 ∷ 178 ∷ 173 ∷ 171 ∷ 180 ∷ 25 ∷ 6 ∷ 54 ∷ 41 ∷ 132 ∷ 155 ∷ 157 ∷ 130 ∷ 47 ∷ 48 ∷ [])
    (0 ∷ 231 ∷ 73 ∷ 174 ∷ 115 ∷ 148 ∷ 58 ∷ 221 ∷ 233 ∷ 14 ∷ 160 ∷ 71 ∷ 154 ∷ 125 ∷ 211 ∷ 52 ∷ [])
    b

-- a byte of a key: its sum with 0x63 is held
abbrev pub key_byte : ℕ → ℕ
key_byte b = bit_xor (leave b) 0x63

-- a byte of a state or a key of decryption: its sum with 0x63 is held
abbrev pub inverse_byte : ℕ → ℕ
inverse_byte b = bit_xor (inverse_leave b) 0x63

-- the state that stands in the basis of encryption
abbrev pub left : List ℕ → List ℕ
left s = bytes_by 16 (λ i. leave (slice_index s i))

-- the state that stands in the basis of decryption
abbrev pub inverse_left : List ℕ → List ℕ
inverse_left s = bytes_by 16 (λ i. inverse_byte (slice_index s i))

-- the key of a round that is held for encryption
abbrev pub key_bytes : List ℕ → List ℕ
key_bytes s = bytes_by 16 (λ i. key_byte (slice_index s i))

-- the key of a round that is held for decryption
abbrev pub inverse_key_bytes : List ℕ → List ℕ
inverse_key_bytes s = bytes_by 16 (λ i. inverse_byte (slice_index s i))

-- the schedule that the keys of encryption stand for
unfoldable pub keys_left : List ℕ → List ℕ
keys_left keys = bytes_by 240 (λ i. key_byte (slice_index keys i))

-- the schedule that the keys of decryption stand for
unfoldable pub inverse_keys_left : List ℕ → List ℕ
inverse_keys_left keys = bytes_by 240 (λ i. inverse_byte (slice_index keys i))
