-- Counter mode and chaining mode (SP 800-38A) over AES. A text is a list of bytes of any length.
use Rattle.std.specs.Prelude.{ℕ, zero, suc, ◌+◌, ◌/◌, ◌%◌, ◌^◌, List, ◌++◌, length, take, drop, bit_xor, slice_index}
use Rattle.std.specs.Int.{w128, from_be_bytes, to_be_bytes}
use Rattle.ssh_aes.specs.Aes.{bytes_by, block, aes, inverse_aes}

-- how a block cipher runs on: a place in a key stream, or the last cipher block
pub data Running : Type 0 where
  Ctr : (key iv : List ℕ) (place : ℕ) → Running
  Cbc : (key last : List ℕ) → Running

-- the sum of two blocks
abbrev pub block_sum : List ℕ → List ℕ → List ℕ
block_sum a b = bytes_by 16 (λ i. bit_xor (slice_index a i) (slice_index b i))

-- ---- counter mode (SP 800-38A section 6.5)

-- counter block n: iv + n modulo 2^128, the highest byte first
abbrev pub counter_block : List ℕ → ℕ → List ℕ
counter_block iv n = to_be_bytes w128 ((from_be_bytes w128 iv + n) % 2 ^ 128)

-- block n of the key stream
unfoldable pub stream_block : List ℕ → List ℕ → ℕ → List ℕ
stream_block key iv n = aes key (counter_block iv n)

-- byte q of the key stream
abbrev pub stream_byte : List ℕ → List ℕ → ℕ → ℕ
stream_byte key iv q = slice_index (stream_block key iv (q / 16)) (q % 16)

-- a text at a place of the key stream; places count modulo 2^64
unfoldable pub counter_text : List ℕ → List ℕ → ℕ → List ℕ → List ℕ
counter_text key iv place text =
    bytes_by (length text) (λ i. bit_xor (slice_index text i) (stream_byte key iv ((place + i) % 2 ^ 64)))

-- ---- chaining mode (SP 800-38A section 6.2)

-- the cipher block of the text's first block
abbrev pub chained_block : List ℕ → List ℕ → List ℕ → List ℕ
chained_block key last text = aes key (block_sum (block text) (block last))

-- n blocks of a text, chained; the rest stays as it is
unfoldable pub chained_text : List ℕ → List ℕ → ℕ → List ℕ → List ℕ
chained_text key last zero text = text
chained_text key last (suc n) text =
    chained_block key last text ++ chained_text key (chained_block key last text) n (drop 16 text)

-- n blocks of a cipher text, decrypted; the rest stays as it is
unfoldable pub unchained_text : List ℕ → List ℕ → ℕ → List ℕ → List ℕ
unchained_text key last zero text = text
unchained_text key last (suc n) text =
    block_sum (inverse_aes key text) (block last) ++ unchained_text key (take 16 text) n (drop 16 text)

-- the last of n cipher blocks, or the one before them
unfoldable pub last_block : List ℕ → ℕ → List ℕ → List ℕ
last_block last zero text = last
last_block last (suc n) text = last_block (take 16 text) n (drop 16 text)

-- ---- both modes

-- a text encrypted
abbrev pub masked_text : Running → List ℕ → List ℕ
masked_text (Ctr key iv place) text = counter_text key iv place text
masked_text (Cbc key last) text = chained_text key last (length text / 16) text

-- a cipher text decrypted
abbrev pub unmasked_text : Running → List ℕ → List ℕ
unmasked_text (Ctr key iv place) text = counter_text key iv place text
unmasked_text (Cbc key last) text = unchained_text key last (length text / 16) text

-- how the cipher runs on after a cipher text
abbrev pub running_past : Running → List ℕ → Running
running_past (Ctr key iv place) text = Ctr key iv ((place + length text) % 2 ^ 64)
running_past (Cbc key last) text = Cbc key (last_block last (length text / 16) text)

-- how the cipher runs on after a text that was encrypted
abbrev pub running_after : Running → List ℕ → Running
running_after running text = running_past running (masked_text running text)

-- how many bytes of a text have to be there for its first four to be read
abbrev pub shortest_text : Running → ℕ
shortest_text (Ctr key iv place) = 4
shortest_text (Cbc key last) = 16
