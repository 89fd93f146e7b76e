-- What is true of the block cipher and of its modes.
use Rattle.std.specs.Prelude.{◌≡◌, ℕ, ◌*◌, ◌^◌, ◌<◌, ◌≤◌, List, ◌++◌, length, take, drop, replicate, slice_index}
use Rattle.std.specs.Int.{w128, from_be_bytes, to_be_bytes}
use Rattle.ssh_aes.specs.Aes.{aes, inverse_aes}
use Rattle.ssh_aes.specs.Modes.{Running, masked_text, unmasked_text, running_after, running_past, shortest_text}
use Rattle.ssh_aes.specs.Gcm.{gcm_text, gcm_tag, gcm_plain, cipher_tag}

-- each element is a byte
abbrev pub AreOctets : List ℕ → Type 0
AreOctets bytes = (i : ℕ) → slice_index bytes i < 256

-- decryption undoes encryption, under every key
abbrev pub BlocksUndone : Type 0
BlocksUndone = (key s : List ℕ) → AreOctets s → length s ≡ 16 → inverse_aes key (aes key s) ≡ s

-- and encryption undoes decryption
abbrev pub BlocksRedone : Type 0
BlocksRedone = (key s : List ℕ) → AreOctets s → length s ≡ 16 → aes key (inverse_aes key s) ≡ s

-- masking keeps the length, tells texts apart, and shows the first four bytes at the front
pub record RunsWell (r : Running) : Type 0 where
  pub same_length : (t : List ℕ) → length (masked_text r t) ≡ length t
  pub injective : (s t : List ℕ) → AreOctets s → AreOctets t → length s ≡ length t → masked_text r s ≡ masked_text r t → s ≡ t
  pub front : (s t x y : List ℕ) → AreOctets s → AreOctets t → shortest_text r ≤ length s → shortest_text r ≤ length t → masked_text r s ++ x ≡ masked_text r t ++ y → take 4 s ≡ take 4 t

-- opening undoes masking and leaves the same state, and the first block gives the first four bytes
pub record OpensWell (r : Running) : Type 0 where
  pub opens : (t : List ℕ) → AreOctets t → unmasked_text r (masked_text r t) ≡ t
  pub leaves : (t : List ℕ) → running_past r (masked_text r t) ≡ running_after r t
  pub early : (t x : List ℕ) → AreOctets t → shortest_text r ≤ length t → 16 ≤ length (masked_text r t ++ x) → take 4 (unmasked_text r (take 16 (masked_text r t ++ x))) ≡ take 4 t

-- Masking undoes opening of any bytes and leaves the same state, and the first block of any bytes gives the first four
-- that are opened.
pub record ClosesWell (r : Running) : Type 0 where
  pub same_length : (c : List ℕ) → length (unmasked_text r c) ≡ length c
  pub bytes : (c : List ℕ) → AreOctets c → AreOctets (unmasked_text r c)
  pub closes : (c : List ℕ) → AreOctets c → masked_text r (unmasked_text r c) ≡ c
  pub leaves : (c : List ℕ) → AreOctets c → running_after r (unmasked_text r c) ≡ running_past r c
  pub early : (c x : List ℕ) → shortest_text r ≤ length c → 16 ≤ length (c ++ x) → take 4 (unmasked_text r (take 16 (c ++ x))) ≡ take 4 (unmasked_text r c)

-- a front of whole blocks of a masked text is the masked front
abbrev pub FrontsKept : Type 0
FrontsKept = (r : Running) (k : ℕ) (t : List ℕ) → take (16 * k) (masked_text r t) ≡ masked_text r (take (16 * k) t)

-- sealing keeps the length, tells texts apart and makes a tag of 16 bytes, and opening undoes it
pub record GcmWell (key nonce : List ℕ) : Type 0 where
  pub same_length : (aad t : List ℕ) → length (gcm_text key nonce aad t) ≡ length t
  pub injective : (aad s t : List ℕ) → AreOctets s → AreOctets t → length s ≡ length t → gcm_text key nonce aad s ≡ gcm_text key nonce aad t → s ≡ t
  pub tag : (aad t : List ℕ) → length (gcm_tag key nonce aad t) ≡ 16
  pub opens : (aad t : List ℕ) → AreOctets t → gcm_plain key nonce aad (gcm_text key nonce aad t) ≡ t

-- sealing undoes opening of any bytes, and makes the tag that they have
pub record GcmClosesWell (key nonce : List ℕ) : Type 0 where
  pub same_length : (aad c : List ℕ) → length (gcm_plain key nonce aad c) ≡ length c
  pub bytes : (aad c : List ℕ) → AreOctets c → AreOctets (gcm_plain key nonce aad c)
  pub closes : (aad c : List ℕ) → gcm_text key nonce aad (gcm_plain key nonce aad c) ≡ c
  pub tag : (aad c : List ℕ) → gcm_tag key nonce aad (gcm_plain key nonce aad c) ≡ cipher_tag key nonce aad c

-- two ciphers at equal states: one decrypts what the other encrypts, whatever the length, and they
-- are at equal states again
pub record IsUndone {S : Type 0} (running : S → Running) (s t : S) (text : List ℕ) : Type 0 where
  pub text_is : unmasked_text (running t) (masked_text (running s) text) ≡ text
  pub state_is : running_past (running t) (masked_text (running s) text) ≡ running_after (running s) text

-- so do all ciphers of a type
abbrev pub StreamsUndone : {S : Type 0} → (S → Running) → Type 0
StreamsUndone {S} running = (s t : S) (text : List ℕ) → running s ≡ running t → AreOctets text → IsUndone running s t text

-- the sixteen bytes of a number spell it
abbrev pub NumberSpelled : Type 0
NumberSpelled = (n : ℕ) → n < 2 ^ 128 → from_be_bytes w128 (to_be_bytes w128 n) ≡ n

-- a number below 2^96 has twelve bytes: the first four of sixteen are zeros
abbrev pub TwelveBytes : Type 0
TwelveBytes = (n : ℕ) → n < 2 ^ 96 → replicate 4 0 ++ drop 4 (to_be_bytes w128 n) ≡ to_be_bytes w128 n
