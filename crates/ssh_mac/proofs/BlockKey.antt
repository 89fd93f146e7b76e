-- The key of a block, in an array that is longer, and HMAC over it.
use Rattle.std.proofs.Common.{◌≡◌, ℕ, ◌+◌, ◌-◌, ◌≤◌, ◌<◌, List, ◌++◌, length, take, drop, ap, subst, sym, ◌∙◌, refl, arith, append_assoc, bit_xor, set, get_or}
use Rattle.std.proofs.lemmas.List.{take-map}
use Rattle.ssh_mac.specs.declared.digest.DigestKind.{DigestKind}
use Rattle.ssh_mac.specs.declared.digest.DigestKind.TheVariants.{Sha1, Sha256, Sha384, Sha512}
use Rattle.ssh_mac.specs.Digests.{digest_of, block_length}
use Rattle.ssh_mac.specs.Hmac.{block_key, short_key, bytes_xor, hmac}
use Rattle.ssh_mac.specs.Zeros.{zeros}
use Rattle.ssh_mac.proofs.Filling.{zeros-dropped}
use Rattle.std.proofs.lemmas.List.{take-replicate, get_or_default}
use Rattle.std.proofs.lemmas.List.Edits.{map_over_more}
use Rattle.std.proofs.lemmas.Bool.{lt-ltb, le-ltb}
use Rattle.std.proofs.Math.Seq.{take-append-add}

pub zeros-taken : (n k : ℕ) → k ≤ n → take k (zeros n) ≡ zeros k
unfolding zeros
zeros-taken n k h = take-replicate k n 0 h

front_and_zeros : (n more : ℕ) (bytes : List ℕ) → length bytes + more ≤ n →
    take (length bytes + more) (bytes ++ drop (length bytes) (zeros n)) ≡ bytes ++ zeros more
front_and_zeros n more bytes long =
    rw (zeros-dropped n (length bytes), take-append-add bytes (zeros (n - length bytes)) more)
    (ap (λ z. bytes ++ z) (zeros-taken (n - length bytes) more (omega arith)))

-- the front of bytes with zeros behind them
pub front_filled : (n k : ℕ) (bytes front : List ℕ) → front ≡ bytes → length bytes ≤ k → k ≤ n →
    take k (front ++ drop (length bytes) (zeros n)) ≡ bytes ++ zeros (k - length bytes)
front_filled n k bytes front same short long =
    let whole : length bytes + (k - length bytes) ≡ k = omega arith in
    let P : ℕ → Type 0 = λ m. take m (bytes ++ drop (length bytes) (zeros n)) ≡ bytes ++ zeros (k - length bytes) in
    rw same (subst P whole (front_and_zeros n (k - length bytes) bytes (omega arith)))

pub block_bounds : (kind : DigestKind) → (64 ≤ block_length kind) × (block_length kind ≤ 128)
block_bounds Sha1 = (omega arith, omega arith)
block_bounds Sha256 = (omega arith, omega arith)
block_bounds Sha384 = (omega arith, omega arith)
block_bounds Sha512 = (omega arith, omega arith)

long_is : (kind : DigestKind) (key : List ℕ) → block_length kind < length key → short_key kind key ≡ digest_of kind key
long_is kind key long = rw (lt-ltb (block_length kind) (length key) long) refl

other_is : (kind : DigestKind) (key : List ℕ) → length key ≤ block_length kind → short_key kind key ≡ key
other_is kind key short = rw (le-ltb (block_length kind) (length key) short) refl

pub long_key : (kind : DigestKind) (key hash front : List ℕ) → block_length kind < length key → hash ≡ digest_of kind key → front ≡ hash → length hash ≤ 64 →
    take (block_length kind) (front ++ drop (length hash) (zeros 128)) ≡ block_key kind key
unfolding block_key
long_key kind key hash front long is same short =
    let b = block_bounds kind in
    let e = long_is kind key long ∙ sym is in
    rw e (front_filled 128 (block_length kind) hash front same (omega (arith, b.0)) b.1)

pub other_key : (kind : DigestKind) (key front : List ℕ) → length key ≤ block_length kind → front ≡ key →
    take (block_length kind) (front ++ drop (length key) (zeros 128)) ≡ block_key kind key
unfolding block_key
other_key kind key front short same =
    let b = block_bounds kind in
    let e = other_is kind key short in
    rw e (front_filled 128 (block_length kind) key front same short b.1)

-- one more byte combined
pub combined_more : (byte : ℕ) (xs ys : List ℕ) (i : ℕ) → i < length xs → i < length ys → ys ≡ bytes_xor byte (take i xs) ++ drop i xs →
    set ys i (bit_xor (get_or ys i 0) byte) ≡ bytes_xor byte (take (i + 1) xs) ++ drop (i + 1) xs
unfolding bytes_xor
combined_more byte xs ys i lt within so_far =
    map_over_more (λ b. bit_xor b byte) xs ys i (get_or ys i 0) lt so_far (get_or_default ys i 0 (get_or ys i 0) within)

-- a front of combined bytes
pub combined-taken : (byte n : ℕ) (bytes : List ℕ) → take n (bytes_xor byte bytes) ≡ bytes_xor byte (take n bytes)
unfolding bytes_xor
combined-taken byte n bytes = take-map (λ b. bit_xor b byte) n bytes

-- the key's block, combined with a byte
pub combined_front : (kind : DigestKind) (key block : List ℕ) (byte : ℕ) (combined : List ℕ) (n : ℕ) →
    take (block_length kind) block ≡ block_key kind key → n ≡ block_length kind → combined ≡ bytes_xor byte block → take n combined ≡ bytes_xor byte (block_key kind key)
combined_front kind key block byte combined n is len combined_is =
    ap (λ (m : ℕ). take m combined) len ∙ ap (take (block_length kind)) combined_is ∙ combined-taken byte (block_length kind) block ∙ ap (bytes_xor byte) is

-- the two digests are HMAC
pub two_digests : (kind : DigestKind) (key front rest inner bytes result : List ℕ) →
    inner ≡ digest_of kind ((bytes_xor 0x36 (block_key kind key) ++ front) ++ rest) → bytes ≡ inner →
    result ≡ digest_of kind (bytes_xor 0x5c (block_key kind key) ++ bytes) →
    result ≡ hmac kind key (front ++ rest)
unfolding hmac
two_digests kind key front rest inner bytes result inside same outside =
    let block = bytes_xor 0x36 (block_key kind key) in
    outside ∙ ap (λ x. digest_of kind (bytes_xor 0x5c (block_key kind key) ++ x)) (same ∙ inside ∙ ap (digest_of kind) (append_assoc block front rest))
