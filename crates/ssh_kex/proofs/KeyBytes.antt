-- Digests are bytes, and so are keys; a key has the length that is asked for.
use Rattle.std.proofs.Common.{◌≡◌, ℕ, zero, suc, ◌+◌, ◌/◌, ◌%◌, ◌≤◌, List, [], ◌∷◌, ◌++◌, length, take, arith, length-append, length-take-le}
use Rattle.std.specs.Prelude.{slice_index}
use Rattle.std.specs.Int.{w32, w64, to_be_bytes}
use Rattle.sha1.specs.Sha1 as one
use Rattle.sha2.specs.Sha256 as small
use Rattle.sha2.specs.Sha512 as large
use Rattle.ssh_aes.proofs.Lemmas.{AreOctets-append, AreOctets-cons, AreOctets-four, AreOctets-nil}
use Rattle.ssh_mac.proofs.Lemmas.{digests_have_length}
use Rattle.ssh_mac.specs.Digests.{digest_of, digest_length}
use Rattle.ssh_mac.specs.Names as mac_table
use Rattle.ssh_mac.specs.declared.digest.DigestKind.{DigestKind}
use Rattle.ssh_mac.specs.declared.digest.DigestKind.TheVariants.{Sha1, Sha256, Sha384, Sha512}
use Rattle.ssh_mac.specs.declared.mac.Name as macs
use Rattle.ssh_mac.specs.declared.mac.Name.TheVariants as mac_names
use Rattle.ssh_negotiate.specs.declared.negotiation.Names.{Names}
use Rattle.ssh_packet.specs.Names.{cipher_key_length, nonce_length}
use Rattle.ssh_packet.specs.declared.cipher.Name as ciphers
use Rattle.ssh_packet.specs.declared.cipher.Name.TheVariants as cipher_names
use Rattle.ssh_wire.specs.Forms.{AreBytes}
use Rattle.ssh_kex.specs.Exchange.{HaveLengths, key_by, keys_of, one_more}
use Rattle.ssh_kex.specs.Laws.{KeysAreWell}

-- ---- bytes

four_bytes : (n : ℕ) → AreBytes (to_be_bytes w32 n)
four_bytes n = AreOctets-four (n / 16777216 % 256) (n / 65536 % 256) (n / 256 % 256) (n % 256) (omega arith) (omega arith) (omega arith) (omega arith)

eight_bytes : (n : ℕ) → AreBytes (to_be_bytes w64 n)
eight_bytes n =
    AreOctets-append (n / 72057594037927936 % 256 ∷ n / 281474976710656 % 256 ∷ n / 1099511627776 % 256 ∷ n / 4294967296 % 256 ∷ []) (to_be_bytes w32 n)
    (AreOctets-four (n / 72057594037927936 % 256) (n / 281474976710656 % 256) (n / 1099511627776 % 256) (n / 4294967296 % 256) (omega arith) (omega arith) (omega arith) (omega arith))
    (four_bytes n)

AreBytes-take : (n : ℕ) (bytes : List ℕ) → AreBytes bytes → AreBytes (take n bytes)
AreBytes-take zero bytes h i = AreOctets-nil i
AreBytes-take (suc n) [] h i = AreOctets-nil i
AreBytes-take (suc n) (b ∷ bytes) h i = AreOctets-cons b (take n bytes) (h 0) (AreBytes-take n bytes (λ j. h (suc j))) i

-- ---- digests

bytes_of_one : (h : List ℕ) (n : ℕ) → AreBytes (one.digest_bytes h n)
unfolding one.digest_bytes
bytes_of_one h zero = AreOctets-nil
bytes_of_one h (suc n) = AreOctets-append _ _ (bytes_of_one h n) (four_bytes (slice_index h n))

bytes_of_small : (h : List ℕ) (n : ℕ) → AreBytes (small.digest_bytes h n)
unfolding small.digest_bytes
bytes_of_small h zero = AreOctets-nil
bytes_of_small h (suc n) = AreOctets-append _ _ (bytes_of_small h n) (four_bytes (slice_index h n))

bytes_of_large : (h : List ℕ) (n : ℕ) → AreBytes (large.digest_bytes h n)
unfolding large.digest_bytes
bytes_of_large h zero = AreOctets-nil
bytes_of_large h (suc n) = AreOctets-append _ _ (bytes_of_large h n) (eight_bytes (slice_index h n))

pub digest_bytes_are : (kind : DigestKind) (text : List ℕ) → AreBytes (digest_of kind text)
unfolding one.sha1 small.sha256 large.sha384 large.sha512
digest_bytes_are Sha1 text = bytes_of_one _ 5
digest_bytes_are Sha256 text = bytes_of_small _ 8
digest_bytes_are Sha384 text = AreBytes-take 48 _ (bytes_of_large _ 8)
digest_bytes_are Sha512 text = bytes_of_large _ 8

-- ---- keys

more_bytes : (digest : DigestKind) (front blocks : List ℕ) → AreBytes blocks → AreBytes (one_more digest front blocks)
more_bytes digest front blocks h = AreOctets-append blocks (digest_of digest (front ++ blocks)) h (digest_bytes_are digest _)

-- each key is bytes
pub key_bytes : (digest : DigestKind) (secret hash session : List ℕ) (letter need : ℕ) → AreBytes (key_by digest secret hash session letter need)
unfolding key_by
key_bytes digest secret hash session letter need =
    AreBytes-take need _ (more_bytes digest _ _ (more_bytes digest _ _ (more_bytes digest _ _ (digest_bytes_are digest _))))

long_digest : (kind : DigestKind) → 20 ≤ digest_length kind
long_digest Sha1 = omega arith
long_digest Sha256 = omega arith
long_digest Sha384 = omega arith
long_digest Sha512 = omega arith

more_long : (digest : DigestKind) (front blocks : List ℕ) (n : ℕ) → n ≤ length blocks → n + 20 ≤ length (one_more digest front blocks)
more_long digest front blocks n h =
    let whole = length-append blocks (digest_of digest (front ++ blocks)) in
    let size = digests_have_length digest (front ++ blocks) in
    let least = long_digest digest in
    omega (arith, h, whole, size, least)

first_long : (digest : DigestKind) (text : List ℕ) → 20 ≤ length (digest_of digest text)
first_long digest text = let size = digests_have_length digest text in let least = long_digest digest in omega (arith, size, least)

pub key_length : (digest : DigestKind) (secret hash session : List ℕ) (letter need : ℕ) → need ≤ 64 → length (key_by digest secret hash session letter need) ≡ need
unfolding key_by
key_length digest secret hash session letter need h =
    let long = more_long digest (secret ++ hash) _ 60 (more_long digest (secret ++ hash) _ 40 (more_long digest (secret ++ hash) _ 20 (first_long digest (secret ++ (hash ++ letter ∷ session))))) in
    length-take-le need _ (omega (arith, h, long))

short_nonce : (n : ciphers.Name) → nonce_length n ≤ 64
short_nonce cipher_names.Clear = omega arith
short_nonce cipher_names.NoCipher = omega arith
short_nonce cipher_names.Aes128Ctr = omega arith
short_nonce cipher_names.Aes192Ctr = omega arith
short_nonce cipher_names.Aes256Ctr = omega arith
short_nonce cipher_names.Aes128Gcm = omega arith
short_nonce cipher_names.Aes256Gcm = omega arith
short_nonce cipher_names.Aes128Cbc = omega arith
short_nonce cipher_names.Aes192Cbc = omega arith
short_nonce cipher_names.Aes256Cbc = omega arith

short_key : (n : ciphers.Name) → cipher_key_length n ≤ 64
short_key cipher_names.Clear = omega arith
short_key cipher_names.NoCipher = omega arith
short_key cipher_names.Aes128Ctr = omega arith
short_key cipher_names.Aes192Ctr = omega arith
short_key cipher_names.Aes256Ctr = omega arith
short_key cipher_names.Aes128Gcm = omega arith
short_key cipher_names.Aes256Gcm = omega arith
short_key cipher_names.Aes128Cbc = omega arith
short_key cipher_names.Aes192Cbc = omega arith
short_key cipher_names.Aes256Cbc = omega arith

short_mac : (n : macs.Name) → mac_table.mac_key_length n ≤ 64
short_mac mac_names.NoMac = omega arith
short_mac mac_names.HmacSha1 = omega arith
short_mac mac_names.HmacSha256 = omega arith
short_mac mac_names.HmacSha512 = omega arith
short_mac mac_names.HmacSha1Etm = omega arith
short_mac mac_names.HmacSha256Etm = omega arith
short_mac mac_names.HmacSha512Etm = omega arith

key_lengths : (digest : DigestKind) (secret hash session : List ℕ) (n : Names) → HaveLengths n (keys_of digest secret hash session n)
unfolding keys_of
key_lengths digest secret hash session n = record {
  iv_c2s = key_length digest secret hash session 65 _ (short_nonce n.cipher);
  iv_s2c = key_length digest secret hash session 66 _ (short_nonce n.cipher);
  key_c2s = key_length digest secret hash session 67 _ (short_key n.cipher);
  key_s2c = key_length digest secret hash session 68 _ (short_key n.cipher);
  mac_c2s = key_length digest secret hash session 69 _ (short_mac n.client_mac);
  mac_s2c = key_length digest secret hash session 70 _ (short_mac n.server_mac);
}

pub keys_are_well : KeysAreWell
unfolding keys_of
keys_are_well digest secret hash session n = (
  record {
    iv_c2s = key_bytes digest secret hash session 65 _;
    iv_s2c = key_bytes digest secret hash session 66 _;
    key_c2s = key_bytes digest secret hash session 67 _;
    key_s2c = key_bytes digest secret hash session 68 _;
    mac_c2s = key_bytes digest secret hash session 69 _;
    mac_s2c = key_bytes digest secret hash session 70 _;
  },
  key_lengths digest secret hash session n,
)
