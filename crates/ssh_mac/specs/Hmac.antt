-- HMAC (RFC 2104 section 2).
use Rattle.std.specs.Prelude.{ℕ, ◌-◌, nat_lt, if◌then◌else◌, List, ◌++◌, length, map, bit_xor}
use Rattle.ssh_mac.specs.declared.digest.DigestKind.{DigestKind}
use Rattle.ssh_mac.specs.Digests.{digest_of, block_length}
use Rattle.ssh_mac.specs.Zeros.{zeros}

-- a key that is no longer than a block: a longer key is hashed
abbrev pub short_key : DigestKind → List ℕ → List ℕ
short_key kind key = if nat_lt (block_length kind) (length key) then digest_of kind key else key

-- the key with zero bytes behind it, as long as a block
unfoldable pub block_key : DigestKind → List ℕ → List ℕ
block_key kind key = short_key kind key ++ zeros (block_length kind - length (short_key kind key))

-- each byte combined with the same byte by exclusive or
unfoldable pub bytes_xor : ℕ → List ℕ → List ℕ
bytes_xor byte bytes = map (λ b. bit_xor b byte) bytes

-- H(K xor opad, H(K xor ipad, text)), with ipad 0x36 and opad 0x5c
unfoldable pub hmac : DigestKind → List ℕ → List ℕ → List ℕ
hmac kind key text =
    digest_of kind (bytes_xor 0x5c (block_key kind key) ++ digest_of kind (bytes_xor 0x36 (block_key kind key) ++ text))
