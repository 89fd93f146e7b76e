-- The files of keys: of a private key in OpenSSH's own form (OpenSSH's PROTOCOL.key), and of a public key.
use Rattle.std.specs.Prelude.{◌≡◌, ℕ, ◌==◌, ◌&&◌, Bool, false, not, if◌then◌else◌, List, [], ◌∷◌, ◌++◌, codes, length, take, drop, filter, flat_map, Option, Some, None, Result, Ok, Err, refl}
use Rattle.std.specs.Result.{result_ok}
use Rattle.std.specs.Str.{bytes_eq}
use Rattle.base64.specs.Engines.{standard}
use Rattle.base64.specs.GeneralPurpose.{decode_of}
use Rattle.ssh_wire.specs.Fields.{◌>>=◌, mpint_at, string_at, u32_at}
use Rattle.ssh_wire.specs.declared.error.EncodingFault.{EncodingFault}
use Rattle.ssh_lines.specs.Lines.{pieces, words_of}
use Rattle.ssh_modp.specs.Hosts.{RsaSecret}

-- the bytes that a text in base64 stands for (RFC 4648)
abbrev pub base64_bytes : List ℕ → Option (List ℕ)
base64_bytes text = result_ok (decode_of standard text)

-- a line that begins or ends the armour, as its first byte, a dash, tells
abbrev pub is_dashed : List ℕ → Bool
is_dashed [] = false
is_dashed (b ∷ rest) = b == 45

-- no CR
abbrev pub is_kept : ℕ → Bool
is_kept b = not (b == 13)

abbrev pub armour_line : List ℕ → List ℕ
armour_line line = if is_dashed line then [] else filter is_kept line

-- the lines of a file's text that don't begin with a dash, without line ends
abbrev pub armoured : List ℕ → List ℕ
armoured text = flat_map armour_line (pieces 10 text)

-- what stands before the fields
abbrev pub key_magic : List ℕ
key_magic = codes "openssh-key-v1" ++ 0 ∷ []

-- ---- the fields: the name of a cipher, those of a derivation, a number of keys, the public key's blob, the private
-- part

pub record OuterFields : Type 0 where
  pub cipher : List ℕ
  pub count : ℕ
  pub blob : List ℕ
  pub private : List ℕ

abbrev pub outer_at : List ℕ → Result OuterFields EncodingFault
outer_at fields =
    string_at fields >>= λ cipher. string_at cipher.1 >>= λ derivation. string_at derivation.1 >>= λ options.
    u32_at options.1 >>= λ count. string_at count.1 >>= λ blob. string_at blob.1 >>= λ private.
    Ok (record { cipher = cipher.0; count = count.0; blob = blob.0; private = private.0 })

-- of a file of one key that isn't encrypted: the blob and the private part
abbrev pub one_in_clear : Result OuterFields EncodingFault → Option (List ℕ × List ℕ)
one_in_clear (Err fault) = None
one_in_clear (Ok f) = if bytes_eq f.cipher (codes "none") && f.count == 1 then Some (f.blob, f.private) else None

-- ---- the private part: a number twice, the key's type, modulus, public exponent, private exponent

pub record PrivateFields : Type 0 where
  pub check : ℕ
  pub again : ℕ
  pub kind : List ℕ
  pub exponent : List ℕ

abbrev pub private_at : List ℕ → Result PrivateFields EncodingFault
private_at fields =
    u32_at fields >>= λ check. u32_at check.1 >>= λ again. string_at again.1 >>= λ kind.
    mpint_at kind.1 >>= λ modulus. mpint_at modulus.1 >>= λ public. mpint_at public.1 >>= λ exponent.
    Ok (record { check = check.0; again = again.0; kind = kind.0; exponent = exponent.0 })

-- the private exponent of an RSA key
abbrev pub exponent_of : Result PrivateFields EncodingFault → Option (List ℕ)
exponent_of (Err fault) = None
exponent_of (Ok f) = if f.check == f.again && bytes_eq f.kind (codes "ssh-rsa") then Some f.exponent else None

-- ---- all of it

abbrev pub with_blob : List ℕ → Option (List ℕ) → Option RsaSecret
with_blob blob None = None
with_blob blob (Some exponent) = Some (record { blob = blob; private = exponent })

abbrev pub key_by : Option (List ℕ × List ℕ) → Option RsaSecret
key_by None = None
key_by (Some parts) = with_blob parts.0 (exponent_of (private_at parts.1))

-- the key of decoded bytes
abbrev pub key_of_bytes : List ℕ → Option RsaSecret
key_of_bytes bytes =
    if bytes_eq (take (length key_magic) bytes) key_magic
    then key_by (one_in_clear (outer_at (drop (length key_magic) bytes))) else None

abbrev pub key_of_decoded : Option (List ℕ) → Option RsaSecret
key_of_decoded None = None
key_of_decoded (Some bytes) = key_of_bytes bytes

-- the RSA key of a file's text
abbrev pub key_in : List ℕ → Option RsaSecret
key_in text = key_of_decoded (base64_bytes (armoured text))

-- ---- the file of a public key

-- The first line of a public key's file names this blob: the type ssh-rsa, the blob in base64 (RFC 4648), and a comment
-- (sshd(8), AUTHORIZED_KEYS FILE FORMAT; RFC 4253 section 6.6).
pub record NamesHost (text blob : List ℕ) : Type 0 where
  pub line : List ℕ
  pub lines : List (List ℕ)
  pub text_is : pieces 10 text ≡ line ∷ lines
  pub key : List ℕ
  pub comment : List (List ℕ)
  pub words_are : words_of line ≡ codes "ssh-rsa" ∷ key ∷ comment
  pub key_is : base64_bytes key ≡ Some blob

-- it names none
abbrev pub NamesNone : (text : List ℕ) → Type 0
NamesNone text = (blob : List ℕ) → NamesHost text blob → ⊥

armoured-example : armoured (codes "-a" ++ 10 ∷ codes "bc" ++ 13 ∷ 10 ∷ codes "d") ≡ codes "bcd"
armoured-example = refl
