-- The encoded message, piece by piece.
use Rattle.std.proofs.Common.{◌≡◌, ℕ, ◌+◌, ◌-◌, ◌≤◌, ◌==◌, nat_lt, Bool, true, None, List, [], ◌∷◌, ◌++◌, length, replicate, refl, sym, ap, ◌∙◌, arith, append_assoc, length-append}
use Rattle.std.proofs.lemmas.Bool.Decides.{nat_tests}
use Rattle.ssh_mac.specs.Digests.{digest_of}
use Rattle.ssh_wire.specs.declared.algorithm.HashAlg.{HashAlg}
use Rattle.ssh_wire.specs.Forms.{number}
use Rattle.ssh_power.specs.Moduli.{modulus_fault}
use Rattle.ssh_power.specs.Numbers.{power_modulo}
use Rattle.ssh_modp.specs.Rsa.{RsaPublic, digest_form, digest_info, digest_kind, encoded_message, has_message, is_power_of_message, verifies}

-- the pieces, one behind the other
joined : (ones info digest : List ℕ) → (((0 ∷ 1 ∷ ones) ++ 0 ∷ []) ++ info) ++ digest ≡ 0 ∷ 1 ∷ ones ++ (0 ∷ info ++ digest)
joined ones info digest =
    ap (λ (t : List ℕ). 0 ∷ 1 ∷ t) (append_assoc (ones ++ 0 ∷ []) info digest ∙ append_assoc ones (0 ∷ []) (info ++ digest))

-- there is room
pub has_room : (hash : HashAlg) (text info digest : List ℕ) (size : ℕ) → info ≡ digest_info hash
    → digest ≡ digest_of (digest_kind hash) text → length info + length digest + 11 ≤ size → has_message hash text size ≡ true
has_room hash text info digest size i d h =
    let e : length (digest_form hash text) ≡ length info + length digest =
    length-append (digest_info hash) (digest_of (digest_kind hash) text) ∙ rw (← i, ← d) refl in
    let room : length (digest_form hash text) + 11 ≤ size = omega (arith, e, h) in
    grind (arith, nat_tests)

-- the message of the pieces
pub is_message : (hash : HashAlg) (text info digest : List ℕ) (size count : ℕ) → info ≡ digest_info hash
    → digest ≡ digest_of (digest_kind hash) text → count ≡ size - (length info + length digest) - 3
    → (((0 ∷ 1 ∷ replicate count 255) ++ 0 ∷ []) ++ info) ++ digest ≡ encoded_message hash text size
unfolding encoded_message
is_message hash text info digest size count i d c =
    let e : length (digest_form hash text) ≡ length info + length digest =
    length-append (digest_info hash) (digest_of (digest_kind hash) text) ∙ rw (← i, ← d) refl in
    let n : count ≡ size - (length (digest_form hash text) + 3) = omega (arith, e, c) in
    joined (replicate count 255) info digest
    ∙ (ap (λ (t : List ℕ). 0 ∷ 1 ∷ replicate count 255 ++ (0 ∷ t)) (rw (i, d) refl)
    ∙ ap (λ (k : ℕ). 0 ∷ 1 ∷ replicate k 255 ++ (0 ∷ digest_form hash text)) n)

-- all tests hold but the last, which decides
pub verified : (hash : HashAlg) (text : List ℕ) (key : RsaPublic) (signature : List ℕ) (b : Bool)
    → modulus_fault (number key.modulus) ≡ None → has_message hash text (length key.modulus) ≡ true
    → (length signature == length key.modulus) ≡ true → nat_lt (number signature) (number key.modulus) ≡ true
    → b ≡ is_power_of_message hash text key signature → b ≡ verifies hash text key signature
verified hash text key signature b f m l n e = e ∙ sym (rw (f, m, l, n) refl)

-- the last test, of numbers that were reckoned
pub decides : (hash : HashAlg) (text : List ℕ) (key : RsaPublic) (signature power message : List ℕ) (b : Bool)
    → b ≡ (number power == number message)
    → number power ≡ power_modulo (number signature) (number key.exponent) (number key.modulus)
    → message ≡ encoded_message hash text (length key.modulus) → b ≡ is_power_of_message hash text key signature
unfolding is_power_of_message
decides hash text key signature power message b e p m = e ∙ rw (p, m) refl
