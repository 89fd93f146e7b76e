-- What is judged of a signature: the form of an ECDSA signature whose numbers have no needless zeros (RFC 5656 section
-- 3.1.2).
use Rattle.std.specs.Prelude.{◌≡◌, ℕ, ◌&&◌, nat_eq, Bool, if◌then◌else◌, List, [], ◌∷◌, ◌++◌, replicate, codes, Option, Some, None, Result, Ok, Err, refl}
use Rattle.std.specs.List.{starts_with}
use Rattle.std.specs.Str.{is_utf8, chars}
use denote.Ref.{Bor}
use lib.Utf8.{encode}
use Rattle.ssh_wire.specs.Fields.{string_at, u32_at}
use Rattle.ssh_wire.specs.Forms.{string, mpint}
use Rattle.ssh_wire.specs.declared.error.EncodingFault.{EncodingFault}

-- a string at the front, and what is made of it and of the bytes behind it
abbrev pub with_string : {A : Type 0} → Result (List ℕ × List ℕ) EncodingFault → (List ℕ → List ℕ → Option A) → Option A
with_string (Ok s) f = f s.0 s.1
with_string (Err fault) f = None

abbrev pub if_end : {A : Type 0} → List ℕ → A → Option A
if_end [] x = Some x
if_end (b ∷ bytes) x = None

-- the two strings that bytes are, with nothing behind them
unfoldable pub two_strings : List ℕ → Option (List ℕ × List ℕ)
two_strings bytes = with_string (string_at bytes) λ a rest. with_string (string_at rest) λ b behind. if_end behind (a, b)

-- the same of strings that are lent
abbrev pub AreStrings : List ℕ → Option (Bor (List ℕ) × Bor (List ℕ)) → Type 0
AreStrings bytes None = two_strings bytes ≡ None
AreStrings bytes (Some p) = two_strings bytes ≡ Some (p.0.now, p.1.now)

-- exactly two strings, as numbers written anew
abbrev pub scalars_in : List ℕ → Option (List ℕ)
scalars_in bytes = with_string (string_at bytes) λ r rest. with_string (string_at rest) λ s behind. if_end behind (mpint r ++ mpint s)

abbrev pub is_ecdsa : List ℕ → Bool
is_ecdsa name = starts_with nat_eq name (codes "ecdsa-sha2-") && is_utf8 name

abbrev pub signed_anew : List ℕ → Option (List ℕ) → Option (List ℕ)
signed_anew name None = None
signed_anew name (Some scalars) = Some (string name ++ string scalars)

abbrev pub and_then : {A : Type 0} → Option A → (A → Option (List ℕ)) → Option (List ℕ)
and_then None f = None
and_then (Some x) f = f x

-- the canonical form: the name, and a string of both numbers, and nothing more
unfoldable pub canonical_form : List ℕ → Option (List ℕ)
canonical_form blob =
    with_string (string_at blob) λ name rest.
    with_string (string_at rest) λ inner behind.
    if is_ecdsa name then and_then (if_end behind inner) (λ i. signed_anew name (scalars_in i)) else None

abbrev pub or_same : List ℕ → Option (List ℕ) → List ℕ
or_same blob None = blob
or_same blob (Some form) = form

-- what a verifier is handed: the canonical form where there is one
abbrev pub judged : List ℕ → List ℕ
judged blob = or_same blob (canonical_form blob)

nistp521 : List ℕ
nistp521 = codes "ecdsa-sha2-nistp521"

canonical-example : canonical_form (string nistp521
    ++ string (string (replicate 3 0 ++ replicate 65 0x42)
    ++ string (replicate 2 0 ++ replicate 66 0x80))) ≡ Some (string nistp521
    ++ string (string (replicate 65 0x42) ++ string (0 ∷ replicate 66 0x80)))
unfolding canonical_form nistp521 string_at u32_at is_utf8 chars encode
canonical-example = refl

cut-example : canonical_form (string nistp521 ++ (0 ∷ 0 ∷ 0 ∷ 5 ∷ 0 ∷ 0 ∷ 0 ∷ 0 ∷ [])) ≡ None
unfolding canonical_form nistp521 string_at u32_at is_utf8 chars encode
cut-example = refl

three-example : canonical_form (string nistp521 ++ string (string (1 ∷ [])
    ++ (string (2 ∷ []) ++ string (3 ∷ [])))) ≡ None
unfolding canonical_form nistp521 string_at u32_at is_utf8 chars encode
three-example = refl

rsa-example : canonical_form (string (codes "ssh-rsa") ++ string (string (1 ∷ []) ++ string (2 ∷ []))) ≡ None
unfolding canonical_form string_at u32_at is_utf8 chars encode
rsa-example = refl

behind-example : canonical_form (string nistp521 ++ (string (string (1 ∷ []) ++ string (2 ∷ [])) ++ 0xff ∷ [])) ≡ None
unfolding canonical_form nistp521 string_at u32_at is_utf8 chars encode
behind-example = refl
