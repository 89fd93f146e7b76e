-- The canonical form by the two strings that a signature is.
use Rattle.std.proofs.Common.{◌≡◌, ℕ, ◌+◌, ◌≤◌, ◌<◌, ◌^◌, List, [], ◌∷◌, ◌++◌, length, length-append, refl, ap, ◌∙◌, arith, Option, Some, None, Bool, true, false, if◌then◌else◌, Ok, Err, Result}
use Rattle.ssh_wire.specs.Fields.{string_at, answer_of}
use Rattle.ssh_wire.specs.Forms.{u32be, string, magnitude, mpint, unsigned}
use Rattle.ssh_wire.proofs.Lemmas.{magnitude_length, unsigned_length}
use Rattle.ssh_wire.specs.declared.error.Error.{Error}
use Rattle.ssh_wire.specs.declared.error.EncodingFault.{EncodingFault}
use Rattle.ssh_kex.specs.Signature.{with_string, if_end, scalars_in, is_ecdsa, signed_anew, and_then, canonical_form, two_strings}

abbrev pair : List ℕ → List ℕ → List ℕ × List ℕ
pair a b = (a, b)

-- two strings that begin with one that was looked for, and what is made of them
abbrev both : {A : Type 0} → (List ℕ → List ℕ → A) → Result (List ℕ × List ℕ) EncodingFault → Option A
both f o = with_string o λ a rest. with_string (string_at rest) λ b behind. if_end behind (f a b)

-- ---- what is read

-- the first string isn't there
pub no_first : (bytes : List ℕ) (e : Error) → answer_of (string_at bytes) ≡ Err e → two_strings bytes ≡ None
unfolding two_strings
no_first bytes e h = none (string_at bytes) h
  where
    none : (o : Result (List ℕ × List ℕ) EncodingFault) → answer_of o ≡ Err e → both pair o ≡ None
    none (Ok p) h = cc
    none (Err f) h = refl

-- the second isn't
pub no_second : (bytes a rest : List ℕ) (e : Error) → string_at bytes ≡ Ok (a, rest) → answer_of (string_at rest) ≡ Err e → two_strings bytes ≡ None
unfolding two_strings
no_second bytes a rest e g h = ap (both pair) g ∙ none (string_at rest) h
  where
    none : (o : Result (List ℕ × List ℕ) EncodingFault) → answer_of o ≡ Err e → with_string o (λ b behind. if_end behind (pair a b)) ≡ None
    none (Ok p) h = cc
    none (Err f) h = refl

end_none : {A : Type 0} (behind : List ℕ) (x : A) → 0 < length behind → if_end behind x ≡ None
end_none [] x h = absurd (omega (arith, h))
end_none (b ∷ behind) x h = refl

-- bytes are behind them
pub not_at_end : (bytes a b rest behind : List ℕ) → string_at bytes ≡ Ok (a, rest) → string_at rest ≡ Ok (b, behind) → 0 < length behind → two_strings bytes ≡ None
unfolding two_strings
not_at_end bytes a b rest behind g h some =
    ap (both pair) g ∙ (ap (λ o. with_string o (λ y z. if_end z (pair a y))) h ∙ end_none behind (pair a b) some)

pub none_left : (behind : List ℕ) → length behind ≤ 0 → behind ≡ []
none_left [] h = refl
none_left (b ∷ behind) h = absurd (omega (arith, h))

pub both_there : (bytes a b rest behind : List ℕ) → string_at bytes ≡ Ok (a, rest) → string_at rest ≡ Ok (b, behind) → behind ≡ [] → two_strings bytes ≡ Some (a, b)
unfolding two_strings
both_there bytes a b rest behind g h none =
    ap (both pair) g ∙ (ap (λ o. with_string o (λ y z. if_end z (pair a y))) h ∙ ap (λ z. if_end z (pair a b)) none)

-- ---- what is made of both

none_end : {A B : Type 0} (behind : List ℕ) (x : A) (y : B) → if_end behind x ≡ None → if_end behind y ≡ None
none_end [] x y e = cc
none_end (b ∷ behind) x y e = refl

some_end : {A B : Type 0} (behind : List ℕ) (x z : A) (f : A → B) → if_end behind x ≡ Some z → if_end behind (f x) ≡ Some (f z)
some_end [] x z f e = let same : x ≡ z = cc in ap (λ t. Some (f t)) same
some_end (b ∷ behind) x z f e = cc

no_scalars : (bytes : List ℕ) → two_strings bytes ≡ None → scalars_in bytes ≡ None
unfolding two_strings
no_scalars bytes e = first (string_at bytes) e
  where
    second : (r : List ℕ) (o : Result (List ℕ × List ℕ) EncodingFault) → with_string o (λ b behind. if_end behind (pair r b)) ≡ None → with_string o (λ s behind. if_end behind (mpint r ++ mpint s)) ≡ None
    second r (Ok p) e = none_end p.1 (pair r p.0) (mpint r ++ mpint p.0) e
    second r (Err f) e = refl

    first : (o : Result (List ℕ × List ℕ) EncodingFault) → both pair o ≡ None → both (λ r s. mpint r ++ mpint s) o ≡ None
    first (Ok p) e = second p.0 (string_at p.1) e
    first (Err f) e = refl

scalars_of : (bytes r s : List ℕ) → two_strings bytes ≡ Some (r, s) → scalars_in bytes ≡ Some (mpint r ++ mpint s)
unfolding two_strings
scalars_of bytes r s e = first (string_at bytes) e
  where
    second : (a : List ℕ) (o : Result (List ℕ × List ℕ) EncodingFault) → with_string o (λ b behind. if_end behind (pair a b)) ≡ Some (r, s) → with_string o (λ b behind. if_end behind (mpint a ++ mpint b)) ≡ Some (mpint r ++ mpint s)
    second a (Ok p) e = some_end p.1 (pair a p.0) (pair r s) (λ (q : List ℕ × List ℕ). mpint q.0 ++ mpint q.1) e
    second a (Err f) e = cc

    first : (o : Result (List ℕ × List ℕ) EncodingFault) → both pair o ≡ Some (r, s) → both (λ a b. mpint a ++ mpint b) o ≡ Some (mpint r ++ mpint s)
    first (Ok p) e = second p.0 (string_at p.1) e
    first (Err f) e = cc

-- ---- the canonical form

pub no_form : (blob : List ℕ) → two_strings blob ≡ None → canonical_form blob ≡ None
unfolding two_strings canonical_form
no_form blob e = first (string_at blob) e
  where
    third : (name inner behind : List ℕ) (b : Bool) → if_end behind (pair name inner) ≡ None → (if b then and_then (if_end behind inner) (λ i. signed_anew name (scalars_in i)) else None) ≡ None
    third name inner [] b e = cc
    third name inner (x ∷ behind) true e = refl
    third name inner (x ∷ behind) false e = refl

    second : (name : List ℕ) (o : Result (List ℕ × List ℕ) EncodingFault) → with_string o (λ b behind. if_end behind (pair name b)) ≡ None → with_string o (λ inner behind. if is_ecdsa name then and_then (if_end behind inner) (λ i. signed_anew name (scalars_in i)) else None) ≡ None
    second name (Ok p) e = third name p.0 p.1 (is_ecdsa name) e
    second name (Err f) e = refl

    first : (o : Result (List ℕ × List ℕ) EncodingFault) → both pair o ≡ None → with_string o (λ name rest. with_string (string_at rest) λ inner behind. if is_ecdsa name then and_then (if_end behind inner) (λ i. signed_anew name (scalars_in i)) else None) ≡ None
    first (Ok p) e = second p.0 (string_at p.1) e
    first (Err f) e = refl

form_by : (blob name inner : List ℕ) → two_strings blob ≡ Some (name, inner) → canonical_form blob ≡ (if is_ecdsa name then signed_anew name (scalars_in inner) else None)
unfolding two_strings canonical_form
form_by blob name inner e = first (string_at blob) e
  where
    third : (a b behind : List ℕ) → if_end behind (pair a b) ≡ Some (name, inner) → (if is_ecdsa a then and_then (if_end behind b) (λ i. signed_anew a (scalars_in i)) else None) ≡ (if is_ecdsa name then signed_anew name (scalars_in inner) else None)
    third a b [] e = let same : pair a b ≡ pair name inner = cc in ap (λ (q : List ℕ × List ℕ). if is_ecdsa q.0 then signed_anew q.0 (scalars_in q.1) else None) same
    third a b (x ∷ behind) e = cc

    second : (a : List ℕ) (o : Result (List ℕ × List ℕ) EncodingFault) → with_string o (λ b behind. if_end behind (pair a b)) ≡ Some (name, inner) → with_string o (λ b behind. if is_ecdsa a then and_then (if_end behind b) (λ i. signed_anew a (scalars_in i)) else None) ≡ (if is_ecdsa name then signed_anew name (scalars_in inner) else None)
    second a (Ok p) e = third a p.0 p.1 e
    second a (Err f) e = cc

    first : (o : Result (List ℕ × List ℕ) EncodingFault) → both pair o ≡ Some (name, inner) → with_string o (λ a rest. with_string (string_at rest) λ b behind. if is_ecdsa a then and_then (if_end behind b) (λ i. signed_anew a (scalars_in i)) else None) ≡ (if is_ecdsa name then signed_anew name (scalars_in inner) else None)
    first (Ok p) e = second p.0 (string_at p.1) e
    first (Err f) e = cc

pub other_form : (blob name inner : List ℕ) → two_strings blob ≡ Some (name, inner) → is_ecdsa name ≡ false → canonical_form blob ≡ None
other_form blob name inner e h = form_by blob name inner e ∙ ap (λ b. if b then signed_anew name (scalars_in inner) else None) h

pub no_scalars_form : (blob name inner : List ℕ) → two_strings blob ≡ Some (name, inner) → is_ecdsa name ≡ true → two_strings inner ≡ None → canonical_form blob ≡ None
no_scalars_form blob name inner e h f =
    form_by blob name inner e ∙ (ap (λ b. if b then signed_anew name (scalars_in inner) else None) h ∙ ap (signed_anew name) (no_scalars inner f))

pub form_of : (blob name inner r s : List ℕ) → two_strings blob ≡ Some (name, inner) → is_ecdsa name ≡ true → two_strings inner ≡ Some (r, s) → canonical_form blob ≡ Some (string name ++ string (mpint r ++ mpint s))
form_of blob name inner r s e h f =
    form_by blob name inner e ∙ (ap (λ b. if b then signed_anew name (scalars_in inner) else None) h ∙ ap (signed_anew name) (scalars_of inner r s f))

-- ---- lengths

pub both_lengths : (bytes a b rest behind : List ℕ) → bytes ≡ string a ++ rest → rest ≡ string b ++ behind → length a + length b + 8 ≤ length bytes
both_lengths bytes a b rest behind g h =
    let one = length-append (string a) rest in
    let two = length-append (string b) behind in
    let first = length-append (u32be (length a)) a in
    let second = length-append (u32be (length b)) b in
    let whole = ap length g in
    let last = ap length h in
    omega (arith, one, two, first, second, whole, last)

mpint_long : (s : List ℕ) → length (mpint s) ≤ length s + 5
mpint_long s =
    let whole = length-append (u32be (length (unsigned (magnitude s)))) (unsigned (magnitude s)) in
    let sign = unsigned_length (magnitude s) in
    let least = magnitude_length s in
    omega (arith, whole, sign, least)

pub scalars_short : (r s out : List ℕ) → length r + length s + 16 ≤ 2 ^ 32 → out ≡ ([] ++ mpint r) ++ mpint s → length out < 2 ^ 32
scalars_short r s out h e =
    let whole = length-append (mpint r) (mpint s) in
    let one = mpint_long r in
    let two = mpint_long s in
    let all : length out ≡ length (mpint r ++ mpint s) = ap length e in
    omega (arith, whole, one, two, all, h)
