-- A canonical signature is its own canonical form.
use Rattle.std.proofs.Common.{◌≡◌, ℕ, ◌^◌, ◌<◌, List, [], ◌∷◌, ◌++◌, length, refl, sym, ◌∙◌, ap, subst, arith, Option, Some, None, Bool, true, false, if◌then◌else◌, append-nil, length-append, Ok, Err, Result}
use Rattle.ssh_wire.specs.Fields.{string_at}
use Rattle.ssh_wire.specs.Forms.{u32be, string, magnitude, unsigned, mpint}
use Rattle.ssh_wire.proofs.Lemmas.{string_again}
use Rattle.ssh_wire.proofs.Lemmas.{magnitude_front, magnitude_unsigned}
use Rattle.ssh_wire.specs.declared.error.EncodingFault.{EncodingFault}
use Rattle.ssh_kex.specs.Signature.{with_string, if_end, scalars_in, is_ecdsa, signed_anew, and_then, canonical_form}

-- the bytes of an mpint as a number written anew
mpint_again : (s : List ℕ) → mpint (unsigned (magnitude s)) ≡ mpint s
mpint_again s = ap (λ m. string (unsigned m)) (magnitude_unsigned (magnitude s) (magnitude_front s))

string_only : (s : List ℕ) → length s < 2 ^ 32 → string_at (string s) ≡ Ok (s, [])
string_only s h = ap string_at (sym (append-nil (string s))) ∙ string_again s [] h

first_part : {A : Type 0} (s rest : List ℕ) (f : List ℕ → List ℕ → Option A) → length s < 2 ^ 32 → with_string (string_at (string s ++ rest)) f ≡ f s rest
first_part s rest f h = ap (λ r. with_string r f) (string_again s rest h)

last_part : {A : Type 0} (s : List ℕ) (f : List ℕ → List ℕ → Option A) → length s < 2 ^ 32 → with_string (string_at (string s)) f ≡ f s []
last_part s f h = ap (λ r. with_string r f) (string_only s h)

-- both numbers, written anew
scalars_again : (r s : List ℕ) → length (unsigned (magnitude r)) < 2 ^ 32 → length (unsigned (magnitude s)) < 2 ^ 32 → scalars_in (mpint r ++ mpint s) ≡ Some (mpint r ++ mpint s)
scalars_again r s hr hs =
    first_part (unsigned (magnitude r)) (mpint s) _ hr
    ∙ (last_part (unsigned (magnitude s)) _ hs
    ∙ ap Some (ap (λ a. a ++ mpint (unsigned (magnitude s))) (mpint_again r) ∙ ap (λ b. mpint r ++ b) (mpint_again s)))

-- lengths that four bytes can say
pub record AreShort (name r s : List ℕ) : Type 0 where
  pub name_short : length name < 2 ^ 32
  pub inner_short : length (mpint r ++ mpint s) < 2 ^ 32

inner_parts : (r s : List ℕ) → length (mpint r ++ mpint s) < 2 ^ 32 → (length (unsigned (magnitude r)) < 2 ^ 32) × (length (unsigned (magnitude s)) < 2 ^ 32)
inner_parts r s h =
    let whole = length-append (mpint r) (mpint s) in
    let one = length-append (u32be (length (unsigned (magnitude r)))) (unsigned (magnitude r)) in
    let two = length-append (u32be (length (unsigned (magnitude s)))) (unsigned (magnitude s)) in
    (omega (arith, h, whole, one), omega (arith, h, whole, two))

pub canonical_again : (name r s : List ℕ) → is_ecdsa name ≡ true → AreShort name r s → canonical_form (string name ++ string (mpint r ++ mpint s)) ≡ Some (string name ++ string (mpint r ++ mpint s))
unfolding canonical_form
canonical_again name r s e h =
    let parts = inner_parts r s h.inner_short in
    first_part name (string (mpint r ++ mpint s)) _ h.name_short
    ∙ (last_part (mpint r ++ mpint s) _ h.inner_short
    ∙ (ap (λ b. if b then signed_anew name (scalars_in (mpint r ++ mpint s)) else None) e
    ∙ ap (signed_anew name) (scalars_again r s parts.0 parts.1)))

pub not_canonical : (name inner : List ℕ) → is_ecdsa name ≡ false → length name < 2 ^ 32 → length inner < 2 ^ 32 → canonical_form (string name ++ string inner) ≡ None
unfolding canonical_form
not_canonical name inner e hn hi =
    first_part name (string inner) _ hn
    ∙ (last_part inner _ hi
    ∙ ap (λ b. if b then signed_anew name (scalars_in inner) else None) e)

-- ---- whatever has a canonical form

pub record IsCanonicalOf (form : List ℕ) : Type 0 where
  pub name : List ℕ
  pub r : List ℕ
  pub s : List ℕ
  pub ecdsa : is_ecdsa name ≡ true
  pub form_is : form ≡ string name ++ string (mpint r ++ mpint s)

with_ok : {A : Type 0} (o : Result (List ℕ × List ℕ) EncodingFault) (f : List ℕ → List ℕ → Option A) (y : A) → with_string o f ≡ Some y → (p : List ℕ × List ℕ) × (f p.0 p.1 ≡ Some y)
with_ok (Ok p) f y e = (p, e)
with_ok (Err d) f y e = cc

end_ok : {A : Type 0} (bytes : List ℕ) (x y : A) → if_end bytes x ≡ Some y → x ≡ y
end_ok [] x y e = cc
end_ok (b ∷ bytes) x y e = cc

then_ok : {A : Type 0} (o : Option A) (f : A → Option (List ℕ)) (y : List ℕ) → and_then o f ≡ Some y → (x : A) × (o ≡ Some x) × (f x ≡ Some y)
then_ok None f y e = cc
then_ok (Some x) f y e = (x, refl, e)

signed_ok : (name : List ℕ) (o : Option (List ℕ)) (y : List ℕ) → signed_anew name o ≡ Some y → (x : List ℕ) × (o ≡ Some x) × (string name ++ string x ≡ y)
signed_ok name None y e = cc
signed_ok name (Some x) y e = let h : string name ++ string x ≡ y = cc in (x, refl, h)

scalars_ok : (bytes y : List ℕ) → scalars_in bytes ≡ Some y → (r : List ℕ) × (s : List ℕ) × (mpint r ++ mpint s ≡ y)
scalars_ok bytes y e =
    let one = with_ok (string_at bytes) (λ r rest. with_string (string_at rest) λ s behind. if_end behind (mpint r ++ mpint s)) y e in
    let next = with_ok (string_at (one.0).1) (λ s behind. if_end behind (mpint (one.0).0 ++ mpint s)) y one.1 in
    ((one.0).0, (next.0).0, end_ok (next.0).1 _ y next.1)

if_some : {A : Type 0} (b : Bool) (o : Option A) (y : A) → (if b then o else None) ≡ Some y → (b ≡ true) × (o ≡ Some y)
if_some true o y e = (refl, e)
if_some false o y e = cc

pub canonical_is : (blob form : List ℕ) → canonical_form blob ≡ Some form → IsCanonicalOf form
unfolding canonical_form
canonical_is blob form e =
    let one = with_ok (string_at blob) _ form e in
    let next = with_ok (string_at (one.0).1) _ form one.1 in
    let ecdsa = if_some (is_ecdsa (one.0).0) (and_then (if_end (next.0).1 (next.0).0) (λ i. signed_anew (one.0).0 (scalars_in i))) form next.1 in
    let inner = then_ok (if_end (next.0).1 (next.0).0) (λ i. signed_anew (one.0).0 (scalars_in i)) form ecdsa.1 in
    let anew = signed_ok (one.0).0 (scalars_in inner.0) form inner.2 in
    let scalars = scalars_ok inner.0 anew.0 anew.1 in
    record { name = (one.0).0; r = scalars.0; s = scalars.1; ecdsa = ecdsa.0; form_is = sym anew.2 ∙ ap (λ x. string (one.0).0 ++ string x) (sym scalars.2) }

-- the law: a canonical form of under 2^32 bytes is its own
pub canonical_once : (blob form : List ℕ) → canonical_form blob ≡ Some form → length form < 2 ^ 32 → canonical_form form ≡ Some form
canonical_once blob form e h =
    let is = canonical_is blob form e in
    let size : length (string is.name ++ string (mpint is.r ++ mpint is.s)) < 2 ^ 32 = subst (λ t. length t < 2 ^ 32) is.form_is h in
    let whole = length-append (string is.name) (string (mpint is.r ++ mpint is.s)) in
    let one = length-append (u32be (length is.name)) is.name in
    let two = length-append (u32be (length (mpint is.r ++ mpint is.s))) (mpint is.r ++ mpint is.s) in
    let short : AreShort is.name is.r is.s = record { name_short = omega (arith, size, whole, one); inner_short = omega (arith, size, whole, two) } in
    ap canonical_form is.form_is ∙ (canonical_again is.name is.r is.s is.ecdsa short ∙ ap Some (sym is.form_is))
