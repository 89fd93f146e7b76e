-- What is read is spelled so, and what is spelled so is read.
use Rattle.std.proofs.Common.{◌≡◌, ℕ, suc, ◌+◌, ◌-◌, ◌^◌, ◌<◌, ◌≤◌, Bool, true, false, nat_lt, List, [], ◌∷◌, ◌++◌, length, take, drop, Result, Ok, Err, if◌then◌else◌, refl, sym, ap, ◌∙◌, inl, inr, subst, arith}
use Rattle.std.specs.Int.{w32, to_be_bytes, from_be_bytes}
use Rattle.std.specs.Str.{is_utf8}
use Rattle.std.proofs.lemmas.Nat.{be_bytes_4, from_be_bytes-to_be_bytes_4}
use Rattle.std.proofs.lemmas.List.{take-append-drop, length-take-le, get_or-take, get_or-drop, get_or_past, length-append}
use Rattle.std.proofs.lemmas.Bool.{cases_lt}
use Rattle.std.proofs.Math.Seq.{take-append_seam, drop-append_seam}
use Rattle.std.proofs.lemmas.Bool.Decides.{nat_tests}
use Rattle.ssh_wire.specs.Forms.{AreBytes, u32be, string, mpint, magnitude, unsigned}
use Rattle.ssh_wire.specs.Fields.{◌>>=◌, byte_at, u32_at, body_at, string_at, text_at, limited_at, mpint_at, is_shortest}
use Rattle.ssh_wire.specs.declared.error.EncodingFault.{EncodingFault}
use Rattle.ssh_wire.specs.declared.error.EncodingFault.TheVariants.{Length, CharacterEncoding, MpintEncoding}
use Rattle.ssh_wire.proofs.Magnitudes.{NoZeroFirst, shortest_is, magnitude_front, magnitude_same, unsigned_shortest, magnitude_unsigned, unsigned_length, magnitude_length}

pub same_pair : {A : Type 0} (p q : A) → (r : Result A EncodingFault) → r ≡ Ok p → r ≡ Ok q → p ≡ q
same_pair p q r h k = let same : Ok p ≡ Ok q = sym h ∙ k in cc

pub bind_ok : {A B : Type 0} (r : Result A EncodingFault) (f : A → Result B EncodingFault) (y : B) → (r >>= f) ≡ Ok y → (x : A) × (r ≡ Ok x) × (f x ≡ Ok y)
bind_ok (Ok x) f y h = (x, refl, h)
bind_ok (Err e) f y h = cc

guard_ok : {A : Type 0} (t : Bool) (f : EncodingFault) (x y : A) → (if t then Err f else Ok x) ≡ Ok y → (t ≡ false) × (x ≡ y)
guard_ok true f x y h = cc
guard_ok false f x y h = (refl, cc)

allow_ok : {A : Type 0} (t : Bool) (f : EncodingFault) (x y : A) → (if t then Ok x else Err f) ≡ Ok y → (t ≡ true) × (x ≡ y)
allow_ok false f x y h = cc
allow_ok true f x y h = (refl, cc)

second_ok : {A : Type 0} (t u : Bool) (f k : EncodingFault) (x y : A) → (if t then Err f else if u then Ok x else Err k) ≡ Ok y → (t ≡ false) × (u ≡ true) × (x ≡ y)
second_ok true u f k x y h = cc
second_ok false true f k x y h = (refl, refl, cc)
second_ok false false f k x y h = cc

pub AreBytes-drop : (n : ℕ) (bytes : List ℕ) → AreBytes bytes → AreBytes (drop n bytes)
AreBytes-drop n bytes fit i = let at = fit (n + i) in rw (get_or-drop n bytes i 0) at

pub AreBytes-tail : (b : ℕ) (bytes : List ℕ) → AreBytes (b ∷ bytes) → AreBytes bytes
AreBytes-tail b bytes fit i = fit (suc i)

take_below : (n : ℕ) (bytes : List ℕ) → AreBytes bytes → n ≤ length bytes → AreBytes (take n bytes)
take_below n bytes fit long i = elim (cases_lt i n) [
  | inl h ↦ rw (get_or-take n bytes i 0 h) (fit i)
  | inr h ↦ let past : length (take n bytes) ≤ i = omega (arith, length-take-le n bytes long) in rw (get_or_past (take n bytes) i 0 past) (omega arith)
]

-- a form that was found: its spelling, and bytes behind it
abbrev pub Spells : List ℕ → List ℕ → List ℕ → Type 0
Spells bytes form rest = (bytes ≡ form ++ rest) × AreBytes rest

pub byte_takes : (bytes rest : List ℕ) (n : ℕ) → AreBytes bytes → byte_at bytes ≡ Ok (n, rest) → Spells bytes (n ∷ []) rest
byte_takes [] rest n fit h = cc
byte_takes (b ∷ bytes) rest n fit h =
    let same = same_pair (b, bytes) (n, rest) (byte_at (b ∷ bytes)) refl h in
    let head : b ≡ n = ap (λ p. p.0) same in
    let tail : bytes ≡ rest = ap (λ p. p.1) same in
    (ap (λ x. x ∷ bytes) head ∙ ap (λ r. n ∷ r) tail, λ i. rw (← tail) (fit (suc i)))

pub u32_takes : (bytes rest : List ℕ) (n : ℕ) → AreBytes bytes → u32_at bytes ≡ Ok (n, rest) → Spells bytes (u32be n) rest
unfolding u32_at
u32_takes bytes rest n fit h =
    let g = guard_ok (nat_lt (length bytes) 4) Length (from_be_bytes w32 (take 4 bytes), drop 4 bytes) (n, rest) h in
    let long : 4 ≤ length bytes = let e = g.0 in grind (arith, nat_tests) in
    let value : n ≡ from_be_bytes w32 (take 4 bytes) = sym (ap (λ p. p.0) g.1) in
    let behind : drop 4 bytes ≡ rest = ap (λ p. p.1) g.1 in
    let front : to_be_bytes w32 n ≡ take 4 bytes = be_bytes_4 (take 4 bytes) n (length-take-le 4 bytes long) (take_below 4 bytes fit long) value in (
      sym (take-append-drop 4 bytes) ∙ (ap (λ l. l ++ drop 4 bytes) (sym front) ∙ ap (λ r. to_be_bytes w32 n ++ r) behind),
      let P : List ℕ → Type 0 = λ r. AreBytes r in subst P behind (AreBytes-drop 4 bytes fit),
    )

pub u32_again : (n : ℕ) (rest : List ℕ) → n < 2 ^ 32 → u32_at (u32be n ++ rest) ≡ Ok (n, rest)
unfolding u32_at
u32_again n rest small =
    let long : nat_lt (length (u32be n ++ rest)) 4 ≡ false = grind (arith, nat_tests) in
    let value : from_be_bytes w32 (to_be_bytes w32 n) ≡ n = from_be_bytes-to_be_bytes_4 n small in
    ap (λ t. if t then Err Length else Ok (from_be_bytes w32 (to_be_bytes w32 n), rest)) long ∙ ap (λ v. Ok (v, rest)) value

body_takes : (n : ℕ) (bytes s rest : List ℕ) → AreBytes bytes → body_at n bytes ≡ Ok (s, rest) → (length s ≡ n) × Spells bytes s rest
body_takes n bytes s rest fit h =
    let g = guard_ok (nat_lt (length bytes) n) Length (take n bytes, drop n bytes) (s, rest) h in
    let long : n ≤ length bytes = let e = g.0 in grind (arith, nat_tests) in
    let front : take n bytes ≡ s = ap (λ p. p.0) g.1 in
    let behind : drop n bytes ≡ rest = ap (λ p. p.1) g.1 in (
      ap length (sym front) ∙ length-take-le n bytes long,
      (
        sym (take-append-drop n bytes) ∙ (ap (λ l. l ++ drop n bytes) front ∙ ap (λ r. s ++ r) behind),
        let P : List ℕ → Type 0 = λ r. AreBytes r in subst P behind (AreBytes-drop n bytes fit),
      ),
    )

body_again : (s rest : List ℕ) → body_at (length s) (s ++ rest) ≡ Ok (s, rest)
body_again s rest =
    let long : nat_lt (length (s ++ rest)) (length s) ≡ false = simp length-append (above (length s) (length rest)) in
    ap (λ t. if t then Err Length else Ok (take (length s) (s ++ rest), drop (length s) (s ++ rest))) long ∙ rw (take-append_seam s rest, drop-append_seam s rest) refl
  where
    above : (n k : ℕ) → nat_lt (n + k) n ≡ false
    above n k = grind (arith, nat_tests)

pub string_takes : (bytes s rest : List ℕ) → AreBytes bytes → string_at bytes ≡ Ok (s, rest) → Spells bytes (string s) rest
unfolding string_at
string_takes bytes s rest fit h =
    let b = bind_ok (u32_at bytes) (λ size. body_at size.0 size.1) (s, rest) h in
    let head = u32_takes bytes (b.0).1 (b.0).0 fit b.1 in
    let tail = body_takes (b.0).0 (b.0).1 s rest head.1 b.2 in
    (head.0 ∙ (ap (λ l. u32be (b.0).0 ++ l) tail.1.0 ∙ ap (λ n. u32be n ++ (s ++ rest)) (sym tail.0)), tail.1.1)

pub string_again : (s rest : List ℕ) → length s < 2 ^ 32 → string_at (string s ++ rest) ≡ Ok (s, rest)
unfolding string_at
string_again s rest small = ap (λ r. r >>= (λ size. body_at size.0 size.1)) (u32_again (length s) (s ++ rest) small) ∙ body_again s rest

pub text_takes : (bytes s rest : List ℕ) → AreBytes bytes → text_at bytes ≡ Ok (s, rest) → Spells bytes (string s) rest × (is_utf8 s ≡ true)
unfolding text_at
text_takes bytes s rest fit h =
    let b = bind_ok (string_at bytes) (λ x. if is_utf8 x.0 then Ok x else Err CharacterEncoding) (s, rest) h in
    let g = allow_ok (is_utf8 (b.0).0) CharacterEncoding b.0 (s, rest) b.2 in
    let read : string_at bytes ≡ Ok (s, rest) = b.1 ∙ ap (λ x. Ok x) g.1 in
    (string_takes bytes s rest fit read, ap (λ x. is_utf8 x.0) (sym g.1) ∙ g.0)

pub text_again : (s rest : List ℕ) → length s < 2 ^ 32 → is_utf8 s ≡ true → text_at (string s ++ rest) ≡ Ok (s, rest)
unfolding text_at
text_again s rest small utf8 =
    ap (λ r. r >>= (λ x. if is_utf8 x.0 then Ok x else Err CharacterEncoding)) (string_again s rest small) ∙ ap (λ t. if t then Ok (s, rest) else Err CharacterEncoding) utf8

pub limited_takes : (most : ℕ) (bytes s rest : List ℕ) → AreBytes bytes → limited_at most bytes ≡ Ok (s, rest) → Spells bytes (string s) rest × (length s ≤ most) × (is_utf8 s ≡ true)
unfolding limited_at
limited_takes most bytes s rest fit h =
    let b = bind_ok (string_at bytes) (λ x. if nat_lt most (length x.0) then Err Length else if is_utf8 x.0 then Ok x else Err CharacterEncoding) (s, rest) h in
    let g = second_ok (nat_lt most (length (b.0).0)) (is_utf8 (b.0).0) Length CharacterEncoding b.0 (s, rest) b.2 in
    let read : string_at bytes ≡ Ok (s, rest) = b.1 ∙ ap (λ x. Ok x) g.2 in
    let small : nat_lt most (length s) ≡ false = ap (λ x. nat_lt most (length x.0)) (sym g.2) ∙ g.0 in
    (string_takes bytes s rest fit read, grind (arith, nat_tests), ap (λ x. is_utf8 x.0) (sym g.2) ∙ g.1)

pub limited_again : (most : ℕ) (s rest : List ℕ) → length s < 2 ^ 32 → length s ≤ most → is_utf8 s ≡ true → limited_at most (string s ++ rest) ≡ Ok (s, rest)
unfolding limited_at
limited_again most s rest small short utf8 =
    let kept : nat_lt most (length s) ≡ false = grind (arith, nat_tests) in
    ap (λ r. r >>= (λ x. if nat_lt most (length x.0) then Err Length else if is_utf8 x.0 then Ok x else Err CharacterEncoding)) (string_again s rest small)
    ∙ (ap (λ t. if t then Err Length else if is_utf8 s then Ok (s, rest) else Err CharacterEncoding) kept
    ∙ ap (λ t. if t then Ok (s, rest) else Err CharacterEncoding) utf8)

pub mpint_takes : (bytes m rest : List ℕ) → AreBytes bytes → mpint_at bytes ≡ Ok (m, rest) → Spells bytes (mpint m) rest × (magnitude m ≡ m)
unfolding mpint_at
mpint_takes bytes m rest fit h =
    let b = bind_ok (string_at bytes) (λ x. if is_shortest x.0 then Ok (magnitude x.0, x.1) else Err MpintEncoding) (m, rest) h in
    let g = allow_ok (is_shortest (b.0).0) MpintEncoding (magnitude (b.0).0, (b.0).1) (m, rest) b.2 in
    let value : magnitude (b.0).0 ≡ m = ap (λ p. p.0) g.1 in
    let behind : (b.0).1 ≡ rest = ap (λ p. p.1) g.1 in
    let whole = string_takes bytes (b.0).0 (b.0).1 fit b.1 in
    let again : magnitude m ≡ m = ap magnitude (sym value) ∙ (magnitude_same (magnitude (b.0).0) (magnitude_front (b.0).0) ∙ value) in
    let body : unsigned (magnitude m) ≡ (b.0).0 = ap unsigned (again ∙ sym value) ∙ shortest_is (b.0).0 g.0 in (
      (
        whole.0 ∙ (ap (λ r. string (b.0).0 ++ r) behind ∙ ap (λ s. string s ++ rest) (sym body)),
        let P : List ℕ → Type 0 = λ r. AreBytes r in subst P behind whole.1,
      ),
      again,
    )

pub mpint_again : (s rest : List ℕ) → length s < 2 ^ 32 - 1 → mpint_at (mpint s ++ rest) ≡ Ok (magnitude s, rest)
unfolding mpint_at
mpint_again s rest small =
    let m : List ℕ = magnitude s in
    let front : NoZeroFirst (magnitude s) = magnitude_front s in
    let fits : length (unsigned (magnitude s)) < 2 ^ 32 = omega (arith, magnitude_length s, unsigned_length (magnitude s)) in
    ap (λ r. r >>= (λ x. if is_shortest x.0 then Ok (magnitude x.0, x.1) else Err MpintEncoding)) (string_again (unsigned (magnitude s)) rest fits)
    ∙ (ap (λ t. if t then Ok (magnitude (unsigned (magnitude s)), rest) else Err MpintEncoding) (unsigned_shortest (magnitude s) front)
    ∙ ap (λ v. Ok (v, rest)) (magnitude_unsigned (magnitude s) front))

-- one text is read in one way
pub read_once : {Y : Type 0} (f : List ℕ → Result (Y × List ℕ) EncodingFault) (a b : List ℕ) (p q : Y × List ℕ) → a ≡ b → f a ≡ Ok p → f b ≡ Ok q → (p.0 ≡ q.0) × (p.1 ≡ q.1)
read_once {Y = Y} f a b p q e h k =
    let same : Ok p ≡ Ok q = sym h ∙ (ap f e ∙ k) in
    let pair : p ≡ q = cc in
    (ap (λ (x : Y × List ℕ). x.0) pair, ap (λ (x : Y × List ℕ). x.1) pair)

pub never_refused : {Y : Type 0} (f : List ℕ → Result Y EncodingFault) (a b : List ℕ) (d : EncodingFault) (y : Y) → a ≡ b → f a ≡ Err d → f b ≡ Ok y → ⊥
never_refused f a b d y e h k = let same : Err d ≡ Ok y = sym h ∙ (ap f e ∙ k) in cc
