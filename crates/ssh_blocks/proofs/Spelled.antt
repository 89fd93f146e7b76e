-- Messages that are spelled as theirs are, read again.
use Rattle.std.proofs.Common.{◌≡◌, ℕ, ◌+◌, ◌-◌, ◌^◌, ◌<◌, ◌≤◌, Bool, true, false, if◌then◌else◌, List, [], ◌∷◌, ◌++◌, length, Result, Ok, Err, sym, ◌∙◌, ap, arith, append-nil, length-append}
use Rattle.std.specs.Prelude.{nat_lt}
use Rattle.ssh_wire.specs.Fields.{◌>>=◌, answer_of, u32_at}
use Rattle.ssh_wire.specs.Forms.{magnitude, mpint, string, u32be, unsigned}
use Rattle.ssh_wire.specs.declared.error.Error.{Error}
use Rattle.ssh_wire.proofs.Lemmas.{u32_again, same_pair, magnitude_front, magnitude_same}
use Rattle.ssh_kex.specs.Fields.{sizes_front}
use Rattle.ssh_kex.specs.Messages.{sizes_text}
use Rattle.ssh_kex.specs.declared.group.GexParams.{GexParams}
use Rattle.ssh_blocks.specs.Forms.{AreSizes, AreTwoNumbers}

-- what stands behind one type in one message
pub fields_one : (payload rest fields : List ℕ) (t : ℕ) → payload ≡ t ∷ rest → payload ≡ t ∷ fields → rest ≡ fields
fields_one payload rest fields t e f = let p : t ∷ rest ≡ t ∷ fields = sym e ∙ f in cc

pub at_end : (rest fields : List ℕ) → rest ≡ fields → rest ≡ fields ++ []
at_end rest fields e = e ∙ sym (append-nil fields)

-- nothing is left where nothing was left to come
pub none_left : (left : List ℕ) → left ≡ [] → 0 < length left → ⊥
none_left left e l = (let z : length left ≡ 0 = ap length e in omega (arith, z, l))

ok_no_err : {Y : Type 0} (y : Y) (e : Error) (r : Result Y Error) → r ≡ Ok y → r ≡ Err e → ⊥
ok_no_err y e r h k = let same : Ok y ≡ Err e = sym h ∙ k in cc

-- ---- sizes

sizes_alone : (g : GexParams) → AreSizes g → sizes_front (u32be g.min_group_size ++ (u32be g.preferred_group_size ++ (u32be g.max_group_size ++ []))) ≡ Ok (g, [])
unfolding sizes_front
sizes_alone g s =
    ap (λ r. r >>= (λ x. u32_at x.1 >>= (λ y. u32_at y.1 >>= (λ z. Ok (record { min_group_size = x.0; preferred_group_size = y.0; max_group_size = z.0 }, z.1))))) (u32_again g.min_group_size (u32be g.preferred_group_size ++ (u32be g.max_group_size ++ [])) s.least)
    ∙ (ap (λ r. r >>= (λ y. u32_at y.1 >>= (λ z. Ok (record { min_group_size = g.min_group_size; preferred_group_size = y.0; max_group_size = z.0 }, z.1)))) (u32_again g.preferred_group_size (u32be g.max_group_size ++ []) s.wanted)
    ∙ ap (λ r. r >>= (λ z. Ok (record { min_group_size = g.min_group_size; preferred_group_size = g.preferred_group_size; max_group_size = z.0 }, z.1))) (u32_again g.max_group_size [] s.most))

sizes_whole : (g : GexParams) → sizes_text g ≡ u32be g.min_group_size ++ (u32be g.preferred_group_size ++ (u32be g.max_group_size ++ []))
sizes_whole g = ap (λ t. u32be g.min_group_size ++ (u32be g.preferred_group_size ++ t)) (sym (append-nil (u32be g.max_group_size)))

sizes_again : (old : List ℕ) (g : GexParams) → AreSizes g → old ≡ sizes_text g → sizes_front old ≡ Ok (g, [])
sizes_again old g s e = ap sizes_front (e ∙ sizes_whole g) ∙ sizes_alone g s

-- what is read of sizes is these sizes
pub sizes_read : (old new : List ℕ) (g read : GexParams) → AreSizes g → old ≡ sizes_text g → sizes_front old ≡ Ok (read, new) → (read ≡ g) × (new ≡ [])
sizes_read old new g read s e h =
    let pair = same_pair (read, new) (g, []) (sizes_front old) h (sizes_again old g s e) in
    (ap (λ (p : GexParams × List ℕ). p.0) pair, ap (λ (p : GexParams × List ℕ). p.1) pair)

pub sizes_readable : (old : List ℕ) (g : GexParams) (fault : Error) → AreSizes g → old ≡ sizes_text g → answer_of (sizes_front old) ≡ Err fault → ⊥
sizes_readable old g fault s e h = ok_no_err (g, []) fault (answer_of (sizes_front old)) (ap answer_of (sizes_again old g s e)) h

-- ---- lengths

pub string_short : (payload : List ℕ) (t : ℕ) (v : List ℕ) → payload ≡ t ∷ string v → length v < length payload
string_short payload t v e = (let z : length payload ≡ length (t ∷ string v) = ap length e in omega (arith, z))

pub reply_short : (payload : List ℕ) (t : ℕ) (h v s : List ℕ) → payload ≡ t ∷ (string h ++ (string v ++ string s)) → (length h < length payload) × (length v < length payload) × (length s < length payload)
reply_short payload t h v s e =
    let z : length payload ≡ length (t ∷ (string h ++ (string v ++ string s))) = ap length e in
    let a : length (string h ++ (string v ++ string s)) ≡ length (string h) + length (string v ++ string s) = length-append (string h) (string v ++ string s) in
    let b : length (string v ++ string s) ≡ length (string v) + length (string s) = length-append (string v) (string s) in
    (omega (arith, z, a, b), omega (arith, z, a, b), omega (arith, z, a, b))

unsigned_longer : (m : List ℕ) → length m ≤ length (unsigned m)
unsigned_longer [] = omega arith
unsigned_longer (b ∷ m) = step (nat_lt b 128) where
  step : (t : Bool) → length (b ∷ m) ≤ length (if t then b ∷ m else 0 ∷ b ∷ m)
  step true = omega arith
  step false = omega arith

numbers_length : (p g : List ℕ) → length (magnitude p) + length (magnitude g) < length (mpint p ++ mpint g)
numbers_length p g =
    let a : length (mpint p ++ mpint g) ≡ length (mpint p) + length (mpint g) = length-append (mpint p) (mpint g) in
    let b : length (magnitude p) ≤ length (unsigned (magnitude p)) = unsigned_longer (magnitude p) in
    let c : length (magnitude g) ≤ length (unsigned (magnitude g)) = unsigned_longer (magnitude g) in
    omega (arith, a, b, c)

pub numbers_within : (payload : List ℕ) (t : ℕ) (p g : List ℕ) → payload ≡ t ∷ (mpint p ++ mpint g) → length (magnitude p) + length (magnitude g) < length payload
numbers_within payload t p g e =
    let z : length payload ≡ length (t ∷ (mpint p ++ mpint g)) = ap length e in
    let n = numbers_length p g in
    omega (arith, z, n)

mpint_magnitude : (p : List ℕ) → mpint (magnitude p) ≡ mpint p
mpint_magnitude p = ap (λ m. string (unsigned m)) (magnitude_same (magnitude p) (magnitude_front p))

-- two numbers, without their leading zeros
pub numbers_short : (payload : List ℕ) (t : ℕ) → length payload < 2 ^ 32 → (two : AreTwoNumbers t payload) → (length (magnitude two.0) < 2 ^ 32 - 1) × (length (magnitude two.1) < 2 ^ 32 - 1) × (payload ≡ t ∷ (mpint (magnitude two.0) ++ mpint (magnitude two.1)))
numbers_short payload t l two =
    let z : length payload ≡ length (t ∷ (mpint two.0 ++ mpint two.1)) = ap length two.2 in
    let n = numbers_length two.0 two.1 in (
      omega (arith, z, n, l),
      omega (arith, z, n, l),
      two.2 ∙ (ap (λ x. t ∷ (x ++ mpint two.1)) (sym (mpint_magnitude two.0)) ∙ ap (λ x. t ∷ (mpint (magnitude two.0) ++ x)) (sym (mpint_magnitude two.1))),
    )
