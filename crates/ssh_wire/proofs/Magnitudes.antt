-- Numbers without their leading zeros, and with the zero byte that keeps the first bit clear.
use Rattle.std.proofs.Common.{◌≡◌, ℕ, ◌+◌, ◌<◌, ◌≤◌, Bool, true, false, ◌&&◌, ◌||◌, nat_lt, nat_le, nat_eq, List, [], ◌∷◌, length, if◌then◌else◌, refl, ap, ◌∙◌, arith}
use Rattle.std.proofs.lemmas.Bool.Decides.{nat_tests}
use Rattle.ssh_wire.specs.Forms.{magnitude, unsigned}
use Rattle.ssh_wire.specs.Fields.{is_shortest}

-- no zero byte stands at the front
abbrev pub NoZeroFirst : List ℕ → Type 0
NoZeroFirst [] = Unit {0}
NoZeroFirst (b ∷ rest) = 0 < b

pub magnitude_front : (s : List ℕ) → NoZeroFirst (magnitude s)
magnitude_front [] = tt
magnitude_front (b ∷ s) = step (nat_eq b 0) refl (magnitude_front s)
  where
    step : (t : Bool) → nat_eq b 0 ≡ t → NoZeroFirst (magnitude s) → NoZeroFirst (if t then magnitude s else b ∷ s)
    step true e behind = behind
    step false e behind = grind (arith, nat_tests)

pub magnitude_same : (m : List ℕ) → NoZeroFirst m → magnitude m ≡ m
magnitude_same [] h = refl
magnitude_same (b ∷ m) h = ap (λ t. if t then magnitude m else b ∷ m) (some b h)
  where
    some : (n : ℕ) → 0 < n → nat_eq n 0 ≡ false
    some n p = grind (arith, nat_tests)

pub magnitude_length : (s : List ℕ) → length (magnitude s) ≤ length s
magnitude_length [] = omega arith
magnitude_length (b ∷ s) = step (nat_eq b 0) (magnitude_length s)
  where
    step : (t : Bool) → length (magnitude s) ≤ length s → length (if t then magnitude s else b ∷ s) ≤ length (b ∷ s)
    step true behind = omega arith
    step false behind = omega arith

pub unsigned_length : (m : List ℕ) → length (unsigned m) ≤ length m + 1
unsigned_length [] = omega arith
unsigned_length (b ∷ m) = step (nat_lt b 128)
  where
    step : (t : Bool) → length (if t then b ∷ m else 0 ∷ b ∷ m) ≤ length (b ∷ m) + 1
    step true = omega arith
    step false = omega arith

pub magnitude_unsigned : (m : List ℕ) → NoZeroFirst m → magnitude (unsigned m) ≡ m
magnitude_unsigned [] h = refl
magnitude_unsigned (b ∷ m) h = step (nat_lt b 128)
  where
    step : (t : Bool) → magnitude (if t then b ∷ m else 0 ∷ b ∷ m) ≡ b ∷ m
    step true = magnitude_same (b ∷ m) h
    step false = magnitude_same (b ∷ m) h

small_shortest : (b : ℕ) (m : List ℕ) → 0 < b → b < 128 → is_shortest (b ∷ m) ≡ true
small_shortest b [] h s = grind (arith, nat_tests)
small_shortest b (c ∷ m) h s = grind (arith, nat_tests)

large_shortest : (b : ℕ) (m : List ℕ) → 128 ≤ b → is_shortest (0 ∷ b ∷ m) ≡ true
large_shortest b m h = grind (arith, nat_tests)

pub unsigned_shortest : (m : List ℕ) → NoZeroFirst m → is_shortest (unsigned m) ≡ true
unsigned_shortest [] h = refl
unsigned_shortest (b ∷ m) h = step (nat_lt b 128) refl
  where
    step : (t : Bool) → nat_lt b 128 ≡ t → is_shortest (if t then b ∷ m else 0 ∷ b ∷ m) ≡ true
    step true e = small_shortest b m h (grind (arith, nat_tests))
    step false e = large_shortest b m (grind (arith, nat_tests))

kept_small : (b : ℕ) (m : List ℕ) → 0 < b → b < 128 → unsigned (magnitude (b ∷ m)) ≡ b ∷ m
kept_small b m h s = ap unsigned (magnitude_same (b ∷ m) h) ∙ ap (λ t. if t then b ∷ m else 0 ∷ b ∷ m) (below b s)
  where
    below : (n : ℕ) → n < 128 → nat_lt n 128 ≡ true
    below n p = grind (arith, nat_tests)

kept_large : (c : ℕ) (m : List ℕ) → 128 ≤ c → unsigned (magnitude (0 ∷ c ∷ m)) ≡ 0 ∷ c ∷ m
kept_large c m h = ap unsigned (magnitude_same (c ∷ m) (omega arith)) ∙ ap (λ t. if t then c ∷ m else 0 ∷ c ∷ m) (above c h)
  where
    above : (n : ℕ) → 128 ≤ n → nat_lt n 128 ≡ false
    above n p = grind (arith, nat_tests)

-- a number in the fewest bytes is its magnitude with a clear first bit
pub shortest_is : (b : List ℕ) → is_shortest b ≡ true → unsigned (magnitude b) ≡ b
shortest_is [] h = refl
shortest_is (b ∷ []) h = kept_small b [] (grind (arith, nat_tests)) (grind (arith, nat_tests))
shortest_is (b ∷ c ∷ m) h = step b (nat_eq b 0) refl h
  where
    step : (b : ℕ) (t : Bool) → nat_eq b 0 ≡ t → (nat_lt b 128 && (nat_lt 0 b || nat_le 128 c)) ≡ true → unsigned (magnitude (b ∷ c ∷ m)) ≡ b ∷ c ∷ m
    step b true e h =
        let zero : b ≡ 0 = grind (arith, nat_tests) in
        let large : 128 ≤ c = grind (arith, nat_tests) in
        rw zero (kept_large c m large)
    step b false e h = kept_small b (c ∷ m) (grind (arith, nat_tests)) (grind (arith, nat_tests))
