-- A number of sixteen bytes from two halves, each byte in its place.
use Rattle.std.proofs.Common.{[], ◌∷◌, ◌++◌, ◌≡◌, ℕ, ◌+◌, ◌*◌, ◌/◌, ◌%◌, ◌^◌, ◌<◌, List, get_or, arith, refl, ◌∙◌}
use Rattle.std.specs.Int.{w128, to_be_bytes}
use Rattle.std.proofs.lemmas.Simd.{get_or_narrower}
use lib.Lanes.{digits_l, number_l, pick_l}
use Rattle.ssh_aes.proofs.Sixteens.{sixteen-list}

-- the bytes of two halves, each the lowest first
abbrev pub halves : ℕ → ℕ → List ℕ
halves high low = digits_l 256 16 (number_l 18446744073709551616 (high ∷ low ∷ []))

high-byte : (n high low i : ℕ) → high ≡ n / 18446744073709551616 → high < 18446744073709551616 → low < 18446744073709551616 → i < 8 → get_or (halves high low) (8 * 0 + i) 0 ≡ high / 256 ^ i % 256
high-byte n high low i e h l m = get_or_narrower 18446744073709551616 8 256 16 (high ∷ low ∷ []) 0 i refl (h, (l, tt)) m (omega arith)

low-byte : (n high low i : ℕ) → low ≡ n % 18446744073709551616 → high < 18446744073709551616 → low < 18446744073709551616 → i < 8 → get_or (halves high low) (8 * 1 + i) 0 ≡ low / 256 ^ i % 256
low-byte n high low i e h l m = get_or_narrower 18446744073709551616 8 256 16 (high ∷ low ∷ []) 1 i refl (h, (l, tt)) m (omega arith)

pub spelled_is : (n high low : ℕ) → n < 2 ^ 128 → high ≡ n / 18446744073709551616 → low ≡ n % 18446744073709551616
    → pick_l 0 (halves high low ++ halves high low) (7 ∷ 6 ∷ 5 ∷ 4 ∷ 3 ∷ 2 ∷ 1 ∷ 0 ∷ 15 ∷ 14 ∷ 13 ∷ 12 ∷ 11 ∷ 10 ∷ 9 ∷ 8 ∷ []) ≡ to_be_bytes w128 n
spelled_is n high low f e g =
    let h : high < 18446744073709551616 = omega arith in
    let l : low < 18446744073709551616 = omega arith in
    sixteen-list
    (high-byte n high low 7 e h l (omega arith) ∙ omega arith)
    (high-byte n high low 6 e h l (omega arith) ∙ omega arith)
    (high-byte n high low 5 e h l (omega arith) ∙ omega arith)
    (high-byte n high low 4 e h l (omega arith) ∙ omega arith)
    (high-byte n high low 3 e h l (omega arith) ∙ omega arith)
    (high-byte n high low 2 e h l (omega arith) ∙ omega arith)
    (high-byte n high low 1 e h l (omega arith) ∙ omega arith)
    (high-byte n high low 0 e h l (omega arith) ∙ omega arith)
    (low-byte n high low 7 g h l (omega arith) ∙ omega arith)
    (low-byte n high low 6 g h l (omega arith) ∙ omega arith)
    (low-byte n high low 5 g h l (omega arith) ∙ omega arith)
    (low-byte n high low 4 g h l (omega arith) ∙ omega arith)
    (low-byte n high low 3 g h l (omega arith) ∙ omega arith)
    (low-byte n high low 2 g h l (omega arith) ∙ omega arith)
    (low-byte n high low 1 g h l (omega arith) ∙ omega arith)
    (low-byte n high low 0 g h l (omega arith) ∙ omega arith)
