-- Reading a number that is written in digits without a leading zero.
use Rattle.std.proofs.Common.{◌≡◌, ℕ, zero, suc, ◌<◌, ◌^◌, ◌&&◌, nat_lt, Bool, true, List, [], ◌∷◌, length, Some, None, Result, Ok, Err, MatchResult, refl, arith, if◌then◌else◌}
use Rattle.std.specs.Result.{result_ok, OkIff}
use Rattle.std.specs.Str.{all_ascii_digits, IsAscii, IsUtf8}
use Rattle.std.specs.Str.Parse.{ParsesUnsigned, digits_value}
use Rattle.std.proofs.lemmas.Bool.Decides.{nat_tests}
use Rattle.std.proofs.lemmas.Grind.{common_steps}
use Rattle.std.proofs.lemmas.Str.{IsUtf8-from_ascii}
use Rattle.std.proofs.lemmas.Str.Parse.{IsNumeralModel, numerals_by_value, tells_all_ascii_digits, parse_digits}
use Rattle.ssh_lines.specs.Fields.{is_number, number_of}

own : IsNumeralModel (λ ds. all_ascii_digits ds ≡ true) (digits_value 10)
own = numerals_by_value _ tells_all_ascii_digits

digits_ascii : (word : List ℕ) → all_ascii_digits word ≡ true → IsAscii word
digits_ascii [] h i = grind (arith, common_steps)
digits_ascii (c ∷ word) h zero = grind (arith, nat_tests)
digits_ascii (c ∷ word) h (suc i) = digits_ascii word (grind (arith, nat_tests)) i

number_digits : (word : List ℕ) → is_number word ≡ true → all_ascii_digits word ≡ true
number_digits [] h = refl
number_digits (c ∷ word) h = grind (arith, nat_tests)

number_filled : (word : List ℕ) → is_number word ≡ true → 0 < length word
number_filled [] h = cc
number_filled (c ∷ word) h = omega arith

pub number_is_text : {A E : Type 0} (F : A → Type 0) (G : E → Type 0) (word : List ℕ) (r : Result A E) → MatchResult r (λ x. F x × IsUtf8 word) (λ e. ¬ (IsUtf8 word) × G e) → is_number word ≡ true → result_ok r ≡ None → ⊥
number_is_text F G word (Ok x) h digits none = cc
number_is_text F G word (Err e) h digits none = h.0 (IsUtf8-from_ascii word (digits_ascii word (number_digits word digits)))

chosen : {E : Type 0} (t : Bool) (word : List ℕ) (r : Result ℕ E) (value : ℕ) → t ≡ true → OkIff r ((0 < length word) × (value < 2 ^ 64)) value → 0 < length word → result_ok r ≡ (if t && nat_lt value (2 ^ 64) then Some value else None)
chosen t word (Ok x) value is h some = rw is (grind (arith, nat_tests))
chosen t word (Err e) value is h some = rw is (grind (arith, nat_tests))

pub number_read : {E : Type 0} (word : List ℕ) (r : Result ℕ E) → ParsesUnsigned 64 10 word r → is_number word ≡ true → result_ok r ≡ number_of word
number_read word r h digits =
    chosen (is_number word) word r (digits_value 10 word) digits (parse_digits own 64 word r h (number_digits word digits)) (number_filled word digits)
