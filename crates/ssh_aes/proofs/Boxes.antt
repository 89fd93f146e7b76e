-- The tables against the standard's functions, computed for all bytes.
use Rattle.std.proofs.Common.{◌≡◌, ℕ, ◌/◌, ◌%◌, ◌<◌, true, Bool, ◌&&◌, eqb, ltb, List, arith, refl, ap, ◌∙◌}
use Rattle.std.specs.Prelude.{bit_xor}
use Rattle.std.specs.Bool.{IsTrue}
use Rattle.std.proofs.lemmas.Bool.{eqb-true, ltb-true, and_parts}
use Rattle.std.proofs.lemmas.Nat.{xor_mod, xor_shr}
use Rattle.ssh_aes.specs.Field.{byte_product, product_modulo, polynomial_product, remainder}
use Rattle.ssh_aes.specs.Aes.{substitute, inverse_substitute, times_squares}
use Rattle.ssh_aes.proofs.Below.{all_below, all_below-at}
use Rattle.ssh_aes.proofs.Polynomials.{xor_across}
use Rattle.ssh_aes.specs.declared.vector_tables.TheConstants.{LEFT_LOW, LEFT_HIGH, ENTERED_LOW, ENTERED_HIGH, SUBSTITUTED_FIRST, SUBSTITUTED_SECOND, DOUBLED_FIRST, DOUBLED_SECOND, INVERSE_ENTERED_LOW, INVERSE_ENTERED_HIGH, CROSSED_LOW, CROSSED_HIGH, CROSSED_NINE_LOW, CROSSED_NINE_HIGH, CROSSED_ELEVEN_LOW, CROSSED_ELEVEN_HIGH, CROSSED_THIRTEEN_LOW, CROSSED_THIRTEEN_HIGH, CROSSED_FOURTEEN_LOW, CROSSED_FOURTEEN_HIGH, RESTORED_FIRST, RESTORED_SECOND, NINE_FIRST, NINE_SECOND, ELEVEN_FIRST, ELEVEN_SECOND, THIRTEEN_FIRST, THIRTEEN_SECOND, FOURTEEN_FIRST, FOURTEEN_SECOND}
use Rattle.ssh_aes.specs.Reads.{is_place, read_at, read_halves, read_parts, first_place, second_place, by_places}
use Rattle.ssh_aes.specs.Held.{leave, inverse_leave, key_byte, inverse_byte}

-- ---- places

first_test : all_below 256 (λ b. is_place (first_place b)) ≡ true
unfolding first_place
first_test = refl

pub first_is_place : (b : ℕ) → b < 256 → IsTrue (is_place (first_place b))
first_is_place b h = all_below-at 256 (λ b. is_place (first_place b)) first_test b h

second_test : all_below 256 (λ b. is_place (second_place b)) ≡ true
unfolding second_place
second_test = refl

pub second_is_place : (b : ℕ) → b < 256 → IsTrue (is_place (second_place b))
second_is_place b h = all_below-at 256 (λ b. is_place (second_place b)) second_test b h

-- ---- the bases are linear

abbrev is_linear : List ℕ → Bool
is_linear t = all_below 16 (λ x. all_below 16 (λ y. eqb (read_at t (bit_xor x y)) (bit_xor (read_at t x) (read_at t y))))

entries-sum : (t : List ℕ) → is_linear t ≡ true → (x y : ℕ) → x < 16 → y < 16 → read_at t (bit_xor x y) ≡ bit_xor (read_at t x) (read_at t y)
entries-sum t e x y h k =
    eqb-true _ _ (all_below-at 16 (λ z. eqb (read_at t (bit_xor x z)) (bit_xor (read_at t x) (read_at t z))) (all_below-at 16 (λ x. all_below 16 (λ y. eqb (read_at t (bit_xor x y)) (bit_xor (read_at t x) (read_at t y)))) e x h) y k)

halves-sum : (low high : List ℕ) → is_linear low ≡ true → is_linear high ≡ true → (a b : ℕ) → a < 256 → b < 256 → read_halves low high (bit_xor a b) ≡ bit_xor (read_halves low high a) (read_halves low high b)
unfolding read_halves
halves-sum low high e f a b h k =
    ap (λ x. bit_xor (read_at low x) (read_at high (bit_xor a b / 16))) (xor_mod a b 4)
    ∙ ap (λ x. bit_xor (read_at low (bit_xor (a % 16) (b % 16))) (read_at high x)) (xor_shr a b 4)
    ∙ ap (λ x. bit_xor x (read_at high (bit_xor (a / 16) (b / 16)))) (entries-sum low e (a % 16) (b % 16) (omega arith) (omega arith))
    ∙ ap (bit_xor (bit_xor (read_at low (a % 16)) (read_at low (b % 16)))) (entries-sum high f (a / 16) (b / 16) (omega arith) (omega arith))
    ∙ xor_across (read_at low (a % 16)) (read_at low (b % 16)) (read_at high (a / 16)) (read_at high (b / 16))

pub leave-sum : (a b : ℕ) → a < 256 → b < 256 → leave (bit_xor a b) ≡ bit_xor (leave a) (leave b)
unfolding leave
leave-sum a b h k = halves-sum LEFT_LOW LEFT_HIGH refl refl a b h k

pub inverse_leave-sum : (a b : ℕ) → a < 256 → b < 256 → inverse_leave (bit_xor a b) ≡ bit_xor (inverse_leave a) (inverse_leave b)
unfolding inverse_leave
inverse_leave-sum a b h k = halves-sum _ _ refl refl a b h k

leave_test : all_below 256 (λ b. ltb (leave b) 256 && ltb (inverse_leave b) 256) ≡ true
unfolding leave inverse_leave read_halves
leave_test = refl

pub leave-lt : (b : ℕ) → b < 256 → leave b < 256
leave-lt b h = ltb-true _ _ (and_parts _ _ (all_below-at 256 (λ b. ltb (leave b) 256 && ltb (inverse_leave b) 256) leave_test b h)).0

pub inverse_leave-lt : (b : ℕ) → b < 256 → inverse_leave b < 256
inverse_leave-lt b h = ltb-true _ _ (and_parts _ _ (all_below-at 256 (λ b. ltb (leave b) 256 && ltb (inverse_leave b) 256) leave_test b h)).1

-- ---- tables against functions

-- g is below 256, and f of it is e
abbrev pub agrees : (ℕ → ℕ) → ℕ → ℕ → Bool
agrees f g e = ltb g 256 && eqb (f g) e

-- the same as facts
pub record Agrees (f : ℕ → ℕ) (g e : ℕ) : Type 0 where
  pub fits : g < 256
  pub is : f g ≡ e

agree : (f g e : ℕ → ℕ) → all_below 256 (λ b. agrees f (g b) (e b)) ≡ true → (b : ℕ) → b < 256 → Agrees f (g b) (e b)
agree f g e t b h =
    let both = and_parts _ _ (all_below-at 256 (λ b. agrees f (g b) (e b)) t b h) in
    record { fits = ltb-true _ _ both.0; is = eqb-true _ _ both.1 }

entered_test : all_below 256 (λ b. agrees key_byte (read_halves ENTERED_LOW ENTERED_HIGH b) b) ≡ true
unfolding leave read_halves
entered_test = refl

pub entered_is : (b : ℕ) → b < 256 → Agrees key_byte (read_halves ENTERED_LOW ENTERED_HIGH b) b
entered_is b h = agree key_byte (read_halves ENTERED_LOW ENTERED_HIGH) (λ b. b) entered_test b h

inverse_entered_test : all_below 256 (λ b. agrees inverse_leave (read_halves INVERSE_ENTERED_LOW INVERSE_ENTERED_HIGH b) b) ≡ true
unfolding inverse_leave read_halves
inverse_entered_test = refl

pub inverse_entered_is : (b : ℕ) → b < 256 → Agrees inverse_leave (read_halves INVERSE_ENTERED_LOW INVERSE_ENTERED_HIGH b) b
inverse_entered_is b h = agree inverse_leave (read_halves INVERSE_ENTERED_LOW INVERSE_ENTERED_HIGH) (λ b. b) inverse_entered_test b h

-- the substitution, without its constant
abbrev pub bare : ℕ → ℕ
bare b = bit_xor (substitute (leave b)) 0x63

once_test : all_below 256 (λ b. agrees leave (by_places SUBSTITUTED_FIRST SUBSTITUTED_SECOND b) (bare b)) ≡ true
unfolding leave read_halves read_parts first_place second_place substitute times_squares product_modulo polynomial_product remainder
once_test = refl

pub once_is : (b : ℕ) → b < 256 → Agrees leave (by_places SUBSTITUTED_FIRST SUBSTITUTED_SECOND b) (bare b)
once_is b h = agree leave (by_places SUBSTITUTED_FIRST SUBSTITUTED_SECOND) bare once_test b h

twice_test : all_below 256 (λ b. agrees leave (by_places DOUBLED_FIRST DOUBLED_SECOND b) (byte_product 2 (bare b))) ≡ true
unfolding leave read_halves read_parts first_place second_place substitute times_squares product_modulo polynomial_product remainder
twice_test = refl

pub twice_is : (b : ℕ) → b < 256 → Agrees leave (by_places DOUBLED_FIRST DOUBLED_SECOND b) (byte_product 2 (bare b))
twice_is b h = agree leave (by_places DOUBLED_FIRST DOUBLED_SECOND) (λ b. byte_product 2 (bare b)) twice_test b h

-- the inverse substitution
abbrev pub back : ℕ → ℕ
back b = inverse_substitute (inverse_byte b)

restored_test : all_below 256 (λ b. agrees (λ x. x) (by_places RESTORED_FIRST RESTORED_SECOND b) (back b)) ≡ true
unfolding inverse_leave read_halves read_parts first_place second_place inverse_substitute times_squares product_modulo polynomial_product remainder
restored_test = refl

pub restored_is : (b : ℕ) → b < 256 → Agrees (λ x. x) (by_places RESTORED_FIRST RESTORED_SECOND b) (back b)
restored_is b h = agree (λ x. x) (by_places RESTORED_FIRST RESTORED_SECOND) back restored_test b h

abbrev times : ℕ → (ℕ → ℕ) → ℕ → ℕ
times n f b = byte_product n (f b)

nine_test : all_below 256 (λ b. agrees inverse_leave (by_places NINE_FIRST NINE_SECOND b) (byte_product 9 (back b))) ≡ true
unfolding inverse_leave read_halves read_parts first_place second_place inverse_substitute times_squares product_modulo polynomial_product remainder
nine_test = refl

pub nine_is : (b : ℕ) → b < 256 → Agrees inverse_leave (by_places NINE_FIRST NINE_SECOND b) (byte_product 9 (back b))
nine_is b h = agree inverse_leave (by_places NINE_FIRST NINE_SECOND) (times 9 back) nine_test b h

eleven_test : all_below 256 (λ b. agrees inverse_leave (by_places ELEVEN_FIRST ELEVEN_SECOND b) (byte_product 11 (back b))) ≡ true
unfolding inverse_leave read_halves read_parts first_place second_place inverse_substitute times_squares product_modulo polynomial_product remainder
eleven_test = refl

pub eleven_is : (b : ℕ) → b < 256 → Agrees inverse_leave (by_places ELEVEN_FIRST ELEVEN_SECOND b) (byte_product 11 (back b))
eleven_is b h = agree inverse_leave (by_places ELEVEN_FIRST ELEVEN_SECOND) (times 11 back) eleven_test b h

thirteen_test : all_below 256 (λ b. agrees inverse_leave (by_places THIRTEEN_FIRST THIRTEEN_SECOND b) (byte_product 13 (back b))) ≡ true
unfolding inverse_leave read_halves read_parts first_place second_place inverse_substitute times_squares product_modulo polynomial_product remainder
thirteen_test = refl

pub thirteen_is : (b : ℕ) → b < 256 → Agrees inverse_leave (by_places THIRTEEN_FIRST THIRTEEN_SECOND b) (byte_product 13 (back b))
thirteen_is b h = agree inverse_leave (by_places THIRTEEN_FIRST THIRTEEN_SECOND) (times 13 back) thirteen_test b h

fourteen_test : all_below 256 (λ b. agrees inverse_leave (by_places FOURTEEN_FIRST FOURTEEN_SECOND b) (byte_product 14 (back b))) ≡ true
unfolding inverse_leave read_halves read_parts first_place second_place inverse_substitute times_squares product_modulo polynomial_product remainder
fourteen_test = refl

pub fourteen_is : (b : ℕ) → b < 256 → Agrees inverse_leave (by_places FOURTEEN_FIRST FOURTEEN_SECOND b) (byte_product 14 (back b))
fourteen_is b h = agree inverse_leave (by_places FOURTEEN_FIRST FOURTEEN_SECOND) (times 14 back) fourteen_test b h

-- ---- from one basis to the other

crossed_test : all_below 256 (λ b. agrees inverse_leave (read_halves CROSSED_LOW CROSSED_HIGH b) (leave b)) ≡ true
unfolding leave inverse_leave read_halves
crossed_test = refl

pub crossed_is : (b : ℕ) → b < 256 → Agrees inverse_leave (read_halves CROSSED_LOW CROSSED_HIGH b) (leave b)
crossed_is b h = agree inverse_leave (read_halves CROSSED_LOW CROSSED_HIGH) leave crossed_test b h

crossed_nine_test : all_below 256 (λ b. agrees inverse_leave (read_halves CROSSED_NINE_LOW CROSSED_NINE_HIGH b) (byte_product 9 (leave b))) ≡ true
unfolding leave inverse_leave read_halves product_modulo polynomial_product remainder
crossed_nine_test = refl

pub crossed_nine_is : (b : ℕ) → b < 256 → Agrees inverse_leave (read_halves CROSSED_NINE_LOW CROSSED_NINE_HIGH b) (byte_product 9 (leave b))
crossed_nine_is b h = agree inverse_leave (read_halves CROSSED_NINE_LOW CROSSED_NINE_HIGH) (times 9 leave) crossed_nine_test b h

crossed_eleven_test : all_below 256 (λ b. agrees inverse_leave (read_halves CROSSED_ELEVEN_LOW CROSSED_ELEVEN_HIGH b) (byte_product 11 (leave b))) ≡ true
unfolding leave inverse_leave read_halves product_modulo polynomial_product remainder
crossed_eleven_test = refl

pub crossed_eleven_is : (b : ℕ) → b < 256 → Agrees inverse_leave (read_halves CROSSED_ELEVEN_LOW CROSSED_ELEVEN_HIGH b) (byte_product 11 (leave b))
crossed_eleven_is b h = agree inverse_leave (read_halves CROSSED_ELEVEN_LOW CROSSED_ELEVEN_HIGH) (times 11 leave) crossed_eleven_test b h

crossed_thirteen_test : all_below 256 (λ b. agrees inverse_leave (read_halves CROSSED_THIRTEEN_LOW CROSSED_THIRTEEN_HIGH b) (byte_product 13 (leave b))) ≡ true
unfolding leave inverse_leave read_halves product_modulo polynomial_product remainder
crossed_thirteen_test = refl

pub crossed_thirteen_is : (b : ℕ) → b < 256 → Agrees inverse_leave (read_halves CROSSED_THIRTEEN_LOW CROSSED_THIRTEEN_HIGH b) (byte_product 13 (leave b))
crossed_thirteen_is b h = agree inverse_leave (read_halves CROSSED_THIRTEEN_LOW CROSSED_THIRTEEN_HIGH) (times 13 leave) crossed_thirteen_test b h

crossed_fourteen_test : all_below 256 (λ b. agrees inverse_leave (read_halves CROSSED_FOURTEEN_LOW CROSSED_FOURTEEN_HIGH b) (byte_product 14 (leave b))) ≡ true
unfolding leave inverse_leave read_halves product_modulo polynomial_product remainder
crossed_fourteen_test = refl

pub crossed_fourteen_is : (b : ℕ) → b < 256 → Agrees inverse_leave (read_halves CROSSED_FOURTEEN_LOW CROSSED_FOURTEEN_HIGH b) (byte_product 14 (leave b))
crossed_fourteen_is b h = agree inverse_leave (read_halves CROSSED_FOURTEEN_LOW CROSSED_FOURTEEN_HIGH) (times 14 leave) crossed_fourteen_test b h
