-- The tables and the small products against the field, computed for all bytes.
use Rattle.std.proofs.Common.{◌≡◌, ℕ, ◌+◌, ◌<◌, true, ◌&&◌, eqb, ltb, refl}
use Rattle.std.specs.Prelude.{bit_xor, slice_index}
use Rattle.std.proofs.lemmas.Bool.{eqb-true, ltb-true, and_parts}
use Rattle.ssh_aes.specs.declared.tables.TheConstants.{ROUND_CONSTANTS}
use Rattle.ssh_aes.proofs.Substitutions.{SUBSTITUTION, INVERSE_SUBSTITUTION}
use Rattle.ssh_aes.specs.Field.{byte_product, product_modulo, polynomial_product, remainder}
use Rattle.ssh_aes.specs.Aes.{substitute, inverse_substitute, round_constant, inverse, times_squares, mixed_byte}
use Rattle.ssh_aes.proofs.Below.{all_below, all_below-at}

-- ---- the inverse is one

inverse_test : all_below 255 (λ b. eqb (byte_product (b + 1) (inverse (b + 1))) 1) ≡ true
unfolding times_squares product_modulo polynomial_product remainder
inverse_test = refl

pub inverse_is : (b : ℕ) → b < 255 → byte_product (b + 1) (inverse (b + 1)) ≡ 1
inverse_is b h = eqb-true _ _ (all_below-at 255 (λ b. eqb (byte_product (b + 1) (inverse (b + 1))) 1) inverse_test b h)

-- ---- the tables

substitution_test : all_below 256 (λ b. eqb (slice_index SUBSTITUTION b) (substitute b)) ≡ true
unfolding substitute times_squares product_modulo polynomial_product remainder
substitution_test = refl

pub substitution_is : (b : ℕ) → b < 256 → slice_index SUBSTITUTION b ≡ substitute b
substitution_is b h = eqb-true _ _ (all_below-at 256 (λ b. eqb (slice_index SUBSTITUTION b) (substitute b)) substitution_test b h)

inverse_substitution_test : all_below 256 (λ b. eqb (slice_index INVERSE_SUBSTITUTION b) (inverse_substitute b)) ≡ true
unfolding inverse_substitute times_squares product_modulo polynomial_product remainder
inverse_substitution_test = refl

pub inverse_substitution_is : (b : ℕ) → b < 256 → slice_index INVERSE_SUBSTITUTION b ≡ inverse_substitute b
inverse_substitution_is b h = eqb-true _ _ (all_below-at 256 (λ b. eqb (slice_index INVERSE_SUBSTITUTION b) (inverse_substitute b)) inverse_substitution_test b h)

bytes_test : all_below 256 (λ b. ltb (slice_index SUBSTITUTION b) 256) ≡ true
bytes_test = refl

pub substitution-lt : (b : ℕ) → b < 256 → slice_index SUBSTITUTION b < 256
substitution-lt b h = ltb-true _ _ (all_below-at 256 (λ b. ltb (slice_index SUBSTITUTION b) 256) bytes_test b h)

restored_test : all_below 256 (λ b. eqb (slice_index INVERSE_SUBSTITUTION (slice_index SUBSTITUTION b)) b) ≡ true
restored_test = refl

pub restored_is : (b : ℕ) → b < 256 → slice_index INVERSE_SUBSTITUTION (slice_index SUBSTITUTION b) ≡ b
restored_is b h = eqb-true _ _ (all_below-at 256 (λ b. eqb (slice_index INVERSE_SUBSTITUTION (slice_index SUBSTITUTION b)) b) restored_test b h)

inverse_bytes_test : all_below 256 (λ b. ltb (slice_index INVERSE_SUBSTITUTION b) 256) ≡ true
inverse_bytes_test = refl

pub inverse_substitution-lt : (b : ℕ) → b < 256 → slice_index INVERSE_SUBSTITUTION b < 256
inverse_substitution-lt b h = ltb-true _ _ (all_below-at 256 (λ b. ltb (slice_index INVERSE_SUBSTITUTION b) 256) inverse_bytes_test b h)

replaced_test : all_below 256 (λ b. eqb (slice_index SUBSTITUTION (slice_index INVERSE_SUBSTITUTION b)) b) ≡ true
replaced_test = refl

pub replaced_is : (b : ℕ) → b < 256 → slice_index SUBSTITUTION (slice_index INVERSE_SUBSTITUTION b) ≡ b
replaced_is b h = eqb-true _ _ (all_below-at 256 (λ b. eqb (slice_index SUBSTITUTION (slice_index INVERSE_SUBSTITUTION b)) b) replaced_test b h)

constants_test : all_below 10 (λ n. eqb (slice_index ROUND_CONSTANTS n) (round_constant n)) ≡ true
unfolding round_constant product_modulo polynomial_product remainder
constants_test = refl

pub constants_is : (n : ℕ) → n < 10 → slice_index ROUND_CONSTANTS n ≡ round_constant n
constants_is n h = eqb-true _ _ (all_below-at 10 (λ n. eqb (slice_index ROUND_CONSTANTS n) (round_constant n)) constants_test n h)

-- ---- small products

one_test : all_below 256 (λ b. eqb (byte_product 1 b) b) ≡ true
unfolding product_modulo polynomial_product remainder
one_test = refl

pub one_is : (b : ℕ) → b < 256 → byte_product 1 b ≡ b
one_is b h = eqb-true _ _ (all_below-at 256 (λ b. eqb (byte_product 1 b) b) one_test b h)

three_test : all_below 256 (λ b. eqb (bit_xor (byte_product 2 b) b) (byte_product 3 b)) ≡ true
unfolding product_modulo polynomial_product remainder
three_test = refl

pub three_is : (b : ℕ) → b < 256 → bit_xor (byte_product 2 b) b ≡ byte_product 3 b
three_is b h = eqb-true _ _ (all_below-at 256 (λ b. eqb (bit_xor (byte_product 2 b) b) (byte_product 3 b)) three_test b h)

small_test : all_below 256 (λ b. ltb (byte_product 2 b) 256 && ltb (byte_product 3 b) 256) ≡ true
unfolding product_modulo polynomial_product remainder
small_test = refl

pub small : (b : ℕ) → b < 256 → (ltb (byte_product 2 b) 256 && ltb (byte_product 3 b) 256) ≡ true
small b h = all_below-at 256 (λ b. ltb (byte_product 2 b) 256 && ltb (byte_product 3 b) 256) small_test b h

pub two-lt : (b : ℕ) → b < 256 → byte_product 2 b < 256
two-lt b h = ltb-true _ _ (and_parts _ _ (small b h)).0

pub three-lt : (b : ℕ) → b < 256 → byte_product 3 b < 256
three-lt b h = ltb-true _ _ (and_parts _ _ (small b h)).1

nine-lt_test : all_below 256 (λ b. ltb (byte_product 9 b) 256 && ltb (byte_product 11 b) 256) ≡ true
unfolding product_modulo polynomial_product remainder
nine-lt_test = refl

pub nine-lt : (b : ℕ) → b < 256 → byte_product 9 b < 256
nine-lt b h = ltb-true _ _ (and_parts _ _ (all_below-at 256 (λ b. ltb (byte_product 9 b) 256 && ltb (byte_product 11 b) 256) nine-lt_test b h)).0

pub eleven-lt : (b : ℕ) → b < 256 → byte_product 11 b < 256
eleven-lt b h = ltb-true _ _ (and_parts _ _ (all_below-at 256 (λ b. ltb (byte_product 9 b) 256 && ltb (byte_product 11 b) 256) nine-lt_test b h)).1

thirteen-lt_test : all_below 256 (λ b. ltb (byte_product 13 b) 256 && ltb (byte_product 14 b) 256) ≡ true
unfolding product_modulo polynomial_product remainder
thirteen-lt_test = refl

pub thirteen-lt : (b : ℕ) → b < 256 → byte_product 13 b < 256
thirteen-lt b h = ltb-true _ _ (and_parts _ _ (all_below-at 256 (λ b. ltb (byte_product 13 b) 256 && ltb (byte_product 14 b) 256) thirteen-lt_test b h)).0

pub fourteen-lt : (b : ℕ) → b < 256 → byte_product 14 b < 256
fourteen-lt b h = ltb-true _ _ (and_parts _ _ (all_below-at 256 (λ b. ltb (byte_product 13 b) 256 && ltb (byte_product 14 b) 256) thirteen-lt_test b h)).1

-- ---- two rows of MixColumns and InvMixColumns together

-- what the row j, k, l, m makes of four products of a byte
abbrev pub crossed : (j k l m p q r s b : ℕ) → ℕ
crossed j k l m p q r s b = mixed_byte j k l m (byte_product p b) (byte_product q b) (byte_product r b) (byte_product s b)

-- the row j, k, l, m undoes the columns of the row p, q, r, s
pub record UndoesRow (j k l m p q r s : ℕ) : Type 0 where
  pub first : (b : ℕ) → b < 256 → crossed j k l m p s r q b ≡ b
  pub second : (b : ℕ) → b < 256 → crossed j k l m q p s r b ≡ 0
  pub third : (b : ℕ) → b < 256 → crossed j k l m r q p s b ≡ 0
  pub fourth : (b : ℕ) → b < 256 → crossed j k l m s r q p b ≡ 0

unmixed_first_test : all_below 256 (λ b. eqb (crossed 14 11 13 9 2 1 1 3 b) b) ≡ true
unfolding product_modulo polynomial_product remainder
unmixed_first_test = refl

unmixed_second_test : all_below 256 (λ b. eqb (crossed 14 11 13 9 3 2 1 1 b) 0) ≡ true
unfolding product_modulo polynomial_product remainder
unmixed_second_test = refl

unmixed_third_test : all_below 256 (λ b. eqb (crossed 14 11 13 9 1 3 2 1 b) 0) ≡ true
unfolding product_modulo polynomial_product remainder
unmixed_third_test = refl

unmixed_fourth_test : all_below 256 (λ b. eqb (crossed 14 11 13 9 1 1 3 2 b) 0) ≡ true
unfolding product_modulo polynomial_product remainder
unmixed_fourth_test = refl

pub unmixed_undoes : UndoesRow 14 11 13 9 2 3 1 1
unmixed_undoes = record {
  first = λ b h. eqb-true _ _ (all_below-at 256 (λ b. eqb (crossed 14 11 13 9 2 1 1 3 b) b) unmixed_first_test b h);
  second = λ b h. eqb-true _ _ (all_below-at 256 (λ b. eqb (crossed 14 11 13 9 3 2 1 1 b) 0) unmixed_second_test b h);
  third = λ b h. eqb-true _ _ (all_below-at 256 (λ b. eqb (crossed 14 11 13 9 1 3 2 1 b) 0) unmixed_third_test b h);
  fourth = λ b h. eqb-true _ _ (all_below-at 256 (λ b. eqb (crossed 14 11 13 9 1 1 3 2 b) 0) unmixed_fourth_test b h);
}

mixed_first_test : all_below 256 (λ b. eqb (crossed 2 3 1 1 14 9 13 11 b) b) ≡ true
unfolding product_modulo polynomial_product remainder
mixed_first_test = refl

mixed_second_test : all_below 256 (λ b. eqb (crossed 2 3 1 1 11 14 9 13 b) 0) ≡ true
unfolding product_modulo polynomial_product remainder
mixed_second_test = refl

mixed_third_test : all_below 256 (λ b. eqb (crossed 2 3 1 1 13 11 14 9 b) 0) ≡ true
unfolding product_modulo polynomial_product remainder
mixed_third_test = refl

mixed_fourth_test : all_below 256 (λ b. eqb (crossed 2 3 1 1 9 13 11 14 b) 0) ≡ true
unfolding product_modulo polynomial_product remainder
mixed_fourth_test = refl

pub mixed_undoes : UndoesRow 2 3 1 1 14 11 13 9
mixed_undoes = record {
  first = λ b h. eqb-true _ _ (all_below-at 256 (λ b. eqb (crossed 2 3 1 1 14 9 13 11 b) b) mixed_first_test b h);
  second = λ b h. eqb-true _ _ (all_below-at 256 (λ b. eqb (crossed 2 3 1 1 11 14 9 13 b) 0) mixed_second_test b h);
  third = λ b h. eqb-true _ _ (all_below-at 256 (λ b. eqb (crossed 2 3 1 1 13 11 14 9 b) 0) mixed_third_test b h);
  fourth = λ b h. eqb-true _ _ (all_below-at 256 (λ b. eqb (crossed 2 3 1 1 9 13 11 14 b) 0) mixed_fourth_test b h);
}
