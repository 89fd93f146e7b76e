-- The worked examples compute.
use Rattle.std.proofs.Common.{refl}
use Rattle.ssh_aes.specs.Field.{polynomial_product, remainder, product_modulo}
use Rattle.ssh_aes.specs.Aes.{aes, times_squares, substitute, sub_bytes, shift_rows, mixed_column, mix_columns, add_round_key, round_constant, next_word, schedule, expanded_key, rounds, cipher}
use Rattle.ssh_aes.specs.Gcm.{element, element_block, hash_key, blocks, nonce_stream, gcm_counter_text, cipher_tag}
use Rattle.std.specs.Int.{reverse_bits_onto}
use Rattle.ssh_aes.specs.Examples.{SubstitutionExample, BlockExamples, InversesExample, SealedExamples}
use Rattle.ssh_aes.proofs.Entries.{inverse_is}

pub substitution_example : SubstitutionExample
unfolding substitute times_squares product_modulo polynomial_product remainder
substitution_example = refl

pub block_examples : BlockExamples
unfolding aes times_squares substitute sub_bytes shift_rows mixed_column mix_columns add_round_key round_constant next_word schedule expanded_key rounds cipher product_modulo polynomial_product remainder
block_examples = (refl, refl, refl)

pub inverses_example : InversesExample
inverses_example = inverse_is

pub sealed_examples : SealedExamples
unfolding cipher_tag gcm_counter_text nonce_stream blocks hash_key element element_block reverse_bits_onto aes times_squares substitute sub_bytes shift_rows mixed_column mix_columns add_round_key round_constant next_word schedule expanded_key rounds cipher product_modulo polynomial_product remainder
sealed_examples = (refl, refl, refl)
