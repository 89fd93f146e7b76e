-- Encryption undoes decryption, step by step.
use Rattle.std.proofs.Common.{◌≡◌, ℕ, zero, suc, ◌+◌, ◌*◌, ◌%◌, ◌<◌, List, length, slice_index, refl, sym, ap, ◌∙◌, subst}
use Rattle.std.proofs.lemmas.List.{length-append}
use Rattle.ssh_aes.specs.Aes.{substitute, inverse_substitute, sub_bytes, inverse_sub_bytes, shift_rows, inverse_shift_rows, unmixed_column, mix_columns, inverse_mix_columns, add_round_key, rounds, inverse_rounds, cipher, inverse_cipher, aes, inverse_aes, expanded_key, block, key_words}
use Rattle.ssh_aes.proofs.Substitutions.{SUBSTITUTION}
use Rattle.ssh_aes.specs.Laws.{AreOctets, BlocksRedone}
use Rattle.ssh_aes.proofs.Entries.{substitution_is, inverse_substitution_is, inverse_substitution-lt, replaced_is, nine-lt, eleven-lt, thirteen-lt, fourteen-lt}
use Rattle.ssh_aes.proofs.Inverses.{IsBlock, IsBlock-bytes_by, AreOctets-append, AreOctets-four, mixed_byte-lt, column-again, add_round_key-block, add_round_key-twice, expanded_key-bytes, block-block}
use Rattle.ssh_aes.proofs.Schedules.{bytes_by-at, bytes_by-same, block-same}
use Rattle.ssh_aes.proofs.Written.{sixteen-elements}

inverse_substitute-lt : (b : ℕ) → b < 256 → inverse_substitute b < 256
inverse_substitute-lt b h = subst (λ (x : ℕ). x < 256) (inverse_substitution_is b h) (inverse_substitution-lt b h)

substitute-again : (b : ℕ) → b < 256 → substitute (inverse_substitute b) ≡ b
substitute-again b h =
    sym (substitution_is (inverse_substitute b) (inverse_substitute-lt b h))
    ∙ ap (slice_index SUBSTITUTION) (sym (inverse_substitution_is b h)) ∙ replaced_is b h

inverse_sub_bytes-block : (s : List ℕ) → IsBlock s → IsBlock (inverse_sub_bytes s)
unfolding inverse_sub_bytes
inverse_sub_bytes-block s b = IsBlock-bytes_by (λ i. inverse_substitute (slice_index s i)) (λ i l. inverse_substitute-lt _ (b.bytes i))

sub_bytes-again : (s : List ℕ) → IsBlock s → sub_bytes (inverse_sub_bytes s) ≡ s
unfolding sub_bytes inverse_sub_bytes
sub_bytes-again s b =
    bytes_by-same 16 _ (slice_index s) (λ i l. ap substitute (bytes_by-at 16 (λ j. inverse_substitute (slice_index s j)) i l) ∙ substitute-again _ (b.bytes i))
    ∙ sixteen-elements s b.length_is

inverse_shift_rows-block : (s : List ℕ) → IsBlock s → IsBlock (inverse_shift_rows s)
unfolding inverse_shift_rows
inverse_shift_rows-block s b = IsBlock-bytes_by (λ i. slice_index s ((i + 12 * (i % 4)) % 16)) (λ i l. b.bytes _)

shift_rows-again : (s : List ℕ) → IsBlock s → shift_rows (inverse_shift_rows s) ≡ s
unfolding shift_rows inverse_shift_rows
shift_rows-again s b = sixteen-elements s b.length_is

unmixed_column-bytes : (a b c d : ℕ) → a < 256 → b < 256 → c < 256 → d < 256 → AreOctets (unmixed_column a b c d)
unfolding unmixed_column
unmixed_column-bytes a b c d h i j k =
    AreOctets-four _ _ _ _
    (mixed_byte-lt 14 11 13 9 a b c d (fourteen-lt a h) (eleven-lt b i) (thirteen-lt c j) (nine-lt d k))
    (mixed_byte-lt 9 14 11 13 a b c d (nine-lt a h) (fourteen-lt b i) (eleven-lt c j) (thirteen-lt d k))
    (mixed_byte-lt 13 9 14 11 a b c d (thirteen-lt a h) (nine-lt b i) (fourteen-lt c j) (eleven-lt d k))
    (mixed_byte-lt 11 13 9 14 a b c d (eleven-lt a h) (thirteen-lt b i) (nine-lt c j) (fourteen-lt d k))

length-unmixed_column : (a b c d : ℕ) → length (unmixed_column a b c d) ≡ 4
unfolding unmixed_column
length-unmixed_column a b c d = refl

inverse_mix_columns-block : (s : List ℕ) → IsBlock s → IsBlock (inverse_mix_columns s)
unfolding inverse_mix_columns
inverse_mix_columns-block s b =
    let column : (i : ℕ) → AreOctets (unmixed_column (slice_index s i) (slice_index s (i + 1)) (slice_index s (i + 2)) (slice_index s (i + 3))) = λ i. unmixed_column-bytes _ _ _ _ (b.bytes i) (b.bytes (i + 1)) (b.bytes (i + 2)) (b.bytes (i + 3)) in
    record {
      length_is = simp (length-append, length-unmixed_column) refl;
      bytes = AreOctets-append _ _ (AreOctets-append _ _ (AreOctets-append _ _ (column 0) (column 4)) (column 8)) (column 12);
    }

mix_columns-again : (s : List ℕ) → IsBlock s → mix_columns (inverse_mix_columns s) ≡ s
unfolding mix_columns inverse_mix_columns unmixed_column
mix_columns-again s b =
    let p = column-again (slice_index s 0) (slice_index s 1) (slice_index s 2) (slice_index s 3) (b.bytes 0) (b.bytes 1) (b.bytes 2) (b.bytes 3) in
    let q = column-again (slice_index s 4) (slice_index s 5) (slice_index s 6) (slice_index s 7) (b.bytes 4) (b.bytes 5) (b.bytes 6) (b.bytes 7) in
    let r = column-again (slice_index s 8) (slice_index s 9) (slice_index s 10) (slice_index s 11) (b.bytes 8) (b.bytes 9) (b.bytes 10) (b.bytes 11) in
    let t = column-again (slice_index s 12) (slice_index s 13) (slice_index s 14) (slice_index s 15) (b.bytes 12) (b.bytes 13) (b.bytes 14) (b.bytes 15) in
    rw (p, q, r, t) (sixteen-elements s b.length_is)

-- ---- all rounds

-- the state before SubBytes
abbrev undone : List ℕ → List ℕ
undone y = inverse_sub_bytes (inverse_shift_rows y)

undone-block : (y : List ℕ) → IsBlock y → IsBlock (undone y)
undone-block y b = inverse_sub_bytes-block _ (inverse_shift_rows-block y b)

undone-again : (y : List ℕ) → IsBlock y → shift_rows (sub_bytes (undone y)) ≡ y
undone-again y b = ap shift_rows (sub_bytes-again (inverse_shift_rows y) (inverse_shift_rows-block y b)) ∙ shift_rows-again y b

inverse_rounds-block : (w : List ℕ) (k : ℕ) (y : List ℕ) → AreOctets w → IsBlock y → IsBlock (inverse_rounds w k y)
unfolding inverse_rounds
inverse_rounds-block w zero y h b = add_round_key-block w 0 _ h (undone-block y b)
inverse_rounds-block w (suc k) y h b = inverse_rounds-block w k _ h (inverse_mix_columns-block _ (add_round_key-block w (suc k) _ h (undone-block y b)))

rounds-again : (w : List ℕ) (k : ℕ) (y : List ℕ) → AreOctets w → IsBlock y → shift_rows (sub_bytes (rounds w k (inverse_rounds w k y))) ≡ y
unfolding inverse_rounds rounds
rounds-again w zero y h b =
    ap (λ x. shift_rows (sub_bytes x)) (add_round_key-twice w 0 (undone y) (undone-block y b)) ∙ undone-again y b
rounds-again w (suc k) y h b =
    let u = undone y in
    let a = add_round_key w (suc k) u in
    let c = add_round_key-block w (suc k) u h (undone-block y b) in
    ap (λ x. shift_rows (sub_bytes (add_round_key w (suc k) (mix_columns x)))) (rounds-again w k (inverse_mix_columns a) h (inverse_mix_columns-block a c))
    ∙ ap (λ x. shift_rows (sub_bytes (add_round_key w (suc k) x))) (mix_columns-again a c)
    ∙ ap (λ x. shift_rows (sub_bytes x)) (add_round_key-twice w (suc k) u (undone-block y b))
    ∙ undone-again y b

pub inverse_aes-is_block : (key y : List ℕ) → IsBlock (inverse_aes key y)
unfolding inverse_aes inverse_cipher
inverse_aes-is_block key y =
    let w = expanded_key-bytes key in
    inverse_rounds-block (expanded_key key) (key_words key + 5) _ w (add_round_key-block (expanded_key key) _ (block y) w (block-block y))

cipher-again : (w : List ℕ) (k : ℕ) (y : List ℕ) → AreOctets w → IsBlock y → cipher w k (inverse_cipher w k y) ≡ y
unfolding inverse_cipher cipher
cipher-again w k y h b =
    ap (add_round_key w (k + 1)) (rounds-again w k (add_round_key w (k + 1) y) h (add_round_key-block w (k + 1) y h b)) ∙ add_round_key-twice w (k + 1) y b

pub aes-again : (key y : List ℕ) → aes key (inverse_aes key y) ≡ block y
unfolding inverse_aes aes
aes-again key y =
    let c = inverse_aes-is_block key y in
    ap (cipher (expanded_key key) (key_words key + 5)) (block-same (inverse_aes key y) c.length_is c.bytes)
    ∙ cipher-again (expanded_key key) (key_words key + 5) (block y) (expanded_key-bytes key) (block-block y)

pub blocks_redone : BlocksRedone
blocks_redone key y h l = aes-again key y ∙ block-same y l h
