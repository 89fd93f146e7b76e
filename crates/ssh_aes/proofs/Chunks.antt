-- A block of a text, written as a vector.
use Rattle.std.proofs.Common.{◌++◌, ◌≡◌, ℕ, ◌+◌, ◌≤◌, List, length, take, drop, slice_index, append_assoc, sym, ap, ◌∙◌}
use Rattle.std.specs.Prelude.{bit_xor}
use Rattle.std.proofs.lemmas.List.{drop-drop}
use Rattle.std.proofs.lemmas.Simd.{put_chunk_is, length-chunk}
use lib.Lanes.{zip2, chunk, put_chunk}
use Rattle.ssh_aes.specs.Aes.{bytes_by}
use Rattle.ssh_aes.specs.Modes.{block_sum}
use Rattle.ssh_aes.proofs.Written.{sixteen-elements}

zip_blocks : (s t : List ℕ) → length s ≡ 16 → length t ≡ 16 → zip2 bit_xor s t ≡ block_sum s t
zip_blocks s t h k = ap (λ u. zip2 bit_xor u t) (sym (sixteen-elements s h)) ∙ ap (zip2 bit_xor (bytes_by 16 (slice_index s))) (sym (sixteen-elements t k))

pub masked_chunk : (i : ℕ) (old s : List ℕ) → i + 16 ≤ length old → length s ≡ 16 → put_chunk i old (zip2 bit_xor (chunk i 16 old) s) ≡ take i old ++ block_sum (take 16 (drop i old)) s ++ drop (i + 16) old
masked_chunk i old s h k =
    let m = block_sum (take 16 (drop i old)) s in
    ap (put_chunk i old) (zip_blocks (chunk i 16 old) s (length-chunk i 16 old h) k)
    ∙ put_chunk_is i old m h
    ∙ ap (λ x. take i old ++ (m ++ x)) (drop-drop 16 i old)
    ∙ sym (append_assoc (take i old) m (drop (i + 16) old))
