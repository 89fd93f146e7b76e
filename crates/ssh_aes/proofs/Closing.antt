-- Both modes encrypt what they decrypted from any bytes to those bytes.
use Rattle.std.proofs.Common.{◌++◌, ◌≡◌, ℕ, zero, suc, ◌+◌, ◌-◌, ◌*◌, ◌/◌, ◌%◌, ◌^◌, ◌<◌, ◌≤◌, List, length, take, drop, slice_index, arith, refl, sym, ap, ◌∙◌, subst}
use Rattle.std.specs.Prelude.{bit_xor}
use Rattle.std.proofs.lemmas.List.{get_or-take, get_or_append_left, length-append, length-drop, length-take-le, take-append-drop, take-append-le}
use Rattle.std.proofs.Math.Seq.{drop-append_seam}
use Rattle.ssh_aes.specs.Aes.{block, aes, inverse_aes}
use Rattle.ssh_aes.specs.Modes.{Running, Ctr, Cbc, block_sum, stream_byte, stream_block, counter_text, chained_block, chained_text, unchained_text, masked_text, unmasked_text, running_past, shortest_text}
use Rattle.ssh_aes.specs.Laws.{AreOctets, ClosesWell}
use Rattle.ssh_aes.proofs.Schedules.{bytes_by-same}
use Rattle.ssh_aes.proofs.Inverses.{IsBlock, AreOctets-append, AreOctets-bytes_by, block-block, aes-block, xor-lt}
use Rattle.ssh_aes.proofs.Redone.{inverse_aes-is_block, aes-again}
use Rattle.ssh_aes.proofs.Running.{AreOctets-drop, block-front, block-take, counter_text-at, counter_text-back, inverse_aes-block, length-counter_text, take-block, take-same, block_sum-back, block_sum-block}

-- ---- counter mode

stream_byte-lt : (key iv : List ℕ) (q : ℕ) → stream_byte key iv q < 256
unfolding stream_block
stream_byte-lt key iv q = let b = aes-block key _ in b.bytes (q % 16)

counter_text-bytes : (key iv : List ℕ) (p : ℕ) (c : List ℕ) → AreOctets c → AreOctets (counter_text key iv p c)
unfolding counter_text
counter_text-bytes key iv p c b = AreOctets-bytes_by (length c) _ (λ i l. xor-lt _ _ (b i) (stream_byte-lt key iv ((p + i) % 2 ^ 64)))

counter_text-front : (key iv : List ℕ) (p : ℕ) (c y : List ℕ) → 4 ≤ length c → 4 ≤ length y → ((i : ℕ) → i < 4 → slice_index y i ≡ slice_index c i) → take 4 (counter_text key iv p y) ≡ take 4 (counter_text key iv p c)
counter_text-front key iv p c y h k e =
    take-same 4 (counter_text key iv p y) (counter_text key iv p c) (omega (arith, length-counter_text key iv p y)) (omega (arith, length-counter_text key iv p c))
    (λ i l. counter_text-at key iv p y i (omega arith) ∙ ap (λ x. bit_xor x (stream_byte key iv ((p + i) % 2 ^ 64))) (e i l) ∙ sym (counter_text-at key iv p c i (omega arith)))

-- ---- chaining mode

-- the text's block of a cipher block
abbrev opened_block : List ℕ → List ℕ → List ℕ → List ℕ
opened_block key last c = block_sum (inverse_aes key c) (block last)

opened_block-block : (key last c : List ℕ) → IsBlock (opened_block key last c)
opened_block-block key last c = let i = inverse_aes-is_block key c in let l = block-block last in block_sum-block (inverse_aes key c) (block last) i.bytes l.bytes

-- chaining a block again
chained_again : (key last c x : List ℕ) → AreOctets c → 16 ≤ length c → chained_block key last (opened_block key last c ++ x) ≡ take 16 c
chained_again key last c x b h =
    let o = opened_block-block key last c in
    let i = inverse_aes-is_block key c in
    ap (λ t. aes key (block_sum t (block last))) (block-front (opened_block key last c) x o.length_is o.bytes)
    ∙ ap (aes key) (block_sum-back (inverse_aes key c) (block last) i.length_is)
    ∙ aes-again key c
    ∙ take-block c b h

length-unchained_text : (key last : List ℕ) (n : ℕ) (c : List ℕ) → 16 * n ≤ length c → length (unchained_text key last n c) ≡ length c
unfolding unchained_text
length-unchained_text key last zero c h = refl
length-unchained_text key last (suc n) c h =
    let o = opened_block-block key last c in
    length-append (opened_block key last c) (unchained_text key (take 16 c) n (drop 16 c))
    ∙ omega (arith, o.length_is, length-drop 16 c, length-unchained_text key (take 16 c) n (drop 16 c) (omega (arith, length-drop 16 c)))

unchained_text-bytes : (key last : List ℕ) (n : ℕ) (c : List ℕ) → AreOctets c → AreOctets (unchained_text key last n c)
unfolding unchained_text
unchained_text-bytes key last zero c b = b
unchained_text-bytes key last (suc n) c b =
    let o = opened_block-block key last c in
    AreOctets-append (opened_block key last c) (unchained_text key (take 16 c) n (drop 16 c)) o.bytes (unchained_text-bytes key (take 16 c) n (drop 16 c) (AreOctets-drop 16 c b))

unchained_text-again : (key last : List ℕ) (n : ℕ) (c : List ℕ) → AreOctets c → 16 * n ≤ length c → chained_text key last n (unchained_text key last n c) ≡ c
unfolding chained_text unchained_text
unchained_text-again key last zero c b h = refl
unchained_text-again key last (suc n) c b h =
    let o = opened_block key last c in
    let k = opened_block-block key last c in
    let r = unchained_text key (take 16 c) n (drop 16 c) in
    let p : chained_block key last (o ++ r) ≡ take 16 c = chained_again key last c r b (omega arith) in
    let d : drop 16 (o ++ r) ≡ r = subst (λ (m : ℕ). drop m (o ++ r) ≡ r) k.length_is (drop-append_seam o r) in
    let i : chained_text key (take 16 c) n r ≡ drop 16 c = unchained_text-again key (take 16 c) n (drop 16 c) (AreOctets-drop 16 c b) (omega (arith, length-drop 16 c)) in
    ap (λ x. x ++ chained_text key x n (drop 16 (o ++ r))) p
    ∙ ap (λ x. take 16 c ++ chained_text key (take 16 c) n x) d
    ∙ ap (λ x. take 16 c ++ x) i
    ∙ take-append-drop 16 c

-- the first block is opened whatever follows it
unchained_text-front : (key last : List ℕ) (m n : ℕ) (c y : List ℕ) → block y ≡ block c → take 4 (unchained_text key last (suc m) y) ≡ take 4 (unchained_text key last (suc n) c)
unfolding unchained_text
unchained_text-front key last m n c y e =
    let o = opened_block-block key last y in
    let u = opened_block-block key last c in
    take-append-le 4 (opened_block key last y) (unchained_text key (take 16 y) m (drop 16 y)) (omega (arith, o.length_is))
    ∙ ap (λ x. take 4 (block_sum x (block last))) (inverse_aes-block key y ∙ ap (inverse_aes key) e ∙ sym (inverse_aes-block key c))
    ∙ sym (take-append-le 4 (opened_block key last c) (unchained_text key (take 16 c) n (drop 16 c)) (omega (arith, u.length_is)))

block-left : (c x : List ℕ) → 16 ≤ length c → block (c ++ x) ≡ block c
block-left c x h = bytes_by-same 16 (λ i. slice_index (c ++ x) i % 256) (λ i. slice_index c i % 256) (λ i l. ap (λ y. y % 256) (get_or_append_left c x 0 i (omega arith)))

-- ---- both

length-unmasked_text : (r : Running) (c : List ℕ) → length (unmasked_text r c) ≡ length c
length-unmasked_text (Ctr key iv p) c = length-counter_text key iv p c
length-unmasked_text (Cbc key last) c = length-unchained_text key last (length c / 16) c (omega arith)

unmasked_text-bytes : (r : Running) (c : List ℕ) → AreOctets c → AreOctets (unmasked_text r c)
unmasked_text-bytes (Ctr key iv p) c b = counter_text-bytes key iv p c b
unmasked_text-bytes (Cbc key last) c b = unchained_text-bytes key last (length c / 16) c b

masked_text-unmasked_text : (r : Running) (c : List ℕ) → AreOctets c → masked_text r (unmasked_text r c) ≡ c
masked_text-unmasked_text (Ctr key iv p) c b = counter_text-back key iv p c
masked_text-unmasked_text (Cbc key last) c b =
    ap (λ n. chained_text key last (n / 16) (unchained_text key last (length c / 16) c)) (length-unchained_text key last (length c / 16) c (omega arith))
    ∙ unchained_text-again key last (length c / 16) c b (omega arith)

opened-early : (r : Running) (c x : List ℕ) → shortest_text r ≤ length c → 16 ≤ length (c ++ x) → take 4 (unmasked_text r (take 16 (c ++ x))) ≡ take 4 (unmasked_text r c)
opened-early (Ctr key iv p) c x h g =
    counter_text-front key iv p c (take 16 (c ++ x)) h (omega (arith, length-take-le 16 (c ++ x) g))
    (λ i l. get_or-take 16 (c ++ x) i 0 (omega arith) ∙ get_or_append_left c x 0 i (omega arith))
opened-early (Cbc key last) c x h g =
    let n : length c / 16 ≡ suc (length c / 16 - 1) = omega arith in
    let k = length-take-le 16 (c ++ x) g in
    ap (λ j. take 4 (unchained_text key last (j / 16) (take 16 (c ++ x)))) k
    ∙ unchained_text-front key last 0 (length c / 16 - 1) c (take 16 (c ++ x)) (block-take (c ++ x) ∙ block-left c x h)
    ∙ ap (λ j. take 4 (unchained_text key last j c)) (sym n)

pub closes_well : (r : Running) → ClosesWell r
closes_well r = record {
  same_length = length-unmasked_text r;
  bytes = unmasked_text-bytes r;
  closes = masked_text-unmasked_text r;
  leaves = λ c b. ap (running_past r) (masked_text-unmasked_text r c b);
  early = opened-early r;
}
