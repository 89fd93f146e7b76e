-- A row of MixColumns and of InvMixColumns, as rounds add it up.
use Rattle.std.proofs.Common.{◌≡◌, ℕ, ◌<◌, refl, sym, ap, ◌∙◌}
use Rattle.std.specs.Prelude.{bit_xor}
use Rattle.std.specs.Int.Bits.{xor_assoc, xor_self, xor_zero_l}
use Rattle.std.proofs.lemmas.Nat.{xor_comm}
use Rattle.ssh_aes.specs.Field.{byte_product, product_modulo, polynomial_product, remainder}
use Rattle.ssh_aes.specs.Aes.{mixed_byte}
use Rattle.ssh_aes.proofs.Polynomials.{xor_across, xor_swap, product_modulo-sum}
use Rattle.ssh_aes.proofs.Inverses.{xor-lt, four_across}
use Rattle.ssh_aes.proofs.Entries.{one_is, three_is}
use Rattle.ssh_aes.specs.Held.{leave, inverse_leave, key_byte, inverse_byte}
use Rattle.ssh_aes.proofs.Boxes.{Agrees, leave-sum, inverse_leave-sum}

pub turned : (j k l m a b c d : ℕ) → mixed_byte j k l m a b c d ≡ mixed_byte k l m j b c d a
turned j k l m a b c d =
    ap (λ x. bit_xor x (bit_xor (byte_product l c) (byte_product m d))) (xor_comm (byte_product j a) (byte_product k b))
    ∙ xor_across (byte_product k b) (byte_product j a) (byte_product l c) (byte_product m d)
    ∙ ap (bit_xor (bit_xor (byte_product k b) (byte_product l c))) (xor_comm (byte_product j a) (byte_product m d))

xor_back : (a b : ℕ) → bit_xor a (bit_xor a b) ≡ b
xor_back a b = sym (xor_assoc a a b) ∙ ap (λ x. bit_xor x b) (xor_self a) ∙ xor_zero_l b

-- ---- encryption

row-terms : (a b c d e w p q : ℕ) → bit_xor (bit_xor (bit_xor (bit_xor (bit_xor a p) (bit_xor b q)) (bit_xor d q)) (bit_xor (bit_xor e p) (bit_xor c q))) (bit_xor w q) ≡ bit_xor (bit_xor (bit_xor a (bit_xor e b)) (bit_xor c d)) w
row-terms a b c d e w p q = simp (xor_assoc, xor_comm, xor_swap, xor_back, xor_self, xor_zero_l) refl

-- what the sum of a row of a whole round stands for
pub row : (t0 t1 o1 o2 o3 k s0 s1 s2 s3 w : ℕ) → s1 < 256 → s2 < 256 → s3 < 256
    → Agrees leave t0 (byte_product 2 (bit_xor s0 0x63)) → Agrees leave t1 (byte_product 2 (bit_xor s1 0x63))
    → Agrees leave o1 (bit_xor s1 0x63) → Agrees leave o2 (bit_xor s2 0x63) → Agrees leave o3 (bit_xor s3 0x63) → Agrees leave k (bit_xor w 0x63)
    → leave (bit_xor (bit_xor (bit_xor (bit_xor t0 o1) o3) (bit_xor t1 o2)) k) ≡ bit_xor (mixed_byte 2 3 1 1 s0 s1 s2 s3) w
row t0 t1 o1 o2 o3 k s0 s1 s2 s3 w h1 h2 h3 f0 f1 g1 g2 g3 e =
    let a = xor-lt t0 o1 f0.fits g1.fits in
    let b = xor-lt (bit_xor t0 o1) o3 a g3.fits in
    let c = xor-lt t1 o2 f1.fits g2.fits in
    let d = xor-lt (bit_xor (bit_xor t0 o1) o3) (bit_xor t1 o2) b c in
    let P : ℕ → ℕ = byte_product 2 in
    rw (leave-sum (bit_xor (bit_xor (bit_xor t0 o1) o3) (bit_xor t1 o2)) k d e.fits, leave-sum (bit_xor (bit_xor t0 o1) o3) (bit_xor t1 o2) b c, leave-sum (bit_xor t0 o1) o3 a g3.fits, leave-sum t0 o1 f0.fits g1.fits, leave-sum t1 o2 f1.fits g2.fits, f0.is, f1.is, g1.is, g2.is, g3.is, e.is, product_modulo-sum 8 0x11b 2 s0 0x63, product_modulo-sum 8 0x11b 2 s1 0x63, ← three_is s1 h1, one_is s2 h2, one_is s3 h3)
    (row-terms (P s0) s1 s2 s3 (P s1) w (P 0x63) 0x63)

-- ---- decryption

inverse_row-terms : (n t e f w q : ℕ) → bit_xor (bit_xor (bit_xor (bit_xor (bit_xor n t) e) f) (bit_xor w q)) q ≡ bit_xor (bit_xor (bit_xor f e) (bit_xor t n)) w
inverse_row-terms n t e f w q = simp (xor_assoc, xor_comm, xor_swap, xor_self, xor_zero_l) refl

pub inverse_row : (n t e f k s0 s1 s2 s3 w : ℕ)
    → Agrees inverse_leave n (byte_product 9 s3) → Agrees inverse_leave t (byte_product 13 s2) → Agrees inverse_leave e (byte_product 11 s1) → Agrees inverse_leave f (byte_product 14 s0) → Agrees inverse_leave k (bit_xor w 0x63)
    → inverse_byte (bit_xor (bit_xor (bit_xor (bit_xor n t) e) f) k) ≡ bit_xor (mixed_byte 14 11 13 9 s0 s1 s2 s3) w
inverse_row n t e f k s0 s1 s2 s3 w hn ht he hf hk =
    let a = xor-lt n t hn.fits ht.fits in
    let b = xor-lt (bit_xor n t) e a he.fits in
    let c = xor-lt (bit_xor (bit_xor n t) e) f b hf.fits in
    rw (inverse_leave-sum (bit_xor (bit_xor (bit_xor n t) e) f) k c hk.fits, inverse_leave-sum (bit_xor (bit_xor n t) e) f b hf.fits, inverse_leave-sum (bit_xor n t) e a he.fits, inverse_leave-sum n t hn.fits ht.fits, hn.is, ht.is, he.is, hf.is, hk.is)
    (inverse_row-terms (byte_product 9 s3) (byte_product 13 s2) (byte_product 11 s1) (byte_product 14 s0) w 0x63)

-- ---- the keys of decryption

constant_mixed : mixed_byte 14 11 13 9 0x63 0x63 0x63 0x63 ≡ 0x63
unfolding product_modulo polynomial_product remainder
constant_mixed = refl

row-sum : (j k l m a b c d e f g h : ℕ) → mixed_byte j k l m (bit_xor a e) (bit_xor b f) (bit_xor c g) (bit_xor d h) ≡ bit_xor (mixed_byte j k l m a b c d) (mixed_byte j k l m e f g h)
row-sum j k l m a b c d e f g h =
    let P : ℕ → ℕ → ℕ = byte_product in
    rw (product_modulo-sum 8 0x11b j a e, product_modulo-sum 8 0x11b k b f, product_modulo-sum 8 0x11b l c g, product_modulo-sum 8 0x11b m d h)
    (sym (four_across (P j a) (P k b) (P l c) (P m d) (P j e) (P k f) (P l g) (P m h)))

key_row-terms : (n t e f q : ℕ) → bit_xor (bit_xor (bit_xor (bit_xor n t) e) f) q ≡ bit_xor (bit_xor (bit_xor f e) (bit_xor t n)) q
key_row-terms n t e f q = simp (xor_assoc, xor_comm, xor_swap) refl

pub key_row : (n t e f x0 x1 x2 x3 : ℕ)
    → Agrees inverse_leave n (byte_product 9 (leave x3)) → Agrees inverse_leave t (byte_product 13 (leave x2)) → Agrees inverse_leave e (byte_product 11 (leave x1)) → Agrees inverse_leave f (byte_product 14 (leave x0))
    → inverse_byte (bit_xor (bit_xor (bit_xor n t) e) f) ≡ mixed_byte 14 11 13 9 (key_byte x0) (key_byte x1) (key_byte x2) (key_byte x3)
key_row n t e f x0 x1 x2 x3 hn ht he hf =
    let a = xor-lt n t hn.fits ht.fits in
    let b = xor-lt (bit_xor n t) e a he.fits in
    rw (inverse_leave-sum (bit_xor (bit_xor n t) e) f b hf.fits, inverse_leave-sum (bit_xor n t) e a he.fits, inverse_leave-sum n t hn.fits ht.fits, hn.is, ht.is, he.is, hf.is, row-sum 14 11 13 9 (leave x0) (leave x1) (leave x2) (leave x3) 0x63 0x63 0x63 0x63, constant_mixed)
    (key_row-terms (byte_product 9 (leave x3)) (byte_product 13 (leave x2)) (byte_product 11 (leave x1)) (byte_product 14 (leave x0)) 0x63)
