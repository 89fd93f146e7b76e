-- State, number and bytes determine a packet.
use Rattle.std.proofs.Common.{◌≡◌, ℕ, ◌+◌, ◌/◌, ◌%◌, ◌^◌, ◌<◌, ◌≤◌, Bool, true, false, List, [], ◌∷◌, ◌++◌, length, take, drop, refl, sym, ◌∙◌, ap, arith, append_assoc, length-append, length-drop}
use Rattle.std.proofs.lemmas.Grind.{common_steps}
use Rattle.std.proofs.lemmas.List.{take-append-le, take-append-drop}
use Rattle.std.proofs.lemmas.Nat.{from_be_bytes-to_be_bytes_4}
use Rattle.std.specs.Int.{w32, to_be_bytes, from_be_bytes}
use Rattle.ssh_aes.specs.Gcm.{gcm_text, gcm_tag}
use Rattle.ssh_aes.specs.Laws.{RunsWell}
use Rattle.ssh_aes.specs.Modes.{Running, masked_text, shortest_text}
use Rattle.ssh_mac.proofs.Lemmas.{tags_have_length}
use Rattle.ssh_mac.specs.Tags.{MacOf, tag_of, is_encrypt_then_mac}
use Rattle.ssh_aes.proofs.Lemmas.{AreOctets-append, AreOctets-cons, AreOctets-four, AreOctets-drop, runs_well, gcm_well}
use Rattle.ssh_wire.specs.Forms.{AreBytes}
use Rattle.ssh_packet.specs.Sealing.{Item, Sealing, Clear, Block, Gcm, framed_text, packet_length, text_with_tag, sealed_packet, shortest_encrypted, shortest_packet, IsAdmissible}

-- ---- lists

-- two ways to cut the same bytes at the same length
pub cut_alike : (a b x y : List ℕ) → length a ≡ length b → a ++ x ≡ b ++ y → (a ≡ b) × (x ≡ y)
cut_alike [] [] x y h e = (refl, e)
cut_alike [] (q ∷ b) x y h e = absurd (omega arith)
cut_alike (p ∷ a) [] x y h e = absurd (omega arith)
cut_alike (p ∷ a) (q ∷ b) x y h e =
    let tails : a ++ x ≡ b ++ y = cc in
    let r = cut_alike a b x y (omega (arith, h)) tails in
    let pq : p ≡ q = cc in
    let ab : a ≡ b = r.0 in
    (cc, r.1)

pub length_take4 : (t : List ℕ) → 4 ≤ length t → length (take 4 t) ≡ 4
length_take4 t h = grind (arith, common_steps)

bytes_u32 : (n : ℕ) → AreBytes (to_be_bytes w32 n)
bytes_u32 n = AreOctets-four (n / 16777216 % 256) (n / 65536 % 256) (n / 256 % 256) (n % 256) (omega arith) (omega arith) (omega arith) (omega arith)

pub u32_injective : (m n : ℕ) → m < 2 ^ 32 → n < 2 ^ 32 → to_be_bytes w32 m ≡ to_be_bytes w32 n → m ≡ n
u32_injective m n hm hn e = sym (from_be_bytes-to_be_bytes_4 m hm) ∙ (ap (from_be_bytes w32) e ∙ from_be_bytes-to_be_bytes_4 n hn)

-- ---- framed texts

pair_alike : (p q r s : List ℕ) → p ≡ q → r ≡ s → (let t : List ℕ × List ℕ = (p, r) in t) ≡ (q, s)
pair_alike p q r s e f = cc

pub item_alike : (a b : Item) → a.payload ≡ b.payload → a.padding ≡ b.padding → a ≡ b
item_alike a b e f = ap (λ (p : List ℕ × List ℕ). let r : Item = record { payload = p.0; padding = p.1 } in r) (pair_alike a.payload b.payload a.padding b.padding e f)

pub front_framed : (a : Item) → take 4 (framed_text a) ≡ to_be_bytes w32 (packet_length a)
unfolding framed_text
front_framed a = refl

pub length_framed : (a : Item) → length (framed_text a) ≡ 4 + packet_length a
unfolding framed_text
length_framed a = omega (arith, length-append a.payload a.padding)

pub framed_bytes : (sealing : Sealing) (a : Item) → IsAdmissible sealing a → AreBytes (framed_text a)
unfolding framed_text
framed_bytes sealing a h =
    AreOctets-append (to_be_bytes w32 (packet_length a)) (length a.padding ∷ (a.payload ++ a.padding)) (bytes_u32 (packet_length a))
    (AreOctets-cons (length a.padding) (a.payload ++ a.padding) h.padding (AreOctets-append a.payload a.padding h.payload_bytes h.padding_bytes))

framed_injective : (a b : Item) → packet_length a ≡ packet_length b → framed_text a ≡ framed_text b → a ≡ b
unfolding framed_text
framed_injective a b h e =
    let tails : (length a.padding ∷ (a.payload ++ a.padding)) ≡ (length b.padding ∷ (b.payload ++ b.padding)) = (cut_alike (to_be_bytes w32 (packet_length a)) (to_be_bytes w32 (packet_length b)) _ _ refl e).1 in
    let same : length a.padding ≡ length b.padding = cc in
    let bodies : a.payload ++ a.padding ≡ b.payload ++ b.padding = cc in
    let parts = cut_alike a.payload b.payload a.padding b.padding (omega (arith, h, same)) bodies in
    item_alike a b parts.0 parts.1

-- ---- from a text to the bytes of a packet

-- what is owed of the way from a text to the bytes of a packet
record Shape (ok : List ℕ → Type 0) (g : List ℕ → List ℕ) : Type 0 where
  pub front : (s t x y : List ℕ) → ok s → ok t → g s ++ x ≡ g t ++ y → take 4 s ≡ take 4 t
  pub even : (s t : List ℕ) → ok s → ok t → length s ≡ length t → length (g s) ≡ length (g t)
  pub injective : (s t : List ℕ) → ok s → ok t → length s ≡ length t → g s ≡ g t → s ≡ t

-- a text that is bytes, and not too short for the mode
record IsText (shortest_text_length : ℕ) (t : List ℕ) : Type 0 where
  pub bytes : AreBytes t
  pub long : shortest_text_length ≤ length t

one_by_shape : (k : ℕ) (g : List ℕ → List ℕ) → Shape (IsText k) g → (a b : Item) (x y : List ℕ) → IsText k (framed_text a) → IsText k (framed_text b) → packet_length a ≤ 262177 → packet_length b ≤ 262177 → g (framed_text a) ++ x ≡ g (framed_text b) ++ y → (a ≡ b) × (x ≡ y)
one_by_shape k g shape a b x y oa ob ha hb e =
    let heads = shape.front (framed_text a) (framed_text b) x y oa ob e in
    let lengths : packet_length a ≡ packet_length b = u32_injective (packet_length a) (packet_length b) (omega arith) (omega arith) (sym (front_framed a) ∙ (heads ∙ front_framed b)) in
    let long : length (framed_text a) ≡ length (framed_text b) = length_framed a ∙ (ap (λ n. 4 + n) lengths ∙ sym (length_framed b)) in
    let parts = cut_alike (g (framed_text a)) (g (framed_text b)) x y (shape.even _ _ oa ob long) e in
    (framed_injective a b lengths (shape.injective _ _ oa ob long parts.0), parts.1)

fronts_alike : (a b x y : List ℕ) → 4 ≤ length a → 4 ≤ length b → a ++ x ≡ b ++ y → take 4 a ≡ take 4 b
fronts_alike a b x y ha hb e = sym (take-append-le 4 a x ha) ∙ (ap (take 4) e ∙ take-append-le 4 b y hb)

clear_shape : Shape (IsText 4) (λ t. t)
clear_shape = record {
  front = λ s t x y os ot e. fronts_alike s t x y os.long ot.long e;
  even = λ s t os ot h. h;
  injective = λ s t os ot h e. e;
}

-- masked, and then a tag that the text determines and whose length is fixed
masked_shape : (r : Running) → RunsWell r → (tag : List ℕ → List ℕ) → ((s t : List ℕ) → length (tag s) ≡ length (tag t)) → Shape (IsText (shortest_text r)) (λ t. masked_text r t ++ tag t)
masked_shape r w tag fixed = record {
  front = λ s t x y os ot e. w.front s t (tag s ++ x) (tag t ++ y) os.bytes ot.bytes os.long ot.long (sym (append_assoc (masked_text r s) (tag s) x) ∙ (e ∙ append_assoc (masked_text r t) (tag t) y));
  even = λ s t os ot h. omega (arith, length-append (masked_text r s) (tag s), length-append (masked_text r t) (tag t), w.same_length s, w.same_length t, fixed s t, h);
  injective = λ s t os ot h e. w.injective s t os.bytes ot.bytes h (cut_alike (masked_text r s) (masked_text r t) (tag s) (tag t) (w.same_length s ∙ (h ∙ sym (w.same_length t))) e).0;
}

headed_even : (body tag : List ℕ → List ℕ → List ℕ) → ((h t : List ℕ) → length (body h t) ≡ length t) → ((h s k t : List ℕ) → length (tag h s) ≡ length (tag k t)) → (s t : List ℕ) → 4 ≤ length s → 4 ≤ length t → length s ≡ length t → length (take 4 s ++ (body (take 4 s) (drop 4 s) ++ tag (take 4 s) (drop 4 s))) ≡ length (take 4 t ++ (body (take 4 t) (drop 4 t) ++ tag (take 4 t) (drop 4 t)))
headed_even body tag same fixed s t hs ht h =
    let b : length (body (take 4 s) (drop 4 s)) ≡ length (drop 4 s) = same (take 4 s) (drop 4 s) in
    let c : length (body (take 4 t) (drop 4 t)) ≡ length (drop 4 t) = same (take 4 t) (drop 4 t) in
    let g : length (tag (take 4 s) (drop 4 s)) ≡ length (tag (take 4 t) (drop 4 t)) = fixed (take 4 s) (drop 4 s) (take 4 t) (drop 4 t) in
    let k : length (take 4 s) ≡ 4 = length_take4 s hs in
    let l : length (take 4 t) ≡ 4 = length_take4 t ht in
    omega (arith, length-append {A = ℕ}, length-drop {A = ℕ}, b, c, g, k, l, h)

headed_injective : (body tag : List ℕ → List ℕ → List ℕ) → ((h t : List ℕ) → length (body h t) ≡ length t) → ((h s t : List ℕ) → AreBytes s → AreBytes t → length s ≡ length t → body h s ≡ body h t → s ≡ t) → (s t : List ℕ) → IsText 4 s → IsText 4 t → length s ≡ length t → take 4 s ++ (body (take 4 s) (drop 4 s) ++ tag (take 4 s) (drop 4 s)) ≡ take 4 t ++ (body (take 4 t) (drop 4 t) ++ tag (take 4 t) (drop 4 t)) → s ≡ t
headed_injective body tag same injective s t os ot h e =
    let heads = cut_alike (take 4 s) (take 4 t) _ _ (length_take4 s os.long ∙ sym (length_take4 t ot.long)) e in
    let even : length (drop 4 s) ≡ length (drop 4 t) = omega (arith, length-drop {A = ℕ}, h) in
    let bodies = cut_alike (body (take 4 s) (drop 4 s)) (body (take 4 t) (drop 4 t)) _ _ (same (take 4 s) (drop 4 s) ∙ (even ∙ sym (same (take 4 t) (drop 4 t)))) heads.1 in
    let one_head : body (take 4 s) (drop 4 s) ≡ body (take 4 s) (drop 4 t) = bodies.0 ∙ ap (λ k. body k (drop 4 t)) (sym heads.0) in
    let tails : drop 4 s ≡ drop 4 t = injective (take 4 s) (drop 4 s) (drop 4 t) (AreOctets-drop 4 s os.bytes) (AreOctets-drop 4 t ot.bytes) even one_head in
    sym (take-append-drop 4 s) ∙ ((ap (λ k. k ++ drop 4 s) heads.0 ∙ ap (λ k. take 4 t ++ k) tails) ∙ take-append-drop 4 t)

-- four bytes in clear, then a body and a tag that these four and the rest determine
headed_shape : (body tag : List ℕ → List ℕ → List ℕ) → ((h t : List ℕ) → length (body h t) ≡ length t) → ((h s t : List ℕ) → AreBytes s → AreBytes t → length s ≡ length t → body h s ≡ body h t → s ≡ t) → ((h s k t : List ℕ) → length (tag h s) ≡ length (tag k t)) → Shape (IsText 4) (λ t. take 4 t ++ (body (take 4 t) (drop 4 t) ++ tag (take 4 t) (drop 4 t)))
headed_shape body tag same injective fixed = record {
  front = λ s t x y os ot e.
      (cut_alike (take 4 s) (take 4 t) ((body (take 4 s) (drop 4 s) ++ tag (take 4 s) (drop 4 s)) ++ x) ((body (take 4 t) (drop 4 t) ++ tag (take 4 t) (drop 4 t)) ++ y)
      (length_take4 s os.long ∙ sym (length_take4 t ot.long))
      (sym (append_assoc (take 4 s) _ x) ∙ (e ∙ append_assoc (take 4 t) _ y))).0;
  even = λ s t os ot h. headed_even body tag same fixed s t os.long ot.long h;
  injective = λ s t os ot h e. headed_injective body tag same injective s t os ot h e;
}

enclosed_shape : (etm : Bool) (r : Running) (mac : MacOf) (number : ℕ) → Shape (IsText (shortest_encrypted etm r)) (text_with_tag etm (masked_text r) (tag_of mac number))
enclosed_shape true r mac number =
    headed_shape (λ h t. masked_text r t) (λ h t. tag_of mac number (h ++ masked_text r t)) (λ h t. (runs_well r).same_length t) (λ h s t. (runs_well r).injective s t)
    (λ h s k t. tags_have_length mac number (h ++ masked_text r s) ∙ sym (tags_have_length mac number (k ++ masked_text r t)))
enclosed_shape false r mac number =
    masked_shape r (runs_well r) (tag_of mac number) (λ s t. tags_have_length mac number s ∙ sym (tags_have_length mac number t))

gcm_shape : (key nonce : List ℕ) → Shape (IsText 4) (λ t. take 4 t ++ (gcm_text key nonce (take 4 t) (drop 4 t) ++ gcm_tag key nonce (take 4 t) (drop 4 t)))
gcm_shape key nonce =
    let w = gcm_well key nonce in
    headed_shape (gcm_text key nonce) (gcm_tag key nonce) (λ h t. w.same_length h t) (λ h s t. w.injective h s t)
    (λ h s k t. w.tag h s ∙ sym (w.tag k t))

is_text : (sealing : Sealing) (a : Item) → IsAdmissible sealing a → IsText (shortest_packet sealing) (framed_text a)
is_text sealing a h = record { bytes = framed_bytes sealing a h; long = let l = h.shown in omega (arith, length_framed a, l) }

pub one_packet : (sealing : Sealing) (number : ℕ) (a b : Item) (x y : List ℕ) → IsAdmissible sealing a → IsAdmissible sealing b → sealed_packet sealing number a ++ x ≡ sealed_packet sealing number b ++ y → (a ≡ b) × (x ≡ y)
one_packet Clear number a b x y ha hb e = one_by_shape 4 (λ t. t) clear_shape a b x y (is_text Clear a ha) (is_text Clear b hb) ha.short hb.short e
one_packet (Block r mac) number a b x y ha hb e =
    one_by_shape (shortest_encrypted (is_encrypt_then_mac mac) r) (text_with_tag (is_encrypt_then_mac mac) (masked_text r) (tag_of mac number)) (enclosed_shape (is_encrypt_then_mac mac) r mac number) a b x y
    (is_text (Block r mac) a ha) (is_text (Block r mac) b hb) ha.short hb.short e
one_packet (Gcm key nonce) number a b x y ha hb e =
    one_by_shape 4 (λ t. take 4 t ++ (gcm_text key nonce (take 4 t) (drop 4 t) ++ gcm_tag key nonce (take 4 t) (drop 4 t))) (gcm_shape key nonce) a b x y
    (is_text (Gcm key nonce) a ha) (is_text (Gcm key nonce) b hb) ha.short hb.short e

-- ---- how long a packet is

length_enclosed : (etm : Bool) (r : Running) (mac : MacOf) (number : ℕ) (t : List ℕ) → 4 ≤ length t → length t ≤ length (text_with_tag etm (masked_text r) (tag_of mac number) t)
length_enclosed true r mac number t h =
    let body = (runs_well r).same_length (drop 4 t) in
    let all = length-append (take 4 t) (masked_text r (drop 4 t) ++ tag_of mac number (take 4 t ++ masked_text r (drop 4 t))) in
    let behind = length-append (masked_text r (drop 4 t)) (tag_of mac number (take 4 t ++ masked_text r (drop 4 t))) in
    omega (arith, length_take4 t h, length-drop 4 t, body, all, behind)
length_enclosed false r mac number t h = omega (arith, (runs_well r).same_length t, length-append (masked_text r t) (tag_of mac number t))

pub length_sealed : (sealing : Sealing) (number : ℕ) (a : Item) → 5 ≤ length (sealed_packet sealing number a)
length_sealed Clear number a = omega (arith, length_framed a)
length_sealed (Block r mac) number a = omega (arith, length_framed a, length_enclosed (is_encrypt_then_mac mac) r mac number (framed_text a) (omega (arith, length_framed a)))
length_sealed (Gcm key nonce) number a =
    let t = framed_text a in
    let four : 4 ≤ length t = omega (arith, length_framed a) in
    let body = (gcm_well key nonce).same_length (take 4 t) (drop 4 t) in
    let all = length-append (take 4 t) (gcm_text key nonce (take 4 t) (drop 4 t) ++ gcm_tag key nonce (take 4 t) (drop 4 t)) in
    let behind = length-append (gcm_text key nonce (take 4 t) (drop 4 t)) (gcm_tag key nonce (take 4 t) (drop 4 t)) in
    omega (arith, length_framed a, length_take4 t four, length-drop 4 t, body, all, behind)
