-- What a reader finds is a packet that was sealed: its bytes stand at the front.
use Rattle.std.proofs.Common.{◌≡◌, ℕ, ◌+◌, ◌-◌, ◌<◌, ◌≤◌, List, [], ◌∷◌, ◌++◌, length, take, drop, slice_index, refl, sym, ◌∙◌, ap, subst, arith, Bool, true, false, if◌then◌else◌, ◌||◌, nat_lt, append_assoc, append-nil, length-drop}
use Rattle.std.proofs.lemmas.Bool.Decides.{nat_tests}
use Rattle.std.proofs.lemmas.Grind.{common_steps}
use Rattle.std.proofs.lemmas.List.{take-append-drop, length-take-le, get_or-take, take-take}
use Rattle.std.proofs.lemmas.Nat.{be_bytes_4}
use Rattle.std.proofs.lemmas.Slice.Eq.{bytes_eq-Decides}
use Rattle.std.specs.Int.{w32, from_be_bytes, to_be_bytes}
use Rattle.std.specs.Str.{bytes_eq}
use Rattle.ssh_aes.proofs.Lemmas.{closes_well, AreOctets-append, AreOctets-drop, gcm_closes_well}
use Rattle.ssh_aes.specs.Gcm.{gcm_plain, gcm_text, gcm_tag}
use Rattle.ssh_aes.specs.Modes.{Running, masked_text, unmasked_text}
use Rattle.ssh_mac.specs.Tags.{tag_of, is_encrypt_then_mac}
use Rattle.ssh_packet.proofs.Finding.{at_least}
use Rattle.ssh_packet.proofs.Fronts.{drop_headed, length_headed, states_agree, take_headed}
use Rattle.ssh_packet.proofs.Shapes.{length_take4}
use Rattle.ssh_packet.specs.Front.{Front, Whole, Unfinished, Refused, probe_text, length_in, is_bad_length, decrypted_text, text_in, tagged_text, tag_for, front_parts, front_if_tagged, front_of, key_behind}
use Rattle.ssh_wire.specs.Forms.{AreBytes}
use Rattle.ssh_packet.specs.Sealing.{Item, Sealing, Clear, Block, Gcm, framed_text, packet_length, sealed_text, text_with_tag, sealed_packet, moved_on, probe_length, shortest_encrypted, shortest_packet, tag_size, IsAdmissible}

-- ---- what was opened from any bytes is sealed to them

bytes_take : (t : List ℕ) (k : ℕ) → AreBytes t → AreBytes (take k t)
bytes_take t k h i = by_place (nat_lt i k) refl where
  by_place : (b : Bool) → nat_lt i k ≡ b → slice_index (take k t) i < 256
  by_place true e = let l : i < k = grind (arith, nat_tests) in omega (arith, get_or-take k t i 0 l, h i)
  by_place false e = let l : k ≤ i = grind (arith, nat_tests) in let z : slice_index (take k t) i ≡ 0 = grind (arith, common_steps) in omega (arith, z)

length_decrypted : (etm : Bool) (r : Running) (p : List ℕ) → 4 ≤ length p → length (decrypted_text etm r p) ≡ length p
length_decrypted true r p h = length_headed p _ h ((closes_well r).same_length (drop 4 p))
length_decrypted false r p h = (closes_well r).same_length p

length_text : (s : Sealing) (p : List ℕ) → 4 ≤ length p → length (text_in s p) ≡ length p
length_text Clear p h = refl
length_text (Block r mac) p h = length_decrypted (is_encrypt_then_mac mac) r p h
length_text (Gcm key nonce) p h = length_headed p _ h ((gcm_closes_well key nonce).same_length (take 4 p) (drop 4 p))

decrypted_bytes : (etm : Bool) (r : Running) (p : List ℕ) → AreBytes p → AreBytes (decrypted_text etm r p)
decrypted_bytes true r p b = AreOctets-append (take 4 p) _ (bytes_take p 4 b) ((closes_well r).bytes (drop 4 p) (AreOctets-drop 4 p b))
decrypted_bytes false r p b = (closes_well r).bytes p b

text_bytes : (s : Sealing) (p : List ℕ) → AreBytes p → AreBytes (text_in s p)
text_bytes Clear p b = b
text_bytes (Block r mac) p b = decrypted_bytes (is_encrypt_then_mac mac) r p b
text_bytes (Gcm key nonce) p b = AreOctets-append (take 4 p) _ (bytes_take p 4 b) ((gcm_closes_well key nonce).bytes (take 4 p) (drop 4 p) (AreOctets-drop 4 p b))

-- a head of four bytes and something behind it, made of the two parts of p
headed_again : (p u : List ℕ) (f g : List ℕ → List ℕ → List ℕ) → 4 ≤ length p → (let t : List ℕ = take 4 p ++ u in take 4 t ++ (f (take 4 t) (drop 4 t) ++ g (take 4 t) (drop 4 t))) ≡ take 4 p ++ (f (take 4 p) u ++ g (take 4 p) u)
headed_again p u f g h =
    ap (λ a. a ++ (f a (drop 4 (take 4 p ++ u)) ++ g a (drop 4 (take 4 p ++ u)))) (take_headed p u h)
    ∙ ap (λ d. take 4 p ++ (f (take 4 p) d ++ g (take 4 p) d)) (drop_headed p u h)

headed_whole : (p u x : List ℕ) → u ≡ drop 4 p → take 4 p ++ (u ++ x) ≡ p ++ x
headed_whole p u x e = ap (λ d. take 4 p ++ (d ++ x)) e ∙ (sym (append_assoc (take 4 p) (drop 4 p) x) ∙ ap (λ d. d ++ x) (take-append-drop 4 p))

enclosed_again : (etm : Bool) (r : Running) (tag : List ℕ → List ℕ) (p : List ℕ) → AreBytes p → 4 ≤ length p → text_with_tag etm (masked_text r) tag (decrypted_text etm r p) ≡ p ++ tag (tagged_text etm r p)
enclosed_again true r tag p b h =
    let again = (closes_well r).closes (drop 4 p) (AreOctets-drop 4 p b) in
    headed_again p (unmasked_text r (drop 4 p)) (λ a d. masked_text r d) (λ a d. tag (a ++ masked_text r d)) h
    ∙ (ap (λ d. take 4 p ++ (d ++ tag (take 4 p ++ d))) again
    ∙ (headed_whole p (drop 4 p) _ refl ∙ ap (λ d. p ++ tag d) (take-append-drop 4 p)))
enclosed_again false r tag p b h = ap (λ d. d ++ tag (unmasked_text r p)) ((closes_well r).closes p b)

closed_again : (s : Sealing) (number : ℕ) (p : List ℕ) → AreBytes p → 4 ≤ length p → sealed_text s number (text_in s p) ≡ p ++ tag_for s number p
closed_again Clear number p b h = sym (append-nil p)
closed_again (Block r mac) number p b h = enclosed_again (is_encrypt_then_mac mac) r (tag_of mac number) p b h
closed_again (Gcm key nonce) number p b h =
    let w = gcm_closes_well key nonce in
    headed_again p (gcm_plain key nonce (take 4 p) (drop 4 p)) (λ a d. gcm_text key nonce a d) (λ a d. gcm_tag key nonce a d) h
    ∙ (ap (λ x. take 4 p ++ (gcm_text key nonce (take 4 p) (gcm_plain key nonce (take 4 p) (drop 4 p)) ++ x)) (w.tag (take 4 p) (drop 4 p))
    ∙ headed_whole p _ _ (w.closes (take 4 p) (drop 4 p)))

-- ---- the packet length that was shown is that of the text

-- the first four bytes of a front
take4_front : (bytes : List ℕ) (k : ℕ) → 4 ≤ k → take 4 (take k bytes) ≡ take 4 bytes
take4_front bytes k h = take-take 4 k bytes h

shown_block : (etm : Bool) (r : Running) (bytes : List ℕ) (k : ℕ) → 4 ≤ k → k ≤ length bytes → 16 ≤ length bytes → shortest_encrypted etm r ≤ k → take 4 (decrypted_text etm r (take k bytes)) ≡ take 4 (probe_text etm r bytes)
shown_block true r bytes k four whole long shown =
    take_headed (take k bytes) _ (omega (arith, length-take-le k bytes whole)) ∙ take4_front bytes k four
shown_block false r bytes k four whole long shown =
    let all : take k bytes ++ drop k bytes ≡ bytes = take-append-drop k bytes in
    sym (ap (λ b. take 4 (unmasked_text r (take 16 b))) (sym all)
    ∙ (closes_well r).early (take k bytes) (drop k bytes) (omega (arith, length-take-le k bytes whole, shown)) (omega (arith, ap length all)))

shown_text : (s : Sealing) (bytes : List ℕ) (k : ℕ) → 4 ≤ k → k ≤ length bytes → probe_length s ≤ length bytes → shortest_packet s ≤ k → from_be_bytes w32 (take 4 (text_in s (take k bytes))) ≡ length_in s bytes
shown_text Clear bytes k four whole long shown = ap (from_be_bytes w32) (take4_front bytes k four)
shown_text (Block r mac) bytes k four whole long shown = ap (from_be_bytes w32) (shown_block (is_encrypt_then_mac mac) r bytes k four whole long shown)
shown_text (Gcm key nonce) bytes k four whole long shown =
    ap (from_be_bytes w32) (take_headed (take k bytes) _ (omega (arith, length-take-le k bytes whole)) ∙ take4_front bytes k four)

-- ---- a text taken apart is framed so

-- the parts of a text of packet length n with so much padding
abbrev part_of : ℕ → ℕ → List ℕ → Item
part_of n padding text = record { payload = take (n - 1 - padding) (drop 5 text); padding = drop (n - 1 - padding) (drop 5 text) }

length_parts : (n padding : ℕ) (text : List ℕ) → length text ≡ 4 + n → padding + 2 ≤ n → (length (part_of n padding text).payload ≡ n - 1 - padding) × (length (part_of n padding text).padding ≡ padding)
length_parts n padding text size long =
    let behind : length (drop 5 text) ≡ n - 1 = omega (arith, size, length-drop 5 text) in
    (length-take-le (n - 1 - padding) (drop 5 text) (omega (arith, behind)), omega (arith, behind, length-drop (n - 1 - padding) (drop 5 text)))

five_up : (text : List ℕ) → 5 ≤ length text → drop 4 text ≡ slice_index text 4 ∷ drop 5 text
five_up [] h = absurd (omega arith)
five_up (a ∷ []) h = absurd (omega arith)
five_up (a ∷ b ∷ []) h = absurd (omega arith)
five_up (a ∷ b ∷ c ∷ []) h = absurd (omega arith)
five_up (a ∷ b ∷ c ∷ d ∷ []) h = absurd (omega arith)
five_up (a ∷ b ∷ c ∷ d ∷ e ∷ rest) h = refl

framed_parts : (n padding : ℕ) (text : List ℕ) → AreBytes text → length text ≡ 4 + n → padding ≡ slice_index text 4 → padding + 2 ≤ n → from_be_bytes w32 (take 4 text) ≡ n → framed_text (part_of n padding text) ≡ text
unfolding framed_text
framed_parts n padding text b size at long shown =
    let i = part_of n padding text in
    let lengths = length_parts n padding text size long in
    let total : packet_length i ≡ n = omega (arith, lengths.0, lengths.1) in
    let head : to_be_bytes w32 n ≡ take 4 text = be_bytes_4 (take 4 text) n (length_take4 text (omega (arith, size))) (bytes_take text 4 b) (sym shown) in
    ap (λ h. to_be_bytes w32 h ++ length i.padding ∷ (i.payload ++ i.padding)) total
    ∙ (ap (λ h. h ++ length i.padding ∷ (i.payload ++ i.padding)) head
    ∙ (ap (λ m. take 4 text ++ m ∷ (i.payload ++ i.padding)) (lengths.1 ∙ at)
    ∙ (ap (λ d. take 4 text ++ slice_index text 4 ∷ d) (take-append-drop (n - 1 - padding) (drop 5 text))
    ∙ (ap (λ d. take 4 text ++ d) (sym (five_up text (omega (arith, size)))) ∙ take-append-drop 4 text))))

-- ---- the front

-- what is found as a packet is one
pub record IsSealed (s : Sealing) (number : ℕ) (bytes : List ℕ) (item : Item) (rest : List ℕ) : Type 0 where
  pub admissible : IsAdmissible s item
  pub bytes_are : bytes ≡ sealed_packet s number item ++ rest

abbrev Sounds : Sealing → ℕ → List ℕ → Front → Type 0
Sounds s number bytes (Whole item rest) = IsSealed s number bytes item rest
Sounds s number bytes Unfinished = Unit {0}
Sounds s number bytes (Refused fault) = Unit {0}

by_test : (P : Front → Type 0) (b : Bool) (x y : Front) → (b ≡ true → P x) → (b ≡ false → P y) → P (if b then x else y)
by_test P true x y h k = h refl
by_test P false x y h k = k refl

none_of : (a b c : Bool) → (a || (b || c)) ≡ false → (a ≡ false) × (b ≡ false) × (c ≡ false)
none_of true b c e = absurd cc
none_of false true c e = absurd cc
none_of false false c e = (refl, refl, e)

-- the sizes that a packet length is within
record IsGood (s : Sealing) (n : ℕ) : Type 0 where
  pub short : n ≤ 262177
  pub probed : probe_length s ≤ n + 4 + tag_size s
  pub shown : shortest_packet s ≤ n + 4

good_length : (s : Sealing) (n : ℕ) → is_bad_length s n ≡ false → IsGood s n
good_length s n e =
    let t = none_of (nat_lt 262177 n) (nat_lt (n + 4 + tag_size s) (probe_length s)) (nat_lt (n + 4) (shortest_packet s)) e in
    record { short = at_least 262177 n t.0; probed = at_least _ _ t.1; shown = at_least _ _ t.2 }

found : (s : Sealing) (number n padding : ℕ) (bytes : List ℕ) → AreBytes bytes → probe_length s ≤ length bytes → length_in s bytes ≡ n → IsGood s n → 4 + n + tag_size s ≤ length bytes → tag_for s number (take (4 + n) bytes) ≡ take (tag_size s) (drop (4 + n) bytes)
    → padding ≡ slice_index (text_in s (take (4 + n) bytes)) 4 → padding + 2 ≤ n → IsSealed s number bytes (part_of n padding (text_in s (take (4 + n) bytes))) (drop (tag_size s) (drop (4 + n) bytes))
found s number n padding bytes b long shown good whole tag at fits =
    let p = take (4 + n) bytes in
    let behind = drop (4 + n) bytes in
    let text = text_in s p in
    let pb : AreBytes p = bytes_take bytes (4 + n) b in
    let size : length p ≡ 4 + n = length-take-le (4 + n) bytes (omega (arith, whole)) in
    let tb : AreBytes text = text_bytes s p pb in
    let ts : length text ≡ 4 + n = length_text s p (omega (arith, size)) ∙ size in
    let lengths = length_parts n padding text ts fits in
    let total : packet_length (part_of n padding text) ≡ n = omega (arith, lengths.0, lengths.1) in
    let good_short = good.short in
    let good_probed = good.probed in
    let good_shown = good.shown in
    let head : from_be_bytes w32 (take 4 text) ≡ n = shown_text s bytes (4 + n) (omega arith) (omega (arith, whole)) long (omega (arith, good_shown)) ∙ shown in
    let frame : framed_text (part_of n padding text) ≡ text = framed_parts n padding text tb ts at fits head in
    let bytes_there : sealed_packet s number (part_of n padding text) ≡ p ++ take (tag_size s) behind = ap (sealed_text s number) frame ∙ (closed_again s number p pb (omega (arith, size)) ∙ ap (λ x. p ++ x) tag) in
    record {
      admissible = record {
        payload = omega (arith, lengths.0);
        padding = omega (arith, lengths.1, at, tb 4);
        short = omega (arith, total, good_short);
        probed = omega (arith, total, good_probed);
        shown = omega (arith, total, good_shown);
        payload_bytes = bytes_take (drop 5 text) (n - 1 - padding) (AreOctets-drop 5 text tb);
        padding_bytes = AreOctets-drop (n - 1 - padding) (drop 5 text) (AreOctets-drop 5 text tb);
      };
      bytes_are = sym (ap (λ x. x ++ drop (tag_size s) behind) bytes_there
          ∙ (append_assoc p (take (tag_size s) behind) (drop (tag_size s) behind)
          ∙ (ap (λ x. p ++ x) (take-append-drop (tag_size s) behind) ∙ take-append-drop (4 + n) bytes)));
    }

parted_sounds : (s : Sealing) (number n : ℕ) (bytes : List ℕ) → AreBytes bytes → probe_length s ≤ length bytes → length_in s bytes ≡ n → IsGood s n → 4 + n + tag_size s ≤ length bytes → tag_for s number (take (4 + n) bytes) ≡ take (tag_size s) (drop (4 + n) bytes)
    → Sounds s number bytes (front_parts n (text_in s (take (4 + n) bytes)) (drop (tag_size s) (drop (4 + n) bytes)))
parted_sounds s number n bytes b long shown good whole tag =
    let text = text_in s (take (4 + n) bytes) in
    let padding = slice_index text 4 in
    by_test (Sounds s number bytes) (nat_lt n padding) _ _ (λ e. tt) (λ e.
    by_test (Sounds s number bytes) (nat_lt n (padding + 2)) _ _ (λ e. tt) (λ e.
    found s number n padding bytes b long shown good whole tag refl (at_least n (padding + 2) e)))

checked_sounds : (s : Sealing) (number n : ℕ) (bytes : List ℕ) → AreBytes bytes → probe_length s ≤ length bytes → length_in s bytes ≡ n → IsGood s n → 4 + n + tag_size s ≤ length bytes → Sounds s number bytes (front_if_tagged s number n (take (4 + n) bytes) (drop (4 + n) bytes))
checked_sounds s number n bytes b long shown good whole =
    let given = take (tag_size s) (drop (4 + n) bytes) in
    let own = tag_for s number (take (4 + n) bytes) in
    by_test (Sounds s number bytes) (bytes_eq own given) _ _ (λ e. parted_sounds s number n bytes b long shown good whole ((bytes_eq-Decides own given).0 e)) (λ e. tt)

front_sounds : (s : Sealing) (number : ℕ) (bytes : List ℕ) → AreBytes bytes → Sounds s number bytes (front_of s number bytes)
unfolding front_of
front_sounds s number bytes b =
    let n = length_in s bytes in
    by_test (Sounds s number bytes) (nat_lt (length bytes) (probe_length s)) _ _ (λ e. tt) (λ long.
    by_test (Sounds s number bytes) (is_bad_length s n) _ _ (λ e. tt) (λ good.
    by_test (Sounds s number bytes) (nat_lt (length bytes) (4 + n + tag_size s)) _ _ (λ e. tt) (λ whole.
    checked_sounds s number n bytes b (at_least _ _ long) refl (good_length s n good) (at_least _ _ whole))))

pub front_sound : (s : Sealing) (number : ℕ) (bytes rest : List ℕ) (item : Item) → AreBytes bytes → front_of s number bytes ≡ Whole item rest → IsSealed s number bytes item rest
front_sound s number bytes rest item b e = subst (Sounds s number bytes) e (front_sounds s number bytes b)

-- behind what was sealed, a reader opens with what the writer seals under
pub moved_sound : (s : Sealing) (number : ℕ) (bytes rest : List ℕ) (item : Item) (s' : Sealing) → bytes ≡ sealed_packet s number item ++ rest → s' ≡ key_behind s bytes rest → s' ≡ moved_on s item
moved_sound s number bytes rest item s' e h = h ∙ (ap (λ b. key_behind s b rest) e ∙ states_agree s number item rest)
