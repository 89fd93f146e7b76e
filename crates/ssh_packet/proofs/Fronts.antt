-- What a reader finds at the front: a packet that stands there, and the same when bytes come behind.
use Rattle.std.proofs.Common.{◌≡◌, ℕ, ◌+◌, ◌-◌, ◌<◌, ◌≤◌, List, [], ◌++◌, length, take, drop, refl, sym, ◌∙◌, ap, subst, arith, Bool, true, false, if◌then◌else◌, ◌||◌, nat_lt, append_assoc, append-nil, length-append, length-drop}
use Rattle.std.proofs.lemmas.Bool.{cond-false, cond-true}
use Rattle.std.proofs.lemmas.Bool.Decides.{nat_tests}
use Rattle.std.proofs.lemmas.List.{take-append-le, drop-append-le, take-append-drop}
use Rattle.std.proofs.lemmas.Nat.{from_be_bytes-to_be_bytes_4}
use Rattle.std.proofs.lemmas.Slice.Eq.{bytes_eq-Decides}
use Rattle.std.proofs.Math.Seq.{take-append_seam, drop-append_seam}
use Rattle.std.specs.Int.{w32, from_be_bytes}
use Rattle.std.specs.Str.{bytes_eq}
use Rattle.ssh_aes.specs.Gcm.{gcm_text, gcm_tag, gcm_plain, cipher_tag}
use Rattle.ssh_aes.specs.Modes.{Running, masked_text, unmasked_text, running_after, running_past}
use Rattle.ssh_mac.proofs.Lemmas.{tags_have_length}
use Rattle.ssh_mac.specs.Tags.{MacOf, tag_of, is_encrypt_then_mac}
use Rattle.ssh_aes.proofs.Lemmas.{AreOctets-drop, opens_well, runs_well, gcm_well}
use Rattle.ssh_packet.proofs.Shapes.{cut_alike, front_framed, length_framed, framed_bytes, length_take4, item_alike}
use Rattle.ssh_packet.specs.Front.{Fault, Front, Whole, Unfinished, Refused, probe_text, length_in, is_bad_length, decrypted_text, text_in, opened_past, packet_of, key_behind, tagged_text, tag_for, tag_fault, front_parts, front_parts_by, front_if_tagged, front_if_whole, front_by_length, front_of}
use Rattle.ssh_wire.specs.Forms.{AreBytes}
use Rattle.ssh_packet.specs.Sealing.{Item, Sealing, Clear, Block, Gcm, framed_text, packet_length, encrypted_part, moved_past, moved_on, sealed_text, text_with_tag, sealed_packet, probe_length, shortest_encrypted, shortest_packet, tag_size, IsAdmissible}

pub not_below : (a b : ℕ) → b ≤ a → nat_lt a b ≡ false
not_below a b h = grind (arith, nat_tests)

-- ---- a packet in its parts

-- a text encrypted, without its tag
body_by : Bool → Running → List ℕ → List ℕ
body_by true r t = take 4 t ++ masked_text r (drop 4 t)
body_by false r t = masked_text r t

over : Bool → Running → List ℕ → List ℕ
over true r t = take 4 t ++ masked_text r (drop 4 t)
over false r t = t

body : Sealing → List ℕ → List ℕ
body Clear t = t
body (Block r mac) t = body_by (is_encrypt_then_mac mac) r t
body (Gcm key nonce) t = take 4 t ++ gcm_text key nonce (take 4 t) (drop 4 t)

tag_made : Sealing → ℕ → List ℕ → List ℕ
tag_made Clear number t = []
tag_made (Block r mac) number t = tag_of mac number (over (is_encrypt_then_mac mac) r t)
tag_made (Gcm key nonce) number t = gcm_tag key nonce (take 4 t) (drop 4 t)

enclosed_parts : (etm : Bool) (r : Running) (mac : MacOf) (number : ℕ) (t : List ℕ) → text_with_tag etm (masked_text r) (tag_of mac number) t ≡ body_by etm r t ++ tag_of mac number (over etm r t)
unfolding body_by over
enclosed_parts true r mac number t = sym (append_assoc (take 4 t) (masked_text r (drop 4 t)) _)
enclosed_parts false r mac number t = refl

closed_parts : (s : Sealing) (number : ℕ) (t : List ℕ) → sealed_text s number t ≡ body s t ++ tag_made s number t
unfolding body tag_made
closed_parts Clear number t = sym (append-nil t)
closed_parts (Block r mac) number t = enclosed_parts (is_encrypt_then_mac mac) r mac number t
closed_parts (Gcm key nonce) number t = sym (append_assoc (take 4 t) (gcm_text key nonce (take 4 t) (drop 4 t)) _)

pub length_headed : (t u : List ℕ) → 4 ≤ length t → length u ≡ length (drop 4 t) → length (take 4 t ++ u) ≡ length t
length_headed t u h e = omega (arith, length-append (take 4 t) u, length_take4 t h, e, length-drop 4 t)

length_body_by : (etm : Bool) (r : Running) (t : List ℕ) → 4 ≤ length t → length (body_by etm r t) ≡ length t
unfolding body_by
length_body_by true r t h = length_headed t _ h ((runs_well r).same_length (drop 4 t))
length_body_by false r t h = (runs_well r).same_length t

length_body : (s : Sealing) (t : List ℕ) → 4 ≤ length t → length (body s t) ≡ length t
unfolding body
length_body Clear t h = refl
length_body (Block r mac) t h = length_body_by (is_encrypt_then_mac mac) r t h
length_body (Gcm key nonce) t h = length_headed t _ h ((gcm_well key nonce).same_length (take 4 t) (drop 4 t))

length_tag : (s : Sealing) (number : ℕ) (t : List ℕ) → length (tag_made s number t) ≡ tag_size s
unfolding tag_made
length_tag Clear number t = refl
length_tag (Block r mac) number t = tags_have_length mac number _
length_tag (Gcm key nonce) number t = (gcm_well key nonce).tag _ _

-- the first four bytes of something headed by the first four of t are those
pub take_headed : (t u : List ℕ) → 4 ≤ length t → take 4 (take 4 t ++ u) ≡ take 4 t
take_headed t u h = subst (λ n. take n (take 4 t ++ u) ≡ take 4 t) (length_take4 t h) (take-append_seam (take 4 t) u)

pub drop_headed : (t u : List ℕ) → 4 ≤ length t → drop 4 (take 4 t ++ u) ≡ u
drop_headed t u h = subst (λ n. drop n (take 4 t ++ u) ≡ u) (length_take4 t h) (drop-append_seam (take 4 t) u)

rejoined : (t u v : List ℕ) → 4 ≤ length t → u ≡ take 4 t → v ≡ drop 4 t → u ++ v ≡ t
rejoined t u v h e f = ap (λ x. x ++ v) e ∙ (ap (λ x. take 4 t ++ x) f ∙ take-append-drop 4 t)

-- decrypted, a text is what it was
decrypted_back : (etm : Bool) (r : Running) (t : List ℕ) → AreBytes t → 4 ≤ length t → decrypted_text etm r (body_by etm r t) ≡ t
unfolding body_by
decrypted_back true r t b h =
    rejoined t _ _ h (take_headed t _ h) (ap (unmasked_text r) (drop_headed t _ h) ∙ (opens_well r).opens (drop 4 t) (AreOctets-drop 4 t b))
decrypted_back false r t b h = (opens_well r).opens t b

text_back : (s : Sealing) (t : List ℕ) → AreBytes t → 4 ≤ length t → text_in s (body s t) ≡ t
unfolding body
text_back Clear t b h = refl
text_back (Block r mac) t b h = decrypted_back (is_encrypt_then_mac mac) r t b h
text_back (Gcm key nonce) t b h =
    let encrypted_part = gcm_text key nonce (take 4 t) (drop 4 t) in
    rejoined t _ _ h (take_headed t encrypted_part h)
    (ap (λ a. gcm_plain key nonce a (drop 4 (take 4 t ++ encrypted_part))) (take_headed t encrypted_part h)
    ∙ (ap (gcm_plain key nonce (take 4 t)) (drop_headed t encrypted_part h) ∙ (gcm_well key nonce).opens (take 4 t) (drop 4 t) (AreOctets-drop 4 t b)))

-- the tag that belongs to it is the one behind it
covered_back : (etm : Bool) (r : Running) (t : List ℕ) → AreBytes t → tagged_text etm r (body_by etm r t) ≡ over etm r t
unfolding body_by over
covered_back true r t b = refl
covered_back false r t b = (opens_well r).opens t b

tag_back : (s : Sealing) (number : ℕ) (t : List ℕ) → AreBytes t → 4 ≤ length t → tag_for s number (body s t) ≡ tag_made s number t
unfolding body tag_made
tag_back Clear number t b h = refl
tag_back (Block r mac) number t b h = ap (tag_of mac number) (covered_back (is_encrypt_then_mac mac) r t b)
tag_back (Gcm key nonce) number t b h =
    let encrypted_part = gcm_text key nonce (take 4 t) (drop 4 t) in
    ap (λ a. cipher_tag key nonce a (drop 4 (take 4 t ++ encrypted_part))) (take_headed t encrypted_part h)
    ∙ ap (cipher_tag key nonce (take 4 t)) (drop_headed t encrypted_part h)

-- opened, it leaves what sealing it did
passed_back : (etm : Bool) (r : Running) (t : List ℕ) → 4 ≤ length t → running_past r (encrypted_part etm (body_by etm r t)) ≡ running_after r (encrypted_part etm t)
unfolding body_by
passed_back true r t h = ap (running_past r) (drop_headed t (masked_text r (drop 4 t)) h) ∙ (opens_well r).leaves (drop 4 t)
passed_back false r t h = (opens_well r).leaves t

opened_back : (s : Sealing) (t : List ℕ) → 4 ≤ length t → opened_past s (body s t) ≡ moved_past s t
unfolding body
opened_back Clear t h = refl
opened_back (Block r mac) t h = ap (λ q. Block q mac) (passed_back (is_encrypt_then_mac mac) r t h)
opened_back (Gcm key nonce) t h = refl

pub opens_again : (s : Sealing) (number : ℕ) (t p x : List ℕ) → AreBytes t → 4 ≤ length t → length p ≡ length t → p ++ x ≡ sealed_text s number t → (x ≡ tag_for s number p) × (text_in s p ≡ t) × (opened_past s p ≡ moved_past s t)
opens_again s number t p x b h l e =
    let parts = cut_alike p (body s t) x (tag_made s number t) (l ∙ sym (length_body s t h)) (e ∙ closed_parts s number t) in
    let packet : p ≡ body s t = parts.0 in
    let tag = ap (tag_for s number) packet ∙ tag_back s number t b h in
    (parts.1 ∙ sym tag, ap (text_in s) packet ∙ text_back s t b h, ap (opened_past s) packet ∙ opened_back s t h)

-- ---- behind a packet

-- the front of a list that a rest stands behind
before_rest : (a b : List ℕ) → take (length (a ++ b) - length b) (a ++ b) ≡ a
before_rest a b =
    let size : length (a ++ b) - length b ≡ length a = omega (arith, length-append a b) in
    ap (λ n. take n (a ++ b)) size ∙ take-append_seam a b

packet_parts : (s : Sealing) (b tag : List ℕ) → length tag ≡ tag_size s → packet_of s (b ++ tag) ≡ b
packet_parts s b tag h = ap (λ n. take (length (b ++ tag) - n) (b ++ tag)) (sym h) ∙ before_rest b tag

pub states_agree : (s : Sealing) (number : ℕ) (item : Item) (rest : List ℕ) → key_behind s (sealed_packet s number item ++ rest) rest ≡ moved_on s item
states_agree s number item rest =
    let t = framed_text item in
    let parts = ap (packet_of s) (before_rest (sealed_packet s number item) rest ∙ closed_parts s number t) ∙ packet_parts s (body s t) (tag_made s number t) (length_tag s number t) in
    ap (opened_past s) parts ∙ opened_back s t (omega (arith, length_framed item))

-- ---- a packet at the front

whole_is : (item : Item) (rest p q : List ℕ) → p ≡ item.payload → q ≡ item.padding → Whole (record { payload = p; padding = q }) rest ≡ Whole item rest
whole_is item rest p q e f = ap (λ i. Whole i rest) (item_alike (record { payload = p; padding = q }) item e f)

-- a framed text, taken apart
parted_framed : (item : Item) (rest : List ℕ) → 0 < length item.payload → front_parts (packet_length item) (framed_text item) rest ≡ Whole item rest
unfolding framed_text
parted_framed item rest h =
    let cut : packet_length item - 1 - length item.padding ≡ length item.payload = omega arith in
    cond-false (nat_lt (packet_length item) (length item.padding)) _ _ (not_below _ _ (omega arith))
    ∙ (cond-false (nat_lt (packet_length item) (length item.padding + 2)) _ _ (not_below _ _ (omega arith))
    ∙ (ap (λ n. Whole (record { payload = take n (item.payload ++ item.padding); padding = drop n (item.payload ++ item.padding) }) rest) cut
    ∙ whole_is item rest _ _ (take-append_seam item.payload item.padding) (drop-append_seam item.payload item.padding)))

length_at : (t : List ℕ) (item : Item) → packet_length item ≤ 262177 → t ≡ take 4 (framed_text item) → from_be_bytes w32 t ≡ packet_length item
length_at t item h e = ap (from_be_bytes w32) (e ∙ front_framed item) ∙ from_be_bytes-to_be_bytes_4 (packet_length item) (omega arith)

-- behind a body, anything
probed_front : (etm : Bool) (r : Running) (t x : List ℕ) → AreBytes t → 4 ≤ length t → shortest_encrypted etm r ≤ length t → 16 ≤ length (body_by etm r t ++ x) → take 4 (probe_text etm r (body_by etm r t ++ x)) ≡ take 4 t
unfolding body_by
probed_front true r t x b four h long = ap (take 4) (append_assoc (take 4 t) (masked_text r (drop 4 t)) x) ∙ take_headed t _ four
probed_front false r t x b four h long = (opens_well r).early t x b h long

length_behind : (s : Sealing) (number : ℕ) (item : Item) (rest : List ℕ) → length (body s (framed_text item) ++ (tag_made s number (framed_text item) ++ rest)) ≡ 4 + packet_length item + tag_size s + length rest
length_behind s number item rest =
    omega (arith, length-append (body s (framed_text item)) (tag_made s number (framed_text item) ++ rest), length-append (tag_made s number (framed_text item)) rest, length_body s (framed_text item) (omega (arith, length_framed item)), length_tag s number (framed_text item), length_framed item)

shown_at : (s : Sealing) (number : ℕ) (item : Item) (rest : List ℕ) → IsAdmissible s item → length_in s (body s (framed_text item) ++ (tag_made s number (framed_text item) ++ rest)) ≡ packet_length item
unfolding body
shown_at Clear number item rest h = length_at _ item h.short (take-append-le 4 (framed_text item) _ (omega (arith, length_framed item)))
shown_at (Block r mac) number item rest h =
    let long = length_behind (Block r mac) number item rest in
    let probe_fits = h.probed in
    let shown_fits = h.shown in
    length_at _ item h.short
    (probed_front (is_encrypt_then_mac mac) r (framed_text item) _ (framed_bytes (Block r mac) item h) (omega (arith, length_framed item)) (omega (arith, length_framed item, shown_fits)) (omega (arith, long, probe_fits)))
shown_at (Gcm key nonce) number item rest h =
    length_at _ item h.short (ap (take 4) (append_assoc (take 4 (framed_text item)) (gcm_text key nonce (take 4 (framed_text item)) (drop 4 (framed_text item))) _) ∙ take_headed (framed_text item) _ (omega (arith, length_framed item)))

three_false : (a b c : Bool) → a ≡ false → b ≡ false → c ≡ false → (a || (b || c)) ≡ false
three_false a b c e f g = ap (λ x. x || (b || c)) e ∙ (ap (λ x. x || c) f ∙ g)

good_length : (s : Sealing) (item : Item) → IsAdmissible s item → is_bad_length s (packet_length item) ≡ false
good_length s item h =
    three_false (nat_lt 262177 (packet_length item)) (nat_lt (packet_length item + 4 + tag_size s) (probe_length s)) (nat_lt (packet_length item + 4) (shortest_packet s))
    (not_below 262177 (packet_length item) h.short) (not_below _ _ h.probed) (not_below _ _ h.shown)

-- what its tag belongs to is decrypted
checked_whole : (s : Sealing) (number : ℕ) (item : Item) (rest : List ℕ) → IsAdmissible s item → front_if_tagged s number (packet_length item) (body s (framed_text item)) (tag_made s number (framed_text item) ++ rest) ≡ Whole item rest
checked_whole s number item rest h =
    let t = framed_text item in
    let tag = tag_made s number t in
    let bytes = framed_bytes s item h in
    let four : 4 ≤ length t = omega (arith, length_framed item) in
    let given : take (tag_size s) (tag ++ rest) ≡ tag = subst (λ n. take n (tag ++ rest) ≡ tag) (length_tag s number t) (take-append_seam tag rest) in
    let behind : drop (tag_size s) (tag ++ rest) ≡ rest = subst (λ n. drop n (tag ++ rest) ≡ rest) (length_tag s number t) (drop-append_seam tag rest) in
    let right = (bytes_eq-Decides (tag_for s number (body s t)) (take (tag_size s) (tag ++ rest))).1 (tag_back s number t bytes four ∙ sym given) in
    cond-true _ _ _ right
    ∙ (ap (λ u. front_parts (packet_length item) u (drop (tag_size s) (tag ++ rest))) (text_back s t bytes four)
    ∙ (ap (front_parts (packet_length item) t) behind ∙ parted_framed item rest h.payload))

opened_whole : (s : Sealing) (number : ℕ) (item : Item) (rest : List ℕ) → IsAdmissible s item → front_if_whole s number (packet_length item) (body s (framed_text item) ++ (tag_made s number (framed_text item) ++ rest)) ≡ Whole item rest
opened_whole s number item rest h =
    let b = body s (framed_text item) in
    let x = tag_made s number (framed_text item) ++ rest in
    let size : length b ≡ 4 + packet_length item = length_body s (framed_text item) (omega (arith, length_framed item)) ∙ length_framed item in
    let all = length_behind s number item rest in
    let front : take (4 + packet_length item) (b ++ x) ≡ b = subst (λ n. take n (b ++ x) ≡ b) size (take-append_seam b x) in
    let behind : drop (4 + packet_length item) (b ++ x) ≡ x = subst (λ n. drop n (b ++ x) ≡ x) size (drop-append_seam b x) in
    cond-false (nat_lt (length (b ++ x)) (4 + packet_length item + tag_size s)) _ _ (not_below _ _ (omega (arith, all)))
    ∙ (ap (λ p. front_if_tagged s number (packet_length item) p (drop (4 + packet_length item) (b ++ x))) front
    ∙ (ap (front_if_tagged s number (packet_length item) b) behind ∙ checked_whole s number item rest h))

front_of_parts : (s : Sealing) (number : ℕ) (item : Item) (rest : List ℕ) → IsAdmissible s item → front_of s number (body s (framed_text item) ++ (tag_made s number (framed_text item) ++ rest)) ≡ Whole item rest
unfolding front_of
front_of_parts s number item rest h =
    let w = body s (framed_text item) ++ (tag_made s number (framed_text item) ++ rest) in
    let all = length_behind s number item rest in
    let probe_fits = h.probed in
    cond-false (nat_lt (length w) (probe_length s)) _ _ (not_below _ _ (omega (arith, all, probe_fits)))
    ∙ (ap (λ n. front_by_length s number n w) (shown_at s number item rest h)
    ∙ (cond-false (is_bad_length s (packet_length item)) _ _ (good_length s item h) ∙ opened_whole s number item rest h))

pub front_whole : (s : Sealing) (number : ℕ) (item : Item) (rest : List ℕ) → IsAdmissible s item → front_of s number (sealed_packet s number item ++ rest) ≡ Whole item rest
front_whole s number item rest h =
    ap (λ t. front_of s number (t ++ rest)) (closed_parts s number (framed_text item))
    ∙ (ap (front_of s number) (append_assoc (body s (framed_text item)) (tag_made s number (framed_text item)) rest) ∙ front_of_parts s number item rest h)

-- ---- bytes that come behind

-- How what is found goes on: a packet or a fault stays, where more bytes come behind.
abbrev Stays : Front → Front → List ℕ → Type 0
Stays (Whole item rest) later more = later ≡ Whole item (rest ++ more)
Stays Unfinished later more = Unit {0}
Stays (Refused fault) later more = later ≡ Refused fault

stays_by : (b : Bool) (x y x' y' : Front) (more : List ℕ) → Stays x x' more → Stays y y' more → Stays (if b then x else y) (if b then x' else y') more
stays_by true x y x' y' more h k = h
stays_by false x y x' y' more h k = k

parted_stays : (padding n : ℕ) (behind rest more : List ℕ) → Stays (front_parts_by padding n behind rest) (front_parts_by padding n behind (rest ++ more)) more
parted_stays padding n behind rest more =
    stays_by (nat_lt n padding) _ _ _ _ more refl (stays_by (nat_lt n (padding + 2)) _ _ _ _ more refl refl)

-- a test that a size is too small, where the size grows
short_or_stays : (a b limit : ℕ) (y y' : Front) (more : List ℕ) → a ≤ b → (limit ≤ a → Stays y y' more) → Stays (if nat_lt a limit then Unfinished else y) (if nat_lt b limit then Unfinished else y') more
short_or_stays a b limit y y' more h k = by_test (nat_lt a limit) refl where
  by_test : (t : Bool) → nat_lt a limit ≡ t → Stays (if t then Unfinished else y) (if nat_lt b limit then Unfinished else y') more
  by_test true e = tt
  by_test false e =
      let above : limit ≤ a = grind (arith, nat_tests) in
      let P : Front → Type 0 = λ f. Stays y f more in
      subst P (sym (cond-false (nat_lt b limit) Unfinished y' (not_below b limit (omega arith)))) (k above)

checked_stays : (s : Sealing) (number n : ℕ) (packet behind more : List ℕ) → tag_size s ≤ length behind → Stays (front_if_tagged s number n packet behind) (front_if_tagged s number n packet (behind ++ more)) more
checked_stays s number n packet behind more h =
    let given = take-append-le (tag_size s) behind more h in
    let rest = drop-append-le (tag_size s) behind more h in
    let P : Front → Type 0 = λ f. Stays (front_if_tagged s number n packet behind) f more in
    let later : front_if_tagged s number n packet (behind ++ more) ≡ (if bytes_eq (tag_for s number packet) (take (tag_size s) behind) then front_parts n (text_in s packet) (drop (tag_size s) behind ++ more) else Refused (tag_fault s)) =
    ap (λ g. if bytes_eq (tag_for s number packet) g then front_parts n (text_in s packet) (drop (tag_size s) (behind ++ more)) else Refused (tag_fault s)) given
    ∙ ap (λ r. if bytes_eq (tag_for s number packet) (take (tag_size s) behind) then front_parts n (text_in s packet) r else Refused (tag_fault s)) rest in
    subst P (sym later) (stays_by (bytes_eq (tag_for s number packet) (take (tag_size s) behind)) _ _ _ _ more (parted_stays _ n _ (drop (tag_size s) behind) more) refl)

opened_stays : (s : Sealing) (number n : ℕ) (bytes more : List ℕ) → Stays (front_if_whole s number n bytes) (front_if_whole s number n (bytes ++ more)) more
opened_stays s number n bytes more =
    short_or_stays (length bytes) (length (bytes ++ more)) (4 + n + tag_size s) _ _ more (omega (arith, length-append bytes more)) (λ h.
    let front : take (4 + n) (bytes ++ more) ≡ take (4 + n) bytes = take-append-le (4 + n) bytes more (omega (arith, h)) in
    let behind : drop (4 + n) (bytes ++ more) ≡ drop (4 + n) bytes ++ more = drop-append-le (4 + n) bytes more (omega (arith, h)) in
    let P : Front → Type 0 = λ f. Stays (front_if_tagged s number n (take (4 + n) bytes) (drop (4 + n) bytes)) f more in
    subst P (sym (ap (λ p. front_if_tagged s number n p (drop (4 + n) (bytes ++ more))) front ∙ ap (front_if_tagged s number n (take (4 + n) bytes)) behind))
    (checked_stays s number n (take (4 + n) bytes) (drop (4 + n) bytes) more (omega (arith, h, length-drop (4 + n) bytes))))

probed_stays : (etm : Bool) (r : Running) (bytes more : List ℕ) → 16 ≤ length bytes → take 4 (probe_text etm r (bytes ++ more)) ≡ take 4 (probe_text etm r bytes)
probed_stays true r bytes more h = take-append-le 4 bytes more (omega (arith, h))
probed_stays false r bytes more h = ap (λ b. take 4 (unmasked_text r b)) (take-append-le 16 bytes more h)

pub length_stays : (s : Sealing) (bytes more : List ℕ) → probe_length s ≤ length bytes → length_in s (bytes ++ more) ≡ length_in s bytes
length_stays Clear bytes more h = ap (from_be_bytes w32) (take-append-le 4 bytes more h)
length_stays (Block r mac) bytes more h = ap (from_be_bytes w32) (probed_stays (is_encrypt_then_mac mac) r bytes more h)
length_stays (Gcm key nonce) bytes more h = ap (from_be_bytes w32) (take-append-le 4 bytes more h)

front_goes_on : (s : Sealing) (number : ℕ) (bytes more : List ℕ) → Stays (front_of s number bytes) (front_of s number (bytes ++ more)) more
unfolding front_of
front_goes_on s number bytes more =
    short_or_stays (length bytes) (length (bytes ++ more)) (probe_length s) _ _ more (omega (arith, length-append bytes more)) (λ h.
    let P : Front → Type 0 = λ f. Stays (front_by_length s number (length_in s bytes) bytes) f more in
    subst P (sym (ap (λ k. front_by_length s number k (bytes ++ more)) (length_stays s bytes more h)))
    (stays_by (is_bad_length s (length_in s bytes)) _ _ _ _ more refl (opened_stays s number (length_in s bytes) bytes more)))

pub front_stays_whole : (sealing : Sealing) (number : ℕ) (bytes more rest : List ℕ) (item : Item) → front_of sealing number bytes ≡ Whole item rest → front_of sealing number (bytes ++ more) ≡ Whole item (rest ++ more)
front_stays_whole sealing number bytes more rest item h =
    let P : Front → Type 0 = λ f. Stays f (front_of sealing number (bytes ++ more)) more in
    subst P h (front_goes_on sealing number bytes more)

pub front_stays_refused : (sealing : Sealing) (number : ℕ) (bytes more : List ℕ) (fault : Fault) → front_of sealing number bytes ≡ Refused fault → front_of sealing number (bytes ++ more) ≡ Refused fault
front_stays_refused sealing number bytes more fault h =
    let P : Front → Type 0 = λ f. Stays f (front_of sealing number (bytes ++ more)) more in
    subst P h (front_goes_on sealing number bytes more)
