-- The packet that the code opens is the one that stands there.
use Rattle.std.proofs.Common.{◌≡◌, ℕ, ◌+◌, ◌-◌, ◌<◌, ◌≤◌, Bool, true, false, nat_lt, ◌||◌, ◌⊎◌, List, ◌++◌, length, take, drop, slice_index, refl, sym, ◌∙◌, ap, subst, arith, inl, inr, length-drop}
use Rattle.std.proofs.lemmas.Bool.{cond-false, cond-true}
use Rattle.std.proofs.lemmas.Bool.Decides.{nat_tests}
use Rattle.std.proofs.lemmas.Grind.{common_steps}
use Rattle.std.proofs.lemmas.List.{take-append-le, drop-append-le, take-append-drop, length-take-le, drop-drop}
use Rattle.std.proofs.lemmas.Slice.Eq.{bytes_eq-Decides}
use Rattle.std.proofs.Math.Seq.{drop-append-add}
use Rattle.std.specs.Str.{bytes_eq}
use Rattle.ssh_packet.proofs.Fronts.{not_below, length_stays}
use Rattle.ssh_packet.specs.Errors.{open_error}
use Rattle.ssh_packet.specs.Finding.{RefusesBy, IsBadLength, IsSizeOnly, LeavesKey, StandsWhole, OpensPart}
use Rattle.ssh_packet.specs.Front as front
use Rattle.ssh_packet.specs.Front.{Front, Whole, Unfinished, Refused, front_of, length_in, is_bad_length, front_by_length, front_if_whole, front_if_tagged, front_parts, front_parts_by, text_in, tag_for, tag_fault, opened_past, packet_of, key_behind, refused_past}
use Rattle.ssh_packet.specs.Sealing.{Sealing, Clear, Block, Gcm, probe_length, tag_size, longest_packet}
use Rattle.ssh_packet.specs.declared.error.OpenError.{OpenError}
use Rattle.ssh_packet.specs.declared.error.OpenError.TheVariants.{PacketSize, IndexOutOfBounds, PacketAuth, DecryptionError}

below : (a b : ℕ) → a < b → nat_lt a b ≡ true
below a b h = grind (arith, nat_tests)

pub at_least : (a b : ℕ) → nat_lt a b ≡ false → b ≤ a
at_least a b h = grind (arith, nat_tests)

-- ---- the packet length

pub few : (s : Sealing) (number p : ℕ) (bytes : List ℕ) → p ≡ probe_length s → length bytes < p → front_of s number bytes ≡ Unfinished
unfolding front_of
few s number p bytes asked h = cond-true _ _ _ (below (length bytes) (probe_length s) (omega (arith, asked, h)))

-- the bytes that the reader asks for show the packet length
length_shown : (s : Sealing) (bytes : List ℕ) → probe_length s ≤ length bytes → length_in s (take (probe_length s) bytes) ≡ length_in s bytes
length_shown s bytes h =
    let size : length (take (probe_length s) bytes) ≡ probe_length s = length-take-le (probe_length s) bytes h in
    sym (length_stays s (take (probe_length s) bytes) (drop (probe_length s) bytes) (omega (arith, size))) ∙ ap (length_in s) (take-append-drop (probe_length s) bytes)

pub length_found : (s : Sealing) (p n : ℕ) (bytes : List ℕ) → p ≡ probe_length s → p ≤ length bytes → n ≡ length_in s (take p bytes) → n ≡ length_in s bytes
length_found s p n bytes asked h shown = shown ∙ (ap (λ q. length_in s (take q bytes)) asked ∙ length_shown s bytes (omega (arith, asked, h)))

pub front_measured : (s : Sealing) (number p n : ℕ) (bytes : List ℕ) → p ≡ probe_length s → p ≤ length bytes → n ≡ length_in s (take p bytes) → front_of s number bytes ≡ front_by_length s number n bytes
unfolding front_of
front_measured s number p n bytes asked h shown =
    let there : probe_length s ≤ length bytes = omega (arith, asked, h) in
    let size : n ≡ length_in s bytes = length_found s p n bytes asked h shown in
    cond-false _ _ _ (not_below (length bytes) (probe_length s) there) ∙ ap (λ k. front_by_length s number k bytes) (sym size)

pub bad_length : (s : Sealing) (number n : ℕ) (bytes : List ℕ) → front_of s number bytes ≡ front_by_length s number n bytes → is_bad_length s n ≡ true → RefusesBy (front_of s number bytes) (PacketSize n) × IsBadLength s (PacketSize n)
bad_length s number n bytes there bad = ((front.PacketSize n, refl, there ∙ cond-true _ _ _ bad), (n, refl, bad))

pub less_than_whole : (s : Sealing) (number n t : ℕ) (bytes : List ℕ) → front_of s number bytes ≡ front_by_length s number n bytes → is_bad_length s n ≡ false → t ≡ tag_size s → length bytes < 4 + n + t → front_of s number bytes ≡ Unfinished
less_than_whole s number n t bytes there good tag h =
    there ∙ (cond-false _ _ _ good ∙ cond-true _ _ _ (below (length bytes) (4 + n + tag_size s) (omega (arith, tag, h))))

first_false : (a b : Bool) → (a || b) ≡ false → a ≡ false
first_false true b h = h
first_false false b h = refl

short_of : (s : Sealing) (n : ℕ) → is_bad_length s n ≡ false → n ≤ longest_packet
short_of s n good = at_least longest_packet n (first_false (nat_lt longest_packet n) _ good)

pub stands_whole : (s : Sealing) (number n t : ℕ) (bytes : List ℕ) → n ≡ length_in s bytes → front_of s number bytes ≡ front_by_length s number n bytes → is_bad_length s n ≡ false → t ≡ tag_size s → 4 + n + t ≤ length bytes → StandsWhole s number bytes n
stands_whole s number n t bytes shown there good tag h = record {
  shown = shown;
  front = there ∙ (cond-false _ _ _ good ∙ cond-false _ _ _ (not_below (length bytes) (4 + n + tag_size s) (omega (arith, tag, h))));
  good = good;
  short = short_of s n good;
  there = omega (arith, tag, h);
}

-- ---- the tag

pub wrong_tag : (s : Sealing) (number n : ℕ) (packet behind : List ℕ) → (take (tag_size s) behind ≡ tag_for s number packet → ⊥) → front_if_tagged s number n packet behind ≡ Refused (tag_fault s)
wrong_tag s number n packet behind other = cond-false _ _ _ (by_test (bytes_eq (tag_for s number packet) (take (tag_size s) behind)) refl) where
  by_test : (b : Bool) → bytes_eq (tag_for s number packet) (take (tag_size s) behind) ≡ b → bytes_eq (tag_for s number packet) (take (tag_size s) behind) ≡ false
  by_test true e = absurd (other (sym ((bytes_eq-Decides (tag_for s number packet) (take (tag_size s) behind)).0 e)))
  by_test false e = e

pub right_tag : (s : Sealing) (number n : ℕ) (packet behind : List ℕ) → take (tag_size s) behind ≡ tag_for s number packet → front_if_tagged s number n packet behind ≡ front_parts n (text_in s packet) (drop (tag_size s) behind)
right_tag s number n packet behind same = cond-true _ _ _ ((bytes_eq-Decides (tag_for s number packet) (take (tag_size s) behind)).1 (sym same))

-- a wrong tag is no refusal of a size
pub tag_no_size : (s : Sealing) (n : ℕ) (error : OpenError) → error ≡ open_error (tag_fault s) → IsSizeOnly n error
tag_no_size Clear n error e m f = let h : PacketAuth ≡ PacketSize m = sym e ∙ f in cc
tag_no_size (Block running mac) n error e m f = let h : PacketAuth ≡ PacketSize m = sym e ∙ f in cc
tag_no_size (Gcm key nonce) n error e m f = let h : DecryptionError ≡ PacketSize m = sym e ∙ f in cc

pub wrong_tag_refused : (s : Sealing) (number n t : ℕ) (error : OpenError) (packet rest old : List ℕ) → packet ≡ take (4 + n) old → rest ≡ drop (4 + n) old → t ≡ tag_size s → error ≡ open_error (tag_fault s) → (take t rest ≡ tag_for s number packet → ⊥) → RefusesBy (front_if_tagged s number n (take (4 + n) old) (drop (4 + n) old)) error × IsSizeOnly n error
wrong_tag_refused s number n t error packet rest old front behind tag cause other =
    let wrong : take (tag_size s) (drop (4 + n) old) ≡ tag_for s number (take (4 + n) old) → ⊥ = λ e. other (ap (λ k. take k rest) tag ∙ (ap (take (tag_size s)) behind ∙ (e ∙ ap (tag_for s number) (sym front)))) in (
      (tag_fault s, cause, wrong_tag s number n (take (4 + n) old) (drop (4 + n) old) wrong),
      tag_no_size s n error cause,
    )

-- what is left of the key
pub wrong_tag_leaves : (s : Sealing) (error : OpenError) (packet : List ℕ) (s' : Sealing) → error ≡ open_error (tag_fault s) → s' ≡ refused_past s packet → LeavesKey s packet error s'
wrong_tag_leaves Clear error packet s' e h = subst (λ x. LeavesKey Clear packet x s') (sym e) h
wrong_tag_leaves (Block running mac) error packet s' e h = subst (λ x. LeavesKey (Block running mac) packet x s') (sym e) h
wrong_tag_leaves (Gcm key nonce) error packet s' e h = subst (λ x. LeavesKey (Gcm key nonce) packet x s') (sym e) h

pub bad_padding_leaves : (s : Sealing) (n : ℕ) (error : OpenError) (packet : List ℕ) (s' : Sealing) → (error ≡ IndexOutOfBounds) ⊎ (error ≡ PacketSize n) → s' ≡ opened_past s packet → LeavesKey s packet error s'
bad_padding_leaves s n error packet s' (inl e) h = subst (λ x. LeavesKey s packet x s') (sym e) h
bad_padding_leaves s n error packet s' (inr e) h = subst (λ x. LeavesKey s packet x s') (sym e) h

pub size_only : (n : ℕ) (error : OpenError) → (error ≡ IndexOutOfBounds) ⊎ (error ≡ PacketSize n) → IsSizeOnly n error
size_only n error (inl e) m f = let h : IndexOutOfBounds ≡ PacketSize m = sym e ∙ f in cc
size_only n error (inr e) m f = let h : PacketSize n ≡ PacketSize m = sym e ∙ f in cc

-- behind its own tag, what is found is the text taken apart
pub opened_text : (s : Sealing) (number n t : ℕ) (packet text rest old : List ℕ) → packet ≡ take (4 + n) old → rest ≡ drop (4 + n) old → t ≡ tag_size s → take t rest ≡ tag_for s number packet → text ≡ text_in s packet → front_if_tagged s number n (take (4 + n) old) (drop (4 + n) old) ≡ front_parts n text (drop (tag_size s) rest)
opened_text s number n t packet text rest old front behind tag right same =
    let given : take (tag_size s) (drop (4 + n) old) ≡ tag_for s number (take (4 + n) old) = ap (take (tag_size s)) (sym behind) ∙ (ap (λ k. take k rest) (sym tag) ∙ (right ∙ ap (tag_for s number) front)) in
    right_tag s number n (take (4 + n) old) (drop (4 + n) old) given
    ∙ (ap (λ x. front_parts n x (drop (tag_size s) (drop (4 + n) old))) (ap (text_in s) (sym front) ∙ sym same) ∙ ap (λ x. front_parts n text (drop (tag_size s) x)) (sym behind))

-- ---- a packet that is opened where it stands

twice : (m end : ℕ) (bytes : List ℕ) → m ≤ end → take m (take end bytes) ≡ take m bytes
twice m end bytes h = grind (arith, common_steps)

-- the bytes of the packet that stands before the rest, without its tag
packet_before : (s : Sealing) (bytes : List ℕ) (m end : ℕ) → end ≡ m + tag_size s → end ≤ length bytes → packet_of s (take (length bytes - length (drop end bytes)) bytes) ≡ take m bytes
packet_before s bytes m end e h =
    let cut : length bytes - length (drop end bytes) ≡ end = omega (arith, h, length-drop end bytes) in
    let size : length (take end bytes) ≡ end = length-take-le end bytes h in
    let less : length (take end bytes) - tag_size s ≡ m = omega (arith, size, e) in
    ap (λ k. packet_of s (take k bytes)) cut ∙ (ap (λ k. take k (take end bytes)) less ∙ twice m end bytes (omega (arith, e)))

pub key_moved : (s : Sealing) (bytes : List ℕ) (m end : ℕ) → end ≡ m + tag_size s → end ≤ length bytes → opened_past s (take m bytes) ≡ key_behind s bytes (drop end bytes)
key_moved s bytes m end e h = ap (opened_past s) (sym (packet_before s bytes m end e h))

past : (a b : List ℕ) (m t u : ℕ) → length a ≡ m → t ≡ u → drop (m + t) (a ++ b) ≡ drop u b
past a b m t u h e = ap (λ k. drop k (a ++ b)) (omega (arith, h, e)) ∙ drop-append-add a b u

pub opens_part : (s : Sealing) (front : Front) (old packet behind : List ℕ) (n payload t : ℕ) → t ≡ tag_size s → 4 + n + t ≤ length old → length packet ≡ 4 + n → behind ≡ drop (4 + n) old → 1 + payload ≤ n → front ≡ Whole (record { payload = take payload (drop 5 packet); padding = drop payload (drop 5 packet) }) (drop (tag_size s) behind) → OpensPart front old (packet ++ behind) (record { payload = payload; end = 4 + n + t })
opens_part s front old packet behind n payload t tag there size rest fits found =
    let inner : drop 5 (packet ++ behind) ≡ drop 5 packet ++ behind = drop-append-le 5 packet behind (omega (arith, size, fits)) in
    let payload_is : take payload (drop 5 (packet ++ behind)) ≡ take payload (drop 5 packet) = ap (take payload) inner ∙ take-append-le payload (drop 5 packet) behind (omega (arith, size, fits, length-drop 5 packet)) in
    let last : drop (tag_size s) behind ≡ drop (4 + n + t) old = ap (drop (tag_size s)) rest ∙ (drop-drop (tag_size s) (4 + n) old ∙ ap (λ k. drop k old) (omega (arith, tag))) in
    let after : drop (4 + n + t) (packet ++ behind) ≡ drop (tag_size s) behind = past packet behind (4 + n) t (tag_size s) size tag in record {
      padding = drop payload (drop 5 packet);
      found = found ∙ (ap (λ x. Whole (record { payload = x; padding = drop payload (drop 5 packet) }) (drop (tag_size s) behind)) (sym payload_is) ∙ ap (Whole (record { payload = take payload (drop 5 (packet ++ behind)); padding = drop payload (drop 5 packet) })) last);
      rest = after ∙ last;
      within = omega (arith, fits);
      fits = there;
    }

-- ---- a text that is taken apart

pub parted_short : (n padding : ℕ) (text rest : List ℕ) → padding ≡ slice_index text 4 → padding ≤ n → n < padding + 2 → front_parts n text rest ≡ Refused (front.PacketSize n)
parted_short n padding text rest at fits h =
    ap (λ p. front_parts_by p n (drop 5 text) rest) (sym at)
    ∙ (cond-false _ _ _ (not_below n padding fits) ∙ cond-true _ _ _ (below n (padding + 2) h))
