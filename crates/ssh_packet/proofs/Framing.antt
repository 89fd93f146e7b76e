-- A packet's text in its place: the packet length and the padding's length before a payload, the padding behind it.
use Rattle.std.proofs.Common.{◌≡◌, ℕ, ◌+◌, ◌-◌, ◌≤◌, List, [], ◌∷◌, ◌++◌, length, take, drop, slice_index, replicate, sym, ◌∙◌, ap, subst, arith, append-nil, append_assoc, length-append, length-drop}
use Rattle.std.proofs.lemmas.Grind.{common_steps}
use Rattle.std.proofs.lemmas.List.{length-take-le, drop-drop, drop-append-le, take-append-le, take_rest}
use Rattle.std.proofs.Math.ListN.{drop_of_length-le}
use Rattle.std.proofs.Math.Seq.{take-append-add, take-append_seam, drop-append_seam}
use Rattle.rand_core.specs.Stream.{Stream}
use Rattle.ssh_wire.specs.Forms.{u32be}
use Rattle.ssh_aes.proofs.Lemmas.{AreOctets-drop}
use Rattle.ssh_wire.specs.Forms.{AreBytes}
use Rattle.ssh_packet.specs.Sealing.{Sealing, framed_text, item_padded_by, item_of, padding_length}
use borrow.Rule.Slice.PartMut.{put_mid}

-- what was written from a place to the end
pub put_behind : (a k : ℕ) (xs ys : List ℕ) → length xs ≤ a + k → put_mid a k xs ys ≡ take a xs ++ ys
put_behind a k xs ys h =
    let nothing : drop k (drop a xs) ≡ [] = drop_of_length-le (drop a xs) (omega (arith, h, length-drop a xs)) in
    ap (λ t. take a xs ++ (ys ++ t)) nothing ∙ ap (λ t. take a xs ++ t) (append-nil ys)

front_kept : (head rest : List ℕ) (n : ℕ) → length head ≡ 5 → 5 ≤ n → take n (head ++ rest) ≡ head ++ take (n - 5) rest
front_kept head rest n five h =
    let size : n ≡ length head + (n - 5) = omega (arith, five, h) in
    ap (λ m. take m (head ++ rest)) size ∙ take-append-add head rest (n - 5)

head_is : (l : List ℕ) (n padding : ℕ) → l ≡ u32be n → slice_index l 0 ∷ slice_index l 1 ∷ slice_index l 2 ∷ slice_index l 3 ∷ padding ∷ [] ≡ u32be n ++ padding ∷ []
head_is l n padding e = ap (λ x. slice_index x 0 ∷ slice_index x 1 ∷ slice_index x 2 ∷ slice_index x 3 ∷ padding ∷ []) e

framed_by : (payload pad : List ℕ) (n padding : ℕ) → n ≡ 1 + length payload + length pad → padding ≡ length pad → (u32be n ++ padding ∷ []) ++ (payload ++ pad) ≡ framed_text (record { payload = payload; padding = pad })
unfolding framed_text
framed_by payload pad n padding e f = ap (λ m. u32be m ++ padding ∷ (payload ++ pad)) e ∙ ap (λ m. u32be (1 + length payload + length pad) ++ m ∷ (payload ++ pad)) f

pub framed_made : (text copied pad l : List ℕ) (padding : ℕ) → 5 + padding ≤ length text → length pad ≡ padding → l ≡ u32be (length text - 4) → copied ≡ slice_index l 0 ∷ slice_index l 1 ∷ slice_index l 2 ∷ slice_index l 3 ∷ padding ∷ [] → put_mid (length text - padding) (length (copied ++ drop 5 text) - (length text - padding)) (copied ++ drop 5 text) pad ≡ framed_text (record { payload = take (length text - 5 - padding) (drop 5 text); padding = pad })
framed_made text copied pad l padding room size shown made =
    let head : copied ≡ u32be (length text - 4) ++ padding ∷ [] = made ∙ head_is l (length text - 4) padding shown in
    let five : length copied ≡ 5 = ap length made in
    let behind : length (drop 5 text) ≡ length text - 5 = length-drop 5 text in
    let all : length (copied ++ drop 5 text) ≡ length text = omega (arith, length-append copied (drop 5 text), five, behind, room) in
    let less : length text - padding - 5 ≡ length text - 5 - padding = omega (arith, room) in
    let payload : length (take (length text - 5 - padding) (drop 5 text)) ≡ length text - 5 - padding = length-take-le (length text - 5 - padding) (drop 5 text) (omega (arith, behind)) in
    put_behind (length text - padding) (length (copied ++ drop 5 text) - (length text - padding)) (copied ++ drop 5 text) pad (omega (arith, all, room))
    ∙ (ap (λ t. t ++ pad) (front_kept copied (drop 5 text) (length text - padding) five (omega (arith, room)))
    ∙ (ap (λ m. (copied ++ take m (drop 5 text)) ++ pad) less
    ∙ (append_assoc copied (take (length text - 5 - padding) (drop 5 text)) pad
    ∙ (ap (λ h. h ++ (take (length text - 5 - padding) (drop 5 text) ++ pad)) head
    ∙ framed_by (take (length text - 5 - padding) (drop 5 text)) pad (length text - 4) padding (omega (arith, payload, size, room)) (sym size)))))

-- ---- a packet behind what is there

all_of : (n : ℕ) (xs : List ℕ) → length xs ≤ n → take n xs ≡ xs
all_of n xs h = grind (arith, common_steps)

-- what was there, with zeros behind it
pub widened : (old items : List ℕ) (more total size : ℕ) → items ≡ take total old ++ replicate (total - size) 0 → size ≡ length old → total ≡ length old + more → items ≡ old ++ replicate more 0
widened old items more total size made same sum =
    let zeros : total - size ≡ more = omega (arith, same, sum) in
    made ∙ (ap (λ t. t ++ replicate (total - size) 0) (all_of total old (omega (arith, sum))) ∙ ap (λ n. old ++ replicate n 0) zeros)

payload_in : (old now zeros : List ℕ) (start n : ℕ) → now ≡ old ++ zeros → start + 5 ≤ length old → n ≡ length old - start - 5 → take n (drop 5 (drop start now)) ≡ drop (start + 5) old
payload_in old now zeros start n there room size =
    let long : n ≡ length (drop (start + 5) old) = omega (arith, size, length-drop (start + 5) old) in
    ap (take n) (drop-drop 5 start now)
    ∙ (ap (λ t. take n (drop (start + 5) t)) there
    ∙ (ap (take n) (drop-append-le (start + 5) old zeros room)
    ∙ (ap (λ m. take m (drop (start + 5) old ++ zeros)) long ∙ take-append_seam (drop (start + 5) old) zeros)))

payload_behind : (old now zeros : List ℕ) (start padding tag : ℕ) → now ≡ old ++ zeros → length zeros ≡ padding + tag → start + 5 ≤ length old → take (length (take (length now - start) (drop start now)) - 5 - padding - tag) (drop 5 (take (length now - start) (drop start now))) ≡ drop (start + 5) old
payload_behind old now zeros start padding tag there size room =
    let all : length now ≡ length old + length zeros = ap length there ∙ length-append old zeros in
    let part : length (drop start now) ≡ length old + padding + tag - start = omega (arith, all, size, length-drop start now) in
    ap (λ p. take (length p - 5 - padding - tag) (drop 5 p)) (take_rest now start)
    ∙ payload_in old now zeros start (length (drop start now) - 5 - padding - tag) there room (omega (arith, part, room))

pub packet_behind : (old now items packet zeros : List ℕ) (start size : ℕ) → now ≡ old ++ zeros → size ≡ length now → start ≤ length old → length packet ≡ length now - start → take size (put_mid start (length now - start) now packet ++ drop (length (put_mid start (length now - start) now packet)) items) ≡ take start old ++ packet
packet_behind old now items packet zeros start size there whole room long =
    let all : length now ≡ length old + length zeros = ap length there ∙ length-append old zeros in
    let made : put_mid start (length now - start) now packet ≡ take start now ++ packet = put_behind start (length now - start) now packet (omega (arith, all, room)) in
    let front : length (take start now) ≡ start = length-take-le start now (omega (arith, all, room)) in
    let long : size ≡ length (put_mid start (length now - start) now packet) = omega (arith, whole, ap length made, length-append (take start now) packet, front, long, all, room) in
    ap (λ n. take n (put_mid start (length now - start) now packet ++ drop (length (put_mid start (length now - start) now packet)) items)) long
    ∙ (take-append_seam (put_mid start (length now - start) now packet) _
    ∙ (made ∙ ap (λ t. t ++ packet) (ap (take start) there ∙ take-append-le start old zeros room)))

-- the item that was made is that of the payload
pub item_behind : (sealing : Sealing) (old now zeros part : List ℕ) (start padding tag : ℕ) (stream : Stream) → now ≡ old ++ zeros → length zeros ≡ padding + tag → start + 5 ≤ length old → part ≡ drop (start + 5) old → padding ≡ padding_length sealing (length part)
    → item_padded_by sealing padding (take (length (take (length now - start) (drop start now)) - 5 - padding - tag) (drop 5 (take (length now - start) (drop start now)))) stream ≡ item_of sealing (drop (start + 5) old) stream
item_behind sealing old now zeros part start padding tag stream there size room same padded =
    ap (λ p. item_padded_by sealing padding p stream) (payload_behind old now zeros start padding tag there size room)
    ∙ ap (λ n. item_padded_by sealing n (drop (start + 5) old) stream) (padded ∙ ap (λ p. padding_length sealing (length p)) same)

pub part_behind : (old now : List ℕ) (n : ℕ) → now ≡ old → take (length now - n) (drop n now) ≡ drop n old
part_behind old now n same = take_rest now n ∙ ap (drop n) same

-- what was written to the end is bytes where all is
pub bytes_behind : (a : ℕ) (xs ys : List ℕ) → AreBytes (put_mid a (length xs - a) xs ys) → AreBytes ys
bytes_behind a xs ys h =
    let joined : AreBytes (take a xs ++ ys) = subst AreBytes (put_behind a (length xs - a) xs ys (omega arith)) h in
    subst AreBytes (drop-append_seam (take a xs) ys) (AreOctets-drop (length (take a xs)) (take a xs ++ ys) joined)
