-- A side that takes the front of what the other side sent.
use Rattle.std.proofs.Common.{◌≡◌, ℕ, ◌+◌, ◌-◌, ◌<◌, ◌≤◌, List, [], ◌∷◌, ◌++◌, length, take, drop, refl, sym, ◌∙◌, ap, subst, arith, Bool, true, false, nat_lt, append_assoc, length-append, length-drop, inl, inr}
use Rattle.std.proofs.lemmas.Bool.Decides.{nat_tests}
use Rattle.std.proofs.lemmas.List.{take-append-drop, take-append-le, drop-append-le, drop-drop, length-take-le}
use Rattle.std.proofs.Math.Seq.{drop-append_seam, take-append-add}
use Rattle.ssh_wire.specs.Lines as lines
use Rattle.ssh_wire.specs.Lines.{IdFound, id_line, id_text, id_of}
use Rattle.ssh_wire.specs.Reading.{IdReading, Waiting, Heard, Failed}
use Rattle.ssh_wire.specs.declared.ssh_id.SshId.{SshId}
use Rattle.ssh_wire.proofs.Lemmas.{id_stays, less_than_a_line}
use Rattle.ssh_packet.specs.Front.{Unfinished, Refused}
use Rattle.ssh_packet.specs.Reading.{Reader}
use Rattle.ssh_run.specs.ClearRun.{IsWholeLine, clear_wire}
use Rattle.ssh_run.specs.Delivering.{payloads_of}
use Rattle.ssh_run.specs.Receiving.{ReadsOn, CannotRead, TakesBy, TakesLine, CannotTakeBy, CannotTakeLine}
use Rattle.ssh_run.specs.declared.receiver.Receiver.{Receiver}
use Rattle.ssh_run.proofs.Sent.{sent_from, AreSent, size_of, IsLessThanNext, finds_sent}

-- a part of the line was taken
pub record WaitsForLine (id : SshId) (taken : ℕ) (waiting : List ℕ) (r : Receiver) : Type 0 where
  pub short : taken < length (id_line id)
  pub waits : waiting ≡ take taken (id_line id)
  pub number : r.reader.number ≡ 0
  pub empty : r.reader.waiting ≡ []
  pub live : r.reader.failed ≡ false
  pub none : r.delivered.items ≡ []

-- the line and some packets were taken, and less than the next packet
pub record HasPackets (id : SshId) (payloads : List (List ℕ)) (taken : ℕ) (r : Receiver) : Type 0 where
  pub later : List (List ℕ)
  pub split : payloads ≡ r.delivered.items ++ later
  pub stands : r.reader.waiting ++ drop taken (clear_wire id payloads) ≡ sent_from r.reader.number later
  pub short : IsLessThanNext r.reader.waiting later
  pub count : taken ≡ length (id_line id) + (size_of r.delivered.items + length r.reader.waiting)
  pub live : r.reader.failed ≡ false

abbrev pub HasReadBy : IdReading → SshId → List (List ℕ) → ℕ → Receiver → Type 0
HasReadBy (Waiting waiting others) id payloads taken r = WaitsForLine id taken waiting r
HasReadBy (Heard text) id payloads taken r = HasPackets id payloads taken r
HasReadBy Failed id payloads taken r = ⊥

-- what a side has read that took so many bytes of what the other, with this id, sent for these payloads
abbrev pub HasReadOf : SshId → List (List ℕ) → ℕ → Receiver → Type 0
HasReadOf id payloads taken r = HasReadBy r.id id payloads taken r

are_sent_drop : (a b : List (List ℕ)) → AreSent (a ++ b) → AreSent b
are_sent_drop [] b h = h
are_sent_drop (p ∷ a) b h = are_sent_drop a b h.1

pub size_of-append : (a b : List (List ℕ)) → size_of (a ++ b) ≡ size_of a + size_of b
size_of-append [] b = omega arith
size_of-append (p ∷ a) b = omega (arith, size_of-append a b)

-- a piece of n bytes is the front of what is left
pub record IsPiece (wire : List ℕ) (taken n : ℕ) (piece : List ℕ) : Type 0 where
  pub piece_is : piece ≡ take n (drop taken wire)
  pub within : taken + n ≤ length wire

length_piece : (wire : List ℕ) (taken n : ℕ) (piece : List ℕ) → IsPiece wire taken n piece → length piece ≡ n
length_piece wire taken n piece h = ap length h.piece_is ∙ length-take-le n (drop taken wire) (omega (arith, length-drop taken wire, h.within))

piece_and_rest : (wire : List ℕ) (taken n : ℕ) (piece : List ℕ) → IsPiece wire taken n piece → piece ++ drop (taken + n) wire ≡ drop taken wire
piece_and_rest wire taken n piece h =
    ap (λ p. p ++ drop (taken + n) wire) h.piece_is
    ∙ (ap (λ d. take n (drop taken wire) ++ d) (sym (drop-drop n taken wire)) ∙ take-append-drop n (drop taken wire))

-- packets read behind some that were delivered before
reads_packets : (id : SshId) (payloads delivered later : List (List ℕ)) (taken : ℕ) (r new : Receiver) (bytes : List ℕ)
    → payloads ≡ r.delivered.items ++ later → AreSent payloads
    → (r.reader.waiting ++ bytes) ++ drop taken (clear_wire id payloads) ≡ sent_from r.reader.number later
    → taken ≡ length (id_line id) + (size_of r.delivered.items + length (r.reader.waiting ++ bytes))
    → ReadsOn r bytes new → HasPackets id payloads taken new
reads_packets id payloads delivered later taken r new bytes split ok stands count h =
    let sent = are_sent_drop r.delivered.items later (subst AreSent split ok) in
    let first = finds_sent r.reader.number later (r.reader.waiting ++ bytes) (drop taken (clear_wire id payloads)) h.items new.reader.waiting Unfinished sent stands h.found in
    record {
      later = first.later;
      split = split ∙ (ap (λ l. r.delivered.items ++ l) first.split ∙ (sym (append_assoc r.delivered.items (payloads_of h.items) first.later) ∙ ap (λ l. l ++ first.later) (sym h.delivered)));
      stands = first.stands ∙ ap (λ n. sent_from n first.later) (sym h.number);
      short = first.ends;
      count = count ∙ omega (arith, first.size, ap size_of h.delivered, size_of-append r.delivered.items (payloads_of h.items));
      live = h.live;
    }

-- no packet that was sent is refused
reads_all : (payloads later : List (List ℕ)) (r : Receiver) (bytes more : List ℕ) → payloads ≡ r.delivered.items ++ later → AreSent payloads → r.reader.failed ≡ false
    → (r.reader.waiting ++ bytes) ++ more ≡ sent_from r.reader.number later → CannotRead r bytes → ⊥
reads_all payloads later r bytes more split ok live stands (inl failed) = cc
reads_all payloads later r bytes more split ok live stands (inr h) =
    let sent = are_sent_drop r.delivered.items later (subst AreSent split ok) in
    (finds_sent r.reader.number later (r.reader.waiting ++ bytes) more h.0 h.1 (Refused h.2) sent stands h.3).ends

-- the bytes so far, where the line isn't whole
line_so_far : (id : SshId) (payloads : List (List ℕ)) (taken n : ℕ) (waiting piece : List ℕ) (r : Receiver) → WaitsForLine id taken waiting r → IsPiece (clear_wire id payloads) taken n piece → waiting ++ piece ≡ take (taken + n) (clear_wire id payloads)
line_so_far id payloads taken n waiting piece r h p =
    let front : take taken (clear_wire id payloads) ≡ take taken (id_line id) = take-append-le taken (id_line id) _ (omega (arith, h.short)) in
    let size : length (take taken (clear_wire id payloads)) ≡ taken = length-take-le taken (clear_wire id payloads) (omega (arith, p.within)) in
    let both : take taken (clear_wire id payloads) ++ drop taken (clear_wire id payloads) ≡ clear_wire id payloads = take-append-drop taken (clear_wire id payloads) in
    let cut : take (length (take taken (clear_wire id payloads)) + n) (take taken (clear_wire id payloads) ++ drop taken (clear_wire id payloads)) ≡ take taken (clear_wire id payloads) ++ take n (drop taken (clear_wire id payloads)) = take-append-add (take taken (clear_wire id payloads)) (drop taken (clear_wire id payloads)) n in
    ap (λ w. w ++ piece) (h.waits ∙ sym front)
    ∙ (ap (λ q. take taken (clear_wire id payloads) ++ q) p.piece_is
    ∙ (sym cut ∙ (ap (λ k. take (k + n) (take taken (clear_wire id payloads) ++ drop taken (clear_wire id payloads))) size ∙ ap (take (taken + n)) both)))

found_not : (id : SshId) (payloads : List (List ℕ)) (taken n : ℕ) (waiting piece : List ℕ) (r : Receiver) → IsWholeLine id → WaitsForLine id taken waiting r → IsPiece (clear_wire id payloads) taken n piece → taken + n < length (id_line id) → id_of 0 (waiting ++ piece) ≡ lines.NotYet
found_not id payloads taken n waiting piece r whole h p less =
    ap (id_of 0) (line_so_far id payloads taken n waiting piece r h p ∙ take-append-le (taken + n) (id_line id) _ (omega arith))
    ∙ less_than_a_line (id_line id) (id_text id) (taken + n) whole less

-- the line, and what stands behind it
line_and_more : (id : SshId) (payloads : List (List ℕ)) (taken n : ℕ) (waiting piece : List ℕ) (r : Receiver) → WaitsForLine id taken waiting r → IsPiece (clear_wire id payloads) taken n piece → length (id_line id) ≤ taken + n → waiting ++ piece ≡ id_line id ++ take (taken + n - length (id_line id)) (sent_from 0 payloads)
line_and_more id payloads taken n waiting piece r h p enough =
    let size : length (id_line id) + (taken + n - length (id_line id)) ≡ taken + n = omega arith in
    line_so_far id payloads taken n waiting piece r h p
    ∙ (ap (λ k. take k (id_line id ++ sent_from 0 payloads)) (sym size) ∙ take-append-add (id_line id) (sent_from 0 payloads) (taken + n - length (id_line id)))

found_line : (id : SshId) (payloads : List (List ℕ)) (taken n : ℕ) (waiting piece : List ℕ) (r : Receiver) → IsWholeLine id → WaitsForLine id taken waiting r → IsPiece (clear_wire id payloads) taken n piece → length (id_line id) ≤ taken + n → id_of 0 (waiting ++ piece) ≡ lines.Id (id_text id) (length (id_line id))
found_line id payloads taken n waiting piece r whole h p enough =
    ap (id_of 0) (line_and_more id payloads taken n waiting piece r h p enough) ∙ id_stays (id_line id) _ (id_text id) (length (id_line id)) whole

-- what stands behind the line in the piece, and what isn't taken yet
behind_line : (id : SshId) (payloads : List (List ℕ)) (taken n : ℕ) (waiting piece : List ℕ) (r : Receiver) → WaitsForLine id taken waiting r → IsPiece (clear_wire id payloads) taken n piece → length (id_line id) ≤ taken + n → drop (length (id_line id) - length waiting) piece ++ drop (taken + n) (clear_wire id payloads) ≡ sent_from 0 payloads
behind_line id payloads taken n waiting piece r h p enough =
    let waited : length waiting ≡ taken = ap length h.waits ∙ length-take-le taken (id_line id) (omega (arith, h.short)) in
    let sized = length_piece (clear_wire id payloads) taken n piece p in
    let skip : length (id_line id) - length waiting ≤ length piece = omega (arith, waited, sized) in
    let joined : drop (length (id_line id) - length waiting) (piece ++ drop (taken + n) (clear_wire id payloads)) ≡ drop (length (id_line id) - length waiting) piece ++ drop (taken + n) (clear_wire id payloads) = drop-append-le _ piece _ skip in
    let place : taken + (length (id_line id) - length waiting) ≡ length (id_line id) = omega (arith, waited, h.short) in
    sym joined
    ∙ (ap (drop (length (id_line id) - length waiting)) (piece_and_rest (clear_wire id payloads) taken n piece p)
    ∙ (drop-drop (length (id_line id) - length waiting) taken (clear_wire id payloads)
    ∙ (ap (λ k. drop k (clear_wire id payloads)) place ∙ drop-append_seam (id_line id) (sent_from 0 payloads))))

-- the first bytes behind the line are read
begins : (id : SshId) (payloads : List (List ℕ)) (taken n : ℕ) (waiting piece : List ℕ) (r : Receiver) → WaitsForLine id taken waiting r → IsPiece (clear_wire id payloads) taken n piece → length (id_line id) ≤ taken + n
    → (r.reader.waiting ++ drop (length (id_line id) - length waiting) piece) ++ drop (taken + n) (clear_wire id payloads) ≡ sent_from r.reader.number payloads
begins id payloads taken n waiting piece r h p enough =
    ap (λ w. (w ++ drop (length (id_line id) - length waiting) piece) ++ drop (taken + n) (clear_wire id payloads)) h.empty
    ∙ (behind_line id payloads taken n waiting piece r h p enough ∙ ap (λ k. sent_from k payloads) (sym h.number))

takes_line : (id : SshId) (payloads : List (List ℕ)) (taken n others : ℕ) (waiting piece : List ℕ) (r new : Receiver) → IsWholeLine id → AreSent payloads → WaitsForLine id taken waiting r → IsPiece (clear_wire id payloads) taken n piece → TakesLine (id_of 0 (waiting ++ piece)) waiting others piece r new → HasReadOf id payloads (taken + n) new
takes_line id payloads taken n others waiting piece r new whole ok h p t = by_size (nat_lt (taken + n) (length (id_line id))) refl where
  by_size : (b : Bool) → nat_lt (taken + n) (length (id_line id)) ≡ b → HasReadOf id payloads (taken + n) new
  by_size true e =
      let less : taken + n < length (id_line id) = grind (arith, nat_tests) in
      let P : IdFound → Type 0 = λ f. TakesLine f waiting others piece r new in
      let goes = subst P (found_not id payloads taken n waiting piece r whole h p less) t in
      let N : IdReading → Type 0 = λ i. HasReadBy i id payloads (taken + n) new in
      subst N (sym goes.0) (record {
        short = less;
        waits = line_so_far id payloads taken n waiting piece r h p ∙ take-append-le (taken + n) (id_line id) _ (omega arith);
        number = ap (λ (x : Reader). x.number) goes.1.0 ∙ h.number;
        empty = ap (λ (x : Reader). x.waiting) goes.1.0 ∙ h.empty;
        live = ap (λ (x : Reader). x.failed) goes.1.0 ∙ h.live;
        none = goes.1.1 ∙ h.none;
      })
  by_size false e =
      let enough : length (id_line id) ≤ taken + n = grind (arith, nat_tests) in
      let P : IdFound → Type 0 = λ f. TakesLine f waiting others piece r new in
      let goes = subst P (found_line id payloads taken n waiting piece r whole h p enough) t in
      let N : IdReading → Type 0 = λ i. HasReadBy i id payloads (taken + n) new in
      let waited : length waiting ≡ taken = ap length h.waits ∙ length-take-le taken (id_line id) (omega (arith, h.short)) in
      let sized = length_piece (clear_wire id payloads) taken n piece p in
      let read : length (r.reader.waiting ++ drop (length (id_line id) - length waiting) piece) ≡ taken + n - length (id_line id) =
      ap (λ w. length (w ++ drop (length (id_line id) - length waiting) piece)) h.empty ∙ omega (arith, length-drop (length (id_line id) - length waiting) piece, waited, sized, h.short) in
      subst N (sym goes.0)
      (reads_packets id payloads [] payloads (taken + n) r new (drop (length (id_line id) - length waiting) piece)
      (ap (λ d. d ++ payloads) (sym h.none)) ok (begins id payloads taken n waiting piece r h p enough)
      (omega (arith, read, ap size_of h.none)) goes.1)

-- a piece that was taken is read
pub takes_piece : (i : IdReading) (id : SshId) (payloads : List (List ℕ)) (taken n : ℕ) (piece : List ℕ) (r new : Receiver) → IsWholeLine id → AreSent payloads → HasReadBy i id payloads taken r → IsPiece (clear_wire id payloads) taken n piece → TakesBy i piece r new → HasReadOf id payloads (taken + n) new
takes_piece (Waiting waiting others) id payloads taken n piece r new whole ok h p t = takes_line id payloads taken n others waiting piece r new whole ok h p t
takes_piece (Heard text) id payloads taken n piece r new whole ok h p t =
    let N : IdReading → Type 0 = λ i. HasReadBy i id payloads (taken + n) new in
    let sized = length_piece (clear_wire id payloads) taken n piece p in
    subst N (sym t.0)
    (reads_packets id payloads r.delivered.items h.later (taken + n) r new piece h.split ok
    (append_assoc r.reader.waiting piece _ ∙ (ap (λ b. r.reader.waiting ++ b) (piece_and_rest (clear_wire id payloads) taken n piece p) ∙ h.stands))
    (omega (arith, h.count, sized, length-append r.reader.waiting piece)) t.1)
takes_piece Failed id payloads taken n piece r new whole ok h p t = absurd h

cannot_line : (id : SshId) (payloads : List (List ℕ)) (taken n : ℕ) (waiting piece : List ℕ) (r : Receiver) → IsWholeLine id → AreSent payloads → WaitsForLine id taken waiting r → IsPiece (clear_wire id payloads) taken n piece → CannotTakeLine (id_of 0 (waiting ++ piece)) waiting piece r → ⊥
cannot_line id payloads taken n waiting piece r whole ok h p t = by_size (nat_lt (taken + n) (length (id_line id))) refl where
  by_size : (b : Bool) → nat_lt (taken + n) (length (id_line id)) ≡ b → ⊥
  by_size true e =
      let less : taken + n < length (id_line id) = grind (arith, nat_tests) in
      let P : IdFound → Type 0 = λ f. CannotTakeLine f waiting piece r in
      subst P (found_not id payloads taken n waiting piece r whole h p less) t
  by_size false e =
      let enough : length (id_line id) ≤ taken + n = grind (arith, nat_tests) in
      let P : IdFound → Type 0 = λ f. CannotTakeLine f waiting piece r in
      reads_all payloads payloads r (drop (length (id_line id) - length waiting) piece) (drop (taken + n) (clear_wire id payloads)) (ap (λ d. d ++ payloads) (sym h.none)) ok h.live
      (begins id payloads taken n waiting piece r h p enough) (subst P (found_line id payloads taken n waiting piece r whole h p enough) t)

-- no piece of what was sent is refused
pub takes_all : (i : IdReading) (id : SshId) (payloads : List (List ℕ)) (taken n : ℕ) (piece : List ℕ) (r : Receiver) → IsWholeLine id → AreSent payloads → HasReadBy i id payloads taken r → IsPiece (clear_wire id payloads) taken n piece → CannotTakeBy i piece r → ⊥
takes_all (Waiting waiting others) id payloads taken n piece r whole ok h p t = cannot_line id payloads taken n waiting piece r whole ok h p t
takes_all (Heard text) id payloads taken n piece r whole ok h p t =
    reads_all payloads h.later r piece (drop (taken + n) (clear_wire id payloads)) h.split ok h.live
    (append_assoc r.reader.waiting piece _ ∙ (ap (λ b. r.reader.waiting ++ b) (piece_and_rest (clear_wire id payloads) taken n piece p) ∙ h.stands)) t
takes_all Failed id payloads taken n piece r whole ok h p t = absurd h
