-- A side that took some of what the other sent: when more is sent, and at the end.
use Rattle.std.proofs.Common.{◌≡◌, ℕ, ◌+◌, ◌-◌, ◌≤◌, List, [], ◌∷◌, ◌++◌, length, drop, refl, sym, ◌∙◌, ap, arith, true, false, nat_le, append_assoc, append-nil, if◌then◌else◌}
use Rattle.std.proofs.lemmas.Bool.Decides.{nat_tests}
use Rattle.std.proofs.lemmas.List.{drop-append-le}
use Rattle.ssh_wire.specs.Lines.{id_line}
use Rattle.ssh_wire.specs.Reading.{IdReading, Waiting, Heard, Failed}
use Rattle.ssh_wire.specs.declared.ssh_id.SshId.{SshId}
use Rattle.ssh_packet.specs.Sealing.{Clear, sealed_packet, next_number, IsAdmissible}
use Rattle.ssh_run.specs.ClearRun.{clear_item, packet_size, clear_wire, whole_in}
use Rattle.ssh_run.specs.declared.receiver.Receiver.{Receiver}
use Rattle.ssh_run.proofs.Sent.{sent_from, AreSent, size_of, IsLessThanNext}
use Rattle.ssh_run.proofs.Carried.{HasReadBy}

-- the number of the packet behind some
abbrev pub number_behind : ℕ → List (List ℕ) → ℕ
number_behind number [] = number
number_behind number (payload ∷ payloads) = number_behind (next_number number) payloads

pub sent_from-push : (number : ℕ) (payloads : List (List ℕ)) (payload : List ℕ) → sent_from number (payloads ++ payload ∷ []) ≡ sent_from number payloads ++ sealed_packet Clear (number_behind number payloads) (clear_item payload)
sent_from-push number [] payload = append-nil (sealed_packet Clear number (clear_item payload))
sent_from-push number (p ∷ payloads) payload =
    ap (λ t. sealed_packet Clear number (clear_item p) ++ t) (sent_from-push (next_number number) payloads payload)
    ∙ sym (append_assoc (sealed_packet Clear number (clear_item p)) (sent_from (next_number number) payloads) _)

pub number_behind-push : (number : ℕ) (payloads : List (List ℕ)) (payload : List ℕ) → number_behind number (payloads ++ payload ∷ []) ≡ next_number (number_behind number payloads)
number_behind-push number [] payload = refl
number_behind-push number (p ∷ payloads) payload = number_behind-push (next_number number) payloads payload

pub are_sent_push : (payloads : List (List ℕ)) (payload : List ℕ) → AreSent payloads → IsAdmissible Clear (clear_item payload) → AreSent (payloads ++ payload ∷ [])
are_sent_push [] payload h k = (k, tt)
are_sent_push (p ∷ payloads) payload h k = (h.0, are_sent_push payloads payload h.1 k)

pub clear_wire-push : (id : SshId) (payloads : List (List ℕ)) (payload : List ℕ) → clear_wire id (payloads ++ payload ∷ []) ≡ clear_wire id payloads ++ sealed_packet Clear (number_behind 0 payloads) (clear_item payload)
clear_wire-push id payloads payload = ap (λ t. id_line id ++ t) (sent_from-push 0 payloads payload) ∙ sym (append_assoc (id_line id) (sent_from 0 payloads) _)

short_push : (bytes : List ℕ) (later : List (List ℕ)) (payload : List ℕ) → IsLessThanNext bytes later → IsLessThanNext bytes (later ++ payload ∷ [])
short_push bytes [] payload h = omega (arith, ap length h)
short_push bytes (p ∷ later) payload h = h

-- more is sent
pub reads_push : (i : IdReading) (id : SshId) (payloads : List (List ℕ)) (payload : List ℕ) (taken : ℕ) (r : Receiver) → taken ≤ length (clear_wire id payloads) → HasReadBy i id payloads taken r → HasReadBy i id (payloads ++ payload ∷ []) taken r
reads_push (Waiting waiting others) id payloads payload taken r within h = h
reads_push (Heard text) id payloads payload taken r within h = record {
  later = h.later ++ payload ∷ [];
  split = ap (λ l. l ++ payload ∷ []) h.split ∙ append_assoc r.delivered.items h.later (payload ∷ []);
  stands =
      ap (λ w. r.reader.waiting ++ drop taken w) (clear_wire-push id payloads payload)
      ∙ (ap (λ d. r.reader.waiting ++ d) (drop-append-le taken (clear_wire id payloads) _ within)
      ∙ (sym (append_assoc r.reader.waiting (drop taken (clear_wire id payloads)) _)
      ∙ (ap (λ t. t ++ sealed_packet Clear (number_behind 0 payloads) (clear_item payload)) h.stands
      ∙ sym (sent_from-push r.reader.number h.later payload))));
  short = short_push r.reader.waiting h.later payload h.short;
  count = h.count;
  live = h.live;
}
reads_push Failed id payloads payload taken r within h = h

none_whole : (n : ℕ) (bytes : List ℕ) (later : List (List ℕ)) → IsLessThanNext bytes later → n ≡ length bytes → whole_in n later ≡ []
none_whole n bytes [] h e = refl
none_whole n bytes (p ∷ later) h e =
    let below : nat_le (packet_size p) n ≡ false = grind (arith, nat_tests) in
    ap (λ t. if t then p ∷ whole_in (n - packet_size p) later else []) below

whole_front : (delivered later : List (List ℕ)) (x : ℕ) (bytes : List ℕ) → IsLessThanNext bytes later → x ≡ length bytes → whole_in (size_of delivered + x) (delivered ++ later) ≡ delivered
whole_front [] later x bytes h e = ap (λ n. whole_in n later) (omega arith) ∙ none_whole x bytes later h e
whole_front (p ∷ delivered) later x bytes h e =
    let enough : nat_le (packet_size p) (packet_size p + size_of delivered + x) ≡ true = grind (arith, nat_tests) in
    let left : packet_size p + size_of delivered + x - packet_size p ≡ size_of delivered + x = omega arith in
    ap (λ t. if t then p ∷ whole_in (packet_size p + size_of delivered + x - packet_size p) (delivered ++ later) else []) enough
    ∙ ap (λ l. p ∷ l) (ap (λ n. whole_in n (delivered ++ later)) left ∙ whole_front delivered later x bytes h e)

nothing_whole : (payloads : List (List ℕ)) → whole_in 0 payloads ≡ []
nothing_whole [] = refl
nothing_whole (p ∷ payloads) =
    let below : nat_le (packet_size p) 0 ≡ false = grind (arith, nat_tests) in
    ap (λ t. if t then p ∷ whole_in (0 - packet_size p) payloads else []) below

-- what was delivered are the payloads that lie whole in the bytes taken
pub reads_whole : (i : IdReading) (id : SshId) (payloads : List (List ℕ)) (taken : ℕ) (r : Receiver) → HasReadBy i id payloads taken r → r.delivered.items ≡ whole_in (taken - length (id_line id)) payloads
reads_whole (Waiting waiting others) id payloads taken r h =
    let none : taken - length (id_line id) ≡ 0 = omega (arith, h.short) in
    h.none ∙ sym (ap (λ n. whole_in n payloads) none ∙ nothing_whole payloads)
reads_whole (Heard text) id payloads taken r h =
    let behind : taken - length (id_line id) ≡ size_of r.delivered.items + length r.reader.waiting = omega (arith, h.count) in
    sym (ap (λ n. whole_in n payloads) behind ∙ (ap (whole_in (size_of r.delivered.items + length r.reader.waiting)) h.split ∙ whole_front r.delivered.items h.later (length r.reader.waiting) r.reader.waiting h.short refl))
reads_whole Failed id payloads taken r h = absurd h
