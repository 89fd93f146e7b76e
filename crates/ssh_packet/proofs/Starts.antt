-- Output that begins after what was taken from the front of a vector.
use Rattle.std.proofs.Common.{◌≡◌, ℕ, ◌+◌, ◌-◌, ◌<◌, ◌≤◌, List, [], ◌∷◌, ◌++◌, length, take, drop, Result, Ok, Err, ◌⊎◌, inl, refl, sym, ◌∙◌, ap, subst, arith, length-drop, inr}
use Rattle.std.proofs.lemmas.List.{drop-append-le, drop-drop, drop-take, length-take-le}
use Rattle.rand_core.specs.Stream.{Stream}
use Rattle.ssh_wire.specs.declared.error.Error.{Error}
use Rattle.ssh_wire.specs.declared.error.Error.TheVariants.{Memory}
use Rattle.ssh_packet.specs.Sealing.{Sealing, IsAdmissible, IsPadded, item_of, longest_payload, moved_on, next_number, padding_of_payload, sealed_packet}
use Rattle.ssh_packet.specs.Writing.{Writer, AppendsPayload, ClosureCall, Seals, count_after, head_room}

-- what stands n bytes behind the start
pub drop_from : (s n : ℕ) (out output : List ℕ) → drop s out ≡ output → drop (s + n) out ≡ drop n output
drop_from s n out output left = sym (drop-drop n s out) ∙ ap (drop n) left

-- the first n bytes from the start on
pub take_from : (s n : ℕ) (out output : List ℕ) → drop s out ≡ output → drop s (take (s + n) out) ≡ take n output
take_from s n out output left = drop-take s n out ∙ ap (take n) left

-- the same, and what was appended to them
pub take_from_append : (s n : ℕ) (out output packet : List ℕ) → drop s out ≡ output → s + n ≤ length out → drop s (take (s + n) out ++ packet) ≡ take n output ++ packet
take_from_append s n out output packet left long =
    drop-append-le s (take (s + n) out) packet (omega (arith, length-take-le (s + n) out long)) ∙ ap (λ l. l ++ packet) (take_from s n out output left)

-- a payload of some bytes was sealed
seals_some : (old new : Writer) (payload : List ℕ) (before after : Stream) → 0 < length payload → length payload ≤ longest_payload
    → new ≡ record old {
      output = old.output ++ sealed_packet old.sealing old.number (item_of old.sealing payload before);
      count = count_after old.count (length payload);
      number = next_number old.number;
      sealing = moved_on old.sealing (item_of old.sealing payload before);
      room = new.room;
    }
    → after ≡ (padding_of_payload old.sealing (length payload) before).1
    → IsAdmissible old.sealing (item_of old.sealing payload before) → IsPadded old.sealing (item_of old.sealing payload before)
    → Seals {T = Unit {0}} old payload before after (Ok tt) new
seals_some old new [] before after some short is stream admissible padded = absurd (omega arith)
seals_some old new (b ∷ rest) before after some short is stream admissible padded = record {
  sent = is;
  stream = stream ∙ ap (λ n. (padding_of_payload old.sealing n before).1) (omega arith);
  admissible = λ _. admissible;
  padded = λ _. padded;
  unchanged = tt;
  causes = tt;
  too_long = λ long. absurd (omega (arith, short, long));
  undrawn = λ long. absurd (omega (arith, short, long));
}

-- The payload n bytes behind the start, and behind five bytes of room, was sealed; a and b are its length.
pub seals_from : (old new : Writer) (s n a b count : ℕ) (sealing : Sealing) (out out' : List ℕ) (before after : Stream) → drop s out ≡ old.output
    → n + 5 < length old.output → length old.output ≤ n + 5 + longest_payload → a ≡ length old.output - (n + 5) → b ≡ length old.output - (n + 5)
    → new ≡ record old { output = drop s out'; count = count; number = next_number old.number; sealing = sealing; room = new.room }
    → out' ≡ take (s + n) out ++ sealed_packet old.sealing old.number (item_of old.sealing (drop (s + n + 5) out) before)
    → count ≡ count_after old.count a
    → sealing ≡ moved_on old.sealing (item_of old.sealing (drop (s + n + 5) out) before)
    → after ≡ (padding_of_payload old.sealing b before).1
    → IsAdmissible old.sealing (item_of old.sealing (drop (s + n + 5) out) before) → IsPadded old.sealing (item_of old.sealing (drop (s + n + 5) out) before)
    → Seals {T = Unit {0}} (record old { output = take n old.output }) (drop (n + 5) old.output) before after (Ok tt) new
seals_from old new s n a b count sealing out out' before after left some short a_is b_is is made counted moved stream admissible padded =
    let long : s + (n + 5) < length out = omega (arith, length-drop s out, ap length left, some) in
    let e : drop (s + n + 5) out ≡ drop (n + 5) old.output = ap (λ k. drop k out) (omega arith) ∙ drop_from s (n + 5) out old.output left in
    let size : length (drop (n + 5) old.output) ≡ length old.output - (n + 5) = length-drop (n + 5) old.output in
    let output : drop s out' ≡ take n old.output ++ sealed_packet old.sealing old.number (item_of old.sealing (drop (n + 5) old.output) before) =
    ap (drop s) made ∙ (take_from_append s n out old.output (sealed_packet old.sealing old.number (item_of old.sealing (drop (s + n + 5) out) before)) left (omega (arith, long))
    ∙ ap (λ p. take n old.output ++ sealed_packet old.sealing old.number (item_of old.sealing p before)) e) in
    let counts : count ≡ count_after old.count (length (drop (n + 5) old.output)) = counted ∙ ap (count_after old.count) (a_is ∙ sym size) in
    let moves : sealing ≡ moved_on old.sealing (item_of old.sealing (drop (n + 5) old.output) before) = moved ∙ ap (λ p. moved_on old.sealing (item_of old.sealing p before)) e in
    seals_some (record old { output = take n old.output }) new (drop (n + 5) old.output) before after
    (omega (arith, size, some)) (omega (arith, size, short))
    (is ∙ (ap (λ o. record old { output = o; count = count; number = next_number old.number; sealing = sealing; room = new.room }) output
    ∙ (ap (λ k. record old { output = take n old.output ++ sealed_packet old.sealing old.number (item_of old.sealing (drop (n + 5) old.output) before); count = k; number = next_number old.number; sealing = sealing; room = new.room }) counts
    ∙ ap (λ k. record old { output = take n old.output ++ sealed_packet old.sealing old.number (item_of old.sealing (drop (n + 5) old.output) before); count = count_after old.count (length (drop (n + 5) old.output)); number = next_number old.number; sealing = k; room = new.room }) moves)))
    (stream ∙ ap (λ k. (padding_of_payload old.sealing k before).1) (b_is ∙ sym size))
    (subst (λ p. IsAdmissible old.sealing (item_of old.sealing p before)) e admissible)
    (subst (λ p. IsPadded old.sealing (item_of old.sealing p before)) e padded)

-- There was no memory to seal it, and nothing was written from there on.
pub seals_nothing : (old new : Writer) (s n : ℕ) (out out' payload : List ℕ) (stream : Stream) → length payload ≤ longest_payload → drop s out ≡ old.output
    → out' ≡ take (s + n) out → new ≡ record old { output = drop s out'; room = new.room }
    → Seals {T = Unit {0}} (record old { output = take n old.output }) payload stream stream (Err Memory) new
seals_nothing old new s n out out' payload stream short left made is = record {
  sent = tt;
  stream = tt;
  admissible = tt;
  padded = tt;
  unchanged = is ∙ ap (λ o. record old { output = o; room = new.room }) (ap (drop s) made ∙ take_from s n out old.output left);
  causes = inr refl;
  too_long = λ long. absurd (omega (arith, short, long));
  undrawn = λ long. refl;
}

-- ---- output that was moved to the front

pub same_output : (len count number room s : ℕ) (sealing : Sealing) (output out : List ℕ) → s ≡ 0 → out ≡ output
    → (let moved : Writer = record { output = drop s out; len = len; count = count; number = number; sealing = sealing; room = room } in moved ≡ record { output = output; len = len; count = count; number = number; sealing = sealing; room = room })
same_output len count number room s sealing output out at_front e =
    ap (λ o. record { output = o; len = len; count = count; number = number; sealing = sealing; room = room }) (ap (λ k. drop k out) at_front ∙ e)

module _ (runs : ClosureCall) (bytes output : List ℕ) (e : bytes ≡ output) where
  pub appends_from : (answer : Result (Unit {0}) Error) (payload : List ℕ) (room : ℕ) → AppendsPayload runs (bytes ++ head_room) answer payload room → AppendsPayload runs (output ++ head_room) answer payload room
  appends_from answer payload room h = subst (λ o. AppendsPayload runs (o ++ head_room) answer payload room) e h

  pub refused_from : (error : Error) (capacity size room : ℕ) → room ≡ capacity - size
      → ((error ≡ Memory) × (capacity < size + 5)) ⊎ ((payload : List ℕ) × (r : ℕ) × AppendsPayload runs (bytes ++ head_room) (Err error) payload r)
      → ((error ≡ Memory) × (room < 5)) ⊎ ((payload : List ℕ) × (r : ℕ) × AppendsPayload runs (output ++ head_room) (Err error) payload r)
  refused_from error capacity size room there (inl (memory, few)) = inl (memory, omega (arith, there, few))
  refused_from error capacity size room there (inr left) = inr (left.0, left.1, appends_from (Err error) left.0 left.1 left.2)

pub made_from : (bytes output out head payload : List ℕ) (s : ℕ) → bytes ≡ output → s ≡ 0 → out ≡ (bytes ++ head) ++ payload → drop s out ≡ (output ++ head) ++ payload
made_from bytes output out head payload s e at_front made = ap (λ k. drop k out) at_front ∙ (made ∙ ap (λ o. (o ++ head) ++ payload) e)
