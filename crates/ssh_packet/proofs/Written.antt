-- How a call comes out whose closure makes a payload.
use Rattle.std.proofs.Common.{◌≡◌, ℕ, ◌+◌, ◌-◌, ◌<◌, ◌≤◌, List, [], ◌∷◌, ◌++◌, length, take, drop, Result, Ok, Err, IsOk, ◌⊎◌, inl, inr, refl, sym, ◌∙◌, ap, subst, arith, length-append}
use Rattle.std.proofs.lemmas.Grind.{common_steps}
use Rattle.rand_core.specs.Stream.{Stream}
use Rattle.ssh_wire.specs.declared.error.Error.{Error}
use Rattle.ssh_wire.specs.declared.error.Error.TheVariants.{PacketSize, Memory}
use Rattle.ssh_packet.specs.Sealing.{longest_payload, tag_size}
use Rattle.ssh_packet.specs.Writing.{Writer, ClosureCall, AppendsPayload, SameButRoom, Seals, SealsInPlace, SealsWith, head_room}

-- what is said of a call by the room that there was is said of it whatever room there was
seals_room : {T : Type 0} (old : Writer) (room : ℕ) (payload : List ℕ) (before after : Stream) (result : Result T Error) (new : Writer) → Seals (record old { room = room }) payload before after result new → Seals old payload before after result new
seals_room old room [] before after result new h = record { sent = h.sent; stream = h.stream; admissible = h.admissible; padded = h.padded; unchanged = h.unchanged; causes = h.causes; too_long = h.too_long; undrawn = h.undrawn }
seals_room old room (b ∷ rest) before after result new h = record { sent = h.sent; stream = h.stream; admissible = h.admissible; padded = h.padded; unchanged = h.unchanged; causes = h.causes; too_long = h.too_long; undrawn = h.undrawn }

front : (old head payload : List ℕ) → take (length old) ((old ++ head) ++ payload) ≡ old
front old head payload = grind (arith, common_steps)

behind : (old head payload : List ℕ) → length head ≡ 5 → drop (length old + 5) ((old ++ head) ++ payload) ≡ payload
behind old head payload five = grind (arith, common_steps)

pub size_behind : (old out payload : List ℕ) → out ≡ (old ++ 0 ∷ 0 ∷ 0 ∷ 0 ∷ 0 ∷ []) ++ payload → length out ≡ length old + 5 + length payload
size_behind old out payload made = omega (arith, ap length made, length-append (old ++ 0 ∷ 0 ∷ 0 ∷ 0 ∷ 0 ∷ []) payload, length-append old (0 ∷ 0 ∷ 0 ∷ 0 ∷ 0 ∷ []))

pub kept_before : (old out payload : List ℕ) (start : ℕ) → out ≡ (old ++ 0 ∷ 0 ∷ 0 ∷ 0 ∷ 0 ∷ []) ++ payload → start ≡ length old → take start out ≡ old
kept_before old out payload start made there = ap (take start) made ∙ (ap (λ n. take n ((old ++ 0 ∷ 0 ∷ 0 ∷ 0 ∷ 0 ∷ []) ++ payload)) there ∙ front old (0 ∷ 0 ∷ 0 ∷ 0 ∷ 0 ∷ []) payload)

-- the payload behind the output and five bytes of room is sealed
pub seals_behind : {T : Type 0} (old : Writer) (room start : ℕ) (output payload : List ℕ) (before after : Stream) (result : Result T Error) (new : Writer) → output ≡ (old.output ++ 0 ∷ 0 ∷ 0 ∷ 0 ∷ 0 ∷ []) ++ payload → start ≡ length old.output
    → Seals (record old { output = take start output; room = room }) (drop (start + 5) output) before after result new → Seals old payload before after result new
seals_behind old room start output payload before after result new made there h =
    let head = ap (take start) made ∙ (ap (λ n. take n ((old.output ++ 0 ∷ 0 ∷ 0 ∷ 0 ∷ 0 ∷ []) ++ payload)) there ∙ front old.output (0 ∷ 0 ∷ 0 ∷ 0 ∷ 0 ∷ []) payload) in
    let tail = ap (drop (start + 5)) made ∙ (ap (λ n. drop (n + 5) ((old.output ++ 0 ∷ 0 ∷ 0 ∷ 0 ∷ 0 ∷ []) ++ payload)) there ∙ behind old.output (0 ∷ 0 ∷ 0 ∷ 0 ∷ 0 ∷ []) payload refl) in
    seals_room old room payload before after result new
    (subst (λ p. Seals (record old { room = room }) p before after result new) tail (subst (λ o. Seals (record old { output = o; room = room }) (drop (start + 5) output) before after result new) head h))

-- so much capacity leaves so much room
pub few_before : {A B : Type 0} (capacity size : ℕ) → (A × (capacity < size + 5)) ⊎ B → (A × (capacity - size < 5)) ⊎ B
few_before capacity size (inl (e, h)) = inl (e, omega (arith, h))
few_before capacity size (inr left) = inr left

-- a closure's own error, where it ran on an empty vector
pub refused_so : {T : Type 0} (Leaves : Result (Unit {0}) Error → List ℕ → Type 0) (answer_of : List ℕ → T) (old : Writer) (stream : Stream) (error : Error) (payload : List ℕ) (result : Result T Error) (new : Writer) → result ≡ Err error → Leaves (Err error) payload → SameButRoom old new → SealsWith Leaves answer_of old stream stream result new
refused_so Leaves answer_of old stream error payload result new is left same =
    subst (λ r. SealsWith Leaves answer_of old stream stream r new) (sym is) (Err error, payload, left, record { answer = refl; unchanged = same; undrawn = refl }, tt)

-- ---- a closure that ran on the output

module _ (runs : ClosureCall) (old : Writer) where
  pub refused_in_place : (stream : Stream) (error : Error) (result : Result (Unit {0}) Error) (new : Writer) → result ≡ Err error → ((error ≡ Memory) × (old.room < 5)) ⊎ ((payload : List ℕ) × (room : ℕ) × AppendsPayload runs (old.output ++ head_room) (Err error) payload room) → SameButRoom old new → SealsInPlace runs old stream stream result new
  refused_in_place stream error result new is (inl (memory, few)) same = inl (few, record { answer = is ∙ ap Err memory; unchanged = same; undrawn = refl })
  refused_in_place stream error result new is (inr left) same =
      inr (Err error, left.0, left.1, left.2, record { answer = is; unchanged = same; undrawn = refl }, tt)

  pub sent_nothing : (stream : Stream) (payload : List ℕ) (room : ℕ) (new : Writer) → AppendsPayload runs (old.output ++ head_room) (Ok tt) payload room → length payload ≡ 0 → SameButRoom old new → SealsInPlace runs old stream stream (Ok tt) new
  sent_nothing stream [] room new left none same =
      inr (Ok tt, [], room, left, record { sent = same; stream = refl; admissible = λ some. absurd (omega arith); padded = λ some. absurd (omega arith); unchanged = tt; causes = tt; too_long = λ long. absurd (omega arith); undrawn = λ long. refl }, λ short fits. refl)
  sent_nothing stream (b ∷ rest) room new left none same = absurd (omega arith)

  pub refused_too_long : (stream : Stream) (payload : List ℕ) (room n : ℕ) (new : Writer) → AppendsPayload runs (old.output ++ head_room) (Ok tt) payload room → n ≡ length payload → longest_payload < n → SameButRoom old new → SealsInPlace runs old stream stream (Err (PacketSize n)) new
  refused_too_long stream payload room n new left size long same =
      inr (Ok tt, payload, room, left, record { sent = tt; stream = tt; admissible = tt; padded = tt; unchanged = same; causes = inl (omega (arith, size, long), ap PacketSize size); too_long = λ over. ap (λ m. Err (PacketSize m)) size; undrawn = λ over. refl }, λ short fits. absurd (omega (arith, size, long, short)))

  -- a payload that was left was sealed
  pub sealed_so : (payload : List ℕ) (room : ℕ) (before after : Stream) (result : Result (Unit {0}) Error) (new : Writer) → AppendsPayload runs (old.output ++ head_room) (Ok tt) payload room → Seals old payload before after result new → (19 + tag_size old.sealing ≤ room → IsOk result) → SealsInPlace runs old before after result new
  sealed_so payload room before after result new left h ready = inr (Ok tt, payload, room, left, h, λ short fits. ready fits)
