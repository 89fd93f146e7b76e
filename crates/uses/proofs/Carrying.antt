-- One payload on its way from a writer to a reader that is in step with it.
use Rattle.std.proofs.Common.{◌≡◌, ℕ, ◌+◌, ◌<◌, ◌≤◌, List, [], ◌∷◌, ◌++◌, length, drop, sym, ◌∙◌, ap, subst, refl, arith, Result, Option, Ok, Err, Some, None}
use Rattle.std.proofs.lemmas.List.{append-nil, drop_all}
use Rattle.rand_core.specs.Stream.{Stream}
use Rattle.ssh_packet.specs.Front.{Whole, front_of}
use Rattle.ssh_packet.specs.Laws.{OnePacket, FrontWhole}
use Rattle.ssh_packet.specs.Reading.{Reader, HandsOut, LeavesNext}
use Rattle.ssh_packet.specs.Sealing.{Item, Sealing, IsAdmissible, sealed_packet, item_of, moved_on, next_number}
use Rattle.ssh_packet.specs.Writing.{Writer, Sends}
use Rattle.ssh_packet.specs.declared.error.OpenError.{OpenError}
use Rattle.ssh_packet.specs.declared.error.OpenError.TheVariants as errors
use Rattle.ssh_packet.specs.declared.reader.Incoming.{Incoming}
use Rattle.uses.specs.InStep.{IsInStep}

-- a payload was sent, and its packet is all that waits
pub record IsOnItsWay (w w' : Writer) (r r' : Reader) (k : Sealing) (payload : List ℕ) (stream : Stream) : Type 0 where
  pub some : 0 < length payload
  pub step : IsInStep w r k
  pub sent : Sends w payload stream w'
  pub admissible : 0 < length payload → IsAdmissible w.sealing (item_of w.sealing payload stream)
  pub waiting : r'.waiting ≡ r.waiting ++ w'.output
  pub number : r'.number ≡ r.number
  pub live : r'.failed ≡ r.failed

pub on_its_way : (w w' : Writer) (r r' : Reader) (k : Sealing) (payload piece : List ℕ) (stream : Stream) → 0 < length payload → IsInStep w r k → Sends w payload stream w' → (0 < length payload → IsAdmissible w.sealing (item_of w.sealing payload stream)) → piece ≡ w'.output → r' ≡ record r { waiting = r.waiting ++ piece; handed = []; spent = r'.spent } → IsOnItsWay w w' r r' k payload stream
on_its_way w w' r r' k payload piece stream some step sent admissible out push = record {
  some = some;
  step = step;
  sent = sent;
  admissible = admissible;
  waiting = ap (λ (x : Reader). x.waiting) push ∙ ap (λ bytes. r.waiting ++ bytes) out;
  number = ap (λ (x : Reader). x.number) push;
  live = ap (λ (x : Reader). x.failed) push;
}

-- what the writer put out, and what the reader has
pub waits : (w w' : Writer) (r r' : Reader) (k : Sealing) (payload : List ℕ) (stream : Stream) → IsOnItsWay w w' r r' k payload stream → r'.waiting ≡ sealed_packet w.sealing w.number (item_of w.sealing payload stream)
waits w w' r r' k [] stream way = absurd (omega (arith, way.some))
waits w w' r r' k (b ∷ rest) stream way =
    let it = item_of w.sealing (b ∷ rest) stream in
    let out : w'.output ≡ sealed_packet w.sealing w.number it = ap (λ (x : Writer). x.output) way.sent ∙ ap (λ o. o ++ sealed_packet w.sealing w.number it) way.step.sent in
    way.waiting ∙ (ap (λ o. o ++ w'.output) way.step.waiting ∙ out)

sealing_after : (w w' : Writer) (payload : List ℕ) (stream : Stream) → 0 < length payload → Sends w payload stream w' → (w'.sealing ≡ moved_on w.sealing (item_of w.sealing payload stream)) × (w'.number ≡ next_number w.number)
sealing_after w w' [] stream some sent = absurd (omega (arith, some))
sealing_after w w' (b ∷ rest) stream some sent = (ap (λ (x : Writer). x.sealing) sent, ap (λ (x : Writer). x.number) sent)

pub carried_over : OnePacket → (w w' w'' : Writer) (r r' r'' : Reader) (k k' : Sealing) (payload : List ℕ) (stream : Stream) (n : ℕ) (incoming : Incoming) → IsOnItsWay w w' r r' k payload stream → length w'.output ≤ n → w'' ≡ record w' { output = drop n w'.output; room = w'.room + n } → (item : Item) × HandsOut r' k item incoming r'' k' → (incoming.payload.now ≡ payload) × IsInStep w'' r'' k'
carried_over law w w' w'' r r' r'' k k' payload stream n incoming way all consumed (item, hands) =
    let it = item_of w.sealing payload stream in
    let number : r'.number ≡ w.number = way.number ∙ sym way.step.number in
    let bytes : r'.waiting ≡ sealed_packet w.sealing w.number item ++ r''.waiting = hands.bytes ∙ (ap (λ s. sealed_packet s r'.number item ++ r''.waiting) (sym way.step.key) ∙ ap (λ n. sealed_packet w.sealing n item ++ r''.waiting) number) in
    let admissible : IsAdmissible w.sealing item = subst (λ s. IsAdmissible s item) (sym way.step.key) hands.admissible in
    let same = law w.sealing w.number item it r''.waiting [] admissible (way.admissible way.some) (sym bytes ∙ (waits w w' r r' k payload stream way ∙ sym (append-nil (sealed_packet w.sealing w.number it)))) in
    let after = sealing_after w w' payload stream way.some way.sent in (
      hands.payload ∙ ap (λ (i : Item). i.payload) same.0,
      record {
        key = ap (λ (x : Writer). x.sealing) consumed ∙ (after.0 ∙ (ap (moved_on w.sealing) (sym same.0) ∙ (ap (λ s. moved_on s item) way.step.key ∙ sym hands.moved)));
        number = ap (λ (x : Writer). x.number) consumed ∙ (after.1 ∙ (ap next_number (sym number) ∙ sym hands.number));
        sent = ap (λ (x : Writer). x.output) consumed ∙ drop_all n w'.output all;
        waiting = same.1;
        live = hands.failed;
      },
    )

-- what `next` leaves where it lends a packet
pub hands_out : (r : Reader) (k k' : Sealing) (result : Result (Option Incoming) OpenError) (r'' : Reader) (incoming : Incoming) → result ≡ Ok (Some incoming) → LeavesNext r k k' result r'' → (item : Item) × HandsOut r k item incoming r'' k'
hands_out r k k' result r'' incoming e leaves = subst (λ x. LeavesNext r k k' x r'') e leaves

stands : FrontWhole → (w w' : Writer) (r r' : Reader) (k : Sealing) (payload : List ℕ) (stream : Stream) → IsOnItsWay w w' r r' k payload stream → front_of k r'.number r'.waiting ≡ Whole (item_of w.sealing payload stream) []
stands law w w' r r' k payload stream way =
    let it = item_of w.sealing payload stream in
    ap (front_of k r'.number) (waits w w' r r' k payload stream way)
    ∙ (ap (λ n. front_of k n (sealed_packet w.sealing w.number it)) (way.number ∙ sym way.step.number)
    ∙ (ap (λ s. front_of s w.number (sealed_packet w.sealing w.number it)) (sym way.step.key)
    ∙ (ap (front_of w.sealing w.number) (sym (append-nil (sealed_packet w.sealing w.number it))) ∙ law w.sealing w.number it [] (way.admissible way.some))))

-- a packet that waits whole is handed out
pub nothing_else : FrontWhole → (w w' : Writer) (r r' r'' : Reader) (k k' : Sealing) (payload : List ℕ) (stream : Stream) → IsOnItsWay w w' r r' k payload stream → (result : Result (Option Incoming) OpenError) → LeavesNext r' k k' result r'' → (incoming : Incoming) × (result ≡ Ok (Some incoming))
nothing_else law w w' r r' r'' k k' payload stream way (Ok (Some incoming)) leaves = (incoming, refl)
nothing_else law w w' r r' r'' k k' payload stream way (Ok None) leaves =
    let there = stands law w w' r r' k payload stream way in
    let unfinished = leaves.1 in
    absurd (let bad : ⊥ = cc in bad)
nothing_else law w w' r r' r'' k k' payload stream way (Err (errors.PacketSize n)) leaves =
    let there = stands law w w' r r' k payload stream way in
    let refused = leaves.0.1 in
    absurd (let bad : ⊥ = cc in bad)
nothing_else law w w' r r' r'' k k' payload stream way (Err errors.IndexOutOfBounds) leaves =
    let there = stands law w w' r r' k payload stream way in
    let refused = leaves.0.1 in
    absurd (let bad : ⊥ = cc in bad)
nothing_else law w w' r r' r'' k k' payload stream way (Err errors.PacketAuth) leaves =
    let there = stands law w w' r r' k payload stream way in
    let refused = leaves.0.1 in
    absurd (let bad : ⊥ = cc in bad)
nothing_else law w w' r r' r'' k k' payload stream way (Err errors.DecryptionError) leaves =
    let there = stands law w w' r r' k payload stream way in
    let refused = leaves.0.1 in
    absurd (let bad : ⊥ = cc in bad)
nothing_else law w w' r r' r'' k k' payload stream way (Err errors.Disconnect) leaves =
    let failed = leaves.0 in
    let live = way.live ∙ way.step.live in
    absurd (let bad : ⊥ = cc in bad)
