-- What a step of a machine draws for what it sends.
use Rattle.std.proofs.Common.{◌≡◌, ◌∙◌, ℕ, false, List, [], ◌∷◌, refl, ap, subst, Result, Ok, Err}
use Rattle.std.specs.Prelude.{OnOk}
use Rattle.rand_core.specs.Stream.{Stream}
use Rattle.ssh_packet.specs.Sealing.{Sealing, stream_after}
use Rattle.ssh_packet.specs.Writing.{SameButRoom, Sends, Writer, writer_after}
use Rattle.ssh_wire.specs.declared.error.Error.{Error}
use Rattle.ssh_kex.specs.Drawing.{SendsAll, StepDraws, is_kexinit}

-- one packet
pub sends_one : (r : Result (Unit {0}) Error) (old new : Writer) (payload : List ℕ) (before left : Stream) → OnOk r (Sends old payload before new) → OnOk r (left ≡ stream_after old.sealing payload before) → OnOk r (is_kexinit payload ≡ false → SendsAll old (payload ∷ []) before new left)
sends_one (Ok u) old new payload before left h s = λ k. (k, new, h, (refl, s))
sends_one (Err e) old new payload before left h s = tt

-- the room before it doesn't matter
roomless : (w : Writer) (r q : ℕ) (payload : List ℕ) (stream : Stream) → record (writer_after (record w { room = r }) payload stream) { room = q } ≡ record (writer_after w payload stream) { room = q }
roomless w r q [] stream = refl
roomless w r q (b ∷ rest) stream = refl

-- two packets, where room was made before
pub sends_both : (r : Result (Unit {0}) Error) (old from mid new : Writer) (p q : List ℕ) (before between left : Stream) → SameButRoom old from → (is_kexinit p ≡ false → SendsAll from (p ∷ []) before mid between) → OnOk r (is_kexinit q ≡ false → SendsAll mid (q ∷ []) between new left)
    → OnOk r (is_kexinit p ≡ false → is_kexinit q ≡ false → SendsAll old (p ∷ q ∷ []) before new left)
sends_both (Ok u) old from mid new p q before between left e f g = λ k l.
    let a = f k in
    let sealing : from.sealing ≡ old.sealing = ap (λ (w : Writer). w.sealing) e in
    let sent : mid ≡ record (writer_after old p before) { room = mid.room } =
    a.3.0 ∙ ap (λ (w : Writer). record w { room = mid.room }) a.2 ∙ ap (λ (w : Writer). record (writer_after w p before) { room = mid.room }) e ∙ roomless old from.room mid.room p before in
    let left_is : between ≡ stream_after old.sealing p before = a.3.1 ∙ ap (λ (s : Sealing). stream_after s p before) sealing in
    (k, mid, sent, subst (λ (s : Stream). SendsAll mid (q ∷ []) s new left) left_is (g l))
sends_both (Err x) old from mid new p q before between left e f g = tt

-- what was sent behind what was drawn
pub draws_sent : {T : Type 0} (r : Result T Error) (Values : Stream → Type 0) (behind : Stream) (written : List (List ℕ)) (old new : Writer) (left : Stream) → Values behind → OnOk r (SendsAll old written behind new left) → OnOk r (StepDraws Values old new left)
draws_sent (Ok x) Values behind written old new left v h = record { behind = behind; values = v; written = written; sends = h }
draws_sent (Err e) Values behind written old new left v h = tt

-- where nothing is sent
pub draws_none : (Values : Stream → Type 0) (behind : Stream) (old new : Writer) (left : Stream) → Values behind → SameButRoom old new → left ≡ behind → StepDraws Values old new left
draws_none Values behind old new left v e s = record { behind = behind; values = v; written = []; sends = (e, s) }
