-- Room for two packets, made before the first is written.
use Rattle.std.proofs.Common.{◌≡◌, ℕ, ◌+◌, ◌<◌, ◌≤◌, Bool, true, false, List, [], ◌∷◌, ◌++◌, length, take, drop, refl, ◌∙◌, ap, arith, length-append, length-drop, Result, Ok, Err}
use Rattle.std.specs.Prelude.{IsOk, OnErr}
use Rattle.ssh_aes.specs.Gcm.{gcm_text, gcm_tag}
use Rattle.ssh_aes.specs.Modes.{Running, masked_text}
use Rattle.ssh_aes.proofs.Lemmas.{gcm_well, runs_well}
use Rattle.ssh_mac.proofs.Lemmas.{tags_have_length}
use Rattle.ssh_mac.specs.Tags.{MacOf, is_encrypt_then_mac, tag_length, tag_of}
use Rattle.ssh_packet.proofs.Lemmas.{length_framed, padding_fills, length_take4}
use Rattle.ssh_packet.specs.Sealing.{Item, Sealing, Clear, Block, Gcm, framed_text, item_of, moved_on, packet_length, padding_length, sealed_packet, tag_size, text_with_tag}
use Rattle.ssh_packet.specs.Writing.{Writer, room_for}
use Rattle.ssh_wire.specs.declared.error.Error.{Error}
use Rattle.ssh_kex.specs.Stepping.{Puts}

-- ---- how long a packet is

size_enclosed : (etm : Bool) (r : Running) (mac : MacOf) (number : ℕ) (t : List ℕ) → 4 ≤ length t → length (text_with_tag etm (masked_text r) (tag_of mac number) t) ≡ length t + tag_length mac
size_enclosed true r mac number t h =
    let body = (runs_well r).same_length (drop 4 t) in
    let all = length-append (take 4 t) (masked_text r (drop 4 t) ++ tag_of mac number (take 4 t ++ masked_text r (drop 4 t))) in
    let behind = length-append (masked_text r (drop 4 t)) (tag_of mac number (take 4 t ++ masked_text r (drop 4 t))) in
    let tag = tags_have_length mac number (take 4 t ++ masked_text r (drop 4 t)) in
    omega (arith, length_take4 t h, length-drop 4 t, body, all, behind, tag)
size_enclosed false r mac number t h =
    omega (arith, (runs_well r).same_length t, length-append (masked_text r t) (tag_of mac number t), tags_have_length mac number t)

size_sealed : (s : Sealing) (number : ℕ) (a : Item) → length (sealed_packet s number a) ≡ 4 + packet_length a + tag_size s
size_sealed Clear number a = omega (arith, length_framed a)
size_sealed (Block r mac) number a = omega (arith, length_framed a, size_enclosed (is_encrypt_then_mac mac) r mac number (framed_text a) (omega (arith, length_framed a)))
size_sealed (Gcm key nonce) number a =
    let t = framed_text a in
    let four : 4 ≤ length t = omega (arith, length_framed a) in
    let w = gcm_well key nonce in
    let body = w.same_length (take 4 t) (drop 4 t) in
    let tag = w.tag (take 4 t) (drop 4 t) in
    let all = length-append (take 4 t) (gcm_text key nonce (take 4 t) (drop 4 t) ++ gcm_tag key nonce (take 4 t) (drop 4 t)) in
    let behind = length-append (gcm_text key nonce (take 4 t) (drop 4 t)) (gcm_tag key nonce (take 4 t) (drop 4 t)) in
    omega (arith, length_framed a, length_take4 t four, length-drop 4 t, body, tag, all, behind)

-- a key's tag is as long behind a packet as before it
tag_kept : (s : Sealing) (a : Item) → tag_size (moved_on s a) ≡ tag_size s
tag_kept Clear a = refl
tag_kept (Block r mac) a = refl
tag_kept (Gcm key nonce) a = refl

-- ---- room

-- what is left behind the first of two packets takes the second
pub fits_second : (old new : Writer) (first : List ℕ) (n : ℕ) → 0 < length first → Puts old first new
    → old.room + length old.output ≤ new.room + length new.output → room_for old.sealing (length first + n) 2 ≤ old.room
    → room_for new.sealing n 1 ≤ new.room
fits_second old new [] n some h spare room = absurd (omega (arith, some))
fits_second old new (b ∷ rest) n some h spare room =
    let item : Item = item_of old.sealing (b ∷ rest) h.stream in
    let output : new.output ≡ old.output ++ sealed_packet old.sealing old.number item = ap (λ (w : Writer). w.output) h.sends in
    let sealing : new.sealing ≡ moved_on old.sealing item = ap (λ (w : Writer). w.sealing) h.sends in
    let long : length new.output ≡ length old.output + length (sealed_packet old.sealing old.number item) = ap length output ∙ length-append old.output (sealed_packet old.sealing old.number item) in
    let size = size_sealed old.sealing old.number item in
    let tag : tag_size new.sealing ≡ tag_size old.sealing = ap tag_size sealing ∙ tag_kept old.sealing item in
    let padded : length item.padding ≡ padding_length old.sealing (length (b ∷ rest)) = h.padded in
    let few = (padding_fills old.sealing (length (b ∷ rest))).1 in
    omega (arith, long, size, tag, padded, few, spare, room)

-- what can't be refused says nothing of a refusal
pub unrefused : {T : Type 0} (r : Result T Error) (Said : Type 0) → IsOk r → OnErr r Said
unrefused (Ok x) Said h = tt
unrefused (Err e) Said h = absurd (let f = h in cc)
