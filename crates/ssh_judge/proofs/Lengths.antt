-- A payload is no longer than its packet.
use Rattle.std.proofs.Common.{ℕ, ◌≤◌, Bool, true, false, List, ◌++◌, length, take, drop, arith, length-append, length-drop}
use Rattle.ssh_aes.specs.Gcm.{gcm_text, gcm_tag}
use Rattle.ssh_aes.specs.Modes.{Running, masked_text}
use Rattle.ssh_aes.proofs.Lemmas.{gcm_well, runs_well}
use Rattle.ssh_mac.specs.Tags.{MacOf, is_encrypt_then_mac, tag_of}
use Rattle.ssh_packet.proofs.Lemmas.{length_framed, length_take4}
use Rattle.ssh_packet.specs.Sealing.{Item, Sealing, Clear, Block, Gcm, framed_text, sealed_packet, text_with_tag}
use Rattle.ssh_packet.specs.Stream.{Place, packet_at}

enclosed : (etm : Bool) (r : Running) (mac : MacOf) (number : ℕ) (t : List ℕ) → 4 ≤ length t → length t ≤ length (text_with_tag etm (masked_text r) (tag_of mac number) t)
enclosed true r mac number t h =
    let body = (runs_well r).same_length (drop 4 t) in
    let all = length-append (take 4 t) (masked_text r (drop 4 t) ++ tag_of mac number (take 4 t ++ masked_text r (drop 4 t))) in
    let behind = length-append (masked_text r (drop 4 t)) (tag_of mac number (take 4 t ++ masked_text r (drop 4 t))) in
    omega (arith, length_take4 t h, length-drop 4 t, body, all, behind)
enclosed false r mac number t h = omega (arith, (runs_well r).same_length t, length-append (masked_text r t) (tag_of mac number t))

sealed : (s : Sealing) (number : ℕ) (a : Item) → length a.payload ≤ length (sealed_packet s number a)
sealed Clear number a = omega (arith, length_framed a)
sealed (Block r mac) number a = omega (arith, length_framed a, enclosed (is_encrypt_then_mac mac) r mac number (framed_text a) (omega (arith, length_framed a)))
sealed (Gcm key nonce) number a =
    let t = framed_text a in
    let four : 4 ≤ length t = omega (arith, length_framed a) in
    let body = (gcm_well key nonce).same_length (take 4 t) (drop 4 t) in
    let all = length-append (take 4 t) (gcm_text key nonce (take 4 t) (drop 4 t) ++ gcm_tag key nonce (take 4 t) (drop 4 t)) in
    let behind = length-append (gcm_text key nonce (take 4 t) (drop 4 t)) (gcm_tag key nonce (take 4 t) (drop 4 t)) in
    omega (arith, length_framed a, length_take4 t four, length-drop 4 t, body, all, behind)

pub payload_within : (at : Place) (i : Item) → length i.payload ≤ length (packet_at at i)
payload_within at i = sealed at.sealing at.number i
