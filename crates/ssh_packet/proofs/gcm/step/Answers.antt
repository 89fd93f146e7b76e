use Rattle.std.proofs.Common.{◌≡◌, ◌∙◌, ap, refl, arith, append-nil, ◌+◌, ◌%◌, ◌^◌, ◌++◌, ◌∷◌, [], ℕ, List, take, drop, replicate}
use Rattle.std.specs.Int.{w128, from_be_bytes, to_be_bytes}
use Rattle.ssh_packet.specs.Sealing.{next_nonce}
use Rattle.ssh_packet.proofs.gcm.step.Goals as goal

-- the last 12 bytes of a number of 16
next_is : (nonce : List ℕ) → take 12 (drop 4 (to_be_bytes w128 ((from_be_bytes w128 (replicate 4 0 ++ nonce) + 1) % 2 ^ 96))) ≡ next_nonce nonce
unfolding next_nonce
next_is nonce = refl

-- a remainder of a remainder
once : (n : ℕ) → ((n + 1) % 2 ^ 128) % 2 ^ 96 ≡ (n + 1) % 2 ^ 96
once n = omega arith

pub returns : goal.returns
returns c =
    let wide : c.from_be_bytes.result ≡ from_be_bytes w128 (0 ∷ 0 ∷ 0 ∷ 0 ∷ (c.copy_from_slice.new.self ++ [])) = c.from_be_bytes.ensures in
    let narrow : c.to_be_bytes.result ≡ to_be_bytes w128 (((c.from_be_bytes.result + 1) % 2 ^ 128) % 2 ^ 96) = c.to_be_bytes.ensures in
    let number = wide ∙ ap (λ t. from_be_bytes w128 (replicate 4 0 ++ t)) (append-nil c.copy_from_slice.new.self ∙ c.copy_from_slice.ensures.after) in
    let bytes = narrow ∙ ap (to_be_bytes w128) (once c.from_be_bytes.result ∙ ap (λ n. (n + 1) % 2 ^ 96) number) in
    c.copy_from_slice-2.ensures.after ∙ (ap (λ t. take 12 (drop 4 t)) bytes ∙ next_is c.args.nonce.now)
