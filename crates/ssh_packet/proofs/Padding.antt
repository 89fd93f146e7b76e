-- Padding is 4 to 19 bytes, and fills up to whole units.
use Rattle.std.proofs.Common.{◌≡◌, ℕ, List, length, ◌+◌, ◌-◌, ◌%◌, ◌<◌, ◌≤◌, Bool, true, false, nat_lt, if◌then◌else◌, refl, sym, ◌∙◌, ap, arith}
use Rattle.std.proofs.lemmas.Bool.Decides.{nat_tests}
use Rattle.rand_core.specs.Stream.{Stream}
use Rattle.ssh_mac.specs.Tags.{is_encrypt_then_mac}
use Rattle.ssh_packet.specs.Laws.{filled_length, unit_of, IsPadding}
use Rattle.ssh_packet.specs.Sealing.{Sealing, Clear, Block, Gcm, IsPadded, at_least_four, block_padding, padding_drawn, item_of, padding_length}

-- what is added is a whole unit or nothing
by_16 : (m : ℕ) → IsPadding (at_least_four 16 (16 - m % 16)) (m + at_least_four 16 (16 - m % 16)) 16
by_16 m = by_test (nat_lt (16 - m % 16) 4) refl where
  by_test : (b : Bool) → nat_lt (16 - m % 16) 4 ≡ b → IsPadding (if b then 16 - m % 16 + 16 else 16 - m % 16) (m + (if b then 16 - m % 16 + 16 else 16 - m % 16)) 16
  by_test true e = let h : 16 - m % 16 < 4 = grind (arith, nat_tests) in (omega (arith, h), omega (arith, h), omega (arith, h))
  by_test false e = let h : 4 ≤ 16 - m % 16 = grind (arith, nat_tests) in (omega (arith, h), omega (arith, h), omega (arith, h))

by_8 : (m : ℕ) → IsPadding (at_least_four 8 (8 - m % 8)) (m + at_least_four 8 (8 - m % 8)) 8
by_8 m = by_test (nat_lt (8 - m % 8) 4) refl where
  by_test : (b : Bool) → nat_lt (8 - m % 8) 4 ≡ b → IsPadding (if b then 8 - m % 8 + 8 else 8 - m % 8) (m + (if b then 8 - m % 8 + 8 else 8 - m % 8)) 8
  by_test true e = let h : 8 - m % 8 < 4 = grind (arith, nat_tests) in (omega (arith, h), omega (arith, h), omega (arith, h))
  by_test false e = let h : 4 ≤ 8 - m % 8 = grind (arith, nat_tests) in (omega (arith, h), omega (arith, h), omega (arith, h))

by_block : (etm : Bool) (n : ℕ) → IsPadding (block_padding etm n) (if etm then 1 + n + block_padding etm n else 5 + n + block_padding etm n) 16
by_block true n = by_16 (1 + n)
by_block false n = by_16 (5 + n)

pub padding_fills : (sealing : Sealing) (n : ℕ) → IsPadding (padding_length sealing n) (filled_length sealing n (padding_length sealing n)) (unit_of sealing)
padding_fills Clear n = by_8 (5 + n)
padding_fills (Block running mac) n = by_block (is_encrypt_then_mac mac) n
padding_fills (Gcm key nonce) n = by_16 (1 + n)

padded_by : (sealing : Sealing) (payload : List ℕ) (stream : Stream) → length (item_of sealing payload stream).padding ≡ padding_length sealing (length payload) → IsPadded sealing (item_of sealing payload stream)
padded_by Clear payload stream h = refl
padded_by (Block running mac) payload stream h = h
padded_by (Gcm key nonce) payload stream h = h

-- what is drawn for a payload pads it, where it has the length that was asked for
pub padded_so : (sealing : Sealing) (payload part : List ℕ) (padding : ℕ) (stream : Stream) → part ≡ payload → padding ≡ padding_length sealing (length part) → length (padding_drawn sealing padding stream).0 ≡ padding → IsPadded sealing (item_of sealing payload stream)
padded_so sealing payload part padding stream same asked size =
    let all : padding ≡ padding_length sealing (length payload) = asked ∙ ap (λ p. padding_length sealing (length p)) same in
    padded_by sealing payload stream (ap (λ n. length (padding_drawn sealing n stream).0) (sym all) ∙ (size ∙ all))
