-- The keys of rounds of decryption (FIPS 197 section 5.3.5).
use Rattle.std.specs.Prelude.{◌≡◌, ◌<◌, ℕ, ◌+◌, ◌*◌, List, slice_index}
use Rattle.ssh_aes.specs.Aes.{bytes_by, inverse_mix_columns}

-- the key of a round
abbrev pub round_key : List ℕ → ℕ → List ℕ
round_key w round = bytes_by 16 (λ i. slice_index w (16 * round + i))

-- in u each round's key is that of w unmixed, for rounds before n (section 5.3.5)
abbrev pub AreUnmixed : ℕ → List ℕ → List ℕ → Type 0
AreUnmixed n w u = (round : ℕ) → round < n → round_key u round ≡ inverse_mix_columns (round_key w round)
