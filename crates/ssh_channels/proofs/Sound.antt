-- What keeps an end sound.
use Rattle.std.proofs.Common.{◌≡◌, ℕ, ◌+◌, ◌-◌, ◌≤◌, ◌<◌, ◌^◌, ◌++◌, Bool, true, List, [], length, refl, ap, sym, ◌∙◌, subst, arith}
use Rattle.std.proofs.lemmas.List.{length-append}
use Rattle.ssh_channels.specs.Ends.{End, IsSound, fresh}
use Rattle.ssh_channels.specs.Phases.{Phase, Silent, Talking, Ended, Shut, Failed}

pub sound_fresh : (window most : ℕ) (said : Phase) → IsSound (fresh window most said)
sound_fresh window most said = record {
  within = omega arith;
  passed = omega arith;
  near = omega arith;
  small = omega arith;
  told = omega arith;
  read = omega arith;
  came = omega arith;
  silent = λ e. refl;
}

pub sound_said : (e : End) (said : Phase) → IsSound e → IsSound (record e { said = said })
sound_said e said h = record { within = h.within; passed = h.passed; near = h.near; small = h.small; told = h.told; read = h.read; came = h.came; silent = h.silent }

pub sound_gone : (e : End) (n : ℕ) → IsSound e → e.gone ≤ n → n ≤ length e.written → n ≤ e.granted → n < 2 ^ 63 → IsSound (record e { gone = n })
sound_gone e n h later within passed small = let near = h.near in record {
  within = within;
  passed = passed;
  near = omega arith;
  small = small;
  told = h.told;
  read = h.read;
  came = h.came;
  silent = h.silent;
}

pub sound_written : (e : End) (bytes : List ℕ) → IsSound e → IsSound (record e { written = e.written ++ bytes })
sound_written e bytes h =
    let within = h.within in
    let size : length (e.written ++ bytes) ≡ length e.written + length bytes = length-append e.written bytes in
    record { within = omega arith; passed = h.passed; near = h.near; small = h.small; told = h.told; read = h.read; came = h.came; silent = h.silent }

pub sound_eof : (e : End) → IsSound e → IsSound (record e { eof_called = true })
sound_eof e h = record { within = h.within; passed = h.passed; near = h.near; small = h.small; told = h.told; read = h.read; came = h.came; silent = h.silent }

pub sound_close : (e : End) → IsSound e → IsSound (record e { close_called = true })
sound_close e h = record { within = h.within; passed = h.passed; near = h.near; small = h.small; told = h.told; read = h.read; came = h.came; silent = h.silent }

pub sound_read : (e : End) (n told : ℕ) → IsSound e → e.read + n ≤ length e.received → e.told ≤ told → told ≤ e.read + n → IsSound (record e { read = e.read + n; told = told })
sound_read e n told h all later less =
    let came = h.came in
    record { within = h.within; passed = h.passed; near = h.near; small = h.small; told = less; read = all; came = omega arith; silent = h.silent }

pub sound_granted : (e : End) (window largest : ℕ) → IsSound e → e.heard ≡ Silent → window < 2 ^ 32
    → IsSound (record e { heard = Talking; granted = window; largest = largest })
sound_granted e window largest h silent small =
    let none : e.granted ≡ 0 = h.silent silent in
    let passed = h.passed in
    record { within = h.within; passed = omega arith; near = omega arith; small = h.small; told = h.told; read = h.read; came = h.came; silent = λ talking. cc }

pub sound_adjusted : (e : End) (n : ℕ) → IsSound e → (e.granted - e.gone) + n < 2 ^ 32 → (e.heard ≡ Silent → ⊥) → IsSound (record e { granted = e.granted + n })
sound_adjusted e n h few heard =
    let passed = h.passed in
    record { within = h.within; passed = omega arith; near = omega arith; small = h.small; told = h.told; read = h.read; came = h.came; silent = λ silent. absurd (heard silent) }

pub sound_received : (e : End) (bytes : List ℕ) → IsSound e → length bytes ≤ (e.window + e.told) - length e.received → IsSound (record e { received = e.received ++ bytes })
sound_received e bytes h fits =
    let read = h.read in
    let came = h.came in
    let size : length (e.received ++ bytes) ≡ length e.received + length bytes = length-append e.received bytes in
    record { within = h.within; passed = h.passed; near = h.near; small = h.small; told = h.told; read = omega arith; came = omega arith; silent = h.silent }

pub sound_heard : (e : End) (heard : Phase) (ended : Bool) → IsSound e → (heard ≡ Silent → ⊥) → IsSound (record e { heard = heard; ended = ended })
sound_heard e heard ended h talks = record { within = h.within; passed = h.passed; near = h.near; small = h.small; told = h.told; read = h.read; came = h.came; silent = λ silent. absurd (talks silent) }
