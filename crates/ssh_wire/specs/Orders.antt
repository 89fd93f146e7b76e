-- The messages of a key exchange, and the order of the first one under the strict key exchange, in which no
-- other message may stand.
use Rattle.std.specs.Prelude.{◌≡◌, ℕ, ◌==◌, ◌&&◌, ◌||◌, nat_lt, nat_le, not, Bool, true, false, if◌then◌else◌, List, [], ◌∷◌, length, slice_index, Result, Ok, Err, refl}
use Rattle.std.specs.List.{list_any}
use Rattle.ssh_wire.specs.declared.error.Error.{Error}
use Rattle.ssh_wire.specs.declared.error.Error.TheVariants.{StrictKeyExchangeViolation}

-- the messages of a key exchange: KEXINIT, NEWKEYS, and those of the methods (RFC 4250 section 4.1.1)
abbrev pub is_kex : ℕ → Bool
is_kex message = (message == 20) || (message == 21) || (nat_le 30 message && nat_le message 34)

-- what a client may send, with and without a group exchange
abbrev pub client_orders : List (List ℕ)
client_orders = (20 ∷ 30 ∷ 21 ∷ []) ∷ (20 ∷ 34 ∷ 32 ∷ 21 ∷ []) ∷ []

-- what a server may send
abbrev pub server_orders : List (List ℕ)
server_orders = (20 ∷ 31 ∷ 21 ∷ []) ∷ (20 ∷ 31 ∷ 33 ∷ 21 ∷ []) ∷ []

abbrev pub reaches : ℕ → List ℕ → Bool
reaches place order = nat_lt place (length order)

abbrev pub has : ℕ → ℕ → List ℕ → Bool
has message place order = reaches place order && (message == slice_index order place)

-- some order reaches the place, and none has the message there
abbrev pub violates : List (List ℕ) → ℕ → ℕ → Bool
violates orders message place = list_any (reaches place) orders && not (list_any (has message place) orders)

abbrev pub order_answer : List (List ℕ) → ℕ → ℕ → Result (Unit {0}) Error
order_answer orders message place = if violates orders message place then Err (StrictKeyExchangeViolation message place) else Ok tt

group-example : violates client_orders 34 1 ≡ false
group-example = refl

place-example : violates client_orders 30 2 ≡ true
place-example = refl

beyond-example : violates client_orders 99 4 ≡ false
beyond-example = refl
