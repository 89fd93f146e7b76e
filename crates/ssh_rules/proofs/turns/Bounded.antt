-- The exchanges of a link are no more than one, the rekeys and the payloads that were written.
use Rattle.std.proofs.Common.{◌≡◌, ℕ, zero, suc, ◌+◌, ◌<◌, ◌≤◌, List, [], ◌∷◌, ◌++◌, length, slice_get, refl, ap, subst, arith, Some, Bool, true, false, if◌then◌else◌, ◌⊎◌, inl, inr}
use Rattle.ssh_packet.specs.Sealing.{Item}
use Rattle.ssh_packet.specs.Stream.{is_newkeys}
use Rattle.ssh_kex.specs.declared.config.Config.{Config}
use Rattle.ssh_rules.specs.MessageTypes.{type_of, is_payload_type}
use Rattle.ssh_rules.specs.Wire.{exchange_block, HasFront}
use Rattle.ssh_rules.specs.Run.{epoch_bytes}
use Rattle.ssh_rules.specs.Machine.{Cause, Asked}
use Rattle.ssh_rules.proofs.side.Reasons.{NonNil, Reason, asked_at, one_payload, payloads_at, payloads_in, Charged}
use Rattle.ssh_rules.specs.Log.{asked, asked_in}
use Rattle.ssh_rules.proofs.side.Epochs.{epoch_more, block_more}

-- ---- sums over exchanges

abbrev pub sum_to : ℕ → (ℕ → ℕ) → ℕ
sum_to zero f = 0
sum_to (suc n) f = f 0 + sum_to n (λ k. f (suc k))

each_one : (n : ℕ) (f : ℕ → ℕ) → ((k : ℕ) → k < n → 1 ≤ f k) → n ≤ sum_to n f
each_one zero f h = omega arith
each_one (suc n) f h =
    let first = h 0 (omega arith) in
    let rest = each_one n (λ k. f (suc k)) (λ k l. h (suc k) (omega (arith, l))) in
    omega (arith, first, rest)

-- all but the first are charged
pub all_charged : (n : ℕ) (f : ℕ → ℕ) → ((k : ℕ) → 1 ≤ k → k < n → 1 ≤ f k) → n ≤ 1 + sum_to n f
all_charged zero f h = omega arith
all_charged (suc n) f h =
    let rest = each_one n (λ k. f (suc k)) (λ k l. h (suc k) (omega arith) (omega (arith, l))) in
    omega (arith, rest)

sum_both : (n : ℕ) (f g : ℕ → ℕ) → sum_to n (λ k. f k + g k) ≡ sum_to n f + sum_to n g
sum_both zero f g = refl
sum_both (suc n) f g = let r = sum_both n (λ k. f (suc k)) (λ k. g (suc k)) in omega (arith, r)

sum_zero : (n : ℕ) → sum_to n (λ k. 0) ≡ 0
sum_zero zero = refl
sum_zero (suc n) = let r = sum_zero n in omega (arith, r)

sum_asked : (n : ℕ) (causes : List Cause) → sum_to n (λ k. asked_at k causes) ≤ asked_in causes
sum_asked zero causes = omega arith
sum_asked (suc n) [] = let z = sum_zero n in omega (arith, z)
sum_asked (suc n) (c ∷ causes) = let r = sum_asked n causes in omega (arith, r)

sum_payloads : (n : ℕ) (items : List Item) → sum_to n (λ k. payloads_at k items) ≤ payloads_in items
sum_payloads n [] = let z = sum_zero n in omega (arith, z)
sum_payloads zero (i ∷ items) = omega arith
sum_payloads (suc n) (i ∷ items) = by_type (is_newkeys i) (sum_payloads n items) (sum_payloads (suc n) items) where
  by_type : (b : Bool) → sum_to n (λ k. payloads_at k items) ≤ payloads_in items → payloads_at zero items + sum_to n (λ k. payloads_at (suc k) items) ≤ payloads_in items → (if b then 0 else one_payload i + payloads_at zero items) + sum_to n (λ k. if b then payloads_at k items else payloads_at (suc k) items) ≤ one_payload i + payloads_in items
  by_type true r q = omega (arith, r)
  by_type false r q = omega (arith, q)

-- as many exchanges as are charged
pub charged_few : (n : ℕ) (cc sc : List Cause) (cw sw : List Item) → ((k : ℕ) → 1 ≤ k → k < n → Charged cc sc cw sw k) → n ≤ 1 + (asked_in cc + asked_in sc) + (payloads_in cw + payloads_in sw)
charged_few n cc sc cw sw h =
    let all = all_charged n (λ k. asked_at k cc + asked_at k sc + (payloads_at k cw + payloads_at k sw)) h in
    let one = sum_both n (λ k. asked_at k cc + asked_at k sc) (λ k. payloads_at k cw + payloads_at k sw) in
    let two = sum_both n (λ k. asked_at k cc) (λ k. asked_at k sc) in
    let three = sum_both n (λ k. payloads_at k cw) (λ k. payloads_at k sw) in
    omega (arith, all, one, two, three, sum_asked n cc, sum_asked n sc, sum_payloads n cw, sum_payloads n sw)

-- ---- from causes to charges

asked_found : (causes : List Cause) (k : ℕ) → slice_get causes k ≡ Some Asked → 1 ≤ asked_at k causes
asked_found [] k h = cc
asked_found (c ∷ causes) zero h = let e : c ≡ Asked = cc in let o : asked c ≡ 1 = ap asked e in omega (arith, o)
asked_found (c ∷ causes) (suc k) h = asked_found causes k h

bytes_found : (k : ℕ) (items : List Item) → 0 < epoch_bytes k items → 1 ≤ payloads_at k items
bytes_found k [] h = absurd (omega arith)
bytes_found zero (i ∷ items) h = by_type (is_newkeys i) (is_payload_type (type_of i)) (bytes_found zero items) h where
  by_type : (b c : Bool) → (0 < epoch_bytes zero items → 1 ≤ payloads_at zero items) → 0 < (if b then 0 else (if c then length i.payload else 0) + epoch_bytes zero items) → 1 ≤ (if b then 0 else (if c then 1 else 0) + payloads_at zero items)
  by_type true c f h = absurd (omega (arith, h))
  by_type false true f h = omega arith
  by_type false false f h = let r = f (omega (arith, h)) in omega (arith, r)
bytes_found (suc k) (i ∷ items) h = by_type (is_newkeys i) (bytes_found k items) (bytes_found (suc k) items) h where
  by_type : (b : Bool) → (0 < epoch_bytes k items → 1 ≤ payloads_at k items) → (0 < epoch_bytes (suc k) items → 1 ≤ payloads_at (suc k) items) → 0 < (if b then epoch_bytes k items else epoch_bytes (suc k) items) → 1 ≤ (if b then payloads_at k items else payloads_at (suc k) items)
  by_type true f g h = f h
  by_type false f g h = g h

-- limits are at least one byte
pub record HasLimits (config : Config) : Type 0 where
  pub write : 1 ≤ config.limits.rekey_write_limit
  pub read : 1 ≤ config.limits.rekey_read_limit

front_bytes : (k : ℕ) (whole front : List Item) → HasFront whole front → epoch_bytes k front ≤ epoch_bytes k whole
front_bytes k whole front s = subst (λ w. epoch_bytes k front ≤ epoch_bytes k w) s.1 (epoch_more k front s.0)

front_block : (k : ℕ) (whole front : List Item) → HasFront whole front → NonNil (exchange_block k front) → NonNil (exchange_block k whole)
front_block k whole front s h = subst (λ w. NonNil (exchange_block k w)) s.1 (omega (arith, h, block_more k front s.0))

-- A cause of one side is a charge, or the other had begun the exchange already.
pub charged_by : (config : Config) (causes others : List Cause) (written read theirs : List Item) (k : ℕ) → HasLimits config → HasFront theirs read → Reason config causes written read k → (1 ≤ asked_at k causes + asked_at k others + (payloads_at k written + payloads_at k theirs)) ⊎ NonNil (exchange_block k theirs)
charged_by config causes others written read theirs k l s (inl h) = inl (omega (arith, asked_found causes k h))
charged_by config causes others written read theirs k l s (inr (inl h)) = inl (omega (arith, bytes_found k written (omega (arith, h, l.write))))
charged_by config causes others written read theirs k l s (inr (inr (inl h))) = inl (omega (arith, bytes_found k theirs (omega (arith, h, l.read, front_bytes k theirs read s))))
charged_by config causes others written read theirs k l s (inr (inr (inr h))) = inr (front_block k theirs read s h)

-- ---- turn by turn

get_at : (causes more : List Cause) (k : ℕ) → asked_at k causes ≤ asked_at k (causes ++ more)
get_at [] more k = omega arith
get_at (c ∷ causes) more zero = omega arith
get_at (c ∷ causes) more (suc k) = get_at causes more k

more_at : (k : ℕ) (w v : List Item) → payloads_at k w ≤ payloads_at k (w ++ v)
more_at k [] v = omega arith
more_at zero (i ∷ w) v = by_type (is_newkeys i) (more_at zero w v) where
  by_type : (b : Bool) → payloads_at zero w ≤ payloads_at zero (w ++ v) → (if b then 0 else one_payload i + payloads_at zero w) ≤ (if b then 0 else one_payload i + payloads_at zero (w ++ v))
  by_type true h = omega arith
  by_type false h = omega (arith, h)
more_at (suc k) (i ∷ w) v = by_type (is_newkeys i) (more_at k w v) (more_at (suc k) w v) where
  by_type : (b : Bool) → payloads_at k w ≤ payloads_at k (w ++ v) → payloads_at (suc k) w ≤ payloads_at (suc k) (w ++ v) → (if b then payloads_at k w else payloads_at (suc k) w) ≤ (if b then payloads_at k (w ++ v) else payloads_at (suc k) (w ++ v))
  by_type true f g = f
  by_type false f g = g

-- what is known of one side at a moment between calls
pub record Began (config : Config) (causes : List Cause) (written read : List Item) (count : ℕ) : Type 0 where
  pub limits : HasLimits config
  pub reason : (k : ℕ) → 1 ≤ k → k < count → Reason config causes written read k
  -- a block that isn't empty is begun
  pub begins : (k : ℕ) → NonNil (exchange_block k written) → k < count

-- every exchange that a side has begun is charged
abbrev pub AllCharged : (cc sc : List Cause) (cw sw : List Item) (client_count server_count : ℕ) → Type 0
AllCharged cc sc cw sw nc ns = (k : ℕ) → 1 ≤ k → (k < nc) ⊎ (k < ns) → Charged cc sc cw sw k

-- A turn of the client keeps it: what it read was written by the server before the turn.
pub client_turn : (client : Config) (cc cc_more sc : List Cause) (cw cw_more cr sw : List Item) (nc ns : ℕ) → Began client (cc ++ cc_more) (cw ++ cw_more) cr nc → ((k : ℕ) → NonNil (exchange_block k sw) → k < ns) → HasFront sw cr → (old : ℕ) → AllCharged cc sc cw sw old ns → AllCharged (cc ++ cc_more) sc (cw ++ cw_more) sw nc ns
client_turn client cc cc_more sc cw cw_more cr sw nc ns b begins front old all k a h =
    let grown : Charged cc sc cw sw k → Charged (cc ++ cc_more) sc (cw ++ cw_more) sw k = λ g. omega (arith, g, get_at cc cc_more k, more_at k cw cw_more) in
    elim h [
      | inl l ↦ elim (charged_by client (cc ++ cc_more) sc (cw ++ cw_more) cr sw k b.limits front (b.reason k a l)) [
        | inl g ↦ g
        | inr g ↦ grown (all k a (inr (begins k g)))
      ]
      | inr l ↦ grown (all k a (inr l))
    ]

-- a turn of the server too
pub server_turn : (server : Config) (sc sc_more cc : List Cause) (sw sw_more sr cw : List Item) (nc ns : ℕ) → Began server (sc ++ sc_more) (sw ++ sw_more) sr ns → ((k : ℕ) → NonNil (exchange_block k cw) → k < nc) → HasFront cw sr → (old : ℕ) → AllCharged cc sc cw sw nc old → AllCharged cc (sc ++ sc_more) cw (sw ++ sw_more) nc ns
server_turn server sc sc_more cc sw sw_more sr cw nc ns b begins front old all k a h =
    let grown : Charged cc sc cw sw k → Charged cc (sc ++ sc_more) cw (sw ++ sw_more) k = λ g. omega (arith, g, get_at sc sc_more k, more_at k sw sw_more) in
    elim h [
      | inr l ↦ elim (charged_by server (sc ++ sc_more) cc (sw ++ sw_more) sr cw k b.limits front (b.reason k a l)) [
        | inl g ↦ omega (arith, g)
        | inr g ↦ grown (all k a (inl (begins k g)))
      ]
      | inl l ↦ grown (all k a (inl l))
    ]

-- So the exchanges are no more than one, the rekeys and the payloads that both wrote.
pub exchanges_bounded : (cc sc : List Cause) (cw sw : List Item) (nc ns : ℕ) → AllCharged cc sc cw sw nc ns → (nc ≤ 1 + (asked_in cc + asked_in sc) + (payloads_in cw + payloads_in sw)) × (ns ≤ 1 + (asked_in cc + asked_in sc) + (payloads_in cw + payloads_in sw))
exchanges_bounded cc sc cw sw nc ns h = (charged_few nc cc sc cw sw (λ k a l. h k a (inl l)), charged_few ns cc sc cw sw (λ k a l. h k a (inr l)))
