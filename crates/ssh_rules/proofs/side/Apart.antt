-- Within an epoch no number, no nonce and no counter block is used twice.
use Rattle.std.proofs.Common.{◌≡◌, ◌≢◌, ℕ, zero, suc, ◌+◌, ◌-◌, ◌*◌, ◌/◌, ◌%◌, ◌^◌, ◌<◌, ◌≤◌, List, [], ◌∷◌, ◌++◌, length, replicate, refl, sym, ◌∙◌, ap, subst, arith, Option, Some, None, Bool, true, false, if◌then◌else◌, length-drop}
use Rattle.std.specs.Int.{w128, from_be_bytes}
use Rattle.ssh_aes.specs.Modes.{Running, Ctr, Cbc, running_after, counter_block}
use Rattle.ssh_aes.proofs.Lemmas.{length-masked_text}
use Rattle.ssh_mac.specs.Tags.{MacOf, is_encrypt_then_mac}
use Rattle.ssh_packet.specs.Sealing.{Item, Sealing, Clear, Block, Gcm, framed_text, encrypted_part, next_nonce, next_number, moved_on, packet_length, padding_length}
use Rattle.ssh_packet.specs.Stream.{Opening, Place, is_newkeys, Reads, next_place as opened}
use Rattle.ssh_packet.proofs.Lemmas.{length_framed}
use Rattle.ssh_packet.proofs.Lemmas.{padding_fills}
use Rattle.ssh_packet.specs.Sealing.{IsPadded}
use Rattle.ssh_rules.specs.Wire.{ArePadded}
use Rattle.ssh_rules.specs.Fresh.{PacketAtPlace, packets_of_epoch, packets_at, UsesCounterBlock, DifferentNonces, first_counter_block, AreApart, ApartFrom, AllApart}
use Rattle.ssh_aes.proofs.Lemmas.{number_spelled, twelve_bytes}

-- a nonce as a number
abbrev pub worth : List ℕ → ℕ
worth nonce = from_be_bytes w128 (replicate 4 0 ++ nonce)

-- the next nonce is one more
worth_next : (nonce : List ℕ) → worth (next_nonce nonce) ≡ (worth nonce + 1) % 2 ^ 96
unfolding next_nonce
worth_next nonce =
    let n = (worth nonce + 1) % 2 ^ 96 in
    let small : n < 2 ^ 96 = omega arith in
    ap (from_be_bytes w128) (twelve_bytes n small) ∙ number_spelled n (omega (arith, small))

-- how many bytes of a packet are encrypted
abbrev pub size_of : MacOf → Item → ℕ
size_of mac i = length (encrypted_part (is_encrypt_then_mac mac) (framed_text i))

size_is : (mac : MacOf) (i : Item) → size_of mac i ≡ (if is_encrypt_then_mac mac then 0 else 4) + packet_length i
size_is mac i = cases (is_encrypt_then_mac mac) where
  cases : (b : Bool) → length (encrypted_part b (framed_text i)) ≡ (if b then 0 else 4) + packet_length i
  cases true = length-drop 4 (framed_text i) ∙ (ap (λ n. n - 4) (length_framed i) ∙ (let z : 4 + packet_length i - 4 ≡ 0 + packet_length i = omega arith in z))
  cases false = length_framed i

-- it is a multiple of 16, where the packet is padding_fills
size_even : (running : Running) (mac : MacOf) (i : Item) → IsPadded (Block running mac) i → size_of mac i % 16 ≡ 0
size_even running mac i p =
    let law = (padding_fills (Block running mac) (length i.payload)).2 in
    ap (λ n. n % 16) (size_is mac i) ∙ (even (is_encrypt_then_mac mac) ∙ law)
  where
    even : (b : Bool) → ((if b then 0 else 4) + packet_length i) % 16 ≡ (if b then 1 + length i.payload + padding_length (Block running mac) (length i.payload) else 5 + length i.payload + padding_length (Block running mac) (length i.payload)) % 16
    even true = ap (λ n. n % 16) (let z : 0 + packet_length i ≡ 1 + length i.payload + padding_length (Block running mac) (length i.payload) = omega (arith, p) in z)
    even false = ap (λ n. n % 16) (let z : 4 + packet_length i ≡ 5 + length i.payload + padding_length (Block running mac) (length i.payload) = omega (arith, p) in z)

size_short : (mac : MacOf) (i : Item) → packet_length i ≤ 262177 → size_of mac i ≤ 262181
size_short mac i h = cases (is_encrypt_then_mac mac) (size_is mac i) where
  cases : (b : Bool) → size_of mac i ≡ (if b then 0 else 4) + packet_length i → size_of mac i ≤ 262181
  cases true e = omega (arith, e, h)
  cases false e = omega (arith, e, h)

-- where a direction is sealed under behind d packets of an epoch, the first of which is an item
abbrev pub SealingLater : Sealing → Item → Sealing → ℕ → Type 0
SealingLater Clear i s' d = s' ≡ Clear
SealingLater (Gcm key nonce) i s' d = (nonce' : List ℕ) × (s' ≡ Gcm key nonce') × (worth nonce' ≡ (worth nonce + d) % 2 ^ 96)
SealingLater (Block (Ctr key iv place) mac) i s' d = (place' : ℕ) × (s' ≡ Block (Ctr key iv place') mac) × (place' % 16 ≡ 0) × (place + size_of mac i ≤ place') × (place' ≤ place + d * 262181)
SealingLater (Block (Cbc key last) mac) i s' d = (last' : List ℕ) × (s' ≡ Block (Cbc key last') mac)

-- a place within the first part of an epoch
abbrev pub IsWell : Sealing → ℕ → Type 0
IsWell Clear d = Unit {0}
IsWell (Gcm key nonce) d = worth nonce < 2 ^ 96
IsWell (Block (Ctr key iv place) mac) d = (place % 16 ≡ 0) × (place ≤ d * 262181)
IsWell (Block (Cbc key last) mac) d = Unit {0}

pub record IsLater (a : PacketAtPlace) (at : Place) (d : ℕ) : Type 0 where
  pub number : at.number ≡ (a.at.number + d) % 2 ^ 32
  pub sealing : SealingLater a.at.sealing a.item at.sealing d

moved_ctr : (key iv : List ℕ) (place : ℕ) (text : List ℕ) → running_after (Ctr key iv place) text ≡ Ctr key iv ((place + length text) % 2 ^ 64)
moved_ctr key iv place text = ap (λ n. Ctr key iv ((place + n) % 2 ^ 64)) (length-masked_text (Ctr key iv place) text)

-- one packet behind
first_later : (s : Sealing) (i : Item) (d : ℕ) → IsWell s d → d + 1 < 2 ^ 32 → packet_length i ≤ 262177 → IsPadded s i → SealingLater s i (moved_on s i) 1
first_later Clear i d w f l p = refl
first_later (Gcm key nonce) i d w f l p = (next_nonce nonce, refl, worth_next nonce)
first_later (Block (Cbc key last) mac) i d w f l p = (_, refl)
first_later (Block (Ctr key iv place) mac) i d w f l p =
    let size = size_short mac i l in
    let even = size_even (Ctr key iv place) mac i p in
    let fit : (place + size_of mac i) % 2 ^ 64 ≡ place + size_of mac i = omega (arith, w.1, f, size) in
    (place + size_of mac i, ap (λ r. Block r mac) (moved_ctr key iv place (encrypted_part (is_encrypt_then_mac mac) (framed_text i)) ∙ ap (Ctr key iv) fit), omega (arith, w.0, even), omega arith, omega (arith, size))

-- and one more
more_later : (s : Sealing) (i : Item) (s' : Sealing) (d e : ℕ) (j : Item) → SealingLater s i s' d → IsWell s e → e + d + 1 < 2 ^ 32 → packet_length j ≤ 262177 → IsPadded s' j → SealingLater s i (moved_on s' j) (d + 1)
more_later Clear i s' d e j h w f l p = ap (λ x. moved_on x j) h
more_later (Gcm key nonce) i s' d e j h w f l p =
    (next_nonce h.0, ap (λ x. moved_on x j) h.1, worth_next h.0 ∙ (let v = h.2 in omega (arith, v)))
more_later (Block (Cbc key last) mac) i s' d e j h w f l p = (_, ap (λ x. moved_on x j) h.1)
more_later (Block (Ctr key iv place) mac) i s' d e j h w f l p =
    let size = size_short mac j l in
    let even = size_even (Ctr key iv h.0) mac j (subst (λ x. IsPadded x j) h.1 p) in
    let fit : (h.0 + size_of mac j) % 2 ^ 64 ≡ h.0 + size_of mac j = omega (arith, h.4, w.1, f, size) in
    (h.0 + size_of mac j, ap (λ x. moved_on x j) h.1 ∙ ap (λ r. Block r mac) (moved_ctr key iv h.0 (encrypted_part (is_encrypt_then_mac mac) (framed_text j)) ∙ ap (Ctr key iv) fit), omega (arith, h.2, even), omega (arith, h.3), omega (arith, h.4, size))

-- ---- apart

different_number : (n d : ℕ) → n < 2 ^ 32 → 0 < d → d < 2 ^ 32 → (n + d) % 2 ^ 32 ≡ n → ⊥
different_number n d a b c e = omega (arith, a, b, c, e)

different_worth : (n d : ℕ) → n < 2 ^ 96 → 0 < d → d < 2 ^ 32 → (n + d) % 2 ^ 96 ≡ n → ⊥
different_worth n d a b c e = omega (arith, a, b, c, e)

nonces_apart : (s : Sealing) (i : Item) (s' : Sealing) (d e : ℕ) → SealingLater s i s' d → IsWell s e → 0 < d → d < 2 ^ 32 → DifferentNonces s s'
nonces_apart Clear i s' d e h w a b = tt
nonces_apart (Block r mac) i s' d e h w a b = tt
nonces_apart (Gcm key nonce) i s' d e h w a b = subst (DifferentNonces (Gcm key nonce)) (sym h.1) (λ q. different_worth (worth nonce) d w a b (sym h.2 ∙ ap worth (sym q)))

same_count : (c x y : ℕ) → x < y → y < 2 ^ 64 → (c + x) % 2 ^ 128 ≡ (c + y) % 2 ^ 128 → ⊥
same_count c x y l f e = omega (arith, l, f, e)

counters_apart : (iv : List ℕ) (x y : ℕ) → x < y → y < 2 ^ 64 → counter_block iv x ≡ counter_block iv y → ⊥
counters_apart iv x y l f e =
    let c = from_be_bytes w128 iv in
    same_count c x y l f (sym (number_spelled ((c + x) % 2 ^ 128) (omega arith)) ∙ (ap (from_be_bytes w128) e ∙ number_spelled ((c + y) % 2 ^ 128) (omega arith)))

block_order : (p p' size i j : ℕ) → p % 16 ≡ 0 → p' % 16 ≡ 0 → size % 16 ≡ 0 → p + size ≤ p' → i < size → p' + j < 2 ^ 64 → ((p + i) % 2 ^ 64) / 16 < ((p' + j) % 2 ^ 64) / 16
block_order p p' size i j a b c d e f = omega (arith, a, b, c, d, e, f)

blocks_apart : (s : Sealing) (i : Item) (s' : Sealing) (j : Item) (d e : ℕ) → SealingLater s i s' d → IsWell s e → e + d + 1 < 2 ^ 32 → IsPadded s i → packet_length j ≤ 262177 → (x y : ℕ) → UsesCounterBlock s i x → UsesCounterBlock s' j y → counter_block (first_counter_block s) x ≢ counter_block (first_counter_block s') y
blocks_apart Clear i s' j d e h w f p l x y u v = absurd u
blocks_apart (Gcm key nonce) i s' j d e h w f p l x y u v = absurd u
blocks_apart (Block (Cbc key last) mac) i s' j d e h w f p l x y u v = absurd u
blocks_apart (Block (Ctr key iv place) mac) i s' j d e h w f p l x y u v =
    let v' : UsesCounterBlock (Block (Ctr key iv h.0) mac) j y = subst (λ q. UsesCounterBlock q j y) h.1 v in
    let size = size_short mac j l in
    let even = size_even (Ctr key iv place) mac i p in
    let fits : h.0 + v'.0 < 2 ^ 64 = omega (arith, h.4, w.1, f, size, v'.1) in
    let order = block_order place h.0 (size_of mac i) u.0 v'.0 w.0 h.2 even h.3 u.1 fits in
    let l2 : x < y = omega (arith, order, u.2, v'.2) in
    let f2 : y < 2 ^ 64 = omega (arith, v'.2) in
    λ q. counters_apart iv x y l2 f2 (q ∙ ap (λ z. counter_block (first_counter_block z) y) h.1)

-- what stands on a wire is admissible and padding_fills, packet by packet
apart_one : (a : PacketAtPlace) (at : Place) (j : Item) (d e : ℕ) → IsLater a at d → IsWell a.at.sealing e → a.at.number < 2 ^ 32 → 0 < d → e + d + 1 < 2 ^ 32 → IsPadded a.at.sealing a.item → packet_length j ≤ 262177 → AreApart a (record { at = at; item = j })
apart_one a at j d e l w n s f p q = record {
  numbers = λ z. different_number a.at.number d n s (omega (arith, f)) (sym l.number ∙ sym z);
  nonces = nonces_apart a.at.sealing a.item at.sealing d e l.sealing w s (omega (arith, f));
  blocks = blocks_apart a.at.sealing a.item at.sealing j d e l.sealing w f p q;
}

next_later : (a : PacketAtPlace) (at : Place) (j : Item) (d e : ℕ) → IsLater a at d → IsWell a.at.sealing e → e + d + 1 < 2 ^ 32 → packet_length j ≤ 262177 → IsPadded at.sealing j → IsLater a (record { sealing = moved_on at.sealing j; number = next_number at.number; openings = at.openings }) (d + 1)
next_later a at j d e l w f q p = record {
  number = (let n = l.number in omega (arith, n));
  sealing = more_later a.at.sealing a.item at.sealing d e j l.sealing w f q p;
}

-- one packet of an epoch is apart from all that follow it there
apart_from : (a : PacketAtPlace) (at : Place) (items : List Item) (d e : ℕ) → IsLater a at d → IsWell a.at.sealing e → a.at.number < 2 ^ 32 → 0 < d → e + d + packets_at 0 items + 1 < 2 ^ 32 → IsPadded a.at.sealing a.item → (bytes rest : List ℕ) → Reads (Some at) items bytes rest → ArePadded (Some at) items → ApartFrom a (packets_of_epoch 0 (Some at) items)
apart_from a at [] d e l w n s f p bytes rest r q = tt
apart_from a at (j ∷ items) d e l w n s f p bytes rest r q =
    let short = r.1.short in
    (apart_one a at j d e l w n s (few (is_newkeys j) f) p short, go (is_newkeys j) f (λ f'. apart_from a (record { sealing = moved_on at.sealing j; number = next_number at.number; openings = at.openings }) items (d + 1) e (next_later a at j d e l w (few (is_newkeys j) f) short q.0) w n (omega arith) f' p r.0 rest) r.3 q.1)
  where
    few : (b : Bool) → e + d + (if b then 1 else 1 + packets_at 0 items) + 1 < 2 ^ 32 → e + d + 1 < 2 ^ 32
    few true f = omega (arith, f)
    few false f = omega (arith, f)

    go : (b : Bool) → e + d + (if b then 1 else 1 + packets_at 0 items) + 1 < 2 ^ 32
        → (e + (d + 1) + packets_at 0 items + 1 < 2 ^ 32 → Reads (Some (record { sealing = moved_on at.sealing j; number = next_number at.number; openings = at.openings })) items r.0 rest → ArePadded (Some (record { sealing = moved_on at.sealing j; number = next_number at.number; openings = at.openings })) items → ApartFrom a (packets_of_epoch 0 (Some (record { sealing = moved_on at.sealing j; number = next_number at.number; openings = at.openings })) items))
        → Reads (if b then opened at.openings (next_number at.number) else Some (record { sealing = moved_on at.sealing j; number = next_number at.number; openings = at.openings })) items r.0 rest
        → ArePadded (if b then opened at.openings (next_number at.number) else Some (record { sealing = moved_on at.sealing j; number = next_number at.number; openings = at.openings })) items
        → ApartFrom a (if b then [] else packets_of_epoch 0 (if b then opened at.openings (next_number at.number) else Some (record { sealing = moved_on at.sealing j; number = next_number at.number; openings = at.openings })) items)
    go true f k x y = tt
    go false f k x y = k (omega (arith, f)) x y

abbrev next_place : Place → Item → Place
next_place at i = record { sealing = moved_on at.sealing i; number = next_number at.number; openings = at.openings }

well_next : (s : Sealing) (i : Item) (e : ℕ) → IsWell s e → e + 1 < 2 ^ 32 → packet_length i ≤ 262177 → IsPadded s i → IsWell (moved_on s i) (e + 1)
well_next Clear i e w f l p = tt
well_next (Gcm key nonce) i e w f l p = let v = worth_next nonce in omega (arith, v)
well_next (Block (Cbc key last) mac) i e w f l p = tt
well_next (Block (Ctr key iv place) mac) i e w f l p =
    let size = size_short mac i l in
    let even = size_even (Ctr key iv place) mac i p in
    let fit : (place + size_of mac i) % 2 ^ 64 ≡ place + size_of mac i = omega (arith, w.1, f, size) in
    let after : running_after (Ctr key iv place) (encrypted_part (is_encrypt_then_mac mac) (framed_text i)) ≡ Ctr key iv (place + size_of mac i) = moved_ctr key iv place (encrypted_part (is_encrypt_then_mac mac) (framed_text i)) ∙ ap (Ctr key iv) fit in
    subst (λ r. IsWell (Block r mac) (e + 1)) (sym after) (omega (arith, w.0, even), omega (arith, w.1, size))

-- the packets of one epoch are apart
pub epoch_apart : (at : Place) (items : List Item) (e : ℕ) → IsWell at.sealing e → at.number < 2 ^ 32 → e + packets_at 0 items + 3 < 2 ^ 32 → (bytes rest : List ℕ) → Reads (Some at) items bytes rest → ArePadded (Some at) items → AllApart (packets_of_epoch 0 (Some at) items)
epoch_apart at [] e w n f bytes rest r q = tt
epoch_apart at (i ∷ items) e w n f bytes rest r q =
    go (is_newkeys i) f
    (λ x y g. (
      apart_from (record { at = at; item = i }) (next_place at i) items 1 e (record { number = omega arith; sealing = first_later at.sealing i e w (omega (arith, g)) r.1.short q.0 }) w n (omega arith) (omega (arith, g)) q.0 r.0 rest x y,
      epoch_apart (next_place at i) items (e + 1) (well_next at.sealing i e w (omega (arith, g)) r.1.short q.0) (omega arith) (omega (arith, g)) r.0 rest x y,
    ))
    r.3 q.1
  where
    go : (b : Bool) → e + (if b then 1 else 1 + packets_at 0 items) + 3 < 2 ^ 32
        → (Reads (Some (next_place at i)) items r.0 rest → ArePadded (Some (next_place at i)) items → e + 1 + packets_at 0 items + 3 < 2 ^ 32 → ApartFrom (record { at = at; item = i }) (packets_of_epoch 0 (Some (next_place at i)) items) × AllApart (packets_of_epoch 0 (Some (next_place at i)) items))
        → Reads (if b then opened at.openings (next_number at.number) else Some (next_place at i)) items r.0 rest
        → ArePadded (if b then opened at.openings (next_number at.number) else Some (next_place at i)) items
        → AllApart ((record { at = at; item = i }) ∷ (if b then [] else packets_of_epoch 0 (if b then opened at.openings (next_number at.number) else Some (next_place at i)) items))
    go true f k x y = (tt, tt)
    go false f k x y = k x y (omega (arith, f))

-- the start states that a direction takes up
abbrev pub StartWell : List Opening → Type 0
StartWell [] = Unit {0}
StartWell (o ∷ os) = IsWell o.sealing 0 × StartWell os

kept_small : (b : Bool) (n : ℕ) → n < 2 ^ 32 → Rattle.ssh_packet.specs.Stream.kept_number b n < 2 ^ 32
kept_small true n h = omega arith
kept_small false n h = h

abbrev OpeningsWell : Option Place → Type 0
OpeningsWell None = Unit {0}
OpeningsWell (Some p) = StartWell p.openings

-- behind the end of an epoch a direction begins anew
opened_well : (openings : List Opening) (n : ℕ) → StartWell openings → OpeningsWell (opened openings n)
opened_well [] n h = tt
opened_well (o ∷ os) n h = h.1

-- the first epoch that was opened
opened_apart : (openings : List Opening) (n : ℕ) (items : List Item) (bytes rest : List ℕ) → StartWell openings → n < 2 ^ 32 → packets_at 0 items + 3 < 2 ^ 32 → Reads (opened openings n) items bytes rest → ArePadded (opened openings n) items → AllApart (packets_of_epoch 0 (opened openings n) items)
opened_apart [] n [] bytes rest w m f r q = tt
opened_apart [] n (i ∷ items) bytes rest w m f r q = absurd r
opened_apart (o ∷ os) n items bytes rest w m f r q = epoch_apart _ items 0 w.0 (kept_small o.strict n m) (omega (arith, f)) bytes rest r q

-- In each epoch behind the first, no number, no nonce and no counter block is used twice.
pub fresh : (k : ℕ) (at : Option Place) (items : List Item) (bytes rest : List ℕ) → OpeningsWell at → packets_at (suc k) items + 3 < 2 ^ 32 → Reads at items bytes rest → ArePadded at items → AllApart (packets_of_epoch (suc k) at items)
fresh k at [] bytes rest w f r q = tt
fresh k None (i ∷ items) bytes rest w f r q = tt
fresh zero (Some at) (i ∷ items) bytes rest w f r q =
    go (is_newkeys i) f (λ g x y. opened_apart at.openings (next_number at.number) items r.0 rest w (omega arith) g x y) (λ g x y. fresh zero (Some (next_place at i)) items r.0 rest w g x y) r.3 q.1
  where
    go : (b : Bool) → (if b then packets_at 0 items else packets_at 1 items) + 3 < 2 ^ 32
        → (packets_at 0 items + 3 < 2 ^ 32 → Reads (opened at.openings (next_number at.number)) items r.0 rest → ArePadded (opened at.openings (next_number at.number)) items → AllApart (packets_of_epoch 0 (opened at.openings (next_number at.number)) items))
        → (packets_at 1 items + 3 < 2 ^ 32 → Reads (Some (next_place at i)) items r.0 rest → ArePadded (Some (next_place at i)) items → AllApart (packets_of_epoch 1 (Some (next_place at i)) items))
        → Reads (if b then opened at.openings (next_number at.number) else Some (next_place at i)) items r.0 rest
        → ArePadded (if b then opened at.openings (next_number at.number) else Some (next_place at i)) items
        → AllApart (if b then packets_of_epoch 0 (if b then opened at.openings (next_number at.number) else Some (next_place at i)) items else packets_of_epoch 1 (if b then opened at.openings (next_number at.number) else Some (next_place at i)) items)
    go true f k l x y = k f x y
    go false f k l x y = l f x y
fresh (suc n) (Some at) (i ∷ items) bytes rest w f r q =
    go (is_newkeys i) f (λ g x y. fresh n (opened at.openings (next_number at.number)) items r.0 rest (opened_well at.openings (next_number at.number) w) g x y) (λ g x y. fresh (suc n) (Some (next_place at i)) items r.0 rest w g x y) r.3 q.1
  where
    go : (b : Bool) → (if b then packets_at (suc n) items else packets_at (suc (suc n)) items) + 3 < 2 ^ 32
        → (packets_at (suc n) items + 3 < 2 ^ 32 → Reads (opened at.openings (next_number at.number)) items r.0 rest → ArePadded (opened at.openings (next_number at.number)) items → AllApart (packets_of_epoch (suc n) (opened at.openings (next_number at.number)) items))
        → (packets_at (suc (suc n)) items + 3 < 2 ^ 32 → Reads (Some (next_place at i)) items r.0 rest → ArePadded (Some (next_place at i)) items → AllApart (packets_of_epoch (suc (suc n)) (Some (next_place at i)) items))
        → Reads (if b then opened at.openings (next_number at.number) else Some (next_place at i)) items r.0 rest
        → ArePadded (if b then opened at.openings (next_number at.number) else Some (next_place at i)) items
        → AllApart (if b then packets_of_epoch (suc n) (if b then opened at.openings (next_number at.number) else Some (next_place at i)) items else packets_of_epoch (suc (suc n)) (if b then opened at.openings (next_number at.number) else Some (next_place at i)) items)
    go true f k l x y = k f x y
    go false f k l x y = l f x y
