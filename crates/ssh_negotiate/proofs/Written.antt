-- What a side reads of a KEXINIT that a peer wrote: a choice for each list.
use Rattle.std.proofs.Common.{◌≡◌, ℕ, ◌+◌, ◌^◌, ◌<◌, ◌≤◌, List, [], ◌∷◌, ◌++◌, length, drop, map, refl, ◌∙◌, ap, subst, arith, Bool, true, false, ◌||◌, if◌then◌else◌, nat_lt, Result, Ok, Err, length-append}
use Rattle.std.specs.Str.{is_utf8, chars}
use Rattle.std.proofs.lemmas.Bool.Decides.{nat_tests}
use Rattle.std.proofs.Math.Seq.{drop-append_seam}
use Rattle.ssh_wire.specs.Fields.{text_at}
use Rattle.ssh_wire.specs.Forms.{u32be, joined_names, name_list}
use Rattle.ssh_wire.specs.Names.{names_at, IsName, AreNames, name_list_limit}
use Rattle.ssh_wire.proofs.Lemmas.{text_again, u32_again}
use Rattle.ssh_wire.proofs.Lemmas.{joined_utf8, names_again}
use Rattle.ssh_wire.specs.declared.error.AlgorithmKind.TheVariants.{Kex, Key, Cipher, Compression}
use Rattle.ssh_wire.specs.declared.side.Side.{Side}
use Rattle.ssh_negotiate.specs.Advertised.{Offers, advertised_lists, name_lists, kexinit, kexinit_end, kex_texts, key_texts, cipher_texts, mac_texts, compression_texts, host_text, cipher_text, mac_text, compression_text}
use Rattle.ssh_negotiate.specs.Chosen.{◌>>=◌, names_with, without_extensions}
use Rattle.ssh_negotiate.specs.Laws.{IsListed, IsWithin, ShortKexinit}
use Rattle.ssh_negotiate.specs.Reading.{KexinitFault, Inconsistent, field, at_end, read_rest, read_fields, names_read, select, select_mac, compared_kex, both_strict}
use Rattle.ssh_negotiate.specs.Tables.{kex_text}
use Rattle.ssh_negotiate.specs.declared.negotiation.Names.{Names}
use Rattle.ssh_negotiate.proofs.Texts.{texts_are_names, kex_name, host_name, cipher_name, mac_name, compression_name}

-- a list that is read as it was written
abbrev IsGood : List (List ℕ) → Type 0
IsGood ts = AreNames ts × (length (joined_names ts) ≤ name_list_limit)

good : {A : Type 0} (text : A → List ℕ) → ((a : A) → IsName (text a)) → (xs : List A) → IsListed (map text xs) → IsGood (map text xs)
good text each xs l = (record { each = texts_are_names text each xs; count = l.count }, l.size)

list_field : {A : Type 0} (ts : List (List ℕ)) (rest : List ℕ) (f : List (List ℕ) → List ℕ → Result A KexinitFault) → IsGood ts → field (names_at (name_list ts ++ rest)) f ≡ f ts rest
unfolding field
list_field ts rest f g = ap (λ r. field r f) (names_again ts rest g.0 g.1)

pub alike : {A B E : Type 0} (r : Result A E) (f g : A → Result B E) → ((a : A) → f a ≡ g a) → (r >>= f) ≡ (r >>= g)
unfolding ◌>>=◌
alike (Ok a) f g h = h a
alike (Err e) f g h = refl

-- names that are joined are a text
joined_text : {A : Type 0} (ts : List (List ℕ)) (rest : List ℕ) (f : List ℕ → List ℕ → Result A KexinitFault) → length (joined_names ts) < 2 ^ 32 → is_utf8 (joined_names ts) ≡ true → field (text_at (name_list ts ++ rest)) f ≡ f (joined_names ts) rest
unfolding field
joined_text ts rest f short utf8 = ap (λ r. field r f) (text_again (joined_names ts) rest short utf8)

nothing_utf8 : is_utf8 [] ≡ true
unfolding is_utf8 chars
nothing_utf8 = refl

-- the end of a KEXINIT that was written
rest_read : {A : Type 0} (names : Bool → A) → read_rest kexinit_end names ≡ Ok (names false)
unfolding read_rest field
rest_read names =
    joined_text [] _ _ (omega arith) nothing_utf8
    ∙ (joined_text [] _ _ (omega arith) nothing_utf8
    ∙ ap (λ r. field r (λ _ u. at_end u (names false))) (u32_again 0 [] (omega arith)))

-- the choices, one after the other, where no guess follows
unfoldable pub by_lists : Side → Offers → Bool → Offers → Result Names KexinitFault
by_lists side own still_strict peer =
    select kex_text side Kex (without_extensions own.kex) (compared_kex (kex_texts peer)) >>= λ kex.
    select host_text side Key own.key (key_texts peer) >>= λ host.
    select cipher_text side Cipher own.cipher (cipher_texts peer) >>= λ cipher.
    select_mac side cipher.1 own.mac (mac_texts peer) >>= λ client_mac.
    select_mac side cipher.1 own.mac (mac_texts peer) >>= λ server_mac.
    select compression_text side Compression own.compression (compression_texts peer) >>= λ _.
    select compression_text side Compression own.compression (compression_texts peer) >>= λ _.
    Ok (names_with kex.1 host.1 cipher.1 client_mac server_mac false (still_strict || both_strict side own (kex_texts peer)))

short_join : (ts : List (List ℕ)) → IsGood ts → length (joined_names ts) < 2 ^ 32
short_join ts g = omega (arith, g.1)

lists_good : (o : Offers) → IsWithin o → IsGood (kex_texts o) × IsGood (key_texts o) × IsGood (cipher_texts o) × IsGood (mac_texts o) × IsGood (compression_texts o)
lists_good o w = (
  good kex_text kex_name o.kex w.kex,
  good host_text host_name o.key w.key,
  good cipher_text cipher_name o.cipher w.cipher,
  good mac_text mac_name o.mac w.mac,
  good compression_text compression_name o.compression w.compression,
)

fields_by_lists : (side : Side) (own : Offers) (still : Bool) (peer : Offers) → IsWithin peer → read_fields side own still (name_lists (advertised_lists peer) kexinit_end) ≡ by_lists side own still peer
unfolding read_fields by_lists
fields_by_lists side own still peer w =
    let g = lists_good peer w in
    list_field (kex_texts peer) _ _ g.0 ∙ alike _ _ _ (λ kex.
    list_field (key_texts peer) _ _ g.1 ∙ alike _ _ _ (λ host.
    list_field (cipher_texts peer) _ _ g.2 ∙ alike _ _ _ (λ cipher.
    joined_text (cipher_texts peer) _ _ (short_join (cipher_texts peer) g.2) (joined_utf8 (cipher_texts peer) (g.2).0) ∙ (
    list_field (mac_texts peer) _ _ g.3 ∙ alike _ _ _ (λ client_mac.
    list_field (mac_texts peer) _ _ g.3 ∙ alike _ _ _ (λ server_mac.
    list_field (compression_texts peer) _ _ g.4 ∙ alike _ _ _ (λ one.
    list_field (compression_texts peer) _ _ g.4 ∙ alike _ _ _ (λ two.
    rest_read _))))))))

-- what a side reads of the KEXINIT that the other wrote
pub read_written : (side : Side) (own : Offers) (still : Bool) (peer : Offers) (cookie : List ℕ) → IsWithin peer → length cookie ≡ 16 → names_read side own still (kexinit peer cookie) ≡ by_lists side own still peer
unfolding names_read kexinit
read_written side own still peer cookie w h =
    let lists = name_lists (advertised_lists peer) kexinit_end in
    let seventeen : length (20 ∷ cookie) ≡ 17 = omega (arith, h) in
    let long : nat_lt (length ((20 ∷ cookie) ++ lists)) 17 ≡ false = grind (arith, nat_tests, length-append (20 ∷ cookie) lists) in
    let cut : drop 17 ((20 ∷ cookie) ++ lists) ≡ lists = subst (λ n. drop n ((20 ∷ cookie) ++ lists) ≡ lists) seventeen (drop-append_seam (20 ∷ cookie) lists) in
    ap (λ c. if c then Err Inconsistent else read_fields side own still (drop 17 ((20 ∷ cookie) ++ lists))) long
    ∙ (ap (read_fields side own still) cut ∙ fields_by_lists side own still peer w)

-- ---- the length

list_length : (ts : List (List ℕ)) (rest : List ℕ) → length (joined_names ts) ≤ name_list_limit → length (name_list ts ++ rest) ≤ 4 + name_list_limit + length rest
list_length ts rest h = omega (arith, length-append (name_list ts) rest, length-append (u32be (length (joined_names ts))) (joined_names ts))

pub short_kexinit : ShortKexinit
unfolding kexinit
short_kexinit o cookie w h =
    let kex = w.kex in
    let key = w.key in
    let cipher = w.cipher in
    let mac = w.mac in
    let compression = w.compression in
    let e = kexinit_end in
    let two = list_length (compression_texts o) e compression in
    let a = name_list (compression_texts o) ++ e in
    let three = list_length (compression_texts o) a compression in
    let b = name_list (compression_texts o) ++ a in
    let four = list_length (mac_texts o) b mac in
    let c = name_list (mac_texts o) ++ b in
    let five = list_length (mac_texts o) c mac in
    let d = name_list (mac_texts o) ++ c in
    let six = list_length (cipher_texts o) d cipher in
    let f = name_list (cipher_texts o) ++ d in
    let seven = list_length (cipher_texts o) f cipher in
    let g = name_list (cipher_texts o) ++ f in
    let eight = list_length (key_texts o) g key in
    let i = name_list (key_texts o) ++ g in
    let nine = list_length (kex_texts o) i kex in
    let front : length (20 ∷ cookie) ≡ 17 = omega (arith, h) in
    omega (arith, front, two, three, four, five, six, seven, eight, nine, length-append (20 ∷ cookie) (name_list (kex_texts o) ++ i))
