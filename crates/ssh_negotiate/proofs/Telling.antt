-- How long a list is, name by name.
use Rattle.std.proofs.Common.{◌≡◌, ℕ, ◌+◌, ◌<◌, ◌≤◌, List, [], ◌∷◌, ◌++◌, length, map, take, get_or, Bool, true, false, if◌then◌else◌, IsTrue, ◌↔◌, refl, sym, ap, subst, ◌∙◌, arith, append_assoc, append-nil}
use Rattle.std.specs.Prelude.{min, filter, not, ◌&&◌, Some, None}
use Rattle.std.specs.List.{flat_map}
use Rattle.std.proofs.lemmas.List.{length-append, take_more, take_all, map-append}
use Rattle.std.proofs.lemmas.List.Elements.{filter-append}
use Rattle.std.proofs.lemmas.Grind.{flat_map-append}
use Rattle.ssh_mac.specs.declared.mac.Name as macs
use Rattle.ssh_packet.specs.declared.cipher.Name as ciphers
use Rattle.ssh_packet.specs.declared.compression.Name as compressions
use Rattle.ssh_wire.specs.Algorithms.{algorithm_name, certificate_name}
use Rattle.ssh_wire.specs.Forms.{joined_names}
use Rattle.ssh_wire.specs.Names.{name_limit}
use Rattle.ssh_wire.specs.declared.algorithm.Algorithm.{Algorithm}
use Rattle.ssh_wire.specs.declared.side.Side.TheVariants.{Client, Server}
use Rattle.ssh_negotiate.specs.Advertised.{Offers, certificate_names, cipher_text, compression_text, each_once, fits, has_key, host_text, is_foreign, mac_text, offers_with, some_fits}
use Rattle.ssh_negotiate.specs.Laws.{AreShort, IsListed, IsWithin}
use Rattle.ssh_negotiate.specs.Preferences.{Hosts, Preferences}
use Rattle.ssh_negotiate.specs.Reading.{offered_by}
use Rattle.ssh_negotiate.specs.Tables.{kex_text}
use Rattle.ssh_negotiate.specs.Told.{Knows, Tells, bytes_with_commas, has_seen}
use Rattle.ssh_negotiate.specs.declared.kex.Name as kexes
use Rattle.ssh_negotiate.specs.declared.negotiation.HostName.TheVariants.{Certificate, Plain}
use Rattle.ssh_negotiate.specs.declared.preferred.HostCertificate.{HostCertificate}
use Rattle.ssh_negotiate.specs.declared.preferred.HostKey.{HostKey}
use Rattle.ssh_negotiate.specs.declared.told.Seen.{Seen}
use Rattle.ssh_negotiate.specs.declared.told.Told.{Told}
use Rattle.ssh_negotiate.proofs.Once.{once_new, once_there}
use Rattle.ssh_negotiate.proofs.Within.{all_within}

bytes_more : (texts : List (List ℕ)) (t : List ℕ) → bytes_with_commas (texts ++ t ∷ []) ≡ bytes_with_commas texts + (length t + 1)
bytes_more [] t = omega arith
bytes_more (x ∷ texts) t = ap (λ n. (length x + 1) + n) (bytes_more texts t) ∙ omega arith

length_more : (texts : List (List ℕ)) (t : List ℕ) → length (texts ++ t ∷ []) ≡ length texts + 1
length_more texts t = length-append texts (t ∷ [])

-- a count that stops goes on as a whole count that is stopped
stops : (n m k most : ℕ) → n ≡ min m most → min (n + k) most ≡ min (m + k) most
stops n m k most e = omega arith

one_more : (old : ℕ) (s n : ℕ) → old < 18446744073709551616 → s ≡ min (old + 1) 18446744073709551615 → n ≡ min s (name_limit + 1) → n ≡ min (old + 1) (name_limit + 1)
one_more old s n f e g = omega arith

name_more : (old l s t n : ℕ) → s ≡ min (old + l) 18446744073709551615 → t ≡ min (s + 1) 18446744073709551615 → n ≡ min t 16386 → n ≡ min (old + (l + 1)) 16386
name_more old l s t n e f g = omega arith

pub told_more : (old new : Told) (name : List ℕ) (s t u : ℕ) → old.names < 18446744073709551616 → s ≡ min (old.names + 1) 18446744073709551615 → new.names ≡ min s (name_limit + 1) → t ≡ min (old.bytes + length name) 18446744073709551615 → u ≡ min (t + 1) 18446744073709551615 → new.bytes ≡ min u 16386
    → (texts : List (List ℕ)) → Tells old texts → Tells new (texts ++ name ∷ [])
told_more old new name s t u f es en et eu eb texts h = record {
  names = one_more old.names s new.names f es en ∙ (stops old.names (length texts) 1 (name_limit + 1) h.names ∙ sym (ap (λ n. min n (name_limit + 1)) (length_more texts name)));
  bytes = name_more old.bytes (length name) t u new.bytes et eu eb ∙ (stops old.bytes (bytes_with_commas texts) (length name + 1) 16386 h.bytes ∙ sym (ap (λ n. min n 16386) (bytes_more texts name)));
}

-- ---- the front of a list that passes a test, one further

front_kept : {A : Type 0} (p : A → Bool) (xs : List A) (i : ℕ) (d : A) → i < length xs → true ≡ p (get_or xs i d) → filter p (take (i + 1) xs) ≡ filter p (take i xs) ++ get_or xs i d ∷ []
front_kept p xs i d h e = ap (filter p) (take_more xs i d h) ∙ (filter-append p (take i xs) (get_or xs i d ∷ []) ∙ ap (λ l. filter p (take i xs) ++ l) (one (p (get_or xs i d)) refl)) where
  one : (b : Bool) → p (get_or xs i d) ≡ b → filter p (get_or xs i d ∷ []) ≡ get_or xs i d ∷ []
  one true f = ap (λ c. if c then get_or xs i d ∷ [] else []) f
  one false f = let t : true ≡ false = e ∙ f in cc

front_left : {A : Type 0} (p : A → Bool) (xs : List A) (i : ℕ) (d : A) → i < length xs → false ≡ p (get_or xs i d) → filter p (take (i + 1) xs) ≡ filter p (take i xs)
front_left p xs i d h e = ap (filter p) (take_more xs i d h) ∙ (filter-append p (take i xs) (get_or xs i d ∷ []) ∙ (ap (λ l. filter p (take i xs) ++ l) (one (p (get_or xs i d)) refl) ∙ append-nil (filter p (take i xs)))) where
  one : (b : Bool) → p (get_or xs i d) ≡ b → filter p (get_or xs i d ∷ []) ≡ []
  one false f = ap (λ c. if c then get_or xs i d ∷ [] else []) f
  one true f = let t : false ≡ true = e ∙ f in cc

-- ---- one turn of a loop

-- texts that are told behind others
abbrev pub TellsMore : Told → Told → List (List ℕ) → Type 0
TellsMore old new more = (texts : List (List ℕ)) → Tells old texts → Tells new (texts ++ more)

pub turn_told : {A : Type 0} (text : A → List ℕ) (fn old new : Told) (before after : List A) (x : A) (name : List ℕ) → after ≡ before ++ x ∷ [] → name ≡ text x → TellsMore fn old (map text before) → TellsMore old new (name ∷ []) → TellsMore fn new (map text after)
turn_told text fn old new before after x name is e h k texts t =
    subst (Tells new) (append_assoc texts (map text before) (name ∷ []) ∙ ap (λ l. texts ++ l) (sym (ap (map text) is ∙ (map-append text before (x ∷ []) ∙ ap (λ n. map text before ++ n ∷ []) (sym e)))))
    (k (texts ++ map text before) (h texts t))

pub turn_kept : {A : Type 0} (text : A → List ℕ) (fn old new : Told) (xs : List A) (i : ℕ) (d : A) (name : List ℕ) → i < length xs → name ≡ text (get_or xs i d) → TellsMore fn old (map text (take i xs)) → TellsMore old new (name ∷ []) → TellsMore fn new (map text (take (i + 1) xs))
turn_kept text fn old new xs i d name h = turn_told text fn old new (take i xs) (take (i + 1) xs) (get_or xs i d) name (take_more xs i d h)

pub turn_passed : {A : Type 0} (p : A → Bool) (text : A → List ℕ) (fn old new : Told) (xs : List A) (i : ℕ) (d : A) (name : List ℕ) → i < length xs → true ≡ p (get_or xs i d) → name ≡ text (get_or xs i d) → TellsMore fn old (map text (filter p (take i xs))) → TellsMore old new (name ∷ []) → TellsMore fn new (map text (filter p (take (i + 1) xs)))
turn_passed p text fn old new xs i d name h e = turn_told text fn old new (filter p (take i xs)) (filter p (take (i + 1) xs)) (get_or xs i d) name (front_kept p xs i d h e)

pub turn_left : {A : Type 0} (p : A → Bool) (text : A → List ℕ) (fn old new : Told) (xs : List A) (i : ℕ) (d : A) → i < length xs → false ≡ p (get_or xs i d) → new ≡ old → TellsMore fn old (map text (filter p (take i xs))) → TellsMore fn new (map text (filter p (take (i + 1) xs)))
turn_left p text fn old new xs i d h e same k texts t = subst (λ l. Tells new (texts ++ map text l)) (sym (front_left p xs i d h e)) (subst (λ n. Tells n (texts ++ map text (filter p (take i xs)))) (sym same) (k texts t))

pub all_told : {A : Type 0} (text : List A → List (List ℕ)) (fn new : Told) (xs : List A) (n : ℕ) → length xs ≤ n → TellsMore fn new (text (take n xs)) → TellsMore fn new (text xs)
all_told text fn new xs n h = subst (λ l. TellsMore fn new (text l)) (take_all n xs h)

-- ---- certificates

-- those of a list are told, and marked
abbrev pub TellsOnce : Told → Seen → List Algorithm → Type 0
TellsOnce told seen list = Tells told (map certificate_name list) × Knows seen list

pub once_taken : (old new : Told) (seen marked : Seen) (xs : List Algorithm) (a : Algorithm) (name : List ℕ) → false ≡ has_seen seen a → name ≡ certificate_name a → TellsMore old new (name ∷ []) → ((list : List Algorithm) → Knows seen list → Knows marked (list ++ a ∷ [])) → TellsOnce old seen (each_once xs) → TellsOnce new marked (each_once (xs ++ a ∷ []))
once_taken old new seen marked xs a name unseen e tells marks h =
    subst (TellsOnce new marked) (sym (once_new xs a (sym (unseen ∙ h.1 a))))
    (subst (Tells new) (sym (map-append certificate_name (each_once xs) (a ∷ []) ∙ ap (λ n. map certificate_name (each_once xs) ++ n ∷ []) (sym e))) (tells (map certificate_name (each_once xs)) h.0), marks (each_once xs) h.1)

pub once_known : (told : Told) (seen : Seen) (xs : List Algorithm) (a : Algorithm) → true ≡ has_seen seen a → TellsOnce told seen (each_once xs) → TellsOnce told seen (each_once (xs ++ a ∷ []))
once_known told seen xs a known h = subst (TellsOnce told seen) (sym (once_there xs a (sym (known ∙ h.1 a)))) h

pub once_further : (P : List Algorithm → Type 0) (p : Algorithm → Bool) (found xs : List Algorithm) (i : ℕ) (d : Algorithm) → i < length xs → true ≡ p (get_or xs i d) → P (each_once ((found ++ filter p (take i xs)) ++ get_or xs i d ∷ [])) → P (each_once (found ++ filter p (take (i + 1) xs)))
once_further P p found xs i d h e = subst (λ l. P (each_once l)) (append_assoc found (filter p (take i xs)) (get_or xs i d ∷ []) ∙ ap (λ l. found ++ l) (sym (front_kept p xs i d h e)))

pub once_left : (P : List Algorithm → Type 0) (p : Algorithm → Bool) (found xs : List Algorithm) (i : ℕ) (d : Algorithm) → i < length xs → false ≡ p (get_or xs i d) → P (each_once (found ++ filter p (take i xs))) → P (each_once (found ++ filter p (take (i + 1) xs)))
once_left P p found xs i d h e = subst (λ l. P (each_once (found ++ l))) (sym (front_left p xs i d h e))

pub once_all : (P : List Algorithm → Type 0) (p : Algorithm → Bool) (found xs : List Algorithm) (n : ℕ) → length xs ≤ n → P (each_once (found ++ filter p (take n xs))) → P (each_once (found ++ filter p xs))
once_all P p found xs n h = subst (λ l. P (each_once (found ++ filter p l))) (take_all n xs h)

pub once_same : (told next : Told) (seen marked : Seen) (list : List Algorithm) → next ≡ told → marked ≡ seen → TellsOnce told seen list → TellsOnce next marked list
once_same told next seen marked list e f h = (subst (λ n. Tells n (map certificate_name list)) (sym e) h.0, subst (λ m. Knows m list) (sym f) h.1)

-- what is made of those that pass, one further

pub held_kept : {X A : Type 0} (P : List A → Type 0) (f : X → List A) (p : X → Bool) (xs : List X) (i : ℕ) (x : X) → i < length xs → x ≡ get_or xs i x → true ≡ p x → P (flat_map f (filter p (take i xs)) ++ f x) → P (flat_map f (filter p (take (i + 1) xs)))
held_kept P f p xs i x h is e =
    subst P (sym (ap (flat_map f) (front_kept p xs i x h (e ∙ ap p is)) ∙ (flat_map-append f (filter p (take i xs)) (get_or xs i x ∷ []) ∙ ap (λ l. flat_map f (filter p (take i xs)) ++ l) (append-nil (f (get_or xs i x)) ∙ ap f (sym is)))))

pub held_left : {X A : Type 0} (P : List A → Type 0) (f : X → List A) (p : X → Bool) (xs : List X) (i : ℕ) (x : X) → i < length xs → x ≡ get_or xs i x → false ≡ p x → P (flat_map f (filter p (take i xs))) → P (flat_map f (filter p (take (i + 1) xs)))
held_left P f p xs i x h is e = subst (λ l. P (flat_map f l)) (sym (front_left p xs i x h (e ∙ ap p is)))

pub held_all : {X A : Type 0} (P : List A → Type 0) (f : X → List A) (p : X → Bool) (xs : List X) (n : ℕ) → length xs ≤ n → P (flat_map f (filter p (take n xs))) → P (flat_map f (filter p xs))
held_all P f p xs n h = subst (λ l. P (flat_map f (filter p l))) (take_all n xs h)

-- ---- whether a list can be advertised

commas : (t : List ℕ) (texts : List (List ℕ)) → bytes_with_commas (t ∷ texts) ≡ length (joined_names (t ∷ texts)) + 1
commas t [] = omega arith
commas t (u ∷ texts) = ap (λ n. (length t + 1) + n) (commas u texts) ∙ (omega arith ∙ sym (ap (λ n. n + 1) (length-append t (44 ∷ joined_names (u ∷ texts)))))

joined_within : (texts : List (List ℕ)) → (bytes_with_commas texts ≤ 16385 → length (joined_names texts) ≤ 16384) × (length (joined_names texts) ≤ 16384 → bytes_with_commas texts ≤ 16385)
joined_within [] = (λ h. omega arith, λ h. omega arith)
joined_within (t ∷ texts) = let e = commas t texts in (λ h. omega (arith, e), λ h. omega (arith, e))

whole : (n m most : ℕ) → n ≡ min m (most + 1) → n ≤ most → m ≤ most
whole n m most e h = omega arith

stopped : (n m most : ℕ) → n ≡ min m (most + 1) → m ≤ most → n ≤ most
stopped n m most e h = omega arith

pub told_listed : (told : Told) (texts : List (List ℕ)) → told.names ≤ name_limit → Tells told texts → (told.bytes ≤ 16385 → IsListed texts) × (IsListed texts → told.bytes ≤ 16385)
told_listed told texts h t = (
  λ few. record { count = whole told.names (length texts) name_limit t.names h; size = (joined_within texts).0 (whole told.bytes (bytes_with_commas texts) 16385 t.bytes few) },
  λ listed. stopped told.bytes (bytes_with_commas texts) 16385 t.bytes ((joined_within texts).1 listed.size),
)

pub untold : (told : Told) (texts : List (List ℕ)) → name_limit < told.names → Tells told texts → IsListed texts → ⊥
untold told texts h t listed = omega (arith, stopped told.names (length texts) name_limit t.names listed.count)

-- ---- the lists of host keys

pub server_told : (nothing held fitted : Told) (preferred : List Algorithm) (a certificates : List HostCertificate) (b c keys : List HostKey) → a ≡ certificates → b ≡ keys → c ≡ keys
    → (Tells nothing [] → Tells held (map certificate_name (each_once (flat_map (λ (x : HostCertificate). filter (fits x.algorithm) preferred) (filter (has_key b) a)))))
    → TellsMore held fitted (map algorithm_name (filter (some_fits c) preferred)) → Tells nothing []
    → Tells fitted (map certificate_name (certificate_names preferred certificates keys) ++ map algorithm_name (filter (some_fits keys) preferred))
unfolding certificate_names
server_told nothing held fitted preferred a certificates b c keys ea eb ec h k t =
    let held_is = λ (l : List HostCertificate) (m : List HostKey). map certificate_name (each_once (flat_map (λ (x : HostCertificate). filter (fits x.algorithm) preferred) (filter (has_key m) l))) in
    subst (λ n. Tells fitted (held_is certificates keys ++ map algorithm_name (filter (some_fits n) preferred))) ec
    (k (held_is certificates keys) (subst (λ n. Tells held (held_is certificates n)) eb (subst (λ n. Tells held (held_is n b)) ea (h t))))

pub host_texts_are : (certificates keys : List Algorithm) → map host_text (map Certificate certificates ++ map Plain keys) ≡ map certificate_name certificates ++ map algorithm_name keys
unfolding host_text
host_texts_are [] [] = refl
host_texts_are [] (k ∷ keys) = ap (λ l. algorithm_name k ∷ l) (host_texts_are [] keys)
host_texts_are (c ∷ certificates) keys = ap (λ l. certificate_name c ∷ l) (host_texts_are certificates keys)

-- ---- all lists

-- the answer on a list is that on its texts
abbrev pub Lists : Bool → List (List ℕ) → Type 0
Lists b texts = IsTrue b ↔ IsListed texts

pub server_within : (p : Preferences) (h : Hosts) (r a b c d e : Bool) (kex : List kexes.Name) (key : List Algorithm) (cipher : List ciphers.Name) (mac : List macs.Name) (compression : List compressions.Name)
    → kex ≡ p.kex → key ≡ p.key → cipher ≡ p.cipher → mac ≡ p.mac → compression ≡ p.compression → r ≡ (a && (b && (c && (d && e))))
    → Lists a (map kex_text (filter (λ n. not (is_foreign Server n)) kex))
    → Lists b (map certificate_name (certificate_names key h.certificates h.keys) ++ map algorithm_name (filter (some_fits h.keys) key))
    → Lists c (map cipher_text cipher) → Lists d (map mac_text mac) → Lists e (map compression_text compression)
    → IsTrue r ↔ IsWithin (offered_by p (Some h))
unfolding offers_with
server_within p h r a b c d e kex key cipher mac compression ek ey ec em ez all ka kb kc kd ke =
    all_within (offered_by p (Some h)) r a b c d e all
    (subst (λ l. Lists a (map kex_text (filter (λ n. not (is_foreign Server n)) l))) ek ka)
    (subst (Lists b) (sym (host_texts_are (certificate_names p.key h.certificates h.keys) (filter (some_fits h.keys) p.key))) (subst (λ l. Lists b (map certificate_name (certificate_names l h.certificates h.keys) ++ map algorithm_name (filter (some_fits h.keys) l))) ey kb))
    (subst (λ l. Lists c (map cipher_text l)) ec kc) (subst (λ l. Lists d (map mac_text l)) em kd) (subst (λ l. Lists e (map compression_text l)) ez ke)

pub client_within : (p : Preferences) (r a b c d e : Bool) (kex : List kexes.Name) (certified key : List Algorithm) (cipher : List ciphers.Name) (mac : List macs.Name) (compression : List compressions.Name)
    → kex ≡ p.kex → certified ≡ p.host_key_certificates → key ≡ p.key → cipher ≡ p.cipher → mac ≡ p.mac → compression ≡ p.compression → r ≡ (a && (b && (c && (d && e))))
    → Lists a (map kex_text (filter (λ n. not (is_foreign Client n)) kex))
    → Lists b (map certificate_name certified ++ map algorithm_name key)
    → Lists c (map cipher_text cipher) → Lists d (map mac_text mac) → Lists e (map compression_text compression)
    → IsTrue r ↔ IsWithin (offered_by p None)
unfolding offers_with
client_within p r a b c d e kex certified key cipher mac compression ek er ey ec em ez all ka kb kc kd ke =
    all_within (offered_by p None) r a b c d e all
    (subst (λ l. Lists a (map kex_text (filter (λ n. not (is_foreign Client n)) l))) ek ka)
    (subst (Lists b) (sym (host_texts_are p.host_key_certificates p.key)) (subst (λ l. Lists b (map certificate_name p.host_key_certificates ++ map algorithm_name l)) ey (subst (λ l. Lists b (map certificate_name l ++ map algorithm_name key)) er kb)))
    (subst (λ l. Lists c (map cipher_text l)) ec kc) (subst (λ l. Lists d (map mac_text l)) em kd) (subst (λ l. Lists e (map compression_text l)) ez ke)

pub short_within : (r : Bool) (o : Offers) → (IsTrue r ↔ IsWithin o) → IsTrue r → AreShort o
short_within r o h t = let w = h.0 t in record { kex = w.kex.size; key = w.key.size; cipher = w.cipher.size; mac = w.mac.size; compression = w.compression.size }
