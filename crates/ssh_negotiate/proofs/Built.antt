-- The payload that is written is the KEXINIT of what is offered.
use Rattle.std.proofs.Common.{◌≡◌, ℕ, ◌<◌, List, [], ◌∷◌, ◌++◌, length, sym, ap, subst, ◌∙◌, arith, append_assoc, Option, Result, Ok, Err, OnOk}
use Rattle.std.proofs.lemmas.List.{length-replicate}
use Rattle.rand_core.specs.Stream.{Stream}
use Rattle.ssh_packet.specs.Sealing.{Sealing, Item, IsPadded, Clear, Block, Gcm, longest_payload, padding_length}
use Rattle.ssh_wire.specs.Forms.{name_list}
use Rattle.ssh_negotiate.specs.Preferences.{Preferences, Hosts}
use Rattle.ssh_negotiate.specs.Advertised.{Offers, offers_with, kexinit, kexinit_end, kex_texts, key_texts, cipher_texts, mac_texts, compression_texts}
use Rattle.ssh_negotiate.specs.Laws.{AreShort}
use Rattle.ssh_negotiate.specs.Parts.{with_lists}
use Rattle.ssh_negotiate.specs.Reading.{offered_by}
use Rattle.ssh_negotiate.specs.declared.kex.Name as kexes
use Rattle.ssh_negotiate.specs.declared.negotiation.HostName.{HostName}
use Rattle.ssh_negotiate.proofs.Written.{short_kexinit}

pub payload_built : (o : Offers) (cookie a b c d e f g h : List ℕ) → a ≡ [] ++ 20 ∷ [] → b ≡ a ++ cookie → c ≡ b ++ name_list (kex_texts o) → d ≡ c ++ name_list (key_texts o)
    → e ≡ (d ++ name_list (cipher_texts o)) ++ name_list (cipher_texts o) → f ≡ (e ++ name_list (mac_texts o)) ++ name_list (mac_texts o) → g ≡ (f ++ name_list (compression_texts o)) ++ name_list (compression_texts o)
    → h ≡ g ++ kexinit_end → h ≡ kexinit o cookie
unfolding kexinit
payload_built o cookie a b c d e f g h ea eb ec ed ee ef eg eh =
    eh ∙ ap (λ l. l ++ kexinit_end) (eg ∙ ap (λ l. (l ++ name_list (compression_texts o)) ++ name_list (compression_texts o)) (ef ∙ ap (λ l. (l ++ name_list (mac_texts o)) ++ name_list (mac_texts o)) (ee ∙ ap (λ l. (l ++ name_list (cipher_texts o)) ++ name_list (cipher_texts o)) (ed ∙ ap (λ l. l ++ name_list (key_texts o)) (ec ∙ ap (λ l. l ++ name_list (kex_texts o)) (eb ∙ ap (λ l. l ++ cookie) ea))))))
    ∙ grouped (20 ∷ cookie) (name_list (kex_texts o)) (name_list (key_texts o)) (name_list (cipher_texts o)) (name_list (mac_texts o)) (name_list (compression_texts o)) kexinit_end
  where
    grouped : (x k y c m p z : List ℕ) → ((((((((x ++ k) ++ y) ++ c) ++ c) ++ m) ++ m) ++ p) ++ p) ++ z ≡ x ++ (k ++ (y ++ (c ++ (c ++ (m ++ (m ++ (p ++ (p ++ z))))))))
    grouped x k y c m p z = simp append_assoc

-- with the lists that are offered, what is offered
pub offers_are : (p : Preferences) (h : Option Hosts) (kex : List kexes.Name) (key : List HostName) → kex ≡ (offered_by p h).kex → key ≡ (offered_by p h).key → with_lists p kex key ≡ offered_by p h
unfolding offers_with
offers_are p h kex key e f = ap (λ l. with_lists p l key) e ∙ ap (λ l. with_lists p (offered_by p h).kex l) f

pub built_short : (o : Offers) (cookie payload : List ℕ) → AreShort o → length cookie ≡ 16 → payload ≡ kexinit o cookie → length payload < longest_payload
built_short o cookie payload w l e = let P : List ℕ → Type 0 = λ n. length n < longest_payload in subst P (sym e) (short_kexinit o cookie w l)

pub built_some : (o : Offers) (cookie payload : List ℕ) → payload ≡ kexinit o cookie → 0 < length payload
unfolding kexinit
built_some o cookie payload e = let P : List ℕ → Type 0 = λ n. 0 < length n in subst P (sym e) (omega arith)

-- what is said of a payload and a stream is said of their equals
pub carried : (P : List ℕ → Stream → Type 0) (p q : List ℕ) (s t : Stream) → p ≡ q → s ≡ t → P p s → P q t
carried P p q s t e f h = subst (λ x. P x t) e (subst (λ x. P p x) f h)

pub padding_is : (s : Sealing) (i : Item) → IsPadded s i → length i.padding ≡ padding_length s (length i.payload)
padding_is Clear i h = ap length h ∙ length-replicate _ _
padding_is (Block running mac) i h = h
padding_is (Gcm key nonce) i h = h

pub kexinit_is : (o q : Offers) (a b payload : List ℕ) → o ≡ q → a ≡ b → payload ≡ kexinit o a → payload ≡ kexinit q b
kexinit_is o q a b payload e f h = h ∙ (ap (λ x. kexinit x a) e ∙ ap (kexinit q) f)

pub short_still : (o q : Offers) → o ≡ q → AreShort q → AreShort o
short_still o q e w = subst AreShort (sym e) w

pub on_ok : {A E : Type 0} (r : Result A E) (P : Type 0) → P → OnOk r P
on_ok (Ok x) P h = h
on_ok (Err e) P h = tt
