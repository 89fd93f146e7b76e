-- What blobs of keys and of signatures hold, and that a key which fits its host signs.
use Rattle.std.proofs.Common.{◌≡◌, ℕ, ◌^◌, ◌<◌, ◌≤◌, ◌==◌, nat_lt, Bool, true, false, List, [], ◌∷◌, ◌++◌, length, Option, Some, None, Result, Ok, Err, if◌then◌else◌, IfOk, IfSome, refl, sym, ap, ◌∙◌, subst, arith, true≢false}
use Rattle.std.specs.Str.{bytes_eq, is_utf8, chars}
use lib.Utf8.{encode}
use Rattle.std.proofs.lemmas.Bool.Decides.{nat_tests}
use Rattle.std.proofs.lemmas.List.{append-nil}
use Rattle.std.proofs.lemmas.Nat.{mod_below}
use Rattle.std.proofs.lemmas.Slice.Eq.{bytes_eq-Decides}
use Rattle.ssh_wire.specs.Algorithms.{algorithm_name, hash_of}
use Rattle.ssh_wire.specs.Fields.{◌>>=◌, is_shortest, mpint_at, string_at}
use Rattle.ssh_wire.specs.Forms.{magnitude, number, string}
use Rattle.ssh_wire.specs.declared.algorithm.Algorithm.{Algorithm}
use Rattle.ssh_wire.specs.declared.algorithm.Algorithm.TheVariants.{Ed25519, Ecdsa, Rsa}
use Rattle.ssh_wire.specs.declared.algorithm.HashAlg.{HashAlg}
use Rattle.ssh_wire.specs.declared.algorithm.HashAlg.TheVariants.{Sha256, Sha512}
use Rattle.ssh_wire.specs.declared.error.EncodingFault.{EncodingFault}
use Rattle.ssh_wire.specs.declared.error.EncodingFault.TheVariants.{MpintEncoding}
use Rattle.ssh_wire.proofs.Lemmas.{string_again}
use Rattle.ssh_kex.proofs.Lemmas.{not_canonical}
use Rattle.ssh_kex.specs.Signature.{is_ecdsa, judged, or_same}
use Rattle.ssh_kex.specs.Parts.{Presents}
use Rattle.ssh_kex.specs.declared.config.Config.{Config}
use Rattle.ssh_kex.specs.declared.exchange.ServerHost.{ServerHost}
use Rattle.ssh_kex.specs.declared.parts.Refusal.{Refusal}
use Rattle.ssh_negotiate.specs.declared.preferred.HostKey.{HostKey}
use Rattle.ssh_power.specs.Numbers.{power_modulo}
use Rattle.ssh_power.proofs.Lemmas.{fault_none, magnitude_twice}
use Rattle.ssh_modp.proofs.Encoded.{below_modulus, room_for_each}
use Rattle.ssh_modp.proofs.Messages.{verified}
use Rattle.ssh_modp.specs.Hosts.{RsaSecret, SignsAll, SignsAs}
use Rattle.ssh_modp.specs.Rsa.{FailsItsTest, IsKeyPair, IsOwnSignature, IsRsaBlob, LacksSignature, RsaPublic, accepts_blobs, encoded_message, has_message, is_power_of_message, key_fields, rsa_accepts, rsa_key, rsa_signature, under_name, verifies, verifies_blobs}

-- ---- signatures

rsa_name_short : (hash : Option HashAlg) → length (algorithm_name (Rsa hash)) < 2 ^ 32
unfolding is_utf8 chars encode
rsa_name_short (Some Sha512) = omega arith
rsa_name_short (Some Sha256) = omega arith
rsa_name_short None = omega arith

-- what was spelled under a name is read again
pub signature_again : (hash : Option HashAlg) (s : List ℕ) → length s < 2 ^ 32
    → rsa_signature (Rsa hash) (string (algorithm_name (Rsa hash)) ++ string s) ≡ Some s
signature_again hash s h =
    let n : List ℕ = algorithm_name (Rsa hash) in
    let name : string_at (string n ++ string s) ≡ Ok (n, string s) = string_again n (string s) (rsa_name_short hash) in
    let body : string_at (string s) ≡ Ok (s, []) = ap string_at (sym (append-nil (string s))) ∙ string_again s [] h in
    ap (λ (r : Result (List ℕ × List ℕ) EncodingFault). under_name n
    (r >>= λ x. string_at x.1 >>= λ y. Ok ((x.0, y.0), y.1))) name
    ∙ ap (λ (r : Result (List ℕ × List ℕ) EncodingFault). under_name n (r >>= λ y. Ok ((n, y.0), y.1))) body
    ∙ ap (λ (t : Bool). if t then Some s else None) ((bytes_eq-Decides n n).1 refl)

-- a blob under an algorithm with a hash holds its signature
pub own_read : (a : Algorithm) (hash : HashAlg) (s : List ℕ) → hash_of a ≡ Some hash → length s < 2 ^ 32
    → rsa_signature a (string (algorithm_name a) ++ string s) ≡ Some s
own_read Ed25519 hash s e h = cc
own_read (Ecdsa curve) hash s e h = cc
own_read (Rsa given) hash s e h = signature_again given s h

plain_rsa : (hash : Option HashAlg) → is_ecdsa (algorithm_name (Rsa hash)) ≡ false
unfolding is_utf8 chars encode
plain_rsa (Some Sha512) = refl
plain_rsa (Some Sha256) = refl
plain_rsa None = refl

-- and it is what is judged of it
rsa_judged : (hash : Option HashAlg) (s : List ℕ) → length s < 2 ^ 32
    → judged (string (algorithm_name (Rsa hash)) ++ string s) ≡ string (algorithm_name (Rsa hash)) ++ string s
rsa_judged hash s h =
    ap (or_same _) (not_canonical (algorithm_name (Rsa hash)) s (plain_rsa hash) (rsa_name_short hash) h)

pub own_judged : (a : Algorithm) (hash : HashAlg) (blob : List ℕ) → hash_of a ≡ Some hash → IsRsaBlob a blob
    → judged blob ≡ blob
own_judged Ed25519 hash blob e b = cc
own_judged (Ecdsa curve) hash blob e b = cc
own_judged (Rsa given) hash blob e b =
    ap judged b.spelled ∙ rsa_judged given b.made (below b.short) ∙ sym b.spelled
  where
    below : {n : ℕ} → n ≤ 1024 → n < 2 ^ 32
    below h = omega (arith, h)

-- where the test of a blob fails, its signature is none
pub own_wrong : (blob text s : List ℕ) (a : Algorithm) (hash : HashAlg) (key : RsaPublic) → hash_of a ≡ Some hash
    → rsa_key blob ≡ Some key → length s ≤ 1024 → accepts_blobs blob a text (string (algorithm_name a) ++ string s) ≡ false
    → verifies hash text key s ≡ false
own_wrong blob text s a hash key e k short wrong =
    let read : rsa_signature a (string (algorithm_name a) ++ string s) ≡ Some s = own_read a hash s e (omega (arith, short)) in
    sym (ap (λ (h : Option HashAlg). verifies_blobs text h (rsa_key blob) (rsa_signature a (string (algorithm_name a) ++ string s))) e
    ∙ ap (λ (p : Option RsaPublic). verifies_blobs text (Some hash) p (rsa_signature a (string (algorithm_name a) ++ string s))) k
    ∙ ap (verifies_blobs text (Some hash) (Some key)) read) ∙ wrong

some_same : {X : Type 0} {x y : X} → ◌≡◌ {A = Option X} (Some x) (Some y) → x ≡ y
some_same h = cc

-- so what was made of a text fails its test
pub failed_test : (blob private text s exponent modulus signature : List ℕ) (a : Algorithm) (made : HashAlg)
    → hash_of a ≡ Some made → rsa_key blob ≡ Some (record { exponent = exponent; modulus = modulus })
    → IsOwnSignature made text modulus private s → length s ≤ 1024
    → signature ≡ string (algorithm_name a) ++ string s → accepts_blobs blob a text signature ≡ false
    → (hash : HashAlg) (key : RsaPublic) → hash_of a ≡ Some hash → rsa_key blob ≡ Some key
    → FailsItsTest hash text key private
failed_test blob private text s exponent modulus signature a made m k own short spelled wrong hash key e f =
    let named : made ≡ hash = some_same (sym m ∙ e) in
    let held : record { exponent = exponent; modulus = modulus } ≡ key = some_same (sym k ∙ f) in
    record {
      made = s;
      own = subst (λ (h : HashAlg). IsOwnSignature h text key.modulus private s) named
          (subst (λ (p : RsaPublic). IsOwnSignature made text p.modulus private s) held own);
      wrong = own_wrong blob text s a hash key e f short (ap (λ (b : List ℕ). accepts_blobs blob a text b) (sym spelled) ∙ wrong);
    }

-- ---- keys

then_ok : {A B : Type 0} (r : Result A EncodingFault) (f : A → Result B EncodingFault) (y : B) → (r >>= f) ≡ Ok y
    → (x : A) × (r ≡ Ok x) × (f x ≡ Ok y)
then_ok (Ok x) f y h = (x, refl, h)
then_ok (Err e) f y h = cc

under_ok : {X : Type 0} (name : List ℕ) (r : Result ((List ℕ × X) × List ℕ) EncodingFault) (x : X)
    → under_name name r ≡ Some x → (given : List ℕ) × (r ≡ Ok ((given, x), []))
under_ok name (Err fault) x e = cc
under_ok {X = X} name (Ok ((given, y), [])) x e = step (bytes_eq given name) e
  where
    step : (t : Bool) → ◌≡◌ {A = Option X} (if t then Some y else None) (Some x)
        → (p : List ℕ) × (◌≡◌ {A = Result ((List ℕ × X) × List ℕ) EncodingFault} (Ok ((given, y), [])) (Ok ((p, x), [])))
    step true h = let same : y ≡ x = cc in (given, ap (λ (z : X). Ok ((given, z), [])) same)
    step false h = cc
under_ok name (Ok (y, b ∷ rest)) x e = cc

abbrev first_or : {A B : Type 0} → A → Result (A × B) EncodingFault → A
first_or x (Ok p) = p.0
first_or x (Err fault) = x

-- a number that was read has no zeros at its front
mpint_front : (bytes m rest : List ℕ) → mpint_at bytes ≡ Ok (m, rest) → magnitude m ≡ m
unfolding mpint_at
mpint_front bytes m rest h =
    let s = then_ok (string_at bytes) (λ x. if is_shortest x.0 then Ok (magnitude x.0, x.1) else Err MpintEncoding) (m, rest) h in
    step (s.0).0 (s.0).1 (is_shortest (s.0).0) s.2
  where
    step : (x r : List ℕ) (t : Bool)
        → ◌≡◌ {A = Result (List ℕ × List ℕ) EncodingFault} (if t then Ok (magnitude x, r) else Err MpintEncoding) (Ok (m, rest))
        → magnitude m ≡ m
    step x r true e = let same : magnitude x ≡ m = ap (λ q. first_or m q) e in subst (λ (l : List ℕ). magnitude l ≡ l) same (magnitude_twice x)
    step x r false e = cc

front_kept : {m n : List ℕ} → m ≡ n → magnitude m ≡ m → magnitude n ≡ n
front_kept same front = subst (λ (l : List ℕ). magnitude l ≡ l) same front

-- the modulus of a key has no zeros at its front
pub key_front : (blob : List ℕ) (key : RsaPublic) → rsa_key blob ≡ Some key → magnitude key.modulus ≡ key.modulus
key_front blob key h =
    let u = under_ok _ (key_fields blob) key h in
    let name = then_ok (string_at blob) (λ n. mpint_at n.1 >>= λ e. mpint_at e.1 >>= λ m.
    Ok ((n.0, record { exponent = e.0; modulus = m.0 }), m.1)) ((u.0, key), []) u.1 in
    let exponent = then_ok (mpint_at (name.0).1) (λ e. mpint_at e.1 >>= λ m.
    Ok (((name.0).0, record { exponent = e.0; modulus = m.0 }), m.1)) ((u.0, key), []) name.2 in
    let modulus = then_ok (mpint_at (exponent.0).1) (λ m.
    Ok (((name.0).0, record { exponent = (exponent.0).0; modulus = m.0 }), m.1)) ((u.0, key), []) exponent.2 in
    front_kept {m = (modulus.0).0} (held (exponent.0).0 (modulus.0).0 modulus.2)
    (mpint_front (exponent.0).1 (modulus.0).0 (modulus.0).1 modulus.1)
  where
    held : {a b c : List ℕ} {p : List ℕ} (e m : List ℕ)
        → ◌≡◌ {A = Result ((List ℕ × RsaPublic) × List ℕ) EncodingFault} (Ok ((a, record { exponent = e; modulus = m }), b)) (Ok ((p, key), c))
        → m ≡ key.modulus
    held {a} e m h = ap (λ (r : Result ((List ℕ × RsaPublic) × List ℕ) EncodingFault). ((first_or (a, key) r).1).modulus) h

-- ---- signing

-- the own signature of a pair's private exponent verifies
own_verifies : (hash : HashAlg) (text private s : List ℕ) (key : RsaPublic) → IsKeyPair key private
    → magnitude key.modulus ≡ key.modulus → has_message hash text (length key.modulus) ≡ true
    → IsOwnSignature hash text key.modulus private s → verifies hash text key s ≡ true
unfolding is_power_of_message
own_verifies hash text private s key pair front room own =
    let n : ℕ = number key.modulus in
    let m : ℕ = number (encoded_message hash text (length key.modulus)) in
    let back : power_modulo (number s) (number key.exponent) n ≡ m =
    ap (λ (x : ℕ). power_modulo x (number key.exponent) n) own.spelled
    ∙ pair.undone m (below_modulus hash text key.modulus front room) in
    let one : nat_lt 1 n ≡ true = (fault_none n pair.modulus).0 in
    let least : 1 < n = grind (arith, nat_tests) in
    let less : number s < n = subst (λ (x : ℕ). x < n) (sym own.spelled) (mod_below (m ^ number private) n (omega (arith, least))) in
    let long : length s ≡ length key.modulus = own.long in
    let same : (power_modulo (number s) (number key.exponent) n == m) ≡ true = grind (arith, nat_tests) in
    sym (verified hash text key s true pair.modulus room (grind (arith, nat_tests)) (grind (arith, nat_tests)) (sym same))

-- so a key that fits its host signs each text
pub never_lacks : (secret : RsaSecret) (host : ServerHost) (text : List ℕ) → SignsAs secret host
    → LacksSignature secret.blob secret.private host.algorithm text → ⊥
never_lacks secret host text fits lacks =
    let room : has_message fits.hash text (length fits.public.modulus) ≡ true =
    room_for_each fits.hash text (length fits.public.modulus) fits.room in
    let failed = lacks fits.hash fits.public fits.hashed fits.read fits.pair.modulus room in
    true≢false (sym (own_verifies fits.hash text secret.private failed.made fits.public fits.pair
    (key_front secret.blob fits.public fits.read) room failed.own) ∙ failed.wrong)

-- and what it makes is one that the host's blob accepts, as it is judged
pub made_for : (secret : RsaSecret) (host : ServerHost) (text blob : List ℕ) → SignsAs secret host
    → IsRsaBlob host.algorithm blob → accepts_blobs secret.blob host.algorithm text blob ≡ true
    → rsa_accepts host text (judged blob) ≡ true
made_for secret host text blob fits form right =
    ap (λ (b : List ℕ). accepts_blobs host.blob host.algorithm text b) (own_judged host.algorithm fits.hash blob fits.hashed form)
    ∙ (ap (λ (b : List ℕ). accepts_blobs b host.algorithm text blob) (sym fits.blob) ∙ right)

-- ---- the two clauses of a host that signs

-- what a host's key made, where there is one
pub made_by : (key : Option RsaSecret) (server : Config) (host : ServerHost) (signer : HostKey) (a : Algorithm) (text : List ℕ)
    (result : Result (List ℕ) Refusal) → SignsAll key server → Presents server host signer a
    → IfOk result (λ b. IfSome key (λ k. accepts_blobs k.blob a text b ≡ true)) → IfOk result (λ b. IsRsaBlob a b)
    → IfOk result (λ b. rsa_accepts host text (judged b) ≡ true)
made_by key server host signer a text (Err e) signs shown right form = tt
made_by key server host signer a text (Ok b) signs shown right form =
    let held : IfSome (Some signs.secret) (λ k. accepts_blobs k.blob a text b ≡ true) =
    subst (λ (o : Option RsaSecret). IfSome o (λ k. accepts_blobs k.blob a text b ≡ true)) signs.held right in
    made_for signs.secret host text b (signs.each host signer a shown)
    (subst (λ (x : Algorithm). IsRsaBlob x b) (sym shown.same) form)
    (subst (λ (x : Algorithm). accepts_blobs (signs.secret).blob x text b ≡ true) (sym shown.same) held)

-- and it refuses none
pub never_by : (key : Option RsaSecret) (server : Config) (host : ServerHost) (signer : HostKey) (a : Algorithm) (text : List ℕ)
    → SignsAll key server → Presents server host signer a
    → IfSome key (λ k. LacksSignature k.blob k.private a text) → ⊥
never_by key server host signer a text signs shown lacks =
    let held : IfSome (Some signs.secret) (λ k. LacksSignature k.blob k.private a text) =
    subst (λ (o : Option RsaSecret). IfSome o (λ k. LacksSignature k.blob k.private a text)) signs.held lacks in
    never_lacks signs.secret host text (signs.each host signer a shown)
    (subst (λ (x : Algorithm). LacksSignature (signs.secret).blob (signs.secret).private x text) (sym shown.same) held)
