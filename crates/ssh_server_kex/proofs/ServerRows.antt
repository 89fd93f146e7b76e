-- A server's rows, over plain variables.
use Rattle.std.proofs.Common.{◌≡◌, ℕ, ◌-◌, ◌<◌, ◌^◌, ◌==◌, if◌then◌else◌, List, [], ◌∷◌, ◌++◌, length, append-nil, length-drop, take, drop, refl, sym, ap, subst, ◌∙◌, arith, Bool, true, false, ◌&&◌, find, Option, Some, None, Result, Ok, Err, inl, inr}
use Rattle.std.proofs.lemmas.Bool.Decides.{nat_tests}
use Rattle.std.proofs.lemmas.List.{take_all}
use Rattle.std.proofs.lemmas.List.Elements.{All-head, All-tail}
use Rattle.std.specs.List.{All}
use Rattle.std.specs.Str.{bytes_eq}
use Rattle.std.specs.Global.{Box}
use Rattle.ssh_negotiate.specs.Advertised.{fits, has_key}
use Rattle.ssh_negotiate.specs.Preferences.{Hosts}
use Rattle.ssh_negotiate.specs.declared.kex.KexCause.{KexCause}
use Rattle.ssh_negotiate.specs.declared.negotiation.Names.{Names}
use Rattle.ssh_negotiate.specs.declared.preferred.HostCertificate.{HostCertificate}
use Rattle.ssh_negotiate.specs.declared.preferred.HostKey.{HostKey}
use Rattle.ssh_packet.specs.Stream.{message_type}
use Rattle.ssh_packet.specs.Writing.{IsSizeOrMemory, Writer}
use Rattle.ssh_packet.specs.declared.keys.CipherPair.{CipherPair}
use Rattle.ssh_wire.specs.Fields.{answer_of, string_at}
use Rattle.ssh_wire.specs.Forms.{string}
use Rattle.ssh_wire.specs.declared.algorithm.Algorithm.{Algorithm}
use Rattle.ssh_wire.specs.declared.error.EncodingFault.{EncodingFault}
use Rattle.ssh_wire.specs.declared.error.EncodingFault.TheVariants.{TrailingData}
use Rattle.ssh_wire.specs.declared.error.Error.{Error}
use Rattle.ssh_wire.specs.declared.error.Error.TheVariants as errors
use Rattle.ssh_kex.specs.Agreeing.{Agreeing, IsWhole}
use Rattle.ssh_wire.specs.declared.side.Side.TheVariants.{Server}
use Rattle.ssh_kex.specs.Exchange.{exchange_hash}
use Rattle.ssh_kex.specs.Messages.{Presented, by_certificate, by_holder, by_key, host_with, is_gex, newkeys, presented, reply_message, request_message, sizes_text, value_message}
use Rattle.ssh_kex.specs.Parts.{Presents, Setup}
use Rattle.ssh_kex.specs.Fields.{sizes_front, sizes_in, value_in}
use Rattle.ssh_server_kex.specs.ServerRows.{AgreesOn, AnswersValue, AreShortBlobs, CanAnswer, IsLongAnswer, RefusesAnswer, RefusesSizes, RefusesText, ServerRefusesValue}
use Rattle.ssh_kex.specs.Setting.{kept_of}
use Rattle.ssh_kex.specs.Signature.{judged}
use Rattle.ssh_kex.specs.Stepping.{PutsAll}
use Rattle.ssh_kex.specs.Views.{HasKeys}
use Rattle.ssh_kex.specs.declared.config.Config.{Config}
use Rattle.ssh_kex.specs.declared.exchange.Exchange.{Exchange}
use Rattle.ssh_kex.specs.declared.exchange.FinishedExchange.{FinishedExchange}
use Rattle.ssh_kex.specs.declared.exchange.ServerHost.{ServerHost}
use Rattle.ssh_kex.specs.declared.group.GexParams.{GexParams}

pub is_type : (t n : ℕ) (b : Bool) → b ≡ (t == n) → b ≡ true → t ≡ n
is_type t n b e f = let g : (t == n) ≡ true = sym e ∙ f in grind (arith, nat_tests)

pub isnt_type : (t n : ℕ) (b : Bool) → b ≡ (t == n) → b ≡ false → t ≡ n → ⊥
isnt_type t n b e f h = let g : (t == n) ≡ false = sym e ∙ f in grind (arith, nat_tests)

-- ---- what is presented

pub shows_key : (h : Hosts) (keys : List HostKey) (b : Bool) (a : Algorithm) (k : HostKey) → keys ≡ h.keys → b ≡ false → Some k ≡ find (λ (k : HostKey). fits k.algorithm a) keys → Some (record { signer = k; blob = k.blob }) ≡ presented h b a
unfolding presented
shows_key h keys true a k e1 e f = cc
shows_key h keys false a k e1 e f = ap by_key (f ∙ ap (find (λ (k : HostKey). fits k.algorithm a)) e1)

found_certificate : (h : Hosts) (keys : List HostKey) (certificates : List HostCertificate) (a : Algorithm) (c : HostCertificate) → keys ≡ h.keys → certificates ≡ h.certificates → Some c ≡ find (λ (c : HostCertificate). fits c.algorithm a && has_key keys c) certificates → Some c ≡ find (λ (c : HostCertificate). fits c.algorithm a && has_key h.keys c) h.certificates
found_certificate h keys certificates a c e1 e2 f =
    subst (λ ks. Some c ≡ find (λ (c : HostCertificate). fits c.algorithm a && has_key ks c) h.certificates) e1
    (subst (λ cs. Some c ≡ find (λ (c : HostCertificate). fits c.algorithm a && has_key keys c) cs) e2 f)

held_key : (h : Hosts) (keys : List HostKey) (blob blob' : List ℕ) (o : Option HostKey) → keys ≡ h.keys → blob ≡ blob' → o ≡ find (λ (k : HostKey). bytes_eq k.blob blob) keys → o ≡ find (λ (k : HostKey). bytes_eq k.blob blob') h.keys
held_key h keys blob blob' o e1 e2 f =
    subst (λ ks. o ≡ find (λ (k : HostKey). bytes_eq k.blob blob') ks) e1
    (subst (λ b. o ≡ find (λ (k : HostKey). bytes_eq k.blob b) keys) e2 f)

pub shows_certificate : (h : Hosts) (keys : List HostKey) (certificates : List HostCertificate) (blob : List ℕ) (b : Bool) (a : Algorithm) (c : HostCertificate) (k : HostKey) → keys ≡ h.keys → certificates ≡ h.certificates → blob ≡ c.key_blob → b ≡ true → Some c ≡ find (λ (c : HostCertificate). fits c.algorithm a && has_key keys c) certificates → Some k ≡ find (λ (k : HostKey). bytes_eq k.blob blob) keys → Some (record { signer = k; blob = c.blob }) ≡ presented h b a
unfolding presented
shows_certificate h keys certificates blob true a c k e1 e2 e3 e f g = ap (by_holder c.blob) (held_key h keys blob c.key_blob (Some k) e1 e3 g) ∙ ap (by_certificate h.keys) (found_certificate h keys certificates a c e1 e2 f)
shows_certificate h keys certificates blob false a c k e1 e2 e3 e f g = cc

pub shows_none : (h : Hosts) (keys : List HostKey) (certificates : List HostCertificate) (blob : List ℕ) (b : Bool) (a : Algorithm) (c : HostCertificate) → keys ≡ h.keys → certificates ≡ h.certificates → blob ≡ c.key_blob → b ≡ true → Some c ≡ find (λ (c : HostCertificate). fits c.algorithm a && has_key keys c) certificates → None ≡ find (λ (k : HostKey). bytes_eq k.blob blob) keys → None ≡ presented h b a
unfolding presented
shows_none h keys certificates blob true a c e1 e2 e3 e f g = ap (by_holder c.blob) (held_key h keys blob c.key_blob None e1 e3 g) ∙ ap (by_certificate h.keys) (found_certificate h keys certificates a c e1 e2 f)
shows_none h keys certificates blob false a c e1 e2 e3 e f g = cc

-- ---- sizes that are read

-- what is behind the type
pub behind : (payload r : List ℕ) → r ≡ take (length payload - 1) (drop 1 payload) → r ≡ drop 1 payload
behind payload r e = e ∙ take_all (length payload - 1) (drop 1 payload) (omega (arith, length-drop 1 payload))

pub sizes_refused : (payload : List ℕ) (e : Error) → message_type payload ≡ 34 → answer_of (sizes_front (drop 1 payload)) ≡ Err e → RefusesSizes payload e
unfolding sizes_in
sizes_refused payload e t h = by (sizes_front (drop 1 payload)) refl h
  where
    by : (o : Result (GexParams × List ℕ) EncodingFault) → sizes_front (drop 1 payload) ≡ o → answer_of o ≡ Err e → RefusesSizes payload e
    by (Ok p) f h = cc
    by (Err fault) f h = inr (t, (fault, rw f refl, cc))

pub sizes_trailing : (payload rest : List ℕ) (e : Error) (g : GexParams) → message_type payload ≡ 34 → sizes_front (drop 1 payload) ≡ Ok (g, rest) → 0 < length rest → e ≡ errors.SshEncoding TrailingData → RefusesSizes payload e
unfolding sizes_in
sizes_trailing payload [] e g t f h d = absurd (omega arith)
sizes_trailing payload (b ∷ rest) e g t f h d = inr (t, (TrailingData, rw f refl, d))

behind_type : (payload fields : List ℕ) (t : ℕ) → 0 < t → message_type payload ≡ t → drop 1 payload ≡ fields → payload ≡ t ∷ fields
behind_type [] fields t h m d = absurd (omega (arith, m))
behind_type (b ∷ payload) fields t h m d = cc

pub request_is : (payload rest : List ℕ) (g : GexParams) → message_type payload ≡ 34 → drop 1 payload ≡ sizes_text g ++ rest → rest ≡ [] → payload ≡ request_message g
request_is payload rest g m d e = behind_type payload (sizes_text g) 34 (omega arith) m (d ∙ ap (λ r. sizes_text g ++ r) e ∙ append-nil (sizes_text g))

pub sizes_there : (payload rest : List ℕ) (g : GexParams) → sizes_front (drop 1 payload) ≡ Ok (g, rest) → rest ≡ [] → sizes_in (drop 1 payload) ≡ Ok g
unfolding sizes_in
sizes_there payload rest g f e = rw (f, e) refl

-- ---- a value that is read

pub value_refused : (gex : Bool) (payload : List ℕ) (e : Error) → message_type payload ≡ message_type (value_message gex []) → answer_of (string_at (drop 1 payload)) ≡ Err e → RefusesText gex payload e
unfolding value_in
value_refused gex payload e t h = by (string_at (drop 1 payload)) refl h
  where
    by : (o : Result (List ℕ × List ℕ) EncodingFault) → string_at (drop 1 payload) ≡ o → answer_of o ≡ Err e → RefusesText gex payload e
    by (Ok p) f h = cc
    by (Err fault) f h = inr (t, (fault, rw f refl, cc))

pub value_trailing : (gex : Bool) (payload rest v : List ℕ) (e : Error) → message_type payload ≡ message_type (value_message gex []) → string_at (drop 1 payload) ≡ Ok (v, rest) → 0 < length rest → e ≡ errors.SshEncoding TrailingData → RefusesText gex payload e
unfolding value_in
value_trailing gex payload [] v e t f h d = absurd (omega arith)
value_trailing gex payload (b ∷ rest) v e t f h d = inr (t, (TrailingData, rw f refl, d))

pub value_is : (gex : Bool) (payload rest v : List ℕ) → message_type payload ≡ message_type (value_message gex []) → drop 1 payload ≡ string v ++ rest → rest ≡ [] → payload ≡ value_message gex v
value_is true payload rest v m d e = behind_type payload (string v) 32 (omega arith) m (d ∙ ap (λ r. string v ++ r) e ∙ append-nil (string v))
value_is false payload rest v m d e = behind_type payload (string v) 30 (omega arith) m (d ∙ ap (λ r. string v ++ r) e ∙ append-nil (string v))

pub value_there : (payload rest v : List ℕ) → string_at (drop 1 payload) ≡ Ok (v, rest) → rest ≡ [] → value_in (drop 1 payload) ≡ Ok v
unfolding value_in
value_there payload rest v f e = rw (f, e) refl

-- ---- lengths

found_all : {A : Type 0} (P : A → Type 0) (test : A → Bool) (xs : List A) (x : A) → All P xs → find test xs ≡ Some x → P x
found_all P test [] x h e = cc
found_all {A} P test (y ∷ ys) x h e = by (test y) e (found_all P test ys x (All-tail P y ys h))
  where
    by : (b : Bool) → (if b then Some y else find test ys) ≡ Some x → (find test ys ≡ Some x → P x) → P x
    by true e later = let same : y ≡ x = cc in subst P same (All-head P y ys h)
    by false e later = later e

-- what is presented is short
pub shown_short : (h : Hosts) (b : Bool) (a : Algorithm) (p : Presented) → AreShortBlobs h → Some p ≡ presented h b a → length p.blob < 2 ^ 31
unfolding presented
shown_short h false a p s e = by (find (λ (k : HostKey). fits k.algorithm a) h.keys) refl e
  where
    by : (o : Option HostKey) → find (λ (k : HostKey). fits k.algorithm a) h.keys ≡ o → Some p ≡ by_key o → length p.blob < 2 ^ 31
    by None f e = cc
    by (Some k) f e = let short = found_all (λ (k : HostKey). length k.blob < 2 ^ 31) _ h.keys k s.keys f in let same : p ≡ record { signer = k; blob = k.blob } = cc in subst (λ (q : Presented). length q.blob < 2 ^ 31) (sym same) short
shown_short h true a p s e = by (find (λ (c : HostCertificate). fits c.algorithm a && has_key h.keys c) h.certificates) refl e
  where
    held : (c : HostCertificate) (o : Option HostKey) → length c.blob < 2 ^ 31 → Some p ≡ by_holder c.blob o → length p.blob < 2 ^ 31
    held c None short e = cc
    held c (Some k) short e = let same : p ≡ record { signer = k; blob = c.blob } = cc in subst (λ (q : Presented). length q.blob < 2 ^ 31) (sym same) short

    by : (o : Option HostCertificate) → find (λ (c : HostCertificate). fits c.algorithm a && has_key h.keys c) h.certificates ≡ o → Some p ≡ by_certificate h.keys o → length p.blob < 2 ^ 31
    by None f e = cc
    by (Some c) f e = held c _ (found_all (λ (c : HostCertificate). length c.blob < 2 ^ 31) _ h.certificates c s.certificates f) e

pub whole : (config : Config) (n : Names) (x y : Exchange) (host v w : List ℕ) → CanAnswer config n x → length host < 2 ^ 31 → length v < 2 ^ 31 → length w < 2 ^ 31 → y ≡ record x { client_ephemeral = v; server_ephemeral = w } → IsWhole n.kex host y
whole config n x y host v w c h a b e =
    subst (IsWhole n.kex host) (sym e)
    (record {
      host_short = h;
      client_id = c.client_id;
      server_id = c.server_id;
      client_kex_init = c.client_kex_init;
      server_kex_init = c.server_kex_init;
      client_ephemeral = a;
      server_ephemeral = b;
      group = c.group;
      kind = c.kind;
    })

-- what an exchange's hash asks
pub hashes : (Made : List ℕ → List ℕ → Type 0) (config : Config) (n : Names) (x y : Exchange) (k : Agreeing) (p : Presented) (v copy : List ℕ) → CanAnswer config n x → AgreesOn Made n.kex (record x { client_ephemeral = copy }) y k → Some p ≡ presented config.host n.host_key_is_certificate n.key → copy ≡ v → length v < 2 ^ 31 → (host : List ℕ) → host ≡ p.blob → IsWhole k.name host y
hashes Made config n x y k p v copy c a s e h host b =
    subst (λ name. IsWhole name host y) (sym (ap (λ (z : Agreeing). z.name) a.algorithm_is))
    (whole config n x y host copy a.value c (subst (λ z. length z < 2 ^ 31) (sym b) (shown_short config.host n.host_key_is_certificate n.key p c.blobs s)) (subst (λ z. length z < 2 ^ 31) (sym e) h) a.value_short a.exchange_is)

-- ---- the answer to a value

pub signs_it : {H : Type 0} (Makes : Config → ServerHost → List ℕ → List ℕ → Type 0) (Obliging : H → Setup → Type 0) (config : Config) (n : Names) (p : Presented) (hash signature : List ℕ)
    → ((later : H) (s : Setup) (host : ServerHost) → Obliging later s → Presents s.server host p.signer n.key → Makes s.server host hash signature) → Some p ≡ presented config.host n.host_key_is_certificate n.key
    → (later : H) (s : Setup) → s.server ≡ config → Obliging later s → Makes config (host_with n p.blob) hash signature
signs_it Makes Obliging config n p hash signature made shown later s e o =
    subst (λ z. Makes z (host_with n p.blob) hash signature) e
    (made later s (host_with n p.blob) o (record { shown = ap (λ (z : Config). presented z.host n.host_key_is_certificate n.key) e ∙ sym shown; same = refl }))

-- and refuses to sign it only where it doesn't sign for what is presented
pub unsigned_it : (Signs : Setup → Type 0) (config : Config) (n : Names) (p : Presented)
    → ((s : Setup) (host : ServerHost) → Signs s → Presents s.server host p.signer n.key → ⊥) → Some p ≡ presented config.host n.host_key_is_certificate n.key
    → (s : Setup) → s.server ≡ config → Signs s → ⊥
unsigned_it Signs config n p never shown s e o =
    never s (host_with n p.blob) o (record { shown = ap (λ (z : Config). presented z.host n.host_key_is_certificate n.key) e ∙ sym shown; same = refl })

pub value_done : (Made Makes : List ℕ → List ℕ → Type 0) (Agrees : List ℕ → List ℕ → List ℕ → Type 0) (Signs : ServerHost → List ℕ → List ℕ → Type 0) (config : Config) (cause : KexCause) (n : Names) (x y : Exchange) (payload : List ℕ) (old new : Writer) (f : FinishedExchange × Box CipherPair)
    (k : Agreeing) (p : Presented) (value copy host hash signature shown own sent reply : List ℕ) (gex : Bool)
    → gex ≡ is_gex n.kex → payload ≡ value_message gex value → length value < 2 ^ 31 → CanAnswer config n x
    → AgreesOn Made n.kex (record x { client_ephemeral = copy }) y k → copy ≡ value
    → ((v w : List ℕ) → Made v w → Makes copy v) → ((v w : List ℕ) → Made v w → Agrees copy v w)
    → Some p ≡ presented config.host n.host_key_is_certificate n.key
    → host ≡ p.blob → hash ≡ exchange_hash k.name y host k.secret → length signature < 2 ^ 31 → Signs (host_with n p.blob) hash (judged signature)
    → f.0 ≡ kept_of cause n k.secret hash → HasKeys Server f.0 f.1
    → shown ≡ p.blob → own ≡ y.server_ephemeral → sent ≡ signature → reply ≡ reply_message gex shown own sent → PutsAll old (reply ∷ newkeys ∷ []) new
    → AnswersValue Makes Agrees Signs config cause n x y payload old new f
value_done Made Makes Agrees Signs config cause n x y payload old new f k p value copy host hash signature shown own sent reply gex g is short can a copied makes agrees presents host_is hash_is signature_short signs made keys shown_is own_is sent_is reply_is puts =
    let hashed : hash ≡ exchange_hash n.kex y p.blob (Some a.secret) = hash_is ∙ ap (λ (z : Agreeing). exchange_hash z.name y host z.secret) a.algorithm_is ∙ ap (λ b. exchange_hash n.kex y b (Some a.secret)) host_is in
    let kept : f.0 ≡ kept_of cause n (Some a.secret) hash = made ∙ ap (λ (z : Agreeing). kept_of cause n z.secret hash) a.algorithm_is in
    let own_value : own ≡ a.value = own_is ∙ ap (λ (z : Exchange). z.server_ephemeral) a.exchange_is in
    let replied : reply ≡ reply_message (is_gex n.kex) p.blob a.value signature = reply_is ∙ ap (λ b. reply_message b shown own sent) g ∙ ap (λ b. reply_message (is_gex n.kex) b own sent) shown_is ∙ ap (λ b. reply_message (is_gex n.kex) p.blob b sent) own_value ∙ ap (λ b. reply_message (is_gex n.kex) p.blob a.value b) sent_is in
    record {
      value = copy;
      own_value = a.value;
      secret = a.secret;
      signature = signature;
      shown = p;
      payload_is = is ∙ ap (λ b. value_message b value) g ∙ ap (λ v. value_message (is_gex n.kex) v) (sym copied);
      value_short = subst (λ v. length v < 2 ^ 31) (sym copied) short;
      own_value_short = a.value_short;
      host_short = shown_short config.host n.host_key_is_certificate n.key p can.blobs presents;
      signature_short = signature_short;
      agrees = agrees a.value a.secret a.made;
      makes = makes a.value a.secret a.made;
      presents = sym presents;
      signs = subst (λ h. Signs (host_with n p.blob) h (judged signature)) (ap (λ (m : FinishedExchange). m.hash) (sym kept)) signs;
      exchange_is = a.exchange_is;
      made_is = kept ∙ ap (λ h. kept_of cause n (Some a.secret) h) hashed;
      keys = keys;
      puts = subst (λ r. PutsAll old (r ∷ newkeys ∷ []) new) replied puts;
    }

-- a message that begins as a client's value has its type
value_typed : (b : Bool) (payload value : List ℕ) → payload ≡ value_message b value → message_type payload ≡ message_type (value_message b [])
value_typed true payload value e = ap message_type e
value_typed false payload value e = ap message_type e

pub sign_refused : (Denied : List ℕ → Type 0) (Unsigned : Type 0) (Long : ℕ → Type 0) (n : Names) (payload value : List ℕ) (gex : Bool)
    → gex ≡ is_gex n.kex → payload ≡ value_message gex value → value_in (drop 1 payload) ≡ Ok value → Unsigned
    → ServerRefusesValue (is_gex n.kex) Denied Unsigned Long payload errors.Signature
sign_refused Denied Unsigned Long n payload value gex g is read u =
    inr (value_typed (is_gex n.kex) payload value (is ∙ ap (λ b. value_message b value) g), inr (inl ((value, read), u, refl)))

pub reply_refused : (Made : List ℕ → List ℕ → Type 0) (Denied : List ℕ → Type 0) (Unsigned : Type 0) (Makes : List ℕ → List ℕ → Type 0) (ValueSmall SignatureSmall : List ℕ → Type 0) (config : Config) (n : Names) (x y : Exchange) (payload : List ℕ) (e : Error) (k : Agreeing) (p : Presented) (value copy signature shown own sent reply : List ℕ) (gex : Bool)
    → gex ≡ is_gex n.kex → payload ≡ value_message gex value → value_in (drop 1 payload) ≡ Ok value → copy ≡ value
    → AgreesOn Made n.kex x y k → ((v w : List ℕ) → Made v w → Makes copy v) → ((v w : List ℕ) → Made v w → ValueSmall v) → SignatureSmall signature
    → Some p ≡ presented config.host n.host_key_is_certificate n.key
    → shown ≡ p.blob → own ≡ y.server_ephemeral → sent ≡ signature → reply ≡ reply_message gex shown own sent → IsSizeOrMemory (length reply) e
    → ServerRefusesValue (is_gex n.kex) Denied Unsigned (IsLongAnswer Makes ValueSmall SignatureSmall config n payload) payload e
reply_refused Made Denied Unsigned Makes ValueSmall SignatureSmall config n x y payload e k p value copy signature shown own sent reply gex g is read copied a makes small signed presents shown_is own_is sent_is reply_is cause =
    inr (value_typed (is_gex n.kex) payload value (is ∙ ap (λ b. value_message b value) g), by cause)
  where
    by : IsSizeOrMemory (length reply) e → RefusesAnswer Denied Unsigned (IsLongAnswer Makes ValueSmall SignatureSmall config n payload) payload e
    by (inl h) =
        let own_value : own ≡ a.value = own_is ∙ ap (λ (z : Exchange). z.server_ephemeral) a.exchange_is in
        let replied : reply ≡ reply_message (is_gex n.kex) p.blob a.value signature = reply_is ∙ ap (λ b. reply_message b shown own sent) g ∙ ap (λ b. reply_message (is_gex n.kex) b own sent) shown_is ∙ ap (λ b. reply_message (is_gex n.kex) p.blob b sent) own_value ∙ ap (λ b. reply_message (is_gex n.kex) p.blob a.value b) sent_is in
        inr (inr (inl (length reply, h.0, record { value = value; own_value = a.value; shown = p; signature = signature; read = read; presents = sym presents; makes = subst (λ v. Makes v a.value) copied (makes a.value a.secret a.made); value_small = small a.value a.secret a.made; signature_small = signed; size_is = ap length replied }, h.1)))
    by (inr h) = inr (inr (inr h))
