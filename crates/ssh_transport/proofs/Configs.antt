-- A configuration that passes the tests can be used.
use Rattle.std.proofs.Common.{◌≡◌, ℕ, ◌+◌, ◌<◌, ◌≤◌, ◌^◌, Bool, true, false, not, if◌then◌else◌, ◌&&◌, ◌||◌, nat_le, nat_lt, List, [], ◌∷◌, ◌++◌, length, Option, Some, None, IsTrue, ◌↔◌, refl, sym, ap, subst, ◌∙◌, arith, length-append}
use Rattle.std.proofs.lemmas.Bool.Decides.{nat_tests}
use Rattle.std.proofs.lemmas.List.Elements.{All-nil, All-cons}
use Rattle.std.specs.List.{All, list_any}
use Rattle.ssh_wire.specs.Lines.{id_text, is_line_end, line_ending, before_trimmed_rest, without_line_ends}
use Rattle.ssh_wire.specs.declared.error.ConfigFault.{ConfigFault}
use Rattle.ssh_wire.specs.declared.error.ConfigFault.TheVariants as faults
use Rattle.ssh_wire.specs.declared.side.Side.{Side}
use Rattle.ssh_wire.specs.declared.side.Side.TheVariants.{Client, Server}
use Rattle.ssh_wire.specs.declared.ssh_id.SshId.{SshId}
use Rattle.ssh_wire.specs.declared.ssh_id.SshId.TheVariants.{Standard, Raw}
use Rattle.ssh_wire.specs.Forms.{joined_names}
use Rattle.ssh_wire.specs.Names.{name_limit, name_list_limit}
use Rattle.ssh_negotiate.specs.Advertised.{Offers, kex_texts, key_texts, cipher_texts, mac_texts, compression_texts}
use Rattle.ssh_negotiate.specs.Laws.{IsListed, IsWithin}
use Rattle.ssh_negotiate.specs.declared.preferred.HostKey.{HostKey}
use Rattle.ssh_negotiate.specs.declared.preferred.HostCertificate.{HostCertificate}
use Rattle.ssh_kex.specs.Setting.{offers_of}
use Rattle.ssh_kex.specs.declared.config.Config.{Config}
use Rattle.ssh_rules.specs.Valid.{config_fault, is_good_id, is_good_limit, is_no_kex, is_id_line_text, id_line_text, is_long_list, longest_blob, some_blob_long, some_list_long}
use Rattle.ssh_rules.proofs.Lemmas.{is_within, tests}
use Rattle.ssh_transport.specs.Usable.{IsUsable}

or_parts : (a b : Bool) → (a || b) ≡ false → (a ≡ false) × (b ≡ false)
or_parts true b e = cc
or_parts false b e = (refl, e)

and_last : (a b : Bool) → (a && b) ≡ true → b ≡ true
and_last true b e = e
and_last false b e = cc

not_false : (b : Bool) → not b ≡ false → b ≡ true
not_false true e = refl
not_false false e = cc

at_most : (n limit : ℕ) → nat_le n limit ≡ true → n ≤ limit
at_most n limit h = grind (arith, nat_tests)

within : (limit n : ℕ) → nat_lt limit n ≡ false → n ≤ limit
within limit n h = grind (arith, nat_tests)

-- a text without line ends is no longer
before_short : (b : ℕ) (rest : List ℕ) → length (before_trimmed_rest b rest) ≤ length rest + 1
before_short b [] = step (is_line_end b)
  where
    step : (t : Bool) → length (if t then [] else b ∷ []) ≤ 0 + 1
    step true = omega arith
    step false = omega arith
before_short b (c ∷ rest) = omega arith

trimmed_short : (text : List ℕ) → length (without_line_ends text) ≤ length text
trimmed_short [] = omega arith
trimmed_short (b ∷ rest) = let h = before_short b (without_line_ends rest) in let k = trimmed_short rest in omega
    (arith, h, k)

pub id_short : (id : SshId) → is_good_id id ≡ true → length (id_text id) ≤ 255
id_short (Standard text) h =
    let l = at_most (length (text ++ line_ending)) 255 (and_last (is_id_line_text (id_line_text (Standard text)))
    (nat_le (length (text ++ line_ending)) 255) h) in
    let s = length-append text line_ending in
    omega (arith, l, s)
id_short (Raw text) h =
    let l = at_most (length text) 255 (and_last (is_id_line_text (id_line_text (Raw text))) (nat_le (length text) 255)
    h) in
    let s = trimmed_short text in
    omega (arith, l, s)

keys_short : (keys : List HostKey) → list_any (λ (k : HostKey). nat_lt longest_blob (length k.blob)) keys ≡ false
    → All (λ (k : HostKey). length k.blob < 2 ^ 31) keys
keys_short [] h = All-nil (λ (k : HostKey). length k.blob < 2 ^ 31)
keys_short (k ∷ keys) h =
    let p = or_parts (nat_lt longest_blob (length k.blob))
    (list_any (λ (k : HostKey). nat_lt longest_blob (length k.blob)) keys) h in
    let s : length k.blob < 2 ^ 31 = (let w = within longest_blob (length k.blob) p.0 in omega (arith, w)) in
    All-cons (λ (k : HostKey). length k.blob < 2 ^ 31) k keys s (keys_short keys p.1)

certificates_short : (keys : List HostCertificate) → list_any
    (λ (c : HostCertificate). nat_lt longest_blob (length c.blob)) keys ≡ false
    → All (λ (c : HostCertificate). length c.blob < 2 ^ 31) keys
certificates_short [] h = All-nil (λ (c : HostCertificate). length c.blob < 2 ^ 31)
certificates_short (k ∷ keys) h =
    let p = or_parts (nat_lt longest_blob (length k.blob))
    (list_any (λ (c : HostCertificate). nat_lt longest_blob (length c.blob)) keys) h in
    let s : length k.blob < 2 ^ 31 = (let w = within longest_blob (length k.blob) p.0 in omega (arith, w)) in
    All-cons (λ (c : HostCertificate). length c.blob < 2 ^ 31) k keys s (certificates_short keys p.1)

pub usable : (side : Side) (config : Config) → config_fault side config ≡ None → IsUsable side config
usable side config h =
    let t = tests side config h in
    let w = is_within side config h in
    let i = id_short config.id (not_false (is_good_id config.id) t.0) in
    let b = or_parts (list_any (λ (k : HostKey). nat_lt longest_blob (length k.blob)) config.host.keys)
    (list_any (λ (c : HostCertificate). nat_lt longest_blob (length c.blob)) config.host.certificates) t.5 in
    record {
      id = omega (arith, i);
      lists = record {
        kex = w.kex.size;
        key = w.key.size;
        cipher = w.cipher.size;
        mac = w.mac.size;
        compression =
            w.compression.size;
      };
      blobs = record {
        keys = keys_short config.host.keys b.0;
        certificates = certificates_short
            config.host.certificates b.1;
      };
    }

-- ---- lists that can be advertised

or_both : (a b : Bool) → a ≡ false → b ≡ false → (a || b) ≡ false
or_both true b e f = cc
or_both false b e f = f

not_past : (limit n : ℕ) → n ≤ limit → nat_lt limit n ≡ false
not_past limit n h = grind (arith, nat_tests)

not_long : (names : List (List ℕ)) → IsListed names → is_long_list names ≡ false
not_long names h = or_both (nat_lt name_limit (length names)) (nat_lt name_list_limit (length (joined_names names)))
    (not_past name_limit (length names) h.count) (not_past name_list_limit (length (joined_names names)) h.size)

more : (names : List (List ℕ)) (rest : List (List (List ℕ))) → is_long_list names ≡ false
    → list_any is_long_list rest ≡ false → list_any is_long_list (names ∷ rest) ≡ false
more names rest e f = or_both (is_long_list names) (list_any is_long_list rest) e f

none_long : (o : Offers) → IsWithin o → some_list_long o ≡ false
none_long o w =
    let k = not_long (kex_texts o) w.kex in
    let h = not_long (key_texts o) w.key in
    let c = not_long (cipher_texts o) w.cipher in
    let m = not_long (mac_texts o) w.mac in
    let p = not_long (compression_texts o) w.compression in
    let f1 = more (compression_texts o) [] p refl in
    let f2 = more (compression_texts o) (compression_texts o ∷ []) p f1 in
    let f3 = more (mac_texts o) (compression_texts o ∷ compression_texts o ∷ []) m f2 in
    let f4 = more (mac_texts o) (mac_texts o ∷ compression_texts o ∷ compression_texts o ∷ []) m f3 in
    let f5 = more (cipher_texts o) (mac_texts o ∷ mac_texts o ∷ compression_texts o ∷ compression_texts o ∷ []) c f4 in
    let f6 = more (cipher_texts o) (cipher_texts o ∷ mac_texts o ∷ mac_texts o ∷ compression_texts o ∷ compression_texts
    o ∷ []) c f5 in
    let f7 = more (key_texts o) (cipher_texts o ∷ cipher_texts o ∷ mac_texts o ∷ mac_texts o ∷ compression_texts o ∷
    compression_texts o ∷ []) h f6 in
    more (kex_texts o) (key_texts o ∷ cipher_texts o ∷ cipher_texts o ∷ mac_texts o ∷ mac_texts o ∷ compression_texts o
    ∷ compression_texts o ∷ []) k f7

some_within : (o : Offers) → some_list_long o ≡ false → IsWithin o
some_within o h =
    let a = or_parts (is_long_list (kex_texts o)) (list_any is_long_list
    (key_texts o ∷ cipher_texts o ∷ cipher_texts o ∷ mac_texts o ∷ mac_texts o ∷ compression_texts o ∷
    compression_texts o ∷ [])) h in
    let b = or_parts (is_long_list (key_texts o)) (list_any is_long_list
    (cipher_texts o ∷ cipher_texts o ∷ mac_texts o ∷ mac_texts o ∷ compression_texts o ∷ compression_texts o ∷ []))
    a.1 in
    let c = or_parts (is_long_list (cipher_texts o)) (list_any is_long_list
    (cipher_texts o ∷ mac_texts o ∷ mac_texts o ∷ compression_texts o ∷ compression_texts o ∷ [])) b.1 in
    let d = or_parts (is_long_list (cipher_texts o)) (list_any is_long_list
    (mac_texts o ∷ mac_texts o ∷ compression_texts o ∷ compression_texts o ∷ [])) c.1 in
    let e = or_parts (is_long_list (mac_texts o)) (list_any is_long_list
    (mac_texts o ∷ compression_texts o ∷ compression_texts o ∷ [])) d.1 in
    let f = or_parts (is_long_list (mac_texts o)) (list_any is_long_list
    (compression_texts o ∷ compression_texts o ∷ [])) e.1 in
    let g = or_parts (is_long_list (compression_texts o)) (list_any is_long_list (compression_texts o ∷ [])) f.1 in
    record {
      kex = listed _ a.0;
      key = listed _ b.0;
      cipher = listed _ c.0;
      mac = listed _ e.0;
      compression = listed _
          g.0;
    }
  where
    listed : (names : List (List ℕ)) → is_long_list names ≡ false → IsListed names
    listed names l = let p = or_parts (nat_lt name_limit (length names))
        (nat_lt name_list_limit (length (joined_names names))) l in record {
          count = within name_limit (length names) p.0;
          size = within name_list_limit (length (joined_names names))
              p.1;
        }

pub within_test : (o : Offers) (b : Bool) → (IsTrue b ↔ IsWithin o) → b ≡ not (some_list_long o)
within_test o true h = sym (ap not (none_long o (h.0 refl)))
within_test o false h = by (some_list_long o) refl
  where
    by : (t : Bool) → some_list_long o ≡ t → false ≡ not t
    by true e = refl
    by false e = absurd (let f : IsTrue false = h.1 (some_within o e) in cc)

pub tested_client : (side : Side) (config : Config) (answer : Bool) → side ≡ Client
    → (IsTrue answer ↔ IsWithin (offers_of Client config)) → answer ≡ not (some_list_long (offers_of side config))
tested_client side config answer e h = subst (λ (x : Side). answer ≡ not (some_list_long (offers_of x config))) (sym e)
    (within_test (offers_of Client config) answer h)

pub tested_server : (side : Side) (config : Config) (answer : Bool) → side ≡ Server
    → (IsTrue answer ↔ IsWithin (offers_of Server config)) → answer ≡ not (some_list_long (offers_of side config))
tested_server side config answer e h = subst (λ (x : Side). answer ≡ not (some_list_long (offers_of x config))) (sym e)
    (within_test (offers_of Server config) answer h)

-- ---- the first fault

chain : (a b c d e f : Bool) → Option ConfigFault
chain a b c d e f = if not a then Some faults.Id else if not b then Some faults.Limit else if not c then Some
    faults.GroupSizes else if d then Some faults.KexNone else if e then Some faults.NameList else if f then Some
    faults.HostBlob else None

chain_of : Config → Side → Option ConfigFault
chain_of config side = chain (is_good_id config.id) (is_good_limit config.limits.rekey_write_limit && is_good_limit
    config.limits.rekey_read_limit) (nat_le config.gex.min_group_size config.gex.preferred_group_size && nat_le
    config.gex.preferred_group_size config.gex.max_group_size) (list_any is_no_kex config.preferred.kex)
    (some_list_long (offers_of side config)) (some_blob_long config)

fault_chain : (side : Side) (config : Config) → config_fault side config ≡ chain_of config side
unfolding config_fault chain chain_of
fault_chain side config = refl

chain_end : (a b c d e f : Bool) → a ≡ true → b ≡ true → c ≡ true → d ≡ false → e ≡ false
    → chain a b c d e f ≡ (if f then Some faults.HostBlob else None)
unfolding chain
chain_end true true true false false f p q r s t = refl
chain_end false b c d e f p q r s t = cc
chain_end true false c d e f p q r s t = cc
chain_end true true false d e f p q r s t = cc
chain_end true true true true e f p q r s t = cc
chain_end true true true false true f p q r s t = cc

not_not : (a b : Bool) → a ≡ not b → a ≡ true → b ≡ false
not_not a true e f = let g : false ≡ true = sym e ∙ f in cc
not_not a false e f = refl

pub last_fault : (side : Side) (config : Config) (a b c d e f : Bool) → a ≡ is_good_id config.id → a ≡ true
    → b ≡ (is_good_limit config.limits.rekey_write_limit && is_good_limit config.limits.rekey_read_limit) → b ≡ true
    → c ≡ (nat_le config.gex.min_group_size config.gex.preferred_group_size && nat_le config.gex.preferred_group_size
    config.gex.max_group_size) → c ≡ true → d ≡ list_any is_no_kex config.preferred.kex → d ≡ false
    → e ≡ not (some_list_long (offers_of side config)) → e ≡ true → f ≡ some_blob_long config
    → (if f then Some faults.HostBlob else None) ≡ config_fault side config
unfolding chain_of
last_fault side config a b c d e f p p' q q' r r' s s' t t' u =
    ap (λ (x : Bool). if x then Some faults.HostBlob else None) u
    ∙ sym (fault_chain side config ∙ chain_end (is_good_id config.id)
    (is_good_limit config.limits.rekey_write_limit && is_good_limit config.limits.rekey_read_limit)
    (nat_le config.gex.min_group_size config.gex.preferred_group_size && nat_le config.gex.preferred_group_size
    config.gex.max_group_size) (list_any is_no_kex config.preferred.kex) (some_list_long (offers_of side config))
    (some_blob_long config) (sym p ∙ p') (sym q ∙ q') (sym r ∙ r') (sym s ∙ s')
    (not_not e (some_list_long (offers_of side config)) t t'))
