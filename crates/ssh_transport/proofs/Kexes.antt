-- A configuration that is valid never chooses to exchange no values.
use Rattle.std.proofs.Common.{◌≡◌, ℕ, List, [], ◌∷◌, map, drop, length, Bool, true, false, not, nat_lt, if◌then◌else◌, Option, Some, None, refl, sym, ap, subst, ◌∙◌, Result, Ok, Err, inl, inr}
use Rattle.std.specs.Prelude.{find}
use Rattle.std.specs.List.{list_any}
use Rattle.ssh_wire.specs.declared.error.AlgorithmKind.{AlgorithmKind}
use Rattle.ssh_wire.specs.declared.error.AlgorithmKind.TheVariants.{Kex}
use Rattle.ssh_wire.specs.declared.side.Side.{Side}
use Rattle.ssh_wire.specs.declared.side.Side.TheVariants.{Client, Server}
use Rattle.ssh_wire.specs.Names.{names_at}
use Rattle.ssh_negotiate.specs.Advertised.{Offers, is_foreign, offers_with}
use Rattle.ssh_negotiate.specs.Chosen.{or_err, without_extensions}
use Rattle.ssh_negotiate.specs.Reading.{KexinitFault, Inconsistent, NoCommon, select, common, own_with, same_first, names_read, read_fields}
use Rattle.ssh_negotiate.specs.Tables.{is_extension, kex_text, shape_of}
use Rattle.ssh_negotiate.specs.declared.kex.Name as kexes
use Rattle.ssh_negotiate.specs.declared.kex.Name.TheVariants.{Mlkem768X25519Sha256, Curve25519, Curve25519PreRfc8731, DhGexSha1, DhGexSha256, DhG1Sha1, DhG14Sha1, DhG14Sha256, DhG15Sha512, DhG16Sha512, DhG17Sha512, DhG18Sha512, EcdhSha2Nistp256, EcdhSha2Nistp384, EcdhSha2Nistp521, NoKex, ExtInfoC, ExtInfoS, StrictC, StrictS}
use Rattle.ssh_negotiate.specs.declared.negotiation.Names.{Names}
use Rattle.ssh_negotiate.proofs.Lemmas.{bind_ok, field_ok, In, in_any, in_filter, rest_ok}
use Rattle.ssh_kex.specs.Setting.{offers_of}
use Rattle.ssh_kex.specs.declared.config.Config.{Config}
use Rattle.ssh_rules.specs.Valid.{config_fault, is_no_kex}
use Rattle.ssh_rules.proofs.Lemmas.{tests}

found_in : {A : Type 0} (p : A → Bool) (xs : List A) (x : A) → find p xs ≡ Some x → In x xs
found_in p [] x e = cc
found_in {A} p (y ∷ ys) x e = by (p y) e (found_in p ys x) where
  by : (b : Bool) → (if b then Some y else find p ys) ≡ Some x → (find p ys ≡ Some x → In x ys) → In x (y ∷ ys)
  by true f later = inl (let h : y ≡ x = cc in sym h)
  by false f later = inr (later f)

own_in : {A : Type 0} (text : A → List ℕ) (own : List A) (o : Option (List ℕ)) (x : A) → own_with text own o ≡ Some x
    → In x own
own_in text own None x e = cc
own_in text own (Some t) x e = found_in _ own x e

common_in : {A : Type 0} (text : A → List ℕ) (side : Side) (own : List A) (peer : List (List ℕ)) (x : A)
    → common text side own peer ≡ Some x → In x own
unfolding common
common_in text Client own peer x e = found_in _ own x e
common_in text Server own peer x e = own_in text own _ x e

or_ok : {A E : Type 0} (d : E) (o : Option A) (x : A) → or_err d o ≡ Ok x → o ≡ Some x
unfolding or_err
or_ok d None x e = cc
or_ok d (Some y) x e = let h : y ≡ x = cc in ap Some h

select_in : {A : Type 0} (text : A → List ℕ) (side : Side) (kind : AlgorithmKind) (own : List A) (peer : List (List ℕ))
    (p : Bool × A) → select text side kind own peer ≡ Ok p → In p.1 own
unfolding select
select_in {A} text side kind own peer p e =
    let one = bind_ok (or_err (NoCommon kind (map text own) peer) (common text side own peer))
    (λ a. Ok (same_first (map text own) peer, a)) p e in
    let h : one.0 ≡ p.1 = ap (λ q. q.1) (plain (same_first (map text own) peer) one.0 p one.2) in
    subst (λ a. In a own) h (common_in text side own peer one.0 (or_ok _ (common text side own peer) one.0 one.1))
  where
    plain : (b : Bool) (a : A) (p : Bool × A) → (let r : Result (Bool × A) KexinitFault = Ok (b, a) in r) ≡ Ok p
        → (let q : Bool × A = (b, a) in q) ≡ p
    plain b a p e = cc

kex_in : (side : Side) (own : Offers) (still : Bool) (bytes : List ℕ) (n : Names)
    → read_fields side own still bytes ≡ Ok n → In n.kex (without_extensions own.kex)
unfolding read_fields
kex_in side own still bytes n e =
    let a = field_ok (names_at bytes) _ n e in
    let b = bind_ok _ _ n a.1 in
    let c = field_ok _ _ n b.2 in
    let d = bind_ok _ _ n c.1 in
    let f = field_ok _ _ n d.2 in
    let g = bind_ok _ _ n f.1 in
    let h = field_ok _ _ n g.2 in
    let i = field_ok _ _ n h.1 in
    let j = bind_ok _ _ n i.1 in
    let k = field_ok _ _ n j.2 in
    let l = bind_ok _ _ n k.1 in
    let m = field_ok _ _ n l.2 in
    let o = bind_ok _ _ n m.1 in
    let p = field_ok _ _ n o.2 in
    let q = bind_ok _ _ n p.1 in
    let r = rest_ok _ _ n q.2 in
    subst (λ (x : kexes.Name). In x (without_extensions own.kex)) (ap (λ (x : Names). x.kex) r.1)
    (select_in kex_text side Kex (without_extensions own.kex) _ b.0 b.1)

read_in : (side : Side) (own : Offers) (still : Bool) (payload : List ℕ) (n : Names)
    → names_read side own still payload ≡ Ok n → In n.kex (without_extensions own.kex)
unfolding names_read
read_in side own still payload n e = by (nat_lt (length payload) 17) e where
  by : (b : Bool) → (if b then Err Inconsistent else read_fields side own still (drop 17 payload)) ≡ Ok n
      → In n.kex (without_extensions own.kex)
  by true f = cc
  by false f = kex_in side own still (drop 17 payload) n f

plain_in : (names : List kexes.Name) (x : kexes.Name) → In x (without_extensions names) → In x names
unfolding without_extensions
plain_in names x h = (in_filter (λ n. not (is_extension n)) x names h).0

offered_in : (side : Side) (config : Config) (x : kexes.Name) → In x (offers_of side config).kex
    → In x config.preferred.kex
unfolding offers_with
offered_in side config x h = (in_filter (λ n. not (is_foreign side n)) x config.preferred.kex h).0

skips_none : (k : kexes.Name) → (shape_of k).skip ≡ true → is_no_kex k ≡ true
unfolding shape_of
skips_none Mlkem768X25519Sha256 e = cc
skips_none Curve25519 e = cc
skips_none Curve25519PreRfc8731 e = cc
skips_none DhGexSha1 e = cc
skips_none DhGexSha256 e = cc
skips_none DhG1Sha1 e = cc
skips_none DhG14Sha1 e = cc
skips_none DhG14Sha256 e = cc
skips_none DhG15Sha512 e = cc
skips_none DhG16Sha512 e = cc
skips_none DhG17Sha512 e = cc
skips_none DhG18Sha512 e = cc
skips_none EcdhSha2Nistp256 e = cc
skips_none EcdhSha2Nistp384 e = cc
skips_none EcdhSha2Nistp521 e = cc
skips_none NoKex e = refl
skips_none ExtInfoC e = cc
skips_none ExtInfoS e = cc
skips_none StrictC e = cc
skips_none StrictS e = cc

pub never_skips : (side : Side) (config : Config) (still : Bool) (payload : List ℕ) (n : Names)
    → config_fault side config ≡ None → names_read side (offers_of side config) still payload ≡ Ok n
    → (shape_of n.kex).skip ≡ true → ⊥
never_skips side config still payload n valid e s =
    let there : In n.kex config.preferred.kex = offered_in side config n.kex
    (plain_in (offers_of side config).kex n.kex (read_in side (offers_of side config) still payload n e)) in
    let yes : list_any is_no_kex config.preferred.kex ≡ true = in_any is_no_kex n.kex config.preferred.kex there
    (skips_none n.kex s) in
    let no : list_any is_no_kex config.preferred.kex ≡ false = (tests side config valid).3 in
    let both : true ≡ false = sym yes ∙ no in cc
