-- The messages of an exchange determine what stands in them.
use Rattle.std.proofs.Common.{◌≡◌, ℕ, ◌+◌, ◌^◌, ◌<◌, ◌≤◌, List, [], ◌∷◌, ◌++◌, length, refl, sym, ◌∙◌, ap, subst, arith, Option, Some, None, Bool, true, false, if◌then◌else◌, nat_lt, Ok, Result}
use Rattle.std.specs.Prelude.{is_some, IfSome}
use Rattle.ssh_wire.specs.Fields.{string_at, u32_at}
use Rattle.ssh_wire.specs.Forms.{u32be, string, magnitude, unsigned, mpint}
use Rattle.ssh_wire.proofs.Lemmas.{string_again, u32_again}
use Rattle.ssh_wire.specs.declared.error.EncodingFault.{EncodingFault}
use Rattle.ssh_kex.specs.Messages.{IsCanonical, newkeys, value_message, reply_message, request_message, group_message}
use Rattle.ssh_kex.specs.Setting.{IsShortGroup}
use Rattle.ssh_kex.specs.declared.exchange.Exchange.{Exchange}
use Rattle.ssh_kex.specs.declared.exchange.GexChosen.{GexChosen}
use Rattle.ssh_kex.specs.declared.group.DhGroup.{DhGroup}
use Rattle.ssh_kex.specs.declared.group.GexParams.{GexParams}
use Rattle.ssh_rules.specs.ExchangeMessages.{requests, groups}

two : (a b c d : List ℕ) → (let r : Result (List ℕ × List ℕ) EncodingFault = Ok (a, b) in r) ≡ Ok (c, d) → (a ≡ c) × (b ≡ d)
two a b c d e = let p : (let q : List ℕ × List ℕ = (a, b) in q) ≡ (c, d) = cc in (ap (λ q. q.0) p, ap (λ q. q.1) p)

-- a string with what follows determines both
string_cut : (a b x y : List ℕ) → length a < 2 ^ 32 → length b < 2 ^ 32 → string a ++ x ≡ string b ++ y → (a ≡ b) × (x ≡ y)
string_cut a b x y ha hb e = two a x b y (sym (string_again a x ha) ∙ (ap string_at e ∙ string_again b y hb))

string_one : (a b : List ℕ) → length a < 2 ^ 32 → length b < 2 ^ 32 → string a ≡ string b → a ≡ b
string_one a b ha hb e = (string_cut a b [] [] ha hb (ap (λ t. t ++ []) e)).0

two' : (a c : ℕ) (b d : List ℕ) → (let r : Result (ℕ × List ℕ) EncodingFault = Ok (a, b) in r) ≡ Ok (c, d) → (a ≡ c) × (b ≡ d)
two' a c b d e = let p : (let q : ℕ × List ℕ = (a, b) in q) ≡ (c, d) = cc in (ap (λ q. q.0) p, ap (λ q. q.1) p)

u32_cut : (a b : ℕ) (x y : List ℕ) → a < 2 ^ 32 → b < 2 ^ 32 → u32be a ++ x ≡ u32be b ++ y → (a ≡ b) × (x ≡ y)
u32_cut a b x y ha hb e = two' a b x y (sym (u32_again a x ha) ∙ (ap u32_at e ∙ u32_again b y hb))

pub magnitude_of : (p : List ℕ) → magnitude (unsigned p) ≡ magnitude p
magnitude_of [] = refl
magnitude_of (b ∷ p) = chosen (nat_lt b 128) where
  chosen : (t : Bool) → magnitude (if t then b ∷ p else 0 ∷ b ∷ p) ≡ magnitude (b ∷ p)
  chosen true = refl
  chosen false = refl

unsigned_short : (p : List ℕ) → length (unsigned p) ≤ length p + 1
unsigned_short [] = omega arith
unsigned_short (b ∷ p) = chosen (nat_lt b 128) where
  chosen : (t : Bool) → length (if t then b ∷ p else 0 ∷ b ∷ p) ≤ length (b ∷ p) + 1
  chosen true = omega arith
  chosen false = omega arith

-- numbers without leading zeros are one where their unsigned forms are
unsigned_one : (p q : List ℕ) → magnitude p ≡ p → magnitude q ≡ q → unsigned (magnitude p) ≡ unsigned (magnitude q) → p ≡ q
unsigned_one p q hp hq e = sym hp ∙ (sym (magnitude_of p) ∙ (ap (λ t. magnitude (unsigned t)) (sym hp) ∙ (ap magnitude e ∙ (ap (λ t. magnitude (unsigned t)) hq ∙ (magnitude_of q ∙ hq)))))

mpint_short : (p : List ℕ) → magnitude p ≡ p → length p < 2 ^ 31 → length (unsigned (magnitude p)) < 2 ^ 32
mpint_short p h l = subst (λ t. length (unsigned t) < 2 ^ 32) (sym h) (omega (arith, unsigned_short p))

same_group : (p q r s : List ℕ) → p ≡ q → r ≡ s → (let t : DhGroup = record { prime = p; generator = r } in t) ≡ record { prime = q; generator = s }
same_group p q r s e f = ap (λ x. let t : DhGroup = record { prime = x; generator = r } in t) e ∙ ap (λ x. let t : DhGroup = record { prime = q; generator = x } in t) f

pub group_one : (g h : DhGroup) → IsCanonical g → IsCanonical h → length g.prime < 2 ^ 31 → length g.generator < 2 ^ 31 → length h.prime < 2 ^ 31 → length h.generator < 2 ^ 31 → group_message g ≡ group_message h → g ≡ h
group_one g h cg ch gp gg hp hg e =
    let bodies : mpint g.prime ++ mpint g.generator ≡ mpint h.prime ++ mpint h.generator = cc in
    let first = string_cut (unsigned (magnitude g.prime)) (unsigned (magnitude h.prime)) (mpint g.generator) (mpint h.generator) (mpint_short g.prime cg.prime gp) (mpint_short h.prime ch.prime hp) bodies in
    let prime : g.prime ≡ h.prime = unsigned_one g.prime h.prime cg.prime ch.prime first.0 in
    let generator : g.generator ≡ h.generator = unsigned_one g.generator h.generator cg.generator ch.generator (string_one (unsigned (magnitude g.generator)) (unsigned (magnitude h.generator)) (mpint_short g.generator cg.generator gg) (mpint_short h.generator ch.generator hg) first.1) in
    same_group g.prime h.prime g.generator h.generator prime generator

same_sizes : (a b c d e f : ℕ) → a ≡ b → c ≡ d → e ≡ f → (let t : GexParams = record { min_group_size = a; preferred_group_size = c; max_group_size = e } in t) ≡ record { min_group_size = b; preferred_group_size = d; max_group_size = f }
same_sizes a b c d e f p q r =
    ap (λ x. let t : GexParams = record { min_group_size = x; preferred_group_size = c; max_group_size = e } in t) p
    ∙ (ap (λ x. let t : GexParams = record { min_group_size = b; preferred_group_size = x; max_group_size = e } in t) q
    ∙ ap (λ x. let t : GexParams = record { min_group_size = b; preferred_group_size = d; max_group_size = x } in t) r)

pub sizes_one : (g h : GexChosen) → IsShortGroup g → IsShortGroup h → request_message g.params ≡ request_message h.params → g.params ≡ h.params
sizes_one g h sg sh m =
    let bodies : u32be g.params.min_group_size ++ (u32be g.params.preferred_group_size ++ u32be g.params.max_group_size) ≡ u32be h.params.min_group_size ++ (u32be h.params.preferred_group_size ++ u32be h.params.max_group_size) = cc in
    let one = u32_cut g.params.min_group_size h.params.min_group_size (u32be g.params.preferred_group_size ++ u32be g.params.max_group_size) (u32be h.params.preferred_group_size ++ u32be h.params.max_group_size) sg.least sh.least bodies in
    let next = u32_cut g.params.preferred_group_size h.params.preferred_group_size (u32be g.params.max_group_size) (u32be h.params.max_group_size) sg.preferred sh.preferred one.1 in
    let last = u32_cut g.params.max_group_size h.params.max_group_size [] [] sg.most sh.most (ap (λ t. t ++ []) next.1) in
    same_sizes _ _ _ _ _ _ one.0 next.0 last.0

pub reply_one : (kind : Bool) (a b c d e f : List ℕ) → length a < 2 ^ 32 → length b < 2 ^ 32 → length c < 2 ^ 32 → length d < 2 ^ 32 → length e < 2 ^ 32 → length f < 2 ^ 32 → reply_message kind a b c ≡ reply_message kind d e f → (a ≡ d) × (b ≡ e) × (c ≡ f)
reply_one kind a b c d e f ha hb hc hd he hf m =
    let bodies = body kind m in
    let one = string_cut a d (string b ++ string c) (string e ++ string f) ha hd bodies in
    let next = string_cut b e (string c) (string f) hb he one.1 in
    (one.0, next.0, string_one c f hc hf next.1)
  where
    body : (k : Bool) → reply_message k a b c ≡ reply_message k d e f → string a ++ (string b ++ string c) ≡ string d ++ (string e ++ string f)
    body true m = cc
    body false m = cc

pub value_one : (kind : Bool) (a b : List ℕ) → length a < 2 ^ 32 → length b < 2 ^ 32 → value_message kind a ≡ value_message kind b → a ≡ b
value_one true a b ha hb m = string_one a b ha hb (tails m) where
  tails : 32 ∷ string a ≡ 32 ∷ string b → string a ≡ string b
  tails e = cc
value_one false a b ha hb m = string_one a b ha hb (tails m) where
  tails : 30 ∷ string a ≡ 30 ∷ string b → string a ≡ string b
  tails e = cc

-- the messages of both sides, by what stands in them
abbrev pub client_by : Option GexChosen → List ℕ → List ℕ → List (List ℕ)
client_by g k v = k ∷ (requests g ++ value_message (is_some g) v ∷ newkeys ∷ [])

abbrev pub server_by : Option GexChosen → List ℕ → List ℕ → List ℕ → List ℕ → List (List ℕ)
server_by g k host v signature = k ∷ (groups g ++ reply_message (is_some g) host v signature ∷ newkeys ∷ [])

pub record SameTalk (g h : Option GexChosen) (c d s t u v i j w x y z : List ℕ) : Type 0 where
  pub client_kexinit : c ≡ d
  pub server_kexinit : s ≡ t
  pub group : g ≡ h
  pub client_value : u ≡ v
  pub host : i ≡ j
  pub server_value : w ≡ x
  pub signature : y ≡ z

two_of : (a b c d : List ℕ) → a ∷ b ∷ newkeys ∷ [] ≡ c ∷ d ∷ newkeys ∷ [] → (a ≡ c) × (b ≡ d)
two_of a b c d e = let p : a ≡ c = cc in let q : b ≡ d = cc in (p, q)

three_of : (a b c d e f : List ℕ) → a ∷ b ∷ c ∷ newkeys ∷ [] ≡ d ∷ e ∷ f ∷ newkeys ∷ [] → (a ≡ d) × (b ≡ e) × (c ≡ f)
three_of a b c d e f h = let p : a ≡ d = cc in let q : b ≡ e = cc in let r : c ≡ f = cc in (p, q, r)

three_four : (a b c d e f g : List ℕ) → a ∷ b ∷ c ∷ [] ≡ d ∷ e ∷ f ∷ g ∷ [] → ⊥
three_four a b c d e f g h = cc

pub same_gex : (a b : GexParams) (c d : DhGroup) → a ≡ b → c ≡ d → (let t : GexChosen = record { params = a; group = c } in t) ≡ record { params = b; group = d }
same_gex a b c d e f = ap (λ x. let t : GexChosen = record { params = x; group = c } in t) e ∙ ap (λ x. let t : GexChosen = record { params = b; group = x } in t) f

pub talk_one : (g h : Option GexChosen) (c d s t u v i j w x y z : List ℕ)
    → IfSome g (λ (q : GexChosen). IsCanonical q.group) → IfSome h (λ (q : GexChosen). IsCanonical q.group) → IfSome g IsShortGroup → IfSome h IsShortGroup
    → length u < 2 ^ 32 → length v < 2 ^ 32 → length i < 2 ^ 32 → length j < 2 ^ 32 → length w < 2 ^ 32 → length x < 2 ^ 32 → length y < 2 ^ 32 → length z < 2 ^ 32
    → client_by g c u ≡ client_by h d v → server_by g s i w y ≡ server_by h t j x z → SameTalk g h c d s t u v i j w x y z
talk_one None None c d s t u v i j w x y z cg ch sg sh hu hv hi hj hw hx hy hz e f =
    let a = two_of c (value_message false u) d (value_message false v) e in
    let b = two_of s (reply_message false i w y) t (reply_message false j x z) f in
    let r = reply_one false i w y j x z hi hw hy hj hx hz b.1 in
    record { client_kexinit = a.0; server_kexinit = b.0; group = refl; client_value = value_one false u v hu hv a.1; host = r.0; server_value = r.1; signature = r.2 }
talk_one None (Some h) c d s t u v i j w x y z cg ch sg sh hu hv hi hj hw hx hy hz e f = absurd (three_four _ _ _ _ _ _ _ e)
talk_one (Some g) None c d s t u v i j w x y z cg ch sg sh hu hv hi hj hw hx hy hz e f = absurd (three_four _ _ _ _ _ _ _ (sym e))
talk_one (Some g) (Some h) c d s t u v i j w x y z cg ch sg sh hu hv hi hj hw hx hy hz e f =
    let a = three_of c (request_message g.params) (value_message true u) d (request_message h.params) (value_message true v) e in
    let b = three_of s (group_message g.group) (reply_message true i w y) t (group_message h.group) (reply_message true j x z) f in
    let r = reply_one true i w y j x z hi hw hy hj hx hz b.2 in
    let params = sizes_one g h sg sh a.1 in
    let group = group_one g.group h.group cg ch sg.prime sg.generator sh.prime sh.generator b.1 in
    record { client_kexinit = a.0; server_kexinit = b.0; group = ap Some (same_gex g.params h.params g.group h.group params group); client_value = value_one true u v hu hv a.2; host = r.0; server_value = r.1; signature = r.2 }

-- ---- messages by their group

-- what stands in the messages of an exchange beside its group
pub record Spoken : Type 0 where
  pub client_kexinit : List ℕ
  pub server_kexinit : List ℕ
  pub client_value : List ℕ
  pub host : List ℕ
  pub server_value : List ℕ
  pub signature : List ℕ

abbrev pub spoken : Exchange → List ℕ → List ℕ → Spoken
spoken e host signature = record { client_kexinit = e.client_kex_init; server_kexinit = e.server_kex_init; client_value = e.client_ephemeral; host = host; server_value = e.server_ephemeral; signature = signature }

abbrev pub client_spoken : Spoken → Option GexChosen → List (List ℕ)
client_spoken t g = client_by g t.client_kexinit t.client_value

abbrev pub server_spoken : Spoken → Option GexChosen → List (List ℕ)
server_spoken t g = server_by g t.server_kexinit t.host t.server_value t.signature
