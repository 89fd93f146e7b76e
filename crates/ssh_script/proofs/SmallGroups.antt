-- The sizes of groups that a script sets are at most 65536.
use Rattle.std.proofs.Common.{◌≡◌, ℕ, ◌≤◌, Bool, true, false, if◌then◌else◌, nat_lt, List, [], ◌∷◌, ◌++◌, codes, Option, Some, None, Result, Ok, Err, OnOk, refl, sym, subst, arith}
use Rattle.std.proofs.lemmas.Bool.Decides.{nat_tests}
use Rattle.std.specs.Option.{option_map}
use Rattle.std.specs.Str.{bytes_eq}
use Rattle.ssh_wire.specs.declared.side.Side.{Side}
use Rattle.ssh_wire.specs.declared.side.Side.TheVariants.{Client, Server}
use Rattle.ssh_kex.specs.declared.group.GexParams.{GexParams}
use Rattle.ssh_rules.specs.declared.link.AttackStep.{AttackStep}
use Rattle.ssh_rules.specs.declared.link.Step.{Step}
use Rattle.ssh_script.specs.Plans.{Plan, HasSmallGroups, HasSmallSizes}
use Rattle.ssh_script.specs.RunScript.{attack_step, first_plan, link_form, part_of, run_step, set_before, set_by, set_server, set_side, set_words, setting_in, sizes, with_attack, with_default_key, with_limits, with_refusal, with_step}
use Rattle.ssh_lines.specs.Fields.{all_three, both, form_makes, from_three, from_two, from_word, size_from, size_of}
use Rattle.ssh_lines.specs.Fields.{number_of, side_of}
use Rattle.ssh_lines.specs.declared.script.ScriptKind.{ScriptKind}
use Rattle.ssh_script.specs.declared.setting.Part.{Part}
use Rattle.ssh_script.specs.declared.setting.Part.TheVariants as part
use Rattle.ssh_script.specs.declared.setting.Setting.{Setting}
use Rattle.ssh_script.specs.declared.setting.Setting.TheVariants as setting
use Rattle.ssh_script.specs.declared.setup.SideSetup.{SideSetup}

-- ---- what a choice gives

if_ok : {X : Type 0} (P : X → Type 0) (b : Bool) (x y : Result X ScriptKind) (z : X) → (x ≡ Ok z → P z) → (y ≡ Ok z → P z) → (if b then x else y) ≡ Ok z → P z
if_ok P true x y z f g e = f e
if_ok P false x y z f g e = g e

map_ok : {X Y : Type 0} (P : Y → Type 0) (f : X → Y) (o : Option X) (z : Y) → ((x : X) → o ≡ Some x → P (f x)) → option_map f o ≡ Some z → P z
map_ok P f None z h e = cc
map_ok P f (Some x) z h e = let same : f x ≡ z = cc in subst P same (h x refl)

some_ok : (P : Plan → Type 0) (o : Option Plan) (z : Plan) → (o ≡ Some z → P z) → form_makes o ≡ Ok z → P z
some_ok P None z h e = cc
some_ok P (Some p) z h e = h cc

two_ok : {X Y Z : Type 0} (P : Z → Type 0) (make : X → Y → Z) (f : List ℕ → Option X) (g : List ℕ → Option Y) (words : List (List ℕ)) (z : Z)
    → ((x : X) (y : Y) → P (make x y)) → from_two make f g words ≡ Some z → P z
two_ok P make f g [] z h e = cc
two_ok P make f g (a ∷ []) z h e = cc
two_ok P make f g (a ∷ b ∷ []) z h e = both_ok (f a) (g b) e
  where
    both_ok : (x : Option _) (y : Option _) → both make x y ≡ Some z → P z
    both_ok None y e = cc
    both_ok (Some x) None e = cc
    both_ok (Some x) (Some y) e = let same : make x y ≡ z = cc in subst P same (h x y)
two_ok P make f g (a ∷ b ∷ more ∷ words) z h e = cc

-- ---- a size

size_small : (o : Option ℕ) (n : ℕ) → size_from o ≡ Some n → n ≤ 65536
size_small None n e = cc
size_small (Some m) n e = by_test (nat_lt 65536 m) refl e
  where
    by_test : (b : Bool) → nat_lt 65536 m ≡ b → (if b then None else Some m) ≡ Some n → n ≤ 65536
    by_test true t e = cc
    by_test false t e = let same : m ≡ n = cc in let small : m ≤ 65536 = grind (arith, nat_tests, t) in subst (λ (k : ℕ). k ≤ 65536) same small

word_small : (words : List (List ℕ)) (n : ℕ) → from_word size_of words ≡ Some n → n ≤ 65536
word_small [] n e = cc
word_small (word ∷ []) n e = size_small (number_of word) n e
word_small (word ∷ more ∷ words) n e = cc

three_small : (words : List (List ℕ)) (gex : GexParams) → from_three sizes size_of size_of size_of words ≡ Some gex → gex.preferred_group_size ≤ 65536
three_small [] gex e = cc
three_small (a ∷ []) gex e = cc
three_small (a ∷ b ∷ []) gex e = cc
three_small (a ∷ b ∷ c ∷ []) gex e = by_sizes (size_of a) (size_of b) (size_of c) (size_small (number_of b)) e
  where
    by_sizes : (x y z : Option ℕ) → ((n : ℕ) → y ≡ Some n → n ≤ 65536) → all_three sizes x y z ≡ Some gex → gex.preferred_group_size ≤ 65536
    by_sizes None y z h e = cc
    by_sizes (Some x) None z h e = cc
    by_sizes (Some x) (Some y) None h e = cc
    by_sizes (Some x) (Some y) (Some z) h e = let same : sizes x y z ≡ gex = cc in subst (λ (g : GexParams). g.preferred_group_size ≤ 65536) same (h y refl)
three_small (a ∷ b ∷ c ∷ more ∷ words) gex e = cc

-- ---- what a line sets

refusal_small : (s : SideSetup) (p : Part) (n : ℕ) → HasSmallSizes s → HasSmallSizes (with_refusal s p n)
refusal_small s part.Agreement n h = record { preferred = h.preferred; group = h.group }
refusal_small s part.Hosts n h = record { preferred = h.preferred; group = h.group }
refusal_small s part.Groups n h = record { preferred = h.preferred; group = h.group }

side_small : (what : Setting) (words : List (List ℕ)) (s s' : SideSetup) → HasSmallSizes s → set_side what words s ≡ Some s' → HasSmallSizes s'
side_small setting.Id words s s' h e = map_ok HasSmallSizes _ _ s' (λ x _. record { preferred = h.preferred; group = h.group }) e
side_small setting.RawId words s s' h e = map_ok HasSmallSizes _ _ s' (λ x _. record { preferred = h.preferred; group = h.group }) e
side_small setting.Kex words s s' h e = map_ok HasSmallSizes _ _ s' (λ x _. record { preferred = h.preferred; group = h.group }) e
side_small setting.Key words s s' h e = map_ok HasSmallSizes _ _ s' (λ x _. record { preferred = h.preferred; group = h.group }) e
side_small setting.Certificates words s s' h e = map_ok HasSmallSizes _ _ s' (λ x _. record { preferred = h.preferred; group = h.group }) e
side_small setting.Cipher words s s' h e = map_ok HasSmallSizes _ _ s' (λ x _. record { preferred = h.preferred; group = h.group }) e
side_small setting.Mac words s s' h e = map_ok HasSmallSizes _ _ s' (λ x _. record { preferred = h.preferred; group = h.group }) e
side_small setting.Limits words s s' h e = two_ok HasSmallSizes (with_limits s) number_of number_of words s' (λ x y. record { preferred = h.preferred; group = h.group }) e
side_small setting.GroupSizes words s s' h e = map_ok HasSmallSizes _ _ s' (λ gex f. record { preferred = three_small words gex f; group = h.group }) e
side_small setting.Host words s s' h e = cc
side_small setting.HostCertificate words s s' h e = cc
side_small setting.Seed words s s' h e = map_ok HasSmallSizes _ _ s' (λ x _. record { preferred = h.preferred; group = h.group }) e
side_small setting.Refuse words s s' h e = two_ok HasSmallSizes (with_refusal s) part_of number_of words s' (λ p n. refusal_small s p n h) e
side_small setting.Group words s s' h e = cc

server_small : (what : Setting) (words : List (List ℕ)) (s s' : SideSetup) → HasSmallSizes s → set_server what words s ≡ Some s' → HasSmallSizes s'
server_small setting.Id words s s' h e = side_small setting.Id words s s' h e
server_small setting.RawId words s s' h e = side_small setting.RawId words s s' h e
server_small setting.Kex words s s' h e = side_small setting.Kex words s s' h e
server_small setting.Key words s s' h e = side_small setting.Key words s s' h e
server_small setting.Certificates words s s' h e = side_small setting.Certificates words s s' h e
server_small setting.Cipher words s s' h e = side_small setting.Cipher words s s' h e
server_small setting.Mac words s s' h e = side_small setting.Mac words s s' h e
server_small setting.Limits words s s' h e = side_small setting.Limits words s s' h e
server_small setting.GroupSizes words s s' h e = side_small setting.GroupSizes words s s' h e
server_small setting.Host words s s' h e = map_ok HasSmallSizes _ _ s' (λ x _. record { preferred = h.preferred; group = h.group }) e
server_small setting.HostCertificate words s s' h e = map_ok HasSmallSizes _ _ s' (λ x _. record { preferred = h.preferred; group = h.group }) e
server_small setting.Seed words s s' h e = side_small setting.Seed words s s' h e
server_small setting.Refuse words s s' h e = side_small setting.Refuse words s s' h e
server_small setting.Group words s s' h e = map_ok HasSmallSizes _ _ s' (λ bits f. record { preferred = h.preferred; group = word_small words bits f }) e

-- ---- what the lines make of both sides

by_small : (side : Option Side) (what : Option Setting) (words : List (List ℕ)) (p p' : Plan) → HasSmallGroups p → set_by side what words p ≡ Some p' → HasSmallGroups p'
by_small None what words p p' h e = cc
by_small (Some side) None words p p' h e = absurd (none_by side e)
  where
    none_by : (side : Side) → set_by (Some side) None words p ≡ Some p' → ⊥
    none_by Client e = cc
    none_by Server e = cc
by_small (Some Client) (Some what) words p p' h e = map_ok HasSmallGroups _ _ p' (λ s f. record { client = side_small what words p.client s h.client f; server = h.server }) e
by_small (Some Server) (Some what) words p p' h e = map_ok HasSmallGroups _ _ p' (λ s f. record { client = h.client; server = server_small what words p.server s h.server f }) e

set_small : (words : List (List ℕ)) (p p' : Plan) → HasSmallGroups p → set_words words p ≡ Some p' → HasSmallGroups p'
set_small [] p p' h e = cc
set_small (side ∷ []) p p' h e = cc
set_small (side ∷ what ∷ words) p p' h e = by_small (side_of side) (setting_in what) words p p' h e

before_small : (steps : List Step) (attacks : List AttackStep) (words : List (List ℕ)) (p p' : Plan) → HasSmallGroups p → set_before steps attacks words p ≡ Some p' → HasSmallGroups p'
before_small [] [] words p p' h e = set_small words p p' h e
before_small [] (step ∷ steps) words p p' h e = cc
before_small (step ∷ steps) attacks words p p' h e = cc

-- a line that sets something, beside what else it keeps
pub set_keeps : {A E : Type 0} (r : Result A E) (B : Type 0) (steps : List Step) (attacks : List AttackStep) (words : List (List ℕ)) (p p' : Plan) → HasSmallGroups p → OnOk r B → OnOk r (set_before steps attacks words p ≡ Some p') → OnOk r (B × HasSmallGroups p')
set_keeps (Ok x) B steps attacks words p p' h b e = (b, before_small steps attacks words p p' h e)
set_keeps (Err x) B steps attacks words p p' h b e = tt

step_small : (r : Result Step ScriptKind) (p p' : Plan) → HasSmallGroups p → with_step p r ≡ Ok p' → HasSmallGroups p'
step_small (Err kind) p p' h e = cc
step_small (Ok step) p p' h e = let q : record p { steps = p.steps ++ step ∷ [] } ≡ p' = cc in subst HasSmallGroups q (record { client = h.client; server = h.server })

attack_small : (r : Result AttackStep ScriptKind) (p p' : Plan) → HasSmallGroups p → with_attack p r ≡ Ok p' → HasSmallGroups p'
attack_small (Err kind) p p' h e = cc
attack_small (Ok step) p p' h e = let q : record p { attack = p.attack ++ step ∷ [] } ≡ p' = cc in subst HasSmallGroups q (record { client = h.client; server = h.server })

pub form_small : (attacked : Bool) (p : Plan) (word : List ℕ) (words : List (List ℕ)) (p' : Plan) → HasSmallGroups p → link_form attacked p word words ≡ Ok p' → HasSmallGroups p'
form_small attacked p word words p' h e =
    if_ok HasSmallGroups (bytes_eq word (codes "set")) _ _ p' (some_ok HasSmallGroups (set_before p.steps p.attack words p) p' (before_small p.steps p.attack words p p' h))
    (if_ok HasSmallGroups attacked _ _ p' (attack_small (attack_step word words) p p' h) (step_small (run_step word words) p p' h)) e

default_small : (s : ℕ) → s ≡ 3072 → s ≤ 65536
default_small s e = omega (arith, e)

first_small : HasSmallGroups first_plan
first_small = record {
  client = record { preferred = default_small 3072 refl; group = omega arith };
  server = record { preferred = default_small 3072 refl; group = omega arith };
}

pub first_is_small : (p : Plan) → p ≡ first_plan → HasSmallGroups p
first_is_small p e = subst HasSmallGroups (sym e) first_small

-- with the key of a server that no line gives one
pub completed_small : (p q : Plan) → HasSmallGroups p → q ≡ with_default_key p → HasSmallGroups q
completed_small p q h e = subst HasSmallGroups (sym e) (record { client = h.client; server = record { preferred = h.server.preferred; group = h.server.group } })
