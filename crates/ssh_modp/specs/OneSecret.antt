-- What both sides reckon in a field is one secret.
use Rattle.std.proofs.Common.{◌≡◌, ◌⊎◌, inl, inr, ℕ, List, Option, Some, sym, ap, ◌∙◌, subst}
use Rattle.ssh_negotiate.specs.declared.kex.Name.{Name}
use Rattle.ssh_wire.specs.Forms.{number}
use Rattle.ssh_kex.specs.declared.group.DhGroup.{DhGroup}
use Rattle.ssh_power.specs.Numbers.{power_modulo}
use Rattle.ssh_power.proofs.Lemmas.{powers_commute, same_digits}
use Rattle.ssh_modp.specs.Fields.{AgreesInField, HasPublicValue, MakesPublic, ServerPublic, SpellsSecret, field_power}

-- what the client reckons of a server's value, and what the server reckons of the client's
crossed : (g : DhGroup) (x y client server : List ℕ) → HasPublicValue g x client → HasPublicValue g y server
    → field_power g server x ≡ field_power g client y
crossed g x y client server c s =
    ap (λ (n : ℕ). power_modulo n (number x) (number g.prime)) s.power
    ∙ powers_commute (number g.generator) (number y) (number x) (number g.prime)
    ∙ sym (ap (λ (n : ℕ). power_modulo n (number y) (number g.prime)) c.power)

-- the number of a secret
reckoned : (g : DhGroup) (x y client server secret : List ℕ) → HasPublicValue g x client → HasPublicValue g y server
    → ((x : List ℕ) × HasPublicValue g x client × SpellsSecret g secret (field_power g server x))
    ⊎ ((y : List ℕ) × HasPublicValue g y server × SpellsSecret g secret (field_power g client y))
    → SpellsSecret g secret (field_power g client y)
reckoned g x y client server secret c s (inl h) =
    subst (SpellsSecret g secret) (crossed g h.0 y client server h.1 s) h.2
reckoned g x y client server secret c s (inr h) =
    subst (SpellsSecret g secret) (sym (crossed g x h.0 client server c h.1) ∙ crossed g x y client server c s) h.2

-- as many bytes of one number
one_spelling : (g : DhGroup) (a b : List ℕ) (n : ℕ) → SpellsSecret g a n → SpellsSecret g b n → a ≡ b
one_spelling g a b n p q = same_digits a b p.digits q.digits (p.long ∙ sym q.long) (p.spelled ∙ sym q.spelled)

pub one_secret : {name : Name} {group : Option DhGroup} {local client server x y : List ℕ}
    → MakesPublic name group local client → ServerPublic name group client server
    → AgreesInField name group client server x → AgreesInField name group client server y → x ≡ y
one_secret {name} {group} {local} {client} {server} {x} {y} c s a b =
    let e : a.at ≡ c.at = let z : Some a.at ≡ Some c.at = sym a.found ∙ c.found in cc in
    let f : b.at ≡ c.at = let z : Some b.at ≡ Some c.at = sym b.found ∙ c.found in cc in
    let h : (s.1).at ≡ c.at = let z : Some (s.1).at ≡ Some c.at = sym (s.1).found ∙ c.found in cc in
    let v : HasPublicValue c.at s.0 server = subst (λ (g : DhGroup). HasPublicValue g s.0 server) h (s.1).value in
    one_spelling c.at x y (field_power c.at client s.0)
    (reckoned c.at local s.0 client server x c.value v
    (subst (λ (g : DhGroup). ((x1 : List ℕ) × HasPublicValue g x1 client × SpellsSecret g x (field_power g server x1))
    ⊎ ((y1 : List ℕ) × HasPublicValue g y1 server × SpellsSecret g x (field_power g client y1))) e a.either))
    (reckoned c.at local s.0 client server y c.value v
    (subst (λ (g : DhGroup). ((x1 : List ℕ) × HasPublicValue g x1 client × SpellsSecret g y (field_power g server x1))
    ⊎ ((y1 : List ℕ) × HasPublicValue g y1 server × SpellsSecret g y (field_power g client y1))) f b.either))
