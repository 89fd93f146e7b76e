-- The messages of a block, one more and the last of them.
use Rattle.std.proofs.Common.{◌≡◌, ℕ, zero, suc, ◌<◌, List, [], ◌∷◌, ◌++◌, length, take, refl, sym, ◌∙◌, ap, subst, arith, Option, Some, None, Bool, true, false, length-append}
use Rattle.std.proofs.Math.Seq.{take-append_seam}
use Rattle.std.specs.Prelude.{slice_get}
use Rattle.ssh_wire.specs.declared.side.Side.{Side}
use Rattle.ssh_wire.specs.declared.side.Side.TheVariants.{Client, Server}
use Rattle.ssh_kex.specs.declared.config.Config.{Config}
use Rattle.ssh_rules.specs.Fills.{Fills, messages}
use Rattle.ssh_rules.specs.Wire.{HasForm, HasFront}
use Rattle.ssh_blocks.specs.Judging.{IsMessageAt, reply_place}

-- the values of a front, with those of the message that follows it
abbrev pick : Side → Bool → ℕ → Fills → Fills → Fills
pick Client false zero f g = record f { cookie = g.cookie }
pick Client false (suc zero) f g = record f { value = g.value }
pick Client false (suc (suc n)) f g = f
pick Client true zero f g = record f { cookie = g.cookie }
pick Client true (suc zero) f g = f
pick Client true (suc (suc zero)) f g = record f { value = g.value }
pick Client true (suc (suc (suc n))) f g = f
pick Server false zero f g = record f { cookie = g.cookie }
pick Server false (suc zero) f g = record f { host = g.host; value = g.value; signature = g.signature }
pick Server false (suc (suc n)) f g = f
pick Server true zero f g = record f { cookie = g.cookie }
pick Server true (suc zero) f g = record f { group = g.group }
pick Server true (suc (suc zero)) f g = record f { host = g.host; value = g.value; signature = g.signature }
pick Server true (suc (suc (suc n))) f g = f

before_place : (side : Side) (config : Config) (kind : Bool) (k : ℕ) (f g : Fills) → take k (messages side config kind (pick side kind k f g)) ≡ take k (messages side config kind f)
before_place Client config false zero f g = refl
before_place Client config false (suc zero) f g = refl
before_place Client config false (suc (suc n)) f g = refl
before_place Client config true zero f g = refl
before_place Client config true (suc zero) f g = refl
before_place Client config true (suc (suc zero)) f g = refl
before_place Client config true (suc (suc (suc n))) f g = refl
before_place Server config false zero f g = refl
before_place Server config false (suc zero) f g = refl
before_place Server config false (suc (suc n)) f g = refl
before_place Server config true zero f g = refl
before_place Server config true (suc zero) f g = refl
before_place Server config true (suc (suc zero)) f g = refl
before_place Server config true (suc (suc (suc n))) f g = refl

at_place : (side : Side) (config : Config) (kind : Bool) (k : ℕ) (f g : Fills) → slice_get (messages side config kind (pick side kind k f g)) k ≡ slice_get (messages side config kind g) k
at_place Client config false zero f g = refl
at_place Client config false (suc zero) f g = refl
at_place Client config false (suc (suc zero)) f g = refl
at_place Client config false (suc (suc (suc n))) f g = refl
at_place Client config true zero f g = refl
at_place Client config true (suc zero) f g = refl
at_place Client config true (suc (suc zero)) f g = refl
at_place Client config true (suc (suc (suc zero))) f g = refl
at_place Client config true (suc (suc (suc (suc n)))) f g = refl
at_place Server config false zero f g = refl
at_place Server config false (suc zero) f g = refl
at_place Server config false (suc (suc zero)) f g = refl
at_place Server config false (suc (suc (suc n))) f g = refl
at_place Server config true zero f g = refl
at_place Server config true (suc zero) f g = refl
at_place Server config true (suc (suc zero)) f g = refl
at_place Server config true (suc (suc (suc zero))) f g = refl
at_place Server config true (suc (suc (suc (suc n)))) f g = refl

cookie_place : (side : Side) (kind : Bool) (k : ℕ) (f g : Fills) → length f.cookie ≡ 16 → length g.cookie ≡ 16 → length (pick side kind k f g).cookie ≡ 16
cookie_place Client false zero f g a b = b
cookie_place Client false (suc zero) f g a b = a
cookie_place Client false (suc (suc n)) f g a b = a
cookie_place Client true zero f g a b = b
cookie_place Client true (suc zero) f g a b = a
cookie_place Client true (suc (suc zero)) f g a b = a
cookie_place Client true (suc (suc (suc n))) f g a b = a
cookie_place Server false zero f g a b = b
cookie_place Server false (suc zero) f g a b = a
cookie_place Server false (suc (suc n)) f g a b = a
cookie_place Server true zero f g a b = b
cookie_place Server true (suc zero) f g a b = a
cookie_place Server true (suc (suc zero)) f g a b = a
cookie_place Server true (suc (suc (suc n))) f g a b = a

host_place : (side : Side) (kind : Bool) (k : ℕ) (f g : Fills) (host : Option (List ℕ)) → side ≡ Server → (reply_place kind < k → host ≡ Some f.host) → (k ≡ reply_place kind → host ≡ Some g.host) → reply_place kind < suc k → host ≡ Some (pick side kind k f g).host
host_place Client kind k f g host s a b l = cc
host_place Server false zero f g host s a b l = absurd (omega (arith, l))
host_place Server false (suc zero) f g host s a b l = b refl
host_place Server false (suc (suc n)) f g host s a b l = a (omega arith)
host_place Server true zero f g host s a b l = absurd (omega (arith, l))
host_place Server true (suc zero) f g host s a b l = absurd (omega (arith, l))
host_place Server true (suc (suc zero)) f g host s a b l = b refl
host_place Server true (suc (suc (suc n))) f g host s a b l = a (omega arith)

front_next : {A : Type 0} (whole own : List A) (m : A) → own ≡ take (length own) whole → slice_get whole (length own) ≡ Some m → HasFront whole (own ++ m ∷ [])
front_next [] [] m e g = absurd (let p : None ≡ Some m = g in cc)
front_next [] (o ∷ own) m e g = absurd (let p : o ∷ own ≡ [] = e in cc)
front_next (x ∷ whole) [] m e g = (whole, (let p : Some x ≡ Some m = g in let q : m ≡ x = cc in ap (λ y. y ∷ whole) q))
front_next (x ∷ whole) (o ∷ own) m e g =
    let p : o ∷ own ≡ x ∷ take (length own) whole = e in
    let head : o ≡ x = cc in
    let tail : own ≡ take (length own) whole = cc in
    let r = front_next whole own m tail g in
    (r.0, ap (λ y. y ∷ ((own ++ m ∷ []) ++ r.0)) head ∙ ap (λ t. x ∷ t) r.1)

get_behind : {A : Type 0} (own : List A) (m : A) (more : List A) → slice_get ((own ++ m ∷ []) ++ more) (length own) ≡ Some m
get_behind [] m more = refl
get_behind (o ∷ own) m more = get_behind own m more

front_take : {A : Type 0} (whole own : List A) → HasFront whole own → own ≡ take (length own) whole
front_take whole own f = sym (take-append_seam own f.0) ∙ ap (λ w. take (length own) w) f.1

-- one message more keeps the form
pub form_more : (side : Side) (config : Config) (kind : Bool) (host : Option (List ℕ)) (own : List (List ℕ)) (m : List ℕ) → HasForm side config kind host own → IsMessageAt side config kind host (length own) m → HasForm side config kind host (own ++ m ∷ [])
form_more side config kind host own m h n =
    record {
      fills = pick side kind (length own) h.fills n.fills;
      front = front_next (messages side config kind (pick side kind (length own) h.fills n.fills)) own m
          (front_take (messages side config kind h.fills) own h.front ∙ sym (before_place side config kind (length own) h.fills n.fills))
          (at_place side config kind (length own) h.fills n.fills ∙ n.at);
      cookie = cookie_place side kind (length own) h.fills n.fills h.cookie n.cookie;
      presents = λ s l. host_place side kind (length own) h.fills n.fills host s (λ b. h.presents s b) (λ e. n.presents s e) (subst (λ c. reply_place kind < c) (last_length own m) l);
    }
  where
    last_length : {A : Type 0} (own : List A) (m : A) → length (own ++ m ∷ []) ≡ suc (length own)
    last_length [] m = refl
    last_length (o ∷ own) m = ap suc (last_length own m)

-- the last message of a front is that of its place
pub form_last : (side : Side) (config : Config) (kind : Bool) (host : Option (List ℕ)) (own : List (List ℕ)) (m : List ℕ) → HasForm side config kind host (own ++ m ∷ []) → IsMessageAt side config kind host (length own) m
form_last side config kind host own m h = record {
  fills = h.fills;
  at = ap (λ w. slice_get w (length own)) (sym h.front.1) ∙ get_behind own m h.front.0;
  cookie = h.cookie;
  presents = λ s e. h.presents s (omega (arith, length-append own (m ∷ []), e));
}
