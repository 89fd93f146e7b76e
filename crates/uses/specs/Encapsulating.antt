-- An encapsulation: what a server sends is its secret, masked by the client's value.
use Rattle.std.specs.Prelude.{◌≡◌, ℕ, List, [], ◌∷◌, ◌==◌, Bool, true, false, bit_xor, length, Option}
use Rattle.rand_core.specs.Stream.{Stream, fill_bytes}
use Rattle.ssh_negotiate.specs.Tables.{shape_of}
use Rattle.ssh_negotiate.specs.declared.kex.Name.{Name}
use Rattle.ssh_negotiate.specs.declared.kex.SecretForm.{SecretForm}
use Rattle.ssh_negotiate.specs.declared.kex.SecretForm.TheVariants.{Mpint, Str}
use Rattle.ssh_kex.specs.declared.group.DhGroup.{DhGroup}

-- the exclusive or of two strings, byte by byte, as long as the shorter one
unfoldable pub masked : List ℕ → List ℕ → List ℕ
masked [] ys = []
masked (x ∷ xs) [] = []
masked (x ∷ xs) (y ∷ ys) = bit_xor x y ∷ masked xs ys

-- the names whose secret is hashed as a string: that of a hybrid of ML-KEM
abbrev pub is_string : SecretForm → Bool
is_string Mpint = false
is_string Str = true

abbrev pub is_hybrid : Name → Bool
is_hybrid name = is_string (shape_of name).form

-- whether a value has the length of those that are made
abbrev pub is_mask : List ℕ → Bool
is_mask value = length value == 32

-- a client keeps what it sends
pub record SendsMask (name : Name) (group : Option DhGroup) (local public : List ℕ) : Type 0 where
  pub same : local ≡ public
  pub long : is_mask public ≡ true

-- a server sends some secret, masked by the client's value
pub record SendsMasked (name : Name) (group : Option DhGroup) (client server : List ℕ) : Type 0 where
  pub secret : List ℕ
  pub sent : server ≡ masked client secret
  pub long : is_mask server ≡ true

-- the secret is what the server's value is without the mask
abbrev pub Unmasks : Name → Option DhGroup → List ℕ → List ℕ → List ℕ → Type 0
Unmasks name group client server secret = secret ≡ masked client server

-- a client draws its value
abbrev pub DrawsMask : Name → Option DhGroup → Stream → List ℕ → List ℕ → Stream → Type 0
DrawsMask name group before local public behind = (public, behind) ≡ fill_bytes 32 before

-- a server draws the secret
abbrev pub DrawsSecret : Name → Option DhGroup → List ℕ → Stream → List ℕ → List ℕ → Stream → Type 0
DrawsSecret name group client before public secret behind =
    ((secret, behind) ≡ fill_bytes 32 before) × (public ≡ masked client secret)
