-- What a key exchange algorithm holds, and what its calls answer.
use Rattle.std.specs.Prelude.{◌≡◌, ℕ, ◌^◌, ◌<◌, Bool, true, false, List, length, is_some, Option, Some, None, IfSome, ◌⊎◌}
use denote.Ref.{Bor}
use Rattle.ssh_negotiate.specs.declared.kex.Name as kexes
use Rattle.ssh_wire.specs.declared.error.Error.{Error}
use Rattle.ssh_wire.specs.declared.error.Error.TheVariants.{Kex, KexInit, Memory}
use Rattle.ssh_negotiate.specs.Tables.{shape_of}
use Rattle.ssh_kex.specs.Exchange.{bytes_in, formed}
use Rattle.ssh_kex.specs.Messages.{is_gex}
use Rattle.ssh_kex.specs.declared.exchange.SharedSecret.{SharedSecret}
use Rattle.ssh_kex.specs.declared.parts.Refusal.{Refusal}
use Rattle.ssh_kex.specs.declared.parts.Refusal.TheVariants as refusals
use Rattle.ssh_kex.specs.declared.exchange.Exchange.{Exchange}
use Rattle.ssh_kex.specs.declared.exchange.GexChosen.{GexChosen}
use Rattle.ssh_kex.specs.declared.group.DhGroup.{DhGroup}

-- the name, and the group, the local value of a client and the secret, where they are there
pub record Agreeing : Type 0 where
  pub name : kexes.Name
  pub group : Option DhGroup
  pub local : Option (List ℕ)
  pub secret : Option (List ℕ)

-- the bytes of a secret that is there
abbrev pub held_secret : Option SharedSecret → Option (List ℕ)
held_secret None = None
held_secret (Some s) = Some (bytes_in s)

-- a secret of these bytes in the form of the name
abbrev pub HoldsOne : kexes.Name → List ℕ → SharedSecret → Type 0
HoldsOne name bytes s = (s ≡ formed (shape_of name).form bytes) × (length bytes < 2 ^ 31)

-- the secret has the form of the name
abbrev pub HoldsSecret : kexes.Name → Option SharedSecret → Type 0
HoldsSecret name None = Unit {0}
HoldsSecret name (Some s) = HoldsOne name (bytes_in s) s

-- what a refusal of an agreement is answered with
abbrev pub agreement_error : Refusal → Error
agreement_error refusals.Refused = Kex
agreement_error refusals.Memory = Memory

-- a call for a group exchange alone
abbrev pub IsGexOrMemory : kexes.Name → Error → Type 0
IsGexOrMemory name error = ((is_gex name ≡ false) × (error ≡ KexInit)) ⊎ (error ≡ Memory)

-- a server's value and the secret are there; where no values are exchanged nothing changes
abbrev pub ServerAgrees : Bool → (List ℕ → List ℕ → Type 0) → Agreeing → Agreeing → Exchange → Exchange → Type 0
ServerAgrees true Made old new x y = (new ≡ old) × (y ≡ x)
ServerAgrees false Made old new x y = (value : List ℕ) × (secret : List ℕ) × Made value secret
    × (length value < 2 ^ 31) × (length secret < 2 ^ 31) × (new ≡ record old { secret = Some secret })
    × (y ≡ record x { server_ephemeral = value })

-- a client's value is there, and the message that carries it behind `out`
abbrev pub ClientStarts : Bool → (List ℕ → List ℕ → Type 0) → (List ℕ → List ℕ) → Agreeing → Agreeing → List ℕ
    → List ℕ → List ℕ → List ℕ → Type 0
ClientStarts true Made message old new value value' out out' = (new ≡ old) × (value' ≡ value) × (out' ≡ out)
ClientStarts false Made message old new value value' out out' = (local : List ℕ) × Made local value'
    × (length value' < 2 ^ 31) × (new ≡ record old { local = Some local }) × (out' ≡ message value')

-- the secret of a local value, which is used up
abbrev pub ClientAgrees : Bool → (List ℕ → List ℕ → Type 0) → Agreeing → Agreeing → Type 0
ClientAgrees true Made old new = new ≡ old
ClientAgrees false Made old new = (local : List ℕ) × (secret : List ℕ) × (old.local ≡ Some local) × Made local secret
    × (length secret < 2 ^ 31) × (new ≡ record old { local = None; secret = Some secret })

-- the group is there exactly in a group exchange
pub record IsWhole (name : kexes.Name) (host : List ℕ) (x : Exchange) : Type 0 where
  pub host_short : length host < 2 ^ 31
  pub client_id : length x.client_id < 2 ^ 31
  pub server_id : length x.server_id < 2 ^ 31
  pub client_kex_init : length x.client_kex_init < 2 ^ 31
  pub server_kex_init : length x.server_kex_init < 2 ^ 31
  pub client_ephemeral : length x.client_ephemeral < 2 ^ 31
  pub server_ephemeral : length x.server_ephemeral < 2 ^ 31
  pub group : IfSome x.gex (λ (g : GexChosen). (length g.group.prime < 2 ^ 31) × (length g.group.generator < 2 ^ 31))
  pub kind : is_some x.gex ≡ is_gex name

-- bytes that are lent, or not there
abbrev pub lent_bytes : Option (Bor (List ℕ)) → Option (List ℕ)
lent_bytes None = None
lent_bytes (Some b) = Some b.now
