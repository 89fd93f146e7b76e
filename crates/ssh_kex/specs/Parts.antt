-- What is said of the handed-in parts.
use Rattle.std.specs.Prelude.{◌≡◌, ℕ, ◌+◌, ◌^◌, ◌<◌, ◌≤◌, Bool, true, List, length, is_some, Option, Some, Result, Ok, Err}
use Rattle.ssh_negotiate.specs.declared.kex.Name as kexes
use Rattle.ssh_negotiate.specs.declared.preferred.HostKey.{HostKey}
use Rattle.ssh_wire.specs.Outside.{Rose}
use Rattle.ssh_wire.specs.declared.algorithm.Algorithm.{Algorithm}
use Rattle.ssh_kex.specs.Messages.{is_gex, presented}
use Rattle.ssh_kex.specs.declared.config.Config.{Config}
use Rattle.ssh_kex.specs.declared.exchange.ServerHost.{ServerHost}
use Rattle.ssh_kex.specs.declared.group.DhGroup.{DhGroup}
use Rattle.ssh_kex.specs.declared.group.GexParams.{GexParams}
use Rattle.ssh_kex.specs.declared.parts.Refusal.{Refusal}
use Rattle.ssh_kex.specs.declared.parts.Refusal.TheVariants.{Refused, Memory}

-- the two sides that the parts are handed to
pub record Setup : Type 0 where
  pub client : Config
  pub server : Config

abbrev pub between : (client server : Config) → Setup
between client server = record { client = client; server = server }

-- the answer is a refusal
abbrev pub IsRefused : {T : Type 0} → Result T Refusal → Type 0
IsRefused (Ok x) = ⊥
IsRefused (Err Refused) = Unit {0}
IsRefused (Err Memory) = ⊥

-- refused only where the count of refusals rose; no call counts for more than one
pub record Counted {T : Type 0} (refusals refusals' calls calls' : ℕ) (result : Result T Refusal) : Type 0 where
  pub cause : IsRefused result → Rose refusals refusals'
  pub calls_one : calls' ≤ calls + 1

-- So many calls were answered between what a part says before and behind them, and none was refused: if it may have
-- answered some calls before, it may have answered so many more behind them, by whatever number it is known.
abbrev pub Raises : ℕ → (ℕ → ℕ → Bool) → (ℕ → ℕ → Bool) → Type 0
Raises count test test' = (known n : ℕ) → test known n ≡ true → test' known (n + count) ≡ true

-- so of a part's states
abbrev pub Answers : {T : Type 0} → (T → ℕ → ℕ → Bool) → ℕ → T → T → Type 0
Answers answered count old new = Raises count (answered old) (answered new)

-- what every answered byte string keeps
abbrev pub IsValue : List ℕ → Type 0
IsValue bytes = length bytes < 2 ^ 31

-- and what that of a lawful part keeps
abbrev pub IsSmall : List ℕ → Type 0
IsSmall bytes = length bytes ≤ 65536

-- a group is handed over in a group exchange, and in no other exchange
abbrev pub HasItsGroup : kexes.Name → Option DhGroup → Type 0
HasItsGroup name group = is_gex name ≡ is_some group

-- what each call of an agreement keeps: no count falls, and what obliges in a group between two states does so between
-- any states between these
pub record KeepsAgreement {A : Type 0} (lawful : A → Setup → Type 0) (obliging : A → A → Setup → Option DhGroup → Type 0)
    (offered : A → kexes.Name → Bool) (refusals calls : A → ℕ) (old new : A) : Type 0 where
  pub refusals_later : refusals old ≤ refusals new
  pub calls_later : calls old ≤ calls new
  pub lawful_kept : (s : Setup) → lawful old s → lawful new s
  pub obliging_kept : (later : A) (s : Setup) (group : Option DhGroup) → obliging old later s group
      → obliging new later s group
  pub obliging_sooner : (before : A) (s : Setup) (group : Option DhGroup) → obliging before new s group
      → obliging before old s group
  pub offered_kept : offered new ≡ offered old

-- what each call of host keys keeps
pub record KeepsHosts {H : Type 0} (lawful : H → Setup → Type 0) (signs judges : H → H → Setup → Type 0)
    (accepts : H → ServerHost → List ℕ → List ℕ → Bool) (trusts : H → ServerHost → Bool)
    (refused_sign refused_verify refused_check calls : H → ℕ) (old new : H) : Type 0 where
  pub sign_later : refused_sign old ≤ refused_sign new
  pub verify_later : refused_verify old ≤ refused_verify new
  pub check_later : refused_check old ≤ refused_check new
  pub calls_later : calls old ≤ calls new
  pub lawful_kept : (s : Setup) → lawful old s → lawful new s
  pub signs_kept : (later : H) (s : Setup) → signs old later s → signs new later s
  pub signs_sooner : (before : H) (s : Setup) → signs before new s → signs before old s
  pub judges_kept : (later : H) (s : Setup) → judges old later s → judges new later s
  pub judges_sooner : (before : H) (s : Setup) → judges before new s → judges before old s
  pub accepts_kept : accepts new ≡ accepts old
  pub trusts_kept : trusts new ≡ trusts old

-- what each call of a lookup keeps
pub record KeepsGroups {G : Type 0} (lawful : G → Setup → Type 0) (obliging : G → G → Setup → Type 0)
    (group : G → GexParams → DhGroup) (refusals calls : G → ℕ) (old new : G) : Type 0 where
  pub refusals_later : refusals old ≤ refusals new
  pub calls_later : calls old ≤ calls new
  pub lawful_kept : (s : Setup) → lawful old s → lawful new s
  pub obliging_kept : (later : G) (s : Setup) → obliging old later s → obliging new later s
  pub obliging_sooner : (before : G) (s : Setup) → obliging before new s → obliging before old s
  pub group_kept : group new ≡ group old

-- what each call keeps of all parts of a side: of each part what its own calls keep
pub record KeepsParts (agreement_keeps hosts_keep groups_keep : Type 0) : Type 0 where
  pub agreement : agreement_keeps
  pub hosts : hosts_keep
  pub groups : groups_keep

-- each part of a side answered so many calls
pub record PartsAnswer (agreement_answers hosts_answer groups_answer : Type 0) : Type 0 where
  pub agreement : agreement_answers
  pub hosts : hosts_answer
  pub groups : groups_answer

-- a host that a server presents, whose key signs under this algorithm
pub record Presents (server : Config) (host : ServerHost) (key : HostKey) (algorithm : Algorithm) : Type 0 where
  pub shown : presented server.host host.is_certificate host.algorithm ≡ Some (record { signer = key; blob = host.blob })
  pub same : host.algorithm ≡ algorithm
