-- Host keys of a server that has one key.
use Rattle.std.specs.Prelude.{◌≡◌, ℕ, ◌+◌, List, All}
use Rattle.ssh_kex.specs.Parts.{Presents, Setup}
use Rattle.ssh_kex.specs.declared.config.Config.{Config}
use Rattle.ssh_kex.specs.declared.exchange.ServerHost.{ServerHost}
use Rattle.ssh_negotiate.specs.declared.preferred.HostKey.{HostKey}
use Rattle.ssh_wire.specs.Outside.{next_count}
use Rattle.ssh_wire.specs.declared.algorithm.Algorithm.{Algorithm}
use Rattle.uses.specs.declared.one_key.OneKey.{OneKey}

-- whatever host the server presents, under whatever algorithm, the blob of its key is this one
abbrev pub PresentsOnly : List ℕ → Config → Type 0
PresentsOnly blob server =
    (host : ServerHost) (key : HostKey) (algorithm : Algorithm) → Presents server host key algorithm → key.blob ≡ blob

-- so it is where each configured key has this blob, whatever certificates are configured
abbrev pub OneKeyPresented : Type 0
OneKeyPresented =
    (server : Config) (blob : List ℕ) → All (λ (key : HostKey). key.blob ≡ blob) server.host.keys
    → PresentsOnly blob server

-- they sign where the inner ones do, for a server that presents this key alone
abbrev pub SignsByOne : {H : Type 0} → (H → H → Setup → Type 0) → OneKey H → OneKey H → Setup → Type 0
SignsByOne inner v later s = inner v.inner later.inner s × PresentsOnly v.blob s.server

-- the refusals here, and a count of the inner ones
abbrev pub with_refused : {H : Type 0} → (H → ℕ) → OneKey H → ℕ
with_refused inner v = v.refused + inner v.inner

-- a refusal was counted here, and the inner ones weren't asked
abbrev pub RefusesHere : {H : Type 0} → OneKey H → OneKey H → Type 0
RefusesHere old new = new ≡ record old { refused = next_count old.refused }
