-- How often the calls on a link ask the parts of its sides, whatever they answer.
use Rattle.std.specs.Prelude.{◌≡◌, ◌⊎◌, None, ℕ, ◌+◌, ◌*◌, ◌^◌, ◌<◌, ◌≤◌, length, false, List, ◌++◌, take, drop}
use Rattle.ssh_wire.specs.declared.side.Side.TheVariants.{Client, Server}
use Rattle.ssh_kex.specs.Setting.{Says}
use Rattle.ssh_kex.specs.declared.config.Config.{Config}
use Rattle.ssh_rules.specs.Asking.{AsksWithin, PartCalls, RefusesAsking}
use Rattle.ssh_rules.specs.Counting.{begun}
use Rattle.ssh_rules.specs.Headline.{bound_of, chosen_by, kind_by}
use Rattle.ssh_rules.specs.Standing.{Standing}
use Rattle.ssh_rules.specs.Valid.{config_fault}
use Rattle.ssh_rules.specs.declared.link.Step.{Step}
use Rattle.ssh_run.specs.Carrying.{CarriedEnd, CarriedLink, CarriesTo, IsNewLink, RepeatsTurns, StepsLinks, all_bytes, carried_count, last_link}

-- between two transports the parts of their side were asked no more often than its events let them be
pub record SideAsks (old new : Standing) (calls calls' : PartCalls) : Type 0 where
  pub side : new.side ≡ old.side
  pub later : begun old.state ≤ begun new.state
  pub within : AsksWithin old.side old.state new.state calls calls'

-- Bytes of the other's output were carried to a side that broke off: how often the parts were asked up to there.
pub record PieceBroke (says : Says) (old : CarriedEnd) (wire : List ℕ) (n : ℕ) (calls calls' : PartCalls) : Type 0 where
  pub left : Standing
  pub asks : RefusesAsking says old.transport (take (carried_count old wire n) (drop old.taken wire)) left calls calls'

-- or nothing was asked
abbrev pub PieceAsks : Says → CarriedEnd → List ℕ → ℕ → PartCalls → PartCalls → Type 0
PieceAsks says old wire n calls calls' = (calls' ≡ calls) ⊎ PieceBroke says old wire n calls calls'

-- A turn in part: the server took all that waits for it or did not, and then each side may have taken a piece that
-- broke off.
pub record PartAsks (client server : Says) (old : CarriedLink)
    (client_calls client_calls' server_calls server_calls' : PartCalls) : Type 0 where
  pub half : CarriedLink
  pub taken : (half ≡ old)
      ⊎ (CarriesTo server old.server old.client.transport.output all_bytes half.server × (half.client ≡ old.client))
  pub client_before : PartCalls
  pub of_client : SideAsks old.client.transport half.client.transport client_calls client_before
  pub client_count : ℕ
  pub client_last : PieceAsks client half.client half.server.transport.output client_count client_before client_calls'
  pub server_before : PartCalls
  pub of_server : SideAsks old.server.transport half.server.transport server_calls server_before
  pub server_count : ℕ
  pub server_last : PieceAsks server half.server half.client.transport.output server_count server_before server_calls'

-- Some turns of both, and one in part.
pub record TurnsAsk (client server : Says) (old : CarriedLink)
    (client_calls client_calls' server_calls server_calls' : PartCalls) : Type 0 where
  pub times : ℕ
  pub mid : CarriedLink
  pub turns : RepeatsTurns client server times old mid
  pub client_before : PartCalls
  pub of_client : SideAsks old.client.transport mid.client.transport client_calls client_before
  pub server_before : PartCalls
  pub of_server : SideAsks old.server.transport mid.server.transport server_calls server_before
  pub part : PartAsks client server mid client_before client_calls' server_before server_calls'

-- Some of the steps, and one in part.
pub record LinkAsks (client server : Says) (steps : List Step) (old : CarriedLink)
    (client_calls client_calls' server_calls server_calls' : PartCalls) : Type 0 where
  pub done : List Step
  pub more : List Step
  pub steps_are : steps ≡ done ++ more
  pub links : List CarriedLink
  pub each : StepsLinks client server done old links
  pub client_before : PartCalls
  pub of_client : SideAsks old.client.transport (last_link old links).client.transport client_calls client_before
  pub server_before : PartCalls
  pub of_server : SideAsks old.server.transport (last_link old links).server.transport server_calls server_before
  pub part : TurnsAsk client server (last_link old links) client_before client_calls' server_before server_calls'

-- the run of a new link, whose configurations were good
pub record NewLinkAsks (client_says server_says : Says) (client server : Config) (steps : List Step)
    (client_calls client_calls' server_calls server_calls' : PartCalls) : Type 0 where
  pub of_client : config_fault Client client ≡ None
  pub of_server : config_fault Server server ≡ None
  pub few : length steps < 2 ^ 64
  pub first : CarriedLink
  pub new : IsNewLink client server first
  pub asks : LinkAsks client_says server_says steps first client_calls client_calls' server_calls server_calls'

-- or nothing was asked
abbrev pub CarriedAsks : (client_says server_says : Says) → (client server : Config) → List Step
    → (client_calls client_calls' server_calls server_calls' : PartCalls) → Type 0
CarriedAsks client_says server_says client server steps c c' s s' = ((c' ≡ c) × (s' ≡ s))
    ⊎ NewLinkAsks client_says server_says client server steps c c' s s'

-- How often a run asks the parts of both sides: in each exchange a client's agreement and host keys twice, a server's
-- and its lookup once, the lookup only where a group exchange is chosen. A client's lookup is never asked.
pub record RunAsks (client server : Config) (steps : List Step)
    (client_calls client_calls' server_calls server_calls' : PartCalls) : Type 0 where
  pub client_agreement : client_calls'.agreement ≤ client_calls.agreement + 2 * bound_of steps
  pub client_hosts : client_calls'.hosts ≤ client_calls.hosts + 2 * bound_of steps
  pub client_lookups : client_calls'.lookups ≡ client_calls.lookups
  pub server_agreement : server_calls'.agreement ≤ server_calls.agreement + bound_of steps
  pub server_hosts : server_calls'.hosts ≤ server_calls.hosts + bound_of steps
  pub server_lookups : server_calls'.lookups ≤ server_calls.lookups + bound_of steps
  pub no_groups : kind_by (chosen_by client server) ≡ false → server_calls'.lookups ≡ server_calls.lookups
