-- What a client and a server draw for one secret.
use Rattle.std.specs.Prelude.{ℕ, List, Option}
use Rattle.rand_core.specs.Stream.{Stream}
use Rattle.ssh_kex.specs.declared.group.DhGroup.{DhGroup}
use Rattle.ssh_negotiate.specs.declared.kex.Name as kexes
use Rattle.ssh_transport.specs.Sending.{ClientRelation, ServerRelation}

-- The client's values were drawn from its generator. The server's value and the secret were drawn from the server's
-- generator, for the client's public value.
pub record IsDrawnSecret (by_client : ClientRelation) (by_server : ServerRelation) (name : kexes.Name)
    (group : Option DhGroup) (client client' server server' : Stream) (secret : List ℕ) : Type 0 where
  pub local : List ℕ
  pub client_public : List ℕ
  pub server_public : List ℕ
  pub of_client : by_client name group client local client_public client'
  pub of_server : by_server name group client_public server server_public secret server'
