use Rattle.ssh_attack.proofs.Leaving.{leaves_still}
use Rattle.ssh_attack.proofs.attack.Attack.step.Goals as goal

pub returns-in-Submit-Client-default-clause-server_leaves : goal.returns-in-Submit-Client-default-clause-server_leaves
returns-in-Submit-Client-default-clause-server_leaves g c = λ m. leaves_still _ _

pub returns-in-Submit-Server-default-clause-client_leaves : goal.returns-in-Submit-Server-default-clause-client_leaves
returns-in-Submit-Server-default-clause-client_leaves g c = λ m. leaves_still _ _

pub returns-in-Rekey-Client-clause-server_leaves : goal.returns-in-Rekey-Client-clause-server_leaves
returns-in-Rekey-Client-clause-server_leaves g c = λ m. leaves_still _ _

pub returns-in-Rekey-Server-clause-client_leaves : goal.returns-in-Rekey-Server-clause-client_leaves
returns-in-Rekey-Server-clause-client_leaves g c = λ m. leaves_still _ _
