use Rattle.ssh_client_kex.proofs.ClientLists.{own_lists}
use Rattle.ssh_client_kex.proofs.client_kex.ClientKex.kexinit.Goals as goal

pub send_kexinit-requires : goal.send_kexinit-requires
send_kexinit-requires g c = own_lists _ _ _ _ _ c.self.view_is c.requires c.self.invariant
