-- The version lines of both sides are id lines, whole.
use Rattle.std.proofs.Common.{◌≡◌, refl, sym, subst}
use Rattle.std.specs.Str.{is_utf8, chars}
use lib.Utf8.{encode}
use Rattle.ssh_wire.specs.declared.ssh_id.SshId.{SshId}
use Rattle.ssh_run.specs.ClearRun.{IsWholeLine}
use Rattle.ssh_link.specs.Program.{client_id, server_id}

client_whole : IsWholeLine client_id
unfolding is_utf8 chars encode
client_whole = refl

server_whole : IsWholeLine server_id
unfolding is_utf8 chars encode
server_whole = refl

pub whole_client : (id : SshId) → id ≡ client_id → IsWholeLine id
whole_client id e = subst IsWholeLine (sym e) client_whole

pub whole_server : (id : SshId) → id ≡ server_id → IsWholeLine id
whole_server id e = subst IsWholeLine (sym e) server_whole
