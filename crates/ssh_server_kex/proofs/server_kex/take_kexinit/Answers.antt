use Rattle.std.proofs.Common.{◌≡◌, true}
use Rattle.ssh_server_kex.proofs.ServerOpens.{keeps_names, opening_answered, opening_wants}
use Rattle.ssh_server_kex.proofs.server_kex.take_kexinit.Goals as goal

pub begin-requires : goal.begin-requires
begin-requires g c =
    keeps_names _ c.args.base.config.now c.args.base.cause c.args.base.exchange c.open.new.exchange c.in-Ok.names c.args.incoming.seqn c.args.incoming.payload.now c.requires.fresh c.in-Ok.ensures.ok c.requires.short

pub returns-clause-ok : goal.returns-clause-ok
returns-clause-ok g c =
    opening_answered _ c.args.base.config.now c.args.base.cause c.args.base.exchange c.open.new.exchange c.in-Ok.names c.args.incoming c.args.output.now _ c.begin.result c.in-Ok.ensures.ok c.begin.ensures.ok

pub returns-clause-err : goal.returns-clause-err
returns-clause-err g c =
    opening_wants (λ name. g.A.Agreement.offered c.args.agreement.now name ≡ true) c.args.base.config.now c.args.base.cause c.args.incoming c.begin.result c.begin.ensures.err
