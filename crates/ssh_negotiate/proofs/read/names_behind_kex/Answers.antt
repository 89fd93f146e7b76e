use Rattle.std.proofs.Common.{sym}
use Rattle.std.proofs.lemmas.Result.{err_from_is_err_and}
use Rattle.ssh_wire.specs.Names.{names_at}
use Rattle.ssh_wire.specs.declared.error.AlgorithmKind.TheVariants.{Key}
use Rattle.ssh_negotiate.specs.Advertised.{host_text}
use Rattle.ssh_negotiate.specs.Parts.{ciphers_part, hosts_part}
use Rattle.ssh_negotiate.specs.Reading.{select}
use Rattle.ssh_negotiate.proofs.Parts.{gives_err, given, refused, taken}
use Rattle.ssh_negotiate.proofs.read.names_behind_kex.Goals as goal

pub returns-in_err-host : goal.returns-in_err-host
returns-in_err-host c =
    let p = err_from_is_err_and c.from_residual.result c.from_residual.ensures.1 in
    gives_err (hosts_part c.args.side c.args.pref.now c.args.hosts.now c.args.kex c.args.strict c.args.r.now) c.from_residual.result p.0 c.in_err-host.field-0.0 p.1 p.2
    (refused (names_at c.args.r.now) (select host_text c.args.side Key c.args.hosts.now) (λ host r. ciphers_part c.args.side c.args.pref.now c.args.kex host c.args.strict r) c.in_err-host.field-0.0 c.in_err-host.ensures)

pub returns : goal.returns
returns c =
    given _ _ c.names_behind_host.result
    (sym (taken (names_at c.args.r.now) (select host_text c.args.side Key c.args.hosts.now) (λ host r. ciphers_part c.args.side c.args.pref.now c.args.kex host c.args.strict r) c.in_ok-host.host c.choice_at.new.r c.in_ok-host.ensures))
    c.names_behind_host.ensures
