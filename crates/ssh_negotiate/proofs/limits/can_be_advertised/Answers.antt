use Rattle.std.proofs.Common.{◌↔◌, IsTrue, subst, sym, rules}
use Rattle.std.specs.Option.{option_copied}
use Rattle.ssh_negotiate.specs.Laws.{IsWithin}
use Rattle.ssh_negotiate.specs.Reading.{offered_by}
use Rattle.ssh_negotiate.proofs.Telling.{client_within, server_within, short_within}
use Rattle.ssh_negotiate.proofs.limits.can_be_advertised.Goals as goal

pub returns-in-Some-clause-exact : goal.returns-in-Some-clause-exact
returns-in-Some-clause-exact c =
    subst (λ h. IsTrue c.are_all.result ↔ IsWithin (offered_by c.args.prefs.now (option_copied h))) (sym c.in-Some.is)
    (server_within c.args.prefs.now c.in-Some.hosts.now c.are_all.result c.is_kex_listed-kex.result c.are_server_hosts_listed-keys.result c.is_listed-ciphers.result c.is_listed-macs.result c.is_listed-compressions.result
    c.as_slice-in-Some.result.now c.as_slice-in-Some-2.result.now c.as_slice.result.now c.as_slice-2.result.now c.as_slice-3.result.now (search rules) (search rules) (search rules) (search rules) (search rules) c.are_all.ensures
    c.is_kex_listed-kex.ensures c.are_server_hosts_listed-keys.ensures c.is_listed-ciphers.ensures c.is_listed-macs.ensures c.is_listed-compressions.ensures)

pub returns-in-None-clause-exact : goal.returns-in-None-clause-exact
returns-in-None-clause-exact c =
    subst (λ h. IsTrue c.are_all-in-None.result ↔ IsWithin (offered_by c.args.prefs.now (option_copied h))) (sym c.in-None.is)
    (client_within c.args.prefs.now c.are_all-in-None.result c.is_kex_listed-kex-in-None.result c.are_client_hosts_listed-keys.result c.is_listed-ciphers.result c.is_listed-macs.result c.is_listed-compressions.result
    c.as_slice-in-None.result.now c.as_slice-in-None-2.result.now c.as_slice-in-None-3.result.now c.as_slice.result.now c.as_slice-2.result.now c.as_slice-3.result.now (search rules) (search rules) (search rules) (search rules) (search rules) (search rules) c.are_all-in-None.ensures
    c.is_kex_listed-kex-in-None.ensures c.are_client_hosts_listed-keys.ensures c.is_listed-ciphers.ensures c.is_listed-macs.ensures c.is_listed-compressions.ensures)

pub returns-in-Some-clause-short : goal.returns-in-Some-clause-short
returns-in-Some-clause-short c = short_within c.are_all.result (offered_by c.args.prefs.now (option_copied c.args.server_config)) (returns-in-Some-clause-exact c)

pub returns-in-None-clause-short : goal.returns-in-None-clause-short
returns-in-None-clause-short c = short_within c.are_all-in-None.result (offered_by c.args.prefs.now (option_copied c.args.server_config)) (returns-in-None-clause-exact c)
