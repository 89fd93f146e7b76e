use Rattle.std.proofs.Common.{◌∙◌, ap}
use Rattle.ssh_negotiate.specs.Preferences.{Hosts}
use Rattle.ssh_server_kex.proofs.ServerRows.{shows_key, shows_certificate, shows_none}
use Rattle.ssh_server_kex.proofs.presented.presented.Goals as goal

pub returns-in-Some : goal.returns-in-Some
returns-in-Some c =
    shows_key c.args.hosts.now _ _ c.args.algorithm c.in-Some.signer.now (c.as_slice-keys.ensures.value ∙ ap (λ (h : Hosts). h.keys) c.hosts.view_is) c.if-not-is_certificate.true c.in-Some.ensures

pub returns-in-Some-key_with : goal.returns-in-Some-key_with
returns-in-Some-key_with c =
    shows_certificate c.args.hosts.now _ _ _ _ c.args.algorithm c.in-Some-fitting_certificate.certificate.now c.in-Some-key_with.signer.now
    (c.as_slice-keys.ensures.value ∙ ap (λ (h : Hosts). h.keys) c.hosts.view_is) (c.as_slice.ensures.value ∙ ap (λ (h : Hosts). h.certificates) c.hosts.view_is) c.as_slice-2.ensures
    c.if-not-is_certificate.false c.in-Some-fitting_certificate.ensures c.in-Some-key_with.ensures

pub returns-in-None-key_with : goal.returns-in-None-key_with
returns-in-None-key_with c =
    shows_none c.args.hosts.now _ _ _ _ c.args.algorithm c.in-Some-fitting_certificate.certificate.now
    (c.as_slice-keys.ensures.value ∙ ap (λ (h : Hosts). h.keys) c.hosts.view_is) (c.as_slice.ensures.value ∙ ap (λ (h : Hosts). h.certificates) c.hosts.view_is) c.as_slice-2.ensures
    c.if-not-is_certificate.false c.in-Some-fitting_certificate.ensures c.in-None-key_with.ensures
