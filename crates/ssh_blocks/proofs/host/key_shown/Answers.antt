use Rattle.std.proofs.Common.{◌∙◌, ap}
use Rattle.ssh_negotiate.specs.Preferences.{Hosts}
use Rattle.ssh_blocks.proofs.Shown.{key_is, no_key}
use Rattle.ssh_blocks.proofs.host.key_shown.Goals as goal

pub returns-in-Some : goal.returns-in-Some
returns-in-Some c =
    key_is c.args.hosts.now c.args.algorithm c.as_slice.result.now c.in-Some.key.now c.as_slice-in-Some.result.now
    (c.as_slice.ensures.value ∙ ap (λ (h : Hosts). h.keys) c.hosts.view_is) c.in-Some.ensures c.as_slice-in-Some.ensures

pub returns-in-None : goal.returns-in-None
returns-in-None c =
    no_key c.args.hosts.now c.args.algorithm c.as_slice.result.now (c.as_slice.ensures.value ∙ ap (λ (h : Hosts). h.keys) c.hosts.view_is) c.in-None.ensures
