use Rattle.std.proofs.Common.{◌∙◌, ap}
use Rattle.ssh_negotiate.specs.Chosen.{mac_under}
use Rattle.ssh_negotiate.proofs.Parts.{mac_some, mac_refused}
use Rattle.ssh_negotiate.proofs.read.mac_of.Goals as goal

pub returns-in-Some : goal.returns-in-Some
returns-in-Some c =
    mac_some c.args.side c.args.cipher c.args.own.now c.args.peer.now c.in-Some.mac (c.in-Some.ensures ∙ ap (mac_under c.args.cipher) c.choice_of_read.ensures)

pub returns-in-None : goal.returns-in-None
returns-in-None c =
    mac_refused c.args.side c.args.cipher c.args.own.now c.args.peer.now c.refusal_of_read.result
    (c.in-None.ensures ∙ ap (mac_under c.args.cipher) c.choice_of_read.ensures) c.refusal_of_read.ensures
