use Rattle.std.proofs.Common.{rules}
use Rattle.uses_above.proofs.Auditing.{faultless, shown}
use Rattle.uses_above.proofs.audited.audit_link.Goals as goal

pub returns-clause-shown : goal.returns-clause-shown
returns-clause-shown g c = λ names have sizes link of.
    shown g.A.Agreement.client_makes g.A.Agreement.server_makes g.A.Agreement.agrees c.args.client.now c.args.server.now c.args.steps.items c.args.report c.args.secrets.items names _ c.audit.result c.link_is_shown.ensures (search rules) have sizes link of c.audit.ensures.accepted

pub returns-clause-faultless : goal.returns-clause-faultless
returns-clause-faultless g c = λ names have sizes link of.
    faultless g.A.Agreement.client_makes g.A.Agreement.server_makes g.A.Agreement.agrees c.args.client.now c.args.server.now c.args.steps.items c.args.report c.args.secrets.items names _ c.audit.result c.link_has_no_fault.ensures (search rules) have sizes link of c.audit.ensures.refused
