-- What an audit answers to the record of a link.
use Rattle.std.proofs.Common.{◌≡◌, ℕ, List, refl, subst, IfErr, IfOk, Result, Ok, Err}
use Rattle.ssh_negotiate.specs.declared.negotiation.Names.{Names}
use Rattle.ssh_kex.specs.declared.config.Config.{Config}
use Rattle.ssh_rules.specs.Headline.{IsLink}
use Rattle.ssh_rules.specs.Parts.{ClientPairs, Secrets, ServerValues}
use Rattle.ssh_rules.specs.Valid.{HasSizes}
use Rattle.ssh_rules.specs.declared.link.LinkReport.{LinkReport}
use Rattle.ssh_rules.specs.declared.link.Step.{Step}
use Rattle.ssh_record.specs.Answers.{HaveNames, IsAcceptedRecord, IsAuditEnd, judged_record}
use Rattle.ssh_record.specs.Links.{HasSecretsOf, LinkHasNoFault, LinkIsShown, ShowsLink, recording_of}
use Rattle.ssh_record.specs.Recordings.{Recording}
use Rattle.ssh_record.specs.declared.report.AuditEnd.{AuditEnd}
use Rattle.ssh_record.specs.declared.report.AuditEnd.TheVariants.{Fault, Memory}
use Rattle.ssh_record.specs.declared.report.AuditReport.{AuditReport}

pub shown : (client_makes : ClientPairs) (server_makes : ServerValues) (agrees : Secrets) (client server : Config) (steps : List Step) (report : LinkReport) (secrets : List (List ℕ)) (names : Names) (t : Recording) (r : Result AuditReport AuditEnd)
    → LinkIsShown client_makes server_makes agrees → t ≡ recording_of steps report secrets → HaveNames client server names → HasSizes client → IsLink client_makes server_makes agrees client server steps report
    → HasSecretsOf client_makes server_makes agrees (judged_record client server (recording_of steps report secrets) names) → IfOk r (IsAcceptedRecord client server t) → IfOk r (ShowsLink report)
shown cm sm ag client server steps report secrets names t (Ok a) law is have sizes link of h = law client server steps report secrets names have sizes link of a (subst (λ (x : Recording). IsAcceptedRecord client server x a) is h)
shown cm sm ag client server steps report secrets names t (Err e) law is have sizes link of h = tt

end_is : (client_makes : ClientPairs) (server_makes : ServerValues) (agrees : Secrets) (client server : Config) (steps : List Step) (report : LinkReport) (secrets : List (List ℕ)) (names : Names)
    → LinkHasNoFault client_makes server_makes agrees → HaveNames client server names → HasSizes client → IsLink client_makes server_makes agrees client server steps report
    → HasSecretsOf client_makes server_makes agrees (judged_record client server (recording_of steps report secrets) names) → (e : AuditEnd) → IsAuditEnd client server (recording_of steps report secrets) e → e ≡ Memory
end_is cm sm ag client server steps report secrets names law have sizes link of (Fault f) h = absurd (law client server steps report secrets names have sizes link of f h)
end_is cm sm ag client server steps report secrets names law have sizes link of Memory h = refl

pub faultless : (client_makes : ClientPairs) (server_makes : ServerValues) (agrees : Secrets) (client server : Config) (steps : List Step) (report : LinkReport) (secrets : List (List ℕ)) (names : Names) (t : Recording) (r : Result AuditReport AuditEnd)
    → LinkHasNoFault client_makes server_makes agrees → t ≡ recording_of steps report secrets → HaveNames client server names → HasSizes client → IsLink client_makes server_makes agrees client server steps report
    → HasSecretsOf client_makes server_makes agrees (judged_record client server (recording_of steps report secrets) names) → IfErr r (IsAuditEnd client server t) → IfErr r (λ e. e ≡ Memory)
faultless cm sm ag client server steps report secrets names t (Ok a) law is have sizes link of h = tt
faultless cm sm ag client server steps report secrets names t (Err e) law is have sizes link of h =
    end_is cm sm ag client server steps report secrets names law have sizes link of e (subst (λ (x : Recording). IsAuditEnd client server x e) is h)
