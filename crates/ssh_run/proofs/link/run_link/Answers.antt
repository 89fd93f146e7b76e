use Rattle.std.proofs.Common.{◌≡◌, None}
use Rattle.ssh_wire.specs.declared.side.Side.{Side}
use Rattle.ssh_wire.specs.declared.side.Side.TheVariants.{Client, Server}
use Rattle.ssh_kex.specs.Parts.{Setup}
use Rattle.ssh_kex.specs.Stepping.{says_of}
use Rattle.ssh_rules.specs.AnyParts.{IsReadLink}
use Rattle.ssh_rules.specs.Headline.{IsInGroup, IsLink}
use Rattle.ssh_rules.specs.RunLaws.{config_of, says_by}
use Rattle.ssh_rules.specs.Snapshots.{IsWholeId}
use Rattle.ssh_rules.specs.Valid.{HasSizes, config_fault}
use Rattle.ssh_rules.specs.LinkCauses.{Rises, rises_of, unobliged_of}
use Rattle.ssh_rules.proofs.Lemmas.{AreLawful, Tells}
use Rattle.ssh_run.specs.Reports.{IsWholeReport}
use Rattle.ssh_run.specs.RefusedCarrying.{Telling, telling_of}
use Rattle.ssh_run.specs.RunCauses.{offered_on, rises_by}
use Rattle.ssh_run.proofs.GoodSubmits.{steps_good}
use Rattle.ssh_run.proofs.RefusedLinks.{any_run_cause, if_refused, lawful_causes, obliging_complete, ok_good, run_cause, says_in, tells_by}
use Rattle.ssh_run.proofs.AskedRuns.{all_asked}
use Rattle.ssh_run.proofs.CarriedLinks.{carried_in_group, carried_is_link, carried_is_read}
use Rattle.ssh_run.proofs.LinkSoFar.{if_told, of_sides}
use Rattle.ssh_run.proofs.WholeIds.{whole_id}
use Rattle.ssh_run.proofs.WholeReports.{whole_run}
use Rattle.ssh_run.proofs.link.run_link.Goals as goal

pub returns-clause-report : goal.returns-clause-report
returns-clause-report g c = if_told (IsWholeReport c.args.steps.now) c.carry_steps.result c.carry_steps.ensures.client c.carry_steps.ensures.server c.carry_steps.ensures.few c.carry_steps.ensures.carried (λ r v w few k. whole_run _ _ c.args.client.now c.args.server.now c.args.steps.now r few k)

pub returns-clause-link : goal.returns-clause-link
returns-clause-link g c = λ la lb lg.
    let t : Setup = record { client = c.args.client.now; server = c.args.server.now } in
    let a = c.args.client_parts.now.agreement in
    let b = c.args.server_parts.now.agreement in
    let says = says_by (says_of g.A.Agreement g.H.HostKeys g.G.GroupLookup) t a b c.args.client_parts.now.hosts c.args.server_parts.now.hosts c.args.client_parts.now.groups c.args.server_parts.now.groups in
    let sizes = of_sides (λ s. HasSizes (config_of t s)) c.see_types.ensures.sizes c.see_types-2.ensures.sizes in
    if_told (IsLink g.A.Agreement.client_makes g.A.Agreement.server_makes g.A.Agreement.agrees c.args.client.now c.args.server.now c.args.steps.now) c.carry_steps.result c.carry_steps.ensures.client c.carry_steps.ensures.server c.carry_steps.ensures.few c.carry_steps.ensures.carried
    (λ r v w few k. carried_is_link says (config_of t) g.A.Agreement.client_makes g.A.Agreement.server_makes g.A.Agreement.agrees c.args.steps.now r (of_sides (λ s. config_fault s (config_of t s) ≡ None) v w) sizes (of_sides (λ s. IsWholeId (config_of t s)) (whole_id Client c.args.client.now v c.see_types.ensures.text) (whole_id Server c.args.server.now w c.see_types-2.ensures.text)) few
    (record { for_client = λ name group local public e. e t la; for_server = λ name group client public e. e t lb; for_secret = λ name group x y secret e. e t la })
    (λ name group local client server p q cm sm cp sq. g.met.A.Agreement.one_secret a t name group local client server p q la (cm t la) (sm t lb) (cp t la) (sq t lb))
    (λ sizes group f. (f t lg).1)
    k)

pub returns-clause-group : goal.returns-clause-group
returns-clause-group g c = λ la lb lg.
    let t : Setup = record { client = c.args.client.now; server = c.args.server.now } in
    let a = c.args.client_parts.now.agreement in
    let b = c.args.server_parts.now.agreement in
    let says = says_by (says_of g.A.Agreement g.H.HostKeys g.G.GroupLookup) t a b c.args.client_parts.now.hosts c.args.server_parts.now.hosts c.args.client_parts.now.groups c.args.server_parts.now.groups in
    let sizes = of_sides (λ s. HasSizes (config_of t s)) c.see_types.ensures.sizes c.see_types-2.ensures.sizes in
    if_told (IsInGroup c.args.server.now (g.G.GroupLookup.group c.args.server_parts.now.groups c.args.client.now.gex)) c.carry_steps.result c.carry_steps.ensures.client c.carry_steps.ensures.server c.carry_steps.ensures.few c.carry_steps.ensures.carried
    (λ r v w few k. carried_in_group says (config_of t) (g.G.GroupLookup.group c.args.server_parts.now.groups c.args.client.now.gex) c.args.steps.now r (of_sides (λ s. config_fault s (config_of t s) ≡ None) v w) sizes (of_sides (λ s. IsWholeId (config_of t s)) (whole_id Client c.args.client.now v c.see_types.ensures.text) (whole_id Server c.args.server.now w c.see_types-2.ensures.text)) few
    (λ name group local client server p q cm sm cp sq. g.met.A.Agreement.one_secret a t name group local client server p q la (cm t la) (sm t lb) (cp t la) (sq t lb))
    (λ sizes group f. (f t lg).1)
    (λ group f. (f t lg).0)
    k)

pub returns-clause-read : goal.returns-clause-read
returns-clause-read g c =
    let t : Setup = record { client = c.args.client.now; server = c.args.server.now } in
    let a = c.args.client_parts.now.agreement in
    let b = c.args.server_parts.now.agreement in
    let says = says_by (says_of g.A.Agreement g.H.HostKeys g.G.GroupLookup) t a b c.args.client_parts.now.hosts c.args.server_parts.now.hosts c.args.client_parts.now.groups c.args.server_parts.now.groups in
    let sizes = of_sides (λ s. HasSizes (config_of t s)) c.see_types.ensures.sizes c.see_types-2.ensures.sizes in
    if_told (IsReadLink (g.H.HostKeys.accepts c.args.client_parts.now.hosts) (g.H.HostKeys.trusts c.args.client_parts.now.hosts) c.args.client.now c.args.server.now) c.carry_steps.result c.carry_steps.ensures.client c.carry_steps.ensures.server c.carry_steps.ensures.few c.carry_steps.ensures.carried
    (λ r v w few k. carried_is_read says (config_of t) (g.H.HostKeys.accepts c.args.client_parts.now.hosts) (g.H.HostKeys.trusts c.args.client_parts.now.hosts) c.args.steps.now r (of_sides (λ s. config_fault s (config_of t s) ≡ None) v w) sizes (of_sides (λ s. IsWholeId (config_of t s)) (whole_id Client c.args.client.now v c.see_types.ensures.text) (whole_id Server c.args.server.now w c.see_types-2.ensures.text)) few
    (λ host hash signature e. e, λ host e. e)
    k)

pub returns-clause-refused : goal.returns-clause-refused
returns-clause-refused g c =
    let t : Setup = record { client = c.args.client.now; server = c.args.server.now } in
    let tell : Side → Telling = tells_by (telling_of g.A.Agreement g.H.HostKeys g.G.GroupLookup c.args.client.now c.args.client_parts.now.agreement c.carry_steps.new.client_parts.agreement c.args.client_parts.now.hosts c.carry_steps.new.client_parts.hosts c.args.client_parts.now.groups c.carry_steps.new.client_parts.groups) (telling_of g.A.Agreement g.H.HostKeys g.G.GroupLookup c.args.server.now c.args.server_parts.now.agreement c.carry_steps.new.server_parts.agreement c.args.server_parts.now.hosts c.carry_steps.new.server_parts.hosts c.args.server_parts.now.groups c.carry_steps.new.server_parts.groups) in
    let rises : Side → Rises = rises_by (rises_of g.A.Agreement g.H.HostKeys g.G.GroupLookup c.args.client_parts.now.agreement c.carry_steps.new.client_parts.agreement c.args.client_parts.now.hosts c.carry_steps.new.client_parts.hosts c.args.client_parts.now.groups c.carry_steps.new.client_parts.groups) (rises_of g.A.Agreement g.H.HostKeys g.G.GroupLookup c.args.server_parts.now.agreement c.carry_steps.new.server_parts.agreement c.args.server_parts.now.hosts c.carry_steps.new.server_parts.hosts c.args.server_parts.now.groups c.carry_steps.new.server_parts.groups) in
    let sizes = of_sides (λ s. HasSizes (config_of t s)) c.see_types.ensures.sizes c.see_types-2.ensures.sizes in
    if_refused c.carry_steps.result c.carry_steps.ensures.refused
    (λ e r. any_run_cause tell (config_of t) rises c.args.steps.now e sizes (of_sides (λ s. Tells (tell s).denies (tell s).untrusted (rises s)) (record { start = λ name q d. d.0; value = λ name q v d. d.0; reply = λ name q l v d. d.0; lookup = λ sizes d. d.0; sign = λ config d. d.0; verify = λ host hash signature d. d.0; check = λ host d. d.0 }) (record { start = λ name q d. d.0; value = λ name q v d. d.0; reply = λ name q l v d. d.0; lookup = λ sizes d. d.0; sign = λ config d. d.0; verify = λ host hash signature d. d.0; check = λ host d. d.0 })) (λ v. of_sides (λ s. IsWholeId (config_of t s)) (whole_id Client c.args.client.now (v Client) c.see_types.ensures.text) (whole_id Server c.args.server.now (v Server) c.see_types-2.ensures.text)) r)

pub returns-clause-causes : goal.returns-clause-causes
returns-clause-causes g c = λ la lb lh li lg.
    let t : Setup = record { client = c.args.client.now; server = c.args.server.now } in
    let tell : Side → Telling = tells_by (telling_of g.A.Agreement g.H.HostKeys g.G.GroupLookup c.args.client.now c.args.client_parts.now.agreement c.carry_steps.new.client_parts.agreement c.args.client_parts.now.hosts c.carry_steps.new.client_parts.hosts c.args.client_parts.now.groups c.carry_steps.new.client_parts.groups) (telling_of g.A.Agreement g.H.HostKeys g.G.GroupLookup c.args.server.now c.args.server_parts.now.agreement c.carry_steps.new.server_parts.agreement c.args.server_parts.now.hosts c.carry_steps.new.server_parts.hosts c.args.server_parts.now.groups c.carry_steps.new.server_parts.groups) in
    let un = unobliged_of g.A.Agreement g.H.HostKeys g.G.GroupLookup t c.args.server_parts.now.hosts c.args.server_parts.now.groups in
    let rises : Side → Rises = rises_by (un c.args.client_parts.now.agreement c.carry_steps.new.client_parts.agreement c.args.client_parts.now.hosts c.carry_steps.new.client_parts.hosts c.args.client_parts.now.groups c.carry_steps.new.client_parts.groups) (un c.args.server_parts.now.agreement c.carry_steps.new.server_parts.agreement c.args.server_parts.now.hosts c.carry_steps.new.server_parts.hosts c.args.server_parts.now.groups c.carry_steps.new.server_parts.groups) in
    let sizes = of_sides (λ s. HasSizes (config_of t s)) c.see_types.ensures.sizes c.see_types-2.ensures.sizes in
    let a = c.args.client_parts.now.agreement in
    let lawful = λ (v : (s : Side) → config_fault s (config_of t s) ≡ None). (let m : AreLawful (says_in tell) (config_of t) = record {
      valid = v;
      sizes = sizes;
      secret = λ name group local client server p q cm sm cp sq. g.met.A.Agreement.one_secret a t name group local client server p q la (cm t la) (sm t lb) (cp t la) (sq t lb);
      canonical = λ sizes group f. (f t lg).1;
    } in m) in
    if_refused c.carry_steps.result c.carry_steps.ensures.refused
    (λ e r. run_cause tell (config_of t) rises (offered_on (g.A.Agreement.offered c.args.client_parts.now.agreement) (g.A.Agreement.offered c.args.server_parts.now.agreement)) (g.G.GroupLookup.group c.args.server_parts.now.groups c.args.client.now.gex) c.args.steps.now e lawful
    (λ v. lawful_causes g.A.Agreement g.H.HostKeys g.G.GroupLookup (record { agreement = g.met.A.Agreement.obliging_lawful; lookup = g.met.G.GroupLookup.obliging_lawful; fits = g.met.G.GroupLookup.fitting; accepted = g.met.H.HostKeys.judges_accepts; trusted = g.met.H.HostKeys.judges_trusts }) g.met.G.GroupLookup.small t c.args.client_parts.now.agreement c.carry_steps.new.client_parts.agreement c.args.server_parts.now.agreement c.carry_steps.new.server_parts.agreement c.args.client_parts.now.hosts c.carry_steps.new.client_parts.hosts c.args.server_parts.now.hosts c.carry_steps.new.server_parts.hosts c.args.client_parts.now.groups c.carry_steps.new.client_parts.groups c.args.server_parts.now.groups c.carry_steps.new.server_parts.groups la lb lh li lg (lawful v))
    (λ v. of_sides (λ s. IsWholeId (config_of t s)) (whole_id Client c.args.client.now (v Client) c.see_types.ensures.text) (whole_id Server c.args.server.now (v Server) c.see_types-2.ensures.text)) r)

pub returns-clause-good : goal.returns-clause-good
returns-clause-good g c = ok_good c.carry_steps.result c.args.steps.now c.carry_steps.ensures.carried (λ r k. steps_good _ _ c.args.steps.now k.first k.links k.each)

pub returns-clause-complete : goal.returns-clause-complete
returns-clause-complete g c = λ v oa ob jh si lg oj.
    let t : Setup = record { client = c.args.client.now; server = c.args.server.now } in
    if_refused c.carry_steps.result c.carry_steps.ensures.refused
    (λ e r. obliging_complete g.A.Agreement g.H.HostKeys g.G.GroupLookup g.met.A.Agreement.one_secret
    (record { agreement = g.met.A.Agreement.obliging_lawful; lookup = g.met.G.GroupLookup.obliging_lawful; fits = g.met.G.GroupLookup.fitting; accepted = g.met.H.HostKeys.judges_accepts; trusted = g.met.H.HostKeys.judges_trusts })
    g.met.H.HostKeys.judges_lawful g.met.H.HostKeys.signs_lawful g.met.G.GroupLookup.small
    t c.args.client_parts.now.agreement c.carry_steps.new.client_parts.agreement c.args.server_parts.now.agreement c.carry_steps.new.server_parts.agreement c.args.client_parts.now.hosts c.carry_steps.new.client_parts.hosts c.args.server_parts.now.hosts c.carry_steps.new.server_parts.hosts c.args.client_parts.now.groups c.carry_steps.new.client_parts.groups c.args.server_parts.now.groups c.carry_steps.new.server_parts.groups c.args.steps.now e v (of_sides (λ s. HasSizes (config_of t s)) c.see_types.ensures.sizes c.see_types-2.ensures.sizes) oa ob jh si lg oj
    (of_sides (λ s. IsWholeId (config_of t s)) (whole_id Client c.args.client.now (v.valid Client) c.see_types.ensures.text) (whole_id Server c.args.server.now (v.valid Server) c.see_types-2.ensures.text)) r)

pub returns-clause-calls : goal.returns-clause-calls
returns-clause-calls g c = λ la lb lg.
    let t : Setup = record { client = c.args.client.now; server = c.args.server.now } in
    let a = c.args.client_parts.now.agreement in
    let b = c.args.server_parts.now.agreement in
    let says = says_by (says_of g.A.Agreement g.H.HostKeys g.G.GroupLookup) t a b c.args.client_parts.now.hosts c.args.server_parts.now.hosts c.args.client_parts.now.groups c.args.server_parts.now.groups in
    let sizes = of_sides (λ s. HasSizes (config_of t s)) c.see_types.ensures.sizes c.see_types-2.ensures.sizes in
    all_asked says (config_of t) c.args.steps.now _ _ _ _ sizes
    (λ v. of_sides (λ s. IsWholeId (config_of t s)) (whole_id Client c.args.client.now (v Client) c.see_types.ensures.text) (whole_id Server c.args.server.now (v Server) c.see_types-2.ensures.text))
    (λ name group local client server p q cm sm cp sq. g.met.A.Agreement.one_secret a t name group local client server p q la (cm t la) (sm t lb) (cp t la) (sq t lb))
    (λ sizes group f. (f t lg).1)
    c.carry_steps.ensures.asks
