use Rattle.std.proofs.Common.{◌≡◌, ◌<◌, ◌++◌, ◌^◌, ◌∷◌, [], None, inl, inr, length, subst, sym, ◌∙◌, arith, true}
use Rattle.ssh_wire.specs.declared.error.Error.TheVariants.{Disconnect}
use Rattle.ssh_wire.specs.declared.side.Side.{Side}
use Rattle.ssh_wire.specs.declared.side.Side.TheVariants.{Client, Server}
use Rattle.ssh_kex.specs.Parts.{Setup}
use Rattle.ssh_rules.specs.Headline.{IsLink, chosen_by, kind_by}
use Rattle.ssh_rules.specs.LinkCauses.{Rises, unobliged_of}
use Rattle.ssh_rules.specs.RunLaws.{config_of}
use Rattle.ssh_rules.specs.Snapshots.{IsWholeId}
use Rattle.ssh_rules.specs.Valid.{HasSizes, config_fault}
use Rattle.ssh_rules.proofs.Lemmas.{AreLawful}
use Rattle.ssh_run.specs.RefusedCarrying.{Telling, telling_of}
use Rattle.ssh_run.specs.RunCauses.{offered_on, rises_by}
use Rattle.ssh_run.proofs.Lemmas.{lawful_causes, of_sides, run_cause, says_in, tells_by, whole_id}
use Rattle.ssh_mux.specs.Running.{both_of, on_link}
use Rattle.ssh_mux.specs.Stopping.{MakesGood}
use Rattle.ssh_mux.specs.declared.fault.RunFault.TheVariants.{Link}
use Rattle.ssh_mux.proofs.Good.{new_good}
use Rattle.ssh_mux.proofs.Breaking.{first_breaks, never_message}
use Rattle.ssh_mux.proofs.Honesty.{run_unbroken}
use Rattle.ssh_mux.proofs.Linking.{run_is_link, so_far_is_link, told_of}
use Rattle.ssh_kex.specs.Fields.{IsOutside}
use Rattle.ssh_kex.specs.Stepping.{says_of}
use Rattle.ssh_mux.proofs.Obliging.{NoneRises, memory_only, new_wanting}
use Rattle.ssh_mux.proofs.OnTime.{link_honest}
use Rattle.ssh_mux.proofs.Refusing.{before_told, whole_told}
use Rattle.ssh_mux.proofs.Stopping.{end_wanting, first_out, keeps_of, link_cause, no_cause, parts_later, refused_good, refuses_link, tells_of}
use Rattle.ssh_mux.proofs.Turning.{never_out}
use Rattle.ssh_mux.proofs.run.run_channels.Goals as goal

pub returns-in-Ok-run_steps-clause-run : goal.returns-in-Ok-run_steps-clause-run
returns-in-Ok-run_steps-clause-run g c = whole_told c.args.setup.now.channels c.args.steps.now c.new-pair.result c.in-Ok.link (on_link c.run_steps.new.pair c.run_steps.new.link) c.ended.result c.report_of.result
    (sym c.if-not-is_within.ensures) c.new-pair.ensures c.in-Ok.ensures.first c.in-Ok-run_steps.ensures.run c.in-Ok-run_steps.ensures.settled c.ended.ensures.ran c.report_of.ensures.tells

pub returns-in-Ok-run_steps-clause-link : goal.returns-in-Ok-run_steps-clause-link
returns-in-Ok-run_steps-clause-link g c = λ la lb lg.
    let t : Setup = record { client = c.args.setup.now.client.now; server = c.args.setup.now.server.now } in
    let last = on_link c.run_steps.new.pair c.run_steps.new.link in
    told_of (λ r. IsLink g.A.Agreement.client_makes g.A.Agreement.server_makes g.A.Agreement.agrees t.client t.server r.steps.items r.link) last c.ended.result c.report_of.result c.ended.ensures.ran c.report_of.ensures.tells
    (λ r tells. run_is_link
    (λ q. says_of g.A.Agreement g.H.HostKeys g.G.GroupLookup q c.args.client_parts.now.agreement c.args.client_parts.now.hosts c.args.client_parts.now.groups)
    (λ q. says_of g.A.Agreement g.H.HostKeys g.G.GroupLookup q c.args.server_parts.now.agreement c.args.server_parts.now.hosts c.args.server_parts.now.groups)
    t.client t.server g.A.Agreement.client_makes g.A.Agreement.server_makes g.A.Agreement.agrees c.in-Ok.link last r
    c.in-Ok.ensures.client c.in-Ok.ensures.server c.see_config.ensures.sizes c.see_config-2.ensures.sizes c.see_config.ensures.text c.see_config-2.ensures.text
    (subst (λ l. length l < 2 ^ 64) c.steps.ensures c.see_steps.ensures.few)
    (record { for_client = λ name group local public e. e t la; for_server = λ name group client public e. e t lb; for_secret = λ name group x y secret e. e t la })
    (λ name group local client server p q cm sm cp sq. g.met.A.Agreement.one_secret c.args.client_parts.now.agreement t name group local client server p q la (cm t la) (sm t lb) (cp t la) (sq t lb))
    (λ sizes group f. (f t lg).1)
    c.in-Ok.ensures.new c.in-Ok.ensures.first c.in-Ok-run_steps.ensures.goes tells)

pub returns-clause-before : goal.returns-clause-before
returns-clause-before g c = λ la lb lg.
    let t : Setup = record { client = c.args.setup.now.client.now; server = c.args.setup.now.server.now } in
    let last = on_link c.run_steps.new.pair c.run_steps.new.link in
    before_told (λ r. IsLink g.A.Agreement.client_makes g.A.Agreement.server_makes g.A.Agreement.agrees t.client t.server r.steps.items r.link) c.in-Err-run_steps.fault last c.broken_off.result c.broken_off.ensures.ended
    (λ m r tells. run_is_link
    (λ q. says_of g.A.Agreement g.H.HostKeys g.G.GroupLookup q c.args.client_parts.now.agreement c.args.client_parts.now.hosts c.args.client_parts.now.groups)
    (λ q. says_of g.A.Agreement g.H.HostKeys g.G.GroupLookup q c.args.server_parts.now.agreement c.args.server_parts.now.hosts c.args.server_parts.now.groups)
    t.client t.server g.A.Agreement.client_makes g.A.Agreement.server_makes g.A.Agreement.agrees c.in-Ok.link last r
    c.in-Ok.ensures.client c.in-Ok.ensures.server c.see_config.ensures.sizes c.see_config-2.ensures.sizes c.see_config.ensures.text c.see_config-2.ensures.text
    (subst (λ l. length l < 2 ^ 64) c.steps-in-Err-run_steps.ensures c.see_steps-in-Err-run_steps.ensures.few)
    (record { for_client = λ name group local public e. e t la; for_server = λ name group client public e. e t lb; for_secret = λ name group x y secret e. e t la })
    (λ name group local client server p q cm sm cp sq. g.met.A.Agreement.one_secret c.args.client_parts.now.agreement t name group local client server p q la (cm t la) (sm t lb) (cp t la) (sq t lb))
    (λ sizes group f. (f t lg).1)
    c.in-Ok.ensures.new c.in-Ok.ensures.first (c.in-Err-run_steps.ensures.called m) tells)

pub returns-clause-unrefused : goal.returns-clause-unrefused
returns-clause-unrefused g c = λ la lb lg.
    let t : Setup = record { client = c.args.setup.now.client.now; server = c.args.setup.now.server.now } in
    c.broken_off.ensures.unbroken (never_message c.in-Err-run_steps.fault (λ m.
    let b = c.in-Err-run_steps.ensures.breaks m in
    run_unbroken c.args.setup.now.channels (sym c.if-not-is_within.ensures) c.in-Ok.link.carried c.in-Err-run_steps.fault c.run_steps.new.link
    (link_honest g.A.Agreement.client_makes g.A.Agreement.server_makes g.A.Agreement.agrees t.client t.server c.run_steps.new.link
    (so_far_is_link
    (λ q. says_of g.A.Agreement g.H.HostKeys g.G.GroupLookup q c.args.client_parts.now.agreement c.args.client_parts.now.hosts c.args.client_parts.now.groups)
    (λ q. says_of g.A.Agreement g.H.HostKeys g.G.GroupLookup q c.args.server_parts.now.agreement c.args.server_parts.now.hosts c.args.server_parts.now.groups)
    t.client t.server g.A.Agreement.client_makes g.A.Agreement.server_makes g.A.Agreement.agrees c.in-Ok.link c.run_steps.new.link
    c.in-Ok.ensures.client c.in-Ok.ensures.server c.see_config.ensures.sizes c.see_config-2.ensures.sizes c.see_config.ensures.text c.see_config-2.ensures.text
    (subst (λ l. length l < 2 ^ 64) c.steps-in-Err-run_steps.ensures c.see_steps-in-Err-run_steps.ensures.few)
    (record { for_client = λ name group local public e. e t la; for_server = λ name group client public e. e t lb; for_secret = λ name group x y secret e. e t la })
    (λ name group local client server p q cm sm cp sq. g.met.A.Agreement.one_secret c.args.client_parts.now.agreement t name group local client server p q la (cm t la) (sm t lb) (cp t la) (sq t lb))
    (λ sizes group f. (f t lg).1)
    c.in-Ok.ensures.new c.in-Ok.ensures.first b.1))
    (first_breaks c.args.setup.now.channels c.new-pair.result c.in-Ok.link c.in-Err-run_steps.fault c.run_steps.new.link c.new-pair.ensures c.in-Ok.ensures.first b.0)))

pub returns-clause-causes : goal.returns-clause-causes
returns-clause-causes g c = λ la lb lh li lg.
    let t : Setup = record { client = c.args.setup.now.client.now; server = c.args.setup.now.server.now } in
    let a = c.args.client_parts.now.agreement in
    let vc = c.in-Ok.ensures.client in
    let vs = c.in-Ok.ensures.server in
    let keeps = keeps_of g.A.Agreement g.H.HostKeys g.G.GroupLookup in
    let tells = tells_of g.A.Agreement g.H.HostKeys g.G.GroupLookup in
    let tell : Side → Telling = tells_by (telling_of g.A.Agreement g.H.HostKeys g.G.GroupLookup t.client c.args.client_parts.now.agreement c.run_steps.new.client_parts.agreement c.args.client_parts.now.hosts c.run_steps.new.client_parts.hosts c.args.client_parts.now.groups c.run_steps.new.client_parts.groups) (telling_of g.A.Agreement g.H.HostKeys g.G.GroupLookup t.server c.args.server_parts.now.agreement c.run_steps.new.server_parts.agreement c.args.server_parts.now.hosts c.run_steps.new.server_parts.hosts c.args.server_parts.now.groups c.run_steps.new.server_parts.groups) in
    let un = unobliged_of g.A.Agreement g.H.HostKeys g.G.GroupLookup t c.args.server_parts.now.hosts c.args.server_parts.now.groups in
    let rises : Side → Rises = rises_by (un c.args.client_parts.now.agreement c.run_steps.new.client_parts.agreement c.args.client_parts.now.hosts c.run_steps.new.client_parts.hosts c.args.client_parts.now.groups c.run_steps.new.client_parts.groups) (un c.args.server_parts.now.agreement c.run_steps.new.server_parts.agreement c.args.server_parts.now.hosts c.run_steps.new.server_parts.hosts c.args.server_parts.now.groups c.run_steps.new.server_parts.groups) in
    let offered = offered_on (g.A.Agreement.offered c.args.client_parts.now.agreement) (g.A.Agreement.offered c.args.server_parts.now.agreement) in
    let found = g.G.GroupLookup.group c.args.server_parts.now.groups t.client.gex in
    let sizes = of_sides (λ s. HasSizes (config_of t s)) c.see_config.ensures.sizes c.see_config-2.ensures.sizes in
    let whole = of_sides (λ s. IsWholeId (config_of t s)) (whole_id Client t.client vc c.see_config.ensures.text) (whole_id Server t.server vs c.see_config-2.ensures.text) in
    let lawful = λ (v : (s : Side) → config_fault s (config_of t s) ≡ None). (let m : AreLawful (says_in tell) (config_of t) = record {
      valid = v;
      sizes = sizes;
      secret = λ name group local client server p q cm sm cp sq. g.met.A.Agreement.one_secret a t name group local client server p q la (cm t la) (sm t lb) (cp t la) (sq t lb);
      canonical = λ sizes group f. (f t lg).1;
    } in m) in
    let made = subst (λ p. MakesGood (both_of p)) (sym c.new-pair.ensures) (new_good c.args.setup.now.channels) in
    λ e d. elim c.broken_off.ensures.wants [
      | inr wants ↦ inl (wants e d)
      | inl same ↦ elim (c.in-Err-run_steps.ensures.stops e (sym same ∙ d) made) [
        | inl out ↦ absurd (never_out c.args.setup.now.channels (sym c.if-not-is_within.ensures) c.in-Ok.link.carried (on_link c.run_steps.new.pair c.run_steps.new.link)
            (link_honest g.A.Agreement.client_makes g.A.Agreement.server_makes g.A.Agreement.agrees t.client t.server c.run_steps.new.link
            (so_far_is_link (λ q. says_of g.A.Agreement g.H.HostKeys g.G.GroupLookup q c.args.client_parts.now.agreement c.args.client_parts.now.hosts c.args.client_parts.now.groups) (λ q. says_of g.A.Agreement g.H.HostKeys g.G.GroupLookup q c.args.server_parts.now.agreement c.args.server_parts.now.hosts c.args.server_parts.now.groups) t.client t.server g.A.Agreement.client_makes g.A.Agreement.server_makes g.A.Agreement.agrees c.in-Ok.link c.run_steps.new.link
            vc vs c.see_config.ensures.sizes c.see_config-2.ensures.sizes c.see_config.ensures.text c.see_config-2.ensures.text
            (subst (λ l. length l < 2 ^ 64) c.steps-in-Err-run_steps.ensures c.see_steps-in-Err-run_steps.ensures.few)
            (record { for_client = λ name group local public e. e t la; for_server = λ name group client public e. e t lb; for_secret = λ name group x y secret e. e t la })
            (λ name group local client server p q cm sm cp sq. g.met.A.Agreement.one_secret a t name group local client server p q la (cm t la) (sm t lb) (cp t la) (sq t lb))
            (λ sizes group f. (f t lg).1)
            c.in-Ok.ensures.new c.in-Ok.ensures.first out.2))
            (subst (λ l. length l < 2 ^ 63) c.steps-in-Err-run_steps.ensures c.see_steps-in-Err-run_steps.ensures.fewer)
            (first_out c.args.setup.now.channels c.new-pair.result c.in-Ok.link (on_link c.run_steps.new.pair c.run_steps.new.link) c.new-pair.ensures c.in-Ok.ensures.first out.1))
        | inr r ↦ link_cause rises (config_of t) offered found (r.mid.steps ++ r.step ∷ []) e
            (refused_good keeps tells c.in-Ok.link c.args.client_parts.now c.run_steps.new.client_parts c.args.server_parts.now c.run_steps.new.server_parts e c.in-Ok.ensures.first r)
            (run_cause tell (config_of t) rises offered found (r.mid.steps ++ r.step ∷ []) e lawful
            (λ v. lawful_causes g.A.Agreement g.H.HostKeys g.G.GroupLookup (record { agreement = g.met.A.Agreement.obliging_lawful; lookup = g.met.G.GroupLookup.obliging_lawful; fits = g.met.G.GroupLookup.fitting; accepted = g.met.H.HostKeys.judges_accepts; trusted = g.met.H.HostKeys.judges_trusts }) g.met.G.GroupLookup.small t
            c.args.client_parts.now.agreement c.run_steps.new.client_parts.agreement c.args.server_parts.now.agreement c.run_steps.new.server_parts.agreement c.args.client_parts.now.hosts c.run_steps.new.client_parts.hosts c.args.server_parts.now.hosts c.run_steps.new.server_parts.hosts
            c.args.client_parts.now.groups c.run_steps.new.client_parts.groups c.args.server_parts.now.groups c.run_steps.new.server_parts.groups la lb lh li lg (lawful v))
            (λ v. whole)
            (refuses_link keeps tells t.client t.server c.in-Ok.link c.args.client_parts.now c.run_steps.new.client_parts c.args.server_parts.now c.run_steps.new.server_parts e
            (parts_later g.A.Agreement g.H.HostKeys g.G.GroupLookup) vc vs c.in-Ok.ensures.new c.in-Ok.ensures.first r))
      ]
    ]

pub returns-clause-ends : goal.returns-clause-ends
returns-clause-ends g c = λ la lb lh li lg.
    let t : Setup = record { client = c.args.setup.now.client.now; server = c.args.setup.now.server.now } in
    let un = unobliged_of g.A.Agreement g.H.HostKeys g.G.GroupLookup t c.args.server_parts.now.hosts c.args.server_parts.now.groups in
    let rises : Side → Rises = rises_by (un c.args.client_parts.now.agreement c.run_steps.new.client_parts.agreement c.args.client_parts.now.hosts c.run_steps.new.client_parts.hosts c.args.client_parts.now.groups c.run_steps.new.client_parts.groups) (un c.args.server_parts.now.agreement c.run_steps.new.server_parts.agreement c.args.server_parts.now.hosts c.run_steps.new.server_parts.hosts c.args.server_parts.now.groups c.run_steps.new.server_parts.groups) in
    let offered = offered_on (g.A.Agreement.offered c.args.client_parts.now.agreement) (g.A.Agreement.offered c.args.server_parts.now.agreement) in
    let found = g.G.GroupLookup.group c.args.server_parts.now.groups t.client.gex in
    λ d. no_cause rises (config_of t) offered found (returns-clause-causes g c la lb lh li lg Disconnect d)

pub returns-clause-complete : goal.returns-clause-complete
returns-clause-complete g c = λ v oa ob jh si lg oj.
    let t : Setup = record { client = c.args.setup.now.client.now; server = c.args.setup.now.server.now } in
    let un = unobliged_of g.A.Agreement g.H.HostKeys g.G.GroupLookup t c.args.server_parts.now.hosts c.args.server_parts.now.groups in
    let rises : Side → Rises = rises_by (un c.args.client_parts.now.agreement c.run_steps.new.client_parts.agreement c.args.client_parts.now.hosts c.run_steps.new.client_parts.hosts c.args.client_parts.now.groups c.run_steps.new.client_parts.groups) (un c.args.server_parts.now.agreement c.run_steps.new.server_parts.agreement c.args.server_parts.now.hosts c.run_steps.new.server_parts.hosts c.args.server_parts.now.groups c.run_steps.new.server_parts.groups) in
    let offered = offered_on (g.A.Agreement.offered c.args.client_parts.now.agreement) (g.A.Agreement.offered c.args.server_parts.now.agreement) in
    let found = g.G.GroupLookup.group c.args.server_parts.now.groups t.client.gex in
    let p = c.args.client_parts.now in
    let p' = c.run_steps.new.client_parts in
    let q = c.args.server_parts.now in
    let q' = c.run_steps.new.server_parts in
    let none : NoneRises rises = record {
      agreement = of_sides (λ s. (rises s).agreement → ⊥) (λ r. r.1 oa) (λ r. r.1 ob);
      lookup = λ r. r.2 (oj r.1);
      signing = λ r. r.1 si;
      verifying = λ r. r.1 q'.hosts jh si;
      checking = λ r. r.1 jh;
    } in
    let inside : kind_by (chosen_by t.client t.server) ≡ true → IsOutside t.client.gex found → ⊥ = λ k o. (let fits = g.met.G.GroupLookup.fitting q.groups q'.groups t (oj k) in elim o [ inl l ↦ (let f = fits.0 in omega (arith, l, f)) | inr l ↦ (let f = fits.1 in omega (arith, l, f)) ]) in
    λ e d. memory_only rises (config_of t) offered found e v none inside
    (returns-clause-causes g c (g.met.A.Agreement.obliging_lawful p.agreement p'.agreement t _ oa) (g.met.A.Agreement.obliging_lawful q.agreement q'.agreement t _ ob)
    (g.met.H.HostKeys.judges_lawful p.hosts p'.hosts t jh) (g.met.H.HostKeys.signs_lawful q.hosts q'.hosts t si) lg e d)

pub returns-in-Err-clause-complete : goal.returns-in-Err-clause-complete
returns-in-Err-clause-complete g c = λ v oa ob jh si lg oj.
    let t : Setup = record { client = c.args.setup.now.client.now; server = c.args.setup.now.server.now } in
    let offered = offered_on (g.A.Agreement.offered c.args.client_parts.now.agreement) (g.A.Agreement.offered c.args.server_parts.now.agreement) in
    end_wanting c.refused-in-Err.result (Link c.in-Err.error) c.refused-in-Err.ensures (new_wanting (config_of t) offered c.in-Err.error v c.in-Err.ensures.refused)
