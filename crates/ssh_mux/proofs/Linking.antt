-- Steps of a link one after the other, by what the parts of both sides say.
use Rattle.std.proofs.Common.{◌≡◌, ℕ, ◌<◌, ◌^◌, length, Bool, true, false, List, [], ◌∷◌, ◌++◌, None, Result, Ok, Err, IfOk, refl, sym, ap, ◌∙◌, subst}
use Rattle.std.specs.Str.{is_utf8}
use Rattle.ssh_wire.specs.declared.side.Side.{Side}
use Rattle.ssh_wire.specs.declared.side.Side.TheVariants.{Client, Server}
use Rattle.ssh_wire.specs.declared.error.Error.{Error}
use Rattle.ssh_wire.specs.declared.error.Error.TheVariants.{Disconnect}
use Rattle.ssh_kex.specs.Parts.{KeepsParts}
use Rattle.ssh_kex.specs.Setting.{Says}
use Rattle.ssh_kex.specs.declared.config.Config.{Config}
use Rattle.ssh_rules.specs.Headline.{IsLink}
use Rattle.ssh_rules.specs.Laws.{FindsCanonical, OneSecret}
use Rattle.ssh_rules.specs.Parts.{ClientPairs, Secrets, ServerValues}
use Rattle.ssh_rules.specs.Snapshots.{IsWholeId, TellsParts}
use Rattle.ssh_rules.specs.Valid.{HasSizes, config_fault}
use Rattle.ssh_rules.specs.declared.link.LinkReport.{LinkReport}
use Rattle.ssh_rules.specs.declared.link.Step.{Step}
use Rattle.ssh_transport.proofs.Lemmas.{Weaker, agreement_after, groups_after, hosts_after}
use Rattle.ssh_run.specs.Carrying.{CarriedLink, FewBehind, IsCarried, IsNewLink, StepsLink, StepsLinks, both_marks, bound_after, last_link, text_of_id}
use Rattle.ssh_run.specs.Stepping.{LinkState, TakesStep, first_link_state, report_so_far}
use Rattle.ssh_run.proofs.Lemmas.{carried_is_link, whole_id, KeepConfigs, RunsSoFar, all_run, bound_next, later_weaker, none_run, of_sides, runs_more}
use Rattle.ssh_mux.specs.Linking.{TakesEach, TakesSteps}
use Rattle.ssh_mux.specs.Running.{PairOnLink, TellsRun}
use Rattle.ssh_mux.specs.declared.fault.RunFault.{RunFault}
use Rattle.ssh_mux.specs.declared.report.MuxEnd.{MuxEnd}
use Rattle.ssh_mux.specs.declared.report.MuxReport.{MuxReport}
use Rattle.ssh_kex.specs.Members.{AgreementKept, AgreementMembers, GroupLookupMembers, GroupsKept, HostKeysMembers, HostsKept}
use Rattle.ssh_kex.specs.Stepping.{says_of}

-- ---- one step

same_weaker : (a : Says) → Weaker a a
same_weaker a = record {
  agrees = λ n q c v x k. k;
  client_makes = λ n q l c k. k;
  server_makes = λ n q c v k. k;
  reply = λ n q l c v x k m. k m;
  finds = λ sizes q k. k;
  signs = λ host hash signature k. k;
  accepts = λ host hash signature k. k;
  trusts = λ host k. k;
  offers = λ n k. k;
}

only_step : (c s : Says) (step : Step) (old new : CarriedLink) (links : List CarriedLink) → StepsLinks c s (step ∷ []) old links → last_link old links ≡ new → StepsLink c s step old new
only_step c s step old new [] h e = absurd h
only_step c s step old new (l ∷ []) h e = subst (λ x. StepsLink c s step old x) e h.0
only_step c s step old new (l ∷ m ∷ links) h e = absurd h.1

-- a step as a run of one
one_run : (c c' s s' : Says) → Weaker c' c → Weaker s' s → (bound : ℕ) (step : Step) (old new : CarriedLink) → StepsLink c' s' step old new → FewBehind bound step new
    → RunsSoFar c s bound (step ∷ []) old new (both_marks old ∷ both_marks new ∷ [])
one_run c c' s s' v w bound step old new h few =
    runs_more c c' s s' bound bound [] (step ∷ []) step old old new (both_marks old ∷ []) (both_marks old ∷ both_marks new ∷ []) refl refl v w (none_run c s bound old (both_marks old ∷ []) refl) h few refl

taken_weaker : (c c' s s' : Says) → Weaker c' c → Weaker s' s → (step : Step) (old new : LinkState) → TakesStep c' s' step old new → TakesStep c s step old new
taken_weaker c c' s s' v w step old new h =
    let r = one_run c c' s s' v w old.bound step old.carried new.carried h.link h.few in
    record { link = only_step c s step old.carried new.carried r.on.links r.on.each r.on.last; few = h.few; bound = h.bound; steps = h.steps; marks = h.marks; lives = h.lives }

taken_configs : (c s : Says) (step : Step) (old new : LinkState) → TakesStep c s step old new → KeepConfigs old.carried new.carried
taken_configs c s step old new h = (one_run c c s s (same_weaker c) (same_weaker s) old.bound step old.carried new.carried h.link h.few).configs

-- ---- some steps

each_weaker : (c c' s s' : Says) → Weaker c' c → Weaker s' s → (taken : List (Step × LinkState)) (old new : LinkState) → TakesEach c' s' taken old new → TakesEach c s taken old new
each_weaker c c' s s' v w [] old new h = h
each_weaker c c' s s' v w (t ∷ taken) old new h = (taken_weaker c c' s s' v w t.0 old t.1 h.0, each_weaker c c' s s' v w taken t.1 new h.1)

each_then : (c s : Says) (taken more : List (Step × LinkState)) (old mid new : LinkState) → TakesEach c s taken old mid → TakesEach c s more mid new → TakesEach c s (taken ++ more) old new
each_then c s [] more old mid new e k = subst (λ b. TakesEach c s more b new) e k
each_then c s (t ∷ taken) more old mid new h k = (h.0, each_then c s taken more t.1 mid new h.1 k)

each_configs : (c s : Says) (taken : List (Step × LinkState)) (old new : LinkState) → TakesEach c s taken old new → KeepConfigs old.carried new.carried
each_configs c s [] old new e = record {
  of_client = ap (λ (l : LinkState). l.carried.client.transport.config) e;
  of_server = ap (λ (l : LinkState). l.carried.server.transport.config) e;
}
each_configs c s (t ∷ taken) old new h =
    let p = taken_configs c s t.0 old t.1 h.0 in
    let q = each_configs c s taken t.1 new h.1 in
    record { of_client = q.of_client ∙ p.of_client; of_server = q.of_server ∙ p.of_server }

pub none_taken : (c s : Says) (old new : LinkState) → new ≡ old → TakesSteps c s old new
none_taken c s old new e = ([], e)

-- the link carried out a step that it didn't refuse
pub one_taken : (step : Step) (c s : Says) (old new : LinkState) (x : Unit) → (old.refused ≡ true → (let r : Result Unit Error = Ok x in r) ≡ Err Disconnect)
    → (old.refused ≡ false → TakesStep c s step old new) → TakesSteps c s old new
one_taken step c s old new x dead takes = on old.refused refl
  where
    on : (b : Bool) → old.refused ≡ b → TakesSteps c s old new
    on true e = absurd (let z : (let r : Result Unit Error = Ok x in r) ≡ Err Disconnect = dead e in cc)
    on false e = ((step, new) ∷ [], (takes e, refl))

-- what the parts say behind the first steps they say of themselves as they were
taken_then : (c c' s s' : Says) (old mid new : LinkState) → TakesSteps c s old mid → Weaker c' c → Weaker s' s → TakesSteps c' s' mid new → TakesSteps c s old new
taken_then c c' s s' old mid new h v w k = (h.0 ++ k.0, each_then c s h.0 k.0 old mid new h.1 (each_weaker c c' s s' v w k.0 mid new k.1))

-- ---- what the parts keep

pub parts_after : {A H G : Type 0} (ma : AgreementMembers A) (mh : HostKeysMembers H) (mg : GroupLookupMembers G) {a a' a'' : A} {h h' h'' : H} {g g' g'' : G}
    → KeepsParts (AgreementKept ma a a') (HostsKept mh h h') (GroupsKept mg g g')
    → KeepsParts (AgreementKept ma a' a'') (HostsKept mh h' h'') (GroupsKept mg g' g'')
    → KeepsParts (AgreementKept ma a a'') (HostsKept mh h h'') (GroupsKept mg g g'')
parts_after ma mh mg k m = record {
  agreement = agreement_after _ _ _ _ _ _ _ _ k.agreement m.agreement;
  hosts = hosts_after _ _ _ _ _ _ _ _ _ _ _ _ k.hosts m.hosts;
  groups = groups_after _ _ _ _ _ _ _ _ k.groups m.groups;
}

-- steps behind others, with the parts as the first left them
pub goes_then : {A H G : Type 0} (ma : AgreementMembers A) (mh : HostKeysMembers H) (mg : GroupLookupMembers G) {a a' b b' : A} {h h' i i' : H} {g g' j j' : G} (old mid new : LinkState)
    → KeepsParts (AgreementKept ma a a') (HostsKept mh h h') (GroupsKept mg g g')
    → KeepsParts (AgreementKept ma b b') (HostsKept mh i i') (GroupsKept mg j j')
    → TakesSteps (says_of ma mh mg old.carried.client.transport.config a h g)
    (says_of ma mh mg old.carried.server.transport.config b i j) old mid
    → TakesSteps (says_of ma mh mg mid.carried.client.transport.config a' h' g')
    (says_of ma mh mg mid.carried.server.transport.config b' i' j') mid new
    → TakesSteps (says_of ma mh mg old.carried.client.transport.config a h g)
    (says_of ma mh mg old.carried.server.transport.config b i j) old new
goes_then ma mh mg old mid new k m t u =
    let q = each_configs _ _ t.0 old mid t.1 in
    taken_then _ _ _ _ old mid new t
    (later_weaker ma mh mg old.carried.client.transport.config mid.carried.client.transport.config _ _ _ _ _ _ q.of_client k.agreement k.hosts k.groups)
    (later_weaker ma mh mg old.carried.server.transport.config mid.carried.server.transport.config _ _ _ _ _ _ q.of_server m.agreement m.hosts m.groups) u

-- ---- the link of a report

pub runs_each : (c s : Says) (start : CarriedLink) (taken : List (Step × LinkState)) (old new : LinkState) → old.bound ≡ bound_after 1 old.steps → RunsSoFar c s 1 old.steps start old.carried old.marks
    → TakesEach c s taken old new → RunsSoFar c s 1 new.steps start new.carried new.marks
runs_each c s start [] old new b r e = subst (λ (l : LinkState). RunsSoFar c s 1 l.steps start l.carried l.marks) (sym e) r
runs_each c s start (t ∷ taken) old new b r h = runs_each c s start taken t.1 new
    (bound_next 1 old.bound t.1.bound old.steps t.1.steps t.0 h.0.steps b h.0.bound)
    (runs_more c c s s 1 old.bound old.steps t.1.steps t.0 start old.carried t.1.carried old.marks t.1.marks h.0.steps b (same_weaker c) (same_weaker s) r h.0.link h.0.few h.0.marks)
    h.1

pub taken_carried : (c s : Config → Says) (client server : Config) (first : CarriedLink) (new : LinkState) (report : LinkReport) → IsNewLink client server first
    → TakesSteps (c first.client.transport.config) (s first.server.transport.config) (first_link_state first) new → report ≡ report_so_far new → IsCarried (c client) (s server) client server new.steps report
taken_carried c s client server first new report n h e =
    let r = runs_each (c first.client.transport.config) (s first.server.transport.config) first h.0 (first_link_state first) new refl
    (none_run (c first.client.transport.config) (s first.server.transport.config) 1 first (both_marks first ∷ []) refl) h.1 in
    all_run c s client server 1 new.steps first new.carried new.marks report n refl r.on e

abbrev both_say : (c s : Says) → Side → Says
both_say c s Client = c
both_say c s Server = s

abbrev both_configs : (client server : Config) → Side → Config
both_configs client server Client = client
both_configs client server Server = server

pub so_far_is_link : (c s : Config → Says) (client server : Config) (client_makes : ClientPairs) (server_makes : ServerValues) (agrees : Secrets) (first last : LinkState)
    → config_fault Client client ≡ None → config_fault Server server ≡ None → HasSizes client → HasSizes server → is_utf8 (text_of_id client.id) ≡ true → is_utf8 (text_of_id server.id) ≡ true → length last.steps < 2 ^ 64
    → TellsParts (c client) (s server) client_makes server_makes agrees → OneSecret (c client) (s server) → FindsCanonical (s server)
    → IsNewLink client server first.carried → first ≡ first_link_state first.carried
    → TakesSteps (c first.carried.client.transport.config) (s first.carried.server.transport.config) first last
    → IsLink client_makes server_makes agrees client server last.steps (report_so_far last)
so_far_is_link c s client server cm sm ag first last vc vs zc zs uc us few tells secret canonical n e h =
    let carried = taken_carried c s client server first.carried last (report_so_far last) n
    (subst (λ l. TakesSteps (c first.carried.client.transport.config) (s first.carried.server.transport.config) l last) e h) refl in
    carried_is_link (both_say (c client) (s server)) (both_configs client server) cm sm ag last.steps (report_so_far last)
    (of_sides (λ side. config_fault side (both_configs client server side) ≡ None) vc vs)
    (of_sides (λ side. HasSizes (both_configs client server side)) zc zs)
    (of_sides (λ side. IsWholeId (both_configs client server side)) (whole_id Client client vc uc) (whole_id Server server vs us))
    few tells secret canonical carried

pub run_is_link : (c s : Config → Says) (client server : Config) (client_makes : ClientPairs) (server_makes : ServerValues) (agrees : Secrets) (first : LinkState) (last : PairOnLink) (report : MuxReport)
    → config_fault Client client ≡ None → config_fault Server server ≡ None → HasSizes client → HasSizes server → is_utf8 (text_of_id client.id) ≡ true → is_utf8 (text_of_id server.id) ≡ true → length last.link.steps < 2 ^ 64
    → TellsParts (c client) (s server) client_makes server_makes agrees → OneSecret (c client) (s server) → FindsCanonical (s server)
    → IsNewLink client server first.carried → first ≡ first_link_state first.carried
    → TakesSteps (c first.carried.client.transport.config) (s first.carried.server.transport.config) first last.link → TellsRun last report
    → IsLink client_makes server_makes agrees client server report.steps.items report.link
run_is_link c s client server cm sm ag first last report vc vs zc zs uc us few tells secret canonical n e h t =
    subst (λ l. IsLink cm sm ag client server l report.link) (sym t.steps)
    (subst (λ r. IsLink cm sm ag client server last.link.steps r) (sym t.link) (so_far_is_link c s client server cm sm ag first last.link vc vs zc zs uc us few tells secret canonical n e h))

-- what holds of each report of a run holds of the one that is answered
pub told_of : (Q : MuxReport → Type 0) (last : PairOnLink) (r : Result MuxReport MuxEnd) (report : Result MuxReport RunFault) → IfOk r (λ x. report ≡ Ok x) → IfOk report (TellsRun last)
    → ((x : MuxReport) → TellsRun last x → Q x) → IfOk r Q
told_of Q last (Ok x) report e t f = f x (subst (λ r. IfOk r (TellsRun last)) e t)
told_of Q last (Err x) report e t f = tt
