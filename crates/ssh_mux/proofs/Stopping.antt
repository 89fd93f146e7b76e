-- Where the parts of a run are lawful, each refusal of its link has its cause, and none is Disconnect.
use Rattle.std.proofs.Common.{◌≡◌, ◌⊎◌, inl, inr, ℕ, ◌<◌, ◌≤◌, ◌^◌, Bool, true, false, List, [], ◌∷◌, ◌++◌, length, None, Result, Ok, Err, IfErr, not, ◌&&◌, refl, sym, ap, ◌∙◌, subst, length-append, arith}
use Rattle.ssh_wire.specs.declared.error.Error.{Error}
use Rattle.ssh_wire.specs.declared.error.Error.TheVariants as errors
use Rattle.ssh_wire.specs.declared.side.Side.{Side}
use Rattle.ssh_wire.specs.declared.side.Side.TheVariants.{Client, Server}
use Rattle.ssh_negotiate.specs.declared.kex.Name as kexes
use Rattle.ssh_kex.specs.Parts.{KeepsParts}
use Rattle.ssh_kex.specs.Setting.{Says}
use Rattle.ssh_kex.specs.declared.config.Config.{Config}
use Rattle.ssh_kex.specs.declared.group.DhGroup.{DhGroup}
use Rattle.ssh_kex.specs.declared.parts.Parts.{Parts}
use Rattle.ssh_rules.specs.Headline.{bound_of}
use Rattle.ssh_rules.specs.LinkCauses.{Rises}
use Rattle.ssh_packet.specs.Stream.{message_type}
use Rattle.ssh_rules.specs.MessageTypes.{is_payload_type}
use Rattle.ssh_rules.specs.Valid.{config_fault, is_bad_size, is_good_payload}
use Rattle.ssh_rules.specs.declared.link.Step.{Step}
use Rattle.ssh_rules.specs.declared.link.Step.TheVariants as steps
use Rattle.ssh_run.specs.Carrying.{CarriedLink, IsNewLink, StepsLink, both_marks}
use Rattle.ssh_run.specs.RefusedCarrying.{IsConfigFault, RefusesLink, RefusesLinkStep, RefusesSubmit, Telling, telling_of}
use Rattle.ssh_run.specs.RunCauses.{IsBadSubmit, IsRunCause, all_submits_good, submits_good}
use Rattle.ssh_run.specs.Stepping.{LinkState, WhereLive, first_link_state}
use Rattle.ssh_run.proofs.Lemmas.{TellsLater, all_refused, bound_on, later_tells, none_run, run_refused}
use Rattle.ssh_mux.specs.Linking.{TakesEach, TakesSteps}
use Rattle.ssh_mux.specs.Running.{Both, Called, PairOnLink, RunsSteps, first_on_link, on_link}
use Rattle.ssh_mux.specs.Pairs.{new_pair}
use Rattle.ssh_mux.specs.Causes.{IsLinkCause}
use Rattle.ssh_mux.specs.Stopping.{IsNoDisconnect, IsWanting, MakesGood, RefusesOn, RunsOut, TurnsOn, TurnsOut, WhereStopped, turns_after, turns_behind}
use Rattle.ssh_mux.specs.declared.fault.RunFault.{RunFault}
use Rattle.ssh_mux.specs.declared.fault.RunFault.TheVariants.{Link, Mux}
use Rattle.ssh_mux.specs.declared.fault.RunFault.TheVariants as faults
use Rattle.ssh_channels.specs.declared.fault.MuxFault.{MuxFault}
use Rattle.ssh_kex.specs.Members.{AgreementKept, AgreementMembers, GroupLookupMembers, GroupsKept, HostKeysMembers, HostsKept}
use Rattle.ssh_kex.specs.Stepping.{says_of}
use Rattle.ssh_mux.specs.declared.pair.Pair.{Pair}
use Rattle.ssh_mux.specs.declared.pair.PairConfig.{PairConfig}
use Rattle.ssh_mux.specs.declared.report.MuxEnd.{MuxEnd}
use Rattle.ssh_mux.specs.declared.step.ChannelStep.{ChannelStep}
use Rattle.ssh_mux.proofs.Good.{called_good}
use Rattle.ssh_mux.proofs.Linking.{goes_then, parts_after, runs_each}
use Rattle.ssh_mux.proofs.Turning.{after_more}

-- ---- what a fault says

-- what a refusal for an error of the link says
pub stopped_so : {A : Type 0} (r : Result A RunFault) (fault : RunFault) (T : Error → Type 0) → r ≡ Err fault → WhereStopped fault T → IfErr r (λ f. WhereStopped f T)
stopped_so r fault T e h = subst (λ x. IfErr x (λ f. WhereStopped f T)) (sym e) h

pub stopped_right : {A : Type 0} (r : Result A RunFault) (fault : RunFault) (M : Type 0) (T U : Error → Type 0) → r ≡ Err fault → WhereStopped fault (λ e. M → U e) → IfErr r (λ f. WhereStopped f (λ e. M → T e ⊎ U e))
stopped_right r fault M T U is h = stopped_so r fault (λ e. M → T e ⊎ U e) is (λ e d m. inr (h e d m))

-- of a payload that is submitted
pub stopped_payload : {A : Type 0} (r : Result A RunFault) (p q : List ℕ) (T : Error → Type 0) → p ≡ q → IfErr r (λ f. WhereStopped f (λ e. is_good_payload p ≡ true → T e)) → IfErr r (λ f. WhereStopped f (λ e. is_good_payload q ≡ true → T e))
stopped_payload r p q T same h = subst (λ (x : List ℕ). IfErr r (λ f. WhereStopped f (λ e. is_good_payload x ≡ true → T e))) same h

pub one_error : (a b : Error) → Link a ≡ Link b → a ≡ b
one_error a b e = cc

-- a side's fault is none
pub mux_no_link : (fault : MuxFault) (e : Error) → Mux fault ≡ Link e → ⊥
mux_no_link fault e d = cc

pub config_no_disconnect : (fault : RunFault) → fault ≡ faults.Config → IsNoDisconnect fault
config_no_disconnect fault e d = (let z : faults.Config ≡ Link errors.Disconnect = sym e ∙ d in cc)

pub memory_no_disconnect : (e : Error) → e ≡ errors.Memory → IsNoDisconnect (Link e)
memory_no_disconnect e m h = (let z : Link errors.Memory ≡ Link errors.Disconnect = ap Link (sym m) ∙ h in cc)

pub new_no_disconnect : (client server : Config) (e : Error) → (e ≡ errors.Memory) ⊎ IsConfigFault client server e → IsNoDisconnect (Link e)
new_no_disconnect client server e (inl m) h = memory_no_disconnect e m h
new_no_disconnect client server e (inr f) h = (let z : Link (errors.InvalidConfig f.fault) ≡ Link errors.Disconnect = ap Link (sym f.error_is) ∙ h in cc)

pub end_no_disconnect : (end : MuxEnd) (fault : RunFault) → end ≡ record { fault = fault; before = None } → IsNoDisconnect fault → IsNoDisconnect end.fault
end_no_disconnect end fault e h d = h (sym (ap (λ (x : MuxEnd). x.fault) e) ∙ d)

-- ---- a step that the link refuses

pub refused_now : {P : Type 0} (keeps : P → P → Type 0) (tells : Config → P → P → Telling) (old : LinkState) (p p' q q' : P) (step : Step) (fault : RunFault) (error : Error) → fault ≡ Link error → keeps p p → keeps q q → length old.steps < 2 ^ 63
    → (old.refused ≡ false → WhereLive old (RefusesLinkStep (tells old.carried.client.transport.config p p') (tells old.carried.server.transport.config q q') old.bound step old.carried error))
    → WhereStopped fault (λ e. submits_good step ≡ true → RefusesOn keeps tells old p p' q q' e)
refused_now keeps tells old p p' q q' step fault error is kp kq few h e d good = record {
  client_now = p;
  server_now = q;
  client_keeps = kp;
  server_keeps = kq;
  mid = old;
  goes = ([], refl);
  few = few;
  step = step;
  good = good;
  refused = on old.refused refl;
}
  where
    same : error ≡ e
    same = one_error error e (sym is ∙ d)

    on : (b : Bool) → old.refused ≡ b → (old.refused ≡ true) ⊎ WhereLive old (RefusesLinkStep (tells old.carried.client.transport.config p p') (tells old.carried.server.transport.config q q') old.bound step old.carried e)
    on true e = inl e
    on false e = inr (subst (λ x. WhereLive old (RefusesLinkStep (tells old.carried.client.transport.config p p') (tells old.carried.server.transport.config q q') old.bound step old.carried x)) same (h e))

-- what the parts keep, and what they tell
abbrev pub keeps_of : {A H G R : Type 0} (ma : AgreementMembers A) (mh : HostKeysMembers H) (mg : GroupLookupMembers G)
    → Parts A H G R → Parts A H G R → Type 0
keeps_of ma mh mg a b = KeepsParts (AgreementKept ma a.agreement b.agreement) (HostsKept mh a.hosts b.hosts) (GroupsKept mg a.groups b.groups)

abbrev pub tells_of : {A H G R : Type 0} (ma : AgreementMembers A) (mh : HostKeysMembers H) (mg : GroupLookupMembers G)
    → Config → Parts A H G R → Parts A H G R → Telling
tells_of ma mh mg config a b = telling_of ma mh mg config a.agreement b.agreement a.hosts b.hosts a.groups b.groups

-- behind some steps
pub refused_then : {A H G R : Type 0} (ma : AgreementMembers A) (mh : HostKeysMembers H) (mg : GroupLookupMembers G) (old mid : LinkState) (p p' p'' q q' q'' : Parts A H G R) (error : Error)
    → KeepsParts (AgreementKept ma p.agreement p'.agreement) (HostsKept mh p.hosts p'.hosts) (GroupsKept mg p.groups p'.groups)
    → KeepsParts (AgreementKept ma q.agreement q'.agreement) (HostsKept mh q.hosts q'.hosts) (GroupsKept mg q.groups q'.groups)
    → TakesSteps (says_of ma mh mg old.carried.client.transport.config p.agreement p.hosts p.groups)
    (says_of ma mh mg old.carried.server.transport.config q.agreement q.hosts q.groups) old mid
    → RefusesOn (keeps_of {A = A} {H = H} {G = G} {R = R} ma mh mg)
    (tells_of {A = A} {H = H} {G = G} {R = R} ma mh mg) mid p' p'' q' q'' error
    → RefusesOn (keeps_of {A = A} {H = H} {G = G} {R = R} ma mh mg)
    (tells_of {A = A} {H = H} {G = G} {R = R} ma mh mg) old p p'' q q'' error
refused_then ma mh mg old mid p p' p'' q q' q'' error k m t r = record {
  client_now = r.client_now;
  server_now = r.server_now;
  client_keeps = parts_after ma mh mg k r.client_keeps;
  server_keeps = parts_after ma mh mg m r.server_keeps;
  mid = r.mid;
  goes = goes_then ma mh mg old mid r.mid k m t r.goes;
  few = r.few;
  step = r.step;
  good = r.good;
  refused = r.refused;
}

-- ---- from a new link

-- the steps that were carried out leave a link that refused none
each_lives : (c s : Says) (taken : List (Step × LinkState)) (old new : LinkState) → old.refused ≡ false → TakesEach c s taken old new → new.refused ≡ false
each_lives c s [] old new l e = ap (λ (x : LinkState). x.refused) e ∙ l
each_lives c s (t ∷ taken) old new l h = each_lives c s taken t.1 new h.0.lives h.1

each_longer : (c s : Says) (taken : List (Step × LinkState)) (old new : LinkState) → TakesEach c s taken old new → length old.steps ≤ length new.steps
each_longer c s [] old new e = (let z = ap (λ (x : LinkState). length x.steps) e in omega (arith, z))
each_longer c s (t ∷ taken) old new h = (let r = each_longer c s taken t.1 new h.1 in let a = ap length h.0.steps in let b = length-append old.steps (t.0 ∷ []) in omega (arith, r, a, b))

each_bound : (c s : Says) (taken : List (Step × LinkState)) (old new : LinkState) → length new.steps < 2 ^ 64 → old.bound ≡ bound_of old.steps → TakesEach c s taken old new → new.bound ≡ bound_of new.steps
each_bound c s [] old new few b e = subst (λ (x : LinkState). x.bound ≡ bound_of x.steps) (sym e) b
each_bound c s (t ∷ taken) old new few b h =
    let longer = each_longer c s taken t.1 new h.1 in
    let a = ap length h.0.steps in
    let d = length-append old.steps (t.0 ∷ []) in
    each_bound c s taken t.1 new few (h.0.bound ∙ bound_on old.steps t.1.steps t.0 old.bound h.0.steps (omega (arith, few, longer, a, d)) b) h.1

-- what was refused behind some steps was refused in the run of all of them
pub refuses_link : {P : Type 0} (keeps : P → P → Type 0) (tells : Config → P → P → Telling) (client server : Config) (first : LinkState) (p p' q q' : P) (error : Error)
    → ((a b c : P) (config now : Config) → now ≡ config → keeps a b → TellsLater (tells now b c) (tells config a c))
    → config_fault Client client ≡ None → config_fault Server server ≡ None → IsNewLink client server first.carried → first ≡ first_link_state first.carried
    → (r : RefusesOn keeps tells first p p' q q' error) → RefusesLink (tells client p p') (tells server q q') client server (r.mid.steps ++ r.step ∷ []) error
refuses_link keeps tells client server first p p' q q' error later vc vs n is r =
    let start = first.carried in
    let c = tells start.client.transport.config p p' in
    let s = tells start.server.transport.config q q' in
    let goes : TakesSteps c.says s.says (first_link_state start) r.mid = subst (λ (l : LinkState). TakesSteps c.says s.says l r.mid) is r.goes in
    let runs = runs_each c.says s.says start goes.0 (first_link_state start) r.mid refl (none_run c.says s.says 1 start (both_marks start ∷ []) refl) goes.1 in
    let few : length r.mid.steps < 2 ^ 64 = (let f = r.few in omega (arith, f)) in
    let room : length (r.mid.steps ++ r.step ∷ []) < 2 ^ 64 = (let f = r.few in let a = length-append r.mid.steps (r.step ∷ []) in omega (arith, f, a)) in
    let bound = each_bound c.says s.says goes.0 (first_link_state start) r.mid few refl goes.1 in
    let lives = each_lives c.says s.says goes.0 (first_link_state start) r.mid refl goes.1 in
    let refused : WhereLive r.mid (RefusesLinkStep (tells r.mid.carried.client.transport.config r.client_now p') (tells r.mid.carried.server.transport.config r.server_now q') r.mid.bound r.step r.mid.carried error) = elim r.refused [
      | inl dead ↦ absurd (let z : true ≡ false = sym dead ∙ lives in cc)
      | inr h ↦ h
    ] in
    all_refused (λ config. tells config p p') (λ config. tells config q q') client server (r.mid.steps ++ r.step ∷ []) start 1 error vc vs room n refl
    (λ one lc ls. run_refused c (tells r.mid.carried.client.transport.config r.client_now p') s (tells r.mid.carried.server.transport.config r.server_now q') 1 (r.mid.steps ++ r.step ∷ []) r.mid.steps r.step [] r.mid.bound start r.mid.carried r.mid.marks error
    refl bound (later p r.client_now p' start.client.transport.config r.mid.carried.client.transport.config runs.configs.of_client r.client_keeps)
    (later q r.server_now q' start.server.transport.config r.mid.carried.server.transport.config runs.configs.of_server r.server_keeps) runs refused lc ls)

pub parts_later : {A H G R : Type 0} (ma : AgreementMembers A) (mh : HostKeysMembers H) (mg : GroupLookupMembers G) (a b c : Parts A H G R) (config now : Config)
    → now ≡ config → keeps_of {A = A} {H = H} {G = G} {R = R} ma mh mg a b
    → TellsLater (tells_of {A = A} {H = H} {G = G} {R = R} ma mh mg now b c) (tells_of {A = A} {H = H} {G = G} {R = R} ma mh mg config a c)
parts_later ma mh mg a b c config now e k =
    later_tells ma mh mg config now a.agreement b.agreement c.agreement a.hosts b.hosts c.hosts a.groups b.groups c.groups e k.agreement k.hosts k.groups

-- ---- the causes

-- the payloads of steps that were carried out are good
step_good : (c s : Says) (step : Step) (old new : CarriedLink) → StepsLink c s step old new → submits_good step ≡ true
step_good c s (steps.Submit Client p) old new h = h.0.good
step_good c s (steps.Submit Server p) old new h = h.0.good
step_good c s (steps.Deliver side n) old new h = refl
step_good c s (steps.Rekey side) old new h = refl
step_good c s steps.Settle old new h = refl

both_true : (a b : Bool) → a ≡ true → b ≡ true → (a && b) ≡ true
both_true true b p q = q
both_true false b p q = cc

first_true : (a b : Bool) → (a && b) ≡ true → a ≡ true
first_true true b h = refl
first_true false b h = cc

second_true : (a b : Bool) → (a && b) ≡ true → b ≡ true
second_true true b h = h
second_true false b h = cc

all_more : (l : List Step) (step : Step) → all_submits_good l ≡ true → submits_good step ≡ true → all_submits_good (l ++ step ∷ []) ≡ true
all_more [] step h g = both_true (submits_good step) true g refl
all_more (x ∷ l) step h g = both_true (submits_good x) (all_submits_good (l ++ step ∷ [])) (first_true (submits_good x) (all_submits_good l) h) (all_more l step (second_true (submits_good x) (all_submits_good l) h) g)

each_good : (c s : Says) (taken : List (Step × LinkState)) (old new : LinkState) → all_submits_good old.steps ≡ true → TakesEach c s taken old new → all_submits_good new.steps ≡ true
each_good c s [] old new g e = subst (λ (x : LinkState). all_submits_good x.steps ≡ true) (sym e) g
each_good c s (t ∷ taken) old new g h = each_good c s taken t.1 new (subst (λ l. all_submits_good l ≡ true) (sym h.0.steps) (all_more old.steps t.0 g (step_good c s t.0 old.carried t.1.carried h.0.link))) h.1

pub refused_good : {P : Type 0} (keeps : P → P → Type 0) (tells : Config → P → P → Telling) (first : LinkState) (p p' q q' : P) (error : Error) → first ≡ first_link_state first.carried → (r : RefusesOn keeps tells first p p' q q' error) → all_submits_good (r.mid.steps ++ r.step ∷ []) ≡ true
refused_good keeps tells first p p' q q' error is r = all_more r.mid.steps r.step (each_good _ _ r.goes.0 first r.mid (subst (λ (x : LinkState). all_submits_good x.steps ≡ true) (sym is) refl) r.goes.1) r.good

good_within : (before : List Step) (step : Step) (behind : List Step) → all_submits_good (before ++ step ∷ behind) ≡ true → submits_good step ≡ true
good_within [] step behind h = first_true (submits_good step) (all_submits_good behind) h
good_within (x ∷ before) step behind h = good_within before step behind (second_true (submits_good x) (all_submits_good (before ++ step ∷ behind)) h)

good_size : (p : List ℕ) → is_good_payload p ≡ true → is_bad_size (length p) ≡ true → ⊥
good_size p g h = by (is_bad_size (length p)) (is_payload_type (message_type p)) g h
  where
    by : (a b : Bool) → (not a && b) ≡ true → a ≡ true → ⊥
    by true b g h = cc
    by false b g h = cc

good_type : (p : List ℕ) → is_good_payload p ≡ true → is_payload_type (message_type p) ≡ false → ⊥
good_type p g h = by (is_bad_size (length p)) (is_payload_type (message_type p)) g h
  where
    by : (a b : Bool) → (not a && b) ≡ true → b ≡ false → ⊥
    by a true g h = cc
    by true false g h = cc
    by false false g h = cc

-- a good payload is refused for want of memory alone
memory_alone : (p : List ℕ) (e : Error) → is_good_payload p ≡ true → RefusesSubmit p e → e ≡ errors.Memory
memory_alone p (errors.PacketSize n) g h = absurd (good_size p g h.1)
memory_alone p errors.Inconsistent g h = absurd (good_type p g h.1)
memory_alone p errors.Memory g h = refl
memory_alone p errors.KexInit g h = absurd h
memory_alone p errors.UnknownAlgo g h = absurd h
memory_alone p (errors.NoCommonAlgo kind ours theirs) g h = absurd h
memory_alone p errors.Version g h = absurd h
memory_alone p errors.Kex g h = absurd h
memory_alone p errors.PacketAuth g h = absurd h
memory_alone p errors.IndexOutOfBounds g h = absurd h
memory_alone p errors.UnknownKey g h = absurd h
memory_alone p errors.WrongServerSig g h = absurd h
memory_alone p errors.Disconnect g h = absurd h
memory_alone p errors.DecryptionError g h = absurd h
memory_alone p errors.IO g h = absurd h
memory_alone p (errors.StrictKeyExchangeViolation type place) g h = absurd h
memory_alone p errors.Signature g h = absurd h
memory_alone p (errors.SshEncoding fault) g h = absurd h
memory_alone p (errors.InvalidConfig fault) g h = absurd h

none_bad : (l : List Step) (e : Error) → all_submits_good l ≡ true → IsBadSubmit l e → e ≡ errors.Memory
none_bad l e g b = memory_alone b.payload e (good_within b.reached.before (steps.Submit b.side b.payload) b.reached.behind (subst (λ z. all_submits_good z ≡ true) b.reached.steps_are g)) b.refused

-- what refuses a run of steps whose payloads are good
pub link_cause : (rises : Side → Rises) (config : Side → Config) (offered : Side → kexes.Name → Bool) (group : DhGroup) (l : List Step) (e : Error) → all_submits_good l ≡ true → IsRunCause rises config offered group l e → IsLinkCause rises config offered group e
link_cause rises config offered group l e g (inl m) = inl m
link_cause rises config offered group l e g (inr (inl f)) = inr (inl f)
link_cause rises config offered group l e g (inr (inr (inl b))) = inl (none_bad l e g b)
link_cause rises config offered group l e g (inr (inr (inr p))) = inr (inr (p.side, p.cause))

-- which Disconnect has not
pub no_cause : (rises : Side → Rises) (config : Side → Config) (offered : Side → kexes.Name → Bool) (group : DhGroup) → IsLinkCause rises config offered group errors.Disconnect → ⊥
no_cause rises config offered group (inl m) = cc
no_cause rises config offered group (inr (inl f)) = (let z = f.error_is in cc)
no_cause rises config offered group (inr (inr p)) = p.1

-- a run that is refused before its first step
pub new_caused : (rises : Side → Rises) (config : Side → Config) (offered : Side → kexes.Name → Bool) (group : DhGroup) (error : Error) → (error ≡ errors.Memory) ⊎ IsConfigFault (config Client) (config Server) error
    → WhereStopped (Link error) (IsLinkCause rises config offered group)
new_caused rises config offered group error h e d = subst (IsLinkCause rises config offered group) (one_error error e d) (elim h [ inl m ↦ inl m | inr f ↦ inr (inl f) ])

pub config_caused : (fault : RunFault) (T : Error → Type 0) → fault ≡ faults.Config → WhereStopped fault T
config_caused fault T is e d = absurd (let z : faults.Config ≡ Link e = sym is ∙ d in cc)

pub end_stopped : (end : MuxEnd) (fault : RunFault) (T : Error → Type 0) → end ≡ record { fault = fault; before = None } → WhereStopped fault T → WhereStopped end.fault T
end_stopped end fault T is h e d = h e (sym (ap (λ (x : MuxEnd). x.fault) is) ∙ d)

pub memory_wanting : (e : Error) → e ≡ errors.Memory → IsWanting (Link e)
memory_wanting e m x d = sym (one_error e x d) ∙ m

pub end_wanting : (end : MuxEnd) (fault : RunFault) → end ≡ record { fault = fault; before = None } → IsWanting fault → IsWanting end.fault
end_wanting end fault is h = end_stopped end fault (λ e. e ≡ errors.Memory) is h

-- ---- steps

-- a step whose call was answered
pub step_out : {A : Type 0} (r : Result A RunFault) (turns : ℕ) (step : ChannelStep) (old : PairOnLink) (called : Both) (new : PairOnLink) (T : Type 0) (U : Error → Type 0) → Called step old.both called
    → IfErr r (λ f. WhereStopped f (λ e. MakesGood called → ((e ≡ errors.Disconnect) × TurnsOn turns (record { both = called; link = old.link }) new × T) ⊎ U e))
    → IfErr r (λ f. WhereStopped f (λ e. MakesGood old.both → ((e ≡ errors.Disconnect) × TurnsOut turns step old new × T) ⊎ U e))
step_out (Ok x) turns step old called new T U h b = tt
step_out (Err f) turns step old called new T U h b = λ e d g. elim (b e d (called_good step old.both called h g)) [ inl t ↦ inl (t.0, record { called = called; call = h; turned = t.1 }, t.2) | inr u ↦ inr u ]

-- a call that was refused
pub call_stopped : {A : Type 0} (r : Result A RunFault) (fault : MuxFault) (T : Error → Type 0) → r ≡ Err (Mux fault) → IfErr r (λ f. WhereStopped f T)
call_stopped r fault T is = stopped_so r (Mux fault) T is (λ e d. absurd (mux_no_link fault e d))

-- the steps before
pub run_out : (done : List ChannelStep) (step : ChannelStep) (turns now : ℕ) (old mid new : PairOnLink) → now ≡ turns_behind step (turns_after turns done) → RunsSteps done old mid → TurnsOut now step mid new → RunsOut turns old new
run_out done step turns now old mid new e h t = record {
  done = done;
  step = step;
  mid = mid;
  run = h;
  out = subst (λ n. TurnsOut n step mid new) (e ∙ sym (after_more turns done step)) t;
}

-- a run from its first step
pub first_out : (config : PairConfig) (p : Pair) (l : LinkState) (last : PairOnLink) → p ≡ new_pair config → l ≡ first_link_state l.carried → RunsOut 2 (on_link p l) last → RunsOut 2 (first_on_link config l.carried) last
first_out config p l last new first b = subst (λ q. RunsOut 2 (on_link q (first_link_state l.carried)) last) new (subst (λ m. RunsOut 2 (on_link p m) last) first b)
