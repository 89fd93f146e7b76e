-- Why the run of a plan is refused, from why the run of its link is.
use Rattle.std.proofs.Common.{◌≡◌, ◌≢◌, ◌⊎◌, inl, inr, ℕ, ◌+◌, ◌<◌, ◌≤◌, nat_lt, arith, List, Bool, true, false, Option, Some, None, IfSome, Result, Ok, Err, IfErr, IfOk, refl, sym, subst}
use Rattle.std.proofs.lemmas.Bool.Decides.{nat_tests}
use Rattle.ssh_wire.specs.declared.error.ConfigFault.{ConfigFault}
use Rattle.ssh_wire.specs.declared.error.Error.{Error}
use Rattle.ssh_wire.specs.declared.error.Error.TheVariants as errors
use Rattle.ssh_wire.specs.declared.side.Side.{Side}
use Rattle.ssh_wire.specs.declared.side.Side.TheVariants.{Client, Server}
use Rattle.ssh_negotiate.specs.declared.kex.Name.{Name as KexName}
use Rattle.ssh_kex.specs.declared.config.Config.{Config}
use Rattle.ssh_kex.specs.declared.group.DhGroup.{DhGroup}
use Rattle.ssh_rules.specs.Headline.{chosen_by, kind_by}
use Rattle.ssh_rules.specs.LinkCauses.{IsCauseOf, Rises}
use Rattle.ssh_rules.specs.declared.link.LinkReport.{LinkReport}
use Rattle.ssh_rules.specs.declared.link.Step.{Step}
use Rattle.ssh_vectors.specs.Hosts.{TrustsAll}
use Rattle.ssh_vectors.specs.Primes.{IsLawful, IsObliging, group_for}
use Rattle.ssh_vectors.specs.declared.hosts.TrustedHost.{TrustedHost}
use Rattle.ssh_vectors.proofs.Lemmas.{hosts_trusted}
use Rattle.ssh_link.specs.PlanParts.{IsCallOf, IsFaultlessPlan, IsPlanCause, TrustsPlan, configs_of, plan_config_fault, most_calls, offers_exchange, refuses_of, setup_of, trusted_of}
use Rattle.ssh_script.specs.Plans.{Plan}
use Rattle.ssh_link.specs.Program.{AnswersPlan, IsRefusedLink}
use Rattle.ssh_link.specs.declared.answer.Answer.{Answer}
use Rattle.ssh_run.specs.RunCauses.{IsPartsCause, IsRunCause, IsValidRun, all_submits_good, offered_on, rises_by}

-- ---- calls that are refused by their number

-- a number that isn't that of one of so many calls is 0 or more than they are
called : (bound number : ℕ) → IsCallOf bound number ⊎ (IsCallOf bound number → ⊥)
called bound number = by (nat_lt 0 number) (nat_lt bound number) refl refl where
  by : (t u : Bool) → nat_lt 0 number ≡ t → nat_lt bound number ≡ u → IsCallOf bound number ⊎ (IsCallOf bound number → ⊥)
  by false u h k = inr (λ c. (let d = c.0 in grind (arith, nat_tests)))
  by true true h k = inr (λ c. (let d = c.1 in grind (arith, nat_tests)))
  by true false h k = inl (grind (arith, nat_tests), grind (arith, nat_tests))

-- what a part owes is kept back by none of so many calls
pub uncalled : (bound number at before after : ℕ) → at ≡ number → before ≡ 0 → after ≤ before + bound → (IsCallOf bound number → ⊥) → (before < at) × (at ≤ after) → ⊥
uncalled bound number at before after same z most n c = n (let a = c.0 in let b = c.1 in (omega (arith, a, z, same), omega (arith, b, z, most, same)))

-- so where a part doesn't oblige the script names one of its calls, or its own value doesn't oblige
blamed : {P : Type 0} (bound number at before after : ℕ) → at ≡ number → before ≡ 0 → after ≤ before + bound → (P × ((before < at) × (at ≤ after) → ⊥) → ⊥) → IsCallOf bound number ⊎ (P → ⊥)
blamed {P} bound number at before after same z most h = elim (called bound number) [
  | inl c ↦ inl c
  | inr n ↦ inr (λ p. h (p, uncalled bound number at before after same z most n))
]

only_called : (bound number : ℕ) → IsCallOf bound number ⊎ (Unit {0} → ⊥) → IsCallOf bound number
only_called bound number (inl c) = c
only_called bound number (inr n) = absurd (n tt)

or_else : {A P Q : Type 0} → (Q → P) → A ⊎ (P → ⊥) → A ⊎ (Q → ⊥)
or_else f (inl a) = inl a
or_else f (inr n) = inr (λ q. n (f q))

-- the parts of a side: which call each refuses, how often it was asked before a run and behind it, and their own values
pub record SideParts : Type 0 where
  pub agreement_at : ℕ
  pub agreement : ℕ
  pub agreement' : ℕ
  pub hosts_at : ℕ
  pub hosts : ℕ
  pub hosts' : ℕ
  pub groups_at : ℕ
  pub groups : ℕ
  pub groups' : ℕ
  pub bits : ℕ
  pub trusted : List TrustedHost

-- they are those of a plan's side
pub record AreOf (plan : Plan) (side : Side) (p : SideParts) : Type 0 where
  pub agreement_at : p.agreement_at ≡ (setup_of plan side).refuse_agreement
  pub agreement : p.agreement ≡ 0
  pub agreement' : p.agreement' ≤ p.agreement + most_calls plan side
  pub hosts_at : p.hosts_at ≡ (setup_of plan side).refuse_hosts
  pub hosts : p.hosts ≡ 0
  pub hosts' : p.hosts' ≤ p.hosts + most_calls plan side
  pub groups_at : p.groups_at ≡ (setup_of plan side).refuse_groups
  pub groups : p.groups ≡ 0
  pub groups' : p.groups' ≤ p.groups + most_calls plan side
  pub bits : p.bits ≡ (setup_of plan side).group_bits
  pub trusted : p.trusted ≡ trusted_of plan.server.config.host

-- its host keys judge
abbrev pub HostsJudge : Plan → SideParts → Type 0
HostsJudge plan p = TrustsAll p.trusted plan.server.config × ((p.hosts < p.hosts_at) × (p.hosts_at ≤ p.hosts') → ⊥)

-- which counts rose of parts that don't oblige
abbrev pub told_rises : (agreed looked signed judged checked unsigned : Type 0) → Plan → SideParts → Rises
told_rises agreed looked signed judged checked unsigned plan p = record {
  agreement = agreed × (Unit {0} × ((p.agreement < p.agreement_at) × (p.agreement_at ≤ p.agreement') → ⊥) → ⊥);
  lookup = looked × (kind_by (chosen_by plan.client.config plan.server.config) ≡ true) × (IsObliging p.bits plan.client.config.gex × ((p.groups < p.groups_at) × (p.groups_at ≤ p.groups') → ⊥) → ⊥);
  signing = signed × (Unit {0} × ((p.hosts < p.hosts_at) × (p.hosts_at ≤ p.hosts') → ⊥) → ⊥);
  verifying = judged × unsigned;
  checking = checked × (HostsJudge plan p → ⊥);
}

-- each tells of a part that the plan's script lets refuse
pub record Tell (r s : Rises) : Type 0 where
  pub agreement : r.agreement → s.agreement
  pub lookup : r.lookup → s.lookup
  pub signing : r.signing → s.signing
  pub verifying : r.verifying → s.verifying
  pub checking : r.checking → s.checking

-- whom its parts trust
pub all_trusted : (plan : Plan) (trusted : List TrustedHost) → trusted ≡ trusted_of plan.server.config.host → TrustsPlan plan → TrustsAll trusted plan.server.config
all_trusted plan trusted same t = subst (λ z. TrustsAll z plan.server.config) (sym same) (hosts_trusted (trusted_of plan.server.config.host) plan.server.config t)

pub side_tells : (agreed looked signed judged checked unsigned : Type 0) (plan : Plan) (side : Side) (p : SideParts) → AreOf plan side p → (unsigned → HostsJudge plan p → ⊥) → Tell (told_rises agreed looked signed judged checked unsigned plan p) (refuses_of plan side)
side_tells agreed looked signed judged checked unsigned plan side p o v = record {
  agreement = λ d. only_called (most_calls plan side) _ (blamed (most_calls plan side) (setup_of plan side).refuse_agreement p.agreement_at p.agreement p.agreement' o.agreement_at o.agreement o.agreement' d.1);
  lookup = λ d. (d.1, or_else (λ w. subst (λ n. IsObliging n plan.client.config.gex) (sym o.bits) w) (blamed (most_calls plan side) (setup_of plan side).refuse_groups p.groups_at p.groups p.groups' o.groups_at o.groups o.groups' d.2));
  signing = λ d. only_called (most_calls plan side) _ (blamed (most_calls plan side) (setup_of plan side).refuse_hosts p.hosts_at p.hosts p.hosts' o.hosts_at o.hosts o.hosts' d.1);
  verifying = λ d. hosts (v d.1);
  checking = λ d. hosts d.1;
} where
  hosts : (HostsJudge plan p → ⊥) → IsCallOf (most_calls plan side) (setup_of plan side).refuse_hosts ⊎ (TrustsPlan plan → ⊥)
  hosts h = or_else (all_trusted plan p.trusted o.trusted) (blamed (most_calls plan side) (setup_of plan side).refuse_hosts p.hosts_at p.hosts p.hosts' o.hosts_at o.hosts o.hosts' h)

pub both_tell : (plan : Plan) (r s : Rises) → Tell r (refuses_of plan Client) → Tell s (refuses_of plan Server) → (side : Side) → Tell (rises_by r s side) (refuses_of plan side)
both_tell plan r s a b Client = a
both_tell plan r s a b Server = b

cause_seen : (r s : Rises) (side : Side) (config : Side → Config) (offered : KexName → Bool) (group : DhGroup) (e : Error) → Tell r s → IsCauseOf r side config offered group e → IsCauseOf s side config offered group e
cause_seen r s side config offered group errors.KexInit t h = h
cause_seen r s side config offered group errors.UnknownAlgo t h = h
cause_seen r s side config offered group (errors.NoCommonAlgo kind ours theirs) t h = h
cause_seen r s side config offered group errors.Kex t (inl h) = inl (t.agreement h)
cause_seen r s side config offered group errors.Kex t (inr h) = inr (h.0, t.lookup h.1)
cause_seen r s side config offered group errors.UnknownKey t h = (h.0, t.checking h.1)
cause_seen r s side config offered group errors.WrongServerSig t h = (h.0, t.verifying h.1)
cause_seen r s side config offered group errors.Signature t h = (h.0, t.signing h.1)
cause_seen r s side config offered group errors.Memory t h = tt
cause_seen r s side config offered group errors.Version t h = h
cause_seen r s side config offered group errors.PacketAuth t h = h
cause_seen r s side config offered group errors.Inconsistent t h = h
cause_seen r s side config offered group errors.IndexOutOfBounds t h = h
cause_seen r s side config offered group (errors.PacketSize n) t h = h
cause_seen r s side config offered group errors.Disconnect t h = h
cause_seen r s side config offered group errors.DecryptionError t h = h
cause_seen r s side config offered group errors.IO t h = h
cause_seen r s side config offered group (errors.StrictKeyExchangeViolation type place) t h = h
cause_seen r s side config offered group (errors.SshEncoding fault) t h = h
cause_seen r s side config offered group (errors.InvalidConfig fault) t h = h

-- both sides' test agreements offer the same
offered_same : (o : KexName → Bool) (side : Side) → offered_on o o side ≡ o
offered_same o Client = refl
offered_same o Server = refl

parts_seen : (r t : Side → Rises) (config : Side → Config) (o : KexName → Bool) (group : DhGroup) (steps : List Step) (e : Error) → ((side : Side) → Tell (r side) (t side)) → IsPartsCause r config (offered_on o o) group steps e → IsPartsCause t config (λ side. o) group steps e
parts_seen r t config o group steps e tell h = record {
  side = h.side;
  step = h.step;
  carries = h.carries;
  reached = h.reached;
  came = h.came;
  cause = cause_seen (r h.side) (t h.side) h.side config o group e (tell h.side) (subst (λ f. IsCauseOf (r h.side) h.side config f group e) (offered_same o h.side) h.cause);
}

run_seen : (r t : Side → Rises) (config : Side → Config) (o : KexName → Bool) (group : DhGroup) (steps : List Step) (e : Error) → ((side : Side) → Tell (r side) (t side)) → IsRunCause r config (offered_on o o) group steps e → IsRunCause t config (λ side. o) group steps e
run_seen r t config o group steps e tell (inl m) = inl m
run_seen r t config o group steps e tell (inr (inl f)) = inr (inl f)
run_seen r t config o group steps e tell (inr (inr (inl b))) = inr (inr (inl b))
run_seen r t config o group steps e tell (inr (inr (inr h))) = inr (inr (inr (parts_seen r t config o group steps e tell h)))

-- the run of a plan, of the same steps and size of group
pub plan_cause : (plan : Plan) (steps : List Step) (bits : ℕ) (rises : Side → Rises) (r : Result LinkReport Error) → steps ≡ plan.steps → bits ≡ plan.server.group_bits
    → (IsLawful bits plan.client.config.gex → (side : Side) → Tell (rises side) (refuses_of plan side))
    → (IsLawful bits plan.client.config.gex → IfErr r (IsRunCause rises (configs_of plan) (offered_on offers_exchange offers_exchange) (group_for bits plan.client.config.gex) steps))
    → IsLawful plan.server.group_bits plan.client.config.gex → IfErr r (IsPlanCause plan)
plan_cause plan steps bits rises (Ok report) same size tell h l = tt
plan_cause plan steps bits rises (Err e) same size tell h l =
    let w = subst (λ n. IsLawful n plan.client.config.gex) (sym size) l in
    run_seen rises (refuses_of plan) (configs_of plan) offers_exchange (group_for plan.server.group_bits plan.client.config.gex) plan.steps e (tell w)
    (subst (λ q. IsRunCause rises (configs_of plan) (offered_on offers_exchange offers_exchange) (group_for plan.server.group_bits plan.client.config.gex) q e) same
    (subst (λ n. IsRunCause rises (configs_of plan) (offered_on offers_exchange offers_exchange) (group_for n plan.client.config.gex) steps e) size (h w)))

-- a faultless plan is a valid run
pub plan_valid : (plan : Plan) (steps : List Step) → steps ≡ plan.steps → IsFaultlessPlan plan → IsValidRun (configs_of plan) (offered_on offers_exchange offers_exchange) steps
plan_valid plan steps same f = record {
  valid = f.valid.valid;
  names = f.valid.names;
  chosen = f.valid.chosen;
  offers = λ side. subst (λ o. o f.valid.names.kex ≡ true) (sym (offered_same offers_exchange side)) (f.valid.offers side);
  good = subst (λ q. all_submits_good q ≡ true) (sym same) f.valid.good;
}

-- a refused configuration is told, since want of memory isn't
kept_fault : (o : Option ConfigFault) (e : Error) → e ≢ errors.Memory → IfSome o (λ f. (e ≡ errors.Memory) ⊎ (e ≡ errors.InvalidConfig f)) → IfSome o (λ f. e ≡ errors.InvalidConfig f)
kept_fault None e kept h = tt
kept_fault (Some f) e kept (inl m) = absurd (kept m)
kept_fault (Some f) e kept (inr h) = h

-- what is answered to it
refused_answer : (plan : Plan) (e : Error) (answer : Answer) → IsPlanCause plan e → IfSome (plan_config_fault plan) (λ f. (e ≡ errors.Memory) ⊎ (e ≡ errors.InvalidConfig f)) → (IsFaultlessPlan plan → e ≡ errors.Memory) → IsRefusedLink e answer → AnswersPlan plan answer
refused_answer plan e answer cause configs complete r = subst (AnswersPlan plan) (sym r.0) (record { kept = r.1; cause = cause; config = kept_fault (plan_config_fault plan) e r.1 configs; faulty = λ f. r.1 (complete f) })

pub plan_refused : {E : Type 0} → (plan : Plan) (e : Error) (r : Result Answer E) → IsPlanCause plan e → IfSome (plan_config_fault plan) (λ f. (e ≡ errors.Memory) ⊎ (e ≡ errors.InvalidConfig f)) → (IsFaultlessPlan plan → e ≡ errors.Memory) → IfOk r (IsRefusedLink e) → IfOk r (λ answer. AnswersPlan plan answer)
plan_refused plan e (Ok answer) cause configs complete r = refused_answer plan e answer cause configs complete r
plan_refused plan e (Err f) cause configs complete r = tt
