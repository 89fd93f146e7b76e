-- The default sides of a script's run: no test refuses their configurations, and their test parts oblige. So the link
-- of such a run refuses nothing but for want of memory.
use Rattle.std.proofs.Common.{◌≡◌, ◌⊎◌, inl, inr, ℕ, Bool, true, not, List, [], map, codes, Option, Some, None, Result, Ok, Err, IfOk, IfSome, refl, sym, ◌∙◌, ap, subst, arith}
use Rattle.std.proofs.lemmas.List.Elements.{All-cons, All-nil}
use Rattle.ssh_wire.specs.declared.algorithm.Algorithm.TheVariants.{Ed25519}
use Rattle.ssh_wire.specs.declared.side.Side.{Side}
use Rattle.ssh_wire.specs.declared.side.Side.TheVariants.{Client, Server}
use Rattle.ssh_negotiate.specs.Advertised.{certificate_names, cipher_text, compression_text, host_text, mac_text, offers_with}
use Rattle.ssh_negotiate.specs.Chosen.{◌>>=◌, chosen_names, first_common, mac_under, or_err, without_extensions}
use Rattle.ssh_negotiate.specs.Defaults.{default_preferences}
use Rattle.ssh_negotiate.specs.Tables.{is_extension, kex_text, shape_of}
use Rattle.ssh_negotiate.specs.declared.kex.Name.{Name as KexName}
use Rattle.ssh_negotiate.specs.declared.kex.Name.TheVariants.{Mlkem768X25519Sha256}
use Rattle.ssh_negotiate.specs.declared.negotiation.Names.{Names}
use Rattle.ssh_negotiate.specs.declared.preferred.HostCertificate.{HostCertificate}
use Rattle.ssh_negotiate.specs.declared.preferred.HostKey.{HostKey}
use Rattle.ssh_kex.specs.Parts.{between}
use Rattle.ssh_rules.specs.Headline.{chosen_by}
use Rattle.ssh_rules.specs.RunLaws.{config_of}
use Rattle.ssh_rules.specs.Valid.{config_fault}
use Rattle.ssh_run.specs.RunCauses.{IsValidRun, offered_on}
use Rattle.ssh_vectors.specs.Hosts.{TrustsAll, TrustsHosts, TrustsKey}
use Rattle.ssh_vectors.specs.Primes.{IsObliging}
use Rattle.ssh_vectors.specs.declared.hosts.TrustedHost.{TrustedHost}
use Rattle.ssh_vectors.proofs.Lemmas.{hosts_trusted}
use Rattle.ssh_script.specs.Plans.{Plan}
use Rattle.ssh_script.specs.RunScript.{host_key}
use Rattle.ssh_channels.specs.declared.fault.MuxFault.{MuxFault}
use Rattle.ssh_channels.specs.declared.fault.MuxFault.TheVariants as mux
use Rattle.ssh_mux.specs.Breaking.{IsNoMessageFault}
use Rattle.ssh_mux.specs.Program.{AnswersMuxPlan, IsRefusedRun, IsScriptRun, IsWholeRun}
use Rattle.ssh_mux.specs.Running.{is_call_refused}
use Rattle.ssh_mux.specs.Script.{MuxPlan}
use Rattle.ssh_mux.specs.Sides.{IsDefaultLink, default_client, default_plan, default_server, trusted_key}
use Rattle.ssh_mux.specs.Stopping.{IsKept, IsWanting}
use Rattle.ssh_mux.specs.declared.answer.MuxAnswer.{MuxAnswer}
use Rattle.ssh_mux.specs.declared.answer.MuxAnswer.TheVariants.{Refused}
use Rattle.ssh_mux.specs.declared.fault.RunFault.{RunFault}
use Rattle.ssh_mux.specs.declared.fault.RunFault.TheVariants.{Config as config_refused, Link, Mux}
use Rattle.ssh_mux.specs.declared.report.MuxEnd.{MuxEnd}
use Rattle.ssh_mux.specs.declared.report.MuxReport.{MuxReport}

-- ---- the configurations

-- the key exchange of a choice
abbrev kex_of : {E : Type 0} → Result Names E → Option KexName
kex_of (Ok names) = Some names.kex
kex_of (Err e) = None

record HasKex {E : Type 0} (r : Result Names E) (name : KexName) : Type 0 where
  names : Names
  chosen : r ≡ Ok names
  kex : names.kex ≡ name

has_kex : {E : Type 0} (r : Result Names E) (name : KexName) → kex_of r ≡ Some name → HasKex r name
has_kex (Ok names) name h = record { names = names; chosen = refl; kex = cc }
has_kex (Err e) name h = cc

default_kex : kex_of (chosen_by default_client default_server) ≡ Some Mlkem768X25519Sha256
unfolding default_preferences offers_with kex_text host_text cipher_text mac_text compression_text is_extension chosen_names first_common without_extensions mac_under or_err ◌>>=◌ certificate_names
default_kex = refl

valid : (side : Side) → config_fault side (config_of (between default_client default_server) side) ≡ None
unfolding config_fault default_preferences offers_with kex_text host_text cipher_text mac_text compression_text certificate_names
valid Client = refl
valid Server = refl

-- the test agreements have each key exchange of two values
abbrev offers : KexName → Bool
offers name = not (shape_of name).skip

offers_default : offers Mlkem768X25519Sha256 ≡ true
unfolding shape_of
offers_default = refl

offers_chosen : (name : KexName) → name ≡ Mlkem768X25519Sha256 → (side : Side) → offered_on offers offers side name ≡ true
offers_chosen name e Client = ap offers e ∙ offers_default
offers_chosen name e Server = ap offers e ∙ offers_default

default_valid : IsValidRun (config_of (between default_client default_server)) (offered_on offers offers) []
default_valid =
    let k = has_kex _ Mlkem768X25519Sha256 default_kex in
    record { valid = valid; names = k.names; chosen = k.chosen; offers = offers_chosen k.names.kex k.kex; good = refl }

pub sides_valid : (plan : Plan) → plan ≡ default_plan → IsValidRun (config_of (between plan.client.config plan.server.config)) (offered_on offers offers) []
sides_valid plan e = subst (λ (p : Plan). IsValidRun (config_of (between p.client.config p.server.config)) (offered_on offers offers) []) (sym e) default_valid

-- ---- the parts

abbrev default_key : HostKey
default_key = host_key Ed25519 (codes "sshlink-test-key")

abbrev default_trusted : List TrustedHost
default_trusted = map trusted_key default_server.host.keys

one_trusted : TrustsKey default_trusted default_key.blob default_key.blob
one_trusted = record { as' = trusted_key default_key; found = refl; key_is = refl }

key_trusted : TrustsHosts default_trusted default_server.host
key_trusted = record {
  keys = All-cons (λ (k : HostKey). TrustsKey default_trusted k.blob k.blob) default_key [] one_trusted (All-nil (λ (k : HostKey). TrustsKey default_trusted k.blob k.blob));
  certificates = All-nil (λ (c : HostCertificate). TrustsKey default_trusted c.blob c.key_blob);
}

pub sides_trusted : (plan : Plan) (trusted : List TrustedHost) → plan ≡ default_plan → trusted ≡ map trusted_key plan.server.config.host.keys → TrustsAll trusted plan.server.config
sides_trusted plan trusted e t = subst (λ l. TrustsAll l plan.server.config) (sym t)
    (subst (λ (p : Plan). TrustsAll (map trusted_key p.server.config.host.keys) p.server.config) (sym e) (hosts_trusted default_trusted default_server key_trusted))

default_obliging : IsObliging 0 default_client.gex
default_obliging = record { lawful = record { most = omega arith }; least = omega arith; within = omega arith }

pub sides_obliging : (plan : Plan) (bits : ℕ) → plan ≡ default_plan → bits ≡ 0 → IsObliging bits plan.client.config.gex
sides_obliging plan bits e b = subst (λ n. IsObliging n plan.client.config.gex) (sym b) (subst (λ (p : Plan). IsObliging 0 p.client.config.gex) (sym e) default_obliging)

-- ---- the answer

mux_cause : (fault : MuxFault) → IsNoMessageFault (Mux fault) → IsKept (Mux fault) → is_call_refused (Mux fault) ≡ true
mux_cause (mux.Encoding fault) m k = cc
mux_cause (mux.Unexpected message_type channel) m k = cc
mux_cause (mux.Window channel left got) m k = cc
mux_cause (mux.Unknown channel) m k = refl
mux_cause (mux.Ended channel) m k = refl
mux_cause mux.Full m k = refl
mux_cause mux.Memory m k = absurd (k.0 refl)

-- no message is refused, the link wants memory alone, and it isn't wanting
own_cause : (fault : RunFault) → IsNoMessageFault fault → IsWanting fault → IsKept fault → (fault ≡ config_refused) ⊎ (is_call_refused fault ≡ true)
own_cause config_refused m w k = inl refl
own_cause (Mux fault) m w k = inr (mux_cause fault m k)
own_cause (Link e) m w k = absurd (k.1 (ap Link (w e refl)))

pub ran_told : (plan : MuxPlan) (report : MuxReport) → IsWholeRun plan.channels plan.steps report → IsDefaultLink report → IsScriptRun plan report
ran_told plan report run link = record { run = run; link = link }

pub refusal_told : {E : Type 0} → (plan : MuxPlan) (end : MuxEnd) (r : Result MuxAnswer E) → IfOk r (λ answer. answer ≡ Refused end) → IfOk r (λ answer. IsKept end.fault)
    → IsRefusedRun plan.channels plan.steps end → IfSome end.before IsDefaultLink → IsNoMessageFault end.fault → IsWanting end.fault → IfOk r (AnswersMuxPlan plan)
refusal_told plan end (Ok answer) is kept run link m w = subst (AnswersMuxPlan plan) (sym is) (record { run = run; cause = own_cause end.fault m w kept; link = link })
refusal_told plan end (Err e) is kept run link m w = tt
