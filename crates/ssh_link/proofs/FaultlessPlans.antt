-- A generated plan is faultless: its configurations are the default ones, and each payload has 1 to 1000 bytes.
use Rattle.std.proofs.Common.{◌≡◌, ℕ, zero, suc, ◌+◌, ◌%◌, ◌<◌, ◌==◌, Bool, true, false, not, ◌&&◌, if◌then◌else◌, List, [], ◌∷◌, ◌++◌, length, replicate, codes, Option, Some, None, Result, Ok, Err, IfOk, refl, sym, ◌∙◌, ap, subst, arith, append_assoc}
use Rattle.std.proofs.lemmas.Bool.Decides.{nat_tests}
use Rattle.std.proofs.lemmas.List.Elements.{All-cons, All-nil}
use Rattle.ssh_wire.specs.declared.side.Side.{Side}
use Rattle.ssh_wire.specs.declared.side.Side.TheVariants.{Client, Server}
use Rattle.ssh_wire.specs.declared.algorithm.Algorithm.TheVariants.{Ed25519}
use Rattle.ssh_wire.specs.declared.error.Error.{Error}
use Rattle.ssh_wire.specs.declared.error.Error.TheVariants.{Memory}
use Rattle.ssh_negotiate.specs.Advertised.{certificate_names, cipher_text, compression_text, host_text, mac_text, offers_with}
use Rattle.ssh_negotiate.specs.Chosen.{◌>>=◌, chosen_names, first_common, mac_under, or_err, without_extensions}
use Rattle.ssh_negotiate.specs.Defaults.{default_preferences}
use Rattle.ssh_negotiate.specs.Preferences.{Hosts}
use Rattle.ssh_negotiate.specs.declared.preferred.HostCertificate.{HostCertificate}
use Rattle.ssh_negotiate.specs.declared.preferred.HostKey.{HostKey}
use Rattle.ssh_negotiate.specs.Tables.{is_extension, kex_text, shape_of}
use Rattle.ssh_negotiate.specs.declared.kex.Name.{Name as KexName}
use Rattle.ssh_negotiate.specs.declared.kex.Name.TheVariants.{Mlkem768X25519Sha256}
use Rattle.ssh_negotiate.specs.declared.negotiation.Names.{Names}
use Rattle.ssh_rules.specs.Headline.{chosen_by}
use Rattle.ssh_rules.specs.Valid.{config_fault, is_bad_size, is_good_payload}
use Rattle.ssh_rules.specs.declared.link.Step.{Step}
use Rattle.ssh_rules.specs.declared.link.Step.TheVariants.{Deliver, Rekey, Settle}
use Rattle.ssh_vectors.specs.Hosts.{TrustsHosts, TrustsKey}
use Rattle.ssh_script.specs.Generated.{drawn, generated_steps, payload_drawn, rekey_drawn, side_drawn, state_behind, state_behind_turn, turn_by, turn_steps, turns_from, generated_plan}
use Rattle.ssh_link.specs.PlanParts.{IsFaultlessPlan, RefusesNoCall, configs_of, offers_exchange, trusted_key, trusted_of}
use Rattle.ssh_script.specs.Plans.{Plan}
use Rattle.ssh_link.specs.Program.{AnswersGen, IsRefusedLink}
use Rattle.ssh_script.specs.RunScript.{host_key}
use Rattle.ssh_run.specs.RunCauses.{all_submits_good}
use Rattle.ssh_link.specs.declared.answer.Answer.{Answer}

-- ---- the payloads

replicate_length : (n b : ℕ) → length (replicate n b) ≡ n
replicate_length zero b = refl
replicate_length (suc n) b = ap suc (replicate_length n b)

small_size : (n : ℕ) → n < 1001 → is_bad_size (suc n) ≡ false
small_size n h = grind (arith, nat_tests, h)

payload_good : (turn n : ℕ) → is_good_payload (payload_drawn turn n) ≡ true
payload_good turn n =
    let few : n % 1000 < 1001 = omega arith in
    let size : is_bad_size (suc (length (replicate (n % 1000) (turn % 256)))) ≡ false = subst (λ m. is_bad_size (suc m) ≡ false) (sym (replicate_length (n % 1000) (turn % 256))) (small_size (n % 1000) few) in
    ap (λ b. not b && true) size

rekeys_good : (side : Side) (n : ℕ) (steps : List Step) → all_submits_good steps ≡ true → all_submits_good (rekey_drawn side n ++ steps) ≡ true
rekeys_good side n steps h = by (n % 16 == 0) where
  by : (b : Bool) → all_submits_good ((if b then Rekey side ∷ [] else []) ++ steps) ≡ true
  by true = h
  by false = h

with_turn : (turn a b c d : ℕ) (rest : List Step) → all_submits_good rest ≡ true → all_submits_good (turn_by turn a b c d ++ rest) ≡ true
with_turn turn a b c d rest h = subst (λ g. (g && all_submits_good ((rekey_drawn (side_drawn a) c ++ Deliver (side_drawn d) (d % 4096) ∷ []) ++ rest)) ≡ true) (sym (payload_good turn b)) (by (c % 16 == 0)) where
  by : (r : Bool) → all_submits_good (((if r then Rekey (side_drawn a) ∷ [] else []) ++ Deliver (side_drawn d) (d % 4096) ∷ []) ++ rest) ≡ true
  by true = h
  by false = h

turns_good : (count turn x : ℕ) (rest : List Step) → all_submits_good rest ≡ true → all_submits_good (turns_from count turn x ++ rest) ≡ true
turns_good zero turn x rest h = h
turns_good (suc count) turn x rest h =
    subst (λ steps. all_submits_good steps ≡ true) (sym (append_assoc (turn_steps turn x) (turns_from count (turn + 1) (state_behind_turn x)) rest))
    (with_turn turn (drawn (state_behind x)) (drawn (state_behind (state_behind x))) (drawn (state_behind (state_behind (state_behind x)))) (drawn (state_behind_turn x)) (turns_from count (turn + 1) (state_behind_turn x) ++ rest)
    (turns_good count (turn + 1) (state_behind_turn x) rest h))

generated_good : (seed count : ℕ) → all_submits_good (generated_steps seed count) ≡ true
generated_good seed count = turns_good count 0 seed (Settle ∷ []) refl

-- ---- the configurations

-- the key exchange of a choice
abbrev kex_of : {E : Type 0} → Result Names E → Option KexName
kex_of (Ok names) = Some names.kex
kex_of (Err e) = None

record HasKex {E : Type 0} (r : Result Names E) (name : KexName) : Type 0 where
  names : Names
  chosen : r ≡ Ok names
  kex : names.kex ≡ name

has_kex : {E : Type 0} (r : Result Names E) (name : KexName) → kex_of r ≡ Some name → HasKex r name
has_kex (Ok names) name h = record { names = names; chosen = refl; kex = cc }
has_kex (Err e) name h = cc

default_kex : kex_of (chosen_by (configs_of (generated_plan 0 0) Client) (configs_of (generated_plan 0 0) Server)) ≡ Some Mlkem768X25519Sha256
unfolding default_preferences offers_with kex_text host_text cipher_text mac_text compression_text is_extension chosen_names first_common without_extensions mac_under or_err ◌>>=◌ certificate_names
default_kex = refl

valid : (side : Side) → config_fault side (configs_of (generated_plan 0 0) side) ≡ None
unfolding config_fault default_preferences offers_with kex_text host_text cipher_text mac_text compression_text certificate_names
valid Client = refl
valid Server = refl

offers_default : offers_exchange Mlkem768X25519Sha256 ≡ true
unfolding shape_of
offers_default = refl

abbrev default_hosts : Hosts
default_hosts = (generated_plan 0 0).server.config.host

abbrev default_key : HostKey
default_key = host_key Ed25519 (codes "sshlink-test-key")

-- the one key is trusted as its own
one_trusted : TrustsKey (trusted_of default_hosts) default_key.blob default_key.blob
one_trusted = record { as' = trusted_key default_key; found = refl; key_is = refl }

key_trusted : TrustsHosts (trusted_of default_hosts) default_hosts
key_trusted = record {
  keys = All-cons (λ (k : HostKey). TrustsKey (trusted_of default_hosts) k.blob k.blob) default_key [] one_trusted (All-nil (λ (k : HostKey). TrustsKey (trusted_of default_hosts) k.blob k.blob));
  certificates = All-nil (λ (c : HostCertificate). TrustsKey (trusted_of default_hosts) c.blob c.key_blob);
}

none : 0 < 0 → ⊥
none h = omega (arith, h)

no_call : (seed count : ℕ) (side : Side) → RefusesNoCall (generated_plan seed count) side
no_call seed count Client = record { agreement = λ c. none c.0; hosts = λ c. none c.0 }
no_call seed count Server = record { agreement = λ c. none c.0; hosts = λ c. none c.0 }

pub generated_faultless : (seed count : ℕ) → IsFaultlessPlan (generated_plan seed count)
generated_faultless seed count =
    let k = has_kex _ Mlkem768X25519Sha256 default_kex in
    record {
      valid = record {
        valid = valid;
        names = k.names;
        chosen = k.chosen;
        offers = λ side. ap offers_exchange k.kex ∙ offers_default;
        good = generated_good seed count;
      };
      parts = record {
        calls = no_call seed count;
        trusted = key_trusted;
        lawful = record { most = omega arith };
        lookup = λ _. record { groups = λ c. none c.0; group = record { lawful = record { most = omega arith }; least = omega arith; within = omega arith } };
      };
    }

-- so its run is refused for want of memory alone, which is no answer
generated_answer : (plan : Plan) (seed count : ℕ) (e : Error) (answer : Answer) → plan ≡ generated_plan seed count → (IsFaultlessPlan plan → e ≡ Memory) → IsRefusedLink e answer → AnswersGen (generated_plan seed count) answer
generated_answer plan seed count e answer same h r = absurd (r.1 (h (subst IsFaultlessPlan (sym same) (generated_faultless seed count))))

pub generated_refused : {E : Type 0} → (plan : Plan) (seed count : ℕ) (e : Error) (r : Result Answer E) → plan ≡ generated_plan seed count → (IsFaultlessPlan plan → e ≡ Memory) → IfOk r (IsRefusedLink e) → IfOk r (λ answer. AnswersGen (generated_plan seed count) answer)
generated_refused plan seed count e (Ok answer) same h r = generated_answer plan seed count e answer same h r
generated_refused plan seed count e (Err f) same h r = tt
