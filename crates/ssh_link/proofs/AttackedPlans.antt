-- The run of a plan whose sides are fed any bytes is that of its test parts.
use Rattle.std.proofs.Common.{true, ◌≡◌, inl, inr, ℕ, ◌<◌, ◌≤◌, List, Option, Some, None, Result, Ok, Err, IfOk, IfSome, OnOk, refl, subst}
use Rattle.ssh_wire.specs.declared.error.ConfigFault.{ConfigFault}
use Rattle.ssh_wire.specs.declared.error.Error.{Error}
use Rattle.ssh_wire.specs.declared.error.Error.TheVariants as errors
use Rattle.ssh_wire.specs.declared.side.Side.{Side}
use Rattle.ssh_wire.specs.declared.side.Side.TheVariants.{Client, Server}
use Rattle.ssh_packet.specs.Sealing.{Item}
use Rattle.ssh_kex.specs.declared.config.Config.{Config}
use Rattle.ssh_kex.specs.declared.exchange.FinishedExchange.{FinishedExchange}
use Rattle.ssh_kex.specs.declared.group.DhGroup.{DhGroup}
use Rattle.ssh_rules.specs.Asking.{PartCalls}
use Rattle.ssh_rules.specs.AttackCauses.{Due, GroupDue, IsAnsweredSide, IsAttackedRun, IsTooLongNow, KexinitDue, NewkeysDue, PartDeniesNow, PartsDo, RefusesNow, ReplyDue, RequestDue, Seen, ValueDue, due_in, seen_in}
use Rattle.ssh_rules.specs.Attacked.{fed_to}
use Rattle.ssh_rules.specs.Handled.{Ending}
use Rattle.ssh_rules.specs.LinkCauses.{Rises}
use Rattle.ssh_rules.specs.declared.link.AttackReport.{AttackReport}
use Rattle.ssh_rules.specs.declared.link.AttackStep.{AttackStep}
use Rattle.ssh_rules.proofs.Lemmas.{answers_weaker}
use Rattle.ssh_vectors.specs.Agreement.{Agrees, ClientMakes, ServerMakes}
use Rattle.ssh_vectors.specs.Hosts.{TrustsAll, accepted, is_trusted}
use Rattle.ssh_vectors.specs.Primes.{IsLawful, IsObliging, group_for}
use Rattle.ssh_vectors.specs.declared.hosts.TrustedHost.{TrustedHost}
use Rattle.ssh_script.specs.Plans.{Plan}
use Rattle.ssh_script.specs.declared.setup.SideSetup.{SideSetup}
use Rattle.ssh_link.specs.PlanParts.{never_asked, offers_exchange, trusted_of, untold_rises}
use Rattle.ssh_link.specs.PlanRun.{AreServedAttacked, IsAttackedPlan, IsSeeded}

-- ---- which part refused isn't told

abbrev untold : PartsDo → (Option DhGroup → Type 0) → Type 0 → PartsDo
untold p O S = record p { rises = untold_rises; obliging = O; signs = S }

denies_untold : (p : PartsDo) (O : Option DhGroup → Type 0) (S : Type 0) (f : (q : Option DhGroup) → O q → p.obliging q) (g : S → p.signs) (v : Seen) (items : List Item) (i : Item) (due : Due) → PartDeniesNow p v items i due → PartDeniesNow (untold p O S) v items i due
denies_untold p O S f g v items i KexinitDue (n, reads, plain, d) = (n, reads, plain, record { client = d.client; rose = tt; only = λ o. d.only (f _ o) })
denies_untold p O S f g v items i GroupDue (q, read, inside, d) = (q, read, inside, record { client = d.client; rose = tt; only = λ o. d.only (f _ o) })
denies_untold p O S f g v items i RequestDue (sizes, read, rose, only) = (sizes, read, tt, only)
denies_untold p O S f g v items i ValueDue (n, names, d) = (n, names, record { exchange = d.exchange; host = d.host; signature = d.signature; speaks = d.speaks; value_is = d.value_is; rose = tt; only = λ o. d.only (f _ o) })
denies_untold p O S f g v items i ReplyDue (n, names, d) = (n, names, record { front = d.front; read = d.read; exchange = d.exchange; host = d.host; signature = d.signature; speaks = d.speaks; value_is = d.value_is; rose = tt; only = λ o. d.only (f _ o) })
denies_untold p O S f g v items i NewkeysDue d = d

long_untold : (p : PartsDo) (O : Option DhGroup → Type 0) (S : Type 0) (i : Item) (n : ℕ) (due : Due) → IsTooLongNow p i n due → IsTooLongNow (untold p O S) i n due
long_untold p O S i n KexinitDue h = h
long_untold p O S i n GroupDue h = h
long_untold p O S i n RequestDue h = h
long_untold p O S i n ValueDue h = h
long_untold p O S i n ReplyDue h = h
long_untold p O S i n NewkeysDue h = h

refuses_untold : (p : PartsDo) (O : Option DhGroup → Type 0) (S : Type 0) (f : (q : Option DhGroup) → O q → p.obliging q) (g : S → p.signs) (v : Seen) (items : List Item) (i : Item) (e : Error) → RefusesNow p v items i e → RefusesNow (untold p O S) v items i e
refuses_untold p O S f g v items i errors.Disconnect h = h
refuses_untold p O S f g v items i (errors.StrictKeyExchangeViolation type place) h = h
refuses_untold p O S f g v items i errors.KexInit h = h
refuses_untold p O S f g v items i errors.Kex (inl h) = inl h
refuses_untold p O S f g v items i errors.Kex (inr h) = inr (h.0, denies_untold p O S f g v items i (due_in v items) h.1)
refuses_untold p O S f g v items i errors.Inconsistent h = h
refuses_untold p O S f g v items i (errors.SshEncoding fault) h = h
refuses_untold p O S f g v items i (errors.NoCommonAlgo kind ours theirs) h = h
refuses_untold p O S f g v items i errors.UnknownAlgo h = h
refuses_untold p O S f g v items i (errors.PacketSize n) (due, long, h) = (due, long, long_untold p O S i n (due_in v items) h)
refuses_untold p O S f g v items i errors.Signature (due, value, rose, only) = (due, value, tt, λ o. only (g o))
refuses_untold p O S f g v items i errors.WrongServerSig (due, h) = (due, record { names = h.names; names_are = h.names_are; front = h.front; signature = h.signature; read = h.read; rest = h.rest; exchange = h.exchange; speaks = h.speaks; value_is = h.value_is; secret = h.secret; agree = h.agree; rose = tt; only = h.only })
refuses_untold p O S f g v items i errors.UnknownKey (due, newkeys, h) = (due, newkeys, record { client = h.client; names = h.names; names_are = h.names_are; host = h.host; value = h.value; signature = h.signature; reply = h.reply; rose = tt; only = h.only })
refuses_untold p O S f g v items i errors.Version h = h
refuses_untold p O S f g v items i errors.PacketAuth h = h
refuses_untold p O S f g v items i errors.DecryptionError h = h
refuses_untold p O S f g v items i errors.IndexOutOfBounds h = h
refuses_untold p O S f g v items i errors.IO h = h
refuses_untold p O S f g v items i (errors.InvalidConfig fault) h = h
refuses_untold p O S f g v items i errors.Memory h = h

answered_untold : (p : PartsDo) (O : Option DhGroup → Type 0) (S : Type 0) (f : (q : Option DhGroup) → O q → p.obliging q) (g : S → p.signs) (side : Side) (config : Config) (steps : List AttackStep) (answers : List (Result (Unit {0}) Error)) (xs : List FinishedExchange) (own handled : List Item) (ending : Ending)
    → IsAnsweredSide p side config steps answers xs own handled ending → IsAnsweredSide (untold p O S) side config steps answers xs own handled ending
answered_untold p O S f g side config steps answers xs own handled ending h = record {
  answered = answers_weaker _ _ side _ steps answers (λ items k. k) (λ items i e r. refuses_untold p O S f g (seen_in side config (fed_to side steps) xs own) items i e r) h.answered;
  accepted = h.accepted;
  asked = h.asked;
}

run_untold : (p q : PartsDo) (O : Option DhGroup → Type 0) (S : Type 0) (P : Option DhGroup → Type 0) (T : Type 0) → ((r : Option DhGroup) → O r → p.obliging r) → (S → p.signs) → ((r : Option DhGroup) → P r → q.obliging r) → (T → q.signs) → (client server : Config) (steps : List AttackStep) (report : AttackReport) → IsAttackedRun p q client server steps report → IsAttackedRun (untold p O S) (untold q P T) client server steps report
run_untold p q O S P T f g k l client server steps report h = record {
  link = h.link;
  client_answered = answered_untold p O S f g Client client steps report.answers report.client.exchanges _ _ _ h.client_answered;
  server_answered = answered_untold q P T k l Server server steps report.answers report.server.exchanges _ _ _ h.server_answered;
}

-- ---- test parts with these values

-- the number of a call between two counts of calls
abbrev IsBetween : (before after number : ℕ) → Type 0
IsBetween before after number = (before < number) × (number ≤ after)

-- how a side's parts begin
pub record Begins : Type 0 where
  pub bits : ℕ
  pub agreement : ℕ
  pub hosts : ℕ
  pub groups : ℕ
  pub trusted : List TrustedHost
  pub calls : PartCalls

abbrev pub parts_by : Plan → Begins → Rises → PartCalls → PartsDo
parts_by plan b rises calls = record {
  lawful = Unit {0};
  lawful_hosts = Unit {0};
  lawful_lookup = IsLawful b.bits plan.client.config.gex;
  obliging = λ group. Unit {0} × (IsBetween b.calls.agreement calls.agreement b.agreement → ⊥);
  signs = Unit {0} × (IsBetween b.calls.hosts calls.hosts b.hosts → ⊥);
  judges = TrustsAll b.trusted plan.server.config × (IsBetween b.calls.hosts calls.hosts b.hosts → ⊥);
  obliging_lookup = IsObliging b.bits plan.client.config.gex × (IsBetween b.calls.lookups calls.lookups b.groups → ⊥);
  rises = rises;
  offers = λ name. offers_exchange name ≡ true;
  client_makes = ClientMakes;
  server_makes = ServerMakes;
  agrees = Agrees;
  group = group_for b.bits;
  accepts = accepted b.trusted;
  trusts = is_trusted b.trusted;
  before = b.calls;
  after = calls;
}

-- as a plan sets them
abbrev pub begins_of : Plan → SideSetup → Begins
begins_of plan side = record {
  bits = side.group_bits;
  agreement = side.refuse_agreement;
  hosts = side.refuse_hosts;
  groups = side.refuse_groups;
  trusted = trusted_of plan.server.config.host;
  calls = never_asked;
}

pub attacked_plan : (plan : Plan) (steps : List AttackStep) (b d : Begins) (r s : Rises) (cc sc : PartCalls) (report : AttackReport)
    → steps ≡ plan.attack → b ≡ begins_of plan plan.client → d ≡ begins_of plan plan.server
    → IsAttackedRun (parts_by plan b r cc) (parts_by plan d s sc) plan.client.config plan.server.config steps report → IsSeeded plan report.client.wire report.server.wire → AreServedAttacked plan report → IsAttackedPlan plan report
attacked_plan plan steps b d r s cc sc report e f g h drawn served = record {
  client_calls = cc;
  server_calls = sc;
  run = run_untold (parts_by plan (begins_of plan plan.client) r cc) (parts_by plan (begins_of plan plan.server) s sc) _ _ _ _ (λ q o. (tt, o)) (λ o. (tt, o)) (λ q o. (tt, o)) (λ o. (tt, o)) plan.client.config plan.server.config plan.attack report
      (subst (λ x. IsAttackedRun (parts_by plan x r cc) (parts_by plan (begins_of plan plan.server) s sc) plan.client.config plan.server.config plan.attack report) f
      (subst (λ x. IsAttackedRun (parts_by plan b r cc) (parts_by plan x s sc) plan.client.config plan.server.config plan.attack report) g
      (subst (λ x. IsAttackedRun (parts_by plan b r cc) (parts_by plan d s sc) plan.client.config plan.server.config x report) e h)));
  drawn = drawn;
  served = served;
}

begins_are : (b d : Begins) → b.bits ≡ d.bits → b.agreement ≡ d.agreement → b.hosts ≡ d.hosts → b.groups ≡ d.groups → b.trusted ≡ d.trusted → b.calls.agreement ≡ d.calls.agreement → b.calls.hosts ≡ d.calls.hosts → b.calls.lookups ≡ d.calls.lookups → b ≡ d
begins_are b d e f g h k l m n = rw (e, f, g, h, k, l, m, n) refl

pub told_attack : (plan : Plan) (steps : List AttackStep) (b d : Begins) (r s : Rises) (cc sc : PartCalls) (result : Result AttackReport Error)
    → steps ≡ plan.attack
    → b.bits ≡ plan.client.group_bits → b.agreement ≡ plan.client.refuse_agreement → b.hosts ≡ plan.client.refuse_hosts → b.groups ≡ plan.client.refuse_groups → b.trusted ≡ trusted_of plan.server.config.host → b.calls.agreement ≡ 0 → b.calls.hosts ≡ 0 → b.calls.lookups ≡ 0
    → d.bits ≡ plan.server.group_bits → d.agreement ≡ plan.server.refuse_agreement → d.hosts ≡ plan.server.refuse_hosts → d.groups ≡ plan.server.refuse_groups → d.trusted ≡ trusted_of plan.server.config.host → d.calls.agreement ≡ 0 → d.calls.hosts ≡ 0 → d.calls.lookups ≡ 0
    → IfOk result (IsAttackedRun (parts_by plan b r cc) (parts_by plan d s sc) plan.client.config plan.server.config steps) → IfOk result (λ (report : AttackReport). IsSeeded plan report.client.wire report.server.wire) → IfOk result (AreServedAttacked plan) → IfOk result (IsAttackedPlan plan)
told_attack plan steps b d r s cc sc (Ok report) e b1 b2 b3 b4 b5 b6 b7 b8 d1 d2 d3 d4 d5 d6 d7 d8 h drawn served =
    attacked_plan plan steps b d r s cc sc report e (begins_are b (begins_of plan plan.client) b1 b2 b3 b4 b5 b6 b7 b8) (begins_are d (begins_of plan plan.server) d1 d2 d3 d4 d5 d6 d7 d8) h drawn served
told_attack plan steps b d r s cc sc (Err error) e b1 b2 b3 b4 b5 b6 b7 b8 d1 d2 d3 d4 d5 d6 d7 d8 h drawn served = tt

-- where a run went to its end, no configuration is refused
pub passed : (o : Option ConfigFault) (result : Result AttackReport Error) → IfSome o (λ f. result ≡ Err (errors.InvalidConfig f)) → OnOk result (o ≡ None)
passed None (Ok report) h = refl
passed (Some f) (Ok report) h = cc
passed o (Err e) h = tt
