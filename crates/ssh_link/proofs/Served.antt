-- Where a run went to its end, no call that a script's parts answered is one that they refuse.
use Rattle.std.proofs.Common.{◌≡◌, ◌==◌, ◌&&◌, ◌||◌, ℕ, nat_lt, Bool, true, List, Result, Ok, Err, IfOk, arith, sym, subst}
use Rattle.std.proofs.lemmas.Bool.Decides.{nat_tests}
use Rattle.ssh_wire.specs.declared.error.Error.{Error}
use Rattle.ssh_wire.specs.declared.side.Side.{Side}
use Rattle.ssh_wire.specs.declared.side.Side.TheVariants.{Client, Server}
use Rattle.ssh_kex.specs.declared.exchange.FinishedExchange.{FinishedExchange}
use Rattle.ssh_rules.specs.Answering.{HasAnswered, PartTests, agreement_answered, hosts_answered, lookups_answered}
use Rattle.ssh_rules.specs.Machine.{first_state}
use Rattle.ssh_rules.specs.declared.link.AttackReport.{AttackReport}
use Rattle.ssh_rules.specs.declared.link.AttackStep.{AttackStep}
use Rattle.ssh_rules.specs.declared.link.LinkReport.{LinkReport}
use Rattle.ssh_attack.specs.AttackEnds.{AllTaken, EndsAnswered}
use Rattle.ssh_run.specs.LinkEnds.{BothAnswered}
use Rattle.ssh_script.specs.Plans.{Plan}
use Rattle.ssh_script.specs.declared.setup.SideSetup.{SideSetup}
use Rattle.ssh_vectors.specs.Refusing.{answered_before}
use Rattle.ssh_vectors.specs.declared.refusing.Refusing.{Refusing}
use Rattle.ssh_link.specs.PlanParts.{IsCallOf}
use Rattle.ssh_link.specs.PlanRun.{AreServed, AreServedAttacked, IsServed}

-- a part that was never asked
before_all : (known refuse_at calls : ℕ) → refuse_at ≡ known → calls ≡ 0 → (known == 0 || (refuse_at == known && calls == 0 && nat_lt calls known)) ≡ true
before_all known refuse_at calls e f = grind (arith, nat_tests)

-- the call that it refuses came not
not_yet : (known refuse_at calls count : ℕ) → (known == 0 || (refuse_at == known && calls == count && nat_lt calls known)) ≡ true → IsCallOf count known → ⊥
not_yet known refuse_at calls count h c = let a = c.0 in let b = c.1 in grind (arith, nat_tests)

-- what is answered by then
unasked : (test test' : ℕ → ℕ → Bool) (known n m : ℕ) → n ≡ 0 → ((k : ℕ) → test k n ≡ true → test' k m ≡ true) → test known 0 ≡ true → test' known m ≡ true
unasked test test' known n m e f h = f known (subst (λ q. test known q ≡ true) (sym e) h)

none_first : (side : Side) → (agreement_answered side first_state ≡ 0) × (hosts_answered side first_state ≡ 0) × (lookups_answered side first_state ≡ 0)
none_first Client = (omega arith, omega arith, omega arith)
none_first Server = (omega arith, omega arith, omega arith)

-- one side, by how its parts begin
pub served_side : {A H G : Type 0} (side : Side) (setup : SideSetup) (wire : List ℕ) (exchanges : List FinishedExchange) (a a' : Refusing A) (h h' : Refusing H) (g g' : Refusing G)
    → a.refuse_at ≡ setup.refuse_agreement → a.calls ≡ 0 → h.refuse_at ≡ setup.refuse_hosts → h.calls ≡ 0 → g.refuse_at ≡ setup.refuse_groups → g.calls ≡ 0
    → HasAnswered side setup.config wire exchanges (record { agreement = answered_before a; hosts = answered_before h; lookups = answered_before g }) (record { agreement = answered_before a'; hosts = answered_before h'; lookups = answered_before g' })
    → IsServed side setup wire exchanges
served_side side setup wire exchanges a a' h h' g g' ea fa eh fh eg fg q =
    let z = none_first side in
    record {
      ends = q.ends;
      came = q.came;
      records = q.records;
      agreement = not_yet setup.refuse_agreement a'.refuse_at a'.calls (agreement_answered side q.ends) (unasked (answered_before a) (answered_before a') setup.refuse_agreement _ _ z.0 (q.answers).agreement (before_all setup.refuse_agreement a.refuse_at a.calls ea fa));
      hosts = not_yet setup.refuse_hosts h'.refuse_at h'.calls (hosts_answered side q.ends) (unasked (answered_before h) (answered_before h') setup.refuse_hosts _ _ z.1 (q.answers).hosts (before_all setup.refuse_hosts h.refuse_at h.calls eh fh));
      groups = not_yet setup.refuse_groups g'.refuse_at g'.calls (lookups_answered side q.ends) (unasked (answered_before g) (answered_before g') setup.refuse_groups _ _ z.2 (q.answers).lookups (before_all setup.refuse_groups g.refuse_at g.calls eg fg));
    }

-- both sides of a report
pub served_told : (plan : Plan) (p p' q q' : PartTests) (r : Result LinkReport Error)
    → ((wire : List ℕ) (exchanges : List FinishedExchange) → HasAnswered Client plan.client.config wire exchanges p p' → IsServed Client plan.client wire exchanges)
    → ((wire : List ℕ) (exchanges : List FinishedExchange) → HasAnswered Server plan.server.config wire exchanges q q' → IsServed Server plan.server wire exchanges)
    → IfOk r (BothAnswered plan.client.config plan.server.config p p' q q') → IfOk r (AreServed plan)
served_told plan p p' q q' (Ok report) f g h = record { of_client = f report.client.wire report.client.exchanges h.by_client; of_server = g report.server.wire report.server.exchanges h.by_server }
served_told plan p p' q q' (Err e) f g h = tt

-- both sides of an attack's report
pub served_attacked : (plan : Plan) (steps : List AttackStep) (p p' q q' : PartTests) (r : Result AttackReport Error) → steps ≡ plan.attack
    → ((wire : List ℕ) (exchanges : List FinishedExchange) → HasAnswered Client plan.client.config wire exchanges p p' → IsServed Client plan.client wire exchanges)
    → ((wire : List ℕ) (exchanges : List FinishedExchange) → HasAnswered Server plan.server.config wire exchanges q q' → IsServed Server plan.server wire exchanges)
    → IfOk r (EndsAnswered plan.client.config plan.server.config steps p p' q q') → IfOk r (AreServedAttacked plan)
served_attacked plan steps p p' q q' (Ok report) e f g h = record {
  of_client = λ k. f report.client.wire report.client.exchanges (h.by_client (subst (λ (x : List AttackStep). AllTaken Client x report.answers) (sym e) k));
  of_server = λ k. g report.server.wire report.server.exchanges (h.by_server (subst (λ (x : List AttackStep). AllTaken Server x report.answers) (sym e) k));
}
served_attacked plan steps p p' q q' (Err x) e f g h = tt
