-- What calls on the sides of a link leave of their parts: from where first KEXINITs are drawn, and that parts answered.
use Rattle.std.proofs.Common.{◌≡◌, ℕ, List, [], refl, Result, Ok, Err, OnOk, ap, ◌∙◌, sym, subst}
use Rattle.rand_core.specs.Stream.{Stream}
use Rattle.ssh_wire.specs.declared.error.Error.{Error}
use Rattle.ssh_wire.specs.declared.error.Error.TheVariants.{Memory}
use Rattle.ssh_kex.specs.Setting.{Says}
use Rattle.ssh_kex.specs.declared.config.Config.{Config}
use Rattle.ssh_wire.specs.declared.side.Side.{Side}
use Rattle.ssh_wire.specs.declared.side.Side.TheVariants.{Client, Server}
use Rattle.ssh_rules.specs.Answering.{AnswersAll, PartTests}
use Rattle.ssh_rules.specs.Standing.{IsNew, Rekeyed, Standing, Submitted, TakesInput}
use Rattle.ssh_rules.specs.declared.link.LinkReport.{LinkReport}
use Rattle.ssh_transport.specs.Drawing.{AreDrawn, BeginsDrawn, IsDrawn, PartsStand, StaysDrawn}
use Rattle.ssh_transport.proofs.Lemmas.{answered_new, comes_fed, comes_join, comes_rekeyed, comes_still, comes_submitted, drawn_join, drawn_new, drawn_wire}
use Rattle.ssh_run.specs.Carrying.{CarriedEnd, CarriedLink, IsNewLink, first_carried_end}
use Rattle.ssh_run.specs.LinkEnds.{BothAnswered, LeavesBoth, LeavesSide}

-- what is answered with Ok isn't want of memory
pub where_ample : (answer : Result (Unit {0}) Error) (P : Type 0) → ((answer ≡ Err Memory → ⊥) → P) → OnOk answer P
where_ample (Ok u) P f = f (λ e. (let x : (let r : Result (Unit {0}) Error = Ok u in r) ≡ Err Memory = e in cc))
where_ample (Err x) P f = tt

pub not_memory : (answer : Result (Unit {0}) Error) (u : Unit {0}) → answer ≡ Ok u → answer ≡ Err Memory → ⊥
not_memory answer u a e = (let f : answer ≡ Ok u = a in let h : answer ≡ Err Memory = e in cc)

-- ---- one side

-- a payload that was submitted
pub leaves_submitted : (says : Says) (old : Standing) (payload : List ℕ) (new : Standing) (s s' : Stream) (t t' : PartTests) → t' ≡ t → StaysDrawn old new s s' → Submitted says old payload new → LeavesSide old new (record { stream = s; tests = t }) (record { stream = s'; tests = t' })
leaves_submitted says old payload new s s' t t' e d h = record { drawn = d; came = comes_submitted says old payload new t t' e h }

-- an exchange that was asked for
pub leaves_rekeyed : (answer : Result (Unit {0}) Error) (says : Says) (old new : Standing) (s s' : Stream) (t t' : PartTests) → t' ≡ t → OnOk answer (StaysDrawn old new s s') → OnOk answer (Rekeyed says old new) → OnOk answer (LeavesSide old new (record { stream = s; tests = t }) (record { stream = s'; tests = t' }))
leaves_rekeyed (Ok u) says old new s s' t t' e d h = record { drawn = d; came = comes_rekeyed says old new t t' e h }
leaves_rekeyed (Err x) says old new s s' t t' e d h = tt

-- bytes that were taken, whose payloads were taken over
pub leaves_fed : (says : Says) (old fed new : Standing) (piece : List ℕ) (s s' : Stream) (t t' : PartTests) → new ≡ record fed { delivered = [] } → StaysDrawn old new s s' → TakesInput says old piece fed → AnswersAll old.side old.state fed.state t t' → LeavesSide old new (record { stream = s; tests = t }) (record { stream = s'; tests = t' })
leaves_fed says old fed new piece s s' t t' e d h a = record { drawn = d; came = comes_fed says old fed new piece t t' e h a }

side_still : (t : Standing) (p : PartsStand) → LeavesSide t t p p
side_still t p = record { drawn = λ side config first d. d; came = comes_still t p.tests }

side_same : (a b : Standing) (p : PartsStand) → b ≡ a → LeavesSide a b p p
side_same a b p e = subst (λ (t : Standing). LeavesSide a t p p) (sym e) (side_still a p)

side_join : (a b c : Standing) (p q r : PartsStand) → LeavesSide a b p q → LeavesSide b c q r → LeavesSide a c p r
side_join a b c p q r h k = record {
  drawn = drawn_join a b c p.stream q.stream r.stream h.drawn k.drawn;
  came = comes_join a b c p.tests q.tests r.tests h.came k.came;
}

-- ---- both sides

pub both_still : (l : CarriedLink) (p q : PartsStand) → LeavesBoth l l p p q q
both_still l p q = record { of_client = side_still l.client.transport p; of_server = side_still l.server.transport q }

pub both_join : (a b c : CarriedLink) (p p' p'' q q' q'' : PartsStand) → LeavesBoth a b p p' q q' → LeavesBoth b c p' p'' q' q'' → LeavesBoth a c p p'' q q''
both_join a b c p p' p'' q q' q'' h k = record {
  of_client = side_join a.client.transport b.client.transport c.client.transport p p' p'' h.of_client k.of_client;
  of_server = side_join a.server.transport b.server.transport c.server.transport q q' q'' h.of_server k.of_server;
}

-- a call on one side
pub client_leaves : (answer : Result (Unit {0}) Error) (a b : CarriedLink) (p p' q : PartsStand) → b.server ≡ a.server → OnOk answer (LeavesSide a.client.transport b.client.transport p p') → OnOk answer (LeavesBoth a b p p' q q)
client_leaves (Ok u) a b p p' q e h = record { of_client = h; of_server = side_same a.server.transport b.server.transport q (ap (λ x. x.transport) e) }
client_leaves (Err x) a b p p' q e h = tt

pub server_leaves : (answer : Result (Unit {0}) Error) (a b : CarriedLink) (p q q' : PartsStand) → b.client ≡ a.client → OnOk answer (LeavesSide a.server.transport b.server.transport q q') → OnOk answer (LeavesBoth a b p p q q')
server_leaves (Ok u) a b p q q' e h = record { of_client = side_same a.client.transport b.client.transport p (ap (λ x. x.transport) e); of_server = h }
server_leaves (Err x) a b p q q' e h = tt

-- a call on the server, and then one on the client
pub turn_leaves : (answer : Result (Unit {0}) Error) (a b : CarriedLink) (p p' q q' : PartsStand) → LeavesSide a.server.transport b.server.transport q q' → OnOk answer (LeavesSide a.client.transport b.client.transport p p') → OnOk answer (LeavesBoth a b p p' q q')
turn_leaves (Ok u) a b p p' q q' h k = record { of_client = k; of_server = h }
turn_leaves (Err x) a b p p' q q' h k = tt

-- ---- a run of a new link

new_drawn : (side : Side) (config : Config) (s : Stream) (e : CarriedEnd) (t : Standing) → IsNew side config t → e ≡ first_carried_end t → IsDrawn side config s e.transport s
new_drawn side config s e t n k = subst (λ (x : Standing). IsDrawn side config s x s) (sym (ap (λ (x : CarriedEnd). x.transport) k)) (drawn_new side config s t n)

pub run_drawn : (client server : Config) (a b : CarriedLink) (p p' q q' : PartsStand) (client_wire server_wire : List ℕ) → IsNewLink client server a → LeavesBoth a b p p' q q' → client_wire ≡ b.client.transport.output → server_wire ≡ b.server.transport.output
    → AreDrawn client server p.stream q.stream client_wire server_wire
run_drawn client server a b p p' q q' client_wire server_wire n h e f = record {
  from_client = subst (BeginsDrawn Client client p.stream) (sym e) (drawn_wire Client client p.stream p'.stream b.client.transport ((h.of_client).drawn Client client p.stream (new_drawn Client client p.stream a.client n.of_client.0 n.of_client.1 n.of_client.2)));
  from_server = subst (BeginsDrawn Server server q.stream) (sym f) (drawn_wire Server server q.stream q'.stream b.server.transport ((h.of_server).drawn Server server q.stream (new_drawn Server server q.stream a.server n.of_server.0 n.of_server.1 n.of_server.2)));
}

pub run_answered : (client server : Config) (a b : CarriedLink) (p p' q q' : PartsStand) (report : LinkReport) → IsNewLink client server a → LeavesBoth a b p p' q q' → report.client.wire ≡ b.client.transport.output → report.server.wire ≡ b.server.transport.output → report.client.exchanges ≡ b.client.transport.state.records → report.server.exchanges ≡ b.server.transport.state.records
    → BothAnswered client server p.tests p'.tests q.tests q'.tests report
run_answered client server a b p p' q q' report n h e f k l = record {
  by_client = answered_new Client client n.of_client.0 a.client.transport b.client.transport report.client.wire report.client.exchanges p.tests p'.tests n.of_client.1 (ap (λ (x : CarriedEnd). x.transport) n.of_client.2) (h.of_client).came e k;
  by_server = answered_new Server server n.of_server.0 a.server.transport b.server.transport report.server.wire report.server.exchanges q.tests q'.tests n.of_server.1 (ap (λ (x : CarriedEnd). x.transport) n.of_server.2) (h.of_server).came f l;
}
