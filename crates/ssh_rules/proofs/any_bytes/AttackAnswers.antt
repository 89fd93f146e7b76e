-- The answers of an attacked run, and the packets that a side handled, by the table of its report.
use Rattle.std.proofs.Common.{◌≡◌, ℕ, List, [], ◌++◌, sym, ◌∙◌, ap, subst, Bool, false, Option, Some, None}
use Rattle.std.specs.Prelude.{Result}
use Rattle.ssh_packet.specs.Sealing.{Item}
use Rattle.ssh_wire.specs.Lines.{id_text}
use Rattle.ssh_wire.specs.declared.error.Error.{Error}
use Rattle.ssh_wire.specs.declared.side.Side.{Side}
use Rattle.ssh_wire.specs.declared.side.Side.TheVariants.{Client, Server}
use Rattle.ssh_negotiate.specs.declared.kex.Name.{Name as KexName}
use Rattle.ssh_kex.specs.Setting.{Says}
use Rattle.ssh_kex.specs.declared.config.Config.{Config}
use Rattle.ssh_kex.specs.declared.exchange.FinishedExchange.{FinishedExchange}
use Rattle.ssh_rules.specs.AttackCauses.{IsAnsweredSide, IsAttackedRun, PartsDo, RefusesNow, judged_in, refused_packet_at, seen_in, text_of}
use Rattle.ssh_rules.specs.Attacked.{accepted_of, ends_asked, fed_to, first_refusal}
use Rattle.ssh_rules.specs.Attacking.{AttackedEnd, AttacksSide, Tells, attacked_report}
use Rattle.ssh_rules.specs.Asking.{AsksAtMost, kex_count}
use Rattle.ssh_rules.specs.Handled.{Ending, heard_in, id_text_in}
use Rattle.ssh_rules.specs.Log.{handled, recorded, wrote}
use Rattle.ssh_rules.specs.Machine.{Event, SideState, Steps, first_state}
use Rattle.ssh_rules.specs.Standing.{IsNew, Standing}
use Rattle.ssh_rules.specs.Valid.{config_fault, some_blob_long}
use Rattle.ssh_rules.specs.declared.link.AttackStep.{AttackStep}
use Rattle.ssh_rules.proofs.any_bytes.AcceptedNow.{all_accepted}
use Rattle.ssh_rules.proofs.any_bytes.AttackedLinks.{answers_weaker, first_end, run_asks, run_ending, run_ends, shown_link}
use Rattle.ssh_rules.proofs.any_bytes.FedReports.{Told}
use Rattle.ssh_rules.proofs.any_bytes.AttackedRuns.{EndsSide, RefusesBehindLog, StandsBy, fed_side, judged_behind}
use Rattle.ssh_rules.proofs.any_bytes.RefusedNow.{TellsParts, refuses_now}
use Rattle.ssh_rules.proofs.any_bytes.SeenSides.{seen_of, shows_quiet}
use Rattle.ssh_rules.proofs.side.Valid.{tests}

-- a refusal by the rules is one by the table
by_table : (t : Tells) (p : PartsDo) (side : Side) (config : Config) (log : List Event) (fed : List ℕ) (items : List Item) (i : Item) (e : Error) → TellsParts t.says t.denies t.untrusted p side config → some_blob_long config ≡ false → RefusesBehindLog t side config log (id_text_in (heard_in side fed)) items i e
    → RefusesNow p (seen_in side config fed (recorded log) (wrote log)) items i e
by_table t p side config log fed items i e tells short r =
    let text : r.known.0 ≡ text_of (id_text_in (heard_in side fed)) = ap text_of (sym r.known.1 ∙ r.heard_is) in
    subst (λ l. RefusesNow p (seen_in side config fed (recorded log) (wrote log)) l i e) (sym r.items_are)
    (subst (λ x. RefusesNow p (seen_of side config x log) (handled log) i e) text
    (refuses_now t.says t.denies t.untrusted p side config r.known.0 log r.at i e tells short (shows_quiet t.says side config r.known.0 log r.at r.steps r.quiet r.known.1) r.refuses r.memory))

-- what a side that has run heard
record Ran (says : Says) (side : Side) (config : Config) (log : List Event) (fed : List ℕ) : Type 0 where
  pub st : SideState
  pub steps : Steps says side config (id_text config.id) first_state log st
  pub heard : st.heard ≡ id_text_in (heard_in side fed)

ran : (t : Tells) (side : Side) (config : Config) (log : List Event) (fed : List ℕ) (accepted : List (List ℕ)) (refusal : Option Error) (asked : Bool) (e : AttackedEnd) → StandsBy t side config log fed accepted refusal asked e → Ran t.says side config log fed
ran t side config log fed accepted None asked e s = record { st = e.transport.state; steps = s.0.steps; heard = s.0.line.heard_as }
ran t side config log fed accepted (Some error) asked e s = record { st = s.at; steps = s.stands.steps; heard = s.stands.heard }

-- All steps of a side are answered by the table, and all that it handled is taken by it.
pub answered_side : (t : Tells) (p : PartsDo) (side : Side) (config : Config) (steps : List AttackStep) (answers : List (Result (Unit {0}) Error)) (first : Standing) (new : AttackedEnd)
    → TellsParts t.says t.denies t.untrusted p side config → ((n : KexName) → t.says.offers n → p.offers n) → config_fault side config ≡ None → (n : IsNew side config first) → (h : AttacksSide t side steps answers (first_end t.calls first) new)
    → (exchanges : List FinishedExchange) (own items : List Item) (ending : Ending) → t.calls ≡ p.before → new.calls ≡ p.after → exchanges ≡ recorded (run_ends t side config steps answers first new n h).more → own ≡ wrote (run_ends t side config steps answers first new n h).more → items ≡ handled (run_ends t side config steps answers first new n h).more → ending ≡ run_ending t side config steps answers new (run_ends t side config steps answers first new n h)
    → IsAnsweredSide p side config steps answers exchanges own items ending
answered_side t p side config steps answers first new tells offered valid n h exchanges own items ending before after xs os is es =
    subst (λ x. IsAnsweredSide p side config steps answers x own items ending) (sym xs)
    (subst (λ x. IsAnsweredSide p side config steps answers (recorded log) x items ending) (sym os)
    (subst (λ x. IsAnsweredSide p side config steps answers (recorded log) (wrote log) x ending) (sym is)
    (subst (λ x. IsAnsweredSide p side config steps answers (recorded log) (wrote log) (handled log) x) (sym es) whole)))
  where
    r : EndsSide t side config [] [] [] false steps answers new
    r = run_ends t side config steps answers first new n h

    log : List Event
    log = r.more

    went : Ran t.says side config log (fed_to side steps)
    went = ran t side config log (fed_to side steps) (accepted_of side steps answers) (first_refusal side steps answers) (ends_asked false side steps answers) new r.stands

    whole : IsAnsweredSide p side config steps answers (recorded log) (wrote log) (handled log) (run_ending t side config steps answers new r)
    whole = record {
      answered = answers_weaker (judged_behind t side config log (id_text_in (heard_in side (fed_to side steps)))) (judged_in p (seen_in side config (fed_to side steps) (recorded log) (wrote log)) (handled log)) side (fed_side config (recorded log) [] false) steps answers
          (λ l f. f)
          (λ l i e. by_table t p side config log (fed_to side steps) l i e tells (tests side config valid).5) r.answered;
      accepted = all_accepted t.says p.offers side config (text_of (id_text_in (heard_in side (fed_to side steps)))) (wrote log) log went.st offered went.steps
          (λ x known. ap text_of (sym went.heard ∙ known));
      asked = subst (λ x. AsksAtMost (kex_count (handled log ++ refused_packet_at (run_ending t side config steps answers new r))) x p.after) before (subst (λ x. AsksAtMost (kex_count (handled log ++ refused_packet_at (run_ending t side config steps answers new r))) t.calls x) after (run_asks t side config steps answers new r));
    }

-- ---- both sides

-- what one side's parts are told to do
pub record PartsTold (t : Tells) (p : PartsDo) (side : Side) (config : Config) : Type 0 where
  pub tells : TellsParts t.says t.denies t.untrusted p side config
  pub offered : (n : KexName) → t.says.offers n → p.offers n
  pub before : t.calls ≡ p.before

pub attacked_run : (client_tells server_tells : Tells) (client_parts server_parts : PartsDo) (client server : Config) (steps : List AttackStep) (answers : List (Result (Unit {0}) Error)) (c s : Standing) (cn sn : AttackedEnd)
    → PartsTold client_tells client_parts Client client → PartsTold server_tells server_parts Server server → cn.calls ≡ client_parts.after → sn.calls ≡ server_parts.after
    → Told client_tells.says client_parts.agrees client_parts.lawful client_parts.accepts client_parts.trusts Client client → Told server_tells.says client_parts.agrees server_parts.lawful client_parts.accepts client_parts.trusts Server server
    → IsNew Client client c → IsNew Server server s → AttacksSide client_tells Client steps answers (first_end client_tells.calls c) cn → AttacksSide server_tells Server steps answers (first_end server_tells.calls s) sn
    → IsAttackedRun client_parts server_parts client server steps (record { client = attacked_report cn; server = attacked_report sn; answers = answers })
attacked_run ct st cp sp client server steps answers c s cn sn pc ps ca sa tc ts nc ns hc hs =
    let shown = shown_link ct st cp.agrees cp.lawful sp.lawful cp.accepts cp.trusts client server steps answers c s cn sn tc ts nc ns hc hs in
    record {
      link = shown.link;
      client_answered = answered_side ct cp Client client steps answers c cn pc.tells pc.offered tc.valid nc hc cn.transport.state.records shown.link.of_client.own shown.link.of_client.handled shown.link.of_client.ending pc.before ca shown.client_recorded shown.client_own shown.client_handled shown.client_ending;
      server_answered = answered_side st sp Server server steps answers s sn ps.tells ps.offered ts.valid ns hs sn.transport.state.records shown.link.of_server.own shown.link.of_server.handled shown.link.of_server.ending ps.before sa shown.server_recorded shown.server_own shown.server_handled shown.server_ending;
    }
