-- What an audit answers, by what was read of both wires and of the marks.
use Rattle.std.proofs.Common.{◌≡◌, ℕ, List, length, ◌⊎◌, inl, inr, sym, subst}
use Rattle.ssh_wire.specs.declared.side.Side.TheVariants.{Client, Server}
use Rattle.ssh_kex.specs.declared.config.Config.{Config}
use Rattle.ssh_kex.specs.declared.exchange.FinishedExchange.{FinishedExchange}
use Rattle.ssh_rules.specs.declared.link.Mark.{Mark}
use Rattle.ssh_record.specs.Answers.{FitsSent, HaveSecrets, IsAcceptedRecord, IsAuditEnd}
use Rattle.ssh_record.specs.Packets.{IsGoodWire}
use Rattle.ssh_record.specs.Recordings.{Recording}
use Rattle.ssh_record.specs.Runs.{BreaksRunAt, RunsBy}
use Rattle.ssh_record.specs.declared.report.AuditEnd.{AuditEnd}
use Rattle.ssh_record.specs.declared.report.AuditEnd.TheVariants as end
use Rattle.ssh_record.specs.declared.report.AuditFault.{AuditFault}
use Rattle.ssh_record.specs.declared.report.AuditFault.TheVariants as fault
use Rattle.ssh_record.specs.declared.report.AuditReport.{AuditReport}
use Rattle.ssh_transcript.specs.Choosing.{IsSettingOf}
use Rattle.ssh_transcript.specs.Reading.{AreGoodWires, AreRead, IsPacketFault, IsReadingEnd, IsSetting, judged_under}
use Rattle.ssh_transcript.specs.declared.reading.ReadWires.{ReadWires}
use Rattle.ssh_transcript.specs.declared.setting.Setting.{Setting}
use Rattle.ssh_judge.proofs.Told.{TellsFirst, told}

-- ---- a record is accepted

pub accepted_under : (s : Setting) (r : Recording) (report : AuditReport) → IsSetting s → FitsSent r → HaveSecrets (judged_under s r) report.exchanges
    → IsGoodWire Client (judged_under s r) report.exchanges → IsGoodWire Server (judged_under s r) report.exchanges → RunsBy (judged_under s r) report.exchanges (length r.steps) report.marks
    → TellsFirst (λ m. m.client.delivered) Server (judged_under s r) report.marks report.client_delivered → TellsFirst (λ m. m.server.delivered) Client (judged_under s r) report.marks report.server_delivered
    → IsAcceptedRecord s.client.now s.server.now r report
accepted_under s r report set fits secrets client_good server_good runs to_client to_server =
    let t = told (judged_under s r) report.exchanges report.marks report.client_delivered report.server_delivered runs client_good server_good to_client to_server in
    record {
      names = s.names;
      have_names = set.have_names;
      fits = fits;
      secrets = secrets;
      client_good = client_good;
      server_good = server_good;
      runs = runs;
      last = t.last;
      last_is = t.last_is;
      to_client = t.to_client;
      to_server = t.to_server;
    }

-- with what was read of both wires
pub accepted_from : (s : Setting) (r : Recording) (w : ReadWires) (marks : List Mark) (report : AuditReport) → IsSetting s → FitsSent r → AreRead (judged_under s r) w → AreGoodWires (judged_under s r) w
    → RunsBy (judged_under s r) w.exchanges.items (length r.steps) marks → report.marks ≡ marks → report.exchanges ≡ w.exchanges.items
    → TellsFirst (λ m. m.client.delivered) Server (judged_under s r) marks report.client_delivered → TellsFirst (λ m. m.server.delivered) Client (judged_under s r) marks report.server_delivered
    → IsAcceptedRecord s.client.now s.server.now r report
accepted_from s r w marks report set fits read good runs m x to_client to_server =
    let j = judged_under s r in
    accepted_under s r report set fits (subst (HaveSecrets j) (sym x) read.secrets) (subst (IsGoodWire Client j) (sym x) (good.client.items, good.client.good))
    (subst (IsGoodWire Server j) (sym x) (good.server.items, good.server.good))
    (subst (RunsBy j report.exchanges (length r.steps)) (sym m) (subst (λ xs. RunsBy j xs (length r.steps) marks) (sym x) runs))
    (subst (λ ms. TellsFirst (λ m. m.client.delivered) Server j ms report.client_delivered) (sym m) to_client)
    (subst (λ ms. TellsFirst (λ m. m.server.delivered) Client j ms report.server_delivered) (sym m) to_server)

-- ---- a fault

pub reading_end : (s : Setting) (r : Recording) (e : AuditEnd) → IsSetting s → FitsSent r → IsReadingEnd (judged_under s r) e → IsAuditEnd s.client.now s.server.now r e
reading_end s r e set fits (inl h) = subst (IsAuditEnd s.client.now s.server.now r) (sym h) tt
reading_end s r e set fits (inr h) = subst (IsAuditEnd s.client.now s.server.now r) (sym h.1) (s.names, set.have_names, fits, h.2)

pub packet_end : (s : Setting) (r : Recording) (f : AuditFault) → IsSetting s → FitsSent r → IsPacketFault (judged_under s r) f → IsAuditEnd s.client.now s.server.now r (end.Fault f)
packet_end s r f set fits h = subst (λ x. IsAuditEnd s.client.now s.server.now r (end.Fault x)) (sym h.2) (s.names, set.have_names, fits, h.3)

pub mark_end : (s : Setting) (r : Recording) (xs : List FinishedExchange) (e : AuditEnd) → IsSetting s → FitsSent r → HaveSecrets (judged_under s r) xs → IsGoodWire Client (judged_under s r) xs → IsGoodWire Server (judged_under s r) xs
    → (e ≡ end.Memory) ⊎ ((place : ℕ) × (e ≡ end.Fault (fault.Mark place)) × BreaksRunAt (judged_under s r) xs place) → IsAuditEnd s.client.now s.server.now r e
mark_end s r xs e set fits secrets client_good server_good (inl h) = subst (IsAuditEnd s.client.now s.server.now r) (sym h) tt
mark_end s r xs e set fits secrets client_good server_good (inr h) = subst (IsAuditEnd s.client.now s.server.now r) (sym h.1) (
  s.names,
  set.have_names,
  fits,
  record {
    exchanges = xs;
    secrets = secrets;
    client_good = client_good;
    server_good = server_good;
    breaks = h.2;
  },
)

-- ---- the setting is that of the configurations

pub of_configs : (client server : Config) (s : Setting) → IsSettingOf client server s → IsSetting s
of_configs client server s h =
    subst (λ (c : Config). IsSettingOf c s.server.now s) (sym h.client_is) (subst (λ (c : Config). IsSettingOf client c s) (sym h.server_is) h)

pub accepted_for : (client server : Config) (s : Setting) (r : Recording) (report : AuditReport) → IsSettingOf client server s → IsAcceptedRecord s.client.now s.server.now r report → IsAcceptedRecord client server r report
accepted_for client server s r report h a =
    subst (λ (c : Config). IsAcceptedRecord c server r report) h.client_is (subst (λ (c : Config). IsAcceptedRecord s.client.now c r report) h.server_is a)

pub ended_for : (client server : Config) (s : Setting) (r : Recording) (e : AuditEnd) → IsSettingOf client server s → IsAuditEnd s.client.now s.server.now r e → IsAuditEnd client server r e
ended_for client server s r e h a =
    subst (λ (c : Config). IsAuditEnd c server r e) h.client_is (subst (λ (c : Config). IsAuditEnd s.client.now c r e) h.server_is a)
