-- What the marks of a record are measured by: both wires as a reading kept them.
use Rattle.std.specs.Prelude.{◌≡◌, ◌⊎◌, ℕ, length}
use Rattle.ssh_wire.specs.Lines.{id_line}
use Rattle.ssh_wire.specs.declared.side.Side.TheVariants.{Client, Server}
use Rattle.ssh_kex.specs.Messages.{is_gex}
use Rattle.ssh_record.specs.Recordings.{Recording}
use Rattle.ssh_record.specs.Runs.{BreaksRunAt, half_recorded}
use Rattle.ssh_record.specs.declared.report.AuditEnd.{AuditEnd}
use Rattle.ssh_record.specs.declared.report.AuditEnd.TheVariants.{Fault, Memory}
use Rattle.ssh_record.specs.declared.report.AuditFault.TheVariants.{Mark as MarkFault}
use Rattle.ssh_transcript.specs.Reading.{AreGoodWires, judged_under, kept_of}
use Rattle.ssh_transcript.specs.declared.reading.ReadWires.{ReadWires}
use Rattle.ssh_transcript.specs.declared.setting.Setting.{Setting}
use Rattle.ssh_judge.specs.Standing.{AreFactsFor, IsNew, Wires}
use Rattle.ssh_judge.specs.declared.run.RunState.{RunState}

-- A run's state before the first step of a record.
pub record IsFirst (s : Setting) (x : ReadWires) (r : Recording) (run : RunState) : Type 0 where
  pub kind_is : run.kind ≡ is_gex s.names.kex
  pub client_facts : AreFactsFor Client s.client.now (length r.client) (length (id_line s.client.now.id))
      (kept_of Client x) run.client.facts
  pub client : IsNew run.client.facts (length (id_line s.server.now.id)) run.client
  pub server_facts : AreFactsFor Server s.server.now (length r.server) (length (id_line s.server.now.id))
      (kept_of Server x) run.server.facts
  pub server : IsNew run.server.facts (length (id_line s.client.now.id)) run.server

-- the wires of a record, which are good
abbrev pub wires_for : (s : Setting) (x : ReadWires) (r : Recording) → AreGoodWires (judged_under s r) x → Wires
wires_for s x r g = record {
  kind = is_gex s.names.kex;
  client = half_recorded Client (judged_under s r) x.exchanges.items;
  server = half_recorded Server (judged_under s r) x.exchanges.items;
  client_items = g.client.items;
  server_items = g.server.items;
  client_kept = kept_of Client x;
  server_kept = kept_of Server x;
}

-- Why there are no marks: want of memory, or the first mark that isn't one of a run.
abbrev pub IsMarkEnd : Setting → ReadWires → Recording → AuditEnd → Type 0
IsMarkEnd s x r e = (e ≡ Memory)
    ⊎ ((place : ℕ) × (e ≡ Fault (MarkFault place)) × BreaksRunAt (judged_under s r) x.exchanges.items place)
