-- The text of a script of the command `audit`: a script of `run` with three forms more.
use Rattle.std.specs.Prelude.{◌≡◌, refl, ℕ, if◌then◌else◌, List, [], ◌∷◌, ◌++◌, codes, Option, Some, None, is_some, Result, Ok, Err, false}
use Rattle.std.specs.Option.{option_map}
use Rattle.std.specs.Str.{bytes_eq}
use Rattle.ssh_wire.specs.declared.side.Side.{Side}
use Rattle.ssh_wire.specs.declared.side.Side.TheVariants.{Client, Server}
use Rattle.ssh_rules.specs.declared.link.Step.TheVariants.{Settle}
use Rattle.ssh_lines.specs.Fields.{form_makes, from_two, from_word, hex_of, number_of, side_bytes}
use Rattle.ssh_lines.specs.Lines.{said_by}
use Rattle.ssh_lines.specs.declared.script.ScriptFault.{ScriptFault}
use Rattle.ssh_lines.specs.declared.script.ScriptKind.{ScriptKind}
use Rattle.ssh_lines.specs.declared.script.ScriptKind.TheVariants.{Malformed, NotBuilt}
use Rattle.ssh_script.specs.Plans.{Plan}
use Rattle.ssh_script.specs.RunScript.{first_plan, link_form, with_default_key}
use Rattle.ssh_record.specs.Recordings.{Recording}
use Rattle.ssh_record.specs.declared.recording.SentPair.{SentPair}
use Rattle.ssh_audit.specs.declared.script.AuditScript.{AuditScript}

-- what a script says so far; a wire is there once its line was read
pub record AuditPlan : Type 0 where
  pub plan : Plan
  pub sent : List SentPair
  pub secrets : List (List ℕ)
  pub client : Option (List ℕ)
  pub server : Option (List ℕ)

-- a script without lines
abbrev pub first_record : AuditPlan
first_record = record { plan = first_plan; sent = []; secrets = []; client = None; server = None }

abbrev pub with_secret : AuditPlan → List ℕ → AuditPlan
with_secret p secret = record p { secrets = p.secrets ++ secret ∷ [] }

abbrev pub sent_of : ℕ → ℕ → SentPair
sent_of client server = record { client = client; server = server }

abbrev pub with_sent : AuditPlan → SentPair → AuditPlan
with_sent p pair = record p { sent = p.sent ++ pair ∷ [] }

-- a wire; a second one of a side is wrong
abbrev pub with_wire : AuditPlan → Side → List ℕ → Option AuditPlan
with_wire p Client bytes = if is_some p.client then None else Some (record p { client = Some bytes })
with_wire p Server bytes = if is_some p.server then None else Some (record p { server = Some bytes })

abbrev pub with_side_wire : AuditPlan → Option (Side × List ℕ) → Option AuditPlan
with_side_wire p None = None
with_side_wire p (Some wire) = with_wire p wire.0 wire.1

abbrev pub on_plan : AuditPlan → Result Plan ScriptKind → Result AuditPlan ScriptKind
on_plan p (Err kind) = Err kind
on_plan p (Ok plan) = Ok (record p { plan = plan })

-- what a line makes of what was said, by its first word and those behind it
abbrev pub audit_form : AuditPlan → List ℕ → List (List ℕ) → Result AuditPlan ScriptKind
audit_form p word words =
    if bytes_eq word (codes "secret") then form_makes (option_map (with_secret p) (from_word hex_of words))
    else if bytes_eq word (codes "wire") then form_makes (with_side_wire p (side_bytes words))
    else if bytes_eq word (codes "sent") then form_makes (option_map (with_sent p) (from_two sent_of number_of number_of words))
    else on_plan p (link_form false p.plan word words)

-- ---- a whole script

abbrev pub or_nothing : Option (List ℕ) → List ℕ
or_nothing None = []
or_nothing (Some bytes) = bytes

-- the record that a script gives; a wire without a line is empty
abbrev pub recording_in : AuditPlan → Recording
recording_in p = record {
  steps = p.plan.steps;
  sent = p.sent;
  secrets = p.secrets;
  client = or_nothing p.client;
  server = or_nothing p.server;
}

-- The record of a script is what it says.
pub record IsRecordOf (p : AuditPlan) (s : AuditScript) : Type 0 where
  pub client : s.client ≡ p.plan.client
  pub server : s.server ≡ p.plan.server
  pub recording : s.transcript ≡ recording_in p

-- the server has a host key
abbrev pub finished_record : AuditPlan → AuditPlan
finished_record p = record p { plan = with_default_key p.plan }

abbrev pub finished_script : Result AuditPlan ScriptFault → Result AuditPlan ScriptFault
finished_script (Err fault) = Err fault
finished_script (Ok p) = Ok (finished_record p)

-- what a whole script says, or its fault
abbrev pub audit_script : List ℕ → Result AuditPlan ScriptFault
audit_script text = finished_script (said_by audit_form first_record text)

audit-example : audit_script (codes "sent 24 24\nsettle\nwire server -\nsecret -\nsent 25 24")
    ≡ Ok (record {
      plan = record (with_default_key first_plan) { steps = Settle ∷ [] };
      sent = sent_of 24 24 ∷ sent_of 25 24 ∷ [];
      secrets = [] ∷ [];
      client = None;
      server = Some [];
    })
audit-example = refl

second-example : audit_script (codes "wire client -\nwire client -") ≡ Err (record { line = 2; kind = Malformed })
second-example = refl

unknown-example : audit_script (codes "fly") ≡ Err (record { line = 1; kind = NotBuilt })
unknown-example = refl
