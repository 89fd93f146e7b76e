-- Input that was kept is taken as if it had stood before the piece.
use Rattle.std.proofs.Common.{ℕ, List, ◌++◌, ap, ◌∙◌, sym, subst, append_assoc, inl, inr}
use Rattle.ssh_wire.specs.Lines.{id_of}
use Rattle.ssh_wire.specs.Reading.{IdReading, Waiting, Heard, Failed, still_allowed}
use Rattle.ssh_wire.specs.declared.error.Error.{Error}
use Rattle.ssh_wire.specs.declared.side.Side.{Side}
use Rattle.ssh_kex.specs.Refusals.{Denies}
use Rattle.ssh_kex.specs.Setting.{Says}
use Rattle.ssh_kex.specs.declared.exchange.ServerHost.{ServerHost}
use Rattle.ssh_rules.specs.Asking.{PartCalls, RefusesAsking}
use Rattle.ssh_rules.specs.Machine.{Event}
use Rattle.ssh_rules.specs.Refusing.{RefusesPiece, RefusesPieceAsking}
use Rattle.ssh_rules.specs.Standing.{HearsBy, HearsFrom, IsNoId, OfFault, OfMemory, OfPacket, OfVersion, ReadsLineFrom, RefusalCause, RefusesInput, Standing, TakesInput, lets_pass, line_with, waiting_with, with_input}

pub kept_line : (side : Side) (line : IdReading) (waiting more piece : List ℕ) (events : List Event) (new : IdReading) (behind : List ℕ) → ReadsLineFrom side line waiting (more ++ piece) events new behind → ReadsLineFrom side (line_with line more) (waiting_with line waiting more) piece events new behind
kept_line side (Waiting bytes others) waiting more piece events new behind h = subst (λ (x : List ℕ). HearsFrom side (id_of (still_allowed (lets_pass side) others) x) x others events new behind) (sym (append_assoc bytes more piece)) h
kept_line side (Heard text) waiting more piece events new behind h = (h.0, h.1, h.2 ∙ sym (append_assoc waiting more piece))
kept_line side Failed waiting more piece events new behind h = absurd h

kept_none : (side : Side) (line : IdReading) (more piece : List ℕ) (events : List Event) → IsNoId side line (more ++ piece) events → IsNoId side (line_with line more) piece events
kept_none side (Waiting bytes others) more piece events h = (h.0, ap (id_of (still_allowed (lets_pass side) others)) (append_assoc bytes more piece) ∙ h.1)
kept_none side (Heard text) more piece events h = absurd h
kept_none side Failed more piece events h = absurd h

kept_hears : (cause : RefusalCause) (t : Standing) (more piece : List ℕ) (events : List Event) (line : IdReading) (behind : List ℕ) → HearsBy cause t (more ++ piece) events line behind → HearsBy cause (with_input t more) piece events line behind
kept_hears (OfFault fault) t more piece events line behind h = kept_line t.side t.line t.waiting more piece events line behind h
kept_hears (OfPacket i) t more piece events line behind h = kept_line t.side t.line t.waiting more piece events line behind h
kept_hears OfVersion t more piece events line behind h = kept_none t.side t.line more piece events h
kept_hears OfMemory t more piece events line behind (inl e) = inl e
kept_hears OfMemory t more piece events line behind (inr h) = inr (kept_line t.side t.line t.waiting more piece events line behind h)

pub takes_kept : (says : Says) (t new : Standing) (more piece : List ℕ) → TakesInput says t (more ++ piece) new → TakesInput says (with_input t more) piece new
takes_kept says t new more piece h = record {
  events = h.events;
  acts = record { side = h.acts.side; config = h.acts.config; steps = h.acts.steps; output = h.acts.output; delivered = h.acts.delivered; quiet = h.acts.quiet; live = h.acts.live };
  input = h.input;
  behind = h.behind;
  line = kept_line t.side t.line t.waiting more piece h.events new.line h.behind h.line;
  read = h.read;
  part = h.part;
  small = h.small;
}

refuses_kept : (says : Says) (t new : Standing) (more piece : List ℕ) (cause : RefusalCause) → RefusesInput says t (more ++ piece) cause new → RefusesInput says (with_input t more) piece cause new
refuses_kept says t new more piece cause h = record {
  at = h.at;
  events = h.events;
  side = h.side;
  config = h.config;
  steps = h.steps;
  input = h.input;
  output = h.output;
  delivered = h.delivered;
  records = h.records;
  failed = h.failed;
  nothing = h.nothing;
  done = h.done;
  line = h.line;
  behind = h.behind;
  heard = kept_hears cause t more piece h.events h.line h.behind h.heard;
  left = h.left;
  read = h.read;
  next = h.next;
}

pub piece_kept : (says : Says) (denies : Denies) (untrusted : ServerHost → Type 0) (t new : Standing) (more piece : List ℕ) (error : Error) → RefusesPiece says denies untrusted t (more ++ piece) error new → RefusesPiece says denies untrusted (with_input t more) piece error new
unfolding refuses_kept
piece_kept says denies untrusted t new more piece error h = record { cause = h.cause; refuses = refuses_kept says t new more piece h.cause h.refuses; answers = h.answers }

pub piece_asking_kept : (says : Says) (denies : Denies) (untrusted : ServerHost → Type 0) (t new : Standing) (more piece : List ℕ) (error : Error) (n n' : PartCalls) → RefusesPieceAsking says denies untrusted t (more ++ piece) error new n n' → RefusesPieceAsking says denies untrusted (with_input t more) piece error new n n'
unfolding piece_kept refuses_kept
piece_asking_kept says denies untrusted t new more piece error n n' h = record { refused = piece_kept says denies untrusted t new more piece error h.refused; asks = h.asks; few = h.few }

-- however it is answered
pub refused_asking : (says : Says) (denies : Denies) (untrusted : ServerHost → Type 0) (old new : Standing) (piece : List ℕ) (error : Error) (n n' : PartCalls) → RefusesPieceAsking says denies untrusted old piece error new n n' → RefusesAsking says old piece new n n'
refused_asking says denies untrusted old new piece error n n' h = record { cause = h.refused.cause; refuses = h.refused.refuses; asks = h.asks; few = h.few }
