-- What was heard, as the id's text in all bytes.
use Rattle.std.proofs.Common.{◌≡◌, ℕ, Bool, List, ◌++◌, length, Option, Some, None, IfSome, Ok, sym, ap, ◌∙◌}
use Rattle.ssh_wire.specs.Lines.{IdFound, NotYet, Id, Version, id_of}
use Rattle.ssh_wire.specs.Reading.{IdReading, Waiting, Heard, Failed, still_allowed, reading_left, Decides, text_heard}
use Rattle.ssh_wire.specs.FromSource.{IdRead, WhileWaiting, Repeats, FindsId, HasId}
use Rattle.ssh_wire.specs.declared.read_id.IdProgress.TheVariants as progress

found_text : (found : IdFound) (had used : ℕ) (left new : IdReading) → Decides found had left (Ok (progress.Id used)) new → (end : ℕ) × (found ≡ Id (text_heard new) end)
found_text NotYet had used left new h = absurd (let q = h.0 in cc)
found_text Version had used left new h = absurd (let q = h.0 in cc)
found_text (Id text end) had used left new h = (end, ap (λ t. Id t end) (sym (ap text_heard h.1)))

-- an id that was heard is that of all bytes
pub heard_id : {R : Type 0} (allow : Bool) (old new : IdRead R) (id : IdReading) (o after : Option (List ℕ)) → id ≡ old.id → WhileWaiting id (IfSome o (λ bytes. FindsId allow id bytes after new.id new.behind)) → Repeats id old (Ok tt) new → IfSome o (λ bytes. HasId allow id bytes (text_heard new.id))
heard_id allow old new id None after e found again = tt
heard_id allow old new (Waiting w others) (Some bytes) after e found again =
    found_text (id_of (still_allowed allow others) (w ++ bytes)) (length w) _ (reading_left (still_allowed allow others) (w ++ bytes) others) new.id found.decides.all
heard_id allow old new (Heard text) (Some bytes) after e found again = ap (λ r. text_heard r.id) again.1 ∙ sym (ap text_heard e)
heard_id allow old new Failed (Some bytes) after e found again = absurd (let q = again.0 in cc)
