-- Bytes that are written in several turns.
use Rattle.std.proofs.Common.{◌≡◌, ℕ, ◌+◌, List, ◌++◌, take, drop, Option, Some, None, sym, subst, ap, ◌∙◌, append_assoc}
use Rattle.std.proofs.Math.Seq.{take-add}
use Rattle.ssh_wire.specs.Outside.{Appends}

-- a front of the text that was written, and a front of the rest
pub front_longer : (text rest : List ℕ) (n k : ℕ) (old mid new : Option (List ℕ)) → rest ≡ drop n text → Appends (take n text) old mid → Appends (take k rest) mid new → Appends (take (n + k) text) old new
front_longer text rest n k None mid new r h j = tt
front_longer text rest n k (Some held) mid new r h j =
    let more = subst (λ m. Appends (take k rest) m new) h j in
    more ∙ ap Some (append_assoc held (take n text) (take k rest) ∙ ap (λ bytes. held ++ bytes) (ap (λ left. take n text ++ take k left) r ∙ sym (take-add n k text)))
