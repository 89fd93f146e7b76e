-- What a row of a machine sends.
use Rattle.std.proofs.Common.{◌≡◌, ◌∙◌, ap, subst, List, ℕ, [], ◌++◌}
use Rattle.ssh_packet.specs.Writing.{Writer}
use Rattle.ssh_kex.specs.Messages.{request_message}
use Rattle.ssh_kex.specs.Stepping.{Puts}
use Rattle.ssh_kex.specs.declared.group.GexParams.{GexParams}

pub puts_asked : (w w' : Writer) (bytes items start : List ℕ) (sizes : GexParams) → bytes ≡ items → items ≡ start ++ request_message sizes → start ≡ [] → Puts w bytes w' → Puts w (request_message sizes) w'
puts_asked w w' bytes items start sizes e f g h = subst (λ b. Puts w b w') (e ∙ (f ∙ ap (λ s. s ++ request_message sizes) g)) h
