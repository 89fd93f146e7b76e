-- A service that is asked for over a link, and extensions that its server tells.
use Rattle.std.specs.Prelude.{◌≡◌, ℕ, List, [], ◌∷◌}
use Rattle.ssh_rules.specs.declared.link.Step.{Step}
use Rattle.ssh_rules.specs.declared.link.Step.TheVariants.{Settle, Submit}
use Rattle.ssh_service.specs.Messages.{IsMessage, spelling}
use Rattle.ssh_service.specs.declared.answer.ServiceAnswer.TheVariants.{Accepted}
use Rattle.ssh_service.specs.declared.info.Extension.{Extension}
use Rattle.ssh_service.specs.declared.message.ServiceMessage.{ServiceMessage}
use Rattle.ssh_service.specs.declared.message.ServiceMessage.TheVariants.{Accept, Info, Request}
use Rattle.ssh_wire.specs.declared.side.Side.TheVariants.{Client, Server}
use Rattle.uses.specs.declared.granted.Granted.{Granted}

-- After the first exchange the server tells its extensions and the client asks for the service. Then the server grants
-- it.
abbrev pub granting_steps : List ℕ → List Extension → List Step
granting_steps name extensions =
    Settle ∷ Submit Server (spelling (Info extensions)) ∷ Submit Client (spelling (Request name)) ∷ Settle
    ∷ Submit Server (spelling (Accept name)) ∷ Settle ∷ []

-- The server granted the service, once, by the message that the client read behind the extensions.
pub record IsGranted (name : List ℕ) (extensions : List Extension) (granted : Granted) : Type 0 where
  pub answers : granted.answers.items ≡ Accepted (spelling (Accept name)) ∷ []
  pub told : granted.told.items ≡ Info extensions ∷ Accept name ∷ []

-- each of them is a message
abbrev pub AreMessages : List ServiceMessage → Type 0
AreMessages [] = Unit {0}
AreMessages (m ∷ ms) = IsMessage m × AreMessages ms
