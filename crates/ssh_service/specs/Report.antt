-- The text of answers.
use Rattle.std.specs.Prelude.{◌≡◌, ℕ, List, [], ◌∷◌, ◌++◌, codes, refl}
use Rattle.std.specs.Fmt.{decimal, digits}
use Rattle.std.specs.List.{flat_map}
use Rattle.hex.specs.Hex.{encode_with}
use Rattle.ssh_lines.specs.Printed.{error_text, hex_word}
use Rattle.ssh_wire.specs.Reasons.{reason_code}
use Rattle.ssh_wire.specs.declared.disconnect.Disconnect.TheVariants.{ServiceNotAvailable}
use Rattle.ssh_wire.specs.declared.error.EncodingFault.TheVariants.{TrailingData}
use Rattle.ssh_wire.specs.declared.error.Error.TheVariants.{SshEncoding}
use Rattle.ssh_service.specs.declared.answer.ServiceAnswer.{ServiceAnswer}
use Rattle.ssh_service.specs.declared.answer.ServiceAnswer.TheVariants.{Accepted, Bad, Extensions, Other, Refused}

-- what an answer's line has before its end: the message that grants a service, the number of a reason, or the fault
abbrev pub service_answer_word : ServiceAnswer → List ℕ
service_answer_word (Accepted reply) = codes "accepted " ++ hex_word reply
service_answer_word (Refused reason) = codes "refused " ++ decimal (reason_code reason)
service_answer_word Extensions = codes "extensions"
service_answer_word Other = codes "other"
service_answer_word (Bad e) = codes "bad " ++ error_text e

-- the line of an answer
abbrev pub service_answer_line : ServiceAnswer → List ℕ
service_answer_line answer = service_answer_word answer ++ 10 ∷ []

-- a line for each answer
abbrev pub answers_text : List ServiceAnswer → List ℕ
answers_text answers = flat_map service_answer_line answers

text-example : answers_text (Accepted (6 ∷ 0 ∷ []) ∷ Refused ServiceNotAvailable ∷ Extensions ∷ Other
    ∷ Bad (SshEncoding TrailingData) ∷ [])
    ≡ codes "accepted 0600\nrefused 7\nextensions\nother\nbad SshEncoding TrailingData\n"
unfolding encode_with digits
text-example = refl
