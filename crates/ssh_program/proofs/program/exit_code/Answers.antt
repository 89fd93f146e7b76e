use Rattle.std.proofs.Common.{◌≡◌, ◌∙◌, inl, inr, sym, subst}
use Rattle.std.specs.Process.{exit_status}
use Rattle.ssh_program.specs.Programs.{HasOneStatus, IsCommand, IsReading}
use Rattle.ssh_program.proofs.OneWords.{one_words}
use Rattle.ssh_program.proofs.program.exit_code.Goals as goal

pub returns-in-Ok-clause-answered : goal.returns-in-Ok-clause-answered
returns-in-Ok-clause-answered g c read memory =
    let e : exit_status c.from.result ≡ c.run_program.result.status = c.from.ensures in
    let a = c.run_program.ensures.answered (λ h. read (rw e h)) (λ h. memory (rw e h)) in
    (c.as_slice.result.now, rw c.as_slice.ensures.value c.in-Ok.ensures, (c.run_program.result.answer, a.0, rw e a.1))

pub returns-in-Ok-clause-usage : goal.returns-in-Ok-clause-usage
returns-in-Ok-clause-usage g c words are none =
    let e : exit_status c.from.result ≡ c.run_program.result.status = c.from.ensures in
    let same : words ≡ c.as_slice.result.now = one_words c.args.arguments words c.as_slice.result.now are (rw c.as_slice.ensures.value c.in-Ok.ensures) in
    elim (c.run_program.ensures.usage (λ w. none (subst (IsCommand g.P.Program.command_in) (sym same) w))) [ inl h ↦ inl (e ∙ h) | inr h ↦ inr (inl (e ∙ h)) ]

pub returns-in-Ok-clause-unread : goal.returns-in-Ok-clause-unread
returns-in-Ok-clause-unread g c words are none =
    let same : words ≡ c.as_slice.result.now = one_words c.args.arguments words c.as_slice.result.now are (rw c.as_slice.ensures.value c.in-Ok.ensures) in
    c.run_program.ensures.unread (λ r. none (subst (IsReading g.P.Program.command_in g.P.Program.reads) (sym same) r))

pub returns-in-Ok-clause-one : goal.returns-in-Ok-clause-one
returns-in-Ok-clause-one g c words told are one read sink =
    let e : exit_status c.from.result ≡ c.run_program.result.status = c.from.ensures in
    let same : words ≡ c.as_slice.result.now = one_words c.args.arguments words c.as_slice.result.now are (rw c.as_slice.ensures.value c.in-Ok.ensures) in
    let status = c.run_program.ensures.one told (subst (λ w. HasOneStatus g.P.Program.command_in g.P.Program.reads g.P.Program.answers g.P.Program.status_for w (g.S.Source.left c.args.source.now) told) same one) (λ h. read (e ∙ h)) (λ h. sink (e ∙ h)) in
    elim status [ inl h ↦ inl (e ∙ h) | inr h ↦ inr (e ∙ h) ]
