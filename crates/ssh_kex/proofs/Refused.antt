-- A KEXINIT that is refused by its names is a refused message of the first stage.
use Rattle.std.proofs.Common.{◌≡◌, ℕ, List, refl, sym, ◌∙◌, ap, subst, Err, inl, inr}
use Rattle.ssh_negotiate.specs.Reading.{KexinitFault, Inconsistent, Encoding, NoCommon, AnswersFault}
use Rattle.ssh_packet.specs.Stream.{message_type}
use Rattle.ssh_wire.specs.declared.error.Error.{Error}
use Rattle.ssh_kex.specs.Opening.{Reads, RefusesNames}
use Rattle.ssh_kex.specs.Refusals.{Denies, RefusesMessage, kexinit_read}
use Rattle.ssh_kex.specs.Setting.{Says, Setting, offers_of}
use Rattle.ssh_kex.specs.Stages.{Created, ReadsKexinit}
use Rattle.ssh_negotiate.specs.declared.negotiation.Names.{Names}

pub reads_kexinit : (s : Setting) (seqn : ℕ) (payload : List ℕ) (n : Names) → Reads s.side (offers_of s.side s.config) s.cause seqn payload n → ReadsKexinit s seqn payload n
reads_kexinit s seqn payload n r = record { is_kexinit = r.is_kexinit; read = r.read; first = r.first }

by_fault : (says : Says) (denies : Denies) (s : Setting) (own : List ℕ) (seqn : ℕ) (payload : List ℕ) (e : Error) (fault : KexinitFault) → message_type payload ≡ 20 → kexinit_read s payload ≡ Err fault → AnswersFault fault e → RefusesMessage says denies s (Created own) seqn payload e
by_fault says denies s own seqn payload e Inconsistent t r a = subst (RefusesMessage says denies s (Created own) seqn payload) (sym a) (record { kept = refl; type_is = t }, (own, refl), r)
by_fault says denies s own seqn payload e (Encoding f) t r a = subst (RefusesMessage says denies s (Created own) seqn payload) (sym a) (record { kept = refl; type_is = t }, r)
by_fault says denies s own seqn payload e (NoCommon kind ours theirs) t r a =
    subst (RefusesMessage says denies s (Created own) seqn payload) (sym a.2)
    (record { kept = refl; type_is = t }, (own, refl), r ∙ (ap (λ x. Err (NoCommon kind x theirs)) (sym a.3) ∙ ap (λ x. Err (NoCommon kind (a.0).0.items x)) (sym a.4)))

pub refuses_names : (says : Says) (denies : Denies) (s : Setting) (own : List ℕ) (seqn : ℕ) (payload : List ℕ) (e : Error) → RefusesNames s.side (offers_of s.side s.config) s.cause seqn payload e → RefusesMessage says denies s (Created own) seqn payload e
refuses_names says denies s own seqn payload e (inl h) = subst (RefusesMessage says denies s (Created own) seqn payload) (sym h.1) (inl (refl, record { kept = refl; type_is = h.0 }))
refuses_names says denies s own seqn payload e (inr (inl (t, inl m))) = subst (RefusesMessage says denies s (Created own) seqn payload) (sym m) tt
refuses_names says denies s own seqn payload e (inr (inl (t, inr f))) = by_fault says denies s own seqn payload e f.0 t f.1 f.2
refuses_names says denies s own seqn payload e (inr (inr h)) = subst (RefusesMessage says denies s (Created own) seqn payload) (sym h.2) (record { kept = refl; type_is = h.0 }, h.1, refl, refl)
