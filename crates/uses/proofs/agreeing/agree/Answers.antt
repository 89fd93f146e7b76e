use Rattle.std.proofs.Common.{◌≡◌, ◌∙◌, ℕ, Bool, Err, List, Ok, Result, ap, subst, sym}
use Rattle.std.specs.Option.{option_copied}
use Rattle.std.specs.Result.{IsErrAnd}
use Rattle.ssh_kex.specs.Parts.{IsRefused}
use Rattle.ssh_kex.specs.declared.parts.Refusal.{Refusal}
use Rattle.ssh_kex.specs.declared.parts.Refusal.TheVariants.{Memory, Refused}
use Rattle.ssh_negotiate.specs.declared.kex.Name.{Name as KexName}
use Rattle.uses.proofs.agreeing.agree.Goals as goal

-- a refusal that is handed on is one
is_refused : {T : Type 0} (U : Type 0) (r : Result T Refusal) (e : Refusal) → IsErrAnd r (λ x. x ≡ e) → IsRefused r → IsRefused (let q : Result U Refusal = Err e in q)
is_refused {T} U (Ok x) e h k = absurd k
is_refused {T} U (Err x) e h k = subst (λ z. IsRefused (let q : Result U Refusal = Err z in q)) h (by x k) where
  by : (z : Refusal) → IsRefused (let q : Result T Refusal = Err z in q) → IsRefused (let q : Result U Refusal = Err z in q)
  by Refused l = l
  by Memory l = l

pub returns-in_err-secret-clause-never : goal.returns-in_err-secret-clause-never
returns-in_err-secret-clause-never g c = λ s oc os i f h r.
    let la = g.met.A.Agreement.obliging_lawful c.args.client.now c.client_agree.new.self s _ oc in
    let ls = g.met.A.Agreement.obliging_lawful c.args.server.now c.server_agree.new.self s _ os in
    let m = c.in_ok-started.ensures.made s la in
    let n = c.in_ok-agreed.ensures.made s ls in
    c.in_err-secret.ensures.never s c.in_ok-started.started.public (c.client_start.ensures.keeps.obliging_kept c.client_agree.new.self s _ oc) i (ap (λ (z : KexName → Bool). z c.args.name) c.client_start.ensures.keeps.offered_kept ∙ f)
    (subst (λ z. g.A.Agreement.client_makes c.args.name (option_copied c.args.group) z c.in_ok-started.started.public) (sym c.as_slice-2.ensures) m.0)
    (subst (λ z. g.A.Agreement.server_makes c.args.name (option_copied c.args.group) c.in_ok-started.started.public z) (sym c.as_slice-3.ensures)
    (subst (λ z. g.A.Agreement.server_makes c.args.name (option_copied c.args.group) z c.in_ok-agreed.agreed.public) c.as_slice.ensures n.0))
    (is_refused (List ℕ) c.from_residual-in_err-secret.result c.in_err-secret.field-0.0 c.from_residual-in_err-secret.ensures.1 r)
