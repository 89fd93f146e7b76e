-- Whether a connection was strict before touches neither the kex nor the guess of a reading.
use Rattle.std.proofs.Common.{◌≡◌, ℕ, List, refl, sym, ◌∙◌, ap, Bool, false, Ok, Err}
use Rattle.std.specs.Prelude.{Result}
use Rattle.ssh_negotiate.proofs.Lemmas.{reads_alike}
use Rattle.ssh_negotiate.specs.Advertised.{Offers}
use Rattle.ssh_negotiate.specs.Laws.{but_strict}
use Rattle.ssh_negotiate.specs.Reading.{KexinitFault, names_read}
use Rattle.ssh_negotiate.specs.declared.negotiation.Names.{Names}
use Rattle.ssh_wire.specs.declared.side.Side.{Side}

abbrev AlsoRead : Result Names KexinitFault → Names → Type 0
AlsoRead r n = (m : Names) × (r ≡ Ok m) × (m.ignore_guessed ≡ n.ignore_guessed) × (m.kex ≡ n.kex)

also_read : (r s : Result Names KexinitFault) (n : Names) → but_strict r ≡ but_strict s → r ≡ Ok n → AlsoRead s n
also_read (Ok a) (Ok b) n e f =
    let g : a ≡ n = cc in
    let h : record a { strict_kex = false } ≡ record b { strict_kex = false } = cc in
    (b, refl, ap (λ (m : Names). m.ignore_guessed) (sym h) ∙ ap (λ (m : Names). m.ignore_guessed) g, ap (λ (m : Names). m.kex) (sym h) ∙ ap (λ (m : Names). m.kex) g)
also_read (Ok a) (Err y) n e f = cc
also_read (Err x) s n e f = cc

pub read_alike : (side : Side) (own : Offers) (b c : Bool) (payload : List ℕ) (n : Names) → names_read side own b payload ≡ Ok n → AlsoRead (names_read side own c payload) n
read_alike side own b c payload n e = also_read (names_read side own b payload) (names_read side own c payload) n (reads_alike side own b c payload) e
