-- What a side reads of the peer's KEXINIT, over plain variables.
use Rattle.std.proofs.Common.{◌≡◌, ℕ, List, ◌==◌, refl, sym, ◌∙◌, ap, subst, Bool, true, Option, Some, Result, Ok, Err, ◌⊎◌, arith}
use Rattle.std.proofs.lemmas.Bool.Decides.{nat_tests}
use Rattle.ssh_negotiate.specs.Advertised.{Offers, offers, offers_with}
use Rattle.ssh_negotiate.specs.Preferences.{Preferences, Hosts}
use Rattle.ssh_negotiate.specs.Reading.{KexinitFault, AnswersFault, AnswersReading, names_read}
use Rattle.ssh_negotiate.specs.declared.negotiation.Names.{Names}
use Rattle.ssh_negotiate.specs.declared.preferred.HostKey.{HostKey}
use Rattle.ssh_negotiate.specs.declared.preferred.HostCertificate.{HostCertificate}
use Rattle.ssh_wire.specs.declared.side.Side.{Side}
use Rattle.ssh_wire.specs.declared.side.Side.TheVariants.{Client, Server}
use Rattle.ssh_wire.specs.declared.error.Error.{Error}
use Rattle.ssh_wire.specs.declared.error.Error.TheVariants.{Memory}
use Rattle.ssh_kex.specs.Setting.{offers_of}
use Rattle.ssh_kex.specs.declared.config.Config.{Config}

pub is_kexinit : (t : ℕ) (b : Bool) → b ≡ (t == 20) → b ≡ true → t ≡ 20
is_kexinit t b e f = let g : (t == 20) ≡ true = sym e ∙ f in grind (arith, nat_tests)

-- a client's offers don't hang on keys
pub client_offers : (p : Preferences) (k : Option (List HostKey)) (c : Option (List HostCertificate)) (h : Hosts) → offers Client p h ≡ offers_with Client p k c
unfolding offers_with
client_offers p k c h = refl

-- a server's are those of its configuration's keys
pub server_offers : (config : Config) (p : Preferences) (ks : List HostKey) (cs : List HostCertificate) → p ≡ config.preferred → ks ≡ config.host.keys → cs ≡ config.host.certificates → offers_of Server config ≡ offers_with Server p (Some ks) (Some cs)
server_offers config p ks cs e f g =
    ap (λ q. offers_with Server q (Some config.host.keys) (Some config.host.certificates)) (sym e)
    ∙ ap (λ k. offers_with Server p (Some k) (Some config.host.certificates)) (sym f) ∙ ap (λ k. offers_with Server p (Some ks) (Some k)) (sym g)

pub gives_ok : (side : Side) (o o' : Offers) (still : Bool) (payload : List ℕ) (r : Result Names Error) (n : Names) → o' ≡ o → r ≡ Ok n → AnswersReading (names_read side o still payload) r → names_read side o' still payload ≡ Ok n
gives_ok side o o' still payload r n e f g = ap (λ x. names_read side x still payload) e ∙ subst (AnswersReading (names_read side o still payload)) f g

pub gives_err : (side : Side) (o o' : Offers) (still : Bool) (payload : List ℕ) (r : Result Names Error) (d : Error) → o' ≡ o → r ≡ Err d → AnswersReading (names_read side o still payload) r → (d ≡ Memory) ⊎ ((fault : KexinitFault) × (names_read side o' still payload ≡ Err fault) × AnswersFault fault d)
gives_err side o o' still payload r d e f g = subst (λ x. (d ≡ Memory) ⊎ ((fault : KexinitFault) × (names_read side x still payload ≡ Err fault) × AnswersFault fault d)) (sym e) (subst (AnswersReading (names_read side o still payload)) f g)
