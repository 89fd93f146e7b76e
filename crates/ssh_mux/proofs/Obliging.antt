-- Where the parts of a run oblige, its link refuses for want of memory alone.
use Rattle.std.proofs.Common.{◌≡◌, ◌⊎◌, inl, inr, Bool, true, false, [], Option, Some, None, Result, Ok, Err, refl, sym, ap, ◌∙◌}
use Rattle.ssh_wire.specs.declared.error.AlgorithmKind.{AlgorithmKind}
use Rattle.ssh_wire.specs.declared.error.ConfigFault.{ConfigFault}
use Rattle.ssh_wire.specs.declared.error.Error.{Error}
use Rattle.ssh_wire.specs.declared.error.Error.TheVariants as errors
use Rattle.ssh_wire.specs.declared.side.Side.{Side}
use Rattle.ssh_wire.specs.declared.side.Side.TheVariants.{Client, Server}
use Rattle.ssh_negotiate.specs.declared.kex.Name as kexes
use Rattle.ssh_negotiate.specs.declared.negotiation.Names.{Names}
use Rattle.ssh_kex.specs.Fields.{IsOutside}
use Rattle.ssh_kex.specs.declared.config.Config.{Config}
use Rattle.ssh_kex.specs.declared.group.DhGroup.{DhGroup}
use Rattle.ssh_rules.specs.Headline.{chosen_by, kind_by}
use Rattle.ssh_rules.specs.LinkCauses.{IsCauseOf, Rises}
use Rattle.ssh_rules.specs.Valid.{config_fault, first_config_fault}
use Rattle.ssh_run.specs.RefusedCarrying.{IsConfigFault}
use Rattle.ssh_run.specs.RunCauses.{IsValidRun}
use Rattle.ssh_mux.specs.Causes.{IsLinkCause}
use Rattle.ssh_mux.specs.Stopping.{IsWanting}
use Rattle.ssh_mux.specs.declared.fault.RunFault.TheVariants.{Link}
use Rattle.ssh_mux.proofs.Stopping.{memory_wanting}

no_fault : (x y : Option ConfigFault) (f : ConfigFault) → x ≡ None → y ≡ None → first_config_fault x y ≡ Some f → ⊥
no_fault None None f p q h = cc
no_fault None (Some b) f p q h = cc
no_fault (Some a) y f p q h = cc

no_config : (config : Side → Config) (offered : Side → kexes.Name → Bool) (e : Error) → IsValidRun config offered [] → IsConfigFault (config Client) (config Server) e → ⊥
no_config config offered e v f = no_fault (config_fault Client (config Client)) (config_fault Server (config Server)) f.fault (v.valid Client) (v.valid Server) f.first

one_names : (a b : Names) → (let x : Result Names AlgorithmKind = Ok a in x) ≡ Ok b → a ≡ b
one_names a b e = cc

no_offer : (o : kexes.Name → Bool) (r : Result Names AlgorithmKind) (a b : Names) → r ≡ Ok a → r ≡ Ok b → o b.kex ≡ true → o a.kex ≡ false → ⊥
no_offer o r a b p q t f = (let same = one_names a b (sym p ∙ q) in let z : true ≡ false = sym t ∙ (ap (λ (n : Names). o n.kex) (sym same) ∙ f) in cc)

no_kind : (r : Result Names AlgorithmKind) (a : Names) (k : AlgorithmKind) → r ≡ Ok a → r ≡ Err k → ⊥
no_kind (Ok b) a k p q = cc
no_kind (Err b) a k p q = cc

-- no count of a part rose that counts as a cause
pub record NoneRises (rises : Side → Rises) : Type 0 where
  pub agreement : (side : Side) → (rises side).agreement → ⊥
  pub lookup : (rises Server).lookup → ⊥
  pub signing : (rises Server).signing → ⊥
  pub verifying : (rises Client).verifying → ⊥
  pub checking : (rises Client).checking → ⊥

part : (rises : Side → Rises) (config : Side → Config) (offered : Side → kexes.Name → Bool) (group : DhGroup) → IsValidRun config offered [] → NoneRises rises → (kind_by (chosen_by (config Client) (config Server)) ≡ true → IsOutside (config Client).gex group → ⊥) → (side : Side) (e : Error)
    → IsCauseOf (rises side) side config (offered side) group e → e ≡ errors.Memory
part rises config offered group v n inside side errors.Memory h = refl
part rises config offered group v n inside side errors.KexInit h = absurd (inside h.0 h.1)
part rises config offered group v n inside side errors.UnknownAlgo h = absurd (no_offer (offered side) (chosen_by (config Client) (config Server)) h.names v.names h.chosen v.chosen (v.offers side) h.none)
part rises config offered group v n inside side (errors.NoCommonAlgo kind ours theirs) h = absurd (no_kind (chosen_by (config Client) (config Server)) v.names kind v.chosen h.none)
part rises config offered group v n inside side errors.Kex (inl h) = absurd (n.agreement side h)
part rises config offered group v n inside Server errors.Kex (inr h) = absurd (n.lookup h.1)
part rises config offered group v n inside Client errors.Kex (inr h) = absurd (let z : Client ≡ Server = h.0 in cc)
part rises config offered group v n inside Client errors.UnknownKey h = absurd (n.checking h.1)
part rises config offered group v n inside Server errors.UnknownKey h = absurd (let z : Server ≡ Client = h.0 in cc)
part rises config offered group v n inside Client errors.WrongServerSig h = absurd (n.verifying h.1)
part rises config offered group v n inside Server errors.WrongServerSig h = absurd (let z : Server ≡ Client = h.0 in cc)
part rises config offered group v n inside Server errors.Signature h = absurd (n.signing h.1)
part rises config offered group v n inside Client errors.Signature h = absurd (let z : Client ≡ Server = h.0 in cc)
part rises config offered group v n inside side errors.Version h = absurd h
part rises config offered group v n inside side errors.PacketAuth h = absurd h
part rises config offered group v n inside side errors.Inconsistent h = absurd h
part rises config offered group v n inside side errors.IndexOutOfBounds h = absurd h
part rises config offered group v n inside side (errors.PacketSize k) h = absurd h
part rises config offered group v n inside side errors.Disconnect h = absurd h
part rises config offered group v n inside side errors.DecryptionError h = absurd h
part rises config offered group v n inside side errors.IO h = absurd h
part rises config offered group v n inside side (errors.StrictKeyExchangeViolation type place) h = absurd h
part rises config offered group v n inside side (errors.SshEncoding fault) h = absurd h
part rises config offered group v n inside side (errors.InvalidConfig fault) h = absurd h

pub memory_only : (rises : Side → Rises) (config : Side → Config) (offered : Side → kexes.Name → Bool) (group : DhGroup) (e : Error) → IsValidRun config offered [] → NoneRises rises → (kind_by (chosen_by (config Client) (config Server)) ≡ true → IsOutside (config Client).gex group → ⊥)
    → IsLinkCause rises config offered group e → e ≡ errors.Memory
memory_only rises config offered group e v n inside (inl m) = m
memory_only rises config offered group e v n inside (inr (inl f)) = absurd (no_config config offered e v f)
memory_only rises config offered group e v n inside (inr (inr p)) = part rises config offered group v n inside p.0 e p.1

-- a run that is refused before its first step
pub new_wanting : (config : Side → Config) (offered : Side → kexes.Name → Bool) (e : Error) → IsValidRun config offered [] → (e ≡ errors.Memory) ⊎ IsConfigFault (config Client) (config Server) e → IsWanting (Link e)
new_wanting config offered e v (inl m) = memory_wanting e m
new_wanting config offered e v (inr f) = absurd (no_config config offered e v f)
