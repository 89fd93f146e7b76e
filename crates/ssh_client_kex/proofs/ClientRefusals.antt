-- What a client's rows refuse is what its stages refuse.
use Rattle.std.proofs.Common.{◌≡◌, ◌∙◌, ap, refl, sym, subst, false, None, Some, Result, Ok, Err, ◌⊎◌, inl, inr}
use Rattle.std.specs.Prelude.{IfErr}
use Rattle.ssh_negotiate.specs.Tables.{shape_of}
use Rattle.ssh_negotiate.specs.declared.kex.KexCause.{KexCause}
use Rattle.ssh_negotiate.specs.declared.negotiation.Names.{Names}
use Rattle.ssh_packet.specs.declared.reader.Incoming.{Incoming}
use Rattle.ssh_wire.specs.declared.error.Error.{Error}
use Rattle.ssh_wire.specs.declared.error.Error.TheVariants as errors
use Rattle.ssh_wire.specs.declared.side.Side.TheVariants.{Client}
use Rattle.ssh_client_kex.specs.ClientRows as rows
use Rattle.ssh_client_kex.specs.ClientViews.{client_machine, client_setting, client_stage}
use Rattle.ssh_kex.specs.Messages.{is_gex}
use Rattle.ssh_kex.specs.Opening.{Reads}
use Rattle.ssh_kex.specs.Refusals.{Denies, Negotiates, RefusesMessage}
use Rattle.ssh_kex.specs.Fields.{IsInside, IsOutside}
use Rattle.ssh_kex.specs.Setting.{Says, offers_of}
use Rattle.ssh_kex.specs.Stages.{Machine, Created}
use Rattle.ssh_kex.specs.Stepping.{RefusesStep}
use Rattle.ssh_client_kex.specs.declared.client_kex.ClientState.{ClientState}
use Rattle.ssh_client_kex.specs.declared.client_kex.ClientState.TheVariants as states
use Rattle.ssh_kex.specs.declared.config.Config.{Config}
use Rattle.ssh_kex.specs.declared.exchange.Exchange.{Exchange}
use Rattle.ssh_kex.specs.declared.progress.KexProgress.{KexProgress}
use Rattle.ssh_client_kex.proofs.Faults.{fault_of}
use Rattle.ssh_kex.proofs.Lemmas.{refuses_names}

negotiates : (config : Config) (cause : KexCause) (x : Exchange) (i : Incoming) (n : Names) → Reads Client (offers_of Client config) cause i.seqn i.payload.now n → (shape_of n.kex).skip ≡ false → Negotiates (client_setting config cause x) i.seqn i.payload.now n
negotiates config cause x i n reads exchanges = record { read = reads.read; first = reads.first; exchanges = exchanges }

behind_kexinit : (says : Says) (denies : Denies) (config : Config) (cause : KexCause) (x : Exchange) (i : Incoming) (e : Error) → rows.RefusesBehind says.offers (λ k l v. says.client_makes k None l v) says.value_small (λ k. denies.start k None) config cause i e → RefusesMessage says denies (client_setting config cause x) (Created x.client_kex_init) i.seqn i.payload.now e
behind_kexinit says denies config cause x i e h = by h.why where
  refused : Error → Type 0
  refused error = RefusesMessage says denies (client_setting config cause x) (Created x.client_kex_init) i.seqn i.payload.now error

  by : ((says.offers h.names.kex → ⊥) × (e ≡ errors.UnknownAlgo)) ⊎ (says.offers h.names.kex × (is_gex h.names.kex ≡ false) × rows.ClientRefusesValue (λ l v. says.client_makes h.names.kex None l v) says.value_small (denies.start h.names.kex None) e) → refused e
  by (inl k) = subst refused (sym k.1) (record { kept = refl; type_is = h.reads.is_kexinit }, (h.names, negotiates config cause x i h.names h.reads h.exchanges, k.0))
  by (inr (offered, plain, inl m)) = subst refused (sym m) tt
  by (inr (offered, plain, inr (inl k))) =
      subst refused (sym k.0) (inr (
        record { kept = refl; type_is = h.reads.is_kexinit },
        record {
          names = h.names;
          reads = negotiates config cause x i h.names h.reads h.exchanges;
          offered = offered;
          plain = plain;
          client = refl;
          denied = k.1;
        },
      ))
  by (inr (offered, plain, inr (inr k))) =
      subst refused (sym k.error_is) (
        record { kept = refl; type_is = h.reads.is_kexinit },
        k.long,
        record {
          names = h.names;
          reads = negotiates config cause x i h.names h.reads h.exchanges;
          offered = offered;
          plain = plain;
          client = refl;
          long = record { local = k.local; public = k.value; makes = k.made; small = k.small_value; size = refl };
        },
      )

kexinit_refuses : (says : Says) (denies : Denies) (config : Config) (cause : KexCause) (x : Exchange) (i : Incoming) (e : Error) → rows.ClientRefusesKexinit says.offers (λ k l v. says.client_makes k None l v) says.value_small (λ k. denies.start k None) config cause i e → RefusesMessage says denies (client_setting config cause x) (Created x.client_kex_init) i.seqn i.payload.now e
kexinit_refuses says denies config cause x i e (inl m) = subst (RefusesMessage says denies (client_setting config cause x) (Created x.client_kex_init) i.seqn i.payload.now) (sym m) tt
kexinit_refuses says denies config cause x i e (inr (inl h)) = refuses_names says denies (client_setting config cause x) x.client_kex_init i.seqn i.payload.now e h
kexinit_refuses says denies config cause x i e (inr (inr h)) = behind_kexinit says denies config cause x i e h

-- the same of a step
pub step_refuses : (says : Says) (denies : Denies) (config : Config) (cause : KexCause) (x : Exchange) (state known : ClientState) (m : Machine) (i : Incoming) (e : Error) → client_machine config cause x state ≡ m → state ≡ known → RefusesMessage says denies (client_setting config cause x) (client_stage x known) i.seqn i.payload.now e → RefusesStep says denies m (Some i) e
step_refuses says denies config cause x state known m i e view is h =
    subst (λ (n : Machine). RefusesStep says denies n (Some i) e) (sym (ap (client_machine config cause x) is) ∙ view) h

pub kexinit_refused : (says : Says) (denies : Denies) (config : Config) (cause : KexCause) (x : Exchange) (state : ClientState) (m : Machine) (i : Incoming) (r : Result (KexProgress Machine) Error) → client_machine config cause x state ≡ m → state ≡ states.Created → IfErr r (rows.ClientRefusesKexinit says.offers (λ k l v. says.client_makes k None l v) says.value_small (λ k. denies.start k None) config cause i) → IfErr r (λ e. RefusesStep says denies m (Some i) e)
kexinit_refused says denies config cause x state m i (Ok p) view is h = tt
kexinit_refused says denies config cause x state m i (Err e) view is h =
    step_refuses says denies config cause x state states.Created m i e view is (kexinit_refuses says denies config cause x i e h)

-- ---- the group

group_refuses : (says : Says) (denies : Denies) (config : Config) (cause : KexCause) (x : Exchange) (n : Names) (i : Incoming) (e : Error) → n.ignore_guessed ≡ false → rows.RefusesGroup (λ g l v. says.client_makes n.kex (Some g) l v) says.value_small (λ g. denies.start n.kex (Some g)) config i.payload.now e → RefusesMessage says denies (client_setting config cause x) (client_stage x (states.AwaitsGroup n)) i.seqn i.payload.now e
group_refuses says denies config cause x n i e kept h = by h where
  refused : Error → Type 0
  refused error = RefusesMessage says denies (client_setting config cause x) (client_stage x (states.AwaitsGroup n)) i.seqn i.payload.now error

  by : rows.RefusesGroup (λ g l v. says.client_makes n.kex (Some g) l v) says.value_small (λ g. denies.start n.kex (Some g)) config i.payload.now e → refused e
  by (inl m) = subst refused (sym m) tt
  by (inr (inl k)) = subst refused (sym k.1) (inl (refl, record { kept = kept; type_is = k.0 }))
  by (inr (inr (inl k))) =
      let f = fault_of _ e k.1 in subst refused (sym f.2) (record { kept = kept; type_is = k.0 }, f.1)
  by (inr (inr (inr k))) = behind k.why where
    behind : (IsOutside config.gex k.group × (e ≡ errors.KexInit)) ⊎ (IsInside config.gex k.group × rows.ClientRefusesValue (λ l v. says.client_makes n.kex (Some k.group) l v) says.value_small (denies.start n.kex (Some k.group)) e) → refused e
    behind (inl o) = subst refused (sym o.1) (inr (record { kept = kept; type_is = k.type_is }, (k.group, k.read, o.0)))
    behind (inr (inside, inl m)) = subst refused (sym m) tt
    behind (inr (inside, inr (inl d))) =
        subst refused (sym d.0) (inr (record { kept = kept; type_is = k.type_is }, record { group = k.group; read = k.read; inside = inside; denied = d.1 }))
    behind (inr (inside, inr (inr l))) =
        subst refused (sym l.error_is) (record { kept = kept; type_is = k.type_is }, l.long, (k.group, k.read, record { local = l.local; public = l.value; makes = l.made; small = l.small_value; size = refl }))

pub group_refused : (says : Says) (denies : Denies) (config : Config) (cause : KexCause) (x : Exchange) (n : Names) (state : ClientState) (m : Machine) (i : Incoming) (r : Result (KexProgress Machine) Error) → client_machine config cause x state ≡ m → state ≡ states.AwaitsGroup n → n.ignore_guessed ≡ false → IfErr r (rows.RefusesGroup (λ g l v. says.client_makes n.kex (Some g) l v) says.value_small (λ g. denies.start n.kex (Some g)) config i.payload.now) → IfErr r (λ e. RefusesStep says denies m (Some i) e)
group_refused says denies config cause x n state m i (Ok p) view is kept h = tt
group_refused says denies config cause x n state m i (Err e) view is kept h =
    step_refuses says denies config cause x state (states.AwaitsGroup n) m i e view is (group_refuses says denies config cause x n i e kept h)
