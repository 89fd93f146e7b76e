-- What a server's rows refuse is what its stages refuse.
use Rattle.std.proofs.Common.{◌≡◌, ◌∙◌, ap, refl, sym, subst, false, Some, Result, Ok, Err, inl, inr}
use Rattle.std.specs.Prelude.{IfErr}
use Rattle.ssh_negotiate.specs.declared.kex.KexCause.{KexCause}
use Rattle.ssh_negotiate.specs.declared.negotiation.Names.{Names}
use Rattle.ssh_packet.specs.declared.reader.Incoming.{Incoming}
use Rattle.ssh_wire.specs.declared.error.Error.{Error}
use Rattle.ssh_kex.specs.Messages.{is_gex}
use Rattle.ssh_kex.specs.Refusals.{Denies}
use Rattle.ssh_server_kex.specs.ServerAnswers.{ServerRefusesKexinit}
use Rattle.ssh_server_kex.specs.ServerRows.{IsLongAnswer, RefusesRequest, ServerRefusesValue}
use Rattle.ssh_server_kex.specs.ServerViews.{server_drops_guess, server_machine}
use Rattle.ssh_kex.specs.Setting.{Says, group_of}
use Rattle.ssh_kex.specs.Stages.{Machine}
use Rattle.ssh_kex.specs.Stepping.{RefusesStep}
use Rattle.ssh_kex.specs.declared.config.Config.{Config}
use Rattle.ssh_kex.specs.declared.exchange.Exchange.{Exchange}
use Rattle.ssh_kex.specs.declared.progress.KexProgress.{KexProgress}
use Rattle.ssh_server_kex.specs.declared.server_kex.ServerState.{ServerState}
use Rattle.ssh_server_kex.specs.declared.server_kex.ServerState.TheVariants as states
use Rattle.ssh_kex.proofs.Lemmas.{refuses_names}
use Rattle.ssh_server_kex.proofs.ServerSteps.{kept_request, kept_value}

-- a machine at a state that is known
step_refuses : (says : Says) (denies : Denies) (config : Config) (cause : KexCause) (x : Exchange) (state known : ServerState) (m : Machine) (i : Incoming) (e : Error) → server_machine config cause x state ≡ m → state ≡ known → RefusesStep says denies (server_machine config cause x known) (Some i) e → RefusesStep says denies m (Some i) e
step_refuses says denies config cause x state known m i e view is h =
    subst (λ (n : Machine). RefusesStep says denies n (Some i) e) (sym (ap (server_machine config cause x) is) ∙ view) h

-- ---- the client's KEXINIT

kexinit_refuses : (says : Says) (denies : Denies) (config : Config) (cause : KexCause) (x : Exchange) (i : Incoming) (e : Error) → ServerRefusesKexinit says.offers config cause i e → RefusesStep says denies (server_machine config cause x states.Created) (Some i) e
kexinit_refuses says denies config cause x i e h = by h where
  refused : Error → Type 0
  refused error = RefusesStep says denies (server_machine config cause x states.Created) (Some i) error

  by : ServerRefusesKexinit says.offers config cause i e → refused e
  by (inl m) = subst refused (sym m) tt
  by (inr (inl k)) = refuses_names says denies (server_machine config cause x states.Created).setting x.server_kex_init i.seqn i.payload.now e k
  by (inr (inr (k, m))) =
      subst refused (sym m) (
        record { kept = refl; type_is = k.reads.is_kexinit },
        (k.names, record { read = k.reads.read; first = k.reads.first; exchanges = k.exchanges }, k.unoffered),
      )

pub opening_refused : (says : Says) (denies : Denies) (config : Config) (cause : KexCause) (x : Exchange) (state : ServerState) (m : Machine) (i : Incoming) (r : Result (KexProgress Machine) Error) → server_machine config cause x state ≡ m → state ≡ states.Created → IfErr r (ServerRefusesKexinit says.offers config cause i) → IfErr r (λ e. RefusesStep says denies m (Some i) e)
opening_refused says denies config cause x state m i (Ok p) view is h = tt
opening_refused says denies config cause x state m i (Err e) view is h =
    step_refuses says denies config cause x state states.Created m i e view is (kexinit_refuses says denies config cause x i e h)

-- ---- the sizes that a client asks for

request_refuses : (says : Says) (denies : Denies) (config : Config) (cause : KexCause) (x : Exchange) (n : Names) (i : Incoming) (e : Error) → n.ignore_guessed ≡ false → RefusesRequest says.finds denies.lookup i.payload.now e → RefusesStep says denies (server_machine config cause x (states.AwaitsRequest n)) (Some i) e
request_refuses says denies config cause x n i e kept h = by h where
  refused : Error → Type 0
  refused error = RefusesStep says denies (server_machine config cause x (states.AwaitsRequest n)) (Some i) error

  by : RefusesRequest says.finds denies.lookup i.payload.now e → refused e
  by (inl (inl (t, m))) = subst refused (sym m) (inl (refl, record { kept = kept; type_is = t }))
  by (inl (inr (t, (fault, read, m)))) = subst refused (sym m) (record { kept = kept; type_is = t }, read)
  by (inr (inl (t, (sizes, read, denied), m))) =
      subst refused (sym m) (inr (record { kept = kept; type_is = t }, record { sizes = sizes; read = read; denied = denied }))
  by (inr (inr (inl (t, (size, l, k, m))))) =
      subst refused (sym m) (record { kept = kept; type_is = t }, l, record { sizes = k.sizes; group = k.group; read = k.read; finds = k.finds; size = k.size })
  by (inr (inr (inr m))) = subst refused (sym m) tt

pub request_refused : (says : Says) (denies : Denies) (config : Config) (cause : KexCause) (x : Exchange) (state : ServerState) (m : Machine) (n : Names) (i : Incoming) (r : Result (KexProgress Machine) Error) → server_machine config cause x state ≡ m → state ≡ states.AwaitsRequest n → server_drops_guess state ≡ false → IfErr r (RefusesRequest says.finds denies.lookup i.payload.now) → IfErr r (λ e. RefusesStep says denies m (Some i) e)
request_refused says denies config cause x state m n i (Ok p) view is kept h = tt
request_refused says denies config cause x state m n i (Err e) view is kept h =
    step_refuses says denies config cause x state (states.AwaitsRequest n) m i e view is (request_refuses says denies config cause x n i e (kept_request n state is kept) h)

-- ---- a client's value

value_refuses : (says : Says) (denies : Denies) (config : Config) (cause : KexCause) (x : Exchange) (n : Names) (i : Incoming) (e : Error) → n.ignore_guessed ≡ false
    → ServerRefusesValue (is_gex n.kex) (denies.value n.kex (group_of x.gex)) (denies.sign config) (IsLongAnswer (says.server_makes n.kex (group_of x.gex)) says.value_small says.signature_small config n i.payload.now) i.payload.now e
    → RefusesStep says denies (server_machine config cause x (states.AwaitsValue n)) (Some i) e
value_refuses says denies config cause x n i e kept h = by h where
  refused : Error → Type 0
  refused error = RefusesStep says denies (server_machine config cause x (states.AwaitsValue n)) (Some i) error

  by : ServerRefusesValue (is_gex n.kex) (denies.value n.kex (group_of x.gex)) (denies.sign config) (IsLongAnswer (says.server_makes n.kex (group_of x.gex)) says.value_small says.signature_small config n i.payload.now) i.payload.now e → refused e
  by (inl (inl (t, m))) = subst refused (sym m) (inl (refl, record { kept = kept; type_is = t }))
  by (inl (inr (t, (fault, read, m)))) = subst refused (sym m) (record { kept = kept; type_is = t }, read)
  by (inr (t, inl ((value, read, denied), m))) =
      subst refused (sym m) (inr (record { kept = kept; type_is = t }, record { value = value; read = read; denied = denied }))
  by (inr (t, inr (inl ((value, read), denied, m)))) =
      subst refused (sym m) (record { kept = kept; type_is = t }, ((value, read), denied))
  by (inr (t, inr (inr (inl (size, l, k, m))))) =
      subst refused (sym m) (
        record { kept = kept; type_is = t },
        l,
        record {
          value = k.value;
          own_value = k.own_value;
          shown = k.shown;
          signature = k.signature;
          read = k.read;
          presents = k.presents;
          makes = k.makes;
          value_small = k.value_small;
          signature_small = k.signature_small;
          size = k.size_is;
        },
      )
  by (inr (t, inr (inr (inr m)))) = subst refused (sym m) tt

pub value_refused : (says : Says) (denies : Denies) (config : Config) (cause : KexCause) (x : Exchange) (state : ServerState) (m : Machine) (n : Names) (i : Incoming) (r : Result (KexProgress Machine) Error) → server_machine config cause x state ≡ m → state ≡ states.AwaitsValue n → server_drops_guess state ≡ false
    → IfErr r (ServerRefusesValue (is_gex n.kex) (denies.value n.kex (group_of x.gex)) (denies.sign config) (IsLongAnswer (says.server_makes n.kex (group_of x.gex)) says.value_small says.signature_small config n i.payload.now) i.payload.now)
    → IfErr r (λ e. RefusesStep says denies m (Some i) e)
value_refused says denies config cause x state m n i (Ok p) view is kept h = tt
value_refused says denies config cause x state m n i (Err e) view is kept h =
    step_refuses says denies config cause x state (states.AwaitsValue n) m i e view is (value_refuses says denies config cause x n i e (kept_value n state is kept) h)
