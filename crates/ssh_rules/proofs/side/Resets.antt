-- Where the machine of an exchange says that numbers begin again behind an own NEWKEYS, the record that it made is
-- strict.
use Rattle.std.proofs.Common.{◌≡◌, ℕ, List, ◌++◌, [], ◌∷◌, refl, sym, ◌∙◌, ap, Bool, true, false, ◌||◌, if◌then◌else◌, Option}
use Rattle.ssh_wire.specs.declared.side.Side.{Side}
use Rattle.ssh_wire.specs.declared.side.Side.TheVariants.{Client, Server}
use Rattle.ssh_negotiate.specs.Causes.{was_strict}
use Rattle.ssh_negotiate.specs.declared.negotiation.Names.{Names}
use Rattle.ssh_kex.specs.Messages.{newkeys}
use Rattle.ssh_kex.specs.Setting.{Says, Setting, offers_of, held_names, behind_guess}
use Rattle.ssh_kex.specs.Stages.{Stage, Created, AwaitsGroup, AwaitsReply, AwaitsRequest, AwaitsValue, AwaitsNewkeys, resets}
use Rattle.ssh_kex.specs.declared.exchange.Exchange.{Exchange}
use Rattle.ssh_kex.specs.declared.exchange.FinishedExchange.{FinishedExchange}
use Rattle.ssh_kex.specs.declared.exchange.ServerHost.{ServerHost}
use Rattle.ssh_rules.proofs.side.StageFits.{FitsStage}
use Rattle.ssh_rules.specs.Machine.{Inside, strict_now}
use Rattle.ssh_rules.specs.Made.{MadeBy}
use Rattle.ssh_negotiate.proofs.Lemmas.{read_flags}

held_strict : (n : Names) → (held_names n).strict_kex ≡ n.strict_kex
held_strict n = by n.ignore_guessed where
  by : (b : Bool) → (if b then behind_guess n else n).strict_kex ≡ n.strict_kex
  by true = refl
  by false = refl

or_same : (a b : Bool) → (b ≡ true → a ≡ true) → (a || b) ≡ a
or_same true b h = refl
or_same false true h = sym (h refl)
or_same false false h = refl

made_strict : (side : Side) (says : Says) (s : Setting) (own theirs : List (List ℕ)) (exchange : Exchange) (x : FinishedExchange) (host : Option ServerHost) → MadeBy side says s own theirs exchange x host → was_strict s.cause ≡ true → x.names.strict_kex ≡ true
made_strict Client says s own theirs exchange x host m w = ap (λ (y : FinishedExchange). y.names.strict_kex) m.made ∙ (ap (λ (n : Names). n.strict_kex) m.names_are ∙ (held_strict m.read_names ∙ (read_flags Client (offers_of Client s.config) (was_strict s.cause) exchange.server_kex_init m.read_names m.read).strict w))
made_strict Server says s own theirs exchange x host m w = ap (λ (y : FinishedExchange). y.names.strict_kex) m.made ∙ (ap (λ (n : Names). n.strict_kex) m.names_are ∙ (held_strict m.read_names ∙ (read_flags Server (offers_of Server s.config) (was_strict s.cause) exchange.client_kex_init m.read_names m.read).strict w))

pub resets_is : (says : Says) (s : Setting) (stage : Stage) (own theirs : List (List ℕ)) → FitsStage says s stage own theirs → resets s.cause stage ≡ strict_now (Inside stage)
resets_is says s (Created k) own theirs f = refl
resets_is says s (AwaitsGroup o) own theirs f = refl
resets_is says s (AwaitsReply o gex local public) own theirs f = refl
resets_is says s (AwaitsRequest o) own theirs f = refl
resets_is says s (AwaitsValue o gex) own theirs f = refl
resets_is says s (AwaitsNewkeys exchange made host) own theirs f = or_same made.names.strict_kex (was_strict s.cause) (made_strict s.side says s own (theirs ++ newkeys ∷ []) exchange made host f)
