-- The names that a client takes from a server's KEXINIT are those that both configurations choose.
use Rattle.std.proofs.Common.{◌≡◌, ℕ, Bool, true, false, List, Result, Ok, Err, Option, Some, None, refl, sym, ap, ◌∙◌}
use Rattle.ssh_wire.specs.declared.error.AlgorithmKind.{AlgorithmKind}
use Rattle.ssh_wire.specs.declared.error.ConfigFault.{ConfigFault}
use Rattle.ssh_wire.specs.declared.side.Side.TheVariants.{Client, Server}
use Rattle.ssh_negotiate.specs.Advertised.{Offers}
use Rattle.ssh_negotiate.specs.Laws.{kept_strict, side_answer}
use Rattle.ssh_negotiate.specs.declared.negotiation.Names.{Names}
use Rattle.ssh_negotiate.proofs.Lemmas.{names_agree}
use Rattle.ssh_kex.specs.Setting.{offers_of}
use Rattle.ssh_kex.specs.declared.config.Config.{Config}
use Rattle.ssh_rules.specs.Headline.{chosen_by}
use Rattle.ssh_negotiate.specs.Tables.{shape_of}
use Rattle.ssh_rules.specs.Valid.{config_fault, first_config_fault}
use Rattle.ssh_transport.proofs.Lemmas.{never_skips}
use Rattle.ssh_transcript.specs.Choosing.{ChooseNone, IsKexinitOf, IsSettingOf, TakesNames}
use Rattle.ssh_transcript.specs.declared.setting.Setting.{Setting}

answer_is : (own peer : Offers) (r : Result Names AlgorithmKind) (n : Names) → side_answer false own peer r ≡ Ok n → r ≡ Ok n
answer_is own peer (Ok m) n e = let g : kept_strict false m ≡ n = cc in ap Ok g
answer_is own peer (Err kind) n e = cc

agreed : (client server : Config) (a b : List ℕ) (n : Names) → IsKexinitOf (offers_of Client client) a → IsKexinitOf (offers_of Server server) b
    → (side_answer false (offers_of Client client) (offers_of Server server) (chosen_by client server) ≡ Ok n → TakesNames client b n)
    × (TakesNames client b n → side_answer false (offers_of Client client) (offers_of Server server) (chosen_by client server) ≡ Ok n)
agreed client server a b n own other =
    let e = (names_agree (offers_of Client client) (offers_of Server server) false other.cookie own.within other.within other.sixteen).0 in
    (λ h. rw other.spelled (e ∙ h), λ h. sym e ∙ rw (sym other.spelled) h)

-- what is taken is chosen
pub taken_chosen : (client server : Config) (a b : List ℕ) (n : Names) → IsKexinitOf (offers_of Client client) a → IsKexinitOf (offers_of Server server) b
    → TakesNames client b n → chosen_by client server ≡ Ok n
taken_chosen client server a b n own other taken =
    answer_is (offers_of Client client) (offers_of Server server) (chosen_by client server) n ((agreed client server a b n own other).1 taken)

-- where nothing is taken, nothing is chosen
pub none_chosen : (client server : Config) (a b : List ℕ) → IsKexinitOf (offers_of Client client) a → IsKexinitOf (offers_of Server server) b
    → ((n : Names) → TakesNames client b n → ⊥) → ChooseNone client server
none_chosen client server a b own other none n have =
    none n ((agreed client server a b n own other).0 (ap (side_answer false (offers_of Client client) (offers_of Server server)) have.chosen))

-- a configuration that is refused doesn't pass
pub refused_fails : (told found : Option ConfigFault) (fault : ConfigFault) → told ≡ found → told ≡ Some fault → found ≡ None → ⊥
refused_fails told found fault e f n = let g : Some fault ≡ None = sym f ∙ (e ∙ n) in cc

first_valid : (a b : Option ConfigFault) → first_config_fault a b ≡ None → a ≡ None
first_valid None b e = refl
first_valid (Some f) b e = cc

no_skip : (b : Bool) → (b ≡ true → ⊥) → b ≡ false
no_skip true h = absurd (h refl)
no_skip false h = refl

-- the names of a setting are of a key exchange that makes a secret
pub never_skips_here : (s : Setting) → IsSettingOf s.client.now s.server.now s → (shape_of s.names.kex).skip ≡ false
never_skips_here s h =
    let client = s.client.now in
    let server = s.server.now in
    let taken : TakesNames client s.server_kexinit s.names = (agreed client server s.client_kexinit s.server_kexinit s.names h.client_kexinit h.server_kexinit).0 (ap (side_answer false (offers_of Client client) (offers_of Server server)) h.have_names.chosen) in
    let valid : config_fault Client client ≡ None = first_valid (config_fault Client client) (config_fault Server server) h.have_names.valid in
    no_skip (shape_of s.names.kex).skip (never_skips Client client false s.server_kexinit s.names valid taken)
