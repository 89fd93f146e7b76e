-- What a report says of an exchange, from what its side knows of it.
use Rattle.std.proofs.Common.{◌≡◌, ℕ, List, [], ◌∷◌, ◌++◌, refl, sym, ◌∙◌, ap, subst, Option, Some, None, Bool, true, false, if◌then◌else◌}
use Rattle.std.specs.Prelude.{slice_get, is_some, IfSome}
use Rattle.ssh_wire.specs.Lines.{id_text}
use Rattle.ssh_wire.specs.declared.side.Side.{Side}
use Rattle.ssh_wire.specs.declared.side.Side.TheVariants.{Client, Server}
use Rattle.ssh_negotiate.specs.Causes.{was_strict, session_of}
use Rattle.ssh_negotiate.specs.Reading.{names_read}
use Rattle.ssh_negotiate.specs.declared.kex.Name.{Name as KexName}
use Rattle.ssh_negotiate.specs.declared.negotiation.Names.{Names}
use Rattle.ssh_rules.specs.Parts.{Accepting, Secrets, Trusting}
use Rattle.ssh_kex.specs.Exchange.{exchange_hash}
use Rattle.ssh_kex.specs.Messages.{is_gex, newkeys, reply_message, host_with}
use Rattle.ssh_kex.specs.Setting.{Says, offers_of, group_of}
use Rattle.ssh_kex.specs.Signature.{judged}
use Rattle.ssh_kex.specs.declared.config.Config.{Config}
use Rattle.ssh_kex.specs.declared.exchange.Exchange.{Exchange}
use Rattle.ssh_kex.specs.declared.exchange.FinishedExchange.{FinishedExchange}
use Rattle.ssh_kex.specs.declared.exchange.GexChosen.{GexChosen}
use Rattle.ssh_kex.specs.declared.exchange.ServerHost.{ServerHost}
use Rattle.ssh_kex.specs.declared.group.DhGroup.{DhGroup}
use Rattle.ssh_rules.specs.Attacked.{IsNamed, IsKeyed, block_names, known_names, still_strict}
use Rattle.ssh_rules.specs.AnyParts.{IsSigned}
use Rattle.ssh_rules.specs.Headline.{first_hash, keys_for}
use Rattle.ssh_rules.proofs.side.Ledgers.{setting_at}
use Rattle.ssh_rules.specs.Machine.{cause_of}
use Rattle.ssh_rules.specs.Made.{MadeClient, MadeServer, IsRecorded}
use Rattle.ssh_rules.specs.ExchangeMessages.{groups}

pub strict_is : (before : List FinishedExchange) → was_strict (cause_of before) ≡ still_strict before
strict_is [] = refl
strict_is (x ∷ xs) = refl

pub session_is : (before : List FinishedExchange) (hash : List ℕ) → session_of (cause_of before) hash ≡ first_hash before hash
session_is [] hash = refl
session_is (x ∷ xs) hash = refl

-- ---- names

pub named_client : (says : Says) (config : Config) (own_id : List ℕ) (heard : Option (List ℕ)) (before : List FinishedExchange) (own read : List (List ℕ)) (e : Exchange) (x : FinishedExchange) (h : Option ServerHost) → MadeClient says (setting_at Client config own_id heard before) own read e x h → IsNamed Client config before read x
named_client says config own_id heard before own read e x h m = record {
  names = (
    m.read_names,
    ap (block_names Client config (still_strict before)) m.theirs_is
        ∙ (ap (λ b. known_names (names_read Client (offers_of Client config) b e.server_kex_init)) (sym (strict_is before)) ∙ ap known_names m.read),
    ap (λ (y : FinishedExchange). y.names) m.made ∙ m.names_are,
  );
  session = subst (λ (y : FinishedExchange). y.session_id ≡ first_hash before y.hash) (sym m.made) (session_is before _);
}

-- the names that stand in the first message read
pub server_block : (says : Says) (config : Config) (own_id : List ℕ) (heard : Option (List ℕ)) (before : List FinishedExchange) (own read : List (List ℕ)) (e : Exchange) (x : FinishedExchange) (h : Option ServerHost) → (m : MadeServer says (setting_at Server config own_id heard before) own read e x h) → block_names Server config (still_strict before) read ≡ Some m.read_names
server_block says config own_id heard before own read e x h m =
    ap (block_names Server config (still_strict before)) m.theirs_is
    ∙ (ap (λ b. known_names (names_read Server (offers_of Server config) b e.client_kex_init)) (sym (strict_is before)) ∙ ap known_names m.read)

pub named_server : (says : Says) (config : Config) (own_id : List ℕ) (heard : Option (List ℕ)) (before : List FinishedExchange) (own read : List (List ℕ)) (e : Exchange) (x : FinishedExchange) (h : Option ServerHost) → MadeServer says (setting_at Server config own_id heard before) own read e x h → IsNamed Server config before read x
named_server says config own_id heard before own read e x h m = record {
  names = (m.read_names, server_block says config own_id heard before own read e x h m, ap (λ (y : FinishedExchange). y.names) m.made ∙ m.names_are);
  session = subst (λ (y : FinishedExchange). y.session_id ≡ first_hash before y.hash) (sym m.made) (session_is before _);
}

pub named : (side : Side) (says : Says) (config : Config) (own_id : List ℕ) (heard : Option (List ℕ)) (before : List FinishedExchange) (own read : List (List ℕ)) (x : FinishedExchange) → IsRecorded side says (setting_at side config own_id heard before) own read x → IsNamed side config before read x
named Client says config own_id heard before own read x r = named_client says config own_id heard before own read r.exchange x r.host r.made
named Server says config own_id heard before own read x r = named_server says config own_id heard before own read r.exchange x r.host r.made

-- ---- hash and keys

-- the relation of a report follows from what the side's part says
abbrev pub TellsAgreement : Says → (KexName → Option DhGroup → List ℕ → List ℕ → List ℕ → Type 0) → Type 0
TellsAgreement says agrees = (name : KexName) (group : Option DhGroup) (client server secret : List ℕ) → says.agrees name group client server secret → agrees name group client server secret

pub keyed : (side : Side) (says : Says) (agrees : Secrets) (config : Config) (heard : List ℕ) (before : List FinishedExchange) (own read : List (List ℕ)) (x : FinishedExchange) → TellsAgreement says agrees → IsRecorded side says (setting_at side config (id_text config.id) (Some heard) before) own read x → IsKeyed agrees side config heard own read x
keyed Client says agrees config heard before own read x tells r = by r.made where
  by : MadeClient says (setting_at Client config (id_text config.id) (Some heard) before) own read r.exchange x r.host → IsKeyed agrees Client config heard own read x
  by m = record {
    exchange = r.exchange;
    host = m.host;
    signature = m.signature;
    client_id = m.client_id;
    server_id = m.server_id;
    kind = sym m.kind ∙ ap (λ (y : FinishedExchange). is_gex y.names.kex) (sym m.made);
    own_is = m.own_is;
    read_is = m.theirs_is;
    secret = m.secret;
    agree = subst (λ (y : FinishedExchange). agrees y.names.kex (group_of r.exchange.gex) r.exchange.client_ephemeral r.exchange.server_ephemeral m.secret) (sym m.made) (tells _ _ _ _ _ m.agrees);
    hash = subst (λ (y : FinishedExchange). y.hash ≡ exchange_hash y.names.kex r.exchange m.host (Some m.secret)) (sym m.made) refl;
    keys = subst (λ (y : FinishedExchange). y.keys ≡ keys_for y.names m.secret y.hash y.session_id) (sym m.made) refl;
  }
keyed Server says agrees config heard before own read x tells r = by r.made where
  by : MadeServer says (setting_at Server config (id_text config.id) (Some heard) before) own read r.exchange x r.host → IsKeyed agrees Server config heard own read x
  by m = record {
    exchange = r.exchange;
    host = m.shown.blob;
    signature = m.signature;
    client_id = m.client_id;
    server_id = m.server_id;
    kind = sym m.kind ∙ ap (λ (y : FinishedExchange). is_gex y.names.kex) (sym m.made);
    own_is = m.own_is;
    read_is = m.theirs_is;
    secret = m.secret;
    agree = subst (λ (y : FinishedExchange). agrees y.names.kex (group_of r.exchange.gex) r.exchange.client_ephemeral r.exchange.server_ephemeral m.secret) (sym m.made) (tells _ _ _ _ _ m.agrees);
    hash = subst (λ (y : FinishedExchange). y.hash ≡ exchange_hash y.names.kex r.exchange m.shown.blob (Some m.secret)) (sym m.made) refl;
    keys = subst (λ (y : FinishedExchange). y.keys ≡ keys_for y.names m.secret y.hash y.session_id) (sym m.made) refl;
  }

-- ---- the signature

reply_at : (gex : Option GexChosen) (k host value signature : List ℕ) (kind : Bool) → kind ≡ is_some gex → slice_get (k ∷ (groups gex ++ reply_message (is_some gex) host value signature ∷ newkeys ∷ [])) (if kind then 2 else 1) ≡ Some (reply_message kind host value signature)
reply_at None k host value signature kind e = subst (λ b. slice_get (k ∷ reply_message false host value signature ∷ newkeys ∷ []) (if b then 2 else 1) ≡ Some (reply_message b host value signature)) (sym e) refl
reply_at (Some g) k host value signature kind e = subst (λ b. slice_get (k ∷ (groups (Some g) ++ reply_message true host value signature ∷ newkeys ∷ [])) (if b then 2 else 1) ≡ Some (reply_message b host value signature)) (sym e) refl

-- what a call answered is what the side's part says
abbrev pub Answered : Says → (ServerHost → List ℕ → List ℕ → Bool) → (ServerHost → Bool) → Type 0
Answered says accepts trusts = ((host : ServerHost) (hash signature : List ℕ) → says.accepts host hash signature → accepts host hash signature ≡ true) × ((host : ServerHost) → says.trusts host → trusts host ≡ true)

pub signed : (says : Says) (accepts : Accepting) (trusts : Trusting) (config : Config) (own_id : List ℕ) (heard : Option (List ℕ)) (before : List FinishedExchange) (own read : List (List ℕ)) (x : FinishedExchange) → Answered says accepts trusts → IsRecorded Client says (setting_at Client config own_id heard before) own read x → IsSigned accepts trusts read x
signed says accepts trusts config own_id heard before own read x a r = by r.made r.trusted where
  by : MadeClient says (setting_at Client config own_id heard before) own read r.exchange x r.host → IfSome r.host says.trusts → IsSigned accepts trusts read x
  by m t =
      let names : m.names ≡ x.names = ap (λ (y : FinishedExchange). y.names) (sym m.made) in
      record {
        host = m.host;
        value = r.exchange.server_ephemeral;
        signature = m.signature;
        reply = ap (λ b. slice_get b (if is_gex x.names.kex then 2 else 1)) m.theirs_is
            ∙ reply_at r.exchange.gex r.exchange.server_kex_init m.host r.exchange.server_ephemeral m.signature (is_gex x.names.kex) (ap (λ (n : Names). is_gex n.kex) (sym names) ∙ m.kind);
        accepted = a.0 _ _ _ (subst (λ (n : Names). says.accepts (host_with n m.host) x.hash (judged m.signature)) names m.accepts);
        trusted = a.1 _ (subst (λ (n : Names). says.trusts (host_with n m.host)) names (subst (λ o. IfSome o says.trusts) m.host_is t));
      }
