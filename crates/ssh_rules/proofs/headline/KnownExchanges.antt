-- What both sides know of an exchange is what a report says of it.
use Rattle.std.proofs.Common.{◌≡◌, ℕ, List, [], ◌∷◌, ◌++◌, refl, sym, ◌∙◌, ap, subst, Option, Some, None, Bool, true, false, ◌||◌, Result, Ok, Err}
use Rattle.std.specs.Prelude.{is_some, IfSome}
use Rattle.ssh_wire.specs.Lines.{id_text}
use Rattle.ssh_wire.specs.declared.error.AlgorithmKind.{AlgorithmKind}
use Rattle.ssh_wire.specs.declared.side.Side.TheVariants.{Client, Server}
use Rattle.ssh_negotiate.proofs.Lemmas.{names_agree, follows_none}
use Rattle.ssh_negotiate.specs.Advertised.{Offers, kexinit}
use Rattle.ssh_negotiate.specs.Causes.{was_strict}
use Rattle.ssh_negotiate.specs.Laws.{IsWithin, side_answer, kept_strict}
use Rattle.ssh_negotiate.specs.Reading.{names_read}
use Rattle.ssh_negotiate.specs.declared.negotiation.Names.{Names}
use Rattle.ssh_rules.specs.Parts.{ClientPairs, Secrets, ServerValues}
use Rattle.ssh_kex.specs.Exchange.{exchange_hash}
use Rattle.ssh_kex.specs.Messages.{IsCanonical, is_gex, newkeys, value_message, reply_message, request_message, group_message}
use Rattle.ssh_kex.specs.Setting.{Says, offers_of, group_of}
use Rattle.ssh_kex.specs.declared.config.Config.{Config}
use Rattle.ssh_kex.specs.declared.exchange.Exchange.{Exchange}
use Rattle.ssh_kex.specs.declared.exchange.FinishedExchange.{FinishedExchange}
use Rattle.ssh_kex.specs.declared.exchange.GexChosen.{GexChosen}
use Rattle.ssh_kex.specs.declared.exchange.ServerHost.{ServerHost}
use Rattle.ssh_kex.specs.declared.group.DhGroup.{DhGroup}
use Rattle.ssh_kex.specs.declared.group.GexParams.{GexParams}
use Rattle.ssh_rules.specs.Fills.{Fills, messages}
use Rattle.ssh_rules.specs.Headline.{IsMadeOf, IsWithinSizes, chosen_by, first_hash, gex_by, keys_for}
use Rattle.ssh_rules.specs.Laws.{OneSecret, FindsCanonical}
use Rattle.ssh_rules.proofs.side.Ledgers.{setting_at}
use Rattle.ssh_rules.specs.Machine.{cause_of}
use Rattle.ssh_rules.specs.Made.{MadeClient, MadeServer, IsOwnGroup}
use Rattle.ssh_rules.proofs.pair.Awaited.{AsksFor}
use Rattle.ssh_rules.specs.ExchangeMessages.{requests, groups}
use Rattle.ssh_rules.proofs.pair.Chosen.{held_plain}
use Rattle.ssh_rules.proofs.pair.SameRecords.{makes_one_record, same_exchange}
use Rattle.ssh_rules.proofs.headline.Reported.{session_is}
use Rattle.ssh_rules.specs.Snapshots.{TellsParts}

-- ---- names

-- what the earlier exchanges left is what was chosen
abbrev pub AreChosen : Result Names AlgorithmKind → List FinishedExchange → Type 0
AreChosen r [] = Unit {0}
AreChosen r (y ∷ ys) = r ≡ Ok y.names

or_twice : (b : Bool) → (b || b) ≡ b
or_twice true = refl
or_twice false = refl

kept_own : (k : Names) → kept_strict k.strict_kex k ≡ k
kept_own k = ap (λ b. record k { strict_kex = b }) (or_twice k.strict_kex)

told_is : (before : List FinishedExchange) (c s : Offers) (r : Result Names AlgorithmKind) (n : Names) → AreChosen r before → side_answer (was_strict (cause_of before)) c s r ≡ Ok n → r ≡ Ok n
told_is [] c s (Ok k) n a e = let g : kept_strict false k ≡ n = cc in ap Ok g
told_is (y ∷ ys) c s (Ok k) n a e =
    let g : kept_strict y.names.strict_kex k ≡ n = cc in
    let same : k ≡ y.names = cc in
    ap Ok (sym (kept_own k) ∙ (ap (λ (m : Names). kept_strict m.strict_kex k) same ∙ g))
told_is [] c s (Err kind) n a e = cc
told_is (y ∷ ys) c s (Err kind) n a e = cc

-- ---- messages

abbrev no_group : DhGroup
no_group = record { prime = []; generator = [] }

abbrev pub group_or : Option GexChosen → DhGroup
group_or None = no_group
group_or (Some g) = g.group

asks_own : (config : Config) (gex : Option GexChosen) → IfSome gex (IsOwnGroup config.gex) → AsksFor Client config gex
asks_own config None h = tt
asks_own config (Some g) h = h.params_are

pub client_stands : (config : Config) (gex : Option GexChosen) (cookie k v host signature : List ℕ) (group : DhGroup) (kind : Bool) → kind ≡ is_some gex → k ≡ kexinit (offers_of Client config) cookie → AsksFor Client config gex
    → k ∷ (requests gex ++ value_message (is_some gex) v ∷ newkeys ∷ []) ≡ messages Client config kind (record { cookie = cookie; group = group; host = host; value = v; signature = signature })
client_stands config None cookie k v host signature group kind e f o =
    let fills : Fills = record { cookie = cookie; group = group; host = host; value = v; signature = signature } in
    subst (λ b. k ∷ value_message false v ∷ newkeys ∷ [] ≡ messages Client config b fills) (sym e) (ap (λ q. q ∷ value_message false v ∷ newkeys ∷ []) f)
client_stands config (Some g) cookie k v host signature group kind e f o =
    let fills : Fills = record { cookie = cookie; group = group; host = host; value = v; signature = signature } in
    subst (λ b. k ∷ request_message g.params ∷ value_message true v ∷ newkeys ∷ [] ≡ messages Client config b fills) (sym e)
    (ap (λ q. q ∷ request_message g.params ∷ value_message true v ∷ newkeys ∷ []) f ∙ ap (λ p. kexinit (offers_of Client config) cookie ∷ request_message p ∷ value_message true v ∷ newkeys ∷ []) o)

pub server_stands : (config : Config) (gex : Option GexChosen) (cookie k v host signature : List ℕ) (kind : Bool) → kind ≡ is_some gex → k ≡ kexinit (offers_of Server config) cookie
    → k ∷ (groups gex ++ reply_message (is_some gex) host v signature ∷ newkeys ∷ []) ≡ messages Server config kind (record { cookie = cookie; group = group_or gex; host = host; value = v; signature = signature })
server_stands config None cookie k v host signature kind e f =
    let fills : Fills = record { cookie = cookie; group = group_or None; host = host; value = v; signature = signature } in
    subst (λ b. k ∷ reply_message false host v signature ∷ newkeys ∷ [] ≡ messages Server config b fills) (sym e) (ap (λ q. q ∷ reply_message false host v signature ∷ newkeys ∷ []) f)
server_stands config (Some g) cookie k v host signature kind e f =
    let fills : Fills = record { cookie = cookie; group = g.group; host = host; value = v; signature = signature } in
    subst (λ b. k ∷ group_message g.group ∷ reply_message true host v signature ∷ newkeys ∷ [] ≡ messages Server config b fills) (sym e) (ap (λ q. q ∷ group_message g.group ∷ reply_message true host v signature ∷ newkeys ∷ []) f)

gex_is : (gex : Option GexChosen) (params : GexParams) (kind : Bool) → kind ≡ is_some gex → IfSome gex (IsOwnGroup params) → gex ≡ gex_by kind params (group_or gex)
gex_is None params kind e o = subst (λ b. None ≡ gex_by b params no_group) (sym e) refl
gex_is (Some g) params kind e o = subst (λ b. Some g ≡ gex_by b params g.group) (sym e) (ap (λ p. let c : GexChosen = record { params = p; group = g.group } in Some c) o.params_are)

not_both : true ≡ false → ⊥
not_both e = cc

canonical_or : (gex : Option GexChosen) (params : GexParams) (kind : Bool) → kind ≡ is_some gex → IfSome gex (IsOwnGroup params) → kind ≡ true → IsCanonical (group_or gex)
canonical_or None params kind e o k = absurd (not_both (sym k ∙ e))
canonical_or (Some g) params kind e o k = o.canonical

within_sizes : (gex : Option GexChosen) (params : GexParams) → IfSome gex (IsOwnGroup params) → IfSome gex (IsWithinSizes params)
within_sizes None params h = tt
within_sizes (Some g) params h = record { least = h.least; most = h.most }

pub is_made_of : (client server : Says) (client_makes : ClientPairs) (server_makes : ServerValues) (agrees : Secrets)
    (cc sc : Config) (before : List FinishedExchange) (a b : List (List ℕ)) (d e : Exchange) (x y : FinishedExchange) (g h : Option ServerHost)
    → TellsParts client server client_makes server_makes agrees → OneSecret client server → FindsCanonical server → IsWithin (offers_of Client cc) → IsWithin (offers_of Server sc) → AreChosen (chosen_by cc sc) before
    → MadeClient client (setting_at Client cc (id_text cc.id) (Some (id_text sc.id)) before) a b d x g → MadeServer server (setting_at Server sc (id_text sc.id) (Some (id_text cc.id)) before) b a e y h
    → IsMadeOf client_makes server_makes agrees cc sc before a b x
is_made_of client server client_makes server_makes agrees cc sc before a b d e x y g h tells secret canonical wc ws are mc ms =
    let both = makes_one_record client server secret canonical (setting_at Client cc (id_text cc.id) (Some (id_text sc.id)) before) (setting_at Server sc (id_text sc.id) (Some (id_text cc.id)) before) a b d e x y g h wc ws (record { client_id = refl; server_id = refl; cause = refl }) mc ms in
    let still = was_strict (cause_of before) in
    let server_kexinit : d.server_kex_init ≡ kexinit (offers_of Server sc) ms.cookie = ap (λ (t : Exchange). t.server_kex_init) both.1 ∙ ms.kexinit_is in
    let read : names_read Client (offers_of Client cc) still (kexinit (offers_of Server sc) ms.cookie) ≡ Ok mc.read_names = ap (names_read Client (offers_of Client cc) still) (sym server_kexinit) ∙ mc.read in
    let chose : chosen_by cc sc ≡ Ok mc.read_names = told_is before (offers_of Client cc) (offers_of Server sc) (chosen_by cc sc) mc.read_names are (sym ((names_agree (offers_of Client cc) (offers_of Server sc) still ms.cookie wc ws ms.cookie_length).0) ∙ read) in
    let plain = follows_none Client (offers_of Client cc) (offers_of Server sc) still ms.cookie mc.read_names ms.cookie_length ws read in
    let x_names : x.names ≡ mc.names = ap (λ (z : FinishedExchange). z.names) mc.made in
    let y_names : y.names ≡ ms.names = ap (λ (z : FinishedExchange). z.names) ms.made in
    let names : x.names ≡ mc.read_names = x_names ∙ (mc.names_are ∙ held_plain mc.read_names plain) in
    let kind : is_gex x.names.kex ≡ is_some d.gex = ap (λ (n : Names). is_gex n.kex) x_names ∙ mc.kind in
    let server_names : ms.names ≡ x.names = sym y_names ∙ ap (λ (z : FinishedExchange). z.names) (sym both.0) in
    record {
      names = chose ∙ ap Ok (sym names);
      exchange = d;
      host = mc.host;
      stand = record {
        client_fills = record { cookie = mc.cookie; group = no_group; host = []; value = d.client_ephemeral; signature = [] };
        server_fills = record { cookie = ms.cookie; group = group_or d.gex; host = mc.host; value = d.server_ephemeral; signature = mc.signature };
        client_is = mc.own_is ∙ client_stands cc d.gex mc.cookie d.client_kex_init d.client_ephemeral [] [] no_group (is_gex x.names.kex) kind mc.kexinit_is (asks_own cc d.gex mc.group);
        server_is = mc.theirs_is ∙ server_stands sc d.gex ms.cookie d.server_kex_init d.server_ephemeral mc.host mc.signature (is_gex x.names.kex) kind server_kexinit;
        canonical = canonical_or d.gex cc.gex (is_gex x.names.kex) kind mc.group;
        host_is = refl;
        exchange_is = same_exchange d (record { client_id = id_text cc.id; server_id = id_text sc.id; client_kex_init = kexinit (offers_of Client cc) mc.cookie; server_kex_init = kexinit (offers_of Server sc) ms.cookie; client_ephemeral = d.client_ephemeral; server_ephemeral = d.server_ephemeral; gex = gex_by (is_gex x.names.kex) cc.gex (group_or d.gex) })
            mc.client_id mc.server_id mc.kexinit_is server_kexinit refl refl (gex_is d.gex cc.gex (is_gex x.names.kex) kind mc.group);
      };
      within = within_sizes d.gex cc.gex mc.group;
      secret = mc.secret;
      local = mc.local;
      by_client = subst (λ (n : Names). client_makes n.kex (group_of d.gex) mc.local d.client_ephemeral) (sym x_names) (tells.for_client _ _ _ _ mc.makes);
      by_server = subst (λ (n : Names). server_makes n.kex (group_of d.gex) d.client_ephemeral d.server_ephemeral) server_names
          (subst (λ (t : Exchange). server_makes ms.names.kex (group_of t.gex) t.client_ephemeral t.server_ephemeral) (sym both.1) (tells.for_server _ _ _ _ ms.makes));
      agree = subst (λ (n : Names). agrees n.kex (group_of d.gex) d.client_ephemeral d.server_ephemeral mc.secret) (sym x_names) (tells.for_secret _ _ _ _ _ mc.agrees);
      hash = subst (λ (z : FinishedExchange). z.hash ≡ exchange_hash z.names.kex d mc.host (Some mc.secret)) (sym mc.made) refl;
      session = subst (λ (z : FinishedExchange). z.session_id ≡ first_hash before z.hash) (sym mc.made) (session_is before _);
      keys = subst (λ (z : FinishedExchange). z.keys ≡ keys_for z.names mc.secret z.hash z.session_id) (sym mc.made) refl;
    }
