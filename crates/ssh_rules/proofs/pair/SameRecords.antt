-- From the same two blocks of messages both sides make the same record.
use Rattle.std.proofs.Common.{◌≡◌, ℕ, List, sym, ◌∙◌, ap, subst, Option, Some, None, Ok}
use Rattle.std.specs.Prelude.{IfSome}
use Rattle.ssh_negotiate.specs.Advertised.{kexinit}
use Rattle.ssh_negotiate.specs.Causes.{was_strict}
use Rattle.ssh_negotiate.specs.Reading.{names_read}
use Rattle.ssh_negotiate.specs.declared.kex.KexCause.{KexCause}
use Rattle.ssh_negotiate.specs.declared.negotiation.Names.{Names}
use Rattle.ssh_wire.specs.declared.side.Side.TheVariants.{Client, Server}
use Rattle.ssh_kex.specs.Messages.{IsCanonical}
use Rattle.ssh_kex.specs.Setting.{Says, Setting, offers_of, group_of, made_of}
use Rattle.ssh_kex.specs.declared.exchange.Exchange.{Exchange}
use Rattle.ssh_kex.specs.declared.exchange.GexChosen.{GexChosen}
use Rattle.ssh_rules.specs.Laws.{FindsCanonical, MakesOneRecord}
use Rattle.ssh_rules.specs.Made.{IsOwnGroup}
use Rattle.ssh_rules.proofs.pair.Chosen.{one_names, held_plain}
use Rattle.ssh_rules.proofs.side.OneMessage.{SameTalk, talk_one}

own_canonical : (says : Says) (c : Setting) (g : Option GexChosen) → IfSome g (IsOwnGroup c.config.gex) → IfSome g (λ (q : GexChosen). IsCanonical q.group)
own_canonical says c None h = tt
own_canonical says c (Some g) h = h.canonical

found_canonical : (says : Says) (g : Option GexChosen) → FindsCanonical says → IfSome g (λ (q : GexChosen). says.finds q.params q.group) → IfSome g (λ (q : GexChosen). IsCanonical q.group)
found_canonical says None f h = tt
found_canonical says (Some g) f h = f g.params g.group h

pub same_exchange : (a b : Exchange) → a.client_id ≡ b.client_id → a.server_id ≡ b.server_id → a.client_kex_init ≡ b.client_kex_init → a.server_kex_init ≡ b.server_kex_init → a.client_ephemeral ≡ b.client_ephemeral → a.server_ephemeral ≡ b.server_ephemeral → a.gex ≡ b.gex → a ≡ b
same_exchange a b e1 e2 e3 e4 e5 e6 e7 =
    ap (λ x. record a { client_id = x }) e1
    ∙ (ap (λ x. record a { client_id = b.client_id; server_id = x }) e2
    ∙ (ap (λ x. record a { client_id = b.client_id; server_id = b.server_id; client_kex_init = x }) e3
    ∙ (ap (λ x. record a { client_id = b.client_id; server_id = b.server_id; client_kex_init = b.client_kex_init; server_kex_init = x }) e4
    ∙ (ap (λ x. record a { client_id = b.client_id; server_id = b.server_id; client_kex_init = b.client_kex_init; server_kex_init = b.server_kex_init; client_ephemeral = x }) e5
    ∙ (ap (λ x. record a { client_id = b.client_id; server_id = b.server_id; client_kex_init = b.client_kex_init; server_kex_init = b.server_kex_init; client_ephemeral = b.client_ephemeral; server_ephemeral = x }) e6
    ∙ ap (λ x. record b { gex = x }) e7)))))

pub made_alike : (c s : KexCause) (n m : Names) (d e : Exchange) (h i k l : List ℕ) → c ≡ s → n ≡ m → d ≡ e → h ≡ i → k ≡ l → made_of c n d h (Some k) ≡ made_of s m e i (Some l)
made_alike c s n m d e h i k l ec en ed eh ek =
    ap (λ x. made_of x n d h (Some k)) ec
    ∙ (ap (λ x. made_of s x d h (Some k)) en
    ∙ (ap (λ x. made_of s m x h (Some k)) ed
    ∙ (ap (λ x. made_of s m e x (Some k)) eh
    ∙ ap (λ x. made_of s m e i (Some x)) ek)))

pub makes_one_record : (client server : Says) → MakesOneRecord client server
makes_one_record client server one_secret canonical c s a b d e x y g h wc ws link mc ms =
    let talk : SameTalk d.gex e.gex d.client_kex_init e.client_kex_init d.server_kex_init e.server_kex_init d.client_ephemeral e.client_ephemeral mc.host ms.shown.blob d.server_ephemeral e.server_ephemeral mc.signature ms.signature =
    talk_one d.gex e.gex d.client_kex_init e.client_kex_init d.server_kex_init e.server_kex_init d.client_ephemeral e.client_ephemeral mc.host ms.shown.blob d.server_ephemeral e.server_ephemeral mc.signature ms.signature
    (own_canonical client c d.gex mc.group) (found_canonical server e.gex canonical ms.finds) mc.short.group ms.short.group
    mc.short.client_value ms.short.client_value mc.short.host_blob ms.short.host_blob mc.short.server_value ms.short.server_value mc.short.signed ms.short.signed
    (sym mc.own_is ∙ ms.theirs_is) (sym mc.theirs_is ∙ ms.own_is) in
    let same : d ≡ e = same_exchange d e (mc.client_id ∙ (link.client_id ∙ sym ms.client_id)) (mc.server_id ∙ (link.server_id ∙ sym ms.server_id)) talk.client_kexinit talk.server_kexinit talk.client_value talk.server_value talk.group in
    let client_read : names_read Client (offers_of Client c.config) (was_strict s.cause) (kexinit (offers_of Server s.config) ms.cookie) ≡ Ok mc.read_names =
    ap (names_read Client (offers_of Client c.config) (was_strict s.cause)) (sym ms.kexinit_is ∙ sym talk.server_kexinit)
    ∙ (ap (λ k. names_read Client (offers_of Client c.config) (was_strict k) d.server_kex_init) (sym link.cause) ∙ mc.read) in
    let server_read : names_read Server (offers_of Server s.config) (was_strict s.cause) (kexinit (offers_of Client c.config) mc.cookie) ≡ Ok ms.read_names =
    ap (names_read Server (offers_of Server s.config) (was_strict s.cause)) (sym mc.kexinit_is ∙ talk.client_kexinit) ∙ ms.read in
    let both = one_names (offers_of Client c.config) (offers_of Server s.config) (was_strict s.cause) ms.cookie mc.cookie mc.read_names ms.read_names wc ws ms.cookie_length mc.cookie_length client_read server_read in
    let names : mc.names ≡ ms.names = mc.names_are ∙ (held_plain mc.read_names both.1 ∙ (both.0 ∙ sym (ms.names_are ∙ held_plain ms.read_names (sym (ap (λ (n : Names). n.ignore_guessed) both.0) ∙ both.1)))) in
    let makes = subst (λ (n : Names). server.server_makes n.kex (group_of d.gex) d.client_ephemeral d.server_ephemeral) (sym names) (subst (λ (t : Exchange). server.server_makes ms.names.kex (group_of t.gex) t.client_ephemeral t.server_ephemeral) (sym same) ms.makes) in
    let agrees = subst (λ (n : Names). server.agrees n.kex (group_of d.gex) d.client_ephemeral d.server_ephemeral ms.secret) (sym names) (subst (λ (t : Exchange). server.agrees ms.names.kex (group_of t.gex) t.client_ephemeral t.server_ephemeral ms.secret) (sym same) ms.agrees) in
    let secret : mc.secret ≡ ms.secret = one_secret mc.names.kex (group_of d.gex) mc.local d.client_ephemeral d.server_ephemeral mc.secret ms.secret mc.makes makes mc.agrees agrees in
    (mc.made ∙ (made_alike c.cause s.cause mc.names ms.names d e mc.host ms.shown.blob mc.secret ms.secret link.cause names same talk.host secret ∙ sym ms.made), same)
