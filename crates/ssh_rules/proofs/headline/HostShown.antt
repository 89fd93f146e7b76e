-- In a link the host that a client has accepted is one that the server presents.
use Rattle.std.proofs.Common.{◌≡◌, ℕ, ◌≤◌, List, [], ◌∷◌, ◌++◌, length, refl, sym, ◌∙◌, ap, subst, arith, Option, Some, None, true, false, length-append}
use Rattle.ssh_wire.specs.Sides.{other_side}
use Rattle.ssh_wire.specs.declared.side.Side.{Side}
use Rattle.ssh_wire.specs.declared.side.Side.TheVariants.{Client, Server}
use Rattle.ssh_negotiate.specs.Laws.{IsWithin}
use Rattle.ssh_negotiate.specs.declared.negotiation.Names.{Names}
use Rattle.ssh_negotiate.specs.declared.preferred.HostKey.{HostKey}
use Rattle.ssh_kex.specs.Messages.{group_message, host_with, newkeys, presented, reply_message, request_message, value_message}
use Rattle.ssh_kex.specs.Parts.{Presents}
use Rattle.ssh_kex.specs.Setting.{Says, Setting, offers_of}
use Rattle.ssh_kex.specs.Stages.{Stage, Created, AwaitsGroup, AwaitsReply, AwaitsRequest, AwaitsValue, AwaitsNewkeys}
use Rattle.ssh_kex.specs.declared.config.Config.{Config}
use Rattle.ssh_kex.specs.declared.exchange.Exchange.{Exchange}
use Rattle.ssh_kex.specs.declared.exchange.FinishedExchange.{FinishedExchange}
use Rattle.ssh_kex.specs.declared.exchange.GexChosen.{GexChosen}
use Rattle.ssh_kex.specs.declared.exchange.ServerHost.{ServerHost}
use Rattle.ssh_rules.specs.Made.{MadeBy, MadeClient, MadeServer}
use Rattle.ssh_rules.specs.Wire.{HasFront}
use Rattle.ssh_rules.proofs.pair.Chosen.{held_plain}
use Rattle.ssh_rules.proofs.pair.NextMadeOf.{Negotiated, both_hold, by_server, client_read, request_value, server_read, wrong_side}
use Rattle.ssh_rules.proofs.refusals.Obliged.{AreBoth, Faces}
use Rattle.ssh_rules.proofs.side.OneMessage.{client_by, reply_one, server_by}
use Rattle.ssh_rules.proofs.side.StageFits.{FitsStage}

-- what the server has of the exchange: its record, and what both have alike
pub record SharedHost (peer_says : Says) (p : Setting) (k l host : List ℕ) : Type 0 where
  pub exchange : Exchange
  pub made : FinishedExchange
  pub accepted : Option ServerHost
  pub own : List (List ℕ)
  pub theirs : List (List ℕ)
  pub knows : MadeServer peer_says p own theirs exchange made accepted
  pub client_kexinit : exchange.client_kex_init ≡ k
  pub server_kexinit : exchange.server_kex_init ≡ l
  pub blob : host ≡ knows.shown.blob

few_own : (own : List (List ℕ)) (a : List (List ℕ)) (m : List ℕ) (more : List (List ℕ)) → a ++ m ∷ more ≡ own → 2 ≤ length a → length own ≤ 2 → ⊥
few_own own a m more e l n = let c : length (a ++ m ∷ more) ≡ length own = ap length e in let k = length-append a (m ∷ more) in omega (arith, c, k, l, n)

shared_host : (says peer_says : Says) (s p : Setting) (e : Exchange) (x : FinishedExchange) (host : Option ServerHost) (stage : Stage) (own theirs : List (List ℕ)) (m : List ℕ) (more read : List (List ℕ)) → p.side ≡ Server → (c : MadeClient says s own (theirs ++ newkeys ∷ []) e x host) → FitsStage peer_says p stage (theirs ++ m ∷ more) read → HasFront own read → SharedHost peer_says p e.client_kex_init e.server_kex_init c.host
shared_host says peer_says s p e x host stage own theirs m more read server c there front = by_kind e.gex refl where
  served : (g : Option GexChosen) → e.gex ≡ g → theirs ≡ e.server_kex_init ∷ (Rattle.ssh_rules.specs.ExchangeMessages.groups g ++ reply_message (Rattle.std.specs.Prelude.is_some g) c.host e.server_ephemeral c.signature ∷ [])
  served g q = server_read g e.server_kex_init c.host e.server_ephemeral c.signature theirs (c.theirs_is ∙ ap (λ y. server_by y e.server_kex_init c.host e.server_ephemeral c.signature) q)

  asked : (g : Option GexChosen) → e.gex ≡ g → own ≡ client_by g e.client_kex_init e.client_ephemeral
  asked g q = c.own_is ∙ ap (λ y. client_by y e.client_kex_init e.client_ephemeral) q

  enough : (g : Option GexChosen) → e.gex ≡ g → 2 ≤ length theirs
  enough None q = (let l : length theirs ≡ 2 = ap length (served None q) in omega (arith, l))
  enough (Some g) q = (let l : length theirs ≡ 3 = ap length (served (Some g) q) in omega (arith, l))

  by_stage : (stage : Stage) → FitsStage peer_says p stage (theirs ++ m ∷ more) read → (g : Option GexChosen) → e.gex ≡ g → (f : Exchange) × (y : FinishedExchange) × (h : Option ServerHost) × MadeServer peer_says p (theirs ++ m ∷ more) (read ++ newkeys ∷ []) f y h
  by_stage (Created k) t g q = absurd (few_own (k ∷ []) theirs m more t.own_is (enough g q) (omega arith))
  by_stage (AwaitsGroup o) t g q = absurd (wrong_side (sym t.client ∙ server))
  by_stage (AwaitsReply o gex local public) t g q = absurd (wrong_side (sym t.client ∙ server))
  by_stage (AwaitsRequest o) t g q = absurd (few_own (o.own_kexinit ∷ []) theirs m more t.own_is (enough g q) (omega arith))
  by_stage (AwaitsValue o None) t g q = absurd (few_own (o.own_kexinit ∷ []) theirs m more t.own_is (enough g q) (omega arith))
  by_stage (AwaitsValue o (Some z)) t g q = absurd (few_own (o.own_kexinit ∷ group_message z.group ∷ []) theirs m more t.own_is (enough g q) (omega arith))
  by_stage (AwaitsNewkeys f y h) t g q = (f, y, h, subst (λ w. MadeBy w peer_says p (theirs ++ m ∷ more) (read ++ newkeys ∷ []) f y h) server t)

  both : (f : Exchange) (y : FinishedExchange) (h : Option ServerHost) (k : MadeServer peer_says p (theirs ++ m ∷ more) (read ++ newkeys ∷ []) f y h) (g b : Option GexChosen) → e.gex ≡ g → f.gex ≡ b → SharedHost peer_says p e.client_kex_init e.server_kex_init c.host
  both f y h k None None q r =
      let w : (e.server_kex_init ∷ reply_message false c.host e.server_ephemeral c.signature ∷ []) ++ m ∷ more ≡ server_by None f.server_kex_init k.shown.blob f.server_ephemeral k.signature = ap (λ z. z ++ m ∷ more) (sym (served None q)) ∙ (k.own_is ∙ ap (λ z. server_by z f.server_kex_init k.shown.blob f.server_ephemeral k.signature) r) in
      let first : f.server_kex_init ≡ e.server_kex_init = cc in
      let reply : reply_message false c.host e.server_ephemeral c.signature ≡ reply_message false k.shown.blob f.server_ephemeral k.signature = cc in
      let d = client_read None f.client_kex_init f.client_ephemeral read (k.theirs_is ∙ ap (λ z. client_by z f.client_kex_init f.client_ephemeral) r) in
      let v : (f.client_kex_init ∷ value_message false f.client_ephemeral ∷ []) ++ front.0 ≡ client_by None e.client_kex_init e.client_ephemeral = ap (λ z. z ++ front.0) (sym d) ∙ (front.1 ∙ asked None q) in
      let head : f.client_kex_init ≡ e.client_kex_init = cc in
      record { exchange = f; made = y; accepted = h; own = theirs ++ m ∷ more; theirs = read ++ newkeys ∷ []; knows = k; client_kexinit = head; server_kexinit = first; blob = (reply_one false c.host e.server_ephemeral c.signature k.shown.blob f.server_ephemeral k.signature c.short.host_blob c.short.server_value c.short.signed k.short.host_blob k.short.server_value k.short.signed reply).0 }
  both f y h k (Some g) (Some b) q r =
      let w : (e.server_kex_init ∷ group_message g.group ∷ reply_message true c.host e.server_ephemeral c.signature ∷ []) ++ m ∷ more ≡ server_by (Some b) f.server_kex_init k.shown.blob f.server_ephemeral k.signature = ap (λ z. z ++ m ∷ more) (sym (served (Some g) q)) ∙ (k.own_is ∙ ap (λ z. server_by z f.server_kex_init k.shown.blob f.server_ephemeral k.signature) r) in
      let first : f.server_kex_init ≡ e.server_kex_init = cc in
      let reply : reply_message true c.host e.server_ephemeral c.signature ≡ reply_message true k.shown.blob f.server_ephemeral k.signature = cc in
      let d = client_read (Some b) f.client_kex_init f.client_ephemeral read (k.theirs_is ∙ ap (λ z. client_by z f.client_kex_init f.client_ephemeral) r) in
      let v : (f.client_kex_init ∷ request_message b.params ∷ value_message true f.client_ephemeral ∷ []) ++ front.0 ≡ client_by (Some g) e.client_kex_init e.client_ephemeral = ap (λ z. z ++ front.0) (sym d) ∙ (front.1 ∙ asked (Some g) q) in
      let head : f.client_kex_init ≡ e.client_kex_init = cc in
      record { exchange = f; made = y; accepted = h; own = theirs ++ m ∷ more; theirs = read ++ newkeys ∷ []; knows = k; client_kexinit = head; server_kexinit = first; blob = (reply_one true c.host e.server_ephemeral c.signature k.shown.blob f.server_ephemeral k.signature c.short.host_blob c.short.server_value c.short.signed k.short.host_blob k.short.server_value k.short.signed reply).0 }
  both f y h k None (Some b) q r = absurd (
      let d = client_read (Some b) f.client_kex_init f.client_ephemeral read (k.theirs_is ∙ ap (λ z. client_by z f.client_kex_init f.client_ephemeral) r) in
      let v : (f.client_kex_init ∷ request_message b.params ∷ value_message true f.client_ephemeral ∷ []) ++ front.0 ≡ client_by None e.client_kex_init e.client_ephemeral = ap (λ z. z ++ front.0) (sym d) ∙ (front.1 ∙ asked None q) in
      let z : request_message b.params ≡ value_message false e.client_ephemeral = cc in
      request_value b.params e.client_ephemeral z)
  both f y h k (Some g) None q r = absurd (
      let d = client_read None f.client_kex_init f.client_ephemeral read (k.theirs_is ∙ ap (λ z. client_by z f.client_kex_init f.client_ephemeral) r) in
      let v : (f.client_kex_init ∷ value_message false f.client_ephemeral ∷ []) ++ front.0 ≡ client_by (Some g) e.client_kex_init e.client_ephemeral = ap (λ z. z ++ front.0) (sym d) ∙ (front.1 ∙ asked (Some g) q) in
      let z : request_message g.params ≡ value_message false f.client_ephemeral = cc in
      request_value g.params f.client_ephemeral z)

  by_kind : (g : Option GexChosen) → e.gex ≡ g → SharedHost peer_says p e.client_kex_init e.server_kex_init c.host
  by_kind g q = (let t = by_stage stage there g q in both t.0 t.1 t.2 t.3 g (t.0).gex q refl)

by_client : (says : Says) (s : Setting) (own theirs : List (List ℕ)) (e : Exchange) (x : FinishedExchange) (h : Option ServerHost) → (m : MadeClient says s own theirs e x h) → Negotiated Client s.config s.cause e.client_kex_init e.server_kex_init m.names
by_client says s own theirs e x h m = record { cookie = m.cookie; cookie_length = m.cookie_length; own_is = m.kexinit_is; read_names = m.read_names; read = m.read; held = λ p. m.names_are ∙ held_plain m.read_names p }

some_host : (a b : ServerHost) → Some a ≡ Some b → a ≡ b
some_host a b e = cc

pub host_shown : (says : Side → Says) (config : Side → Config) (s p : Setting) (e : Exchange) (x : FinishedExchange) (host : ServerHost) (m : List ℕ) → s.side ≡ Client → AreBoth says config s p → Faces says s p (AwaitsNewkeys e x (Some host)) m → (key : HostKey) × Presents (config Server) host key host.algorithm
host_shown says config s p e x host m client b f = (q.knows.shown.signer, subst (λ z. Presents (config Server) z q.knows.shown.signer z.algorithm) (sym is) (record { shown = presents; same = refl })) where
  server : p.side ≡ Server
  server = f.sides ∙ ap other_side client

  c : MadeClient (says s.side) s f.own (f.theirs ++ newkeys ∷ []) e x (Some host)
  c = subst (λ w. MadeBy w (says s.side) s f.own (f.theirs ++ newkeys ∷ []) e x (Some host)) client f.here

  q : SharedHost (says p.side) p e.client_kex_init e.server_kex_init c.host
  q = shared_host (says s.side) (says p.side) s p e x (Some host) f.peer_stage f.own f.theirs m f.more f.read server c f.there f.front

  mine : s.config ≡ config Client
  mine = b.config_is ∙ ap config client

  peer : p.config ≡ config Server
  peer = b.peer_config_is ∙ ap config server

  names : c.names ≡ q.knows.names
  names = both_hold s.config p.config s.cause e.client_kex_init e.server_kex_init c.names q.knows.names (subst (λ z. IsWithin (offers_of Client z)) (sym mine) b.client_within) (subst (λ z. IsWithin (offers_of Server z)) (sym peer) b.server_within)
      (by_client (says s.side) s f.own (f.theirs ++ newkeys ∷ []) e x (Some host) c)
      (subst (λ z. Negotiated Server p.config z e.server_kex_init e.client_kex_init q.knows.names) (sym f.link.cause)
      (subst (λ z. Negotiated Server p.config p.cause z e.client_kex_init q.knows.names) q.server_kexinit
      (subst (λ z. Negotiated Server p.config p.cause q.exchange.server_kex_init z q.knows.names) q.client_kexinit (by_server (says p.side) p q.own q.theirs q.exchange q.made q.accepted q.knows))))

  is : host ≡ host_with q.knows.names q.knows.shown.blob
  is = some_host host (host_with c.names c.host) c.host_is ∙ (ap (λ (n : Names). host_with n c.host) names ∙ ap (host_with q.knows.names) q.blob)

  presents : presented (config Server).host q.knows.names.host_key_is_certificate q.knows.names.key ≡ Some (record { signer = q.knows.shown.signer; blob = q.knows.shown.blob })
  presents = ap (λ (z : Config). presented z.host q.knows.names.host_key_is_certificate q.knows.names.key) (sym peer) ∙ q.knows.presents
