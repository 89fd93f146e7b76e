-- What the next message of an honest peer was made of: by the stage that awaits it, and the stage in which it was
-- written.
use Rattle.std.proofs.Common.{◌≡◌, ℕ, ◌<◌, ◌^◌, List, [], ◌∷◌, ◌++◌, length, refl, sym, ◌∙◌, ap, subst, arith, Option, Some, None, true, false, inl, inr, length-append, lit<, Ok}
use Rattle.std.specs.Prelude.{is_some, IfSome}
use Rattle.ssh_packet.specs.Stream.{message_type}
use Rattle.ssh_wire.specs.declared.side.Side.{Side}
use Rattle.ssh_wire.specs.declared.side.Side.TheVariants.{Client, Server}
use Rattle.ssh_negotiate.specs.Advertised.{kexinit}
use Rattle.ssh_negotiate.specs.Causes.{was_strict}
use Rattle.ssh_negotiate.specs.Laws.{IsWithin}
use Rattle.ssh_negotiate.specs.Reading.{names_read}
use Rattle.ssh_negotiate.specs.declared.kex.KexCause.{KexCause}
use Rattle.ssh_negotiate.specs.declared.negotiation.Names.{Names}
use Rattle.ssh_kex.specs.Messages.{IsCanonical, newkeys, value_message, reply_message, request_message, group_message}
use Rattle.ssh_kex.specs.Setting.{Says, Setting, Opened, IsShortGroup, offers_of, group_of}
use Rattle.ssh_kex.specs.Stages.{Stage, Created, AwaitsGroup, AwaitsReply, AwaitsRequest, AwaitsValue, AwaitsNewkeys}
use Rattle.ssh_kex.specs.declared.config.Config.{Config}
use Rattle.ssh_kex.specs.declared.exchange.Exchange.{Exchange}
use Rattle.ssh_kex.specs.declared.exchange.FinishedExchange.{FinishedExchange}
use Rattle.ssh_kex.specs.declared.exchange.GexChosen.{GexChosen}
use Rattle.ssh_kex.specs.declared.exchange.ServerHost.{ServerHost}
use Rattle.ssh_kex.specs.declared.group.DhGroup.{DhGroup}
use Rattle.ssh_rules.specs.Laws.{FindsCanonical}
use Rattle.ssh_rules.specs.Made.{MadeBy, MadeClient, MadeServer}
use Rattle.ssh_rules.specs.Valid.{HasSizes}
use Rattle.ssh_rules.specs.Wire.{HasFront}
use Rattle.ssh_rules.proofs.pair.Chosen.{held_plain, one_names}
use Rattle.ssh_rules.proofs.side.OneMessage.{client_by, group_one, same_gex, server_by, sizes_one, value_one}
use Rattle.ssh_rules.proofs.side.StageFits.{Holds, OpenedBy, FitsGroup, FitsReply, FitsValue, FitsStage}

-- ---- the names of both

-- a side's own KEXINIT and the other's, and the names that it holds
pub record Negotiated (side : Side) (config : Config) (cause : KexCause) (own peer : List ℕ) (names : Names) : Type 0 where
  pub cookie : List ℕ
  pub cookie_length : length cookie ≡ 16
  pub own_is : own ≡ kexinit (offers_of side config) cookie
  pub read_names : Names
  pub read : names_read side (offers_of side config) (was_strict cause) peer ≡ Ok read_names
  pub held : read_names.ignore_guessed ≡ false → names ≡ read_names

not_both : true ≡ false → ⊥
not_both e = cc

holds_plain : (read held : Names) → Holds read held → read.ignore_guessed ≡ false → held ≡ read
holds_plain read held (inl e) f = e
holds_plain read held (inr e) f = absurd (not_both (sym e.0 ∙ f))

pub by_opened : (says : Says) (s : Setting) (o : Opened) (side : Side) → s.side ≡ side → OpenedBy says s o → Negotiated side s.config s.cause o.own_kexinit o.peer_kexinit o.names
by_opened says s o side e b = subst (λ w. Negotiated w s.config s.cause o.own_kexinit o.peer_kexinit o.names) e
    (record { cookie = b.cookie; cookie_length = b.cookie_length; own_is = b.own; read_names = b.read_names; read = b.read; held = holds_plain b.read_names o.names b.held })

pub by_server : (says : Says) (s : Setting) (own theirs : List (List ℕ)) (e : Exchange) (x : FinishedExchange) (h : Option ServerHost) → (m : MadeServer says s own theirs e x h) → Negotiated Server s.config s.cause e.server_kex_init e.client_kex_init m.names
by_server says s own theirs e x h m = record { cookie = m.cookie; cookie_length = m.cookie_length; own_is = m.kexinit_is; read_names = m.read_names; read = m.read; held = λ p. m.names_are ∙ held_plain m.read_names p }

-- both hold the same names
pub both_hold : (c s : Config) (cause : KexCause) (k l : List ℕ) (n m : Names) → IsWithin (offers_of Client c) → IsWithin (offers_of Server s) → Negotiated Client c cause k l n → Negotiated Server s cause l k m → n ≡ m
both_hold c s cause k l n m wc ws a b =
    let both = one_names (offers_of Client c) (offers_of Server s) (was_strict cause) b.cookie a.cookie a.read_names b.read_names wc ws b.cookie_length a.cookie_length
    (ap (names_read Client (offers_of Client c) (was_strict cause)) (sym b.own_is) ∙ a.read) (ap (names_read Server (offers_of Server s) (was_strict cause)) (sym a.own_is) ∙ b.read) in
    a.held both.1 ∙ (both.0 ∙ sym (b.held (sym (ap (λ (x : Names). x.ignore_guessed) both.0) ∙ both.1)))

-- ---- lists of messages

drop_last : (a b : List (List ℕ)) (x y : List ℕ) → a ++ x ∷ [] ≡ b ++ y ∷ [] → a ≡ b
drop_last [] [] x y e = refl
drop_last [] (q ∷ b) x y e = absurd (let l : length (x ∷ []) ≡ length (q ∷ (b ++ y ∷ [])) = ap length e in let k = length-append b (y ∷ []) in omega (arith, l, k))
drop_last (p ∷ a) [] x y e = absurd (let l : length (p ∷ (a ++ x ∷ [])) ≡ length (y ∷ []) = ap length e in let k = length-append a (x ∷ []) in omega (arith, l, k))
drop_last (p ∷ a) (q ∷ b) x y e =
    let whole : p ∷ (a ++ x ∷ []) ≡ q ∷ (b ++ y ∷ []) = e in
    let head : p ≡ q = cc in
    let tail : a ++ x ∷ [] ≡ b ++ y ∷ [] = cc in
    ap (λ t. p ∷ t) (drop_last a b x y tail) ∙ ap (λ z. z ∷ b) head

-- what a server has read when it made its record
pub client_read : (g : Option GexChosen) (k v : List ℕ) (read : List (List ℕ)) → read ++ newkeys ∷ [] ≡ client_by g k v → read ≡ k ∷ (Rattle.ssh_rules.specs.ExchangeMessages.requests g ++ value_message (is_some g) v ∷ [])
client_read None k v read e = drop_last read (k ∷ value_message false v ∷ []) newkeys newkeys e
client_read (Some g) k v read e = drop_last read (k ∷ request_message g.params ∷ value_message true v ∷ []) newkeys newkeys e

-- what a client has read when it made its record
pub server_read : (g : Option GexChosen) (k h v s : List ℕ) (read : List (List ℕ)) → read ++ newkeys ∷ [] ≡ server_by g k h v s → read ≡ k ∷ (Rattle.ssh_rules.specs.ExchangeMessages.groups g ++ reply_message (is_some g) h v s ∷ [])
server_read None k h v s read e = drop_last read (k ∷ reply_message false h v s ∷ []) newkeys newkeys e
server_read (Some g) k h v s read e = drop_last read (k ∷ group_message g.group ∷ reply_message true h v s ∷ []) newkeys newkeys e

pub wrong_side : Client ≡ Server → ⊥
wrong_side e = cc

-- a request is no value
pub request_value : (q : Rattle.ssh_kex.specs.declared.group.GexParams.GexParams) (v : List ℕ) → request_message q ≡ value_message false v → ⊥
request_value q v e = let t : 34 ≡ 30 = ap message_type e in omega (arith, t)

request_other : (q : Rattle.ssh_kex.specs.declared.group.GexParams.GexParams) (v : List ℕ) → request_message q ≡ value_message true v → ⊥
request_other q v e = let t : 34 ≡ 32 = ap message_type e in omega (arith, t)

-- ---- a group

-- the sizes of a client's own configuration, as a group's
short_sizes : (config : Config) → HasSizes config → IsShortGroup (record { params = config.gex; group = record { prime = []; generator = [] } })
short_sizes config z = record { prime = lit< tt; generator = lit< tt; least = z.least; preferred = z.wanted; most = z.most }

pub record GroupMade (peer_says : Says) (config : Config) (m : List ℕ) : Type 0 where
  pub group : DhGroup
  pub message : m ≡ group_message group
  pub short : (length group.prime < 2 ^ 31) × (length group.generator < 2 ^ 31)
  pub finds : peer_says.finds config.gex group

group_by : (peer_says : Says) (p : Setting) (config : Config) (stage : Stage) (k l m : List ℕ) (more read : List (List ℕ)) → HasSizes config → p.side ≡ Server → FitsStage peer_says p stage (l ∷ m ∷ more) read → HasFront (k ∷ request_message config.gex ∷ []) read → GroupMade peer_says config m
group_by peer_says p config (Created own) k l m more read z e g f = absurd (let q : l ∷ m ∷ more ≡ own ∷ [] = g.own_is in cc)
group_by peer_says p config (AwaitsGroup o) k l m more read z e g f = absurd (wrong_side (sym g.client ∙ e))
group_by peer_says p config (AwaitsReply o gex local public) k l m more read z e g f = absurd (wrong_side (sym g.client ∙ e))
group_by peer_says p config (AwaitsRequest o) k l m more read z e g f = absurd (let q : l ∷ m ∷ more ≡ o.own_kexinit ∷ [] = g.own_is in cc)
group_by peer_says p config (AwaitsValue o None) k l m more read z e g f = absurd (let q : l ∷ m ∷ more ≡ o.own_kexinit ∷ [] = g.own_is in cc)
group_by peer_says p config (AwaitsValue o (Some q)) k l m more read z e g f =
    let own : l ∷ m ∷ more ≡ o.own_kexinit ∷ group_message q.group ∷ [] = g.own_is in
    let message : m ≡ group_message q.group = cc in
    let asked : (o.peer_kexinit ∷ request_message q.params ∷ []) ++ f.0 ≡ k ∷ request_message config.gex ∷ [] = ap (λ r. r ++ f.0) (sym g.theirs_is) ∙ f.1 in
    let request : request_message q.params ≡ request_message config.gex = cc in
    let same = sizes_one q (record { params = config.gex; group = record { prime = []; generator = [] } }) g.short_group (short_sizes config z) request in
    record { group = q.group; message = message; short = (g.short_group.prime, g.short_group.generator); finds = subst (λ x. peer_says.finds x q.group) same g.finds }
group_by peer_says p config (AwaitsNewkeys x made host) k l m more read z e g f = by x.gex refl where
  made_server : MadeServer peer_says p (l ∷ m ∷ more) (read ++ newkeys ∷ []) x made host
  made_server = subst (λ w. MadeBy w peer_says p (l ∷ m ∷ more) (read ++ newkeys ∷ []) x made host) e g

  theirs : (gex : Option GexChosen) → x.gex ≡ gex → read ++ newkeys ∷ [] ≡ client_by gex x.client_kex_init x.client_ephemeral
  theirs gex q = made_server.theirs_is ∙ ap (λ y. client_by y x.client_kex_init x.client_ephemeral) q

  by : (gex : Option GexChosen) → x.gex ≡ gex → GroupMade peer_says config m
  by None q = absurd (
      let r = client_read None x.client_kex_init x.client_ephemeral read (theirs None q) in
      let w : (x.client_kex_init ∷ value_message false x.client_ephemeral ∷ []) ++ f.0 ≡ k ∷ request_message config.gex ∷ [] = ap (λ y. y ++ f.0) (sym r) ∙ f.1 in
      let v : request_message config.gex ≡ value_message false x.client_ephemeral = cc in
      request_value config.gex x.client_ephemeral v)
  by (Some h) q = absurd (
      let r = client_read (Some h) x.client_kex_init x.client_ephemeral read (theirs (Some h) q) in
      let w : (x.client_kex_init ∷ request_message h.params ∷ value_message true x.client_ephemeral ∷ []) ++ f.0 ≡ k ∷ request_message config.gex ∷ [] = ap (λ y. y ++ f.0) (sym r) ∙ f.1 in
      cc)

pub group_made : (says peer_says : Says) (s p : Setting) (o : Opened) (stage : Stage) (own theirs : List (List ℕ)) (m : List ℕ) (more read : List (List ℕ)) → HasSizes s.config → p.side ≡ Server → FitsGroup says s o own theirs → FitsStage peer_says p stage (theirs ++ m ∷ more) read → HasFront own read → GroupMade peer_says s.config m
group_made says peer_says s p o stage own theirs m more read z e h g f =
    group_by peer_says p s.config stage o.own_kexinit o.peer_kexinit m more read z e (subst (λ t. FitsStage peer_says p stage (t ++ m ∷ more) read) h.theirs_is g) (subst (λ t. HasFront t read) h.own_is f)

-- ---- a reply

pub record ReplyMade (peer_says : Says) (p : Setting) (k l : List ℕ) (gex : Option GexChosen) (public m : List ℕ) : Type 0 where
  pub exchange : Exchange
  pub made : FinishedExchange
  pub host : Option ServerHost
  pub own : List (List ℕ)
  pub theirs : List (List ℕ)
  pub knows : MadeServer peer_says p own theirs exchange made host
  pub message : m ≡ reply_message (is_some gex) knows.shown.blob exchange.server_ephemeral knows.signature
  pub client_kexinit : exchange.client_kex_init ≡ k
  pub server_kexinit : exchange.server_kex_init ≡ l
  pub value : exchange.client_ephemeral ≡ public
  pub group : exchange.gex ≡ gex

reply_plain : (peer_says : Says) (p : Setting) (stage : Stage) (k l public m : List ℕ) (more read : List (List ℕ)) → p.side ≡ Server → length public < 2 ^ 31 → FitsStage peer_says p stage (l ∷ m ∷ more) read → HasFront (k ∷ value_message false public ∷ []) read → ReplyMade peer_says p k l None public m
reply_plain peer_says p (Created own) k l public m more read e z g f = absurd (let q : l ∷ m ∷ more ≡ own ∷ [] = g.own_is in cc)
reply_plain peer_says p (AwaitsGroup o) k l public m more read e z g f = absurd (wrong_side (sym g.client ∙ e))
reply_plain peer_says p (AwaitsReply o gex local v) k l public m more read e z g f = absurd (wrong_side (sym g.client ∙ e))
reply_plain peer_says p (AwaitsRequest o) k l public m more read e z g f = absurd (let q : l ∷ m ∷ more ≡ o.own_kexinit ∷ [] = g.own_is in cc)
reply_plain peer_says p (AwaitsValue o None) k l public m more read e z g f = absurd (let q : l ∷ m ∷ more ≡ o.own_kexinit ∷ [] = g.own_is in cc)
reply_plain peer_says p (AwaitsValue o (Some q)) k l public m more read e z g f = absurd (
    let w : (o.peer_kexinit ∷ request_message q.params ∷ []) ++ f.0 ≡ k ∷ value_message false public ∷ [] = ap (λ r. r ++ f.0) (sym g.theirs_is) ∙ f.1 in
    let v : request_message q.params ≡ value_message false public = cc in
    request_value q.params public v)
reply_plain peer_says p (AwaitsNewkeys x made host) k l public m more read e z g f = by x.gex refl where
  knows : MadeServer peer_says p (l ∷ m ∷ more) (read ++ newkeys ∷ []) x made host
  knows = subst (λ w. MadeBy w peer_says p (l ∷ m ∷ more) (read ++ newkeys ∷ []) x made host) e g

  theirs : (gex : Option GexChosen) → x.gex ≡ gex → read ++ newkeys ∷ [] ≡ client_by gex x.client_kex_init x.client_ephemeral
  theirs gex q = knows.theirs_is ∙ ap (λ y. client_by y x.client_kex_init x.client_ephemeral) q

  own : (gex : Option GexChosen) → x.gex ≡ gex → l ∷ m ∷ more ≡ server_by gex x.server_kex_init knows.shown.blob x.server_ephemeral knows.signature
  own gex q = knows.own_is ∙ ap (λ y. server_by y x.server_kex_init knows.shown.blob x.server_ephemeral knows.signature) q

  by : (gex : Option GexChosen) → x.gex ≡ gex → ReplyMade peer_says p k l None public m
  by None q =
      let r = client_read None x.client_kex_init x.client_ephemeral read (theirs None q) in
      let w : (x.client_kex_init ∷ value_message false x.client_ephemeral ∷ []) ++ f.0 ≡ k ∷ value_message false public ∷ [] = ap (λ y. y ++ f.0) (sym r) ∙ f.1 in
      let a : l ∷ m ∷ more ≡ x.server_kex_init ∷ reply_message false knows.shown.blob x.server_ephemeral knows.signature ∷ newkeys ∷ [] = own None q in
      let first : x.client_kex_init ≡ k = cc in
      let last : value_message false x.client_ephemeral ≡ value_message false public = cc in
      let head : x.server_kex_init ≡ l = cc in
      let reply : m ≡ reply_message false knows.shown.blob x.server_ephemeral knows.signature = cc in
      record { exchange = x; made = made; host = host; own = l ∷ m ∷ more; theirs = read ++ newkeys ∷ []; knows = knows; message = reply; client_kexinit = first; server_kexinit = head; value = value_one false x.client_ephemeral public knows.short.client_value (omega (arith, z)) last; group = q }
  by (Some h) q = absurd (
      let r = client_read (Some h) x.client_kex_init x.client_ephemeral read (theirs (Some h) q) in
      let w : (x.client_kex_init ∷ request_message h.params ∷ value_message true x.client_ephemeral ∷ []) ++ f.0 ≡ k ∷ value_message false public ∷ [] = ap (λ y. y ++ f.0) (sym r) ∙ f.1 in
      cc)

reply_gex : (peer_says : Says) (p : Setting) (stage : Stage) (chosen : GexChosen) (k l public m : List ℕ) (more read : List (List ℕ)) → p.side ≡ Server → length public < 2 ^ 31 → FindsCanonical peer_says → IsCanonical chosen.group → IsShortGroup chosen → FitsStage peer_says p stage (l ∷ group_message chosen.group ∷ m ∷ more) read → HasFront (k ∷ request_message chosen.params ∷ value_message true public ∷ []) read → ReplyMade peer_says p k l (Some chosen) public m
reply_gex peer_says p (Created own) chosen k l public m more read e z c i s g f = absurd (let q : l ∷ group_message chosen.group ∷ m ∷ more ≡ own ∷ [] = g.own_is in cc)
reply_gex peer_says p (AwaitsGroup o) chosen k l public m more read e z c i s g f = absurd (wrong_side (sym g.client ∙ e))
reply_gex peer_says p (AwaitsReply o gex local v) chosen k l public m more read e z c i s g f = absurd (wrong_side (sym g.client ∙ e))
reply_gex peer_says p (AwaitsRequest o) chosen k l public m more read e z c i s g f = absurd (let q : l ∷ group_message chosen.group ∷ m ∷ more ≡ o.own_kexinit ∷ [] = g.own_is in cc)
reply_gex peer_says p (AwaitsValue o None) chosen k l public m more read e z c i s g f = absurd (let q : l ∷ group_message chosen.group ∷ m ∷ more ≡ o.own_kexinit ∷ [] = g.own_is in cc)
reply_gex peer_says p (AwaitsValue o (Some q)) chosen k l public m more read e z c i s g f = absurd (let w : l ∷ group_message chosen.group ∷ m ∷ more ≡ o.own_kexinit ∷ group_message q.group ∷ [] = g.own_is in cc)
reply_gex peer_says p (AwaitsNewkeys x made host) chosen k l public m more read e z c i s g f = by x.gex refl where
  knows : MadeServer peer_says p (l ∷ group_message chosen.group ∷ m ∷ more) (read ++ newkeys ∷ []) x made host
  knows = subst (λ w. MadeBy w peer_says p (l ∷ group_message chosen.group ∷ m ∷ more) (read ++ newkeys ∷ []) x made host) e g

  theirs : (gex : Option GexChosen) → x.gex ≡ gex → read ++ newkeys ∷ [] ≡ client_by gex x.client_kex_init x.client_ephemeral
  theirs gex q = knows.theirs_is ∙ ap (λ y. client_by y x.client_kex_init x.client_ephemeral) q

  own : (gex : Option GexChosen) → x.gex ≡ gex → l ∷ group_message chosen.group ∷ m ∷ more ≡ server_by gex x.server_kex_init knows.shown.blob x.server_ephemeral knows.signature
  own gex q = knows.own_is ∙ ap (λ y. server_by y x.server_kex_init knows.shown.blob x.server_ephemeral knows.signature) q

  by : (gex : Option GexChosen) → x.gex ≡ gex → ReplyMade peer_says p k l (Some chosen) public m
  by None q = absurd (
      let r = client_read None x.client_kex_init x.client_ephemeral read (theirs None q) in
      let w : (x.client_kex_init ∷ value_message false x.client_ephemeral ∷ []) ++ f.0 ≡ k ∷ request_message chosen.params ∷ value_message true public ∷ [] = ap (λ y. y ++ f.0) (sym r) ∙ f.1 in
      let v : request_message chosen.params ≡ value_message false x.client_ephemeral = cc in
      request_value chosen.params x.client_ephemeral v)
  by (Some h) q =
      let r = client_read (Some h) x.client_kex_init x.client_ephemeral read (theirs (Some h) q) in
      let w : (x.client_kex_init ∷ request_message h.params ∷ value_message true x.client_ephemeral ∷ []) ++ f.0 ≡ k ∷ request_message chosen.params ∷ value_message true public ∷ [] = ap (λ y. y ++ f.0) (sym r) ∙ f.1 in
      let a : l ∷ group_message chosen.group ∷ m ∷ more ≡ x.server_kex_init ∷ group_message h.group ∷ reply_message true knows.shown.blob x.server_ephemeral knows.signature ∷ newkeys ∷ [] = own (Some h) q in
      let first : x.client_kex_init ≡ k = cc in
      let asked : request_message h.params ≡ request_message chosen.params = cc in
      let last : value_message true x.client_ephemeral ≡ value_message true public = cc in
      let head : x.server_kex_init ≡ l = cc in
      let answered : group_message h.group ≡ group_message chosen.group = cc in
      let reply : m ≡ reply_message true knows.shown.blob x.server_ephemeral knows.signature = cc in
      let short : IsShortGroup h = subst (λ y. IfSome y IsShortGroup) q knows.short.group in
      let found : peer_says.finds h.params h.group = subst (λ y. IfSome y (λ (t : GexChosen). peer_says.finds t.params t.group)) q knows.finds in
      let group = group_one h.group chosen.group (c h.params h.group found) i short.prime short.generator s.prime s.generator answered in
      let params = sizes_one h chosen short s asked in
      record { exchange = x; made = made; host = host; own = l ∷ group_message chosen.group ∷ m ∷ more; theirs = read ++ newkeys ∷ []; knows = knows; message = reply; client_kexinit = first; server_kexinit = head; value = value_one true x.client_ephemeral public knows.short.client_value (omega (arith, z)) last; group = q ∙ ap Some (same_gex h.params chosen.params h.group chosen.group params group) }

pub reply_made : (says peer_says : Says) (s p : Setting) (o : Opened) (gex : Option GexChosen) (local public : List ℕ) (stage : Stage) (own theirs : List (List ℕ)) (m : List ℕ) (more read : List (List ℕ)) → p.side ≡ Server → FindsCanonical peer_says → FitsReply says s o gex local public own theirs → FitsStage peer_says p stage (theirs ++ m ∷ more) read → HasFront own read → ReplyMade peer_says p o.own_kexinit o.peer_kexinit gex public m
reply_made says peer_says s p o None local public stage own theirs m more read e c h g f =
    reply_plain peer_says p stage o.own_kexinit o.peer_kexinit public m more read e h.short (subst (λ t. FitsStage peer_says p stage (t ++ m ∷ more) read) h.theirs_is g) (subst (λ t. HasFront t read) h.own_is f)
reply_made says peer_says s p o (Some q) local public stage own theirs m more read e c h g f =
    reply_gex peer_says p stage q o.own_kexinit o.peer_kexinit public m more read e h.short c h.group.canonical h.short_group (subst (λ t. FitsStage peer_says p stage (t ++ m ∷ more) read) h.theirs_is g) (subst (λ t. HasFront t read) h.own_is f)

-- ---- a client's value

pub record ValueMade (peer_says : Says) (p : Setting) (k l : List ℕ) (gex : Option GexChosen) (m : List ℕ) : Type 0 where
  pub local : List ℕ
  pub value : List ℕ
  pub names : Names
  pub message : m ≡ value_message (is_some gex) value
  pub short : length value < 2 ^ 31
  pub negotiated : Negotiated Client p.config p.cause l k names
  pub makes : peer_says.client_makes names.kex (group_of gex) local value
  pub asked : IfSome gex (λ (g : GexChosen). g.params ≡ p.config.gex)

value_plain : (peer_says : Says) (p : Setting) (stage : Stage) (k l v m : List ℕ) (more read : List (List ℕ)) → p.side ≡ Client → m ≡ value_message false v → FitsStage peer_says p stage (l ∷ m ∷ more) read → HasFront (k ∷ []) read → ValueMade peer_says p k l None m
value_plain peer_says p (Created own) k l v m more read e z g f = absurd (let q : l ∷ m ∷ more ≡ own ∷ [] = g.own_is in cc)
value_plain peer_says p (AwaitsGroup o) k l v m more read e z g f = absurd (
    let q : l ∷ m ∷ more ≡ o.own_kexinit ∷ request_message p.config.gex ∷ [] = g.own_is in
    let w : m ≡ request_message p.config.gex = cc in
    request_value p.config.gex v (sym w ∙ z))
value_plain peer_says p (AwaitsReply o None local public) k l v m more read e z g f =
    let q : l ∷ m ∷ more ≡ o.own_kexinit ∷ value_message false public ∷ [] = g.own_is in
    let own : o.own_kexinit ≡ l = cc in
    let message : m ≡ value_message false public = cc in
    let w : (o.peer_kexinit ∷ []) ++ f.0 ≡ k ∷ [] = ap (λ r. r ++ f.0) (sym g.theirs_is) ∙ f.1 in
    let peer : o.peer_kexinit ≡ k = cc in
    record {
      local = local;
      value = public;
      names = o.names;
      message = message;
      short = g.short;
      negotiated = subst (λ x. Negotiated Client p.config p.cause x k o.names) own (subst (λ y. Negotiated Client p.config p.cause o.own_kexinit y o.names) peer (by_opened peer_says p o Client e g.opened));
      makes = g.makes;
      asked = tt;
    }
value_plain peer_says p (AwaitsReply o (Some h) local public) k l v m more read e z g f = absurd (
    let q : l ∷ m ∷ more ≡ o.own_kexinit ∷ request_message h.params ∷ value_message true public ∷ [] = g.own_is in
    let w : m ≡ request_message h.params = cc in
    request_value h.params v (sym w ∙ z))
value_plain peer_says p (AwaitsRequest o) k l v m more read e z g f = absurd (wrong_side (sym e ∙ g.server))
value_plain peer_says p (AwaitsValue o gex) k l v m more read e z g f = absurd (wrong_side (sym e ∙ g.server))
value_plain peer_says p (AwaitsNewkeys x made host) k l v m more read e z g f = absurd (by x.gex refl) where
  knows : MadeClient peer_says p (l ∷ m ∷ more) (read ++ newkeys ∷ []) x made host
  knows = subst (λ w. MadeBy w peer_says p (l ∷ m ∷ more) (read ++ newkeys ∷ []) x made host) e g

  theirs : (gex : Option GexChosen) → x.gex ≡ gex → read ++ newkeys ∷ [] ≡ server_by gex x.server_kex_init knows.host x.server_ephemeral knows.signature
  theirs gex q = knows.theirs_is ∙ ap (λ y. server_by y x.server_kex_init knows.host x.server_ephemeral knows.signature) q

  by : (gex : Option GexChosen) → x.gex ≡ gex → ⊥
  by None q =
      let r = server_read None x.server_kex_init knows.host x.server_ephemeral knows.signature read (theirs None q) in
      let w : (x.server_kex_init ∷ reply_message false knows.host x.server_ephemeral knows.signature ∷ []) ++ f.0 ≡ k ∷ [] = ap (λ y. y ++ f.0) (sym r) ∙ f.1 in
      cc
  by (Some h) q =
      let r = server_read (Some h) x.server_kex_init knows.host x.server_ephemeral knows.signature read (theirs (Some h) q) in
      let w : (x.server_kex_init ∷ group_message h.group ∷ reply_message true knows.host x.server_ephemeral knows.signature ∷ []) ++ f.0 ≡ k ∷ [] = ap (λ y. y ++ f.0) (sym r) ∙ f.1 in
      cc

value_gex : (peer_says : Says) (p : Setting) (stage : Stage) (chosen : GexChosen) (k l m : List ℕ) (more read : List (List ℕ)) → p.side ≡ Client → IsCanonical chosen.group → IsShortGroup chosen → FitsStage peer_says p stage (l ∷ request_message chosen.params ∷ m ∷ more) read → HasFront (k ∷ group_message chosen.group ∷ []) read → ValueMade peer_says p k l (Some chosen) m
value_gex peer_says p (Created own) chosen k l m more read e c s g f = absurd (let q : l ∷ request_message chosen.params ∷ m ∷ more ≡ own ∷ [] = g.own_is in cc)
value_gex peer_says p (AwaitsGroup o) chosen k l m more read e c s g f = absurd (let q : l ∷ request_message chosen.params ∷ m ∷ more ≡ o.own_kexinit ∷ request_message p.config.gex ∷ [] = g.own_is in cc)
value_gex peer_says p (AwaitsReply o None local public) chosen k l m more read e c s g f = absurd (let q : l ∷ request_message chosen.params ∷ m ∷ more ≡ o.own_kexinit ∷ value_message false public ∷ [] = g.own_is in cc)
value_gex peer_says p (AwaitsReply o (Some h) local public) chosen k l m more read e c s g f =
    let q : l ∷ request_message chosen.params ∷ m ∷ more ≡ o.own_kexinit ∷ request_message h.params ∷ value_message true public ∷ [] = g.own_is in
    let own : o.own_kexinit ≡ l = cc in
    let message : m ≡ value_message true public = cc in
    let w : (o.peer_kexinit ∷ group_message h.group ∷ []) ++ f.0 ≡ k ∷ group_message chosen.group ∷ [] = ap (λ r. r ++ f.0) (sym g.theirs_is) ∙ f.1 in
    let peer : o.peer_kexinit ≡ k = cc in
    let answered : group_message h.group ≡ group_message chosen.group = cc in
    let asked : request_message chosen.params ≡ request_message h.params = cc in
    let group : h.group ≡ chosen.group = group_one h.group chosen.group g.group.canonical c g.short_group.prime g.short_group.generator s.prime s.generator answered in
    record {
      local = local;
      value = public;
      names = o.names;
      message = message;
      short = g.short;
      negotiated = subst (λ x. Negotiated Client p.config p.cause x k o.names) own (subst (λ y. Negotiated Client p.config p.cause o.own_kexinit y o.names) peer (by_opened peer_says p o Client e g.opened));
      makes = subst (λ x. peer_says.client_makes o.names.kex (Some x) local public) group g.makes;
      asked = sizes_one chosen h s g.short_group asked ∙ g.group.params_are;
    }
value_gex peer_says p (AwaitsRequest o) chosen k l m more read e c s g f = absurd (wrong_side (sym e ∙ g.server))
value_gex peer_says p (AwaitsValue o gex) chosen k l m more read e c s g f = absurd (wrong_side (sym e ∙ g.server))
value_gex peer_says p (AwaitsNewkeys x made host) chosen k l m more read e c s g f = absurd (by x.gex refl) where
  knows : MadeClient peer_says p (l ∷ request_message chosen.params ∷ m ∷ more) (read ++ newkeys ∷ []) x made host
  knows = subst (λ w. MadeBy w peer_says p (l ∷ request_message chosen.params ∷ m ∷ more) (read ++ newkeys ∷ []) x made host) e g

  theirs : (gex : Option GexChosen) → x.gex ≡ gex → read ++ newkeys ∷ [] ≡ server_by gex x.server_kex_init knows.host x.server_ephemeral knows.signature
  theirs gex q = knows.theirs_is ∙ ap (λ y. server_by y x.server_kex_init knows.host x.server_ephemeral knows.signature) q

  by : (gex : Option GexChosen) → x.gex ≡ gex → ⊥
  by None q =
      let a : l ∷ request_message chosen.params ∷ m ∷ more ≡ x.client_kex_init ∷ value_message false x.client_ephemeral ∷ newkeys ∷ [] = knows.own_is ∙ ap (λ y. client_by y x.client_kex_init x.client_ephemeral) q in
      let v : request_message chosen.params ≡ value_message false x.client_ephemeral = cc in
      request_value chosen.params x.client_ephemeral v
  by (Some h) q =
      let r = server_read (Some h) x.server_kex_init knows.host x.server_ephemeral knows.signature read (theirs (Some h) q) in
      let w : (x.server_kex_init ∷ group_message h.group ∷ reply_message true knows.host x.server_ephemeral knows.signature ∷ []) ++ f.0 ≡ k ∷ group_message chosen.group ∷ [] = ap (λ y. y ++ f.0) (sym r) ∙ f.1 in
      cc

pub value_made : (says peer_says : Says) (s p : Setting) (o : Opened) (gex : Option GexChosen) (v : List ℕ) (stage : Stage) (own theirs : List (List ℕ)) (m : List ℕ) (more read : List (List ℕ)) → p.side ≡ Client → FindsCanonical says → m ≡ value_message (is_some gex) v → FitsValue says s o gex own theirs → FitsStage peer_says p stage (theirs ++ m ∷ more) read → HasFront own read → ValueMade peer_says p o.own_kexinit o.peer_kexinit gex m
value_made says peer_says s p o None v stage own theirs m more read e c z h g f =
    value_plain peer_says p stage o.own_kexinit o.peer_kexinit v m more read e z (subst (λ t. FitsStage peer_says p stage (t ++ m ∷ more) read) h.theirs_is g) (subst (λ t. HasFront t read) h.own_is f)
value_made says peer_says s p o (Some q) v stage own theirs m more read e c z h g f =
    value_gex peer_says p stage q o.own_kexinit o.peer_kexinit m more read e (c q.params q.group h.finds) h.short_group (subst (λ t. FitsStage peer_says p stage (t ++ m ∷ more) read) h.theirs_is g) (subst (λ t. HasFront t read) h.own_is f)
