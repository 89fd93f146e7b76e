-- Parts that do what they owe refuse no message that the other side's parts made, and lawful parts make none too long.
use Rattle.std.proofs.Common.{◌≡◌, ℕ, ◌+◌, ◌<◌, ◌≤◌, nat_lt, List, [], ◌∷◌, ◌++◌, length, refl, sym, ◌∙◌, ap, subst, arith, Bool, true, false, ◌||◌, ◌&&◌, if◌then◌else◌, Option, Some, None, Ok, Result, ◌⊎◌, inl, inr, length-append}
use Rattle.std.proofs.lemmas.Bool.Decides.{nat_tests}
use Rattle.std.specs.Prelude.{IfSome, find, is_some}
use Rattle.std.specs.List.{list_any}
use Rattle.std.specs.Str.{bytes_eq}
use Rattle.ssh_packet.specs.Sealing.{longest_payload}
use Rattle.ssh_wire.proofs.Lemmas.{magnitude_length, unsigned_length}
use Rattle.ssh_wire.specs.Forms.{magnitude, mpint, string, u32be}
use Rattle.ssh_wire.specs.Sides.{other_side}
use Rattle.ssh_wire.specs.declared.error.EncodingFault.{EncodingFault}
use Rattle.ssh_wire.specs.declared.error.Error.{Error}
use Rattle.ssh_wire.specs.declared.error.Error.TheVariants as errors
use Rattle.ssh_wire.specs.declared.algorithm.Algorithm.{Algorithm}
use Rattle.ssh_wire.specs.declared.side.Side.{Side}
use Rattle.ssh_wire.specs.declared.side.Side.TheVariants.{Client, Server}
use Rattle.ssh_negotiate.specs.Advertised.{fits, has_key}
use Rattle.ssh_negotiate.specs.Laws.{IsWithin}
use Rattle.ssh_negotiate.specs.declared.kex.Name as kexes
use Rattle.ssh_negotiate.specs.declared.negotiation.Names.{Names}
use Rattle.ssh_negotiate.specs.declared.preferred.HostCertificate.{HostCertificate}
use Rattle.ssh_negotiate.specs.declared.preferred.HostKey.{HostKey}
use Rattle.ssh_kex.specs.Messages.{IsCanonical, Presented, by_certificate, by_holder, by_key, group_message, host_with, is_gex, presented, reply_message, value_message}
use Rattle.ssh_kex.specs.Parts.{HasItsGroup, IsSmall}
use Rattle.ssh_kex.specs.Refusals.{Denies, IsOutOfRange, IsTooLong, IsUnoffered, PartDenies, SignatureDenied, SigningDenied, kexinit_read}
use Rattle.ssh_kex.specs.Fields.{IsInside, IsOutside, ReplyFront, fields, group_in, reply_front, sizes_in, value_in}
use Rattle.ssh_kex.specs.Setting.{Says, Setting, Opened, exchange_by, exchange_of, group_of, made_of, offers_of}
use Rattle.ssh_kex.specs.Signature.{judged}
use Rattle.ssh_kex.specs.Stages.{Stage, Created, AwaitsGroup, AwaitsReply, AwaitsRequest, AwaitsValue, AwaitsNewkeys}
use Rattle.ssh_kex.specs.declared.config.Config.{Config}
use Rattle.ssh_kex.specs.declared.exchange.GexChosen.{GexChosen}
use Rattle.ssh_kex.specs.declared.exchange.ServerHost.{ServerHost}
use Rattle.ssh_kex.specs.declared.group.DhGroup.{DhGroup}
use Rattle.ssh_kex.specs.declared.group.GexParams.{GexParams}
use Rattle.ssh_rules.specs.Laws.{FindsCanonical, OneLink, OneSecret}
use Rattle.ssh_rules.specs.LinkCauses.{Rises}
use Rattle.ssh_rules.specs.Made.{IsOwnGroup}
use Rattle.ssh_rules.specs.Valid.{HasSizes, longest_blob, some_blob_long}
use Rattle.ssh_rules.specs.Wire.{HasFront}
use Rattle.ssh_rules.proofs.pair.Awaited.{IsReadable}
use Rattle.ssh_rules.proofs.pair.SameRecords.{made_alike, same_exchange}
use Rattle.ssh_rules.proofs.pair.NextMadeOf.{ReplyMade, ValueMade, both_hold, by_opened, by_server, group_made, reply_made, value_made}
use Rattle.ssh_rules.proofs.refusals.OnlyParts.{PartsRefuse, form_length, reply_fields, value_fields}
use Rattle.ssh_rules.proofs.side.ReadAgain.{front_again, group_again, sizes_again, value_again}
use Rattle.ssh_rules.proofs.side.StageFits.{FitsStage, its_group}

-- What is known where a part of the one that reads refuses an answer that it owes.
-- the group of an exchange is the one that the server's lookup finds for the client's sizes
abbrev pub IsDue : (Side → Says) → (Side → Config) → kexes.Name → Option DhGroup → Type 0
IsDue says config kex None = is_gex kex ≡ false
IsDue says config kex (Some group) = (is_gex kex ≡ true) × (says Server).finds (config Client).gex group

pub record Owes (says : Side → Says) (config : Side → Config) (side : Side) (kex : kexes.Name) (denies : Denies) (r : Rises) : Type 0 where
  pub start : (name : kexes.Name) (group : Option DhGroup) → IsDue says config kex group → HasItsGroup name group → (says side).offers name → denies.start name group → r.agreement
  pub value : (name : kexes.Name) (group : Option DhGroup) (local public : List ℕ) → IsDue says config kex group → HasItsGroup name group → (says side).offers name → (says Client).client_makes name group local public → denies.value name group public → r.agreement
  pub reply : (name : kexes.Name) (group : Option DhGroup) (local public value : List ℕ) → IsDue says config kex group → HasItsGroup name group → (says side).offers name → (says Client).client_makes name group local public → (says Server).server_makes name group public value → denies.reply name group local value → r.agreement
  pub lookup : side ≡ Server → is_gex kex ≡ true → (sizes : GexParams) → denies.lookup sizes → r.lookup
  pub sign : side ≡ Server → denies.sign (config Server) → r.signing
  pub verify : side ≡ Client → (host : ServerHost) (hash signature : List ℕ) → (says Server).signs host hash signature → denies.verify host hash signature → r.verifying

-- obliging parts of both sides refuse none
abbrev pub none_rose : Rises
none_rose = record { agreement = ⊥; lookup = ⊥; signing = ⊥; verifying = ⊥; checking = ⊥ }

pub record Duties (says : Side → Says) (config : Side → Config) (side : Side) (kex : kexes.Name) (denies : Denies) : Type 0 where
  pub offered : (says side).offers kex
  pub owes : Owes says config side kex denies none_rose
  pub fits : is_gex kex ≡ true → (group : DhGroup) → (says Server).finds (config Client).gex group → IsInside (config Client).gex group

-- what lawful parts make is small
pub record AreSmall (says : Says) (side : Side) (gex : GexParams) : Type 0 where
  pub value : (v : List ℕ) → says.value_small v → length v ≤ 65536
  pub signature : (v : List ℕ) → says.signature_small v → length v ≤ 65536
  pub group : side ≡ Server → (group : DhGroup) → says.finds gex group → IsSmall group.prime × IsSmall group.generator

-- A stage that awaits a message, and what its writer had of the exchange when it was written.
pub record Faces (says : Side → Says) (s p : Setting) (stage : Stage) (m : List ℕ) : Type 0 where
  pub own : List (List ℕ)
  pub theirs : List (List ℕ)
  pub here : FitsStage (says s.side) s stage own theirs
  pub peer_stage : Stage
  pub more : List (List ℕ)
  pub read : List (List ℕ)
  pub there : FitsStage (says p.side) p peer_stage (theirs ++ m ∷ more) read
  pub front : HasFront own read
  pub sides : p.side ≡ other_side s.side
  pub link : OneLink s p

-- what holds of the two sides whatever is read
pub record AreBoth (says : Side → Says) (config : Side → Config) (s p : Setting) : Type 0 where
  pub config_is : s.config ≡ config s.side
  pub peer_config_is : p.config ≡ config p.side
  pub sizes : (side : Side) → HasSizes (config side)
  pub client_within : IsWithin (offers_of Client (config Client))
  pub server_within : IsWithin (offers_of Server (config Server))
  pub secret : OneSecret (says Client) (says Server)
  pub canonical : FindsCanonical (says Server)

ok_is : {A : Type 0} (r : Result A EncodingFault) (x y : A) → r ≡ Ok x → r ≡ Ok y → x ≡ y
ok_is r x y e f = let q : Ok x ≡ Ok y = sym e ∙ f in cc

server_is : (s p : Setting) → s.side ≡ Client → p.side ≡ other_side s.side → p.side ≡ Server
server_is s p e f = f ∙ ap other_side e

client_is : (s p : Setting) → s.side ≡ Server → p.side ≡ other_side s.side → p.side ≡ Client
client_is s p e f = f ∙ ap other_side e

-- ---- a group

group_same : (g : DhGroup) → IsCanonical g → (let t : DhGroup = record { prime = magnitude g.prime; generator = magnitude g.generator } in t) ≡ g
group_same g c = ap (λ x. let t : DhGroup = record { prime = x; generator = magnitude g.generator } in t) c.prime ∙ ap (λ x. let t : DhGroup = record { prime = g.prime; generator = x } in t) c.generator

not_inside : (sizes : GexParams) (g : DhGroup) → IsInside sizes g → IsOutside sizes g → ⊥
not_inside sizes g i (inl l) = omega (arith, i.least, l)
not_inside sizes g i (inr l) = omega (arith, i.most, l)

-- the group that a client reads is one that the server found for its sizes
group_found : (says : Side → Says) (config : Side → Config) (s p : Setting) (o : Opened) (m : List ℕ) (group : DhGroup) → AreBoth says config s p → Faces says s p (AwaitsGroup o) m → group_in (fields m) ≡ Ok group → (says Server).finds (config Client).gex group
group_found says config s p o m group b f h =
    let server = server_is s p f.here.client f.sides in
    let mine : s.config ≡ config Client = b.config_is ∙ ap config f.here.client in
    let g = group_made (says s.side) (says p.side) s p o f.peer_stage f.own f.theirs m f.more f.read (subst HasSizes (sym b.config_is) (b.sizes s.side)) server f.here f.there f.front in
    let finds : (says Server).finds (config Client).gex g.group = subst (λ w. (says w).finds (config Client).gex g.group) server (subst (λ (c : Config). (says p.side).finds c.gex g.group) mine g.finds) in
    let canonical = b.canonical (config Client).gex g.group finds in
    let read : group_in (fields m) ≡ Ok g.group = ap (λ x. group_in (fields x)) g.message ∙ (group_again g.group (let l = g.short.0 in omega (arith, l)) (let l = g.short.1 in omega (arith, l)) ∙ ap (λ x. let r : Result DhGroup EncodingFault = Ok x in r) (group_same g.group canonical)) in
    subst ((says Server).finds (config Client).gex) (ok_is (group_in (fields m)) g.group group read h) finds

not_outside : (says : Side → Says) (config : Side → Config) (s p : Setting) (stage : Stage) (m : List ℕ) → ((group : DhGroup) → (says Server).finds (config Client).gex group → IsInside (config Client).gex group) → AreBoth says config s p → Faces says s p stage m → IsOutOfRange s stage m → ⊥
not_outside says config s p (Created own) m fits b f h = h
not_outside says config s p (AwaitsGroup o) m fits b f h =
    let mine : s.config ≡ config Client = b.config_is ∙ ap config f.here.client in
    not_inside (config Client).gex h.0 (fits h.0 (group_found says config s p o m h.0 b f h.1)) (subst (λ (c : Config). IsOutside c.gex h.0) mine h.2)
not_outside says config s p (AwaitsReply o gex local public) m fits b f h = h
not_outside says config s p (AwaitsRequest o) m fits b f h = h
not_outside says config s p (AwaitsValue o gex) m fits b f h = h
not_outside says config s p (AwaitsNewkeys exchange made host) m fits b f h = h

-- ---- a reply

-- what a reply reads as, and the names and the exchange that both have
pub record ReplyRead (says : Side → Says) (s p : Setting) (o : Opened) (gex : Option GexChosen) (public m : List ℕ) : Type 0 where
  pub made : ReplyMade (says p.side) p o.own_kexinit o.peer_kexinit gex public m
  pub names : o.names ≡ made.knows.names
  pub front : reply_front (fields m) ≡ Ok (record { host = made.knows.shown.blob; value = made.exchange.server_ephemeral; behind = string made.knows.signature })
  pub behind : value_in (string made.knows.signature) ≡ Ok made.knows.signature
  pub makes : (says Server).server_makes o.names.kex (group_of gex) public made.exchange.server_ephemeral

reply_read : (says : Side → Says) (config : Side → Config) (s p : Setting) (o : Opened) (gex : Option GexChosen) (local public m : List ℕ) → AreBoth says config s p → Faces says s p (AwaitsReply o gex local public) m → ReplyRead says s p o gex public m
reply_read says config s p o gex local public m b f = record { made = r; names = names; front = front; behind = value_again r.knows.signature r.knows.short.signed; makes = makes } where
  server : p.side ≡ Server
  server = server_is s p f.here.client f.sides

  mine : s.config ≡ config Client
  mine = b.config_is ∙ ap config f.here.client

  peer : p.config ≡ config Server
  peer = b.peer_config_is ∙ ap config server

  canonical : FindsCanonical (says p.side)
  canonical = subst (λ w. FindsCanonical (says w)) (sym server) b.canonical

  r : ReplyMade (says p.side) p o.own_kexinit o.peer_kexinit gex public m
  r = reply_made (says s.side) (says p.side) s p o gex local public f.peer_stage f.own f.theirs m f.more f.read server canonical f.here f.there f.front

  names : o.names ≡ r.knows.names
  names =
      let k = by_opened (says s.side) s o Client f.here.client f.here.opened in
      let q = by_server (says p.side) p r.own r.theirs r.exchange r.made r.host r.knows in
      both_hold s.config p.config s.cause o.own_kexinit o.peer_kexinit o.names r.knows.names (subst (λ c. IsWithin (offers_of Client c)) (sym mine) b.client_within) (subst (λ c. IsWithin (offers_of Server c)) (sym peer) b.server_within)
      k (subst (λ c. Rattle.ssh_rules.proofs.pair.NextMadeOf.Negotiated Server p.config c o.peer_kexinit o.own_kexinit r.knows.names) (sym f.link.cause) (subst (λ x. Rattle.ssh_rules.proofs.pair.NextMadeOf.Negotiated Server p.config p.cause x o.own_kexinit r.knows.names) r.server_kexinit (subst (λ x. Rattle.ssh_rules.proofs.pair.NextMadeOf.Negotiated Server p.config p.cause r.exchange.server_kex_init x r.knows.names) r.client_kexinit q)))

  front : reply_front (fields m) ≡ Ok (record { host = r.knows.shown.blob; value = r.exchange.server_ephemeral; behind = string r.knows.signature })
  front = ap (λ x. reply_front (fields x)) r.message ∙ (ap reply_front (reply_fields (is_some gex) r.knows.shown.blob r.exchange.server_ephemeral r.knows.signature) ∙ front_again r.knows.shown.blob r.exchange.server_ephemeral (string r.knows.signature) r.knows.short.host_blob r.knows.short.server_value)

  makes : (says Server).server_makes o.names.kex (group_of gex) public r.exchange.server_ephemeral
  makes = subst (λ w. (says w).server_makes o.names.kex (group_of gex) public r.exchange.server_ephemeral) server
      (subst (λ (n : Names). (says p.side).server_makes n.kex (group_of gex) public r.exchange.server_ephemeral) (sym names)
      (subst (λ v. (says p.side).server_makes r.knows.names.kex (group_of gex) v r.exchange.server_ephemeral) r.value
      (subst (λ y. (says p.side).server_makes r.knows.names.kex (group_of y) r.exchange.client_ephemeral r.exchange.server_ephemeral) r.group r.knows.makes)))

faced_missigned : (says : Side → Says) (config : Side → Config) (s p : Setting) (stage : Stage) (m : List ℕ) (kex : kexes.Name) (denies : Denies) (rises : Rises) → Owes says config s.side kex denies rises → AreBoth says config s p → Faces says s p stage m → SignatureDenied (says s.side) denies s stage m → (s.side ≡ Client) × rises.verifying
faced_missigned says config s p (Created own) m kex denies rises d b f h = absurd h
faced_missigned says config s p (AwaitsGroup o) m kex denies rises d b f h = absurd h
faced_missigned says config s p (AwaitsReply o gex local public) m kex denies rises d b f h = (f.here.client, d.verify f.here.client (host_with r.knows.names r.knows.shown.blob) r.made.hash (judged r.knows.signature) signs denied) where
  q : ReplyRead says s p o gex public m
  q = reply_read says config s p o gex local public m b f

  r : ReplyMade (says p.side) p o.own_kexinit o.peer_kexinit gex public m
  r = q.made

  server : p.side ≡ Server
  server = server_is s p f.here.client f.sides

  signs : (says Server).signs (host_with r.knows.names r.knows.shown.blob) r.made.hash (judged r.knows.signature)
  signs = subst (λ w. (says w).signs (host_with r.knows.names r.knows.shown.blob) r.made.hash (judged r.knows.signature)) server r.knows.signs

  fronts : h.front ≡ record { host = r.knows.shown.blob; value = r.exchange.server_ephemeral; behind = string r.knows.signature }
  fronts = ok_is (reply_front (fields m)) h.front (record { host = r.knows.shown.blob; value = r.exchange.server_ephemeral; behind = string r.knows.signature }) h.read q.front

  host : h.front.host ≡ r.knows.shown.blob
  host = ap (λ (x : ReplyFront). x.host) fronts

  value : h.front.value ≡ r.exchange.server_ephemeral
  value = ap (λ (x : ReplyFront). x.value) fronts

  signature : h.signature ≡ r.knows.signature
  signature = ok_is (value_in (string r.knows.signature)) h.signature r.knows.signature (ap value_in (sym (ap (λ (x : ReplyFront). x.behind) fronts)) ∙ h.rest) q.behind

  exchange : exchange_of s o gex public h.front.value ≡ r.exchange
  exchange = ap (λ w. exchange_by w s o gex public h.front.value) f.here.client
      ∙ same_exchange (exchange_by Client s o gex public h.front.value) r.exchange (f.link.client_id ∙ sym r.knows.client_id) (f.link.server_id ∙ sym r.knows.server_id) (sym r.client_kexinit) (sym r.server_kexinit) (sym r.value) value (sym r.group)

  -- both agreed on one secret
  mine : (says Client).agrees o.names.kex (group_of gex) public r.exchange.server_ephemeral h.secret
  mine = subst (λ v. (says Client).agrees o.names.kex (group_of gex) public v h.secret) value (subst (λ w. (says w).agrees o.names.kex (group_of gex) public h.front.value h.secret) f.here.client (h.agrees f.here.makes))

  yours : (says Server).agrees o.names.kex (group_of gex) public r.exchange.server_ephemeral r.knows.secret
  yours = subst (λ w. (says w).agrees o.names.kex (group_of gex) public r.exchange.server_ephemeral r.knows.secret) server
      (subst (λ (n : Names). (says p.side).agrees n.kex (group_of gex) public r.exchange.server_ephemeral r.knows.secret) (sym q.names)
      (subst (λ v. (says p.side).agrees r.knows.names.kex (group_of gex) v r.exchange.server_ephemeral r.knows.secret) r.value
      (subst (λ y. (says p.side).agrees r.knows.names.kex (group_of y) r.exchange.client_ephemeral r.exchange.server_ephemeral r.knows.secret) r.group r.knows.agrees)))

  secret : h.secret ≡ r.knows.secret
  secret = b.secret o.names.kex (group_of gex) local public r.exchange.server_ephemeral h.secret r.knows.secret (subst (λ w. (says w).client_makes o.names.kex (group_of gex) local public) f.here.client f.here.makes) q.makes mine yours

  hash : (made_of s.cause o.names (exchange_of s o gex public h.front.value) h.front.host (Some h.secret)).hash ≡ r.made.hash
  hash = ap (λ (x : Rattle.ssh_kex.specs.declared.exchange.FinishedExchange.FinishedExchange). x.hash) (made_alike s.cause p.cause o.names r.knows.names (exchange_of s o gex public h.front.value) r.exchange h.front.host r.knows.shown.blob h.secret r.knows.secret f.link.cause q.names exchange host secret ∙ sym r.knows.made)

  denied : denies.verify (host_with r.knows.names r.knows.shown.blob) r.made.hash (judged r.knows.signature)
  denied = subst (λ z. denies.verify (host_with r.knows.names r.knows.shown.blob) r.made.hash (judged z)) signature
      (subst (λ z. denies.verify (host_with r.knows.names r.knows.shown.blob) z (judged h.signature)) hash
      (subst (λ z. denies.verify (host_with r.knows.names z) (made_of s.cause o.names (exchange_of s o gex public h.front.value) h.front.host (Some h.secret)).hash (judged h.signature)) host
      (subst (λ z. denies.verify (host_with z h.front.host) (made_of s.cause o.names (exchange_of s o gex public h.front.value) h.front.host (Some h.secret)).hash (judged h.signature)) q.names h.denied)))
faced_missigned says config s p (AwaitsRequest o) m kex denies rises d b f h = absurd h
faced_missigned says config s p (AwaitsValue o gex) m kex denies rises d b f h = absurd h
faced_missigned says config s p (AwaitsNewkeys exchange made host) m kex denies rises d b f h = absurd h

-- ---- what the agreement and the lookup are asked

-- a KEXINIT is read to the chosen name of the key exchange, and a group is asked for or held where that is a group
-- exchange
abbrev pub ReadsKex : Setting → Stage → List ℕ → kexes.Name → Type 0
ReadsKex s (Created own) m kex = (n : Names) → kexinit_read s m ≡ Ok n → n.kex ≡ kex
ReadsKex s (AwaitsGroup o) m kex = is_gex kex ≡ true
ReadsKex s (AwaitsReply o gex local public) m kex = is_gex kex ≡ is_some gex
ReadsKex s (AwaitsRequest o) m kex = is_gex kex ≡ true
ReadsKex s (AwaitsValue o gex) m kex = is_gex kex ≡ is_some gex
ReadsKex s (AwaitsNewkeys exchange made host) m kex = Unit {0}

-- what is held of a group is due
due_with : (says : Side → Says) (config : Side → Config) (kex : kexes.Name) (gex : Option GexChosen) → is_gex kex ≡ is_some gex → IfSome gex (λ (q : GexChosen). (says Server).finds (config Client).gex q.group) → IsDue says config kex (group_of gex)
due_with says config kex None k f = k
due_with says config kex (Some q) k f = (k, f)

-- without a group exchange none is
plain_due : (says : Side → Says) (config : Side → Config) (s : Setting) (m : List ℕ) (kex : kexes.Name) (names : Names) → ((n : Names) → kexinit_read s m ≡ Ok n → n.kex ≡ kex) → kexinit_read s m ≡ Ok names → is_gex names.kex ≡ false → IsDue says config kex None
plain_due says config s m kex names k e plain = ap is_gex (sym (k names e)) ∙ plain

reply_due : (says : Side → Says) (config : Side → Config) (s p : Setting) (o : Opened) (gex : Option GexChosen) (local public m : List ℕ) (kex : kexes.Name) → AreBoth says config s p → Faces says s p (AwaitsReply o gex local public) m → ReplyRead says s p o gex public m → is_gex kex ≡ is_some gex → IsDue says config kex (group_of gex)
reply_due says config s p o gex local public m kex b f q k = due_with says config kex gex k (found gex f.here.group (subst (λ (g : Option GexChosen). IfSome g (λ (x : GexChosen). (says p.side).finds x.params x.group)) q.made.group q.made.knows.finds)) where
  server : p.side ≡ Server
  server = server_is s p f.here.client f.sides

  mine : s.config ≡ config Client
  mine = b.config_is ∙ ap config f.here.client

  found : (g : Option GexChosen) → IfSome g (IsOwnGroup s.config.gex) → IfSome g (λ (x : GexChosen). (says p.side).finds x.params x.group) → IfSome g (λ (x : GexChosen). (says Server).finds (config Client).gex x.group)
  found None e z = tt
  found (Some x) e z = subst (λ (y : GexParams). (says Server).finds y x.group) (e.params_are ∙ ap (λ (c : Config). c.gex) mine) (subst (λ w. (says w).finds x.params x.group) server z)

faced_denied : (says : Side → Says) (config : Side → Config) (s p : Setting) (stage : Stage) (seqn : ℕ) (m : List ℕ) (kex : kexes.Name) (denies : Denies) (rises : Rises) → Owes says config s.side kex denies rises → AreBoth says config s p → Faces says s p stage m → IsReadable (other_side s.side) (config (other_side s.side)) stage m → ReadsKex s stage m kex → PartDenies (says s.side) denies s stage seqn m → rises.agreement ⊎ ((s.side ≡ Server) × rises.lookup)
faced_denied says config s p (Created own) seqn m kex denies rises d b f r k h = inl (d.start h.names.kex None (plain_due says config s m kex h.names k h.reads.read h.plain) h.plain h.offered h.denied)
faced_denied says config s p (AwaitsGroup o) seqn m kex denies rises d b f r k h = inl (d.start o.names.kex (Some h.group) (k, group_found says config s p o m h.group b f h.read) f.here.kind f.here.opened.offered h.denied)
faced_denied says config s p (AwaitsReply o gex local public) seqn m kex denies rises d b f r k h =
    let q = reply_read says config s p o gex local public m b f in
    let value : h.front.value ≡ q.made.exchange.server_ephemeral = ap (λ (x : ReplyFront). x.value) (ok_is (reply_front (fields m)) h.front _ h.read q.front) in
    inl (d.reply o.names.kex (group_of gex) local public q.made.exchange.server_ephemeral (reply_due says config s p o gex local public m kex b f q k) (its_group o.names.kex gex f.here.kind) f.here.opened.offered (subst (λ w. (says w).client_makes o.names.kex (group_of gex) local public) f.here.client f.here.makes) q.makes
    (subst (λ v. denies.reply o.names.kex (group_of gex) local v) value h.denied))
faced_denied says config s p (AwaitsRequest o) seqn m kex denies rises d b f r k h = inr (f.here.server, d.lookup f.here.server k h.sizes h.denied)
faced_denied says config s p (AwaitsValue o gex) seqn m kex denies rises d b f r k h = inl (d.value o.names.kex (group_of gex) v.local v.value (due_with says config kex gex k (asked gex f.here.finds v.asked)) (its_group o.names.kex gex f.here.kind) f.here.opened.offered makes (subst (denies.value o.names.kex (group_of gex)) value h.denied)) where
  client : p.side ≡ Client
  client = client_is s p f.here.server f.sides

  canonical : FindsCanonical (says s.side)
  canonical = subst (λ w. FindsCanonical (says w)) (sym f.here.server) b.canonical

  v : ValueMade (says p.side) p o.own_kexinit o.peer_kexinit gex m
  v = value_made (says s.side) (says p.side) s p o gex r.0 f.peer_stage f.own f.theirs m f.more f.read client canonical (r.1 ∙ ap (λ k. value_message k r.0) f.here.kind) f.here f.there f.front

  value : h.value ≡ v.value
  value = ok_is (value_in (fields m)) h.value v.value h.read (ap (λ x. value_in (fields x)) v.message ∙ (ap value_in (value_fields (is_some gex) v.value) ∙ value_again v.value (let l = v.short in omega (arith, l))))

  mine : p.config ≡ config Client
  mine = b.peer_config_is ∙ ap config client

  yours : s.config ≡ config Server
  yours = b.config_is ∙ ap config f.here.server

  asked : (g : Option GexChosen) → IfSome g (λ (q : GexChosen). (says s.side).finds q.params q.group) → IfSome g (λ (q : GexChosen). q.params ≡ p.config.gex) → IfSome g (λ (q : GexChosen). (says Server).finds (config Client).gex q.group)
  asked None z e = tt
  asked (Some q) z e = subst (λ (x : GexParams). (says Server).finds x q.group) (e ∙ ap (λ (c : Config). c.gex) mine) (subst (λ w. (says w).finds q.params q.group) f.here.server z)

  names : v.names ≡ o.names
  names = both_hold p.config s.config p.cause o.peer_kexinit o.own_kexinit v.names o.names (subst (λ c. IsWithin (offers_of Client c)) (sym mine) b.client_within) (subst (λ c. IsWithin (offers_of Server c)) (sym yours) b.server_within) v.negotiated
      (subst (λ c. Rattle.ssh_rules.proofs.pair.NextMadeOf.Negotiated Server s.config c o.own_kexinit o.peer_kexinit o.names) f.link.cause (by_opened (says s.side) s o Server f.here.server f.here.opened))

  makes : (says Client).client_makes o.names.kex (group_of gex) v.local v.value
  makes = subst (λ w. (says w).client_makes o.names.kex (group_of gex) v.local v.value) client (subst (λ (n : Names). (says p.side).client_makes n.kex (group_of gex) v.local v.value) names v.makes)
faced_denied says config s p (AwaitsNewkeys exchange made host) seqn m kex denies rises d b f r k h = absurd h

pub not_unoffered : (says : Says) (s : Setting) (stage : Stage) (seqn : ℕ) (m : List ℕ) (kex : kexes.Name) → says.offers kex → ReadsKex s stage m kex → IsUnoffered says s stage seqn m → ⊥
not_unoffered says s (Created own) seqn m kex d r h = h.2 (subst says.offers (sym (r h.0 h.1.read)) d)
not_unoffered says s (AwaitsGroup o) seqn m kex d r h = h
not_unoffered says s (AwaitsReply o gex local public) seqn m kex d r h = h
not_unoffered says s (AwaitsRequest o) seqn m kex d r h = h
not_unoffered says s (AwaitsValue o gex) seqn m kex d r h = h
not_unoffered says s (AwaitsNewkeys exchange made host) seqn m kex d r h = h

-- ---- how long a message is

longest_of : {A : Type 0} (p q : A → Bool) (xs : List A) (x : A) → find p xs ≡ Some x → list_any q xs ≡ false → q x ≡ false
longest_of p q [] x e n = cc
longest_of {A} p q (y ∷ xs) x e n = by (p y) (q y) refl (longest_of p q xs x) e n where
  by : (a b : Bool) → q y ≡ b → (find p xs ≡ Some x → list_any q xs ≡ false → q x ≡ false) → (if a then Some y else find p xs) ≡ Some x → (b || list_any q xs) ≡ false → q x ≡ false
  by true true z f e n = cc
  by true false z f e n = (let same : y ≡ x = cc in subst (λ w. q w ≡ false) same z)
  by false true z f e n = cc
  by false false z f e n = f e n

or_parts : (a b : Bool) → (a || b) ≡ false → (a ≡ false) × (b ≡ false)
or_parts true b e = cc
or_parts false b e = (refl, e)

at_most : (limit n : ℕ) → nat_lt limit n ≡ false → n ≤ limit
at_most limit n h = grind (arith, nat_tests)

-- what a server presents is no longer than the blobs of its configuration
pub presented_short : (config : Config) (certificate : Bool) (algorithm : Algorithm) (shown : Presented) → some_blob_long config ≡ false → presented config.host certificate algorithm ≡ Some shown → length shown.blob ≤ longest_blob
unfolding presented
presented_short config false algorithm shown n e = by (find (λ (k : HostKey). fits k.algorithm algorithm) config.host.keys) refl e where
  by : (o : Option HostKey) → find (λ (k : HostKey). fits k.algorithm algorithm) config.host.keys ≡ o → by_key o ≡ Some shown → length shown.blob ≤ longest_blob
  by None f g = cc
  by (Some k) f g =
      let z = longest_of (λ (k : HostKey). fits k.algorithm algorithm) (λ (k : HostKey). nat_lt longest_blob (length k.blob)) config.host.keys k f (or_parts _ _ n).0 in
      let made : (let t : Presented = record { signer = k; blob = k.blob } in t) ≡ shown = cc in
      subst (λ (t : Presented). length t.blob ≤ longest_blob) made (at_most longest_blob (length k.blob) z)
presented_short config true algorithm shown n e = by (find (λ (c : HostCertificate). fits c.algorithm algorithm && has_key config.host.keys c) config.host.certificates) refl e where
  by : (o : Option HostCertificate) → find (λ (c : HostCertificate). fits c.algorithm algorithm && has_key config.host.keys c) config.host.certificates ≡ o → by_certificate config.host.keys o ≡ Some shown → length shown.blob ≤ longest_blob
  by None f g = cc
  by (Some c) f g = held (find (λ (k : HostKey). bytes_eq k.blob c.key_blob) config.host.keys) g where
    z : nat_lt longest_blob (length c.blob) ≡ false
    z = longest_of (λ (c : HostCertificate). fits c.algorithm algorithm && has_key config.host.keys c) (λ (c : HostCertificate). nat_lt longest_blob (length c.blob)) config.host.certificates c f (or_parts (list_any (λ (k : HostKey). nat_lt longest_blob (length k.blob)) config.host.keys) (list_any (λ (c : HostCertificate). nat_lt longest_blob (length c.blob)) config.host.certificates) n).1

    held : (k : Option HostKey) → by_holder c.blob k ≡ Some shown → length shown.blob ≤ longest_blob
    held None g = cc
    held (Some k) g =
        let made : (let t : Presented = record { signer = k; blob = c.blob } in t) ≡ shown = cc in
        subst (λ (t : Presented). length t.blob ≤ longest_blob) made (at_most longest_blob (length c.blob) z)

mpint_length : (v : List ℕ) → length (mpint v) ≤ length v + 5
mpint_length v = let a = form_length v in let b = unsigned_length (magnitude v) in let c = magnitude_length v in omega (arith, a, b, c)

group_length : (g : DhGroup) → length (group_message g) ≤ length g.prime + length g.generator + 11
group_length g = let a = length-append (mpint g.prime) (mpint g.generator) in let b = mpint_length g.prime in let c = mpint_length g.generator in omega (arith, a, b, c)

string_length : (v : List ℕ) → length (string v) ≡ length v + 4
string_length v = let a = length-append (u32be (length v)) v in omega (arith, a)

pub reply_length : (kind : Bool) (h v s : List ℕ) → length (reply_message kind h v s) ≡ length h + (length v + length s) + 13
reply_length kind h v s = by kind where
  body : length (string h ++ (string v ++ string s)) ≡ length h + (length v + length s) + 12
  body = let a = length-append (string h) (string v ++ string s) in let b = length-append (string v) (string s) in let x = string_length h in let y = string_length v in let z = string_length s in omega (arith, a, b, x, y, z)

  by : (k : Bool) → length (reply_message k h v s) ≡ length h + (length v + length s) + 13
  by true = (let a = body in omega (arith, a))
  by false = (let a = body in omega (arith, a))

-- a server awaits a request
abbrev pub Serves : Setting → Stage → Type 0
Serves s (Created own) = Unit {0}
Serves s (AwaitsGroup o) = Unit {0}
Serves s (AwaitsReply o gex local public) = Unit {0}
Serves s (AwaitsRequest o) = s.side ≡ Server
Serves s (AwaitsValue o gex) = Unit {0}
Serves s (AwaitsNewkeys exchange made host) = Unit {0}

-- Of what lawful parts make no message is too long.
pub not_long : (says : Says) (s : Setting) (peer : Config) (stage : Stage) (seqn : ℕ) (m : List ℕ) (n : ℕ) → AreSmall says s.side peer.gex → Serves s stage → some_blob_long s.config ≡ false → HasSizes peer → IsReadable (other_side s.side) peer stage m → longest_payload < n → IsTooLong says s stage seqn m n → ⊥
not_long says s peer (Created own) seqn m n a sv c z r l h = (let v = a.value h.long.public h.long.small in let e = h.long.size in omega (arith, l, v, e))
not_long says s peer (AwaitsGroup o) seqn m n a sv c z r l h = (let v = a.value h.2.public h.2.small in let e = h.2.size in omega (arith, l, v, e))
not_long says s peer (AwaitsReply o gex local public) seqn m n a sv c z r l h = h
not_long says s peer (AwaitsRequest o) seqn m n a sv c z r l h = (
    let sizes = ok_is (sizes_in (fields m)) h.sizes peer.gex h.read (ap (λ x. sizes_in (fields x)) r ∙ sizes_again peer.gex z.least z.wanted z.most) in
    let v = a.group sv h.group (subst (λ x. says.finds x h.group) sizes h.finds) in
    let p = v.0 in let q = v.1 in let e = h.size in let f = group_length h.group in omega (arith, l, p, q, e, f))
not_long says s peer (AwaitsValue o gex) seqn m n a sv c z r l h = (
    let b = presented_short s.config o.names.host_key_is_certificate o.names.key h.shown c h.presents in
    let v = a.value h.own_value h.value_small in let w = a.signature h.signature h.signature_small in
    let e = h.size in let f = reply_length (is_gex o.names.kex) h.shown.blob h.own_value h.signature in omega (arith, l, b, v, w, e, f))
not_long says s peer (AwaitsNewkeys exchange made host) seqn m n a sv c z r l h = h

-- ---- all together

-- behind the KEXINIT a writer faces the stage
abbrev pub IsMet : (Side → Says) → (Side → Config) → Setting → Stage → List ℕ → Type 0
IsMet says config s (Created own) m = Unit {0}
IsMet says config s (AwaitsGroup o) m = (p : Setting) × AreBoth says config s p × Faces says s p (AwaitsGroup o) m
IsMet says config s (AwaitsReply o gex local public) m = (p : Setting) × AreBoth says config s p × Faces says s p (AwaitsReply o gex local public) m
IsMet says config s (AwaitsRequest o) m = (p : Setting) × AreBoth says config s p × Faces says s p (AwaitsRequest o) m
IsMet says config s (AwaitsValue o gex) m = (p : Setting) × AreBoth says config s p × Faces says s p (AwaitsValue o gex) m
IsMet says config s (AwaitsNewkeys exchange made host) m = (p : Setting) × AreBoth says config s p × Faces says s p (AwaitsNewkeys exchange made host) m

pub never_outside : (says : Side → Says) (config : Side → Config) (s : Setting) (stage : Stage) (m : List ℕ) → ((group : DhGroup) → (says Server).finds (config Client).gex group → IsInside (config Client).gex group) → IsMet says config s stage m → IsOutOfRange s stage m → ⊥
never_outside says config s (Created own) m fits f h = h
never_outside says config s (AwaitsGroup o) m fits f h = not_outside says config s f.0 (AwaitsGroup o) m fits f.1 f.2 h
never_outside says config s (AwaitsReply o gex local public) m fits f h = h
never_outside says config s (AwaitsRequest o) m fits f h = h
never_outside says config s (AwaitsValue o gex) m fits f h = h
never_outside says config s (AwaitsNewkeys exchange made host) m fits f h = h

never_unfit : (says : Side → Says) (config : Side → Config) (s : Setting) (stage : Stage) (m : List ℕ) (kex : kexes.Name) → (is_gex kex ≡ true → (group : DhGroup) → (says Server).finds (config Client).gex group → IsInside (config Client).gex group) → ReadsKex s stage m kex → IsMet says config s stage m → IsOutOfRange s stage m → ⊥
never_unfit says config s (Created own) m kex fits k f h = h
never_unfit says config s (AwaitsGroup o) m kex fits k f h = not_outside says config s f.0 (AwaitsGroup o) m (fits k) f.1 f.2 h
never_unfit says config s (AwaitsReply o gex local public) m kex fits k f h = h
never_unfit says config s (AwaitsRequest o) m kex fits k f h = h
never_unfit says config s (AwaitsValue o gex) m kex fits k f h = h
never_unfit says config s (AwaitsNewkeys exchange made host) m kex fits k f h = h

-- what is known where the reader's agreement or lookup refuses, its host keys refuse a signature, and refuse to sign
pub met_denied : (says : Side → Says) (config : Side → Config) (s : Setting) (stage : Stage) (seqn : ℕ) (m : List ℕ) (kex : kexes.Name) (denies : Denies) (rises : Rises) → Owes says config s.side kex denies rises → IsMet says config s stage m → IsReadable (other_side s.side) (config (other_side s.side)) stage m → ReadsKex s stage m kex → PartDenies (says s.side) denies s stage seqn m → rises.agreement ⊎ ((s.side ≡ Server) × rises.lookup)
met_denied says config s (Created own) seqn m kex denies rises d f r k h = inl (d.start h.names.kex None (plain_due says config s m kex h.names k h.reads.read h.plain) h.plain h.offered h.denied)
met_denied says config s (AwaitsGroup o) seqn m kex denies rises d f r k h = faced_denied says config s f.0 (AwaitsGroup o) seqn m kex denies rises d f.1 f.2 r k h
met_denied says config s (AwaitsReply o gex local public) seqn m kex denies rises d f r k h = faced_denied says config s f.0 (AwaitsReply o gex local public) seqn m kex denies rises d f.1 f.2 r k h
met_denied says config s (AwaitsRequest o) seqn m kex denies rises d f r k h = faced_denied says config s f.0 (AwaitsRequest o) seqn m kex denies rises d f.1 f.2 r k h
met_denied says config s (AwaitsValue o gex) seqn m kex denies rises d f r k h = faced_denied says config s f.0 (AwaitsValue o gex) seqn m kex denies rises d f.1 f.2 r k h
met_denied says config s (AwaitsNewkeys exchange made host) seqn m kex denies rises d f r k h = absurd h

pub met_missigned : (says : Side → Says) (config : Side → Config) (s : Setting) (stage : Stage) (m : List ℕ) (kex : kexes.Name) (denies : Denies) (rises : Rises) → Owes says config s.side kex denies rises → IsMet says config s stage m → SignatureDenied (says s.side) denies s stage m → (s.side ≡ Client) × rises.verifying
met_missigned says config s (Created own) m kex denies rises d f h = absurd h
met_missigned says config s (AwaitsGroup o) m kex denies rises d f h = absurd h
met_missigned says config s (AwaitsReply o gex local public) m kex denies rises d f h = faced_missigned says config s f.0 (AwaitsReply o gex local public) m kex denies rises d f.1 f.2 h
met_missigned says config s (AwaitsRequest o) m kex denies rises d f h = absurd h
met_missigned says config s (AwaitsValue o gex) m kex denies rises d f h = absurd h
met_missigned says config s (AwaitsNewkeys exchange made host) m kex denies rises d f h = absurd h

pub met_unsigned : (says : Side → Says) (config : Side → Config) (s : Setting) (stage : Stage) (m : List ℕ) (kex : kexes.Name) (denies : Denies) (rises : Rises) → Owes says config s.side kex denies rises → IsMet says config s stage m → SigningDenied s denies stage m → (s.side ≡ Server) × rises.signing
met_unsigned says config s (Created own) m kex denies rises d f h = absurd h
met_unsigned says config s (AwaitsGroup o) m kex denies rises d f h = absurd h
met_unsigned says config s (AwaitsReply o gex local public) m kex denies rises d f h = absurd h
met_unsigned says config s (AwaitsRequest o) m kex denies rises d f h = absurd h
met_unsigned says config s (AwaitsValue o gex) m kex denies rises d f h = (f.2.here.server, d.sign f.2.here.server (subst denies.sign (f.1.config_is ∙ ap config f.2.here.server) h.1))
met_unsigned says config s (AwaitsNewkeys exchange made host) m kex denies rises d f h = absurd h

no_part : (P : Type 0) → ⊥ ⊎ (P × ⊥) → ⊥
no_part P (inl x) = x
no_part P (inr x) = x.1

-- Where the other side's parts made the message, and the own parts do what they owe, want of memory is left.
pub none_refused : (says : Side → Says) (denies : Denies) (config : Side → Config) (s : Setting) (stage : Stage) (seqn : ℕ) (m : List ℕ) (kex : kexes.Name) (e : Error) → Duties says config s.side kex denies → AreSmall (says s.side) s.side (config (other_side s.side)).gex → Serves s stage → some_blob_long s.config ≡ false → HasSizes (config (other_side s.side)) → IsMet says config s stage m → ReadsKex s stage m kex → IsReadable (other_side s.side) (config (other_side s.side)) stage m → PartsRefuse (says s.side) denies s stage seqn m e → e ≡ errors.Memory
none_refused says denies config s stage seqn m kex errors.KexInit d a sv c z f k r h = absurd (never_unfit says config s stage m kex d.fits k f h)
none_refused says denies config s stage seqn m kex errors.UnknownAlgo d a sv c z f k r h = absurd (not_unoffered (says s.side) s stage seqn m kex d.offered k h)
none_refused says denies config s stage seqn m kex (errors.NoCommonAlgo kind ours theirs) d a sv c z f k r h = absurd h
none_refused says denies config s stage seqn m kex errors.Version d a sv c z f k r h = absurd h
none_refused says denies config s stage seqn m kex errors.Kex d a sv c z f k r h = absurd (no_part (s.side ≡ Server) (met_denied says config s stage seqn m kex denies none_rose d.owes f r k h))
none_refused says denies config s stage seqn m kex errors.PacketAuth d a sv c z f k r h = absurd h
none_refused says denies config s stage seqn m kex errors.Inconsistent d a sv c z f k r h = absurd h
none_refused says denies config s stage seqn m kex errors.IndexOutOfBounds d a sv c z f k r h = absurd h
none_refused says denies config s stage seqn m kex errors.UnknownKey d a sv c z f k r h = absurd h
none_refused says denies config s stage seqn m kex errors.WrongServerSig d a sv c z f k r h = absurd (met_missigned says config s stage m kex denies none_rose d.owes f h).1
none_refused says denies config s stage seqn m kex (errors.PacketSize n) d a sv c z f k r h = absurd (not_long (says s.side) s (config (other_side s.side)) stage seqn m n a sv c z r h.0 h.1)
none_refused says denies config s stage seqn m kex errors.Disconnect d a sv c z f k r h = absurd h
none_refused says denies config s stage seqn m kex errors.DecryptionError d a sv c z f k r h = absurd h
none_refused says denies config s stage seqn m kex errors.IO d a sv c z f k r h = absurd h
none_refused says denies config s stage seqn m kex (errors.StrictKeyExchangeViolation type place) d a sv c z f k r h = absurd h
none_refused says denies config s stage seqn m kex errors.Signature d a sv c z f k r h = absurd (met_unsigned says config s stage m kex denies none_rose d.owes f h).1
none_refused says denies config s stage seqn m kex (errors.SshEncoding fault) d a sv c z f k r h = absurd h
none_refused says denies config s stage seqn m kex (errors.InvalidConfig fault) d a sv c z f k r h = absurd h
none_refused says denies config s stage seqn m kex errors.Memory d a sv c z f k r h = refl
