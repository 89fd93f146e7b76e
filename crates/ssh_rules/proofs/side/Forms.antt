-- The messages that a side has written or owes are the first ones of a whole exchange.
use Rattle.std.proofs.Common.{◌≡◌, ℕ, ◌+◌, ◌<◌, ◌^◌, List, [], ◌∷◌, ◌++◌, length, refl, sym, ◌∙◌, ap, subst, arith, Option, Some, None, Bool, true, false, if◌then◌else◌, append_assoc, append-nil, lit<}
use Rattle.std.specs.Prelude.{is_some, IfSome}
use Rattle.ssh_wire.specs.Sides.{other_side}
use Rattle.ssh_wire.specs.declared.side.Side.{Side}
use Rattle.ssh_wire.specs.declared.side.Side.TheVariants.{Client, Server}
use Rattle.ssh_kex.specs.declared.config.Config.{Config}
use Rattle.ssh_kex.specs.declared.group.DhGroup.{DhGroup}
use Rattle.ssh_kex.specs.declared.exchange.FinishedExchange.{FinishedExchange}
use Rattle.ssh_kex.specs.declared.exchange.ServerHost.{ServerHost}
use Rattle.ssh_kex.specs.Messages.{is_gex, value_message, reply_message, request_message, group_message, newkeys}
use Rattle.ssh_negotiate.specs.Advertised.{kexinit}
use Rattle.ssh_kex.specs.Setting.{Says, Setting, Opened, offers_of, IsShortGroup}
use Rattle.ssh_kex.specs.Stages.{Stage, Created, AwaitsGroup, AwaitsReply, AwaitsRequest, AwaitsValue, AwaitsNewkeys}
use Rattle.ssh_rules.specs.Wire.{HasFront}
use Rattle.ssh_rules.specs.Machine.{Inside, names_now}
use Rattle.ssh_kex.specs.declared.exchange.Exchange.{Exchange}
use Rattle.ssh_rules.specs.ExchangeMessages.{messages_of, kexinit_of}
use Rattle.ssh_rules.specs.Made.{HasShortStrings, MadeBy, IsOwnGroup}
use Rattle.ssh_rules.proofs.side.StageFits.{FitsStage, OpenedBy}
use Rattle.ssh_rules.proofs.pair.Awaited.{IsReadable, OwnForm, AsksFor}
use Rattle.ssh_rules.specs.Snapshots.{KindIs}
use Rattle.ssh_kex.specs.declared.exchange.GexChosen.{GexChosen}
use Rattle.ssh_rules.proofs.side.OneMessage.{Spoken, spoken, client_spoken, server_spoken}
use Rattle.ssh_rules.specs.Valid.{HasSizes}

abbrev no_group : DhGroup
no_group = record { prime = []; generator = [] }

abbrev some_group : Config → Bool → Option GexChosen
some_group config true = Some (record { params = config.gex; group = no_group })
some_group config false = None

kind_of_some : (config : Config) (kind : Bool) → is_some (some_group config kind) ≡ kind
kind_of_some config true = refl
kind_of_some config false = refl

fits_some : (config : Config) (kind : Bool) → HasSizes config → IfSome (some_group config kind) IsShortGroup
fits_some config true h = record { prime = lit< tt; generator = lit< tt; least = h.least; preferred = h.wanted; most = h.most }
fits_some config false h = tt

asks_some : (side : Side) (config : Config) (kind : Bool) → AsksFor side config (some_group config kind)
asks_some Client config true = refl
asks_some Client config false = tt
asks_some Server config true = tt
asks_some Server config false = tt

-- an exchange of which the KEXINIT alone is known
abbrev first_exchange : Option GexChosen → List ℕ → Exchange
first_exchange group k = record { client_id = []; server_id = []; client_kex_init = k; server_kex_init = k; client_ephemeral = []; server_ephemeral = []; gex = group }

first_short : (group : Option GexChosen) (k : List ℕ) → IfSome group IsShortGroup → HasShortStrings (first_exchange group k) [] []
first_short group k f = record { client_value = lit< tt; host_blob = lit< tt; server_value = lit< tt; signed = lit< tt; group = f }

first_front : (side : Side) (group : Option GexChosen) (k : List ℕ) → HasFront (messages_of side (first_exchange group k) [] []) (k ∷ [])
first_front Client None k = (value_message false [] ∷ newkeys ∷ [], refl)
first_front Client (Some g) k = (request_message g.params ∷ value_message true [] ∷ newkeys ∷ [], refl)
first_front Server None k = (reply_message false [] [] [] ∷ newkeys ∷ [], refl)
first_front Server (Some g) k = (group_message g.group ∷ reply_message true [] [] [] ∷ newkeys ∷ [], refl)

first_kexinit : (side : Side) (group : Option GexChosen) (k : List ℕ) → kexinit_of side (first_exchange group k) ≡ k
first_kexinit Client group k = refl
first_kexinit Server group k = refl

form_at : (side s_side : Side) (config : Config) (kind k : Bool) (own o : List (List ℕ)) → s_side ≡ side → k ≡ kind → own ≡ o → OwnForm side config k o → OwnForm s_side config kind own
form_at side s_side config kind k own o e f g h = subst (λ w. OwnForm w config kind own) (sym e) (subst (λ b. OwnForm side config b own) f (subst (OwnForm side config k) (sym g) h))

created_form : (side : Side) (config : Config) (kind : Bool) (k cookie : List ℕ) → HasSizes config → length cookie ≡ 16 → k ≡ kexinit (offers_of side config) cookie → OwnForm side config kind (k ∷ [])
created_form side config kind k cookie h l e = record {
  host = [];
  signature = [];
  exchange = first_exchange (some_group config kind) k;
  kind_is = kind_of_some config kind;
  short = first_short _ k (fits_some config kind h);
  front = first_front side _ k;
  cookie = cookie;
  cookie_length = l;
  kexinit_is = first_kexinit side _ k ∙ e;
  asks = asks_some side config kind;
}

opened_kexinit : (says : Says) (s : Setting) (o : Opened) (side : Side) (b : OpenedBy says s o) → s.side ≡ side → o.own_kexinit ≡ kexinit (offers_of side s.config) b.cookie
opened_kexinit says s o side b e = b.own ∙ ap (λ w. kexinit (offers_of w s.config) b.cookie) e

abbrev value_exchange : Option GexChosen → List ℕ → List ℕ → Exchange
value_exchange group k public = record { client_id = []; server_id = []; client_kex_init = k; server_kex_init = k; client_ephemeral = public; server_ephemeral = []; gex = group }

value_short : (group : Option GexChosen) (k public : List ℕ) → IfSome group IsShortGroup → length public < 2 ^ 31 → HasShortStrings (value_exchange group k public) [] []
value_short group k public f l = record { client_value = omega (arith, l); host_blob = lit< tt; server_value = lit< tt; signed = lit< tt; group = f }

asks_of : (s : Setting) (group : Option GexChosen) → IfSome group (IsOwnGroup s.config.gex) → AsksFor Client s.config group
asks_of s None h = tt
asks_of s (Some g) h = h.params_are

pub made_form : (side : Side) (says : Says) (s : Setting) (own theirs : List (List ℕ)) (exchange : Exchange) (x : FinishedExchange) (host : Option ServerHost) (kind : Bool) → is_gex x.names.kex ≡ kind → MadeBy side says s own theirs exchange x host → OwnForm side s.config kind own
made_form Client says s own theirs exchange x host kind k m = record {
  exchange = exchange;
  host = m.host;
  signature = m.signature;
  kind_is = sym m.kind ∙ (ap (λ (y : FinishedExchange). is_gex y.names.kex) (sym m.made) ∙ k);
  short = m.short;
  front = ([], append-nil own ∙ m.own_is);
  cookie = m.cookie;
  cookie_length = m.cookie_length;
  kexinit_is = m.kexinit_is;
  asks = asks_of s exchange.gex m.group;
}
made_form Server says s own theirs exchange x host kind k m = record {
  exchange = exchange;
  host = m.shown.blob;
  signature = m.signature;
  kind_is = sym m.kind ∙ (ap (λ (y : FinishedExchange). is_gex y.names.kex) (sym m.made) ∙ k);
  short = m.short;
  front = ([], append-nil own ∙ m.own_is);
  cookie = m.cookie;
  cookie_length = m.cookie_length;
  kexinit_is = m.kexinit_is;
  asks = tt;
}

-- in each stage
pub own_form : (says : Says) (s : Setting) (stage : Stage) (own theirs : List (List ℕ)) (kind : Bool) → HasSizes s.config → KindIs kind (names_now (Inside stage)) → FitsStage says s stage own theirs → OwnForm s.side s.config kind own
own_form says s (Created k) own theirs kind h q f = form_at s.side s.side s.config kind kind own _ refl refl f.own_is (created_form s.side s.config kind k f.cookie h f.cookie_length f.kexinit_is)
own_form says s (AwaitsGroup o) own theirs kind h q f = form_at Client s.side s.config kind true own _ f.client (sym f.kind ∙ q) f.own_is (record {
  host = [];
  signature = [];
  exchange = first_exchange (Some (record { params = s.config.gex; group = no_group })) o.own_kexinit;
  kind_is = refl;
  short = first_short _ _ (fits_some s.config true h);
  front = (value_message true [] ∷ newkeys ∷ [], refl);
  cookie = f.opened.cookie;
  cookie_length = f.opened.cookie_length;
  kexinit_is = opened_kexinit says s o Client f.opened f.client;
  asks = refl;
})
own_form says s (AwaitsReply o None local public) own theirs kind h q f = form_at Client s.side s.config kind false own _ f.client (sym f.kind ∙ q) f.own_is (record {
  host = [];
  signature = [];
  exchange = value_exchange None o.own_kexinit public;
  kind_is = refl;
  short = value_short None o.own_kexinit public tt f.short;
  front = (newkeys ∷ [], refl);
  cookie = f.opened.cookie;
  cookie_length = f.opened.cookie_length;
  kexinit_is = opened_kexinit says s o Client f.opened f.client;
  asks = tt;
})
own_form says s (AwaitsReply o (Some g) local public) own theirs kind h q f = form_at Client s.side s.config kind true own _ f.client (sym f.kind ∙ q) f.own_is (record {
  host = [];
  signature = [];
  exchange = value_exchange (Some g) o.own_kexinit public;
  kind_is = refl;
  short = value_short (Some g) o.own_kexinit public f.short_group f.short;
  front = (newkeys ∷ [], refl);
  cookie = f.opened.cookie;
  cookie_length = f.opened.cookie_length;
  kexinit_is = opened_kexinit says s o Client f.opened f.client;
  asks = f.group.params_are;
})
own_form says s (AwaitsRequest o) own theirs kind h q f = form_at Server s.side s.config kind true own _ f.server (sym f.kind ∙ q) f.own_is (created_form Server s.config true o.own_kexinit f.opened.cookie h f.opened.cookie_length (opened_kexinit says s o Server f.opened f.server))
own_form says s (AwaitsValue o None) own theirs kind h q f = form_at Server s.side s.config kind false own _ f.server (sym f.kind ∙ q) f.own_is (created_form Server s.config false o.own_kexinit f.opened.cookie h f.opened.cookie_length (opened_kexinit says s o Server f.opened f.server))
own_form says s (AwaitsValue o (Some g)) own theirs kind h q f = form_at Server s.side s.config kind true own _ f.server (sym f.kind ∙ q) f.own_is (record {
  host = [];
  signature = [];
  exchange = first_exchange (Some g) o.own_kexinit;
  kind_is = refl;
  short = first_short (Some g) _ f.short_group;
  front = (reply_message true [] [] [] ∷ newkeys ∷ [], refl);
  cookie = f.opened.cookie;
  cookie_length = f.opened.cookie_length;
  kexinit_is = opened_kexinit says s o Server f.opened f.server;
  asks = tt;
})
own_form says s (AwaitsNewkeys exchange x host) own theirs kind h q f = made_form s.side says s own (theirs ++ newkeys ∷ []) exchange x host kind q f

pub front_of : (m : List (List ℕ)) (theirs more : List (List ℕ)) (p : List ℕ) → HasFront m (theirs ++ p ∷ more) → (rest : List (List ℕ)) × (theirs ++ p ∷ rest ≡ m)
front_of m theirs more p s = (more ++ s.0, sym (append_assoc theirs (p ∷ more) s.0) ∙ s.1)

pub first_is : (side : Side) (e : Exchange) (host signature p : List ℕ) (rest : List (List ℕ)) → p ∷ rest ≡ messages_of side e host signature → p ≡ kexinit_of side e
first_is Client e host signature p rest h = cc
first_is Server e host signature p rest h = cc

not_kind : true ≡ false → ⊥
not_kind e = cc

-- the second message of a server
server_second : (t : Spoken) (group : Option GexChosen) (a p : List ℕ) (rest : List (List ℕ)) → a ∷ p ∷ rest ≡ server_spoken t group → is_some group ≡ false → p ≡ reply_message false t.host t.server_value t.signature
server_second t None a p rest e k = cc
server_second t (Some g) a p rest e k = absurd (not_kind k)

server_group : (t : Spoken) (group : Option GexChosen) (a p : List ℕ) (rest : List (List ℕ)) → a ∷ p ∷ rest ≡ server_spoken t group → is_some group ≡ true → (g : DhGroup) × (p ≡ group_message g)
server_group t None a p rest e k = absurd (not_kind (sym k))
server_group t (Some g) a p rest e k = (g.group, cc)

server_third : (t : Spoken) (group : Option GexChosen) (a b p : List ℕ) (rest : List (List ℕ)) → a ∷ b ∷ p ∷ rest ≡ server_spoken t group → is_some group ≡ true → p ≡ reply_message true t.host t.server_value t.signature
server_third t None a b p rest e k = absurd (not_kind (sym k))
server_third t (Some g) a b p rest e k = cc

client_second : (t : Spoken) (group : Option GexChosen) (a p : List ℕ) (rest : List (List ℕ)) → a ∷ p ∷ rest ≡ client_spoken t group → is_some group ≡ false → p ≡ value_message false t.client_value
client_second t None a p rest e k = cc
client_second t (Some g) a p rest e k = absurd (not_kind k)

client_request : (config : Config) (t : Spoken) (group : Option GexChosen) (a p : List ℕ) (rest : List (List ℕ)) → a ∷ p ∷ rest ≡ client_spoken t group → is_some group ≡ true → AsksFor Client config group → p ≡ request_message config.gex
client_request config t None a p rest e k q = absurd (not_kind (sym k))
client_request config t (Some g) a p rest e k q = let h : p ≡ request_message g.params = cc in h ∙ ap request_message q

client_third : (t : Spoken) (group : Option GexChosen) (a b p : List ℕ) (rest : List (List ℕ)) → a ∷ b ∷ p ∷ rest ≡ client_spoken t group → is_some group ≡ true → p ≡ value_message true t.client_value
client_third t None a b p rest e k = absurd (not_kind (sym k))
client_third t (Some g) a b p rest e k = cc

last_is : (side : Side) (t : Spoken) (theirs : List (List ℕ)) (p : List ℕ) (rest : List (List ℕ)) (group : Option GexChosen) (m : List (List ℕ)) → theirs ++ p ∷ rest ≡ m → length m ≡ length theirs + 1 → (xs : List (List ℕ)) → xs ++ newkeys ∷ [] ≡ m → p ≡ newkeys
last_is side t [] p rest group m e l [] f = let h : p ∷ rest ≡ newkeys ∷ [] = e ∙ sym f in cc
last_is side t [] p rest group m e l (x ∷ xs) f = absurd (let a : length (x ∷ xs ++ newkeys ∷ []) ≡ length m = ap length f in let b = Rattle.std.proofs.Common.length-append xs (newkeys ∷ []) in omega (arith, a, b, l))
last_is side t (y ∷ theirs) p rest group m e l [] f = absurd (let a : length (newkeys ∷ []) ≡ length m = ap length f in omega (arith, a, l))
last_is side t (y ∷ theirs) p rest group m e l (x ∷ xs) f =
    let h : theirs ++ p ∷ rest ≡ xs ++ newkeys ∷ [] = (let k : y ∷ (theirs ++ p ∷ rest) ≡ x ∷ (xs ++ newkeys ∷ []) = e ∙ sym f in cc) in
    let n : length (xs ++ newkeys ∷ []) ≡ length theirs + 1 = (let a : length (x ∷ xs ++ newkeys ∷ []) ≡ length m = ap length f in omega (arith, a, l)) in
    last_is side t theirs p rest group (xs ++ newkeys ∷ []) h n xs refl

abbrev pub by_side : Side → Spoken → Option GexChosen → List (List ℕ)
by_side Client t group = client_spoken t group
by_side Server t group = server_spoken t group

pub length_messages : (side : Side) (t : Spoken) (group : Option GexChosen) (kind : Bool) → is_some group ≡ kind → (xs : List (List ℕ)) × (xs ++ newkeys ∷ [] ≡ by_side side t group) × (length (by_side side t group) ≡ (if kind then 4 else 3))
length_messages Client t None kind k = (t.client_kexinit ∷ value_message false t.client_value ∷ [], refl, ap (λ b. if b then 4 else 3) k)
length_messages Client t (Some g) kind k = (t.client_kexinit ∷ request_message g.params ∷ value_message true t.client_value ∷ [], refl, ap (λ b. if b then 4 else 3) k)
length_messages Server t None kind k = (t.server_kexinit ∷ reply_message false t.host t.server_value t.signature ∷ [], refl, ap (λ b. if b then 4 else 3) k)
length_messages Server t (Some g) kind k = (t.server_kexinit ∷ group_message g.group ∷ reply_message true t.host t.server_value t.signature ∷ [], refl, ap (λ b. if b then 4 else 3) k)

pub same_messages : (side : Side) (e : Exchange) (host signature : List ℕ) → messages_of side e host signature ≡ by_side side (spoken e host signature) e.gex
same_messages Client e host signature = refl
same_messages Server e host signature = refl

newkeys_last : (side : Side) (config : Config) (kind : Bool) (theirs : List (List ℕ)) (p : List ℕ) (more : List (List ℕ)) (f : OwnForm side config kind (theirs ++ p ∷ more)) → length theirs + 1 ≡ (if kind then 4 else 3) → p ≡ newkeys
newkeys_last side config kind theirs p more f l =
    let m = length_messages side (spoken f.exchange f.host f.signature) f.exchange.gex kind f.kind_is in
    let w = front_of (messages_of side f.exchange f.host f.signature) theirs more p f.front in
    last_is side (spoken f.exchange f.host f.signature) theirs p w.0 f.exchange.gex (by_side side (spoken f.exchange f.host f.signature) f.exchange.gex) (w.1 ∙ same_messages side f.exchange f.host f.signature) (m.2 ∙ sym l) m.0 m.1

head_of : (theirs a : List (List ℕ)) (p : List ℕ) (rest m : List (List ℕ)) → theirs ≡ a → theirs ++ p ∷ rest ≡ m → a ++ p ∷ rest ≡ m
head_of theirs a p rest m e f = subst (λ t. t ++ p ∷ rest ≡ m) e f

-- The next message of an honest peer is what the stage awaits, where both know one kind of exchange.
pub readable : (says : Says) (s : Setting) (peer : Config) (stage : Stage) (own theirs : List (List ℕ)) (p : List ℕ) (more : List (List ℕ)) (kind : Bool) → KindIs kind (names_now (Inside stage)) → FitsStage says s stage own theirs → OwnForm (other_side s.side) peer kind (theirs ++ p ∷ more) → IsReadable (other_side s.side) peer stage p
readable says s peer (Created k) own theirs p more kind q f w =
    let r = front_of (messages_of (other_side s.side) w.exchange w.host w.signature) theirs more p w.front in
    (w.cookie, w.cookie_length, first_is (other_side s.side) w.exchange w.host w.signature p r.0 (head_of theirs [] p r.0 _ f.theirs_is r.1) ∙ w.kexinit_is)
readable says s peer (AwaitsGroup o) own theirs p more kind q f w =
    let w' : OwnForm Server peer kind (theirs ++ p ∷ more) = subst (λ d. OwnForm (other_side d) peer kind (theirs ++ p ∷ more)) f.client w in
    let r = front_of (messages_of Server w'.exchange w'.host w'.signature) theirs more p w'.front in
    let g = server_group (spoken w'.exchange w'.host w'.signature) w'.exchange.gex o.peer_kexinit p r.0 (head_of theirs _ p r.0 _ f.theirs_is r.1) (w'.kind_is ∙ (sym q ∙ f.kind)) in
    (g.0, g.1)
readable says s peer (AwaitsReply o None local public) own theirs p more kind q f w =
    let w' : OwnForm Server peer kind (theirs ++ p ∷ more) = subst (λ d. OwnForm (other_side d) peer kind (theirs ++ p ∷ more)) f.client w in
    let r = front_of (messages_of Server w'.exchange w'.host w'.signature) theirs more p w'.front in
    ((spoken w'.exchange w'.host w'.signature).host, (spoken w'.exchange w'.host w'.signature).server_value, (spoken w'.exchange w'.host w'.signature).signature, server_second (spoken w'.exchange w'.host w'.signature) w'.exchange.gex o.peer_kexinit p r.0 (head_of theirs _ p r.0 _ f.theirs_is r.1) (w'.kind_is ∙ (sym q ∙ f.kind)) ∙ ap (λ b. reply_message b (spoken w'.exchange w'.host w'.signature).host (spoken w'.exchange w'.host w'.signature).server_value (spoken w'.exchange w'.host w'.signature).signature) (sym f.kind), w'.short.host_blob, w'.short.server_value, w'.short.signed)
readable says s peer (AwaitsReply o (Some g) local public) own theirs p more kind q f w =
    let w' : OwnForm Server peer kind (theirs ++ p ∷ more) = subst (λ d. OwnForm (other_side d) peer kind (theirs ++ p ∷ more)) f.client w in
    let r = front_of (messages_of Server w'.exchange w'.host w'.signature) theirs more p w'.front in
    ((spoken w'.exchange w'.host w'.signature).host, (spoken w'.exchange w'.host w'.signature).server_value, (spoken w'.exchange w'.host w'.signature).signature, server_third (spoken w'.exchange w'.host w'.signature) w'.exchange.gex o.peer_kexinit (group_message g.group) p r.0 (head_of theirs _ p r.0 _ f.theirs_is r.1) (w'.kind_is ∙ (sym q ∙ f.kind)) ∙ ap (λ b. reply_message b (spoken w'.exchange w'.host w'.signature).host (spoken w'.exchange w'.host w'.signature).server_value (spoken w'.exchange w'.host w'.signature).signature) (sym f.kind), w'.short.host_blob, w'.short.server_value, w'.short.signed)
readable says s peer (AwaitsRequest o) own theirs p more kind q f w =
    let w' : OwnForm Client peer kind (theirs ++ p ∷ more) = subst (λ d. OwnForm (other_side d) peer kind (theirs ++ p ∷ more)) f.server w in
    let r = front_of (messages_of Client w'.exchange w'.host w'.signature) theirs more p w'.front in
    client_request peer (spoken w'.exchange w'.host w'.signature) w'.exchange.gex o.peer_kexinit p r.0 (head_of theirs _ p r.0 _ f.theirs_is r.1) (w'.kind_is ∙ (sym q ∙ f.kind)) w'.asks
readable says s peer (AwaitsValue o None) own theirs p more kind q f w =
    let w' : OwnForm Client peer kind (theirs ++ p ∷ more) = subst (λ d. OwnForm (other_side d) peer kind (theirs ++ p ∷ more)) f.server w in
    let r = front_of (messages_of Client w'.exchange w'.host w'.signature) theirs more p w'.front in
    ((spoken w'.exchange w'.host w'.signature).client_value, client_second (spoken w'.exchange w'.host w'.signature) w'.exchange.gex o.peer_kexinit p r.0 (head_of theirs _ p r.0 _ f.theirs_is r.1) (w'.kind_is ∙ (sym q ∙ f.kind)) ∙ ap (λ b. value_message b (spoken w'.exchange w'.host w'.signature).client_value) (sym f.kind), w'.short.client_value)
readable says s peer (AwaitsValue o (Some g)) own theirs p more kind q f w =
    let w' : OwnForm Client peer kind (theirs ++ p ∷ more) = subst (λ d. OwnForm (other_side d) peer kind (theirs ++ p ∷ more)) f.server w in
    let r = front_of (messages_of Client w'.exchange w'.host w'.signature) theirs more p w'.front in
    ((spoken w'.exchange w'.host w'.signature).client_value, client_third (spoken w'.exchange w'.host w'.signature) w'.exchange.gex o.peer_kexinit (request_message g.params) p r.0 (head_of theirs _ p r.0 _ f.theirs_is r.1) (w'.kind_is ∙ (sym q ∙ f.kind)) ∙ ap (λ b. value_message b (spoken w'.exchange w'.host w'.signature).client_value) (sym f.kind), w'.short.client_value)
readable says s peer (AwaitsNewkeys exchange x host) own theirs p more kind q f w =
    let full = Rattle.ssh_rules.proofs.side.Prompt.full_made s.side says s own (theirs ++ newkeys ∷ []) exchange x host kind q f in
    newkeys_last (other_side s.side) peer kind theirs p more w (sym (Rattle.std.proofs.Common.length-append theirs (newkeys ∷ [])) ∙ full.theirs_is)
