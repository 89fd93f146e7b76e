-- What a link says of an exchange that it recorded is what its record says.
use Rattle.std.proofs.Common.{◌≡◌, ◌⊎◌, inl, inr, ℕ, zero, suc, ◌+◌, ◌<◌, ◌≤◌, ◌^◌, List, [], ◌∷◌, ◌++◌, length, map, refl, sym, ◌∙◌, ap, subst, arith, length-append, Option, Some, None, Bool, true, false, if◌then◌else◌, ◌==◌, Ok}
use Rattle.std.specs.Prelude.{IfSome, is_some}
use Rattle.ssh_packet.specs.Sealing.{Item}
use Rattle.ssh_packet.specs.Stream.{Place, Reads, place_after, is_newkeys}
use Rattle.ssh_wire.specs.Forms.{string, magnitude, unsigned, mpint, u32be}
use Rattle.ssh_wire.specs.declared.side.Side.{Side}
use Rattle.ssh_wire.specs.declared.side.Side.TheVariants.{Client, Server}
use Rattle.ssh_negotiate.specs.declared.negotiation.Names.{Names}
use Rattle.ssh_kex.specs.Exchange.{exchange_hash}
use Rattle.ssh_kex.specs.Messages.{IsCanonical, newkeys, is_gex, value_message, reply_message, group_message}
use Rattle.ssh_kex.specs.Setting.{IsShortGroup}
use Rattle.ssh_kex.specs.declared.config.Config.{Config}
use Rattle.ssh_kex.specs.declared.exchange.Exchange.{Exchange}
use Rattle.ssh_kex.specs.declared.exchange.FinishedExchange.{FinishedExchange}
use Rattle.ssh_kex.specs.declared.exchange.Keys.{Keys}
use Rattle.ssh_kex.specs.declared.group.DhGroup.{DhGroup}
use Rattle.ssh_rules.specs.Fills.{Fills, messages}
use Rattle.ssh_rules.specs.Headline.{IsMadeOf, StandsIn, chosen_by, first_hash, keys_for}
use Rattle.ssh_rules.specs.MessageTypes.{type_of, is_kex_type, order}
use Rattle.ssh_rules.specs.Parts.{ClientPairs, Secrets, ServerValues}
use Rattle.ssh_rules.specs.Valid.{HasSizes}
use Rattle.ssh_rules.specs.Wire.{InBlocks, exchange_block, epochs_ended}
use Rattle.ssh_record.specs.Exchanges.{AreNext, BlocksHold, HasBlocks, IsNext, ReadsWire, block_messages}
use Rattle.ssh_record.specs.Links.{HasSecretsOf}
use Rattle.ssh_record.specs.Recordings.{JudgedRecord}
use Rattle.ssh_record.proofs.OneAnswer.{one_ok}
use Rattle.ssh_record.proofs.WholeBlocks.{block_until, until, whole_block}

-- ---- a block with its NEWKEYS has ended

ends_up : (b : Bool) (n k : ℕ) → b ≡ true → k ≤ n → k < (if b then 1 + n else n)
ends_up true n k e l = omega (arith, l)
ends_up false n k e l = absurd (let p : false ≡ true = e in cc)

ends_on : (b : Bool) (n k : ℕ) → k < n → k < (if b then 1 + n else n)
ends_on true n k l = omega (arith, l)
ends_on false n k l = l

tail_of : (x y : List ℕ) (xs ys : List (List ℕ)) → x ∷ xs ≡ y ∷ ys → xs ≡ ys
tail_of x y xs ys e = cc

head_of : (x y : List ℕ) (xs ys : List (List ℕ)) → x ∷ xs ≡ y ∷ ys → x ≡ y
head_of x y xs ys e = cc

no_end : (ms : List (List ℕ)) → [] ≡ ms ++ newkeys ∷ [] → ⊥
no_end [] e = cc
no_end (m ∷ ms) e = cc

choice : (b : Bool) → (b ≡ true) ⊎ (b ≡ false)
choice true = inl refl
choice false = inr refl

more_ends : (i : Item) (items : List Item) (b : Bool) (ms : List (List ℕ)) → ((t : List (List ℕ)) → exchange_block zero items ≡ t ++ newkeys ∷ [] → 0 < epochs_ended items) → is_newkeys i ≡ false → (if b then i.payload ∷ exchange_block zero items else exchange_block zero items) ≡ ms ++ newkeys ∷ [] → 0 < epochs_ended items
more_ends i items true [] r f g = absurd (let p : i.payload ≡ newkeys = head_of i.payload newkeys (exchange_block zero items) [] g in (let q : is_newkeys i ≡ true = ap (λ t. Rattle.ssh_packet.specs.Stream.message_type t == 21) p in (let z : true ≡ false = sym q ∙ f in cc)))
more_ends i items true (m ∷ ms) r f g = r ms (tail_of i.payload m (exchange_block zero items) (ms ++ newkeys ∷ []) g)
more_ends i items false ms r f g = r ms g

pub block_ends : (k : ℕ) (items : List Item) (ms : List (List ℕ)) → exchange_block k items ≡ ms ++ newkeys ∷ [] → k < epochs_ended items
block_ends zero [] ms e = absurd (no_end ms e)
block_ends (suc k) [] ms e = absurd (no_end ms e)
block_ends zero (i ∷ items) ms e = elim (choice (is_newkeys i)) [
  | inl f ↦ ends_up (is_newkeys i) (epochs_ended items) 0 f (omega arith)
  | inr f ↦ ends_on (is_newkeys i) (epochs_ended items) 0
      (more_ends i items (is_kex_type (type_of i)) ms (λ t g. block_ends zero items t g) f (sym (ap (λ b. if b then i.payload ∷ [] else if is_kex_type (type_of i) then i.payload ∷ exchange_block zero items else exchange_block zero items) f) ∙ e))
]
block_ends (suc k) (i ∷ items) ms e = elim (choice (is_newkeys i)) [
  | inl f ↦ ends_up (is_newkeys i) (epochs_ended items) (suc k) f (let r = block_ends k items ms (sym (ap (λ b. if b then exchange_block k items else exchange_block (suc k) items) f) ∙ e) in omega (arith, r))
  | inr f ↦ ends_on (is_newkeys i) (epochs_ended items) (suc k) (block_ends (suc k) items ms (sym (ap (λ b. if b then exchange_block k items else exchange_block (suc k) items) f) ∙ e))
]

messages_end : (side : Side) (config : Config) (kind : Bool) (f : Fills) → (ms : List (List ℕ)) × (messages side config kind f ≡ ms ++ newkeys ∷ [])
messages_end Client config false f = (Rattle.ssh_negotiate.specs.Advertised.kexinit (Rattle.ssh_kex.specs.Setting.offers_of Client config) f.cookie ∷ value_message false f.value ∷ [], refl)
messages_end Client config true f = (Rattle.ssh_negotiate.specs.Advertised.kexinit (Rattle.ssh_kex.specs.Setting.offers_of Client config) f.cookie ∷ Rattle.ssh_kex.specs.Messages.request_message config.gex ∷ value_message true f.value ∷ [], refl)
messages_end Server config false f = (Rattle.ssh_negotiate.specs.Advertised.kexinit (Rattle.ssh_kex.specs.Setting.offers_of Server config) f.cookie ∷ reply_message false f.host f.value f.signature ∷ [], refl)
messages_end Server config true f = (Rattle.ssh_negotiate.specs.Advertised.kexinit (Rattle.ssh_kex.specs.Setting.offers_of Server config) f.cookie ∷ group_message f.group ∷ reply_message true f.host f.value f.signature ∷ [], refl)

pub made_ends : (side : Side) (config : Config) (kind : Bool) (f : Fills) (k : ℕ) (items : List Item) → exchange_block k items ≡ messages side config kind f → k < epochs_ended items
made_ends side config kind f k items e = let m = messages_end side config kind f in block_ends k items m.0 (e ∙ m.1)

-- ---- messages are short

abbrev pub AllShort : List (List ℕ) → Type 0
AllShort [] = Unit {0}
AllShort (m ∷ ms) = (length m ≤ 262177) × AllShort ms

short_if : (b c : Bool) (p : List ℕ) (ms : List (List ℕ)) → length p ≤ 262177 → AllShort ms → AllShort (if b then p ∷ [] else if c then p ∷ ms else ms)
short_if true c p ms l a = (l, tt)
short_if false true p ms l a = (l, a)
short_if false false p ms l a = a

short_either : (b : Bool) (ms ns : List (List ℕ)) → AllShort ms → AllShort ns → AllShort (if b then ms else ns)
short_either true ms ns a c = a
short_either false ms ns a c = c

block_short : (k : ℕ) (at : Option Place) (items : List Item) (bytes rest : List ℕ) → Reads at items bytes rest → AllShort (exchange_block k items)
block_short zero at [] bytes rest h = tt
block_short (suc k) at [] bytes rest h = tt
block_short zero None (i ∷ items) bytes rest h = absurd h
block_short (suc k) None (i ∷ items) bytes rest h = absurd h
block_short zero (Some at) (i ∷ items) bytes rest h = short_if (is_newkeys i) (is_kex_type (type_of i)) i.payload (exchange_block zero items) (omega (arith, h.1.short)) (block_short zero (place_after at i) items h.0 rest h.3)
block_short (suc k) (Some at) (i ∷ items) bytes rest h = short_either (is_newkeys i) (exchange_block k items) (exchange_block (suc k) items) (block_short k (place_after at i) items h.0 rest h.3) (block_short (suc k) (place_after at i) items h.0 rest h.3)

string_longer : (s : List ℕ) → length s ≤ length (string s)
string_longer s = omega (arith, length-append (u32be (length s)) s)

unsigned_longer : (p : List ℕ) → length p ≤ length (unsigned p)
unsigned_longer [] = omega arith
unsigned_longer (b ∷ p) = by (Rattle.std.specs.Prelude.nat_lt b 128) where
  by : (t : Bool) → length (b ∷ p) ≤ length (if t then b ∷ p else 0 ∷ b ∷ p)
  by true = omega arith
  by false = omega arith

value_longer : (kind : Bool) (v : List ℕ) → length v ≤ length (value_message kind v)
value_longer true v = omega (arith, string_longer v)
value_longer false v = omega (arith, string_longer v)

three_longer : (a b c : List ℕ) → (length a ≤ length (string a ++ (string b ++ string c))) × (length b ≤ length (string a ++ (string b ++ string c))) × (length c ≤ length (string a ++ (string b ++ string c)))
three_longer a b c =
    let e = length-append (string a) (string b ++ string c) in
    let f = length-append (string b) (string c) in
    (omega (arith, e, string_longer a), omega (arith, e, f, string_longer b), omega (arith, e, f, string_longer c))

reply_longer : (kind : Bool) (a b c : List ℕ) → (length a ≤ length (reply_message kind a b c)) × (length b ≤ length (reply_message kind a b c)) × (length c ≤ length (reply_message kind a b c))
reply_longer true a b c = let t = three_longer a b c in (omega (arith, t.0), omega (arith, t.1), omega (arith, t.2))
reply_longer false a b c = let t = three_longer a b c in (omega (arith, t.0), omega (arith, t.1), omega (arith, t.2))

number_longer : (p : List ℕ) → magnitude p ≡ p → length p ≤ length (mpint p)
number_longer p c = omega (arith, ap (λ t. length (unsigned t)) c, unsigned_longer p, string_longer (unsigned (magnitude p)))

group_longer : (g : DhGroup) → IsCanonical g → (length g.prime ≤ length (group_message g)) × (length g.generator ≤ length (group_message g))
group_longer g c =
    let e = length-append (mpint g.prime) (mpint g.generator) in
    (omega (arith, e, number_longer g.prime c.prime), omega (arith, e, number_longer g.generator c.generator))

-- ---- the values of the blocks

short_enough : (n m : ℕ) → n ≤ m → m ≤ 262177 → n < 2 ^ 31
short_enough n m l s = omega (arith, l, s)

shorter_enough : (n m : ℕ) → n ≤ m → m ≤ 262177 → n < 2 ^ 32
shorter_enough n m l s = omega (arith, l, s)

hold_false : (client server : Config) (c s : Fills) (cb sb : List (List ℕ)) (e : Exchange) (host : List ℕ) → HasSizes client → StandsIn client server false cb sb e host → AllShort cb → AllShort sb → BlocksHold client server false cb sb e host
hold_false client server c s cb sb e host sizes t short_c short_s =
    let cs : AllShort (messages Client client false t.client_fills) = subst AllShort t.client_is short_c in
    let ss : AllShort (messages Server server false t.server_fills) = subst AllShort t.server_is short_s in
    let r = reply_longer false t.server_fills.host t.server_fills.value t.server_fills.signature in
    let made : Exchange = record {
      client_id = Rattle.ssh_wire.specs.Lines.id_text client.id;
      server_id = Rattle.ssh_wire.specs.Lines.id_text server.id;
      client_kex_init = Rattle.ssh_negotiate.specs.Advertised.kexinit (Rattle.ssh_kex.specs.Setting.offers_of Client client) t.client_fills.cookie;
      server_kex_init = Rattle.ssh_negotiate.specs.Advertised.kexinit (Rattle.ssh_kex.specs.Setting.offers_of Server server) t.server_fills.cookie;
      client_ephemeral = t.client_fills.value;
      server_ephemeral = t.server_fills.value;
      gex = None;
    } in
    subst (λ x. BlocksHold client server false cb sb x host) (sym t.exchange_is)
    (subst (BlocksHold client server false cb sb made) (sym t.host_is)
    (record {
      client_id = refl;
      server_id = refl;
      kind_is = refl;
      signature = t.server_fills.signature;
      client_end = newkeys;
      server_end = newkeys;
      client_is = t.client_is;
      server_is = t.server_is;
      short = record {
        client_value = shorter_enough _ _ (value_longer false t.client_fills.value) cs.1.0;
        host_blob = shorter_enough _ _ r.0 ss.1.0;
        server_value = shorter_enough _ _ r.1 ss.1.0;
        signed = shorter_enough _ _ r.2 ss.1.0;
        group = tt;
      };
      group = tt;
    }))

hold_true : (client server : Config) (c s : Fills) (cb sb : List (List ℕ)) (e : Exchange) (host : List ℕ) → HasSizes client → StandsIn client server true cb sb e host → AllShort cb → AllShort sb → BlocksHold client server true cb sb e host
hold_true client server c s cb sb e host sizes t short_c short_s =
    let cs : AllShort (messages Client client true t.client_fills) = subst AllShort t.client_is short_c in
    let ss : AllShort (messages Server server true t.server_fills) = subst AllShort t.server_is short_s in
    let r = reply_longer true t.server_fills.host t.server_fills.value t.server_fills.signature in
    let canonical = t.canonical refl in
    let g = group_longer t.server_fills.group canonical in
    let made : Exchange = record {
      client_id = Rattle.ssh_wire.specs.Lines.id_text client.id;
      server_id = Rattle.ssh_wire.specs.Lines.id_text server.id;
      client_kex_init = Rattle.ssh_negotiate.specs.Advertised.kexinit (Rattle.ssh_kex.specs.Setting.offers_of Client client) t.client_fills.cookie;
      server_kex_init = Rattle.ssh_negotiate.specs.Advertised.kexinit (Rattle.ssh_kex.specs.Setting.offers_of Server server) t.server_fills.cookie;
      client_ephemeral = t.client_fills.value;
      server_ephemeral = t.server_fills.value;
      gex = Some (record { params = client.gex; group = t.server_fills.group });
    } in
    subst (λ x. BlocksHold client server true cb sb x host) (sym t.exchange_is)
    (subst (BlocksHold client server true cb sb made) (sym t.host_is)
    (record {
      client_id = refl;
      server_id = refl;
      kind_is = refl;
      signature = t.server_fills.signature;
      client_end = newkeys;
      server_end = newkeys;
      client_is = t.client_is;
      server_is = t.server_is;
      short = record {
        client_value = shorter_enough _ _ (value_longer true t.client_fills.value) cs.1.1.0;
        host_blob = shorter_enough _ _ r.0 ss.1.1.0;
        server_value = shorter_enough _ _ r.1 ss.1.1.0;
        signed = shorter_enough _ _ r.2 ss.1.1.0;
        group = record {
          prime = short_enough _ _ g.0 ss.1.0;
          generator = short_enough _ _ g.1 ss.1.0;
          least = sizes.least;
          preferred = sizes.wanted;
          most = sizes.most;
        };
      };
      group = canonical;
    }))

blocks_hold : (client server : Config) (kind : Bool) (cb sb : List (List ℕ)) (e : Exchange) (host : List ℕ) → HasSizes client → StandsIn client server kind cb sb e host → AllShort cb → AllShort sb → BlocksHold client server kind cb sb e host
blocks_hold client server false cb sb e host sizes t a b = hold_false client server t.client_fills t.server_fills cb sb e host sizes t a b
blocks_hold client server true cb sb e host sizes t a b = hold_true client server t.client_fills t.server_fills cb sb e host sizes t a b

-- ---- what is kept

abbrev finished : Names → List ℕ → List ℕ → Keys → FinishedExchange
finished n h s k = record { names = n; hash = h; session_id = s; keys = k }

same_finished : (x : FinishedExchange) (n : Names) (h s : List ℕ) (k : Keys) → x.names ≡ n → x.hash ≡ h → x.session_id ≡ s → x.keys ≡ k → x ≡ finished n h s k
same_finished x n h s k p q r t = ap (λ v. finished v x.hash x.session_id x.keys) p ∙ (ap (λ v. finished n v x.session_id x.keys) q ∙ (ap (λ v. finished n h v x.keys) r ∙ ap (finished n h s) t))

same_keys : (n m : Names) (s t h i a b : List ℕ) → n ≡ m → s ≡ t → h ≡ i → a ≡ b → keys_for n s h a ≡ keys_for m t i b
same_keys n m s t h i a b p q r u = ap (λ v. keys_for v s h a) p ∙ (ap (λ v. keys_for m v h a) q ∙ (ap (λ v. keys_for m t v a) r ∙ ap (keys_for m t i) u))

same_hash : (n m : Names) (e : Exchange) (host s t : List ℕ) → n ≡ m → s ≡ t → exchange_hash n.kex e host (Some s) ≡ exchange_hash m.kex e host (Some t)
same_hash n m e host s t p q = ap (λ (v : Names). exchange_hash v.kex e host (Some s)) p ∙ ap (λ v. exchange_hash m.kex e host (Some v)) q

-- an exchange that a link recorded is the next one of its record
pub made_next : (cm : ClientPairs) (sm : ServerValues) (ag : Secrets) (j : JudgedRecord) (before : List FinishedExchange) (x : FinishedExchange) (client_items server_items : List Item) (at_client at_server : Option Place) (client_bytes server_bytes client_rest server_rest : List ℕ)
    → chosen_by j.client j.server ≡ Ok j.names → HasSizes j.client → HasSecretsOf cm sm ag j → AreNext j before
    → Reads at_client client_items client_bytes client_rest → Reads at_server server_items server_bytes server_rest
    → InBlocks Client (λ k. is_gex j.names.kex) 1 (order Client (is_gex j.names.kex)) client_items → InBlocks Server (λ k. is_gex j.names.kex) 1 (order Server (is_gex j.names.kex)) server_items
    → IsMadeOf cm sm ag j.client j.server before (exchange_block (length before) client_items) (exchange_block (length before) server_items) x
    → (length before < epochs_ended client_items → ReadsWire Client j.client before j.recording.client (until (length before) client_items))
    → (length before < epochs_ended server_items → ReadsWire Server j.server before j.recording.server (until (length before) server_items))
    → IsNext j before x
made_next cm sm ag j before x ci si atc ats cb sb cr sr chosen sizes given nexts reads_c reads_s in_c in_s m wire_c wire_s =
    let k = length before in
    let kind = is_gex j.names.kex in
    let n : x.names ≡ j.names = one_ok x.names j.names (chosen_by j.client j.server) m.names chosen in
    let stand : StandsIn j.client j.server kind (exchange_block k ci) (exchange_block k si) m.exchange m.host = subst (λ (v : Names). StandsIn j.client j.server (is_gex v.kex) (exchange_block k ci) (exchange_block k si) m.exchange m.host) n m.stand in
    let client_ended = made_ends Client j.client kind stand.client_fills k ci stand.client_is in
    let server_ended = made_ends Server j.server kind stand.server_fills k si stand.server_is in
    let client_block = whole_block Client kind k ci in_c client_ended in
    let server_block = whole_block Server kind k si in_s server_ended in
    let blocks : HasBlocks j before m.exchange m.host = record {
      client_items = until k ci;
      server_items = until k si;
      client_reads = wire_c client_ended;
      server_reads = wire_s server_ended;
      client_whole = ap (map type_of) (block_until k ci) ∙ client_block.types_are;
      server_whole = ap (map type_of) (block_until k si) ∙ server_block.types_are;
      hold = subst (λ b. BlocksHold j.client j.server kind b (block_messages k (until k si)) m.exchange m.host) (sym (ap (map (λ (i : Item). i.payload)) (block_until k ci) ∙ client_block.messages_are))
          (subst (λ b. BlocksHold j.client j.server kind (exchange_block k ci) b m.exchange m.host) (sym (ap (map (λ (i : Item). i.payload)) (block_until k si) ∙ server_block.messages_are))
          (blocks_hold j.client j.server kind (exchange_block k ci) (exchange_block k si) m.exchange m.host sizes stand (block_short k atc ci cb cr reads_c) (block_short k ats si sb sr reads_s)));
    } in
    let s = given.given before m.exchange m.host nexts blocks in
    let secret : m.secret ≡ s.0 = s.2.one m.local m.secret
    (subst (λ (v : Names). cm v.kex (Rattle.ssh_kex.specs.Setting.group_of m.exchange.gex) m.local m.exchange.client_ephemeral) n m.by_client)
    (subst (λ (v : Names). sm v.kex (Rattle.ssh_kex.specs.Setting.group_of m.exchange.gex) m.exchange.client_ephemeral m.exchange.server_ephemeral) n m.by_server)
    (subst (λ (v : Names). ag v.kex (Rattle.ssh_kex.specs.Setting.group_of m.exchange.gex) m.exchange.client_ephemeral m.exchange.server_ephemeral m.secret) n m.agree) in
    let h = exchange_hash j.names.kex m.exchange m.host (Some s.0) in
    let hash : x.hash ≡ h = m.hash ∙ same_hash x.names j.names m.exchange m.host m.secret s.0 n secret in
    let session : x.session_id ≡ first_hash before h = m.session ∙ ap (first_hash before) hash in
    record {
      exchange = m.exchange;
      host = m.host;
      secret = s.0;
      blocks = blocks;
      given = s.1;
      kept = same_finished x j.names h (first_hash before h) (keys_for j.names s.0 h (first_hash before h)) n hash session (m.keys ∙ same_keys x.names j.names m.secret s.0 x.hash h x.session_id (first_hash before h) n secret hash session);
    }
