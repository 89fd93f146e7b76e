-- The exchanges of a record are one list.
use Rattle.std.proofs.Common.{◌≡◌, ℕ, suc, ◌≤◌, List, [], ◌∷◌, ◌++◌, length, take, map, slice_get, refl, sym, ◌∙◌, ap, subst, arith, append_assoc, Option, Some, None, Bool}
use Rattle.std.specs.Prelude.{is_some}
use Rattle.std.proofs.lemmas.List.{append_cancel_left}
use Rattle.std.proofs.lemmas.Option.{slice_get_within}
use Rattle.ssh_packet.specs.Sealing.{Item}
use Rattle.ssh_wire.specs.Lines.{id_line}
use Rattle.ssh_wire.specs.declared.side.Side.{Side}
use Rattle.ssh_wire.specs.declared.side.Side.TheVariants.{Client, Server}
use Rattle.ssh_negotiate.specs.declared.negotiation.Names.{Names}
use Rattle.ssh_kex.specs.Exchange.{outgoing}
use Rattle.ssh_kex.specs.Messages.{IsCanonical, newkeys}
use Rattle.ssh_kex.specs.declared.config.Config.{Config}
use Rattle.ssh_kex.specs.declared.exchange.Exchange.{Exchange}
use Rattle.ssh_kex.specs.declared.exchange.FinishedExchange.{FinishedExchange}
use Rattle.ssh_kex.specs.declared.exchange.GexChosen.{GexChosen}
use Rattle.ssh_rules.proofs.Lemmas.{client_by, server_by, SameTalk, talk_one}
use Rattle.ssh_record.specs.Exchanges.{AreExchanges, BlocksHold, HasBlocks, IsNext, ReadsWire, block_messages, client_front, kept_of_values, server_front}
use Rattle.ssh_record.specs.Recordings.{JudgedRecord}
use Rattle.ssh_record.proofs.Readings.{entries_one}

-- ---- the values of two blocks

pub snoc_front : {A : Type 0} (xs ys : List A) (x y : A) → xs ++ x ∷ [] ≡ ys ++ y ∷ [] → xs ≡ ys
snoc_front [] [] x y e = refl
snoc_front [] (b ∷ ys) x y e = absurd (too_long ys (let p : [] ≡ ys ++ y ∷ [] = cc in p)) where
  too_long : (ys : List _) → [] ≡ ys ++ y ∷ [] → ⊥
  too_long [] e = cc
  too_long (c ∷ ys) e = cc
snoc_front (a ∷ xs) [] x y e = absurd (too_long xs (let p : xs ++ x ∷ [] ≡ [] = cc in p)) where
  too_long : (xs : List _) → xs ++ x ∷ [] ≡ [] → ⊥
  too_long [] e = cc
  too_long (c ∷ xs) e = cc
snoc_front (a ∷ xs) (b ∷ ys) x y e = let p : a ≡ b = cc in let q = snoc_front xs ys x y (let r : xs ++ x ∷ [] ≡ ys ++ y ∷ [] = cc in r) in cc

client_whole : (e : Exchange) (g : Option GexChosen) → e.gex ≡ g → client_front e ++ newkeys ∷ [] ≡ client_by g e.client_kex_init e.client_ephemeral
client_whole e None q = ap (λ t. (e.client_kex_init ∷ (Rattle.ssh_rules.specs.ExchangeMessages.requests t ++ Rattle.ssh_kex.specs.Messages.value_message (is_some t) e.client_ephemeral ∷ [])) ++ newkeys ∷ []) q
client_whole e (Some g) q = ap (λ t. (e.client_kex_init ∷ (Rattle.ssh_rules.specs.ExchangeMessages.requests t ++ Rattle.ssh_kex.specs.Messages.value_message (is_some t) e.client_ephemeral ∷ [])) ++ newkeys ∷ []) q

server_whole : (e : Exchange) (host signature : List ℕ) (g : Option GexChosen) → e.gex ≡ g → server_front e host signature ++ newkeys ∷ [] ≡ server_by g e.server_kex_init host e.server_ephemeral signature
server_whole e host signature None q = ap (λ t. (e.server_kex_init ∷ (Rattle.ssh_rules.specs.ExchangeMessages.groups t ++ Rattle.ssh_kex.specs.Messages.reply_message (is_some t) host e.server_ephemeral signature ∷ [])) ++ newkeys ∷ []) q
server_whole e host signature (Some g) q = ap (λ t. (e.server_kex_init ∷ (Rattle.ssh_rules.specs.ExchangeMessages.groups t ++ Rattle.ssh_kex.specs.Messages.reply_message (is_some t) host e.server_ephemeral signature ∷ [])) ++ newkeys ∷ []) q

abbrev exchange_with : List ℕ → List ℕ → List ℕ → List ℕ → List ℕ → List ℕ → Option GexChosen → Exchange
exchange_with a b c d e f g = record {
  client_id = a;
  server_id = b;
  client_kex_init = c;
  server_kex_init = d;
  client_ephemeral = e;
  server_ephemeral = f;
  gex = g;
}

pub same_exchange : (d e : Exchange) → d.client_id ≡ e.client_id → d.server_id ≡ e.server_id → d.client_kex_init ≡ e.client_kex_init → d.server_kex_init ≡ e.server_kex_init → d.client_ephemeral ≡ e.client_ephemeral → d.server_ephemeral ≡ e.server_ephemeral → d.gex ≡ e.gex → d ≡ e
same_exchange d e p q r s t u v =
    ap (λ x. exchange_with x d.server_id d.client_kex_init d.server_kex_init d.client_ephemeral d.server_ephemeral d.gex) p
    ∙ (ap (λ x. exchange_with e.client_id x d.client_kex_init d.server_kex_init d.client_ephemeral d.server_ephemeral d.gex) q
    ∙ (ap (λ x. exchange_with e.client_id e.server_id x d.server_kex_init d.client_ephemeral d.server_ephemeral d.gex) r
    ∙ (ap (λ x. exchange_with e.client_id e.server_id e.client_kex_init x d.client_ephemeral d.server_ephemeral d.gex) s
    ∙ (ap (λ x. exchange_with e.client_id e.server_id e.client_kex_init e.server_kex_init x d.server_ephemeral d.gex) t
    ∙ (ap (λ x. exchange_with e.client_id e.server_id e.client_kex_init e.server_kex_init e.client_ephemeral x d.gex) u
    ∙ ap (exchange_with e.client_id e.server_id e.client_kex_init e.server_kex_init e.client_ephemeral e.server_ephemeral) v)))))

pub hold_one : (client server : Config) (kind : Bool) (a b : List (List ℕ)) (d e : Exchange) (g h : List ℕ) → BlocksHold client server kind a b d g → BlocksHold client server kind a b e h → (d ≡ e) × (g ≡ h)
hold_one client server kind a b d e g h x y =
    let fronts : client_front d ≡ client_front e = snoc_front (client_front d) (client_front e) x.client_end y.client_end (sym x.client_is ∙ y.client_is) in
    let backs : server_front d g x.signature ≡ server_front e h y.signature = snoc_front (server_front d g x.signature) (server_front e h y.signature) x.server_end y.server_end (sym x.server_is ∙ y.server_is) in
    let t : SameTalk d.gex e.gex d.client_kex_init e.client_kex_init d.server_kex_init e.server_kex_init d.client_ephemeral e.client_ephemeral g h d.server_ephemeral e.server_ephemeral x.signature y.signature =
    talk_one d.gex e.gex d.client_kex_init e.client_kex_init d.server_kex_init e.server_kex_init d.client_ephemeral e.client_ephemeral g h d.server_ephemeral e.server_ephemeral x.signature y.signature
    x.group y.group x.short.group y.short.group x.short.client_value y.short.client_value x.short.host_blob y.short.host_blob x.short.server_value y.short.server_value x.short.signed y.short.signed
    (sym (client_whole d d.gex refl) ∙ (ap (λ s. s ++ newkeys ∷ []) fronts ∙ client_whole e e.gex refl))
    (sym (server_whole d g x.signature d.gex refl) ∙ (ap (λ s. s ++ newkeys ∷ []) backs ∙ server_whole e h y.signature e.gex refl)) in
    (same_exchange d e (x.client_id ∙ sym y.client_id) (x.server_id ∙ sym y.server_id) t.client_kexinit t.server_kexinit t.client_value t.server_value t.group, t.host)

-- ---- one exchange

pub reads_one : (side : Side) (config : Config) (xs : List FinishedExchange) (wire : List ℕ) (a b : List Item) → ReadsWire side config xs wire a → ReadsWire side config xs wire b → a ≡ b
reads_one side config xs wire a b h k =
    let same : h.packets ≡ k.packets = append_cancel_left (id_line config.id) h.packets k.packets (sym h.line ∙ k.line) in
    (entries_one (map (outgoing side) xs) h.packets h.rest k.rest a b h.entries (subst (λ p. Rattle.ssh_packet.specs.Stream.Entries (map (outgoing side) xs) p b k.rest) (sym same) k.entries)).0

pub blocks_one : (j : JudgedRecord) (before : List FinishedExchange) (d e : Exchange) (g h : List ℕ) → HasBlocks j before d g → HasBlocks j before e h → (d ≡ e) × (g ≡ h)
blocks_one j before d e g h x y =
    let client = reads_one Client j.client before j.recording.client x.client_items y.client_items x.client_reads y.client_reads in
    let server = reads_one Server j.server before j.recording.server x.server_items y.server_items x.server_reads y.server_reads in
    let moved = subst (λ a. BlocksHold j.client j.server (Rattle.ssh_kex.specs.Messages.is_gex j.names.kex) (block_messages (length before) a) (block_messages (length before) x.server_items) e h) (sym client)
    (subst (λ b. BlocksHold j.client j.server (Rattle.ssh_kex.specs.Messages.is_gex j.names.kex) (block_messages (length before) y.client_items) (block_messages (length before) b) e h) (sym server) y.hold) in
    hold_one j.client j.server (Rattle.ssh_kex.specs.Messages.is_gex j.names.kex) _ _ d e g h x.hold moved

kept_same : (n : Names) (before : List FinishedExchange) (d e : Exchange) (g h s t : List ℕ) → d ≡ e → g ≡ h → s ≡ t → kept_of_values n before d g s ≡ kept_of_values n before e h t
kept_same n before d e g h s t p q r = ap (λ x. kept_of_values n before x g s) p ∙ (ap (λ x. kept_of_values n before e x s) q ∙ ap (kept_of_values n before e h) r)

one_some : (s t : List ℕ) → Some s ≡ Some t → s ≡ t
one_some s t e = cc

pub next_one : (j : JudgedRecord) (before : List FinishedExchange) (x y : FinishedExchange) → IsNext j before x → IsNext j before y → x ≡ y
next_one j before x y h k =
    let b = blocks_one j before h.exchange k.exchange h.host k.host h.blocks k.blocks in
    h.kept ∙ (kept_same j.names before h.exchange k.exchange h.host k.host h.secret k.secret b.0 b.1 (one_some h.secret k.secret (sym h.given ∙ k.given)) ∙ sym k.kept)

-- ---- one list

abbrev pub Each : {X : Type 0} → (List X → X → Type 0) → List X → List X → Type 0
Each {X} Next before xs = (k : ℕ) (x : X) → slice_get xs k ≡ Some x → Next (before ++ take k xs) x

pub each_on : {X : Type 0} (Next : List X → X → Type 0) (before : List X) (x : X) (xs : List X) → Each Next before (x ∷ xs) → Each Next (before ++ x ∷ []) xs
each_on Next before x xs h = λ k y e. subst (λ b. Next b y) (sym (append_assoc before (x ∷ []) (take k xs))) (h (suc k) y e)

lists_from : {X : Type 0} (Next : List X → X → Type 0) → ((b : List X) (x y : X) → Next b x → Next b y → x ≡ y) → (before xs ys : List X) → Each Next before xs → Each Next before ys → ((y : X) → Next (before ++ xs) y → ⊥) → ((y : X) → Next (before ++ ys) y → ⊥) → xs ≡ ys
lists_from Next one before [] [] h k s t = refl
lists_from Next one before [] (y ∷ ys) h k s t = absurd (s y (k 0 y refl))
lists_from Next one before (x ∷ xs) [] h k s t = absurd (t x (h 0 x refl))
lists_from Next one before (x ∷ xs) (y ∷ ys) h k s t =
    let first : x ≡ y = one (before ++ []) x y (h 0 x refl) (k 0 y refl) in
    let more = lists_from Next one (before ++ x ∷ []) xs ys (each_on Next before x xs h)
    (subst (λ z. Each Next (before ++ z ∷ []) ys) (sym first) (each_on Next before y ys k))
    (λ z n. s z (subst (λ b. Next b z) (append_assoc before (x ∷ []) xs) n))
    (λ z n. t z (subst (λ b. Next b z) (append_assoc before (y ∷ []) ys) (subst (λ w. Next ((before ++ w ∷ []) ++ ys) z) first n))) in
    both_same x y xs ys first more
  where
    both_same : {X : Type 0} (x y : X) (xs ys : List X) → x ≡ y → xs ≡ ys → x ∷ xs ≡ y ∷ ys
    both_same x y xs ys e f = cc

pub no_next : (j : JudgedRecord) (xs : List FinishedExchange) (y : FinishedExchange) → ((e : Exchange) (host : List ℕ) → HasBlocks j xs e host → length j.recording.secrets ≤ length xs) → IsNext j xs y → ⊥
no_next j xs y all n = omega (arith, all n.exchange n.host n.blocks, slice_get_within j.recording.secrets (length xs) n.secret n.given)

-- all exchanges of a record are one list
pub exchanges_one : (j : JudgedRecord) (xs ys : List FinishedExchange) → AreExchanges j xs → AreExchanges j ys → xs ≡ ys
exchanges_one j xs ys h k =
    lists_from (IsNext j) (next_one j) [] xs ys h.each k.each (λ y n. no_next j xs y h.all n) (λ y n. no_next j ys y k.all n)
