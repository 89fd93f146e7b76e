-- A message of a place is spelled as the messages of that place are.
use Rattle.std.proofs.Common.{◌≡◌, ◌≢◌, ℕ, zero, suc, ◌+◌, ◌<◌, ◌≤◌, List, [], ◌∷◌, ◌++◌, length, take, drop, refl, sym, ◌∙◌, ap, subst, arith, Option, Some, None, Bool, true, false, length-append}
use Rattle.std.proofs.lemmas.List.{length-take-le, take-append-drop}
use Rattle.std.proofs.Math.Seq.{drop-append_seam}
use Rattle.std.proofs.lemmas.Bool.Decides.{nat_tests}
use Rattle.std.specs.Prelude.{◌==◌, IsTrue, slice_get}
use Rattle.ssh_wire.specs.declared.side.Side.{Side}
use Rattle.ssh_wire.specs.declared.side.Side.TheVariants.{Client, Server}
use Rattle.ssh_wire.specs.Forms.{mpint, string}
use Rattle.ssh_packet.specs.Stream.{message_type}
use Rattle.ssh_negotiate.specs.Advertised.{Offers, advertised_lists, kexinit, kexinit_end, name_lists}
use Rattle.ssh_kex.specs.Messages.{newkeys, sizes_text}
use Rattle.ssh_kex.specs.Setting.{offers_of}
use Rattle.ssh_kex.specs.declared.config.Config.{Config}
use Rattle.ssh_rules.specs.Fills.{Fills, messages}
use Rattle.ssh_rules.specs.MessageTypes.{order}
use Rattle.ssh_blocks.specs.Forms.{AreTwoNumbers, IsOneString, IsReplyOf, IsSameKexinit}
use Rattle.ssh_blocks.specs.Judging.{IsMessageAt, reply_place}

pub some_one : {A : Type 0} (x y : A) → Some x ≡ Some y → x ≡ y
some_one x y e = cc

-- no values but a cookie
abbrev blank : List ℕ → Fills
blank cookie = record { cookie = cookie; group = record { prime = []; generator = [] }; host = []; value = []; signature = [] }

-- ---- where a type stands in an order

type_at : (p : List ℕ) (t : ℕ) (fields : List ℕ) → p ≡ t ∷ fields → message_type p ≡ t
type_at p t fields e = ap message_type e

client_plain_place : (k : ℕ) → slice_get (order Client false) k ≡ Some 30 → k ≡ 1
client_plain_place zero e = absurd (omega (arith, some_one 20 30 e))
client_plain_place (suc zero) e = refl
client_plain_place (suc (suc zero)) e = absurd (omega (arith, some_one 21 30 e))
client_plain_place (suc (suc (suc n))) e = absurd (let p : None ≡ Some 30 = e in cc)

client_request_place : (k : ℕ) → slice_get (order Client true) k ≡ Some 34 → k ≡ 1
client_request_place zero e = absurd (omega (arith, some_one 20 34 e))
client_request_place (suc zero) e = refl
client_request_place (suc (suc zero)) e = absurd (omega (arith, some_one 32 34 e))
client_request_place (suc (suc (suc zero))) e = absurd (omega (arith, some_one 21 34 e))
client_request_place (suc (suc (suc (suc n)))) e = absurd (let p : None ≡ Some 34 = e in cc)

client_group_place : (k : ℕ) → slice_get (order Client true) k ≡ Some 32 → k ≡ 2
client_group_place zero e = absurd (omega (arith, some_one 20 32 e))
client_group_place (suc zero) e = absurd (omega (arith, some_one 34 32 e))
client_group_place (suc (suc zero)) e = refl
client_group_place (suc (suc (suc zero))) e = absurd (omega (arith, some_one 21 32 e))
client_group_place (suc (suc (suc (suc n)))) e = absurd (let p : None ≡ Some 32 = e in cc)

server_plain_place : (k : ℕ) → slice_get (order Server false) k ≡ Some 31 → k ≡ 1
server_plain_place zero e = absurd (omega (arith, some_one 20 31 e))
server_plain_place (suc zero) e = refl
server_plain_place (suc (suc zero)) e = absurd (omega (arith, some_one 21 31 e))
server_plain_place (suc (suc (suc n))) e = absurd (let p : None ≡ Some 31 = e in cc)

server_group_place : (k : ℕ) → slice_get (order Server true) k ≡ Some 31 → k ≡ 1
server_group_place zero e = absurd (omega (arith, some_one 20 31 e))
server_group_place (suc zero) e = refl
server_group_place (suc (suc zero)) e = absurd (omega (arith, some_one 33 31 e))
server_group_place (suc (suc (suc zero))) e = absurd (omega (arith, some_one 21 31 e))
server_group_place (suc (suc (suc (suc n)))) e = absurd (let p : None ≡ Some 31 = e in cc)

server_reply_place : (k : ℕ) → slice_get (order Server true) k ≡ Some 33 → k ≡ 2
server_reply_place zero e = absurd (omega (arith, some_one 20 33 e))
server_reply_place (suc zero) e = absurd (omega (arith, some_one 31 33 e))
server_reply_place (suc (suc zero)) e = refl
server_reply_place (suc (suc (suc zero))) e = absurd (omega (arith, some_one 21 33 e))
server_reply_place (suc (suc (suc (suc n)))) e = absurd (let p : None ≡ Some 33 = e in cc)

-- the message at a place, from where its type stands
at_type : (o : List ℕ) (k t : ℕ) (p fields : List ℕ) → slice_get o k ≡ Some (message_type p) → p ≡ t ∷ fields → slice_get o k ≡ Some t
at_type o k t p fields due e = due ∙ ap Some (type_at p t fields e)

other_side_is : Client ≡ Server → ⊥
other_side_is e = cc

-- ---- a client's

pub client_plain : (config : Config) (host : Option (List ℕ)) (cookie : List ℕ) (k : ℕ) (p : List ℕ) → length cookie ≡ 16 → slice_get (order Client false) k ≡ Some (message_type p) → IsOneString 30 p → IsMessageAt Client config false host k p
client_plain config host cookie k p c due one =
    subst (λ n. IsMessageAt Client config false host n p) (sym (client_plain_place k (at_type (order Client false) k 30 p (string one.0) due one.1))) (record {
      fills = record (blank cookie) { value = one.0 };
      at = ap Some (sym one.1);
      cookie = c;
      presents = λ s e. absurd (other_side_is s);
    })

pub client_value : (config : Config) (host : Option (List ℕ)) (cookie : List ℕ) (k : ℕ) (p : List ℕ) → length cookie ≡ 16 → slice_get (order Client true) k ≡ Some (message_type p) → IsOneString 32 p → IsMessageAt Client config true host k p
client_value config host cookie k p c due one =
    subst (λ n. IsMessageAt Client config true host n p) (sym (client_group_place k (at_type (order Client true) k 32 p (string one.0) due one.1))) (record {
      fills = record (blank cookie) { value = one.0 };
      at = ap Some (sym one.1);
      cookie = c;
      presents = λ s e. absurd (other_side_is s);
    })

pub client_request : (config : Config) (host : Option (List ℕ)) (cookie : List ℕ) (k : ℕ) (p : List ℕ) → length cookie ≡ 16 → slice_get (order Client true) k ≡ Some (message_type p) → p ≡ 34 ∷ sizes_text config.gex → IsMessageAt Client config true host k p
client_request config host cookie k p c due e =
    subst (λ n. IsMessageAt Client config true host n p) (sym (client_request_place k (at_type (order Client true) k 34 p (sizes_text config.gex) due e))) (record {
      fills = blank cookie;
      at = ap Some (sym e);
      cookie = c;
      presents = λ s f. absurd (other_side_is s);
    })

pub client_plain_is : (config : Config) (host : Option (List ℕ)) (k : ℕ) (p : List ℕ) → 0 < k → message_type p ≢ 21 → IsMessageAt Client config false host k p → IsOneString 30 p
client_plain_is config host zero p l other m = absurd (omega (arith, l))
client_plain_is config host (suc zero) p l other m = (m.fills.value, sym (some_one _ _ m.at))
client_plain_is config host (suc (suc zero)) p l other m = absurd (other (ap message_type (sym (some_one newkeys p m.at))))
client_plain_is config host (suc (suc (suc n))) p l other m = absurd (let e : None ≡ Some p = m.at in cc)

pub client_request_is : (config : Config) (host : Option (List ℕ)) (p : List ℕ) → IsMessageAt Client config true host 1 p → p ≡ 34 ∷ sizes_text config.gex
client_request_is config host p m = sym (some_one _ _ m.at)

pub client_value_is : (config : Config) (host : Option (List ℕ)) (k : ℕ) (p : List ℕ) → 0 < k → k ≢ 1 → message_type p ≢ 21 → IsMessageAt Client config true host k p → IsOneString 32 p
client_value_is config host zero p l f other m = absurd (omega (arith, l))
client_value_is config host (suc zero) p l f other m = absurd (f refl)
client_value_is config host (suc (suc zero)) p l f other m = (m.fills.value, sym (some_one _ _ m.at))
client_value_is config host (suc (suc (suc zero))) p l f other m = absurd (other (ap message_type (sym (some_one newkeys p m.at))))
client_value_is config host (suc (suc (suc (suc n)))) p l f other m = absurd (let e : None ≡ Some p = m.at in cc)

-- ---- a server's

pub server_plain : (config : Config) (host : Option (List ℕ)) (cookie : List ℕ) (k : ℕ) (p : List ℕ) → length cookie ≡ 16 → slice_get (order Server false) k ≡ Some (message_type p) → IsReplyOf host 31 p → IsMessageAt Server config false host k p
server_plain config host cookie k p c due r =
    subst (λ n. IsMessageAt Server config false host n p) (sym (server_plain_place k (at_type (order Server false) k 31 p (string r.shown ++ (string r.value ++ string r.signature)) due r.spelled))) (record {
      fills = record (blank cookie) { host = r.shown; value = r.value; signature = r.signature };
      at = ap Some (sym r.spelled);
      cookie = c;
      presents = λ s e. r.presents;
    })

pub server_reply : (config : Config) (host : Option (List ℕ)) (cookie : List ℕ) (k : ℕ) (p : List ℕ) → length cookie ≡ 16 → slice_get (order Server true) k ≡ Some (message_type p) → IsReplyOf host 33 p → IsMessageAt Server config true host k p
server_reply config host cookie k p c due r =
    subst (λ n. IsMessageAt Server config true host n p) (sym (server_reply_place k (at_type (order Server true) k 33 p (string r.shown ++ (string r.value ++ string r.signature)) due r.spelled))) (record {
      fills = record (blank cookie) { host = r.shown; value = r.value; signature = r.signature };
      at = ap Some (sym r.spelled);
      cookie = c;
      presents = λ s e. r.presents;
    })

pub server_group : (config : Config) (host : Option (List ℕ)) (cookie : List ℕ) (k : ℕ) (p : List ℕ) → length cookie ≡ 16 → slice_get (order Server true) k ≡ Some (message_type p) → AreTwoNumbers 31 p → IsMessageAt Server config true host k p
server_group config host cookie k p c due two =
    subst (λ n. IsMessageAt Server config true host n p) (sym (server_group_place k (at_type (order Server true) k 31 p (mpint two.0 ++ mpint two.1) due two.2))) (record {
      fills = record (blank cookie) { group = record { prime = two.0; generator = two.1 } };
      at = ap Some (sym two.2);
      cookie = c;
      presents = λ s e. absurd (let z : 1 ≡ 2 = e in omega (arith, z));
    })

pub server_plain_is : (config : Config) (host : Option (List ℕ)) (k : ℕ) (p : List ℕ) → 0 < k → message_type p ≢ 21 → IsMessageAt Server config false host k p → IsReplyOf host 31 p
server_plain_is config host zero p l other m = absurd (omega (arith, l))
server_plain_is config host (suc zero) p l other m = record {
  shown = m.fills.host;
  value = m.fills.value;
  signature = m.fills.signature;
  spelled = sym (some_one _ _ m.at);
  presents = m.presents refl refl;
}
server_plain_is config host (suc (suc zero)) p l other m = absurd (other (ap message_type (sym (some_one newkeys p m.at))))
server_plain_is config host (suc (suc (suc n))) p l other m = absurd (let e : None ≡ Some p = m.at in cc)

pub server_group_is : (config : Config) (host : Option (List ℕ)) (p : List ℕ) → IsMessageAt Server config true host 1 p → AreTwoNumbers 31 p
server_group_is config host p m = (m.fills.group.prime, m.fills.group.generator, sym (some_one _ _ m.at))

pub server_reply_is : (config : Config) (host : Option (List ℕ)) (k : ℕ) (p : List ℕ) → 0 < k → k ≢ 1 → message_type p ≢ 21 → IsMessageAt Server config true host k p → IsReplyOf host 33 p
server_reply_is config host zero p l f other m = absurd (omega (arith, l))
server_reply_is config host (suc zero) p l f other m = absurd (f refl)
server_reply_is config host (suc (suc zero)) p l f other m = record {
  shown = m.fills.host;
  value = m.fills.value;
  signature = m.fills.signature;
  spelled = sym (some_one _ _ m.at);
  presents = m.presents refl refl;
}
server_reply_is config host (suc (suc (suc zero))) p l f other m = absurd (other (ap message_type (sym (some_one newkeys p m.at))))
server_reply_is config host (suc (suc (suc (suc n)))) p l f other m = absurd (let e : None ≡ Some p = m.at in cc)

-- ---- KEXINIT and NEWKEYS

abbrev kexinit_lists : Offers → List ℕ
kexinit_lists o = name_lists (advertised_lists o) kexinit_end

kexinit_behind : (o : Offers) (cookie : List ℕ) → length cookie ≡ 16 → drop 17 (kexinit o cookie) ≡ kexinit_lists o
unfolding kexinit
kexinit_behind o cookie c = subst (λ n. drop n (cookie ++ name_lists (advertised_lists o) kexinit_end) ≡ name_lists (advertised_lists o) kexinit_end) c (drop-append_seam cookie (name_lists (advertised_lists o) kexinit_end))

kexinit_of : (o : Offers) (p cookie lists : List ℕ) → lists ≡ kexinit_lists o → p ≡ 20 ∷ (cookie ++ lists) → p ≡ kexinit o cookie
unfolding kexinit
kexinit_of o p cookie lists l e = e ∙ ap (λ t. 20 ∷ (cookie ++ t)) l

kexinit_long : (o : Offers) (cookie : List ℕ) → length cookie ≡ 16 → length (kexinit o cookie) ≡ 17 + length (kexinit_lists o)
unfolding kexinit
kexinit_long o cookie c = omega (arith, length-append cookie (name_lists (advertised_lists o) kexinit_end), c)

kexinit_typed : (o : Offers) (cookie : List ℕ) → message_type (kexinit o cookie) ≡ 20
unfolding kexinit
kexinit_typed o cookie = refl

same_shape : (o : Offers) (cookie p : List ℕ) → length cookie ≡ 16 → length p ≡ length (kexinit o cookie) → drop 17 p ≡ drop 17 (kexinit o cookie) → message_type p ≡ 20 → (c : List ℕ) × (length c ≡ 16) × (p ≡ kexinit o c)
same_shape o cookie [] c l b t = absurd (let z : 0 ≡ length (kexinit o cookie) = l in omega (arith, z, kexinit_long o cookie c))
same_shape o cookie (x ∷ p) c l b t =
    let enough : 16 ≤ length p = (let z : suc (length p) ≡ length (kexinit o cookie) = l in omega (arith, z, kexinit_long o cookie c)) in
    let parts : x ∷ p ≡ 20 ∷ (take 16 p ++ drop 16 p) = ap (λ y. y ∷ p) (let z : x ≡ 20 = t in z) ∙ ap (λ q. 20 ∷ q) (sym (take-append-drop 16 p)) in
    (take 16 p, length-take-le 16 p enough, kexinit_of o (x ∷ p) (take 16 p) (drop 16 p) ((let z : drop 16 p ≡ drop 17 (kexinit o cookie) = b in z) ∙ kexinit_behind o cookie c) parts)

first_message : (side : Side) (config : Config) (kind : Bool) (f : Fills) → slice_get (messages side config kind f) 0 ≡ Some (kexinit (offers_of side config) f.cookie)
first_message Client config false f = refl
first_message Client config true f = refl
first_message Server config false f = refl
first_message Server config true f = refl

not_reply : (kind : Bool) → 0 ≡ reply_place kind → ⊥
not_reply true e = omega (arith, e)
not_reply false e = omega (arith, e)

pub kexinit_formed : (side : Side) (config : Config) (kind : Bool) (host : Option (List ℕ)) (cookie own p : List ℕ) → length cookie ≡ 16 → own ≡ kexinit (offers_of side config) cookie → IsSameKexinit own p → IsMessageAt side config kind host 0 p
kexinit_formed side config kind host cookie own p c e s =
    let r = same_shape (offers_of side config) cookie p c (s.long ∙ ap length e) (s.behind ∙ ap (λ t. drop 17 t) e) s.typed in
    record {
      fills = blank r.0;
      at = first_message side config kind (blank r.0) ∙ ap Some (sym r.2);
      cookie = r.1;
      presents = λ q f. absurd (not_reply kind f);
    }

pub kexinit_is : (side : Side) (config : Config) (kind : Bool) (host : Option (List ℕ)) (cookie own p : List ℕ) → length cookie ≡ 16 → own ≡ kexinit (offers_of side config) cookie → IsMessageAt side config kind host 0 p → IsSameKexinit own p
kexinit_is side config kind host cookie own p c e m =
    let is : p ≡ kexinit (offers_of side config) m.fills.cookie = sym (some_one _ _ (sym (first_message side config kind m.fills) ∙ m.at)) in
    record {
      long = ap length is ∙ (kexinit_long (offers_of side config) m.fills.cookie m.cookie ∙ (sym (kexinit_long (offers_of side config) cookie c) ∙ ap length (sym e)));
      behind = ap (λ t. drop 17 t) is ∙ (kexinit_behind (offers_of side config) m.fills.cookie m.cookie ∙ (sym (kexinit_behind (offers_of side config) cookie c) ∙ ap (λ t. drop 17 t) (sym e)));
      typed = ap message_type is ∙ kexinit_typed (offers_of side config) m.fills.cookie;
    }

newkeys_at : (side : Side) (config : Config) (kind : Bool) (f : Fills) (k : ℕ) → slice_get (order side kind) k ≡ Some 21 → (slice_get (messages side config kind f) k ≡ Some newkeys) × (k ≡ suc (reply_place kind))
newkeys_at Client config false f zero e = absurd (omega (arith, some_one 20 21 e))
newkeys_at Client config false f (suc zero) e = absurd (omega (arith, some_one 30 21 e))
newkeys_at Client config false f (suc (suc zero)) e = (refl, refl)
newkeys_at Client config false f (suc (suc (suc n))) e = absurd (let p : None ≡ Some 21 = e in cc)
newkeys_at Client config true f zero e = absurd (omega (arith, some_one 20 21 e))
newkeys_at Client config true f (suc zero) e = absurd (omega (arith, some_one 34 21 e))
newkeys_at Client config true f (suc (suc zero)) e = absurd (omega (arith, some_one 32 21 e))
newkeys_at Client config true f (suc (suc (suc zero))) e = (refl, refl)
newkeys_at Client config true f (suc (suc (suc (suc n)))) e = absurd (let p : None ≡ Some 21 = e in cc)
newkeys_at Server config false f zero e = absurd (omega (arith, some_one 20 21 e))
newkeys_at Server config false f (suc zero) e = absurd (omega (arith, some_one 31 21 e))
newkeys_at Server config false f (suc (suc zero)) e = (refl, refl)
newkeys_at Server config false f (suc (suc (suc n))) e = absurd (let p : None ≡ Some 21 = e in cc)
newkeys_at Server config true f zero e = absurd (omega (arith, some_one 20 21 e))
newkeys_at Server config true f (suc zero) e = absurd (omega (arith, some_one 31 21 e))
newkeys_at Server config true f (suc (suc zero)) e = absurd (omega (arith, some_one 33 21 e))
newkeys_at Server config true f (suc (suc (suc zero))) e = (refl, refl)
newkeys_at Server config true f (suc (suc (suc (suc n)))) e = absurd (let p : None ≡ Some 21 = e in cc)

one_byte : (p : List ℕ) (t : ℕ) → length p ≡ 1 → message_type p ≡ t → p ≡ t ∷ []
one_byte [] t l e = absurd (omega (arith, l))
one_byte (x ∷ []) t l e = ap (λ y. y ∷ []) e
one_byte (x ∷ y ∷ p) t l e = absurd (omega (arith, l))

pub newkeys_formed : (side : Side) (config : Config) (kind : Bool) (host : Option (List ℕ)) (cookie : List ℕ) (k : ℕ) (p : List ℕ) → length cookie ≡ 16 → message_type p ≡ 21 → length p ≡ 1 → slice_get (order side kind) k ≡ Some (message_type p) → IsMessageAt side config kind host k p
newkeys_formed side config kind host cookie k p c t l due =
    let n = newkeys_at side config kind (blank cookie) k (due ∙ ap Some t) in
    record {
      fills = blank cookie;
      at = n.0 ∙ ap Some (sym (one_byte p 21 l t));
      cookie = c;
      presents = λ s e. absurd (omega (arith, e, n.1));
    }

-- of the messages behind the KEXINIT, NEWKEYS alone has its type
pub newkeys_is : (side : Side) (config : Config) (kind : Bool) (host : Option (List ℕ)) (k : ℕ) (p : List ℕ) → 0 < k → message_type p ≡ 21 → IsMessageAt side config kind host k p → length p ≡ 1
newkeys_is side config kind host k p l t m = by side kind k l m.at where
  typed : (q : List ℕ) (n : ℕ) → Some q ≡ Some p → message_type q ≡ n → n ≡ 21
  typed q n e f = sym f ∙ (ap message_type (some_one q p e) ∙ t)

  by : (side : Side) (kind : Bool) (k : ℕ) → 0 < k → slice_get (messages side config kind m.fills) k ≡ Some p → length p ≡ 1
  by side kind zero l e = absurd (omega (arith, l))
  by Client false (suc zero) l e = absurd (omega (arith, typed _ 30 e refl))
  by Client false (suc (suc zero)) l e = ap length (sym (some_one newkeys p e))
  by Client false (suc (suc (suc n))) l e = absurd (let z : None ≡ Some p = e in cc)
  by Client true (suc zero) l e = absurd (omega (arith, typed _ 34 e refl))
  by Client true (suc (suc zero)) l e = absurd (omega (arith, typed _ 32 e refl))
  by Client true (suc (suc (suc zero))) l e = ap length (sym (some_one newkeys p e))
  by Client true (suc (suc (suc (suc n)))) l e = absurd (let z : None ≡ Some p = e in cc)
  by Server false (suc zero) l e = absurd (omega (arith, typed _ 31 e refl))
  by Server false (suc (suc zero)) l e = ap length (sym (some_one newkeys p e))
  by Server false (suc (suc (suc n))) l e = absurd (let z : None ≡ Some p = e in cc)
  by Server true (suc zero) l e = absurd (omega (arith, typed _ 31 e refl))
  by Server true (suc (suc zero)) l e = absurd (omega (arith, typed _ 33 e refl))
  by Server true (suc (suc (suc zero))) l e = ap length (sym (some_one newkeys p e))
  by Server true (suc (suc (suc (suc n)))) l e = absurd (let z : None ≡ Some p = e in cc)

-- ---- by what was tested

pub newkeys_tested : (side : Side) (config : Config) (kind : Bool) (host : Option (List ℕ)) (cookie : List ℕ) (k t : ℕ) (p : List ℕ) → length cookie ≡ 16 → t ≡ message_type p → t ≡ 21 → length p ≡ 1 → slice_get (order side kind) k ≡ Some (message_type p) → IsMessageAt side config kind host k p
newkeys_tested side config kind host cookie k t p c e f l due = newkeys_formed side config kind host cookie k p c (sym e ∙ f) l due

pub one_true : (n : ℕ) → IsTrue (n == 1) → n ≡ 1
one_true n h = grind (arith, nat_tests)

pub one_false : (n : ℕ) → (n == 1) ≡ false → n ≡ 1 → ⊥
one_false n h e = grind (arith, nat_tests)
